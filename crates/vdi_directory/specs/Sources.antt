-- What a reserved id is to become, as tests.
use Rattle.std.specs.Prelude.{ℕ, ◌==◌, not, Bool, false, List, Option, None, Some, if◌then◌else◌}
use Rattle.object_id.specs.declared.oid.Vid.{Vid}
use Rattle.vdi_directory.specs.declared.effect.Source.{Source}
use Rattle.vdi_directory.specs.declared.effect.Source.TheVariants.{Fresh, Snapshot, Clone}

-- whether an id is published by a `Clone`, or else by a `Publish`
abbrev pub is_for : Bool → Source → Bool
is_for clones Fresh = not clones
is_for clones (Snapshot old tag) = false
is_for clones Clone = clones

-- the tag that the disk gets, where the id is to be the working disk in its place
abbrev pub tag_for : Vid → Source → Option (List ℕ)
tag_for old Fresh = None
tag_for old (Snapshot of tag) = if of.0 == old.0 then Some tag else None
tag_for old Clone = None
