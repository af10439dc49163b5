-- What a name stands for.
use Rattle.std.specs.Prelude.{ℕ, ◌+◌, ◌-◌, ◌^◌, ◌==◌, ◌||◌, not, nat_eq, nat_lt, Bool, List, [], ◌∷◌, ◌++◌, length, min, filter, Option}
use Rattle.std.specs.Prelude.{None, Some, is_some, if◌then◌else◌}
use Rattle.std.specs.Cmp.Lexicographic.{pointwise}
use Rattle.std.specs.List.{find}
use Rattle.std.specs.Option.{option_map}
use Rattle.object_id.specs.declared.oid.Vid.{Vid}
use Rattle.vdi_directory.specs.declared.live_snapshot.LiveSnapshot.{LiveSnapshot}

-- the published working disk, the live snapshots in the order in which they were taken, and how many were ever taken
pub record Name : Type 0 where
  pub working : Option Vid
  pub live_snapshots : List LiveSnapshot
  pub taken : ℕ

-- a name that nobody used
abbrev pub no_disk : Name
no_disk = record { working = None; live_snapshots = []; taken = 0 }

-- whether two byte strings are the same
abbrev pub is_same_bytes : List ℕ → List ℕ → Bool
is_same_bytes a b = pointwise nat_eq a b

-- a count that stands still at the end of 32 bits
abbrev pub count_risen : ℕ → ℕ
count_risen n = min (n + 1) (2 ^ 32 - 1)

abbrev pub has_tag : List ℕ → LiveSnapshot → Bool
has_tag tag live_snapshot = is_same_bytes live_snapshot.tag tag

-- the live snapshot with the tag
abbrev pub snapshot_with_tag : List ℕ → Name → Option Vid
snapshot_with_tag tag name = option_map (λ (live_snapshot : LiveSnapshot). live_snapshot.vid) (find (has_tag tag) name.live_snapshots)

-- whether a live published disk or snapshot has the name
abbrev pub is_live_name : Name → Bool
is_live_name name = is_some name.working || nat_lt 0 (length name.live_snapshots)

-- the name with another working disk
abbrev pub name_with_working : Vid → Name → Name
name_with_working vid name = record name { working = Some vid }

-- the name once its disk `old` is a snapshot, and `vid` its working disk
abbrev pub name_with_snapshot : Vid → Vid → List ℕ → Name → Name
name_with_snapshot old vid tag name = record {
  working = Some vid;
  live_snapshots = name.live_snapshots ++ record { vid = old; tag = tag } ∷ [];
  taken = count_risen name.taken;
}

abbrev pub unless : Vid → Option Vid → Option Vid
unless vid None = None
unless vid (Some working) = if working.0 == vid.0 then None else Some working

-- the name without a disk
abbrev pub name_without : Vid → Name → Name
name_without vid name = record name {
  working = unless vid name.working;
  live_snapshots = filter (λ (live_snapshot : LiveSnapshot). not (live_snapshot.vid.0 == vid.0)) name.live_snapshots;
}
