-- What the tree of names has of a name: its live snapshots stand by tag, in no order.
use Rattle.std.specs.Prelude.{ℕ, List, Option, None, Some, if◌then◌else◌}
use Rattle.std.specs.declared.vec.Vec.{Vec}
use Rattle.std.specs.declared.alloc.Global.{Global}
use Rattle.std.specs.Ordering.{nat_cmp}
use Rattle.std.specs.Cmp.Lexicographic.{slice_cmp}
use Rattle.std.specs.BTreeMap.{BTreeMap, get_by}
use Rattle.object_id.specs.declared.oid.Vid.{Vid}
use Rattle.vdi_directory.specs.declared.named.Named.{Named}
use Rattle.vdi_directory.specs.declared.effect.Effect.{Effect}
use Rattle.vdi_directory.specs.declared.effect.Effect.TheVariants.{Published, Snapped, Deleted}
use Rattle.vdi_directory.specs.Names.{Name, is_same_bytes, count_risen, snapshot_with_tag, unless}

-- what a name stands for, asked by tag: the working disk, the live snapshot with a tag, and how many were ever taken
pub record Standing : Type 0 where
  pub working : Option Vid
  pub tagged : List ℕ → Option Vid
  pub taken : ℕ

abbrev pub no_standing : Standing
no_standing = record { working = None; tagged = λ tag. None; taken = 0 }

abbrev pub standing_of : Name → Standing
standing_of name = record { working = name.working; tagged = λ tag. snapshot_with_tag tag name; taken = name.taken }

-- the disk that a tree of tags has for a tag
abbrev pub tag_in : BTreeMap (Vec ℕ Global) Vid → List ℕ → Option Vid
tag_in tags tag = get_by (λ (key : Vec ℕ Global). slice_cmp nat_cmp tag key.items) tags

abbrev pub standing_in : Named → Standing
standing_in named = record { working = named.working; tagged = tag_in named.tags; taken = named.taken }

abbrev pub standing_or_none : Option Named → Standing
standing_or_none None = no_standing
standing_or_none (Some named) = standing_in named

abbrev pub name_row_of : BTreeMap (Vec ℕ Global) Named → List ℕ → Option Named
name_row_of rows name = get_by (λ (key : Vec ℕ Global). slice_cmp nat_cmp name key.items) rows

abbrev pub name_in : BTreeMap (Vec ℕ Global) Named → List ℕ → Standing
name_in rows name = standing_or_none (name_row_of rows name)

abbrev pub standing_with_working : Vid → Standing → Standing
standing_with_working vid now = record { working = Some vid; tagged = now.tagged; taken = now.taken }

-- the disk `old` is a snapshot with a tag that none had, and `vid` the working disk
abbrev pub standing_with_snapshot : Vid → Vid → List ℕ → Standing → Standing
standing_with_snapshot old vid tag now = record {
  working = Some vid;
  tagged = λ other. if is_same_bytes tag other then Some old else now.tagged other;
  taken = count_risen now.taken;
}

abbrev pub standing_without : Vid → Standing → Standing
standing_without vid now = record { working = unless vid now.working; tagged = λ tag. unless vid (now.tagged tag); taken = now.taken }

-- what a name stands for, once an effect was made
abbrev pub standing_after : List ℕ → Standing → Effect → Standing
standing_after name now (Published vid of) = if is_same_bytes of name then standing_with_working vid now else now
standing_after name now (Snapped snap) =
    if is_same_bytes snap.name name then standing_with_snapshot snap.old snap.vid snap.tag now else now
standing_after name now (Deleted vid of) = if is_same_bytes of name then standing_without vid now else now
standing_after name now _ = now
