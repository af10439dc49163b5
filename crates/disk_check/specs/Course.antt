-- The course of a check: all its acts in their order, and what it tells in the end.
use Rattle.std.specs.Prelude.{ℕ, List, [], ◌∷◌, length, map, filter, Option, Some, None}
use Rattle.object_id.specs.Oid.{object_number}
use Rattle.inode.specs.Layout.{Content}
use Rattle.peer_proto.specs.declared.guest.Checked.{Checked}
use Rattle.disk_check.specs.declared.act.CheckAct.{CheckAct}
use Rattle.disk_check.specs.declared.act.CheckAct.TheVariants.{Work}
use Rattle.disk_check.specs.Table.{own_indexes, inherited_count}
use Rattle.disk_check.specs.Value.{pieces_in, value_of, differ}
use Rattle.disk_check.specs.Check.{CheckStep, begun_check, read_copies, write_value, check_on_done}

-- the acts from a step on, where the works give these bytes, one after the other
unfoldable pub check_acts_from : Option CheckStep → List (List ℕ) → List CheckAct
check_acts_from None answers = []
check_acts_from (Some step) [] = step.act ∷ []
check_acts_from (Some step) (bytes ∷ later) = step.act ∷ check_acts_from (check_on_done bytes step.check) later

-- an own object is read from all targets, and the value of what they gave is written over it
abbrev pub object_acts : Content → (ℕ → List ℕ) → ℕ → List CheckAct
object_acts inode given index =
    Work (read_copies (begun_check inode) index)
    ∷ Work (write_value (begun_check inode) index (value_of inode.spec.policy (pieces_in inode.spec (given index)))) ∷ []

-- what these works give
abbrev pub object_answers : (ℕ → List ℕ) → ℕ → List (List ℕ)
object_answers given index = given index ∷ [] ∷ []

-- the own objects among these whose pieces differed
abbrev pub differed_among : Content → (ℕ → List ℕ) → List ℕ → List ℕ
differed_among inode given indexes =
    map (object_number inode.vid) (filter (λ index. differ inode.spec.policy (pieces_in inode.spec (given index))) indexes)

-- what a check tells: how many objects are the disk's own, how many another disk's, and which own ones differed
abbrev pub findings : Content → (ℕ → List ℕ) → Checked
findings inode given = record {
  objects = length (own_indexes inode);
  inherited = inherited_count inode;
  differed = differed_among inode given (own_indexes inode);
}
