-- A check: where it is, and its steps, from the first own object to the answer, by two works on each.
use Rattle.std.specs.Prelude.{ℕ, ◌+◌, ◌^◌, ◌<◌, ◌≤◌, ◌==◌, not, true, false, Bool, length, All, List, [], ◌∷◌, ◌++◌, Option, Some, None}
use Rattle.std.specs.Prelude.{if◌then◌else◌}
use Rattle.object_id.specs.declared.entry.VdiSpec.{VdiSpec}
use Rattle.std.specs.List.Sorted.{IsStrictlyIncreasing}
use Rattle.object_id.specs.declared.limits.TheConstants.{OBJECTS_MAX}
use Rattle.object_id.specs.Oid.{IsVid, object_number}
use Rattle.object_id.specs.Spec.{IsSpec}
use Rattle.inode.specs.Layout.{Content}
use Rattle.peer_proto.specs.declared.guest.Checked.{Checked}
use Rattle.peer_proto.specs.declared.work.ObjWork.{ObjWork}
use Rattle.peer_proto.specs.declared.work.ObjWork.TheVariants.{Write, ReadAll}
use Rattle.peer_proto.specs.Work.{IsWork}
use Rattle.disk_check.specs.declared.act.CheckAct.{CheckAct}
use Rattle.disk_check.specs.declared.act.CheckAct.TheVariants.{Work, Reply}
use Rattle.disk_check.specs.Table.{own_indexes, inherited_count}
use Rattle.disk_check.specs.Value.{all_bytes, pieces_in, value_of, differ}

-- what a check waits for
pub data CheckStage : Type 0 where
  -- the pieces of the own object of an index, from all targets; the indexes of the own objects behind it
  Comparing : ℕ → List ℕ → CheckStage
  -- the write of its value
  WritingBack : List ℕ → CheckStage
  -- nothing: it has told what it found
  Answered : CheckStage

-- a check of the disk of an id, made so: what it found so far, and what it waits for
pub record Check : Type 0 where
  pub vid : ℕ
  pub spec : VdiSpec
  pub found : Checked
  pub stage : CheckStage

-- what a step leads to, and what is to be done
pub record CheckStep : Type 0 where
  pub check : Check
  pub act : CheckAct

-- all targets are asked for what they keep of an own object
abbrev pub read_copies : Check → ℕ → ObjWork
read_copies check index = ReadAll (object_number check.vid index) check.spec.policy (2 ^ check.spec.shift)

-- a value is written over the whole of it
abbrev pub write_value : Check → ℕ → List ℕ → ObjWork
write_value check index value = Write (object_number check.vid index) check.spec.policy 0 value

-- what was found, with one own object more
abbrev pub with_object : ℕ → Bool → Checked → Checked
with_object oid differed found =
    record found { objects = found.objects + 1; differed = found.differed ++ (if differed then oid ∷ [] else []) }

-- the check goes on with the first of these own objects, and where none is left tells what it found
abbrev pub check_on : Check → List ℕ → CheckStep
check_on check [] = record { check = record check { stage = Answered }; act = Reply check.found }
check_on check (index ∷ later) =
    record { check = record check { stage = Comparing index later }; act = Work (read_copies check index) }

-- what an act begins is a work that a gateway takes: the answer begins none
abbrev pub CheckBeginsWork : CheckAct → Type 0
CheckBeginsWork (Work work) = IsWork work
CheckBeginsWork (Reply found) = Unit {0}

-- a check begins: nothing was found yet but the entries that are another disk's
abbrev pub begun_check : Content → Check
begun_check inode = record {
  vid = inode.vid;
  spec = inode.spec;
  found = record { objects = 0; inherited = inherited_count inode; differed = [] };
  stage = Answered;
}

-- the first step of the check of an open disk
unfoldable pub begin_check : Content → CheckStep
begin_check inode = check_on (begun_check inode) (own_indexes inode)

-- the pieces of an own object came: it is counted, and its value is written back, whether they differ or not
abbrev pub write_back_step : Check → ℕ → List ℕ → List (List ℕ) → CheckStep
write_back_step check index later pieces = record {
  check = record check {
    found = with_object (object_number check.vid index) (differ check.spec.policy pieces) check.found;
    stage = WritingBack later;
  };
  act = Work (write_value check index (value_of check.spec.policy pieces));
}

-- a work is done, and gave these bytes
abbrev pub check_done_at : List ℕ → Check → CheckStage → Option CheckStep
check_done_at bytes check (Comparing index later) = Some (write_back_step check index later (pieces_in check.spec bytes))
check_done_at bytes check (WritingBack later) = Some (check_on check later)
check_done_at bytes check Answered = None

-- the work that a check waits for is done; none where it waits for none
unfoldable pub check_on_done : List ℕ → Check → Option CheckStep
check_on_done bytes check = check_done_at bytes check check.stage

-- whether a check compares an own object
abbrev pub is_comparing_at : CheckStage → Bool
is_comparing_at (Comparing index later) = true
is_comparing_at (WritingBack later) = false
is_comparing_at Answered = false

abbrev pub is_comparing : Check → Bool
is_comparing check = is_comparing_at check.stage

-- the index of the own object that a check compares, with the value that it writes over that by the bytes that came; none where it
-- compares none
abbrev pub value_at_stage : List ℕ → VdiSpec → CheckStage → Option (ℕ × List ℕ)
value_at_stage bytes spec (Comparing index later) = Some (index, value_of spec.policy (pieces_in spec bytes))
value_at_stage bytes spec (WritingBack later) = None
value_at_stage bytes spec Answered = None

abbrev pub value_written : List ℕ → Check → Option (ℕ × List ℕ)
value_written bytes check = value_at_stage bytes check.spec check.stage

-- how many bytes a work gives that is waited for
abbrev pub bytes_at : VdiSpec → CheckStage → Option ℕ
bytes_at spec (Comparing index later) = Some (all_bytes spec)
bytes_at spec (WritingBack later) = Some 0
bytes_at spec Answered = None

-- how many bytes the work gives that a check waits for; none where it waits for none
abbrev pub check_bytes_wanted : Check → Option ℕ
check_bytes_wanted check = bytes_at check.spec check.stage

-- the own objects that a check hasn't read yet
abbrev pub later_of : CheckStage → List ℕ
later_of (Comparing index later) = later
later_of (WritingBack later) = later
later_of Answered = []

-- the own objects that a check hasn't compared yet
abbrev pub left_of : CheckStage → List ℕ
left_of (Comparing index later) = index ∷ later
left_of (WritingBack later) = later
left_of Answered = []

-- what holds of every check: its disk is one, and of the own objects that are left, by ascending index, each stands behind
-- all that differed
pub record IsCheck (check : Check) : Type 0 where
  pub vid : IsVid check.vid
  pub spec : IsSpec check.spec
  pub ascending : IsStrictlyIncreasing (left_of check.stage)
  pub within : All (λ index. index < OBJECTS_MAX) (left_of check.stage)
  pub behind : All (λ oid. All (λ index. oid < object_number check.vid index) (left_of check.stage)) check.found.differed
  pub count : check.found.objects + length (left_of check.stage) ≤ OBJECTS_MAX

-- whether going on takes memory: to read the next own object doesn't, nor to tell that none differed
abbrev pub memory_is_taken_at : Checked → CheckStage → Bool
memory_is_taken_at found (Comparing index later) = true
memory_is_taken_at found (WritingBack []) = not (length found.differed == 0)
memory_is_taken_at found (WritingBack (index ∷ later)) = false
memory_is_taken_at found Answered = false

abbrev pub takes_memory : Check → Bool
takes_memory check = memory_is_taken_at check.found check.stage
