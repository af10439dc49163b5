-- What a request goes on with once its work is done refuses nothing; nor does the last entry of a command.
use Rattle.std.proofs.Common.{◌≡◌, ◌⊎◌, inl, inr, ℕ, ◌==◌, Bool, true, false, cond, List, [], ◌∷◌, ◌++◌, Option, Some, None, refl, subst}
use Rattle.std.proofs.lemmas.Option.{same_Some}
use Rattle.object_id.specs.Fields.{zeros}
use Rattle.object_id.specs.declared.oid.Vid.{Vid}
use Rattle.inode.specs.Layout.{Content}
use Rattle.peer_proto.specs.declared.work.ObjWork.{ObjWork}
use Rattle.peer_proto.specs.declared.work.ObjWork.TheVariants as works
use Rattle.vdi_directory.specs.declared.decision.Decision.{Decision}
use Rattle.vdi_directory.specs.declared.effect.Effect.{Effect}
use Rattle.guest_driver.specs.Driver as drivers
use Rattle.guest_driver.specs.Driver.{Driver, DriverStage, InPlace, Fetching, Creating, Entering, Reads, Writes, read_on, write_on}
use Rattle.guest_driver.specs.Driver.{write_piece_on, write_done, driver_on_done}
use Rattle.guest_driver.specs.Pieces.{Piece}
use Rattle.guest_driver.specs.PieceWorks.{Backing, Hole, Own, Inherited, entry_of, backing_of, read_piece, table_with_entry}
use Rattle.disk_check.specs.declared.act.CheckAct.{CheckAct}
use Rattle.disk_check.specs.declared.act.CheckAct.TheVariants as check_acts
use Rattle.vdi_ops.specs.Op as ops
use Rattle.vdi_ops.specs.Op.{Op, OpStage, Asked, Working, Publishing, Answered, Task, Opening, WritingBack, Tagging, Copying, Making}
use Rattle.vdi_ops.specs.Steps.{done_at, task_done, decided_at, op_on_done, on_decision}
use Rattle.sheep_node.specs.Courses.{work_reply}
use Rattle.sheep_node.specs.Changes.{Outcome, ToWork, ToEntry, ToReply, outcome_of_driver, outcome_of_command, outcome_of_check}
use Rattle.overlap_law.specs.PastWords.{is_refusal}
use Rattle.overlap_law.proofs.WorkedCourses.{is_past_first}

-- an outcome refuses nothing
abbrev pub RefusesNothing : Outcome → Type 0
RefusesNothing (ToWork work) = Unit {0}
RefusesNothing (ToEntry entry) = Unit {0}
RefusesNothing (ToReply reply) = is_refusal reply ≡ false

pub read_refuses_nothing : (inode : Content) (told : List ℕ) (pieces : List Piece)
    → RefusesNothing (outcome_of_driver (read_on inode told pieces).act)
unfolding read_on
read_refuses_nothing inode told [] = refl
read_refuses_nothing inode told (piece ∷ rest) =
    by_entry (entry_of inode piece == 0) (read_refuses_nothing inode (told ++ zeros piece.size) rest)
  where
    by_entry : (b : Bool) → RefusesNothing (outcome_of_driver (read_on inode (told ++ zeros piece.size) rest).act)
        → RefusesNothing (outcome_of_driver (cond b (read_on inode (told ++ zeros piece.size) rest)
        (drivers.work_step inode (Reads told piece rest) (read_piece inode piece (entry_of inode piece)))).act)
    by_entry true behind = behind
    by_entry false behind = tt

pub write_refuses_nothing : (inode : Content) (payload : List ℕ) (pieces : List Piece)
    → RefusesNothing (outcome_of_driver (write_on inode payload pieces).act)
write_refuses_nothing inode payload [] = refl
write_refuses_nothing inode payload (piece ∷ rest) = by_backing (backing_of inode piece)
  where
    by_backing : (backing : Backing) → RefusesNothing (outcome_of_driver (write_piece_on inode payload piece rest backing).act)
    by_backing Hole = tt
    by_backing Own = tt
    by_backing (Inherited vid) = tt

stage_refuses_nothing : (inode : Content) (bytes payload : List ℕ) (piece : Piece) (rest : List Piece) (stage : DriverStage)
    → RefusesNothing (outcome_of_driver (write_done inode bytes payload piece rest stage).act)
stage_refuses_nothing inode bytes payload piece rest InPlace = write_refuses_nothing inode payload rest
stage_refuses_nothing inode bytes payload piece rest Fetching = tt
stage_refuses_nothing inode bytes payload piece rest Creating = tt
stage_refuses_nothing inode bytes payload piece rest Entering = write_refuses_nothing (table_with_entry inode piece) payload rest

pub driver_refuses_nothing : (inode : Content) (bytes : List ℕ) (driver : Driver) (step : drivers.DriverStep)
    → driver_on_done inode bytes driver ≡ Some step
    → RefusesNothing (outcome_of_driver step.act)
unfolding driver_on_done
driver_refuses_nothing inode bytes (Reads told piece rest) step is =
    subst (λ (s : drivers.DriverStep). RefusesNothing (outcome_of_driver s.act)) (same_Some (read_on inode (told ++ bytes) rest) step is)
    (read_refuses_nothing inode (told ++ bytes) rest)
driver_refuses_nothing inode bytes (Writes payload stage piece rest) step is =
    subst (λ (s : drivers.DriverStep). RefusesNothing (outcome_of_driver s.act))
    (same_Some (write_done inode bytes payload piece rest stage) step is) (stage_refuses_nothing inode bytes payload piece rest stage)
driver_refuses_nothing inode bytes drivers.Answered step is = absurd (cc (is))

task_refuses_nothing : (op : Op) (vid : Vid) (bytes : List ℕ) (task : Task)
    → RefusesNothing (outcome_of_command (task_done op vid bytes task).act)
task_refuses_nothing op vid bytes (Opening true ids header) = refl
task_refuses_nothing op vid bytes (Opening false ids header) = tt
task_refuses_nothing op vid bytes (WritingBack inode) = refl
task_refuses_nothing op vid bytes (Tagging old inode) = tt
task_refuses_nothing op vid bytes (Copying ids header) = tt
task_refuses_nothing op vid bytes (Making entry opened) = tt

pub command_refuses_nothing : (bytes : List ℕ) (op : Op) (step : ops.OpStep) → op_on_done bytes op ≡ Some step
    → RefusesNothing (outcome_of_command step.act)
unfolding op_on_done
command_refuses_nothing bytes op step is = by_stage op.stage is
  where
    by_stage : (stage : OpStage) → done_at bytes op stage ≡ Some step → RefusesNothing (outcome_of_command step.act)
    by_stage (Asked entry) is = absurd (cc (is))
    by_stage (Working vid task) is =
        subst (λ (s : ops.OpStep). RefusesNothing (outcome_of_command s.act)) (same_Some (task_done op vid bytes task) step is)
        (task_refuses_nothing op vid bytes task)
    by_stage (Publishing entry opened) is = absurd (cc (is))
    by_stage (Answered change) is = absurd (cc (is))

abbrev OptionRefusesNothing : Option ops.OpStep → Type 0
OptionRefusesNothing None = Unit {0}
OptionRefusesNothing (Some step) = RefusesNothing (outcome_of_command step.act)

-- a command whose first entry is not the one that was decided
decision_refuses_nothing : (known : List Effect) (disk : Option Content) (decision : Decision) (op : Op) (stage : OpStage)
    (step : ops.OpStep)
    → decided_at known disk decision op stage ≡ Some step → (is_past_first stage ≡ false) ⊎ RefusesNothing (outcome_of_command step.act)
decision_refuses_nothing known disk decision op (Asked entry) step is = inl refl
decision_refuses_nothing known disk decision op (Working vid task) step is = absurd (cc (is))
decision_refuses_nothing known disk decision op (Publishing entry opened) step is =
    inr (subst OptionRefusesNothing is refl)
decision_refuses_nothing known disk decision op (Answered change) step is = absurd (cc (is))

pub entry_refuses_nothing : (known : List Effect) (disk : Option Content) (decision : Decision) (op : Op) (step : ops.OpStep)
    → on_decision known disk decision op ≡ Some step
    → (is_past_first op.stage ≡ false) ⊎ RefusesNothing (outcome_of_command step.act)
unfolding on_decision
entry_refuses_nothing known disk decision op step is = decision_refuses_nothing known disk decision op op.stage step is

pub check_refuses_nothing : (act : CheckAct) → RefusesNothing (outcome_of_check act)
check_refuses_nothing (check_acts.Work work) = tt
check_refuses_nothing (check_acts.Reply found) = refl

pub work_refuses_nothing : (work : ObjWork) (bytes : List ℕ) → is_refusal (work_reply work bytes) ≡ false
work_refuses_nothing (works.Create oid policy size offset written) bytes = refl
work_refuses_nothing (works.Write oid policy offset written) bytes = refl
work_refuses_nothing (works.Read oid policy offset size) bytes = refl
work_refuses_nothing (works.ReadAll oid policy size) bytes = refl
