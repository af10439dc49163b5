-- What a driver, a command or a check comes to is valid, if its disk and what it knows of disks are.
use Rattle.std.proofs.Common.{length, ◌≡◌, ℕ, ◌==◌, Bool, true, false, cond, List, [], ◌∷◌, ◌++◌, Option, Some, None, IfSome, option_map, option_and_then, refl, subst}
use Rattle.std.proofs.lemmas.Option.{same_Some}
use Rattle.object_id.specs.Fields.{zeros}
use Rattle.object_id.specs.Policy.{IsPolicy}
use Rattle.object_id.specs.declared.oid.Vid.{Vid}
use Rattle.object_id.specs.declared.node.NodeId.{NodeId}
use Rattle.object_id.specs.declared.cause.Cause.{Cause}
use Rattle.object_id.specs.declared.entry.Entry.{Entry}
use Rattle.object_id.specs.declared.entry.Entry.TheVariants.{Format, Join, Leave, Reweight, Recovered, Reserve, Publish, Clone, Snapshot, Delete, Lock, Unlock}
use Rattle.object_id.specs.declared.entry.Origin.{Origin}
use Rattle.object_id.specs.declared.entry.Origin.TheVariants.{Fresh, SnapshotOf, CloneOf}
use Rattle.epoch_log.specs.Appending.{IsReservable}
use Rattle.inode.specs.Layout.{Content}
use Rattle.peer_proto.specs.declared.guest.DiskAsk.{DiskAsk}
use Rattle.peer_proto.specs.declared.guest.DiskAsk.TheVariants as asks
use Rattle.peer_proto.specs.declared.guest.VdiAsk.{VdiAsk}
use Rattle.peer_proto.specs.declared.guest.VdiAsk.TheVariants as commands
use Rattle.vdi_directory.specs.declared.header.Header.{Header}
use Rattle.vdi_directory.specs.declared.effect.Effect.{Effect}
use Rattle.vdi_directory.specs.declared.decision.Decision.{Decision}
use Rattle.vdi_directory.specs.declared.decision.Decision.TheVariants as decisions
use Rattle.vdi_directory.specs.Effects.{header_of}
use Rattle.vdi_directory.specs.Chains.{chain_of}
use Rattle.guest_driver.specs.declared.disk.Disk.{Disk}
use Rattle.guest_driver.specs.Pieces.{Piece, pieces}
use Rattle.guest_driver.specs.PieceWorks.{Backing, Hole, Own, Inherited, entry_of, backing_of, read_piece, table_with_entry}
use Rattle.guest_driver.specs.Refusals.{refusal_on}
use Rattle.guest_driver.specs.Driver as drivers
use Rattle.guest_driver.specs.Driver.{DriverStage, InPlace, Fetching, Creating, Entering, Driver, Reads, Writes, DriverStep, work_step, read_on, write_piece_on, write_on, begin_unless_refused, begin_driver, write_done, driver_on_done}
use Rattle.vdi_ops.specs.Entries.{IsVdiAsk, first_entry}
use Rattle.vdi_ops.specs.Op.{Task, Opening, WritingBack, Tagging, Copying, Making, OpStage, Asked, Working, Publishing, Answered, Op, OpStep}
use Rattle.vdi_ops.specs.Steps.{first_step, begin_command, tag_step, copy_step, change_without_grant, step_after_grant, step_after_decision, decided_at, on_decision, task_done, done_at, op_on_done}
use Rattle.disk_check.specs.Table.{own_indexes}
use Rattle.disk_check.specs.Check as checks
use Rattle.disk_check.specs.Check.{Check, CheckStage, CheckStep, Comparing, WritingBack as Writing, check_on, begun_check, begin_check, check_done_at, check_on_done}
use Rattle.sheep_node.specs.Changes.{Outcome, ToWork, ToEntry, ToReply, outcome_of_driver, outcome_of_command, outcome_of_check}
use Rattle.sheep_node.specs.ValidDisks.{IsValidInode, IsValidHeader, IsValidTask, IsValidChange, IsValidStage, disk_validity}
use Rattle.sheep_node.proofs.ValidityChanges.{IsValidOutcomeBy}

-- a work that is come to is by a policy that there may be, and an entry may stand in the log
abbrev pub IsValidOutcome : Outcome → Type 0
IsValidOutcome = IsValidOutcomeBy disk_validity

-- what is given is so
pub given : {X : Type 0} (P : X → Type 0) {x y : X} → Some x ≡ Some y → P x → P y
given P {x} {y} same is = subst P (same_Some x y same) is

-- ---- a read or write

abbrev pub IsValidDriverStep : DriverStep → Type 0
IsValidDriverStep step = IsValidInode step.inode × IsValidOutcome (outcome_of_driver step.act)

module _ (inode : Content) (is : IsValidInode inode) where
  read_has : (told : List ℕ) (rest : List Piece) → IsValidDriverStep (read_on inode told rest)
  unfolding read_on
  read_has told [] = (is, tt)
  read_has told (piece ∷ rest) = by_hole (entry_of inode piece == 0) (read_has (told ++ zeros piece.size) rest)
    where
      by_hole : (b : Bool) → IsValidDriverStep (read_on inode (told ++ zeros piece.size) rest)
          → IsValidDriverStep (cond b (read_on inode (told ++ zeros piece.size) rest)
          (work_step inode (Reads told piece rest) (read_piece inode piece (entry_of inode piece))))
      by_hole true later = later
      by_hole false later = (is, is.0)

  piece_has : (payload : List ℕ) (piece : Piece) (rest : List Piece) (backing : Backing)
      → IsValidDriverStep (write_piece_on inode payload piece rest backing)
  piece_has payload piece rest Hole = (is, is.0)
  piece_has payload piece rest Own = (is, is.0)
  piece_has payload piece rest (Inherited vid) = (is, is.0)

  write_has : (payload : List ℕ) (rest : List Piece) → IsValidDriverStep (write_on inode payload rest)
  write_has payload [] = (is, tt)
  write_has payload (piece ∷ rest) = piece_has payload piece rest (backing_of inode piece)

  begun_has : (ask : DiskAsk) (cause : Option Cause) → IsValidDriverStep (begin_unless_refused inode ask cause)
  begun_has ask (Some cause) = (is, tt)
  begun_has (asks.Read offset size) None = read_has [] (pieces inode.spec.shift offset size)
  begun_has (asks.Write offset payload) None = write_has payload (pieces inode.spec.shift offset (length payload))

pub driver_begins-valid : (disk : Disk) (ask : DiskAsk) → IsValidInode disk.inode → IsValidDriverStep (begin_driver disk ask)
unfolding begin_driver
driver_begins-valid disk ask is = begun_has disk.inode is ask (refusal_on disk false ask)

write_done-valid : (inode : Content) (bytes payload : List ℕ) (piece : Piece) (rest : List Piece) (stage : DriverStage) → IsValidInode inode
    → IsValidDriverStep (write_done inode bytes payload piece rest stage)
write_done-valid inode bytes payload piece rest InPlace is = write_has inode is payload rest
write_done-valid inode bytes payload piece rest Fetching is = (is, is.0)
write_done-valid inode bytes payload piece rest Creating is = (is, is.0)
write_done-valid inode bytes payload piece rest Entering is = write_has (table_with_entry inode piece) is payload rest

pub driver_goes_on-valid : (inode : Content) (bytes : List ℕ) (driver : Driver) (step : DriverStep) → driver_on_done inode bytes driver ≡ Some step
    → IsValidInode inode → IsValidDriverStep step
unfolding driver_on_done
driver_goes_on-valid inode bytes (Reads told piece rest) step next is =
    given IsValidDriverStep next (read_has inode is (told ++ bytes) rest)
driver_goes_on-valid inode bytes (Writes payload stage piece rest) step next is =
    given IsValidDriverStep next
    (write_done-valid inode bytes payload piece rest stage is)
driver_goes_on-valid inode bytes drivers.Answered step next is = absurd (cc (next))

-- ---- a check

abbrev pub IsValidCheckStep : CheckStep → Type 0
IsValidCheckStep step = IsPolicy step.check.spec.policy × IsValidOutcome (outcome_of_check step.act)

check_on-valid : (check : Check) (left : List ℕ) → IsPolicy check.spec.policy → IsValidCheckStep (check_on check left)
check_on-valid check [] is = (is, tt)
check_on-valid check (index ∷ later) is = (is, is)

pub check_begins-valid : (inode : Content) → IsValidInode inode → IsValidCheckStep (begin_check inode)
unfolding begin_check
check_begins-valid inode is = check_on-valid (begun_check inode) (own_indexes inode) is.0

pub check_goes_on-valid : (bytes : List ℕ) (check : Check) (step : CheckStep) → check_on_done bytes check ≡ Some step → IsPolicy check.spec.policy
    → IsValidCheckStep step
unfolding check_on_done
check_goes_on-valid bytes check step next is = by_stage check.stage next
  where
    by_stage : (stage : CheckStage) → check_done_at bytes check stage ≡ Some step → IsValidCheckStep step
    by_stage (Comparing index later) next = given IsValidCheckStep next (is, is)
    by_stage (Writing later) next = given IsValidCheckStep next (check_on-valid check later is)
    by_stage checks.Answered next = absurd (cc (next))

-- ---- a command

abbrev pub IsValidCommandStep : OpStep → Type 0
IsValidCommandStep step = IsValidStage step.op.stage × IsValidOutcome (outcome_of_command step.act)

-- its first entry may stand in the log, if it is asked as it may be, and what is open is valid
first_reservable : (by : NodeId) (session : ℕ) (disk : Option Content) (ask : VdiAsk) (entry : Entry) → first_entry by session disk ask ≡ Some entry
    → IsVdiAsk ask → IfSome disk IsValidInode → IsReservable entry
first_reservable by session disk (commands.Create name spec) entry first may opened = given IsReservable first may
first_reservable by session disk (commands.Attach name tag) entry first may opened = given IsReservable first tt
first_reservable by session None commands.Close entry first may opened = absurd (cc (first))
first_reservable by session (Some inode) commands.Close entry first may opened = given IsReservable first tt
first_reservable by session None (commands.Snapshot tag) entry first may opened = absurd (cc (first))
first_reservable by session (Some inode) (commands.Snapshot tag) entry first may opened = given IsReservable first (opened.1, may)
first_reservable by session disk (commands.Clone base tag name) entry first may opened = given IsReservable first (may.2, (may.0, may.1))
first_reservable by session disk (commands.Delete name tag) entry first may opened = given IsReservable first tt
first_reservable by session disk commands.Check entry first may opened = absurd (cc (first))

pub command_begins-valid : (by : NodeId) (session : ℕ) (ask : VdiAsk) (disk : Option Content) (step : OpStep)
    → begin_command by session ask disk ≡ Some step → IsVdiAsk ask → IfSome disk IsValidInode → IsValidCommandStep step
unfolding begin_command
command_begins-valid by session ask disk step is may opened = by_entry (first_entry by session disk ask) refl is
  where
    by_entry : (entry : Option Entry) → first_entry by session disk ask ≡ entry → option_map (first_step by session) entry ≡ Some step
        → IsValidCommandStep step
    by_entry None first is = absurd (cc (is))
    by_entry (Some entry) first is = given IsValidCommandStep is (tt, first_reservable by session disk ask entry first may opened)

task_done-valid : (op : Op) (vid : Vid) (bytes : List ℕ) (task : Task) → IsValidTask task → IsValidCommandStep (task_done op vid bytes task)
task_done-valid op vid bytes (Opening true ids header) is = (is, tt)
task_done-valid op vid bytes (Opening false ids header) is = (is, is.0)
task_done-valid op vid bytes (WritingBack inode) is = (is, tt)
task_done-valid op vid bytes (Tagging old inode) is = ((tt, is), is.0)
task_done-valid op vid bytes (Copying ids header) is = ((tt, tt), is.0)
task_done-valid op vid bytes (Making entry opened) is = (is.1, is.0)

pub command_goes_on-valid : (bytes : List ℕ) (op : Op) (step : OpStep) → op_on_done bytes op ≡ Some step → IsValidStage op.stage
    → IsValidCommandStep step
unfolding op_on_done
command_goes_on-valid bytes op step next is = by_stage op.stage next is
  where
    by_stage : (stage : OpStage) → done_at bytes op stage ≡ Some step → IsValidStage stage → IsValidCommandStep step
    by_stage (Asked entry) next is = absurd (cc (next))
    by_stage (Working vid task) next is = given IsValidCommandStep next (task_done-valid op vid bytes task is)
    by_stage (Publishing entry opened) next is = absurd (cc (next))
    by_stage (Answered change) next is = absurd (cc (next))

without_grant-valid : (entry : Entry) → IsValidChange (change_without_grant entry)
without_grant-valid (Format members) = tt
without_grant-valid (Join node zone vnodes) = tt
without_grant-valid (Leave node) = tt
without_grant-valid (Reweight node vnodes) = tt
without_grant-valid (Recovered node epoch) = tt
without_grant-valid (Reserve by session name origin) = tt
without_grant-valid (Publish by vid) = tt
without_grant-valid (Clone by vid) = tt
without_grant-valid (Snapshot by old vid) = tt
without_grant-valid (Delete by session name tag) = tt
without_grant-valid (Lock by session name tag) = tt
without_grant-valid (Unlock by session vid) = tt

-- what is granted goes on by the header that the directory has
module _ (op : Op) (vid : Vid) (chain : List ℕ) (disk : Option Content) (header : Header) (step : OpStep) (is : IsValidHeader header)
    (opened : IfSome disk IsValidInode) where
  abbrev Granted : Entry → Type 0
  Granted entry = step_after_grant op vid chain disk entry header ≡ Some step → IsValidCommandStep step

  reserved-valid : (by : NodeId) (session : ℕ) (name : List ℕ) (origin : Origin) → Granted (Reserve by session name origin)
  reserved-valid by session name (Fresh spec) next = given IsValidCommandStep next ((tt, tt), is.0)
  reserved-valid by session name (SnapshotOf tag) next = by_disk disk opened next
    where
      by_disk : (disk : Option Content) → IfSome disk IsValidInode → option_map (tag_step op vid tag header) disk ≡ Some step → IsValidCommandStep step
      by_disk None opened next = absurd (cc (next))
      by_disk (Some old) opened next = given IsValidCommandStep next (is, opened.0)
  reserved-valid by session name (CloneOf base tag) next = by_parent header.parent next
    where
      by_parent : (parent : Option Vid) → option_map (copy_step op vid chain header) parent ≡ Some step → IsValidCommandStep step
      by_parent None next = absurd (cc (next))
      by_parent (Some parent) next = given IsValidCommandStep next (is, is.0)

  granted-valid : (entry : Entry) → Granted entry
  granted-valid (Format members) next = absurd (cc (next))
  granted-valid (Join node zone vnodes) next = absurd (cc (next))
  granted-valid (Leave node) next = absurd (cc (next))
  granted-valid (Reweight node vnodes) next = absurd (cc (next))
  granted-valid (Recovered node epoch) next = absurd (cc (next))
  granted-valid (Reserve by session name origin) next = reserved-valid by session name origin next
  granted-valid (Publish by vid) next = absurd (cc (next))
  granted-valid (Clone by vid) next = absurd (cc (next))
  granted-valid (Snapshot by old vid) next = absurd (cc (next))
  granted-valid (Delete by session name tag) next = given IsValidCommandStep next (tt, tt)
  granted-valid (Lock by session name tag) next = given IsValidCommandStep next (is, is.0)
  granted-valid (Unlock by session vid) next = given IsValidCommandStep next (tt, tt)

-- each header that is known is valid
abbrev pub HeadersAreValid : List Effect → Type 0
HeadersAreValid known = (vid : ℕ) (header : Header) → header_of known vid ≡ Some header → IsValidHeader header

module _ (known : List Effect) (disk : Option Content) (op : Op) (step : OpStep) (headers : HeadersAreValid known)
    (opened : IfSome disk IsValidInode) where
  decision-valid : (entry : Entry) (decision : Decision) → step_after_decision known disk op entry decision ≡ Some step → IsValidCommandStep step
  decision-valid entry decisions.None next = given IsValidCommandStep next (without_grant-valid entry, tt)
  decision-valid entry (decisions.Granted vid) next = by_header (header_of known vid.0) refl next
    where
      by_header : (o : Option Header) → header_of known vid.0 ≡ o
          → option_and_then (step_after_grant op vid (chain_of known vid.0) disk entry) o ≡ Some step → IsValidCommandStep step
      by_header None none next = absurd (cc (next))
      by_header (Some header) there next = granted-valid op vid (chain_of known vid.0) disk header step (headers vid.0 header there) opened entry next
  decision-valid entry (decisions.Refused cause) next = given IsValidCommandStep next (without_grant-valid entry, tt)

  pub command_decided-valid : (decision : Decision) → on_decision known disk decision op ≡ Some step → IsValidStage op.stage → IsValidCommandStep step
  unfolding on_decision
  command_decided-valid decision next is = by_stage op.stage next is
    where
      by_opened : (entry : Entry) (made : Option Content) → IfSome made IsValidInode → decided_at known disk decision op (Publishing entry made) ≡ Some step
          → IsValidCommandStep step
      by_opened entry None is next = given IsValidCommandStep next (tt, tt)
      by_opened entry (Some inode) is next = given IsValidCommandStep next (is, tt)

      by_stage : (stage : OpStage) → decided_at known disk decision op stage ≡ Some step → IsValidStage stage → IsValidCommandStep step
      by_stage (Asked entry) next is = decision-valid entry decision next
      by_stage (Working vid task) next is = absurd (cc (next))
      by_stage (Publishing entry made) next is = by_opened entry made is next
      by_stage (Answered change) next is = absurd (cc (next))
