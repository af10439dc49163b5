-- The work that a driver, a command or a check comes to is the one that it then waits for, on the disk that its session has open.
use Rattle.std.proofs.Common.{◌≡◌, ◌≢◌, ℕ, ◌+◌, ◌*◌, ◌^◌, ◌==◌, ◌++◌, Bool, true, false, cond, List, [], ◌∷◌, length, All, Option, Some}
use Rattle.std.proofs.Common.{None, option_map, option_and_then, refl, sym, ap, subst, ◌∙◌}
use Rattle.std.proofs.lemmas.Bool.{eqb-true}
use Rattle.std.proofs.lemmas.List.{get_or-set_other}
use Rattle.std.proofs.lemmas.List.Elements.{All-head, All-weaker}
use Rattle.std.proofs.lemmas.Option.{same_Some}
use Rattle.object_id.specs.declared.entry.Entry.{Entry}
use Rattle.object_id.specs.declared.entry.Entry.TheVariants.{Format, Join, Leave, Reweight, Recovered, Reserve, Publish, Clone, Snapshot}
use Rattle.object_id.specs.declared.entry.Entry.TheVariants.{Delete, Lock, Unlock}
use Rattle.object_id.specs.declared.entry.Origin.TheVariants.{Fresh, SnapshotOf, CloneOf}
use Rattle.object_id.specs.declared.node.NodeId.{NodeId}
use Rattle.object_id.specs.declared.oid.Vid.{Vid}
use Rattle.object_id.specs.declared.cause.Cause.{Cause}
use Rattle.object_id.specs.Fields.{u32_bytes, zeros}
use Rattle.object_id.specs.Oid.{inode_number, object_number}
use Rattle.inode.specs.Layout.{Content}
use Rattle.inode.specs.declared.layout.TheConstants.{INODE_HEADER_BYTES}
use Rattle.peer_proto.specs.declared.guest.DiskAsk.{DiskAsk}
use Rattle.peer_proto.specs.declared.guest.DiskAsk.TheVariants as disk_asks
use Rattle.peer_proto.specs.declared.guest.VdiAsk.{VdiAsk}
use Rattle.peer_proto.specs.declared.work.ObjWork.{ObjWork}
use Rattle.peer_proto.specs.declared.work.ObjWork.TheVariants as works
use Rattle.vdi_directory.specs.declared.header.Header.{Header}
use Rattle.vdi_directory.specs.declared.effect.Effect.{Effect}
use Rattle.vdi_directory.specs.declared.decision.Decision.{Decision}
use Rattle.vdi_directory.specs.declared.decision.Decision.TheVariants as decisions
use Rattle.vdi_directory.specs.Chains.{chain_of}
use Rattle.vdi_directory.specs.Effects.{header_of}
use Rattle.gateway_queue.specs.declared.queue.Queued.{Queued}
use Rattle.gateway_queue.specs.Queue.{Covers}
use Rattle.guest_driver.specs.declared.act.DriverAct.TheVariants as driver_acts
use Rattle.guest_driver.specs.declared.disk.Disk.{Disk}
use Rattle.guest_driver.specs.Course.{IsAwaitedByDriver, inode_after}
use Rattle.guest_driver.specs.OnDisk.{pieces_left}
use Rattle.guest_driver.specs.Pieces.{Piece, pieces, piece_bytes}
use Rattle.guest_driver.specs.PieceWorks.{Hole, Own, Inherited, entry_of, read_piece, table_with_entry}
use Rattle.guest_driver.specs.Refusals.{refusal_on}
use Rattle.guest_driver.specs.Driver as drivers
use Rattle.guest_driver.specs.Driver.{Driver, Reads, Writes, DriverStage, InPlace, Fetching, Creating, Entering, DriverStep, work_step}
use Rattle.guest_driver.specs.Driver.{read_on, write_piece_on, write_on, begin_unless_refused, begin_driver, write_done, driver_on_done}
use Rattle.disk_check.specs.declared.act.CheckAct.{CheckAct}
use Rattle.disk_check.specs.declared.act.CheckAct.TheVariants as check_acts
use Rattle.disk_check.specs.Table.{own_indexes}
use Rattle.disk_check.specs.Value.{all_bytes, pieces_in, value_of}
use Rattle.disk_check.specs.Check as checks
use Rattle.disk_check.specs.Check.{Check, CheckStage, CheckStep, Comparing, WritingBack as Rewriting, check_on, begun_check, begin_check}
use Rattle.disk_check.specs.Check.{write_back_step, check_done_at, check_on_done, check_bytes_wanted, bytes_at}
use Rattle.disk_check.proofs.WorkLemmas.{value-length}
use Rattle.object_id.specs.Spec.{IsSpec}
use Rattle.vdi_ops.specs.declared.act.OpAct.{OpAct}
use Rattle.vdi_ops.specs.declared.act.OpAct.TheVariants as op_acts
use Rattle.vdi_ops.specs.Entries.{first_entry}
use Rattle.vdi_ops.specs.InodeWorks.{create_inode, write_tag}
use Rattle.vdi_ops.specs.Tables.{table_in, holes, inode_by}
use Rattle.vdi_ops.specs.Op as ops
use Rattle.vdi_ops.specs.Op.{Task, Opening, WritingBack, Tagging, Copying, Making, OpStage, Asked, Working, Publishing, Op, OpStep}
use Rattle.vdi_ops.specs.Steps.{first_step, begin_command, tag_step, copy_step, step_after_grant, step_after_decision, decided_at}
use Rattle.vdi_ops.specs.Steps.{on_decision, task_done, done_at, op_on_done}
use Rattle.sheep_node.specs.declared.course.Course.{Course}
use Rattle.sheep_node.specs.declared.course.Course.TheVariants.{Waiting, Driving, Commanding, Checking, DoingWork, AwaitingDecision}
use Rattle.sheep_node.specs.Courses.{inode_open}
use Rattle.sheep_node.proofs.ValidSteps.{given}
use Rattle.overlap_law.specs.Courses.{IsTagged, IsCreatedNow, IsOfStage, IsOfCheckStage, WaitsFor}
use Rattle.overlap_law.specs.RequestsOfScript.{indexes_left, IsCheckOf}
use Rattle.overlap_law.proofs.QueuedInSteps.{AreAtOthers}

-- of no id it is asked what the table of a created inode is drawn from
abbrev pub no_id : ℕ → Bool
no_id vid = false

-- the inode that is to take the open disk's place has the granted id
abbrev pub HasOwnDraftIn : Vid → Task → Type 0
HasOwnDraftIn vid (Opening snapshot ids header) = Unit {0}
HasOwnDraftIn vid (WritingBack inode) = Unit {0}
HasOwnDraftIn vid (Tagging old inode) = inode.vid ≡ vid.0
HasOwnDraftIn vid (Copying ids header) = Unit {0}
HasOwnDraftIn vid (Making entry opened) = Unit {0}

abbrev pub HasOwnDraftAt : OpStage → Type 0
HasOwnDraftAt (Asked entry) = Unit {0}
HasOwnDraftAt (Working vid task) = HasOwnDraftIn vid task
HasOwnDraftAt (Publishing entry opened) = Unit {0}
HasOwnDraftAt (ops.Answered change) = Unit {0}

-- a write goes into the disk's own object where its table says that it has one
abbrev pub IsOwnAt : Content → Piece → DriverStage → Type 0
IsOwnAt inode piece InPlace = entry_of inode piece ≡ inode.vid
IsOwnAt inode piece Fetching = Unit {0}
IsOwnAt inode piece Creating = Unit {0}
IsOwnAt inode piece Entering = Unit {0}

abbrev pub IsOwnIn : Content → Driver → Type 0
IsOwnIn inode (Reads told piece rest) = Unit {0}
IsOwnIn inode (Writes payload stage piece rest) = IsOwnAt inode piece stage
IsOwnIn inode drivers.Answered = Unit {0}

-- the open disk is one of which something holds
abbrev pub IsOpenSo : Option Disk → (Disk → Type 0) → Type 0
IsOpenSo opened So = (disk : Disk) × (opened ≡ Some disk) × So disk

-- a course is of what its session has: the draft of a command, the own object of the open disk, or the open disk
abbrev pub IsOfOwn : Option Disk → Course → Type 0
IsOfOwn opened (Waiting ask) = Unit {0}
IsOfOwn opened (Driving driver) = IsOpenSo opened (λ (disk : Disk). IsOwnIn disk.inode driver)
IsOfOwn opened (Commanding op) = HasOwnDraftAt op.stage
IsOfOwn opened (Checking check) = IsOpenSo opened (λ (disk : Disk). check.vid ≡ disk.inode.vid)
IsOfOwn opened (DoingWork work) = Unit {0}
IsOfOwn opened (AwaitingDecision entry) = Unit {0}

-- a course waits for a work
abbrev pub Waits : Option Disk → Course → ObjWork → Type 0
Waits disk course work = WaitsFor [] no_id [] disk course work × IsOfOwn disk course

-- ---- a read or write

-- an entry that is written leaves the others
entry_stays : (inode : Content) (piece other : Piece) → other.index ≢ piece.index
    → entry_of (table_with_entry inode piece) other ≡ entry_of inode other
entry_stays inode piece other apart = get_or-set_other inode.table piece.index other.index inode.vid 0 apart

-- so does the work of a driver whose pieces are in other objects
module _ (inode : Content) (mine its : Queued) (apart : (index : ℕ) → Covers mine index → Covers its index → ⊥) where
  one_stays : (driver : Driver) → All (λ (piece : Piece). Covers mine piece.index) (pieces_left driver) → (other : Piece)
      → Covers its other.index
      → entry_of (inode_after inode driver) other ≡ entry_of inode other
  one_stays (Reads told piece rest) left other covered = refl
  one_stays (Writes payload InPlace piece rest) left other covered = refl
  one_stays (Writes payload Fetching piece rest) left other covered = refl
  one_stays (Writes payload Creating piece rest) left other covered = refl
  one_stays (Writes payload Entering piece rest) left other covered =
      let own : Covers mine piece.index = All-head (λ (piece : Piece). Covers mine piece.index) piece rest left in
      entry_stays inode piece other
      (λ (same : other.index ≡ piece.index). apart piece.index own (subst (λ (k : ℕ). Covers its k) same covered))
  one_stays drivers.Answered left other covered = refl

pub entries_stay : (inode : Content) (driver others : Driver) → AreAtOthers driver others
    → All (λ (piece : Piece). entry_of (inode_after inode driver) piece ≡ entry_of inode piece) (pieces_left others)
entries_stay inode driver others at =
    All-weaker (λ (piece : Piece). Covers at.other piece.index)
    (λ (piece : Piece). entry_of (inode_after inode driver) piece ≡ entry_of inode piece)
    (λ piece covered. one_stays inode at.one at.other at.apart driver at.left piece covered) (pieces_left others) at.left_too

-- what a driver waits for, once its disk has another table with the same entries of its pieces
pub awaited_alike : (old new : Content) (driver : Driver) (work : ObjWork) → new.spec ≡ old.spec → new.vid ≡ old.vid
    → All (λ (piece : Piece). entry_of new piece ≡ entry_of old piece) (pieces_left driver)
    → IsAwaitedByDriver old driver (driver_acts.Work work) → IsAwaitedByDriver new driver (driver_acts.Work work)
awaited_alike old new (Reads told piece rest) work spec vid same is =
    let entry : entry_of new piece ≡ entry_of old piece
    = All-head (λ (piece : Piece). entry_of new piece ≡ entry_of old piece) piece rest same in
    is ∙ sym (λ i. driver_acts.Work (works.Read (object_number (entry i) piece.index) (spec i).policy piece.offset piece.size))
awaited_alike old new (Writes payload InPlace piece rest) work spec vid same is =
    is ∙ sym (λ i. driver_acts.Work
    (works.Write (object_number (vid i) piece.index) (spec i).policy piece.offset (piece_bytes payload piece)))
awaited_alike old new (Writes payload Fetching piece rest) work spec vid same is =
    let entry : entry_of new piece ≡ entry_of old piece
    = All-head (λ (piece : Piece). entry_of new piece ≡ entry_of old piece) piece rest same in
    is ∙ sym (λ i. driver_acts.Work (works.Read (object_number (entry i) piece.index) (spec i).policy 0 (2 ^ (spec i).shift)))
awaited_alike old new (Writes payload Creating piece rest) work spec vid same (offset, bytes, is) = (
  offset,
  bytes,
  is ∙ sym (λ i. driver_acts.Work (works.Create (object_number (vid i) piece.index) (spec i).policy (2 ^ (spec i).shift) offset bytes)),
)
awaited_alike old new (Writes payload Entering piece rest) work spec vid same is =
    is ∙ sym (λ i. driver_acts.Work
    (works.Write (inode_number (vid i)) (spec i).policy (INODE_HEADER_BYTES + 4 * piece.index) (u32_bytes (vid i))))
awaited_alike old new drivers.Answered work spec vid same (reply, is) = absurd (cc (is))

-- ---- the own object of the open disk

-- an entry of the same disk with the same entries of the driver's pieces
pub own_alike : (old new : Content) (driver : Driver) → new.vid ≡ old.vid
    → All (λ (piece : Piece). entry_of new piece ≡ entry_of old piece) (pieces_left driver) → IsOwnIn old driver → IsOwnIn new driver
own_alike old new (Reads told piece rest) vid same is = tt
own_alike old new (Writes payload InPlace piece rest) vid same is =
    All-head (λ (piece : Piece). entry_of new piece ≡ entry_of old piece) piece rest same ∙ is ∙ sym vid
own_alike old new (Writes payload Fetching piece rest) vid same is = tt
own_alike old new (Writes payload Creating piece rest) vid same is = tt
own_alike old new (Writes payload Entering piece rest) vid same is = tt
own_alike old new drivers.Answered vid same is = tt

-- a step of a driver is so
abbrev pub IsOwnStep : DriverStep → Type 0
IsOwnStep step = IsOwnIn step.inode step.driver

module _ (inode : Content) where
  read_own : (told : List ℕ) (rest : List Piece) → IsOwnStep (read_on inode told rest)
  unfolding read_on
  read_own told [] = tt
  read_own told (piece ∷ rest) = by_hole (entry_of inode piece == 0) (read_own (told ++ zeros piece.size) rest)
    where
      by_hole : (b : Bool) → IsOwnStep (read_on inode (told ++ zeros piece.size) rest)
          → IsOwnStep (cond b (read_on inode (told ++ zeros piece.size) rest)
          (work_step inode (Reads told piece rest) (read_piece inode piece (entry_of inode piece))))
      by_hole true later = later
      by_hole false later = tt

  write_own : (payload : List ℕ) (rest : List Piece) → IsOwnStep (write_on inode payload rest)
  write_own payload [] = tt
  write_own payload (piece ∷ rest) = by_hole (entry_of inode piece == 0)
    where
      by_own : (b : Bool) → (entry_of inode piece == inode.vid) ≡ b
          → IsOwnStep (write_piece_on inode payload piece rest (cond b Own (Inherited (entry_of inode piece))))
      by_own true is = eqb-true (entry_of inode piece) inode.vid is
      by_own false is = tt

      by_hole : (b : Bool)
          → IsOwnStep (write_piece_on inode payload piece rest
          (cond b Hole (cond (entry_of inode piece == inode.vid) Own (Inherited (entry_of inode piece)))))
      by_hole true = tt
      by_hole false = by_own (entry_of inode piece == inode.vid) refl

  begun_own : (ask : DiskAsk) (cause : Option Cause) → IsOwnStep (begin_unless_refused inode ask cause)
  begun_own ask (Some cause) = tt
  begun_own (disk_asks.Read offset size) None = read_own [] (pieces inode.spec.shift offset size)
  begun_own (disk_asks.Write offset payload) None = write_own payload (pieces inode.spec.shift offset (length payload))

pub driver_begins-own : (disk : Disk) (ask : DiskAsk) → IsOwnStep (begin_driver disk ask)
unfolding begin_driver
driver_begins-own disk ask = begun_own disk.inode ask (refusal_on disk false ask)

write_done-own : (inode : Content) (bytes payload : List ℕ) (piece : Piece) (rest : List Piece) (stage : DriverStage)
    → IsOwnStep (write_done inode bytes payload piece rest stage)
write_done-own inode bytes payload piece rest InPlace = write_own inode payload rest
write_done-own inode bytes payload piece rest Fetching = tt
write_done-own inode bytes payload piece rest Creating = tt
write_done-own inode bytes payload piece rest Entering = write_own (table_with_entry inode piece) payload rest

pub driver_goes_on-own : (inode : Content) (bytes : List ℕ) (driver : Driver) (step : DriverStep)
    → driver_on_done inode bytes driver ≡ Some step → IsOwnStep step
unfolding driver_on_done
driver_goes_on-own inode bytes (Reads told piece rest) step next =
    subst IsOwnStep (same_Some (read_on inode (told ++ bytes) rest) step next) (read_own inode (told ++ bytes) rest)
driver_goes_on-own inode bytes (Writes payload stage piece rest) step next =
    subst IsOwnStep (same_Some (write_done inode bytes payload piece rest stage) step next)
    (write_done-own inode bytes payload piece rest stage)
driver_goes_on-own inode bytes drivers.Answered step next = absurd (cc (next))

-- ---- a command

module _ (disk : Option Disk) where
  -- an act is a work that is waited for, or none
  abbrev pub IsOpWaitedAt : Op → OpAct → Type 0
  IsOpWaitedAt op (op_acts.Append entry) = Unit {0}
  IsOpWaitedAt op (op_acts.Work work) = IsOfStage [] no_id [] disk op.stage work × HasOwnDraftAt op.stage
  IsOpWaitedAt op (op_acts.Reply reply) = Unit {0}

  abbrev pub IsOpWaited : OpStep → Type 0
  IsOpWaited step = IsOpWaitedAt step.op step.act

  pub command_begins-waited : (by : NodeId) (session : ℕ) (ask : VdiAsk) (seen : Option Content) (step : OpStep)
      → begin_command by session ask seen ≡ Some step → IsOpWaited step
  unfolding begin_command
  command_begins-waited by session ask seen step is = by_entry (first_entry by session seen ask) is
    where
      by_entry : (entry : Option Entry) → option_map (first_step by session) entry ≡ Some step → IsOpWaited step
      by_entry None is = absurd (cc (is))
      by_entry (Some entry) is = given IsOpWaited is tt

  -- an inode is created by the granted id
  created : (vid : Vid) (inode : Content) (opened : Option Content) → inode.vid ≡ vid.0
      → ((content : Content) → opened ≡ Some content → content ≡ inode)
      → IsCreatedNow [] no_id [] vid opened (create_inode inode)
  created vid inode opened own same =
      record {
        inode = inode;
        own = own;
        work_of = refl;
        same = same;
        drawn = λ index draft. let good : no_id vid.0 ≡ true = draft.good in absurd (cc (good));
      }

  none_opened : (inode content : Content) → None ≡ Some content → content ≡ inode
  none_opened inode content is = absurd (cc (is))

  task_waited : (op : Op) (vid : Vid) (bytes : List ℕ) (task : Task) → HasOwnDraftIn vid task → IsOpWaited (task_done op vid bytes task)
  task_waited op vid bytes (Opening true ids header) own = tt
  task_waited op vid bytes (Opening false ids header) own = (record { bytes = bytes; ids = ids; work_of = refl; table = refl }, tt)
  task_waited op vid bytes (WritingBack inode) own = tt
  task_waited op vid bytes (Tagging old inode) own =
      (created vid inode (Some inode) own (λ content is. sym (same_Some inode content is)), tt)
  task_waited op vid bytes (Copying ids header) own =
      let inode : Content = inode_by header vid.0 (table_in ids header.spec bytes) in
      (created vid inode None refl (none_opened inode), tt)
  task_waited op vid bytes (Making entry opened) own = tt

  pub command_goes_on-waited : (bytes : List ℕ) (op : Op) (step : OpStep) → op_on_done bytes op ≡ Some step → HasOwnDraftAt op.stage
      → IsOpWaited step
  unfolding op_on_done
  command_goes_on-waited bytes op step next own = by_stage op.stage next own
    where
      by_stage : (stage : OpStage) → done_at bytes op stage ≡ Some step → HasOwnDraftAt stage → IsOpWaited step
      by_stage (Asked entry) next own = absurd (cc (next))
      by_stage (Working vid task) next own = given IsOpWaited next (task_waited op vid bytes task own)
      by_stage (Publishing entry opened) next own = absurd (cc (next))
      by_stage (ops.Answered change) next own = absurd (cc (next))

  -- the open disk's inode gets a tag
  tagged : (vid : Vid) (tag : List ℕ) (header : Header) (old : Content) → inode_open disk ≡ Some old
      → IsTagged disk (record { 0 = old.vid }) (inode_by header vid.0 old.table) (write_tag old tag)
  tagged vid tag header old on = by_disk disk refl
    where
      by_disk : (o : Option Disk) → disk ≡ o → IsTagged disk (record { 0 = old.vid }) (inode_by header vid.0 old.table) (write_tag old tag)
      by_disk None none = let nothing = ap inode_open (sym none) in absurd (cc (nothing, on))
      by_disk (Some one) some =
          let same : one.inode ≡ old = same_Some one.inode old (sym (ap inode_open some) ∙ on) in
          record {
            disk = one;
            tag = tag;
            there = some;
            same = ap (λ (c : Content). c.vid) same;
            table = sym (ap (λ (c : Content). c.table) same);
            work_of = ap (λ (c : Content). write_tag c tag) (sym same);
          }

  module _ (known : List Effect) (op : Op) (step : OpStep) (vid : Vid) (header : Header) where
    granted_waited : (entry : Entry) → step_after_grant op vid (chain_of known vid.0) (inode_open disk) entry header ≡ Some step
        → IsOpWaited step
    granted_waited (Format members) next = absurd (cc (next))
    granted_waited (Join node zone vnodes) next = absurd (cc (next))
    granted_waited (Leave node) next = absurd (cc (next))
    granted_waited (Reweight node vnodes) next = absurd (cc (next))
    granted_waited (Recovered node epoch) next = absurd (cc (next))
    granted_waited (Reserve by session name (Fresh spec)) next =
        given IsOpWaited next
        (created vid (inode_by header vid.0 (holes header.spec)) None refl (none_opened (inode_by header vid.0 (holes header.spec))), tt)
    granted_waited (Reserve by session name (SnapshotOf tag)) next = by_disk (inode_open disk) refl next
      where
        by_disk : (o : Option Content) → inode_open disk ≡ o → option_map (tag_step op vid tag header) o ≡ Some step → IsOpWaited step
        by_disk None none next = absurd (cc (next))
        by_disk (Some old) on next = given IsOpWaited next (tagged vid tag header old on, refl)
    granted_waited (Reserve by session name (CloneOf base tag)) next = by_parent header.parent refl next
      where
        by_parent : (parent : Option Vid) → header.parent ≡ parent
            → option_map (copy_step op vid (chain_of known vid.0) header) parent ≡ Some step
            → IsOpWaited step
        by_parent None none next = absurd (cc (next))
        by_parent (Some parent) there next = given IsOpWaited next (record { vid = parent; there = there; work_of = refl }, tt)
    granted_waited (Publish by made) next = absurd (cc (next))
    granted_waited (Clone by made) next = absurd (cc (next))
    granted_waited (Snapshot by old made) next = absurd (cc (next))
    granted_waited (Delete by session name tag) next = given IsOpWaited next tt
    granted_waited (Lock by session name tag) next = given IsOpWaited next (refl, tt)
    granted_waited (Unlock by session old) next = given IsOpWaited next tt

  decision_waited : (known : List Effect) (op : Op) (step : OpStep) (entry : Entry) (decision : Decision)
      → step_after_decision known (inode_open disk) op entry decision ≡ Some step → IsOpWaited step
  decision_waited known op step entry decisions.None next = given IsOpWaited next tt
  decision_waited known op step entry (decisions.Granted vid) next = by_header (header_of known vid.0) next
    where
      by_header : (o : Option Header)
          → option_and_then (step_after_grant op vid (chain_of known vid.0) (inode_open disk) entry) o ≡ Some step
          → IsOpWaited step
      by_header None next = absurd (cc (next))
      by_header (Some header) next = granted_waited known op step vid header entry next
  decision_waited known op step entry (decisions.Refused cause) next = given IsOpWaited next tt

  pub command_decided-waited : (known : List Effect) (op : Op) (step : OpStep) (decision : Decision)
      → on_decision known (inode_open disk) decision op ≡ Some step → IsOpWaited step
  unfolding on_decision
  command_decided-waited known op step decision next = by_stage op.stage next
    where
      by_stage : (stage : OpStage) → decided_at known (inode_open disk) decision op stage ≡ Some step → IsOpWaited step
      by_stage (Asked entry) next = decision_waited known op step entry decision next
      by_stage (Working vid task) next = absurd (cc (next))
      by_stage (Publishing entry opened) next = given IsOpWaited next tt
      by_stage (ops.Answered change) next = absurd (cc (next))

-- ---- a check

on_vid : (check : Check) (left : List ℕ) → (check_on check left).check.vid ≡ check.vid
on_vid check [] = refl
on_vid check (index ∷ later) = refl

module _ (disk : Disk) where
  abbrev pub IsCheckWaitedAt : Check → CheckAct → Type 0
  IsCheckWaitedAt check (check_acts.Work work) = IsOfCheckStage disk check check.stage work
  IsCheckWaitedAt check (check_acts.Reply found) = Unit {0}

  abbrev pub IsCheckWaited : CheckStep → Type 0
  IsCheckWaited step = IsCheckWaitedAt step.check step.act

  on_waited : (check : Check) (left : List ℕ) → IsCheckWaited (check_on check left)
  on_waited check [] = tt
  on_waited check (index ∷ later) = refl

  pub check_begins-waited : (inode : Content) → IsCheckWaited (begin_check inode)
  unfolding begin_check
  check_begins-waited inode = on_waited (begun_check inode) (own_indexes inode)

  pub check_goes_on-waited : (bytes : List ℕ) (check : Check) (step : CheckStep) → check_on_done bytes check ≡ Some step
      → IsCheckOf disk check
      → IsSpec check.spec → check_bytes_wanted check ≡ Some (length bytes) → IsCheckWaited step
  unfolding check_on_done
  check_goes_on-waited bytes check step next is spec wanted = by_stage check.stage next is.indexes wanted
    where
      by_stage : (stage : CheckStage) → check_done_at bytes check stage ≡ Some step
          → is.before ++ indexes_left stage ≡ own_indexes disk.inode
          → bytes_at check.spec stage ≡ Some (length bytes) → IsCheckWaited step
      by_stage (Comparing index later) next indexes wanted = given IsCheckWaited next (record {
        index = index;
        value = value_of check.spec.policy (pieces_in check.spec bytes);
        before = is.before;
        own = indexes;
        whole = value-length check.spec bytes spec (sym (same_Some (all_bytes check.spec) (length bytes) wanted));
        work_of = refl;
      })
      by_stage (Rewriting later) next indexes wanted = given IsCheckWaited next (on_waited check later)
      by_stage checks.Answered next indexes wanted = absurd (cc (next))

-- a check goes on at the disk at which it was
pub check_begins-vid : (inode : Content) → (begin_check inode).check.vid ≡ inode.vid
unfolding begin_check
check_begins-vid inode = on_vid (begun_check inode) (own_indexes inode)

pub check_goes_on-vid : (bytes : List ℕ) (check : Check) (step : CheckStep) → check_on_done bytes check ≡ Some step
    → step.check.vid ≡ check.vid
unfolding check_on_done
check_goes_on-vid bytes check step next = by_stage check.stage next
  where
    by_stage : (stage : CheckStage) → check_done_at bytes check stage ≡ Some step → step.check.vid ≡ check.vid
    by_stage (Comparing index later) next =
        ap (λ (s : CheckStep). s.check.vid)
        (sym (same_Some (write_back_step check index later (pieces_in check.spec bytes)) step next))
    by_stage (Rewriting later) next =
        ap (λ (s : CheckStep). s.check.vid) (sym (same_Some (check_on check later) step next)) ∙ on_vid check later
    by_stage checks.Answered next = absurd (cc (next))
