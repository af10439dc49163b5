-- A read or write, a check, and a command go on as they were asked: so it is of each step that doesn't end them with a reply.
use Rattle.std.proofs.Common.{◌≡◌, arith, ℕ, ◌+◌, ◌==◌, ◌++◌, true, false, List, [], ◌∷◌, length, Option, Some, None, option_map}
use Rattle.std.proofs.Common.{option_and_then, refl, sym, ap, ◌∙◌, append_assoc}
use Rattle.std.specs.Prelude.{is_some}
use Rattle.std.proofs.lemmas.List.{length-append}
use Rattle.proof_tools.proofs.Booleans.{cond_either}
use Rattle.object_id.specs.declared.cause.Cause.{Cause}
use Rattle.object_id.specs.declared.entry.Entry.{Entry}
use Rattle.object_id.specs.declared.entry.VdiSpec.{VdiSpec}
use Rattle.object_id.specs.declared.node.NodeId.{NodeId}
use Rattle.object_id.specs.declared.oid.Vid.{Vid}
use Rattle.object_id.specs.Fields.{zeros}
use Rattle.inode.specs.Layout.{Content}
use Rattle.peer_proto.specs.declared.guest.DiskAsk.{DiskAsk}
use Rattle.peer_proto.specs.declared.guest.DiskAsk.TheVariants as disk_asks
use Rattle.peer_proto.specs.declared.guest.VdiAsk.{VdiAsk}
use Rattle.peer_proto.specs.declared.guest.VdiAsk.TheVariants.{Create, Attach, Close, Snapshot, Clone, Delete, Check as CheckDisk}
use Rattle.vdi_directory.specs.declared.header.Header.{Header}
use Rattle.vdi_directory.specs.declared.effect.Effect.{Effect}
use Rattle.vdi_directory.specs.declared.decision.Decision.{Decision}
use Rattle.vdi_directory.specs.declared.decision.Decision.TheVariants as decisions
use Rattle.vdi_directory.specs.Chains.{chain_of}
use Rattle.vdi_directory.specs.Effects.{header_of}
use Rattle.guest_driver.specs.declared.act.DriverAct.{DriverAct}
use Rattle.guest_driver.specs.declared.act.DriverAct.TheVariants as driver_acts
use Rattle.guest_driver.specs.declared.disk.Disk.{Disk}
use Rattle.guest_driver.specs.Pieces.{Piece, pieces}
use Rattle.guest_driver.specs.PieceWorks.{Backing, Hole, Own, Inherited, entry_of, backing_of, read_piece, table_with_entry}
use Rattle.guest_driver.specs.Refusals.{refusal_on}
use Rattle.guest_driver.specs.Driver as drivers
use Rattle.guest_driver.specs.Driver.{Driver, Reads, Writes, DriverStage, InPlace, Fetching, Creating, Entering, DriverStep, work_step}
use Rattle.guest_driver.specs.Driver.{read_on, write_piece_on, write_on, begin_unless_refused, begin_driver, write_done, driver_on_done}
use Rattle.disk_check.specs.declared.act.CheckAct.{CheckAct}
use Rattle.disk_check.specs.declared.act.CheckAct.TheVariants as check_acts
use Rattle.disk_check.specs.Table.{own_indexes, inherited_count}
use Rattle.disk_check.specs.Check as checks
use Rattle.disk_check.specs.Check.{Check, CheckStage, CheckStep, Comparing, WritingBack as Rewriting, check_on, begun_check, begin_check}
use Rattle.disk_check.specs.Check.{write_back_step, check_done_at, check_on_done}
use Rattle.vdi_ops.specs.declared.act.OpAct.{OpAct}
use Rattle.vdi_ops.specs.declared.act.OpAct.TheVariants as op_acts
use Rattle.vdi_ops.specs.Entries.{first_entry}
use Rattle.vdi_ops.specs.Op as ops
use Rattle.vdi_ops.specs.Op.{Task, Opening, WritingBack, Tagging, Copying, Making, OpStage, Asked, Working, Publishing, Op, OpStep}
use Rattle.vdi_ops.specs.Steps.{first_step, begin_command, tag_step, copy_step, step_after_grant, step_after_decision, decided_at}
use Rattle.vdi_ops.specs.Steps.{on_decision, task_done, done_at, op_on_done}
use Rattle.sheep_node.proofs.ValidSteps.{given}
use Rattle.overlap_law.specs.RequestsOfScript.{IsDriverOf, IsTaskOfAsk, IsStageOfAsk, indexes_left, IsCheckOf}

-- ---- a read or write

module _ (disk : Disk) (ask : DiskAsk) where
  -- it waits for a work as it was asked
  abbrev pub IsDriverAskedAt : Driver → DriverAct → Type 0
  IsDriverAskedAt driver (driver_acts.Work work) = IsDriverOf disk ask driver
  IsDriverAskedAt driver (driver_acts.Reply reply) = Unit {0}

  abbrev pub IsDriverAsked : DriverStep → Type 0
  IsDriverAsked step = IsDriverAskedAt step.driver step.act

  -- these pieces are the last ones
  abbrev AreLast : ℕ → ℕ → List Piece → Type 0
  AreLast offset size rest = (before : List Piece) × (pieces disk.inode.spec.shift offset size ≡ before ++ rest)

  one_less : (offset size : ℕ) (piece : Piece) (rest : List Piece) → AreLast offset size (piece ∷ rest) → AreLast offset size rest
  one_less offset size piece rest (before, is) = (before ++ piece ∷ [], is ∙ sym (append_assoc before (piece ∷ []) rest))

  reads_asked : (inode : Content) (told : List ℕ) (rest : List Piece) (offset size : ℕ) → ask ≡ disk_asks.Read offset size
      → AreLast offset size rest → IsDriverAsked (read_on inode told rest)
  unfolding read_on
  reads_asked inode told [] offset size same last = tt
  reads_asked inode told (piece ∷ rest) offset size same last =
      cond_either IsDriverAsked (entry_of inode piece == 0)
      (read_on inode (told ++ zeros piece.size) rest)
      (work_step inode (Reads told piece rest) (read_piece inode piece (entry_of inode piece)))
      (reads_asked inode (told ++ zeros piece.size) rest offset size same (one_less offset size piece rest last))
      (offset, size, same, last)

  piece_asked : (inode : Content) (payload : List ℕ) (piece : Piece) (rest : List Piece) (offset : ℕ) → ask ≡ disk_asks.Write offset payload
      → AreLast offset (length payload) (piece ∷ rest) → (backing : Backing)
      → IsDriverAsked (write_piece_on inode payload piece rest backing)
  piece_asked inode payload piece rest offset same last Hole = (offset, same, last)
  piece_asked inode payload piece rest offset same last Own = (offset, same, last)
  piece_asked inode payload piece rest offset same last (Inherited vid) = (offset, same, last)

  writes_asked : (inode : Content) (payload : List ℕ) (rest : List Piece) (offset : ℕ) → ask ≡ disk_asks.Write offset payload
      → AreLast offset (length payload) rest → IsDriverAsked (write_on inode payload rest)
  writes_asked inode payload [] offset same last = tt
  writes_asked inode payload (piece ∷ rest) offset same last =
      piece_asked inode payload piece rest offset same last (backing_of inode piece)

  done_asked : (inode : Content) (bytes payload : List ℕ) (piece : Piece) (rest : List Piece) (offset : ℕ)
      → ask ≡ disk_asks.Write offset payload
      → AreLast offset (length payload) (piece ∷ rest) → (stage : DriverStage)
      → IsDriverAsked (write_done inode bytes payload piece rest stage)
  done_asked inode bytes payload piece rest offset same last InPlace =
      writes_asked inode payload rest offset same (one_less offset (length payload) piece rest last)
  done_asked inode bytes payload piece rest offset same last Fetching = (offset, same, last)
  done_asked inode bytes payload piece rest offset same last Creating = (offset, same, last)
  done_asked inode bytes payload piece rest offset same last Entering =
      writes_asked (table_with_entry inode piece) payload rest offset same (one_less offset (length payload) piece rest last)

  pub driver_goes_on-asked : (inode : Content) (bytes : List ℕ) (driver : Driver) (step : DriverStep)
      → driver_on_done inode bytes driver ≡ Some step → IsDriverOf disk ask driver → IsDriverAsked step
  unfolding driver_on_done
  driver_goes_on-asked inode bytes (Reads told piece rest) step next (offset, size, same, last) =
      given IsDriverAsked next (reads_asked inode (told ++ bytes) rest offset size same (one_less offset size piece rest last))
  driver_goes_on-asked inode bytes (Writes payload stage piece rest) step next (offset, same, last) =
      given IsDriverAsked next (done_asked inode bytes payload piece rest offset same last stage)
  driver_goes_on-asked inode bytes drivers.Answered step next is = absurd is

begun_asked : (disk : Disk) (ask : DiskAsk) (refusal : Option Cause) → IsDriverAsked disk ask (begin_unless_refused disk.inode ask refusal)
begun_asked disk ask (Some cause) = tt
begun_asked disk (disk_asks.Read offset size) None =
    reads_asked disk (disk_asks.Read offset size) disk.inode [] (pieces disk.inode.spec.shift offset size) offset size refl ([], refl)
begun_asked disk (disk_asks.Write offset payload) None =
    writes_asked disk (disk_asks.Write offset payload) disk.inode payload (pieces disk.inode.spec.shift offset (length payload)) offset refl
    ([], refl)

pub driver_begins-asked : (disk : Disk) (ask : DiskAsk) → IsDriverAsked disk ask (begin_driver disk ask)
unfolding begin_driver
driver_begins-asked disk ask = begun_asked disk ask (refusal_on disk false ask)

-- it is so on a disk that was made the same
pub driver_stays-asked : (old new : Disk) (ask : DiskAsk) → new.inode.spec ≡ old.inode.spec → (driver : Driver) → IsDriverOf old ask driver
    → IsDriverOf new ask driver
driver_stays-asked old new ask spec (Reads told piece rest) (offset, size, same, (before, is)) =
    (offset, size, same, (before, ap (λ (s : VdiSpec). pieces s.shift offset size) spec ∙ is))
driver_stays-asked old new ask spec (Writes payload stage piece rest) (offset, same, (before, is)) =
    (offset, same, (before, ap (λ (s : VdiSpec). pieces s.shift offset (length payload)) spec ∙ is))
driver_stays-asked old new ask spec drivers.Answered is = absurd is

-- ---- a check

module _ (disk : Disk) where
  abbrev pub IsCheckAskedAt : Check → CheckAct → Type 0
  IsCheckAskedAt check (check_acts.Work work) = IsCheckOf disk check
  IsCheckAskedAt check (check_acts.Reply found) = Unit {0}

  abbrev pub IsCheckAsked : CheckStep → Type 0
  IsCheckAsked step = IsCheckAskedAt step.check step.act

  on_asked : (check : Check) (left before : List ℕ) → check.vid ≡ disk.inode.vid → check.spec ≡ disk.inode.spec
      → before ++ left ≡ own_indexes disk.inode → check.found.objects ≡ length before → check.found.inherited ≡ inherited_count disk.inode
      → IsCheckAsked (check_on check left)
  on_asked check [] before vid spec indexes objects inherited = tt
  on_asked check (index ∷ later) before vid spec indexes objects inherited = record {
    vid = vid;
    spec = spec;
    before = before;
    indexes = indexes;
    objects = objects;
    inherited = inherited;
    waits = λ same. absurd (cc (same));
  }

  pub check_begins-asked : IsCheckAsked (begin_check disk.inode)
  unfolding begin_check
  check_begins-asked = on_asked (begun_check disk.inode) (own_indexes disk.inode) [] refl refl refl refl refl

  pub check_goes_on-asked : (bytes : List ℕ) (check : Check) (step : CheckStep) → check_on_done bytes check ≡ Some step
      → IsCheckOf disk check
      → IsCheckAsked step
  unfolding check_on_done
  check_goes_on-asked bytes check step next is = by_stage check.stage refl next is.indexes
    where
      by_stage : (stage : CheckStage) → check.stage ≡ stage → check_done_at bytes check stage ≡ Some step
          → is.before ++ indexes_left stage ≡ own_indexes disk.inode → IsCheckAsked step
      by_stage (Comparing index later) at next indexes =
          let count = is.objects in
          let more : length (is.before ++ index ∷ []) ≡ length is.before + length (index ∷ []) = length-append is.before (index ∷ []) in
          let one : length (index ∷ []) ≡ 1 = refl in
          given IsCheckAsked next (record {
            vid = is.vid;
            spec = is.spec;
            before = is.before ++ index ∷ [];
            indexes = append_assoc is.before (index ∷ []) later ∙ indexes;
            objects = omega (arith, count, more, one);
            inherited = is.inherited;
            waits = λ same. absurd (cc (same));
          })
      by_stage (Rewriting later) at next indexes =
          given IsCheckAsked next (on_asked check later is.before is.vid is.spec indexes is.objects is.inherited)
      by_stage checks.Answered at next indexes = absurd (is.waits at)

-- ---- a command

module _ (ask : VdiAsk) where
  abbrev pub IsOpAskedAt : Op → OpAct → Type 0
  IsOpAskedAt op (op_acts.Append entry) = IsStageOfAsk op.by op.session ask op.stage
  IsOpAskedAt op (op_acts.Work work) = IsStageOfAsk op.by op.session ask op.stage
  IsOpAskedAt op (op_acts.Reply reply) = Unit {0}

  abbrev pub IsOpAsked : OpStep → Type 0
  IsOpAsked step = IsOpAskedAt step.op step.act

  pub command_begins-asked : (me : NodeId) (session : ℕ) (disk : Option Content) (step : OpStep)
      → begin_command me session ask disk ≡ Some step
      → IsOpAsked step
  unfolding begin_command
  command_begins-asked me session disk step is = by_entry (first_entry me session disk ask) refl is
    where
      by_entry : (entry : Option Entry) → first_entry me session disk ask ≡ entry → option_map (first_step me session) entry ≡ Some step
          → IsOpAsked step
      by_entry None first is = absurd (cc (is))
      by_entry (Some entry) first is = given IsOpAsked is (disk, first)

-- a disk is written back once it was opened without a tag
written_back : (tag : Option (List ℕ)) → false ≡ is_some tag → tag ≡ None
written_back None is = refl
written_back (Some tag) is = absurd (cc (is))

opened_asked : (ask : VdiAsk) (op : Op) (vid : Vid) (bytes ids : List ℕ) (header : Header) → IsTaskOfAsk ask (Opening false ids header)
    → IsOpAsked ask (task_done op vid bytes (Opening false ids header))
opened_asked (Create name spec) op vid bytes ids header is = absurd is
opened_asked (Attach name tag) op vid bytes ids header is = written_back tag is
opened_asked Close op vid bytes ids header is = absurd is
opened_asked (Snapshot tag) op vid bytes ids header is = absurd is
opened_asked (Clone base tag name) op vid bytes ids header is = absurd is
opened_asked (Delete name tag) op vid bytes ids header is = absurd is
opened_asked CheckDisk op vid bytes ids header is = absurd is

tagged_asked : (ask : VdiAsk) (op : Op) (vid : Vid) (bytes : List ℕ) (old : Vid) (inode : Content) → IsTaskOfAsk ask (Tagging old inode)
    → IsOpAsked ask (task_done op vid bytes (Tagging old inode))
tagged_asked (Create name spec) op vid bytes old inode is = absurd is
tagged_asked (Attach name tag) op vid bytes old inode is = absurd is
tagged_asked Close op vid bytes old inode is = absurd is
tagged_asked (Snapshot tag) op vid bytes old inode is = tt
tagged_asked (Clone base tag name) op vid bytes old inode is = absurd is
tagged_asked (Delete name tag) op vid bytes old inode is = absurd is
tagged_asked CheckDisk op vid bytes old inode is = absurd is

copied_asked : (ask : VdiAsk) (op : Op) (vid : Vid) (bytes ids : List ℕ) (header : Header) → IsTaskOfAsk ask (Copying ids header)
    → IsOpAsked ask (task_done op vid bytes (Copying ids header))
copied_asked (Create name spec) op vid bytes ids header is = absurd is
copied_asked (Attach name tag) op vid bytes ids header is = absurd is
copied_asked Close op vid bytes ids header is = absurd is
copied_asked (Snapshot tag) op vid bytes ids header is = absurd is
copied_asked (Clone base tag name) op vid bytes ids header is = tt
copied_asked (Delete name tag) op vid bytes ids header is = absurd is
copied_asked CheckDisk op vid bytes ids header is = absurd is

made_asked : (ask : VdiAsk) (op : Op) (vid : Vid) (bytes : List ℕ) (entry : Entry) (opened : Option Content)
    → IsTaskOfAsk ask (Making entry opened)
    → IsOpAsked ask (task_done op vid bytes (Making entry opened))
made_asked (Create name spec) op vid bytes entry opened is = tt
made_asked (Attach name tag) op vid bytes entry opened is = absurd is
made_asked Close op vid bytes entry opened is = absurd is
made_asked (Snapshot tag) op vid bytes entry opened is = tt
made_asked (Clone base tag name) op vid bytes entry opened is = tt
made_asked (Delete name tag) op vid bytes entry opened is = absurd is
made_asked CheckDisk op vid bytes entry opened is = absurd is

task_asked : (ask : VdiAsk) (op : Op) (vid : Vid) (bytes : List ℕ) (task : Task) → IsTaskOfAsk ask task
    → IsOpAsked ask (task_done op vid bytes task)
task_asked ask op vid bytes (Opening true ids header) is = tt
task_asked ask op vid bytes (Opening false ids header) is = opened_asked ask op vid bytes ids header is
task_asked ask op vid bytes (WritingBack inode) is = tt
task_asked ask op vid bytes (Tagging old inode) is = tagged_asked ask op vid bytes old inode is
task_asked ask op vid bytes (Copying ids header) is = copied_asked ask op vid bytes ids header is
task_asked ask op vid bytes (Making entry opened) is = made_asked ask op vid bytes entry opened is

pub command_goes_on-asked : (ask : VdiAsk) (bytes : List ℕ) (op : Op) (step : OpStep) → op_on_done bytes op ≡ Some step
    → IsStageOfAsk op.by op.session ask op.stage → IsOpAsked ask step
unfolding op_on_done
command_goes_on-asked ask bytes op step next is = by_stage op.stage next is
  where
    by_stage : (stage : OpStage) → done_at bytes op stage ≡ Some step → IsStageOfAsk op.by op.session ask stage → IsOpAsked ask step
    by_stage (Asked entry) next is = absurd (cc (next))
    by_stage (Working vid task) next is = given (IsOpAsked ask) next (task_asked ask op vid bytes task is)
    by_stage (Publishing entry opened) next is = absurd (cc (next))
    by_stage (ops.Answered change) next is = absurd (cc (next))

-- ---- behind a decision

module _ (known : List Effect) (disk : Option Content) (op : Op) (step : OpStep) (vid : Vid) (chain : List ℕ) (header : Header) where
  abbrev Granted : VdiAsk → Entry → Type 0
  Granted ask entry = step_after_grant op vid chain disk entry header ≡ Some step → IsOpAsked ask step

  snapshot_granted : (tag : List ℕ) → option_map (tag_step op vid tag header) disk ≡ Some step → IsOpAsked (Snapshot tag) step
  snapshot_granted tag = by_disk disk
    where
      by_disk : (disk : Option Content) → option_map (tag_step op vid tag header) disk ≡ Some step → IsOpAsked (Snapshot tag) step
      by_disk None next = absurd (cc (next))
      by_disk (Some old) next = given (IsOpAsked (Snapshot tag)) next tt

  clone_granted : (base tag name : List ℕ) → option_map (copy_step op vid chain header) header.parent ≡ Some step
      → IsOpAsked (Clone base tag name) step
  clone_granted base tag name = by_parent header.parent
    where
      by_parent : (parent : Option Vid) → option_map (copy_step op vid chain header) parent ≡ Some step
          → IsOpAsked (Clone base tag name) step
      by_parent None next = absurd (cc (next))
      by_parent (Some parent) next = given (IsOpAsked (Clone base tag name)) next tt

  granted_asked : (ask : VdiAsk) (by : NodeId) (session : ℕ) (seen : Option Content) (entry : Entry)
      → first_entry by session seen ask ≡ Some entry
      → Granted ask entry
  granted_asked (Create name spec) by session seen entry first =
      given (Granted (Create name spec)) first (λ next. given (IsOpAsked (Create name spec)) next tt)
  granted_asked (Attach name tag) by session seen entry first =
      given (Granted (Attach name tag)) first (λ next. given (IsOpAsked (Attach name tag)) next refl)
  granted_asked Close by session None entry first = absurd (cc (first))
  granted_asked Close by session (Some inode) entry first = given (Granted Close) first (λ next. given (IsOpAsked Close) next tt)
  granted_asked (Snapshot tag) by session None entry first = absurd (cc (first))
  granted_asked (Snapshot tag) by session (Some inode) entry first =
      given (Granted (Snapshot tag)) first (λ next. snapshot_granted tag next)
  granted_asked (Clone base tag name) by session seen entry first =
      given (Granted (Clone base tag name)) first (λ next. clone_granted base tag name next)
  granted_asked (Delete name tag) by session seen entry first =
      given (Granted (Delete name tag)) first (λ next. given (IsOpAsked (Delete name tag)) next tt)
  granted_asked CheckDisk by session seen entry first = absurd (cc (first))

module _ (ask : VdiAsk) (known : List Effect) (disk : Option Content) (op : Op) (step : OpStep) where
  decision_asked : (entry : Entry) (seen : Option Content) → first_entry op.by op.session seen ask ≡ Some entry → (decision : Decision)
      → step_after_decision known disk op entry decision ≡ Some step → IsOpAsked ask step
  decision_asked entry seen first decisions.None next = given (IsOpAsked ask) next tt
  decision_asked entry seen first (decisions.Granted vid) next = by_header (header_of known vid.0) next
    where
      by_header : (o : Option Header) → option_and_then (step_after_grant op vid (chain_of known vid.0) disk entry) o ≡ Some step
          → IsOpAsked ask step
      by_header None next = absurd (cc (next))
      by_header (Some header) next =
          granted_asked known disk op step vid (chain_of known vid.0) header ask op.by op.session seen entry first next
  decision_asked entry seen first (decisions.Refused cause) next = given (IsOpAsked ask) next tt

  pub command_decided-asked : (decision : Decision) → on_decision known disk decision op ≡ Some step
      → IsStageOfAsk op.by op.session ask op.stage
      → IsOpAsked ask step
  unfolding on_decision
  command_decided-asked decision next is = by_stage op.stage next is
    where
      by_stage : (stage : OpStage) → decided_at known disk decision op stage ≡ Some step → IsStageOfAsk op.by op.session ask stage
          → IsOpAsked ask step
      by_stage (Asked entry) next (seen, first) = decision_asked entry seen first decision next
      by_stage (Working vid task) next is = absurd (cc (next))
      by_stage (Publishing entry opened) next is = given (IsOpAsked ask) next tt
      by_stage (ops.Answered change) next is = absurd (cc (next))
