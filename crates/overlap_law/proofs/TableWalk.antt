-- What is to hold of the inodes that sessions have open, and of those that commands are to open, is so over what a request's step does: if
-- it is where an entry is entered, where an inode is read as its disk is opened, and where an id takes the place of its disk.
use Rattle.std.proofs.Common.{◌≡◌, ℕ, Bool, true, false, All, List, ◌++◌, Option, Some, None, IfSome, option_map, option_and_then}
use Rattle.std.proofs.Common.{unwrap_or, refl, sym, subst}
use Rattle.std.specs.FinMap as tree
use Rattle.std.proofs.lemmas.List.Elements.{All-head}
use Rattle.object_id.specs.declared.entry.Entry.{Entry}
use Rattle.object_id.specs.declared.entry.Entry.TheVariants.{Format, Join, Leave, Reweight, Recovered, Reserve, Publish, Clone, Snapshot}
use Rattle.object_id.specs.declared.entry.Entry.TheVariants.{Delete, Lock, Unlock}
use Rattle.object_id.specs.declared.entry.Origin.TheVariants.{Fresh, SnapshotOf, CloneOf}
use Rattle.object_id.specs.declared.node.NodeId.{NodeId}
use Rattle.object_id.specs.declared.oid.Vid.{Vid}
use Rattle.inode.specs.Layout.{Content}
use Rattle.peer_proto.specs.declared.guest.GuestRsp.{GuestRsp}
use Rattle.peer_proto.specs.declared.guest.VdiAsk.{VdiAsk}
use Rattle.vdi_directory.specs.declared.effect.Effect.{Effect}
use Rattle.vdi_directory.specs.declared.header.Header.{Header}
use Rattle.vdi_directory.specs.declared.decision.Decision.{Decision}
use Rattle.vdi_directory.specs.declared.decision.Decision.TheVariants as decisions
use Rattle.vdi_directory.specs.Chains.{chain_of}
use Rattle.vdi_directory.specs.Effects.{header_of}
use Rattle.gateway.specs.State.{Work}
use Rattle.gateway.specs.declared.message.Status.{Status}
use Rattle.gateway_queue.specs.Queue.{queue_without}
use Rattle.guest_driver.specs.declared.disk.Disk.{Disk}
use Rattle.guest_driver.specs.Driver as drivers
use Rattle.guest_driver.specs.Driver.{DriverStage, InPlace, Fetching, Creating, Entering, Driver, Reads, Writes, DriverStep, write_done}
use Rattle.guest_driver.specs.Driver.{driver_on_done}
use Rattle.guest_driver.specs.OnDisk.{pieces_left}
use Rattle.guest_driver.specs.Pieces.{Piece}
use Rattle.guest_driver.specs.PieceWorks.{write_entry, table_with_entry}
use Rattle.vdi_ops.specs.Entries.{first_entry}
use Rattle.vdi_ops.specs.Tables.{table_in, inode_by}
use Rattle.vdi_ops.specs.Op.{Task, Opening, WritingBack, Tagging, Copying, Making, DiskChange, Stays, Opens, Closes, OpStage, Asked}
use Rattle.vdi_ops.specs.Op.{Working, Publishing, Answered, disk_change_at, Op, OpStep}
use Rattle.vdi_ops.specs.Steps.{first_step, begin_command, tag_step, copy_step, change_without_grant, step_after_grant}
use Rattle.vdi_ops.specs.Steps.{step_after_decision, decided_at, on_decision, task_done, done_at, op_on_done}
use Rattle.sheep_node.specs.declared.course.Course.{Course}
use Rattle.sheep_node.specs.declared.course.Request.{Request}
use Rattle.sheep_node.specs.declared.session.Session.{Session}
use Rattle.sheep_node.specs.declared.course.Course.TheVariants.{Driving, Commanding}
use Rattle.sheep_node.specs.State.{new_session}
use Rattle.sheep_node.specs.StepState.{StepState, session_in, with_sole_request, request_ended}
use Rattle.sheep_node.specs.Courses.{after_driver_step, disk_after, inode_open, after_command_step}
use Rattle.sheep_node.specs.Validity.{EachIs}
use Rattle.sheep_node.specs.WantedWorks.{IsWorkOfDriver, IsWorkOfWrite}
use Rattle.sheep_node.specs.Changes.{without_ended_work}
use Rattle.sheep_node.proofs.OneWorkParts.{Requests, Sessions}
use Rattle.sheep_node.proofs.ValidSteps.{given}
use Rattle.sheep_node.proofs.ValidityChanges.{put_is, gone_is}
use Rattle.overlap_law.specs.MadeTables.{inode_to_open, inode_of_course}
use Rattle.overlap_law.proofs.DriverNames.{read_stays, write_stays}
use Rattle.overlap_law.proofs.KnownDisks.{FewAt}
use Rattle.sheep_node.proofs.ChangeWalk.{freed_holds}
use Rattle.guest_driver.specs.InodeQueue.{InodeQueue}
use Rattle.sheep_node.specs.SessionQueues.{session_among}

module _ (T : Content → Type 0) where
  -- ---- of requests and sessions

  abbrev pub IsSoCourse : Course → Type 0
  IsSoCourse course = IfSome (inode_of_course course) T

  abbrev pub IsSoOpen : Option Disk → Type 0
  IsSoOpen disk = IfSome disk (λ (disk : Disk). T disk.inode)

  pub record AreSo (requests : Requests) (sessions : Sessions) : Type 0 where
    pub courses : EachIs (λ (request : Request). IsSoCourse request.course) requests
    pub opened : EachIs (λ (session : Session). IsSoOpen session.disk) sessions

  abbrev pub AreSoFar : StepState → Type 0
  AreSoFar so_far = AreSo so_far.node.requests so_far.node.sessions

  open_in_so : (requests : Requests) (sessions : Sessions) (number : ℕ) → AreSo requests sessions
      → IsSoOpen (session_among number sessions).disk
  open_in_so requests sessions number all = by_got (tree.get sessions number) refl
    where
      by_got : (o : Option Session) → tree.get sessions number ≡ o → IsSoOpen (unwrap_or o new_session).disk
      by_got None none = tt
      by_got (Some session) got = all.opened number session got

  pub open_so : (number : ℕ) (so_far : StepState) → AreSoFar so_far → IsSoOpen (session_in number so_far).disk
  open_so number so_far all = open_in_so so_far.node.requests so_far.node.sessions number all

  inode_so : (disk : Option Disk) → IsSoOpen disk → IfSome (inode_open disk) T
  inode_so None is = tt
  inode_so (Some disk) is = is

  pub session_so : (requests : Requests) (sessions : Sessions) (number : ℕ) (session : Session) → IsSoOpen session.disk
      → AreSo requests sessions → AreSo requests (tree.insert sessions number session)
  session_so requests sessions number session is all = record {
    courses = all.courses;
    opened = put_is (λ (session : Session). IsSoOpen session.disk) sessions number session is all.opened;
  }

  pub request_so : (requests : Requests) (sessions : Sessions) (req session : ℕ) (course : Course) → IsSoCourse course
      → AreSo requests sessions → AreSo (tree.insert requests req (record { session = session; course = course })) sessions
  request_so requests sessions req session course is all = record {
    courses =
        put_is (λ (request : Request). IsSoCourse request.course) requests req (record { session = session; course = course }) is
        all.courses;
    opened = all.opened;
  }

  pub ended_so : (number req : ℕ) (reply : GuestRsp) (so_far : StepState) → AreSoFar so_far
      → AreSoFar (request_ended number req reply so_far)
  unfolding request_ended
  ended_so number req reply so_far all =
      session_so (tree.remove so_far.node.requests req) so_far.node.sessions number
      (record (session_in number so_far) { queue = queue_without req (session_in number so_far).queue; command = None })
      (open_so number so_far all)
      (record {
        courses = gone_is (λ (request : Request). IsSoCourse request.course) so_far.node.requests req all.courses;
        opened = all.opened;
      })

  pub lined_so : (requests : Requests) (sessions : Sessions) (number : ℕ) (queue : InodeQueue) → AreSo requests sessions
      → AreSo requests (tree.insert sessions number (record (session_among number sessions) { inode_queue = queue }))
  lined_so requests sessions number queue all =
      session_so requests sessions number (record (session_among number sessions) { inode_queue = queue })
      (open_in_so requests sessions number all) all

  pub freed_so : (number req : ℕ) (work : Work) (status : Status) (so_far : StepState) → AreSoFar so_far
      → AreSoFar (without_ended_work number req work status so_far)
  freed_so = freed_holds AreSo lined_so

  pub sole_so : (number req : ℕ) (course : Course) (so_far : StepState) → IsSoCourse course → AreSoFar so_far
      → AreSoFar (with_sole_request number req course so_far)
  sole_so number req course so_far is all =
      session_so (tree.insert so_far.node.requests req (record { session = number; course = course })) so_far.node.sessions number
      (record (session_in number so_far) { command = Some req }) (open_so number so_far all)
      (request_so so_far.node.requests so_far.node.sessions req number course is all)

  pub driven_so : (number req : ℕ) (disk : Disk) (step : DriverStep) (so_far : StepState) → T step.inode → AreSoFar so_far
      → AreSoFar (after_driver_step number req disk step so_far)
  driven_so number req disk step so_far is all =
      session_so (tree.insert so_far.node.requests req (record { session = number; course = Driving step.driver })) so_far.node.sessions
      number
      (record (session_in number so_far) { disk = Some (record disk { inode = step.inode }) }) is
      (request_so so_far.node.requests so_far.node.sessions req number (Driving step.driver) tt all)

  -- ---- a read or write

  done_so : (inode : Content) (bytes payload : List ℕ) (piece : Piece) (rest : List Piece) (stage : DriverStage) (work : Work)
      → T inode → IsWorkOfWrite inode payload piece work.work stage
      → (work.work ≡ write_entry inode piece → T (table_with_entry inode piece)) → T (write_done inode bytes payload piece rest stage).inode
  done_so inode bytes payload piece rest InPlace work is wants here = subst T (sym (write_stays inode payload rest)) is
  done_so inode bytes payload piece rest Fetching work is wants here = is
  done_so inode bytes payload piece rest Creating work is wants here = is
  done_so inode bytes payload piece rest Entering work is wants here =
      subst T (sym (write_stays (table_with_entry inode piece) payload rest)) (here wants)

  pub goes_so : (inode : Content) (bytes : List ℕ) (driver : Driver) (step : DriverStep) (work : Work)
      → driver_on_done inode bytes driver ≡ Some step
      → T inode → IsWorkOfDriver inode driver work.work → All FewAt (pieces_left driver)
      → ((piece : Piece) → work.work ≡ write_entry inode piece → FewAt piece → T (table_with_entry inode piece)) → T step.inode
  unfolding driver_on_done
  goes_so inode bytes (Reads told piece rest) step work next is wants few enters =
      given (λ (s : DriverStep). T s.inode) next (subst T (sym (read_stays inode (told ++ bytes) rest)) is)
  goes_so inode bytes (Writes payload stage piece rest) step work next is wants few enters =
      given (λ (s : DriverStep). T s.inode) next
      (done_so inode bytes payload piece rest stage work is wants
      (λ entering. enters piece entering (All-head FewAt piece rest few)))
  goes_so inode bytes drivers.Answered step work next is wants few enters = absurd (cc (next))

  -- ---- a command

  -- what it leaves open
  abbrev pub IsSoChange : DiskChange → Type 0
  IsSoChange Stays = Unit {0}
  IsSoChange (Opens snapshot inode) = T inode
  IsSoChange Closes = Unit {0}

  abbrev pub IsSoEnd : OpStage → Type 0
  IsSoEnd (Asked entry) = Unit {0}
  IsSoEnd (Working vid task) = Unit {0}
  IsSoEnd (Publishing entry opened) = Unit {0}
  IsSoEnd (Answered change) = IsSoChange change

  pub record IsSoStep (step : OpStep) : Type 0 where
    pub stage : IfSome (inode_to_open step.op.stage) T
    pub end : IsSoEnd step.op.stage

  left_so : (stage : OpStage) (disk : Option Disk) → IsSoEnd stage → IsSoOpen disk → IsSoOpen (disk_after (disk_change_at stage) disk)
  left_so (Asked entry) disk end was = was
  left_so (Working vid task) disk end was = was
  left_so (Publishing entry opened) disk end was = was
  left_so (Answered Stays) disk end was = was
  left_so (Answered (Opens snapshot inode)) disk end was = end
  left_so (Answered Closes) disk end was = tt

  pub commanded_so : (number req : ℕ) (step : OpStep) (so_far : StepState) → IsSoStep step → AreSoFar so_far
      → AreSoFar (after_command_step number req step so_far)
  commanded_so number req step so_far is all =
      let disk : Option Disk = (session_in number so_far).disk in
      session_so (tree.insert so_far.node.requests req (record { session = number; course = Commanding step.op })) so_far.node.sessions
      number
      (record (session_in number so_far) { disk = disk_after (disk_change_at step.op.stage) disk; command = Some req })
      (left_so step.op.stage disk is.end (open_so number so_far all))
      (request_so so_far.node.requests so_far.node.sessions req number (Commanding step.op) is.stage all)

  begins_so : (step : OpStep) (entry : Option Entry) (me : NodeId) (session : ℕ) → option_map (first_step me session) entry ≡ Some step
      → IsSoStep step
  begins_so step None me session is = absurd (cc (is))
  begins_so step (Some entry) me session is = given IsSoStep is (record { stage = tt; end = tt })

  pub command_begins-so : (me : NodeId) (session : ℕ) (ask : VdiAsk) (disk : Option Content) (step : OpStep)
      → begin_command me session ask disk ≡ Some step → IsSoStep step
  unfolding begin_command
  command_begins-so me session ask disk step is = begins_so step (first_entry me session disk ask) me session is

  -- where an inode was read, as its disk is opened
  abbrev pub ReadsSo : List ℕ → OpStage → Type 0
  ReadsSo bytes stage = (vid : Vid) (snapshot : Bool) (ids : List ℕ) (header : Header) → stage ≡ Working vid (Opening snapshot ids header)
      → T (inode_by header vid.0 (table_in ids header.spec bytes))

  task_so : (op : Op) (vid : Vid) (bytes : List ℕ) (task : Task) → IfSome (inode_to_open (Working vid task)) T
      → ReadsSo bytes (Working vid task) → IsSoStep (task_done op vid bytes task)
  task_so op vid bytes (Opening true ids header) is reads = record { stage = tt; end = reads vid true ids header refl }
  task_so op vid bytes (Opening false ids header) is reads = record { stage = reads vid false ids header refl; end = tt }
  task_so op vid bytes (WritingBack inode) is reads = record { stage = tt; end = is }
  task_so op vid bytes (Tagging old inode) is reads = record { stage = is; end = tt }
  task_so op vid bytes (Copying ids header) is reads = record { stage = tt; end = tt }
  task_so op vid bytes (Making entry opened) is reads = record { stage = is; end = tt }

  pub command_goes_on-so : (bytes : List ℕ) (op : Op) (step : OpStep) → op_on_done bytes op ≡ Some step
      → IfSome (inode_to_open op.stage) T → ReadsSo bytes op.stage → IsSoStep step
  unfolding op_on_done
  command_goes_on-so bytes op step next is reads = by_stage op.stage next is reads
    where
      by_stage : (stage : OpStage) → done_at bytes op stage ≡ Some step → IfSome (inode_to_open stage) T → ReadsSo bytes stage
          → IsSoStep step
      by_stage (Asked entry) next is reads = absurd (cc (next))
      by_stage (Working vid task) next is reads = given IsSoStep next (task_so op vid bytes task is reads)
      by_stage (Publishing entry opened) next is reads = absurd (cc (next))
      by_stage (Answered change) next is reads = absurd (cc (next))

  -- ---- behind a decision

  -- where an id is granted that is to take the place of a disk, its table is the disk's
  abbrev pub TakesOver : List Effect → Option Content → Decision → OpStage → Type 0
  TakesOver known disk decision stage = (by : NodeId) (of : ℕ) (name tag : List ℕ) (vid : Vid) (old : Content) (header : Header)
      → stage ≡ Asked (Reserve by of name (SnapshotOf tag)) → decision ≡ decisions.Granted vid → disk ≡ Some old
      → header_of known vid.0 ≡ Some header → T old → T (inode_by header vid.0 old.table)

  plain : (step made : OpStep) → Some made ≡ Some step → IfSome (inode_to_open made.op.stage) T → IsSoEnd made.op.stage → IsSoStep step
  plain step made next stage end = given IsSoStep next (record { stage = stage; end = end })

  without_grant-so : (entry : Entry) → IsSoChange (change_without_grant entry)
  without_grant-so (Format members) = tt
  without_grant-so (Join node zone vnodes) = tt
  without_grant-so (Leave node) = tt
  without_grant-so (Reweight node vnodes) = tt
  without_grant-so (Recovered node epoch) = tt
  without_grant-so (Reserve by session name origin) = tt
  without_grant-so (Publish by vid) = tt
  without_grant-so (Clone by vid) = tt
  without_grant-so (Snapshot by old vid) = tt
  without_grant-so (Delete by session name tag) = tt
  without_grant-so (Lock by session name tag) = tt
  without_grant-so (Unlock by session vid) = tt

  module _ (known : List Effect) (disk : Option Content) (op : Op) (step : OpStep) (decision : Decision) (opened : IfSome disk T)
      (takes : TakesOver known disk decision op.stage) where
    granted_so : (vid : Vid) (header : Header) → header_of known vid.0 ≡ Some header → (entry : Entry) → op.stage ≡ Asked entry
        → decision ≡ decisions.Granted vid → step_after_grant op vid (chain_of known vid.0) disk entry header ≡ Some step
        → IsSoStep step
    granted_so vid header there (Format members) at granted next = absurd (cc (next))
    granted_so vid header there (Join node zone vnodes) at granted next = absurd (cc (next))
    granted_so vid header there (Leave node) at granted next = absurd (cc (next))
    granted_so vid header there (Reweight node vnodes) at granted next = absurd (cc (next))
    granted_so vid header there (Recovered node epoch) at granted next = absurd (cc (next))
    granted_so vid header there (Reserve by session name (Fresh spec)) at granted next = plain step _ next tt tt
    granted_so vid header there (Reserve by session name (SnapshotOf tag)) at granted next = by_disk disk refl opened next
      where
        by_disk : (o : Option Content) → disk ≡ o → IfSome o T → option_map (tag_step op vid tag header) o ≡ Some step → IsSoStep step
        by_disk None on is next = absurd (cc (next))
        by_disk (Some old) on is next = plain step _ next (takes by session name tag vid old header at granted on there is) tt
    granted_so vid header there (Reserve by session name (CloneOf base tag)) at granted next = by_parent header.parent next
      where
        by_parent : (o : Option Vid) → option_map (copy_step op vid (chain_of known vid.0) header) o ≡ Some step → IsSoStep step
        by_parent None next = absurd (cc (next))
        by_parent (Some parent) next = plain step _ next tt tt
    granted_so vid header there (Publish by made) at granted next = absurd (cc (next))
    granted_so vid header there (Clone by made) at granted next = absurd (cc (next))
    granted_so vid header there (Snapshot by old made) at granted next = absurd (cc (next))
    granted_so vid header there (Delete by session name tag) at granted next = plain step _ next tt tt
    granted_so vid header there (Lock by session name tag) at granted next = plain step _ next tt tt
    granted_so vid header there (Unlock by session old) at granted next = plain step _ next tt tt

    decision_so : (entry : Entry) → op.stage ≡ Asked entry → (made : Decision) → decision ≡ made
        → step_after_decision known disk op entry made ≡ Some step → IsSoStep step
    decision_so entry at decisions.None made next = plain step _ next tt (without_grant-so entry)
    decision_so entry at (decisions.Granted vid) made next = by_header (header_of known vid.0) refl next
      where
        by_header : (o : Option Header) → header_of known vid.0 ≡ o
            → option_and_then (step_after_grant op vid (chain_of known vid.0) disk entry) o ≡ Some step → IsSoStep step
        by_header None none next = absurd (cc (next))
        by_header (Some header) there next = granted_so vid header there entry at made next
    decision_so entry at (decisions.Refused cause) made next = plain step _ next tt (without_grant-so entry)

    pub command_decided-so : on_decision known disk decision op ≡ Some step → IfSome (inode_to_open op.stage) T → IsSoStep step
    unfolding on_decision
    command_decided-so next is = by_stage op.stage refl next is
      where
        by_opened : (entry : Entry) (made : Option Content) → IfSome made T
            → decided_at known disk decision op (Publishing entry made) ≡ Some step → IsSoStep step
        by_opened entry None is next = plain step _ next tt tt
        by_opened entry (Some inode) is next = plain step _ next tt is

        by_stage : (stage : OpStage) → op.stage ≡ stage → decided_at known disk decision op stage ≡ Some step
            → IfSome (inode_to_open stage) T → IsSoStep step
        by_stage (Asked entry) at next is = decision_so entry at decision refl next
        by_stage (Working vid task) at next is = absurd (cc (next))
        by_stage (Publishing entry made) at next is = by_opened entry made is next
        by_stage (Answered change) at next is = absurd (cc (next))

  pub opened_so : (number : ℕ) (so_far : StepState) → AreSoFar so_far → IfSome (inode_open (session_in number so_far).disk) T
  opened_so number so_far all = inode_so (session_in number so_far).disk (open_so number so_far all)
