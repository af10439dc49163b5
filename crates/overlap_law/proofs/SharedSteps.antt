-- Along a step what sessions have open, and what commands go on with, has tables whose entries name nothing, the disk itself, or a
-- snapshot; and what a node reads more leaves that so.
use Rattle.std.proofs.Common.{◌≡◌, inl, inr, ℕ, true, List, [], ◌∷◌, ◌++◌, Option, Some, None, IfSome, refl, sym, ap, subst, ◌∙◌}
use Rattle.std.specs.FinMap as tree
use Rattle.std.proofs.lemmas.List.Elements.{All-weaker}
use Rattle.object_id.specs.declared.entry.Entry.{Entry}
use Rattle.object_id.specs.declared.entry.Entry.TheVariants as entries
use Rattle.object_id.specs.declared.node.NodeId.{NodeId}
use Rattle.object_id.specs.declared.oid.Vid.{Vid}
use Rattle.inode.specs.Layout.{Content}
use Rattle.peer_service.specs.State.{effects_of}
use Rattle.peer_service.specs.LogReading.{decision_on}
use Rattle.vdi_directory.specs.declared.effect.Effect.{Effect}
use Rattle.vdi_directory.specs.Decisions.{log_effects}
use Rattle.guest_driver.specs.declared.disk.Disk.{Disk}
use Rattle.vdi_ops.specs.Steps.{on_decision}
use Rattle.vdi_ops.specs.Op.{Task, Opening, WritingBack, Tagging, Copying, Making, DiskChange, Stays, Opens, Closes, OpStage, Asked}
use Rattle.vdi_ops.specs.Op.{Working, Publishing, Answered, Op, OpStep}
use Rattle.sheep_node.specs.declared.course.Course.{Course}
use Rattle.sheep_node.specs.declared.course.Request.{Request}
use Rattle.sheep_node.specs.declared.course.Course.TheVariants.{Waiting, Driving, Commanding, Checking, DoingWork, AwaitingDecision}
use Rattle.sheep_node.specs.declared.input.Input.{Input}
use Rattle.sheep_node.specs.declared.input.Input.TheVariants as inputs
use Rattle.sheep_node.specs.AwaitedEntry.{waits_for_entry}
use Rattle.sheep_node.specs.Changes.{input_received, Leads}
use Rattle.sheep_node.specs.Courses.{inode_open}
use Rattle.sheep_node.specs.LogReading.{entry_read, on_back}
use Rattle.sheep_node.specs.SessionQueues.{session_among}
use Rattle.sheep_node.specs.State.{Node}
use Rattle.sheep_node.specs.StepFacts.{read_after}
use Rattle.sheep_node.specs.StepState.{StepState, at_first, session_in}
use Rattle.sheep_node.proofs.OneWorkParts.{Requests, Sessions}
use Rattle.sheep_node.proofs.PeerLog.{entries_reading}
use Rattle.overlap_law.specs.LastReads.{was_snapped}
use Rattle.overlap_law.proofs.AwaitedCommands.{waits_at}
use Rattle.overlap_law.proofs.ClaimCommands.{IsWaitedAt}
use Rattle.overlap_law.proofs.CountedEntries.{same_entry}
use Rattle.overlap_law.proofs.DiskWalk.{HasStage, IsAtStage, AreSo, IsKeptByParts, none_so, received_so, so_in_chain}
use Rattle.overlap_law.proofs.SharedTables.{IsSharedEntry, AreShared, IsSharedDisk, IsSharedMaking, IsSharedTask, IsSharedChange}
use Rattle.overlap_law.proofs.SharedTables.{IsSharedStage, begins_shared, goes_on_shared}
use Rattle.overlap_law.proofs.SharedCommands.{done_shared, decided_shared}
use Rattle.overlap_law.proofs.SnapshotChains.{was_then}

-- what the requests and sessions of a node have, by what it has read
abbrev pub AreSharing : List Entry → Requests → Sessions → Type 0
AreSharing read requests sessions = AreSo (IsSharedDisk read) (IsSharedStage read) requests sessions

-- ---- what is read grows

module _ (old new : List Entry) (grows : (vid : ℕ) → was_snapped old vid ≡ true → was_snapped new vid ≡ true) where
  entry_grows : (vid entry : ℕ) → IsSharedEntry old vid entry → IsSharedEntry new vid entry
  entry_grows vid entry (inl none) = inl none
  entry_grows vid entry (inr (inl own)) = inr (inl own)
  entry_grows vid entry (inr (inr snapped)) = inr (inr (grows entry snapped))

  table_grows : (vid : ℕ) (table : List ℕ) → AreShared old vid table → AreShared new vid table
  table_grows vid table all = All-weaker (IsSharedEntry old vid) (IsSharedEntry new vid) (entry_grows vid) table all

  disk_grows : (disk : Disk) → IsSharedDisk old disk → IsSharedDisk new disk
  disk_grows disk is = record {
    closed = λ snapshot. grows disk.inode.vid (is.closed snapshot);
    table = table_grows disk.inode.vid disk.inode.table is.table;
  }

  open_grows : (o : Option Disk) → IfSome o (IsSharedDisk old) → IfSome o (IsSharedDisk new)
  open_grows None is = tt
  open_grows (Some disk) is = disk_grows disk is

  making_grows : (entry : Entry) (made : Option Content) → IsSharedMaking old entry made → IsSharedMaking new entry made
  making_grows (entries.Format members) made is = is
  making_grows (entries.Join node zone vnodes) made is = is
  making_grows (entries.Leave node) made is = is
  making_grows (entries.Reweight node vnodes) made is = is
  making_grows (entries.Recovered node epoch) made is = is
  making_grows (entries.Reserve by session name origin) made is = is
  making_grows (entries.Publish by vid) made is = is
  making_grows (entries.Clone by vid) made is = is
  making_grows (entries.Snapshot by of vid) None is = tt
  making_grows (entries.Snapshot by of vid) (Some inode) is = table_grows of.0 inode.table is
  making_grows (entries.Delete by session name tag) made is = is
  making_grows (entries.Lock by session name tag) made is = is
  making_grows (entries.Unlock by session vid) made is = is

  parent_grows : (o : Option Vid) → IfSome o (λ (parent : Vid). was_snapped old parent.0 ≡ true)
      → IfSome o (λ (parent : Vid). was_snapped new parent.0 ≡ true)
  parent_grows None is = tt
  parent_grows (Some parent) is = grows parent.0 is

  task_grows : (vid : Vid) (task : Task) → IsSharedTask old vid task → IsSharedTask new vid task
  task_grows vid (Opening snapshot ids header) is =
      record { closed = λ tagged. grows vid.0 (is.closed tagged); ids_so = table_grows vid.0 ids is.ids_so }
  task_grows vid (WritingBack inode) is = table_grows inode.vid inode.table is
  task_grows vid (Tagging of inode) is = table_grows of.0 inode.table is
  task_grows vid (Copying ids header) is = parent_grows header.parent is
  task_grows vid (Making entry made) is = making_grows entry made is

  change_grows : (change : DiskChange) → IsSharedChange old change → IsSharedChange new change
  change_grows Stays is = tt
  change_grows (Opens snapshot inode) is = disk_grows (record { inode = inode; snapshot = snapshot }) is
  change_grows Closes is = tt

  stage_grows : (stage : OpStage) → IsSharedStage old stage → IsSharedStage new stage
  stage_grows (Asked entry) is = tt
  stage_grows (Working vid task) is = task_grows vid task is
  stage_grows (Publishing entry made) is = making_grows entry made is
  stage_grows (Answered change) is = change_grows change is

  course_grows : (course : Course) → HasStage (IsSharedDisk old) (IsSharedStage old) course
      → HasStage (IsSharedDisk new) (IsSharedStage new) course
  course_grows (Waiting ask) is = tt
  course_grows (Driving driver) is = tt
  course_grows (Commanding op) is = stage_grows op.stage is
  course_grows (Checking check) is = tt
  course_grows (DoingWork work) is = tt
  course_grows (AwaitingDecision entry) is = tt

  request_grows : (o : Option Request) → IsAtStage (IsSharedDisk old) (IsSharedStage old) o
      → IsAtStage (IsSharedDisk new) (IsSharedStage new) o
  request_grows None is = tt
  request_grows (Some request) is = course_grows request.course is

  sharing_grows : (requests : Requests) (sessions : Sessions) → AreSharing old requests sessions → AreSharing new requests sessions
  sharing_grows requests sessions all = record {
    disks = λ number. open_grows (session_among number sessions).disk (all.disks number);
    stages = λ req. request_grows (tree.get requests req) (all.stages req);
  }

-- ---- a step

opened_table : (read : List Entry) (o : Option Disk) → IfSome o (IsSharedDisk read)
    → IfSome (inode_open o) (λ (inode : Content). AreShared read inode.vid inode.table)
opened_table read None is = tt
opened_table read (Some disk) is = is.table

waited : (entry : Entry) (stage : OpStage) → waits_at entry stage ≡ true → IsWaitedAt entry stage
waited entry (Asked wanted) is = same_entry wanted entry is
waited entry (Working vid task) is = absurd (cc (is))
waited entry (Publishing wanted made) is = same_entry wanted entry is
waited entry (Answered change) is = absurd (cc (is))

-- a snapshot's entry that a node reads makes its disk one
abbrev pub ReadsTaken : Input → Node → Type 0
ReadsTaken input node =
    (entry : Entry) → input ≡ inputs.LogEntry entry → (by : NodeId) (old vid : Vid) → entry ≡ entries.Snapshot by old vid
    → was_snapped (node.peer.entries ++ entry ∷ []) old.0 ≡ true

module _ (input : Input) (node : Node) (taken : ReadsTaken input node) where
  abbrev read : List Entry
  read = read_after input node.peer.entries

  decided : (so_far : StepState) (session : ℕ) (entry : Entry) (op : Op) (step : OpStep) → input ≡ inputs.LogEntry entry
      → so_far.node.peer ≡ (entry_read entry node).peer → waits_for_entry entry (Commanding op) ≡ true
      → on_decision (effects_of so_far.node.peer) (inode_open (session_in session so_far).disk) (decision_on entry node.peer) op ≡ Some step
      → IfSome (session_in session so_far).disk (IsSharedDisk (read_after input node.peer.entries))
      → IsSharedStage (read_after input node.peer.entries) op.stage
      → IsSharedStage (read_after input node.peer.entries) step.op.stage
  decided so_far session entry op step from peer waits next opened is =
      let longer : read_after input node.peer.entries ≡ node.peer.entries ++ entry ∷ []
      = ap (λ (input : Input). read_after input node.peer.entries) from in
      let known : effects_of so_far.node.peer ≡ log_effects (node.peer.entries ++ entry ∷ [])
      = ap effects_of peer ∙ ap log_effects (entries_reading entry node) in
      subst (λ (all : List Entry). IsSharedStage all step.op.stage) (sym longer)
      (decided_shared node.peer.entries entry op step (inode_open (session_in session so_far).disk) (taken entry from)
      (opened_table (node.peer.entries ++ entry ∷ []) (session_in session so_far).disk
      (subst (λ (all : List Entry). IfSome (session_in session so_far).disk (IsSharedDisk all)) longer opened))
      (subst (λ (effects : List Effect). on_decision effects (inode_open (session_in session so_far).disk)
      (decision_on entry node.peer) op ≡ Some step)
      known next)
      (waited entry op.stage waits)
      (subst (λ (all : List Entry). IsSharedStage all op.stage) longer is))

  parts_share : IsKeptByParts (IsSharedDisk (read_after input node.peer.entries))
      (IsSharedStage (read_after input node.peer.entries)) input node
  parts_share = record {
    begins = λ disk ask is. begins_shared read disk is ask;
    goes_on = λ disk bytes driver step next is. goes_on_shared read disk is bytes driver step next;
    asked = λ entry. tt;
    done = done_shared read;
    decided = decided;
    opens = λ snapshot inode is. is;
  }

  -- as the input is received, what was read before is read still
  received : AreSharing node.peer.entries node.requests node.sessions
      → AreSharing (read_after input node.peer.entries) (input_received input (at_first node)).node.requests
      (input_received input (at_first node)).node.sessions
  unfolding on_back
  received all = by_input input refl
    where
      later : (all : List Entry) → ((vid : ℕ) → was_snapped node.peer.entries vid ≡ true → was_snapped all vid ≡ true)
          → (given : Input)
          → AreSharing all (input_received given (at_first node)).node.requests (input_received given (at_first node)).node.sessions
      later read grows given =
          received_so (IsSharedDisk read) (IsSharedStage read) given node
          (sharing_grows node.peer.entries read grows node.requests node.sessions all)

      still : (given : Input)
          → AreSharing node.peer.entries (input_received given (at_first node)).node.requests
          (input_received given (at_first node)).node.sessions
      still given = later node.peer.entries (λ vid is. is) given

      by_input : (given : Input) → input ≡ given
          → AreSharing (read_after given node.peer.entries) (input_received given (at_first node)).node.requests
          (input_received given (at_first node)).node.sessions
      by_input (inputs.Guest req session ask) from = still (inputs.Guest req session ask)
      by_input (inputs.Request request) from = still (inputs.Request request)
      by_input (inputs.Reply rsp) from = still (inputs.Reply rsp)
      by_input (inputs.Lost number) from = still (inputs.Lost number)
      by_input (inputs.LogEntry entry) from =
          later (node.peer.entries ++ entry ∷ []) (λ vid is. was_then node.peer.entries entry vid is) (inputs.LogEntry entry)
      by_input inputs.Put from = still inputs.Put
      by_input inputs.RecoverTick from = still inputs.RecoverTick
      by_input inputs.RetryTick from = still inputs.RetryTick
      by_input (inputs.Back back) from = none_so (IsSharedDisk back) (IsSharedStage back)

  pub shared_in_chain : AreSharing node.peer.entries node.requests node.sessions → (so_far : StepState)
      → Leads input node (input_received input (at_first node)) so_far
      → AreSharing (read_after input node.peer.entries) so_far.node.requests so_far.node.sessions
  shared_in_chain all so_far leads = so_in_chain (IsSharedDisk read) (IsSharedStage read) input node parts_share (received all) so_far leads
