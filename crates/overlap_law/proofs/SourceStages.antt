-- What a command that makes an inode was granted its id for: a clone's base is copied for an id that was reserved for a clone, and what is
-- published as a new disk was reserved for one. So it is along a step, and stays so as a node reads more.
use Rattle.std.specs.FinMap as tree
use Rattle.object_id.specs.declared.cause.Cause.TheVariants as causes
use Rattle.object_id.specs.declared.entry.Entry.TheVariants as entries
use Rattle.vdi_directory.specs.declared.decision.Decision.TheVariants as decisions
use Rattle.vdi_directory.specs.declared.effect.Effect.TheVariants as effects
use Rattle.vdi_directory.specs.declared.effect.Source.TheVariants as sources
use Rattle.std.proofs.Common.{◌≡◌, ℕ, ◌==◌, true, false, List, [], ◌∷◌, ◌++◌, Option, Some, None, IfSome, refl, sym, ap, subst}
use Rattle.std.proofs.Common.{◌∙◌}
use Rattle.std.specs.Option.{option_and_then, option_map}
use Rattle.std.proofs.lemmas.Bool.{eq-eqb, or_right}
use Rattle.std.proofs.lemmas.Option.{same_Some}
use Rattle.proof_tools.proofs.Booleans.{cond_either}
use Rattle.object_id.specs.declared.cause.Cause.{Cause}
use Rattle.object_id.specs.declared.entry.Entry.{Entry}
use Rattle.object_id.specs.declared.entry.Origin.TheVariants.{Fresh, SnapshotOf, CloneOf}
use Rattle.object_id.specs.declared.entry.VdiSpec.{VdiSpec}
use Rattle.object_id.specs.declared.node.NodeId.{NodeId}
use Rattle.object_id.specs.declared.oid.Vid.{Vid}
use Rattle.inode.specs.Layout.{Content}
use Rattle.guest_driver.specs.declared.disk.Disk.{Disk}
use Rattle.vdi_directory.specs.Chains.{chain_of}
use Rattle.vdi_directory.specs.Decisions.{log_effects, outcome, refusal_outcome, is_taken, grant_of, or_full, reservation_outcome}
use Rattle.vdi_directory.specs.Decisions.{decision_after, with_spec, reserved_clone}
use Rattle.vdi_directory.specs.Effects.{grants, header_of, is_used, name_of, reservation_on, reservations_of}
use Rattle.vdi_directory.specs.Names.{is_live_name, snapshot_with_tag}
use Rattle.vdi_directory.specs.Sound.{IsLawful}
use Rattle.vdi_directory.specs.Vids.{free_id}
use Rattle.vdi_directory.specs.declared.decision.Decision.{Decision}
use Rattle.vdi_directory.specs.declared.decision.Outcome.{Outcome as Decided}
use Rattle.vdi_directory.specs.declared.effect.Effect.{Effect}
use Rattle.vdi_directory.specs.declared.effect.Grant.{Grant}
use Rattle.vdi_directory.specs.declared.effect.Reservation.{Reservation}
use Rattle.vdi_directory.specs.declared.effect.Source.{Source}
use Rattle.vdi_directory.specs.declared.header.Header.{Header}
use Rattle.vdi_directory.proofs.LawfulEntries.{lawful-outcome, sound-log_effects}
use Rattle.peer_service.specs.LogReading.{decision_on}
use Rattle.peer_service.specs.State.{effects_of}
use Rattle.vdi_ops.specs.Op.{Task, Opening, WritingBack, Tagging, Copying, Making, OpStage, Asked, Working, Publishing, Answered}
use Rattle.vdi_ops.specs.Op.{Op, OpStep}
use Rattle.vdi_ops.specs.Steps.{tag_step, copy_step, step_after_grant, step_after_decision, decided_at, on_decision, task_done, done_at}
use Rattle.vdi_ops.specs.Steps.{op_on_done}
use Rattle.sheep_node.specs.declared.course.Course.{Course}
use Rattle.sheep_node.specs.declared.course.Course.TheVariants.{Waiting, Driving, Commanding, Checking, DoingWork, AwaitingDecision}
use Rattle.sheep_node.specs.declared.course.Request.{Request}
use Rattle.sheep_node.specs.declared.input.Input.{Input}
use Rattle.sheep_node.specs.declared.input.Input.TheVariants as inputs
use Rattle.sheep_node.specs.AwaitedEntry.{waits_for_entry}
use Rattle.sheep_node.specs.Changes.{input_received, Leads}
use Rattle.sheep_node.specs.Courses.{inode_open}
use Rattle.sheep_node.specs.LogReading.{entry_read, on_back}
use Rattle.sheep_node.specs.SessionQueues.{session_among}
use Rattle.sheep_node.specs.State.{Node}
use Rattle.sheep_node.specs.StepFacts.{read_after}
use Rattle.sheep_node.specs.StepState.{StepState, at_first, session_in}
use Rattle.sheep_node.proofs.OneWorkParts.{Requests, Sessions}
use Rattle.sheep_node.proofs.ValidSteps.{given}
use Rattle.overlap_law.proofs.AwaitedCommands.{waits_at}
use Rattle.overlap_law.proofs.CountedEntries.{same_entry}
use Rattle.overlap_law.proofs.DiskWalk.{HasStage, IsAtStage, AreSo, IsKeptByParts, none_so, received_so, so_in_chain}
use Rattle.overlap_law.proofs.DraftsOfLogs.{found}
use Rattle.overlap_law.proofs.GrantedEpochs.{from_front, used_next, used_push}
use Rattle.overlap_law.proofs.OldReservations.{reservation_was}

-- an id was reserved for this
pub record StandsAs (read : List Entry) (vid : ℕ) (source : Source) : Type 0 where
  pub used : is_used (log_effects read) vid ≡ true
  pub source_so : (r : Reservation) → reservation_on (record { 0 = vid }) (reservations_of (log_effects read)) ≡ Some r → r.source ≡ source

pub stands_later : (read later : List Entry) (vid : ℕ) (source : Source) → StandsAs read vid source → StandsAs (read ++ later) vid source
stands_later read later vid source is = record {
  used = from_front (λ (all : List Entry). is_used (log_effects all) vid ≡ true) (λ log entry used. used_next log entry vid used) read
      later is.used;
  source_so = λ r stands. is.source_so r (reservation_was read later vid r is.used stands);
}

-- ---- as it is reserved

abbrev IsGrantFor : Source → Decided → Type 0
IsGrantFor source made = (vid : Vid) → made.decision ≡ decisions.Granted vid
    → (grant : Grant) × (made.effect ≡ effects.Reserved grant) × (grant.reservation.vid ≡ vid) × (grant.reservation.source ≡ source)

module _ (before : List Effect) (by : NodeId) (session : ℕ) (name : List ℕ) (source : Source) where
  refused_for : (cause : Cause) → IsGrantFor source (refusal_outcome cause)
  refused_for cause vid is = absurd (cc (is))

  free_for : (parent : Option Vid) (spec : VdiSpec) (free : Option ℕ)
      → IsGrantFor source (or_full free (grant_of before by session name source parent spec))
  free_for parent spec None vid is = absurd (cc (is))
  free_for parent spec (Some id) vid is = let same : record { 0 = id } ≡ vid = cc (is) in (_, refl, same, refl)

  spec_for : (parent : Option Vid) (header : Option Header)
      → IsGrantFor source (with_spec header (reservation_outcome before by session name source parent))
  spec_for parent None = λ vid is. absurd (cc (is))
  spec_for parent (Some header) = free_for parent header.spec (free_id name (is_used before))

module _ (before : List Effect) (by : NodeId) (session : ℕ) (name : List ℕ) where
  fresh_for : (spec : VdiSpec) → IsGrantFor sources.Fresh (outcome before (entries.Reserve by session name (Fresh spec)))
  fresh_for spec =
      cond_either (IsGrantFor sources.Fresh) (is_taken before name) (refusal_outcome causes.VdiExist)
      (reservation_outcome before by session name sources.Fresh None spec)
      (refused_for before by session name sources.Fresh causes.VdiExist)
      (free_for before by session name sources.Fresh None spec (free_id name (is_used before)))

  based_for : (from : Option Vid) → IsGrantFor sources.Clone (reserved_clone before by session name from)
  based_for None = refused_for before by session name sources.Clone causes.NoTag
  based_for (Some base) =
      cond_either (IsGrantFor sources.Clone) (is_taken before name) (refusal_outcome causes.VdiExist)
      (with_spec (header_of before base.0) (reservation_outcome before by session name sources.Clone (Some base)))
      (refused_for before by session name sources.Clone causes.VdiExist)
      (spec_for before by session name sources.Clone (Some base) (header_of before base.0))

  clone_for : (base tag : List ℕ) → IsGrantFor sources.Clone (outcome before (entries.Reserve by session name (CloneOf base tag)))
  clone_for base tag =
      cond_either (IsGrantFor sources.Clone) (is_live_name (name_of before base))
      (reserved_clone before by session name (snapshot_with_tag tag (name_of before base))) (refusal_outcome causes.NoBaseVdi)
      (based_for (snapshot_with_tag tag (name_of before base)))
      (refused_for before by session name sources.Clone causes.NoBaseVdi)

module _ (before : List Entry) (entry : Entry) (vid : Vid) (source : Source)
    (for : IsGrantFor source (outcome (log_effects before) entry)) (granted : decision_after before entry ≡ decisions.Granted vid) where
  stands_now : StandsAs (before ++ entry ∷ []) vid.0 source
  stands_now =
      let effect : Effect = (outcome (log_effects before) entry).effect in
      let (grant, is, id, so) = for vid granted in
      let same : grant.reservation.vid.0 ≡ vid.0 = ap (λ (v : Vid). v.0) id in
      let here : (grant.reservation.vid.0 == vid.0) ≡ true = eq-eqb grant.reservation.vid.0 vid.0 same in
      let lawful : IsLawful (log_effects before) (effects.Reserved grant)
      = subst (IsLawful (log_effects before)) is (lawful-outcome (log_effects before) (sound-log_effects before) entry) in
      let unused : is_used (log_effects before) vid.0 ≡ false = ap (is_used (log_effects before)) (sym same) ∙ lawful.1 in
      record {
        used = used_push before entry vid.0
            ∙ or_right (is_used (log_effects before) vid.0) (grants vid.0 effect) (ap (grants vid.0) is ∙ here);
        source_so = λ r stands.
            ap (λ (x : Reservation). x.source)
            (same_Some r grant.reservation (sym stands ∙ found before entry vid.0 unused grant is here)) ∙ so;
      }

-- ---- what a command goes on for

abbrev pub IsSourceMaking : List Entry → Entry → Type 0
IsSourceMaking read (entries.Format members) = Unit {0}
IsSourceMaking read (entries.Join node zone vnodes) = Unit {0}
IsSourceMaking read (entries.Leave node) = Unit {0}
IsSourceMaking read (entries.Reweight node vnodes) = Unit {0}
IsSourceMaking read (entries.Recovered node epoch) = Unit {0}
IsSourceMaking read (entries.Reserve by session name origin) = Unit {0}
IsSourceMaking read (entries.Publish by vid) = StandsAs read vid.0 sources.Fresh
IsSourceMaking read (entries.Clone by vid) = StandsAs read vid.0 sources.Clone
IsSourceMaking read (entries.Snapshot by old vid) = Unit {0}
IsSourceMaking read (entries.Delete by session name tag) = Unit {0}
IsSourceMaking read (entries.Lock by session name tag) = Unit {0}
IsSourceMaking read (entries.Unlock by session vid) = Unit {0}

abbrev pub IsSourceTask : List Entry → Vid → Task → Type 0
IsSourceTask read vid (Opening snapshot ids header) = Unit {0}
IsSourceTask read vid (WritingBack inode) = Unit {0}
IsSourceTask read vid (Tagging old inode) = Unit {0}
IsSourceTask read vid (Copying ids header) = StandsAs read vid.0 sources.Clone
IsSourceTask read vid (Making entry made) = IsSourceMaking read entry

abbrev pub IsSourceStage : List Entry → OpStage → Type 0
IsSourceStage read (Asked entry) = Unit {0}
IsSourceStage read (Working vid task) = IsSourceTask read vid task
IsSourceStage read (Publishing entry made) = Unit {0}
IsSourceStage read (Answered change) = Unit {0}

-- of an open disk nothing is said
abbrev pub IsAnyDisk : Disk → Type 0
IsAnyDisk disk = Unit {0}

abbrev pub AreSourced : List Entry → Requests → Sessions → Type 0
AreSourced read requests sessions = AreSo IsAnyDisk (IsSourceStage read) requests sessions

any_open : (o : Option Disk) → IfSome o IsAnyDisk
any_open None = tt
any_open (Some disk) = tt

-- ---- what is read grows

module _ (read later : List Entry) where
  making_later : (entry : Entry) → IsSourceMaking read entry → IsSourceMaking (read ++ later) entry
  making_later (entries.Format members) is = tt
  making_later (entries.Join node zone vnodes) is = tt
  making_later (entries.Leave node) is = tt
  making_later (entries.Reweight node vnodes) is = tt
  making_later (entries.Recovered node epoch) is = tt
  making_later (entries.Reserve by session name origin) is = tt
  making_later (entries.Publish by vid) is = stands_later read later vid.0 sources.Fresh is
  making_later (entries.Clone by vid) is = stands_later read later vid.0 sources.Clone is
  making_later (entries.Snapshot by old vid) is = tt
  making_later (entries.Delete by session name tag) is = tt
  making_later (entries.Lock by session name tag) is = tt
  making_later (entries.Unlock by session vid) is = tt

  stage_later : (stage : OpStage) → IsSourceStage read stage → IsSourceStage (read ++ later) stage
  stage_later (Asked entry) is = tt
  stage_later (Working vid (Opening snapshot ids header)) is = tt
  stage_later (Working vid (WritingBack inode)) is = tt
  stage_later (Working vid (Tagging old inode)) is = tt
  stage_later (Working vid (Copying ids header)) is = stands_later read later vid.0 sources.Clone is
  stage_later (Working vid (Making entry made)) is = making_later entry is
  stage_later (Publishing entry made) is = tt
  stage_later (Answered change) is = tt

  request_later : (o : Option Request) → IsAtStage IsAnyDisk (IsSourceStage read) o → IsAtStage IsAnyDisk (IsSourceStage (read ++ later)) o
  request_later None is = tt
  request_later (Some request) is = by_course request.course is
    where
      by_course : (course : Course) → HasStage IsAnyDisk (IsSourceStage read) course
          → HasStage IsAnyDisk (IsSourceStage (read ++ later)) course
      by_course (Waiting ask) is = tt
      by_course (Driving driver) is = tt
      by_course (Commanding op) is = stage_later op.stage is
      by_course (Checking check) is = tt
      by_course (DoingWork work) is = tt
      by_course (AwaitingDecision entry) is = tt

  sourced_later : (requests : Requests) (sessions : Sessions) → AreSourced read requests sessions
      → AreSourced (read ++ later) requests sessions
  sourced_later requests sessions all = record {
    disks = λ number. any_open (session_among number sessions).disk;
    stages = λ req. request_later (tree.get requests req) (all.stages req);
  }

-- ---- what a command does

task_sourced : (read : List Entry) (op : Op) (vid : Vid) (bytes : List ℕ) (task : Task) → IsSourceTask read vid task
    → IsSourceStage read (task_done op vid bytes task).op.stage
task_sourced read op vid bytes (Opening true ids header) is = tt
task_sourced read op vid bytes (Opening false ids header) is = tt
task_sourced read op vid bytes (WritingBack inode) is = tt
task_sourced read op vid bytes (Tagging old inode) is = tt
task_sourced read op vid bytes (Copying ids header) is = is
task_sourced read op vid bytes (Making entry made) is = tt

done_sourced : (read : List Entry) (bytes : List ℕ) (op : Op) (step : OpStep) → op_on_done bytes op ≡ Some step
    → IsSourceStage read op.stage → IsSourceStage read step.op.stage
unfolding op_on_done
done_sourced read bytes op step next is = by_stage op.stage next is
  where
    by_stage : (stage : OpStage) → done_at bytes op stage ≡ Some step → IsSourceStage read stage → IsSourceStage read step.op.stage
    by_stage (Asked entry) next is = absurd (cc (next))
    by_stage (Working vid task) next is =
        given (λ (s : OpStep). IsSourceStage read s.op.stage) next (task_sourced read op vid bytes task is)
    by_stage (Publishing entry made) next is = absurd (cc (next))
    by_stage (Answered change) next is = absurd (cc (next))

module _ (before : List Entry) (entry : Entry) (op : Op) (step : OpStep) (disk : Option Content) where
  abbrev Is : OpStep → Type 0
  Is made = IsSourceStage (before ++ entry ∷ []) made.op.stage

  by_grant : (vid : Vid) (chain : List ℕ) (header : Header) (e : Entry) → entry ≡ e → decision_after before entry ≡ decisions.Granted vid
      → step_after_grant op vid chain disk e header ≡ Some step → Is step
  by_grant vid chain header (entries.Format members) same granted next = absurd (cc (next))
  by_grant vid chain header (entries.Join node zone vnodes) same granted next = absurd (cc (next))
  by_grant vid chain header (entries.Leave node) same granted next = absurd (cc (next))
  by_grant vid chain header (entries.Reweight node vnodes) same granted next = absurd (cc (next))
  by_grant vid chain header (entries.Recovered node epoch) same granted next = absurd (cc (next))
  by_grant vid chain header (entries.Reserve by session name (Fresh spec)) same granted next =
      given Is next (stands_now before entry vid sources.Fresh
      (subst (λ (e : Entry). IsGrantFor sources.Fresh (outcome (log_effects before) e)) (sym same)
      (fresh_for (log_effects before) by session name spec)) granted)
  by_grant vid chain header (entries.Reserve by session name (SnapshotOf tag)) same granted next = by_disk disk next
    where
      by_disk : (o : Option Content) → option_map (tag_step op vid tag header) o ≡ Some step → Is step
      by_disk None next = absurd (cc (next))
      by_disk (Some inode) next = given Is next tt
  by_grant vid chain header (entries.Reserve by session name (CloneOf base tag)) same granted next = by_parent header.parent next
    where
      by_parent : (o : Option Vid) → option_map (copy_step op vid chain header) o ≡ Some step → Is step
      by_parent None next = absurd (cc (next))
      by_parent (Some parent) next =
          given Is next (stands_now before entry vid sources.Clone
          (subst (λ (e : Entry). IsGrantFor sources.Clone (outcome (log_effects before) e)) (sym same)
          (clone_for (log_effects before) by session name base tag)) granted)
  by_grant vid chain header (entries.Publish by of) same granted next = absurd (cc (next))
  by_grant vid chain header (entries.Clone by of) same granted next = absurd (cc (next))
  by_grant vid chain header (entries.Snapshot by old of) same granted next = absurd (cc (next))
  by_grant vid chain header (entries.Delete by session name tag) same granted next = given Is next tt
  by_grant vid chain header (entries.Lock by session name tag) same granted next = given Is next tt
  by_grant vid chain header (entries.Unlock by session of) same granted next = given Is next tt

  module _ (known : List Effect) where
    by_decision : (d : Decision) → decision_after before entry ≡ d → step_after_decision known disk op entry d ≡ Some step → Is step
    by_decision decisions.None is next = given Is next tt
    by_decision (decisions.Granted vid) is next = by_header (header_of known vid.0) next
      where
        by_header : (o : Option Header)
            → option_and_then (step_after_grant op vid (chain_of known vid.0) disk entry) o ≡ Some step → Is step
        by_header None next = absurd (cc (next))
        by_header (Some header) next = by_grant vid (chain_of known vid.0) header entry refl is next
    by_decision (decisions.Refused cause) is next = given Is next tt

    decided_sourced : on_decision known disk (decision_after before entry) op ≡ Some step → waits_at entry op.stage ≡ true → Is step
    unfolding on_decision
    decided_sourced next waits = by_stage op.stage next waits
      where
        by_stage : (stage : OpStage) → decided_at known disk (decision_after before entry) op stage ≡ Some step
            → waits_at entry stage ≡ true → Is step
        by_stage (Asked wanted) next waits =
            by_decision (decision_after before entry) refl
            (subst (λ (e : Entry). step_after_decision known disk op e (decision_after before entry) ≡ Some step)
            (same_entry wanted entry waits) next)
        by_stage (Working vid task) next waits = absurd (cc (next))
        by_stage (Publishing wanted made) next waits = given Is next tt
        by_stage (Answered change) next waits = absurd (cc (next))

-- ---- a step

module _ (input : Input) (node : Node) where
  abbrev read : List Entry
  read = read_after input node.peer.entries

  decided : (so_far : StepState) (session : ℕ) (entry : Entry) (op : Op) (step : OpStep) → input ≡ inputs.LogEntry entry
      → so_far.node.peer ≡ (entry_read entry node).peer → waits_for_entry entry (Commanding op) ≡ true
      → on_decision (effects_of so_far.node.peer) (inode_open (session_in session so_far).disk) (decision_on entry node.peer) op ≡ Some step
      → IfSome (session_in session so_far).disk IsAnyDisk → IsSourceStage (read_after input node.peer.entries) op.stage
      → IsSourceStage (read_after input node.peer.entries) step.op.stage
  decided so_far session entry op step from peer waits next opened is =
      let longer : read_after input node.peer.entries ≡ node.peer.entries ++ entry ∷ []
      = ap (λ (input : Input). read_after input node.peer.entries) from in
      subst (λ (all : List Entry). IsSourceStage all step.op.stage) (sym longer)
      (decided_sourced node.peer.entries entry op step (inode_open (session_in session so_far).disk) (effects_of so_far.node.peer) next
      waits)

  parts_sourced : IsKeptByParts IsAnyDisk (IsSourceStage (read_after input node.peer.entries)) input node
  parts_sourced = record {
    begins = λ disk ask is. tt;
    goes_on = λ disk bytes driver step next is. tt;
    asked = λ entry. tt;
    done = done_sourced read;
    decided = decided;
    opens = λ snapshot inode is. tt;
  }

  -- as the input is received, what was read before is read still
  received : AreSourced node.peer.entries node.requests node.sessions
      → AreSourced (read_after input node.peer.entries) (input_received input (at_first node)).node.requests
      (input_received input (at_first node)).node.sessions
  unfolding on_back
  received all = by_input input refl
    where
      still : (given : Input)
          → AreSourced node.peer.entries (input_received given (at_first node)).node.requests
          (input_received given (at_first node)).node.sessions
      still given = received_so IsAnyDisk (IsSourceStage node.peer.entries) given node all

      by_input : (given : Input) → input ≡ given
          → AreSourced (read_after given node.peer.entries) (input_received given (at_first node)).node.requests
          (input_received given (at_first node)).node.sessions
      by_input (inputs.Guest req session ask) from = still (inputs.Guest req session ask)
      by_input (inputs.Request request) from = still (inputs.Request request)
      by_input (inputs.Reply rsp) from = still (inputs.Reply rsp)
      by_input (inputs.Lost number) from = still (inputs.Lost number)
      by_input (inputs.LogEntry entry) from =
          received_so IsAnyDisk (IsSourceStage (node.peer.entries ++ entry ∷ [])) (inputs.LogEntry entry) node
          (sourced_later node.peer.entries (entry ∷ []) node.requests node.sessions all)
      by_input inputs.Put from = still inputs.Put
      by_input inputs.RecoverTick from = still inputs.RecoverTick
      by_input inputs.RetryTick from = still inputs.RetryTick
      by_input (inputs.Back back) from = none_so IsAnyDisk (IsSourceStage back)

  pub sourced_in_chain : AreSourced node.peer.entries node.requests node.sessions → (so_far : StepState)
      → Leads input node (input_received input (at_first node)) so_far
      → AreSourced (read_after input node.peer.entries) so_far.node.requests so_far.node.sessions
  sourced_in_chain all so_far leads =
      so_in_chain IsAnyDisk (IsSourceStage read) input node parts_sourced (received all) so_far leads
