-- In each run in range each attempt makes a whole object, or whole units inside it; so it is over each change of a moment too.
use Rattle.std.proofs.Common.{◌≡◌, ◌≢◌, ⊎_elim, arith, ℕ, ◌+◌, ◌≤◌, true, List, [], ◌++◌, length, Some, slice_get, sym, subst, ◌∙◌}
use Rattle.std.specs.FinMap as tree
use Rattle.std.proofs.lemmas.Bool.{le-leb}
use Rattle.std.proofs.lemmas.Option.{same_Some}
use Rattle.object_id.specs.declared.entry.Entry.{Entry}
use Rattle.object_id.specs.declared.entry.VdiSpec.{VdiSpec}
use Rattle.object_id.specs.Oid.{vid_of, kind_of}
use Rattle.cluster_script.specs.declared.statement.Statement.{Statement}
use Rattle.cluster_script.specs.Settings.{tries_of}
use Rattle.peer_proto.specs.Work.{oid_of}
use Rattle.peer_proto.specs.declared.ask.PeerReq.{PeerReq}
use Rattle.peer_proto.specs.declared.work.ObjWork.{ObjWork}
use Rattle.peer_proto.specs.declared.work.ObjWork.TheVariants as works
use Rattle.peer_service.specs.State.{effects_of, object_size}
use Rattle.gateway.specs.Work.{is_making}
use Rattle.vdi_directory.specs.declared.effect.Effect.{Effect}
use Rattle.vdi_directory.specs.Decisions.{log_effects}
use Rattle.sheep_node.specs.declared.ask.Ask.TheVariants as asks
use Rattle.sheep_node.specs.declared.input.Input.{Input}
use Rattle.sheep_node.specs.declared.input.Input.TheVariants as inputs
use Rattle.sheep_node.specs.declared.limits.TheConstants.{SENDS_MAX}
use Rattle.sheep_node.specs.Changes.{input_received, Leads}
use Rattle.sheep_node.specs.May.{May}
use Rattle.sheep_node.specs.NodeInvariant.{IsSoundNode}
use Rattle.sheep_node.specs.OutsideAsks.{InputNamesObjects}
use Rattle.sheep_node.specs.State as nodes
use Rattle.sheep_node.specs.Step.{node_step}
use Rattle.sheep_node.specs.StepFacts.{read_after}
use Rattle.sheep_node.specs.StepState.{StepState, at_first}
use Rattle.sheep_node.proofs.NodeLaws.{IsSoundNode-initial}
use Rattle.sheep_world.specs.World.{Host, World, is_host_up}
use Rattle.sheep_world.specs.Began.{Began}
use Rattle.sheep_world.specs.Opening.{format_entry, initial_world}
use Rattle.sheep_world.specs.NodeCauses.{NodeCause, GuestAsks, RequestComes, ReplyComes, LossIsTold, EntryIsRead, EntryIsPut, RecoveryTicks}
use Rattle.sheep_world.specs.NodeCauses.{WorkIsRetried, ClientAsks, input_of_cause, IsCause}
use Rattle.sheep_world.specs.EventKinds.{log_after_return}
use Rattle.sheep_world.specs.HostChanges.{HostsKeep}
use Rattle.sheep_world.proofs.BegunWorlds.{each_where}
use Rattle.sheep_world.proofs.LogAtOpening.{opens_log, nodes-valid}
use Rattle.sheep_world.proofs.ValidNodes.{first_may}
use Rattle.sheep_world.specs.RunsWithAsks.{Move}
use Rattle.overlap_law.specs.Attempts.{AttemptRecord, object_of}
use Rattle.overlap_law.specs.Fates.{IsWhole, AttemptsAreWhole}
use Rattle.overlap_law.specs.Past.{MomentWithPast, run_with_past}
use Rattle.overlap_law.specs.ShapedAttempts.{AreShaped}
use Rattle.overlap_law.specs.MomentChanges.{MomentChange, MomentTrail, RunsAreInRange, KeptByChanges}
use Rattle.overlap_law.proofs.CausedWorks.{read_whole, IsNotServed, by_changes, not_served}
use Rattle.overlap_law.proofs.GrantedEpochs.{spec_stays}
use Rattle.overlap_law.proofs.KnownDisks.{IsKnownWork}
use Rattle.overlap_law.proofs.KnownDiskSteps.{AreOnKnown, IsKnownInput, effects_after, none_known, work_known}
use Rattle.overlap_law.proofs.KnownDisksInRuns.{caused_known, read_reservable, nodes_know}
use Rattle.overlap_law.proofs.LogsGrow.{logs_grow}
use Rattle.overlap_law.proofs.PlacesTaken.{PlacesAreTaken, none_asked, places_taken}
use Rattle.overlap_law.proofs.NewAttempts.{IsOpened, WasAttempt, come_from}
use Rattle.overlap_law.proofs.RunsByChanges.{on_the_way}
use Rattle.overlap_law.proofs.ShapedAttempts.{front, log_so, began_after, work_so, shaped-each}
use Rattle.overlap_law.proofs.SoundWorlds.{IsSoundWorld, sound_worlds, asks_on_may, names_objects}
use Rattle.overlap_law.proofs.WholeNodes.{IsWholeWork, AreWholeOn, none_whole}
use Rattle.overlap_law.proofs.WholeSteps.{turn_whole, stepped_whole, served_whole, back_whole}
use Rattle.overlap_law.proofs.WholeWorks.{IsWholeOn, WritesWhole}
use Rattle.overlap_law.proofs.ReadWorks.{ReadsOn}

-- ---- one work

-- a create or write that its node knows is whole
made_whole : (known : List Effect) (work : ObjWork) → IsWholeWork known work → IsKnownWork known work → is_making work ≡ true
    → IsWholeOn known work
made_whole known (works.Create oid policy size offset bytes) whole is making =
    let disk = is.making making in
    let long : size ≡ object_size disk.spec (kind_of oid) = is.whole disk.spec disk.made in
    let inside : offset + length bytes ≤ size = whole.0.is_work.1 in
    record { spec = disk.spec; made = disk.made; whole = (long, subst (λ (n : ℕ). offset + length bytes ≤ n) long inside) }
made_whole known (works.Write oid policy offset bytes) whole is making = whole.1
made_whole known (works.Read oid policy offset size) whole is making = absurd (cc (making))
made_whole known (works.ReadAll oid policy size) whole is making = absurd (cc (making))

-- and stays so as the log grows
still_whole : (log more : List Entry) (work : ObjWork) → IsWholeOn (log_effects log) work → IsWholeOn (log_effects (log ++ more)) work
still_whole log more work is =
    record { spec = is.spec; made = spec_stays log more (vid_of (oid_of work)) is.spec is.made; whole = is.whole }

abbrev AreAllWhole : MomentWithPast → Type 0
AreAllWhole moment = (j : ℕ) (attempt : AttemptRecord) → slice_get moment.past.attempts j ≡ Some attempt
    → IsWholeOn (log_effects moment.world.log) attempt.work

as_said : (moment : MomentWithPast) → AreAllWhole moment → AttemptsAreWhole (log_effects moment.world.log) moment.past.attempts
as_said moment all = record {
  each = λ j attempt got spec made.
      let is = all j attempt got in
      let same : is.spec ≡ spec = same_Some is.spec spec (sym is.made ∙ made) in
      subst (λ (s : VdiSpec). IsWhole (object_size s (kind_of (object_of attempt))) attempt.work) same is.whole;
}

-- ---- nodes

module _ (script : List Statement) (range : RunsAreInRange script) where
  pub sound_world : (world : World) → Began script world → IsSoundWorld script world
  sound_world world began =
      sound_worlds script range.is_script range.room (λ world began sound. (range.messages world began).replies) world began

  -- a node steps on what it may, and asks for no object by itself
  module _ (world : World) (began : Began script world) (n : ℕ) (host : Host) (there : tree.get world.hosts n ≡ Some host)
      (up : is_host_up host ≡ true) where
    abbrev pub sound_here : IsSoundNode host.node
    sound_here = ((sound_world world began).hosts n host there).node

    may_step : (cause : NodeCause) → IsCause script world n host cause
        → ((request : PeerReq) → input_of_cause cause ≢ inputs.Request request)
        → May (input_of_cause cause) host.node
    may_step cause caused other =
        asks_on_may script range.is_script range.room world began (sound_world world began)
        (range.messages world began).replies n host there up cause
        caused other

    pub named : (cause : NodeCause) → IsCause script world n host cause → InputNamesObjects (input_of_cause cause)
    named cause caused = names_objects script world n host cause caused

    pub may_change : (cause : NodeCause) → IsNotServed cause → IsCause script world n host cause → May (input_of_cause cause) host.node
    may_change cause not caused = may_step cause caused (not_served cause not)

    by_step : (cause : NodeCause) → IsNotServed cause → IsCause script world n host cause → AreWholeOn (effects_of host.node.peer) host.node
        → AreWholeOn (effects_of (node_step (input_of_cause cause) host.node).node.peer) (node_step (input_of_cause cause) host.node).node
    by_step cause not caused all =
        stepped_whole (input_of_cause cause) host.node (may_change cause not caused) (named cause caused) sound_here
        (caused_known script range.is_script (effects_after (input_of_cause cause) host.node) world n host cause
        (nodes-valid script range.is_script range.room world began n host there) caused)
        (read_whole script world n host cause caused) (nodes_know script range world began n host there)
        (places_taken script range world began n host there up cause caused) all

    step_whole : (cause : NodeCause) → IsCause script world n host cause → AreWholeOn (effects_of host.node.peer) host.node
        → AreWholeOn (effects_of (node_step (input_of_cause cause) host.node).node.peer) (node_step (input_of_cause cause) host.node).node
    step_whole (GuestAsks session req ask) caused all = by_step (GuestAsks session req ask) tt caused all
    step_whole (RequestComes name to request) caused all = served_whole request host.node all
    step_whole (ReplyComes name from rsp) caused all = by_step (ReplyComes name from rsp) tt caused all
    step_whole (LossIsTold name packet) caused all = by_step (LossIsTold name packet) tt caused all
    step_whole (EntryIsRead entry) caused all = by_step (EntryIsRead entry) tt caused all
    step_whole (EntryIsPut entry) caused all = by_step (EntryIsPut entry) tt caused all
    step_whole RecoveryTicks caused all = by_step RecoveryTicks tt caused all
    step_whole WorkIsRetried caused all = by_step WorkIsRetried tt caused all
    step_whole (ClientAsks req ask) caused all = by_step (ClientAsks req ask) tt caused all

  -- ---- every world

  abbrev WholeWhereBegun : World → ℕ → Host → Type 0
  WholeWhereBegun world n host = Began script world → AreWholeOn (effects_of host.node.peer) host.node

  whole_kept : HostsKeep script (Began script) WholeWhereBegun
  unfolding initial_world
  whole_kept = record {
    opens = λ member begun.
        let new = nodes.initial_node member.node (tries_of script) in
        let input : Input = inputs.LogEntry (format_entry script) in
        let may : May input new
        = record {
          numbers = le-leb 0 SENDS_MAX (omega arith);
          condition = first_may (format_entry script) [] (opens_log script range.is_script).log;
        } in
        stepped_whole input new may tt (IsSoundNode-initial member.node (tries_of script)) tt (λ req session work from. absurd (cc (from)))
        (none_known (effects_of new.peer))
        (λ so_far leads. none_asked (effects_after input new) input new so_far (λ entry brings by of name tag is. absurd (cc (brings, is))))
        (none_whole (effects_of new.peer));
    stays = λ event world made h began n host so begun. so began;
    steps = λ world n host cause began there up caused so next. step_whole world began n host there up cause caused (so began);
    fails = λ world n host began so. so;
    returns = λ world n host began there so next.
        let log = log_after_return script n world in
        back_whole (effects_of (node_step (inputs.Back log) host.node).node.peer) log host.node;
    joins = λ world n began control next. none_whole (effects_of (nodes.initial_node (record { 0 = n }) (tries_of script)).peer);
  }

  pub nodes_whole : (world : World) → Began script world → (n : ℕ) (host : Host) → tree.get world.hosts n ≡ Some host
      → AreWholeOn (effects_of host.node.peer) host.node
  nodes_whole world began n host there =
      each_where script (Began script) WholeWhereBegun (λ world begun. begun) whole_kept world began n host there began

  -- what holds where a step begins that goes by changes, for what is shown of it by that
  pub from_beginning : {R : Type 0} (world : World) → Began script world → (n : ℕ) (host : Host) → tree.get world.hosts n ≡ Some host
      → is_host_up host ≡ true → (cause : NodeCause) → IsNotServed cause → IsCause script world n host cause
      → (May (input_of_cause cause) host.node → InputNamesObjects (input_of_cause cause) → IsSoundNode host.node
      → IsKnownInput (effects_after (input_of_cause cause) host.node) (input_of_cause cause)
      → ((req session : ℕ) (work : ObjWork) → input_of_cause cause ≡ inputs.Guest req session (asks.Object work)
      → WritesWhole (effects_after (input_of_cause cause) host.node) work × ReadsOn (effects_after (input_of_cause cause) host.node) work)
      → AreOnKnown (effects_of host.node.peer) host.node
      → ((so_far : StepState)
      → Leads (input_of_cause cause) host.node (input_received (input_of_cause cause) (at_first host.node)) so_far
      → PlacesAreTaken (effects_after (input_of_cause cause) host.node) (input_of_cause cause) host.node so_far)
      → AreWholeOn (effects_of host.node.peer) host.node → R) → R
  from_beginning world began n host there up cause not caused shows =
      shows (may_change world began n host there up cause not caused) (named world began n host there up cause caused)
      (sound_here world began n host there up)
      (caused_known script range.is_script (effects_after (input_of_cause cause) host.node) world n host cause
      (nodes-valid script range.is_script range.room world began n host there) caused)
      (read_whole script world n host cause caused) (nodes_know script range world began n host there)
      (places_taken script range world began n host there up cause caused) (nodes_whole world began n host there)

  -- ---- attempts

  -- an attempt that begins is whole, by what its node has read
  module _ (start : MomentWithPast) (began : Began script start.world) (after : MomentWithPast) (new : AttemptRecord)
      (o : IsOpened script start after new) where
    abbrev input : Input
    input = input_of_cause o.stepping.cause

    abbrev entries : List Entry
    entries = read_after input o.stepping.host.node.peer.entries

    pub asked_whole : IsWholeWork (log_effects entries) o.asked.work
    asked_whole =
        from_beginning start.world began o.stepping.n o.stepping.host o.is.there o.is.up o.stepping.cause
        (by_changes o.stepping.cause o.by) o.is.caused (turn_whole input o.stepping.host.node)
        o.so_far o.leads o.session o.req o.asked o.lined o.comes

    asked_known : IsKnownWork (log_effects entries) o.asked.work
    asked_known =
        work_known input o.stepping.host.node
        (read_reservable script range start.world o.stepping.n o.stepping.host o.stepping.cause
        (began_after script range start began after new o))
        (caused_known script range.is_script
        (effects_after input o.stepping.host.node) start.world o.stepping.n o.stepping.host o.stepping.cause
        (nodes-valid script range.is_script range.room start.world began o.stepping.n o.stepping.host o.is.there) o.is.caused)
        (nodes_know script range start.world began o.stepping.n o.stepping.host o.is.there)
        o.so_far o.leads o.session o.req o.asked o.lined o.comes

    abbrev rest : List Entry
    rest = (front script range start began after new o).rest

    opened_whole : IsWholeOn (log_effects after.world.log) new.work
    opened_whole =
        let then : IsWholeOn (log_effects (entries ++ rest)) o.asked.work
        = still_whole entries rest o.asked.work (made_whole (log_effects entries) o.asked.work asked_whole asked_known o.making) in
        subst (λ (log : List Entry). IsWholeOn (log_effects log) new.work) (sym (log_so script range start began after new o))
        (subst (λ (work : ObjWork). IsWholeOn (log_effects (entries ++ rest)) work) (work_so script range start began after new o) then)

  change_all : (start before after : MomentWithPast) → Began script start.world → MomentChange script start before after
      → AreAllWhole before → AreAllWhole after
  change_all start before after began change all j now got = ⊎_elim
      (λ (w : WasAttempt before j now).
      let (more, grows) = logs_grow script change in
      subst (λ (a : AttemptRecord). IsWholeOn (log_effects after.world.log) a.work) w.same
      (subst (λ (log : List Entry). IsWholeOn (log_effects log) w.was.work) (sym grows)
      (still_whole before.world.log more w.was.work (all j w.was w.at))))
      (λ (o : IsOpened script start after now). opened_whole start began after now o)
      (come_from script range start began change j now got)

  all_kept : KeptByChanges script AreAllWhole
  all_kept = record {
    opens = λ j attempt got. absurd (cc (got));
    keeps = λ start before after began change all. change_all start before after began change all;
  }

  -- ---- as the invariant says it

  pub change_whole : (start before after : MomentWithPast) → Began script start.world → MomentChange script start before after
      → AreShaped before
      → AttemptsAreWhole (log_effects before.world.log) before.past.attempts
      → AttemptsAreWhole (log_effects after.world.log) after.past.attempts
  change_whole start before after began change shaped are =
      as_said after (change_all start before after began change (λ j attempt got.
      let disk = (shaped-each before shaped j attempt got).disk in
      record { spec = disk.spec; made = disk.made; whole = are.each j attempt got disk.spec disk.made }))

  pub whole-on_the_way : (events : List Move) (start moment : MomentWithPast) → run_with_past script events ≡ Some start
      → MomentTrail script start moment → AttemptsAreWhole (log_effects moment.world.log) moment.past.attempts
  whole-on_the_way events start moment is trail = as_said moment (on_the_way script AreAllWhole all_kept events start moment is trail)
