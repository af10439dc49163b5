-- As far as a step of a node has come, its works are those that its requests wait for, each with what its session may have open for it.
use Rattle.std.proofs.Common.{Option, is_some, ◌≡◌, ◌≢◌, ℕ, true, List, All, Some, refl, subst, ap, ◌∙◌, false, sym}
use Rattle.std.specs.FinMap as tree
use Rattle.std.proofs.lemmas.Bool.{and_parts}
use Rattle.std.specs.Prelude.{nat_le}
use Rattle.proof_tools.proofs.Booleans.{cond_either}
use Rattle.object_id.specs.declared.entry.Entry.{Entry}
use Rattle.epoch_log.specs.Appending.{IsReservable}
use Rattle.cluster_script.specs.declared.statement.Statement.{Statement}
use Rattle.cluster_script.specs.declared.statement.Statement.TheVariants as lines
use Rattle.cluster_script.specs.Phases.{phase_of_request}
use Rattle.peer_proto.specs.declared.ask.PeerReq.{PeerReq}
use Rattle.peer_proto.specs.declared.work.ObjWork.{ObjWork}
use Rattle.peer_service.specs.State.{effects_of}
use Rattle.vdi_directory.specs.declared.effect.Effect.{Effect}
use Rattle.sheep_node.specs.declared.ask.Ask.{Ask}
use Rattle.sheep_node.specs.declared.ask.Ask.TheVariants as asks
use Rattle.sheep_node.specs.declared.input.Input.{Input}
use Rattle.sheep_node.specs.declared.input.Input.TheVariants as inputs
use Rattle.sheep_node.specs.Changes.{input_received, Leads}
use Rattle.sheep_node.specs.LogReading.{on_back}
use Rattle.sheep_node.specs.May.{May}
use Rattle.sheep_node.specs.OneWork.{HaveOneWorkPerRequest}
use Rattle.sheep_node.specs.SessionQueues.{HaveSoleCommands}
use Rattle.sheep_node.specs.State.{Node}
use Rattle.sheep_node.specs.Step.{on_request, is_due, with_recovered, recovered_put, on_input, node_step}
use Rattle.sheep_node.specs.StepFacts.{read_after}
use Rattle.sheep_node.specs.StepState.{StepState, at_first, with_node}
use Rattle.sheep_node.specs.WantedWorks.{HaveWantedWorks}
use Rattle.sheep_node.proofs.StepChain.{step_chain}
use Rattle.sheep_node.proofs.WantedChanges.{WaitsWell, waits_well_in_chain}
use Rattle.sheep_world.specs.Asking.{ask_of_statement}
use Rattle.sheep_world.specs.Began.{Began}
use Rattle.sheep_world.specs.Conditions.{fits_beside}
use Rattle.sheep_world.specs.NodeCauses.{NodeCause, GuestAsks, RequestComes, ReplyComes, LossIsTold, EntryIsRead, EntryIsPut, RecoveryTicks}
use Rattle.sheep_world.specs.NodeCauses.{WorkIsRetried, ClientAsks, input_of_cause, IsCause, world_after_cause}
use Rattle.sheep_world.specs.World.{Host, World, progress_at, is_host_up}
use Rattle.sheep_world.proofs.NextEntries.{reads-may}
use Rattle.sheep_world.proofs.StepsByCause.{IsReady, sound_step, steps_on_may}
use Rattle.sheep_world.proofs.WireAtEvents.{is_ready}
use Rattle.overlap_law.specs.MomentChanges.{RunsAreInRange}
use Rattle.overlap_law.specs.StepMoments.{StepsByChanges}
use Rattle.overlap_law.proofs.AllowedCourses.{AreAllowed, none_allowed, allowed_in_chain}
use Rattle.overlap_law.proofs.GuestsOfScript.{guest_asks}
use Rattle.overlap_law.proofs.KnownDisks.{IsKnownCourse}
use Rattle.overlap_law.proofs.KnownDiskSteps.{AreOnKnown, IsKnownInput, effects_after, step_known}
use Rattle.overlap_law.proofs.KnownDisksInRuns.{caused_known, read_reservable, nodes_know}
use Rattle.overlap_law.proofs.KnownSteps.{together}
use Rattle.overlap_law.proofs.OwnMakings.{AreOwnMakings, ChecksAreFew}
use Rattle.overlap_law.proofs.OwnMakingChanges.{own_in_chain}
use Rattle.overlap_law.proofs.RoomOfSessions.{HasSoundGuests, room, guests_sound, tied_of}
use Rattle.overlap_law.proofs.UnansweredRequests.{brings_tied, requests_tied}
use Rattle.sheep_world.proofs.AsksOfClients.{clients_ask}
use Rattle.sheep_world.proofs.AsksTaken.{meets_read, read_asked}
use Rattle.sheep_world.proofs.LogAtOpening.{nodes-valid}
use Rattle.gateway.specs.Work.{is_making}
use Rattle.overlap_law.proofs.AsksInCauses.{read_makes_none}
use Rattle.sheep_world.specs.ClientAsks.{is_read_ask, is_read_work}
use Rattle.peer_proto.specs.declared.work.ObjWork.TheVariants as works
use Rattle.overlap_law.proofs.WholeWorks.{WritesWhole}
use Rattle.overlap_law.proofs.ReadWorks.{ReadsOn}
use Rattle.sheep_node.specs.MayTests.{is_guest_ask}

-- a node's works: one of each request at most, which it waits for; commands are alone in their sessions; and what is open may be so
pub record HasWellWorks (node : Node) : Type 0 where
  pub one_work : HaveOneWorkPerRequest node.gateway.works node.requests node.sessions
  pub alone : HaveSoleCommands node.requests node.sessions
  pub wanted : HaveWantedWorks node.gateway.works node.requests node.sessions
  pub allowed : AreAllowed node.requests node.sessions
  pub own : AreOwnMakings node.gateway.works node.requests node.sessions
  pub known : List Effect
  pub on_known : AreOnKnown known node

abbrev pub IsPlaced : Node → Type 0
IsPlaced node = AreAllowed node.requests node.sessions × AreOwnMakings node.gateway.works node.requests node.sessions

-- ---- what a session doesn't ask

asks_no_object : (line : Statement) (work : ObjWork) → ask_of_statement line ≡ Some (asks.Object work) → ⊥
asks_no_object (lines.Create session policy shift name size) work is = absurd (cc (is))
asks_no_object (lines.OpenDisk session name tag) work is = absurd (cc (is))
asks_no_object (lines.Close session) work is = absurd (cc (is))
asks_no_object (lines.Read session offset size) work is = absurd (cc (is))
asks_no_object (lines.Write session offset size pattern) work is = absurd (cc (is))
asks_no_object (lines.Snapshot session tag) work is = absurd (cc (is))
asks_no_object (lines.Clone session base tag name) work is = absurd (cc (is))
asks_no_object (lines.Delete session name tag) work is = absurd (cc (is))
asks_no_object (lines.Check session) work is = absurd (cc (is))
asks_no_object _ work is = absurd (cc (is))

-- and a client for none to be made
pub no_object : (script : List Statement) (world : World) (n : ℕ) (host : Host) (cause : NodeCause) → IsCause script world n host cause
    → (req session : ℕ) (work : ObjWork) → input_of_cause cause ≡ inputs.Guest req session (asks.Object work) → is_making work ≡ false
no_object script world n host (GuestAsks of own ask) so req session work from =
    let same : ask ≡ asks.Object work = cc (from) in
    absurd (asks_no_object so.line work (so.asks ∙ ap (λ (a : Ask). Some a) same))
no_object script world n host (RequestComes name to request) so req session work from = absurd (cc (from))
no_object script world n host (ReplyComes name of rsp) so req session work from = absurd (cc (from))
no_object script world n host (LossIsTold name packet) so req session work from = absurd (cc (from))
no_object script world n host (EntryIsRead of) so req session work from = absurd (cc (from))
no_object script world n host (EntryIsPut of) so req session work from = absurd (cc (from))
no_object script world n host RecoveryTicks so req session work from = absurd (cc (from))
no_object script world n host WorkIsRetried so req session work from = absurd (cc (from))
no_object script world n host (ClientAsks begins what) so req session work from =
    let same : what ≡ asks.Object work = cc (from) in
    read_makes_none work (ap is_read_ask (sym same) ∙ so.reads)

-- what a client reads is on a disk that the node knows
whole_read : (node : Node) (work : ObjWork) → is_read_work work ≡ true → is_guest_ask node (asks.Object work) ≡ true
    → WritesWhole (effects_of node.peer) work × ReadsOn (effects_of node.peer) work
whole_read node (works.Create oid policy size offset bytes) reads asked = absurd (cc (reads))
whole_read node (works.Write oid policy offset bytes) reads asked = absurd (cc (reads))
whole_read node (works.Read oid policy offset size) reads asked =
    let is = read_asked node (asks.Object (works.Read oid policy offset size)) reads asked in
    (tt, record { spec = is.spec; made = is.known; policy_so = is.policy; inside = is.inside })
whole_read node (works.ReadAll oid policy size) reads asked = absurd (cc (reads))

pub read_whole : (script : List Statement) (world : World) (n : ℕ) (host : Host) (cause : NodeCause) → IsCause script world n host cause
    → (req session : ℕ) (work : ObjWork) → input_of_cause cause ≡ inputs.Guest req session (asks.Object work)
    → WritesWhole (effects_after (input_of_cause cause) host.node) work × ReadsOn (effects_after (input_of_cause cause) host.node) work
read_whole script world n host (GuestAsks of own ask) so req session work from =
    let same : ask ≡ asks.Object work = cc (from) in
    absurd (asks_no_object so.line work (so.asks ∙ ap (λ (a : Ask). Some a) same))
read_whole script world n host (RequestComes name to request) so req session work from = absurd (cc (from))
read_whole script world n host (ReplyComes name of rsp) so req session work from = absurd (cc (from))
read_whole script world n host (LossIsTold name packet) so req session work from = absurd (cc (from))
read_whole script world n host (EntryIsRead of) so req session work from = absurd (cc (from))
read_whole script world n host (EntryIsPut of) so req session work from = absurd (cc (from))
read_whole script world n host RecoveryTicks so req session work from = absurd (cc (from))
read_whole script world n host WorkIsRetried so req session work from = absurd (cc (from))
read_whole script world n host (ClientAsks begins what) so req session work from =
    let same : what ≡ asks.Object work = cc (from) in
    whole_read host.node work (ap is_read_ask (sym same) ∙ so.reads) (ap (is_guest_ask host.node) (sym same) ∙ so.asks)

-- ---- a request that is served leaves requests and sessions

due_allowed : (so_far : StepState) → AreAllowed so_far.node.requests so_far.node.sessions
    → AreAllowed (recovered_put so_far).node.requests (recovered_put so_far).node.sessions
unfolding recovered_put
due_allowed so_far is =
    cond_either (λ (now : StepState). AreAllowed now.node.requests now.node.sessions) (is_due so_far.node) (with_recovered so_far) so_far is
    is

served_allowed : (request : PeerReq) (node : Node) → AreAllowed node.requests node.sessions
    → AreAllowed (node_step (inputs.Request request) node).node.requests (node_step (inputs.Request request) node).node.sessions
unfolding node_step on_input on_request
served_allowed request node is = due_allowed (on_request request (at_first node)) is

pub back_allowed : (entries : List Entry) (node : Node)
    → AreAllowed (node_step (inputs.Back entries) node).node.requests (node_step (inputs.Back entries) node).node.sessions
unfolding node_step on_input on_back
back_allowed entries node = due_allowed (with_node (on_back entries node) (at_first node)) none_allowed

-- a cause of a step that is more than a served request
abbrev pub IsNotServed : NodeCause → Type 0
IsNotServed (GuestAsks session req ask) = Unit {0}
IsNotServed (RequestComes name to request) = ⊥
IsNotServed (ReplyComes name from rsp) = Unit {0}
IsNotServed (LossIsTold name packet) = Unit {0}
IsNotServed (EntryIsRead entry) = Unit {0}
IsNotServed (EntryIsPut entry) = Unit {0}
IsNotServed RecoveryTicks = Unit {0}
IsNotServed WorkIsRetried = Unit {0}
IsNotServed (ClientAsks req ask) = Unit {0}

pub by_changes : (cause : NodeCause) → StepsByChanges cause → IsNotServed cause
by_changes (GuestAsks session req ask) by = tt
by_changes (RequestComes name to request) by = by
by_changes (ReplyComes name from rsp) by = tt
by_changes (LossIsTold name packet) by = tt
by_changes (EntryIsRead entry) by = tt
by_changes (EntryIsPut entry) by = tt
by_changes RecoveryTicks by = tt
by_changes WorkIsRetried by = tt
by_changes (ClientAsks req ask) by = tt

pub not_served : (cause : NodeCause) → IsNotServed cause → (request : PeerReq) → input_of_cause cause ≢ inputs.Request request
not_served (GuestAsks session req ask) not request = λ same. absurd (cc (same))
not_served (RequestComes name to served) not request = absurd not
not_served (ReplyComes name from rsp) not request = λ same. absurd (cc (same))
not_served (LossIsTold name packet) not request = λ same. absurd (cc (same))
not_served (EntryIsRead entry) not request = λ same. absurd (cc (same))
not_served (EntryIsPut entry) not request = λ same. absurd (cc (same))
not_served RecoveryTicks not request = λ same. absurd (cc (same))
not_served WorkIsRetried not request = λ same. absurd (cc (same))
not_served (ClientAsks req ask) not request = λ same. absurd (cc (same))

-- what checks have left is of the disks that are known
pub few_from : (input : Input) (node : Node) → All IsReservable (read_after input node.peer.entries)
    → IsKnownInput (effects_after input node) input
    → AreOnKnown (effects_of node.peer) node → ChecksAreFew input node
few_from input node reservable asked on so_far leads req request check got course =
    let all = (step_known input node reservable asked on so_far leads).0 in
    let is = subst (IsKnownCourse (effects_after input node)) course (all.courses req request got) in
    (is.disk.id, is.within)

module _ (script : List Statement) (range : RunsAreInRange script) where
  module _ (world : World) (began : Began script world) (n : ℕ) (host : Host) (there : tree.get world.hosts n ≡ Some host)
      (up : is_host_up host ≡ true) where
    ready : IsReady script world n host
    ready = is_ready script world (together script range world began) n host there up

    sound : HasSoundGuests host.node
    sound = guests_sound script range world began n host there

    pub caused_may : (cause : NodeCause) → IsNotServed cause → IsCause script world n host cause → May (input_of_cause cause) host.node
    caused_may (GuestAsks session req ask) not asked =
        let fits = (and_parts (nat_le (phase_of_request script req) world.phase)
        (fits_beside script req (progress_at session.number world).unanswered) asked.may).1 in
        let kind = (brings_tied script world n host (GuestAsks session req ask) asked req session.number ask refl
        (ap (λ (o : Option Statement). is_some o) asked.stands)).kind in
        steps_on_may script world n host (GuestAsks session req ask) asked ready (
          room script world.guests host.node sound session.number
              (tied_of script range.is_script world began n host there session asked.declared
              (requests_tied script range world began n host there)) req ask kind fits,
          guest_asks host.node script range.is_script req asked.line ask asked.stands asked.asks,
        )
    caused_may (RequestComes name to request) not here = absurd not
    caused_may (ReplyComes name from rsp) not here = steps_on_may script world n host (ReplyComes name from rsp) here ready tt
    caused_may (LossIsTold name packet) not here = steps_on_may script world n host (LossIsTold name packet) here ready tt
    caused_may (EntryIsRead entry) not next =
        steps_on_may script world n host (EntryIsRead entry) next ready
        (reads-may script range.is_script range.room world began n host entry there next)
    caused_may (EntryIsPut entry) not first = steps_on_may script world n host (EntryIsPut entry) first ready tt
    caused_may RecoveryTicks not may = steps_on_may script world n host RecoveryTicks may ready tt
    caused_may WorkIsRetried not may = steps_on_may script world n host WorkIsRetried may ready tt
    caused_may (ClientAsks req ask) not may =
        steps_on_may script world n host (ClientAsks req ask) may ready
        (meets_read script world (clients_ask script range.is_script world began) n host there up req ask may sound.alone)

    module _ (cause : NodeCause) (so : IsCause script world n host cause)
        (ended : Began script (world_after_cause script n host cause world)) where
      abbrev input : Input
      input = input_of_cause cause

      pub known_then : (so_far : StepState)
          → Leads (input_of_cause cause) host.node (input_received (input_of_cause cause) (at_first host.node)) so_far
          → AreOnKnown (effects_after (input_of_cause cause) host.node) so_far.node
      known_then so_far leads =
          (step_known input host.node (read_reservable script range world n host cause ended)
          (caused_known script range.is_script (effects_after input host.node) world n host cause
          (nodes-valid script range.is_script range.room world began n host there) so) (nodes_know script range world began n host there)
          so_far leads).0

      few : ChecksAreFew (input_of_cause cause) host.node
      few =
          few_from input host.node (read_reservable script range world n host cause ended)
          (caused_known script range.is_script (effects_after input host.node) world n host cause
          (nodes-valid script range.is_script range.room world began n host there) so) (nodes_know script range world began n host there)

      pub own_then : IsPlaced host.node → (so_far : StepState)
          → Leads (input_of_cause cause) host.node (input_received (input_of_cause cause) (at_first host.node)) so_far
          → AreOwnMakings so_far.node.gateway.works so_far.node.requests so_far.node.sessions
      own_then placed so_far leads =
          own_in_chain input host.node (sound_step script world n host cause so ready) few placed.1 so_far leads

      allowed_then : IsPlaced host.node → IsNotServed cause → (so_far : StepState)
          → Leads (input_of_cause cause) host.node (input_received (input_of_cause cause) (at_first host.node)) so_far
          → AreAllowed so_far.node.requests so_far.node.sessions
      allowed_then placed not so_far leads =
          allowed_in_chain input host.node (caused_may cause not so) sound.queues sound.alone (no_object script world n host cause so)
          placed.0 so_far leads

      waits_then : IsNotServed cause → (so_far : StepState)
          → Leads (input_of_cause cause) host.node (input_received (input_of_cause cause) (at_first host.node)) so_far → WaitsWell so_far
      waits_then not so_far leads =
          waits_well_in_chain input host.node (caused_may cause not so) ready.driven sound.queues sound.alone sound.wanted so_far leads

      pub well_then : IsPlaced host.node → IsNotServed cause → (so_far : StepState)
          → Leads (input_of_cause cause) host.node (input_received (input_of_cause cause) (at_first host.node)) so_far
          → HasWellWorks so_far.node
      well_then placed not so_far leads =
          let waits = waits_then not so_far leads in
          record {
            one_work = waits.0;
            alone = waits.1;
            wanted = waits.2;
            allowed = allowed_then placed not so_far leads;
            own = own_then placed so_far leads;
            known = effects_after input host.node;
            on_known = known_then so_far leads;
          }

    pub step_allowed : (cause : NodeCause) → IsCause script world n host cause → Began script (world_after_cause script n host cause world)
        → IsPlaced host.node
        → AreAllowed (node_step (input_of_cause cause) host.node).node.requests (node_step (input_of_cause cause) host.node).node.sessions
    step_allowed (GuestAsks session req ask) so ended placed =
        allowed_then (GuestAsks session req ask) so ended placed tt _ (step_chain (input_of_cause (GuestAsks session req ask)) host.node)
    step_allowed (RequestComes name to request) so ended placed = served_allowed request host.node placed.0
    step_allowed (ReplyComes name from rsp) so ended placed =
        allowed_then (ReplyComes name from rsp) so ended placed tt _ (step_chain (input_of_cause (ReplyComes name from rsp)) host.node)
    step_allowed (LossIsTold name packet) so ended placed =
        allowed_then (LossIsTold name packet) so ended placed tt _ (step_chain (input_of_cause (LossIsTold name packet)) host.node)
    step_allowed (EntryIsRead entry) so ended placed =
        allowed_then (EntryIsRead entry) so ended placed tt _ (step_chain (input_of_cause (EntryIsRead entry)) host.node)
    step_allowed (EntryIsPut entry) so ended placed =
        allowed_then (EntryIsPut entry) so ended placed tt _ (step_chain (input_of_cause (EntryIsPut entry)) host.node)
    step_allowed RecoveryTicks so ended placed =
        allowed_then RecoveryTicks so ended placed tt _ (step_chain (input_of_cause RecoveryTicks) host.node)
    step_allowed WorkIsRetried so ended placed =
        allowed_then WorkIsRetried so ended placed tt _ (step_chain (input_of_cause WorkIsRetried) host.node)
    step_allowed (ClientAsks req ask) so ended placed =
        allowed_then (ClientAsks req ask) so ended placed tt _ (step_chain (input_of_cause (ClientAsks req ask)) host.node)
