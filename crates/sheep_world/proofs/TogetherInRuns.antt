-- In each world of a run nodes and wire go together, and works go with their requests.
use Rattle.std.proofs.Common.{◌≡◌, ◌≢◌, ℕ, true, List, Option, Some, None, ap, subst, ◌∙◌}
use Rattle.std.specs.FinMap as tree
use Rattle.cluster_script.specs.declared.statement.Statement.{Statement}
use Rattle.cluster_script.specs.Language.{IsScript}
use Rattle.cluster_script.specs.Settings.{tries_of}
use Rattle.sheep_node.specs.declared.event.Event.{Event}
use Rattle.sheep_node.specs.declared.input.Input.{Input}
use Rattle.sheep_node.specs.declared.input.Input.TheVariants as inputs
use Rattle.sheep_node.specs.State as nodes
use Rattle.sheep_node.specs.State.{Node}
use Rattle.sheep_node.specs.Step.{node_step}
use Rattle.sheep_node.specs.Changes.{IsSoundStep}
use Rattle.sheep_node.proofs.NumberChanges.{one_work_after, both_after_step, one_work_at_opening}
use Rattle.sheep_world.specs.NodeCauses.{NodeCause, GuestAsks, RequestComes, ReplyComes, LossIsTold, EntryIsRead, EntryIsPut, RecoveryTicks, WorkIsRetried, ClientAsks, input_of_cause, IsCause}
use Rattle.sheep_world.specs.World.{Host, World, is_host_up}
use Rattle.sheep_world.specs.Opening as worlds
use Rattle.sheep_world.specs.Opening.{format_entry}
use Rattle.sheep_world.specs.Step.{EventOutcome}
use Rattle.sheep_world.specs.WireMatch.{WireMatchesNodes}
use Rattle.sheep_world.specs.OneWork.{IsSentInRange, NodesHaveOneWorkPerRequest, WorksAskInRange}
use Rattle.sheep_node.specs.OneWork.{HasOneWorkPerRequest}
use Rattle.sheep_world.specs.Began.{Began, MakesMove, IsInvariant}
use Rattle.sheep_world.specs.EventKinds.{outcome_of_step, log_after_return, EventKind, NodeStep, UntoldLoss, UnreadDelivery, NodeLoss, NodeLeave, NodeReweight, NodeJoin, NodeReturn, PhaseEnd}
use Rattle.sheep_world.specs.HostChanges.{HostsKeep}
use Rattle.sheep_world.specs.LogHolds.{MayGrow}
use Rattle.sheep_world.specs.HoldsTogether.{MessagesAreInRange, HoldsTogether}
use Rattle.sheep_world.proofs.AsksNumbers.{next_is_new}
use Rattle.sheep_world.proofs.BegunRequestLaws.{were_begun}
use Rattle.sheep_world.proofs.BegunWorlds.{goes_on, by_induction}
use Rattle.sheep_world.proofs.ClientReads.{goes_by_kind}
use Rattle.sheep_world.proofs.HostChangeLaws.{each_kept, each_opens}
use Rattle.sheep_world.proofs.WireAtOpening.{opening-wired}
use Rattle.sheep_world.proofs.ScriptControls.{controls-fit}
use Rattle.sheep_world.proofs.StepsByCause.{sound_step}
use Rattle.sheep_world.proofs.WireAtEvents.{is_ready, wired_after}
use Rattle.sheep_world.proofs.RangeAtEvents.{recoveries_in_range, ticks_in_range}

-- a node whose works go with its requests
abbrev Drives : World → ℕ → Host → Type 0
Drives world n host = HasOneWorkPerRequest host.node

sound_stays : (input : Input) (node : Node) → IsSoundStep input node → HasOneWorkPerRequest (node_step input node).node
sound_stays input node sound = one_work_after (node_step input node) (both_after_step input node sound)

driven_kept : (statements : List Statement) → HostsKeep statements (HoldsTogether statements) Drives
driven_kept statements = record {
  opens = λ member.
      sound_stays (inputs.LogEntry (format_entry statements)) (nodes.initial_node member.node (tries_of statements))
      (tt, one_work_at_opening member.node (tries_of statements));
  stays = λ event world made h i n host so. so;
  steps = λ world n host cause i there up caused so.
      sound_stays (input_of_cause cause) host.node (sound_step statements world n host cause caused (is_ready statements world i n host there up));
  fails = λ world n host i so. so;
  returns = λ world n host i there so. sound_stays (inputs.Back (log_after_return statements n world)) host.node (tt, so);
  joins = λ world n i control. one_work_at_opening (record { 0 = n }) (tries_of statements);
}

abbrev pub GoTogether : World → Type 0
GoTogether world = WireMatchesNodes world × NodesHaveOneWorkPerRequest world

pub opening-together : (statements : List Statement) → GoTogether (worlds.initial_world statements)
opening-together statements = (opening-wired statements, each_opens statements (HoldsTogether statements) Drives (driven_kept statements))

-- each event keeps it
pub together_kept : (statements : List Statement) (event : Event) (world : World) (made : EventOutcome)
    → MakesMove statements event world made
    → HoldsTogether statements world → IsSentInRange made.world → GoTogether made.world
together_kept statements event world made is holds requests = (
  wired_after statements event world made holds (goes_by_kind statements event world made is) requests,
  each_kept statements (HoldsTogether statements) Drives (driven_kept statements) event world made is holds holds.driven,
)

module _ (statements : List Statement) (script : IsScript statements) (grows : (world : World) → Began statements world → MayGrow world)
    (messages : (world : World) → Began statements world → MessagesAreInRange world) where
  holds_before : (world : World) → Began statements world → GoTogether world → HoldsTogether statements world
  holds_before world began together = record {
    wired = together.0;
    driven = together.1;
    begun = were_begun statements world began;
    asked = λ n host there. next_is_new statements script world began n host there;
    fit = controls-fit statements world script began;
    recoveries = recoveries_in_range statements script grows world began;
    messages = messages world began;
  }

  -- what an event makes a node send can be spelled: where a recovery ticks that is proved
  module _ (event : Event) (world : World) (made : EventOutcome) (began : Began statements world) (asks : WorksAskInRange made.world) where
    no_tick : (input : Option Input) → input ≡ made.world.input → input ≢ Some inputs.RecoverTick → IsSentInRange made.world
    no_tick input is other = asks (λ (same : made.world.input ≡ Some inputs.RecoverTick). other (is ∙ same))

    by_cause : (n : ℕ) (host : Host) (cause : NodeCause) → tree.get world.hosts n ≡ Some host → is_host_up host ≡ true
        → IsCause statements world n host cause → outcome_of_step statements n host cause world ≡ made → IsSentInRange made.world
    by_cause n host (GuestAsks session req ask) there up caused is =
        no_tick (Some (inputs.Guest req session.number ask)) (ap (λ (m : EventOutcome). m.world.input) is) (λ same. absurd (cc (same)))
    by_cause n host (RequestComes name to request) there up caused is =
        no_tick (Some (inputs.Request request)) (ap (λ (m : EventOutcome). m.world.input) is) (λ same. absurd (cc (same)))
    by_cause n host (ReplyComes name from rsp) there up caused is =
        no_tick (Some (inputs.Reply rsp)) (ap (λ (m : EventOutcome). m.world.input) is) (λ same. absurd (cc (same)))
    by_cause n host (LossIsTold name packet) there up caused is =
        no_tick (Some (inputs.Lost name.number)) (ap (λ (m : EventOutcome). m.world.input) is) (λ same. absurd (cc (same)))
    by_cause n host (EntryIsRead entry) there up caused is =
        no_tick (Some (inputs.LogEntry entry)) (ap (λ (m : EventOutcome). m.world.input) is) (λ same. absurd (cc (same)))
    by_cause n host (EntryIsPut entry) there up caused is =
        no_tick (Some inputs.Put) (ap (λ (m : EventOutcome). m.world.input) is) (λ same. absurd (cc (same)))
    by_cause n host RecoveryTicks there up may is =
        subst (λ (m : EventOutcome). IsSentInRange m.world) is (ticks_in_range statements script grows world began n host there up may)
    by_cause n host WorkIsRetried there up caused is =
        no_tick (Some inputs.RetryTick) (ap (λ (m : EventOutcome). m.world.input) is) (λ same. absurd (cc (same)))
    by_cause n host (ClientAsks req ask) there up caused is =
        no_tick (Some (inputs.Guest req 0 ask)) (ap (λ (m : EventOutcome). m.world.input) is) (λ same. absurd (cc (same)))

    at_rest_sent : None ≡ made.world.input → IsSentInRange made.world
    at_rest_sent is = no_tick None is (λ same. absurd (cc (same)))

    sent_after : EventKind statements event world made → IsSentInRange made.world
    sent_after (NodeStep h) = by_cause h.n h.host h.cause h.there h.up h.caused h.made_so
    sent_after (UntoldLoss h) = at_rest_sent (ap (λ (m : EventOutcome). m.world.input) h.made_so)
    sent_after (UnreadDelivery h) = at_rest_sent (ap (λ (m : EventOutcome). m.world.input) h.made_so)
    sent_after (NodeLoss h) = at_rest_sent (ap (λ (m : EventOutcome). m.world.input) h.made_so)
    sent_after (NodeLeave h) = at_rest_sent (ap (λ (m : EventOutcome). m.world.input) h.made_so)
    sent_after (NodeReweight h) = at_rest_sent (ap (λ (m : EventOutcome). m.world.input) h.made_so)
    sent_after (NodeJoin h) = at_rest_sent (ap (λ (m : EventOutcome). m.world.input) h.made_so)
    sent_after (NodeReturn h) =
        no_tick (Some (inputs.Back (log_after_return statements h.n world))) (ap (λ (m : EventOutcome). m.world.input) h.made_so)
        (λ same. absurd (cc (same)))
    sent_after (PhaseEnd h) = at_rest_sent (ap (λ (m : EventOutcome). m.world.input) h.made_so)

  together_invariant : IsInvariant statements GoTogether
  together_invariant = record {
    opens = opening-together statements;
    keeps = λ event world made began is together. together_kept
        statements event world made is (holds_before world began together) (sent_after event world made began
        (messages made.world (goes_on statements event world made began is)).sent (goes_by_kind statements event world made is));
  }

  pub holds_together : (world : World) → Began statements world → HoldsTogether statements world
  holds_together world began = holds_before world began (by_induction statements GoTogether together_invariant world began)
