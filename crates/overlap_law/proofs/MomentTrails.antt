-- An event is a trail of changes: a node's step by the chain of the node's own changes, and each other event in one change.
use Rattle.std.proofs.Common.{◌≡◌, List, subst}
use Rattle.cluster_script.specs.declared.statement.Statement.{Statement}
use Rattle.sheep_node.specs.declared.event.Event.{Event}
use Rattle.sheep_node.specs.declared.input.Input.{Input}
use Rattle.sheep_node.specs.State.{Node}
use Rattle.sheep_node.specs.StepState.{StepState}
use Rattle.sheep_node.specs.Changes as changes
use Rattle.sheep_node.specs.Changes.{Leads}
use Rattle.sheep_node.proofs.StepChain.{step_chain}
use Rattle.sheep_world.specs.Step.{EventOutcome}
use Rattle.sheep_world.specs.NodeCauses.{NodeCause, GuestAsks, RequestComes, ReplyComes, LossIsTold, EntryIsRead, EntryIsPut, RecoveryTicks}
use Rattle.sheep_world.specs.NodeCauses.{WorkIsRetried, ClientAsks, input_of_cause, event_of_cause}
use Rattle.sheep_world.specs.EventKinds as kinds
use Rattle.sheep_world.specs.EventKinds.{outcome_of_step, EventKind}
use Rattle.sheep_world.proofs.ClientReads.{goes_by_kind}
use Rattle.sheep_world.specs.Began.{MakesMove}
use Rattle.overlap_law.specs.Past.{MomentWithPast, moment_after}
use Rattle.overlap_law.specs.StepMoments.{SteppingNode, IsStepping, StepsByChanges, StepsAtOnce, first_in_step, last_in_step, LeadsInStep}
use Rattle.overlap_law.specs.StepMoments.{moment_in_step}
use Rattle.overlap_law.specs.MomentChanges.{MomentTrail, Still, Then, StepBegins, StepGoesOn, StepIsMade, LossIsUntold, DeliveryIsUnread}
use Rattle.overlap_law.specs.MomentChanges.{NodeIsLost, NodeLeaves, NodeIsReweighted, NodeJoins, NodeComesBack, PhaseEnds, EventsAreTrails}
use Rattle.overlap_law.proofs.GoingOn.{goes_as, has_gone}
use Rattle.sheep_world.specs.RunsWithAsks.{event_of_move}

-- one chain of a node's changes goes on with another
pub leads_joined : {input : Input} {node : Node} {first middle last : StepState} → Leads input node first middle
    → Leads input node middle last
    → Leads input node first last
leads_joined one changes.Still = one
leads_joined one (changes.Then more change) = changes.Then (leads_joined one more) change

module _ (script : List Statement) (start : MomentWithPast) where
  abbrev Reaches : Event → EventOutcome → Type 0
  Reaches event made = MomentTrail script start (moment_after script event start made)

  module _ (stepping : SteppingNode) (is : IsStepping script start.world stepping) where
    -- a trail to each point of a step
    pub to_point : StepsByChanges stepping.cause → {so_far : StepState} → LeadsInStep stepping (first_in_step stepping) so_far
        → LeadsInStep stepping so_far (last_in_step stepping) → MomentTrail script start (moment_in_step script stepping start so_far)
    to_point by changes.Still rest = Then Still (StepBegins stepping is by)
    to_point by (changes.Then {so_far} {next} leads change) rest =
        Then (to_point by leads (leads_joined (changes.Then changes.Still change) rest))
        (StepGoesOn stepping so_far next is by (record { leads = leads; change = change; rest = rest }))

    by_changes : StepsByChanges stepping.cause → MomentTrail script start (moment_in_step script stepping start (last_in_step stepping))
    by_changes by = to_point by (step_chain (input_of_cause stepping.cause) stepping.host.node) changes.Still

    at_once : StepsAtOnce stepping.cause → MomentTrail script start (moment_in_step script stepping start (last_in_step stepping))
    at_once by = Then Still (StepIsMade stepping is by)

    either_way : (cause : NodeCause)
        → (StepsByChanges cause → MomentTrail script start (moment_in_step script stepping start (last_in_step stepping)))
        → (StepsAtOnce cause → MomentTrail script start (moment_in_step script stepping start (last_in_step stepping)))
        → MomentTrail script start (moment_in_step script stepping start (last_in_step stepping))
    either_way (GuestAsks session req ask) many one = many tt
    either_way (RequestComes name to request) many one = one tt
    either_way (ReplyComes name from rsp) many one = many tt
    either_way (LossIsTold name packet) many one = many tt
    either_way (EntryIsRead entry) many one = many tt
    either_way (EntryIsPut entry) many one = one tt
    either_way RecoveryTicks many one = one tt
    either_way WorkIsRetried many one = many tt
    either_way (ClientAsks req ask) many one = many tt

    -- the whole step, whose end is the moment after its event
    step_trail : Reaches (event_of_cause stepping.n stepping.cause)
        (outcome_of_step script stepping.n stepping.host stepping.cause start.world)
    step_trail = either_way stepping.cause by_changes at_once

  -- what was made, and the event, as the kind has them
  so_made : {event own : Event} {made its : EventOutcome} → own ≡ event → its ≡ made → Reaches own its → Reaches event made
  so_made {event} {own} {made} {its} is so reaches = subst (λ (e : Event). Reaches e made) is (subst (Reaches own) so reaches)

  by_kind : (event : Event) (made : EventOutcome) → MakesMove script event start.world made → EventKind script event start.world made
      → Reaches event made
  by_kind event made happened (kinds.NodeStep h) =
      so_made h.event_so h.made_so
      (step_trail (record { n = h.n; host = h.host; cause = h.cause }) (record {
        there = h.there;
        up = h.up;
        caused = h.caused;
        made = goes_as script start.world h.event_so h.made_so happened;
      }))
  by_kind event made happened (kinds.UntoldLoss h) = Then Still (LossIsUntold event made happened h)
  by_kind event made happened (kinds.UnreadDelivery h) = Then Still (DeliveryIsUnread event made happened h)
  by_kind event made happened (kinds.NodeLoss h) = Then Still (NodeIsLost event made happened h)
  by_kind event made happened (kinds.NodeLeave h) = Then Still (NodeLeaves event made happened h)
  by_kind event made happened (kinds.NodeReweight h) = Then Still (NodeIsReweighted event made happened h)
  by_kind event made happened (kinds.NodeJoin h) = Then Still (NodeJoins event made happened h)
  by_kind event made happened (kinds.NodeReturn h) = Then Still (NodeComesBack event made happened h)
  by_kind event made happened (kinds.PhaseEnd h) = Then Still (PhaseEnds event made happened h)

pub event_trail : (script : List Statement) → EventsAreTrails script
event_trail script event before after is =
    let gone = has_gone script event before after is in
    subst (MomentTrail script before) gone.after_so
    (by_kind script before (event_of_move event) gone.made gone.goes
    (goes_by_kind script (event_of_move event) before.world gone.made gone.goes))
