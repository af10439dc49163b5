-- Each change of a moment is of a node's step, or an event makes it at once. So what holds behind each event holds behind each change, for
-- each leads to what an event makes of the moment in which it begins.
use Rattle.std.proofs.Common.{List}
use Rattle.cluster_script.specs.declared.statement.Statement.{Statement}
use Rattle.sheep_node.specs.declared.event.Event.{Event}
use Rattle.sheep_node.specs.StepState.{StepState}
use Rattle.sheep_world.specs.EventKinds.{outcome_of_step}
use Rattle.sheep_world.specs.NodeCauses.{event_of_cause}
use Rattle.sheep_world.specs.Began.{MakesMove}
use Rattle.sheep_world.specs.Step.{EventOutcome}
use Rattle.overlap_law.specs.MomentChanges as moments
use Rattle.overlap_law.specs.MomentChanges.{MomentChange}
use Rattle.overlap_law.specs.Past.{MomentWithPast, moment_after}
use Rattle.overlap_law.specs.StepMoments.{SteppingNode, IsStepping, StepsByChanges, IsWithinStep, outcome_in_step, first_in_step}
use Rattle.overlap_law.specs.StepMoments.{moment_in_step}

module _ (script : List Statement) (start : MomentWithPast) where
  module _ (P : MomentWithPast → MomentWithPast → Type 0)
      (begins : (on : SteppingNode) → IsStepping script start.world on → StepsByChanges on.cause
      → P start (moment_in_step script on start (first_in_step on)))
      (goes_on : (on : SteppingNode) → IsStepping script start.world on → StepsByChanges on.cause → (so_far next : StepState)
      → IsWithinStep on so_far next → P (moment_in_step script on start so_far) (moment_in_step script on start next))
      (at_once : (event : Event) (made : EventOutcome) → MakesMove script event start.world made
      → P start (moment_after script event start made)) where
    pub by_change : {before after : MomentWithPast} → MomentChange script start before after → P before after
    by_change (moments.StepBegins on is by) = begins on is by
    by_change (moments.StepGoesOn on so_far next is by within) = goes_on on is by so_far next within
    by_change (moments.StepIsMade on is by) =
        at_once (event_of_cause on.n on.cause) (outcome_of_step script on.n on.host on.cause start.world) is.made
    by_change (moments.LossIsUntold event made happened h) = at_once event made happened
    by_change (moments.DeliveryIsUnread event made happened h) = at_once event made happened
    by_change (moments.NodeIsLost event made happened h) = at_once event made happened
    by_change (moments.NodeLeaves event made happened h) = at_once event made happened
    by_change (moments.NodeIsReweighted event made happened h) = at_once event made happened
    by_change (moments.NodeJoins event made happened h) = at_once event made happened
    by_change (moments.NodeComesBack event made happened h) = at_once event made happened
    by_change (moments.PhaseEnds event made happened h) = at_once event made happened

  pub behind_change : (P : MomentWithPast → Type 0) → ((event : Event) (made : EventOutcome) → P (moment_after script event start made))
      → {before after : MomentWithPast} → MomentChange script start before after → P after
  behind_change P behind change =
      by_change (λ before after. P after)
      (λ on is by. behind (event_of_cause on.n on.cause) (outcome_in_step script on start.world (first_in_step on)))
      (λ on is by so_far next within. behind (event_of_cause on.n on.cause) (outcome_in_step script on start.world next))
      (λ event made happened. behind event made) change
