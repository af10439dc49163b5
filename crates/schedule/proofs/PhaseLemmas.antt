-- Phase ends a phase, and no other event goes back to an earlier one.
use Rattle.std.proofs.Common.{◌≡◌, ◌+◌, ◌≤◌, List, Some, refl, subst, arith}
use Rattle.std.proofs.lemmas.Option.{cond_some}
use Rattle.cluster_script.specs.declared.statement.Statement.{Statement}
use Rattle.sheep_node.specs.declared.event.Event.{Event}
use Rattle.sheep_node.specs.declared.event.Event.TheVariants as events
use Rattle.sheep_world.specs.World.{World}
use Rattle.sheep_world.specs.Conditions.{may_end_phase}
use Rattle.sheep_world.specs.EventKinds.{EventKind, NodeStep, UntoldLoss, UnreadDelivery, NodeLoss, NodeLeave, NodeReweight, NodeJoin, NodeReturn, PhaseEnd}
use Rattle.sheep_world.specs.MembershipChanges.{phase_ended}
use Rattle.sheep_world.specs.Step.{EventOutcome, only, step}
use Rattle.sheep_world.proofs.EventInversion.{happens}

module _ (statements : List Statement) (world : World) (made : EventOutcome) where
  pub phase-ends : step statements events.Phase world ≡ Some made → made.world.phase ≡ world.phase + 1
  unfolding step phase_ended
  phase-ends is = subst
      (λ (m : EventOutcome). m.world.phase ≡ world.phase + 1)
      (cond_some (may_end_phase statements world) (only (phase_ended statements world)) made is).1 refl

  kind_never_back : (event : Event) → EventKind statements event world made → world.phase ≤ made.world.phase
  kind_never_back event (NodeStep h) = subst (λ (m : EventOutcome). world.phase ≤ m.world.phase) h.made_so (omega arith)
  kind_never_back event (UntoldLoss h) = subst (λ (m : EventOutcome). world.phase ≤ m.world.phase) h.made_so (omega arith)
  kind_never_back event (UnreadDelivery h) = subst (λ (m : EventOutcome). world.phase ≤ m.world.phase) h.made_so (omega arith)
  kind_never_back event (NodeLoss h) = subst (λ (m : EventOutcome). world.phase ≤ m.world.phase) h.made_so (omega arith)
  kind_never_back event (NodeLeave h) = subst (λ (m : EventOutcome). world.phase ≤ m.world.phase) h.made_so (omega arith)
  kind_never_back event (NodeReweight h) = subst (λ (m : EventOutcome). world.phase ≤ m.world.phase) h.made_so (omega arith)
  kind_never_back event (NodeJoin h) = subst (λ (m : EventOutcome). world.phase ≤ m.world.phase) h.made_so (omega arith)
  kind_never_back event (NodeReturn h) = subst (λ (m : EventOutcome). world.phase ≤ m.world.phase) h.made_so (omega arith)
  kind_never_back event (PhaseEnd h) = subst (λ (m : EventOutcome). world.phase ≤ m.world.phase) h.made_so (omega arith)

  pub never-back : (event : Event) → step statements event world ≡ Some made → world.phase ≤ made.world.phase
  never-back event is = kind_never_back event (happens statements event world made is)
