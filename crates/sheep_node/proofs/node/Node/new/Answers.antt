use Rattle.std.proofs.Common.{◌≡◌, refl, sym, subst}
use Rattle.sheep_node.specs.StepState.{StepState, at_first}
use Rattle.sheep_node.specs.NodeInvariant.{IsSoundNode}
use Rattle.sheep_node.proofs.NodeLaws.{IsSoundNode-initial}
use Rattle.sheep_node.proofs.node.Node.new.Goals as goal

pub invariant_of-result : goal.invariant_of-result
invariant_of-result c = λ live. (
  subst (λ (step : StepState). step ≡ at_first step.node) (sym c.new-2.ensures) refl,
  subst (λ (step : StepState). IsSoundNode step.node) (sym c.new-2.ensures)
      (subst IsSoundNode (sym c.new.ensures) (IsSoundNode-initial c.args.me c.args.tries)),
)
