use Rattle.std.proofs.Common.{◌≡◌, ◌∙◌, refl, ap, sym, subst}
use Rattle.sheep_node.specs.StepState.{StepState, at_first}
use Rattle.sheep_node.specs.SpentNode.{NodeOrSpent}
use Rattle.sheep_node.specs.May.{May}
use Rattle.sheep_node.specs.NodeInvariant.{IsSoundNode}
use Rattle.sheep_node.proofs.NodeLaws.{IsSoundNode-step}
use Rattle.sheep_node.proofs.node.Node.step.Goals as goal

pub invariant_of-self : goal.invariant_of-self
invariant_of-self c = λ live. (
  subst (λ (step : StepState). step ≡ at_first step.node) (sym c.take_outputs.ensures.node) refl,
  subst (λ (step : StepState). IsSoundNode step.node)
      (sym (c.take_outputs.ensures.node ∙ ap (λ (step : StepState). at_first step.node) c.in-Ok.ensures))
      (IsSoundNode-step c.args.input c.self.inside.step.node
      (subst (λ (seen : NodeOrSpent). May c.args.input seen.node) (sym c.self.view_is) c.requires.may)
      c.objects_have_ids.ensures
      (c.self.invariant live).1),
)
