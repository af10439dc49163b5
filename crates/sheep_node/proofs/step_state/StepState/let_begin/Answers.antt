use Rattle.std.proofs.Common.{OnOk, ◌≡◌, ◌∙◌, sym, subst}
use Rattle.sheep_node.specs.StepState.{StepState}
use Rattle.sheep_node.specs.Waiting.{passed_over, let_begin}
use Rattle.sheep_node.specs.InStep.{IsInStep}
use Rattle.sheep_node.proofs.InSteps.{next_in_step}
use Rattle.sheep_node.proofs.step_state.StepState.let_begin.Goals as goal

pub pass_over-requires : goal.pass_over-requires
pass_over-requires c = subst IsInStep (sym c.in_ok-begin_next.ensures) (next_in_step c.args.self.now c.requires c.args.number)

pub returns : goal.returns
unfolding let_begin
returns c =
    subst (λ (after : StepState). OnOk c.pass_over.result (c.pass_over.new.self ≡ after))
    (λ i. passed_over ((c.as_slice.ensures.value ∙ c.in_ok-reqs.ensures) i) (c.in_ok-begin_next.ensures i))
    c.pass_over.ensures
