use Rattle.std.proofs.Common.{OnOk, ◌≡◌, ap, sym, subst}
use Rattle.sheep_node.specs.StepState.{StepState}
use Rattle.sheep_node.specs.Waiting.{let_begin}
use Rattle.sheep_node.specs.InStep.{IsInStep}
use Rattle.sheep_node.proofs.step_state.StepState.tell_request.Goals as goal

pub let_begin-requires : goal.let_begin-requires
let_begin-requires c = subst IsInStep (sym c.in_ok-decide.ensures) c.requires.after

pub returns : goal.returns
returns c =
    subst (λ (after : StepState). OnOk c.let_begin.result (c.let_begin.new.self ≡ after))
    (ap (let_begin c.args.request.session) c.in_ok-decide.ensures)
    c.let_begin.ensures
