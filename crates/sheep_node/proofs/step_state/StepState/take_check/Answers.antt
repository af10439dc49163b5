use Rattle.std.proofs.Common.{OnOk, ◌≡◌, ◌∙◌, ap, sym, subst}
use Rattle.std.specs.Option.{option_copied}
use Rattle.sheep_node.specs.StepState.{StepState}
use Rattle.sheep_node.proofs.GuestSteps.{check_begun}
use Rattle.sheep_node.proofs.step_state.StepState.take_check.Goals as goal

pub returns : goal.returns
returns c =
    subst (λ (after : StepState). OnOk c.step_check.result (c.step_check.new.self ≡ after))
    (check_begun c.args.self.now c.args.number c.args.req c.in-Some.disk.now c.inode.result.now c.in_ok-check-in-Some.check
    c.in_ok-check-in-Some.act (sym c.disk.ensures ∙ ap option_copied c.in-Some.is) c.inode.ensures.value c.in_ok-check-in-Some.ensures.ok)
    c.step_check.ensures
