use Rattle.std.proofs.Common.{OnOk, ◌≡◌, sym, ap, subst, ◌∙◌}
use Rattle.sheep_node.specs.StepState.{StepState}
use Rattle.sheep_node.specs.RequestWorks.{work_begun}
use Rattle.sheep_node.proofs.BeginningWorks.{asked_at_once, asked_in_turn}
use Rattle.sheep_node.proofs.step_state.StepState.ask_work.Goals as goal

pub returns-in_ok-open_in_line : goal.returns-in_ok-open_in_line
returns-in_ok-open_in_line c =
    subst (λ (after : StepState). OnOk c.begin_work.result (c.begin_work.new.self ≡ after))
    (ap (work_begun c.args.number c.args.req c.args.work) c.in_ok-open_in_line.ensures
    ∙ sym (asked_at_once c.args.number c.args.req c.args.work c.args.self.now (sym c.may_open.ensures ∙ c.if-may_open.true)))
    c.begin_work.ensures

pub returns-else-may_open : goal.returns-else-may_open
returns-else-may_open c =
    subst (λ (after : StepState). OnOk c.wait_in_line.result (c.wait_in_line.new.self ≡ after))
    (sym (asked_in_turn c.args.number c.args.req c.args.work c.args.self.now (sym c.may_open.ensures ∙ c.if-may_open.false)))
    c.wait_in_line.ensures
