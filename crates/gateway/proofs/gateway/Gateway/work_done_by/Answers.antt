use Rattle.std.proofs.Common.{Bool, ap, sym, ◌∙◌}
use Rattle.gateway.specs.Attempt.{status_by}
use Rattle.gateway.specs.State.{asker}
use Rattle.gateway.specs.Kept.{may_be_done_by}
use Rattle.gateway.proofs.DoneWorks.{work_done-none}
use Rattle.gateway.proofs.gateway.Gateway.work_done_by.Goals as goal

pub returns-then-not-may_be_done-clause-done : goal.returns-then-not-may_be_done-clause-done
returns-then-not-may_be_done-clause-done c =
    sym (work_done-none c.args.self.now c.args.rsp.now.number (status_by c.args.rsp.now.say)
    (ap (λ (b : Bool). may_be_done_by c.args.rsp.now.number b (asker c.args.rsp.now.number c.args.self.now)) (sym c.is_success.ensures)
    ∙ sym c.may_be_done.ensures ∙ c.if-not-may_be_done.true))
