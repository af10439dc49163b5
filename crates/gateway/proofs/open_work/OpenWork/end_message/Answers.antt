use Rattle.std.proofs.Common.{◌≡◌, ap, sym, subst, ◌∙◌}
use Rattle.gateway.specs.declared.message.Status.TheVariants.{Unanswered}
use Rattle.gateway.specs.State.{Work}
use Rattle.gateway.specs.Stage.{IsOpenWork}
use Rattle.gateway.specs.Kept.{work_with_status}
use Rattle.gateway.proofs.WorkLemmas.{failed-open, work_taken_back}
use Rattle.gateway.proofs.open_work.OpenWork.end_message.Goals as goal

pub fail-requires : goal.fail-requires
fail-requires c =
    failed-open c.args.tries c.args.touched c.set_status.new.self c.set_status.new.self.stage (sym c.in-Failed.is ∙ c.in-Ok.ensures.ok)

pub returns-in-Err-clause-err : goal.returns-in-Err-clause-err
returns-in-Err-clause-err c =
    let before : Work = c.args.self.now in
    c.set_status-in-Err.ensures
    ∙ ap (λ (work : Work). work_with_status c.args.number Unanswered work) c.set_status.ensures
    ∙ work_taken_back before c.args.number c.args.status (subst IsOpenWork c.self.view_is c.self.invariant) c.requires.awaited
