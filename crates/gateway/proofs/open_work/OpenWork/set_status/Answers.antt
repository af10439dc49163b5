use Rattle.std.proofs.Common.{◌≡◌, ap, sym, subst, ◌∙◌}
use Rattle.gateway.specs.State.{WorkStage, Work}
use Rattle.gateway.specs.Messages.{IsPieceFor}
use Rattle.gateway.specs.Stage.{work_stage, IsOpenWork}
use Rattle.gateway.proofs.WorkLemmas.{IsOpenWork-with_status}
use Rattle.gateway.proofs.open_work.OpenWork.set_status.Goals as goal

pub invariant_of-self : goal.invariant_of-self
invariant_of-self c =
    let before : Work = record { work = c.self.inside.work; ended = c.self.inside.ended; stage = work_stage c.self.inside.stage } in
    subst (λ (stage : WorkStage). IsOpenWork (record { work = c.self.inside.work; ended = c.self.inside.ended; stage = stage })) (sym c.set_status.ensures)
    (IsOpenWork-with_status before c.args.number c.args.status (subst (λ (work : Work). IsPieceFor work.work c.args.status) (sym c.self.view_is) c.requires) c.self.invariant)
