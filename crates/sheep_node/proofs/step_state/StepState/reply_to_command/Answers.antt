use Rattle.std.proofs.Common.{OnOk, Ok, ◌≡◌, ◌∙◌, ap, subst}
use Rattle.vdi_ops.specs.Op.{disk_change_at}
use Rattle.sheep_node.specs.declared.session.Session.{Session}
use Rattle.sheep_node.specs.StepState.{StepState, session_in, with_session, request_ended}
use Rattle.sheep_node.specs.Courses.{disk_after}
use Rattle.sheep_node.proofs.StepStates.{session_changed}
use Rattle.sheep_node.proofs.CourseSteps.{replied}
use Rattle.sheep_node.proofs.step_state.StepState.reply_to_command.Goals as goal

pub returns : goal.returns
returns c =
    let number = c.args.number in
    let change : Session → Session = λ (session : Session). record session { disk = disk_after (disk_change_at c.args.op.stage) session.disk } in
    let had = c.take_session-session.result in
    let without = c.take_session-session.new.self in
    let changed : c.put_session.new.self ≡ with_session number (change (session_in number c.args.self.now)) c.args.self.now
    = session_changed {E = Unit {0}} change number c.args.self.now without c.put_session.new.self had (Ok (tt {0}))
    c.take_session-session.ensures.session c.take_session-session.ensures.others
    (c.in_ok-put_session.ensures ∙ ap (λ (session : Session). with_session number session without) c.open_by.ensures) in
    subst (λ (after : StepState). OnOk c.end_request.result (c.end_request.new.self ≡ after))
    (ap (request_ended number c.args.req c.args.reply) changed ∙ replied number c.args.req c.args.op c.args.reply c.args.self.now)
    c.end_request.ensures
