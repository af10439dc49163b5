use Rattle.std.proofs.Common.{Some, OnOk, ◌≡◌, subst}
use Rattle.sheep_node.specs.declared.session.Session.{Session}
use Rattle.sheep_node.specs.StepState.{StepState, session_in, with_session}
use Rattle.sheep_node.proofs.StepStates.{session_changed}
use Rattle.sheep_node.proofs.step_state.StepState.set_sole_request.Goals as goal

pub returns : goal.returns
returns c =
    let change : Session → Session = λ (session : Session). record session { command = Some c.args.req } in
    subst (λ (so_far : StepState). OnOk c.put_session.result
    (c.put_session.new.self ≡ with_session c.args.number (change (session_in c.args.number so_far)) so_far)) c.in_ok-set_course.ensures
    (session_changed change c.args.number c.set_course.new.self c.take_session-session.new.self c.put_session.new.self
    c.take_session-session.result c.put_session.result c.take_session-session.ensures.session c.take_session-session.ensures.others
    c.put_session.ensures)
