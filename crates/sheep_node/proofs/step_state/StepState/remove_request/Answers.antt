use Rattle.std.proofs.Common.{OnOk, ◌≡◌, subst}
use Rattle.sheep_node.specs.declared.session.Session.{Session}
use Rattle.sheep_node.specs.StepState.{StepState, session_in, with_session, session_without}
use Rattle.sheep_node.proofs.StepStates.{session_changed}
use Rattle.sheep_node.proofs.step_state.StepState.remove_request.Goals as goal

pub returns : goal.returns
returns c =
    subst (λ (so_far : StepState). OnOk c.put_session.result
    (c.put_session.new.self ≡ with_session c.args.number (session_without c.args.req (session_in c.args.number so_far)) so_far))
    c.remove_course.ensures
    (session_changed (session_without c.args.req) c.args.number c.remove_course.new.self c.take_session-session.new.self
    c.put_session.new.self c.take_session-session.result c.put_session.result c.take_session-session.ensures.session
    c.take_session-session.ensures.others
    (subst (λ (session : Session). OnOk c.put_session.result
    (c.put_session.new.self ≡ with_session c.args.number session c.take_session-session.new.self)) c.end_request.ensures c.put_session.ensures))
