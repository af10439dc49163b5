use Rattle.sheep_node.specs.declared.session.Session.{Session}
use Rattle.sheep_node.proofs.StepStates.{session_changed}
use Rattle.sheep_node.proofs.step_state.StepState.set_disk.Goals as goal

pub returns : goal.returns
returns c =
    session_changed (λ (session : Session). record session { disk = c.args.disk }) c.args.number c.args.self.now c.take_session-session.new.self
    c.put_session.new.self c.take_session-session.result c.put_session.result c.take_session-session.ensures.session
    c.take_session-session.ensures.others c.put_session.ensures
