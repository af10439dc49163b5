use Rattle.std.proofs.Common.{List, [], ◌∷◌, ◌++◌, OnOk, ◌≡◌, subst}
use Rattle.gateway_queue.specs.declared.queue.Queued.{Queued}
use Rattle.sheep_node.specs.declared.session.Session.{Session}
use Rattle.sheep_node.specs.StepState.{with_session}
use Rattle.sheep_node.proofs.StepStates.{session_changed}
use Rattle.sheep_node.proofs.step_state.StepState.push_request.Goals as goal

pub returns : goal.returns
returns c =
    let queued : Queued = record { req = c.args.req; first = c.args.first; last = c.args.last } in
    session_changed (λ (session : Session). record session { queue = session.queue ++ queued ∷ [] })
    c.args.number c.args.self.now c.take_session-session.new.self c.put_session.new.self c.take_session-session.result c.put_session.result
    c.take_session-session.ensures.session c.take_session-session.ensures.others
    (subst (λ (queue : List Queued). OnOk c.put_session.result (c.put_session.new.self
    ≡ with_session c.args.number (record c.take_session-session.result { queue = queue }) c.take_session-session.new.self))
    c.in_ok-push.ensures.ok c.put_session.ensures)
