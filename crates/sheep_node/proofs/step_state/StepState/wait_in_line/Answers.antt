use Rattle.std.proofs.Common.{OnOk, ◌≡◌, subst}
use Rattle.guest_driver.specs.InodeQueue.{InodeQueue, queue_with_waiting}
use Rattle.sheep_node.specs.declared.session.Session.{Session}
use Rattle.sheep_node.specs.StepState.{with_session}
use Rattle.sheep_node.proofs.StepStates.{session_changed}
use Rattle.sheep_node.proofs.step_state.StepState.wait_in_line.Goals as goal

pub returns : goal.returns
returns c =
    session_changed (λ (session : Session). record session { inode_queue = queue_with_waiting session.inode_queue c.args.req c.args.work })
    c.args.number c.args.self.now c.take_session-session.new.self c.put_session.new.self c.take_session-session.result c.put_session.result
    c.take_session-session.ensures.session c.take_session-session.ensures.others
    (subst (λ (inode_queue : InodeQueue). OnOk c.put_session.result (c.put_session.new.self
    ≡ with_session c.args.number (record c.take_session-session.result { inode_queue = inode_queue }) c.take_session-session.new.self))
    c.in_ok-wait.ensures.ok c.put_session.ensures)
