use Rattle.std.proofs.Common.{OnOk, ◌≡◌, subst}
use Rattle.recovery.specs.Steps.{recovery_on_reply}
use Rattle.sheep_node.specs.State.{Node}
use Rattle.sheep_node.specs.RecoveryView.{recovery_state_of, with_state}
use Rattle.sheep_node.proofs.RecoveredNodes.{with_recovery, recovered_by_reply}
use Rattle.sheep_node.proofs.state.NodeState.reply_to_recovery.Goals as goal

pub returns : goal.returns
returns c =
    let had : Node = record {
      me = c.self.inside.me;
      peer = c.self.inside.rows.peer;
      epochs = c.self.inside.rows.epochs;
      gateway = c.self.inside.gateway;
      recovery = c.self.inside.recovery;
      recovered = c.self.inside.recovered;
      sessions = c.self.inside.sessions;
      requests = c.self.inside.requests;
      outbox = c.self.inside.outbox.items;
      sends = c.self.inside.sends;
    } in
    subst (λ (node : Node). OnOk c.on_reply.result
    (with_recovery c.on_reply.new.self c.on_reply.new.rows had ≡ with_state (recovery_on_reply c.args.rsp.now (recovery_state_of node)) node))
    c.self.view_is
    (recovered_by_reply had c.on_reply.new.self c.on_reply.new.rows c.on_reply.result c.on_reply.ensures.rest c.args.rsp.now c.on_reply.ensures.ok)
