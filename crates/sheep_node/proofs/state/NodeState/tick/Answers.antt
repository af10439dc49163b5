use Rattle.std.proofs.Common.{OnOk, ◌≡◌, subst}
use Rattle.recovery.specs.Tick.{state_after_tick}
use Rattle.sheep_node.specs.State.{Node}
use Rattle.sheep_node.specs.RecoveryView.{recovery_state_of, with_state}
use Rattle.sheep_node.proofs.RecoveredNodes.{with_recovery, recovered_by_tick}
use Rattle.sheep_node.proofs.state.NodeState.tick.Goals as goal

pub returns-clause-node : goal.returns-clause-node
returns-clause-node c =
    let had : Node = record {
      me = c.self.inside.me;
      peer = c.self.inside.rows.peer;
      epochs = c.self.inside.rows.epochs;
      gateway = c.self.inside.gateway;
      recovery = c.self.inside.recovery;
      recovered = c.self.inside.recovered;
      sessions = c.self.inside.sessions;
      requests = c.self.inside.requests;
      outbox = c.self.inside.outbox.items;
      sends = c.self.inside.sends;
    } in
    subst (λ (node : Node). OnOk c.tick.result
    (with_recovery c.tick.new.self c.tick.new.rows had ≡ with_state (state_after_tick node.sends (recovery_state_of node)) node))
    c.self.view_is
    (recovered_by_tick had c.tick.new.self c.tick.new.rows c.tick.result c.tick.ensures.rest had.sends c.tick.ensures.ok)
