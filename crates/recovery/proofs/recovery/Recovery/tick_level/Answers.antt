use Rattle.std.proofs.Common.{◌≡◌, List, map, IfOk, ap, sym, subst, ◌∙◌}
use Rattle.object_id.specs.declared.node.NodeId.{NodeId}
use Rattle.peer_proto.specs.declared.ask.PeerReq.{PeerReq}
use Rattle.recovery.specs.State.{Message, RecoveryState}
use Rattle.recovery.specs.Kept.{recovery_state}
use Rattle.recovery.proofs.TickLemmas.{level_sends, no_messages_in}
use Rattle.recovery.proofs.recovery.Recovery.tick_level.Goals as goal

pub returns-in_ok-end_now-clause-sends : goal.returns-in_ok-end_now-clause-sends
returns-in_ok-end_now-clause-sends g c =
    let state : RecoveryState = recovery_state c.args.self.now (g.R.Rows.shown c.args.rows.now) in
    c.new.ensures
    ∙ sym (level_sends c.args.first c.args.search state c.requires.listed c.requires.next
    ∙ ap (map (λ (message : Message). (message.to, message.request)))
    (sym c.in_ok-flight.ensures.messages ∙ no_messages_in c.args.self.now.me c.in_ok-flight.flight (sym c.is_empty.ensures ∙ c.if-is_empty.true)))

pub returns-else-is_empty-clause-sends : goal.returns-else-is_empty-clause-sends
returns-else-is_empty-clause-sends g c =
    let state : RecoveryState = recovery_state c.args.self.now (g.R.Rows.shown c.args.rows.now) in
    subst (λ (sent : List (NodeId × PeerReq)). IfOk c.ask_level.result (λ sends. sends.list ≡ sent))
    (ap (map (λ (message : Message). (message.to, message.request))) c.in_ok-flight.ensures.messages
    ∙ sym (level_sends c.args.first c.args.search state c.requires.listed c.requires.next))
    c.ask_level.ensures.sends
