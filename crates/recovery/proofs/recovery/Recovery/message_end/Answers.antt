use Rattle.std.proofs.Common.{◌≡◌, Option, None, ap, sym, ◌∙◌}
use Rattle.std.specs.Option.{option_map, option_map_or, option_copied}
use Rattle.object_id.specs.declared.node.NodeId.{NodeId}
use Rattle.peer_proto.specs.declared.ask.PeerAsk.{PeerAsk}
use Rattle.peer_proto.specs.declared.say.PeerSay.{PeerSay}
use Rattle.recovery.specs.State.{RecoveryState, message_of}
use Rattle.recovery.specs.Steps.{without_unanswered, after_ask}
use Rattle.recovery.specs.Kept.{recovery_state, sent_by, sent_to}
use Rattle.recovery.proofs.ReplyLemmas.{end_by_sent}
use Rattle.recovery.proofs.recovery.Recovery.message_end.Goals as goal

pub returns-in-None-clause-ok : goal.returns-in-None-clause-ok
returns-in-None-clause-ok g c =
    let state : RecoveryState = recovery_state c.args.self.now (g.R.Rows.shown c.args.rows.now) in
    let let_go : RecoveryState = without_unanswered c.args.number state in
    let said : Option PeerSay = option_copied c.args.said in
    let none : option_map sent_to (message_of c.args.number state.recovery.unanswered) ≡ None
    = sym c.current.ensures ∙ ap (option_map sent_by) c.in-None.is in
    c.forget.ensures (g.R.Rows.shown c.args.rows.now)
    ∙ sym (end_by_sent c.args.number said state
    ∙ ap (λ (o : Option (NodeId × PeerAsk)). option_map_or (λ (sent : NodeId × PeerAsk). after_ask sent.1 sent.0 said let_go) o let_go) none)
