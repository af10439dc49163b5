use Rattle.std.proofs.Common.{◌≡◌, Option, Some, true, refl, ap, ◌∙◌}
use Rattle.std.specs.Option.{option_copied}
use Rattle.std.specs.FinMap as tree
use Rattle.peer_proto.specs.declared.say.PeerRsp.{PeerRsp}
use Rattle.message_wire.specs.declared.packet.Packet.TheVariants.{Reply}
use Rattle.sheep_world.proofs.message_events.wire_with_reply.Goals as goal

pub returns-in_ok-put-in-Some : goal.returns-in_ok-put-in-Some
returns-in_ok-put-in-Some c =
    let up : c.args.is_up ≡ true = c.if-not-is_up.false in
    let said : option_copied c.args.say ≡ Some c.in-Some.rsp.now = ap option_copied c.in-Some.is in
    c.in_ok-put-in-Some.ensures.ok
    ∙ ap (λ bytes. tree.insert c.args.wire c.args.name (Reply c.args.from bytes)) c.in_ok-bytes-in-Some.ensures
    ∙ rw (up, said) refl
