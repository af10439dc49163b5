use Rattle.std.proofs.Common.{◌≡◌, ℕ, ◌<◌, ◌==◌, true, [], Option, subst}
use Rattle.std.specs.Prelude.{unwrap_or, slice_get}
use Rattle.std.specs.List.{list_all}
use Rattle.std.specs.Option.{IfSome}
use Rattle.std.specs.FinMap as tree
use Rattle.object_id.specs.declared.node.NodeId.{NodeId}
use Rattle.message_wire.specs.declared.name.MessageName.{MessageName}
use Rattle.message_wire.specs.declared.packet.Packet.{Packet}
use Rattle.message_wire.specs.Message.{messages_by_sender}
use Rattle.message_wire.specs.NodeSet.{contains_node}
use Rattle.sheep_world.specs.World.{World, is_up}
use Rattle.sheep_world.specs.EnabledPlaces.{messages_of_sender}
use Rattle.sheep_world.proofs.SenderEvents.{sender-ends_up}
use Rattle.sheep_world.proofs.world_state.WorldState.are_ends_up_at.Goals as goal

pub returns-in-Some : goal.returns-in-Some
returns-in-Some c =
    let each = subst (λ (found : Option NodeId). IfSome found (λ (node : NodeId).
    list_all (λ (found : MessageName × Packet). found.0.sender.0 == node.0)
    (unwrap_or (slice_get (messages_by_sender (tree.entries c.self.inside.wire)) c.args.sender) []) ≡ true))
    c.in-Some.is c.sender_at.ensures.each in
    sender-ends_up c.args.self.now c.up_nodes-up.result
    (subst (λ (world : World). (node : ℕ) → node < 64 → contains_node node c.up_nodes-up.result ≡ is_up node world)
    c.self.view_is c.up_nodes-up.ensures)
    c.args.sender c.in-Some.node.0 c.are_all_ends_within.result c.are_all_ends_within.ensures
    (subst (λ (world : World). list_all (λ (found : MessageName × Packet). found.0.sender.0 == c.in-Some.node.0)
    (messages_of_sender c.args.sender world) ≡ true) c.self.view_is each)

pub returns-in-None : goal.returns-in-None
returns-in-None c = λ yes. absurd (cc (yes))
