use Rattle.std.proofs.Common.{List, [], ap, ◌∙◌}
use Rattle.std.specs.Prelude.{slice_get}
use Rattle.std.specs.Option.{option_and_then}
use Rattle.std.specs.FinMap as tree
use Rattle.message_wire.specs.declared.name.MessageName.{MessageName}
use Rattle.message_wire.specs.declared.packet.Packet.{Packet}
use Rattle.message_wire.specs.Message.{messages_by_sender}
use Rattle.sheep_world.specs.World.{World}
use Rattle.sheep_world.proofs.EnabledPlaces.{message-in}
use Rattle.sheep_world.proofs.world_state.WorldState.message_of_sender.Goals as goal

pub returns : goal.returns
returns c =
    c.message_at.ensures
    ∙ ap (λ (world : World). option_and_then (λ (own : List (MessageName × Packet)). slice_get own c.args.place)
    (slice_get (messages_by_sender (tree.entries world.wire)) c.args.sender)) c.self.view_is
    ∙ message-in [] c.args.self.now c.args.sender c.args.place
