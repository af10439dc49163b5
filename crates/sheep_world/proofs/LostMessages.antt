-- The loss of a message, in the parts in which the code makes it.
use Rattle.std.proofs.Common.{◌≡◌, Bool, true, false, cond, List, Option, Some, None, refl, sym, ap, ◌∙◌}
use Rattle.cluster_script.specs.declared.statement.Statement.{Statement}
use Rattle.message_wire.specs.declared.name.MessageName.{MessageName}
use Rattle.message_wire.specs.declared.packet.Packet.{Packet}
use Rattle.sheep_node.specs.declared.input.Input.TheVariants as inputs
use Rattle.sheep_world.specs.World.{World, is_up, message_at}
use Rattle.sheep_world.specs.NodeSteps.{node_stepped, at_rest}
use Rattle.sheep_world.specs.Messages.{without_message, loss_used, loss_told, message_lost}

module _ (statements : List Statement) (name : MessageName) (before : World) where
  -- the world in which the sender is told of the loss
  abbrev pub lost_in : World
  lost_in = without_message name (record (at_rest before) { losses = (loss_used name (message_at name before) before).losses })

  used : (packet : Option Packet)
      → record (at_rest before) { losses = (loss_used name packet before).losses } ≡ loss_used name packet (at_rest before)
  used None = refl
  used (Some packet) = refl

  told : message_lost statements name before ≡ loss_told statements name lost_in
  unfolding message_lost
  told = ap (λ (world : World). loss_told statements name (without_message name world)) (sym (used (message_at name before)))

  by_test : (world : World) (up : Bool) → World
  by_test world up = cond up (node_stepped statements name.sender.0 (inputs.Lost name.number) world) world

  pub lost-told : (world : World) → world ≡ lost_in → is_up name.sender.0 world ≡ true
      → node_stepped statements name.sender.0 (inputs.Lost name.number) world ≡ message_lost statements name before
  unfolding by_test message_lost
  lost-told world is up =
      sym (ap (by_test world) up)
      ∙ ap (loss_told statements name) is
      ∙ sym told

  pub lost-untold : (world : World) → world ≡ lost_in → is_up name.sender.0 world ≡ false → world ≡ message_lost statements name before
  unfolding by_test message_lost
  lost-untold world is up =
      sym (ap (by_test world) up)
      ∙ ap (loss_told statements name) is
      ∙ sym told
