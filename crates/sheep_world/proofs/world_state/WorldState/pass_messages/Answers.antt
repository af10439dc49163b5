use Rattle.std.proofs.Common.{◌≡◌, ℕ, ◌+◌, ◌≤◌, List, [], length, drop, flat_map, refl, ap, sym, ◌∙◌, arith}
use Rattle.std.specs.Prelude.{slice_get}
use Rattle.std.specs.Option.{option_map_or}
use Rattle.std.specs.FinMap as tree
use Rattle.message_wire.specs.declared.name.MessageName.{MessageName}
use Rattle.message_wire.specs.declared.packet.Packet.{Packet}
use Rattle.message_wire.specs.Message.{messages_by_sender}
use Rattle.sheep_node.specs.declared.event.Event.{Event}
use Rattle.sheep_world.specs.World.{World}
use Rattle.sheep_world.specs.Enabled.{message_events}
use Rattle.sheep_world.specs.EnabledPlaces.{place_behind_enabled}
use Rattle.sheep_world.proofs.EnabledPlaces.{behind-on, behind-found, events-at, events-end, sender-messages, all-messages}
use Rattle.sheep_world.proofs.world_state.WorldState.pass_messages.Goals as goal

pub loop-sender-init : goal.loop-sender-init
loop-sender-init c =
    ap (λ (found : List Event). place_behind_enabled c.args.script.now c.args.self.now found c.args.place)
    (all-messages c.args.script.now c.args.self.now)

pub loop-sender-preserved : goal.loop-sender-preserved
loop-sender-preserved c =
    let parts : List (List (MessageName × Packet)) = messages_by_sender (tree.entries c.args.self.now.wire) in
    behind-on c.args.script.now c.args.self.now (option_map_or (flat_map message_events) (slice_get parts c.loop-sender.sender) [])
    (flat_map (flat_map message_events) (drop (c.loop-sender.sender + 1) parts)) c.loop-sender.left c.in-Continue.behind
    (sym c.in-Continue.is ∙ c.pass_sender.ensures
    ∙ ap (λ (found : List Event). place_behind_enabled c.args.script.now c.args.self.now found c.loop-sender.left)
    (sender-messages c.args.script.now c.args.self.now c.loop-sender.sender))
    ∙ ap (λ (found : List Event). place_behind_enabled c.args.script.now c.args.self.now found c.loop-sender.left)
    (sym (events-at (flat_map message_events) parts c.loop-sender.sender))
    ∙ c.loop-sender.invariant

pub returns : goal.returns
returns c =
    let parts : List (List (MessageName × Packet)) = messages_by_sender (tree.entries c.args.self.now.wire) in
    let count : c.sender_count-count.result ≡ length parts
    = c.sender_count-count.ensures ∙ ap (λ (world : World). length (messages_by_sender (tree.entries world.wire))) c.self.view_is in
    let past : length parts ≤ c.loop-sender.sender = omega (arith, count, c.loop-sender-test.false) in
    ap (λ (found : List Event). place_behind_enabled c.args.script.now c.args.self.now found c.loop-sender.left)
    (sym (events-end (flat_map message_events) parts c.loop-sender.sender past))
    ∙ c.loop-sender.invariant

pub returns-in-Break : goal.returns-in-Break
returns-in-Break c =
    let parts : List (List (MessageName × Packet)) = messages_by_sender (tree.entries c.args.self.now.wire) in
    behind-found c.args.script.now c.args.self.now (option_map_or (flat_map message_events) (slice_get parts c.loop-sender.sender) [])
    (flat_map (flat_map message_events) (drop (c.loop-sender.sender + 1) parts)) c.loop-sender.left c.in-Break.event
    (sym c.in-Break.is ∙ c.pass_sender.ensures
    ∙ ap (λ (found : List Event). place_behind_enabled c.args.script.now c.args.self.now found c.loop-sender.left)
    (sender-messages c.args.script.now c.args.self.now c.loop-sender.sender))
    ∙ ap (λ (found : List Event). place_behind_enabled c.args.script.now c.args.self.now found c.loop-sender.left)
    (sym (events-at (flat_map message_events) parts c.loop-sender.sender))
    ∙ c.loop-sender.invariant
