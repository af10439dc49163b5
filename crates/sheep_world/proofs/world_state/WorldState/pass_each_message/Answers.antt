use Rattle.std.proofs.Common.{◌≡◌, ℕ, ◌+◌, ◌≤◌, List, [], length, drop, flat_map, refl, ap, sym, ◌∙◌, arith}
use Rattle.std.specs.Prelude.{slice_get}
use Rattle.std.specs.Option.{option_map_or}
use Rattle.message_wire.specs.declared.name.MessageName.{MessageName}
use Rattle.message_wire.specs.declared.packet.Packet.{Packet}
use Rattle.sheep_node.specs.declared.event.Event.{Event}
use Rattle.sheep_world.specs.Enabled.{message_events}
use Rattle.sheep_world.specs.EnabledPlaces.{place_behind_enabled, messages_of_sender}
use Rattle.sheep_world.proofs.EnabledPlaces.{behind-on, behind-found, events-at, events-end}
use Rattle.sheep_world.proofs.world_state.WorldState.pass_each_message.Goals as goal

pub loop-message-init : goal.loop-message-init
loop-message-init c = refl

pub loop-message-preserved : goal.loop-message-preserved
loop-message-preserved c =
    let own : List (MessageName × Packet) = messages_of_sender c.args.sender c.args.self.now in
    behind-on c.args.script.now c.args.self.now (option_map_or message_events (slice_get own c.loop-message.message) [])
    (flat_map message_events (drop (c.loop-message.message + 1) own)) c.loop-message.left
    c.in-Continue.behind (sym c.in-Continue.is ∙ c.pass_message_at.ensures)
    ∙ ap (λ (found : List Event). place_behind_enabled c.args.script.now c.args.self.now found c.loop-message.left)
    (sym (events-at message_events own c.loop-message.message))
    ∙ c.loop-message.invariant

pub returns : goal.returns
returns c =
    let own : List (MessageName × Packet) = messages_of_sender c.args.sender c.args.self.now in
    let count : c.count_of_sender-count.result ≡ length own = c.count_of_sender-count.ensures in
    let past : length own ≤ c.loop-message.message = omega (arith, count, c.loop-message-test.false) in
    ap (λ (found : List Event). place_behind_enabled c.args.script.now c.args.self.now found c.loop-message.left)
    (sym (events-end message_events own c.loop-message.message past))
    ∙ c.loop-message.invariant

pub returns-in-Break : goal.returns-in-Break
returns-in-Break c =
    let own : List (MessageName × Packet) = messages_of_sender c.args.sender c.args.self.now in
    behind-found c.args.script.now c.args.self.now (option_map_or message_events (slice_get own c.loop-message.message) [])
    (flat_map message_events (drop (c.loop-message.message + 1) own)) c.loop-message.left
    c.in-Break.event (sym c.in-Break.is ∙ c.pass_message_at.ensures)
    ∙ ap (λ (found : List Event). place_behind_enabled c.args.script.now c.args.self.now found c.loop-message.left)
    (sym (events-at message_events own c.loop-message.message))
    ∙ c.loop-message.invariant
