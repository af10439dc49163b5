use Rattle.std.proofs.Common.{◌≡◌, ◌≤◌, List, length, Some, None, ap, sym, ◌∙◌, arith}
use denote.Ref.{Bor}
use Rattle.std.specs.Prelude.{slice_get}
use Rattle.std.specs.Option.{option_map}
use Rattle.message_wire.specs.declared.name.MessageName.{MessageName}
use Rattle.message_wire.specs.declared.packet.Packet.{Packet}
use Rattle.sheep_world.specs.EnabledPlaces.{messages_of_sender, delivery_event}
use Rattle.sheep_world.proofs.SenderEvents.{slice_get-past, one-behind, one-found}
use Rattle.sheep_world.proofs.world_state.WorldState.pass_deliveries.Goals as goal

pub overflow_sub-left : goal.overflow_sub-left
overflow_sub-left c =
    let own : List (MessageName × Packet) = messages_of_sender c.args.sender c.args.self.now in
    let none : slice_get own c.args.place ≡ None
    = sym c.message_of_sender.ensures ∙ ap (option_map (λ (found : MessageName × Bor Packet). (found.0, found.1.now))) c.in-None.is in
    let most : length own ≤ c.args.place = slice_get-past own c.args.place none in
    let count : c.count_of_sender-count.result ≡ length own = c.count_of_sender-count.ensures in
    omega (arith, count, most)

pub returns-in-None : goal.returns-in-None
returns-in-None c =
    let own : List (MessageName × Packet) = messages_of_sender c.args.sender c.args.self.now in
    let none : slice_get own c.args.place ≡ None
    = sym c.message_of_sender.ensures ∙ ap (option_map (λ (found : MessageName × Bor Packet). (found.0, found.1.now))) c.in-None.is in
    one-behind (λ (found : MessageName × Packet). delivery_event found.0) own c.args.place c.count_of_sender-count.result none c.count_of_sender-count.ensures

pub returns-in-Some : goal.returns-in-Some
returns-in-Some c =
    let own : List (MessageName × Packet) = messages_of_sender c.args.sender c.args.self.now in
    let there : slice_get own c.args.place ≡ Some (c.in-Some.found.0, c.in-Some.found.1.now)
    = sym c.message_of_sender.ensures ∙ ap (option_map (λ (found : MessageName × Bor Packet). (found.0, found.1.now))) c.in-Some.is in
    one-found (λ (found : MessageName × Packet). delivery_event found.0) own c.args.place (c.in-Some.found.0, c.in-Some.found.1.now)
    c.delivery_event.result there c.delivery_event.ensures
