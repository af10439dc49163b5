use Rattle.std.proofs.Common.{◌≡◌, [], Option, Some, None, ap, sym, ◌∙◌}
use denote.Ref.{Bor}
use Rattle.std.specs.Prelude.{slice_get}
use Rattle.std.specs.Option.{option_map, option_map_or}
use Rattle.message_wire.specs.declared.name.MessageName.{MessageName}
use Rattle.message_wire.specs.declared.packet.Packet.{Packet}
use Rattle.sheep_world.specs.Enabled.{message_events}
use Rattle.sheep_world.specs.EnabledPlaces.{place_behind_enabled, messages_of_sender}
use Rattle.sheep_world.proofs.world_state.WorldState.pass_message_at.Goals as goal

pub returns-in-None : goal.returns-in-None
returns-in-None c =
    let none : slice_get (messages_of_sender c.args.sender c.args.self.now) c.args.message ≡ None
    = sym c.message_of_sender.ensures ∙ ap (option_map (λ (found : MessageName × Bor Packet). (found.0, found.1.now))) c.in-None.is in
    ap (λ (found : Option (MessageName × Packet)).
    place_behind_enabled c.args.script.now c.args.self.now (option_map_or message_events found []) c.args.place) (sym none)

pub returns-in-Some : goal.returns-in-Some
returns-in-Some c =
    let there : slice_get (messages_of_sender c.args.sender c.args.self.now) c.args.message ≡ Some (c.in-Some.name, c.in-Some.packet.now)
    = sym c.message_of_sender.ensures ∙ ap (option_map (λ (found : MessageName × Bor Packet). (found.0, found.1.now))) c.in-Some.is in
    c.pass_message.ensures
    ∙ ap (λ (found : Option (MessageName × Packet)).
    place_behind_enabled c.args.script.now c.args.self.now (option_map_or message_events found []) c.args.place) (sym there)
