use Rattle.std.proofs.Common.{Some, ap, sym, ◌∙◌}
use Rattle.std.specs.Option.{option_copied, option_map}
use Rattle.message_wire.specs.Message.{asked_node}
use Rattle.message_wire.proofs.sender_messages.asked_at.Goals as goal

pub returns-in-Some : goal.returns-in-Some
returns-in-Some c =
    ap Some c.asked_node.ensures ∙ sym (ap (option_map asked_node) (sym c.value_at.ensures ∙ ap option_copied c.in-Some.is))

pub returns-in-None : goal.returns-in-None
returns-in-None c = sym (ap (option_map asked_node) (sym c.value_at.ensures ∙ ap option_copied c.in-None.is))
