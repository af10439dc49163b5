use Rattle.std.proofs.Common.{ap, sym, ◌∙◌}
use Rattle.std.proofs.lemmas.Bool.Decides.{same_from_decides}
use Rattle.sheep_node.specs.declared.ask.Ask.TheVariants as asks
use Rattle.sheep_node.specs.MayTests.{is_guest_ask}
use Rattle.sheep_node.proofs.MayTestLaws.{guest_ask_tested}
use Rattle.sheep_node.proofs.state.NodeState.is_guest_ask.Goals as goal

pub returns-in-Vdi : goal.returns-in-Vdi
returns-in-Vdi c =
    let node = c.args.self.now in
    let ask = c.in-Vdi.ask in
    same_from_decides c.is_vdi_ask.result (is_guest_ask node (asks.Vdi ask)) c.is_vdi_ask.ensures (guest_ask_tested node (asks.Vdi ask))
    ∙ ap (is_guest_ask node) (sym c.in-Vdi.is)
