use Rattle.std.proofs.Common.{◌≡◌, sym, ◌∙◌}
use Rattle.sheep_node.specs.declared.input.Input.TheVariants as inputs
use Rattle.live_cells.proofs.PutLemmas.{first_puttable, puttable_may_stand}
use Rattle.live_cells.proofs.laws.what_a_node_puts_may_stand_in_the_log.Goals as goal

pub returns : goal.returns
returns c = λ log entry some room.
    puttable_may_stand log entry
    (first_puttable c.args.cell.now.node.outbox entry
    (sym (c.outputs_are_as_the_input.ensures.put inputs.Put c.args.cell.now.node) ∙ some) c.node-node.ensures.puts) room
