use Rattle.std.proofs.Common.{ap, sym, is_some, ◌∙◌}
use Rattle.sheep_node.proofs.RefusedEnds.{no_end}
use Rattle.sheep_node.proofs.course.command_end.Goals as goal

pub returns-else-is_some : goal.returns-else-is_some
returns-else-is_some c =
    sym (no_end c.args.cause c.args.op.now (ap is_some (sym c.bytes_wanted.ensures) ∙ sym c.is_some.ensures ∙ c.if-is_some.false))
