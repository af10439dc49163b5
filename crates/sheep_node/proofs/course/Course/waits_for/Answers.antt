use Rattle.std.proofs.Common.{ap, sym, ◌∙◌}
use Rattle.sheep_node.specs.AwaitedEntry.{waits_for_entry}
use Rattle.sheep_node.proofs.AwaitedEntryLaws.{waits_as_told}
use Rattle.sheep_node.proofs.course.Course.waits_for.Goals as goal

pub returns-in-Commanding : goal.returns-in-Commanding
returns-in-Commanding c =
    waits_as_told c.waits_for.result c.args.entry.now c.in-Commanding.op c.waits_for.ensures
    ∙ ap (waits_for_entry c.args.entry.now) (sym c.in-Commanding.is)
