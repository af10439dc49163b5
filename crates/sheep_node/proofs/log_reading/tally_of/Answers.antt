use Rattle.std.proofs.Common.{sym, subst, take, arith}
use Rattle.sheep_node.specs.May.{MayRead}
use Rattle.sheep_node.proofs.LogsRead.{log_before, read_at}
use Rattle.sheep_node.proofs.log_reading.tally_of.Goals as goal

pub count_entry-requires-clause-log : goal.count_entry-requires-clause-log
count_entry-requires-clause-log c = log_before c.args.entries.now c.loop-place.place c.requires (omega (arith, c.loop-place-test.true))

pub count_entry-requires-clause-may : goal.count_entry-requires-clause-may
count_entry-requires-clause-may c =
    subst (MayRead (take c.loop-place.place c.args.entries.now)) (sym c.index-entries-place.is)
    (read_at c.args.entries.now c.loop-place.place c.index-entries-place.result c.requires c.loop-place-test.true)
