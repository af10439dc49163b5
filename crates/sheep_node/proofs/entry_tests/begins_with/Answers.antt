use Rattle.sheep_node.proofs.EntryTestLemmas.{rest_of_short}
use Rattle.sheep_node.proofs.entry_tests.begins_with.Goals as goal

pub returns-then-entries-own-clause-rest : goal.returns-then-entries-own-clause-rest
returns-then-entries-own-clause-rest c = rest_of_short c.args.own.now c.args.entries.now c.if-entries-own.true
