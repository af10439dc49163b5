use Rattle.std.proofs.Common.{◌≡◌, ◌≤◌, take}
use Rattle.sheep_node.specs.EntryTests.{begun_by}
use Rattle.sheep_node.proofs.entry_tests.begun_by.Given as goal

abbrev pub invariant-loop-entry : goal.invariant-loop-entry
invariant-loop-entry l = record {
  begun : l.begun ≡ begun_by (take l.entry-index l.entries);
  within : l.begun ≤ l.entry-index;
}
