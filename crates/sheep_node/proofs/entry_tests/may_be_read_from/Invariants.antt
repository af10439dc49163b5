use Rattle.std.proofs.Common.{◌≡◌, ◌≤◌, take, drop}
use Rattle.sheep_node.specs.EntryTests.{begun_by}
use Rattle.sheep_node.specs.MayTests.{may_read_entries}
use Rattle.sheep_node.proofs.entry_tests.may_be_read_from.Given as goal

abbrev pub invariant-loop-place : goal.invariant-loop-place
invariant-loop-place l = record {
  begun : l.begun ≡ begun_by (take l.place l.entries);
  within : l.begun ≤ l.place;
  read : may_read_entries (take l.first l.entries) (drop l.first l.entries) ≡ may_read_entries (take l.place l.entries) (drop l.place l.entries);
}
