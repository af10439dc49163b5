use Rattle.std.proofs.Common.{◌≡◌, take, drop}
use Rattle.sheep_node.specs.MayTests.{rest_behind}
use Rattle.sheep_node.proofs.entry_tests.begins_with.Given as goal

abbrev pub invariant-loop-place : goal.invariant-loop-place
invariant-loop-place l = record {
  same : take l.place l.entries ≡ take l.place l.own;
  rest : rest_behind l.own l.entries ≡ rest_behind (drop l.place l.own) (drop l.place l.entries);
}
