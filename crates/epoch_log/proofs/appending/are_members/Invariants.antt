use Rattle.std.proofs.Common.{ℕ, ◌+◌, ◌<◌, slice_index}
use Rattle.epoch_log.specs.Members.{node_numbers}
use Rattle.epoch_log.proofs.appending.are_members.Given as goal

abbrev pub invariant-loop-place : goal.invariant-loop-place
invariant-loop-place l = record {
  below : (k : ℕ) → k < l.place → slice_index (node_numbers l.members) k < 64;
  up : (k : ℕ) → k + 1 < l.place → slice_index (node_numbers l.members) k < slice_index (node_numbers l.members) (k + 1);
}
