use Rattle.std.proofs.Common.{◌≡◌}
use Rattle.sheep_node.specs.LogReading.{epochs_up_to}
use Rattle.sheep_node.proofs.log_reading.placement_of.Given as goal

abbrev pub invariant-loop-begun : goal.invariant-loop-begun
invariant-loop-begun l = l.place ≡ epochs_up_to l.entries l.begun
