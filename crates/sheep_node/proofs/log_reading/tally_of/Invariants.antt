use Rattle.std.proofs.Common.{take}
use Rattle.sheep_node.specs.KeptLog.{IsTallySoFar}
use Rattle.sheep_node.proofs.log_reading.tally_of.Given as goal

abbrev pub invariant-loop-place : goal.invariant-loop-place
invariant-loop-place l = IsTallySoFar (take l.place l.entries) l.tally
