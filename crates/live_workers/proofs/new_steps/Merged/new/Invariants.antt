use Rattle.std.proofs.Common.{◌≡◌, replicate}
use Rattle.live_workers.proofs.new_steps.Merged.new.Given as goal

-- so many counts so far
abbrev pub invariant-loop : goal.invariant-loop
invariant-loop l = l.cells.items ≡ replicate l.counter 0
