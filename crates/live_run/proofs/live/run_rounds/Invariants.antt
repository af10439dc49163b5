use Rattle.std.proofs.Common.{◌≡◌, false}
use Rattle.live_merge.specs.Merging.{EndsIn}
use Rattle.live_run.proofs.live.run_rounds.Given as goal

-- the run so far leads to the world
abbrev pub invariant-loop : goal.invariant-loop
invariant-loop g l = (l.world.spent ≡ false) × EndsIn l.script l.run l.world.world
