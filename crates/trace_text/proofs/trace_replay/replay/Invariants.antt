use Rattle.std.proofs.Common.{◌≡◌, false, length}
use Rattle.trace_text.specs.Lines.{lines_in}
use Rattle.trace_text.proofs.ReplayedRuns.{IsReplayed}
use Rattle.trace_text.proofs.trace_replay.replay.Given as goal

-- the lines taken so far are the run, and the world is where it led
abbrev pub invariant-loop-run : goal.invariant-loop-run
invariant-loop-run l = (l.world.spent ≡ false) × IsReplayed l.script (lines_in l.text) l.world.world l.run l.rest

abbrev pub decreases-loop-run : goal.decreases-loop-run
decreases-loop-run l = length l.rest.rest
