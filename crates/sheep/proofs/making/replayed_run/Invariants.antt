use Rattle.std.proofs.Common.{length}
use Rattle.trace_text.specs.Lines.{lines_in}
use Rattle.sheep.proofs.MakingRuns.{IsRetold}
use Rattle.sheep.proofs.making.replayed_run.Given as goal

-- what is told is what the lines taken so far spell
abbrev pub invariant-loop-told : goal.invariant-loop-told
invariant-loop-told l = IsRetold l.script (lines_in l.trace) l.told l.replay

abbrev pub decreases-loop-told : goal.decreases-loop-told
decreases-loop-told l = length l.replay.rest
