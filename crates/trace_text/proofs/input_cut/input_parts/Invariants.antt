use Rattle.std.proofs.Common.{length}
use Rattle.trace_text.proofs.InputCutLemmas.{IsPassed}
use Rattle.trace_text.proofs.input_cut.input_parts.Given as goal

-- no line so far ends the script
abbrev pub invariant-loop-line : goal.invariant-loop-line
invariant-loop-line l = IsPassed l.input l.rest

abbrev pub decreases-loop-line : goal.decreases-loop-line
decreases-loop-line l = length l.rest
