use Rattle.std.specs.Prelude.{◌≡◌, false, List, ℕ, length, Contains}
use Rattle.sheep_world.specs.SpentWorld.{WorldOrSpent}
use Rattle.trace_text.specs.Lines.{lines_in}
use Rattle.step_text.specs.Traces.{AreTaken}
use Rattle.step_text.proofs.case.make_lines.Given as goal

-- the world so far isn't spent; what is left are lines of the trace, and where they are taken from here on all of its lines are
abbrev pub invariant-loop-line : goal.invariant-loop-line
invariant-loop-line l = record {
  live : l.world.spent ≡ false;
  within : (line : List ℕ) → Contains l.lines line → Contains (lines_in l.fn.trace) line;
  taken : (now : WorldOrSpent) → AreTaken l.fn.script l.lines l.world now → AreTaken l.fn.script (lines_in l.fn.trace) l.fn.world now;
}

abbrev pub decreases-loop-line : goal.decreases-loop-line
decreases-loop-line l = length l.lines
