use Rattle.std.proofs.Common.{◌≡◌, ◌++◌, length}
use Rattle.dog_report.specs.Words.{following_words}
use Rattle.dog_report.specs.RunWords.{runs_words}
use Rattle.dog_report.proofs.runs.push_runs.Given as goal

-- what was added, with the words of the rest, is the words of all
abbrev pub invariant-loop-first : goal.invariant-loop-first
invariant-loop-first l = l.text.items ++ following_words (runs_words l.rest) ≡ l.fn.text.items ++ following_words (runs_words l.bytes)

abbrev pub decreases-loop-first : goal.decreases-loop-first
decreases-loop-first l = length l.rest
