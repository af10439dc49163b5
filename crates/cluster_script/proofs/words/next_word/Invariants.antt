use Rattle.std.proofs.Common.{◌≡◌, length}
use Rattle.cluster_script.specs.Words.{words_of}
use Rattle.cluster_script.proofs.words.next_word.Given as goal

-- what was passed over has no word
abbrev pub invariant-loop-rest : goal.invariant-loop-rest
invariant-loop-rest l = words_of l.rest ≡ words_of l.line

abbrev pub decreases-loop-rest : goal.decreases-loop-rest
decreases-loop-rest l = length l.rest
