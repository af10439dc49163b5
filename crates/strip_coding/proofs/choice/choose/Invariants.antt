use Rattle.strip_coding.proofs.ChoiceLaws.{IsSoFar}
use Rattle.strip_coding.proofs.choice.choose.Given as goal

-- fewer than d places so far, and with those that the rest of the indexes adds they are all
abbrev pub invariant-loop-place : goal.invariant-loop-place
invariant-loop-place l = IsSoFar l.d l.count l.points l.places l.place l.indexes
