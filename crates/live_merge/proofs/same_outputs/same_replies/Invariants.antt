use Rattle.std.proofs.Common.{◌≡◌, take}
use Rattle.live_merge.proofs.same_outputs.same_replies.Given as goal

-- they are the same so far
abbrev pub invariant-loop-place : goal.invariant-loop-place
invariant-loop-place l = take l.place l.one ≡ take l.place l.other
