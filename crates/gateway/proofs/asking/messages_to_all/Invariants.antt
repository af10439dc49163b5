use Rattle.std.proofs.Common.{◌≡◌, take, map}
use Rattle.std.specs.List.{enumerate_from}
use Rattle.gateway.specs.Attempt.{message_for}
use Rattle.gateway.proofs.asking.messages_to_all.Given as goal

abbrev pub invariant-loop-place : goal.invariant-loop-place
invariant-loop-place l = l.messages ≡ map (message_for l.work) (enumerate_from l.first (enumerate_from 0 (take l.place l.targets)))
