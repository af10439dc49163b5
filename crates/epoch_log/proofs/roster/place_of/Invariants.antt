use Rattle.std.proofs.Common.{◌≡◌, ◌++◌, take, drop}
use Rattle.epoch_log.specs.Members.{members_with}
use Rattle.epoch_log.proofs.roster.place_of.Given as goal

abbrev pub invariant-loop-place : goal.invariant-loop-place
invariant-loop-place l = members_with l.member l.members ≡ take l.place l.members ++ members_with l.member (drop l.place l.members)
