use Rattle.std.proofs.Common.{◌≡◌, false, take}
use Rattle.epoch_log.specs.Members.{is_member}
use Rattle.epoch_log.proofs.appending.is_member.Given as goal

abbrev pub invariant-loop-member : goal.invariant-loop-member
invariant-loop-member l = is_member l.node.0 (take l.member-index l.members) ≡ false
