use Rattle.std.proofs.Common.{◌≡◌, take}
use Rattle.epoch_log.specs.Members.{members_reweighted}
use Rattle.epoch_log.proofs.roster.Roster.reweigh.Given as goal

abbrev pub invariant-loop-member : goal.invariant-loop-member
invariant-loop-member l = l.members.items ≡ members_reweighted l.node.0 l.vnodes (take l.member-index l.member-items)
