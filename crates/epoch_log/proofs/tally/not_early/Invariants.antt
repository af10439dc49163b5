use Rattle.std.proofs.Common.{◌≡◌, take, filter, not}
use Rattle.object_id.specs.declared.entry.Member.{Member}
use Rattle.epoch_log.specs.Tally.{is_early}
use Rattle.epoch_log.proofs.tally.not_early.Given as goal

abbrev pub invariant-loop-member : goal.invariant-loop-member
invariant-loop-member l =
    l.missing.items ≡ filter (λ (member : Member). not (is_early l.early l.epoch.0 member.node.0)) (take l.member-index l.members)
