use Rattle.std.proofs.Common.{◌≡◌, ◌++◌, drop, map}
use Rattle.std.specs.Prelude.{decimal}
use Rattle.epoch_log.specs.Members.{node_numbers}
use Rattle.dog_report.specs.Words.{following_words}
use Rattle.dog_report.proofs.cluster_info.push_numbers.Given as goal

-- what was added, with the numbers of the members that are left, is all of them
abbrev pub invariant-loop-member : goal.invariant-loop-member
invariant-loop-member l =
    l.text.items ++ following_words (map decimal (node_numbers (drop l.member-index l.members)))
    ≡ l.fn.text.items ++ following_words (map decimal (node_numbers l.members))
