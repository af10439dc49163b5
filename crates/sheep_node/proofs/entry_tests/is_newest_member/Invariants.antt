use Rattle.std.proofs.Common.{◌≡◌, take, fold}
use Rattle.epoch_log.specs.Members.{is_member}
use Rattle.epoch_log.specs.Epochs.{initial_members}
use Rattle.sheep_node.specs.EntryTests.{is_member_after}
use Rattle.sheep_node.proofs.entry_tests.is_newest_member.Given as goal

abbrev pub invariant-loop-entry : goal.invariant-loop-entry
invariant-loop-entry l =
    l.is ≡ fold (is_member_after l.node.0) (is_member l.node.0 (initial_members l.entries)) (take l.entry-index l.entries)
