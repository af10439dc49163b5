use Rattle.std.proofs.Common.{ap, ◌∙◌, List, fold, arith}
use Rattle.std.proofs.lemmas.List.{take_all}
use Rattle.object_id.specs.declared.entry.Entry.{Entry}
use Rattle.epoch_log.specs.Members.{is_member}
use Rattle.epoch_log.specs.Epochs.{initial_members}
use Rattle.sheep_node.specs.EntryTests.{is_member_after}
use Rattle.sheep_node.proofs.EntryTestLemmas.{newest_member}
use Rattle.sheep_node.proofs.entry_tests.is_newest_member.Goals as goal

pub returns : goal.returns
returns c =
    let entries : List Entry = c.args.entries.now in
    let node = c.args.node.0 in
    c.loop-entry.invariant
    ∙ ap (fold (is_member_after node) (is_member node (initial_members entries)))
    (take_all c.loop-entry.entry-index entries (omega (arith, c.loop-entry-test.false)))
    ∙ newest_member node entries
