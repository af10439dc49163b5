use Rattle.std.proofs.Common.{◌≡◌, ◌≤◌, ap, sym, subst, ◌∙◌, List, length, Option}
use Rattle.object_id.specs.declared.entry.Entry.{Entry}
use Rattle.epoch_log.specs.declared.tally.Tally.{Tally}
use Rattle.epoch_log.specs.Members.{is_member}
use Rattle.epoch_log.specs.Epochs.{members_in, epoch_of}
use Rattle.vnode_table.specs.Epochs.{members_at}
use Rattle.sheep_node.specs.KeptLog.{IsTallySoFar}
use Rattle.sheep_node.specs.StepFacts.{FollowsLog}
use Rattle.sheep_node.specs.RecoveryView.{PlacedPeer}
use Rattle.sheep_node.proofs.KeptLogs.{members_of_newest}
use Rattle.sheep_node.proofs.node_rows.NodeRows.has_member.Goals as goal

pub returns : goal.returns
returns g c =
    let node = c.args.node.0 in
    let peer = c.self.inside.peer in
    let entries : List Entry = peer.entries in
    let some : 1 ≤ length entries = (subst (λ (tally : Option Tally). IsTallySoFar entries tally) c.in-Some.is c.self.invariant.0).0 in
    let follows : FollowsLog peer.epoch peer.settled c.self.inside.place entries
    = subst (λ (placed : PlacedPeer). FollowsLog placed.peer.epoch placed.peer.settled placed.epochs placed.peer.entries) (sym c.self.view_is) c.requires.by_the_log in
    let read : c.entries-entries.result.now ≡ entries = c.entries-entries.ensures ∙ c.directory.ensures in
    c.is_member.ensures
    ∙ ap (is_member node) (c.members.ensures
    ∙ ap (members_in c.entries-entries.result.now) c.epoch.ensures
    ∙ ap (λ (read : List Entry). members_in read (epoch_of read)) read
    ∙ sym (members_of_newest peer.epoch peer.settled c.self.inside.place entries follows some))
    ∙ ap (λ (placed : PlacedPeer). is_member node (members_at placed.epochs placed.peer.epoch)) c.self.view_is
