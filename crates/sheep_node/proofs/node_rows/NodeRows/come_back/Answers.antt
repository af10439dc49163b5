use Rattle.std.proofs.Common.{◌≡◌, ap, sym, subst, ◌∙◌, List, Option, Some}
use Rattle.object_id.specs.declared.entry.Entry.{Entry}
use Rattle.epoch_log.specs.declared.tally.Tally.{Tally}
use Rattle.peer_service.specs.State.{Peer}
use Rattle.sheep_node.specs.KeptLog.{IsTallySoFar}
use Rattle.sheep_node.proofs.KeptLogs.{entries_kept_back}
use Rattle.sheep_node.proofs.node_rows.NodeRows.come_back.Goals as goal

pub invariant_of-self-2 : goal.invariant_of-self-2
invariant_of-self-2 g c =
    let read : c.come_back.new.self.entries ≡ c.args.entries.now
    = ap (λ (peer : Peer). peer.entries) c.in_ok-come_back.ensures.ok ∙ entries_kept_back c.args.entries.now c.self.inside.peer in (
      subst (λ (entries : List Entry). IsTallySoFar entries (Some c.in-Some.tally)) (sym read)
          (subst (λ (tally : Option Tally). IsTallySoFar c.args.entries.now tally) c.in-Some.is c.in_ok-tally.ensures),
      c.in_ok-come_back.ensures.locks,
    )
