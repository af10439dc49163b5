use Rattle.std.proofs.Common.{ap, sym, subst, ◌∙◌, ◌∷◌, ◌++◌, [], List}
use Rattle.object_id.specs.declared.entry.Entry.{Entry}
use Rattle.peer_service.specs.State.{Peer}
use Rattle.sheep_node.specs.KeptLog.{IsTallySoFar}
use Rattle.sheep_node.proofs.KeptLogs.{entries_with_one}
use Rattle.sheep_node.proofs.node_rows.NodeRows.with_entry.Goals as goal

pub invariant_of-rows : goal.invariant_of-rows
invariant_of-rows g c =
    let entry : Entry = c.args.entry.now in (
      subst (λ (entries : List Entry). IsTallySoFar entries c.count_entry.new.tally)
          (ap (λ (entries : List Entry). entries ++ entry ∷ []) (c.entries.ensures ∙ c.directory.ensures)
          ∙ sym (ap (λ (peer : Peer). peer.entries) c.in_ok-decision.ensures.ok ∙ entries_with_one entry c.self.inside.peer))
          c.in_ok-count_entry.ensures,
      c.in_ok-decision.ensures.locks,
    )
