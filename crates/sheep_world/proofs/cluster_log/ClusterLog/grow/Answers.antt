use Rattle.std.proofs.Common.{◌∷◌, ◌++◌, [], List, ap, ◌∙◌}
use Rattle.object_id.specs.declared.entry.Entry.{Entry}
use Rattle.sheep_world.specs.Granted.{decided_adds}
use Rattle.sheep_world.proofs.GrantedAdds.{entry_adds-after}
use Rattle.sheep_world.proofs.cluster_log.ClusterLog.grow.Goals as goal

pub returns-clause-adds : goal.returns-clause-adds
returns-clause-adds c =
    let before : List Entry = c.args.self in
    let entry : Entry = c.args.entry.now in
    c.in_ok-list_of.ensures
    ∙ c.decided_event-event.ensures
    ∙ ap (λ (log : List Entry). decided_adds log entry c.in_ok-log.decision) (c.directory.ensures ∙ c.in_ok-log.ensures.log)
    ∙ ap (decided_adds (before ++ entry ∷ []) entry) c.in_ok-log.ensures.decision
    ∙ entry_adds-after before entry
