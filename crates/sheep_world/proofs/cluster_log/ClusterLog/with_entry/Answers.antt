use Rattle.std.proofs.Common.{◌∷◌, ◌++◌, [], List, sym, subst}
use Rattle.object_id.specs.declared.entry.Entry.{Entry}
use Rattle.epoch_log.specs.Appending.{IsLog, MayAppend}
use Rattle.epoch_log.specs.Tally.{IsTally}
use Rattle.epoch_log.proofs.MembersLemmas.{IsLog-push}
use Rattle.sheep_world.proofs.cluster_log.ClusterLog.with_entry.Goals as goal

pub invariant_of-log : goal.invariant_of-log
invariant_of-log c =
    let before : List Entry = c.self.inside.directory in
    let entry : Entry = c.args.entry.now in
    let may : MayAppend before entry
    = subst (λ (all : List Entry). MayAppend all entry) c.entries.ensures (c.may_count.ensures.0 c.if-not-may_count.false) in
    let tally : IsTally (before ++ entry ∷ []) c.count.new.self
    = subst (λ (all : List Entry). IsTally (all ++ entry ∷ []) c.count.new.self) c.entries-2.ensures c.in_ok-count.ensures.ok in (
      subst IsLog (sym c.in_ok-decision.ensures.ok) (IsLog-push before entry c.self.invariant.0 may),
      subst (λ (all : List Entry). IsTally all c.count.new.self) (sym c.in_ok-decision.ensures.ok) tally,
      c.in_ok-decision.ensures.locks,
    )
