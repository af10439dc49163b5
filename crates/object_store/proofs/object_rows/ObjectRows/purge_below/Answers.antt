use Rattle.std.proofs.Common.{◌∙◌, ap, sym, subst, not, rules}
use Rattle.std.proofs.lemmas.Fn.{filter_same}
use Rattle.object_store.specs.Rows.{has_ended_below, purged, IsOrderly}
use Rattle.object_store.proofs.RowLemmas.{orderly_filter}
use Rattle.object_store.proofs.object_rows.ObjectRows.purge_below.Goals as goal

pub invariant_of-self : goal.invariant_of-self
invariant_of-self g c =
    subst IsOrderly (sym (filter_same _ (λ row. not (has_ended_below c.args.settled.0 row.to)) _ (λ x b f' t. search rules) _ _ c.retain.ensures.filtered))
    (orderly_filter (λ row. not (has_ended_below c.args.settled.0 row.to)) c.self.inside.rows.items c.self.invariant)

pub returns : goal.returns
returns g c =
    filter_same _ (λ row. not (has_ended_below c.args.settled.0 row.to)) _ (λ x b f' t. search rules) _ _ c.retain.ensures.filtered
    ∙ ap (purged c.args.settled.0) c.self.view_is
