use Rattle.std.proofs.Common.{T, sym, subst, ◌∙◌}
use Rattle.std.specs.Ordering.{nat_cmp}
use Rattle.std.specs.Cmp.{nat_cmp_total}
use Rattle.std.specs.FinMap.Entries.{is_sorted, is_sorted-put}
use Rattle.message_wire.specs.Entries.{IsFoundAt, IsMissingAt}
use Rattle.message_wire.proofs.EntryLemmas.{put-found, put-missing}
use Rattle.message_wire.proofs.entries.put.Goals as goal

pub returns-in-Ok-clause-ok : goal.returns-in-Ok-clause-ok
returns-in-Ok-clause-ok g c =
    sym (put-found c.args.number c.args.value c.in-Ok.place c.args.entries.now.items
    (subst (IsFoundAt c.args.number c.in-Ok.place) c.as_slice.ensures.value c.in-Ok.ensures.stands))

pub returns-in-Ok-clause-sorted : goal.returns-in-Ok-clause-sorted
returns-in-Ok-clause-sorted g c =
    subst (λ es. T (is_sorted nat_cmp es))
    (put-found c.args.number c.args.value c.in-Ok.place c.args.entries.now.items
    (subst (IsFoundAt c.args.number c.in-Ok.place) c.as_slice.ensures.value c.in-Ok.ensures.stands))
    (is_sorted-put nat_cmp nat_cmp_total c.args.number c.args.value c.args.entries.now.items c.requires)

pub returns-in_ok-insert-in-Err-clause-ok : goal.returns-in_ok-insert-in-Err-clause-ok
returns-in_ok-insert-in-Err-clause-ok g c =
    c.in_ok-insert-in-Err.ensures.items
    ∙ sym (put-missing c.args.number c.args.value c.in-Err.place c.args.entries.now.items
    (subst (IsMissingAt c.args.number c.in-Err.place) c.as_slice.ensures.value c.in-Err.ensures.stands))

pub returns-in_ok-insert-in-Err-clause-sorted : goal.returns-in_ok-insert-in-Err-clause-sorted
returns-in_ok-insert-in-Err-clause-sorted g c =
    subst (λ es. T (is_sorted nat_cmp es))
    (sym (c.in_ok-insert-in-Err.ensures.items
    ∙ sym (put-missing c.args.number c.args.value c.in-Err.place c.args.entries.now.items
    (subst (IsMissingAt c.args.number c.in-Err.place) c.as_slice.ensures.value c.in-Err.ensures.stands))))
    (is_sorted-put nat_cmp nat_cmp_total c.args.number c.args.value c.args.entries.now.items c.requires)
