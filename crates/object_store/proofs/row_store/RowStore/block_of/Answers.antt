use Rattle.std.proofs.Common.{◌≡◌, ◌∙◌, ◌-◌, ℕ, List, ap, sym, subst, refl, arith, IsSome}
use Rattle.std.specs.Ordering.{is_gt, nat_cmp}
use Rattle.std.specs.Map.{lookup}
use Rattle.std.specs.BTreeMap.{is_at}
use Rattle.object_id.specs.declared.limits.TheConstants.{OBJECTS_MAX}
use Rattle.object_id.specs.Oid.{object_number}
use Rattle.object_store.specs.Objects.{is_block_of}
use Rattle.object_store.proofs.DiskLemmas.{first_kept, none_kept, is_no_greater, in_range}
use Rattle.object_store.proofs.row_store.RowStore.block_of.Goals as goal

pub range-requires : goal.range-requires
range-requires g c =
    (λ i. is_gt (nat_cmp ((c.new.ensures.start ∙ c.object-first.ensures) i) ((c.new.ensures.end ∙ c.object-last.ensures) i)))
    ∙ is_no_greater (object_number c.args.vid.0 0) (object_number c.args.vid.0 (OBJECTS_MAX - 1)) (omega arith)

pub returns-in-Some-clause-some : goal.returns-in-Some-clause-some
returns-in-Some-clause-some g c =
    let es = c.self.inside.objects.entries in
    let found = in_range c.args.vid.0 _ _ es c.range.result (c.new.ensures.start ∙ c.object-first.ensures) (c.new.ensures.end ∙ c.object-last.ensures)
    (c.range.ensures.between c.new.ensures.exhausted) in
    let kept = first_kept (is_block_of c.args.vid.0) es (c.in-Some.oid.now, c.in-Some.field-0-1.now) c.next.new.self (sym found ∙ c.in-Some.ensures.steps) in
    (kept.0, subst (λ os. IsSome (lookup (is_at (nat_cmp c.in-Some.oid.now)) os)) c.self.view_is kept.1)

pub returns-in-None-clause-none : goal.returns-in-None-clause-none
returns-in-None-clause-none g c =
    let es = c.self.inside.objects.entries in
    let found = in_range c.args.vid.0 _ _ es c.range.result (c.new.ensures.start ∙ c.object-first.ensures) (c.new.ensures.end ∙ c.object-last.ensures)
    (c.range.ensures.between c.new.ensures.exhausted) in
    λ _ q passes. ap (lookup (is_at (nat_cmp q))) (sym c.self.view_is) ∙ none_kept (is_block_of c.args.vid.0) es (sym found ∙ c.in-None.ensures.steps.0) q passes
