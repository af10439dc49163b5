use Rattle.std.proofs.Common.{◌≡◌, ◌<◌, ◌≤◌, ◌+◌, ◌-◌, ◌==◌, ◌++◌, ℕ, suc, List, length, take, drop, get_or, true, subst, sym, ap, ◌∙◌, arith}
use Rattle.std.specs.List.{list_any}
use Rattle.std.specs.List.Sorted.{IsNonDecreasing}
use Rattle.proof_tools.proofs.AscendingNumbers.{IsStrictlyIncreasing-far}
use Rattle.proof_tools.proofs.AscendingWithout.{IsNonDecreasing-from_strict, one-goes, none-goes}
use Rattle.vdi_directory.proofs.LiveLemmas.{is-last}
use Rattle.vdi_directory.proofs.live_ids.drop_id.Goals as goal

pub place_of-place-requires : goal.place_of-place-requires
place_of-place-requires c = subst IsNonDecreasing (sym c.as_slice.ensures.value) (IsNonDecreasing-from_strict c.args.live.now.items c.requires)

pub has_id-requires : goal.has_id-requires
has_id-requires c = subst IsNonDecreasing (sym c.as_slice-2.ensures.value) (IsNonDecreasing-from_strict c.args.live.now.items c.requires)

pub overflow_sub-place : goal.overflow_sub-place
overflow_sub-place c =
    let live : List ℕ = c.as_slice.result.now in
    let has : list_any (λ other. other == c.args.vid.0) live ≡ true
    = ap (list_any (λ other. other == c.args.vid.0)) (c.as_slice.ensures.value ∙ sym c.as_slice-2.ensures.value) ∙ sym c.has_id.ensures ∙ c.if-has_id.true in
    let last = is-last c.args.vid.0 c.place_of-place.result live
    (subst IsNonDecreasing (sym c.as_slice.ensures.value) (IsNonDecreasing-from_strict c.args.live.now.items c.requires))
    c.place_of-place.ensures.within c.place_of-place.ensures.before c.place_of-place.ensures.behind has in
    last.0

pub returns-then-has_id : goal.returns-then-has_id
returns-then-has_id c =
    let live : List ℕ = c.args.live.now.items in
    let place : ℕ = c.place_of-place.result in
    let has : list_any (λ other. other == c.args.vid.0) c.as_slice.result.now ≡ true
    = ap (list_any (λ other. other == c.args.vid.0)) (c.as_slice.ensures.value ∙ sym c.as_slice-2.ensures.value) ∙ sym c.has_id.ensures ∙ c.if-has_id.true in
    let last = is-last c.args.vid.0 place c.as_slice.result.now
    (subst IsNonDecreasing (sym c.as_slice.ensures.value) (IsNonDecreasing-from_strict live c.requires))
    c.place_of-place.ensures.within c.place_of-place.ensures.before c.place_of-place.ensures.behind has in
    let here : get_or live (place - 1) 0 ≡ c.args.vid.0 = subst (λ (ids : List ℕ). get_or ids (place - 1) 0 ≡ c.args.vid.0) c.as_slice.ensures.value last.1 in
    let most : place ≤ length live = subst (λ (ids : List ℕ). place ≤ length ids) c.as_slice.ensures.value c.place_of-place.ensures.within in
    let within : place - 1 < length live = omega (arith, last.0, most) in
    let goes = one-goes c.args.vid.0 (place - 1) live
    (λ k below. subst (λ (n : ℕ). get_or live k 0 < n) here (IsStrictlyIncreasing-far live k (place - 1) c.requires below within)) within here c.requires in
    c.remove.ensures.items ∙ ap (λ (n : ℕ). take (place - 1) live ++ drop n live) next ∙ sym goes.1
  where
    next : suc (c.place_of-place.result - 1) ≡ c.place_of-place.result - 1 + 1
    next = omega arith

pub returns-else-has_id : goal.returns-else-has_id
returns-else-has_id c =
    sym (none-goes c.args.vid.0 c.args.live.now.items
    (ap (list_any (λ other. other == c.args.vid.0)) (sym c.as_slice-2.ensures.value) ∙ sym c.has_id.ensures ∙ c.if-has_id.false))
