use Rattle.std.proofs.Common.{◌≡◌, ℕ, ◌<◌, List, length, get_or, true, take, drop, filter, not, ◌+◌, ◌++◌, ap, sym, subst, ◌∙◌, ◌==◌}
use Rattle.std.specs.List.{list_any}
use Rattle.proof_tools.proofs.AscendingWithout.{one-goes, none-goes}
use Rattle.object_store.proofs.OidLemmas.{found-at}
use Rattle.object_store.proofs.oid_list.OidList.remove.Goals as goal

pub remove_at-requires : goal.remove_at-requires
remove_at-requires c =
    let oids : List ℕ = c.as_slice.result.now in
    let has : list_any (λ other. other == c.args.oid) oids ≡ true
    = ap (list_any (λ other. other == c.args.oid)) c.as_slice.ensures.value ∙ sym c.has.ensures ∙ c.if-has.true in
    subst (λ (xs : List ℕ). c.place_of-place.result < length xs) c.as_slice.ensures.value
    (found-at c.args.oid c.place_of-place.result oids (λ k below. c.place_of-place.ensures.before k 0 below)
    (λ k from within. c.place_of-place.ensures.behind k 0 from within) c.as_slice.ensures.ascending has).0

pub returns-then-has : goal.returns-then-has
returns-then-has c =
    let oids : List ℕ = c.as_slice.result.now in
    let has : list_any (λ other. other == c.args.oid) oids ≡ true
    = ap (list_any (λ other. other == c.args.oid)) c.as_slice.ensures.value ∙ sym c.has.ensures ∙ c.if-has.true in
    let low : (k : ℕ) → k < c.place_of-place.result → get_or oids k 0 < c.args.oid = λ k below. c.place_of-place.ensures.before k 0 below in
    let found : (c.place_of-place.result < length oids) × (get_or oids c.place_of-place.result 0 ≡ c.args.oid)
    = found-at c.args.oid c.place_of-place.result oids low
    (λ k from within. c.place_of-place.ensures.behind k 0 from within) c.as_slice.ensures.ascending has in
    let goes = one-goes c.args.oid c.place_of-place.result oids low found.0 found.1 c.as_slice.ensures.ascending in
    c.remove_at.ensures
    ∙ subst (λ (xs : List ℕ). take c.place_of-place.result xs ++ drop (c.place_of-place.result + 1) xs ≡ filter (λ other. not (other == c.args.oid)) xs)
    c.as_slice.ensures.value (sym goes.1)

pub returns-else-has : goal.returns-else-has
returns-else-has c = sym (none-goes c.args.oid c.args.self.now (sym c.has.ensures ∙ c.if-has.false))
