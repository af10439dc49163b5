use Rattle.std.proofs.Common.{ℕ, List, ap, sym, ◌∙◌, ◌==◌, arith}
use Rattle.std.specs.List.{list_any}
use Rattle.std.proofs.lemmas.Bool.{le-ltb}
use Rattle.std.proofs.lemmas.List.{get_or_default}
use Rattle.object_store.proofs.OidLemmas.{has-at, has-not}
use Rattle.object_store.proofs.oid_list.OidList.has.Goals as goal

pub returns-then-place-oids : goal.returns-then-place-oids
returns-then-place-oids c =
    let oids : List ℕ = c.as_slice-oids.result.now in
    let place : ℕ = c.place_of-place.result in
    c.eq.ensures
    ∙ ap (λ (id : ℕ). id == c.args.oid)
    (c.index-oids-place.is ∙ get_or_default oids place c.index-oids-place.result 0 c.if-place-oids.true)
    ∙ has-at c.args.oid place oids (λ k below. c.place_of-place.ensures.before k 0 below) (λ k from within. c.place_of-place.ensures.behind k 0 from within)
    c.as_slice-oids.ensures.ascending c.if-place-oids.true
    ∙ ap (list_any (λ other. other == c.args.oid)) c.as_slice-oids.ensures.value

pub returns-else-place-oids : goal.returns-else-place-oids
returns-else-place-oids c =
    let oids : List ℕ = c.as_slice-oids.result.now in
    let place : ℕ = c.place_of-place.result in
    let past = c.if-place-oids.false in
    le-ltb place _ past
    ∙ sym (has-not c.args.oid place oids (λ k below. c.place_of-place.ensures.before k 0 below) (λ within. absurd (omega arith))
    (λ k from within. c.place_of-place.ensures.behind k 0 from within) c.as_slice-oids.ensures.ascending).0
    ∙ ap (list_any (λ other. other == c.args.oid)) c.as_slice-oids.ensures.value
