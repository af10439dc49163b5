use Rattle.std.proofs.Common.{ℕ, ◌<◌, is_some, List, length, drop, ap, sym, subst, ◌∙◌, arith, length-drop}
use Rattle.std.specs.List.Sorted.{IsStrictlyIncreasing}
use Rattle.std.proofs.lemmas.List.{drop-drop}
use Rattle.object_store.proofs.OidLemmas.{IsStrictlyIncreasing-rest, first-there}
use Rattle.object_store.proofs.oid_list.OidList.remove_first.Goals as goal

pub invariant_of-self : goal.invariant_of-self
invariant_of-self c =
    let items : List ℕ = c.self.inside.items.items in
    let gone : ℕ = c.self.inside.gone in
    let some : 0 < length (drop gone items)
    = subst (λ (xs : List ℕ). 0 < length xs) (sym c.self.view_is)
    (first-there c.args.self.now (ap is_some (sym c.get.ensures) ∙ ap is_some (sym c.copied-first.ensures) ∙ sym c.is_some.ensures ∙ c.if-is_some.true)) in
    (omega (arith, some, length-drop gone items), subst IsStrictlyIncreasing (drop-drop 1 gone items) (IsStrictlyIncreasing-rest (drop gone items) c.self.invariant.1))

pub returns-then-is_some-clause-rest : goal.returns-then-is_some-clause-rest
returns-then-is_some-clause-rest c =
    sym (drop-drop 1 c.self.inside.gone c.self.inside.items.items) ∙ ap (drop 1) c.self.view_is
