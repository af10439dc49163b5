use Rattle.std.proofs.Common.{◌≡◌, ℕ, ◌+◌, ◌<◌, ◌++◌, List, length, take, drop, ap, sym, subst, ◌∙◌, arith, length-drop}
use Rattle.std.specs.List.Sorted.{IsStrictlyIncreasing}
use Rattle.std.proofs.lemmas.List.{drop-drop}
use Rattle.object_store.proofs.OidLemmas.{drop-remove, IsStrictlyIncreasing-without, IsStrictlyIncreasing-rest}
use Rattle.object_store.proofs.oid_list.OidList.remove_at.Goals as goal

pub invariant_of-self : goal.invariant_of-self
invariant_of-self c =
    let items : List ℕ = c.self.inside.items.items in
    let gone : ℕ = c.self.inside.gone in
    let some : c.args.place < length (drop gone items) = subst (λ (xs : List ℕ). c.args.place < length xs) (sym c.self.view_is) c.requires in
    (omega (arith, some, length-drop gone items), subst IsStrictlyIncreasing (drop-drop 1 gone items) (IsStrictlyIncreasing-rest (drop gone items) c.self.invariant.1))

pub invariant_of-self-else-place-eq0 : goal.invariant_of-self-else-place-eq0
invariant_of-self-else-place-eq0 c =
    let items : List ℕ = c.self.inside.items.items in
    let gone : ℕ = c.self.inside.gone in
    let some : c.args.place < length (drop gone items) = subst (λ (xs : List ℕ). c.args.place < length xs) (sym c.self.view_is) c.requires in
    let left : drop gone c.remove.new.self.items ≡ take c.args.place (drop gone items) ++ drop (c.args.place + 1) (drop gone items)
    = ap (drop gone) c.remove.ensures.items ∙ drop-remove gone c.args.place items c.self.invariant.0 in
    (omega (arith, c.self.invariant.0, some, c.remove.ensures.len, c.remove.new.self.ok.0, c.self.inside.items.ok.0, length-drop gone items), subst IsStrictlyIncreasing (sym left) (IsStrictlyIncreasing-without c.args.place (drop gone items) some c.self.invariant.1))

pub returns-else-place-eq0 : goal.returns-else-place-eq0
returns-else-place-eq0 c =
    let items : List ℕ = c.self.inside.items.items in
    let gone : ℕ = c.self.inside.gone in
    ap (drop gone) c.remove.ensures.items ∙ drop-remove gone c.args.place items c.self.invariant.0
    ∙ ap (λ (xs : List ℕ). take c.args.place xs ++ drop (c.args.place + 1) xs) c.self.view_is
