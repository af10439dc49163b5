-- The keys of one object, among keys whose objects ascend.
use Rattle.std.proofs.Common.{◌≡◌, ◌≢◌, ◌⊎◌, inl, inr, ℕ, ◌+◌, ◌-◌, ◌<◌, ◌≤◌, Bool, true, false, ◌&&◌, ◌||◌, nat_eq, List, length, take, drop, ap, sym, ◌∙◌, subst, arith}
use Rattle.std.proofs.Math.Dec.{leb, ltb}
use Rattle.std.specs.List.{AllWithin, All, list_any}
use Rattle.std.specs.List.Sorted.{IsPartitionPoint}
use Rattle.std.proofs.lemmas.Bool.{ltb-true, leb-false}
use Rattle.std.proofs.lemmas.Bool.Decides.{eqb_tells}
use Rattle.std.proofs.lemmas.List.{take-append-drop, get_or-take, get_or-drop, length-take-le, length-drop, take_all}
use Rattle.std.proofs.lemmas.List.Elements.{All-from_all_within}
use Rattle.std.proofs.lemmas.List.Folds.{list_any-append, list_any_none}
use Rattle.std.proofs.Math.Bool.{or-false}
use Rattle.object_store.specs.declared.key.Key.{Key}
use Rattle.object_store.specs.Rows.{is_kept}

module _ {X : Type 0} (p : X → Bool) where
  abbrev Fails : X → Type 0
  Fails x = p x ≡ false

  -- elements that fail the test can be left out at the front
  list_any-drop : (xs : List X) (n : ℕ) → n ≤ length xs → AllWithin Fails xs 0 n → list_any p (drop n xs) ≡ list_any p xs
  list_any-drop xs n within fail =
      let front : All Fails (take n xs) = All-from_all_within Fails (take n xs) (λ k d low high.
      let below : k < n = subst (λ m. k < m) (length-take-le n xs within) high in
      subst Fails (sym (get_or-take n xs k d below)) (fail k d low below)) in
      ap (λ b. b || list_any p (drop n xs)) (sym (list_any_none p (take n xs) front))
      ∙ sym (list_any-append p (take n xs) (drop n xs)) ∙ ap (list_any p) (take-append-drop n xs)

  -- and at the end
  list_any-take : (xs : List X) (n : ℕ) → AllWithin Fails xs n (length xs) → list_any p (take n xs) ≡ list_any p xs
  list_any-take xs n fail =
      let rest : All Fails (drop n xs) = All-from_all_within Fails (drop n xs) (λ k d low high.
      let below : k < length xs - n = subst (λ m. k < m) (length-drop n xs) high in
      subst Fails (sym (get_or-drop n xs k d)) (fail (n + k) d (omega arith) (omega arith))) in
      sym (or-false (list_any p (take n xs))) ∙ ap (λ b. list_any p (take n xs) || b) (sym (list_any_none p (drop n xs) rest))
      ∙ sym (list_any-append p (take n xs) (drop n xs)) ∙ ap (list_any p) (take-append-drop n xs)

other_object : (a b : ℕ) (c : Bool) → a ≢ b → (nat_eq a b && c) ≡ false
other_object a b c apart = go (eqb_tells a b)
  where
    go : ((nat_eq a b ≡ true) × (a ≡ b)) ⊎ ((nat_eq a b ≡ false) × (a ≢ b)) → (nat_eq a b && c) ≡ false
    go (inl same) = absurd (apart same.1)
    go (inr other) = ap (λ t. t && c) other.0

-- the keys from the first that isn't before the object up to the first that is behind it
pub is_kept-range : (keys : List Key) (oid index start count : ℕ) → start ≤ length keys
    → IsPartitionPoint (λ (key : Key). ltb key.oid oid ≡ true) (λ key. ltb key.oid oid ≡ false) keys start
    → IsPartitionPoint (λ (key : Key). leb key.oid oid ≡ true) (λ key. leb key.oid oid ≡ false) (take (length keys - start) (drop start keys)) count
    → is_kept (take count (take (length keys - start) (drop start keys))) oid index ≡ is_kept keys oid index
is_kept-range keys oid index start count within before behind =
    let is_this = λ (key : Key). nat_eq key.oid oid && nat_eq key.index index in
    list_any-take is_this (take (length keys - start) (drop start keys)) count
    (λ k d low high. other_object _ oid _ (λ same. absurd (omega (arith, same, leb-false _ oid (behind.1 k d low high)))))
    ∙ ap (list_any is_this) (take_all (length keys - start) (drop start keys) (subst (λ m. m ≤ length keys - start) (sym (length-drop start keys)) (omega arith)))
    ∙ list_any-drop is_this keys start within
    (λ k d low high. other_object _ oid _ (λ same. absurd (omega (arith, same, ltb-true _ oid (before.0 k d low high)))))
