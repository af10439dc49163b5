-- What looking an entry up in sorted ids finds, and that the order of the ids tells nothing.
use Rattle.std.proofs.Common.{◌≡◌, ℕ, ◌+◌, ◌<◌, ◌≤◌, ◌==◌, true, false, cond, List, [], ◌∷◌, ◌++◌, length, get_or, map, take, drop, All, refl, sym, ap, ap₂, ◌∙◌, arith, inl, inr}
use Rattle.std.specs.List.{list_any}
use Rattle.std.specs.List.Sorted.{IsPermutation}
use Rattle.std.proofs.lemmas.Bool.{eq-eqb, ne_eqb, cond-true, cond-false, cases_lt}
use Rattle.std.proofs.lemmas.List.{append-nil, take_all, drop_all}
use Rattle.std.proofs.lemmas.Grind.{get_or_default_zero}
use Rattle.std.proofs.lemmas.List.Folds.{list_any_at, list_any_none}
use Rattle.std.proofs.lemmas.List.Sorted.{list_any-IsPermutation}
use Rattle.vdi_ops.specs.Tables.{kept_entry}

-- an id that stands in the list is found
pub found_at : (ids : List ℕ) (entry place : ℕ) → place < length ids → get_or ids place 0 ≡ entry → entry ≡ kept_entry ids entry
found_at ids entry place within at =
    sym (cond-true (list_any (λ id. id == entry) ids) entry 0 (list_any_at (λ id. id == entry) ids place 0 within (eq-eqb (get_or ids place 0) entry at)))

-- one that stands nowhere is a hole: all before a place are smaller, and all from there on greater
pub found_nowhere : (ids : List ℕ) (entry place : ℕ) → ((k : ℕ) → k < place → get_or ids k 0 < entry)
    → ((k : ℕ) → place ≤ k → k < length ids → entry < get_or ids k 0) → 0 ≡ kept_entry ids entry
found_nowhere ids entry place smaller greater =
    sym (cond-false (list_any (λ id. id == entry) ids) entry 0 (list_any_none (λ id. id == entry) ids other))
  where
    apart : (k : ℕ) → k < length ids → get_or ids k 0 ≡ entry → ⊥
    apart k within at = elim (cases_lt k place) [
      | inl less ↦ let s = smaller k less in omega (arith, s, at)
      | inr more ↦ let g = greater k more within in omega (arith, g, at)
    ]

    other : All (λ id. (id == entry) ≡ false) ids
    other k d within = ne_eqb (get_or ids k d) entry (λ at. apart k within (sym (get_or_default_zero ids k d within) ∙ at))

-- the order of the ids tells nothing
pub kept_same : (ids sorted entries : List ℕ) → IsPermutation ids sorted → map (kept_entry sorted) entries ≡ map (kept_entry ids) entries
kept_same ids sorted [] moved = refl
kept_same ids sorted (entry ∷ entries) moved =
    ap₂ (λ (x : ℕ) (xs : List ℕ). x ∷ xs)
    (ap (λ b. cond b entry 0) (sym (list_any-IsPermutation (λ id. id == entry) ids sorted moved)))
    (kept_same ids sorted entries moved)

-- a slice that was written over its whole vector
pub whole_slice : (long : ℕ) (new items : List ℕ) → long ≡ length items → length new ≡ length items
    → take long (new ++ drop (length new) items) ≡ new
whole_slice long new items all same =
    let none : drop (length new) items ≡ [] = drop_all (length new) items (omega (arith, same)) in
    ap (λ (xs : List ℕ). take long (new ++ xs)) none ∙ ap (take long) (append-nil new) ∙ take_all long new (omega (arith, all, same))
