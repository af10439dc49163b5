-- An id that nobody bears is dead, and the other way round.
use Rattle.std.proofs.Common.{◌≡◌, ◌≢◌, ◌⊎◌, inl, inr, ℕ, zero, suc, ◌+◌, ◌<◌, ◌≤◌, ◌==◌, nat_lt, Bool, true, false, cond, List, length, Option, Some, None, refl, ap, sym, ◌∙◌, arith}
use Rattle.std.proofs.lemmas.Bool.{cases_eq, eq-eqb, or_left}
use Rattle.object_id.specs.declared.oid.Vid.{Vid}
use Rattle.vdi_directory.specs.declared.effect.Effect.{Effect}
use Rattle.vdi_directory.specs.Effects.{is_used}
use Rattle.vdi_directory.specs.States.{VdiState, Reserved, Working, Snapshot, Deleted, Freed, rank, state_of}
use Rattle.vdi_directory.specs.Chains.{is_above, grant_place}
use Rattle.vdi_directory.specs.Dead.{is_gone, IsDead}
use Rattle.vdi_directory.specs.References.{one_if, one, references_by, KEY_COUNT, child_references, AreReferenceCounts, stands, parent_of, own_of}
use Rattle.vdi_directory.proofs.ReferenceLemmas.{one-same, one-other, total-zero, total-le, references_by-none, references_by-some, key-below}
use Rattle.vdi_directory.proofs.DeadLemmas.{parent-cases, IsChained, chain-used, heir-dead}
use Rattle.vdi_directory.proofs.ChainLemmas.{is_parent_or_above}
use Rattle.vdi_directory.proofs.PlaceLemmas.{place-most}
use Rattle.vdi_directory.proofs.LineLemmas.{IsLine, above-line}

gone-stands : (state : VdiState) → is_gone state ≡ true → one_if (stands state) ≡ 0
gone-stands (Reserved by) gone = cc
gone-stands Working gone = cc
gone-stands (Snapshot tag) gone = cc
gone-stands state gone = refl

stands-gone : (state : VdiState) → 1 ≤ rank state → one_if (stands state) ≡ 0 → is_gone state ≡ true
stands-gone Deleted granted none = refl
stands-gone Freed granted none = refl
stands-gone state granted none = absurd (omega arith)

cond-none : (b : Bool) (n : ℕ) → n ≡ 0 → cond b n 0 ≡ 0
cond-none true n none = none
cond-none false n none = refl

module _ (before : List Effect) (line : IsLine before) (chained : IsChained before) (counts : ℕ → ℕ) (are : AreReferenceCounts (parent_of before) (own_of before) counts) where
  age : ℕ → ℕ
  age = grant_place before

  above-child : (vid child : ℕ) (parent : Vid) → parent_of before child ≡ Some parent → parent.0 ≡ vid → is_above before vid child ≡ true
  above-child vid child parent is same =
      above-line before line vid child ∙ ap (is_parent_or_above (is_above before) vid) is
      ∙ or_left (parent.0 == vid) (is_above before vid parent.0) (eq-eqb parent.0 vid same)

  -- the youngest first
  dead-from : (left vid : ℕ) → length before < age vid + left → IsDead before vid → counts vid ≡ 0
  unfolding age
  dead-from zero vid young dead =
      let most : grant_place before vid ≤ length before = place-most before vid in
      absurd (omega (arith, most, young))
  dead-from (suc left) vid young dead =
      let own : own_of before vid ≡ 0 = gone-stands (state_of before vid) dead.gone in
      let children : child_references (parent_of before) counts vid ≡ 0
      = total-zero (λ child. references_by (parent_of before child) (counts child) vid) KEY_COUNT
      (λ child below. by_parent child (parent_of before child) refl (λ older heir. dead-from left child (omega (arith, young, older)) heir)) in
      let all : counts vid ≡ own_of before vid + child_references (parent_of before) counts vid = are vid in
      omega (arith, own, children, all)
    where
      by_parent : (child : ℕ) (parent : Option Vid) → parent_of before child ≡ parent
          → (grant_place before vid < grant_place before child → IsDead before child → counts child ≡ 0) → references_by parent (counts child) vid ≡ 0
      by_parent child None is unreferenced = cond-none (nat_lt 0 (counts child)) 0 refl
      by_parent child (Some parent) is unreferenced = by_place (cases_eq parent.0 vid)
        where
          by_place : (parent.0 ≡ vid) ⊎ (parent.0 ≢ vid) → references_by (Some parent) (counts child) vid ≡ 0
          by_place (inl same) =
              let older : grant_place before parent.0 < grant_place before child = line.older child parent is in
              let here : grant_place before parent.0 ≡ grant_place before vid = ap (grant_place before) same in
              references_by-none (Some parent) (counts child) vid
              (unreferenced (omega (arith, older, here)) (heir-dead before chained vid child dead (above-child vid child parent is same)))
          by_place (inr apart) = cond-none (nat_lt 0 (counts child)) (one parent.0 vid) (one-other parent.0 vid apart)

  pub dead-unreferenced : (vid : ℕ) → IsDead before vid → counts vid ≡ 0
  unfolding age
  dead-unreferenced vid dead = dead-from (length before + 1) vid (omega arith) dead

  within : (vid : ℕ) → is_used before vid ≡ true → vid < KEY_COUNT
  within vid used = let most = line.ids vid used in key-below vid (omega (arith, most))

  -- a child of what nobody bears isn't referenced
  child-unreferenced : (child : ℕ) (parent : Vid) → is_used before child ≡ true → parent_of before child ≡ Some parent → counts parent.0 ≡ 0 → counts child ≡ 0
  child-unreferenced child parent used is none = by_place (cases_eq (counts child) 0)
    where
      by_place : (counts child ≡ 0) ⊎ (counts child ≢ 0) → counts child ≡ 0
      by_place (inl unreferenced) = unreferenced
      by_place (inr referenced) =
          let part : references_by (parent_of before child) (counts child) parent.0 ≤ child_references (parent_of before) counts parent.0
          = total-le (λ k. references_by (parent_of before k) (counts k) parent.0) child KEY_COUNT (within child used) in
          let one_more : references_by (parent_of before child) (counts child) parent.0 ≡ 1
          = ap (λ p. references_by p (counts child) parent.0) is ∙ references_by-some (Some parent) (counts child) parent.0 (omega arith) ∙ one-same parent.0 in
          let all : counts parent.0 ≡ own_of before parent.0 + child_references (parent_of before) counts parent.0 = are parent.0 in
          absurd (omega (arith, part, one_more, all, none))

  heirs-unreferenced : (left elder heir : ℕ) → age heir < left → is_above before elder heir ≡ true → counts elder ≡ 0 → counts heir ≡ 0
  unfolding age
  heirs-unreferenced zero elder heir young above none = absurd (omega (arith, young))
  heirs-unreferenced (suc left) elder heir young above none =
      by_parent (parent-cases before elder (parent_of before heir) (sym (above-line before line elder heir) ∙ above))
      (λ parent older far. heirs-unreferenced left elder parent (omega (arith, young, older)) far none)
    where
      by_parent : (p : Vid) × (parent_of before heir ≡ Some p) × ((p.0 ≡ elder) ⊎ (is_above before elder p.0 ≡ true))
          → ((parent : ℕ) → grant_place before parent < grant_place before heir → is_above before elder parent ≡ true → counts parent ≡ 0) → counts heir ≡ 0
      by_parent found later = child-unreferenced heir found.0 ((chain-used before chained elder heir above).1) found.1 (by_place found.2)
        where
          by_place : (found.0.0 ≡ elder) ⊎ (is_above before elder found.0.0 ≡ true) → counts found.0.0 ≡ 0
          by_place (inl same) = ap counts same ∙ none
          by_place (inr far) = later found.0.0 (line.older heir found.0 found.1) far

  unreferenced-gone : (vid : ℕ) → is_used before vid ≡ true → counts vid ≡ 0 → is_gone (state_of before vid) ≡ true
  unreferenced-gone vid used none =
      let all : counts vid ≡ own_of before vid + child_references (parent_of before) counts vid = are vid in
      stands-gone (state_of before vid) (line.granted vid used) (omega (arith, all, none))

  pub unreferenced-dead : (vid : ℕ) → is_used before vid ≡ true → counts vid ≡ 0 → IsDead before vid
  unfolding age
  unreferenced-dead vid used none = record {
    gone = unreferenced-gone vid used none;
    heirs = λ heir above. unreferenced-gone heir ((chain-used before chained vid heir above).1) (heirs-unreferenced (grant_place before heir + 1) vid heir (omega arith) above none);
  }
