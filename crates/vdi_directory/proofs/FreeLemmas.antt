-- The free id is the first one that is not used, and there is none exactly where every id is used.
use Rattle.std.proofs.Common.{◌≡◌, ◌≢◌, ◌⊎◌, inl, inr, ℕ, zero, suc, ◌+◌, ◌-◌, ◌<◌, ◌≤◌, Bool, true, false, cond, List, Some, None, refl, ap, sym, ◌∙◌, arith}
use Rattle.std.proofs.lemmas.Bool.{cases_eq, cases_lt}
use Rattle.object_id.specs.Hash.{own_vid}
use Rattle.object_id.specs.declared.limits.TheConstants.{VID_MAX}
use Rattle.vdi_directory.specs.Vids.{next_vid, first_unused, VID_COUNT, free_id}
use Rattle.vdi_directory.proofs.VidLemmas.{VID_COUNT-is, next-within, wrapped}
use Rattle.vdi_directory.proofs.StateLemmas.{own_vid-is, free_id-is}

module _ (used : ℕ → Bool) where
  none-run : (count vid : ℕ) → first_unused used vid count ≡ None → (k : ℕ) → k < count → vid + k ≤ VID_MAX → used (vid + k) ≡ true
  none-run zero vid none k below within = absurd (omega arith)
  none-run (suc count) vid none zero below within = by_test (used vid) refl none
    where
      by_test : (b : Bool) → used vid ≡ b → cond b (first_unused used (next_vid vid) count) (Some vid) ≡ None → used (vid + 0) ≡ true
      by_test true is none = let here : vid + 0 ≡ vid = omega arith in ap used here ∙ is
      by_test false is none = cc
  none-run (suc count) vid none (suc k) below within =
      by_test (used vid) none (λ later. none-run count (vid + 1) later k (omega arith) (omega arith))
    where
      next : next_vid vid ≡ vid + 1
      next = next-within used vid (omega arith)

      further : vid + 1 + k ≡ vid + suc k
      further = omega arith

      by_test : (b : Bool) → cond b (first_unused used (next_vid vid) count) (Some vid) ≡ None
          → (first_unused used (vid + 1) count ≡ None → used (vid + 1 + k) ≡ true) → used (vid + suc k) ≡ true
      by_test true none later = ap used (sym further) ∙ later (sym (ap (λ at. first_unused used at count) next) ∙ none)
      by_test false none later = cc

  here-or-behind : (vid other : ℕ) → used vid ≡ true → vid ≤ other → (vid ≡ other) ⊎ (vid ≢ other) → (vid + 1 ≤ other → used other ≡ true) → used other ≡ true
  here-or-behind vid other taken from (inl same) later = ap used (sym same) ∙ taken
  here-or-behind vid other taken from (inr apart) later = later (omega arith)

  -- either it is found before the last id, or the search goes on with the first
  found-run : (count vid found : ℕ) → vid ≤ VID_MAX → first_unused used vid count ≡ Some found
      → ((vid ≤ found) × ((other : ℕ) → vid ≤ other → other < found → used other ≡ true))
      ⊎ ((VID_MAX + 1 ≤ vid + count) × ((other : ℕ) → vid ≤ other → other ≤ VID_MAX → used other ≡ true))
  found-run zero vid found last is = cc
  found-run (suc count) vid found last is =
      by_test (used vid) refl is (cases_eq vid VID_MAX) (λ before later. found-run count (vid + 1) found (omega arith) later)
    where
      by_test : (b : Bool) → used vid ≡ b → cond b (first_unused used (next_vid vid) count) (Some vid) ≡ Some found → (vid ≡ VID_MAX) ⊎ (vid ≢ VID_MAX)
          → (vid < VID_MAX → first_unused used (vid + 1) count ≡ Some found
          → ((vid + 1 ≤ found) × ((other : ℕ) → vid + 1 ≤ other → other < found → used other ≡ true))
          ⊎ ((VID_MAX + 1 ≤ vid + 1 + count) × ((other : ℕ) → vid + 1 ≤ other → other ≤ VID_MAX → used other ≡ true)))
          → ((vid ≤ found) × ((other : ℕ) → vid ≤ other → other < found → used other ≡ true))
          ⊎ ((VID_MAX + 1 ≤ vid + suc count) × ((other : ℕ) → vid ≤ other → other ≤ VID_MAX → used other ≡ true))
      by_test true taken is (inl end) later = inr (omega arith, λ other from upto. ap used (let same : other ≡ vid = omega arith in same) ∙ taken)
      by_test true taken is (inr before) later =
          elim (later (omega arith) (sym (ap (λ at. first_unused used at count) (next-within used vid (omega arith))) ∙ is)) as
          (λ _. ((vid ≤ found) × ((other : ℕ) → vid ≤ other → other < found → used other ≡ true))
          ⊎ ((VID_MAX + 1 ≤ vid + suc count) × ((other : ℕ) → vid ≤ other → other ≤ VID_MAX → used other ≡ true))) [
            | inl found_there ↦ inl (omega (arith, found_there.0), λ other from below. here-or-behind vid other taken from (cases_eq vid other) (λ behind. found_there.1 other behind below))
            | inr whole ↦ inr (omega (arith, whole.0), λ other from upto. here-or-behind vid other taken from (cases_eq vid other) (λ behind. whole.1 other behind upto))
          ]
      by_test false free is which later =
          let same : vid ≡ found = cc in
          inl (omega arith, λ other from below. absurd (omega arith))

-- there is none exactly where every id is used
pub none-free : (name : List ℕ) (used : ℕ → Bool) → free_id name used ≡ None → (vid : ℕ) → 1 ≤ vid → vid ≤ VID_MAX → used vid ≡ true
none-free name used none vid first last = by_place (cases_lt vid (own_vid name))
  where
    own : (1 ≤ own_vid name) × (own_vid name ≤ VID_MAX)
    own = own_vid-is name

    behind : (other : ℕ) → own_vid name ≤ other → other ≤ VID_MAX → used other ≡ true
    behind other from upto =
        let there : own_vid name + (other - own_vid name) ≡ other = omega arith in
        ap used (sym there) ∙ none-run used VID_COUNT (own_vid name) none (other - own_vid name) (omega (arith, VID_COUNT-is, own.0)) (omega arith)

    by_place : (vid < own_vid name) ⊎ (own_vid name ≤ vid) → used vid ≡ true
    by_place (inr from) = behind vid from last
    by_place (inl before) =
        let rest : first_unused used 1 (own_vid name - 1) ≡ None
        = sym (wrapped used VID_COUNT (own_vid name - 1) (own_vid name) (omega (arith, VID_COUNT-is, own.0)) own.1 behind) ∙ none in
        let there : 1 + (vid - 1) ≡ vid = omega arith in
        ap used (sym there) ∙ none-run used (own_vid name - 1) 1 rest (vid - 1) (omega arith) (omega arith)

-- every id from the name's own to the free one is used, where the first follows on the last
pub free-is-first : (name : List ℕ) (used : ℕ → Bool) (found : ℕ) → free_id name used ≡ Some found
    → (own_vid name ≤ found → (other : ℕ) → own_vid name ≤ other → other < found → used other ≡ true)
    × (found < own_vid name → (other : ℕ) → ((1 ≤ other) × (other < found)) ⊎ ((own_vid name ≤ other) × (other ≤ VID_MAX)) → used other ≡ true)
free-is-first name used found is = by_end (found-run used VID_COUNT (own_vid name) found own.1 is)
  where
    own : (1 ≤ own_vid name) × (own_vid name ≤ VID_MAX)
    own = own_vid-is name

    by_end : ((own_vid name ≤ found) × ((other : ℕ) → own_vid name ≤ other → other < found → used other ≡ true))
        ⊎ ((VID_MAX + 1 ≤ own_vid name + VID_COUNT) × ((other : ℕ) → own_vid name ≤ other → other ≤ VID_MAX → used other ≡ true))
        → (own_vid name ≤ found → (other : ℕ) → own_vid name ≤ other → other < found → used other ≡ true)
        × (found < own_vid name → (other : ℕ) → ((1 ≤ other) × (other < found)) ⊎ ((own_vid name ≤ other) × (other ≤ VID_MAX)) → used other ≡ true)
    by_end (inl run) = (λ above. run.1, λ below other which. absurd (omega (arith, run.0)))
    by_end (inr whole) = (λ above other from below. whole.1 other from (omega (arith, bound)), λ below other which. by_side below other which)
      where
        bound : found ≤ VID_MAX
        bound = (free_id-is name used found is).1

        by_rest : ((1 ≤ found) × ((other : ℕ) → 1 ≤ other → other < found → used other ≡ true))
            ⊎ ((VID_MAX + 1 ≤ 1 + (own_vid name - 1)) × ((other : ℕ) → 1 ≤ other → other ≤ VID_MAX → used other ≡ true))
            → (other : ℕ) → 1 ≤ other → other < found → used other ≡ true
        by_rest (inl run) other from below = run.1 other from below
        by_rest (inr round) other from below = round.1 other from (omega (arith, bound))

        by_side : found < own_vid name → (other : ℕ) → ((1 ≤ other) × (other < found)) ⊎ ((own_vid name ≤ other) × (other ≤ VID_MAX)) → used other ≡ true
        by_side less other (inr high) = whole.1 other high.0 high.1
        by_side less other (inl low) =
            let rest : first_unused used 1 (own_vid name - 1) ≡ Some found
            = sym (wrapped used VID_COUNT (own_vid name - 1) (own_vid name) (omega (arith, VID_COUNT-is, own.0)) own.1 whole.1) ∙ is in
            by_rest (found-run used (own_vid name - 1) 1 found (omega arith) rest) other low.0 low.1
