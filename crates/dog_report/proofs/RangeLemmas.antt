-- Numbers that are gone through one after another.
use Rattle.std.proofs.Common.{◌≡◌, ℕ, suc, ◌+◌, ◌-◌, ◌<◌, ◌≤◌, [], ◌∷◌, fold, sym, ap, ◌∙◌, arith}
use Rattle.std.specs.List.{range_with_len}
use Rattle.std.proofs.lemmas.List.Sums.{fold-append}
use Rattle.proof_tools.proofs.Lists.{range_with_len-append}

module _ {S : Type 0} (go_on : S → ℕ → S) where
  -- one number more is gone through
  pub range-step : (start middle end : S) (first next later : ℕ) → first ≤ next → later ≡ next + 1
      → middle ≡ fold go_on start (range_with_len first (next - first)) → end ≡ go_on middle next
      → end ≡ fold go_on start (range_with_len first (later - first))
  range-step start middle end first next later behind is before step =
      let count : later - first ≡ (next - first) + 1 = omega (arith, behind, is) in
      let here : first + (next - first) ≡ next = omega (arith, behind) in
      step ∙ ap (λ (s : S). go_on s next) before
      ∙ sym (ap (λ (n : ℕ). fold go_on start (range_with_len first n)) count
      ∙ ap (fold go_on start) (sym (range_with_len-append first (next - first) 1))
      ∙ fold-append go_on start (range_with_len first (next - first)) (range_with_len (first + (next - first)) 1)
      ∙ ap (λ (n : ℕ). go_on (fold go_on start (range_with_len first (next - first))) n) here)

-- the first of the numbers up to a last one, and those behind it
pub range-first : (next later last : ℕ) → next < last → later ≡ next + 1
    → range_with_len next (last - next) ≡ next ∷ range_with_len later (last - later)
range-first next later last within is =
    let count : last - next ≡ suc (last - later) = omega (arith, within, is) in
    ap (range_with_len next) count ∙ ap (λ (n : ℕ). next ∷ range_with_len n (last - later)) (sym is)

-- past the last there are none
pub range-past : (next last : ℕ) → last ≤ next → range_with_len next (last - next) ≡ []
range-past next last past = let none : last - next ≡ 0 = omega (arith, past) in ap (range_with_len next) none
