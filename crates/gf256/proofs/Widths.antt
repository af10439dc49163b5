-- The numbers of data strips: 2, 4, 8 and 16.
use Rattle.std.proofs.Common.{◌≡◌, ◌≢◌, ℕ, ◌≤◌, ◌⊎◌, refl, sym, subst, arith, inl, inr, eqb-true, IsTrue}
use Rattle.std.specs.Prelude.{◌==◌, ◌||◌}
use Rattle.std.proofs.lemmas.Bool.{or_cases}
use Rattle.object_id.specs.Policy.{is_width}
use Rattle.gf256.specs.Strip.{Divides}

-- the four cases
pub width_cases : (d : ℕ) → IsTrue (is_width d) → (d ≡ 2) ⊎ ((d ≡ 4) ⊎ ((d ≡ 8) ⊎ (d ≡ 16)))
width_cases d h =
    elim (or_cases (d == 2 || d == 4 || d == 8) (d == 16) h) [
      | inl a ↦
          elim (or_cases (d == 2 || d == 4) (d == 8) a) [
            | inl b ↦
                elim (or_cases (d == 2) (d == 4) b) [
                  | inl e ↦ inl (eqb-true d 2 e)
                  | inr e ↦ inr (inl (eqb-true d 4 e))
                ]
            | inr e ↦ inr (inr (inl (eqb-true d 8 e)))
          ]
      | inr e ↦ inr (inr (inr (eqb-true d 16 e)))
    ]

pub by_cases : (P : ℕ → Type 0) → P 2 → P 4 → P 8 → P 16 → (d : ℕ) → IsTrue (is_width d) → P d
by_cases P two four eight sixteen d h =
    elim (width_cases d h) [
      | inl e ↦ subst P (sym e) two
      | inr a ↦
          elim a [
            | inl e ↦ subst P (sym e) four
            | inr b ↦ elim b [ inl e ↦ subst P (sym e) eight | inr e ↦ subst P (sym e) sixteen ]
          ]
    ]

pub divides : (d : ℕ) → IsTrue (is_width d) → Divides d
divides =
    by_cases Divides
    (record { whole = refl; some = omega arith; few = omega arith })
    (record { whole = refl; some = omega arith; few = omega arith })
    (record { whole = refl; some = omega arith; few = omega arith })
    (record { whole = refl; some = omega arith; few = omega arith })

pub width_most : (d : ℕ) → IsTrue (is_width d) → d ≤ 16
width_most = by_cases (λ d. d ≤ 16) (omega arith) (omega arith) (omega arith) (omega arith)

pub is_sixteen : (d : ℕ) → IsTrue (is_width d) → d ≢ 2 → d ≢ 4 → d ≢ 8 → d ≡ 16
is_sixteen =
    by_cases (λ d. d ≢ 2 → d ≢ 4 → d ≢ 8 → d ≡ 16)
    (λ a b c. absurd (a refl)) (λ a b c. absurd (b refl)) (λ a b c. absurd (c refl)) (λ a b c. refl)
