use Rattle.std.proofs.Common.{◌≡◌, ℕ, zero, suc, ◌||◌, not, nat_lt, Bool, true, false, length, is_some, refl, ap, sym, ◌∙◌, arith}
use Rattle.std.proofs.lemmas.Bool.{lt-ltb}
use Rattle.vdi_directory.specs.NameRows.{Standing}
use Rattle.vdi_directory.proofs.StandingLemmas.{filled}
use Rattle.vdi_directory.proofs.named.Named.is_live.Goals as goal

turned : (b : Bool) (n : ℕ) → (b ≡ true → n ≡ 0) → (n ≡ 0 → b ≡ true) → not b ≡ nat_lt 0 n
turned true n empty back = ap (nat_lt 0) (sym (empty refl))
turned false zero empty back = absurd (never (back refl))
  where
    never : false ≡ true → ⊥
    never e = cc
turned false (suc n) empty back = sym (lt-ltb 0 (suc n) (omega arith))

pub returns-else-is_some : goal.returns-else-is_some
returns-else-is_some c = λ now same.
    let works : is_some c.args.self.now.working ≡ is_some now.working = ap (λ (s : Standing). is_some s.working) same in
    let none : is_some now.working ≡ false = sym works ∙ sym c.is_some.ensures ∙ c.if-is_some.false in
    turned c.is_empty.result (length c.args.self.now.tags.entries) (c.is_empty.ensures.0) (c.is_empty.ensures.1)
    ∙ filled c.args.self.now.tags.entries now.live_snapshots (λ tag. ap (λ (s : Standing). s.tagged tag) same)
    ∙ sym (ap (λ b. b || nat_lt 0 (length now.live_snapshots)) none)
