-- A quotient rounded up is that of the number with the divisor less one added.
use Rattle.std.proofs.Common.{◌≡◌, ℕ, suc, ◌+◌, ◌-◌, ◌*◌, ◌/◌, ◌%◌, ◌^◌, ◌<◌, ◌≤◌, min, inl, inr, sym, ap, ◌∙◌, arith}
use Rattle.std.proofs.Math.Nat.{suc-mul}
use Rattle.std.proofs.lemmas.Nat.{pow_pos, one_shl, div-mul-add, div-add-mod'}
use Rattle.std.specs.Int.{div_ceil}
use Rattle.std.proofs.lemmas.Bool.{cases_eq}
use Rattle.inode.proofs.inode.objects.Goals as goal

rounded_up : (n d : ℕ) → 0 < d → n / d + min 1 (n % d) ≡ (n + d - 1) / d
rounded_up n d some =
    let parts : n / d * d + n % d ≡ n = div-add-mod' n d in
    let more : suc (n / d) * d ≡ n / d * d + d = suc-mul (n / d) d in
    elim (cases_eq (n % d) 0) [
      | inl none ↦
          let sum : n + d - 1 ≡ n / d * d + (d - 1) = omega arith in
          let one : n / d + min 1 (n % d) ≡ n / d = omega arith in
          one ∙ sym (ap (λ k. k / d) sum ∙ div-mul-add (n / d) d (d - 1) (omega arith))
      | inr rest ↦
          let below : n % d < d = omega arith in
          let at_least : 1 ≤ n % d = omega (arith, rest) in
          let sum : n + d - 1 ≡ suc (n / d) * d + (n % d - 1) = omega arith in
          let one : n / d + min 1 (n % d) ≡ suc (n / d) = omega arith in
          one ∙ sym (ap (λ k. k / d) sum ∙ div-mul-add (suc (n / d)) d (n % d - 1) (omega arith))
    ]

pub returns : goal.returns
returns c =
    let shift : ℕ = c.args.spec.shift in
    let power : 1 * 2 ^ shift % 2 ^ 64 ≡ 2 ^ shift = one_shl shift 64 (omega (arith, c.requires.shift.1)) in
    c.div_ceil.ensures ∙ ap (div_ceil c.args.spec.size) power ∙ rounded_up c.args.spec.size (2 ^ shift) (pow_pos shift)
