-- The policy that two bytes spell: each policy is read from its spelling, and nothing else is.
use Rattle.std.proofs.Common.{◌≡◌, ℕ, ◌+◌, ◌*◌, ◌/◌, ◌%◌, ◌≤◌, ◌⊎◌, inl, inr, Bool, true, false, cond, eqb, leb, not, ◌&&◌, ◌||◌, Option, Some, None, refl, sym, ap, subst, ◌∙◌, arith, lit≤}
use Rattle.std.proofs.lemmas.Bool.{eqb-true, eqb-false, eq-eqb, ne_eqb, le-leb, leb-true, and_parts, and_from, or_cases, not-true}
use Rattle.object_id.specs.declared.policy.Policy.{Policy}
use Rattle.object_id.specs.declared.policy.Policy.TheVariants.{Copies, Coded}
use Rattle.object_id.specs.declared.oid.Kind.TheVariants.{Block}
use Rattle.object_id.specs.Policy.{is_width, IsPolicy, policy_byte, strips_of, wanted_of}
use Rattle.inode.specs.Reading.{spelled_policy}

abbrev some : Policy → Option Policy
some policy = Some policy

-- what is read from two bytes is spelled by them
pub record IsSpelledBy (byte copies : ℕ) (policy : Policy) : Type 0 where
  pub valid : IsPolicy policy
  pub byte_is : policy_byte policy ≡ byte
  pub copies_is : strips_of policy ≡ copies

whole-copies : (byte copies : ℕ) (policy : Policy) (fits : Bool) → eqb byte 0 ≡ true → (leb 1 copies && leb copies 31) ≡ fits
    → cond fits (Some (Copies copies)) None ≡ Some policy → IsSpelledBy byte copies policy
whole-copies byte copies policy true zero fits e =
    let same : Copies copies ≡ policy = cc in
    let both = and_parts (leb 1 copies) (leb copies 31) fits in
    subst (λ (p : Policy). IsSpelledBy byte copies p) same
    (record { valid = (leb-true 1 copies both.0, leb-true copies 31 both.1); byte_is = sym (eqb-true byte 0 zero); copies_is = refl })
whole-copies byte copies policy false zero fits e = absurd cc

coded : (byte copies : ℕ) (policy : Policy) (fits : Bool) → (is_width (byte / 16 * 2) && not (eqb (byte % 16) 0) && eqb copies (byte / 16 * 2 + byte % 16)) ≡ fits
    → cond fits (Some (Coded (byte / 16 * 2) (byte % 16))) None ≡ Some policy → IsSpelledBy byte copies policy
coded byte copies policy true fits e =
    let same : Coded (byte / 16 * 2) (byte % 16) ≡ policy = cc in
    let both = and_parts (is_width (byte / 16 * 2) && not (eqb (byte % 16) 0)) (eqb copies (byte / 16 * 2 + byte % 16)) fits in
    let first = and_parts (is_width (byte / 16 * 2)) (not (eqb (byte % 16) 0)) both.0 in
    let some_parity : byte % 16 ≡ 0 → ⊥ = eqb-false (byte % 16) 0 (not-true _ first.1) in
    let strips : copies ≡ byte / 16 * 2 + byte % 16 = eqb-true copies (byte / 16 * 2 + byte % 16) both.1 in
    subst (λ (p : Policy). IsSpelledBy byte copies p) same
    (record { valid = (first.0, omega arith, omega arith); byte_is = omega arith; copies_is = sym strips })
coded byte copies policy false fits e = absurd cc

by-byte : (byte copies : ℕ) (policy : Policy) (zero : Bool) → eqb byte 0 ≡ zero
    → cond zero (cond (leb 1 copies && leb copies 31) (Some (Copies copies)) None)
    (cond (is_width (byte / 16 * 2) && not (eqb (byte % 16) 0) && eqb copies (byte / 16 * 2 + byte % 16)) (Some (Coded (byte / 16 * 2) (byte % 16))) None) ≡ Some policy
    → IsSpelledBy byte copies policy
by-byte byte copies policy true zero e = whole-copies byte copies policy (leb 1 copies && leb copies 31) zero refl e
by-byte byte copies policy false zero e =
    coded byte copies policy (is_width (byte / 16 * 2) && not (eqb (byte % 16) 0) && eqb copies (byte / 16 * 2 + byte % 16)) refl e

pub policy-spelled : (byte copies : ℕ) (policy : Policy) → spelled_policy byte copies ≡ Some policy → IsSpelledBy byte copies policy
policy-spelled byte copies policy e = by-byte byte copies policy (eqb byte 0) refl e

-- ---- each policy is read from its spelling

coded-case : (zero width even same : Bool) (x : Option Policy) (y : Policy) → zero ≡ false → width ≡ true → even ≡ false → same ≡ true
    → cond zero x (cond (width && not even && same) (Some y) None) ≡ Some y
coded-case zero width even same x y a b c d = rw (a, b, c, d) refl

widths : (d : ℕ) → is_width d ≡ true → (d ≡ 2) ⊎ ((d ≡ 4) ⊎ ((d ≡ 8) ⊎ (d ≡ 16)))
widths d h =
    elim (or_cases (eqb d 2 || eqb d 4 || eqb d 8) (eqb d 16) h) [
      | inr e ↦ inr (inr (inr (eqb-true d 16 e)))
      | inl h3 ↦ elim (or_cases (eqb d 2 || eqb d 4) (eqb d 8) h3) [
        | inr e ↦ inr (inr (inl (eqb-true d 8 e)))
        | inl h2 ↦ elim (or_cases (eqb d 2) (eqb d 4) h2) [
          | inr e ↦ inr (inl (eqb-true d 4 e))
          | inl e ↦ inl (eqb-true d 2 e)
        ]
      ]
    ]

halves : (d : ℕ) → is_width d ≡ true → (d / 2 * 2 ≡ d) × (1 ≤ d / 2)
halves d h =
    elim (widths d h) [
      | inl e ↦ rw e (refl, lit≤ tt)
      | inr h2 ↦ elim h2 [
        | inl e ↦ rw e (refl, lit≤ tt)
        | inr h3 ↦ elim h3 [ inl e ↦ rw e (refl, lit≤ tt) | inr e ↦ rw e (refl, lit≤ tt) ]
      ]
    ]

pub policy-again : (policy : Policy) → IsPolicy policy → spelled_policy (policy_byte policy) (strips_of policy) ≡ Some policy
policy-again (Copies copies) valid =
    let fits : (leb 1 copies && leb copies 31) ≡ true = and_from (leb 1 copies) (leb copies 31) (le-leb 1 copies valid.0) (le-leb copies 31 valid.1) in
    rw fits refl
policy-again (Coded d p) valid =
    let half = halves d valid.0 in
    let byte : ℕ = d / 2 * 16 + p in
    let parity : byte % 16 ≡ p = omega (arith, valid.1, valid.2) in
    let width : byte / 16 * 2 ≡ d = omega (arith, half.0, valid.1, valid.2) in
    let some_width : eqb byte 0 ≡ false = ne_eqb byte 0 (λ e. omega (arith, half.1, e)) in
    let is_one : is_width (byte / 16 * 2) ≡ true = ap is_width width ∙ valid.0 in
    let some_parity : eqb (byte % 16) 0 ≡ false = ap (λ n. eqb n 0) parity ∙ ne_eqb p 0 (λ e. omega (arith, valid.1, e)) in
    let same : eqb (d + p) (byte / 16 * 2 + byte % 16) ≡ true = eq-eqb (d + p) (byte / 16 * 2 + byte % 16) (omega arith) in
    coded-case (eqb byte 0) (is_width (byte / 16 * 2)) (eqb (byte % 16) 0) (eqb (d + p) (byte / 16 * 2 + byte % 16))
    (cond (leb 1 (d + p) && leb (d + p) 31) (Some (Copies (d + p))) None) (Coded (byte / 16 * 2) (byte % 16)) some_width is_one some_parity same
    ∙ ap (λ n. some (Coded n (byte % 16))) width ∙ ap (λ n. some (Coded d n)) parity

-- where no policy has these bytes, none is read
pub policy-none : (byte copies : ℕ) → ((policy : Policy) → IsPolicy policy → policy_byte policy ≡ byte → strips_of policy ≡ copies → ⊥)
    → spelled_policy byte copies ≡ None
policy-none byte copies never = go (spelled_policy byte copies) refl
  where
    go : (read : Option Policy) → spelled_policy byte copies ≡ read → read ≡ None
    go None e = refl
    go (Some policy) e = let spelled = policy-spelled byte copies policy e in absurd (never policy spelled.valid spelled.byte_is spelled.copies_is)

pub policy-read : (byte copies : ℕ) (policy : Policy) → IsPolicy policy → policy_byte policy ≡ byte → strips_of policy ≡ copies → spelled_policy byte copies ≡ Some policy
policy-read byte copies policy valid byte_is copies_is =
    sym (ap (λ b. spelled_policy b (strips_of policy)) byte_is ∙ ap (spelled_policy byte) copies_is) ∙ policy-again policy valid

-- the number of copies is that of the nodes that keep a data object
pub wanted-strips : (policy : Policy) → wanted_of policy Block ≡ strips_of policy
wanted-strips (Copies copies) = refl
wanted-strips (Coded d p) = refl
