-- Bytes that end at their last one that isn't 0.
use Rattle.std.proofs.Common.{◌≡◌, ℕ, suc, ◌-◌, ◌≤◌, Bool, true, false, cond, ◌&&◌, List, [], ◌∷◌, length, refl, sym, ◌∙◌, arith}
use Rattle.std.specs.Prelude.{nat_eq, nat_lt}
use Rattle.std.proofs.Math.Bool.{and-true}
use Rattle.std.proofs.lemmas.Bool.{lt-ltb}
use Rattle.object_store.specs.Bytes.{trimmed_bytes}
use Rattle.peer_proto.specs.Say.{ends_in_zero}

-- the last byte of a list with one byte in front
last-cons : (a b : ℕ) (bytes : List ℕ) → ends_in_zero (a ∷ b ∷ bytes) ≡ ends_in_zero (b ∷ bytes)
last-cons a b bytes =
    let many : nat_lt 0 (suc (suc (length bytes))) ≡ true = lt-ltb _ _ (omega arith) in
    let some : nat_lt 0 (suc (length bytes)) ≡ true = lt-ltb _ _ (omega arith) in
    let far : suc (suc (length bytes)) - 1 ≡ suc (length bytes) = omega arith in
    let near : suc (length bytes) - 1 ≡ length bytes = omega arith in
    rw (many, some, far, near) refl

-- one byte in front of what is trimmed
trimmed_bytes-cons : (b : Bool) (byte : ℕ) (rest : List ℕ) → (nat_eq byte 0 && nat_eq (length rest) 0) ≡ b → ends_in_zero rest ≡ false
    → ends_in_zero (cond b [] (byte ∷ rest)) ≡ false
trimmed_bytes-cons true byte rest test h = refl
trimmed_bytes-cons false byte [] test h = sym (and-true (nat_eq byte 0)) ∙ test
trimmed_bytes-cons false byte (c ∷ rest) test h = last-cons byte c rest ∙ h

pub ends-trimmed_bytes : (bytes : List ℕ) → ends_in_zero (trimmed_bytes bytes) ≡ false
ends-trimmed_bytes [] = refl
ends-trimmed_bytes (byte ∷ bytes) = trimmed_bytes-cons (nat_eq byte 0 && nat_eq (length (trimmed_bytes bytes)) 0) byte (trimmed_bytes bytes) refl (ends-trimmed_bytes bytes)

shorter : (b : Bool) (n byte : ℕ) (rest : List ℕ) → length rest ≤ n → length (cond b [] (byte ∷ rest)) ≤ suc n
shorter true n byte rest h = omega arith
shorter false n byte rest h = omega (arith, h)

pub length-trimmed_bytes : (bytes : List ℕ) → length (trimmed_bytes bytes) ≤ length bytes
length-trimmed_bytes [] = omega arith
length-trimmed_bytes (byte ∷ bytes) =
    shorter (nat_eq byte 0 && nat_eq (length (trimmed_bytes bytes)) 0) (length bytes) byte (trimmed_bytes bytes) (length-trimmed_bytes bytes)
