-- Texts that are cut at a separator, and numbers, which have none.
use Rattle.std.proofs.Common.{◌≡◌, ℕ, ◌<◌, ◌^◌, ◌==◌, ◌+◌, ◌-◌, suc, not, nat_lt, Bool, true, false, cond, List, [], ◌∷◌, ◌++◌, length, get_or, take, drop, decimal, Some, None, refl, sym, ap, ◌∙◌, arith, All, drop-cons}
use Rattle.std.specs.List.{slice_split, list_all, join_with_byte, position, position_or_len}
use Rattle.std.specs.Int.{IsInRange}
use Rattle.std.proofs.lemmas.Bool.{and_parts, not-true, eq-eqb, eqb-true, ne_eqb, ltb-false}
use Rattle.std.proofs.lemmas.Option.{none-some}
use Rattle.std.proofs.lemmas.List.{take-append-drop, take_rest, get_or-take, length-take}
use Rattle.std.proofs.lemmas.List.Quantifiers.{position-Some}
use Rattle.std.proofs.lemmas.List.Sums.{fails_before_first}
use Rattle.std.proofs.lemmas.List.Elements.{All-cons, All-nil, All-head, All-tail, All-from_get_or}
use Rattle.std.proofs.lemmas.List.Splits.{slice_split_at, join_with_byte-slice_split}
use Rattle.std.proofs.lemmas.Str.Parse.{digit_at}
use Rattle.std.proofs.lemmas.Fmt.{decimal_is_IsNumeral}

module _ (separator : ℕ) where
  -- no byte is the separator
  abbrev pub Lacks : List ℕ → Type 0
  Lacks bytes = All (λ byte. (byte == separator) ≡ false) bytes

  -- what can be seen to lack it
  pub lacks-seen : (bytes : List ℕ) → list_all (λ byte. not (byte == separator)) bytes ≡ true → Lacks bytes
  lacks-seen [] seen = All-nil (λ (byte : ℕ). (byte == separator) ≡ false)
  lacks-seen (byte ∷ bytes) seen =
      let parts : (not (byte == separator) ≡ true) × (list_all (λ byte. not (byte == separator)) bytes ≡ true) =
      and_parts (not (byte == separator)) (list_all (λ byte. not (byte == separator)) bytes) seen in
      All-cons (λ (b : ℕ). (b == separator) ≡ false) byte bytes (not-true (byte == separator) parts.0) (lacks-seen bytes parts.1)

  -- a text that has it
  pub has-one : (before behind : List ℕ) → Lacks (before ++ separator ∷ behind) → ⊥
  has-one [] behind lacks =
      let here : (separator == separator) ≡ false = All-head (λ (b : ℕ). (b == separator) ≡ false) separator behind lacks in
      let same : (separator == separator) ≡ true = eq-eqb separator separator refl in
      cc
  has-one (byte ∷ before) behind lacks =
      has-one before behind (All-tail (λ (b : ℕ). (b == separator) ≡ false) byte (before ++ separator ∷ behind) lacks)

  -- the parts before and behind the first separator are of one text
  pub same-parts : (before behind front back : List ℕ) → Lacks before → Lacks front
      → before ++ separator ∷ behind ≡ front ++ separator ∷ back → (before ≡ front) × (behind ≡ back)
  same-parts before behind front back lacks lacks_too same =
      let split : before ∷ slice_split (λ byte. byte == separator) behind ≡ front ∷ slice_split (λ byte. byte == separator) back =
      sym (slice_split_at (λ byte. byte == separator) before separator behind lacks (eq-eqb separator separator refl))
      ∙ ap (slice_split (λ byte. byte == separator)) same
      ∙ slice_split_at (λ byte. byte == separator) front separator back lacks_too (eq-eqb separator separator refl) in
      let later : slice_split (λ byte. byte == separator) behind ≡ slice_split (λ byte. byte == separator) back = cc in (
        cc,
        sym (join_with_byte-slice_split separator behind) ∙ ap (join_with_byte separator) later
            ∙ join_with_byte-slice_split separator back,
      )

  -- a number has no separator that isn't a digit
  pub number-lacks : separator < 48 → (number : ℕ) → number < 2 ^ 32 → Lacks (decimal number)
  number-lacks low number lt =
      All-from_get_or (λ (byte : ℕ). (byte == separator) ≡ false) (decimal number) 0
      (λ k k_lt. digit (get_or (decimal number) k 0) (digit_at (decimal number) k (decimal_is_IsNumeral number (omega (arith, lt))).0.1 k_lt))
    where
      digit : (byte : ℕ) → IsInRange 48 57 byte → (byte == separator) ≡ false
      digit byte h = ne_eqb byte separator (λ e. absurd (omega (arith, e, h.0, low)))

  -- where it stands first, a text has two parts
  pub parts-at : (bytes : List ℕ) (place : ℕ) → Some place ≡ position (λ byte. byte == separator) bytes
      → bytes ≡ take place bytes ++ separator ∷ take (length bytes - (place + 1)) (drop (place + 1) bytes)
  parts-at bytes place at =
      let here = position-Some (λ (byte : ℕ). byte == separator) bytes place 0 (sym at) in
      let next : suc place ≡ place + 1 = omega arith in
      sym (take-append-drop place bytes)
      ∙ ap (λ (rest : List ℕ). take place bytes ++ rest)
      (drop-cons bytes place 0 here.0
      ∙ ap (λ (byte : ℕ). byte ∷ drop (suc place) bytes) (eqb-true (get_or bytes place 0) separator here.1)
      ∙ ap (λ (n : ℕ). separator ∷ drop n bytes) next
      ∙ ap (λ (rest : List ℕ). separator ∷ rest) (sym (take_rest bytes (place + 1))))

  pub before-lacks : (bytes : List ℕ) (place : ℕ) → Some place ≡ position (λ byte. byte == separator) bytes → Lacks (take place bytes)
  before-lacks bytes place at =
      let here = position-Some (λ (byte : ℕ). byte == separator) bytes place 0 (sym at) in
      All-from_get_or (λ (byte : ℕ). (byte == separator) ≡ false) (take place bytes) 0
      (λ k lt.
      let k_lt : k < place = omega (arith, lt, length-take place bytes) in
      ap (λ (byte : ℕ). byte == separator) (get_or-take place bytes k 0 k_lt) ∙ here.2 k k_lt)

  -- a text in which it doesn't stand
  pub all-lacks : (bytes : List ℕ) → None ≡ position (λ byte. byte == separator) bytes → Lacks bytes
  all-lacks bytes none = by_test (nat_lt (position_or_len (λ byte. byte == separator) bytes) (length bytes)) refl none
    where
      by_test : (found : Bool) → nat_lt (position_or_len (λ byte. byte == separator) bytes) (length bytes) ≡ found
          → None ≡ cond found (Some (position_or_len (λ byte. byte == separator) bytes)) None → Lacks bytes
      by_test true e is = absurd (none-some (position_or_len (λ byte. byte == separator) bytes) is)
      by_test false e is =
          let past = ltb-false (position_or_len (λ byte. byte == separator) bytes) (length bytes) e in
          All-from_get_or (λ (byte : ℕ). (byte == separator) ≡ false) bytes 0
          (λ k lt. fails_before_first (λ (byte : ℕ). byte == separator) bytes k 0 (omega (arith, lt, past)))
