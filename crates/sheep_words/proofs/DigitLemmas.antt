-- What is parsed of a text of digits.
use Rattle.std.proofs.Common.{arith, ◌≡◌, ◌∙◌, ◌<◌, ◌≤◌, ◌^◌, ◌==◌, ap, refl, sym, ℕ, List, [], ◌∷◌, Bool, true, false, ◌&&◌, Result, Ok, Err, length, true≢false, nat_lt, lt-ltb, le-leb, ltb-true}
use Rattle.std.specs.List.{list_all}
use Rattle.std.specs.Result.{result_ok}
use Rattle.std.specs.Char.{digit_value}
use Rattle.std.specs.Str.Parse.{AllDigits, IsNumeral, ParsesUnsigned, digits_value, without_leading_plus}
use Rattle.std.proofs.lemmas.Grind.{common_steps}
use Rattle.sheep_words.specs.Mode.{number_meant}
use Rattle.std.specs.Char.{is_ascii_digit}

and_first : (a b : Bool) → (a && b) ≡ true → a ≡ true
and_first true b h = refl
and_first false b h = h

and_second : (a b : Bool) → (a && b) ≡ true → b ≡ true
and_second true b h = h
and_second false b h = absurd (true≢false (sym h))

pub digit_is : (d : ℕ) → is_ascii_digit d ≡ true → digit_value d < 10
digit_is d h = grind (arith, common_steps)

pub all_digits : (t : List ℕ) → list_all is_ascii_digit t ≡ true → AllDigits 10 t
all_digits [] h = tt
all_digits (d ∷ ds) h = (digit_is d (and_first _ _ h), all_digits ds (and_second _ _ h))

pub no_plus : (t : List ℕ) → list_all is_ascii_digit t ≡ true → without_leading_plus t ≡ t
no_plus [] h = refl
no_plus (d ∷ ds) h = let digit : is_ascii_digit d ≡ true = and_first _ _ h in grind (arith, common_steps)

pub no_minus : (d : ℕ) → is_ascii_digit d ≡ true → (d == 45) ≡ false
no_minus d h = grind (arith, common_steps)

too_large : (t : List ℕ) → without_leading_plus t ≡ t → 1 ≤ length t → AllDigits 10 t
    → ¬ (IsNumeral 10 (without_leading_plus t) × (digits_value 10 (without_leading_plus t) < 2 ^ 64))
    → (b : Bool) → nat_lt (digits_value 10 t) (2 ^ 64) ≡ b → nat_lt (digits_value 10 t) (2 ^ 64) ≡ false
too_large t plain long digits h true e = absurd (h (rw plain ((omega arith, digits), ltb-true (digits_value 10 t) (2 ^ 64) e)))
too_large t plain long digits h false e = e

is_not_empty : (t : List ℕ) → 1 ≤ length t → (length t == 0) ≡ false
is_not_empty [] h = absurd (omega arith)
is_not_empty (d ∷ ds) h = grind (arith)

pub parsed : {E : Type 0} (t : List ℕ) (r : Result ℕ E) → 1 ≤ length t → length t ≤ 20 → list_all is_ascii_digit t ≡ true
    → ParsesUnsigned 64 10 t r → result_ok r ≡ number_meant t
parsed t (Ok v) long short digits h =
    let plain = no_plus t digits in
    let value : v ≡ digits_value 10 t = h.1 ∙ ap (digits_value 10) plain in
    let small : digits_value 10 t < 2 ^ 64 = rw plain at h.0.1 in
    rw (is_not_empty t long, le-leb (length t) 20 short, digits, lt-ltb (digits_value 10 t) (2 ^ 64) small, value) refl
parsed t (Err e) long short digits h =
    let plain = no_plus t digits in
    let large : nat_lt (digits_value 10 t) (2 ^ 64) ≡ false = too_large t plain long (all_digits t digits) h (nat_lt (digits_value 10 t) (2 ^ 64)) refl in
    rw (is_not_empty t long, le-leb (length t) 20 short, digits, large) refl
