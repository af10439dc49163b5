-- The numbers that stand in a line that is an event's text.
use Rattle.std.proofs.Common.{◌≡◌, ℕ, ◌<◌, ◌^◌, ◌==◌, not, nat_lt, Bool, true, false, List, [], ◌∷◌, ◌++◌, length, get_or, map, filter, codes, decimal, refl, ap, ◌∙◌, arith, All}
use Rattle.std.specs.List.{slice_split, list_all}
use Rattle.std.specs.Char.{is_ascii_digit}
use Rattle.std.specs.Int.{IsInRange}
use Rattle.std.specs.Str.Parse.{digits_value}
use Rattle.std.proofs.lemmas.Bool.{and_parts, le-leb, lt-ltb, ltb-true}
use Rattle.std.proofs.lemmas.Str.Parse.{digit_at}
use Rattle.std.proofs.lemmas.Fmt.{decimal_is_IsNumeral}
use Rattle.std.proofs.lemmas.List.Splits.{slice_split_none, slice_split_at, slice_split-cons_yes}
use Rattle.std.proofs.lemmas.List.{append_assoc}
use Rattle.std.proofs.lemmas.List.Elements.{All-from_get_or, filter_passes, All-head, All-tail}
use Rattle.trace_text.specs.EventReading.{numbers_in}

abbrev pub is_stop : ℕ → Bool
is_stop byte = not (is_ascii_digit byte)

abbrev has_bytes : List ℕ → Bool
has_bytes part = not (length part == 0)

abbrev parts_in : List ℕ → List (List ℕ)
parts_in line = filter has_bytes (slice_split is_stop line)

-- a word without digits
after_word : (word rest : List ℕ) → list_all is_stop word ≡ true → parts_in (word ++ rest) ≡ parts_in rest
after_word [] rest h = refl
after_word (byte ∷ bytes) rest h =
    let parts : (is_stop byte ≡ true) × (list_all is_stop bytes ≡ true) = and_parts (is_stop byte) (list_all is_stop bytes) h in
    ap (filter has_bytes) (slice_split-cons_yes is_stop byte (bytes ++ rest) parts.0) ∙ after_word bytes rest parts.1

digit_goes_on : (byte : ℕ) → IsInRange 48 57 byte → is_stop byte ≡ false
digit_goes_on byte h = rw (le-leb 48 byte h.0, le-leb byte 57 h.1) refl

digits_go_on : (n : ℕ) → n < 2 ^ 64 → All (λ byte. is_stop byte ≡ false) (decimal n)
digits_go_on n lt =
    All-from_get_or (λ (byte : ℕ). is_stop byte ≡ false) (decimal n) 0
    (λ k k_lt. digit_goes_on (get_or (decimal n) k 0) (digit_at (decimal n) k (decimal_is_IsNumeral n lt).0.1 k_lt))

has_decimal : (n : ℕ) → n < 2 ^ 64 → has_bytes (decimal n) ≡ true
has_decimal n lt = grind (arith, (decimal_is_IsNumeral n lt).0.0)

keeps : (part : List ℕ) (rest : List (List ℕ)) → has_bytes part ≡ true → filter has_bytes (part ∷ rest) ≡ part ∷ filter has_bytes rest
keeps part rest h = rw h refl

one_part : (n : ℕ) → n < 2 ^ 64 → parts_in (decimal n) ≡ decimal n ∷ []
one_part n lt =
    ap (filter has_bytes) (slice_split_none is_stop (decimal n) (digits_go_on n lt)) ∙ keeps (decimal n) [] (has_decimal n lt)

two_parts : (m n : ℕ) → m < 2 ^ 64 → n < 2 ^ 64 → parts_in (decimal m ++ 46 ∷ decimal n) ≡ decimal m ∷ decimal n ∷ []
two_parts m n m_lt n_lt =
    ap (filter has_bytes) (slice_split_at is_stop (decimal m) 46 (decimal n) (digits_go_on m m_lt) refl)
    ∙ keeps (decimal m) (slice_split is_stop (decimal n)) (has_decimal m m_lt)
    ∙ ap (λ (parts : List (List ℕ)). decimal m ∷ parts) (one_part n n_lt)

wide : (n : ℕ) → n < 2 ^ 32 → n < 2 ^ 64
wide n lt = omega (arith, lt)

value : (n : ℕ) → n < 2 ^ 32 → digits_value 10 (decimal n) ≡ n
value n lt = (decimal_is_IsNumeral n (wide n lt)).1

-- the numbers of a line are below 2^32
pub numbers-small : (line : List ℕ) → All (λ number. number < 2 ^ 32) (numbers_in line)
numbers-small line k d lt =
    ltb-true (get_or (numbers_in line) k d) (2 ^ 32)
    (filter_passes (λ number. nat_lt number (2 ^ 32)) (map (digits_value 10) (parts_in line)) k d lt)

small : (n : ℕ) (rest : List ℕ) → n < 2 ^ 32
    → filter (λ number. nat_lt number (2 ^ 32)) (n ∷ rest) ≡ n ∷ filter (λ number. nat_lt number (2 ^ 32)) rest
small n rest lt = rw (lt-ltb n (2 ^ 32) lt) refl

-- a word without digits and a number
pub number_after : (word : List ℕ) (n : ℕ) → list_all is_stop word ≡ true → n < 2 ^ 32 → numbers_in (word ++ decimal n) ≡ n ∷ []
number_after word n h lt =
    ap (λ (parts : List (List ℕ)). filter (λ number. nat_lt number (2 ^ 32)) (map (digits_value 10) parts))
    (after_word word (decimal n) h ∙ one_part n (wide n lt))
    ∙ ap (λ (number : ℕ). filter (λ number. nat_lt number (2 ^ 32)) (number ∷ [])) (value n lt)
    ∙ small n [] lt

-- a word without digits and a name
pub numbers_after : (word : List ℕ) (m n : ℕ) → list_all is_stop word ≡ true → m < 2 ^ 32 → n < 2 ^ 32
    → numbers_in (word ++ (decimal m ++ codes "." ++ decimal n)) ≡ m ∷ n ∷ []
numbers_after word m n h m_lt n_lt =
    ap (λ (name : List ℕ). numbers_in (word ++ name)) (append_assoc (decimal m) (codes ".") (decimal n))
    ∙ ap (λ (parts : List (List ℕ)). filter (λ number. nat_lt number (2 ^ 32)) (map (digits_value 10) parts))
    (after_word word (decimal m ++ 46 ∷ decimal n) h ∙ two_parts m n (wide m m_lt) (wide n n_lt))
    ∙ ap (λ (number : ℕ). filter (λ number. nat_lt number (2 ^ 32)) (number ∷ digits_value 10 (decimal n) ∷ [])) (value m m_lt)
    ∙ ap (λ (number : ℕ). filter (λ number. nat_lt number (2 ^ 32)) (m ∷ number ∷ [])) (value n n_lt)
    ∙ small m (n ∷ []) m_lt
    ∙ ap (λ (numbers : List ℕ). m ∷ numbers) (small n [] n_lt)

-- numbers that fit, one by one
pub first-fits : (n : ℕ) (rest : List ℕ) → All (λ number. number < 2 ^ 32) (n ∷ rest) → n < 2 ^ 32
first-fits n rest fit = All-head (λ (number : ℕ). number < 2 ^ 32) n rest fit

pub second-fits : (m n : ℕ) → All (λ number. number < 2 ^ 32) (m ∷ n ∷ []) → n < 2 ^ 32
second-fits m n fit = first-fits n [] (All-tail (λ (number : ℕ). number < 2 ^ 32) m (n ∷ []) fit)
