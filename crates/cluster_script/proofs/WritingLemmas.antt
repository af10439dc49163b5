-- Words written with a space between are the words of their line, and a number in decimal is read as it.
use Rattle.std.proofs.Common.{◌≡◌, ℕ, ◌+◌, ◌-◌, ◌*◌, ◌≤◌, ◌<◌, ◌^◌, Bool, true, false, ◌&&◌, List, [], ◌∷◌, ◌++◌, length, get_or, codes, decimal, refl, ap, ◌∙◌, arith, rules, Ok, All}
use Rattle.std.specs.Prelude.{nat_le, fold, filter}
use Rattle.std.specs.List.{slice_split, list_all, list_any, join_with_byte, before_first, after_first, position_or_len}
use Rattle.std.specs.Char.{is_ascii_digit}
use Rattle.std.specs.Int.{IsInRange}
use Rattle.std.specs.Str.{is_utf8}
use Rattle.std.proofs.Math.Seq.{take-append_seam, drop-append-add, get_or-append_seam}
use Rattle.std.proofs.lemmas.Bool.{and_from, and_parts, or_right, le-leb, leb-true, lt-ltb, ne_eqb}
use Rattle.std.proofs.lemmas.Fmt.{decimal_is_IsNumeral, digits_decimal, digits_value-decimal}
use Rattle.std.proofs.lemmas.Str.{is_utf8-from_IsUtf8, IsUtf8-from_ascii}
use Rattle.std.proofs.lemmas.Str.Ascii.{IsAscii-from_all}
use Rattle.std.proofs.lemmas.Str.Parse.{IsNumeralModel, numerals_by_fold, digit_at}
use Rattle.std.proofs.lemmas.List.{append_assoc, length-append, get_or_append_left}
use Rattle.std.proofs.lemmas.List.Elements.{All-nil, All-cons, All-append, All-from_get_or}
use Rattle.std.proofs.lemmas.List.Folds.{list_all-append, list_any-append, list_any_none}
use Rattle.std.proofs.lemmas.List.Sums.{AllPass-from_list_all, list_all-from_AllPass, position_or_len_is}
use Rattle.std.proofs.lemmas.List.Splits.{slice_split_none, slice_split_at}
use Rattle.object_id.specs.declared.limits.TheConstants.{COPIES_MAX, PARITY_MAX}
use Rattle.object_id.specs.declared.policy.Policy.{Policy}
use Rattle.object_id.specs.declared.policy.Policy.TheVariants.{Copies, Coded}
use Rattle.object_id.specs.Policy.{is_width, IsPolicy}
use Rattle.cluster_script.specs.Words.{Word, has_bytes, lines_of, words_of, is_name_byte}
use Rattle.cluster_script.specs.Numbers.{is_digits, digits_value, scaled_number, number_of, last_byte, size_of_word}
use Rattle.cluster_script.specs.Requests.{is_colon, strips_in, copies_in, policy_of_word}
use Rattle.cluster_script.specs.Writing.{policy_word}
use Rattle.cluster_script.proofs.Pieces.{is_space, first_kept}
use Rattle.cluster_script.proofs.LineSteps.{is_feed}

-- one printed byte or more, without a blank
abbrev pub is_word : Word → Bool
is_word word = has_bytes word && list_all is_name_byte word

-- each one of a line's words is one
abbrev pub are_words : List Word → Bool
are_words words = list_all is_word words

-- each byte is at least this one, and ASCII that prints
abbrev AllFrom : ℕ → List ℕ → Type 0
AllFrom least bytes = All (λ byte. (least ≤ byte) × (byte ≤ 126)) bytes

-- printed bytes are a word
pub printed-is-word : (word : Word) → 1 ≤ length word → list_all is_name_byte word ≡ true → is_word word ≡ true
printed-is-word word some printed =
    and_from (has_bytes word) (list_all is_name_byte word) (rw (ne_eqb (length word) 0 (λ none. omega (arith, some, none))) refl) printed

word-has-bytes : (word : Word) → is_word word ≡ true → has_bytes word ≡ true
word-has-bytes word is = (and_parts (has_bytes word) (list_all is_name_byte word) is).0

word-is-printed : (word : Word) → is_word word ≡ true → list_all is_name_byte word ≡ true
word-is-printed word is = (and_parts (has_bytes word) (list_all is_name_byte word) is).1

printed-bytes : (word : Word) → is_word word ≡ true → AllFrom 33 word
printed-bytes word is k d lt =
    let byte = get_or word k d in
    let both = and_parts (nat_le 33 byte) (nat_le byte 126) (AllPass-from_list_all is_name_byte word (word-is-printed word is) k d lt) in
    (leb-true 33 byte both.0, leb-true byte 126 both.1)

no-space : (word : Word) → is_word word ≡ true → All (λ byte. is_space byte ≡ false) word
no-space word is k d lt =
    ne_eqb (get_or word k d) 32 (λ same. omega (arith, same, (printed-bytes word is k d lt).0))

-- words with a space between are the words of their line
pub words-joined : (words : List Word) → are_words words ≡ true → words_of (join_with_byte 32 words) ≡ words
words-joined [] are = refl
words-joined (word ∷ []) are =
    let is = (and_parts (is_word word) true are).0 in
    ap (filter has_bytes) (slice_split_none is_space word (no-space word is)) ∙ first_kept word [] (word-has-bytes word is)
words-joined (word ∷ next ∷ words) are =
    let each = and_parts (is_word word) (are_words (next ∷ words)) are in
    let later = join_with_byte 32 (next ∷ words) in
    ap (filter has_bytes) (slice_split_at is_space word 32 later (no-space word each.0) refl)
    ∙ first_kept word (slice_split is_space later) (word-has-bytes word each.0)
    ∙ ap (λ (rest : List Word). word ∷ rest) (words-joined (next ∷ words) each.1)

-- a word's bytes may stand in a line
word-bytes : (word : Word) → is_word word ≡ true → AllFrom 32 word
word-bytes word is k d lt = let byte = printed-bytes word is k d lt in (omega (arith, byte.0), byte.1)

-- each byte of a line of words is printed or a space
joined-bytes : (words : List Word) → are_words words ≡ true → AllFrom 32 (join_with_byte 32 words)
joined-bytes [] are = All-nil (λ byte. (32 ≤ byte) × (byte ≤ 126))
joined-bytes (word ∷ []) are = word-bytes word (and_parts (is_word word) true are).0
joined-bytes (word ∷ next ∷ words) are =
    let each = and_parts (is_word word) (are_words (next ∷ words)) are in
    All-append (λ byte. (32 ≤ byte) × (byte ≤ 126)) word (32 ∷ join_with_byte 32 (next ∷ words)) (word-bytes word each.0)
    (All-cons (λ byte. (32 ≤ byte) × (byte ≤ 126)) 32 (join_with_byte 32 (next ∷ words)) (omega arith, omega arith)
    (joined-bytes (next ∷ words) each.1))

-- a line of words is text
pub joined-text : (words : List Word) → are_words words ≡ true → is_utf8 (join_with_byte 32 words) ≡ true
joined-text words are =
    let line = join_with_byte 32 words in
    is_utf8-from_IsUtf8 line
    (IsUtf8-from_ascii line (IsAscii-from_all line (λ k d lt. let byte = joined-bytes words are k d lt in omega (arith, byte.1))))

-- a line feed behind a line of words ends it
pub joined-line : (words : List Word) (rest : List ℕ) → are_words words ≡ true
    → lines_of ((join_with_byte 32 words ++ codes "\n") ++ rest) ≡ join_with_byte 32 words ∷ lines_of rest
joined-line words rest are =
    let line = join_with_byte 32 words in
    ap lines_of (append_assoc line (codes "\n") rest)
    ∙ slice_split_at is_feed line 10 rest
    (λ k d lt. ne_eqb (get_or line k d) 10 (λ same. omega (arith, same, (joined-bytes words are k d lt).0))) refl

-- the number so far, with a digit more
abbrev step : ℕ → ℕ → ℕ
step value digit = value * 10 + (digit - 48)

-- digits are those of std, and so is the number that they are
numerals : IsNumeralModel (λ digits. list_all is_ascii_digit digits ≡ true) digits_value
numerals = numerals_by_fold _ (search rules) (λ value digits. fold step value digits) (search rules)

-- each byte of a number in decimal is a digit
digit-of : (n k : ℕ) → n < 2 ^ 64 → k < length (decimal n) → IsInRange 48 57 (get_or (decimal n) k 0)
digit-of n k lt k_lt = digit_at (decimal n) k (decimal_is_IsNumeral n lt).0.1 k_lt

-- a number in decimal is a word
pub decimal-is-word : (n : ℕ) → n < 2 ^ 64 → is_word (decimal n) ≡ true
decimal-is-word n lt =
    printed-is-word (decimal n) (omega (arith, (decimal_is_IsNumeral n lt).0.0))
    (list_all-from_AllPass is_name_byte (decimal n)
    (All-from_get_or (λ byte. is_name_byte byte ≡ true) (decimal n) 0 digit-printed))
  where
    digit-printed : (k : ℕ) → k < length (decimal n) → is_name_byte (get_or (decimal n) k 0) ≡ true
    digit-printed k k_lt =
        let digit = digit-of n k lt k_lt in
        let byte = get_or (decimal n) k 0 in
        and_from (nat_le 33 byte) (nat_le byte 126) (le-leb 33 byte (omega (arith, digit.0))) (le-leb byte 126 (omega (arith, digit.1)))

digits-of-decimal : (n : ℕ) → n < 2 ^ 64 → is_digits (decimal n) ≡ true
digits-of-decimal n lt =
    and_from (has_bytes (decimal n)) (list_all is_ascii_digit (decimal n)) (word-has-bytes (decimal n) (decimal-is-word n lt))
    (digits_decimal numerals n lt)

value-of-decimal : (n : ℕ) → n < 2 ^ 64 → digits_value (decimal n) ≡ n
value-of-decimal n lt = digits_value-decimal numerals n lt

-- the digits that are a number are read as it
pub decimal-is-number : (n : ℕ) → n < 2 ^ 64 → number_of (decimal n) ≡ Ok n
unfolding scaled_number
decimal-is-number n lt =
    let same : digits_value (decimal n) * 1 ≡ n = omega (arith, value-of-decimal n lt) in
    rw (digits-of-decimal n lt, same, lt-ltb n (2 ^ 64) lt) refl

-- and as a size, since no suffix is a digit
pub decimal-is-size : (n : ℕ) → n < 2 ^ 64 → size_of_word (decimal n) ≡ Ok n
unfolding size_of_word
decimal-is-size n lt =
    let some : 0 < length (decimal n) = (decimal_is_IsNumeral n lt).0.0 in
    let last = digit-of n (length (decimal n) - 1) lt (omega (arith, some)) in
    rw (
      ne_eqb (last_byte (decimal n)) 75 (λ same. omega (arith, same, last.1)),
      ne_eqb (last_byte (decimal n)) 77 (λ same. omega (arith, same, last.1)),
      ne_eqb (last_byte (decimal n)) 71 (λ same. omega (arith, same, last.1)),
    ) (decimal-is-number n lt)

no-colon : (n : ℕ) → n < 2 ^ 64 → All (λ byte. is_colon byte ≡ false) (decimal n)
no-colon n lt =
    All-from_get_or (λ byte. is_colon byte ≡ false) (decimal n) 0
    (λ k k_lt. ne_eqb (get_or (decimal n) k 0) 58 (λ same. omega (arith, same, (digit-of n k lt k_lt).1)))

-- a word of a number, a colon and what follows is parted at the colon
record IsParted (n : ℕ) (rest : List ℕ) : Type 0 where
  has : list_any is_colon (decimal n ++ 58 ∷ rest) ≡ true
  before : before_first is_colon (decimal n ++ 58 ∷ rest) ≡ decimal n
  after : after_first is_colon (decimal n ++ 58 ∷ rest) ≡ rest

at-colon : (n : ℕ) (rest : List ℕ) → n < 2 ^ 64 → IsParted n rest
at-colon n rest lt = record {
  has = list_any-append is_colon (decimal n) (58 ∷ rest) ∙ or_right (list_any is_colon (decimal n)) true refl;
  before = rw place (take-append_seam (decimal n) (58 ∷ rest));
  after = rw place (drop-append-add (decimal n) (58 ∷ rest) 1);
}
  where
    place : position_or_len is_colon (decimal n ++ 58 ∷ rest) ≡ length (decimal n)
    place =
        position_or_len_is is_colon (decimal n ++ 58 ∷ rest) (length (decimal n)) 0
        (omega (arith, length-append (decimal n) (58 ∷ rest)))
        (λ k k_lt. ap is_colon (get_or_append_left (decimal n) (58 ∷ rest) 0 k k_lt) ∙ no-colon n lt k 0 k_lt)
        (λ within. ap is_colon (get_or-append_seam (decimal n) 58 rest 0))

-- a policy has at most 16 data strips
width-at-most : (d : ℕ) → is_width d ≡ true → d ≤ 16
width-at-most d is = grind (arith, is)

-- a policy's word is read as it
pub policy-is-read : (policy : Policy) → IsPolicy policy → policy_of_word (policy_word policy) ≡ Ok policy
unfolding strips_in copies_in
policy-is-read (Copies copies) is =
    let lt : copies < 2 ^ 64 = omega (arith, is.1) in
    rw (
      list_any_none is_colon (decimal copies) (no-colon copies lt),
      decimal-is-number copies lt,
      le-leb 1 copies is.0,
      le-leb copies COPIES_MAX is.1,
    ) refl
policy-is-read (Coded d p) is =
    let d_lt : d < 2 ^ 64 = omega (arith, width-at-most d is.0) in
    let p_lt : p < 2 ^ 64 = omega (arith, is.2) in
    let parted = at-colon d (decimal p) d_lt in
    rw (
      append_assoc (decimal d) (codes ":") (decimal p),
      parted.has,
      parted.before,
      parted.after,
      decimal-is-number d d_lt,
      decimal-is-number p p_lt,
      is.0,
      le-leb 1 p is.1,
      le-leb p PARITY_MAX is.2,
    ) refl

-- two words one behind the other are one
words-together : (a b : Word) → is_word a ≡ true → is_word b ≡ true → is_word (a ++ b) ≡ true
words-together [] b first second = second
words-together (byte ∷ bytes) b first second =
    printed-is-word (byte ∷ bytes ++ b) (omega arith)
    (list_all-append is_name_byte (byte ∷ bytes) b
    ∙ and_from _ _ (word-is-printed (byte ∷ bytes) first) (word-is-printed b second))

-- which is one word
pub policy-is-word : (policy : Policy) → IsPolicy policy → is_word (policy_word policy) ≡ true
policy-is-word (Copies copies) is = decimal-is-word copies (omega (arith, is.1))
policy-is-word (Coded d p) is =
    let front = decimal-is-word d (omega (arith, width-at-most d is.0)) in
    let back = decimal-is-word p (omega (arith, is.2)) in
    words-together (decimal d ++ codes ":") (decimal p) (words-together (decimal d) (codes ":") front refl) back
