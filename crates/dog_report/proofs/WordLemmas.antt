-- The words of a line.
use Rattle.std.proofs.Common.{◌≡◌, ℕ, zero, suc, ◌+◌, ◌-◌, ◌<◌, ◌/◌, ◌%◌, List, [], ◌∷◌, ◌++◌, map, drop, length, get_or, refl, ap, sym, ◌∙◌, append-nil, append_assoc, arith}
use Rattle.std.specs.Prelude.{codes}
use Rattle.std.proofs.lemmas.List.{drop_more}
use Rattle.dog_report.specs.Words.{Words, spaced_words, following_words, hex, hex_digit}

-- a line is its first word and those behind it
pub spaced_words_are : (first : List ℕ) (words : Words) → spaced_words (first ∷ words) ≡ first ++ following_words words
spaced_words_are first [] = sym (append-nil first)
spaced_words_are first (next ∷ words) =
    append_assoc first (codes " ") (spaced_words (next ∷ words)) ∙ ap (λ later. first ++ (codes " " ++ later)) (spaced_words_are next words)

-- words behind others
following_words-append : (words later : Words) → following_words (words ++ later) ≡ following_words words ++ following_words later
following_words-append [] later = refl
following_words-append (word ∷ words) later =
    ap (λ xs. (codes " " ++ word) ++ xs) (following_words-append words later)
    ∙ sym (append_assoc (codes " " ++ word) (following_words words) (following_words later))

-- words are added, and then more
pub more_words : (old middle new : List ℕ) (words later : Words) → middle ≡ old ++ following_words words
    → new ≡ middle ++ following_words later
    → new ≡ old ++ following_words (words ++ later)
more_words old middle new words later begun told =
    told ∙ ap (λ xs. xs ++ following_words later) begun ∙ append_assoc old (following_words words) (following_words later)
    ∙ ap (λ xs. old ++ xs) (sym (following_words-append words later))

-- a line's first word is added, then those behind it, and its end
pub line-pushed : (old first middle last end new : List ℕ) (words : Words) → middle ≡ old ++ first
    → last ≡ middle ++ following_words words → new ≡ last ++ end
    → new ≡ old ++ spaced_words (first ∷ words) ++ end
line-pushed old first middle last end new words begun told ended =
    ended ∙ ap (λ xs. xs ++ end) (told ∙ ap (λ xs. xs ++ following_words words) begun ∙ append_assoc old first (following_words words)
    ∙ ap (λ xs. old ++ xs) (sym (spaced_words_are first words)))

-- the word of one item more is added: it, with the words of those that are left, is all of them
pub words-step : {X : Type 0} (word_of : X → List ℕ) (xs : List X) (i : ℕ) (d : X) (word old new all : List ℕ) → i < length xs
    → word ≡ word_of (get_or xs i d) → new ≡ old ++ following_words (word ∷ [])
    → old ++ following_words (map word_of (drop i xs)) ≡ all → new ++ following_words (map word_of (drop (i + 1) xs)) ≡ all
words-step {X = X} word_of xs i d word old new all within is told kept =
    let later : Words = map word_of (drop (i + 1) xs) in
    ap (λ xs. xs ++ following_words later) told ∙ append_assoc old (following_words (word ∷ [])) (following_words later)
    ∙ ap (λ xs. old ++ xs) (sym (following_words-append (word ∷ []) later))
    ∙ ap (λ (word : List ℕ). old ++ following_words (word ∷ later)) is
    ∙ ap (λ (rest : List X). old ++ following_words (map word_of rest)) (sym (drop_more xs i d within)) ∙ kept

-- a number of one digit more
hex-more : (digits number : ℕ) → 0 < digits → hex digits number ≡ hex (digits - 1) (number / 16) ++ hex_digit (number % 16) ∷ []
unfolding hex
hex-more zero number some = absurd (omega (arith, some))
hex-more (suc digits) number some =
    let fewer : digits ≡ suc digits - 1 = omega arith in ap (λ d. hex d (number / 16) ++ hex_digit (number % 16) ∷ []) fewer

-- its last digit is added behind the others
pub hex-pushed : (old middle new : List ℕ) (digits number : ℕ) → 0 < digits → middle ≡ old ++ hex (digits - 1) (number / 16)
    → new ≡ middle ++ hex_digit (number % 16) ∷ [] → new ≡ old ++ hex digits number
hex-pushed old middle new digits number some told pushed =
    pushed ∙ ap (λ xs. xs ++ hex_digit (number % 16) ∷ []) told
    ∙ append_assoc old (hex (digits - 1) (number / 16)) (hex_digit (number % 16) ∷ [])
    ∙ ap (λ xs. old ++ xs) (sym (hex-more digits number some))
