-- The words of a line, and numbers in hexadecimal.
use Rattle.std.specs.Prelude.{ℕ, zero, suc, ◌/◌, ◌%◌, List, [], ◌∷◌, ◌++◌, flat_map, codes, slice_index}

-- a line is told by its words, of which each is bytes
abbrev pub Words : Type 0
Words = List (List ℕ)

-- the words of a line, with one space between
abbrev pub spaced_words : Words → List ℕ
spaced_words [] = []
spaced_words (word ∷ []) = word
spaced_words (word ∷ next ∷ later) = word ++ codes " " ++ spaced_words (next ∷ later)

-- words behind another one, with a space before each
abbrev pub following_words : Words → List ℕ
following_words words = flat_map (λ word. codes " " ++ word) words

-- a digit of base 16, in lower case
abbrev pub hex_digit : ℕ → ℕ
hex_digit digit = slice_index (codes "0123456789abcdef") digit

-- the last digits of a number in base 16, so many
unfoldable pub hex : ℕ → ℕ → List ℕ
hex zero number = []
hex (suc digits) number = hex digits (number / 16) ++ hex_digit (number % 16) ∷ []
