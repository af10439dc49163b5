-- The lines of a text, the words of a line, and what is read from the front of its words.
use Rattle.std.specs.Prelude.{ℕ, ◌==◌, Bool, true, false, ◌&&◌, not, nat_le, nat_eq, List, [], ◌∷◌, length, filter, bytes_eq, codes, Result}
use Rattle.std.specs.Prelude.{Ok, Err, if◌then◌else◌}
use Rattle.std.specs.List.{slice_split, list_all, starts_with}
use Rattle.cluster_script.specs.declared.fault.LineCause.{LineCause}
use Rattle.cluster_script.specs.declared.fault.LineCause.TheVariants as causes
use Rattle.object_id.specs.declared.limits.TheConstants.{NAME_BYTES_MAX}
use Rattle.cluster_script.specs.ReadResults.{◌>>=◌}

-- a word is its bytes
abbrev pub Word : Type 0
Word = List ℕ

-- a line feed (10) ends a line; after the last one an empty line follows, which says nothing
abbrev pub lines_of : List ℕ → List (List ℕ)
lines_of text = slice_split (λ byte. byte == 10) text

-- a part between two separators is no word where it is empty
abbrev pub has_bytes : Word → Bool
has_bytes word = not (length word == 0)

-- one or more spaces (32) divide words
abbrev pub words_of : List ℕ → List Word
words_of line = filter has_bytes (slice_split (λ byte. byte == 32) line)

-- lines without words, and those whose first word begins with `#`, say nothing
abbrev pub says_nothing : List Word → Bool
says_nothing [] = true
says_nothing (first ∷ rest) = starts_with nat_eq first (codes "#")

-- the first word, and the words after it
abbrev pub word_at : List Word → Result (Word × List Word) LineCause
word_at [] = Err causes.Word
word_at (first ∷ rest) = Ok (first, rest)

-- the words after this very word
unfoldable pub keyword_at : Word → List Word → Result (List Word) LineCause
keyword_at expected words = do
  word ← word_at words
  if bytes_eq word.0 expected then Ok word.1 else Err causes.Word

-- the next word is this very one
abbrev pub is_next_word : Word → List Word → Bool
is_next_word expected [] = false
is_next_word expected (first ∷ rest) = bytes_eq first expected

-- an option that may stand there: what is read behind its name, or else its default
abbrev pub option_at : {A : Type 0} → Word → (List Word → Result (A × List Word) LineCause) → A → List Word
    → Result (A × List Word) LineCause
option_at name read default words = if is_next_word name words then (do
  rest ← keyword_at name words
  read rest) else Ok (default, words)

-- no word is left
abbrev pub end_of_words : List Word → Result (Unit {0}) LineCause
end_of_words [] = Ok tt
end_of_words (first ∷ rest) = Err causes.Word

-- 0x21 to 0x7e
abbrev pub is_name_byte : ℕ → Bool
is_name_byte byte = nat_le 33 byte && nat_le byte 126

-- 1 to 255 such bytes, of which the first isn't `-`
abbrev pub is_printed_name : Word → Bool
is_printed_name word = nat_le 1 (length word) && nat_le (length word) NAME_BYTES_MAX && list_all is_name_byte word
    && not (starts_with nat_eq word (codes "-"))

-- a name, and the words after it
unfoldable pub name_word_at : List Word → Result (Word × List Word) LineCause
name_word_at words = do
  word ← word_at words
  if is_printed_name word.0 then Ok word else Err causes.Word
