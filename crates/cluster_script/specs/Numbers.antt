-- Numbers: decimal, below 2^64, and where a size is read with K, M or G after them.
use Rattle.std.specs.Prelude.{ℕ, ◌+◌, ◌-◌, ◌*◌, ◌%◌, ◌^◌, ◌==◌, Bool, ◌&&◌, nat_le, nat_lt, List, length, take, fold, slice_index, Result}
use Rattle.std.specs.Prelude.{Ok, Err, if◌then◌else◌}
use Rattle.std.specs.List.{list_all}
use Rattle.std.specs.Char.{is_ascii_digit}
use Rattle.cluster_script.specs.declared.fault.LineCause.{LineCause}
use Rattle.cluster_script.specs.declared.fault.LineCause.TheVariants as causes
use Rattle.object_id.specs.declared.limits.TheConstants.{BLOCK_BYTES}
use Rattle.cluster_script.specs.ReadResults.{◌>>=◌}
use Rattle.cluster_script.specs.Words.{Word, has_bytes, word_at}

-- digits alone, and at least one; 48 is `0`
abbrev pub is_digits : Word → Bool
is_digits word = has_bytes word && list_all is_ascii_digit word

-- the number that digits are, in base ten
abbrev pub digits_value : Word → ℕ
digits_value digits = fold (λ value digit. value * 10 + (digit - 48)) 0 digits

-- so many times the number that the digits are
unfoldable pub scaled_number : ℕ → Word → Result ℕ LineCause
scaled_number scale word = if is_digits word && nat_lt (digits_value word * scale) (2 ^ 64) then Ok (digits_value word * scale)
    else Err causes.Number

-- the number that a word is
abbrev pub number_of : Word → Result ℕ LineCause
number_of word = scaled_number 1 word

-- where a suffix stands
abbrev pub last_byte : Word → ℕ
last_byte word = slice_index word (length word - 1)

-- what stands before a suffix
abbrev pub front : Word → Word
front word = take (length word - 1) word

-- the size that a word is: K, M and G (75, 77 and 71) stand for 2^10, 2^20 and 2^30
unfoldable pub size_of_word : Word → Result ℕ LineCause
size_of_word word =
    if last_byte word == 75 then scaled_number (2 ^ 10) (front word)
    else if last_byte word == 77 then scaled_number (2 ^ 20) (front word)
    else if last_byte word == 71 then scaled_number (2 ^ 30) (front word)
    else number_of word

-- a number within limits
abbrev pub number_in_range : ℕ → ℕ → ℕ → Result ℕ LineCause
number_in_range low high number = if nat_le low number && nat_le number high then Ok number else Err causes.Range

-- a number of whole blocks
abbrev pub aligned_number : ℕ → Result ℕ LineCause
aligned_number number = if number % BLOCK_BYTES == 0 then Ok number else Err causes.Unaligned

-- a plain number within limits, and the words after it
unfoldable pub plain_number_at : ℕ → ℕ → List Word → Result (ℕ × List Word) LineCause
plain_number_at low high words = do
  word ← word_at words
  number ← number_of word.0
  within ← number_in_range low high number
  Ok (within, word.1)

-- a size in whole blocks within limits, and the words after it
unfoldable pub blocks_at : ℕ → ℕ → List Word → Result (ℕ × List Word) LineCause
blocks_at low high words = do
  word ← word_at words
  number ← size_of_word word.0
  within ← number_in_range low high number
  whole ← aligned_number within
  Ok (whole, word.1)
