-- The first part of a text, and the parts after it.
use Rattle.std.proofs.Common.{◌≡◌, ℕ, ◌+◌, ◌≤◌, ◌==◌, Bool, true, false, List, [], ◌∷◌, length, refl, ap, ◌∙◌, arith, inl, inr}
use Rattle.std.specs.Prelude.{filter}
use Rattle.std.specs.List.{slice_split, before_first, after_first, position_or_len}
use Rattle.std.proofs.lemmas.Bool.{cases_lt}
use Rattle.std.proofs.lemmas.List.{take_all, drop_all}
use Rattle.std.proofs.lemmas.List.Elements.{All-from_get_or}
use Rattle.std.proofs.lemmas.List.Sums.{fails_before_first}
use Rattle.std.proofs.lemmas.List.Splits.{slice_split_none, slice_split_first}
use Rattle.cluster_script.specs.Words.{has_bytes, words_of}

abbrev pub is_space : ℕ → Bool
is_space byte = byte == 32

-- without a separator all is the first part, and nothing is after it
pub one_part : (p : ℕ → Bool) (xs : List ℕ) → length xs ≤ position_or_len p xs
    → (slice_split p xs ≡ xs ∷ []) × (before_first p xs ≡ xs) × (after_first p xs ≡ [])
one_part p xs past = (
  slice_split_none p xs (All-from_get_or (λ x. p x ≡ false) xs 0 (λ i lt. fails_before_first p xs i 0 (omega arith))),
  take_all (position_or_len p xs) xs past,
  drop_all (position_or_len p xs + 1) xs (omega arith),
)

-- the words up to a space and those after it
pub words_split : (line : List ℕ) → words_of line ≡ filter has_bytes (before_first is_space line ∷ slice_split is_space (after_first is_space line))
words_split line =
    elim (cases_lt (position_or_len is_space line) (length line)) [
      | inl lt ↦ ap (filter has_bytes) (slice_split_first is_space line 0 lt)
      | inr past ↦
          let one = one_part is_space line past in
          rw (one.0, one.1, one.2) refl
    ]

pub first_kept : (word : List ℕ) (words : List (List ℕ)) → has_bytes word ≡ true → filter has_bytes (word ∷ words) ≡ word ∷ filter has_bytes words
first_kept word words kept = rw kept refl

pub first_word : (line : List ℕ) → has_bytes (before_first is_space line) ≡ true → words_of line ≡ before_first is_space line ∷ words_of (after_first is_space line)
first_word line kept = words_split line ∙ first_kept (before_first is_space line) (slice_split is_space (after_first is_space line)) kept
