-- The runs of bytes, and their words.
use Rattle.std.proofs.Common.{◌≡◌, ◌≢◌, ℕ, zero, suc, ◌+◌, ◌<◌, List, [], ◌∷◌, ◌++◌, length, map, replicate, refl, ap, sym, ◌∙◌, slice_index, append-nil, append_assoc, Bool, true, false, rules, arith}
use Rattle.std.specs.Prelude.{◌==◌, codes}
use Rattle.object_id.specs.Runs.{with_front, runs_of}
use Rattle.dog_report.specs.Words.{Words, following_words}
use Rattle.dog_report.specs.RunWords.{run_word, runs_words}

-- what stands in front begins the first run
abbrev begins_with_run : ℕ → List (ℕ × ℕ) → Type 0
begins_with_run byte [] = ⊥
begins_with_run byte (run ∷ runs) = run.0 ≡ byte

front_begins : (byte : ℕ) (runs : List (ℕ × ℕ)) → begins_with_run byte (with_front byte runs)
front_begins byte [] = refl
front_begins byte (run ∷ runs) = go (byte == run.0) refl
  where
    go : (same : Bool) → (byte == run.0) ≡ same → begins_with_run byte (with_front byte (run ∷ runs))
    go true h = rw h refl
    go false h = rw h refl

-- a byte in front of another one's run begins a run of its own
front_apart : (byte other : ℕ) (runs : List (ℕ × ℕ)) → other ≢ byte → begins_with_run other runs → with_front byte runs ≡ (byte, 1) ∷ runs
front_apart byte other [] apart begins = absurd begins
front_apart byte other (run ∷ runs) apart begins = go (byte == run.0) refl
  where
    go : (same : Bool) → (byte == run.0) ≡ same → with_front byte (run ∷ runs) ≡ (byte, 1) ∷ run ∷ runs
    go true h = absurd (apart (search (rules, h, begins)))
    go false h = rw h refl

-- one byte is a run of its own where the next one differs
one_in_front : (byte : ℕ) (rest : List ℕ) → (0 < length rest → slice_index rest 0 ≢ byte) → runs_of (byte ∷ rest) ≡ (byte, 1) ∷ runs_of rest
one_in_front byte [] apart = refl
one_in_front byte (next ∷ rest) apart =
    front_apart byte next (runs_of (next ∷ rest)) (apart (omega arith)) (front_begins next (runs_of rest))

-- the same byte in front makes its run longer
same_in_front : (byte count : ℕ) (runs : List (ℕ × ℕ)) → with_front byte ((byte, count) ∷ runs) ≡ (byte, count + 1) ∷ runs
same_in_front byte count runs = go (byte == byte) refl
  where
    go : (same : Bool) → (byte == byte) ≡ same → with_front byte ((byte, count) ∷ runs) ≡ (byte, count + 1) ∷ runs
    go true h = rw h refl
    go false h = absurd (search (rules, h))

-- so many equal bytes, and then another one, are a run
pub runs_of-replicate : (count byte : ℕ) (rest : List ℕ) → (0 < length rest → slice_index rest 0 ≢ byte)
    → runs_of (replicate (suc count) byte ++ rest) ≡ (byte, suc count) ∷ runs_of rest
runs_of-replicate zero byte rest apart = one_in_front byte rest apart
runs_of-replicate (suc count) byte rest apart =
    ap (with_front byte) (runs_of-replicate count byte rest apart) ∙ same_in_front byte (suc count) (runs_of rest) ∙ search rules

-- the word of the first run, and those of the runs behind it
pub runs_words-cut : (byte count : ℕ) (others behind : List ℕ) → others ≡ replicate count byte ++ behind
    → (0 < length behind → slice_index behind 0 ≢ byte)
    → runs_words (byte ∷ others) ≡ run_word (byte, count + 1) ∷ runs_words behind
runs_words-cut byte count others behind whole apart =
    ap (λ bytes. runs_words (byte ∷ bytes)) whole ∙ ap (map run_word) (runs_of-replicate count byte behind apart) ∙ search rules

-- a word behind others, and then more of them
one_more : (old word : List ℕ) (later : Words)
    → (old ++ following_words (word ∷ [])) ++ following_words later ≡ old ++ following_words (word ∷ later)
one_more old word later =
    append_assoc old (following_words (word ∷ [])) (following_words later)
    ∙ ap (λ xs. old ++ (xs ++ following_words later)) (append-nil (codes " " ++ word))

-- the first run's word is added: what was added, with the words of what is left, is all that it was
pub runs_words-step : (old new all rest others behind : List ℕ) (byte count : ℕ) → rest ≡ byte ∷ others
    → others ≡ replicate count byte ++ behind → (0 < length behind → slice_index behind 0 ≢ byte)
    → new ≡ old ++ following_words (run_word (byte, count + 1) ∷ []) → old ++ following_words (runs_words rest) ≡ all
    → new ++ following_words (runs_words behind) ≡ all
runs_words-step old new all rest others behind byte count first whole apart told kept =
    ap (λ xs. xs ++ following_words (runs_words behind)) told ∙ one_more old (run_word (byte, count + 1)) (runs_words behind)
    ∙ ap (λ (words : Words). old ++ following_words words) (sym (runs_words-cut byte count others behind whole apart))
    ∙ ap (λ xs. old ++ following_words (runs_words xs)) (sym first) ∙ kept
