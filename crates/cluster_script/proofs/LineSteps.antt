-- Reading line by line, as a loop does, whichever way a line is read.
use Rattle.std.proofs.Common.{◌≡◌, ℕ, ◌+◌, ◌≤◌, ◌<◌, ◌==◌, Bool, List, [], ◌∷◌, length, refl, sym, ap, subst, ◌∙◌, arith, inl, inr, Option, Some, None, Result, Ok, Err}
use Rattle.std.specs.Prelude.{MatchResult, is_ok, IfErr, IsOk}
use Rattle.std.specs.Str.{IsUtf8, is_utf8}
use Rattle.std.specs.List.{before_first, after_first, position_or_len}
use Rattle.std.proofs.lemmas.Bool.{cases_lt, false_from_ne_true}
use Rattle.std.proofs.lemmas.Str.{is_utf8-from_IsUtf8, IsUtf8-from_is_utf8, IsUtf8-nil}
use Rattle.std.proofs.lemmas.List.{length-append}
use Rattle.std.proofs.lemmas.List.Splits.{slice_split_first}
use Rattle.cluster_script.specs.declared.statement.Statement.{Statement}
use Rattle.cluster_script.specs.declared.fault.LineCause.{LineCause}
use Rattle.cluster_script.specs.declared.fault.ReadError.{ReadError}
use Rattle.cluster_script.specs.declared.fault.ReadError.TheVariants as errors
use Rattle.cluster_script.specs.ReadResults.{FailsLine}
use Rattle.cluster_script.specs.Words.{lines_of}
use Rattle.cluster_script.specs.Script.{StatementReader, statement_of_words, line_at, with_statement, script_of, IsLineTaken}
use Rattle.cluster_script.proofs.Pieces.{one_part}

abbrev pub is_feed : ℕ → Bool
is_feed byte = byte == 10

length_added : (before : List Statement) (s : Option Statement) → length (with_statement before s) ≤ length before + 1
length_added before None = omega arith
length_added before (Some s) = omega (arith, length-append before (s ∷ []))

-- what was read
value_read : (read : Result (Option Statement) LineCause) → IsOk read → (s : Option Statement) × (read ≡ Ok s)
value_read (Ok s) is_read = (s, refl)
value_read (Err cause) is_read = absurd (cc is_read)

module _ (reader : StatementReader) where
  -- an empty line says nothing
  empty_line : (before : List Statement) → line_at reader before [] ≡ Ok None
  unfolding line_at statement_of_words
  empty_line before = rw (is_utf8-from_IsUtf8 [] IsUtf8-nil) refl

  -- where nothing is left the statements are those so far
  pub script_ends : (before : List Statement) (number : ℕ) → script_of reader before number (lines_of []) ≡ Ok before
  unfolding script_of
  script_ends before number = rw (empty_line before, script_of) refl

  no_line : (before : List Statement) (number : ℕ) → script_of reader before number [] ≡ Ok before
  unfolding script_of
  no_line before number = refl

  pub script_takes : (before : List Statement) (number : ℕ) (line : List ℕ) (lines : List (List ℕ)) (s : Option Statement)
      → line_at reader before line ≡ Ok s → script_of reader before number (line ∷ lines) ≡ script_of reader (with_statement before s) (number + 1) lines
  unfolding script_of
  script_takes before number line lines s taken = rw (taken, script_of) refl

  pub script_stops : (before : List Statement) (number : ℕ) (line : List ℕ) (lines : List (List ℕ)) (cause : LineCause)
      → line_at reader before line ≡ Err cause → script_of reader before number (line ∷ lines) ≡ Err (number, cause)
  unfolding script_of
  script_stops before number line lines cause bad = rw (bad, script_of) refl

  -- a text's first line and the lines after it, where a rest without line feed is the last line
  first_line : (text : List ℕ) → (rest : List (List ℕ)) × (lines_of text ≡ before_first is_feed text ∷ rest)
      × ((before : List Statement) (number : ℕ)
      → script_of reader before number rest ≡ script_of reader before number (lines_of (after_first is_feed text)))
  first_line text = elim (cases_lt (position_or_len is_feed text) (length text)) [
    | inl lt ↦ (lines_of (after_first is_feed text), slice_split_first is_feed text 0 lt, λ before number. refl)
    | inr past ↦
        let one = one_part is_feed text past in (
          [],
          one.0 ∙ ap (λ (t : List ℕ). t ∷ []) (sym one.1),
          λ before number. no_line before number ∙ sym (script_ends before number)
              ∙ ap (λ (t : List ℕ). script_of reader before number (lines_of t)) (sym one.2),
        )
  ]

  pub script_goes_on : (before : List Statement) (number : ℕ) (text : List ℕ) (s : Option Statement)
      → line_at reader before (before_first is_feed text) ≡ Ok s
      → script_of reader before number (lines_of text) ≡ script_of reader (with_statement before s) (number + 1) (lines_of (after_first is_feed text))
  script_goes_on before number text s taken =
      let first = first_line text in
      ap (script_of reader before number) first.1
      ∙ script_takes before number (before_first is_feed text) first.0 s taken ∙ first.2 (with_statement before s) (number + 1)

  pub script_is_bad : (before : List Statement) (number : ℕ) (text : List ℕ) (cause : LineCause)
      → line_at reader before (before_first is_feed text) ≡ Err cause → script_of reader before number (lines_of text) ≡ Err (number, cause)
  script_is_bad before number text cause bad =
      let first = first_line text in
      ap (script_of reader before number) first.1 ∙ script_stops before number (before_first is_feed text) first.0 cause bad

  -- a bad line has the number of the first line, or a later one
  bad_line_is_counted : (least : ℕ) (before : List Statement) (number : ℕ) (lines : List (List ℕ)) → least ≤ number
      → IfErr (script_of reader before number lines) (λ bad. least ≤ bad.0)
  bad_line_is_counted least before number [] from = rw (no_line before number) tt
  bad_line_is_counted least before number (line ∷ lines) from =
      by_read (line_at reader before line) refl (λ s. bad_line_is_counted least (with_statement before s) (number + 1) lines (omega (arith, from)))
    where
      by_read : (read : Result (Option Statement) LineCause) → line_at reader before line ≡ read
          → ((s : Option Statement) → IfErr (script_of reader (with_statement before s) (number + 1) lines) (λ bad. least ≤ bad.0))
          → IfErr (script_of reader before number (line ∷ lines)) (λ bad. least ≤ bad.0)
      by_read (Ok s) is later = rw (script_takes before number line lines s is) (later s)
      by_read (Err cause) is later = rw (script_stops before number line lines cause is) from

  -- where a text's first line is read, a bad line stands behind it
  pub bad_line_is_later : (before : List Statement) (number : ℕ) (text : List ℕ) → 1 ≤ number
      → IsOk (line_at reader before (before_first is_feed text)) → IfErr (script_of reader before number (lines_of text)) (λ bad. 1 < bad.0)
  bad_line_is_later before number text from is_read =
      let s = value_read (line_at reader before (before_first is_feed text)) is_read in
      rw (script_goes_on before number text s.0 s.1)
      (bad_line_is_counted 2 (with_statement before s.0) (number + 1) (lines_of (after_first is_feed text)) (omega (arith, from)))

  -- what a line that was taken leaves to read
  pub script_after : (before after : List Statement) (number : ℕ) (text : List ℕ)
      → IsLineTaken before after (line_at reader before (before_first is_feed text))
      → (script_of reader before number (lines_of text) ≡ script_of reader after (number + 1) (lines_of (after_first is_feed text))) × (length after ≤ length before + 1)
  script_after before after number text taken =
      (rw taken.2 (script_goes_on before number text taken.0 taken.1), rw taken.2 (length_added before taken.0))

-- memory was wanting for a line that is read
pub wanting_for : (error : ReadError) (read : Result (Option Statement) LineCause) → error ≡ errors.NoMemory → FailsLine error read → IsOk read
wanting_for error read same fails = subst (λ (e : ReadError). FailsLine e read) same fails

-- a cause that stopped the reading of a line
pub stopped_by : (error : ReadError) (cause : LineCause) (read : Result (Option Statement) LineCause) → error ≡ errors.Cause cause → FailsLine error read → read ≡ Err cause
stopped_by error cause read same fails = subst (λ (e : ReadError). FailsLine e read) same fails

-- a line is text where it was taken as text
pub is_text : {A E : Type 0} (r : Result A E) (line : List ℕ) (P : A → Type 0) (Q : E → Type 0)
    → MatchResult r (λ x. P x × IsUtf8 line) (λ e. (¬ IsUtf8 line) × Q e) → is_ok r ≡ is_utf8 line
is_text (Ok x) line P Q read = sym (is_utf8-from_IsUtf8 line read.1)
is_text (Err e) line P Q read = sym (false_from_ne_true (is_utf8 line) (λ t. read.0 (IsUtf8-from_is_utf8 line t)))
