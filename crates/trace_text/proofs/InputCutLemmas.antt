-- An input, gone through line by line up to its line `trace`.
use Rattle.std.proofs.Common.{◌≡◌, ℕ, ◌-◌, ◌≤◌, ◌==◌, ◌||◌, Bool, true, false, List, [], ◌∷◌, ◌++◌, length, take, refl, sym, ap, ◌∙◌, arith, append_assoc, append-nil, length-append}
use Rattle.std.specs.List.{list_any, flat_map, join_with_byte, before_first, after_first}
use Rattle.std.proofs.lemmas.List.{take_at, flat_map_more}
use Rattle.std.proofs.lemmas.List.Folds.{list_any-append}
use Rattle.std.proofs.lemmas.List.Splits.{slice_split_none, slice_split_at, join_with_byte-slice_split}
use Rattle.cluster_script.specs.Words.{lines_of}
use Rattle.trace_text.specs.Lines.{is_trace_line}
use Rattle.trace_text.specs.InputParts.{script_part, trace_part}
use Rattle.trace_text.proofs.LineLaws.{IsLine}
use Rattle.trace_text.proofs.PartLemmas.{before_first-none, after_first-none, before_first-at, after_first-at}

-- without a line `trace` the script is all
pub alone : (input : List ℕ) → list_any is_trace_line (lines_of input) ≡ false → (script_part input ≡ input) × (trace_part input ≡ [])
alone input none = (
  ap (join_with_byte 10) (before_first-none is_trace_line (lines_of input) none) ∙ join_with_byte-slice_split 10 input,
  ap (join_with_byte 10) (after_first-none is_trace_line (lines_of input) none),
)

-- lines, each with its LF
abbrev pub ended : List (List ℕ) → List ℕ
ended lines = flat_map (λ line. line ++ 10 ∷ []) lines

-- an input has lines before the rest of it, and none of them is `trace`
pub record IsPassed (input rest : List ℕ) : Type 0 where
  before : List (List ℕ)
  none : list_any is_trace_line before ≡ false
  text : input ≡ ended before ++ rest
  lines : lines_of input ≡ before ++ lines_of rest

pub passed-none : (input : List ℕ) → IsPassed input input
passed-none input = record { before = []; none = refl; text = refl; lines = refl }

pub passed-one : (input rest line behind : List ℕ) → IsPassed input rest → rest ≡ line ++ 10 ∷ behind → IsLine line
    → is_trace_line line ≡ false → IsPassed input behind
passed-one input rest line behind passed parts plain other = record {
  before = passed.before ++ line ∷ [];
  none =
      list_any-append is_trace_line passed.before (line ∷ [])
      ∙ ap (λ (b : Bool). b || (is_trace_line line || false)) passed.none ∙ ap (λ (b : Bool). b || false) other;
  text =
      passed.text ∙ ap (λ (more : List ℕ). ended passed.before ++ more) parts
      ∙ again (ended passed.before)
      ∙ ap (λ (front : List ℕ). front ++ behind) (flat_map_more (λ (l : List ℕ). l ++ 10 ∷ []) [] passed.before line);
  lines =
      passed.lines
      ∙ ap (λ (more : List (List ℕ)). passed.before ++ more)
      (ap lines_of parts ∙ slice_split_at (λ (byte : ℕ). byte == 10) line 10 behind plain refl)
      ∙ sym (append_assoc passed.before (line ∷ []) (lines_of behind));
}
  where
    again : (front : List ℕ) → front ++ (line ++ 10 ∷ behind) ≡ (front ++ (line ++ 10 ∷ [])) ++ behind
    again front = simp append_assoc

-- what stands before the rest is no longer than the input
pub passed-within : (input rest : List ℕ) → IsPassed input rest → length rest ≤ length input
passed-within input rest passed = omega (arith, ap length passed.text, length-append (ended passed.before) rest)

-- lines with their LFs are the lines joined, and one more LF
ended-joined : (line : List ℕ) (lines : List (List ℕ)) → ended (line ∷ lines) ≡ join_with_byte 10 (line ∷ lines) ++ 10 ∷ []
ended-joined line [] = append-nil (line ++ 10 ∷ [])
ended-joined line (next ∷ lines) =
    ap (λ (more : List ℕ). (line ++ 10 ∷ []) ++ more) (ended-joined next lines) ∙ again (join_with_byte 10 (next ∷ lines))
  where
    again : (joined : List ℕ) → (line ++ 10 ∷ []) ++ (joined ++ 10 ∷ []) ≡ (line ++ 10 ∷ joined) ++ 10 ∷ []
    again joined = simp append_assoc

-- what stands before the rest, without its last LF, is the lines joined
front-joined : (before : List (List ℕ)) (input rest : List ℕ) → input ≡ ended before ++ rest
    → take (length input - length rest - 1) input ≡ join_with_byte 10 before
front-joined [] input rest text =
    let none : length input - length rest - 1 ≡ 0 = omega (arith, ap length text) in
    ap (λ (n : ℕ). take n input) none
front-joined (line ∷ lines) input rest text =
    let parts : input ≡ join_with_byte 10 (line ∷ lines) ++ (10 ∷ rest) =
    text ∙ ap (λ (front : List ℕ). front ++ rest) (ended-joined line lines)
    ∙ append_assoc (join_with_byte 10 (line ∷ lines)) (10 ∷ []) rest in
    let size : length (join_with_byte 10 (line ∷ lines)) ≡ length input - length rest - 1 =
    omega (arith, ap length parts, length-append (join_with_byte 10 (line ∷ lines)) (10 ∷ rest)) in
    ap (take (length input - length rest - 1)) parts
    ∙ take_at (join_with_byte 10 (line ∷ lines)) (10 ∷ rest) (length input - length rest - 1) size

-- at the line `trace` the input is cut
cut-lines : (input rest line : List ℕ) (later : List (List ℕ)) → IsPassed input rest → lines_of rest ≡ line ∷ later
    → is_trace_line line ≡ true
    → (take (length input - length rest - 1) input ≡ script_part input) × (join_with_byte 10 later ≡ trace_part input)
cut-lines input rest line later passed lines is =
    let all : lines_of input ≡ passed.before ++ line ∷ later =
    passed.lines ∙ ap (λ (more : List (List ℕ)). passed.before ++ more) lines in (
      front-joined passed.before input rest passed.text
          ∙ ap (join_with_byte 10)
          (sym (ap (before_first is_trace_line) all ∙ before_first-at is_trace_line passed.before line later passed.none is)),
      ap (join_with_byte 10)
          (sym (ap (after_first is_trace_line) all ∙ after_first-at is_trace_line passed.before line later passed.none is)),
    )

pub cut-at : (input rest line behind : List ℕ) → IsPassed input rest → rest ≡ line ++ 10 ∷ behind → IsLine line
    → is_trace_line line ≡ true
    → (take (length input - length rest - 1) input ≡ script_part input) × (behind ≡ trace_part input)
cut-at input rest line behind passed parts plain is =
    let lines : lines_of rest ≡ line ∷ lines_of behind =
    ap lines_of parts ∙ slice_split_at (λ (byte : ℕ). byte == 10) line 10 behind plain refl in
    let cut = cut-lines input rest line (lines_of behind) passed lines is in
    (cut.0, sym (join_with_byte-slice_split 10 behind) ∙ cut.1)

-- also where it is the last line, without an LF
pub cut-at-end : (input rest : List ℕ) → IsPassed input rest → IsLine rest → is_trace_line rest ≡ true
    → (take (length input - length rest - 1) input ≡ script_part input) × ([] ≡ trace_part input)
cut-at-end input rest passed plain is =
    cut-lines input rest rest [] passed (slice_split_none (λ (byte : ℕ). byte == 10) rest plain) is

-- and there is no such line
pub cut-nowhere : (input rest : List ℕ) → IsPassed input rest → IsLine rest → is_trace_line rest ≡ false
    → (input ≡ script_part input) × ([] ≡ trace_part input)
cut-nowhere input rest passed plain other =
    let all : lines_of input ≡ passed.before ++ rest ∷ [] =
    passed.lines ∙ ap (λ (more : List (List ℕ)). passed.before ++ more) (slice_split_none (λ (byte : ℕ). byte == 10) rest plain) in
    let none : list_any is_trace_line (lines_of input) ≡ false =
    ap (list_any is_trace_line) all ∙ list_any-append is_trace_line passed.before (rest ∷ [])
    ∙ ap (λ (b : Bool). b || (is_trace_line rest || false)) passed.none ∙ ap (λ (b : Bool). b || false) other in
    let parts = alone input none in
    (sym parts.0, sym parts.1)
