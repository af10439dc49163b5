-- The script and the trace of an input are no longer than the input.
use Rattle.std.proofs.Common.{◌≡◌, ℕ, suc, ◌+◌, ◌≤◌, Bool, true, false, List, [], ◌∷◌, ◌++◌, length, refl, sym, ap, subst, arith, length-append}
use Rattle.std.specs.List.{join_with_byte, before_first, after_first}
use Rattle.std.proofs.lemmas.List.Splits.{join_with_byte-slice_split}
use Rattle.cluster_script.specs.Words.{lines_of}
use Rattle.trace_text.specs.Lines.{is_trace_line}
use Rattle.trace_text.specs.InputParts.{script_part, trace_part}
use Rattle.trace_text.proofs.PartLemmas.{before_first-here, before_first-later, after_first-here, after_first-later}

-- one line more makes a text longer by the line and an LF, at the most
joined-cons : (line : List ℕ) (lines : List (List ℕ)) → length (join_with_byte 10 (line ∷ lines)) ≤ length line + suc (length (join_with_byte 10 lines))
joined-cons line [] = omega arith
joined-cons line (next ∷ lines) = omega (arith, length-append line (10 ∷ join_with_byte 10 (next ∷ lines)))

-- and by no less, where others follow
joined-more : (line next : List ℕ) (lines : List (List ℕ))
    → length (join_with_byte 10 (line ∷ next ∷ lines)) ≡ length line + suc (length (join_with_byte 10 (next ∷ lines)))
joined-more line next lines = length-append line (10 ∷ join_with_byte 10 (next ∷ lines))

module _ (test : List ℕ → Bool) where
  front-shorter : (lines : List (List ℕ)) → length (join_with_byte 10 (before_first test lines)) ≤ length (join_with_byte 10 lines)
  front-shorter [] = omega arith
  front-shorter (line ∷ []) = by_test (test line) refl
    where
      by_test : (found : Bool) → test line ≡ found → length (join_with_byte 10 (before_first test (line ∷ []))) ≤ length (join_with_byte 10 (line ∷ []))
      by_test true e = subst (λ (front : List (List ℕ)). length (join_with_byte 10 front) ≤ length line) (sym (before_first-here test line [] e)) (omega arith)
      by_test false e =
          subst (λ (front : List (List ℕ)). length (join_with_byte 10 front) ≤ length line) (sym (before_first-later test line [] e)) (omega arith)
  front-shorter (line ∷ next ∷ lines) = by_test (front-shorter (next ∷ lines)) (test line) refl
    where
      by_test : length (join_with_byte 10 (before_first test (next ∷ lines))) ≤ length (join_with_byte 10 (next ∷ lines))
          → (found : Bool) → test line ≡ found
          → length (join_with_byte 10 (before_first test (line ∷ next ∷ lines))) ≤ length (join_with_byte 10 (line ∷ next ∷ lines))
      by_test shorter true e =
          subst (λ (front : List (List ℕ)). length (join_with_byte 10 front) ≤ length (join_with_byte 10 (line ∷ next ∷ lines)))
          (sym (before_first-here test line (next ∷ lines) e)) (omega arith)
      by_test shorter false e =
          subst (λ (front : List (List ℕ)). length (join_with_byte 10 front) ≤ length (join_with_byte 10 (line ∷ next ∷ lines)))
          (sym (before_first-later test line (next ∷ lines) e))
          (omega (arith, joined-cons line (before_first test (next ∷ lines)), joined-more line next lines, shorter))

  tail-shorter : (line : List ℕ) (lines : List (List ℕ)) → length (join_with_byte 10 lines) ≤ length (join_with_byte 10 (line ∷ lines))
  tail-shorter line [] = omega arith
  tail-shorter line (next ∷ lines) = omega (arith, joined-more line next lines)

  back-shorter : (lines : List (List ℕ)) → length (join_with_byte 10 (after_first test lines)) ≤ length (join_with_byte 10 lines)
  back-shorter [] = omega arith
  back-shorter (line ∷ lines) = by_test (back-shorter lines) (test line) refl
    where
      by_test : length (join_with_byte 10 (after_first test lines)) ≤ length (join_with_byte 10 lines)
          → (found : Bool) → test line ≡ found
          → length (join_with_byte 10 (after_first test (line ∷ lines))) ≤ length (join_with_byte 10 (line ∷ lines))
      by_test shorter true e =
          subst (λ (back : List (List ℕ)). length (join_with_byte 10 back) ≤ length (join_with_byte 10 (line ∷ lines)))
          (sym (after_first-here test line lines e)) (tail-shorter line lines)
      by_test shorter false e =
          subst (λ (back : List (List ℕ)). length (join_with_byte 10 back) ≤ length (join_with_byte 10 (line ∷ lines)))
          (sym (after_first-later test line lines e)) (omega (arith, tail-shorter line lines, shorter))

pub script_part-short : (input : List ℕ) (most : ℕ) → length input ≤ most → length (script_part input) ≤ most
script_part-short input most short =
    omega (arith, short, front-shorter is_trace_line (lines_of input), ap length (join_with_byte-slice_split 10 input))

pub trace_part-short : (input : List ℕ) (most : ℕ) → length input ≤ most → length (trace_part input) ≤ most
trace_part-short input most short =
    omega (arith, short, back-shorter is_trace_line (lines_of input), ap length (join_with_byte-slice_split 10 input))
