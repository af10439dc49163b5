-- The parts of an input are what a script is read from and what a replay goes through.
use Rattle.std.proofs.Common.{◌≡◌, ℕ, ◌+◌, Bool, true, false, ◌||◌, List, [], ◌∷◌, ◌++◌, map, codes, Option, Result, Ok, Err, refl, sym, ap, ◌∙◌, arith, append_assoc}
use Rattle.std.specs.List.{list_any, AllByRecursion, join_with_byte, before_first, after_first}
use Rattle.std.proofs.lemmas.List.Splits.{join_with_byte-slice_split}
use Rattle.std.proofs.lemmas.Slice.Eq.{bytes_eq-Decides}
use Rattle.cluster_script.specs.declared.statement.Statement.{Statement}
use Rattle.cluster_script.specs.declared.fault.LineCause.{LineCause}
use Rattle.cluster_script.specs.declared.fault.LineCause.TheVariants as causes
use Rattle.cluster_script.specs.Statements.{is_cluster, has}
use Rattle.cluster_script.specs.Words.{lines_of}
use Rattle.cluster_script.specs.Script.{StatementReader, statement_behind_cluster, statement_at, statement_of_words, line_at, with_statement, script_of, script_in}
use Rattle.cluster_script.specs.ClusterLines.{barrier_at, happening_at}
use Rattle.cluster_script.proofs.LineSteps.{script_ends, script_takes, script_stops}
use Rattle.cluster_script.proofs.WritingLemmas.{joined-text}
use Rattle.sheep_node.specs.declared.event.Event.{Event}
use Rattle.trace_text.specs.Spelling.{event_text, trace_text_of}
use Rattle.trace_text.specs.EventReading.{IsNamed}
use Rattle.trace_text.specs.Lines.{whole_lines, lines_in, is_trace_line, script_lines, trace_lines}
use Rattle.trace_text.specs.InputParts.{script_part, trace_part}
use Rattle.trace_text.proofs.LineLaws.{IsLine, lines-are-texts}
use Rattle.trace_text.proofs.PartLemmas.{lines-plain, joined-lines, lines-append, before_first-at, after_first-at, All-before_first, All-after_first}

-- a script, the line and a trace
abbrev pub put_together : List ℕ → List ℕ → List ℕ
put_together script trace = script ++ codes "\ntrace\n" ++ trace

put-together-lines : (script trace : List ℕ) → lines_of (put_together script trace) ≡ lines_of script ++ codes "trace" ∷ lines_of trace
put-together-lines script trace =
    ap lines_of (append_assoc script (codes "\ntrace\n") trace) ∙ lines-append script (codes "trace\n" ++ trace)

-- what was put together is parted so again
pub parted-again : (script trace : List ℕ) → list_any is_trace_line (lines_of script) ≡ false
    → (script_part (put_together script trace) ≡ script) × (trace_part (put_together script trace) ≡ trace)
parted-again script trace none = (
  ap (join_with_byte 10)
      (ap (before_first is_trace_line) (put-together-lines script trace)
      ∙ before_first-at is_trace_line (lines_of script) (codes "trace") (lines_of trace) none refl)
      ∙ join_with_byte-slice_split 10 script,
  ap (join_with_byte 10)
      (ap (after_first is_trace_line) (put-together-lines script trace)
      ∙ after_first-at is_trace_line (lines_of script) (codes "trace") (lines_of trace) none refl)
      ∙ join_with_byte-slice_split 10 trace,
)

-- joined lines are read as they are, also where there are none
joined-script : (reader : StatementReader) (lines : List (List ℕ)) → AllByRecursion IsLine lines
    → script_of reader [] 1 (lines_of (join_with_byte 10 lines)) ≡ script_of reader [] 1 lines
unfolding script_of
joined-script reader [] plain = script_ends reader [] 1
joined-script reader (line ∷ lines) plain = ap (script_of reader [] 1) (joined-lines (line ∷ lines) (omega arith) plain)

joined-trace : (lines : List (List ℕ)) → AllByRecursion IsLine lines → lines_in (join_with_byte 10 lines) ≡ whole_lines lines
joined-trace [] plain = refl
joined-trace (line ∷ lines) plain = ap whole_lines (joined-lines (line ∷ lines) (omega arith) plain)

-- the script is read from the lines before the line `trace`
pub script-part-read : (reader : StatementReader) (input : List ℕ)
    → script_of reader [] 1 (lines_of (script_part input)) ≡ script_of reader [] 1 (script_lines input)
script-part-read reader input =
    joined-script reader (script_lines input) (All-before_first is_trace_line IsLine (lines_of input) (lines-plain input))

-- the lines of the trace are those behind it
pub trace-part-lines : (input : List ℕ) → lines_in (trace_part input) ≡ trace_lines input
trace-part-lines input =
    joined-trace (after_first is_trace_line (lines_of input)) (All-after_first is_trace_line IsLine (lines_of input) (lines-plain input))

-- an LF at the end makes no statement
last-feed : (reader : StatementReader) (lines : List (List ℕ)) (before : List Statement) (number : ℕ)
    → script_of reader before number (lines ++ [] ∷ []) ≡ script_of reader before number lines
unfolding script_of
last-feed reader [] before number = script_ends reader before number
last-feed reader (line ∷ lines) before number = by_line (last-feed reader lines) (line_at reader before line) refl
  where
    by_line : ((after : List Statement) (n : ℕ) → script_of reader after n (lines ++ [] ∷ []) ≡ script_of reader after n lines)
        → (read : Result (Option Statement) LineCause) → line_at reader before line ≡ read
        → script_of reader before number (line ∷ lines ++ [] ∷ []) ≡ script_of reader before number (line ∷ lines)
    by_line later (Ok s) e =
        script_takes reader before number line (lines ++ [] ∷ []) s e
        ∙ later (with_statement before s) (number + 1)
        ∙ sym (script_takes reader before number line lines s e)
    by_line later (Err cause) e =
        script_stops reader before number line (lines ++ [] ∷ []) cause e ∙ sym (script_stops reader before number line lines cause e)

pub ended-read : (reader : StatementReader) (text : List ℕ)
    → script_of reader [] 1 (lines_of (text ++ codes "\n")) ≡ script_of reader [] 1 (lines_of text)
ended-read reader text = ap (script_of reader [] 1) (lines-append text []) ∙ last-feed reader (lines_of text) [] 1

-- the line `trace` is no statement
trace-is-bad : (before : List Statement) → line_at statement_at before (codes "trace") ≡ Err causes.Word
unfolding line_at statement_of_words statement_at statement_behind_cluster happening_at barrier_at
trace-is-bad before = rw (joined-text (codes "trace" ∷ []) refl) (by_cluster (has is_cluster before) refl)
  where
    by_cluster : (b : Bool) → has is_cluster before ≡ b → statement_of_words statement_at before (codes "trace" ∷ []) ≡ Err causes.Word
    by_cluster true e = rw e refl
    by_cluster false e = rw e refl

-- so no line of a script is
no-trace : (lines : List (List ℕ)) (before : List Statement) (number : ℕ) (statements : List Statement)
    → script_of statement_at before number lines ≡ Ok statements → list_any is_trace_line lines ≡ false
unfolding script_of
no-trace [] before number statements taken = refl
no-trace (line ∷ lines) before number statements taken =
    by_line (no-trace lines) (line_at statement_at before line) refl (is_trace_line line) refl
  where
    by_line : ((after : List Statement) (n : ℕ) (found : List Statement) → script_of statement_at after n lines ≡ Ok found
        → list_any is_trace_line lines ≡ false)
        → (read : Result (Option Statement) LineCause) → line_at statement_at before line ≡ read
        → (is_trace : Bool) → is_trace_line line ≡ is_trace → (is_trace || list_any is_trace_line lines) ≡ false
    by_line later (Ok s) e true is =
        let bad : line_at statement_at before line ≡ Err causes.Word =
        ap (line_at statement_at before) ((bytes_eq-Decides line (codes "trace")).0 is) ∙ trace-is-bad before in
        let both : Ok s ≡ Err causes.Word = sym e ∙ bad in
        absurd (cc)
    by_line later (Ok s) e false is =
        later (with_statement before s) (number + 1) statements (sym (script_takes statement_at before number line lines s e) ∙ taken)
    by_line later (Err cause) e is_trace is =
        let stopped : Err (number, cause) ≡ Ok statements = sym (script_stops statement_at before number line lines cause e) ∙ taken in
        absurd (cc)

pub script-has-none : (text : List ℕ) (statements : List Statement) → script_in text ≡ Ok statements
    → list_any is_trace_line (lines_of text) ≡ false
script-has-none text statements read = no-trace (lines_of text) [] 1 statements read

-- a script with a trace behind it is read as the script, and its trace has a line for each event
pub printed-again : (text : List ℕ) (statements : List Statement) (events : List Event) → script_in text ≡ Ok statements
    → AllByRecursion IsNamed events
    → (script_in (script_part (put_together text (trace_text_of events))) ≡ Ok statements)
    × (trace_lines (put_together text (trace_text_of events)) ≡ map event_text events)
printed-again text statements events read named =
    let parts = parted-again text (trace_text_of events) (script-has-none text statements read) in (
      ap script_in parts.0 ∙ read,
      sym (trace-part-lines (put_together text (trace_text_of events))) ∙ ap lines_in parts.1 ∙ lines-are-texts events named,
    )
