-- What the program answers: with which status it ends, and what it writes.
use Rattle.std.specs.Prelude.{◌≡◌, ℕ, Bool, List, [], ◌++◌, length, nat_lt, codes, decimal, Option, None, Some, Result, Ok, Err}
use Rattle.std.specs.Prelude.{if◌then◌else◌}
use Rattle.object_id.specs.declared.limits.TheConstants.{INPUT_BYTES_MAX}
use Rattle.cluster_script.specs.declared.fault.LineCause.{LineCause}
use Rattle.cluster_script.specs.declared.statement.Statement.{Statement}
use Rattle.cluster_script.specs.Causes.{number_of_cause}
use Rattle.cluster_script.specs.Script.{script_in}
use Rattle.sheep_node.specs.declared.event.Event.{Event}
use Rattle.schedule.specs.Schedule.{schedule_of}
use Rattle.schedule.specs.GeneratedScript.{generated_statements}
use Rattle.trace_text.specs.Spelling.{trace_text_of}
use Rattle.trace_text.specs.Lines.{trace_lines}
use Rattle.trace_text.specs.InputParts.{script_part}
use Rattle.trace_text.specs.Replay.{events_in, bad_place}
use Rattle.dog_report.specs.Words.{spaced_words}
use Rattle.dog_report.specs.Report.{report_of, report_text}
use Rattle.dog_report.specs.Counts.{generated_words}
use Rattle.sheep.specs.declared.answer.Answer.{Answer}
use Rattle.sheep.specs.declared.answer.Work.{Work}
use Rattle.sheep.specs.declared.answer.Work.TheVariants as works
use Rattle.sheep_words.specs.declared.mode.Mode.{Mode}
use Rattle.sheep_words.specs.declared.mode.Mode.TheVariants.{Run, Replay, Gen, Live}
use Rattle.sheep.specs.declared.status.Status.TheVariants as statuses
use Rattle.sheep.specs.Reading.{Reads}

-- ---- what is written

abbrev pub bad_words_text : List ℕ
bad_words_text = codes "bad words\n"

abbrev pub too_long_text : List ℕ
too_long_text = codes "too long\n"

-- for the first bad line, counted from 1
abbrev pub bad_line_text : ℕ → LineCause → List ℕ
bad_line_text line cause = codes "bad line " ++ decimal line ++ codes " cause " ++ decimal (number_of_cause cause) ++ codes "\n"

-- for the first bad line of a trace, counted from 1
abbrev pub bad_event_text : ℕ → List ℕ
bad_event_text place = codes "bad event " ++ decimal place ++ codes "\n"

-- the report of a run
abbrev pub told_text : List Statement → List Event → List ℕ
told_text statements events = report_text (report_of statements events)

-- and its trace behind it, where that is asked for
abbrev pub printed_text : Bool → List Statement → List Event → List ℕ
printed_text trace statements events =
    told_text statements events ++ (if trace then codes "trace\n" ++ trace_text_of events else [])

-- the line for the script that a number generates
abbrev pub generated_line : ℕ → List ℕ
generated_line number =
    spaced_words (generated_words number (report_of (generated_statements number) (schedule_of (generated_statements number) number)))
    ++ codes "\n"

-- ---- the answer to an input

abbrev pub done_answer : List ℕ → Answer
done_answer text = record { status = statuses.Done; text = text }

abbrev pub bad_script_answer : ℕ × LineCause → Answer
bad_script_answer bad = record { status = statuses.BadScript; text = bad_line_text bad.0 bad.1 }

-- of `run`: the script runs in the order that the seed gives
abbrev pub run_answer : ℕ → Bool → Result (List Statement) (ℕ × LineCause) → Answer
run_answer seed trace (Ok statements) = done_answer (printed_text trace statements (schedule_of statements seed))
run_answer seed trace (Err bad) = bad_script_answer bad

-- of a replay: the lines are a whole run, or the first that isn't bad is named
abbrev pub replayed_answer : List Statement → List (List ℕ) → Option ℕ → Answer
replayed_answer statements lines None = done_answer (told_text statements (events_in lines))
replayed_answer statements lines (Some place) = record { status = statuses.BadTrace; text = bad_event_text place }

-- the same, where the script may be bad
abbrev pub trace_answer : List (List ℕ) → Result (List Statement) (ℕ × LineCause) → Answer
trace_answer lines (Ok statements) = replayed_answer statements lines (bad_place statements lines)
trace_answer lines (Err bad) = bad_script_answer bad

-- of `replay`: the input is cut at its first line `trace`
abbrev pub replay_answer : List ℕ → Answer
replay_answer input = trace_answer (trace_lines input) (script_in (script_part input))

-- of what is done with an input that isn't too long
abbrev pub input_answer : Work → List ℕ → Answer
input_answer (works.Run seed trace) input = run_answer seed trace (script_in input)
input_answer works.Replay input = replay_answer input

-- the same of any input
abbrev pub answer_to : Work → List ℕ → Answer
answer_to work input =
    if nat_lt INPUT_BYTES_MAX (length input) then record { status = statuses.TooLong; text = too_long_text } else input_answer work input

-- of `gen`, which reads nothing
abbrev pub generated_answer : ℕ → Answer
generated_answer number = done_answer (generated_line number)

abbrev pub bad_words_answer : Answer
bad_words_answer = record { status = statuses.BadWords; text = bad_words_text }

-- ---- the answer of a call

-- the answer to what was taken of the source
abbrev pub AnswersInput : Work → Option (List ℕ) → Option (List ℕ) → Answer → Type 0
AnswersInput work old new answer = (taken : List ℕ) × Reads old new taken × (answer ≡ answer_to work taken)

-- the answer of a mode; threads have a call of their own
abbrev pub AnswersMode : Mode → Option (List ℕ) → Option (List ℕ) → Answer → Type 0
AnswersMode (Run seed trace) old new answer = AnswersInput (works.Run seed trace) old new answer
AnswersMode Replay old new answer = AnswersInput works.Replay old new answer
AnswersMode (Gen number) old new answer = (answer ≡ generated_answer number) × (new ≡ old)
AnswersMode (Live trace) old new answer = (answer ≡ bad_words_answer) × (new ≡ old)

-- the answer of a call whose words ask for this mode: words that ask for none are refused before anything is read
abbrev pub AnswersCall : Option Mode → Option (List ℕ) → Option (List ℕ) → Answer → Type 0
AnswersCall None old new answer = (answer ≡ bad_words_answer) × (new ≡ old)
AnswersCall (Some mode) old new answer = AnswersMode mode old new answer
