-- Parts of what the program answers.
use Rattle.std.proofs.Common.{◌≡◌, ℕ, List, [], ◌++◌, refl, sym, ap, ◌∙◌, arith}
use Rattle.std.specs.Prelude.{codes, Option, Some, None, Result, Ok}
use Rattle.sheep.specs.Reading.{TakesAtMost}
use Rattle.cluster_script.specs.declared.fault.LineCause.{LineCause}
use Rattle.cluster_script.specs.Script.{script_in}
use Rattle.cluster_script.specs.declared.statement.Statement.{Statement}
use Rattle.schedule.specs.Schedule.{schedule_of}
use Rattle.schedule.specs.GeneratedScript.{generated_statements}
use Rattle.dog_report.specs.Words.{spaced_words}
use Rattle.dog_report.specs.Fates.{ReportLine}
use Rattle.dog_report.specs.Report.{report_of, report_text}
use Rattle.dog_report.specs.Counts.{generated_words}
use Rattle.dog_report.specs.ToldPart.{counts_of}
use Rattle.sheep.specs.declared.told_run.FinishedRun.{FinishedRun}
use Rattle.sheep.specs.ToldRun.{TellsRun}
use Rattle.sheep.specs.Answer.{generated_line, replayed_answer, trace_answer, replay_answer}
use Rattle.trace_text.specs.Lines.{lines_in, trace_lines}
use Rattle.trace_text.specs.InputParts.{script_part, trace_part}
use Rattle.trace_text.specs.Replay.{bad_place}
use Rattle.trace_text.proofs.InputPartLaws.{trace-part-lines}

abbrev read_as : List Statement → Result (List Statement) (ℕ × LineCause)
read_as statements = Ok statements

ok_same : (one other : List Statement) → read_as one ≡ read_as other → one ≡ other
ok_same one other same = cc

-- a text is read as one script
pub read-same : (text other : List ℕ) (statements more : List Statement) → script_in text ≡ Ok statements → text ≡ other
    → script_in other ≡ Ok more → statements ≡ more
read-same text other statements more read same again = ok_same statements more (sym read ∙ ap script_in same ∙ again)

-- the line of a generated script, from the report of its run
pub generated-told : (number : ℕ) (statements : List Statement) (finished : FinishedRun) (line : List ℕ) → statements ≡ generated_statements number
    → TellsRun statements (schedule_of statements number) finished
    → ((lines : List ReportLine) → finished.report.text ≡ report_text lines → finished.report.counts ≡ counts_of lines
    → line ≡ spaced_words (generated_words number lines) ++ codes "\n")
    → line ≡ generated_line number
generated-told number statements finished line same tells spelled =
    spelled (report_of statements (schedule_of statements number)) tells.text tells.counts
    ∙ ap (λ (statements : List Statement).
    spaced_words (generated_words number (report_of statements (schedule_of statements number))) ++ codes "\n") same

-- a script and a trace are the parts of an input
pub replayed-parts : (input text trace : List ℕ) (statements : List Statement) → text ≡ script_part input → trace ≡ trace_part input
    → script_in text ≡ Ok statements
    → replayed_answer statements (lines_in trace) (bad_place statements (lines_in trace)) ≡ replay_answer input
replayed-parts input text trace statements script behind read =
    ap (λ (lines : List (List ℕ)). replayed_answer statements lines (bad_place statements lines)) (ap lines_in behind ∙ trace-part-lines input)
    ∙ ap (trace_answer (trace_lines input)) (sym read ∙ ap script_in script)

-- where nothing is read, nothing is taken
pub takes-none : (left : Option (List ℕ)) (most : ℕ) → TakesAtMost most left left
takes-none None most = ([], tt, omega arith)
takes-none (Some bytes) most = ([], refl, omega arith)
