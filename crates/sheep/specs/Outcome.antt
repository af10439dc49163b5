-- What a call did, by the status that it ended with.
use Rattle.std.specs.Prelude.{◌≡◌, ⊤, ℕ, ◌≤◌, Bool, true, false, List, length, map, Option, None, Some, Ok, Err}
use Rattle.object_id.specs.declared.limits.TheConstants.{INPUT_BYTES_MAX}
use Rattle.cluster_script.specs.declared.fault.LineCause.{LineCause}
use Rattle.cluster_script.specs.declared.statement.Statement.{Statement}
use Rattle.cluster_script.specs.Script.{script_in}
use Rattle.disk_history.specs.declared.event.HistEvent.{HistEvent}
use Rattle.sheep_node.specs.declared.event.Event.{Event}
use Rattle.sheep_world.specs.Run.{IsWholeRun, history_of}
use Rattle.overlap_law.specs.HeadlineOfRuns.{RunKeepsHeadline}
use Rattle.schedule.specs.Schedule.{schedule_of}
use Rattle.schedule.specs.GeneratedScript.{generated_statements}
use Rattle.trace_text.specs.Spelling.{event_text}
use Rattle.trace_text.specs.Lines.{trace_lines}
use Rattle.trace_text.specs.InputParts.{script_part}
use Rattle.trace_text.specs.Replay.{bad_place}
use Rattle.sheep_words.specs.declared.mode.Mode.{Mode}
use Rattle.sheep_words.specs.declared.mode.Mode.TheVariants.{Run, Replay, Gen, Live}
use Rattle.sheep.specs.Reading.{ReadsAll}
use Rattle.sheep.specs.PrintedReplies.{PrintsReplies}
use Rattle.sheep.specs.PrintedReads.{DoneAreOnOpenDisks}
use Rattle.sheep.specs.Answer.{printed_text, told_text, generated_line, bad_line_text, bad_event_text}

-- whether a call with these words reads its source
abbrev pub reads_input : Option Mode → Bool
reads_input None = false
reads_input (Some (Run seed trace)) = true
reads_input (Some Replay) = true
reads_input (Some (Gen number)) = false
reads_input (Some (Live trace)) = false

-- whether a call takes these words; threads have a call of their own
abbrev pub takes_words : Option Mode → Bool
takes_words None = false
takes_words (Some (Run seed trace)) = true
takes_words (Some Replay) = true
takes_words (Some (Gen number)) = true
takes_words (Some (Live trace)) = false

-- events are a run of a script, in which every phase is ended, and made this history, in which the replies that its report prints were
-- given; each read, write and check that is printed as done is done there on an open disk; they are one legal history; and no object of a
-- disk that was available was missing, each check that wasn't refused left one value of each block that it went over, and no read is left
-- out of the history where few losses held
pub record MakesRun (statements : List Statement) (events : List Event) (history : List HistEvent) : Type 0 where
  pub whole : IsWholeRun statements events
  pub kept : history_of statements events ≡ Some history
  pub replies : PrintsReplies statements events history
  pub done : DoneAreOnOpenDisks statements events history
  pub headline : RunKeepsHeadline statements events history

module _ (Given : List ℕ → Type 0) (old new : Option (List ℕ)) where
  -- the input is a script, and the sink was given the report of the run that the seed gives, with the trace where it is asked for
  abbrev pub RunsScript : ℕ → Bool → Type 0
  RunsScript seed trace = (input : List ℕ) × (statements : List Statement) × (history : List HistEvent) × ReadsAll old new input
      × (script_in input ≡ Ok statements) × MakesRun statements (schedule_of statements seed) history
      × Given (printed_text trace statements (schedule_of statements seed))

  -- the input is a script with the trace of a whole run behind it, and the sink was given the report of this run
  abbrev pub ReplaysTrace : Type 0
  ReplaysTrace = (input : List ℕ) × (statements : List Statement) × (events : List Event) × (history : List HistEvent)
      × ReadsAll old new input × (script_in (script_part input) ≡ Ok statements) × (trace_lines input ≡ map event_text events)
      × MakesRun statements events history × Given (told_text statements events)

  -- nothing was read, and the sink was given the line of the script that the number generates, with the run that it gives as a seed
  abbrev pub TellsGenerated : ℕ → Type 0
  TellsGenerated number = (history : List HistEvent) × (new ≡ old)
      × MakesRun (generated_statements number) (schedule_of (generated_statements number) number) history × Given (generated_line number)

  -- what the words ask for was done
  abbrev pub IsDone : Option Mode → Type 0
  IsDone None = ⊥
  IsDone (Some (Run seed trace)) = RunsScript seed trace
  IsDone (Some Replay) = ReplaysTrace
  IsDone (Some (Gen number)) = TellsGenerated number
  IsDone (Some (Live trace)) = ⊥

  -- what should be a script isn't, and the sink was given the first bad line and its cause
  abbrev pub NamesBadLine : (List ℕ → List ℕ) → Type 0
  NamesBadLine script = (input : List ℕ) × (line : ℕ) × (cause : LineCause) × ReadsAll old new input
      × (script_in (script input) ≡ Err (line, cause)) × Given (bad_line_text line cause)

  -- the script of the input that the words ask for isn't one
  abbrev pub IsBadScript : Option Mode → Type 0
  IsBadScript None = ⊥
  IsBadScript (Some (Run seed trace)) = NamesBadLine (λ input. input)
  IsBadScript (Some Replay) = NamesBadLine script_part
  IsBadScript (Some (Gen number)) = ⊥
  IsBadScript (Some (Live trace)) = ⊥

  -- the input is a script with a trace behind it that is no whole run of it, and the sink was given the place of the first bad line
  abbrev pub NamesBadEvent : Type 0
  NamesBadEvent = (input : List ℕ) × (statements : List Statement) × (place : ℕ) × ReadsAll old new input
      × (script_in (script_part input) ≡ Ok statements) × (bad_place statements (trace_lines input) ≡ Some place)
      × Given (bad_event_text place)

-- a source has this input, which isn't too long
pub record HasInput (left : Option (List ℕ)) (input : List ℕ) : Type 0 where
  pub whole : left ≡ Some input
  pub short : length input ≤ INPUT_BYTES_MAX

-- what the words ask for can be done: the source has a script; or a script with the trace of a whole run behind it; or nothing is read
abbrev pub CanBeDone : Option Mode → Option (List ℕ) → Type 0
CanBeDone None left = ⊥
CanBeDone (Some (Run seed trace)) left = (input : List ℕ) × (statements : List Statement) × HasInput left input
    × (script_in input ≡ Ok statements)
CanBeDone (Some Replay) left = (input : List ℕ) × (statements : List Statement) × HasInput left input
    × (script_in (script_part input) ≡ Ok statements) × (bad_place statements (trace_lines input) ≡ None)
CanBeDone (Some (Gen number)) left = ⊤
CanBeDone (Some (Live trace)) left = ⊥
