-- What a call on threads answers, and what it did, by the status that it ended with.
use Rattle.std.specs.Prelude.{◌≡◌, ℕ, Bool, true, false, List, length, nat_lt, Option, None, Some, Result, Ok, Err}
use Rattle.object_id.specs.declared.limits.TheConstants.{INPUT_BYTES_MAX}
use Rattle.cluster_script.specs.declared.fault.LineCause.{LineCause}
use Rattle.cluster_script.specs.declared.statement.Statement.{Statement}
use Rattle.cluster_script.specs.Script.{script_in}
use Rattle.disk_history.specs.declared.event.HistEvent.{HistEvent}
use Rattle.sheep_node.specs.declared.event.Event.{Event}
use Rattle.sheep_world.specs.Run.{IsWholeRun}
use Rattle.schedule.specs.Merged.{Kept, IsMergeOf}
use Rattle.sheep_words.specs.declared.mode.Mode.{Mode}
use Rattle.sheep_words.specs.declared.mode.Mode.TheVariants.{Run, Replay, Gen, Live}
use Rattle.sheep.specs.declared.answer.Answer.{Answer}
use Rattle.sheep.specs.declared.status.Status.TheVariants as statuses
use Rattle.sheep.specs.Reading.{Reads, ReadsAll}
use Rattle.sheep.specs.Answer.{bad_script_answer, bad_words_answer, printed_text, too_long_text}
use Rattle.sheep.specs.Outcome.{MakesRun, HasInput}

-- ---- the answer

-- a text is the report of a whole run of a script, into which what was kept merges, and the run's trace behind it where that is asked for
pub record TellsMerged (trace : Bool) (statements : List Statement) (kept : Kept) (text : List ℕ) : Type 0 where
  pub events : List Event
  pub merged : IsMergeOf statements kept events
  pub whole : IsWholeRun statements events
  pub told : text ≡ printed_text trace statements events

-- to a script, or to a text that is none
abbrev pub AnswersScript : Bool → Kept → Result (List Statement) (ℕ × LineCause) → Answer → Type 0
AnswersScript trace kept (Ok statements) answer = (answer.status ≡ statuses.Done) × TellsMerged trace statements kept answer.text
AnswersScript trace kept (Err bad) answer = answer ≡ bad_script_answer bad

-- to an input, by whether it is too long
abbrev pub AnswersTaken : Bool → Kept → List ℕ → Answer → Bool → Type 0
AnswersTaken trace kept input answer true = answer ≡ record { status = statuses.TooLong; text = too_long_text }
AnswersTaken trace kept input answer false = AnswersScript trace kept (script_in input) answer

-- to what was taken of the source
abbrev pub AnswersOnThreads : Bool → Kept → Option (List ℕ) → Option (List ℕ) → Answer → Type 0
AnswersOnThreads trace kept old new answer =
    (taken : List ℕ) × Reads old new taken × AnswersTaken trace kept taken answer (nat_lt INPUT_BYTES_MAX (length taken))

-- words that don't ask for threads are refused before anything is read
abbrev pub RefusesWords : Option (List ℕ) → Option (List ℕ) → Answer → Type 0
RefusesWords old new answer = (answer ≡ bad_words_answer) × (new ≡ old)

-- the answer of a call whose words ask for this mode
abbrev pub AnswersLiveCall : Option Mode → Kept → Option (List ℕ) → Option (List ℕ) → Answer → Type 0
AnswersLiveCall None kept old new answer = RefusesWords old new answer
AnswersLiveCall (Some (Run seed trace)) kept old new answer = RefusesWords old new answer
AnswersLiveCall (Some Replay) kept old new answer = RefusesWords old new answer
AnswersLiveCall (Some (Gen number)) kept old new answer = RefusesWords old new answer
AnswersLiveCall (Some (Live trace)) kept old new answer = AnswersOnThreads trace kept old new answer

-- ---- what was done

-- whether a call on threads takes these words
abbrev pub takes_live : Option Mode → Bool
takes_live None = false
takes_live (Some (Run seed trace)) = false
takes_live (Some Replay) = false
takes_live (Some (Gen number)) = false
takes_live (Some (Live trace)) = true

module _ (Given : List ℕ → Type 0) (old new : Option (List ℕ)) where
  -- the input is a script, and the sink was given the report of a whole run of it, into which what was kept merges
  abbrev pub RunsOnThreads : Bool → Kept → Type 0
  RunsOnThreads trace kept = (input : List ℕ) × (statements : List Statement) × (events : List Event) × (history : List HistEvent)
      × ReadsAll old new input × (script_in input ≡ Ok statements) × IsMergeOf statements kept events
      × MakesRun statements events history × Given (printed_text trace statements events)

  -- what the words ask for was done
  abbrev pub IsLiveDone : Option Mode → Kept → Type 0
  IsLiveDone None kept = ⊥
  IsLiveDone (Some (Run seed trace)) kept = ⊥
  IsLiveDone (Some Replay) kept = ⊥
  IsLiveDone (Some (Gen number)) kept = ⊥
  IsLiveDone (Some (Live trace)) kept = RunsOnThreads trace kept

-- the source has a script that is to run on threads
abbrev pub CanLive : Option Mode → Option (List ℕ) → Type 0
CanLive None left = ⊥
CanLive (Some (Run seed trace)) left = ⊥
CanLive (Some Replay) left = ⊥
CanLive (Some (Gen number)) left = ⊥
CanLive (Some (Live trace)) left =
    (input : List ℕ) × (statements : List Statement) × HasInput left input × (script_in input ≡ Ok statements)
