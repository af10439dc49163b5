-- Parts of what a call on threads answers.
use Rattle.std.proofs.Common.{◌≡◌, ℕ, ◌<◌, ◌≤◌, Bool, List, length, sym, ap, subst}
use Rattle.std.specs.Prelude.{Option, Result, Ok, Err}
use Rattle.std.proofs.lemmas.Bool.{lt-ltb, le-ltb}
use Rattle.object_id.specs.declared.limits.TheConstants.{INPUT_BYTES_MAX}
use Rattle.cluster_script.specs.declared.fault.LineCause.{LineCause}
use Rattle.cluster_script.specs.declared.statement.Statement.{Statement}
use Rattle.cluster_script.specs.Script.{script_in}
use Rattle.sheep_node.specs.declared.event.Event.{Event}
use Rattle.sheep_world.specs.Run.{IsWholeRun}
use Rattle.schedule.specs.Merged.{Kept, IsMergeOf}
use Rattle.sheep.specs.declared.answer.Answer.{Answer}
use Rattle.sheep.specs.declared.status.Status.TheVariants as statuses
use Rattle.sheep.specs.Reading.{Reads}
use Rattle.sheep.specs.Answer.{printed_text, bad_script_answer, too_long_text}
use Rattle.sheep.specs.Live.{TellsMerged, AnswersScript, AnswersTaken, AnswersOnThreads}

-- a text tells a run into which what was kept merges
pub tells_printed : (trace : Bool) (statements : List Statement) (kept : Kept) (events : List Event) (text : List ℕ)
    → IsMergeOf statements kept events → IsWholeRun statements events → text ≡ printed_text trace statements events
    → TellsMerged trace statements kept text
tells_printed trace statements kept events text merged whole told = record { events = events; merged = merged; whole = whole; told = told }

-- the answer to a script
pub answers_done : (trace : Bool) (kept : Kept) (read : Result (List Statement) (ℕ × LineCause)) (statements : List Statement) (text : List ℕ)
    (answer : Answer) → read ≡ Ok statements → TellsMerged trace statements kept text → answer ≡ record { status = statuses.Done; text = text }
    → AnswersScript trace kept read answer
answers_done trace kept read statements text answer is tells same =
    subst (λ (r : Result (List Statement) (ℕ × LineCause)). AnswersScript trace kept r answer) (sym is)
    (ap (λ (a : Answer). a.status) same, subst (TellsMerged trace statements kept) (sym (ap (λ (a : Answer). a.text) same)) tells)

-- to a text that is none
pub answers_bad : (trace : Bool) (kept : Kept) (read : Result (List Statement) (ℕ × LineCause)) (bad : ℕ × LineCause) (answer : Answer)
    → read ≡ Err bad → answer ≡ bad_script_answer bad → AnswersScript trace kept read answer
answers_bad trace kept read bad answer is same =
    subst (λ (r : Result (List Statement) (ℕ × LineCause)). AnswersScript trace kept r answer) (sym is) same

-- to what was taken, where it isn't too long
pub answers_short : (trace : Bool) (kept : Kept) (old new : Option (List ℕ)) (taken : List ℕ) (answer : Answer) → Reads old new taken
    → length taken ≤ INPUT_BYTES_MAX → AnswersScript trace kept (script_in taken) answer → AnswersOnThreads trace kept old new answer
answers_short trace kept old new taken answer reads short script =
    (taken, reads, subst (AnswersTaken trace kept taken answer) (sym (le-ltb INPUT_BYTES_MAX (length taken) short)) script)

-- and where it is
pub answers_long : (trace : Bool) (kept : Kept) (old new : Option (List ℕ)) (taken : List ℕ) (answer : Answer) → Reads old new taken
    → INPUT_BYTES_MAX < length taken → answer ≡ record { status = statuses.TooLong; text = too_long_text }
    → AnswersOnThreads trace kept old new answer
answers_long trace kept old new taken answer reads long same =
    (taken, reads, subst (AnswersTaken trace kept taken answer) (sym (lt-ltb INPUT_BYTES_MAX (length taken) long)) same)
