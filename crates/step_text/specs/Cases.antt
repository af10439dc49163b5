-- What is told of a case: how its trace ends, or why nothing is.
use Rattle.std.specs.Prelude.{◌≡◌, ◌⊎◌, ℕ, ◌<◌, false, List, length, Contains, None, Ok, Err}
use Rattle.object_id.specs.declared.limits.TheConstants.{INPUT_BYTES_MAX}
use Rattle.cluster_script.specs.declared.fault.LineCause.{LineCause}
use Rattle.cluster_script.specs.declared.statement.Statement.{Statement}
use Rattle.cluster_script.specs.Script.{script_in}
use Rattle.sheep_world.specs.Opening.{initial_world}
use Rattle.sheep_world.specs.SpentWorld.{WorldOrSpent}
use Rattle.trace_text.specs.EventReading.{event_in}
use Rattle.trace_text.specs.InputParts.{script_part, trace_part}
use Rattle.trace_text.specs.Lines.{lines_in}
use Rattle.step_text.specs.Traces.{AreTaken}

-- a text is no script, or is longer than one may be
abbrev pub IsNoScript : List ℕ → Type 0
IsNoScript text = (INPUT_BYTES_MAX < length text) ⊎ ((bad : ℕ × LineCause) × (script_in text ≡ Err bad))

-- one of the lines is no event
abbrev pub HasNoEvent : List (List ℕ) → Type 0
HasNoEvent lines = (line : List ℕ) × Contains lines line × (event_in line ≡ None)

-- the lines of a trace, taken from the opening world on, end with a world
pub record HasEnd (statements : List Statement) (lines : List (List ℕ)) : Type 0 where
  pub now : WorldOrSpent
  pub taken : AreTaken statements lines (record { spent = false; world = initial_world statements }) now

-- a text is a script and its trace: each line of the trace is an event or a client's, and was taken from the opening world of the script on
pub record IsCase (text : List ℕ) : Type 0 where
  pub statements : List Statement
  pub script : script_in (script_part text) ≡ Ok statements
  pub end : HasEnd statements (lines_in (trace_part text))
