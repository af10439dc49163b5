-- The invariant of the epoch overlap: the whole of it, over the parts of a moment; and what it gives.
use Rattle.std.specs.Prelude.{◌≡◌, ℕ, Bool, true, List, Some}
use Rattle.vdi_directory.specs.Decisions.{log_effects}
use Rattle.cluster_script.specs.declared.statement.Statement.{Statement}
use Rattle.sheep_node.specs.declared.event.Event.{Event}
use Rattle.sheep_world.specs.Step.{EventOutcome}
use Rattle.sheep_world.specs.RunsWithAsks.{Move}
use Rattle.sheep_world.specs.Began.{MakesMove}
use Rattle.overlap_law.specs.Holders.{targets_by, is_live_object, is_good, is_available_disk}
use Rattle.overlap_law.specs.Past.{MomentWithPast, run_with_past}
use Rattle.overlap_law.specs.MomentChanges.{RunsAreInRange}
use Rattle.overlap_law.specs.Facts.{MeetsFacts}
use Rattle.overlap_law.specs.Headline.{IsLegalWhereAvailable, RefusedHaveNoItems, RefusedMakeNothing, ledger_of}
use Rattle.overlap_law.specs.NoObjects.{NothingIsLacked, NoObjectIsMissing}
use Rattle.overlap_law.specs.RequestsOfScript.{RequestsAreTheScripts, AttemptsAreTheScripts, TheRefusedAreAnswered, JoinsAreNew}
use Rattle.overlap_law.specs.Groups.{FlightIsKept, AttemptsAreKept, WritersAreKept, TermsAreKept, RowsAreKept, SearchesAreKept}
use Rattle.overlap_law.specs.Groups.{TablesAreKept, WrittenIsKept, PiecesAreKept, CoursesAreKept}

-- the whole, of the objects that a test calls live and good, and of the ids that one calls good: the groups, and that the replies so far
-- are legal and refused requests change nothing
pub record OverlapAt (live good good_id : ℕ → Bool) (moment : MomentWithPast) : Type 0 where
  pub flight : FlightIsKept moment.world.log moment.world.hosts moment.world.wire moment.past.attempts
  pub attempts : AttemptsAreKept (targets_by moment.world.log) moment.world.log moment.world.hosts moment.world.wire
      moment.past.refused moment.past.lost moment.past.attempts
  pub writers : WritersAreKept moment.world.log moment.world.hosts moment.world.wire moment.past.attempts
  pub terms : TermsAreKept moment.world.log moment.world.hosts
  pub rows : RowsAreKept (targets_by moment.world.log) moment.world.log (log_effects moment.world.log) live good moment.world.hosts
      moment.past.attempts
  pub searches : SearchesAreKept (targets_by moment.world.log) moment.world.log (log_effects moment.world.log) live good moment.past.listed
      moment.world.hosts moment.world.wire moment.past.attempts
  pub tables : TablesAreKept moment.world.log (log_effects moment.world.log) live good_id moment.world.hosts moment.past.attempts
  pub written : WrittenIsKept (ledger_of moment.past.history) (log_effects moment.world.log) good_id moment.world.hosts
      moment.past.attempts
  pub courses : CoursesAreKept moment.world.log (log_effects moment.world.log) good_id moment.world.hosts moment.past.attempts
  pub pieces : PiecesAreKept (ledger_of moment.past.history) (log_effects moment.world.log) good_id moment.world.hosts moment.past.attempts
  pub lacked : NothingIsLacked (log_effects moment.world.log) good_id moment.world.hosts moment.world.wire
  pub legal : IsLegalWhereAvailable moment.past
  pub no_items : RefusedHaveNoItems moment.past.refused moment.past.history
  pub nothing_made : RefusedMakeNothing moment.past.refused moment.past.lost moment.past.attempts

-- a test that calls fewer so than another
abbrev pub CallsFewer : (ℕ → Bool) → (ℕ → Bool) → Type 0
CallsFewer few many = (number : ℕ) → few number ≡ true → many number ≡ true

-- the whole, of what is live and good at the moment
abbrev pub Overlap : MomentWithPast → Type 0
Overlap moment = OverlapAt (is_live_object moment.world.log moment.past.attempts)
    (is_good moment.world.log moment.past.attempts moment.past.unavailable) (is_available_disk moment.world.log moment.past.unavailable)
    moment

-- the invariant of a run of a script, whose requests the gateways have
pub record OverlapOf (script : List Statement) (moment : MomentWithPast) : Type 0 where
  pub overlap : Overlap moment
  pub asked : RequestsAreTheScripts script moment.world
  pub began : AttemptsAreTheScripts script moment.past.attempts
  pub answered : TheRefusedAreAnswered script moment.world moment.past.refused
  pub joins : JoinsAreNew script moment.world

-- by the tests for what is live and good at another moment
abbrev pub OverlapByTests : MomentWithPast → MomentWithPast → Type 0
OverlapByTests other moment = OverlapAt (is_live_object other.world.log other.past.attempts)
    (is_good other.world.log other.past.attempts other.past.unavailable) (is_available_disk other.world.log other.past.unavailable) moment

-- what it gives: the six facts, and that the replies are legal
pub record GivesFacts (moment : MomentWithPast) : Type 0 where
  pub facts : MeetsFacts moment.world moment.past
  pub legal : IsLegalWhereAvailable moment.past

-- the invariant gives the facts and the legality of the replies, in each run of a script in range
abbrev pub OverlapGivesFacts : List Statement → Type 0
OverlapGivesFacts script = RunsAreInRange script → (moves : List Move) (moment : MomentWithPast)
    → run_with_past script moves ≡ Some moment → Overlap moment → GivesFacts moment

-- in a run in range it gives that no object is missing, at each event or client's read that may come next
abbrev pub OverlapGivesObjects : List Statement → Type 0
OverlapGivesObjects script = RunsAreInRange script → (moves : List Move) (before : MomentWithPast) (event : Event) (made : EventOutcome)
    → run_with_past script moves ≡ Some before → Overlap before → MakesMove script event before.world made
    → NoObjectIsMissing script before made
