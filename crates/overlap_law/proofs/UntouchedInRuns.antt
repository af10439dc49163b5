-- In every run in range the attempts of a refused request are mute, no message of them was lost, and nothing of them is in flight.
use Rattle.std.proofs.Common.{◌≡◌, Bool, true, false, List, Some, refl}
use Rattle.cluster_script.specs.declared.statement.Statement.{Statement}
use Rattle.sheep_world.specs.Began.{Began}
use Rattle.sheep_world.specs.RunsWithAsks.{Move}
use Rattle.overlap_law.specs.Past.{MomentWithPast, moment_after, first_moment, run_with_past}
use Rattle.overlap_law.specs.Headline.{RefusedMakeNothing, has_lost}
use Rattle.overlap_law.specs.OpenWorks.{RefusedRequestsAreMute}
use Rattle.overlap_law.specs.RequestsOfScript.{AttemptsAreTheScripts}
use Rattle.overlap_law.specs.MomentChanges.{MomentTrail, Still, Then, RunsAreInRange}
use Rattle.overlap_law.proofs.AttemptsOfScript.{change_of_script}
use Rattle.overlap_law.proofs.DrivenInMoments.{RequestsHaveWorked, change_worked}
use Rattle.overlap_law.proofs.MomentTrails.{event_trail}
use Rattle.overlap_law.proofs.NoRecoveredDue.{began-with_past}
use Rattle.overlap_law.proofs.RefusedInRuns.{AreAnsweredAt, opens_answered, events_answered}
use Rattle.overlap_law.proofs.RefusedMute.{RefusedAreOver, change_over}
use Rattle.overlap_law.proofs.RunsByEvents.{KeptByEvents, run-kept_by_events}
use Rattle.overlap_law.proofs.TouchedInRuns.{HoldsAt, along_trail, opens_so, events_keep, lost_place}
use Rattle.overlap_law.proofs.GoingOn.{next_by}

module _ (script : List Statement) (range : RunsAreInRange script) where
  -- what holds of the refused in the middle of an event
  record HoldsToo (moment : MomentWithPast) : Type 0 where
    pub worked : RequestsHaveWorked moment
    pub scripts : AttemptsAreTheScripts script moment.past.attempts
    pub over : RefusedAreOver moment

  -- and at its end
  record HoldsThen (moment : MomentWithPast) : Type 0 where
    pub holds : HoldsAt script range moment
    pub answered : AreAnsweredAt script moment
    pub too : HoldsToo moment

  along : (start : MomentWithPast) → Began script start.world → HoldsThen start → {moment : MomentWithPast}
      → MomentTrail script start moment → HoldsToo moment
  along start began first Still = first.too
  along start began first (Then {moment} {next} trail change) =
      let too = along start began first trail in
      let before = along_trail script range start began first.holds trail in
      let after = along_trail script range start began first.holds (Then trail change) in
      let scripts = change_of_script script range start moment next began change too.scripts in
      record {
        worked = change_worked script range start began moment next change first.holds.started too.worked;
        scripts = scripts;
        over = change_over script range start moment next began
            (record { tied = first.holds.within.tied; lost = first.holds.within.lost; started = first.holds.started })
            first.answered.started change before.tied after.tied after.awaited before.due too.worked scripts too.over;
      }

  opens_then : HoldsThen (first_moment script)
  opens_then = record {
    holds = opens_so script range;
    answered = opens_answered script;
    too = record {
      worked = λ n host there up j attempt got. absurd (cc (got));
      scripts = record { each = λ j attempt got. absurd (cc (got)) };
      over = record {
        mute = record { mute = λ j attempt got. absurd (cc (got)); quiet = λ j attempt got. absurd (cc (got)) };
        unlost = λ j attempt got. absurd (cc (got));
        gone = λ n host there up req is. absurd (cc (is));
      };
    };
  }

  events_then : KeptByEvents script HoldsThen
  events_then event before made began is first = record {
    holds = events_keep script range event before made began is first.holds;
    answered = events_answered script event before made began is first.answered;
    too = along before began first (event_trail script is.move before (moment_after script event before made)
        (next_by script event before made is));
  }

  holds_then : (events : List Move) (moment : MomentWithPast) → run_with_past script events ≡ Some moment → HoldsThen moment
  holds_then = run-kept_by_events script HoldsThen opens_then events_then

  pub untouched-within : (events : List Move) (start moment : MomentWithPast) → run_with_past script events ≡ Some start
      → MomentTrail script start moment
      → RefusedRequestsAreMute moment.world.wire moment.past.refused moment.past.attempts
  untouched-within events start moment is trail =
      (along start (began-with_past script events start is) (holds_then events start is) trail).over.mute

  pub untouched-in_run : (events : List Move) (moment : MomentWithPast) → run_with_past script events ≡ Some moment
      → RefusedRequestsAreMute moment.world.wire moment.past.refused moment.past.attempts
  untouched-in_run events moment is = (holds_then events moment is).too.over.mute

  -- so no message of a refused request succeeded or was lost
  pub nothing_made-in_run : (events : List Move) (moment : MomentWithPast) → run_with_past script events ≡ Some moment
      → RefusedMakeNothing moment.past.refused moment.past.lost moment.past.attempts
  nothing_made-in_run events moment is j attempt got refused = record {
    none_succeeded = over.mute.mute j attempt got refused;
    none_lost = by_test (has_lost moment.past.lost attempt) refl;
  }
    where
      over : RefusedAreOver moment
      over = (holds_then events moment is).too.over

      by_test : (b : Bool) → has_lost moment.past.lost attempt ≡ b → has_lost moment.past.lost attempt ≡ false
      by_test false lost = lost
      by_test true lost =
          let (place, target, among, named) = lost_place moment.past.lost attempt lost in
          absurd (over.unlost j attempt got refused place target among named)
