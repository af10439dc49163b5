-- In each run in range what open reads were given of good objects has what its tellers owed: at the end of every event, and on the way of
-- one, of what was good as it began.
use Rattle.std.proofs.Common.{◌≡◌, ℕ, Bool, true, false, List, [], ◌∷◌, ◌++◌, slice_get, Some, refl, sym, ap, ◌∙◌}
use Rattle.std.proofs.lemmas.Bool.{both_ways}
use Rattle.std.proofs.lemmas.Option.{same_Some}
use Rattle.object_id.specs.declared.policy.Policy.{Policy}
use Rattle.object_list.specs.Gathered.{has_node}
use Rattle.cluster_script.specs.declared.statement.Statement.{Statement}
use Rattle.peer_proto.specs.Work.{oid_of, policy_of}
use Rattle.sheep_node.specs.declared.event.Event.{Event}
use Rattle.sheep_world.specs.Began.{Began, MakesMove}
use Rattle.sheep_world.specs.Step.{EventOutcome}
use Rattle.sheep_world.specs.RunsWithAsks.{Move}
use Rattle.overlap_law.specs.Attempts.{AttemptRecord, object_of}
use Rattle.overlap_law.specs.Holders.{born_objects, is_object_among, targets_by}
use Rattle.overlap_law.specs.MomentChanges.{MomentTrail, TrailLeft, RunsAreInRange, Still, Then, AtEnd, Next}
use Rattle.overlap_law.specs.Past.{MomentWithPast, first_moment, moment_after, next_moment, run_on, run_with_past}
use Rattle.overlap_law.specs.StripReadsGiven.{GivenPiecesAreSince}
use Rattle.overlap_law.specs.ToldPieces.{offset_read}
use Rattle.overlap_law.proofs.BornFirst.{of_the_born}
use Rattle.overlap_law.proofs.CarriedRows.{good_at}
use Rattle.overlap_law.proofs.EndTests.{was_good}
use Rattle.overlap_law.proofs.MakingInRuns.{creates_first-in_run}
use Rattle.overlap_law.proofs.MessagesInMoments.{no_works}
use Rattle.overlap_law.proofs.MomentTrails.{event_trail}
use Rattle.overlap_law.proofs.ReadsToldTables.{left_from}
use Rattle.overlap_law.proofs.RunsByEvents.{run-kept_by_events}
use Rattle.overlap_law.proofs.RunsWithOneMore.{run_with_one_more}
use Rattle.overlap_law.proofs.StripReadsHeard.{IsGiven, AllGiven, given_after}
use Rattle.overlap_law.proofs.ToldPiecesInRuns.{none_owed, told_pieces-in_run, told_pieces-by_the_end}
use Rattle.overlap_law.proofs.GoingOn.{next_by}

-- so it says the conjunct
pub given_so : (good : ℕ → Bool) (moment : MomentWithPast) → AllGiven good moment
    → GivenPiecesAreSince moment.world.log good moment.world.hosts moment.past.attempts
given_so good moment all = record {
  each = λ n host there up req place work current message bytes of reads own is_good known.
      let given = all n host there up req place work current message bytes of reads own in
      let same : given.teller.policy ≡ policy_of work.work
      = same_Some given.teller.policy (policy_of work.work) (sym given.teller.made ∙ known) in (
        given.from,
        ap (λ (p : Policy). has_node given.from (targets_by moment.world.log current.epoch.0 (oid_of work.work) p)) (sym same)
            ∙ given.teller.target,
        given.since is_good known,
      );
}

module _ (script : List Statement) (range : RunsAreInRange script) where
  -- ---- over an event

  module _ (events : List Move) (event : Move) (start end : MomentWithPast) (run : run_with_past script events ≡ Some start)
      (happens : next_moment script event start ≡ Some end) where
    -- by the test of the end
    begins : AllGiven (good_at start) start → AllGiven (good_at end) start
    begins all n host there up req place work current message bytes of reads own =
        let had = all n host there up req place work current message bytes of reads own in
        record {
          from = had.from;
          teller = had.teller;
          since = λ is_good known.
              by_birth (is_object_among (oid_of work.work) (born_objects start.past.attempts)) refl
              (λ born. had.since (was_good script event start end happens (oid_of work.work) is_good born) known)
              (λ unborn. none_owed (policy_of work.work) (oid_of work.work) start.world.hosts start.past.attempts had.from message.index
              current.epoch.0 (offset_read work.work) bytes
              (λ j attempt at object. both_ways (is_object_among (oid_of work.work) (born_objects start.past.attempts)) unborn
              (ap (λ (oid : ℕ). is_object_among oid (born_objects start.past.attempts)) (sym object)
              ∙ of_the_born start.past.attempts (creates_first-in_run script range events start start run Still) j attempt at)));
        }
      where
        by_birth : {P : Type 0} (b : Bool) {c : Bool} → c ≡ b → (c ≡ true → P) → (c ≡ false → P) → P
        by_birth true is born unborn = born is
        by_birth false is born unborn = unborn is

    along : {moment : MomentWithPast} → MomentTrail script start moment → AllGiven (good_at end) start → AllGiven (good_at end) moment
    along Still all = all
    along (Then {moment} {next} trail change) all =
        given_after script range events start run (good_at end)
        (told_pieces-by_the_end script range events event start start end run happens Still
        (left_from script (event_trail script event start end happens) AtEnd)) moment next trail change (along trail all)

    event_keeps : AllGiven (good_at start) start → AllGiven (good_at end) end
    event_keeps all = along (event_trail script event start end happens) (begins all)

  -- ---- in every run

  abbrev HoldsInRun : MomentWithPast → Type 0
  HoldsInRun moment = (events : List Move) × (run_with_past script events ≡ Some moment) × AllGiven (good_at moment) moment

  opens : HoldsInRun (first_moment script)
  unfolding run_with_past run_on
  opens = (
    [],
    refl,
    λ n host there up req place work current message bytes of reads own. absurd (no_works script n host there req work of.there),
  )

  keeps : (event : Event) (before : MomentWithPast) (made : EventOutcome) → Began script before.world
      → MakesMove script event before.world made → HoldsInRun before → HoldsInRun (moment_after script event before made)
  keeps event before made began is holds =
      let after : MomentWithPast = moment_after script event before made in
      let next : next_moment script is.move before ≡ Some after = next_by script event before made is in (
        holds.0 ++ is.move ∷ [],
        run_with_one_more script event made holds.0 before is holds.1,
        event_keeps holds.0 is.move before after holds.1 next holds.2,
      )

  pub given-in_run : (events : List Move) (moment : MomentWithPast) → run_with_past script events ≡ Some moment
      → AllGiven (good_at moment) moment
  given-in_run events moment is = (run-kept_by_events script HoldsInRun opens keeps events moment is).2

  -- on the way of an event, of what was good as it began
  pub given-on_the_way : (events : List Move) (start moment : MomentWithPast) → run_with_past script events ≡ Some start
      → MomentTrail script start moment → AllGiven (good_at start) moment
  given-on_the_way events start moment run Still = given-in_run events start run
  given-on_the_way events start end run (Then {moment} {next} trail change) =
      given_after script range events start run (good_at start) (told_pieces-in_run script range events start run) moment next trail change
      (given-on_the_way events start moment run trail)
