-- The attempt that a create or write has open is the last on its object, in every run in range.
use Rattle.std.proofs.Common.{◌≡◌, List, Some}
use Rattle.cluster_script.specs.declared.statement.Statement.{Statement}
use Rattle.overlap_law.specs.MomentChanges.{MomentTrail, RunsAreInRange, KeptByChanges}
use Rattle.overlap_law.specs.OpenWorks.{OpenAttemptsAreLatest}
use Rattle.overlap_law.specs.Past.{MomentWithPast, run_with_past}
use Rattle.overlap_law.specs.TiedAttempts.{IsTied}
use Rattle.overlap_law.specs.Traffic.{OpenAttemptsHaveMessages}
use Rattle.overlap_law.proofs.ChangesKeepAttempts.{keeps_latest}
use Rattle.overlap_law.proofs.MakersApart.{makers_apart-after}
use Rattle.overlap_law.proofs.MessagesInMoments.{no_works, opening_has, change_has}
use Rattle.overlap_law.proofs.RunsByChanges.{on_the_way}
use Rattle.overlap_law.proofs.TiedInRuns.{opening_tied, change_tied}
use Rattle.overlap_law.proofs.WritersOfWorks.{works_may-after}
use Rattle.sheep_world.specs.RunsWithAsks.{Move}

record HasLatest (moment : MomentWithPast) : Type 0 where
  tied : IsTied moment
  messages : OpenAttemptsHaveMessages moment.world.hosts
  latest : OpenAttemptsAreLatest moment.world.hosts moment.past.attempts

module _ (script : List Statement) (range : RunsAreInRange script) where
  kept_latest : KeptByChanges script HasLatest
  kept_latest = record {
    opens = record {
      tied = opening_tied script;
      messages = opening_has script;
      latest = record { each = λ n host there up req work current got making stage. absurd (no_works script n host there req work got) };
    };
    keeps = λ start before after began change has.
        let messages = change_has script range start began change has.messages in
        record {
          tied = change_tied script range start before after began change has.tied;
          messages = messages;
          latest =
              keeps_latest script range start before after began change has.tied.incarnations messages
              (makers_apart-after script range start began change) (works_may-after script range start began change) has.latest;
        };
  }

  pub latest-in_run : (events : List Move) (start moment : MomentWithPast) → run_with_past script events ≡ Some start
      → MomentTrail script start moment → OpenAttemptsAreLatest moment.world.hosts moment.past.attempts
  latest-in_run events start moment is trail = (on_the_way script HasLatest kept_latest events start moment is trail).latest
