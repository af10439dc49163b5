-- In every run in range what is asked was asked in an epoch that its sender came to.
use Rattle.std.proofs.Common.{◌≡◌, List, Some}
use Rattle.cluster_script.specs.declared.statement.Statement.{Statement}
use Rattle.message_wire.specs.declared.packet.Packet.TheVariants.{Request}
use Rattle.message_wire.specs.Message.{message_name}
use Rattle.sheep_world.specs.Began.{Began}
use Rattle.sheep_world.specs.WireMatch.{asked_by}
use Rattle.sheep_world.specs.RunsWithAsks.{Move}
use Rattle.overlap_law.specs.Past.{MomentWithPast, run_with_past}
use Rattle.overlap_law.specs.Flight.{FlyInThePast, RequestsAreOfThePast}
use Rattle.overlap_law.specs.MomentChanges.{MomentChange, RunsAreInRange, KeptByChanges}
use Rattle.overlap_law.specs.TiedAttempts.{IsTied}
use Rattle.overlap_law.proofs.AttemptMessages.{contains_at}
use Rattle.overlap_law.proofs.EpochsRise.{epochs_rise}
use Rattle.overlap_law.proofs.NoRecoveredDue.{began-with_past}
use Rattle.overlap_law.proofs.PastAsks.{asks_in_past}
use Rattle.overlap_law.proofs.RunsByChanges.{run-kept}
use Rattle.overlap_law.proofs.TiedInRuns.{none_yet, kept_tied}
use Rattle.overlap_law.proofs.TrafficOfChanges.{traffic}
use Rattle.overlap_law.proofs.TrafficPast.{traffic_past}

module _ (script : List Statement) (range : RunsAreInRange script) where
  pub change_past : (start before after : MomentWithPast) → Began script start.world → MomentChange script start before after
      → IsTied before
      → FlyInThePast before.world.hosts before.world.wire → FlyInThePast after.world.hosts after.world.wire
  change_past start before after began change tied past =
      traffic_past before.world.hosts after.world.hosts before.world.wire before.past.attempts (epochs_rise script range start began change)
      tied.numbers.given past (traffic script range start began change)

  abbrev Holds : MomentWithPast → Type 0
  Holds moment = IsTied moment × FlyInThePast moment.world.hosts moment.world.wire

  kept_past : KeptByChanges script Holds
  kept_past =
      let tied = kept_tied script range in
      record {
        opens = (
          tied.opens,
          λ n host there number to request asking. absurd (none_yet script (message_name n number) (Request to asking.bytes) asking.there),
        );
        keeps = λ start before after began change holds. (
          tied.keeps start before after began change holds.0,
          change_past start before after began change holds.0 holds.1,
        );
      }

  pub past_in_run : (events : List Move) (moment : MomentWithPast) → run_with_past script events ≡ Some moment
      → RequestsAreOfThePast moment.world.hosts moment.world.wire
  past_in_run events moment is = record {
    flying = (run-kept script Holds kept_past events moment is).1;
    awaited = λ n host there up to request asks.
        (asks_in_past script range moment.world (began-with_past script events moment is) n host there).asked (to, request)
        (contains_at (asked_by host.node) asks.place (to, request) asks.among);
  }
