-- The attempts on an object are in order, in every run in range.
use Rattle.std.proofs.Common.{◌≡◌, ℕ, List, [], ◌∷◌, ◌++◌, Some, sym, ap, ◌∙◌, arith}
use Rattle.std.specs.List.{slice_get}
use Rattle.std.specs.FinMap as tree
use Rattle.std.proofs.lemmas.Bool.{both_ways}
use Rattle.cluster_script.specs.declared.statement.Statement.{Statement}
use Rattle.sheep_world.specs.Began.{Began}
use Rattle.sheep_world.specs.RunsWithAsks.{Move}
use Rattle.overlap_law.specs.Attempts.{AttemptRecord}
use Rattle.overlap_law.specs.Fates.{AreInOrder, AttemptsAreOrdered}
use Rattle.overlap_law.specs.MomentChanges.{MomentChange, MomentTrail, RunsAreInRange, KeptByChanges}
use Rattle.overlap_law.specs.Packets.{is_name_in_wire, message_name_at, IsQuiet}
use Rattle.overlap_law.specs.Past.{MomentWithPast, run_with_past}
use Rattle.overlap_law.specs.Traffic.{BeginsInTurn}
use Rattle.overlap_law.proofs.ChangesKeepAttempts.{keeps_ordered}
use Rattle.overlap_law.proofs.EpochsRise.{epochs_rise}
use Rattle.overlap_law.proofs.GatewaysCame.{GatewaysCame, opened_epoch, gateways_come}
use Rattle.overlap_law.proofs.MakersApart.{makers_apart-after}
use Rattle.overlap_law.proofs.QuietAsOneBegins.{quiet_then}
use Rattle.overlap_law.proofs.RunsByChanges.{on_the_way}
use Rattle.overlap_law.proofs.TurnsInRuns.{HasOneWriter, kept_one, opened_at, begins_before}
use Rattle.overlap_law.proofs.TurnsOfWriters.{writer_in_turn}

record HasOrder (moment : MomentWithPast) : Type 0 where
  writers : HasOneWriter moment
  came : GatewaysCame moment.world.hosts moment.past.attempts
  ordered : AttemptsAreOrdered moment.world.wire moment.past.attempts

module _ (script : List Statement) (range : RunsAreInRange script) where
  module _ (start before after : MomentWithPast) (began : Began script start.world) (change : MomentChange script start before after)
      (has : HasOrder before)
      (attempt : AttemptRecord) (more : after.past.attempts ≡ before.past.attempts ++ attempt ∷ []) where
    in_order : (j : ℕ) (other : AttemptRecord) → slice_get before.past.attempts j ≡ Some other → other.gateway.0 ≡ attempt.gateway.0
        → IsQuiet before.world.wire other → AreInOrder before.world.wire other attempt
    in_order j other got gateway quiet =
        let (old, was_there) = has.writers.tied.there.each j other got in
        let (then, there, rises) = epochs_rise script range start began change other.gateway.0 old was_there in
        let is = opened_epoch script range start began change attempt (opened_at script range start began change attempt more) then
        (ap (tree.get after.world.hosts) (sym gateway) ∙ there) in
        let before_it = has.came j other got old was_there in
        record {
          epochs = omega (arith, rises, is, before_it);
          flying = λ place target packet.
              absurd (both_ways (is_name_in_wire before.world.wire (message_name_at other place)) (quiet.none place target packet.among)
              packet.there);
        }

  in_turn : (start before after : MomentWithPast) → Began script start.world → MomentChange script start before after → HasOrder before
      → BeginsInTurn before after
  in_turn start before after began change has = record {
    in_turn = λ attempt more.
        writer_in_turn before.world.log before.world.wire before.past.attempts attempt
        (record {
          under = begins_before script range start began change attempt more;
          behind = λ j other got object gateway session since.
              in_order start before after began change has attempt more j other got gateway
              (quiet_then script range start before after began change (makers_apart-after script range start began change) has.writers
              attempt more j other got object gateway);
        }) has.writers.one;
  }

  kept_order : KeptByChanges script HasOrder
  kept_order = record {
    opens = record {
      writers = (kept_one script range).opens;
      came = λ j attempt got. absurd (cc (got));
      ordered = record { each = λ j first got. absurd (cc (got)) };
    };
    keeps = λ start before after began change has. record {
      writers = (kept_one script range).keeps start before after began change has.writers;
      came = gateways_come script range start began change has.writers.tied has.came;
      ordered = keeps_ordered script range start before after began change has.writers.tied.incarnations
          (in_turn start before after began change has) has.ordered;
    };
  }

  pub ordered-in_run : (events : List Move) (start moment : MomentWithPast) → run_with_past script events ≡ Some start
      → MomentTrail script start moment → AttemptsAreOrdered moment.world.wire moment.past.attempts
  ordered-in_run events start moment is trail = (on_the_way script HasOrder kept_order events start moment is trail).ordered
