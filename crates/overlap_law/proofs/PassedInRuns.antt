-- At each moment on the way of an event of a run in range the levels that a search has passed have rows of fewer indexes than a read needs.
use Rattle.std.proofs.Common.{◌≡◌, ℕ, Bool, true, List, Some, None, refl, ap}
use Rattle.cluster_script.specs.declared.statement.Statement.{Statement}
use Rattle.vdi_directory.specs.Decisions.{log_effects}
use Rattle.recovery.specs.State.{Recovery, still_on}
use Rattle.overlap_law.specs.Holders.{targets_by}
use Rattle.overlap_law.specs.MomentChanges.{MomentTrail, RunsAreInRange}
use Rattle.overlap_law.specs.Past.{MomentWithPast, first_moment, run_with_past}
use Rattle.overlap_law.specs.Searches.{PassedLevelsLackRows}
use Rattle.overlap_law.proofs.AnswerersInMoments.{opening_recovery}
use Rattle.overlap_law.proofs.KeptInRuns.{KeptOnTheWay, kept_on_the_way}
use Rattle.overlap_law.proofs.PassedChanges.{passed_after}
use Rattle.overlap_law.proofs.TrueRows.{rows_true-on_the_way}
use Rattle.sheep_world.specs.RunsWithAsks.{Move}

-- of every object
abbrev pub AllLackRows : MomentWithPast → Type 0
AllLackRows moment =
    PassedLevelsLackRows (targets_by moment.world.log) moment.world.log (log_effects moment.world.log)
    (λ (oid : ℕ). true) moment.world.hosts

module _ (script : List Statement) (range : RunsAreInRange script) where
  opens : AllLackRows (first_moment script)
  opens = record {
    each = λ n host there up search policy level on good_so policy_so above below.
        (let (me, same) = opening_recovery script n host there in
        let none : still_on host.node.peer.pending host.node.recovery.search ≡ None
        = ap (λ (r : Recovery). still_on host.node.peer.pending r.search) same in
        absurd (cc (none, on)));
  }

  keeps : KeptOnTheWay script AllLackRows
  keeps events start before after is trail change holds =
      passed_after script range events start before after is trail change (λ (oid : ℕ). true)
      (rows_true-on_the_way script range events start before is trail (λ (oid : ℕ). true)) holds

  pub passed-on_the_way : (events : List Move) (start moment : MomentWithPast) → run_with_past script events ≡ Some start
      → MomentTrail script start moment → (good : ℕ → Bool)
      → PassedLevelsLackRows (targets_by moment.world.log) moment.world.log (log_effects moment.world.log) good moment.world.hosts
  passed-on_the_way events start moment is trail good =
      let all : AllLackRows moment = kept_on_the_way script AllLackRows opens keeps events start moment is trail in
      record {
        each = λ n host there up search policy level on good_so policy_so above below.
            all.each n host there up search policy level on refl policy_so above below;
      }
