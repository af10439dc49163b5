-- In every run in range, at each moment on the way of an event, an inode that a session is to have open once it is published may come to
-- have its table alone.
use Rattle.std.proofs.Common.{◌≡◌, List, Some}
use Rattle.cluster_script.specs.declared.statement.Statement.{Statement}
use Rattle.vdi_directory.specs.Decisions.{log_effects}
use Rattle.overlap_law.specs.MomentChanges.{MomentTrail, RunsAreInRange}
use Rattle.overlap_law.specs.Past.{MomentWithPast, first_moment, run_with_past}
use Rattle.overlap_law.specs.ToCome.{PublishedTablesStay}
use Rattle.overlap_law.proofs.OpeningOverlap.{no_request}
use Rattle.overlap_law.proofs.PublishedKept.{published_kept}
use Rattle.overlap_law.proofs.KeptInRuns.{kept_on_the_way}
use Rattle.sheep_world.specs.RunsWithAsks.{Move}

abbrev HavePublished : MomentWithPast → Type 0
HavePublished moment = PublishedTablesStay (log_effects moment.world.log) moment.world.hosts moment.past.attempts

module _ (script : List Statement) (range : RunsAreInRange script) where
  opens : HavePublished (first_moment script)
  opens = record {
    each = λ n host there up req index request op entry inode got command at inside writes j attempt comes.
        no_request script n host there req request got;
  }

  pub published_in_run : (events : List Move) (start moment : MomentWithPast) → run_with_past script events ≡ Some start
      → MomentTrail script start moment → PublishedTablesStay (log_effects moment.world.log) moment.world.hosts moment.past.attempts
  published_in_run =
      kept_on_the_way script HavePublished opens
      (λ events start before after run trail change all. published_kept script range events start before after run trail change all)
