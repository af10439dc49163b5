-- Each change on the way of an event of a run keeps that what recoveries were told of rows has what it owes: what that rests on holds of
-- each moment on the way, before the change and after it.
use Rattle.std.proofs.Common.{◌≡◌, ℕ, Bool, List, Some}
use Rattle.vdi_directory.specs.Decisions.{log_effects}
use Rattle.cluster_script.specs.declared.statement.Statement.{Statement}
use Rattle.overlap_law.specs.MomentChanges.{MomentChange, MomentTrail, RunsAreInRange, Then}
use Rattle.overlap_law.specs.Past.{MomentWithPast, run_with_past}
use Rattle.overlap_law.specs.Searches.{ToldRowsAreSince}
use Rattle.overlap_law.specs.Since.{RowsAreSince}
use Rattle.overlap_law.proofs.BegunInMoments.{RowsBegin, kept_begun}
use Rattle.overlap_law.proofs.MessagesInMoments.{Have, kept_messages}
use Rattle.overlap_law.proofs.NoRecoveredDue.{began-with_past}
use Rattle.overlap_law.proofs.RunsByChanges.{on_the_way}
use Rattle.overlap_law.proofs.ToldSince.{told_since_after}
use Rattle.overlap_law.proofs.TrueRows.{truth-on_the_way}
use Rattle.sheep_world.specs.RunsWithAsks.{Move}

pub told_since-on_the_way : (script : List Statement) → RunsAreInRange script → (events : List Move) (start before after : MomentWithPast)
    → run_with_past script events ≡ Some start → MomentTrail script start before → MomentChange script start before after
    → (good : ℕ → Bool)
    → RowsAreSince (log_effects before.world.log) good before.world.hosts before.past.attempts
    → ToldRowsAreSince (log_effects before.world.log) good before.world.hosts before.world.wire before.past.attempts
    → ToldRowsAreSince (log_effects after.world.log) good after.world.hosts after.world.wire after.past.attempts
told_since-on_the_way script range events start before after is trail change good since told =
    let truth = truth-on_the_way script range events start before is trail in
    let begins : RowsBegin after
    = on_the_way script RowsBegin (kept_begun script range) events start after is (Then trail change) in
    told_since_after script range start before after (began-with_past script events start is) change good truth truth.begins.tied
    truth.begins.shaped truth.begins.terms begins.tied begins.shaped begins.terms
    (on_the_way script (Have script range) (kept_messages script range) events start after is (Then trail change)) since told
