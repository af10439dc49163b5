-- What a block may come to be read as stays among what may be read of it over a change that keeps the history, and is so of fewer ids where
-- it is of more; and where it is, at the end of an event, blocks are written as the group of the history says.
use Rattle.std.proofs.Common.{◌≡◌, ℕ, Bool, List, Some, slice_get, refl}
use Rattle.object_id.specs.declared.entry.VdiSpec.{VdiSpec}
use Rattle.disk_history.specs.Ledger.{Disk, Ledger}
use Rattle.vdi_directory.specs.declared.effect.Effect.{Effect}
use Rattle.vdi_directory.specs.Decisions.{log_effects}
use Rattle.cluster_script.specs.declared.statement.Statement.{Statement}
use Rattle.overlap_law.specs.Headline.{ledger_of}
use Rattle.overlap_law.specs.KeptHistory.{KeepsHistory}
use Rattle.overlap_law.specs.MomentChanges.{MomentTrail, MomentChange, RunsAreInRange, Still, Then}
use Rattle.overlap_law.specs.Overlap.{CallsFewer}
use Rattle.overlap_law.specs.Past.{MomentWithPast, first_moment, run_with_past}
use Rattle.overlap_law.specs.StayingBlocks.{IsBlockOfAnyDisk, BlocksStayWritten, WorksMayStay, InodesAreLive}
use Rattle.overlap_law.specs.Tables.{EntriesAreMade}
use Rattle.overlap_law.specs.TiedAttempts.{IsTied}
use Rattle.overlap_law.specs.WrittenBlocks.{BlocksAreWritten}
use Rattle.overlap_law.proofs.BlocksInMoments.{blocks_stay}
use Rattle.overlap_law.proofs.CarriedTables.{good_id_at, tables-in_run}
use Rattle.overlap_law.proofs.DisksPublished.{AreOut, kept_out, disks_out}
use Rattle.overlap_law.proofs.DoneReplies.{done_replied}
use Rattle.overlap_law.proofs.EndsKeepBlocks.{ends_keep}
use Rattle.overlap_law.proofs.EntersToCome.{enters_to_come}
use Rattle.overlap_law.proofs.LogsReservable.{LogIsReservable, kept_reservable}
use Rattle.overlap_law.proofs.MakingInRuns.{each_object}
use Rattle.overlap_law.proofs.NoRecoveredDue.{began-with_past}
use Rattle.overlap_law.proofs.PublishedInodes.{published_made}
use Rattle.overlap_law.proofs.PublishedInRuns.{published-on_the_way}
use Rattle.overlap_law.proofs.ReadableBlocks.{are_written}
use Rattle.overlap_law.proofs.RunsByChanges.{on_the_way}
use Rattle.overlap_law.proofs.TiedInRuns.{kept_tied}
use Rattle.overlap_law.proofs.WholeInRuns.{whole-on_the_way}
use Rattle.overlap_law.proofs.WorksToStay.{works_to_stay}
use Rattle.sheep_world.specs.RunsWithAsks.{Move}

abbrev pub HasBlocks : (ℕ → Bool) → MomentWithPast → Type 0
HasBlocks good_id moment = BlocksStayWritten (ledger_of moment.past.history) (log_effects moment.world.log) good_id moment.world.hosts
    moment.past.attempts

-- a change that keeps the history keeps it
pub history_keeps : (script : List Statement) → RunsAreInRange script → (events : List Move) (start before after : MomentWithPast)
    → run_with_past script events ≡ Some start → MomentTrail script start before → MomentChange script start before after
    → (live good_id : ℕ → Bool) → KeepsHistory script good_id start before after
    → InodesAreLive (log_effects after.world.log) live good_id
    → EntriesAreMade (log_effects after.world.log) live good_id after.past.attempts
    → BlocksStayWritten (ledger_of before.past.history) (log_effects before.world.log) good_id before.world.hosts before.past.attempts
    → BlocksStayWritten (ledger_of after.past.history) (log_effects after.world.log) good_id after.world.hosts after.past.attempts
    × WorksMayStay (ledger_of after.past.history) (log_effects after.world.log) good_id after.world.hosts after.past.attempts
history_keeps script range events start before after is trail change live good_id keeps inodes made written =
    let began = began-with_past script events start is in
    let alone = done_replied script range start began good_id change keeps.replies in
    let works = works_to_stay script range events start before after is trail change good_id keeps.written keeps.checked keeps.creates in (
      blocks_stay script range events start before after is trail change good_id
          (disks_out before (on_the_way script AreOut (kept_out script range) events start before is trail))
          (disks_out after (on_the_way script AreOut (kept_out script range) events start after is (Then trail change)))
          (enters_to_come script range events start before after is trail change good_id keeps.commands) written
          (ends_keep script range events start is good_id change trail alone keeps.entries) live inodes made works,
      works,
    )

-- what is so of more ids is so of fewer
pub more_block : (few many : ℕ → Bool) (ledger : Ledger) (effects : List Effect) (vid : ℕ) (disk : Disk) (spec : VdiSpec) (index unit : ℕ)
    → CallsFewer few many → IsBlockOfAnyDisk ledger effects few vid disk spec index unit
    → IsBlockOfAnyDisk ledger effects many vid disk spec index unit
more_block few many ledger effects vid disk spec index unit fewer block = record {
  there = block.there;
  alive = block.alive;
  good = fewer vid block.good;
  made_with = block.made_with;
  object = block.object;
  inside = block.inside;
  block = block.block;
}

pub fewer_blocks : (few many : ℕ → Bool) (moment : MomentWithPast) → CallsFewer few many → HasBlocks many moment → HasBlocks few moment
fewer_blocks few many moment fewer stay = record {
  holes = λ vid index unit disk spec block.
      stay.holes vid index unit disk spec
      (more_block few many (ledger_of moment.past.history) (log_effects moment.world.log) vid disk spec index unit fewer block);
  each = λ vid index unit disk spec block.
      stay.each vid index unit disk spec
      (more_block few many (ledger_of moment.past.history) (log_effects moment.world.log) vid disk spec index unit fewer block);
}

-- as a script opens there is no attempt
pub blocks_open : (script : List Statement) → HasBlocks (good_id_at (first_moment script)) (first_moment script)
blocks_open script = record {
  holes = λ vid index unit disk spec block j entry comes hole.
      let there : slice_get (first_moment script).past.attempts j ≡ Some entry = comes.there in absurd (cc (there));
  each = λ vid index unit disk spec block whole home to_come some j attempt comes.
      let there : slice_get (first_moment script).past.attempts j ≡ Some attempt = comes.there in absurd (cc (there));
}

-- at the end of an event they are written so
pub blocks_written : (script : List Statement) → RunsAreInRange script → (events : List Move) (moment : MomentWithPast)
    → run_with_past script events ≡ Some moment → HasBlocks (good_id_at moment) moment
    → BlocksAreWritten (ledger_of moment.past.history) (log_effects moment.world.log) (good_id_at moment) moment.world.hosts
    moment.past.attempts
blocks_written script range events moment is stay =
    are_written (ledger_of moment.past.history) moment.world.log
    (on_the_way script LogIsReservable (kept_reservable script range) events moment moment is Still).all (good_id_at moment)
    moment.world.hosts moment.past.attempts (whole-on_the_way script range events moment moment is Still)
    (on_the_way script IsTied (kept_tied script range) events moment moment is Still).fates.whole stay each_object
    (record { each = λ vid published alive good. refl })
    (published_made moment.world.log (good_id_at moment) moment.past.attempts
    (published-on_the_way script range events moment moment is Still))
    (tables-in_run script range events moment is).inodes.entries
