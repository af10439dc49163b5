-- What is carried of the history over the changes of events, all at once, by each test for good ids that serves on the way of an event.
use Rattle.std.specs.Prelude.{ℕ, Bool, List}
use Rattle.cluster_script.specs.declared.statement.Statement.{Statement}
use Rattle.vdi_directory.specs.Decisions.{log_effects}
use Rattle.overlap_law.specs.Headline.{ledger_of}
use Rattle.overlap_law.specs.Holders.{is_available_disk}
use Rattle.overlap_law.specs.NamedWorks.{AboveIsGood}
use Rattle.overlap_law.specs.Overlap.{CallsFewer}
use Rattle.overlap_law.specs.Past.{MomentWithPast}
use Rattle.overlap_law.specs.StandingReads.{AllReadsStand}
use Rattle.overlap_law.specs.StayingBlocks.{BlocksStayWritten, WorksMayStay}
use Rattle.overlap_law.specs.ToldReads.{MayStayReadAs}

-- a test calls no id good that wasn't available as an event began, and calls good what is above one that it calls good, by a moment's log.
-- So do the tests of the event's beginning, up to the last change, and of its end
pub record CallsAvailable (start moment : MomentWithPast) (good_id : ℕ → Bool) : Type 0 where
  pub fewer : CallsFewer good_id (is_available_disk start.world.log start.past.unavailable)
  pub above : AboveIsGood (log_effects moment.world.log) good_id

-- of the disks that a test calls good: what a block may come to be read as may be read of it, whichever requests are refused; and so may
-- what open works would make of it, and what the reads of nodes were told so far
pub record HistoryStands (script : List Statement) (good_id : ℕ → Bool) (moment : MomentWithPast) : Type 0 where
  pub written : BlocksStayWritten (ledger_of moment.past.history) (log_effects moment.world.log) good_id moment.world.hosts
      moment.past.attempts
  pub works : WorksMayStay (ledger_of moment.past.history) (log_effects moment.world.log) good_id moment.world.hosts moment.past.attempts
  pub reads : AllReadsStand script (MayStayReadAs moment.past.attempts) (ledger_of moment.past.history) (log_effects moment.world.log)
      good_id moment.world.hosts
