-- What the inodes of open disks and of snapshots may come to have stays as it is to be over events, by a test for good ids of the moment at
-- which the event ends that calls none good whose inode wasn't available; so it holds in every run in range, of inodes that were available,
-- and of disks that were.
use Rattle.std.proofs.Common.{◌≡◌, ℕ, Bool, true, List, Some, slice_get, refl}
use Rattle.object_id.specs.Oid.{IsVid}
use Rattle.vdi_directory.specs.Decisions.{log_effects}
use Rattle.cluster_script.specs.declared.statement.Statement.{Statement}
use Rattle.overlap_law.specs.GoodInodes.{is_available_inode}
use Rattle.overlap_law.specs.MomentChanges.{MomentTrail, TrailLeft, RunsAreInRange}
use Rattle.overlap_law.specs.OpenedTables.{InodesStay}
use Rattle.overlap_law.specs.Overlap.{CallsFewer}
use Rattle.overlap_law.specs.Past.{MomentWithPast, first_moment, next_moment, run_with_past}
use Rattle.overlap_law.proofs.CarriedTables.{some_tables-on_the_way}
use Rattle.overlap_law.proofs.EntriesReadKept.{entries_kept}
use Rattle.overlap_law.proofs.MakingInRuns.{each_object}
use Rattle.overlap_law.proofs.OpenedWorks.{inodes_kept}
use Rattle.overlap_law.proofs.OpeningOverlap.{no_request, no_session}
use Rattle.overlap_law.proofs.ReadsToComeInRuns.{inode_was_there, reads_to_come-of_inodes}
use Rattle.overlap_law.proofs.KeptToTheEnd.{good_id_at, good_inode_at, disks_were_good, inodes_were_good, IsKeptToTheEnd, OfIds, WasGood}
use Rattle.overlap_law.proofs.KeptToTheEnd.{begins_with_fewer, to_the_end-in_run, to_the_end-on_the_way}
use Rattle.sheep_world.specs.RunsWithAsks.{Move}

abbrev pub HasInodes : (ℕ → Bool) → MomentWithPast → Type 0
HasInodes good_id moment = InodesStay (log_effects moment.world.log) good_id moment.world.hosts moment.past.attempts

-- what is so of more ids is so of fewer
pub fewer_inodes : (few many : ℕ → Bool) (moment : MomentWithPast) → CallsFewer few many → HasInodes many moment → HasInodes few moment
fewer_inodes few many moment fewer stay = record {
  tables = record {
    each = λ n host at up number index session disk got on good.
        stay.tables.each n host at up number index session disk got on (fewer disk.inode.vid good);
  };
  frozen = record { each = λ vid index spec snapped good. stay.frozen.each vid index spec snapped (fewer vid good) };
  written_back = record {
    each = λ n host there up req index request op vid inode work got command at has good.
        stay.written_back.each n host there up req index request op vid inode work got command at has (fewer inode.vid good);
  };
}

-- a test of ids calls none good whose inode wasn't available
abbrev pub OfAvailableInodes : (MomentWithPast → ℕ → Bool) → Type 0
OfAvailableInodes test = (moment : MomentWithPast) (vid : ℕ) → IsVid vid → test moment vid ≡ true
    → is_available_inode moment.past.unavailable vid ≡ true

module _ (script : List Statement) (range : RunsAreInRange script) (test : MomentWithPast → ℕ → Bool) (was : WasGood script test)
    (there : OfAvailableInodes test) where
  kept : IsKeptToTheEnd script (OfIds test HasInodes)
  kept = record {
    begins = begins_with_fewer script test was HasInodes fewer_inodes;
    opens = record {
      tables = record {
        each = λ n host at up number index session disk got on. no_session script n host at number session got;
      };
      frozen = record {
        each = λ vid index spec snapped good made within i j one other comes comes_too.
            let there : slice_get (first_moment script).past.attempts i ≡ Some one = comes.there in absurd (cc (there));
      };
      written_back = record {
        each = λ n host there up req index request op vid inode work got command at has good lives inside.
            no_request script n host there req request got;
      };
    };
    keeps = λ events event start end before after way stay.
        let named = some_tables-on_the_way script range (test end) events start before way.run way.behind in
        inodes_kept script range events start before after way.run way.behind way.change (test end)
        (entries_kept script range events start before way.run way.behind each_object (test end) (λ oid some alive. refl)
        named.inodes.entries)
        (reads_to_come-of_inodes script range events start before way.run way.behind (test end)
        (λ vid id is. there start vid id (was event start end way.happens vid is))) stay;
  }

  tested-in_run : (events : List Move) (moment : MomentWithPast) → run_with_past script events ≡ Some moment
      → HasInodes (test moment) moment
  tested-in_run = to_the_end-in_run script (OfIds test HasInodes) kept

  -- by the test of the end, at each moment on the way of an event
  tested-on_the_way : (events : List Move) (event : Move) (start end : MomentWithPast) → run_with_past script events ≡ Some start
      → next_moment script event start ≡ Some end → {moment : MomentWithPast} → MomentTrail script start moment
      → TrailLeft script start moment end → HasInodes (test end) moment
  tested-on_the_way = to_the_end-on_the_way script (OfIds test HasInodes) kept

-- the tests for disks and for inodes that were available do so
of_disks : OfAvailableInodes good_id_at
of_disks moment vid id is = inode_was_there moment.world.log moment.past.unavailable vid id is

of_inodes : OfAvailableInodes good_inode_at
of_inodes moment vid id is = is

module _ (script : List Statement) (range : RunsAreInRange script) where
  pub inodes-in_run : (events : List Move) (moment : MomentWithPast) → run_with_past script events ≡ Some moment
      → HasInodes (good_id_at moment) moment
  inodes-in_run = tested-in_run script range good_id_at (disks_were_good script) of_disks

  pub inodes-on_the_way : (events : List Move) (event : Move) (start end : MomentWithPast) → run_with_past script events ≡ Some start
      → next_moment script event start ≡ Some end → {moment : MomentWithPast} → MomentTrail script start moment
      → TrailLeft script start moment end → HasInodes (good_id_at end) moment
  inodes-on_the_way = tested-on_the_way script range good_id_at (disks_were_good script) of_disks

  -- of inodes that were available, whatever their disks were cloned from
  pub good_inodes-in_run : (events : List Move) (moment : MomentWithPast) → run_with_past script events ≡ Some moment
      → HasInodes (good_inode_at moment) moment
  good_inodes-in_run = tested-in_run script range good_inode_at (inodes_were_good script) of_inodes

  pub good_inodes-on_the_way : (events : List Move) (event : Move) (start end : MomentWithPast) → run_with_past script events ≡ Some start
      → next_moment script event start ≡ Some end → {moment : MomentWithPast} → MomentTrail script start moment
      → TrailLeft script start moment end → HasInodes (good_inode_at end) moment
  good_inodes-on_the_way = tested-on_the_way script range good_inode_at (inodes_were_good script) of_inodes
