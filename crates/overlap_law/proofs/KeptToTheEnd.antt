-- What each change on the way of an event keeps, by what is good at the moment at which the event ends, holds in every run, and by that
-- test at each moment on the way of an event.
use Rattle.std.proofs.Common.{◌≡◌, ℕ, Bool, List, Some}
use Rattle.object_id.specs.Oid.{inode_number}
use Rattle.cluster_script.specs.declared.statement.Statement.{Statement}
use Rattle.overlap_law.specs.GoodInodes.{is_available_inode}
use Rattle.overlap_law.specs.Holders.{is_available_disk}
use Rattle.overlap_law.specs.MomentChanges.{MomentTrail, TrailLeft, IsOnTheWay, Still, Then, AtEnd, Next}
use Rattle.overlap_law.specs.Overlap.{CallsFewer}
use Rattle.overlap_law.specs.Past.{MomentWithPast, first_moment, next_moment, run_with_past}
use Rattle.overlap_law.proofs.EndTests.{was_available, was_good_id}
use Rattle.overlap_law.proofs.KeptInRuns.{kept_at_events}
use Rattle.overlap_law.proofs.MomentTrails.{event_trail}
use Rattle.sheep_world.specs.RunsWithAsks.{Move}

-- where an event begins, what is so by its own test is so by that of the event's end
abbrev pub BeginsToTheEnd : List Statement → (MomentWithPast → MomentWithPast → Type 0) → Type 0
BeginsToTheEnd script P = (events : List Move) (event : Move) (start end : MomentWithPast) → run_with_past script events ≡ Some start
    → next_moment script event start ≡ Some end → P start start → P end start

-- P end moment: it is so of a moment, by the test of the end
pub record IsKeptToTheEnd (script : List Statement) (P : MomentWithPast → MomentWithPast → Type 0) : Type 0 where
  pub opens : P (first_moment script) (first_moment script)
  pub begins : BeginsToTheEnd script P
  pub keeps : (events : List Move) (event : Move) (start end before after : MomentWithPast)
      → IsOnTheWay script events event start end before after → P end before → P end after

module _ (script : List Statement) (P : MomentWithPast → MomentWithPast → Type 0) (kept : IsKeptToTheEnd script P) where
  along : (events : List Move) (event : Move) (start end : MomentWithPast) → run_with_past script events ≡ Some start
      → next_moment script event start ≡ Some end → {moment : MomentWithPast} → MomentTrail script start moment
      → TrailLeft script start moment end → P start start → P end moment
  along events event start end run happens Still left holds = kept.begins events event start end run happens holds
  along events event start end run happens (Then {moment} {next} trail change) left holds =
      kept.keeps events event start end moment next
      (record { run = run; happens = happens; behind = trail; change = change; left = left })
      (along events event start end run happens trail (Next change left) holds)

  pub to_the_end-in_run : (events : List Move) (moment : MomentWithPast) → run_with_past script events ≡ Some moment → P moment moment
  to_the_end-in_run =
      kept_at_events script (λ (moment : MomentWithPast). P moment moment) kept.opens
      (λ events event start end run then happens holds.
      along events event start end run happens (event_trail script event start end happens) AtEnd holds)

  pub to_the_end-on_the_way : (events : List Move) (event : Move) (start end : MomentWithPast) → run_with_past script events ≡ Some start
      → next_moment script event start ≡ Some end → {moment : MomentWithPast} → MomentTrail script start moment
      → TrailLeft script start moment end → P end moment
  to_the_end-on_the_way events event start end run happens trail left =
      along events event start end run happens trail left (to_the_end-in_run events start run)

-- ---- by a test of ids

abbrev pub OfIds : (MomentWithPast → ℕ → Bool) → ((ℕ → Bool) → MomentWithPast → Type 0) → MomentWithPast → MomentWithPast → Type 0
OfIds test P end moment = P (test end) moment

-- what an event's end calls good was called so where the event began
abbrev pub WasGood : List Statement → (MomentWithPast → ℕ → Bool) → Type 0
WasGood script test = (event : Move) (start end : MomentWithPast) → next_moment script event start ≡ Some end
    → CallsFewer (test end) (test start)

-- what is so of more ids is so of fewer, so it is so of those that are good at the end
pub begins_with_fewer : (script : List Statement) (test : MomentWithPast → ℕ → Bool) → WasGood script test
    → (P : (ℕ → Bool) → MomentWithPast → Type 0)
    → ((few many : ℕ → Bool) (moment : MomentWithPast) → CallsFewer few many → P many moment → P few moment)
    → BeginsToTheEnd script (OfIds test P)
begins_with_fewer script test was P fewer events event start end run happens holds =
    fewer (test end) (test start) start (was event start end happens) holds

-- that of disks that were available
abbrev pub good_id_at : MomentWithPast → ℕ → Bool
good_id_at moment = is_available_disk moment.world.log moment.past.unavailable

pub disks_were_good : (script : List Statement) → WasGood script good_id_at
disks_were_good script event start end happens = was_good_id script event start end happens

-- and of inodes that were, whatever their disks were cloned from
abbrev pub good_inode_at : MomentWithPast → ℕ → Bool
good_inode_at moment = is_available_inode moment.past.unavailable

pub inodes_were_good : (script : List Statement) → WasGood script good_inode_at
inodes_were_good script event start end happens vid is = was_available script event start end happens (inode_number vid) is
