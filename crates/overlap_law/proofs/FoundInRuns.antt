-- In each run in range a check that has counted an own object has begun a write in the history.
use Rattle.std.proofs.Common.{◌≡◌, ℕ, ◌==◌, ◌||◌, Bool, true, false, List, [], ◌∷◌, Contains, Some, refl, subst}
use Rattle.std.specs.List.{list_any}
use Rattle.std.proofs.lemmas.Bool.{eqb-true}
use Rattle.proof_tools.proofs.Lists.{Contains-cons, Contains-head}
use Rattle.cluster_script.specs.declared.statement.Statement.{Statement}
use Rattle.disk_history.specs.declared.event.HistEvent.{HistEvent}
use Rattle.disk_history.specs.declared.event.HistEvent.TheVariants.{Create, Copy, Delete, WriteStart, WriteDone, WriteRefused, WriterLost}
use Rattle.disk_history.specs.declared.event.HistEvent.TheVariants.{Read}
use Rattle.sheep_node.specs.declared.course.Course.TheVariants.{Checking}
use Rattle.overlap_law.specs.ChecksAhead.{ChecksHaveBegunIfFound, HasBegunAWrite}
use Rattle.overlap_law.specs.MomentChanges as moments
use Rattle.overlap_law.specs.MomentChanges.{RunsAreInRange}
use Rattle.overlap_law.specs.Past.{MomentWithPast, run_with_past}
use Rattle.overlap_law.proofs.ClosedHistories.{IsKeptWithHistory, with_history-in_run}
use Rattle.overlap_law.proofs.FoundInSteps.{AllBegunIfFound, HasBegunIfFound, found_grown, step_found}
use Rattle.overlap_law.proofs.ItemsOfRequests.{begins_write_of}
use Rattle.overlap_law.proofs.OpenTables.{whole_tables}
use Rattle.sheep_world.specs.RunsWithAsks.{Move}

-- what begins a write of the request is among the events
found_start : (req : ℕ) (history : List HistEvent) → list_any (begins_write_of req) history ≡ true → HasBegunAWrite req history
found_start req [] is = absurd (cc (is))
found_start req (event ∷ later) is = by_event event (found_start req later) is
  where
    behind : (event : HistEvent) → HasBegunAWrite req later → HasBegunAWrite req (event ∷ later)
    behind event has = record {
      vid = has.vid;
      block = has.block;
      coded = has.coded;
      bytes = has.bytes;
      among = Contains-cons event later (WriteStart req has.vid has.block has.coded has.bytes) has.among;
    }

    by_test : (vid block : ℕ) (coded : Bool) (bytes : List ℕ) (other : ℕ) (b : Bool) → (other == req) ≡ b
        → (list_any (begins_write_of req) later ≡ true → HasBegunAWrite req later)
        → (b || list_any (begins_write_of req) later) ≡ true → HasBegunAWrite req (WriteStart other vid block coded bytes ∷ later)
    by_test vid block coded bytes other true own rest is = record {
      vid = vid;
      block = block;
      coded = coded;
      bytes = bytes;
      among = subst (λ (k : ℕ). Contains (WriteStart other vid block coded bytes ∷ later) (WriteStart k vid block coded bytes))
          (eqb-true other req own) (Contains-head (WriteStart other vid block coded bytes) later);
    }
    by_test vid block coded bytes other false apart rest is = behind (WriteStart other vid block coded bytes) (rest is)

    by_event : (event : HistEvent) → (list_any (begins_write_of req) later ≡ true → HasBegunAWrite req later)
        → list_any (begins_write_of req) (event ∷ later) ≡ true → HasBegunAWrite req (event ∷ later)
    by_event (Create disk blocks) rest is = behind (Create disk blocks) (rest is)
    by_event (Copy old new) rest is = behind (Copy old new) (rest is)
    by_event (Delete disk) rest is = behind (Delete disk) (rest is)
    by_event (WriteStart other vid block coded bytes) rest is = by_test vid block coded bytes other (other == req) refl rest is
    by_event (WriteDone other) rest is = behind (WriteDone other) (rest is)
    by_event (WriteRefused other) rest is = behind (WriteRefused other) (rest is)
    by_event (WriterLost other) rest is = behind (WriterLost other) (rest is)
    by_event (Read disk block bytes) rest is = behind (Read disk block bytes) (rest is)

module _ (script : List Statement) (range : RunsAreInRange script) (req : ℕ) where
  kept : IsKeptWithHistory script req (HasBegunIfFound req)
  kept = record {
    none = λ history requests none request got. absurd (none request got);
    grown = λ history added nothing requests. found_grown req history added requests;
    steps = λ events before run began all n host there up cause caused later.
        step_found script range req before.world began before.past.history all
        (whole_tables script range events before before run moments.Still) n host there up cause caused;
  }

  pub found-in_run : (events : List Move) (moment : MomentWithPast) → run_with_past script events ≡ Some moment
      → AllBegunIfFound req moment.past.history moment.world.hosts
  found-in_run = with_history-in_run script req (HasBegunIfFound req) kept

pub counted-in_run : (script : List Statement) → RunsAreInRange script → (events : List Move) (moment : MomentWithPast)
    → run_with_past script events ≡ Some moment → ChecksHaveBegunIfFound moment.past.history moment.world.hosts
counted-in_run script range events moment is = record {
  each = λ n host got req session check there counted.
      found_start req moment.past.history
      (found-in_run script range req events moment is n host got (record { session = session; course = Checking check }) there counted);
}
