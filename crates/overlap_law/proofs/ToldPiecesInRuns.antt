-- In each run in range the pieces told to open reads have what their nodes owed, of what is good: at the end of every event, and on the
-- way of it by the test of its end.
use Rattle.std.proofs.Common.{◌≡◌, ℕ, zero, suc, ◌==◌, Bool, true, false, List, [], ◌∷◌, length, take, drop, Some, refl}
use Rattle.std.proofs.Common.{sym, ap, slice_get, ◌∙◌}
use Rattle.std.proofs.lemmas.Bool.{eqb-true, both_ways}
use Rattle.object_id.specs.declared.node.NodeId.{NodeId}
use Rattle.object_id.specs.declared.policy.Policy.{Policy}
use Rattle.object_id.specs.Oid.{kind_of}
use Rattle.gf256.specs.Part.{part_size}
use Rattle.cluster_script.specs.declared.statement.Statement.{Statement}
use Rattle.vdi_directory.specs.Decisions.{log_effects}
use Rattle.peer_proto.specs.Work.{oid_of, policy_of}
use Rattle.overlap_law.specs.Attempts.{AttemptRecord, object_of}
use Rattle.overlap_law.specs.Holders.{is_object_among, born_objects}
use Rattle.overlap_law.specs.MomentChanges.{MomentTrail, TrailLeft, RunsAreInRange, Still, Next}
use Rattle.overlap_law.specs.Past.{MomentWithPast, next_moment, run_with_past}
use Rattle.overlap_law.specs.ToldPieces.{offset_read, IsPieceSince, ToldPiecesAreSince}
use Rattle.overlap_law.specs.Words.{Hosts}
use Rattle.overlap_law.proofs.BornFirst.{of_the_born}
use Rattle.overlap_law.proofs.CarriedRows.{good_at, since-on_the_way}
use Rattle.overlap_law.proofs.EndTests.{was_good}
use Rattle.overlap_law.proofs.MakingInRuns.{creates_first-in_run}
use Rattle.overlap_law.proofs.MessagesInMoments.{no_works}
use Rattle.overlap_law.proofs.OverlapLemmas.{filter-passed}
use Rattle.overlap_law.proofs.ToldPiecesSince.{told_pieces_after}
use Rattle.overlap_law.proofs.KeptToTheEnd.{BeginsToTheEnd, IsKeptToTheEnd, to_the_end-in_run, to_the_end-on_the_way}
use Rattle.sheep_world.specs.RunsWithAsks.{Move}

-- ---- a piece of an object that isn't born

-- bytes with others before them
abbrev padded : ℕ → List ℕ → List ℕ
padded zero bytes = bytes
padded (suc n) bytes = 0 ∷ padded n bytes

drop-padded : (n : ℕ) (bytes : List ℕ) → drop n (padded n bytes) ≡ bytes
drop-padded zero bytes = refl
drop-padded (suc n) bytes = drop-padded n bytes

take-whole : (bytes : List ℕ) → take (length bytes) bytes ≡ bytes
take-whole [] = refl
take-whole (byte ∷ bytes) = ap (λ (xs : List ℕ). byte ∷ xs) (take-whole bytes)

-- nothing is owed of it
pub none_owed : (policy : Policy) (oid : ℕ) (hosts : Hosts) (attempts : List AttemptRecord) (node : NodeId) (index epoch offset : ℕ)
    (bytes : List ℕ) → ((j : ℕ) (attempt : AttemptRecord) → slice_get attempts j ≡ Some attempt → object_of attempt ≡ oid → ⊥)
    → IsPieceSince policy oid hosts attempts node index epoch offset bytes
none_owed policy oid hosts attempts node index epoch offset bytes none =
    let from : ℕ = part_size policy (kind_of oid) offset in
    record {
      row = padded from bytes;
      size = length bytes;
      since = record {
        each = λ j attempt there unit covers owed.
            let among = filter-passed (λ (a : AttemptRecord). object_of a == oid) attempts j attempt there in
            absurd (none among.place attempt among.there (eqb-true (object_of attempt) oid among.passed));
      };
      same = ap (take (length bytes)) (drop-padded from bytes) ∙ take-whole bytes;
    }

module _ (script : List Statement) (range : RunsAreInRange script) where
  abbrev HoldsAt : (ℕ → Bool) → MomentWithPast → Type 0
  HoldsAt good moment =
      ToldPiecesAreSince (log_effects moment.world.log) good moment.world.hosts moment.world.wire moment.past.attempts

  -- by the test of the end
  begins : BeginsToTheEnd script (λ (end moment : MomentWithPast). HoldsAt (good_at end) moment)
  begins events event start end run happens told = record {
    each = λ n host there up req place work current message from rsp bytes of own answering said is_good known.
        by_birth (is_object_among (oid_of work.work) (born_objects start.past.attempts)) refl
        (λ born. told.each n host there up req place work current message from rsp bytes of own answering said
        (was_good script event start end happens (oid_of work.work) is_good born) known)
        (λ unborn. none_owed (policy_of work.work) (oid_of work.work) start.world.hosts start.past.attempts from message.index
        current.epoch.0 (offset_read work.work) bytes
        (λ j attempt at object. both_ways (is_object_among (oid_of work.work) (born_objects start.past.attempts)) unborn
        (ap (λ (oid : ℕ). is_object_among oid (born_objects start.past.attempts)) (sym object)
        ∙ of_the_born start.past.attempts (creates_first-in_run script range events start start run Still) j attempt at)));
  }
    where
      by_birth : {P : Type 0} (b : Bool) {c : Bool} → c ≡ b → (c ≡ true → P) → (c ≡ false → P) → P
      by_birth true is born unborn = born is
      by_birth false is born unborn = unborn is

  -- ---- in every run

  kept : IsKeptToTheEnd script (λ (end moment : MomentWithPast). HoldsAt (good_at end) moment)
  kept = record {
    opens = record {
      each = λ n host there up req place work current message from rsp bytes of own answering said is_good known.
          absurd (no_works script n host there req work of.there);
    };
    begins = begins;
    keeps = λ events event start end before after way told.
        told_pieces_after script range events start way.run before after way.behind way.change (good_at end)
        (since-on_the_way script range (creates_first-in_run script range) events event start end way.run way.happens way.behind
        (Next way.change way.left))
        told;
  }

  pub told_pieces-in_run : (events : List Move) (moment : MomentWithPast) → run_with_past script events ≡ Some moment
      → ToldPiecesAreSince (log_effects moment.world.log) (good_at moment) moment.world.hosts moment.world.wire moment.past.attempts
  told_pieces-in_run = to_the_end-in_run script (λ (end moment : MomentWithPast). HoldsAt (good_at end) moment) kept

  -- and on the way of an event, by the test of its end
  pub told_pieces-by_the_end : (events : List Move) (event : Move) (start moment end : MomentWithPast)
      → run_with_past script events ≡ Some start → next_moment script event start ≡ Some end → MomentTrail script start moment
      → TrailLeft script start moment end
      → ToldPiecesAreSince (log_effects moment.world.log) (good_at end) moment.world.hosts moment.world.wire moment.past.attempts
  told_pieces-by_the_end events event start moment end run happens trail left =
      to_the_end-on_the_way script (λ (last now : MomentWithPast). HoldsAt (good_at last) now) kept events event start end run happens trail
      left
