-- That the invariant makes attempts stand: one that isn't doomed is in each row that reaches beyond its epoch.
use Rattle.std.proofs.Common.{◌≡◌, ◌⊎◌, inl, inr, ⊎_elim, ℕ, zero, suc, ◌+◌, ◌<◌, ◌≤◌, ◌==◌, ◌&&◌, Bool, true, false, List, [], ◌∷◌, drop}
use Rattle.std.proofs.Common.{Some, refl, ap, subst, ◌∙◌, slice_get, arith}
use Rattle.std.specs.List.{list_any}
use Rattle.std.proofs.lemmas.Bool.{eqb-true, or_left, or_right, cases_eq, lt-ltb}
use Rattle.object_id.specs.declared.entry.Entry.{Entry}
use Rattle.object_id.specs.Oid.{kind_of}
use Rattle.gf256.specs.Part.{is_in_strips}
use Rattle.vdi_directory.specs.Decisions.{log_effects}
use Rattle.peer_proto.specs.Work.{policy_of}
use Rattle.overlap_law.specs.Attempts.{AttemptRecord, object_of, attempts_on}
use Rattle.overlap_law.specs.Units.{covers_unit, unit_part_by, row_bytes_at}
use Rattle.overlap_law.specs.Words.{Hosts, is_doomed, has_served}
use Rattle.overlap_law.specs.Past.{MomentWithPast}
use Rattle.overlap_law.specs.Contents.{AttemptsStand, is_covered_behind, IsHeld}
use Rattle.overlap_law.specs.Facts.{EachGood}
use Rattle.overlap_law.specs.Each.{Placing, end_of_row, policy_in}
use Rattle.overlap_law.specs.Fates.{AttemptsAreShaped}
use Rattle.overlap_law.specs.Since.{RowsAreSince, reading_by}
use Rattle.overlap_law.specs.Overlap.{Overlap}
use Rattle.overlap_law.proofs.OverlapLemmas.{filter-passed}

-- an attempt that covers a unit is found among those that do
any-covers_unit : (unit : ℕ) (attempts : List AttemptRecord) (k : ℕ) (found : AttemptRecord) → slice_get attempts k ≡ Some found
    → covers_unit unit found ≡ true
    → list_any (covers_unit unit) attempts ≡ true
any-covers_unit unit [] k found e covering = absurd (cc)
any-covers_unit unit (attempt ∷ attempts) zero found e covering =
    or_left (covers_unit unit attempt) (list_any (covers_unit unit) attempts) (cc (e, covering))
any-covers_unit unit (attempt ∷ attempts) (suc k) found e covering =
    or_right (covers_unit unit attempt) (list_any (covers_unit unit) attempts) (any-covers_unit unit attempts k found e covering)

-- also behind a place
any-behind : (unit : ℕ) (attempts : List AttemptRecord) (j k : ℕ) (found : AttemptRecord) → j < k → slice_get attempts k ≡ Some found
    → covers_unit unit found ≡ true → list_any (covers_unit unit) (drop (suc j) attempts) ≡ true
any-behind unit [] j k found below e covering = absurd (cc)
any-behind unit (attempt ∷ attempts) j zero found below e covering = absurd (omega arith)
any-behind unit (attempt ∷ attempts) zero (suc k) found below e covering = any-covers_unit unit attempts k found e covering
any-behind unit (attempt ∷ attempts) (suc j) (suc k) found below e covering = any-behind unit attempts j k found (omega arith) e covering

-- so none is there where it is said that none covers it
none-behind : (unit : ℕ) (attempts : List AttemptRecord) (j k : ℕ) (found : AttemptRecord) → is_covered_behind j unit attempts ≡ false
    → j < k
    → slice_get attempts k ≡ Some found → covers_unit unit found ≡ true → ⊥
none-behind unit attempts j k found none below e covering =
    let next : suc j ≡ j + 1 = omega arith in
    let some = subst (λ (n : ℕ). list_any (covers_unit unit) (drop n attempts) ≡ true) next
    (any-behind unit attempts j k found below e covering) in
    cc (some, none)

-- what may be read as of the last attempt on a unit is its part
read-last : (strips : Bool) (attempts : List AttemptRecord) (unit j index : ℕ) (bytes : List ℕ) (attempt : AttemptRecord)
    → reading_by strips attempts unit j index bytes → slice_get attempts j ≡ Some attempt → is_covered_behind j unit attempts ≡ false
    → bytes ≡ unit_part_by index unit attempt.work
read-last true attempts unit j index bytes attempt read there none =
    read.own attempt there (record {
      each = λ k later at below covering. absurd (none-behind unit attempts j k later none below at covering);
    })
read-last false attempts unit j index bytes attempt read there none = ⊎_elim
    (λ (same : read.place ≡ j).
    let there' = subst (λ (k : ℕ). slice_get attempts k ≡ Some read.attempt) same read.there in
    let one : read.attempt ≡ attempt = cc (there', there) in
    read.same ∙ ap (λ (a : AttemptRecord). unit_part_by index unit a.work) one)
    (λ (other : ¬ (read.place ≡ j)). absurd (none-behind unit attempts j read.place read.attempt none (above other read.no_earlier)
    read.there read.covering)) (cases_eq read.place j)
  where
    above : {k : ℕ} → ¬ (k ≡ j) → j ≤ k → j < k
    above other later = omega arith

module _ {T : Placing} {log : List Entry} {hosts : Hosts} {attempts : List AttemptRecord} {good : ℕ → Bool}
    (shape : AttemptsAreShaped T log attempts) (since : RowsAreSince (log_effects log) good hosts attempts) where
  -- a row has the attempt, where it isn't doomed
  holds : (oid : ℕ) → good oid ≡ true → (j : ℕ) (attempt : AttemptRecord) → slice_get (attempts_on oid attempts) j ≡ Some attempt
      → is_doomed hosts attempt ≡ false → IsHeld hosts oid (attempts_on oid attempts) j attempt
  holds oid is_good j attempt there stands = record {
    each = λ n host at i row row_at reaches unit covering none.
        let found = filter-passed (λ (a : AttemptRecord). object_of a == oid) attempts j attempt there in
        let own = eqb-true (object_of attempt) oid found.passed in
        let policy = subst (λ (q : ℕ). policy_in (log_effects log) q ≡ Some (policy_of attempt.work)) own
        (shape.policy found.place attempt found.there) in
        let owes = since.each n host at oid i row row_at (policy_of attempt.work) is_good policy in
        let owed =
        or_left _ (has_served (record { 0 = n }) attempt && _) (lt-ltb attempt.epoch (end_of_row host.node.peer.epoch row.to) reaches) in
        ⊎_elim
        (λ (doomed : is_doomed hosts attempt ≡ true). absurd (cc (doomed, stands)))
        (λ (read : reading_by (is_in_strips (policy_of attempt.work) (kind_of oid)) (attempts_on oid attempts) unit j row.index
        (row_bytes_at (policy_of attempt.work) (kind_of oid) unit row.bytes)).
        read-last (is_in_strips (policy_of attempt.work) (kind_of oid)) (attempts_on oid attempts) unit j row.index
        (row_bytes_at (policy_of attempt.work) (kind_of oid) unit row.bytes) attempt read there none)
        (owes.each j attempt there unit covering owed);
  }

  stands-or-doomed : (oid : ℕ) → good oid ≡ true → (j : ℕ) (attempt : AttemptRecord) → slice_get (attempts_on oid attempts) j ≡ Some attempt
      → (b : Bool) → is_doomed hosts attempt ≡ b
      → (is_doomed hosts attempt ≡ true) ⊎ IsHeld hosts oid (attempts_on oid attempts) j attempt
  stands-or-doomed oid is_good j attempt there true is = inl is
  stands-or-doomed oid is_good j attempt there false is = inr (holds oid is_good j attempt there is)

  -- so the attempts on a good object stand
  pub stand : (oid : ℕ) → good oid ≡ true → AttemptsStand hosts oid (attempts_on oid attempts)
  stand oid is_good = record {
    each = λ j attempt there unmade. stands-or-doomed oid is_good j attempt there (is_doomed hosts attempt) refl;
  }

pub gives-stand : (moment : MomentWithPast) → Overlap moment → EachGood moment.world moment.past (AttemptsStand moment.world.hosts)
gives-stand moment o = stand o.attempts.shape o.rows.since
