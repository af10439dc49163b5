-- Open rows: each covers its node's epoch, and a row that does is open.
use Rattle.std.proofs.Common.{◌≡◌, arith, ℕ, zero, suc, nat_eq, nat_le, Bool, true, false, cond, List, [], ◌∷◌, find, Some, refl, ap, subst}
use Rattle.std.proofs.Common.{◌∙◌, slice_get}
use Rattle.std.specs.List.{list_any}
use Rattle.std.proofs.lemmas.Bool.{and_from, and_parts, eq-eqb, leb-true, or_left, or_right}
use Rattle.std.proofs.lemmas.Option.{same_Some}
use Rattle.object_store.specs.Rows.{is_open, is_open_at}
use Rattle.object_store.specs.Store.{SeenRow, AllRows, rows_of}
use Rattle.overlap_law.specs.Each.{row_covers, end_of_row}
use Rattle.overlap_law.specs.Lists.{HasOpenRow}
use Rattle.overlap_law.proofs.CoveredLevels.{covers_by}
use Rattle.overlap_law.proofs.IndexesHeld.{any_found}
use Rattle.overlap_law.proofs.RowsInTurn.{IsWithin, AreInTurn, end_shut, end_open, open_from}
use Rattle.overlap_law.proofs.ThereOrMissing.{HasOpen}

pub turn_at : (epoch : ℕ) (rows : List SeenRow) (i : ℕ) (row : SeenRow) → AreInTurn epoch rows → slice_get rows i ≡ Some row
    → IsWithin epoch row
turn_at epoch [] i row turns at = absurd (cc (at))
turn_at epoch (first ∷ rows) zero row turns at = subst (IsWithin epoch) (same_Some first row at) turns.0
turn_at epoch (first ∷ rows) (suc i) row turns at = turn_at epoch rows i row turns.2 at

-- a row that covers its node's epoch is open
pub covers_open : (epoch : ℕ) (row : SeenRow) → IsWithin epoch row → row_covers epoch epoch row ≡ true → is_open row ≡ true
covers_open epoch row within covers = by_open (is_open row) refl
  where
    by_open : (b : Bool) → is_open row ≡ b → b ≡ true
    by_open true unshut = refl
    by_open false shut =
        let ended = within.1 shut in
        let same = end_shut row.to shut epoch 0 in
        let reaches = leb-true epoch (end_of_row epoch row.to)
        (and_parts (nat_le row.from.0 epoch) (nat_le epoch (end_of_row epoch row.to)) covers).1 in
        absurd (omega (arith, ended, same, reaches))

-- and an open one covers it
pub open_covers : (epoch : ℕ) (row : SeenRow) → IsWithin epoch row → is_open row ≡ true → row_covers epoch epoch row ≡ true
open_covers epoch row within unshut =
    let ends = end_open row.to unshut epoch in
    covers_by epoch epoch row (open_from epoch row unshut within.0) (omega (arith, ends))

pub at_any : (p : SeenRow → Bool) (rows : List SeenRow) (i : ℕ) (row : SeenRow) → slice_get rows i ≡ Some row → p row ≡ true
    → list_any p rows ≡ true
at_any p [] i row at is = absurd (cc (at))
at_any p (first ∷ rows) zero row at is = or_left (p first) (list_any p rows) (ap p (same_Some first row at) ∙ is)
at_any p (first ∷ rows) (suc i) row at is = or_right (p first) (list_any p rows) (at_any p rows i row at is)

-- an open row of an index is found
pub row_found : (rows : AllRows) (oid index i : ℕ) (row : SeenRow) → slice_get (rows_of rows oid) i ≡ Some row → is_open row ≡ true
    → row.index ≡ index → HasOpenRow rows oid index
row_found rows oid index i row at unshut same =
    let any : list_any (λ (r : SeenRow). is_open_at index r) (rows_of rows oid) ≡ true
    = at_any (λ (r : SeenRow). is_open_at index r) (rows_of rows oid) i row at
    (and_from (is_open row) (nat_eq row.index index) unshut (eq-eqb row.index index same)) in
    let (place, other, got, found, passes) = any_found (λ (r : SeenRow). is_open_at index r) (rows_of rows oid) any in
    record { row = other; found = found }

-- what is found is open
pub found_open : (index : ℕ) (rows : List SeenRow) (row : SeenRow) → find (λ (r : SeenRow). is_open_at index r) rows ≡ Some row
    → HasOpen rows
found_open index [] row found = absurd (cc (found))
found_open index (first ∷ rows) row found =
    by_test (is_open_at index first) refl found (λ later. found_open index rows row later)
  where
    by_test : (b : Bool) → is_open_at index first ≡ b → cond b (Some first) (find (λ (r : SeenRow). is_open_at index r) rows) ≡ Some row
        → (find (λ (r : SeenRow). is_open_at index r) rows ≡ Some row → HasOpen rows) → HasOpen (first ∷ rows)
    by_test true is found rest =
        or_left (is_open first) (list_any (λ (r : SeenRow). is_open r) rows)
        (and_parts (is_open first) (nat_eq first.index index) is).0
    by_test false is found rest = or_right (is_open first) (list_any (λ (r : SeenRow). is_open r) rows) (rest found)
