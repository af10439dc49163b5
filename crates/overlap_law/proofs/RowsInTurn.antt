-- The rows of an object at a node stand in turn: each begins no later than it ends, a closed one has ended before the node's epoch, and the
-- next one begins behind it. What a store makes of rows keeps that.
use Rattle.std.proofs.Common.{◌≡◌, ⊎_elim, arith, ℕ, zero, suc, ◌+◌, ◌-◌, ◌<◌, ◌≤◌, nat_le, nat_eq, Bool, true, false, not, cond, ◌&&◌}
use Rattle.std.proofs.Common.{List, [], ◌∷◌, ◌++◌, map, filter, slice_get, Option, Some, None, is_some, refl, sym, ap, subst, ◌∙◌}
use Rattle.std.specs.List.{AllByRecursion}
use Rattle.std.proofs.lemmas.Bool.{and_parts, cases_lt, eq-eqb, leb-true}
use Rattle.std.proofs.lemmas.Option.{same_Some}
use Rattle.proof_tools.proofs.Booleans.{cond_either}
use Rattle.object_id.specs.declared.node.Epoch.{Epoch}
use Rattle.object_id.specs.Fields.{zeros}
use Rattle.object_id.specs.Piece.{laid_over}
use Rattle.object_store.specs.Rows.{has_ended_below, is_open, is_open_at, closed, closed_all, is_replaced, ended, changed, purged}
use Rattle.object_store.specs.Store.{SeenRow, write_in, create_in}
use Rattle.object_store.proofs.RowLemmas.{AllClosed, closed-same, closed_all-closed}
use Rattle.overlap_law.specs.Each.{end_of_row, row_covers}

-- a row begins no later than it ends, and a closed one has ended before the node's epoch
abbrev pub IsWithin : ℕ → SeenRow → Type 0
IsWithin epoch row = (row.from.0 ≤ end_of_row epoch row.to) × (is_open row ≡ false → end_of_row 0 row.to < epoch)

-- a row is closed, and the next one begins behind it
abbrev pub IsBefore : SeenRow → SeenRow → Type 0
IsBefore row next = (is_open row ≡ false) × (end_of_row 0 row.to < next.from.0)

abbrev pub AreInTurn : ℕ → List SeenRow → Type 0
AreInTurn epoch [] = Unit {0}
AreInTurn epoch (row ∷ rows) = IsWithin epoch row × AllByRecursion (IsBefore row) rows × AreInTurn epoch rows

pub same_number : (n : ℕ) → n ≤ n
same_number n = omega arith

unlike : true ≡ false → ⊥
unlike is = cc (is)

-- ---- where a row ends

-- a closed row ends where it ends, whatever the epoch
pub end_shut : (to : Option Epoch) → not (is_some to) ≡ false → (epoch next : ℕ) → end_of_row epoch to ≡ end_of_row next to
end_shut None shut epoch next = absurd (cc (shut))
end_shut (Some last) shut epoch next = refl

-- and no row ends earlier in a later epoch
end_later : (to : Option Epoch) (epoch next : ℕ) → epoch ≤ next → end_of_row epoch to ≤ end_of_row next to
end_later None epoch next later = later
end_later (Some last) epoch next later = same_number last.0

later_within : (epoch next : ℕ) (row : SeenRow) → epoch ≤ next → IsWithin epoch row → IsWithin next row
later_within epoch next row later is = (
  (let order = is.0 in let more = end_later row.to epoch next later in omega (arith, order, more)),
  λ shut. (let ended = is.1 shut in omega (arith, ended, later)),
)

-- an open row ends in the node's epoch
pub end_open : (to : Option Epoch) → not (is_some to) ≡ true → (epoch : ℕ) → end_of_row epoch to ≡ epoch
end_open None unshut epoch = refl
end_open (Some last) unshut epoch = absurd (cc (unshut))

pub open_from : (epoch : ℕ) (row : SeenRow) → is_open row ≡ true → row.from.0 ≤ end_of_row epoch row.to → row.from.0 ≤ epoch
open_from epoch row unshut order = let here = end_open row.to unshut epoch in omega (arith, order, here)

-- ---- one row is closed

pub closed-from : (last : ℕ) (row : SeenRow) → (closed last row).from ≡ row.from
closed-from last row =
    cond_either (λ (r : SeenRow). r.from ≡ row.from) (is_open row) (record row { to = Some (record { 0 = last }) }) row refl refl

closed_within : (epoch last next : ℕ) (row : SeenRow) → (is_open row ≡ true → row.from.0 ≤ last) → last < next → epoch ≤ next
    → IsWithin epoch row → IsWithin next (closed last row)
closed_within epoch last next row from before later is = by_open (is_open row) refl
  where
    by_open : (b : Bool) → is_open row ≡ b → IsWithin next (cond b (record row { to = Some (record { 0 = last }) }) row)
    by_open true unshut = (from unshut, λ shut. before)
    by_open false shut = later_within epoch next row later is

-- ---- rows that are changed each by itself

pub all_mapped : (P Q : SeenRow → Type 0) (f : SeenRow → SeenRow) → ((row : SeenRow) → P row → Q (f row)) → (rows : List SeenRow)
    → AllByRecursion P rows → AllByRecursion Q (map f rows)
all_mapped P Q f so [] all = tt
all_mapped P Q f so (row ∷ rows) all = (so row all.0, all_mapped P Q f so rows all.1)

pub all_weaker : (P Q : SeenRow → Type 0) → ((row : SeenRow) → P row → Q row) → (rows : List SeenRow) → AllByRecursion P rows
    → AllByRecursion Q rows
all_weaker P Q so [] all = tt
all_weaker P Q so (row ∷ rows) all = (so row all.0, all_weaker P Q so rows all.1)

pub all_filtered : (P : SeenRow → Type 0) (test : SeenRow → Bool) (rows : List SeenRow) → AllByRecursion P rows
    → AllByRecursion P (filter test rows)
all_filtered P test [] all = tt
all_filtered P test (row ∷ rows) all =
    cond_either (AllByRecursion P) (test row) (row ∷ filter test rows) (filter test rows) (all.0, all_filtered P test rows all.1)
    (all_filtered P test rows all.1)

pub all_changed : (P : SeenRow → Type 0) (test : SeenRow → Bool) (change : List ℕ → List ℕ)
    → ((row : SeenRow) → P row → P (record row { bytes = change row.bytes })) → (rows : List SeenRow) → AllByRecursion P rows
    → AllByRecursion P (changed test change rows)
all_changed P test change so [] all = tt
all_changed P test change so (row ∷ rows) all =
    cond_either (AllByRecursion P) (test row) ((record row { bytes = change row.bytes }) ∷ rows) (row ∷ changed test change rows)
    (so row all.0, all.1) (all.0, all_changed P test change so rows all.1)

-- what keeps the first epoch of a row, and a closed row whole, keeps what is before what
before-kept : (f : SeenRow → SeenRow) → ((row : SeenRow) → (f row).from ≡ row.from) → ((row : SeenRow) → is_open row ≡ false → f row ≡ row)
    → (row next : SeenRow) → IsBefore row next → IsBefore (f row) (f next)
before-kept f from same row next is =
    subst (λ (r : SeenRow). IsBefore r (f next)) (sym (same row is.0))
    (is.0, subst (λ (e : Epoch). end_of_row 0 row.to < e.0) (sym (from next)) is.1)

in_turn-mapped : (epoch later : ℕ) (f : SeenRow → SeenRow) → ((row : SeenRow) → (f row).from ≡ row.from)
    → ((row : SeenRow) → is_open row ≡ false → f row ≡ row) → ((row : SeenRow) → IsWithin epoch row → IsWithin later (f row))
    → (rows : List SeenRow) → AreInTurn epoch rows → AreInTurn later (map f rows)
in_turn-mapped epoch later f from same within [] are = tt
in_turn-mapped epoch later f from same within (row ∷ rows) are = (
  within row are.0,
  all_mapped (IsBefore row) (IsBefore (f row)) f (before-kept f from same row) rows are.1,
  in_turn-mapped epoch later f from same within rows are.2,
)

pub in_turn-filtered : (epoch : ℕ) (test : SeenRow → Bool) (rows : List SeenRow) → AreInTurn epoch rows → AreInTurn epoch (filter test rows)
in_turn-filtered epoch test [] are = tt
in_turn-filtered epoch test (row ∷ rows) are =
    let rest = in_turn-filtered epoch test rows are.2 in
    cond_either (AreInTurn epoch) (test row) (row ∷ filter test rows) (filter test rows)
    (are.0, all_filtered (IsBefore row) test rows are.1, rest) rest

-- ---- what a store makes of the rows of an object

in_turn-changed : (epoch : ℕ) (test : SeenRow → Bool) (change : List ℕ → List ℕ) (rows : List SeenRow) → AreInTurn epoch rows
    → AreInTurn epoch (changed test change rows)
in_turn-changed epoch test change [] are = tt
in_turn-changed epoch test change (row ∷ rows) are =
    cond_either (AreInTurn epoch) (test row) ((record row { bytes = change row.bytes }) ∷ rows) (row ∷ changed test change rows)
    (are.0, all_weaker (IsBefore row) (IsBefore (record row { bytes = change row.bytes })) (λ next is. is) rows are.1, are.2)
    (are.0, all_changed (IsBefore row) test change (λ next is. is) rows are.1, in_turn-changed epoch test change rows are.2)

pub in_turn-written : (epoch index offset : ℕ) (piece : List ℕ) (rows : List SeenRow) → AreInTurn epoch rows
    → AreInTurn epoch (write_in index offset piece rows)
in_turn-written epoch index offset piece rows are =
    in_turn-changed epoch (is_open_at index) (λ (bytes : List ℕ). laid_over bytes offset piece) rows are

-- some rows end where a later epoch begins, and the others stay as they are
pub in_turn-entered : (epoch : ℕ) (f : SeenRow → SeenRow) (stays : SeenRow → Bool)
    → ((row : SeenRow) → f row ≡ cond (stays row) row (closed epoch row)) → (rows : List SeenRow) → AreInTurn epoch rows
    → AreInTurn (epoch + 1) (map f rows)
in_turn-entered epoch f stays so rows are =
    in_turn-mapped epoch (epoch + 1) f
    (λ row.
    ap (λ (r : SeenRow). r.from) (so row)
    ∙ cond_either (λ (r : SeenRow). r.from ≡ row.from) (stays row) row (closed epoch row) refl (closed-from epoch row))
    (λ row shut. so row ∙ cond_either (λ (r : SeenRow). r ≡ row) (stays row) row (closed epoch row) refl (closed-same epoch row shut))
    (λ row is.
    subst (IsWithin (epoch + 1)) (sym (so row))
    (cond_either (IsWithin (epoch + 1)) (stays row) row (closed epoch row) (later_within epoch (epoch + 1) row (omega arith) is)
    (ends row is)))
    rows are
  where
    ends : (row : SeenRow) → IsWithin epoch row → IsWithin (epoch + 1) (closed epoch row)
    ends row is = closed_within epoch epoch (epoch + 1) row (λ unshut. open_from epoch row unshut is.0) (omega arith) (omega arith) is

-- all end, and a later epoch begins
pub in_turn-closed : (epoch later : ℕ) (rows : List SeenRow) → epoch < later → AreInTurn epoch rows
    → AreInTurn later (closed_all epoch rows)
in_turn-closed epoch later rows before are =
    in_turn-mapped epoch later (closed epoch) (closed-from epoch) (λ row shut. closed-same epoch row shut)
    (λ row is. closed_within epoch epoch later row (λ unshut. open_from epoch row unshut is.0) before (omega (arith, before)) is) rows are

pub in_turn-purged : (epoch settled : ℕ) (rows : List SeenRow) → AreInTurn epoch rows → AreInTurn epoch (purged settled rows)
in_turn-purged epoch settled rows are = in_turn-filtered epoch (λ (row : SeenRow). not (has_ended_below settled row.to)) rows are

-- ---- a row is made

-- one from the epoch goes, and one from an earlier epoch ends before it
shut_before : (epoch : ℕ) (row : SeenRow) → 1 ≤ epoch → is_replaced epoch row ≡ false → IsWithin epoch row
    → IsWithin epoch (closed (epoch - 1) row)
shut_before epoch row some stays is =
    closed_within epoch (epoch - 1) epoch row
    (λ unshut. earlier unshut (ap (λ (b : Bool). b && nat_eq row.from.0 epoch) (sym unshut) ∙ stays))
    (omega (arith, some)) (omega arith) is
  where
    earlier : is_open row ≡ true → nat_eq row.from.0 epoch ≡ false → row.from.0 ≤ epoch - 1
    earlier unshut other =
        let most = open_from epoch row unshut is.0 in
        ⊎_elim
        (λ (lower : row.from.0 < epoch). omega (arith, lower))
        (λ (over : epoch ≤ row.from.0).
        let same : nat_eq row.from.0 epoch ≡ true = eq-eqb row.from.0 epoch (omega (arith, most, over)) in
        absurd (cc (same, other)))
        (cases_lt row.from.0 epoch)

before_ended : (epoch : ℕ) (row : SeenRow) (rows : List SeenRow) → AllByRecursion (IsBefore row) rows
    → AllByRecursion (IsBefore (closed (epoch - 1) row)) (ended epoch rows)
before_ended epoch row rows all =
    all_mapped (IsBefore row) (IsBefore (closed (epoch - 1) row)) (closed (epoch - 1))
    (before-kept (closed (epoch - 1)) (closed-from (epoch - 1)) (closed-same (epoch - 1)) row)
    (filter (λ (row : SeenRow). not (is_replaced epoch row)) rows)
    (all_filtered (IsBefore row) (λ (row : SeenRow). not (is_replaced epoch row)) rows all)

in_turn-ended : (epoch : ℕ) → 1 ≤ epoch → (rows : List SeenRow) → AreInTurn epoch rows → AreInTurn epoch (ended epoch rows)
in_turn-ended epoch some [] are = tt
in_turn-ended epoch some (row ∷ rows) are = by_test (is_replaced epoch row) refl (in_turn-ended epoch some rows are.2)
  where
    left : List SeenRow
    left = filter (λ (row : SeenRow). not (is_replaced epoch row)) rows

    by_test : (b : Bool) → is_replaced epoch row ≡ b → AreInTurn epoch (ended epoch rows)
        → AreInTurn epoch (closed_all (epoch - 1) (cond (not b) (row ∷ left) left))
    by_test true goes rest = rest
    by_test false stays rest = (shut_before epoch row some stays are.0, before_ended epoch row rows are.1, rest)

-- the new row stands behind rows that are closed
in_turn-push : (epoch : ℕ) (new : SeenRow) → IsWithin epoch new → (rows : List SeenRow) → AreInTurn epoch rows
    → AllByRecursion (λ (row : SeenRow). IsBefore row new) rows → AreInTurn epoch (rows ++ new ∷ [])
in_turn-push epoch new is [] are before = (is, tt, tt)
in_turn-push epoch new is (row ∷ rows) are before =
    (are.0, pushed rows are.1, in_turn-push epoch new is rows are.2 before.1)
  where
    pushed : (next : List SeenRow) → AllByRecursion (IsBefore row) next → AllByRecursion (IsBefore row) (next ++ new ∷ [])
    pushed [] all = (before.0, tt)
    pushed (one ∷ next) all = (all.0, pushed next all.1)

before_new : (epoch : ℕ) (new : SeenRow) → new.from.0 ≡ epoch → (rows : List SeenRow) → AreInTurn epoch rows → AllClosed rows
    → AllByRecursion (λ (row : SeenRow). IsBefore row new) rows
before_new epoch new from [] are shut = tt
before_new epoch new from (row ∷ rows) are shut = (
  (shut.0, (let ended = are.0.1 shut.0 in omega (arith, ended, from))),
  before_new epoch new from rows are.2 shut.1,
)

pub in_turn-created : (epoch index size offset : ℕ) (piece : List ℕ) (rows : List SeenRow) → 1 ≤ epoch → AreInTurn epoch rows
    → AreInTurn epoch (create_in index epoch size offset piece rows)
in_turn-created epoch index size offset piece rows some are =
    let new : SeenRow = record { index = index; from = record { 0 = epoch }; to = None; bytes = laid_over (zeros size) offset piece } in
    let before = in_turn-ended epoch some rows are in
    let kept : List SeenRow = filter (λ (row : SeenRow). not (is_replaced epoch row)) rows in
    in_turn-push epoch new (same_number epoch, λ shut. absurd (unlike shut)) (ended epoch rows) before
    (before_new epoch new refl (ended epoch rows) before (closed_all-closed (epoch - 1) kept))

-- ---- what it says of the rows at their places

pub within_at : (epoch : ℕ) (rows : List SeenRow) (i : ℕ) (row : SeenRow) → slice_get rows i ≡ Some row → AreInTurn epoch rows
    → IsWithin epoch row
within_at epoch [] i row got are = absurd (cc (got))
within_at epoch (first ∷ rows) zero row got are = subst (IsWithin epoch) (same_Some first row got) are.0
within_at epoch (first ∷ rows) (suc i) row got are = within_at epoch rows i row got are.2

before_all : (first : SeenRow) (rows : List SeenRow) (i : ℕ) (row : SeenRow) → slice_get rows i ≡ Some row
    → AllByRecursion (IsBefore first) rows → IsBefore first row
before_all first [] i row got all = absurd (cc (got))
before_all first (next ∷ rows) zero row got all = subst (IsBefore first) (same_Some next row got) all.0
before_all first (next ∷ rows) (suc i) row got all = before_all first rows i row got all.1

before_at : (epoch : ℕ) (rows : List SeenRow) (i k : ℕ) (row other : SeenRow) → slice_get rows i ≡ Some row → slice_get rows k ≡ Some other
    → i < k → AreInTurn epoch rows → IsBefore row other
before_at epoch [] i k row other got next less are = absurd (cc (got))
before_at epoch (first ∷ rows) zero zero row other got next less are = absurd (omega (arith, less))
before_at epoch (first ∷ rows) zero (suc k) row other got next less are =
    subst (λ (r : SeenRow). IsBefore r other) (same_Some first row got) (before_all first rows k other next are.1)
before_at epoch (first ∷ rows) (suc i) zero row other got next less are = absurd (omega (arith, less))
before_at epoch (first ∷ rows) (suc i) (suc k) row other got next less are =
    before_at epoch rows i k row other got next (omega (arith, less)) are.2

module _ (epoch : ℕ) (rows : List SeenRow) (are : AreInTurn epoch rows) where
  -- what two rows can't be where one stands before the other, they are at one place alone
  one_place : (P : SeenRow → Type 0) → ((row other : SeenRow) → IsBefore row other → IsWithin epoch row → P row → P other → ⊥)
      → (i k : ℕ) (row other : SeenRow) → slice_get rows i ≡ Some row → slice_get rows k ≡ Some other → P row → P other → i ≡ k
  one_place P apart i k row other got next first second = ⊎_elim
      (λ (less : i < k).
      absurd (apart row other (before_at epoch rows i k row other got next less are) (within_at epoch rows i row got are) first second))
      (λ (most : k ≤ i). ⊎_elim
      (λ (less : k < i).
      absurd (apart other row (before_at epoch rows k i other row next got less are) (within_at epoch rows k other next are) second first))
      (λ (least : i ≤ k). omega (arith, most, least))
      (cases_lt k i))
      (cases_lt i k)

  pub one_is_open : (i k : ℕ) (row other : SeenRow) → slice_get rows i ≡ Some row → slice_get rows k ≡ Some other → is_open row ≡ true
      → is_open other ≡ true → i ≡ k
  one_is_open = one_place (λ (row : SeenRow). is_open row ≡ true) (λ row other before within unshut also. cc (before.0, unshut))

  pub one_covers : (level i k : ℕ) (row other : SeenRow) → slice_get rows i ≡ Some row → slice_get rows k ≡ Some other
      → row_covers epoch level row ≡ true → row_covers epoch level other ≡ true → i ≡ k
  one_covers level = one_place (λ (row : SeenRow). row_covers epoch level row ≡ true) (λ row other before within covers also.
      (let here = leb-true level (end_of_row epoch row.to)
      (and_parts (nat_le row.from.0 level) (nat_le level (end_of_row epoch row.to)) covers).1 in
      let there = leb-true other.from.0 level (and_parts (nat_le other.from.0 level) (nat_le level (end_of_row epoch other.to)) also).0 in
      let ends = end_shut row.to before.0 0 epoch in
      let behind = before.1 in
      omega (arith, here, there, ends, behind)))
