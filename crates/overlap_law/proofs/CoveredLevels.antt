-- A level that a row of an object covers at a node is covered still, whatever a store makes of the rows: they end only where others begin,
-- and those that are dropped where an epoch is settled ended below it.
use Rattle.std.proofs.Common.{◌≡◌, ◌⊎◌, inl, inr, ⊎_elim, arith, ℕ, ◌+◌, ◌-◌, ◌<◌, ◌≤◌, nat_lt, nat_le, nat_eq, Bool, true, false, not}
use Rattle.std.proofs.Common.{cond, ◌||◌, List, [], ◌∷◌, ◌++◌, map, filter, Option, Some, None, refl, sym, ap, ◌∙◌}
use Rattle.std.specs.List.{list_any}
use Rattle.std.proofs.lemmas.Bool.{and_parts, and_from, cases_lt, eqb-true, le-leb, leb-true, ltb-true, or_left, or_right, or_cases}
use Rattle.object_id.specs.declared.node.Epoch.{Epoch}
use Rattle.object_id.specs.Fields.{zeros}
use Rattle.object_id.specs.Piece.{laid_over}
use Rattle.object_store.specs.Rows.{has_ended_below, is_open, is_open_at, closed, closed_all, is_replaced, ended, changed, purged}
use Rattle.object_store.specs.Store.{SeenRow, write_in, create_in}
use Rattle.overlap_law.specs.Each.{end_of_row, row_covers}
use Rattle.overlap_law.proofs.RowsInTurn.{same_number, end_open, end_shut}

-- a row of an object covers the level, at a node of an epoch
abbrev pub Covers : ℕ → ℕ → List SeenRow → Type 0
Covers level epoch rows = list_any (row_covers epoch level) rows ≡ true

-- ---- one row

pub covers_from : (level epoch : ℕ) (row : SeenRow) → row_covers epoch level row ≡ true → row.from.0 ≤ level
covers_from level epoch row covers =
    leb-true row.from.0 level (and_parts (nat_le row.from.0 level) (nat_le level (end_of_row epoch row.to)) covers).0

pub covers_to : (level epoch : ℕ) (row : SeenRow) → row_covers epoch level row ≡ true → level ≤ end_of_row epoch row.to
covers_to level epoch row covers =
    leb-true level (end_of_row epoch row.to) (and_parts (nat_le row.from.0 level) (nat_le level (end_of_row epoch row.to)) covers).1

pub covers_by : (level epoch : ℕ) (row : SeenRow) → row.from.0 ≤ level → level ≤ end_of_row epoch row.to → row_covers epoch level row ≡ true
covers_by level epoch row from to =
    and_from (nat_le row.from.0 level) (nat_le level (end_of_row epoch row.to)) (le-leb row.from.0 level from)
    (le-leb level (end_of_row epoch row.to) to)

-- a row that is closed at an epoch covers the levels up to there
closed_covers : (level epoch last next : ℕ) (row : SeenRow) → (is_open row ≡ true → level ≤ last) → row_covers epoch level row ≡ true
    → row_covers next level (closed last row) ≡ true
closed_covers level epoch last next row up_to covers = by_test (is_open row) refl
  where
    by_test : (b : Bool) → is_open row ≡ b → row_covers next level (cond b (record row { to = Some (record { 0 = last }) }) row) ≡ true
    by_test true still =
        covers_by level next (record row { to = Some (record { 0 = last }) }) (covers_from level epoch row covers) (up_to still)
    by_test false shut =
        let to = covers_to level epoch row covers in
        let same = end_shut row.to shut epoch next in
        covers_by level next row (covers_from level epoch row covers) (omega (arith, to, same))

later_covers : (level epoch next : ℕ) (row : SeenRow) → epoch ≤ next → row_covers epoch level row ≡ true → row_covers next level row ≡ true
later_covers level epoch next row later covers = by_test (is_open row) refl
  where
    by_test : (b : Bool) → is_open row ≡ b → row_covers next level row ≡ true
    by_test true still =
        let to = covers_to level epoch row covers in
        let was = end_open row.to still epoch in
        let now = end_open row.to still next in
        covers_by level next row (covers_from level epoch row covers) (omega (arith, to, was, now, later))
    by_test false shut =
        let to = covers_to level epoch row covers in
        let same = end_shut row.to shut epoch next in
        covers_by level next row (covers_from level epoch row covers) (omega (arith, to, same))

-- ---- some rows

any_mapped : (p q : SeenRow → Bool) (f : SeenRow → SeenRow) → ((row : SeenRow) → p row ≡ true → q (f row) ≡ true) → (rows : List SeenRow)
    → list_any p rows ≡ true → list_any q (map f rows) ≡ true
any_mapped p q f so [] any = any
any_mapped p q f so (row ∷ rows) any = ⊎_elim
    (λ (here : p row ≡ true). or_left (q (f row)) (list_any q (map f rows)) (so row here))
    (λ (later : list_any p rows ≡ true). or_right (q (f row)) (list_any q (map f rows)) (any_mapped p q f so rows later))
    (or_cases (p row) (list_any p rows) any)

-- a row that passes the first test, and goes by the other
abbrev pub OneGoes : (SeenRow → Bool) → (SeenRow → Bool) → Type 0
OneGoes p test = (row : SeenRow) × (p row ≡ true) × (test row ≡ false)

any_filtered : (p q test : SeenRow → Bool) → ((row : SeenRow) → p row ≡ true → test row ≡ true → q row ≡ true) → (rows : List SeenRow)
    → list_any p rows ≡ true → (list_any q (filter test rows) ≡ true) ⊎ OneGoes p test
any_filtered p q test so [] any = absurd (cc (any))
any_filtered p q test so (row ∷ rows) any =
    by_test (test row) refl (λ later. any_filtered p q test so rows later) (or_cases (p row) (list_any p rows) any)
  where
    by_test : (b : Bool) → test row ≡ b → (list_any p rows ≡ true → (list_any q (filter test rows) ≡ true) ⊎ OneGoes p test)
        → (p row ≡ true) ⊎ (list_any p rows ≡ true)
        → (list_any q (cond b (row ∷ filter test rows) (filter test rows)) ≡ true) ⊎ OneGoes p test
    by_test true kept rest either = ⊎_elim
        (λ (here : p row ≡ true). inl (or_left (q row) (list_any q (filter test rows)) (so row here kept)))
        (λ (later : list_any p rows ≡ true). ⊎_elim
        (λ (found : list_any q (filter test rows) ≡ true). inl (or_right (q row) (list_any q (filter test rows)) found))
        (λ (goes : OneGoes p test). inr goes)
        (rest later))
        either
    by_test false goes rest either = ⊎_elim
        (λ (here : p row ≡ true). inr (row, here, goes))
        (λ (later : list_any p rows ≡ true). rest later)
        either

any_pushed : (p : SeenRow → Bool) (rows : List SeenRow) (new : SeenRow) → (list_any p rows ≡ true) ⊎ (p new ≡ true)
    → list_any p (rows ++ new ∷ []) ≡ true
any_pushed p [] new either = ⊎_elim
    (λ (old : list_any p [] ≡ true). absurd (cc (old)))
    (λ (own : p new ≡ true). or_left (p new) false own)
    either
any_pushed p (row ∷ rows) new either = ⊎_elim
    (λ (old : list_any p (row ∷ rows) ≡ true). ⊎_elim
    (λ (here : p row ≡ true). or_left (p row) (list_any p (rows ++ new ∷ [])) here)
    (λ (later : list_any p rows ≡ true). or_right (p row) (list_any p (rows ++ new ∷ [])) (any_pushed p rows new (inl later)))
    (or_cases (p row) (list_any p rows) old))
    (λ (own : p new ≡ true). or_right (p row) (list_any p (rows ++ new ∷ [])) (any_pushed p rows new (inr own)))
    either

-- ---- what a store makes of the rows of an object

pub any_changed : (p : SeenRow → Bool) (test : SeenRow → Bool) (change : List ℕ → List ℕ)
    → ((row : SeenRow) → p (record row { bytes = change row.bytes }) ≡ p row) → (rows : List SeenRow)
    → list_any p (changed test change rows) ≡ list_any p rows
any_changed p test change same [] = refl
any_changed p test change same (row ∷ rows) = by_test (test row) (any_changed p test change same rows)
  where
    by_test : (b : Bool) → list_any p (changed test change rows) ≡ list_any p rows
        → list_any p (cond b ((record row { bytes = change row.bytes }) ∷ rows) (row ∷ changed test change rows))
        ≡ (p row || list_any p rows)
    by_test true rest = ap (λ (b : Bool). b || list_any p rows) (same row)
    by_test false rest = ap (λ (b : Bool). p row || b) rest

pub written-covers : (level epoch index offset : ℕ) (piece : List ℕ) (rows : List SeenRow) → Covers level epoch rows
    → Covers level epoch (write_in index offset piece rows)
written-covers level epoch index offset piece rows covers =
    any_changed (row_covers epoch level) (is_open_at index) (λ (bytes : List ℕ). laid_over bytes offset piece) (λ row. refl) rows ∙ covers

-- the row that is made covers its epoch
pub created-own : (epoch index size offset : ℕ) (piece : List ℕ) (rows : List SeenRow)
    → Covers epoch epoch (create_in index epoch size offset piece rows)
created-own epoch index size offset piece rows =
    let new : SeenRow = record { index = index; from = record { 0 = epoch }; to = None; bytes = laid_over (zeros size) offset piece } in
    any_pushed (row_covers epoch epoch) (ended epoch rows) new (inr (covers_by epoch epoch new (same_number epoch) (same_number epoch)))

pub created-covers : (level epoch index size offset : ℕ) (piece : List ℕ) (rows : List SeenRow) → Covers level epoch rows
    → level ≤ epoch → Covers level epoch (create_in index epoch size offset piece rows)
created-covers level epoch index size offset piece rows covers most = ⊎_elim
    (λ (below : level < epoch). earlier below)
    (λ (least : epoch ≤ level).
    let same : epoch ≡ level = omega (arith, most, least) in
    ap (λ (k : ℕ). list_any (row_covers epoch k) (create_in index epoch size offset piece rows)) (sym same)
    ∙ created-own epoch index size offset piece rows)
    (cases_lt level epoch)
  where
    new : SeenRow
    new = record { index = index; from = record { 0 = epoch }; to = None; bytes = laid_over (zeros size) offset piece }

    kept : List SeenRow
    kept = filter (λ (row : SeenRow). not (is_replaced epoch row)) rows

    -- what goes begins in the epoch
    replaced : (row : SeenRow) → row_covers epoch level row ≡ true → not (is_replaced epoch row) ≡ false → epoch ≤ level
    replaced row here goes = by_test (is_replaced epoch row) refl goes
      where
        by_test : (b : Bool) → is_replaced epoch row ≡ b → not b ≡ false → epoch ≤ level
        by_test true is goes =
            let from = covers_from level epoch row here in
            let same = eqb-true row.from.0 epoch (and_parts (is_open row) (nat_eq row.from.0 epoch) is).1 in
            omega (arith, from, same)
        by_test false is goes = absurd (cc (goes))

    shut : list_any (row_covers epoch level) kept ≡ true → level < epoch → Covers level epoch (create_in index epoch size offset piece rows)
    shut any below =
        any_pushed (row_covers epoch level) (ended epoch rows) new
        (inl (any_mapped (row_covers epoch level) (row_covers epoch level) (closed (epoch - 1))
        (λ row here. closed_covers level epoch (epoch - 1) epoch row (λ still. omega (arith, below)) here) kept any))

    earlier : level < epoch → Covers level epoch (create_in index epoch size offset piece rows)
    earlier below = ⊎_elim
        (λ (any : list_any (row_covers epoch level) kept ≡ true). shut any below)
        (λ goes. (let over = replaced goes.0 goes.1 goes.2 in absurd (omega (arith, over, below))))
        (any_filtered (row_covers epoch level) (row_covers epoch level) (λ (row : SeenRow). not (is_replaced epoch row))
        (λ row here test. here) rows covers)

-- some rows end with an epoch, and a later one begins
pub entered-covers : (level epoch : ℕ) (f : SeenRow → SeenRow) (stays : SeenRow → Bool)
    → ((row : SeenRow) → f row ≡ cond (stays row) row (closed epoch row)) → level ≤ epoch → (rows : List SeenRow) → Covers level epoch rows
    → Covers level (epoch + 1) (map f rows)
entered-covers level epoch f stays so most rows covers =
    any_mapped (row_covers epoch level) (row_covers (epoch + 1) level) f
    (λ row here. ap (row_covers (epoch + 1) level) (so row) ∙ by_test row here (stays row)) rows covers
  where
    by_test : (row : SeenRow) → row_covers epoch level row ≡ true → (b : Bool)
        → row_covers (epoch + 1) level (cond b row (closed epoch row)) ≡ true
    by_test row here true = later_covers level epoch (epoch + 1) row (omega arith) here
    by_test row here false = closed_covers level epoch epoch (epoch + 1) row (λ still. most) here

pub closed-covers : (level epoch later : ℕ) (rows : List SeenRow) → level ≤ epoch → Covers level epoch rows
    → Covers level later (closed_all epoch rows)
closed-covers level epoch later rows most covers =
    any_mapped (row_covers epoch level) (row_covers later level) (closed epoch)
    (λ row here. closed_covers level epoch epoch later row (λ still. most) here) rows covers

-- what is dropped where an epoch is settled ended below it
ended_below : (settled level epoch : ℕ) (to : Option Epoch) → not (has_ended_below settled to) ≡ false → level ≤ end_of_row epoch to
    → level < settled
ended_below settled level epoch None goes to = absurd (cc (goes))
ended_below settled level epoch (Some last) goes to = by_test (nat_lt last.0 settled) refl goes
  where
    by_test : (b : Bool) → nat_lt last.0 settled ≡ b → not b ≡ false → level < settled
    by_test true below goes = let less = ltb-true last.0 settled below in omega (arith, less, to)
    by_test false past goes = absurd (cc (goes))

pub purged-covers : (level epoch settled : ℕ) (rows : List SeenRow) → Covers level epoch rows
    → Covers level epoch (purged settled rows) ⊎ (level < settled)
purged-covers level epoch settled rows covers = ⊎_elim
    (λ (any : Covers level epoch (purged settled rows)). inl any)
    (λ goes. inr (ended_below settled level epoch goes.0.to goes.2 (covers_to level epoch goes.0 goes.1)))
    (any_filtered (row_covers epoch level) (row_covers epoch level) (λ (row : SeenRow). not (has_ended_below settled row.to))
    (λ row here test. here) rows covers)
