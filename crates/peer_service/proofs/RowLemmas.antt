-- What the laws need of rows: which stay, which are open, and changes of all objects that come to the same.
use Rattle.std.proofs.Common.{◌≡◌, ℕ, ◌+◌, ◌-◌, ◌≤◌, Bool, true, false, not, cond, ◌&&◌, nat_eq, T, List, [], ◌∷◌, ◌++◌, length, map, filter, take, drop, Option, Some, None, is_some, unwrap_or, refl, ap, ap₂, sym, ◌∙◌, subst, arith, length-append}
use Rattle.std.proofs.lemmas.Bool.Decides.{nat_tests}
use Rattle.std.proofs.lemmas.List.{length-take-le, drop-append-le}
use Rattle.std.proofs.Math.Seq.{drop-append_seam, take-append_seam}
use Rattle.std.specs.Ordering.{is_eq, nat_cmp}
use Rattle.std.specs.FinMap as tree
use Rattle.std.specs.FinMap.Entries.{find, is_sorted, below_all}
use Rattle.proof_tools.proofs.FiniteMaps.{is_at-true, is_at-same, less_from_test}
use Rattle.proof_tools.proofs.Booleans.{T_and_left, T_and_right}
use Rattle.object_id.specs.Piece.{laid_over}
use Rattle.object_id.specs.declared.node.Epoch.{Epoch}
use Rattle.object_store.specs.Bytes.{piece_at}
use Rattle.object_store.specs.Rows.{is_open, open_at, closed, closed_all, is_replaced, ended, created, purged, has_ended_below, OpenFrom}
use Rattle.object_store.specs.Store.{SeenRow, AllRows, rows_of, with_rows, each_entry, each, OpenUpTo}
use Rattle.object_store.proofs.RowLemmas.{AllClosed, find-front, closed_all-closed}
use Rattle.object_store.proofs.StoreLaws.{rows_of-each}

-- ---- pieces

-- what stands where a piece was laid over
pub piece_at-laid_over : (bytes : List ℕ) (offset : ℕ) (piece : List ℕ) → offset + length piece ≤ length bytes
    → piece_at (laid_over bytes offset piece) offset (length piece) ≡ piece
piece_at-laid_over bytes offset piece inside =
    let front : List ℕ = take offset bytes in
    let rest : List ℕ = drop (offset + length piece) bytes in
    let long : length front ≡ offset = length-take-le offset bytes (omega arith) in
    let reaches : offset ≤ length (front ++ piece) = omega (arith, long, length-append front piece) in
    ap (take (length piece)) (drop-append-le offset (front ++ piece) rest reaches)
    ∙ ap (λ n. take (length piece) (drop n (front ++ piece) ++ rest)) (sym long)
    ∙ ap (λ (bytes : List ℕ). take (length piece) (bytes ++ rest)) (drop-append_seam front piece)
    ∙ take-append_seam piece rest

-- ---- open rows

pub open_at-created : (index epoch : ℕ) (bytes : List ℕ) (rows : List SeenRow)
    → open_at index (created index epoch bytes rows) ≡ Some (record { index = index; from = record { 0 = epoch }; to = None; bytes = bytes })
open_at-created index epoch bytes rows =
    let same : nat_eq index index ≡ true = grind (arith, nat_tests) in
    find-front index (ended epoch rows) _ (closed_all-closed (epoch - 1) (filter (λ row. not (is_replaced epoch row)) rows))
    ∙ ap (λ b. cond b (Some (record { index = index; from = record { 0 = epoch }; to = None; bytes = bytes })) None) same

is_open-closed : (last : ℕ) (row : SeenRow) → is_open (closed last row) ≡ false
is_open-closed last row = (closed_all-closed last (row ∷ [])).0

none_open : (rows : List SeenRow) → AllClosed rows → filter is_open rows ≡ []
none_open [] shut = refl
none_open (row ∷ rows) shut = ap (λ b. cond b (row ∷ filter is_open rows) (filter is_open rows)) shut.0 ∙ none_open rows shut.1

closed-filter : (test : SeenRow → Bool) (rows : List SeenRow) → AllClosed rows → AllClosed (filter test rows)
closed-filter test [] shut = tt
closed-filter test (row ∷ rows) shut = go (test row) (closed-filter test rows shut.1)
  where
    go : (b : Bool) → AllClosed (filter test rows) → AllClosed (cond b (row ∷ filter test rows) (filter test rows))
    go true rest = (shut.0, rest)
    go false rest = rest

-- of rows that were closed some are left
pub none_open_left : (b : Bool) (settled last : ℕ) (rows : List SeenRow) → filter is_open (cond b [] (purged settled (closed_all last rows))) ≡ []
none_open_left true settled last rows = refl
none_open_left false settled last rows =
    none_open (purged settled (closed_all last rows))
    (closed-filter (λ row. not (has_ended_below settled row.to)) (closed_all last rows) (closed_all-closed last rows))

-- a row that stays or is closed, by its index
abbrev pub kept_or_closed : (ℕ → Bool) → ℕ → SeenRow → SeenRow
kept_or_closed stays last row = cond (stays row.index) row (closed last row)

pub open-kept_or_closed : (stays : ℕ → Bool) (last : ℕ) (rows : List SeenRow)
    → filter is_open (map (kept_or_closed stays last) rows) ≡ filter (λ row. is_open row && stays row.index) rows
open-kept_or_closed stays last [] = refl
open-kept_or_closed stays last (row ∷ rows) = go (stays row.index) refl (open-kept_or_closed stays last rows)
  where
    new : List SeenRow
    new = filter is_open (map (kept_or_closed stays last) rows)

    old : List SeenRow
    old = filter (λ row. is_open row && stays row.index) rows

    stayed : (o : Bool) → cond o (row ∷ new) new ≡ cond (o && true) (row ∷ new) new
    stayed true = refl
    stayed false = refl

    shut : (o : Bool) → new ≡ cond (o && false) (row ∷ new) new
    shut true = refl
    shut false = refl

    go : (b : Bool) → stays row.index ≡ b → new ≡ old
        → filter is_open (kept_or_closed stays last row ∷ map (kept_or_closed stays last) rows)
        ≡ cond (is_open row && stays row.index) (row ∷ old) old
    go true is rest =
        ap (λ b. filter is_open (cond b row (closed last row) ∷ map (kept_or_closed stays last) rows)) is
        ∙ stayed (is_open row)
        ∙ ap₂ (λ b (left : List SeenRow). cond (is_open row && b) (row ∷ left) left) (sym is) rest
    go false is rest =
        ap (λ b. filter is_open (cond b row (closed last row) ∷ map (kept_or_closed stays last) rows)) is
        ∙ ap (λ b. cond b (closed last row ∷ new) new) (is_open-closed last row)
        ∙ shut (is_open row)
        ∙ ap₂ (λ b (left : List SeenRow). cond (is_open row && b) (row ∷ left) left) (sym is) rest

pub open-purged : (settled : ℕ) (rows : List SeenRow) → filter is_open (purged settled rows) ≡ filter is_open rows
open-purged settled [] = refl
open-purged settled (row ∷ rows) = go row.to refl (open-purged settled rows)
  where
    left : List SeenRow
    left = purged settled rows

    either : (b : Bool) → is_open row ≡ false → filter is_open (cond b (row ∷ left) left) ≡ filter is_open left
    either true shut = ap (λ t. cond t (row ∷ filter is_open left) (filter is_open left)) shut
    either false shut = refl

    go : (to : Option Epoch) → row.to ≡ to → filter is_open left ≡ filter is_open rows
        → filter is_open (cond (not (has_ended_below settled row.to)) (row ∷ left) left) ≡ cond (is_open row) (row ∷ filter is_open rows) (filter is_open rows)
    go None is rest =
        ap (λ to. filter is_open (cond (not (has_ended_below settled to)) (row ∷ left) left)) is
        ∙ ap (λ (rs : List SeenRow). cond (is_open row) (row ∷ rs) rs) rest
    go (Some to) is rest =
        let shut : is_open row ≡ false = ap (λ (to : Option Epoch). not (is_some to)) is in
        either (not (has_ended_below settled row.to)) shut ∙ rest
        ∙ sym (ap (λ b. cond b (row ∷ filter is_open rows) (filter is_open rows)) shut)

-- ---- from which epochs open rows are

pub OpenFrom-map : (P : ℕ → Type 0) (stays : ℕ → Bool) (last : ℕ) (rows : List SeenRow) → OpenFrom P rows → OpenFrom P (map (kept_or_closed stays last) rows)
OpenFrom-map P stays last [] had = tt
OpenFrom-map P stays last (row ∷ rows) had = (go (stays row.index), OpenFrom-map P stays last rows had.1)
  where
    go : (b : Bool) → is_open (cond b row (closed last row)) ≡ true → P (cond b row (closed last row)).from.0
    go true is = had.0 is
    go false is = absurd (cc (is, is_open-closed last row))

pub OpenFrom-left : (P : ℕ → Type 0) (b : Bool) (rows : List SeenRow) → OpenFrom P rows → OpenFrom P (cond b [] rows)
OpenFrom-left P true rows had = tt
OpenFrom-left P false rows had = had

pub OpenUpTo-change : (last : ℕ) (change : ℕ → List SeenRow → List SeenRow) → ((oid : ℕ) → change oid [] ≡ [])
    → ((oid : ℕ) (rows : List SeenRow) → OpenFrom (λ from. from ≤ last) rows → OpenFrom (λ from. from ≤ last) (change oid rows))
    → (all : AllRows) → OpenUpTo last all → OpenUpTo last (each change all)
OpenUpTo-change last change none keeps all had oid =
    subst (OpenFrom (λ from. from ≤ last)) (sym (rows_of-each change all oid (none oid))) (keeps oid (rows_of all oid) (had oid))

-- ---- changes of all objects

none_below : (q : ℕ) (es : List (ℕ × List SeenRow)) → T (below_all nat_cmp q es) → find nat_cmp q es ≡ None
none_below q [] below = refl
none_below q (e ∷ es) below =
    ap (λ b. cond b (Some e.1) (find nat_cmp q es)) (ap is_eq (less_from_test (nat_cmp q e.0) (T_and_left _ _ below))) ∙ none_below q es (T_and_right _ _ below)

rows_in : List (ℕ × List SeenRow) → ℕ → List SeenRow
rows_in es q = unwrap_or (find nat_cmp q es) []

each_entry_alike : (f g : ℕ → List SeenRow → List SeenRow) → ((q : ℕ) → f q [] ≡ g q []) → (es : List (ℕ × List SeenRow)) → T (is_sorted nat_cmp es)
    → ((q : ℕ) → f q (rows_in es q) ≡ g q (rows_in es q)) → each_entry f es ≡ each_entry g es
unfolding rows_in
each_entry_alike f g none [] sorted alike = refl
each_entry_alike f g none (e ∷ es) sorted alike =
    let here : f e.0 e.1 ≡ g e.0 e.1
    = ap (λ b. f e.0 (unwrap_or (cond b (Some e.1) (find nat_cmp e.0 es)) [])) (sym (is_at-same e.0)) ∙ alike e.0
    ∙ ap (λ b. g e.0 (unwrap_or (cond b (Some e.1) (find nat_cmp e.0 es)) [])) (is_at-same e.0) in
    ap₂ (λ (rows : List SeenRow) (rest : List (ℕ × List SeenRow)). with_rows e.0 rows rest) here
    (each_entry_alike f g none es (T_and_right _ _ sorted) (λ q. go q (is_eq (nat_cmp q e.0)) refl (alike q)))
  where
    go : (q : ℕ) (b : Bool) → is_eq (nat_cmp q e.0) ≡ b
        → f q (unwrap_or (cond (is_eq (nat_cmp q e.0)) (Some e.1) (find nat_cmp q es)) [])
        ≡ g q (unwrap_or (cond (is_eq (nat_cmp q e.0)) (Some e.1) (find nat_cmp q es)) [])
        → f q (unwrap_or (find nat_cmp q es) []) ≡ g q (unwrap_or (find nat_cmp q es) [])
    go q true at same =
        let nothing : find nat_cmp q es ≡ None
        = none_below q es (subst (λ k. T (below_all nat_cmp k es)) (sym (is_at-true q e.0 at)) (T_and_left _ _ sorted)) in
        ap (λ (o : Option (List SeenRow)). f q (unwrap_or o [])) nothing ∙ none q
        ∙ sym (ap (λ (o : Option (List SeenRow)). g q (unwrap_or o [])) nothing)
    go q false at same =
        sym (ap (λ b. f q (unwrap_or (cond b (Some e.1) (find nat_cmp q es)) [])) at) ∙ same
        ∙ ap (λ b. g q (unwrap_or (cond b (Some e.1) (find nat_cmp q es)) [])) at

-- two changes that make the same of each object's rows
pub each-alike : (f g : ℕ → List SeenRow → List SeenRow) (all : AllRows) → ((q : ℕ) → f q [] ≡ g q [])
    → ((q : ℕ) → f q (rows_of all q) ≡ g q (rows_of all q)) → each f all ≡ each g all
unfolding each rows_in
each-alike f g all none alike =
    ap tree.from_entries
    (each_entry_alike f g none (tree.entries all) (tree.entries_sorted all)
    (λ q. ap (λ (o : Option (List SeenRow)). f q (unwrap_or o [])) (sym (tree.get-entries all q)) ∙ alike q
    ∙ ap (λ (o : Option (List SeenRow)). g q (unwrap_or o [])) (tree.get-entries all q)))
