-- What each call leaves of an object's rows, for callers of any store.
use Rattle.std.proofs.Common.{◌≡◌, ◌≢◌, ℕ, ◌+◌, ◌-◌, ◌<◌, ◌≤◌, Bool, true, false, not, cond, nat_eq, nat_le, List, [], ◌∷◌, ◌++◌, length, filter, Option, Some, None, Result, Ok, Err, unwrap_or, refl, ap, sym, ◌∙◌, subst, arith}
use Rattle.std.specs.Ordering.{nat_cmp}
use Rattle.std.specs.Cmp.{nat_cmp_total}
use Rattle.std.specs.BTreeMap.{is_at}
use Rattle.std.specs.FinMap as tree
use Rattle.proof_tools.proofs.FiniteMaps.{is_at-same, is_at-other, find-lookup}
use Rattle.object_id.specs.Oid.{vid_of}
use Rattle.object_store.specs.declared.key.Key.{Key}
use Rattle.object_store.specs.declared.row.Row.{Row}
use Rattle.object_store.specs.declared.fault.StoreFault.{StoreFault}
use Rattle.object_store.specs.declared.fault.StoreFault.TheVariants.{NoObj, OutOfObject, NoMemory}
use Rattle.object_store.specs.Rows.{is_open, is_open_at, closed, closed_all, is_replaced, ended, created, changed, is_kept, advanced, purged, has_ended_below, without_disk, OpenFrom}
use Rattle.object_store.specs.Store.{SeenRow, AllRows, rows_of, open_row, on_open, create_at, write_at, each_entry, each, OpenUpTo, OpenBelow}
use Rattle.object_store.specs.Answers.{Makes, MakesSurely}
use Rattle.object_store.proofs.RowLemmas.{AllClosed, closed_all-closed}
use Rattle.object_store.proofs.RoomLemmas.{without_disk-none}
use Rattle.object_store.proofs.MapLemmas.{rows_at-each_entry}

-- ---- the rows of one object after a change of one, or of each

pub rows_of-empty : (oid : ℕ) → rows_of tree.empty oid ≡ []
rows_of-empty oid = ap (λ o. unwrap_or o []) (tree.get-empty nat_cmp oid)

or_none : (b : Bool) (rows : List SeenRow) (o : Option (List SeenRow)) → unwrap_or (cond b (Some rows) o) [] ≡ cond b rows (unwrap_or o [])
or_none true rows o = refl
or_none false rows o = refl

pub rows_of-insert : (all : AllRows) (oid : ℕ) (rows : List SeenRow) (q : ℕ) → rows_of (tree.insert all oid rows) q ≡ cond (is_at (nat_cmp q) oid) rows (rows_of all q)
rows_of-insert all oid rows q = ap (λ o. unwrap_or o []) (tree.get-insert nat_cmp_total all oid rows q) ∙ or_none (is_at (nat_cmp q) oid) rows (tree.get all q)

pub rows_of-insert_same : (all : AllRows) (oid : ℕ) (rows : List SeenRow) → rows_of (tree.insert all oid rows) oid ≡ rows
rows_of-insert_same all oid rows = rows_of-insert all oid rows oid ∙ ap (λ b. cond b rows (rows_of all oid)) (is_at-same oid)

pub rows_of-insert_other : (all : AllRows) (oid : ℕ) (rows : List SeenRow) (q : ℕ) → q ≢ oid → rows_of (tree.insert all oid rows) q ≡ rows_of all q
rows_of-insert_other all oid rows q apart =
    rows_of-insert all oid rows q ∙ ap (λ b. cond b rows (rows_of all q)) (is_at-other q oid apart)

pub rows_of-each : (change : ℕ → List SeenRow → List SeenRow) (all : AllRows) (q : ℕ) → change q [] ≡ [] → rows_of (each change all) q ≡ change q (rows_of all q)
unfolding each
rows_of-each change all q none =
    let es : List (ℕ × List SeenRow) = tree.entries all in
    ap (λ o. unwrap_or o []) (tree.get-from_entries nat_cmp_total (each_entry change es) q ∙ find-lookup q (each_entry change es))
    ∙ rows_at-each_entry change q none es (tree.entries_sorted all)
    ∙ ap (change q) (ap (λ o. unwrap_or o []) (sym (tree.get-entries all q ∙ find-lookup q es)))

-- ---- from which epochs the open rows are

module _ {B : Type 0} (P : ℕ → Type 0) where
  pub OpenFrom-closed : (rows : List (Row B)) → AllClosed rows → OpenFrom P rows
  OpenFrom-closed [] all_closed = tt
  OpenFrom-closed (row ∷ rows) all_closed = (λ is. absurd (cc (is, all_closed.0)), OpenFrom-closed rows all_closed.1)

  pub OpenFrom-push : (rows : List (Row B)) (row : Row B) → OpenFrom P rows → P row.from.0 → OpenFrom P (rows ++ row ∷ [])
  OpenFrom-push [] row had new = (λ _. new, tt)
  OpenFrom-push (r ∷ rows) row had new = (had.0, OpenFrom-push rows row had.1 new)

  pub OpenFrom-created : (index epoch : ℕ) (bytes : B) (rows : List (Row B)) → P epoch → OpenFrom P (created index epoch bytes rows)
  OpenFrom-created index epoch bytes rows new =
      OpenFrom-push (ended epoch rows) _ (OpenFrom-closed (ended epoch rows) (closed_all-closed (epoch - 1) (filter (λ row. not (is_replaced epoch row)) rows))) new

  pub OpenFrom-changed : (test : Row B → Bool) (change : B → B) (rows : List (Row B)) → OpenFrom P rows → OpenFrom P (changed test change rows)
  OpenFrom-changed test change [] had = tt
  OpenFrom-changed test change (row ∷ rows) had = go (test row) (OpenFrom-changed test change rows had.1)
    where
      go : (b : Bool) → OpenFrom P (changed test change rows) → OpenFrom P (cond b ((record row { bytes = change row.bytes }) ∷ rows) (row ∷ changed test change rows))
      go true rest = (had.0, had.1)
      go false rest = (had.0, rest)

  pub OpenFrom-filter : (test : Row B → Bool) (rows : List (Row B)) → OpenFrom P rows → OpenFrom P (filter test rows)
  OpenFrom-filter test [] had = tt
  OpenFrom-filter test (row ∷ rows) had = go (test row) (OpenFrom-filter test rows had.1)
    where
      go : (b : Bool) → OpenFrom P (filter test rows) → OpenFrom P (cond b (row ∷ filter test rows) (filter test rows))
      go true rest = (had.0, rest)
      go false rest = rest

  pub OpenFrom-advanced : (keeps : List Key) (next oid : ℕ) (rows : List (Row B)) → OpenFrom P rows → OpenFrom P (advanced keeps next oid rows)
  OpenFrom-advanced keeps next oid [] had = tt
  OpenFrom-advanced keeps next oid (row ∷ rows) had = (go (is_kept keeps oid row.index), OpenFrom-advanced keeps next oid rows had.1)
    where
      shut : is_open (closed (next - 1) row) ≡ false
      shut = (closed_all-closed (next - 1) (row ∷ [])).0

      go : (b : Bool) → is_open (cond b row (closed (next - 1) row)) ≡ true → P (cond b row (closed (next - 1) row)).from.0
      go true is = had.0 is
      go false is = absurd (cc (is, shut))

  pub OpenFrom-without_disk : (vid oid : ℕ) (rows : List (Row B)) → OpenFrom P rows → OpenFrom P (without_disk vid oid rows)
  OpenFrom-without_disk vid oid rows had = go (nat_eq (vid_of oid) vid)
    where
      go : (b : Bool) → OpenFrom P (cond b [] rows)
      go true = tt
      go false = had

pub OpenFrom-weaker : {B : Type 0} (P Q : ℕ → Type 0) → ((n : ℕ) → P n → Q n) → (rows : List (Row B)) → OpenFrom P rows → OpenFrom Q rows
OpenFrom-weaker P Q more [] had = tt
OpenFrom-weaker P Q more (row ∷ rows) had = (λ is. more row.from.0 (had.0 is), OpenFrom-weaker P Q more rows had.1)

-- no open row is from an epoch above this one: the empty store, and what each call makes of one
pub OpenUpTo-empty : (epoch : ℕ) → OpenUpTo epoch tree.empty
OpenUpTo-empty epoch oid = subst (OpenFrom (λ from. from ≤ epoch)) (sym (rows_of-empty oid)) tt

OpenUpTo-insert : (epoch : ℕ) (all : AllRows) (oid : ℕ) (rows : List SeenRow) → OpenUpTo epoch all → OpenFrom (λ from. from ≤ epoch) rows
    → OpenUpTo epoch (tree.insert all oid rows)
OpenUpTo-insert epoch all oid rows had new q =
    subst (OpenFrom (λ from. from ≤ epoch)) (sym (rows_of-insert all oid rows q)) (go (is_at (nat_cmp q) oid))
  where
    go : (b : Bool) → OpenFrom (λ from. from ≤ epoch) (cond b rows (rows_of all q))
    go true = new
    go false = had q

taken : {A : Type 0} (b : Bool) (x y : A) → cond b (Ok x) (Err OutOfObject) ≡ Ok y → x ≡ y
taken true x y e = cc
taken false x y e = absurd (cc)

pub OpenUpTo-create : (last : ℕ) (all new : AllRows) (key : Key) (epoch size offset : ℕ) (piece : List ℕ) → epoch ≤ last → OpenUpTo last all
    → create_at all key epoch size offset piece ≡ Ok new → OpenUpTo last new
OpenUpTo-create last all new key epoch size offset piece early had is =
    subst (OpenUpTo last) (taken (nat_le (offset + length piece) size) _ new is)
    (OpenUpTo-insert last all key.oid _ had (OpenFrom-created (λ from. from ≤ last) key.index epoch _ (rows_of all key.oid) early))

on_open-made : {A : Type 0} (end : ℕ) (o : Option SeenRow) (x y : A) → on_open end o (λ row. x) ≡ Ok y → x ≡ y
on_open-made end None x y e = absurd (cc)
on_open-made end (Some row) x y e = taken (nat_le end (length row.bytes)) x y e

pub OpenUpTo-write : (last : ℕ) (all new : AllRows) (key : Key) (offset : ℕ) (piece : List ℕ) → OpenUpTo last all
    → write_at all key offset piece ≡ Ok new → OpenUpTo last new
OpenUpTo-write last all new key offset piece had is =
    subst (OpenUpTo last) (on_open-made (offset + length piece) (open_row all key) _ new is)
    (OpenUpTo-insert last all key.oid _ had (OpenFrom-changed (λ from. from ≤ last) (is_open_at key.index) _ (rows_of all key.oid) (had key.oid)))

OpenUpTo-each : (last : ℕ) (change : ℕ → List SeenRow → List SeenRow) → ((oid : ℕ) → change oid [] ≡ [])
    → ((oid : ℕ) (rows : List SeenRow) → OpenFrom (λ from. from ≤ last) rows → OpenFrom (λ from. from ≤ last) (change oid rows))
    → (all : AllRows) → OpenUpTo last all → OpenUpTo last (each change all)
OpenUpTo-each last change none keeps all had oid =
    subst (OpenFrom (λ from. from ≤ last)) (sym (rows_of-each change all oid (none oid))) (keeps oid (rows_of all oid) (had oid))

pub OpenUpTo-advance : (last : ℕ) (all : AllRows) (keeps : List Key) (next : ℕ) → OpenUpTo last all → OpenUpTo last (each (advanced keeps next) all)
OpenUpTo-advance last all keeps next had =
    OpenUpTo-each last (advanced keeps next) (λ _. refl) (OpenFrom-advanced (λ from. from ≤ last) keeps next) all had

pub OpenUpTo-close_all : (last : ℕ) (all : AllRows) (to : ℕ) → OpenUpTo last (each (λ _. closed_all to) all)
OpenUpTo-close_all last all to oid =
    subst (OpenFrom (λ from. from ≤ last)) (sym (rows_of-each (λ _. closed_all to) all oid refl))
    (OpenFrom-closed (λ from. from ≤ last) (closed_all to (rows_of all oid)) (closed_all-closed to (rows_of all oid)))

pub OpenUpTo-purge : (last : ℕ) (all : AllRows) (settled : ℕ) → OpenUpTo last all → OpenUpTo last (each (λ _. purged settled) all)
OpenUpTo-purge last all settled had =
    OpenUpTo-each last (λ _. purged settled) (λ _. refl) (λ _. OpenFrom-filter (λ from. from ≤ last) (λ row. not (has_ended_below settled row.to))) all had

pub OpenUpTo-drop_vid : (last : ℕ) (all : AllRows) (vid : ℕ) → OpenUpTo last all → OpenUpTo last (each (without_disk vid) all)
OpenUpTo-drop_vid last all vid had =
    OpenUpTo-each last (without_disk vid) (without_disk-none vid) (OpenFrom-without_disk (λ from. from ≤ last) vid) all had

-- in the next epoch every open row is from an earlier one
pub OpenBelow-next : (last next : ℕ) (all : AllRows) → last < next → OpenUpTo last all → OpenBelow next all
OpenBelow-next last next all later had oid = OpenFrom-weaker (λ from. from ≤ last) (λ from. from < next) (λ n h. omega arith) (rows_of all oid) (had oid)

pub OpenUpTo-later : (last next : ℕ) (all : AllRows) → last ≤ next → OpenUpTo last all → OpenUpTo next all
OpenUpTo-later last next all later had oid = OpenFrom-weaker (λ from. from ≤ last) (λ from. from ≤ next) (λ n h. omega arith) (rows_of all oid) (had oid)

-- what holds before a call and of whatever it makes, holds after it
pub Makes-keeps : {B : Type 0} (P : AllRows → Type 0) (step : Result AllRows StoreFault) (old new : AllRows) (answer : Result B StoreFault)
    → P old → ((all : AllRows) → step ≡ Ok all → P all) → Makes step (λ all. new ≡ all) (new ≡ old) answer → P new
Makes-keeps P (Ok all) old new (Ok done) had made is = subst P (sym is) (made all refl)
Makes-keeps P (Ok all) old new (Err NoObj) had made is = absurd is
Makes-keeps P (Ok all) old new (Err OutOfObject) had made is = absurd is
Makes-keeps P (Ok all) old new (Err NoMemory) had made is = subst P (sym is) had
Makes-keeps P (Err fault) old new (Ok done) had made is = absurd is
Makes-keeps P (Err fault) old new (Err answer) had made is = subst P (sym is.1) had

pub MakesSurely-keeps : {B : Type 0} (P : AllRows → Type 0) (step : Result AllRows StoreFault) (old new : AllRows) (answer : Result B StoreFault)
    → P old → ((all : AllRows) → step ≡ Ok all → P all) → MakesSurely step (λ all. new ≡ all) (new ≡ old) answer → P new
MakesSurely-keeps P (Ok all) old new (Ok done) had made is = subst P (sym is) (made all refl)
MakesSurely-keeps P (Ok all) old new (Err answer) had made is = absurd is
MakesSurely-keeps P (Err fault) old new (Ok done) had made is = absurd is
MakesSurely-keeps P (Err fault) old new (Err answer) had made is = subst P (sym is.1) had
