-- After any list of calls at most the last row of an object is open, and an object without rows isn't there.
use Rattle.std.proofs.Common.{◌≡◌, ◌≢◌, ℕ, ◌+◌, ◌-◌, Bool, true, false, not, cond, nat_eq, nat_le, List, [], ◌∷◌, ◌++◌, length, fold, Option, Some, None, Result, Ok, Err, refl, ap, sym, ◌∙◌, subst}
use Rattle.std.specs.Ordering.{nat_cmp}
use Rattle.std.specs.BTreeMap.{is_at}
use Rattle.std.specs.FinMap as tree
use Rattle.std.specs.Result.{result_unwrap_or}
use Rattle.object_id.specs.Oid.{vid_of}
use Rattle.object_store.specs.declared.key.Key.{Key}
use Rattle.object_store.specs.declared.fault.StoreFault.{StoreFault}
use Rattle.object_store.specs.declared.fault.StoreFault.TheVariants.{OutOfObject}
use Rattle.object_store.specs.Rows.{is_open, is_open_at, open_at, closed, closed_all, ended, changed, is_kept, advanced, purged, has_ended_below, without_disk, IsOrderly}
use Rattle.object_store.specs.Store.{SeenRow, AllRows, rows_of, open_row, on_open, create_in, write_in, write_at, each, HaveRows}
use Rattle.object_store.specs.There.{HaveRows-each}
use Rattle.object_store.specs.Calls.{Call, Create, Write, Advance, CloseAll, PurgeBelow, DropVid, rows_step, rows_after}
use Rattle.object_store.proofs.RowLemmas.{closed_all-closed, orderly_closed, orderly_created, orderly_filter}
use Rattle.object_store.proofs.RoomLemmas.{without_disk-none}
use Rattle.object_store.proofs.StoreLaws.{rows_of-empty, rows_of-insert, rows_of-each}
use Rattle.object_store.proofs.ThereLemmas.{HaveRows-empty, HaveRows-create, HaveRows-write}

orderly_changed : (test : SeenRow → Bool) (change : List ℕ → List ℕ) (rows : List SeenRow) → IsOrderly rows → IsOrderly (changed test change rows)
orderly_changed test change [] orderly = tt
orderly_changed test change (row ∷ rows) orderly = go (test row) (orderly_changed test change rows orderly.1)
  where
    go : (b : Bool) → IsOrderly (changed test change rows) → IsOrderly (cond b ((record row { bytes = change row.bytes }) ∷ rows) (row ∷ changed test change rows))
    go true rest = (orderly.0, orderly.1)
    go false rest = (λ is. ap (changed test change) (orderly.0 is), rest)

orderly_advanced : (keeps : List Key) (next oid : ℕ) (rows : List SeenRow) → IsOrderly rows → IsOrderly (advanced keeps next oid rows)
orderly_advanced keeps next oid [] orderly = tt
orderly_advanced keeps next oid (row ∷ rows) orderly =
    (λ is. ap (advanced keeps next oid) (orderly.0 (go (is_kept keeps oid row.index) is)), orderly_advanced keeps next oid rows orderly.1)
  where
    shut : is_open (closed (next - 1) row) ≡ false
    shut = (closed_all-closed (next - 1) (row ∷ [])).0

    go : (b : Bool) → is_open (cond b row (closed (next - 1) row)) ≡ true → is_open row ≡ true
    go true is = is
    go false is = absurd (cc (is, shut))

orderly_without_disk : (vid oid : ℕ) (rows : List SeenRow) → IsOrderly rows → IsOrderly (without_disk vid oid rows)
orderly_without_disk vid oid rows orderly = go (nat_eq (vid_of oid) vid)
  where
    go : (b : Bool) → IsOrderly (cond b [] rows)
    go true = tt
    go false = orderly

orderly_insert : (all : AllRows) (oid : ℕ) (rows : List SeenRow) (q : ℕ) → IsOrderly rows → IsOrderly (rows_of all q) → IsOrderly (rows_of (tree.insert all oid rows) q)
orderly_insert all oid rows q new old = subst IsOrderly (sym (rows_of-insert all oid rows q)) (go (is_at (nat_cmp q) oid))
  where
    go : (b : Bool) → IsOrderly (cond b rows (rows_of all q))
    go true = new
    go false = old

orderly_each : (change : ℕ → List SeenRow → List SeenRow) (all : AllRows) (oid : ℕ) → change oid [] ≡ [] → IsOrderly (change oid (rows_of all oid)) → IsOrderly (rows_of (each change all) oid)
orderly_each change all oid none orderly = subst IsOrderly (sym (rows_of-each change all oid none)) orderly

orderly_step : (all : AllRows) (call : Call) → ((oid : ℕ) → IsOrderly (rows_of all oid)) → (oid : ℕ) → IsOrderly (rows_of (rows_step all call) oid)
orderly_step all (Create key epoch size offset piece) had oid = go (nat_le (offset + length piece) size)
  where
    new : AllRows
    new = tree.insert all key.oid (create_in key.index epoch size offset piece (rows_of all key.oid))

    made : IsOrderly (rows_of new oid)
    made = orderly_insert all key.oid _ oid (orderly_created key.index epoch _ (rows_of all key.oid)) (had oid)

    go : (b : Bool) → IsOrderly (rows_of (result_unwrap_or (cond b (Ok new) (Err OutOfObject)) all) oid)
    go true = made
    go false = had oid
orderly_step all (Write key offset piece) had oid = go (open_row all key)
  where
    new : AllRows
    new = tree.insert all key.oid (write_in key.index offset piece (rows_of all key.oid))

    made : IsOrderly (rows_of new oid)
    made = orderly_insert all key.oid _ oid (orderly_changed (is_open_at key.index) _ (rows_of all key.oid) (had key.oid)) (had oid)

    pick : (b : Bool) → IsOrderly (rows_of (result_unwrap_or (cond b (Ok new) (Err OutOfObject)) all) oid)
    pick true = made
    pick false = had oid

    go : (o : Option SeenRow) → IsOrderly (rows_of (result_unwrap_or (on_open (offset + length piece) o (λ row. new)) all) oid)
    go None = had oid
    go (Some row) = pick (nat_le (offset + length piece) (length row.bytes))
orderly_step all (Advance next keeps) had oid = orderly_each (advanced keeps next) all oid refl (orderly_advanced keeps next oid (rows_of all oid) (had oid))
orderly_step all (CloseAll last) had oid = orderly_each (λ _. closed_all last) all oid refl (orderly_closed (closed_all last (rows_of all oid)) (closed_all-closed last (rows_of all oid)))
orderly_step all (PurgeBelow settled) had oid = orderly_each (λ _. purged settled) all oid refl (orderly_filter (λ row. not (has_ended_below settled row.to)) (rows_of all oid) (had oid))
orderly_step all (DropVid vid) had oid = orderly_each (without_disk vid) all oid (without_disk-none vid oid) (orderly_without_disk vid oid (rows_of all oid) (had oid))

orderly_steps : (calls : List Call) (all : AllRows) → ((oid : ℕ) → IsOrderly (rows_of all oid)) → (oid : ℕ) → IsOrderly (rows_of (fold rows_step all calls) oid)
orderly_steps [] all had = had
orderly_steps (call ∷ calls) all had = orderly_steps calls (rows_step all call) (orderly_step all call had)

pub orderly-rows_after : (calls : List Call) (oid : ℕ) → IsOrderly (rows_of (rows_after calls) oid)
orderly-rows_after calls = orderly_steps calls tree.empty (λ oid. subst IsOrderly (sym (rows_of-empty oid)) tt)

-- ---- no object is there without rows

there_step : (all : AllRows) (call : Call) → HaveRows all → HaveRows (rows_step all call)
there_step all (Create key epoch size offset piece) had = go (nat_le (offset + length piece) size)
  where
    new : AllRows
    new = tree.insert all key.oid (create_in key.index epoch size offset piece (rows_of all key.oid))

    made : HaveRows new
    made = HaveRows-create all key epoch size offset piece had

    go : (b : Bool) → HaveRows (result_unwrap_or (cond b (Ok new) (Err OutOfObject)) all)
    go true = made
    go false = had
there_step all (Write key offset piece) had = go (write_at all key offset piece) refl
  where
    go : (step : Result AllRows StoreFault) → write_at all key offset piece ≡ step → HaveRows (result_unwrap_or step all)
    go (Ok new) is = HaveRows-write all new key offset piece had is
    go (Err fault) is = had
there_step all (Advance next keeps) had = HaveRows-each (advanced keeps next) all
there_step all (CloseAll last) had = HaveRows-each (λ _. closed_all last) all
there_step all (PurgeBelow settled) had = HaveRows-each (λ _. purged settled) all
there_step all (DropVid vid) had = HaveRows-each (without_disk vid) all

there_steps : (calls : List Call) (all : AllRows) → HaveRows all → HaveRows (fold rows_step all calls)
there_steps [] all had = had
there_steps (call ∷ calls) all had = there_steps calls (rows_step all call) (there_step all call had)

pub there-rows_after : (calls : List Call) → HaveRows (rows_after calls)
there-rows_after calls = there_steps calls tree.empty HaveRows-empty
