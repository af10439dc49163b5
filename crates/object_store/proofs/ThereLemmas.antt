-- No object is there without rows, and when two finite maps of rows are the same.
use Rattle.std.proofs.Common.{◌≡◌, ◌≢◌, ℕ, ◌+◌, Bool, true, false, cond, nat_le, List, [], ◌∷◌, ◌++◌, length, Option, Some, None, Result, Ok, Err, unwrap_or, refl, ap, sym, ◌∙◌, subst}
use Rattle.std.specs.Ordering.{nat_cmp}
use Rattle.std.specs.Cmp.{nat_cmp_total}
use Rattle.std.specs.BTreeMap.{is_at}
use Rattle.std.specs.FinMap as tree
use Rattle.object_store.specs.declared.fault.StoreFault.{StoreFault}
use Rattle.object_store.specs.declared.fault.StoreFault.TheVariants.{OutOfObject}
use Rattle.object_store.specs.declared.key.Key.{Key}
use Rattle.object_store.specs.Rows.{is_open_at, open_at, ended, changed}
use Rattle.object_store.specs.Store.{SeenRow, AllRows, rows_of, open_row, on_open, create_in, write_in, write_at, HaveRows}

pub HaveRows-empty : HaveRows tree.empty
HaveRows-empty oid is = absurd (cc (sym (tree.get-empty nat_cmp oid) ∙ is))

pub HaveRows-insert : (all : AllRows) (oid : ℕ) (rows : List SeenRow) → rows ≢ [] → HaveRows all → HaveRows (tree.insert all oid rows)
HaveRows-insert all oid rows some had q is = go (is_at (nat_cmp q) oid) (sym (tree.get-insert nat_cmp_total all oid rows q) ∙ is)
  where
    go : (b : Bool) → cond b (Some rows) (tree.get all q) ≡ Some [] → ⊥
    go true e = some (cc (e))
    go false e = had q e

pushed : (rows : List SeenRow) (row : SeenRow) → rows ++ row ∷ [] ≢ []
pushed [] row is = absurd (cc)
pushed (r ∷ rows) row is = absurd (cc)

pub HaveRows-create : (all : AllRows) (key : Key) (epoch size offset : ℕ) (piece : List ℕ) → HaveRows all
    → HaveRows (tree.insert all key.oid (create_in key.index epoch size offset piece (rows_of all key.oid)))
HaveRows-create all key epoch size offset piece had = HaveRows-insert all key.oid _ (pushed (ended epoch (rows_of all key.oid)) _) had

some_changed : (test : SeenRow → Bool) (change : List ℕ → List ℕ) (index : ℕ) (rows : List SeenRow) (row : SeenRow) → open_at index rows ≡ Some row → changed test change rows ≢ []
some_changed test change index [] row found is = absurd (cc (found))
some_changed test change index (r ∷ rows) row found is = go (test r) is
  where
    go : (b : Bool) → cond b ((record r { bytes = change r.bytes }) ∷ rows) (r ∷ changed test change rows) ≡ [] → ⊥
    go true e = absurd (cc (e))
    go false e = absurd (cc (e))

pub HaveRows-write : (all new : AllRows) (key : Key) (offset : ℕ) (piece : List ℕ) → HaveRows all → write_at all key offset piece ≡ Ok new → HaveRows new
HaveRows-write all new key offset piece had is = go (open_row all key) refl is
  where
    made : AllRows
    made = tree.insert all key.oid (write_in key.index offset piece (rows_of all key.oid))

    pick : (b : Bool) → HaveRows made → cond b (Ok made) (Err OutOfObject) ≡ Ok new → HaveRows new
    pick true there e = subst HaveRows (cc (e)) there
    pick false there e = absurd (cc (e))

    go : (o : Option SeenRow) → open_row all key ≡ o → on_open (offset + length piece) o (λ row. made) ≡ Ok new → HaveRows new
    go None found e = absurd (cc (e))
    go (Some row) found e =
        pick (nat_le (offset + length piece) (length row.bytes))
        (HaveRows-insert all key.oid _ (some_changed (is_open_at key.index) _ key.index (rows_of all key.oid) row found) had) e

-- ---- two maps of rows

same_unless_empty : (a b : Option (List SeenRow)) → a ≢ Some [] → b ≢ Some [] → unwrap_or a [] ≡ unwrap_or b [] → a ≡ b
same_unless_empty None None one other same = refl
same_unless_empty None (Some []) one other same = absurd (other refl)
same_unless_empty None (Some (row ∷ rows)) one other same = absurd (cc (same))
same_unless_empty (Some []) b one other same = absurd (one refl)
same_unless_empty (Some (row ∷ rows)) None one other same = absurd (cc (same))
same_unless_empty (Some (row ∷ rows)) (Some others) one other same = ap Some same

-- maps in which no object is without rows are the same where each object has the same rows
pub same_rows : (a b : AllRows) → HaveRows a → HaveRows b → ((oid : ℕ) → rows_of a oid ≡ rows_of b oid) → a ≡ b
same_rows a b one other same =
    tree.same_map nat_cmp_total tree.nat_cmp-IsAntisymmetric a b
    (λ q. same_unless_empty (tree.get a q) (tree.get b q) (one q) (other q) (same q))
