-- Why no object is there without rows once each object's rows were changed: every store promises that none is.
use mathlib.Core.Path.{sym, ◌∙◌, subst}
use Rattle.std.specs.Prelude.{ℕ, Bool, true, false, cond, List, [], ◌∷◌, Option, None, Some}
use Rattle.std.specs.Ordering.{is_eq, nat_cmp}
use Rattle.std.specs.Cmp.{nat_cmp_total}
use Rattle.std.specs.FinMap as tree
use Rattle.std.specs.FinMap.Entries.{find}
use Rattle.object_store.specs.Store.{AllRows, SeenRow, with_rows, each_entry, each, HaveRows}

-- if there are rows, then one at least
unfoldable IsNoEmptyList : Option (List SeenRow) → Type 0
IsNoEmptyList None = Unit {0}
IsNoEmptyList (Some []) = ⊥
IsNoEmptyList (Some (row ∷ rows)) = Unit {0}

with_one : (oid at : ℕ) (rows : List SeenRow) (es : List (ℕ × List SeenRow)) → IsNoEmptyList (find nat_cmp oid es)
    → IsNoEmptyList (find nat_cmp oid (with_rows at rows es))
unfolding IsNoEmptyList
with_one oid at [] es rest = rest
with_one oid at (row ∷ rows) es rest = go (is_eq (nat_cmp oid at))
  where
    go : (b : Bool) → IsNoEmptyList (cond b (Some (row ∷ rows)) (find nat_cmp oid es))
    go true = tt
    go false = rest

no_empty_list : (change : ℕ → List SeenRow → List SeenRow) (oid : ℕ) (es : List (ℕ × List SeenRow))
    → IsNoEmptyList (find nat_cmp oid (each_entry change es))
unfolding IsNoEmptyList
no_empty_list change oid [] = tt
no_empty_list change oid (e ∷ es) = with_one oid e.0 (change e.0 e.1) (each_entry change es) (no_empty_list change oid es)

pub HaveRows-each : (change : ℕ → List SeenRow → List SeenRow) (all : AllRows) → HaveRows (each change all)
unfolding IsNoEmptyList each
HaveRows-each change all oid is =
    subst IsNoEmptyList (sym (tree.get-from_entries nat_cmp_total (each_entry change (tree.entries all)) oid) ∙ is)
    (no_empty_list change oid (tree.entries all))
