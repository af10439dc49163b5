-- Lists of objects by ascending id, and the finite maps as which they are seen: for any store, at any kind of row.
use Rattle.std.proofs.Common.{◌≡◌, ℕ, Bool, true, false, not, cond, T, nat_eq, List, [], ◌∷◌, length, Some, unwrap_or, refl, ap, sym, ◌∙◌, subst, arith}
use Rattle.std.specs.Ordering.{is_eq, nat_cmp}
use Rattle.std.specs.declared.cmp.Ordering.TheVariants.{Less}
use Rattle.std.specs.List.{AllByRecursion}
use Rattle.std.specs.List.Sorted.{IsStrictlySortedBy}
use Rattle.std.specs.Map.{lookup, keys_of}
use Rattle.std.specs.Map.Calls.{RetainsPairs}
use Rattle.std.specs.BTreeMap.{is_at}
use Rattle.std.specs.FinMap.Entries.{below_all, is_sorted}
use Rattle.std.proofs.lemmas.Bool.Decides.{nat_tests}
use Rattle.proof_tools.proofs.FiniteMaps.{is_at-true, less_from_test}
use Rattle.proof_tools.proofs.Booleans.{T_and, T_and_left, T_and_right}
use Rattle.object_store.specs.Store.{with_rows, each_entry}

-- the rows of an object in a list of entries
abbrev pub rows_at : {B : Type 0} → List (ℕ × List B) → ℕ → List B
rows_at es q = unwrap_or (lookup (is_at (nat_cmp q)) es) []

module _ {B : Type 0} where
  pub some_left : (row : B) (rows : List B) → nat_eq (length (row ∷ rows)) 0 ≡ false
  some_left row rows = grind (arith, nat_tests)

  kept_entry : (oid : ℕ) (rows : List B) (b : Bool) (w : List B) (rest es : List (ℕ × List B))
      → (b ≡ true → w ≡ rows) → b ≡ not (nat_eq (length rows) 0) → rest ≡ es → cond b ((oid, w) ∷ rest) rest ≡ with_rows oid rows es
  kept_entry oid [] b w rest es written left same = ap (λ t. cond t ((oid, w) ∷ rest) rest) left ∙ same
  kept_entry oid (row ∷ rows) b w rest es written left same =
      let stays : b ≡ true = left ∙ ap not (some_left row rows) in
      ap (λ t. cond t ((oid, w) ∷ rest) rest) stays ∙ (λ i. (oid, written stays i) ∷ same i)

  -- a `retain` that changes each object's rows and lets go of an object without rows
  pub retained : {F : Type 0} (R : F → ℕ → List B → Bool → List B → F → Type 0) (change : ℕ → List B → List B) (f : F)
      → ((k : ℕ) (v : List B) (b : Bool) (w : List B) (f' : F) → R f k v b w f'
      → (b ≡ true → w ≡ change k v) × (b ≡ not (nat_eq (length (change k v)) 0)) × (f' ≡ f))
      → (es kept : List (ℕ × List B)) → RetainsPairs R f es kept → kept ≡ each_entry change es
  retained R change f calls [] kept is = is
  retained R change f calls (e ∷ es) kept is =
      let call = calls e.0 e.1 is.0 is.1 is.2 is.4 in
      let rest = retained R change f calls es is.3 (subst (λ u. RetainsPairs R u es is.3) call.2 is.5) in
      is.6 ∙ kept_entry e.0 (change e.0 e.1) is.0 is.1 is.3 (each_entry change es) call.0 call.1 rest

  keys_above : (x : ℕ) (es : List (ℕ × List B)) → T (below_all nat_cmp x es) → AllByRecursion (λ y. nat_cmp x y ≡ Less) (keys_of es)
  keys_above x [] below = tt
  keys_above x (e ∷ es) below = (less_from_test _ (T_and_left _ _ below), keys_above x es (T_and_right _ _ below))

  pub keys-ascend : (es : List (ℕ × List B)) → T (is_sorted nat_cmp es) → IsStrictlySortedBy nat_cmp (keys_of es)
  unfolding IsStrictlySortedBy
  keys-ascend [] sorted = tt
  keys-ascend (e ∷ es) sorted = (keys_above e.0 es (T_and_left _ _ sorted), keys-ascend es (T_and_right _ _ sorted))

  -- the objects that are left ascend as before
  below_left : (change : ℕ → List B → List B) (q : ℕ) (es : List (ℕ × List B)) → T (below_all nat_cmp q es) → T (below_all nat_cmp q (each_entry change es))
  below_left change q [] below = below
  below_left change q (e ∷ es) below = go (change e.0 e.1) (below_left change q es (T_and_right _ _ below))
    where
      go : (rows : List B) → T (below_all nat_cmp q (each_entry change es)) → T (below_all nat_cmp q (with_rows e.0 rows (each_entry change es)))
      go [] rest = rest
      go (row ∷ rows) rest = T_and _ _ (T_and_left _ _ below) rest

  pub is_sorted-each_entry : (change : ℕ → List B → List B) (es : List (ℕ × List B)) → T (is_sorted nat_cmp es) → T (is_sorted nat_cmp (each_entry change es))
  is_sorted-each_entry change [] sorted = sorted
  is_sorted-each_entry change (e ∷ es) sorted =
      go (change e.0 e.1) (below_left change e.0 es (T_and_left _ _ sorted)) (is_sorted-each_entry change es (T_and_right _ _ sorted))
    where
      go : (rows : List B) → T (below_all nat_cmp e.0 (each_entry change es)) → T (is_sorted nat_cmp (each_entry change es))
          → T (is_sorted nat_cmp (with_rows e.0 rows (each_entry change es)))
      go [] below rest = rest
      go (row ∷ rows) below rest = T_and _ _ below rest

  skipped : (oid q : ℕ) (rows : List B) (es : List (ℕ × List B)) → is_eq (nat_cmp q oid) ≡ false → rows_at (with_rows oid rows es) q ≡ rows_at es q
  skipped oid q [] es other = refl
  skipped oid q (row ∷ rows) es other = ap (λ t. unwrap_or (cond t (Some (row ∷ rows)) (lookup (is_at (nat_cmp q)) es)) []) other

  none_below : (change : ℕ → List B → List B) (q : ℕ) (es : List (ℕ × List B)) → T (below_all nat_cmp q es) → rows_at (each_entry change es) q ≡ []
  none_below change q [] below = refl
  none_below change q (e ∷ es) below =
      skipped e.0 q (change e.0 e.1) (each_entry change es) (ap is_eq (less_from_test _ (T_and_left _ _ below)))
      ∙ none_below change q es (T_and_right _ _ below)

  here : (oid q : ℕ) (rows : List B) (es : List (ℕ × List B)) → is_eq (nat_cmp q oid) ≡ true → rows_at es q ≡ [] → rows_at (with_rows oid rows es) q ≡ rows
  here oid q [] es at none = none
  here oid q (row ∷ rows) es at none = ap (λ t. unwrap_or (cond t (Some (row ∷ rows)) (lookup (is_at (nat_cmp q)) es)) []) at

  -- each object has its own rows changed
  pub rows_at-each_entry : (change : ℕ → List B → List B) (q : ℕ) → change q [] ≡ [] → (es : List (ℕ × List B)) → T (is_sorted nat_cmp es)
      → rows_at (each_entry change es) q ≡ change q (rows_at es q)
  rows_at-each_entry change q none [] sorted = sym none
  rows_at-each_entry change q none (e ∷ es) sorted =
      go (is_eq (nat_cmp q e.0)) refl (rows_at-each_entry change q none es (T_and_right _ _ sorted))
    where
      go : (t : Bool) → is_eq (nat_cmp q e.0) ≡ t → rows_at (each_entry change es) q ≡ change q (rows_at es q)
          → rows_at (each_entry change (e ∷ es)) q ≡ change q (unwrap_or (cond (is_eq (nat_cmp q e.0)) (Some e.1) (lookup (is_at (nat_cmp q)) es)) [])
      go true at rest =
          let same : q ≡ e.0 = is_at-true q e.0 at in
          here e.0 q (change e.0 e.1) (each_entry change es) at
          (none_below change q es (subst (λ k. T (below_all nat_cmp k es)) (sym same) (T_and_left _ _ sorted)))
          ∙ ap (λ k. change k e.1) (sym same)
          ∙ sym (ap (λ t. change q (unwrap_or (cond t (Some e.1) (lookup (is_at (nat_cmp q)) es)) [])) at)
      go false at rest =
          skipped e.0 q (change e.0 e.1) (each_entry change es) at ∙ rest
          ∙ sym (ap (λ t. change q (unwrap_or (cond t (Some e.1) (lookup (is_at (nat_cmp q)) es)) [])) at)
