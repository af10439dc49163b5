-- The objects that a store keeps, as the finite map as which they are seen.
use Rattle.std.proofs.Common.{◌≡◌, ℕ, ◌+◌, Bool, true, false, not, cond, T, nat_eq, List, [], ◌∷◌, ◌++◌, length, map, fold, Option, Some, None, unwrap_or, refl, ap, sym, ◌∙◌, subst, arith}
use Rattle.std.specs.Option.{option_map}
use Rattle.std.specs.Ordering.{is_eq, nat_cmp}
use Rattle.std.specs.Cmp.{nat_cmp_total, eq_by_cmp_equiv}
use Rattle.std.specs.List.Sorted.{IsStrictlySortedBy, IsStrictlyIncreasing}
use Rattle.std.proofs.lemmas.Map.Keys.{IsStrictlyIncreasing-from_sorted}
use Rattle.std.specs.List.{sum_by}
use Rattle.std.specs.Map.{lookup, keys_of, values_of}
use Rattle.std.proofs.lemmas.List.{length-map, append_assoc}
use Rattle.std.specs.BTreeMap.{is_at}
use Rattle.std.specs.FinMap as tree
use Rattle.std.specs.FinMap.Entries.{find, is_sorted}
use Rattle.proof_tools.proofs.FiniteMaps.{is_at-true, is_at-same, is_at-other, is_sorted-from_keys, entries-from_entries}
use Rattle.object_store.specs.declared.key.Key.{Key}
use Rattle.object_store.specs.declared.row.Row.{Row}
use Rattle.object_store.specs.Rows.{open_at}
use Rattle.object_store.specs.Store.{SeenRow, rows_of, row_count, open_row, with_rows, each_entry, each, HaveRows}
use Rattle.object_store.specs.Answers.{KeepsRoom, KeepsOtherRoom}
use Rattle.object_store.specs.KeptRows.{seen_row, RoomIn, KeepsRowRoom}
use Rattle.object_store.specs.There.{HaveRows-each}
use Rattle.object_store.specs.Objects.{Objects, seen_entry, seen_objects, HaveRows-seen_objects, kept_of, HasRoomIn, IsPut}
use Rattle.object_store.proofs.MapLemmas.{some_left, rows_at-each_entry, is_sorted-each_entry, keys-ascend}
use Rattle.object_store.proofs.SeenLemmas.{seen_row-open_at}
use Rattle.object_store.proofs.StoreLaws.{rows_of-empty, rows_of-insert, rows_of-each}
use Rattle.object_store.proofs.ThereLemmas.{HaveRows-empty, same_rows}

module _ {K : Type 0} where
  pub kept_of-found : (es : Objects K) (oid : ℕ) (rows : List (Row K)) → lookup (is_at (nat_cmp oid)) es ≡ Some rows → kept_of es oid ≡ rows
  kept_of-found es oid rows found = ap (λ o. unwrap_or o []) found

  put-here : (es fs : Objects K) (oid : ℕ) (rows : List (Row K)) → IsPut es fs oid rows → kept_of fs oid ≡ rows
  put-here es fs oid rows put =
      ap (λ o. unwrap_or o []) (put oid ∙ ap (λ b. cond b (Some rows) (lookup (is_at (nat_cmp oid)) es)) (is_at-same oid))

  put-other : (es fs : Objects K) (oid q : ℕ) (rows : List (Row K)) → IsPut es fs oid rows → is_at (nat_cmp oid) q ≡ false → kept_of fs q ≡ kept_of es q
  put-other es fs oid q rows put other =
      ap (λ o. unwrap_or o []) (put q ∙ ap (λ b. cond b (Some rows) (lookup (is_at (nat_cmp q)) es)) other)

  kept_of-put : (es fs : Objects K) (oid q : ℕ) (rows : List (Row K)) → IsPut es fs oid rows → kept_of fs q ≡ cond (is_at (nat_cmp oid) q) rows (kept_of es q)
  kept_of-put es fs oid q rows put = ap (λ o. unwrap_or o []) (put q) ∙ go (is_at (nat_cmp oid) q) (lookup (is_at (nat_cmp q)) es)
    where
      go : (b : Bool) (o : Option (List (Row K))) → unwrap_or (cond b (Some rows) o) [] ≡ cond b rows (unwrap_or o [])
      go true o = refl
      go false o = refl

  -- the ids of the objects of which rows are kept
  abbrev pub ids_of : Objects K → List ℕ
  ids_of [] = []
  ids_of (e ∷ es) = cond (not (nat_eq (length e.1) 0)) (e.0 ∷ ids_of es) (ids_of es)

  -- one object more was passed
  pub one_id_more : (old new all : List ℕ) (left next : Objects K) (oid : ℕ) (rows : List (Row K)) → left ≡ (oid, rows) ∷ next
      → new ≡ old ++ cond (nat_eq (length rows) 0) [] (oid ∷ []) → old ++ ids_of left ≡ all → new ++ ids_of next ≡ all
  one_id_more old new all left next oid rows is made had =
      ap (λ ids. ids ++ ids_of next) made ∙ append_assoc old (cond (nat_eq (length rows) 0) [] (oid ∷ [])) (ids_of next)
      ∙ ap (λ ids. old ++ ids) (go (nat_eq (length rows) 0) ∙ ap ids_of (sym is)) ∙ had
    where
      go : (none : Bool) → cond none [] (oid ∷ []) ++ ids_of next ≡ cond (not none) (oid ∷ ids_of next) (ids_of next)
      go true = refl
      go false = refl

module _ {K : Type 0} (bytes : K → List ℕ) where
  find-seen_row : (q : ℕ) (es : Objects K) → find nat_cmp q (map (seen_entry bytes) es) ≡ option_map (map (seen_row bytes)) (lookup (is_at (nat_cmp q)) es)
  find-seen_row q [] = refl
  find-seen_row q (e ∷ es) = go (is_eq (nat_cmp q e.0)) (find-seen_row q es)
    where
      go : (b : Bool) → find nat_cmp q (map (seen_entry bytes) es) ≡ option_map (map (seen_row bytes)) (lookup (is_at (nat_cmp q)) es)
          → cond b (Some (map (seen_row bytes) e.1)) (find nat_cmp q (map (seen_entry bytes) es)) ≡ option_map (map (seen_row bytes)) (cond b (Some e.1) (lookup (is_at (nat_cmp q)) es))
      go true rest = refl
      go false rest = rest

  or_none : (o : Option (List (Row K))) → unwrap_or (option_map (map (seen_row bytes)) o) [] ≡ map (seen_row bytes) (unwrap_or o [])
  or_none None = refl
  or_none (Some rows) = refl

  pub rows_of-seen_objects : (es : Objects K) (oid : ℕ) → rows_of (seen_objects bytes es) oid ≡ map (seen_row bytes) (kept_of es oid)
  rows_of-seen_objects es oid =
      rows_of-each (λ _ rows. rows) (tree.from_entries (map (seen_entry bytes) es)) oid refl
      ∙ ap (λ o. unwrap_or o []) (tree.get-from_entries nat_cmp_total (map (seen_entry bytes) es) oid ∙ find-seen_row oid es)
      ∙ or_none (lookup (is_at (nat_cmp oid)) es)

  pub seen_objects-none : seen_objects bytes [] ≡ tree.empty
  seen_objects-none = same_rows (seen_objects bytes []) tree.empty (HaveRows-seen_objects bytes []) HaveRows-empty (λ q. rows_of-seen_objects [] q ∙ sym (rows_of-empty q))

  pub open_row-seen_objects : (es : Objects K) (key : Key) → open_row (seen_objects bytes es) key ≡ option_map (seen_row bytes) (open_at key.index (kept_of es key.oid))
  open_row-seen_objects es key = ap (open_at key.index) (rows_of-seen_objects es key.oid) ∙ sym (seen_row-open_at bytes key.index (kept_of es key.oid))

  -- one object's rows are put
  pub one_put : (es fs : Objects K) (oid : ℕ) (rows : List (Row K)) (shown : List SeenRow) → IsPut es fs oid rows → map (seen_row bytes) rows ≡ shown
      → HaveRows (tree.insert (seen_objects bytes es) oid shown) → seen_objects bytes fs ≡ tree.insert (seen_objects bytes es) oid shown
  one_put es fs oid rows shown put is there = same_rows (seen_objects bytes fs) (tree.insert (seen_objects bytes es) oid shown) (HaveRows-seen_objects bytes fs) there at
    where
      choice : (q : ℕ) (b : Bool) → map (seen_row bytes) (cond b rows (kept_of es q)) ≡ cond b shown (rows_of (seen_objects bytes es) q)
      choice q true = is
      choice q false = sym (rows_of-seen_objects es q)

      at : (q : ℕ) → rows_of (seen_objects bytes fs) q ≡ rows_of (tree.insert (seen_objects bytes es) oid shown) q
      at q =
          rows_of-seen_objects fs q ∙ ap (map (seen_row bytes)) (kept_of-put es fs oid q rows put) ∙ choice q (is_at (nat_cmp oid) q)
          ∙ ap (λ b. cond b shown (rows_of (seen_objects bytes es) q)) ((eq_by_cmp_equiv nat_cmp_total).symm oid q)
          ∙ sym (rows_of-insert (seen_objects bytes es) oid shown q)

  -- rows that are seen as those before are put in their place
  pub put_unseen : (es fs : Objects K) (oid : ℕ) (rows old : List (Row K)) → IsPut es fs oid rows → lookup (is_at (nat_cmp oid)) es ≡ Some old
      → map (seen_row bytes) rows ≡ map (seen_row bytes) old → seen_objects bytes fs ≡ seen_objects bytes es
  put_unseen es fs oid rows old put found same = same_rows (seen_objects bytes fs) (seen_objects bytes es) (HaveRows-seen_objects bytes fs) (HaveRows-seen_objects bytes es) at
    where
      choice : (q : ℕ) (b : Bool) → is_at (nat_cmp oid) q ≡ b → map (seen_row bytes) (cond b rows (kept_of es q)) ≡ map (seen_row bytes) (kept_of es q)
      choice q true here = same ∙ ap (map (seen_row bytes)) (sym (kept_of-found es oid old found) ∙ ap (kept_of es) (is_at-true oid q here))
      choice q false other = refl

      at : (q : ℕ) → rows_of (seen_objects bytes fs) q ≡ rows_of (seen_objects bytes es) q
      at q =
          rows_of-seen_objects fs q ∙ ap (map (seen_row bytes)) (kept_of-put es fs oid q rows put) ∙ choice q (is_at (nat_cmp oid) q) refl
          ∙ sym (rows_of-seen_objects es q)

  keys-seen_row : (es : Objects K) → keys_of (map (seen_entry bytes) es) ≡ keys_of es
  keys-seen_row [] = refl
  keys-seen_row (e ∷ es) = ap (λ ks. e.0 ∷ ks) (keys-seen_row es)

  pub entries-seen_objects : (es : Objects K) → IsStrictlySortedBy nat_cmp (keys_of es) → tree.entries (seen_objects bytes es) ≡ each_entry (λ _ rows. rows) (map (seen_entry bytes) es)
  unfolding each
  entries-seen_objects es sorted =
      let ordered : T (is_sorted nat_cmp (map (seen_entry bytes) es)) = is_sorted-from_keys (map (seen_entry bytes) es) (subst (IsStrictlySortedBy nat_cmp) (sym (keys-seen_row es)) sorted) in
      ap (λ os. tree.entries (tree.from_entries {R = nat_cmp} (each_entry (λ _ rows. rows) os))) (entries-from_entries (map (seen_entry bytes) es) ordered)
      ∙ entries-from_entries (each_entry (λ _ rows. rows) (map (seen_entry bytes) es)) (is_sorted-each_entry (λ _ rows. rows) (map (seen_entry bytes) es) ordered)

  pub keys-seen_objects : (es : Objects K) → IsStrictlySortedBy nat_cmp (keys_of es) → tree.keys (seen_objects bytes es) ≡ ids_of es
  keys-seen_objects es sorted = ap keys_of (entries-seen_objects es sorted) ∙ go es
    where
      one : (oid : ℕ) (rows : List (Row K)) (rest : List (ℕ × List SeenRow)) (ids : List ℕ) → keys_of rest ≡ ids
          → keys_of (with_rows oid (map (seen_row bytes) rows) rest) ≡ cond (not (nat_eq (length rows) 0)) (oid ∷ ids) ids
      one oid [] rest ids is = is
      one oid (row ∷ rows) rest ids is =
          ap (λ ks. oid ∷ ks) is ∙ ap (λ b. cond (not b) (oid ∷ ids) ids) (sym (some_left row rows))

      go : (fs : Objects K) → keys_of (each_entry (λ _ rows. rows) (map (seen_entry bytes) fs)) ≡ ids_of fs
      go [] = refl
      go (f ∷ fs) = one f.0 f.1 (each_entry (λ _ rows. rows) (map (seen_entry bytes) fs)) (ids_of fs) (go fs)

  pub ids-ascend : (es : Objects K) → IsStrictlyIncreasing (tree.keys (seen_objects bytes es))
  ids-ascend es = IsStrictlyIncreasing-from_sorted (tree.keys (seen_objects bytes es)) (keys-ascend (tree.entries (seen_objects bytes es)) (tree.entries_sorted (seen_objects bytes es)))

  -- as many rows are seen as are kept
  row_sum : (n : ℕ) (es : Objects K)
      → fold (λ (sum : ℕ) (rows : List SeenRow). sum + length rows) n (values_of (each_entry (λ _ rows. rows) (map (seen_entry bytes) es)))
      ≡ fold (λ (sum : ℕ) (rows : List (Row K)). sum + length rows) n (values_of es)
  row_sum n [] = refl
  row_sum n (e ∷ es) = one (map (seen_row bytes) e.1) (length-map e.1 (seen_row bytes)) ∙ row_sum (n + length e.1) es
    where
      rest : List (ℕ × List SeenRow)
      rest = each_entry (λ _ rows. rows) (map (seen_entry bytes) es)

      add : ℕ → List SeenRow → ℕ
      add sum rows = sum + length rows

      one : (rows : List SeenRow) → length rows ≡ length e.1
          → fold (λ (sum : ℕ) (rows : List SeenRow). sum + length rows) n (values_of (with_rows e.0 rows rest))
          ≡ fold (λ (sum : ℕ) (rows : List SeenRow). sum + length rows) (n + length e.1) (values_of rest)
      one [] is =
          let none : n ≡ n + length e.1 = omega arith in
          ap (λ (count : ℕ). fold (λ (sum : ℕ) (rows : List SeenRow). sum + length rows) count (values_of rest)) none
      one (row ∷ rows) is = ap (λ (count : ℕ). fold (λ (sum : ℕ) (rows : List SeenRow). sum + length rows) (n + count) (values_of rest)) is

  pub row_count-seen_objects : (es : Objects K) → IsStrictlySortedBy nat_cmp (keys_of es)
      → row_count (seen_objects bytes es) ≡ sum_by (λ (rows : List (Row K)). length rows) (values_of es)
  row_count-seen_objects es sorted =
      ap (λ entries. sum_by (λ (rows : List SeenRow). length rows) (values_of entries)) (entries-seen_objects es sorted) ∙ row_sum 0 es

  -- each object's rows are changed, and are seen changed
  pub seen_objects-each_entry : (change : ℕ → List (Row K) → List (Row K)) (shown : ℕ → List SeenRow → List SeenRow)
      → ((oid : ℕ) → change oid [] ≡ [])
      → ((oid : ℕ) (rows : List (Row K)) → map (seen_row bytes) (change oid rows) ≡ shown oid (map (seen_row bytes) rows))
      → (es : Objects K) → IsStrictlySortedBy nat_cmp (keys_of es) → seen_objects bytes (each_entry change es) ≡ each shown (seen_objects bytes es)
  seen_objects-each_entry change shown none same es sorted =
      same_rows (seen_objects bytes (each_entry change es)) (each shown (seen_objects bytes es))
      (HaveRows-seen_objects bytes (each_entry change es)) (HaveRows-each shown (seen_objects bytes es))
      (λ q. rows_of-seen_objects (each_entry change es) q
      ∙ ap (map (seen_row bytes)) (rows_at-each_entry change q (none q) es (is_sorted-from_keys es sorted))
      ∙ same q (kept_of es q)
      ∙ ap (shown q) (sym (rows_of-seen_objects es q))
      ∙ sym (rows_of-each shown (seen_objects bytes es) q (sym (same q []) ∙ ap (map (seen_row bytes)) (none q))))

module _ {K : Type 0} (HasRoom : K → ℕ → ℕ → Type 0) where
  -- what one object keeps, all keep
  pub KeepsRoom-put : (es fs : Objects K) (oid : ℕ) (rows : List (Row K)) → IsPut es fs oid rows → KeepsRowRoom HasRoom (kept_of es oid) rows
      → KeepsRoom (HasRoomIn HasRoom es) (HasRoomIn HasRoom fs)
  KeepsRoom-put es fs oid rows put keeps key offset n had = go (is_at (nat_cmp oid) key.oid) refl
    where
      go : (b : Bool) → is_at (nat_cmp oid) key.oid ≡ b → HasRoomIn HasRoom fs key offset n
      go true here =
          let same : oid ≡ key.oid = is_at-true oid key.oid here in
          let new : kept_of fs key.oid ≡ rows = ap (kept_of fs) (sym same) ∙ put-here es fs oid rows put in
          subst (λ rs. RoomIn HasRoom (open_at key.index rs) offset n) (sym new)
          (keeps key.index offset n (subst (λ k. RoomIn HasRoom (open_at key.index (kept_of es k)) offset n) (sym same) had))
      go false other = subst (λ rs. RoomIn HasRoom (open_at key.index rs) offset n) (sym (put-other es fs oid key.oid rows put other)) had

  pub KeepsOtherRoom-put : (es fs : Objects K) (oid : ℕ) (rows : List (Row K)) → IsPut es fs oid rows → KeepsOtherRoom oid (HasRoomIn HasRoom es) (HasRoomIn HasRoom fs)
  KeepsOtherRoom-put es fs oid rows put key offset n apart had =
      subst (λ rs. RoomIn HasRoom (open_at key.index rs) offset n) (sym (put-other es fs oid key.oid rows put (is_at-other oid key.oid (λ same. apart (sym same))))) had

  pub HasRoomIn-put : (es fs : Objects K) (key : Key) (rows : List (Row K)) (offset n : ℕ) → IsPut es fs key.oid rows → RoomIn HasRoom (open_at key.index rows) offset n
      → RoomIn HasRoom (open_at key.index (kept_of fs key.oid)) offset n
  HasRoomIn-put es fs key rows offset n put room = subst (λ rs. RoomIn HasRoom (open_at key.index rs) offset n) (sym (put-here es fs key.oid rows put)) room

  -- no row loses room where no object's rows do
  pub KeepsRoom-each_entry : (change : ℕ → List (Row K) → List (Row K)) → ((oid : ℕ) → change oid [] ≡ [])
      → ((oid : ℕ) (rows : List (Row K)) → KeepsRowRoom HasRoom rows (change oid rows))
      → (es : Objects K) → IsStrictlySortedBy nat_cmp (keys_of es) → KeepsRoom (HasRoomIn HasRoom es) (HasRoomIn HasRoom (each_entry change es))
  KeepsRoom-each_entry change none keeps es sorted key offset n had =
      subst (λ rs. RoomIn HasRoom (open_at key.index rs) offset n) (sym (rows_at-each_entry change key.oid (none key.oid) es (is_sorted-from_keys es sorted)))
      (keeps key.oid (kept_of es key.oid) key.index offset n had)
