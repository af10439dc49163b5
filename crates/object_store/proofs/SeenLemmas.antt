-- Rows as they are seen: each change of kept rows is the same change of the rows seen.
use Rattle.std.proofs.Common.{◌≡◌, ℕ, ◌-◌, Bool, true, false, not, cond, ◌&&◌, nat_eq, List, [], ◌∷◌, ◌++◌, map, filter, fold, Option, Some, None, refl, ap, ◌∙◌}
use Rattle.std.specs.List.{find}
use Rattle.std.specs.Option.{option_map}
use Rattle.std.proofs.lemmas.List.{map-append}
use Rattle.object_store.specs.declared.key.Key.{Key}
use Rattle.object_store.specs.declared.row.Row.{Row}
use Rattle.object_id.specs.Oid.{vid_of}
use Rattle.object_store.specs.Rows.{is_open, is_open_at, open_at, closed, closed_all, is_replaced, created, is_kept, advanced_row, advanced, purged, has_ended_below, without_disk, holds, is_no_later, better, row_holding}
use Rattle.object_store.specs.Store.{SeenRow}
use Rattle.object_store.specs.KeptRows.{seen_row}

module _ {A C : Type 0} (g : A → C) where
  pub map-map_same : (f : A → A) (h : C → C) → ((x : A) → g (f x) ≡ h (g x)) → (xs : List A) → map g (map f xs) ≡ map h (map g xs)
  map-map_same f h same [] = refl
  map-map_same f h same (x ∷ xs) = λ i. same x i ∷ map-map_same f h same xs i

  pub map-filter_same : (p : A → Bool) (q : C → Bool) → ((x : A) → p x ≡ q (g x)) → (xs : List A) → map g (filter p xs) ≡ filter q (map g xs)
  map-filter_same p q same [] = refl
  map-filter_same p q same (x ∷ xs) = step (p x) (map-filter_same p q same xs) ∙ ap (λ b. cond b (g x ∷ filter q (map g xs)) (filter q (map g xs))) (same x)
    where
      step : (b : Bool) → map g (filter p xs) ≡ filter q (map g xs)
          → map g (cond b (x ∷ filter p xs) (filter p xs)) ≡ cond b (g x ∷ filter q (map g xs)) (filter q (map g xs))
      step true rest = ap (λ ys. g x ∷ ys) rest
      step false rest = rest

  pub find-map_same : (p : A → Bool) (q : C → Bool) → ((x : A) → p x ≡ q (g x)) → (xs : List A) → option_map g (find p xs) ≡ find q (map g xs)
  find-map_same p q same [] = refl
  find-map_same p q same (x ∷ xs) = step (p x) (find-map_same p q same xs) ∙ ap (λ b. cond b (Some (g x)) (find q (map g xs))) (same x)
    where
      step : (b : Bool) → option_map g (find p xs) ≡ find q (map g xs) → option_map g (cond b (Some x) (find p xs)) ≡ cond b (Some (g x)) (find q (map g xs))
      step true rest = refl
      step false rest = rest

module _ {K : Type 0} (bytes : K → List ℕ) where
  pub seen_row-open_at : (index : ℕ) (rows : List (Row K)) → option_map (seen_row bytes) (open_at index rows) ≡ open_at index (map (seen_row bytes) rows)
  seen_row-open_at index rows = find-map_same (seen_row bytes) (is_open_at index) (is_open_at index) (λ _. refl) rows

  seen_row-closed : (last : ℕ) (row : Row K) → seen_row bytes (closed last row) ≡ closed last (seen_row bytes row)
  seen_row-closed last row = go (is_open row)
    where
      go : (b : Bool) → seen_row bytes (cond b (record row { to = Some (record { 0 = last }) }) row) ≡ cond b (record (seen_row bytes row) { to = Some (record { 0 = last }) }) (seen_row bytes row)
      go true = refl
      go false = refl

  pub seen_row-closed_all : (last : ℕ) (rows : List (Row K)) → map (seen_row bytes) (closed_all last rows) ≡ closed_all last (map (seen_row bytes) rows)
  seen_row-closed_all last rows = map-map_same (seen_row bytes) (closed last) (closed last) (seen_row-closed last) rows

  pub seen_row-created : (index epoch : ℕ) (kept : K) (rows : List (Row K)) → map (seen_row bytes) (created index epoch kept rows) ≡ created index epoch (bytes kept) (map (seen_row bytes) rows)
  seen_row-created index epoch kept rows =
      let old : List (Row K) = filter (λ row. not (is_replaced epoch row)) rows in
      let new : Row K = record { index = index; from = record { 0 = epoch }; to = None; bytes = kept } in
      map-append (seen_row bytes) (closed_all (epoch - 1) old) (new ∷ [])
      ∙ ap (λ (front : List SeenRow). front ++ seen_row bytes new ∷ [])
      (seen_row-closed_all (epoch - 1) old
      ∙ ap (closed_all (epoch - 1)) (map-filter_same (seen_row bytes) (λ row. not (is_replaced epoch row)) (λ row. not (is_replaced epoch row)) (λ _. refl) rows))

  pub seen_row-advanced : (keeps : List Key) (next oid : ℕ) (rows : List (Row K)) → map (seen_row bytes) (advanced keeps next oid rows) ≡ advanced keeps next oid (map (seen_row bytes) rows)
  seen_row-advanced keeps next oid rows = map-map_same (seen_row bytes) (advanced_row keeps next oid) (advanced_row keeps next oid) (λ row. go row (is_kept keeps oid row.index)) rows
    where
      go : (row : Row K) (b : Bool) → seen_row bytes (cond b row (closed (next - 1) row)) ≡ cond b (seen_row bytes row) (closed (next - 1) (seen_row bytes row))
      go row true = refl
      go row false = seen_row-closed (next - 1) row

  pub seen_row-purged : (settled : ℕ) (rows : List (Row K)) → map (seen_row bytes) (purged settled rows) ≡ purged settled (map (seen_row bytes) rows)
  seen_row-purged settled rows = map-filter_same (seen_row bytes) (λ row. not (has_ended_below settled row.to)) (λ row. not (has_ended_below settled row.to)) (λ _. refl) rows

  pub seen_row-without_disk : (vid oid : ℕ) (rows : List (Row K)) → map (seen_row bytes) (without_disk vid oid rows) ≡ without_disk vid oid (map (seen_row bytes) rows)
  seen_row-without_disk vid oid rows = go (nat_eq (vid_of oid) vid)
    where
      go : (b : Bool) → map (seen_row bytes) (cond b [] rows) ≡ cond b [] (map (seen_row bytes) rows)
      go true = refl
      go false = refl

  chosen : (b : Bool) (best : Option (Row K)) (row : Row K) → option_map (seen_row bytes) (cond b (Some row) best) ≡ cond b (Some (seen_row bytes row)) (option_map (seen_row bytes) best)
  chosen true best row = refl
  chosen false best row = refl

  seen_row-better : (level : ℕ) (best : Option (Row K)) (row : Row K) → option_map (seen_row bytes) (better level best row) ≡ better level (option_map (seen_row bytes) best) (seen_row bytes row)
  seen_row-better level None row = chosen (holds level row && true) None row
  seen_row-better level (Some best) row = chosen (holds level row && is_no_later (Some best) row) (Some best) row

  seen_row-fold : (level : ℕ) (best : Option (Row K)) (rows : List (Row K))
      → option_map (seen_row bytes) (fold (better level) best rows) ≡ fold (better level) (option_map (seen_row bytes) best) (map (seen_row bytes) rows)
  seen_row-fold level best [] = refl
  seen_row-fold level best (row ∷ rows) =
      seen_row-fold level (better level best row) rows ∙ ap (λ b. fold (better level) b (map (seen_row bytes) rows)) (seen_row-better level best row)

  pub seen_row-row_holding : (level : ℕ) (rows : List (Row K)) → option_map (seen_row bytes) (row_holding level rows) ≡ row_holding level (map (seen_row bytes) rows)
  seen_row-row_holding level rows = seen_row-fold level None rows
