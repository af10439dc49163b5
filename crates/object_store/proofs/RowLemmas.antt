-- The rows of one object, of which at most the last is open: what changes that row alone.
use Rattle.std.proofs.Common.{◌≡◌, ℕ, zero, suc, ◌+◌, ◌-◌, Bool, true, false, not, cond, ◌&&◌, nat_eq, List, [], ◌∷◌, ◌++◌, length, map, filter, take, get_or, None, Some, refl, ap, sym, ◌∙◌, subst, arith}
use Rattle.std.proofs.Math.ListN.{set}
use Rattle.std.specs.List.{AllByRecursion}
use Rattle.std.proofs.lemmas.List.{map-append, take_more, set_split, take_all, drop_all, append-nil, set-get_or, map-set}
use Rattle.std.proofs.lemmas.List.Elements.{filter-append}
use Rattle.object_store.specs.declared.key.Key.{Key}
use Rattle.object_store.specs.declared.row.Row.{Row}
use Rattle.object_store.specs.Rows.{is_open, is_open_at, open_at, closed, closed_all, is_replaced, ended, created, changed, advanced_row, is_kept, IsOrderly}

module _ {B : Type 0} where
  abbrev pub AllClosed : List (Row B) → Type 0
  AllClosed rows = AllByRecursion (λ row. is_open row ≡ false) rows

  -- all but the last are closed
  pub front_closed : (rows : List (Row B)) (n : ℕ) → n + 1 ≡ length rows → IsOrderly rows → AllClosed (take n rows)
  front_closed [] n long orderly = absurd (omega arith)
  front_closed (row ∷ rows) zero long orderly = tt
  front_closed (row ∷ rows) (suc n) long orderly =
      (go (is_open row) refl, front_closed rows n (omega arith) orderly.1)
    where
      go : (b : Bool) → is_open row ≡ b → is_open row ≡ false
      go true is = absurd (omega (arith, ap length (orderly.0 is)))
      go false is = is

  pub split_last : (rows : List (Row B)) (n : ℕ) (d : Row B) → n + 1 ≡ length rows → rows ≡ take n rows ++ get_or rows n d ∷ []
  split_last rows n d long =
      sym (ap (λ k. take k rows) long ∙ take_all (length rows) rows (omega arith)) ∙ take_more rows n d (omega arith)

  pub set_last : (rows : List (Row B)) (n : ℕ) (row : Row B) → n + 1 ≡ length rows → set rows n row ≡ take n rows ++ row ∷ []
  set_last rows n row long =
      set_split rows n row (omega arith) ∙ ap (λ rest. take n rows ++ row ∷ rest) (drop_all (suc n) rows (omega arith))

  pub orderly_front : (front : List (Row B)) (row : Row B) → AllClosed front → IsOrderly (front ++ row ∷ [])
  orderly_front [] row closed_all = (λ _. refl, tt)
  orderly_front (r ∷ front) row closed_all = (λ is. absurd (cc (is, closed_all.0)), orderly_front front row closed_all.1)

  pub orderly_closed : (rows : List (Row B)) → AllClosed rows → IsOrderly rows
  orderly_closed [] closed_all = tt
  orderly_closed (r ∷ rows) closed_all = (λ is. absurd (cc (is, closed_all.0)), orderly_closed rows closed_all.1)

  pub find-front : (index : ℕ) (front rows : List (Row B)) → AllClosed front → open_at index (front ++ rows) ≡ open_at index rows
  find-front index [] rows closed_all = refl
  find-front index (r ∷ front) rows closed_all =
      ap (λ b. cond (b && nat_eq r.index index) (Some r) (open_at index (front ++ rows))) closed_all.0 ∙ find-front index front rows closed_all.1

  pub changed-front : (index : ℕ) (change : B → B) (front rows : List (Row B)) → AllClosed front
      → changed (is_open_at index) change (front ++ rows) ≡ front ++ changed (is_open_at index) change rows
  changed-front index change [] rows closed_all = refl
  changed-front index change (r ∷ front) rows closed_all =
      ap (λ b. cond (b && nat_eq r.index index) ((record r { bytes = change r.bytes }) ∷ (front ++ rows)) (r ∷ changed (is_open_at index) change (front ++ rows))) closed_all.0
      ∙ ap (λ rest. r ∷ rest) (changed-front index change front rows closed_all.1)

  pub map-front : (f : Row B → Row B) → ((r : Row B) → is_open r ≡ false → f r ≡ r) → (front : List (Row B)) → AllClosed front → map f front ≡ front
  map-front f same [] closed_all = refl
  map-front f same (r ∷ front) closed_all = λ i. same r closed_all.0 i ∷ map-front f same front closed_all.1 i

  pub filter-front : (p : Row B → Bool) → ((r : Row B) → is_open r ≡ false → p r ≡ true) → (front : List (Row B)) → AllClosed front → filter p front ≡ front
  filter-front p same [] closed_all = refl
  filter-front p same (r ∷ front) closed_all =
      ap (λ b. cond b (r ∷ filter p front) (filter p front)) (same r closed_all.0) ∙ ap (λ rest. r ∷ rest) (filter-front p same front closed_all.1)

  pub closed-same : (last : ℕ) (r : Row B) → is_open r ≡ false → closed last r ≡ r
  closed-same last r is = ap (λ b. cond b (record r { to = Some (record { 0 = last }) }) r) is

  pub advanced-same : (keeps : List Key) (next oid : ℕ) (r : Row B) → is_open r ≡ false → advanced_row keeps next oid r ≡ r
  advanced-same keeps next oid r is = go (is_kept keeps oid r.index)
    where
      go : (b : Bool) → cond b r (closed (next - 1) r) ≡ r
      go true = refl
      go false = closed-same (next - 1) r is

  -- what changes no closed row changes the last row alone
  pub map_last : (f : Row B → Row B) → ((r : Row B) → is_open r ≡ false → f r ≡ r) → (rows : List (Row B)) (n : ℕ) (d : Row B)
      → n + 1 ≡ length rows → IsOrderly rows → set rows n (f (get_or rows n d)) ≡ map f rows
  map_last f same rows n d long orderly =
      set_last rows n _ long
      ∙ sym (ap (map f) (split_last rows n d long) ∙ map-append f (take n rows) _
      ∙ ap (λ front. front ++ f (get_or rows n d) ∷ []) (map-front f same (take n rows) (front_closed rows n long orderly)))

  pub changed_last : (index : ℕ) (change : B → B) (rows : List (Row B)) (n : ℕ) (d : Row B) → n + 1 ≡ length rows → IsOrderly rows
      → set rows n (cond (is_open_at index (get_or rows n d)) (record (get_or rows n d) { bytes = change (get_or rows n d).bytes }) (get_or rows n d))
      ≡ changed (is_open_at index) change rows
  changed_last index change rows n d long orderly =
      set_last rows n _ long
      ∙ sym (ap (changed (is_open_at index) change) (split_last rows n d long)
      ∙ changed-front index change (take n rows) _ (front_closed rows n long orderly)
      ∙ ap (λ rest. take n rows ++ rest) (go (is_open_at index (get_or rows n d))))
    where
      last : Row B
      last = get_or rows n d

      go : (b : Bool) → cond b ((record last { bytes = change last.bytes }) ∷ []) (last ∷ []) ≡ cond b (record last { bytes = change last.bytes }) last ∷ []
      go true = refl
      go false = refl

  pub open_last : (index : ℕ) (rows : List (Row B)) (n : ℕ) (d : Row B) → n + 1 ≡ length rows → IsOrderly rows
      → open_at index rows ≡ cond (is_open_at index (get_or rows n d)) (Some (get_or rows n d)) None
  open_last index rows n d long orderly =
      ap (open_at index) (split_last rows n d long) ∙ find-front index (take n rows) _ (front_closed rows n long orderly)

  -- the last row as it was read
  pub map_last_at : (f : Row B → Row B) → ((r : Row B) → is_open r ≡ false → f r ≡ r) → (rows : List (Row B)) (n : ℕ) (x : Row B)
      → n + 1 ≡ length rows → IsOrderly rows → x ≡ get_or rows n x → set rows n (f x) ≡ map f rows
  map_last_at f same rows n x long orderly is = ap (λ y. set rows n (f y)) is ∙ map_last f same rows n x long orderly

  pub changed_last_at : (index : ℕ) (change : B → B) (rows : List (Row B)) (n : ℕ) (x : Row B) → n + 1 ≡ length rows → IsOrderly rows
      → x ≡ get_or rows n x
      → set rows n (cond (is_open_at index x) (record x { bytes = change x.bytes }) x) ≡ changed (is_open_at index) change rows
  changed_last_at index change rows n x long orderly is =
      ap (λ (y : Row B). set rows n (cond (is_open_at index y) (record y { bytes = change y.bytes }) y)) is ∙ changed_last index change rows n x long orderly

  pub open_last_at : (index : ℕ) (rows : List (Row B)) (n : ℕ) (x : Row B) → n + 1 ≡ length rows → IsOrderly rows → x ≡ get_or rows n x
      → open_at index rows ≡ cond (is_open_at index x) (Some x) None
  open_last_at index rows n x long orderly is =
      open_last index rows n x long orderly ∙ sym (ap (λ y. cond (is_open_at index y) (Some y) None) is)

  pub open_set : (index : ℕ) (rows : List (Row B)) (n : ℕ) (y : Row B) → n + 1 ≡ length rows → IsOrderly rows
      → open_at index (set rows n y) ≡ cond (is_open_at index y) (Some y) None
  open_set index rows n y long orderly =
      ap (open_at index) (set_last rows n y long) ∙ find-front index (take n rows) _ (front_closed rows n long orderly)

  pub orderly_set : (rows : List (Row B)) (n : ℕ) (y : Row B) → n + 1 ≡ length rows → IsOrderly rows → IsOrderly (set rows n y)
  orderly_set rows n y long orderly =
      subst IsOrderly (sym (set_last rows n y long)) (orderly_front (take n rows) y (front_closed rows n long orderly))

  pub orderly_filter : (p : Row B → Bool) (rows : List (Row B)) → IsOrderly rows → IsOrderly (filter p rows)
  orderly_filter p [] orderly = tt
  orderly_filter p (row ∷ rows) orderly = go (p row) (orderly_filter p rows orderly.1)
    where
      go : (b : Bool) → IsOrderly (filter p rows) → IsOrderly (cond b (row ∷ filter p rows) (filter p rows))
      go true rest = (λ is. ap (filter p) (orderly.0 is), rest)
      go false rest = rest

  pub closed_all-closed : (last : ℕ) (rows : List (Row B)) → AllClosed (closed_all last rows)
  closed_all-closed last [] = tt
  closed_all-closed last (row ∷ rows) = (go (is_open row) refl, closed_all-closed last rows)
    where
      go : (b : Bool) → is_open row ≡ b → is_open (cond b (record row { to = Some (record { 0 = last }) }) row) ≡ false
      go true is = refl
      go false is = is

  -- a new open row concerns the last one alone
  ended_last : (epoch : ℕ) (rows : List (Row B)) (n : ℕ) (x : Row B) → n + 1 ≡ length rows → IsOrderly rows → x ≡ get_or rows n x
      → ended epoch rows ≡ take n rows ++ ended epoch (x ∷ [])
  ended_last epoch rows n x long orderly is =
      let front : List (Row B) = take n rows in
      let all_closed = front_closed rows n long orderly in
      let test : Row B → Bool = λ row. not (is_replaced epoch row) in
      ap (ended epoch) (split_last rows n x long ∙ ap (λ y. front ++ y ∷ []) (sym is))
      ∙ ap (map (closed (epoch - 1))) (filter-append test front (x ∷ []))
      ∙ map-append (closed (epoch - 1)) (filter test front) (filter test (x ∷ []))
      ∙ ap (λ kept. map (closed (epoch - 1)) kept ++ ended epoch (x ∷ []))
      (filter-front test (λ r none. ap (λ b. not (b && nat_eq r.from.0 epoch)) none) front all_closed)
      ∙ ap (λ kept. kept ++ ended epoch (x ∷ [])) (map-front (closed (epoch - 1)) (closed-same (epoch - 1)) front all_closed)

  pub ended_gone : (epoch : ℕ) (rows : List (Row B)) (n : ℕ) (x : Row B) → n + 1 ≡ length rows → IsOrderly rows → x ≡ get_or rows n x
      → is_replaced epoch x ≡ true → take n rows ≡ ended epoch rows
  ended_gone epoch rows n x long orderly is gone =
      sym (ended_last epoch rows n x long orderly is
      ∙ ap (λ b. take n rows ++ closed_all (epoch - 1) (cond (not b) (x ∷ []) [])) gone ∙ append-nil (take n rows))

  pub ended_closed : (epoch : ℕ) (rows : List (Row B)) (n : ℕ) (x : Row B) → n + 1 ≡ length rows → IsOrderly rows → x ≡ get_or rows n x
      → is_replaced epoch x ≡ false → set rows n (closed (epoch - 1) x) ≡ ended epoch rows
  ended_closed epoch rows n x long orderly is stays =
      set_last rows n _ long
      ∙ sym (ended_last epoch rows n x long orderly is ∙ ap (λ b. take n rows ++ closed_all (epoch - 1) (cond (not b) (x ∷ []) [])) stays)

  pub orderly_created : (index epoch : ℕ) (bytes : B) (rows : List (Row B)) → IsOrderly (created index epoch bytes rows)
  orderly_created index epoch bytes rows =
      orderly_front (ended epoch rows) _ (closed_all-closed (epoch - 1) (filter (λ row. not (is_replaced epoch row)) rows))

  pub orderly_pushed : (index epoch : ℕ) (bytes : B) (rows before new : List (Row B)) → before ≡ ended epoch rows
      → new ≡ before ++ record { index = index; from = record { 0 = epoch }; to = None; bytes = bytes } ∷ [] → IsOrderly new
  orderly_pushed index epoch bytes rows before new was is =
      let row : Row B = record { index = index; from = record { 0 = epoch }; to = None; bytes = bytes } in
      subst IsOrderly (sym (is ∙ ap (λ (front : List (Row B)). front ++ row ∷ []) was)) (orderly_created index epoch bytes rows)

-- the last row is as it was, to one who sees it by g
pub map_set_same : {A C : Type 0} (g : A → C) (rows : List A) (n : ℕ) (x y : A) → n + 1 ≡ length rows → x ≡ get_or rows n x → g y ≡ g x
    → map g (set rows n y) ≡ map g rows
map_set_same g rows n x y long is same =
    map-set g rows n y ∙ ap (set (map g rows) n) same ∙ sym (map-set g rows n x) ∙ ap (λ z. map g (set rows n z)) is ∙ ap (map g) (set-get_or rows n x)
