-- What closing, purging and dropping rows leave of the open row of an index.
use Rattle.std.proofs.Common.{◌≡◌, ℕ, ◌-◌, Bool, true, false, not, cond, ◌&&◌, nat_eq, List, [], ◌∷◌, Option, Some, None, is_some, refl, ap, sym, ◌∙◌, subst}
use Rattle.std.proofs.lemmas.Bool.{eqb-true, and_parts}
use Rattle.object_id.specs.Oid.{vid_of}
use Rattle.object_id.specs.declared.node.Epoch.{Epoch}
use Rattle.object_store.specs.declared.key.Key.{Key}
use Rattle.object_store.specs.declared.row.Row.{Row}
use Rattle.object_store.specs.Rows.{is_open, is_open_at, open_at, closed, closed_all, is_kept, advanced, purged, has_ended_below, without_disk}
use Rattle.object_store.specs.KeptRows.{RoomIn, KeepsRowRoom}
use Rattle.object_store.proofs.RowLemmas.{AllClosed, closed_all-closed}

module _ {B : Type 0} where
  pub open-none : (index : ℕ) (rows : List (Row B)) → AllClosed rows → open_at index rows ≡ None
  open-none index [] all_closed = refl
  open-none index (row ∷ rows) all_closed =
      ap (λ b. cond (b && nat_eq row.index index) (Some row) (open_at index rows)) all_closed.0 ∙ open-none index rows all_closed.1

  pub open-closed_all : (index last : ℕ) (rows : List (Row B)) → open_at index (closed_all last rows) ≡ None
  open-closed_all index last rows = open-none index (closed_all last rows) (closed_all-closed last rows)

  is_open-closed : (last : ℕ) (row : Row B) → is_open (closed last row) ≡ false
  is_open-closed last row = (closed_all-closed last (row ∷ [])).0

  index-closed : (last : ℕ) (row : Row B) → (closed last row).index ≡ row.index
  index-closed last row = go (is_open row)
    where
      go : (b : Bool) → (cond b (record row { to = Some (record { 0 = last }) }) row).index ≡ row.index
      go true = refl
      go false = refl

  -- the open row of a kept key stays, and no other does
  pub open-advanced : (keeps : List Key) (next oid index : ℕ) (rows : List (Row B))
      → open_at index (advanced keeps next oid rows) ≡ cond (is_kept keeps oid index) (open_at index rows) None
  open-advanced keeps next oid index [] = go (is_kept keeps oid index)
    where
      none : Option (Row B)
      none = None

      go : (b : Bool) → none ≡ cond b none none
      go true = refl
      go false = refl
  open-advanced keeps next oid index (row ∷ rows) =
      step (is_kept keeps oid row.index) refl (is_open_at index row) refl (open-advanced keeps next oid index rows)
    where
      rest : Option (Row B)
      rest = open_at index (advanced keeps next oid rows)

      all : Bool
      all = is_kept keeps oid index

      found : is_open_at index row ≡ true → is_kept keeps oid row.index ≡ all
      found e = ap (is_kept keeps oid) (eqb-true row.index index (and_parts (is_open row) _ e).1)

      shut : open_at index (closed (next - 1) row ∷ advanced keeps next oid rows) ≡ rest
      shut = ap (λ b. cond (b && nat_eq (closed (next - 1) row).index index) (Some (closed (next - 1) row)) rest) (is_open-closed (next - 1) row)

      step : (k : Bool) → is_kept keeps oid row.index ≡ k → (t : Bool) → is_open_at index row ≡ t → rest ≡ cond all (open_at index rows) None
          → open_at index (cond (is_kept keeps oid row.index) row (closed (next - 1) row) ∷ advanced keeps next oid rows)
          ≡ cond all (cond (is_open_at index row) (Some row) (open_at index rows)) None
      step true kept true here tail =
          ap (λ b. open_at index (cond b row (closed (next - 1) row) ∷ advanced keeps next oid rows)) kept
          ∙ ap (λ b. cond b (Some row) rest) here
          ∙ sym (ap (λ b. cond all (cond b (Some row) (open_at index rows)) None) here ∙ ap (λ b. cond b (Some row) None) (sym (found here) ∙ kept))
      step true kept false other tail =
          ap (λ b. open_at index (cond b row (closed (next - 1) row) ∷ advanced keeps next oid rows)) kept
          ∙ ap (λ b. cond b (Some row) rest) other ∙ tail
          ∙ sym (ap (λ b. cond all (cond b (Some row) (open_at index rows)) None) other)
      step false gone true here tail =
          ap (λ b. open_at index (cond b row (closed (next - 1) row) ∷ advanced keeps next oid rows)) gone ∙ shut ∙ tail
          ∙ ap (λ b. cond b (open_at index rows) None) (sym (found here) ∙ gone)
          ∙ sym (ap (λ b. cond b (cond (is_open_at index row) (Some row) (open_at index rows)) None) (sym (found here) ∙ gone))
      step false gone false other tail =
          ap (λ b. open_at index (cond b row (closed (next - 1) row) ∷ advanced keeps next oid rows)) gone ∙ shut ∙ tail
          ∙ sym (ap (λ b. cond all (cond b (Some row) (open_at index rows)) None) other)

  pub open-purged : (settled index : ℕ) (rows : List (Row B)) → open_at index (purged settled rows) ≡ open_at index rows
  open-purged settled index [] = refl
  open-purged settled index (row ∷ rows) = step row.to refl (open-purged settled index rows)
    where
      left : List (Row B)
      left = purged settled rows

      either : (b : Bool) → is_open_at index row ≡ false → open_at index (cond b (row ∷ left) left) ≡ open_at index left
      either true other = ap (λ t. cond t (Some row) (open_at index left)) other
      either false other = refl

      step : (o : Option Epoch) → row.to ≡ o → open_at index left ≡ open_at index rows
          → open_at index (cond (not (has_ended_below settled row.to)) (row ∷ left) left) ≡ cond (is_open_at index row) (Some row) (open_at index rows)
      step None is rest =
          ap (λ to. open_at index (cond (not (has_ended_below settled to)) (row ∷ left) left)) is
          ∙ ap (cond (is_open_at index row) (Some row)) rest
      step (Some to) is rest =
          let other : is_open_at index row ≡ false = ap (λ o. not (is_some o) && nat_eq row.index index) is in
          either (not (has_ended_below settled row.to)) other ∙ rest ∙ sym (ap (λ t. cond t (Some row) (open_at index rows)) other)

module _ {K : Type 0} (HasRoom : K → ℕ → ℕ → Type 0) where
  pub KeepsRowRoom-closed_all : (last : ℕ) (rows : List (Row K)) → KeepsRowRoom HasRoom rows (closed_all last rows)
  KeepsRowRoom-closed_all last rows index offset n had = subst (λ o. RoomIn HasRoom o offset n) (sym (open-closed_all index last rows)) tt

  pub KeepsRowRoom-advanced : (keeps : List Key) (next oid : ℕ) (rows : List (Row K)) → KeepsRowRoom HasRoom rows (advanced keeps next oid rows)
  KeepsRowRoom-advanced keeps next oid rows index offset n had =
      subst (λ o. RoomIn HasRoom o offset n) (sym (open-advanced keeps next oid index rows)) (go (is_kept keeps oid index))
    where
      go : (b : Bool) → RoomIn HasRoom (cond b (open_at index rows) None) offset n
      go true = had
      go false = tt

  pub KeepsRowRoom-purged : (settled : ℕ) (rows : List (Row K)) → KeepsRowRoom HasRoom rows (purged settled rows)
  KeepsRowRoom-purged settled rows index offset n had = subst (λ o. RoomIn HasRoom o offset n) (sym (open-purged settled index rows)) had

  pub KeepsRowRoom-without_disk : (vid oid : ℕ) (rows : List (Row K)) → KeepsRowRoom HasRoom rows (without_disk vid oid rows)
  KeepsRowRoom-without_disk vid oid rows index offset n had = go (nat_eq (vid_of oid) vid)
    where
      go : (b : Bool) → RoomIn HasRoom (open_at index (cond b [] rows)) offset n
      go true = tt
      go false = had

pub without_disk-none : {B : Type 0} (vid oid : ℕ) → without_disk {B = B} vid oid [] ≡ []
without_disk-none {B} vid oid = go (nat_eq (vid_of oid) vid)
  where
    none : List (Row B)
    none = []

    go : (b : Bool) → cond b none none ≡ none
    go true = refl
    go false = refl
