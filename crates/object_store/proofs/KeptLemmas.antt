-- What a change of the last row alone means for how rows are seen, and for what they have room for.
use Rattle.std.proofs.Common.{◌≡◌, ℕ, ◌+◌, Bool, true, false, cond, List, [], ◌∷◌, ◌++◌, length, map, take, get_or, Some, None, refl, ap, sym, ◌∙◌, subst}
use Rattle.std.proofs.Math.ListN.{set}
use Rattle.std.proofs.lemmas.List.{map-append}
use Rattle.object_id.specs.Piece.{laid_over}
use Rattle.object_store.specs.declared.row.Row.{Row}
use Rattle.object_store.specs.Bytes.{KeepsPieces}
use Rattle.object_store.specs.Rows.{is_open_at, open_at, changed, IsOrderly}
use Rattle.object_store.specs.Store.{SeenRow, write_in}
use Rattle.object_store.specs.KeptRows.{seen_row, RoomIn, KeepsRowRoom}
use Rattle.object_store.proofs.RowLemmas.{AllClosed, front_closed, split_last, set_last, changed-front, open_last_at, open_set}

module _ {K : Type 0} (HasRoom : K → ℕ → ℕ → Type 0) where
  more_room : (b : Bool) (x y : Row K) (offset n : ℕ) → KeepsPieces (HasRoom x.bytes) (HasRoom y.bytes)
      → RoomIn HasRoom (cond b (Some x) None) offset n → RoomIn HasRoom (cond b (Some y) None) offset n
  more_room true x y offset n keeps had = keeps offset n had
  more_room false x y offset n keeps had = tt

  -- a last row that is the open one of the same indexes, and keeps its room
  pub KeepsRowRoom-set : (rows : List (Row K)) (n : ℕ) (x y : Row K) → n + 1 ≡ length rows → IsOrderly rows → x ≡ get_or rows n x
      → ((index : ℕ) → is_open_at index y ≡ is_open_at index x) → KeepsPieces (HasRoom x.bytes) (HasRoom y.bytes) → KeepsRowRoom HasRoom rows (set rows n y)
  KeepsRowRoom-set rows n x y long orderly is same keeps index offset m had =
      subst (λ o. RoomIn HasRoom o offset m) (sym (open_set index rows n y long orderly ∙ ap (λ b. cond b (Some y) None) (same index)))
      (more_room (is_open_at index x) x y offset m keeps (subst (λ o. RoomIn HasRoom o offset m) (open_last_at index rows n x long orderly is) had))

  pub RoomIn-set : (index offset m : ℕ) (rows : List (Row K)) (n : ℕ) (y : Row K) → n + 1 ≡ length rows → IsOrderly rows
      → (is_open_at index y ≡ true → HasRoom y.bytes offset m) → RoomIn HasRoom (open_at index (set rows n y)) offset m
  RoomIn-set index offset m rows n y long orderly room =
      subst (λ o. RoomIn HasRoom o offset m) (sym (open_set index rows n y long orderly)) (go (is_open_at index y) room)
    where
      go : (b : Bool) → (b ≡ true → HasRoom y.bytes offset m) → RoomIn HasRoom (cond b (Some y) None) offset m
      go true there = there (λ i. true)
      go false there = tt

module _ {K : Type 0} (bytes : K → List ℕ) where
  -- a row that is seen with other bytes is the open one of the same indexes
  pub is_open_at-laid : (test : Bool) (other : List ℕ) (x y : Row K)
      → seen_row bytes y ≡ cond test (record (seen_row bytes x) { bytes = other }) (seen_row bytes x) → (index : ℕ) → is_open_at index y ≡ is_open_at index x
  is_open_at-laid test other x y is index = ap (is_open_at index) is ∙ go test
    where
      go : (b : Bool) → is_open_at index (cond b (record (seen_row bytes x) { bytes = other }) (seen_row bytes x)) ≡ is_open_at index x
      go true = refl
      go false = refl

  AllClosed-seen : (rows : List (Row K)) → AllClosed rows → AllClosed (map (seen_row bytes) rows)
  AllClosed-seen [] all_closed = tt
  AllClosed-seen (row ∷ rows) all_closed = (all_closed.0, AllClosed-seen rows all_closed.1)

  -- a piece laid over the last row, if that is the open one
  pub seen_row-set : (index offset : ℕ) (piece : List ℕ) (rows : List (Row K)) (n : ℕ) (x y : Row K) → n + 1 ≡ length rows → IsOrderly rows → x ≡ get_or rows n x
      → seen_row bytes y ≡ cond (is_open_at index x) (record (seen_row bytes x) { bytes = laid_over (bytes x.bytes) offset piece }) (seen_row bytes x)
      → map (seen_row bytes) (set rows n y) ≡ write_in index offset piece (map (seen_row bytes) rows)
  seen_row-set index offset piece rows n x y long orderly is laid =
      ap (map (seen_row bytes)) (set_last rows n y long) ∙ map-append (seen_row bytes) front (y ∷ [])
      ∙ ap (λ (row : SeenRow). map (seen_row bytes) front ++ row ∷ []) laid
      ∙ sym (ap (λ rows. write_in index offset piece (map (seen_row bytes) rows)) (split_last rows n x long ∙ ap (λ row. front ++ row ∷ []) (sym is))
      ∙ ap (write_in index offset piece) (map-append (seen_row bytes) front (x ∷ []))
      ∙ changed-front index (λ bytes. laid_over bytes offset piece) (map (seen_row bytes) front) (seen_row bytes x ∷ []) (AllClosed-seen front (front_closed rows n long orderly))
      ∙ ap (λ (rest : List SeenRow). map (seen_row bytes) front ++ rest) (go (is_open_at index x)))
    where
      front : List (Row K)
      front = take n rows

      new : SeenRow
      new = record (seen_row bytes x) { bytes = laid_over (bytes x.bytes) offset piece }

      go : (b : Bool) → cond b (new ∷ []) (seen_row bytes x ∷ []) ≡ cond b new (seen_row bytes x) ∷ []
      go true = refl
      go false = refl
