-- The rows of one object, in the order in which they were made. A row's bytes are of any type, so that the words
-- serve rows as they are seen and rows as a store keeps them.
use Rattle.std.specs.Prelude.{◌≡◌, ℕ, ◌-◌, ◌<◌, ◌≤◌, Bool, true, false, not, ◌&&◌, List, [], ◌∷◌, ◌++◌, map, filter, fold, Option, None}
use Rattle.std.specs.Prelude.{Some, is_some, nat_eq, nat_lt, nat_le, if◌then◌else◌}
use Rattle.std.specs.List.{find, list_any, AllByRecursion}
use Rattle.object_id.specs.Oid.{vid_of}
use Rattle.object_id.specs.declared.node.Epoch.{Epoch}
use Rattle.object_store.specs.declared.key.Key.{Key}
use Rattle.object_store.specs.declared.row.Row.{Row}

-- whether a row that ends so ended below the settled epoch
abbrev pub has_ended_below : ℕ → Option Epoch → Bool
has_ended_below settled None = false
has_ended_below settled (Some to) = nat_lt to.0 settled

-- whether a row that ends so reaches to the level
abbrev pub reaches : ℕ → Option Epoch → Bool
reaches level None = true
reaches level (Some to) = nat_le level to.0

-- whether the keys have that of the object's row of this index
abbrev pub is_kept : List Key → ℕ → ℕ → Bool
is_kept keeps oid index = list_any (λ key. nat_eq key.oid oid && nat_eq key.index index) keeps

module _ {B : Type 0} where
  abbrev pub is_open : Row B → Bool
  is_open row = not (is_some row.to)

  abbrev pub is_open_at : ℕ → Row B → Bool
  is_open_at index row = is_open row && nat_eq row.index index

  -- the open row of an index
  abbrev pub open_at : ℕ → List (Row B) → Option (Row B)
  open_at index rows = find (is_open_at index) rows

  -- an open row ends at the epoch, and a closed one stays
  abbrev pub closed : ℕ → Row B → Row B
  closed last row = if is_open row then (record row { to = Some (record { 0 = last }) }) else row

  abbrev pub closed_all : ℕ → List (Row B) → List (Row B)
  closed_all last rows = map (closed last) rows

  -- whether a new open row of the epoch takes the row's place
  abbrev pub is_replaced : ℕ → Row B → Bool
  is_replaced epoch row = is_open row && nat_eq row.from.0 epoch

  -- the rows before a new open one: one from the same epoch goes, and one from an earlier epoch is closed
  abbrev pub ended : ℕ → List (Row B) → List (Row B)
  ended epoch rows = closed_all (epoch - 1) (filter (λ row. not (is_replaced epoch row)) rows)

  abbrev pub created : ℕ → ℕ → B → List (Row B) → List (Row B)
  created index epoch bytes rows = ended epoch rows ++ record { index = index; from = record { 0 = epoch }; to = None; bytes = bytes } ∷ []

  -- the first row that passes is changed
  abbrev pub changed : (Row B → Bool) → (B → B) → List (Row B) → List (Row B)
  changed test change [] = []
  changed test change (row ∷ rows) =
      if test row then (record row { bytes = change row.bytes }) ∷ rows else row ∷ changed test change rows

  -- going to the next epoch, a row whose key isn't kept ends with the epoch before
  abbrev pub advanced_row : List Key → ℕ → ℕ → Row B → Row B
  advanced_row keeps next oid row = if is_kept keeps oid row.index then row else closed (next - 1) row

  abbrev pub advanced : List Key → ℕ → ℕ → List (Row B) → List (Row B)
  advanced keeps next oid rows = map (advanced_row keeps next oid) rows

  abbrev pub purged : ℕ → List (Row B) → List (Row B)
  purged settled rows = filter (λ row. not (has_ended_below settled row.to)) rows

  -- what is left of an object's rows where a disk's rows go
  abbrev pub without_disk : ℕ → ℕ → List (Row B) → List (Row B)
  without_disk vid oid rows = if nat_eq (vid_of oid) vid then [] else rows

  -- whether the row is the object's at the level
  abbrev pub holds : ℕ → Row B → Bool
  holds level row = nat_le row.from.0 level && reaches level row.to

  abbrev pub is_no_later : Option (Row B) → Row B → Bool
  is_no_later None row = true
  is_no_later (Some best) row = nat_le best.from.0 row.from.0

  abbrev pub better : ℕ → Option (Row B) → Row B → Option (Row B)
  better level best row = if holds level row && is_no_later best row then Some row else best

  -- of the rows that hold the level the one with the greatest from, and of equal ones the one made last
  abbrev pub row_holding : ℕ → List (Row B) → Option (Row B)
  row_holding level rows = fold (better level) None rows

  -- the row holds the level; of the others that do, those made before are from no later epoch, those after from an earlier one
  abbrev pub IsRowAt : ℕ → List (Row B) → Row B → Type 0
  IsRowAt level rows row =
      (before : List (Row B)) × (after : List (Row B)) × (rows ≡ before ++ row ∷ after) × (holds level row ≡ true)
      × AllByRecursion (λ r. holds level r ≡ true → r.from.0 ≤ row.from.0) before
      × AllByRecursion (λ r. holds level r ≡ true → r.from.0 < row.from.0) after

  -- behind an open row there is none: at most the last row is open
  abbrev pub IsOrderly : List (Row B) → Type 0
  IsOrderly [] = Unit {0}
  IsOrderly (row ∷ rows) = (is_open row ≡ true → rows ≡ []) × IsOrderly rows

  -- each open row is from an epoch of this kind
  abbrev pub OpenFrom : (ℕ → Type 0) → List (Row B) → Type 0
  OpenFrom P rows = AllByRecursion (λ row. is_open row ≡ true → P row.from.0) rows
