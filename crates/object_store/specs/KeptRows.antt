-- The rows of an object as a store keeps them, and as they are seen. How a row's bytes are kept is any type.
use Rattle.std.specs.Prelude.{ℕ, List, Option, None, Some}
use Rattle.object_store.specs.declared.row.Row.{Row}
use Rattle.object_store.specs.Rows.{open_at}
use Rattle.object_store.specs.Store.{SeenRow}

-- the row with its bytes as a list
abbrev pub seen_row : {K : Type 0} → (K → List ℕ) → Row K → SeenRow
seen_row bytes row = record { index = row.index; from = row.from; to = row.to; bytes = bytes row.bytes }

-- the row, if there is one, has room for the n bytes from offset on
abbrev pub RoomIn : {K : Type 0} → (K → ℕ → ℕ → Type 0) → Option (Row K) → ℕ → ℕ → Type 0
RoomIn HasRoom None offset n = Unit {0}
RoomIn HasRoom (Some row) offset n = HasRoom row.bytes offset n

-- the open row of each index has room for what it had room for
abbrev pub KeepsRowRoom : {K : Type 0} → (K → ℕ → ℕ → Type 0) → List (Row K) → List (Row K) → Type 0
KeepsRowRoom HasRoom old new =
    (index offset n : ℕ) → RoomIn HasRoom (open_at index old) offset n → RoomIn HasRoom (open_at index new) offset n
