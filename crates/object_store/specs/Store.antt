-- What a store holds, and what each call makes of it.
use Rattle.std.specs.Prelude.{◌≢◌, ℕ, ◌+◌, ◌-◌, ◌<◌, ◌≤◌, List, [], ◌∷◌, ◌++◌, length, take, Option, Some, None, Result, Ok, Err, unwrap_or}
use Rattle.std.specs.Prelude.{nat_le, if◌then◌else◌}
use Rattle.std.specs.List.{slice_get, sum_by}
use Rattle.std.specs.Option.{option_map}
use Rattle.std.specs.Ordering.{nat_cmp}
use Rattle.std.specs.FinMap as tree
use Rattle.object_id.specs.Piece.{laid_over}
use Rattle.object_store.specs.declared.fault.StoreFault.{StoreFault}
use Rattle.object_store.specs.declared.fault.StoreFault.TheVariants.{NoObj, OutOfObject}
use Rattle.object_store.specs.declared.key.Key.{Key}
use Rattle.object_store.specs.declared.row.Row.{Row}
use Rattle.object_store.specs.declared.row.RowCopy.{RowCopy}
use Rattle.object_store.specs.declared.row.RowSummary.{RowSummary}
use Rattle.object_id.specs.Hash.{fnv1a_of}
use Rattle.object_id.specs.Fields.{zeros}
use Rattle.object_store.specs.Bytes.{piece_at, trimmed_bytes}
use Rattle.object_store.specs.Rows.{is_open_at, open_at, created, changed, row_holding, OpenFrom}

-- a row whose bytes are a list of its length
abbrev pub SeenRow : Type 0
SeenRow = Row (List ℕ)

-- from an object's id to its rows, in the order in which they were made. An object without rows isn't there
abbrev pub AllRows : Type 0
AllRows = tree.FinMap nat_cmp (List SeenRow)

abbrev pub rows_of : AllRows → ℕ → List SeenRow
rows_of all oid = unwrap_or (tree.get all oid) []

abbrev pub open_row : AllRows → Key → Option SeenRow
open_row all key = open_at key.index (rows_of all key.oid)

-- of what is there, where the end is within a length; outside, the refusal
abbrev pub value_within : {A : Type 0} → ℕ → ℕ → A → Result A StoreFault
value_within end size there = if nat_le end size then Ok there else Err OutOfObject

-- what is made of an open row that the end is within, or the first refusal
abbrev pub on_open : {A : Type 0} → ℕ → Option SeenRow → (SeenRow → A) → Result A StoreFault
on_open end None make = Err NoObj
on_open end (Some row) make = value_within end (length row.bytes) (make row)

-- how many bytes the open row of a key has, where there is one
abbrev pub open_length : AllRows → Key → Option ℕ
open_length all key = option_map (λ (row : SeenRow). length row.bytes) (open_row all key)

-- whether the piece is inside an open row
abbrev pub piece_there : AllRows → Key → ℕ → ℕ → Result (Unit {0}) StoreFault
piece_there all key offset n = on_open (offset + n) (open_row all key) (λ row. tt)

abbrev pub read_at : AllRows → Key → ℕ → ℕ → Result (List ℕ) StoreFault
read_at all key offset n = on_open (offset + n) (open_row all key) (λ row. piece_at row.bytes offset n)

abbrev pub write_in : ℕ → ℕ → List ℕ → List SeenRow → List SeenRow
write_in index offset piece rows = changed (is_open_at index) (λ bytes. laid_over bytes offset piece) rows

abbrev pub write_at : AllRows → Key → ℕ → List ℕ → Result AllRows StoreFault
write_at all key offset piece =
    on_open (offset + length piece) (open_row all key) (λ row. tree.insert all key.oid
    (write_in key.index offset piece (rows_of all key.oid)))

abbrev pub create_in : ℕ → ℕ → ℕ → ℕ → List ℕ → List SeenRow → List SeenRow
create_in index epoch size offset piece rows = created index epoch (laid_over (zeros size) offset piece) rows

abbrev pub create_at : AllRows → Key → ℕ → ℕ → ℕ → List ℕ → Result AllRows StoreFault
create_at all key epoch size offset piece =
    value_within (offset + length piece) size (tree.insert all key.oid (create_in key.index epoch size offset piece (rows_of all key.oid)))

abbrev pub copy_of : SeenRow → RowCopy
copy_of row = record { index = row.index; from = row.from; to = row.to; length = length row.bytes; bytes = trimmed_bytes row.bytes }

-- a copy of the object's row at the level, if a row holds it
abbrev pub copy_at : AllRows → ℕ → ℕ → Option RowCopy
copy_at all oid level = option_map copy_of (row_holding level (rows_of all oid))

-- a row without its bytes
abbrev pub summary_of : SeenRow → RowSummary
summary_of row = record {
  index = row.index;
  from = row.from;
  to = row.to;
  length = length row.bytes;
  hash = fnv1a_of (trimmed_bytes row.bytes);
}

-- row number k of an object, from 0, without its bytes
abbrev pub summary_at : AllRows → ℕ → ℕ → Option RowSummary
summary_at all oid k = option_map summary_of (slice_get (rows_of all oid) k)

-- how many rows all objects have
abbrev pub row_count : AllRows → ℕ
row_count all = sum_by length (tree.values all)

-- all the bytes of a row, whose copy leaves out the last zeros; what a copy has past the row's length isn't the row's
abbrev pub row_bytes : RowCopy → List ℕ
row_bytes row = take row.length row.bytes ++ zeros (row.length - length row.bytes)

-- an object without rows isn't there
abbrev pub with_rows : {B : Type 0} → ℕ → List B → List (ℕ × List B) → List (ℕ × List B)
with_rows oid [] es = es
with_rows oid (row ∷ rows) es = (oid, row ∷ rows) ∷ es

abbrev pub each_entry : {B : Type 0} → (ℕ → List B → List B) → List (ℕ × List B) → List (ℕ × List B)
each_entry change [] = []
each_entry change (e ∷ es) = with_rows e.0 (change e.0 e.1) (each_entry change es)

-- each object's rows are changed
unfoldable pub each : (ℕ → List SeenRow → List SeenRow) → AllRows → AllRows
each change all = tree.from_entries (each_entry change (tree.entries all))

-- no object is there without rows
abbrev pub HaveRows : AllRows → Type 0
HaveRows all = (oid : ℕ) → tree.get all oid ≢ Some []

-- no open row of any object is from an epoch above this one
abbrev pub OpenUpTo : ℕ → AllRows → Type 0
OpenUpTo epoch all = (oid : ℕ) → OpenFrom (λ from. from ≤ epoch) (rows_of all oid)

-- every open row of any object is from an epoch below this one
abbrev pub OpenBelow : ℕ → AllRows → Type 0
OpenBelow epoch all = (oid : ℕ) → OpenFrom (λ from. from < epoch) (rows_of all oid)
