-- Lists of calls, and what a store holds after them.
use Rattle.std.specs.Prelude.{◌≡◌, ◌⊎◌, ℕ, ◌+◌, ◌-◌, Bool, not, ◌&&◌, List, [], ◌∷◌, length, map, fold, Option, None, Some, Result, Err}
use Rattle.std.specs.Prelude.{nat_eq, nat_le, nat_lt, slice_index, if◌then◌else◌}
use Rattle.std.specs.Result.{result_unwrap_or}
use Rattle.std.specs.List.{range_with_len}
use Rattle.std.specs.FinMap as tree
use Rattle.object_id.specs.Oid.{vid_of}
use Rattle.object_store.specs.declared.fault.StoreFault.{StoreFault}
use Rattle.object_store.specs.declared.fault.StoreFault.TheVariants.{NoObj}
use Rattle.object_store.specs.declared.key.Key.{Key}
use Rattle.object_store.specs.Rows.{is_open, is_open_at, is_kept, closed_all, advanced, purged, has_ended_below, without_disk}
use Rattle.object_store.specs.Store.{SeenRow, AllRows, value_within, create_at, write_at, each}

-- the calls that change rows, with what they are given
pub data Call : Type 0 where
  Create : Key → ℕ → ℕ → ℕ → List ℕ → Call
  Write : Key → ℕ → List ℕ → Call
  Advance : ℕ → List Key → Call
  CloseAll : ℕ → Call
  PurgeBelow : ℕ → Call
  DropVid : ℕ → Call

-- what the rows are after a call. A refused one changes none
abbrev pub rows_step : AllRows → Call → AllRows
rows_step all (Create key epoch size offset piece) = result_unwrap_or (create_at all key epoch size offset piece) all
rows_step all (Write key offset piece) = result_unwrap_or (write_at all key offset piece) all
rows_step all (Advance next keeps) = each (advanced keeps next) all
rows_step all (CloseAll last) = each (λ _. closed_all last) all
rows_step all (PurgeBelow settled) = each (λ _. purged settled) all
rows_step all (DropVid vid) = each (without_disk vid) all

abbrev pub rows_after : List Call → AllRows
rows_after calls = fold rows_step tree.empty calls

-- a row's length, and the pieces that were laid over it since it was made, the latest first, each with its offset
pub record Story : Type 0 where
  pub size : ℕ
  pub pieces : List (ℕ × List ℕ)

-- the byte at a place: that of the latest piece that reaches over it, and 0 where none does
abbrev pub byte_at : List (ℕ × List ℕ) → ℕ → ℕ
byte_at [] place = 0
byte_at (piece ∷ earlier) place =
    if nat_le piece.0 place && nat_lt place (piece.0 + length piece.1) then slice_index piece.1 (place - piece.0) else byte_at earlier place

abbrev pub is_same_key : Key → Key → Bool
is_same_key a b = nat_eq a.oid b.oid && nat_eq a.index b.index

-- a piece more, where it ends within the row
abbrev pub with_piece : ℕ → List ℕ → Option Story → Option Story
with_piece offset piece None = None
with_piece offset piece (Some story) =
    if nat_le (offset + length piece) story.size then Some (record { size = story.size; pieces = (offset, piece) ∷ story.pieces })
    else Some story

-- what one call more means for the open row of a key
abbrev pub story_after : Key → Option Story → Call → Option Story
story_after key story (Create made epoch size offset piece) =
    if nat_le (offset + length piece) size && nat_eq made.oid key.oid
    then (if nat_eq made.index key.index then Some (record { size = size; pieces = (offset, piece) ∷ [] }) else None)
    else story
story_after key story (Write given offset piece) = if is_same_key given key then with_piece offset piece story else story
story_after key story (Advance next keeps) = if is_kept keeps key.oid key.index then story else None
story_after key story (CloseAll last) = None
story_after key story (PurgeBelow settled) = story
story_after key story (DropVid vid) = if nat_eq (vid_of key.oid) vid then None else story

abbrev pub story_of : Key → List Call → Option Story
story_of key calls = fold (story_after key) None calls

-- what a read gives by the pieces alone
abbrev pub read_story : Option Story → ℕ → ℕ → Result (List ℕ) StoreFault
read_story None offset n = Err NoObj
read_story (Some story) offset n = value_within (offset + n) story.size (map (byte_at story.pieces) (range_with_len offset n))

-- whether a call is about the row of the object: makes another in its place, writes it, ends it or drops it
abbrev pub touches : Call → ℕ → SeenRow → Bool
touches (Create key epoch size offset piece) oid row = nat_eq key.oid oid && is_open row
touches (Write key offset piece) oid row = nat_eq key.oid oid && is_open_at key.index row
touches (Advance next keeps) oid row = is_open row && not (is_kept keeps oid row.index)
touches (CloseAll last) oid row = is_open row
touches (PurgeBelow settled) oid row = has_ended_below settled row.to
touches (DropVid vid) oid row = nat_eq (vid_of oid) vid

-- the row is among the rows
abbrev pub Has : SeenRow → List SeenRow → Type 0
Has row [] = ⊥
Has row (r ∷ rows) = (r ≡ row) ⊎ Has row rows
