-- What a store keeps: a list of objects with the rows of each, by ascending id; and how that is seen.
use Rattle.std.specs.Prelude.{◌≡◌, ℕ, ◌-◌, Bool, List, [], map, None, Some, IsSome, cond, unwrap_or}
use Rattle.std.specs.declared.ops.Bound.TheVariants.{Included}
use Rattle.std.specs.BTreeMap.Range.{range_contains}
use Rattle.std.specs.Map.{lookup}
use Rattle.std.specs.BTreeMap.{is_at}
use Rattle.std.specs.Ordering.{nat_cmp}
use Rattle.std.specs.FinMap as tree
use Rattle.object_id.specs.declared.limits.TheConstants.{OBJECTS_MAX}
use Rattle.object_id.specs.Oid.{IsOid, object_number}
use Rattle.object_store.specs.declared.key.Key.{Key}
use Rattle.object_store.specs.declared.row.Row.{Row}
use Rattle.object_store.specs.Rows.{open_at}
use Rattle.object_store.specs.Store.{AllRows, SeenRow, each, HaveRows}
use Rattle.object_store.specs.There.{HaveRows-each}
use Rattle.object_store.specs.KeptRows.{seen_row, RoomIn}

-- how a row's bytes are kept is any type
abbrev pub Objects : Type 0 → Type 0
Objects K = List (ℕ × List (Row K))

abbrev pub seen_entry : {K : Type 0} → (K → List ℕ) → ℕ × List (Row K) → ℕ × List SeenRow
seen_entry bytes e = (e.0, map (seen_row bytes) e.1)

-- an object of which no row is kept isn't there
abbrev pub seen_objects : {K : Type 0} → (K → List ℕ) → Objects K → AllRows
seen_objects bytes es = each (λ _ rows. rows) (tree.from_entries (map (seen_entry bytes) es))

pub HaveRows-seen_objects : {K : Type 0} (bytes : K → List ℕ) (es : Objects K) → HaveRows (seen_objects bytes es)
HaveRows-seen_objects bytes es = HaveRows-each (λ _ rows. rows) (tree.from_entries (map (seen_entry bytes) es))

-- what is kept of an object
abbrev pub kept_of : {K : Type 0} → Objects K → ℕ → List (Row K)
kept_of es oid = unwrap_or (lookup (is_at (nat_cmp oid)) es) []

-- the open row of the key has room for the piece
abbrev pub HasRoomIn : {K : Type 0} → (K → ℕ → ℕ → Type 0) → Objects K → Key → ℕ → ℕ → Type 0
HasRoomIn HasRoom es key offset n = RoomIn HasRoom (open_at key.index (kept_of es key.oid)) offset n

-- each object is there under an id
abbrev pub HaveIds : {K : Type 0} → Objects K → Type 0
HaveIds es = (q : ℕ) → IsSome (lookup (is_at (nat_cmp q)) es) → IsOid q

-- a number in the range of the ids of a disk's data objects
abbrev pub is_block_of : ℕ → ℕ → Bool
is_block_of vid q = range_contains nat_cmp (Included (object_number vid 0)) (Included (object_number vid (OBJECTS_MAX - 1))) q

-- the objects with these numbers are gone, and each other has what it had
abbrev pub LacksOnly : {K : Type 0} → (ℕ → Bool) → Objects K → Objects K → Type 0
LacksOnly gone old new = (q : ℕ) → lookup (is_at (nat_cmp q)) new ≡ cond (gone q) None (lookup (is_at (nat_cmp q)) old)

-- one object has these rows, and each other what it had
abbrev pub IsPut : {K : Type 0} → Objects K → Objects K → ℕ → List (Row K) → Type 0
IsPut old new oid rows =
    (q : ℕ) → lookup (is_at (nat_cmp q)) new ≡ cond (is_at (nat_cmp oid) q) (Some rows) (lookup (is_at (nat_cmp q)) old)
