-- The rows that `dump` lists are those of the nodes that are up.
use Rattle.std.proofs.Common.{◌≡◌, ◌⊎◌, inl, inr, ℕ, Bool, true, false, cond, List, [], ◌∷◌, map, filter, fold, Contains, Option, Some, None, unwrap_or, refl, sym, ap, subst}
use Rattle.std.specs.FinMap as tree
use Rattle.proof_tools.proofs.FiniteMaps.{entries-contain, get-entry}
use Rattle.object_store.specs.Store.{SeenRow, AllRows, rows_of}
use Rattle.hash_ring.proofs.InLaws.{In, in_from_contains, contains_from_in, in_map, from_map, in_flat_map, from_flat_map, in_filter, from_filter}
use Rattle.sheep_node.specs.State.{Node}
use Rattle.sheep_world.specs.World.{Host, World, is_host_up}
use Rattle.dog_report.specs.Words.{Words}
use Rattle.dog_report.specs.Lists.{row_words, comes_before, put_in_order, ordered_rows, node_rows, dump}

-- ---- the rows in order are the rows

-- each of the ordered rows with one more is the new one or was there
from_put : (rows : List SeenRow) (new row : SeenRow) → In row (put_in_order rows new) → (new ≡ row) ⊎ In row rows
from_put [] new row h = h
from_put (first ∷ later) new row h = by_place (comes_before new first) h (from_put later new row)
  where
    by_place : (b : Bool) → In row (cond b (new ∷ first ∷ later) (first ∷ put_in_order later new))
        → (In row (put_in_order later new) → (new ≡ row) ⊎ In row later) → (new ≡ row) ⊎ In row (first ∷ later)
    by_place true h rest = h
    by_place false (inl same) rest = inr (inl same)
    by_place false (inr there) rest = elim (rest there) [ inl same ↦ inl same | inr before ↦ inr (inr before) ]

-- and the new one and each that was there is among them
in_put : (rows : List SeenRow) (new row : SeenRow) → (new ≡ row) ⊎ In row rows → In row (put_in_order rows new)
in_put [] new row h = h
in_put (first ∷ later) new row h = by_place (comes_before new first) h (in_put later new row)
  where
    by_place : (b : Bool) → (new ≡ row) ⊎ In row (first ∷ later) → ((new ≡ row) ⊎ In row later → In row (put_in_order later new))
        → In row (cond b (new ∷ first ∷ later) (first ∷ put_in_order later new))
    by_place true h rest = h
    by_place false (inl same) rest = inr (rest (inl same))
    by_place false (inr (inl same)) rest = inl same
    by_place false (inr (inr before)) rest = inr (rest (inr before))

-- the same with all rows put in
from_put_all : (rows ordered : List SeenRow) (row : SeenRow) → In row (fold put_in_order ordered rows) → In row ordered ⊎ In row rows
from_put_all [] ordered row h = inl h
from_put_all (new ∷ rows) ordered row h = by_part (from_put_all rows (put_in_order ordered new) row h)
  where
    by_part : In row (put_in_order ordered new) ⊎ In row rows → In row ordered ⊎ In row (new ∷ rows)
    by_part (inl there) = elim (from_put ordered new row there) [ inl same ↦ inr (inl same) | inr before ↦ inl before ]
    by_part (inr there) = inr (inr there)

-- and each of these and of those before is there
in_put_all : (rows ordered : List SeenRow) (row : SeenRow) → In row ordered ⊎ In row rows → In row (fold put_in_order ordered rows)
in_put_all [] ordered row (inl there) = there
in_put_all [] ordered row (inr there) = absurd there
in_put_all (new ∷ rows) ordered row (inl there) =
    in_put_all rows (put_in_order ordered new) row (inl (in_put ordered new row (inr there)))
in_put_all (new ∷ rows) ordered row (inr (inl same)) =
    in_put_all rows (put_in_order ordered new) row (inl (in_put ordered new row (inl same)))
in_put_all (new ∷ rows) ordered row (inr (inr there)) = in_put_all rows (put_in_order ordered new) row (inr there)

-- each row in order is one of the rows
from_order : (rows : List SeenRow) (row : SeenRow) → In row (ordered_rows rows) → In row rows
from_order rows row h = elim (from_put_all rows [] row h) [ inl there ↦ absurd there | inr there ↦ there ]

-- ---- the rows of a node

-- an object with a row has an entry
rows_there : (all : AllRows) (oid : ℕ) (row : SeenRow) → In row (rows_of all oid) → tree.get all oid ≡ Some (rows_of all oid)
rows_there all oid row h = by_entry (tree.get all oid) h
  where
    by_entry : (found : Option (List SeenRow)) → In row (unwrap_or found []) → found ≡ Some (unwrap_or found [])
    by_entry None h = absurd h
    by_entry (Some rows) h = refl

-- the words of an object's rows
abbrev object_words : ℕ → ℕ × List SeenRow → List Words
object_words number rows = map (row_words number rows.0) (ordered_rows rows.1)

-- what a node lists is the words of one of its rows
from_node : (number : ℕ) (node : Node) (words : Words) → In words (node_rows number node)
    → (oid : ℕ) × (row : SeenRow) × In row (rows_of node.peer.rows oid) × (words ≡ row_words number oid row)
from_node number node words h =
    let all : AllRows = node.peer.rows in
    let (e, among, listed) = from_flat_map (object_words number) (tree.entries all) words h in
    let (row, there, is) = from_map (row_words number e.0) (ordered_rows e.1) words listed in
    let got : tree.get all e.0 ≡ Some e.1 = get-entry all e (contains_from_in (tree.entries all) e among) in
    let same : e.1 ≡ rows_of all e.0 = sym (ap (λ (found : Option (List SeenRow)). unwrap_or found []) got) in
    (e.0, row, subst (λ (rows : List SeenRow). In row rows) same (from_order e.1 row there), sym is)

-- and the words of each row are listed
in_node : (number : ℕ) (node : Node) (oid : ℕ) (row : SeenRow) → In row (rows_of node.peer.rows oid)
    → In (row_words number oid row) (node_rows number node)
in_node number node oid row h =
    let all : AllRows = node.peer.rows in
    let rows : List SeenRow = rows_of all oid in
    let among = entries-contain tree.nat_cmp-IsAntisymmetric all oid rows (rows_there all oid row h) in
    in_flat_map (object_words number) (tree.entries all) (oid, rows) (row_words number oid row)
    (in_from_contains (tree.entries all) (oid, rows) among)
    (in_map (row_words number oid) (ordered_rows rows) row (in_put_all rows [] row (inr h)))

-- ---- the rows of the nodes that are up

-- the words of a host's rows
abbrev host_rows : ℕ × Host → List Words
host_rows host = node_rows host.0 host.1.node

-- whether a host's node is up, by the entry of its number
abbrev is_entry_up : ℕ × Host → Bool
is_entry_up host = is_host_up host.1

-- what is listed is the words of a row of a node that is up
pub dump-only : (world : World) (words : Words) → Contains (dump world) words
    → (number : ℕ) × (host : Host) × (oid : ℕ) × (row : SeenRow)
    × (tree.get world.hosts number ≡ Some host) × (is_host_up host ≡ true) × Contains (rows_of host.node.peer.rows oid) row
    × (words ≡ row_words number oid row)
dump-only world words h =
    let hosts : List (ℕ × Host) = tree.entries world.hosts in
    let (e, passed, listed) = from_flat_map host_rows (filter is_entry_up hosts) words (in_from_contains (dump world) words h) in
    let (among, up) = from_filter is_entry_up hosts e passed in
    let (oid, row, there, is) = from_node e.0 e.1.node words listed in (
      e.0,
      e.1,
      oid,
      row,
      get-entry world.hosts e (contains_from_in hosts e among),
      up,
      contains_from_in (rows_of e.1.node.peer.rows oid) row there,
      is,
    )

-- and the words of each such row are listed
pub dump-all : (world : World) (number : ℕ) (host : Host) (oid : ℕ) (row : SeenRow)
    → tree.get world.hosts number ≡ Some host → is_host_up host ≡ true → Contains (rows_of host.node.peer.rows oid) row
    → Contains (dump world) (row_words number oid row)
dump-all world number host oid row is up there =
    let hosts : List (ℕ × Host) = tree.entries world.hosts in
    let among = in_from_contains hosts (number, host) (entries-contain tree.nat_cmp-IsAntisymmetric world.hosts number host is) in
    contains_from_in (dump world) (row_words number oid row)
    (in_flat_map host_rows (filter is_entry_up hosts) (number, host) (row_words number oid row)
    (in_filter is_entry_up hosts (number, host) among up)
    (in_node number host.node oid row (in_from_contains (rows_of host.node.peer.rows oid) row there)))
