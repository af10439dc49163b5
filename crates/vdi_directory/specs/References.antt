-- Who bears an id: itself while it is reserved or live, and each of its children that somebody bears. An id that nobody
-- bears is dead.
use Rattle.std.specs.Prelude.{◌≡◌, ℕ, zero, suc, ◌+◌, ◌^◌, ◌<◌, ◌≤◌, ◌==◌, ◌&&◌, nat_lt, Bool, true, false, List, [], ◌∷◌, Option, Some}
use Rattle.std.specs.Prelude.{None, unwrap_or, if◌then◌else◌}
use Rattle.std.specs.List.{list_any}
use Rattle.std.specs.Ordering.{nat_cmp}
use Rattle.std.specs.BTreeMap.{BTreeMap, get}
use Rattle.object_id.specs.declared.oid.Vid.{Vid}
use Rattle.object_id.specs.declared.node.NodeId.{NodeId}
use Rattle.vdi_directory.specs.declared.header.Header.{Header}
use Rattle.vdi_directory.specs.declared.effect.Reservation.{Reservation}
use Rattle.vdi_directory.specs.declared.effect.Effect.{Effect}
use Rattle.vdi_directory.specs.States.{VdiState, Unused, Reserved, Working, Snapshot, Deleted, Freed, state_of}
use Rattle.vdi_directory.specs.Effects.{header_of}

abbrev pub one_if : Bool → ℕ
one_if b = if b then 1 else 0

-- 1 at one id, and 0 at each other
abbrev pub one : ℕ → ℕ → ℕ
one vid other = one_if (vid == other)

abbrev pub one_parent_reference : Option Vid → ℕ → ℕ
one_parent_reference None other = 0
one_parent_reference (Some parent) other = one parent.0 other

-- what a child adds to an id: 1 where it is referenced and the id is its parent
abbrev pub references_by : Option Vid → ℕ → ℕ → ℕ
references_by parent count vid = if nat_lt 0 count then one_parent_reference parent vid else 0

-- the sum of a function's values below a number
unfoldable pub total : (ℕ → ℕ) → ℕ → ℕ
total f zero = 0
total f (suc n) = total f n + f n

-- the numbers that an id may be stored as
unfoldable pub KEY_COUNT : ℕ
KEY_COUNT = 2 ^ 32

-- how many children of an id are referenced
abbrev pub child_references : (ℕ → Option Vid) → (ℕ → ℕ) → ℕ → ℕ
child_references parent counts vid = total (λ child. references_by (parent child) (counts child) vid) KEY_COUNT

-- an id has so many references: its own, and its children that are referenced
abbrev pub AreReferenceCounts : (ℕ → Option Vid) → (ℕ → ℕ) → (ℕ → ℕ) → Type 0
AreReferenceCounts parent own counts = (vid : ℕ) → counts vid ≡ own vid + child_references parent counts vid

-- reserved or live
abbrev pub stands : VdiState → Bool
stands Unused = false
stands (Reserved by) = true
stands Working = true
stands (Snapshot tag) = true
stands Deleted = false
stands Freed = false

abbrev pub header_parent : Option Header → Option Vid
header_parent None = None
header_parent (Some header) = header.parent

-- what an id was made from
abbrev pub parent_of : List Effect → ℕ → Option Vid
parent_of before vid = header_parent (header_of before vid)

-- an id that stands bears itself
abbrev pub own_of : List Effect → ℕ → ℕ
own_of before vid = one_if (stands (state_of before vid))

-- what an id was made from, by the headers that are kept
abbrev pub parent_in : BTreeMap ℕ Header → ℕ → Option Vid
parent_in headers vid = header_parent (get nat_cmp headers vid)

-- how many references an id has, by the counts that are kept
abbrev pub count_in : BTreeMap ℕ ℕ → ℕ → ℕ
count_in references vid = unwrap_or (get nat_cmp references vid) 0

abbrev pub reserved_once : NodeId → Reservation → ℕ → ℕ
reserved_once node reservation vid = if reservation.by.0 == node.0 then one reservation.vid.0 vid else 0

-- how many of the reservations are a node's on an id
abbrev pub reserved_by : NodeId → List Reservation → ℕ → ℕ
reserved_by node [] vid = 0
reserved_by node (reservation ∷ reservations) vid = reserved_once node reservation vid + reserved_by node reservations vid

-- each id has as many references of its own as are to be taken
abbrev pub CanLose : (ℕ → ℕ) → (ℕ → Option Vid) → (ℕ → ℕ) → Type 0
CanLose lost parent counts = (own : ℕ → ℕ) × AreReferenceCounts parent (λ vid. own vid + lost vid) counts

-- these are taken, and with the last reference of an id one of its parent
abbrev pub LosesReferences : (ℕ → ℕ) → (ℕ → Option Vid) → (ℕ → ℕ) → (ℕ → ℕ) → Type 0
LosesReferences lost parent old new =
    (own : ℕ → ℕ) → AreReferenceCounts parent (λ vid. own vid + lost vid) old → AreReferenceCounts parent own new

-- a parent is referenced, and its count far from the end
abbrev pub IsReferenced : Option Vid → (ℕ → ℕ) → Type 0
IsReferenced None counts = Unit {0}
IsReferenced (Some parent) counts = (0 < counts parent.0) × (counts parent.0 < 2 ^ 63)

-- what an id has left, where `left` has the ids that lose some
abbrev pub left_in : BTreeMap ℕ ℕ → BTreeMap ℕ ℕ → ℕ → ℕ
left_in references left vid = unwrap_or (get nat_cmp left vid) (count_in references vid)

abbrev pub has_vid : ℕ → List Vid → Bool
has_vid vid ids = list_any (λ (id : Vid). id.0 == vid) ids

-- no id is there twice
abbrev pub IdsDiffer : List Vid → Type 0
IdsDiffer [] = Unit {0}
IdsDiffer (id ∷ ids) = (has_vid id.0 ids ≡ false) × IdsDiffer ids

-- no id has more left than it had, and the list has those that have lost their last one, each once
pub record AreLosses (counts left : ℕ → ℕ) (dead : List Vid) : Type 0 where
  pub once : IdsDiffer dead
  pub most : (vid : ℕ) → left vid ≤ counts vid
  pub lost : (vid : ℕ) → has_vid vid dead ≡ (nat_lt 0 (counts vid) && left vid == 0)
