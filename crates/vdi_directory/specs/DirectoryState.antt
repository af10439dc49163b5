-- What a directory keeps beside its entries, so that no question scans them, and what each of it is of what they did.
use Rattle.std.specs.Prelude.{◌≡◌, ℕ, ◌+◌, ◌||◌, false, List, [], Option, None, Some}
use Rattle.std.specs.Ordering.{nat_cmp}
use Rattle.std.specs.BTreeMap.{get}
use Rattle.std.specs.FinMap as tree
use Rattle.object_id.specs.Oid.{IsVid}
use Rattle.disk_lock.specs.Locks.{Holders}
use Rattle.object_id.specs.declared.oid.Vid.{Vid}
use Rattle.vdi_directory.specs.declared.effect.Reservation.{Reservation}
use Rattle.vdi_directory.specs.declared.effect.Effect.{Effect}
use Rattle.vdi_directory.specs.declared.effect.Effect.TheVariants.{Reserved, Snapped, Deleted, Withdrawn, Left}
use Rattle.vdi_directory.specs.declared.header.Header.{Header}
use Rattle.vdi_directory.specs.declared.directory_state.DirectoryState.{DirectoryState}
use Rattle.vdi_directory.specs.Vids.{is_in, AreRanges}
use Rattle.vdi_directory.specs.NameRows.{name_in, standing_after}
use Rattle.vdi_directory.specs.Names.{snapshot_with_tag}
use Rattle.vdi_directory.specs.References.{one, one_parent_reference, reserved_by, parent_of, own_of, parent_in, count_in}
use Rattle.vdi_directory.specs.References.{AreReferenceCounts, AreLosses, CanLose, LosesReferences, IsReferenced}
use Rattle.vdi_directory.specs.Known.{AreKnown}
use Rattle.vdi_directory.specs.Effects.{grants, is_used, header_after, header_of, name_of, reservations_after, reservations_of}
use Rattle.vdi_directory.specs.Effects.{live_after, live_of, holder_after, holder_of}

-- what the state holds, against what happened, and that all of it is valid
pub record IsDirectoryState (before : List Effect) (state : DirectoryState) : Type 0 where
  pub headers : (vid : ℕ) → get nat_cmp state.headers vid ≡ header_of before vid
  pub working : (name : List ℕ) → (name_in state.names.rows name).working ≡ (name_of before name).working
  pub tagged : (name tag : List ℕ) → (name_in state.names.rows name).tagged tag ≡ snapshot_with_tag tag (name_of before name)
  pub taken : (name : List ℕ) → (name_in state.names.rows name).taken ≡ (name_of before name).taken
  pub reservations : state.reservations.items ≡ reservations_of before
  pub live : state.live.items ≡ live_of before
  pub ranges : AreRanges state.used.items
  pub used : (vid : ℕ) → is_in state.used.items vid ≡ is_used before vid
  pub references : AreReferenceCounts (parent_of before) (own_of before) (count_in state.references)
  pub known : AreKnown before

-- how many references of its own an id loses by an effect
abbrev pub lost_by : Effect → List Reservation → ℕ → ℕ
lost_by (Deleted vid name) reservations = one vid.0
lost_by (Withdrawn vid) reservations = one vid.0
lost_by (Left node) reservations = reserved_by node reservations
lost_by _ reservations = λ vid. 0

-- who bears an id once an effect was made: a reserved id bears itself and its parent, until it goes
abbrev pub AreReferencesMade : Effect → DirectoryState → DirectoryState → Type 0
AreReferencesMade (Reserved grant) old new = (vid : ℕ) → count_in new.references vid
    ≡ count_in old.references vid + one grant.reservation.vid.0 vid + one_parent_reference grant.header.parent vid
AreReferencesMade (Deleted vid name) old new =
    LosesReferences (one vid.0) (parent_in old.headers) (count_in old.references) (count_in new.references)
AreReferencesMade (Withdrawn vid) old new =
    LosesReferences (one vid.0) (parent_in old.headers) (count_in old.references) (count_in new.references)
AreReferencesMade (Left node) old new =
    LosesReferences (reserved_by node old.reservations.items) (parent_in old.headers) (count_in old.references) (count_in new.references)
AreReferencesMade _ old new = (vid : ℕ) → count_in new.references vid ≡ count_in old.references vid

-- the ids that lose their last reference where each loses so many of its own
pub record IsDeadList (lost : ℕ → ℕ) (state : DirectoryState) (dead : List Vid) : Type 0 where
  pub left : ℕ → ℕ
  pub loses : LosesReferences lost (parent_in state.headers) (count_in state.references) left
  pub are : AreLosses (count_in state.references) left dead

-- what the state holds, once an effect was made
pub record AreMade (effect : Effect) (old new : DirectoryState) : Type 0 where
  pub headers : (vid : ℕ) → get nat_cmp new.headers vid ≡ header_after vid (get nat_cmp old.headers vid) effect
  pub names : (name : List ℕ) → name_in new.names.rows name ≡ standing_after name (name_in old.names.rows name) effect
  pub reservations : new.reservations.items ≡ reservations_after old.reservations.items effect
  pub live : new.live.items ≡ live_after old.live.items effect
  pub ranges : AreRanges new.used.items
  pub used : (vid : ℕ) → is_in new.used.items vid ≡ (is_in old.used.items vid || grants vid effect)
  pub references : AreReferencesMade effect old new

-- what the locks hold, once an effect was made
abbrev pub AreLocksMade : Effect → Holders → Holders → Type 0
AreLocksMade effect old new = (vid : ℕ) → tree.get new vid ≡ holder_after vid (tree.get old vid) effect

-- the locks are those that the directory's entries left
abbrev pub AreLocks : List Effect → Holders → Type 0
AreLocks before locks = (vid : ℕ) → tree.get locks vid ≡ holder_of before vid

-- an id that is granted is one, and not used
abbrev pub IsFresh : Effect → DirectoryState → Type 0
IsFresh (Reserved grant) state = IsVid grant.reservation.vid.0 × (is_in state.used.items grant.reservation.vid.0 ≡ false)
IsFresh _ state = Unit {0}

-- a new id bears nothing yet, and its parent is referenced; what goes has references of its own to lose
abbrev pub CanMake : Effect → DirectoryState → Type 0
CanMake (Reserved grant) state =
    (count_in state.references grant.reservation.vid.0 ≡ 0) × IsReferenced grant.header.parent (count_in state.references)
CanMake (Deleted vid name) state = CanLose (one vid.0) (parent_in state.headers) (count_in state.references)
CanMake (Withdrawn vid) state = CanLose (one vid.0) (parent_in state.headers) (count_in state.references)
CanMake (Left node) state = CanLose (reserved_by node state.reservations.items) (parent_in state.headers) (count_in state.references)
CanMake _ state = Unit {0}

-- the tag in a header
abbrev pub header_tag : Option Header → List ℕ
header_tag None = []
header_tag (Some header) = header.tag

-- no live snapshot has the tag that a disk gets, and one that goes is found by the tag in its header alone
abbrev pub HasItsTag : Effect → DirectoryState → Type 0
HasItsTag (Snapped snap) state = (name_in state.names.rows snap.name).tagged snap.tag ≡ None
HasItsTag (Deleted vid name) state =
    (tag : List ℕ) → (name_in state.names.rows name).tagged tag ≡ Some vid → header_tag (get nat_cmp state.headers vid.0) ≡ tag
HasItsTag _ state = Unit {0}
