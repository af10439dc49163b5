-- What is known of an id is valid: its header, and that of what it was made from.
use Rattle.std.specs.Prelude.{◌≡◌, ◌≤◌, ◌⊎◌, ℕ, List, [], Option, Some, None}
use Rattle.object_id.specs.Oid.{IsVid}
use Rattle.object_id.specs.Spec.{IsName, IsSpec}
use Rattle.object_id.specs.declared.oid.Vid.{Vid}
use Rattle.object_id.specs.declared.entry.VdiSpec.{VdiSpec}
use Rattle.vdi_directory.specs.declared.header.Header.{Header}
use Rattle.vdi_directory.specs.declared.effect.Source.{Source}
use Rattle.vdi_directory.specs.declared.effect.Source.TheVariants as sources
use Rattle.vdi_directory.specs.declared.effect.Reservation.{Reservation}
use Rattle.vdi_directory.specs.declared.effect.Effect.{Effect}
use Rattle.vdi_directory.specs.Effects.{header_of, reservations_of}
use Rattle.vdi_directory.specs.States.{VdiState, Unused, Reserved, Working, Snapshot, Deleted, Freed, state_of}
use Rattle.vdi_directory.specs.Sound.{In}

-- a snapshot's tag is its header's, and no other id that isn't deleted has one
abbrev pub HasTagOf : VdiState → List ℕ → Type 0
HasTagOf Unused tag = tag ≡ []
HasTagOf (Reserved by) tag = tag ≡ []
HasTagOf Working tag = tag ≡ []
HasTagOf (Snapshot of) tag = (tag ≡ of) × IsName of
HasTagOf Deleted tag = (tag ≡ []) ⊎ IsName tag
HasTagOf Freed tag = tag ≡ []

-- what a snapshot's successor or a clone was made from is known, and has its spec
abbrev pub IsBase : List Effect → VdiSpec → Option Vid → Type 0
IsBase before spec None = Unit {0}
IsBase before spec (Some parent) = IsVid parent.0 × ((base : Header) × (header_of before parent.0 ≡ Some base) × (base.spec ≡ spec))

pub record IsHeaderOf (before : List Effect) (vid : ℕ) (header : Header) : Type 0 where
  pub id : IsVid vid
  pub name : IsName header.name
  pub tag : (header.tag ≡ []) ⊎ IsName header.tag
  pub state : HasTagOf (state_of before vid) header.tag
  pub snap_id : 1 ≤ header.snap_id
  pub spec : IsSpec header.spec
  pub base : IsBase before header.spec header.parent

-- a reservation for a snapshot has a tag
abbrev pub HasTag : Source → Type 0
HasTag sources.Fresh = Unit {0}
HasTag (sources.Snapshot old tag) = IsName tag
HasTag sources.Clone = Unit {0}

-- every header is valid, and every reservation
pub record AreKnown (before : List Effect) : Type 0 where
  pub headers : (vid : ℕ) (header : Header) → header_of before vid ≡ Some header → IsHeaderOf before vid header
  pub reservations : (reservation : Reservation) → In reservation (reservations_of before) → HasTag reservation.source
