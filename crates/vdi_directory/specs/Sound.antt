-- What is true of whatever entries did.
use Rattle.std.specs.Prelude.{◌≡◌, ◌⊎◌, ℕ, true, false, List, [], ◌∷◌, Option, Some, None, Bool}
use Rattle.object_id.specs.Oid.{IsVid}
use Rattle.object_id.specs.declared.oid.Vid.{Vid}
use Rattle.object_id.specs.declared.node.NodeId.{NodeId}
use Rattle.disk_lock.specs.declared.holder.Holder.{Holder}
use Rattle.vdi_directory.specs.declared.live_snapshot.LiveSnapshot.{LiveSnapshot}
use Rattle.vdi_directory.specs.declared.effect.Source.{Source}
use Rattle.vdi_directory.specs.declared.effect.Source.TheVariants as sources
use Rattle.vdi_directory.specs.declared.effect.Reservation.{Reservation}
use Rattle.vdi_directory.specs.declared.effect.Effect.{Effect}
use Rattle.vdi_directory.specs.declared.effect.Effect.TheVariants as effects
use Rattle.vdi_directory.specs.Effects.{is_used, name_of, reservations_of, holder_of}
use Rattle.vdi_directory.specs.Decisions.{is_taken}
use Rattle.vdi_directory.specs.States.{VdiState, Unused, Reserved, Working, Snapshot, state_of, is_live_state, owner_of}

abbrev pub In : {X : Type 0} → X → List X → Type 0
In x [] = ⊥
In x (y ∷ ys) = (y ≡ x) ⊎ In x ys

abbrev pub IsLiveSnapshot : VdiState → Type 0
IsLiveSnapshot state = (tag : List ℕ) × (state ≡ Snapshot tag)

-- a reservation for a snapshot is for the name of the disk that becomes one
abbrev pub OwnsBase : List Effect → List ℕ → Source → Type 0
OwnsBase before name sources.Fresh = Unit {0}
OwnsBase before name (sources.Snapshot old tag) = owner_of before old.0 ≡ Some name
OwnsBase before name sources.Clone = Unit {0}

pub record IsReservation (before : List Effect) (reservation : Reservation) : Type 0 where
  pub state : state_of before reservation.vid.0 ≡ Reserved reservation.by
  pub owner : owner_of before reservation.vid.0 ≡ Some reservation.name
  pub base : OwnsBase before reservation.name reservation.source

pub record IsWorking (before : List Effect) (name : List ℕ) (vid : ℕ) : Type 0 where
  pub state : state_of before vid ≡ Working
  pub owner : owner_of before vid ≡ Some name

pub record IsNameTaken (before : List Effect) (name : List ℕ) (vid : ℕ) : Type 0 where
  pub state : IsLiveSnapshot (state_of before vid)
  pub owner : owner_of before vid ≡ Some name

pub record IsSound (before : List Effect) : Type 0 where
  pub unused : (vid : ℕ) → is_used before vid ≡ false → state_of before vid ≡ Unused
  pub unknown : (vid : ℕ) → is_used before vid ≡ false → owner_of before vid ≡ None
  pub reservations : (reservation : Reservation) → In reservation (reservations_of before) → IsReservation before reservation
  pub working : (name : List ℕ) (vid : Vid) → (name_of before name).working ≡ Some vid → IsWorking before name vid.0
  pub live_snapshots : (name : List ℕ) (live_snapshot : LiveSnapshot) → In live_snapshot (name_of before name).live_snapshots
      → IsNameTaken before name live_snapshot.vid.0
  pub held : (vid : ℕ) (holder : Holder) → holder_of before vid ≡ Some holder → state_of before vid ≡ Working

-- what a disk is made from is live then
abbrev pub IsParent : List Effect → Option Vid → Type 0
IsParent before None = Unit {0}
IsParent before (Some parent) = is_live_state (state_of before parent.0) ≡ true

-- whether an id is reserved for a new disk of its name
abbrev pub takes_name : Source → Bool
takes_name sources.Fresh = true
takes_name (sources.Snapshot old tag) = false
takes_name sources.Clone = true

-- a new disk's name is free, and what becomes a snapshot is the working disk of its name
abbrev pub HasRoom : List Effect → List ℕ → Source → Type 0
HasRoom before name sources.Fresh = is_taken before name ≡ false
HasRoom before name (sources.Snapshot old tag) = (name_of before name).working ≡ Some old
HasRoom before name sources.Clone = is_taken before name ≡ false

-- a reservation for a new disk of the name stands
abbrev pub IsReserved : List Effect → ℕ → List ℕ → Type 0
IsReserved before vid name =
    (reservation : Reservation) × In reservation (reservations_of before) × (reservation.vid.0 ≡ vid) × (reservation.name ≡ name)
    × (takes_name reservation.source ≡ true)

-- when an effect may come
abbrev pub IsLawful : List Effect → Effect → Type 0
IsLawful before effects.Nothing = Unit {0}
IsLawful before (effects.Reserved grant) =
    IsVid grant.reservation.vid.0 × (is_used before grant.reservation.vid.0 ≡ false) × (grant.header.name ≡ grant.reservation.name)
    × OwnsBase before grant.reservation.name grant.reservation.source × IsParent before grant.header.parent
    × HasRoom before grant.reservation.name grant.reservation.source
IsLawful before (effects.Published vid name) =
    ((by : NodeId) × (state_of before vid.0 ≡ Reserved by)) × (owner_of before vid.0 ≡ Some name) × IsReserved before vid.0 name
IsLawful before (effects.Snapped snap) =
    IsWorking before snap.name snap.old.0 × ((by : NodeId) × (state_of before snap.vid.0 ≡ Reserved by))
    × (owner_of before snap.vid.0 ≡ Some snap.name) × (holder_of before snap.old.0 ≡ Some snap.holder)
IsLawful before (effects.Deleted vid name) =
    (IsWorking before name vid.0 × (holder_of before vid.0 ≡ None)) ⊎ IsNameTaken before name vid.0
IsLawful before (effects.Held vid holder) = (state_of before vid.0 ≡ Working) × (holder_of before vid.0 ≡ None)
IsLawful before (effects.Freed vid) = Unit {0}
IsLawful before (effects.Withdrawn vid) = (by : NodeId) × (state_of before vid.0 ≡ Reserved by)
IsLawful before (effects.Left node) = Unit {0}
