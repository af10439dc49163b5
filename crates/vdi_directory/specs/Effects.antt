-- What holds after a list of effects: each word says what one effect more changes, and then goes through the list.
use Rattle.std.specs.Prelude.{ℕ, ◌==◌, not, nat_lt, Bool, false, List, [], ◌∷◌, ◌++◌, filter, fold, Option, None, Some, if◌then◌else◌}
use Rattle.std.specs.List.{list_any, find}
use Rattle.std.specs.Option.{option_map}
use Rattle.object_id.specs.declared.oid.Vid.{Vid}
use Rattle.disk_lock.specs.declared.holder.Holder.{Holder}
use Rattle.disk_lock.specs.Locks.{without_node}
use Rattle.vdi_directory.specs.declared.header.Header.{Header}
use Rattle.vdi_directory.specs.declared.effect.Reservation.{Reservation}
use Rattle.vdi_directory.specs.declared.effect.Effect.{Effect}
use Rattle.vdi_directory.specs.declared.effect.Effect.TheVariants.{Reserved, Published, Snapped, Deleted, Held, Freed, Withdrawn, Left}
use Rattle.vdi_directory.specs.Names.{Name, no_disk, is_same_bytes, name_with_working, name_with_snapshot, name_without}

-- whether the effect grants the id
abbrev pub grants : ℕ → Effect → Bool
grants vid (Reserved grant) = grant.reservation.vid.0 == vid
grants vid _ = false

-- the used ids are those that were granted
unfoldable pub is_used : List Effect → ℕ → Bool
is_used effects vid = list_any (grants vid) effects

-- a disk's header: it comes with the grant, and a snapshot gets its tag
abbrev pub header_after : ℕ → Option Header → Effect → Option Header
header_after vid header (Reserved grant) = if grant.reservation.vid.0 == vid then Some grant.header else header
header_after vid header (Snapped snap) =
    if snap.old.0 == vid then option_map (λ (old : Header). record old { tag = snap.tag }) header else header
header_after vid header _ = header

unfoldable pub header_of : List Effect → ℕ → Option Header
header_of effects vid = fold (header_after vid) None effects

-- what a name stands for, by the last effects that published, snapped or deleted a disk of it
abbrev pub name_after : List ℕ → Name → Effect → Name
name_after name now (Published vid of) = if is_same_bytes of name then name_with_working vid now else now
name_after name now (Snapped snap) = if is_same_bytes snap.name name then name_with_snapshot snap.old snap.vid snap.tag now else now
name_after name now (Deleted vid of) = if is_same_bytes of name then name_without vid now else now
name_after name now _ = now

unfoldable pub name_of : List Effect → List ℕ → Name
name_of effects name = fold (name_after name) no_disk effects

abbrev pub reservations_but : Vid → List Reservation → List Reservation
reservations_but vid reservations = filter (λ (reservation : Reservation). not (reservation.vid.0 == vid.0)) reservations

-- the reservations that stand: each from its grant until it is published or freed, or its node leaves
abbrev pub reservations_after : List Reservation → Effect → List Reservation
reservations_after reservations (Reserved grant) = reservations ++ grant.reservation ∷ []
reservations_after reservations (Published vid of) = reservations_but vid reservations
reservations_after reservations (Snapped snap) = reservations_but snap.vid reservations
reservations_after reservations (Withdrawn vid) = reservations_but vid reservations
reservations_after reservations (Left node) = filter (λ (reservation : Reservation). not (reservation.by.0 == node.0)) reservations
reservations_after reservations _ = reservations

unfoldable pub reservations_of : List Effect → List Reservation
reservations_of effects = fold reservations_after [] effects

-- the reservation on an id
abbrev pub reservation_on : Vid → List Reservation → Option Reservation
reservation_on vid reservations = find (λ (reservation : Reservation). reservation.vid.0 == vid.0) reservations

-- ascending ids, with one more
abbrev pub ids_with : ℕ → List ℕ → List ℕ
ids_with vid [] = vid ∷ []
ids_with vid (first ∷ rest) = if nat_lt vid first then vid ∷ first ∷ rest else first ∷ ids_with vid rest

-- the live ids, ascending: those that are published and not deleted
abbrev pub live_after : List ℕ → Effect → List ℕ
live_after live (Published vid of) = ids_with vid.0 live
live_after live (Snapped snap) = ids_with snap.vid.0 live
live_after live (Deleted vid of) = filter (λ other. not (other == vid.0)) live
live_after live _ = live

unfoldable pub live_of : List Effect → List ℕ
live_of effects = fold live_after [] effects

-- a disk's holder, by the last effect that gave, moved or freed the lock
abbrev pub holder_after : ℕ → Option Holder → Effect → Option Holder
holder_after vid holder (Snapped snap) =
    if snap.old.0 == vid then None else (if snap.vid.0 == vid then Some snap.holder else holder)
holder_after vid holder (Held of by) = if of.0 == vid then Some by else holder
holder_after vid holder (Freed of) = if of.0 == vid then None else holder
holder_after vid holder (Left node) = without_node node.0 holder
holder_after vid holder _ = holder

unfoldable pub holder_of : List Effect → ℕ → Option Holder
holder_of effects vid = fold (holder_after vid) None effects
