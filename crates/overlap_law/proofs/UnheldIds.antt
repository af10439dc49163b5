-- An entry that is granted the id which it publishes finds it reserved; so nobody holds the id then.
use Rattle.std.proofs.Common.{◌≡◌, ℕ, Bool, true, false, ◌&&◌, ◌==◌, cond, List, Option, Some, None, refl, subst}
use Rattle.object_id.specs.declared.entry.Entry.{Entry}
use Rattle.object_id.specs.declared.entry.Entry.TheVariants as entries
use Rattle.object_id.specs.declared.node.NodeId.{NodeId}
use Rattle.object_id.specs.declared.oid.Vid.{Vid}
use Rattle.vdi_directory.specs.declared.decision.Decision.TheVariants as decisions
use Rattle.vdi_directory.specs.declared.effect.Effect.{Effect}
use Rattle.vdi_directory.specs.declared.effect.Effect.TheVariants as effects
use Rattle.disk_lock.specs.declared.holder.Holder.{Holder}
use Rattle.vdi_directory.specs.declared.effect.Reservation.{Reservation}
use Rattle.vdi_directory.specs.declared.effect.Source.{Source}
use Rattle.vdi_directory.specs.Decisions.{log_effects, decision_after, grant_outcome, nothing, publication, replacement, snapshot_outcome}
use Rattle.vdi_directory.specs.Effects.{holder_of, reservations_of, reservation_on}
use Rattle.vdi_directory.specs.Sound.{IsSound}
use Rattle.vdi_directory.specs.Sources.{is_for, tag_for}
use Rattle.vdi_directory.specs.States.{Reserved, state_of}
use Rattle.vdi_directory.proofs.LawfulEntries.{in-find, sound-log_effects}
use Rattle.overlap_law.proofs.WriterChanges.{reserved_unheld}

module _ (before : List Effect) (sound : IsSound before) where
  abbrev IsReservedId : Vid → Type 0
  IsReservedId vid = (by : NodeId) × (state_of before vid.0 ≡ Reserved by)

  found_id : (of : Vid) (reservation : Reservation) → reservation_on of (reservations_of before) ≡ Some reservation
      → IsReservedId reservation.vid
  found_id of reservation found = (
    reservation.by,
    (sound.reservations reservation (in-find (λ (c : Reservation). c.vid.0 == of.0) reservation (reservations_of before) found).0).state,
  )

  publication_id : (by : NodeId) (is_right : Source → Bool) (of : Vid) (o : Option Reservation)
      → reservation_on of (reservations_of before) ≡ o → (vid : Vid) → (publication by is_right o).decision ≡ decisions.Granted vid
      → IsReservedId vid
  publication_id by is_right of None found vid is = absurd (cc (is))
  publication_id by is_right of (Some reservation) found vid is =
      by_test (reservation.by.0 == by.0 && is_right reservation.source) is
    where
      by_test : (b : Bool)
          → (cond b (grant_outcome reservation.vid (effects.Published reservation.vid reservation.name)) nothing).decision
          ≡ decisions.Granted vid
          → IsReservedId vid
      by_test true is = subst IsReservedId (cc (is)) (found_id of reservation found)
      by_test false is = absurd (cc (is))

  replacement_id : (reservation : Reservation) (old : Vid) (tag : Option (List ℕ)) (holder : Option Holder) → IsReservedId reservation.vid
      → (vid : Vid) → (replacement reservation old tag holder).decision ≡ decisions.Granted vid → IsReservedId vid
  replacement_id reservation old None holder own vid is = absurd (cc (is))
  replacement_id reservation old (Some tag) None own vid is = absurd (cc (is))
  replacement_id reservation old (Some tag) (Some holder) own vid is = subst IsReservedId (cc (is)) own

  snapshot_id : (by : NodeId) (old of : Vid) (o : Option Reservation) → reservation_on of (reservations_of before) ≡ o → (vid : Vid)
      → (snapshot_outcome before by old o).decision ≡ decisions.Granted vid → IsReservedId vid
  snapshot_id by old of None found vid is = absurd (cc (is))
  snapshot_id by old of (Some reservation) found vid is = by_test (reservation.by.0 == by.0) is
    where
      by_test : (b : Bool)
          → (cond b (replacement reservation old (tag_for old reservation.source) (holder_of before old.0)) nothing).decision
          ≡ decisions.Granted vid
          → IsReservedId vid
      by_test true is =
          replacement_id reservation old (tag_for old reservation.source) (holder_of before old.0) (found_id of reservation found) vid is
      by_test false is = absurd (cc (is))

-- an entry that publishes an id, or lets it take a disk's place
abbrev pub PublishesId : Entry → Type 0
PublishesId (entries.Format members) = ⊥
PublishesId (entries.Join node zone vnodes) = ⊥
PublishesId (entries.Leave node) = ⊥
PublishesId (entries.Reweight node vnodes) = ⊥
PublishesId (entries.Recovered node epoch) = ⊥
PublishesId (entries.Reserve by session name origin) = ⊥
PublishesId (entries.Publish by vid) = Unit {0}
PublishesId (entries.Clone by vid) = Unit {0}
PublishesId (entries.Snapshot by old vid) = Unit {0}
PublishesId (entries.Delete by session name tag) = ⊥
PublishesId (entries.Lock by session name tag) = ⊥
PublishesId (entries.Unlock by session vid) = ⊥

pub published_reserved : (log : List Entry) (entry : Entry) (vid : Vid) → PublishesId entry
    → decision_after log entry ≡ decisions.Granted vid → (by : NodeId) × (state_of (log_effects log) vid.0 ≡ Reserved by)
published_reserved log (entries.Publish by of) vid publishes is =
    publication_id (log_effects log) (sound-log_effects log) by (is_for false) of
    (reservation_on of (reservations_of (log_effects log))) refl vid is
published_reserved log (entries.Clone by of) vid publishes is =
    publication_id (log_effects log) (sound-log_effects log) by (is_for true) of
    (reservation_on of (reservations_of (log_effects log))) refl vid is
published_reserved log (entries.Snapshot by old of) vid publishes is =
    snapshot_id (log_effects log) (sound-log_effects log) by old of (reservation_on of (reservations_of (log_effects log))) refl vid is
published_reserved log entry vid publishes is = absurd publishes

pub published_unheld : (log : List Entry) (entry : Entry) (vid : Vid) → PublishesId entry
    → decision_after log entry ≡ decisions.Granted vid → holder_of (log_effects log) vid.0 ≡ None
published_unheld log entry vid publishes is =
    let (by, reserved) = published_reserved log entry vid publishes is in
    reserved_unheld (log_effects log) (sound-log_effects log) vid.0 by reserved
