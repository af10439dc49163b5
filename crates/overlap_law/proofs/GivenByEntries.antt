-- Which entries give a session an id: its reservation and its lock, by their own word, and a snapshot of a disk.
use Rattle.std.proofs.Common.{◌≡◌, ℕ, ◌&&◌, ◌==◌, Bool, true, false, cond, List, Option, Some, None, Result, Ok, Err, is_some, refl, sym}
use Rattle.std.proofs.Common.{◌∙◌}
use Rattle.std.proofs.lemmas.Option.{same_Some}
use Rattle.proof_tools.proofs.Booleans.{cond_either}
use Rattle.object_id.specs.declared.cause.Cause.{Cause}
use Rattle.object_id.specs.declared.entry.Entry.{Entry}
use Rattle.object_id.specs.declared.entry.Entry.TheVariants.{Format, Join, Leave, Reweight, Recovered, Reserve, Publish, Clone, Snapshot}
use Rattle.object_id.specs.declared.entry.Entry.TheVariants.{Delete, Lock, Unlock}
use Rattle.object_id.specs.declared.entry.Origin.{Origin}
use Rattle.object_id.specs.declared.node.NodeId.{NodeId}
use Rattle.object_id.specs.declared.oid.Vid.{Vid}
use Rattle.disk_lock.specs.declared.holder.Holder.{Holder}
use Rattle.vdi_directory.specs.declared.decision.Outcome.{Outcome}
use Rattle.vdi_directory.specs.declared.effect.Effect.{Effect}
use Rattle.vdi_directory.specs.declared.effect.Effect.TheVariants as effects
use Rattle.vdi_directory.specs.declared.effect.Reservation.{Reservation}
use Rattle.vdi_directory.specs.declared.effect.Source.{Source}
use Rattle.vdi_directory.specs.Decisions.{nothing, silent_outcome, grant_outcome, is_held_by, is_reserved_by, reserve_outcome, publication}
use Rattle.vdi_directory.specs.Decisions.{deletion, target, lock, release, outcome}
use Rattle.vdi_directory.specs.Effects.{reservations_of, reservation_on, holder_of}
use Rattle.vdi_directory.specs.Sources.{is_for}
use Rattle.overlap_law.specs.Grants.{given_to}
use Rattle.overlap_law.specs.WriterClaims.{holder_at}
use Rattle.overlap_law.proofs.ClosedReservations.{reserves_so}

-- what an entry says of the session to which it gives an id
abbrev pub GivesTo : Holder → Entry → Type 0
GivesTo holder (Format members) = ⊥
GivesTo holder (Join node zone vnodes) = ⊥
GivesTo holder (Leave node) = ⊥
GivesTo holder (Reweight node vnodes) = ⊥
GivesTo holder (Recovered node epoch) = ⊥
GivesTo holder (Reserve by session name origin) = holder_at by session ≡ holder
GivesTo holder (Publish by vid) = ⊥
GivesTo holder (Clone by vid) = ⊥
GivesTo holder (Snapshot by old vid) = Unit {0}
GivesTo holder (Delete by session name tag) = ⊥
GivesTo holder (Lock by session name tag) = holder_at by session ≡ holder
GivesTo holder (Unlock by session vid) = ⊥

-- what an effect gives is this session's
abbrev pub GivesOnly : Holder → Effect → Type 0
GivesOnly one effect = (holder : Holder) → given_to effect ≡ Some holder → one ≡ holder

-- it gives nothing
abbrev pub GivesNobody : Effect → Type 0
GivesNobody effect = given_to effect ≡ None

module _ (before : List Effect) (by : NodeId) (session : ℕ) where
  abbrev Own : Outcome → Type 0
  Own made = GivesOnly (holder_at by session) made.effect

  reserve_own : (name : List ℕ) (origin : Origin) → Own (reserve_outcome before by session name origin)
  reserve_own name =
      reserves_so before by session name Own (λ cause is holder given. absurd (cc (given))) (λ holder given. absurd (cc (given)))
      (λ source parent spec id holder given. same_Some (holder_at by session) holder given)

  lock_own : (is_snapshot : Bool) (of : Result Vid Cause) → Own (lock (holder_at by session) is_snapshot of)
  lock_own is_snapshot (Err cause) holder is = absurd (cc (is))
  lock_own true (Ok vid) holder is = absurd (cc (is))
  lock_own false (Ok vid) holder is = same_Some (holder_at by session) holder is

  -- ---- what gives nobody an id

  abbrev GivesNone : Outcome → Type 0
  GivesNone made = GivesNobody made.effect

  published_none : (is_right : Source → Bool) (reservation : Option Reservation) → GivesNone (publication by is_right reservation)
  published_none is_right None = refl
  published_none is_right (Some reservation) =
      cond_either GivesNone (reservation.by.0 == by.0 && is_right reservation.source)
      (grant_outcome reservation.vid (effects.Published reservation.vid reservation.name)) nothing refl refl

  deleted_none : (name : List ℕ) (of : Result Vid Cause) → GivesNone (deletion name of)
  deleted_none name (Err cause) = refl
  deleted_none name (Ok vid) = refl

  released_none : (vid : Vid) → GivesNone (release before by session vid)
  released_none vid =
      cond_either GivesNone (is_held_by by session (holder_of before vid.0)) (silent_outcome (effects.Freed vid))
      (cond (is_reserved_by by session (reservation_on vid (reservations_of before))) (silent_outcome (effects.Withdrawn vid)) nothing) refl
      (cond_either GivesNone (is_reserved_by by session (reservation_on vid (reservations_of before)))
      (silent_outcome (effects.Withdrawn vid)) nothing
      refl refl)

-- ---- whatever entry

module _ (before : List Effect) (holder : Holder) where
  nobody : (effect : Effect) → GivesNobody effect → given_to effect ≡ Some holder → ⊥
  nobody effect none is = absurd (cc (sym none ∙ is))

  pub given_by_entry : (entry : Entry) → given_to (outcome before entry).effect ≡ Some holder → GivesTo holder entry
  given_by_entry (Format members) is = absurd (cc (is))
  given_by_entry (Join node zone vnodes) is = absurd (cc (is))
  given_by_entry (Leave node) is = absurd (cc (is))
  given_by_entry (Reweight node vnodes) is = absurd (cc (is))
  given_by_entry (Recovered node epoch) is = absurd (cc (is))
  given_by_entry (Reserve by session name origin) is = reserve_own before by session name origin holder is
  given_by_entry (Publish by vid) is =
      nobody (outcome before (Publish by vid)).effect (published_none before by 0 (is_for false)
      (reservation_on vid (reservations_of before))) is
  given_by_entry (Clone by vid) is =
      nobody (outcome before (Clone by vid)).effect (published_none before by 0 (is_for true) (reservation_on vid (reservations_of before)))
      is
  given_by_entry (Snapshot by old vid) is = tt
  given_by_entry (Delete by session name tag) is =
      nobody (outcome before (Delete by session name tag)).effect (deleted_none before by session name (target before name tag)) is
  given_by_entry (Lock by session name tag) is = lock_own before by session (is_some tag) (target before name tag) holder is
  given_by_entry (Unlock by session vid) is =
      nobody (outcome before (Unlock by session vid)).effect (released_none before by session vid) is
