-- Few entries can take an id from the session that may write it: the leave of its node, a snapshot of the disk, a publication of the id by
-- its node, and its own unlock.
use Rattle.std.proofs.Common.{◌≡◌, ℕ, ◌==◌, Bool, true, false, ◌&&◌, ◌||◌, cond, List, Option, Some, None, Result, Ok, Err, is_some, refl}
use Rattle.std.proofs.Common.{sym, ap, ◌∙◌}
use Rattle.std.proofs.lemmas.Bool.{eqb-true, eq-eqb, both_ways, and_from, and_parts, or_parts}
use Rattle.std.specs.Option.{option_map_or}
use Rattle.std.proofs.lemmas.Option.{same_Some}
use Rattle.proof_tools.proofs.Booleans.{cond_either}
use Rattle.object_id.specs.declared.cause.Cause.{Cause}
use Rattle.object_id.specs.declared.entry.Entry.{Entry}
use Rattle.object_id.specs.declared.entry.Entry.TheVariants.{Format, Join, Leave, Reweight, Recovered, Reserve, Publish, Clone, Snapshot}
use Rattle.object_id.specs.declared.entry.Entry.TheVariants.{Delete, Lock, Unlock}
use Rattle.object_id.specs.declared.entry.Origin.{Origin}
use Rattle.object_id.specs.declared.node.NodeId.{NodeId}
use Rattle.object_id.specs.declared.oid.Vid.{Vid}
use Rattle.disk_lock.specs.declared.holder.Holder.{Holder}
use Rattle.vdi_directory.specs.declared.decision.Outcome.{Outcome}
use Rattle.vdi_directory.specs.declared.effect.Effect.{Effect}
use Rattle.vdi_directory.specs.declared.effect.Effect.TheVariants as effects
use Rattle.vdi_directory.specs.declared.effect.Reservation.{Reservation}
use Rattle.vdi_directory.specs.declared.effect.Source.{Source}
use Rattle.vdi_directory.specs.Decisions.{nothing, silent_outcome, grant_outcome, is_held_by, is_reserved_by, reserve_outcome, publication}
use Rattle.vdi_directory.specs.Decisions.{replacement, snapshot_outcome, target, deletion, lock, outcome, log_effects}
use Rattle.vdi_directory.specs.Effects.{reservations_of, reservation_on, holder_of}
use Rattle.vdi_directory.specs.Sources.{is_for, tag_for}
use Rattle.vdi_directory.specs.Sound.{IsSound}
use Rattle.vdi_directory.specs.States.{Working, state_of}
use Rattle.vdi_directory.proofs.LawfulEntries.{in-find, sound-log_effects}
use Rattle.overlap_law.specs.Grants.{reserver, writer_of, takes_writer, may_take_writer}
use Rattle.overlap_law.proofs.ClosedReservations.{reserves_so}
use Rattle.overlap_law.proofs.WriterChanges.{writer-by}

module _ (before : List Effect) (sound : IsSound before) (vid : ℕ) (writer : Holder) (is : writer_of before vid ≡ Some writer) where
  -- what an outcome does doesn't take it
  abbrev Keeps : Outcome → Type 0
  Keeps made = takes_writer vid writer.node made.effect ≡ false

  abbrev id : Vid
  id = record { 0 = vid }

  -- ---- what reserves, deletes, locks or refuses

  keeps-reserve : (by : NodeId) (session : ℕ) (name : List ℕ) (origin : Origin) → Keeps (reserve_outcome before by session name origin)
  keeps-reserve by session name = reserves_so before by session name Keeps (λ cause is. refl) refl (λ source parent spec id. refl)

  keeps-deletion : (name : List ℕ) (of : Result Vid Cause) → Keeps (deletion name of)
  keeps-deletion name (Err cause) = refl
  keeps-deletion name (Ok other) = refl

  keeps-lock : (by : Holder) (is_snapshot : Bool) (of : Result Vid Cause) → Keeps (lock by is_snapshot of)
  keeps-lock by is_snapshot (Err cause) = refl
  keeps-lock by is_snapshot (Ok other) =
      cond_either Keeps is_snapshot (grant_outcome other effects.Nothing) (grant_outcome other (effects.Held other by)) refl refl

  -- ---- what is reserved is published by its node, and withdrawn by its session

  -- the writer by a reservation
  abbrev writer_by : Option Reservation → Option Holder
  writer_by o = option_map_or (λ (reservation : Reservation). Some (reserver reservation)) o (holder_of before vid)

  by_reservation : (reservation : Reservation) → reservation_on id (reservations_of before) ≡ Some reservation
      → reserver reservation ≡ writer
  by_reservation reservation found =
      same_Some (reserver reservation) writer (sym (ap writer_by found) ∙ sym (writer-by before vid) ∙ is)

  same_id : (of : Vid) → (of.0 == vid) ≡ true → of ≡ id
  same_id of same = ap (λ (k : ℕ). record { 0 = k }) (eqb-true of.0 vid same)

  -- an entry of another node than the writer's on the id, or one on another id
  abbrev IsApart : NodeId → Vid → Type 0
  IsApart by of = (of.0 == vid && by.0 == writer.node.0) ≡ false

  apart_id : (by : NodeId) (of : Vid) → IsApart by of → (reservation : Reservation)
      → reservation_on of (reservations_of before) ≡ Some reservation
      → (reservation.by.0 == by.0) ≡ true → (reservation.vid.0 == vid) ≡ false
  apart_id by of apart reservation found own = by_test (reservation.vid.0 == vid) refl
    where
      by_test : (b : Bool) → (reservation.vid.0 == vid) ≡ b → (reservation.vid.0 == vid) ≡ false
      by_test true same =
          let on : reservation.vid.0 ≡ of.0
          = eqb-true reservation.vid.0 of.0 (in-find (λ (r : Reservation). r.vid.0 == of.0) reservation (reservations_of before) found).1 in
          let here : of.0 ≡ vid = sym on ∙ eqb-true reservation.vid.0 vid same in
          let whose = by_reservation reservation
          (ap (λ (k : ℕ). reservation_on (record { 0 = k }) (reservations_of before)) (sym here) ∙ found) in
          let node : by.0 ≡ writer.node.0
          = sym (eqb-true reservation.by.0 by.0 own) ∙ ap (λ (h : Holder). h.node.0) whose in
          absurd (both_ways (of.0 == vid && by.0 == writer.node.0) apart
          (and_from (of.0 == vid) (by.0 == writer.node.0) (eq-eqb of.0 vid here) (eq-eqb by.0 writer.node.0 node)))
      by_test false other = other

  keeps-publication : (by : NodeId) (is_right : Source → Bool) (of : Vid) → IsApart by of → (reservation : Option Reservation)
      → reservation_on of (reservations_of before) ≡ reservation → Keeps (publication by is_right reservation)
  keeps-publication by is_right of apart None found = refl
  keeps-publication by is_right of apart (Some reservation) found = by_test (reservation.by.0 == by.0 && is_right reservation.source) refl
    where
      by_test : (b : Bool) → (reservation.by.0 == by.0 && is_right reservation.source) ≡ b
          → Keeps (cond b (grant_outcome reservation.vid (effects.Published reservation.vid reservation.name)) nothing)
      by_test true both = apart_id by of apart reservation found (and_parts (reservation.by.0 == by.0) (is_right reservation.source) both).0
      by_test false apart_so = refl

  keeps-snap : (by : NodeId) (old of : Vid) → (old.0 == vid) ≡ false → IsApart by of → (reservation : Option Reservation)
      → reservation_on of (reservations_of before) ≡ reservation → Keeps (snapshot_outcome before by old reservation)
  keeps-snap by old of other apart None found = refl
  keeps-snap by old of other apart (Some reservation) found = by_test (reservation.by.0 == by.0) refl
    where
      by_tag : (reservation.vid.0 == vid) ≡ false → (tag : Option (List ℕ)) (holder : Option Holder)
          → Keeps (replacement reservation old tag holder)
      by_tag away None holder = refl
      by_tag away (Some tag) None = refl
      by_tag away (Some tag) (Some holder) = λ i. other i || away i

      by_test : (b : Bool) → (reservation.by.0 == by.0) ≡ b
          → Keeps (cond b (replacement reservation old (tag_for old reservation.source) (holder_of before old.0)) nothing)
      by_test true own = by_tag (apart_id by of apart reservation found own) (tag_for old reservation.source) (holder_of before old.0)
      by_test false apart_so = refl

  -- who holds the disk is its writer
  held_writer : (holder : Holder) → holder_of before vid ≡ Some holder → holder ≡ writer
  held_writer holder held = by_found (reservation_on id (reservations_of before)) refl
    where
      works : state_of before vid ≡ Working
      works = sound.held vid holder held

      by_found : (o : Option Reservation) → reservation_on id (reservations_of before) ≡ o → holder ≡ writer
      by_found None none =
          same_Some holder writer (sym held ∙ sym (ap writer_by none) ∙ sym (writer-by before vid) ∙ is)
      by_found (Some reservation) found =
          let (there, on) = in-find (λ (r : Reservation). r.vid.0 == vid) reservation (reservations_of before) found in
          let reserved = (sound.reservations reservation there).state in
          let at : state_of before reservation.vid.0 ≡ Working = ap (state_of before) (eqb-true reservation.vid.0 vid on) ∙ works in
          absurd (cc (reserved, at))

  keeps-release : (by : NodeId) (session : ℕ) (of : Vid) → (of.0 == vid && is_held_by by session (Some writer)) ≡ false
      → Keeps (outcome before (Unlock by session of))
  keeps-release by session of apart =
      by_test (is_held_by by session (holder_of before of.0)) (is_reserved_by by session (reservation_on of (reservations_of before))) refl
      refl
    where
      not_both : (of.0 == vid) ≡ true → is_held_by by session (Some writer) ≡ true → ⊥
      not_both same own = both_ways (of.0 == vid && is_held_by by session (Some writer)) apart
          (and_from (of.0 == vid) (is_held_by by session (Some writer)) same own)

      held_by : (o : Option Holder) → holder_of before vid ≡ o → is_held_by by session o ≡ true → is_held_by by session (Some writer) ≡ true
      held_by None none own = absurd (cc (own))
      held_by (Some holder) held own = ap (λ (h : Holder). is_held_by by session (Some h)) (sym (held_writer holder held)) ∙ own

      reserved_by : (o : Option Reservation) → reservation_on id (reservations_of before) ≡ o → is_reserved_by by session o ≡ true
          → is_held_by by session (Some writer) ≡ true
      reserved_by None none own = absurd (cc (own))
      reserved_by (Some reservation) found own =
          ap (λ (h : Holder). is_held_by by session (Some h)) (sym (by_reservation reservation found)) ∙ own

      not_freed : is_held_by by session (holder_of before of.0) ≡ true → (b : Bool) → (of.0 == vid) ≡ b → (of.0 == vid) ≡ false
      not_freed own true same =
          absurd (not_both same (held_by (holder_of before vid) refl
          (ap (λ (k : ℕ). is_held_by by session (holder_of before k)) (sym (eqb-true of.0 vid same)) ∙ own)))
      not_freed own false other = other

      not_withdrawn : is_reserved_by by session (reservation_on of (reservations_of before)) ≡ true → (b : Bool) → (of.0 == vid) ≡ b
          → (of.0 == vid) ≡ false
      not_withdrawn own true same =
          absurd (not_both same (reserved_by (reservation_on id (reservations_of before)) refl
          (ap (λ (v : Vid). is_reserved_by by session (reservation_on v (reservations_of before))) (sym (same_id of same)) ∙ own)))
      not_withdrawn own false other = other

      by_test : (b c : Bool) → is_held_by by session (holder_of before of.0) ≡ b
          → is_reserved_by by session (reservation_on of (reservations_of before)) ≡ c
          → Keeps (cond b (silent_outcome (effects.Freed of)) (cond c (silent_outcome (effects.Withdrawn of)) nothing))
      by_test true c own other = not_freed own (of.0 == vid) refl
      by_test false true unheld own = not_withdrawn own (of.0 == vid) refl
      by_test false false unheld none = refl

  -- ---- each entry

  keeps-entry : (entry : Entry) → may_take_writer vid writer entry ≡ false → Keeps (outcome before entry)
  keeps-entry (Format members) other = refl
  keeps-entry (Join node zone vnodes) other = refl
  keeps-entry (Leave node) other = other
  keeps-entry (Reweight node vnodes) other = refl
  keeps-entry (Recovered node epoch) other = refl
  keeps-entry (Reserve by session name origin) other = keeps-reserve by session name origin
  keeps-entry (Publish by of) other = keeps-publication by (is_for false) of other (reservation_on of (reservations_of before)) refl
  keeps-entry (Clone by of) other = keeps-publication by (is_for true) of other (reservation_on of (reservations_of before)) refl
  keeps-entry (Snapshot by old of) other =
      let parts = or_parts (old.0 == vid) (of.0 == vid && by.0 == writer.node.0) other in
      keeps-snap by old of parts.0 parts.1 (reservation_on of (reservations_of before)) refl
  keeps-entry (Delete by session name tag) other = keeps-deletion name (target before name tag)
  keeps-entry (Lock by session name tag) other = keeps-lock (record { node = by; session = session }) (is_some tag) (target before name tag)
  keeps-entry (Unlock by session of) other = keeps-release by session of other

-- an entry that takes an id from its writer is one of those
pub taken_by_entry : (log : List Entry) (entry : Entry) (vid : ℕ) (writer : Holder) → writer_of (log_effects log) vid ≡ Some writer
    → takes_writer vid writer.node (outcome (log_effects log) entry).effect ≡ true → may_take_writer vid writer entry ≡ true
taken_by_entry log entry vid writer is takes = by_test (may_take_writer vid writer entry) refl
  where
    by_test : (b : Bool) → may_take_writer vid writer entry ≡ b → may_take_writer vid writer entry ≡ true
    by_test true may = may
    by_test false other =
        let kept : takes_writer vid writer.node (outcome (log_effects log) entry).effect ≡ false
        = keeps-entry (log_effects log) (sound-log_effects log) vid writer is entry other in
        absurd (cc (kept, takes))
