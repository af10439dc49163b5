-- An id is published, and a disk made a snapshot, by an entry that says so; and what is published and not deleted was published.
use Rattle.std.proofs.Common.{◌≡◌, ◌⊎◌, inl, inr, ℕ, ◌&&◌, ◌==◌, Bool, true, false, cond, List, [], ◌∷◌, ◌++◌, Option, Some, None, Result}
use Rattle.std.proofs.Common.{Ok, Err, is_some, refl, sym, ap, ◌∙◌}
use Rattle.std.proofs.lemmas.Bool.{eqb-true, eq-eqb}
use Rattle.proof_tools.proofs.Booleans.{cond_either}
use Rattle.object_id.specs.declared.cause.Cause.{Cause}
use Rattle.object_id.specs.declared.entry.Entry.{Entry}
use Rattle.object_id.specs.declared.entry.Entry.TheVariants.{Format, Join, Leave, Reweight, Recovered, Reserve, Publish, Clone, Snapshot}
use Rattle.object_id.specs.declared.entry.Entry.TheVariants.{Delete, Lock, Unlock}
use Rattle.object_id.specs.declared.entry.Origin.{Origin}
use Rattle.object_id.specs.declared.node.NodeId.{NodeId}
use Rattle.object_id.specs.declared.oid.Vid.{Vid}
use Rattle.disk_lock.specs.declared.holder.Holder.{Holder}
use Rattle.vdi_directory.specs.declared.decision.Outcome.{Outcome}
use Rattle.vdi_directory.specs.declared.effect.Effect.{Effect}
use Rattle.vdi_directory.specs.declared.effect.Effect.TheVariants as effects
use Rattle.vdi_directory.specs.declared.effect.Grant.{Grant}
use Rattle.vdi_directory.specs.declared.effect.Reservation.{Reservation}
use Rattle.vdi_directory.specs.declared.effect.Source.{Source}
use Rattle.vdi_directory.specs.Decisions.{nothing, silent_outcome, grant_outcome, is_held_by, is_reserved_by}
use Rattle.vdi_directory.specs.Decisions.{reserve_outcome, publication, replacement, snapshot_outcome, deletion, target, lock, release}
use Rattle.vdi_directory.specs.Decisions.{outcome, log_effects}
use Rattle.vdi_directory.specs.Effects.{reservations_of, reservation_on, holder_of}
use Rattle.vdi_directory.specs.Sources.{is_for, tag_for}
use Rattle.vdi_directory.specs.Sound.{IsLawful}
use Rattle.vdi_directory.specs.States.{VdiState, freed_state, state_after_leave, state_after, state_of, is_live_state}
use Rattle.vdi_directory.specs.States as states
use Rattle.vdi_directory.proofs.LawfulEntries.{in-find, lawful-outcome, sound-log_effects}
use Rattle.vdi_directory.proofs.SoundEffects.{state_of-push}
use Rattle.vdi_directory.proofs.StateLemmas.{log_effects-push}
use Rattle.overlap_law.specs.Drafts.{published_by}
use Rattle.overlap_law.specs.Grants.{gives, publishes}
use Rattle.overlap_law.specs.LastReads.{snaps}
use Rattle.overlap_law.proofs.ClosedReservations.{reserves_so}
use Rattle.overlap_law.proofs.ClosedSnapshots.{snaps-working}

-- ---- what is passed by publications and snapshots alone

record IsPlain (passes : Effect → Bool) : Type 0 where
  none : passes effects.Nothing ≡ false
  reserved : (grant : Grant) → passes (effects.Reserved grant) ≡ false
  deleted : (of : Vid) (name : List ℕ) → passes (effects.Deleted of name) ≡ false
  held : (of : Vid) (holder : Holder) → passes (effects.Held of holder) ≡ false
  freed : (of : Vid) → passes (effects.Freed of) ≡ false
  withdrawn : (of : Vid) → passes (effects.Withdrawn of) ≡ false

module _ (before : List Effect) (passes : Effect → Bool) (plain : IsPlain passes) where
  abbrev PassesNot : Outcome → Type 0
  PassesNot made = passes made.effect ≡ false

  reserve_not : (by : NodeId) (session : ℕ) (name : List ℕ) (origin : Origin)
      → PassesNot (reserve_outcome before by session name origin)
  reserve_not by session name =
      reserves_so before by session name PassesNot (λ cause is. plain.none) plain.none (λ source parent spec id. plain.reserved _)

  deletion_not : (name : List ℕ) (of : Result Vid Cause) → PassesNot (deletion name of)
  deletion_not name (Err cause) = plain.none
  deletion_not name (Ok other) = plain.deleted other name

  lock_not : (by : Holder) (is_snapshot : Bool) (of : Result Vid Cause) → PassesNot (lock by is_snapshot of)
  lock_not by is_snapshot (Err cause) = plain.none
  lock_not by is_snapshot (Ok other) =
      cond_either PassesNot is_snapshot (grant_outcome other effects.Nothing) (grant_outcome other (effects.Held other by)) plain.none
      (plain.held other by)

  release_not : (by : NodeId) (session : ℕ) (of : Vid) → PassesNot (release before by session of)
  release_not by session of =
      cond_either PassesNot (is_held_by by session (holder_of before of.0)) (silent_outcome (effects.Freed of))
      (cond (is_reserved_by by session (reservation_on of (reservations_of before))) (silent_outcome (effects.Withdrawn of)) nothing)
      (plain.freed of)
      (cond_either PassesNot (is_reserved_by by session (reservation_on of (reservations_of before)))
      (silent_outcome (effects.Withdrawn of)) nothing
      (plain.withdrawn of) plain.none)

  not_passed : (made : Outcome) → PassesNot made → passes made.effect ≡ true → ⊥
  not_passed made not is = absurd (cc (not, is))

-- ---- which entries publish an id

plain_publications : (vid : ℕ) → IsPlain (publishes vid)
plain_publications vid = record {
  none = refl;
  reserved = λ grant. refl;
  deleted = λ of name. refl;
  held = λ of holder. refl;
  freed = λ of. refl;
  withdrawn = λ of. refl;
}

plain_snapshots : (vid : ℕ) → IsPlain (snaps vid)
plain_snapshots vid = record {
  none = refl;
  reserved = λ grant. refl;
  deleted = λ of name. refl;
  held = λ of holder. refl;
  freed = λ of. refl;
  withdrawn = λ of. refl;
}

module _ (before : List Effect) (vid : ℕ) where
  -- the id that an entry publishes is this one
  abbrev IsPublishedBy : Entry → Type 0
  IsPublishedBy entry = (of : Vid) × (published_by entry ≡ Some of) × (of.0 ≡ vid)

  reserved_on : (of : Vid) (reservation : Reservation) → reservation_on of (reservations_of before) ≡ Some reservation
      → (reservation.vid.0 == vid) ≡ true → of.0 ≡ vid
  reserved_on of reservation found is =
      sym (eqb-true reservation.vid.0 of.0 (in-find (λ (r : Reservation). r.vid.0 == of.0) reservation (reservations_of before) found).1)
      ∙ eqb-true reservation.vid.0 vid is

  publication_on : (by : NodeId) (is_right : Source → Bool) (of : Vid) (reservation : Option Reservation)
      → reservation_on of (reservations_of before) ≡ reservation → publishes vid (publication by is_right reservation).effect ≡ true
      → of.0 ≡ vid
  publication_on by is_right of None found is = absurd (cc (is))
  publication_on by is_right of (Some reservation) found is = by_test (reservation.by.0 == by.0 && is_right reservation.source) is
    where
      by_test : (b : Bool)
          → publishes vid (cond b (grant_outcome reservation.vid (effects.Published reservation.vid reservation.name)) nothing).effect
          ≡ true → of.0 ≡ vid
      by_test true is = reserved_on of reservation found is
      by_test false is = absurd (cc (is))

  snapshot_on : (by : NodeId) (old of : Vid) (reservation : Option Reservation) → reservation_on of (reservations_of before) ≡ reservation
      → publishes vid (snapshot_outcome before by old reservation).effect ≡ true → of.0 ≡ vid
  snapshot_on by old of None found is = absurd (cc (is))
  snapshot_on by old of (Some reservation) found is = by_test (reservation.by.0 == by.0) is
    where
      by_tag : (tag : Option (List ℕ)) (holder : Option Holder) → publishes vid (replacement reservation old tag holder).effect ≡ true
          → of.0 ≡ vid
      by_tag None holder is = absurd (cc (is))
      by_tag (Some tag) None is = absurd (cc (is))
      by_tag (Some tag) (Some holder) is = reserved_on of reservation found is

      by_test : (b : Bool)
          → publishes vid (cond b (replacement reservation old (tag_for old reservation.source) (holder_of before old.0)) nothing).effect
          ≡ true
          → of.0 ≡ vid
      by_test true is = by_tag (tag_for old reservation.source) (holder_of before old.0) is
      by_test false is = absurd (cc (is))

  pub published_by_entry : (entry : Entry) → publishes vid (outcome before entry).effect ≡ true → IsPublishedBy entry
  published_by_entry (Format members) is = absurd (cc (is))
  published_by_entry (Join node zone vnodes) is = absurd (cc (is))
  published_by_entry (Leave node) is = absurd (cc (is))
  published_by_entry (Reweight node vnodes) is = absurd (cc (is))
  published_by_entry (Recovered node epoch) is = absurd (cc (is))
  published_by_entry (Reserve by session name origin) is =
      absurd (not_passed before (publishes vid) (plain_publications vid) (reserve_outcome before by session name origin)
      (reserve_not before (publishes vid) (plain_publications vid) by session name origin) is)
  published_by_entry (Publish by of)
      is = (of, refl, publication_on by (is_for false) of (reservation_on of (reservations_of before)) refl is)
  published_by_entry (Clone by of) is = (of, refl, publication_on by (is_for true) of (reservation_on of (reservations_of before)) refl is)
  published_by_entry (Snapshot by old of) is = (of, refl, snapshot_on by old of (reservation_on of (reservations_of before)) refl is)
  published_by_entry (Delete by session name tag) is =
      absurd (not_passed before (publishes vid) (plain_publications vid) (deletion name (target before name tag))
      (deletion_not before (publishes vid) (plain_publications vid) name (target before name tag)) is)
  published_by_entry (Lock by session name tag) is =
      absurd (not_passed before (publishes vid) (plain_publications vid)
      (lock (record { node = by; session = session }) (is_some tag) (target before name tag))
      (lock_not before (publishes vid) (plain_publications vid) (record { node = by; session = session }) (is_some tag)
      (target before name tag)) is)
  published_by_entry (Unlock by session of) is =
      absurd (not_passed before (publishes vid) (plain_publications vid) (release before by session of)
      (release_not before (publishes vid) (plain_publications vid) by session of) is)

  -- ---- which entries make the disk of an id a snapshot

  -- one that says so
  abbrev pub IsSnapshotEntry : Entry → Type 0
  IsSnapshotEntry entry = (by : NodeId) × (old : Vid) × (of : Vid) × (entry ≡ Snapshot by old of) × (old.0 ≡ vid)

  publication_not : (by : NodeId) (is_right : Source → Bool) (reservation : Option Reservation)
      → snaps vid (publication by is_right reservation).effect ≡ true → ⊥
  publication_not by is_right None is = absurd (cc (is))
  publication_not by is_right (Some reservation) is =
      not_passed before (snaps vid) (plain_snapshots vid)
      (cond (reservation.by.0 == by.0 && is_right reservation.source)
      (grant_outcome reservation.vid (effects.Published reservation.vid reservation.name)) nothing)
      (cond_either (λ (made : Outcome). snaps vid made.effect ≡ false) (reservation.by.0 == by.0 && is_right reservation.source)
      (grant_outcome reservation.vid (effects.Published reservation.vid reservation.name)) nothing refl refl) is

  snapshot_of : (by : NodeId) (old : Vid) (reservation : Option Reservation)
      → snaps vid (snapshot_outcome before by old reservation).effect ≡ true → old.0 ≡ vid
  snapshot_of by old None is = absurd (cc (is))
  snapshot_of by old (Some reservation) is = by_test (reservation.by.0 == by.0) is
    where
      by_tag : (tag : Option (List ℕ)) (holder : Option Holder) → snaps vid (replacement reservation old tag holder).effect ≡ true
          → old.0 ≡ vid
      by_tag None holder is = absurd (cc (is))
      by_tag (Some tag) None is = absurd (cc (is))
      by_tag (Some tag) (Some holder) is = eqb-true old.0 vid is

      by_test : (b : Bool)
          → snaps vid (cond b (replacement reservation old (tag_for old reservation.source) (holder_of before old.0)) nothing).effect ≡ true
          → old.0 ≡ vid
      by_test true is = by_tag (tag_for old reservation.source) (holder_of before old.0) is
      by_test false is = absurd (cc (is))

  pub snapshot_entry : (entry : Entry) → snaps vid (outcome before entry).effect ≡ true → IsSnapshotEntry entry
  snapshot_entry (Format members) is = absurd (cc (is))
  snapshot_entry (Join node zone vnodes) is = absurd (cc (is))
  snapshot_entry (Leave node) is = absurd (cc (is))
  snapshot_entry (Reweight node vnodes) is = absurd (cc (is))
  snapshot_entry (Recovered node epoch) is = absurd (cc (is))
  snapshot_entry (Reserve by session name origin) is =
      absurd (not_passed before (snaps vid) (plain_snapshots vid) (reserve_outcome before by session name origin)
      (reserve_not before (snaps vid) (plain_snapshots vid) by session name origin) is)
  snapshot_entry (Publish by of) is = absurd (publication_not by (is_for false) (reservation_on of (reservations_of before)) is)
  snapshot_entry (Clone by of) is = absurd (publication_not by (is_for true) (reservation_on of (reservations_of before)) is)
  snapshot_entry (Snapshot by old of) is = (by, old, of, refl, snapshot_of by old (reservation_on of (reservations_of before)) is)
  snapshot_entry (Delete by session name tag) is =
      absurd (not_passed before (snaps vid) (plain_snapshots vid) (deletion name (target before name tag))
      (deletion_not before (snaps vid) (plain_snapshots vid) name (target before name tag)) is)
  snapshot_entry (Lock by session name tag) is =
      absurd (not_passed before (snaps vid) (plain_snapshots vid)
      (lock (record { node = by; session = session }) (is_some tag) (target before name tag))
      (lock_not before (snaps vid) (plain_snapshots vid) (record { node = by; session = session }) (is_some tag) (target before name tag))
      is)
  snapshot_entry (Unlock by session of) is =
      absurd (not_passed before (snaps vid) (plain_snapshots vid) (release before by session of)
      (release_not before (snaps vid) (plain_snapshots vid) by session of) is)

  -- an entry that gives an id by a snapshot makes the old disk one
  snapshot_snaps : (by : NodeId) (old : Vid) (reservation : Option Reservation)
      → gives vid (snapshot_outcome before by old reservation).effect ≡ true
      → snaps old.0 (snapshot_outcome before by old reservation).effect ≡ true
  snapshot_snaps by old None is = absurd (cc (is))
  snapshot_snaps by old (Some reservation) is = by_test (reservation.by.0 == by.0) is
    where
      by_tag : (tag : Option (List ℕ)) (holder : Option Holder) → gives vid (replacement reservation old tag holder).effect ≡ true
          → snaps old.0 (replacement reservation old tag holder).effect ≡ true
      by_tag None holder is = absurd (cc (is))
      by_tag (Some tag) None is = absurd (cc (is))
      by_tag (Some tag) (Some holder) is = eq-eqb old.0 old.0 refl

      by_test : (b : Bool)
          → gives vid (cond b (replacement reservation old (tag_for old reservation.source) (holder_of before old.0)) nothing).effect ≡ true
          → snaps old.0 (cond b (replacement reservation old (tag_for old reservation.source) (holder_of before old.0)) nothing).effect
          ≡ true
      by_test true is = by_tag (tag_for old reservation.source) (holder_of before old.0) is
      by_test false is = absurd (cc (is))

  pub gives-snaps : (by : NodeId) (old of : Vid) → gives vid (outcome before (Snapshot by old of)).effect ≡ true
      → snaps old.0 (outcome before (Snapshot by old of)).effect ≡ true
  gives-snaps by old of is = snapshot_snaps by old (reservation_on of (reservations_of before)) is

-- ---- what is published and not deleted was so, or is published now

module _ (before : List Effect) (vid : ℕ) where
  live_left : (node : ℕ) (state : VdiState) → is_live_state (state_after_leave node state) ≡ true → is_live_state state ≡ true
  live_left node states.Unused live = live
  live_left node (states.Reserved by) live = by_test (by.0 == node) live
    where
      by_test : (b : Bool) → is_live_state (cond b states.Freed (states.Reserved by)) ≡ true → false ≡ true
      by_test true live = live
      by_test false live = live
  live_left node states.Working live = live
  live_left node (states.Snapshot tag) live = live
  live_left node states.Deleted live = live
  live_left node states.Freed live = live

  live_freed : (state : VdiState) → is_live_state (freed_state state) ≡ true → is_live_state state ≡ true
  live_freed states.Unused live = live
  live_freed (states.Reserved by) live = absurd (cc (live))
  live_freed states.Working live = live
  live_freed (states.Snapshot tag) live = live
  live_freed states.Deleted live = live
  live_freed states.Freed live = live

  abbrev WasLive : Effect → Type 0
  WasLive effect = (publishes vid effect ≡ true) ⊎ (is_live_state (state_of before vid) ≡ true)

  pub live_from : (effect : Effect) → IsLawful before effect → is_live_state (state_after vid (state_of before vid) effect) ≡ true
      → WasLive effect
  live_from effects.Nothing lawful live = inr live
  live_from (effects.Reserved grant) lawful live = by_test (grant.reservation.vid.0 == vid) live
    where
      by_test : (b : Bool) → is_live_state (cond b (states.Reserved grant.reservation.by) (state_of before vid)) ≡ true
          → WasLive (effects.Reserved grant)
      by_test true live = absurd (cc (live))
      by_test false live = inr live
  live_from (effects.Published of name) lawful live = by_test (of.0 == vid) refl live
    where
      by_test : (b : Bool) → (of.0 == vid) ≡ b → is_live_state (cond b states.Working (state_of before vid)) ≡ true
          → WasLive (effects.Published of name)
      by_test true here live = inl here
      by_test false apart live = inr live
  live_from (effects.Snapped snap) lawful live = by_old (snap.old.0 == vid) refl live
    where
      by_new : (b : Bool) → (snap.vid.0 == vid) ≡ b → is_live_state (cond b states.Working (state_of before vid)) ≡ true
          → WasLive (effects.Snapped snap)
      by_new true here live = inl here
      by_new false apart live = inr live

      by_old : (b : Bool) → (snap.old.0 == vid) ≡ b
          → is_live_state (cond b (states.Snapshot snap.tag) (cond (snap.vid.0 == vid) states.Working (state_of before vid))) ≡ true
          → WasLive (effects.Snapped snap)
      by_old true here live = inr (ap is_live_state (snaps-working before (effects.Snapped snap) vid lawful here))
      by_old false apart live = by_new (snap.vid.0 == vid) refl live
  live_from (effects.Deleted of name) lawful live = by_test (of.0 == vid) live
    where
      by_test : (b : Bool) → is_live_state (cond b states.Deleted (state_of before vid)) ≡ true → WasLive (effects.Deleted of name)
      by_test true live = absurd (cc (live))
      by_test false live = inr live
  live_from (effects.Held of holder) lawful live = inr live
  live_from (effects.Freed of) lawful live = inr live
  live_from (effects.Withdrawn of) lawful live = by_test (of.0 == vid) live
    where
      by_test : (b : Bool) → is_live_state (cond b (freed_state (state_of before vid)) (state_of before vid)) ≡ true
          → WasLive (effects.Withdrawn of)
      by_test true live = inr (live_freed (state_of before vid) live)
      by_test false live = inr live
  live_from (effects.Left node) lawful live = inr (live_left node.0 (state_of before vid) live)

pub live_before : (log : List Entry) (entry : Entry) (vid : ℕ) → is_live_state (state_of (log_effects (log ++ entry ∷ [])) vid) ≡ true
    → (publishes vid (outcome (log_effects log) entry).effect ≡ true) ⊎ (is_live_state (state_of (log_effects log) vid) ≡ true)
live_before log entry vid live =
    let effect = (outcome (log_effects log) entry).effect in
    live_from (log_effects log) vid effect (lawful-outcome (log_effects log) (sound-log_effects log) entry)
    (sym (ap (λ (all : List Effect). is_live_state (state_of all vid)) (log_effects-push log entry)
    ∙ ap is_live_state (state_of-push (log_effects log) effect vid)) ∙ live)
