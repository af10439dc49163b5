-- An id that a session has stays with it at an entry that doesn't take it; and what nobody is given any more, and names, stay for good.
use Rattle.std.proofs.Common.{◌≡◌, ℕ, ◌≤◌, Bool, true, false, cond, List, [], ◌∷◌, ◌++◌, Option, Some, refl, sym, ap, subst, ◌∙◌, arith}
use Rattle.std.specs.Option.{option_map_or}
use Rattle.std.specs.List.{list_any}
use Rattle.std.proofs.lemmas.Bool.{both_ways}
use Rattle.object_id.specs.declared.entry.Entry.{Entry}
use Rattle.object_id.specs.declared.node.NodeId.{NodeId}
use Rattle.epoch_log.specs.Epochs.{epoch_of}
use Rattle.disk_lock.specs.declared.holder.Holder.{Holder}
use Rattle.vdi_directory.specs.declared.effect.Effect.{Effect}
use Rattle.vdi_directory.specs.declared.effect.Reservation.{Reservation}
use Rattle.vdi_directory.specs.Decisions.{outcome, log_effects}
use Rattle.vdi_directory.specs.Effects.{reservations_of, reservation_on, holder_of}
use Rattle.vdi_directory.specs.Sound.{IsSound, IsLawful}
use Rattle.vdi_directory.specs.States.{owner_of, rank, state_of}
use Rattle.vdi_directory.proofs.DecisionLaws.{states-forward, held-works}
use Rattle.vdi_directory.proofs.HolderLemmas.{stays-held}
use Rattle.vdi_directory.proofs.LawfulEntries.{lawful-outcome, sound-log_effects}
use Rattle.vdi_directory.proofs.SoundEffects.{owner-kept, not-granted}
use Rattle.vdi_directory.proofs.StateLemmas.{log_effects-push, reservations_of-push}
use Rattle.overlap_law.specs.Grants.{gives, granted_in, reserver, writer_of, takes_writer, may_take_writer}
use Rattle.overlap_law.specs.WriterClaims.{holder_at, HasLock, HasReservation, HasPlace, HasLockYet, IsGivenNoMore, IsNamed}
use Rattle.overlap_law.specs.Writers.{unlocks}
use Rattle.overlap_law.proofs.DatedEffects.{last_epoch-push}
use Rattle.overlap_law.proofs.TakenIds.{taken_by_entry}
use Rattle.overlap_law.proofs.WriterChanges.{writer-by, takes_less, working_free, reservation_stays, entry_gives_taken}

-- ---- an entry more

module _ (log : List Entry) (entry : Entry) where
  abbrev before : List Effect
  before = log_effects log

  abbrev effect : Effect
  effect = (outcome (log_effects log) entry).effect

  sound : IsSound (log_effects log)
  sound = sound-log_effects log

  lawful : IsLawful (log_effects log) (outcome (log_effects log) entry).effect
  lawful = lawful-outcome (log_effects log) (sound-log_effects log) entry

  pub no_more_stays : (vid : ℕ) → IsGivenNoMore log vid → IsGivenNoMore (log ++ entry ∷ []) vid
  no_more_stays vid is = let on = states-forward log (entry ∷ []) vid in omega (arith, is, on)

  pub named_stays : (vid : ℕ) (name : List ℕ) → IsNamed log vid name → IsNamed (log ++ entry ∷ []) vid name
  named_stays vid name is =
      ap (λ (all : List Effect). owner_of all vid) (log_effects-push log entry)
      ∙ owner-kept before effect vid (not-granted before sound effect lawful vid name is) ∙ is

  -- what doesn't take an id gives it to nobody else
  pub granted_same : (vid : ℕ) (writer : Holder) → writer_of (log_effects log) vid ≡ Some writer
      → takes_writer vid writer.node (outcome (log_effects log) entry).effect ≡ false
      → granted_in (log ++ entry ∷ []) vid ≡ granted_in log vid
  granted_same vid writer is other = by_test (gives vid effect) refl
    where
      by_test : (b : Bool) → gives vid (outcome (log_effects log) entry).effect ≡ b
          → granted_in (log ++ entry ∷ []) vid ≡ granted_in log vid
      by_test true given =
          absurd (both_ways (takes_writer vid writer.node effect) other (entry_gives_taken log entry vid given writer is))
      by_test false apart =
          last_epoch-push (gives vid) log entry ∙ ap (λ (b : Bool). cond b (epoch_of (log ++ entry ∷ [])) (granted_in log vid)) apart

  -- few entries take it
  pub not_taken : (vid : ℕ) (writer : Holder) → writer_of (log_effects log) vid ≡ Some writer → may_take_writer vid writer entry ≡ false
      → takes_writer vid writer.node (outcome (log_effects log) entry).effect ≡ false
  not_taken vid writer is other = by_test (takes_writer vid writer.node effect) refl
    where
      by_test : (b : Bool) → takes_writer vid writer.node (outcome (log_effects log) entry).effect ≡ b
          → takes_writer vid writer.node (outcome (log_effects log) entry).effect ≡ false
      by_test true takes = absurd (both_ways (may_take_writer vid writer entry) other (taken_by_entry log entry vid writer is takes))
      by_test false kept = kept

-- ---- who has an id may write it

-- the writer of an id, by its reservation
abbrev writer_with : List Entry → ℕ → Option Reservation → Option Holder
writer_with log vid o =
    option_map_or (λ (reservation : Reservation). Some (reserver reservation)) o (holder_of (log_effects log) vid)

held-writer : (log : List Entry) (vid : ℕ) (holder : Holder) → holder_of (log_effects log) vid ≡ Some holder
    → writer_of (log_effects log) vid ≡ Some holder
held-writer log vid holder held =
    writer-by (log_effects log) vid
    ∙ ap (writer_with log vid) (working_free (log_effects log) (sound-log_effects log) vid (held-works log vid holder held))
    ∙ held

module _ (log outbox : List Entry) (me : NodeId) (session epoch vid : ℕ) where
  pub lock-writer : HasLock log outbox me session epoch vid → writer_of (log_effects log) vid ≡ Some (holder_at me session)
  lock-writer has = held-writer log vid (holder_at me session) has.held

  pub lock_yet : HasLock log outbox me session epoch vid → HasLockYet log me session epoch vid
  lock_yet has = record { held = has.held; since = has.since }

  pub reservation-writer : HasReservation log outbox me session epoch vid → writer_of (log_effects log) vid ≡ Some (holder_at me session)
  reservation-writer has = writer-by (log_effects log) vid ∙ ap (writer_with log vid) has.found ∙ ap (λ (h : Holder). Some h) has.own

  -- ---- and has it still

  module _ (entry : Entry) (other : may_take_writer vid (holder_at me session) entry ≡ false) where
    pub lock_stays : HasLock log outbox me session epoch vid → HasLock (log ++ entry ∷ []) outbox me session epoch vid
    lock_stays has =
        let kept = not_taken log entry vid (holder_at me session) (lock-writer has) other in
        record {
          held = stays-held log entry vid (holder_at me session) has.held (takes_less vid me (outcome (log_effects log) entry).effect kept);
          kept = has.kept;
          since = subst (λ (k : ℕ). k ≤ epoch) (sym (granted_same log entry vid (holder_at me session) (lock-writer has) kept)) has.since;
        }

    pub reserved_stays : HasReservation log outbox me session epoch vid → HasReservation (log ++ entry ∷ []) outbox me session epoch vid
    reserved_stays has =
        let effect = (outcome (log_effects log) entry).effect in
        let kept = not_taken log entry vid (holder_at me session) (reservation-writer has) other in
        record {
          reservation = has.reservation;
          found =
              ap (λ (all : List Effect). reservation_on (record { 0 = vid }) (reservations_of all)) (log_effects-push log entry)
              ∙ ap (reservation_on (record { 0 = vid })) (reservations_of-push (log_effects log) effect)
              ∙ reservation_stays (log_effects log) (sound-log_effects log) vid has.reservation effect has.found
              (ap (λ (h : Holder). takes_writer vid h.node effect) has.own ∙ kept);
          own = has.own;
          kept = has.kept;
          since = subst (λ (k : ℕ). k ≤ epoch) (sym (granted_same log entry vid (holder_at me session) (reservation-writer has) kept))
              has.since;
        }

    pub place_stays : (old : ℕ) → HasPlace log outbox me session epoch vid old
        → HasPlace (log ++ entry ∷ []) outbox me session epoch vid old
    unfolding reserved_stays
    place_stays old has = record { has = reserved_stays has.has; place = has.place }

  -- ---- where the outbox is another, which has no unlock of the id either

  module _ (later : List Entry) (none : list_any (unlocks session vid) later ≡ false) where
    pub lock_with : HasLock log outbox me session epoch vid → HasLock log later me session epoch vid
    lock_with has = record { held = has.held; kept = none; since = has.since }

    pub reserved_with : HasReservation log outbox me session epoch vid → HasReservation log later me session epoch vid
    reserved_with has =
        record { reservation = has.reservation; found = has.found; own = has.own; kept = none; since = has.since }

    pub place_with : (old : ℕ) → HasPlace log outbox me session epoch vid old → HasPlace log later me session epoch vid old
    unfolding reserved_with
    place_with old has = record { has = reserved_with has.has; place = has.place }

  -- ---- where the epoch is later

  module _ (later : ℕ) (after : epoch ≤ later) where
    pub lock_by : HasLock log outbox me session epoch vid → HasLock log outbox me session later vid
    lock_by has = record { held = has.held; kept = has.kept; since = let since = has.since in omega (arith, since, after) }

    pub reserved_by_then : HasReservation log outbox me session epoch vid → HasReservation log outbox me session later vid
    reserved_by_then has = record {
      reservation = has.reservation;
      found = has.found;
      own = has.own;
      kept = has.kept;
      since = let since = has.since in omega (arith, since, after);
    }

    pub place_by : (old : ℕ) → HasPlace log outbox me session epoch vid old → HasPlace log outbox me session later vid old
    unfolding reserved_by_then
    place_by old has = record { has = reserved_by_then has.has; place = has.place }

-- ---- a lock whose end is to be put

module _ (log : List Entry) (me : NodeId) (session epoch vid : ℕ) (has : HasLockYet log me session epoch vid) where
  pub yet-writer : writer_of (log_effects log) vid ≡ Some (holder_at me session)
  yet-writer = held-writer log vid (holder_at me session) has.held

  pub yet_stays : (entry : Entry) → may_take_writer vid (holder_at me session) entry ≡ false
      → HasLockYet (log ++ entry ∷ []) me session epoch vid
  yet_stays entry other =
      let kept = not_taken log entry vid (holder_at me session) yet-writer other in
      record {
        held = stays-held log entry vid (holder_at me session) has.held (takes_less vid me (outcome (log_effects log) entry).effect kept);
        since = subst (λ (k : ℕ). k ≤ epoch) (sym (granted_same log entry vid (holder_at me session) yet-writer kept)) has.since;
      }

  pub yet_by : (later : ℕ) → epoch ≤ later → HasLockYet log me session later vid
  yet_by later after = record { held = has.held; since = let since = has.since in omega (arith, since, after) }

  -- what is locked is given again
  pub yet-given : IsGivenNoMore log vid → ⊥
  yet-given gone =
      let at : rank (state_of (log_effects log) vid) ≡ 2 = ap rank (held-works log vid (holder_at me session) has.held) in
      omega (arith, gone, at)
