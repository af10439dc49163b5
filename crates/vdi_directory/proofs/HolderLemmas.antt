-- Who takes a disk from its holder: an effect that frees its lock, makes it a snapshot or frees what its node holds.
use Rattle.std.proofs.Common.{◌≡◌, ℕ, ◌==◌, ◌&&◌, Bool, true, false, cond, List, [], ◌∷◌, ◌++◌, Option, Some, None, is_some, Result, Ok, Err, refl, ap, sym, ◌∙◌, append_assoc}
use Rattle.std.specs.List.{list_any}
use Rattle.std.proofs.lemmas.Bool.{eqb-true, ne_eqb, both_ways, and_from, or_parts, cond-true, cond-false}
use Rattle.std.proofs.lemmas.List.{append-nil}
use Rattle.object_id.specs.declared.oid.Vid.{Vid}
use Rattle.object_id.specs.declared.node.NodeId.{NodeId}
use Rattle.object_id.specs.declared.cause.Cause.{Cause}
use Rattle.object_id.specs.declared.cause.Cause.TheVariants as causes
use Rattle.object_id.specs.declared.entry.VdiSpec.{VdiSpec}
use Rattle.object_id.specs.declared.entry.Origin.{Origin}
use Rattle.object_id.specs.declared.entry.Origin.TheVariants.{Fresh, SnapshotOf, CloneOf}
use Rattle.object_id.specs.declared.entry.Entry.{Entry}
use Rattle.object_id.specs.declared.entry.Entry.TheVariants.{Leave, Reserve, Publish, Clone, Snapshot, Delete, Lock, Unlock}
use Rattle.disk_lock.specs.declared.holder.Holder.{Holder}
use Rattle.vdi_directory.specs.declared.header.Header.{Header}
use Rattle.vdi_directory.specs.declared.effect.Source.{Source}
use Rattle.vdi_directory.specs.declared.effect.Source.TheVariants as sources
use Rattle.vdi_directory.specs.declared.effect.Reservation.{Reservation}
use Rattle.vdi_directory.specs.declared.effect.Effect.{Effect}
use Rattle.vdi_directory.specs.declared.effect.Effect.TheVariants as effects
use Rattle.vdi_directory.specs.declared.decision.Outcome.{Outcome}
use Rattle.vdi_directory.specs.Vids.{free_id}
use Rattle.vdi_directory.specs.Names.{is_live_name, snapshot_with_tag}
use Rattle.vdi_directory.specs.Sources.{is_for, tag_for}
use Rattle.vdi_directory.specs.Effects.{is_used, header_of, name_of, reservations_of, reservation_on, holder_after, holder_of}
use Rattle.vdi_directory.specs.Decisions.{nothing, silent_outcome, grant_outcome, refusal_outcome, outcome, log_effects, or_full, grant_of, with_spec, reservation_outcome, reserved_snapshot, reserved_clone, reserve_outcome, publication, replacement, snapshot_outcome, target, deletion, lock, is_held_by, is_reserved_by, is_taken, held_disk}
use Rattle.vdi_directory.specs.States.{Reserved, Working}
use Rattle.vdi_directory.specs.Sound.{IsSound, IsLawful}
use Rattle.vdi_directory.specs.Holders.{takes_disk, may_take_disk}
use Rattle.vdi_directory.proofs.StateLemmas.{log_effects-push, holder_of-push}
use Rattle.vdi_directory.proofs.SoundEffects.{other-id}
use Rattle.vdi_directory.proofs.LawfulEntries.{lawful-outcome, sound-log_effects}

-- an effect on a disk that is held
module _ (before : List Effect) (sound : IsSound before) (vid : ℕ) (holder : Holder) (held : holder_of before vid ≡ Some holder) where
  pub stays-after : (effect : Effect) → IsLawful before effect → takes_disk vid holder.node effect ≡ false → holder_after vid (Some holder) effect ≡ Some holder
  stays-after (effects.Snapped snap) lawful other =
      cond-false (snap.old.0 == vid) None (cond (snap.vid.0 == vid) (Some snap.holder) (Some holder)) other
      ∙ cond-false (snap.vid.0 == vid) (Some snap.holder) (Some holder)
      (other-id before sound snap.vid.0 vid (Reserved ((lawful.1).0)) Working ((lawful.1).1) (sound.held vid holder held) (λ e. cc))
  stays-after (effects.Held of by) lawful other =
      cond-false (of.0 == vid) (Some by) (Some holder) (ne_eqb of.0 vid (λ same. none (sym lawful.1 ∙ ap (holder_of before) same ∙ held)))
    where
      none : None ≡ Some holder → ⊥
      none e = cc
  stays-after (effects.Freed of) lawful other = cond-false (of.0 == vid) None (Some holder) other
  stays-after (effects.Left node) lawful other = cond-false (holder.node.0 == node.0) None (Some holder) other
  stays-after effect lawful other = refl

  pub goes-after : (effect : Effect) → takes_disk vid holder.node effect ≡ true → holder_after vid (Some holder) effect ≡ None
  goes-after (effects.Snapped snap) takes = cond-true (snap.old.0 == vid) None (cond (snap.vid.0 == vid) (Some snap.holder) (Some holder)) takes
  goes-after (effects.Freed of) takes = cond-true (of.0 == vid) None (Some holder) takes
  goes-after (effects.Left node) takes = cond-true (holder.node.0 == node.0) None (Some holder) takes
  goes-after effect takes = cc

  Keeps : Outcome → Type 0
  Keeps o = takes_disk vid holder.node o.effect ≡ false

  keeps-if : (b : Bool) (x y : Outcome) → Keeps x → Keeps y → Keeps (cond b x y)
  keeps-if true x y one two = one
  keeps-if false x y one two = two

  keeps-full : (by : NodeId) (session : ℕ) (name : List ℕ) (source : Source) (parent : Option Vid) (spec : VdiSpec) (found : Option ℕ)
      → Keeps (or_full found (grant_of before by session name source parent spec))
  unfolding Keeps
  keeps-full by session name source parent spec None = refl
  keeps-full by session name source parent spec (Some vid) = refl

  keeps-spec : (header : Option Header) (make : VdiSpec → Outcome) → ((spec : VdiSpec) → Keeps (make spec)) → Keeps (with_spec header make)
  unfolding Keeps
  keeps-spec None make each = refl
  keeps-spec (Some header) make each = each header.spec

  keeps-refused : (cause : Cause) → Keeps (refusal_outcome cause)
  unfolding Keeps
  keeps-refused cause = refl

  keeps-nothing : Keeps nothing
  unfolding Keeps
  keeps-nothing = refl

  keeps-snapshot : (by : NodeId) (session : ℕ) (name tag : List ℕ) (of : Option Vid) → Keeps (reserved_snapshot before by session name tag of)
  keeps-snapshot by session name tag None = keeps-refused causes.VdiNotLocked
  keeps-snapshot by session name tag (Some old) =
      keeps-if (is_some (snapshot_with_tag tag (name_of before name))) (refusal_outcome causes.VdiExist)
      (with_spec (header_of before old.0) (reservation_outcome before by session name (sources.Snapshot old tag) (Some old))) (keeps-refused causes.VdiExist)
      (keeps-spec (header_of before old.0) (reservation_outcome before by session name (sources.Snapshot old tag) (Some old))
      (λ spec. keeps-full by session name (sources.Snapshot old tag) (Some old) spec (free_id name (is_used before))))

  keeps-clone : (by : NodeId) (session : ℕ) (name : List ℕ) (base : Option Vid) → Keeps (reserved_clone before by session name base)
  keeps-clone by session name None = keeps-refused causes.NoTag
  keeps-clone by session name (Some base) =
      keeps-if (is_taken before name) (refusal_outcome causes.VdiExist)
      (with_spec (header_of before base.0) (reservation_outcome before by session name sources.Clone (Some base))) (keeps-refused causes.VdiExist)
      (keeps-spec (header_of before base.0) (reservation_outcome before by session name sources.Clone (Some base))
      (λ spec. keeps-full by session name sources.Clone (Some base) spec (free_id name (is_used before))))

  keeps-reservation : (by : NodeId) (session : ℕ) (name : List ℕ) (origin : Origin) → Keeps (reserve_outcome before by session name origin)
  keeps-reservation by session name (Fresh spec) =
      keeps-if (is_taken before name) (refusal_outcome causes.VdiExist) (reservation_outcome before by session name sources.Fresh None spec) (keeps-refused causes.VdiExist)
      (keeps-full by session name sources.Fresh None spec (free_id name (is_used before)))
  keeps-reservation by session name (SnapshotOf tag) = keeps-snapshot by session name tag (held_disk before by session (name_of before name).working)
  keeps-reservation by session name (CloneOf base tag) =
      keeps-if (is_live_name (name_of before base)) (reserved_clone before by session name (snapshot_with_tag tag (name_of before base))) (refusal_outcome causes.NoBaseVdi)
      (keeps-clone by session name (snapshot_with_tag tag (name_of before base))) (keeps-refused causes.NoBaseVdi)

  keeps-publication : (by : NodeId) (is_right : Source → Bool) (reservation : Option Reservation) → Keeps (publication by is_right reservation)
  unfolding Keeps
  keeps-publication by is_right None = refl
  keeps-publication by is_right (Some reservation) =
      keeps-if (reservation.by.0 == by.0 && is_right reservation.source) (grant_outcome reservation.vid (effects.Published reservation.vid reservation.name)) nothing refl refl

  keeps-replacement : (reservation : Reservation) (old : Vid) (tag : Option (List ℕ)) (by : Option Holder) → (old.0 == vid) ≡ false
      → Keeps (replacement reservation old tag by)
  unfolding Keeps
  keeps-replacement reservation old None by apart = refl
  keeps-replacement reservation old (Some tag) None apart = refl
  keeps-replacement reservation old (Some tag) (Some by) apart = apart

  keeps-snap : (by : NodeId) (old : Vid) (reservation : Option Reservation) → (old.0 == vid) ≡ false → Keeps (snapshot_outcome before by old reservation)
  keeps-snap by old None apart = keeps-nothing
  keeps-snap by old (Some reservation) apart =
      keeps-if (reservation.by.0 == by.0) (replacement reservation old (tag_for old reservation.source) (holder_of before old.0)) nothing
      (keeps-replacement reservation old (tag_for old reservation.source) (holder_of before old.0) apart) keeps-nothing

  keeps-deletion : (name : List ℕ) (of : Result Vid Cause) → Keeps (deletion name of)
  unfolding Keeps
  keeps-deletion name (Err cause) = refl
  keeps-deletion name (Ok other) = refl

  keeps-lock : (by : Holder) (is_snapshot : Bool) (of : Result Vid Cause) → Keeps (lock by is_snapshot of)
  unfolding Keeps
  keeps-lock by is_snapshot (Err cause) = refl
  keeps-lock by is_snapshot (Ok other) = keeps-if is_snapshot (grant_outcome other effects.Nothing) (grant_outcome other (effects.Held other by)) refl refl

  keeps-release : (b c : Bool) (of : Vid) → (b ≡ true → (of.0 == vid) ≡ false)
      → Keeps (cond b (silent_outcome (effects.Freed of)) (cond c (silent_outcome (effects.Withdrawn of)) nothing))
  unfolding Keeps
  keeps-release true c of apart = apart refl
  keeps-release false true of apart = refl
  keeps-release false false of apart = refl

  -- an unlock by another session, or of another disk
  not-own : (by : NodeId) (session : ℕ) (of : Vid) → (of.0 == vid && is_held_by by session (Some holder)) ≡ false
      → is_held_by by session (holder_of before of.0) ≡ true → (of.0 == vid) ≡ false
  not-own by session of other is = by_test (of.0 == vid) refl
    where
      by_test : (b : Bool) → (of.0 == vid) ≡ b → (of.0 == vid) ≡ false
      by_test true same =
          let own : is_held_by by session (Some holder) ≡ true
          = sym (ap (is_held_by by session) (ap (holder_of before) (eqb-true of.0 vid same) ∙ held)) ∙ is in
          absurd (both_ways (of.0 == vid && is_held_by by session (Some holder)) other (and_from (of.0 == vid) (is_held_by by session (Some holder)) same own))
      by_test false apart = apart

  keeps-entry : (entry : Entry) → may_take_disk vid holder entry ≡ false → Keeps (outcome before entry)
  unfolding Keeps
  keeps-entry (Leave node) other = other
  keeps-entry (Reserve by session name origin) other = keeps-reservation by session name origin
  keeps-entry (Publish by of) other = keeps-publication by (is_for false) (reservation_on of (reservations_of before))
  keeps-entry (Clone by of) other = keeps-publication by (is_for true) (reservation_on of (reservations_of before))
  keeps-entry (Snapshot by old of) other = keeps-snap by old (reservation_on of (reservations_of before)) other
  keeps-entry (Delete by session name tag) other = keeps-deletion name (target before name tag)
  keeps-entry (Lock by session name tag) other = keeps-lock (record { node = by; session = session }) (is_some tag) (target before name tag)
  keeps-entry (Unlock by session of) other =
      keeps-release (is_held_by by session (holder_of before of.0)) (is_reserved_by by session (reservation_on of (reservations_of before))) of
      (not-own by session of other)
  keeps-entry entry other = refl

  pub entry-takes : (entry : Entry) → takes_disk vid holder.node (outcome before entry).effect ≡ true → may_take_disk vid holder entry ≡ true
  unfolding Keeps
  entry-takes entry takes = by_test (may_take_disk vid holder entry) refl
    where
      by_test : (b : Bool) → may_take_disk vid holder entry ≡ b → may_take_disk vid holder entry ≡ true
      by_test true is = is
      by_test false other = absurd (both_ways (takes_disk vid holder.node (outcome before entry).effect) (keeps-entry entry other) takes)

  pub entry-keeps : (entry : Entry) → may_take_disk vid holder entry ≡ false → takes_disk vid holder.node (outcome before entry).effect ≡ false
  unfolding Keeps
  entry-keeps entry other = keeps-entry entry other

module _ (entries : List Entry) (entry : Entry) (vid : ℕ) (holder : Holder) (held : holder_of (log_effects entries) vid ≡ Some holder) where
  read : holder_of (log_effects (entries ++ entry ∷ [])) vid ≡ holder_after vid (Some holder) (outcome (log_effects entries) entry).effect
  read =
      ap (λ before. holder_of before vid) (log_effects-push entries entry)
      ∙ holder_of-push (log_effects entries) (outcome (log_effects entries) entry).effect vid
      ∙ ap (λ h. holder_after vid h (outcome (log_effects entries) entry).effect) held

  pub stays-held : takes_disk vid holder.node (outcome (log_effects entries) entry).effect ≡ false
      → holder_of (log_effects (entries ++ entry ∷ [])) vid ≡ Some holder
  stays-held other =
      read ∙ stays-after (log_effects entries) (sound-log_effects entries) vid holder held (outcome (log_effects entries) entry).effect
      (lawful-outcome (log_effects entries) (sound-log_effects entries) entry) other

  pub taken-is-free : takes_disk vid holder.node (outcome (log_effects entries) entry).effect ≡ true
      → holder_of (log_effects (entries ++ entry ∷ [])) vid ≡ None
  taken-is-free takes =
      read ∙ goes-after (log_effects entries) (sound-log_effects entries) vid holder held (outcome (log_effects entries) entry).effect takes

  pub taken-by-entry : takes_disk vid holder.node (outcome (log_effects entries) entry).effect ≡ true → may_take_disk vid holder entry ≡ true
  taken-by-entry takes = entry-takes (log_effects entries) (sound-log_effects entries) vid holder held entry takes

pub stays-held-later : (later entries : List Entry) (vid : ℕ) (holder : Holder) → holder_of (log_effects entries) vid ≡ Some holder
    → list_any (may_take_disk vid holder) later ≡ false → holder_of (log_effects (entries ++ later)) vid ≡ Some holder
stays-held-later [] entries vid holder held none = ap (λ all. holder_of (log_effects all) vid) (append-nil entries) ∙ held
stays-held-later (entry ∷ later) entries vid holder held none =
    let parts = or_parts (may_take_disk vid holder entry) (list_any (may_take_disk vid holder) later) none in
    ap (λ all. holder_of (log_effects all) vid) (sym (append_assoc entries (entry ∷ []) later))
    ∙ stays-held-later later (entries ++ entry ∷ []) vid holder
    (stays-held entries entry vid holder held (entry-keeps (log_effects entries) (sound-log_effects entries) vid holder held entry parts.0)) parts.1
