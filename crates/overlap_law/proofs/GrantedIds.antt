-- What an entry that is granted an id gives: its session has the id then, which was nobody's before; and a snapshot that is opened is
-- nobody's for good.
use Rattle.std.proofs.Common.{◌≡◌, ℕ, ◌==◌, ◌≤◌, Bool, true, false, cond, List, [], ◌∷◌, ◌++◌, Option, Some, None, Result, Ok, Err, is_some}
use Rattle.std.proofs.Common.{refl, sym, ap, subst, ◌∙◌, arith}
use Rattle.std.specs.Option.{option_or, option_map_or}
use Rattle.std.proofs.lemmas.Bool.{eq-eqb}
use Rattle.std.proofs.lemmas.List.Folds.{find-append}
use Rattle.std.proofs.lemmas.Option.{same_Some}
use Rattle.object_id.specs.declared.cause.Cause.{Cause}
use Rattle.object_id.specs.declared.cause.Cause.TheVariants as causes
use Rattle.object_id.specs.declared.entry.Entry.{Entry}
use Rattle.object_id.specs.declared.entry.Entry.TheVariants.{Reserve, Snapshot, Lock}
use Rattle.object_id.specs.declared.entry.Origin.{Origin}
use Rattle.object_id.specs.declared.entry.Origin.TheVariants.{Fresh, SnapshotOf, CloneOf}
use Rattle.object_id.specs.declared.entry.VdiSpec.{VdiSpec}
use Rattle.object_id.specs.declared.node.NodeId.{NodeId}
use Rattle.object_id.specs.declared.oid.Vid.{Vid}
use Rattle.epoch_log.specs.Epochs.{epoch_of}
use Rattle.disk_lock.specs.declared.holder.Holder.{Holder}
use Rattle.vdi_directory.specs.declared.decision.Decision.TheVariants as decisions
use Rattle.vdi_directory.specs.declared.decision.Outcome.{Outcome}
use Rattle.vdi_directory.specs.declared.effect.Effect.{Effect}
use Rattle.vdi_directory.specs.declared.effect.Effect.TheVariants as effects
use Rattle.vdi_directory.specs.declared.effect.Grant.{Grant}
use Rattle.vdi_directory.specs.declared.effect.Reservation.{Reservation}
use Rattle.vdi_directory.specs.declared.effect.Source.{Source}
use Rattle.vdi_directory.specs.declared.effect.Source.TheVariants as sources
use Rattle.vdi_directory.specs.declared.header.Header.{Header}
use Rattle.vdi_directory.specs.Decisions.{nothing, refusal_outcome, is_held_by, is_taken, grant_of, or_full, reservation_outcome, with_spec}
use Rattle.vdi_directory.specs.Decisions.{held_disk, reserved_snapshot, reserved_clone, reserve_outcome, replacement, snapshot_outcome}
use Rattle.vdi_directory.specs.Decisions.{target, lock, outcome, log_effects, decision_after}
use Rattle.vdi_directory.specs.Effects.{is_used, header_of, name_of, reservations_after, reservations_of, reservation_on, holder_after}
use Rattle.vdi_directory.specs.Effects.{holder_of}
use Rattle.vdi_directory.specs.Names.{snapshot_with_tag, is_live_name}
use Rattle.vdi_directory.specs.Sources.{tag_for}
use Rattle.vdi_directory.specs.Sound.{IsLiveSnapshot, IsNameTaken}
use Rattle.vdi_directory.specs.States.{Working, Reserved, rank, state_of}
use Rattle.vdi_directory.specs.Vids.{free_id}
use Rattle.vdi_directory.proofs.DecisionLaws.{grant_outcome-unused, held-was-free, held-works}
use Rattle.vdi_directory.proofs.LawfulEntries.{in-find, snapshot_with_tag-is, target-tagged, sound-log_effects}
use Rattle.vdi_directory.proofs.SoundEffects.{other-id}
use Rattle.vdi_directory.proofs.StateLemmas.{log_effects-push, reservations_of-push, holder_of-push}
use Rattle.vdi_directory.proofs.WorkingLemmas.{found-working}
use Rattle.proof_tools.proofs.Booleans.{cond_either}
use Rattle.overlap_law.specs.Grants.{gives, granted_in, reserver, writer_of}
use Rattle.overlap_law.specs.WriterClaims.{holder_at, HasLock, HasPlace, IsInPlaceOf, IsGivenNoMore, IsNamed}
use Rattle.overlap_law.proofs.DatedEffects.{last_epoch-push}
use Rattle.overlap_law.proofs.WriterChanges.{writer-by, working_free, unused_free, unused_unheld, found_reserved}

-- nobody has an id, and it may be given
pub record IsFree (log : List Entry) (vid : ℕ) : Type 0 where
  pub nobodys : writer_of (log_effects log) vid ≡ None
  pub early : rank (state_of (log_effects log) vid) ≤ 2

-- ---- one entry more

module _ (log : List Entry) (entry : Entry) where
  abbrev before : List Effect
  before = log_effects log

  -- the epoch of what it gives
  granted_now : (vid : ℕ) (effect : Effect) → (outcome (log_effects log) entry).effect ≡ effect → gives vid effect ≡ true
      → granted_in (log ++ entry ∷ []) vid ≡ epoch_of (log ++ entry ∷ [])
  granted_now vid effect is given =
      last_epoch-push (gives vid) log entry
      ∙ ap (λ (b : Bool). cond b (epoch_of (log ++ entry ∷ [])) (granted_in log vid)) (ap (gives vid) is ∙ given)

  holder_now : (vid : ℕ) (effect : Effect) → (outcome (log_effects log) entry).effect ≡ effect
      → holder_of (log_effects (log ++ entry ∷ [])) vid ≡ holder_after vid (holder_of (log_effects log) vid) effect
  holder_now vid effect is =
      ap (λ (all : List Effect). holder_of all vid) (log_effects-push log entry)
      ∙ holder_of-push before (outcome (log_effects log) entry).effect vid ∙ ap (holder_after vid (holder_of before vid)) is

  reservations_now : (effect : Effect) → (outcome (log_effects log) entry).effect ≡ effect
      → reservations_of (log_effects (log ++ entry ∷ [])) ≡ reservations_after (reservations_of (log_effects log)) effect
  reservations_now effect is =
      ap reservations_of (log_effects-push log entry)
      ∙ reservations_of-push before (outcome (log_effects log) entry).effect ∙ ap (reservations_after (reservations_of before)) is

-- who writes an id without reservation
abbrev writer_with : List Entry → ℕ → Option Reservation → Option Holder → Option Holder
writer_with log vid o holder = option_map_or (λ (reservation : Reservation). Some (reserver reservation)) o holder

-- ---- a disk is locked

pub record IsLocked (log : List Entry) (me : NodeId) (session : ℕ) (entry : Entry) (vid : ℕ) : Type 0 where
  pub held : holder_of (log_effects (log ++ entry ∷ [])) vid ≡ Some (holder_at me session)
  pub since : granted_in (log ++ entry ∷ []) vid ≡ epoch_of (log ++ entry ∷ [])

module _ (log : List Entry) (me : NodeId) (session : ℕ) (name : List ℕ) (vid : Vid) where
  abbrev locks : Entry
  locks = Lock me session name None

  pub locked_effect : decision_after log (Lock me session name None) ≡ decisions.Granted vid
      → (outcome (log_effects log) (Lock me session name None)).effect ≡ effects.Held vid (holder_at me session)
  locked_effect is = by_target (target (log_effects log) name None) refl is
    where
      by_target : (of : Result Vid Cause) → target (log_effects log) name None ≡ of
          → (lock (holder_at me session) false of).decision ≡ decisions.Granted vid
          → (outcome (log_effects log) (Lock me session name None)).effect ≡ effects.Held vid (holder_at me session)
      by_target (Err cause) found is = absurd (cc (is))
      by_target (Ok other) found is =
          let same : other ≡ vid = cc (is) in
          ap (λ (of : Result Vid Cause). (lock (holder_at me session) false of).effect) found
          ∙ ap (λ (v : Vid). effects.Held v (holder_at me session)) same

  module _ (granted : decision_after log (Lock me session name None) ≡ decisions.Granted vid) where
    pub lock_given : IsLocked log me session (Lock me session name None) vid.0
    lock_given = record {
      held = holder_now log locks vid.0 (effects.Held vid (holder_at me session)) (locked_effect granted)
          ∙ ap (λ (b : Bool). cond b (Some (holder_at me session)) (holder_of (log_effects log) vid.0)) (eq-eqb vid.0 vid.0 refl);
      since = granted_now log locks vid.0 (effects.Held vid (holder_at me session)) (locked_effect granted) (eq-eqb vid.0 vid.0 refl);
    }

    pub locked_was_free : IsFree log vid.0
    locked_was_free =
        let (works, unheld) = held-was-free log locks vid (holder_at me session) (locked_effect granted) in
        let at : rank (state_of (log_effects log) vid.0) ≡ 2 = ap rank works in
        record {
          nobodys = writer-by (log_effects log) vid.0
              ∙ (λ i. writer_with log vid.0 (working_free (log_effects log) (sound-log_effects log) vid.0 works i) (unheld i));
          early = omega (arith, at);
        }

-- a snapshot is opened
pub snapshot_found : (log : List Entry) (me : NodeId) (session : ℕ) (name tag : List ℕ) (vid : Vid)
    → decision_after log (Lock me session name (Some tag)) ≡ decisions.Granted vid → IsLiveSnapshot (state_of (log_effects log) vid.0)
snapshot_found log me session name tag vid is = by_target (target (log_effects log) name (Some tag)) refl is
  where
    by_target : (of : Result Vid Cause) → target (log_effects log) name (Some tag) ≡ of
        → (lock (holder_at me session) true of).decision ≡ decisions.Granted vid → IsLiveSnapshot (state_of (log_effects log) vid.0)
    by_target (Err cause) found is = absurd (cc (is))
    by_target (Ok other) found is =
        let same : other ≡ vid = cc (is) in
        let named = name_of (log_effects log) name in
        let listed = snapshot_with_tag-is tag named other
        (target-tagged (log_effects log) (sound-log_effects log) (is_live_name named) (snapshot_with_tag tag named) other found) in
        let taken : IsNameTaken (log_effects log) name other.0
        = subst (λ (v : Vid). IsNameTaken (log_effects log) name v.0) listed.2
        ((sound-log_effects log).live_snapshots name listed.0 listed.1) in
        subst (λ (v : Vid). IsLiveSnapshot (state_of (log_effects log) v.0)) same taken.state

pub snapshot_given : (log : List Entry) (me : NodeId) (session : ℕ) (name tag : List ℕ) (vid : Vid)
    → decision_after log (Lock me session name (Some tag)) ≡ decisions.Granted vid → IsGivenNoMore log vid.0
snapshot_given log me session name tag vid is =
    let at : rank (state_of (log_effects log) vid.0) ≡ 3 = ap rank (snapshot_found log me session name tag vid is).1 in
    omega (arith, at)

-- ---- an id is reserved

module _ (log : List Entry) (by : NodeId) (session : ℕ) where
  -- what it is to become
  abbrev pub IsSourceOf : List ℕ → Origin → Source → Type 0
  IsSourceOf name (Fresh spec) source = Unit {0}
  IsSourceOf name (SnapshotOf tag) source =
      (old : Vid) × ((name_of (log_effects log) name).working ≡ Some old) × (source ≡ sources.Snapshot old tag)
  IsSourceOf name (CloneOf base tag) source = source ≡ sources.Clone

  pub record IsGrant (vid : Vid) (name : List ℕ) (origin : Origin) (effect : Effect) : Type 0 where
    pub grant : Grant
    pub reserved : effect ≡ effects.Reserved grant
    pub of : grant.reservation.vid ≡ vid
    pub own : reserver grant.reservation ≡ holder_at by session
    pub source : IsSourceOf name origin grant.reservation.source

  module _ (name : List ℕ) (origin : Origin) where
    abbrev Grants : Outcome → Type 0
    Grants made = (vid : Vid) → made.decision ≡ decisions.Granted vid → IsGrant vid name origin made.effect

    refused_grants : (cause : Cause) → Grants (refusal_outcome cause)
    refused_grants cause vid is = absurd (cc (is))

    nothing_grants : Grants nothing
    nothing_grants vid is = absurd (cc (is))

    module _ (source : Source) (so : IsSourceOf name origin source) (parent : Option Vid) where
      free_grants : (spec : VdiSpec) (free : Option ℕ)
          → Grants (or_full free (grant_of (log_effects log) by session name source parent spec))
      free_grants spec None vid is = absurd (cc (is))
      free_grants spec (Some id) vid is = record { grant = _; reserved = refl; of = cc (is); own = refl; source = so }

      spec_grants : (header : Option Header)
          → Grants (with_spec header (reservation_outcome (log_effects log) by session name source parent))
      spec_grants None = nothing_grants
      spec_grants (Some header) = free_grants header.spec (free_id name (is_used (log_effects log)))

  held_is : (working : Option Vid) (old : Vid) → held_disk (log_effects log) by session working ≡ Some old → working ≡ Some old
  held_is None old is = absurd (cc (is))
  held_is (Some vid) old is = by_test (is_held_by by session (holder_of (log_effects log) vid.0)) is
    where
      by_test : (b : Bool) → cond b (Some vid) None ≡ Some old → Some vid ≡ Some old
      by_test true is = is
      by_test false is = absurd (cc (is))

  snapshot_grants : (name tag : List ℕ) (old : Option Vid)
      → held_disk (log_effects log) by session (name_of (log_effects log) name).working ≡ old
      → Grants name (SnapshotOf tag) (reserved_snapshot (log_effects log) by session name tag old)
  snapshot_grants name tag None held = refused_grants name (SnapshotOf tag) causes.VdiNotLocked
  snapshot_grants name tag (Some old) held =
      cond_either (Grants name (SnapshotOf tag)) (is_some (snapshot_with_tag tag (name_of (log_effects log) name)))
      (refusal_outcome causes.VdiExist) (with_spec (header_of (log_effects log) old.0)
      (reservation_outcome (log_effects log) by session name (sources.Snapshot old tag) (Some old)))
      (refused_grants name (SnapshotOf tag) causes.VdiExist)
      (spec_grants name (SnapshotOf tag) (sources.Snapshot old tag) (old, held_is (name_of (log_effects log) name).working old held, refl)
      (Some old) (header_of (log_effects log) old.0))

  clone_grants : (name base tag : List ℕ) (from : Option Vid)
      → Grants name (CloneOf base tag) (reserved_clone (log_effects log) by session name from)
  clone_grants name base tag None = refused_grants name (CloneOf base tag) causes.NoTag
  clone_grants name base tag (Some from) =
      cond_either (Grants name (CloneOf base tag)) (is_taken (log_effects log) name) (refusal_outcome causes.VdiExist)
      (with_spec (header_of (log_effects log) from.0) (reservation_outcome (log_effects log) by session name sources.Clone (Some from)))
      (refused_grants name (CloneOf base tag) causes.VdiExist)
      (spec_grants name (CloneOf base tag) sources.Clone refl (Some from) (header_of (log_effects log) from.0))

  pub reserve_grants : (name : List ℕ) (origin : Origin) → Grants name origin (reserve_outcome (log_effects log) by session name origin)
  reserve_grants name (Fresh spec) =
      cond_either (Grants name (Fresh spec)) (is_taken (log_effects log) name) (refusal_outcome causes.VdiExist)
      (reservation_outcome (log_effects log) by session name sources.Fresh None spec) (refused_grants name (Fresh spec) causes.VdiExist)
      (free_grants name (Fresh spec) sources.Fresh tt None spec (free_id name (is_used (log_effects log))))
  reserve_grants name (SnapshotOf tag) =
      snapshot_grants name tag (held_disk (log_effects log) by session (name_of (log_effects log) name).working) refl
  reserve_grants name (CloneOf base tag) =
      cond_either (Grants name (CloneOf base tag)) (is_live_name (name_of (log_effects log) base))
      (reserved_clone (log_effects log) by session name (snapshot_with_tag tag (name_of (log_effects log) base)))
      (refusal_outcome causes.NoBaseVdi) (clone_grants name base tag (snapshot_with_tag tag (name_of (log_effects log) base)))
      (refused_grants name (CloneOf base tag) causes.NoBaseVdi)

  module _ (name : List ℕ) (origin : Origin) where
    abbrev asks : Entry
    asks = Reserve by session name origin

    -- what the session has then
    pub record IsReservedNow (vid : Vid) : Type 0 where
      pub reservation : Reservation
      pub found : reservation_on vid (reservations_of (log_effects (log ++ Reserve by session name origin ∷ []))) ≡ Some reservation
      pub own : reserver reservation ≡ holder_at by session
      pub since : granted_in (log ++ Reserve by session name origin ∷ []) vid.0 ≡ epoch_of (log ++ Reserve by session name origin ∷ [])
      pub source : IsSourceOf name origin reservation.source
      pub free : IsFree log vid.0

    for_grant : (grant : Grant) → (outcome (log_effects log) (Reserve by session name origin)).effect ≡ effects.Reserved grant
        → reserver grant.reservation ≡ holder_at by session → IsSourceOf name origin grant.reservation.source
        → IsReservedNow grant.reservation.vid
    for_grant grant is own source =
        let vid = grant.reservation.vid in
        let all = reservations_of (log_effects log) in
        let sound = sound-log_effects log in
        let unused = sound.unused vid.0 (grant_outcome-unused log asks grant is).1 in
        let none = unused_free (log_effects log) sound vid.0 unused in
        let at : rank (state_of (log_effects log) vid.0) ≡ 0 = ap rank unused in
        record {
          reservation = grant.reservation;
          found =
              ap (reservation_on vid) (reservations_now log asks (effects.Reserved grant) is)
              ∙ find-append (λ (r : Reservation). r.vid.0 == vid.0) all (grant.reservation ∷ [])
              ∙ (λ i. option_or (none i) (cond (eq-eqb vid.0 vid.0 refl i) (Some grant.reservation) None));
          own = own;
          since = granted_now log asks vid.0 (effects.Reserved grant) is (eq-eqb vid.0 vid.0 refl);
          source = source;
          free = record {
            nobodys = writer-by (log_effects log) vid.0
                ∙ (λ i. writer_with log vid.0 (none i) (unused_unheld (log_effects log) sound vid.0 unused i));
            early = omega (arith, at);
          };
        }

    pub reservation_given : (vid : Vid) → decision_after log (Reserve by session name origin) ≡ decisions.Granted vid → IsReservedNow vid
    reservation_given vid granted =
        let is = reserve_grants name origin vid granted in
        subst IsReservedNow is.of (for_grant is.grant is.reserved is.own is.source)

-- the disk of the name is the one that the session has locked
pub in_place : (log outbox : List Entry) (me : NodeId) (session epoch old : ℕ) (name tag : List ℕ) (source : Source)
    → HasLock log outbox me session epoch old → IsNamed log old name → IsSourceOf log me session name (SnapshotOf tag) source
    → IsInPlaceOf old source
in_place log outbox me session epoch old name tag source has named (found, working, is) =
    let here = found-working log name (record { 0 = old })
    (record { state = held-works log old (holder_at me session) has.held; owner = named }) in
    let same : found ≡ record { 0 = old } = same_Some found (record { 0 = old }) (sym working ∙ here) in (
      tag,
      ap (tag_for (record { 0 = old })) is
          ∙ ap (λ (b : Bool). cond b (Some tag) None) (eq-eqb found.0 old (ap (λ (v : Vid). v.0) same)),
    )

-- ---- a disk becomes a snapshot, and the reserved id takes its place

module _ (log outbox : List Entry) (me : NodeId) (session epoch : ℕ) (old vid : Vid)
    (has : HasPlace log outbox me session epoch vid.0 old.0)
    (lock : HasLock log outbox me session epoch old.0) where
  abbrev snaps : Entry
  snaps = Snapshot me old vid

  pub replaced_effect : (outcome (log_effects log) (Snapshot me old vid)).effect
      ≡ effects.Snapped (record {
        old = old;
        vid = has.has.reservation.vid;
        name = has.has.reservation.name;
        tag = has.place.0;
        holder = holder_at me session;
      })
  replaced_effect =
      let reservation = has.has.reservation in
      ap (λ (o : Option Reservation). (snapshot_outcome (log_effects log) me old o).effect) has.has.found
      ∙ ap (λ (b : Bool). (cond b (replacement reservation old (tag_for old reservation.source) (holder_of (log_effects log) old.0))
      nothing).effect) (eq-eqb reservation.by.0 me.0 (ap (λ (h : Holder). h.node.0) has.has.own))
      ∙ (λ i. (replacement reservation old (has.place.1 i) (lock.held i)).effect)

  pub replaced_now : IsLocked log me session (Snapshot me old vid) vid.0
  replaced_now =
      let reservation = has.has.reservation in
      let before = log_effects log in
      let on = (in-find (λ (r : Reservation). r.vid.0 == vid.0) reservation (reservations_of before) has.has.found).1 in
      let apart =
      other-id before (sound-log_effects log) old.0 vid.0 Working (Reserved reservation.by)
      (held-works log old.0 (holder_at me session) lock.held) (found_reserved before (sound-log_effects log) vid.0 reservation
      has.has.found) (λ e. cc) in
      record {
        held = holder_now log snaps vid.0 _ replaced_effect
            ∙ (λ i. cond (apart i) None (cond (on i) (Some (holder_at me session)) (holder_of (log_effects log) vid.0)));
        since = granted_now log snaps vid.0 _ replaced_effect on;
      }
