-- An id that is granted has a header, and the id of a clone or a snapshot its parent in it.
use Rattle.std.proofs.Common.{◌≡◌, ℕ, ◌==◌, ◌&&◌, ◌||◌, Bool, true, false, cond, List, [], ◌∷◌, ◌++◌, Option, Some, None, is_some, Result, Ok, Err, refl, ap, sym, ◌∙◌}
use Rattle.std.proofs.lemmas.Bool.{eq-eqb, or_left, or_right}
use Rattle.object_id.specs.declared.oid.Vid.{Vid}
use Rattle.object_id.specs.declared.node.NodeId.{NodeId}
use Rattle.object_id.specs.declared.cause.Cause.{Cause}
use Rattle.object_id.specs.declared.cause.Cause.TheVariants as causes
use Rattle.object_id.specs.declared.entry.VdiSpec.{VdiSpec}
use Rattle.object_id.specs.declared.entry.Origin.{Origin}
use Rattle.object_id.specs.declared.entry.Origin.TheVariants.{Fresh, SnapshotOf, CloneOf}
use Rattle.object_id.specs.declared.entry.Entry.{Entry}
use Rattle.object_id.specs.declared.entry.Entry.TheVariants.{Leave, Reserve, Publish, Clone, Snapshot, Delete, Lock, Unlock}
use Rattle.disk_lock.specs.declared.holder.Holder.{Holder}
use Rattle.vdi_directory.specs.declared.header.Header.{Header}
use Rattle.vdi_directory.specs.declared.effect.Source.{Source}
use Rattle.vdi_directory.specs.declared.effect.Source.TheVariants as sources
use Rattle.vdi_directory.specs.declared.effect.Reservation.{Reservation}
use Rattle.vdi_directory.specs.declared.effect.Effect.{Effect}
use Rattle.vdi_directory.specs.declared.effect.Effect.TheVariants as effects
use Rattle.vdi_directory.specs.declared.decision.Decision.TheVariants as decisions
use Rattle.vdi_directory.specs.declared.decision.Outcome.{Outcome}
use Rattle.vdi_directory.specs.Vids.{free_id}
use Rattle.vdi_directory.specs.Names.{count_risen, is_live_name, snapshot_with_tag}
use Rattle.vdi_directory.specs.Sources.{is_for, tag_for}
use Rattle.vdi_directory.specs.Effects.{grants, is_used, header_of, name_of, reservations_of, reservation_on, holder_of}
use Rattle.vdi_directory.specs.Decisions.{nothing, silent_outcome, grant_outcome, refusal_outcome, outcome, log_effects, decision_after, disk_found, or_full, grant_of, with_spec, reservation_outcome, reserved_snapshot, reserved_clone, reserve_outcome, publication, replacement, snapshot_outcome, deletion, lock, target, held_disk, is_held_by, is_reserved_by, is_taken}
use Rattle.vdi_directory.specs.States.{owner_of}
use Rattle.vdi_directory.specs.Sound.{IsSound}
use Rattle.vdi_directory.proofs.StateLemmas.{log_effects-push, is_used-push, header_of-push}
use Rattle.vdi_directory.proofs.LawfulEntries.{in-find, snapshot_with_tag-is, target-tagged, free-is, sound-log_effects}
use Rattle.vdi_directory.proofs.LineLemmas.{line-log_effects}

same-grant_outcome : (a b : Vid) → decisions.Granted a ≡ decisions.Granted b → a ≡ b
same-grant_outcome a b is = cc

header-some : (header : Option Header) → is_some header ≡ true → (h : Header) × (header ≡ Some h)
header-some None is = cc
header-some (Some h) is = (h, refl)

module _ (before : List Effect) where
  -- an id that an outcome grants is used then
  Known : Outcome → Type 0
  Known o = (vid : Vid) → o.decision ≡ decisions.Granted vid → is_used (before ++ o.effect ∷ []) vid.0 ≡ true

  known-if : (b : Bool) (x y : Outcome) → Known x → Known y → Known (cond b x y)
  known-if true x y one two = one
  known-if false x y one two = two

  nothing-known : Known nothing
  unfolding Known
  nothing-known vid is = cc

  silent-known : (effect : Effect) → Known (silent_outcome effect)
  unfolding Known
  silent-known effect vid is = cc

  refused-known : (cause : Cause) → Known (refusal_outcome cause)
  unfolding Known
  refused-known cause vid is = cc

  granted-known : (vid : Vid) (effect : Effect) → (is_used before vid.0 || grants vid.0 effect) ≡ true → Known (grant_outcome vid effect)
  unfolding Known
  granted-known vid effect used other is =
      ap (λ (v : Vid). is_used (before ++ effect ∷ []) v.0) (sym (same-grant_outcome vid other is)) ∙ is_used-push before effect vid.0 ∙ used

  used-known : (vid : Vid) (effect : Effect) → is_used before vid.0 ≡ true → Known (grant_outcome vid effect)
  used-known vid effect used = granted-known vid effect (or_left (is_used before vid.0) (grants vid.0 effect) used)

  known-full : (by : NodeId) (session : ℕ) (name : List ℕ) (source : Source) (parent : Option Vid) (spec : VdiSpec) (free : Option ℕ)
      → Known (or_full free (grant_of before by session name source parent spec))
  known-full by session name source parent spec None = refused-known causes.FullVdi
  known-full by session name source parent spec (Some vid) =
      granted-known (record { 0 = vid }) (grant_of before by session name source parent spec vid).effect
      (or_right (is_used before vid) (vid == vid) (eq-eqb vid vid refl))

  known-reserved : (by : NodeId) (session : ℕ) (name : List ℕ) (source : Source) (parent : Option Vid) (spec : VdiSpec)
      → Known (reservation_outcome before by session name source parent spec)
  known-reserved by session name source parent spec = known-full by session name source parent spec (free_id name (is_used before))

  known-spec : (header : Option Header) (make : VdiSpec → Outcome) → ((spec : VdiSpec) → Known (make spec)) → Known (with_spec header make)
  known-spec None make each = nothing-known
  known-spec (Some header) make each = each header.spec

  known-snapshot : (by : NodeId) (session : ℕ) (name tag : List ℕ) (held : Option Vid) → Known (reserved_snapshot before by session name tag held)
  known-snapshot by session name tag None = refused-known causes.VdiNotLocked
  known-snapshot by session name tag (Some old) =
      known-if (is_some (snapshot_with_tag tag (name_of before name))) (refusal_outcome causes.VdiExist)
      (with_spec (header_of before old.0) (reservation_outcome before by session name (sources.Snapshot old tag) (Some old))) (refused-known causes.VdiExist)
      (known-spec (header_of before old.0) (reservation_outcome before by session name (sources.Snapshot old tag) (Some old))
      (known-reserved by session name (sources.Snapshot old tag) (Some old)))

  known-clone : (by : NodeId) (session : ℕ) (name : List ℕ) (base : Option Vid) → Known (reserved_clone before by session name base)
  known-clone by session name None = refused-known causes.NoTag
  known-clone by session name (Some base) =
      known-if (is_taken before name) (refusal_outcome causes.VdiExist)
      (with_spec (header_of before base.0) (reservation_outcome before by session name sources.Clone (Some base))) (refused-known causes.VdiExist)
      (known-spec (header_of before base.0) (reservation_outcome before by session name sources.Clone (Some base))
      (known-reserved by session name sources.Clone (Some base)))

  known-reservation : (by : NodeId) (session : ℕ) (name : List ℕ) (origin : Origin) → Known (reserve_outcome before by session name origin)
  known-reservation by session name (Fresh spec) =
      known-if (is_taken before name) (refusal_outcome causes.VdiExist) (reservation_outcome before by session name sources.Fresh None spec)
      (refused-known causes.VdiExist) (known-reserved by session name sources.Fresh None spec)
  known-reservation by session name (SnapshotOf tag) = known-snapshot by session name tag (held_disk before by session (name_of before name).working)
  known-reservation by session name (CloneOf base tag) =
      known-if (is_live_name (name_of before base)) (reserved_clone before by session name (snapshot_with_tag tag (name_of before base))) (refusal_outcome causes.NoBaseVdi)
      (known-clone by session name (snapshot_with_tag tag (name_of before base))) (refused-known causes.NoBaseVdi)

  -- the header of the id that an outcome grants has the parent
  HasParent : Option Vid → Outcome → Type 0
  HasParent from o = (vid : Vid) → o.decision ≡ decisions.Granted vid
      → (header : Header) × (parent : Vid) × (header_of (before ++ o.effect ∷ []) vid.0 ≡ Some header) × (header.parent ≡ Some parent) × (from ≡ Some parent)

  parent-if : (from : Option Vid) (b : Bool) (x y : Outcome) → HasParent from x → HasParent from y → HasParent from (cond b x y)
  parent-if from true x y one two = one
  parent-if from false x y one two = two

  refused-parent : (from : Option Vid) (cause : Cause) → HasParent from (refusal_outcome cause)
  unfolding HasParent
  refused-parent from cause vid is = cc

  parent-full : (by : NodeId) (session : ℕ) (name : List ℕ) (source : Source) (parent : Vid) (spec : VdiSpec) (free : Option ℕ)
      → HasParent (Some parent) (or_full free (grant_of before by session name source (Some parent) spec))
  unfolding HasParent
  parent-full by session name source parent spec None vid is = cc
  parent-full by session name source parent spec (Some new) vid is = (
    header,
    parent,
    ap (λ (v : Vid). header_of (before ++ effect ∷ []) v.0) (sym (same-grant_outcome (record { 0 = new }) vid is))
        ∙ header_of-push before effect new ∙ ap (λ b. cond b (Some header) (header_of before new)) (eq-eqb new new refl),
    refl,
    refl,
  )
    where
      effect : Effect
      effect = (grant_of before by session name source (Some parent) spec new).effect

      header : Header
      header = record { name = name; tag = []; snap_id = count_risen (name_of before name).taken; parent = Some parent; spec = spec }

  parent-spec : (by : NodeId) (session : ℕ) (name : List ℕ) (source : Source) (parent : Vid) (header : Option Header)
      → HasParent (Some parent) (with_spec header (reservation_outcome before by session name source (Some parent)))
  unfolding HasParent
  parent-spec by session name source parent None vid is = cc
  parent-spec by session name source parent (Some header) vid is =
      parent-full by session name source parent header.spec (free_id name (is_used before)) vid is

  parent-snapshot : (by : NodeId) (session : ℕ) (name tag : List ℕ) (held : Option Vid) → HasParent held (reserved_snapshot before by session name tag held)
  parent-snapshot by session name tag None = refused-parent None causes.VdiNotLocked
  parent-snapshot by session name tag (Some old) =
      parent-if (Some old) (is_some (snapshot_with_tag tag (name_of before name))) (refusal_outcome causes.VdiExist)
      (with_spec (header_of before old.0) (reservation_outcome before by session name (sources.Snapshot old tag) (Some old))) (refused-parent (Some old) causes.VdiExist)
      (parent-spec by session name (sources.Snapshot old tag) old (header_of before old.0))

  parent-clone : (by : NodeId) (session : ℕ) (name : List ℕ) (base : Option Vid) → HasParent base (reserved_clone before by session name base)
  parent-clone by session name None = refused-parent None causes.NoTag
  parent-clone by session name (Some base) =
      parent-if (Some base) (is_taken before name) (refusal_outcome causes.VdiExist)
      (with_spec (header_of before base.0) (reservation_outcome before by session name sources.Clone (Some base))) (refused-parent (Some base) causes.VdiExist)
      (parent-spec by session name sources.Clone base (header_of before base.0))

  clone-parent : (by : NodeId) (session : ℕ) (name base tag : List ℕ)
      → HasParent (snapshot_with_tag tag (name_of before base)) (reserve_outcome before by session name (CloneOf base tag))
  clone-parent by session name base tag =
      parent-if (snapshot_with_tag tag (name_of before base)) (is_live_name (name_of before base))
      (reserved_clone before by session name (snapshot_with_tag tag (name_of before base))) (refusal_outcome causes.NoBaseVdi)
      (parent-clone by session name (snapshot_with_tag tag (name_of before base))) (refused-parent (snapshot_with_tag tag (name_of before base)) causes.NoBaseVdi)

  module _ (sound : IsSound before) where
    owned-used : (vid : ℕ) (name : List ℕ) → owner_of before vid ≡ Some name → is_used before vid ≡ true
    owned-used vid name owner = by_test (is_used before vid) refl
      where
        none : None ≡ Some name → ⊥
        none e = cc

        by_test : (b : Bool) → is_used before vid ≡ b → is_used before vid ≡ true
        by_test true is = is
        by_test false out = absurd (none (sym (sound.unknown vid out) ∙ owner))

    reservation-used : (vid : Vid) (reservation : Reservation) → reservation_on vid (reservations_of before) ≡ Some reservation → is_used before reservation.vid.0 ≡ true
    reservation-used vid reservation there =
        owned-used reservation.vid.0 reservation.name
        (sound.reservations reservation ((in-find (λ (c : Reservation). c.vid.0 == vid.0) reservation (reservations_of before) there).0)).owner

    known-publication : (by : NodeId) (clones : Bool) (vid : Vid) (reservation : Option Reservation) → reservation_on vid (reservations_of before) ≡ reservation
        → Known (publication by (is_for clones) reservation)
    known-publication by clones vid None there = nothing-known
    known-publication by clones vid (Some reservation) there =
        known-if (reservation.by.0 == by.0 && is_for clones reservation.source) (grant_outcome reservation.vid (effects.Published reservation.vid reservation.name)) nothing
        (used-known reservation.vid (effects.Published reservation.vid reservation.name) (reservation-used vid reservation there)) nothing-known

    known-replacement : (reservation : Reservation) (old : Vid) (tag : Option (List ℕ)) (holder : Option Holder) → is_used before reservation.vid.0 ≡ true
        → Known (replacement reservation old tag holder)
    known-replacement reservation old None holder used = nothing-known
    known-replacement reservation old (Some tag) None used = nothing-known
    known-replacement reservation old (Some tag) (Some holder) used = used-known reservation.vid (replacement reservation old (Some tag) (Some holder)).effect used

    known-snap : (by : NodeId) (old vid : Vid) (reservation : Option Reservation) → reservation_on vid (reservations_of before) ≡ reservation → Known (snapshot_outcome before by old reservation)
    known-snap by old vid None there = nothing-known
    known-snap by old vid (Some reservation) there =
        known-if (reservation.by.0 == by.0) (replacement reservation old (tag_for old reservation.source) (holder_of before old.0)) nothing
        (known-replacement reservation old (tag_for old reservation.source) (holder_of before old.0) (reservation-used vid reservation there)) nothing-known

    target-used : (name : List ℕ) (tag : Option (List ℕ)) (vid : Vid) → target before name tag ≡ Ok vid → is_used before vid.0 ≡ true
    target-used name None vid is =
        owned-used vid.0 name (sound.working name vid ((free-is before sound (name_of before name).working vid is).0)).owner
    target-used name (Some tag) vid is =
        let live_snapshot = snapshot_with_tag-is tag (name_of before name) vid
        (target-tagged before sound (is_live_name (name_of before name)) (snapshot_with_tag tag (name_of before name)) vid is) in
        ap (λ (v : Vid). is_used before v.0) (sym live_snapshot.2) ∙ owned-used (live_snapshot.0).vid.0 name (sound.live_snapshots name live_snapshot.0 live_snapshot.1).owner

    known-deletion : (name : List ℕ) (tag : Option (List ℕ)) (of : Result Vid Cause) → target before name tag ≡ of → Known (deletion name of)
    known-deletion name tag (Err cause) is = refused-known cause
    known-deletion name tag (Ok vid) is = used-known vid (effects.Deleted vid name) (target-used name tag vid is)

    known-lock : (holder : Holder) (name : List ℕ) (tag : Option (List ℕ)) (of : Result Vid Cause) → target before name tag ≡ of
        → Known (lock holder (is_some tag) of)
    known-lock holder name tag (Err cause) is = refused-known cause
    known-lock holder name tag (Ok vid) is =
        known-if (is_some tag) (grant_outcome vid effects.Nothing) (grant_outcome vid (effects.Held vid holder))
        (used-known vid effects.Nothing (target-used name tag vid is)) (used-known vid (effects.Held vid holder) (target-used name tag vid is))

    known-outcome : (entry : Entry) → Known (outcome before entry)
    known-outcome (Leave node) = silent-known (effects.Left node)
    known-outcome (Reserve by session name origin) = known-reservation by session name origin
    known-outcome (Publish by vid) = known-publication by false vid (reservation_on vid (reservations_of before)) refl
    known-outcome (Clone by vid) = known-publication by true vid (reservation_on vid (reservations_of before)) refl
    known-outcome (Snapshot by old vid) = known-snap by old vid (reservation_on vid (reservations_of before)) refl
    known-outcome (Delete by session name tag) = known-deletion name tag (target before name tag) refl
    known-outcome (Lock by session name tag) = known-lock (record { node = by; session = session }) name tag (target before name tag) refl
    known-outcome (Unlock by session vid) =
        known-if (is_held_by by session (holder_of before vid.0)) (silent_outcome (effects.Freed vid))
        (cond (is_reserved_by by session (reservation_on vid (reservations_of before))) (silent_outcome (effects.Withdrawn vid)) nothing)
        (silent-known (effects.Freed vid))
        (known-if (is_reserved_by by session (reservation_on vid (reservations_of before))) (silent_outcome (effects.Withdrawn vid)) nothing
        (silent-known (effects.Withdrawn vid)) nothing-known)
    known-outcome entry = nothing-known

pub header-grant_outcome : (entries : List Entry) (entry : Entry) (vid : Vid) → decision_after entries entry ≡ decisions.Granted vid
    → (header : Header) × (header_of (log_effects (entries ++ entry ∷ [])) vid.0 ≡ Some header)
unfolding Known
header-grant_outcome entries entry vid is =
    header-some (header_of (log_effects (entries ++ entry ∷ [])) vid.0) (
    sym ((line-log_effects (entries ++ entry ∷ [])).known vid.0)
    ∙ ap (λ (before : List Effect). is_used before vid.0) (log_effects-push entries entry)
    ∙ known-outcome (log_effects entries) (sound-log_effects entries) entry vid is
    )

module _ (entries : List Entry) (by : NodeId) (session : ℕ) (name : List ℕ) (vid : Vid) where
  -- the granted id's header has the parent
  abbrev IsFrom : Option Vid → List Entry → Type 0
  IsFrom from read = (header : Header) × (parent : Vid) × (header_of (log_effects read) vid.0 ≡ Some header) × (header.parent ≡ Some parent) × (from ≡ Some parent)

  from-after : (entry : Entry) (from : Option Vid) → HasParent (log_effects entries) from (outcome (log_effects entries) entry)
      → decision_after entries entry ≡ decisions.Granted vid → IsFrom from (entries ++ entry ∷ [])
  unfolding HasParent
  from-after entry from has is =
      let known = has vid is in
      (known.0, known.1, ap (λ (before : List Effect). header_of before vid.0) (log_effects-push entries entry) ∙ known.2, known.3, known.4)

  pub clone-granted : (base tag : List ℕ) → decision_after entries (Reserve by session name (CloneOf base tag)) ≡ decisions.Granted vid
      → IsFrom (disk_found entries base (Some tag)) (entries ++ Reserve by session name (CloneOf base tag) ∷ [])
  clone-granted base tag is =
      from-after (Reserve by session name (CloneOf base tag)) (disk_found entries base (Some tag)) (clone-parent (log_effects entries) by session name base tag) is

  pub snapshot-granted : (tag : List ℕ) → decision_after entries (Reserve by session name (SnapshotOf tag)) ≡ decisions.Granted vid
      → IsFrom (held_disk (log_effects entries) by session (disk_found entries name None)) (entries ++ Reserve by session name (SnapshotOf tag) ∷ [])
  snapshot-granted tag is =
      from-after (Reserve by session name (SnapshotOf tag)) (held_disk (log_effects entries) by session (disk_found entries name None))
      (parent-snapshot (log_effects entries) by session name tag (held_disk (log_effects entries) by session (disk_found entries name None))) is
