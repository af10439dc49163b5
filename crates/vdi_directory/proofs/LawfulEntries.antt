-- Whatever an entry does may come there, so what is true of whatever entries did is true of all of them.
use Rattle.std.proofs.Common.{◌≡◌, inl, inr, ℕ, ◌==◌, ◌&&◌, Bool, true, false, cond, List, [], ◌∷◌, fold, Option, Some, None, is_some, Result, Ok, Err, refl, ap, sym, ◌∙◌, subst, arith}
use Rattle.std.specs.List.{find}
use Rattle.std.specs.Option.{option_map}
use Rattle.std.proofs.lemmas.Bool.{eqb-true, and_parts}
use Rattle.object_id.specs.declared.oid.Vid.{Vid}
use Rattle.object_id.specs.declared.node.NodeId.{NodeId}
use Rattle.object_id.specs.declared.cause.Cause.{Cause}
use Rattle.object_id.specs.declared.cause.Cause.TheVariants as causes
use Rattle.object_id.specs.declared.entry.VdiSpec.{VdiSpec}
use Rattle.object_id.specs.declared.entry.Origin.{Origin}
use Rattle.object_id.specs.declared.entry.Origin.TheVariants.{Fresh, SnapshotOf, CloneOf}
use Rattle.object_id.specs.declared.entry.Entry.{Entry}
use Rattle.object_id.specs.declared.entry.Entry.TheVariants.{Reserve, Publish, Clone, Snapshot, Delete, Lock, Unlock}
use Rattle.disk_lock.specs.declared.holder.Holder.{Holder}
use Rattle.vdi_directory.specs.declared.header.Header.{Header}
use Rattle.vdi_directory.specs.declared.live_snapshot.LiveSnapshot.{LiveSnapshot}
use Rattle.vdi_directory.specs.declared.effect.Source.{Source}
use Rattle.vdi_directory.specs.declared.effect.Source.TheVariants as sources
use Rattle.vdi_directory.specs.declared.effect.Reservation.{Reservation}
use Rattle.vdi_directory.specs.declared.effect.Effect.{Effect}
use Rattle.vdi_directory.specs.declared.effect.Effect.TheVariants as effects
use Rattle.vdi_directory.specs.declared.decision.Outcome.{Outcome}
use Rattle.vdi_directory.specs.Vids.{free_id}
use Rattle.vdi_directory.specs.Names.{Name, is_live_name, snapshot_with_tag, has_tag}
use Rattle.vdi_directory.specs.Sources.{is_for, tag_for}
use Rattle.vdi_directory.specs.Effects.{is_used, header_of, name_of, reservations_of, reservation_on, holder_of}
use Rattle.vdi_directory.specs.Decisions.{nothing, silent_outcome, grant_outcome, refusal_outcome, outcome, happens, log_effects, or_full, grant_of, with_spec, reservation_outcome, reserved_snapshot, reserved_clone, reserve_outcome, publication, replacement, snapshot_outcome, deletion, lock, unheld, free_disk, or_no_tag, target, held_disk, is_held_by, is_reserved_by, is_taken}
use Rattle.vdi_directory.specs.States.{Reserved, state_of, is_live_state, owner_of}
use Rattle.vdi_directory.specs.Sound.{In, OwnsBase, IsParent, takes_name, HasRoom, IsReservation, IsWorking, IsNameTaken, IsSound, IsLawful}
use Rattle.vdi_directory.proofs.StateLemmas.{free_id-is}
use Rattle.vdi_directory.proofs.SoundEffects.{sound-push}

pub in-find : {X : Type 0} (p : X → Bool) (x : X) (xs : List X) → find p xs ≡ Some x → In x xs × (p x ≡ true)
in-find p x [] is = cc
in-find p x (y ∷ ys) is = by_test (p y) refl is (in-find p x ys)
  where
    by_test : (b : Bool) → p y ≡ b → cond b (Some y) (find p ys) ≡ Some x → (find p ys ≡ Some x → In x ys × (p x ≡ true)) → In x (y ∷ ys) × (p x ≡ true)
    by_test true here is later = let same : y ≡ x = cc in (inl same, ap p (sym same) ∙ here)
    by_test false there is later = (inr ((later is).0), (later is).1)

tag_for-is : (before : List Effect) (name : List ℕ) (old : Vid) (source : Source) (tag : List ℕ) → OwnsBase before name source → tag_for old source ≡ Some tag
    → owner_of before old.0 ≡ Some name
tag_for-is before name old sources.Fresh tag base is = cc
tag_for-is before name old (sources.Snapshot of other) tag base is = by_test (of.0 == old.0) refl is
  where
    by_test : (b : Bool) → (of.0 == old.0) ≡ b → cond b (Some other) None ≡ Some tag → owner_of before old.0 ≡ Some name
    by_test true same is = ap (owner_of before) (sym (eqb-true of.0 old.0 same)) ∙ base
    by_test false apart is = cc
tag_for-is before name old sources.Clone tag base is = cc

pub snapshot_with_tag-is : (tag : List ℕ) (name : Name) (vid : Vid) → snapshot_with_tag tag name ≡ Some vid → (live_snapshot : LiveSnapshot) × In live_snapshot name.live_snapshots × (live_snapshot.vid ≡ vid)
snapshot_with_tag-is tag name vid is = by_found (find (has_tag tag) name.live_snapshots) refl is
  where
    by_found : (found : Option LiveSnapshot) → find (has_tag tag) name.live_snapshots ≡ found → option_map (λ (live_snapshot : LiveSnapshot). live_snapshot.vid) found ≡ Some vid
        → (live_snapshot : LiveSnapshot) × In live_snapshot name.live_snapshots × (live_snapshot.vid ≡ vid)
    by_found None there is = cc
    by_found (Some live_snapshot) there is = (live_snapshot, (in-find (has_tag tag) live_snapshot name.live_snapshots there).0, cc)

module _ (before : List Effect) (sound : IsSound before) where
  Lawful : Outcome → Type 0
  Lawful o = IsLawful before o.effect

  lawful-if : (b : Bool) (x y : Outcome) → Lawful x → Lawful y → Lawful (cond b x y)
  lawful-if true x y one two = one
  lawful-if false x y one two = two

  lawful-else : (b : Bool) (x y : Outcome) → Lawful x → (b ≡ false → Lawful y) → Lawful (cond b x y)
  lawful-else true x y one two = one
  lawful-else false x y one two = two refl

  lawful-then : (b : Bool) (x y : Outcome) → (b ≡ true → Lawful x) → Lawful y → Lawful (cond b x y)
  lawful-then true x y one two = one refl
  lawful-then false x y one two = two

  lawful-full : (by : NodeId) (session : ℕ) (name : List ℕ) (source : Source) (parent : Option Vid) (spec : VdiSpec) (found : Option ℕ)
      → OwnsBase before name source → IsParent before parent → HasRoom before name source → free_id name (is_used before) ≡ found → Lawful (or_full found (grant_of before by session name source parent spec))
  unfolding Lawful
  lawful-full by session name source parent spec None base live room free = tt
  lawful-full by session name source parent spec (Some vid) base live room free =
      let id = free_id-is name (is_used before) vid free in
      ((id.0, omega (arith, id.1)), id.2, refl, base, live, room)

  lawful-reserved : (by : NodeId) (session : ℕ) (name : List ℕ) (source : Source) (parent : Option Vid) → OwnsBase before name source → IsParent before parent
      → HasRoom before name source → (spec : VdiSpec) → Lawful (reservation_outcome before by session name source parent spec)
  lawful-reserved by session name source parent base live room spec =
      lawful-full by session name source parent spec (free_id name (is_used before)) base live room refl

  lawful-spec : (header : Option Header) (make : VdiSpec → Outcome) → ((spec : VdiSpec) → Lawful (make spec)) → Lawful (with_spec header make)
  unfolding Lawful
  lawful-spec None make each = tt
  lawful-spec (Some header) make each = each header.spec

  refused-lawful : (cause : Cause) → Lawful (refusal_outcome cause)
  unfolding Lawful
  refused-lawful cause = tt

  nothing-lawful : Lawful nothing
  unfolding Lawful
  nothing-lawful = tt

  lawful-snapshot : (by : NodeId) (session : ℕ) (name tag : List ℕ) (held : Option Vid) → ((old : Vid) → held ≡ Some old → IsWorking before name old.0)
      → ((old : Vid) → held ≡ Some old → (name_of before name).working ≡ Some old) → Lawful (reserved_snapshot before by session name tag held)
  lawful-snapshot by session name tag None owner room = refused-lawful causes.VdiNotLocked
  lawful-snapshot by session name tag (Some old) owner room =
      lawful-if (is_some (snapshot_with_tag tag (name_of before name))) (refusal_outcome causes.VdiExist)
      (with_spec (header_of before old.0) (reservation_outcome before by session name (sources.Snapshot old tag) (Some old))) (refused-lawful causes.VdiExist)
      (lawful-spec (header_of before old.0) (reservation_outcome before by session name (sources.Snapshot old tag) (Some old))
      (lawful-reserved by session name (sources.Snapshot old tag) (Some old) ((owner old refl).owner) (ap is_live_state ((owner old refl).state)) (room old refl)))

  lawful-clone : (by : NodeId) (session : ℕ) (name : List ℕ) (base : Option Vid) → ((from : Vid) → base ≡ Some from → IsParent before (Some from)) → Lawful (reserved_clone before by session name base)
  lawful-clone by session name None live = refused-lawful causes.NoTag
  lawful-clone by session name (Some base) live =
      lawful-else (is_taken before name) (refusal_outcome causes.VdiExist)
      (with_spec (header_of before base.0) (reservation_outcome before by session name sources.Clone (Some base))) (refused-lawful causes.VdiExist)
      (λ room. lawful-spec (header_of before base.0) (reservation_outcome before by session name sources.Clone (Some base))
      (lawful-reserved by session name sources.Clone (Some base) tt (live base refl) room))

  held-owner : (by : NodeId) (session : ℕ) (name : List ℕ) (working : Option Vid) (old : Vid) → (name_of before name).working ≡ working
      → held_disk before by session working ≡ Some old → IsWorking before name old.0
  held-owner by session name None old is held = cc
  held-owner by session name (Some vid) old is held = by_test (is_held_by by session (holder_of before vid.0)) held
    where
      by_test : (b : Bool) → cond b (Some vid) None ≡ Some old → IsWorking before name old.0
      by_test true held = let same : vid ≡ old = cc in subst (λ (v : Vid). IsWorking before name v.0) same (sound.working name vid is)
      by_test false held = cc

  held-is : (by : NodeId) (session : ℕ) (working : Option Vid) (old : Vid) → held_disk before by session working ≡ Some old → working ≡ Some old
  held-is by session None old held = cc
  held-is by session (Some vid) old held = by_test (is_held_by by session (holder_of before vid.0)) held
    where
      by_test : (b : Bool) → cond b (Some vid) None ≡ Some old → Some vid ≡ Some old
      by_test true held = held
      by_test false held = cc

  tagged-live : (base tag : List ℕ) (from : Vid) → snapshot_with_tag tag (name_of before base) ≡ Some from → is_live_state (state_of before from.0) ≡ true
  tagged-live base tag from is =
      let found = snapshot_with_tag-is tag (name_of before base) from is in
      let taken = sound.live_snapshots base found.0 found.1 in
      ap (λ (v : Vid). is_live_state (state_of before v.0)) (sym found.2) ∙ ap is_live_state ((taken.state).1)

  lawful-reservation : (by : NodeId) (session : ℕ) (name : List ℕ) (origin : Origin) → Lawful (reserve_outcome before by session name origin)
  lawful-reservation by session name (Fresh spec) =
      lawful-else (is_taken before name) (refusal_outcome causes.VdiExist) (reservation_outcome before by session name sources.Fresh None spec) (refused-lawful causes.VdiExist)
      (λ room. lawful-reserved by session name sources.Fresh None tt tt room spec)
  lawful-reservation by session name (SnapshotOf tag) =
      lawful-snapshot by session name tag (held_disk before by session (name_of before name).working)
      (λ old held. held-owner by session name (name_of before name).working old refl held)
      (λ old held. held-is by session (name_of before name).working old held)
  lawful-reservation by session name (CloneOf base tag) =
      lawful-if (is_live_name (name_of before base)) (reserved_clone before by session name (snapshot_with_tag tag (name_of before base))) (refusal_outcome causes.NoBaseVdi)
      (lawful-clone by session name (snapshot_with_tag tag (name_of before base)) (λ from is. tagged-live base tag from is)) (refused-lawful causes.NoBaseVdi)

  for-new : (clones : Bool) (source : Source) → is_for clones source ≡ true → takes_name source ≡ true
  for-new clones sources.Fresh is = refl
  for-new clones (sources.Snapshot old tag) is = is
  for-new clones sources.Clone is = refl

  lawful-publication : (by : NodeId) (clones : Bool) (vid : Vid) (reservation : Option Reservation) → reservation_on vid (reservations_of before) ≡ reservation
      → Lawful (publication by (is_for clones) reservation)
  unfolding Lawful
  lawful-publication by clones vid None there = tt
  lawful-publication by clones vid (Some reservation) there =
      let place = (in-find (λ (c : Reservation). c.vid.0 == vid.0) reservation (reservations_of before) there).0 in
      let is = sound.reservations reservation place in
      lawful-then (reservation.by.0 == by.0 && is_for clones reservation.source) (grant_outcome reservation.vid (effects.Published reservation.vid reservation.name)) nothing
      (λ right. (
        (reservation.by, is.state),
        is.owner,
        (reservation, place, refl, refl, for-new clones reservation.source ((and_parts (reservation.by.0 == by.0) (is_for clones reservation.source) right).1)),
      )) tt

  lawful-replacement : (reservation : Reservation) (old : Vid) (tag : Option (List ℕ)) (holder : Option Holder) → IsReservation before reservation
      → tag_for old reservation.source ≡ tag → holder_of before old.0 ≡ holder → Lawful (replacement reservation old tag holder)
  unfolding Lawful
  lawful-replacement reservation old None holder is tag_is held = tt
  lawful-replacement reservation old (Some tag) None is tag_is held = tt
  lawful-replacement reservation old (Some tag) (Some holder) is tag_is held = (
    record {
      state = sound.held old.0 holder held;
      owner = tag_for-is before reservation.name old reservation.source tag is.base tag_is;
    },
    (reservation.by, is.state),
    is.owner,
    held,
  )

  lawful-snap : (by : NodeId) (old vid : Vid) (reservation : Option Reservation) → reservation_on vid (reservations_of before) ≡ reservation → Lawful (snapshot_outcome before by old reservation)
  lawful-snap by old vid None there = nothing-lawful
  lawful-snap by old vid (Some reservation) there =
      let is = sound.reservations reservation ((in-find (λ (c : Reservation). c.vid.0 == vid.0) reservation (reservations_of before) there).0) in
      lawful-if (reservation.by.0 == by.0) (replacement reservation old (tag_for old reservation.source) (holder_of before old.0)) nothing
      (lawful-replacement reservation old (tag_for old reservation.source) (holder_of before old.0) is refl refl) nothing-lawful

  -- which disk is meant
  pub free-is : (working : Option Vid) (vid : Vid) → free_disk before working ≡ Ok vid → (working ≡ Some vid) × (holder_of before vid.0 ≡ None)
  free-is None vid is = cc
  free-is (Some now) vid is = by_holder (holder_of before now.0) refl is
    where
      by_holder : (holder : Option Holder) → holder_of before now.0 ≡ holder → unheld now holder ≡ Ok vid → (Some now ≡ Some vid) × (holder_of before vid.0 ≡ None)
      by_holder None free is = let same : now ≡ vid = cc in (ap Some same, ap (λ (v : Vid). holder_of before v.0) (sym same) ∙ free)
      by_holder (Some holder) held is = cc

  tag-found : (found : Option Vid) (vid : Vid) → or_no_tag found ≡ Ok vid → found ≡ Some vid
  tag-found None vid is = cc
  tag-found (Some now) vid is = cc

  pub target-tagged : (b : Bool) (found : Option Vid) (vid : Vid) → cond b (or_no_tag found) (Err causes.NoVdi) ≡ Ok vid → found ≡ Some vid
  target-tagged true found vid is = tag-found found vid is
  target-tagged false found vid is = cc

  lawful-deletion : (name : List ℕ) (tag : Option (List ℕ)) (of : Result Vid Cause) → target before name tag ≡ of → Lawful (deletion name of)
  unfolding Lawful
  lawful-deletion name tag (Err cause) is = tt
  lawful-deletion name None (Ok vid) is =
      let found = free-is (name_of before name).working vid is in
      inl (sound.working name vid found.0, found.1)
  lawful-deletion name (Some tag) (Ok vid) is =
      let found = snapshot_with_tag-is tag (name_of before name) vid (target-tagged (is_live_name (name_of before name)) (snapshot_with_tag tag (name_of before name)) vid is) in
      inr (subst (λ (v : Vid). IsNameTaken before name v.0) found.2 (sound.live_snapshots name found.0 found.1))

  lawful-lock : (holder : Holder) (name : List ℕ) (tag : Option (List ℕ)) (of : Result Vid Cause) → target before name tag ≡ of → Lawful (lock holder (is_some tag) of)
  unfolding Lawful
  lawful-lock holder name tag (Err cause) is = tt
  lawful-lock holder name None (Ok vid) is =
      let found = free-is (name_of before name).working vid is in
      ((sound.working name vid found.0).state, found.1)
  lawful-lock holder name (Some tag) (Ok vid) is = tt

  reserved-state : (by : NodeId) (session : ℕ) (vid : Vid) (reservation : Option Reservation) → reservation_on vid (reservations_of before) ≡ reservation
      → is_reserved_by by session reservation ≡ true → (of : NodeId) × (state_of before vid.0 ≡ Reserved of)
  reserved-state by session vid None there is = cc
  reserved-state by session vid (Some reservation) there is =
      let found = in-find (λ (c : Reservation). c.vid.0 == vid.0) reservation (reservations_of before) there in
      (reservation.by, ap (state_of before) (sym (eqb-true reservation.vid.0 vid.0 found.1)) ∙ (sound.reservations reservation found.0).state)

  lawful-release : (b c : Bool) (vid : Vid) → (c ≡ true → (of : NodeId) × (state_of before vid.0 ≡ Reserved of))
      → Lawful (cond b (silent_outcome (effects.Freed vid)) (cond c (silent_outcome (effects.Withdrawn vid)) nothing))
  unfolding Lawful
  lawful-release true c vid reserved = tt
  lawful-release false true vid reserved = reserved refl
  lawful-release false false vid reserved = tt

  pub lawful-outcome : (entry : Entry) → IsLawful before (outcome before entry).effect
  unfolding Lawful
  lawful-outcome (Reserve by session name origin) = lawful-reservation by session name origin
  lawful-outcome (Publish by vid) = lawful-publication by false vid (reservation_on vid (reservations_of before)) refl
  lawful-outcome (Clone by vid) = lawful-publication by true vid (reservation_on vid (reservations_of before)) refl
  lawful-outcome (Snapshot by old vid) = lawful-snap by old vid (reservation_on vid (reservations_of before)) refl
  lawful-outcome (Delete by session name tag) = lawful-deletion name tag (target before name tag) refl
  lawful-outcome (Lock by session name tag) = lawful-lock (record { node = by; session = session }) name tag (target before name tag) refl
  lawful-outcome (Unlock by session vid) =
      lawful-release (is_held_by by session (holder_of before vid.0)) (is_reserved_by by session (reservation_on vid (reservations_of before))) vid
      (reserved-state by session vid (reservation_on vid (reservations_of before)) refl)
  lawful-outcome entry = tt

sound-none : IsSound []
unfolding is_used header_of name_of reservations_of holder_of state_of
sound-none = record {
  unused = λ vid out. refl;
  unknown = λ vid out. refl;
  reservations = λ reservation there. absurd there;
  working = λ name vid is. cc;
  live_snapshots = λ name live_snapshot there. absurd there;
  held = λ vid holder is. cc;
}

sound-from : (before : List Effect) (entries : List Entry) → IsSound before → IsSound (fold happens before entries)
sound-from before [] sound = sound
sound-from before (entry ∷ entries) sound =
    sound-from (happens before entry) entries (sound-push before sound (outcome before entry).effect (lawful-outcome before sound entry))

-- what entries did is sound
pub sound-log_effects : (entries : List Entry) → IsSound (log_effects entries)
unfolding log_effects
sound-log_effects entries = sound-from [] entries sound-none
