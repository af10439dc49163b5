-- No two live snapshots of a name have one tag, and each has its tag in its header. A tag is free when an id is reserved for
-- a snapshot with it, and only a working disk becomes a snapshot: so the tag stays free until the disk gets it, or never can.
use Rattle.std.proofs.Common.{◌≡◌, ◌⊎◌, inl, inr, ℕ, ◌≤◌, ◌==◌, ◌&&◌, not, Bool, true, false, cond, List, [], ◌∷◌, ◌++◌, Option, Some, None, is_some, Result, Ok, Err, refl, ap, sym, ◌∙◌, subst, arith}
use Rattle.std.specs.List.{find}
use Rattle.std.specs.Option.{option_map}
use Rattle.std.specs.Ordering.{nat_cmp}
use Rattle.std.specs.BTreeMap.{get}
use Rattle.std.proofs.lemmas.Bool.{eqb-true, eq-eqb, ne_eqb, both_ways, cond_both}
use Rattle.object_id.specs.declared.oid.Vid.{Vid}
use Rattle.object_id.specs.declared.node.NodeId.{NodeId}
use Rattle.object_id.specs.declared.cause.Cause.{Cause}
use Rattle.object_id.specs.declared.cause.Cause.TheVariants as causes
use Rattle.object_id.specs.declared.entry.VdiSpec.{VdiSpec}
use Rattle.object_id.specs.declared.entry.Origin.{Origin}
use Rattle.object_id.specs.declared.entry.Origin.TheVariants.{Fresh, SnapshotOf, CloneOf}
use Rattle.object_id.specs.declared.entry.Entry.{Entry}
use Rattle.object_id.specs.declared.entry.Entry.TheVariants as the_entries
use Rattle.disk_lock.specs.declared.holder.Holder.{Holder}
use Rattle.vdi_directory.specs.declared.header.Header.{Header}
use Rattle.vdi_directory.specs.declared.live_snapshot.LiveSnapshot.{LiveSnapshot}
use Rattle.vdi_directory.specs.declared.effect.Source.{Source}
use Rattle.vdi_directory.specs.declared.effect.Source.TheVariants as sources
use Rattle.vdi_directory.specs.declared.effect.Reservation.{Reservation}
use Rattle.vdi_directory.specs.declared.effect.Snap.{Snap}
use Rattle.vdi_directory.specs.declared.effect.Effect.{Effect}
use Rattle.vdi_directory.specs.declared.effect.Effect.TheVariants as effects
use Rattle.vdi_directory.specs.declared.decision.Outcome.{Outcome}
use Rattle.vdi_directory.specs.declared.directory_state.DirectoryState.{DirectoryState}
use Rattle.vdi_directory.specs.Names.{Name, is_same_bytes, has_tag, is_live_name, snapshot_with_tag, name_with_working, name_with_snapshot, unless, name_without}
use Rattle.vdi_directory.specs.NameRows.{standing_of, standing_after}
use Rattle.vdi_directory.specs.Sources.{is_for, tag_for}
use Rattle.vdi_directory.specs.Effects.{grants, is_used, header_after, header_of, name_after, name_of, reservations_after, reservations_of, reservation_on, holder_of}
use Rattle.vdi_directory.specs.Decisions.{nothing, silent_outcome, grant_outcome, refusal_outcome, outcome, log_effects, or_full, grant_of, with_spec, reservation_outcome, reserved_snapshot, reserved_clone, reserve_outcome, publication, replacement, snapshot_outcome, deletion, lock, target, held_disk, is_held_by, is_reserved_by, is_taken}
use Rattle.vdi_directory.specs.Vids.{free_id}
use Rattle.vdi_directory.specs.States.{VdiState, Reserved, Working, Snapshot, rank, state_after, state_of, owner_of}
use Rattle.vdi_directory.specs.Sound.{In, HasRoom, IsWorking, IsSound, IsLawful}
use Rattle.vdi_directory.specs.DirectoryState.{IsDirectoryState, header_tag, HasItsTag}
use Rattle.vdi_directory.proofs.NameLemmas.{same-is, is-same}
use Rattle.vdi_directory.proofs.StateLemmas.{log_effects-none, header_of-push, name_of-push, reservations_of-push}
use Rattle.vdi_directory.proofs.SoundEffects.{state_of-push, in-filter, in-push, not-granted, other-id}
use Rattle.vdi_directory.proofs.LawfulEntries.{in-find, lawful-outcome, sound-log_effects}
use Rattle.vdi_directory.proofs.DecisionLaws.{kept-later, rank-grows}
use Rattle.vdi_directory.proofs.WorkingLemmas.{vid-is, some-vid, found-working}
use Rattle.vdi_directory.proofs.StandingLemmas.{vid_found, IsFreeTag, HaveOwnTags, free-none, none-free, KeepsTags, standing-after}

abbrev tag_of : Option Header → Option (List ℕ)
tag_of header = option_map (λ (h : Header). h.tag) header

abbrev snapshot_of : Snap → LiveSnapshot
snapshot_of snap = record { vid = snap.old; tag = snap.tag }

-- what is reserved for a snapshot was made of a published disk, and its tag is free as long as that disk is the working one
abbrev KeepsFree : List Effect → Name → Source → Type 0
KeepsFree before now sources.Fresh = Unit {0}
KeepsFree before now (sources.Snapshot old tag) = (2 ≤ rank (state_of before old.0)) × (now.working ≡ Some old → IsFreeTag tag now.live_snapshots)
KeepsFree before now sources.Clone = Unit {0}

record AreTagged (before : List Effect) : Type 0 where
  headers : (name : List ℕ) (live_snapshot : LiveSnapshot) → In live_snapshot (name_of before name).live_snapshots
      → tag_of (header_of before live_snapshot.vid.0) ≡ Some live_snapshot.tag
  own : (name : List ℕ) → HaveOwnTags (name_of before name).live_snapshots
  free : (reservation : Reservation) → In reservation (reservations_of before) → KeepsFree before (name_of before reservation.name) reservation.source

-- where a tag comes from: it is free when an id is reserved with it, and a disk gets that of the reservation
abbrev HasFreeTag : List Effect → List ℕ → Source → Type 0
HasFreeTag before name sources.Fresh = Unit {0}
HasFreeTag before name (sources.Snapshot old tag) = IsFreeTag tag (name_of before name).live_snapshots
HasFreeTag before name sources.Clone = Unit {0}

abbrev TakesTag : List Effect → Effect → Type 0
TakesTag before (effects.Reserved grant) = HasFreeTag before grant.reservation.name grant.reservation.source
TakesTag before (effects.Snapped snap) =
    (reservation : Reservation) × In reservation (reservations_of before) × (reservation.name ≡ snap.name)
    × (reservation.source ≡ sources.Snapshot snap.old snap.tag)
TakesTag before _ = Unit {0}

module _ (before : List Effect) where
  abbrev Takes : Outcome → Type 0
  Takes o = TakesTag before o.effect

  takes-else : (b : Bool) (x y : Outcome) → Takes x → (b ≡ false → Takes y) → Takes (cond b x y)
  takes-else true x y one two = one
  takes-else false x y one two = two refl

  takes-if : (b : Bool) (x y : Outcome) → Takes x → Takes y → Takes (cond b x y)
  takes-if b x y one two = takes-else b x y one (λ no. two)

  refused-takes : (cause : Cause) → Takes (refusal_outcome cause)
  refused-takes cause = tt

  takes-reserved : (by : NodeId) (session : ℕ) (name : List ℕ) (source : Source) (parent : Option Vid) → HasFreeTag before name source → (spec : VdiSpec)
      → Takes (reservation_outcome before by session name source parent spec)
  takes-reserved by session name source parent free spec = by_found (free_id name (is_used before))
    where
      by_found : (found : Option ℕ) → Takes (or_full found (grant_of before by session name source parent spec))
      by_found None = tt
      by_found (Some vid) = free

  takes-spec : (header : Option Header) (make : VdiSpec → Outcome) → ((spec : VdiSpec) → Takes (make spec)) → Takes (with_spec header make)
  takes-spec None make each = tt
  takes-spec (Some header) make each = each header.spec

  not-some : (found : Option Vid) → is_some found ≡ false → found ≡ None
  not-some None none = refl
  not-some (Some vid) none = cc

  takes-snapshot : (by : NodeId) (session : ℕ) (name tag : List ℕ) (held : Option Vid) → Takes (reserved_snapshot before by session name tag held)
  takes-snapshot by session name tag None = refused-takes causes.VdiNotLocked
  takes-snapshot by session name tag (Some old) =
      takes-else (is_some (snapshot_with_tag tag (name_of before name))) (refusal_outcome causes.VdiExist)
      (with_spec (header_of before old.0) (reservation_outcome before by session name (sources.Snapshot old tag) (Some old))) (refused-takes causes.VdiExist)
      (λ no. takes-spec (header_of before old.0) (reservation_outcome before by session name (sources.Snapshot old tag) (Some old))
      (takes-reserved by session name (sources.Snapshot old tag) (Some old)
      (none-free tag (name_of before name).live_snapshots (not-some (snapshot_with_tag tag (name_of before name)) no))))

  takes-clone : (by : NodeId) (session : ℕ) (name : List ℕ) (base : Option Vid) → Takes (reserved_clone before by session name base)
  takes-clone by session name None = refused-takes causes.NoTag
  takes-clone by session name (Some base) =
      takes-if (is_taken before name) (refusal_outcome causes.VdiExist)
      (with_spec (header_of before base.0) (reservation_outcome before by session name sources.Clone (Some base))) (refused-takes causes.VdiExist)
      (takes-spec (header_of before base.0) (reservation_outcome before by session name sources.Clone (Some base))
      (takes-reserved by session name sources.Clone (Some base) tt))

  takes-reservation : (by : NodeId) (session : ℕ) (name : List ℕ) (origin : Origin) → Takes (reserve_outcome before by session name origin)
  takes-reservation by session name (Fresh spec) =
      takes-if (is_taken before name) (refusal_outcome causes.VdiExist) (reservation_outcome before by session name sources.Fresh None spec) (refused-takes causes.VdiExist)
      (takes-reserved by session name sources.Fresh None tt spec)
  takes-reservation by session name (SnapshotOf tag) = takes-snapshot by session name tag (held_disk before by session (name_of before name).working)
  takes-reservation by session name (CloneOf base tag) =
      takes-if (is_live_name (name_of before base)) (reserved_clone before by session name (snapshot_with_tag tag (name_of before base))) (refusal_outcome causes.NoBaseVdi)
      (takes-clone by session name (snapshot_with_tag tag (name_of before base))) (refused-takes causes.NoBaseVdi)

  takes-publication : (by : NodeId) (is_right : Source → Bool) (reservation : Option Reservation) → Takes (publication by is_right reservation)
  takes-publication by is_right None = tt
  takes-publication by is_right (Some reservation) =
      takes-if (reservation.by.0 == by.0 && is_right reservation.source) (grant_outcome reservation.vid (effects.Published reservation.vid reservation.name)) nothing tt tt

  source-is : (old : Vid) (source : Source) (tag : List ℕ) → tag_for old source ≡ Some tag → source ≡ sources.Snapshot old tag
  source-is old sources.Fresh tag is = cc
  source-is old (sources.Snapshot of other) tag is = by_test (of.0 == old.0) refl is
    where
      by_test : (b : Bool) → (of.0 == old.0) ≡ b → cond b (Some other) None ≡ Some tag → sources.Snapshot of other ≡ sources.Snapshot old tag
      by_test true same is =
          let one : of ≡ old = vid-is of old (eqb-true of.0 old.0 same) in
          let two : other ≡ tag = cc in
          λ i. sources.Snapshot (one i) (two i)
      by_test false apart is = cc
  source-is old sources.Clone tag is = cc

  takes-replacement : (reservation : Reservation) (old : Vid) (tag : Option (List ℕ)) (holder : Option Holder) → In reservation (reservations_of before)
      → tag_for old reservation.source ≡ tag → Takes (replacement reservation old tag holder)
  takes-replacement reservation old None holder there is = tt
  takes-replacement reservation old (Some tag) None there is = tt
  takes-replacement reservation old (Some tag) (Some holder) there is = (reservation, there, refl, source-is old reservation.source tag is)

  takes-snap : (by : NodeId) (old vid : Vid) (reservation : Option Reservation) → reservation_on vid (reservations_of before) ≡ reservation
      → Takes (snapshot_outcome before by old reservation)
  takes-snap by old vid None there = tt
  takes-snap by old vid (Some reservation) there =
      takes-if (reservation.by.0 == by.0) (replacement reservation old (tag_for old reservation.source) (holder_of before old.0)) nothing
      (takes-replacement reservation old (tag_for old reservation.source) (holder_of before old.0)
      ((in-find (λ (c : Reservation). c.vid.0 == vid.0) reservation (reservations_of before) there).0) refl) tt

  takes-deletion : (name : List ℕ) (of : Result Vid Cause) → Takes (deletion name of)
  takes-deletion name (Ok vid) = tt
  takes-deletion name (Err cause) = tt

  takes-lock : (holder : Holder) (is_snapshot : Bool) (of : Result Vid Cause) → Takes (lock holder is_snapshot of)
  takes-lock holder is_snapshot (Ok vid) = takes-if is_snapshot (grant_outcome vid effects.Nothing) (grant_outcome vid (effects.Held vid holder)) tt tt
  takes-lock holder is_snapshot (Err cause) = tt

  takes-outcome : (entry : Entry) → TakesTag before (outcome before entry).effect
  takes-outcome (the_entries.Reserve by session name origin) = takes-reservation by session name origin
  takes-outcome (the_entries.Publish by vid) = takes-publication by (is_for false) (reservation_on vid (reservations_of before))
  takes-outcome (the_entries.Clone by vid) = takes-publication by (is_for true) (reservation_on vid (reservations_of before))
  takes-outcome (the_entries.Snapshot by old vid) = takes-snap by old vid (reservation_on vid (reservations_of before)) refl
  takes-outcome (the_entries.Delete by session name tag) = takes-deletion name (target before name tag)
  takes-outcome (the_entries.Lock by session name tag) = takes-lock (record { node = by; session = session }) (is_some tag) (target before name tag)
  takes-outcome (the_entries.Unlock by session vid) =
      takes-if (is_held_by by session (holder_of before vid.0)) (silent_outcome (effects.Freed vid))
      (cond (is_reserved_by by session (reservation_on vid (reservations_of before))) (silent_outcome (effects.Withdrawn vid)) nothing) tt
      (takes-if (is_reserved_by by session (reservation_on vid (reservations_of before))) (silent_outcome (effects.Withdrawn vid)) nothing tt tt)
  takes-outcome entry = tt

unless-is : (vid old : Vid) (working : Option Vid) → unless vid working ≡ Some old → working ≡ Some old
unless-is vid old None is = is
unless-is vid old (Some now) is = by_test (now.0 == vid.0) is
  where
    by_test : (b : Bool) → cond b None (Some now) ≡ Some old → Some now ≡ Some old
    by_test true is = cc
    by_test false is = is

-- one effect more
module _ (before : List Effect) (sound : IsSound before) (found : (name : List ℕ) (vid : Vid) → IsWorking before name vid.0 → (name_of before name).working ≡ Some vid)
    (tagged : AreTagged before) where
  -- a disk that gets a tag is alone with it
  tag-is-free : (snap : Snap) → IsLawful before (effects.Snapped snap) → TakesTag before (effects.Snapped snap) → IsFreeTag snap.tag (name_of before snap.name).live_snapshots
  tag-is-free snap lawful takes =
      let kept : KeepsFree before (name_of before (takes.0).name) (sources.Snapshot snap.old snap.tag)
      = subst (KeepsFree before (name_of before (takes.0).name)) takes.3 (tagged.free takes.0 takes.1) in
      subst (λ (name : List ℕ). IsFreeTag snap.tag (name_of before name).live_snapshots) takes.2
      (kept.1 (ap (λ (name : List ℕ). (name_of before name).working) takes.2 ∙ found snap.name snap.old lawful.0))

  -- a reserved id isn't what a snapshot is to be made of
  not-old : (vid old : Vid) (by : NodeId) → state_of before vid.0 ≡ Reserved by → 2 ≤ rank (state_of before old.0) → vid.0 ≡ old.0 → ⊥
  not-old vid old by reserved most same =
      let is : rank (state_of before old.0) ≡ 1 = ap (λ v. rank (state_of before v)) (sym same) ∙ ap rank reserved in
      omega (arith, is, most)

  keeps-name : (effect : Effect) → IsLawful before effect → (name : List ℕ) (old : Vid) (tag : List ℕ) → 2 ≤ rank (state_of before old.0)
      → ((name_of before name).working ≡ Some old → IsFreeTag tag (name_of before name).live_snapshots)
      → (name_after name (name_of before name) effect).working ≡ Some old → IsFreeTag tag (name_after name (name_of before name) effect).live_snapshots
  keeps-name (effects.Published of other) lawful name old tag most free = by_test (is_same_bytes other name)
    where
      by_test : (b : Bool) → (cond b (name_with_working of (name_of before name)) (name_of before name)).working ≡ Some old
          → IsFreeTag tag (cond b (name_with_working of (name_of before name)) (name_of before name)).live_snapshots
      by_test true works = absurd (not-old of old ((lawful.0).0) ((lawful.0).1) most (some-vid of old works))
      by_test false works = free works
  keeps-name (effects.Snapped snap) lawful name old tag most free = by_test (is_same_bytes snap.name name)
    where
      by_test : (b : Bool) → (cond b (name_with_snapshot snap.old snap.vid snap.tag (name_of before name)) (name_of before name)).working ≡ Some old
          → IsFreeTag tag (cond b (name_with_snapshot snap.old snap.vid snap.tag (name_of before name)) (name_of before name)).live_snapshots
      by_test true works = absurd (not-old snap.vid old ((lawful.1).0) ((lawful.1).1) most (some-vid snap.vid old works))
      by_test false works = free works
  keeps-name (effects.Deleted of other) lawful name old tag most free = by_test (is_same_bytes other name)
    where
      by_test : (b : Bool) → (cond b (name_without of (name_of before name)) (name_of before name)).working ≡ Some old
          → IsFreeTag tag (cond b (name_without of (name_of before name)) (name_of before name)).live_snapshots
      by_test true works = λ one there.
          free (unless-is of old (name_of before name).working works) one
          ((in-filter (λ (s : LiveSnapshot). not (s.vid.0 == of.0)) one (name_of before name).live_snapshots there).0)
      by_test false works = free works
  keeps-name effect lawful name old tag most free = free

  keeps-free : (effect : Effect) → IsLawful before effect → (name : List ℕ) (source : Source) → KeepsFree before (name_of before name) source
      → KeepsFree (before ++ effect ∷ []) (name_of (before ++ effect ∷ []) name) source
  keeps-free effect lawful name sources.Fresh kept = tt
  keeps-free effect lawful name (sources.Snapshot old tag) kept = (
    subst (λ (s : VdiState). 2 ≤ rank s) (sym (state_of-push before effect old.0))
        (let grows = rank-grows before sound effect lawful old.0 in let most = kept.0 in omega (arith, grows, most)),
    subst (λ (now : Name). now.working ≡ Some old → IsFreeTag tag now.live_snapshots) (sym (name_of-push before effect name))
        (keeps-name effect lawful name old tag kept.0 kept.1),
  )
  keeps-free effect lawful name sources.Clone kept = tt

  first-free : (name : List ℕ) (source : Source) → HasRoom before name source → HasFreeTag before name source → KeepsFree before (name_of before name) source
  first-free name sources.Fresh room free = tt
  first-free name (sources.Snapshot old tag) room free =
      (let is : rank (state_of before old.0) ≡ 2 = ap rank ((sound.working name old room).state) in omega (arith, is), λ works. free)
  first-free name sources.Clone room free = tt

  free-later : (effect : Effect) → IsLawful before effect → TakesTag before effect → (reservation : Reservation)
      → In reservation (reservations_after (reservations_of before) effect)
      → KeepsFree (before ++ effect ∷ []) (name_of (before ++ effect ∷ []) reservation.name) reservation.source
  free-later (effects.Reserved grant) lawful takes reservation there =
      elim (in-push reservation grant.reservation (reservations_of before) there) as (λ _. KeepsFree (before ++ effects.Reserved grant ∷ []) (name_of (before ++ effects.Reserved grant ∷ []) reservation.name) reservation.source) [
        | inl old ↦ keeps-free (effects.Reserved grant) lawful reservation.name reservation.source (tagged.free reservation old)
        | inr new ↦ subst (λ (r : Reservation). KeepsFree (before ++ effects.Reserved grant ∷ []) (name_of (before ++ effects.Reserved grant ∷ []) r.name) r.source) new
            (keeps-free (effects.Reserved grant) lawful grant.reservation.name grant.reservation.source (first-free grant.reservation.name grant.reservation.source lawful.5 takes))
      ]
  free-later (effects.Published of other) lawful takes reservation there =
      keeps-free (effects.Published of other) lawful reservation.name reservation.source
      (tagged.free reservation ((in-filter (λ (c : Reservation). not (c.vid.0 == of.0)) reservation (reservations_of before) there).0))
  free-later (effects.Snapped snap) lawful takes reservation there =
      keeps-free (effects.Snapped snap) lawful reservation.name reservation.source
      (tagged.free reservation ((in-filter (λ (c : Reservation). not (c.vid.0 == snap.vid.0)) reservation (reservations_of before) there).0))
  free-later (effects.Withdrawn of) lawful takes reservation there =
      keeps-free (effects.Withdrawn of) lawful reservation.name reservation.source
      (tagged.free reservation ((in-filter (λ (c : Reservation). not (c.vid.0 == of.0)) reservation (reservations_of before) there).0))
  free-later (effects.Left node) lawful takes reservation there =
      keeps-free (effects.Left node) lawful reservation.name reservation.source
      (tagged.free reservation ((in-filter (λ (c : Reservation). not (c.by.0 == node.0)) reservation (reservations_of before) there).0))
  free-later effect lawful takes reservation there = keeps-free effect lawful reservation.name reservation.source (tagged.free reservation there)

  own-push : (last : LiveSnapshot) (live_snapshots : List LiveSnapshot) → HaveOwnTags live_snapshots → IsFreeTag last.tag live_snapshots → HaveOwnTags (live_snapshots ++ last ∷ [])
  own-push last live_snapshots own free one other here there = by_place (in-push one last live_snapshots here) (in-push other last live_snapshots there)
    where
      by_place : In one live_snapshots ⊎ (last ≡ one) → In other live_snapshots ⊎ (last ≡ other) → one.tag ≡ other.tag → one.vid.0 ≡ other.vid.0
      by_place (inl a) (inl b) same = own one other a b same
      by_place (inl a) (inr b) same = absurd (free one a (same ∙ ap (λ (s : LiveSnapshot). s.tag) (sym b)))
      by_place (inr a) (inl b) same = absurd (free other b (sym same ∙ ap (λ (s : LiveSnapshot). s.tag) (sym a)))
      by_place (inr a) (inr b) same = ap (λ (s : LiveSnapshot). s.vid.0) (sym a ∙ b)

  own-after : (effect : Effect) → IsLawful before effect → TakesTag before effect → (name : List ℕ) → HaveOwnTags (name_after name (name_of before name) effect).live_snapshots
  own-after (effects.Published of other) lawful takes name = by_test (is_same_bytes other name)
    where
      by_test : (b : Bool) → HaveOwnTags (cond b (name_with_working of (name_of before name)) (name_of before name)).live_snapshots
      by_test true = tagged.own name
      by_test false = tagged.own name
  own-after (effects.Snapped snap) lawful takes name = by_test (is_same_bytes snap.name name) refl
    where
      by_test : (b : Bool) → is_same_bytes snap.name name ≡ b
          → HaveOwnTags (cond b (name_with_snapshot snap.old snap.vid snap.tag (name_of before name)) (name_of before name)).live_snapshots
      by_test true same =
          own-push (snapshot_of snap) (name_of before name).live_snapshots (tagged.own name)
          (subst (λ (n : List ℕ). IsFreeTag snap.tag (name_of before n).live_snapshots) (same-is snap.name name same) (tag-is-free snap lawful takes))
      by_test false apart = tagged.own name
  own-after (effects.Deleted of other) lawful takes name = by_test (is_same_bytes other name)
    where
      places : (one : LiveSnapshot) → In one (name_without of (name_of before name)).live_snapshots → In one (name_of before name).live_snapshots
      places one there = (in-filter (λ (s : LiveSnapshot). not (s.vid.0 == of.0)) one (name_of before name).live_snapshots there).0

      by_test : (b : Bool) → HaveOwnTags (cond b (name_without of (name_of before name)) (name_of before name)).live_snapshots
      by_test true = λ one two here there. tagged.own name one two (places one here) (places two there)
      by_test false = tagged.own name
  own-after effect lawful takes name = tagged.own name

  -- the header of a snapshot stays, since its id is neither granted again nor a working disk
  header-stays : (effect : Effect) → IsLawful before effect → (name : List ℕ) (one : LiveSnapshot) → In one (name_of before name).live_snapshots
      → tag_of (header_after one.vid.0 (header_of before one.vid.0) effect) ≡ Some one.tag
  header-stays (effects.Reserved grant) lawful name one there =
      ap (λ b. tag_of (cond b (Some grant.header) (header_of before one.vid.0)))
      (not-granted before sound (effects.Reserved grant) lawful one.vid.0 name ((sound.live_snapshots name one there).owner))
      ∙ tagged.headers name one there
  header-stays (effects.Snapped snap) lawful name one there =
      let is = (sound.live_snapshots name one there).state in
      ap (λ b. tag_of (cond b (option_map (λ (old : Header). record old { tag = snap.tag }) (header_of before one.vid.0)) (header_of before one.vid.0)))
      (other-id before sound snap.old.0 one.vid.0 Working (Snapshot is.0) ((lawful.0).state) is.1 (λ e. cc))
      ∙ tagged.headers name one there
  header-stays effect lawful name one there = tagged.headers name one there

  tag-given : (tag name : List ℕ) (header : Option Header) → option_map (λ (h : Header). h.name) header ≡ Some name
      → tag_of (option_map (λ (old : Header). record old { tag = tag }) header) ≡ Some tag
  tag-given tag name None owner = cc
  tag-given tag name (Some header) owner = refl

  header-after : (effect : Effect) → IsLawful before effect → (name : List ℕ) (one : LiveSnapshot) → In one (name_after name (name_of before name) effect).live_snapshots
      → tag_of (header_after one.vid.0 (header_of before one.vid.0) effect) ≡ Some one.tag
  header-after (effects.Published of other) lawful name one there = by_test (is_same_bytes other name) there
    where
      by_test : (b : Bool) → In one (cond b (name_with_working of (name_of before name)) (name_of before name)).live_snapshots → tag_of (header_of before one.vid.0) ≡ Some one.tag
      by_test true there = tagged.headers name one there
      by_test false there = tagged.headers name one there
  header-after (effects.Snapped snap) lawful name one there = by_test (is_same_bytes snap.name name) there
    where
      new : tag_of (header_after snap.old.0 (header_of before snap.old.0) (effects.Snapped snap)) ≡ Some snap.tag
      new = ap (λ b. tag_of (cond b (option_map (λ (old : Header). record old { tag = snap.tag }) (header_of before snap.old.0)) (header_of before snap.old.0)))
          (eq-eqb snap.old.0 snap.old.0 refl) ∙ tag-given snap.tag snap.name (header_of before snap.old.0) ((lawful.0).owner)

      by_test : (b : Bool) → In one (cond b (name_with_snapshot snap.old snap.vid snap.tag (name_of before name)) (name_of before name)).live_snapshots
          → tag_of (header_after one.vid.0 (header_of before one.vid.0) (effects.Snapped snap)) ≡ Some one.tag
      by_test true there = by_place (in-push one (snapshot_of snap) (name_of before name).live_snapshots there)
        where
          by_place : In one (name_of before name).live_snapshots ⊎ (snapshot_of snap ≡ one)
              → tag_of (header_after one.vid.0 (header_of before one.vid.0) (effects.Snapped snap)) ≡ Some one.tag
          by_place (inl old) = header-stays (effects.Snapped snap) lawful name one old
          by_place (inr is) =
              subst (λ (s : LiveSnapshot). tag_of (header_after s.vid.0 (header_of before s.vid.0) (effects.Snapped snap)) ≡ Some s.tag) is new
      by_test false there = header-stays (effects.Snapped snap) lawful name one there
  header-after (effects.Deleted of other) lawful name one there = by_test (is_same_bytes other name) there
    where
      by_test : (b : Bool) → In one (cond b (name_without of (name_of before name)) (name_of before name)).live_snapshots → tag_of (header_of before one.vid.0) ≡ Some one.tag
      by_test true there = tagged.headers name one ((in-filter (λ (s : LiveSnapshot). not (s.vid.0 == of.0)) one (name_of before name).live_snapshots there).0)
      by_test false there = tagged.headers name one there
  header-after effect lawful name one there = header-stays effect lawful name one there

  tagged-later : (effect : Effect) → IsLawful before effect → TakesTag before effect → AreTagged (before ++ effect ∷ [])
  tagged-later effect lawful takes = record {
    headers = λ name one there. ap tag_of (header_of-push before effect one.vid.0)
        ∙ header-after effect lawful name one (subst (λ (now : Name). In one now.live_snapshots) (name_of-push before effect name) there);
    own = λ name. subst (λ (now : Name). HaveOwnTags now.live_snapshots) (sym (name_of-push before effect name)) (own-after effect lawful takes name);
    free = λ reservation there. free-later effect lawful takes reservation (subst (In reservation) (reservations_of-push before effect) there);
  }

tagged-none : AreTagged []
unfolding name_of reservations_of
tagged-none = record {
  headers = λ name one there. absurd there;
  own = λ name one other here there. absurd here;
  free = λ reservation there. absurd there;
}

tagged-log_effects : (entries : List Entry) → AreTagged (log_effects entries)
tagged-log_effects entries =
    kept-later AreTagged
    (λ es entry is. tagged-later (log_effects es) (sound-log_effects es) (found-working es) is (outcome (log_effects es) entry).effect
    (lawful-outcome (log_effects es) (sound-log_effects es) entry) (takes-outcome (log_effects es) entry))
    entries [] (subst AreTagged (sym log_effects-none) tagged-none)

module _ (entries : List Entry) where
  abbrev done : List Effect
  done = log_effects entries

  keeps-tags : (name : List ℕ) (effect : Effect) → IsLawful done effect → TakesTag done effect → KeepsTags name (name_of done name) effect
  keeps-tags name (effects.Snapped snap) lawful takes = λ same.
      subst (λ (n : List ℕ). IsFreeTag snap.tag (name_of done n).live_snapshots) (same-is snap.name name same)
      (tag-is-free done (sound-log_effects entries) (found-working entries) (tagged-log_effects entries) snap lawful takes)
  keeps-tags name (effects.Deleted of other) lawful takes = (tagged-log_effects entries).own name
  keeps-tags name effect lawful takes = tt

  -- what a name stands for, asked by tag, changes with an entry as the name does
  pub standing-outcome : (entry : Entry) (name : List ℕ)
      → standing_of (name_after name (name_of done name) (outcome done entry).effect) ≡ standing_after name (standing_of (name_of done name)) (outcome done entry).effect
  standing-outcome entry name =
      standing-after name (name_of done name) (outcome done entry).effect
      (keeps-tags name (outcome done entry).effect (lawful-outcome done (sound-log_effects entries) entry) (takes-outcome done entry))

  its-tag : (state : DirectoryState) → IsDirectoryState done state → (effect : Effect) → IsLawful done effect → TakesTag done effect → HasItsTag effect state
  its-tag state is (effects.Snapped snap) lawful takes =
      is.tagged snap.name snap.tag
      ∙ ap vid_found (free-none snap.tag (name_of done snap.name).live_snapshots
      (tag-is-free done (sound-log_effects entries) (found-working entries) (tagged-log_effects entries) snap lawful takes))
  its-tag state is (effects.Deleted vid name) lawful takes =
      λ tag there. by_found tag (find (has_tag tag) (name_of done name).live_snapshots) refl (sym (is.tagged name tag) ∙ there)
    where
      by_header : (tag : List ℕ) (header : Option Header) → tag_of header ≡ Some tag → header_tag header ≡ tag
      by_header tag None has = cc
      by_header tag (Some header) has = cc

      by_found : (tag : List ℕ) (found : Option LiveSnapshot) → find (has_tag tag) (name_of done name).live_snapshots ≡ found → vid_found found ≡ Some vid
          → header_tag (get nat_cmp state.headers vid.0) ≡ tag
      by_found tag None there found = cc
      by_found tag (Some one) there found =
          let place = in-find (has_tag tag) one (name_of done name).live_snapshots there in
          let has : tag_of (header_of done one.vid.0) ≡ Some one.tag = (tagged-log_effects entries).headers name one place.0 in
          ap header_tag (is.headers vid.0 ∙ ap (header_of done) (sym (some-vid one.vid vid found)))
          ∙ by_header one.tag (header_of done one.vid.0) has ∙ same-is one.tag tag place.1
  its-tag state is effect lawful takes = tt

  pub its-tag-outcome : (state : DirectoryState) → IsDirectoryState done state → (entry : Entry) → HasItsTag (outcome done entry).effect state
  its-tag-outcome state is entry =
      its-tag state is (outcome done entry).effect (lawful-outcome done (sound-log_effects entries) entry) (takes-outcome done entry)
