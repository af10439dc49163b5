-- What is known of an id stays valid, with entries that may be reserved.
use Rattle.std.proofs.Common.{◌≡◌, ◌⊎◌, inl, inr, ℕ, suc, ◌≤◌, ◌==◌, ◌&&◌, Bool, true, false, cond, List, [], ◌∷◌, ◌++◌, All, Option, Some, None, is_some, Result, Ok, Err, refl, ap, sym, ◌∙◌, not, subst, arith, append_assoc}
use Rattle.std.specs.Option.{option_map}
use Rattle.std.proofs.lemmas.Bool.{eqb-true, both_ways}
use Rattle.std.proofs.lemmas.List.{append-nil}
use Rattle.object_id.specs.Oid.{IsVid}
use Rattle.object_id.specs.Spec.{IsName, IsSpec}
use Rattle.object_id.specs.declared.oid.Vid.{Vid}
use Rattle.object_id.specs.declared.node.NodeId.{NodeId}
use Rattle.object_id.specs.declared.cause.Cause.{Cause}
use Rattle.object_id.specs.declared.cause.Cause.TheVariants as causes
use Rattle.object_id.specs.declared.entry.VdiSpec.{VdiSpec}
use Rattle.object_id.specs.declared.entry.Origin.{Origin}
use Rattle.object_id.specs.declared.entry.Origin.TheVariants.{Fresh, SnapshotOf, CloneOf}
use Rattle.object_id.specs.declared.entry.Entry.{Entry}
use Rattle.object_id.specs.declared.entry.Entry.TheVariants as the_entries
use Rattle.epoch_log.specs.Appending.{IsReservable}
use Rattle.disk_lock.specs.declared.holder.Holder.{Holder}
use Rattle.vdi_directory.specs.declared.header.Header.{Header}
use Rattle.vdi_directory.specs.declared.effect.Source.{Source}
use Rattle.vdi_directory.specs.declared.effect.Source.TheVariants as sources
use Rattle.vdi_directory.specs.declared.effect.Reservation.{Reservation}
use Rattle.vdi_directory.specs.declared.effect.Effect.{Effect}
use Rattle.vdi_directory.specs.declared.effect.Effect.TheVariants as effects
use Rattle.vdi_directory.specs.declared.decision.Outcome.{Outcome}
use Rattle.vdi_directory.specs.Vids.{free_id}
use Rattle.vdi_directory.specs.Names.{count_risen, is_live_name, snapshot_with_tag}
use Rattle.vdi_directory.specs.Sources.{is_for, tag_for}
use Rattle.vdi_directory.specs.Effects.{is_used, header_after, header_of, name_of, reservations_but, reservations_after, reservations_of, reservation_on, holder_of}
use Rattle.vdi_directory.specs.Decisions.{nothing, silent_outcome, grant_outcome, refusal_outcome, outcome, happens, log_effects, or_full, grant_of, with_spec, reservation_outcome, reserved_snapshot, reserved_clone, reserve_outcome, publication, replacement, snapshot_outcome, target, deletion, lock, is_held_by, is_reserved_by, is_taken, held_disk}
use Rattle.vdi_directory.specs.States.{VdiState, Unused, Reserved, Working, Snapshot, Deleted, Freed, freed_state, state_after_leave, state_after, state_of, is_live_state}
use Rattle.vdi_directory.specs.Sound.{In, IsSound, IsLawful}
use Rattle.vdi_directory.specs.Known.{HasTagOf, IsBase, IsHeaderOf, HasTag, AreKnown}
use Rattle.vdi_directory.proofs.StateLemmas.{log_effects-none, log_effects-push, header_of-push, reservations_of-push}
use Rattle.vdi_directory.proofs.SoundEffects.{state_of-push, in-filter, in-push}
use Rattle.vdi_directory.proofs.LawfulEntries.{lawful-outcome, sound-log_effects, in-find}
use Rattle.vdi_directory.proofs.DeadLemmas.{live-used}
use Rattle.vdi_directory.proofs.LineLemmas.{IsLine, line-log_effects}

-- an effect that makes only what is valid known
IsValid : List Effect → Effect → Type 0
IsValid before (effects.Reserved grant) =
    IsName grant.header.name × (grant.header.tag ≡ []) × (1 ≤ grant.header.snap_id) × IsSpec grant.header.spec
    × IsBase before grant.header.spec grant.header.parent × HasTag grant.reservation.source
IsValid before (effects.Snapped snap) = IsName snap.tag
IsValid before effect = Unit {0}

some-same : (a b : Header) → Some a ≡ Some b → a ≡ b
some-same a b is = cc

tag-freed : (s : VdiState) (tag : List ℕ) → HasTagOf s tag → HasTagOf (freed_state s) tag
tag-freed Unused tag has = has
tag-freed state tag has = has

tag-left : (node : ℕ) (s : VdiState) (tag : List ℕ) → HasTagOf s tag → HasTagOf (state_after_leave node s) tag
tag-left node (Reserved by) tag has = by_test (by.0 == node)
  where
    by_test : (b : Bool) → HasTagOf (cond b Freed (Reserved by)) tag
    by_test true = has
    by_test false = has
tag-left node state tag has = has

module _ (before : List Effect) (line : IsLine before) (known : AreKnown before) where
  -- what is known stays so, with its spec
  module _ (effect : Effect) (lawful : IsLawful before effect) where
    spec-stays : (vid : ℕ) (header : Header) → header_of before vid ≡ Some header
        → (later : Header) × (header_after vid (Some header) effect ≡ Some later) × (later.spec ≡ header.spec)
    spec-stays vid header is = by_effect effect lawful
      where
        by_effect : (e : Effect) → IsLawful before e → (later : Header) × (header_after vid (Some header) e ≡ Some later) × (later.spec ≡ header.spec)
        by_effect effects.Nothing lawful = (header, refl, refl)
        by_effect (effects.Reserved grant) lawful = by_test (grant.reservation.vid.0 == vid) refl
          where
            by_test : (b : Bool) → (grant.reservation.vid.0 == vid) ≡ b
                → (later : Header) × (cond b (Some grant.header) (Some header) ≡ Some later) × (later.spec ≡ header.spec)
            by_test true here =
                absurd (both_ways (is_used before vid) (ap (is_used before) (sym (eqb-true grant.reservation.vid.0 vid here)) ∙ lawful.1)
                (line.known vid ∙ ap is_some is))
            by_test false there = (header, refl, refl)
        by_effect (effects.Published of name) lawful = (header, refl, refl)
        by_effect (effects.Snapped snap) lawful = by_test (snap.old.0 == vid)
          where
            by_test : (b : Bool) → (later : Header)
                × (cond b (option_map (λ (old : Header). record old { tag = snap.tag }) (Some header)) (Some header) ≡ Some later) × (later.spec ≡ header.spec)
            by_test true = (record header { tag = snap.tag }, refl, refl)
            by_test false = (header, refl, refl)
        by_effect (effects.Deleted of name) lawful = (header, refl, refl)
        by_effect (effects.Held of holder) lawful = (header, refl, refl)
        by_effect (effects.Freed of) lawful = (header, refl, refl)
        by_effect (effects.Withdrawn of) lawful = (header, refl, refl)
        by_effect (effects.Left node) lawful = (header, refl, refl)

    base-stays : (spec : VdiSpec) (parent : Option Vid) → IsBase before spec parent → IsBase (before ++ effect ∷ []) spec parent
    base-stays spec None base = tt
    base-stays spec (Some parent) base =
        let header : Header = (base.1).0 in
        let stays = spec-stays parent.0 header ((base.1).1) in (
          base.0,
          (stays.0, header_of-push before effect parent.0 ∙ ap (λ h. header_after parent.0 h effect) ((base.1).1) ∙ stays.1, stays.2 ∙ (base.1).2),
        )

    -- an id that keeps its header, in a state that has the tag
    same-header : (vid : ℕ) (header : Header) → header_of before vid ≡ Some header → HasTagOf (state_after vid (state_of before vid) effect) header.tag
        → IsHeaderOf (before ++ effect ∷ []) vid header
    same-header vid header is tag =
        let was = known.headers vid header is in record {
          id = was.id;
          name = was.name;
          tag = was.tag;
          state = subst (λ (s : VdiState). HasTagOf s header.tag) (sym (state_of-push before effect vid)) tag;
          snap_id = was.snap_id;
          spec = was.spec;
          base = base-stays header.spec header.parent was.base;
        }

    was-tag : (vid : ℕ) (header : Header) → header_of before vid ≡ Some header → HasTagOf (state_of before vid) header.tag
    was-tag vid header is = (known.headers vid header is).state

    -- an id that was reserved until now has no tag
    reserved-tag : (other vid : ℕ) (by : NodeId) (header : Header) → header_of before vid ≡ Some header → (other == vid) ≡ true
        → state_of before other ≡ Reserved by → header.tag ≡ []
    reserved-tag other vid by header is same state =
        subst (λ (s : VdiState). HasTagOf s header.tag) (ap (state_of before) (sym (eqb-true other vid same)) ∙ state) (was-tag vid header is)

  headers-push : (effect : Effect) → IsLawful before effect → IsValid before effect → (vid : ℕ) (header : Header)
      → header_after vid (header_of before vid) effect ≡ Some header → IsHeaderOf (before ++ effect ∷ []) vid header
  unfolding IsValid
  headers-push effects.Nothing lawful valid vid header is = same-header effects.Nothing lawful vid header is (was-tag effects.Nothing lawful vid header is)
  headers-push (effects.Reserved grant) lawful valid vid header is = by_test (grant.reservation.vid.0 == vid) refl is
    where
      state-is : (b : Bool) → (grant.reservation.vid.0 == vid) ≡ b
          → state_of (before ++ effects.Reserved grant ∷ []) vid ≡ cond b (Reserved grant.reservation.by) (state_of before vid)
      state-is b test = state_of-push before (effects.Reserved grant) vid ∙ ap (λ t. cond t (Reserved grant.reservation.by) (state_of before vid)) test

      by_test : (b : Bool) → (grant.reservation.vid.0 == vid) ≡ b → cond b (Some grant.header) (header_of before vid) ≡ Some header
          → IsHeaderOf (before ++ effects.Reserved grant ∷ []) vid header
      by_test true here same =
          subst (λ (h : Header). IsHeaderOf (before ++ effects.Reserved grant ∷ []) vid h) (some-same grant.header header same) (record {
            id = subst IsVid (eqb-true grant.reservation.vid.0 vid here) lawful.0;
            name = valid.0;
            tag = inl valid.1;
            state = subst (λ (s : VdiState). HasTagOf s grant.header.tag) (sym (state-is true here)) valid.1;
            snap_id = valid.2;
            spec = valid.3;
            base = base-stays (effects.Reserved grant) lawful grant.header.spec grant.header.parent valid.4;
          })
      by_test false there same =
          same-header (effects.Reserved grant) lawful vid header same
          (subst (λ b. HasTagOf (cond b (Reserved grant.reservation.by) (state_of before vid)) header.tag) (sym there)
          (was-tag (effects.Reserved grant) lawful vid header same))
  headers-push (effects.Published of name) lawful valid vid header is =
      same-header (effects.Published of name) lawful vid header is (by_test (of.0 == vid) refl)
    where
      by_test : (b : Bool) → (of.0 == vid) ≡ b → HasTagOf (cond b Working (state_of before vid)) header.tag
      by_test true same = reserved-tag (effects.Published of name) lawful of.0 vid ((lawful.0).0) header is same ((lawful.0).1)
      by_test false apart = was-tag (effects.Published of name) lawful vid header is
  headers-push (effects.Snapped snap) lawful valid vid header is = by_test (snap.old.0 == vid) refl is
    where
      tagged : (old : Option Header) → header_of before vid ≡ old → (snap.old.0 == vid) ≡ true
          → option_map (λ (h : Header). record h { tag = snap.tag }) old ≡ Some header → IsHeaderOf (before ++ effects.Snapped snap ∷ []) vid header
      tagged None there here same = cc
      tagged (Some old) there here same =
          let was = known.headers vid old there in
          let now : record old { tag = snap.tag } ≡ header = some-same (record old { tag = snap.tag }) header same in
          subst (λ (h : Header). IsHeaderOf (before ++ effects.Snapped snap ∷ []) vid h) now (record {
            id = was.id;
            name = was.name;
            tag = inr valid;
            state = subst (λ (s : VdiState). HasTagOf s snap.tag)
                (sym (state_of-push before (effects.Snapped snap) vid
                ∙ ap (λ b. cond b (Snapshot snap.tag) (cond (snap.vid.0 == vid) Working (state_of before vid))) here)) (refl, valid);
            snap_id = was.snap_id;
            spec = was.spec;
            base = base-stays (effects.Snapped snap) lawful old.spec old.parent was.base;
          })

      by_test : (b : Bool) → (snap.old.0 == vid) ≡ b
          → cond b (option_map (λ (h : Header). record h { tag = snap.tag }) (header_of before vid)) (header_of before vid) ≡ Some header
          → IsHeaderOf (before ++ effects.Snapped snap ∷ []) vid header
      by_test true here same = tagged (header_of before vid) refl here same
      by_test false there same =
          same-header (effects.Snapped snap) lawful vid header same
          (subst (λ b. HasTagOf (cond b (Snapshot snap.tag) (cond (snap.vid.0 == vid) Working (state_of before vid))) header.tag) (sym there)
          (by_new (snap.vid.0 == vid) refl))
        where
          by_new : (b : Bool) → (snap.vid.0 == vid) ≡ b → HasTagOf (cond b Working (state_of before vid)) header.tag
          by_new true new = reserved-tag (effects.Snapped snap) lawful snap.vid.0 vid ((lawful.1).0) header same new ((lawful.1).1)
          by_new false apart = was-tag (effects.Snapped snap) lawful vid header same
  headers-push (effects.Deleted of name) lawful valid vid header is =
      same-header (effects.Deleted of name) lawful vid header is (by_test (of.0 == vid))
    where
      by_test : (b : Bool) → HasTagOf (cond b Deleted (state_of before vid)) header.tag
      by_test true = (known.headers vid header is).tag
      by_test false = was-tag (effects.Deleted of name) lawful vid header is
  headers-push (effects.Held of holder) lawful valid vid header is =
      same-header (effects.Held of holder) lawful vid header is (was-tag (effects.Held of holder) lawful vid header is)
  headers-push (effects.Freed of) lawful valid vid header is =
      same-header (effects.Freed of) lawful vid header is (was-tag (effects.Freed of) lawful vid header is)
  headers-push (effects.Withdrawn of) lawful valid vid header is =
      same-header (effects.Withdrawn of) lawful vid header is (by_test (of.0 == vid))
    where
      by_test : (b : Bool) → HasTagOf (cond b (freed_state (state_of before vid)) (state_of before vid)) header.tag
      by_test true = tag-freed (state_of before vid) header.tag (was-tag (effects.Withdrawn of) lawful vid header is)
      by_test false = was-tag (effects.Withdrawn of) lawful vid header is
  headers-push (effects.Left node) lawful valid vid header is =
      same-header (effects.Left node) lawful vid header is
      (tag-left node.0 (state_of before vid) header.tag (was-tag (effects.Left node) lawful vid header is))

  reservations-push : (effect : Effect) → IsValid before effect → (reservation : Reservation) → In reservation (reservations_after (reservations_of before) effect)
      → HasTag reservation.source
  unfolding IsValid
  reservations-push effects.Nothing valid reservation there = known.reservations reservation there
  reservations-push (effects.Reserved grant) valid reservation there = by_place (in-push reservation grant.reservation (reservations_of before) there)
    where
      by_place : In reservation (reservations_of before) ⊎ (grant.reservation ≡ reservation) → HasTag reservation.source
      by_place (inl old) = known.reservations reservation old
      by_place (inr new) = subst (λ (r : Reservation). HasTag r.source) new valid.5
  reservations-push (effects.Published of name) valid reservation there = of_kept of reservation there
    where
      of_kept : (of : Vid) (reservation : Reservation) → In reservation (reservations_but of (reservations_of before)) → HasTag reservation.source
      of_kept of reservation there = known.reservations reservation ((in-filter (λ (r : Reservation). not (r.vid.0 == of.0)) reservation (reservations_of before) there).0)
  reservations-push (effects.Snapped snap) valid reservation there =
      known.reservations reservation ((in-filter (λ (r : Reservation). not (r.vid.0 == snap.vid.0)) reservation (reservations_of before) there).0)
  reservations-push (effects.Deleted of name) valid reservation there = known.reservations reservation there
  reservations-push (effects.Held of holder) valid reservation there = known.reservations reservation there
  reservations-push (effects.Freed of) valid reservation there = known.reservations reservation there
  reservations-push (effects.Withdrawn of) valid reservation there =
      known.reservations reservation ((in-filter (λ (r : Reservation). not (r.vid.0 == of.0)) reservation (reservations_of before) there).0)
  reservations-push (effects.Left node) valid reservation there =
      known.reservations reservation ((in-filter (λ (r : Reservation). not (r.by.0 == node.0)) reservation (reservations_of before) there).0)

  known-push : (effect : Effect) → IsLawful before effect → IsValid before effect → AreKnown (before ++ effect ∷ [])
  known-push effect lawful valid = record {
    headers = λ vid header is. headers-push effect lawful valid vid header (sym (header_of-push before effect vid) ∙ is);
    reservations = λ reservation there. reservations-push effect valid reservation (subst (In reservation) (reservations_of-push before effect) there);
  }

  -- what an entry does is valid
  Valid : Outcome → Type 0
  Valid o = IsValid before o.effect

  valid-if : (b : Bool) (x y : Outcome) → Valid x → Valid y → Valid (cond b x y)
  valid-if true x y one two = one
  valid-if false x y one two = two

  refused-valid : (cause : Cause) → Valid (refusal_outcome cause)
  unfolding Valid IsValid
  refused-valid cause = tt

  nothing-valid : Valid nothing
  unfolding Valid IsValid
  nothing-valid = tt

  risen-some : (n : ℕ) → 1 ≤ count_risen n
  risen-some n = omega arith

  module _ (by : NodeId) (session : ℕ) (name : List ℕ) (is_name : IsName name) where
    valid-full : (source : Source) (parent : Option Vid) (spec : VdiSpec) → HasTag source → IsSpec spec → IsBase before spec parent → (free : Option ℕ)
        → Valid (or_full free (grant_of before by session name source parent spec))
    unfolding Valid IsValid
    valid-full source parent spec tagged is_spec base None = tt
    valid-full source parent spec tagged is_spec base (Some vid) = (is_name, refl, risen-some (name_of before name).taken, is_spec, base, tagged)

    valid-spec : (source : Source) (parent : Vid) → HasTag source → (header : Option Header) → header_of before parent.0 ≡ header
        → Valid (with_spec header (reservation_outcome before by session name source (Some parent)))
    valid-spec source parent tagged None there = nothing-valid
    valid-spec source parent tagged (Some header) there =
        let is = known.headers parent.0 header there in
        valid-full source (Some parent) header.spec tagged is.spec (is.id, (header, there, refl)) (free_id name (is_used before))

    valid-snapshot : (tag : List ℕ) → IsName tag → (held : Option Vid) → Valid (reserved_snapshot before by session name tag held)
    valid-snapshot tag is_tag None = refused-valid causes.VdiNotLocked
    valid-snapshot tag is_tag (Some old) =
        valid-if (is_some (snapshot_with_tag tag (name_of before name))) (refusal_outcome causes.VdiExist)
        (with_spec (header_of before old.0) (reservation_outcome before by session name (sources.Snapshot old tag) (Some old))) (refused-valid causes.VdiExist)
        (valid-spec (sources.Snapshot old tag) old is_tag (header_of before old.0) refl)

    valid-clone : (base : Option Vid) → Valid (reserved_clone before by session name base)
    valid-clone None = refused-valid causes.NoTag
    valid-clone (Some base) =
        valid-if (is_taken before name) (refusal_outcome causes.VdiExist)
        (with_spec (header_of before base.0) (reservation_outcome before by session name sources.Clone (Some base))) (refused-valid causes.VdiExist)
        (valid-spec sources.Clone base tt (header_of before base.0) refl)

  valid-reservation : (by : NodeId) (session : ℕ) (name : List ℕ) (origin : Origin) → IsReservable (the_entries.Reserve by session name origin)
      → Valid (reserve_outcome before by session name origin)
  valid-reservation by session name (Fresh spec) is =
      valid-if (is_taken before name) (refusal_outcome causes.VdiExist) (reservation_outcome before by session name sources.Fresh None spec) (refused-valid causes.VdiExist)
      (valid-full by session name is.0 sources.Fresh None spec tt is.1 tt (free_id name (is_used before)))
  valid-reservation by session name (SnapshotOf tag) is = valid-snapshot by session name is.0 tag is.1 (held_disk before by session (name_of before name).working)
  valid-reservation by session name (CloneOf base tag) is =
      valid-if (is_live_name (name_of before base)) (reserved_clone before by session name (snapshot_with_tag tag (name_of before base))) (refusal_outcome causes.NoBaseVdi)
      (valid-clone by session name is.0 (snapshot_with_tag tag (name_of before base))) (refused-valid causes.NoBaseVdi)

  valid-publication : (by : NodeId) (is_right : Source → Bool) (reservation : Option Reservation) → Valid (publication by is_right reservation)
  unfolding Valid IsValid
  valid-publication by is_right None = tt
  valid-publication by is_right (Some reservation) =
      valid-if (reservation.by.0 == by.0 && is_right reservation.source) (grant_outcome reservation.vid (effects.Published reservation.vid reservation.name)) nothing tt tt

  tag-valid : (old : Vid) (source : Source) (tag : List ℕ) → HasTag source → tag_for old source ≡ Some tag → IsName tag
  tag-valid old sources.Fresh tag has is = cc
  tag-valid old (sources.Snapshot of named) tag has is = by_test (of.0 == old.0) is
    where
      same-tag : (a b : List ℕ) → Some a ≡ Some b → a ≡ b
      same-tag a b e = cc

      by_test : (b : Bool) → cond b (Some named) None ≡ Some tag → IsName tag
      by_test true same = subst IsName (same-tag named tag same) has
      by_test false same = cc
  tag-valid old sources.Clone tag has is = cc

  valid-replacement : (reservation : Reservation) (old : Vid) (tag : Option (List ℕ)) (holder : Option Holder) → HasTag reservation.source
      → tag_for old reservation.source ≡ tag → Valid (replacement reservation old tag holder)
  unfolding Valid IsValid
  valid-replacement reservation old None holder has is = tt
  valid-replacement reservation old (Some tag) None has is = tt
  valid-replacement reservation old (Some tag) (Some holder) has is = tag-valid old reservation.source tag has is

  valid-snap : (by : NodeId) (old vid : Vid) (reservation : Option Reservation) → reservation_on vid (reservations_of before) ≡ reservation
      → Valid (snapshot_outcome before by old reservation)
  valid-snap by old vid None there = nothing-valid
  valid-snap by old vid (Some reservation) there =
      valid-if (reservation.by.0 == by.0) (replacement reservation old (tag_for old reservation.source) (holder_of before old.0)) nothing
      (valid-replacement reservation old (tag_for old reservation.source) (holder_of before old.0)
      (known.reservations reservation ((in-find (λ (r : Reservation). r.vid.0 == vid.0) reservation (reservations_of before) there).0)) refl) nothing-valid

  valid-deletion : (name : List ℕ) (of : Result Vid Cause) → Valid (deletion name of)
  unfolding Valid IsValid
  valid-deletion name (Err cause) = tt
  valid-deletion name (Ok vid) = tt

  valid-lock : (holder : Holder) (is_snapshot : Bool) (of : Result Vid Cause) → Valid (lock holder is_snapshot of)
  unfolding Valid IsValid
  valid-lock holder is_snapshot (Err cause) = tt
  valid-lock holder is_snapshot (Ok vid) = valid-if is_snapshot (grant_outcome vid effects.Nothing) (grant_outcome vid (effects.Held vid holder)) tt tt

  valid-outcome : (entry : Entry) → IsReservable entry → IsValid before (outcome before entry).effect
  unfolding Valid IsValid
  valid-outcome (the_entries.Reserve by session name origin) is = valid-reservation by session name origin is
  valid-outcome (the_entries.Publish by vid) is = valid-publication by (is_for false) (reservation_on vid (reservations_of before))
  valid-outcome (the_entries.Clone by vid) is = valid-publication by (is_for true) (reservation_on vid (reservations_of before))
  valid-outcome (the_entries.Snapshot by old vid) is = valid-snap by old vid (reservation_on vid (reservations_of before)) refl
  valid-outcome (the_entries.Delete by session name tag) is = valid-deletion name (target before name tag)
  valid-outcome (the_entries.Lock by session name tag) is = valid-lock (record { node = by; session = session }) (is_some tag) (target before name tag)
  valid-outcome (the_entries.Unlock by session vid) is =
      valid-if (is_held_by by session (holder_of before vid.0)) (silent_outcome (effects.Freed vid))
      (cond (is_reserved_by by session (reservation_on vid (reservations_of before))) (silent_outcome (effects.Withdrawn vid)) nothing) tt
      (valid-if (is_reserved_by by session (reservation_on vid (reservations_of before))) (silent_outcome (effects.Withdrawn vid)) nothing tt tt)
  valid-outcome entry is = tt

  pub known-happens : IsSound before → (entry : Entry) → IsReservable entry → AreKnown (happens before entry)
  known-happens sound entry is = known-push (outcome before entry).effect (lawful-outcome before sound entry) (valid-outcome entry is)

pub known-none : AreKnown []
unfolding header_of reservations_of
known-none = record { headers = λ vid header is. cc; reservations = λ reservation there. absurd there }

known-from : (later entries : List Entry) → All IsReservable later → AreKnown (log_effects entries) → AreKnown (log_effects (entries ++ later))
known-from [] entries all known = subst (λ (es : List Entry). AreKnown (log_effects es)) (sym (append-nil entries)) known
known-from (entry ∷ later) entries all known =
    subst (λ (es : List Entry). AreKnown (log_effects es)) (append_assoc entries (entry ∷ []) later)
    (known-from later (entries ++ entry ∷ []) (λ k d within. all (suc k) d (omega (arith, within))) (subst AreKnown (sym (log_effects-push entries entry))
    (known-happens (log_effects entries) (line-log_effects entries) known (sound-log_effects entries) entry (all 0 entry (omega arith)))))

pub known-log_effects : (entries : List Entry) → All IsReservable entries → AreKnown (log_effects entries)
known-log_effects entries all = known-from entries [] all (subst AreKnown (sym log_effects-none) known-none)

pub header-valid : (entries : List Entry) → All IsReservable entries → (vid : ℕ) (header : Header) → header_of (log_effects entries) vid ≡ Some header
    → IsHeaderOf (log_effects entries) vid header
header-valid entries all vid header is = (known-log_effects entries all).headers vid header is

pub parent-valid : (entries : List Entry) → All IsReservable entries → (vid : ℕ) (header : Header) (parent : Vid)
    → header_of (log_effects entries) vid ≡ Some header → header.parent ≡ Some parent
    → (base : Header) × (header_of (log_effects entries) parent.0 ≡ Some base) × IsHeaderOf (log_effects entries) parent.0 base × (base.spec ≡ header.spec)
parent-valid entries all vid header parent is from =
    let base : IsBase (log_effects entries) header.spec (Some parent)
    = subst (IsBase (log_effects entries) header.spec) from ((header-valid entries all vid header is).base) in
    ((base.1).0, (base.1).1, header-valid entries all parent.0 ((base.1).0) ((base.1).1), (base.1).2)

-- an id in a state has a header
snapshot-used : (before : List Effect) → IsSound before → (vid : ℕ) (tag : List ℕ) → state_of before vid ≡ Snapshot tag → is_used before vid ≡ true
snapshot-used before sound vid tag is = live-used before sound vid (ap is_live_state is)

pub snapshot-header : (entries : List Entry) → All IsReservable entries → (vid : ℕ) (tag : List ℕ) → state_of (log_effects entries) vid ≡ Snapshot tag
    → (header : Header) × (header_of (log_effects entries) vid ≡ Some header) × (header.tag ≡ tag)
snapshot-header entries all vid tag is =
    by_header (header_of (log_effects entries) vid) refl
    (sym ((line-log_effects entries).known vid) ∙ snapshot-used (log_effects entries) (sound-log_effects entries) vid tag is)
  where
    by_header : (header : Option Header) → header_of (log_effects entries) vid ≡ header → is_some header ≡ true
        → (h : Header) × (header_of (log_effects entries) vid ≡ Some h) × (h.tag ≡ tag)
    by_header None there some = cc
    by_header (Some header) there some =
        (header, there, (subst (λ (s : VdiState). HasTagOf s header.tag) is ((header-valid entries all vid header there).state)).0)
