-- Of whatever log: what a reserved id is made from stays so; a clone's base is a snapshot from the entry on that reserves the clone's id;
-- and an id that is reserved was so before, or by the last entry.
use Rattle.std.proofs.Common.{◌≡◌, inl, inr, ⊎_elim, arith, ℕ, ◌==◌, ◌||◌, Bool, true, false, cond, List, [], ◌∷◌, ◌++◌, Option}
use Rattle.std.proofs.Common.{Some, None, is_some, option_map, refl, sym, ap, subst, ◌∙◌}
use Rattle.std.proofs.lemmas.Bool.{eq-eqb, eqb-true, or_cases, or_left}
use Rattle.std.proofs.lemmas.Option.{same_Some}
use Rattle.object_id.specs.declared.entry.Entry.{Entry}
use Rattle.object_id.specs.declared.entry.VdiSpec.{VdiSpec}
use Rattle.object_id.specs.declared.oid.Vid.{Vid}
use Rattle.vdi_directory.specs.declared.effect.Effect.{Effect}
use Rattle.vdi_directory.specs.declared.effect.Reservation.{Reservation}
use Rattle.vdi_directory.specs.declared.effect.Source.{Source}
use Rattle.vdi_directory.specs.declared.effect.Source.TheVariants as sources
use Rattle.vdi_directory.specs.declared.header.Header.{Header}
use Rattle.vdi_directory.specs.declared.effect.Effect.TheVariants as effects
use Rattle.vdi_directory.specs.declared.effect.Grant.{Grant}
use Rattle.vdi_directory.specs.Sound.{IsLiveSnapshot, IsLawful}
use Rattle.vdi_directory.proofs.ChainLemmas.{is_parent_or_above}
use Rattle.std.specs.Option.{option_or}
use Rattle.std.proofs.lemmas.List.Folds.{find-append}
use Rattle.overlap_law.proofs.MadeEffects.{IsSourceParent, IsMadeSo, outcome_so}
use Rattle.vdi_directory.specs.Chains.{is_above}
use Rattle.vdi_directory.specs.Decisions.{outcome, log_effects}
use Rattle.vdi_directory.specs.Effects.{grants, header_of, header_after, is_used, reservation_on, reservations_of, reservations_after}
use Rattle.vdi_directory.specs.References.{header_parent, parent_of}
use Rattle.vdi_directory.specs.States.{Reserved, rank, state_of, is_live_state}
use Rattle.vdi_directory.proofs.LawfulEntries.{lawful-outcome, sound-log_effects}
use Rattle.vdi_directory.proofs.LineLemmas.{above-line, line-log_effects}
use Rattle.vdi_directory.proofs.StateLemmas.{log_effects-none, log_effects-push, header_of-push, reservations_of-push}
use Rattle.overlap_law.specs.Drafts.{IsReservedEntry}
use Rattle.overlap_law.specs.Each.{spec_in}
use Rattle.overlap_law.specs.LastReads.{snaps, was_snapped}
use Rattle.overlap_law.specs.WriterClaims.{IsInPlaceOf}
use Rattle.overlap_law.proofs.DrawnClones.{parent_by, parent_after}
use Rattle.overlap_law.proofs.ReservedSources.{reserved_used}
use Rattle.overlap_law.proofs.ClosedSnapshots.{snaps-working, snapped-push}
use Rattle.overlap_law.proofs.DatedEffects.{by_entries}
use Rattle.overlap_law.proofs.PublishedInodes.{was_published, published-push, live_was}
use Rattle.overlap_law.specs.Grants.{publishes}
use Rattle.std.specs.List.{list_any}
use Rattle.overlap_law.proofs.GrantedEpochs.{from_front, not_again, used_next, used_push, spec_stays}
use Rattle.overlap_law.proofs.OldReservations.{reservation_was}
use Rattle.overlap_law.proofs.SnapshotChains.{HasElder, elders}
use Rattle.overlap_law.proofs.WriterChanges.{found_reserved, unused_free}

-- ---- what an id is made from

same_parent : (header : Option Header) → parent_by header ≡ header_parent header
same_parent None = refl
same_parent (Some header) = refl

parent_next : (log : List Entry) (entry : Entry) (vid : ℕ) → is_used (log_effects log) vid ≡ true
    → parent_of (log_effects (log ++ entry ∷ [])) vid ≡ parent_of (log_effects log) vid
parent_next log entry vid used =
    let effect : Effect = (outcome (log_effects log) entry).effect in
    let was : Option Header = header_of (log_effects log) vid in
    sym (same_parent (header_of (log_effects (log ++ entry ∷ [])) vid))
    ∙ ap parent_by
    (ap (λ (known : List Effect). header_of known vid) (log_effects-push log entry) ∙ header_of-push (log_effects log) effect vid)
    ∙ parent_after vid was effect (not_again log entry vid used) ∙ same_parent was

abbrev HasParentOf : List Entry → ℕ → List Entry → Type 0
HasParentOf log vid all = (is_used (log_effects all) vid ≡ true) × (parent_of (log_effects all) vid ≡ parent_of (log_effects log) vid)

pub parent_stays : (log later : List Entry) (vid : ℕ) → is_used (log_effects log) vid ≡ true
    → parent_of (log_effects (log ++ later)) vid ≡ parent_of (log_effects log) vid
parent_stays log later vid used =
    (from_front (HasParentOf log vid)
    (λ all entry is. (used_next all entry vid is.0, parent_next all entry vid is.0 ∙ is.1)) log later (used, refl)).1

-- what a used id is made with was so before
pub spec_was : (log later : List Entry) (vid : ℕ) (spec : VdiSpec) → is_used (log_effects log) vid ≡ true
    → spec_in (log_effects (log ++ later)) vid ≡ Some spec → spec_in (log_effects log) vid ≡ Some spec
spec_was log later vid spec used now = by_header (header_of (log_effects log) vid) refl
  where
    by_header : (o : Option Header) → header_of (log_effects log) vid ≡ o → spec_in (log_effects log) vid ≡ Some spec
    by_header None none =
        let known : is_some (header_of (log_effects log) vid) ≡ true = sym ((line-log_effects log).known vid) ∙ used in
        let not : is_some (header_of (log_effects log) vid) ≡ false = ap is_some none in
        absurd (cc (known, not))
    by_header (Some header) there =
        let was : spec_in (log_effects log) vid ≡ Some header.spec = ap (option_map (λ (h : Header). h.spec)) there in
        was ∙ sym (spec_stays log later vid header.spec was) ∙ now

-- ---- a reserved id

module _ (log : List Entry) (vid : ℕ) (r : Reservation)
    (stands : reservation_on (record { 0 = vid }) (reservations_of (log_effects log)) ≡ Some r) where
  pub state_reserved : state_of (log_effects log) vid ≡ Reserved r.by
  state_reserved = found_reserved (log_effects log) (sound-log_effects log) vid r stands

  pub used_reserved : is_used (log_effects log) vid ≡ true
  used_reserved = reserved_used log vid r.by state_reserved

  -- a clone's base was a snapshot
  pub base_snapped : (base : Vid) → parent_of (log_effects log) vid ≡ Some base → r.source ≡ sources.Clone
      → was_snapped log base.0 ≡ true
  base_snapped base parent clone = by_elder (elders log base.0 vid above)
    where
      above : is_above (log_effects log) base.0 vid ≡ true
      above =
          above-line (log_effects log) (line-log_effects log) base.0 vid
          ∙ ap (λ (o : Option Vid). is_parent_or_above (is_above (log_effects log)) base.0 o) parent
          ∙ or_left (base.0 == base.0) (is_above (log_effects log) base.0 base.0) (eq-eqb base.0 base.0 refl)

      no_place : (source : Source) → source ≡ sources.Clone → IsInPlaceOf base.0 source → was_snapped log base.0 ≡ true
      no_place sources.Fresh is (tag, place) = absurd (cc (place))
      no_place (sources.Snapshot old of) is place = absurd (cc (is))
      no_place sources.Clone is (tag, place) = absurd (cc (place))

      by_elder : HasElder log base.0 vid → was_snapped log base.0 ≡ true
      by_elder (inl was) = was
      by_elder (inr (inl (other, found, place))) =
          no_place other.source (ap (λ (x : Reservation). x.source) (same_Some other r (sym found ∙ stands)) ∙ clone) place
      by_elder (inr (inr four)) =
          let one : rank (state_of (log_effects log) vid) ≡ rank (Reserved r.by) = ap rank state_reserved in
          absurd (omega (arith, four, one))

-- ---- before

-- what is reserved of a used id was so before
pub was_draft : (log later : List Entry) (good_id : ℕ → Bool) (vid index : ℕ) → is_used (log_effects log) vid ≡ true
    → IsReservedEntry (log_effects (log ++ later)) good_id vid index → IsReservedEntry (log_effects log) good_id vid index
was_draft log later good_id vid index used draft = record {
  reservation = draft.reservation;
  stands = reservation_was log later vid draft.reservation used draft.stands;
  good = draft.good;
  spec = draft.spec;
  made_with = spec_was log later vid draft.spec used draft.made_with;
  within = draft.within;
}

-- ---- as it is reserved

-- the effect that grants an id
grant_so : (vid : ℕ) (effect : Effect) → grants vid effect ≡ true
    → (grant : Grant) × (effect ≡ effects.Reserved grant) × ((grant.reservation.vid.0 == vid) ≡ true)
grant_so vid effects.Nothing is = absurd (cc (is))
grant_so vid (effects.Reserved grant) is = (grant, refl, is)
grant_so vid (effects.Published id name) is = absurd (cc (is))
grant_so vid (effects.Snapped snap) is = absurd (cc (is))
grant_so vid (effects.Deleted id name) is = absurd (cc (is))
grant_so vid (effects.Held id holder) is = absurd (cc (is))
grant_so vid (effects.Freed id) is = absurd (cc (is))
grant_so vid (effects.Withdrawn id) is = absurd (cc (is))
grant_so vid (effects.Left node) is = absurd (cc (is))

module _ (log : List Entry) (entry : Entry) (vid : ℕ) (unused : is_used (log_effects log) vid ≡ false) where
  abbrev before : List Effect
  before = log_effects log

  abbrev does : Effect
  does = (outcome (log_effects log) entry).effect

  granted_by : is_used (log_effects (log ++ entry ∷ [])) vid ≡ true → grants vid (outcome (log_effects log) entry).effect ≡ true
  granted_by used =
      sym (ap (λ (b : Bool). b || grants vid (outcome (log_effects log) entry).effect) unused) ∙ sym (used_push log entry vid) ∙ used

  module _ (grant : Grant) (is : (outcome (log_effects log) entry).effect ≡ effects.Reserved grant)
      (here : (grant.reservation.vid.0 == vid) ≡ true) where
    lawful : IsLawful (log_effects log) (effects.Reserved grant)
    lawful = subst (IsLawful (log_effects log)) is (lawful-outcome (log_effects log) (sound-log_effects log) entry)

    made : IsMadeSo (log_effects log) (effects.Reserved grant)
    made = subst (IsMadeSo (log_effects log)) is (outcome_so (log_effects log) (sound-log_effects log) entry)

    none : reservation_on (record { 0 = vid }) (reservations_of (log_effects log)) ≡ None
    none =
        unused_free before (sound-log_effects log) vid
        (ap (state_of before) (sym (eqb-true grant.reservation.vid.0 vid here))
        ∙ (sound-log_effects log).unused grant.reservation.vid.0 lawful.1)

    pub found : reservation_on (record { 0 = vid }) (reservations_of (log_effects (log ++ entry ∷ []))) ≡ Some grant.reservation
    found =
        ap (λ (all : List Effect). reservation_on (record { 0 = vid }) (reservations_of all)) (log_effects-push log entry)
        ∙ ap (reservation_on (record { 0 = vid })) (reservations_of-push before does)
        ∙ ap (λ (e : Effect). reservation_on (record { 0 = vid }) (reservations_after (reservations_of before) e)) is
        ∙ find-append (λ (r : Reservation). r.vid.0 == vid) (reservations_of before) (grant.reservation ∷ [])
        ∙ (λ i. option_or (none i) (cond (here i) (Some grant.reservation) None))

    header_so : header_of (log_effects (log ++ entry ∷ [])) vid ≡ Some grant.header
    header_so =
        ap (λ (all : List Effect). header_of all vid) (log_effects-push log entry) ∙ header_of-push before does vid
        ∙ ap (header_after vid (header_of before vid)) is
        ∙ ap (λ (b : Bool). cond b (Some grant.header) (header_of before vid)) here

    live_base : (base : Vid) → parent_of (log_effects (log ++ entry ∷ [])) vid ≡ Some base → (r : Reservation)
        → reservation_on (record { 0 = vid }) (reservations_of (log_effects (log ++ entry ∷ []))) ≡ Some r → r.source ≡ sources.Clone
        → IsLiveSnapshot (state_of (log_effects log) base.0)
    live_base base parent r stands clone = ⊎_elim
        (λ (place : (tag : List ℕ) × (grant.reservation.source ≡ sources.Snapshot base tag)).
        let taken = place.1 in
        let cloned = ap (λ (x : Reservation). x.source) (same_Some grant.reservation r (sym found ∙ stands)) ∙ clone in
        absurd (cc (taken, cloned)))
        (λ (live : IsLiveSnapshot (state_of (log_effects log) base.0)). live)
        (made.0 base (ap header_parent (sym header_so) ∙ parent))

    parent_so : (r : Reservation) → reservation_on (record { 0 = vid }) (reservations_of (log_effects (log ++ entry ∷ []))) ≡ Some r
        → IsSourceParent r.source (parent_of (log_effects (log ++ entry ∷ [])) vid)
    parent_so r stands =
        subst (λ (x : Reservation). IsSourceParent x.source (parent_of (log_effects (log ++ entry ∷ [])) vid))
        (same_Some grant.reservation r (sym found ∙ stands))
        (subst (IsSourceParent grant.reservation.source) (sym (ap header_parent header_so))
        made.1.0)

  pub parent_granted : (r : Reservation)
      → reservation_on (record { 0 = vid }) (reservations_of (log_effects (log ++ entry ∷ []))) ≡ Some r
      → IsSourceParent r.source (parent_of (log_effects (log ++ entry ∷ [])) vid)
  parent_granted r stands =
      let (grant, is, here) = grant_so vid (outcome (log_effects log) entry).effect
      (granted_by (used_reserved (log ++ entry ∷ []) vid r stands)) in
      parent_so grant is here r stands

  -- the base of a clone whose id is reserved now is a snapshot
  pub base_lives : (base : Vid) → parent_of (log_effects (log ++ entry ∷ [])) vid ≡ Some base → (r : Reservation)
      → reservation_on (record { 0 = vid }) (reservations_of (log_effects (log ++ entry ∷ []))) ≡ Some r → r.source ≡ sources.Clone
      → IsLiveSnapshot (state_of (log_effects log) base.0)
  base_lives base parent r stands clone =
      let (grant, is, here) = grant_so vid (outcome (log_effects log) entry).effect
      (granted_by (used_reserved (log ++ entry ∷ []) vid r stands)) in
      live_base grant is here base parent r stands clone

-- an id that is made from another has a header that says so
pub header_with : (effects : List Effect) (vid : ℕ) (base : Vid) → parent_of effects vid ≡ Some base
    → (header : Header) × (header_of effects vid ≡ Some header) × (header.parent ≡ Some base)
header_with effects vid base parent = by_header (header_of effects vid) refl parent
  where
    by_header : (o : Option Header) → header_of effects vid ≡ o → header_parent o ≡ Some base
        → (header : Header) × (header_of effects vid ≡ Some header) × (header.parent ≡ Some base)
    by_header None there parent = absurd (cc (parent))
    by_header (Some header) there parent = (header, there, parent)

-- ---- of each reservation

abbrev SourcesHaveParents : List Entry → Type 0
SourcesHaveParents log = (vid : ℕ) (r : Reservation) → reservation_on (record { 0 = vid }) (reservations_of (log_effects log)) ≡ Some r
    → IsSourceParent r.source (parent_of (log_effects log) vid)

parents_next : (log : List Entry) (entry : Entry) → SourcesHaveParents log → SourcesHaveParents (log ++ entry ∷ [])
parents_next log entry before vid r stands = by_used (is_used (log_effects log) vid) refl
  where
    by_used : (b : Bool) → is_used (log_effects log) vid ≡ b → IsSourceParent r.source (parent_of (log_effects (log ++ entry ∷ [])) vid)
    by_used true used =
        subst (IsSourceParent r.source) (sym (parent_next log entry vid used))
        (before vid r (reservation_was log (entry ∷ []) vid r used stands))
    by_used false unused = parent_granted log entry vid unused r stands

pub parents_so : (log : List Entry) → SourcesHaveParents log
unfolding reservations_of
parents_so log = from_front SourcesHaveParents parents_next [] log
    (λ vid r stands.
    let none : reservation_on (record { 0 = vid }) (reservations_of (log_effects [])) ≡ None
    = ap (λ (all : List Effect). reservation_on (record { 0 = vid }) (reservations_of all)) log_effects-none in
    absurd (cc (none, stands)))

-- what became a snapshot was published
pub published_next : (log : List Entry) (entry : Entry) (vid : ℕ) → was_published log vid ≡ true
    → was_published (log ++ entry ∷ []) vid ≡ true
published_next log entry vid was =
    published-push log entry vid
    ∙ ap (λ (b : Bool). b || (publishes vid (outcome (log_effects log) entry).effect || false)) was

pub snapped_published : (vid : ℕ) (log : List Entry) → was_snapped log vid ≡ true → was_published log vid ≡ true
snapped_published vid = by_entries (λ (log : List Entry). was_snapped log vid ≡ true → was_published log vid ≡ true)
    (λ is.
    let none : was_snapped [] vid ≡ false = ap (list_any (snaps vid)) log_effects-none in
    absurd (cc (none, is)))
    (λ log entry before is. ⊎_elim
    (λ (was : was_snapped log vid ≡ true). published_next log entry vid (before was))
    (λ (now : (snaps vid (outcome (log_effects log) entry).effect || false) ≡ true).
    let works = snaps-working (log_effects log) (outcome (log_effects log) entry).effect vid
    (lawful-outcome (log_effects log) (sound-log_effects log) entry) (or_none (snaps vid (outcome (log_effects log) entry).effect) now) in
    published_next log entry vid (live_was vid log (ap is_live_state works)))
    (or_cases (was_snapped log vid) (snaps vid (outcome (log_effects log) entry).effect || false) (sym (snapped-push log entry vid) ∙ is)))
  where
    or_none : (b : Bool) → (b || false) ≡ true → b ≡ true
    or_none true is = refl
    or_none false is = absurd (cc (is))
