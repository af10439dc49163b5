-- Of whatever log, an id above one that is published and not deleted is that of a disk which became a snapshot: what a clone is made of is
-- one, and the id that takes a snapshot's place is published as the disk becomes one.
use Rattle.std.proofs.Common.{◌≡◌, ◌⊎◌, inl, inr, ⊎_elim, arith, ℕ, ◌≤◌, ◌==◌, ◌||◌, Bool, true, false, cond, List, [], ◌∷◌, ◌++◌, Some}
use Rattle.std.proofs.Common.{None, refl, sym, ap, subst, ◌∙◌}
use Rattle.std.specs.Option.{option_or}
use Rattle.std.proofs.lemmas.Bool.{eq-eqb, eqb-true, or_cases, or_right}
use Rattle.std.proofs.lemmas.List.Folds.{find-append}
use Rattle.std.proofs.lemmas.Option.{same_Some}
use Rattle.object_id.specs.declared.entry.Entry.{Entry}
use Rattle.object_id.specs.declared.node.NodeId.{NodeId}
use Rattle.object_id.specs.declared.oid.Vid.{Vid}
use Rattle.vdi_directory.specs.declared.effect.Effect.{Effect}
use Rattle.vdi_directory.specs.declared.effect.Effect.TheVariants as effects
use Rattle.vdi_directory.specs.declared.effect.Grant.{Grant}
use Rattle.vdi_directory.specs.declared.effect.Reservation.{Reservation}
use Rattle.vdi_directory.specs.declared.effect.Source.{Source}
use Rattle.vdi_directory.specs.declared.effect.Source.TheVariants as sources
use Rattle.vdi_directory.specs.Chains.{chain_of, is_above}
use Rattle.vdi_directory.specs.Decisions.{outcome, log_effects}
use Rattle.vdi_directory.specs.Effects.{reservations_after, reservations_of, reservation_on}
use Rattle.vdi_directory.specs.Sound.{IsLiveSnapshot, IsSound, IsLawful}
use Rattle.vdi_directory.specs.Sources.{is_for, tag_for}
use Rattle.vdi_directory.specs.States as states
use Rattle.vdi_directory.specs.States.{VdiState, rank, freed_state, state_after_leave, state_after, state_of, is_live_state}
use Rattle.vdi_directory.proofs.ChainLemmas.{is_parent_or_above, is_above-push}
use Rattle.vdi_directory.proofs.DeadLemmas.{above-cases, parent-cases, parent-live}
use Rattle.vdi_directory.proofs.DecisionLaws.{states-forward}
use Rattle.vdi_directory.proofs.LawfulEntries.{lawful-outcome, sound-log_effects}
use Rattle.vdi_directory.proofs.SoundEffects.{state_of-push}
use Rattle.vdi_directory.proofs.StateLemmas.{log_effects-none, log_effects-push, reservations_of-push}
use Rattle.overlap_law.specs.Grants.{takes_writer}
use Rattle.overlap_law.specs.LastReads.{snaps, was_snapped}
use Rattle.overlap_law.specs.WriterClaims.{IsInPlaceOf}
use Rattle.overlap_law.proofs.ClosedSnapshots.{snapped-push}
use Rattle.overlap_law.proofs.DatedEffects.{by_entries}
use Rattle.overlap_law.proofs.MadeEffects.{IsMadeSo, outcome_so}
use Rattle.overlap_law.proofs.WriterChanges.{unused_free, found_reserved, reservation_stays}

-- ---- a snapshot became one

pub snapshot-from : (vid : ℕ) (state : VdiState) (effect : Effect) → IsLiveSnapshot (state_after vid state effect)
    → (snaps vid effect ≡ true) ⊎ IsLiveSnapshot state
snapshot-from vid state effects.Nothing is = inr is
snapshot-from vid state (effects.Reserved grant) is = by_test (grant.reservation.vid.0 == vid) is
  where
    by_test : (b : Bool) → IsLiveSnapshot (cond b (states.Reserved grant.reservation.by) state) → (false ≡ true) ⊎ IsLiveSnapshot state
    by_test true (tag, same) = absurd (cc (same))
    by_test false is = inr is
snapshot-from vid state (effects.Published of name) is = by_test (of.0 == vid) is
  where
    by_test : (b : Bool) → IsLiveSnapshot (cond b states.Working state) → (false ≡ true) ⊎ IsLiveSnapshot state
    by_test true (tag, same) = absurd (cc (same))
    by_test false is = inr is
snapshot-from vid state (effects.Snapped snap) is = by_test (snap.old.0 == vid) refl is
  where
    by_new : (b : Bool) → IsLiveSnapshot (cond b states.Working state) → ((snap.old.0 == vid) ≡ true) ⊎ IsLiveSnapshot state
    by_new true (tag, same) = absurd (cc (same))
    by_new false is = inr is

    by_test : (b : Bool) → (snap.old.0 == vid) ≡ b
        → IsLiveSnapshot (cond b (states.Snapshot snap.tag) (cond (snap.vid.0 == vid) states.Working state))
        → ((snap.old.0 == vid) ≡ true) ⊎ IsLiveSnapshot state
    by_test true here is = inl here
    by_test false apart is = by_new (snap.vid.0 == vid) is
snapshot-from vid state (effects.Deleted of name) is = by_test (of.0 == vid) is
  where
    by_test : (b : Bool) → IsLiveSnapshot (cond b states.Deleted state) → (false ≡ true) ⊎ IsLiveSnapshot state
    by_test true (tag, same) = absurd (cc (same))
    by_test false is = inr is
snapshot-from vid state (effects.Held of holder) is = inr is
snapshot-from vid state (effects.Freed of) is = inr is
snapshot-from vid state (effects.Withdrawn of) is = by_test (of.0 == vid) is
  where
    by_state : (state : VdiState) → IsLiveSnapshot (freed_state state) → IsLiveSnapshot state
    by_state states.Unused is = is
    by_state (states.Reserved by) (tag, same) = absurd (cc (same))
    by_state states.Working is = is
    by_state (states.Snapshot tag) is = is
    by_state states.Deleted is = is
    by_state states.Freed is = is

    by_test : (b : Bool) → IsLiveSnapshot (cond b (freed_state state) state) → (false ≡ true) ⊎ IsLiveSnapshot state
    by_test true is = inr (by_state state is)
    by_test false is = inr is
snapshot-from vid state (effects.Left node) is = inr (by_state state is)
  where
    by_leave : (by : NodeId) (b : Bool) → IsLiveSnapshot (cond b states.Freed (states.Reserved by)) → IsLiveSnapshot (states.Reserved by)
    by_leave by true (tag, same) = absurd (cc (same))
    by_leave by false is = is

    by_state : (state : VdiState) → IsLiveSnapshot (state_after_leave node.0 state) → IsLiveSnapshot state
    by_state states.Unused is = is
    by_state (states.Reserved by) is = by_leave by (by.0 == node.0) is
    by_state states.Working is = is
    by_state (states.Snapshot tag) is = is
    by_state states.Deleted is = is
    by_state states.Freed is = is

module _ (log : List Entry) (entry : Entry) (vid : ℕ) where
  -- what became one stays one
  pub was_then : was_snapped log vid ≡ true → was_snapped (log ++ entry ∷ []) vid ≡ true
  was_then was = snapped-push log entry vid ∙ ap (λ (b : Bool). b || (snaps vid (outcome (log_effects log) entry).effect || false)) was

  pub is_now : snaps vid (outcome (log_effects log) entry).effect ≡ true → was_snapped (log ++ entry ∷ []) vid ≡ true
  is_now is =
      snapped-push log entry vid
      ∙ or_right (was_snapped log vid) (snaps vid (outcome (log_effects log) entry).effect || false) (ap (λ (b : Bool). b || false) is)

  pub state_then : state_of (log_effects (log ++ entry ∷ [])) vid
      ≡ state_after vid (state_of (log_effects log) vid) (outcome (log_effects log) entry).effect
  state_then =
      ap (λ (all : List Effect). state_of all vid) (log_effects-push log entry)
      ∙ state_of-push (log_effects log) (outcome (log_effects log) entry).effect vid

none_live : (vid : ℕ) → IsLiveSnapshot (state_of [] vid) → ⊥
unfolding state_of
none_live vid (tag, same) = absurd (cc (same))

pub snapshot_was : (vid : ℕ) (log : List Entry) → IsLiveSnapshot (state_of (log_effects log) vid) → was_snapped log vid ≡ true
snapshot_was vid = by_entries (λ (log : List Entry). IsLiveSnapshot (state_of (log_effects log) vid) → was_snapped log vid ≡ true)
    (λ is. absurd (none_live vid (subst (λ (all : List Effect). IsLiveSnapshot (state_of all vid)) log_effects-none is))) one_more
  where
    one_more : (log : List Entry) (entry : Entry) → (IsLiveSnapshot (state_of (log_effects log) vid) → was_snapped log vid ≡ true)
        → IsLiveSnapshot (state_of (log_effects (log ++ entry ∷ [])) vid) → was_snapped (log ++ entry ∷ []) vid ≡ true
    one_more log entry before is = ⊎_elim
        (λ (now : snaps vid (outcome (log_effects log) entry).effect ≡ true). is_now log entry vid now)
        (λ (live : IsLiveSnapshot (state_of (log_effects log) vid)). was_then log entry vid (before live))
        (snapshot-from vid (state_of (log_effects log) vid) (outcome (log_effects log) entry).effect
        (subst IsLiveSnapshot (state_then log entry vid) is))

-- ---- what is above an id

-- an id is reserved to take the place of another
abbrev pub HasBase : List Effect → ℕ → ℕ → Type 0
HasBase before elder vid =
    (r : Reservation) × (reservation_on (record { 0 = vid }) (reservations_of before) ≡ Some r) × IsInPlaceOf elder r.source

live_no_four : (state : VdiState) → is_live_state state ≡ true → rank state ≡ 4 → ⊥
live_no_four states.Unused live four = cc (live)
live_no_four (states.Reserved by) live four = cc (live)
live_no_four states.Working live four = omega (arith, four)
live_no_four (states.Snapshot tag) live four = omega (arith, four)
live_no_four states.Deleted live four = cc (live)
live_no_four states.Freed live four = cc (live)

most_four : (state : VdiState) → rank state ≤ 4
most_four states.Unused = omega arith
most_four (states.Reserved by) = omega arith
most_four states.Working = omega arith
most_four (states.Snapshot tag) = omega arith
most_four states.Deleted = omega arith
most_four states.Freed = omega arith

-- what is to take a place isn't published as a new disk
not_for : (elder : ℕ) (clones : Bool) (source : Source) → IsInPlaceOf elder source → is_for clones source ≡ true → ⊥
not_for elder clones sources.Fresh (tag, is) right = cc (is)
not_for elder clones (sources.Snapshot of tag) place right = cc (right)
not_for elder clones sources.Clone (tag, is) right = cc (is)

if_some : (b : Bool) (tag given : List ℕ) → cond b (Some tag) None ≡ Some given → b ≡ true
if_some true tag given is = refl
if_some false tag given is = absurd (cc (is))

-- and takes one place
one_place : (old : Vid) (elder : ℕ) (source : Source) (tag : List ℕ) → tag_for old source ≡ Some tag → IsInPlaceOf elder source
    → (old.0 == elder) ≡ true
one_place old elder sources.Fresh tag is place = absurd (cc (is))
one_place old elder (sources.Snapshot of given) tag is place =
    eq-eqb old.0 elder (sym (eqb-true of.0 old.0 (if_some (of.0 == old.0) given tag is))
    ∙ eqb-true of.0 elder (if_some (of.0 == elder) given place.0 place.1))
one_place old elder sources.Clone tag is place = absurd (cc (is))

module _ (before : List Effect) (sound : IsSound before) (elder vid : ℕ) (r : Reservation)
    (found : reservation_on (record { 0 = vid }) (reservations_of before) ≡ Some r) (place : IsInPlaceOf elder r.source) where
  reserved : state_of before vid ≡ states.Reserved r.by
  reserved = found_reserved before sound vid r found

  -- the reservation is the one that is found on the id of an effect
  the_same : (of : Vid) (other : Reservation) → (of.0 == vid) ≡ true → reservation_on of (reservations_of before) ≡ Some other → other ≡ r
  the_same of other here there =
      same_Some other r
      (sym there ∙ ap (λ (k : ℕ). reservation_on (record { 0 = k }) (reservations_of before)) (eqb-true of.0 vid here) ∙ found)

  -- what may take it from who has it
  taken : (effect : Effect) → IsLawful before effect → IsMadeSo before effect → takes_writer vid r.by effect ≡ true
      → (snaps elder effect ≡ true) ⊎ ((reservation_on (record { 0 = vid }) (reservations_after (reservations_of before) effect) ≡ Some r)
      ⊎ (rank (state_after vid (state_of before vid) effect) ≡ 4))
  taken effects.Nothing lawful so takes = absurd (cc (takes))
  taken (effects.Reserved grant) lawful so takes = absurd (cc (takes))
  taken (effects.Published of name) lawful so takes =
      absurd (not_for elder so.2 r.source place (ap (λ (r : Reservation). is_for so.2 r.source) (sym (the_same of so.0 takes so.1)) ∙ so.3))
  taken (effects.Snapped snap) lawful so takes = ⊎_elim
      (λ (old : (snap.old.0 == vid) ≡ true).
      let works : state_of before vid ≡ states.Working = ap (state_of before) (sym (eqb-true snap.old.0 vid old)) ∙ lawful.0.state in
      absurd (cc (sym reserved ∙ works)))
      (λ (new : (snap.vid.0 == vid) ≡ true).
      inl (one_place snap.old elder r.source snap.tag (ap (λ (r : Reservation). tag_for snap.old r.source)
      (sym (the_same snap.vid so.0 new so.1)) ∙ so.2) place)) (or_cases (snap.old.0 == vid) (snap.vid.0 == vid) takes)
  taken (effects.Deleted of name) lawful so takes = absurd (cc (takes))
  taken (effects.Held of holder) lawful so takes = absurd (cc (takes))
  taken (effects.Freed of) lawful so takes = inr (inl found)
  taken (effects.Withdrawn of) lawful so takes = inr (inr (λ i. rank (cond (takes i) (freed_state (reserved i)) (reserved i))))
  taken (effects.Left node) lawful so takes =
      inr (inr (ap (λ (s : VdiState). rank (state_after_leave node.0 s)) reserved
      ∙ ap (λ (b : Bool). rank (cond b states.Freed (states.Reserved r.by))) takes))

-- an id above another is a snapshot's, or the other is reserved in its place, or is gone
abbrev pub HasElder : List Entry → ℕ → ℕ → Type 0
HasElder log elder vid =
    (was_snapped log elder ≡ true) ⊎ (HasBase (log_effects log) elder vid ⊎ (rank (state_of (log_effects log) vid) ≡ 4))

module _ (log : List Entry) (entry : Entry) where
  abbrev before : List Effect
  before = log_effects log

  abbrev does : Effect
  does = (outcome (log_effects log) entry).effect

  sound : IsSound (log_effects log)
  sound = sound-log_effects log

  lawful : IsLawful (log_effects log) (outcome (log_effects log) entry).effect
  lawful = lawful-outcome (log_effects log) (sound-log_effects log) entry

  so : IsMadeSo (log_effects log) (outcome (log_effects log) entry).effect
  so = outcome_so (log_effects log) (sound-log_effects log) entry

  found_then : (vid : ℕ) → reservation_on (record { 0 = vid }) (reservations_of (log_effects (log ++ entry ∷ [])))
      ≡ reservation_on (record { 0 = vid }) (reservations_after (reservations_of (log_effects log))
      (outcome (log_effects log) entry).effect)
  found_then vid =
      ap (λ (all : List Effect). reservation_on (record { 0 = vid }) (reservations_of all)) (log_effects-push log entry)
      ∙ ap (reservation_on (record { 0 = vid })) (reservations_of-push before does)

  module _ (elder vid : ℕ) where
    base_then : HasBase (log_effects log) elder vid → HasElder (log ++ entry ∷ []) elder vid
    base_then (r, found, place) = by_take (takes_writer vid r.by does) refl
      where
        by_take : (b : Bool) → takes_writer vid r.by (outcome (log_effects log) entry).effect ≡ b → HasElder (log ++ entry ∷ []) elder vid
        by_take false keeps = inr (inl (r, found_then vid ∙ reservation_stays before sound vid r does found keeps, place))
        by_take true takes = ⊎_elim
            (λ (now : snaps elder (outcome (log_effects log) entry).effect ≡ true). inl (is_now log entry elder now))
            (λ (other : (reservation_on (record {
              0 = vid;
            }) (reservations_after (reservations_of (log_effects log)) (outcome (log_effects log) entry).effect) ≡ Some r)
            ⊎ (rank (state_after vid (state_of (log_effects log) vid) (outcome (log_effects log) entry).effect) ≡ 4)).
            ⊎_elim
            (λ (still : reservation_on (record {
              0 = vid;
            }) (reservations_after (reservations_of (log_effects log)) (outcome (log_effects log) entry).effect) ≡ Some r).
            inr (inl (r, found_then vid ∙ still, place)))
            (λ (four : rank (state_after vid (state_of (log_effects log) vid) (outcome (log_effects log) entry).effect) ≡ 4).
            inr (inr (ap rank (state_then log entry vid) ∙ four)))
            other)
            (taken before sound elder vid r found place does lawful so takes)

    old_then : HasElder log elder vid → HasElder (log ++ entry ∷ []) elder vid
    old_then (inl was) = inl (was_then log entry elder was)
    old_then (inr (inl base)) = base_then base
    old_then (inr (inr four)) =
        let on = states-forward log (entry ∷ []) vid in
        let most = most_four (state_of (log_effects (log ++ entry ∷ [])) vid) in
        inr (inr (omega (arith, four, on, most)))

    -- a new id, with what it is made of
    new_then : ((a b : ℕ) → is_above (log_effects log) a b ≡ true → HasElder log a b) → (grant : Grant)
        → (outcome (log_effects log) entry).effect ≡ effects.Reserved grant → (grant.reservation.vid.0 == vid) ≡ true
        → (p : Vid) → grant.header.parent ≡ Some p → (p.0 ≡ elder) ⊎ (is_above (log_effects log) elder p.0 ≡ true)
        → HasElder (log ++ entry ∷ []) elder vid
    new_then all grant is here p parent (inl same) = ⊎_elim
        (λ (base : (tag : List ℕ) × (grant.reservation.source ≡ sources.Snapshot p tag)).
        inr (inl (
          grant.reservation,
          found,
          (
            base.0,
            ap (tag_for (record { 0 = elder })) base.1 ∙ ap (λ (b : Bool). cond b (Some base.0) None) (eq-eqb p.0 elder same),
          ),
        )))
        (λ (live : IsLiveSnapshot (state_of (log_effects log) p.0)).
        inl (was_then log entry elder (ap (was_snapped log) (sym same) ∙ snapshot_was p.0 log live)))
        (made.0 p parent)
      where
        made : IsMadeSo (log_effects log) (effects.Reserved grant)
        made = subst (IsMadeSo (log_effects log)) is so

        granted : IsLawful (log_effects log) (effects.Reserved grant)
        granted = subst (IsLawful (log_effects log)) is lawful

        id : grant.reservation.vid.0 ≡ vid
        id = eqb-true grant.reservation.vid.0 vid here

        none : reservation_on (record { 0 = vid }) (reservations_of (log_effects log)) ≡ None
        none = unused_free before sound vid (ap (state_of before) (sym id) ∙ sound.unused grant.reservation.vid.0 granted.1)

        found : reservation_on (record { 0 = vid }) (reservations_of (log_effects (log ++ entry ∷ []))) ≡ Some grant.reservation
        found =
            found_then vid ∙ ap (λ (e : Effect). reservation_on (record { 0 = vid }) (reservations_after (reservations_of before) e)) is
            ∙ find-append (λ (r : Reservation). r.vid.0 == vid) (reservations_of before) (grant.reservation ∷ [])
            ∙ (λ i. option_or (none i) (cond (here i) (Some grant.reservation) None))
    new_then all grant is here p parent (inr above) = by_elder (all elder p.0 above)
      where
        live : is_live_state (state_of (log_effects log) p.0) ≡ true
        live = parent-live before does grant p lawful is parent

        by_elder : HasElder log elder p.0 → HasElder (log ++ entry ∷ []) elder vid
        by_elder (inl was) = inl (was_then log entry elder was)
        by_elder (inr (inl (r, found, place))) =
            let reserved = ap is_live_state (found_reserved before sound p.0 r found) in
            absurd (cc (live, reserved))
        by_elder (inr (inr four)) = absurd (live_no_four (state_of before p.0) live four)

  elders_then : ((a b : ℕ) → is_above (log_effects log) a b ≡ true → HasElder log a b) → (elder vid : ℕ)
      → is_above (log_effects (log ++ entry ∷ [])) elder vid ≡ true → HasElder (log ++ entry ∷ []) elder vid
  elders_then all elder vid above = ⊎_elim
      (λ (old : is_above (log_effects log) elder vid ≡ true). old_then elder vid (all elder vid old))
      (λ (new : (grant : Grant) × (does ≡ effects.Reserved grant) × ((grant.reservation.vid.0 == vid) ≡ true)
      × (is_parent_or_above (is_above before) elder grant.header.parent ≡ true)).
      let parent = parent-cases before elder new.0.header.parent new.3 in
      new_then elder vid all new.0 new.1 new.2 parent.0 parent.1 parent.2)
      (above-cases before does elder vid
      (sym (ap (λ (effects : List Effect). is_above effects elder vid) (log_effects-push log entry) ∙ is_above-push before elder vid does)
      ∙ above))

none_above : (elder vid : ℕ) → is_above [] elder vid ≡ true → ⊥
unfolding is_above chain_of
none_above elder vid above = absurd (cc (above))

pub elders : (log : List Entry) (elder vid : ℕ) → is_above (log_effects log) elder vid ≡ true → HasElder log elder vid
elders = by_entries (λ (log : List Entry). (elder vid : ℕ) → is_above (log_effects log) elder vid ≡ true → HasElder log elder vid)
    (λ elder vid above. absurd (none_above elder vid (subst (λ (all : List Effect). is_above all elder vid ≡ true) log_effects-none above)))
    (λ log entry all. elders_then log entry all)

pub chain_snapped : (log : List Entry) (elder vid : ℕ) → is_above (log_effects log) elder vid ≡ true
    → is_live_state (state_of (log_effects log) vid) ≡ true
    → was_snapped log elder ≡ true
chain_snapped log elder vid above live = by_elder (elders log elder vid above)
  where
    by_elder : HasElder log elder vid → was_snapped log elder ≡ true
    by_elder (inl was) = was
    by_elder (inr (inl (r, found, place))) =
        let reserved = ap is_live_state (found_reserved (log_effects log) (sound-log_effects log) vid r found) in
        absurd (cc (live, reserved))
    by_elder (inr (inr four)) = absurd (live_no_four (state_of (log_effects log) vid) live four)
