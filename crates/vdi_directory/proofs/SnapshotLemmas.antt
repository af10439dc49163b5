-- Every snapshot stands among those of its name.
use Rattle.std.proofs.Common.{◌≡◌, inl, inr, ℕ, ◌==◌, not, Bool, true, false, cond, List, [], ◌∷◌, ◌++◌, filter, Some, refl, ap, sym, ◌∙◌, subst}
use Rattle.std.proofs.lemmas.Bool.{eqb-true, eq-eqb, ne_eqb, both_ways, cond_both}
use Rattle.object_id.specs.declared.oid.Vid.{Vid}
use Rattle.object_id.specs.declared.entry.Entry.{Entry}
use Rattle.vdi_directory.specs.declared.live_snapshot.LiveSnapshot.{LiveSnapshot}
use Rattle.vdi_directory.specs.declared.effect.Effect.{Effect}
use Rattle.vdi_directory.specs.declared.effect.Effect.TheVariants as effects
use Rattle.vdi_directory.specs.Names.{Name, is_same_bytes, name_with_working, name_with_snapshot, name_without}
use Rattle.vdi_directory.specs.Effects.{grants, name_after, name_of}
use Rattle.vdi_directory.specs.Decisions.{outcome, log_effects}
use Rattle.vdi_directory.specs.States.{VdiState, Reserved, Working, Snapshot, Deleted, Freed, freed_state, state_after_leave, state_after, state_of, owner_of}
use Rattle.vdi_directory.specs.Sound.{In, IsLawful}
use Rattle.vdi_directory.proofs.NameLemmas.{is-same}
use Rattle.vdi_directory.proofs.StateLemmas.{log_effects-none, name_of-push}
use Rattle.vdi_directory.proofs.SoundEffects.{state_of-push, owner-kept}
use Rattle.vdi_directory.proofs.LawfulEntries.{lawful-outcome, sound-log_effects}
use Rattle.vdi_directory.proofs.DecisionLaws.{kept-later}

in-state_after_leave : {X : Type 0} (x : X) (xs ys : List X) → In x xs → In x (xs ++ ys)
in-state_after_leave x [] ys there = absurd there
in-state_after_leave x (y ∷ xs) ys (inl same) = inl same
in-state_after_leave x (y ∷ xs) ys (inr there) = inr (in-state_after_leave x xs ys there)

in-last : {X : Type 0} (x : X) (xs : List X) → In x (xs ++ x ∷ [])
in-last x [] = inl refl
in-last x (y ∷ xs) = inr (in-last x xs)

in-kept : {X : Type 0} (p : X → Bool) (x : X) (xs : List X) → p x ≡ true → In x xs → In x (filter p xs)
in-kept p x [] keeps there = absurd there
in-kept p x (y ∷ ys) keeps there = by_test (p y) refl there (in-kept p x ys keeps)
  where
    by_test : (b : Bool) → p y ≡ b → In x (y ∷ ys) → (In x ys → In x (filter p ys)) → In x (cond b (y ∷ filter p ys) (filter p ys))
    by_test true kept (inl same) later = inl same
    by_test true kept (inr there) later = inr (later there)
    by_test false lost (inl same) later = absurd (never (sym (ap p same ∙ keeps) ∙ lost))
      where
        never : true ≡ false → ⊥
        never e = cc
    by_test false lost (inr there) later = later there

-- what is a snapshot after an effect, and not by it
live_snapshot-freed_state : (s : VdiState) (tag : List ℕ) → freed_state s ≡ Snapshot tag → s ≡ Snapshot tag
live_snapshot-freed_state (Reserved by) tag is = cc
live_snapshot-freed_state s tag is = is

live_snapshot-state_after_leave : (node : ℕ) (s : VdiState) (tag : List ℕ) → state_after_leave node s ≡ Snapshot tag → s ≡ Snapshot tag
live_snapshot-state_after_leave node (Reserved by) tag is = by_test (by.0 == node) is
  where
    by_test : (b : Bool) → cond b Freed (Reserved by) ≡ Snapshot tag → Reserved by ≡ Snapshot tag
    by_test true is = cc
    by_test false is = is
live_snapshot-state_after_leave node s tag is = is

AreListed : List Effect → Type 0
AreListed before = (name tag : List ℕ) (vid : Vid) → state_of before vid.0 ≡ Snapshot tag → owner_of before vid.0 ≡ Some name
    → In (record { vid = vid; tag = tag }) (name_of before name).live_snapshots

listed-none : AreListed []
unfolding AreListed state_of
listed-none = λ name tag vid is owner. cc

module _ (before : List Effect) (listed : AreListed before) (name tag : List ℕ) (vid : Vid) where
  abbrev it : LiveSnapshot
  it = record { vid = vid; tag = tag }

  Listed : Name → Type 0
  Listed now = In it now.live_snapshots

  -- one that was a snapshot before
  was-listed : (effect : Effect) → grants vid.0 effect ≡ false → owner_of (before ++ effect ∷ []) vid.0 ≡ Some name
      → state_of before vid.0 ≡ Snapshot tag → Listed (name_of before name)
  unfolding AreListed Listed
  was-listed effect none owner was = listed name tag vid was (sym (owner-kept before effect vid.0 none) ∙ owner)

  listed-step : (effect : Effect) → IsLawful before effect → state_after vid.0 (state_of before vid.0) effect ≡ Snapshot tag
      → owner_of (before ++ effect ∷ []) vid.0 ≡ Some name → Listed (name_after name (name_of before name) effect)
  unfolding Listed
  listed-step effects.Nothing lawful is owner = was-listed effects.Nothing refl owner is
  listed-step (effects.Reserved grant) lawful is owner = by_test (grant.reservation.vid.0 == vid.0) refl is
    where
      by_test : (b : Bool) → (grant.reservation.vid.0 == vid.0) ≡ b → cond b (Reserved grant.reservation.by) (state_of before vid.0) ≡ Snapshot tag → In it (name_of before name).live_snapshots
      by_test true here is = cc
      by_test false there is = was-listed (effects.Reserved grant) there owner is
  listed-step (effects.Published of other) lawful is owner =
      cond_both (is_same_bytes other name) (name_with_working of (name_of before name)) (name_of before name) (λ (now : Name). In it now.live_snapshots) (λ yes. there) (λ no. there)
    where
      by_test : (b : Bool) → cond b Working (state_of before vid.0) ≡ Snapshot tag → state_of before vid.0 ≡ Snapshot tag
      by_test true is = cc
      by_test false is = is

      there : In it (name_of before name).live_snapshots
      there = was-listed (effects.Published of other) refl owner (by_test (of.0 == vid.0) is)
  listed-step (effects.Snapped snap) lawful is owner = by_test (snap.old.0 == vid.0) (snap.vid.0 == vid.0) refl is
    where
      same-name : snap.old.0 ≡ vid.0 → snap.name ≡ name
      same-name same =
          let owns : Some snap.name ≡ Some name
          = sym ((lawful.0).owner) ∙ sym (owner-kept before (effects.Snapped snap) snap.old.0 refl)
          ∙ ap (owner_of (before ++ effects.Snapped snap ∷ [])) same ∙ owner in
          cc

      by_test : (a b : Bool) → (snap.old.0 == vid.0) ≡ a → cond a (Snapshot snap.tag) (cond b Working (state_of before vid.0)) ≡ Snapshot tag
          → In it (cond (is_same_bytes snap.name name) (name_with_snapshot snap.old snap.vid snap.tag (name_of before name)) (name_of before name)).live_snapshots
      by_test true b here is =
          let old : snap.old ≡ vid = λ i. record { 0 = eqb-true snap.old.0 vid.0 here i } in
          let tags : snap.tag ≡ tag = cc in
          let made : record { vid = snap.old; tag = snap.tag } ≡ it = λ i. record { vid = old i; tag = tags i } in
          let taken : In it (name_with_snapshot snap.old snap.vid snap.tag (name_of before name)).live_snapshots
          = subst (λ (live_snapshot : LiveSnapshot). In it ((name_of before name).live_snapshots ++ live_snapshot ∷ [])) (sym made) (in-last it (name_of before name).live_snapshots) in
          subst (λ c. In it (cond c (name_with_snapshot snap.old snap.vid snap.tag (name_of before name)) (name_of before name)).live_snapshots)
          (sym (is-same snap.name name (same-name (eqb-true snap.old.0 vid.0 here)))) taken
      by_test false true there is = cc
      by_test false false there is =
          let was : In it (name_of before name).live_snapshots = was-listed (effects.Snapped snap) refl owner is in
          cond_both (is_same_bytes snap.name name) (name_with_snapshot snap.old snap.vid snap.tag (name_of before name)) (name_of before name) (λ (now : Name). In it now.live_snapshots)
          (λ yes. in-state_after_leave it (name_of before name).live_snapshots (record { vid = snap.old; tag = snap.tag } ∷ []) was) (λ no. was)
  listed-step (effects.Deleted of other) lawful is owner = by_test (of.0 == vid.0) refl is
    where
      turned : (of.0 == vid.0) ≡ false → not (vid.0 == of.0) ≡ true
      turned apart = ap not (ne_eqb vid.0 of.0 (λ same. both_ways (of.0 == vid.0) apart (eq-eqb of.0 vid.0 (sym same))))

      by_test : (b : Bool) → (of.0 == vid.0) ≡ b → cond b Deleted (state_of before vid.0) ≡ Snapshot tag
          → In it (cond (is_same_bytes other name) (name_without of (name_of before name)) (name_of before name)).live_snapshots
      by_test true here is = cc
      by_test false apart is =
          let was : In it (name_of before name).live_snapshots = was-listed (effects.Deleted of other) refl owner is in
          cond_both (is_same_bytes other name) (name_without of (name_of before name)) (name_of before name) (λ (now : Name). In it now.live_snapshots)
          (λ yes. in-kept (λ (live_snapshot : LiveSnapshot). not (live_snapshot.vid.0 == of.0)) it (name_of before name).live_snapshots (turned apart) was) (λ no. was)
  listed-step (effects.Held of holder) lawful is owner = was-listed (effects.Held of holder) refl owner is
  listed-step (effects.Freed of) lawful is owner = was-listed (effects.Freed of) refl owner is
  listed-step (effects.Withdrawn of) lawful is owner = was-listed (effects.Withdrawn of) refl owner (by_test (of.0 == vid.0) is)
    where
      by_test : (b : Bool) → cond b (freed_state (state_of before vid.0)) (state_of before vid.0) ≡ Snapshot tag → state_of before vid.0 ≡ Snapshot tag
      by_test true is = live_snapshot-freed_state (state_of before vid.0) tag is
      by_test false is = is
  listed-step (effects.Left node) lawful is owner = was-listed (effects.Left node) refl owner (live_snapshot-state_after_leave node.0 (state_of before vid.0) tag is)

listed-later : (before : List Effect) (effect : Effect) → IsLawful before effect → AreListed before → AreListed (before ++ effect ∷ [])
unfolding AreListed Listed
listed-later before effect lawful listed name tag vid is owner =
    subst (λ (now : Name). In (record { vid = vid; tag = tag }) now.live_snapshots) (sym (name_of-push before effect name))
    (listed-step before listed name tag vid effect lawful (sym (state_of-push before effect vid.0) ∙ is) owner)

pub listed-log_effects : (entries : List Entry) (name tag : List ℕ) (vid : Vid) → state_of (log_effects entries) vid.0 ≡ Snapshot tag
    → owner_of (log_effects entries) vid.0 ≡ Some name → In (record { vid = vid; tag = tag }) (name_of (log_effects entries) name).live_snapshots
unfolding AreListed
listed-log_effects entries =
    kept-later AreListed
    (λ es entry is. listed-later (log_effects es) (outcome (log_effects es) entry).effect (lawful-outcome (log_effects es) (sound-log_effects es) entry) is)
    entries [] (subst AreListed (sym log_effects-none) listed-none)
