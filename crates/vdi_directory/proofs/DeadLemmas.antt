-- What is dead stays dead, and its descendants are dead with it.
use Rattle.std.proofs.Common.{◌≡◌, ◌⊎◌, inl, inr, ℕ, ◌≤◌, ◌==◌, Bool, true, false, cond, List, [], ◌∷◌, ◌++◌, Option, Some, None, refl, ap, sym, ◌∙◌, subst, arith}
use Rattle.std.proofs.lemmas.Bool.{eqb-true, both_ways, or_cases, or_left, or_right}
use Rattle.object_id.specs.declared.oid.Vid.{Vid}
use Rattle.object_id.specs.declared.entry.Entry.{Entry}
use Rattle.vdi_directory.specs.declared.effect.Grant.{Grant}
use Rattle.vdi_directory.specs.declared.effect.Effect.{Effect}
use Rattle.vdi_directory.specs.declared.effect.Effect.TheVariants as effects
use Rattle.vdi_directory.specs.Effects.{grants, is_used}
use Rattle.vdi_directory.specs.Decisions.{outcome, log_effects}
use Rattle.vdi_directory.specs.States.{VdiState, Unused, Deleted, Freed, state_after, state_of, rank, is_live_state}
use Rattle.vdi_directory.specs.Sound.{IsParent, IsSound, IsLawful}
use Rattle.vdi_directory.specs.Chains.{chain_of, is_above}
use Rattle.vdi_directory.specs.Dead.{is_gone, IsDead}
use Rattle.vdi_directory.proofs.ChainLemmas.{is_parent_or_above, above_after, is_above-push}
use Rattle.vdi_directory.proofs.StateLemmas.{log_effects-none, is_used-push}
use Rattle.vdi_directory.proofs.SoundEffects.{state_of-push}
use Rattle.vdi_directory.proofs.LawfulEntries.{lawful-outcome, sound-log_effects}
use Rattle.vdi_directory.proofs.DecisionLaws.{kept-later, rank-grows}

gone-rank : (state : VdiState) → is_gone state ≡ true → rank state ≡ 4
gone-rank Deleted is = refl
gone-rank Freed is = refl
gone-rank state is = cc

rank-gone : (state : VdiState) → 4 ≤ rank state → is_gone state ≡ true
rank-gone Deleted above = refl
rank-gone Freed above = refl
rank-gone state above = absurd (omega arith)

pub live-not-gone : (state : VdiState) → is_live_state state ≡ true → is_gone state ≡ true → ⊥
live-not-gone Unused live gone = cc
live-not-gone state live gone = cc

-- what an id that is above another came from: an earlier effect, or the grant of the other
pub above-cases : (before : List Effect) (effect : Effect) (elder vid : ℕ) → above_after (is_above before) effect elder vid ≡ true
    → (is_above before elder vid ≡ true)
    ⊎ ((grant : Grant) × (effect ≡ effects.Reserved grant) × ((grant.reservation.vid.0 == vid) ≡ true) × (is_parent_or_above (is_above before) elder grant.header.parent ≡ true))
above-cases before (effects.Reserved grant) elder vid is = by_test (grant.reservation.vid.0 == vid) refl is
  where
    by_test : (b : Bool) → (grant.reservation.vid.0 == vid) ≡ b → cond b (is_parent_or_above (is_above before) elder grant.header.parent) (is_above before elder vid) ≡ true
        → (is_above before elder vid ≡ true)
        ⊎ ((g : Grant) × (effects.Reserved grant ≡ effects.Reserved g) × ((g.reservation.vid.0 == vid) ≡ true) × (is_parent_or_above (is_above before) elder g.header.parent ≡ true))
    by_test true here is = inr (grant, refl, here, is)
    by_test false there is = inl is
above-cases before effect elder vid is = inl is

-- the parent's own chain, or the parent
pub parent-cases : (before : List Effect) (elder : ℕ) (parent : Option Vid) → is_parent_or_above (is_above before) elder parent ≡ true
    → (p : Vid) × (parent ≡ Some p) × ((p.0 ≡ elder) ⊎ (is_above before elder p.0 ≡ true))
parent-cases before elder None is = cc
parent-cases before elder (Some p) is = elim (or_cases (p.0 == elder) (is_above before elder p.0) is) as (λ _. (q : Vid) × (Some p ≡ Some q) × ((q.0 ≡ elder) ⊎ (is_above before elder q.0 ≡ true))) [
  | inl same ↦ (p, refl, inl (eqb-true p.0 elder same))
  | inr far ↦ (p, refl, inr far)
]

pub parent-live : (before : List Effect) (effect : Effect) (grant : Grant) (p : Vid) → IsLawful before effect → effect ≡ effects.Reserved grant → grant.header.parent ≡ Some p
    → is_live_state (state_of before p.0) ≡ true
parent-live before effect grant p lawful is parent =
    let granted : IsLawful before (effects.Reserved grant) = subst (IsLawful before) is lawful in
    subst (IsParent before) parent granted.4

-- one entry more
module _ (before : List Effect) (sound : IsSound before) (effect : Effect) (lawful : IsLawful before effect) where
  gone-stays : (vid : ℕ) → is_gone (state_of before vid) ≡ true → is_gone (state_of (before ++ effect ∷ []) vid) ≡ true
  gone-stays vid gone =
      let grows = rank-grows before sound effect lawful vid in
      let four = gone-rank (state_of before vid) gone in
      ap is_gone (state_of-push before effect vid) ∙ rank-gone (state_after vid (state_of before vid) effect) (omega (arith, grows, four))

  dead-push : (vid : ℕ) → IsDead before vid → IsDead (before ++ effect ∷ []) vid
  dead-push vid dead = record {
    gone = gone-stays vid dead.gone;
    heirs = λ other is. by_case other (above-cases before effect vid other (sym (is_above-push before vid other effect) ∙ is));
  }
    where
      by_case : (other : ℕ) → (is_above before vid other ≡ true)
          ⊎ ((grant : Grant) × (effect ≡ effects.Reserved grant) × ((grant.reservation.vid.0 == other) ≡ true) × (is_parent_or_above (is_above before) vid grant.header.parent ≡ true))
          → is_gone (state_of (before ++ effect ∷ []) other) ≡ true
      by_case other (inl old) = gone-stays other (dead.heirs other old)
      by_case other (inr new) =
          let parent = parent-cases before vid (new.0).header.parent new.3 in
          let live = parent-live before effect new.0 parent.0 lawful new.1 parent.1 in
          absurd (live-not-gone (state_of before parent.0.0) live (by_parent parent.0 parent.2))
        where
          by_parent : (p : Vid) → (p.0 ≡ vid) ⊎ (is_above before vid p.0 ≡ true) → is_gone (state_of before p.0) ≡ true
          by_parent p (inl same) = ap (λ v. is_gone (state_of before v)) same ∙ dead.gone
          by_parent p (inr far) = dead.heirs p.0 far

pub dead-stays : (entries later : List Entry) (vid : ℕ) → IsDead (log_effects entries) vid → IsDead (log_effects (entries ++ later)) vid
dead-stays entries later vid dead =
    kept-later (λ before. IsDead before vid)
    (λ es entry is. dead-push (log_effects es) (sound-log_effects es) (outcome (log_effects es) entry).effect (lawful-outcome (log_effects es) (sound-log_effects es) entry) vid is)
    later entries dead

-- both ids of a chain are used
pub live-used : (before : List Effect) → IsSound before → (vid : ℕ) → is_live_state (state_of before vid) ≡ true → is_used before vid ≡ true
live-used before sound vid live = by_test (is_used before vid) refl
  where
    by_test : (b : Bool) → is_used before vid ≡ b → is_used before vid ≡ true
    by_test true is = is
    by_test false out = absurd (both_ways (is_live_state (state_of before vid)) (ap is_live_state (sound.unused vid out)) live)

ChainsAreUsed : List Effect → Type 0
ChainsAreUsed before = (elder vid : ℕ) → is_above before elder vid ≡ true → (is_used before elder ≡ true) × (is_used before vid ≡ true)

ChainsGoOn : List Effect → Type 0
ChainsGoOn before = (a b c : ℕ) → is_above before a b ≡ true → is_above before b c ≡ true → is_above before a c ≡ true

module _ (before : List Effect) (sound : IsSound before) (effect : Effect) (lawful : IsLawful before effect) (used : ChainsAreUsed before) where
  used-after : (vid : ℕ) → is_used before vid ≡ true → is_used (before ++ effect ∷ []) vid ≡ true
  used-after vid is = is_used-push before effect vid ∙ or_left (is_used before vid) (grants vid effect) is

  new-unused : (grant : Grant) (vid : ℕ) → effect ≡ effects.Reserved grant → is_used before vid ≡ true → (grant.reservation.vid.0 == vid) ≡ true → ⊥
  new-unused grant vid is there same =
      let granted : IsLawful before (effects.Reserved grant) = subst (IsLawful before) is lawful in
      both_ways (is_used before grant.reservation.vid.0) granted.1 (ap (is_used before) (eqb-true grant.reservation.vid.0 vid same) ∙ there)

  parent-used : (grant : Grant) (p : Vid) → effect ≡ effects.Reserved grant → grant.header.parent ≡ Some p → is_used before p.0 ≡ true
  parent-used grant p is parent = live-used before sound p.0 (parent-live before effect grant p lawful is parent)

  used-push : ChainsAreUsed (before ++ effect ∷ [])
  unfolding ChainsAreUsed
  used-push elder vid is = by_case (above-cases before effect elder vid (sym (is_above-push before elder vid effect) ∙ is))
    where
      by_case : (is_above before elder vid ≡ true)
          ⊎ ((grant : Grant) × (effect ≡ effects.Reserved grant) × ((grant.reservation.vid.0 == vid) ≡ true) × (is_parent_or_above (is_above before) elder grant.header.parent ≡ true))
          → (is_used (before ++ effect ∷ []) elder ≡ true) × (is_used (before ++ effect ∷ []) vid ≡ true)
      by_case (inl old) = (used-after elder ((used elder vid old).0), used-after vid ((used elder vid old).1))
      by_case (inr new) =
          let parent = parent-cases before elder (new.0).header.parent new.3 in (
            used-after elder (by_parent parent.0 (parent-used new.0 parent.0 new.1 parent.1) parent.2),
            is_used-push before effect vid ∙ or_right (is_used before vid) (grants vid effect) (ap (grants vid) new.1 ∙ new.2),
          )
        where
          by_parent : (p : Vid) → is_used before p.0 ≡ true → (p.0 ≡ elder) ⊎ (is_above before elder p.0 ≡ true) → is_used before elder ≡ true
          by_parent p there (inl same) = ap (is_used before) (sym same) ∙ there
          by_parent p there (inr far) = (used elder p.0 far).0

  above-after-known : (elder vid : ℕ) → is_above before elder vid ≡ true → is_above (before ++ effect ∷ []) elder vid ≡ true
  unfolding ChainsAreUsed
  above-after-known elder vid is = is_above-push before elder vid effect ∙ by_effect effect refl
    where
      by_effect : (e : Effect) → effect ≡ e → above_after (is_above before) e elder vid ≡ true
      by_effect effects.Nothing e = is
      by_effect (effects.Reserved grant) e = by_test (grant.reservation.vid.0 == vid) refl
        where
          by_test : (b : Bool) → (grant.reservation.vid.0 == vid) ≡ b → cond b (is_parent_or_above (is_above before) elder grant.header.parent) (is_above before elder vid) ≡ true
          by_test true same = absurd (new-unused grant vid e ((used elder vid is).1) same)
          by_test false apart = is
      by_effect (effects.Published of name) e = is
      by_effect (effects.Snapped snap) e = is
      by_effect (effects.Deleted of name) e = is
      by_effect (effects.Held of holder) e = is
      by_effect (effects.Freed of) e = is
      by_effect (effects.Withdrawn of) e = is
      by_effect (effects.Left node) e = is

  -- what was dead by this effect was dead before, where the effect makes nothing gone
  dead-was : ((other : ℕ) → is_gone (state_of (before ++ effect ∷ []) other) ≡ true → is_gone (state_of before other) ≡ true)
      → (vid : ℕ) → IsDead (before ++ effect ∷ []) vid → IsDead before vid
  dead-was kept vid dead = record {
    gone = kept vid dead.gone;
    heirs = λ other is. kept other (dead.heirs other (above-after-known vid other is));
  }

  -- an id above one that was used before was above it before
  above-before : (elder vid : ℕ) → is_used before vid ≡ true → is_above (before ++ effect ∷ []) elder vid ≡ true → is_above before elder vid ≡ true
  above-before elder vid there is = by_case (above-cases before effect elder vid (sym (is_above-push before elder vid effect) ∙ is))
    where
      by_case : (is_above before elder vid ≡ true)
          ⊎ ((grant : Grant) × (effect ≡ effects.Reserved grant) × ((grant.reservation.vid.0 == vid) ≡ true) × (is_parent_or_above (is_above before) elder grant.header.parent ≡ true))
          → is_above before elder vid ≡ true
      by_case (inl old) = old
      by_case (inr new) = absurd (new-unused new.0 vid new.1 there new.2)

  go-on-push : ChainsGoOn before → ChainsGoOn (before ++ effect ∷ [])
  unfolding ChainsAreUsed ChainsGoOn
  go-on-push go a b c first second = by_case (above-cases before effect b c (sym (is_above-push before b c effect) ∙ second))
    where
      by_case : (is_above before b c ≡ true)
          ⊎ ((grant : Grant) × (effect ≡ effects.Reserved grant) × ((grant.reservation.vid.0 == c) ≡ true) × (is_parent_or_above (is_above before) b grant.header.parent ≡ true))
          → is_above (before ++ effect ∷ []) a c ≡ true
      by_case (inl old) = above-after-known a c (go a b c (above-before a b ((used b c old).0) first) old)
      by_case (inr new) =
          let parent = parent-cases before b (new.0).header.parent new.3 in
          let reaches : is_above before a parent.0.0 ≡ true = by_parent parent.0 (parent-used new.0 parent.0 new.1 parent.1) parent.2 in
          is_above-push before a c effect ∙ ap (λ e. above_after (is_above before) e a c) new.1
          ∙ ap (λ t. cond t (is_parent_or_above (is_above before) a (new.0).header.parent) (is_above before a c)) new.2
          ∙ ap (is_parent_or_above (is_above before) a) parent.1
          ∙ or_right (parent.0.0 == a) (is_above before a parent.0.0) reaches
        where
          by_parent : (p : Vid) → is_used before p.0 ≡ true → (p.0 ≡ b) ⊎ (is_above before b p.0 ≡ true) → is_above before a p.0 ≡ true
          by_parent p there (inl same) =
              above-before a p.0 there (ap (is_above (before ++ effect ∷ []) a) same ∙ first)
          by_parent p there (inr far) = go a b p.0 (above-before a b ((used b p.0 far).0) first) far

pub record IsChained (before : List Effect) : Type 0 where
  used : ChainsAreUsed before
  goes : ChainsGoOn before

chained-none : IsChained []
unfolding ChainsAreUsed ChainsGoOn is_above chain_of
chained-none = record { used = λ elder vid is. cc; goes = λ a b c first second. cc }

pub chained : (entries : List Entry) → IsChained (log_effects entries)
chained entries =
    kept-later IsChained
    (λ es entry is. record {
      used = used-push (log_effects es) (sound-log_effects es) (outcome (log_effects es) entry).effect (lawful-outcome (log_effects es) (sound-log_effects es) entry) is.used;
      goes = go-on-push (log_effects es) (sound-log_effects es) (outcome (log_effects es) entry).effect (lawful-outcome (log_effects es) (sound-log_effects es) entry) is.used is.goes;
    })
    entries [] (subst IsChained (sym log_effects-none) chained-none)

pub dead-before : (before : List Effect) (sound : IsSound before) (effect : Effect) (lawful : IsLawful before effect) → IsChained before
    → ((other : ℕ) → is_gone (state_of (before ++ effect ∷ []) other) ≡ true → is_gone (state_of before other) ≡ true)
    → (vid : ℕ) → IsDead (before ++ effect ∷ []) vid → IsDead before vid
dead-before before sound effect lawful chained = dead-was before sound effect lawful chained.used

pub chain-used : (before : List Effect) → IsChained before → (elder vid : ℕ) → is_above before elder vid ≡ true
    → (is_used before elder ≡ true) × (is_used before vid ≡ true)
unfolding ChainsAreUsed
chain-used before chained = chained.used

pub heir-dead : (before : List Effect) → IsChained before → (vid heir : ℕ) → IsDead before vid → is_above before vid heir ≡ true → IsDead before heir
unfolding ChainsGoOn
heir-dead before chained vid heir dead above = record {
  gone = dead.heirs heir above;
  heirs = λ last is. dead.heirs last (chained.goes vid heir last above is);
}

pub dead-heirs : (entries : List Entry) (vid other : ℕ) → IsDead (log_effects entries) vid → is_above (log_effects entries) vid other ≡ true → IsDead (log_effects entries) other
dead-heirs entries = heir-dead (log_effects entries) (chained entries)
