-- The test over the granted ids tells which ids are dead.
use Rattle.std.proofs.Common.{◌≡◌, ◌⊎◌, ◌↔◌, inl, inr, ℕ, ◌==◌, ◌||◌, ◌&&◌, not, Bool, true, false, List, [], ◌∷◌, IsTrue, refl, ap, ◌∙◌}
use Rattle.std.specs.List.{list_any}
use Rattle.std.proofs.lemmas.Bool.{eqb-true, both_ways, and_parts, and_from, or_left, or_right, or_from, not_from_true, not_from_false, not-true, or_cases}
use Rattle.object_id.specs.declared.entry.Entry.{Entry}
use Rattle.vdi_directory.specs.declared.effect.Effect.{Effect}
use Rattle.vdi_directory.specs.declared.effect.Effect.TheVariants as effects
use Rattle.vdi_directory.specs.Effects.{grants, is_used}
use Rattle.vdi_directory.specs.Decisions.{log_effects}
use Rattle.vdi_directory.specs.States.{state_of}
use Rattle.vdi_directory.specs.Chains.{is_above}
use Rattle.vdi_directory.specs.Dead.{is_gone, IsDead, granted_ids, is_heir, is_dead}
use Rattle.vdi_directory.proofs.DeadLemmas.{IsChained, chained, chain-used}

-- a test that a used id passes finds one among the granted ids
module _ (test : ℕ → Bool) (vid : ℕ) (passes : test vid ≡ true) where
  found-granted : (before : List Effect) → list_any (grants vid) before ≡ true → list_any test (granted_ids before) ≡ true
  found-granted [] used = cc
  found-granted (effects.Nothing ∷ before) used = found-granted before used
  found-granted (effects.Reserved grant ∷ before) used =
      by_place (or_cases (grant.reservation.vid.0 == vid) (list_any (grants vid) before) used) (found-granted before)
    where
      by_place : ((grant.reservation.vid.0 == vid) ≡ true) ⊎ (list_any (grants vid) before ≡ true)
          → (list_any (grants vid) before ≡ true → list_any test (granted_ids before) ≡ true)
          → (test grant.reservation.vid.0 || list_any test (granted_ids before)) ≡ true
      by_place (inl here) later =
          or_left (test grant.reservation.vid.0) (list_any test (granted_ids before)) (ap test (eqb-true grant.reservation.vid.0 vid here) ∙ passes)
      by_place (inr there) later = or_right (test grant.reservation.vid.0) (list_any test (granted_ids before)) (later there)
  found-granted (effects.Published of name ∷ before) used = found-granted before used
  found-granted (effects.Snapped snap ∷ before) used = found-granted before used
  found-granted (effects.Deleted of name ∷ before) used = found-granted before used
  found-granted (effects.Held of holder ∷ before) used = found-granted before used
  found-granted (effects.Freed of ∷ before) used = found-granted before used
  found-granted (effects.Withdrawn of ∷ before) used = found-granted before used
  found-granted (effects.Left node ∷ before) used = found-granted before used

  found-used : (before : List Effect) → is_used before vid ≡ true → list_any test (granted_ids before) ≡ true
  unfolding is_used
  found-used before used = found-granted before used

none-found : (test : ℕ → Bool) (ids : List ℕ) → ((vid : ℕ) → test vid ≡ false) → list_any test ids ≡ false
none-found test [] none = refl
none-found test (vid ∷ ids) none = or_from (test vid) (list_any test ids) (none vid) (none-found test ids none)

module _ (before : List Effect) (vid : ℕ) where
  dead-if : IsChained before → is_dead before vid ≡ true → IsDead before vid
  unfolding is_dead
  dead-if chained is = record {
    gone = parts.0;
    heirs = λ other above. by_test other above (is_gone (state_of before other)) refl;
  }
    where
      parts : (is_gone (state_of before vid) ≡ true) × (not (list_any (is_heir before vid) (granted_ids before)) ≡ true)
      parts = and_parts (is_gone (state_of before vid)) (not (list_any (is_heir before vid) (granted_ids before))) is

      by_test : (other : ℕ) → is_above before vid other ≡ true → (b : Bool) → is_gone (state_of before other) ≡ b → is_gone (state_of before other) ≡ true
      by_test other above true gone = gone
      by_test other above false stands =
          let heir : is_heir before vid other ≡ true
          = and_from (is_above before vid other) (not (is_gone (state_of before other))) above (not_from_false (is_gone (state_of before other)) stands) in
          absurd (both_ways (list_any (is_heir before vid) (granted_ids before))
          (not-true (list_any (is_heir before vid) (granted_ids before)) parts.1)
          (found-used (is_heir before vid) other heir before ((chain-used before chained vid other above).1)))

  no-heir : IsDead before vid → (other : ℕ) → is_heir before vid other ≡ false
  no-heir dead other = by_test (is_above before vid other) refl
    where
      by_test : (b : Bool) → is_above before vid other ≡ b → (b && not (is_gone (state_of before other))) ≡ false
      by_test true above = not_from_true (is_gone (state_of before other)) (dead.heirs other above)
      by_test false apart = refl

  only-dead : IsDead before vid → is_dead before vid ≡ true
  unfolding is_dead
  only-dead dead =
      and_from (is_gone (state_of before vid)) (not (list_any (is_heir before vid) (granted_ids before))) dead.gone
      (not_from_false (list_any (is_heir before vid) (granted_ids before)) (none-found (is_heir before vid) (granted_ids before) (no-heir dead)))

pub test-finds-dead : (entries : List Entry) (vid : ℕ) → IsTrue (is_dead (log_effects entries) vid) ↔ IsDead (log_effects entries) vid
test-finds-dead entries vid = (dead-if (log_effects entries) vid (chained entries), only-dead (log_effects entries) vid)
