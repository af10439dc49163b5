-- What is above an id stays above it, as the log grows: an id is granted once.
use Rattle.std.proofs.Common.{◌≡◌, ◌⊎◌, ⊎_elim, ℕ, ◌==◌, Bool, true, false, cond, List, ◌∷◌, [], ◌++◌, refl, ap, ◌∙◌}
use Rattle.std.proofs.lemmas.Bool.{eqb-true}
use Rattle.object_id.specs.declared.entry.Entry.{Entry}
use Rattle.vdi_directory.specs.declared.effect.Effect.{Effect}
use Rattle.vdi_directory.specs.declared.effect.Effect.TheVariants as effects
use Rattle.vdi_directory.specs.Chains.{is_above}
use Rattle.vdi_directory.specs.Decisions.{outcome, log_effects}
use Rattle.vdi_directory.specs.Effects.{is_used}
use Rattle.vdi_directory.proofs.ChainLemmas.{is_parent_or_above, above_after, is_above-push}
use Rattle.vdi_directory.proofs.DeadLemmas.{chained, chain-used}
use Rattle.vdi_directory.proofs.DecisionLaws.{kept-later, grant_outcome-unused}

module _ (elder vid : ℕ) where
  one_more : (entries : List Entry) (entry : Entry) → is_above (log_effects entries) elder vid ≡ true
      → is_above (log_effects entries ++ (outcome (log_effects entries) entry).effect ∷ []) elder vid ≡ true
  one_more entries entry is =
      is_above-push (log_effects entries) elder vid (outcome (log_effects entries) entry).effect
      ∙ by_effect (outcome (log_effects entries) entry).effect refl
    where
      used : is_used (log_effects entries) vid ≡ true
      used = (chain-used (log_effects entries) (chained entries) elder vid is).1

      by_effect : (e : Effect) → (outcome (log_effects entries) entry).effect ≡ e
          → above_after (is_above (log_effects entries)) e elder vid ≡ true
      by_effect effects.Nothing so = is
      by_effect (effects.Reserved grant) so = by_test (grant.reservation.vid.0 == vid) refl
        where
          by_test : (b : Bool) → (grant.reservation.vid.0 == vid) ≡ b
              → cond b (is_parent_or_above (is_above (log_effects entries)) elder grant.header.parent)
              (is_above (log_effects entries) elder vid) ≡ true
          by_test true same =
              let unused = (grant_outcome-unused entries entry grant so).1 in
              let there = ap (is_used (log_effects entries)) (eqb-true grant.reservation.vid.0 vid same) ∙ used in
              absurd (cc (unused, there))
          by_test false apart = is
      by_effect (effects.Published of name) so = is
      by_effect (effects.Snapped snap) so = is
      by_effect (effects.Deleted of name) so = is
      by_effect (effects.Held of holder) so = is
      by_effect (effects.Freed of) so = is
      by_effect (effects.Withdrawn of) so = is
      by_effect (effects.Left node) so = is

  pub above_stays : (log later : List Entry) → is_above (log_effects log) elder vid ≡ true
      → is_above (log_effects (log ++ later)) elder vid ≡ true
  above_stays log later is = kept-later (λ before. is_above before elder vid ≡ true) one_more later log is

-- of a log that is the same, or has an entry more
pub above-stays : (log later : List Entry) → (later ≡ log) ⊎ ((entry : Entry) × (later ≡ log ++ entry ∷ [])) → (elder vid : ℕ)
    → is_above (log_effects log) elder vid ≡ true → is_above (log_effects later) elder vid ≡ true
above-stays log later grows elder vid above = ⊎_elim
    (λ (same : later ≡ log). ap (λ (all : List Entry). is_above (log_effects all) elder vid) same ∙ above)
    (λ (more : (entry : Entry) × (later ≡ log ++ entry ∷ [])).
    ap (λ (all : List Entry). is_above (log_effects all) elder vid) more.1 ∙ above_stays elder vid log (more.0 ∷ []) above)
    grows
