-- Each id that the directory granted is one, and so is each above it.
use Rattle.std.proofs.Common.{◌≡◌, inl, inr, ℕ, ◌==◌, true, List, [], get_or, All, refl, sym, ◌∙◌, subst}
use Rattle.std.proofs.lemmas.Bool.{eqb-true, eq-eqb, or_cases}
use Rattle.std.proofs.lemmas.List.Folds.{list_any_at}
use Rattle.object_id.specs.Oid.{IsVid}
use Rattle.object_id.specs.declared.entry.Entry.{Entry}
use Rattle.vdi_directory.specs.declared.effect.Effect.{Effect}
use Rattle.vdi_directory.specs.declared.effect.Effect.TheVariants as effects
use Rattle.vdi_directory.specs.Effects.{grants, is_used}
use Rattle.vdi_directory.specs.Decisions.{outcome, happens, log_effects}
use Rattle.vdi_directory.specs.Chains.{chain_of, is_above}
use Rattle.vdi_directory.proofs.StateLemmas.{log_effects-none, is_used-push}
use Rattle.vdi_directory.proofs.DecisionLaws.{kept-later, grant_outcome-unused}
use Rattle.vdi_directory.proofs.DeadLemmas.{chained, chain-used}

abbrev UsedAreIds : List Effect → Type 0
UsedAreIds before = (vid : ℕ) → is_used before vid ≡ true → IsVid vid

-- what an entry grants is an id
granted_id : (entries : List Entry) (entry : Entry) (vid : ℕ) → grants vid (outcome (log_effects entries) entry).effect ≡ true → IsVid vid
granted_id entries entry vid = by_effect (outcome (log_effects entries) entry).effect refl
  where
    by_effect : (effect : Effect) → (outcome (log_effects entries) entry).effect ≡ effect → grants vid effect ≡ true → IsVid vid
    by_effect (effects.Reserved grant) is same =
        subst IsVid (eqb-true grant.reservation.vid.0 vid same) (grant_outcome-unused entries entry grant is).0
    by_effect effect is same = cc

used_none : UsedAreIds []
unfolding is_used
used_none vid is = cc

-- one entry more
used_more : (entries : List Entry) (entry : Entry) → UsedAreIds (log_effects entries) → UsedAreIds (happens (log_effects entries) entry)
used_more entries entry ids vid is =
    let effect : Effect = (outcome (log_effects entries) entry).effect in
    elim (or_cases (is_used (log_effects entries) vid) (grants vid effect) (sym (is_used-push (log_effects entries) effect vid) ∙ is)) [
      | inl before ↦ ids vid before
      | inr now ↦ granted_id entries entry vid now
    ]

used_ids : (entries : List Entry) → UsedAreIds (log_effects entries)
used_ids entries = kept-later UsedAreIds used_more entries [] (subst UsedAreIds (sym log_effects-none) used_none)

pub chain_ids : (entries : List Entry) (vid : ℕ) → All IsVid (chain_of (log_effects entries) vid)
unfolding is_above
chain_ids entries vid place d within =
    let chain : List ℕ = chain_of (log_effects entries) vid in
    let id : ℕ = get_or chain place d in
    let above : is_above (log_effects entries) id vid ≡ true = list_any_at (λ other. other == id) chain place d within (eq-eqb id id refl) in
    used_ids entries id (chain-used (log_effects entries) (chained entries) id vid above).0
