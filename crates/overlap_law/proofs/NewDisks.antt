-- A new disk is made from no other.
use Rattle.object_id.specs.declared.entry.Entry.TheVariants as entries
use Rattle.vdi_directory.specs.declared.decision.Decision.TheVariants as decisions
use Rattle.std.proofs.Common.{◌≡◌, ℕ, Bool, List, Some, None, refl, ap, ◌∙◌, [], ◌∷◌, Option}
use Rattle.std.proofs.Common.{cond, ◌++◌}
use Rattle.object_id.specs.declared.oid.Vid.{Vid}
use Rattle.vdi_directory.specs.declared.effect.Effect.{Effect}
use Rattle.vdi_directory.specs.Decisions.{log_effects, outcome, refusal_outcome, is_taken, grant_of, or_full, reservation_outcome}
use Rattle.vdi_directory.specs.Decisions.{decision_after}
use Rattle.vdi_directory.specs.Effects.{header_of, header_after, is_used}
use Rattle.std.proofs.lemmas.Bool.{eq-eqb}
use Rattle.object_id.specs.declared.entry.Entry.{Entry}
use Rattle.object_id.specs.declared.entry.Origin.TheVariants.{Fresh}
use Rattle.object_id.specs.declared.entry.VdiSpec.{VdiSpec}
use Rattle.object_id.specs.declared.node.NodeId.{NodeId}
use Rattle.proof_tools.proofs.Booleans.{cond_either}
use Rattle.object_id.specs.declared.cause.Cause.TheVariants as causes
use Rattle.vdi_directory.specs.declared.decision.Outcome.{Outcome as Decided}
use Rattle.vdi_directory.specs.declared.effect.Effect.TheVariants as effects
use Rattle.vdi_directory.specs.declared.effect.Grant.{Grant}
use Rattle.vdi_directory.specs.declared.effect.Source.TheVariants as sources
use Rattle.vdi_directory.specs.References.{header_parent, parent_of}
use Rattle.vdi_directory.specs.Vids.{free_id}
use Rattle.vdi_directory.proofs.StateLemmas.{log_effects-push, header_of-push}

abbrev IsMadeOfNone : Decided → Type 0
IsMadeOfNone made = (vid : Vid) → made.decision ≡ decisions.Granted vid
    → (grant : Grant) × (made.effect ≡ effects.Reserved grant) × (grant.reservation.vid ≡ vid) × (grant.header.parent ≡ None)

module _ (before : List Effect) (by : NodeId) (session : ℕ) (name : List ℕ) (spec : VdiSpec) where
  free_of_none : (free : Option ℕ) → IsMadeOfNone (or_full free (grant_of before by session name sources.Fresh None spec))
  free_of_none None vid is = absurd (cc (is))
  free_of_none (Some id) vid is = let same : record { 0 = id } ≡ vid = cc (is) in (_, refl, same, refl)

  refused_of_none : IsMadeOfNone (refusal_outcome causes.VdiExist)
  refused_of_none vid is = absurd (cc (is))

  of_none : IsMadeOfNone (outcome before (entries.Reserve by session name (Fresh spec)))
  of_none =
      cond_either IsMadeOfNone (is_taken before name) (refusal_outcome causes.VdiExist)
      (reservation_outcome before by session name sources.Fresh None spec) refused_of_none (free_of_none (free_id name (is_used before)))

-- it is made from none
pub none_above : (read : List Entry) (by : NodeId) (session : ℕ) (name : List ℕ) (spec : VdiSpec) (vid : Vid)
    → decision_after read (entries.Reserve by session name (Fresh spec)) ≡ decisions.Granted vid
    → parent_of (log_effects (read ++ entries.Reserve by session name (Fresh spec) ∷ [])) vid.0 ≡ None
none_above read by session name spec vid granted =
    let entry : Entry = entries.Reserve by session name (Fresh spec) in
    let effect : Effect = (outcome (log_effects read) entry).effect in
    let (grant, is, of, none) = of_none (log_effects read) by session name spec vid granted in
    ap header_parent
    (ap (λ (all : List Effect). header_of all vid.0) (log_effects-push read entry) ∙ header_of-push (log_effects read) effect vid.0
    ∙ ap (header_after vid.0 (header_of (log_effects read) vid.0)) is
    ∙ ap (λ (b : Bool). cond b (Some grant.header) (header_of (log_effects read) vid.0))
    (eq-eqb grant.reservation.vid.0 vid.0 (ap (λ (v : Vid). v.0) of)))
    ∙ none
