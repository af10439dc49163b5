-- What a decision tells of snapshots, whatever the log: what is above a disk that is locked became one, as did a snapshot that is opened,
-- and what a clone is made from.
use Rattle.std.proofs.Common.{◌≡◌, ⊎_elim, ℕ, ◌==◌, ◌||◌, Bool, true, false, cond, List, [], ◌∷◌, ◌++◌, All, Option, Some, None, Result, Ok}
use Rattle.std.proofs.Common.{Err, is_some, refl, sym, ap, subst, ◌∙◌}
use Rattle.std.specs.List.{list_any}
use Rattle.std.proofs.lemmas.Bool.{eq-eqb, or_right}
use Rattle.std.proofs.lemmas.List.Elements.{All-nil, All-cons}
use Rattle.std.proofs.lemmas.Option.{same_Some}
use Rattle.object_id.specs.declared.cause.Cause.{Cause}
use Rattle.object_id.specs.declared.entry.Entry.{Entry}
use Rattle.object_id.specs.declared.entry.Entry.TheVariants.{Reserve, Lock}
use Rattle.object_id.specs.declared.entry.Origin.TheVariants.{CloneOf}
use Rattle.object_id.specs.declared.node.NodeId.{NodeId}
use Rattle.object_id.specs.declared.oid.Vid.{Vid}
use Rattle.vdi_directory.specs.declared.decision.Decision.TheVariants as decisions
use Rattle.vdi_directory.specs.declared.effect.Effect.{Effect}
use Rattle.vdi_directory.specs.declared.effect.Effect.TheVariants as effects
use Rattle.vdi_directory.specs.declared.effect.Source.TheVariants as sources
use Rattle.vdi_directory.specs.declared.header.Header.{Header}
use Rattle.vdi_directory.specs.Chains.{chain_of, is_above}
use Rattle.vdi_directory.specs.Decisions.{outcome, log_effects, decision_after, target, lock}
use Rattle.vdi_directory.specs.Effects.{header_after, header_of}
use Rattle.vdi_directory.specs.Sound.{IsLiveSnapshot}
use Rattle.vdi_directory.specs.States.{state_after, state_of, is_live_state}
use Rattle.vdi_directory.proofs.DecisionLaws.{held-was-free}
use Rattle.vdi_directory.proofs.LawfulEntries.{sound-log_effects}
use Rattle.vdi_directory.proofs.StateLemmas.{log_effects-push, header_of-push}
use Rattle.overlap_law.specs.LastReads.{was_snapped}
use Rattle.overlap_law.specs.WriterClaims.{holder_at}
use Rattle.overlap_law.proofs.GrantedIds.{IsGrant, locked_effect, snapshot_found, reserve_grants}
use Rattle.overlap_law.proofs.MadeEffects.{IsMadeSo, outcome_so}
use Rattle.overlap_law.proofs.SnapshotChains.{was_then, state_then, snapshot_was, chain_snapped}

-- ---- a disk is locked, or a snapshot opened

module _ (log : List Entry) (by : NodeId) (session : ℕ) (name : List ℕ) (vid : Vid) where
  locked_live : (tag : Option (List ℕ)) → decision_after log (Lock by session name tag) ≡ decisions.Granted vid
      → is_live_state (state_of (log_effects log) vid.0) ≡ true
  locked_live None granted =
      ap is_live_state
      (held-was-free log (Lock by session name None) vid (holder_at by session) (locked_effect log by session name vid granted)).0
  locked_live (Some tag) granted = ap is_live_state (snapshot_found log by session name tag vid granted).1

  -- its state is as before
  lock_leaves : (tag : Option (List ℕ))
      → state_of (log_effects (log ++ Lock by session name tag ∷ [])) vid.0 ≡ state_of (log_effects log) vid.0
  lock_leaves tag = state_then log (Lock by session name tag) vid.0 ∙ by_target (is_some tag) (target (log_effects log) name tag)
    where
      by_target : (snapshot : Bool) (of : Result Vid Cause)
          → state_after vid.0 (state_of (log_effects log) vid.0) (lock (holder_at by session) snapshot of).effect ≡ state_of
          (log_effects log) vid.0
      by_target snapshot (Err cause) = refl
      by_target true (Ok other) = refl
      by_target false (Ok other) = refl

  pub locked_above : (tag : Option (List ℕ)) → decision_after log (Lock by session name tag) ≡ decisions.Granted vid → (elder : ℕ)
      → is_above (log_effects (log ++ Lock by session name tag ∷ [])) elder vid.0 ≡ true
      → was_snapped (log ++ Lock by session name tag ∷ []) elder ≡ true
  locked_above tag granted elder above =
      chain_snapped (log ++ Lock by session name tag ∷ []) elder vid.0 above (ap is_live_state (lock_leaves tag) ∙ locked_live tag granted)

  pub opened_snapped : (tag : Option (List ℕ)) → decision_after log (Lock by session name tag) ≡ decisions.Granted vid → is_some tag ≡ true
      → was_snapped (log ++ Lock by session name tag ∷ []) vid.0 ≡ true
  opened_snapped None granted tagged = absurd (cc (tagged))
  opened_snapped (Some tag) granted tagged =
      was_then log (Lock by session name (Some tag)) vid.0 (snapshot_was vid.0 log (snapshot_found log by session name tag vid granted))

-- what is of each id that is found in a list
each_among : (P : ℕ → Type 0) (ids : List ℕ) → ((id : ℕ) → list_any (λ x. x == id) ids ≡ true → P id) → All P ids
each_among P [] all = All-nil P
each_among P (id ∷ ids) all =
    All-cons P id ids (all id (ap (λ (b : Bool). b || list_any (λ x. x == id) ids) (eq-eqb id id refl)))
    (each_among P ids (λ other among. all other (or_right (id == other) (list_any (λ x. x == other) ids) among)))

-- of the whole parent chain of an id
pub each_above : (before : List Effect) (vid : ℕ) (P : ℕ → Type 0) → ((elder : ℕ) → is_above before elder vid ≡ true → P elder)
    → All P (chain_of before vid)
unfolding is_above
each_above before vid P all = each_among P (chain_of before vid) all

-- ---- an id is reserved for a clone

module _ (log : List Entry) (by : NodeId) (session : ℕ) (name base tag : List ℕ) (vid : Vid)
    (granted : decision_after log (Reserve by session name (CloneOf base tag)) ≡ decisions.Granted vid) (header : Header)
    (there : header_of (log_effects (log ++ Reserve by session name (CloneOf base tag) ∷ [])) vid.0 ≡ Some header) where
  abbrev entry : Entry
  entry = Reserve by session name (CloneOf base tag)

  pub base_snapped : (parent : Vid) → header.parent ≡ Some parent
      → was_snapped (log ++ Reserve by session name (CloneOf base tag) ∷ []) parent.0 ≡ true
  base_snapped parent from = ⊎_elim
      (λ (place : (given : List ℕ) × (is.grant.reservation.source ≡ sources.Snapshot parent given)).
      let clones : is.grant.reservation.source ≡ sources.Clone = is.source in
      let snaps : is.grant.reservation.source ≡ sources.Snapshot parent place.0 = place.1 in
      absurd (cc (clones, snaps)))
      (λ (live : IsLiveSnapshot (state_of (log_effects log) parent.0)). was_then log entry parent.0 (snapshot_was parent.0 log live))
      (made.0 parent (ap (λ (h : Header). h.parent) same ∙ from))
    where
      is : IsGrant log by session vid name (CloneOf base tag)
          (outcome (log_effects log) (Reserve by session name (CloneOf base tag))).effect
      is = reserve_grants log by session name (CloneOf base tag) vid granted

      made : IsMadeSo (log_effects log) (effects.Reserved is.grant)
      made = subst (IsMadeSo (log_effects log)) is.reserved (outcome_so (log_effects log) (sound-log_effects log) entry)

      now : header_of (log_effects (log ++ entry ∷ [])) vid.0 ≡ Some is.grant.header
      now =
          ap (λ (known : List Effect). header_of known vid.0) (log_effects-push log entry)
          ∙ header_of-push (log_effects log) (outcome (log_effects log) entry).effect vid.0
          ∙ ap (header_after vid.0 (header_of (log_effects log) vid.0)) is.reserved
          ∙ ap (λ (b : Bool). cond b (Some is.grant.header) (header_of (log_effects log) vid.0))
          (eq-eqb is.grant.reservation.vid.0 vid.0 (ap (λ (v : Vid). v.0) is.of))

      same : is.grant.header ≡ header
      same = same_Some is.grant.header header (sym now ∙ there)
