-- What an effect has of the entry that made it, whatever the log: what a reserved id is made of, and what an id was reserved for that is
-- published.
use Rattle.std.proofs.Common.{◌≡◌, ◌⊎◌, inl, inr, ℕ, ◌==◌, ◌&&◌, Bool, true, false, cond, List, Option, Some, None, Result, Ok, Err}
use Rattle.std.proofs.Common.{is_some, option_map, refl, ap, subst, ◌∙◌}
use Rattle.std.proofs.lemmas.Bool.{and_parts, eqb-true}
use Rattle.std.proofs.lemmas.Option.{same_Some}
use Rattle.proof_tools.proofs.Booleans.{cond_either}
use Rattle.object_id.specs.declared.cause.Cause.{Cause}
use Rattle.object_id.specs.declared.cause.Cause.TheVariants as causes
use Rattle.object_id.specs.declared.entry.Entry.{Entry}
use Rattle.object_id.specs.declared.entry.Entry.TheVariants.{Format, Join, Leave, Reweight, Recovered, Reserve, Publish, Clone, Snapshot}
use Rattle.object_id.specs.declared.entry.Entry.TheVariants.{Delete, Lock, Unlock}
use Rattle.object_id.specs.declared.entry.Origin.{Origin}
use Rattle.object_id.specs.declared.entry.Origin.TheVariants.{Fresh, SnapshotOf, CloneOf}
use Rattle.object_id.specs.declared.entry.VdiSpec.{VdiSpec}
use Rattle.object_id.specs.declared.node.NodeId.{NodeId}
use Rattle.object_id.specs.declared.oid.Vid.{Vid}
use Rattle.disk_lock.specs.declared.holder.Holder.{Holder}
use Rattle.vdi_directory.specs.declared.decision.Outcome.{Outcome}
use Rattle.vdi_directory.specs.declared.effect.Effect.{Effect}
use Rattle.vdi_directory.specs.declared.effect.Effect.TheVariants as effects
use Rattle.vdi_directory.specs.declared.effect.Reservation.{Reservation}
use Rattle.vdi_directory.specs.declared.effect.Source.{Source}
use Rattle.vdi_directory.specs.declared.effect.Source.TheVariants as sources
use Rattle.vdi_directory.specs.declared.header.Header.{Header}
use Rattle.vdi_directory.specs.Decisions.{nothing, silent_outcome, grant_outcome, refusal_outcome, is_held_by, is_reserved_by, is_taken}
use Rattle.vdi_directory.specs.Decisions.{grant_of, or_full, reservation_outcome, with_spec, held_disk, reserved_snapshot, reserved_clone}
use Rattle.vdi_directory.specs.Decisions.{reserve_outcome, publication, replacement, snapshot_outcome, target, deletion, lock, outcome}
use Rattle.vdi_directory.specs.Effects.{is_used, header_of, name_of, reservations_of, reservation_on, holder_of}
use Rattle.vdi_directory.specs.Names.{snapshot_with_tag, is_live_name}
use Rattle.vdi_directory.specs.Sound.{IsLiveSnapshot, IsSound}
use Rattle.vdi_directory.specs.Sources.{is_for, tag_for}
use Rattle.vdi_directory.specs.States.{state_of}
use Rattle.vdi_directory.specs.Vids.{free_id}
use Rattle.vdi_directory.proofs.LawfulEntries.{in-find, snapshot_with_tag-is}
use Rattle.overlap_law.specs.Each.{spec_in}

-- ---- what an effect has of the entry that made it

-- a new disk is made from none, one that is to take the place of another from that, and a clone from some
abbrev pub IsSourceParent : Source → Option Vid → Type 0
IsSourceParent sources.Fresh parent = parent ≡ None
IsSourceParent (sources.Snapshot old tag) parent = parent ≡ Some old
IsSourceParent sources.Clone parent = is_some parent ≡ true

-- and what is to take the place of another is of its spec
abbrev pub IsSourceSpec : List Effect → Source → VdiSpec → Type 0
IsSourceSpec before sources.Fresh spec = Unit {0}
IsSourceSpec before (sources.Snapshot old tag) spec = spec_in before old.0 ≡ Some spec
IsSourceSpec before sources.Clone spec = Unit {0}

abbrev pub IsOfSource : List Effect → Source → Option Vid → VdiSpec → Type 0
IsOfSource before source parent spec = IsSourceParent source parent × IsSourceSpec before source spec

-- what a reserved id is made of is the disk whose place it is to take, or a snapshot; what is published was reserved for a new disk; and an
-- id that takes a disk's place was reserved for that
abbrev pub IsMadeSo : List Effect → Effect → Type 0
IsMadeSo before effects.Nothing = Unit {0}
IsMadeSo before (effects.Reserved grant) =
    ((p : Vid) → grant.header.parent ≡ Some p
    → ((tag : List ℕ) × (grant.reservation.source ≡ sources.Snapshot p tag)) ⊎ IsLiveSnapshot (state_of before p.0))
    × IsOfSource before grant.reservation.source grant.header.parent grant.header.spec
IsMadeSo before (effects.Published of name) =
    (r : Reservation) × (reservation_on of (reservations_of before) ≡ Some r) × (clones : Bool) × (is_for clones r.source ≡ true)
IsMadeSo before (effects.Snapped snap) =
    (r : Reservation) × (reservation_on snap.vid (reservations_of before) ≡ Some r) × (tag_for snap.old r.source ≡ Some snap.tag)
IsMadeSo before (effects.Deleted of name) = Unit {0}
IsMadeSo before (effects.Held of holder) = Unit {0}
IsMadeSo before (effects.Freed of) = Unit {0}
IsMadeSo before (effects.Withdrawn of) = Unit {0}
IsMadeSo before (effects.Left node) = Unit {0}

module _ (before : List Effect) (sound : IsSound before) where
  abbrev So : Outcome → Type 0
  So made = IsMadeSo before made.effect

  abbrev IsBase : Source → Option Vid → Type 0
  IsBase source parent =
      (p : Vid) → parent ≡ Some p → ((tag : List ℕ) × (source ≡ sources.Snapshot p tag)) ⊎ IsLiveSnapshot (state_of before p.0)

  module _ (by : NodeId) (session : ℕ) (name : List ℕ) (source : Source) (parent : Option Vid) (base : IsBase source parent) where
    free_so : (spec : VdiSpec) (free : Option ℕ) → IsOfSource before source parent spec
        → So (or_full free (grant_of before by session name source parent spec))
    free_so spec None is = tt
    free_so spec (Some id) is = (base, is)

    spec_so : (header : Option Header) → ((found : Header) → header ≡ Some found → IsOfSource before source parent found.spec)
        → So (with_spec header (reservation_outcome before by session name source parent))
    spec_so None is = tt
    spec_so (Some header) is = free_so header.spec (free_id name (is_used before)) (is header refl)

  snapshot_so : (by : NodeId) (session : ℕ) (name tag : List ℕ) (old : Option Vid) → So (reserved_snapshot before by session name tag old)
  snapshot_so by session name tag None = tt
  snapshot_so by session name tag (Some old) =
      cond_either So (is_some (snapshot_with_tag tag (name_of before name))) (refusal_outcome causes.VdiExist)
      (with_spec (header_of before old.0) (reservation_outcome before by session name (sources.Snapshot old tag) (Some old))) tt
      (spec_so by session name (sources.Snapshot old tag) (Some old)
      (λ p is. inl (tag, ap (λ (v : Vid). sources.Snapshot v tag) (same_Some old p is))) (header_of before old.0)
      (λ found is. (refl, ap (option_map (λ (h : Header). h.spec)) is)))

  clone_so : (by : NodeId) (session : ℕ) (name base tag : List ℕ) (from : Option Vid) → snapshot_with_tag tag (name_of before base) ≡ from
      → So (reserved_clone before by session name from)
  clone_so by session name base tag None is = tt
  clone_so by session name base tag (Some from) is =
      cond_either So (is_taken before name) (refusal_outcome causes.VdiExist)
      (with_spec (header_of before from.0) (reservation_outcome before by session name sources.Clone (Some from))) tt
      (spec_so by session name sources.Clone (Some from)
      (λ p same.
      let found = snapshot_with_tag-is tag (name_of before base) from is in
      inr (subst (λ (v : Vid). IsLiveSnapshot (state_of before v.0)) (found.2 ∙ same_Some from p same)
      (sound.live_snapshots base found.0 found.1).state)) (header_of before from.0) (λ found is. (refl, tt)))

  reserve_so : (by : NodeId) (session : ℕ) (name : List ℕ) (origin : Origin) → So (reserve_outcome before by session name origin)
  reserve_so by session name (Fresh spec) =
      cond_either So (is_taken before name) (refusal_outcome causes.VdiExist)
      (reservation_outcome before by session name sources.Fresh None spec) tt
      (free_so by session name sources.Fresh None (λ p is. absurd (cc (is))) spec (free_id name (is_used before)) (refl, tt))
  reserve_so by session name (SnapshotOf tag) = snapshot_so by session name tag (held_disk before by session (name_of before name).working)
  reserve_so by session name (CloneOf base tag) =
      cond_either So (is_live_name (name_of before base)) (reserved_clone before by session name
      (snapshot_with_tag tag (name_of before base))) (refusal_outcome causes.NoBaseVdi)
      (clone_so by session name base tag (snapshot_with_tag tag (name_of before base)) refl) tt

  -- a reservation that was found is on its own id
  on_own : (vid : Vid) (r : Reservation) → reservation_on vid (reservations_of before) ≡ Some r
      → reservation_on r.vid (reservations_of before) ≡ Some r
  on_own vid r found =
      let on = (in-find (λ (r : Reservation). r.vid.0 == vid.0) r (reservations_of before) found).1 in
      ap (λ (k : ℕ). reservation_on (record { 0 = k }) (reservations_of before)) (eqb-true r.vid.0 vid.0 on) ∙ found

  published_so : (by : NodeId) (clones : Bool) (vid : Vid) (o : Option Reservation) → reservation_on vid (reservations_of before) ≡ o
      → So (publication by (is_for clones) o)
  published_so by clones vid None found = tt
  published_so by clones vid (Some r) found = by_test (r.by.0 == by.0 && is_for clones r.source) refl
    where
      by_test : (b : Bool) → (r.by.0 == by.0 && is_for clones r.source) ≡ b
          → So (cond b (grant_outcome r.vid (effects.Published r.vid r.name)) nothing)
      by_test true is = (r, on_own vid r found, clones, (and_parts (r.by.0 == by.0) (is_for clones r.source) is).1)
      by_test false is = tt

  snapped_so : (by : NodeId) (old vid : Vid) (o : Option Reservation) → reservation_on vid (reservations_of before) ≡ o
      → So (snapshot_outcome before by old o)
  snapped_so by old vid None found = tt
  snapped_so by old vid (Some r) found =
      cond_either So (r.by.0 == by.0) (replacement r old (tag_for old r.source) (holder_of before old.0)) nothing
      (by_tag (tag_for old r.source) refl (holder_of before old.0)) tt
    where
      by_tag : (tag : Option (List ℕ)) → tag_for old r.source ≡ tag → (holder : Option Holder) → So (replacement r old tag holder)
      by_tag None is holder = tt
      by_tag (Some tag) is None = tt
      by_tag (Some tag) is (Some holder) = (r, on_own vid r found, is)

  deleted_so : (name : List ℕ) (of : Result Vid Cause) → So (deletion name of)
  deleted_so name (Err cause) = tt
  deleted_so name (Ok vid) = tt

  locked_so : (holder : Holder) (is_snapshot : Bool) (of : Result Vid Cause) → So (lock holder is_snapshot of)
  locked_so holder is_snapshot (Err cause) = tt
  locked_so holder true (Ok vid) = tt
  locked_so holder false (Ok vid) = tt

  pub outcome_so : (entry : Entry) → IsMadeSo before (outcome before entry).effect
  outcome_so (Format members) = tt
  outcome_so (Join node zone vnodes) = tt
  outcome_so (Leave node) = tt
  outcome_so (Reweight node vnodes) = tt
  outcome_so (Recovered node epoch) = tt
  outcome_so (Reserve by session name origin) = reserve_so by session name origin
  outcome_so (Publish by vid) = published_so by false vid (reservation_on vid (reservations_of before)) refl
  outcome_so (Clone by vid) = published_so by true vid (reservation_on vid (reservations_of before)) refl
  outcome_so (Snapshot by old vid) = snapped_so by old vid (reservation_on vid (reservations_of before)) refl
  outcome_so (Delete by session name tag) = deleted_so name (target before name tag)
  outcome_so (Lock by session name tag) = locked_so (record { node = by; session = session }) (is_some tag) (target before name tag)
  outcome_so (Unlock by session vid) =
      cond_either So (is_held_by by session (holder_of before vid.0)) (silent_outcome (effects.Freed vid))
      (cond (is_reserved_by by session (reservation_on vid (reservations_of before))) (silent_outcome (effects.Withdrawn vid)) nothing) tt
      (cond_either So (is_reserved_by by session (reservation_on vid (reservations_of before))) (silent_outcome (effects.Withdrawn vid))
      nothing tt tt)
