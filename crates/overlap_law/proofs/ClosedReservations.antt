-- What the directory decides on a reservation is a refusal, nothing, or the grant of a free id: what holds of these holds of it.
use Rattle.std.proofs.Common.{◌≡◌, ℕ, Bool, true, false, List, Option, Some, None, is_some, refl}
use Rattle.proof_tools.proofs.Booleans.{cond_either}
use Rattle.object_id.specs.declared.cause.Cause.{Cause}
use Rattle.object_id.specs.declared.cause.Cause.TheVariants as causes
use Rattle.object_id.specs.declared.entry.Origin.{Origin}
use Rattle.object_id.specs.declared.entry.Origin.TheVariants.{Fresh, SnapshotOf, CloneOf}
use Rattle.object_id.specs.declared.entry.VdiSpec.{VdiSpec}
use Rattle.object_id.specs.declared.node.NodeId.{NodeId}
use Rattle.object_id.specs.declared.oid.Vid.{Vid}
use Rattle.vdi_directory.specs.declared.decision.Outcome.{Outcome}
use Rattle.vdi_directory.specs.declared.effect.Effect.{Effect}
use Rattle.vdi_directory.specs.declared.effect.Source.{Source}
use Rattle.vdi_directory.specs.declared.effect.Source.TheVariants as sources
use Rattle.vdi_directory.specs.declared.header.Header.{Header}
use Rattle.vdi_directory.specs.Decisions.{nothing, refusal_outcome, is_taken, grant_of, or_full, reservation_outcome, with_spec, held_disk}
use Rattle.vdi_directory.specs.Decisions.{reserved_snapshot, reserved_clone, reserve_outcome}
use Rattle.vdi_directory.specs.Effects.{is_used, header_of, name_of}
use Rattle.vdi_directory.specs.Names.{snapshot_with_tag, is_live_name}
use Rattle.vdi_directory.specs.Vids.{free_id}

-- whether a reservation is refused for this
abbrev pub refuses_reservation : Cause → Bool
refuses_reservation causes.FullVdi = true
refuses_reservation causes.VdiExist = true
refuses_reservation causes.VdiNotLocked = true
refuses_reservation causes.NoTag = true
refuses_reservation causes.NoBaseVdi = true
refuses_reservation _ = false

module _ (before : List Effect) (by : NodeId) (session : ℕ) (name : List ℕ) (Q : Outcome → Type 0)
    (refused : (cause : Cause) → refuses_reservation cause ≡ true → Q (refusal_outcome cause)) (silent : Q nothing)
    (granted : (source : Source) (parent : Option Vid) (spec : VdiSpec) (id : ℕ)
    → Q (grant_of before by session name source parent spec id)) where
  with_free : (source : Source) (parent : Option Vid) (spec : VdiSpec) (free : Option ℕ)
      → Q (or_full free (grant_of before by session name source parent spec))
  with_free source parent spec None = refused causes.FullVdi refl
  with_free source parent spec (Some id) = granted source parent spec id

  with_header : (source : Source) (parent : Option Vid) (header : Option Header)
      → Q (with_spec header (reservation_outcome before by session name source parent))
  with_header source parent None = silent
  with_header source parent (Some header) = with_free source parent header.spec (free_id name (is_used before))

  of_snapshot : (tag : List ℕ) (old : Option Vid) → Q (reserved_snapshot before by session name tag old)
  of_snapshot tag None = refused causes.VdiNotLocked refl
  of_snapshot tag (Some old) =
      cond_either Q (is_some (snapshot_with_tag tag (name_of before name))) (refusal_outcome causes.VdiExist)
      (with_spec (header_of before old.0) (reservation_outcome before by session name (sources.Snapshot old tag) (Some old)))
      (refused causes.VdiExist refl) (with_header (sources.Snapshot old tag) (Some old) (header_of before old.0))

  of_clone : (base : Option Vid) → Q (reserved_clone before by session name base)
  of_clone None = refused causes.NoTag refl
  of_clone (Some base) =
      cond_either Q (is_taken before name) (refusal_outcome causes.VdiExist)
      (with_spec (header_of before base.0) (reservation_outcome before by session name sources.Clone (Some base)))
      (refused causes.VdiExist refl) (with_header sources.Clone (Some base) (header_of before base.0))

  pub reserves_so : (origin : Origin) → Q (reserve_outcome before by session name origin)
  reserves_so (Fresh spec) =
      cond_either Q (is_taken before name) (refusal_outcome causes.VdiExist)
      (reservation_outcome before by session name sources.Fresh None spec) (refused causes.VdiExist refl)
      (with_free sources.Fresh None spec (free_id name (is_used before)))
  reserves_so (SnapshotOf tag) = of_snapshot tag (held_disk before by session (name_of before name).working)
  reserves_so (CloneOf base tag) =
      cond_either Q (is_live_name (name_of before base)) (reserved_clone before by session name
      (snapshot_with_tag tag (name_of before base)))
      (refusal_outcome causes.NoBaseVdi) (of_clone (snapshot_with_tag tag (name_of before base))) (refused causes.NoBaseVdi refl)
