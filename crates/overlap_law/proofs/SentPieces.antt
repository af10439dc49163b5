-- What works ask for ends inside the rows of their objects: so it is of each that is whole on a disk that is known.
use Rattle.std.proofs.Common.{◌≡◌, arith, ℕ, ◌+◌, ◌≤◌, List, ◌++◌, length, Some, refl, sym, ap, subst, ◌∙◌}
use Rattle.std.proofs.lemmas.Option.{same_Some}
use Rattle.object_id.specs.declared.entry.Entry.{Entry}
use Rattle.object_id.specs.declared.entry.VdiSpec.{VdiSpec}
use Rattle.object_id.specs.declared.oid.Kind.{Kind}
use Rattle.object_id.specs.declared.oid.Kind.TheVariants.{Block, Inode}
use Rattle.object_id.specs.declared.policy.Policy.{Policy}
use Rattle.object_id.specs.declared.policy.Policy.TheVariants.{Copies, Coded}
use Rattle.object_id.specs.Oid.{kind_of, vid_of}
use Rattle.object_id.specs.Spec.{IsSpec}
use Rattle.gf256.specs.Part.{IsAligned, part_size, part}
use Rattle.gf256.proofs.PartLaws.{length-part}
use Rattle.peer_proto.specs.declared.ask.PeerAsk.{PeerAsk}
use Rattle.peer_proto.specs.declared.ask.PeerAsk.TheVariants as asks
use Rattle.peer_proto.specs.declared.work.ObjWork.{ObjWork}
use Rattle.peer_proto.specs.declared.work.ObjWork.TheVariants as works
use Rattle.vdi_directory.specs.declared.effect.Effect.{Effect}
use Rattle.vdi_directory.specs.Decisions.{log_effects}
use Rattle.peer_service.specs.State.{object_size, row_size}
use Rattle.guest_driver.proofs.WorkLemmas.{object-whole}
use Rattle.gateway.specs.Work.{ask_for}
use Rattle.overlap_law.specs.PiecesInRange.{PiecesEndInRows}
use Rattle.overlap_law.proofs.GrantedEpochs.{spec_known, spec_stays}
use Rattle.overlap_law.proofs.KnownAsks.{IsKnownAsk}
use Rattle.overlap_law.proofs.KnownDisks.{IsKnownWork}
use Rattle.overlap_law.proofs.SentCreates.{parts_inside}
use Rattle.overlap_law.proofs.WholeNodes.{IsWholeWork}

-- an object of a disk is whole units for the disk's policy
object_aligned : (policy : Policy) (kind : Kind) (spec : VdiSpec) → IsSpec spec → IsAligned policy kind (object_size spec kind)
object_aligned (Copies copies) kind spec is = tt
object_aligned (Coded d p) Inode spec is = tt
object_aligned (Coded d p) Block spec is = object-whole spec is

module _ (effects : List Effect) (specs : (vid : ℕ) (spec : VdiSpec) → spec_known effects vid ≡ Some spec → IsSpec spec) where
  pub pieces_asked : (work : ObjWork) → IsWholeWork effects work → IsKnownWork effects work → (index : ℕ)
      → PiecesEndInRows effects (ask_for work index)
  pieces_asked (works.Create oid policy size offset bytes) whole known index =
      let kind : Kind = kind_of oid in
      let is = whole.0.is_work in
      let long : length (part policy kind index bytes) ≡ part_size policy kind (length bytes)
      = length-part policy kind index bytes is.0 is.2.1 in
      let ends : part_size policy kind offset + part_size policy kind (length bytes) ≤ part_size policy kind size
      = parts_inside policy kind offset (length bytes) size is.0 is.2.0 is.2.1 is.3 is.1 in
      omega (arith, long, ends)
  pieces_asked (works.Write oid policy offset bytes) whole known index =
      let kind : Kind = kind_of oid in
      let is = whole.0.is_work in
      let on = whole.1 in
      let disk = known.making refl in
      let size : ℕ = object_size on.spec kind in
      let same : disk.spec ≡ on.spec = same_Some disk.spec on.spec (sym disk.made ∙ on.made) in
      let own : policy ≡ on.spec.policy = disk.policy_so ∙ ap (λ (s : VdiSpec). s.policy) same in
      let long : length (part policy kind index bytes) ≡ part_size policy kind (length bytes)
      = length-part policy kind index bytes is.0 is.2.1 in
      let ends : part_size policy kind offset + part_size policy kind (length bytes) ≤ part_size policy kind size
      = parts_inside policy kind offset (length bytes) size is.0 is.2.0 is.2.1
      (object_aligned policy kind on.spec (specs (vid_of oid) on.spec on.made)) on.whole.0 in
      let all : part_size policy kind offset + length (part policy kind index bytes) ≤ part_size policy kind size
      = omega (arith, long, ends) in
      record {
        spec = on.spec;
        made = on.made;
        inside =
            subst (λ (p : Policy). part_size policy kind offset + length (part policy kind index bytes) ≤ part_size p kind size) own all;
      }
  pieces_asked (works.Read oid policy offset size) whole known index =
      let kind : Kind = kind_of oid in
      let is = whole.0.is_work in
      let on = whole.2 in
      let all : ℕ = object_size on.spec kind in
      let ends : part_size policy kind offset + part_size policy kind size ≤ part_size policy kind all
      = parts_inside policy kind offset size all is.0 is.2.0 is.2.1
      (object_aligned policy kind on.spec (specs (vid_of oid) on.spec on.made)) on.inside in
      record {
        spec = on.spec;
        made = on.made;
        inside =
            subst (λ (p : Policy). part_size policy kind offset + part_size policy kind size ≤ part_size p kind all) on.policy_so ends;
      }
  pieces_asked (works.ReadAll oid policy size) whole known index =
      let kind : Kind = kind_of oid in
      let on = whole.2 in
      let same : part_size policy kind size ≡ row_size kind on.spec
      = ap (part_size policy kind) on.inside ∙ ap (λ (p : Policy). part_size p kind (object_size on.spec kind)) on.policy_so in
      record { spec = on.spec; made = on.made; inside = subst (λ (n : ℕ). 0 + part_size policy kind size ≤ n) same (omega arith) }

-- a recovery asks for no piece
pub asks_no_piece : (effects known : List Effect) (ask : PeerAsk) (wanted : ℕ) → IsKnownAsk known ask wanted → PiecesEndInRows effects ask
asks_no_piece effects known (asks.Create key size offset bytes) wanted is = absurd is
asks_no_piece effects known (asks.Write key offset bytes) wanted is = absurd is
asks_no_piece effects known (asks.Read key offset size) wanted is = absurd is
asks_no_piece effects known asks.List wanted is = tt
asks_no_piece effects known (asks.RecoverRead oid level) wanted is = tt

-- and it stays so as the log grows
pub pieces_stay : (log later : List Entry) (ask : PeerAsk) → PiecesEndInRows (log_effects log) ask
    → PiecesEndInRows (log_effects (log ++ later)) ask
pieces_stay log later (asks.Create key size offset bytes) is = is
pieces_stay log later (asks.Write key offset bytes) is = record {
  spec = is.spec;
  made = spec_stays log later (vid_of key.oid) is.spec is.made;
  inside = is.inside;
}
pieces_stay log later (asks.Read key offset size) is = record {
  spec = is.spec;
  made = spec_stays log later (vid_of key.oid) is.spec is.made;
  inside = is.inside;
}
pieces_stay log later asks.List is = tt
pieces_stay log later (asks.RecoverRead oid level) is = tt
