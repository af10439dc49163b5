use Rattle.std.proofs.Common.{◌^◌, sym, ap, subst, ◌∙◌}
use Rattle.object_id.specs.declared.entry.VdiSpec.{VdiSpec}
use Rattle.object_id.specs.Oid.{object_number}
use Rattle.object_id.specs.Spec.{IsSpec}
use Rattle.inode.specs.Layout.{Content}
use Rattle.peer_proto.specs.Work.{IsWork}
use Rattle.peer_proto.specs.declared.work.ObjWork.TheVariants.{Read}
use Rattle.guest_driver.specs.Extent.{piece_of}
use Rattle.guest_driver.proofs.WorkLemmas.{read_object-work}
use Rattle.guest_driver.proofs.works.read_object.Goals as goal

pub returns-clause-work : goal.returns-clause-work
returns-clause-work c =
    let inode : Content = c.args.inode.now in
    subst IsWork
    (sym (ap (λ oid. Read oid c.spec-2.result.policy 0 c.object_bytes.result) c.object_of.ensures
    ∙ ap (λ (spec : VdiSpec). Read (object_number c.args.vid.0 c.args.piece.index) spec.policy 0 c.object_bytes.result) c.spec-2.ensures.value
    ∙ ap (λ size. Read (object_number c.args.vid.0 c.args.piece.index) inode.spec.policy 0 size) c.object_bytes.ensures
    ∙ ap (λ (spec : VdiSpec). Read (object_number c.args.vid.0 c.args.piece.index) inode.spec.policy 0 (2 ^ spec.shift)) c.spec-3.ensures.value))
    (read_object-work inode (piece_of c.args.piece) c.args.vid.0 (subst IsSpec c.spec.ensures.value c.spec.ensures.valid))
