use Rattle.std.proofs.Common.{◌≡◌, ◌%◌, ◌^◌, length, refl, ap, subst, ◌∙◌, arith}
use Rattle.object_id.specs.declared.entry.VdiSpec.{VdiSpec}
use Rattle.object_id.specs.Spec.{IsSpec}
use Rattle.guest_driver.specs.Extent.{piece_of}
use Rattle.guest_driver.proofs.WorkLemmas.{object-whole, length-copy, create-work}
use Rattle.guest_driver.proofs.works.create_copy.Goals as goal

pub returns-clause-work : goal.returns-clause-work
returns-clause-work c =
    let spec : VdiSpec = c.args.inode.now.spec in
    let is : IsSpec spec = subst IsSpec c.spec.ensures.value c.spec.ensures.valid in
    let bytes : length c.in_ok-copy_with_piece.field-0 ≡ 2 ^ spec.shift
    = ap length c.in_ok-copy_with_piece.ensures
    ∙ length-copy c.args.inode.now c.args.payload.now (piece_of c.args.piece) c.args.old.now c.requires.inside c.requires.room c.requires.whole in
    let size : c.object_bytes.result ≡ 2 ^ spec.shift = c.object_bytes.ensures ∙ ap (λ (spec : VdiSpec). 2 ^ spec.shift) c.spec-3.ensures.value in
    create-work c.object_of.result c.object_bytes.result 0 c.spec-2.result.policy c.in_ok-copy_with_piece.field-0 spec
    is (ap (λ (spec : VdiSpec). spec.policy) c.spec-2.ensures.value) size
    (omega (arith, bytes)) refl (ap (λ n. n % 512) bytes ∙ object-whole spec is)
