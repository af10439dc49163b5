use Rattle.std.proofs.Common.{◌≡◌, ◌+◌, ◌%◌, ◌^◌, ◌≤◌, length, ap, subst, ◌∙◌, arith}
use Rattle.object_id.specs.declared.entry.VdiSpec.{VdiSpec}
use Rattle.object_id.specs.Spec.{IsSpec}
use Rattle.guest_driver.specs.Extent.{piece_of}
use Rattle.guest_driver.proofs.WorkLemmas.{length-piece_bytes, create-work}
use Rattle.guest_driver.proofs.works.create_piece.Goals as goal

pub returns-clause-work : goal.returns-clause-work
returns-clause-work c =
    let spec : VdiSpec = c.args.inode.now.spec in
    let bytes : length c.in_ok-piece_bytes.field-0 ≡ c.args.piece.size
    = ap length c.in_ok-piece_bytes.ensures ∙ length-piece_bytes c.args.payload.now (piece_of c.args.piece) c.requires.inside in
    let size : c.object_bytes.result ≡ 2 ^ spec.shift = c.object_bytes.ensures ∙ ap (λ (spec : VdiSpec). 2 ^ spec.shift) c.spec-3.ensures.value in
    let room : c.args.piece.offset + c.args.piece.size ≤ 2 ^ spec.shift = c.requires.room in
    create-work c.object_of.result c.object_bytes.result c.args.piece.offset c.spec-2.result.policy c.in_ok-piece_bytes.field-0 spec
    (subst IsSpec c.spec.ensures.value c.spec.ensures.valid) (ap (λ (spec : VdiSpec). spec.policy) c.spec-2.ensures.value) size
    (omega (arith, bytes, room)) c.requires.blocks.offset (ap (λ n. n % 512) bytes ∙ c.requires.blocks.size)
