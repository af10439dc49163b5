-- What needs one part is that part, and coded data is written block by block.
use Rattle.std.proofs.Common.{◌≡◌, ℕ, ◌*◌, ◌∙◌, List, length, ap, ap₂, sym, subst}
use Rattle.object_id.specs.declared.policy.Policy.{Policy}
use Rattle.object_id.specs.declared.policy.Policy.TheVariants.{Coded}
use Rattle.object_id.specs.declared.oid.Kind.TheVariants.{Block}
use Rattle.object_id.specs.Policy.{IsPolicy, need_of}
use Rattle.gf256.specs.Part.{IsAligned, part_size, parts_in, bytes_of_parts, is_in_strips}
use Rattle.strip_coding.proofs.BlockByBlock.{one_part, coded_parts}
use Rattle.strip_coding.proofs.parts.bytes_of_parts_by.Goals as goal

pub returns-in-Copies : goal.returns-in-Copies
returns-in-Copies g c =
    c.copy_from_slice.ensures.after
    ∙ sym
    (one_part c.args.policy c.args.kind c.args.indexes.now c.args.parts.now (length c.args.out.now)
    (ap (λ policy. is_in_strips policy c.args.kind) c.in-Copies.is) c.requires.parts)

pub returns-in-Block : goal.returns-in-Block
returns-in-Block g c =
    let d : ℕ = c.in-Coded.d in
    let long : ℕ = length c.args.out.now in
    let indexes : List ℕ = c.args.indexes.now in
    let parts : List ℕ = c.args.parts.now in
    let coded : Policy = Coded d c.in-Coded.p in
    let is : IsPolicy coded = subst IsPolicy c.in-Coded.is c.requires.policy in
    let aligned : IsAligned coded Block long =
    subst (λ kind. IsAligned coded kind long) c.in-Block.is (subst (λ policy. IsAligned policy c.args.kind long) c.in-Coded.is c.requires.whole) in
    let whole : length parts ≡ need_of coded Block * part_size coded Block long =
    c.requires.parts ∙ ap₂ (λ policy kind. need_of policy kind * part_size policy kind long) c.in-Coded.is c.in-Block.is in
    c.blocks-in-Block.ensures
    ∙ sym (coded_parts d c.in-Coded.p indexes parts long is.0 aligned whole)
    ∙ sym
    (ap₂ (λ policy kind. bytes_of_parts policy kind indexes (parts_in (part_size policy kind long) (need_of policy kind) parts))
    c.in-Coded.is c.in-Block.is)

pub returns-in-Inode : goal.returns-in-Inode
returns-in-Inode g c =
    c.copy_from_slice-in-Inode.ensures.after
    ∙ sym
    (one_part c.args.policy c.args.kind c.args.indexes.now c.args.parts.now (length c.args.out.now)
    (ap₂ is_in_strips c.in-Coded.is c.in-Inode.is) c.requires.parts)
