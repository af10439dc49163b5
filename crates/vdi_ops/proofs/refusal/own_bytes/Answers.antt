use Rattle.std.proofs.Common.{◌≡◌, ℕ, ◌*◌, ◌%◌, ◌^◌, ◌≤◌, subst, arith}
use Rattle.std.proofs.Math.Nat.{mul-le-mul_left, mul-le-mul_right}
use Rattle.std.proofs.Math.Pow.{pow_mono}
use Rattle.std.proofs.lemmas.Nat.{one_shl}
use Rattle.object_id.specs.Spec.{IsSpec, objects_of}
use Rattle.vdi_ops.proofs.TableLemmas.{objects_most}
use Rattle.vdi_ops.proofs.refusal.own_bytes.Goals as goal

pub overflow_mul-result : goal.overflow_mul-result
overflow_mul-result c =
    let shift : ℕ = c.spec-spec.result.shift in
    let count : ℕ = c.count_of.result in
    let valid : IsSpec c.args.inode.now.spec = subst IsSpec c.spec-spec.ensures.value c.spec-spec.ensures.valid in
    let power : 1 * 2 ^ shift % 2 ^ 64 ≡ 2 ^ shift = one_shl shift 64 (omega (arith, c.spec-spec.ensures.valid.shift.1)) in
    let most : objects_of c.args.inode.now.spec ≤ 2 ^ 20 = objects_most c.args.inode.now.spec valid in
    let few : count ≤ 2 ^ 20 = omega (arith, c.count_of.ensures.most, c.entries.ensures.count, most) in
    let small : 2 ^ shift ≤ 2 ^ 24 = pow_mono c.spec-spec.ensures.valid.shift.1 in
    let first : count * 2 ^ shift ≤ 2 ^ 20 * 2 ^ shift = mul-le-mul_right (2 ^ shift) few in
    let second : 2 ^ 20 * 2 ^ shift ≤ 2 ^ 20 * 2 ^ 24 = mul-le-mul_left (2 ^ 20) small in
    rw power (omega (arith, first, second))
