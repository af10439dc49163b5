use Rattle.std.proofs.Common.{◌*◌, ◌^◌, ◌≤◌, arith, lit<}
use Rattle.std.proofs.Math.Nat.{pow-le-pow_right, mul-le-mul_left}
use Rattle.object_id.specs.declared.entry.VdiSpec.{VdiSpec}
use Rattle.object_id.specs.declared.limits.TheConstants.{OBJECTS_MAX, SHIFT_MAX}
use Rattle.object_id.specs.Spec.{IsSpec}
use Rattle.object_id.proofs.laws.sizes_within_limits.Goals as goal

object-bytes : (spec : VdiSpec) → IsSpec spec → 2 ^ spec.shift ≤ 2 ^ SHIFT_MAX
object-bytes spec is = pow-le-pow_right (lit< tt) is.shift.1

pub returns-clause-object_bytes : goal.returns-clause-object_bytes
returns-clause-object_bytes c spec is = object-bytes spec is

pub returns-clause-size : goal.returns-clause-size
returns-clause-size c spec is =
    let most : OBJECTS_MAX * 2 ^ spec.shift ≤ OBJECTS_MAX * 2 ^ SHIFT_MAX = mul-le-mul_left OBJECTS_MAX (object-bytes spec is) in
    omega (arith, most, is.size.1)
