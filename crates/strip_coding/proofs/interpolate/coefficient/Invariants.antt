use Rattle.std.proofs.Common.{◌≡◌, ◌*◌, ◌≤◌}
use Rattle.gf256.specs.Field.{power}
use Rattle.gf256.specs.Strip.{basis}
use Rattle.strip_coding.proofs.InterpolateLaws.{whole}
use Rattle.strip_coding.proofs.interpolate.coefficient.Given as goal

-- the product so far times that of the points left is the basis polynomial's value
abbrev pub invariant-loop-other : goal.invariant-loop-other
invariant-loop-other l = record {
  few : l.exponent ≤ 510 * l.other-index;
  value : whole (power l.exponent) l.points l.other-index l.point l.x ≡ basis l.points l.point l.x;
}
