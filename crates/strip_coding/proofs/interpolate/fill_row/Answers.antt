-- After the last point the row is whole.
use Rattle.std.proofs.Common.{◌∙◌, sym, ap, map, take_all, arith}
use Rattle.gf256.specs.Strip.{basis, coefficients}
use Rattle.strip_coding.proofs.interpolate.fill_row.Goals as goal

pub returns : goal.returns
unfolding coefficients
returns c =
    sym (take_all c.loop-m.m c.loop-m.row (omega arith))
    ∙ c.loop-m.invariant
    ∙ ap (map (λ point. basis c.args.points.now point c.args.x)) (take_all c.loop-m.m c.args.points.now c.loop-m-test.false)
