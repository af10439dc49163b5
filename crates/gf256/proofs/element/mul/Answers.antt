-- The product is where the sum of the logarithms says.
use Rattle.std.proofs.Common.{arith}
use Rattle.gf256.proofs.Logarithms.{logarithm_most, product_found}
use Rattle.gf256.proofs.element.mul.Goals as goal

pub bounds-a-2 : goal.bounds-a-2
bounds-a-2 c =
    omega (arith, logarithm_most c.args.a c.ranges.a.fits, logarithm_most c.args.b c.ranges.b.fits)

pub returns : goal.returns
returns c = product_found c.args.a c.args.b c.ranges.a.fits c.ranges.b.fits
