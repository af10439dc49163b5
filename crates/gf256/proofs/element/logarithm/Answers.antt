-- The table has the exponent of each element but 0.
use Rattle.gf256.proofs.Logarithms.{logarithm_is}
use Rattle.gf256.proofs.element.logarithm.Goals as goal

pub returns-clause-power : goal.returns-clause-power
returns-clause-power c = (logarithm_is c.args.a c.ranges.a.fits c.requires).0

pub returns-clause-below : goal.returns-clause-below
returns-clause-below c = (logarithm_is c.args.a c.ranges.a.fits c.requires).1
