-- The inverse is where 255 less the logarithm says.
use Rattle.std.proofs.Common.{◌∙◌, ap}
use Rattle.gf256.specs.Field.{times}
use Rattle.gf256.proofs.FieldLaws.{times-inverse}
use Rattle.gf256.proofs.Logarithms.{inverse_place, inverse_found}
use Rattle.gf256.proofs.element.inv.Goals as goal

pub overflow_sub-result : goal.overflow_sub-result
overflow_sub-result c = inverse_place c.args.a c.ranges.a.fits c.requires

pub returns-clause-one : goal.returns-clause-one
returns-clause-one c =
    ap (times c.args.a) (inverse_found c.args.a c.ranges.a.fits c.requires)
    ∙ times-inverse c.args.a c.ranges.a.fits c.requires

pub returns-clause-value : goal.returns-clause-value
returns-clause-value c = inverse_found c.args.a c.ranges.a.fits c.requires
