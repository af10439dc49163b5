-- The powers repeat after 255.
use Rattle.gf256.proofs.Logarithms.{power_found}
use Rattle.gf256.proofs.element.power.Goals as goal

pub returns : goal.returns
returns c = power_found c.args.exponent
