use Rattle.std.proofs.Common.{arith}
use Rattle.guest_driver.proofs.ExtentLemmas.{quotient_below}
use Rattle.guest_driver.proofs.extent.Extent.first.Goals as goal

pub overflow_cast-result-2 : goal.overflow_cast-result-2
overflow_cast-result-2 c =
    let below = quotient_below c.args.self.offset c.args.self.shift (omega (arith, c.requires.some, c.requires.objects)) in
    omega (arith, below)
