use Rattle.std.proofs.Common.{arith}
use Rattle.guest_driver.proofs.ExtentLemmas.{objects_most}
use Rattle.guest_driver.proofs.works.object_of.Goals as goal

pub object-requires-clause-index : goal.object-requires-clause-index
object-requires-clause-index c =
    let most = objects_most c.args.spec c.requires.spec in
    let within = c.requires.index in
    omega (arith, most, within)
