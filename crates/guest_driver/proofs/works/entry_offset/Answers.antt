use Rattle.std.proofs.Common.{arith}
use Rattle.guest_driver.proofs.ExtentLemmas.{objects_most}
use Rattle.guest_driver.proofs.works.entry_offset.Goals as goal

pub overflow_mul-result : goal.overflow_mul-result
overflow_mul-result c =
    let most = objects_most c.args.spec c.requires.spec in
    let within = c.requires.index in
    omega (arith, most, within)

pub overflow_add-result : goal.overflow_add-result
overflow_add-result c =
    let most = objects_most c.args.spec c.requires.spec in
    let within = c.requires.index in
    omega (arith, most, within)
