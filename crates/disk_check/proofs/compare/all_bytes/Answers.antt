use Rattle.disk_check.proofs.CompareLemmas.{all_fit}
use Rattle.std.proofs.Common.{◌<◌, ◌*◌, ◌^◌, arith}
use Rattle.disk_check.proofs.compare.all_bytes.Goals as goal

pub overflow_mul-result : goal.overflow_mul-result
overflow_mul-result c =
    let fits : c.wanted.result * c.part_size.result < 2 ^ 64 =
    all_fit c.args.spec c.wanted.result c.part_size.result c.object_bytes.result c.requires c.wanted.ensures c.part_size.ensures c.object_bytes.ensures in
    omega (arith, fits)
