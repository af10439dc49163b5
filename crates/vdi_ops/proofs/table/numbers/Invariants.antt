use Rattle.std.proofs.Common.{◌≡◌, take}
use Rattle.vdi_ops.specs.Stage.{id_numbers}
use Rattle.vdi_ops.proofs.table.numbers.Given as goal

abbrev pub invariant-loop-id : goal.invariant-loop-id
invariant-loop-id l = l.numbers.items ≡ id_numbers (take l.id-index l.ids)
