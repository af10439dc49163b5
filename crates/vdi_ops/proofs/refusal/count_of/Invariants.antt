use Rattle.std.proofs.Common.{◌≡◌, ◌==◌, count_by, take}
use Rattle.vdi_ops.proofs.refusal.count_of.Given as goal

abbrev pub invariant-loop-other : goal.invariant-loop-other
invariant-loop-other l = l.count ≡ count_by (λ other. other == l.entry) (take l.other-index l.table)
