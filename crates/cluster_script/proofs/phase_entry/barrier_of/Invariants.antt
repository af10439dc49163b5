use Rattle.std.proofs.Common.{◌≡◌, drop}
use Rattle.std.specs.List.{find}
use Rattle.cluster_script.specs.Phases.{is_barrier}
use Rattle.cluster_script.proofs.phase_entry.barrier_of.Given as goal

-- the first barrier is that of the statements that are left
abbrev pub invariant-loop-s : goal.invariant-loop-s
invariant-loop-s l = find is_barrier (drop l.s-index l.statements) ≡ find is_barrier l.statements
