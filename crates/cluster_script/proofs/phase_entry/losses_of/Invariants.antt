use Rattle.std.proofs.Common.{◌≡◌, take}
use Rattle.std.specs.Prelude.{sum_by}
use Rattle.cluster_script.specs.Phases.{losses_in}
use Rattle.cluster_script.proofs.phase_entry.losses_of.Given as goal

-- what the statements that were looked at lose is counted
abbrev pub invariant-loop-s : goal.invariant-loop-s
invariant-loop-s l = l.losses ≡ sum_by losses_in (take l.s-index l.statements)
