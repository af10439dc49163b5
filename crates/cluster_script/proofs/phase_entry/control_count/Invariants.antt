use Rattle.std.proofs.Common.{◌≡◌, ◌≤◌, take}
use Rattle.std.specs.Prelude.{count_by}
use Rattle.cluster_script.specs.Phases.{is_control}
use Rattle.cluster_script.proofs.phase_entry.control_count.Given as goal

-- those among the statements that were looked at are counted
abbrev pub invariant-loop-s : goal.invariant-loop-s
invariant-loop-s l = record {
  within : l.count ≤ l.s-index;
  count : l.count ≡ count_by is_control (take l.s-index l.statements);
}
