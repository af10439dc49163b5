use Rattle.std.proofs.Common.{◌≡◌, ◌≤◌, ◌+◌, ◌++◌, length}
use Rattle.std.specs.Prelude.{filter, not}
use Rattle.cluster_script.specs.Statements.{is_setting}
use Rattle.cluster_script.specs.Phases.{stretches}
use Rattle.cluster_script.specs.KeptIndex.{phase_entries}
use Rattle.cluster_script.proofs.Stretches.{AreBounded}
use Rattle.cluster_script.proofs.phase_entry.phase_entries.Given as goal

-- the phases so far, and those of the statements that are left, are the phases
abbrev pub invariant-loop-rest : goal.invariant-loop-rest
invariant-loop-rest l = record {
  controls : l.controls + length l.rest ≤ length l.statements;
  requests : l.requests + length l.rest ≤ length l.statements;
  losses : AreBounded (stretches l.rest);
  phases : l.phases ++ phase_entries l.controls l.requests (stretches l.rest)
      ≡ phase_entries 0 0 (stretches (filter (λ s. not (is_setting s)) l.statements));
}

abbrev pub decreases-loop-rest : goal.decreases-loop-rest
decreases-loop-rest l = length l.rest
