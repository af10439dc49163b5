use Rattle.std.proofs.Common.{◌≡◌, false, take}
use Rattle.std.specs.List.{list_any}
use Rattle.cluster_script.specs.Phases.{is_barrier}
use Rattle.cluster_script.proofs.phase_entry.stretch_len.Given as goal

-- none of the statements that were looked at is a barrier
abbrev pub invariant-loop-place : goal.invariant-loop-place
invariant-loop-place l = list_any is_barrier (take l.place l.statements) ≡ false
