use Rattle.std.proofs.Common.{◌≡◌, true, take}
use Rattle.std.specs.List.{list_all}
use Rattle.cluster_script.specs.Statements.{is_setting}
use Rattle.cluster_script.proofs.phase_entry.setting_count.Given as goal

-- the statements that were looked at are settings
abbrev pub invariant-loop-place : goal.invariant-loop-place
invariant-loop-place l = list_all is_setting (take l.place l.statements) ≡ true
