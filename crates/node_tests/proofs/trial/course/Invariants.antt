use Rattle.vdi_directory.specs.Decisions.{log_effects}
use Rattle.vdi_directory.specs.DirectoryState.{AreLocks}
use Rattle.node_tests.proofs.trial.course.Given as goal

abbrev pub invariant-loop : goal.invariant-loop
invariant-loop l = AreLocks (log_effects l.log.directory) l.log.locks
