use Rattle.vdi_directory.specs.Decisions.{log_effects}
use Rattle.vdi_directory.specs.DirectoryState.{AreLocks}
use Rattle.base_tests.proofs.large_directories.many_disks.Given as goal

abbrev pub invariant-loop-disk : goal.invariant-loop-disk
invariant-loop-disk l = AreLocks (log_effects l.directory) l.locks
