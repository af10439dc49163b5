use Rattle.std.proofs.Common.{◌≡◌, take}
use Rattle.vdi_directory.specs.Decisions.{log_effects}
use Rattle.vdi_directory.specs.DirectoryState.{AreLocks}
use Rattle.peer_service.proofs.log_reading.directory_of.Given as goal

abbrev pub invariant-loop-entry : goal.invariant-loop-entry
invariant-loop-entry l = record {
  directory : l.directory ≡ take l.entry-index l.entries;
  locks : AreLocks (log_effects l.directory) l.locks;
}
