use Rattle.std.proofs.Common.{take}
use Rattle.vdi_directory.specs.Decisions.{log_effects}
use Rattle.vdi_directory.specs.Dead.{is_dead}
use Rattle.peer_service.proofs.BackLemmas.{DeadSoFar}
use Rattle.peer_service.proofs.log_reading.dead_disks.Given as goal

abbrev pub invariant-loop-oid : goal.invariant-loop-oid
invariant-loop-oid l = DeadSoFar l.dead.items (take l.oid-index l.oids) (is_dead (log_effects l.directory))
