use Rattle.vdi_directory.specs.DirectoryState.{AreLocks}
use Rattle.peer_service.specs.State.{effects_of}
use Rattle.part_tests.proofs.peers.entries.read_all.Given as goal

abbrev pub invariant-loop-next : goal.invariant-loop-next
invariant-loop-next l = AreLocks (effects_of l.peer) l.locks
