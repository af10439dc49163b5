use Rattle.vdi_directory.proofs.DeadTests.{test-finds-dead}
use Rattle.peer_service.proofs.DropLemmas.{same_test}
use Rattle.peer_service.proofs.log_reading.is_dead.Goals as goal

pub returns : goal.returns
returns c = same_test _ _ c.dead.ensures (test-finds-dead c.args.directory.now c.args.vid.0)
