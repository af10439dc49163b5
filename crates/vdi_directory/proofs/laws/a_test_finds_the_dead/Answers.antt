use Rattle.vdi_directory.proofs.DeadTests.{test-finds-dead}
use Rattle.vdi_directory.proofs.laws.a_test_finds_the_dead.Goals as goal

pub returns : goal.returns
returns c = test-finds-dead
