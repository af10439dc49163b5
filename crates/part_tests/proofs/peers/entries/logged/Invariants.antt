use Rattle.epoch_log.specs.Tally.{IsTally}
use Rattle.part_tests.proofs.peers.entries.logged.Given as goal

abbrev pub invariant-loop-next : goal.invariant-loop-next
invariant-loop-next l = IsTally l.log l.tally
