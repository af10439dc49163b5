use Rattle.sheep_world.proofs.LogAtOpening.{log-holds, nodes-valid}
use Rattle.sheep_world.proofs.NextEntries.{reads-may}
use Rattle.sheep_world.proofs.NodesByTheLog.{by_the_log}
use Rattle.sheep_world.proofs.laws.the_log_holds.Goals as goal

pub returns : goal.returns
returns c = record { log = log-holds; nodes = nodes-valid; next = reads-may; epochs = by_the_log }
