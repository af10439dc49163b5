use Rattle.sheep_node.proofs.AttemptRange.{attempt_in_range}
use Rattle.sheep_world.proofs.RangeAtEvents.{ticks_in_range}
use Rattle.sheep_world.proofs.laws.what_is_asked_can_be_spelled.Goals as goal

pub returns : goal.returns
returns c = record { tick = ticks_in_range; attempt = attempt_in_range }
