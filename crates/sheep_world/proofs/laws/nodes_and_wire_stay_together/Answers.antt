use Rattle.sheep_world.proofs.TogetherInRuns.{opening-together, together_kept, holds_together}
use Rattle.sheep_world.proofs.laws.nodes_and_wire_stay_together.Goals as goal

pub returns : goal.returns
returns c = record { opening = opening-together; kept = together_kept; began = holds_together }
