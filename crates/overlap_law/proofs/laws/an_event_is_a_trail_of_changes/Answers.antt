use Rattle.overlap_law.proofs.MomentTrails.{event_trail}
use Rattle.overlap_law.proofs.laws.an_event_is_a_trail_of_changes.Goals as goal

pub returns : goal.returns
returns c = event_trail
