use Rattle.hash_ring.proofs.PlacedLaws.{targets_among-points_of}
use Rattle.hash_ring.proofs.laws.points_of_members.Goals as goal

pub returns : goal.returns
returns c = targets_among-points_of
