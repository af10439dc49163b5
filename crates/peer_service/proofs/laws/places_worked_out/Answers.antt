use Rattle.std.proofs.Common.{refl}
use Rattle.peer_service.proofs.laws.places_worked_out.Goals as goal

pub returns : goal.returns
returns c = record { copy = refl; strip = refl; other_strip = refl; other_node = refl }
