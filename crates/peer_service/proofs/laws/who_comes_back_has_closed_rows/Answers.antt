use Rattle.std.proofs.Common.{refl}
use Rattle.peer_service.specs.Epochs.{peer_settled_to}
use Rattle.peer_service.specs.LogReading.{without_objects}
use Rattle.peer_service.specs.Back.{closed_at_end, come_back}
use Rattle.peer_service.proofs.EpochLemmas.{back_rows, back_open}
use Rattle.peer_service.proofs.laws.who_comes_back_has_closed_rows.Goals as goal

pub returns : goal.returns
unfolding come_back without_objects peer_settled_to closed_at_end
returns c = record { epochs = λ entries peer. (refl, refl); rows = back_rows; opened = back_open }
