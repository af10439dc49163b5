use Rattle.std.proofs.Common.{refl}
use Rattle.peer_service.specs.Epochs.{peer_settled_to}
use Rattle.peer_service.proofs.EpochLemmas.{settled_open, settled_stays}
use Rattle.peer_service.proofs.laws.settling_drops_closed_rows.Goals as goal

pub returns : goal.returns
unfolding peer_settled_to
returns c = record { settled = λ settled peer. refl; opened = settled_open; stays = settled_stays }
