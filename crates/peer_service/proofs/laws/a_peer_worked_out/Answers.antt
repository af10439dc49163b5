use Rattle.std.proofs.Common.{refl, ap}
use Rattle.peer_service.specs.Serve.{PeerStep, own_epoch_step, peer_step}
use Rattle.peer_service.proofs.ExampleLemmas.{write_served, row_written, row_closed, row_back}
use Rattle.peer_service.proofs.laws.a_peer_worked_out.Goals as goal

pub returns : goal.returns
unfolding own_epoch_step peer_step
returns c = record {
  older = refl;
  newer = refl;
  own = ap (λ (s : PeerStep). s.say) write_served;
  written = row_written;
  closed = row_closed;
  back = row_back;
  waits = refl;
}
