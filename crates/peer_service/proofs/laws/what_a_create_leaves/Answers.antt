use Rattle.peer_service.proofs.ServeLemmas.{create_row, create_call, create_read, create_others, create_closed}
use Rattle.peer_service.proofs.StepLemmas.{create_pending, create_others_pending}
use Rattle.peer_service.proofs.laws.what_a_create_leaves.Goals as goal

pub returns : goal.returns
returns c = record {
  row = create_row;
  call = create_call;
  read = create_read;
  others = create_others;
  closed = create_closed;
  pending = create_pending;
  others_pending = create_others_pending;
}
