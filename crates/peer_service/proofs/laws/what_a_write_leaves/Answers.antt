use Rattle.peer_service.proofs.ServeLemmas.{write_row, write_waiting, write_none, write_others, write_rows, write_pending}
use Rattle.peer_service.proofs.laws.what_a_write_leaves.Goals as goal

pub returns : goal.returns
returns c = record {
  row = write_row;
  waiting = write_waiting;
  none = write_none;
  others = write_others;
  rows = write_rows;
  pending = write_pending;
}
