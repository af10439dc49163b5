use Rattle.peer_service.proofs.EpochLemmas.{served_up_to, put_row_up_to, entered_up_to, settled_up_to, read_up_to, back_up_to}
use Rattle.peer_service.proofs.laws.open_rows_are_from_epochs_so_far.Goals as goal

pub returns : goal.returns
returns c = record {
  served = served_up_to;
  put = put_row_up_to;
  entered = entered_up_to;
  settled = settled_up_to;
  read = read_up_to;
  back = back_up_to;
}
