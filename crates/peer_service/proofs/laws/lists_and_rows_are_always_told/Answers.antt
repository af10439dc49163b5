use Rattle.peer_service.proofs.ServeLemmas.{list_told, row_told}
use Rattle.peer_service.proofs.laws.lists_and_rows_are_always_told.Goals as goal

pub returns : goal.returns
returns c = record { list = list_told; recover = row_told }
