use Rattle.std.proofs.Common.{refl}
use Rattle.peer_service.proofs.laws.row_sizes_worked_out.Goals as goal

pub returns : goal.returns
returns c = record { inode = refl; whole = refl; strip = refl }
