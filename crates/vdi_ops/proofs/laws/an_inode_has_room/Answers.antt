use Rattle.vdi_ops.proofs.TableLemmas.{room}
use Rattle.vdi_ops.proofs.laws.an_inode_has_room.Goals as goal

pub returns : goal.returns
returns c = room
