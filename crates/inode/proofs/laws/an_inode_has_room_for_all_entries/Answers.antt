use Rattle.std.proofs.Common.{refl}
use Rattle.inode.proofs.laws.an_inode_has_room_for_all_entries.Goals as goal

pub returns : goal.returns
returns c = refl
