use Rattle.object_store.proofs.DiskLemmas.{seen_objects-without_disk, KeepsRoom-without_disk}
use Rattle.object_store.proofs.row_store.RowStoreObjStore.drop_vid.Goals as goal

pub returns-clause-rows : goal.returns-clause-rows
returns-clause-rows g c = seen_objects-without_disk c.args.vid.0 c.args.self.now c.drop_disk.new.self c.drop_disk.ensures g.B.RowBytes.bytes

pub returns-clause-room : goal.returns-clause-room
returns-clause-room g c = KeepsRoom-without_disk c.args.vid.0 c.args.self.now c.drop_disk.new.self c.drop_disk.ensures g.B.RowBytes.HasRoom
