use Rattle.std.proofs.Common.{◌≡◌, ◌++◌}
use Rattle.object_store.proofs.ObjectLemmas.{ids_of}
use Rattle.object_store.proofs.row_store.RowStoreObjStore.list.Given as goal

abbrev pub invariant-loop-oid : goal.invariant-loop-oid
invariant-loop-oid g l = l.oids.items ++ ids_of l.oid-iterator ≡ ids_of l.self
