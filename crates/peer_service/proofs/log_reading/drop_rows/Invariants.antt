use Rattle.std.proofs.Common.{◌≡◌, take}
use Rattle.object_store.specs.Store.{each}
use Rattle.peer_service.specs.LogReading.{rows_but}
use Rattle.peer_service.proofs.DropLemmas.{is_of_disk}
use Rattle.peer_service.proofs.log_reading.drop_rows.Given as goal

abbrev pub invariant-loop-vid : goal.invariant-loop-vid
invariant-loop-vid g l =
    g.O.ObjStore.rows l.store ≡ each (rows_but (is_of_disk (take l.vid-index l.vids))) (g.O.ObjStore.rows l.fn.store)
