use Rattle.std.proofs.lemmas.List.{take_more}
use Rattle.peer_service.proofs.DropLemmas.{no_disk_gone, dropped_next}
use Rattle.peer_service.proofs.log_reading.drop_rows.Goals as goal

pub loop-vid-init : goal.loop-vid-init
loop-vid-init g c = no_disk_gone (g.O.ObjStore.rows c.args.store.now) (g.met.O.ObjStore.there c.args.store.now)

pub loop-vid-preserved : goal.loop-vid-preserved
loop-vid-preserved g c =
    dropped_next c.args.vids.now c.loop-vid.vid-index _ (g.O.ObjStore.rows c.args.store.now) _ _
    (take_more c.args.vids.now c.loop-vid.vid-index _ c.loop-vid-test.true) c.loop-vid.invariant c.drop_vid.ensures.rows
