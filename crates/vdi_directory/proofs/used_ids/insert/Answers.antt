use Rattle.std.proofs.Common.{arith}
use Rattle.vdi_directory.proofs.UsedLemmas.{inserted-ranges_with}
use Rattle.vdi_directory.proofs.used_ids.insert.Goals as goal

pub returns-then-index-vid : goal.returns-then-index-vid
returns-then-index-vid c =
    inserted-ranges_with c.args.used.now.items c.args.place c.args.vid c.index.result.now c.index-then-index-vid.result.now (omega arith)
    c.index.ensures c.if-index-vid.true c.index-then-index-vid.ensures
