use Rattle.vdi_ops.proofs.DiskChanges.{attach_opens, attach_snapshot_opens, snapshot_opens, published_stays, close_closes}
use Rattle.vdi_ops.proofs.laws.what_becomes_of_the_open_disk.Goals as goal

pub returns : goal.returns
returns c = record {
  attach = attach_opens;
  attach_snapshot = attach_snapshot_opens;
  snapshot = snapshot_opens;
  published = published_stays;
  close = close_closes;
}
