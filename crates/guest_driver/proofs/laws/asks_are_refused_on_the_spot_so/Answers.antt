use Rattle.guest_driver.proofs.RefusalLemmas.{refused_without_disk, snapshots_unwritten, deleted_unread, reads_end_inside, writes_end_inside}
use Rattle.guest_driver.proofs.laws.asks_are_refused_on_the_spot_so.Goals as goal

pub returns : goal.returns
returns c = record {
  closed = refused_without_disk;
  written = snapshots_unwritten;
  deleted = deleted_unread;
  reads = reads_end_inside;
  writes = writes_end_inside;
}
