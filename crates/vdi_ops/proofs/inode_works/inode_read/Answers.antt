use Rattle.std.proofs.Common.{length, ap, ◌∙◌}
use Rattle.vdi_ops.proofs.TableLemmas.{table_length}
use Rattle.vdi_ops.proofs.inode_works.inode_read.Goals as goal

pub inode_by-requires-clause-table : goal.inode_by-requires-clause-table
inode_by-requires-clause-table c =
    ap length c.as_slice.ensures.value ∙ ap length c.in_ok-table.ensures
    ∙ table_length c.args.ids.items c.args.header.now.spec c.args.bytes.now
