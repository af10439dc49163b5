use Rattle.inode.proofs.LengthLemmas.{length-header_bytes, length-inode_bytes, length-written}
use Rattle.inode.proofs.laws.an_inode_is_as_long_as_its_table.Goals as goal

pub returns : goal.returns
returns c = record {
  header = length-header_bytes;
  whole = length-inode_bytes;
  written = length-written;
}
