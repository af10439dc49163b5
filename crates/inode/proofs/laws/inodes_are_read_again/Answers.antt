use Rattle.inode.proofs.ReadLemmas.{one-inode, encoded-inode}
use Rattle.inode.proofs.laws.inodes_are_read_again.Goals as goal

pub returns-clause-one : goal.returns-clause-one
returns-clause-one c = one-inode

pub returns-clause-encoded : goal.returns-clause-encoded
returns-clause-encoded c = encoded-inode
