use Rattle.std.proofs.Common.{arith}
use Rattle.inode.proofs.SpelledLemmas.{inode-is_spelled}
use Rattle.inode.proofs.ReadLemmas.{inode-is_read}
use Rattle.inode.proofs.inode.Inode.from_bytes.Goals as goal

pub returns-clause-spelled : goal.returns-clause-spelled
returns-clause-spelled c = inode-is_spelled c.args.bytes.now c.read_inode.result (λ i. omega (arith, c.type_inv.bytes i)) c.read_inode.ensures

pub returns-clause-only : goal.returns-clause-only
returns-clause-only c = λ content fits spells. inode-is_read c.args.bytes.now c.read_inode.result content c.read_inode.ensures fits spells
