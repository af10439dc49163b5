use Rattle.std.proofs.Common.{sym}
use Rattle.inode.proofs.PolicyLemmas.{policy-none}
use Rattle.inode.proofs.reading.policy_of.Goals as goal

pub returns-in-Err-clause-value : goal.returns-in-Err-clause-value
returns-in-Err-clause-value c = sym (policy-none c.args.byte c.args.copies (λ policy valid byte_is copies_is. let no = c.in-Err.ensures.only policy valid byte_is copies_is in absurd cc))
