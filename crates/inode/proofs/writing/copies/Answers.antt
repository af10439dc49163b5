use Rattle.std.proofs.Common.{◌∙◌}
use Rattle.inode.proofs.PolicyLemmas.{wanted-strips}
use Rattle.inode.proofs.writing.copies.Goals as goal

pub returns : goal.returns
returns c = c.wanted.ensures ∙ wanted-strips c.args.policy
