use Rattle.disk_check.proofs.CompareLemmas.{other_piece}
use Rattle.disk_check.proofs.compare.is_other.Goals as goal

pub returns : goal.returns
returns c = other_piece c.args.policy c.args.place c.args.value.now c.args.piece.now c.part.new.out c.ne.result c.ne.ensures c.part.ensures
