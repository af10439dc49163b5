use Rattle.dog_report.proofs.CountLaws.{counts-add}
use Rattle.dog_report.proofs.laws.the_counts_add_up.Goals as goal

pub returns : goal.returns
returns c = counts-add
