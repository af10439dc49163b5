use Rattle.cluster_script.proofs.WrittenLaws.{written-script}
use Rattle.cluster_script.proofs.laws.every_script_can_be_written.Goals as goal

pub returns : goal.returns
returns c = written-script
