use Rattle.cluster_script.proofs.PhaseLaws.{phases-numbers}
use Rattle.cluster_script.proofs.laws.each_request_is_of_a_phase.Goals as goal

pub returns : goal.returns
returns c = phases-numbers
