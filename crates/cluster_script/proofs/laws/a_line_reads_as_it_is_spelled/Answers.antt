use Rattle.cluster_script.proofs.ReadLemmas.{what-reads}
use Rattle.cluster_script.proofs.SpelledLemmas.{what-is-spelled}
use Rattle.cluster_script.proofs.laws.a_line_reads_as_it_is_spelled.Goals as goal

pub returns : goal.returns
returns c = record { spelled = what-reads; read = what-is-spelled }
