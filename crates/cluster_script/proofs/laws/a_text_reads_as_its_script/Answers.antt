use Rattle.cluster_script.proofs.TextLaws.{text-script, text-bad}
use Rattle.cluster_script.proofs.laws.a_text_reads_as_its_script.Goals as goal

pub returns : goal.returns
returns c = record {
  script = text-script;
  bad = text-bad;
}
