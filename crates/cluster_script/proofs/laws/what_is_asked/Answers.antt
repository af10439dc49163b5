use Rattle.cluster_script.proofs.PhaseLaws.{session_of-there, length-payload_of}
use Rattle.cluster_script.proofs.laws.what_is_asked.Goals as goal

pub returns : goal.returns
returns c = record {
  session = session_of-there;
  payload = length-payload_of;
}
