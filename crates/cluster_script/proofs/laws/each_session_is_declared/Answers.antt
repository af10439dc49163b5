use Rattle.cluster_script.proofs.SessionLaws.{session-is_session_declared, sessions-ascend}
use Rattle.cluster_script.proofs.laws.each_session_is_declared.Goals as goal

pub returns : goal.returns
returns c = record {
  declared = session-is_session_declared;
  order = sessions-ascend;
}
