use Rattle.peer_proto.proofs.AskLemmas.{ask-again, ask-found, ask-differ}
use Rattle.peer_proto.proofs.laws.requests_have_one_spelling.Goals as goal

pub returns : goal.returns
returns c = record { again = ask-again; only = λ bytes req fits h. ask-found bytes req fits h; differ = ask-differ }
