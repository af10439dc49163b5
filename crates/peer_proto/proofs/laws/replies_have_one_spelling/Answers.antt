use Rattle.peer_proto.proofs.SayLemmas.{say-again, say-read, say-differ}
use Rattle.peer_proto.proofs.laws.replies_have_one_spelling.Goals as goal

pub returns : goal.returns
returns c = record { again = say-again; only = λ bytes rsp fits h. say-read bytes rsp fits h; differ = say-differ }
