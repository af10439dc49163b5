use Rattle.sheep_proto.proofs.ReplyLemmas.{one-reply, encoded-reply}
use Rattle.sheep_proto.proofs.laws.replies_are_read_again.Goals as goal

pub returns-clause-one : goal.returns-clause-one
returns-clause-one c = one-reply

pub returns-clause-encoded : goal.returns-clause-encoded
returns-clause-encoded c = encoded-reply
