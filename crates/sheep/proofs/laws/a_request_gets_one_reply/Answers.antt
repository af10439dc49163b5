use Rattle.sheep.proofs.PrintedReplies.{given-one}
use Rattle.sheep.proofs.laws.a_request_gets_one_reply.Goals as goal

pub returns : goal.returns
returns c = given-one
