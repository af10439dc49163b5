use Rattle.std.proofs.Common.{arith}
use Rattle.peer_proto.proofs.SayLemmas.{say-is_found, say-is_only}
use Rattle.peer_proto.proofs.say_codec.decode_say.Goals as goal

pub returns-clause-ok : goal.returns-clause-ok
returns-clause-ok c = say-is_found c.args.bytes.now c.read_say.result (λ i. omega (arith, c.type_inv.bytes i)) c.read_say.ensures

pub returns-clause-only : goal.returns-clause-only
returns-clause-only c = λ rsp is text. say-is_only c.args.bytes.now c.read_say.result rsp c.read_say.ensures is text
