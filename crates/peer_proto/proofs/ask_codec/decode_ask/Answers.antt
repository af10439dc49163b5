use Rattle.std.proofs.Common.{arith}
use Rattle.peer_proto.proofs.AskLemmas.{ask-is_found, ask-is_only}
use Rattle.peer_proto.proofs.ask_codec.decode_ask.Goals as goal

pub returns-clause-ok : goal.returns-clause-ok
returns-clause-ok c = ask-is_found c.args.bytes.now c.read_ask.result (λ i. omega (arith, c.type_inv.bytes i)) c.read_ask.ensures

pub returns-clause-only : goal.returns-clause-only
returns-clause-only c = λ req is text. ask-is_only c.args.bytes.now c.read_ask.result req c.read_ask.ensures is text
