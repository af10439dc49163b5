use Rattle.std.proofs.Common.{◌∙◌, arith}
use Rattle.sheep_proto.proofs.RequestLemmas.{request-is_spelled, request-again}
use Rattle.sheep_proto.proofs.request.decode_request.Goals as goal

pub returns-clause-spelled : goal.returns-clause-spelled
returns-clause-spelled c = request-is_spelled c.args.bytes.now c.read_request.result (λ i. omega (arith, c.type_inv.bytes i)) c.read_request.ensures

pub returns-clause-only : goal.returns-clause-only
returns-clause-only c = λ req fits spells. c.read_request.ensures ∙ request-again c.args.bytes.now req fits spells
