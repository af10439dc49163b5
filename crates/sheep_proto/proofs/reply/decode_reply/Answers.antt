use Rattle.std.proofs.Common.{◌∙◌, arith}
use Rattle.sheep_proto.proofs.ReplyLemmas.{reply-is_spelled, reply-again}
use Rattle.sheep_proto.proofs.reply.decode_reply.Goals as goal

pub returns-clause-spelled : goal.returns-clause-spelled
returns-clause-spelled c = reply-is_spelled c.args.bytes.now c.read_reply.result (λ i. omega (arith, c.type_inv.bytes i)) c.read_reply.ensures

pub returns-clause-only : goal.returns-clause-only
returns-clause-only c = λ rsp fits spells. c.read_reply.ensures ∙ reply-again c.args.bytes.now rsp fits spells
