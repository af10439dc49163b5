use Rattle.std.proofs.Common.{◌∙◌, arith}
use Rattle.sheep_proto.proofs.HeaderLemmas.{common-is_spelled, common-again}
use Rattle.sheep_proto.proofs.common.read_common.Goals as goal

pub returns-clause-spelled : goal.returns-clause-spelled
returns-clause-spelled c = common-is_spelled c.args.bytes.now c.read_fields.result (λ i. omega (arith, c.type_inv.bytes i)) c.read_fields.ensures

pub returns-clause-only : goal.returns-clause-only
returns-clause-only c = λ common fits long stands. c.read_fields.ensures ∙ common-again c.args.bytes.now common fits long stands
