use Rattle.std.proofs.Common.{length, ap, sym, ◌∙◌}
use Rattle.gateway.proofs.LengthLaws.{length-bytes_given}
use Rattle.gateway.proofs.open_work.bytes_if_done.Goals as goal

pub returns-in_ok-bytes_given-clause-given : goal.returns-in_ok-bytes_given-clause-given
returns-in_ok-bytes_given-clause-given c =
    ap length c.in_ok-bytes_given.ensures.given
    ∙ length-bytes_given c.args.work.now c.args.messages.now c.requires.work c.requires.messages (sym c.is_done.ensures ∙ c.if-is_done.true)
