use Rattle.std.proofs.Common.{arith}
use Rattle.dog_report.proofs.WordLemmas.{hex-pushed}
use Rattle.dog_report.proofs.words.+push_hex.Goals as goal

pub returns : goal.returns
returns t c =
    hex-pushed _ _ _ c.args.digits c.args.number (omega (arith, c.if-digits-eq0.false)) c.in_ok-push_hex.ensures c.in_ok-push.ensures.items
