use Rattle.std.proofs.Common.{◌++◌, ap, ◌∙◌}
use Rattle.std.specs.Prelude.{decimal}
use Rattle.dog_report.specs.Fates.{reply_words}
use Rattle.dog_report.proofs.WordLemmas.{line-pushed}
use Rattle.dog_report.proofs.fates.push_answered.Goals as goal

pub returns : goal.returns
returns c =
    let text = c.args.text.now.items in
    let numbered = c.in_ok-push_decimal.ensures ∙ ap (λ number. text ++ decimal number) c.from.ensures in
    line-pushed text (decimal c.args.number) c.push_decimal.new.text.items c.push_reply.new.text.items _ _
    (reply_words c.args.rsp.now) numbered c.in_ok-push_reply.ensures c.in_ok-end_line.ensures
