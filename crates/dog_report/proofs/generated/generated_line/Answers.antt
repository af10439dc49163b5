use Rattle.std.proofs.Common.{ap, ◌∙◌}
use Rattle.object_id.specs.Hash.{fnv1a_of}
use Rattle.dog_report.proofs.GeneratedLine.{generated-pushed}
use Rattle.dog_report.proofs.generated.generated_line.Goals as goal

pub returns : goal.returns
returns c = λ lines text counts.
    c.from_vec.ensures
    ∙ generated-pushed lines c.args.report.now.counts c.args.number c.in-Some.requests c.fnv1a.result c.in_ok-text.text.items
    c.push_decimal_word.new.text.items c.push_named.new.text.items c.push_ways.new.text.items c.push_word.new.text.items
    c.push_hex_word.new.text.items c.end_line.new.text.items counts c.in-Some.ensures
    (c.fnv1a.ensures ∙ ap fnv1a_of (c.as_slice.ensures ∙ text)) c.in_ok-text.ensures.items
    c.in_ok-push_decimal_word.ensures c.in_ok-push_named.ensures c.in_ok-push_ways.ensures c.in_ok-push_word.ensures
    c.in_ok-push_hex_word.ensures c.in_ok-end_line.ensures
