use Rattle.std.proofs.Common.{◌≡◌, decimal, bytes_eq, true, Ok, sym, ap, subst, ◌∙◌}
use Rattle.std.specs.Str.{IsUtf8}
use Rattle.std.proofs.lemmas.Slice.Eq.{bytes_eq-Decides}
use Rattle.trace_text.proofs.NumberReading.{number-text, number-parsed}
use Rattle.trace_text.proofs.event_reading.number_in.Goals as goal

pub returns-in_default-clause-none : goal.returns-in_default-clause-none
returns-in_default-clause-none c number lt is =
    c.in_default.ensures.cases.0 (subst IsUtf8 (sym is) (number-text number lt))

pub returns-in_default-parse-clause-none : goal.returns-in_default-parse-clause-none
returns-in_default-parse-clause-none c number lt is =
    let parsed : c.parse.result ≡ Ok number =
    number-parsed number c.in-Ok.text.now c.parse.result lt (c.in-Ok.ensures.cases.0 ∙ is) c.parse.ensures.value.0 in
    let failed = c.in_default-parse.is in
    cc

pub returns-else-are_same-clause-none : goal.returns-else-are_same-clause-none
returns-else-are_same-clause-none c number lt is =
    let parsed : c.parse.result ≡ Ok number =
    number-parsed number c.in-Ok.text.now c.parse.result lt (c.in-Ok.ensures.cases.0 ∙ is) c.parse.ensures.value.0 in
    let read = c.in-Ok-parse.is in
    let same : number ≡ c.in-Ok-parse.number = cc in
    let text : c.args.bytes.now ≡ c.as_bytes.result.now =
    is ∙ ap decimal same ∙ sym c.format.ensures.text ∙ sym c.as_bytes.ensures.value in
    let equal : bytes_eq c.args.bytes.now c.as_bytes.result.now ≡ true =
    (bytes_eq-Decides c.args.bytes.now c.as_bytes.result.now).1 text in
    let tested = c.are_same.ensures in
    let other = c.if-are_same.false in
    cc
