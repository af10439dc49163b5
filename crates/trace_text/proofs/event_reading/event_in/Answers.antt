use Rattle.std.proofs.Common.{◌∙◌, sym}
use Rattle.trace_text.proofs.WordReading.{phase-read, nothing-read}
use Rattle.trace_text.proofs.event_reading.event_in.Goals as goal

pub returns-in-None : goal.returns-in-None
returns-in-None c = sym (phase-read c.args.line.now (sym c.are_same.ensures ∙ c.if-are_same.true))

pub returns-in-None-2 : goal.returns-in-None-2
returns-in-None-2 c = sym (nothing-read c.args.line.now c.in-None-2.ensures.none (sym c.are_same.ensures ∙ c.if-are_same.false))
