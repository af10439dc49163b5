use Rattle.std.proofs.Common.{sym, ◌∙◌}
use Rattle.trace_text.proofs.InputCutLemmas.{passed-none, passed-one, passed-within, cut-at, cut-at-end, cut-nowhere}
use Rattle.trace_text.proofs.input_cut.input_parts.Goals as goal

pub loop-line-init : goal.loop-line-init
loop-line-init c = passed-none c.args.input.now

pub lines_before-requires : goal.lines_before-requires
lines_before-requires c = passed-within c.args.input.now c.loop-line.rest.now c.loop-line.invariant

pub returns-then-is_trace_line-clause-script : goal.returns-then-is_trace_line-clause-script
returns-then-is_trace_line-clause-script c =
    c.lines_before.ensures
    ∙ (cut-at c.args.input.now c.loop-line.rest.now c.in-Some.line.now c.in-Some.behind.now c.loop-line.invariant
    c.in-Some.ensures.parts c.in-Some.ensures.first (sym c.is_trace_line.ensures ∙ c.if-is_trace_line.true)).0

pub returns-then-is_trace_line-clause-trace : goal.returns-then-is_trace_line-clause-trace
returns-then-is_trace_line-clause-trace c =
    (cut-at c.args.input.now c.loop-line.rest.now c.in-Some.line.now c.in-Some.behind.now c.loop-line.invariant
    c.in-Some.ensures.parts c.in-Some.ensures.first (sym c.is_trace_line.ensures ∙ c.if-is_trace_line.true)).1

pub loop-line-preserved : goal.loop-line-preserved
loop-line-preserved c =
    passed-one c.args.input.now c.loop-line.rest.now c.in-Some.line.now c.in-Some.behind.now c.loop-line.invariant
    c.in-Some.ensures.parts c.in-Some.ensures.first (sym c.is_trace_line.ensures ∙ c.if-is_trace_line.false)

pub lines_before-requires-then-is_trace_line-2 : goal.lines_before-requires-then-is_trace_line-2
lines_before-requires-then-is_trace_line-2 c = passed-within c.args.input.now c.loop-line.rest.now c.loop-line.invariant

pub returns-then-is_trace_line-2-clause-script : goal.returns-then-is_trace_line-2-clause-script
returns-then-is_trace_line-2-clause-script c =
    c.lines_before-then-is_trace_line-2.ensures
    ∙ (cut-at-end c.args.input.now c.loop-line.rest.now c.loop-line.invariant
    c.in_default.ensures.none (sym c.is_trace_line-2.ensures ∙ c.if-is_trace_line-2.true)).0

pub returns-then-is_trace_line-2-clause-trace : goal.returns-then-is_trace_line-2-clause-trace
returns-then-is_trace_line-2-clause-trace c =
    (cut-at-end c.args.input.now c.loop-line.rest.now c.loop-line.invariant
    c.in_default.ensures.none (sym c.is_trace_line-2.ensures ∙ c.if-is_trace_line-2.true)).1

pub returns-else-is_trace_line-2-clause-script : goal.returns-else-is_trace_line-2-clause-script
returns-else-is_trace_line-2-clause-script c =
    (cut-nowhere c.args.input.now c.loop-line.rest.now c.loop-line.invariant
    c.in_default.ensures.none (sym c.is_trace_line-2.ensures ∙ c.if-is_trace_line-2.false)).0

pub returns-else-is_trace_line-2-clause-trace : goal.returns-else-is_trace_line-2-clause-trace
returns-else-is_trace_line-2-clause-trace c =
    (cut-nowhere c.args.input.now c.loop-line.rest.now c.loop-line.invariant
    c.in_default.ensures.none (sym c.is_trace_line-2.ensures ∙ c.if-is_trace_line-2.false)).1
