use Rattle.std.proofs.Common.{sym, ◌∙◌}
use Rattle.trace_text.proofs.ReplayedRuns.{line_made-off}
use Rattle.trace_text.proofs.trace_replay.enabled_event.Goals as goal

pub returns-else-is_enabled-clause-none : goal.returns-else-is_enabled-clause-none
returns-else-is_enabled-clause-none c =
    line_made-off c.args.script.now c.args.world.now.world c.args.line.now c.in_ok-event.event (sym c.in_ok-event.ensures)
    (sym c.is_enabled.ensures ∙ c.if-is_enabled.false)
