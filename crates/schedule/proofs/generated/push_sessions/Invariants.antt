use Rattle.std.proofs.Common.{◌≡◌, ◌-◌, ◌++◌, map}
use Rattle.std.specs.List.{range_with_len}
use Rattle.schedule.specs.Generated.{session_line}
use Rattle.schedule.specs.GeneratedScript.{text_of_lines}
use Rattle.schedule.proofs.generated.push_sessions.Given as goal

-- the lines so far, and those of the sessions that are left, are the lines
abbrev pub invariant-loop-session : goal.invariant-loop-session
invariant-loop-session l =
    l.text.items ++ text_of_lines (map session_line (range_with_len l.session (5 - l.session)))
    ≡ l.fn.text.items ++ text_of_lines (map session_line (range_with_len 1 4))
