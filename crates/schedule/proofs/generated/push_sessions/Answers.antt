use Rattle.std.proofs.Common.{◌+◌, ◌-◌, ◌++◌, List, ℕ, map, codes, refl, arith}
use Rattle.std.specs.List.{range_with_len}
use Rattle.schedule.specs.Generated.{session_line}
use Rattle.schedule.specs.GeneratedScript.{text_of_lines}
use Rattle.schedule.proofs.GeneratedParts.{range-left, range-end, one-written, all-written}
use Rattle.schedule.proofs.generated.push_sessions.Goals as goal

abbrev written : List ℕ → List ℕ
written sessions = text_of_lines (map session_line sessions)

pub loop-session-preserved : goal.loop-session-preserved
loop-session-preserved c =
    one-written written _ (range_with_len (c.loop-session.session + 1) (5 - (c.loop-session.session + 1))) c.loop-session.session
    (session_line c.loop-session.session ++ codes "\n") _ _ _ (range-left c.loop-session.session 5 c.loop-session-test.true) refl
    c.in_ok-push_session.ensures c.loop-session.invariant

pub returns : goal.returns
returns c =
    all-written written _ _ _ (range-end c.loop-session.session 5 (omega (arith, c.loop-session-test.false))) refl c.loop-session.invariant
