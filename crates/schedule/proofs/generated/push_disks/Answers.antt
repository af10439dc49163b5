use Rattle.std.proofs.Common.{◌+◌, ◌-◌, List, ℕ, flat_map, refl, arith}
use Rattle.std.specs.List.{range_with_len}
use Rattle.schedule.specs.Generated.{disk_lines}
use Rattle.schedule.specs.GeneratedScript.{text_of_lines}
use Rattle.schedule.proofs.GeneratedParts.{text-append, range-left, range-end, one-written, all-written}
use Rattle.schedule.proofs.generated.push_disks.Goals as goal

abbrev written : List ℕ → List ℕ
written sessions = text_of_lines (flat_map disk_lines sessions)

pub loop-session-preserved : goal.loop-session-preserved
loop-session-preserved c =
    let left : List ℕ = range_with_len (c.loop-session.session + 1) (5 - (c.loop-session.session + 1)) in
    one-written written _ left c.loop-session.session (text_of_lines (disk_lines c.loop-session.session)) _ _ _
    (range-left c.loop-session.session 5 c.loop-session-test.true)
    (text-append (disk_lines c.loop-session.session) (flat_map disk_lines left)) c.in_ok-push_disk.ensures c.loop-session.invariant

pub returns : goal.returns
returns c =
    all-written written _ _ _ (range-end c.loop-session.session 5 (omega (arith, c.loop-session-test.false))) refl c.loop-session.invariant
