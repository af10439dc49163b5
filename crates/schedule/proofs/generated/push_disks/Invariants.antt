use Rattle.std.proofs.Common.{◌≡◌, ◌-◌, ◌++◌, flat_map}
use Rattle.std.specs.List.{range_with_len}
use Rattle.schedule.specs.Generated.{disk_lines}
use Rattle.schedule.specs.GeneratedScript.{text_of_lines}
use Rattle.schedule.proofs.generated.push_disks.Given as goal

-- the lines so far, and those of the disks that are left, are the lines
abbrev pub invariant-loop-session : goal.invariant-loop-session
invariant-loop-session l =
    l.text.items ++ text_of_lines (flat_map disk_lines (range_with_len l.session (5 - l.session)))
    ≡ l.fn.text.items ++ text_of_lines (flat_map disk_lines (range_with_len 1 4))
