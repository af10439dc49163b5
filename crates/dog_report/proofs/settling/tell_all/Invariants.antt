use Rattle.std.proofs.Common.{◌≡◌, fold, take}
use Rattle.dog_report.specs.Settling.{lines_with_last}
use Rattle.dog_report.proofs.settling.tell_all.Given as goal

-- the requests so far are told of
abbrev pub invariant-loop-number : goal.invariant-loop-number
invariant-loop-number l =
    l.lines ≡ fold (lines_with_last l.script l.world.world) l.fn.lines (take l.number-index l.numbers)
