use Rattle.std.proofs.Common.{◌≡◌, fold, take}
use Rattle.dog_report.specs.Settling.{settling_of, settling_after}
use Rattle.dog_report.proofs.settling.settle_all.Given as goal

-- the requests so far are gone through
abbrev pub invariant-loop-number : goal.invariant-loop-number
invariant-loop-number l =
    settling_of l.lines l.kept
    ≡ fold (settling_after l.script l.world.world) (settling_of l.fn.lines l.fn.kept) (take l.number-index l.numbers)
