use Rattle.std.proofs.Common.{◌≡◌, fold, take}
use Rattle.dog_report.specs.ToldPart.{held_with}
use Rattle.dog_report.proofs.held_lines.HeldLines.hold_all.Given as goal

-- the replies so far are held
abbrev pub invariant-loop-number : goal.invariant-loop-number
invariant-loop-number l = l.self ≡ fold held_with l.fn.self (take l.number-index l.replies)
