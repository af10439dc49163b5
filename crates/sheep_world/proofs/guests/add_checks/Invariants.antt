use Rattle.std.proofs.Common.{◌≡◌, ◌++◌, take}
use Rattle.sheep_world.specs.RepliesInParts.{checks_among}
use Rattle.sheep_world.proofs.guests.add_checks.Given as goal

-- the checks among those so far stand behind the first ones
abbrev pub invariant-loop-started : goal.invariant-loop-started
invariant-loop-started l = l.checks ≡ l.fn.checks ++ checks_among l.script (take l.started-index l.unanswered)
