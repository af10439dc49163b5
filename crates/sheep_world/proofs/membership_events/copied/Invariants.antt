use Rattle.std.proofs.Common.{◌≡◌, take}
use Rattle.sheep_world.proofs.membership_events.copied.Given as goal

-- the entries so far have been copied
abbrev pub invariant-loop-entry : goal.invariant-loop-entry
invariant-loop-entry l = l.copy ≡ take l.entry-index l.entries
