use Rattle.std.proofs.Common.{◌≡◌, ◌≤◌, take}
use Rattle.live_merge.specs.Merging.{taken_in}
use Rattle.live_merge.proofs.merge.taken_in.Given as goal

-- counted so far
abbrev pub invariant-loop-event : goal.invariant-loop-event
invariant-loop-event l = (l.count ≡ taken_in (take l.event-index l.events)) × (l.count ≤ l.event-index)
