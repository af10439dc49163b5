use Rattle.std.proofs.Common.{◌≡◌, ◌+◌, false, map, take}
use Rattle.live_merge.specs.Steps.{kept_step}
use Rattle.live_merge.specs.Merging.{taken_in, HasMergedTo}
use Rattle.live_merge.proofs.merge.merge_round.Given as goal

-- the steps so far are merged
abbrev pub invariant-loop-place : goal.invariant-loop-place
invariant-loop-place l =
    (l.world.spent ≡ false) × (l.taken ≡ taken_in l.fn.run.events + l.place)
    × HasMergedTo l.script (map kept_step (take l.place l.steps)) l.fn.world.world (taken_in l.fn.run.events) l.fn.run l.run l.world.world l.taken
