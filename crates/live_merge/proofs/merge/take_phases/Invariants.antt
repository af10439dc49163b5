use Rattle.std.proofs.Common.{◌≡◌, ◌-◌, [], false, length}
use Rattle.cluster_script.specs.Phases.{phases_of}
use Rattle.live_merge.specs.Merging.{HasMergedTo}
use Rattle.live_merge.proofs.merge.take_phases.Given as goal

-- only Phase was made so far
abbrev pub invariant-loop-run : goal.invariant-loop-run
invariant-loop-run l =
    (l.world.spent ≡ false) × HasMergedTo l.script [] l.fn.world.world l.taken l.fn.run l.run l.world.world l.taken

abbrev pub decreases-loop-run : goal.decreases-loop-run
decreases-loop-run l = length (phases_of l.script) - l.world.world.phase
