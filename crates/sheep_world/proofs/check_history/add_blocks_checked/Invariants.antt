use Rattle.std.proofs.Common.{◌≡◌, ◌++◌}
use Rattle.sheep_world.proofs.CheckHistory.{first_checked}
use Rattle.sheep_world.proofs.check_history.add_blocks_checked.Given as goal

-- so many blocks have their events
abbrev pub invariant-loop-place : goal.invariant-loop-place
invariant-loop-place l = l.events ≡ l.fn.events ++ first_checked l.write l.place
