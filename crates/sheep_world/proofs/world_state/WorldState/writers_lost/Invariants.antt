use Rattle.std.proofs.Common.{◌≡◌}
use Rattle.sheep_world.proofs.LostWriters.{first_lost}
use Rattle.sheep_world.proofs.world_state.WorldState.writers_lost.Given as goal

-- the writers among the first requests
abbrev pub invariant-loop-place : goal.invariant-loop-place
invariant-loop-place l = l.events ≡ first_lost l.script l.self l.node l.host l.place
