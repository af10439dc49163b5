use Rattle.std.proofs.Common.{◌≡◌, ◌-◌, false}
use Rattle.sheep_world.specs.ClientSteps.{world_driven}
use Rattle.sheep_world.proofs.world.World.drive_on.Given as goal

-- the turns that are left lead to where all of them do
abbrev pub invariant-loop-turn : goal.invariant-loop-turn
invariant-loop-turn l = (l.self.spent ≡ false)
    × (world_driven l.script (l.turns - l.turn) l.self.world ≡ world_driven l.script l.turns l.fn.self.world)
