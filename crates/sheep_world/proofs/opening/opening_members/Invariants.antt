use Rattle.std.specs.Prelude.{◌≡◌, map}
use Rattle.std.specs.List.{range_with_len}
use Rattle.cluster_script.specs.Settings.{new_member}
use Rattle.sheep_world.proofs.opening.opening_members.Given as goal

-- the members so far
abbrev pub invariant-loop-node : goal.invariant-loop-node
invariant-loop-node l = l.members ≡ map (new_member l.fn.script) (range_with_len 0 l.node)
