use Rattle.std.specs.Prelude.{◌≡◌, ◌-◌}
use Rattle.sheep_world.proofs.OpeningNodes.{hosts_from}
use Rattle.sheep_world.proofs.opening.opening_hosts.Given as goal

-- the hosts of the last members
abbrev pub invariant-loop-placed : goal.invariant-loop-placed
invariant-loop-placed l = l.hosts ≡ hosts_from l.fn.script (l.count - l.placed) l.placed
