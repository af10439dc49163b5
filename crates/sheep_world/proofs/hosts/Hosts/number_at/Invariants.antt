use Rattle.std.proofs.Common.{◌≡◌}
use Rattle.std.specs.Prelude.{slice_get}
use Rattle.std.specs.FinMap as tree
use Rattle.sheep_world.proofs.hosts.Hosts.number_at.Given as goal

-- the numbers that are left have it at the place that is left
abbrev pub invariant-loop-number : goal.invariant-loop-number
invariant-loop-number l = slice_get l.number-iterator l.left ≡ slice_get (tree.keys l.self) l.place
