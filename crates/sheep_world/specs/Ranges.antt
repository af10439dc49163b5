-- What holds of each node's recovery in every world of a run, by which all that it asks can be read.
use Rattle.std.specs.Prelude.{◌≡◌, ℕ, Some}
use Rattle.std.specs.Ordering.{nat_cmp}
use Rattle.std.specs.FinMap as tree
use Rattle.sheep_node.specs.RecoveryRange.{RecoversInRange}
use Rattle.sheep_world.specs.World.{Host, World}

-- each node recovers in range
abbrev pub AllRecoverInRange : tree.FinMap nat_cmp Host → Type 0
AllRecoverInRange hosts = (number : ℕ) (host : Host) → tree.get hosts number ≡ Some host → RecoversInRange host.node

-- in a world
abbrev pub RecoveriesAreInRange : World → Type 0
RecoveriesAreInRange world = AllRecoverInRange world.hosts
