-- The log of a world is a log, whose members are the nodes that are there.
use Rattle.std.specs.Prelude.{◌≡◌, ℕ, ◌-◌, ◌^◌, ◌<◌, Bool, true, false, List, Some}
use Rattle.std.specs.FinMap as tree
use Rattle.object_id.specs.declared.entry.Entry.{Entry}
use Rattle.epoch_log.specs.Members as members
use Rattle.object_id.specs.Node.{IsNode, IsWeight}
use Rattle.epoch_log.specs.Epochs.{epoch_of, members_in}
use Rattle.epoch_log.specs.Appending.{IsLog}
use Rattle.sheep_world.specs.World.{Host, World}
use Rattle.sheep_world.specs.MembershipChanges.{last_weight}
use Rattle.sheep_world.specs.ControlsToCome.{has_host}

-- whether a node is a member by the whole of a log
abbrev pub is_member_now : List Entry → ℕ → Bool
is_member_now log node = members.is_member node (members_in log (epoch_of log))

-- what is asked of a world beside: there is room for one epoch more
pub record MayGrow (world : World) : Type 0 where
  pub room : epoch_of world.log < 2 ^ 32 - 1

-- a number that has a host is one that a node may have, and has a weight by the log; where the node isn't lost it is a member
pub record IsWell (log : List Entry) (n : ℕ) (lost : Bool) : Type 0 where
  pub below : IsNode n
  pub weight : IsWeight (last_weight log n)
  pub stands : lost ≡ false → is_member_now log n ≡ true

-- the log is one, each node is so, and each member has a host
pub record LogHolds (world : World) : Type 0 where
  pub log : IsLog world.log
  pub well : (n : ℕ) (host : Host) → tree.get world.hosts n ≡ Some host → IsWell world.log n host.is_lost
  pub seated : (n : ℕ) → is_member_now world.log n ≡ true → has_host world n ≡ true
