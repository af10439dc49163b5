-- A node as its callers see it: what it is, or that it is spent.
use Rattle.std.specs.Prelude.{Bool}
use Rattle.sheep_node.specs.State.{Node}

-- a node, and whether it was out of memory once: then nothing is known of what it is
pub record NodeOrSpent : Type 0 where
  pub spent : Bool
  pub node : Node
