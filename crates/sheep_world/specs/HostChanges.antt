-- How the host of a node came to be as it is, and what holds of each host in every world.
use Rattle.std.specs.Prelude.{◌≡◌, ℕ, ◌+◌, true, List, Some}
use Rattle.std.specs.FinMap as tree
use Rattle.object_id.specs.declared.entry.Entry.{Entry}
use Rattle.object_id.specs.declared.entry.Member.{Member}
use Rattle.cluster_script.specs.declared.statement.Statement.{Statement}
use Rattle.cluster_script.specs.declared.statement.Statement.TheVariants as lines
use Rattle.cluster_script.specs.Settings.{tries_of}
use Rattle.sheep_node.specs.declared.event.Event.{Event}
use Rattle.sheep_node.specs.declared.input.Input.TheVariants as inputs
use Rattle.sheep_node.specs.State as nodes
use Rattle.sheep_node.specs.State.{Node}
use Rattle.sheep_node.specs.Step.{node_step}
use Rattle.sheep_world.specs.World.{Host, World, is_host_up, next_control}
use Rattle.sheep_world.specs.Opening.{initial_host, initial_world, initial_member_node}
use Rattle.sheep_world.specs.MembershipChanges.{lost_host, revived_host}
use Rattle.sheep_world.specs.Step.{EventOutcome}
use Rattle.sheep_world.specs.NodeCauses.{NodeCause, input_of_cause, IsCause, host_with_node, world_after_cause}
use Rattle.sheep_world.specs.EventKinds.{log_after_return, world_after_return, world_after_join, EventKind}

-- a host once its node made a step
abbrev pub host_after_step : NodeCause → Host → Host
host_after_step cause host = host_with_node host (node_step (input_of_cause cause) host.node).node

-- once its node came back
abbrev pub host_after_return : List Entry → Host → Host
host_after_return log host = host_with_node (revived_host host) (node_step (inputs.Back log) host.node).node

-- of a node that is new
abbrev pub joined_host : List Statement → ℕ → Host
joined_host statements n = initial_host (nodes.initial_node (record { 0 = n }) (tries_of statements))

-- the node in it made a step
pub record HasStepped (statements : List Statement) (world after : World) (n : ℕ) (host : Host) : Type 0 where
  pub old : Host
  pub cause : NodeCause
  pub there : tree.get world.hosts n ≡ Some old
  pub up : is_host_up old ≡ true
  pub caused : IsCause statements world n old cause
  pub host_so : host_after_step cause old ≡ host
  pub world_so : world_after_cause statements n old cause world ≡ after

-- it was lost
pub record WasLost (world : World) (n : ℕ) (host : Host) : Type 0 where
  pub old : Host
  pub there : tree.get world.hosts n ≡ Some old
  pub host_so : lost_host old ≡ host

-- it came back
pub record CameBack (statements : List Statement) (world after : World) (n : ℕ) (host : Host) : Type 0 where
  pub old : Host
  pub there : tree.get world.hosts n ≡ Some old
  pub lost : old.is_lost ≡ true
  pub host_so : host_after_return (log_after_return statements n world) old ≡ host
  pub world_so : world_after_return statements n old world ≡ after

-- it joined
pub record HasJoined (statements : List Statement) (world after : World) (n : ℕ) (host : Host) : Type 0 where
  pub control : next_control world ≡ Some (lines.Join n)
  pub host_so : joined_host statements n ≡ host
  pub world_so : world_after_join statements n world ≡ after

-- how the host of a number came to be this one by an event
pub data HostChange (statements : List Statement) (world after : World) (n : ℕ) (host : Host) : Type 0 where
  Stays : tree.get world.hosts n ≡ Some host → HostChange statements world after n host
  Steps : HasStepped statements world after n host → HostChange statements world after n host
  IsLost : WasLost world n host → HostChange statements world after n host
  ComesBack : CameBack statements world after n host → HostChange statements world after n host
  Joins : HasJoined statements world after n host → HostChange statements world after n host

-- each host of a world is so
abbrev pub HoldsOfEachHost : (World → ℕ → Host → Type 0) → World → Type 0
HoldsOfEachHost P world = (n : ℕ) (host : Host) → tree.get world.hosts n ≡ Some host → P world n host

-- what is kept of each host: it is so in the opening world; what is so stays so while other things happen; and the four changes of a
-- host keep it. At each an invariant of worlds may be used
pub record HostsKeep (statements : List Statement) (I : World → Type 0) (P : World → ℕ → Host → Type 0) : Type 0 where
  pub opens : (member : Member) → P (initial_world statements) member.node.0 (initial_host (initial_member_node statements member))
  pub stays : (event : Event) (world : World) (made : EventOutcome) → EventKind statements event world made → I world
      → (n : ℕ) (host : Host) → P world n host → P made.world n host
  pub steps : (world : World) (n : ℕ) (host : Host) (cause : NodeCause) → I world
      → tree.get world.hosts n ≡ Some host → is_host_up host ≡ true → IsCause statements world n host cause → P world n host
      → P (world_after_cause statements n host cause world) n (host_after_step cause host)
  pub fails : (world : World) (n : ℕ) (host : Host) → I world → P world n host → P world n (lost_host host)
  pub returns : (world : World) (n : ℕ) (host : Host) → I world → tree.get world.hosts n ≡ Some host → P world n host
      → P (world_after_return statements n host world) n (host_after_return (log_after_return statements n world) host)
  pub joins : (world : World) (n : ℕ) → I world → next_control world ≡ Some (lines.Join n) → P world n (joined_host statements n)

-- what is kept of each node, where the predicate is of the node alone, its number and its incarnation
pub record NodesKeep (statements : List Statement) (P : ℕ → ℕ → Node → Type 0) : Type 0 where
  pub opens : (member : Member) → P member.node.0 1 (initial_member_node statements member)
  pub steps : (world : World) (n : ℕ) (host : Host) (cause : NodeCause) → IsCause statements world n host cause
      → P n host.incarnation host.node
      → P n host.incarnation (node_step (input_of_cause cause) host.node).node
  pub returns : (log : List Entry) (n incarnation : ℕ) (node : Node) → P n incarnation node
      → P n (incarnation + 1) (node_step (inputs.Back log) node).node
  pub joins : (n : ℕ) → P n 1 (nodes.initial_node (record { 0 = n }) (tries_of statements))
