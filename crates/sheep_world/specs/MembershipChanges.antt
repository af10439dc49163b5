-- What becomes of the members, the incarnations and the phases: the events that a script's controls make, Leave, and Phase.
use Rattle.std.specs.Prelude.{ℕ, ◌+◌, ◌==◌, true, false, List, [], ◌∷◌, drop, fold, Option, Some, None, if◌then◌else◌}
use Rattle.std.specs.List.{find}
use Rattle.std.specs.Option.{option_map_or}
use Rattle.std.specs.FinMap as tree
use Rattle.object_id.specs.declared.entry.Member.{Member}
use Rattle.object_id.specs.declared.entry.Entry.{Entry}
use Rattle.object_id.specs.declared.entry.Entry.TheVariants as entries
use Rattle.epoch_log.specs.Members as members
use Rattle.cluster_script.specs.declared.statement.Statement.{Statement}
use Rattle.cluster_script.specs.declared.statement.Statement.TheVariants as lines
use Rattle.cluster_script.specs.Settings.{vnodes_of, tries_of, zone_of}
use Rattle.sheep_node.specs.declared.input.Input.TheVariants as inputs
use Rattle.sheep_node.specs.State as nodes
use Rattle.message_wire.specs.Message.{without_replies}
use Rattle.sheep_world.specs.World.{Host, World, host_at, next_control}
use Rattle.sheep_world.specs.Opening.{initial_host, with_phase}
use Rattle.sheep_world.specs.NodeSteps.{node_stepped, at_rest}
use Rattle.sheep_world.specs.Effects.{with_entries}

-- the next control is taken
abbrev pub control_taken : World → World
control_taken world = record world { controls = drop 1 world.controls }

-- the host of a node, if it has one, is changed
abbrev pub host_changed : (Host → Host) → ℕ → Option Host → World → World
host_changed change node None world = world
host_changed change node (Some host) world = record world { hosts = tree.insert world.hosts node (change host) }

-- a node is lost
abbrev pub lost_host : Host → Host
lost_host host = record host { is_lost = true }

-- Lost: the node is lost, and the replies to it go
unfoldable pub node_lost : ℕ → World → World
node_lost node world =
    host_changed lost_host node (host_at node world)
    (record (control_taken (at_rest world)) { wire = without_replies node world.wire })

-- Leave: the node's leave stands at the log's end
unfoldable pub node_left : ℕ → World → World
node_left node world = with_entries (entries.Leave (record { 0 = node }) ∷ []) (at_rest world)

-- the entry by which a node joins
abbrev pub join_of : List Statement → ℕ → ℕ → Entry
join_of statements node vnodes = entries.Join (record { 0 = node }) (zone_of statements node) vnodes

-- Join: the node's join stands at the log's end; the node exists, in its first incarnation, with an empty store and no entry read
unfoldable pub node_joined : List Statement → ℕ → World → World
node_joined statements node world =
    with_entries (join_of statements node (vnodes_of statements) ∷ [])
    (record (control_taken (at_rest world)) {
      hosts = tree.insert world.hosts node (initial_host (nodes.initial_node (record { 0 = node }) (tries_of statements)));
    })

-- the weight that a control gives
abbrev pub weight_in : Statement → ℕ
weight_in (lines.Reweight node vnodes) = vnodes
weight_in s = 0

-- Reweight: the node's new weight, which the control gives, stands at the log's end
unfoldable pub node_reweighted : ℕ → World → World
node_reweighted node world =
    with_entries (entries.Reweight (record { 0 = node }) (option_map_or weight_in (next_control world) 0) ∷ [])
    (control_taken (at_rest world))

-- the weight of a node among members, or the one that it had
abbrev pub weight_among : ℕ → List Member → ℕ → ℕ
weight_among node opening weight =
    option_map_or (λ (member : Member). member.vnodes) (find (members.is_member_node node) opening) weight

-- a node's weight after one entry more
abbrev pub weight_after : ℕ → ℕ → Entry → ℕ
weight_after node weight (entries.Format opening) = weight_among node opening weight
weight_after node weight (entries.Join other zone vnodes) = if other.0 == node then vnodes else weight
weight_after node weight (entries.Leave other) = weight
weight_after node weight (entries.Reweight other vnodes) = if other.0 == node then vnodes else weight
weight_after node weight (entries.Recovered other epoch) = weight
weight_after node weight (entries.Reserve by session name origin) = weight
weight_after node weight (entries.Publish by vid) = weight
weight_after node weight (entries.Clone by vid) = weight
weight_after node weight (entries.Snapshot by old vid) = weight
weight_after node weight (entries.Delete by session name tag) = weight
weight_after node weight (entries.Lock by session name tag) = weight
weight_after node weight (entries.Unlock by session vid) = weight

-- the last weight of a node, which it keeps when it leaves
abbrev pub last_weight : List Entry → ℕ → ℕ
last_weight log node = fold (weight_after node) 0 log

-- a lost node begins its next incarnation
abbrev pub revived_host : Host → Host
revived_host host = record host { is_lost = false; incarnation = host.incarnation + 1 }

-- a node's join, with its zone and its last weight, stands at the log's end, and the node begins its next incarnation
abbrev pub node_rejoined : List Statement → ℕ → World → World
node_rejoined statements node world =
    host_changed revived_host node (host_at node world)
    (with_entries (join_of statements node (last_weight world.log node) ∷ []) (control_taken (at_rest world)))

-- a node steps on coming back, with the whole log
abbrev pub log_handed : List Statement → ℕ → World → World
log_handed statements node world = node_stepped statements node (inputs.Back world.log) world

-- Back: the node joins again in its next incarnation, and steps on coming back
unfoldable pub came_back : List Statement → ℕ → World → World
came_back statements node world = log_handed statements node (node_rejoined statements node world)

-- Phase: the next phase is present; controls that are left stay before its own
unfoldable pub phase_ended : List Statement → World → World
phase_ended statements world = with_phase statements (world.phase + 1) (at_rest world)
