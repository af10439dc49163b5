-- The node with which a cell opens: one that has made no step, or one step on the log's first entry.
use Rattle.std.specs.Prelude.{◌≡◌, Bool, true, false, List, [], ◌∷◌}
use Rattle.object_id.specs.declared.entry.Entry.{Entry}
use Rattle.sheep_node.specs.declared.input.Input.TheVariants.{LogEntry}
use Rattle.sheep_node.specs.State.{Node, initial_node}
use Rattle.sheep_node.specs.Step.{node_step}
use Rattle.sheep_node.specs.May.{May}

-- the node as it was made
abbrev pub node_as_made : Node → Node
node_as_made node = initial_node node.me node.gateway.tries

-- a node after the first of these entries
abbrev pub node_with_first : List Entry → Node → Node
node_with_first [] node = node
node_with_first (first ∷ later) node = (node_step (LogEntry first) node).node

-- the opening node of a node's cell, by whether that had read the log's first entry
abbrev pub opening_node : Bool → Node → Node
opening_node false node = node_as_made node
opening_node true node = node_with_first node.peer.entries (node_as_made node)

-- a node that has read these entries has made no step, or one on the log's first entry, which can only be `Format`
abbrev pub IsOpeningWith : List Entry → Node → Type 0
IsOpeningWith [] node = node ≡ node_as_made node
IsOpeningWith (first ∷ []) node = May (LogEntry first) (node_as_made node) × (node ≡ (node_step (LogEntry first) (node_as_made node)).node)
IsOpeningWith (first ∷ second ∷ later) node = ⊥

abbrev pub IsOpening : Node → Type 0
IsOpening node = IsOpeningWith node.peer.entries node
