-- What contracts see of a node's cell, and what holds of it.
use Rattle.std.specs.Prelude.{◌≡◌, ◌≢◌, ℕ, Bool, true, false, List, [], ◌∷◌, ◌++◌, length, nat_lt}
use Rattle.sheep_node.specs.declared.event.Event.{Event}
use Rattle.sheep_node.specs.declared.input.Input.{Input}
use Rattle.sheep_node.specs.State.{Node}
use Rattle.sheep_node.specs.Step.{node_step}
use Rattle.sheep_node.specs.OneWork.{HasOneWorkPerRequest}
use Rattle.sheep_node.specs.OwnEntries.{HasOnlyOwnEntries}
use Rattle.sheep_node.specs.ValidDisks.{HasValidDisks}
use Rattle.live_cells.specs.declared.step.Step.{Step}
use Rattle.live_cells.specs.Opening.{opening_node, IsOpening}
use Rattle.live_cells.specs.History.{made_step, Replays}

-- whether it was out of memory once, whether its opening node had read the log's first entry, the node as it is now, and the steps that
-- it made. Of a spent cell nothing else is known
pub record CellState : Type 0 where
  pub spent : Bool
  pub has_read : Bool
  pub node : Node
  pub steps : List Step

-- the node with which it opened: what a node is made of, and what it has read, tell that
abbrev pub opening_of : CellState → Node
opening_of cell = opening_node cell.has_read cell.node

-- the cell of a node that is to open it
abbrev pub new_cell : Node → CellState
new_cell node = record { spent = false; has_read = nat_lt 0 (length node.peer.entries); node = node; steps = [] }

-- a cell behind a step of its node
abbrev pub cell_after : ℕ → Event → Input → List ℕ → CellState → CellState
cell_after stamp event input used cell = record {
  spent = cell.spent;
  has_read = cell.has_read;
  node = (node_step input cell.node).node;
  steps = cell.steps ++ made_step stamp event input used cell.node ∷ [];
}

-- what holds of a cell that isn't spent: its opening node is one, which keeps what it has read, and its steps lead from there to its node;
-- and what the steps of nodes keep, by which the opening node stays the same, and what the node puts may stand in the log
pub record IsCell (has_read : Bool) (node : Node) (steps : List Step) : Type 0 where
  pub opening : IsOpening (opening_node has_read node)
  pub read : has_read ≡ true → node.peer.entries ≢ []
  pub history : Replays (opening_node has_read node) steps node
  pub one_work : HasOneWorkPerRequest node
  pub own_entries : HasOnlyOwnEntries node
  pub valid_disks : HasValidDisks node
