-- The step of a node in the world, in the parts in which the code makes it.
use Rattle.std.specs.Prelude.{ℕ, List, fold, Some}
use Rattle.std.specs.Option.{option_map}
use Rattle.cluster_script.specs.declared.statement.Statement.{Statement}
use Rattle.sheep_node.specs.declared.input.Input.{Input}
use Rattle.sheep_node.specs.declared.outputs.Outputs.{Outputs}
use Rattle.sheep_world.specs.World.{World}
use Rattle.sheep_world.specs.NodeSteps.{wire_with_request, progress_after_reply, ask_after_replies}

-- the world once a step that a client's ask brought has given these outputs: all but the node that stepped, and the sessions, which
-- asked nothing
abbrev pub with_client_outputs : Input → Outputs → World → World
with_client_outputs input outputs world = record world {
  wire = fold wire_with_request world.wire outputs.sends;
  asked = option_map (ask_after_replies outputs.replies) world.asked;
  input = Some input;
  outputs = outputs;
}

-- the world once a step on an input has given these outputs: all but the node that stepped
abbrev pub with_outputs : List Statement → Input → Outputs → World → World
with_outputs statements input outputs world = record world {
  wire = fold wire_with_request world.wire outputs.sends;
  guests = fold (progress_after_reply statements) world.guests outputs.replies;
  asked = option_map (ask_after_replies outputs.replies) world.asked;
  input = Some input;
  outputs = outputs;
}
