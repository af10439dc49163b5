-- Runs in which a client without a script reads objects between the events: one read at a time, of any node that is up and may be asked, of
-- an object by its id.
use Rattle.std.specs.Prelude.{ℕ, Bool, not, ◌&&◌, List, [], ◌∷◌, Option, Some, None, is_some, if◌then◌else◌}
use Rattle.std.specs.Option.{option_and_then, option_map}
use Rattle.object_id.specs.declared.node.NodeId.{NodeId}
use Rattle.cluster_script.specs.declared.statement.Statement.{Statement}
use Rattle.cluster_script.specs.NumberedRequests.{request_at}
use Rattle.sheep_node.specs.declared.ask.Ask.{Ask}
use Rattle.sheep_node.specs.declared.event.Event.{Event}
use Rattle.sheep_node.specs.declared.event.Event.TheVariants as events
use Rattle.sheep_world.specs.ClientAsks.{next_ask_number, may_client_ask, may_be_asked, is_read_ask}
use Rattle.sheep_world.specs.ClientSteps.{ask_effect}
use Rattle.sheep_world.specs.World.{World}
use Rattle.sheep_world.specs.Run.{Moment, initial_moment, moment_with_made}
use Rattle.sheep_world.specs.Step.{EventOutcome, step, with_replies}

-- what a run is made of: events, and a client's asks of nodes, of which those that read an object are made
pub data Move : Type 0 where
  Happens : Event → Move
  Asks : NodeId → Ask → Move

-- whether a client may ask this read of the node now: the node is up, and a member by what it has read; the last read has its reply; the
-- node may be asked this, a read of an object by its id; and its number is none of the script's requests, as it always is in a run
abbrev pub may_read_object : List Statement → NodeId → Ask → World → Bool
may_read_object statements node ask world =
    may_client_ask node.0 world && may_be_asked ask node.0 world && is_read_ask ask
    && not (is_some (request_at statements (next_ask_number world)))

-- what a move makes, where it may be made. What a client's read would add to the history is what the replies of its step do: nothing, as
-- they are to no request of the script
abbrev pub made_by : List Statement → Move → World → Option EventOutcome
made_by statements (Happens event) world = step statements event world
made_by statements (Asks node ask) world =
    if may_read_object statements node ask world then Some (with_replies statements world (ask_effect node.0 ask world)) else None

-- the event as which a move is told of: a client's read is none, and what it makes is told of as what a retry of its node would have made
abbrev pub event_of_move : Move → Event
event_of_move (Happens event) = event
event_of_move (Asks node ask) = events.RetryTick node

-- one move
abbrev pub next_move : List Statement → Move → Moment → Option Moment
next_move statements move moment = option_map (moment_with_made moment.history) (made_by statements move moment.world)

-- one move after another; none where one may not be made in its turn
unfoldable pub moves_from : List Statement → List Move → Moment → Option Moment
moves_from statements [] moment = Some moment
moves_from statements (move ∷ moves) moment = option_and_then (moves_from statements moves) (next_move statements move moment)

-- the run with asks of these moves
abbrev pub run_with_asks : List Statement → List Move → Option Moment
run_with_asks statements moves = moves_from statements moves (initial_moment statements)
