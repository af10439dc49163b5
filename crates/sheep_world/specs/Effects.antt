-- What a guest's request, and the steps of nodes that no message brings, make of the world.
use Rattle.std.specs.Prelude.{ℕ, ◌+◌, List, [], ◌∷◌, ◌++◌, length, Option, Some, None, slice_get}
use Rattle.std.specs.Option.{option_map, option_map_or, option_and_then, option_to_list}
use Rattle.std.specs.FinMap as tree
use Rattle.object_id.specs.declared.entry.Entry.{Entry}
use Rattle.cluster_script.specs.declared.statement.Statement.{Statement}
use Rattle.cluster_script.specs.Sessions.{ScriptSession, session_numbered}
use Rattle.guest_driver.specs.declared.disk.Disk.{Disk}
use Rattle.sheep_node.specs.declared.input.Input.{Input}
use Rattle.sheep_node.specs.declared.input.Input.TheVariants as inputs
use Rattle.sheep_node.specs.State.{Node, session_at}
use Rattle.sheep_world.specs.declared.progress.StartedRequest.{StartedRequest}
use Rattle.sheep_world.specs.declared.progress.SessionProgress.{SessionProgress}
use Rattle.sheep_world.specs.World.{World, node_at, progress_at}
use Rattle.sheep_world.specs.Conditions.{next_request}
use Rattle.sheep_world.specs.Asking.{input_of}
use Rattle.sheep_world.specs.NodeSteps.{node_stepped, at_rest}

-- the disk that a session has open at its gateway
abbrev pub open_disk_at : ScriptSession → World → Option Disk
open_disk_at session world = option_and_then (λ node. (session_at session.number node).disk) (node_at session.node world)

-- its id
abbrev pub disk_open : ScriptSession → World → Option ℕ
disk_open session world = option_map (λ (disk : Disk). disk.inode.vid) (open_disk_at session world)

-- a session with one request more that was started
abbrev pub progress_with_started : StartedRequest → SessionProgress → SessionProgress
progress_with_started started guest = record { begun = guest.begun + 1; unanswered = guest.unanswered ++ started ∷ [] }

-- a request of a session is started, with the disk that the session has open
abbrev pub request_started : ScriptSession → Option ℕ → World → World
request_started session None world = world
request_started session (Some req) world = record world {
  guests = tree.insert world.guests session.number
      (progress_with_started (record { req = req; disk = disk_open session world }) (progress_at session.number world));
}

-- the next request of the session of this number is started
abbrev pub guest_begun : List Statement → ℕ → World → World
guest_begun statements number world = option_map_or
    (λ (session : ScriptSession). request_started session (next_request statements session.number world) world)
    (session_numbered statements number) world

-- the input of a session's next request
abbrev pub next_input : List Statement → ℕ → World → Option Input
next_input statements number world = option_and_then (input_of statements) (next_request statements number world)

-- Guest: the session's next request is started, and its gateway steps on it
unfoldable pub guest_effect : List Statement → ℕ → World → World
guest_effect statements number world =
    let begun = guest_begun statements number (at_rest world) in
    option_map_or
    (λ (session : ScriptSession).
    option_map_or (λ (input : Input). node_stepped statements session.node input begun) (next_input statements number world) begun)
    (session_numbered statements number) begun

-- the entry that a node reads next
abbrev pub next_entry : List Entry → Option Node → Option Entry
next_entry log node = option_and_then (λ (node : Node). slice_get log (length node.peer.entries)) node

-- LogNext: a node reads the next entry of the log
unfoldable pub log_next_effect : List Statement → ℕ → World → World
log_next_effect statements node world = option_map_or
    (λ (entry : Entry). node_stepped statements node (inputs.LogEntry entry) (at_rest world))
    (next_entry world.log (node_at node world)) (at_rest world)

-- entries stand at the log's end
abbrev pub with_entries : List Entry → World → World
with_entries entries world = record world { log = world.log ++ entries }

-- what the last step put stands at the log's end
abbrev pub put_done : World → World
put_done world = with_entries (option_to_list world.outputs.put) world

-- Put: the first entry of a node's outbox stands at the log's end
unfoldable pub put_effect : List Statement → ℕ → World → World
put_effect statements node world = put_done (node_stepped statements node inputs.Put (at_rest world))

-- RecoverTick: a node's recovery makes a step
unfoldable pub recover_tick_effect : List Statement → ℕ → World → World
recover_tick_effect statements node world = node_stepped statements node inputs.RecoverTick (at_rest world)

-- RetryTick: a work of a node is tried again
unfoldable pub retry_tick_effect : List Statement → ℕ → World → World
retry_tick_effect statements node world = node_stepped statements node inputs.RetryTick (at_rest world)
