-- The step of the cluster: one clause for each event, its condition, its effect, and what it adds to the history.
use Rattle.std.specs.Prelude.{ℕ, List, [], ◌++◌, Option, Some, None, if◌then◌else◌}
use Rattle.cluster_script.specs.declared.statement.Statement.{Statement}
use Rattle.disk_history.specs.declared.event.HistEvent.{HistEvent}
use Rattle.sheep_node.specs.declared.event.Event.{Event}
use Rattle.sheep_node.specs.declared.event.Event.TheVariants as events
use Rattle.sheep_world.specs.World.{World}
use Rattle.sheep_world.specs.Conditions.{may_guest, may_deliver, may_lose_request, may_lose_reply, may_log_next, may_put, may_recover}
use Rattle.sheep_world.specs.Conditions.{may_retry, may_lose_node, may_leave, may_join, may_reweight, may_come_back, may_end_phase}
use Rattle.sheep_world.specs.Effects.{guest_begun, guest_effect, log_next_effect, put_effect, recover_tick_effect, retry_tick_effect}
use Rattle.sheep_world.specs.Messages.{message_delivered, message_lost}
use Rattle.sheep_world.specs.MembershipChanges.{node_lost, node_left, node_joined, node_reweighted, came_back, phase_ended}
use Rattle.sheep_world.specs.HistoryAdditions.{writes_grown, replies_grown, loss_grown, delivery_grown}
use Rattle.sheep_world.specs.Granted.{put_adds}
use Rattle.message_wire.specs.declared.name.MessageName.{MessageName}

-- what an event makes: the world after it, and what it adds to the history
pub record EventOutcome : Type 0 where
  pub world : World
  pub grown : List HistEvent

-- an event that adds nothing
abbrev pub only : World → EventOutcome
only after = record { world = after; grown = [] }

-- an event that adds what the replies of its step do
abbrev pub with_replies : List Statement → World → World → EventOutcome
with_replies statements before after = record { world = after; grown = replies_grown statements before None after }

-- a message is delivered
abbrev pub delivery_made : List Statement → MessageName → World → World → EventOutcome
delivery_made statements name before after = record { world = after; grown = delivery_grown statements name before after }

-- a request's writes begin, and its gateway's step may reply
abbrev pub guest_made : List Statement → ℕ → World → World → EventOutcome
guest_made statements session before after = record {
  world = after;
  grown = writes_grown statements session before ++ replies_grown statements (guest_begun statements session before) None after;
}

-- an entry was put
abbrev pub put_made : World → World → EventOutcome
put_made before after = record { world = after; grown = put_adds before.log after.outputs.put }

-- a node was lost
abbrev pub loss_made : List Statement → ℕ → World → World → EventOutcome
loss_made statements node before after = record { world = after; grown = loss_grown statements node before }

-- an event, where it may happen
unfoldable pub step : List Statement → Event → World → Option EventOutcome
step statements (events.Guest session) world =
    if may_guest statements session world then Some (guest_made statements session world (guest_effect statements session world)) else None
step statements (events.Deliver node number) world =
    if may_deliver (record { sender = node; number = number }) world
    then Some (delivery_made statements (record { sender = node; number = number }) world
    (message_delivered statements (record { sender = node; number = number }) world))
    else None
step statements (events.LoseRequest node number) world =
    if may_lose_request (record { sender = node; number = number }) world
    then Some (with_replies statements world (message_lost statements (record { sender = node; number = number }) world))
    else None
step statements (events.LoseReply node number) world =
    if may_lose_reply (record { sender = node; number = number }) world
    then Some (with_replies statements world (message_lost statements (record { sender = node; number = number }) world))
    else None
step statements (events.LogNext node) world =
    if may_log_next node.0 world then Some (with_replies statements world (log_next_effect statements node.0 world)) else None
step statements (events.Put node) world =
    if may_put node.0 world then Some (put_made world (put_effect statements node.0 world)) else None
step statements (events.RecoverTick node) world =
    if may_recover node.0 world then Some (with_replies statements world (recover_tick_effect statements node.0 world)) else None
step statements (events.RetryTick node) world =
    if may_retry node.0 world then Some (with_replies statements world (retry_tick_effect statements node.0 world)) else None
step statements (events.Lost node) world =
    if may_lose_node node.0 world then Some (loss_made statements node.0 world (node_lost node.0 world)) else None
step statements (events.Leave node) world =
    if may_leave node.0 world then Some (only (node_left node.0 world)) else None
step statements (events.Join node) world =
    if may_join node.0 world then Some (only (node_joined statements node.0 world)) else None
step statements (events.Reweight node) world =
    if may_reweight node.0 world then Some (only (node_reweighted node.0 world)) else None
step statements (events.Back node) world =
    if may_come_back node.0 world then Some (only (came_back statements node.0 world)) else None
step statements events.Phase world =
    if may_end_phase statements world then Some (only (phase_ended statements world)) else None
