-- The world that an event makes, and what it adds to the history.
use Rattle.std.specs.Prelude.{List, [], ◌++◌, None}
use Rattle.cluster_script.specs.declared.statement.Statement.{Statement}
use Rattle.disk_history.specs.declared.event.HistEvent.{HistEvent}
use Rattle.sheep_node.specs.declared.event.Event.{Event}
use Rattle.sheep_node.specs.declared.event.Event.TheVariants as events
use Rattle.sheep_world.specs.World.{World}
use Rattle.sheep_world.specs.Effects.{guest_begun, guest_effect, log_next_effect, put_effect, recover_tick_effect, retry_tick_effect}
use Rattle.sheep_world.specs.Messages.{message_delivered, message_lost}
use Rattle.sheep_world.specs.Granted.{put_adds}
use Rattle.sheep_world.specs.HistoryAdditions.{writes_grown, replies_grown, loss_grown, delivery_grown}
use Rattle.sheep_world.specs.MembershipChanges.{node_lost, node_left, node_joined, node_reweighted, came_back, phase_ended}

-- the world after an event that may happen
abbrev pub world_after_event : List Statement → Event → World → World
world_after_event statements (events.Guest session) world = guest_effect statements session world
world_after_event statements (events.Deliver node number) world =
    message_delivered statements (record { sender = node; number = number }) world
world_after_event statements (events.LoseRequest node number) world =
    message_lost statements (record { sender = node; number = number }) world
world_after_event statements (events.LoseReply node number) world =
    message_lost statements (record { sender = node; number = number }) world
world_after_event statements (events.LogNext node) world = log_next_effect statements node.0 world
world_after_event statements (events.Put node) world = put_effect statements node.0 world
world_after_event statements (events.RecoverTick node) world = recover_tick_effect statements node.0 world
world_after_event statements (events.RetryTick node) world = retry_tick_effect statements node.0 world
world_after_event statements (events.Lost node) world = node_lost node.0 world
world_after_event statements (events.Leave node) world = node_left node.0 world
world_after_event statements (events.Join node) world = node_joined statements node.0 world
world_after_event statements (events.Reweight node) world = node_reweighted node.0 world
world_after_event statements (events.Back node) world = came_back statements node.0 world
world_after_event statements events.Phase world = phase_ended statements world

-- what an event adds that made this of the world before
abbrev pub event_adds : List Statement → Event → World → World → List HistEvent
event_adds statements (events.Guest session) before after =
    writes_grown statements session before ++ replies_grown statements (guest_begun statements session before) None after
event_adds statements (events.Deliver node number) before after =
    delivery_grown statements (record { sender = node; number = number }) before after
event_adds statements (events.LoseRequest node number) before after = replies_grown statements before None after
event_adds statements (events.LoseReply node number) before after = replies_grown statements before None after
event_adds statements (events.LogNext node) before after = replies_grown statements before None after
event_adds statements (events.Put node) before after = put_adds before.log after.outputs.put
event_adds statements (events.RecoverTick node) before after = replies_grown statements before None after
event_adds statements (events.RetryTick node) before after = replies_grown statements before None after
event_adds statements (events.Lost node) before after = loss_grown statements node.0 before
event_adds statements (events.Leave node) before after = []
event_adds statements (events.Join node) before after = []
event_adds statements (events.Reweight node) before after = []
event_adds statements (events.Back node) before after = []
event_adds statements events.Phase before after = []
