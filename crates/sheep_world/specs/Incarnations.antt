-- The incarnations of nodes: which of them is a member of an epoch, and whether a node counts there as a live holder.
use Rattle.std.specs.Prelude.{ℕ, ◌+◌, ◌==◌, nat_lt, nat_le, Bool, false, not, ◌&&◌, ◌||◌, List, [], ◌∷◌, ◌++◌, count_by, Option, Some, None}
use Rattle.std.specs.Prelude.{if◌then◌else◌}
use Rattle.std.specs.List.{list_any}
use Rattle.std.specs.Option.{option_map_or}
use Rattle.object_id.specs.declared.entry.Entry.{Entry}
use Rattle.object_id.specs.declared.entry.Entry.TheVariants as entries
use Rattle.epoch_log.specs.Members as members
use Rattle.epoch_log.specs.Epochs.{begins_epoch, initial_members}
use Rattle.cluster_script.specs.Sessions.{ScriptSession}
use Rattle.sheep_node.specs.declared.event.Event.{Event}
use Rattle.sheep_node.specs.declared.event.Event.TheVariants as events
use Rattle.sheep_world.specs.World.{Host, World, host_at}

-- the incarnation that a node is in, or was in when it was lost; 0 for a number that was never used
abbrev pub incarnation_of : ℕ → World → ℕ
incarnation_of node world = option_map_or (λ (host : Host). host.incarnation) (host_at node world) 0

-- whether an entry begins an incarnation of a node: its join, or the log's opening with it among the members
abbrev pub begins_incarnation : ℕ → Entry → Bool
begins_incarnation node (entries.Format initial_members) = members.is_member node initial_members
begins_incarnation node (entries.Join other zone vnodes) = other.0 == node
begins_incarnation node (entries.Leave other) = false
begins_incarnation node (entries.Reweight other vnodes) = false
begins_incarnation node (entries.Recovered other epoch) = false
begins_incarnation node (entries.Reserve by session name origin) = false
begins_incarnation node (entries.Publish by vid) = false
begins_incarnation node (entries.Clone by vid) = false
begins_incarnation node (entries.Snapshot by old vid) = false
begins_incarnation node (entries.Delete by session name tag) = false
begins_incarnation node (entries.Lock by session name tag) = false
begins_incarnation node (entries.Unlock by session vid) = false

-- the entries up to the one that begins an epoch
abbrev pub up_to_epoch : ℕ → ℕ → List Entry → List Entry
up_to_epoch epoch newest [] = []
up_to_epoch epoch newest (entry ∷ later) =
    if begins_epoch entry then (if nat_lt newest epoch then entry ∷ up_to_epoch epoch (newest + 1) later else [])
    else entry ∷ up_to_epoch epoch newest later

-- the number of a node's incarnation that is a member of an epoch where the node is one: how many began up to that epoch
abbrev pub incarnation_in : List Entry → ℕ → ℕ → ℕ
incarnation_in log epoch node = count_by (begins_incarnation node) (up_to_epoch epoch 1 log)

-- an incarnation that was lost, with the epoch that it had reached then
pub record EndedIncarnation : Type 0 where
  pub node : ℕ
  pub incarnation : ℕ
  pub reached : ℕ

-- the incarnations that were lost, with the one of a host
abbrev pub with_ended_incarnation : ℕ → Option Host → List EndedIncarnation → List EndedIncarnation
with_ended_incarnation node None ended = ended
with_ended_incarnation node (Some host) ended = ended ++ record {
  node = node;
  incarnation = host.incarnation;
  reached = host.node.peer.epoch;
} ∷ []

-- the incarnations that were lost by an event's end, from those lost before it: Lost ends an incarnation
abbrev pub incarnations_after : World → List EndedIncarnation → Event → List EndedIncarnation
incarnations_after world ended (events.Guest session) = ended
incarnations_after world ended (events.Deliver node number) = ended
incarnations_after world ended (events.LoseRequest node number) = ended
incarnations_after world ended (events.LoseReply node number) = ended
incarnations_after world ended (events.LogNext node) = ended
incarnations_after world ended (events.Put node) = ended
incarnations_after world ended (events.RecoverTick node) = ended
incarnations_after world ended (events.RetryTick node) = ended
incarnations_after world ended (events.Lost node) = with_ended_incarnation node.0 (host_at node.0 world) ended
incarnations_after world ended (events.Leave node) = ended
incarnations_after world ended (events.Join node) = ended
incarnations_after world ended (events.Reweight node) = ended
incarnations_after world ended (events.Back node) = ended
incarnations_after world ended events.Phase = ended

-- whether an incarnation of a node had reached an epoch when it was lost
abbrev pub had_reached : ℕ → ℕ → ℕ → List EndedIncarnation → Bool
had_reached node incarnation epoch ended =
    list_any (λ (one : EndedIncarnation). one.node == node && one.incarnation == incarnation && nat_le epoch one.reached) ended

-- whether an incarnation is the node's present one, or had reached an epoch when it was lost
abbrev pub is_incarnation_kept : ℕ → ℕ → List EndedIncarnation → ℕ → Host → Bool
is_incarnation_kept node epoch ended incarnation host = host.incarnation == incarnation || had_reached node incarnation epoch ended

-- whether a target of an epoch counts for it: the node isn't lost, and its incarnation that is a member of the epoch is its present
-- one, or had reached the epoch when it was lost
abbrev pub counts_for : ℕ → World → List EndedIncarnation → ℕ → Bool
counts_for epoch world ended node = option_map_or
    (λ (host : Host). not host.is_lost && is_incarnation_kept node epoch ended (incarnation_in world.log epoch node) host)
    (host_at node world) false

-- whether the incarnation of a node that a session belongs to is gone: a later one began, or it is lost
abbrev pub is_incarnation_gone : ScriptSession → Host → Bool
is_incarnation_gone session host = nat_lt session.incarnation host.incarnation || (session.incarnation == host.incarnation && host.is_lost)

-- whether the incarnation that a session belongs to is gone in a world
abbrev pub is_session_gone : ScriptSession → World → Bool
is_session_gone session world = option_map_or (is_incarnation_gone session) (host_at session.node world) false
