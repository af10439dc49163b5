-- What a change of a moment adds to the history, in five kinds: what is said of the history alone is kept by each kind.
use Rattle.std.specs.Prelude.{◌≡◌, ℕ, true, List, [], ◌∷◌, ◌++◌, Option, Some, None}
use Rattle.std.specs.List.{list_all}
use Rattle.std.specs.Option.{option_and_then, option_map_or}
use Rattle.object_id.specs.declared.entry.Entry.{Entry}
use Rattle.cluster_script.specs.declared.statement.Statement.{Statement}
use Rattle.disk_history.specs.declared.event.HistEvent.{HistEvent}
use Rattle.peer_proto.specs.declared.guest.GuestRsp.{GuestRsp}
use Rattle.sheep_node.specs.declared.check_write.CheckWrite.{CheckWrite}
use Rattle.sheep_node.specs.CheckWrites.{check_write_on}
use Rattle.sheep_world.specs.World.{Host, World, node_at}
use Rattle.sheep_world.specs.Effects.{request_started}
use Rattle.sheep_world.specs.Granted.{entry_adds}
use Rattle.sheep_world.specs.HistoryAdditions.{request_grown, check_write_grown, reply_grown, writers_lost}
use Rattle.sheep_world.specs.NodeCauses.{NodeCause, GuestAsks, RequestComes, ReplyComes, LossIsTold, EntryIsRead, EntryIsPut, RecoveryTicks}
use Rattle.sheep_world.specs.NodeCauses.{WorkIsRetried, ClientAsks, input_of_cause}
use Rattle.overlap_law.specs.StayingBlocks.{are_apart}

-- the write that a check comes to by the cause of a step
abbrev pub check_write_at : World → NodeCause → Option CheckWrite
check_write_at world (GuestAsks session req ask) = None
check_write_at world (RequestComes name to request) = None
check_write_at world (ReplyComes name from rsp) =
    option_and_then (check_write_on (input_of_cause (ReplyComes name from rsp))) (node_at name.sender.0 world)
check_write_at world (LossIsTold name packet) = None
check_write_at world (EntryIsRead entry) = None
check_write_at world (EntryIsPut entry) = None
check_write_at world RecoveryTicks = None
check_write_at world WorkIsRetried = None
check_write_at world (ClientAsks req ask) = None

-- the world by which replies are told: a guest's request has begun
abbrev pub world_at_cause : World → NodeCause → World
world_at_cause world (GuestAsks session req ask) = request_started session (Some req) world
world_at_cause world (RequestComes name to request) = world
world_at_cause world (ReplyComes name from rsp) = world
world_at_cause world (LossIsTold name packet) = world
world_at_cause world (EntryIsRead entry) = world
world_at_cause world (EntryIsPut entry) = world
world_at_cause world RecoveryTicks = world
world_at_cause world WorkIsRetried = world
world_at_cause world (ClientAsks req ask) = world

-- what the beginning of a step adds: the writes that a guest's request begins, or a check
abbrev pub added_at_cause : List Statement → World → NodeCause → List HistEvent
added_at_cause script world (GuestAsks session req ask) = request_grown script world session (Some req)
added_at_cause script world (RequestComes name to request) = []
added_at_cause script world (ReplyComes name from rsp) =
    option_map_or (check_write_grown script) (check_write_at world (ReplyComes name from rsp)) []
added_at_cause script world (LossIsTold name packet) = []
added_at_cause script world (EntryIsRead entry) = []
added_at_cause script world (EntryIsPut entry) = []
added_at_cause script world RecoveryTicks = []
added_at_cause script world WorkIsRetried = []
added_at_cause script world (ClientAsks req ask) = []

-- what a reply of a step adds, by the request and what it is told
abbrev pub added_by_reply : List Statement → World → NodeCause → ℕ × GuestRsp → List HistEvent
added_by_reply script world cause reply = reply_grown script (world_at_cause world cause) (check_write_at world cause) reply

-- how a history grows in a change of a moment on the way of an event that began in a world, where the log is this one behind the change
pub data HistoryGrows (script : List Statement) (world : World) (log : List Entry) (history : List HistEvent) : List HistEvent
    → Type 0 where
  NothingIsAdded : log ≡ world.log → HistoryGrows script world log history history
  -- a step begins, and with it writes
  WritesBegin : (cause : NodeCause) → log ≡ world.log → HistoryGrows script world log history (history ++ added_at_cause script world cause)
  -- a request is replied to. Replies stand by request, so it may come before others of the same step, which end other requests
  RequestIsReplied : (cause : NodeCause) (reply : ℕ × GuestRsp) (front back : List HistEvent) → log ≡ world.log → history ≡ front ++ back
      → list_all (λ (one : HistEvent). list_all (are_apart one) back) (added_by_reply script world cause reply) ≡ true
      → HistoryGrows script world log history (front ++ added_by_reply script world cause reply ++ back)
  -- the log gets an entry
  EntryAdds : (entry : Entry) → log ≡ world.log ++ entry ∷ []
      → HistoryGrows script world log history (history ++ entry_adds world.log entry)
  -- a node is lost, and leaves its writers without reply
  WritersAreLost : (n : ℕ) (host : Host) → log ≡ world.log
      → HistoryGrows script world log history (history ++ writers_lost script world n (Some host))
