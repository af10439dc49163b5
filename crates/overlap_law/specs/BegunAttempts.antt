-- The attempts of a run after one event more: those that a step began, and the fates that it told.
use Rattle.std.specs.Prelude.{ℕ, List, [], ◌++◌, Option, Some, None}
use Rattle.std.specs.Option.{option_map_or}
use Rattle.cluster_script.specs.declared.statement.Statement.{Statement}
use Rattle.cluster_script.specs.Sessions.{ScriptSession, session_numbered}
use Rattle.peer_proto.specs.declared.say.PeerRsp.{PeerRsp}
use Rattle.sheep_node.specs.declared.event.Event.{Event}
use Rattle.sheep_node.specs.declared.event.Event.TheVariants.{Guest, Deliver, LoseRequest, LoseReply, LogNext, Put, RecoverTick, RetryTick}
use Rattle.sheep_node.specs.declared.event.Event.TheVariants.{Lost, Leave, Join, Reweight, Back, Phase}
use Rattle.message_wire.specs.declared.name.MessageName.{MessageName}
use Rattle.message_wire.specs.declared.packet.Packet.{Packet}
use Rattle.message_wire.specs.declared.packet.Packet.TheVariants.{Request, Reply}
use Rattle.sheep_world.specs.World.{Host, World, host_at, message_at}
use Rattle.overlap_law.specs.Attempts.{AttemptRecord, Flying, Doomed, fate_of_say, attempts_with_fate, attempts_begun_by}

-- the attempts that the step of a node between two worlds began
abbrev pub attempts_begun_in : Option Host → Option Host → List AttemptRecord
attempts_begun_in None new = []
attempts_begun_in (Some old) None = []
attempts_begun_in (Some old) (Some new) = attempts_begun_by old new

-- the attempts that the step of the node of a number began
abbrev pub attempts_begun : ℕ → World → World → List AttemptRecord
attempts_begun node old new = attempts_begun_in (host_at node old) (host_at node new)

-- a message is delivered: a request's fate is told by the step that serves it, and a reply may begin attempts at the node
-- that asked
abbrev pub attempts_after_delivery : Option Packet → MessageName → World → World → List AttemptRecord → List AttemptRecord
attempts_after_delivery None name old new attempts = attempts
attempts_after_delivery (Some (Request to bytes)) name old new attempts =
    attempts_with_fate (option_map_or (λ (rsp : PeerRsp). fate_of_say rsp.say) new.outputs.say Flying) name.sender name.number attempts
attempts_after_delivery (Some (Reply from bytes)) name old new attempts = attempts ++ attempts_begun name.sender.0 old new

-- the attempts after an event, which leads from one world to another
unfoldable pub attempts_after : List Statement → Event → World → World → List AttemptRecord → List AttemptRecord
attempts_after script (Guest session) old new attempts =
    attempts
    ++ option_map_or (λ (asking : ScriptSession). attempts_begun asking.node old new) (session_numbered script session) []
attempts_after script (Deliver node number) old new attempts =
    attempts_after_delivery (message_at (record { sender = node; number = number }) old) (record {
      sender = node;
      number = number;
    }) old new attempts
attempts_after script (LoseRequest node number) old new attempts = attempts_with_fate Doomed node number attempts
    ++ attempts_begun node.0 old new
attempts_after script (LoseReply node number) old new attempts = attempts ++ attempts_begun node.0 old new
attempts_after script (LogNext node) old new attempts = attempts ++ attempts_begun node.0 old new
attempts_after script (Put node) old new attempts = attempts
attempts_after script (RecoverTick node) old new attempts = attempts
attempts_after script (RetryTick node) old new attempts = attempts ++ attempts_begun node.0 old new
attempts_after script (Lost node) old new attempts = attempts
attempts_after script (Leave node) old new attempts = attempts
attempts_after script (Join node) old new attempts = attempts
attempts_after script (Reweight node) old new attempts = attempts
attempts_after script (Back node) old new attempts = attempts
attempts_after script Phase old new attempts = attempts
