-- The steps of a recovery beside its tick: it begins, and a message of it is answered or lost.
use Rattle.std.specs.Prelude.{ℕ, ◌==◌, true, not, List, [], ◌∷◌, ◌++◌, filter, Option, None, Some, if◌then◌else◌}
use Rattle.std.specs.Option.{option_map_or}
use Rattle.std.specs.FinMap as tree
use Rattle.object_id.specs.declared.node.NodeId.{NodeId}
use Rattle.object_store.specs.declared.row.RowCopy.{RowCopy}
use Rattle.object_list.specs.Union.{union}
use Rattle.object_list.specs.Gathered.{gathered_of_none, gathered_with_answer}
use Rattle.peer_proto.specs.declared.ask.PeerAsk.{PeerAsk}
use Rattle.peer_proto.specs.declared.ask.PeerAsk.TheVariants as asks
use Rattle.peer_proto.specs.declared.say.PeerSay.{PeerSay}
use Rattle.peer_proto.specs.declared.say.PeerSay.TheVariants as says
use Rattle.peer_proto.specs.declared.say.PeerRsp.{PeerRsp}
use Rattle.recovery.specs.Shown.{is_to_recover, shown_with_unfinished_list, shown_with_pending}
use Rattle.recovery.specs.State.{Message, Search, RecoveryState, search_on, all_unanswered, is_listed, has_number, message_of}
use Rattle.recovery.specs.Level.{searching}

-- what is to be recovered, of the objects that were named and of those that the node has rows of
abbrev pub to_recover : RecoveryState → List ℕ
to_recover state =
    filter (is_to_recover state.recovery.me state.recovery.epoch state.shown)
    (union state.recovery.lists.objects (tree.keys state.shown.rows))

-- where every other member has named its objects, it is known what is pending
abbrev pub when_listed : RecoveryState → RecoveryState
when_listed state =
    if is_listed state.recovery then record state { shown = shown_with_pending (to_recover state) state.shown } else state

-- a recovery at its start: nobody has named its objects. Of an older one only the unanswered messages stay
abbrev pub at_start : ℕ → List NodeId → RecoveryState → RecoveryState
at_start epoch members state = record {
  recovery = record {
    me = state.recovery.me;
    epoch = epoch;
    members = members;
    lists = gathered_of_none state.recovery.me members;
    missing = [];
    search = None;
    unanswered = [];
    older = all_unanswered state.recovery;
  };
  shown = shown_with_unfinished_list state.shown;
}

-- the recovery of an epoch begins, and an older one ends
unfoldable pub recovery_from_epoch : ℕ → List NodeId → RecoveryState → RecoveryState
recovery_from_epoch epoch members state = when_listed (at_start epoch members state)

-- the messages but for the one of a number
abbrev pub messages_without : ℕ → List Message → List Message
messages_without number messages = filter (λ message. not (has_number number message)) messages

-- a message is unanswered no more
abbrev pub without_unanswered : ℕ → RecoveryState → RecoveryState
without_unanswered number state = record state {
  recovery = record state.recovery {
    unanswered = messages_without number state.recovery.unanswered;
    older = messages_without number state.recovery.older;
  };
}

-- a node named its objects
abbrev pub with_list_of : NodeId → List ℕ → RecoveryState → RecoveryState
with_list_of from oids state =
    when_listed (record state { recovery = record state.recovery { lists = gathered_with_answer from oids state.recovery.lists } })

-- what comes of a List: at a refusal or a loss the node is asked again
abbrev pub after_list : NodeId → Option PeerSay → RecoveryState → RecoveryState
after_list from None state = state
after_list from (Some says.Success) state = state
after_list from (Some (says.Piece bytes)) state = state
after_list from (Some (says.Objects oids)) state = with_list_of from oids state
after_list from (Some (says.Row row)) state = state
after_list from (Some says.NoRow) state = state
after_list from (Some (says.Refused refusal)) state = state

-- one answer more
abbrev pub with_answer : NodeId → Option RowCopy → Search → Search
with_answer from row search = record search { answers = search.answers ++ record { from = from; row = row } ∷ [] }

-- the level is to be asked anew
abbrev pub search_asked_again : Search → Search
search_asked_again search = record search { again = true }

-- what a search knows after a RecoverRead: the node's row, or that it has none; at a refusal or a loss the level is asked anew
abbrev pub search_after_answer : NodeId → Option PeerSay → Search → Search
search_after_answer from None search = search_asked_again search
search_after_answer from (Some says.Success) search = search
search_after_answer from (Some (says.Piece bytes)) search = search
search_after_answer from (Some (says.Objects oids)) search = search
search_after_answer from (Some (says.Row row)) search = with_answer from (Some row) search
search_after_answer from (Some says.NoRow) search = with_answer from None search
search_after_answer from (Some (says.Refused refusal)) search = search_asked_again search

-- an answer counts in the search for its object, if that goes on
abbrev pub after_read : ℕ → NodeId → Option PeerSay → Option Search → RecoveryState → RecoveryState
after_read oid from said None state = state
after_read oid from said (Some search) state =
    if search.oid == oid then searching (search_after_answer from said search) state else state

-- what comes of a message goes to what sent it: the lists, or the search that goes on
abbrev pub after_ask : PeerAsk → NodeId → Option PeerSay → RecoveryState → RecoveryState
after_ask (asks.Create key size offset bytes) from said state = state
after_ask (asks.Write key offset bytes) from said state = state
after_ask (asks.Read key offset size) from said state = state
after_ask asks.List from said state = after_list from said state
after_ask (asks.RecoverRead oid level) from said state = after_read oid from said (search_on state) state

-- a message has ended, answered or lost; of one of an older recovery nothing comes
abbrev pub message_end : ℕ → Option PeerSay → RecoveryState → RecoveryState
message_end number said state =
    option_map_or
    (λ (message : Message). after_ask message.request.ask message.to said (without_unanswered number state))
    (message_of number state.recovery.unanswered)
    (without_unanswered number state)

-- a message is answered
unfoldable pub recovery_on_reply : PeerRsp → RecoveryState → RecoveryState
recovery_on_reply rsp state = message_end rsp.number (Some rsp.say) state

-- a message is lost
unfoldable pub recovery_on_loss : ℕ → RecoveryState → RecoveryState
recovery_on_loss number state = message_end number None state
