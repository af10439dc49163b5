-- Which replies fit what was asked.
use Rattle.std.specs.Prelude.{ℕ, Bool, true, false, Option, Some, None}
use Rattle.object_store.specs.declared.row.RowCopy.{RowCopy}
use Rattle.peer_proto.specs.declared.ask.PeerAsk.{PeerAsk}
use Rattle.peer_proto.specs.declared.ask.PeerAsk.TheVariants as asks
use Rattle.peer_proto.specs.declared.say.PeerSay.{PeerSay}
use Rattle.peer_proto.specs.declared.say.PeerSay.TheVariants as says
use Rattle.peer_proto.specs.declared.say.PeerRsp.{PeerRsp}
use Rattle.recovery.specs.Shown.{NodeView, is_asked_row}
use Rattle.recovery.specs.State.{Message, RecoveryState, all_unanswered, message_of}

-- whether a request asks for a list
abbrev pub is_list : PeerAsk → Bool
is_list (asks.Create key size offset bytes) = false
is_list (asks.Write key offset bytes) = false
is_list (asks.Read key offset size) = false
is_list asks.List = true
is_list (asks.RecoverRead oid level) = false

-- whether a request asks for a row
abbrev pub is_recover_read : PeerAsk → Bool
is_recover_read (asks.Create key size offset bytes) = false
is_recover_read (asks.Write key offset bytes) = false
is_recover_read (asks.Read key offset size) = false
is_recover_read asks.List = false
is_recover_read (asks.RecoverRead oid level) = true

-- whether a row is one that was asked for
abbrev pub fits_row : NodeView → ℕ → PeerAsk → RowCopy → Bool
fits_row shown wanted (asks.Create key size offset bytes) row = false
fits_row shown wanted (asks.Write key offset bytes) row = false
fits_row shown wanted (asks.Read key offset size) row = false
fits_row shown wanted asks.List row = false
fits_row shown wanted (asks.RecoverRead oid level) row = is_asked_row level.0 wanted (shown.size_of oid) row

-- whether a node may say this to a message: a refusal; objects to a List; to a RecoverRead such a row as it asks for, or that there is none
abbrev pub fits_message : NodeView → Option Message → PeerSay → Bool
fits_message shown None say = false
fits_message shown (Some message) says.Success = false
fits_message shown (Some message) (says.Piece bytes) = false
fits_message shown (Some message) (says.Objects oids) = is_list message.request.ask
fits_message shown (Some message) (says.Row row) = fits_row shown message.wanted message.request.ask row
fits_message shown (Some message) says.NoRow = is_recover_read message.request.ask
fits_message shown (Some message) (says.Refused refusal) = true

-- whether a reply answers an unanswered message of this node's recoveries, and fits what that asked
abbrev pub fits_recovery : PeerRsp → RecoveryState → Bool
fits_recovery rsp state = fits_message state.shown (message_of rsp.number (all_unanswered state.recovery)) rsp.say
