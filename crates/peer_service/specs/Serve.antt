-- The answer to a peer's request, and what it leaves.
use Rattle.std.specs.Prelude.{ℕ, ◌+◌, ◌≤◌, Bool, true, false, nat_le, List, length, Option, None, Some, Result, Ok, Err, if◌then◌else◌}
use Rattle.std.specs.FinMap as tree
use Rattle.object_store.specs.declared.fault.StoreFault.{StoreFault}
use Rattle.object_store.specs.declared.row.RowCopy.{RowCopy}
use Rattle.object_store.specs.Store.{AllRows, SeenRow, open_row, read_at, write_at, copy_at}
use Rattle.peer_proto.specs.declared.ask.PeerAsk.{PeerAsk}
use Rattle.peer_proto.specs.declared.ask.PeerAsk.TheVariants as asks
use Rattle.peer_proto.specs.declared.ask.PeerReq.{PeerReq}
use Rattle.peer_proto.specs.declared.say.Refusal.{Refusal}
use Rattle.peer_proto.specs.declared.say.Refusal.TheVariants as refusals
use Rattle.peer_proto.specs.declared.say.PeerSay.{PeerSay}
use Rattle.peer_proto.specs.declared.say.PeerSay.TheVariants as says
use Rattle.peer_proto.specs.declared.say.PeerRsp.{PeerRsp}
use Rattle.peer_service.specs.State.{Peer, is_waiting}
use Rattle.peer_service.specs.Pending.{row_made}
use Rattle.peer_service.specs.Fence.{epoch_refusal}

-- what a request leaves of the peer, and what the peer says to it
pub record PeerStep : Type 0 where
  pub peer : Peer
  pub say : PeerSay

-- a request is refused, and changes nothing
abbrev pub peer_refusal_step : Refusal → Peer → PeerStep
peer_refusal_step refusal peer = record { peer = peer; say = says.Refused refusal }

-- a request is answered from what is there, and changes nothing
abbrev pub peer_say_step : PeerSay → Peer → PeerStep
peer_say_step say peer = record { peer = peer; say = say }

-- what a read gives; without an open row of its index it is refused
abbrev pub piece_or_refusal : Result (List ℕ) StoreFault → PeerSay
piece_or_refusal (Ok piece) = says.Piece piece
piece_or_refusal (Err fault) = says.Refused refusals.NoObj

-- a write leaves these rows; without an open row of its index it is refused
abbrev pub peer_write_step : Result AllRows StoreFault → Peer → PeerStep
peer_write_step (Ok rows) peer = record { peer = record peer { rows = rows }; say = says.Success }
peer_write_step (Err fault) peer = peer_refusal_step refusals.NoObj peer

-- a row that holds the level, or that there is none
abbrev pub row_or_none : Option RowCopy → PeerSay
row_or_none None = says.NoRow
row_or_none (Some row) = says.Row row

-- reads and writes are refused while their object is waited for
abbrev pub step_if_recovered : Bool → Peer → PeerStep → PeerStep
step_if_recovered waiting peer answer = if waiting then peer_refusal_step refusals.Recovery peer else answer

-- what a request of the node's own epoch leaves, and what is said to it
unfoldable pub own_epoch_step : PeerAsk → Peer → PeerStep
own_epoch_step (asks.Create key size offset bytes) peer = record { peer = row_made key size offset bytes peer; say = says.Success }
own_epoch_step (asks.Write key offset bytes) peer =
    step_if_recovered (is_waiting peer key.oid) peer (peer_write_step (write_at peer.rows key offset bytes) peer)
own_epoch_step (asks.Read key offset size) peer =
    step_if_recovered (is_waiting peer key.oid) peer (peer_say_step (piece_or_refusal (read_at peer.rows key offset size)) peer)
own_epoch_step asks.List peer = peer_say_step (says.Objects (tree.keys peer.rows)) peer
own_epoch_step (asks.RecoverRead oid level) peer = peer_say_step (row_or_none (copy_at peer.rows oid level.0)) peer

-- a request that the fence refuses is asked no further
abbrev pub step_behind_fence : Option Refusal → PeerAsk → Peer → PeerStep
step_behind_fence None ask peer = own_epoch_step ask peer
step_behind_fence (Some refusal) ask peer = peer_refusal_step refusal peer

-- a request is served: first by its epoch, then by what it asks
unfoldable pub peer_step : Peer → PeerReq → PeerStep
peer_step peer request = step_behind_fence (epoch_refusal peer.epoch request.epoch.0) request.ask peer

-- the reply has the request's number and the node's epoch
abbrev pub reply_to : Peer → PeerReq → PeerRsp
reply_to peer request =
    record { number = request.number; epoch = record { 0 = peer.epoch }; say = (peer_step peer request).say }

-- a piece ends inside an open row, where there is one
abbrev pub EndsInside : ℕ → Option SeenRow → Type 0
EndsInside end None = Unit {0}
EndsInside end (Some row) = end ≤ length row.bytes

-- what a request must meet: a created row holds its piece, and a read or written piece ends inside the open row of its key
abbrev pub MayServe : Peer → PeerAsk → Type 0
MayServe peer (asks.Create key size offset bytes) = offset + length bytes ≤ size
MayServe peer (asks.Write key offset bytes) = EndsInside (offset + length bytes) (open_row peer.rows key)
MayServe peer (asks.Read key offset size) = EndsInside (offset + size) (open_row peer.rows key)
MayServe peer asks.List = Unit {0}
MayServe peer (asks.RecoverRead oid level) = Unit {0}

-- whether a piece ends inside an open row, where there is one
abbrev pub ends_inside : ℕ → Option SeenRow → Bool
ends_inside end None = true
ends_inside end (Some row) = nat_le end (length row.bytes)

-- whether a request meets what it must
abbrev pub may_serve : Peer → PeerAsk → Bool
may_serve peer (asks.Create key size offset bytes) = nat_le (offset + length bytes) size
may_serve peer (asks.Write key offset bytes) = ends_inside (offset + length bytes) (open_row peer.rows key)
may_serve peer (asks.Read key offset size) = ends_inside (offset + size) (open_row peer.rows key)
may_serve peer asks.List = true
may_serve peer (asks.RecoverRead oid level) = true

-- whether an answer is a refusal
abbrev pub tells_refusal : PeerSay → Bool
tells_refusal (says.Refused refusal) = true
tells_refusal _ = false
