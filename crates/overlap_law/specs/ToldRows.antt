-- What nodes told to a recovery: their objects, and their rows at a level.
use Rattle.std.specs.Prelude.{◌≡◌, ◌≢◌, ◌⊎◌, ℕ, nat_lt, min, true, false, List, slice_get, Option, Some, None, if◌then◌else◌}
use Rattle.object_id.specs.declared.node.NodeId.{NodeId}
use Rattle.object_id.specs.declared.node.Epoch.{Epoch}
use Rattle.object_store.specs.declared.row.RowCopy.{RowCopy}
use Rattle.object_list.specs.Gathered.{has_node}
use Rattle.peer_proto.specs.declared.ask.PeerAsk.TheVariants as asks
use Rattle.peer_proto.specs.declared.say.PeerSay.TheVariants as says
use Rattle.peer_proto.specs.declared.say.PeerRsp.{PeerRsp}
use Rattle.peer_service.specs.Serve.{row_or_none}
use Rattle.recovery.specs.declared.search.RowAnswer.{RowAnswer}
use Rattle.recovery.specs.State.{Message, Search, Recovery, all_unanswered}
use Rattle.message_wire.specs.Message.{message_name}
use Rattle.sheep_node.specs.State.{Node}
use Rattle.overlap_law.specs.Packets.{Wire, IsAnswering}

-- a node's list of its objects is on its way to a recovery of a node, which asked for it in this epoch
pub record IsListUnderWay (wire : Wire) (n : ℕ) (recovery : Recovery) (from : NodeId) (epoch : ℕ) (oids : List ℕ) : Type 0 where
  pub place : ℕ
  pub message : Message
  pub reply : PeerRsp
  pub unanswered : slice_get (all_unanswered recovery) place ≡ Some message
  pub asked : message.request.ask ≡ asks.List
  pub of_epoch : message.request.epoch.0 ≡ epoch
  pub answering : IsAnswering wire (message_name n message.request.number) from reply
  pub said : reply.say ≡ says.Objects oids

-- a recovery has a node's objects among its own: it doesn't wait for the node
pub record IsListJoined (recovery : Recovery) (from : NodeId) (oids : List ℕ) : Type 0 where
  pub member : has_node from recovery.members ≡ true
  pub other : from.0 ≢ recovery.me.0
  pub answered : has_node from recovery.lists.waiting ≡ false
  pub joined : recovery.lists.objects ≡ oids

-- a node told these objects to a recovery
abbrev pub ToldObjects : Wire → ℕ → Recovery → NodeId → List ℕ → Type 0
ToldObjects wire n recovery from oids = IsListUnderWay wire n recovery from recovery.epoch oids ⊎ IsListJoined recovery from oids

-- a node's row of an object at a level, or that it has none, is on its way to a node's recovery; what is on its way to an older one
-- is never used
pub record IsRowUnderWay (wire : Wire) (n : ℕ) (recovery : Recovery) (from : NodeId) (epoch oid level : ℕ) (row : Option RowCopy) : Type 0
  where
    pub place : ℕ
    pub message : Message
    pub reply : PeerRsp
    pub unanswered : slice_get recovery.unanswered place ≡ Some message
    pub asked : message.request.ask ≡ asks.RecoverRead oid (record { 0 = level })
    pub of_epoch : message.request.epoch.0 ≡ epoch
    pub answering : IsAnswering wire (message_name n message.request.number) from reply
    pub said : reply.say ≡ row_or_none row

-- the recovery's search keeps it, for the level that it is at
pub record IsRowKept (node : Node) (from : NodeId) (epoch oid level : ℕ) (row : Option RowCopy) : Type 0 where
  pub search : Search
  pub place : ℕ
  pub answer : RowAnswer
  pub there : node.recovery.search ≡ Some search
  pub among : slice_get search.answers place ≡ Some answer
  pub from_it : answer.from ≡ from
  pub told : answer.row ≡ row
  pub of_epoch : node.recovery.epoch ≡ epoch
  pub of_object : search.oid ≡ oid
  pub of_level : search.level ≡ level

-- a node told to a node's recovery, that of an epoch, its row of an object at a level, or that it has none
abbrev pub ToldRow : Wire → ℕ → Node → NodeId → ℕ → ℕ → ℕ → Option RowCopy → Type 0
ToldRow wire n node from epoch oid level row =
    IsRowUnderWay wire n node.recovery from epoch oid level row ⊎ IsRowKept node from epoch oid level row

-- where a row that was told to a recovery ends: before its epoch, or with it
abbrev pub end_told : ℕ → Option Epoch → ℕ
end_told epoch None = epoch
end_told epoch (Some to) = min to.0 epoch

-- up to which epoch such a row owes what its node served: to its end where that is before the recovery's epoch, and else not at all
abbrev pub served_told : ℕ → Option Epoch → ℕ
served_told epoch None = 0
served_told epoch (Some to) = if nat_lt to.0 epoch then to.0 else 0
