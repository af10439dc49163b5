-- What a gateway is, and what it answers about itself.
use Rattle.std.specs.Prelude.{ℕ, ◌-◌, ◌^◌, ◌≤◌, nat_lt, Bool, true, false, not, List, [], length, map, flat_map, Option, Some, None}
use Rattle.std.specs.Prelude.{IsTrue, is_some}
use Rattle.std.specs.List.{find, list_any, list_all}
use Rattle.std.specs.Ordering.{nat_cmp}
use Rattle.std.specs.FinMap as tree
use Rattle.std.specs.FinSet as set
use Rattle.object_id.specs.declared.limits.TheConstants.{NODES_MAX}
use Rattle.object_id.specs.declared.node.Epoch.{Epoch}
use Rattle.object_id.specs.declared.node.NodeId.{NodeId}
use Rattle.vnode_table.specs.Epochs.{EpochMembers, is_entered}
use Rattle.peer_proto.specs.declared.work.ObjWork.{ObjWork}
use Rattle.peer_proto.specs.declared.say.PeerSay.{PeerSay}
use Rattle.peer_proto.specs.declared.say.PeerSay.TheVariants as says
use Rattle.peer_proto.specs.declared.say.PeerRsp.{PeerRsp}
use Rattle.gateway.specs.declared.message.Message.{Message}
use Rattle.peer_proto.specs.Work.{IsWork}
use Rattle.gateway.specs.Work.{is_making, is_piece}
use Rattle.gateway.specs.Attempt.{Attempt, is_awaited_message}

-- where a work stands
pub data WorkStage : Type 0 where
  -- its last attempt is open
  Open : Attempt → WorkStage
  -- its last attempt, if it had one, has ended
  Ended : WorkStage
  -- its next attempt could not begin in this epoch, for want of members
  WaitsForMembers : Epoch → WorkStage

-- a work that isn't done: what it is, how many of its attempts have ended, and where it stands
pub record Work : Type 0 where
  pub work : ObjWork
  pub ended : ℕ
  pub stage : WorkStage

-- the open works by the numbers of their requests, at most one of each, and the requests that are touched
pub record Gateway : Type 0 where
  pub me : NodeId
  pub tries : ℕ
  pub works : tree.FinMap nat_cmp Work
  pub touched : set.FinSet nat_cmp

-- before the first work
abbrev pub initial_gateway : NodeId → ℕ → Gateway
initial_gateway me tries = record { me = me; tries = tries; works = tree.empty; touched = set.empty }

-- whether a request is touched: a create or write message of it succeeded or was lost
abbrev pub is_touched : ℕ → Gateway → Bool
is_touched req gateway = set.contains gateway.touched req

-- whether a work of the request is open
abbrev pub has_work : ℕ → Gateway → Bool
has_work req gateway = tree.contains_key gateway.works req

-- the messages of a work's open attempt
abbrev pub open_messages : WorkStage → List Message
open_messages (Open attempt) = attempt.messages
open_messages Ended = []
open_messages (WaitsForMembers epoch) = []

-- whether the message of this number is an unanswered one of the work
abbrev pub is_awaited_in : ℕ → Work → Bool
is_awaited_in number work = list_any (is_awaited_message number) (open_messages work.stage)

-- the request, with its work, that the unanswered message of this number belongs to
abbrev pub asker : ℕ → Gateway → Option (ℕ × Work)
asker number gateway = find (λ (entry : ℕ × Work). is_awaited_in number entry.1) (tree.entries gateway.works)

-- whether the message of this number is unanswered here
abbrev pub gateway_awaits : ℕ → Gateway → Bool
gateway_awaits number gateway = is_some (asker number gateway)

-- whether a node may say this to a message of the work: a refusal, a success to a create or write, a piece as long as
-- a read asks for
abbrev pub fits_work : ObjWork → PeerSay → Bool
fits_work work says.Success = is_making work
fits_work work (says.Piece bytes) = is_piece work (length bytes)
fits_work work (says.Objects oids) = false
fits_work work (says.Row row) = false
fits_work work says.NoRow = false
fits_work work (says.Refused refusal) = true

-- whether a message belongs to a work's request, and a reply fits that
abbrev pub fits_asker : Option (ℕ × Work) → PeerSay → Bool
fits_asker None say = false
fits_asker (Some found) say = fits_work found.1.work say

-- whether a reply answers an unanswered message of this gateway, and fits what that asked
abbrev pub fits_gateway : PeerRsp → Gateway → Bool
fits_gateway rsp gateway = fits_asker (asker rsp.number gateway) rsp.say

-- whether a work may be tried in an epoch: its last attempt has ended, and where members were wanting, the epoch is later
abbrev pub may_try : Epoch → WorkStage → Bool
may_try epoch (Open attempt) = false
may_try epoch Ended = true
may_try epoch (WaitsForMembers since) = nat_lt since.0 epoch.0

-- of the works that may be tried in an epoch that of the smallest request
abbrev pub next_try : Epoch → Gateway → Option (ℕ × Work)
next_try epoch gateway = find (λ (entry : ℕ × Work). may_try epoch entry.1.stage) (tree.entries gateway.works)

-- whether there is one
abbrev pub can_retry : Epoch → Gateway → Bool
can_retry epoch gateway = is_some (next_try epoch gateway)

-- the numbers of the messages of all open attempts
abbrev pub open_numbers : Gateway → List ℕ
open_numbers gateway =
    flat_map
    (λ (entry : ℕ × Work). map (λ (message : Message). message.number) (open_messages entry.1.stage))
    (tree.entries gateway.works)

-- what an attempt needs to begin: an epoch that was entered, and numbers above those of all open attempts
pub record MaySend (gateway : Gateway) (epochs : List EpochMembers) (first : ℕ) (epoch : Epoch) : Type 0 where
  pub entered : IsTrue (is_entered epochs epoch.0)
  pub room : first ≤ 2 ^ 32 - NODES_MAX
  pub numbers : IsTrue (list_all (λ number. nat_lt number first) (open_numbers gateway))

-- what a start needs besides: a work that meets its conditions, of a request with none open
pub record MayStart (gateway : Gateway) (req : ℕ) (work : ObjWork) : Type 0 where
  pub first_one : IsTrue (not (has_work req gateway))
  pub is_work : IsWork work
