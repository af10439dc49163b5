-- A request that may begin a work meets what the gateway asks for, and what comes of it can be gone on with.
use Rattle.std.proofs.Common.{◌≡◌, ℕ, ◌-◌, ◌<◌, ◌≤◌, ◌^◌, nat_lt, Bool, true, false, ◌&&◌, cond, List, [], ◌∷◌, ◌++◌, All, Contains, map, refl, ap, ◌∙◌}
use native.Mathlib.Omega.{arith}
use Rattle.std.specs.Prelude.{IsTrue}
use Rattle.std.specs.List.{list_all, flat_map}
use Rattle.std.specs.FinMap as tree
use Rattle.std.proofs.lemmas.Bool.{lt-ltb}
use Rattle.std.proofs.lemmas.List.{length-map}
use Rattle.std.proofs.lemmas.List.Elements.{All-head, All-tail}
use Rattle.proof_tools.proofs.FiniteMaps.{get-entry, get-remove_same}
use Rattle.proof_tools.proofs.Lists.{Contains-first, Contains-cons}
use Rattle.object_id.specs.declared.limits.TheConstants.{NODES_MAX}
use Rattle.object_id.specs.declared.node.Epoch.{Epoch}
use Rattle.peer_proto.specs.Work.{IsWork}
use Rattle.peer_proto.specs.declared.work.ObjWork.{ObjWork}
use Rattle.gateway.specs.declared.message.Message.{Message}
use Rattle.object_id.specs.declared.cause.Cause.TheVariants.{Halt}
use Rattle.hash_ring.specs.Placement.{zone_count}
use Rattle.vnode_table.specs.Epochs.{is_entered, members_at}
use Rattle.peer_proto.specs.declared.work.ObjWork.TheVariants.{Create, Write, Read, ReadAll}
use Rattle.gateway.specs.Attempt.{send_of}
use Rattle.gateway.specs.Work.{zones_for}
use Rattle.gateway.specs.State.{Work, Ended, WaitsForMembers, open_messages, is_touched, MaySend}
use Rattle.gateway.specs.Step.{GatewayStep, with_work, waiting_step, refusal_step, halt_step, open_step, attempt_step, start_step}
use Rattle.sheep_node.specs.Changes.{attempt_in}
use Rattle.guest_driver.specs.InodeQueue.{may_open_work, queue_with_open, queue_with_waiting}
use Rattle.sheep_node.specs.StepState.{StepState, session_in, with_inode_queue}
use Rattle.sheep_node.specs.RequestWorks.{start_of, work_begun, work_asked}
use Rattle.sheep_node.specs.ValidDisks.{WorkHasPolicy}
use Rattle.sheep_node.proofs.MessageCounts.{attempt_few}
use Rattle.sheep_node.specs.State.{Node}
use Rattle.sheep_node.specs.GivenNumbers.{HasNumbersBelow, NumbersWereGiven}
use Rattle.sheep_node.specs.MayBegin.{MayBeginWork, MayBeFollowed}

all_below : (count : ℕ) (messages : List Message) → All (λ (message : Message). message.number < count) messages → (later : List ℕ)
    → list_all (λ number. nat_lt number count) later ≡ true
    → list_all (λ number. nat_lt number count) (map (λ (message : Message). message.number) messages ++ later) ≡ true
all_below count [] all later rest = rest
all_below count (message ∷ messages) all later rest =
    let here : nat_lt message.number count ≡ true
    = lt-ltb message.number count (All-head (λ (message : Message). message.number < count) message messages all) in
    ap (λ (b : Bool). b && list_all (λ number. nat_lt number count) (map (λ (message : Message). message.number) messages ++ later)) here
    ∙ all_below count messages (All-tail (λ (message : Message). message.number < count) message messages all) later rest

abbrev numbers_of : ℕ × Work → List ℕ
numbers_of entry = map (λ (message : Message). message.number) (open_messages entry.1.stage)

entries_below : (count : ℕ) (entries : List (ℕ × Work)) → ((entry : ℕ × Work) → Contains entries entry → HasNumbersBelow count entry.1)
    → list_all (λ number. nat_lt number count) (flat_map numbers_of entries) ≡ true
entries_below count [] all = refl
entries_below count (entry ∷ entries) all =
    all_below count (open_messages entry.1.stage) (all entry (Contains-first entry entry entries refl)) (flat_map numbers_of entries)
    (entries_below count entries (λ other there. all other (Contains-cons entry entries other there)))

-- an attempt may be sent in the node's epoch, where that was entered, and there are numbers for its messages
pub may_send : (node : Node) → IsTrue (is_entered node.epochs node.peer.epoch) → NumbersWereGiven node → node.sends ≤ 2 ^ 32 - NODES_MAX
    → MaySend node.gateway node.epochs node.sends (record { 0 = node.peer.epoch })
may_send node entered given room = record {
  entered = entered;
  room = room;
  numbers = entries_below node.sends (tree.entries node.gateway.works)
      (λ entry there. given entry.0 entry.1 (get-entry node.gateway.works entry there));
}

pub may_send_here : (req : ℕ) (work : ObjWork) (node : Node) → MayBeginWork req work node → node.sends ≤ 2 ^ 32 - NODES_MAX
    → MaySend node.gateway node.epochs node.sends (record { 0 = node.peer.epoch })
may_send_here req work node may room = may_send node may.entered may.given room

-- ---- what a start comes to

has_policy : (work : ObjWork) → IsWork work → WorkHasPolicy work
has_policy (Create oid policy size offset bytes) is = is.0
has_policy (Write oid policy offset bytes) is = is.0
has_policy (Read oid policy offset size) is = is.0
has_policy (ReadAll oid policy size) is = is.0

pub start_follows : (req : ℕ) (work : ObjWork) (node : Node) → MayBeginWork req work node → node.sends ≤ 2 ^ 32 - NODES_MAX
    → MayBeFollowed (start_of req work node).act (record node { gateway = (start_of req work node).gateway })
unfolding start_step attempt_step
start_follows req work node may room =
    by_zones (nat_lt (zone_count (members_at node.epochs node.peer.epoch)) (zones_for work))
  where
    begun : Work
    begun = record { work = work; ended = 0; stage = Ended }

    epoch : Epoch
    epoch = record { 0 = node.peer.epoch }

    Follows : GatewayStep → Type 0
    Follows step = MayBeFollowed step.act (record node { gateway = step.gateway })

    halted : (touched : Bool) → Follows (cond touched
        (waiting_step (with_work req (record begun { stage = WaitsForMembers epoch }) node.gateway))
        (refusal_step node.gateway req work (Halt (zone_count (members_at node.epochs node.peer.epoch)) (zones_for work))))
    halted true = tt
    halted false = get-remove_same node.gateway.works req

    opened : Follows (open_step node.gateway req begun (attempt_in begun node))
    opened =
        let few = attempt_few begun node (has_policy work may.is_work) in
        let same = length-map (attempt_in begun node).messages (send_of node.gateway.me epoch work) in
        omega (arith, few, same, room)

    by_zones : (few : Bool) → Follows (cond few
        (halt_step node.gateway req begun epoch (zone_count (members_at node.epochs node.peer.epoch)))
        (open_step node.gateway req begun (attempt_in begun node)))
    by_zones true = halted (is_touched req node.gateway)
    by_zones false = opened

-- ---- a request comes to a work

module _ (number req : ℕ) (work : ObjWork) (so_far : StepState) where
  pub asked_at_once : may_open_work (session_in number so_far).inode_queue work ≡ true
      → work_asked number req work so_far
      ≡ work_begun number req work (with_inode_queue number (queue_with_open (session_in number so_far).inode_queue req work) so_far)
  unfolding work_asked
  asked_at_once is =
      ap (λ (b : Bool). cond b
      (work_begun number req work (with_inode_queue number (queue_with_open (session_in number so_far).inode_queue req work) so_far))
      (with_inode_queue number (queue_with_waiting (session_in number so_far).inode_queue req work) so_far)) is

  pub asked_in_turn : may_open_work (session_in number so_far).inode_queue work ≡ false
      → work_asked number req work so_far
      ≡ with_inode_queue number (queue_with_waiting (session_in number so_far).inode_queue req work) so_far
  unfolding work_asked
  asked_in_turn is =
      ap (λ (b : Bool). cond b
      (work_begun number req work (with_inode_queue number (queue_with_open (session_in number so_far).inode_queue req work) so_far))
      (with_inode_queue number (queue_with_waiting (session_in number so_far).inode_queue req work) so_far)) is
