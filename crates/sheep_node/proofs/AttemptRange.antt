-- What an attempt of a work sends can be spelled, where the work is in range; and so can what a tick of a recovery sends.
use Rattle.std.proofs.Common.{◌≡◌, ℕ, ◌+◌, ◌-◌, ◌/◌, ◌%◌, ◌^◌, ◌<◌, ◌≤◌, Bool, true, false, List, [], ◌∷◌, length, map, drop, All}
use native.Mathlib.Omega.{arith}
use Rattle.std.specs.List.{enumerate_from}
use Rattle.std.proofs.lemmas.List.{length-map}
use Rattle.std.proofs.lemmas.List.FromFn.{length-enumerate_from}
use Rattle.std.proofs.lemmas.Bool.{leb-true}
use Rattle.std.proofs.lemmas.List.Elements.{All-nil, All-cons, All-head, All-tail, All-take, All-drop}
use Rattle.proof_tools.proofs.Booleans.{cond_either}
use Rattle.object_id.specs.Node.{IsNode}
use Rattle.object_id.specs.Oid.{kind_of}
use Rattle.object_id.specs.Policy.{IsPolicy}
use Rattle.object_id.specs.declared.node.Epoch.{Epoch}
use Rattle.object_id.specs.declared.node.NodeId.{NodeId}
use Rattle.object_id.specs.declared.oid.Kind.{Kind}
use Rattle.object_id.specs.declared.oid.Kind.TheVariants.{Block, Inode}
use Rattle.object_id.specs.declared.policy.Policy.{Policy}
use Rattle.object_id.specs.declared.policy.Policy.TheVariants.{Copies, Coded}
use Rattle.gf256.specs.Part.{IsAligned, part_size, part, is_in_strips, index_at}
use Rattle.gf256.proofs.Widths.{by_cases}
use Rattle.gf256.proofs.PartLaws.{length-part}
use Rattle.peer_proto.specs.Ask.{IsPeerAsk, IsPeerReq}
use Rattle.peer_proto.specs.Header.{IsEpoch}
use Rattle.peer_proto.specs.Work.{oid_of, policy_of, IsWork}
use Rattle.peer_proto.specs.declared.ask.PeerReq.{PeerReq}
use Rattle.peer_proto.specs.declared.work.ObjWork.{ObjWork}
use Rattle.peer_proto.specs.declared.work.ObjWork.TheVariants.{Create, Write, Read, ReadAll}
use Rattle.vnode_table.specs.Targets.{targets_in}
use Rattle.gateway.specs.Attempt.{message_for, send_of}
use Rattle.gateway.specs.State.{Work}
use Rattle.gateway.specs.Work.{read_from, targets_asked, ask_for}
use Rattle.gateway.proofs.AskingLemmas.{targets-most, policy_is}
use Rattle.recovery.proofs.RangeLemmas as ranges
use Rattle.sheep_node.specs.declared.input.Input.TheVariants as inputs
use Rattle.sheep_node.specs.declared.limits.TheConstants.{SENDS_MAX}
use Rattle.sheep_node.specs.State.{Node}
use Rattle.sheep_node.specs.RecoveryRange.{RecoversInRange}
use Rattle.sheep_node.specs.RecoveryView.{recovery_state_of}
use Rattle.sheep_node.specs.StepState.{StepState, at_first}
use Rattle.sheep_node.specs.May.{has_numbers, may_tick}
use Rattle.sheep_node.specs.Step as steps
use Rattle.sheep_node.specs.Step.{on_input, is_due, with_recovered, recovered_put, node_step}
use Rattle.sheep_node.specs.Changes.{attempt_in}
use Rattle.sheep_node.proofs.MessageCounts.{attempt_few}
use Rattle.sheep_node.specs.WorkRange.{IsWorkInRange}

-- ---- what is asked of one node

part_less : (policy : Policy) (kind : Kind) (n : ℕ) → IsPolicy policy → part_size policy kind n ≤ n
part_less (Copies copies) kind n is = omega arith
part_less (Coded d p) Block n is = by_cases (λ (d : ℕ). n / d ≤ n) (omega arith) (omega arith) (omega arith) (omega arith) d is.0
part_less (Coded d p) Inode n is = omega arith

part_short : (policy : Policy) (kind : Kind) (index : ℕ) (bytes : List ℕ) → IsPolicy policy → IsAligned policy kind (length bytes)
    → length (part policy kind index bytes) ≤ length bytes
part_short policy kind index bytes is whole =
    let same = length-part policy kind index bytes is whole in
    let less = part_less policy kind (length bytes) is in
    omega (arith, same, less)

asked_in_range : (work : ObjWork) (index : ℕ) → IsWorkInRange work → index ≤ 30 → IsPeerAsk (ask_for work index)
asked_in_range (Create oid policy size offset bytes) index range low =
    let within : offset + length bytes ≤ size = range.is_work.1 in
    let small : size < 2 ^ 32 = range.size in
    let whole = part_less policy (kind_of oid) size range.is_work.0 in
    let from = part_less policy (kind_of oid) offset range.is_work.0 in
    let short = part_short policy (kind_of oid) index bytes range.is_work.0 range.is_work.2.1 in
    (range.oid, low, omega (arith, small, whole), omega (arith, within, small, from), omega (arith, within, small, short))
asked_in_range (Write oid policy offset bytes) index range low =
    let within : offset + length bytes ≤ 2 ^ 24 = range.is_work.1 in
    let from = part_less policy (kind_of oid) offset range.is_work.0 in
    let short = part_short policy (kind_of oid) index bytes range.is_work.0 range.is_work.2.1 in
    (range.oid, low, omega (arith, within, from), omega (arith, within, short))
asked_in_range (Read oid policy offset size) index range low =
    let within : offset + size ≤ 2 ^ 24 = range.is_work.1 in
    let from = part_less policy (kind_of oid) offset range.is_work.0 in
    let whole = part_less policy (kind_of oid) size range.is_work.0 in
    (range.oid, low, omega (arith, within, from), omega (arith, within, whole))
asked_in_range (ReadAll oid policy size) index range low =
    let within : size ≤ 2 ^ 24 = range.is_work.1 in
    let whole = part_less policy (kind_of oid) size range.is_work.0 in
    (range.oid, low, omega arith, omega (arith, within, whole))

-- ---- the places of targets

abbrev IsPlace : ℕ × NodeId → Type 0
IsPlace place = place.0 ≤ 30

places_from : (place : ℕ) (targets : List NodeId) → place + length targets ≤ 31 → All IsPlace (enumerate_from place targets)
places_from place [] few = All-nil IsPlace
places_from place (node ∷ targets) few =
    let here : place ≤ 30 = omega (arith, few) in
    All-cons IsPlace (place, node) (enumerate_from (place + 1) targets) here (places_from (place + 1) targets (omega (arith, few)))

read_places : (all : Bool) (attempt : ℕ) (places : List (ℕ × NodeId)) → All IsPlace places → All IsPlace (read_from all attempt places)
read_places true attempt places are = are
read_places false attempt places are =
    All-take IsPlace 1 (drop (attempt % length places) places) (All-drop IsPlace (attempt % length places) places are)

asked_places : (work : ObjWork) (attempt : ℕ) (targets : List NodeId) → length targets ≤ 31 → All IsPlace (targets_asked work attempt targets)
asked_places (Create oid policy size offset bytes) attempt targets few = places_from 0 targets (omega (arith, few))
asked_places (Write oid policy offset bytes) attempt targets few = places_from 0 targets (omega (arith, few))
asked_places (Read oid policy offset size) attempt targets few =
    read_places (is_in_strips policy (kind_of oid)) attempt (enumerate_from 0 targets) (places_from 0 targets (omega (arith, few)))
asked_places (ReadAll oid policy size) attempt targets few = places_from 0 targets (omega (arith, few))

-- ---- all that an attempt sends

abbrev pub CanBeSpelled : NodeId × PeerReq → Type 0
CanBeSpelled send = IsPeerReq send.1

sends_in_range : (me : NodeId) (epoch : Epoch) (work : ObjWork) (first : ℕ) (places : List (ℕ × NodeId)) → IsNode me.0 → IsEpoch epoch
    → IsWorkInRange work → All IsPlace places → first + length places ≤ 2 ^ 32
    → All CanBeSpelled (map (send_of me epoch work) (map (message_for work) (enumerate_from first places)))
sends_in_range me epoch work first [] own begun range are room = All-nil CanBeSpelled
sends_in_range me epoch work first (place ∷ places) own begun range are room =
    let here : place.0 ≤ 30 = All-head IsPlace place places are in
    let index : ℕ = index_at (policy_of work) (kind_of (oid_of work)) place.0 in
    let low : index ≤ 30
    = cond_either (λ (n : ℕ). n ≤ 30) (is_in_strips (policy_of work) (kind_of (oid_of work))) place.0 0 here (omega arith) in
    All-cons CanBeSpelled (send_of me epoch work (message_for work (first, place)))
    (map (send_of me epoch work) (map (message_for work) (enumerate_from (first + 1) places)))
    (record { from = own; number = omega (arith, room); epoch = begun; ask = asked_in_range work index range low })
    (sends_in_range me epoch work (first + 1) places own begun range (All-tail IsPlace place places are) (omega (arith, room)))

pub attempt_in_range : (asked : Work) (node : Node) → IsNode node.gateway.me.0 → IsEpoch (record { 0 = node.peer.epoch }) → IsWorkInRange asked.work
    → node.sends + 31 ≤ 2 ^ 32
    → All CanBeSpelled (map (send_of node.gateway.me (record { 0 = node.peer.epoch }) asked.work) (attempt_in asked node).messages)
attempt_in_range asked node own begun range room =
    let work : ObjWork = asked.work in
    let policy : IsPolicy (policy_of work) = policy_is work range.is_work in
    let targets = targets_in node.epochs node.peer.epoch (oid_of work) (policy_of work) in
    let places = targets_asked work asked.ended targets in
    let most : length targets ≤ 31 = targets-most node.epochs node.peer.epoch (oid_of work) (policy_of work) policy in
    let few : length (attempt_in asked node).messages ≤ 31 = attempt_few asked node policy in
    let made = length-map (enumerate_from node.sends places) (message_for work) in
    let numbered = length-enumerate_from node.sends places in
    sends_in_range node.gateway.me (record { 0 = node.peer.epoch }) work node.sends places own begun range
    (asked_places work asked.ended targets (omega (arith, most))) (omega (arith, few, made, numbered, room))

-- ---- and a tick of a recovery

pub tick_asks_in_range : (node : Node) → may_tick node ≡ true → has_numbers node ≡ true → RecoversInRange node
    → All CanBeSpelled (steps.on_recover_tick (at_first node)).outputs.sends
unfolding steps.on_recover_tick
tick_asks_in_range node may numbers range =
    let count : node.sends ≤ SENDS_MAX = leb-true node.sends SENDS_MAX numbers in
    let room : node.sends ≤ 2 ^ 32 - 64 = omega (arith, count) in
    ranges.asked_in_range node.sends (recovery_state_of node) (record { work = may; room = room }) range.range

pub tick_in_range : (node : Node) → may_tick node ≡ true → has_numbers node ≡ true → RecoversInRange node
    → All CanBeSpelled (node_step inputs.RecoverTick node).outputs.sends
unfolding node_step on_input recovered_put
tick_in_range node may numbers range =
    let so_far : StepState = steps.on_recover_tick (at_first node) in
    let asked : All CanBeSpelled so_far.outputs.sends = tick_asks_in_range node may numbers range in
    cond_either (λ (so_far : StepState). All CanBeSpelled so_far.outputs.sends) (is_due so_far.node) (with_recovered so_far) so_far asked asked
