-- What a node sends to create is as the rows of its objects are: so it is for each attempt that begins in a step.
use Rattle.std.proofs.Common.{◌≡◌, arith, ℕ, suc, ◌+◌, ◌/◌, ◌%◌, ◌<◌, ◌≤◌, List, [], ◌∷◌, length, map, All, refl, ap, subst, ◌∙◌}
use Rattle.std.specs.List.{enumerate_from}
use Rattle.std.proofs.lemmas.List.Elements.{All-nil, All-cons, All-head, All-tail}
use Rattle.proof_tools.proofs.Booleans.{cond_either}
use Rattle.proof_tools.proofs.FiniteMaps.{get-insert_same}
use Rattle.object_id.specs.declared.node.Epoch.{Epoch}
use Rattle.object_id.specs.declared.node.NodeId.{NodeId}
use Rattle.object_id.specs.declared.oid.Kind.{Kind}
use Rattle.object_id.specs.declared.oid.Kind.TheVariants.{Block, Inode}
use Rattle.object_id.specs.declared.policy.Policy.{Policy}
use Rattle.object_id.specs.declared.policy.Policy.TheVariants.{Copies, Coded}
use Rattle.object_id.specs.Oid.{kind_of}
use Rattle.object_id.specs.Policy.{IsPolicy, wanted_of}
use Rattle.epoch_log.specs.Appending.{IsReservable}
use Rattle.gf256.specs.Part.{IsAligned, part_size, part, is_in_strips, index_at}
use Rattle.gf256.proofs.PartLaws.{length-part}
use Rattle.gf256.proofs.Widths as widths
use Rattle.peer_proto.specs.declared.ask.PeerReq.{PeerReq}
use Rattle.peer_proto.specs.declared.work.ObjWork.{ObjWork}
use Rattle.peer_proto.specs.declared.work.ObjWork.TheVariants as works
use Rattle.peer_proto.specs.Work.{oid_of, policy_of}
use Rattle.peer_service.specs.State.{object_size}
use Rattle.vdi_directory.specs.declared.effect.Effect.{Effect}
use Rattle.vdi_directory.specs.Decisions.{log_effects}
use Rattle.gateway.specs.Work.{ask_for, targets_asked}
use Rattle.gateway.specs.Attempt.{message_for, send_of}
use Rattle.gateway.specs.State.{Work, Open}
use Rattle.vnode_table.specs.Targets.{targets_in}
use Rattle.sheep_node.specs.declared.input.Input.{Input}
use Rattle.sheep_node.specs.State.{Node}
use Rattle.sheep_node.specs.StepState.{at_first}
use Rattle.sheep_node.specs.StepFacts.{read_after}
use Rattle.sheep_node.specs.Step.{node_step}
use Rattle.sheep_node.specs.May.{May}
use Rattle.sheep_node.specs.OutsideAsks.{InputNamesObjects}
use Rattle.sheep_node.specs.NodeInvariant.{IsSoundNode}
use Rattle.sheep_node.specs.WorkRange.{IsWorkInRange}
use Rattle.sheep_node.specs.Changes.{attempt_in, with_open_attempt, input_received}
use Rattle.sheep_node.proofs.SoundLaws.{works_sound_in_chain}
use Rattle.sheep_world.proofs.RangeBySteps.{few_targets}
use Rattle.overlap_law.specs.RowsInRange.{CreatesAsRowsAre}
use Rattle.overlap_law.proofs.KnownDisks.{IsKnownWork}
use Rattle.overlap_law.proofs.KnownDiskSteps.{AreOnKnown, IsKnownInput, effects_after, work_known}
use Rattle.overlap_law.proofs.SendsOfWorks.{SendIs, places_so, OpensSo, step_sends}

-- the part of a piece inside an object ends inside the object's part
pub parts_inside : (policy : Policy) (kind : Kind) (offset long size : ℕ) → IsPolicy policy → IsAligned policy kind offset
    → IsAligned policy kind long
    → IsAligned policy kind size → offset + long ≤ size
    → part_size policy kind offset + part_size policy kind long ≤ part_size policy kind size
parts_inside (Copies copies) kind offset long size is from whole all inside = inside
parts_inside (Coded d p) Inode offset long size is from whole all inside = inside
parts_inside (Coded d p) Block offset long size is offset_whole long_whole size_whole inside =
    let from : offset % 512 ≡ 0 = offset_whole in
    let whole : long % 512 ≡ 0 = long_whole in
    let all : size % 512 ≡ 0 = size_whole in
    widths.by_cases (λ (n : ℕ). offset / n + long / n ≤ size / n)
    (omega (arith, from, whole, all, inside)) (omega (arith, from, whole, all, inside)) (omega (arith, from, whole, all, inside))
    (omega (arith, from, whole, all, inside)) d is.0

-- a target's index is below the number of targets
index_below : (policy : Policy) (kind : Kind) (place wanted : ℕ) → place < wanted → index_at policy kind place < wanted
index_below policy kind place wanted below =
    cond_either (λ (n : ℕ). n < wanted) (is_in_strips policy kind) place 0 below (omega (arith, below))

module _ (effects : List Effect) where
  abbrev pub SentSo : NodeId × PeerReq → Type 0
  SentSo = SendIs (CreatesAsRowsAre effects)

  -- ---- what is asked of one target

  asked_so : (work : ObjWork) (index : ℕ) → IsWorkInRange work → IsKnownWork effects work
      → index < wanted_of (policy_of work) (kind_of (oid_of work))
      → CreatesAsRowsAre effects (ask_for work index)
  asked_so (works.Create oid policy size offset bytes) index range known below =
      let disk = known.making refl in
      let kind : Kind = kind_of oid in
      let long : length (part policy kind index bytes) ≡ part_size policy kind (length bytes)
      = length-part policy kind index bytes range.is_work.0 range.is_work.2.1 in
      let ends : part_size policy kind offset + part_size policy kind (length bytes) ≤ part_size policy kind size
      = parts_inside policy kind offset (length bytes) size range.is_work.0 range.is_work.2.0 range.is_work.2.1 range.is_work.3
      range.is_work.1 in
      record {
        spec = disk.spec;
        made = disk.made;
        index_below = subst (λ (p : Policy). index < wanted_of p kind) disk.policy_so below;
        size_so = ap (part_size policy kind) (known.whole disk.spec disk.made)
            ∙ ap (λ (p : Policy). part_size p kind (object_size disk.spec kind)) disk.policy_so;
        inside = omega (arith, long, ends);
      }
  asked_so (works.Write oid policy offset bytes) index range known below = tt
  asked_so (works.Read oid policy offset size) index range known below = tt
  asked_so (works.ReadAll oid policy size) index range known below = tt

  -- ---- what an attempt sends

  sends_so : (me : NodeId) (epoch : Epoch) (work : ObjWork) (first : ℕ) (places : List (ℕ × NodeId)) → IsWorkInRange work
      → IsKnownWork effects work
      → All (λ (place : ℕ × NodeId). place.0 < wanted_of (policy_of work) (kind_of (oid_of work))) places
      → All SentSo (map (send_of me epoch work) (map (message_for work) (enumerate_from first places)))
  sends_so me epoch work first [] range known are = All-nil SentSo
  sends_so me epoch work first (place ∷ places) range known are =
      let wanted : ℕ = wanted_of (policy_of work) (kind_of (oid_of work)) in
      let Below : ℕ × NodeId → Type 0 = λ (place : ℕ × NodeId). place.0 < wanted in
      let here : place.0 < wanted = All-head Below place places are in
      All-cons SentSo (send_of me epoch work (message_for work (first, place)))
      (map (send_of me epoch work) (map (message_for work) (enumerate_from (first + 1) places)))
      (asked_so work (index_at (policy_of work) (kind_of (oid_of work)) place.0) range known
      (index_below (policy_of work) (kind_of (oid_of work)) place.0 wanted here))
      (sends_so me epoch work (first + 1) places range known (All-tail Below place places are))

  places_below : (wanted place : ℕ) (targets : List NodeId) → place + length targets ≤ wanted
      → All (λ (place : ℕ × NodeId). place.0 < wanted) (enumerate_from place targets)
  places_below wanted place [] few = All-nil (λ (place : ℕ × NodeId). place.0 < wanted)
  places_below wanted place (node ∷ targets) few =
      let count : place + suc (length targets) ≤ wanted = few in
      let below : place < wanted = omega (arith, count) in
      All-cons (λ (place : ℕ × NodeId). place.0 < wanted) (place, node) (enumerate_from (place + 1) targets) below
      (places_below wanted (place + 1) targets (omega (arith, count)))

  abbrev SentFor : Work → Node → ObjWork → Type 0
  SentFor asked node work =
      All SentSo (map (send_of node.gateway.me (record { 0 = node.peer.epoch }) work)
      (map (message_for work)
      (enumerate_from node.sends (targets_asked work asked.ended (targets_in node.epochs node.peer.epoch (oid_of work) (policy_of work))))))

  attempt_so : (asked : Work) (node : Node) → IsWorkInRange asked.work → IsKnownWork effects asked.work
      → All SentSo (map (send_of node.gateway.me (record { 0 = node.peer.epoch }) asked.work) (attempt_in asked node).messages)
  attempt_so asked node range known = by_work asked.work range known
    where
      -- only a create makes rows
      other : (work : ObjWork) → ((index : ℕ) → CreatesAsRowsAre effects (ask_for work index)) → SentFor asked node work
      other work all =
          places_so (CreatesAsRowsAre effects) node.gateway.me (record { 0 = node.peer.epoch }) work all node.sends
          (targets_asked work asked.ended (targets_in node.epochs node.peer.epoch (oid_of work) (policy_of work)))

      by_work : (work : ObjWork) → IsWorkInRange work → IsKnownWork effects work → SentFor asked node work
      by_work (works.Create oid policy size offset bytes) range known =
          let targets : List NodeId = targets_in node.epochs node.peer.epoch oid policy in
          let most : length targets ≤ wanted_of policy (kind_of oid) = few_targets node.epochs node.peer.epoch oid policy in
          let few : 0 + length targets ≤ wanted_of policy (kind_of oid) = omega (arith, most) in
          sends_so node.gateway.me (record { 0 = node.peer.epoch }) (works.Create oid policy size offset bytes) node.sends
          (enumerate_from 0 targets)
          range known (places_below (wanted_of policy (kind_of oid)) 0 targets few)
      by_work (works.Write oid policy offset bytes) range known = other (works.Write oid policy offset bytes) (λ index. tt)
      by_work (works.Read oid policy offset size) range known = other (works.Read oid policy offset size) (λ index. tt)
      by_work (works.ReadAll oid policy size) range known = other (works.ReadAll oid policy size) (λ index. tt)

  -- ---- along a step

  module _ (input : Input) (node : Node) (may : May input node) (named : InputNamesObjects input) (is : IsSoundNode node)
      (reservable : All IsReservable (read_after input node.peer.entries)) (asked_known : IsKnownInput (effects_after input node) input)
      (on_known : AreOnKnown (log_effects node.peer.entries) node)
      (later : (work : ObjWork) → IsKnownWork (effects_after input node) work → IsKnownWork effects work) where
    opened_so : OpensSo (CreatesAsRowsAre effects) input node
    opened_so so_far leads session req asked lined comes enough onward =
        let now : Work = record asked { stage = Open (attempt_in asked lined.node) } in
        let sound = (works_sound_in_chain input node may named is (with_open_attempt req asked lined) onward).open_works req now
        (get-insert_same lined.node.gateway.works req now) in
        attempt_so asked lined.node sound.range
        (later asked.work (work_known input node reservable asked_known on_known so_far leads session req asked lined comes))

    pub step_sends_so : All SentSo (input_received input (at_first node)).outputs.sends → All SentSo (node_step input node).outputs.sends
    step_sends_so = step_sends (CreatesAsRowsAre effects) input node opened_so
