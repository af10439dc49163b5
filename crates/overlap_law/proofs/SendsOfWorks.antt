-- What holds of all that works ask holds of each request that a node sends: those that it sends in a step are of works that open in it.
use Rattle.std.proofs.Common.{◌≡◌, ℕ, ◌+◌, false, List, [], ◌∷◌, map, All, sym, subst, ◌∙◌}
use Rattle.std.specs.List.{enumerate_from}
use Rattle.std.proofs.lemmas.List.Elements.{All-nil, All-cons, All-append}
use Rattle.object_id.specs.declared.node.Epoch.{Epoch}
use Rattle.object_id.specs.declared.node.NodeId.{NodeId}
use Rattle.object_id.specs.Oid.{kind_of}
use Rattle.object_id.specs.declared.cause.Cause.TheVariants.{Halt}
use Rattle.gf256.specs.Part.{index_at}
use Rattle.peer_proto.specs.declared.ask.PeerAsk.{PeerAsk}
use Rattle.peer_proto.specs.declared.ask.PeerReq.{PeerReq}
use Rattle.peer_proto.specs.declared.work.ObjWork.{ObjWork}
use Rattle.peer_proto.specs.Work.{oid_of, policy_of}
use Rattle.gateway.specs.Work.{ask_for, targets_asked, zones_for}
use Rattle.gateway.specs.Attempt.{message_for, send_of}
use Rattle.gateway.specs.State.{Work}
use Rattle.vnode_table.specs.Targets.{targets_in}
use Rattle.sheep_node.specs.declared.input.Input.{Input}
use Rattle.sheep_node.specs.State.{Node}
use Rattle.sheep_node.specs.StepState.{StepState, at_first}
use Rattle.sheep_node.specs.Step.{node_step}
use Rattle.sheep_node.specs.Changes as changes
use Rattle.sheep_node.specs.Changes.{ToWork, attempt_in, has_too_few_zones, with_open_attempt, WorkIsNext, Change, Leads, input_received}
use Rattle.sheep_node.proofs.StepChain.{step_chain}
use Rattle.overlap_law.proofs.SendsOfChanges.{next_sends_nothing, steps_send_nothing, end_sends_nothing, refusal_sends_nothing}
use Rattle.overlap_law.proofs.SendsOfChanges.{denial_sends_nothing}

-- what an attempt sends for a work
abbrev pub sends_for : Work → Node → List (NodeId × PeerReq)
sends_for asked node = map (send_of node.gateway.me (record { 0 = node.peer.epoch }) asked.work) (attempt_in asked node).messages

-- ---- along a step

module _ (SendSo : NodeId × PeerReq → Type 0) where
  -- where an attempt begins, the step leads to it
  abbrev pub OpensSends : Input → Node → Type 0
  OpensSends input node = (so_far : StepState) → Leads input node (input_received input (at_first node)) so_far → (session req : ℕ)
      (asked : Work) (lined : StepState) → WorkIsNext input node so_far session req asked lined → has_too_few_zones asked lined.node ≡ false
      → Leads input node (input_received input (at_first node)) (with_open_attempt req asked lined)
      → All SendSo (sends_for asked lined.node)

  module _ (input : Input) (node : Node) (opened : OpensSends input node) where
    abbrev first : StepState
    first = input_received input (at_first node)

    same_sends : (so_far next : StepState) → next.outputs.sends ≡ so_far.outputs.sends → All SendSo so_far.outputs.sends
        → All SendSo next.outputs.sends
    same_sends so_far next same all = subst (All SendSo) (sym same) all

    change_sends : (so_far next : StepState) → Leads input node first so_far → Change input node so_far next
        → All SendSo so_far.outputs.sends → All SendSo next.outputs.sends
    change_sends so_far next leads (changes.Marks req number work attempt status learns over) all = all
    change_sends so_far next leads (changes.Fails session req number work attempt status course ends done why) all = all
    change_sends so_far next leads (changes.Stops session req number work attempt status course bytes ends over) all = all
    change_sends so_far next leads (changes.Refuses session req number work attempt status course cause ends done why) all =
        same_sends so_far next
        (refusal_sends_nothing session req cause course (changes.without_ended_work session req work status so_far)).1 all
    change_sends so_far next leads (changes.Opens session req asked lined comes enough) all =
        All-append SendSo lined.outputs.sends (sends_for asked lined.node)
        (subst (All SendSo) (sym (next_sends_nothing so_far session req asked lined comes).1) all)
        (opened so_far leads session req asked lined comes enough
        (changes.Then leads (changes.Opens session req asked lined comes enough)))
    change_sends so_far next leads (changes.Holds session req asked lined comes short touched) all =
        same_sends so_far next (next_sends_nothing so_far session req asked lined comes).1 all
    change_sends so_far next leads (changes.Denies session req asked lined request comes short untouched there own) all =
        same_sends so_far next
        ((denial_sends_nothing req (Halt (changes.zones_of_members lined.node) (zones_for asked.work)) request
        (changes.without_denied_work session req asked lined)).1
        ∙ (next_sends_nothing so_far session req asked lined comes).1) all
    change_sends so_far next leads (changes.Strays req work gateway there none apart) all = all
    change_sends so_far next leads (changes.Lines session req work moved steps waits) all =
        same_sends so_far next (steps_send_nothing so_far session req (ToWork work) moved steps).1 all
    change_sends so_far next leads (changes.Appends session req entry moved steps) all =
        same_sends so_far next (steps_send_nothing so_far session req (changes.ToEntry entry) moved steps).1 all
    change_sends so_far next leads (changes.Replies session req reply moved steps) all =
        same_sends so_far next
        ((end_sends_nothing session req reply moved).1 ∙ (steps_send_nothing so_far session req (changes.ToReply reply) moved steps).1) all
    change_sends so_far next leads (changes.Arrives session req ask disk arrival on) all = all
    change_sends so_far next leads (changes.Rejects session req ask cause arrival) all = all
    change_sends so_far next leads (changes.Recovers due) all = all

    leads_send : (last : StepState) → Leads input node first last → All SendSo first.outputs.sends → All SendSo last.outputs.sends
    leads_send last changes.Still all = all
    leads_send last (changes.Then {so_far} {next} leads change) all = change_sends so_far next leads change (leads_send so_far leads all)

    pub steps_send : All SendSo first.outputs.sends → All SendSo (node_step input node).outputs.sends
    steps_send all = leads_send (node_step input node) (step_chain input node) all

-- ---- by what is asked

module _ (Is : PeerAsk → Type 0) where
  abbrev pub SendIs : NodeId × PeerReq → Type 0
  SendIs send = Is send.1.ask

  pub places_so : (me : NodeId) (epoch : Epoch) (work : ObjWork) → ((index : ℕ) → Is (ask_for work index)) → (first : ℕ)
      (places : List (ℕ × NodeId)) → All SendIs (map (send_of me epoch work) (map (message_for work) (enumerate_from first places)))
  places_so me epoch work all first [] = All-nil SendIs
  places_so me epoch work all first (place ∷ places) =
      All-cons SendIs (send_of me epoch work (message_for work (first, place)))
      (map (send_of me epoch work) (map (message_for work) (enumerate_from (first + 1) places)))
      (all (index_at (policy_of work) (kind_of (oid_of work)) place.0)) (places_so me epoch work all (first + 1) places)

  -- so it is of an attempt, where it is at each index
  pub attempt_sends : (asked : Work) (node : Node) → ((index : ℕ) → Is (ask_for asked.work index)) → All SendIs (sends_for asked node)
  attempt_sends asked node all =
      places_so node.gateway.me (record { 0 = node.peer.epoch }) asked.work all node.sends
      (targets_asked asked.work asked.ended (targets_in node.epochs node.peer.epoch (oid_of asked.work) (policy_of asked.work)))

  -- along a step
  abbrev pub OpensSo : Input → Node → Type 0
  OpensSo = OpensSends SendIs

  pub step_sends : (input : Input) (node : Node) → OpensSo input node → All SendIs (input_received input (at_first node)).outputs.sends
      → All SendIs (node_step input node).outputs.sends
  step_sends = steps_send SendIs
