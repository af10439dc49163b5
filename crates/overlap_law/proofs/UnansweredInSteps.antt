-- The unanswered messages of open works after a change of a moment, of reads too: each was unanswered before, or is sent now.
use Rattle.std.proofs.Common.{◌≡◌, ◌⊎◌, inl, inr, ⊎_elim, arith, ℕ, ◌+◌, ◌<◌, ◌==◌, Bool, true, false, cond, List, length, map, fold}
use Rattle.std.proofs.Common.{slice_get, Contains, Some, Ok, refl, sym, ap, subst, ◌∙◌, ◌≤◌, ◌%◌, [], ◌∷◌, take, drop}
use Rattle.std.specs.FinMap as tree
use Rattle.std.proofs.lemmas.List.Elements.{Contains-append_right}
use Rattle.proof_tools.proofs.Lists.{Contains-map}
use Rattle.object_id.specs.declared.node.NodeId.{NodeId}
use Rattle.cluster_script.specs.declared.statement.Statement.{Statement}
use Rattle.peer_proto.specs.declared.ask.PeerReq.{PeerReq}
use Rattle.peer_proto.specs.Ask.{ask_in, ask_bytes}
use Rattle.message_wire.specs.declared.packet.Packet.TheVariants.{Request}
use Rattle.message_wire.specs.Message.{message_name}
use Rattle.gateway.specs.declared.message.Message.{Message}
use Rattle.gateway.specs.declared.message.Status.{Status}
use Rattle.gateway.specs.declared.message.Status.TheVariants.{Unanswered}
use Rattle.gateway.specs.Work.{asks_all, read_from}
use Rattle.gateway.specs.Attempt as gateways
use Rattle.gateway.specs.Attempt.{is_unanswered, send_of, message_for, messages_of}
use Rattle.gateway.specs.Outcomes.{AreNumberedFrom}
use Rattle.gateway.specs.State.{Work, Gateway, Open}
use Rattle.gateway.specs.Step.{attempt_with_status}
use Rattle.sheep_node.specs.declared.input.Input.{Input}
use Rattle.sheep_node.specs.State.{Node}
use Rattle.sheep_node.specs.StepState.{StepState}
use Rattle.sheep_node.specs.Changes as changes
use Rattle.sheep_node.specs.Changes.{IsSoundStep, LearnsStatus}
use Rattle.sheep_node.specs.Changes.{attempt_in, with_open_attempt, Change}
use Rattle.sheep_node.proofs.AwaitedWorks.{Works}
use Rattle.sheep_node.proofs.MessageNumbers.{numbers_within}
use Rattle.sheep_node.proofs.NumberChanges.{both_in_chain}
use Rattle.sheep_node.proofs.OneWorkChanges.{StepHasOneWork}
use Rattle.sheep_world.specs.World.{Host}
use Rattle.sheep_world.specs.NodeSteps.{request_name, wire_with_request}
use Rattle.sheep_world.specs.NodeCauses.{input_of_cause, wire_at_cause, host_with_node}
use Rattle.sheep_world.specs.Began.{Began}
use Rattle.sheep_world.proofs.WireAfterSends.{sends_there}
use Rattle.peer_proto.specs.declared.work.ObjWork.{ObjWork}
use Rattle.peer_proto.specs.declared.work.ObjWork.TheVariants as obj_works
use Rattle.peer_proto.specs.Work.{oid_of, policy_of}
use Rattle.vnode_table.specs.Targets.{targets_in}
use Rattle.gf256.specs.Part.{is_in_strips}
use Rattle.object_id.specs.Oid.{kind_of}
use Rattle.std.specs.List.{enumerate_from}
use Rattle.std.proofs.lemmas.List.{length-map}
use Rattle.overlap_law.proofs.AskedEpochs.{no_more}
use Rattle.overlap_law.specs.Reached.{Hosts}
use Rattle.overlap_law.specs.Packets.{Wire}
use Rattle.overlap_law.specs.Past.{MomentWithPast}
use Rattle.overlap_law.specs.StepMoments.{SteppingNode, IsStepping, StepsByChanges, IsWithinStep}
use Rattle.overlap_law.specs.StepMoments.{moment_in_step}
use Rattle.overlap_law.specs.MomentChanges.{MomentChange, RunsAreInRange}
use Rattle.overlap_law.specs.ToldPieces.{IsUnansweredOf}
use Rattle.overlap_law.proofs.AttemptLists.{got_map}
use Rattle.overlap_law.proofs.AttemptMessages.{contains_at}
use Rattle.overlap_law.proofs.KnownSteps.{IsKnownStep, known_step}
use Rattle.overlap_law.proofs.ClosedAttempts.{OpenWork, Stayed, Learnt, Opened, open_work}
use Rattle.overlap_law.proofs.OpeningTraffic.{readable_at}
use Rattle.overlap_law.proofs.SendsOfChanges.{in_order_so_far, received_nothing, sends_in_epoch}
use Rattle.overlap_law.proofs.TrafficOfChanges.{wire-in_step}
use Rattle.overlap_law.proofs.ClosedHosts.{each_host}

-- ---- a change of a node

-- a message was an unanswered one of the same attempt before
pub record WasUnansweredOf (old : Works) (req : ℕ) (work : Work) (current : gateways.Attempt) (place : ℕ) (message : Message)
    : Type 0 where
  pub was : Work
  pub before : gateways.Attempt
  pub is : IsUnansweredOf old req was before place message
  pub work_so : work.work ≡ was.work
  pub epoch_so : current.epoch ≡ before.epoch
  pub count_so : length current.messages ≡ length before.messages

-- a read of whole copies asks one target in an attempt
abbrev pub AsksOne : Work → gateways.Attempt → Type 0
AsksOne work current = asks_all work.work ≡ false → length current.messages ≤ 1

-- or it is sent by now
pub record IsAmongSends (so_far : StepState) (work : Work) (current : gateways.Attempt) (message : Message) : Type 0 where
  pub me : NodeId
  pub among : Contains so_far.outputs.sends (send_of me current.epoch work.work message)
  pub few : AsksOne work current

abbrev pub WasUnansweredOrIsSent : Works → StepState → ℕ → Work → gateways.Attempt → ℕ → Message → Type 0
WasUnansweredOrIsSent old next req work current place message =
    WasUnansweredOf old req work current place message ⊎ IsAmongSends next work current message

-- so it is of each unanswered message then
abbrev pub WereUnansweredOrSent : StepState → StepState → Type 0
WereUnansweredOrSent so_far next = (q : ℕ) (work : Work) (current : gateways.Attempt) (place : ℕ) (message : Message)
    → IsUnansweredOf next.node.gateway.works q work current place message
    → WasUnansweredOrIsSent so_far.node.gateway.works next q work current place message

-- of a work that was there before
same_work : (old works : Works) (q : ℕ) (work : Work) (current : gateways.Attempt) (place : ℕ) (message : Message)
    → IsUnansweredOf works q work current place message → tree.get old q ≡ Some work → WasUnansweredOf old q work current place message
same_work old works q work current place message is there = record {
  was = work;
  before = current;
  is = record { there = there; stage = is.stage; at = is.at; unanswered = is.unanswered };
  work_so = refl;
  epoch_so = refl;
  count_so = refl;
}

-- what isn't marked was as it is
unmarked : (number : ℕ) (status : Status) → is_unanswered status ≡ false → (m message : Message) (b : Bool) → (m.number == number) ≡ b
    → cond b (record m { status = status }) m ≡ message → message.status ≡ Unanswered → m ≡ message
unmarked number status settled m message true tie is unanswered =
    let none : is_unanswered status ≡ true = ap (λ (one : Message). is_unanswered one.status) is ∙ ap is_unanswered unanswered in
    absurd (cc (none, settled))
unmarked number status settled m message false tie is unanswered = is

marked : {input : Input} {node : Node} → IsSoundStep input node → (so_far : StepState) (q number : ℕ) (was work : Work)
    (attempt current : gateways.Attempt) (status : Status) → LearnsStatus input node so_far q number was attempt status
    → work ≡ record was { stage = Open (attempt_with_status number status attempt) }
    → current ≡ attempt_with_status number status attempt → (works : Works) (place : ℕ) (message : Message)
    → IsUnansweredOf works q work current place message → WasUnansweredOf so_far.node.gateway.works q work current place message
marked sound so_far q number was work attempt current status learns put same works place message is =
    let (m, found, marks) = got_map (λ (message : Message). cond (message.number == number) (record message { status = status }) message)
    attempt.messages place message (ap (λ (a : gateways.Attempt). slice_get a.messages place) (sym same) ∙ is.at) in
    let so : m ≡ message = unmarked number status (learns.settled sound) m message (m.number == number) refl marks is.unanswered in
    record {
      was = was;
      before = attempt;
      is = record {
        there = learns.there;
        stage = learns.open_so;
        at = found ∙ ap (λ (m : Message). Some m) so;
        unanswered = is.unanswered;
      };
      work_so = ap (λ (w : Work). w.work) put;
      epoch_so = ap (λ (a : gateways.Attempt). a.epoch) same;
      count_so = ap (λ (a : gateways.Attempt). length a.messages) same
          ∙ length-map attempt.messages
          (λ (message : Message). cond (message.number == number) (record message { status = status }) message);
    }

few_asked : (work : ObjWork) (ended first : ℕ) (targets : List NodeId) → asks_all work ≡ false
    → length (messages_of work ended first targets) ≤ 1
few_asked (obj_works.Create oid policy size offset bytes) ended first targets all = absurd (cc (all))
few_asked (obj_works.Write oid policy offset bytes) ended first targets all = absurd (cc (all))
few_asked (obj_works.Read oid policy offset size) ended first targets all = by_part (is_in_strips policy (kind_of oid)) all
  where
    asked : ObjWork
    asked = obj_works.Read oid policy offset size

    places : List (ℕ × NodeId)
    places = enumerate_from 0 targets

    one : (xs : List (ℕ × NodeId)) → length (map (message_for asked) (enumerate_from first (take 1 xs))) ≤ 1
    one [] = omega arith
    one (x ∷ xs) = omega arith

    by_part : (b : Bool) → b ≡ false → length (map (message_for asked) (enumerate_from first (read_from b ended places))) ≤ 1
    by_part true is = absurd (cc (is))
    by_part false is = one (drop (ended % length places) places)
few_asked (obj_works.ReadAll oid policy size) ended first targets all = absurd (cc (all))

-- what an attempt that opens sends
abbrev sends_opening : Work → StepState → List (NodeId × PeerReq)
sends_opening asked lined =
    map (send_of lined.node.gateway.me (attempt_in asked lined.node).epoch asked.work) (attempt_in asked lined.node).messages

opened : (next : StepState) (q : ℕ) (asked work : Work) (lined : StepState) (current : gateways.Attempt)
    → next ≡ with_open_attempt q asked lined → work ≡ record asked { stage = Open (attempt_in asked lined.node) }
    → current ≡ attempt_in asked lined.node → (place : ℕ) (message : Message) → slice_get current.messages place ≡ Some message
    → IsAmongSends next work current message
opened next q asked work lined current next_so put same place message at =
    let me : NodeId = lined.node.gateway.me in
    let messages : List Message = (attempt_in asked lined.node).messages in
    let sends : List (NodeId × PeerReq) = sends_opening asked lined in
    let found : slice_get messages place ≡ Some message = ap (λ (a : gateways.Attempt). slice_get a.messages place) (sym same) ∙ at in
    let sent : Contains sends (send_of me (attempt_in asked lined.node).epoch asked.work message)
    = Contains-map (send_of me (attempt_in asked lined.node).epoch asked.work) messages message
    (contains_at messages place message found) in
    subst (λ (s : StepState). IsAmongSends s work current message) (sym next_so)
    (subst (λ (a : gateways.Attempt). IsAmongSends (with_open_attempt q asked lined) work a message) (sym same)
    (subst (λ (w : Work). IsAmongSends (with_open_attempt q asked lined) w (attempt_in asked lined.node) message) (sym put)
    (record {
      me = me;
      among = Contains-append_right lined.outputs.sends sends (send_of me (attempt_in asked lined.node).epoch asked.work message) sent;
      few = few_asked asked.work asked.ended lined.node.sends
          (targets_in lined.node.epochs lined.node.peer.epoch (oid_of asked.work) (policy_of asked.work));
    })))

change_unanswered : {input : Input} {node : Node} → IsSoundStep input node → (so_far next : StepState) → StepHasOneWork so_far
    → Change input node so_far next → WereUnansweredOrSent so_far next
change_unanswered {input} {node} sound so_far next good change q work current place message is =
    by_origin (open_work so_far next good change q work current is.there is.stage)
  where
    by_origin : OpenWork input node so_far next q work current
        → WasUnansweredOrIsSent so_far.node.gateway.works next q work current place message
    by_origin (Stayed there) =
        inl (same_work so_far.node.gateway.works next.node.gateway.works q work current place message is there)
    by_origin (Learnt number was attempt status learns put same) =
        inl (marked sound so_far q number was work attempt current status learns put same next.node.gateway.works place message is)
    by_origin (Opened session asked lined comes next_so put same) =
        inr (opened next q asked work lined current next_so put same place message is.at)

-- ---- a change of a moment

-- an unanswered message of a node was one before at its host
pub record WasUnansweredAt (hosts : Hosts) (n req : ℕ) (work : Work) (current : gateways.Attempt) (place : ℕ) (message : Message)
    : Type 0 where
  pub old : Host
  pub there : tree.get hosts n ≡ Some old
  pub up : old.is_lost ≡ false
  pub of : WasUnansweredOf old.node.gateway.works req work current place message

-- or it was sent just now
pub record MessageIsSentNow (wire : Wire) (n : ℕ) (node : Node) (work : Work) (current : gateways.Attempt)
    (message : Message) : Type 0 where
  pub me : NodeId
  pub there : tree.get wire (message_name n message.number)
      ≡ Some (Request message.node (ask_bytes (send_of me current.epoch work.work message).1))
  pub read : ask_in (ask_bytes (send_of me current.epoch work.work message).1) ≡ Ok (send_of me current.epoch work.work message).1
  pub given : message.number < node.sends
  pub past : current.epoch.0 ≤ node.peer.epoch
  pub few : AsksOne work current

abbrev pub UnansweredCame : MomentWithPast → MomentWithPast → ℕ → Node → ℕ → Work → gateways.Attempt → ℕ → Message → Type 0
UnansweredCame before after n node req work current place message =
    WasUnansweredAt before.world.hosts n req work current place message ⊎ MessageIsSentNow after.world.wire n node work current message

abbrev pub EachUnansweredCame : MomentWithPast → MomentWithPast → Type 0
EachUnansweredCame before after = (n : ℕ) (host : Host) (req : ℕ) (work : Work) (current : gateways.Attempt) (place : ℕ) (message : Message)
    → tree.get after.world.hosts n ≡ Some host → host.is_lost ≡ false
    → IsUnansweredOf host.node.gateway.works req work current place message
    → UnansweredCame before after n host.node req work current place message

-- a node that has the same works
same_works : (hosts : Hosts) (n : ℕ) (old : Host) (node : Node) → tree.get hosts n ≡ Some old → old.is_lost ≡ false
    → node.gateway ≡ old.node.gateway → (req : ℕ) (work : Work) (current : gateways.Attempt) (place : ℕ) (message : Message)
    → IsUnansweredOf node.gateway.works req work current place message → WasUnansweredAt hosts n req work current place message
same_works hosts n old node there up same req work current place message is = record {
  old = old;
  there = there;
  up = up;
  of = same_work old.node.gateway.works node.gateway.works req work current place message is
      (ap (λ (g : Gateway). tree.get g.works req) (sym same) ∙ is.there);
}

abbrev HaveCome : MomentWithPast → MomentWithPast → ℕ → Host → Type 0
HaveCome before after n host =
    (req : ℕ) (work : Work) (current : gateways.Attempt) (place : ℕ) (message : Message)
    → IsUnansweredOf host.node.gateway.works req work current place message
    → UnansweredCame before after n host.node req work current place message

module _ (script : List Statement) (range : RunsAreInRange script) (start : MomentWithPast) (began : Began script start.world) where
  module _ (stepping : SteppingNode) (is : IsStepping script start.world stepping) (by : StepsByChanges stepping.cause)
      (so_far next : StepState) (within : IsWithinStep stepping so_far next) where
    abbrev known : IsKnownStep script start.world stepping
    known = known_step script range start.world began stepping is

    -- what was sent in the step by now is in the wire
    sent_now : (work : Work) (current : gateways.Attempt) (message : Message) → IsAmongSends next work current message
        → MessageIsSentNow (moment_in_step script stepping start next).world.wire stepping.n next.node work current message
    sent_now work current message sent =
        let send : NodeId × PeerReq = send_of sent.me current.epoch work.work message in
        let found : Wire = wire_at_cause stepping.cause start.world.wire in
        let order = in_order_so_far next (changes.Then within.leads within.change) in
        let (from, read) = readable_at script start.world stepping known next within.rest send sent.among in
        let numbers : AreNumberedFrom stepping.host.node.sends next.outputs.sends = order.numbers in
        let high = (numbers_within stepping.host.node.sends next.outputs.sends send numbers sent.among).1 in
        let count : next.node.sends ≡ stepping.host.node.sends + length next.outputs.sends = order.counted in
        let name : request_name send.1 ≡ message_name stepping.n message.number
        = ap (λ (k : ℕ). record { sender = record { 0 = k }; number = message.number }) from in
        record {
          me = sent.me;
          there = ap (λ (w : Wire). tree.get w (message_name stepping.n message.number))
              (wire-in_step script range start began stepping by next)
              ∙ ap (tree.get (fold wire_with_request found next.outputs.sends)) (sym name)
              ∙ sends_there stepping.host.node.sends next.outputs.sends found send numbers sent.among;
          read = read;
          given = omega (arith, high, count);
          past = no_more (sends_in_epoch (received_nothing stepping.cause stepping.host.node by).1 next
              (changes.Then within.leads within.change) send sent.among);
          few = sent.few;
        }

    goes_on : tree.get (moment_in_step script stepping start so_far).world.hosts stepping.n
        ≡ Some (host_with_node stepping.host so_far.node)
        → stepping.host.is_lost ≡ false
        → HaveCome (moment_in_step script stepping start so_far) (moment_in_step script stepping start next) stepping.n
        (host_with_node stepping.host next.node)
    goes_on there up req work current place message of =
        let good = (both_in_chain (input_of_cause stepping.cause) stepping.host.node known.sound so_far within.leads).0 in
        ⊎_elim
        (λ (old : WasUnansweredOf so_far.node.gateway.works req work current place message).
        inl (record { old = host_with_node stepping.host so_far.node; there = there; up = up; of = old }))
        (λ (sent : IsAmongSends next work current message). inr (sent_now work current message sent))
        (change_unanswered known.sound so_far next good within.change req work current place message of)

  pub unanswered_came : {before after : MomentWithPast} → MomentChange script start before after → EachUnansweredCame before after
  unanswered_came change n host req work current place message there up is =
      each_host script range start began HaveCome
      (λ before after n old host there up me asked req work current place message of.
      inl (same_works before.world.hosts n old host.node there up asked.0 req work current place message of))
      (λ stepping so_far next is by within. goes_on stepping is by so_far next within)
      (λ before after n host newer none req work current place message of. absurd (none req work of.there))
      change n host there up req work current place message is
