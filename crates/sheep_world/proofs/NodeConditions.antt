-- What a node waits for it asked; so a reply in the wire fits what was asked.
use Rattle.std.proofs.Common.{◌≡◌, ℕ, ◌==◌, Bool, true, false, ◌||◌, cond, List, [], ◌∷◌, filter, find, Contains, Some, Ok, refl, sym, ap, subst, ◌∙◌, ⊎_elim}
use Rattle.std.specs.List.{list_any}
use Rattle.std.specs.FinMap as tree
use Rattle.std.proofs.lemmas.Bool.{eqb-true, or_cases}
use Rattle.std.proofs.lemmas.List.Elements.{Contains-append_left, Contains-append_right}
use Rattle.proof_tools.proofs.Lists.{Contains-first, Contains-cons, Contains-filter, find-contains, Contains-map, Contains-flat_map}
use Rattle.proof_tools.proofs.Booleans.{has_value}
use Rattle.object_id.specs.declared.node.NodeId.{NodeId}
use Rattle.peer_proto.specs.declared.ask.PeerReq.{PeerReq}
use Rattle.peer_proto.specs.declared.say.PeerRsp.{PeerRsp}
use Rattle.peer_proto.specs.Say.{say_in}
use Rattle.gateway.specs.declared.message.Message.{Message}
use Rattle.gateway.specs.Attempt.{is_unanswered, is_awaited_message, send_of}
use Rattle.gateway.specs.State as gateways
use Rattle.gateway.specs.State.{Work, WorkStage, Open, Ended, WaitsForMembers, open_messages, is_awaited_in}
use Rattle.recovery.specs.State as recoveries
use Rattle.sheep_node.specs.State.{Node}
use Rattle.sheep_node.specs.May as nodes
use Rattle.sheep_node.specs.May.{has_numbers, fits_node, May}
use Rattle.message_wire.specs.declared.packet.Packet.TheVariants.{Reply}
use Rattle.sheep_world.specs.World.{Host, is_host_up}
use Rattle.sheep_world.specs.WireMatch.{unanswered_in, asked_by_gateway, asked_by_recovery, asked_by, IsInFlight}
use Rattle.sheep_world.proofs.RecoveryMessages.{same_said}
use Rattle.sheep_world.proofs.SenderMatch.{Packets, MatchesHost}

-- an element that passes a test
abbrev Passes : {X : Type 0} → (X → Bool) → List X → Type 0
Passes {X} test xs = (x : X) × Contains xs x × (test x ≡ true)

any_if : {X : Type 0} (test : X → Bool) (y : X) (xs : List X) (b : Bool) → test y ≡ b → (list_any test xs ≡ true → Passes test xs)
    → (b || list_any test xs) ≡ true → Passes test (y ∷ xs)
any_if test y xs true passes rest is = (y, Contains-first y y xs refl, passes)
any_if test y xs false passes rest is =
    let (x, there, so) = rest is in
    (x, Contains-cons y xs x there, so)

-- where some element passes a test, there is one
any_of : {X : Type 0} (test : X → Bool) (xs : List X) → list_any test xs ≡ true → Passes test xs
any_of test [] is = absurd (cc (is))
any_of test (y ∷ xs) is = any_if test y xs (test y) refl (any_of test xs) is

awaited_parts : (number : ℕ) (message : Message) → is_awaited_message number message ≡ true → (message.number ≡ number) × (is_unanswered message.status ≡ true)
awaited_parts number message is = by_tie (message.number == number) refl is
  where
    by_tie : (b : Bool) → (message.number == number) ≡ b → cond b (is_unanswered message.status) false ≡ true
        → (message.number ≡ number) × (is_unanswered message.status ≡ true)
    by_tie true tie passes = (eqb-true message.number number tie, passes)
    by_tie false tie passes = absurd (cc (passes))

-- a request of this number that a node waits for
abbrev Asks : ℕ → List (NodeId × PeerReq) → Type 0
Asks number sends = (send : NodeId × PeerReq) × Contains sends send × (send.1.number ≡ number)

stage_asks : (me : NodeId) (number : ℕ) (work : Work) (stage : WorkStage) → list_any (is_awaited_message number) (open_messages stage) ≡ true
    → Asks number (unanswered_in me work stage)
stage_asks me number work (Open attempt) is =
    let (message, there, awaited) = any_of (is_awaited_message number) attempt.messages is in
    let (same, unanswered) = awaited_parts number message awaited in (
      send_of me attempt.epoch work.work message,
      Contains-map (send_of me attempt.epoch work.work) (filter (λ (message : Message). is_unanswered message.status) attempt.messages) message
          (Contains-filter (λ (message : Message). is_unanswered message.status) attempt.messages message there unanswered),
      same,
    )
stage_asks me number work Ended is = absurd (cc (is))
stage_asks me number work (WaitsForMembers epoch) is = absurd (cc (is))

gateway_asks : (me : NodeId) (number : ℕ) (gateway : gateways.Gateway) → gateways.gateway_awaits number gateway ≡ true
    → Asks number (asked_by_gateway me gateway)
gateway_asks me number gateway is =
    let test : ℕ × Work → Bool = λ (entry : ℕ × Work). is_awaited_in number entry.1 in
    let (entry, found) = has_value (find test (tree.entries gateway.works)) is in
    let (send, there, same) = stage_asks me number entry.1 entry.1.stage (find-contains test (tree.entries gateway.works) entry found).1 in (
      send,
      Contains-flat_map (λ (entry : ℕ × Work). unanswered_in me entry.1 entry.1.stage) (tree.entries gateway.works) entry send
          (find-contains test (tree.entries gateway.works) entry found).0 there,
      same,
    )

recovery_asks : (number : ℕ) (recovery : recoveries.Recovery) → recoveries.recovery_awaits number recovery ≡ true
    → Asks number (asked_by_recovery recovery)
recovery_asks number recovery is =
    let (message, found) = has_value (recoveries.message_of number (recoveries.all_unanswered recovery)) is in
    let numbered : (message.request.number == number) ≡ true
    = (find-contains (recoveries.has_number number) (recoveries.all_unanswered recovery) message found).1 in (
      (message.to, message.request),
      Contains-map (λ (message : recoveries.Message). (message.to, message.request)) (recoveries.all_unanswered recovery) message
          (find-contains (recoveries.has_number number) (recoveries.all_unanswered recovery) message found).0,
      eqb-true message.request.number number numbered,
    )

-- a number that a node waits for is that of a request that it waits for
node_asks : (number : ℕ) (node : Node) → nodes.node_awaits number node ≡ true → Asks number (asked_by node)
node_asks number node is = ⊎_elim
    (λ (waits : gateways.gateway_awaits number node.gateway ≡ true).
    let (send, there, same) = gateway_asks node.me number node.gateway waits in
    (send, Contains-append_left (asked_by_gateway node.me node.gateway) (asked_by_recovery node.recovery) send there, same))
    (λ (waits : recoveries.recovery_awaits number node.recovery ≡ true).
    let (send, there, same) = recovery_asks number node.recovery waits in
    (send, Contains-append_right (asked_by_gateway node.me node.gateway) (asked_by_recovery node.recovery) send there, same))
    (or_cases (gateways.gateway_awaits number node.gateway) (recoveries.recovery_awaits number node.recovery) is)

-- a reply in the wire to an up node fits what it waits for
pub reply_fits : (n number : ℕ) (host : Host) (packets : Packets) (from : NodeId) (bytes : List ℕ) (rsp : PeerRsp) → MatchesHost n host packets
    → is_host_up host ≡ true → packets number ≡ Some (Reply from bytes) → say_in bytes ≡ Ok rsp → fits_node rsp host.node ≡ true
reply_fits n number host packets from bytes rsp matches up got read =
    let (send, there, same) = node_asks number host.node (matches.awaited up number (Reply from bytes) got) in
    let (asked, (said, says, numbered, fit)) = subst (IsInFlight host.node send) (ap packets same ∙ got) (matches.on_the_way up send there) in
    subst (λ (rsp : PeerRsp). fits_node rsp host.node ≡ true) (same_said said rsp (sym says ∙ read)) fit

-- and has the number of its name
pub reply_numbered : (n number : ℕ) (host : Host) (packets : Packets) (from : NodeId) (bytes : List ℕ) (rsp : PeerRsp) → MatchesHost n host packets
    → packets number ≡ Some (Reply from bytes) → say_in bytes ≡ Ok rsp → rsp.number ≡ number
reply_numbered n number host packets from bytes rsp matches got read =
    let (said, says, same) = matches.spelled number (Reply from bytes) got in
    subst (λ (rsp : PeerRsp). rsp.number ≡ number) (same_said said rsp (sym says ∙ read)) same
