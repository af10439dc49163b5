-- The wire once a node has sent, and what a step makes of what the node waits for.
use Rattle.std.proofs.Common.{◌≡◌, ◌≢◌, ◌⊎◌, inl, inr, ℕ, ◌+◌, ◌<◌, Bool, true, false, cond, [], ◌∷◌, length, fold, All, Contains, Some, Ordering, Less, Equal, Greater, Ok, refl, sym, ap, subst, ◌∙◌, ⊎_elim}
use native.Mathlib.Omega.{arith}
use Rattle.std.specs.Ordering.{is_eq, eq_by_cmp}
use Rattle.std.specs.Cmp.{Equal-is}
use Rattle.std.specs.FinMap as tree
use Rattle.std.proofs.lemmas.Cmp.{tied_itself}
use Rattle.std.proofs.lemmas.Option.{same_Some}
use Rattle.proof_tools.proofs.Lists.{Contains-first, Contains-cons, Contains-cons_cases, Contains-nil}
use Rattle.object_id.specs.declared.node.NodeId.{NodeId}
use Rattle.peer_proto.specs.declared.ask.PeerReq.{PeerReq}
use Rattle.peer_proto.specs.declared.say.PeerRsp.{PeerRsp}
use Rattle.peer_proto.specs.Ask.{IsPeerReq, ask_bytes, ask_in}
use Rattle.gateway.specs.Outcomes.{AreNumberedFrom}
use Rattle.sheep_node.specs.declared.input.Input.{Input}
use Rattle.sheep_node.specs.State.{Node}
use Rattle.sheep_node.specs.Step.{node_step}
use Rattle.sheep_node.proofs.MessageNumbers.{Sends, first_number, later_numbers, numbers_within}
use Rattle.sheep_node.specs.May.{node_awaits, fits_node}
use Rattle.message_wire.specs.declared.name.MessageName.{MessageName}
use Rattle.message_wire.specs.declared.packet.Packet.{Packet}
use Rattle.message_wire.specs.declared.packet.Packet.TheVariants.{Request}
use Rattle.message_wire.specs.Message.{name_cmp}
use Rattle.sheep_world.specs.NodeSteps.{request_name, wire_with_request}
use Rattle.sheep_world.specs.WireMatch.{asked_by}
use Rattle.message_wire.proofs.NameOrder.{name_cmp_total, same_name}

abbrev pub Wire : Type 0
Wire = tree.FinMap name_cmp Packet

-- ---- the wire after sends

unequal_by : (q key : MessageName) (o : Ordering) → name_cmp q key ≡ o → q ≢ key → is_eq o ≡ false
unequal_by q key Less tie apart = refl
unequal_by q key Equal tie apart = absurd (apart (same_name q key tie))
unequal_by q key Greater tie apart = refl

pub name_tied : (q key : MessageName) → eq_by_cmp name_cmp q key ≡ true → q ≡ key
name_tied q key tie = same_name q key ((Equal-is (name_cmp q key)).0 tie)

pub name_apart : (q key : MessageName) → q ≢ key → eq_by_cmp name_cmp q key ≡ false
name_apart q key apart = unequal_by q key (name_cmp q key) refl apart

pub name_itself : (q : MessageName) → eq_by_cmp name_cmp q q ≡ true
name_itself q = ap is_eq (tied_itself name_cmp_total q)

-- what a wire has once a packet is put into it
module _ (wire : Wire) (name : MessageName) (packet : Packet) where
  pub inserted_own : tree.get (tree.insert wire name packet) name ≡ Some packet
  inserted_own = tree.get-insert name_cmp_total wire name packet name ∙ ap (λ b. cond b (Some packet) (tree.get wire name)) (name_itself name)

  pub inserted_apart : (q : MessageName) → q ≢ name → tree.get (tree.insert wire name packet) q ≡ tree.get wire q
  inserted_apart q apart = tree.get-insert name_cmp_total wire name packet q ∙ ap (λ b. cond b (Some packet) (tree.get wire q)) (name_apart q name apart)

-- the packet as which a request stands in the wire
abbrev pub packet_of : NodeId × PeerReq → Packet
packet_of send = Request send.0 (ask_bytes send.1)

send_got : (wire : Wire) (send : NodeId × PeerReq) (name : MessageName)
    → tree.get (wire_with_request wire send) name ≡ cond (eq_by_cmp name_cmp name (request_name send.1)) (Some (packet_of send)) (tree.get wire name)
send_got wire send name = tree.get-insert name_cmp_total wire (request_name send.1) (packet_of send) name

-- sends leave what has another name
pub sends_apart : (sends : Sends) (wire : Wire) (name : MessageName)
    → ((send : NodeId × PeerReq) → Contains sends send → request_name send.1 ≢ name) → tree.get (fold wire_with_request wire sends) name ≡ tree.get wire name
sends_apart [] wire name apart = refl
sends_apart (one ∷ rest) wire name apart =
    sends_apart rest (wire_with_request wire one) name (λ (send : NodeId × PeerReq) (there : Contains rest send). apart send (Contains-cons one rest send there))
    ∙ inserted_apart wire (request_name one.1) (packet_of one) name (λ (same : name ≡ request_name one.1). apart one (Contains-first one one rest refl) (sym same))

-- each send that is numbered with the others is there
pub sends_there : (first : ℕ) (sends : Sends) (wire : Wire) (send : NodeId × PeerReq) → AreNumberedFrom first sends → Contains sends send
    → tree.get (fold wire_with_request wire sends) (request_name send.1) ≡ Some (packet_of send)
unfolding later_numbers first_number
sends_there first [] wire send numbers there = absurd (Contains-nil send there)
sends_there first (one ∷ rest) wire send numbers there = ⊎_elim
    (λ (same : one ≡ send). subst
    (λ (s : NodeId × PeerReq). tree.get (fold wire_with_request (wire_with_request wire one) rest) (request_name s.1) ≡ Some (packet_of s)) same
    (sends_apart rest (wire_with_request wire one) (request_name one.1)
    (λ (other : NodeId × PeerReq) (later : Contains rest other) (alike : request_name other.1 ≡ request_name one.1).
    let own : one.1.number ≡ first = ap first_number numbers in
    let (low, high) = numbers_within (first + 1) rest other (ap later_numbers numbers) later in
    let equal : other.1.number ≡ one.1.number = ap (λ (name : MessageName). name.number) alike in
    absurd (omega (arith, own, low, equal)))
    ∙ inserted_own wire (request_name one.1) (packet_of one)))
    (λ (later : Contains rest send). sends_there (first + 1) rest (wire_with_request wire one) send (ap later_numbers numbers) later)
    (Contains-cons_cases one rest send there)

-- a packet that is one of some sends
abbrev pub IsSent : Sends → MessageName → Packet → Type 0
IsSent sends name packet = (send : NodeId × PeerReq) × Contains sends send × (request_name send.1 ≡ name) × (packet_of send ≡ packet)

got_send : (wire : Wire) (send : NodeId × PeerReq) (name : MessageName) (packet : Packet) → tree.get (wire_with_request wire send) name ≡ Some packet
    → ((request_name send.1 ≡ name) × (packet_of send ≡ packet)) ⊎ (tree.get wire name ≡ Some packet)
got_send wire send name packet got = by_tie (eq_by_cmp name_cmp name (request_name send.1)) refl (sym (send_got wire send name) ∙ got)
  where
    by_tie : (b : Bool) → eq_by_cmp name_cmp name (request_name send.1) ≡ b → cond b (Some (packet_of send)) (tree.get wire name) ≡ Some packet
        → ((request_name send.1 ≡ name) × (packet_of send ≡ packet)) ⊎ (tree.get wire name ≡ Some packet)
    by_tie true tie is = inl (sym (name_tied name (request_name send.1) tie), same_Some (packet_of send) packet is)
    by_tie false tie is = inr is

-- what is in the wire after sends is one of them, or was there
pub got_sent : (sends : Sends) (wire : Wire) (name : MessageName) (packet : Packet) → tree.get (fold wire_with_request wire sends) name ≡ Some packet
    → IsSent sends name packet ⊎ (tree.get wire name ≡ Some packet)
got_sent [] wire name packet got = inr got
got_sent (one ∷ rest) wire name packet got = ⊎_elim
    (λ (found : IsSent rest name packet).
    let (send, there, named, is) = found in
    inl (send, Contains-cons one rest send there, named, is))
    (λ (before : tree.get (wire_with_request wire one) name ≡ Some packet). ⊎_elim
    (λ (own : (request_name one.1 ≡ name) × (packet_of one ≡ packet)). inl (one, Contains-first one one rest refl, own.0, own.1))
    (λ (old : tree.get wire name ≡ Some packet). inr old)
    (got_send wire one name packet before))
    (got_sent rest (wire_with_request wire one) name packet got)

-- ---- a node that sends

-- what a step makes of what a node waits for: the messages whose numbers stay are still waited for, and those that it sends
pub record Asking (Stays : ℕ → Type 0) (old new : Node) (sends : Sends) : Type 0 where
  pub me_so : new.me ≡ old.me
  pub count_so : new.sends ≡ old.sends + length sends
  pub numbers : AreNumberedFrom old.sends sends
  pub own : (send : NodeId × PeerReq) → Contains sends send → send.1.from ≡ old.me
  pub read : (send : NodeId × PeerReq) → Contains sends send → ask_in (ask_bytes send.1) ≡ Ok send.1
  pub asked : (send : NodeId × PeerReq) → Contains (asked_by new) send → (Contains (asked_by old) send × Stays send.1.number) ⊎ Contains sends send
  pub waits_on : (number : ℕ) → node_awaits number old ≡ true → Stays number → node_awaits number new ≡ true
  pub waits_too : (send : NodeId × PeerReq) → Contains sends send → node_awaits send.1.number new ≡ true
  pub fits_on : (rsp : PeerRsp) → rsp.number < old.sends → Stays rsp.number → fits_node rsp old ≡ true → fits_node rsp new ≡ true

-- what a step makes of what its node waits for, where what it sends can be spelled
abbrev pub DoesAsk : (ℕ → Type 0) → Input → Node → Type 0
DoesAsk Stays input node = All (λ (send : NodeId × PeerReq). IsPeerReq send.1) (node_step input node).outputs.sends
    → Asking Stays node (node_step input node).node (node_step input node).outputs.sends
