-- A recovery that hears of a message waits for the others as before; and a message that leaves the wire.
use Rattle.std.proofs.Common.{◌≡◌, ◌≢◌, inl, ℕ, ◌+◌, ◌==◌, Bool, true, false, not, ◌||◌, cond, List, [], ◌∷◌, ◌++◌, map, filter, flat_map, find, Contains, Option, Some, None, is_some, Result, Ok, Err, refl, sym, ap, subst, ◌∙◌, ⊎_elim}
use native.Mathlib.Omega.{arith}
use Rattle.std.specs.Ordering.{eq_by_cmp}
use Rattle.std.specs.List.{list_any}
use Rattle.std.specs.FinMap as tree
use Rattle.std.proofs.lemmas.Bool.{eq-eqb, eqb-true, eqb-false, or_cases, or_left, or_right}
use Rattle.std.proofs.lemmas.List.Elements.{Contains-append_left, Contains-append_right, Contains-append_cases, filter-append}
use Rattle.proof_tools.proofs.Lists.{Contains-first, Contains-cons, Contains-cons_cases, Contains-nil}
use Rattle.object_id.specs.declared.node.Epoch.{Epoch}
use Rattle.object_id.specs.declared.node.NodeId.{NodeId}
use Rattle.object_store.specs.declared.row.RowCopy.{RowCopy}
use Rattle.peer_proto.specs.declared.ask.PeerAsk.{PeerAsk}
use Rattle.peer_proto.specs.declared.ask.PeerAsk.TheVariants as asks
use Rattle.peer_proto.specs.declared.ask.PeerReq.{PeerReq}
use Rattle.peer_proto.specs.declared.say.PeerSay.{PeerSay}
use Rattle.peer_proto.specs.declared.say.PeerSay.TheVariants as says
use Rattle.peer_proto.specs.declared.say.PeerRsp.{PeerRsp}
use Rattle.gateway.specs.declared.message.Message.{Message as Sent}
use Rattle.gateway.specs.Attempt.{is_unanswered, is_awaited_message, send_of}
use Rattle.gateway.specs.State as gateways
use Rattle.gateway.specs.State.{Work, WorkStage, Open, Ended, WaitsForMembers, open_messages, is_awaited_in}
use Rattle.recovery.specs.Shown.{NodeView, is_asked_row}
use Rattle.recovery.specs.State as recoveries
use Rattle.recovery.specs.State.{Message}
use Rattle.recovery.specs.Fits as recovery_fits
use Rattle.recovery.specs.Steps.{messages_without, message_end}
use Rattle.recovery.proofs.StepLemmas.{frame_of_end}
use Rattle.sheep_node.specs.State.{Node}
use Rattle.sheep_node.specs.RecoveryView.{recovery_state_of}
use Rattle.sheep_node.specs.StepState.{at_first}
use Rattle.sheep_node.specs.Step.{recovery_stepped}
use Rattle.message_wire.specs.declared.name.MessageName.{MessageName}
use Rattle.peer_proto.specs.declared.fault.PeerFault.{PeerFault}
use Rattle.message_wire.specs.declared.packet.Packet.{Packet}
use Rattle.message_wire.specs.Message.{name_cmp}
use Rattle.sheep_world.specs.WireMatch.{unanswered_in, asked_by_gateway, asked_by_recovery}
use Rattle.message_wire.proofs.NameOrder.{name_cmp_total}
use Rattle.sheep_node.proofs.MessageNumbers.{Sends}
use Rattle.sheep_world.proofs.WireAfterSends.{Wire, name_apart, name_itself}
use Rattle.sheep_world.proofs.AskedByTick.{AsksFrom}

-- every number but one
abbrev pub Other : ℕ → ℕ → Type 0
Other number q = q ≢ number

-- ---- a gateway waits for what it asks

-- the messages of an attempt that aren't answered
abbrev pub open_of : List Sent → List Sent
open_of messages = filter (λ (message : Sent). is_unanswered message.status) messages

awaited_among : (me : NodeId) (work : Work) (epoch : Epoch) (messages : List Sent) (send : NodeId × PeerReq)
    → Contains (map (send_of me epoch work.work) (open_of messages)) send
    → list_any (is_awaited_message send.1.number) messages ≡ true
awaited_among me work epoch [] send there = absurd (Contains-nil send there)
awaited_among me work epoch (message ∷ messages) send there =
    by_status (is_unanswered message.status) refl (awaited_among me work epoch messages send) there
  where
    here : (b : Bool) → b ≡ true → is_unanswered message.status ≡ true → (cond b (is_unanswered message.status) false || list_any (is_awaited_message send.1.number) messages) ≡ true
    here true same unanswered = ap (λ (b : Bool). b || list_any (is_awaited_message send.1.number) messages) unanswered
    here false same unanswered = absurd (cc (same))

    behind : (b : Bool) → list_any (is_awaited_message send.1.number) messages ≡ true → (b || list_any (is_awaited_message send.1.number) messages) ≡ true
    behind true is = refl
    behind false is = is

    by_status : (b : Bool) → is_unanswered message.status ≡ b
        → (Contains (map (send_of me epoch work.work) (open_of messages)) send → list_any (is_awaited_message send.1.number) messages ≡ true)
        → Contains (map (send_of me epoch work.work) (cond b (message ∷ open_of messages) (open_of messages))) send
        → (is_awaited_message send.1.number message || list_any (is_awaited_message send.1.number) messages) ≡ true
    by_status true unanswered later there = ⊎_elim
        (λ (same : send_of me epoch work.work message ≡ send).
        here (message.number == send.1.number) (eq-eqb message.number send.1.number (ap (λ (s : NodeId × PeerReq). s.1.number) same)) unanswered)
        (λ (behind_it : Contains (map (send_of me epoch work.work) (open_of messages)) send). behind (is_awaited_message send.1.number message) (later behind_it))
        (Contains-cons_cases (send_of me epoch work.work message) (map (send_of me epoch work.work) (open_of messages)) send there)
    by_status false answered later there = behind (is_awaited_message send.1.number message) (later there)

pub awaited_at : (me : NodeId) (work : Work) (stage : WorkStage) (send : NodeId × PeerReq) → Contains (unanswered_in me work stage) send
    → list_any (is_awaited_message send.1.number) (open_messages stage) ≡ true
awaited_at me work (Open attempt) send there = awaited_among me work attempt.epoch attempt.messages send there
awaited_at me work Ended send there = absurd (Contains-nil send there)
awaited_at me work (WaitsForMembers epoch) send there = absurd (Contains-nil send there)

abbrev asker_in : ℕ → List (ℕ × Work) → Option (ℕ × Work)
asker_in number entries = find (λ (entry : ℕ × Work). is_awaited_in number entry.1) entries

found_for : (me : NodeId) (entries : List (ℕ × Work)) (send : NodeId × PeerReq)
    → Contains (flat_map (λ (entry : ℕ × Work). unanswered_in me entry.1 entry.1.stage) entries) send
    → is_some (find (λ (entry : ℕ × Work). is_awaited_in send.1.number entry.1) entries) ≡ true
found_for me [] send there = absurd (Contains-nil send there)
found_for me (entry ∷ entries) send there = ⊎_elim
    (λ (own : Contains (unanswered_in me entry.1 entry.1.stage) send). here (is_awaited_in send.1.number entry.1) (awaited_at me entry.1 entry.1.stage send own))
    (λ (later : Contains (flat_map (λ (entry : ℕ × Work). unanswered_in me entry.1 entry.1.stage) entries) send).
    behind (is_awaited_in send.1.number entry.1) (found_for me entries send later))
    (Contains-append_cases (unanswered_in me entry.1 entry.1.stage)
    (flat_map (λ (entry : ℕ × Work). unanswered_in me entry.1 entry.1.stage) entries) send there)
  where
    here : (b : Bool) → b ≡ true → is_some (cond b (Some entry) (asker_in send.1.number entries)) ≡ true
    here true is = refl
    here false is = absurd (cc (is))

    behind : (b : Bool) → is_some (asker_in send.1.number entries) ≡ true → is_some (cond b (Some entry) (asker_in send.1.number entries)) ≡ true
    behind true is = refl
    behind false is = is

-- what a gateway asks and isn't answered, it waits for
pub waits_for_asked : (me : NodeId) (gateway : gateways.Gateway) (send : NodeId × PeerReq) → Contains (asked_by_gateway me gateway) send
    → gateways.gateway_awaits send.1.number gateway ≡ true
waits_for_asked me gateway send there = found_for me (tree.entries gateway.works) send there

-- ---- the messages but for one

-- messages as they are sent
abbrev pairs_of : List Message → Sends
pairs_of messages = map (λ (message : Message). (message.to, message.request)) messages

kept_apart : (number : ℕ) (messages : List Message) (send : NodeId × PeerReq)
    → Contains (pairs_of (messages_without number messages)) send
    → Contains (pairs_of messages) send × (send.1.number ≢ number)
kept_apart number [] send there = absurd (Contains-nil send there)
kept_apart number (message ∷ messages) send there =
    by_tie (message.request.number == number) refl (kept_apart number messages send) there
  where
    later : Contains (pairs_of messages) send × (send.1.number ≢ number) → Contains ((message.to, message.request) ∷ pairs_of messages) send × (send.1.number ≢ number)
    later (there, apart) = (Contains-cons (message.to, message.request) (pairs_of messages) send there, apart)

    by_tie : (b : Bool) → (message.request.number == number) ≡ b → (Contains (pairs_of (messages_without number messages)) send → Contains (pairs_of messages) send × (send.1.number ≢ number))
        → Contains (pairs_of (cond (not b) (message ∷ messages_without number messages) (messages_without number messages))) send
        → Contains ((message.to, message.request) ∷ pairs_of messages) send × (send.1.number ≢ number)
    by_tie true tie rest there = later (rest there)
    by_tie false tie rest there = ⊎_elim
        (λ (same : (message.to, message.request) ≡ send). (
          Contains-first (message.to, message.request) send (pairs_of messages) same,
          λ (is : send.1.number ≡ number). eqb-false message.request.number number tie (ap (λ (s : NodeId × PeerReq). s.1.number) same ∙ is),
        ))
        (λ (behind : Contains (pairs_of (messages_without number messages)) send). later (rest behind))
        (Contains-cons_cases (message.to, message.request) (pairs_of (messages_without number messages)) send there)

-- a message of another number is found as before
same_message : (number q : ℕ) (messages : List Message) → q ≢ number
    → recoveries.message_of q (messages_without number messages) ≡ recoveries.message_of q messages
same_message number q [] apart = refl
same_message number q (message ∷ messages) apart =
    by_tie (message.request.number == number) refl (same_message number q messages apart)
  where
    other : (b : Bool) → (message.request.number == q) ≡ b → message.request.number ≡ number
        → recoveries.message_of q messages ≡ cond b (Some message) (recoveries.message_of q messages)
    other true tie is = absurd (apart (sym (eqb-true message.request.number q tie) ∙ is))
    other false tie is = refl

    by_tie : (b : Bool) → (message.request.number == number) ≡ b
        → recoveries.message_of q (messages_without number messages) ≡ recoveries.message_of q messages
        → recoveries.message_of q (cond (not b) (message ∷ messages_without number messages) (messages_without number messages))
        ≡ cond (message.request.number == q) (Some message) (recoveries.message_of q messages)
    by_tie true tie rest = rest ∙ other (message.request.number == q) refl (eqb-true message.request.number number tie)
    by_tie false tie rest = ap (λ (o : Option Message). cond (message.request.number == q) (Some message) o) rest

same_row : (one other : NodeView) (wanted : ℕ) (ask : PeerAsk) (row : RowCopy) → one.size_of ≡ other.size_of
    → recovery_fits.fits_row one wanted ask row ≡ recovery_fits.fits_row other wanted ask row
same_row one other wanted (asks.Create key size offset bytes) row same = refl
same_row one other wanted (asks.Write key offset bytes) row same = refl
same_row one other wanted (asks.Read key offset size) row same = refl
same_row one other wanted asks.List row same = refl
same_row one other wanted (asks.RecoverRead oid level) row same =
    ap (λ (size_of : ℕ → Option ℕ). is_asked_row level.0 wanted (size_of oid) row) same

-- what fits depends on the lengths of rows alone
pub same_fit : (one other : NodeView) (message : Option Message) (say : PeerSay) → one.size_of ≡ other.size_of
    → recovery_fits.fits_message one message say ≡ recovery_fits.fits_message other message say
same_fit one other None say same = refl
same_fit one other (Some message) says.Success same = refl
same_fit one other (Some message) (says.Piece bytes) same = refl
same_fit one other (Some message) (says.Objects oids) same = refl
same_fit one other (Some message) (says.Row row) same = same_row one other message.wanted message.request.ask row same
same_fit one other (Some message) says.NoRow same = refl
same_fit one other (Some message) (says.Refused refusal) same = refl

-- ---- the end of a recovery's message

module _ (node : Node) (number : ℕ) (said : Option PeerSay) (none : gateways.gateway_awaits number node.gateway ≡ false) where
  pub left_now : recoveries.all_unanswered (message_end number said (recovery_state_of node)).recovery ≡ messages_without number (recoveries.all_unanswered node.recovery)
  left_now =
      let frame = frame_of_end number said (recovery_state_of node) in
      (λ i. (frame i).unanswered ++ (frame i).older)
      ∙ sym (filter-append (λ message. not (recoveries.has_number number message)) node.recovery.unanswered node.recovery.older)

  pub end_asks : AsksFrom (Other number) node (recovery_stepped (message_end number said (recovery_state_of node)) (at_first node))
  end_asks =
      let state = message_end number said (recovery_state_of node) in
      let gateway = asked_by_gateway node.me node.gateway in
      let no_more : node.sends ≡ node.sends + 0 = omega arith in
      record {
        me_so = refl;
        count_so = no_more;
        numbers = refl;
        own = λ send there. absurd (Contains-nil send there);
        read = λ send there. absurd (Contains-nil send there);
        asked = λ send there. inl (⊎_elim
            (λ (held : Contains gateway send). (
              Contains-append_left gateway (asked_by_recovery node.recovery) send held,
              λ (same : send.1.number ≡ number).
                  let waits = waits_for_asked node.me node.gateway send held in
                  let waits_so : gateways.gateway_awaits number node.gateway ≡ true
                  = subst (λ (q : ℕ). gateways.gateway_awaits q node.gateway ≡ true) same waits in
                  absurd (cc (waits_so, none)),
            ))
            (λ (left : Contains (asked_by_recovery state.recovery) send).
            let (was, apart) = kept_apart number (recoveries.all_unanswered node.recovery) send
            (subst (λ (messages : List Message). Contains (map (λ (message : Message). (message.to, message.request)) messages) send) left_now left) in
            (Contains-append_right gateway (asked_by_recovery node.recovery) send was, apart))
            (Contains-append_cases gateway (asked_by_recovery state.recovery) send there));
        waits_on = λ q waits apart. ⊎_elim
            (λ (held : gateways.gateway_awaits q node.gateway ≡ true).
            or_left (gateways.gateway_awaits q node.gateway) (recoveries.recovery_awaits q state.recovery) held)
            (λ (waited : recoveries.recovery_awaits q node.recovery ≡ true).
            or_right (gateways.gateway_awaits q node.gateway) (recoveries.recovery_awaits q state.recovery)
            (ap (λ (messages : List Message). is_some (recoveries.message_of q messages)) left_now
            ∙ ap is_some (same_message number q (recoveries.all_unanswered node.recovery) apart) ∙ waited))
            (or_cases (gateways.gateway_awaits q node.gateway) (recoveries.recovery_awaits q node.recovery) waits);
        waits_too = λ send there. absurd (Contains-nil send there);
        fits_on = λ rsp below apart fit. ⊎_elim
            (λ (held : gateways.fits_gateway rsp node.gateway ≡ true).
            or_left (gateways.fits_gateway rsp node.gateway) (recovery_fits.fits_recovery rsp (recovery_state_of (recovery_stepped state (at_first node)).node)) held)
            (λ (fitted : recovery_fits.fits_recovery rsp (recovery_state_of node) ≡ true).
            or_right (gateways.fits_gateway rsp node.gateway) (recovery_fits.fits_recovery rsp (recovery_state_of (recovery_stepped state (at_first node)).node))
            (ap (λ (messages : List Message). recovery_fits.fits_message (recovery_state_of (recovery_stepped state (at_first node)).node).shown (recoveries.message_of rsp.number messages) rsp.say) left_now
            ∙ ap (λ (o : Option Message). recovery_fits.fits_message (recovery_state_of (recovery_stepped state (at_first node)).node).shown o rsp.say)
            (same_message number rsp.number (recoveries.all_unanswered node.recovery) apart)
            ∙ same_fit (recovery_state_of (recovery_stepped state (at_first node)).node).shown (recovery_state_of node).shown
            (recoveries.message_of rsp.number (recoveries.all_unanswered node.recovery)) rsp.say refl
            ∙ fitted))
            (or_cases (gateways.fits_gateway rsp node.gateway) (recovery_fits.fits_recovery rsp (recovery_state_of node)) fit);
      }

-- ---- a message leaves the wire

pub without_got : (wire : Wire) (name q : MessageName) (packet : Packet) → tree.get (tree.remove wire name) q ≡ Some packet
    → (q ≢ name) × (tree.get wire q ≡ Some packet)
without_got wire name q packet got =
    by_tie (eq_by_cmp name_cmp q name) refl (sym (tree.get-remove name_cmp_total wire name q) ∙ got)
  where
    untied : q ≡ name → eq_by_cmp name_cmp q name ≡ false → ⊥
    untied same tie =
        let tied : eq_by_cmp name_cmp q name ≡ true = ap (λ (n : MessageName). eq_by_cmp name_cmp q n) (sym same) ∙ name_itself q in
        absurd (cc (tied, tie))

    by_tie : (b : Bool) → eq_by_cmp name_cmp q name ≡ b → cond b None (tree.get wire q) ≡ Some packet → (q ≢ name) × (tree.get wire q ≡ Some packet)
    by_tie true tie is = absurd (cc (is))
    by_tie false tie is = (λ (same : q ≡ name). untied same tie, is)

pub without_apart : (wire : Wire) (name q : MessageName) → q ≢ name → tree.get (tree.remove wire name) q ≡ tree.get wire q
without_apart wire name q apart =
    tree.get-remove name_cmp_total wire name q ∙ ap (λ b. cond b None (tree.get wire q)) (name_apart q name apart)

asked_or : PeerReq → Result PeerReq PeerFault → PeerReq
asked_or none (Ok request) = request
asked_or none (Err fault) = none

pub same_asked : (one other : PeerReq) → ◌≡◌ {A = Result PeerReq PeerFault} (Ok one) (Ok other) → one ≡ other
unfolding asked_or
same_asked one other same = ap (asked_or one) same

said_or : PeerRsp → Result PeerRsp PeerFault → PeerRsp
said_or none (Ok rsp) = rsp
said_or none (Err fault) = none

pub same_said : (one other : PeerRsp) → ◌≡◌ {A = Result PeerRsp PeerFault} (Ok one) (Ok other) → one ≡ other
unfolding said_or
same_said one other same = ap (said_or one) same
