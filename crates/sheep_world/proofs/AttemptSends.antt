-- What an attempt asks: each of its messages as it begins, and those whose status isn't known by now.
use Rattle.std.proofs.Common.{◌≡◌, ◌≢◌, ℕ, ◌+◌, ◌==◌, Bool, true, false, not, ◌||◌, cond, List, [], ◌∷◌, map, flat_map, filter, Contains, Some, refl, sym, ap, subst, ◌∙◌, ⊎_elim}
use Rattle.std.specs.List.{list_any, enumerate_from}
use Rattle.std.specs.FinMap as tree
use Rattle.std.proofs.lemmas.Bool.{eqb-true, eqb-false, eq-eqb, or_left, or_right, or_cases}
use Rattle.std.proofs.lemmas.List.Elements.{Contains-append_cases}
use Rattle.proof_tools.proofs.Lists.{Contains-first, Contains-cons, Contains-cons_cases, Contains-nil, Contains-flat_map}
use Rattle.proof_tools.proofs.FiniteMaps.{entries-contain, get-entry}
use Rattle.object_id.specs.declared.node.Epoch.{Epoch}
use Rattle.object_id.specs.declared.node.NodeId.{NodeId}
use Rattle.peer_proto.specs.declared.ask.PeerReq.{PeerReq}
use Rattle.peer_proto.specs.declared.work.ObjWork.{ObjWork}
use Rattle.gateway.specs.declared.message.Message.{Message}
use Rattle.gateway.specs.declared.message.Status.{Status}
use Rattle.gateway.specs.Attempt.{is_unanswered, is_awaited_message, is_over, message_for, messages_with_status, send_of}
use Rattle.gateway.specs.State.{Work}
use Rattle.sheep_node.proofs.AwaitedWorks.{Works}
use Rattle.sheep_node.proofs.MessageNumbers.{Sends}
use Rattle.sheep_world.specs.WireMatch.{unanswered_in}
use Rattle.sheep_world.proofs.RecoveryMessages.{open_of}

-- what the works of a node ask
abbrev pub asked_in : NodeId → Works → Sends
asked_in me works = flat_map (λ (entry : ℕ × Work). unanswered_in me entry.1 entry.1.stage) (tree.entries works)

-- ---- an attempt that begins

module _ (me : NodeId) (epoch : Epoch) (work : ObjWork) where
  pub fresh_awaited : (first : ℕ) (targets : List (ℕ × NodeId)) (send : NodeId × PeerReq)
      → Contains (map (send_of me epoch work) (map (message_for work) (enumerate_from first targets))) send
      → list_any (is_awaited_message send.1.number) (map (message_for work) (enumerate_from first targets)) ≡ true
  fresh_awaited first [] send there = absurd (Contains-nil send there)
  fresh_awaited first (target ∷ targets) send there = ⊎_elim
      (λ (same : send_of me epoch work (message_for work (first, target)) ≡ send).
      or_left (is_awaited_message send.1.number (message_for work (first, target)))
      (list_any (is_awaited_message send.1.number) (map (message_for work) (enumerate_from (first + 1) targets)))
      (ap (λ (b : Bool). cond b true false) (eq-eqb first send.1.number (ap (λ (s : NodeId × PeerReq). s.1.number) same))))
      (λ (later : Contains (map (send_of me epoch work) (map (message_for work) (enumerate_from (first + 1) targets))) send).
      or_right (is_awaited_message send.1.number (message_for work (first, target)))
      (list_any (is_awaited_message send.1.number) (map (message_for work) (enumerate_from (first + 1) targets)))
      (fresh_awaited (first + 1) targets send later))
      (Contains-cons_cases (send_of me epoch work (message_for work (first, target))) (map (send_of me epoch work) (map (message_for work) (enumerate_from (first + 1) targets))) send there)

  pub fresh_own : (messages : List Message) (send : NodeId × PeerReq) → Contains (map (send_of me epoch work) messages) send → send.1.from ≡ me
  fresh_own [] send there = absurd (Contains-nil send there)
  fresh_own (message ∷ messages) send there = ⊎_elim
      (λ (same : send_of me epoch work message ≡ send). ap (λ (s : NodeId × PeerReq). s.1.from) (sym same))
      (λ (later : Contains (map (send_of me epoch work) messages) send). fresh_own messages send later)
      (Contains-cons_cases (send_of me epoch work message) (map (send_of me epoch work) messages) send there)

  -- the unanswered ones are some of all
  pub unanswered_all : (messages : List Message) (send : NodeId × PeerReq)
      → Contains (map (send_of me epoch work) (filter (λ (message : Message). is_unanswered message.status) messages)) send
      → Contains (map (send_of me epoch work) messages) send
  unanswered_all [] send there = there
  unanswered_all (message ∷ messages) send there = by_status (is_unanswered message.status) (unanswered_all messages send) there
    where
      by_status : (b : Bool)
          → (Contains (map (send_of me epoch work) (filter (λ (message : Message). is_unanswered message.status) messages)) send
          → Contains (map (send_of me epoch work) messages) send)
          → Contains (map (send_of me epoch work) (cond b (message ∷ filter (λ (message : Message). is_unanswered message.status) messages)
          (filter (λ (message : Message). is_unanswered message.status) messages))) send
          → Contains (map (send_of me epoch work) (message ∷ messages)) send
      by_status true rest there = ⊎_elim
          (λ (same : send_of me epoch work message ≡ send).
          Contains-first (send_of me epoch work message) send (map (send_of me epoch work) messages) same)
          (λ (later : Contains (map (send_of me epoch work) (filter (λ (message : Message). is_unanswered message.status) messages)) send).
          Contains-cons (send_of me epoch work message) (map (send_of me epoch work) messages) send (rest later))
          (Contains-cons_cases (send_of me epoch work message) (map (send_of me epoch work) (filter (λ (message : Message). is_unanswered message.status) messages)) send there)
      by_status false rest there = Contains-cons (send_of me epoch work message) (map (send_of me epoch work) messages) send (rest there)

-- ---- the messages of an attempt, of which one is marked

module _ (number : ℕ) (status : Status) (settled : is_unanswered status ≡ false) where
  -- a message that is marked
  abbrev mark : Message → Message
  mark message = cond (message.number == number) (record message { status = status }) message

  -- and what is awaited of another number is awaited still
  awaited_still : (q : ℕ) (message : Message) → q ≢ number → is_awaited_message q message ≡ true → is_awaited_message q (mark message) ≡ true
  awaited_still q message apart is = by_tie (message.number == number) refl is
    where
      other : (b : Bool) → (message.number == q) ≡ b → message.number ≡ number → cond b (is_unanswered message.status) false ≡ true
          → cond b (is_unanswered status) false ≡ true
      other true tie own is = absurd (apart (sym (eqb-true message.number q tie) ∙ own))
      other false tie own is = absurd (cc (is))

      by_tie : (b : Bool) → (message.number == number) ≡ b → is_awaited_message q message ≡ true
          → is_awaited_message q (cond b (record message { status = status }) message) ≡ true
      by_tie true tie is = other (message.number == q) refl (eqb-true message.number number tie) is
      by_tie false tie is = is

  pub all_still : (q : ℕ) (messages : List Message) → q ≢ number → list_any (is_awaited_message q) messages ≡ true
      → list_any (is_awaited_message q) (messages_with_status number status messages) ≡ true
  all_still q [] apart is = is
  all_still q (message ∷ messages) apart is = ⊎_elim
      (λ (here : is_awaited_message q message ≡ true).
      or_left (is_awaited_message q (mark message)) (list_any (is_awaited_message q) (messages_with_status number status messages)) (awaited_still q message apart here))
      (λ (later : list_any (is_awaited_message q) messages ≡ true).
      or_right (is_awaited_message q (mark message)) (list_any (is_awaited_message q) (messages_with_status number status messages)) (all_still q messages apart later))
      (or_cases (is_awaited_message q message) (list_any (is_awaited_message q) messages) is)

  -- none of the marked number is unanswered
  pub marked_sends : (me : NodeId) (work : Work) (epoch : Epoch) (messages : List Message) (send : NodeId × PeerReq)
      → Contains (map (send_of me epoch work.work) (open_of (messages_with_status number status messages))) send
      → Contains (map (send_of me epoch work.work) (open_of messages)) send × (send.1.number ≢ number)
  marked_sends me work epoch [] send there = absurd (Contains-nil send there)
  marked_sends me work epoch (message ∷ messages) send there =
      by_tie (message.number == number) refl (is_unanswered message.status) refl (marked_sends me work epoch messages send) there
    where
      later : (b : Bool) → Contains (map (send_of me epoch work.work) (open_of messages)) send × (send.1.number ≢ number)
          → Contains (map (send_of me epoch work.work) (cond b (message ∷ open_of messages) (open_of messages))) send × (send.1.number ≢ number)
      later true found = (Contains-cons (send_of me epoch work.work message) (map (send_of me epoch work.work) (open_of messages)) send found.0, found.1)
      later false found = found

      -- a message of another number
      other : (message.number == number) ≡ false → (b : Bool)
          → (Contains (map (send_of me epoch work.work) (open_of (messages_with_status number status messages))) send
          → Contains (map (send_of me epoch work.work) (open_of messages)) send × (send.1.number ≢ number))
          → Contains (map (send_of me epoch work.work) (cond b (message ∷ open_of (messages_with_status number status messages)) (open_of (messages_with_status number status messages)))) send
          → Contains (map (send_of me epoch work.work) (cond b (message ∷ open_of messages) (open_of messages))) send × (send.1.number ≢ number)
      other tie true rest there = ⊎_elim
          (λ (same : send_of me epoch work.work message ≡ send). (
            Contains-first (send_of me epoch work.work message) send (map (send_of me epoch work.work) (open_of messages)) same,
            λ (is : send.1.number ≡ number). eqb-false message.number number tie (ap (λ (s : NodeId × PeerReq). s.1.number) same ∙ is),
          ))
          (λ (behind : Contains (map (send_of me epoch work.work) (open_of (messages_with_status number status messages))) send). later true (rest behind))
          (Contains-cons_cases (send_of me epoch work.work message) (map (send_of me epoch work.work) (open_of (messages_with_status number status messages))) send there)
      other tie false rest there = rest there

      by_tie : (b : Bool) → (message.number == number) ≡ b → (c : Bool) → is_unanswered message.status ≡ c
          → (Contains (map (send_of me epoch work.work) (open_of (messages_with_status number status messages))) send
          → Contains (map (send_of me epoch work.work) (open_of messages)) send × (send.1.number ≢ number))
          → Contains (map (send_of me epoch work.work) (open_of (cond b (record message { status = status }) message ∷ messages_with_status number status messages))) send
          → Contains (map (send_of me epoch work.work) (cond c (message ∷ open_of messages) (open_of messages))) send × (send.1.number ≢ number)
      by_tie true tie c unanswered rest there =
          later c (rest (subst
          (λ (b : Bool). Contains (map (send_of me epoch work.work) (cond b (record message { status = status } ∷ open_of (messages_with_status number status messages)) (open_of (messages_with_status number status messages)))) send)
          settled there))
      by_tie false tie c unanswered rest there =
          other tie c rest (subst
          (λ (b : Bool). Contains (map (send_of me epoch work.work) (cond b (message ∷ open_of (messages_with_status number status messages)) (open_of (messages_with_status number status messages)))) send)
          unanswered there)

-- an attempt that is over awaits nothing
pub over_none : (q : ℕ) (messages : List Message) → is_over messages ≡ true → list_any (is_awaited_message q) messages ≡ false
over_none q [] over = refl
over_none q (message ∷ messages) over =
    by_status (is_unanswered message.status) refl (over_none q messages) over
  where
    none : (b : Bool) → cond b false false ≡ false
    none true = refl
    none false = refl

    by_status : (b : Bool) → is_unanswered message.status ≡ b → (is_over messages ≡ true → list_any (is_awaited_message q) messages ≡ false)
        → not (b || list_any (λ (message : Message). is_unanswered message.status) messages) ≡ true
        → (is_awaited_message q message || list_any (is_awaited_message q) messages) ≡ false
    by_status true status rest over = absurd (cc (over))
    by_status false status rest over =
        ap (λ (b : Bool). cond (message.number == q) b false || list_any (is_awaited_message q) messages) status
        ∙ ap (λ (b : Bool). b || list_any (is_awaited_message q) messages) (none (message.number == q))
        ∙ rest over

asked_among : (me : NodeId) (es : List (ℕ × Work)) (send : NodeId × PeerReq)
    → Contains (flat_map (λ (entry : ℕ × Work). unanswered_in me entry.1 entry.1.stage) es) send
    → (e : ℕ × Work) × Contains es e × Contains (unanswered_in me e.1 e.1.stage) send
asked_among me [] send there = absurd (Contains-nil send there)
asked_among me (e ∷ es) send there = ⊎_elim
    (λ (own : Contains (unanswered_in me e.1 e.1.stage) send). (e, Contains-first e e es refl, own))
    (λ (later : Contains (flat_map (λ (entry : ℕ × Work). unanswered_in me entry.1 entry.1.stage) es) send).
    let (f, there, asked) = asked_among me es send later in
    (f, Contains-cons e es f there, asked))
    (Contains-append_cases (unanswered_in me e.1 e.1.stage)
    (flat_map (λ (entry : ℕ × Work). unanswered_in me entry.1 entry.1.stage) es) send there)

pub asked_at : (me : NodeId) (m : Works) (send : NodeId × PeerReq) → Contains (asked_in me m) send
    → (e : ℕ × Work) × (tree.get m e.0 ≡ Some e.1) × Contains (unanswered_in me e.1 e.1.stage) send
asked_at me m send there =
    let (e, among, asked) = asked_among me (tree.entries m) send there in
    (e, get-entry m e among, asked)

pub asked_of : (me : NodeId) (m : Works) (req : ℕ) (work : Work) (send : NodeId × PeerReq) → tree.get m req ≡ Some work
    → Contains (unanswered_in me work work.stage) send → Contains (asked_in me m) send
asked_of me m req work send there asks =
    Contains-flat_map (λ (entry : ℕ × Work). unanswered_in me entry.1 entry.1.stage) (tree.entries m) (req, work) send
    (entries-contain tree.nat_cmp-IsAntisymmetric m req work there) asks
