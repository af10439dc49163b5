-- What a node knows of its levels' targets, that its recovery's messages have different numbers, and what may be told of a row.
use Rattle.std.proofs.Common.{◌≡◌, ◌⊎◌, inl, inr, ⊎_elim, arith, ℕ, zero, suc, ◌+◌, ◌≤◌, ◌<◌, ◌==◌, true, false, List, [], ◌∷◌, Contains}
use Rattle.std.proofs.Common.{Option, Some, None, refl, sym, ap, subst, ◌∙◌}
use Rattle.std.specs.Option.{option_or, option_map_or}
use Rattle.std.proofs.lemmas.Bool.{cases_lt, eq-eqb, eqb-true, or_left, or_right}
use Rattle.std.proofs.lemmas.List.Folds.{find-append}
use Rattle.proof_tools.proofs.Booleans.{cond_either}
use Rattle.proof_tools.proofs.Lists.{Contains-nil, Contains-cons_cases, find-contains}
use Rattle.object_id.specs.declared.entry.Entry.{Entry}
use Rattle.object_id.specs.declared.entry.Member.{Member}
use Rattle.object_id.specs.declared.node.Epoch.{Epoch}
use Rattle.object_id.specs.declared.node.NodeId.{NodeId}
use Rattle.object_id.specs.declared.policy.Policy.{Policy}
use Rattle.object_id.specs.Oid.{kind_of}
use Rattle.object_id.specs.Policy.{wanted_of}
use Rattle.epoch_log.specs.Epochs.{epoch_of, members_in}
use Rattle.hash_ring.specs.Circle.{hash_of_object}
use Rattle.hash_ring.specs.Placement.{targets_of}
use Rattle.vdi_directory.specs.Decisions.{log_effects}
use Rattle.peer_proto.specs.declared.ask.PeerAsk.{PeerAsk}
use Rattle.peer_proto.specs.declared.ask.PeerAsk.TheVariants as asks
use Rattle.peer_proto.specs.declared.say.PeerRsp.{PeerRsp}
use Rattle.peer_proto.specs.declared.say.PeerSay.{PeerSay}
use Rattle.peer_proto.specs.declared.say.PeerSay.TheVariants as says
use Rattle.vnode_table.specs.Epochs.{EpochMembers, is_entered, members_at}
use Rattle.vnode_table.specs.Targets.{targets_in}
use Rattle.recovery.specs.Fits.{is_list, fits_message, fits_recovery}
use Rattle.recovery.specs.Shown.{live_policy}
use Rattle.recovery.specs.State.{Message, Search, Recovery, RecoveryState, is_listed, can_tick, has_number, message_of, all_unanswered}
use Rattle.recovery.specs.Tick.{next_search, request_message, messages_to, asked_of, level_asked, level_messages, lists_asked}
use Rattle.recovery.specs.Tick.{tick_messages}
use Rattle.sheep_node.specs.declared.input.Input.{Input}
use Rattle.sheep_node.specs.declared.input.Input.TheVariants as inputs
use Rattle.sheep_node.specs.LogReading.{epochs_up_to}
use Rattle.sheep_node.specs.May.{fits_node}
use Rattle.sheep_node.specs.RecoveryView.{recovery_state_of}
use Rattle.sheep_node.specs.State.{Node}
use Rattle.sheep_node.specs.StepFacts.{epochs_of}
use Rattle.sheep_node.specs.StepState.{at_first}
use Rattle.sheep_node.specs.Changes.{input_received}
use Rattle.overlap_law.specs.Each.{policy_in}
use Rattle.overlap_law.specs.Holders.{targets_by}
use Rattle.overlap_law.proofs.AskedMessages.{AreNumberedApart, IsRowSay, none_numbered}
use Rattle.overlap_law.proofs.EpochsInRuns.{members_read}
use Rattle.overlap_law.proofs.LackedAtEntries.{policy_stays}
use Rattle.overlap_law.proofs.ListAnswers.{IsTicked, IsGoingOn, IsBegun, recovery_moves}
use Rattle.overlap_law.proofs.ReadInMoments.{HasReadOf}
use Rattle.overlap_law.proofs.RecoveryMessages.{idle_before_tick}

-- ---- the targets that a node knows

-- each epoch up to the newest was entered
entered_each : (entries : List Entry) (most epoch : ℕ) → 1 ≤ epoch → epoch ≤ most → is_entered (epochs_up_to entries most) epoch ≡ true
unfolding epochs_up_to
entered_each entries zero epoch some within = absurd (omega (arith, some, within))
entered_each entries (suc most) epoch some within = ⊎_elim
    (λ (newest : most < epoch).
    or_left (suc most == epoch) (is_entered (epochs_up_to entries most) epoch) (eq-eqb (suc most) epoch (omega (arith, newest, within))))
    (λ (earlier : epoch ≤ most).
    or_right (suc most == epoch) (is_entered (epochs_up_to entries most) epoch) (entered_each entries most epoch some earlier))
    (cases_lt most epoch)

entered_of : (entries : List Entry) (epoch : ℕ) → 1 ≤ epoch → epoch ≤ epoch_of entries → 2 ≤ epoch_of entries
    → is_entered (epochs_of entries) epoch ≡ true
entered_of [] epoch some within later = absurd (omega (arith, later))
entered_of (first ∷ entries) epoch some within later = entered_each (first ∷ entries) (epoch_of (first ∷ entries)) epoch some within

-- they are those of the log
pub node_targets : (log : List Entry) (n : ℕ) (node : Node) → HasReadOf log n node.me node.peer → node.epochs ≡ epochs_of node.peer.entries
    → (level : ℕ) → 1 ≤ level → level ≤ node.peer.epoch → 2 ≤ node.peer.epoch → (oid : ℕ) (policy : Policy)
    → targets_in node.epochs level oid policy ≡ targets_by log level oid policy
unfolding targets_in targets_by
node_targets log n node read epochs_so level some within later oid policy =
    let own = read.epoch_so in
    ap (λ (members : List Member). targets_of members (hash_of_object oid) (wanted_of policy (kind_of oid)))
    (ap (λ (epochs : List EpochMembers). members_at epochs level) epochs_so
    ∙ members_read node.peer.entries read.front.rest level
    (entered_of node.peer.entries level some (omega (arith, own, within)) (omega (arith, own, later)))
    ∙ ap (λ (all : List Entry). members_in all level) (sym read.front.is))

pub node_knows : (log : List Entry) (n : ℕ) (node : Node) → HasReadOf log n node.me node.peer → (oid : ℕ) (policy : Policy)
    → policy_in (log_effects node.peer.entries) oid ≡ Some policy → policy_in (log_effects log) oid ≡ Some policy
node_knows log n node read oid policy known =
    ap (λ (all : List Entry). policy_in (log_effects all) oid) read.front.is
    ∙ policy_stays node.peer.entries read.front.rest oid policy known

-- ---- numbers

from_first : (recovery : Recovery) (first wanted : ℕ) (ask : PeerAsk) (nodes : List NodeId) (message : Message)
    → Contains (messages_to recovery first wanted ask nodes) message → first ≤ message.request.number
from_first recovery first wanted ask [] message there = absurd (Contains-nil message there)
from_first recovery first wanted ask (node ∷ nodes) message there = ⊎_elim
    (λ (here : request_message recovery wanted ask (first, node) ≡ message).
    (let own : first ≡ message.request.number = ap (λ (m : Message). m.request.number) here in omega (arith, own)))
    (λ (later : Contains (messages_to recovery (first + 1) wanted ask nodes) message).
    (let rest = from_first recovery (first + 1) wanted ask nodes message later in omega (arith, rest)))
    (Contains-cons_cases (request_message recovery wanted ask (first, node))
    (messages_to recovery (first + 1) wanted ask nodes) message there)

module _ (recovery : Recovery) (first wanted : ℕ) (ask : PeerAsk) (node : NodeId) (nodes : List NodeId) where
  abbrev head : Message
  head = request_message recovery wanted ask (first, node)

  abbrev tail : List Message
  tail = messages_to recovery (first + 1) wanted ask nodes

  both_apart : (message other : Message) → (head ≡ message) ⊎ Contains tail message → (head ≡ other) ⊎ Contains tail other
      → message.request.number ≡ other.request.number → (Contains tail message → Contains tail other → message ≡ other) → message ≡ other
  both_apart message other (inl one) (inl two) same rest = sym one ∙ two
  both_apart message other (inl one) (inr two) same rest =
      let own : first ≡ message.request.number = ap (λ (m : Message). m.request.number) one in
      let more : first + 1 ≤ other.request.number = from_first recovery (first + 1) wanted ask nodes other two in
      absurd (omega (arith, own, more, same))
  both_apart message other (inr one) (inl two) same rest =
      let own : first ≡ other.request.number = ap (λ (m : Message). m.request.number) two in
      let more : first + 1 ≤ message.request.number = from_first recovery (first + 1) wanted ask nodes message one in
      absurd (omega (arith, own, more, same))
  both_apart message other (inr one) (inr two) same rest = rest one two

apart_to : (recovery : Recovery) (first wanted : ℕ) (ask : PeerAsk) (nodes : List NodeId)
    → AreNumberedApart (messages_to recovery first wanted ask nodes)
apart_to recovery first wanted ask [] message other there at same = absurd (Contains-nil message there)
apart_to recovery first wanted ask (node ∷ nodes) message other there at same =
    both_apart recovery first wanted ask node nodes message other
    (Contains-cons_cases (request_message recovery wanted ask (first, node))
    (messages_to recovery (first + 1) wanted ask nodes) message there)
    (Contains-cons_cases (request_message recovery wanted ask (first, node))
    (messages_to recovery (first + 1) wanted ask nodes) other at) same
    (λ one two. apart_to recovery (first + 1) wanted ask nodes message other one two same)

pub none_apart : AreNumberedApart []
none_apart message other there at same = absurd (Contains-nil message there)

pub tick_apart : (first : ℕ) (state : RecoveryState) → AreNumberedApart (tick_messages first state)
unfolding tick_messages
tick_apart first state =
    cond_either AreNumberedApart (is_listed state.recovery) (option_map_or (level_messages first state) (next_search state) [])
    (lists_asked first state.recovery) (by_next (next_search state))
    (apart_to state.recovery first 0 asks.List state.recovery.lists.waiting)
  where
    by_policy : (search : Search) (o : Option Policy) → AreNumberedApart (option_map_or (level_asked first state search) o [])
    by_policy search None = none_apart
    by_policy search (Some policy) =
        apart_to state.recovery first (wanted_of policy (kind_of search.oid)) (asks.RecoverRead search.oid (record { 0 = search.level }))
        (asked_of state policy search)

    by_next : (o : Option Search) → AreNumberedApart (option_map_or (level_messages first state) o [])
    by_next None = none_apart
    by_next (Some search) = by_policy search (live_policy state.shown search.oid)

-- what an input has to meet: a reply fits, and a tick may be made
abbrev pub MayAsk : Input → Node → Type 0
MayAsk (inputs.Reply rsp) node = fits_node rsp node ≡ true
MayAsk inputs.RecoverTick node = can_tick (recovery_state_of node) ≡ true
MayAsk _ node = Unit {0}

module _ (input : Input) (node : Node) (may : MayAsk input node) (apart : AreNumberedApart node.recovery.unanswered) where
  abbrev received : Recovery
  received = (input_received input (at_first node)).node.recovery

  of_begun : received.unanswered ≡ [] → AreNumberedApart received.unanswered
  of_begun none = subst AreNumberedApart (sym none) none_apart

  not_both : input ≡ inputs.RecoverTick → (message : Message) → Contains node.recovery.unanswered message → ⊥
  not_both ticks message there =
      Contains-nil message (subst (λ (messages : List Message). Contains messages message)
      (idle_before_tick (recovery_state_of node) (subst (λ (i : Input). MayAsk i node) ticks may)) there)

  by_cases : (message other : Message) → Contains node.recovery.unanswered message ⊎ IsTicked input node message
      → Contains node.recovery.unanswered other ⊎ IsTicked input node other → message.request.number ≡ other.request.number
      → message ≡ other
  by_cases message other (inl one) (inl two) same = apart message other one two same
  by_cases message other (inl one) (inr two) same = absurd (not_both two.0 message one)
  by_cases message other (inr one) (inl two) same = absurd (not_both one.0 other two)
  by_cases message other (inr one) (inr two) same =
      tick_apart node.sends (recovery_state_of node) message other one.1 two.1 same

  pub received_apart : AreNumberedApart received.unanswered
  received_apart = by_moves (recovery_moves input node)
    where
      by_moves : IsGoingOn input node received ⊎ IsBegun node.recovery.me received ⊎ IsBegun node.me received
          → AreNumberedApart received.unanswered
      by_moves (inl going) = λ message other there at same.
          by_cases message other (going.unanswered message there) (going.unanswered other at) same
      by_moves (inr (inl begun)) = of_begun begun.unanswered
      by_moves (inr (inr begun)) = of_begun begun.unanswered

-- ---- what may be told

module _ (rsp : PeerRsp) (state : RecoveryState) (fits : fits_recovery rsp state ≡ true)
    (apart : AreNumberedApart state.recovery.unanswered)
    (message : Message) (there : Contains state.recovery.unanswered message) (own : message.request.number ≡ rsp.number) where
  found : message_of rsp.number state.recovery.unanswered ≡ Some message
  found = by_found (message_of rsp.number state.recovery.unanswered) refl
    where
      by_found : (o : Option Message) → message_of rsp.number state.recovery.unanswered ≡ o
          → message_of rsp.number state.recovery.unanswered ≡ Some message
      by_found None none = absurd (none_numbered rsp.number state.recovery.unanswered none message there own)
      by_found (Some other) is =
          let (at, passes) = find-contains (has_number rsp.number) state.recovery.unanswered other is in
          is ∙ ap (λ (m : Message). Some m) (apart other message at there (eqb-true other.request.number rsp.number passes ∙ sym own))

  found_in_all : message_of rsp.number (all_unanswered state.recovery) ≡ Some message
  found_in_all =
      find-append (has_number rsp.number) state.recovery.unanswered state.recovery.older
      ∙ ap (λ (o : Option Message). option_or o (message_of rsp.number state.recovery.older)) found

  pub row_say : (oid : ℕ) (level : Epoch) → message.request.ask ≡ asks.RecoverRead oid level → IsRowSay (Some rsp.say)
  row_say oid level asked =
      by_say rsp.say (ap (λ (o : Option Message). fits_message state.shown o rsp.say) (sym found_in_all) ∙ fits)
    where
      by_say : (say : PeerSay) → fits_message state.shown (Some message) say ≡ true → IsRowSay (Some say)
      by_say says.Success is = absurd (cc (is))
      by_say (says.Piece bytes) is = absurd (cc (is))
      by_say (says.Objects oids) is =
          let no : is_list message.request.ask ≡ false = ap is_list asked in
          absurd (cc (no, is))
      by_say (says.Row row) is = tt
      by_say says.NoRow is = tt
      by_say (says.Refused refusal) is = tt
