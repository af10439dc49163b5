-- What an input makes of a recovery's search: it goes on, or is a new one, or its level has ended with too few rows.
use Rattle.std.proofs.Common.{◌≡◌, ℕ, ◌≤◌, Bool, true, false, cond, List, [], ◌∷◌, map, Option, Some, None, refl, sym, subst}
use Rattle.proof_tools.proofs.Booleans.{cond_either}
use Rattle.object_id.specs.declared.entry.Entry.{Entry}
use Rattle.object_id.specs.declared.entry.Member.{Member}
use Rattle.object_id.specs.declared.policy.Policy.{Policy}
use Rattle.epoch_log.specs.Epochs.{settled_of}
use Rattle.peer_proto.specs.declared.say.PeerSay.{PeerSay}
use Rattle.peer_service.specs.LogReading.{read_entry}
use Rattle.peer_service.specs.Serve.{peer_step}
use Rattle.gateway.specs.State as gateways
use Rattle.recovery.specs.State.{Search, RecoveryState, search_on, can_tick}
use Rattle.recovery.specs.Steps as recovery_steps
use Rattle.recovery.specs.Steps.{message_end}
use Rattle.recovery.specs.Tick.{next_search}
use Rattle.sheep_node.specs.declared.input.Input.{Input}
use Rattle.sheep_node.specs.declared.input.Input.TheVariants as inputs
use Rattle.sheep_node.specs.LogReading.{epoch_members, peer_with_entry, node_with_entry, recovery_in_epoch, begins_recovery}
use Rattle.sheep_node.specs.LogReading.{recovery_with_entry, entry_read, come_back_with, on_back}
use Rattle.sheep_node.specs.RecoveryView.{recovery_state_of, with_recovered_rows}
use Rattle.sheep_node.specs.State.{Node}
use Rattle.sheep_node.specs.Step.{on_request, recovery_stepped, on_put, on_recover_tick}
use Rattle.sheep_node.specs.StepState.{StepState, at_first}
use Rattle.sheep_node.specs.Changes.{input_received}
use Rattle.sheep_node.proofs.RecoverySteps.{fits_what_recovery_asked}
use Rattle.overlap_law.specs.Each.{Placing}
use Rattle.overlap_law.proofs.AskedLevels.{LevelIsAsked}
use Rattle.overlap_law.proofs.AskedMessages.{AreNumberedApart}
use Rattle.overlap_law.proofs.EndedLevels.{SearchesCome, nothing_comes, less_comes, begun_comes}
use Rattle.overlap_law.proofs.EndedSearches.{ticked_comes, ended_comes}
use Rattle.overlap_law.proofs.FirstSearches.{WaitsFirst}
use Rattle.overlap_law.proofs.FirstSearchesInRuns.{IsWithinLevels}
use Rattle.overlap_law.proofs.NumberedMessages.{MayAsk, row_say}
use Rattle.overlap_law.proofs.ListMessages.{AsksListsIn}
use Rattle.overlap_law.proofs.ListedNodes.{settled_pending}
use Rattle.overlap_law.proofs.RecoveriesOfSteps.{served_less, entered_less}

-- the number of the message that an input ends, and what is said to it
abbrev pub number_in : Input → ℕ
number_in (inputs.Reply rsp) = rsp.number
number_in (inputs.Lost number) = number
number_in _ = 0

abbrev pub said_in : Input → Option PeerSay
said_in (inputs.Reply rsp) = Some rsp.say
said_in _ = None

back_comes : (T : Placing) (known : ℕ → Option Policy) (bound : ℕ) (old : RecoveryState) (number : ℕ) (said : Option PeerSay)
    (entries : List Entry) (node : Node)
    → SearchesCome T known bound old number said (on_back entries node).recovery (on_back entries node).peer.pending
unfolding on_back
back_comes T known bound old number said entries node =
    let back : Node = come_back_with entries node in
    begun_comes T known bound old number said back.peer.epoch (map (λ (member : Member). member.node) (epoch_members back))
    (recovery_state_of back)

module _ (T : Placing) (known : ℕ → Option Policy) (bound : ℕ) (node : Node) (lists : AsksListsIn (recovery_state_of node))
    (waits : WaitsFirst node.recovery node.peer.pending) (apart : AreNumberedApart node.recovery.unanswered)
    (knows : (oid : ℕ) (policy : Policy) → (recovery_state_of node).shown.policy_of oid ≡ Some policy → known oid ≡ Some policy)
    (places : can_tick (recovery_state_of node) ≡ true → (search : Search) → next_search (recovery_state_of node) ≡ Some search
    → (search.level ≤ bound)
    × ((policy : Policy) → (recovery_state_of node).shown.targets search.level search.oid policy ≡ T search.level search.oid policy))
    (next_levels : can_tick (recovery_state_of node) ≡ true → (search : Search) → next_search (recovery_state_of node) ≡ Some search
    → IsWithinLevels node.recovery.epoch search)
    (levels : (search : Search) → search_on (recovery_state_of node) ≡ Some search → IsWithinLevels node.recovery.epoch search)
    (so : LevelIsAsked T known bound node.recovery node.peer.pending) where
  -- what an input comes to
  abbrev ComesAt : Input → Node → Type 0
  ComesAt input new =
      SearchesCome T known bound (recovery_state_of node) (number_in input) (said_in input) new.recovery new.peer.pending

  read_comes : (entry : Entry) → ComesAt (inputs.LogEntry entry) (entry_read entry node)
  unfolding entry_read
  read_comes entry =
      let old : RecoveryState = recovery_state_of node in
      let state = recovery_with_entry entry node in
      let entered : Node = node_with_entry entry node in
      subst (SearchesCome T known bound old 0 None state.recovery)
      (sym (settled_pending (settled_of (read_entry entry node.peer).entries) (with_recovered_rows state (peer_with_entry entry node))))
      (cond_either (λ (s : RecoveryState). SearchesCome T known bound old 0 None s.recovery s.shown.pending) (begins_recovery entry node)
      (recovery_in_epoch entered) (recovery_state_of entered)
      (begun_comes T known bound old 0 None entered.peer.epoch (map (λ (member : Member). member.node) (epoch_members entered))
      (recovery_state_of entered))
      (less_comes T known bound old 0 None (peer_with_entry entry node).pending (entered_less entry node)))

  pub received_comes : (input : Input) → MayAsk input node → ComesAt input (input_received input (at_first node)).node
  unfolding on_request on_recover_tick recovery_steps.recovery_on_reply recovery_steps.recovery_on_loss
  received_comes (inputs.Guest req session ask) may = nothing_comes T known bound (recovery_state_of node) 0 None
  received_comes (inputs.Request request) may =
      less_comes T known bound (recovery_state_of node) 0 None (peer_step node.peer request).peer.pending (served_less node.peer request)
  received_comes (inputs.Reply rsp) may = by_waiting (gateways.gateway_awaits rsp.number node.gateway) refl
    where
      by_waiting : (b : Bool) → gateways.gateway_awaits rsp.number node.gateway ≡ b
          → ComesAt (inputs.Reply rsp) (cond b (at_first node)
          (recovery_stepped (message_end rsp.number (Some rsp.say) (recovery_state_of node)) (at_first node))).node
      by_waiting true waits_for = nothing_comes T known bound (recovery_state_of node) rsp.number (Some rsp.say)
      by_waiting false none =
          ended_comes T known bound rsp.number (Some rsp.say) (recovery_state_of node) lists waits apart knows
          (λ message there own oid level asked.
          row_say rsp (recovery_state_of node) (fits_what_recovery_asked rsp node none may) apart message there own oid level asked) levels
          so
  received_comes (inputs.Lost number) may =
      cond_either (λ (so_far : StepState). ComesAt (inputs.Lost number) so_far.node) (gateways.gateway_awaits number node.gateway)
      (at_first node) (recovery_stepped (message_end number None (recovery_state_of node)) (at_first node))
      (nothing_comes T known bound (recovery_state_of node) number None)
      (ended_comes T known bound number None (recovery_state_of node) lists waits apart knows (λ message there own oid level asked. tt)
      levels so)
  received_comes (inputs.LogEntry entry) may = read_comes entry
  received_comes inputs.Put may = by_outbox node.outbox
    where
      by_outbox : (outbox : List Entry) → ComesAt inputs.Put (on_put outbox (at_first node)).node
      by_outbox [] = nothing_comes T known bound (recovery_state_of node) 0 None
      by_outbox (entry ∷ later) = nothing_comes T known bound (recovery_state_of node) 0 None
  received_comes inputs.RecoverTick may =
      ticked_comes T known bound node.sends (recovery_state_of node) may waits knows (places may) (next_levels may)
  received_comes inputs.RetryTick may = nothing_comes T known bound (recovery_state_of node) 0 None
  received_comes (inputs.Back entries) may = back_comes T known bound (recovery_state_of node) 0 None entries node
