-- What a recovery waits for it has asked so: lists, and rows of objects whose disks its node knows, of so many indexes as those have.
use Rattle.std.proofs.Common.{◌≡◌, ℕ, ◌+◌, Bool, true, false, not, cond, map, List, [], ◌∷◌, ◌++◌, filter, All, Option, Some, None, refl}
use Rattle.std.proofs.Common.{sym, ap, subst, ◌∙◌}
use Rattle.std.specs.Option.{option_map, option_map_or}
use Rattle.std.specs.FinMap as tree
use Rattle.std.proofs.lemmas.List.Elements.{All-nil, All-cons, All-head, All-tail, All-filter, All-append, All-weaker}
use Rattle.std.proofs.lemmas.Option.{same_Some}
use Rattle.proof_tools.proofs.Booleans.{cond_either}
use Rattle.object_id.specs.declared.entry.Entry.{Entry}
use Rattle.object_id.specs.declared.entry.Member.{Member}
use Rattle.object_id.specs.declared.entry.VdiSpec.{VdiSpec}
use Rattle.object_id.specs.declared.node.NodeId.{NodeId}
use Rattle.object_id.specs.declared.policy.Policy.{Policy}
use Rattle.object_id.specs.Oid.{kind_of, vid_of}
use Rattle.object_id.specs.Policy.{wanted_of}
use Rattle.cluster_script.specs.declared.statement.Statement.{Statement}
use Rattle.cluster_script.specs.Settings.{tries_of}
use Rattle.peer_proto.specs.declared.ask.PeerAsk.{PeerAsk}
use Rattle.peer_proto.specs.declared.ask.PeerAsk.TheVariants as asks
use Rattle.peer_proto.specs.declared.say.PeerSay.{PeerSay}
use Rattle.vdi_directory.specs.declared.effect.Effect.{Effect}
use Rattle.vdi_directory.specs.Decisions.{log_effects}
use Rattle.gateway.specs.State as gateways
use Rattle.recovery.specs.Shown.{live_policy, shown_with_pending}
use Rattle.recovery.specs.State.{Message, Search, Recovery, RecoveryState, is_listed, all_unanswered, has_number}
use Rattle.recovery.specs.Frame.{Frame}
use Rattle.recovery.specs.Steps as recovery_steps
use Rattle.recovery.specs.Steps.{to_recover, at_start, recovery_from_epoch, message_end}
use Rattle.recovery.specs.Tick.{request_message, messages_to, lists_asked, asked_of, level_asked, next_search, level_messages}
use Rattle.recovery.specs.Tick.{tick_messages, state_after_tick}
use Rattle.recovery.proofs.StepLemmas.{frame_of_end, frame_of_tick}
use Rattle.sheep_node.specs.declared.input.Input.{Input}
use Rattle.sheep_node.specs.declared.input.Input.TheVariants as inputs
use Rattle.sheep_node.specs.State as nodes
use Rattle.sheep_node.specs.State.{Node}
use Rattle.sheep_node.specs.RecoveryView.{recovery_state_of}
use Rattle.sheep_node.specs.StepState.{StepState, at_first}
use Rattle.sheep_node.specs.StepFacts.{read_after}
use Rattle.sheep_node.specs.LogReading.{epoch_members, node_with_entry, recovery_in_epoch, begins_recovery, entry_read, come_back_with}
use Rattle.sheep_node.specs.LogReading.{on_back}
use Rattle.sheep_node.specs.Step.{on_request, recovery_stepped, on_put, on_recover_tick, node_step}
use Rattle.sheep_node.specs.Changes.{input_received}
use Rattle.sheep_node.proofs.StepResults.{step_reads, step_recovery}
use Rattle.sheep_world.specs.World.{Host, World}
use Rattle.sheep_world.specs.Opening.{format_entry}
use Rattle.sheep_world.specs.Began.{Began}
use Rattle.sheep_world.specs.HostChanges.{NodesKeep}
use Rattle.sheep_world.specs.NodeCauses.{input_of_cause}
use Rattle.sheep_world.proofs.BegunWorlds.{each_began}
use Rattle.sheep_world.proofs.HostChangeLaws.{hosts_of_nodes}
use Rattle.overlap_law.specs.Each.{spec_in}
use Rattle.overlap_law.proofs.GrantedEpochs.{spec_stays}

-- the disk of an object is known, and has so many parts of an object
pub record HasParts (known : List Effect) (oid wanted : ℕ) : Type 0 where
  pub spec : VdiSpec
  pub made : spec_in known (vid_of oid) ≡ Some spec
  pub wanted_so : wanted ≡ wanted_of spec.policy (kind_of oid)

-- what a recovery asks for: lists, and rows of such objects
abbrev pub IsKnownAsk : List Effect → PeerAsk → ℕ → Type 0
IsKnownAsk known (asks.Create key size offset bytes) wanted = ⊥
IsKnownAsk known (asks.Write key offset bytes) wanted = ⊥
IsKnownAsk known (asks.Read key offset size) wanted = ⊥
IsKnownAsk known asks.List wanted = Unit {0}
IsKnownAsk known (asks.RecoverRead oid level) wanted = HasParts known oid wanted

abbrev pub IsKnownMessage : List Effect → Message → Type 0
IsKnownMessage known message = IsKnownAsk known message.request.ask message.wanted

abbrev pub AsksKnown : List Effect → Recovery → Type 0
AsksKnown known recovery = All (IsKnownMessage known) (all_unanswered recovery)

abbrev StateAsksKnown : List Effect → RecoveryState → Type 0
StateAsksKnown known state = AsksKnown known state.recovery

-- what was known stays known
still_known : (log : List Entry) (entry : Entry) (recovery : Recovery) → AsksKnown (log_effects log) recovery
    → AsksKnown (log_effects (log ++ entry ∷ [])) recovery
still_known log entry recovery =
    All-weaker (IsKnownMessage (log_effects log)) (IsKnownMessage (log_effects (log ++ entry ∷ [])))
    (λ (message : Message). by_ask message.request.ask message.wanted) (all_unanswered recovery)
  where
    by_ask : (ask : PeerAsk) (wanted : ℕ) → IsKnownAsk (log_effects log) ask wanted
        → IsKnownAsk (log_effects (log ++ entry ∷ [])) ask wanted
    by_ask (asks.Create key size offset bytes) wanted is = is
    by_ask (asks.Write key offset bytes) wanted is = is
    by_ask (asks.Read key offset size) wanted is = is
    by_ask asks.List wanted is = tt
    by_ask (asks.RecoverRead oid level) wanted is =
        record { spec = is.spec; made = spec_stays log (entry ∷ []) (vid_of oid) is.spec is.made; wanted_so = is.wanted_so }

-- ---- steps of a recovery

abbrev frame_messages : Frame → List Message
frame_messages f = f.unanswered ++ f.older

all_parts : {X : Type 0} (P : X → Type 0) (xs ys : List X) → All P (xs ++ ys) → All P xs × All P ys
all_parts P [] ys all = (All-nil P, all)
all_parts P (x ∷ xs) ys all =
    let rest = all_parts P xs ys (All-tail P x (xs ++ ys) all) in
    (All-cons P x xs (All-head P x (xs ++ ys) all) rest.0, rest.1)

-- a message ends
ended_known : (known : List Effect) (number : ℕ) (said : Option PeerSay) (state : RecoveryState) → StateAsksKnown known state
    → StateAsksKnown known (message_end number said state)
ended_known known number said state all =
    let P : Message → Type 0 = IsKnownMessage known in
    let both = all_parts P state.recovery.unanswered state.recovery.older all in
    let stays : Message → Bool = λ (message : Message). not (has_number number message) in
    subst (All P) (sym (ap frame_messages (frame_of_end number said state)))
    (All-append P (filter stays state.recovery.unanswered) (filter stays state.recovery.older)
    (All-filter stays P state.recovery.unanswered both.0) (All-filter stays P state.recovery.older both.1))

-- the messages of a tick
to_each : (known : List Effect) (recovery : Recovery) (first wanted : ℕ) (ask : PeerAsk) (to : List NodeId) → IsKnownAsk known ask wanted
    → All (IsKnownMessage known) (messages_to recovery first wanted ask to)
to_each known recovery first wanted ask [] is = All-nil (IsKnownMessage known)
to_each known recovery first wanted ask (node ∷ to) is =
    All-cons (IsKnownMessage known) (request_message recovery wanted ask (first, node)) (messages_to recovery (first + 1) wanted ask to) is
    (to_each known recovery (first + 1) wanted ask to is)

-- of an object whose policy is known
abbrev pub KnowsPolicies : List Effect → RecoveryState → Type 0
KnowsPolicies known state =
    (oid : ℕ) → state.shown.policy_of oid ≡ option_map (λ (spec : VdiSpec). spec.policy) (spec_in known (vid_of oid))

parts_of : (known : List Effect) (oid : ℕ) (policy : Policy) (o : Option VdiSpec) → spec_in known (vid_of oid) ≡ o
    → option_map (λ (spec : VdiSpec). spec.policy) o ≡ Some policy → HasParts known oid (wanted_of policy (kind_of oid))
parts_of known oid policy None is so = absurd (cc (so))
parts_of known oid policy (Some spec) is so =
    record { spec = spec; made = is; wanted_so = ap (λ (p : Policy). wanted_of p (kind_of oid)) (sym (same_Some spec.policy policy so)) }

module _ (known : List Effect) (first : ℕ) (state : RecoveryState) (knows : KnowsPolicies known state) where
  live_known : (oid : ℕ) (policy : Policy) → live_policy state.shown oid ≡ Some policy → HasParts known oid (wanted_of policy (kind_of oid))
  live_known oid policy live = by_dead (state.shown.is_dead oid) live
    where
      by_dead : (b : Bool) → cond b None (state.shown.policy_of oid) ≡ Some policy → HasParts known oid (wanted_of policy (kind_of oid))
      by_dead true none = absurd (cc (none))
      by_dead false is = parts_of known oid policy (spec_in known (vid_of oid)) refl (sym (knows oid) ∙ is)

  level_known : (search : Search) → All (IsKnownMessage known) (level_messages first state search)
  level_known search = by_policy (live_policy state.shown search.oid) refl
    where
      by_policy : (o : Option Policy) → live_policy state.shown search.oid ≡ o
          → All (IsKnownMessage known) (option_map_or (level_asked first state search) o [])
      by_policy None none = All-nil (IsKnownMessage known)
      by_policy (Some policy) live =
          to_each known state.recovery first (wanted_of policy (kind_of search.oid))
          (asks.RecoverRead search.oid (record { 0 = search.level }))
          (asked_of state policy search) (live_known search.oid policy live)

  pub sent_known : All (IsKnownMessage known) (tick_messages first state)
  unfolding tick_messages
  sent_known =
      cond_either (All (IsKnownMessage known)) (is_listed state.recovery)
      (option_map_or (level_messages first state) (next_search state) [])
      (lists_asked first state.recovery) (by_search (next_search state))
      (to_each known state.recovery first 0 asks.List state.recovery.lists.waiting tt)
    where
      by_search : (o : Option Search) → All (IsKnownMessage known) (option_map_or (level_messages first state) o [])
      by_search None = All-nil (IsKnownMessage known)
      by_search (Some search) = level_known search

  ticked_known : StateAsksKnown known state → StateAsksKnown known (state_after_tick first state)
  ticked_known all =
      let P : Message → Type 0 = IsKnownMessage known in
      let both = all_parts P state.recovery.unanswered state.recovery.older all in
      subst (All P) (sym (ap frame_messages (frame_of_tick first state)))
      (All-append P (state.recovery.unanswered ++ tick_messages first state) state.recovery.older
      (All-append P state.recovery.unanswered (tick_messages first state) both.0 sent_known) both.1)

-- a recovery begins: what the one before it waits for is older
begun_known : (known : List Effect) (epoch : ℕ) (members : List NodeId) (state : RecoveryState) → StateAsksKnown known state
    → StateAsksKnown known (recovery_from_epoch epoch members state)
unfolding recovery_from_epoch
begun_known known epoch members state all =
    let begun : RecoveryState = at_start epoch members state in
    cond_either (StateAsksKnown known) (is_listed begun.recovery)
    (record begun { shown = shown_with_pending (to_recover begun) begun.shown }) begun all all

-- ---- a step of the node

abbrev NodeAsksKnown : Node → Type 0
NodeAsksKnown node = AsksKnown (log_effects node.peer.entries) node.recovery

read_known : (entry : Entry) (node : Node) → NodeAsksKnown node
    → AsksKnown (log_effects (node.peer.entries ++ entry ∷ [])) (entry_read entry node).recovery
unfolding entry_read
read_known entry node all =
    let known : List Effect = log_effects (node.peer.entries ++ entry ∷ []) in
    let entered : Node = node_with_entry entry node in
    let still : StateAsksKnown known (recovery_state_of entered) = still_known node.peer.entries entry node.recovery all in
    cond_either (StateAsksKnown known) (begins_recovery entry node) (recovery_in_epoch entered) (recovery_state_of entered)
    (begun_known known entered.peer.epoch (map (λ (member : Member). member.node) (epoch_members entered)) (recovery_state_of entered)
    still)
    still

received_known : (input : Input) (node : Node) → NodeAsksKnown node
    → AsksKnown (log_effects (read_after input node.peer.entries)) (input_received input (at_first node)).node.recovery
unfolding on_request on_recover_tick on_back recovery_steps.recovery_on_reply recovery_steps.recovery_on_loss
received_known (inputs.Guest req session ask) node all = all
received_known (inputs.Request request) node all = all
received_known (inputs.Reply rsp) node all =
    cond_either (λ (so_far : StepState). AsksKnown (log_effects node.peer.entries) so_far.node.recovery)
    (gateways.gateway_awaits rsp.number node.gateway) (at_first node)
    (recovery_stepped (recovery_steps.recovery_on_reply rsp (recovery_state_of node)) (at_first node)) all
    (ended_known (log_effects node.peer.entries) rsp.number (Some rsp.say) (recovery_state_of node) all)
received_known (inputs.Lost number) node all =
    cond_either (λ (so_far : StepState). AsksKnown (log_effects node.peer.entries) so_far.node.recovery)
    (gateways.gateway_awaits number node.gateway) (at_first node)
    (recovery_stepped (recovery_steps.recovery_on_loss number (recovery_state_of node)) (at_first node)) all
    (ended_known (log_effects node.peer.entries) number None (recovery_state_of node) all)
received_known (inputs.LogEntry entry) node all = read_known entry node all
received_known inputs.Put node all = by_outbox node.outbox
  where
    by_outbox : (outbox : List Entry) → AsksKnown (log_effects node.peer.entries) (on_put outbox (at_first node)).node.recovery
    by_outbox [] = all
    by_outbox (entry ∷ later) = all
received_known inputs.RecoverTick node all =
    ticked_known (log_effects node.peer.entries) node.sends (recovery_state_of node) (λ oid. refl) all
received_known inputs.RetryTick node all = all
received_known (inputs.Back entries) node all =
    begun_known (log_effects entries) (come_back_with entries node).peer.epoch
    (map (λ (member : Member). member.node) (epoch_members (come_back_with entries node))) (recovery_state_of (come_back_with entries node))
    (All-nil (IsKnownMessage (log_effects entries)))

step_known : (input : Input) (node : Node) → NodeAsksKnown node → NodeAsksKnown (node_step input node).node
step_known input node all =
    subst (λ (entries : List Entry). AsksKnown (log_effects entries) (node_step input node).node.recovery) (sym (step_reads input node))
    (subst (AsksKnown (log_effects (read_after input node.peer.entries))) (sym (step_recovery input node)) (received_known input node all))

-- ---- every world

none_asked : (me : NodeId) (tries : ℕ) → NodeAsksKnown (nodes.initial_node me tries)
none_asked me tries = All-nil (IsKnownMessage (log_effects []))

known_kept : (script : List Statement) → NodesKeep script (λ (n incarnation : ℕ) (node : Node). NodeAsksKnown node)
known_kept script = record {
  opens = λ member.
      step_known (inputs.LogEntry (format_entry script)) (nodes.initial_node member.node (tries_of script))
      (none_asked member.node (tries_of script));
  steps = λ world n host cause caused all. step_known (input_of_cause cause) host.node all;
  returns = λ log n incarnation node all. step_known (inputs.Back log) node all;
  joins = λ n. none_asked (record { 0 = n }) (tries_of script);
}

pub asks_known : (script : List Statement) (world : World) → Began script world → (n : ℕ) (host : Host) → tree.get world.hosts n ≡ Some host
    → AsksKnown (log_effects host.node.peer.entries) host.node.recovery
asks_known script = each_began script (λ (world : World) (n : ℕ) (host : Host). NodeAsksKnown host.node)
    (hosts_of_nodes script (λ (n incarnation : ℕ) (node : Node). NodeAsksKnown node) (known_kept script))
