-- What a recovery asks for a row it asks with a finished list, in an epoch behind the first one, of a level before that epoch: so it is of
-- each message that it waits for, in each world of a run in range and at each moment on the way of an event.
use Rattle.std.proofs.Common.{◌≡◌, ◌⊎◌, inl, inr, ⊎_elim, arith, ℕ, ◌<◌, ◌≤◌, ◌==◌, ◌&&◌, ◌||◌, Bool, true, false, not, cond}
use Rattle.std.proofs.Common.{List, [], ◌∷◌, length, Contains, Some, is_some, refl, sym, ap, subst, ◌∙◌}
use Rattle.std.specs.Option.{option_map_or}
use Rattle.std.specs.FinMap as tree
use Rattle.std.proofs.lemmas.Bool.{and_parts, cases_lt, eq-eqb, eqb-true, not-true}
use Rattle.proof_tools.proofs.Lists.{Contains-nil}
use Rattle.object_id.specs.declared.node.Epoch.{Epoch}
use Rattle.object_id.specs.declared.node.NodeId.{NodeId}
use Rattle.object_list.specs.Gathered.{GatheredLists, nodes_without}
use Rattle.cluster_script.specs.declared.statement.Statement.{Statement}
use Rattle.cluster_script.specs.Settings.{tries_of}
use Rattle.peer_proto.specs.declared.ask.PeerAsk.{PeerAsk}
use Rattle.peer_proto.specs.declared.ask.PeerAsk.TheVariants as asks
use Rattle.peer_service.specs.State.{Peer}
use Rattle.recovery.specs.Shown.{first_in}
use Rattle.recovery.specs.State.{Message, Recovery, RecoveryState, all_unanswered, is_listed, is_finished}
use Rattle.recovery.specs.Tick.{level_messages, lists_asked, next_search, tick_messages}
use Rattle.sheep_node.specs.declared.input.Input.{Input}
use Rattle.sheep_node.specs.declared.input.Input.TheVariants as inputs
use Rattle.sheep_node.specs.State as nodes
use Rattle.sheep_node.specs.State.{Node}
use Rattle.sheep_node.specs.RecoveryView.{recovery_state_of}
use Rattle.sheep_node.specs.StepState.{at_first}
use Rattle.sheep_node.specs.Step.{node_step}
use Rattle.sheep_node.specs.Changes.{input_received}
use Rattle.sheep_node.proofs.StepResults.{step_recovery}
use Rattle.sheep_world.specs.World.{Host, World}
use Rattle.sheep_world.specs.Opening.{format_entry, initial_world}
use Rattle.sheep_world.specs.NodeCauses.{NodeCause, GuestAsks, RequestComes, ReplyComes, LossIsTold, EntryIsRead, EntryIsPut, RecoveryTicks}
use Rattle.sheep_world.specs.NodeCauses.{WorkIsRetried, ClientAsks, IsCause, input_of_cause}
use Rattle.sheep_world.specs.EventKinds.{log_after_return}
use Rattle.sheep_world.specs.HostChanges.{HostsKeep}
use Rattle.sheep_world.specs.Began.{Began}
use Rattle.sheep_world.proofs.BegunWorlds.{each_where}
use Rattle.overlap_law.specs.Past.{MomentWithPast}
use Rattle.overlap_law.specs.MomentChanges.{RunsAreInRange, KeptByChanges}
use Rattle.overlap_law.proofs.ListAnswers.{IsTicked, IsGoingOn, IsBegun, recovery_moves}
use Rattle.overlap_law.proofs.ListMessages.{asked_each}
use Rattle.overlap_law.proofs.ListsReceived.{IsListHeard, HasListsOf, ListsReceived, lists_received}
use Rattle.overlap_law.proofs.PastLevels.{AskOfThePast, past-in_world}
use Rattle.overlap_law.proofs.RecoveriesInWorlds.{recoveries-kept}
use Rattle.overlap_law.proofs.SoundNodes.{sound_in_worlds}

-- what asks for a row is asked with a finished list, in an epoch behind the first one
abbrev pub AsksWhereListed : Recovery → Type 0
AsksWhereListed recovery = (message : Message) → Contains recovery.unanswered message → (oid : ℕ) (level : Epoch)
    → message.request.ask ≡ asks.RecoverRead oid level → (is_listed recovery ≡ true) × (1 < recovery.epoch)

-- who waits for nobody waits for nobody else either
none_without : (from : NodeId) (waiting : List NodeId) → (length waiting == 0) ≡ true → (length (nodes_without from waiting) == 0) ≡ true
none_without from [] none = refl
none_without from (first ∷ rest) none =
    let no : length (first ∷ rest) ≡ 0 = eqb-true (length (first ∷ rest)) 0 none in absurd (omega (arith, no))

-- a tick asks for rows where the list is finished
tick_listed : (first : ℕ) (state : RecoveryState) (message : Message) → Contains (tick_messages first state) message → (oid : ℕ)
    (level : Epoch) → message.request.ask ≡ asks.RecoverRead oid level → is_listed state.recovery ≡ true
unfolding tick_messages
tick_listed first state message there oid level asked = by_list (is_listed state.recovery) refl there
  where
    by_list : (b : Bool) → is_listed state.recovery ≡ b
        → Contains (cond b (option_map_or (level_messages first state) (next_search state) []) (lists_asked first state.recovery)) message
        → is_listed state.recovery ≡ true
    by_list true is there = is
    by_list false is there =
        let own = asked_each state.recovery 0 asks.List first state.recovery.lists.waiting message there in
        let both : ◌≡◌ {A = PeerAsk} asks.List (asks.RecoverRead oid level) = sym own.ask_so ∙ asked in
        absurd (cc (both))

-- ---- a step of a node

module _ (input : Input) (node : Node) (ticks : input ≡ inputs.RecoverTick → 1 < node.recovery.epoch)
    (were : AsksWhereListed node.recovery) where
  abbrev received : Recovery
  received = (input_received input (at_first node)).node.recovery

  -- a finished list stays so
  still_listed : is_listed node.recovery ≡ true → HasListsOf input node.recovery received → is_listed received ≡ true
  still_listed listed has = ⊎_elim
      (λ (same : received.lists ≡ node.recovery.lists).
      ap (λ (lists : GatheredLists). length lists.waiting == 0) same ∙ listed)
      (λ (heard : IsListHeard input node.recovery received).
      ap (λ (lists : GatheredLists). length lists.waiting == 0) heard.lists_so
      ∙ none_without heard.message.to node.recovery.lists.waiting listed)
      has.lists

  received_so : AsksWhereListed received
  received_so message there oid level asked = by_lists (lists_received input node)
    where
      none_there : (own : NodeId) → IsBegun own received → (is_listed received ≡ true) × (1 < received.epoch)
      none_there own begun =
          absurd (Contains-nil message (subst (λ (messages : List Message). Contains messages message) begun.unanswered there))

      by_moves : HasListsOf input node.recovery received
          → IsGoingOn input node received ⊎ IsBegun node.recovery.me received ⊎ IsBegun node.me received
          → (is_listed received ≡ true) × (1 < received.epoch)
      by_moves has (inl going) = ⊎_elim
          (λ (old : Contains node.recovery.unanswered message).
          let (listed, later) = were message old oid level asked in
          (still_listed listed has, subst (λ (k : ℕ). 1 < k) (sym going.epoch) later))
          (λ (new : IsTicked input node message). (
            still_listed (tick_listed node.sends (recovery_state_of node) message new.1 oid level asked) has,
            subst (λ (k : ℕ). 1 < k) (sym going.epoch) (ticks new.0),
          ))
          (going.unanswered message there)
      by_moves has (inr (inl begun)) = none_there node.recovery.me begun
      by_moves has (inr (inr begun)) = none_there node.me begun

      by_lists : ListsReceived input node received → (is_listed received ≡ true) × (1 < received.epoch)
      by_lists (inl has) = by_moves has (recovery_moves input node)
      by_lists (inr (inl begun)) = none_there node.recovery.me begun
      by_lists (inr (inr begun)) = none_there node.me begun

  step_listed : AsksWhereListed (node_step input node).node.recovery
  step_listed = subst AsksWhereListed (sym (step_recovery input node)) received_so

-- a node ticks in an epoch behind the first one
ticks_later : (script : List Statement) (world : World) (n : ℕ) (host : Host) (cause : NodeCause) → IsCause script world n host cause
    → 1 ≤ host.node.recovery.epoch → input_of_cause cause ≡ inputs.RecoverTick → 1 < host.node.recovery.epoch
ticks_later script world n host (GuestAsks session req ask) so begun is = absurd (cc (is))
ticks_later script world n host (RequestComes name to request) so begun is = absurd (cc (is))
ticks_later script world n host (ReplyComes name from rsp) so begun is = absurd (cc (is))
ticks_later script world n host (LossIsTold name packet) so begun is = absurd (cc (is))
ticks_later script world n host (EntryIsRead entry) so begun is = absurd (cc (is))
ticks_later script world n host (EntryIsPut entry) so begun is = absurd (cc (is))
ticks_later script world n host RecoveryTicks so begun is =
    by_epoch (host.node.recovery.epoch == 1) refl
    (not-true (is_finished state) (and_parts (not (is_finished state)) (length (all_unanswered host.node.recovery) == 0) so).0)
  where
    state : RecoveryState
    state = recovery_state_of host.node

    rest : Bool
    rest = is_listed state.recovery && not (is_some (first_in state.shown.pending))

    later : (k : ℕ) → 1 ≤ k → (k == 1) ≡ false → 1 < k
    later k some other = ⊎_elim
        (λ (above : 1 < k). above)
        (λ (most : k ≤ 1).
        let same : (k == 1) ≡ true = eq-eqb k 1 (omega (arith, some, most)) in absurd (cc (same, other)))
        (cases_lt 1 k)

    by_epoch : (b : Bool) → (host.node.recovery.epoch == 1) ≡ b → (b || rest) ≡ false → 1 < host.node.recovery.epoch
    by_epoch true one unfinished = absurd (cc (unfinished))
    by_epoch false other unfinished = later host.node.recovery.epoch begun other
ticks_later script world n host WorkIsRetried so begun is = absurd (cc (is))
ticks_later script world n host (ClientAsks req ask) so begun is = absurd (cc (is))

-- ---- every world, and every moment

-- what a recovery asks for a row it asks so
pub record AsksForRowsSo (recovery : Recovery) : Type 0 where
  pub of_epoch : (message : Message) → Contains recovery.unanswered message → message.request.epoch.0 ≡ recovery.epoch
  pub listed : AsksWhereListed recovery
  pub past : AskOfThePast (all_unanswered recovery)

-- each node's does
abbrev pub EachAsksSo : MomentWithPast → Type 0
EachAsksSo moment = (n : ℕ) (host : Host) → tree.get moment.world.hosts n ≡ Some host → AsksForRowsSo host.node.recovery

module _ (script : List Statement) (range : RunsAreInRange script) where
  listed_kept : HostsKeep script (Began script) (λ (world : World) (n : ℕ) (host : Host). AsksWhereListed host.node.recovery)
  unfolding initial_world
  listed_kept = record {
    opens = λ member.
        step_listed (inputs.LogEntry (format_entry script)) (nodes.initial_node member.node (tries_of script)) (λ is. absurd (cc (is)))
        (λ message there oid level asked. absurd (Contains-nil message there));
    stays = λ event world made h began n host so. so;
    steps = λ world n host cause began there up caused so.
        step_listed (input_of_cause cause) host.node
        (ticks_later script world n host cause caused (sound_in_worlds script range world began n host there).recovers.begun) so;
    fails = λ world n host began so. so;
    returns = λ world n host began there so.
        step_listed (inputs.Back (log_after_return script n world)) host.node (λ is. absurd (cc (is))) so;
    joins = λ world n began control message there oid level asked. absurd (Contains-nil message there);
  }

  asks_so-in_world : (world : World) → Began script world → (n : ℕ) (host : Host) → tree.get world.hosts n ≡ Some host
      → AsksForRowsSo host.node.recovery
  asks_so-in_world world began n host there = record {
    of_epoch = (sound_in_worlds script range world began n host there).lists.asks_so.of_epoch;
    listed = each_where script (Began script) (λ (w : World) (k : ℕ) (h : Host). AsksWhereListed h.node.recovery) (λ w b. b) listed_kept
        world began n host there;
    past = past-in_world script range world began n host there;
  }

  abbrev AsksSoOf : ℕ → Recovery → Peer → Type 0
  AsksSoOf n recovery peer = AsksForRowsSo recovery

  pub kept_asks : KeptByChanges script EachAsksSo
  kept_asks = recoveries-kept script AsksSoOf asks_so-in_world
