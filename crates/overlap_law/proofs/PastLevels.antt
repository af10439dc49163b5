-- Each message of a recovery that asks for a row of a level is of an epoch behind that level: in each world of a run in range, and at each
-- moment on the way of an event.
use Rattle.std.proofs.Common.{◌≡◌, ◌⊎◌, inl, inr, ⊎_elim, arith, ℕ, ◌-◌, ◌<◌, ◌≤◌, List, [], Contains, Option, Some, None}
use Rattle.std.proofs.Common.{refl, sym, ap, subst, ◌∙◌}
use Rattle.std.specs.Option.{IfSome, option_map_or}
use Rattle.std.specs.FinMap as tree
use Rattle.std.proofs.lemmas.List.Elements.{Contains-append_left, Contains-append_cases}
use Rattle.std.proofs.lemmas.Option.{same_Some}
use Rattle.proof_tools.proofs.Booleans.{cond_either}
use Rattle.proof_tools.proofs.Lists.{Contains-nil}
use Rattle.object_id.specs.declared.node.Epoch.{Epoch}
use Rattle.object_id.specs.declared.policy.Policy.{Policy}
use Rattle.object_id.specs.Oid.{kind_of}
use Rattle.object_id.specs.Policy.{wanted_of}
use Rattle.cluster_script.specs.declared.statement.Statement.{Statement}
use Rattle.cluster_script.specs.Settings.{tries_of}
use Rattle.peer_proto.specs.declared.ask.PeerAsk.{PeerAsk}
use Rattle.peer_proto.specs.declared.ask.PeerAsk.TheVariants as asks
use Rattle.peer_service.specs.State.{Peer}
use Rattle.recovery.specs.Shown.{live_policy, first_in}
use Rattle.recovery.specs.State.{Message, Search, Recovery, RecoveryState, search_at, all_unanswered, is_listed, search_on}
use Rattle.recovery.specs.Tick.{asked_of, level_asked, level_messages, lists_asked, or_next, next_search, tick_messages}
use Rattle.sheep_node.specs.declared.input.Input.{Input}
use Rattle.sheep_node.specs.declared.input.Input.TheVariants as inputs
use Rattle.sheep_node.specs.State as nodes
use Rattle.sheep_node.specs.State.{Node}
use Rattle.sheep_node.specs.RecoveryView.{recovery_state_of}
use Rattle.sheep_node.specs.StepState.{at_first}
use Rattle.sheep_node.specs.Step.{node_step}
use Rattle.sheep_node.specs.Changes.{input_received}
use Rattle.sheep_node.proofs.StepResults.{step_recovery}
use Rattle.sheep_world.specs.World.{Host, World}
use Rattle.sheep_world.specs.Opening.{format_entry, initial_world}
use Rattle.sheep_world.specs.NodeCauses.{input_of_cause}
use Rattle.sheep_world.specs.EventKinds.{log_after_return}
use Rattle.sheep_world.specs.HostChanges.{HostsKeep}
use Rattle.sheep_world.specs.Began.{Began}
use Rattle.sheep_world.proofs.BegunWorlds.{each_where}
use Rattle.sheep_world.specs.RunsWithAsks.{Move}
use Rattle.overlap_law.specs.Past.{MomentWithPast, run_with_past}
use Rattle.overlap_law.specs.MomentChanges.{MomentTrail, RunsAreInRange}
use Rattle.overlap_law.proofs.FirstSearches.{is_on}
use Rattle.overlap_law.proofs.FirstSearchesInRuns.{IsWithinLevels, levels-in_world}
use Rattle.overlap_law.proofs.ListAnswers.{IsTicked, IsGoingOn, IsBegun, recovery_moves}
use Rattle.overlap_law.proofs.ListMessages.{IsAsked, asked_each}
use Rattle.overlap_law.proofs.OlderMessages.{older_received}
use Rattle.overlap_law.proofs.RecoveriesInWorlds.{recoveries-on_the_way}
use Rattle.overlap_law.proofs.SoundNodes.{sound_in_worlds}

-- what is asked for a row is asked of a level before the message's epoch
abbrev pub AskOfThePast : List Message → Type 0
AskOfThePast messages = (message : Message) → Contains messages message → (oid : ℕ) (level : Epoch)
    → message.request.ask ≡ asks.RecoverRead oid level → level.0 < message.request.epoch.0

abbrev level_or : ℕ → PeerAsk → ℕ
level_or none (asks.Create key size offset bytes) = none
level_or none (asks.Write key offset bytes) = none
level_or none (asks.Read key offset size) = none
level_or none asks.List = none
level_or none (asks.RecoverRead oid level) = level.0

none_ask : AskOfThePast []
none_ask message there oid level is = absurd (Contains-nil message there)

-- ---- a tick

module _ (first : ℕ) (state : RecoveryState) (begun : 1 ≤ state.recovery.epoch)
    (levels : IfSome state.recovery.search (IsWithinLevels state.recovery.epoch)) where
  level_past : (search : Search) → search.level < state.recovery.epoch → AskOfThePast (level_messages first state search)
  level_past search below = by_policy (live_policy state.shown search.oid)
    where
      by_policy : (o : Option Policy) → AskOfThePast (option_map_or (level_asked first state search) o [])
      by_policy None = none_ask
      by_policy (Some policy) = λ message there oid level asked.
          let is : IsAsked state.recovery.epoch (asks.RecoverRead search.oid (record { 0 = search.level })) (asked_of state policy search)
          message
          = asked_each state.recovery (wanted_of policy (kind_of search.oid)) (asks.RecoverRead search.oid (record { 0 = search.level }))
          first (asked_of state policy search) message there in
          let at : level.0 ≡ search.level = ap (level_or 0) (sym asked ∙ is.ask_so) in
          let epoch = is.of_epoch in
          omega (arith, below, at, epoch)

  of_search : (o : Option Search) → ((search : Search) → o ≡ Some search → search.level < state.recovery.epoch)
      → AskOfThePast (option_map_or (level_messages first state) o [])
  of_search None below = none_ask
  of_search (Some search) below = level_past search (below search refl)

  next_below : (o : Option Search) → ((search : Search) → o ≡ Some search → search.level < state.recovery.epoch) → (pending : Option ℕ)
      → (next : Search) → or_next state.recovery.epoch pending o ≡ Some next → next.level < state.recovery.epoch
  next_below (Some search) below pending next is =
      let at : search.level ≡ next.level = ap (λ (s : Search). s.level) (same_Some (search_at search.oid search.level) next is) in
      let own = below search refl in
      omega (arith, at, own)
  next_below None below None next is = absurd (cc (is))
  next_below None below (Some oid) next is =
      let at : state.recovery.epoch - 1 ≡ next.level
      = ap (λ (s : Search). s.level) (same_Some (search_at oid (state.recovery.epoch - 1)) next is) in
      omega (arith, at, begun)

  on_below : (search : Search) → search_on state ≡ Some search → search.level < state.recovery.epoch
  on_below search on =
      (subst (λ (o : Option Search). IfSome o (IsWithinLevels state.recovery.epoch))
      (is_on state.shown.pending state.recovery.search search on).search levels).1

  tick_past : AskOfThePast (tick_messages first state)
  unfolding tick_messages
  tick_past =
      cond_either AskOfThePast (is_listed state.recovery) (option_map_or (level_messages first state) (next_search state) [])
      (lists_asked first state.recovery)
      (of_search (next_search state) (next_below (search_on state) on_below (first_in state.shown.pending)))
      (λ message there oid level asked.
      let is = asked_each state.recovery 0 asks.List first state.recovery.lists.waiting message there in
      let both : ◌≡◌ {A = PeerAsk} asks.List (asks.RecoverRead oid level) = sym is.ask_so ∙ asked in
      absurd (cc (both)))

-- ---- a step of a node

module _ (input : Input) (node : Node) (begun : 1 ≤ node.recovery.epoch)
    (levels : IfSome node.recovery.search (IsWithinLevels node.recovery.epoch)) (past : AskOfThePast (all_unanswered node.recovery)) where
  abbrev received : Recovery
  received = (input_received input (at_first node)).node.recovery

  of_begun : received.unanswered ≡ [] → AskOfThePast received.unanswered
  of_begun none message there = absurd (Contains-nil message (subst (λ (messages : List Message). Contains messages message) none there))

  own_past : AskOfThePast received.unanswered
  own_past = by_moves (recovery_moves input node)
    where
      by_moves : IsGoingOn input node received ⊎ IsBegun node.recovery.me received ⊎ IsBegun node.me received
          → AskOfThePast received.unanswered
      by_moves (inl going) = λ message there. ⊎_elim
          (λ (old : Contains node.recovery.unanswered message).
          past message (Contains-append_left node.recovery.unanswered node.recovery.older message old))
          (λ (new : IsTicked input node message). tick_past node.sends (recovery_state_of node) begun levels message new.1)
          (going.unanswered message there)
      by_moves (inr (inl begun)) = of_begun begun.unanswered
      by_moves (inr (inr begun)) = of_begun begun.unanswered

  received_past : AskOfThePast (all_unanswered received)
  received_past message there = ⊎_elim
      (λ (own : Contains received.unanswered message). own_past message own)
      (λ (older : Contains received.older message). past message (older_received input node message older))
      (Contains-append_cases received.unanswered received.older message there)

  step_past : AskOfThePast (all_unanswered (node_step input node).node.recovery)
  step_past = subst (λ (recovery : Recovery). AskOfThePast (all_unanswered recovery)) (sym (step_recovery input node)) received_past

-- ---- every world, and every moment

one : 1 ≤ 1
one = omega arith

module _ (script : List Statement) (range : RunsAreInRange script) where
  stepped : (world : World) → Began script world → (n : ℕ) (host : Host) → tree.get world.hosts n ≡ Some host → (input : Input)
      → AskOfThePast (all_unanswered host.node.recovery) → AskOfThePast (all_unanswered (node_step input host.node).node.recovery)
  stepped world began n host there input past =
      step_past input host.node (sound_in_worlds script range world began n host there).recovers.begun
      (levels-in_world script range world began n host there) past

  past_kept : HostsKeep script (Began script) (λ (world : World) (n : ℕ) (host : Host). AskOfThePast (all_unanswered host.node.recovery))
  unfolding initial_world
  past_kept = record {
    opens = λ member.
        step_past (inputs.LogEntry (format_entry script)) (nodes.initial_node member.node (tries_of script)) one tt none_ask;
    stays = λ event world made h began n host past. past;
    steps = λ world n host cause began there up caused past. stepped world began n host there (input_of_cause cause) past;
    fails = λ world n host began past. past;
    returns = λ world n host began there past. stepped world began n host there (inputs.Back (log_after_return script n world)) past;
    joins = λ world n began control. none_ask;
  }

  pub past-in_world : (world : World) → Began script world → (n : ℕ) (host : Host) → tree.get world.hosts n ≡ Some host
      → AskOfThePast (all_unanswered host.node.recovery)
  past-in_world =
      each_where script (Began script) (λ (world : World) (n : ℕ) (host : Host). AskOfThePast (all_unanswered host.node.recovery))
      (λ world began. began) past_kept

  abbrev IsOfThePast : ℕ → Recovery → Peer → Type 0
  IsOfThePast n recovery peer = AskOfThePast (all_unanswered recovery)

  pub past-on_the_way : (events : List Move) (start moment : MomentWithPast) → run_with_past script events ≡ Some start
      → MomentTrail script start moment → (n : ℕ) (host : Host) → tree.get moment.world.hosts n ≡ Some host
      → AskOfThePast (all_unanswered host.node.recovery)
  past-on_the_way events start moment is trail = recoveries-on_the_way script IsOfThePast past-in_world events start moment is trail
