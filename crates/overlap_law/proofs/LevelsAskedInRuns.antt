-- In each moment on the way of an event of a run in range, while answers of a search's level are awaited and none was refused or lost,
-- those awaited and those kept are all that the level is asked of.
use Rattle.std.proofs.Common.{◌≡◌, arith, ℕ, ◌-◌, ◌≤◌, ◌<◌, ◌==◌, ◌&&◌, not, Bool, true, false, cond, List, [], ◌∷◌, map, filter, Option}
use Rattle.std.proofs.Common.{Some, None, refl, sym, ap, subst, ◌∙◌}
use Rattle.std.specs.Option.{IfSome}
use Rattle.std.specs.FinMap as tree
use Rattle.std.proofs.lemmas.Option.{same_Some}
use Rattle.proof_tools.proofs.Booleans.{cond_either}
use Rattle.object_id.specs.declared.entry.Entry.{Entry}
use Rattle.object_id.specs.declared.entry.Member.{Member}
use Rattle.object_id.specs.declared.node.NodeId.{NodeId}
use Rattle.object_id.specs.declared.policy.Policy.{Policy}
use Rattle.epoch_log.specs.Epochs.{epoch_of, settled_of}
use Rattle.epoch_log.specs.Appending.{IsLog}
use Rattle.epoch_log.proofs.MembersLemmas.{IsLog-some}
use Rattle.object_list.specs.Gathered.{is_same_node, has_node}
use Rattle.object_list.proofs.GatheredLemmas.{has_node-filter}
use Rattle.cluster_script.specs.declared.statement.Statement.{Statement}
use Rattle.vdi_directory.specs.Decisions.{log_effects}
use Rattle.peer_service.specs.State.{Peer}
use Rattle.peer_service.specs.Serve.{peer_step}
use Rattle.peer_service.specs.LogReading.{read_entry}
use Rattle.vnode_table.specs.Targets.{targets_in}
use Rattle.gateway.specs.State as gateways
use Rattle.recovery.specs.Shown.{first_in}
use Rattle.recovery.specs.State.{Search, Recovery, search_at, still_on, search_on, can_tick}
use Rattle.recovery.specs.Steps as recovery_steps
use Rattle.recovery.specs.Steps.{message_end}
use Rattle.recovery.specs.Tick.{or_next, next_search}
use Rattle.recovery.proofs.RangeLemmas.{above_1}
use Rattle.sheep_node.specs.declared.input.Input.{Input}
use Rattle.sheep_node.specs.declared.input.Input.TheVariants as inputs
use Rattle.sheep_node.specs.LogReading.{epoch_members, peer_with_entry, node_with_entry, recovery_in_epoch, begins_recovery}
use Rattle.sheep_node.specs.LogReading.{recovery_with_entry, entry_read, come_back_with, on_back}
use Rattle.sheep_node.specs.RecoveryView.{recovery_state_of, with_recovered_rows}
use Rattle.sheep_node.specs.State.{Node}
use Rattle.sheep_node.specs.Step.{on_request, recovery_stepped, on_put, on_recover_tick}
use Rattle.sheep_node.specs.StepState.{StepState, at_first}
use Rattle.sheep_node.specs.Changes.{input_received}
use Rattle.sheep_node.proofs.RecoverySteps.{fits_what_recovery_asked}
use Rattle.sheep_world.specs.Began.{Began}
use Rattle.sheep_world.specs.EventKinds.{log_after_return}
use Rattle.sheep_world.specs.NodeCauses.{NodeCause, GuestAsks, RequestComes, ReplyComes, LossIsTold, EntryIsRead, EntryIsPut, RecoveryTicks}
use Rattle.sheep_world.specs.NodeCauses.{WorkIsRetried, ClientAsks, input_of_cause, IsCause}
use Rattle.sheep_world.specs.World.{Host, World, is_host_up}
use Rattle.sheep_world.proofs.NodesByTheLog.{by_the_log, knows_its_number}
use Rattle.sheep_world.specs.RunsWithAsks.{Move}
use Rattle.overlap_law.specs.Each.{Placing, policy_in}
use Rattle.overlap_law.specs.Holders.{targets_by}
use Rattle.overlap_law.specs.Past.{MomentWithPast, run_with_past}
use Rattle.overlap_law.specs.Searches.{is_asked, LevelsAreAsked}
use Rattle.overlap_law.specs.MomentChanges.{MomentChange, MomentTrail, RunsAreInRange, KeptByChanges}
use Rattle.overlap_law.proofs.AskedLevels.{LevelIsAsked, IsAsked, less_asked, begun_asked, ticked_asked, ended_asked}
use Rattle.overlap_law.proofs.AskedMessages.{AreNumberedApart, asked_by}
use Rattle.overlap_law.proofs.AnswerersInMoments.{opening_recovery}
use Rattle.overlap_law.proofs.CausedWorks.{caused_may}
use Rattle.overlap_law.proofs.FirstSearches.{WaitsFirst, is_on}
use Rattle.overlap_law.proofs.FirstSearchesInRuns.{IsWithinLevels, in_order-in_world, levels-in_world, search_first-on_the_way}
use Rattle.overlap_law.proofs.LackedAtEntries.{policy_stays}
use Rattle.overlap_law.proofs.ListMessages.{AsksListsIn}
use Rattle.overlap_law.proofs.ListedNodes.{settled_pending}
use Rattle.overlap_law.proofs.LogsInMoments.{LogGrows, log_grows, epochs_grow}
use Rattle.overlap_law.proofs.NodePartsInMoments.{HasPartsOf, PartsChange, PartsStay, PartsStep, PartsReturn, PartsAreNew, parts_change}
use Rattle.overlap_law.proofs.RangeOfRuns.{nodes_sound}
use Rattle.overlap_law.proofs.ReadInMoments.{HostsAreSound, are_present, epoch_within, kept_sound}
use Rattle.overlap_law.proofs.RecoveriesInWorlds.{recoveries-on_the_way}
use Rattle.overlap_law.proofs.RecoveriesOfSteps.{served_less, entered_less}
use Rattle.overlap_law.proofs.RunsByChanges.{on_the_way}
use Rattle.overlap_law.proofs.ShapedAttempts.{targets_stay}
use Rattle.overlap_law.proofs.UnpassedLevels.{kept_log}
use Rattle.overlap_law.proofs.NumberedMessages.{node_targets, node_knows, MayAsk, received_apart, row_say, none_apart}

and_first : (a b c : Bool) → (a && (b && c)) ≡ (a && b && c)
and_first true b c = refl
and_first false b c = refl

-- ---- a step of a node

back_asked : (T : Placing) (known : ℕ → Option Policy) (bound : ℕ) (entries : List Entry) (node : Node)
    → LevelIsAsked T known bound (on_back entries node).recovery (on_back entries node).peer.pending
unfolding on_back
back_asked T known bound entries node =
    let back : Node = come_back_with entries node in
    begun_asked T known bound back.peer.epoch (map (λ (member : Member). member.node) (epoch_members back)) (recovery_state_of back)

module _ (T : Placing) (known : ℕ → Option Policy) (bound : ℕ) (node : Node) (lists : AsksListsIn (recovery_state_of node))
    (waits : WaitsFirst node.recovery node.peer.pending) (apart : AreNumberedApart node.recovery.unanswered)
    (knows : (oid : ℕ) (policy : Policy) → (recovery_state_of node).shown.policy_of oid ≡ Some policy → known oid ≡ Some policy)
    (places : can_tick (recovery_state_of node) ≡ true → (search : Search) → next_search (recovery_state_of node) ≡ Some search
    → (search.level ≤ bound)
    × ((policy : Policy) → (recovery_state_of node).shown.targets search.level search.oid policy ≡ T search.level search.oid policy))
    (so : LevelIsAsked T known bound node.recovery node.peer.pending) where
  abbrev IsAskedAt : Node → Type 0
  IsAskedAt other = LevelIsAsked T known bound other.recovery other.peer.pending

  read_so : (entry : Entry) → IsAskedAt (entry_read entry node)
  unfolding entry_read
  read_so entry =
      let state = recovery_with_entry entry node in
      let entered : Node = node_with_entry entry node in
      subst (LevelIsAsked T known bound state.recovery)
      (sym (settled_pending (settled_of (read_entry entry node.peer).entries) (with_recovered_rows state (peer_with_entry entry node))))
      (cond_either (IsAsked T known bound) (begins_recovery entry node) (recovery_in_epoch entered) (recovery_state_of entered)
      (begun_asked T known bound entered.peer.epoch (map (λ (member : Member). member.node) (epoch_members entered))
      (recovery_state_of entered))
      (less_asked T known bound node.recovery node.peer.pending (peer_with_entry entry node).pending (entered_less entry node) so))

  received_asked : (input : Input) → MayAsk input node → IsAskedAt (input_received input (at_first node)).node
  unfolding on_request on_recover_tick recovery_steps.recovery_on_reply recovery_steps.recovery_on_loss
  received_asked (inputs.Guest req session ask) may = so
  received_asked (inputs.Request request) may =
      less_asked T known bound node.recovery node.peer.pending (peer_step node.peer request).peer.pending (served_less node.peer request) so
  received_asked (inputs.Reply rsp) may = by_waiting (gateways.gateway_awaits rsp.number node.gateway) refl
    where
      by_waiting : (b : Bool) → gateways.gateway_awaits rsp.number node.gateway ≡ b
          → IsAskedAt (cond b (at_first node)
          (recovery_stepped (message_end rsp.number (Some rsp.say) (recovery_state_of node)) (at_first node))).node
      by_waiting true waits_for = so
      by_waiting false none =
          ended_asked T known bound rsp.number (Some rsp.say) (recovery_state_of node) lists waits apart
          (λ message there own oid level asked.
          row_say rsp (recovery_state_of node) (fits_what_recovery_asked rsp node none may) apart message there own oid level asked) so
  received_asked (inputs.Lost number) may =
      cond_either (λ (so_far : StepState). IsAskedAt so_far.node) (gateways.gateway_awaits number node.gateway) (at_first node)
      (recovery_stepped (message_end number None (recovery_state_of node)) (at_first node)) so
      (ended_asked T known bound number None (recovery_state_of node) lists waits apart (λ message there own oid level asked. tt) so)
  received_asked (inputs.LogEntry entry) may = read_so entry
  received_asked inputs.Put may = by_outbox node.outbox
    where
      by_outbox : (outbox : List Entry) → IsAskedAt (on_put outbox (at_first node)).node
      by_outbox [] = so
      by_outbox (entry ∷ later) = so
  received_asked inputs.RecoverTick may =
      ticked_asked T known bound node.sends (recovery_state_of node) may waits knows (places may)
  received_asked inputs.RetryTick may = so
  received_asked (inputs.Back entries) may = back_asked T known bound entries node

-- ---- every moment

abbrev pub HasAsked : List Entry → Recovery → Peer → Type 0
HasAsked log recovery peer =
    LevelIsAsked (targets_by log) (policy_in (log_effects log)) (epoch_of log) recovery peer.pending

pub record AskedHold (moment : MomentWithPast) : Type 0 where
  pub log : IsLog moment.world.log
  pub sound : HostsAreSound moment
  pub apart : (n : ℕ) (host : Host) → tree.get moment.world.hosts n ≡ Some host → AreNumberedApart host.node.recovery.unanswered
  pub asked : (n : ℕ) (host : Host) → tree.get moment.world.hosts n ≡ Some host
      → HasAsked moment.world.log host.node.recovery host.node.peer

-- the log grows
grown_asked : (log more : List Entry) → LogGrows log more → IsLog log → (recovery : Recovery) (peer : Peer) → HasAsked log recovery peer
    → HasAsked more recovery peer
grown_asked log more grows is_log recovery peer so search on any unagain =
    let was = so search on any unagain in
    let within = was.within in
    let epochs = epochs_grow log more grows in
    record {
      policy = was.policy;
      policy_so = ap (λ (all : List Entry). policy_in (log_effects all) search.oid) grows.is
          ∙ policy_stays log grows.rest search.oid was.policy was.policy_so;
      within = omega (arith, within, epochs);
      forth = λ other among. was.forth other (sym (same was.policy was.within other) ∙ among);
      back = λ other either. same was.policy was.within other ∙ was.back other either;
    }
  where
    same : (policy : Policy) → search.level ≤ epoch_of log → (other : NodeId)
        → has_node other (asked_by (targets_by more) recovery.me recovery.members search policy)
        ≡ has_node other (asked_by (targets_by log) recovery.me recovery.members search policy)
    same policy within other =
        ap (λ (nodes : List NodeId). has_node other
        (filter (λ (node : NodeId). has_node node recovery.members && not (is_same_node recovery.me node)) nodes))
        (ap (λ (all : List Entry). targets_by all search.level search.oid policy) grows.is
        ∙ targets_stay log grows.rest search.level search.oid policy (IsLog-some log is_log) within)

-- the next search is at a level from 1 to the one before the recovery's epoch
next_within : (epoch : ℕ) (pending : Option ℕ) (o : Option Search) (next : Search) → 2 ≤ epoch
    → ((search : Search) → o ≡ Some search → IsWithinLevels epoch search) → or_next epoch pending o ≡ Some next
    → IsWithinLevels epoch next
next_within epoch pending (Some search) next later on is =
    subst (IsWithinLevels epoch) (same_Some (search_at search.oid search.level) next is) (on search refl)
next_within epoch None None next later on is = absurd (cc (is))
next_within epoch (Some oid) None next later on is =
    subst (IsWithinLevels epoch) (same_Some (search_at oid (epoch - 1)) next is) (omega (arith, later), omega (arith, later))

module _ (script : List Statement) (range : RunsAreInRange script) where
  module _ (moment : MomentWithPast) (began : Began script moment.world) (holds : AskedHold moment) (n : ℕ) (was : Host)
      (there : tree.get moment.world.hosts n ≡ Some was) where
    pub on_levels : (one : Search) → search_on (recovery_state_of was.node) ≡ Some one → IsWithinLevels was.node.recovery.epoch one
    on_levels one on =
        subst (λ (o : Option Search). IfSome o (IsWithinLevels was.node.recovery.epoch))
        (is_on was.node.peer.pending was.node.recovery.search one on).search (levels-in_world script range moment.world began n was there)

    later_epoch : can_tick (recovery_state_of was.node) ≡ true → 2 ≤ was.node.recovery.epoch
    later_epoch may = above_1 (recovery_state_of was.node) (holds.sound.each n was there).sound.recovers.begun may

    pub next_levels : can_tick (recovery_state_of was.node) ≡ true → (search : Search)
        → next_search (recovery_state_of was.node) ≡ Some search → IsWithinLevels was.node.recovery.epoch search
    next_levels may search next =
        next_within was.node.recovery.epoch (first_in was.node.peer.pending) (search_on (recovery_state_of was.node)) search
        (later_epoch may) on_levels next

    -- the targets of a level before the recovery's epoch are those of the log
    pub targets_of_level : (level : ℕ) → 1 ≤ level → level < was.node.recovery.epoch → (oid : ℕ) (policy : Policy)
        → targets_in was.node.epochs level oid policy ≡ targets_by moment.world.log level oid policy
    targets_of_level level least most oid policy =
        let sound = holds.sound.each n was there in
        let entered = sound.sound.recovers.entered in
        node_targets moment.world.log n was.node sound.read
        (by_the_log script range.is_script range.room moment.world began n was there).epochs_so level least
        (omega (arith, most, entered)) (omega (arith, least, most, entered)) oid policy

    pub places_of : can_tick (recovery_state_of was.node) ≡ true → (search : Search)
        → next_search (recovery_state_of was.node) ≡ Some search
        → (search.level ≤ epoch_of moment.world.log)
        × ((policy : Policy) → targets_in was.node.epochs search.level search.oid policy
        ≡ targets_by moment.world.log search.level search.oid policy)
    places_of may search next =
        let sound = holds.sound.each n was there in
        let entered = sound.sound.recovers.entered in
        let within = next_levels may search next in
        let most = within.1 in
        let epochs = epoch_within moment.world.log n was.node.me was.node.peer sound.read in
        (omega (arith, most, entered, epochs), λ policy. targets_of_level search.level within.0 within.1 search.oid policy)

    pub may_ask : (cause : NodeCause) → is_host_up was ≡ true → IsCause script moment.world n was cause
        → MayAsk (input_of_cause cause) was.node
    may_ask (GuestAsks session req ask) up caused = tt
    may_ask (RequestComes name to request) up caused = tt
    may_ask (ReplyComes name from rsp) up caused =
        (caused_may script range moment.world began n was there up (ReplyComes name from rsp) tt caused).condition
    may_ask (LossIsTold name packet) up caused = tt
    may_ask (EntryIsRead entry) up caused = tt
    may_ask (EntryIsPut entry) up caused = tt
    may_ask RecoveryTicks up caused = caused
    may_ask WorkIsRetried up caused = tt
    may_ask (ClientAsks req ask) up caused = tt

    stepped_asked : (input : Input) → MayAsk input was.node
        → HasAsked moment.world.log (input_received input (at_first was.node)).node.recovery
        (input_received input (at_first was.node)).node.peer
    stepped_asked input may =
        received_asked (targets_by moment.world.log) (policy_in (log_effects moment.world.log)) (epoch_of moment.world.log) was.node
        (holds.sound.each n was there).sound.lists.asks_so (in_order-in_world script range moment.world began n was there).0
        (holds.apart n was there)
        (node_knows moment.world.log n was.node (holds.sound.each n was there).read) places_of (holds.asked n was there) input may

  module _ (start before after : MomentWithPast) (began : Began script start.world) (change : MomentChange script start before after)
      (holds : AskedHold before) where
    -- it is as after an input
    parts_asked : (old new : Node) → HasPartsOf old new → HasAsked before.world.log old.recovery old.peer
        → HasAsked before.world.log new.recovery new.peer
    parts_asked old new parts is =
        subst (λ (r : Recovery). HasAsked before.world.log r new.peer) (sym parts.recovery)
        (subst (HasAsked before.world.log old.recovery) (sym parts.peer) is)

    parts_apart : (old new : Node) → HasPartsOf old new → AreNumberedApart old.recovery.unanswered
        → AreNumberedApart new.recovery.unanswered
    parts_apart old new parts is = subst (λ (r : Recovery). AreNumberedApart r.unanswered) (sym parts.recovery) is

    asked_then : (n : ℕ) (now : Host) → PartsChange script before n now → HasAsked before.world.log now.node.recovery now.node.peer
    asked_then n now (PartsStay was there was_up parts) = parts_asked was.node now.node parts (holds.asked n was there)
    asked_then n now (PartsStep was cause now_began there up caused parts) =
        parts_asked (input_received (input_of_cause cause) (at_first was.node)).node now.node parts
        (stepped_asked before now_began holds n was there (input_of_cause cause)
        (may_ask before now_began holds n was there cause up caused))
    asked_then n now (PartsReturn was now_began there lost parts) =
        parts_asked (input_received (inputs.Back (log_after_return script n before.world)) (at_first was.node)).node now.node parts
        (stepped_asked before now_began holds n was there (inputs.Back (log_after_return script n before.world)) tt)
    asked_then n now (PartsAreNew fresh parts) = λ search on.
        let none : still_on now.node.peer.pending now.node.recovery.search ≡ None
        = ap (λ (r : Recovery). still_on now.node.peer.pending r.search) parts.recovery in
        absurd (cc (none, on))

    apart_then : (n : ℕ) (now : Host) → PartsChange script before n now → AreNumberedApart now.node.recovery.unanswered
    apart_then n now (PartsStay was there was_up parts) = parts_apart was.node now.node parts (holds.apart n was there)
    apart_then n now (PartsStep was cause now_began there up caused parts) =
        parts_apart (input_received (input_of_cause cause) (at_first was.node)).node now.node parts
        (received_apart (input_of_cause cause) was.node (may_ask before now_began holds n was there cause up caused)
        (holds.apart n was there))
    apart_then n now (PartsReturn was now_began there lost parts) =
        parts_apart (input_received (inputs.Back (log_after_return script n before.world)) (at_first was.node)).node now.node parts
        (received_apart (inputs.Back (log_after_return script n before.world)) was.node tt (holds.apart n was there))
    apart_then n now (PartsAreNew fresh parts) =
        subst (λ (r : Recovery). AreNumberedApart r.unanswered) (sym parts.recovery) none_apart

    change_asked : AskedHold after
    change_asked = record {
      log = (kept_log script range).keeps start before after began change holds.log;
      sound = (kept_sound script range).keeps start before after began change holds.sound;
      apart = λ n now there. apart_then n now (parts_change script range start began change n now there);
      asked = λ n now there.
          grown_asked before.world.log after.world.log (log_grows script change) holds.log now.node.recovery now.node.peer
          (asked_then n now (parts_change script range start began change n now there));
    }

  pub kept_asked : KeptByChanges script AskedHold
  kept_asked = record {
    opens = record {
      log = (kept_log script range).opens;
      sound = (kept_sound script range).opens;
      apart = λ n host there.
          (let (me, same) = opening_recovery script n host there in
          subst (λ (r : Recovery). AreNumberedApart r.unanswered) (sym same) none_apart);
      asked = λ n host there search on.
          (let (me, same) = opening_recovery script n host there in
          let none : still_on host.node.peer.pending host.node.recovery.search ≡ None
          = ap (λ (r : Recovery). still_on host.node.peer.pending r.search) same in
          absurd (cc (none, on)));
    };
    keeps = λ start before after began change holds. change_asked start before after began change holds;
  }

  -- the recovery is its node's
  abbrev IsOwn : ℕ → Recovery → Peer → Type 0
  IsOwn n recovery peer = recovery.me ≡ record { 0 = n }

  own-in_world : (world : World) → Began script world → (n : ℕ) (host : Host) → tree.get world.hosts n ≡ Some host
      → host.node.recovery.me ≡ record { 0 = n }
  own-in_world world began n host there =
      (nodes_sound script range.is_script range.room (λ w b. (range.messages w b).replies) world began n host there).recovery.own
      ∙ (λ i. record { 0 = knows_its_number script world began n host there i })

  module _ (events : List Move) (start moment : MomentWithPast) (is : run_with_past script events ≡ Some start)
      (trail : MomentTrail script start moment) where
    pub own_recovery : (n : ℕ) (host : Host) → tree.get moment.world.hosts n ≡ Some host → host.node.recovery.me ≡ record { 0 = n }
    own_recovery = recoveries-on_the_way script IsOwn own-in_world events start moment is trail

    pub asked_hold : AskedHold moment
    asked_hold = on_the_way script AskedHold kept_asked events start moment is trail

    module _ (n : ℕ) (host : Host) (there : tree.get moment.world.hosts n ≡ Some host) (later : 1 < host.node.recovery.epoch) where
      -- whom a level is asked of
      same_asked : (search : Search) (policy : Policy) (other : NodeId)
          → has_node other (asked_by (targets_by moment.world.log) host.node.recovery.me host.node.recovery.members search policy)
          ≡ is_asked (targets_by moment.world.log) moment.world.log host.node.recovery.epoch search n policy other
      same_asked search policy other =
          has_node-filter (λ (node : NodeId). has_node node host.node.recovery.members && not (is_same_node host.node.recovery.me node))
          other
          (targets_by moment.world.log search.level search.oid policy)
          ∙ and_first (has_node other (targets_by moment.world.log search.level search.oid policy))
          (has_node other host.node.recovery.members)
          (not (is_same_node host.node.recovery.me other))
          ∙ (λ i. has_node other (targets_by moment.world.log search.level search.oid policy)
          && ((are_present moment asked_hold.sound).members n host there other later i)
          && not (other.0 == (own_recovery n host there i).0))

    pub levels_asked-on_the_way : (good : ℕ → Bool)
        → LevelsAreAsked (targets_by moment.world.log) moment.world.log (log_effects moment.world.log) good moment.world.hosts
    levels_asked-on_the_way good = record {
      each = λ n host there up search policy on good_so policy_so any unagain other.
          let so = asked_hold.asked n host there search on any unagain in
          let same : so.policy ≡ policy = same_Some so.policy policy (sym so.policy_so ∙ policy_so) in
          let tests : has_node other (asked_by (targets_by moment.world.log) host.node.recovery.me host.node.recovery.members search
          so.policy)
          ≡ is_asked (targets_by moment.world.log) moment.world.log host.node.recovery.epoch search n policy other
          = same_asked n host there (later_of n host there up search on) search so.policy other
          ∙ ap (λ (p : Policy). is_asked (targets_by moment.world.log) moment.world.log host.node.recovery.epoch search n p other) same in
          (λ asked. so.forth other (tests ∙ asked), λ either. sym tests ∙ so.back other either);
    }
      where
        later_of : (n : ℕ) (host : Host) → tree.get moment.world.hosts n ≡ Some host → host.is_lost ≡ false → (search : Search)
            → search_on (recovery_state_of host.node) ≡ Some search → 1 < host.node.recovery.epoch
        later_of n host there up search on =
            let first = search_first-on_the_way script range events start moment is trail in
            let least = first.above n host there up search on in
            let most = first.below n host there up search on in
            omega (arith, least, most)
