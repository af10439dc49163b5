-- A node's recovery is in the node's name and may make each step: at the node's opening, and after each step of the node.
use Rattle.std.proofs.Common.{◌≡◌, ℕ, suc, ◌+◌, ◌-◌, ◌^◌, ◌<◌, ◌≤◌, ◌||◌, Bool, true, false, cond, List, [], ◌∷◌, ◌++◌, length, filter, map, All, Option, Some, None, is_some, refl, sym, ap, subst, ◌∙◌, arith, ⊎_elim}
use Rattle.std.specs.Option.{IfSome}
use Rattle.std.specs.FinMap as tree
use Rattle.std.proofs.lemmas.Bool.{leb-true, and_parts, or_cases}
use Rattle.std.proofs.lemmas.List.Elements.{All-nil, All-head, All-tail, All-cons, All-push}
use Rattle.proof_tools.proofs.Booleans.{cond_either}
use Rattle.object_id.specs.declared.limits.TheConstants.{TARGETS_MAX}
use Rattle.object_id.specs.Policy.{IsPolicy}
use Rattle.object_id.specs.declared.entry.Entry.{Entry}
use Rattle.object_id.specs.declared.entry.Member.{Member}
use Rattle.object_id.specs.declared.node.NodeId.{NodeId}
use Rattle.object_id.specs.declared.policy.Policy.{Policy}
use Rattle.object_store.specs.declared.row.RowCopy.{RowCopy}
use Rattle.epoch_log.specs.Members as members
use Rattle.epoch_log.specs.Members.{AreMembers}
use Rattle.epoch_log.specs.Epochs.{begins_epoch, epoch_of, members_in, settled_of}
use Rattle.epoch_log.specs.Appending.{IsReservable, IsLog}
use Rattle.epoch_log.proofs.EpochLemmas.{epoch_of-append, settled_of-begun}
use Rattle.epoch_log.proofs.MembersLemmas.{IsLog-some, IsLog-members}
use Rattle.vnode_table.specs.Epochs.{EpochMembers}
use Rattle.vnode_table.specs.Targets.{targets_in}
use Rattle.peer_proto.specs.declared.ask.PeerReq.{PeerReq}
use Rattle.peer_proto.specs.declared.say.PeerRsp.{PeerRsp}
use Rattle.peer_proto.specs.declared.say.PeerSay.{PeerSay}
use Rattle.peer_service.specs.State.{Peer, length_of_rows}
use Rattle.peer_service.specs.Epochs.{peer_settled_to}
use Rattle.peer_service.specs.LogReading.{without_objects, read_entry}
use Rattle.peer_service.specs.Back.{closed_at_end, come_back}
use Rattle.gateway.specs.State as gateways
use Rattle.gateway.specs.State.{Work, asker, fits_asker}
use Rattle.recovery.specs.declared.search.RowAnswer.{RowAnswer}
use Rattle.recovery.specs.Shown.{NodeView, shown_with_pending}
use Rattle.recovery.specs.State.{Message, Search, Recovery, RecoveryState, initial_recovery, is_listed}
use Rattle.recovery.specs.Fits.{fits_recovery}
use Rattle.recovery.specs.Frame.{Frame}
use Rattle.recovery.specs.Step.{IsFittingRow, AnswersFit, IsPartSize, MayStep}
use Rattle.recovery.specs.Steps as recovery_steps
use Rattle.recovery.specs.Steps.{to_recover, at_start, recovery_from_epoch, message_end}
use Rattle.recovery.specs.Tick.{state_after_tick}
use Rattle.recovery.proofs.StepLemmas.{frame_of_tick, frame_of_end}
use Rattle.recovery.proofs.MayLemmas.{may_after_tick, may_after_reply, may_after_loss, may_after_begin}
use Rattle.sheep_node.specs.declared.input.Input.{Input}
use Rattle.sheep_node.specs.declared.input.Input.TheVariants as inputs
use Rattle.sheep_node.specs.declared.limits.TheConstants.{SENDS_MAX}
use Rattle.sheep_node.specs.State.{Node, initial_node}
use Rattle.sheep_node.specs.RecoveryView.{shown_peer, shown_node, recovery_state_of}
use Rattle.sheep_node.specs.RecoveryRange.{RecoveryMayStep, RecoveryMayBegin}
use Rattle.sheep_node.specs.StepState.{StepState, at_first}
use Rattle.sheep_node.specs.LogReading.{epoch_members, is_epoch_member, peer_with_entry, epochs_with_entry, node_with_entry, recovery_in_epoch, begins_recovery, recovery_with_entry, entry_read, come_back_with, on_back}
use Rattle.sheep_node.specs.May.{fits_node, MayRead, MayComeBack, May}
use Rattle.sheep_node.specs.Step.{on_request, recovery_stepped, on_put, on_recover_tick, node_step}
use Rattle.sheep_node.specs.StepFacts.{epochs_of, FollowsLog, IsByTheLog, IsLogSoFar, HasReadLog}
use Rattle.sheep_node.specs.ValidDisks.{IsValidInput, HasValidDisks}
use Rattle.sheep_node.specs.Changes.{input_received}
use Rattle.sheep_node.proofs.BegunRecoveries.{may_begin, begun_shows}
use Rattle.sheep_node.proofs.PeerLog.{Log, log_of, served_same, entries_reading}
use Rattle.sheep_node.proofs.KeptLogs.{log_of_some, some_read, newest_members, members_of_newest}
use Rattle.sheep_node.proofs.KnownSpecs.{size_stays, policy_valid, size_valid}
use Rattle.sheep_node.proofs.StepResults.{step_me, step_peer, step_recovery}
use Rattle.sheep_node.proofs.LogLaws.{Enters, epoch_more, entered_enters, reads_follow, back_follows}
use Rattle.sheep_node.proofs.ReadLogs.{log_after}
use Rattle.sheep_node.proofs.ValidLaws.{valid_input}

-- ---- what a recovery needs of what it sees

-- what a recovery needs of its node alone: a settled epoch was read, and what is known of objects is valid
record IsValidView (shown : NodeView) : Type 0 where
  settled : 1 ≤ shown.settled
  policies : (oid : ℕ) → IfSome (shown.policy_of oid) IsPolicy
  sizes : (oid : ℕ) (policy : Policy) (size : ℕ) → shown.policy_of oid ≡ Some policy → shown.size_of oid ≡ Some size → IsPartSize policy oid size

view_of : (state : RecoveryState) → MayStep state → IsValidView state.shown
view_of state is = record { settled = is.settled; policies = is.policies; sizes = is.sizes }

-- so it is where a node has read entries that may be reserved
read_view : (peer : Peer) (epochs : List EpochMembers) → 1 ≤ peer.settled → All IsReservable peer.entries
    → IsValidView (shown_peer (record { peer = peer; epochs = epochs }))
read_view peer epochs settled reservable =
    record { settled = settled; policies = policy_valid peer reservable; sizes = size_valid peer reservable }

-- the lengths of rows that were known are known still
abbrev Grows : NodeView → NodeView → Type 0
Grows old new = (oid size : ℕ) → old.size_of oid ≡ Some size → new.size_of oid ≡ Some size

still_fits : (old new : NodeView) (oid : ℕ) → Grows old new → (o : Option RowCopy) → IfSome o (IsFittingRow old oid) → IfSome o (IsFittingRow new oid)
still_fits old new oid grows None fits = tt
still_fits old new oid grows (Some row) fits = (grows oid row.length fits.0, fits.1)

still_fit : (old new : NodeView) (oid : ℕ) → Grows old new → (answers : List RowAnswer) → AnswersFit old oid answers → AnswersFit new oid answers
still_fit old new oid grows [] fit = tt
still_fit old new oid grows (answer ∷ answers) fit = (still_fits old new oid grows answer.row fit.0, still_fit old new oid grows answers fit.1)

-- a recovery goes on where its node is in no earlier epoch, and knows what it knew
goes_on : (state : RecoveryState) (new : NodeView) → state.shown.epoch ≤ new.epoch → Grows state.shown new → IsValidView new → MayStep state
    → MayStep (record { recovery = state.recovery; shown = new })
goes_on state new later grows valid is = record {
  epoch = is.epoch;
  entered = (let entered : state.recovery.epoch ≤ state.shown.epoch = is.entered in omega (arith, entered, later));
  settled = valid.settled;
  waiting = is.waiting;
  policies = valid.policies;
  sizes = valid.sizes;
  search = searched state.recovery.search is.search;
  wanted = is.wanted;
}
  where
    searched : (o : Option Search) → IfSome o (λ search. (1 ≤ search.level) × (search.level < state.recovery.epoch) × AnswersFit state.shown search.oid search.answers)
        → IfSome o (λ search. (1 ≤ search.level) × (search.level < state.recovery.epoch) × AnswersFit new search.oid search.answers)
    searched None fits = tt
    searched (Some search) fits = (fits.0, fits.1, still_fit state.shown new search.oid grows search.answers fits.2)

-- all that it needs of its node is what that has of the log
abbrev peer_of_log : Log → Peer
peer_of_log log = record { epoch = log.epoch; settled = log.settled; rows = tree.empty; pending = None; entries = log.entries }

abbrev view_of_log : Log → NodeView
view_of_log log = shown_peer (record { peer = peer_of_log log; epochs = [] })

abbrev StepsBy : Recovery → Log → Type 0
StepsBy recovery log = MayStep (record { recovery = recovery; shown = view_of_log log })

module _ (recovery : Recovery) (peer : Peer) (epochs : List EpochMembers) where
  abbrev state_with : RecoveryState
  state_with = record { recovery = recovery; shown = shown_peer (record { peer = peer; epochs = epochs }) }

  by_log : MayStep state_with → StepsBy recovery (log_of peer)
  by_log is = record {
    epoch = is.epoch;
    entered = is.entered;
    settled = is.settled;
    waiting = is.waiting;
    policies = is.policies;
    sizes = is.sizes;
    search = is.search;
    wanted = is.wanted;
  }

  from_log : StepsBy recovery (log_of peer) → MayStep state_with
  from_log is = record {
    epoch = is.epoch;
    entered = is.entered;
    settled = is.settled;
    waiting = is.waiting;
    policies = is.policies;
    sizes = is.sizes;
    search = is.search;
    wanted = is.wanted;
  }

-- before the first recovery
first_steps : (me : NodeId) (log : Log) → 1 ≤ log.epoch → 1 ≤ log.settled → All IsReservable log.entries → StepsBy (initial_recovery me) log
first_steps me log begun settled reservable =
    let valid : IsValidView (view_of_log log) = read_view (peer_of_log log) [] settled reservable in
    record {
      epoch = omega arith;
      entered = begun;
      settled = settled;
      waiting = omega arith;
      policies = valid.policies;
      sizes = valid.sizes;
      search = tt;
      wanted = All-nil (λ (message : Message). message.wanted ≤ TARGETS_MAX);
    }

-- ---- a step of the recovery

-- a reply that the gateway doesn't wait for fits what the recovery asked
pub fits_what_recovery_asked : (rsp : PeerRsp) (node : Node) → gateways.gateway_awaits rsp.number node.gateway ≡ false → fits_node rsp node ≡ true
    → fits_recovery rsp (recovery_state_of node) ≡ true
fits_what_recovery_asked rsp node apart fit = ⊎_elim
    (λ (works : gateways.fits_gateway rsp node.gateway ≡ true). by_asker (asker rsp.number node.gateway) apart works)
    (λ (recovers : fits_recovery rsp (recovery_state_of node) ≡ true). recovers)
    (or_cases (gateways.fits_gateway rsp node.gateway) (fits_recovery rsp (recovery_state_of node)) fit)
  where
    by_asker : (o : Option (ℕ × Work)) → is_some o ≡ false → fits_asker o rsp.say ≡ true → fits_recovery rsp (recovery_state_of node) ≡ true
    by_asker None none fit = absurd (cc (fit))
    by_asker (Some found) none fit = absurd (cc (none))

-- what the node's recovery is then: in the node's name, and it may step by what the node has of the log
abbrev Recovers : Node → Node → Type 0
Recovers old new = (new.recovery.me ≡ old.me) × StepsBy new.recovery (log_of new.peer)

module _ (node : Node) (is : RecoveryMayStep node) where
  stays : Recovers node node
  stays = (is.own, by_log node.recovery node.peer node.epochs is.may)

  -- a state that the node's recovery came to, with the same frame but for its messages
  recovered : (state : RecoveryState) → state.recovery.me ≡ node.recovery.me → state.shown.epoch ≡ node.peer.epoch
      → state.shown.size_of ≡ length_of_rows node.peer → MayStep state → (state.recovery.me ≡ node.me) × StepsBy state.recovery (log_of node.peer)
  recovered state me_so epoch_so size_so may = (
    me_so ∙ is.own,
    by_log state.recovery node.peer node.epochs (goes_on state (shown_node node) (omega (arith, epoch_so))
        (λ oid size known. ap (λ (size_of : ℕ → Option ℕ). size_of oid) (sym size_so) ∙ known) (view_of (recovery_state_of node) is.may) may),
  )

  -- a message of it has ended
  ended : (number : ℕ) (said : Option PeerSay) → MayStep (message_end number said (recovery_state_of node))
      → Recovers node (recovery_stepped (message_end number said (recovery_state_of node)) (at_first node)).node
  ended number said may =
      let same = frame_of_end number said (recovery_state_of node) in
      recovered (message_end number said (recovery_state_of node)) (ap (λ (f : Frame). f.me) same) (ap (λ (f : Frame). f.epoch) same)
      (ap (λ (f : Frame). f.size_of) same) may

  replied : (rsp : PeerRsp) → fits_recovery rsp (recovery_state_of node) ≡ true
      → Recovers node (recovery_stepped (recovery_steps.recovery_on_reply rsp (recovery_state_of node)) (at_first node)).node
  unfolding recovery_steps.recovery_on_reply
  replied rsp fits = ended rsp.number (Some rsp.say) (may_after_reply rsp (recovery_state_of node) fits is.may)

  told : (number : ℕ) → Recovers node (recovery_stepped (recovery_steps.recovery_on_loss number (recovery_state_of node)) (at_first node)).node
  unfolding recovery_steps.recovery_on_loss
  told number = ended number None (may_after_loss number (recovery_state_of node) is.may)

  ticked : May inputs.RecoverTick node → Recovers node (on_recover_tick (at_first node)).node
  unfolding on_recover_tick
  ticked may =
      let state = recovery_state_of node in
      let count : node.sends ≤ SENDS_MAX = leb-true node.sends SENDS_MAX may.numbers in
      let room : node.sends ≤ 2 ^ 32 - 64 = omega (arith, count) in
      let same = frame_of_tick node.sends state in
      recovered (state_after_tick node.sends state) (ap (λ (f : Frame). f.me) same) (ap (λ (f : Frame). f.epoch) same)
      (ap (λ (f : Frame). f.size_of) same) (may_after_tick node.sends state (record { work = may.condition; room = room }) is.may)

  -- another node's request is served
  served : (request : PeerReq) → Recovers node (on_request request (at_first node)).node
  unfolding on_request
  served request = (is.own, subst (StepsBy node.recovery) (sym (served_same node.peer request)) stays.1)

-- ---- a recovery begins

-- the recovery of the epoch that a node is in by the log that it has read may begin, where the node is a member of it
begins_in_epoch : (node : Node) (settled : ℕ) → node.recovery.me ≡ node.me → IsLog node.peer.entries
    → FollowsLog node.peer.epoch settled node.epochs node.peer.entries → 1 < node.peer.epoch → is_epoch_member node ≡ true
    → RecoveryMayBegin node
begins_in_epoch node settled own log follows above member =
    let same : epoch_members node ≡ members_in node.peer.entries (epoch_of node.peer.entries)
    = members_of_newest node.peer.epoch settled node.epochs node.peer.entries follows (IsLog-some node.peer.entries log) in
    may_begin node own above
    (subst AreMembers (sym same) (IsLog-members node.peer.entries (epoch_of node.peer.entries) log (omega arith)).0) member

-- what a node that is where its entries have it has of the log
abbrev log_at : List Entry → Log
log_at entries = record { epoch = epoch_of entries; settled = settled_of entries; entries = entries }

log_by : (node : Node) (entries : List Entry) → IsByTheLog node → node.peer.entries ≡ entries → log_of node.peer ≡ log_at entries
log_by node entries follows same = λ i. record {
  epoch = (follows.epoch_so ∙ ap epoch_of same) i;
  settled = (follows.settled_so ∙ ap settled_of same) i;
  entries = same i;
}

-- ---- an entry is read

module _ (entry : Entry) (node : Node) (may : MayRead node.peer.entries entry) (log : IsLogSoFar (node.peer.entries ++ entry ∷ [])) (follows : IsByTheLog node)
    (is : RecoveryMayStep node) where
  abbrev all : List Entry
  all = node.peer.entries ++ entry ∷ []

  -- the node is in the epoch that the entry begins, if it begins one
  abbrev entered : Node
  entered = node_with_entry entry node

  abbrev entered_nodes : List NodeId
  entered_nodes = map (λ (member : Member). member.node) (epoch_members entered)

  enters : Enters all node.peer.settled (peer_with_entry entry node) (epochs_with_entry entry node)
  unfolding read_entry without_objects
  enters = entered_enters (targets_in (epochs_with_entry entry node)) entry node (begins_epoch entry) refl may follows

  entered_may : All IsReservable all → MayStep (recovery_state_of entered)
  entered_may reservable =
      let before : node.peer.epoch ≡ epoch_of node.peer.entries = follows.epoch_so in
      let now : entered.peer.epoch ≡ epoch_of all = enters.epoch_so in
      let more : epoch_of all ≡ epoch_of node.peer.entries + length (filter begins_epoch (entry ∷ []))
      = epoch_of-append node.peer.entries (entry ∷ []) in
      let was : 1 ≤ node.peer.settled = is.may.settled in
      let settled : entered.peer.settled ≡ node.peer.settled = enters.settled_so in
      goes_on (recovery_state_of node) (shown_node entered) (omega (arith, before, now, more))
      (λ oid size known. size_stays node.peer entered.peer entry oid size enters.read_so known)
      (read_view entered.peer entered.epochs (omega (arith, was, settled)) (subst (All IsReservable) (sym enters.read_so) reservable)) is.may

  pub recovery_begins_at_entry : begins_recovery entry node ≡ true → RecoveryMayBegin entered
  recovery_begins_at_entry begins =
      let parts = and_parts (begins_epoch entry) (is_epoch_member entered) begins in
      let now : entered.peer.epoch ≡ epoch_of all = enters.epoch_so in
      let more : epoch_of all ≡ suc (epoch_of node.peer.entries) = epoch_more node.peer.entries entry parts.0 in
      begins_in_epoch entered (settled_of entered.peer.entries) is.own
      (subst IsLog (sym enters.read_so) (log_of_some all (some_read node.peer.entries entry) log))
      (record {
        epoch_so = enters.epoch_so ∙ ap epoch_of (sym enters.read_so);
        settled_so = refl;
        epochs_so = enters.epochs_so ∙ ap epochs_of (sym enters.read_so);
      }) (omega (arith, now, more)) parts.1

  -- the recovery then, whether it begins anew or goes on
  abbrev IsAfterEntry : RecoveryState → Type 0
  IsAfterEntry state = MayStep state × (state.recovery.me ≡ node.me) × (state.shown.epoch ≡ entered.peer.epoch)
      × (state.shown.size_of ≡ length_of_rows entered.peer)

  after_entry : All IsReservable all → (b : Bool) → begins_recovery entry node ≡ b
      → IsAfterEntry (cond b (recovery_in_epoch entered) (recovery_state_of entered))
  after_entry reservable true begins =
      let shows = begun_shows entered.peer.epoch entered_nodes (recovery_state_of entered) in (
        may_after_begin entered.peer.epoch entered_nodes (recovery_state_of entered) (recovery_begins_at_entry begins) (entered_may reservable),
        shows.me ∙ is.own,
        shows.epoch,
        shows.size_of,
      )
  after_entry reservable false none = (entered_may reservable, is.own, refl, refl)

  entry_steps : All IsReservable all → Recovers node (entry_read entry node)
  unfolding entry_read
  entry_steps reservable =
      let state : RecoveryState = recovery_with_entry entry node in
      let after : IsAfterEntry state = after_entry reservable (begins_recovery entry node) refl in
      let epoch_so : state.shown.epoch ≡ epoch_of all = after.2 ∙ enters.epoch_so in (
        after.1,
        subst (StepsBy state.recovery) (sym (log_by (entry_read entry node) all (reads_follow entry node may follows) (entries_reading entry node)))
            (goes_on state (view_of_log (log_at all)) (omega (arith, epoch_so))
            (λ oid size known.
            ap (λ (entries : List Entry). length_of_rows (peer_of_log (log_at entries)) oid) (sym enters.read_so)
            ∙ ap (λ (size_of : ℕ → Option ℕ). size_of oid) (sym after.3) ∙ known)
            (read_view (peer_of_log (log_at all)) [] (settled_of-begun all).0 reservable) after.0),
      )

-- ---- a node comes back

pub recovery_begins_back : (entries : List Entry) (node : Node) → MayComeBack entries node → IsLogSoFar entries
    → RecoveryMayBegin (come_back_with entries node)
unfolding on_back come_back closed_at_end peer_settled_to without_objects
recovery_begins_back entries node may log =
    let above : 1 < epoch_of entries = may.above_1 in
    begins_in_epoch (come_back_with entries node) (settled_of entries) refl (log_of_some entries (some_begun entries above) log)
    (back_follows entries node above) above (ap (members.is_member node.me.0) (newest_members entries) ∙ may.member)
  where
    some_begun : (entries : List Entry) → 1 < epoch_of entries → 1 ≤ length entries
    some_begun [] above = absurd (omega arith)
    some_begun (first ∷ later) above = omega arith

back_steps : (entries : List Entry) (node : Node) → MayComeBack entries node → All IsReservable entries → IsLogSoFar entries
    → Recovers node (on_back entries node)
unfolding on_back come_back closed_at_end peer_settled_to without_objects
back_steps entries node may reservable log =
    let back : Node = come_back_with entries node in
    let nodes : List NodeId = map (λ (member : Member). member.node) (epoch_members back) in
    let above : 1 < epoch_of entries = may.above_1 in
    let first : StepsBy back.recovery (log_at entries)
    = first_steps node.me (log_at entries) (omega (arith, above)) (settled_of-begun entries).0 reservable in
    let shows = begun_shows back.peer.epoch nodes (recovery_state_of back) in
    let epoch_so : (recovery_in_epoch back).shown.epoch ≡ epoch_of entries = shows.epoch in (
      shows.me,
      goes_on (recovery_in_epoch back) (view_of_log (log_at entries)) (omega (arith, epoch_so))
          (λ oid size known. ap (λ (size_of : ℕ → Option ℕ). size_of oid) (sym shows.size_of) ∙ known)
          (read_view (peer_of_log (log_at entries)) [] (settled_of-begun entries).0 reservable)
          (may_after_begin back.peer.epoch nodes (recovery_state_of back) (recovery_begins_back entries node may log)
          (from_log back.recovery back.peer back.epochs first)),
    )

-- ---- each step

received_steps : (input : Input) (node : Node) → May input node → IsValidInput input → All IsReservable node.peer.entries → HasReadLog node → IsByTheLog node
    → RecoveryMayStep node → Recovers node (input_received input (at_first node)).node
received_steps (inputs.Guest req session ask) node may valid reservable log follows is = stays node is
received_steps (inputs.Request request) node may valid reservable log follows is = served node is request
received_steps (inputs.Reply rsp) node may valid reservable log follows is = by_waiting (gateways.gateway_awaits rsp.number node.gateway) refl
  where
    by_waiting : (b : Bool) → gateways.gateway_awaits rsp.number node.gateway ≡ b
        → Recovers node (cond b (at_first node) (recovery_stepped (recovery_steps.recovery_on_reply rsp (recovery_state_of node)) (at_first node))).node
    by_waiting true waits = stays node is
    by_waiting false apart = replied node is rsp (fits_what_recovery_asked rsp node apart may.condition)
received_steps (inputs.Lost number) node may valid reservable log follows is =
    cond_either (λ (start : StepState). Recovers node start.node) (gateways.gateway_awaits number node.gateway) (at_first node)
    (recovery_stepped (recovery_steps.recovery_on_loss number (recovery_state_of node)) (at_first node)) (stays node is) (told node is number)
received_steps (inputs.LogEntry entry) node may valid reservable log follows is =
    entry_steps entry node may.condition (log_after (inputs.LogEntry entry) node may.condition log) follows is
    (All-push IsReservable node.peer.entries entry reservable valid)
received_steps inputs.Put node may valid reservable log follows is = by_outbox node.outbox
  where
    by_outbox : (outbox : List Entry) → Recovers node (on_put outbox (at_first node)).node
    by_outbox [] = stays node is
    by_outbox (entry ∷ later) = stays node is
received_steps inputs.RecoverTick node may valid reservable log follows is = ticked node is may
received_steps inputs.RetryTick node may valid reservable log follows is = stays node is
received_steps (inputs.Back entries) node may valid reservable log follows is =
    back_steps entries node may.condition valid (log_after (inputs.Back entries) node may.condition log)

pub recovery_may_step_at_opening : (me : NodeId) (tries : ℕ) → RecoveryMayStep (initial_node me tries)
recovery_may_step_at_opening me tries =
    let node : Node = initial_node me tries in
    record {
      own = refl;
      may = from_log node.recovery node.peer node.epochs
          (first_steps me (log_of node.peer) (omega arith) (omega arith) (All-nil IsReservable));
    }

pub recovery_may_step_stays : (input : Input) (node : Node) → May input node → HasReadLog node → IsByTheLog node → HasValidDisks node
    → RecoveryMayStep node → RecoveryMayStep (node_step input node).node
recovery_may_step_stays input node may log follows disks is =
    let received : Node = (input_received input (at_first node)).node in
    let stepped : Node = (node_step input node).node in
    let steps : Recovers node received
    = received_steps input node may (valid_input input node may.condition disks.read) disks.read log follows is in
    record {
      own = ap (λ (recovery : Recovery). recovery.me) (step_recovery input node) ∙ steps.0 ∙ sym (step_me input node);
      may = from_log stepped.recovery stepped.peer stepped.epochs
          (subst (λ (recovery : Recovery). StepsBy recovery (log_of stepped.peer)) (sym (step_recovery input node))
          (subst (λ (peer : Peer). StepsBy received.recovery (log_of peer)) (sym (step_peer input node)) steps.1));
    }
