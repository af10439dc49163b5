-- A recovery stays in range where its node is told something new: by a request, a reply or an entry, and as it comes back.
use Rattle.std.proofs.Common.{◌≡◌, arith, ℕ, ◌+◌, ◌-◌, ◌^◌, ◌≤◌, nat_lt, Bool, true, false, cond, List, [], ◌∷◌, ◌++◌, length, map, All, Some, refl, sym, ap, subst, ◌∙◌}
use Rattle.std.specs.Option.{IfSome}
use Rattle.std.proofs.Math.Nat.{min-le_left}
use Rattle.std.proofs.lemmas.List.Elements.{All-nil}
use Rattle.proof_tools.proofs.Booleans.{cond_either}
use Rattle.object_id.specs.declared.limits.TheConstants.{NODES_MAX, TARGETS_MAX}
use Rattle.object_id.specs.declared.entry.Entry.{Entry}
use Rattle.object_id.specs.declared.entry.Member.{Member}
use Rattle.object_id.specs.declared.node.NodeId.{NodeId}
use Rattle.object_id.specs.declared.policy.Policy.{Policy}
use Rattle.object_id.specs.Node.{IsNode}
use Rattle.object_id.specs.Oid.{IsOid, kind_of}
use Rattle.object_id.specs.Policy.{wanted_of}
use Rattle.epoch_log.specs.Appending.{IsReservable, IsLog}
use Rattle.epoch_log.specs.Epochs.{begins_epoch, epoch_of, settled_of}
use Rattle.epoch_log.proofs.EpochLemmas.{settled_of-begun}
use Rattle.epoch_log.proofs.MembersLemmas.{IsLog-epochs}
use Rattle.hash_ring.specs.Circle.{hash_of_object}
use Rattle.hash_ring.specs.Placement.{zone_count}
use Rattle.hash_ring.proofs.TargetLaws.{length-targets_of}
use Rattle.vnode_table.specs.Epochs.{EpochMembers, members_at}
use Rattle.vnode_table.specs.Targets.{targets_in}
use Rattle.peer_proto.specs.Header.{IsEpoch}
use Rattle.peer_proto.specs.declared.ask.PeerReq.{PeerReq}
use Rattle.peer_proto.specs.declared.say.PeerRsp.{PeerRsp}
use Rattle.peer_service.specs.State.{Peer}
use Rattle.peer_service.specs.Epochs.{peer_in_next_epoch, peer_settled_to}
use Rattle.peer_service.specs.Serve.{peer_step}
use Rattle.peer_service.specs.LogReading.{without_objects, read_entry}
use Rattle.peer_service.specs.Back.{closed_at_end, come_back}
use Rattle.gateway.specs.State as gateways
use Rattle.recovery.specs.Frame.{Frame}
use Rattle.recovery.specs.Range.{IsSearchInRange, IsInRange, NamesIds}
use Rattle.recovery.specs.State.{Message, Recovery, RecoveryState, initial_recovery, MayBegin}
use Rattle.recovery.specs.Steps as recovery_steps
use Rattle.recovery.proofs.StepLemmas.{frame_of_end}
use Rattle.recovery.proofs.RangeLemmas.{begun_in_range, ended_in_range}
use Rattle.sheep_node.specs.declared.input.Input.TheVariants as inputs
use Rattle.sheep_node.specs.State.{Node}
use Rattle.sheep_node.specs.RecoveryRange.{RecoveryMayStep, RecoversInRange}
use Rattle.sheep_node.specs.RecoveryView.{shown_peer, recovery_state_of, with_recovered_rows}
use Rattle.sheep_node.specs.StepState.{StepState, at_first}
use Rattle.sheep_node.specs.LogReading.{epoch_members, epochs_with_entry, peer_with_entry, node_with_entry, recovery_in_epoch, begins_recovery, recovery_with_entry, with_settled, entry_read, epochs_up_to, come_back_with, on_back}
use Rattle.sheep_node.specs.May.{MayRead, MayComeBack}
use Rattle.sheep_node.specs.Step.{on_request, recovery_stepped, node_step}
use Rattle.sheep_node.specs.StepFacts.{IsByTheLog, IsLogSoFar}
use Rattle.sheep_node.proofs.BegunRecoveries.{begun_shows}
use Rattle.sheep_node.proofs.KnownSpecs.{policy_valid, size_valid}
use Rattle.sheep_node.proofs.LogLaws.{Enters, entered_enters}
use Rattle.sheep_node.proofs.RecoverySteps.{recovery_begins_at_entry, recovery_begins_back}
use Rattle.sheep_world.proofs.ReadIds.{ChangesIds}
use Rattle.sheep_world.proofs.PeerIds.{IsPeerInRange, settled_range, next_range, entry_range, back_range, served_range}
use Rattle.sheep_world.proofs.RecoveryRangeEvents.{stepped_range, recovered_in_range}

-- ---- a recovery by itself, and what it sees of its node

-- what a recovery has by itself is in range
record IsOwnInRange (recovery : Recovery) : Type 0 where
  me : IsNode recovery.me.0
  epoch : IsEpoch (record { 0 = recovery.epoch })
  waiting : length recovery.lists.waiting ≤ NODES_MAX
  named : All IsOid recovery.lists.objects
  search : IfSome recovery.search IsSearchInRange

own_range : (state : RecoveryState) → IsInRange state → IsOwnInRange state.recovery
own_range state range =
    record { me = range.me; epoch = range.epoch; waiting = range.waiting; named = range.named; search = range.search }

pub few_targets : (epochs : List EpochMembers) (level oid : ℕ) (policy : Policy) → length (targets_in epochs level oid policy) ≤ wanted_of policy (kind_of oid)
unfolding targets_in
few_targets epochs level oid policy =
    subst (λ (n : ℕ). n ≤ wanted_of policy (kind_of oid))
    (sym (length-targets_of (members_at epochs level) (hash_of_object oid) (wanted_of policy (kind_of oid))))
    (min-le_left (wanted_of policy (kind_of oid)) (zone_count (members_at epochs level)))

abbrev state_with : Recovery → Peer → List EpochMembers → RecoveryState
state_with recovery peer epochs = record { recovery = recovery; shown = shown_peer (record { peer = peer; epochs = epochs }) }

whole_range : (recovery : Recovery) (peer : Peer) (epochs : List EpochMembers) → IsOwnInRange recovery → IsPeerInRange peer
    → IsInRange (state_with recovery peer epochs)
whole_range recovery peer epochs own seen = record {
  me = own.me;
  epoch = own.epoch;
  settled = seen.settled;
  waiting = own.waiting;
  policies = λ oid. policy_valid peer seen.reservable oid;
  targets = few_targets epochs;
  named = own.named;
  kept = seen.kept;
  pending = seen.pending;
  search = own.search;
}

seen_range : (node : Node) → All IsReservable node.peer.entries → RecoversInRange node → IsPeerInRange node.peer
seen_range node reservable range =
    record { settled = range.range.settled; reservable = reservable; kept = range.range.kept; pending = range.range.pending }

-- a log that isn't empty is one so far
log_so_far : (entries : List Entry) → IsLog entries → IsLogSoFar entries
log_so_far [] log = tt
log_so_far (first ∷ later) log = log

-- ---- a request is served, a reply comes

pub request_range : (request : PeerReq) (node : Node) → ChangesIds request.ask → All IsReservable node.peer.entries → RecoversInRange node
    → RecoversInRange (node_step (inputs.Request request) node).node
unfolding on_request
request_range request node is reservable range = stepped_range
    (inputs.Request request) node
    (record {
      own = range.own;
      range = whole_range node.recovery (peer_step node.peer request).peer node.epochs (own_range (recovery_state_of node) range.range)
          (served_range node.peer (seen_range node reservable range) request is);
    })

pub reply_range : (rsp : PeerRsp) (node : Node) → NamesIds rsp.say → RecoversInRange node → RecoversInRange (node_step (inputs.Reply rsp) node).node
unfolding recovery_steps.recovery_on_reply
reply_range rsp node names range = stepped_range
    (inputs.Reply rsp) node
    (cond_either (λ (so_far : StepState). RecoversInRange so_far.node) (gateways.gateway_awaits rsp.number node.gateway) (at_first node)
    (recovery_stepped (recovery_steps.message_end rsp.number (Some rsp.say) (recovery_state_of node)) (at_first node)) range
    (recovered_in_range node (recovery_steps.message_end rsp.number (Some rsp.say) (recovery_state_of node))
    (ap (λ (f : Frame). f.me) (frame_of_end rsp.number (Some rsp.say) (recovery_state_of node)))
    (ended_in_range rsp.number (Some rsp.say) (recovery_state_of node) names range.range) range))

-- ---- an entry is read

module _ (entry : Entry) (node : Node) (may : MayRead node.peer.entries entry) (log : IsLog (node.peer.entries ++ entry ∷ [])) (follows : IsByTheLog node)
    (reservable : All IsReservable node.peer.entries) (valid : IsReservable entry) (range : RecoversInRange node) where
  abbrev all : List Entry
  all = node.peer.entries ++ entry ∷ []

  -- the node is in the epoch that the entry begins, if it begins one
  abbrev entered : Node
  entered = node_with_entry entry node

  abbrev entered_nodes : List NodeId
  entered_nodes = map (λ (member : Member). member.node) (epoch_members entered)

  seen_entered : IsPeerInRange (peer_with_entry entry node)
  seen_entered =
      let read : IsPeerInRange (read_entry entry node.peer) = entry_range entry node.peer valid (seen_range node reservable range) in
      let targets = targets_in (epochs_with_entry entry node) in
      cond_either IsPeerInRange (begins_epoch entry) (peer_in_next_epoch node.me targets (read_entry entry node.peer)) (read_entry entry node.peer)
      (next_range node.me targets (read_entry entry node.peer) read) read

  entered_range : IsInRange (recovery_state_of entered)
  entered_range = whole_range node.recovery (peer_with_entry entry node) (epochs_with_entry entry node) (own_range (recovery_state_of node) range.range) seen_entered

  enters : Enters all node.peer.settled (peer_with_entry entry node) (epochs_with_entry entry node)
  unfolding read_entry without_objects
  enters = entered_enters (targets_in (epochs_with_entry entry node)) entry node (begins_epoch entry) refl may follows

  -- whether a recovery may begin doesn't depend on the one before
  abbrev plain : Node
  plain = record node { recovery = initial_recovery node.me }

  plain_may : RecoveryMayStep plain
  plain_may =
      let at : node.peer.epoch ≡ epoch_of node.peer.entries = follows.epoch_so in
      record {
        own = refl;
        may = record {
          epoch = omega arith;
          entered = omega (arith, at);
          settled = range.range.settled;
          waiting = omega arith;
          policies = λ oid. policy_valid node.peer reservable oid;
          sizes = λ oid. size_valid node.peer reservable oid;
          search = tt;
          wanted = All-nil (λ (message : Message). message.wanted ≤ TARGETS_MAX);
        };
      }

  begins_at_entry : begins_recovery entry node ≡ true → MayBegin entered.peer.epoch entered_nodes (recovery_state_of entered)
  begins_at_entry begins =
      let same : IsByTheLog plain = record { epoch_so = follows.epoch_so; settled_so = follows.settled_so; epochs_so = follows.epochs_so } in
      let is = recovery_begins_at_entry entry plain may (log_so_far all log) same plain_may begins in
      let own = subst
      (λ (me : NodeId). MayBegin entered.peer.epoch entered_nodes (record (recovery_state_of entered) { recovery = initial_recovery me }))
      (sym range.own) is in
      record { own_epoch = refl; above_1 = is.above_1; ascend = is.ascend; nodes = is.nodes; member = own.member }

  abbrev IsAfterEntry : RecoveryState → Type 0
  IsAfterEntry state = (state.recovery.me ≡ node.me) × IsInRange state

  after_entry : (b : Bool) → begins_recovery entry node ≡ b → IsAfterEntry (cond b (recovery_in_epoch entered) (recovery_state_of entered))
  after_entry true begins =
      let most : epoch_of all ≤ 2 ^ 32 - 1 = IsLog-epochs all log in
      let now : entered.peer.epoch ≡ epoch_of all = enters.epoch_so in (
        (begun_shows entered.peer.epoch entered_nodes (recovery_state_of entered)).me ∙ range.own,
        begun_in_range entered.peer.epoch entered_nodes (recovery_state_of entered) (begins_at_entry begins) (omega (arith, most, now)) entered_range,
      )
  after_entry false none = (range.own, entered_range)

  read_in_range : RecoversInRange (entry_read entry node)
  unfolding entry_read
  read_in_range =
      let state : RecoveryState = recovery_with_entry entry node in
      let after : IsAfterEntry state = after_entry (begins_recovery entry node) refl in
      let settled : ℕ = settled_of (read_entry entry node.peer).entries in
      let peer : Peer = with_recovered_rows state (peer_with_entry entry node) in
      let seen : IsPeerInRange peer = record {
        settled = seen_entered.settled;
        reservable = seen_entered.reservable;
        kept = after.1.kept;
        pending = after.1.pending;
      } in
      record {
        own = after.0;
        range = whole_range state.recovery (with_settled settled peer) (epochs_with_entry entry node) (own_range state after.1)
            (cond_either IsPeerInRange (nat_lt peer.settled settled) (peer_settled_to settled peer) peer
            (settled_range settled peer (settled_of-begun (read_entry entry node.peer).entries).0 seen) seen);
      }

  pub log_entry_range : RecoversInRange (node_step (inputs.LogEntry entry) node).node
  log_entry_range = stepped_range (inputs.LogEntry entry) node read_in_range

-- ---- a node comes back

module _ (entries : List Entry) (node : Node) (may : MayComeBack entries node) (log : IsLog entries) (reservable : All IsReservable entries)
    (range : RecoversInRange node) where
  abbrev back : Node
  back = come_back_with entries node

  abbrev back_nodes : List NodeId
  back_nodes = map (λ (member : Member). member.node) (epoch_members back)

  at_return : RecoversInRange back
  at_return = record {
    own = refl;
    range = whole_range (initial_recovery node.me) (come_back entries node.peer) (epochs_up_to entries (epoch_of entries))
        (record {
          me = subst (λ (me : NodeId). IsNode me.0) range.own range.range.me;
          epoch = (omega arith, omega arith);
          waiting = omega arith;
          named = All-nil IsOid;
          search = tt;
        })
        (back_range entries node.peer reservable range.range.kept);
  }

  back_epoch : back.peer.epoch ≡ epoch_of entries
  unfolding come_back closed_at_end peer_settled_to without_objects
  back_epoch = refl

  back_in_range : RecoversInRange (on_back entries node)
  unfolding on_back
  back_in_range =
      let most : epoch_of entries ≤ 2 ^ 32 - 1 = IsLog-epochs entries log in
      let now : back.peer.epoch ≡ epoch_of entries = back_epoch in
      let begun = recovered_in_range back (recovery_in_epoch back) (begun_shows back.peer.epoch back_nodes (recovery_state_of back)).me
      (begun_in_range back.peer.epoch back_nodes (recovery_state_of back) (recovery_begins_back entries node may (log_so_far entries log)) (omega (arith, most, now)) at_return.range)
      at_return in
      record { own = begun.own; range = begun.range }

  pub return_range : RecoversInRange (node_step (inputs.Back entries) node).node
  return_range = stepped_range (inputs.Back entries) node back_in_range
