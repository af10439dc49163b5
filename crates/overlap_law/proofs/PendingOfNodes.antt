-- What is pending at a node, its recovery is to find: the recovery is of the node's own epoch, its list is finished, and the node is a
-- target of each pending object. Each step of a node leaves it so, if a node stays a member.
use Rattle.std.proofs.Common.{◌≡◌, ⊎_elim, arith, ℕ, ◌+◌, ◌≤◌, ◌<◌, ◌==◌, ◌&&◌, ◌||◌, nat_lt, Bool, true, false, not, cond, List, [], ◌∷◌}
use Rattle.std.proofs.Common.{◌++◌, length, map, Option, Some, None, is_some, refl, sym, ap, subst, ◌∙◌}
use Rattle.std.specs.Option.{option_map, option_map_or}
use Rattle.std.proofs.lemmas.Bool.{cases_lt, eq-eqb, ne_eqb, and_parts, not-true}
use Rattle.proof_tools.proofs.Booleans.{cond_either}
use Rattle.object_id.specs.declared.entry.Entry.{Entry}
use Rattle.object_id.specs.declared.entry.Member.{Member}
use Rattle.object_id.specs.declared.entry.VdiSpec.{VdiSpec}
use Rattle.object_id.specs.declared.node.NodeId.{NodeId}
use Rattle.object_id.specs.declared.policy.Policy.{Policy}
use Rattle.object_id.specs.Oid.{kind_of, vid_of}
use Rattle.object_id.specs.Policy.{wanted_of}
use Rattle.epoch_log.specs.Appending.{is_format}
use Rattle.epoch_log.specs.Epochs.{begins_epoch, epoch_of, settled_of}
use Rattle.gf256.specs.Part.{index_among}
use Rattle.hash_ring.specs.Circle.{hash_of_object}
use Rattle.hash_ring.specs.Placement.{targets_of}
use Rattle.peer_proto.specs.declared.ask.PeerReq.{PeerReq}
use Rattle.peer_proto.specs.declared.say.PeerSay.{PeerSay}
use Rattle.vdi_directory.specs.Decisions.{log_effects}
use Rattle.peer_service.specs.State.{Peer}
use Rattle.peer_service.specs.Back.{closed_at_end, come_back}
use Rattle.peer_service.specs.Epochs.{peer_in_next_epoch, peer_settled_to}
use Rattle.peer_service.specs.LogReading.{kills_object, without_objects, read_entry}
use Rattle.vnode_table.specs.Epochs.{EpochMembers, members_at}
use Rattle.vnode_table.specs.Targets.{targets_in}
use Rattle.gateway.specs.State as gateways
use Rattle.recovery.specs.Frame.{Frame}
use Rattle.recovery.specs.Shown.{first_in, is_pending_object, shown_with_pending}
use Rattle.recovery.specs.State.{Message, Recovery, RecoveryState, is_listed, is_finished, all_unanswered, message_of}
use Rattle.recovery.specs.Steps as recovery_steps
use Rattle.recovery.specs.Steps.{to_recover, at_start, recovery_from_epoch, messages_without, without_unanswered, after_ask, message_end}
use Rattle.recovery.specs.Tick.{state_after_tick}
use Rattle.recovery.proofs.ListingLemmas.{tick_waits, end_waits}
use Rattle.recovery.proofs.StepLemmas.{frame_of_tick, frame_of_end}
use Rattle.sheep_node.specs.declared.input.Input.{Input}
use Rattle.sheep_node.specs.declared.input.Input.TheVariants as inputs
use Rattle.sheep_node.specs.State.{Node, initial_node}
use Rattle.sheep_node.specs.RecoveryView.{PlacedPeer, shown_peer, placed_peer_of, recovery_state_of, with_recovered_rows}
use Rattle.sheep_node.specs.StepState.{StepState, at_first}
use Rattle.sheep_node.specs.LogReading.{epoch_members, is_epoch_member, entered_in, epochs_with_entry, peer_with_entry, node_with_entry}
use Rattle.sheep_node.specs.LogReading.{recovery_in_epoch, recovery_with_entry, with_settled, entry_read, come_back_with, on_back}
use Rattle.sheep_node.specs.May.{may_tick}
use Rattle.sheep_node.specs.Step.{on_request, recovery_stepped, on_put, on_recover_tick, node_step}
use Rattle.sheep_node.specs.Changes.{input_received}
use Rattle.sheep_node.proofs.PeerLog.{Log, served_same}
use Rattle.sheep_node.proofs.StepResults.{step_peer, step_epochs, step_recovery}
use Rattle.overlap_law.specs.Each.{spec_in, policy_in}
use Rattle.overlap_law.proofs.GrantedEpochs.{spec_stays}
use Rattle.overlap_law.proofs.PendingFalls.{PendingFalls, filtered_falls, served_falls}
use Rattle.overlap_law.proofs.PendingTargets.{IsTargetBy, IsTargetOfPending, kept_targets}
use Rattle.overlap_law.proofs.RecoveryViews.{tick-keeps, end-keeps}

-- an object's policy stays as the log grows
pub policy_stays : (log later : List Entry) (oid : ℕ) (policy : Policy) → policy_in (log_effects log) oid ≡ Some policy
    → policy_in (log_effects (log ++ later)) oid ≡ Some policy
policy_stays log later oid policy is = by_spec (spec_in (log_effects log) (vid_of oid)) refl is
  where
    by_spec : (o : Option VdiSpec) → spec_in (log_effects log) (vid_of oid) ≡ o
        → option_map (λ (spec : VdiSpec). spec.policy) o ≡ Some policy → policy_in (log_effects (log ++ later)) oid ≡ Some policy
    by_spec None made is = absurd (cc (is))
    by_spec (Some spec) made is =
        ap (option_map (λ (spec : VdiSpec). spec.policy)) (spec_stays log later (vid_of oid) spec made) ∙ is

-- what holds of a recovery and of the peer of its node
pub record KnowsItsPending (recovery : Recovery) (placed : PlacedPeer) : Type 0 where
  pub some : 1 ≤ recovery.epoch
  -- before the first recovery nothing is pending, and nobody was asked
  pub first : recovery.epoch ≡ 1 → (placed.peer.pending ≡ Some []) × (recovery.unanswered ≡ [])
  pub own : 1 < recovery.epoch → recovery.epoch ≡ placed.peer.epoch
  pub waits : is_listed recovery ≡ false → (placed.peer.pending ≡ None) × (recovery.search ≡ None)
  pub targets : IsTargetOfPending recovery.me recovery.epoch (shown_peer placed)

-- it holds of a node
abbrev pub KnowsPending : Node → Type 0
KnowsPending node = KnowsItsPending node.recovery (placed_peer_of node)

pub opening_pending : (me : NodeId) (tries : ℕ) → KnowsPending (initial_node me tries)
opening_pending me tries = record {
  some = omega arith;
  first = λ one. (refl, refl);
  own = λ later. absurd (omega (arith, later));
  waits = λ unlisted. absurd (cc (unlisted));
  targets = λ oid pending. absurd (cc (pending));
}

-- ---- nothing more is pending

-- the node is in the same epoch, with the same targets of the epoch that is recovered, and knows no less
goes_on : (recovery : Recovery) (old new : PlacedPeer) → new.peer.epoch ≡ old.peer.epoch
    → PendingFalls old.peer.pending new.peer.pending
    → ((oid : ℕ) (policy : Policy) → policy_in (log_effects old.peer.entries) oid ≡ Some policy
    → policy_in (log_effects new.peer.entries) oid ≡ Some policy)
    → (1 < recovery.epoch → members_at new.epochs recovery.epoch ≡ members_at old.epochs recovery.epoch) → KnowsItsPending recovery old
    → KnowsItsPending recovery new
unfolding targets_in
goes_on recovery old new same falls policies members so = record {
  some = so.some;
  first = λ one. (falls.nothing (so.first one).0, (so.first one).1);
  own = λ later. so.own later ∙ sym same;
  waits = λ unlisted. (falls.none (so.waits unlisted).0, (so.waits unlisted).1);
  targets = λ oid pending. still oid (falls.less oid pending);
}
  where
    still : (oid : ℕ) → is_pending_object oid old.peer.pending ≡ true
        → IsTargetBy (targets_in new.epochs) (λ (k : ℕ). policy_in (log_effects new.peer.entries) k) recovery.me recovery.epoch oid
    still oid pending =
        let was = so.targets oid pending in
        let later : 1 < recovery.epoch = ⊎_elim
        (λ (above : 1 < recovery.epoch). above)
        (λ (most : recovery.epoch ≤ 1).
        let some = so.some in
        let one : recovery.epoch ≡ 1 = omega (arith, most, some) in
        let nothing : is_pending_object oid old.peer.pending ≡ false = ap (is_pending_object oid) (so.first one).0 in
        absurd (cc (nothing, pending)))
        (cases_lt 1 recovery.epoch) in
        record {
          policy = was.policy;
          known = policies oid was.policy was.known;
          among = ap (λ (list : List Member). is_some (index_among recovery.me
              (targets_of list (hash_of_object oid) (wanted_of was.policy (kind_of oid))) was.policy (kind_of oid))) (members later)
              ∙ was.among;
        }

-- ---- a request is served

served_pending : (request : PeerReq) (node : Node) → KnowsPending node → KnowsPending (on_request request (at_first node)).node
unfolding on_request
served_pending request node so =
    let same = served_same node.peer request in
    goes_on node.recovery (placed_peer_of node) (placed_peer_of (on_request request (at_first node)).node)
    (ap (λ (log : Log). log.epoch) same) (served_falls node.peer request)
    (λ oid policy is. ap (λ (log : Log). policy_in (log_effects log.entries) oid) same ∙ is) (λ later. refl) so

-- ---- the recovery goes on

module _ (node : Node) (so : KnowsPending node) where
  abbrev state : RecoveryState
  state = recovery_state_of node

  -- a step of the recovery that leaves all but what is pending
  stepped : (next : RecoveryState) → next.recovery.epoch ≡ node.recovery.epoch
      → (next.recovery.epoch ≡ 1 → (next.shown.pending ≡ Some []) × (next.recovery.unanswered ≡ []))
      → (is_listed next.recovery ≡ false → (next.shown.pending ≡ None) × (next.recovery.search ≡ None))
      → ((oid : ℕ) → is_pending_object oid next.shown.pending ≡ true
      → IsTargetBy state.shown.targets state.shown.policy_of next.recovery.me next.recovery.epoch oid)
      → KnowsItsPending next.recovery (record { peer = with_recovered_rows next node.peer; epochs = node.epochs })
  stepped next aim first waits targets = record {
    some = (let some = so.some in omega (arith, aim, some));
    first = first;
    own = λ later. aim ∙ so.own (subst (λ (k : ℕ). 1 < k) aim later);
    waits = waits;
    targets = targets;
  }

  ended_pending : (number : ℕ) (said : Option PeerSay)
      → KnowsPending (recovery_stepped (message_end number said state) (at_first node)).node
  ended_pending number said =
      let next = message_end number said state in
      let same = frame_of_end number said state in
      stepped next (ap (λ (f : Frame). f.recovered) same) (λ one. first_end (sym (ap (λ (f : Frame). f.recovered) same) ∙ one))
      (end_waits number said state so.waits)
      (subst (λ (f : Frame). (oid : ℕ) → is_pending_object oid next.shown.pending ≡ true
      → IsTargetBy f.targets f.policy_of next.recovery.me next.recovery.epoch oid) same
      (end-keeps IsTargetOfPending kept_targets number said state so.targets))
    where
      -- nothing is heard before the first recovery
      first_end : node.recovery.epoch ≡ 1
          → ((message_end number said state).shown.pending ≡ Some []) × ((message_end number said state).recovery.unanswered ≡ [])
      first_end one =
          let was = so.first one in
          let ended : message_end number said state ≡ without_unanswered number state
          = ap (λ (messages : List Message). option_map_or
          (λ (message : Message). after_ask message.request.ask message.to said (without_unanswered number state))
          (message_of number messages) (without_unanswered number state)) was.1 in (
            ap (λ (s : RecoveryState). s.shown.pending) ended ∙ was.0,
            ap (λ (s : RecoveryState). s.recovery.unanswered) ended ∙ ap (messages_without number) was.1,
          )

  ticked_pending : may_tick node ≡ true → KnowsPending (on_recover_tick (at_first node)).node
  unfolding on_recover_tick
  ticked_pending may =
      let next = state_after_tick node.sends state in
      let same = frame_of_tick node.sends state in
      stepped next (ap (λ (f : Frame). f.recovered) same)
      (λ one. absurd (not_first (sym (ap (λ (f : Frame). f.recovered) same) ∙ one))) (tick_waits node.sends state so.waits)
      (subst (λ (f : Frame). (oid : ℕ) → is_pending_object oid next.shown.pending ≡ true
      → IsTargetBy f.targets f.policy_of next.recovery.me next.recovery.epoch oid) same
      (tick-keeps IsTargetOfPending kept_targets node.sends state so.targets))
    where
      not_first : node.recovery.epoch ≡ 1 → ⊥
      not_first one =
          let unfinished = not-true (is_finished state)
          (and_parts (not (is_finished state)) (length (all_unanswered state.recovery) == 0) may).0 in
          let finished : is_finished state ≡ true
          = ap (λ (b : Bool). b || (is_listed state.recovery && not (is_some (first_in state.shown.pending))))
          (eq-eqb node.recovery.epoch 1 one) in
          cc (finished, unfinished)

-- ---- a recovery begins

begun_pending : (list : List NodeId) (node : Node) → 1 < node.peer.epoch
    → KnowsItsPending (recovery_from_epoch node.peer.epoch list (recovery_state_of node)).recovery
    (record {
      peer = with_recovered_rows (recovery_from_epoch node.peer.epoch list (recovery_state_of node)) node.peer;
      epochs = node.epochs;
    })
unfolding recovery_from_epoch
begun_pending list node later = by_list (is_listed start.recovery) refl
  where
    start : RecoveryState
    start = at_start node.peer.epoch list (recovery_state_of node)

    by_list : (b : Bool) → is_listed start.recovery ≡ b
        → KnowsItsPending (cond b (record start { shown = shown_with_pending (to_recover start) start.shown }) start).recovery
        (record {
          peer = with_recovered_rows (cond b (record start { shown = shown_with_pending (to_recover start) start.shown }) start) node.peer;
          epochs = node.epochs;
        })
    by_list true is = record {
      some = omega (arith, later);
      first = λ one. absurd (omega (arith, one, later));
      own = λ above. refl;
      waits = λ unlisted. absurd (cc (is, unlisted));
      targets = kept_targets.listed start (λ oid pending. absurd (cc (pending)));
    }
    by_list false is = record {
      some = omega (arith, later);
      first = λ one. absurd (omega (arith, one, later));
      own = λ above. refl;
      waits = λ unlisted. (refl, refl);
      targets = λ oid pending. absurd (cc (pending));
    }

-- ---- an entry is read

-- a settled epoch leaves it
settled_knows : (recovery : Recovery) (epochs : List EpochMembers) (settled : ℕ) (peer : Peer)
    → KnowsItsPending recovery (record { peer = peer; epochs = epochs })
    → KnowsItsPending recovery (record { peer = with_settled settled peer; epochs = epochs })
unfolding peer_settled_to
settled_knows recovery epochs settled peer so =
    cond_either (λ (after : Peer). KnowsItsPending recovery (record { peer = after; epochs = epochs })) (nat_lt peer.settled settled)
    (peer_settled_to settled peer) peer
    (record { some = so.some; first = so.first; own = so.own; waits = so.waits; targets = so.targets }) so

module _ (entry : Entry) (node : Node) (so : KnowsPending node) (some : 1 ≤ node.peer.epoch)
    (member : begins_epoch entry ≡ true → 1 < node.recovery.epoch → is_epoch_member (node_with_entry entry node) ≡ true) where
  abbrev entered : Node
  entered = node_with_entry entry node

  abbrev next : Peer
  next = peer_in_next_epoch node.me (targets_in (epochs_with_entry entry node)) (read_entry entry node.peer)

  entered_falls : PendingFalls node.peer.pending (peer_with_entry entry node).pending
  unfolding read_entry without_objects peer_in_next_epoch
  entered_falls =
      let goes = kills_object entry node.peer in
      cond_either (λ (peer : Peer). PendingFalls node.peer.pending peer.pending) (begins_epoch entry) next (read_entry entry node.peer)
      (filtered_falls (λ oid. not (goes oid)) node.peer.pending) (filtered_falls (λ oid. not (goes oid)) node.peer.pending)

  entered_entries : (peer_with_entry entry node).entries ≡ node.peer.entries ++ entry ∷ []
  unfolding read_entry without_objects peer_in_next_epoch
  entered_entries =
      cond_either (λ (peer : Peer). peer.entries ≡ node.peer.entries ++ entry ∷ []) (begins_epoch entry) next (read_entry entry node.peer)
      refl refl

  next_epoch : begins_epoch entry ≡ true → 1 < (peer_with_entry entry node).epoch
  unfolding read_entry without_objects peer_in_next_epoch
  next_epoch begins =
      let at : (peer_with_entry entry node).epoch ≡ node.peer.epoch + 1
      = ap (λ (b : Bool). (cond b next (read_entry entry node.peer)).epoch) begins in
      let least = some in
      omega (arith, at, least)

  same_epoch : begins_epoch entry ≡ false → (peer_with_entry entry node).epoch ≡ node.peer.epoch
  unfolding read_entry without_objects
  same_epoch goes_on = ap (λ (b : Bool). (cond b next (read_entry entry node.peer)).epoch) goes_on

  same_members : begins_epoch entry ≡ false → 1 < node.recovery.epoch
      → members_at (epochs_with_entry entry node) node.recovery.epoch ≡ members_at node.epochs node.recovery.epoch
  same_members goes_on later =
      let entries : List Entry = (read_entry entry node.peer).entries in
      let opened : List EpochMembers = cond (is_format entry) (entered_in entries 1 ∷ node.epochs) node.epochs in
      ap (λ (b : Bool). members_at (cond b (entered_in entries (epoch_of entries) ∷ node.epochs) opened) node.recovery.epoch) goes_on
      ∙ cond_either (λ (epochs : List EpochMembers). members_at epochs node.recovery.epoch ≡ members_at node.epochs node.recovery.epoch)
      (is_format entry) (entered_in entries 1 ∷ node.epochs) node.epochs
      (ap (λ (b : Bool). cond b (entered_in entries 1).members (members_at node.epochs node.recovery.epoch))
      (ne_eqb 1 node.recovery.epoch (λ same. (omega (arith, same, later))))) refl

  abbrev Then : RecoveryState → Type 0
  Then state =
      KnowsItsPending state.recovery
      (record { peer = with_recovered_rows state (peer_with_entry entry node); epochs = epochs_with_entry entry node })

  known_then : (begins stays : Bool) → begins_epoch entry ≡ begins → is_epoch_member entered ≡ stays
      → Then (cond (begins && stays) (recovery_in_epoch entered) (recovery_state_of entered))
  known_then true true begins is =
      begun_pending (map (λ (one : Member). one.node) (epoch_members entered)) entered (next_epoch begins)
  known_then true false begins out =
      let one : node.recovery.epoch ≡ 1 = ⊎_elim
      (λ (later : 1 < node.recovery.epoch). let is = member begins later in absurd (cc (is, out)))
      (λ (most : node.recovery.epoch ≤ 1). let least = so.some in omega (arith, most, least))
      (cases_lt 1 node.recovery.epoch) in
      let was = so.first one in
      record {
        some = so.some;
        first = λ first. (entered_falls.nothing was.0, was.1);
        own = λ later. absurd (omega (arith, one, later));
        waits = λ unlisted. (entered_falls.none (so.waits unlisted).0, (so.waits unlisted).1);
        targets = λ oid pending.
            let none : is_pending_object oid node.peer.pending ≡ false = ap (is_pending_object oid) was.0 in
            let still = entered_falls.less oid pending in
            absurd (cc (none, still));
      }
  known_then false stays goes is =
      goes_on node.recovery (placed_peer_of node)
      (record {
        peer = with_recovered_rows (recovery_state_of entered) (peer_with_entry entry node);
        epochs = epochs_with_entry entry node;
      })
      (same_epoch goes) entered_falls
      (λ oid policy known.
      ap (λ (entries : List Entry). policy_in (log_effects entries) oid) entered_entries
      ∙ policy_stays node.peer.entries (entry ∷ []) oid policy known)
      (same_members goes) so

  pub read_pending : KnowsPending (entry_read entry node)
  unfolding entry_read
  read_pending =
      settled_knows (recovery_with_entry entry node).recovery (epochs_with_entry entry node)
      (settled_of (read_entry entry node.peer).entries)
      (with_recovered_rows (recovery_with_entry entry node) (peer_with_entry entry node))
      (known_then (begins_epoch entry) (is_epoch_member entered) refl refl)

-- ---- a node comes back

back_pending : (entries : List Entry) (node : Node) → 1 < epoch_of entries → KnowsPending (on_back entries node)
unfolding on_back come_back closed_at_end peer_settled_to without_objects
back_pending entries node later =
    begun_pending (map (λ (one : Member). one.node) (epoch_members (come_back_with entries node))) (come_back_with entries node) later

-- ---- each step

-- what is asked of an input: a tick may be made, a node that recovers stays a member, and who comes back is in a later epoch than the first
abbrev pub MayKnow : Input → Node → Type 0
MayKnow (inputs.LogEntry entry) node = begins_epoch entry ≡ true → 1 < node.recovery.epoch
    → is_epoch_member (node_with_entry entry node) ≡ true
MayKnow inputs.RecoverTick node = may_tick node ≡ true
MayKnow (inputs.Back entries) node = 1 < epoch_of entries
MayKnow _ node = Unit {0}

module _ (node : Node) (so : KnowsPending node) (some : 1 ≤ node.peer.epoch) where
  received_pending : (input : Input) → MayKnow input node → KnowsPending (input_received input (at_first node)).node
  unfolding recovery_steps.recovery_on_reply recovery_steps.recovery_on_loss
  received_pending (inputs.Guest req session ask) may = so
  received_pending (inputs.Request request) may = served_pending request node so
  received_pending (inputs.Reply rsp) may =
      cond_either (λ (start : StepState). KnowsPending start.node) (gateways.gateway_awaits rsp.number node.gateway) (at_first node)
      (recovery_stepped (recovery_steps.recovery_on_reply rsp (recovery_state_of node)) (at_first node)) so
      (ended_pending node so rsp.number (Some rsp.say))
  received_pending (inputs.Lost number) may =
      cond_either (λ (start : StepState). KnowsPending start.node) (gateways.gateway_awaits number node.gateway) (at_first node)
      (recovery_stepped (recovery_steps.recovery_on_loss number (recovery_state_of node)) (at_first node)) so
      (ended_pending node so number None)
  received_pending (inputs.LogEntry entry) may = read_pending entry node so some may
  received_pending inputs.Put may = by_outbox node.outbox
    where
      by_outbox : (outbox : List Entry) → KnowsPending (on_put outbox (at_first node)).node
      by_outbox [] = so
      by_outbox (entry ∷ later) = so
  received_pending inputs.RecoverTick may = ticked_pending node so may
  received_pending inputs.RetryTick may = so
  received_pending (inputs.Back entries) may = back_pending entries node may

  pub step_pending : (input : Input) → MayKnow input node → KnowsPending (node_step input node).node
  step_pending input may =
      let received : Node = (input_received input (at_first node)).node in
      let last : Node = (node_step input node).node in
      subst (λ (recovery : Recovery). KnowsItsPending recovery (placed_peer_of last)) (sym (step_recovery input node))
      (subst (λ (peer : Peer). KnowsItsPending received.recovery (record { peer = peer; epochs = last.epochs }))
      (sym (step_peer input node))
      (subst (λ (epochs : List EpochMembers). KnowsItsPending received.recovery (record { peer = received.peer; epochs = epochs }))
      (sym (step_epochs input node)) (received_pending input may)))
