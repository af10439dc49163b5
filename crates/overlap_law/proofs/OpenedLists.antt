-- Where an input leaves a recovery's list finished, it was finished before in the same epoch; or what is pending is known by it just now:
-- the objects that were named, and those of which the node has rows, as far as the node has to recover them.
use Rattle.std.proofs.Common.{◌≡◌, ◌⊎◌, inl, inr, ⊎_elim, ℕ, ◌==◌, ◌||◌, nat_lt, not, Bool, true, false, cond, if◌then◌else◌, List, [], ◌∷◌}
use Rattle.std.proofs.Common.{length, map, filter, Option, Some, None, refl, sym, ap, subst, ◌∙◌}
use Rattle.std.specs.Option.{option_map_or}
use Rattle.std.specs.List.{list_any}
use Rattle.std.specs.FinMap as tree
use Rattle.std.proofs.lemmas.Bool.{or_cases, or_left, or_right}
use Rattle.proof_tools.proofs.Booleans.{cond_either}
use Rattle.object_id.specs.declared.entry.Entry.{Entry}
use Rattle.object_id.specs.declared.entry.Member.{Member}
use Rattle.object_id.specs.declared.node.NodeId.{NodeId}
use Rattle.object_id.specs.declared.policy.Policy.{Policy}
use Rattle.epoch_log.specs.Epochs.{settled_of}
use Rattle.object_list.specs.Gathered.{gathered_with_answer}
use Rattle.object_list.specs.Union.{union}
use Rattle.object_store.specs.Rows.{purged, has_ended_below}
use Rattle.object_store.specs.Store.{AllRows, SeenRow, rows_of, each}
use Rattle.object_store.proofs.StoreLaws.{rows_of-each}
use Rattle.peer_proto.specs.declared.ask.PeerAsk.{PeerAsk}
use Rattle.peer_proto.specs.declared.ask.PeerAsk.TheVariants as asks
use Rattle.peer_proto.specs.declared.say.PeerSay.{PeerSay}
use Rattle.peer_proto.specs.declared.say.PeerSay.TheVariants as says
use Rattle.peer_service.specs.State.{Peer, object_policy, is_dead_object}
use Rattle.peer_service.specs.Epochs.{peer_settled_to}
use Rattle.peer_service.specs.LogReading.{read_entry}
use Rattle.object_id.specs.Oid.{vid_of}
use Rattle.vdi_directory.specs.Dead.{is_dead}
use Rattle.vdi_directory.specs.Decisions.{log_effects}
use Rattle.vnode_table.specs.Epochs.{EpochMembers}
use Rattle.vnode_table.specs.Targets.{targets_in}
use Rattle.gateway.specs.State as gateways
use Rattle.recovery.specs.Frame.{Frame}
use Rattle.recovery.specs.Shown.{NodeView, is_to_recover, shown_with_pending}
use Rattle.recovery.specs.State.{Message, Recovery, RecoveryState, is_listed, message_of, search_on}
use Rattle.recovery.specs.Steps as recovery_steps
use Rattle.recovery.specs.Steps.{to_recover, at_start, recovery_from_epoch, without_unanswered, after_list, after_read, after_ask}
use Rattle.recovery.specs.Steps.{message_end}
use Rattle.recovery.proofs.StepLemmas.{frame_of_end, frame_of_tick}
use Rattle.sheep_node.specs.declared.input.Input.{Input}
use Rattle.sheep_node.specs.declared.input.Input.TheVariants as inputs
use Rattle.sheep_node.specs.LogReading.{epoch_members, peer_with_entry, node_with_entry, recovery_in_epoch, begins_recovery, with_settled}
use Rattle.sheep_node.specs.LogReading.{entry_read, come_back_with, on_back}
use Rattle.sheep_node.specs.RecoveryView.{shown_node, recovery_state_of, with_recovered_rows}
use Rattle.sheep_node.specs.State.{Node}
use Rattle.sheep_node.specs.Step.{on_request, recovery_stepped, on_put, on_recover_tick}
use Rattle.sheep_node.specs.StepState.{at_first}
use Rattle.sheep_node.specs.Changes.{input_received}
use Rattle.overlap_law.specs.Each.{policy_in}
use Rattle.overlap_law.proofs.ListAnswers.{ticked_waits, waits_on_read}
use Rattle.overlap_law.proofs.ThereOrMissing.{HasOpen, purged_open}

-- what is pending is known by the list just now, and by what the node has, as its recovery sees it
pub record OpenedSo (recovery : Recovery) (peer : Peer) (epochs : List EpochMembers) : Type 0 where
  pub view : NodeView
  pub pending_so : peer.pending ≡ Some (filter (is_to_recover recovery.me recovery.epoch view)
      (union recovery.lists.objects (tree.keys view.rows)))
  pub policy_so : (oid : ℕ) → view.policy_of oid ≡ object_policy peer oid
  pub dead_so : (oid : ℕ) → view.is_dead oid ≡ is_dead_object peer oid
  pub targets_so : (epoch oid : ℕ) (policy : Policy) → view.targets epoch oid policy ≡ targets_in epochs epoch oid policy
  pub open_so : (oid : ℕ) → HasOpen (rows_of view.rows oid) → HasOpen (rows_of peer.rows oid)
  pub rows_so : (oid : ℕ) (p : SeenRow → Bool) → list_any p (rows_of peer.rows oid) ≡ true → list_any p (rows_of view.rows oid) ≡ true

abbrev pub OpenedBy : Node → Type 0
OpenedBy new = OpenedSo new.recovery new.peer new.epochs

-- the list was finished before, or has just been opened so
abbrev pub OpensOr : Node → Node → Type 0
OpensOr old new = ((is_listed old.recovery ≡ true) × (new.recovery.epoch ≡ old.recovery.epoch)) ⊎ OpenedBy new

-- ---- a message ends

module _ (number : ℕ) (said : Option PeerSay) (node : Node) (unlisted : is_listed node.recovery ≡ false) where
  abbrev state : RecoveryState
  state = recovery_state_of node

  abbrev rest : RecoveryState
  rest = without_unanswered number (recovery_state_of node)

  abbrev OpensIn : RecoveryState → Type 0
  OpensIn new = is_listed new.recovery ≡ true → OpenedBy (recovery_stepped new (at_first node)).node

  still_unlisted : (new : RecoveryState) → new.recovery.lists.waiting ≡ node.recovery.lists.waiting → OpensIn new
  still_unlisted new same listed =
      let before : is_listed node.recovery ≡ true = ap (λ (nodes : List NodeId). length nodes == 0) (sym same) ∙ listed in
      absurd (cc (before, unlisted))

  list_opens : (from : NodeId) (told : Option PeerSay) → OpensIn (after_list from told rest)
  list_opens from None = still_unlisted rest refl
  list_opens from (Some says.Success) = still_unlisted rest refl
  list_opens from (Some (says.Piece bytes)) = still_unlisted rest refl
  list_opens from (Some (says.Objects oids)) = by_list (is_listed gathered.recovery) refl
    where
      gathered : RecoveryState
      gathered = record rest { recovery = record rest.recovery { lists = gathered_with_answer from oids rest.recovery.lists } }

      by_list : (b : Bool) → is_listed gathered.recovery ≡ b
          → OpensIn (cond b (record gathered { shown = shown_with_pending (to_recover gathered) gathered.shown }) gathered)
      by_list true is = λ listed. record {
        view = shown_node node;
        pending_so = refl;
        policy_so = λ oid. refl;
        dead_so = λ oid. refl;
        targets_so = λ epoch oid policy. refl;
        open_so = λ oid some. some;
        rows_so = λ oid p some. some;
      }
      by_list false is = λ listed. absurd (cc (is, listed))
  list_opens from (Some (says.Row row)) = still_unlisted rest refl
  list_opens from (Some says.NoRow) = still_unlisted rest refl
  list_opens from (Some (says.Refused refusal)) = still_unlisted rest refl

  ask_opens : (ask : PeerAsk) (from : NodeId) → OpensIn (after_ask ask from said rest)
  ask_opens (asks.Create key size offset bytes) from = still_unlisted rest refl
  ask_opens (asks.Write key offset bytes) from = still_unlisted rest refl
  ask_opens (asks.Read key offset size) from = still_unlisted rest refl
  ask_opens asks.List from = list_opens from said
  ask_opens (asks.RecoverRead oid level) from =
      still_unlisted (after_read oid from said (search_on rest) rest) (waits_on_read oid from said (search_on rest) rest)

  ended_opens : OpensIn (message_end number said (recovery_state_of node))
  ended_opens = by_message (message_of number node.recovery.unanswered)
    where
      by_message : (o : Option Message) → OpensIn (option_map_or
          (λ (message : Message). after_ask message.request.ask message.to said rest) o rest)
      by_message None = still_unlisted rest refl
      by_message (Some message) = ask_opens message.request.ask message.to

-- ---- a recovery begins

-- with a finished list
module _ (epoch : ℕ) (members : List NodeId) (node : Node) where
  abbrev begun : RecoveryState
  begun = at_start epoch members (recovery_state_of node)

  -- what such a recovery is
  pub record BeginsSo (new : RecoveryState) : Type 0 where
    pub me_so : new.recovery.me ≡ node.recovery.me
    pub epoch_so : new.recovery.epoch ≡ epoch
    pub rows_same : new.shown.rows ≡ node.peer.rows
    pub pending_so : is_listed new.recovery ≡ true → new.shown.pending ≡ Some
        (filter (is_to_recover node.recovery.me epoch (shown_node node))
        (union new.recovery.lists.objects (tree.keys node.peer.rows)))

  begins_so : BeginsSo (recovery_from_epoch epoch members (recovery_state_of node))
  unfolding recovery_from_epoch
  begins_so = by_list (is_listed begun.recovery) refl
    where
      by_list : (b : Bool) → is_listed begun.recovery ≡ b
          → BeginsSo (cond b (record begun { shown = shown_with_pending (to_recover begun) begun.shown }) begun)
      by_list true is = record { me_so = refl; epoch_so = refl; rows_same = refl; pending_so = λ listed. refl }
      by_list false is = record { me_so = refl; epoch_so = refl; rows_same = refl; pending_so = λ listed. absurd (cc (is, listed)) }

any_purged : (p q : SeenRow → Bool) (rows : List SeenRow) → list_any p (filter q rows) ≡ true → list_any p rows ≡ true
any_purged p q [] any = any
any_purged p q (row ∷ rows) any = by_test (q row) any (λ later. any_purged p q rows later)
  where
    by_test : (b : Bool) → list_any p (cond b (row ∷ filter q rows) (filter q rows)) ≡ true
        → (list_any p (filter q rows) ≡ true → list_any p rows ≡ true) → (p row || list_any p rows) ≡ true
    by_test true any rest = ⊎_elim
        (λ (here : p row ≡ true). or_left (p row) (list_any p rows) here)
        (λ (later : list_any p (filter q rows) ≡ true). or_right (p row) (list_any p rows) (rest later))
        (or_cases (p row) (list_any p (filter q rows)) any)
    by_test false any rest = or_right (p row) (list_any p rows) (rest any)

-- ---- a node comes back

back_opens : (entries : List Entry) (node : Node) → is_listed (on_back entries node).recovery ≡ true → OpenedBy (on_back entries node)
unfolding on_back
back_opens entries node listed =
    let back : Node = come_back_with entries node in
    let members : List NodeId = map (λ (member : Member). member.node) (epoch_members back) in
    let so = begins_so back.peer.epoch members back in
    record {
      view = shown_node back;
      pending_so = so.pending_so listed
          ∙ (λ i. Some (filter (is_to_recover (sym so.me_so i) (sym so.epoch_so i) (shown_node back))
          (union (recovery_in_epoch back).recovery.lists.objects (tree.keys back.peer.rows))));
      policy_so = λ oid. refl;
      dead_so = λ oid. refl;
      targets_so = λ epoch oid policy. refl;
      open_so = λ oid some. subst (λ (rows : AllRows). HasOpen (rows_of rows oid)) (sym so.rows_same) some;
      rows_so = λ oid p some. subst (λ (rows : AllRows). list_any p (rows_of rows oid) ≡ true) so.rows_same some;
    }

-- ---- an entry is read

module _ (entry : Entry) (node : Node) where
  abbrev entered : Node
  entered = node_with_entry entry node

  -- the node with a recovery's state, when a later epoch may be settled
  abbrev SettlesTo : RecoveryState → Peer
  SettlesTo state = with_settled (settled_of (read_entry entry node.peer).entries) (with_recovered_rows state (peer_with_entry entry node))

  rows_settled : (settled : ℕ) (peer : Peer) (oid : ℕ) → rows_of (each (λ (k : ℕ). purged settled) peer.rows) oid ≡ purged settled
      (rows_of peer.rows oid)
  rows_settled settled peer oid = rows_of-each (λ (k : ℕ). purged settled) peer.rows oid refl

  settled_open : (settled : ℕ) (peer : Peer) (oid : ℕ) → HasOpen (rows_of peer.rows oid)
      → HasOpen (rows_of (with_settled settled peer).rows oid)
  unfolding peer_settled_to
  settled_open settled peer oid some =
      cond_either (λ (p : Peer). HasOpen (rows_of p.rows oid)) (nat_lt peer.settled settled) (peer_settled_to settled peer) peer
      (subst HasOpen (sym (rows_settled settled peer oid)) (purged_open settled (rows_of peer.rows oid) some)) some

  settled_any : (settled : ℕ) (peer : Peer) (oid : ℕ) (p : SeenRow → Bool)
      → list_any p (rows_of (with_settled settled peer).rows oid) ≡ true
      → list_any p (rows_of peer.rows oid) ≡ true
  unfolding peer_settled_to
  settled_any settled peer oid p =
      cond_either (λ (after : Peer). list_any p (rows_of after.rows oid) ≡ true → list_any p (rows_of peer.rows oid) ≡ true)
      (nat_lt peer.settled settled) (peer_settled_to settled peer) peer
      (λ some. any_purged p (λ (row : SeenRow). not (has_ended_below settled row.to)) (rows_of peer.rows oid)
      (ap (list_any p) (sym (rows_settled settled peer oid)) ∙ some))
      (λ some. some)

  -- all but the rows of a peer, when an epoch is settled
  settled_keeps : (P : Option (List ℕ) → List Entry → Type 0) (settled : ℕ) (peer : Peer) → P peer.pending peer.entries
      → P (with_settled settled peer).pending (with_settled settled peer).entries
  unfolding peer_settled_to
  settled_keeps P settled peer is =
      cond_either (λ (after : Peer). P after.pending after.entries) (nat_lt peer.settled settled) (peer_settled_to settled peer) peer is is

  read_opens : is_listed (entry_read entry node).recovery ≡ true → OpensOr node (entry_read entry node)
  unfolding entry_read
  read_opens = by_begins (begins_recovery entry node)
    where
      with_recovery : RecoveryState → Node
      with_recovery state = record node {
        peer = SettlesTo state;
        epochs = (node_with_entry entry node).epochs;
        recovery = state.recovery;
        recovered = if begins_recovery entry node then false else node.recovered;
      }

      by_begins : (b : Bool)
          → is_listed (cond b (recovery_in_epoch (node_with_entry entry node)) (recovery_state_of (node_with_entry entry node))).recovery
          ≡ true
          → OpensOr node (with_recovery (cond b (recovery_in_epoch (node_with_entry entry node))
          (recovery_state_of (node_with_entry entry node))))
      by_begins false listed = inl (listed, refl)
      by_begins true listed =
          let state : RecoveryState = recovery_in_epoch entered in
          let so = begins_so entered.peer.epoch (map (λ (member : Member). member.node) (epoch_members entered)) entered in
          let settled = settled_of (read_entry entry node.peer).entries in
          let peer : Peer = with_recovered_rows state (peer_with_entry entry node) in
          inr (record {
            view = shown_node entered;
            pending_so = settled_keeps (λ pending entries. pending ≡ Some (filter
                (is_to_recover state.recovery.me state.recovery.epoch (shown_node entered))
                (union state.recovery.lists.objects (tree.keys entered.peer.rows)))) settled peer
                (so.pending_so listed
                ∙ (λ i. Some (filter (is_to_recover (sym so.me_so i) (sym so.epoch_so i) (shown_node entered))
                (union state.recovery.lists.objects (tree.keys entered.peer.rows)))));
            policy_so =
                λ oid. settled_keeps (λ pending entries. object_policy entered.peer oid ≡ policy_in (log_effects entries) oid) settled peer
                refl;
            dead_so = λ oid. settled_keeps (λ pending entries. is_dead_object entered.peer oid ≡ is_dead (log_effects entries) (vid_of oid))
                settled peer refl;
            targets_so = λ epoch oid policy. refl;
            open_so = λ oid some.
                settled_open settled peer oid (subst (λ (rows : AllRows). HasOpen (rows_of rows oid)) (sym so.rows_same) some);
            rows_so = λ oid p some.
                subst (λ (rows : AllRows). list_any p (rows_of rows oid) ≡ true) so.rows_same (settled_any settled peer oid p some);
          })

-- ---- each input

pub received_opens : (input : Input) (node : Node) → is_listed (input_received input (at_first node)).node.recovery ≡ true
    → OpensOr node (input_received input (at_first node)).node
unfolding on_request on_recover_tick recovery_steps.recovery_on_reply recovery_steps.recovery_on_loss
received_opens (inputs.Guest req session ask) node listed = inl (listed, refl)
received_opens (inputs.Request request) node listed = inl (listed, refl)
received_opens (inputs.Reply rsp) node listed = by_waiting (gateways.gateway_awaits rsp.number node.gateway) listed
  where
    by_list : (b : Bool) → is_listed node.recovery ≡ b
        → is_listed (message_end rsp.number (Some rsp.say) (recovery_state_of node)).recovery ≡ true
        → OpensOr node (recovery_stepped (message_end rsp.number (Some rsp.say) (recovery_state_of node)) (at_first node)).node
    by_list true before after =
        inl (before, ap (λ (f : Frame). f.recovered) (frame_of_end rsp.number (Some rsp.say) (recovery_state_of node)))
    by_list false before after = inr (ended_opens rsp.number (Some rsp.say) node before after)

    by_waiting : (b : Bool)
        → is_listed (cond b (at_first node)
        (recovery_stepped (message_end rsp.number (Some rsp.say) (recovery_state_of node)) (at_first node))).node.recovery ≡ true
        → OpensOr node (cond b (at_first node)
        (recovery_stepped (message_end rsp.number (Some rsp.say) (recovery_state_of node)) (at_first node))).node
    by_waiting true after = inl (after, refl)
    by_waiting false after = by_list (is_listed node.recovery) refl after
received_opens (inputs.Lost number) node listed = by_waiting (gateways.gateway_awaits number node.gateway) listed
  where
    by_list : (b : Bool) → is_listed node.recovery ≡ b → is_listed (message_end number None (recovery_state_of node)).recovery ≡ true
        → OpensOr node (recovery_stepped (message_end number None (recovery_state_of node)) (at_first node)).node
    by_list true before after = inl (before, ap (λ (f : Frame). f.recovered) (frame_of_end number None (recovery_state_of node)))
    by_list false before after = inr (ended_opens number None node before after)

    by_waiting : (b : Bool)
        → is_listed (cond b (at_first node) (recovery_stepped (message_end number None (recovery_state_of node))
        (at_first node))).node.recovery
        ≡ true
        → OpensOr node (cond b (at_first node) (recovery_stepped (message_end number None (recovery_state_of node)) (at_first node))).node
    by_waiting true after = inl (after, refl)
    by_waiting false after = by_list (is_listed node.recovery) refl after
received_opens (inputs.LogEntry entry) node listed = read_opens entry node listed
received_opens inputs.Put node listed = by_outbox node.outbox listed
  where
    by_outbox : (outbox : List Entry) → is_listed (on_put outbox (at_first node)).node.recovery ≡ true
        → OpensOr node (on_put outbox (at_first node)).node
    by_outbox [] listed = inl (listed, refl)
    by_outbox (entry ∷ later) listed = inl (listed, refl)
received_opens inputs.RecoverTick node listed =
    inl (
      ap (λ (nodes : List NodeId). length nodes == 0) (sym (ticked_waits node.sends (recovery_state_of node))) ∙ listed,
      ap (λ (f : Frame). f.recovered) (frame_of_tick node.sends (recovery_state_of node)),
    )
received_opens inputs.RetryTick node listed = inl (listed, refl)
received_opens (inputs.Back entries) node listed = inr (back_opens entries node listed)
