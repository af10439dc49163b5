-- What each change of a moment makes of the list of a recovery: the recovery is of a later epoch, or goes on; and then a finished list
-- stays finished, and names what it named.
use Rattle.std.proofs.Common.{◌≡◌, ◌≢◌, ◌⊎◌, inl, inr, ⊎_elim, arith, ℕ, ◌+◌, ◌≤◌, ◌<◌, ◌==◌, Bool, true, false, cond, List, [], ◌∷◌}
use Rattle.std.proofs.Common.{length, is_some, Option, Some, None, refl, sym, ap, subst, ◌∙◌}
use Rattle.std.specs.FinMap as tree
use Rattle.std.proofs.lemmas.Bool.{and_parts, cases_eq, eqb-true}
use Rattle.std.proofs.lemmas.Option.{same_Some}
use Rattle.proof_tools.proofs.Booleans.{cond_either}
use Rattle.proof_tools.proofs.FiniteMaps.{get-insert_same, get-insert_other, insert-insert}
use Rattle.object_id.specs.declared.entry.Entry.{Entry}
use Rattle.object_id.specs.declared.node.NodeId.{NodeId}
use Rattle.object_list.specs.Gathered.{GatheredLists, nodes_without}
use Rattle.cluster_script.specs.declared.statement.Statement.{Statement}
use Rattle.epoch_log.specs.Epochs.{begins_epoch}
use Rattle.peer_proto.specs.declared.say.PeerSay.{PeerSay}
use Rattle.peer_service.specs.LogReading.{read_entry, without_objects}
use Rattle.peer_service.specs.Epochs as peers
use Rattle.vnode_table.specs.Targets.{targets_in}
use Rattle.gateway.specs.State as gateways
use Rattle.recovery.specs.Frame.{Frame}
use Rattle.recovery.specs.State.{Recovery, is_listed}
use Rattle.recovery.specs.Steps as recovery_steps
use Rattle.recovery.specs.Steps.{message_end}
use Rattle.recovery.proofs.StepLemmas.{frame_of_tick, frame_of_end}
use Rattle.sheep_node.specs.declared.input.Input.TheVariants as inputs
use Rattle.sheep_node.specs.State.{Node}
use Rattle.sheep_node.specs.RecoveryView.{recovery_state_of}
use Rattle.sheep_node.specs.StepState.{StepState, at_first}
use Rattle.sheep_node.specs.LogReading.{epoch_members, is_epoch_member, epochs_with_entry, peer_with_entry, node_with_entry}
use Rattle.sheep_node.specs.LogReading.{recovery_in_epoch, begins_recovery, entry_read}
use Rattle.sheep_node.specs.Step.{on_request, recovery_stepped, on_put, on_recover_tick}
use Rattle.sheep_node.specs.Changes as changes
use Rattle.sheep_node.specs.Changes.{input_received}
use Rattle.sheep_node.proofs.StepChain.{step_chain}
use Rattle.sheep_node.proofs.StepEffects.{Untouched}
use Rattle.sheep_world.specs.Began.{Began}
use Rattle.sheep_world.specs.EventKinds.{log_after_return}
use Rattle.sheep_world.specs.HostChanges.{joined_host, host_after_return}
use Rattle.sheep_world.specs.MembershipChanges.{lost_host}
use Rattle.sheep_world.specs.NodeCauses.{NodeCause, GuestAsks, RequestComes, ReplyComes, LossIsTold, EntryIsRead, EntryIsPut, RecoveryTicks}
use Rattle.sheep_world.specs.NodeCauses.{WorkIsRetried, ClientAsks, input_of_cause, host_with_node}
use Rattle.sheep_world.specs.Step.{EventOutcome}
use Rattle.sheep_world.specs.World.{Host}
use Rattle.cluster_script.specs.declared.statement.Statement.TheVariants as lines
use Rattle.sheep_world.proofs.ControlLaws.{next_fits}
use Rattle.overlap_law.specs.Holders.{is_object_among}
use Rattle.overlap_law.specs.MomentChanges as moments
use Rattle.overlap_law.specs.MomentChanges.{MomentChange, MomentTrail, RunsAreInRange}
use Rattle.overlap_law.specs.Past.{MomentWithPast}
use Rattle.overlap_law.specs.Reached.{Hosts}
use Rattle.overlap_law.specs.StepMoments.{SteppingNode, IsStepping, first_in_step, last_in_step, LeadsInStep, moment_in_step}
use Rattle.overlap_law.proofs.FinishedInMoments.{recoveries_go}
use Rattle.overlap_law.proofs.HostsInMoments.{none_there}
use Rattle.overlap_law.proofs.KnownSteps.{together}
use Rattle.overlap_law.proofs.ListsReceived.{IsListTold, ended_lists, lists_ticked}
use Rattle.overlap_law.proofs.ListsStand.{among_union}
use Rattle.overlap_law.proofs.ReadInMoments.{sound_hosts}
use Rattle.overlap_law.proofs.RecoveredInMoments.{RecoveryGoes, GoesFrom}
use Rattle.overlap_law.proofs.RecoveryMembers.{nodes_of_members, begun_epoch}
use Rattle.overlap_law.proofs.SendsOfChanges.{in_order_so_far}

-- a finished list stays so
pub record StaysListed (old new : Recovery) : Type 0 where
  pub listed : is_listed new ≡ true
  pub objects : (oid : ℕ) → is_object_among oid old.lists.objects ≡ true → is_object_among oid new.lists.objects ≡ true

abbrev pub ListGoes : Recovery → Recovery → Type 0
ListGoes old new = (old.epoch < new.epoch) ⊎ ((new.epoch ≡ old.epoch) × (is_listed old ≡ true → StaysListed old new))

pub list_stays : (recovery : Recovery) → ListGoes recovery recovery
list_stays recovery = inr (refl, λ listed. record { listed = listed; objects = λ oid is. is })

same_lists : (old new : Recovery) → new.lists ≡ old.lists → is_listed old ≡ true → StaysListed old new
same_lists old new same listed = record {
  listed = ap (λ (lists : GatheredLists). length lists.waiting == 0) same ∙ listed;
  objects = λ oid is. ap (λ (lists : GatheredLists). is_object_among oid lists.objects) same ∙ is;
}

pub list_goes_on : (old middle new : Recovery) → ListGoes old middle → ListGoes middle new → ListGoes old new
list_goes_on old middle new (inl one) (inl two) = inl (omega (arith, one, two))
list_goes_on old middle new (inl one) (inr two) = let same = two.0 in inl (omega (arith, one, same))
list_goes_on old middle new (inr one) (inl two) = let same = one.0 in inl (omega (arith, same, two))
list_goes_on old middle new (inr one) (inr two) = inr (
  two.0 ∙ one.0,
  λ listed.
      let first = one.1 listed in
      let then = two.1 first.listed in
      record { listed = then.listed; objects = λ oid is. then.objects oid (first.objects oid is) },
)

-- ---- an input

none_left : (from : NodeId) (waiting : List NodeId) → (length waiting == 0) ≡ true → (length (nodes_without from waiting) == 0) ≡ true
none_left from [] none = refl
none_left from (node ∷ waiting) none =
    let no : length (node ∷ waiting) ≡ 0 = eqb-true (length (node ∷ waiting)) 0 none in absurd (omega (arith, no))

ended_goes : (number : ℕ) (said : Option PeerSay) (node : Node)
    → ListGoes node.recovery (message_end number said (recovery_state_of node)).recovery
ended_goes number said node =
    let state = recovery_state_of node in
    let new = (message_end number said (recovery_state_of node)).recovery in
    inr (
      ap (λ (f : Frame). f.recovered) (frame_of_end number said state),
      λ listed. ⊎_elim
          (λ (same : (message_end number said (recovery_state_of node)).recovery.lists ≡ node.recovery.lists).
          same_lists node.recovery (message_end number said (recovery_state_of node)).recovery same listed)
          (λ (told : IsListTold number said (recovery_state_of node) (message_end number said (recovery_state_of node)).recovery).
          record {
            listed = ap (λ (lists : GatheredLists). length lists.waiting == 0) told.lists_so
                ∙ none_left told.message.to node.recovery.lists.waiting listed;
            objects = λ oid is.
                ap (λ (lists : GatheredLists). is_object_among oid lists.objects) told.lists_so
                ∙ among_union node.recovery.lists.objects told.oids oid (inl is);
          })
          (ended_lists number said state),
    )

entry_goes : (entry : Entry) (node : Node) → node.recovery.epoch ≤ node.peer.epoch → ListGoes node.recovery (entry_read entry node).recovery
unfolding entry_read peers.peer_in_next_epoch read_entry without_objects
entry_goes entry node entered = by_begins (begins_recovery entry node) refl
  where
    next : begins_epoch entry ≡ true → (peer_with_entry entry node).epoch ≡ node.peer.epoch + 1
    next begins =
        ap (λ (b : Bool). (cond b (peers.peer_in_next_epoch node.me (targets_in (epochs_with_entry entry node))
        (read_entry entry node.peer)) (read_entry entry node.peer)).epoch) begins

    by_begins : (b : Bool) → begins_recovery entry node ≡ b
        → ListGoes node.recovery (cond b (recovery_in_epoch (node_with_entry entry node))
        (recovery_state_of (node_with_entry entry node))).recovery
    by_begins true begins =
        let read = node_with_entry entry node in
        let aim : (recovery_in_epoch (node_with_entry entry node)).recovery.epoch ≡ (node_with_entry entry node).peer.epoch
        = (begun_epoch read.peer.epoch (nodes_of_members (epoch_members read)) (recovery_state_of read)).0 in
        let more : (node_with_entry entry node).peer.epoch ≡ node.peer.epoch + 1
        = next (and_parts (begins_epoch entry) (is_epoch_member read) begins).0 in
        inl (omega (arith, aim, more, entered))
    by_begins false none = list_stays node.recovery

received_goes : (cause : NodeCause) (node : Node) → node.recovery.epoch ≤ node.peer.epoch
    → ListGoes node.recovery (input_received (input_of_cause cause) (at_first node)).node.recovery
unfolding on_request on_recover_tick recovery_steps.recovery_on_reply recovery_steps.recovery_on_loss
received_goes (GuestAsks session req ask) node entered = list_stays node.recovery
received_goes (RequestComes name to request) node entered = list_stays node.recovery
received_goes (ReplyComes name from rsp) node entered =
    cond_either (λ (so_far : StepState). ListGoes node.recovery so_far.node.recovery)
    (gateways.gateway_awaits rsp.number node.gateway) (at_first node)
    (recovery_stepped (message_end rsp.number (Some rsp.say) (recovery_state_of node)) (at_first node)) (list_stays node.recovery)
    (ended_goes rsp.number (Some rsp.say) node)
received_goes (LossIsTold name packet) node entered =
    cond_either (λ (so_far : StepState). ListGoes node.recovery so_far.node.recovery)
    (gateways.gateway_awaits name.number node.gateway) (at_first node)
    (recovery_stepped (message_end name.number None (recovery_state_of node)) (at_first node)) (list_stays node.recovery)
    (ended_goes name.number None node)
received_goes (EntryIsRead entry) node entered = entry_goes entry node entered
received_goes (EntryIsPut entry) node entered = by_outbox node.outbox
  where
    by_outbox : (outbox : List Entry) → ListGoes node.recovery (on_put outbox (at_first node)).node.recovery
    by_outbox [] = list_stays node.recovery
    by_outbox (first ∷ later) = list_stays node.recovery
received_goes RecoveryTicks node entered = inr (
  ap (λ (f : Frame). f.recovered) (frame_of_tick node.sends (recovery_state_of node)),
  same_lists node.recovery (input_received inputs.RecoverTick (at_first node)).node.recovery
      (lists_ticked node.sends (recovery_state_of node)),
)
received_goes WorkIsRetried node entered = list_stays node.recovery
received_goes (ClientAsks req ask) node entered = list_stays node.recovery

-- ---- each change

-- the lists of all nodes go on
abbrev pub ListsGo : MomentWithPast → MomentWithPast → Type 0
ListsGo before after = (n : ℕ) (was : Host) → tree.get before.world.hosts n ≡ Some was
    → (now : Host) × (tree.get after.world.hosts n ≡ Some now) × ListGoes was.node.recovery now.node.recovery

same_hosts : (before after : MomentWithPast) → after.world.hosts ≡ before.world.hosts → ListsGo before after
same_hosts before after same n was there = (was, ap (λ (hosts : Hosts). tree.get hosts n) same ∙ there, list_stays was.node.recovery)

one_host : (before after : MomentWithPast) (k : ℕ) (new : Host) → after.world.hosts ≡ tree.insert before.world.hosts k new
    → ((was : Host) → tree.get before.world.hosts k ≡ Some was → ListGoes was.node.recovery new.node.recovery) → ListsGo before after
one_host before after k new hosts goes n was there = ⊎_elim
    (λ (own : n ≡ k). (
      new,
      ap (λ (all : Hosts). tree.get all n) hosts ∙ ap (tree.get (tree.insert before.world.hosts k new)) own
          ∙ get-insert_same before.world.hosts k new,
      goes was (ap (tree.get before.world.hosts) (sym own) ∙ there),
    ))
    (λ (apart : n ≢ k). (
      was,
      ap (λ (all : Hosts). tree.get all n) hosts ∙ get-insert_other before.world.hosts k new n apart ∙ there,
      list_stays was.node.recovery,
    ))
    (cases_eq n k)

module _ (script : List Statement) (range : RunsAreInRange script) (start : MomentWithPast) (began : Began script start.world) where
  module _ (stepping : SteppingNode) (is : IsStepping script start.world stepping) where
    abbrev at : StepState → MomentWithPast
    at so_far = moment_in_step script stepping start so_far

    -- no change of the node touches a recovery
    pub untouched : (so_far : StepState) → LeadsInStep stepping (first_in_step stepping) so_far
        → so_far.node.recovery ≡ (first_in_step stepping).node.recovery
    untouched so_far leads = ap (λ (u : Untouched). u.recovery) (in_order_so_far so_far leads).same

    stepped : (so_far : StepState) → LeadsInStep stepping (first_in_step stepping) so_far → ListsGo start (at so_far)
    stepped so_far leads =
        one_host start (at so_far) stepping.n (host_with_node stepping.host so_far.node) refl
        (λ was there.
        let same : stepping.host ≡ was = same_Some stepping.host was (sym is.there ∙ there) in
        let entered = ((sound_hosts script range start began).each stepping.n stepping.host is.there).sound.recovers.entered in
        subst (λ (h : Host). ListGoes h.node.recovery so_far.node.recovery) same
        (subst (ListGoes stepping.host.node.recovery) (sym (untouched so_far leads))
        (received_goes stepping.cause stepping.host.node entered)))

  pub lists_go : {before after : MomentWithPast} → MomentChange script start before after → ListsGo before after
  lists_go (moments.StepBegins stepping is by) = stepped stepping is (first_in_step stepping) changes.Still
  lists_go (moments.StepGoesOn stepping so_far next is by within) =
      let was = host_with_node stepping.host so_far.node in
      let now = host_with_node stepping.host next.node in
      one_host (moment_in_step script stepping start so_far) (moment_in_step script stepping start next) stepping.n now
      (sym (insert-insert start.world.hosts stepping.n was now))
      (λ old there.
      let same : host_with_node stepping.host so_far.node ≡ old
      = same_Some (host_with_node stepping.host so_far.node) old (sym (get-insert_same start.world.hosts stepping.n was) ∙ there) in
      subst (λ (h : Host). ListGoes h.node.recovery next.node.recovery) same
      (subst (ListGoes so_far.node.recovery)
      (untouched stepping is so_far within.leads ∙ sym (untouched stepping is next (changes.Then within.leads within.change)))
      (list_stays so_far.node.recovery)))
  lists_go (moments.StepIsMade stepping is by) =
      stepped stepping is (last_in_step stepping) (step_chain (input_of_cause stepping.cause) stepping.host.node)
  lists_go {before} {after} (moments.LossIsUntold event made happened h) =
      same_hosts before after (ap (λ (m : EventOutcome). m.world.hosts) (sym h.made_so))
  lists_go {before} {after} (moments.DeliveryIsUnread event made happened h) =
      same_hosts before after (ap (λ (m : EventOutcome). m.world.hosts) (sym h.made_so))
  lists_go {before} {after} (moments.NodeIsLost event made happened h) =
      one_host before after h.n (lost_host h.host) (ap (λ (m : EventOutcome). m.world.hosts) (sym h.made_so))
      (λ was there.
      subst (λ (host : Host). ListGoes host.node.recovery h.host.node.recovery) (same_Some h.host was (sym h.there ∙ there))
      (list_stays h.host.node.recovery))
  lists_go {before} {after} (moments.NodeLeaves event made happened h) =
      same_hosts before after (ap (λ (m : EventOutcome). m.world.hosts) (sym h.made_so))
  lists_go {before} {after} (moments.NodeIsReweighted event made happened h) =
      same_hosts before after (ap (λ (m : EventOutcome). m.world.hosts) (sym h.made_so))
  lists_go {before} {after} (moments.NodeJoins event made happened h) =
      one_host before after h.n (joined_host script h.n) (ap (λ (m : EventOutcome). m.world.hosts) (sym h.made_so))
      (λ was there.
      none_there (tree.get start.world.hosts h.n) was
      (next_fits script start.world (lines.Join h.n) h.control (together script range start.world began).fit).1 there)
  lists_go {before} {after} (moments.NodeComesBack event made happened h) =
      let change : MomentChange script start before after = moments.NodeComesBack event made happened h in
      let now = host_after_return (log_after_return script h.n start.world) h.host in
      let at : tree.get after.world.hosts h.n ≡ Some now
      = ap (λ (m : EventOutcome). tree.get m.world.hosts h.n) (sym h.made_so) ∙ get-insert_same start.world.hosts h.n now in
      one_host before after h.n now (ap (λ (m : EventOutcome). m.world.hosts) (sym h.made_so))
      (λ was there.
      let entered = ((sound_hosts script range start began).each h.n was there).sound.recovers.entered in
      ⊎_elim
      (λ (g : GoesFrom before h.n now).
      let same : g.host ≡ was = same_Some g.host was (sym g.there ∙ there) in
      let epochs : g.host.node.peer.epoch ≡ was.node.peer.epoch = ap (λ (host : Host). host.node.peer.epoch) same in
      ⊎_elim
      (λ (up : (g.host.is_lost ≡ false) × RecoveryGoes g.host.node now.node).
      let one : h.host ≡ g.host = same_Some h.host g.host (sym h.there ∙ g.there) in
      let gone : g.host.is_lost ≡ true = ap (λ (host : Host). host.is_lost) (sym one) ∙ h.lost in
      let here = up.0 in
      absurd (cc (gone, here)))
      (λ (later : g.host.node.peer.epoch < now.node.recovery.epoch). inl (omega (arith, entered, epochs, later)))
      g.goes)
      (λ (none : is_some (tree.get before.world.hosts h.n) ≡ false). none_there (tree.get before.world.hosts h.n) was none there)
      (recoveries_go script range start began change h.n now at refl))
  lists_go {before} {after} (moments.PhaseEnds event made happened h) =
      same_hosts before after (ap (λ (m : EventOutcome). m.world.hosts) (sym h.made_so))

  -- along a trail
  pub lists_go_along : {last : MomentWithPast} → MomentTrail script start last → ListsGo start last
  lists_go_along {last} moments.Still n was there = (was, there, list_stays was.node.recovery)
  lists_go_along {last} (moments.Then {moment} {next} trail change) n was there =
      let (then, at, goes) = lists_go_along trail n was there in
      let (now, at_now, goes_now) = lists_go change n then at in
      (now, at_now, list_goes_on was.node.recovery then.node.recovery now.node.recovery goes goes_now)
