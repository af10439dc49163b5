-- What each change of a moment makes of who has finished a recovery: it had, or puts its own `Recovered` just now; and recoveries go on, or
-- are of later epochs.
use Rattle.std.proofs.Common.{◌≡◌, ◌≢◌, ◌⊎◌, inl, inr, ⊎_elim, arith, ℕ, ◌+◌, ◌<◌, ◌||◌, Bool, true, false, cond, List, [], ◌∷◌, ◌++◌, Some}
use Rattle.std.proofs.Common.{is_some, refl, sym, ap, subst, ◌∙◌}
use Rattle.std.specs.List.{list_any}
use Rattle.std.specs.FinMap as tree
use Rattle.std.proofs.lemmas.Bool.{cases_eq, and_parts, or_cases}
use Rattle.std.proofs.lemmas.List.Folds.{list_any-append}
use Rattle.std.proofs.lemmas.Option.{same_Some}
use Rattle.proof_tools.proofs.FiniteMaps.{get-insert_same, get-insert_other, insert-insert}
use Rattle.object_id.specs.declared.entry.Entry.{Entry}
use Rattle.epoch_log.specs.Epochs.{begins_epoch, recovers, has_recovered}
use Rattle.cluster_script.specs.declared.statement.Statement.{Statement}
use Rattle.peer_service.specs.Epochs as peers
use Rattle.peer_service.specs.LogReading.{read_entry, without_objects}
use Rattle.recovery.specs.State.{RecoveryState, is_listed}
use Rattle.vnode_table.specs.Targets.{targets_in}
use Rattle.sheep_node.specs.declared.input.Input.{Input}
use Rattle.sheep_node.specs.declared.input.Input.TheVariants as inputs
use Rattle.sheep_node.specs.State.{Node}
use Rattle.sheep_node.specs.RecoveryView.{recovery_state_of}
use Rattle.sheep_node.specs.StepState.{StepState, at_first}
use Rattle.sheep_node.specs.LogReading.{epoch_members, is_epoch_member, epochs_with_entry, peer_with_entry, node_with_entry}
use Rattle.sheep_node.specs.LogReading.{recovery_in_epoch, begins_recovery, entry_read}
use Rattle.sheep_node.specs.StepFacts.{may_begin_recovery}
use Rattle.sheep_node.specs.Changes as changes
use Rattle.sheep_node.specs.Changes.{input_received}
use Rattle.sheep_node.proofs.StepChain.{step_chain}
use Rattle.sheep_world.specs.World.{Host}
use Rattle.sheep_world.specs.NodeCauses.{NodeCause, GuestAsks, RequestComes, ReplyComes, LossIsTold, EntryIsRead, EntryIsPut, RecoveryTicks}
use Rattle.sheep_world.specs.NodeCauses.{WorkIsRetried, ClientAsks, input_of_cause, IsCause, host_with_node, log_after_cause}
use Rattle.sheep_world.specs.Began.{Began}
use Rattle.sheep_world.proofs.NodesByTheLog.{knows_its_number}
use Rattle.overlap_law.specs.Reached.{Hosts, has_finished}
use Rattle.overlap_law.specs.Past.{MomentWithPast}
use Rattle.overlap_law.specs.StepMoments.{SteppingNode, IsStepping, StepsByChanges, first_in_step, last_in_step, LeadsInStep, IsWithinStep}
use Rattle.overlap_law.specs.StepMoments.{moment_in_step}
use Rattle.overlap_law.specs.MomentChanges.{RunsAreInRange}
use Rattle.overlap_law.proofs.AnswersInMoments.{not_lost}
use Rattle.overlap_law.proofs.KnownSteps.{known_step}
use Rattle.overlap_law.proofs.ListedNodes.{finished_done}
use Rattle.overlap_law.proofs.ListMessages.{AsksListsIn}
use Rattle.overlap_law.proofs.LogsOfMoments.{log_by_changes}
use Rattle.overlap_law.proofs.OutboxEnds.{outbox_received}
use Rattle.overlap_law.proofs.RecoveredEntries.{IsOwnEnd, PutsOnlyItsEnd, puts_at_first, change_puts, puts_so_far}
use Rattle.overlap_law.proofs.RecoveredInMoments.{node_of, IsToPut, finished_cases, finished_by_log, finished_by_outbox, plain_entry}
use Rattle.overlap_law.proofs.RecoveredInMoments.{EndsNow, FinishedBefore, RecoveryGoes, GoesFrom, RecoveriesGo}
use Rattle.overlap_law.proofs.RecoveryMembers.{RecoveryParts, nodes_of_members, begun_epoch, parts_received, recovered_received}
use Rattle.overlap_law.proofs.SoundNodes.{IsSoundNode, sound_in_worlds, sound_so_far, asks_no_recovered}

-- ---- one host is another

-- the log got no `Recovered` but one that was to be put
abbrev pub LogsOnlyPut : MomentWithPast → MomentWithPast → Type 0
LogsOnlyPut before after = (n epoch : ℕ) → has_recovered after.world.log epoch n ≡ true
    → has_finished before.world.hosts before.world.log epoch (node_of n) ≡ true

pub same_log : (before after : MomentWithPast) → after.world.log ≡ before.world.log → LogsOnlyPut before after
same_log before after same n epoch stands =
    finished_by_log before.world.hosts before.world.log n epoch (ap (λ (log : List Entry). has_recovered log epoch n) (sym same) ∙ stands)

pub plain_log : (before after : MomentWithPast) (entry : Entry) → after.world.log ≡ before.world.log ++ entry ∷ []
    → ((n epoch : ℕ) → recovers epoch n entry ≡ false) → LogsOnlyPut before after
plain_log before after entry is plain n epoch stands =
    finished_by_log before.world.hosts before.world.log n epoch
    (plain_entry before.world.log entry n epoch (plain n epoch) (ap (λ (log : List Entry). has_recovered log epoch n) (sym is) ∙ stands))

pub same_finished : (before after : MomentWithPast) → after.world.hosts ≡ before.world.hosts → LogsOnlyPut before after
    → FinishedBefore before after
same_finished before after same logs n epoch finished = ⊎_elim
    (λ (stands : has_recovered after.world.log epoch n ≡ true). inl (logs n epoch stands))
    (λ (to_put : IsToPut after.world.hosts n epoch). inl (finished_by_outbox before.world.hosts before.world.log n epoch (record {
      host = to_put.host;
      there = ap (λ (held : Hosts). tree.get held n) (sym same) ∙ to_put.there;
      up = to_put.up;
      puts = to_put.puts;
    })))
    (finished_cases after.world.hosts after.world.log n epoch finished)

pub one_finished : (before after : MomentWithPast) (k : ℕ) (new : Host) → after.world.hosts ≡ tree.insert before.world.hosts k new
    → LogsOnlyPut before after
    → (new.is_lost ≡ false → (epoch : ℕ) → list_any (recovers epoch k) new.node.outbox ≡ true
    → (has_finished before.world.hosts before.world.log epoch (node_of k) ≡ true) ⊎ EndsNow after.world.hosts k epoch)
    → FinishedBefore before after
one_finished before after k new hosts logs own n epoch finished = ⊎_elim
    (λ (stands : has_recovered after.world.log epoch n ≡ true). inl (logs n epoch stands))
    (λ (to_put : IsToPut after.world.hosts n epoch). ⊎_elim
    (λ (is : n ≡ k).
    let at : tree.get after.world.hosts k ≡ Some new = ap (λ (held : Hosts). tree.get held k) hosts
    ∙ get-insert_same before.world.hosts k new in
    let same : new ≡ to_put.host = same_Some new to_put.host (sym at ∙ ap (tree.get after.world.hosts) (sym is) ∙ to_put.there) in
    let puts : list_any (recovers epoch k) new.node.outbox ≡ true
    = ap (λ (h : Host). list_any (recovers epoch k) h.node.outbox) same
    ∙ ap (λ (q : ℕ). list_any (recovers epoch q) to_put.host.node.outbox) (sym is) ∙ to_put.puts in
    subst (λ (q : ℕ). (has_finished before.world.hosts before.world.log epoch (node_of q) ≡ true) ⊎ EndsNow after.world.hosts q epoch)
    (sym is) (own (ap (λ (h : Host). h.is_lost) same ∙ to_put.up) epoch puts))
    (λ (apart : n ≢ k). inl (finished_by_outbox before.world.hosts before.world.log n epoch (record {
      host = to_put.host;
      there = sym (ap (λ (held : Hosts). tree.get held n) hosts ∙ get-insert_other before.world.hosts k new n apart) ∙ to_put.there;
      up = to_put.up;
      puts = to_put.puts;
    })))
    (cases_eq n k))
    (finished_cases after.world.hosts after.world.log n epoch finished)

pub same_go : (before after : MomentWithPast) → after.world.hosts ≡ before.world.hosts → RecoveriesGo before after
same_go before after same n now there up = inl (record {
  host = now;
  there = ap (λ (held : Hosts). tree.get held n) (sym same) ∙ there;
  goes = inl (up, inl (refl, λ was. was));
})

pub one_goes : (before after : MomentWithPast) (k : ℕ) (new : Host) → after.world.hosts ≡ tree.insert before.world.hosts k new
    → (new.is_lost ≡ false → GoesFrom before k new ⊎ (is_some (tree.get before.world.hosts k) ≡ false)) → RecoveriesGo before after
one_goes before after k new hosts own n now there up = ⊎_elim
    (λ (is : n ≡ k).
    let at : tree.get after.world.hosts k ≡ Some new = ap (λ (held : Hosts). tree.get held k) hosts
    ∙ get-insert_same before.world.hosts k new in
    let same : new ≡ now = same_Some new now (sym at ∙ ap (tree.get after.world.hosts) (sym is) ∙ there) in
    let so : GoesFrom before k now ⊎ (is_some (tree.get before.world.hosts k) ≡ false)
    = subst (λ (h : Host). GoesFrom before k h ⊎ (is_some (tree.get before.world.hosts k) ≡ false)) same
    (own (ap (λ (h : Host). h.is_lost) same ∙ up)) in
    subst (λ (q : ℕ). GoesFrom before q now ⊎ (is_some (tree.get before.world.hosts q) ≡ false)) (sym is) so)
    (λ (apart : n ≢ k). inl (record {
      host = now;
      there = sym (ap (λ (held : Hosts). tree.get held n) hosts ∙ get-insert_other before.world.hosts k new n apart) ∙ there;
      goes = inl (up, inl (refl, λ was. was));
    }))
    (cases_eq n k)

-- ---- an input

goes_reading : (entry : Entry) (node : Node) → RecoveryGoes node (entry_read entry node)
unfolding entry_read peers.peer_in_next_epoch read_entry without_objects
goes_reading entry node = by_begins (begins_recovery entry node) refl
  where
    next : begins_epoch entry ≡ true → (peer_with_entry entry node).epoch ≡ node.peer.epoch + 1
    next begins =
        ap (λ (b : Bool). (cond b (peers.peer_in_next_epoch node.me (targets_in (epochs_with_entry entry node))
        (read_entry entry node.peer)) (read_entry entry node.peer)).epoch) begins

    by_begins : (b : Bool) → begins_recovery entry node ≡ b
        → (((cond b (recovery_in_epoch (node_with_entry entry node)) (recovery_state_of (node_with_entry entry node))).recovery.epoch
        ≡ node.recovery.epoch)
        × (node.recovered ≡ true → cond b false node.recovered ≡ true))
        ⊎ (node.peer.epoch < (cond b (recovery_in_epoch (node_with_entry entry node))
        (recovery_state_of (node_with_entry entry node))).recovery.epoch)
    by_begins true begins =
        let entered = node_with_entry entry node in
        let aim : (recovery_in_epoch entered).recovery.epoch ≡ entered.peer.epoch
        = (begun_epoch entered.peer.epoch (nodes_of_members (epoch_members entered)) (recovery_state_of entered)).0 in
        let more : entered.peer.epoch ≡ node.peer.epoch + 1 = next (and_parts (begins_epoch entry) (is_epoch_member entered) begins).0 in
        inr (omega (arith, aim, more))
    by_begins false none = inl (refl, λ was. was)

goes_quiet : (input : Input) (node : Node) → may_begin_recovery input ≡ false
    → RecoveryGoes node (input_received input (at_first node)).node
goes_quiet input node quiet =
    inl (ap (λ (p : RecoveryParts). p.aim) (parts_received input node quiet), λ was. recovered_received input node quiet ∙ was)

goes_received : (cause : NodeCause) (node : Node) → RecoveryGoes node (input_received (input_of_cause cause) (at_first node)).node
goes_received (GuestAsks session req ask) node = goes_quiet (inputs.Guest req session.number ask) node refl
goes_received (RequestComes name to request) node = goes_quiet (inputs.Request request) node refl
goes_received (ReplyComes name from rsp) node = goes_quiet (inputs.Reply rsp) node refl
goes_received (LossIsTold name packet) node = goes_quiet (inputs.Lost name.number) node refl
goes_received (EntryIsRead entry) node = goes_reading entry node
goes_received (EntryIsPut entry) node = goes_quiet inputs.Put node refl
goes_received RecoveryTicks node = goes_quiet inputs.RecoverTick node refl
goes_received WorkIsRetried node = goes_quiet inputs.RetryTick node refl
goes_received (ClientAsks req ask) node = goes_quiet (inputs.Guest req 0 ask) node refl

-- and what changes of the node leave
goes_with : (node first : Node) (so_far : StepState) → PutsOnlyItsEnd first so_far → RecoveryGoes node first → RecoveryGoes node so_far.node
goes_with node first so_far puts goes =
    let same : so_far.node.recovery.epoch ≡ first.recovery.epoch = ap (λ (s : RecoveryState). s.recovery.epoch) puts.state_so in
    ⊎_elim
    (λ (on : (first.recovery.epoch ≡ node.recovery.epoch) × (node.recovered ≡ true → first.recovered ≡ true)). inl
    (same ∙ on.0, λ was. puts.stays (on.1 was))) (λ (later : node.peer.epoch < first.recovery.epoch). inr (omega (arith, later, same)))
    goes

-- the end that a node put
pub ends_now : (hosts : Hosts) (k : ℕ) (old : Host) (first : Node) (so_far : StepState) (epoch : ℕ)
    → tree.get hosts k ≡ Some (host_with_node old so_far.node) → old.is_lost ≡ false → PutsOnlyItsEnd first so_far
    → AsksListsIn (recovery_state_of first)
    → 1 < first.recovery.epoch → IsOwnEnd first so_far.node.recovered epoch k → EndsNow hosts k epoch
ends_now hosts k old first so_far epoch there up puts so later end =
    let own = end.of_epoch in
    record {
      host = host_with_node old so_far.node;
      there = there;
      up = up;
      of_epoch = ap (λ (s : RecoveryState). s.recovery.epoch) puts.state_so ∙ end.of_epoch;
      later = omega (arith, later, own);
      listed = ap (λ (s : RecoveryState). is_listed s.recovery) puts.state_so
          ∙ (finished_done (recovery_state_of first) so later end.finished).0;
      put = end.put;
    }

module _ (script : List Statement) (range : RunsAreInRange script) (start : MomentWithPast) (began : Began script start.world) where
  module _ (stepping : SteppingNode) (is : IsStepping script start.world stepping) where
    abbrev node : Node
    node = stepping.host.node

    sound : IsSoundNode node
    sound = sound_in_worlds script range start.world began stepping.n stepping.host is.there

    up : stepping.host.is_lost ≡ false
    up = not_lost stepping.host (known_step script range start.world began stepping is).up

    sound_at : (so_far : StepState) → LeadsInStep stepping (first_in_step stepping) so_far → IsSoundNode so_far.node
    sound_at so_far leads =
        sound_so_far script range start.world began stepping.n stepping.host is.there stepping.cause is.caused sound leads

    puts_at : (so_far : StepState) → LeadsInStep stepping (first_in_step stepping) so_far
        → PutsOnlyItsEnd (first_in_step stepping).node so_far
    puts_at so_far leads =
        puts_so_far (input_of_cause stepping.cause) node (asks_no_recovered script start.world stepping.n stepping.host stepping.cause
        is.caused) sound.only leads

    -- what was in the outbox before the step
    was_to_put : (epoch : ℕ) → list_any (recovers epoch stepping.n) (first_in_step stepping).node.outbox ≡ true
        → has_finished start.world.hosts start.world.log epoch (node_of stepping.n) ≡ true
    was_to_put epoch there = finished_by_outbox start.world.hosts start.world.log stepping.n epoch (record {
      host = stepping.host;
      there = is.there;
      up = up;
      puts = outbox_received (recovers epoch stepping.n) (input_of_cause stepping.cause) node there;
    })

    -- what the step put into the log was in its outbox
    pub put_logs : LogsOnlyPut start (moment_in_step script stepping start (last_in_step stepping))
    put_logs = by_cause stepping.cause is.caused
      where
        by_cause : (cause : NodeCause) → IsCause script start.world stepping.n stepping.host cause → (n epoch : ℕ)
            → has_recovered (log_after_cause cause start.world.log) epoch n ≡ true
            → has_finished start.world.hosts start.world.log epoch (node_of n) ≡ true
        by_cause (GuestAsks session req ask) so n epoch stands = finished_by_log start.world.hosts start.world.log n epoch stands
        by_cause (RequestComes name to request) so n epoch stands = finished_by_log start.world.hosts start.world.log n epoch stands
        by_cause (ReplyComes name from rsp) so n epoch stands = finished_by_log start.world.hosts start.world.log n epoch stands
        by_cause (LossIsTold name packet) so n epoch stands = finished_by_log start.world.hosts start.world.log n epoch stands
        by_cause (EntryIsRead entry) so n epoch stands = finished_by_log start.world.hosts start.world.log n epoch stands
        by_cause (EntryIsPut entry) (later, first) n epoch stands = ⊎_elim
            (λ (old : has_recovered start.world.log epoch n ≡ true). finished_by_log start.world.hosts start.world.log n epoch old)
            (λ (new : (recovers epoch n entry || false) ≡ true).
            let there : list_any (recovers epoch n) node.outbox ≡ true
            = ap (list_any (recovers epoch n)) first ∙ or_first (recovers epoch n entry) (list_any (recovers epoch n) later) new in
            let own : stepping.n ≡ n = sym (knows_its_number script start.world began stepping.n stepping.host is.there)
            ∙ sound.ends epoch n there in
            finished_by_outbox start.world.hosts start.world.log n epoch
            (record { host = stepping.host; there = ap (tree.get start.world.hosts) (sym own) ∙ is.there; up = up; puts = there }))
            (or_cases (has_recovered start.world.log epoch n) (recovers epoch n entry || false)
            (sym (list_any-append (recovers epoch n) start.world.log (entry ∷ [])) ∙ stands))
          where
            or_first : (a b : Bool) → (a || false) ≡ true → (a || b) ≡ true
            or_first true b so = refl
            or_first false b so = absurd (cc (so))
        by_cause RecoveryTicks so n epoch stands = finished_by_log start.world.hosts start.world.log n epoch stands
        by_cause WorkIsRetried so n epoch stands = finished_by_log start.world.hosts start.world.log n epoch stands
        by_cause (ClientAsks req ask) so n epoch stands = finished_by_log start.world.hosts start.world.log n epoch stands

    pub begins_finished : StepsByChanges stepping.cause
        → FinishedBefore start (moment_in_step script stepping start (first_in_step stepping))
    begins_finished by =
        let after = moment_in_step script stepping start (first_in_step stepping) in
        one_finished start after stepping.n (host_with_node stepping.host (first_in_step stepping).node) refl
        (same_log start after (log_by_changes stepping.cause by start.world.log))
        (λ up epoch there. inl (was_to_put epoch there))

    pub made_finished : FinishedBefore start (moment_in_step script stepping start (last_in_step stepping))
    made_finished =
        let after = moment_in_step script stepping start (last_in_step stepping) in
        let now = host_with_node stepping.host (last_in_step stepping).node in
        let first = (first_in_step stepping).node in
        let sound_first = sound_at (first_in_step stepping) changes.Still in
        let puts = puts_at (last_in_step stepping) (step_chain (input_of_cause stepping.cause) node) in
        one_finished start after stepping.n now refl put_logs
        (λ up epoch there. ⊎_elim
        (λ (old : list_any (recovers epoch stepping.n) first.outbox ≡ true). inl (was_to_put epoch old))
        (λ (end : IsOwnEnd first (last_in_step stepping).node.recovered epoch stepping.n).
        inr (ends_now after.world.hosts stepping.n stepping.host first (last_in_step stepping) epoch
        (get-insert_same start.world.hosts stepping.n now) up puts sound_first.lists.asks_so (sound_first.recovers.put end.due) end))
        (puts.puts epoch stepping.n there))

    pub on_finished : (so_far next : StepState) → IsWithinStep stepping so_far next
        → FinishedBefore (moment_in_step script stepping start so_far) (moment_in_step script stepping start next)
    on_finished so_far next within =
        let before = moment_in_step script stepping start so_far in
        let after = moment_in_step script stepping start next in
        let was = host_with_node stepping.host so_far.node in
        let now = host_with_node stepping.host next.node in
        let sound_was = sound_at so_far within.leads in
        let puts : PutsOnlyItsEnd so_far.node next
        = change_puts so_far.node (input_of_cause stepping.cause) node
        (asks_no_recovered script start.world stepping.n stepping.host stepping.cause is.caused)
        so_far next within.change (puts_at_first so_far.node sound_was.only) in
        one_finished before after stepping.n now (sym (insert-insert start.world.hosts stepping.n was now)) (same_log before after refl)
        (λ up_now epoch there. ⊎_elim
        (λ (old : list_any (recovers epoch stepping.n) so_far.node.outbox ≡ true).
        inl (finished_by_outbox before.world.hosts before.world.log stepping.n epoch
        (record { host = was; there = get-insert_same start.world.hosts stepping.n was; up = up; puts = old })))
        (λ (end : IsOwnEnd so_far.node next.node.recovered epoch stepping.n).
        inr (ends_now after.world.hosts stepping.n stepping.host so_far.node next epoch (get-insert_same start.world.hosts stepping.n now)
        up puts sound_was.lists.asks_so (sound_was.recovers.put end.due) end))
        (puts.puts epoch stepping.n there))

    pub step_goes : (so_far : StepState) → LeadsInStep stepping (first_in_step stepping) so_far
        → RecoveriesGo start (moment_in_step script stepping start so_far)
    step_goes so_far leads =
        one_goes start (moment_in_step script stepping start so_far) stepping.n (host_with_node stepping.host so_far.node) refl
        (λ up_now. inl (record {
          host = stepping.host;
          there = is.there;
          goes = inl (up, goes_with node (first_in_step stepping).node so_far (puts_at so_far leads) (goes_received stepping.cause node));
        }))

    pub on_goes : (so_far next : StepState) → IsWithinStep stepping so_far next
        → RecoveriesGo (moment_in_step script stepping start so_far) (moment_in_step script stepping start next)
    on_goes so_far next within =
        let was = host_with_node stepping.host so_far.node in
        let now = host_with_node stepping.host next.node in
        let puts : PutsOnlyItsEnd so_far.node next
        = change_puts so_far.node (input_of_cause stepping.cause) node
        (asks_no_recovered script start.world stepping.n stepping.host stepping.cause is.caused)
        so_far next within.change (puts_at_first so_far.node (sound_at so_far within.leads).only) in
        one_goes (moment_in_step script stepping start so_far) (moment_in_step script stepping start next) stepping.n now
        (sym (insert-insert start.world.hosts stepping.n was now))
        (λ up_now. inl (record {
          host = was;
          there = get-insert_same start.world.hosts stepping.n was;
          goes = inl (up, goes_with so_far.node so_far.node next puts (inl (refl, λ was. was)));
        }))
