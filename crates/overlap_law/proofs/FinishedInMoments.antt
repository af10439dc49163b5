-- In each run in range, and in the middle of its steps, the recovered have all, the unfinished are unsettled, and recoveries are present
-- and answered by those that came.
use Rattle.std.proofs.Common.{◌≡◌, inl, inr, ⊎_elim, arith, ℕ, suc, ◌<◌, Bool, true, List, Some, refl, sym, ap, subst, ◌∙◌}
use Rattle.std.specs.List.{list_any}
use Rattle.std.specs.FinMap as tree
use Rattle.proof_tools.proofs.FiniteMaps.{get-insert_same}
use Rattle.object_id.specs.declared.entry.Entry.{Entry}
use Rattle.object_id.specs.declared.entry.Entry.TheVariants as entries
use Rattle.epoch_log.specs.Epochs.{epoch_of, recovers, has_recovered}
use Rattle.cluster_script.specs.declared.statement.Statement.{Statement}
use Rattle.cluster_script.specs.declared.statement.Statement.TheVariants as lines
use Rattle.cluster_script.specs.Settings.{tries_of, vnodes_of}
use Rattle.recovery.specs.State.{RecoveryState}
use Rattle.sheep_node.specs.declared.input.Input.TheVariants as inputs
use Rattle.sheep_node.specs.State as nodes
use Rattle.sheep_node.specs.State.{Node}
use Rattle.sheep_node.specs.RecoveryView.{recovery_state_of}
use Rattle.sheep_node.specs.StepState.{at_first}
use Rattle.sheep_node.specs.LogReading.{entry_read, on_back}
use Rattle.sheep_node.specs.Step.{node_step}
use Rattle.sheep_node.specs.Changes.{input_received}
use Rattle.sheep_node.proofs.LogLaws.{epoch_more}
use Rattle.sheep_node.proofs.StepChain.{step_chain}
use Rattle.sheep_node.proofs.StepResults.{step_reads}
use Rattle.sheep_world.specs.World.{Host}
use Rattle.sheep_world.specs.Opening.{format_entry, initial_world}
use Rattle.sheep_world.specs.MembershipChanges.{lost_host, revived_host, join_of, last_weight}
use Rattle.sheep_world.specs.Step.{EventOutcome}
use Rattle.sheep_world.specs.NodeCauses.{input_of_cause}
use Rattle.sheep_world.specs.EventKinds.{log_after_return}
use Rattle.sheep_world.specs.HostChanges.{host_after_return, joined_host}
use Rattle.sheep_world.specs.Began.{Began}
use Rattle.sheep_world.proofs.ControlLaws.{next_fits}
use Rattle.sheep_world.proofs.WireAtOpening.{opening_found}
use Rattle.overlap_law.specs.Reached.{has_finished}
use Rattle.overlap_law.specs.Past.{MomentWithPast, first_moment}
use Rattle.overlap_law.specs.StepMoments.{moment_in_step, first_in_step, last_in_step}
use Rattle.overlap_law.specs.MomentChanges as moments
use Rattle.overlap_law.specs.MomentChanges.{MomentChange, RunsAreInRange, KeptByChanges}
use Rattle.overlap_law.proofs.AnswerersInMoments.{AnswersHold, kept_answers}
use Rattle.overlap_law.proofs.AskedEpochs as asked_epochs
use Rattle.overlap_law.proofs.EpochsRise.{epochs_rise}
use Rattle.overlap_law.proofs.FinishedBefore.{LogsOnlyPut, put_logs, same_log, plain_log, same_finished, one_finished, same_go, one_goes}
use Rattle.overlap_law.proofs.FinishedBefore.{ends_now, begins_finished, made_finished, on_finished, step_goes, on_goes}
use Rattle.overlap_law.proofs.KnownSteps.{together}
use Rattle.overlap_law.proofs.ListMessages.{AsksListsIn}
use Rattle.overlap_law.proofs.LogsInMoments.{log_grows}
use Rattle.overlap_law.proofs.LogsOfMoments.{log_by_changes}
use Rattle.overlap_law.proofs.ReadInMoments.{HostsAreSound, epoch_within, sound_hosts, hosts_after_sound, kept_sound}
use Rattle.overlap_law.proofs.RecoveredEntries.{IsOwnEnd, PutsOnlyItsEnd, stepped_puts, opening_only}
use Rattle.overlap_law.proofs.RecoveredInMoments.{node_of, IsToPut, finished_cases, EndsNow, TheFinishedCame, FinishedBefore, RecoveriesGo}
use Rattle.overlap_law.proofs.RecoveredInMoments.{came_after}
use Rattle.overlap_law.proofs.StoodNodes.{TheUpHaveStood, kept_stood}
use Rattle.sheep_node.specs.Changes as changes

none_at_back : {P : Type 0} (p : Entry → Bool) (log : List Entry) (node : Node)
    → list_any p (input_received (inputs.Back log) (at_first node)).node.outbox ≡ true → P
unfolding on_back
none_at_back p log node there = absurd (cc (there))

module _ (script : List Statement) (range : RunsAreInRange script) (start : MomentWithPast) (began : Began script start.world) where
  -- ---- a node comes back

  module _ (after : MomentWithPast) (sound : HostsAreSound after) (n : ℕ) (host : Host) (there : tree.get start.world.hosts n ≡ Some host)
      (now_there : tree.get after.world.hosts n ≡ Some (host_after_return (log_after_return script n start.world) host)) where
    abbrev log : List Entry
    log = log_after_return script n start.world

    abbrev now : Host
    now = host_after_return log host

    returned_epoch : now.node.recovery.epoch ≡ suc (epoch_of start.world.log)
    returned_epoch =
        asked_epochs.back_recovers log host.node ∙ (sound.each n now now_there).read.epoch_so
        ∙ ap epoch_of (step_reads (inputs.Back log) host.node)
        ∙ epoch_more start.world.log (join_of script n (last_weight start.world.log n)) refl

    returned_puts : PutsOnlyItsEnd (input_received (inputs.Back log) (at_first host.node)).node (node_step (inputs.Back log) host.node)
    returned_puts =
        stepped_puts (inputs.Back log) host.node tt ((sound_hosts script range start began).each n host there).sound.only

    returned_ends : (epoch : ℕ) → list_any (recovers epoch n) now.node.outbox ≡ true → EndsNow after.world.hosts n epoch
    returned_ends epoch puts =
        let first = (input_received (inputs.Back log) (at_first host.node)).node in
        let aim : first.recovery.epoch ≡ suc (epoch_of start.world.log)
        = ap (λ (s : RecoveryState). s.recovery.epoch) (sym returned_puts.state_so) ∙ returned_epoch in
        let asks : AsksListsIn (recovery_state_of first) = subst AsksListsIn returned_puts.state_so
        (sound.each n now now_there).sound.lists.asks_so in
        ⊎_elim
        (λ (old : list_any (recovers epoch n) first.outbox ≡ true). none_at_back (recovers epoch n) log host.node old)
        (λ (end : IsOwnEnd first now.node.recovered epoch n).
        ends_now after.world.hosts n (revived_host host) first (node_step (inputs.Back log) host.node) epoch now_there refl returned_puts
        asks (omega (arith, aim)) end) (returned_puts.puts epoch n puts)

    returned_later : host.node.peer.epoch < now.node.recovery.epoch
    returned_later =
        let within = epoch_within start.world.log n host.node.me host.node.peer
        ((sound_hosts script range start began).each n host there).read in
        let aim = returned_epoch in
        omega (arith, within, aim)

  -- ---- each change

  -- the log gets no `Recovered` but one that was to be put
  pub logs_only_put : {before after : MomentWithPast} → MomentChange script start before after → LogsOnlyPut before after
  logs_only_put (moments.StepBegins stepping is by) =
      same_log start (moment_in_step script stepping start (first_in_step stepping)) (log_by_changes stepping.cause by start.world.log)
  logs_only_put (moments.StepGoesOn stepping so_far next is by within) =
      same_log (moment_in_step script stepping start so_far) (moment_in_step script stepping start next) refl
  logs_only_put (moments.StepIsMade stepping is by) = put_logs script range start began stepping is
  logs_only_put {before} {after} (moments.LossIsUntold event made happened h) =
      same_log before after (ap (λ (m : EventOutcome). m.world.log) (sym h.made_so))
  logs_only_put {before} {after} (moments.DeliveryIsUnread event made happened h) =
      same_log before after (ap (λ (m : EventOutcome). m.world.log) (sym h.made_so))
  logs_only_put {before} {after} (moments.NodeIsLost event made happened h) =
      same_log before after (ap (λ (m : EventOutcome). m.world.log) (sym h.made_so))
  logs_only_put {before} {after} (moments.PhaseEnds event made happened h) =
      same_log before after (ap (λ (m : EventOutcome). m.world.log) (sym h.made_so))
  logs_only_put {before} {after} (moments.NodeLeaves event made happened h) =
      plain_log before after (entries.Leave (record { 0 = h.n })) (ap (λ (m : EventOutcome). m.world.log) (sym h.made_so)) (λ n epoch. refl)
  logs_only_put {before} {after} (moments.NodeIsReweighted event made happened h) =
      plain_log before after (entries.Reweight (record { 0 = h.n }) h.vnodes) (ap (λ (m : EventOutcome). m.world.log) (sym h.made_so))
      (λ n epoch. refl)
  logs_only_put {before} {after} (moments.NodeJoins event made happened h) =
      plain_log before after (join_of script h.n (vnodes_of script)) (ap (λ (m : EventOutcome). m.world.log) (sym h.made_so))
      (λ n epoch. refl)
  logs_only_put {before} {after} (moments.NodeComesBack event made happened h) =
      plain_log before after (join_of script h.n (last_weight start.world.log h.n)) (ap (λ (m : EventOutcome). m.world.log) (sym h.made_so))
      (λ n epoch. refl)

  pub finished_before : {before after : MomentWithPast} → MomentChange script start before after → FinishedBefore before after
  finished_before (moments.StepBegins stepping is by) = begins_finished script range start began stepping is by
  finished_before (moments.StepGoesOn stepping so_far next is by within) =
      on_finished script range start began stepping is so_far next within
  finished_before (moments.StepIsMade stepping is by) = made_finished script range start began stepping is
  finished_before {before} {after} (moments.LossIsUntold event made happened h) =
      same_finished before after (ap (λ (m : EventOutcome). m.world.hosts) (sym h.made_so))
      (same_log before after (ap (λ (m : EventOutcome). m.world.log) (sym h.made_so)))
  finished_before {before} {after} (moments.DeliveryIsUnread event made happened h) =
      same_finished before after (ap (λ (m : EventOutcome). m.world.hosts) (sym h.made_so))
      (same_log before after (ap (λ (m : EventOutcome). m.world.log) (sym h.made_so)))
  finished_before {before} {after} (moments.NodeIsLost event made happened h) =
      one_finished before after h.n (lost_host h.host) (ap (λ (m : EventOutcome). m.world.hosts) (sym h.made_so))
      (same_log before after (ap (λ (m : EventOutcome). m.world.log) (sym h.made_so))) (λ up epoch there. absurd (cc (up)))
  finished_before {before} {after} (moments.NodeLeaves event made happened h) =
      same_finished before after (ap (λ (m : EventOutcome). m.world.hosts) (sym h.made_so))
      (plain_log before after (entries.Leave (record { 0 = h.n })) (ap (λ (m : EventOutcome). m.world.log) (sym h.made_so))
      (λ n epoch. refl))
  finished_before {before} {after} (moments.NodeIsReweighted event made happened h) =
      same_finished before after (ap (λ (m : EventOutcome). m.world.hosts) (sym h.made_so))
      (plain_log before after (entries.Reweight (record { 0 = h.n }) h.vnodes) (ap (λ (m : EventOutcome). m.world.log) (sym h.made_so))
      (λ n epoch. refl))
  finished_before {before} {after} (moments.NodeJoins event made happened h) =
      one_finished before after h.n (joined_host script h.n) (ap (λ (m : EventOutcome). m.world.hosts) (sym h.made_so))
      (plain_log before after (join_of script h.n (vnodes_of script)) (ap (λ (m : EventOutcome). m.world.log) (sym h.made_so))
      (λ n epoch. refl)) (λ up epoch there. absurd (cc (there)))
  finished_before {before} {after} (moments.NodeComesBack event made happened h) =
      let change : MomentChange script start before after = moments.NodeComesBack event made happened h in
      let now = host_after_return (log_after_return script h.n start.world) h.host in
      let at : tree.get after.world.hosts h.n ≡ Some now
      = ap (λ (m : EventOutcome). tree.get m.world.hosts h.n) (sym h.made_so) ∙ get-insert_same start.world.hosts h.n now in
      one_finished before after h.n now (ap (λ (m : EventOutcome). m.world.hosts) (sym h.made_so))
      (plain_log before after (join_of script h.n (last_weight start.world.log h.n))
      (ap (λ (m : EventOutcome). m.world.log) (sym h.made_so)) (λ n epoch. refl))
      (λ up epoch there. inr (returned_ends after (hosts_after_sound script range start began change) h.n h.host h.there at epoch there))
  finished_before {before} {after} (moments.PhaseEnds event made happened h) =
      same_finished before after (ap (λ (m : EventOutcome). m.world.hosts) (sym h.made_so))
      (same_log before after (ap (λ (m : EventOutcome). m.world.log) (sym h.made_so)))

  pub recoveries_go : {before after : MomentWithPast} → MomentChange script start before after → RecoveriesGo before after
  recoveries_go (moments.StepBegins stepping is by) = step_goes script range start began stepping is (first_in_step stepping) changes.Still
  recoveries_go (moments.StepGoesOn stepping so_far next is by within) = on_goes script range start began stepping is so_far next within
  recoveries_go (moments.StepIsMade stepping is by) =
      step_goes script range start began stepping is (last_in_step stepping) (step_chain (input_of_cause stepping.cause) stepping.host.node)
  recoveries_go {before} {after} (moments.LossIsUntold event made happened h) =
      same_go before after (ap (λ (m : EventOutcome). m.world.hosts) (sym h.made_so))
  recoveries_go {before} {after} (moments.DeliveryIsUnread event made happened h) =
      same_go before after (ap (λ (m : EventOutcome). m.world.hosts) (sym h.made_so))
  recoveries_go {before} {after} (moments.NodeIsLost event made happened h) =
      one_goes before after h.n (lost_host h.host) (ap (λ (m : EventOutcome). m.world.hosts) (sym h.made_so)) (λ up. absurd (cc (up)))
  recoveries_go {before} {after} (moments.NodeLeaves event made happened h) =
      same_go before after (ap (λ (m : EventOutcome). m.world.hosts) (sym h.made_so))
  recoveries_go {before} {after} (moments.NodeIsReweighted event made happened h) =
      same_go before after (ap (λ (m : EventOutcome). m.world.hosts) (sym h.made_so))
  recoveries_go {before} {after} (moments.NodeJoins event made happened h) =
      one_goes before after h.n (joined_host script h.n) (ap (λ (m : EventOutcome). m.world.hosts) (sym h.made_so))
      (λ up. inr (next_fits script start.world (lines.Join h.n) h.control (together script range start.world began).fit).1)
  recoveries_go {before} {after} (moments.NodeComesBack event made happened h) =
      let change : MomentChange script start before after = moments.NodeComesBack event made happened h in
      let now = host_after_return (log_after_return script h.n start.world) h.host in
      let at : tree.get after.world.hosts h.n ≡ Some now
      = ap (λ (m : EventOutcome). tree.get m.world.hosts h.n) (sym h.made_so) ∙ get-insert_same start.world.hosts h.n now in
      one_goes before after h.n now (ap (λ (m : EventOutcome). m.world.hosts) (sym h.made_so))
      (λ up. inl (record {
        host = h.host;
        there = h.there;
        goes = inr (returned_later after (hosts_after_sound script range start began change) h.n h.host h.there at);
      }))
  recoveries_go {before} {after} (moments.PhaseEnds event made happened h) =
      same_go before after (ap (λ (m : EventOutcome). m.world.hosts) (sym h.made_so))

-- ---- every moment

-- what the group of epochs and nodes stands on
pub record TermsHold (moment : MomentWithPast) : Type 0 where
  pub stood : TheUpHaveStood moment.world.log moment.world.hosts
  pub sound : HostsAreSound moment
  pub answers : AnswersHold moment
  pub came : TheFinishedCame moment.world.log moment.world.hosts

module _ (script : List Statement) (range : RunsAreInRange script) where
  change_terms : (start before after : MomentWithPast) → Began script start.world → MomentChange script start before after
      → TermsHold before → TermsHold after
  change_terms start before after began change terms =
      let sound = hosts_after_sound script range start began change in
      let answers = (kept_answers script range).keeps start before after began change terms.answers in
      record {
        stood = (kept_stood script range).keeps start before after began change terms.stood;
        sound = sound;
        answers = answers;
        came = came_after before after (log_grows script change) terms.stood.some (epochs_rise script range start began change)
            (finished_before script range start began change) (recoveries_go script range start began change) sound answers.answered
            terms.came;
      }

  -- nothing is finished before the first event
  opening_finished : {P : Type 0} (n epoch : ℕ)
      → has_finished (first_moment script).world.hosts (first_moment script).world.log epoch (node_of n) ≡ true → P
  unfolding initial_world entry_read
  opening_finished n epoch finished = ⊎_elim
      (λ (stands : has_recovered (first_moment script).world.log epoch n ≡ true). absurd (cc (stands)))
      (λ (to_put : IsToPut (first_moment script).world.hosts n epoch).
      let (member, own, is) = opening_found script n to_put.host to_put.there in
      let node = nodes.initial_node member.node (tries_of script) in
      let puts = stepped_puts (inputs.LogEntry (format_entry script)) node tt (opening_only member.node (tries_of script)) in
      let there = ap (λ (h : Host). list_any (recovers epoch n) h.node.outbox) is ∙ to_put.puts in
      ⊎_elim
      (λ (old : list_any (recovers epoch n) (entry_read (format_entry script) node).outbox ≡ true). absurd (cc (old)))
      (λ (end : IsOwnEnd (entry_read (format_entry script) node) (node_step (inputs.LogEntry (format_entry script)) node).node.recovered epoch n).
      let due = end.due in absurd (cc (due)))
      (puts.puts epoch n there))
      (finished_cases (first_moment script).world.hosts (first_moment script).world.log n epoch finished)

  opening_terms : TermsHold (first_moment script)
  opening_terms = record {
    stood = (kept_stood script range).opens;
    sound = (kept_sound script range).opens;
    answers = (kept_answers script range).opens;
    came = record {
      later = λ n epoch finished. opening_finished n epoch finished;
      begun = λ n epoch finished. opening_finished n epoch finished;
      there = λ n epoch finished. opening_finished n epoch finished;
      reached = λ n epoch host finished. opening_finished n epoch finished;
      members = λ n epoch other finished. opening_finished n epoch finished;
      put = λ n host there up finished. opening_finished n host.node.recovery.epoch finished;
    };
  }

  pub kept_terms : KeptByChanges script TermsHold
  kept_terms =
      record { opens = opening_terms; keeps = λ start before after began change terms. change_terms start before after began change terms }
