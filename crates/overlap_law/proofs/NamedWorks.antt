-- Over each change of a moment in a run in range works name what is made, if the works that requests ask for next in the middle of a step
-- do.
use Rattle.std.proofs.Common.{◌≡◌, ◌≢◌, ⊎_elim, arith, ℕ, ◌≤◌, Bool, false, List, [], ◌∷◌, Some, refl, sym, ap, subst}
use Rattle.std.proofs.Common.{◌∙◌}
use Rattle.std.specs.FinMap as tree
use Rattle.proof_tools.proofs.Booleans.{cond_either}
use Rattle.proof_tools.proofs.FiniteMaps.{get-insert_same, get-insert_cases, insert-insert}
use Rattle.object_id.specs.declared.entry.Entry.{Entry}
use Rattle.object_id.specs.Oid.{object_number}
use Rattle.cluster_script.specs.declared.statement.Statement.{Statement}
use Rattle.vdi_directory.specs.Decisions.{log_effects}
use Rattle.peer_proto.specs.declared.work.ObjWork.{ObjWork}
use Rattle.peer_service.specs.State.{Peer}
use Rattle.sheep_node.specs.declared.input.Input.TheVariants as inputs
use Rattle.sheep_node.specs.LogReading.{on_back}
use Rattle.sheep_node.specs.State.{Node}
use Rattle.sheep_node.specs.Step.{on_request, on_put, on_recover_tick, is_due, with_recovered, recovered_put, on_input, node_step}
use Rattle.sheep_node.specs.StepState.{StepState, at_first, with_node}
use Rattle.sheep_node.specs.Changes as changes
use Rattle.sheep_node.proofs.AwaitedWorks.{Works}
use Rattle.sheep_node.proofs.OneWorkParts.{Sessions}
use Rattle.sheep_node.proofs.ReceivedInputs.{received_keeps}
use Rattle.sheep_world.specs.World.{Host}
use Rattle.sheep_world.specs.Began.{Began}
use Rattle.sheep_world.specs.HostChanges.{joined_host, host_after_return}
use Rattle.sheep_world.specs.EventKinds.{log_after_return}
use Rattle.sheep_world.specs.MembershipChanges.{lost_host}
use Rattle.sheep_world.specs.NodeCauses.{NodeCause, GuestAsks, RequestComes, ReplyComes, LossIsTold, EntryIsRead, EntryIsPut}
use Rattle.sheep_world.specs.NodeCauses.{RecoveryTicks, WorkIsRetried, ClientAsks, input_of_cause, host_with_node}
use Rattle.sheep_world.specs.Step.{EventOutcome}
use Rattle.overlap_law.specs.Fates.{IsCreated}
use Rattle.overlap_law.specs.MomentChanges as moments
use Rattle.overlap_law.specs.MomentChanges.{MomentChange, RunsAreInRange}
use Rattle.overlap_law.specs.NamedWorks.{HasEntry, NamesWhatIsMade, AskedWorksNameWhatIsMade}
use Rattle.overlap_law.specs.Past.{MomentWithPast}
use Rattle.overlap_law.specs.Reached.{Hosts}
use Rattle.overlap_law.specs.StepMoments.{SteppingNode, IsStepping, StepsByChanges, StepsAtOnce, IsWithinStep, first_in_step}
use Rattle.overlap_law.specs.StepMoments.{last_in_step, moment_in_step}
use Rattle.overlap_law.specs.ToDo.{entry_made, IsToDo, IsEntryToDo, WorksNameWhatIsMade}
use Rattle.overlap_law.proofs.ChainsStay.{above-stays}
use Rattle.overlap_law.proofs.ClaimsInRuns.{up_not_lost}
use Rattle.overlap_law.proofs.CreatedStays.{created-by, created_stays}
use Rattle.overlap_law.proofs.EpochsRise.{same_so_far, first_rises, step_rises}
use Rattle.overlap_law.proofs.LogsOfMoments.{log_of_change}
use Rattle.overlap_law.proofs.NamedEntries.{stands-later}
use Rattle.overlap_law.proofs.ToDoSteps.{AreToDo, request_of, to_do_of, none_to_do}
use Rattle.overlap_law.proofs.WorksCome.{change_all}

-- ---- what is weaker

module _ (P Q : ObjWork → Type 0) (weaker : (work : ObjWork) → P work → Q work) where
  to_do_weaker : (works : Works) (sessions : Sessions) → AreToDo P works sessions → AreToDo Q works sessions
  to_do_weaker works sessions all req work has = weaker work (all req work has)

-- ---- as the invariant says it

module _ (good_id : ℕ → Bool) (moment : MomentWithPast) where
  abbrev Names : Host → ObjWork → Type 0
  Names host = NamesWhatIsMade (log_effects moment.world.log) good_id moment.past.attempts host.node.peer.epoch

  abbrev HostNames : Host → Type 0
  HostNames host = AreToDo (Names host) host.node.gateway.works host.node.sessions

  abbrev AllName : Type 0
  AllName = (n : ℕ) (host : Host) → tree.get moment.world.hosts n ≡ Some host → host.is_lost ≡ false → HostNames host

  module _ (said : WorksNameWhatIsMade (log_effects moment.world.log) good_id moment.world.hosts moment.past.attempts) (n : ℕ) (host : Host)
      (there : tree.get moment.world.hosts n ≡ Some host) (up : host.is_lost ≡ false) where
    names_so : (work : ObjWork) → IsToDo host.node work → Names host work
    names_so work to_do = record {
      each = λ vid index has.
          said.each n host there up work vid index
          (record { to_do = to_do; object = has.object; inside = has.inside; covered = has.covered });
      own = λ vid index has.
          said.own n host there up work vid index
          (record { to_do = to_do; object = has.object; inside = has.inside; covered = has.covered });
    }

    host_names : HostNames host
    host_names req work has = names_so work (to_do_of host.node req work has)

  names_of : AllName → (n : ℕ) (host : Host) → tree.get moment.world.hosts n ≡ Some host → host.is_lost ≡ false → (work : ObjWork)
      → IsToDo host.node work → Names host work
  names_of all n host there up work is =
      let (req, has) = request_of host.node work is in
      all n host there up req work has

  has_of : (node : Node) (work : ObjWork) (vid index : ℕ) → IsEntryToDo node work vid index → HasEntry work vid index
  has_of node work vid index is = record { object = is.object; inside = is.inside; covered = is.covered }

  said_of : AllName → WorksNameWhatIsMade (log_effects moment.world.log) good_id moment.world.hosts moment.past.attempts
  said_of all = record {
    each = λ n host there up work vid index is.
        (names_of all n host there up work is.to_do).each vid index (has_of host.node work vid index is);
    own = λ n host there up work vid index is.
        (names_of all n host there up work is.to_do).own vid index (has_of host.node work vid index is);
  }

-- ---- a step that is one change leaves works

due_names : (P : ObjWork → Type 0) (so_far : StepState) → AreToDo P so_far.node.gateway.works so_far.node.sessions
    → AreToDo P (recovered_put so_far).node.gateway.works (recovered_put so_far).node.sessions
unfolding recovered_put
due_names P so_far is =
    cond_either (λ (now : StepState). AreToDo P now.node.gateway.works now.node.sessions) (is_due so_far.node)
    (with_recovered so_far) so_far
    is is

pub at_once_names : (P : ObjWork → Type 0) (node : Node) (cause : NodeCause) → StepsAtOnce cause
    → AreToDo P node.gateway.works node.sessions
    → AreToDo P (node_step (input_of_cause cause) node).node.gateway.works (node_step (input_of_cause cause) node).node.sessions
unfolding node_step on_input on_request on_recover_tick
at_once_names P node (GuestAsks session req ask) by is = absurd by
at_once_names P node (RequestComes name to request) by is = due_names P (on_request request (at_first node)) is
at_once_names P node (ReplyComes name from rsp) by is = absurd by
at_once_names P node (LossIsTold name packet) by is = absurd by
at_once_names P node (EntryIsRead entry) by is = absurd by
at_once_names P node (EntryIsPut entry) by is = due_names P (on_put node.outbox (at_first node)) (by_outbox node.outbox)
  where
    by_outbox : (outbox : List Entry)
        → AreToDo P (on_put outbox (at_first node)).node.gateway.works (on_put outbox (at_first node)).node.sessions
    by_outbox [] = is
    by_outbox (entry ∷ later) = is
at_once_names P node RecoveryTicks by is = due_names P (on_recover_tick (at_first node)) is
at_once_names P node WorkIsRetried by is = absurd by
at_once_names P node (ClientAsks req ask) by is = absurd by

pub back_names : (P : ObjWork → Type 0) (entries : List Entry) (node : Node)
    → AreToDo P (node_step (inputs.Back entries) node).node.gateway.works (node_step (inputs.Back entries) node).node.sessions
unfolding node_step on_input on_back
back_names P entries node = due_names P (with_node (on_back entries node) (at_first node)) (none_to_do P)

-- ---- over a change

module _ (script : List Statement) (range : RunsAreInRange script) (good_id : ℕ → Bool) (start before after : MomentWithPast)
    (began : Began script start.world) (change : MomentChange script start before after) where
  abbrev NamesBefore : ℕ → ObjWork → Type 0
  NamesBefore = NamesWhatIsMade (log_effects before.world.log) good_id before.past.attempts

  abbrev NamesAfter : ℕ → ObjWork → Type 0
  NamesAfter = NamesWhatIsMade (log_effects after.world.log) good_id after.past.attempts

  -- what was created by an epoch is created by a later one then
  then_created : (old new : ℕ) → old ≤ new → (oid : ℕ) → IsCreated before.past.attempts oid old → IsCreated after.past.attempts oid new
  then_created old new rises oid was =
      created-by after.past.attempts oid old new rises (created_stays script range start before after began change oid old was)

  names_later : (old new : ℕ) → old ≤ new → (work : ObjWork) → NamesBefore old work → NamesAfter new work
  names_later old new rises work names = record {
    each = λ vid index has good some.
        let stands = stands-later before after (above-stays before.world.log after.world.log (log_of_change script change))
        (λ oid epoch. created_stays script range start before after began change oid epoch) vid index old (entry_made index work)
        (names.each vid index has good some) in
        record {
          chain = stands.chain;
          created = created-by after.past.attempts (object_number (entry_made index work) index) old new rises stands.created;
        };
    own = λ vid index has is_vid own. then_created old new rises (object_number vid index) (names.own vid index has is_vid own);
  }

  -- a host that is as it was
  rests : (host : Host) → HostNames good_id before host → HostNames good_id after host
  rests host all =
      to_do_weaker (NamesBefore host.node.peer.epoch) (NamesAfter host.node.peer.epoch)
      (names_later host.node.peer.epoch host.node.peer.epoch (omega arith)) host.node.gateway.works host.node.sessions all

  same_hosts : after.world.hosts ≡ before.world.hosts → AllName good_id before → AllName good_id after
  same_hosts same all n host there up =
      rests host (all n host (ap (λ (held : Hosts). tree.get held n) (sym same) ∙ there) up)

  -- one is another
  one_host : (k : ℕ) (new : Host) → after.world.hosts ≡ tree.insert before.world.hosts k new
      → (new.is_lost ≡ false → HostNames good_id after new) → AllName good_id before → AllName good_id after
  one_host k new is own all n host there up = ⊎_elim
      (λ (here : (n ≡ k) × (new ≡ host)). subst (HostNames good_id after) here.1 (own (ap (λ (h : Host). h.is_lost) here.1 ∙ up)))
      (λ (other : (n ≢ k) × (tree.get before.world.hosts n ≡ Some host)). rests host (all n host other.1 up))
      (get-insert_cases before.world.hosts k new n host (ap (λ (held : Hosts). tree.get held n) (sym is) ∙ there))

-- ---- every change

module _ (script : List Statement) (range : RunsAreInRange script) (good_id : ℕ → Bool) (start : MomentWithPast)
    (began : Began script start.world) where
  begins : (stepping : SteppingNode) (is : IsStepping script start.world stepping) (by : StepsByChanges stepping.cause)
      → AllName good_id start → AllName good_id (moment_in_step script stepping start (first_in_step stepping))
  begins stepping is by all =
      let after : MomentWithPast = moment_in_step script stepping start (first_in_step stepping) in
      let change : MomentChange script start start after = moments.StepBegins stepping is by in
      let first : StepState = first_in_step stepping in
      let old : ℕ = stepping.host.node.peer.epoch in
      let P : ObjWork → Type 0 = NamesWhatIsMade (log_effects start.world.log) good_id start.past.attempts old in
      let was : AreToDo P stepping.host.node.gateway.works stepping.host.node.sessions
      = all stepping.n stepping.host is.there (up_not_lost script range stepping.host is.up) in
      one_host script range good_id start start after began change stepping.n (host_with_node stepping.host first.node) refl
      (λ up. to_do_weaker P (NamesWhatIsMade (log_effects after.world.log) good_id after.past.attempts first.node.peer.epoch)
      (names_later script range good_id start start after began change old first.node.peer.epoch
      (first_rises script range start began stepping is)) first.node.gateway.works first.node.sessions
      (received_keeps (λ works requests sessions. AreToDo P works sessions) (none_to_do P) (input_of_cause stepping.cause)
      stepping.host.node was))
      all

  at_once : (stepping : SteppingNode) (is : IsStepping script start.world stepping) (by : StepsAtOnce stepping.cause)
      → AllName good_id start → AllName good_id (moment_in_step script stepping start (last_in_step stepping))
  at_once stepping is by all =
      let after : MomentWithPast = moment_in_step script stepping start (last_in_step stepping) in
      let change : MomentChange script start start after = moments.StepIsMade stepping is by in
      let last : StepState = last_in_step stepping in
      let old : ℕ = stepping.host.node.peer.epoch in
      let P : ObjWork → Type 0 = NamesWhatIsMade (log_effects start.world.log) good_id start.past.attempts old in
      let was : AreToDo P stepping.host.node.gateway.works stepping.host.node.sessions
      = all stepping.n stepping.host is.there (up_not_lost script range stepping.host is.up) in
      one_host script range good_id start start after began change stepping.n (host_with_node stepping.host last.node) refl
      (λ up. to_do_weaker P (NamesWhatIsMade (log_effects after.world.log) good_id after.past.attempts last.node.peer.epoch)
      (names_later script range good_id start start after began change old last.node.peer.epoch
      (step_rises script range start began stepping is)) last.node.gateway.works last.node.sessions
      (at_once_names P stepping.host.node stepping.cause by was)) all

  goes_on : (stepping : SteppingNode) (is : IsStepping script start.world stepping) (by : StepsByChanges stepping.cause)
      (so_far next : StepState) (within : IsWithinStep stepping so_far next)
      → AskedWorksNameWhatIsMade script good_id start (moment_in_step script stepping start so_far)
      → AllName good_id (moment_in_step script stepping start so_far) → AllName good_id (moment_in_step script stepping start next)
  goes_on stepping is by so_far next within asked all =
      let here : MomentWithPast = moment_in_step script stepping start so_far in
      let after : MomentWithPast = moment_in_step script stepping start next in
      let change : MomentChange script start here after = moments.StepGoesOn stepping so_far next is by within in
      let was : Host = host_with_node stepping.host so_far.node in
      let now : Host = host_with_node stepping.host next.node in
      let P : ObjWork → Type 0 = NamesWhatIsMade (log_effects here.world.log) good_id here.past.attempts so_far.node.peer.epoch in
      let before : AreToDo P so_far.node.gateway.works so_far.node.sessions
      = all stepping.n was (get-insert_same start.world.hosts stepping.n was) (up_not_lost script range stepping.host is.up) in
      let then : AreToDo P next.node.gateway.works next.node.sessions
      = change_all (λ req work. P work) (input_of_cause stepping.cause) stepping.host.node so_far before
      (λ session req work moved steps. asked stepping so_far is by within.leads refl session req work moved steps) next within.change in
      let same : so_far.node.peer.epoch ≡ next.node.peer.epoch
      = ap (λ (p : Peer). p.epoch) (same_so_far script range start began stepping so_far within.leads
      ∙ sym (same_so_far script range start began stepping next (changes.Then within.leads within.change))) in
      one_host script range good_id start here after began change stepping.n now (sym (insert-insert start.world.hosts stepping.n was now))
      (λ up. to_do_weaker P (NamesWhatIsMade (log_effects after.world.log) good_id after.past.attempts next.node.peer.epoch)
      (names_later script range good_id start here after began change so_far.node.peer.epoch next.node.peer.epoch (omega (arith, same)))
      next.node.gateway.works next.node.sessions then) all

  change_keeps : {before after : MomentWithPast} → MomentChange script start before after
      → AskedWorksNameWhatIsMade script good_id start before → AllName good_id before → AllName good_id after
  change_keeps (moments.StepBegins stepping is by) asked all = begins stepping is by all
  change_keeps (moments.StepGoesOn stepping so_far next is by within) asked all = goes_on stepping is by so_far next within asked all
  change_keeps (moments.StepIsMade stepping is by) asked all = at_once stepping is by all
  change_keeps {before} {after} (moments.LossIsUntold event made happened h) asked all =
      same_hosts script range good_id start before after began (moments.LossIsUntold event made happened h)
      (ap (λ (m : EventOutcome). m.world.hosts) (sym h.made_so)) all
  change_keeps {before} {after} (moments.DeliveryIsUnread event made happened h) asked all =
      same_hosts script range good_id start before after began (moments.DeliveryIsUnread event made happened h)
      (ap (λ (m : EventOutcome). m.world.hosts) (sym h.made_so)) all
  change_keeps {before} {after} (moments.NodeIsLost event made happened h) asked all =
      one_host script range good_id start before after began (moments.NodeIsLost event made happened h) h.n (lost_host h.host)
      (ap (λ (m : EventOutcome). m.world.hosts) (sym h.made_so)) (λ up. absurd (cc (up))) all
  change_keeps {before} {after} (moments.NodeLeaves event made happened h) asked all =
      same_hosts script range good_id start before after began (moments.NodeLeaves event made happened h)
      (ap (λ (m : EventOutcome). m.world.hosts) (sym h.made_so)) all
  change_keeps {before} {after} (moments.NodeIsReweighted event made happened h) asked all =
      same_hosts script range good_id start before after began (moments.NodeIsReweighted event made happened h)
      (ap (λ (m : EventOutcome). m.world.hosts) (sym h.made_so)) all
  change_keeps {before} {after} (moments.NodeJoins event made happened h) asked all =
      one_host script range good_id start before after began (moments.NodeJoins event made happened h) h.n (joined_host script h.n)
      (ap (λ (m : EventOutcome). m.world.hosts) (sym h.made_so))
      (λ up. none_to_do (NamesWhatIsMade (log_effects after.world.log) good_id after.past.attempts
      (joined_host script h.n).node.peer.epoch))
      all
  change_keeps {before} {after} (moments.NodeComesBack event made happened h) asked all =
      let log : List Entry = log_after_return script h.n start.world in
      let new : Host = host_after_return log h.host in
      one_host script range good_id start before after began (moments.NodeComesBack event made happened h) h.n new
      (ap (λ (m : EventOutcome). m.world.hosts) (sym h.made_so))
      (λ up. back_names (NamesWhatIsMade (log_effects after.world.log) good_id after.past.attempts new.node.peer.epoch) log h.host.node) all
  change_keeps {before} {after} (moments.PhaseEnds event made happened h) asked all =
      same_hosts script range good_id start before after began (moments.PhaseEnds event made happened h)
      (ap (λ (m : EventOutcome). m.world.hosts) (sym h.made_so)) all

  pub works_stay_named : {before after : MomentWithPast} → MomentChange script start before after
      → AskedWorksNameWhatIsMade script good_id start before
      → WorksNameWhatIsMade (log_effects before.world.log) good_id before.world.hosts before.past.attempts
      → WorksNameWhatIsMade (log_effects after.world.log) good_id after.world.hosts after.past.attempts
  works_stay_named {before} {after} change asked said =
      said_of good_id after
      (change_keeps change asked (λ n host there up. host_names good_id before said n host there up))
