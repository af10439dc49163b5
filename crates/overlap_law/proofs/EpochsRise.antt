-- A node's epoch never falls over a change of a moment: what the node has read only grows, and its epoch is that of what it has read.
use Rattle.std.proofs.Common.{◌≡◌, ◌≢◌, ⊎_elim, arith, ℕ, ◌+◌, ◌≤◌, false, List, [], ◌∷◌, ◌++◌, filter, length, Some, is_some, sym, ap}
use Rattle.std.proofs.Common.{subst, refl, ◌∙◌, append_assoc, append-nil}
use Rattle.std.specs.FinMap as tree
use Rattle.std.proofs.lemmas.Bool.{cases_eq}
use Rattle.std.proofs.lemmas.Option.{same_Some}
use Rattle.proof_tools.proofs.FiniteMaps.{get-insert_same, get-insert_other, insert-insert}
use Rattle.object_id.specs.declared.entry.Entry.{Entry}
use Rattle.epoch_log.specs.Epochs.{begins_epoch, epoch_of}
use Rattle.epoch_log.proofs.EpochLemmas.{epoch_of-append}
use Rattle.cluster_script.specs.declared.statement.Statement.{Statement}
use Rattle.cluster_script.specs.declared.statement.Statement.TheVariants as lines
use Rattle.peer_service.specs.State.{Peer}
use Rattle.sheep_node.specs.declared.input.Input.TheVariants as inputs
use Rattle.sheep_node.specs.State.{Node}
use Rattle.sheep_node.specs.StepState.{StepState}
use Rattle.sheep_node.specs.Step.{node_step}
use Rattle.sheep_node.specs.StepFacts.{read_after, IsByTheLog}
use Rattle.sheep_node.proofs.StepEffects.{Untouched}
use Rattle.sheep_node.proofs.StepResults.{step_peer, step_reads}
use Rattle.sheep_node.specs.Changes as changes
use Rattle.sheep_world.specs.World.{Host, World, host_at}
use Rattle.sheep_world.specs.Step.{EventOutcome}
use Rattle.sheep_world.specs.MembershipChanges.{lost_host, join_of, last_weight}
use Rattle.sheep_world.specs.NodeCauses.{NodeCause, GuestAsks, RequestComes, ReplyComes, LossIsTold, EntryIsRead, EntryIsPut, RecoveryTicks}
use Rattle.sheep_world.specs.NodeCauses.{WorkIsRetried, ClientAsks, input_of_cause, event_of_cause, host_with_node, world_after_cause}
use Rattle.sheep_world.specs.EventKinds.{log_after_return, outcome_of_step}
use Rattle.sheep_world.specs.HostChanges.{host_after_return, joined_host}
use Rattle.sheep_world.specs.Began.{Began}
use Rattle.sheep_world.proofs.BegunWorlds.{goes_on}
use Rattle.sheep_world.proofs.ControlLaws.{next_fits}
use Rattle.sheep_world.proofs.LogFrontLaws.{all_read}
use Rattle.sheep_world.proofs.NodesByTheLog.{by_the_log}
use Rattle.overlap_law.specs.Reached.{Hosts}
use Rattle.overlap_law.specs.Past.{MomentWithPast}
use Rattle.overlap_law.specs.StepMoments.{SteppingNode, IsStepping, first_in_step, last_in_step, LeadsInStep, IsWithinStep, hosts_in_step}
use Rattle.overlap_law.specs.MomentChanges as moments
use Rattle.overlap_law.specs.MomentChanges.{MomentChange, RunsAreInRange}
use Rattle.overlap_law.proofs.SendsOfChanges.{in_order_so_far}
use Rattle.overlap_law.proofs.KnownSteps.{together}

-- each host is there still, in no earlier epoch
abbrev pub EpochsRise : Hosts → Hosts → Type 0
EpochsRise hosts hosts_after = (n : ℕ) (host : Host) → tree.get hosts n ≡ Some host
    → (now : Host) × (tree.get hosts_after n ≡ Some now) × (host.node.peer.epoch ≤ now.node.peer.epoch)

no_earlier : (epoch : ℕ) → epoch ≤ epoch
no_earlier epoch = omega arith

same_rise : (hosts hosts_after : Hosts) → hosts_after ≡ hosts → EpochsRise hosts hosts_after
same_rise hosts hosts_after same n host there =
    (host, ap (λ (held : Hosts). tree.get held n) same ∙ there, no_earlier host.node.peer.epoch)

-- one host is another
one_rises : (hosts hosts_after : Hosts) (k : ℕ) (old new : Host) → hosts_after ≡ tree.insert hosts k new → tree.get hosts k ≡ Some old
    → old.node.peer.epoch ≤ new.node.peer.epoch → EpochsRise hosts hosts_after
one_rises hosts hosts_after k old new is was rises n host there = ⊎_elim
    (λ (own : n ≡ k).
    let same : old ≡ host = same_Some old host (sym was ∙ ap (tree.get hosts) (sym own) ∙ there) in
    let now : tree.get hosts_after n ≡ Some new
    = ap (λ (held : Hosts). tree.get held n) is ∙ ap (tree.get (tree.insert hosts k new)) own ∙ get-insert_same hosts k new in
    (new, now, subst (λ (h : Host). h.node.peer.epoch ≤ new.node.peer.epoch) same rises))
    (λ (apart : n ≢ k).
    (host, ap (λ (held : Hosts). tree.get held n) is ∙ get-insert_other hosts k new n apart ∙ there, no_earlier host.node.peer.epoch))
    (cases_eq n k)

-- one host is new
one_joins : (hosts hosts_after : Hosts) (k : ℕ) (new : Host) → hosts_after ≡ tree.insert hosts k new → is_some (tree.get hosts k) ≡ false
    → EpochsRise hosts hosts_after
one_joins hosts hosts_after k new is none n host there = ⊎_elim
    (λ (own : n ≡ k).
    let was : tree.get hosts k ≡ Some host = ap (tree.get hosts) (sym own) ∙ there in
    let some = sym (ap is_some was) ∙ none in
    absurd (cc (some)))
    (λ (apart : n ≢ k).
    (host, ap (λ (held : Hosts). tree.get held n) is ∙ get-insert_other hosts k new n apart ∙ there, no_earlier host.node.peer.epoch))
    (cases_eq n k)

-- what more a node has read by the cause of its step
abbrev pub read_more : NodeCause → List Entry
read_more (GuestAsks session req ask) = []
read_more (RequestComes name to request) = []
read_more (ReplyComes name from rsp) = []
read_more (LossIsTold name packet) = []
read_more (EntryIsRead entry) = entry ∷ []
read_more (EntryIsPut entry) = []
read_more RecoveryTicks = []
read_more WorkIsRetried = []
read_more (ClientAsks req ask) = []

pub read_with_more : (cause : NodeCause) (read : List Entry) → read_after (input_of_cause cause) read ≡ read ++ read_more cause
read_with_more (GuestAsks session req ask) read = sym (append-nil read)
read_with_more (RequestComes name to request) read = sym (append-nil read)
read_with_more (ReplyComes name from rsp) read = sym (append-nil read)
read_with_more (LossIsTold name packet) read = sym (append-nil read)
read_with_more (EntryIsRead entry) read = refl
read_with_more (EntryIsPut entry) read = sym (append-nil read)
read_with_more RecoveryTicks read = sym (append-nil read)
read_with_more WorkIsRetried read = sym (append-nil read)
read_with_more (ClientAsks req ask) read = sym (append-nil read)

-- a node that has read more is in no earlier epoch
rises_by_reading : (old new : Node) (more : List Entry) → IsByTheLog old → IsByTheLog new → new.peer.entries ≡ old.peer.entries ++ more
    → old.peer.epoch ≤ new.peer.epoch
rises_by_reading old new more by_old by_new reads =
    let was : old.peer.epoch ≡ epoch_of old.peer.entries = by_old.epoch_so in
    let now : new.peer.epoch ≡ epoch_of old.peer.entries + length (filter begins_epoch more)
    = by_new.epoch_so ∙ ap epoch_of reads ∙ epoch_of-append old.peer.entries more in
    omega (arith, was, now)

-- over a whole step
pub stepped_rises : (script : List Statement) (range : RunsAreInRange script) (world : World) (began : Began script world) (n : ℕ)
    (host : Host)
    (cause : NodeCause) → host_at n world ≡ Some host → Began script (world_after_cause script n host cause world)
    → host.node.peer.epoch ≤ (node_step (input_of_cause cause) host.node).node.peer.epoch
stepped_rises script range world began n host cause there next =
    let after = host_with_node host (node_step (input_of_cause cause) host.node).node in
    rises_by_reading host.node after.node (read_more cause)
    (by_the_log script range.is_script range.room world began n host there)
    (by_the_log script range.is_script range.room (world_after_cause script n host cause world) next n after
    (get-insert_same world.hosts n after)) (step_reads (input_of_cause cause) host.node ∙ read_with_more cause host.node.peer.entries)

module _ (script : List Statement) (range : RunsAreInRange script) (start : MomentWithPast) (began : Began script start.world) where
  pub step_rises : (stepping : SteppingNode) → IsStepping script start.world stepping
      → stepping.host.node.peer.epoch ≤ (last_in_step stepping).node.peer.epoch
  step_rises stepping is =
      stepped_rises script range start.world began stepping.n stepping.host stepping.cause is.there
      (goes_on script (event_of_cause stepping.n stepping.cause) start.world
      (outcome_of_step script stepping.n stepping.host stepping.cause start.world) began is.made)

  -- once the input was received, which is all that the step reads
  pub first_rises : (stepping : SteppingNode) → IsStepping script start.world stepping
      → stepping.host.node.peer.epoch ≤ (first_in_step stepping).node.peer.epoch
  first_rises stepping is =
      subst (λ (peer : Peer). stepping.host.node.peer.epoch ≤ peer.epoch) (step_peer (input_of_cause stepping.cause) stepping.host.node)
      (step_rises stepping is)

  pub same_so_far : (stepping : SteppingNode) (so_far : StepState) → LeadsInStep stepping (first_in_step stepping) so_far
      → so_far.node.peer ≡ (first_in_step stepping).node.peer
  same_so_far stepping so_far leads = ap (λ (u : Untouched). u.peer) (in_order_so_far so_far leads).same

  goes_on_rises : (stepping : SteppingNode) (so_far next : StepState) → IsWithinStep stepping so_far next
      → EpochsRise (hosts_in_step stepping start.world so_far) (hosts_in_step stepping start.world next)
  goes_on_rises stepping so_far next within =
      let was = host_with_node stepping.host so_far.node in
      let now = host_with_node stepping.host next.node in
      let same : so_far.node.peer ≡ next.node.peer
      = same_so_far stepping so_far within.leads ∙ sym (same_so_far stepping next (changes.Then within.leads within.change)) in
      one_rises (hosts_in_step stepping start.world so_far) (hosts_in_step stepping start.world next) stepping.n was now
      (sym (insert-insert start.world.hosts stepping.n was now)) (get-insert_same start.world.hosts stepping.n was)
      (subst (λ (peer : Peer). so_far.node.peer.epoch ≤ peer.epoch) same (no_earlier so_far.node.peer.epoch))

  pub epochs_rise : {before after : MomentWithPast} → MomentChange script start before after
      → EpochsRise before.world.hosts after.world.hosts
  epochs_rise (moments.StepBegins stepping is by) =
      one_rises start.world.hosts (hosts_in_step stepping start.world (first_in_step stepping)) stepping.n stepping.host
      (host_with_node stepping.host (first_in_step stepping).node) refl is.there (first_rises stepping is)
  epochs_rise (moments.StepGoesOn stepping so_far next is by within) = goes_on_rises stepping so_far next within
  epochs_rise (moments.StepIsMade stepping is by) =
      one_rises start.world.hosts (hosts_in_step stepping start.world (last_in_step stepping)) stepping.n stepping.host
      (host_with_node stepping.host (last_in_step stepping).node) refl is.there (step_rises stepping is)
  epochs_rise {before} {after} (moments.LossIsUntold event made happened h) =
      same_rise before.world.hosts after.world.hosts (ap (λ (m : EventOutcome). m.world.hosts) (sym h.made_so))
  epochs_rise {before} {after} (moments.DeliveryIsUnread event made happened h) =
      same_rise before.world.hosts after.world.hosts (ap (λ (m : EventOutcome). m.world.hosts) (sym h.made_so))
  epochs_rise {before} {after} (moments.NodeIsLost event made happened h) =
      one_rises before.world.hosts after.world.hosts h.n h.host (lost_host h.host)
      (ap (λ (m : EventOutcome). m.world.hosts) (sym h.made_so)) h.there
      (no_earlier h.host.node.peer.epoch)
  epochs_rise {before} {after} (moments.NodeLeaves event made happened h) =
      same_rise before.world.hosts after.world.hosts (ap (λ (m : EventOutcome). m.world.hosts) (sym h.made_so))
  epochs_rise {before} {after} (moments.NodeIsReweighted event made happened h) =
      same_rise before.world.hosts after.world.hosts (ap (λ (m : EventOutcome). m.world.hosts) (sym h.made_so))
  epochs_rise {before} {after} (moments.NodeJoins event made happened h) =
      one_joins before.world.hosts after.world.hosts h.n (joined_host script h.n) (ap (λ (m : EventOutcome). m.world.hosts) (sym h.made_so))
      (next_fits script start.world (lines.Join h.n) h.control (together script range start.world began).fit).1
  epochs_rise {before} {after} (moments.NodeComesBack event made happened h) =
      let join = join_of script h.n (last_weight start.world.log h.n) in
      let log = log_after_return script h.n start.world in
      let now = host_after_return log h.host in
      let front = all_read script start.world began h.n h.host h.there in
      let longer : log ≡ h.host.node.peer.entries ++ (front.rest ++ join ∷ [])
      = ap (λ (entries : List Entry). entries ++ join ∷ []) front.is ∙ append_assoc h.host.node.peer.entries front.rest (join ∷ []) in
      one_rises before.world.hosts after.world.hosts h.n h.host now (ap (λ (m : EventOutcome). m.world.hosts) (sym h.made_so)) h.there
      (rises_by_reading h.host.node now.node (front.rest ++ join ∷ [])
      (by_the_log script range.is_script range.room start.world began h.n h.host h.there)
      (by_the_log script range.is_script range.room made.world (goes_on script event start.world made began happened) h.n now
      (ap (λ (m : EventOutcome). tree.get m.world.hosts h.n) (sym h.made_so) ∙ get-insert_same start.world.hosts h.n now))
      (step_reads (inputs.Back log) h.host.node ∙ longer))
  epochs_rise {before} {after} (moments.PhaseEnds event made happened h) =
      same_rise before.world.hosts after.world.hosts (ap (λ (m : EventOutcome). m.world.hosts) (sym h.made_so))
