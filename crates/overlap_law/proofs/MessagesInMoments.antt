-- Each open create or write has a message: when a script opens, after each change of a moment, and so in every run in range.
use Rattle.std.proofs.Common.{◌≡◌, ◌≢◌, ⊎_elim, arith, ℕ, true, false, not, List, length, Option, Some, None, refl, sym, ap, subst, ◌∙◌}
use Rattle.std.specs.FinMap as tree
use Rattle.std.proofs.lemmas.Bool.{and_parts, not-true}
use Rattle.proof_tools.proofs.FiniteMaps.{get-insert_same, get-insert_cases, insert-insert}
use Rattle.cluster_script.specs.declared.statement.Statement.{Statement}
use Rattle.gateway.specs.State.{Work, Gateway}
use Rattle.sheep_node.specs.declared.course.Request.{Request}
use Rattle.sheep_node.specs.OneWork.{may_work_at}
use Rattle.sheep_node.specs.StepState.{StepState, at_first}
use Rattle.sheep_node.specs.May.{has_numbers}
use Rattle.sheep_node.specs.ValidDisks.{WorkHasPolicy, IsValidInput, HasValidDisks}
use Rattle.sheep_node.specs.Changes as changes
use Rattle.sheep_node.specs.Changes.{input_received, Leads}
use Rattle.sheep_node.proofs.NumberChanges.{both_in_chain}
use Rattle.sheep_node.proofs.ValidChanges.{chain_valid}
use Rattle.sheep_node.proofs.ValidLaws.{headers_are_valid, received_valid}
use Rattle.epoch_log.specs.Appending.{IsReservable}
use Rattle.sheep_world.specs.World.{Host, World, is_host_up}
use Rattle.sheep_world.specs.Opening.{initial_world}
use Rattle.sheep_world.specs.Step.{EventOutcome}
use Rattle.sheep_world.specs.MembershipChanges.{lost_host}
use Rattle.sheep_world.specs.NodeCauses.{NodeCause, GuestAsks, RequestComes, ReplyComes, LossIsTold, EntryIsRead, EntryIsPut, RecoveryTicks}
use Rattle.sheep_world.specs.NodeCauses.{WorkIsRetried, ClientAsks, input_of_cause, IsCause, host_with_node}
use Rattle.sheep_world.specs.EventKinds.{log_after_return}
use Rattle.sheep_world.specs.HostChanges.{host_after_return, joined_host}
use Rattle.sheep_world.specs.Began.{Began}
use Rattle.sheep_world.proofs.LogAtOpening.{log-holds, nodes-valid}
use Rattle.sheep_world.proofs.ReturningNodes.{stepped_renewed}
use Rattle.sheep_world.proofs.TogetherInRuns.{opening-together}
use Rattle.sheep_world.proofs.ValidNodes.{got_is, log_reservable, read_valid}
use Rattle.sheep_world.proofs.WireAtOpening.{opening_found}
use Rattle.sheep_world.specs.RunsWithAsks.{Move}
use Rattle.overlap_law.specs.Reached.{Hosts}
use Rattle.overlap_law.specs.Past.{MomentWithPast, first_moment, run_with_past}
use Rattle.overlap_law.specs.StepMoments.{SteppingNode, IsStepping, first_in_step, last_in_step, IsWithinStep, hosts_in_step}
use Rattle.overlap_law.specs.StepMoments.{moment_in_step}
use Rattle.overlap_law.specs.MomentChanges as moments
use Rattle.overlap_law.specs.MomentChanges.{MomentChange, RunsAreInRange, KeptByChanges}
use Rattle.overlap_law.specs.Traffic.{OpenAttemptsHaveMessages}
use Rattle.overlap_law.proofs.GuestsOfScript.{guest_asks, guest_valid}
use Rattle.overlap_law.proofs.KnownSteps.{known_step}
use Rattle.overlap_law.proofs.MessagesOfOpenWorks.{WorksHaveMessages, none_have, change_have}
use Rattle.overlap_law.proofs.OpenInMoments.{received_gateway, made_gateway}
use Rattle.overlap_law.proofs.RunsByChanges.{run-kept}
use Rattle.overlap_law.proofs.UnansweredRequests.{first_empty}

-- where one host is another
one_has : (old now : Hosts) (k : ℕ) (new : Host) → now ≡ tree.insert old k new
    → (new.is_lost ≡ false → WorksHaveMessages new.node.gateway.works) → OpenAttemptsHaveMessages old → OpenAttemptsHaveMessages now
one_has old now k new hosts own have = record {
  each = λ n host there up. ⊎_elim
      (λ (here : (n ≡ k) × (new ≡ host)).
      subst (λ (h : Host). WorksHaveMessages h.node.gateway.works) here.1 (own (ap (λ (h : Host). h.is_lost) here.1 ∙ up)))
      (λ (other : (n ≢ k) × (tree.get old n ≡ Some host)). have.each n host other.1 up)
      (get-insert_cases old k new n host (ap (λ (held : Hosts). tree.get held n) (sym hosts) ∙ there));
}

same_have : (old now : Hosts) → now ≡ old → OpenAttemptsHaveMessages old → OpenAttemptsHaveMessages now
same_have old now same have = subst OpenAttemptsHaveMessages (sym same) have

-- ---- when a script opens no node has a request yet, nor a work

module _ (script : List Statement) where
  no_request : (n : ℕ) (host : Host) → tree.get (initial_world script).hosts n ≡ Some host → (req : ℕ) (o : Option Request)
      → tree.get host.node.requests req ≡ o
      → may_work_at o ≡ true → ⊥
  unfolding initial_world
  no_request n host there req None got may = absurd (cc (may))
  no_request n host there req (Some request) got may =
      let (member, own, is) = opening_found script n host there in
      (first_empty script member.node).asked req request (ap (λ (h : Host). tree.get h.node.requests req) is ∙ got)

  -- a script opens without works
  pub no_works : (n : ℕ) (host : Host) → tree.get (first_moment script).world.hosts n ≡ Some host → (req : ℕ) (work : Work)
      → tree.get host.node.gateway.works req ≡ Some work → ⊥
  no_works n host there req work got =
      no_request n host there req (tree.get host.node.requests req) refl
      (((opening-together script).1 n host there).driven.open_works req work got)

  pub opening_has : OpenAttemptsHaveMessages (first_moment script).world.hosts
  opening_has = record { each = λ n host there up req work current got making stage. absurd (no_works n host there req work got) }

module _ (script : List Statement) (range : RunsAreInRange script) where
  module _ (world : World) (began : Began script world) where
    valid_for : (n : ℕ) (host : Host) → tree.get world.hosts n ≡ Some host → (cause : NodeCause) → IsCause script world n host cause
        → IsValidInput (input_of_cause cause)
    valid_for n host there (GuestAsks session req ask) asked =
        guest_valid host.node asked.line ask asked.asks (guest_asks host.node script range.is_script req asked.line ask asked.stands
        asked.asks)
    valid_for n host there (RequestComes name to request) here = tt
    valid_for n host there (ReplyComes name from rsp) here = tt
    valid_for n host there (LossIsTold name packet) here = tt
    valid_for n host there (EntryIsRead entry) next =
        got_is IsReservable world.log (length host.node.peer.entries) entry
        (log_reservable world.log (log-holds script range.is_script range.room world began).log) next
    valid_for n host there (EntryIsPut entry) first = tt
    valid_for n host there RecoveryTicks may = tt
    valid_for n host there WorkIsRetried may = tt
    valid_for n host there (ClientAsks req ask) may =
        read_valid host.node ask (nodes-valid script range.is_script range.room world began n host there) may.asks may.reads

    -- the works of a node in its step are by policies that there may be
    works_valid : (n : ℕ) (host : Host) → tree.get world.hosts n ≡ Some host → (cause : NodeCause) → IsCause script world n host cause
        → {so_far : StepState}
        → Leads (input_of_cause cause) host.node (input_received (input_of_cause cause) (at_first host.node)) so_far
        → (req : ℕ) (work : Work) → tree.get so_far.node.gateway.works req ≡ Some work → WorkHasPolicy work.work
    works_valid n host there cause caused leads =
        let valid = valid_for n host there cause caused in
        let sound : HasValidDisks host.node = nodes-valid script range.is_script range.room world began n host there in
        let first = input_received (input_of_cause cause) (at_first host.node) in
        let received = received_valid (input_of_cause cause) host.node (sound.kept, sound.to_put) in
        (chain_valid (length first.outputs.sends) (headers_are_valid (input_of_cause cause) host.node valid sound) valid leads
        (received.0, record { few = omega arith; sent = λ k d within. tt; to_put = received.1 })).0.open_works

  module _ (start : MomentWithPast) (began : Began script start.world) where
    up_here : (host : Host) → is_host_up host ≡ true → host.is_lost ≡ false
    up_here host up = not-true host.is_lost (and_parts (not host.is_lost) (has_numbers host.node) up).0

    goes_on_has : (stepping : SteppingNode) (so_far next : StepState) → IsStepping script start.world stepping
        → IsWithinStep stepping so_far next
        → OpenAttemptsHaveMessages (moment_in_step script stepping start so_far).world.hosts
        → OpenAttemptsHaveMessages (moment_in_step script stepping start next).world.hosts
    goes_on_has stepping so_far next is within have =
        let known = known_step script range start.world began stepping is in
        let was = host_with_node stepping.host so_far.node in
        let now = host_with_node stepping.host next.node in
        let good = (both_in_chain (input_of_cause stepping.cause) stepping.host.node known.sound so_far within.leads).0 in
        one_has (hosts_in_step stepping start.world so_far) (hosts_in_step stepping start.world next) stepping.n now
        (sym (insert-insert start.world.hosts stepping.n was now))
        (λ up. change_have known.sound so_far next within.change good
        (works_valid start.world began stepping.n stepping.host is.there stepping.cause is.caused (changes.Then within.leads within.change))
        (have.each stepping.n was (get-insert_same start.world.hosts stepping.n was) (up_here stepping.host is.up))) have

    pub change_has : {before after : MomentWithPast} → MomentChange script start before after → OpenAttemptsHaveMessages before.world.hosts
        → OpenAttemptsHaveMessages after.world.hosts
    change_has (moments.StepBegins stepping is by) have =
        one_has start.world.hosts (hosts_in_step stepping start.world (first_in_step stepping)) stepping.n
        (host_with_node stepping.host (first_in_step stepping).node) refl
        (λ up. subst (λ (g : Gateway). WorksHaveMessages g.works) (sym (received_gateway stepping.cause stepping.host.node by))
        (have.each stepping.n stepping.host is.there (up_here stepping.host is.up))) have
    change_has (moments.StepGoesOn stepping so_far next is by within) have = goes_on_has stepping so_far next is within have
    change_has (moments.StepIsMade stepping is by) have =
        one_has start.world.hosts (hosts_in_step stepping start.world (last_in_step stepping)) stepping.n
        (host_with_node stepping.host (last_in_step stepping).node) refl
        (λ up. subst (λ (g : Gateway). WorksHaveMessages g.works) (sym (made_gateway stepping.cause stepping.host.node by))
        (have.each stepping.n stepping.host is.there (up_here stepping.host is.up))) have
    change_has {before} {after} (moments.LossIsUntold event made happened h) have =
        same_have before.world.hosts after.world.hosts (ap (λ (m : EventOutcome). m.world.hosts) (sym h.made_so)) have
    change_has {before} {after} (moments.DeliveryIsUnread event made happened h) have =
        same_have before.world.hosts after.world.hosts (ap (λ (m : EventOutcome). m.world.hosts) (sym h.made_so)) have
    change_has {before} {after} (moments.NodeIsLost event made happened h) have =
        one_has before.world.hosts after.world.hosts h.n (lost_host h.host) (ap (λ (m : EventOutcome). m.world.hosts) (sym h.made_so))
        (λ lost. absurd (cc (lost))) have
    change_has {before} {after} (moments.NodeLeaves event made happened h) have =
        same_have before.world.hosts after.world.hosts (ap (λ (m : EventOutcome). m.world.hosts) (sym h.made_so)) have
    change_has {before} {after} (moments.NodeIsReweighted event made happened h) have =
        same_have before.world.hosts after.world.hosts (ap (λ (m : EventOutcome). m.world.hosts) (sym h.made_so)) have
    change_has {before} {after} (moments.NodeJoins event made happened h) have =
        one_has before.world.hosts after.world.hosts h.n (joined_host script h.n) (ap (λ (m : EventOutcome). m.world.hosts) (sym h.made_so))
        (λ up. none_have) have
    change_has {before} {after} (moments.NodeComesBack event made happened h) have =
        let log = log_after_return script h.n start.world in
        one_has before.world.hosts after.world.hosts h.n (host_after_return log h.host)
        (ap (λ (m : EventOutcome). m.world.hosts) (sym h.made_so))
        (λ up. subst (λ (g : Gateway). WorksHaveMessages g.works) (sym (stepped_renewed log h.host.node).node_so.gateway_so) none_have) have
    change_has {before} {after} (moments.PhaseEnds event made happened h) have =
        same_have before.world.hosts after.world.hosts (ap (λ (m : EventOutcome). m.world.hosts) (sym h.made_so)) have

  abbrev pub Have : MomentWithPast → Type 0
  Have moment = OpenAttemptsHaveMessages moment.world.hosts

  pub kept_messages : KeptByChanges script Have
  kept_messages = record { opens = opening_has script; keeps = λ start before after began change have. change_has start began change have }

  pub messages_in_run : (events : List Move) (moment : MomentWithPast) → run_with_past script events ≡ Some moment
      → OpenAttemptsHaveMessages moment.world.hosts
  messages_in_run events moment is = run-kept script Have kept_messages events moment is
