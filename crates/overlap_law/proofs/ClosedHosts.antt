-- A host that is up after a change of a moment was up before, with a node that is asked for the same, or its node goes on in its step, or
-- it is a new one: its node joins, or comes back. What is shown of each such host goes by these cases.
use Rattle.std.proofs.Common.{◌≡◌, ◌≢◌, ⊎_elim, arith, ℕ, ◌<◌, ◌+◌, false, List, Some, None, refl, sym, ap, subst, ◌∙◌}
use Rattle.std.specs.Ordering.{nat_cmp}
use Rattle.std.specs.FinMap as tree
use Rattle.std.proofs.lemmas.Option.{same_Some}
use Rattle.proof_tools.proofs.FiniteMaps.{get-insert_same, get-insert_cases, insert-insert}
use Rattle.cluster_script.specs.declared.statement.Statement.{Statement}
use Rattle.cluster_script.specs.declared.statement.Statement.TheVariants as lines
use Rattle.gateway.specs.State.{Work, Gateway}
use Rattle.sheep_node.specs.declared.course.Request.{Request}
use Rattle.sheep_node.specs.StepState.{StepState}
use Rattle.sheep_node.proofs.AwaitedWorks.{Works}
use Rattle.sheep_node.proofs.StepResults.{me_received, step_me}
use Rattle.sheep_world.specs.World.{Host, next_control}
use Rattle.sheep_world.specs.Step.{EventOutcome}
use Rattle.sheep_world.specs.MembershipChanges.{lost_host}
use Rattle.sheep_world.specs.NodeCauses.{input_of_cause, host_with_node}
use Rattle.sheep_world.specs.EventKinds.{log_after_return}
use Rattle.sheep_world.specs.HostChanges.{host_after_return, joined_host}
use Rattle.sheep_world.specs.Began.{Began}
use Rattle.sheep_world.proofs.ControlLaws.{next_fits}
use Rattle.sheep_world.proofs.ReturningNodes.{stepped_renewed}
use Rattle.overlap_law.specs.Reached.{Hosts}
use Rattle.overlap_law.specs.Past.{MomentWithPast}
use Rattle.overlap_law.specs.StepMoments.{SteppingNode, IsStepping, StepsByChanges, IsWithinStep, first_in_step, last_in_step}
use Rattle.overlap_law.specs.StepMoments.{moment_in_step}
use Rattle.overlap_law.specs.MomentChanges as moments
use Rattle.overlap_law.specs.MomentChanges.{MomentChange, RunsAreInRange}
use Rattle.overlap_law.proofs.ClosedToAsks.{IsAskedAs, received_alike, made_alike}
use Rattle.overlap_law.proofs.HostsInMoments.{none_there}
use Rattle.overlap_law.proofs.KnownSteps.{together}
use Rattle.overlap_law.proofs.UnansweredRequests.{back_empty}

-- a host is there in a later incarnation, and has no request yet
pub record IsNewer (before : MomentWithPast) (n : ℕ) (host : Host) : Type 0 where
  pub later : (old : Host) → tree.get before.world.hosts n ≡ Some old → old.incarnation < host.incarnation
  pub none : (req : ℕ) (request : Request) → tree.get host.node.requests req ≡ Some request → ⊥

none_open : (works : Works) → works ≡ tree.empty → (req : ℕ) (work : Work) → tree.get works req ≡ Some work → ⊥
none_open works empty req work got =
    let none = ap (λ (works : Works). tree.get works req) empty ∙ tree.get-empty {X = Work} nat_cmp req in absurd (cc (got, none))

module _ (script : List Statement) (range : RunsAreInRange script) (start : MomentWithPast) (began : Began script start.world) where
  -- a node that joins, and one that comes back
  pub newer_joined : (n : ℕ) → next_control start.world ≡ Some (lines.Join n) → IsNewer start n (joined_host script n)
  newer_joined n control = record {
    later = λ old there. none_there (tree.get start.world.hosts n) old
        (next_fits script start.world (lines.Join n) control (together script range start.world began).fit).1 there;
    none = λ req request got.
        let empty : tree.get (joined_host script n).node.requests req ≡ None = tree.get-empty {X = Request} nat_cmp req in
        absurd (cc (empty, got));
  }

  pub newer_returned : (n : ℕ) (host : Host) → tree.get start.world.hosts n ≡ Some host
      → IsNewer start n (host_after_return (log_after_return script n start.world) host)
  newer_returned n host was = record {
    later = λ old there.
        let same : host.incarnation ≡ old.incarnation = ap (λ (host : Host). host.incarnation) (same_Some host old (sym was ∙ there)) in
        let rises : old.incarnation < host.incarnation + 1 = omega (arith, same) in
        rises;
    none = (back_empty script (log_after_return script n start.world) host.node).asked;
  }

  module _ (P : MomentWithPast → MomentWithPast → ℕ → Host → Type 0)
      (as_before : (before after : MomentWithPast) (n : ℕ) (old host : Host) → tree.get before.world.hosts n ≡ Some old
      → old.is_lost ≡ false → host.node.me ≡ old.node.me → IsAskedAs old.node host.node → P before after n host)
      (goes_on : (stepping : SteppingNode) (so_far next : StepState) → IsStepping script start.world stepping
      → StepsByChanges stepping.cause → IsWithinStep stepping so_far next
      → tree.get (moment_in_step script stepping start so_far).world.hosts stepping.n ≡ Some (host_with_node stepping.host so_far.node)
      → stepping.host.is_lost ≡ false
      → P (moment_in_step script stepping start so_far) (moment_in_step script stepping start next) stepping.n
      (host_with_node stepping.host next.node))
      (is_new : (before after : MomentWithPast) (n : ℕ) (host : Host) → IsNewer before n host
      → ((req : ℕ) (work : Work) → tree.get host.node.gateway.works req ≡ Some work → ⊥) → P before after n host) where
    abbrev Each : MomentWithPast → MomentWithPast → Type 0
    Each before after = (n : ℕ) (host : Host) → tree.get after.world.hosts n ≡ Some host → host.is_lost ≡ false → P before after n host

    same_hosts : (before after : MomentWithPast) → after.world.hosts ≡ before.world.hosts → Each before after
    same_hosts before after same n host there up =
        as_before before after n host host (ap (λ (held : Hosts). tree.get held n) (sym same) ∙ there) up refl (refl, refl, refl)

    one_host : (before after : MomentWithPast) (k : ℕ) (new : Host) → after.world.hosts ≡ tree.insert before.world.hosts k new
        → (new.is_lost ≡ false → P before after k new) → Each before after
    one_host before after k new hosts own n host there up = ⊎_elim
        (λ (here : (n ≡ k) × (new ≡ host)).
        subst (λ (q : ℕ). P before after q host) (sym here.0)
        (subst (λ (h : Host). P before after k h) here.1 (own (ap (λ (h : Host). h.is_lost) here.1 ∙ up))))
        (λ (other : (n ≢ k) × (tree.get before.world.hosts n ≡ Some host)).
        as_before before after n host host other.1 up refl (refl, refl, refl))
        (get-insert_cases before.world.hosts k new n host (ap (λ (held : Hosts). tree.get held n) (sym hosts) ∙ there))

    pub each_host : {before after : MomentWithPast} → MomentChange script start before after → (n : ℕ) (host : Host)
        → tree.get after.world.hosts n ≡ Some host → host.is_lost ≡ false → P before after n host
    each_host (moments.StepBegins stepping is by) =
        let now = host_with_node stepping.host (first_in_step stepping).node in
        let after = moment_in_step script stepping start (first_in_step stepping) in
        one_host start after stepping.n now refl
        (λ up. as_before start after stepping.n stepping.host now is.there up
        (me_received (input_of_cause stepping.cause) stepping.host.node) (received_alike stepping.cause stepping.host.node by))
    each_host (moments.StepGoesOn stepping so_far next is by within) =
        let was = host_with_node stepping.host so_far.node in
        let now = host_with_node stepping.host next.node in
        one_host (moment_in_step script stepping start so_far) (moment_in_step script stepping start next) stepping.n now
        (sym (insert-insert start.world.hosts stepping.n was now)) (λ up. goes_on stepping so_far next is by within
        (get-insert_same start.world.hosts stepping.n was) up)
    each_host (moments.StepIsMade stepping is by) =
        let now = host_with_node stepping.host (last_in_step stepping).node in
        let after = moment_in_step script stepping start (last_in_step stepping) in
        one_host start after stepping.n now refl
        (λ up. as_before start after stepping.n stepping.host now is.there up
        (step_me (input_of_cause stepping.cause) stepping.host.node) (made_alike stepping.cause stepping.host.node by))
    each_host {before} {after} (moments.LossIsUntold event made happened h) =
        same_hosts before after (ap (λ (m : EventOutcome). m.world.hosts) (sym h.made_so))
    each_host {before} {after} (moments.DeliveryIsUnread event made happened h) =
        same_hosts before after (ap (λ (m : EventOutcome). m.world.hosts) (sym h.made_so))
    each_host {before} {after} (moments.NodeIsLost event made happened h) =
        one_host before after h.n (lost_host h.host) (ap (λ (m : EventOutcome). m.world.hosts) (sym h.made_so)) (λ up. absurd (cc (up)))
    each_host {before} {after} (moments.NodeLeaves event made happened h) =
        same_hosts before after (ap (λ (m : EventOutcome). m.world.hosts) (sym h.made_so))
    each_host {before} {after} (moments.NodeIsReweighted event made happened h) =
        same_hosts before after (ap (λ (m : EventOutcome). m.world.hosts) (sym h.made_so))
    each_host {before} {after} (moments.NodeJoins event made happened h) =
        let new = joined_host script h.n in
        one_host before after h.n new (ap (λ (m : EventOutcome). m.world.hosts) (sym h.made_so))
        (λ up. is_new before after h.n new (newer_joined h.n h.control) (none_open new.node.gateway.works refl))
    each_host {before} {after} (moments.NodeComesBack event made happened h) =
        let log = log_after_return script h.n start.world in
        let new = host_after_return log h.host in
        one_host before after h.n new (ap (λ (m : EventOutcome). m.world.hosts) (sym h.made_so))
        (λ up. is_new before after h.n new (newer_returned h.n h.host h.there)
        (none_open new.node.gateway.works (ap (λ (g : Gateway). g.works) (stepped_renewed log h.host.node).node_so.gateway_so)))
    each_host {before} {after} (moments.PhaseEnds event made happened h) =
        same_hosts before after (ap (λ (m : EventOutcome). m.world.hosts) (sym h.made_so))
