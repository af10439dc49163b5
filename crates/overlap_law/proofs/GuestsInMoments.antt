-- Over a change of a moment a node keeps its gateway and its sessions, or has none; or it goes on in its step. And the attempts are as
-- they were then, but for their fates.
use Rattle.std.proofs.Common.{◌≡◌, ◌≢◌, ◌⊎◌, inl, inr, ⊎_elim, ℕ, false, List, Some, slice_get, refl, sym, ap, subst, ◌∙◌}
use Rattle.std.specs.FinMap as tree
use Rattle.proof_tools.proofs.FiniteMaps.{get-insert_cases}
use Rattle.object_id.specs.declared.entry.Entry.{Entry}
use Rattle.cluster_script.specs.declared.statement.Statement.{Statement}
use Rattle.sheep_node.specs.declared.event.Event.{Event}
use Rattle.sheep_node.specs.declared.input.Input.TheVariants as inputs
use Rattle.sheep_node.specs.State.{Node}
use Rattle.sheep_node.specs.StepState.{StepState, at_first, with_node}
use Rattle.sheep_node.specs.LogReading.{on_back}
use Rattle.sheep_node.specs.Step.{on_input}
use Rattle.sheep_node.specs.Step.{node_step}
use Rattle.sheep_node.specs.Changes.{input_received}
use Rattle.sheep_world.specs.World.{Host}
use Rattle.sheep_world.specs.Step.{EventOutcome}
use Rattle.sheep_world.specs.MembershipChanges.{lost_host}
use Rattle.sheep_world.specs.NodeCauses.{NodeCause}
use Rattle.sheep_world.specs.NodeCauses.{input_of_cause, host_with_node}
use Rattle.sheep_world.specs.EventKinds.{log_after_return}
use Rattle.sheep_world.specs.HostChanges.{host_after_return, joined_host}
use Rattle.overlap_law.specs.Attempts.{AttemptRecord}
use Rattle.overlap_law.specs.BegunAttempts.{attempts_after}
use Rattle.overlap_law.specs.Reached.{Hosts}
use Rattle.overlap_law.specs.Past.{MomentWithPast, moment_after, past_after_event}
use Rattle.overlap_law.specs.StepMoments.{SteppingNode, IsStepping, StepsByChanges, StepsAtOnce, first_in_step, last_in_step, IsWithinStep}
use Rattle.overlap_law.specs.StepMoments.{moment_in_step, attempts_with_loss, attempts_at_cause}
use Rattle.overlap_law.specs.MomentChanges as moments
use Rattle.overlap_law.specs.MomentChanges.{MomentChange}
use Rattle.overlap_law.proofs.ClosedToAsks.{received_alike, due_alike, made_alike}
use Rattle.overlap_law.proofs.AttemptsInSteps.{attempts-at_first, attempts-at_end}
use Rattle.overlap_law.proofs.AttemptsOfEvents.{attempts-of_untold_loss, attempts-of_unread_delivery, attempts-of_loss, attempts-of_leave}
use Rattle.overlap_law.proofs.AttemptsOfEvents.{attempts-of_reweight, attempts-of_join, attempts-of_return, attempts-of_phase_end}
use Rattle.overlap_law.proofs.KnownFatesLater.{WasMarked, as_it_was, lost_was, caused_was}
use Rattle.overlap_law.proofs.NewAttempts.{WasAttempt}
use Rattle.overlap_law.proofs.OpenInMoments.{received_gateway, made_gateway}

-- ---- what leaves the sessions and the requests as they are

-- a node's sessions and requests are another's
abbrev HaveGuestsOf : Node → Node → Type 0
HaveGuestsOf node now = (now.sessions ≡ node.sessions) × (now.requests ≡ node.requests)

abbrev LeavesGuests : Node → StepState → Type 0
LeavesGuests node so_far = HaveGuestsOf node so_far.node

pub received_guests : (cause : NodeCause) (node : Node) → StepsByChanges cause
    → LeavesGuests node (input_received (input_of_cause cause) (at_first node))
received_guests cause node by = let alike = received_alike cause node by in (alike.2, alike.1)

pub made_guests : (cause : NodeCause) (node : Node) → StepsAtOnce cause → LeavesGuests node (node_step (input_of_cause cause) node)
made_guests cause node by = let alike = made_alike cause node by in (alike.2, alike.1)

-- a node that comes back has none
back_none : (entries : List Entry) (node : Node)
    → ((on_back entries node).sessions ≡ tree.empty) × ((on_back entries node).requests ≡ tree.empty)
unfolding on_back
back_none entries node = (refl, refl)

pub returned_none : (entries : List Entry) (node : Node) → ((node_step (inputs.Back entries) node).node.sessions ≡ tree.empty)
    × ((node_step (inputs.Back entries) node).node.requests ≡ tree.empty)
unfolding node_step on_input
returned_none entries node =
    let back : StepState = with_node (on_back entries node) (at_first node) in
    let none = back_none entries node in
    let same = due_alike back.node back (refl, refl, refl) in
    (same.2 ∙ none.0, same.1 ∙ none.1)

-- ---- the sessions of a host after a change

-- how the sessions of a host came to be as they are
pub data GuestsChange (before : MomentWithPast) (n : ℕ) (host : Host) : Type 0 where
  GuestsStay : (was : Host) → tree.get before.world.hosts n ≡ Some was → (host.is_lost ≡ false → was.is_lost ≡ false)
      → host.node.gateway ≡ was.node.gateway → host.node.sessions ≡ was.node.sessions → host.node.requests ≡ was.node.requests
      → GuestsChange before n host
  GuestsAreNone : host.node.sessions ≡ tree.empty → host.node.requests ≡ tree.empty → GuestsChange before n host

abbrev pub AllGuestsChange : MomentWithPast → MomentWithPast → Type 0
AllGuestsChange before after = (n : ℕ) (host : Host) → tree.get after.world.hosts n ≡ Some host → GuestsChange before n host

-- each attempt was there, but for its fates
abbrev pub AttemptsWere : MomentWithPast → MomentWithPast → Type 0
AttemptsWere before after = (j : ℕ) (now : AttemptRecord) → slice_get after.past.attempts j ≡ Some now → WasAttempt before j now

-- a node goes on in its step
pub record IsGoingOn (script : List Statement) (start before after : MomentWithPast) : Type 0 where
  pub stepping : SteppingNode
  pub so_far : StepState
  pub next : StepState
  pub is : IsStepping script start.world stepping
  pub by : StepsByChanges stepping.cause
  pub within : IsWithinStep stepping so_far next
  pub before_so : before ≡ moment_in_step script stepping start so_far
  pub after_so : after ≡ moment_in_step script stepping start next

-- one host is another
pub one_guests : (before after : MomentWithPast) (k : ℕ) (new : Host) → after.world.hosts ≡ tree.insert before.world.hosts k new
    → GuestsChange before k new → AllGuestsChange before after
one_guests before after k new is change n host there = ⊎_elim
    (λ (own : (n ≡ k) × (new ≡ host)).
    subst (λ (q : ℕ). GuestsChange before q host) (sym own.0) (subst (GuestsChange before k) own.1 change))
    (λ (other : (n ≢ k) × (tree.get before.world.hosts n ≡ Some host)). GuestsStay host other.1 (λ up. up) refl refl refl)
    (get-insert_cases before.world.hosts k new n host (ap (λ (held : Hosts). tree.get held n) (sym is) ∙ there))

pub same_guests : (before after : MomentWithPast) → after.world.hosts ≡ before.world.hosts → AllGuestsChange before after
same_guests before after same n host there =
    GuestsStay host (ap (λ (held : Hosts). tree.get held n) (sym same) ∙ there) (λ up. up) refl refl refl

-- ---- each change

marked_were : (before after : MomentWithPast) (attempts : List AttemptRecord) → after.past.attempts ≡ attempts
    → ((j : ℕ) (now : AttemptRecord) → slice_get attempts j ≡ Some now → WasMarked before.past.attempts j now) → AttemptsWere before after
marked_were before after attempts same marked j now got =
    let w = marked j now (ap (λ (list : List AttemptRecord). slice_get list j) (sym same) ∙ got) in
    record { was = w.was; at = w.at; fates = w.fates; same = w.same }

event_attempts : (script : List Statement) (start : MomentWithPast) (event : Event) (made : EventOutcome) (attempts : List AttemptRecord)
    → attempts_after script event start.world made.world start.past.attempts ≡ attempts
    → (moment_after script event start made).past.attempts ≡ attempts
unfolding past_after_event
event_attempts script start event made attempts so = so

abbrev pub IsBetween : MomentWithPast → MomentWithPast → Type 0
IsBetween before after = AllGuestsChange before after × AttemptsWere before after

module _ (script : List Statement) (start : MomentWithPast) where
  still : (event : Event) (made : EventOutcome)
      → attempts_after script event start.world made.world start.past.attempts ≡ start.past.attempts
      → AttemptsWere start (moment_after script event start made)
  still event made so =
      marked_were start (moment_after script event start made) start.past.attempts
      (event_attempts script start event made start.past.attempts so)
      (as_it_was start.past.attempts)

  pub between : {before after : MomentWithPast} → MomentChange script start before after
      → IsGoingOn script start before after ⊎ IsBetween before after
  between (moments.StepBegins stepping is by) =
      let after = moment_in_step script stepping start (first_in_step stepping) in
      inr (
        one_guests start after stepping.n (host_with_node stepping.host (first_in_step stepping).node) refl
            (GuestsStay stepping.host is.there (λ up. up) (received_gateway stepping.cause stepping.host.node by)
            (received_guests stepping.cause stepping.host.node by).0 (received_guests stepping.cause stepping.host.node by).1),
        marked_were start after (attempts_at_cause stepping.host.node stepping.cause start.past.attempts)
            (attempts-at_first script start stepping is by) (caused_was stepping.host.node stepping.cause start.past.attempts),
      )
  between (moments.StepGoesOn stepping so_far next is by within) = inl (record {
    stepping = stepping;
    so_far = so_far;
    next = next;
    is = is;
    by = by;
    within = within;
    before_so = refl;
    after_so = refl;
  })
  between (moments.StepIsMade stepping is by) =
      let after = moment_in_step script stepping start (last_in_step stepping) in
      inr (
        one_guests start after stepping.n (host_with_node stepping.host (last_in_step stepping).node) refl
            (GuestsStay stepping.host is.there (λ up. up) (made_gateway stepping.cause stepping.host.node by)
            (made_guests stepping.cause stepping.host.node by).0 (made_guests stepping.cause stepping.host.node by).1),
        marked_were start after (attempts_at_cause stepping.host.node stepping.cause start.past.attempts)
            (attempts-at_end script start stepping is by) (caused_was stepping.host.node stepping.cause start.past.attempts),
      )
  between {before} {after} (moments.LossIsUntold event made happened h) = inr (
    same_guests before after (ap (λ (m : EventOutcome). m.world.hosts) (sym h.made_so)),
    marked_were before after (attempts_with_loss h.name h.packet start.past.attempts)
        (event_attempts script start event made (attempts_with_loss h.name h.packet start.past.attempts)
        (attempts-of_untold_loss script event start.world made start.past.attempts h)) (lost_was h.name h.packet start.past.attempts),
  )
  between {before} {after} (moments.DeliveryIsUnread event made happened h) = inr (
    same_guests before after (ap (λ (m : EventOutcome). m.world.hosts) (sym h.made_so)),
    still event made (attempts-of_unread_delivery script event start.world made start.past.attempts h),
  )
  between {before} {after} (moments.NodeIsLost event made happened h) = inr (
    one_guests before after h.n (lost_host h.host) (ap (λ (m : EventOutcome). m.world.hosts) (sym h.made_so))
        (GuestsStay h.host h.there (λ up. absurd (cc (up))) refl refl refl),
    still event made (attempts-of_loss script event start.world made start.past.attempts h),
  )
  between {before} {after} (moments.NodeLeaves event made happened h) = inr (
    same_guests before after (ap (λ (m : EventOutcome). m.world.hosts) (sym h.made_so)),
    still event made (attempts-of_leave script event start.world made start.past.attempts h),
  )
  between {before} {after} (moments.NodeIsReweighted event made happened h) = inr (
    same_guests before after (ap (λ (m : EventOutcome). m.world.hosts) (sym h.made_so)),
    still event made (attempts-of_reweight script event start.world made start.past.attempts h),
  )
  between {before} {after} (moments.NodeJoins event made happened h) = inr (
    one_guests before after h.n (joined_host script h.n) (ap (λ (m : EventOutcome). m.world.hosts) (sym h.made_so))
        (GuestsAreNone refl refl),
    still event made (attempts-of_join script event start.world made start.past.attempts h),
  )
  between {before} {after} (moments.NodeComesBack event made happened h) =
      let log = log_after_return script h.n start.world in
      inr (
        one_guests before after h.n (host_after_return log h.host) (ap (λ (m : EventOutcome). m.world.hosts) (sym h.made_so))
            (GuestsAreNone (returned_none log h.host.node).0 (returned_none log h.host.node).1),
        still event made (attempts-of_return script event start.world made start.past.attempts h),
      )
  between {before} {after} (moments.PhaseEnds event made happened h) = inr (
    same_guests before after (ap (λ (m : EventOutcome). m.world.hosts) (sym h.made_so)),
    still event made (attempts-of_phase_end script event start.world made start.past.attempts h),
  )
