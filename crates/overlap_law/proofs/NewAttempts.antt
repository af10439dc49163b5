-- The attempts after a change of a moment: each was there before, but for its fates, or is one that a node has just opened in its step.
use Rattle.std.proofs.Common.{◌≡◌, ◌⊎◌, inl, inr, ⊎_elim, ℕ, ◌&&◌, Bool, true, false, cond, List, [], ◌++◌, length, Option, Some, None}
use Rattle.std.proofs.Common.{option_map, slice_get, refl, sym, ap, subst, ◌∙◌, append-nil}
use Rattle.std.specs.Option.{option_to_list}
use Rattle.std.specs.FinMap as tree
use Rattle.std.proofs.lemmas.Option.{same_Some}
use Rattle.object_id.specs.declared.node.NodeId.{NodeId}
use Rattle.cluster_script.specs.declared.statement.Statement.{Statement}
use Rattle.peer_service.specs.Serve.{reply_to}
use Rattle.message_wire.specs.declared.packet.Packet.{Packet}
use Rattle.message_wire.specs.declared.packet.Packet.TheVariants.{Request, Reply}
use Rattle.message_wire.specs.declared.name.MessageName.{MessageName}
use Rattle.proof_tools.proofs.FiniteMaps.{get-insert_same}
use Rattle.gateway.specs.Work.{is_making}
use Rattle.gateway.specs.State.{Work, Open}
use Rattle.sheep_node.specs.declared.course.Request as courses
use Rattle.sheep_node.specs.declared.event.Event.{Event}
use Rattle.sheep_node.specs.State.{Node}
use Rattle.sheep_node.specs.StepState.{StepState}
use Rattle.sheep_node.specs.Changes as changes
use Rattle.sheep_node.specs.Changes.{attempt_in, has_too_few_zones, WorkIsNext}
use Rattle.sheep_world.specs.Step.{EventOutcome}
use Rattle.sheep_world.specs.Began.{Began}
use Rattle.sheep_world.specs.NodeCauses.{NodeCause, GuestAsks, RequestComes, ReplyComes, LossIsTold, EntryIsRead, EntryIsPut, RecoveryTicks}
use Rattle.sheep_world.specs.NodeCauses.{WorkIsRetried, ClientAsks, input_of_cause, host_with_node}
use Rattle.overlap_law.specs.Attempts.{AttemptRecord, MessageFate, Doomed, attempts_with_fate, fate_of_say, is_first, beginning}
use Rattle.overlap_law.specs.Attempts.{beginning_with}
use Rattle.overlap_law.specs.BegunAttempts.{attempts_after}
use Rattle.overlap_law.specs.Past.{MomentWithPast, past_after_event, moment_after}
use Rattle.overlap_law.specs.StepMoments.{SteppingNode, IsStepping, StepsByChanges, first_in_step, last_in_step, LeadsInStep}
use Rattle.overlap_law.specs.StepMoments.{moment_in_step, attempts_with_loss, attempts_at_cause, attempts_of_change}
use Rattle.overlap_law.specs.MomentChanges as moments
use Rattle.overlap_law.specs.MomentChanges.{MomentChange, RunsAreInRange}
use Rattle.overlap_law.proofs.AttemptLists.{got_more, got_marked, fates_told}
use Rattle.overlap_law.proofs.AttemptsInSteps.{attempts-at_first, attempts-at_end, attempts-grow}
use Rattle.overlap_law.proofs.AttemptsOfEvents.{attempts-of_untold_loss, attempts-of_unread_delivery, attempts-of_loss, attempts-of_leave}
use Rattle.overlap_law.proofs.AttemptsOfEvents.{attempts-of_reweight, attempts-of_join, attempts-of_return, attempts-of_phase_end}
use Rattle.overlap_law.proofs.KnownSteps.{known_step}

-- an attempt that a node has opened in its step
pub record IsOpened (script : List Statement) (start after : MomentWithPast) (new : AttemptRecord) : Type 0 where
  pub stepping : SteppingNode
  pub is : IsStepping script start.world stepping
  pub by : StepsByChanges stepping.cause
  pub so_far : StepState
  pub leads : LeadsInStep stepping (first_in_step stepping) so_far
  pub session : ℕ
  pub req : ℕ
  pub asked : Work
  pub lined : StepState
  pub comes : WorkIsNext (input_of_cause stepping.cause) stepping.host.node so_far session req asked lined
  pub enough : has_too_few_zones asked lined.node ≡ false
  pub next : StepState
  pub moment_so : after ≡ moment_in_step script stepping start next
  pub making : is_making asked.work ≡ true
  pub request : courses.Request
  pub there : tree.get lined.node.requests req ≡ Some request
  pub at_gateway : tree.get next.node.gateway.works req ≡ Some (record asked { stage = Open (attempt_in asked lined.node) })
  pub requests_so : next.node.requests ≡ lined.node.requests
  pub me_so : next.node.me ≡ lined.node.me
  pub epoch_so : next.node.peer.epoch ≡ lined.node.peer.epoch
  pub opened : beginning (host_with_node stepping.host lined.node) lined.node.sends req asked.work (attempt_in asked lined.node) request
      ≡ new

-- an attempt that was there, but for its fates
pub record WasAttempt (before : MomentWithPast) (j : ℕ) (now : AttemptRecord) : Type 0 where
  pub was : AttemptRecord
  pub at : slice_get before.past.attempts j ≡ Some was
  pub fates : List MessageFate
  pub same : record was { fates = fates } ≡ now

-- an attempt that a node has opened by this change of its step
pub record IsOpenedNow (script : List Statement) (start before after : MomentWithPast) (j : ℕ) (new : AttemptRecord) : Type 0 where
  pub opened : IsOpened script start after new
  pub before_so : before ≡ moment_in_step script opened.stepping start opened.so_far
  pub last : j ≡ length before.past.attempts

-- each attempt comes from there
abbrev pub ComeFrom : List Statement → MomentWithPast → MomentWithPast → MomentWithPast → Type 0
ComeFrom script start before after = (j : ℕ) (now : AttemptRecord) → slice_get after.past.attempts j ≡ Some now
    → WasAttempt before j now ⊎ IsOpenedNow script start before after j now

module _ (script : List Statement) (start before after : MomentWithPast) where
  same_attempts : after.past.attempts ≡ before.past.attempts → ComeFrom script start before after
  same_attempts same j now got =
      inl (record { was = now; at = ap (λ (all : List AttemptRecord). slice_get all j) (sym same) ∙ got; fates = now.fates; same = refl })

  marked_attempts : (told : MessageFate) (sender : NodeId) (number : ℕ)
      → after.past.attempts ≡ attempts_with_fate told sender number before.past.attempts
      → ComeFrom script start before after
  marked_attempts told sender number same j now got =
      let (was, at, is) = got_marked told sender number before.past.attempts j now
      (ap (λ (all : List AttemptRecord). slice_get all j) (sym same) ∙ got) in
      inl (record { was = was; at = at; fates = fates_told told sender number was; same = is })

  lost_attempts : (name : MessageName) (packet : Packet) → after.past.attempts ≡ attempts_with_loss name packet before.past.attempts
      → ComeFrom script start before after
  lost_attempts name (Request to bytes) same = marked_attempts Doomed name.sender name.number same
  lost_attempts name (Reply from bytes) same = same_attempts same

  caused_attempts : (node : Node) (cause : NodeCause) → after.past.attempts ≡ attempts_at_cause node cause before.past.attempts
      → ComeFrom script start before after
  caused_attempts node (GuestAsks session req ask) same = same_attempts same
  caused_attempts node (RequestComes name to request) same =
      marked_attempts (fate_of_say (reply_to node.peer request).say) name.sender name.number same
  caused_attempts node (ReplyComes name from rsp) same = same_attempts same
  caused_attempts node (LossIsTold name packet) same = lost_attempts name packet same
  caused_attempts node (EntryIsRead entry) same = same_attempts same
  caused_attempts node (EntryIsPut entry) same = same_attempts same
  caused_attempts node RecoveryTicks same = same_attempts same
  caused_attempts node WorkIsRetried same = same_attempts same
  caused_attempts node (ClientAsks req ask) same = same_attempts same

  more_attempts : (o : Option AttemptRecord) → after.past.attempts ≡ before.past.attempts ++ option_to_list o
      → ((new : AttemptRecord) → o ≡ Some new → IsOpenedNow script start before after (length before.past.attempts) new)
      → ComeFrom script start before after
  more_attempts None same opened j now got = same_attempts (same ∙ append-nil before.past.attempts) j now got
  more_attempts (Some new) same opened j now got = ⊎_elim
      (λ (old : slice_get before.past.attempts j ≡ Some now). inl (record { was = now; at = old; fates = now.fates; same = refl }))
      (λ (own : (j ≡ length before.past.attempts) × (new ≡ now)).
      inr (subst (λ (k : ℕ). IsOpenedNow script start before after k now) (sym own.0)
      (subst (IsOpenedNow script start before after (length before.past.attempts)) own.1 (opened new refl))))
      (got_more before.past.attempts new j now (ap (λ (all : List AttemptRecord). slice_get all j) (sym same) ∙ got))

-- what begins is an attempt to create or write, of a request that is there
begun_is : (making first : Bool) (o : Option courses.Request) (make : courses.Request → AttemptRecord) (new : AttemptRecord)
    → cond (making && first) (option_map make o) None ≡ Some new
    → (making ≡ true) × (request : courses.Request) × (o ≡ Some request) × (make request ≡ new)
begun_is true true None make new is = absurd (cc (is))
begun_is true true (Some request) make new is = (refl, request, refl, same_Some (make request) new is)
begun_is true false o make new is = absurd (cc (is))
begun_is false first o make new is = absurd (cc (is))

-- ---- every change

module _ (script : List Statement) (range : RunsAreInRange script) (start : MomentWithPast) (began : Began script start.world) where
  module _ (stepping : SteppingNode) (is : IsStepping script start.world stepping) (by : StepsByChanges stepping.cause) where
    abbrev at : StepState → MomentWithPast
    at so_far = moment_in_step script stepping start so_far

    none_begins : (so_far next : StepState) → (at next).past.attempts ≡ (at so_far).past.attempts ++ []
        → ComeFrom script start (at so_far) (at next)
    none_begins so_far next grows = same_attempts script start (at so_far) (at next) (grows ∙ append-nil (at so_far).past.attempts)

    of_change : (so_far next : StepState) → LeadsInStep stepping (first_in_step stepping) so_far
        → (change : changes.Change (input_of_cause stepping.cause) stepping.host.node so_far next)
        → (at next).past.attempts ≡ (at so_far).past.attempts ++ attempts_of_change stepping.host so_far next change
        → ComeFrom script start (at so_far) (at next)
    of_change so_far next leads (changes.Marks req number work attempt status learns over) grows = none_begins so_far next grows
    of_change so_far next leads (changes.Fails session req number work attempt status course ends done why) grows =
        none_begins so_far next grows
    of_change so_far next leads (changes.Stops session req number work attempt status course bytes ends over) grows =
        none_begins so_far next grows
    of_change so_far next leads (changes.Refuses session req number work attempt status course cause ends done why) grows =
        none_begins so_far next grows
    of_change so_far next leads (changes.Opens session req asked lined comes enough) grows =
        let host = host_with_node stepping.host lined.node in
        let current = attempt_in asked lined.node in
        more_attempts script start (at so_far) (at next) (beginning_with host lined.node.sends req asked.work (Open current)) grows
        (λ new made.
        let (making, request, there, opened) = begun_is (is_making asked.work) (is_first lined.node.sends current.messages)
        (tree.get lined.node.requests req) (beginning host lined.node.sends req asked.work current) new made in
        record {
          opened = record {
            stepping = stepping;
            is = is;
            by = by;
            so_far = so_far;
            leads = leads;
            session = session;
            req = req;
            asked = asked;
            lined = lined;
            comes = comes;
            enough = enough;
            next = next;
            moment_so = refl;
            making = making;
            request = request;
            there = there;
            at_gateway = get-insert_same lined.node.gateway.works req (record asked { stage = Open current });
            requests_so = refl;
            me_so = refl;
            epoch_so = refl;
            opened = opened;
          };
          before_so = refl;
          last = refl;
        })
    of_change so_far next leads (changes.Holds session req asked lined comes short touched) grows = none_begins so_far next grows
    of_change so_far next leads (changes.Denies session req asked lined request comes short untouched there own) grows =
        none_begins so_far next grows
    of_change so_far next leads (changes.Strays req work gateway there none apart) grows = none_begins so_far next grows
    of_change so_far next leads (changes.Lines session req work moved steps waits) grows = none_begins so_far next grows
    of_change so_far next leads (changes.Appends session req entry moved steps) grows = none_begins so_far next grows
    of_change so_far next leads (changes.Replies session req reply moved steps) grows = none_begins so_far next grows
    of_change so_far next leads (changes.Arrives session req ask disk arrival on) grows = none_begins so_far next grows
    of_change so_far next leads (changes.Rejects session req ask cause arrival) grows = none_begins so_far next grows
    of_change so_far next leads (changes.Recovers due) grows = none_begins so_far next grows

  -- an event at which no node steps
  pub attempts_made : (event : Event) (made : EventOutcome) (attempts : List AttemptRecord)
      → attempts_after script event start.world made.world start.past.attempts ≡ attempts
      → (moment_after script event start made).past.attempts ≡ attempts
  unfolding past_after_event
  attempts_made event made attempts so = so

  pub come_now : {before after : MomentWithPast} → MomentChange script start before after → ComeFrom script start before after
  come_now (moments.StepBegins stepping is by) =
      caused_attempts script start start (moment_in_step script stepping start (first_in_step stepping)) stepping.host.node stepping.cause
      (attempts-at_first script start stepping is by)
  come_now (moments.StepGoesOn stepping so_far next is by within) =
      let known = known_step script range start.world began stepping is in
      of_change stepping is by so_far next within.leads within.change
      (attempts-grow script start stepping is known.sound known.given by so_far next within)
  come_now (moments.StepIsMade stepping is by) =
      caused_attempts script start start (moment_in_step script stepping start (last_in_step stepping)) stepping.host.node stepping.cause
      (attempts-at_end script start stepping is by)
  come_now (moments.LossIsUntold event made happened h) =
      lost_attempts script start start (moment_after script event start made) h.name h.packet
      (attempts_made event made (attempts_with_loss h.name h.packet start.past.attempts)
      (attempts-of_untold_loss script event start.world made start.past.attempts h))
  come_now (moments.DeliveryIsUnread event made happened h) =
      same_attempts script start start (moment_after script event start made)
      (attempts_made event made start.past.attempts (attempts-of_unread_delivery script event start.world made start.past.attempts h))
  come_now (moments.NodeIsLost event made happened h) =
      same_attempts script start start (moment_after script event start made)
      (attempts_made event made start.past.attempts (attempts-of_loss script event start.world made start.past.attempts h))
  come_now (moments.NodeLeaves event made happened h) =
      same_attempts script start start (moment_after script event start made)
      (attempts_made event made start.past.attempts (attempts-of_leave script event start.world made start.past.attempts h))
  come_now (moments.NodeIsReweighted event made happened h) =
      same_attempts script start start (moment_after script event start made)
      (attempts_made event made start.past.attempts (attempts-of_reweight script event start.world made start.past.attempts h))
  come_now (moments.NodeJoins event made happened h) =
      same_attempts script start start (moment_after script event start made)
      (attempts_made event made start.past.attempts (attempts-of_join script event start.world made start.past.attempts h))
  come_now (moments.NodeComesBack event made happened h) =
      same_attempts script start start (moment_after script event start made)
      (attempts_made event made start.past.attempts (attempts-of_return script event start.world made start.past.attempts h))
  come_now (moments.PhaseEnds event made happened h) =
      same_attempts script start start (moment_after script event start made)
      (attempts_made event made start.past.attempts (attempts-of_phase_end script event start.world made start.past.attempts h))

  pub come_from : {before after : MomentWithPast} → MomentChange script start before after → (j : ℕ) (now : AttemptRecord)
      → slice_get after.past.attempts j ≡ Some now → WasAttempt before j now ⊎ IsOpened script start after now
  come_from {before} {after} change j now got = ⊎_elim
      (λ (w : WasAttempt before j now). inl w)
      (λ (o : IsOpenedNow script start before after j now). inr o.opened)
      (come_now change j now got)
