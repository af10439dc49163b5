-- In every run in range no two requests of a session are without reply that have one number; so the disk on which a request without reply
-- began is that of its number.
use Rattle.std.proofs.Common.{◌≡◌, ⊎_elim, arith, ℕ, ◌<◌, Bool, true, false, cond, List, [], ◌∷◌, fold, slice_get, Contains, Option, Some}
use Rattle.std.proofs.Common.{unwrap_or, refl, sym, ap, subst, ◌∙◌}
use Rattle.std.specs.List.{find}
use Rattle.std.specs.Option.{option_and_then}
use Rattle.std.specs.Ordering.{nat_cmp}
use Rattle.std.specs.FinMap as tree
use Rattle.std.proofs.lemmas.Bool.{eq-eqb, eqb-true}
use Rattle.proof_tools.proofs.Lists.{Contains-nil, Contains-cons_cases, Contains-first, Contains-cons}
use Rattle.cluster_script.specs.declared.statement.Statement.{Statement}
use Rattle.cluster_script.specs.NumberedRequests.{numbers_of_session}
use Rattle.cluster_script.specs.Statements.{requests_of}
use Rattle.peer_proto.specs.declared.guest.GuestRsp.{GuestRsp}
use Rattle.sheep_node.specs.declared.event.Event.{Event}
use Rattle.sheep_node.specs.declared.input.Input.TheVariants as inputs
use Rattle.sheep_node.specs.Step.{node_step}
use Rattle.sheep_world.specs.declared.progress.SessionProgress.{SessionProgress}
use Rattle.sheep_world.specs.declared.progress.StartedRequest.{StartedRequest}
use Rattle.sheep_world.specs.BegunRequests.{begun_count}
use Rattle.sheep_world.specs.Effects.{disk_open, progress_with_started}
use Rattle.sheep_world.specs.EventKinds.{log_after_return, EventKind, NodeStep, UntoldLoss, UnreadDelivery, NodeLoss, NodeLeave}
use Rattle.sheep_world.specs.EventKinds.{NodeReweight, NodeJoin, NodeReturn, PhaseEnd}
use Rattle.sheep_world.specs.HistoryAdditions.{is_started_request, disk_of}
use Rattle.sheep_world.specs.NodeCauses.{NodeCause, GuestAsks, RequestComes, ReplyComes, LossIsTold, EntryIsRead, EntryIsPut, RecoveryTicks}
use Rattle.sheep_world.specs.NodeCauses.{WorkIsRetried, ClientAsks, input_of_cause, IsCause, progress_at_cause}
use Rattle.sheep_world.specs.NodeSteps.{progress_after_reply}
use Rattle.sheep_world.specs.Opening.{initial_world}
use Rattle.sheep_world.specs.Step.{EventOutcome}
use Rattle.sheep_world.specs.World.{Host, World, no_progress, progress_at}
use Rattle.sheep_world.proofs.ClientReads.{goes_by_kind}
use Rattle.sheep_world.proofs.SessionNumbers.{once}
use Rattle.sheep_world.specs.RunsWithAsks.{Move}
use Rattle.overlap_law.specs.Past.{MomentWithPast, first_moment, run_with_past}
use Rattle.overlap_law.proofs.CoursesOfScript.{BeganOn}
use Rattle.overlap_law.proofs.RefusedInRuns.{AreAnswered, AreAnsweredAt, opens_answered, events_answered, new_or_was, left_by}
use Rattle.overlap_law.proofs.RunsByEvents.{run-kept_by_events}
use Rattle.overlap_law.proofs.UnansweredRequests.{Guests, unanswered_in}

-- a number is of one request without reply
abbrev pub UnansweredAreOnce : Guests → Type 0
UnansweredAreOnce guests = (q : ℕ) (one other : StartedRequest) → Contains (unanswered_in q guests) one
    → Contains (unanswered_in q guests) other → one.req ≡ other.req → one ≡ other

module _ (script : List Statement) where
  -- a session begins its next request
  module _ (guests : Guests) (refused : List ℕ) (number : ℕ) (new : StartedRequest)
      (next : slice_get (numbers_of_session script number) (begun_count number guests) ≡ Some new.req)
      (are : AreAnswered script guests refused) (apart : UnansweredAreOnce guests) where
    fresh : (q : ℕ) (old : StartedRequest) → Contains (unanswered_in q guests) old → old.req ≡ new.req → ⊥
    fresh q old there same =
        let begun = are.unanswered q old there in
        let both = once 1 (requests_of script) number q (begun_count number guests) begun.place new.req next
        (begun.there ∙ ap (λ (k : ℕ). Some k) same) in
        let place : begun_count number guests ≡ begun.place = both.1 in
        let below : begun.place < begun_count number guests
        = subst (λ (k : ℕ). begun.place < begun_count k guests) (sym both.0) begun.before in
        omega (arith, place, below)

    begins_once : UnansweredAreOnce (tree.insert guests number (progress_with_started new (unwrap_or (tree.get guests number) no_progress)))
    begins_once q one other there there_too same = ⊎_elim
        (λ (first : (q ≡ number) × (new ≡ one)). ⊎_elim
        (λ (second : (q ≡ number) × (new ≡ other)). sym first.1 ∙ second.1)
        (λ (old : Contains (unanswered_in q guests) other).
        absurd (fresh q other old (sym same ∙ sym (ap (λ (s : StartedRequest). s.req) first.1))))
        (new_or_was script guests refused number new next are q other there_too))
        (λ (old : Contains (unanswered_in q guests) one). ⊎_elim
        (λ (second : (q ≡ number) × (new ≡ other)).
        absurd (fresh q one old (same ∙ sym (ap (λ (s : StartedRequest). s.req) second.1))))
        (λ (older : Contains (unanswered_in q guests) other). apart q one other old older same)
        (new_or_was script guests refused number new next are q other there_too))
        (new_or_was script guests refused number new next are q one there)

  -- replies leave fewer
  replied_once : (replies : List (ℕ × GuestRsp)) (guests : Guests) → UnansweredAreOnce guests
      → UnansweredAreOnce (fold (progress_after_reply script) guests replies)
  replied_once replies guests apart q one other there there_too =
      apart q one other (left_by script replies guests q one there).0 (left_by script replies guests q other there_too).0

  pub caused_once : (world : World) (n : ℕ) (host : Host) (refused : List ℕ) (cause : NodeCause) → IsCause script world n host cause
      → AreAnswered script world.guests refused → UnansweredAreOnce world.guests → UnansweredAreOnce (progress_at_cause cause world)
  caused_once world n host refused (GuestAsks session req ask) caused are apart =
      begins_once world.guests refused session.number (record { req = req; disk = disk_open session world }) caused.next are apart
  caused_once world n host refused (RequestComes name to request) caused are apart = apart
  caused_once world n host refused (ReplyComes name from rsp) caused are apart = apart
  caused_once world n host refused (LossIsTold name packet) caused are apart = apart
  caused_once world n host refused (EntryIsRead entry) caused are apart = apart
  caused_once world n host refused (EntryIsPut entry) caused are apart = apart
  caused_once world n host refused RecoveryTicks caused are apart = apart
  caused_once world n host refused WorkIsRetried caused are apart = apart
  caused_once world n host refused (ClientAsks req ask) caused are apart = apart

  kind_once : (event : Event) (world : World) (made : EventOutcome) (refused : List ℕ) → EventKind script event world made
      → AreAnswered script world.guests refused → UnansweredAreOnce world.guests → UnansweredAreOnce made.world.guests
  kind_once event world made refused (NodeStep h) are apart =
      subst (λ (m : EventOutcome). UnansweredAreOnce m.world.guests) h.made_so
      (replied_once (node_step (input_of_cause h.cause) h.host.node).outputs.replies (progress_at_cause h.cause world)
      (caused_once world h.n h.host refused h.cause h.caused are apart))
  kind_once event world made refused (UntoldLoss h) are apart =
      subst (λ (m : EventOutcome). UnansweredAreOnce m.world.guests) h.made_so apart
  kind_once event world made refused (UnreadDelivery h) are apart =
      subst (λ (m : EventOutcome). UnansweredAreOnce m.world.guests) h.made_so apart
  kind_once event world made refused (NodeLoss h) are apart = subst (λ (m : EventOutcome). UnansweredAreOnce m.world.guests) h.made_so apart
  kind_once event world made refused (NodeLeave h) are apart =
      subst (λ (m : EventOutcome). UnansweredAreOnce m.world.guests) h.made_so apart
  kind_once event world made refused (NodeReweight h) are apart =
      subst (λ (m : EventOutcome). UnansweredAreOnce m.world.guests) h.made_so apart
  kind_once event world made refused (NodeJoin h) are apart = subst (λ (m : EventOutcome). UnansweredAreOnce m.world.guests) h.made_so apart
  kind_once event world made refused (NodeReturn h) are apart =
      subst (λ (m : EventOutcome). UnansweredAreOnce m.world.guests) h.made_so
      (replied_once (node_step (inputs.Back (log_after_return script h.n world)) h.host.node).outputs.replies world.guests apart)
  kind_once event world made refused (PhaseEnd h) are apart = subst (λ (m : EventOutcome). UnansweredAreOnce m.world.guests) h.made_so apart

  abbrev IsOnceAt : MomentWithPast → Type 0
  IsOnceAt moment = AreAnsweredAt script moment × UnansweredAreOnce moment.world.guests

  none_at_opening : (session : ℕ) (started : StartedRequest) → Contains (unanswered_in session tree.empty) started → ⊥
  none_at_opening session started there =
      Contains-nil started
      (subst (λ (o : Option SessionProgress). Contains (unwrap_or o no_progress).unanswered started)
      (tree.get-empty {X = SessionProgress} nat_cmp session) there)

  opens_once : UnansweredAreOnce (first_moment script).world.guests
  unfolding initial_world
  opens_once q one other there there_too same = absurd (none_at_opening q one there)

  pub once-in_run : (events : List Move) (moment : MomentWithPast) → run_with_past script events ≡ Some moment
      → UnansweredAreOnce moment.world.guests
  once-in_run events moment is =
      (run-kept_by_events script IsOnceAt (opens_answered script, opens_once)
      (λ event before made began happened so. (
        events_answered script event before made began happened so.0,
        kind_once event before.world made before.past.refused (goes_by_kind script event before.world made happened) so.0 so.1,
      )) events moment is).1

-- ---- the disk of a number

-- what passes a test is found, or another that does
found_one : (p : StartedRequest → Bool) (xs : List StartedRequest) (x : StartedRequest) → Contains xs x → p x ≡ true
    → (y : StartedRequest) × (find p xs ≡ Some y) × Contains xs y × (p y ≡ true)
found_one p [] x there is = absurd (Contains-nil x there)
found_one p (first ∷ later) x there is = by_first (p first) refl (λ behind. found_one p later x behind is)
  where
    by_first : (b : Bool) → p first ≡ b
        → (Contains later x → (y : StartedRequest) × (find p later ≡ Some y) × Contains later y × (p y ≡ true))
        → (y : StartedRequest) × (cond b (Some first) (find p later) ≡ Some y) × Contains (first ∷ later) y × (p y ≡ true)
    by_first true passes rest = (first, refl, Contains-first first first later refl, passes)
    by_first false fails rest = ⊎_elim
        (λ (same : first ≡ x).
        let never = sym fails ∙ ap p same ∙ is in
        absurd (cc (never)))
        (λ (behind : Contains later x).
        let (y, found, among, passes) = rest behind in
        (y, found, Contains-cons first later y among, passes))
        (Contains-cons_cases first later x there)

pub disk_of_began : (script : List Statement) (world : World) → UnansweredAreOnce world.guests → (req : ℕ) (disk : Option ℕ)
    → BeganOn script world.guests req disk → disk_of script req world ≡ disk
disk_of_began script world apart req disk began =
    let (found, is, among, passes) = found_one (is_started_request req) (unanswered_in began.session world.guests) began.started began.there
    (eq-eqb began.started.req req began.number) in
    let same : found ≡ began.started
    = apart began.session found began.started among began.there (eqb-true found.req req passes ∙ sym began.number) in
    ap (option_and_then (λ (started : StartedRequest). started.disk))
    (ap (option_and_then (λ (session : ℕ). find (is_started_request req) (progress_at session world).unanswered)) began.asking ∙ is)
    ∙ ap (λ (started : StartedRequest). started.disk) same ∙ began.on
