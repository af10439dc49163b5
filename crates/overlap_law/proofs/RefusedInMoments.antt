-- What is refused, over a change of a moment: a request that is refused then is no more at its node, and no message of its attempts was served
-- or lost.
use Rattle.std.proofs.Common.{◌≡◌, ◌⊎◌, inl, inr, ⊎_elim, ℕ, zero, suc, ◌+◌, ◌==◌, not, ◌||◌, Bool, true, false, cond, List, [], ◌∷◌, ◌++◌}
use Rattle.std.proofs.Common.{map, filter, Contains, Option, Some, None, is_some, slice_get, refl, sym, ap, subst, ◌∙◌, append-nil}
use Rattle.std.specs.List.{list_any}
use Rattle.std.specs.FinMap as tree
use Rattle.std.proofs.lemmas.Bool.{and_parts, not-true, or_cases, eqb-true, eq-eqb}
use Rattle.std.proofs.lemmas.List.Folds.{list_any-append}
use Rattle.std.proofs.lemmas.Option.{same_Some}
use Rattle.proof_tools.proofs.Booleans.{cond_either}
use Rattle.proof_tools.proofs.Lists.{Contains-first, Contains-cons, Contains-map, Contains-filter, list_any-none}
use Rattle.proof_tools.proofs.FiniteMaps.{get-insert_same}
use Rattle.object_id.specs.declared.entry.Entry.{Entry}
use Rattle.object_id.specs.declared.node.NodeId.{NodeId}
use Rattle.cluster_script.specs.declared.statement.Statement.{Statement}
use Rattle.message_wire.specs.declared.name.MessageName.{MessageName}
use Rattle.peer_proto.specs.declared.guest.GuestRsp.{GuestRsp}
use Rattle.gateway.specs.Attempt.{may_be_made}
use Rattle.gateway.specs.State.{is_touched}
use Rattle.sheep_node.specs.declared.course.Request as requests
use Rattle.sheep_node.specs.declared.event.Event.{Event}
use Rattle.sheep_node.specs.declared.input.Input.TheVariants as inputs
use Rattle.sheep_node.specs.State.{Node}
use Rattle.sheep_node.specs.May.{has_numbers}
use Rattle.sheep_node.specs.OneWork.{may_work_at}
use Rattle.sheep_node.specs.StepState.{StepState, at_first}
use Rattle.sheep_node.specs.Step.{on_request, on_put, on_recover_tick, on_input, is_due, with_recovered, recovered_put, node_step}
use Rattle.sheep_node.specs.Changes as changes
use Rattle.sheep_node.specs.Changes.{input_received, IsTold}
use Rattle.sheep_node.proofs.NumberChanges.{both_in_chain}
use Rattle.sheep_node.proofs.OneWorkChanges.{StepHasOneWork}
use Rattle.sheep_world.specs.World.{Host}
use Rattle.sheep_world.specs.Asking.{session_asking}
use Rattle.sheep_world.specs.Step.{EventOutcome}
use Rattle.sheep_world.specs.NodeCauses.{NodeCause, GuestAsks, RequestComes, ReplyComes, LossIsTold, EntryIsRead, EntryIsPut, RecoveryTicks}
use Rattle.sheep_world.specs.NodeCauses.{WorkIsRetried, ClientAsks, input_of_cause, host_with_node}
use Rattle.sheep_world.specs.EventKinds.{log_after_return}
use Rattle.sheep_world.specs.Began.{Began}
use Rattle.overlap_law.specs.Attempts.{AttemptRecord, Served}
use Rattle.overlap_law.specs.Holders.{is_object_among}
use Rattle.overlap_law.specs.Past.{MomentWithPast, past_after_event, moment_after}
use Rattle.overlap_law.specs.PastWords.{is_refusal, refuses_request, refused_in}
use Rattle.overlap_law.specs.Packets.{message_name_at}
use Rattle.overlap_law.specs.OpenWorks.{IsAwaitedAt, MayTouch}
use Rattle.overlap_law.specs.StepMoments.{SteppingNode, IsStepping, StepsByChanges, StepsAtOnce, first_in_step, last_in_step, LeadsInStep}
use Rattle.overlap_law.specs.StepMoments.{IsWithinStep, moment_in_step, attempts_of_change}
use Rattle.overlap_law.specs.MomentChanges as moments
use Rattle.overlap_law.specs.MomentChanges.{MomentChange, RunsAreInRange}
use Rattle.overlap_law.specs.TiedAttempts.{IsTied}
use Rattle.overlap_law.proofs.AttemptsInSteps.{attempts-grow}
use Rattle.overlap_law.proofs.DrivenInMoments.{RequestsHaveWorked, driven_at}
use Rattle.overlap_law.proofs.DueMessages.{HoldsBefore, TouchOrAreAwaited, MayHaveTouched, told_made}
use Rattle.overlap_law.proofs.FreshRequests.{none_for_new}
use Rattle.overlap_law.proofs.KnownFatesLater.{WasMarked}
use Rattle.overlap_law.proofs.KnownSteps.{IsKnownStep, known_step}
use Rattle.overlap_law.proofs.LostMessages.{lost_in_step}
use Rattle.overlap_law.proofs.RefusedInRuns.{back_silent, of_some}
use Rattle.overlap_law.proofs.RefusedUntouched.{IsUntouched, MayBeRefused, change_refuses}
use Rattle.overlap_law.proofs.RepliesApart.{apart_so_far}
use Rattle.overlap_law.proofs.RequestsInSteps.{received_replies}
use Rattle.overlap_law.proofs.SessionsOfRequests.{IsAskedIn, IsAskedBy, brought, asked_so_far, are_asked, by_line}
use Rattle.overlap_law.proofs.TouchedInMoments.{BeginsWith, refused_in_step, begins}
use Rattle.overlap_law.proofs.TouchedStay.{Arrives}
use Rattle.overlap_law.proofs.TrafficAttempts.{HasBegun, came_from}
use Rattle.overlap_law.proofs.TrafficOfChanges.{traffic}
use Rattle.overlap_law.proofs.UnansweredInMoments.{origin_so_far}
use Rattle.overlap_law.proofs.UnansweredMessages.{StaysUnanswered, IsHeardOf}
use Rattle.overlap_law.proofs.UnansweredStay.{change_goes}
use Rattle.overlap_law.proofs.WorkedCourses.{HadNoWork}
use Rattle.sheep_world.specs.BegunRequests.{IsOfScript}

-- ---- requests among the refused

any_of : {X : Type 0} (p : X → Bool) (xs : List X) (x : X) → Contains xs x → p x ≡ true → list_any p xs ≡ true
any_of {X = X} p xs x there is = by_any (list_any p xs) refl
  where
    by_any : (b : Bool) → list_any p xs ≡ b → list_any p xs ≡ true
    by_any true any = any
    by_any false any = let none = list_any-none p xs x any there in absurd (cc (is, none))

module _ (script : List Statement) where
  -- a refusal of a request of the script refuses it
  pub refused_of : (replies : List (ℕ × GuestRsp)) (reply : ℕ × GuestRsp) → Contains replies reply → refuses_request script reply ≡ true
      → is_object_among reply.0 (refused_in script replies) ≡ true
  refused_of replies reply there refuses =
      any_of (λ (other : ℕ). other == reply.0) (refused_in script replies) reply.0
      (Contains-map (λ (answer : ℕ × GuestRsp). answer.0) (filter (refuses_request script) replies) reply
      (Contains-filter (refuses_request script) replies reply there refuses))
      (eq-eqb reply.0 reply.0 refl)

  -- what is refused has a refusal
  abbrev Refusal : ℕ → List (ℕ × GuestRsp) → Type 0
  Refusal req replies = (reply : ℕ × GuestRsp) × Contains replies reply × (refuses_request script reply ≡ true) × (reply.0 ≡ req)

  pub refused_has : (req : ℕ) (replies : List (ℕ × GuestRsp)) → is_object_among req (refused_in script replies) ≡ true → Refusal req replies
  refused_has req [] is = absurd (cc (is))
  refused_has req (first ∷ later) is = by_test (refuses_request script first) refl is (refused_has req later)
    where
      behind : Refusal req later → Refusal req (first ∷ later)
      behind (reply, there, refuses, same) = (reply, Contains-cons first later reply there, refuses, same)

      by_test : (b : Bool) → refuses_request script first ≡ b
          → is_object_among req (map (λ (answer : ℕ × GuestRsp). answer.0) (cond b (first ∷ filter (refuses_request script) later) (filter (refuses_request script) later))) ≡ true
          → (is_object_among req (refused_in script later) ≡ true → Refusal req later) → Refusal req (first ∷ later)
      by_test true refuses is rest = ⊎_elim
          (λ (own : (first.0 == req) ≡ true). (first, Contains-first first first later refl, refuses, eqb-true first.0 req own))
          (λ (other : is_object_among req (refused_in script later) ≡ true). behind (rest other))
          (or_cases (first.0 == req) (is_object_among req (refused_in script later)) is)
      by_test false refuses is rest = behind (rest is)

  -- what refuses a request of the script is a refusal
  pub refusal_is : (reply : ℕ × GuestRsp) → refuses_request script reply ≡ true → is_refusal reply.1 ≡ true
  refusal_is reply refuses = (and_parts (is_refusal reply.1) (is_some (session_asking script reply.0)) refuses).0

pub among_cases : (req : ℕ) (one more : List ℕ) → is_object_among req (one ++ more) ≡ true → (is_object_among req one ≡ true) ⊎ (is_object_among req more ≡ true)
among_cases req one more is =
    or_cases (is_object_among req one) (is_object_among req more) (sym (list_any-append (λ other. other == req) one more) ∙ is)

or_either : (a b : Bool) → (a ≡ true) ⊎ (b ≡ true) → (a || b) ≡ true
or_either true b either = refl
or_either false b either = ⊎_elim (λ (none : false ≡ true). absurd (cc (none))) (λ (is : b ≡ true). is) either

pub among_of : (req : ℕ) (one more : List ℕ) → (is_object_among req one ≡ true) ⊎ (is_object_among req more ≡ true) → is_object_among req (one ++ more) ≡ true
among_of req one more either =
    list_any-append (λ other. other == req) one more ∙ or_either (is_object_among req one) (is_object_among req more) either

none_among : (script : List Statement) (req : ℕ) (refused : List ℕ) (replies : List (ℕ × GuestRsp)) → replies ≡ []
    → is_object_among req (refused ++ refused_in script replies) ≡ true → is_object_among req refused ≡ true
none_among script req refused replies none is =
    sym (ap (is_object_among req) (ap (λ (r : List (ℕ × GuestRsp)). refused ++ refused_in script r) none ∙ append-nil refused)) ∙ is

-- ---- steps that reply to nobody

due_silent : (so_far : StepState) → (recovered_put so_far).outputs.replies ≡ so_far.outputs.replies
unfolding recovered_put
due_silent so_far = cond_either (λ (now : StepState). now.outputs.replies ≡ so_far.outputs.replies) (is_due so_far.node) (with_recovered so_far) so_far refl refl

put_silent : (outbox : List Entry) (node : Node) → (on_put outbox (at_first node)).outputs.replies ≡ []
put_silent [] node = refl
put_silent (entry ∷ later) node = refl

pub made_silent : (cause : NodeCause) (node : Node) → StepsAtOnce cause → (node_step (input_of_cause cause) node).outputs.replies ≡ []
unfolding node_step on_input on_request on_recover_tick
made_silent (GuestAsks session req ask) node by = absurd by
made_silent (RequestComes name to request) node by = due_silent (on_request request (at_first node))
made_silent (ReplyComes name from rsp) node by = absurd by
made_silent (LossIsTold name packet) node by = absurd by
made_silent (EntryIsRead entry) node by = absurd by
made_silent (EntryIsPut entry) node by = due_silent (on_put node.outbox (at_first node)) ∙ put_silent node.outbox node
made_silent RecoveryTicks node by = due_silent (on_recover_tick (at_first node))
made_silent WorkIsRetried node by = absurd by
made_silent (ClientAsks req ask) node by = absurd by

none_contained : (replies : List (ℕ × GuestRsp)) → ((reply : ℕ × GuestRsp) → Contains replies reply → ⊥) → replies ≡ []
none_contained [] none = refl
none_contained (first ∷ later) none = absurd (none first (Contains-first first first later refl))

pub got_front : {X : Type 0} (xs ys : List X) (j : ℕ) (x : X) → slice_get xs j ≡ Some x → slice_get (xs ++ ys) j ≡ Some x
got_front {X = X} [] ys j x got = absurd (cc (got))
got_front {X = X} (y ∷ xs) ys zero x got = got
got_front {X = X} (y ∷ xs) ys (suc j) x got = got_front {X = X} xs ys j x got

-- ---- a request that is refused

-- it is no more at its node, and no message of its attempts there was served or lost
pub record IsRefusedNow (script : List Statement) (after : MomentWithPast) (req : ℕ) : Type 0 where
  pub n : ℕ
  pub host : Host
  pub there : tree.get after.world.hosts n ≡ Some host
  pub up : host.is_lost ≡ false
  pub none : tree.contains_key host.node.requests req ≡ false
  pub session : ℕ
  pub asked : IsAskedIn script n host.incarnation req session
  pub untouching : (j : ℕ) (now : AttemptRecord) → slice_get after.past.attempts j ≡ Some now → now.req ≡ req → now.gateway.0 ≡ n → (place : ℕ)
      (target : NodeId) → slice_get now.targets place ≡ Some target → MayTouch after.past.lost now place → ⊥

module _ (script : List Statement) (range : RunsAreInRange script) (start : MomentWithPast) (began : Began script start.world) (first : HoldsBefore script start) where
  module _ (stepping : SteppingNode) (so_far next : StepState) (is : IsStepping script start.world stepping) (by : StepsByChanges stepping.cause)
      (within : IsWithinStep stepping so_far next) where
    abbrev before : MomentWithPast
    before = moment_in_step script stepping start so_far

    abbrev after : MomentWithPast
    after = moment_in_step script stepping start next

    abbrev was : Host
    was = host_with_node stepping.host so_far.node

    abbrev now : Host
    now = host_with_node stepping.host next.node

    up : stepping.host.is_lost ≡ false
    up = not-true stepping.host.is_lost (and_parts (not stepping.host.is_lost) (has_numbers stepping.host.node) is.up).0

    abbrev known : IsKnownStep script start.world stepping
    known = known_step script range start.world began stepping is

    abbrev good : StepHasOneWork so_far
    good = (both_in_chain (input_of_cause stepping.cause) stepping.host.node known.sound so_far within.leads).0

    abbrev leads : LeadsInStep stepping (first_in_step stepping) next
    leads = changes.Then within.leads within.change

    none_there : (reply : ℕ × GuestRsp) → Contains next.outputs.replies reply → (o : Option requests.Request) → tree.get next.node.requests reply.0 ≡ o → is_some o ≡ false
    none_there reply there None got = refl
    none_there reply there (Some request) got =
        absurd (apart_so_far (input_of_cause stepping.cause) stepping.host.node known.sound leads reply.0 request reply got there refl)

    asked_then : (reply : ℕ × GuestRsp) → Contains next.outputs.replies reply
        → (session : ℕ) × IsAskedBy script stepping.n stepping.host.incarnation reply.0 session
    asked_then reply there =
        let (session, disk, so) = (asked_so_far script stepping.n stepping.host.incarnation (input_of_cause stepping.cause) stepping.host.node
        (brought script start.world stepping.n stepping.host stepping.cause is.caused) (are_asked script start.world began stepping.n stepping.host is.there) leads).replied reply there in
        (session, so)

    module _ (tied : IsTied before) (due : TouchOrAreAwaited before) (worked : RequestsHaveWorked before) (req : ℕ) (gone : tree.contains_key next.node.requests req ≡ false)
        (may : MayBeRefused (input_of_cause stepping.cause) stepping.host.node known.sound so_far good req) where
      module _ (j : ℕ) (attempt : AttemptRecord) (got : slice_get after.past.attempts j ≡ Some attempt) (own : attempt.req ≡ req) (gateway : attempt.gateway.0 ≡ stepping.n)
          (place : ℕ) (target : NodeId) (among : slice_get attempt.targets place ≡ Some target) (touching : MayTouch after.past.lost attempt place) where
        no_work : may_work_at (tree.get next.node.requests attempt.req) ≡ true → ⊥
        no_work is = by_request (tree.get next.node.requests attempt.req) is (ap (tree.contains_key next.node.requests) own ∙ gone)
          where
            by_request : (o : Option requests.Request) → may_work_at o ≡ true → is_some o ≡ false → ⊥
            by_request None may none = cc (may)
            by_request (Some request) may none = cc (none)

        -- what is lost is so from the step's beginning on
        touched_before : MayTouch before.past.lost attempt place
        touched_before = ⊎_elim
            (λ (served : slice_get attempt.fates place ≡ Some Served). inl served)
            (λ (lost : Contains after.past.lost (message_name_at attempt place)).
            inr (subst (λ (all : List MessageName). Contains all (message_name_at attempt place))
            (lost_in_step script stepping start next ∙ sym (lost_in_step script stepping start so_far)) lost))
            touching

        have_touched : MayHaveTouched script start first.tied first.lost stepping.n stepping.host known.ready after.past.lost j attempt gateway place target among
        have_touched = ⊎_elim
            (λ (served : slice_get attempt.fates place ≡ Some Served). inl (Served, served, inl refl))
            (λ (lost : Contains after.past.lost (message_name_at attempt place)). inr lost)
            touching

        by_untouched : slice_get before.past.attempts j ≡ Some attempt → IsUntouched (input_of_cause stepping.cause) stepping.host.node known.sound so_far good req → ⊥
        by_untouched at u = ⊎_elim
            (λ (touched : is_touched attempt.req so_far.node.gateway ≡ true).
            let yes = sym (ap (λ (q : ℕ). is_touched q so_far.node.gateway) own) ∙ touched in
            let no = u.before in
            cc (yes, no))
            (λ (a : IsAwaitedAt was.node attempt place). ⊎_elim
            (λ (s : StaysUnanswered next.node.gateway.works attempt.req a.work a.current place).
            no_work ((driven_at script range start began stepping is next leads stepping.n now (get-insert_same start.world.hosts stepping.n now)).open_works attempt.req s.now s.unanswered.there))
            (λ (h : IsHeardOf (input_of_cause stepping.cause) attempt.req a.work a.message.number next).
            let number : a.message.number ≡ attempt.first + place = a.opened.same.numbers place a.message a.at in
            let told : IsTold (input_of_cause stepping.cause) (attempt.first + place) h.status
            = subst (λ (k : ℕ). IsTold (input_of_cause stepping.cause) k h.status) number h.told in
            let made : may_be_made h.status ≡ true
            = told_made script start first.tied first.lost stepping.n stepping.host known.ready after.past.lost j attempt gateway place target among stepping.cause is.caused h.status told
            (known.given (attempt.first + place) h.status told) (origin_so_far script range start began stepping so_far is by j attempt at) (lost_in_step script stepping start next)
            have_touched in
            u.told a.work (ap (tree.get so_far.node.gateway.works) (sym own) ∙ a.opened.there) a.opened.making (attempt.first + place) h.status told made)
            (change_goes (input_of_cause stepping.cause) stepping.host.node known.sound so_far good attempt.req a.work a.current place a.message
            (record { there = a.opened.there; stage = a.opened.stage; at = a.at; status = a.unanswered }) next within.change))
            (due.each stepping.n was (get-insert_same start.world.hosts stepping.n was) up j attempt at gateway
            (ap (tree.contains_key so_far.node.requests) own ∙ u.asked) place target among touched_before)

        old_touching : slice_get before.past.attempts j ≡ Some attempt → ⊥
        old_touching at = ⊎_elim
            (λ (arrives : Arrives req (input_of_cause stepping.cause) stepping.host.node so_far).
            none_for_new script start before first.started j attempt at
            (subst (BeginsWith script start before) (sym own) (begins script range start began stepping so_far is by req arrives)))
            (λ (others : HadNoWork req so_far ⊎ IsUntouched (input_of_cause stepping.cause) stepping.host.node known.sound so_far good req). ⊎_elim
            (λ (h : HadNoWork req so_far).
            let yes = worked stepping.n was (get-insert_same start.world.hosts stepping.n was) up j attempt at gateway h.request (ap (tree.get so_far.node.requests) own ∙ h.there) in
            let no = h.unworked in
            cc (yes, no))
            (λ (u : IsUntouched (input_of_cause stepping.cause) stepping.host.node known.sound so_far good req). by_untouched at u)
            others)
            may

        none_touching : ⊥
        none_touching = ⊎_elim
            (λ (w : WasMarked before.past.attempts j attempt).
            let more = attempts_of_change stepping.host so_far next within.change in
            let grown = attempts-grow script start stepping is known.sound known.given by so_far next within in
            let same : w.was ≡ attempt
            = same_Some w.was attempt
            (sym (got_front before.past.attempts more j w.was w.at) ∙ ap (λ (all : List AttemptRecord). slice_get all j) (sym grown) ∙ got) in
            old_touching (w.at ∙ ap (λ (a : AttemptRecord). Some a) same))
            (λ (b : HasBegun before.world.hosts after.world.hosts attempt).
            let here : b.n ≡ stepping.n = sym b.begun.gateway ∙ gateway in
            let same : b.begun.sent_by.after ≡ now
            = same_Some b.begun.sent_by.after now
            (sym b.begun.sent_by.there_after ∙ ap (tree.get after.world.hosts) here ∙ get-insert_same start.world.hosts stepping.n now) in
            let open_now : tree.get next.node.gateway.works attempt.req ≡ Some b.begun.work
            = ap (λ (host : Host). tree.get host.node.gateway.works attempt.req) (sym same) ∙ b.begun.opened.there in
            no_work ((driven_at script range start began stepping is next leads stepping.n now (get-insert_same start.world.hosts stepping.n now)).open_works attempt.req b.begun.work open_now))
            (came_from before.world.hosts after.world.hosts before.world.wire before.past.attempts
            (traffic script range start began (moments.StepGoesOn stepping so_far next is by within)) j attempt got)

    -- a reply that refuses in a change
    refused_now : IsTied before → TouchOrAreAwaited before → RequestsHaveWorked before → (reply : ℕ × GuestRsp) → Contains next.outputs.replies reply
        → IsOfScript script reply.0 → MayBeRefused (input_of_cause stepping.cause) stepping.host.node known.sound so_far good reply.0
        → IsRefusedNow script after reply.0
    refused_now tied due worked reply there of_script may =
        let none = none_there reply there (tree.get next.node.requests reply.0) refl in
        let (session, asked) = asked_then reply there in
        record {
          n = stepping.n;
          host = now;
          there = get-insert_same start.world.hosts stepping.n now;
          up = up;
          none = none;
          session = session;
          asked = by_line script stepping.n stepping.host.incarnation reply.0 session asked of_script;
          untouching = λ j attempt got own gateway place target among touching.
              none_touching tied due worked reply.0 none may j attempt got own gateway place target among touching;
        }

  -- ---- every change

  abbrev WasOrIsRefused : MomentWithPast → MomentWithPast → ℕ → Type 0
  WasOrIsRefused before after req = (is_object_among req before.past.refused ≡ true) ⊎ IsRefusedNow script after req

  refused_after : (event : Event) (made : EventOutcome) → (moment_after script event start made).past.refused ≡ start.past.refused ++ refused_in script made.world.outputs.replies
  unfolding past_after_event
  refused_after event made = refl

  -- an event that replies to nobody
  still_refused : (event : Event) (made : EventOutcome) → made.world.outputs.replies ≡ [] → (req : ℕ)
      → is_object_among req (moment_after script event start made).past.refused ≡ true → WasOrIsRefused start (moment_after script event start made) req
  still_refused event made none req is =
      inl (none_among script req start.past.refused made.world.outputs.replies none (sym (ap (is_object_among req) (refused_after event made)) ∙ is))

  goes_on_refused : (stepping : SteppingNode) (so_far next : StepState) (is : IsStepping script start.world stepping) (by : StepsByChanges stepping.cause)
      → IsWithinStep stepping so_far next → IsTied (moment_in_step script stepping start so_far) → TouchOrAreAwaited (moment_in_step script stepping start so_far)
      → RequestsHaveWorked (moment_in_step script stepping start so_far) → (req : ℕ)
      → is_object_among req (moment_in_step script stepping start next).past.refused ≡ true
      → WasOrIsRefused (moment_in_step script stepping start so_far) (moment_in_step script stepping start next) req
  goes_on_refused stepping so_far next is by within tied due worked req among = ⊎_elim
      (λ (old : is_object_among req start.past.refused ≡ true). was_refused (inl old))
      (λ (new : is_object_among req (refused_in script next.outputs.replies) ≡ true).
      let (reply, there, refuses, same) = refused_has script req next.outputs.replies new in
      let known = known_step script range start.world began stepping is in
      let good = (both_in_chain (input_of_cause stepping.cause) stepping.host.node known.sound so_far within.leads).0 in
      ⊎_elim
      (λ (old : Contains so_far.outputs.replies reply).
      was_refused (inr (ap (λ (q : ℕ). is_object_among q (refused_in script so_far.outputs.replies)) (sym same) ∙ refused_of script so_far.outputs.replies reply old refuses)))
      (λ (may : MayBeRefused (input_of_cause stepping.cause) stepping.host.node known.sound so_far good reply.0).
      inr (subst (IsRefusedNow script (moment_in_step script stepping start next)) same
      (refused_now stepping so_far next is by within tied due worked reply there
      (of_some script reply.0 (and_parts (is_refusal reply.1) (is_some (session_asking script reply.0)) refuses).1) may)))
      (change_refuses (input_of_cause stepping.cause) stepping.host.node known.sound so_far good next within.change reply there (refusal_is script reply refuses)))
      (among_cases req start.past.refused (refused_in script next.outputs.replies)
      (sym (ap (is_object_among req) (refused_in_step script stepping start next)) ∙ among))
    where
      was_refused : (is_object_among req start.past.refused ≡ true) ⊎ (is_object_among req (refused_in script so_far.outputs.replies) ≡ true)
          → WasOrIsRefused (moment_in_step script stepping start so_far) (moment_in_step script stepping start next) req
      was_refused either =
          inl (ap (is_object_among req) (refused_in_step script stepping start so_far)
          ∙ among_of req start.past.refused (refused_in script so_far.outputs.replies) either)

  pub refused_from : {before after : MomentWithPast} → MomentChange script start before after → IsTied before → TouchOrAreAwaited before → RequestsHaveWorked before
      → (req : ℕ) → is_object_among req after.past.refused ≡ true → WasOrIsRefused before after req
  refused_from (moments.StepBegins stepping is by) tied due worked req among =
      inl (none_among script req start.past.refused (first_in_step stepping).outputs.replies (received_replies (input_of_cause stepping.cause) stepping.host.node)
      (sym (ap (is_object_among req) (refused_in_step script stepping start (first_in_step stepping))) ∙ among))
  refused_from (moments.StepGoesOn stepping so_far next is by within) tied due worked req among =
      goes_on_refused stepping so_far next is by within tied due worked req among
  refused_from (moments.StepIsMade stepping is by) tied due worked req among =
      inl (none_among script req start.past.refused (last_in_step stepping).outputs.replies (made_silent stepping.cause stepping.host.node by)
      (sym (ap (is_object_among req) (refused_in_step script stepping start (last_in_step stepping))) ∙ among))
  refused_from (moments.LossIsUntold event made happened h) tied due worked req among =
      still_refused event made (ap (λ (m : EventOutcome). m.world.outputs.replies) (sym h.made_so)) req among
  refused_from (moments.DeliveryIsUnread event made happened h) tied due worked req among =
      still_refused event made (ap (λ (m : EventOutcome). m.world.outputs.replies) (sym h.made_so)) req among
  refused_from (moments.NodeIsLost event made happened h) tied due worked req among =
      still_refused event made (ap (λ (m : EventOutcome). m.world.outputs.replies) (sym h.made_so)) req among
  refused_from (moments.NodeLeaves event made happened h) tied due worked req among =
      still_refused event made (ap (λ (m : EventOutcome). m.world.outputs.replies) (sym h.made_so)) req among
  refused_from (moments.NodeIsReweighted event made happened h) tied due worked req among =
      still_refused event made (ap (λ (m : EventOutcome). m.world.outputs.replies) (sym h.made_so)) req among
  refused_from (moments.NodeJoins event made happened h) tied due worked req among =
      still_refused event made (ap (λ (m : EventOutcome). m.world.outputs.replies) (sym h.made_so)) req among
  refused_from (moments.NodeComesBack event made happened h) tied due worked req among =
      still_refused event made
      (ap (λ (m : EventOutcome). m.world.outputs.replies) (sym h.made_so)
      ∙ none_contained (node_step (inputs.Back (log_after_return script h.n start.world)) h.host.node).outputs.replies
      (back_silent script (log_after_return script h.n start.world) h.host.node)) req among
  refused_from (moments.PhaseEnds event made happened h) tied due worked req among =
      still_refused event made (ap (λ (m : EventOutcome). m.world.outputs.replies) (sym h.made_so)) req among
