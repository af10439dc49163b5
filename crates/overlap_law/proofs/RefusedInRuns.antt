-- In every run what was refused was begun and has its reply, and what has no reply was begun.
use Rattle.std.proofs.Common.{◌≡◌, ◌≢◌, ◌⊎◌, inl, inr, ⊎_elim, arith, ℕ, ◌+◌, ◌<◌, ◌≤◌, ◌==◌, Bool, true, false, not, ◌||◌, cond, List, []}
use Rattle.std.proofs.Common.{◌∷◌, ◌++◌, map, filter, fold, Contains, Option, Some, None, is_some, refl, sym, ap, subst, ◌∙◌}
use Rattle.std.specs.Prelude.{unwrap_or}
use Rattle.std.specs.List.{slice_get}
use Rattle.std.specs.Option.{option_and_then}
use Rattle.std.specs.Ordering.{nat_cmp}
use Rattle.std.specs.FinMap as tree
use Rattle.std.proofs.lemmas.Bool.{and_parts, cases_eq, eqb-true, eq-eqb, both_ways, or_cases, not-true}
use Rattle.std.proofs.lemmas.List.{append-nil}
use Rattle.std.proofs.lemmas.List.Elements.{Contains-push_cases}
use Rattle.std.proofs.lemmas.List.Folds.{list_any-append}
use Rattle.proof_tools.proofs.FiniteMaps.{get-insert_same, get-insert_other}
use Rattle.proof_tools.proofs.Lists.{Contains-nil, Contains-cons, Contains-cons_cases, Contains-first, filter-contains}
use Rattle.object_id.specs.declared.entry.Entry.{Entry}
use Rattle.cluster_script.specs.declared.statement.Statement.{Statement}
use Rattle.cluster_script.specs.NumberedRequests.{session_of, request_at, numbers_of_session}
use Rattle.cluster_script.specs.Statements.{requests_of}
use Rattle.peer_proto.specs.declared.guest.GuestRsp.{GuestRsp}
use Rattle.sheep_node.specs.declared.ask.Ask.{Ask}
use Rattle.sheep_node.specs.declared.event.Event.{Event}
use Rattle.sheep_node.specs.declared.input.Input.TheVariants as inputs
use Rattle.sheep_node.specs.declared.course.Request.{Request}
use Rattle.sheep_node.specs.State.{Node}
use Rattle.sheep_node.specs.Step.{node_step}
use Rattle.sheep_node.specs.LogReading.{on_back}
use Rattle.sheep_node.proofs.StepChain.{kept_by_chain, step_chain}
use Rattle.sheep_world.specs.declared.progress.StartedRequest.{StartedRequest}
use Rattle.sheep_world.specs.declared.progress.SessionProgress.{SessionProgress}
use Rattle.sheep_world.specs.World.{Host, World, no_progress, progress_at}
use Rattle.sheep_world.specs.Asking.{session_asking}
use Rattle.sheep_world.specs.NodeSteps.{progress_without_request, progress_after_reply_in, progress_after_reply}
use Rattle.sheep_world.specs.Effects.{disk_open, progress_with_started}
use Rattle.sheep_world.specs.BegunRequests.{begun_count, WasBegun, IsOfScript}
use Rattle.sheep_world.specs.Began.{Began}
use Rattle.sheep_world.specs.Opening.{initial_world}
use Rattle.sheep_world.specs.Step.{EventOutcome}
use Rattle.sheep_world.specs.NodeCauses.{NodeCause, GuestAsks, RequestComes, ReplyComes, LossIsTold, EntryIsRead, EntryIsPut, RecoveryTicks}
use Rattle.sheep_world.specs.NodeCauses.{WorkIsRetried, ClientAsks, input_of_cause, IsCause, progress_at_cause, world_after_cause}
use Rattle.sheep_world.specs.EventKinds.{log_after_return, EventKind, NodeStep, UntoldLoss, UnreadDelivery, NodeLoss, NodeLeave}
use Rattle.sheep_world.specs.EventKinds.{NodeReweight, NodeJoin, NodeReturn, PhaseEnd}
use Rattle.sheep_world.proofs.AskedStatements.{next_asks}
use Rattle.sheep_world.proofs.BegunRequestLaws.{Grows, were_begun}
use Rattle.sheep_world.proofs.ClientReads.{goes_by_kind}
use Rattle.sheep_world.proofs.SessionNumbers.{once}
use Rattle.sheep_world.specs.RunsWithAsks.{Move}
use Rattle.overlap_law.specs.Holders.{is_object_among}
use Rattle.overlap_law.specs.PastWords.{is_refusal, refuses_request, refused_in}
use Rattle.overlap_law.specs.Past.{MomentWithPast, past_after_event, first_moment, run_with_past}
use Rattle.overlap_law.specs.RequestsOfScript.{TheRefusedAreAnswered}
use Rattle.overlap_law.proofs.AsksInCauses.{no_request}
use Rattle.overlap_law.proofs.AttemptMessages.{contains_at}
use Rattle.overlap_law.proofs.RequestsInSteps.{received_replies, KnownIn, received_none, change_known}
use Rattle.overlap_law.proofs.RunsByEvents.{KeptByEvents, run-kept_by_events}
use Rattle.overlap_law.proofs.SessionsOfRequests.{are_asked_by_line}

abbrev Guests : Type 0
Guests = tree.FinMap nat_cmp SessionProgress

abbrev unanswered_in : ℕ → Guests → List StartedRequest
unanswered_in session guests = (unwrap_or (tree.get guests session) no_progress).unanswered

-- ---- what sessions have begun

grown_with : (guests : Guests) (number : ℕ) (guest : SessionProgress) → begun_count number guests ≤ guest.begun
    → Grows guests (tree.insert guests number guest)
grown_with guests number guest more q = ⊎_elim
    (λ (own : q ≡ number).
    let is : begun_count q (tree.insert guests number guest) ≡ guest.begun
    = ap (λ (k : ℕ). begun_count k (tree.insert guests number guest)) own
    ∙ ap (λ (o : Option SessionProgress). (unwrap_or o no_progress).begun) (get-insert_same guests number guest) in
    let was : begun_count q guests ≡ begun_count number guests = ap (λ (k : ℕ). begun_count k guests) own in
    omega (arith, is, was, more))
    (λ (other : q ≢ number).
    let is : begun_count q (tree.insert guests number guest) ≡ begun_count q guests
    = ap (λ (o : Option SessionProgress). (unwrap_or o no_progress).begun) (get-insert_other guests number guest q other) in
    omega (arith, is))
    (cases_eq q number)

grown_answered : (req : ℕ) (session : Option ℕ) (guests : Guests) → Grows guests (progress_after_reply_in req session guests)
grown_answered req None guests = λ q. omega arith
grown_answered req (Some session) guests =
    grown_with guests session (progress_without_request req (unwrap_or (tree.get guests session) no_progress)) (omega arith)

module _ (script : List Statement) where
  pub replies_grow : (replies : List (ℕ × GuestRsp)) (guests : Guests) → Grows guests (fold (progress_after_reply script) guests replies)
  replies_grow [] guests = λ q. omega arith
  replies_grow (reply ∷ later) guests = λ q.
      let one : begun_count q guests ≤ begun_count q (progress_after_reply script guests reply)
      = grown_answered reply.0 (session_asking script reply.0) guests q in
      let rest : begun_count q (progress_after_reply script guests reply) ≤ begun_count q
      (fold (progress_after_reply script) (progress_after_reply script guests reply) later)
      = replies_grow later (progress_after_reply script guests reply) q in
      omega (arith, one, rest)

  pub still_begun : (guests later : Guests) → Grows guests later → (session req : ℕ) → WasBegun script guests session req
      → WasBegun script later session req
  still_begun guests later grows session req begun = record {
    place = begun.place;
    before =
        let more : begun_count session guests ≤ begun_count session later = grows session in
        let before : begun.place < begun_count session guests = begun.before in
        omega (arith, more, before);
    there = begun.there;
  }

  -- what a session began is asked in it
  pub begun_asking : (guests : Guests) (session req : ℕ) → WasBegun script guests session req → session_asking script req ≡ Some session
  begun_asking guests session req begun =
      let asks = next_asks script session begun.place req begun.there in
      ap (option_and_then session_of) asks.stands ∙ asks.own

  abbrev WasBegunThen : Guests → ℕ → ℕ → Bool → Type 0
  WasBegunThen guests req session disk = IsOfScript script req → WasBegun script guests session req

  -- ---- what is refused, and what has no reply

  pub record AreAnswered (guests : Guests) (refused : List ℕ) : Type 0 where
    pub started : (req : ℕ) → is_object_among req refused ≡ true → (session : ℕ) × WasBegun script guests session req
    pub answered : (session : ℕ) (started : StartedRequest) → Contains (unanswered_in session guests) started
        → is_object_among started.req refused ≡ false
    pub unanswered : (session : ℕ) (started : StartedRequest) → Contains (unanswered_in session guests) started
        → WasBegun script guests session started.req

  -- a session begins its next request
  module _ (guests : Guests) (refused : List ℕ) (number : ℕ) (new : StartedRequest)
      (next : slice_get (numbers_of_session script number) (begun_count number guests) ≡ Some new.req)
      (are : AreAnswered guests refused) where
    abbrev before : SessionProgress
    before = unwrap_or (tree.get guests number) no_progress

    abbrev after : Guests
    after = tree.insert guests number (progress_with_started new before)

    more_begun : Grows guests after
    more_begun = grown_with guests number (progress_with_started new before) (omega arith)

    new_begun : WasBegun script after number new.req
    new_begun =
        let is : begun_count number after ≡ begun_count number guests + 1
        = ap (λ (o : Option SessionProgress). (unwrap_or o no_progress).begun)
        (get-insert_same guests number (progress_with_started new before)) in
        record { place = begun_count number guests; before = omega (arith, is); there = next }

    -- the new one wasn't refused
    new_kept : is_object_among new.req refused ≡ false
    new_kept = by_test (is_object_among new.req refused) refl
      where
        by_test : (b : Bool) → is_object_among new.req refused ≡ b → is_object_among new.req refused ≡ false
        by_test false is = is
        by_test true is =
            let (session, begun) = are.started new.req is in
            let same = once 1 (requests_of script) number session (begun_count number guests) begun.place new.req next begun.there in
            let place : begun_count number guests ≡ begun.place = same.1 in
            let below : begun.place < begun_count number guests
            = subst (λ (k : ℕ). begun.place < begun_count k guests) (sym same.0) begun.before in
            absurd (omega (arith, place, below))

    -- what has no reply then is the new one, or had none
    abbrev IsNewOr : ℕ → StartedRequest → Type 0
    IsNewOr q started = ((q ≡ number) × (new ≡ started)) ⊎ Contains (unanswered_in q guests) started

    pub new_or_was : (q : ℕ) (started : StartedRequest) → Contains (unanswered_in q after) started → IsNewOr q started
    new_or_was q started there = ⊎_elim
        (λ (own : q ≡ number).
        let is : unanswered_in q after ≡ before.unanswered ++ new ∷ []
        = ap (λ (k : ℕ). unanswered_in k after) own
        ∙ ap (λ (o : Option SessionProgress). (unwrap_or o no_progress).unanswered)
        (get-insert_same guests number (progress_with_started new before)) in
        ⊎_elim
        (λ (old : Contains before.unanswered started). inr (subst (λ (k : ℕ). Contains (unanswered_in k guests) started) (sym own) old))
        (λ (same : new ≡ started). inl (own, same))
        (Contains-push_cases before.unanswered new started (subst (λ (list : List StartedRequest). Contains list started) is there)))
        (λ (other : q ≢ number).
        let is : unanswered_in q after ≡ unanswered_in q guests
        = ap (λ (o : Option SessionProgress). (unwrap_or o no_progress).unanswered)
        (get-insert_other guests number (progress_with_started new before) q other) in
        inr (subst (λ (list : List StartedRequest). Contains list started) is there))
        (cases_eq q number)

    begins_answered : AreAnswered after refused
    begins_answered = record {
      started = λ req is. let (session, begun) = are.started req is in (session, still_begun guests after more_begun session req begun);
      answered = λ q started there. ⊎_elim
          (λ (own : (q ≡ number) × (new ≡ started)). ap (λ (s : StartedRequest). is_object_among s.req refused) (sym own.1) ∙ new_kept)
          (λ (old : Contains (unanswered_in q guests) started). are.answered q started old)
          (new_or_was q started there);
      unanswered = λ q started there. ⊎_elim
          (λ (own : (q ≡ number) × (new ≡ started)).
          subst (λ (k : ℕ). WasBegun script after k started.req) (sym own.0)
          (subst (λ (s : StartedRequest). WasBegun script after number s.req) own.1 new_begun))
          (λ (old : Contains (unanswered_in q guests) started). still_begun guests after more_begun q started.req
          (are.unanswered q started old)) (new_or_was q started there);
    }

  -- ---- replies

  -- what has no reply behind one had none before, and isn't its request where that is the session's
  abbrev IsAnother : Option ℕ → ℕ → ℕ → StartedRequest → Type 0
  IsAnother asking req q started = asking ≡ Some q → (started.req == req) ≡ false

  left_by_one : (req : ℕ) (asking : Option ℕ) (guests : Guests) (q : ℕ) (started : StartedRequest)
      → Contains (unanswered_in q (progress_after_reply_in req asking guests)) started
      → Contains (unanswered_in q guests) started × IsAnother asking req q started
  left_by_one req None guests q started there = (there, λ is. absurd (cc (is)))
  left_by_one req (Some session) guests q started there = ⊎_elim
      (λ (own : q ≡ session).
      let guest = unwrap_or (tree.get guests session) no_progress in
      let is : unanswered_in q (tree.insert guests session (progress_without_request req guest))
      ≡ filter (λ (s : StartedRequest). not (s.req == req)) guest.unanswered
      = ap (λ (k : ℕ). unanswered_in k (tree.insert guests session (progress_without_request req guest))) own
      ∙ ap (λ (o : Option SessionProgress). (unwrap_or o no_progress).unanswered)
      (get-insert_same guests session (progress_without_request req guest)) in
      let (old, other) = filter-contains (λ (s : StartedRequest). not (s.req == req)) guest.unanswered started
      (subst (λ (list : List StartedRequest). Contains list started) is there) in
      (subst (λ (k : ℕ). Contains (unanswered_in k guests) started) (sym own) old, λ same. not-true (started.req == req) other))
      (λ (other : q ≢ session).
      let guest = unwrap_or (tree.get guests session) no_progress in
      let is : unanswered_in q (tree.insert guests session (progress_without_request req guest)) ≡ unanswered_in q guests
      = ap (λ (o : Option SessionProgress). (unwrap_or o no_progress).unanswered)
      (get-insert_other guests session (progress_without_request req guest) q other) in
      (subst (λ (list : List StartedRequest). Contains list started) is there, λ same. absurd (other (cc (same)))))
      (cases_eq q session)

  pub left_by : (replies : List (ℕ × GuestRsp)) (guests : Guests) (q : ℕ) (started : StartedRequest)
      → Contains (unanswered_in q (fold (progress_after_reply script) guests replies)) started
      → Contains (unanswered_in q guests) started
      × ((reply : ℕ × GuestRsp) → Contains replies reply → IsAnother (session_asking script reply.0) reply.0 q started)
  left_by [] guests q started there = (there, λ reply among. absurd (Contains-nil reply among))
  left_by (first ∷ later) guests q started there =
      let (behind, rest) = left_by later (progress_after_reply script guests first) q started there in
      let (before, own) = left_by_one first.0 (session_asking script first.0) guests q started behind in (
        before,
        λ reply among. ⊎_elim
            (λ (same : first ≡ reply). subst (λ (r : ℕ × GuestRsp). IsAnother (session_asking script r.0) r.0 q started) same own)
            (λ (other : Contains later reply). rest reply other)
            (Contains-cons_cases first later reply among),
      )

  -- a request of which it is known who asks is the script's
  pub of_some : (req : ℕ) → is_some (session_asking script req) ≡ true → IsOfScript script req
  of_some req = by_line (request_at script req)
    where
      by_line : (o : Option Statement) → is_some (option_and_then session_of o) ≡ true → is_some o ≡ true
      by_line None is = absurd (cc (is))
      by_line (Some line) is = refl

  -- a request among the refused has a reply that refuses it, and is the script's
  abbrev IsFound : ℕ → List (ℕ × GuestRsp) → Type 0
  IsFound req list = (reply : ℕ × GuestRsp) × Contains list reply × (reply.0 ≡ req) × IsOfScript script reply.0

  refusal_of : (req : ℕ) (replies : List (ℕ × GuestRsp)) → is_object_among req (refused_in script replies) ≡ true → IsFound req replies
  refusal_of req [] is = absurd (cc (is))
  refusal_of req (first ∷ later) is = by_test (refuses_request script first) refl is (refusal_of req later)
    where
      behind : IsFound req later → IsFound req (first ∷ later)
      behind (reply, there, same, of_script) = (reply, Contains-cons first later reply there, same, of_script)

      by_test : (b : Bool) → refuses_request script first ≡ b
          → is_object_among req (map (λ (answer : ℕ × GuestRsp). answer.0)
          (cond b (first ∷ filter (refuses_request script) later) (filter (refuses_request script) later))) ≡ true
          → (is_object_among req (refused_in script later) ≡ true → IsFound req later) → IsFound req (first ∷ later)
      by_test true test is rest = ⊎_elim
          (λ (own : (first.0 == req) ≡ true). (
            first,
            Contains-first first first later refl,
            eqb-true first.0 req own,
            of_some first.0 (and_parts (is_refusal first.1) (is_some (session_asking script first.0)) test).1,
          ))
          (λ (other : is_object_among req (refused_in script later) ≡ true). behind (rest other))
          (or_cases (first.0 == req) (is_object_among req (refused_in script later)) is)
      by_test false test is rest = behind (rest is)

  module _ (guests : Guests) (refused : List ℕ) (replies : List (ℕ × GuestRsp)) (are : AreAnswered guests refused)
      (begun : (reply : ℕ × GuestRsp) → Contains replies reply → IsOfScript script reply.0
      → (session : ℕ) × WasBegun script guests session reply.0) where
    abbrev later : Guests
    later = fold (progress_after_reply script) guests replies

    none_refused : (q : ℕ) (started : StartedRequest) → Contains (unanswered_in q guests) started
        → ((reply : ℕ × GuestRsp) → Contains replies reply → IsAnother (session_asking script reply.0) reply.0 q started)
        → is_object_among started.req (refused_in script replies) ≡ false
    none_refused q started was others = by_test (is_object_among started.req (refused_in script replies)) refl
      where
        by_test : (b : Bool) → is_object_among started.req (refused_in script replies) ≡ b
            → is_object_among started.req (refused_in script replies) ≡ false
        by_test false is = is
        by_test true is =
            let (reply, there, same, of_script) = refusal_of started.req replies is in
            let asking = ap (session_asking script) same ∙ begun_asking guests q started.req (are.unanswered q started was) in
            absurd (both_ways (started.req == reply.0) (others reply there asking) (eq-eqb started.req reply.0 (sym same)))

    replied_answered : AreAnswered later (refused ++ refused_in script replies)
    replied_answered = record {
      started = λ req is. ⊎_elim
          (λ (old : is_object_among req refused ≡ true).
          let (session, was) = are.started req old in (session, still_begun guests later (replies_grow replies guests) session req was))
          (λ (new : is_object_among req (refused_in script replies) ≡ true).
          let (reply, there, same, of_script) = refusal_of req replies new in
          let (session, was) = begun reply there of_script in (
            session,
            subst (λ (k : ℕ). WasBegun script later session k) same
                (still_begun guests later (replies_grow replies guests) session reply.0 was),
          ))
          (or_cases (is_object_among req refused) (is_object_among req (refused_in script replies))
          (sym (list_any-append (λ other. other == req) refused (refused_in script replies)) ∙ is));
      answered = λ q started there.
          let (was, others) = left_by replies guests q started there in
          list_any-append (λ other. other == started.req) refused (refused_in script replies)
          ∙ (λ i. are.answered q started was i || none_refused q started was others i);
      unanswered = λ q started there.
          still_begun guests later (replies_grow replies guests) q started.req
          (are.unanswered q started (left_by replies guests q started there).0);
    }

  -- ---- every event

  -- the requests of a node, and that of the guest which its step begins with, were begun
  module _ (world : World) (began : Began script world) (n : ℕ) (host : Host) (there : tree.get world.hosts n ≡ Some host) where
    pub node_begun : (req : ℕ) (request : Request) → tree.get host.node.requests req ≡ Some request → IsOfScript script req
        → WasBegun script world.guests request.session req
    node_begun req request got of_script =
        let begun = were_begun script world began n host there req request got of_script in
        let asked = are_asked_by_line script world began n host there req request got of_script in
        let same : begun.session.number ≡ request.session
        = cc (begun_asking world.guests begun.session.number req begun.begun, asked.asking) in
        subst (λ (k : ℕ). WasBegun script world.guests k req) same begun.begun

    pub found_grows : (cause : NodeCause) → Grows world.guests (progress_at_cause cause world)
    found_grows (GuestAsks session req ask) =
        grown_with world.guests session.number
        (progress_with_started (record { req = req; disk = disk_open session world }) (progress_at session.number world)) (omega arith)
    found_grows cause = λ q. omega arith

    pub found_brings : (cause : NodeCause) → IsCause script world n host cause → (req session : ℕ) (ask : Ask)
        → input_of_cause cause ≡ inputs.Guest req session ask → IsOfScript script req
        → WasBegun script (progress_at_cause cause world) session req
    found_brings (GuestAsks session begins asks) asked req number ask from of_script =
        let started = progress_with_started (record { req = begins; disk = disk_open session world }) (progress_at session.number world) in
        let is : begun_count session.number (tree.insert world.guests session.number started) ≡ (progress_at session.number world).begun + 1
        = ap (λ (o : Option SessionProgress). (unwrap_or o no_progress).begun) (get-insert_same world.guests session.number started) in
        let same : begins ≡ req = cc (from) in
        let own : session.number ≡ number = cc (from) in
        subst (λ (k : ℕ). WasBegun script (progress_at_cause (GuestAsks session begins asks) world) number k) same
        (subst (λ (k : ℕ). WasBegun script (progress_at_cause (GuestAsks session begins asks) world) k begins) own
        (record { place = (progress_at session.number world).begun; before = omega (arith, is); there = asked.next }))
    found_brings (RequestComes name to request) so req number ask from of_script = absurd (cc (from))
    found_brings (ReplyComes name to rsp) so req number ask from of_script = absurd (cc (from))
    found_brings (LossIsTold name packet) so req number ask from of_script = absurd (cc (from))
    found_brings (EntryIsRead entry) so req number ask from of_script = absurd (cc (from))
    found_brings (EntryIsPut entry) so req number ask from of_script = absurd (cc (from))
    found_brings RecoveryTicks so req number ask from of_script = absurd (cc (from))
    found_brings WorkIsRetried so req number ask from of_script = absurd (cc (from))
    found_brings (ClientAsks begins what) so req number ask from of_script =
        let same : begins ≡ req = cc (from) in
        let none : is_some (request_at script req) ≡ false = ap (λ (o : Option Statement). is_some o) (no_request so req same) in
        absurd (cc (none, of_script))

    pub found_answered : (refused : List ℕ) (cause : NodeCause) → IsCause script world n host cause → AreAnswered world.guests refused
        → AreAnswered (progress_at_cause cause world) refused
    found_answered refused (GuestAsks session req ask) asked are =
        begins_answered world.guests refused session.number (record { req = req; disk = disk_open session world }) asked.next are
    found_answered refused (RequestComes name to request) so are = are
    found_answered refused (ReplyComes name to rsp) so are = are
    found_answered refused (LossIsTold name packet) so are = are
    found_answered refused (EntryIsRead entry) so are = are
    found_answered refused (EntryIsPut entry) so are = are
    found_answered refused RecoveryTicks so are = are
    found_answered refused WorkIsRetried so are = are
    found_answered refused (ClientAsks req ask) so are = are

    pub replies_begun : (cause : NodeCause) → IsCause script world n host cause → (reply : ℕ × GuestRsp)
        → Contains (node_step (input_of_cause cause) host.node).outputs.replies reply → IsOfScript script reply.0
        → (session : ℕ) × WasBegun script (progress_at_cause cause world) session reply.0
    replies_begun cause caused =
        (λ (reply : ℕ × GuestRsp) (there : Contains (node_step (input_of_cause cause) host.node).outputs.replies reply)
        (of_script : IsOfScript script reply.0).
        let (session, disk, begun) = (kept_by_chain (KnownIn (WasBegunThen (progress_at_cause cause world)))
        (change_known (WasBegunThen (progress_at_cause cause world)) (input_of_cause cause) host.node (found_brings cause caused))
        (step_chain (input_of_cause cause) host.node)
        (received_none (WasBegunThen (progress_at_cause cause world)) (input_of_cause cause) host.node
        (received_replies (input_of_cause cause) host.node) (λ req request got of_its.
        still_begun world.guests (progress_at_cause cause world) (found_grows cause) request.session req
        (node_begun req request got of_its)))).replied reply there in (session, begun of_script))

    step_answered : (refused : List ℕ) (cause : NodeCause) → IsCause script world n host cause → AreAnswered world.guests refused
        → AreAnswered (world_after_cause script n host cause world).guests
        (refused ++ refused_in script (node_step (input_of_cause cause) host.node).outputs.replies)
    step_answered refused cause caused are =
        replied_answered (progress_at_cause cause world) refused (node_step (input_of_cause cause) host.node).outputs.replies
        (found_answered refused cause caused are) (replies_begun cause caused)

  -- a node that comes back replies to nobody
  pub back_silent : (log : List Entry) (node : Node) (reply : ℕ × GuestRsp)
      → Contains (node_step (inputs.Back log) node).outputs.replies reply → ⊥
  unfolding on_back
  back_silent log node reply there =
      ((kept_by_chain (KnownIn (λ req session disk. ⊥)) (change_known (λ req session disk. ⊥) (inputs.Back log) node
      (λ req session ask from. absurd (cc (from)))) (step_chain (inputs.Back log) node)
      (record {
        asked = λ req request got. let none = tree.get-empty {X = Request} nat_cmp req in absurd (cc (none, got));
        replied = λ one there. absurd (Contains-nil one there);
      })).replied reply there).2

  still_answered : (guests : Guests) (refused : List ℕ) → AreAnswered guests refused → AreAnswered guests (refused ++ [])
  still_answered guests refused are = subst (AreAnswered guests) (sym (append-nil refused)) are

  abbrev AnsweredThen : List ℕ → EventOutcome → Type 0
  AnsweredThen refused m = AreAnswered m.world.guests (refused ++ refused_in script m.world.outputs.replies)

  kind_answered : (event : Event) (world : World) (made : EventOutcome) (refused : List ℕ) → Began script world
      → EventKind script event world made
      → AreAnswered world.guests refused → AreAnswered made.world.guests (refused ++ refused_in script made.world.outputs.replies)
  kind_answered event world made refused began kind are = by_kind kind
    where
      by_kind : EventKind script event world made → AreAnswered made.world.guests (refused ++ refused_in script made.world.outputs.replies)
      by_kind (NodeStep h) =
          subst (AnsweredThen refused) h.made_so (step_answered world began h.n h.host h.there refused h.cause h.caused are)
      by_kind (UntoldLoss h) = subst (AnsweredThen refused) h.made_so (still_answered world.guests refused are)
      by_kind (UnreadDelivery h) = subst (AnsweredThen refused) h.made_so (still_answered world.guests refused are)
      by_kind (NodeLoss h) = subst (AnsweredThen refused) h.made_so (still_answered world.guests refused are)
      by_kind (NodeLeave h) = subst (AnsweredThen refused) h.made_so (still_answered world.guests refused are)
      by_kind (NodeReweight h) = subst (AnsweredThen refused) h.made_so (still_answered world.guests refused are)
      by_kind (NodeJoin h) = subst (AnsweredThen refused) h.made_so (still_answered world.guests refused are)
      by_kind (NodeReturn h) =
          subst (AnsweredThen refused) h.made_so
          (replied_answered world.guests refused (node_step (inputs.Back (log_after_return script h.n world)) h.host.node).outputs.replies
          are (λ reply there of_script. absurd (back_silent (log_after_return script h.n world) h.host.node reply there)))
      by_kind (PhaseEnd h) = subst (AnsweredThen refused) h.made_so (still_answered world.guests refused are)

  abbrev pub AreAnsweredAt : MomentWithPast → Type 0
  AreAnsweredAt moment = AreAnswered moment.world.guests moment.past.refused

  pub none_unanswered : (session : ℕ) (started : StartedRequest) → Contains (unanswered_in session tree.empty) started → ⊥
  none_unanswered session started there =
      Contains-nil started
      (subst (λ (o : Option SessionProgress). Contains (unwrap_or o no_progress).unanswered started)
      (tree.get-empty {X = SessionProgress} nat_cmp session) there)

  pub opens_answered : AreAnsweredAt (first_moment script)
  unfolding initial_world
  opens_answered = record {
    started = λ req is. absurd (cc (is));
    answered = λ session started there. absurd (none_unanswered session started there);
    unanswered = λ session started there. absurd (none_unanswered session started there);
  }

  pub events_answered : KeptByEvents script AreAnsweredAt
  unfolding past_after_event
  events_answered event before made began is are =
      kind_answered event before.world made before.past.refused began (goes_by_kind script event before.world made is) are

  pub refused_in_run : (events : List Move) (moment : MomentWithPast) → run_with_past script events ≡ Some moment
      → TheRefusedAreAnswered script moment.world moment.past.refused
  refused_in_run events moment is =
      let are = run-kept_by_events script AreAnsweredAt opens_answered events_answered events moment is in
      record {
        started = are.started;
        answered = λ session place started got. are.answered session started
            (contains_at (progress_at session moment.world).unanswered place started got);
        unanswered = λ session place started got.
            (session, are.unanswered session started (contains_at (progress_at session moment.world).unanswered place started got));
      }
