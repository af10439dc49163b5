-- A message of an open work that nothing came of yet, over a change of its node: nothing comes of it, or the step is told what did, and
-- then its request is touched where that touches it, or is no more.
use Rattle.std.proofs.Common.{◌≡◌, ◌≢◌, ◌⊎◌, inl, inr, ⊎_elim, ℕ, ◌+◌, ◌==◌, Bool, true, false, cond, List, Contains, Option, Some}
use Rattle.std.proofs.Common.{slice_get, refl, sym, ap, subst, ◌∙◌}
use Rattle.std.specs.Option.{option_map_or}
use Rattle.std.specs.Ordering.{nat_cmp}
use Rattle.std.specs.FinMap as tree
use Rattle.std.specs.FinSet as set
use Rattle.std.proofs.lemmas.Bool.{eqb-true, cases_eq}
use Rattle.std.proofs.lemmas.Option.{same_Some}
use Rattle.proof_tools.proofs.FiniteMaps.{get-remove_same, get-remove_other, get-insert_same, get-insert_other}
use Rattle.proof_tools.proofs.Lists.{find-contains, Contains-first}
use Rattle.object_id.specs.declared.cause.Cause.{Cause}
use Rattle.object_id.specs.declared.cause.Cause.TheVariants.{Halt}
use Rattle.peer_proto.specs.declared.guest.GuestRsp.{GuestRsp}
use Rattle.gateway.specs.declared.message.Message.{Message}
use Rattle.gateway.specs.declared.message.Status.{Status}
use Rattle.gateway.specs.Work.{is_making, zones_for}
use Rattle.gateway.specs.Attempt as gateways
use Rattle.gateway.specs.Attempt.{may_be_made}
use Rattle.gateway.specs.State.{Work, Gateway, Open, Ended, WaitsForMembers, is_touched, may_try}
use Rattle.gateway.specs.Step.{with_work, attempt_with_status}
use Rattle.gateway.proofs.MapLaws.{touched-made}
use Rattle.guest_driver.specs.InodeQueue as lines
use Rattle.guest_driver.specs.InodeQueue.{queue_with_waiting}
use Rattle.object_id.specs.declared.node.Epoch.{Epoch}
use Rattle.sheep_node.specs.declared.course.Course.{Course}
use Rattle.sheep_node.specs.declared.course.Request.{Request}
use Rattle.sheep_node.specs.declared.course.Course.TheVariants.{Driving, Commanding, Checking, DoingWork}
use Rattle.sheep_node.specs.declared.input.Input.{Input}
use Rattle.sheep_node.specs.State.{Node}
use Rattle.sheep_node.specs.StepState.{StepState, with_gateway, with_optional_entry, with_outbox_entry, session_in, with_inode_queue}
use Rattle.sheep_node.specs.StepState.{request_ended}
use Rattle.sheep_node.specs.RequestWorks.{course_refused}
use Rattle.sheep_node.specs.Changes as changes
use Rattle.sheep_node.specs.Changes.{IsTold, IsSoundStep, LearnsStatus, EndsAttempt, gateway_with_touch, without_ended_work, Outcome}
use Rattle.sheep_node.specs.Changes.{ToWork, ToEntry, ToReply, attempt_in, with_open_attempt, without_denied_work, zones_of_members}
use Rattle.sheep_node.specs.Changes.{RequestSteps, DiskBegins, DiskGoesOn, CommandBegins, CommandGoesOn, CommandDecided, CheckBegins}
use Rattle.sheep_node.specs.Changes.{CheckGoesOn, ObjectBegins, ObjectIsDone, EntryBegins, EntryDecided, WorkIsNext, AtOnce, InTurn, Again}
use Rattle.sheep_node.specs.Changes.{AgainAlone, Change}
use Rattle.sheep_node.proofs.RefusedCourses.{course_refused-keeps, request_refused-keeps, this_refused-keeps, this_if_there-keeps}
use Rattle.sheep_node.proofs.OneWorkChanges.{StepHasOneWork, steps_free, never_alone}
use Rattle.overlap_law.specs.Attempts.{receivers}
use Rattle.overlap_law.proofs.AttemptLists.{got_map}
use Rattle.overlap_law.proofs.MarkedMessages.{number-marked, receivers-marked}
use Rattle.overlap_law.proofs.OpenAttempts.{open_of}
use Rattle.overlap_law.proofs.UnansweredMessages.{IsUnanswered, StaysUnanswered, IsHeardOf, over_with, other_at, gone_key, HasSameWork}
use Rattle.overlap_law.proofs.UnansweredMessages.{ended_same, steps_same, next_same}

module _ (input : Input) (node : Node) (sound : IsSoundStep input node) (so_far : StepState) (good : StepHasOneWork so_far)
    (req : ℕ) (work : Work) (current : gateways.Attempt) (place : ℕ) (message : Message)
    (m : IsUnanswered so_far.node.gateway.works req work current place message) where
  abbrev Heard : StepState → Type 0
  Heard = IsHeardOf input req work message.number

  -- what becomes of the message
  abbrev pub MakesMove : StepState → Type 0
  MakesMove next = StaysUnanswered next.node.gateway.works req work current place ⊎ Heard next

  -- the work is as it was
  same_goes : (next : StepState) → HasSameWork req so_far next → MakesMove next
  same_goes next same = inl (record {
    now = work;
    later = current;
    still = message;
    unanswered = record { there = same ∙ m.there; stage = m.stage; at = m.at; status = m.status };
    work_so = refl;
    epoch_so = refl;
    targets_so = refl;
    numbers_so = λ place message got. (message, got, refl);
  })

  -- the work of which a message is learned is this one
  own_work : (number : ℕ) (w : Work) (attempt : gateways.Attempt) (status : Status)
      → LearnsStatus input node so_far req number w attempt status → w ≡ work
  own_work number w attempt status learns = same_Some w work (sym learns.there ∙ m.there)

  own_attempt : (number : ℕ) (w : Work) (attempt : gateways.Attempt) (status : Status)
      → LearnsStatus input node so_far req number w attempt status → attempt ≡ current
  own_attempt number w attempt status learns =
      open_of attempt current (sym learns.open_so ∙ ap (λ (w : Work). w.stage) (own_work number w attempt status learns) ∙ m.stage)

  touched_so : (number : ℕ) (w : Work) (attempt : gateways.Attempt) (status : Status)
      → LearnsStatus input node so_far req number w attempt status
      → is_making work.work ≡ true → may_be_made status ≡ true → is_touched req (gateway_with_touch req w status so_far) ≡ true
  touched_so number w attempt status learns making made =
      touched-made req w.work status so_far.node.gateway (ap (λ (w : Work). is_making w.work) (own_work number w attempt status learns)
      ∙ making) made

  -- a message of it is learned, and others are unanswered
  marked_goes : (number : ℕ) (w : Work) (attempt : gateways.Attempt) (status : Status)
      → LearnsStatus input node so_far req number w attempt status → (next : StepState)
      → next.node.gateway ≡ record (gateway_with_touch req w status so_far) {
        works = tree.insert so_far.node.gateway.works req (record w { stage = Open (attempt_with_status number status attempt) });
      } → MakesMove next
  marked_goes number w attempt status learns next so = by_tie (message.number == number) refl
    where
      work_is : w ≡ work
      work_is = own_work number w attempt status learns

      attempt_is : attempt ≡ current
      attempt_is = own_attempt number w attempt status learns

      by_tie : (b : Bool) → (message.number == number) ≡ b → MakesMove next
      by_tie true tie =
          let same : message.number ≡ number = eqb-true message.number number tie in
          inr (record {
            status = status;
            told = subst (λ (k : ℕ). IsTold input k status) (sym same) learns.told;
            touches = λ making made. inl (ap (is_touched req) so ∙ touched_so number w attempt status learns making made);
          })
      by_tie false tie = inl (record {
        now = record w { stage = Open (attempt_with_status number status attempt) };
        later = attempt_with_status number status attempt;
        still = message;
        unanswered = record {
          there = ap (λ (g : Gateway). tree.get g.works req) so
              ∙ get-insert_same so_far.node.gateway.works req (record w { stage = Open (attempt_with_status number status attempt) });
          stage = refl;
          at = other_at number status attempt.messages place message (ap (λ (a : gateways.Attempt). slice_get a.messages place) attempt_is
              ∙ m.at) tie;
          status = m.status;
        };
        work_so = ap (λ (w : Work). w.work) work_is;
        epoch_so = ap (λ (a : gateways.Attempt). a.epoch) attempt_is;
        targets_so = receivers-marked number status attempt.messages ∙ ap (λ (a : gateways.Attempt). receivers a.messages) attempt_is;
        numbers_so = λ place message got.
            let (was, found, is) = got_map (λ (message : Message). cond (message.number == number) (record message { status = status })
            message) attempt.messages place message got in (
              was,
              sym (ap (λ (a : gateways.Attempt). slice_get a.messages place) attempt_is)
                  ∙ found,
              sym (ap (λ (m : Message). m.number) is) ∙ number-marked number status was (was.number == number),
            );
      })

  -- its attempt ends
  ended_heard : (session number : ℕ) (w : Work) (attempt : gateways.Attempt) (status : Status) (course : Course)
      → EndsAttempt input node so_far session req number w attempt status course → (next : StepState)
      → next.node.gateway.touched ≡ (gateway_with_touch req w status so_far).touched → Heard next
  ended_heard session number w attempt status course ends next so =
      let same : message.number ≡ number
      = over_with number status attempt.messages place message ends.over
      (ap (λ (a : gateways.Attempt). slice_get a.messages place) (own_attempt number w attempt status ends.learns) ∙ m.at) m.status in
      record {
        status = status;
        told = subst (λ (k : ℕ). IsTold input k status) (sym same) ends.learns.told;
        touches = λ making made. inl (ap (λ (touched : set.FinSet nat_cmp). set.contains touched req) so
            ∙ touched_so number w attempt status ends.learns making made);
      }

  -- what was heard is heard where the touched and the requests stay
  heard_on : (now next : StepState) → next.node.gateway.touched ≡ now.node.gateway.touched → next.node.requests ≡ now.node.requests
      → Heard now → Heard next
  heard_on now next touched requests heard = record {
    status = heard.status;
    told = heard.told;
    touches = λ making made. ⊎_elim
        (λ (still : is_touched req now.node.gateway ≡ true). inl (ap (λ (touched : set.FinSet nat_cmp). set.contains touched req) touched
        ∙ still)) (λ (gone : tree.contains_key now.node.requests req ≡ false). inr
        (ap (λ (requests : tree.FinMap nat_cmp Request). tree.contains_key requests req) requests ∙ gone))
        (heard.touches making made);
  }

  -- or the request ends
  heard_at_end : (session : ℕ) (reply : GuestRsp) (now : StepState) → Heard now → Heard (request_ended session req reply now)
  unfolding request_ended
  heard_at_end session reply now heard =
      record {
        status = heard.status;
        told = heard.told;
        touches = λ making made. inr (gone_key (tree.get (tree.remove now.node.requests req) req) (get-remove_same now.node.requests req));
      }

  refused_heard : (session : ℕ) (cause : Cause) (course : Course) (now : StepState) → Heard now
      → Heard (course_refused session req cause course now)
  refused_heard =
      this_refused-keeps req Heard heard_at_end (λ entry now heard. heard_on now (with_optional_entry entry now) refl refl heard)

  denied_heard : (cause : Cause) (request : Option Request) (now : StepState) → Heard now
      → Heard (option_map_or (λ (request : Request). course_refused request.session req cause request.course now) request now)
  denied_heard =
      this_if_there-keeps req Heard heard_at_end (λ entry now heard. heard_on now (with_optional_entry entry now) refl refl heard)

  -- a step of the request ends the work, or leaves it
  abbrev SameOrHeard : StepState → Type 0
  SameOrHeard moved = HasSameWork req so_far moved ⊎ Heard moved

  steps_heard : (session : ℕ) (next : Outcome) (moved : StepState) → RequestSteps input node so_far session req next moved
      → SameOrHeard moved
  steps_heard session next moved (DiskBegins ask disk there on may) = inl refl
  steps_heard session next moved (DiskGoesOn number w attempt status bytes driver disk step ends on is) =
      inr (ended_heard session number w attempt status (Driving driver) ends.ends moved refl)
  steps_heard session next moved (CommandBegins ask step arrival is) = inl refl
  steps_heard session next moved (CommandGoesOn number w attempt status bytes op step ends is) =
      inr (ended_heard session number w attempt status (Commanding op) ends.ends moved refl)
  steps_heard session next moved (CommandDecided entry op step from read there waits is) = inl refl
  steps_heard session next moved (CheckBegins inode arrival on) = inl refl
  steps_heard session next moved (CheckGoesOn number w attempt status bytes check step ends is) =
      inr (ended_heard session number w attempt status (Checking check) ends.ends moved refl)
  steps_heard session next moved (ObjectBegins asked arrival) = inl refl
  steps_heard session next moved (ObjectIsDone number w attempt status bytes asked ends) =
      inr (ended_heard session number w attempt status (DoingWork asked) ends.ends moved refl)
  steps_heard session next moved (EntryBegins entry arrival) = inl refl
  steps_heard session next moved (EntryDecided entry wanted from read there waits) = inl refl

  no_try : (epoch : Epoch) (w : Work) → w ≡ work → may_try epoch w.stage ≡ true → ⊥
  no_try epoch w same may = let never = ap (may_try epoch) (ap (λ (w : Work). w.stage) same ∙ m.stage) in cc (may, never)

  -- a work of the request that begins has no open attempt any more
  next_heard : (session : ℕ) (asked : Work) (lined : StepState) → WorkIsNext input node so_far session req asked lined → Heard lined
  next_heard session asked lined (AtOnce w moved steps begins) = ⊎_elim
      (λ (same : HasSameWork req so_far moved).
      let none = (steps_free so_far session req (ToWork w) moved steps sound good).free.idle in
      let some : tree.get moved.node.gateway.works req ≡ Some work = same ∙ m.there in
      absurd (cc (none, some)))
      (λ (heard : Heard moved). heard_on moved lined refl refl heard)
      (steps_heard session (ToWork w) moved steps)
  next_heard session asked lined (InTurn w later none is) =
      let first : lines.Waiting = record { req = req; work = w } in
      let free = good.waiting_free session first (subst (λ (list : List lines.Waiting). Contains list first) (sym is)
      (Contains-first first first later refl)) in
      let some = m.there in
      absurd (cc (free, some))
  next_heard session asked lined (Again w course from next there request) =
      let epoch : Epoch = record { 0 = so_far.node.peer.epoch } in
      let (among, may) = find-contains (λ (entry : ℕ × Work). may_try epoch entry.1.stage) (tree.entries so_far.node.gateway.works) (req, w)
      next in
      absurd (no_try epoch w (same_Some w work (sym there ∙ m.there)) may)
  next_heard session asked lined (AgainAlone w from next there none) = absurd (never_alone req w so_far there none good)

  stepped_goes : (moved next : StepState) → next.node.gateway ≡ moved.node.gateway → next.node.requests ≡ moved.node.requests
      → SameOrHeard moved → MakesMove next
  stepped_goes moved next gateway requests either = ⊎_elim
      (λ (same : HasSameWork req so_far moved). same_goes next (ap (λ (g : Gateway). tree.get g.works req) gateway ∙ same))
      (λ (heard : Heard moved). inr (heard_on moved next (ap (λ (g : Gateway). g.touched) gateway) requests heard))
      either

  -- ---- every change

  pub change_goes : (next : StepState) → Change input node so_far next → MakesMove next
  change_goes next (changes.Marks q number w attempt status learns over) = ⊎_elim
      (λ (own : req ≡ q).
      subst (λ (q : ℕ). LearnsStatus input node so_far q number w attempt status
      → MakesMove (with_gateway (with_work q (record w { stage = Open (attempt_with_status number status attempt) })
      (gateway_with_touch q w status so_far)) so_far)) own (λ learns. marked_goes number w attempt status learns
      (with_gateway (with_work req (record w { stage = Open (attempt_with_status number status attempt) })
      (gateway_with_touch req w status so_far)) so_far) refl) learns)
      (λ (apart : req ≢ q).
      same_goes next (get-insert_other so_far.node.gateway.works q (record w { stage = Open (attempt_with_status number status attempt) })
      req apart)) (cases_eq req q)
  change_goes next (changes.Fails session q number w attempt status course ends done why) = ⊎_elim
      (λ (own : req ≡ q).
      subst (λ (q : ℕ). EndsAttempt input node so_far session q number w attempt status course
      → MakesMove (with_gateway (with_work q (record w { ended = w.ended + 1; stage = Ended }) (gateway_with_touch q w status so_far))
      so_far)) own (λ ends. inr (ended_heard session number w attempt status course ends
      (with_gateway (with_work req (record w { ended = w.ended + 1; stage = Ended }) (gateway_with_touch req w status so_far)) so_far)
      refl)) ends)
      (λ (apart : req ≢ q). same_goes next (get-insert_other so_far.node.gateway.works q (record w { ended = w.ended + 1; stage = Ended })
      req apart)) (cases_eq req q)
  change_goes next (changes.Stops session q number w attempt status course bytes ends over) = ⊎_elim
      (λ (own : req ≡ q).
      subst (λ (q : ℕ). EndsAttempt input node so_far session q number w attempt status course
      → MakesMove (without_ended_work session q w status so_far)) own
      (λ ended. inr (ended_heard session number w attempt status course ended (without_ended_work session req w status so_far) refl))
      ends.ends) (λ (apart : req ≢ q). same_goes next (get-remove_other so_far.node.gateway.works q req apart))
      (cases_eq req q)
  change_goes next (changes.Refuses session q number w attempt status course cause ends done why) = ⊎_elim
      (λ (own : req ≡ q).
      subst (λ (q : ℕ). EndsAttempt input node so_far session q number w attempt status course
      → MakesMove (course_refused session q cause course (without_ended_work session q w status so_far))) own
      (λ ended. inr (refused_heard session cause course (without_ended_work session req w status so_far)
      (ended_heard session number w attempt status course ended (without_ended_work session req w status so_far) refl)))
      ends)
      (λ (apart : req ≢ q).
      same_goes next
      (course_refused-keeps (HasSameWork req so_far) (ended_same req so_far) (λ entry before same. same) session q cause course
      (without_ended_work session q w status so_far) (get-remove_other so_far.node.gateway.works q req apart)))
      (cases_eq req q)
  change_goes next (changes.Opens session q asked lined comes enough) = ⊎_elim
      (λ (own : req ≡ q).
      subst (λ (q : ℕ). WorkIsNext input node so_far session q asked lined → MakesMove (with_open_attempt q asked lined)) own
      (λ coming. inr (heard_on lined (with_open_attempt req asked lined) refl refl (next_heard session asked lined coming))) comes)
      (λ (apart : req ≢ q).
      same_goes next
      (get-insert_other lined.node.gateway.works q (record asked { stage = Open (attempt_in asked lined.node) }) req apart
      ∙ next_same req so_far session q asked lined comes apart))
      (cases_eq req q)
  change_goes next (changes.Holds session q asked lined comes short touched) = ⊎_elim
      (λ (own : req ≡ q).
      subst (λ (q : ℕ). WorkIsNext input node so_far session q asked lined → MakesMove (changes.with_work_held q asked lined)) own
      (λ coming. inr (heard_on lined (changes.with_work_held req asked lined) refl refl (next_heard session asked lined coming))) comes)
      (λ (apart : req ≢ q).
      same_goes next
      (get-insert_other lined.node.gateway.works q (record asked { stage = WaitsForMembers (record { 0 = lined.node.peer.epoch }) }) req
      apart
      ∙ next_same req so_far session q asked lined comes apart))
      (cases_eq req q)
  change_goes next (changes.Denies session q asked lined request comes short untouched there is_own) = ⊎_elim
      (λ (own : req ≡ q).
      subst (λ (q : ℕ). WorkIsNext input node so_far session q asked lined
      → MakesMove (option_map_or (λ (request : Request). course_refused request.session q
      (Halt (zones_of_members lined.node) (zones_for asked.work)) request.course (without_denied_work session q asked lined))
      request (without_denied_work session q asked lined))) own
      (λ coming. inr (denied_heard (Halt (zones_of_members lined.node) (zones_for asked.work)) request
      (without_denied_work session req asked lined) (heard_on lined (without_denied_work session req asked lined) refl refl
      (next_heard session asked lined coming)))) comes) (λ (apart : req ≢ q).
      same_goes next
      (request_refused-keeps (HasSameWork req so_far) (ended_same req so_far) (λ entry before same. same) q
      (Halt (zones_of_members lined.node) (zones_for asked.work)) request (without_denied_work session q asked lined)
      (get-remove_other lined.node.gateway.works q req apart ∙ next_same req so_far session q asked lined comes apart)))
      (cases_eq req q)
  change_goes next (changes.Strays q w gateway there none apart) = absurd (never_alone q w so_far there none good)
  change_goes next (changes.Lines session q w moved steps waits) = ⊎_elim
      (λ (own : req ≡ q).
      subst (λ (q : ℕ). RequestSteps input node so_far session q (ToWork w) moved
      → MakesMove (with_inode_queue session (queue_with_waiting (session_in session moved).inode_queue q w) moved)) own
      (λ stepping. stepped_goes moved (with_inode_queue session (queue_with_waiting (session_in session moved).inode_queue req w) moved)
      refl refl (steps_heard session (ToWork w) moved stepping)) steps)
      (λ (apart : req ≢ q). same_goes next (steps_same req so_far session q (ToWork w) moved steps apart))
      (cases_eq req q)
  change_goes next (changes.Appends session q entry moved steps) = ⊎_elim
      (λ (own : req ≡ q).
      subst (λ (q : ℕ). RequestSteps input node so_far session q (ToEntry entry) moved → MakesMove (with_outbox_entry entry moved)) own
      (λ stepping. stepped_goes moved (with_outbox_entry entry moved) refl refl (steps_heard session (ToEntry entry) moved stepping)) steps)
      (λ (apart : req ≢ q). same_goes next (steps_same req so_far session q (ToEntry entry) moved steps apart))
      (cases_eq req q)
  change_goes next (changes.Replies session q reply moved steps) = ⊎_elim
      (λ (own : req ≡ q).
      subst (λ (q : ℕ). RequestSteps input node so_far session q (ToReply reply) moved → MakesMove (request_ended session q reply moved))
      own (λ stepping. ⊎_elim
      (λ (same : HasSameWork req so_far moved). same_goes (request_ended session req reply moved)
      (ended_same req so_far session req reply moved same)) (λ (heard : Heard moved). inr (heard_at_end session reply moved heard))
      (steps_heard session (ToReply reply) moved stepping)) steps)
      (λ (apart : req ≢ q). same_goes next (ended_same req so_far session q reply moved
      (steps_same req so_far session q (ToReply reply) moved steps apart))) (cases_eq req q)
  change_goes next (changes.Arrives session q ask disk arrival on) = same_goes next refl
  change_goes next (changes.Rejects session q ask cause arrival) = same_goes next refl
  change_goes next (changes.Recovers due) = same_goes next refl
