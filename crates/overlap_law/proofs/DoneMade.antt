-- A create or write of a node whose messages all succeeded was made: each of its targets has served it. So it is where its node learns of
-- the last message, in the middle of a step.
use Rattle.std.proofs.Common.{◌≡◌, ◌⊎◌, ⊎_elim, arith, ℕ, zero, suc, ◌<◌, ◌==◌, Bool, true, false, cond, All, List, [], ◌∷◌}
use Rattle.std.proofs.Common.{length, Some, slice_get, refl, sym, ap, subst, ◌∙◌}
use Rattle.std.specs.List.{list_all}
use Rattle.std.proofs.lemmas.Bool.{eqb-true, and_parts, and_from}
use Rattle.std.proofs.lemmas.List.{length-map}
use Rattle.std.proofs.lemmas.List.Elements.{All-contains}
use Rattle.std.proofs.lemmas.Option.{same_Some, slice_get_within}
use Rattle.cluster_script.specs.declared.statement.Statement.{Statement}
use Rattle.peer_proto.specs.declared.work.ObjWork.{ObjWork}
use Rattle.peer_proto.specs.declared.work.ObjWork.TheVariants.{Create, Write, Read, ReadAll}
use Rattle.gateway.specs.declared.message.Message.{Message}
use Rattle.gateway.specs.declared.message.Status.{Status}
use Rattle.gateway.specs.declared.message.Status.TheVariants.{Unanswered, Succeeded, Refused, Lost}
use Rattle.gateway.specs.Attempt as gateways
use Rattle.gateway.specs.Attempt.{is_success, is_done, messages_with_status}
use Rattle.gateway.specs.State.{Work, WorkStage, open_messages, is_awaited_in}
use Rattle.gateway.specs.Work.{is_making}
use Rattle.sheep_node.specs.Changes.{IsTold, LearnsStatus}
use Rattle.sheep_node.specs.StepState.{StepState}
use Rattle.sheep_world.specs.Began.{Began}
use Rattle.sheep_world.specs.EventKinds.{outcome_of_step}
use Rattle.sheep_world.specs.NodeCauses.{NodeCause, GuestAsks, RequestComes, ReplyComes, LossIsTold, EntryIsRead, EntryIsPut, RecoveryTicks}
use Rattle.sheep_world.specs.NodeCauses.{WorkIsRetried, ClientAsks, input_of_cause, event_of_cause, host_with_node, world_after_cause}
use Rattle.sheep_world.proofs.BegunWorlds.{goes_on}
use Rattle.overlap_law.specs.Attempts.{AttemptRecord, MessageFate, Served, known_fate, attempts_begun_by}
use Rattle.overlap_law.specs.MomentChanges.{RunsAreInRange}
use Rattle.overlap_law.specs.OpenWorks.{IsOpenAs, IsTheSame}
use Rattle.overlap_law.specs.Past.{MomentWithPast}
use Rattle.overlap_law.specs.StepMoments.{SteppingNode, IsStepping, StepsByChanges, LeadsInStep, first_in_step, moment_in_step}
use Rattle.overlap_law.specs.StepMoments.{attempts_at_cause}
use Rattle.overlap_law.specs.TiedAttempts.{IsTied}
use Rattle.overlap_law.specs.Words.{is_served, is_made}
use Rattle.overlap_law.proofs.AnswersInMoments.{not_lost}
use Rattle.overlap_law.proofs.AttemptLists.{map_got}
use Rattle.overlap_law.proofs.AttemptMessages.{contains_at}
use Rattle.overlap_law.proofs.AttemptsInSteps.{attempts-in_step}
use Rattle.overlap_law.proofs.KnownFates.{FitsFate, was_same, refated_same, got_either, begun_above}
use Rattle.overlap_law.proofs.KnownFatesLater.{KnownFatesFit, WasMarked, caused_was}
use Rattle.overlap_law.proofs.KnownSteps.{IsKnownStep, known_step}
use Rattle.overlap_law.proofs.OpeningTraffic.{me_so_far}
use Rattle.overlap_law.proofs.OpenInMoments.{same_node}
use Rattle.overlap_law.proofs.OpenStatuses.{WasMessage, IsNewMessage, known_so_far, told_waited}
use Rattle.overlap_law.proofs.WorkedSteps.{IsHad, numbers_given, reply_fits_had}

-- ---- lists

some_at : {X : Type 0} (xs : List X) (p : ℕ) → p < length xs → (x : X) × (slice_get xs p ≡ Some x)
some_at [] p within = absurd (omega (arith, within))
some_at (x ∷ xs) zero within = (x, refl)
some_at (x ∷ xs) (suc p) within = some_at xs p (omega (arith, within))

passes_at : {X : Type 0} (passes : X → Bool) (xs : List X) (p : ℕ) (x : X) → list_all passes xs ≡ true → slice_get xs p ≡ Some x
    → passes x ≡ true
passes_at passes [] p x all got = absurd (cc (got))
passes_at passes (y ∷ xs) zero x all got =
    ap passes (sym (same_Some y x got)) ∙ (and_parts (passes y) (list_all passes xs) all).0
passes_at passes (y ∷ xs) (suc p) x all got = passes_at passes xs p x (and_parts (passes y) (list_all passes xs) all).1 got

all_served : (fates : List MessageFate) → ((p : ℕ) (fate : MessageFate) → slice_get fates p ≡ Some fate → fate ≡ Served)
    → list_all is_served fates ≡ true
all_served [] each = refl
all_served (fate ∷ fates) each =
    and_from (is_served fate) (list_all is_served fates) (ap is_served (each zero fate refl))
    (all_served fates (λ p other got. each (suc p) other got))

-- ---- statuses

succeeded : (status : Status) → is_success status ≡ true → (bytes : List ℕ) × (status ≡ Succeeded bytes)
succeeded Unanswered is = absurd (cc (is))
succeeded (Succeeded bytes) is = (bytes, refl)
succeeded (Refused refusal) is = absurd (cc (is))
succeeded Lost is = absurd (cc (is))

fits_served : (status : Status) (fate : MessageFate) → is_success status ≡ true → FitsFate status fate → fate ≡ Served
fits_served status fate is fits = let (bytes, same) = succeeded status is in subst (λ (s : Status). FitsFate s fate) same fits

done_all : (work : ObjWork) (messages : List Message) → is_making work ≡ true → is_done work messages ≡ true
    → list_all (λ (message : Message). is_success message.status) messages ≡ true
done_all (Create oid policy size offset bytes) messages making done = done
done_all (Write oid policy offset bytes) messages making done = done
done_all (Read oid policy offset size) messages making done = absurd (cc (making))
done_all (ReadAll oid policy size) messages making done = absurd (cc (making))

-- ---- in the middle of a step

module _ (script : List Statement) (range : RunsAreInRange script) (start : MomentWithPast) (began : Began script start.world)
    (tied : IsTied start)
    (fit : KnownFatesFit start.world.hosts start.past.attempts) (stepping : SteppingNode) (is : IsStepping script start.world stepping)
    (by : StepsByChanges stepping.cause) (so_far : StepState) (leads : LeadsInStep stepping (first_in_step stepping) so_far) where
  known : IsKnownStep script start.world stepping
  known = known_step script range start.world began stepping is

  next : Began script (world_after_cause script stepping.n stepping.host stepping.cause start.world)
  next = goes_on script (event_of_cause stepping.n stepping.cause) start.world
      (outcome_of_step script stepping.n stepping.host stepping.cause start.world) began is.made

  me_so : so_far.node.me ≡ stepping.host.node.me
  me_so = same_node so_far.node.me stepping.host.node.me stepping.n (me_so_far script start.world stepping known so_far leads)
      known.numbered

  -- a success that is told is of a message that was served already
  told_served : (cause : NodeCause) → stepping.cause ≡ cause → (number : ℕ) (status : Status) → IsTold (input_of_cause cause) number status
      → is_success status ≡ true
      → (had : IsHad script range start began tied fit stepping.n stepping.host number) → had.fate ≡ Served
  told_served (GuestAsks session req ask) same number status told success had = absurd told
  told_served (RequestComes name to request) same number status told success had = absurd told
  told_served (ReplyComes name from rsp) same number status told success had =
      fits_served status had.fate success
      (reply_fits_had script range start began tied fit stepping.n stepping.host stepping.cause is.there is.up is.caused next []
      (record { whole = λ j attempt at. absurd (cc (at)); each = λ j attempt at. absurd (cc (at)) }) name from rsp same number status told
      had)
  told_served (LossIsTold name packet) same number status told success had =
      let lost : is_success status ≡ false = ap is_success (sym told.1) in absurd (cc (lost, success))
  told_served (EntryIsRead entry) same number status told success had = absurd told
  told_served (EntryIsPut entry) same number status told success had = absurd told
  told_served RecoveryTicks same number status told success had = absurd told
  told_served WorkIsRetried same number status told success had = absurd told
  told_served (ClientAsks req ask) same number status told success had = absurd told

  module _ (req number : ℕ) (work : Work) (current : gateways.Attempt) (status : Status)
      (learns : LearnsStatus (input_of_cause stepping.cause) stepping.host.node so_far req number work current status)
      (done : is_done work.work (messages_with_status number status current.messages) ≡ true)
      (j : ℕ) (attempt : AttemptRecord) (at : slice_get (moment_in_step script stepping start so_far).past.attempts j ≡ Some attempt)
      (opened : IsOpenAs so_far.node req work current attempt) (long : length attempt.fates ≡ length attempt.targets) where
    -- what is known of a message then is a success
    success_then : (p : ℕ) (m : Message) → slice_get current.messages p ≡ Some m
        → is_success (cond (m.number == number) (record m { status = status }) m).status ≡ true
    success_then p m got =
        passes_at (λ (message : Message). is_success message.status) (messages_with_status number status current.messages) p
        (cond (m.number == number) (record m { status = status }) m)
        (done_all work.work (messages_with_status number status current.messages) opened.making done)
        (map_got (λ (message : Message). cond (message.number == number) (record message { status = status }) message) current.messages p
        m got)

    -- a message that was one before
    module _ (p : ℕ) (m : Message) (got : slice_get current.messages p ≡ Some m) (fate : MessageFate)
        (has : slice_get attempt.fates p ≡ Some fate)
        (w : WasMessage (input_of_cause stepping.cause) stepping.host.node req work current p m) where
      opened_so : (v : WasMarked start.past.attempts j attempt) → IsOpenAs stepping.host.node req w.open_so.was w.open_so.before v.was
      opened_so v = record {
        there = w.open_so.there;
        making = subst (λ (o : ObjWork). is_making o ≡ true) w.open_so.work_so opened.making;
        stage = w.open_so.stage;
        same = was_same stepping.host.node so_far.node stepping.host.node.gateway.works req work current v.was me_so w.open_so
            (refated_same so_far.node req work.work current v.was v.fates
            (subst (IsTheSame so_far.node req work.work current) (sym v.same) opened.same));
      }

      -- the attempt was there, as its message was
      was_there : WasMarked start.past.attempts j attempt
      was_there = ⊎_elim
          (λ (old : slice_get (attempts_at_cause stepping.host.node stepping.cause start.past.attempts) j ≡ Some attempt).
          caused_was stepping.host.node stepping.cause start.past.attempts j attempt old)
          (λ (new : (k : ℕ) × (slice_get (attempts_begun_by stepping.host (host_with_node stepping.host so_far.node)) k ≡ Some attempt)).
          let above = (begun_above stepping.host (host_with_node stepping.host so_far.node) new.0 attempt new.1).0 in
          let number_at = opened.same.numbers p m got in
          let number_so = w.number_so in
          let below : w.m.number < stepping.host.node.sends
          = All-contains (λ (m : Message). m.number < stepping.host.node.sends) w.open_so.before.messages w.m
          (subst (λ (stage : WorkStage). All (λ (m : Message). m.number < stepping.host.node.sends) (open_messages stage)) w.open_so.stage
          (numbers_given script range start.world began stepping.n stepping.host is.there req w.open_so.was w.open_so.there))
          (contains_at w.open_so.before.messages p w.m w.at) in
          absurd (omega (arith, above, number_at, number_so, below)))
          (got_either (attempts_at_cause stepping.host.node stepping.cause start.past.attempts)
          (attempts_begun_by stepping.host (host_with_node stepping.host so_far.node)) j attempt
          (ap (λ (all : List AttemptRecord). slice_get all j) (sym (attempts-in_step script start stepping is by so_far)) ∙ at))

      fate_was : (f : MessageFate) × (slice_get was_there.was.fates p ≡ Some f) × ((fate ≡ f) ⊎ (fate ≡ known_fate was_there.told f))
      fate_was = was_there.fates_so p fate (ap (λ (a : AttemptRecord). slice_get a.fates p) was_there.same ∙ has)

      served_still : fate_was.0 ≡ Served → fate ≡ Served
      served_still served = ⊎_elim
          (λ (same : fate ≡ fate_was.0). same ∙ served)
          (λ (told : fate ≡ known_fate was_there.told fate_was.0). told ∙ ap (known_fate was_there.told) served)
          fate_was.2

      -- a success that the step is told
      told_so : (of : ℕ) (s : Status) → m.number ≡ of → IsTold (input_of_cause stepping.cause) of s
          → is_awaited_in m.number w.open_so.was ≡ true → is_success s ≡ true → fate ≡ Served
      told_so of s same told waits success =
          served_still (told_served stepping.cause refl of s told success (record {
            j = j;
            was = was_there.was;
            at = was_there.at;
            req = req;
            work = w.open_so.was;
            before = w.open_so.before;
            opened = opened_so was_there;
            place = p;
            m = w.m;
            m_at = w.at;
            number_so = sym same ∙ w.number_so;
            fate = fate_was.0;
            has = fate_was.1;
            waits = subst (λ (k : ℕ). is_awaited_in k w.open_so.was ≡ true) same waits;
          }))

      -- what was a success before
      was_success : is_success w.m.status ≡ true → fate ≡ Served
      was_success success =
          served_still (fits_served w.m.status fate_was.0 success
          (fit stepping.n stepping.host is.there (not_lost stepping.host is.up) j was_there.was was_there.at req w.open_so.was
          w.open_so.before p w.m
          fate_was.0 (opened_so was_there) w.at fate_was.1))

      old_served : fate ≡ Served
      old_served = by_test (m.number == number) refl (success_then p m got)
        where
          waited : is_awaited_in number work ≡ true → m.number ≡ number → is_awaited_in m.number w.open_so.was ≡ true
          waited waits same =
              let (was, there, awaited) = told_waited (input_of_cause stepping.cause) stepping.host.node known.given known.sound so_far
              leads number status
              learns.told req work learns.there waits in
              let one : was ≡ w.open_so.was = same_Some was w.open_so.was (sym there ∙ w.open_so.there) in
              (λ i. is_awaited_in (same i) (sym one i)) ∙ awaited

          by_test : (b : Bool) → (m.number == number) ≡ b → is_success (cond b (record m { status = status }) m).status ≡ true
              → fate ≡ Served
          by_test true own success =
              let same : m.number ≡ number = eqb-true m.number number own in
              told_so number status same learns.told (waited learns.awaited same) success
          by_test false other success = ⊎_elim
              (λ (same : m.status ≡ w.m.status). was_success (ap is_success (sym same) ∙ success))
              (λ (told : IsTold (input_of_cause stepping.cause) m.number m.status × (is_awaited_in m.number w.open_so.was ≡ true)).
              told_so m.number m.status refl told.0 told.1 success)
              w.status_so

    -- a message of this step isn't told of in it
    new_not : (p : ℕ) (m : Message) → slice_get current.messages p ≡ Some m
        → IsNewMessage (input_of_cause stepping.cause) stepping.host.node m → ⊥
    new_not p m got new = by_test (m.number == number) refl (success_then p m got)
      where
        by_test : (b : Bool) → (m.number == number) ≡ b → is_success (cond b (record m { status = status }) m).status ≡ true → ⊥
        by_test true own success =
            let same : m.number ≡ number = eqb-true m.number number own in
            let below : number < stepping.host.node.sends = known.given number status learns.told in
            let above = new.above in
            omega (arith, same, below, above)
        by_test false other success =
            let none : is_success m.status ≡ false = ap is_success new.unanswered in cc (none, success)

    served : (p : ℕ) (fate : MessageFate) → slice_get attempt.fates p ≡ Some fate → fate ≡ Served
    served p fate has =
        let within = slice_get_within attempt.fates p fate has in
        let same : length attempt.targets ≡ length current.messages
        = ap length opened.same.targets ∙ length-map current.messages (λ (message : Message). message.node) in
        let (m, got) = some_at current.messages p (omega (arith, within, long, same)) in
        ⊎_elim
        (λ (w : WasMessage (input_of_cause stepping.cause) stepping.host.node req work current p m). old_served p m got fate has w)
        (λ (new : IsNewMessage (input_of_cause stepping.cause) stepping.host.node m). absurd (new_not p m got new))
        (known_so_far (input_of_cause stepping.cause) stepping.host.node known.given known.sound so_far leads req work current p m
        learns.there
        learns.open_so got)

    pub done_made : is_made attempt ≡ true
    done_made = all_served attempt.fates served
