-- What a node knows of the messages of its open attempts after a step: each was open before, with what was known of its messages then, or
-- what the input told; or it began in the step, and nothing came of its messages yet.
use Rattle.std.proofs.Common.{◌≡◌, ◌≢◌, ◌⊎◌, inl, inr, ⊎_elim, arith, ℕ, zero, suc, ◌+◌, ◌≤◌, ◌<◌, ◌==◌, Bool, true, false, cond, List, []}
use Rattle.std.proofs.Common.{◌∷◌, Some, slice_get, refl, sym, ap, subst, ◌∙◌}
use Rattle.std.specs.List.{enumerate_from}
use Rattle.std.specs.Ordering.{nat_cmp}
use Rattle.std.specs.FinMap as tree
use Rattle.std.proofs.lemmas.Bool.{eqb-true}
use Rattle.std.proofs.lemmas.Option.{same_Some}
use Rattle.proof_tools.proofs.Booleans.{cond_either}
use Rattle.proof_tools.proofs.FiniteMaps.{get-insert_cases}
use Rattle.object_id.specs.declared.cause.Cause.TheVariants.{Halt}
use Rattle.object_id.specs.declared.entry.Entry.{Entry}
use Rattle.peer_proto.specs.Work.{oid_of, policy_of}
use Rattle.vnode_table.specs.Targets.{targets_in}
use Rattle.gateway.specs.declared.message.Message.{Message}
use Rattle.gateway.specs.declared.message.Status.{Status}
use Rattle.gateway.specs.declared.message.Status.TheVariants.{Unanswered}
use Rattle.gateway.specs.Work.{targets_asked, zones_for}
use Rattle.gateway.specs.Attempt as gateways
use Rattle.gateway.specs.Attempt.{message_for}
use Rattle.gateway.specs.State as gateway_states
use Rattle.gateway.specs.State.{Work, Open, Ended, WaitsForMembers, is_awaited_in}
use Rattle.gateway.specs.Step.{attempt_with_status}
use Rattle.recovery.specs.Steps as recovery_steps
use Rattle.sheep_node.specs.declared.input.Input.{Input}
use Rattle.sheep_node.specs.declared.input.Input.TheVariants as inputs
use Rattle.sheep_node.specs.State.{Node}
use Rattle.sheep_node.specs.RecoveryView.{recovery_state_of}
use Rattle.sheep_node.specs.StepState.{StepState, at_first}
use Rattle.sheep_node.specs.LogReading.{entry_read, on_back}
use Rattle.sheep_node.specs.Step.{on_request, recovery_stepped, on_put, on_recover_tick, node_step}
use Rattle.sheep_node.specs.Changes as changes
use Rattle.sheep_node.specs.Changes.{input_received, IsTold, IsSoundStep, LearnsStatus, without_ended_work, ToWork, ToEntry, ToReply}
use Rattle.sheep_node.specs.Changes.{attempt_in, with_open_attempt, without_denied_work, zones_of_members, WorkIsNext, Leads}
use Rattle.sheep_node.proofs.AwaitedWorks.{Works}
use Rattle.sheep_node.proofs.NumberChanges.{HasOneWorkAndNumber, change_keeps_both, both_in_chain}
use Rattle.sheep_node.proofs.OneWorkChanges.{StepHasOneWork, never_alone}
use Rattle.sheep_node.proofs.StepChain.{kept_by_chain, step_chain}
use Rattle.sheep_world.proofs.AskedAtChanges.{change_keeps_asks}
use Rattle.sheep_world.proofs.AskedWorks.{ToldIsBelow, AsksOn, StepAsksOn, asks_at_first}
use Rattle.overlap_law.specs.Attempts.{receivers}
use Rattle.overlap_law.proofs.AttemptLists.{got_map}
use Rattle.overlap_law.proofs.MarkedMessages.{number-marked, receivers-marked}
use Rattle.overlap_law.proofs.OpenAttempts.{WasOpen, Fewer, open_of, gone_fewer, ended_fewer, refused_fewer, denied_fewer, all_stay}
use Rattle.overlap_law.proofs.OpenAttempts.{steps_fewer, next_fewer}
use Rattle.overlap_law.proofs.SendsOfChanges.{SendsNothing, next_sends_nothing, count_above}

-- what was open between was open before
abbrev open_through : (old mid : Works) (req : ℕ) (work : Work) (current : gateways.Attempt) → (later : WasOpen mid req work current)
    → WasOpen old req later.was later.before → WasOpen old req work current
open_through old mid req work current later earlier = record {
  was = earlier.was;
  before = earlier.before;
  there = earlier.there;
  stage = earlier.stage;
  work_so = later.work_so ∙ earlier.work_so;
  epoch_so = later.epoch_so ∙ earlier.epoch_so;
  targets_so = later.targets_so ∙ earlier.targets_so;
  numbers_so = λ place message got.
      let (m, found, is) = later.numbers_so place message got in
      let (n, there, so) = earlier.numbers_so place m found in
      (n, there, is ∙ so);
}

-- the numbers of messages that are numbered from one on
numbered_from : {X : Type 0} (first : ℕ) (xs : List X) (place : ℕ) (x : ℕ × X) → slice_get (enumerate_from first xs) place ≡ Some x
    → first ≤ x.0
numbered_from {X = X} first [] place x got = absurd (cc (got))
numbered_from {X = X} first (y ∷ xs) zero x got = let same = ap (λ (e : ℕ × X). e.0) (same_Some (first, y) x got) in omega (arith, same)
numbered_from {X = X} first (y ∷ xs) (suc place) x got =
    let above = numbered_from {X = X} (first + 1) xs place x got in omega (arith, above)

module _ (input : Input) (node : Node) where
  -- a message of an open attempt was one before
  pub record WasMessage (req : ℕ) (work : Work) (current : gateways.Attempt) (place : ℕ) (message : Message) : Type 0 where
    pub open_so : WasOpen node.gateway.works req work current
    pub m : Message
    pub at : slice_get open_so.before.messages place ≡ Some m
    pub number_so : message.number ≡ m.number
    pub status_so : (message.status ≡ m.status) ⊎ (IsTold input message.number message.status
        × (is_awaited_in message.number open_so.was ≡ true))

  -- or was sent in this step
  pub record IsNewMessage (message : Message) : Type 0 where
    pub unanswered : message.status ≡ Unanswered
    pub above : node.sends ≤ message.number

  abbrev pub KnowsOf : Works → Type 0
  KnowsOf works = (req : ℕ) (work : Work) (current : gateways.Attempt) (place : ℕ) (message : Message) → tree.get works req ≡ Some work
      → work.stage ≡ Open current → slice_get current.messages place ≡ Some message
      → WasMessage req work current place message ⊎ IsNewMessage message

  -- the work of a request waited for a number
  abbrev pub WaitedFor : ℕ → ℕ → Type 0
  WaitedFor number req = (work : Work) × (tree.get node.gateway.works req ≡ Some work) × (is_awaited_in number work ≡ true)

  abbrev KnowsSoFar : StepState → Type 0
  KnowsSoFar so_far = KnowsOf so_far.node.gateway.works

  fewer_known : (old new : Works) → Fewer old new → KnowsOf old → KnowsOf new
  fewer_known old new less all req work current place message got = all req work current place message (less req work got)

  -- what was open at first
  first_known : (works : Works) → Fewer node.gateway.works works → KnowsOf works
  first_known works less req work current place message got stage at = inl (record {
    open_so = record {
      was = work;
      before = current;
      there = less req work got;
      stage = stage;
      work_so = refl;
      epoch_so = refl;
      targets_so = refl;
      numbers_so = λ place message got. (message, got, refl);
    };
    m = message;
    at = at;
    number_so = refl;
    status_so = inl refl;
  })

  none_open : (works : Works) → Fewer works tree.empty
  none_open works req work got = let none = tree.get-empty {X = Work} nat_cmp req in absurd (cc (got, none))

  shut_known : (old middle new : Works) (req : ℕ) (now : Work) → Fewer old middle → new ≡ tree.insert middle req now
      → ((current : gateways.Attempt) → now.stage ≢ Open current) → KnowsOf old → KnowsOf new
  shut_known old middle new req now less put never all q work current place message got stage at = ⊎_elim
      (λ (own : (q ≡ req) × (now ≡ work)). absurd (never current (ap (λ (w : Work). w.stage) own.1 ∙ stage)))
      (λ (other : (q ≢ req) × (tree.get middle q ≡ Some work)). all q work current place message (less q work other.1) stage at)
      (get-insert_cases middle req now q work (ap (λ (works : Works). tree.get works q) (sym put) ∙ got))

  marked_known : (given : ToldIsBelow input node.sends) (so_far : StepState) (req number : ℕ) (work : Work) (attempt : gateways.Attempt)
      (status : Status)
      → LearnsStatus input node so_far req number work attempt status → WaitedFor number req → KnowsSoFar so_far
      → KnowsOf (tree.insert so_far.node.gateway.works req (record work { stage = Open (attempt_with_status number status attempt) }))
  marked_known given so_far req number work attempt status learns waited all q other current place message got stage at =
      let works = so_far.node.gateway.works in
      let now : Work = record work { stage = Open (attempt_with_status number status attempt) } in
      ⊎_elim
      (λ (own : (q ≡ req) × (now ≡ other)).
      let same : attempt_with_status number status attempt ≡ current
      = open_of (attempt_with_status number status attempt) current (ap (λ (w : Work). w.stage) own.1 ∙ stage) in
      let between : WasOpen works q other current
      = record {
        was = work;
        before = attempt;
        there = ap (tree.get works) own.0 ∙ learns.there;
        stage = learns.open_so;
        work_so = sym (ap (λ (w : Work). w.work) own.1);
        epoch_so = sym (ap (λ (a : gateways.Attempt). a.epoch) same);
        targets_so = sym (ap (λ (a : gateways.Attempt). receivers a.messages) same) ∙ receivers-marked number status attempt.messages;
        numbers_so = λ place message got.
            let (m, found, is) = got_map (λ (message : Message). cond (message.number == number) (record message { status = status })
            message) attempt.messages place message
            (ap (λ (a : gateways.Attempt). slice_get a.messages place) same ∙ got) in
            (m, found, sym (ap (λ (m : Message). m.number) is) ∙ number-marked number status m (m.number == number));
      } in
      let (m, found, is) = got_map (λ (message : Message). cond (message.number == number) (record message { status = status }) message)
      attempt.messages place message
      (ap (λ (a : gateways.Attempt). slice_get a.messages place) same ∙ at) in
      let number_so : message.number ≡ m.number = sym (ap (λ (m : Message). m.number) is)
      ∙ number-marked number status m (m.number == number) in
      ⊎_elim
      (λ (was : WasMessage q work attempt place m).
      inl (record {
        open_so = open_through node.gateway.works works q other current between was.open_so;
        m = was.m;
        at = was.at;
        number_so = number_so ∙ was.number_so;
        status_so = by_number (m.number == number) m refl message is number_so own.0 was;
      }))
      (λ (new : IsNewMessage m).
      inr (record {
        unanswered = still_new (m.number == number) m refl message is new;
        above = subst (λ (k : ℕ). node.sends ≤ k) (sym number_so) new.above;
      }))
      (all q work attempt place m (ap (tree.get works) own.0 ∙ learns.there) learns.open_so found))
      (λ (elsewhere : (q ≢ req) × (tree.get works q ≡ Some other)). all q other current place message elsewhere.1 stage at)
      (get-insert_cases works req now q other got)
    where
      by_number : (b : Bool) {q : ℕ} {w : Work} {a : gateways.Attempt} {p : ℕ} → (m : Message) → (m.number == number) ≡ b
          → (message : Message)
          → cond (m.number == number) (record m { status = status }) m ≡ message → message.number ≡ m.number → q ≡ req
          → (was : WasMessage q w a p m)
          → (message.status ≡ was.m.status) ⊎ (IsTold input message.number message.status
          × (is_awaited_in message.number was.open_so.was ≡ true))
      by_number true m tie message is number_so own was =
          let same : m.number ≡ number = eqb-true m.number number tie in
          let marked : message.status ≡ status = sym (ap (λ (m : Message). m.status)
          (sym (ap (λ (b : Bool). cond b (record m { status = status }) m) tie) ∙ is)) in
          let (w, there, waits) = waited in
          let old : w ≡ was.open_so.was = same_Some w was.open_so.was (sym there ∙ ap (tree.get node.gateway.works) (sym own)
          ∙ was.open_so.there) in
          inr (
            subst (λ (s : Status). IsTold input message.number s) (sym marked)
                (subst (λ (k : ℕ). IsTold input k status) (sym (number_so ∙ same)) learns.told),
            (λ i. is_awaited_in ((number_so ∙ same) i) (sym old i)) ∙ waits,
          )
      by_number false m tie message is number_so own was =
          let same : message ≡ m = sym (sym (ap (λ (b : Bool). cond b (record m { status = status }) m) tie) ∙ is) in
          ⊎_elim
          (λ (old : m.status ≡ was.m.status). inl (ap (λ (m : Message). m.status) same ∙ old))
          (λ (told : IsTold input m.number m.status × (is_awaited_in m.number was.open_so.was ≡ true)).
          inr (subst (λ (m : Message). IsTold input m.number m.status × (is_awaited_in m.number was.open_so.was ≡ true)) (sym same) told))
          was.status_so

      still_new : (b : Bool) → (m : Message) → (m.number == number) ≡ b → (message : Message)
          → cond (m.number == number) (record m { status = status }) m ≡ message → IsNewMessage m → message.status ≡ Unanswered
      still_new true m tie message is new =
          let same : m.number ≡ number = eqb-true m.number number tie in
          let below : number < node.sends = given number status learns.told in
          let above = new.above in
          absurd (omega (arith, same, below, above))
      still_new false m tie message is new =
          sym (ap (λ (m : Message). m.status) (sym (ap (λ (b : Bool). cond b (record m { status = status }) m) tie) ∙ is)) ∙ new.unanswered

  opened_known : (so_far : StepState) (session req : ℕ) (asked : Work) (lined : StepState)
      → WorkIsNext input node so_far session req asked lined
      → node.sends ≤ so_far.node.sends → KnowsSoFar so_far → KnowsSoFar (with_open_attempt req asked lined)
  opened_known so_far session req asked lined comes above all q other current place message got stage at =
      let now : Work = record asked { stage = Open (attempt_in asked lined.node) } in
      ⊎_elim
      (λ (own : (q ≡ req) × (now ≡ other)).
      let same : attempt_in asked lined.node ≡ current = open_of (attempt_in asked lined.node) current
      (ap (λ (w : Work). w.stage) own.1 ∙ stage) in
      let places = targets_asked asked.work asked.ended (targets_in lined.node.epochs lined.node.peer.epoch (oid_of asked.work)
      (policy_of asked.work)) in
      let (e, found, is) = got_map (message_for asked.work) (enumerate_from lined.node.sends places) place message
      (ap (λ (a : gateways.Attempt). slice_get a.messages place) same ∙ at) in
      let low : lined.node.sends ≤ e.0 = numbered_from lined.node.sends places place e found in
      let count : lined.node.sends ≡ so_far.node.sends = (next_sends_nothing so_far session req asked lined comes).0 in
      let number : e.0 ≡ message.number = ap (λ (m : Message). m.number) is in
      inr (record { unanswered = sym (ap (λ (m : Message). m.status) is); above = omega (arith, low, count, number, above) }))
      (λ (elsewhere : (q ≢ req) × (tree.get lined.node.gateway.works q ≡ Some other)).
      all q other current place message (next_fewer so_far session req asked lined comes q other elsewhere.1) stage at)
      (get-insert_cases lined.node.gateway.works req now q other got)

  module _ (given : ToldIsBelow input node.sends) where
    -- what is told of in the middle of a step was waited for
    abbrev pub ToldWasWaited : StepState → Type 0
    ToldWasWaited so_far =
        (number : ℕ) (status : Status) → IsTold input number status → (req : ℕ) (work : Work) → tree.get so_far.node.gateway.works req
        ≡ Some work
        → is_awaited_in number work ≡ true → WaitedFor number req

    change_known : (so_far next : StepState) → StepHasOneWork so_far → node.sends ≤ so_far.node.sends → ToldWasWaited so_far
        → changes.Change input node so_far next
        → KnowsSoFar so_far → KnowsSoFar next
    change_known so_far next good above waited (changes.Marks req number work attempt status learns over) all =
        marked_known given so_far req number work attempt status learns
        (waited number status learns.told req work learns.there learns.awaited) all
    change_known so_far next good above waited (changes.Fails session req number work attempt status course ends done why) all =
        shut_known so_far.node.gateway.works so_far.node.gateway.works next.node.gateway.works req
        (record work { ended = work.ended + 1; stage = Ended }) (all_stay so_far.node.gateway.works) refl (λ current is. absurd (cc (is)))
        all
    change_known so_far next good above waited (changes.Stops session req number work attempt status course bytes ends over) all =
        fewer_known so_far.node.gateway.works next.node.gateway.works (gone_fewer so_far.node.gateway.works req) all
    change_known so_far next good above waited (changes.Refuses session req number work attempt status course cause ends done why) all =
        fewer_known so_far.node.gateway.works next.node.gateway.works
        (refused_fewer so_far.node.gateway.works session req cause course (without_ended_work session req work status so_far)
        (gone_fewer so_far.node.gateway.works req)) all
    change_known so_far next good above waited (changes.Opens session req asked lined comes enough) all =
        opened_known so_far session req asked lined comes above all
    change_known so_far next good above waited (changes.Holds session req asked lined comes short touched) all =
        shut_known so_far.node.gateway.works lined.node.gateway.works next.node.gateway.works req
        (record asked { stage = WaitsForMembers (record { 0 = lined.node.peer.epoch }) }) (next_fewer so_far session req asked lined comes)
        refl (λ current is. absurd (cc (is))) all
    change_known so_far next good above waited (changes.Denies session req asked lined request comes short untouched there own) all =
        fewer_known so_far.node.gateway.works next.node.gateway.works
        (denied_fewer so_far.node.gateway.works req (Halt (zones_of_members lined.node) (zones_for asked.work)) request
        (without_denied_work session req asked lined) (λ q other got. next_fewer so_far session req asked lined comes q other
        (gone_fewer lined.node.gateway.works req q other got))) all
    change_known so_far next good above waited (changes.Strays req work gateway there none apart) all =
        absurd (never_alone req work so_far there none good)
    change_known so_far next good above waited (changes.Lines session req work moved steps waits) all =
        fewer_known so_far.node.gateway.works next.node.gateway.works (steps_fewer so_far session req (ToWork work) moved steps) all
    change_known so_far next good above waited (changes.Appends session req entry moved steps) all =
        fewer_known so_far.node.gateway.works next.node.gateway.works (steps_fewer so_far session req (ToEntry entry) moved steps) all
    change_known so_far next good above waited (changes.Replies session req reply moved steps) all =
        fewer_known so_far.node.gateway.works next.node.gateway.works
        (ended_fewer so_far.node.gateway.works session req reply moved (steps_fewer so_far session req (ToReply reply) moved steps)) all
    change_known so_far next good above waited (changes.Arrives session req ask disk arrival on) all = all
    change_known so_far next good above waited (changes.Rejects session req ask cause arrival) all = all
    change_known so_far next good above waited (changes.Recovers due) all = all

    received_fewer : Fewer node.gateway.works (input_received input (at_first node)).node.gateway.works
    unfolding entry_read on_request on_recover_tick on_back
    received_fewer = by_input input
      where
        same_works : Fewer node.gateway.works node.gateway.works
        same_works = all_stay node.gateway.works

        by_input : (input : Input) → Fewer node.gateway.works (input_received input (at_first node)).node.gateway.works
        by_input (inputs.Guest req session ask) = same_works
        by_input (inputs.Request request) = same_works
        by_input (inputs.Reply rsp) =
            cond_either (λ (start : StepState). Fewer node.gateway.works start.node.gateway.works)
            (gateway_states.gateway_awaits rsp.number node.gateway) (at_first node)
            (recovery_stepped (recovery_steps.recovery_on_reply rsp (recovery_state_of node)) (at_first node)) same_works same_works
        by_input (inputs.Lost number) =
            cond_either (λ (start : StepState). Fewer node.gateway.works start.node.gateway.works)
            (gateway_states.gateway_awaits number node.gateway) (at_first node)
            (recovery_stepped (recovery_steps.recovery_on_loss number (recovery_state_of node)) (at_first node)) same_works same_works
        by_input (inputs.LogEntry entry) = same_works
        by_input inputs.Put = by_outbox node.outbox
          where
            by_outbox : (outbox : List Entry) → Fewer node.gateway.works (on_put outbox (at_first node)).node.gateway.works
            by_outbox [] = same_works
            by_outbox (entry ∷ later) = same_works
        by_input inputs.RecoverTick = same_works
        by_input inputs.RetryTick = same_works
        by_input (inputs.Back entries) = none_open node.gateway.works

    module _ (sound : IsSoundStep input node) where
      abbrev start : StepState
      start = input_received input (at_first node)

      -- where the input tells of a message it sends nothing
      silent_told : (number : ℕ) (status : Status) → IsTold input number status → SendsNothing (at_first node) start
      unfolding entry_read
      silent_told number status told = by_input input told
        where
          by_input : (input : Input) → IsTold input number status → SendsNothing (at_first node) (input_received input (at_first node))
          by_input (inputs.Reply rsp) told =
              cond_either (SendsNothing (at_first node)) (gateway_states.gateway_awaits rsp.number node.gateway) (at_first node)
              (recovery_stepped (recovery_steps.recovery_on_reply rsp (recovery_state_of node)) (at_first node)) (refl, refl) (refl, refl)
          by_input (inputs.Lost lost) told =
              cond_either (SendsNothing (at_first node)) (gateway_states.gateway_awaits lost node.gateway) (at_first node)
              (recovery_stepped (recovery_steps.recovery_on_loss lost (recovery_state_of node)) (at_first node)) (refl, refl) (refl, refl)
          by_input (inputs.Guest req session ask) told = absurd told
          by_input (inputs.Request request) told = absurd told
          by_input (inputs.LogEntry entry) told = absurd told
          by_input inputs.Put told = absurd told
          by_input inputs.RecoverTick told = absurd told
          by_input inputs.RetryTick told = absurd told
          by_input (inputs.Back entries) told = absurd told

      pub told_waited : (so_far : StepState) → Leads input node start so_far → ToldWasWaited so_far
      told_waited so_far leads number status told req work there waits =
          let (count_so, sends_so) = silent_told number status told in
          let below : ToldIsBelow input start.node.sends = λ n s t. subst (λ (k : ℕ). n < k) (sym count_so) (given n s t) in
          let asks : StepAsksOn input start.node so_far
          = (kept_by_chain (λ (so_far : StepState). HasOneWorkAndNumber so_far × StepAsksOn input start.node so_far)
          (λ so_far next change so. (
            change_keeps_both so_far next change sound so.0,
            change_keeps_asks input start.node node sound below so_far next change so.0 so.1,
          )) leads (
            both_in_chain input node sound start changes.Still,
            subst (AsksOn input start.node start.node.me start.node.gateway.works start.node.sends) (sym sends_so)
                (asks_at_first input start.node),
          )).1 in
          let (w, was, same, waited) = asks.was req number work there (below number status told) waits in
          (w, received_fewer req w was, waited)

      pub known_so_far : (so_far : StepState) → Leads input node (input_received input (at_first node)) so_far → KnowsSoFar so_far
      known_so_far so_far changes.Still = first_known so_far.node.gateway.works received_fewer
      known_so_far last (changes.Then {so_far} {next} leads change) =
          change_known so_far next (both_in_chain input node sound so_far leads).0 (count_above so_far leads) (told_waited so_far leads)
          change (known_so_far so_far leads)

      -- and so it is at the end of the step
      pub knows_after : KnowsOf (node_step input node).node.gateway.works
      knows_after = known_so_far (node_step input node) (step_chain input node)
