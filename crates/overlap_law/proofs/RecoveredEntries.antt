-- The changes of a step put no `Recovered` into the outbox but that of the node's recovery, once it is finished.
use Rattle.std.proofs.Common.{◌≡◌, ◌≢◌, ◌⊎◌, inl, inr, ⊎_elim, ℕ, ◌==◌, ◌&&◌, ◌||◌, Bool, true, false, not, List, [], ◌∷◌, ◌++◌, Option}
use Rattle.std.proofs.Common.{Some, None, IfSome, refl, sym, ap, subst, ◌∙◌}
use Rattle.std.specs.List.{list_any}
use Rattle.std.specs.Ordering.{nat_cmp}
use Rattle.std.specs.FinMap as tree
use Rattle.std.specs.Option.{option_map_or}
use Rattle.std.proofs.lemmas.List.{append-nil}
use Rattle.std.proofs.lemmas.List.Folds.{list_any-append}
use Rattle.std.proofs.lemmas.Bool.{cases_eq, and_parts, eqb-true, not-true, or_cases}
use Rattle.proof_tools.proofs.Booleans.{cond_either}
use Rattle.proof_tools.proofs.FiniteMaps.{get-insert_cases, get-remove_other, get-remove_same}
use Rattle.object_id.specs.declared.cause.Cause.{Cause}
use Rattle.object_id.specs.declared.cause.Cause.TheVariants.{Halt}
use Rattle.object_id.specs.declared.node.NodeId.{NodeId}
use Rattle.object_id.specs.declared.entry.Entry.{Entry}
use Rattle.object_id.specs.declared.entry.Entry.TheVariants.{Recovered}
use Rattle.epoch_log.specs.Epochs.{recovers}
use Rattle.peer_proto.specs.declared.guest.GuestRsp.{GuestRsp}
use Rattle.peer_proto.specs.declared.guest.GuestRsp.TheVariants.{Refused}
use Rattle.peer_service.specs.State.{effects_of}
use Rattle.peer_service.specs.LogReading.{decision_on}
use Rattle.gateway.specs.Work.{zones_for}
use Rattle.gateway.specs.State as gateways
use Rattle.gateway.specs.State.{Work}
use Rattle.recovery.specs.State.{RecoveryState, is_finished}
use Rattle.recovery.specs.Steps as recovery_steps
use Rattle.guest_driver.specs.declared.act.DriverAct.{DriverAct}
use Rattle.guest_driver.specs.declared.act.DriverAct.TheVariants as driver_acts
use Rattle.guest_driver.specs.Driver as drivers
use Rattle.vdi_ops.specs.declared.act.OpAct.{OpAct}
use Rattle.vdi_ops.specs.declared.act.OpAct.TheVariants as op_acts
use Rattle.vdi_ops.specs.declared.end.OpEnd.{OpEnd}
use Rattle.vdi_ops.specs.Op as ops
use Rattle.vdi_ops.specs.Op.{Task, Opening, WritingBack, Tagging, Copying, Making, OpStage, Asked, Working, Publishing, Answered, Op}
use Rattle.vdi_ops.specs.Op.{IsAwaitedAtOpStage, IsAwaitedByCommand}
use Rattle.vdi_ops.specs.Steps.{begin_command, on_decision, op_on_done, on_refusal}
use Rattle.vdi_ops.proofs.StepLemmas.{begin_awaited, done_awaited, decision_awaited}
use Rattle.disk_check.specs.declared.act.CheckAct.{CheckAct}
use Rattle.disk_check.specs.declared.act.CheckAct.TheVariants as check_acts
use Rattle.disk_check.specs.Check.{begin_check}
use Rattle.sheep_node.specs.declared.input.Input.{Input}
use Rattle.sheep_node.specs.declared.input.Input.TheVariants as inputs
use Rattle.sheep_node.specs.declared.course.Course.{Course}
use Rattle.sheep_node.specs.declared.course.Request.{Request}
use Rattle.sheep_node.specs.declared.course.Course.TheVariants.{Waiting, Driving, Commanding, Checking, DoingWork, AwaitingDecision}
use Rattle.sheep_node.specs.State.{Node, initial_node}
use Rattle.sheep_node.specs.RecoveryView.{recovery_state_of}
use Rattle.sheep_node.specs.StepState.{StepState, at_first, with_optional_entry, session_in, request_ended, with_sole_request}
use Rattle.sheep_node.specs.RequestWorks.{command_refused, course_refused}
use Rattle.sheep_node.specs.Courses.{inode_open, after_command_step}
use Rattle.sheep_node.specs.LogReading.{entry_read, on_back}
use Rattle.sheep_node.specs.Step.{on_request, recovery_stepped, on_put, on_recover_tick, node_step}
use Rattle.sheep_node.specs.Changes as changes
use Rattle.sheep_node.specs.Changes.{HasRequest, Outcome, ToWork, ToEntry, ToReply, outcome_of_driver, outcome_of_command, outcome_of_check}
use Rattle.sheep_node.specs.Changes.{without_ended_work, RequestSteps, DiskBegins, DiskGoesOn, CommandBegins, CommandGoesOn, CommandDecided}
use Rattle.sheep_node.specs.Changes.{CheckBegins, CheckGoesOn, ObjectBegins, ObjectIsDone, EntryBegins, EntryDecided, WorkIsNext, AtOnce}
use Rattle.sheep_node.specs.Changes.{InTurn, Again, AgainAlone, input_received, Change, Leads}
use Rattle.sheep_node.proofs.OneWorkChanges.{awaited_of}
use Rattle.sheep_node.proofs.StepChain.{kept_by_chain, step_chain}
use Rattle.overlap_law.proofs.AskedEntries.{IsAskedEntry, IsStageToAsked, IsCourseToAsked, OnlyAskedEntries, AsksForNoRecovered}
use Rattle.overlap_law.proofs.AskedEntries.{recovers_none, StepTo, begin_to, done_to, decision_to, refusal_to, step_to}

-- ---- what holds at each point of a step

abbrev At : Request → Type 0
At request = IsCourseToAsked request.course

module _ (requests : tree.FinMap nat_cmp Request) (all : (req : ℕ) (request : Request) → tree.get requests req ≡ Some request → At request) where
  all_put : (req : ℕ) (request : Request) → At request → (q : ℕ) (at : Request) → tree.get (tree.insert requests req request) q ≡ Some at → At at
  all_put req request so q at got = ⊎_elim
      (λ (own : (q ≡ req) × (request ≡ at)). subst At own.1 so)
      (λ (other : (q ≢ req) × (tree.get requests q ≡ Some at)). all q at other.1)
      (get-insert_cases requests req request q at got)

  all_gone : (req q : ℕ) (at : Request) → tree.get (tree.remove requests req) q ≡ Some at → At at
  all_gone req q at got = ⊎_elim
      (λ (own : q ≡ req).
      let none : tree.get (tree.remove requests req) q ≡ None = ap (tree.get (tree.remove requests req)) own ∙ get-remove_same requests req in
      absurd (cc (none, got)))
      (λ (other : q ≢ req). all q at (sym (get-remove_other requests req q other) ∙ got))
      (cases_eq q req)

-- this `Recovered` is of the node's recovery, which is finished, and was put
pub record IsOwnEnd (first : Node) (recovered : Bool) (epoch node : ℕ) : Type 0 where
  pub finished : is_finished (recovery_state_of first) ≡ true
  pub due : first.recovered ≡ false
  pub of_epoch : first.recovery.epoch ≡ epoch
  pub by_node : first.me.0 ≡ node
  pub put : recovered ≡ true

abbrev Requests : Type 0
Requests = tree.FinMap nat_cmp Request

-- since the input was received only the node's own end was put, and only a finished recovery is recovered
pub record PutsOwnEnd (first : Node) (me : NodeId) (state : RecoveryState) (requests : Requests) (recovered : Bool) (outbox : List Entry) : Type 0 where
  pub me_so : me ≡ first.me
  pub state_so : state ≡ recovery_state_of first
  pub only : (req : ℕ) (request : Request) → tree.get requests req ≡ Some request → At request
  pub ended : recovered ≡ true → (first.recovered ≡ true) ⊎ (is_finished (recovery_state_of first) ≡ true)
  pub stays : first.recovered ≡ true → recovered ≡ true
  pub puts : (epoch node : ℕ) → list_any (recovers epoch node) outbox ≡ true
      → (list_any (recovers epoch node) first.outbox ≡ true) ⊎ IsOwnEnd first recovered epoch node

module _ (first : Node) where
  abbrev pub PutsOnlyItsEnd : StepState → Type 0
  PutsOnlyItsEnd so_far =
      PutsOwnEnd first so_far.node.me (recovery_state_of so_far.node) so_far.node.requests so_far.node.recovered so_far.node.outbox

  abbrev NextTo : Outcome → Type 0
  NextTo (ToWork work) = Unit {0}
  NextTo (ToEntry entry) = IsAskedEntry entry
  NextTo (ToReply reply) = Unit {0}

  append_to : (entry : Entry) (stage : OpStage) → IsAwaitedAtOpStage (op_acts.Append entry) stage → IsStageToAsked stage → IsAskedEntry entry
  append_to entry (Asked wanted) awaited of = let same : entry ≡ wanted = cc (awaited) in subst IsAskedEntry (sym same) of
  append_to entry (Working vid task) awaited of = absurd (cc (awaited.1))
  append_to entry (Publishing wanted opened) awaited of = let same : entry ≡ wanted = cc (awaited) in subst IsAskedEntry (sym same) of
  append_to entry (Answered change) awaited of = absurd (cc (awaited.1))

  command_next : (act : OpAct) (stage : OpStage) → IsAwaitedAtOpStage act stage → IsStageToAsked stage → NextTo (outcome_of_command act)
  command_next (op_acts.Append entry) stage awaited of = append_to entry stage awaited of
  command_next (op_acts.Work work) stage awaited of = tt
  command_next (op_acts.Reply reply) stage awaited of = tt

  driver_next : (act : DriverAct) → NextTo (outcome_of_driver act)
  driver_next (driver_acts.Work work) = tt
  driver_next (driver_acts.Reply reply) = tt

  check_next : (act : CheckAct) → NextTo (outcome_of_check act)
  check_next (check_acts.Work work) = tt
  check_next (check_acts.Reply found) = tt

  module _ (me : NodeId) (state : RecoveryState) (requests : Requests) (recovered : Bool) (outbox : List Entry)
      (so : PutsOwnEnd first me state requests recovered outbox) where
    -- a request is put anew
    with_request : (req : ℕ) (request : Request) → At request → PutsOwnEnd first me state (tree.insert requests req request) recovered outbox
    with_request req request of = record {
      me_so = so.me_so;
      state_so = so.state_so;
      only = all_put requests so.only req request of;
      ended = so.ended;
      stays = so.stays;
      puts = so.puts;
    }

    -- or is no more
    without_request : (req : ℕ) → PutsOwnEnd first me state (tree.remove requests req) recovered outbox
    without_request req =
        record { me_so = so.me_so; state_so = so.state_so; only = all_gone requests so.only req; ended = so.ended; stays = so.stays; puts = so.puts }

    -- an entry is put that a request asked for
    with_asked : (entry : Entry) → IsAskedEntry entry → PutsOwnEnd first me state requests recovered (outbox ++ entry ∷ [])
    with_asked entry of = record {
      me_so = so.me_so;
      state_so = so.state_so;
      only = so.only;
      ended = so.ended;
      stays = so.stays;
      puts = λ epoch node there. ⊎_elim
          (λ (old : list_any (recovers epoch node) outbox ≡ true). so.puts epoch node old)
          (λ (new : (recovers epoch node entry || false) ≡ true). absurd (not_new epoch node new))
          (or_cases (list_any (recovers epoch node) outbox) (recovers epoch node entry || false)
          (sym (list_any-append (recovers epoch node) outbox (entry ∷ [])) ∙ there));
    }
      where
        not_new : (epoch node : ℕ) → (recovers epoch node entry || false) ≡ true → ⊥
        not_new epoch node new =
            let none : (recovers epoch node entry || false) ≡ false = ap (λ (b : Bool). b || false) (recovers_none epoch node entry of) in
            absurd (cc (none, new))

    -- the end of the recovery is put
    with_end : (entry_me : NodeId) (epoch_now : ℕ) → entry_me ≡ me → epoch_now ≡ state.recovery.epoch → is_finished state ≡ true → recovered ≡ false
        → PutsOwnEnd first me state requests true (outbox ++ Recovered entry_me (record { 0 = epoch_now }) ∷ [])
    with_end entry_me epoch_now own now finished due =
        let finished_first : is_finished (recovery_state_of first) ≡ true = ap is_finished (sym so.state_so) ∙ finished in
        record {
          me_so = so.me_so;
          state_so = so.state_so;
          only = so.only;
          ended = λ put. inr finished_first;
          stays = λ was. refl;
          puts = λ epoch node there. ⊎_elim
              (λ (old : list_any (recovers epoch node) outbox ≡ true). ⊎_elim
              (λ (before : list_any (recovers epoch node) first.outbox ≡ true). inl before)
              (λ (end : IsOwnEnd first recovered epoch node).
              inr (record { finished = end.finished; due = end.due; of_epoch = end.of_epoch; by_node = end.by_node; put = refl }))
              (so.puts epoch node old))
              (λ (new : ((epoch_now == epoch && entry_me.0 == node) || false) ≡ true). inr (newly epoch node (epoch_now == epoch) (entry_me.0 == node) refl refl new finished_first))
              (or_cases (list_any (recovers epoch node) outbox) ((epoch_now == epoch && entry_me.0 == node) || false)
              (sym (list_any-append (recovers epoch node) outbox (Recovered entry_me (record { 0 = epoch_now }) ∷ [])) ∙ there));
        }
      where
        first_due : (b : Bool) → first.recovered ≡ b → first.recovered ≡ false
        first_due true was = let put = so.stays was in absurd (cc (put, due))
        first_due false was = was

        newly : (epoch node : ℕ) (a b : Bool) → (epoch_now == epoch) ≡ a → (entry_me.0 == node) ≡ b → ((a && b) || false) ≡ true
            → is_finished (recovery_state_of first) ≡ true → IsOwnEnd first true epoch node
        newly epoch node true true one two is finished = record {
          finished = finished;
          due = first_due first.recovered refl;
          of_epoch = ap (λ (s : RecoveryState). s.recovery.epoch) (sym so.state_so) ∙ sym now ∙ eqb-true epoch_now epoch one;
          by_node = ap (λ (m : NodeId). m.0) (sym so.me_so) ∙ ap (λ (m : NodeId). m.0) (sym own) ∙ eqb-true entry_me.0 node two;
          put = refl;
        }
        newly epoch node true false one two is finished = absurd (cc (is))
        newly epoch node false b one two is finished = absurd (cc (is))

  command_put : (session req : ℕ) (step : ops.OpStep) (so_far : StepState) → IsAwaitedByCommand step → StepTo step → PutsOnlyItsEnd so_far
      → PutsOnlyItsEnd (after_command_step session req step so_far) × NextTo (outcome_of_command step.act)
  command_put session req step so_far awaited of so = (
    with_request so_far.node.me (recovery_state_of so_far.node) so_far.node.requests so_far.node.recovered so_far.node.outbox so req
        (record { session = session; course = Commanding step.op }) of,
    command_next step.act step.op.stage awaited of,
  )

  course_put : (session req : ℕ) (course : Course) (so_far : StepState) → IsCourseToAsked course → PutsOnlyItsEnd so_far
      → PutsOnlyItsEnd (with_sole_request session req course so_far)
  course_put session req course so_far of so =
      with_request so_far.node.me (recovery_state_of so_far.node) so_far.node.requests so_far.node.recovered so_far.node.outbox so req
      (record { session = session; course = course }) of

  module _ (input : Input) (node : Node) (asked : AsksForNoRecovered input) where
    steps_put : (so_far : StepState) (session req : ℕ) (next : Outcome) (moved : StepState) → RequestSteps input node so_far session req next moved
        → PutsOnlyItsEnd so_far → PutsOnlyItsEnd moved × NextTo next
    steps_put so_far session req next moved (DiskBegins ask disk there on may) so = (
      with_request so_far.node.me (recovery_state_of so_far.node) so_far.node.requests so_far.node.recovered so_far.node.outbox so req
          (record { session = session; course = Driving (drivers.begin_driver disk ask).driver }) tt,
      driver_next (drivers.begin_driver disk ask).act,
    )
    steps_put so_far session req next moved (DiskGoesOn number work attempt status bytes driver disk step ends on is) so = (
      with_request so_far.node.me (recovery_state_of so_far.node) so_far.node.requests so_far.node.recovered so_far.node.outbox so req
          (record { session = session; course = Driving step.driver }) tt,
      driver_next step.act,
    )
    steps_put so_far session req next moved (CommandBegins ask step arrival is) so =
        let disk = inode_open (session_in session so_far).disk in
        command_put session req step so_far
        (awaited_of (begin_command so_far.node.me session ask disk) step (begin_awaited so_far.node.me session ask disk) is)
        (step_to (begin_command so_far.node.me session ask disk) step (begin_to so_far.node.me session ask disk) is) so
    steps_put so_far session req next moved (CommandGoesOn number work attempt status bytes op step ends is) so =
        let of = so.only req (record { session = session; course = Commanding op }) ends.ends.request in
        command_put session req step (without_ended_work session req work status so_far)
        (awaited_of (op_on_done bytes op) step (done_awaited bytes op) is) (step_to (op_on_done bytes op) step (done_to op bytes of) is) so
    steps_put so_far session req next moved (CommandDecided entry op step from read there waits is) so =
        command_put session req step so_far
        (awaited_of (on_decision (effects_of so_far.node.peer) (inode_open (session_in session so_far).disk) (decision_on entry node.peer) op) step
        (decision_awaited (effects_of so_far.node.peer) (inode_open (session_in session so_far).disk) (decision_on entry node.peer) op) is)
        (step_to (on_decision (effects_of so_far.node.peer) (inode_open (session_in session so_far).disk) (decision_on entry node.peer) op) step
        (decision_to op (effects_of so_far.node.peer) (inode_open (session_in session so_far).disk) (decision_on entry node.peer)) is) so
    steps_put so_far session req next moved (CheckBegins inode arrival on) so =
        (course_put session req (Checking (begin_check inode).check) so_far tt so, check_next (begin_check inode).act)
    steps_put so_far session req next moved (CheckGoesOn number work attempt status bytes check step ends is) so =
        (course_put session req (Checking step.check) (without_ended_work session req work status so_far) tt so, check_next step.act)
    steps_put so_far session req next moved (ObjectBegins work arrival) so = (course_put session req (DoingWork work) so_far tt so, tt)
    steps_put so_far session req next moved (ObjectIsDone number work attempt status bytes done ends) so = (so, tt)
    steps_put so_far session req next moved (EntryBegins entry arrival) so =
        let of : IsAskedEntry entry = subst AsksForNoRecovered arrival.from asked in
        (course_put session req (AwaitingDecision entry) so_far of so, of)
    steps_put so_far session req next moved (EntryDecided entry wanted from read there waits) so = (so, tt)

    next_puts : (so_far : StepState) (session req : ℕ) (work : Work) (lined : StepState) → WorkIsNext input node so_far session req work lined
        → PutsOnlyItsEnd so_far → PutsOnlyItsEnd lined
    next_puts so_far session req work lined (AtOnce own moved steps begins) so = (steps_put so_far session req (ToWork own) moved steps so).0
    next_puts so_far session req work lined (InTurn own later none is) so = so
    next_puts so_far session req work lined (Again own course from next there request) so = so
    next_puts so_far session req work lined (AgainAlone own from next there none) so = so

    ended_puts : (session req : ℕ) (reply : GuestRsp) (so_far : StepState) → PutsOnlyItsEnd so_far → PutsOnlyItsEnd (request_ended session req reply so_far)
    unfolding request_ended
    ended_puts session req reply so_far so =
        without_request so_far.node.me (recovery_state_of so_far.node) so_far.node.requests so_far.node.recovered so_far.node.outbox so req

    refused_puts : (session req : ℕ) (cause : Cause) (course : Course) (so_far : StepState) → PutsOnlyItsEnd so_far
        → PutsOnlyItsEnd (course_refused session req cause course so_far)
    refused_puts session req cause (Waiting ask) so_far so = so
    refused_puts session req cause (Driving driver) so_far so = ended_puts session req (Refused cause) so_far so
    refused_puts session req cause (Checking check) so_far so = ended_puts session req (Refused cause) so_far so
    refused_puts session req cause (DoingWork work) so_far so = ended_puts session req (Refused cause) so_far so
    refused_puts session req cause (AwaitingDecision entry) so_far so = so
    refused_puts session req cause (Commanding op) so_far so = by_end (on_refusal cause op) (refusal_to op cause)
      where
        unlocked : (unlock : Option Entry) → IfSome unlock IsAskedEntry → PutsOnlyItsEnd (with_optional_entry unlock so_far)
        unlocked None of =
            subst (λ (outbox : List Entry). PutsOwnEnd first so_far.node.me (recovery_state_of so_far.node) so_far.node.requests so_far.node.recovered outbox)
            (sym (append-nil so_far.node.outbox)) so
        unlocked (Some entry) of =
            with_asked so_far.node.me (recovery_state_of so_far.node) so_far.node.requests so_far.node.recovered so_far.node.outbox so entry of

        by_end : (end : Option OpEnd) → IfSome end (λ (end : OpEnd). IfSome end.unlock IsAskedEntry) → PutsOnlyItsEnd (command_refused session req end so_far)
        by_end None of = so
        by_end (Some end) of = ended_puts session req end.reply (with_optional_entry end.unlock so_far) (unlocked end.unlock of)

    request_refused_puts : (req : ℕ) (cause : Cause) (request : Option Request) (so_far : StepState) → PutsOnlyItsEnd so_far
        → PutsOnlyItsEnd (option_map_or (λ (request : Request). course_refused request.session req cause request.course so_far) request so_far)
    request_refused_puts req cause None so_far so = so
    request_refused_puts req cause (Some request) so_far so = refused_puts request.session req cause request.course so_far so

    pub change_puts : (so_far next : StepState) → Change input node so_far next → PutsOnlyItsEnd so_far → PutsOnlyItsEnd next
    change_puts so_far next (changes.Marks req number work attempt status learns over) so = so
    change_puts so_far next (changes.Fails session req number work attempt status course ends done why) so = so
    change_puts so_far next (changes.Stops session req number work attempt status course bytes ends over) so = so
    change_puts so_far next (changes.Refuses session req number work attempt status course cause ends done why) so =
        refused_puts session req cause course (without_ended_work session req work status so_far) so
    change_puts so_far next (changes.Opens session req work lined comes short) so = next_puts so_far session req work lined comes so
    change_puts so_far next (changes.Holds session req work lined comes short touched) so = next_puts so_far session req work lined comes so
    change_puts so_far next (changes.Denies session req work lined request comes short untouched there is_own) so =
        request_refused_puts req (Halt (changes.zones_of_members lined.node) (zones_for work.work)) request (changes.without_denied_work session req work lined)
        (next_puts so_far session req work lined comes so)
    change_puts so_far next (changes.Strays req work gateway there none apart) so = so
    change_puts so_far next (changes.Lines session req work moved steps waits) so = (steps_put so_far session req (ToWork work) moved steps so).0
    change_puts so_far next (changes.Appends session req entry moved steps) so =
        let after = steps_put so_far session req (ToEntry entry) moved steps so in
        with_asked moved.node.me (recovery_state_of moved.node) moved.node.requests moved.node.recovered moved.node.outbox after.0 entry after.1
    change_puts so_far next (changes.Replies session req reply moved steps) so =
        ended_puts session req reply moved (steps_put so_far session req (ToReply reply) moved steps so).0
    change_puts so_far next (changes.Arrives session req ask disk arrival on) so =
        with_request so_far.node.me (recovery_state_of so_far.node) so_far.node.requests so_far.node.recovered so_far.node.outbox so req
        (record { session = session; course = Waiting ask }) tt
    change_puts so_far next (changes.Rejects session req ask cause arrival) so = so
    change_puts so_far next (changes.Recovers due) so =
        with_end so_far.node.me (recovery_state_of so_far.node) so_far.node.requests so_far.node.recovered so_far.node.outbox so
        so_far.node.me so_far.node.recovery.epoch refl refl (and_parts (is_finished (recovery_state_of so_far.node)) (not so_far.node.recovered) due).0
        (not-true so_far.node.recovered (and_parts (is_finished (recovery_state_of so_far.node)) (not so_far.node.recovered) due).1)

-- at first
pub puts_at_first : (first : Node) → OnlyAskedEntries first → PutsOwnEnd first first.me (recovery_state_of first) first.requests first.recovered first.outbox
puts_at_first first only = record {
  me_so = refl;
  state_so = refl;
  only = only;
  ended = λ put. inl put;
  stays = λ was. was;
  puts = λ epoch node there. inl there;
}

-- ---- what a node's requests come to, when the input was received

pub only_received : (input : Input) (node : Node) → OnlyAskedEntries node → OnlyAskedEntries (input_received input (at_first node)).node
unfolding entry_read on_request on_recover_tick on_back
only_received (inputs.Guest req session ask) node only = only
only_received (inputs.Request request) node only = only
only_received (inputs.Reply rsp) node only =
    cond_either (λ (so_far : StepState). OnlyAskedEntries so_far.node) (gateways.gateway_awaits rsp.number node.gateway) (at_first node)
    (recovery_stepped (recovery_steps.recovery_on_reply rsp (recovery_state_of node)) (at_first node)) only only
only_received (inputs.Lost number) node only =
    cond_either (λ (so_far : StepState). OnlyAskedEntries so_far.node) (gateways.gateway_awaits number node.gateway) (at_first node)
    (recovery_stepped (recovery_steps.recovery_on_loss number (recovery_state_of node)) (at_first node)) only only
only_received (inputs.LogEntry entry) node only = only
only_received inputs.Put node only = by_outbox node.outbox
  where
    by_outbox : (outbox : List Entry) → OnlyAskedEntries (on_put outbox (at_first node)).node
    by_outbox [] = only
    by_outbox (entry ∷ later) = only
only_received inputs.RecoverTick node only = only
only_received inputs.RetryTick node only = only
only_received (inputs.Back entries) node only = λ req request got. let none = tree.get-empty {X = Request} nat_cmp req in absurd (cc (none, got))

-- ---- at each point of a step

pub puts_so_far : (input : Input) (node : Node) → AsksForNoRecovered input → OnlyAskedEntries node → {so_far : StepState}
    → Leads input node (input_received input (at_first node)) so_far → PutsOnlyItsEnd (input_received input (at_first node)).node so_far
puts_so_far input node asked only leads =
    kept_by_chain (PutsOnlyItsEnd (input_received input (at_first node)).node)
    (change_puts (input_received input (at_first node)).node input node asked) leads
    (puts_at_first (input_received input (at_first node)).node (only_received input node only))

pub stepped_puts : (input : Input) (node : Node) → AsksForNoRecovered input → OnlyAskedEntries node
    → PutsOnlyItsEnd (input_received input (at_first node)).node (node_step input node)
stepped_puts input node asked only = puts_so_far input node asked only (step_chain input node)

pub opening_only : (me : NodeId) (tries : ℕ) → OnlyAskedEntries (initial_node me tries)
opening_only me tries req request got = let none = tree.get-empty {X = Request} nat_cmp req in absurd (cc (none, got))
