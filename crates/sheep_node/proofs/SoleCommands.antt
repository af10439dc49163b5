-- Every change leaves a request that is no read or write alone in its session.
use Rattle.std.proofs.Common.{◌≡◌, ◌≢◌, ℕ, ◌≤◌, nat_le, ◌==◌, ◌&&◌, Bool, true, false, List, [], ◌∷◌, ◌++◌, length, Contains, Option, Some, None, is_none, unwrap_or, refl, sym, ap, subst, ◌∙◌, ⊎_elim, arith}
use Rattle.std.specs.Ordering.{nat_cmp}
use Rattle.std.specs.Option.{option_map_or}
use Rattle.std.specs.FinMap as tree
use Rattle.std.proofs.lemmas.Bool.{and_parts, cases_eq, eq-eqb, leb-true}
use Rattle.proof_tools.proofs.Lists.{Contains-nil}
use Rattle.proof_tools.proofs.FiniteMaps.{get-insert_same, get-remove_other, get-remove_same}
use Rattle.object_id.specs.declared.cause.Cause.{Cause}
use Rattle.object_id.specs.declared.cause.Cause.TheVariants.{Halt}
use Rattle.object_id.specs.declared.node.NodeId.{NodeId}
use Rattle.peer_proto.specs.declared.guest.VdiAsk.TheVariants.{Check}
use Rattle.peer_proto.specs.declared.guest.GuestRsp.{GuestRsp}
use Rattle.peer_proto.specs.declared.guest.GuestRsp.TheVariants.{Refused}
use Rattle.gateway.specs.declared.message.Status.{Status}
use Rattle.gateway.specs.Work.{zones_for}
use Rattle.gateway.specs.State.{Work}
use Rattle.gateway_queue.specs.declared.queue.Queued.{Queued}
use Rattle.gateway_queue.specs.Queue.{queue_without}
use Rattle.guest_driver.specs.declared.disk.Disk.{Disk}
use Rattle.guest_driver.specs.Driver.{DriverStep, begin_driver}
use Rattle.guest_driver.specs.InodeQueue.{queue_with_open, queue_with_waiting, queue_after_end}
use Rattle.disk_check.specs.Check.{begin_check}
use Rattle.vdi_ops.specs.declared.end.OpEnd.{OpEnd}
use Rattle.vdi_ops.specs.Op.{OpStep, disk_change}
use Rattle.vdi_ops.specs.Steps.{on_refusal}
use Rattle.sheep_node.specs.declared.ask.Ask.{Ask}
use Rattle.sheep_node.specs.declared.ask.Ask.TheVariants as asks
use Rattle.sheep_node.specs.declared.input.Input.{Input}
use Rattle.sheep_node.specs.declared.course.Course.{Course}
use Rattle.sheep_node.specs.declared.course.Request.{Request}
use Rattle.sheep_node.specs.declared.session.Session.{Session}
use Rattle.sheep_node.specs.declared.course.Course.TheVariants.{Waiting, Driving, Commanding, Checking, DoingWork, AwaitingDecision}
use Rattle.sheep_node.specs.State.{Node, new_session, session_at, initial_node}
use Rattle.sheep_node.specs.StepState.{StepState, at_first, with_optional_entry, session_in, request_ended, with_sole_request}
use Rattle.sheep_node.specs.RequestWorks.{command_refused, course_refused}
use Rattle.sheep_node.specs.Courses.{after_driver_step, disk_after, after_command_step}
use Rattle.sheep_node.specs.Guests.{queued_as}
use Rattle.sheep_node.specs.Step.{node_step}
use Rattle.sheep_node.specs.May.{is_disk_course, queued_at_most, May}
use Rattle.sheep_node.specs.SessionQueues.{queue_in, QueuesAreDiskRequests, is_disk_request_of, command_in, IsSoleRequestOf, HaveSoleCommands, CommandsAreAlone}
use Rattle.sheep_node.specs.Changes as changes
use Rattle.sheep_node.specs.Changes.{HasRequest, Outcome, ToWork, ToEntry, ToReply, without_ended_work, without_denied_work, zones_of_members, Arrival, RequestSteps, DiskBegins, DiskGoesOn, CommandBegins, CommandGoesOn, CommandDecided, CheckBegins, CheckGoesOn, ObjectBegins, ObjectIsDone, EntryBegins, EntryDecided, WorkIsNext, AtOnce, InTurn, Again, AgainAlone, input_received, Change}
use Rattle.sheep_node.proofs.OneWorkParts.{Requests, Sessions}
use Rattle.sheep_node.proofs.SoleParts.{CommandsAre, IsOwn, IsFreeFor, same_command, command_own, command_other, disk_request, sole_request, command_is_free, disk_is_none, there_is_own, disk_beside}
use Rattle.sheep_node.proofs.StepChain.{untaken, kept_by_chain, step_chain}
use Rattle.sheep_node.proofs.ReceivedInputs.{received_keeps}

-- ---- a request ends

ended_alone : (number req : ℕ) (course : Course) (reply : GuestRsp) (so_far : StepState) → HasRequest number req course so_far → CommandsAre so_far
    → CommandsAre (request_ended number req reply so_far)
unfolding request_ended
ended_alone number req course reply so_far is_there all = record {
  named = λ q request got other. ⊎_elim
      (λ (own : q ≡ req). absurd (gone q request own got))
      (λ (later : q ≢ req).
      let there : tree.get requests q ≡ Some request = sym (get-remove_other requests req q later) ∙ got in
      ⊎_elim
      (λ (here : request.session ≡ number).
      let before : command_in number sessions ≡ Some q
      = ap (λ (k : ℕ). command_in k sessions) (sym here) ∙ all.named q request there other in
      absurd (later (sym (all.alone number q req (record { session = number; course = course }) before is_there refl))))
      (λ (apart : request.session ≢ number). command_other sessions number after request.session apart ∙ all.named q request there other)
      (cases_eq request.session number))
      (cases_eq q req);
  alone = λ q r other request had got of. ⊎_elim
      (λ (here : q ≡ number).
      let none : command_in q (tree.insert sessions number after) ≡ None = command_own sessions number after q here in
      absurd (cc (none, had)))
      (λ (apart : q ≢ number). ⊎_elim
      (λ (own : other ≡ req). absurd (gone other request own got))
      (λ (later : other ≢ req).
      all.alone q r other request (sym (command_other sessions number after q apart) ∙ had) (sym (get-remove_other requests req other later) ∙ got) of)
      (cases_eq other req))
      (cases_eq q number);
  there = λ q r had. ⊎_elim
      (λ (here : q ≡ number).
      let none : command_in q (tree.insert sessions number after) ≡ None = command_own sessions number after q here in
      absurd (cc (none, had)))
      (λ (apart : q ≢ number).
      let before = all.there q r (sym (command_other sessions number after q apart) ∙ had) in
      let (request, got, of, command) = before in
      let other : r ≢ req = λ (same : r ≡ req).
      apart (sym of ∙ there_is_own number req course so_far is_there request (sym (ap (tree.get requests) same) ∙ got)) in
      subst (IsSoleRequestOf q) (sym (get-remove_other requests req r other)) before)
      (cases_eq q number);
}
  where
    requests : Requests
    requests = so_far.node.requests

    sessions : Sessions
    sessions = so_far.node.sessions

    after : Session
    after = record (session_in number so_far) { queue = queue_without req (session_in number so_far).queue; command = None }

    gone : (q : ℕ) (request : Request) → q ≡ req → tree.get (tree.remove requests req) q ≡ Some request → ⊥
    gone q request own got =
        let none : tree.get (tree.remove requests req) q ≡ None = ap (tree.get (tree.remove requests req)) own ∙ get-remove_same requests req in
        absurd (cc (none, got))

refused_alone : (number req : ℕ) (cause : Cause) (course : Course) (so_far : StepState) → HasRequest number req course so_far → CommandsAre so_far
    → CommandsAre (course_refused number req cause course so_far)
refused_alone number req cause (Waiting ask) so_far there all = all
refused_alone number req cause (Driving driver) so_far there all = ended_alone number req (Driving driver) (Refused cause) so_far there all
refused_alone number req cause (Commanding op) so_far there all = by_end (on_refusal cause op)
  where
    by_end : (end : Option OpEnd) → CommandsAre (command_refused number req end so_far)
    by_end None = all
    by_end (Some end) = ended_alone number req (Commanding op) end.reply (with_optional_entry end.unlock so_far) there all
refused_alone number req cause (Checking check) so_far there all = ended_alone number req (Checking check) (Refused cause) so_far there all
refused_alone number req cause (DoingWork work) so_far there all = ended_alone number req (DoingWork work) (Refused cause) so_far there all
refused_alone number req cause (AwaitingDecision entry) so_far there all = all

request_refused_alone : (req : ℕ) (cause : Cause) (request : Option Request) (so_far : StepState) → tree.get so_far.node.requests req ≡ request
    → CommandsAre so_far
    → CommandsAre (option_map_or (λ (request : Request). course_refused request.session req cause request.course so_far) request so_far)
request_refused_alone req cause None so_far there all = all
request_refused_alone req cause (Some request) so_far there all = refused_alone request.session req cause request.course so_far there all

-- ---- a step that a request takes

freed_alone : (number req : ℕ) (work : Work) (status : Status) (so_far : StepState) → CommandsAre so_far
    → CommandsAre (without_ended_work number req work status so_far)
freed_alone number req work status so_far all =
    same_command so_far.node.requests so_far.node.sessions number
    (record (session_in number so_far) { inode_queue = queue_after_end (session_in number so_far).inode_queue work.work }) refl all

-- the request is there, and the commands are as they should be
record HasSteppedAlone (number req : ℕ) (so_far : StepState) : Type 0 where
  course : Course
  there : HasRequest number req course so_far
  all : CommandsAre so_far

driven_alone : (number req : ℕ) (disk : Disk) (step : DriverStep) (course : Course) (so_far : StepState) → HasRequest number req course so_far
    → is_disk_course course ≡ true → CommandsAre so_far → HasSteppedAlone number req (after_driver_step number req disk step so_far)
driven_alone number req disk step course so_far there on all =
    let after : Session = record (session_in number so_far) { disk = Some (record disk { inode = step.inode }) } in
    record {
      course = Driving step.driver;
      there = get-insert_same so_far.node.requests req (record { session = number; course = Driving step.driver });
      all = same_command (tree.insert so_far.node.requests req (record { session = number; course = Driving step.driver }))
          so_far.node.sessions number after refl
          (disk_request so_far.node.requests so_far.node.sessions number req (Driving step.driver) refl
          (disk_beside number req course so_far there on all) (disk_is_none number req course so_far there on all) all);
    }

command_alone : (number req : ℕ) (step : OpStep) (so_far : StepState) → IsFreeFor number req so_far.node.requests
    → IsOwn number req so_far.node.requests → CommandsAre so_far → HasSteppedAlone number req (after_command_step number req step so_far)
command_alone number req step so_far free own all = record {
  course = Commanding step.op;
  there = get-insert_same so_far.node.requests req (record { session = number; course = Commanding step.op });
  all = sole_request so_far.node.requests so_far.node.sessions number req (Commanding step.op)
      (record (session_in number so_far) { disk = disk_after (disk_change step) (session_in number so_far).disk; command = Some req })
      refl refl free own all;
}

sole_alone : (number req : ℕ) (course : Course) (so_far : StepState) → is_disk_course course ≡ false → IsFreeFor number req so_far.node.requests
    → IsOwn number req so_far.node.requests → CommandsAre so_far
    → HasSteppedAlone number req (with_sole_request number req course so_far)
sole_alone number req course so_far off free own all = record {
  course = course;
  there = get-insert_same so_far.node.requests req (record { session = number; course = course });
  all = sole_request so_far.node.requests so_far.node.sessions number req course
      (record (session_in number so_far) { command = Some req }) refl off free own all;
}

-- ---- every change

module _ {input : Input} {node : Node} (may : May input node) (queued : QueuesAreDiskRequests node) (sole : CommandsAreAlone node) where
  -- a request that may come finds no command in its session, and if it is no read or write no request at all
  module _ (so_far : StepState) (number req : ℕ) (ask : Ask) (refusal : Option Cause) (arrival : Arrival input node so_far number req ask refusal) where
    room : is_none (session_at number node).command ≡ true × (length (session_at number node).queue ≤ queued_at_most ask)
    room =
        let asked = subst (λ (input : Input). May input node) arrival.from may in
        let parts = and_parts (is_none (session_at number node).command) (nat_le (length (session_at number node).queue) (queued_at_most ask))
        asked.condition.room in
        (parts.0, leb-true (length (session_at number node).queue) (queued_at_most ask) parts.1)

    no_command : (r : ℕ) → command_in number so_far.node.sessions ≢ Some r
    no_command r is =
        let none : is_none (command_in number so_far.node.sessions) ≡ true
        = subst (λ (start : StepState). is_none (command_in number start.node.sessions) ≡ true) (sym arrival.first) room.0 in
        let some : is_none (command_in number so_far.node.sessions) ≡ false = ap (λ (o : Option ℕ). is_none o) is in
        absurd (cc (none, some))

    -- and it is new
    is_new : tree.get so_far.node.requests req ≡ None
    is_new =
        let asked = subst (λ (input : Input). May input node) arrival.from may in
        subst (λ (start : StepState). tree.get start.node.requests req ≡ None) (sym arrival.first) (untaken node req asked.condition.number)

    new_is_none : CommandsAre so_far → (q : ℕ) → command_in q so_far.node.sessions ≢ Some req
    new_is_none all q is = let (request, got, of, off) = all.there q req is in absurd (cc (is_new, got))

    new_is_own : IsOwn number req so_far.node.requests
    new_is_own request got = absurd (cc (is_new, got))

    none_at_node : queued_at_most ask ≡ 0 → IsFreeFor number req node.requests
    none_at_node most other request got of = by_course (is_disk_course request.course) refl
      where
        here : tree.get node.requests other ≡ Some request → (request.session == number) ≡ true
        here got = eq-eqb request.session number of

        none_in : (queue : List Queued) → length queue ≤ 0 → (one : Queued) → Contains queue one → ⊥
        none_in [] few one there = Contains-nil one there
        none_in (first ∷ later) few one there = omega (arith, few)

        by_course : (b : Bool) → is_disk_course request.course ≡ b → other ≡ req
        by_course true disk =
            let is : is_disk_request_of number (tree.get node.requests other) ≡ true
            = ap (is_disk_request_of number) got ∙ ap (λ (b : Bool). b && is_disk_course request.course) (here got) ∙ disk in
            let (one, there, same) = queued.has number other is in
            absurd (none_in (queue_in number node.sessions) (subst (λ (n : ℕ). length (queue_in number node.sessions) ≤ n) most room.1) one there)
        by_course false off =
            let is : command_in number node.sessions ≡ Some other
            = ap (λ (k : ℕ). command_in k node.sessions) (sym of) ∙ sole.named other request got off in
            let some : is_none (command_in number node.sessions) ≡ false = ap (λ (o : Option ℕ). is_none o) is in
            absurd (cc (room.0, some))

    pub free : queued_at_most ask ≡ 0 → IsFreeFor number req so_far.node.requests
    free most = subst (λ (start : StepState). IsFreeFor number req start.node.requests) (sym arrival.first) (none_at_node most)

  steps_alone : (so_far : StepState) (number req : ℕ) (next : Outcome) (moved : StepState) → RequestSteps input node so_far number req next moved
      → CommandsAre so_far → HasSteppedAlone number req moved
  steps_alone so_far number req next moved (DiskBegins ask disk there on may_run) all =
      driven_alone number req disk (begin_driver disk ask) (Waiting ask) so_far there refl all
  steps_alone so_far number req next moved (DiskGoesOn message work attempt status bytes driver disk step ends on is) all =
      driven_alone number req disk step (Driving driver) (without_ended_work number req work status so_far) ends.ends.request
      refl (freed_alone number req work status so_far all)
  steps_alone so_far number req next moved (CommandBegins ask step arrival is) all =
      command_alone number req step so_far (free so_far number req (asks.Vdi ask) None arrival refl)
      (new_is_own so_far number req (asks.Vdi ask) None arrival) all
  steps_alone so_far number req next moved (CommandGoesOn message work attempt status bytes op step ends is) all =
      command_alone number req step (without_ended_work number req work status so_far)
      (command_is_free number req (Commanding op) so_far ends.ends.request refl all)
      (there_is_own number req (Commanding op) so_far ends.ends.request) (freed_alone number req work status so_far all)
  steps_alone so_far number req next moved (CommandDecided entry op step from read there waits is) all =
      command_alone number req step so_far (command_is_free number req (Commanding op) so_far there refl all)
      (there_is_own number req (Commanding op) so_far there) all
  steps_alone so_far number req next moved (CheckBegins inode arrival on) all =
      sole_alone number req (Checking (begin_check inode).check) so_far refl (free so_far number req (asks.Vdi Check) None arrival refl)
      (new_is_own so_far number req (asks.Vdi Check) None arrival) all
  steps_alone so_far number req next moved (CheckGoesOn message work attempt status bytes check step ends is) all =
      sole_alone number req (Checking step.check) (without_ended_work number req work status so_far) refl
      (command_is_free number req (Checking check) so_far ends.ends.request refl all)
      (there_is_own number req (Checking check) so_far ends.ends.request) (freed_alone number req work status so_far all)
  steps_alone so_far number req next moved (ObjectBegins asked arrival) all =
      sole_alone number req (DoingWork asked) so_far refl (free so_far number req (asks.Object asked) None arrival refl)
      (new_is_own so_far number req (asks.Object asked) None arrival) all
  steps_alone so_far number req next moved (ObjectIsDone message work attempt status bytes asked ends) all =
      record { course = DoingWork asked; there = ends.ends.request; all = freed_alone number req work status so_far all }
  steps_alone so_far number req next moved (EntryBegins entry arrival) all =
      sole_alone number req (AwaitingDecision entry) so_far refl (free so_far number req (asks.Entry entry) None arrival refl)
      (new_is_own so_far number req (asks.Entry entry) None arrival) all
  steps_alone so_far number req next moved (EntryDecided entry wanted from read there waits) all =
      record { course = AwaitingDecision wanted; there = there; all = all }

  comes_alone : (so_far : StepState) (number req : ℕ) (asked : Work) (lined : StepState) → WorkIsNext input node so_far number req asked lined
      → CommandsAre so_far → CommandsAre lined
  comes_alone so_far number req asked lined (AtOnce work moved steps begins) all =
      same_command moved.node.requests moved.node.sessions number
      (record (session_in number moved) { inode_queue = queue_with_open (session_in number moved).inode_queue req work }) refl
      (steps_alone so_far number req (ToWork work) moved steps all).all
  comes_alone so_far number req asked lined (InTurn work later none is) all =
      same_command so_far.node.requests so_far.node.sessions number
      (record (session_in number so_far) { inode_queue = record { current = Some req; waiting = later } }) refl all
  comes_alone so_far number req asked lined (Again work course from next there request) all = all
  comes_alone so_far number req asked lined (AgainAlone work from next there none) all = all

  pub change_keeps_alone : (so_far next : StepState) → Change input node so_far next → CommandsAre so_far → CommandsAre next
  change_keeps_alone so_far next (changes.Marks req number work attempt status learns over) all = all
  change_keeps_alone so_far next (changes.Fails session req number work attempt status course ends done why) all = all
  change_keeps_alone so_far next (changes.Stops session req number work attempt status course bytes ends over) all =
      freed_alone session req work status so_far all
  change_keeps_alone so_far next (changes.Refuses session req number work attempt status course cause ends done why) all =
      refused_alone session req cause course (without_ended_work session req work status so_far) ends.request
      (freed_alone session req work status so_far all)
  change_keeps_alone so_far next (changes.Opens session req asked lined comes short) all = comes_alone so_far session req asked lined comes all
  change_keeps_alone so_far next (changes.Holds session req asked lined comes short touched) all = comes_alone so_far session req asked lined comes all
  change_keeps_alone so_far next (changes.Denies session req asked lined request comes short untouched there own) all =
      request_refused_alone req (Halt (zones_of_members lined.node) (zones_for asked.work)) request (without_denied_work session req asked lined) there
      (same_command lined.node.requests lined.node.sessions session
      (record (session_in session lined) { inode_queue = queue_after_end (session_in session lined).inode_queue asked.work }) refl
      (comes_alone so_far session req asked lined comes all))
  change_keeps_alone so_far next (changes.Strays req work gateway there none apart) all = all
  change_keeps_alone so_far next (changes.Lines session req work moved steps waits) all =
      same_command moved.node.requests moved.node.sessions session
      (record (session_in session moved) { inode_queue = queue_with_waiting (session_in session moved).inode_queue req work }) refl
      (steps_alone so_far session req (ToWork work) moved steps all).all
  change_keeps_alone so_far next (changes.Appends session req entry moved steps) all = (steps_alone so_far session req (ToEntry entry) moved steps all).all
  change_keeps_alone so_far next (changes.Replies session req reply moved steps) all =
      let took = steps_alone so_far session req (ToReply reply) moved steps all in
      ended_alone session req took.course reply moved took.there took.all
  change_keeps_alone so_far next (changes.Arrives session req ask disk arrival on) all =
      same_command (tree.insert so_far.node.requests req (record { session = session; course = Waiting ask })) so_far.node.sessions session
      (record (session_in session so_far) { queue = (session_in session so_far).queue ++ queued_as disk.inode.spec.shift req ask ∷ [] }) refl
      (disk_request so_far.node.requests so_far.node.sessions session req (Waiting ask) refl
      (no_command so_far session req (asks.Disk ask) None arrival) (new_is_none so_far session req (asks.Disk ask) None arrival all) all)
  change_keeps_alone so_far next (changes.Rejects session req ask cause arrival) all = all
  change_keeps_alone so_far next (changes.Recovers due) all = all

none_alone : HaveSoleCommands tree.empty tree.empty
none_alone = record {
  named = λ req request got other. let none = tree.get-empty {X = Request} nat_cmp req in absurd (cc (none, got));
  alone = λ number req other request is got of. let none = tree.get-empty {X = Request} nat_cmp other in absurd (cc (none, got));
  there = λ number req is.
      let none : command_in number tree.empty ≡ None
      = ap (λ (o : Option Session). (unwrap_or o new_session).command) (tree.get-empty {X = Session} nat_cmp number) in
      absurd (cc (none, is));
}

pub received_alone : (input : Input) (node : Node) → CommandsAre (at_first node) → CommandsAre (input_received input (at_first node))
received_alone = received_keeps (λ works requests sessions. HaveSoleCommands requests sessions) none_alone

pub commands_alone_at_opening : (me : NodeId) (tries : ℕ) → CommandsAreAlone (initial_node me tries)
commands_alone_at_opening me tries = none_alone

pub commands_stay_alone : (input : Input) (node : Node) → May input node → QueuesAreDiskRequests node → CommandsAreAlone node
    → CommandsAreAlone (node_step input node).node
commands_stay_alone input node may queued sole =
    kept_by_chain CommandsAre (λ so_far next change. change_keeps_alone may queued sole so_far next change) (step_chain input node)
    (received_alone input node sole)
