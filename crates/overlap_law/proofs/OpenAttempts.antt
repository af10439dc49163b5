-- The open creates and writes after a change of a node: each was open before, or has just begun.
use Rattle.std.proofs.Common.{◌≡◌, ◌≢◌, ◌⊎◌, inl, inr, arith, ℕ, ◌+◌, ◌==◌, ◌&&◌, true, cond, List, [], ◌∷◌, map, Option, Some, None}
use Rattle.std.proofs.Common.{option_map, slice_get, ⊎_elim, refl, sym, ap, subst, ◌∙◌}
use Rattle.std.specs.List.{enumerate_from}
use Rattle.std.specs.Option.{option_map_or, option_to_list}
use Rattle.std.specs.FinMap as tree
use Rattle.std.proofs.lemmas.Bool.{eq-eqb, cases_eq}
use Rattle.std.proofs.lemmas.Option.{same_Some}
use Rattle.proof_tools.proofs.FiniteMaps.{get-remove_same, get-remove_other, get-insert_cases}
use Rattle.object_id.specs.declared.cause.Cause.{Cause}
use Rattle.object_id.specs.declared.cause.Cause.TheVariants.{Halt}
use Rattle.object_id.specs.declared.node.NodeId.{NodeId}
use Rattle.peer_proto.specs.declared.guest.GuestRsp.{GuestRsp}
use Rattle.peer_proto.specs.Work.{oid_of, policy_of}
use Rattle.vnode_table.specs.Targets.{targets_in}
use Rattle.gateway.specs.declared.message.Message.{Message}
use Rattle.gateway.specs.declared.message.Status.{Status}
use Rattle.gateway.specs.Work.{is_making, zones_for}
use Rattle.gateway.specs.Attempt as gateways
use Rattle.gateway.specs.Attempt.{message_for}
use Rattle.gateway.specs.State.{Work, WorkStage, Open, Ended, WaitsForMembers}
use Rattle.gateway.specs.Step.{with_work, attempt_with_status}
use Rattle.sheep_node.specs.declared.course.Course.{Course}
use Rattle.sheep_node.specs.declared.course.Request.{Request}
use Rattle.sheep_node.specs.declared.input.Input.{Input}
use Rattle.sheep_node.specs.State.{Node}
use Rattle.sheep_node.specs.StepState.{StepState, with_gateway, request_ended}
use Rattle.sheep_node.specs.RequestWorks.{course_refused}
use Rattle.sheep_node.specs.Changes as changes
use Rattle.sheep_node.specs.Changes.{IsSoundStep, LearnsStatus, gateway_with_touch, without_ended_work, Outcome, ToWork, ToEntry, ToReply}
use Rattle.sheep_node.specs.Changes.{attempt_in, with_open_attempt, without_denied_work, zones_of_members, RequestSteps, DiskBegins}
use Rattle.sheep_node.specs.Changes.{DiskGoesOn, CommandBegins, CommandGoesOn, CommandDecided, CheckBegins, CheckGoesOn, ObjectBegins}
use Rattle.sheep_node.specs.Changes.{ObjectIsDone, EntryBegins, EntryDecided, WorkIsNext, AtOnce, InTurn, Again, AgainAlone, Change}
use Rattle.sheep_node.proofs.AwaitedWorks.{Works}
use Rattle.sheep_node.proofs.RefusedCourses.{course_refused-keeps, request_refused-keeps}
use Rattle.sheep_node.proofs.OneWorkChanges.{StepHasOneWork, comes_free, never_alone}
use Rattle.sheep_world.specs.World.{Host}
use Rattle.sheep_world.specs.NodeCauses.{host_with_node}
use Rattle.overlap_law.specs.Attempts.{AttemptRecord, receivers, is_first, beginning, beginning_with}
use Rattle.overlap_law.specs.OpenWorks.{IsTheSame}
use Rattle.overlap_law.specs.StepMoments.{attempts_of_change}
use Rattle.overlap_law.proofs.AttemptLists.{got_map}
use Rattle.overlap_law.proofs.MarkedMessages.{number-marked, receivers-marked}
use Rattle.overlap_law.proofs.AttemptMessages.{message_at_place, targets-of_making}

-- an open attempt was open before, of the same work, epoch, targets and numbers
pub record WasOpen (old : Works) (req : ℕ) (work : Work) (current : gateways.Attempt) : Type 0 where
  pub was : Work
  pub before : gateways.Attempt
  pub there : tree.get old req ≡ Some was
  pub stage : was.stage ≡ Open before
  pub work_so : work.work ≡ was.work
  pub epoch_so : current.epoch ≡ before.epoch
  pub targets_so : receivers current.messages ≡ receivers before.messages
  pub numbers_so : (place : ℕ) (message : Message) → slice_get current.messages place ≡ Some message
      → (m : Message) × (slice_get before.messages place ≡ Some m) × (message.number ≡ m.number)

-- what is as it was, was open
pub same_open : (old : Works) (req : ℕ) (work : Work) (current : gateways.Attempt) → tree.get old req ≡ Some work
    → work.stage ≡ Open current
    → WasOpen old req work current
same_open old req work current there stage = record {
  was = work;
  before = current;
  there = there;
  stage = stage;
  work_so = refl;
  epoch_so = refl;
  targets_so = refl;
  numbers_so = λ place message got. (message, got, refl);
}

-- ---- works that go, or stay as they are

abbrev pub Fewer : Works → Works → Type 0
Fewer old new = (q : ℕ) (work : Work) → tree.get new q ≡ Some work → tree.get old q ≡ Some work

pub gone_fewer : (works : Works) (req : ℕ) → Fewer works (tree.remove works req)
gone_fewer works req q work got = ⊎_elim
    (λ (own : q ≡ req). let none = ap (tree.get (tree.remove works req)) own ∙ get-remove_same works req in absurd (cc (got, none)))
    (λ (other : q ≢ req). sym (get-remove_other works req q other) ∙ got)
    (cases_eq q req)

-- the works of a node in its step, against earlier ones
abbrev pub FewerIn : Works → StepState → Type 0
FewerIn works so_far = Fewer works so_far.node.gateway.works

pub ended_fewer : (works : Works) (session req : ℕ) (reply : GuestRsp) (so_far : StepState) → FewerIn works so_far
    → FewerIn works (request_ended session req reply so_far)
unfolding request_ended
ended_fewer works session req reply so_far less = less

pub refused_fewer : (works : Works) (session req : ℕ) (cause : Cause) (course : Course) (so_far : StepState) → FewerIn works so_far
    → FewerIn works (course_refused session req cause course so_far)
refused_fewer works = course_refused-keeps (FewerIn works) (ended_fewer works) (λ entry before less. less)

pub denied_fewer : (works : Works) (req : ℕ) (cause : Cause) (request : Option Request) (so_far : StepState) → FewerIn works so_far
    → FewerIn works (option_map_or (λ (request : Request). course_refused request.session req cause request.course so_far) request so_far)
denied_fewer works = request_refused-keeps (FewerIn works) (ended_fewer works) (λ entry before less. less)

pub all_stay : (works : Works) → Fewer works works
all_stay works q work got = got

pub steps_fewer : {input : Input} {node : Node} → (so_far : StepState) (session req : ℕ) (next : Outcome) (moved : StepState)
    → RequestSteps input node so_far session req next moved
    → FewerIn so_far.node.gateway.works moved
steps_fewer so_far session req next moved (DiskBegins ask disk there on may) = all_stay so_far.node.gateway.works
steps_fewer so_far session req next moved (DiskGoesOn number work attempt status bytes driver disk step ends on is) =
    gone_fewer so_far.node.gateway.works req
steps_fewer so_far session req next moved (CommandBegins ask step arrival is) = all_stay so_far.node.gateway.works
steps_fewer so_far session req next moved (CommandGoesOn number work attempt status bytes op step ends is) =
    gone_fewer so_far.node.gateway.works req
steps_fewer so_far session req next moved (CommandDecided entry op step from read there waits is) = all_stay so_far.node.gateway.works
steps_fewer so_far session req next moved (CheckBegins inode arrival on) = all_stay so_far.node.gateway.works
steps_fewer so_far session req next moved (CheckGoesOn number work attempt status bytes check step ends is) =
    gone_fewer so_far.node.gateway.works req
steps_fewer so_far session req next moved (ObjectBegins asked arrival) = all_stay so_far.node.gateway.works
steps_fewer so_far session req next moved (ObjectIsDone number work attempt status bytes asked ends) =
    gone_fewer so_far.node.gateway.works req
steps_fewer so_far session req next moved (EntryBegins entry arrival) = all_stay so_far.node.gateway.works
steps_fewer so_far session req next moved (EntryDecided entry wanted from read there waits) = all_stay so_far.node.gateway.works

pub next_fewer : {input : Input} {node : Node} → (so_far : StepState) (session req : ℕ) (asked : Work) (lined : StepState)
    → WorkIsNext input node so_far session req asked lined
    → FewerIn so_far.node.gateway.works lined
next_fewer so_far session req asked lined (AtOnce work moved steps begins) = steps_fewer so_far session req (ToWork work) moved steps
next_fewer so_far session req asked lined (InTurn work later none is) = all_stay so_far.node.gateway.works
next_fewer so_far session req asked lined (Again work course from next there request) = all_stay so_far.node.gateway.works
next_fewer so_far session req asked lined (AgainAlone work from next there none) = all_stay so_far.node.gateway.works

-- ---- what is open

pub open_of : (one other : gateways.Attempt) → Open one ≡ Open other → one ≡ other
open_of one other is = ap attempt_open is
  where
    attempt_open : WorkStage → gateways.Attempt
    attempt_open (Open attempt) = attempt
    attempt_open Ended = one
    attempt_open (WaitsForMembers epoch) = one

-- each open create or write of a node has a message
abbrev pub HaveMessages : StepState → Type 0
HaveMessages so_far =
    (q : ℕ) (work : Work) (current : gateways.Attempt) → tree.get so_far.node.gateway.works q ≡ Some work → is_making work.work ≡ true
    → work.stage ≡ Open current → (message : Message) × (slice_get current.messages 0 ≡ Some message)

-- an attempt has just begun
abbrev pub HasBegun : Node → ℕ → Work → gateways.Attempt → List AttemptRecord → Type 0
HasBegun node req work current begun = (attempt : AttemptRecord) × (begun ≡ attempt ∷ []) × IsTheSame node req work.work current attempt

-- an open create or write was open before, or is what has just begun
abbrev pub WereOpenOrBegin : StepState → StepState → List AttemptRecord → Type 0
WereOpenOrBegin so_far next begun =
    (q : ℕ) (work : Work) (current : gateways.Attempt) → tree.get next.node.gateway.works q ≡ Some work → is_making work.work ≡ true
    → work.stage ≡ Open current → WasOpen so_far.node.gateway.works q work current ⊎ HasBegun next.node q work current begun

few : (so_far next : StepState) (begun : List AttemptRecord) → FewerIn so_far.node.gateway.works next → WereOpenOrBegin so_far next begun
few so_far next begun less q work current got making stage =
    inl (same_open so_far.node.gateway.works q work current (less q work got) stage)

-- a work is put that isn't open
shut : (so_far next : StepState) (begun : List AttemptRecord) (middle : Works) (req : ℕ) (now : Work)
    → Fewer so_far.node.gateway.works middle
    → next.node.gateway.works ≡ tree.insert middle req now → ((current : gateways.Attempt) → now.stage ≢ Open current)
    → WereOpenOrBegin so_far next begun
shut so_far next begun middle req now less put never q work current got making stage = ⊎_elim
    (λ (own : (q ≡ req) × (now ≡ work)). absurd (never current (ap (λ (w : Work). w.stage) own.1 ∙ stage)))
    (λ (other : (q ≢ req) × (tree.get middle q ≡ Some work)). inl
    (same_open so_far.node.gateway.works q work current (less q work other.1) stage))
    (get-insert_cases middle req now q work (ap (λ (works : Works). tree.get works q) (sym put) ∙ got))

marked_open : {input : Input} {node : Node}
    → (so_far : StepState) (req number : ℕ) (work : Work) (attempt : gateways.Attempt) (status : Status)
    → LearnsStatus input node so_far req number work attempt status
    → WereOpenOrBegin so_far (with_gateway (with_work req (record work { stage = Open (attempt_with_status number status attempt) })
    (gateway_with_touch req work status so_far)) so_far) []
marked_open so_far req number work attempt status learns q other current got making stage =
    let now : Work = record work { stage = Open (attempt_with_status number status attempt) } in
    ⊎_elim
    (λ (own : (q ≡ req) × (now ≡ other)).
    let same : attempt_with_status number status attempt ≡ current
    = open_of (attempt_with_status number status attempt) current (ap (λ (w : Work). w.stage) own.1 ∙ stage) in
    inl (record {
      was = work;
      before = attempt;
      there = ap (tree.get so_far.node.gateway.works) own.0 ∙ learns.there;
      stage = learns.open_so;
      work_so = sym (ap (λ (w : Work). w.work) own.1);
      epoch_so = sym (ap (λ (a : gateways.Attempt). a.epoch) same);
      targets_so = sym (ap (λ (a : gateways.Attempt). receivers a.messages) same) ∙ receivers-marked number status attempt.messages;
      numbers_so = λ place message got.
          let (m, found, is) = got_map (λ (message : Message). cond (message.number == number) (record message { status = status }) message)
          attempt.messages place message
          (ap (λ (a : gateways.Attempt). slice_get a.messages place) same ∙ got) in
          (m, found, sym (ap (λ (m : Message). m.number) is) ∙ number-marked number status m (m.number == number));
    }))
    (λ (elsewhere : (q ≢ req) × (tree.get so_far.node.gateway.works q ≡ Some other)). inl
    (same_open so_far.node.gateway.works q other current elsewhere.1 stage))
    (get-insert_cases so_far.node.gateway.works req now q other got)

module _ {input : Input} {node : Node} (host : Host) (sound : IsSoundStep input node) where
  opening_open : (so_far : StepState) → StepHasOneWork so_far → (session req : ℕ) (asked : Work) (lined : StepState)
      → WorkIsNext input node so_far session req asked lined
      → HaveMessages (with_open_attempt req asked lined)
      → WereOpenOrBegin so_far (with_open_attempt req asked lined)
      (option_to_list (beginning_with (host_with_node host lined.node) lined.node.sends req asked.work
      (Open (attempt_in asked lined.node))))
  opening_open so_far good session req asked lined comes have q other current got making stage = ⊎_elim
      (λ (own : (q ≡ req) × (now ≡ other)).
      let made : is_making asked.work ≡ true = ap (λ (w : Work). is_making w.work) own.1 ∙ making in
      let same : attempt_in asked lined.node ≡ current = open_of (attempt_in asked lined.node) current
      (ap (λ (w : Work). w.stage) own.1 ∙ stage) in
      let l = comes_free so_far session req asked lined comes sound good in
      let request : Request = record { session = session; course = l.course } in
      let attempt = beginning (host_with_node host lined.node) lined.node.sends req asked.work (attempt_in asked lined.node) request in
      let (m, found) = have q other current got making stage in
      let first : slice_get (attempt_in asked lined.node).messages 0 ≡ Some m = ap (λ (a : gateways.Attempt). slice_get a.messages 0) same
      ∙ found in
      let number : m.number ≡ lined.node.sends = numbered made 0 m first ∙ plus_none lined.node.sends in
      inr (
        attempt,
        (λ i. option_to_list (cond (made i && first_so (attempt_in asked lined.node).messages m first number i)
            (option_map (beginning (host_with_node host lined.node) lined.node.sends req asked.work (attempt_in asked lined.node))
            (l.there i)) None)),
        subst (λ (w : Work). IsTheSame (with_open_attempt req asked lined).node q w.work current attempt) own.1
            (subst (λ (c : gateways.Attempt). IsTheSame (with_open_attempt req asked lined).node q asked.work c attempt) same
            (record {
              gateway = refl;
              request = sym own.0;
              work = refl;
              epoch = refl;
              targets = refl;
              numbers = λ place message got. numbered made place message got;
            })),
      ))
      (λ (elsewhere : (q ≢ req) × (tree.get lined.node.gateway.works q ≡ Some other)).
      inl (same_open so_far.node.gateway.works q other current (next_fewer so_far session req asked lined comes q other elsewhere.1) stage))
      (get-insert_cases lined.node.gateway.works req now q other got)
    where
      now : Work
      now = record asked { stage = Open (attempt_in asked lined.node) }

      plus_none : (n : ℕ) → n + 0 ≡ n
      plus_none n = omega arith

      numbered : is_making asked.work ≡ true → (place : ℕ) (message : Message)
          → slice_get (attempt_in asked lined.node).messages place ≡ Some message
          → message.number ≡ lined.node.sends + place
      numbered made place message got =
          let targets = targets_in lined.node.epochs lined.node.peer.epoch (oid_of asked.work) (policy_of asked.work) in
          (message_at_place asked.work lined.node.sends 0 targets place message
          (ap (λ (places : List (ℕ × NodeId)). slice_get (map (message_for asked.work) (enumerate_from lined.node.sends places)) place)
          (sym (targets-of_making asked.work asked.ended targets made)) ∙ got)).number_so

      first_so : (messages : List Message) (m : Message) → slice_get messages 0 ≡ Some m → m.number ≡ lined.node.sends
          → is_first lined.node.sends messages ≡ true
      first_so [] m got number = absurd (cc (got))
      first_so (message ∷ messages) m got number =
          eq-eqb message.number lined.node.sends (ap (λ (m : Message). m.number) (same_Some message m got) ∙ number)

  pub change_opens : (so_far next : StepState) → StepHasOneWork so_far → (change : Change input node so_far next) → HaveMessages next
      → WereOpenOrBegin so_far next (attempts_of_change host so_far next change)
  change_opens so_far next good (changes.Marks req number work attempt status learns over) have =
      marked_open so_far req number work attempt status learns
  change_opens so_far next good (changes.Fails session req number work attempt status course ends done why) have =
      shut so_far next [] so_far.node.gateway.works req (record work { ended = work.ended + 1; stage = Ended })
      (all_stay so_far.node.gateway.works) refl (λ current is. absurd (cc (is)))
  change_opens so_far next good (changes.Stops session req number work attempt status course bytes ends over) have =
      few so_far next [] (gone_fewer so_far.node.gateway.works req)
  change_opens so_far next good (changes.Refuses session req number work attempt status course cause ends done why) have =
      few so_far next []
      (refused_fewer so_far.node.gateway.works session req cause course (without_ended_work session req work status so_far)
      (gone_fewer so_far.node.gateway.works req))
  change_opens so_far next good (changes.Opens session req asked lined comes enough) have =
      opening_open so_far good session req asked lined comes have
  change_opens so_far next good (changes.Holds session req asked lined comes short touched) have =
      shut so_far next [] lined.node.gateway.works req (record asked { stage = WaitsForMembers (record { 0 = lined.node.peer.epoch }) })
      (next_fewer so_far session req asked lined comes) refl (λ current is. absurd (cc (is)))
  change_opens so_far next good (changes.Denies session req asked lined request comes short untouched there own) have =
      few so_far next []
      (denied_fewer so_far.node.gateway.works req (Halt (zones_of_members lined.node) (zones_for asked.work)) request
      (without_denied_work session req asked lined) (λ q other got. next_fewer so_far session req asked lined comes q other
      (gone_fewer lined.node.gateway.works req q other got)))
  change_opens so_far next good (changes.Strays req work gateway there none apart) have =
      absurd (never_alone req work so_far there none good)
  change_opens so_far next good (changes.Lines session req work moved steps waits) have =
      few so_far next [] (steps_fewer so_far session req (ToWork work) moved steps)
  change_opens so_far next good (changes.Appends session req entry moved steps) have =
      few so_far next [] (steps_fewer so_far session req (ToEntry entry) moved steps)
  change_opens so_far next good (changes.Replies session req reply moved steps) have =
      few so_far next [] (ended_fewer so_far.node.gateway.works session req reply moved
      (steps_fewer so_far session req (ToReply reply) moved steps))
  change_opens so_far next good (changes.Arrives session req ask disk arrival on) have =
      few so_far next [] (all_stay so_far.node.gateway.works)
  change_opens so_far next good (changes.Rejects session req ask cause arrival) have =
      few so_far next [] (all_stay so_far.node.gateway.works)
  change_opens so_far next good (changes.Recovers due) have = few so_far next [] (all_stay so_far.node.gateway.works)
