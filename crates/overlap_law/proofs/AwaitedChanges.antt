-- Each change of a node leaves the entries of its commands on their way awaited, once each, and its commands their sessions'.
use Rattle.std.proofs.Common.{◌≡◌, ◌≢◌, ⊎_elim, arith, ℕ, ◌+◌, ◌≤◌, ◌<◌, Bool, true, false, List, [], ◌∷◌, ◌++◌, option_to_list, Option}
use Rattle.std.proofs.Common.{Some, None, IfSome, refl, sym, ap, subst, ◌∙◌}
use Rattle.std.specs.Ordering.{nat_cmp}
use Rattle.std.specs.Option.{option_map_or}
use Rattle.std.specs.FinMap as tree
use Rattle.std.proofs.lemmas.Bool.{cases_eq, cases_lt}
use Rattle.std.proofs.lemmas.List.{append-nil}
use Rattle.std.proofs.lemmas.Option.{same_Some}
use Rattle.proof_tools.proofs.FiniteMaps.{get-insert_same, get-insert_other, get-insert_cases, get-remove_same, get-remove_other}
use Rattle.object_id.specs.declared.cause.Cause.{Cause}
use Rattle.object_id.specs.declared.node.NodeId.{NodeId}
use Rattle.object_id.specs.declared.entry.Entry.{Entry}
use Rattle.object_id.specs.Same.{is_same_entry}
use Rattle.vdi_directory.specs.declared.effect.Effect.{Effect}
use Rattle.vdi_directory.specs.Decisions.{log_effects}
use Rattle.peer_proto.specs.declared.guest.GuestRsp.{GuestRsp}
use Rattle.peer_proto.specs.declared.guest.GuestRsp.TheVariants.{Refused}
use Rattle.vdi_ops.specs.declared.act.OpAct.{OpAct}
use Rattle.vdi_ops.specs.declared.act.OpAct.TheVariants as op_acts
use Rattle.vdi_ops.specs.declared.end.OpEnd.{OpEnd}
use Rattle.vdi_ops.specs.Op.{Op, IsAwaitedAtOpStage}
use Rattle.vdi_ops.specs.Steps.{on_refusal}
use Rattle.sheep_node.specs.declared.course.Course.{Course}
use Rattle.sheep_node.specs.declared.course.Request.{Request}
use Rattle.sheep_node.specs.declared.course.Course.TheVariants.{Waiting, Driving, Commanding, Checking, DoingWork, AwaitingDecision}
use Rattle.sheep_node.specs.AwaitedEntry.{waits_for_entry}
use Rattle.sheep_node.specs.Changes.{Outcome, ToWork, ToEntry, ToReply, outcome_of_command}
use Rattle.sheep_node.specs.RequestWorks.{command_refused, course_refused}
use Rattle.sheep_node.specs.StepState.{StepState, with_optional_entry, request_ended}
use Rattle.overlap_law.specs.AwaitedEntries.{IsCommandEntry, HasAsker, IsSessionsEntry, IsSessionsCommand}
use Rattle.overlap_law.proofs.AwaitedCommands.{is_command, waited_own, put_waited, none_waited, EndsWaitingForNone, refused_waits_not}
use Rattle.overlap_law.proofs.CountedEntries.{times, once_if, times-push, same_entry}
use Rattle.overlap_law.proofs.ReservedIds.{session_of_entry}

abbrev pub Requests : Type 0
Requests = tree.FinMap nat_cmp Request

-- a request waits for this entry
abbrev pub Waits : Entry → Request → Type 0
Waits entry request = waits_for_entry entry request.course ≡ true

abbrev pub WaitsNot : Entry → Request → Type 0
WaitsNot entry request = waits_for_entry entry request.course ≡ false

-- what a node has read, and whose it is
module _ (read : List Entry) (me : NodeId) where
  abbrev known : List Effect
  known = log_effects read

  -- a command is its session's, and no request is a client's own entry
  abbrev pub IsOwnCourse : ℕ → Course → Type 0
  IsOwnCourse session (Waiting ask) = Unit {0}
  IsOwnCourse session (Driving driver) = Unit {0}
  IsOwnCourse session (Commanding op) = IsSessionsCommand known me session op
  IsOwnCourse session (Checking check) = Unit {0}
  IsOwnCourse session (DoingWork work) = Unit {0}
  IsOwnCourse session (AwaitingDecision entry) = ⊥

  -- each request is so, and no two commands are of one session
  pub record AreOwnCommands (requests : Requests) : Type 0 where
    pub own : (req : ℕ) (request : Request) → tree.get requests req ≡ Some request → IsOwnCourse request.session request.course
    pub apart : (one other : ℕ) (first second : Request) → tree.get requests one ≡ Some first → tree.get requests other ≡ Some second
        → is_command first.course ≡ true → is_command second.course ≡ true → first.session ≡ second.session → one ≡ other

  -- ---- a request is put anew, or goes

  -- no other request is a command of the session
  abbrev pub IsSole : Requests → ℕ → ℕ → Course → Type 0
  IsSole requests req session course = is_command course ≡ true → (other : ℕ) (request : Request) → tree.get requests other ≡ Some request
      → is_command request.course ≡ true → request.session ≡ session → other ≡ req

  module _ (requests : Requests) (so : AreOwnCommands requests) (req : ℕ) where
    put_own : (session : ℕ) (course : Course) → IsOwnCourse session course → IsSole requests req session course
        → AreOwnCommands (tree.insert requests req (record { session = session; course = course }))
    put_own session course own sole = record {
      own = λ q request got. ⊎_elim
          (λ (here : (q ≡ req) × (new ≡ request)). subst (λ (r : Request). IsOwnCourse r.session r.course) here.1 own)
          (λ (there : (q ≢ req) × (tree.get requests q ≡ Some request)). so.own q request there.1)
          (get-insert_cases requests req new q request got);
      apart = λ one other first second got got_too is is_too same. ⊎_elim
          (λ (here : (one ≡ req) × (new ≡ first)). ⊎_elim
          (λ (here_too : (other ≡ req) × (new ≡ second)). here.0 ∙ sym here_too.0)
          (λ (there : (other ≢ req) × (tree.get requests other ≡ Some second)).
          here.0 ∙ sym (sole (ap (λ (r : Request). is_command r.course) here.1 ∙ is) other second there.1 is_too
          (sym same ∙ sym (ap (λ (r : Request). r.session) here.1))))
          (get-insert_cases requests req new other second got_too))
          (λ (there : (one ≢ req) × (tree.get requests one ≡ Some first)). ⊎_elim
          (λ (here : (other ≡ req) × (new ≡ second)).
          sole (ap (λ (r : Request). is_command r.course) here.1 ∙ is_too) one first there.1 is
          (same ∙ sym (ap (λ (r : Request). r.session) here.1)) ∙ sym here.0)
          (λ (there_too : (other ≢ req) × (tree.get requests other ≡ Some second)). so.apart one other first second there.1 there_too.1 is
          is_too same) (get-insert_cases requests req new other second got_too))
          (get-insert_cases requests req new one first got);
    }
      where
        new : Request
        new = record { session = session; course = course }

    was_there : (q : ℕ) (request : Request) → tree.get (tree.remove requests req) q ≡ Some request → tree.get requests q ≡ Some request
    was_there q request got = ⊎_elim
        (λ (own : q ≡ req).
        let none : tree.get (tree.remove requests req) q ≡ None = ap (tree.get (tree.remove requests req)) own
        ∙ get-remove_same requests req in
        absurd (cc (none, got)))
        (λ (other : q ≢ req). sym (get-remove_other requests req q other) ∙ got)
        (cases_eq q req)

    gone_own : AreOwnCommands (tree.remove requests req)
    gone_own = record {
      own = λ q request got. so.own q request (was_there q request got);
      apart = λ one other first second got got_too. so.apart one other first second (was_there one first got)
          (was_there other second got_too);
    }

-- and what of the log it hasn't read, and the entry that it just reads
module _ (read : List Entry) (me : NodeId) (unread : List Entry) (reading : Option Entry) where
  -- how often an entry is on its way
  abbrev pub on_way : Entry → List Entry → ℕ
  on_way entry outbox = times entry unread + times entry outbox

  pub record AreAwaited (now : NodeId) (requests : Requests) (outbox : List Entry) : Type 0 where
    pub me_so : now ≡ me
    pub commands : AreOwnCommands read me requests
    pub awaited : (entry : Entry) → IsCommandEntry me entry → 1 ≤ on_way entry outbox → HasAsker requests entry
    pub once : (entry : Entry) → IsCommandEntry me entry → on_way entry outbox ≤ 1
    pub read_now : (entry : Entry) → IsCommandEntry me entry → reading ≡ Some entry → on_way entry outbox ≡ 0

  abbrev pub AreAwaitedSoFar : StepState → Type 0
  AreAwaitedSoFar so_far = AreAwaited so_far.node.me so_far.node.requests so_far.node.outbox

  -- who waited waits still, where the request that changes didn't
  asker_elsewhere : (requests : Requests) (req : ℕ) (entry : Entry)
      → ((old : Request) → tree.get requests req ≡ Some old → WaitsNot entry old)
      → (asker : HasAsker requests entry) → asker.req ≢ req
  asker_elsewhere requests req entry not asker same =
      let waits_not_so = not asker.request (ap (tree.get requests) (sym same) ∙ asker.there) in
      let waits_so = asker.waits in
      absurd (cc (waits_not_so, waits_so))

  module _ (now : NodeId) (requests : Requests) (outbox : List Entry) (so : AreAwaited now requests outbox) (req : ℕ)
      (free : (entry : Entry) → IsCommandEntry me entry → 1 ≤ on_way entry outbox → (old : Request) → tree.get requests req ≡ Some old
      → WaitsNot entry old) where
    pub put_awaited : (session : ℕ) (course : Course) → IsOwnCourse read me session course → IsSole read me requests req session course
        → AreAwaited now (tree.insert requests req (record { session = session; course = course })) outbox
    put_awaited session course own sole = record {
      me_so = so.me_so;
      commands = put_own read me requests so.commands req session course own sole;
      awaited = λ entry is some.
          let asker = so.awaited entry is some in
          record {
            req = asker.req;
            request = asker.request;
            there =
                get-insert_other requests req (record { session = session; course = course }) asker.req
                (asker_elsewhere requests req entry (free entry is some) asker) ∙ asker.there;
            waits = asker.waits;
          };
      once = so.once;
      read_now = so.read_now;
    }

    pub gone_awaited : AreAwaited now (tree.remove requests req) outbox
    gone_awaited = record {
      me_so = so.me_so;
      commands = gone_own read me requests so.commands req;
      awaited = λ entry is some.
          let asker = so.awaited entry is some in
          record {
            req = asker.req;
            request = asker.request;
            there = get-remove_other requests req asker.req (asker_elsewhere requests req entry (free entry is some) asker) ∙ asker.there;
            waits = asker.waits;
          };
      once = so.once;
      read_now = so.read_now;
    }

  -- ---- an entry is put

  -- what an entry of the node's commands asks: it isn't on its way, a request waits for it, and none is read
  pub record IsNewlyAwaited (requests : Requests) (outbox : List Entry) (entry : Entry) : Type 0 where
    pub none : on_way entry outbox ≡ 0
    pub asker : HasAsker requests entry
    pub not_read : (other : Entry) → reading ≢ Some other

  pub more_awaited : (now : NodeId) (requests : Requests) (outbox : List Entry) → AreAwaited now requests outbox → (last : Entry)
      → (IsCommandEntry me last → IsNewlyAwaited requests outbox last) → AreAwaited now requests (outbox ++ last ∷ [])
  more_awaited now requests outbox so last newly = record {
    me_so = so.me_so;
    commands = so.commands;
    awaited = λ entry is some. by_test (λ (e : Entry). HasAsker requests e) entry (is_same_entry entry last) refl
        (λ same. (newly (subst (IsCommandEntry me) same is)).asker)
        (λ apart. so.awaited entry is (subst (λ (k : ℕ). 1 ≤ k) (as_before entry apart) some));
    once = λ entry is. by_test (λ (e : Entry). on_way e (outbox ++ last ∷ []) ≤ 1) entry (is_same_entry entry last) refl
        (λ same.
        let none : times last unread + times last outbox ≡ 0 = (newly (subst (IsCommandEntry me) same is)).none in
        let more = times-push last outbox last in
        let one = at_most (is_same_entry last last) in
        omega (arith, none, more, one))
        (λ apart. subst (λ (k : ℕ). k ≤ 1) (sym (as_before entry apart)) (so.once entry is));
    read_now = λ entry is reads. by_test (λ (e : Entry). on_way e (outbox ++ last ∷ []) ≡ 0) entry (is_same_entry entry last) refl
        (λ same. absurd ((newly (subst (IsCommandEntry me) same is)).not_read entry reads))
        (λ apart. as_before entry apart ∙ so.read_now entry is reads);
  }
    where
      at_most : (b : Bool) → once_if b ≤ 1
      at_most true = omega arith
      at_most false = omega arith

      as_before : (entry : Entry) → is_same_entry entry last ≡ false → on_way entry (outbox ++ last ∷ []) ≡ on_way entry outbox
      as_before entry apart =
          let more : times entry (outbox ++ last ∷ []) ≡ times entry outbox + 0
          = times-push entry outbox last ∙ ap (λ (b : Bool). times entry outbox + once_if b) apart in
          omega (arith, more)

      by_test : (P : Entry → Type 0) (entry : Entry) (b : Bool) → is_same_entry entry last ≡ b → (entry ≡ last → P last)
          → (is_same_entry entry last ≡ false → P entry) → P entry
      by_test P entry true same new old = subst P (sym (same_entry entry last same)) (new (same_entry entry last same))
      by_test P entry false apart new old = old apart

  -- one that is none of the node's commands', or none
  pub more_if_awaited : (now : NodeId) (requests : Requests) (outbox : List Entry) → AreAwaited now requests outbox → (last : Option Entry)
      → IfSome last (λ (entry : Entry). IsCommandEntry me entry → ⊥) → AreAwaited now requests (outbox ++ option_to_list last)
  more_if_awaited now requests outbox so None never = subst (AreAwaited now requests) (sym (append-nil outbox)) so
  more_if_awaited now requests outbox so (Some last) never = more_awaited now requests outbox so last (λ is. absurd (never is))

  -- ---- a request ends

  -- the request of this number waits for no entry
  abbrev pub WaitsForNone : Requests → ℕ → Type 0
  WaitsForNone requests req = (entry : Entry) (old : Request) → tree.get requests req ≡ Some old → WaitsNot entry old

  pub ended_awaited : (session req : ℕ) (reply : GuestRsp) (so_far : StepState) → WaitsForNone so_far.node.requests req
      → AreAwaitedSoFar so_far
      → AreAwaitedSoFar (request_ended session req reply so_far)
  unfolding request_ended
  ended_awaited session req reply so_far none so =
      gone_awaited so_far.node.me so_far.node.requests so_far.node.outbox so req (λ entry is some old got. none entry old got)

  this_waits_not : (requests : Requests) (session req : ℕ) (course : Course)
      → tree.get requests req ≡ Some (record { session = session; course = course })
      → ((entry : Entry) → waits_for_entry entry course ≡ false) → WaitsForNone requests req
  this_waits_not requests session req course there none entry old got =
      let same : record { session = session; course = course } ≡ old = same_Some _ old (sym there ∙ got) in
      subst (WaitsNot entry) same (none entry)

  pub refused_awaited : (session req : ℕ) (cause : Cause) (course : Course) (so_far : StepState)
      → tree.get so_far.node.requests req ≡ Some (record { session = session; course = course }) → AreAwaitedSoFar so_far
      → AreAwaitedSoFar (course_refused session req cause course so_far)
  refused_awaited session req cause (Waiting ask) so_far there so = so
  refused_awaited session req cause (Driving driver) so_far there so =
      ended_awaited session req (Refused cause) so_far (this_waits_not so_far.node.requests session req (Driving driver) there
      (λ entry. refl)) so
  refused_awaited session req cause (Commanding op) so_far there so = by_end (on_refusal cause op) (refused_waits_not me cause op)
    where
      by_end : (end : Option OpEnd) → IfSome end (EndsWaitingForNone me op) → AreAwaitedSoFar (command_refused session req end so_far)
      by_end None is = so
      by_end (Some end) is =
          ended_awaited session req end.reply (with_optional_entry end.unlock so_far)
          (this_waits_not so_far.node.requests session req (Commanding op) there is.waits)
          (more_if_awaited so_far.node.me so_far.node.requests so_far.node.outbox so end.unlock is.unlock)
  refused_awaited session req cause (Checking check) so_far there so =
      ended_awaited session req (Refused cause) so_far (this_waits_not so_far.node.requests session req (Checking check) there
      (λ entry. refl)) so
  refused_awaited session req cause (DoingWork work) so_far there so =
      ended_awaited session req (Refused cause) so_far (this_waits_not so_far.node.requests session req (DoingWork work) there
      (λ entry. refl)) so
  refused_awaited session req cause (AwaitingDecision entry) so_far there so = so

  pub refused_if_there_awaited : (req : ℕ) (cause : Cause) (request : Option Request) (so_far : StepState)
      → tree.get so_far.node.requests req ≡ request
      → AreAwaitedSoFar so_far
      → AreAwaitedSoFar (option_map_or (λ (request : Request). course_refused request.session req cause request.course so_far) request
      so_far)
  refused_if_there_awaited req cause None so_far there so = so
  refused_if_there_awaited req cause (Some request) so_far there so =
      refused_awaited request.session req cause request.course so_far there so

  -- ---- a command goes on

  -- what is owed where a request takes a step to this
  abbrev pub IsNextAwaited : Requests → List Entry → ℕ → Outcome → Type 0
  IsNextAwaited requests outbox req (ToWork work) = Unit {0}
  IsNextAwaited requests outbox req (ToEntry entry) = IsCommandEntry me entry → IsNewlyAwaited requests outbox entry
  IsNextAwaited requests outbox req (ToReply reply) = WaitsForNone requests req

  -- a session's entry isn't on its way, and none is read
  pub record IsNoneOnTheWay (outbox : List Entry) (session : ℕ) : Type 0 where
    pub none : (entry : Entry) → IsCommandEntry me entry → IsSessionsEntry (log_effects read) me session entry → on_way entry outbox ≡ 0
    pub not_read : (other : Entry) → reading ≢ Some other

  -- by the sessions of those who wait: where no command of this session waits, none of its entries is on its way
  pub none_on_the_way : (now : NodeId) (requests : Requests) (outbox : List Entry) → AreAwaited now requests outbox → (session : ℕ)
      → ((req : ℕ) (request : Request) → tree.get requests req ≡ Some request → is_command request.course ≡ true → request.session ≡ session
      → (entry : Entry) → Waits entry request → ⊥)
      → (entry : Entry) → IsCommandEntry me entry → IsSessionsEntry (log_effects read) me session entry → on_way entry outbox ≡ 0
  none_on_the_way now requests outbox so session nobody entry is own = ⊎_elim
      (λ (some : 0 < on_way entry outbox). absurd (waiting (so.awaited entry is (omega (arith, some)))))
      (λ (none : on_way entry outbox ≤ 0). omega (arith, none))
      (cases_lt 0 (on_way entry outbox))
    where
      by_course : (asker : HasAsker requests entry) (course : Course) → asker.request.course ≡ course
          → IsOwnCourse read me asker.request.session course
          → waits_for_entry entry course ≡ true
          → (is_command course ≡ true) × IsSessionsEntry (log_effects read) me asker.request.session entry
      by_course asker (Waiting ask) is own waits = absurd (cc (waits))
      by_course asker (Driving driver) is own waits = absurd (cc (waits))
      by_course asker (Commanding op) is own waits =
          (refl, waited_own (log_effects read) me asker.request.session entry op.stage own.stage waits)
      by_course asker (Checking check) is own waits = absurd (cc (waits))
      by_course asker (DoingWork work) is own waits = absurd (cc (waits))
      by_course asker (AwaitingDecision wanted) is own waits = absurd own

      waiting : HasAsker requests entry → ⊥
      waiting asker =
          let (command, its) = by_course asker asker.request.course refl (so.commands.own asker.req asker.request asker.there)
          asker.waits in
          nobody asker.req asker.request asker.there command (session_of_entry read me asker.request.session session entry its own) entry
          asker.waits

  -- a command is put with its act
  pub command_awaited : (now : NodeId) (requests : Requests) (outbox : List Entry) (session req : ℕ) (op : Op) (act : OpAct)
      → IsSessionsCommand (log_effects read) me session op → IsAwaitedAtOpStage act op.stage
      → ((entry : Entry) → act ≡ op_acts.Append entry → IsNoneOnTheWay outbox session)
      → IsNextAwaited (tree.insert requests req (record { session = session; course = Commanding op })) outbox req (outcome_of_command act)
  command_awaited now requests outbox session req op (op_acts.Append entry) own awaited fresh = λ is.
      let none = fresh entry refl in
      let waits = put_waited entry op.stage awaited in
      record {
        none = none.none entry is (waited_own (log_effects read) me session entry op.stage own.stage waits);
        asker = record {
          req = req;
          request = record { session = session; course = Commanding op };
          there = get-insert_same requests req (record { session = session; course = Commanding op });
          waits = waits;
        };
        not_read = none.not_read;
      }
  command_awaited now requests outbox session req op (op_acts.Work work) own awaited fresh = tt
  command_awaited now requests outbox session req op (op_acts.Reply reply) own awaited fresh =
      this_waits_not (tree.insert requests req (record { session = session; course = Commanding op })) session req (Commanding op)
      (get-insert_same requests req (record { session = session; course = Commanding op }))
      (none_waited (op_acts.Reply reply) op.stage tt awaited)
