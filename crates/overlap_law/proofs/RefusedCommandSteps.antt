-- Along a node's step: the command for which an entry was put goes on with what it was given, or has its reply; and if that refuses it,
-- the unlock of what it was given stands in the outbox.
use Rattle.std.proofs.Common.{◌≡◌, ◌≢◌, ⊎_elim, ℕ, ◌+◌, Bool, true, false, List, [], ◌∷◌, ◌++◌, Contains, Option, Some, None, refl, sym, ap}
use Rattle.std.proofs.Common.{subst, ◌∙◌, arith}
use Rattle.std.specs.Option.{option_map_or}
use Rattle.std.specs.FinMap as tree
use Rattle.std.proofs.lemmas.Bool.{cases_eq}
use Rattle.std.proofs.lemmas.List.Elements.{Contains-push, Contains-append_left}
use Rattle.proof_tools.proofs.FiniteMaps.{get-insert_cases, get-remove_same, get-remove_other}
use Rattle.object_id.specs.declared.cause.Cause.{Cause}
use Rattle.object_id.specs.declared.cause.Cause.TheVariants.{Halt}
use Rattle.object_id.specs.declared.node.NodeId.{NodeId}
use Rattle.object_id.specs.declared.entry.Entry.{Entry}
use Rattle.object_id.specs.declared.entry.Entry.TheVariants.{Recovered}
use Rattle.object_id.specs.Same.{is_same_entry}
use Rattle.peer_proto.specs.declared.guest.GuestRsp.{GuestRsp}
use Rattle.peer_proto.specs.declared.guest.GuestRsp.TheVariants.{Refused}
use Rattle.peer_service.specs.State.{effects_of}
use Rattle.peer_service.specs.LogReading.{decision_on}
use Rattle.vdi_directory.specs.declared.effect.Effect.{Effect}
use Rattle.vdi_directory.specs.Decisions.{outcome, log_effects}
use Rattle.guest_driver.specs.Driver as drivers
use Rattle.disk_check.specs.Check.{begin_check}
use Rattle.vdi_ops.specs.Entries.{unlock_of}
use Rattle.vdi_ops.specs.Op.{OpStage, Asked, Working, Publishing, Answered, Op, OpStep}
use Rattle.vdi_ops.specs.declared.act.OpAct.{OpAct}
use Rattle.vdi_ops.specs.declared.act.OpAct.TheVariants as op_acts
use Rattle.vdi_ops.specs.Steps.{op_on_done, on_decision, refused_at, on_refusal}
use Rattle.inode.specs.Layout.{Content}
use Rattle.peer_proto.specs.declared.guest.VdiAsk.TheVariants as disk_commands
use Rattle.gateway.specs.Work.{zones_for}
use Rattle.gateway.specs.State.{Work}
use Rattle.sheep_node.specs.declared.ask.Ask.{Ask}
use Rattle.sheep_node.specs.declared.ask.Ask.TheVariants as asks
use Rattle.sheep_node.specs.declared.input.Input.{Input}
use Rattle.sheep_node.specs.declared.input.Input.TheVariants as inputs
use Rattle.sheep_node.specs.declared.course.Course.{Course}
use Rattle.sheep_node.specs.declared.course.Request.{Request}
use Rattle.sheep_node.specs.declared.course.Course.TheVariants.{Waiting, Driving, Commanding, Checking, DoingWork, AwaitingDecision}
use Rattle.sheep_node.specs.State.{Node}
use Rattle.sheep_node.specs.StepState.{StepState, with_optional_entry, replies_in_order, request_ended, session_in}
use Rattle.sheep_node.specs.Courses.{inode_open}
use Rattle.sheep_node.specs.RequestWorks.{command_refused, course_refused}
use Rattle.sheep_node.specs.AwaitedEntry.{waits_for_entry}
use Rattle.sheep_node.specs.Changes as changes
use Rattle.sheep_node.specs.Changes.{Outcome, ToWork, ToEntry, ToReply, RequestSteps, DiskBegins, DiskGoesOn, CommandBegins, CommandGoesOn}
use Rattle.sheep_node.specs.Changes.{CommandDecided, CheckBegins, CheckGoesOn, ObjectBegins, ObjectIsDone, EntryBegins, EntryDecided}
use Rattle.sheep_node.specs.Changes.{outcome_of_command, WorkIsNext, AtOnce, InTurn, Again, AgainAlone, Change, HasRequest}
use Rattle.overlap_law.specs.AwaitedEntries.{IsCommandEntry, IsSessionsEntry}
use Rattle.overlap_law.specs.PastWords.{is_refusal}
use Rattle.overlap_law.specs.RefusedCommands.{effect_behind, changes_disks, giving_back}
use Rattle.overlap_law.specs.WriterClaims.{IsFirstEntry}
use Rattle.overlap_law.proofs.AwaitedChanges.{Requests}
use Rattle.overlap_law.proofs.AwaitedCommands.{waits_at}
use Rattle.overlap_law.proofs.CountedEntries.{times, once_if, times-push, none_of_them, same_entry}
use Rattle.overlap_law.proofs.RefusedCommandStages.{IsGiven, IsComeTo, IsComeSo, IsOnCourse, IsFair, is_asked, IsLedOn, decided_leads}
use Rattle.overlap_law.proofs.RefusedCommandStages.{done_leads}
use Rattle.overlap_law.proofs.RequestsInSteps.{replies-in_order}

abbrev Replies : Type 0
Replies = List (ℕ × GuestRsp)

module _ (earlier : List Entry) (entry : Entry) (me : NodeId) (command : IsCommandEntry me entry) (session req : ℕ) (AtFirst : Type 0)
    (ours : List Entry) where
  -- no disk was changed, and the unlock stands in the outbox
  abbrev pub IsLeftSo : List Entry → Type 0
  IsLeftSo outbox =
      (changes_disks (effect_behind earlier entry) ≡ false)
      × ((unlock : Entry) → giving_back (effect_behind earlier entry) ≡ Some unlock → Contains outbox unlock)

  -- where the request is, if it is there: it is a command that has come so far, and if it waits for its first decision, its entry isn't to
  -- be put again; and what a refusal of it leaves
  pub record StandsSo (requests : Requests) (outbox : List Entry) (replies : Replies) : Type 0 where
    pub there : (request : Request) → tree.get requests req ≡ Some request → IsOnCourse earlier entry me session AtFirst request.course
    pub put_once : (request : Request) → tree.get requests req ≡ Some request → is_asked request.course ≡ true → times entry outbox ≡ 0
    pub refused : (reply : ℕ × GuestRsp) → Contains replies reply → reply.0 ≡ req → is_refusal reply.1 ≡ true → IsLeftSo outbox
    -- what was in the outbox is
    pub kept : (one : Entry) → Contains ours one → Contains outbox one

  abbrev pub Stands : StepState → Type 0
  Stands so_far = StandsSo so_far.node.requests so_far.node.outbox so_far.outputs.replies

  module _ (requests : Requests) (outbox : List Entry) (replies : Replies) (so : StandsSo requests outbox replies) where
    -- a request is put
    put_stands : (r : ℕ) (new : Request)
        → (req ≡ r → IsOnCourse earlier entry me session AtFirst new.course × (is_asked new.course ≡ false))
        → StandsSo (tree.insert requests r new) outbox replies
    put_stands r new own = record {
      there = λ request got. ⊎_elim
          (λ (here : (req ≡ r) × (new ≡ request)). subst (λ (n : Request). IsOnCourse earlier entry me session AtFirst n.course) here.1
          (own here.0).0)
          (λ (other : (req ≢ r) × (tree.get requests req ≡ Some request)). so.there request other.1)
          (get-insert_cases requests r new req request got);
      put_once = λ request got asked. ⊎_elim
          (λ (here : (req ≡ r) × (new ≡ request)).
          let not_asked = (own here.0).1 in
          let is = ap (λ (n : Request). is_asked n.course) here.1 ∙ asked in
          absurd (cc (not_asked, is)))
          (λ (other : (req ≢ r) × (tree.get requests req ≡ Some request)). so.put_once request other.1 asked)
          (get-insert_cases requests r new req request got);
      refused = so.refused;
      kept = so.kept;
    }

    -- one goes
    gone_before : (r : ℕ) (request : Request) → tree.get (tree.remove requests r) req ≡ Some request → tree.get requests req ≡ Some request
    gone_before r request got = ⊎_elim
        (λ (own : req ≡ r).
        let none : tree.get (tree.remove requests r) req ≡ None = ap (tree.get (tree.remove requests r)) own ∙ get-remove_same requests r in
        absurd (cc (none, got)))
        (λ (other : req ≢ r). sym (get-remove_other requests r req other) ∙ got)
        (cases_eq req r)

    -- with its reply
    ended_so : (r : ℕ) (reply : GuestRsp) → (r ≡ req → is_refusal reply ≡ true → IsLeftSo outbox)
        → StandsSo (tree.remove requests r) outbox (replies_in_order (r, reply) replies)
    ended_so r reply left = record {
      there = λ request got. so.there request (gone_before r request got);
      put_once = λ request got asked. so.put_once request (gone_before r request got) asked;
      refused = λ one among own refuses. ⊎_elim
          (λ (new : (r, reply) ≡ one).
          left (ap (λ (a : ℕ × GuestRsp). a.0) new ∙ own) (ap (λ (a : ℕ × GuestRsp). is_refusal a.1) new ∙ refuses))
          (λ (old : Contains replies one). so.refused one old own refuses)
          (replies-in_order (r, reply) replies one among);
      kept = so.kept;
    }

    -- or has one alone
    replied_so : (r : ℕ) (reply : GuestRsp) → (r ≡ req → is_refusal reply ≡ true → IsLeftSo outbox)
        → StandsSo requests outbox (replies_in_order (r, reply) replies)
    replied_so r reply left = record {
      there = so.there;
      put_once = so.put_once;
      refused = λ one among own refuses. ⊎_elim
          (λ (new : (r, reply) ≡ one).
          left (ap (λ (a : ℕ × GuestRsp). a.0) new ∙ own) (ap (λ (a : ℕ × GuestRsp). is_refusal a.1) new ∙ refuses))
          (λ (old : Contains replies one). so.refused one old own refuses)
          (replies-in_order (r, reply) replies one among);
      kept = so.kept;
    }

    -- an entry stands behind the others, which isn't this one again where that is waited for
    more_so : (last : Entry)
        → ((request : Request) → tree.get requests req ≡ Some request → is_asked request.course ≡ true → is_same_entry entry last ≡ false)
        → StandsSo requests (outbox ++ last ∷ []) replies
    more_so last other = record {
      there = so.there;
      put_once = λ request got asked.
          let more : times entry (outbox ++ last ∷ []) ≡ times entry outbox + 0
          = times-push entry outbox last ∙ ap (λ (b : Bool). times entry outbox + once_if b) (other request got asked) in
          let none = so.put_once request got asked in
          omega (arith, more, none);
      refused = λ one among own refuses.
          let left = so.refused one among own refuses in
          (left.0, λ unlock gives. Contains-append_left outbox (last ∷ []) unlock (left.1 unlock gives));
      kept = λ one there. Contains-append_left outbox (last ∷ []) one (so.kept one there);
    }

  -- ---- a request ends

  ended_stands : (number r : ℕ) (reply : GuestRsp) (so_far : StepState) → (r ≡ req → is_refusal reply ≡ true → IsLeftSo so_far.node.outbox)
      → Stands so_far → Stands (request_ended number r reply so_far)
  unfolding request_ended
  ended_stands number r reply so_far left so = ended_so so_far.node.requests so_far.node.outbox so_far.outputs.replies so r reply left

  -- it is refused with its work
  refused_stands : (number r : ℕ) (cause : Cause) (course : Course) (so_far : StepState)
      → (r ≡ req → IsOnCourse earlier entry me session AtFirst course) → Stands so_far → Stands
      (course_refused number r cause course so_far)
  unfolding on_refusal
  refused_stands number r cause (Waiting ask) so_far on so = so
  refused_stands number r cause (Driving driver) so_far on so =
      ended_stands number r (Refused cause) so_far (λ own refuses. absurd (on own)) so
  refused_stands number r cause (Commanding op) so_far on so = by_stage op.stage refl
    where
      by_stage : (stage : OpStage) → op.stage ≡ stage → Stands (command_refused number r (refused_at cause op stage) so_far)
      by_stage (Asked wanted) at = so
      by_stage (Working vid task) at =
          let unlock = unlock_of op.by op.session vid.0 in
          ended_stands number r (Refused cause) (with_optional_entry (Some unlock) so_far)
          (λ own refuses.
          let come = on own in
          let given : IsGiven me session vid (effect_behind earlier entry)
          = subst (IsComeTo earlier entry me session AtFirst) at come.stage in (
            given.0,
            λ back gives.
                let same : unlock ≡ back = (λ i. unlock_of (come.by i) (come.of i) vid.0) ∙ given.1 back gives in
                subst (Contains (so_far.node.outbox ++ unlock ∷ [])) same (Contains-push so_far.node.outbox unlock),
          ))
          (more_so so_far.node.requests so_far.node.outbox so_far.outputs.replies so unlock
          (λ request got asked. none_of_them me entry unlock command (λ never. never)))
      by_stage (Publishing wanted made) at = so
      by_stage (Answered change) at = so
  refused_stands number r cause (Checking check) so_far on so =
      ended_stands number r (Refused cause) so_far (λ own refuses. absurd (on own)) so
  refused_stands number r cause (DoingWork work) so_far on so =
      ended_stands number r (Refused cause) so_far (λ own refuses. absurd (on own)) so
  refused_stands number r cause (AwaitingDecision wanted) so_far on so = so

  -- one that is looked up
  looked_up_stands : (r : ℕ) (cause : Cause) (request : Option Request) (so_far : StepState) → tree.get so_far.node.requests r ≡ request
      → Stands so_far
      → Stands (option_map_or (λ (request : Request). course_refused request.session r cause request.course so_far) request so_far)
  looked_up_stands r cause None so_far got so = so
  looked_up_stands r cause (Some request) so_far got so =
      refused_stands request.session r cause request.course so_far
      (λ own. so.there request (ap (tree.get so_far.node.requests) (sym own) ∙ got)) so

  -- ---- a request takes a step

  -- the input brings no such request; and where the command waits for its first decision, what the node reads then is what was put
  module _ (input : Input) (node : Node) (old : (number : ℕ) (ask : Ask) → input ≡ inputs.Guest req number ask → ⊥)
      (known : List Effect) (mine : IsSessionsEntry known me session entry)
      (firstly : AtFirst → IsFirstEntry entry)
      (reads : AtFirst → input ≡ inputs.LogEntry entry → node.peer.entries ≡ earlier) where
    -- what is owed where a request comes to this
    abbrev Owes : StepState → ℕ → Outcome → Type 0
    Owes so_far r (ToWork work) = Unit {0}
    Owes so_far r (ToEntry last) = Unit {0}
    Owes so_far r (ToReply reply) = r ≡ req → is_refusal reply ≡ true → IsLeftSo so_far.node.outbox

    not_brought : (number r : ℕ) (ask : Ask) {P : Type 0} → input ≡ inputs.Guest r number ask → req ≡ r → P
    not_brought number r ask from own = absurd (old number ask (from ∙ ap (λ (k : ℕ). inputs.Guest k number ask) (sym own)))

    -- where it is
    course_so : (so_far : StepState) → Stands so_far → (number r : ℕ) (course : Course) → HasRequest number r course so_far → req ≡ r
        → IsOnCourse earlier entry me session AtFirst course
    course_so so_far so number r course there own =
        so.there (record { session = number; course = course }) (ap (tree.get so_far.node.requests) own ∙ there)

    never_owes : (so_far : StepState) (r : ℕ) (next : Outcome) → (req ≡ r → ⊥) → Owes so_far r next
    never_owes so_far r (ToWork work) never = tt
    never_owes so_far r (ToEntry last) never = tt
    never_owes so_far r (ToReply reply) never = λ own refuses. absurd (never (sym own))

    -- a command's act owes nothing, or its reply is fair
    act_owes : (so_far : StepState) (r : ℕ) (act : OpAct) → (req ≡ r → IsFair earlier entry me session AtFirst act)
        → Owes so_far r (outcome_of_command act)
    act_owes so_far r (op_acts.Append last) fair = tt
    act_owes so_far r (op_acts.Work work) fair = tt
    act_owes so_far r (op_acts.Reply reply) fair = λ own refuses.
        let undone = fair (sym own) refuses in (undone.0, λ unlock gives. let none = undone.1 in absurd (cc (none, gives)))

    -- a request is put that isn't the command
    module _ (so_far : StepState) (so : Stands so_far) (number r : ℕ) (never : req ≡ r → ⊥) where
      other_put : (course : Course)
          → StandsSo (tree.insert so_far.node.requests r (record { session = number; course = course })) so_far.node.outbox
          so_far.outputs.replies
      other_put course =
          put_stands so_far.node.requests so_far.node.outbox so_far.outputs.replies so r (record { session = number; course = course })
          (λ own. absurd (never own))

    -- the command is led on by its work, or by the decision
    module _ (so_far : StepState) (so : Stands so_far) (number r : ℕ) (op : Op) (there : HasRequest number r (Commanding op) so_far) where
      come_so : req ≡ r → IsComeSo earlier entry me session AtFirst op
      come_so own = course_so so_far so number r (Commanding op) there own

      pub done_so : (bytes : List ℕ) (step : OpStep) → op_on_done bytes op ≡ Some step → req ≡ r → IsLedOn earlier entry me session
          AtFirst step
      done_so bytes step is own =
          let come = come_so own in done_leads earlier entry me session AtFirst op come.by come.of bytes step come.stage is

      decided_so : (put : Entry) (disk : Option Content) (step : OpStep) → input ≡ inputs.LogEntry put → waits_for_entry put
          (Commanding op) ≡ true
          → on_decision (effects_of so_far.node.peer) disk (decision_on put node.peer) op ≡ Some step → req ≡ r
          → IsLedOn earlier entry me session AtFirst step
      decided_so put disk step from waits is own =
          let come = come_so own in
          decided_leads earlier entry me session AtFirst op come.by come.of (effects_of so_far.node.peer) known disk
          (decision_on put node.peer) step come.stage mine firstly command
          (λ wanted at first.
          let this : wanted ≡ entry = (subst (IsComeTo earlier entry me session AtFirst) at come.stage).0 in
          let that : wanted ≡ put = same_entry wanted put (sym (ap (waits_at put) at) ∙ waits) in
          let same : put ≡ entry = sym that ∙ this in
          let read : node.peer.entries ≡ earlier = reads first (from ∙ ap (λ (e : Entry). inputs.LogEntry e) same) in
          λ i. (outcome (log_effects (read i)) (same i)).decision) is

    pub stepped : (so_far : StepState) → Stands so_far → (number r : ℕ) (next : Outcome) (moved : StepState)
        → RequestSteps input node so_far number r next moved → Stands moved × Owes moved r next
    stepped so_far so number r next moved (DiskBegins ask disk there on may) =
        let never = course_so so_far so number r (Waiting ask) there in (
          other_put so_far so number r never (Driving (drivers.begin_driver disk ask).driver),
          never_owes moved r next never,
        )
    stepped so_far so number r next moved (DiskGoesOn k work attempt status bytes driver disk step ends on is) =
        let never = course_so so_far so number r (Driving driver) ends.ends.request in
        (other_put so_far so number r never (Driving step.driver), never_owes moved r next never)
    stepped so_far so number r next moved (CommandBegins ask step arrival is) =
        let never = not_brought number r (asks.Vdi ask) {P = ⊥} arrival.from in
        (other_put so_far so number r never (Commanding step.op), never_owes moved r next never)
    stepped so_far so number r next moved (CommandGoesOn k work attempt status bytes op step ends is) =
        let led = done_so so_far so number r op ends.ends.request bytes step is in (
          put_stands so_far.node.requests so_far.node.outbox so_far.outputs.replies so r
              (record { session = number; course = Commanding step.op }) (λ own. ((led own).come, (led own).past)),
          act_owes moved r step.act (λ own. (led own).fair),
        )
    stepped so_far so number r next moved (CommandDecided put op step from read there waits is) =
        let led = decided_so so_far so number r op there put (inode_open (session_in number so_far).disk) step from waits is in (
          put_stands so_far.node.requests so_far.node.outbox so_far.outputs.replies so r
              (record { session = number; course = Commanding step.op }) (λ own. ((led own).come, (led own).past)),
          act_owes moved r step.act (λ own. (led own).fair),
        )
    stepped so_far so number r next moved (CheckBegins inode arrival on) =
        let never = not_brought number r (asks.Vdi disk_commands.Check) {P = ⊥} arrival.from in
        (other_put so_far so number r never (Checking (begin_check inode).check), never_owes moved r next never)
    stepped so_far so number r next moved (CheckGoesOn k work attempt status bytes check step ends is) =
        let never = course_so so_far so number r (Checking check) ends.ends.request in
        (other_put so_far so number r never (Checking step.check), never_owes moved r next never)
    stepped so_far so number r next moved (ObjectBegins work arrival) =
        let never = not_brought number r (asks.Object work) {P = ⊥} arrival.from in
        (other_put so_far so number r never (DoingWork work), never_owes moved r next never)
    stepped so_far so number r next moved (ObjectIsDone k work attempt status bytes does ends) =
        (so, never_owes moved r next (course_so so_far so number r (DoingWork does) ends.ends.request))
    stepped so_far so number r next moved (EntryBegins put arrival) =
        let never = not_brought number r (asks.Entry put) {P = ⊥} arrival.from in
        (other_put so_far so number r never (AwaitingDecision put), never_owes moved r next never)
    stepped so_far so number r next moved (EntryDecided put wanted from read there waits) =
        (so, never_owes moved r next (course_so so_far so number r (AwaitingDecision wanted) there))

    lined_up : (so_far : StepState) → Stands so_far → (number r : ℕ) (asked : Work) (lined : StepState)
        → WorkIsNext input node so_far number r asked lined → Stands lined
    lined_up so_far so number r asked lined (AtOnce work moved steps may) = (stepped so_far so number r (ToWork work) moved steps).0
    lined_up so_far so number r asked lined (InTurn work later none is) = so
    lined_up so_far so number r asked lined (Again work course from turn there request) = so
    lined_up so_far so number r asked lined (AgainAlone work from turn there none) = so

    -- ---- every change

    -- a command puts no entry that the one which waits for its first decision waits for
    abbrev pub PutsOthers : StepState → Type 0
    PutsOthers so_far = (number r : ℕ) (last : Entry) (moved : StepState) → RequestSteps input node so_far number r (ToEntry last) moved
        → (request : Request) → tree.get moved.node.requests req ≡ Some request → is_asked request.course ≡ true
        → is_same_entry entry last ≡ false

    pub change_stands : (so_far next : StepState) → PutsOthers so_far → Stands so_far → Change input node so_far next → Stands next
    change_stands so_far next others so (changes.Marks r k work attempt status learns over) = so
    change_stands so_far next others so (changes.Fails number r k work attempt status course ends done why) = so
    change_stands so_far next others so (changes.Stops number r k work attempt status course bytes ends over) = so
    change_stands so_far next others so (changes.Refuses number r k work attempt status course cause ends done why) =
        refused_stands number r cause course (changes.without_ended_work number r work status so_far)
        (λ own. course_so so_far so number r course ends.request (sym own)) so
    change_stands so_far next others so (changes.Opens number r asked lined comes enough) = lined_up so_far so number r asked lined comes
    change_stands so_far next others so (changes.Holds number r asked lined comes short touched) = lined_up so_far so number r asked
        lined comes
    change_stands so_far next others so (changes.Denies number r asked lined request comes short untouched there own) =
        looked_up_stands r (Halt (changes.zones_of_members lined.node) (zones_for asked.work)) request
        (changes.without_denied_work number r asked lined) there (lined_up so_far so number r asked lined comes)
    change_stands so_far next others so (changes.Strays r work gateway there none apart) = so
    change_stands so_far next others so (changes.Lines number r work moved steps waits) =
        (stepped so_far so number r (ToWork work) moved steps).0
    change_stands so_far next others so (changes.Appends number r last moved steps) =
        more_so moved.node.requests moved.node.outbox moved.outputs.replies (stepped so_far so number r (ToEntry last) moved steps).0 last
        (others number r last moved steps)
    change_stands so_far next others so (changes.Replies number r reply moved steps) =
        let both = stepped so_far so number r (ToReply reply) moved steps in ended_stands number r reply moved both.1 both.0
    change_stands so_far next others so (changes.Arrives number r ask disk arrival on) =
        other_put so_far so number r (not_brought number r (asks.Disk ask) {P = ⊥} arrival.from) (Waiting ask)
    change_stands so_far next others so (changes.Rejects number r ask cause arrival) =
        replied_so so_far.node.requests so_far.node.outbox so_far.outputs.replies so r (Refused cause)
        (λ own refuses. not_brought number r ask arrival.from (sym own))
    change_stands so_far next others so (changes.Recovers due) =
        more_so so_far.node.requests so_far.node.outbox so_far.outputs.replies so
        (Recovered so_far.node.me (record { 0 = so_far.node.recovery.epoch }))
        (λ request got asked.
        none_of_them me entry (Recovered so_far.node.me (record { 0 = so_far.node.recovery.epoch })) command (λ never. never))
