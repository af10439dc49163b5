-- Every change leaves a number with one work or the recovery, and below the count of sends; so a node stays driven.
use Rattle.std.proofs.Common.{◌≡◌, ◌≢◌, ℕ, ◌+◌, ◌<◌, ◌≤◌, Bool, true, false, List, [], ◌∷◌, length, map, Option, Some, None, is_some, refl, sym, ap, subst, ◌∙◌, ⊎_elim}
use native.Mathlib.Omega.{arith}
use Rattle.std.specs.Ordering.{nat_cmp}
use Rattle.std.specs.List.{list_any}
use Rattle.std.specs.FinMap as tree
use Rattle.std.proofs.lemmas.Option.{same_Some}
use Rattle.std.proofs.lemmas.Bool.{cases_eq, cases_lt}
use Rattle.proof_tools.proofs.Booleans.{cond_either, has_value}
use Rattle.proof_tools.proofs.FiniteMaps.{get-insert_other, get-insert_same, get-remove_other, get-remove_same}
use Rattle.object_id.specs.declared.cause.Cause.TheVariants.{Halt}
use Rattle.object_id.specs.declared.node.Epoch.{Epoch}
use Rattle.object_id.specs.declared.node.NodeId.{NodeId}
use Rattle.object_id.specs.declared.entry.Entry.{Entry}
use Rattle.vnode_table.specs.Targets.{targets_in}
use Rattle.peer_proto.specs.Work.{oid_of, policy_of}
use Rattle.peer_proto.specs.declared.guest.GuestRsp.{GuestRsp}
use Rattle.peer_proto.specs.declared.say.PeerSay.{PeerSay}
use Rattle.gateway.specs.declared.message.Status.{Status}
use Rattle.gateway.specs.Work as works
use Rattle.gateway.specs.Attempt.{Attempt, is_awaited_message, messages_of, send_of}
use Rattle.gateway.specs.State as gateways
use Rattle.gateway.specs.State.{WorkStage, Open, Ended, WaitsForMembers, Work, Gateway, open_messages, is_awaited_in}
use Rattle.gateway.specs.Step.{with_work, attempt_with_status}
use Rattle.recovery.specs.State as recoveries
use Rattle.recovery.specs.State.{Recovery, Message}
use Rattle.recovery.specs.Steps as recovery_steps
use Rattle.recovery.specs.Tick.{state_after_tick}
use Rattle.sheep_node.specs.declared.input.Input.{Input}
use Rattle.sheep_node.specs.declared.input.Input.TheVariants as inputs
use Rattle.sheep_node.specs.State.{Node, initial_node}
use Rattle.sheep_node.specs.RecoveryView.{recovery_state_of}
use Rattle.sheep_node.specs.StepState.{StepState, at_first, with_gateway, request_ended}
use Rattle.sheep_node.specs.LogReading.{entry_read, come_back_with, on_back}
use Rattle.sheep_node.specs.Step.{on_request, recovery_stepped, on_put, on_recover_tick, node_step}
use Rattle.sheep_node.specs.May.{Meets, May}
use Rattle.sheep_node.specs.OneWork.{NumbersAreOfOneWork, NumbersAreBelow, HasOneWorkPerRequest}
use Rattle.sheep_node.specs.Changes as changes
use Rattle.sheep_node.specs.Changes.{IsSoundStep, LearnsStatus, gateway_with_touch, without_ended_work, Outcome, ToWork, ToEntry, ToReply, RequestSteps, DiskBegins, DiskGoesOn, CommandBegins, CommandGoesOn, CommandDecided, WorkIsNext, AtOnce, InTurn, Again, AgainAlone, attempt_in, input_received, Leads, Change, CheckBegins, CheckGoesOn, ObjectBegins, ObjectIsDone, EntryBegins, EntryDecided, MeetsNumbers}
use Rattle.sheep_node.proofs.AwaitedWorks.{Works, found_by, found_got, got_found}
use Rattle.sheep_node.proofs.MessageNumbers.{all_before, fresh_apart, fresh_below, left_before, ticked_within, unanswered_in_epoch, unanswered_reading}
use Rattle.sheep_node.proofs.RefusedCourses.{course_refused-keeps, request_refused-keeps}
use Rattle.sheep_node.proofs.OneWorkChanges.{StepHasOneWork, none_good, never_alone, change_keeps_one_work, received_one_work}
use Rattle.sheep_node.proofs.StepChain.{kept_by_chain, step_chain}

-- a number is of one work or of the recovery, and was given; the gateway asks in the node's name
pub record HaveOneNumberEach (me own : NodeId) (works : Works) (count : ℕ) (recovery : Recovery) : Type 0 where
  pub own_so : own ≡ me
  pub once : NumbersAreOfOneWork works
  pub given : NumbersAreBelow count works
  pub recovers : (number req : ℕ) (work : Work) → tree.get works req ≡ Some work → is_awaited_in number work ≡ true
      → recoveries.recovery_awaits number recovery ≡ false
  pub recovering : (number : ℕ) → recoveries.recovery_awaits number recovery ≡ true → number < count

abbrev pub StepHasOneNumber : StepState → Type 0
StepHasOneNumber so_far = HaveOneNumberEach so_far.node.me so_far.node.gateway.me so_far.node.gateway.works so_far.node.sends so_far.node.recovery

-- ---- works that wait for no more than before

abbrev WaitedIn : Works → ℕ → ℕ → Type 0
WaitedIn works number req = (work : Work) × (tree.get works req ≡ Some work) × (is_awaited_in number work ≡ true)

abbrev Fewer : Works → Works → Type 0
Fewer old new = (number req : ℕ) (work : Work) → tree.get new req ≡ Some work → is_awaited_in number work ≡ true → WaitedIn old number req

fewer : (me own : NodeId) (old new : Works) (count : ℕ) (recovery : Recovery) → Fewer old new → HaveOneNumberEach me own old count recovery
    → HaveOneNumberEach me own new count recovery
fewer me own old new count recovery less numbered = record {
  own_so = numbered.own_so;
  once = λ number one other work later got_one got_two awaits_one awaits_two.
      let (before, was, so) = less number one work got_one awaits_one in
      let (older, were, same) = less number other later got_two awaits_two in
      numbered.once number one other before older was were so same;
  given = λ number req work got awaits. let (before, was, so) = less number req work got awaits in numbered.given number req before was so;
  recovers = λ number req work got awaits. let (before, was, so) = less number req work got awaits in numbered.recovers number req before was so;
  recovering = numbered.recovering;
}

put_fewer : (works : Works) (req : ℕ) (now : Work) → ((number : ℕ) → is_awaited_in number now ≡ true → WaitedIn works number req)
    → Fewer works (tree.insert works req now)
put_fewer works req now so number q work got awaits = ⊎_elim
    (λ (own : q ≡ req).
    let same : now ≡ work = same_Some now work (sym (ap (tree.get (tree.insert works req now)) own ∙ get-insert_same works req now) ∙ got) in
    subst (WaitedIn works number) (sym own) (so number (ap (is_awaited_in number) same ∙ awaits)))
    (λ (other : q ≢ req). (work, sym (get-insert_other works req now q other) ∙ got, awaits))
    (cases_eq q req)

gone_fewer : (works : Works) (req : ℕ) → Fewer works (tree.remove works req)
gone_fewer works req number q work got awaits = ⊎_elim
    (λ (own : q ≡ req).
    let none : tree.get (tree.remove works req) q ≡ None = ap (tree.get (tree.remove works req)) own ∙ get-remove_same works req in
    absurd (cc (got, none)))
    (λ (other : q ≢ req). (work, sym (get-remove_other works req q other) ∙ got, awaits))
    (cases_eq q req)

-- ---- a step that a request takes

freed_numbered : {input : Input} {node : Node} → (session req number : ℕ) (work : Work) (attempt : Attempt) (status : Status) (so_far : StepState) → LearnsStatus input node so_far req number work attempt status
    → StepHasOneNumber so_far → StepHasOneNumber (without_ended_work session req work status so_far)
freed_numbered session req number work attempt status so_far learns numbered =
    fewer so_far.node.me so_far.node.gateway.me so_far.node.gateway.works (tree.remove so_far.node.gateway.works req) so_far.node.sends so_far.node.recovery
    (gone_fewer so_far.node.gateway.works req) numbered

steps_numbered : {input : Input} {node : Node} → (so_far : StepState) (session req : ℕ) (next : Outcome) (moved : StepState) → RequestSteps input node so_far session req next moved → StepHasOneNumber so_far → StepHasOneNumber moved
steps_numbered so_far session req next moved (DiskBegins ask disk there on may) numbered = numbered
steps_numbered so_far session req next moved (DiskGoesOn number work attempt status bytes driver disk step ends on is) numbered =
    freed_numbered session req number work attempt status so_far ends.ends.learns numbered
steps_numbered so_far session req next moved (CommandBegins ask step arrival is) numbered =
    numbered
steps_numbered so_far session req next moved (CommandGoesOn number work attempt status bytes op step ends is) numbered =
    freed_numbered session req number work attempt status so_far ends.ends.learns numbered
steps_numbered so_far session req next moved (CommandDecided entry op step from read there waits is) numbered =
    numbered
steps_numbered so_far session req next moved (CheckBegins inode arrival on) numbered = numbered
steps_numbered so_far session req next moved (CheckGoesOn number work attempt status bytes check step ends is) numbered =
    freed_numbered session req number work attempt status so_far ends.ends.learns numbered
steps_numbered so_far session req next moved (ObjectBegins asked arrival) numbered = numbered
steps_numbered so_far session req next moved (ObjectIsDone number work attempt status bytes asked ends) numbered =
    freed_numbered session req number work attempt status so_far ends.ends.learns numbered
steps_numbered so_far session req next moved (EntryBegins entry arrival) numbered = numbered
steps_numbered so_far session req next moved (EntryDecided entry wanted from read there waits) numbered = numbered

pub comes_numbered : {input : Input} {node : Node} → (so_far : StepState) (session req : ℕ) (asked : Work) (lined : StepState) → WorkIsNext input node so_far session req asked lined → StepHasOneNumber so_far → StepHasOneNumber lined
comes_numbered so_far session req asked lined (AtOnce work moved steps begins) numbered = steps_numbered so_far session req (ToWork work) moved steps numbered
comes_numbered so_far session req asked lined (InTurn work later none is) numbered = numbered
comes_numbered so_far session req asked lined (Again work course from next there request) numbered = numbered
comes_numbered so_far session req asked lined (AgainAlone work from next there none) numbered = numbered

ended_numbered : (session req : ℕ) (reply : GuestRsp) (so_far : StepState) → StepHasOneNumber so_far → StepHasOneNumber (request_ended session req reply so_far)
unfolding request_ended
ended_numbered session req reply so_far numbered = numbered

-- ---- an attempt begins

opened_numbered : (req : ℕ) (asked : Work) (so_far : StepState) → StepHasOneNumber so_far → StepHasOneNumber (changes.with_open_attempt req asked so_far)
opened_numbered req asked so_far numbered =
    let node = so_far.node in
    let epoch : Epoch = record { 0 = node.peer.epoch } in
    let targets = targets_in node.epochs node.peer.epoch (oid_of asked.work) (policy_of asked.work) in
    let places = works.targets_asked asked.work asked.ended targets in
    let now : Work = record asked { stage = Open (attempt_in asked node) } in
    let more = length (map (send_of node.gateway.me epoch asked.work) (messages_of asked.work asked.ended node.sends targets)) in
    let after = tree.insert node.gateway.works req now in
    let new : (number : ℕ) → is_awaited_in number now ≡ true → node.sends ≤ number
    = λ number awaits. ⊎_elim
    (λ (less : number < node.sends).
    let none = fresh_apart node.gateway.me epoch asked.work node.sends places number less in absurd (cc (awaits, none)))
    (λ (so : node.sends ≤ number). so) (cases_lt number node.sends) in
    let own_now : (q : ℕ) (work : Work) → q ≡ req → tree.get after q ≡ Some work → now ≡ work
    = λ q work own got. same_Some now work (sym (ap (tree.get after) own ∙ get-insert_same node.gateway.works req now) ∙ got) in
    let was : (q : ℕ) (work : Work) → q ≢ req → tree.get after q ≡ Some work → tree.get node.gateway.works q ≡ Some work
    = λ q work other got. sym (get-insert_other node.gateway.works req now q other) ∙ got in
    record {
      own_so = numbered.own_so;
      once = λ number one other work later got_one got_two awaits_one awaits_two. ⊎_elim
          (λ (own : one ≡ req). ⊎_elim (λ (own_too : other ≡ req). own ∙ sym own_too)
          (λ (apart : other ≢ req).
          let below : number < node.sends = numbered.given number other later (was other later apart got_two) awaits_two in
          let above : node.sends ≤ number = new number (ap (is_awaited_in number) (own_now one work own got_one) ∙ awaits_one) in
          absurd (omega (arith, below, above)))
          (cases_eq other req))
          (λ (apart : one ≢ req). ⊎_elim
          (λ (own_too : other ≡ req).
          let below : number < node.sends = numbered.given number one work (was one work apart got_one) awaits_one in
          let above : node.sends ≤ number = new number (ap (is_awaited_in number) (own_now other later own_too got_two) ∙ awaits_two) in
          absurd (omega (arith, below, above)))
          (λ (apart_too : other ≢ req).
          numbered.once number one other work later (was one work apart got_one) (was other later apart_too got_two) awaits_one awaits_two)
          (cases_eq other req))
          (cases_eq one req);
      given = λ number q work got awaits. ⊎_elim
          (λ (own : q ≡ req).
          fresh_below node.gateway.me epoch asked.work node.sends places number (ap (is_awaited_in number) (own_now q work own got) ∙ awaits))
          (λ (apart : q ≢ req).
          let below : number < node.sends = numbered.given number q work (was q work apart got) awaits in
          omega (arith, below))
          (cases_eq q req);
      recovers = λ number q work got awaits. ⊎_elim
          (λ (own : q ≡ req).
          let above : node.sends ≤ number = new number (ap (is_awaited_in number) (own_now q work own got) ∙ awaits) in
          not_recovering number above (recoveries.recovery_awaits number node.recovery) refl)
          (λ (apart : q ≢ req). numbered.recovers number q work (was q work apart got) awaits)
          (cases_eq q req);
      recovering = λ number waits. let below : number < node.sends = numbered.recovering number waits in omega (arith, below);
    }
  where
    not_recovering : (number : ℕ) → so_far.node.sends ≤ number → (b : Bool) → recoveries.recovery_awaits number so_far.node.recovery ≡ b
        → recoveries.recovery_awaits number so_far.node.recovery ≡ false
    not_recovering number above true waits = let below : number < so_far.node.sends = numbered.recovering number waits in absurd (omega (arith, below, above))
    not_recovering number above false waits = waits

-- ---- a recovery that waits for other numbers

not_waited : (number : ℕ) (recovery : Recovery) → (recoveries.recovery_awaits number recovery ≡ true → ⊥) → recoveries.recovery_awaits number recovery ≡ false
not_waited number recovery never = by_wait (recoveries.recovery_awaits number recovery) refl
  where
    by_wait : (b : Bool) → recoveries.recovery_awaits number recovery ≡ b → recoveries.recovery_awaits number recovery ≡ false
    by_wait true waits = absurd (never waits)
    by_wait false none = none

-- a work in the place of one, that waits for no more
learned_numbered : (req : ℕ) (work now : Work) (status : Status) (so_far : StepState) → tree.get so_far.node.gateway.works req ≡ Some work
    → ((number : ℕ) → is_awaited_in number now ≡ true → is_awaited_in number work ≡ true) → StepHasOneNumber so_far
    → StepHasOneNumber (with_gateway (with_work req now (gateway_with_touch req work status so_far)) so_far)
learned_numbered req work now status so_far there less numbered =
    fewer so_far.node.me so_far.node.gateway.me so_far.node.gateway.works (tree.insert so_far.node.gateway.works req now) so_far.node.sends so_far.node.recovery
    (put_fewer so_far.node.gateway.works req now (λ number awaits. (work, there, less number awaits))) numbered

pub change_keeps_numbers : {input : Input} {node : Node} → (so_far next : StepState) → Change input node so_far next → IsSoundStep input node → StepHasOneWork so_far → StepHasOneNumber so_far → StepHasOneNumber next
change_keeps_numbers so_far next (changes.Marks req number work attempt status learns over) sound good numbered =
    learned_numbered req work (record work { stage = Open (attempt_with_status number status attempt) }) status so_far learns.there
    (λ q awaits.
    ap (λ (stage : WorkStage). list_any (is_awaited_message q) (open_messages stage)) learns.open_so
    ∙ all_before number status (learns.settled sound) q attempt.messages awaits) numbered
change_keeps_numbers so_far next (changes.Fails session req number work attempt status course ends done why) sound good numbered =
    learned_numbered req work (record work { ended = work.ended + 1; stage = Ended }) status so_far ends.learns.there (λ q awaits. absurd (cc (awaits))) numbered
change_keeps_numbers so_far next (changes.Stops session req number work attempt status course bytes ends over) sound good numbered =
    freed_numbered session req number work attempt status so_far ends.ends.learns numbered
change_keeps_numbers so_far next (changes.Refuses session req number work attempt status course cause ends done why) sound good numbered =
    course_refused-keeps StepHasOneNumber ended_numbered (λ entry before now. now) session req cause course (without_ended_work session req work status so_far)
    (freed_numbered session req number work attempt status so_far ends.learns numbered)
change_keeps_numbers so_far next (changes.Opens session req asked lined comes short) sound good numbered =
    opened_numbered req asked lined (comes_numbered so_far session req asked lined comes numbered)
change_keeps_numbers so_far next (changes.Holds session req asked lined comes short touched) sound good numbered =
    let now : Work = record asked { stage = WaitsForMembers (record { 0 = lined.node.peer.epoch }) } in
    fewer lined.node.me lined.node.gateway.me lined.node.gateway.works (tree.insert lined.node.gateway.works req now) lined.node.sends lined.node.recovery
    (put_fewer lined.node.gateway.works req now (λ number awaits. absurd (cc (awaits))))
    (comes_numbered so_far session req asked lined comes numbered)
change_keeps_numbers so_far next (changes.Denies session req asked lined request comes short untouched there own) sound good numbered =
    request_refused-keeps StepHasOneNumber ended_numbered (λ entry before now. now) req (Halt (changes.zones_of_members lined.node) (works.zones_for asked.work)) request (changes.without_denied_work session req asked lined)
    (fewer lined.node.me lined.node.gateway.me lined.node.gateway.works (tree.remove lined.node.gateway.works req) lined.node.sends lined.node.recovery
    (gone_fewer lined.node.gateway.works req) (comes_numbered so_far session req asked lined comes numbered))
change_keeps_numbers so_far next (changes.Strays req work gateway there none apart) sound good numbered = absurd (never_alone req work so_far there none good)
change_keeps_numbers so_far next (changes.Lines session req work moved steps waits) sound good numbered = steps_numbered so_far session req (ToWork work) moved steps numbered
change_keeps_numbers so_far next (changes.Appends session req entry moved steps) sound good numbered = steps_numbered so_far session req (ToEntry entry) moved steps numbered
change_keeps_numbers so_far next (changes.Replies session req reply moved steps) sound good numbered =
    ended_numbered session req reply moved (steps_numbered so_far session req (ToReply reply) moved steps numbered)
change_keeps_numbers so_far next (changes.Arrives session req ask disk arrival on) sound good numbered = numbered
change_keeps_numbers so_far next (changes.Rejects session req ask cause arrival) sound good numbered = numbered
change_keeps_numbers so_far next (changes.Recovers due) sound good numbered = numbered

-- ---- the beginning of a step

-- a recovery that hears of a message waits for no more than before
heard_numbered : (number : ℕ) (said : Option PeerSay) (node : Node) → StepHasOneNumber (at_first node)
    → StepHasOneNumber (recovery_stepped (recovery_steps.message_end number said (recovery_state_of node)) (at_first node))
heard_numbered number said node numbered =
    let after = (recovery_steps.message_end number said (recovery_state_of node)).recovery in
    record {
      own_so = numbered.own_so;
      once = numbered.once;
      given = numbered.given;
      recovers = λ q req work got awaits.
          not_waited q after
          (λ waits.
          let was : recoveries.recovery_awaits q node.recovery ≡ true = left_before number q said (recovery_state_of node) waits in
          let never = numbered.recovers q req work got awaits in
          absurd (cc (was, never)));
      recovering = λ q waits. numbered.recovering q (left_before number q said (recovery_state_of node) waits);
    }

none_got : {P : Type 0} (req : ℕ) (work : Work) → tree.get (tree.empty {X = Work} {R = nat_cmp}) req ≡ Some work → P
none_got req work got = let none = tree.get-empty {X = Work} nat_cmp req in absurd (cc (got, none))

pub received_numbers : (input : Input) (node : Node) → MeetsNumbers input node → StepHasOneNumber (at_first node)
    → StepHasOneNumber (input_received input (at_first node))
unfolding entry_read on_request on_recover_tick on_back recovery_steps.recovery_on_reply recovery_steps.recovery_on_loss
received_numbers (inputs.Guest req session ask) node may numbered = numbered
received_numbers (inputs.Request request) node may numbered = numbered
received_numbers (inputs.Reply rsp) node may numbered =
    cond_either StepHasOneNumber (gateways.gateway_awaits rsp.number node.gateway) (at_first node)
    (recovery_stepped (recovery_steps.message_end rsp.number (Some rsp.say) (recovery_state_of node)) (at_first node))
    numbered (heard_numbered rsp.number (Some rsp.say) node numbered)
received_numbers (inputs.Lost number) node may numbered =
    cond_either StepHasOneNumber (gateways.gateway_awaits number node.gateway) (at_first node)
    (recovery_stepped (recovery_steps.message_end number None (recovery_state_of node)) (at_first node))
    numbered (heard_numbered number None node numbered)
received_numbers (inputs.LogEntry entry) node may numbered =
    let waits_as : (q : ℕ) → recoveries.recovery_awaits q (entry_read entry node).recovery ≡ recoveries.recovery_awaits q node.recovery
    = λ q. ap (λ (messages : List Message). is_some (recoveries.message_of q messages)) (unanswered_reading entry node) in
    record {
      own_so = numbered.own_so;
      once = numbered.once;
      given = numbered.given;
      recovers = λ number req work got awaits. waits_as number ∙ numbered.recovers number req work got awaits;
      recovering = λ number waits. numbered.recovering number (sym (waits_as number) ∙ waits);
    }
received_numbers inputs.Put node may numbered = by_outbox node.outbox
  where
    by_outbox : (outbox : List Entry) → StepHasOneNumber (on_put outbox (at_first node))
    by_outbox [] = numbered
    by_outbox (entry ∷ later) = numbered
received_numbers inputs.RecoverTick node may numbered =
    let state = recovery_state_of node in
    let count = node.sends in
    record {
      own_so = numbered.own_so;
      once = numbered.once;
      given = λ number req work got awaits. let below : number < count = numbered.given number req work got awaits in omega (arith, below);
      recovers = λ q req work got awaits.
          not_waited q (state_after_tick count state).recovery
          (λ waits.
          let below : q < count = numbered.given q req work got awaits in
          let (low, high) = ticked_within state count may q waits in
          absurd (omega (arith, below, low)));
      recovering = λ q waits. (ticked_within state count may q waits).1;
    }
received_numbers inputs.RetryTick node may numbered = numbered
received_numbers (inputs.Back entries) node may numbered =
    let lone = come_back_with entries node in
    let none : (q : ℕ) → recoveries.recovery_awaits q (on_back entries node).recovery ≡ false
    = λ q. ap (λ (messages : List Message). is_some (recoveries.message_of q messages))
    (unanswered_in_epoch lone) in
    record {
      own_so = refl;
      once = λ number one other work later got_one got_two awaits_one awaits_two. none_got one work got_one;
      given = λ number req work got awaits. none_got req work got;
      recovers = λ number req work got awaits. none number;
      recovering = λ number waits. let never = none number in absurd (cc (waits, never));
    }

-- ---- a driven node

-- works with their requests, and numbers with their works
abbrev pub HasOneWorkAndNumber : StepState → Type 0
HasOneWorkAndNumber so_far = StepHasOneWork so_far × StepHasOneNumber so_far

pub change_keeps_both : {input : Input} {node : Node} → (so_far next : StepState) → Change input node so_far next → IsSoundStep input node → HasOneWorkAndNumber so_far → HasOneWorkAndNumber next
change_keeps_both so_far next change sound both = (change_keeps_one_work so_far next change sound both.0, change_keeps_numbers so_far next change sound both.0 both.1)

pub both_at_first : (node : Node) → HasOneWorkPerRequest node → HasOneWorkAndNumber (at_first node)
both_at_first node driven = (
  driven.driven,
  record {
    own_so = driven.own;
    once = driven.once;
    given = driven.given;
    recovers = λ number req work got awaits. driven.recovers number (got_found number node.gateway.works req work got awaits);
    recovering = driven.recovering;
  },
)

pub one_work_after : (so_far : StepState) → HasOneWorkAndNumber so_far → HasOneWorkPerRequest so_far.node
one_work_after so_far both = record {
  own = both.1.own_so;
  driven = both.0;
  once = both.1.once;
  given = both.1.given;
  recovers = λ number waits.
      let (found, is) = has_value (found_by (is_awaited_in number) (tree.entries so_far.node.gateway.works)) waits in
      let (got, awaits) = found_got number so_far.node.gateway.works found is in
      both.1.recovers number found.0 found.1 got awaits;
  recovering = both.1.recovering;
}

-- a node that may step meets that by its numbers
pub meets_numbers : (input : Input) (node : Node) → Meets input node → MeetsNumbers input node
meets_numbers (inputs.Guest req session ask) node meets = meets.number
meets_numbers (inputs.Request request) node meets = tt
meets_numbers (inputs.Reply rsp) node meets = meets
meets_numbers (inputs.Lost number) node meets = tt
meets_numbers (inputs.LogEntry entry) node meets = tt
meets_numbers inputs.Put node meets = tt
meets_numbers inputs.RecoverTick node meets = meets
meets_numbers inputs.RetryTick node meets = tt
meets_numbers (inputs.Back entries) node meets = tt

-- works go with their requests, and numbers with their works, in the middle of a sound step and behind it
pub both_in_chain : (input : Input) (node : Node) → IsSoundStep input node → (so_far : StepState)
    → Leads input node (input_received input (at_first node)) so_far → HasOneWorkAndNumber so_far
both_in_chain input node sound so_far leads =
    let both = both_at_first node sound.1 in
    kept_by_chain HasOneWorkAndNumber (λ so_far next change. change_keeps_both so_far next change sound) leads
    (received_one_work input node both.0, received_numbers input node sound.0 both.1)

pub both_after_step : (input : Input) (node : Node) → IsSoundStep input node → HasOneWorkAndNumber (node_step input node)
both_after_step input node sound = both_in_chain input node sound (node_step input node) (step_chain input node)

-- a driven node that steps on what it may is driven
pub one_work_stays : (input : Input) (node : Node) → May input node → HasOneWorkPerRequest node → HasOneWorkPerRequest (node_step input node).node
one_work_stays input node may driven =
    one_work_after (node_step input node) (both_after_step input node (meets_numbers input node may.condition, driven))

-- so it opens
pub one_work_at_opening : (me : NodeId) (tries : ℕ) → HasOneWorkPerRequest (initial_node me tries)
one_work_at_opening me tries = record {
  own = refl;
  driven = none_good;
  once = λ number one other work later got_one got_two awaits_one awaits_two. none_got one work got_one;
  given = λ number req work got awaits. none_got req work got;
  recovers = λ number waits. refl;
  recovering = λ number waits. absurd (cc (waits));
}
