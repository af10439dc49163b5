-- The last entry of a command that is to have an inode open then is on its way at the end of a step, too: for the node that reads it tells
-- the command so, which waits for it no more.
use Rattle.std.specs.FinMap as tree
use Rattle.std.proofs.Common.{◌≡◌, inl, inr, ⊎_elim, arith, ℕ, ◌+◌, ◌≤◌, Bool, true, false, cond, ◌||◌, List, []}
use Rattle.std.proofs.Common.{◌∷◌, ◌++◌, Option, Some, None, refl, sym, ap, subst, ◌∙◌}
use Rattle.std.specs.Ordering.{nat_cmp}
use Rattle.std.specs.List.{list_any, find}
use Rattle.std.specs.Option.{option_map_or}
use Rattle.std.proofs.lemmas.Option.{same_Some}
use Rattle.proof_tools.proofs.Booleans.{cond_either}
use Rattle.proof_tools.proofs.FiniteMaps.{get-remove_same, get-entry, entries-contain}
use Rattle.proof_tools.proofs.Lists.{find-contains, list_any-none}
use Rattle.object_id.specs.declared.entry.Entry.{Entry}
use Rattle.object_id.specs.Same.{is_same_entry}
use Rattle.inode.specs.Layout.{Content}
use Rattle.peer_service.specs.LogReading.{decision_on}
use Rattle.peer_service.specs.State.{effects_of}
use Rattle.gateway.specs.State as gateways
use Rattle.recovery.specs.Steps as recovery_steps
use Rattle.vdi_directory.specs.declared.effect.Effect.{Effect}
use Rattle.vdi_ops.specs.Op.{Asked, Working, Publishing, Answered, Op, OpStage, OpStep}
use Rattle.vdi_ops.specs.Steps.{on_decision, decided_at}
use Rattle.sheep_node.specs.declared.course.Course.{Course}
use Rattle.sheep_node.specs.declared.course.Request.{Request}
use Rattle.sheep_node.specs.declared.course.Course.TheVariants.{Waiting, Driving, Commanding, Checking, DoingWork, AwaitingDecision}
use Rattle.sheep_node.specs.declared.input.Input.{Input}
use Rattle.sheep_node.specs.declared.input.Input.TheVariants as inputs
use Rattle.sheep_node.specs.AwaitedEntry.{waits_for_entry}
use Rattle.sheep_node.specs.Changes as changes
use Rattle.sheep_node.specs.Changes.{input_received, Leads}
use Rattle.sheep_node.specs.Courses.{inode_open, command_stepped, course_decided}
use Rattle.sheep_node.specs.LogReading.{entry_read, asker_of, decision_told, on_log_entry, on_back}
use Rattle.sheep_node.specs.RecoveryView.{recovery_state_of}
use Rattle.sheep_node.specs.State.{Node}
use Rattle.sheep_node.specs.StepState.{StepState, at_first, session_in, request_ended, with_node}
use Rattle.sheep_node.specs.Step.{node_step, on_input, on_request, on_put, on_recover_tick, is_due, with_recovered, recovered_put}
use Rattle.sheep_node.specs.Step.{recovery_stepped}
use Rattle.sheep_node.specs.Waiting.{let_begin}
use Rattle.sheep_node.proofs.OneWorkParts.{Requests}
use Rattle.sheep_node.proofs.ReachedSteps.{IsReached, let_begin_walk}
use Rattle.sheep_node.proofs.StepChain.{begins, course_walk, step_chain}
use Rattle.vdi_directory.specs.Decisions.{log_effects}
use Rattle.overlap_law.specs.AwaitedEntries.{IsSessionsEntry}
use Rattle.overlap_law.proofs.AwaitedChanges.{IsOwnCourse, AreOwnCommands}
use Rattle.overlap_law.proofs.AwaitedCommands.{is_command, waited_own}
use Rattle.overlap_law.proofs.ReservedIds.{session_of_entry}
use Rattle.overlap_law.proofs.AwaitedSteps.{entry_of_input, told_no_entry}
use Rattle.overlap_law.proofs.AwaitedInputs.{UnreadGoes}
use Rattle.overlap_law.proofs.CountedEntries.{times, once_if, times-cons, times-push, same_entry, itself}
use Rattle.overlap_law.proofs.LastEntries.{last_at, last_of, IsOnWay, AreOnWay, AreOnWaySoFar, on_way_in_chain}
use Rattle.overlap_law.proofs.MakingStages.{IsPublishingStage, WasMaking, publishing_of_works}
use Rattle.overlap_law.proofs.StagesFrom.{ComesNow, stage_from}

-- ---- the command is told

module _ (entry : Entry) (node : Node) where
  -- a command that waits for a publication waited for it before, as an entry is read
  pub had : {from to : StepState} → Leads (inputs.LogEntry entry) node from to → (req : ℕ) (request : Request) (op : Op) (inode : Content)
      → tree.get to.node.requests req ≡ Some request → request.course ≡ Commanding op → IsPublishingStage inode op.stage
      → tree.get from.node.requests req ≡ Some request
  had changes.Still req request op inode got command holds = got
  had (changes.Then {so_far} {next} leads change) req request op inode got command holds =
      had leads req request op inode (⊎_elim
      (λ (there : tree.get so_far.node.requests req ≡ Some request). there)
      (λ (c : ComesNow (WasMaking inode) (inputs.LogEntry entry) node req request.session so_far).
      absurd (told_no_entry (inputs.LogEntry entry) c.number c.status c.ends.ends.learns.told entry refl))
      (stage_from (IsPublishingStage inode) (WasMaking inode) (publishing_of_works inode) req (inputs.LogEntry entry) node so_far next
      change request op got command holds)) command holds

  abbrev read_first : StepState
  read_first = with_node (entry_read entry node) (at_first node)

  module _ (req session : ℕ) (op : Op) (inode : Content) (at : op.stage ≡ Publishing entry (Some inode))
      (there : tree.get node.requests req ≡ Some (record { session = session; course = Commanding op })) where
    abbrev told_then : StepState
    told_then = course_decided session req (decision_on entry node.peer) (Commanding op) read_first

    decides : (known : List Effect) (disk : Option Content)
        → on_decision known disk (decision_on entry node.peer) op
        ≡ decided_at known disk (decision_on entry node.peer) op (Publishing entry (Some inode))
    unfolding on_decision
    decides known disk = ap (decided_at known disk (decision_on entry node.peer) op) at

    gone : tree.get told_then.node.requests req ≡ None
    unfolding course_decided command_stepped request_ended entry_read
    gone =
        ap (λ (o : Option OpStep). tree.get (option_map_or (λ (step : OpStep). command_stepped session req step read_first) o
        read_first).node.requests req)
        (decides (effects_of read_first.node.peer) (inode_open (session_in session read_first).disk))
        ∙ get-remove_same _ req

    waits : waits_for_entry entry (Commanding op) ≡ true
    waits = ap (λ (s : OpStage). waits_for_entry entry (Commanding (record op { stage = s }))) at ∙ itself entry

    -- so it isn't there any more, whatever begins behind it
    over : tree.get (let_begin session told_then).node.requests req ≡ Some (record { session = session; course = Commanding op }) → ⊥
    unfolding entry_read
    over still =
        let reached = course_walk entry refl read_first refl refl (begins (inputs.LogEntry entry) node) req session (Commanding op) there
        waits in
        let from : IsReached (inputs.LogEntry entry) node told_then 0 told_then
        = record { leads = changes.Still; good = reached.good; count = λ short. omega arith } in
        let leads : Leads (inputs.LogEntry entry) node told_then (let_begin session told_then)
        = (let_begin_walk session told_then from).leads in
        let here = had leads req (record { session = session; course = Commanding op }) op inode still refl
        (subst (IsPublishingStage inode) (sym at) refl) in
        let none = gone in
        absurd (cc (none, here))

  find-none : {X : Type 0} → (p : X → Bool) (xs : List X) → find p xs ≡ None → list_any p xs ≡ false
  find-none p [] none = refl
  find-none p (x ∷ xs) none = by_test (p x) none (find-none p xs)
    where
      by_test : (b : Bool) → cond b (Some x) (find p xs) ≡ None → (find p xs ≡ None → list_any p xs ≡ false)
          → (b || list_any p xs) ≡ false
      by_test true none rest = absurd (cc (none))
      by_test false none rest = rest none

  -- who waits for an entry is the command of its session
  its : (session : ℕ) (course : Course) → IsOwnCourse node.peer.entries node.me session course → waits_for_entry entry course ≡ true
      → (is_command course ≡ true) × IsSessionsEntry (log_effects node.peer.entries) node.me session entry
  its session (Waiting ask) own waits = absurd (cc (waits))
  its session (Driving driver) own waits = absurd (cc (waits))
  its session (Commanding op) own waits = (refl, waited_own (log_effects node.peer.entries) node.me session entry op.stage own.stage waits)
  its session (Checking check) own waits = absurd (cc (waits))
  its session (DoingWork work) own waits = absurd (cc (waits))
  its session (AwaitingDecision wanted) own waits = absurd own

  abbrev waits_here : ℕ × Request → Bool
  waits_here found = waits_for_entry entry found.1.course

  -- behind the step none waits for the entry
  module _ (commands : AreOwnCommands node.peer.entries node.me node.requests) (req : ℕ) (request : Request) (op : Op) (inode : Content)
      (command : request.course ≡ Commanding op) (at : op.stage ≡ Publishing entry (Some inode)) where
    by_found : (o : Option (ℕ × Request)) → asker_of entry node ≡ o → tree.get node.requests req ≡ Some request
        → tree.get (decision_told (decision_on entry node.peer) o read_first).node.requests req ≡ Some request → ⊥
    by_found None is there still =
        let waits : waits_here (req, request) ≡ true
        = ap (waits_for_entry entry) command
        ∙ ap (λ (s : OpStage). waits_for_entry entry (Commanding (record op { stage = s }))) at ∙ itself entry in
        let none : waits_here (req, request) ≡ false
        = list_any-none waits_here (tree.entries node.requests) (req, request) (find-none waits_here (tree.entries node.requests) is)
        (entries-contain tree.nat_cmp-IsAntisymmetric node.requests req request there) in
        cc (waits, none)
    by_found (Some found) is there still =
        let passes = find-contains waits_here (tree.entries node.requests) found is in
        let at_found : tree.get node.requests found.0 ≡ Some found.1 = get-entry node.requests found passes.0 in
        let whole : request ≡ record { session = request.session; course = Commanding op }
        = ap (λ (c : Course). record { session = request.session; course = c }) command in
        let mine : (is_command request.course ≡ true) × IsSessionsEntry (log_effects node.peer.entries) node.me request.session entry
        = its request.session request.course (commands.own req request there)
        (ap (waits_for_entry entry) command
        ∙ ap (λ (s : OpStage). waits_for_entry entry (Commanding (record op { stage = s }))) at ∙ itself entry) in
        let other : (is_command found.1.course ≡ true) × IsSessionsEntry (log_effects node.peer.entries) node.me found.1.session entry
        = its found.1.session found.1.course (commands.own found.0 found.1 at_found) passes.1 in
        let session : found.1.session ≡ request.session
        = session_of_entry node.peer.entries node.me found.1.session request.session entry other.1 mine.1 in
        let one : found.0 ≡ req
        = commands.apart found.0 req found.1 request at_found there other.0 mine.0 session in
        let same : found.1 ≡ record { session = request.session; course = Commanding op }
        = same_Some found.1 request (sym at_found ∙ ap (tree.get node.requests) one ∙ there) ∙ whole in
        let found_is : found ≡ (req, record { session = request.session; course = Commanding op }) = λ i. (one i, same i) in
        over req request.session op inode at (there ∙ ap (λ (r : Request). Some r) whole)
        (subst (λ (f : ℕ × Request). tree.get (decision_told (decision_on entry node.peer) (Some f) read_first).node.requests req
        ≡ Some request) found_is still ∙ ap (λ (r : Request). Some r) whole)

    told : tree.get (node_step (inputs.LogEntry entry) node).node.requests req ≡ Some request → ⊥
    unfolding node_step recovered_put on_input on_log_entry entry_read
    told still =
        let there : tree.get node.requests req ≡ Some request
        = had (step_chain (inputs.LogEntry entry) node) req request op inode still command
        (subst (IsPublishingStage inode) (sym at) refl) in
        by_due (is_due (on_input (inputs.LogEntry entry) (at_first node)).node) there still
      where
        by_due : (b : Bool) → tree.get node.requests req ≡ Some request
            → tree.get (cond b (with_recovered (on_input (inputs.LogEntry entry) (at_first node)))
            (on_input (inputs.LogEntry entry) (at_first node))).node.requests req ≡ Some request → ⊥
        by_due true there still = by_found (asker_of entry node) refl there still
        by_due false there still = by_found (asker_of entry node) refl there still

-- ---- as an input is received

-- a node at rest
abbrev pub AreOnWayAt : List Entry → Node → Type 0
AreOnWayAt unread node = AreOnWay unread None node.requests node.outbox

-- the log grows
pub unread_grows : (unread : List Entry) (last : Entry) (requests : Requests) (outbox : List Entry) → AreOnWay unread None requests outbox
    → AreOnWay (unread ++ last ∷ []) None requests outbox
unread_grows unread last requests outbox all req request entry got is = by_way (all req request entry got is)
  where
    by_way : IsOnWay unread None entry outbox → IsOnWay (unread ++ last ∷ []) None entry outbox
    by_way (inl some) =
        let longer : times entry (unread ++ last ∷ []) ≡ times entry unread + once_if (is_same_entry entry last)
        = times-push entry unread last in
        inl (omega (arith, some, longer))
    by_way (inr reads) = absurd (cc (reads))

-- no request is there
pub none_on_way : (unread : List Entry) (reading : Option Entry) (outbox : List Entry) → AreOnWay unread reading tree.empty outbox
none_on_way unread reading outbox req request entry got is =
    let none = tree.get-empty {X = Request} nat_cmp req in absurd (cc (none, got))

-- an entry is read
reads_on_way : (entry : Entry) (after : List Entry) (requests : Requests) (outbox : List Entry)
    → AreOnWay (entry ∷ after) None requests outbox → AreOnWay after (Some entry) requests outbox
reads_on_way entry after requests outbox all req request other got is = by_way (all req request other got is)
  where
    by_same : (b : Bool) → is_same_entry other entry ≡ b → 1 ≤ times other (entry ∷ after) + times other outbox
        → IsOnWay after (Some entry) other outbox
    by_same true same some = inr (ap (λ (e : Entry). Some e) (sym (same_entry other entry same)))
    by_same false apart some =
        let more : times other (entry ∷ after) ≡ 0 + times other after
        = times-cons other entry after ∙ ap (λ (b : Bool). once_if b + times other after) apart in
        inl (omega (arith, some, more))

    by_way : IsOnWay (entry ∷ after) None other outbox → IsOnWay after (Some entry) other outbox
    by_way (inl some) = by_same (is_same_entry other entry) refl some
    by_way (inr reads) = absurd (cc (reads))

-- an entry is put
puts_on_way : (unread : List Entry) (entry : Entry) (later : List Entry) (requests : Requests)
    → AreOnWay unread None requests (entry ∷ later) → AreOnWay (unread ++ entry ∷ []) None requests later
puts_on_way unread entry later requests all req request other got is = by_way (all req request other got is)
  where
    by_way : IsOnWay unread None other (entry ∷ later) → IsOnWay (unread ++ entry ∷ []) None other later
    by_way (inl some) =
        let behind : times other (unread ++ entry ∷ []) ≡ times other unread + once_if (is_same_entry other entry)
        = times-push other unread entry in
        let first : times other (entry ∷ later) ≡ once_if (is_same_entry other entry) + times other later = times-cons other entry later in
        inl (omega (arith, some, behind, first))
    by_way (inr reads) = absurd (cc (reads))

module _ (node : Node) where
  abbrev pub IsThen : Input → List Entry → StepState → Type 0
  IsThen input after so_far = AreOnWaySoFar after (entry_of_input input) so_far

  pub back_on_way : (entries after : List Entry) → IsThen (inputs.Back entries) after (input_received (inputs.Back entries) (at_first node))
  unfolding on_back
  back_on_way entries after = none_on_way after None []

  pub received_on_way : (unread : List Entry) (input : Input) (after : List Entry) → UnreadGoes input node unread after
      → AreOnWayAt unread node → IsThen input after (input_received input (at_first node))
  unfolding entry_read on_request on_recover_tick on_back
  received_on_way unread (inputs.Guest req session ask) after goes all =
      subst (λ (list : List Entry). AreOnWayAt list node) (sym goes) all
  received_on_way unread (inputs.Request request) after goes all = subst (λ (list : List Entry). AreOnWayAt list node) (sym goes) all
  received_on_way unread (inputs.Reply rsp) after goes all =
      let now = subst (λ (list : List Entry). AreOnWayAt list node) (sym goes) all in
      cond_either (IsThen (inputs.Reply rsp) after) (gateways.gateway_awaits rsp.number node.gateway) (at_first node)
      (recovery_stepped (recovery_steps.recovery_on_reply rsp (recovery_state_of node)) (at_first node)) now now
  received_on_way unread (inputs.Lost number) after goes all =
      let now = subst (λ (list : List Entry). AreOnWayAt list node) (sym goes) all in
      cond_either (IsThen (inputs.Lost number) after) (gateways.gateway_awaits number node.gateway) (at_first node)
      (recovery_stepped (recovery_steps.recovery_on_loss number (recovery_state_of node)) (at_first node)) now now
  received_on_way unread (inputs.LogEntry entry) after goes all =
      reads_on_way entry after node.requests node.outbox (subst (λ (list : List Entry). AreOnWayAt list node) goes all)
  received_on_way unread inputs.Put after (entry, later, first, goes) all =
      subst (λ (outbox : List Entry). IsThen inputs.Put after (on_put outbox (at_first node))) (sym first)
      (subst (λ (list : List Entry). AreOnWay list None node.requests later) (sym goes)
      (puts_on_way unread entry later node.requests
      (subst (λ (outbox : List Entry). AreOnWay unread None node.requests outbox) first all)))
  received_on_way unread inputs.RecoverTick after goes all = subst (λ (list : List Entry). AreOnWayAt list node) (sym goes) all
  received_on_way unread inputs.RetryTick after goes all = subst (λ (list : List Entry). AreOnWayAt list node) (sym goes) all
  received_on_way unread (inputs.Back entries) after goes all = none_on_way after None []

-- which input reads an entry
is_reading : (input : Input) (entry : Entry) → entry_of_input input ≡ Some entry → input ≡ inputs.LogEntry entry
is_reading (inputs.Guest req session ask) entry is = absurd (cc (is))
is_reading (inputs.Request request) entry is = absurd (cc (is))
is_reading (inputs.Reply rsp) entry is = absurd (cc (is))
is_reading (inputs.Lost number) entry is = absurd (cc (is))
is_reading (inputs.LogEntry read) entry is = ap inputs.LogEntry (same_Some read entry is)
is_reading inputs.Put entry is = absurd (cc (is))
is_reading inputs.RecoverTick entry is = absurd (cc (is))
is_reading inputs.RetryTick entry is = absurd (cc (is))
is_reading (inputs.Back entries) entry is = absurd (cc (is))

-- at the end of a step
last_is : (stage : OpStage) (entry : Entry) → last_at stage ≡ Some entry
    → (inode : Content) × (stage ≡ Publishing entry (Some inode))
last_is (Asked wanted) entry is = absurd (cc (is))
last_is (Working vid task) entry is = absurd (cc (is))
last_is (Publishing wanted None) entry is = absurd (cc (is))
last_is (Publishing wanted (Some inode)) entry is =
    (inode, ap (λ (e : Entry). Publishing e (Some inode)) (same_Some wanted entry is))
last_is (Answered change) entry is = absurd (cc (is))

pub stepped_on_way : (input : Input) (node : Node) (after : List Entry)
    → ((entry : Entry) → input ≡ inputs.LogEntry entry → AreOwnCommands node.peer.entries node.me node.requests)
    → IsThen node input after (input_received input (at_first node))
    → AreOnWay after None (node_step input node).node.requests (node_step input node).node.outbox
stepped_on_way input node after commands first req request entry got is =
    by_way (on_way_in_chain after (entry_of_input input) input node (step_chain input node) first req request entry got is)
  where
    by_course : (course : Course) → request.course ≡ course → last_of course ≡ Some entry → input ≡ inputs.LogEntry entry → ⊥
    by_course (Waiting ask) so is from = cc (is)
    by_course (Driving driver) so is from = cc (is)
    by_course (Commanding op) so is from =
        let (inode, at) = last_is op.stage entry is in
        told entry node (commands entry from) req request op inode so at
        (subst (λ (i : Input). tree.get (node_step i node).node.requests req ≡ Some request) from got)
    by_course (Checking check) so is from = cc (is)
    by_course (DoingWork work) so is from = cc (is)
    by_course (AwaitingDecision wanted) so is from = cc (is)

    by_way : IsOnWay after (entry_of_input input) entry (node_step input node).node.outbox
        → IsOnWay after None entry (node_step input node).node.outbox
    by_way (inl some) = inl some
    by_way (inr reads) = absurd (by_course request.course refl is (is_reading input entry reads))
