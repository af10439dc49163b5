-- What an input by itself leaves of the entries on their way: one that is read is so no more, and one that is put stands in the log then.
use Rattle.std.proofs.Common.{◌≡◌, arith, ℕ, ◌+◌, ◌≤◌, Bool, false, List, [], ◌∷◌, ◌++◌, Option, Some, None, refl, sym, ap, subst, ◌∙◌}
use Rattle.std.specs.Ordering.{nat_cmp}
use Rattle.std.specs.FinMap as tree
use Rattle.std.proofs.lemmas.Option.{same_Some}
use Rattle.proof_tools.proofs.Booleans.{cond_either}
use Rattle.object_id.specs.declared.node.NodeId.{NodeId}
use Rattle.object_id.specs.declared.entry.Entry.{Entry}
use Rattle.object_id.specs.Same.{is_same_entry}
use Rattle.vdi_directory.specs.Decisions.{log_effects}
use Rattle.gateway.specs.State as gateways
use Rattle.recovery.specs.Steps as recovery_steps
use Rattle.sheep_node.specs.declared.input.Input.{Input}
use Rattle.sheep_node.specs.declared.input.Input.TheVariants as inputs
use Rattle.sheep_node.specs.declared.course.Course.{Course}
use Rattle.sheep_node.specs.declared.course.Request.{Request}
use Rattle.sheep_node.specs.declared.course.Course.TheVariants.{Waiting, Driving, Commanding, Checking, DoingWork, AwaitingDecision}
use Rattle.sheep_node.specs.State.{Node}
use Rattle.sheep_node.specs.RecoveryView.{recovery_state_of}
use Rattle.sheep_node.specs.StepState.{StepState, at_first}
use Rattle.sheep_node.specs.StepFacts.{read_after}
use Rattle.sheep_node.specs.LogReading.{entry_read, on_back}
use Rattle.sheep_node.specs.Step.{on_request, recovery_stepped, on_put, on_recover_tick}
use Rattle.sheep_node.specs.Changes.{input_received}
use Rattle.overlap_law.specs.AwaitedEntries.{IsCommandEntry}
use Rattle.overlap_law.proofs.AwaitedChanges.{Requests, IsOwnCourse, AreAwaited, AreAwaitedSoFar}
use Rattle.overlap_law.proofs.AwaitedSteps.{entry_of_input}
use Rattle.overlap_law.proofs.CountedEntries.{times, once_if, times-cons, times-push, times-none, itself}
use Rattle.overlap_law.proofs.ReservedIds.{command_stays, effects_more}

-- a node at rest, which reads no entry just now
abbrev pub AreAwaitedAt : List Entry → Node → Type 0
AreAwaitedAt unread node = AreAwaited node.peer.entries node.me unread None node.me node.requests node.outbox

-- what of the log a node hasn't read, before an input and behind it
abbrev pub UnreadGoes : Input → Node → List Entry → List Entry → Type 0
UnreadGoes (inputs.Guest req session ask) node unread after = after ≡ unread
UnreadGoes (inputs.Request request) node unread after = after ≡ unread
UnreadGoes (inputs.Reply rsp) node unread after = after ≡ unread
UnreadGoes (inputs.Lost number) node unread after = after ≡ unread
UnreadGoes (inputs.LogEntry entry) node unread after = unread ≡ entry ∷ after
UnreadGoes inputs.Put node unread after =
    (entry : Entry) × (later : List Entry) × (node.outbox ≡ entry ∷ later) × (after ≡ unread ++ entry ∷ [])
UnreadGoes inputs.RecoverTick node unread after = after ≡ unread
UnreadGoes inputs.RetryTick node unread after = after ≡ unread
UnreadGoes (inputs.Back entries) node unread after = after ≡ []

-- of a node without requests and outbox, where nothing of its own is unread
pub none_awaited : (read : List Entry) (me : NodeId) (unread : List Entry) (reading : Option Entry)
    → ((entry : Entry) → IsCommandEntry me entry → times entry unread ≡ 0) → AreAwaited read me unread reading me tree.empty []
none_awaited read me unread reading nothing = record {
  me_so = refl;
  commands = record {
    own = λ req request got. let none = tree.get-empty {X = Request} nat_cmp req in absurd (cc (none, got));
    apart = λ one other first second got got_too is is_too same. let none = tree.get-empty {X = Request} nat_cmp one in absurd
        (cc (none, got));
  };
  awaited = λ entry is some. let none = nothing entry is in let empty = times-none entry in absurd (omega (arith, none, empty, some));
  once = λ entry is. let none = nothing entry is in let empty = times-none entry in omega (arith, none, empty);
  read_now = λ entry is reads. let none = nothing entry is in let empty = times-none entry in omega (arith, none, empty);
}

-- where as many are on their way
same_way : (read : List Entry) (me : NodeId) (unread after : List Entry) (requests : Requests) (outbox later : List Entry)
    → ((entry : Entry) → times entry after + times entry later ≡ times entry unread + times entry outbox)
    → AreAwaited read me unread None me requests outbox → AreAwaited read me after None me requests later
same_way read me unread after requests outbox later same so = record {
  me_so = so.me_so;
  commands = so.commands;
  awaited = λ entry is some. so.awaited entry is (subst (λ (k : ℕ). 1 ≤ k) (same entry) some);
  once = λ entry is. subst (λ (k : ℕ). k ≤ 1) (sym (same entry)) (so.once entry is);
  read_now = λ entry is reads. absurd (cc (reads));
}

-- commands stay their sessions' as an entry is read
courses_stay : (read : List Entry) (me : NodeId) (entry : Entry) (session : ℕ) (course : Course) → IsOwnCourse read me session course
    → IsOwnCourse (read ++ entry ∷ []) me session course
courses_stay read me entry session (Waiting ask) own = tt
courses_stay read me entry session (Driving driver) own = tt
courses_stay read me entry session (Commanding op) own =
    command_stays (log_effects read) (log_effects (read ++ entry ∷ [])) (effects_more read entry) me session op own
courses_stay read me entry session (Checking check) own = tt
courses_stay read me entry session (DoingWork work) own = tt
courses_stay read me entry session (AwaitingDecision wanted) own = own

-- an entry is read
reads_awaited : (read : List Entry) (me : NodeId) (entry : Entry) (after : List Entry) (requests : Requests) (outbox : List Entry)
    → AreAwaited read me (entry ∷ after) None me requests outbox → AreAwaited (read ++ entry ∷ []) me after (Some entry) me requests outbox
reads_awaited read me entry after requests outbox so = record {
  me_so = so.me_so;
  commands = record {
    own = λ req request got. courses_stay read me entry request.session request.course (so.commands.own req request got);
    apart = so.commands.apart;
  };
  awaited = λ other is some. let more = times-cons other entry after in so.awaited other is (omega (arith, more, some));
  once = λ other is. let more = times-cons other entry after in let one = so.once other is in omega (arith, more, one);
  read_now = λ other is reads.
      let same : entry ≡ other = same_Some entry other reads in
      let more : times other (entry ∷ after) ≡ 1 + times other after
      = times-cons other entry after ∙ ap (λ (e : Entry). once_if (is_same_entry other e) + times other after) same
      ∙ ap (λ (b : Bool). once_if b + times other after) (itself other) in
      let one = so.once other is in
      omega (arith, more, one);
}

module _ (node : Node) where
  -- so it is then, once an input was received
  abbrev pub IsThen : Input → List Entry → StepState → Type 0
  IsThen input after = AreAwaitedSoFar (read_after input node.peer.entries) node.me after (entry_of_input input)

  -- a node that comes back has read all, and nothing else
  pub back_awaited : (entries after : List Entry) → after ≡ []
      → IsThen (inputs.Back entries) after (input_received (inputs.Back entries) (at_first node))
  unfolding on_back
  back_awaited entries after goes = none_awaited entries node.me after None (λ entry is. ap (times entry) goes ∙ times-none entry)

  pub received_awaited : (unread : List Entry) (input : Input) (after : List Entry) → UnreadGoes input node unread after
      → AreAwaitedAt unread node
      → IsThen input after (input_received input (at_first node))
  unfolding entry_read on_request on_recover_tick on_back
  received_awaited unread (inputs.Guest req session ask) after goes so =
      subst (λ (list : List Entry). AreAwaitedAt list node) (sym goes) so
  received_awaited unread (inputs.Request request) after goes so = subst (λ (list : List Entry). AreAwaitedAt list node) (sym goes) so
  received_awaited unread (inputs.Reply rsp) after goes so =
      let now = subst (λ (list : List Entry). AreAwaitedAt list node) (sym goes) so in
      cond_either (IsThen (inputs.Reply rsp) after) (gateways.gateway_awaits rsp.number node.gateway) (at_first node)
      (recovery_stepped (recovery_steps.recovery_on_reply rsp (recovery_state_of node)) (at_first node)) now now
  received_awaited unread (inputs.Lost number) after goes so =
      let now = subst (λ (list : List Entry). AreAwaitedAt list node) (sym goes) so in
      cond_either (IsThen (inputs.Lost number) after) (gateways.gateway_awaits number node.gateway) (at_first node)
      (recovery_stepped (recovery_steps.recovery_on_loss number (recovery_state_of node)) (at_first node)) now now
  received_awaited unread (inputs.LogEntry entry) after goes so =
      reads_awaited node.peer.entries node.me entry after node.requests node.outbox
      (subst (λ (list : List Entry). AreAwaitedAt list node) goes so)
  received_awaited unread inputs.Put after (entry, later, first, goes) so =
      subst (λ (outbox : List Entry). IsThen inputs.Put after (on_put outbox (at_first node))) (sym first)
      (same_way node.peer.entries node.me unread after node.requests node.outbox later moves so)
    where
      moves : (other : Entry) → times other after + times other later ≡ times other unread + times other node.outbox
      moves other =
          let behind : times other after ≡ times other unread + once_if (is_same_entry other entry)
          = ap (times other) goes ∙ times-push other unread entry in
          let all : times other node.outbox ≡ once_if (is_same_entry other entry) + times other later
          = ap (times other) first ∙ times-cons other entry later in
          omega (arith, behind, all)
  received_awaited unread inputs.RecoverTick after goes so = subst (λ (list : List Entry). AreAwaitedAt list node) (sym goes) so
  received_awaited unread inputs.RetryTick after goes so = subst (λ (list : List Entry). AreAwaitedAt list node) (sym goes) so
  received_awaited unread (inputs.Back entries) after goes so = back_awaited entries after goes

-- a node that read an entry is at rest once its step is made
pub rests : (read : List Entry) (me : NodeId) (unread : List Entry) (reading : Option Entry) (now : NodeId) (requests : Requests)
    (outbox : List Entry)
    → AreAwaited read me unread reading now requests outbox → AreAwaited read now unread None now requests outbox
rests read me unread reading now requests outbox so =
    subst (λ (whose : NodeId). AreAwaited read whose unread None now requests outbox) (sym so.me_so) (record {
      me_so = so.me_so;
      commands = so.commands;
      awaited = so.awaited;
      once = so.once;
      read_now = λ entry is reads. absurd (cc (reads));
    })

-- an entry more in the log, which is none of the node's commands'
pub one_more_unread : (read : List Entry) (me : NodeId) (unread : List Entry) (requests : Requests) (outbox : List Entry) (last : Entry)
    → ((entry : Entry) → IsCommandEntry me entry → is_same_entry entry last ≡ false) → AreAwaited read me unread None me requests outbox
    → AreAwaited read me (unread ++ last ∷ []) None me requests outbox
one_more_unread read me unread requests outbox last not so = record {
  me_so = so.me_so;
  commands = so.commands;
  awaited = λ entry is some. so.awaited entry is (subst (λ (k : ℕ). 1 ≤ k) (as_before entry is) some);
  once = λ entry is. subst (λ (k : ℕ). k ≤ 1) (sym (as_before entry is)) (so.once entry is);
  read_now = λ entry is reads. absurd (cc (reads));
}
  where
    as_before : (entry : Entry) → IsCommandEntry me entry
        → times entry (unread ++ last ∷ []) + times entry outbox ≡ times entry unread + times entry outbox
    as_before entry is =
        let more : times entry (unread ++ last ∷ []) ≡ times entry unread + 0
        = times-push entry unread last ∙ ap (λ (b : Bool). times entry unread + once_if b) (not entry is) in
        omega (arith, more)
