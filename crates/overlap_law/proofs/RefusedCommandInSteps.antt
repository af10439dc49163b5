-- In a step of the node that put an entry for a command: where the command is then, and what a refusal leaves, whether the step puts that
-- entry, reads it, or comes later.
use Rattle.std.proofs.Common.{◌≡◌, ⊎_elim, ℕ, ◌+◌, ◌≤◌, Bool, true, List, [], ◌∷◌, ◌++◌, Contains, drop, length, Some, refl, sym, ap, subst}
use Rattle.std.proofs.Common.{◌∙◌, arith}
use Rattle.std.specs.List.{slice_get}
use Rattle.std.specs.FinMap as tree
use Rattle.std.proofs.lemmas.List.{length-append}
use Rattle.proof_tools.proofs.Booleans.{cond_either}
use Rattle.proof_tools.proofs.Lists.{Contains-nil}
use Rattle.object_id.specs.declared.node.NodeId.{NodeId}
use Rattle.object_id.specs.declared.entry.Entry.{Entry}
use Rattle.cluster_script.specs.declared.statement.Statement.{Statement}
use Rattle.vdi_directory.specs.declared.effect.Effect.{Effect}
use Rattle.vdi_ops.specs.Op.{OpStage, Asked, Working, Publishing, Answered}
use Rattle.peer_proto.specs.declared.guest.GuestRsp.{GuestRsp}
use Rattle.gateway.specs.State as gateways
use Rattle.recovery.specs.Steps as recovery_steps
use Rattle.sheep_node.specs.declared.ask.Ask.{Ask}
use Rattle.sheep_node.specs.declared.input.Input.{Input}
use Rattle.sheep_node.specs.declared.input.Input.TheVariants as inputs
use Rattle.sheep_node.specs.declared.course.Course.{Course}
use Rattle.sheep_node.specs.declared.course.Request.{Request}
use Rattle.sheep_node.specs.declared.course.Course.TheVariants.{Waiting, Driving, Commanding, Checking, DoingWork, AwaitingDecision}
use Rattle.sheep_node.specs.RecoveryView.{recovery_state_of}
use Rattle.sheep_node.specs.State.{Node}
use Rattle.sheep_node.specs.StepFacts.{read_after}
use Rattle.sheep_node.specs.StepState.{StepState, at_first}
use Rattle.sheep_node.specs.LogReading.{entry_read, on_back}
use Rattle.sheep_node.specs.Step.{on_request, recovery_stepped, on_put, on_recover_tick, node_step}
use Rattle.sheep_node.specs.Changes.{input_received}
use Rattle.sheep_node.proofs.StepChain.{step_chain}
use Rattle.sheep_node.proofs.StepResults.{step_reads}
use Rattle.sheep_world.specs.Began.{Began}
use Rattle.sheep_world.specs.LogFronts.{IsFront}
use Rattle.sheep_world.specs.NodeCauses.{NodeCause, GuestAsks, RequestComes, ReplyComes, LossIsTold, EntryIsRead, EntryIsPut, RecoveryTicks}
use Rattle.sheep_world.specs.NodeCauses.{WorkIsRetried, ClientAsks, input_of_cause, IsCause, log_after_cause}
use Rattle.sheep_world.specs.World.{Host, World, is_host_up}
use Rattle.sheep_world.proofs.LogFrontLaws.{all_read}
use Rattle.overlap_law.specs.AwaitedEntries.{IsCommandEntry, IsSessionsEntry}
use Rattle.overlap_law.specs.MomentChanges.{RunsAreInRange}
use Rattle.overlap_law.specs.PastWords.{is_refusal}
use Rattle.overlap_law.specs.WriterClaims.{IsFirstEntry}
use Rattle.overlap_law.proofs.AttemptLists.{got_more}
use Rattle.overlap_law.proofs.AwaitedChanges.{Requests}
use Rattle.overlap_law.proofs.AwaitedEntriesInMoments.{meets, own_first}
use Rattle.overlap_law.proofs.AwaitedInRuns.{awaited_in_worlds}
use Rattle.overlap_law.proofs.CountedEntries.{times, once_if, times-cons, itself}
use Rattle.overlap_law.proofs.RefusedCommandPuts.{stands_along}
use Rattle.overlap_law.proofs.RefusedCommandStages.{IsComeTo, IsOnCourse, is_first, is_asked}
use Rattle.overlap_law.proofs.RefusedCommandSteps.{IsLeftSo, StandsSo, Stands}

-- ---- lists

-- fronts of a list that are as long are the same
fronts_same : (one other more rest : List Entry) → one ++ more ≡ other ++ rest → length one ≡ length other → one ≡ other
fronts_same [] [] more rest is long = refl
fronts_same [] (y ∷ ys) more rest is long = absurd (cc (long))
fronts_same (x ∷ xs) [] more rest is long = absurd (cc (long))
fronts_same (x ∷ xs) (y ∷ ys) more rest is long =
    let first : x ≡ y = cc (is) in
    let later : xs ++ more ≡ ys ++ rest = cc (is) in
    let lengths : length xs ≡ length ys = cc (long) in
    let same = fronts_same xs ys more rest later lengths in
    λ i. first i ∷ same i

-- what an input leaves of the outbox by itself
abbrev pub outbox_then : Input → List Entry → List Entry
outbox_then inputs.Put [] = []
outbox_then inputs.Put (first ∷ later) = later
outbox_then _ outbox = outbox

-- no return
abbrev pub IsNoReturn : Input → Type 0
IsNoReturn (inputs.Back entries) = ⊥
IsNoReturn _ = Unit {0}

-- ---- where a command is, by what is known of one that waits for its first decision

module _ (earlier : List Entry) (entry : Entry) (me : NodeId) (session : ℕ) where
  course_map : (A B : Type 0) (course : Course) → (is_asked course ≡ true → A → B) → IsOnCourse earlier entry me session A course
      → IsOnCourse earlier entry me session B course
  course_map A B (Waiting ask) change on = on
  course_map A B (Driving driver) change on = on
  course_map A B (Commanding op) change on = record { by = on.by; of = on.of; stage = by_stage op.stage change on.stage }
    where
      by_stage : (stage : OpStage) → (is_first stage ≡ true → A → B) → IsComeTo earlier entry me session A stage
          → IsComeTo earlier entry me session B stage
      by_stage (Asked wanted) change come = (come.0, change refl come.1)
      by_stage (Working vid task) change come = come
      by_stage (Publishing wanted made) change come = tt
      by_stage (Answered disk) change come = tt
  course_map A B (Checking check) change on = on
  course_map A B (DoingWork work) change on = on
  course_map A B (AwaitingDecision wanted) change on = on

  asked_so : (A : Type 0) (course : Course) → is_asked course ≡ true → IsOnCourse earlier entry me session A course → A
  asked_so A (Waiting ask) asked on = absurd on
  asked_so A (Driving driver) asked on = absurd on
  asked_so A (Commanding op) asked on = by_stage op.stage asked on.stage
    where
      by_stage : (stage : OpStage) → is_first stage ≡ true → IsComeTo earlier entry me session A stage → A
      by_stage (Asked wanted) asked come = come.1
      by_stage (Working vid task) asked come = absurd (cc (asked))
      by_stage (Publishing wanted made) asked come = absurd (cc (asked))
      by_stage (Answered disk) asked come = absurd (cc (asked))
  asked_so A (Checking check) asked on = absurd on
  asked_so A (DoingWork work) asked on = absurd on
  asked_so A (AwaitingDecision wanted) asked on = absurd on

-- an input is received
module _ (earlier : List Entry) (entry : Entry) (me : NodeId) (command : IsCommandEntry me entry) (session req : ℕ) (AtFirst : Type 0)
    (ours : List Entry) where
  abbrev StandsThen : StepState → Type 0
  StandsThen = Stands earlier entry me command session req AtFirst ours

  received_stands : (input : Input) (node : Node) → IsNoReturn input
      → StandsSo earlier entry me command session req AtFirst ours node.requests (outbox_then input node.outbox) []
      → StandsThen (input_received input (at_first node))
  unfolding entry_read on_request on_recover_tick on_back
  received_stands (inputs.Guest number session ask) node stays so = so
  received_stands (inputs.Request request) node stays so = so
  received_stands (inputs.Reply rsp) node stays so =
      cond_either StandsThen (gateways.gateway_awaits rsp.number node.gateway) (at_first node)
      (recovery_stepped (recovery_steps.recovery_on_reply rsp (recovery_state_of node)) (at_first node)) so so
  received_stands (inputs.Lost number) node stays so =
      cond_either StandsThen (gateways.gateway_awaits number node.gateway) (at_first node)
      (recovery_stepped (recovery_steps.recovery_on_loss number (recovery_state_of node)) (at_first node)) so so
  received_stands (inputs.LogEntry read) node stays so = so
  received_stands inputs.Put node stays so = by_outbox node.outbox refl so
    where
      by_outbox : (outbox : List Entry) → node.outbox ≡ outbox
          → StandsSo earlier entry me command session req AtFirst ours node.requests (outbox_then inputs.Put outbox) []
          → StandsThen (on_put outbox (at_first node))
      by_outbox [] is so =
          subst (λ (o : List Entry). StandsSo earlier entry me command session req AtFirst ours node.requests o []) (sym is) so
      by_outbox (first ∷ later) is so = so
  received_stands inputs.RecoverTick node stays so = so
  received_stands inputs.RetryTick node stays so = so
  received_stands (inputs.Back entries) node stays so = absurd stays

-- ---- a step

module _ (script : List Statement) (range : RunsAreInRange script) (earlier : List Entry) (entry : Entry) (node : NodeId)
    (command : IsCommandEntry node entry) (session req : ℕ) (known : List Effect)
    (mine : IsSessionsEntry known node session entry) where
  -- of a node that has read so many entries of the log: this one stands at its place alone in what is unread
  abbrev IsAtOnePlace : List Entry → ℕ → Type 0
  IsAtOnePlace log read = (q : ℕ) → read ≤ q → slice_get log q ≡ Some entry → q ≡ length earlier

  -- where the command is, if it is there; and where it waits for its first decision, its entry isn't put again
  pub record GoesOn (log outbox : List Entry) (read : ℕ) (requests : Requests) : Type 0 where
    pub course : (request : Request) → tree.get requests req ≡ Some request
        → IsOnCourse earlier entry node session (IsFirstEntry entry) request.course
    pub put_once : (request : Request) → tree.get requests req ≡ Some request → is_asked request.course ≡ true → times entry outbox ≡ 0
    pub one_place : (request : Request) → tree.get requests req ≡ Some request → is_asked request.course ≡ true → IsAtOnePlace log read

  abbrev pub GoesOnAt : List Entry → Node → Type 0
  GoesOnAt log at = GoesOn log at.outbox (length at.peer.entries) at.requests

  -- what is known of a command that waits for its first decision as its node begins to step
  pub record IsAskedThen (log outbox : List Entry) (read : ℕ) : Type 0 where
    pub first : IsFirstEntry entry
    pub one_place : IsAtOnePlace log read
    pub put_place : (later : List Entry) → outbox ≡ entry ∷ later → length log ≡ length earlier

  module _ (world : World) (began : Began script world) (host : Host) (there : tree.get world.hosts node.0 ≡ Some host)
      (up : is_host_up host ≡ true) (front : IsFront earlier world.log) (cause : NodeCause)
      (so : IsCause script world node.0 host cause)
      (old : (number : ℕ) (ask : Ask) → input_of_cause cause ≡ inputs.Guest req number ask → ⊥) where
    abbrev pub Asks : Type 0
    Asks = IsAskedThen world.log host.node.outbox (length host.node.peer.entries)

    abbrev pub left_by_input : List Entry
    left_by_input = outbox_then (input_of_cause cause) host.node.outbox

    -- what holds once the input was received
    abbrev pub Starts : Type 0
    Starts = StandsSo earlier entry node command session req Asks left_by_input host.node.requests left_by_input []

    abbrev pub last : StepState
    last = node_step (input_of_cause cause) host.node

    -- ---- the entry is read at its place

    no_return : (why : NodeCause) → IsNoReturn (input_of_cause why)
    no_return (GuestAsks asking number ask) = tt
    no_return (RequestComes name to request) = tt
    no_return (ReplyComes name from rsp) = tt
    no_return (LossIsTold name packet) = tt
    no_return (EntryIsRead read) = tt
    no_return (EntryIsPut put) = tt
    no_return RecoveryTicks = tt
    no_return WorkIsRetried = tt
    no_return (ClientAsks number ask) = tt

    reads : (why : NodeCause) → IsCause script world node.0 host why → Asks → input_of_cause why ≡ inputs.LogEntry entry
        → host.node.peer.entries ≡ earlier
    reads (GuestAsks asking number ask) caused asks from = absurd (cc (from))
    reads (RequestComes name to request) caused asks from = absurd (cc (from))
    reads (ReplyComes name of rsp) caused asks from = absurd (cc (from))
    reads (LossIsTold name packet) caused asks from = absurd (cc (from))
    reads (EntryIsRead read) caused asks from =
        let same : read ≡ entry = cc (from) in
        let place : length host.node.peer.entries ≡ length earlier
        = asks.one_place (length host.node.peer.entries) (omega arith) (caused ∙ ap (λ (e : Entry). Some e) same) in
        let of_log = all_read script world began node.0 host there in
        fronts_same host.node.peer.entries earlier of_log.rest front.rest (sym of_log.is ∙ front.is) place
    reads (EntryIsPut put) caused asks from = absurd (cc (from))
    reads RecoveryTicks caused asks from = absurd (cc (from))
    reads WorkIsRetried caused asks from = absurd (cc (from))
    reads (ClientAsks number ask) caused asks from = absurd (cc (from))

    -- ---- the step's end

    module _ (starts : Starts) where
      stands : Stands earlier entry node command session req Asks left_by_input last
      stands =
          stands_along earlier entry node command session req Asks left_by_input (input_of_cause cause) host.node old known mine
          (λ asks. asks.first) (reads cause so) (read_after (input_of_cause cause) host.node.peer.entries)
          (drop (length (read_after (input_of_cause cause) host.node.peer.entries)) (log_after_cause cause world.log))
          (meets script range world began node.0 host there up cause so) (step_chain (input_of_cause cause) host.node)
          (own_first script range world began node.0 host there up cause so (awaited_in_worlds script range world began))
          (received_stands earlier entry node command session req Asks left_by_input (input_of_cause cause) host.node (no_return cause)
          starts)

      place_so : (why : NodeCause) → IsCause script world node.0 host why → Asks → (q : ℕ) → length host.node.peer.entries ≤ q
          → slice_get (log_after_cause why world.log) q ≡ Some entry → q ≡ length earlier
      place_so (GuestAsks asking number ask) caused asks q behind at = asks.one_place q behind at
      place_so (RequestComes name to request) caused asks q behind at = asks.one_place q behind at
      place_so (ReplyComes name of rsp) caused asks q behind at = asks.one_place q behind at
      place_so (LossIsTold name packet) caused asks q behind at = asks.one_place q behind at
      place_so (EntryIsRead read) caused asks q behind at = asks.one_place q behind at
      place_so (EntryIsPut put) caused asks q behind at = ⊎_elim
          (λ (before : slice_get world.log q ≡ Some entry). asks.one_place q behind before)
          (λ (new : (q ≡ length world.log) × (put ≡ entry)).
          new.0 ∙ asks.put_place caused.0 (caused.1 ∙ ap (λ (e : Entry). e ∷ caused.0) new.1))
          (got_more world.log put q entry at)
      place_so RecoveryTicks caused asks q behind at = asks.one_place q behind at
      place_so WorkIsRetried caused asks q behind at = asks.one_place q behind at
      place_so (ClientAsks number ask) caused asks q behind at = asks.one_place q behind at

      read_more : (why : NodeCause) → length host.node.peer.entries ≤ length (read_after (input_of_cause why) host.node.peer.entries)
      read_more (GuestAsks asking number ask) = omega arith
      read_more (RequestComes name to request) = omega arith
      read_more (ReplyComes name of rsp) = omega arith
      read_more (LossIsTold name packet) = omega arith
      read_more (EntryIsRead read) =
          let more : length (host.node.peer.entries ++ read ∷ []) ≡ length host.node.peer.entries + 1
          = length-append host.node.peer.entries (read ∷ []) in
          omega (arith, more)
      read_more (EntryIsPut put) = omega arith
      read_more RecoveryTicks = omega arith
      read_more WorkIsRetried = omega arith
      read_more (ClientAsks number ask) = omega arith

      pub goes_on : GoesOnAt (log_after_cause cause world.log) last.node
      goes_on = record {
        course = λ request got.
            course_map earlier entry node session Asks (IsFirstEntry entry) request.course (λ asked asks. asks.first)
            (stands.there request got);
        put_once = λ request got asked. stands.put_once request got asked;
        one_place = λ request got asked q behind at.
            let asks = asked_so earlier entry node session Asks request.course asked (stands.there request got) in
            let now : length last.node.peer.entries ≡ length (read_after (input_of_cause cause) host.node.peer.entries)
            = ap (λ (read : List Entry). length read) (step_reads (input_of_cause cause) host.node) in
            let more = read_more cause in
            place_so cause so asks q (omega (arith, now, more, behind)) at;
      }

      pub left : (reply : ℕ × GuestRsp) → Contains last.outputs.replies reply → reply.0 ≡ req → is_refusal reply.1 ≡ true
          → IsLeftSo earlier entry node command session req Asks left_by_input last.node.outbox
      left = stands.refused

      pub kept : (one : Entry) → Contains left_by_input one → Contains last.node.outbox one
      kept = stands.kept

    -- ---- the step's beginning, where the command went on before

    then_none : (input : Input) (outbox : List Entry) → times entry outbox ≡ 0 → times entry (outbox_then input outbox) ≡ 0
    then_none (inputs.Guest number of ask) outbox none = none
    then_none (inputs.Request request) outbox none = none
    then_none (inputs.Reply rsp) outbox none = none
    then_none (inputs.Lost number) outbox none = none
    then_none (inputs.LogEntry read) outbox none = none
    then_none inputs.Put [] none = none
    then_none inputs.Put (first ∷ later) none = let more = times-cons entry first later in omega (arith, more, none)
    then_none inputs.RecoverTick outbox none = none
    then_none inputs.RetryTick outbox none = none
    then_none (inputs.Back entries) outbox none = none

    -- an entry that isn't in the outbox isn't put
    put_never : times entry host.node.outbox ≡ 0 → (later : List Entry) → host.node.outbox ≡ entry ∷ later → length world.log ≡ length
        earlier
    put_never none later is =
        let more : times entry (entry ∷ later) ≡ 1 + times entry later
        = times-cons entry entry later ∙ ap (λ (b : Bool). once_if b + times entry later) (itself entry) in
        let same : times entry host.node.outbox ≡ times entry (entry ∷ later) = ap (times entry) is in
        absurd (omega (arith, more, same, none))

    pub starts_on : GoesOnAt world.log host.node → Starts
    starts_on goes = record {
      there = λ request got.
          course_map earlier entry node session (IsFirstEntry entry) Asks request.course
          (λ asked first. record {
            first = first;
            one_place = goes.one_place request got asked;
            put_place = put_never (goes.put_once request got asked);
          }) (goes.course request got);
      put_once = λ request got asked. then_none (input_of_cause cause) host.node.outbox (goes.put_once request got asked);
      refused = λ reply there_too own refuses. absurd (Contains-nil reply there_too);
      kept = λ one there_too. there_too;
    }
