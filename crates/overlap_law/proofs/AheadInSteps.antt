-- What a step of a node leaves of the checks: none has begun to write an object that it hasn't compared yet.
use Rattle.std.proofs.Common.{is_some}
use Rattle.std.proofs.Common.{◌≡◌, ◌≢◌, ⊎_elim, ℕ, ◌*◌, ◌<◌, ◌≤◌, ◌||◌, Bool, true, false, List, [], ◌++◌, Contains, Option, Some, None, option_map, refl, sym, ap, subst, arith, ◌∙◌}
use Rattle.std.specs.List.{list_any}
use Rattle.std.specs.List.Sorted.{IsStrictlyIncreasing}
use Rattle.std.specs.Option.{option_map_or, option_and_then}
use Rattle.std.specs.FinMap as tree
use Rattle.std.proofs.lemmas.Bool.{cases_eq}
use Rattle.std.proofs.lemmas.List.Folds.{list_any-append}
use Rattle.std.proofs.lemmas.Option.{same_Some}
use Rattle.proof_tools.proofs.FiniteMaps.{get-insert_cases, get-insert_same}
use Rattle.object_id.specs.declared.node.NodeId.{NodeId}
use Rattle.object_id.specs.declared.entry.VdiSpec.{VdiSpec}
use Rattle.object_id.specs.Spec.{IsSpec}
use Rattle.cluster_script.specs.declared.statement.Statement.{Statement}
use Rattle.cluster_script.specs.declared.statement.Statement.TheVariants as lines
use Rattle.cluster_script.specs.NumberedRequests.{request_at}
use Rattle.cluster_script.specs.Sessions.{ScriptSession}
use Rattle.cluster_script.specs.Statements.{requests_of}
use Rattle.disk_check.specs.Check.{Check, CheckStage, Comparing, write_back_step}
use Rattle.disk_check.specs.Table.{own_indexes}
use Rattle.disk_check.specs.Value.{pieces_in}
use Rattle.disk_check.proofs.TableLemmas.{own_indexes-ascend}
use Rattle.disk_history.specs.declared.event.HistEvent.{HistEvent}
use Rattle.message_wire.specs.declared.name.MessageName.{MessageName}
use Rattle.peer_proto.specs.declared.guest.VdiAsk.TheVariants as disk_commands
use Rattle.peer_proto.specs.declared.say.PeerRsp.{PeerRsp}
use Rattle.sheep_node.specs.declared.ask.Ask.{Ask}
use Rattle.sheep_node.specs.declared.ask.Ask.TheVariants as asks
use Rattle.sheep_node.specs.declared.check_write.CheckWrite.{CheckWrite}
use Rattle.sheep_node.specs.declared.course.Course.{Course}
use Rattle.sheep_node.specs.declared.course.Course.TheVariants.{Waiting, Driving, Commanding, Checking, DoingWork, AwaitingDecision}
use Rattle.sheep_node.specs.declared.course.Request.{Request}
use Rattle.sheep_node.specs.declared.input.Input.{Input}
use Rattle.sheep_node.specs.declared.input.Input.TheVariants as inputs
use Rattle.sheep_node.specs.CheckWrites.{check_write_on}
use Rattle.sheep_node.specs.State.{Node}
use Rattle.sheep_node.specs.Step.{node_step}
use Rattle.sheep_node.proofs.OneWorkParts.{Requests}
use Rattle.sheep_world.specs.BegunRequests.{IsOfScript}
use Rattle.sheep_world.specs.World.{Host, World, is_host_up, node_at, progress_at}
use Rattle.sheep_world.specs.Asking.{ask_of_statement}
use Rattle.sheep_world.specs.Began.{Began}
use Rattle.sheep_world.specs.BegunRequests.{WasBegun}
use Rattle.sheep_world.specs.Effects.{open_disk_at, request_started}
use Rattle.sheep_world.specs.HistoryAdditions.{check_write_by, check_write_grown, is_write, replies_grown, request_grown}
use Rattle.sheep_world.specs.NodeCauses.{NodeCause, GuestAsks, RequestComes, ReplyComes, LossIsTold, EntryIsRead, EntryIsPut, RecoveryTicks, WorkIsRetried, ClientAsks, input_of_cause, IsCause, host_with_node, history_of_cause, world_after_cause}
use Rattle.sheep_world.proofs.SessionNumbers.{once}
use Rattle.overlap_law.specs.ChecksAhead.{HasBegunNoneAhead}
use Rattle.overlap_law.specs.MomentChanges.{RunsAreInRange}
use Rattle.overlap_law.specs.RequestsOfScript.{indexes_left}
use Rattle.overlap_law.specs.ToldReads.{begins_write_at}
use Rattle.overlap_law.specs.Words.{Hosts}
use Rattle.overlap_law.specs.WrittenBlocks.{blocks_per_object}
use Rattle.overlap_law.proofs.AheadOfChecks.{check_ahead, left_ascends, write_apart, write_back-ahead}
use Rattle.overlap_law.proofs.BegunWriters.{IsBegunWriter}
use Rattle.overlap_law.proofs.ComingWrites.{coming}
use Rattle.overlap_law.proofs.CoursesOfAsks.{IsPlacedIn}
use Rattle.overlap_law.proofs.CoursesOfScript.{asked_by, BeganOn, requests_placed}
use Rattle.overlap_law.proofs.CoursesStepOn.{IsKeptByCourses, IsSoAmong, change_so, ended_so, step-so}
use Rattle.overlap_law.proofs.DiskEventsOfHolders.{append_none}
use Rattle.overlap_law.proofs.EndingWrites.{none_at}
use Rattle.overlap_law.proofs.ItemsAtBegin.{check_begins, entry_none, request_begins, served_comes_to_none}
use Rattle.overlap_law.proofs.ItemsOfReplies.{replies_none}
use Rattle.overlap_law.proofs.ItemsOfRequests.{begins_write_of}
use Rattle.overlap_law.proofs.LongValues.{value-long}
use Rattle.overlap_law.proofs.RefusedInRuns.{node_begun}
use Rattle.overlap_law.proofs.RepliesToChecks.{idle, reply-so}
use Rattle.overlap_law.proofs.SessionsOfRequests.{are_scripts, are_asked_by_line, of_asking}
use Rattle.overlap_law.proofs.UnansweredRequests.{others_unreplied}
use Rattle.overlap_law.proofs.WholeInRuns.{sound_here}
use Rattle.overlap_law.proofs.AsksInCauses.{not_begun}

-- a course that is a check has begun none of what is ahead
abbrev pub IsAheadAt : ℕ → List HistEvent → Course → Type 0
IsAheadAt req history (Waiting ask) = Unit {0}
IsAheadAt req history (Driving driver) = Unit {0}
IsAheadAt req history (Commanding op) = Unit {0}
IsAheadAt req history (Checking check) = HasBegunNoneAhead req history check
IsAheadAt req history (DoingWork work) = Unit {0}
IsAheadAt req history (AwaitingDecision entry) = Unit {0}

-- the statement of a write isn't that of a check
no_write : (o : Option Statement) → option_map_or is_write o false ≡ true
    → option_and_then ask_of_statement o ≡ Some (asks.Vdi disk_commands.Check) → ⊥
no_write None writes asks = cc (writes)
no_write (Some (lines.Write session offset size pattern)) writes asks = cc (asks)
no_write (Some line) writes asks = cc (writes)

module _ (req : ℕ) where
  abbrev pub AreAhead : List HistEvent → Requests → Type 0
  AreAhead history = IsSoAmong req (IsAheadAt req history)

  parts : (history : List HistEvent) (input : Input) (node : Node) → IsKeptByCourses req (IsAheadAt req history) input node
  parts history input node = record {
    begins = λ ask driver is. tt;
    drives = λ driver next is. tt;
    commands = λ op next is. tt;
    checks = λ so_far session number work attempt status bytes check step ends is has. check_ahead req history bytes check step is has;
  }

  grown_ahead : (history grown : List HistEvent) → list_any (begins_write_of req) grown ≡ false → (course : Course)
      → IsAheadAt req history course → IsAheadAt req (history ++ grown) course
  grown_ahead history grown none (Waiting ask) is = tt
  grown_ahead history grown none (Driving driver) is = tt
  grown_ahead history grown none (Commanding op) is = tt
  grown_ahead history grown none (Checking check) is = λ index block among further.
      let was = is index block among further in
      let new = none_at req check.vid block grown none in
      list_any-append (begins_write_at req check.vid block) history grown ∙ (λ i. was i || new i)
  grown_ahead history grown none (DoingWork work) is = tt
  grown_ahead history grown none (AwaitingDecision entry) is = tt

  pub all_grown : (history grown : List HistEvent) → list_any (begins_write_of req) grown ≡ false → (requests : Requests)
      → AreAhead history requests → AreAhead (history ++ grown) requests
  all_grown history grown none requests are request got = grown_ahead history grown none request.course (are request got)

  -- at each node
  abbrev pub AllAhead : List HistEvent → Hosts → Type 0
  AllAhead history hosts = (m : ℕ) (host : Host) → tree.get hosts m ≡ Some host → AreAhead history host.node.requests

  pub one_ahead : (history : List HistEvent) (hosts : Hosts) (n : ℕ) (new : Host) → AreAhead history new.node.requests
      → ((m : ℕ) (host : Host) → m ≢ n → tree.get hosts m ≡ Some host → AreAhead history host.node.requests)
      → AllAhead history (tree.insert hosts n new)
  one_ahead history hosts n new own others m host got = ⊎_elim
      (λ (same : (m ≡ n) × (new ≡ host)). subst (λ (h : Host). AreAhead history h.node.requests) same.1 own)
      (λ (apart : (m ≢ n) × (tree.get hosts m ≡ Some host)). others m host apart.0 apart.1)
      (get-insert_cases hosts n new m host got)

module _ (script : List Statement) (range : RunsAreInRange script) (req : ℕ) (world : World) (began : Began script world)
    (history : List HistEvent) (all : AllAhead req history world.hosts)
    (begun : list_any (begins_write_of req) history ≡ true → IsBegunWriter script req world.guests) (n : ℕ) (host : Host)
    (there : tree.get world.hosts n ≡ Some host) (up : is_host_up host ≡ true) where
  abbrev after : NodeCause → World
  after cause = world_after_cause script n host cause world

  abbrev stepped : NodeCause → Host
  stepped cause = host_with_node host (node_step (input_of_cause cause) host.node).node

  abbrev grown : NodeCause → List HistEvent
  grown cause = history_of_cause script cause world (after cause)

  -- what it leaves
  abbrev Leaves : NodeCause → Type 0
  Leaves cause = Began script (after cause) → AllAhead req (history ++ grown cause) (tree.insert world.hosts n (stepped cause))

  ordinary : (cause : NodeCause) → ((session : ℕ) (ask : Ask) → input_of_cause cause ≢ inputs.Guest req session ask)
      → list_any (begins_write_of req) (grown cause) ≡ false → Leaves cause
  ordinary cause old none later =
      one_ahead req (history ++ grown cause) world.hosts n (stepped cause)
      (all_grown req history (grown cause) none (node_step (input_of_cause cause) host.node).node.requests
      (step-so req (IsAheadAt req history) (input_of_cause cause) host.node (parts req history (input_of_cause cause) host.node)
      (λ session ask is. absurd (old session ask is))
      (all n host there)))
      (λ m other apart got. all_grown req history (grown cause) none other.node.requests (all m other got))

  told_none : (found : World) (write : Option CheckWrite) (cause : NodeCause)
      → list_any (begins_write_of req) (replies_grown script found write (after cause)) ≡ false
  told_none found write cause = replies_none script req found write (after cause).outputs.replies

  -- ---- a guest's request begins

  module _ (session : ScriptSession) (other : ℕ) (ask : Ask) (caused : IsCause script world n host (GuestAsks session other ask)) where
    abbrev cause : NodeCause
    cause = GuestAsks session other ask

    abbrev starts : List HistEvent
    starts = request_grown script world session (Some other)

    abbrev told : List HistEvent
    told = replies_grown script (request_started session (Some other) world) None (after cause)

    starts_none : (other ≡ req → ⊥) → list_any (begins_write_of req) starts ≡ false
    starts_none apart = by_value (list_any (begins_write_of req) starts) refl
      where
        by_value : (b : Bool) → list_any (begins_write_of req) starts ≡ b → list_any (begins_write_of req) starts ≡ false
        by_value false none = none
        by_value true is = absurd (apart (request_begins req other (open_disk_at session world) (request_at script other) is).0)

    another_begins : (other ≡ req → ⊥) → Leaves cause
    another_begins apart =
        ordinary cause (λ number asks is. apart (cc (is)))
        (append_none (begins_write_of req) starts told (starts_none apart)
        (told_none (request_started session (Some other) world) None cause))

    -- the request itself
    module _ (own : other ≡ req) where
      unbegun : (q : ℕ) → WasBegun script world.guests q req → ⊥
      unbegun q was =
          let begun = subst (WasBegun script world.guests q) (sym own) was in
          let same = once 1 (requests_of script) session.number q
          (progress_at session.number world).begun begun.place other caused.next begun.there in
          let place : (progress_at session.number world).begun ≡ begun.place = same.1 in
          let below : begun.place < (progress_at session.number world).begun
          = subst (λ (k : ℕ). begun.place < (progress_at k world).begun) (sym same.0) begun.before in
          omega (arith, place, below)

      none_before : list_any (begins_write_of req) history ≡ false
      none_before = by_value (list_any (begins_write_of req) history) refl
        where
          by_value : (b : Bool) → list_any (begins_write_of req) history ≡ b → list_any (begins_write_of req) history ≡ false
          by_value false none = none
          by_value true is = let was = begun is in absurd (unbegun was.session was.begun)

      own_none : Began script (after cause) → (number : ℕ) (check : Check) → tree.get (stepped cause).node.requests req
          ≡ Some (record { session = number; course = Checking check }) → list_any (begins_write_of req) starts ≡ false
      own_none later number check got = by_value (list_any (begins_write_of req) starts) refl
        where
          at_end : tree.get (after cause).hosts n ≡ Some (stepped cause)
          at_end = get-insert_same world.hosts n (stepped cause)

          by_value : (b : Bool) → list_any (begins_write_of req) starts ≡ b → list_any (begins_write_of req) starts ≡ false
          by_value false none = none
          by_value true is =
              let begins = request_begins req other (open_disk_at session world) (request_at script other) is in
              let (disk, at, course) = subst (IsPlacedIn (asked_by script) (BeganOn script (after cause).guests) req
              (stepped cause).node.sessions) got
              (requests_placed script range (after cause) later n (stepped cause) at_end req) in
              absurd (no_write (request_at script req)
              (ap (λ (k : ℕ). option_map_or is_write (request_at script k) false) (sym own) ∙ begins.2) course.of)

      own_begins : Leaves cause
      own_begins later =
          one_ahead req (history ++ grown cause) world.hosts n (stepped cause) (λ request got. by_course request.session request.course got)
          (λ m another apart got request has.
          absurd (unbegun request.session (node_begun script world began m another got req request has
          (subst (IsOfScript script) own (ap (λ (o : Option Statement). is_some o) caused.stands)))))
        where
          by_course : (number : ℕ) (course : Course) → tree.get (stepped cause).node.requests req
              ≡ Some (record { session = number; course = course }) → IsAheadAt req (history ++ grown cause) course
          by_course number (Waiting ask) got = tt
          by_course number (Driving driver) got = tt
          by_course number (Commanding op) got = tt
          by_course number (Checking check) got = λ index block among further.
              none_at req check.vid block (history ++ grown cause)
              (append_none (begins_write_of req) history (grown cause) none_before
              (append_none (begins_write_of req) starts told (own_none later number check got)
              (told_none (request_started session (Some other) world) None cause)))
          by_course number (DoingWork work) got = tt
          by_course number (AwaitingDecision entry) got = tt

    guest_leaves : Leaves cause
    guest_leaves = ⊎_elim
        (λ (own : other ≡ req). own_begins own)
        (λ (apart : other ≢ req). another_begins apart)
        (cases_eq other req)

  -- ---- a check comes to a write by a reply

  module _ (name : MessageName) (from : NodeId) (rsp : PeerRsp) (caused : IsCause script world n host (ReplyComes name from rsp)) where
    abbrev replied : NodeCause
    replied = ReplyComes name from rsp

    abbrev write : Option CheckWrite
    write = check_write_by name world (after replied)

    abbrev begins : List HistEvent
    begins = option_map_or (check_write_grown script) write []

    abbrev ends : List HistEvent
    ends = replies_grown script world write (after replied)

    write_is : write ≡ check_write_on (inputs.Reply rsp) host.node
    write_is =
        ap (λ (k : ℕ). option_and_then (check_write_on (inputs.Reply rsp)) (node_at k world)) caused.here
        ∙ ap (λ (o : Option Host). option_and_then (check_write_on (inputs.Reply rsp)) (option_map (λ (h : Host). h.node) o)) there

    module _ (comes : CheckWrite) (found : write ≡ Some comes) (own : comes.req ≡ req) where
      on : check_write_on (inputs.Reply rsp) host.node ≡ Some comes
      on = sym write_is ∙ found

      -- where the write leaves the check
      module _ (number : ℕ) (bytes : List ℕ) (check : Check) (index : ℕ) (later : List ℕ)
          (got : tree.get host.node.requests comes.req ≡ Some (record { session = number; course = Checking check }))
          (at : check.stage ≡ Comparing index later) (same : comes.index ≡ index) (spec : comes.spec ≡ check.spec) where
        got_here : tree.get host.node.requests req ≡ Some (record { session = number; course = Checking check })
        got_here = ap (tree.get host.node.requests) (sym own) ∙ got

        is_spec : IsSpec comes.spec
        is_spec =
            let courses = (sound_here script range world began n host there up).sound_works.courses in
            subst IsSpec (sym spec) (courses req (record { session = number; course = Checking check }) got_here).spec

        before_later : (i : ℕ) → Contains later i → comes.index < i
        before_later i among =
            let (disk, placed, course) = subst (IsPlacedIn (asked_by script) (BeganOn script world.guests) req host.node.sessions) got_here
            (requests_placed script range world began n host there req) in
            let up_all : IsStrictlyIncreasing (own_indexes course.on.disk.inode) = own_indexes-ascend course.on.disk.inode in
            let all_left = subst IsStrictlyIncreasing (sym course.is.indexes) up_all in
            let left = subst (λ (s : CheckStage). IsStrictlyIncreasing (course.is.before ++ indexes_left s)) at all_left in
            subst (λ (k : ℕ). k < i) (sym same) (left_ascends course.is.before index later left i among)

        apart : (i block : ℕ) → Contains later i → i * blocks_per_object check.spec ≤ block
            → list_any (begins_write_at req check.vid block) (grown replied) ≡ false
        apart i block among further =
            append_none (begins_write_at req check.vid block) begins ends
            (write_apart comes is_spec (value-long comes rsp host.node (sound_here script range world began n host there up) on)
            req check.vid i block (before_later i among)
            (subst (λ (s : VdiSpec). i * blocks_per_object s ≤ block) (sym spec) further) script write found)
            (none_at req check.vid block ends (told_none world write replied))

        left_ahead : AreAhead req (history ++ grown replied) (tree.insert host.node.requests comes.req (record {
          session = number;
          course = Checking (write_back_step check index later (pieces_in check.spec bytes)).check;
        }))
        left_ahead request has =
            let put : Request = record {
              session = number;
              course = Checking (write_back_step check index later (pieces_in check.spec bytes)).check;
            } in
            let is : put ≡ request
            = same_Some put request (sym (get-insert_same host.node.requests comes.req put)
            ∙ ap (tree.get (tree.insert host.node.requests comes.req put)) own ∙ has) in
            subst (λ (r : Request). IsAheadAt req (history ++ grown replied) r.course) is
            (write_back-ahead req history (grown replied) check index later (pieces_in check.spec bytes) at
            (all n host there (record { session = number; course = Checking check }) got_here) apart)

      comes_leaves : Leaves replied
      comes_leaves later =
          let has = coming comes rsp host.node on in
          let here = are_scripts script range.is_script world began n host there req
          (record { session = has.session; course = Checking has.check }) (ap (tree.get host.node.requests) (sym own) ∙ has.there) refl in
          one_ahead req (history ++ grown replied) world.hosts n (stepped replied)
          (reply-so (AreAhead req (history ++ grown replied))
          (change_so req (IsAheadAt req (history ++ grown replied)) inputs.RecoverTick idle
          (parts req (history ++ grown replied) inputs.RecoverTick idle) (λ session ask is. absurd (cc (is))))
          (ended_so req (IsAheadAt req (history ++ grown replied))) comes host.node left_ahead rsp on)
          (λ m other apart got request asked.
          absurd (others_unreplied script n m host.incarnation other.incarnation req has.session request.session apart here
          (are_asked_by_line script world began m other got req request asked (of_asking script req has.session here.asking))))

    reply_leaves : Leaves replied
    reply_leaves = by_value (list_any (begins_write_of req) begins) refl
      where
        by_value : (b : Bool) → list_any (begins_write_of req) begins ≡ b → Leaves replied
        by_value false none =
            ordinary replied (λ session ask is. absurd (cc (is)))
            (append_none (begins_write_of req) begins ends none (told_none world write replied))
        by_value true is =
            let (comes, found, own, checks) = check_begins script req write is in
            comes_leaves comes found own

  -- ---- a client reads: under its number nothing has begun

  client_leaves : (number : ℕ) (asks : Ask) → IsCause script world n host (ClientAsks number asks) → number ≡ req
      → Leaves (ClientAsks number asks)
  client_leaves number asks caused own later =
      one_ahead req (history ++ added) world.hosts n (stepped reads) (λ request got. by_course request.course)
      (λ m other apart got. all_grown req history added (told_none world None reads) other.node.requests (all m other got))
    where
      reads : NodeCause
      reads = ClientAsks number asks

      added : List HistEvent
      added = grown (ClientAsks number asks)

      none_before : list_any (begins_write_of req) history ≡ false
      none_before = by_value (list_any (begins_write_of req) history) refl
        where
          by_value : (b : Bool) → list_any (begins_write_of req) history ≡ b → list_any (begins_write_of req) history ≡ false
          by_value false none = none
          by_value true is = let was = begun is in absurd (not_begun caused was.session req own was.begun)

      by_course : (course : Course) → IsAheadAt req (history ++ added) course
      by_course (Waiting ask) = tt
      by_course (Driving driver) = tt
      by_course (Commanding op) = tt
      by_course (Checking check) = λ index block among further.
          none_at req check.vid block (history ++ added)
          (append_none (begins_write_of req) history added none_before (told_none world None reads))
      by_course (DoingWork work) = tt
      by_course (AwaitingDecision entry) = tt

  -- ---- every step

  pub step_leaves : (cause : NodeCause) → IsCause script world n host cause → Leaves cause
  step_leaves (GuestAsks session other ask) caused = guest_leaves session other ask caused
  step_leaves (RequestComes name to request) caused =
      let cause = RequestComes name to request in
      let none : check_write_by name world (after cause) ≡ None = served_comes_to_none request (node_at name.sender.0 world) in
      ordinary cause (λ session ask is. absurd (cc (is)))
      (ap (λ (o : Option CheckWrite).
      list_any (begins_write_of req) (option_map_or (check_write_grown script) o [] ++ replies_grown script world o (after cause))) none
      ∙ told_none world None cause)
  step_leaves (ReplyComes name from rsp) caused = reply_leaves name from rsp caused
  step_leaves (LossIsTold name packet) caused =
      ordinary (LossIsTold name packet) (λ session ask is. absurd (cc (is))) (told_none world None (LossIsTold name packet))
  step_leaves (EntryIsRead entry) caused =
      ordinary (EntryIsRead entry) (λ session ask is. absurd (cc (is))) (told_none world None (EntryIsRead entry))
  step_leaves (EntryIsPut entry) caused =
      ordinary (EntryIsPut entry) (λ session ask is. absurd (cc (is))) (entry_none req world.log entry)
  step_leaves RecoveryTicks caused =
      ordinary RecoveryTicks (λ session ask is. absurd (cc (is))) (told_none world None RecoveryTicks)
  step_leaves WorkIsRetried caused =
      ordinary WorkIsRetried (λ session ask is. absurd (cc (is))) (told_none world None WorkIsRetried)
  step_leaves (ClientAsks number asks) caused = ⊎_elim
      (λ (own : number ≡ req). client_leaves number asks caused own)
      (λ (apart : number ≢ req).
      ordinary (ClientAsks number asks) (λ session ask is. apart (cc (is))) (told_none world None (ClientAsks number asks)))
      (cases_eq number req)
