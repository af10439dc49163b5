-- What a step of a node leaves of the checks: one that has counted an own object has begun a write in the history.
use Rattle.std.proofs.Common.{◌≡◌, ◌≢◌, ⊎_elim, ℕ, zero, suc, ◌+◌, ◌*◌, ◌-◌, ◌<◌, ◌≤◌, ◌^◌, ◌==◌, Bool, true, false, cond, List, [], ◌∷◌}
use Rattle.std.proofs.Common.{◌++◌, length, filter, Contains, Option, Some, None, option_map, refl, sym, ap, subst, pow_pos, arith, ◌∙◌}
use Rattle.std.specs.Prelude.{◌/◌, flat_map, slice_index, unwrap_or}
use Rattle.std.specs.List.{list_any, range_with_len}
use Rattle.std.specs.Option.{option_map_or, option_and_then}
use Rattle.std.specs.Ordering.{nat_cmp}
use Rattle.std.specs.FinMap as tree
use Rattle.std.proofs.Math.Nat.{le-div_iff_mul-le}
use Rattle.std.proofs.lemmas.Bool.{cases_eq, eq-eqb, lt-ltb, or_left, or_right}
use Rattle.std.proofs.lemmas.List.Elements.{Contains-append_right}
use Rattle.std.proofs.lemmas.List.Folds.{list_any-append}
use Rattle.std.proofs.lemmas.Option.{same_Some}
use Rattle.proof_tools.proofs.FiniteMaps.{get-insert_cases}
use Rattle.proof_tools.proofs.Lists.{Contains-head, filter-contains}
use Rattle.object_id.specs.declared.limits.TheConstants.{BLOCK_BYTES}
use Rattle.object_id.specs.declared.node.NodeId.{NodeId}
use Rattle.object_id.specs.Spec.{IsSpec, objects_of}
use Rattle.cluster_script.specs.declared.statement.Statement.{Statement}
use Rattle.cluster_script.specs.declared.statement.Statement.TheVariants as lines
use Rattle.cluster_script.specs.NumberedRequests.{request_at}
use Rattle.cluster_script.specs.Statements.{is_check}
use Rattle.disk_check.specs.Check.{Check, CheckStage, Comparing, WritingBack, Answered, begin_check, begun_check, check_on, value_at_stage}
use Rattle.disk_check.specs.Table.{own_indexes}
use Rattle.disk_history.specs.declared.event.HistEvent.{HistEvent}
use Rattle.gateway.specs.declared.message.Status.{Status}
use Rattle.gateway.specs.Attempt.{Attempt}
use Rattle.gateway.specs.State.{Work}
use Rattle.guest_driver.specs.declared.disk.Disk.{Disk}
use Rattle.inode.specs.Layout.{Content}
use Rattle.message_wire.specs.declared.name.MessageName.{MessageName}
use Rattle.peer_proto.specs.declared.guest.VdiAsk.TheVariants as disk_commands
use Rattle.peer_proto.specs.declared.say.PeerRsp.{PeerRsp}
use Rattle.sheep_node.specs.declared.ask.Ask.TheVariants as asks
use Rattle.sheep_node.specs.declared.check_write.CheckWrite.{CheckWrite}
use Rattle.sheep_node.specs.declared.course.Course.TheVariants.{Checking}
use Rattle.sheep_node.specs.declared.input.Input.TheVariants as inputs
use Rattle.sheep_node.specs.declared.session.Session.{Session}
use Rattle.sheep_node.specs.Changes.{EndsWork, IsSoundStep}
use Rattle.sheep_node.specs.CheckWrites.{check_write_on, has_course_written, write_of_value}
use Rattle.sheep_node.specs.SessionQueues.{session_among}
use Rattle.sheep_node.specs.State.{new_session}
use Rattle.sheep_node.specs.Step.{node_step}
use Rattle.sheep_node.specs.StepState.{StepState}
use Rattle.sheep_node.proofs.GoingOn.{fits_where_awaited}
use Rattle.sheep_node.proofs.OneWorkParts.{Requests}
use Rattle.sheep_world.specs.World.{Host, World, is_host_up, node_at}
use Rattle.sheep_world.specs.Asking.{ask_of_statement}
use Rattle.sheep_world.specs.Began.{Began}
use Rattle.sheep_world.specs.HistoryAdditions.{block_checked, check_write_adds, check_write_by, check_write_grown, is_on_disk}
use Rattle.sheep_world.specs.HistoryAdditions.{replies_grown}
use Rattle.sheep_world.specs.NodeCauses.{NodeCause, GuestAsks, RequestComes, ReplyComes, LossIsTold, EntryIsRead, EntryIsPut, RecoveryTicks}
use Rattle.sheep_world.specs.NodeCauses.{WorkIsRetried, ClientAsks, input_of_cause, IsCause, host_with_node, history_of_cause}
use Rattle.sheep_world.specs.NodeCauses.{world_after_cause}
use Rattle.sheep_world.proofs.StepsByCause.{sound_step}
use Rattle.sheep_world.proofs.WireAtEvents.{is_ready}
use Rattle.overlap_law.specs.MomentChanges.{RunsAreInRange}
use Rattle.overlap_law.specs.RequestsOfScript.{indexes_left}
use Rattle.overlap_law.specs.WholeTables.{TablesAreWhole}
use Rattle.overlap_law.specs.Words.{Hosts}
use Rattle.overlap_law.proofs.AheadOfChecks.{below_count, object_blocks}
use Rattle.overlap_law.proofs.AnswersInMoments.{not_lost}
use Rattle.overlap_law.proofs.ComingWrites.{IsComing, coming}
use Rattle.overlap_law.proofs.CoursesOfAsks.{IsPlacedIn}
use Rattle.overlap_law.proofs.CoursesOfScript.{asked_by, BeganOn, requests_placed}
use Rattle.overlap_law.proofs.CoursesStepOn.{BeginsSo, step-so}
use Rattle.overlap_law.proofs.FoundByReplies.{loss_found, reply_found}
use Rattle.overlap_law.proofs.FoundByWrites.{HoldIfFound, HoldsIfFound, untold_parts}
use Rattle.overlap_law.proofs.ItemsOfRequests.{begins_write_of}
use Rattle.overlap_law.proofs.KnownSteps.{together}
use Rattle.overlap_law.proofs.LongValues.{value-long}
use Rattle.overlap_law.proofs.StandingWriters.{still_begun}
use Rattle.overlap_law.proofs.WholeInRuns.{sound_here}

-- ---- a check that begins has counted none

begun_none : (inode : Content) → has_course_written (Checking (begin_check inode).check) ≡ false
unfolding begin_check
begun_none inode = by_list (own_indexes inode)
  where
    by_list : (own : List ℕ) → has_course_written (Checking (check_on (begun_check inode) own).check) ≡ false
    by_list [] = refl
    by_list (index ∷ later) = refl

pub begins_without : (req : ℕ) (B : Type 0) → BeginsSo req (HoldsIfFound req B)
begins_without req B = record {
  waits = λ ask is. absurd (cc (is));
  commands = λ op is. absurd (cc (is));
  checks = λ inode is. let none = begun_none inode in absurd (cc (none, is));
  objects = λ work is. absurd (cc (is));
  entries = λ entry is. absurd (cc (is));
}

-- ---- a check's write begins a block

pub check_line : (o : Option Statement) → option_and_then ask_of_statement o ≡ Some (asks.Vdi disk_commands.Check)
    → option_map_or is_check o false ≡ true
check_line None asks = absurd (cc (asks))
check_line (Some (lines.Check session)) asks = refl
check_line (Some line) asks = absurd (cc (asks))

module _ (write : CheckWrite) where
  first_begins : (count : ℕ) → 1 ≤ count → is_on_disk write 0 ≡ true
      → list_any (begins_write_of write.req) (flat_map (block_checked write) (filter (is_on_disk write) (range_with_len 0 count))) ≡ true
  first_begins zero some on = absurd (omega (arith, some))
  first_begins (suc count) some on =
      let rest : List ℕ = filter (is_on_disk write) (range_with_len 1 count) in
      subst (λ (b : Bool). list_any (begins_write_of write.req) (flat_map (block_checked write) (cond b (0 ∷ rest) rest)) ≡ true) (sym on)
      (or_left (write.req == write.req) (list_any (begins_write_of write.req) (flat_map (block_checked write) rest))
      (eq-eqb write.req write.req refl))

  -- its object begins inside the disk
  inside_disk : IsSpec write.spec → write.index < objects_of write.spec → is_on_disk write 0 ≡ true
  inside_disk is below =
      let each : ℕ = 2 ^ (write.spec.shift - 9) in
      let blocks : 2 ^ write.spec.shift ≡ 512 * each = object_blocks write.spec is in
      let long : write.index * 2 ^ write.spec.shift ≡ 512 * (write.index * each) = ap (λ n. write.index * n) blocks ∙ grind arith in
      let next : (write.index + 1) * 2 ^ write.spec.shift ≡ write.index * 2 ^ write.spec.shift + 2 ^ write.spec.shift = grind arith in
      let wide : 0 < 2 ^ write.spec.shift = pow_pos write.spec.shift in
      let all : (write.index + 1) * 2 ^ write.spec.shift ≤ write.spec.size + 2 ^ write.spec.shift - 1
      = (le-div_iff_mul-le wide).0 (omega (arith, below)) in
      let whole = is.blocks in
      lt-ltb (write.index * 2 ^ write.spec.shift / BLOCK_BYTES + 0) (write.spec.size / BLOCK_BYTES)
      (omega (arith, long, next, wide, all, whole))

  adds_begin : IsSpec write.spec → length write.value ≡ 2 ^ write.spec.shift → write.index < objects_of write.spec
      → list_any (begins_write_of write.req) (check_write_adds write) ≡ true
  adds_begin is long below =
      let each : ℕ = 2 ^ (write.spec.shift - 9) in
      let blocks : 2 ^ write.spec.shift ≡ 512 * each = object_blocks write.spec is in
      let wide : 0 < 2 ^ write.spec.shift = pow_pos write.spec.shift in
      first_begins (length write.value / BLOCK_BYTES) (omega (arith, long, blocks, wide)) (inside_disk is below)

-- what is left of the own objects of a table is inside it
own_inside : (inode : Content) (before : List ℕ) (index : ℕ) (later : List ℕ) → before ++ index ∷ later ≡ own_indexes inode
    → index < length inode.table
own_inside inode before index later is =
    let among : Contains (own_indexes inode) index
    = subst (λ (list : List ℕ). Contains list index) is (Contains-append_right before (index ∷ later) index (Contains-head index later)) in
    below_count (length inode.table) index
    (filter-contains (λ (k : ℕ). slice_index inode.table k == inode.vid) (range_with_len 0 (length inode.table)) index among).0

-- an open disk is that of a session that is there
session_there : (sessions : tree.FinMap nat_cmp Session) (number : ℕ) (disk : Disk) → (session_among number sessions).disk ≡ Some disk
    → (session : Session) × (tree.get sessions number ≡ Some session) × (session.disk ≡ Some disk)
session_there sessions number disk on = by_got (tree.get sessions number) refl on
  where
    by_got : (o : Option Session) → tree.get sessions number ≡ o → (unwrap_or o new_session).disk ≡ Some disk
        → (session : Session) × (tree.get sessions number ≡ Some session) × (session.disk ≡ Some disk)
    by_got None got on = absurd (cc (on))
    by_got (Some session) got on = (session, got, on)

-- ---- all nodes

module _ (req : ℕ) where
  -- a check of the request that has counted an own object has begun a write
  abbrev pub HasBegunIfFound : List HistEvent → Requests → Type 0
  HasBegunIfFound history = HoldIfFound req (list_any (begins_write_of req) history ≡ true)

  abbrev pub AllBegunIfFound : List HistEvent → Hosts → Type 0
  AllBegunIfFound history hosts = (m : ℕ) (host : Host) → tree.get hosts m ≡ Some host → HasBegunIfFound history host.node.requests

  pub found_grown : (history grown : List HistEvent) (requests : Requests) → HasBegunIfFound history requests
      → HasBegunIfFound (history ++ grown) requests
  found_grown history grown requests are request got is = still_begun req history grown (are request got is)

  pub one_found : (history grown : List HistEvent) (hosts : Hosts) (n : ℕ) (new : Host) → AllBegunIfFound history hosts
      → HasBegunIfFound (history ++ grown) new.node.requests → AllBegunIfFound (history ++ grown) (tree.insert hosts n new)
  one_found history grown hosts n new all own m host got = ⊎_elim
      (λ (same : (m ≡ n) × (new ≡ host)). subst (λ (h : Host). HasBegunIfFound (history ++ grown) h.node.requests) same.1 own)
      (λ (apart : (m ≢ n) × (tree.get hosts m ≡ Some host)).
      found_grown history grown host.node.requests (all m host apart.1))
      (get-insert_cases hosts n new m host got)

module _ (script : List Statement) (range : RunsAreInRange script) (req : ℕ) (world : World) (began : Began script world)
    (history : List HistEvent) (all : AllBegunIfFound req history world.hosts) (whole : TablesAreWhole world.hosts) (n : ℕ) (host : Host)
    (there : tree.get world.hosts n ≡ Some host) (up : is_host_up host ≡ true) where
  abbrev after : NodeCause → World
  after cause = world_after_cause script n host cause world

  abbrev stepped : NodeCause → Host
  stepped cause = host_with_node host (node_step (input_of_cause cause) host.node).node

  abbrev grown : NodeCause → List HistEvent
  grown cause = history_of_cause script cause world (after cause)

  abbrev Leaves : NodeCause → Type 0
  Leaves cause = AllBegunIfFound req (history ++ grown cause) (tree.insert world.hosts n (stepped cause))

  abbrev Behind : NodeCause → Type 0
  Behind cause = HasBegunIfFound req (history ++ grown cause) (node_step (input_of_cause cause) host.node).node.requests

  leaves : (cause : NodeCause) → Behind cause → Leaves cause
  leaves cause own = one_found req history (grown cause) world.hosts n (stepped cause) all own

  before : (cause : NodeCause) → HasBegunIfFound req (history ++ grown cause) host.node.requests
  before cause = found_grown req history (grown cause) host.node.requests (all n host there)

  sound : (cause : NodeCause) → IsCause script world n host cause → IsSoundStep (input_of_cause cause) host.node
  sound cause caused =
      sound_step script world n host cause caused (is_ready script world (together script range world began) n host there up)

  -- ---- a check comes to a write by a reply

  module _ (name : MessageName) (from : NodeId) (rsp : PeerRsp) (caused : IsCause script world n host (ReplyComes name from rsp)) where
    abbrev replied : NodeCause
    replied = ReplyComes name from rsp

    abbrev write : Option CheckWrite
    write = check_write_by name world (after replied)

    write_is : write ≡ check_write_on (inputs.Reply rsp) host.node
    write_is =
        ap (λ (k : ℕ). option_and_then (check_write_on (inputs.Reply rsp)) (node_at k world)) caused.here
        ∙ ap (λ (o : Option Host). option_and_then (check_write_on (inputs.Reply rsp)) (option_map (λ (h : Host). h.node) o)) there

    module _ (comes : CheckWrite) (on : check_write_on (inputs.Reply rsp) host.node ≡ Some comes) (own : comes.req ≡ req) where
      has : IsComing comes host.node
      has = coming comes rsp host.node on

      -- the object is inside the disk
      inside : (stage : CheckStage) → has.check.stage ≡ stage
          → option_map (write_of_value comes.req has.check) (value_at_stage has.bytes has.check.spec stage) ≡ Some comes
          → (disk : Disk) → (session_among has.session host.node.sessions).disk ≡ Some disk → has.check.spec ≡ disk.inode.spec
          → (behind : List ℕ) → behind ++ indexes_left has.check.stage ≡ own_indexes disk.inode
          → IsSpec comes.spec × (comes.index < objects_of comes.spec)
      inside (Comparing index later) at is disk opened spec behind indexes =
          let made = same_Some _ comes is in
          let courses = (sound_here script range world began n host there up).sound_works.courses in
          let is_spec : IsSpec has.check.spec
          = (courses comes.req (record { session = has.session; course = Checking has.check }) has.there).spec in
          let below : index < length disk.inode.table
          = own_inside disk.inode behind index later
          (subst (λ (s : CheckStage). behind ++ indexes_left s ≡ own_indexes disk.inode) at indexes) in
          let (session, got, is_open) = session_there host.node.sessions has.session disk opened in
          let long : length disk.inode.table ≡ objects_of has.check.spec
          = whole.each n host there (not_lost host up) has.session session disk got is_open ∙ ap objects_of (sym spec) in
          subst (λ (w : CheckWrite). IsSpec w.spec × (w.index < objects_of w.spec)) made
          (is_spec, subst (λ (k : ℕ). index < k) long below)
      inside (WritingBack later) at is disk opened spec behind indexes = absurd (cc (is))
      inside Answered at is disk opened spec behind indexes = absurd (cc (is))

      pub starts_begin : list_any (begins_write_of comes.req) (option_map_or (check_write_grown script) write []) ≡ true
      starts_begin =
          let (disk, placed, course) = subst (IsPlacedIn (asked_by script) (BeganOn script world.guests) comes.req host.node.sessions)
          has.there (requests_placed script range world began n host there comes.req) in
          let (is_spec, below) = inside has.check.stage refl has.comes course.on.disk course.on.there course.is.spec course.is.before
          course.is.indexes in
          let adds : list_any (begins_write_of comes.req) (check_write_adds comes) ≡ true
          = adds_begin comes is_spec
          (value-long comes rsp host.node (sound_here script range world began n host there up) on) below in
          let checks : option_map_or is_check (request_at script comes.req) false ≡ true
          = check_line (request_at script comes.req) course.of in
          ap (λ (o : Option CheckWrite). list_any (begins_write_of comes.req) (option_map_or (check_write_grown script) o []))
          (write_is ∙ on)
          ∙ ap (λ (b : Bool). list_any (begins_write_of comes.req) (cond b (check_write_adds comes) [])) checks
          ∙ adds

      begins : list_any (begins_write_of req) (grown replied) ≡ true
      begins =
          subst (λ (k : ℕ). list_any (begins_write_of k) (grown replied) ≡ true) own
          (still_begun comes.req (option_map_or (check_write_grown script) write []) (replies_grown script world write (after replied))
          starts_begin)

    comes_behind : (comes : CheckWrite) → check_write_on (inputs.Reply rsp) host.node ≡ Some comes → comes.req ≡ req → Behind replied
    comes_behind comes on own request got is =
        list_any-append (begins_write_of req) history (grown replied)
        ∙ or_right (list_any (begins_write_of req) history) (list_any (begins_write_of req) (grown replied)) (begins comes on own)

    none_behind : ((comes : CheckWrite) → check_write_on (inputs.Reply rsp) host.node ≡ Some comes → comes.req ≡ req → ⊥) → Behind replied
    none_behind none =
        reply_found req (list_any (begins_write_of req) (history ++ grown replied) ≡ true) host.node (before replied) rsp
        (λ waits.
        let step = sound replied caused in
        fits_where_awaited host.node rsp (step.1.recovers rsp.number waits) step.0) none

    reply_behind : (o : Option CheckWrite) → check_write_on (inputs.Reply rsp) host.node ≡ o → Behind replied
    reply_behind None is = none_behind (λ comes on own. let none = is in absurd (cc (none, on)))
    reply_behind (Some comes) is = ⊎_elim
        (λ (own : comes.req ≡ req). comes_behind comes is own)
        (λ (apart : comes.req ≢ req).
        none_behind (λ other on own.
        apart (ap (λ (w : CheckWrite). w.req) (same_Some comes other (sym is ∙ on)) ∙ own)))
        (cases_eq comes.req req)

  -- ---- every step

  abbrev Begun : NodeCause → Type 0
  Begun cause = list_any (begins_write_of req) (history ++ grown cause) ≡ true

  -- on an input that tells no message
  walked : (cause : NodeCause)
      → ((so_far : StepState) (session number : ℕ) (work : Work) (attempt : Attempt) (status : Status) (bytes : List ℕ) (check : Check)
      → EndsWork (input_of_cause cause) host.node so_far session req number work attempt status (Checking check) bytes → ⊥)
      → Leaves cause
  walked cause untold =
      leaves cause
      (step-so req (HoldsIfFound req (Begun cause)) (input_of_cause cause) host.node
      (untold_parts req (Begun cause) (input_of_cause cause) host.node untold) (λ session ask is. begins_without req (Begun cause))
      (before cause))

  pub step_found : (cause : NodeCause) → IsCause script world n host cause → Leaves cause
  step_found (GuestAsks session other ask) caused =
      walked (GuestAsks session other ask) (λ so_far number count work attempt status bytes check ends. ends.ends.learns.told)
  step_found (RequestComes name to request) caused =
      walked (RequestComes name to request) (λ so_far number count work attempt status bytes check ends. ends.ends.learns.told)
  step_found (ReplyComes name from rsp) caused =
      leaves (ReplyComes name from rsp) (reply_behind name from rsp caused (check_write_on (inputs.Reply rsp) host.node) refl)
  step_found (LossIsTold name packet) caused =
      leaves (LossIsTold name packet)
      (loss_found req (Begun (LossIsTold name packet)) host.node (before (LossIsTold name packet))
      (sound_here script range world began n host there up) name.number)
  step_found (EntryIsRead entry) caused =
      walked (EntryIsRead entry) (λ so_far number count work attempt status bytes check ends. ends.ends.learns.told)
  step_found (EntryIsPut entry) caused =
      walked (EntryIsPut entry) (λ so_far number count work attempt status bytes check ends. ends.ends.learns.told)
  step_found RecoveryTicks caused =
      walked RecoveryTicks (λ so_far number count work attempt status bytes check ends. ends.ends.learns.told)
  step_found WorkIsRetried caused =
      walked WorkIsRetried (λ so_far number count work attempt status bytes check ends. ends.ends.learns.told)
  step_found (ClientAsks req ask) caused =
      walked (ClientAsks req ask) (λ so_far number count work attempt status bytes check ends. ends.ends.learns.told)
