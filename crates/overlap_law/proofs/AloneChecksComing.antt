-- As a node begins its step, each block of which a check has begun a write is of a value that is written so, or that the check comes to
-- write by the step: those that the history gets with the step are of the value of the object that the check compares.
use Rattle.std.proofs.Common.{◌≡◌, ◌≢◌, ⊎_elim, ℕ, ◌+◌, ◌*◌, ◌/◌, ◌^◌, ◌<◌, Bool, false, List, [], ◌∷◌, ◌++◌, length, All, Contains}
use Rattle.std.proofs.Common.{◌≤◌}
use Rattle.std.proofs.Common.{Option, Some, None, option_map, refl, sym, ap, subst, ◌∙◌, arith}
use Rattle.std.specs.Option.{option_map_or, option_and_then}
use Rattle.std.specs.FinMap as tree
use Rattle.std.proofs.lemmas.Bool.{eq-eqb}
use Rattle.std.proofs.lemmas.List.Elements.{All-contains, Contains-append_cases, Contains-append_right}
use Rattle.std.proofs.lemmas.Option.{same_Some}
use Rattle.proof_tools.proofs.FiniteMaps.{get-insert_cases}
use Rattle.proof_tools.proofs.Lists.{Contains-head, Contains-nil, list_any-none}
use Rattle.object_id.specs.declared.entry.VdiSpec.{VdiSpec}
use Rattle.object_id.specs.declared.limits.TheConstants.{BLOCK_BYTES, OBJECTS_MAX}
use Rattle.object_id.specs.Oid.{IsVid}
use Rattle.object_id.specs.Spec.{IsSpec}
use Rattle.cluster_script.specs.declared.statement.Statement.{Statement}
use Rattle.disk_check.specs.Check.{Check, CheckStage, Comparing, WritingBack, Answered, value_at_stage, write_value}
use Rattle.disk_check.specs.Table.{own_indexes}
use Rattle.disk_check.proofs.TableLemmas.{own_indexes-own}
use Rattle.disk_history.specs.declared.event.HistEvent.TheVariants.{WriteStart}
use Rattle.guest_driver.specs.declared.disk.Disk.{Disk}
use Rattle.peer_proto.specs.declared.say.PeerRsp.{PeerRsp}
use Rattle.sheep_node.specs.declared.check_write.CheckWrite.{CheckWrite}
use Rattle.sheep_node.specs.declared.course.Course.TheVariants.{Checking}
use Rattle.sheep_node.specs.declared.course.Request.{Request}
use Rattle.sheep_node.specs.declared.input.Input.TheVariants as inputs
use Rattle.sheep_node.specs.declared.input.Input.{Input}
use Rattle.sheep_node.specs.CheckWrites.{check_write_on, write_of_value}
use Rattle.sheep_node.specs.SessionQueues.{session_among}
use Rattle.sheep_node.specs.State.{Node}
use Rattle.sheep_node.proofs.OneWorkParts.{Requests, Sessions}
use Rattle.sheep_world.specs.Began.{Began}
use Rattle.sheep_world.specs.HistoryAdditions.{check_write_grown, request_grown}
use Rattle.sheep_world.specs.NodeCauses.{NodeCause, GuestAsks, RequestComes, ReplyComes, LossIsTold, EntryIsRead, EntryIsPut, RecoveryTicks}
use Rattle.sheep_world.specs.NodeCauses.{WorkIsRetried, ClientAsks, input_of_cause, IsCause, host_with_node}
use Rattle.sheep_world.specs.World.{Host, node_at}
use Rattle.sheep_world.specs.RunsWithAsks.{Move}
use Rattle.overlap_law.specs.AloneChecksWritten.{ChecksHaveWritten, IsOfValue, NoneComes, WillBeWritten}
use Rattle.overlap_law.specs.HistoryGrowth.{added_at_cause, check_write_at}
use Rattle.overlap_law.specs.MomentChanges as moments
use Rattle.overlap_law.specs.MomentChanges.{MomentChange, RunsAreInRange}
use Rattle.overlap_law.specs.Past.{MomentWithPast, run_with_past}
use Rattle.overlap_law.specs.RequestsOfScript.{IsCheckOf, indexes_left}
use Rattle.overlap_law.specs.StepMoments.{SteppingNode, IsStepping, StepsByChanges, first_in_step, moment_in_step}
use Rattle.overlap_law.specs.Units.{bytes_by}
use Rattle.overlap_law.specs.WrittenBlocks.{blocks_per_object}
use Rattle.overlap_law.proofs.AheadOfChecks.{first_block}
use Rattle.overlap_law.proofs.AloneChecks.{same_node}
use Rattle.overlap_law.proofs.AloneChecksFrames.{stays_there}
use Rattle.overlap_law.proofs.CheckedMoments.{with_course}
use Rattle.overlap_law.proofs.AloneChecksSteps.{ComesBy}
use Rattle.overlap_law.proofs.AloneChecksValues.{IsBlockOfWrite, block_of_write, value_block}
use Rattle.overlap_law.proofs.AloneCopies.{asks_begin_none}
use Rattle.overlap_law.proofs.AnswersInMoments.{not_lost}
use Rattle.overlap_law.proofs.ComingWrites.{IsComing, coming}
use Rattle.overlap_law.proofs.CoursesOfAsks.{IsPlacedIn}
use Rattle.overlap_law.proofs.CoursesOfScript.{asked_by, BeganOn, requests_placed}
use Rattle.overlap_law.proofs.EntryWorks.{known_disk}
use Rattle.overlap_law.proofs.GuestsInMoments.{received_guests}
use Rattle.overlap_law.proofs.ItemsOfRequests.{begins_write_of}
use Rattle.overlap_law.proofs.KnownDisks.{Few, IsKnownInode}
use Rattle.overlap_law.proofs.LongValues.{value-long}
use Rattle.overlap_law.proofs.NoRecoveredDue.{began-with_past}
use Rattle.overlap_law.proofs.OpenInMoments.{received_gateway}
use Rattle.overlap_law.proofs.WholeInRuns.{sound_here}
use Rattle.overlap_law.proofs.WorksInMoments.{well_in_world}

-- the indexes of a disk's own objects are below the most that a disk may have
pub own_few : (disk : Disk) → length disk.inode.table ≤ OBJECTS_MAX → (index : ℕ) → Contains (own_indexes disk.inode) index
    → index < OBJECTS_MAX
own_few disk count index among =
    let all : All Few (own_indexes disk.inode)
    = λ k d within. let here = (own_indexes-own disk.inode k d within).0 in omega (arith, here, count) in
    All-contains Few (own_indexes disk.inode) index all among

-- what a check compares that comes to a write
record IsCompared (write : CheckWrite) (check : Check) : Type 0 where
  later : List ℕ
  stage : check.stage ≡ Comparing write.index later
  spec : write.spec ≡ check.spec

compared_at : (write : CheckWrite) (req : ℕ) (check : Check) (bytes : List ℕ) (stage : CheckStage) → check.stage ≡ stage
    → option_map (write_of_value req check) (value_at_stage bytes check.spec stage) ≡ Some write → IsCompared write check
compared_at write req check bytes (Comparing index later) at is =
    let made = same_Some _ write is in
    record {
      later = later;
      stage = at ∙ ap (λ (w : CheckWrite). Comparing w.index later) made;
      spec = ap (λ (w : CheckWrite). w.spec) (sym made);
    }
compared_at write req check bytes (WritingBack later) at is = absurd (cc (is))
compared_at write req check bytes Answered at is = absurd (cc (is))

module _ (script : List Statement) (range : RunsAreInRange script) (events : List Move) (start : MomentWithPast)
    (ran : run_with_past script events ≡ Some start) (on : SteppingNode) (is : IsStepping script start.world on)
    (by : StepsByChanges on.cause)
    (all : ChecksHaveWritten NoneComes start.past.history start.world.hosts start.past.attempts) where
  began : Began script start.world
  began = began-with_past script events start ran

  abbrev first : MomentWithPast
  first = moment_in_step script on start (first_in_step on)

  abbrev now : Host
  now = host_with_node on.host (first_in_step on).node

  change : MomentChange script start start (moment_in_step script on start (first_in_step on))
  change = moments.StepBegins on is by

  -- ---- a check of a node as the step begins

  module _ (n : ℕ) (origin : Host) (found : tree.get start.world.hosts n ≡ Some origin) (req : ℕ) (request : Request) (opened : Disk)
      (check : Check) (there : tree.get origin.node.requests req ≡ Some request)
      (at : (session_among request.session origin.node.sessions).disk ≡ Some opened) (course : request.course ≡ Checking check) where
    got : tree.get origin.node.requests req ≡ Some (record { session = request.session; course = Checking check })
    got = with_course (tree.get origin.node.requests req) request check there course

    of_disk : IsCheckOf opened check
    of_disk =
        let (begun, placed, is_course) = subst (IsPlacedIn (asked_by script) (BeganOn script start.world.guests) req origin.node.sessions)
        got
        (requests_placed script range start.world began n origin found req) in
        subst (λ (d : Disk). IsCheckOf d check) (same_Some is_course.on.disk opened (sym is_course.on.there ∙ at)) is_course.is

    knows : IsKnownInode (well_in_world script range start.world began n origin found).known opened.inode
    knows = known_disk origin.node (well_in_world script range start.world began n origin found) request.session opened at

    module _ (vid block : ℕ) (coded : Bool) (bytes : List ℕ) (node : Node) where
      abbrev Has : Type 0
      Has = IsOfValue (ComesBy on n req) (moment_in_step script on start (first_in_step on)).past.attempts node opened req check block bytes

      -- by a write to which a check comes
      module _ (rsp : PeerRsp) (from : input_of_cause on.cause ≡ inputs.Reply rsp) (write : CheckWrite)
          (comes : check_write_on (inputs.Reply rsp) on.host.node ≡ Some write) (b : IsBlockOfWrite script write req block bytes) where
        has : IsComing write on.host.node
        has = coming write rsp on.host.node comes

        abbrev other : Request
        other = record { session = has.session; course = Checking has.check }

        other_there : tree.get on.host.node.requests req ≡ Some (record { session = has.session; course = Checking has.check })
        other_there = ap (tree.get on.host.node.requests) (sym b.own) ∙ has.there

        nodes : n ≡ on.n
        nodes =
            (same_node script range start.world began req n origin found request there opened at on.n on.host is.there other other_there).0

        hosts : origin ≡ on.host
        hosts = same_Some origin on.host (sym found ∙ ap (tree.get start.world.hosts) nodes ∙ is.there)

        check_so : check ≡ has.check
        check_so =
            let own : record { session = request.session; course = Checking check } ≡ other
            = same_Some (record { session = request.session; course = Checking check }) other
            (sym got ∙ ap (λ (h : Host). tree.get h.node.requests req) hosts ∙ other_there) in
            let both : Checking check ≡ Checking has.check = ap (λ (r : Request). r.course) own in
            cc (both)

        compared : IsCompared write check
        compared =
            subst (IsCompared write) (sym check_so)
            (compared_at write write.req has.check has.bytes has.check.stage refl has.comes)

        own : Contains (own_indexes opened.inode) write.index
        own =
            let left : of_disk.before ++ write.index ∷ compared.later ≡ own_indexes opened.inode
            = ap (λ (s : CheckStage). of_disk.before ++ indexes_left s) (sym compared.stage) ∙ of_disk.indexes in
            subst (λ (list : List ℕ). Contains list write.index) left
            (Contains-append_right of_disk.before (write.index ∷ compared.later) write.index
            (Contains-head write.index compared.later))

        few : write.index < OBJECTS_MAX
        few = own_few opened knows.count write.index own

        spec_so : IsSpec check.spec
        spec_so = subst IsSpec (sym of_disk.spec) knows.disk.spec_valid

        long : length write.value ≡ 2 ^ check.spec.shift
        long =
            value-long write rsp on.host.node (sound_here script range start.world began on.n on.host is.there is.up) comes
            ∙ ap (λ (s : VdiSpec). 2 ^ s.shift) compared.spec

        block_so : block ≡ write.index * blocks_per_object check.spec + b.unit
        block_so =
            sym b.at ∙ ap (λ (s : VdiSpec). write.index * 2 ^ s.shift / BLOCK_BYTES + b.unit) compared.spec
            ∙ ap (λ (k : ℕ). k + b.unit) (sym (first_block check.spec write.index spec_so))

        bytes_so : bytes ≡ bytes_by b.unit (write_value check write.index write.value)
        bytes_so =
            sym b.same
            ∙ sym (value_block check write.index write.value (subst IsVid (sym of_disk.vid) knows.disk.id) spec_so few long b.unit)

        by_write : Has
        by_write = record {
          index = write.index;
          unit = b.unit;
          value = write.value;
          vid = of_disk.vid;
          spec = of_disk.spec;
          own = own;
          few = few;
          long = long;
          inside = subst (λ (k : ℕ). b.unit < k / BLOCK_BYTES) long b.inside;
          at = block_so;
          same = bytes_so;
          is = WillBeWritten compared.later compared.stage (record {
            here = nodes;
            write = write;
            comes = ap (λ (i : Input). check_write_on i on.host.node) from ∙ comes;
            own = b.own;
            place = refl;
            what = refl;
          });
        }

      by_found : (rsp : PeerRsp) → input_of_cause on.cause ≡ inputs.Reply rsp → (o : Option CheckWrite)
          → check_write_on (inputs.Reply rsp) on.host.node ≡ o
          → Contains (option_map_or (check_write_grown script) o []) (WriteStart req vid block coded bytes) → Has
      by_found rsp from None comes among = absurd (Contains-nil (WriteStart req vid block coded bytes) among)
      by_found rsp from (Some write) comes among =
          by_write rsp from write comes (block_of_write script write req vid block coded bytes among)

      by_cause : (cause : NodeCause) → on.cause ≡ cause → IsCause script start.world on.n on.host cause
          → Contains (added_at_cause script start.world cause) (WriteStart req vid block coded bytes) → Has
      by_cause (GuestAsks session asking ask) so caused among =
          let none = list_any-none (begins_write_of req) (request_grown script start.world session (Some asking))
          (WriteStart req vid block coded bytes)
          (asks_begin_none script range start.world began req n origin found request there on.n on.host session asking ask caused) among in
          let same = eq-eqb req req refl in
          absurd (cc (none, same))
      by_cause (RequestComes name to asked) so caused among = absurd (Contains-nil (WriteStart req vid block coded bytes) among)
      by_cause (ReplyComes name from rsp) so caused among =
          let here : check_write_at start.world (ReplyComes name from rsp) ≡ check_write_on (inputs.Reply rsp) on.host.node
          = ap (λ (k : ℕ). option_and_then (check_write_on (inputs.Reply rsp)) (node_at k start.world)) caused.here
          ∙ ap (λ (o : Option Host). option_and_then (check_write_on (inputs.Reply rsp)) (option_map (λ (h : Host). h.node) o)) is.there in
          by_found rsp (ap (λ (c : NodeCause). input_of_cause c) so) (check_write_on (inputs.Reply rsp) on.host.node) refl
          (subst (λ (o : Option CheckWrite).
          Contains (option_map_or (check_write_grown script) o []) (WriteStart req vid block coded bytes)) here among)
      by_cause (LossIsTold name packet) so caused among = absurd (Contains-nil (WriteStart req vid block coded bytes) among)
      by_cause (EntryIsRead entry) so caused among = absurd (Contains-nil (WriteStart req vid block coded bytes) among)
      by_cause (EntryIsPut entry) so caused among = absurd (Contains-nil (WriteStart req vid block coded bytes) among)
      by_cause RecoveryTicks so caused among = absurd (Contains-nil (WriteStart req vid block coded bytes) among)
      by_cause WorkIsRetried so caused among = absurd (Contains-nil (WriteStart req vid block coded bytes) among)
      by_cause (ClientAsks number asks) so caused among = absurd (Contains-nil (WriteStart req vid block coded bytes) among)

      comes_now : Contains (added_at_cause script start.world on.cause) (WriteStart req vid block coded bytes) → Has
      comes_now = by_cause on.cause refl is.caused

  -- ---- each check

  module _ (n : ℕ) (host : Host) (at_host : tree.get (moment_in_step script on start (first_in_step on)).world.hosts n ≡ Some host)
      (up : host.is_lost ≡ false) (origin : Host) (found : tree.get start.world.hosts n ≡ Some origin)
      (was_up : origin.is_lost ≡ false) (gateway : host.node.gateway ≡ origin.node.gateway)
      (sessions : host.node.sessions ≡ origin.node.sessions) (requests : host.node.requests ≡ origin.node.requests)
      (req vid block : ℕ) (coded : Bool) (bytes : List ℕ) (request : Request) (opened : Disk) (check : Check)
      (there : tree.get host.node.requests req ≡ Some request)
      (at : (session_among request.session host.node.sessions).disk ≡ Some opened) (course : request.course ≡ Checking check)
      (among : Contains (start.past.history ++ added_at_cause script start.world on.cause) (WriteStart req vid block coded bytes)) where
    begins_so : IsOfValue (ComesBy on n req) (moment_in_step script on start (first_in_step on)).past.attempts host.node opened req check
        block bytes
    begins_so = ⊎_elim
        (λ (old : Contains start.past.history (WriteStart req vid block coded bytes)).
        stays_there script range events start start first ran moments.Still change n host at_host up req request there opened at check
        course
        all (ComesBy on n req) origin found was_up gateway sessions requests vid block coded bytes old)
        (λ (new : Contains (added_at_cause script start.world on.cause) (WriteStart req vid block coded bytes)).
        comes_now n origin found req request opened check (ap (λ (r : Requests). tree.get r req) (sym requests) ∙ there)
        (ap (λ (s : Sessions). (session_among request.session s).disk) (sym sessions) ∙ at) course vid block coded bytes host.node new)
        (Contains-append_cases start.past.history (added_at_cause script start.world on.cause) (WriteStart req vid block coded bytes) among)

  pub first_written : ChecksHaveWritten (ComesBy on) (start.past.history ++ added_at_cause script start.world on.cause)
      (moment_in_step script on start (first_in_step on)).world.hosts (moment_in_step script on start (first_in_step on)).past.attempts
  first_written = record {
    each = λ n host at_host up req vid block coded bytes request opened check there at course among. ⊎_elim
        (λ (mine : (n ≡ on.n) × (now ≡ host)).
        let guests = received_guests on.cause on.host.node by in
        begins_so n host at_host up on.host (ap (tree.get start.world.hosts) mine.0 ∙ is.there) (not_lost on.host is.up)
        (ap (λ (h : Host). h.node.gateway) (sym mine.1) ∙ received_gateway on.cause on.host.node by)
        (ap (λ (h : Host). h.node.sessions) (sym mine.1) ∙ guests.0) (ap (λ (h : Host). h.node.requests) (sym mine.1) ∙ guests.1) req vid
        block coded bytes request opened check there at course among)
        (λ (other : (n ≢ on.n) × (tree.get start.world.hosts n ≡ Some host)).
        begins_so n host at_host up host other.1 up refl refl refl req vid block coded bytes request opened check there at course among)
        (get-insert_cases start.world.hosts on.n now n host at_host);
  }
