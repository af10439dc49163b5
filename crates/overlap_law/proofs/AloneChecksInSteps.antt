-- So at each point of a node's step each block of which a check has begun a write is of a value that is written so, or that the check comes
-- to write by the step; and at its end none comes to a write any more.
use Rattle.std.proofs.Common.{◌≡◌, ⊎_elim, ℕ, ◌<◌, Bool, List, ◌++◌, Contains, Some, refl, sym, ap, subst, ◌∙◌, arith}
use Rattle.std.specs.Prelude.{flat_map}
use Rattle.std.specs.List.Sorted.{IsStrictlyIncreasing}
use Rattle.std.specs.FinMap as tree
use Rattle.std.proofs.lemmas.Bool.{eq-eqb}
use Rattle.std.proofs.lemmas.List.Elements.{Contains-append_cases}
use Rattle.std.proofs.lemmas.Option.{same_Some}
use Rattle.proof_tools.proofs.FiniteMaps.{get-insert_same}
use Rattle.proof_tools.proofs.Lists.{Contains-head, list_any-none}
use Rattle.cluster_script.specs.declared.statement.Statement.{Statement}
use Rattle.disk_check.specs.Check.{Check, CheckStage, Comparing, left_of, write_back_step}
use Rattle.disk_check.specs.Value.{pieces_in}
use Rattle.disk_check.proofs.TableLemmas.{own_indexes-ascend}
use Rattle.disk_history.specs.declared.event.HistEvent.{HistEvent}
use Rattle.disk_history.specs.declared.event.HistEvent.TheVariants.{WriteStart}
use Rattle.sheep_node.specs.declared.check_write.CheckWrite.{CheckWrite}
use Rattle.sheep_node.specs.declared.course.Course.{Course}
use Rattle.sheep_node.specs.declared.course.Course.TheVariants.{Checking}
use Rattle.sheep_node.specs.declared.course.Request.{Request}
use Rattle.sheep_node.specs.declared.input.Input.{Input}
use Rattle.sheep_node.specs.declared.input.Input.TheVariants as inputs
use Rattle.sheep_node.specs.Changes as changes
use Rattle.sheep_node.specs.CheckWrites.{check_write_on}
use Rattle.sheep_node.specs.State.{Node}
use Rattle.sheep_node.specs.Step.{node_step}
use Rattle.sheep_node.specs.StepState.{StepState}
use Rattle.sheep_world.specs.Began.{Began}
use Rattle.sheep_world.specs.NodeCauses.{input_of_cause, host_with_node}
use Rattle.sheep_world.specs.World.{Host}
use Rattle.sheep_world.specs.RunsWithAsks.{Move}
use Rattle.overlap_law.specs.AloneChecksWritten.{ChecksHaveWritten, IsOfValue, IsWritten, NoneComes}
use Rattle.overlap_law.specs.AloneChecksWritten.{WillBeWritten, IsBeingWritten, WasWritten}
use Rattle.overlap_law.specs.Attempts.{AttemptRecord}
use Rattle.overlap_law.specs.HistoryGrowth.{added_at_cause, added_by_reply, check_write_at, world_at_cause}
use Rattle.overlap_law.specs.MomentChanges.{RunsAreInRange}
use Rattle.overlap_law.specs.Past.{MomentWithPast, run_with_past}
use Rattle.overlap_law.specs.RequestsOfScript.{indexes_left}
use Rattle.overlap_law.specs.StepMoments.{SteppingNode, IsStepping, StepsByChanges, LeadsInStep, first_in_step, last_in_step}
use Rattle.overlap_law.specs.StepMoments.{moment_in_step}
use Rattle.overlap_law.proofs.AheadOfChecks.{left_ascends}
use Rattle.overlap_law.proofs.AloneChecksComing.{first_written}
use Rattle.overlap_law.proofs.AloneChecksEach.{goes_on_written}
use Rattle.overlap_law.proofs.AloneChecksFrames.{carried, itself}
use Rattle.overlap_law.proofs.AloneChecksSteps.{ComesBy}
use Rattle.overlap_law.proofs.CoursesOfAsks.{IsPlacedIn}
use Rattle.overlap_law.proofs.CoursesOfScript.{asked_by, BeganOn, requests_placed}
use Rattle.overlap_law.proofs.CoursesStepOn.{IsKeptByCourses, IsSoAmong, change_so, ended_so}
use Rattle.overlap_law.proofs.HistoryInMoments.{history_so}
use Rattle.overlap_law.proofs.ItemsOfReplies as replied
use Rattle.overlap_law.proofs.ItemsOfRequests.{begins_write_of}
use Rattle.overlap_law.proofs.MomentTrails.{leads_joined, to_point}
use Rattle.overlap_law.proofs.NoRecoveredDue.{began-with_past}
use Rattle.overlap_law.proofs.RepliesToChecks.{idle, reply-so}

-- ---- where a check comes to a write, the object isn't left at the end of the step

-- a check has nothing to compare at an index
abbrev IsNotLeft : ℕ → Course → Type 0
IsNotLeft index course = (check : Check) → course ≡ Checking check → Contains (left_of check.stage) index → ⊥

not_left_parts : (req index : ℕ) → IsKeptByCourses req (IsNotLeft index) inputs.RecoverTick idle
not_left_parts req index = record {
  begins = λ ask driver was check same among. cc (same);
  drives = λ driver next was check same among. cc (same);
  commands = λ op next was check same among. cc (same);
  checks = λ so_far session number work attempt status bytes check step ends goes was. absurd ends.ends.learns.told;
}

module _ (write : CheckWrite) (node : Node)
    (apart : (session : ℕ) (check : Check) (index : ℕ) (later : List ℕ)
    → tree.get node.requests write.req ≡ Some (record { session = session; course = Checking check })
    → check.stage ≡ Comparing index later → Contains later index → ⊥) where
  left_then : (session : ℕ) (bytes : List ℕ) (check : Check) (index : ℕ) (later : List ℕ)
      → tree.get node.requests write.req ≡ Some (record { session = session; course = Checking check })
      → check.stage ≡ Comparing index later → write.index ≡ index
      → IsSoAmong write.req (IsNotLeft write.index) (tree.insert node.requests write.req (record {
        session = session;
        course = Checking (write_back_step check index later (pieces_in check.spec bytes)).check;
      }))
  left_then session bytes check index later got at same request has other course among =
      let put : Request = record {
        session = session;
        course = Checking (write_back_step check index later (pieces_in check.spec bytes)).check;
      } in
      let is : put ≡ request = same_Some put request (sym (get-insert_same node.requests write.req put) ∙ has) in
      let both : Checking (write_back_step check index later (pieces_in check.spec bytes)).check ≡ Checking other
      = ap (λ (r : Request). r.course) is ∙ course in
      let own : (write_back_step check index later (pieces_in check.spec bytes)).check ≡ other = cc (both) in
      let behind : Contains later write.index
      = subst (λ (c : Check). Contains (left_of c.stage) write.index) (sym own) among in
      apart session check index later got at (subst (Contains later) same behind)

  pub not_left : (input : Input) → check_write_on input node ≡ Some write
      → IsSoAmong write.req (IsNotLeft write.index) (node_step input node).node.requests
  unfolding check_write_on
  not_left (inputs.Reply rsp) is =
      reply-so (IsSoAmong write.req (IsNotLeft write.index))
      (change_so write.req (IsNotLeft write.index) inputs.RecoverTick idle (not_left_parts write.req write.index)
      (λ session ask from. absurd (cc (from))))
      (ended_so write.req (IsNotLeft write.index)) write node
      (λ session bytes check index later got at same spec. left_then session bytes check index later got at same) rsp is
  not_left (inputs.Guest req session ask) is = absurd (cc (is))
  not_left (inputs.Request request) is = absurd (cc (is))
  not_left (inputs.Lost lost) is = absurd (cc (is))
  not_left (inputs.LogEntry entry) is = absurd (cc (is))
  not_left inputs.Put is = absurd (cc (is))
  not_left inputs.RecoverTick is = absurd (cc (is))
  not_left inputs.RetryTick is = absurd (cc (is))
  not_left (inputs.Back entries) is = absurd (cc (is))

-- ---- a step

module _ (script : List Statement) (range : RunsAreInRange script) (events : List Move) (start : MomentWithPast)
    (ran : run_with_past script events ≡ Some start) (on : SteppingNode) (is : IsStepping script start.world on)
    (by : StepsByChanges on.cause)
    (all : ChecksHaveWritten NoneComes start.past.history start.world.hosts start.past.attempts) where
  began : Began script start.world
  began = began-with_past script events start ran

  abbrev base : List HistEvent
  base = start.past.history ++ added_at_cause script start.world on.cause

  from_base : {so_far : StepState} → LeadsInStep on (first_in_step on) so_far → LeadsInStep on so_far (last_in_step on)
      → ChecksHaveWritten (ComesBy on) (start.past.history ++ added_at_cause script start.world on.cause)
      (moment_in_step script on start so_far).world.hosts (moment_in_step script on start so_far).past.attempts
  from_base changes.Still rest = first_written script range events start ran on is by all
  from_base (changes.Then {so_far} {next} leads change) rest =
      let left : LeadsInStep on so_far (last_in_step on) = leads_joined (changes.Then changes.Still change) rest in
      goes_on_written script range events start ran on is by so_far next (record { leads = leads; change = change; rest = rest })
      (to_point script start on is by leads left) (from_base leads left)

  -- what it replies begins no write
  pub starts_before : (so_far : StepState) (req vid block : ℕ) (coded : Bool) (bytes : List ℕ)
      → Contains (moment_in_step script on start so_far).past.history (WriteStart req vid block coded bytes)
      → Contains (start.past.history ++ added_at_cause script start.world on.cause) (WriteStart req vid block coded bytes)
  starts_before so_far req vid block coded bytes among =
      let event : HistEvent = WriteStart req vid block coded bytes in
      let told : List HistEvent = flat_map (added_by_reply script start.world on.cause) so_far.outputs.replies in ⊎_elim
      (λ (old : Contains base event). old)
      (λ (new : Contains told event).
      let none = list_any-none (begins_write_of req) told event
      (replied.replies_none script req (world_at_cause start.world on.cause) (check_write_at start.world on.cause) so_far.outputs.replies)
      new in
      let same = eq-eqb req req refl in
      absurd (cc (none, same)))
      (Contains-append_cases base told event
      (subst (λ (history : List HistEvent). Contains history event) (history_so script range start began on by so_far) among))

  pub step_written : (so_far : StepState) → LeadsInStep on (first_in_step on) so_far → LeadsInStep on so_far (last_in_step on)
      → ChecksHaveWritten (ComesBy on) (moment_in_step script on start so_far).past.history
      (moment_in_step script on start so_far).world.hosts (moment_in_step script on start so_far).past.attempts
  step_written so_far leads rest = record {
    each = λ n host at_host up req vid block coded bytes request opened check there at course among.
        (from_base leads rest).each n host at_host up req vid block coded bytes request opened check there at course
        (starts_before so_far req vid block coded bytes among);
  }

  -- ---- its end

  -- what a check compares isn't left behind it
  apart_at_start : (req session : ℕ) (check : Check) (index : ℕ) (later : List ℕ)
      → tree.get on.host.node.requests req ≡ Some (record { session = session; course = Checking check })
      → check.stage ≡ Comparing index later → Contains later index → ⊥
  apart_at_start req session check index later got stage among =
      let (disk, placed, course) = subst (IsPlacedIn (asked_by script) (BeganOn script start.world.guests) req on.host.node.sessions) got
      (requests_placed script range start.world began on.n on.host is.there req) in
      let all = subst IsStrictlyIncreasing (sym course.is.indexes) (own_indexes-ascend course.on.disk.inode) in
      let left = subst (λ (s : CheckStage). IsStrictlyIncreasing (course.is.before ++ indexes_left s)) stage all in
      let less : index < index = left_ascends course.is.before index later left index among in
      omega (arith, less)

  module _ (n : ℕ) (host : Host) (at_host : tree.get (moment_in_step script on start (last_in_step on)).world.hosts n ≡ Some host)
      (req : ℕ) (request : Request) (there : tree.get host.node.requests req ≡ Some request) (check : Check)
      (course : request.course ≡ Checking check) where
    none_left : (index : ℕ) (value later : List ℕ) → check.stage ≡ Comparing index later → ComesBy on n req index value → ⊥
    none_left index value later stage comes =
        let last : Host = host_with_node on.host (last_in_step on).node in
        let its : last ≡ host
        = same_Some last host
        (sym (get-insert_same start.world.hosts on.n last) ∙ ap (tree.get (moment_in_step script on start (last_in_step on)).world.hosts)
        (sym comes.here) ∙ at_host) in
        let got : tree.get (last_in_step on).node.requests comes.write.req ≡ Some request
        = ap (tree.get (last_in_step on).node.requests) comes.own ∙ ap (λ (h : Host). tree.get h.node.requests req) its ∙ there in
        not_left comes.write on.host.node
        (apart_at_start comes.write.req)
        (input_of_cause on.cause) comes.comes request got check course
        (subst (Contains (left_of check.stage)) (sym comes.place)
        (subst (λ (s : CheckStage). Contains (left_of s) index) (sym stage) (Contains-head index later)))

    ends_so : (attempts : List AttemptRecord) (index : ℕ) (value : List ℕ)
        → IsWritten (ComesBy on n req index value) attempts host.node req check index value
        → IsWritten ⊥ attempts host.node req check index value
    ends_so attempts index value (WillBeWritten later stage comes) = absurd (none_left index value later stage comes)
    ends_so attempts index value (IsBeingWritten later stage apart only) = IsBeingWritten later stage apart only
    ends_so attempts index value (WasWritten apart none alone) = WasWritten apart none alone

  pub last_written : LeadsInStep on (first_in_step on) (last_in_step on)
      → ChecksHaveWritten NoneComes (moment_in_step script on start (last_in_step on)).past.history
      (moment_in_step script on start (last_in_step on)).world.hosts (moment_in_step script on start (last_in_step on)).past.attempts
  last_written leads = record {
    each = λ n host at_host up req vid block coded bytes request opened check there at course among.
        let attempts = (moment_in_step script on start (last_in_step on)).past.attempts in
        let v : IsOfValue (ComesBy on n req) attempts host.node opened req check block bytes
        = (step_written (last_in_step on) leads changes.Still).each n host at_host up req vid block coded bytes request opened check there
        at
        course among in
        carried (ComesBy on n req) (NoneComes n req) attempts attempts host.node host.node opened req check check block bytes (itself check)
        v
        (ends_so n host at_host req request there check course attempts v.index v.value v.is);
  }
