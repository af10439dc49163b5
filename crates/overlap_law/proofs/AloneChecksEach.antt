-- Behind a change in the middle of a step, each block of which a check has begun a write is of a value that is written so: of the checks of
-- the node that steps, and of other nodes.
use Rattle.std.proofs.Common.{◌≡◌, ◌≢◌, ⊎_elim, ℕ, ◌<◌, Bool, true, false, List, ◌++◌, Contains, Some}
use Rattle.overlap_law.proofs.AloneChecksSteps.{ComesBy, goes_so, stays}
use Rattle.std.proofs.Common.{refl, sym, ap, subst, ◌∙◌}
use Rattle.std.specs.List.{list_any}
use Rattle.std.specs.FinMap as tree
use Rattle.std.proofs.lemmas.Bool.{eq-eqb}
use Rattle.std.proofs.lemmas.Option.{same_Some}
use Rattle.proof_tools.proofs.FiniteMaps.{get-insert_same, get-insert_other, get-insert_cases}
use Rattle.proof_tools.proofs.Lists.{list_any-none}
use Rattle.object_id.specs.declared.limits.TheConstants.{OBJECTS_MAX}
use Rattle.cluster_script.specs.declared.statement.Statement.{Statement}
use Rattle.cluster_script.specs.NumberedRequests.{request_at}
use Rattle.cluster_script.specs.Statements.{is_check}
use Rattle.disk_check.specs.Check.{Check, CheckStep}
use Rattle.disk_check.specs.Check.{check_on_done}
use Rattle.disk_history.specs.declared.event.HistEvent.{HistEvent}
use Rattle.disk_history.specs.declared.event.HistEvent.TheVariants.{WriteStart}
use Rattle.peer_proto.specs.declared.guest.DiskAsk.{DiskAsk}
use Rattle.peer_proto.specs.declared.guest.VdiAsk.TheVariants as disk_commands
use Rattle.gateway.specs.Attempt as gateways
use Rattle.gateway.specs.State.{Work}
use Rattle.gateway.specs.declared.message.Status.{Status}
use Rattle.guest_driver.specs.declared.disk.Disk.{Disk}
use Rattle.sheep_node.specs.declared.ask.Ask.{Ask}
use Rattle.sheep_node.specs.declared.ask.Ask.TheVariants as asks
use Rattle.sheep_node.specs.declared.course.Course.{Course}
use Rattle.sheep_node.specs.declared.course.Course.TheVariants.{Waiting, Checking}
use Rattle.sheep_node.specs.declared.course.Request.{Request}
use Rattle.sheep_node.specs.declared.input.Input.TheVariants as inputs
use Rattle.sheep_node.specs.Changes.{EndsWork, Outcome, RequestSteps, DiskBegins, DiskGoesOn, CommandBegins, CommandGoesOn, CommandDecided}
use Rattle.sheep_node.specs.Changes.{CheckBegins, CheckGoesOn, ObjectBegins, ObjectIsDone, EntryBegins, EntryDecided}
use Rattle.sheep_node.specs.SessionQueues.{session_among}
use Rattle.sheep_node.specs.StepState.{StepState}
use Rattle.sheep_world.specs.Effects.{open_disk_at}
use Rattle.sheep_world.specs.NodeCauses.{NodeCause, GuestAsks, RequestComes, ReplyComes, LossIsTold, EntryIsRead, EntryIsPut, RecoveryTicks}
use Rattle.sheep_world.specs.NodeCauses.{WorkIsRetried, ClientAsks, input_of_cause, IsCause, host_with_node}
use Rattle.sheep_world.specs.World.{Host}
use Rattle.sheep_world.specs.RunsWithAsks.{Move}
use Rattle.overlap_law.specs.AloneChecksWritten.{ChecksHaveWritten, IsOfValue, IsWritten}
use Rattle.overlap_law.specs.AloneChecksWritten.{WillBeWritten, IsBeingWritten, WasWritten}
use Rattle.overlap_law.specs.HistoryGrowth.{added_at_cause}
use Rattle.overlap_law.specs.MomentChanges as moments
use Rattle.overlap_law.specs.MomentChanges.{MomentChange, MomentTrail, RunsAreInRange}
use Rattle.overlap_law.specs.Past.{MomentWithPast, run_with_past}
use Rattle.overlap_law.specs.StepMoments.{SteppingNode, IsStepping, StepsByChanges, IsWithinStep, moment_in_step}
use Rattle.overlap_law.proofs.AloneChecksFrames.{carried, itself, still_alone}
use Rattle.overlap_law.proofs.AloneChecksGoing.{check_goes, keeps_disk}
use Rattle.overlap_law.proofs.CheckedMoments.{with_course}
use Rattle.overlap_law.proofs.AloneItemsInSteps.{command_asked, begins_first}
use Rattle.overlap_law.proofs.AloneOnDisks.{begins_none}
use Rattle.overlap_law.proofs.AnswersInMoments.{not_lost}
use Rattle.overlap_law.proofs.CheckedSteps.{goes_on-same}
use Rattle.overlap_law.proofs.CoursesCome.{StepsNow, courses_come}
use Rattle.overlap_law.proofs.DiskEventsOfHolders.{append_none}
use Rattle.overlap_law.proofs.FoundInSteps.{check_line}
use Rattle.overlap_law.proofs.ItemsOfReplies.{is_check_at}
use Rattle.overlap_law.proofs.ItemsOfRequests.{begins_write_of}
use Rattle.overlap_law.proofs.AsksInCauses.{no_such}

module _ (script : List Statement) (range : RunsAreInRange script) (events : List Move) (start : MomentWithPast)
    (ran : run_with_past script events ≡ Some start) (on : SteppingNode) (is : IsStepping script start.world on)
    (by : StepsByChanges on.cause) (so_far next : StepState) (within : IsWithinStep on so_far next)
    (trail : MomentTrail script start (moment_in_step script on start so_far)) where
  abbrev here : MomentWithPast
  here = moment_in_step script on start so_far

  abbrev later : MomentWithPast
  later = moment_in_step script on start next

  abbrev was : Host
  was = host_with_node on.host so_far.node

  abbrev now : Host
  now = host_with_node on.host next.node

  change : MomentChange script start (moment_in_step script on start so_far) (moment_in_step script on start next)
  change = moments.StepGoesOn on so_far next is by within

  up : on.host.is_lost ≡ false
  up = not_lost on.host is.up

  was_there : tree.get (moment_in_step script on start so_far).world.hosts on.n ≡ Some (host_with_node on.host so_far.node)
  was_there = get-insert_same start.world.hosts on.n was

  abbrev base : List HistEvent
  base = start.past.history ++ added_at_cause script start.world on.cause

  -- one that arrives has begun nothing
  pub arrives_first : (req : ℕ) → is_check_at script req ≡ true → (cause : NodeCause) → IsCause script start.world on.n on.host cause
      → (session : ℕ) (ask : Ask) → input_of_cause cause ≡ inputs.Guest req session ask
      → list_any (begins_write_of req) (start.past.history ++ added_at_cause script start.world cause) ≡ false
  arrives_first req checks (GuestAsks asking other what) caused session ask from =
      let own : other ≡ req = cc (from) in
      append_none (begins_write_of req) start.past.history (added_at_cause script start.world (GuestAsks asking other what))
      (begins_first script range events start ran on is by so_far within.leads req asking other what caused own)
      (begins_none script range req checks (open_disk_at asking start.world) other own)
  arrives_first req checks (RequestComes name to asked) caused session ask from = absurd (cc (from))
  arrives_first req checks (ReplyComes name to rsp) caused session ask from = absurd (cc (from))
  arrives_first req checks (LossIsTold name packet) caused session ask from = absurd (cc (from))
  arrives_first req checks (EntryIsRead entry) caused session ask from = absurd (cc (from))
  arrives_first req checks (EntryIsPut entry) caused session ask from = absurd (cc (from))
  arrives_first req checks RecoveryTicks caused session ask from = absurd (cc (from))
  arrives_first req checks WorkIsRetried caused session ask from = absurd (cc (from))
  arrives_first req checks (ClientAsks begins what) caused session ask from =
      let same : begins ≡ req = cc (from) in absurd (no_such caused is_check req same checks)

  arrived_none : (req session : ℕ) → input_of_cause on.cause ≡ inputs.Guest req session (asks.Vdi disk_commands.Check)
      → list_any (begins_write_of req) (start.past.history ++ added_at_cause script start.world on.cause) ≡ false
  arrived_none req session from =
      arrives_first req
      (check_line (request_at script req)
      (command_asked script range events start ran on is by so_far within.leads req session disk_commands.Check from))
      on.cause is.caused session (asks.Vdi disk_commands.Check) from

  module _ (all : ChecksHaveWritten (ComesBy on) (start.past.history ++ added_at_cause script start.world on.cause)
      (moment_in_step script on start so_far).world.hosts (moment_in_step script on start so_far).past.attempts) where
    module _ (req vid block : ℕ) (coded : Bool) (bytes : List ℕ) (request : Request) (opened : Disk) (check : Check)
        (there : tree.get next.node.requests req ≡ Some request)
        (at : (session_among request.session next.node.sessions).disk ≡ Some opened) (course : request.course ≡ Checking check)
        (among : Contains (start.past.history ++ added_at_cause script start.world on.cause) (WriteStart req vid block coded bytes)) where
      abbrev Has : Type 0
      Has = IsOfValue (ComesBy on on.n req) (moment_in_step script on start next).past.attempts next.node opened req check block bytes

      -- what it had
      abbrev HadBy : Check → Type 0
      HadBy old =
          IsOfValue (ComesBy on on.n req) (moment_in_step script on start so_far).past.attempts so_far.node opened req old block bytes

      there_now : tree.get next.node.requests req ≡ Some (record { session = request.session; course = Checking check })
      there_now = with_course (tree.get next.node.requests req) request check there course

      module _ (old : Check)
          (had : tree.get so_far.node.requests req ≡ Some (record { session = request.session; course = Checking old })) where
        at_here : (session_among request.session so_far.node.sessions).disk ≡ Some opened
        at_here = keeps_disk script range events start ran on is by so_far next within trail req request.session old had opened at

        its_value : HadBy old
        its_value =
            all.each on.n was was_there up req vid block coded bytes (record { session = request.session; course = Checking old }) opened
            old
            had at_here refl among

      was_so : tree.get so_far.node.requests req ≡ Some request → Has
      was_so got =
          let had = with_course (tree.get so_far.node.requests req) request check got course in
          let v : HadBy check = its_value check had in
          carried (ComesBy on on.n req) (ComesBy on on.n req) here.past.attempts later.past.attempts so_far.node next.node opened req check
          check block bytes (itself check) v (stays script range events start ran on is by so_far next within trail req
          request.session check had opened at v.index v.value v.few v.vid there_now v.is)

      -- it is of no other course
      own : (session : ℕ) (other : Course)
          → tree.get (tree.insert so_far.node.requests req (record { session = session; course = other })) req ≡ Some request
          → record { session = session; course = other } ≡ request
      own session other got =
          same_Some (record { session = session; course = other }) request
          (sym (get-insert_same so_far.node.requests req (record { session = session; course = other })) ∙ got)

      no_check : (session : ℕ) (other : Course) → ((c : Check) → other ≢ Checking c)
          → tree.get (tree.insert so_far.node.requests req (record { session = session; course = other })) req ≡ Some request → Has
      no_check session other apart got =
          absurd (apart check (ap (λ (r : Request). r.course) (own session other got) ∙ course))

      module _ (session k : ℕ) (work : Work) (attempt : gateways.Attempt) (status : Status) (bytes_given : List ℕ) (old : Check)
          (step : CheckStep)
          (ends : EndsWork (input_of_cause on.cause) on.host.node so_far session req k work attempt status (Checking old) bytes_given)
          (goes : check_on_done bytes_given old ≡ Some step)
          (got : tree.get (tree.insert so_far.node.requests req (record { session = session; course = Checking step.check })) req
          ≡ Some request) where
        its_session : session ≡ request.session
        its_session = ap (λ (r : Request). r.session) (own session (Checking step.check) got)

        its_check : step.check ≡ check
        its_check =
            let both : Checking step.check ≡ Checking check
            = ap (λ (r : Request). r.course) (own session (Checking step.check) got) ∙ course in
            cc (both)

        had_there : tree.get so_far.node.requests req ≡ Some (record { session = request.session; course = Checking old })
        had_there = ends.ends.request ∙ ap (λ (number : ℕ). Some (record { session = number; course = Checking old })) its_session

        there_then : tree.get next.node.requests req ≡ Some (record { session = request.session; course = Checking step.check })
        there_then =
            there_now ∙ ap (λ (c : Check). Some (record { session = request.session; course = Checking c })) (sym its_check)

        goes_on : Has
        goes_on =
            let v : HadBy old = its_value old had_there in
            subst (λ (c : Check).
            IsOfValue (ComesBy on on.n req) (moment_in_step script on start next).past.attempts next.node opened req c block bytes)
            its_check
            (carried (ComesBy on on.n req) (ComesBy on on.n req) here.past.attempts later.past.attempts so_far.node next.node opened req old
            step.check block bytes (goes_on-same bytes_given old step goes) v
            (goes_so script range events start ran on is by so_far next within trail req
            request.session old had_there opened at v.index v.value v.few v.vid session k work attempt status bytes_given step
            ends goes there_then (at_here old had_there) v.spec v.long (check_goes bytes_given old step goes) v.is))

      by_steps : (session : ℕ) (outcome : Outcome) (moved : StepState)
          → RequestSteps (input_of_cause on.cause) on.host.node so_far session req outcome moved
          → tree.get moved.node.requests req ≡ Some request → Has
      by_steps session outcome moved (DiskBegins ask disk had on_disk may) got = no_check session _ (λ c same. cc (same)) got
      by_steps session outcome moved (DiskGoesOn k work attempt status given driver disk step ends on_disk goes) got =
          no_check session _ (λ c same. cc (same)) got
      by_steps session outcome moved (CommandBegins ask step arrival goes) got = no_check session _ (λ c same. cc (same)) got
      by_steps session outcome moved (CommandGoesOn k work attempt status given op step ends goes) got =
          no_check session _ (λ c same. cc (same)) got
      by_steps session outcome moved (CommandDecided entry op step from read had waits goes) got =
          no_check session _ (λ c same. cc (same)) got
      by_steps session outcome moved (CheckBegins inode arrival on_disk) got =
          let none = list_any-none (begins_write_of req) base (WriteStart req vid block coded bytes)
          (arrived_none req session arrival.from) among in
          let same = eq-eqb req req refl in
          absurd (cc (none, same))
      by_steps session outcome moved (CheckGoesOn k work attempt status given old step ends goes) got =
          goes_on session k work attempt status given old step ends goes got
      by_steps session outcome moved (ObjectBegins asked arrival) got = no_check session _ (λ c same. cc (same)) got
      by_steps session outcome moved (ObjectIsDone k work attempt status given asked ends) got = was_so got
      by_steps session outcome moved (EntryBegins entry arrival) got = no_check session _ (λ c same. cc (same)) got
      by_steps session outcome moved (EntryDecided entry awaited from read had waits) got = was_so got

      has_now : Has
      has_now = ⊎_elim
          (λ (old : tree.get so_far.node.requests req ≡ Some request). was_so old)
          (⊎_elim
          (λ (s : StepsNow (input_of_cause on.cause) on.host.node so_far req request). by_steps s.session s.next s.moved s.steps s.there)
          (λ (waits : (ask : DiskAsk) × (request.course ≡ Waiting ask)). let both = sym waits.1 ∙ course in absurd (cc (both))))
          (courses_come req (input_of_cause on.cause) on.host.node so_far next within.change request there)

    -- ---- a check of another node

    module _ (n : ℕ) (host : Host) (apart : n ≢ on.n) (found : tree.get start.world.hosts n ≡ Some host) (host_up : host.is_lost ≡ false)
        (req vid block : ℕ) (coded : Bool) (bytes : List ℕ) (request : Request) (opened : Disk) (check : Check)
        (there : tree.get host.node.requests req ≡ Some request)
        (at : (session_among request.session host.node.sessions).disk ≡ Some opened) (course : request.course ≡ Checking check)
        (among : Contains (start.past.history ++ added_at_cause script start.world on.cause) (WriteStart req vid block coded bytes)) where
      elsewhere_so : (index : ℕ) (value : List ℕ) → index < OBJECTS_MAX → check.vid ≡ opened.inode.vid
          → IsWritten (ComesBy on n req index value) (moment_in_step script on start so_far).past.attempts host.node req check index value
          → IsWritten (ComesBy on n req index value) (moment_in_step script on start next).past.attempts host.node req check index value
      elsewhere_so index value few own (WillBeWritten later_ones stage comes) = WillBeWritten later_ones stage comes
      elsewhere_so index value few own (IsBeingWritten later_ones stage behind only) = IsBeingWritten later_ones stage behind only
      elsewhere_so index value few own (WasWritten behind none alone) =
          WasWritten behind none
          (still_alone script range events start here later ran trail change n host
          (get-insert_other start.world.hosts on.n now n apart ∙ found) host_up req request there opened at check course index value few own
          none alone)

      elsewhere : IsOfValue (ComesBy on n req) (moment_in_step script on start next).past.attempts host.node opened req check block bytes
      elsewhere =
          let v : IsOfValue (ComesBy on n req) here.past.attempts host.node opened req check block bytes
          = all.each n host (get-insert_other start.world.hosts on.n was n apart ∙ found) host_up req vid block coded bytes request opened
          check there at course among in
          carried (ComesBy on n req) (ComesBy on n req) here.past.attempts later.past.attempts host.node host.node opened req check check
          block
          bytes (itself check) v (elsewhere_so v.index v.value v.few v.vid v.is)

    pub goes_on_written : ChecksHaveWritten (ComesBy on) (start.past.history ++ added_at_cause script start.world on.cause)
        (moment_in_step script on start next).world.hosts (moment_in_step script on start next).past.attempts
    goes_on_written = record {
      each = λ n host at_host host_up req vid block coded bytes request opened check there at course among. ⊎_elim
          (λ (mine : (n ≡ on.n) × (now ≡ host)).
          subst (λ (k : ℕ).
          IsOfValue (ComesBy on k req) (moment_in_step script on start next).past.attempts host.node opened req check block bytes)
          (sym mine.0)
          (subst (λ (h : Host).
          IsOfValue (ComesBy on on.n req) (moment_in_step script on start next).past.attempts h.node opened req check block bytes) mine.1
          (has_now req vid block coded bytes request opened check
          (ap (λ (h : Host). tree.get h.node.requests req) mine.1 ∙ there)
          (ap (λ (h : Host). (session_among request.session h.node.sessions).disk) mine.1 ∙ at) course among)))
          (λ (other : (n ≢ on.n) × (tree.get start.world.hosts n ≡ Some host)).
          elsewhere n host other.0 other.1 host_up req vid block coded bytes request opened check there at course among)
          (get-insert_cases start.world.hosts on.n now n host at_host);
    }
