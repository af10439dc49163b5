-- So each block in which a check has an item is alone behind the reply to it: as a change of a moment says it, on the way of an event too.
use Rattle.std.proofs.Common.{◌≡◌, ◌≢◌, ℕ, Bool, true, false, List, [], ◌∷◌, ◌++◌, Contains, Option, Some, refl, sym, ap, subst, ◌∙◌}
use Rattle.std.specs.Prelude.{flat_map}
use Rattle.std.specs.List.{list_any}
use Rattle.std.specs.FinMap as tree
use Rattle.std.proofs.lemmas.Option.{same_Some}
use Rattle.cluster_script.specs.declared.statement.Statement.{Statement}
use Rattle.cluster_script.specs.NumberedRequests.{request_at}
use Rattle.disk_check.specs.Check.{Check, CheckStage, CheckStep, Comparing, WritingBack, Answered, check_done_at, check_on_done}
use Rattle.disk_check.specs.Check.{read_copies}
use Rattle.disk_check.specs.Check.{write_value}
use Rattle.disk_check.specs.Value.{pieces_in, value_of}
use Rattle.disk_history.specs.declared.event.HistEvent.{HistEvent}
use Rattle.vdi_directory.specs.Decisions.{log_effects}
use Rattle.peer_proto.specs.declared.guest.GuestRsp.{GuestRsp}
use Rattle.peer_proto.specs.declared.guest.VdiAsk.{VdiAsk}
use Rattle.peer_proto.specs.declared.guest.VdiAsk.TheVariants as disk_commands
use Rattle.gateway.specs.Attempt as gateways
use Rattle.gateway.specs.State.{Work}
use Rattle.gateway.specs.declared.message.Status.{Status}
use Rattle.vdi_ops.specs.Op.{Op}
use Rattle.sheep_node.specs.declared.ask.Ask.{Ask}
use Rattle.sheep_node.specs.declared.ask.Ask.TheVariants as asks
use Rattle.sheep_node.specs.declared.course.Course.{Course}
use Rattle.sheep_node.specs.declared.course.Course.TheVariants.{Waiting, Driving, Commanding, Checking, DoingWork, AwaitingDecision}
use Rattle.sheep_node.specs.declared.input.Input.TheVariants as inputs
use Rattle.sheep_node.specs.Changes.{EndsWork, Outcome, ToReply, ToWork, RequestSteps, DiskBegins, DiskGoesOn, CommandBegins}
use Rattle.sheep_node.specs.Changes.{outcome_of_check}
use Rattle.sheep_node.specs.Changes.{CommandGoesOn, CommandDecided, CheckBegins, CheckGoesOn, ObjectBegins, ObjectIsDone, EntryBegins}
use Rattle.sheep_node.specs.Changes.{EntryDecided}
use Rattle.sheep_node.specs.SessionQueues.{session_among}
use Rattle.sheep_node.specs.StepState.{StepState}
use Rattle.sheep_world.specs.Began.{Began}
use Rattle.sheep_world.specs.NodeCauses.{input_of_cause}
use Rattle.sheep_world.specs.World.{Host}
use Rattle.sheep_world.specs.RunsWithAsks.{Move}
use Rattle.overlap_law.specs.Headline.{ledger_of}
use Rattle.overlap_law.specs.HistoryGrowth.{added_at_cause, added_by_reply, check_write_at, world_at_cause}
use Rattle.overlap_law.specs.HistoryStands.{CallsAvailable}
use Rattle.overlap_law.specs.KeptHistory.{RepliesAreAlone}
use Rattle.overlap_law.specs.MomentChanges.{IsOnTheWay, MomentTrail, RunsAreInRange}
use Rattle.overlap_law.specs.Past.{MomentWithPast, run_with_past}
use Rattle.overlap_law.specs.PastWords.{is_refusal}
use Rattle.overlap_law.specs.RepliedChecks.{RepliesToChecksAreAlone}
use Rattle.overlap_law.specs.RequestsOfScript.{IsCourseOfAsk, IsStageOfAsk}
use Rattle.overlap_law.specs.StayingBlocks.{IsAloneWhereWritten}
use Rattle.overlap_law.specs.StepMoments.{SteppingNode, IsStepping, StepsByChanges, IsWithinStep, attempts_of_change, moment_in_step}
use Rattle.overlap_law.specs.ToCome.{TablesStayTheInodes}
use Rattle.overlap_law.proofs.AloneChecksEach.{arrives_first}
use Rattle.overlap_law.proofs.AloneChecksReplied.{check_alone_there}
use Rattle.overlap_law.proofs.AloneItemsInSteps.{course_in_step}
use Rattle.overlap_law.proofs.AloneStepsOnDisks.{check_asked}
use Rattle.overlap_law.proofs.CoursesOfScript.{asked_by}
use Rattle.overlap_law.proofs.DiskEventsOfHolders.{append_none}
use Rattle.overlap_law.proofs.DisksOfWriters.{stage_none}
use Rattle.overlap_law.proofs.HistoryInMoments.{history_so}
use Rattle.overlap_law.proofs.HistoryTests.{test_at_start, test_before}
use Rattle.overlap_law.proofs.ItemsOfReplies as replied
use Rattle.overlap_law.proofs.ItemsOfReplies.{is_check_at}
use Rattle.overlap_law.proofs.ItemsOfRequests.{begins_write_of, none_behind, none_by_history}
use Rattle.overlap_law.proofs.NoRecoveredDue.{began-with_past}
use Rattle.overlap_law.proofs.ReadsToldTables.{inodes_along}
use Rattle.overlap_law.proofs.RepliedAlone.{IsAloneBehind, TablesStay, replies-by_tables}
use Rattle.overlap_law.proofs.RepliedItems.{none_alone}
use Rattle.overlap_law.proofs.RepliedNow.{IsRepliedBy, replied_by}
use Rattle.overlap_law.proofs.CoursesOfAsks.{asked_none}

module _ (script : List Statement) (range : RunsAreInRange script) (events : List Move) (start : MomentWithPast)
    (ran : run_with_past script events ≡ Some start) (on : SteppingNode) (is : IsStepping script start.world on)
    (by : StepsByChanges on.cause) (so_far next : StepState) (within : IsWithinStep on so_far next)
    (trail : MomentTrail script start (moment_in_step script on start so_far)) (good_id : ℕ → Bool)
    (tables : TablesStayTheInodes (log_effects (moment_in_step script on start so_far).world.log) good_id
    (moment_in_step script on start so_far).world.hosts (moment_in_step script on start so_far).past.attempts) where
  began : Began script start.world
  began = began-with_past script events start ran

  abbrev base : List HistEvent
  base = start.past.history ++ added_at_cause script start.world on.cause

  abbrev told : List HistEvent
  told = flat_map (added_by_reply script start.world on.cause) so_far.outputs.replies

  abbrev IsAlone : ℕ → Type 0
  IsAlone req =
      IsAloneWhereWritten (log_effects (moment_in_step script on start next).world.log) good_id
      (moment_in_step script on start next).world.hosts (moment_in_step script on start next).past.attempts
      (ledger_of (moment_in_step script on start so_far).past.history) req

  module _ (none : (host : Host) → attempts_of_change host so_far next within.change ≡ []) (req : ℕ)
      (checks : is_check_at script req ≡ true) (rsp : GuestRsp) where
    asks_check : asked_by script req ≡ Some (asks.Vdi disk_commands.Check)
    asks_check = check_asked (request_at script req) checks

    -- it is no other request
    placed : (session : ℕ) (course : Course) → tree.get so_far.node.requests req ≡ Some (record { session = session; course = course })
        → (disk : Option ℕ) × IsCourseOfAsk (asked_by script req) (session_among session so_far.node.sessions).disk disk course
    placed session course got =
        course_in_step script range events start ran on is by so_far within.leads req (record { session = session; course = course }) got
        (asked_none (asked_by script req) (asks.Vdi disk_commands.Check) course asks_check)

    no_command : (session : ℕ) (op : Op)
        → tree.get so_far.node.requests req ≡ Some (record { session = session; course = Commanding op }) → ⊥
    no_command session op got =
        let is_op = (placed session (Commanding op) got).1 in
        let of = is_op.of in
        let own = asks_check in
        let same : is_op.ask ≡ disk_commands.Check = cc (of, own) in
        stage_none op.by op.session op.stage (subst (λ (a : VdiAsk). IsStageOfAsk op.by op.session a op.stage) same is_op.is)

    -- one that arrives has begun nothing
    arrives : (session : ℕ) (ask : Ask) → input_of_cause on.cause ≡ inputs.Guest req session ask → IsAlone req
    arrives session ask from =
        let later : MomentWithPast = moment_in_step script on start next in
        let history = (moment_in_step script on start so_far).past.history in
        let quiet : list_any (begins_write_of req) history ≡ false
        = ap (list_any (begins_write_of req)) (history_so script range start began on by so_far)
        ∙ append_none (begins_write_of req) base told
        (arrives_first script range events start ran on is by so_far next within trail req checks on.cause is.caused session ask from)
        (replied.replies_none script req (world_at_cause start.world on.cause) (check_write_at start.world on.cause)
        so_far.outputs.replies) in
        none_alone (log_effects later.world.log) good_id later.world.hosts later.past.attempts (ledger_of history) req
        (none_by_history req history (none_behind req history false quiet refl))

    module _ (session k : ℕ) (work : Work) (attempt : gateways.Attempt) (status : Status) (bytes : List ℕ) (check : Check)
        (step : CheckStep)
        (ends : EndsWork (input_of_cause on.cause) on.host.node so_far session req k work attempt status (Checking check) bytes) where
      goes_on : check_on_done bytes check ≡ Some step → outcome_of_check step.act ≡ ToReply rsp → IsAlone req
      unfolding check_on_done
      goes_on goes to = by_stage check.stage refl goes
        where
          acts : (made : CheckStep) → Some made ≡ Some step → outcome_of_check made.act ≡ ToReply rsp
          acts made so = ap (λ (s : CheckStep). outcome_of_check s.act) (same_Some made step so) ∙ to

          by_stage : (stage : CheckStage) → check.stage ≡ stage → check_done_at bytes check stage ≡ Some step → IsAlone req
          by_stage (Comparing index later) at goes =
              let both : ToWork (write_value check index (value_of check.spec.policy (pieces_in check.spec bytes))) ≡ ToReply rsp
              = acts _ goes in
              absurd (cc (both))
          by_stage (WritingBack []) at goes =
              let (disk, course) = placed session (Checking check) ends.ends.request in
              check_alone_there script range events start ran on is by so_far next within trail good_id tables none req session session k
              work
              attempt status bytes check ends.ends.request ends at course.on.disk course.on.there
          by_stage (WritingBack (index ∷ later)) at goes =
              let both : ToWork (read_copies check index) ≡ ToReply rsp = acts _ goes in absurd (cc (both))
          by_stage Answered at goes = absurd (cc (goes))

    by_steps : (session : ℕ) (outcome : Outcome) (moved : StepState)
        → RequestSteps (input_of_cause on.cause) on.host.node so_far session req outcome moved → outcome ≡ ToReply rsp → IsAlone req
    by_steps session outcome moved (DiskBegins ask disk got on_disk may) to =
        let of = (placed session (Waiting ask) got).1.0 in
        let own = asks_check in
        absurd (cc (of, own))
    by_steps session outcome moved (DiskGoesOn k work attempt status bytes driver disk step ends on_disk goes) to =
        let of = (placed session (Driving driver) ends.ends.request).1.of in
        let own = asks_check in
        absurd (cc (of, own))
    by_steps session outcome moved (CommandBegins ask step arrival goes) to = arrives session (asks.Vdi ask) arrival.from
    by_steps session outcome moved (CommandGoesOn k work attempt status bytes op step ends goes) to =
        absurd (no_command session op ends.ends.request)
    by_steps session outcome moved (CommandDecided entry op step from read got waits goes) to = absurd (no_command session op got)
    by_steps session outcome moved (CheckBegins inode arrival on_disk) to = arrives session (asks.Vdi disk_commands.Check) arrival.from
    by_steps session outcome moved (CheckGoesOn k work attempt status bytes check step ends goes) to =
        goes_on session k work attempt status bytes check step ends goes to
    by_steps session outcome moved (ObjectBegins what arrival) to = arrives session (asks.Object what) arrival.from
    by_steps session outcome moved (ObjectIsDone k work attempt status bytes what ends) to =
        absurd (placed session (DoingWork what) ends.ends.request).1
    by_steps session outcome moved (EntryBegins entry arrival) to = arrives session (asks.Entry entry) arrival.from
    by_steps session outcome moved (EntryDecided entry wanted from read got waits) to =
        absurd (placed session (AwaitingDecision wanted) got).1

  pub check_reply_alone : (reply : ℕ × GuestRsp) → Contains next.outputs.replies reply
      → ((one : ℕ × GuestRsp) → Contains so_far.outputs.replies one → one.0 ≢ reply.0) → is_refusal reply.1 ≡ false
      → is_check_at script reply.0 ≡ true
      → IsAloneWhereWritten (log_effects (moment_in_step script on start next).world.log) good_id
      (moment_in_step script on start next).world.hosts (moment_in_step script on start next).past.attempts
      (ledger_of (moment_in_step script on start so_far).past.history) reply.0
  check_reply_alone reply among free accepts checks =
      let now : IsRepliedBy (input_of_cause on.cause) on.host.node so_far next within.change reply
      = replied_by (input_of_cause on.cause) on.host.node so_far reply accepts free next within.change among in
      by_steps now.none reply.0 checks reply.1 now.session (ToReply reply.1) now.moved now.steps refl

-- ---- each change

module _ (script : List Statement) (range : RunsAreInRange script) where
  checks-by_tables : (events : List Move) (start before after : MomentWithPast) → run_with_past script events ≡ Some start
      → MomentTrail script start before → (good_id : ℕ → Bool) → TablesStay good_id before
      → RepliesToChecksAreAlone script good_id start before after
  checks-by_tables events start before after ran trail good_id tables =
      λ on so_far next is by within was will reply among free accepts checks.
      let later : MomentWithPast = moment_in_step script on start next in
      subst (IsAloneBehind good_id reply.0 before) (sym will)
      (subst (λ (m : MomentWithPast). IsAloneBehind good_id reply.0 m later) (sym was)
      (check_reply_alone script range events start ran on is by so_far next within (subst (MomentTrail script start) was trail) good_id
      (subst (TablesStay good_id) was tables) reply among free accepts checks))

  -- ---- so behind each reply

  all-by_tables : (events : List Move) (start before after : MomentWithPast) → run_with_past script events ≡ Some start
      → MomentTrail script start before → (good_id : ℕ → Bool) → TablesStay good_id before
      → RepliesAreAlone script good_id start before after
  all-by_tables events start before after ran trail good_id tables =
      replies-by_tables script range events start before after ran trail good_id tables
      (checks-by_tables events start before after ran trail good_id tables)

  pub all-on_the_way : (events : List Move) (event : Move) (start end before after : MomentWithPast)
      → IsOnTheWay script events event start end before after → (good_id : ℕ → Bool) → CallsAvailable start after good_id
      → RepliesAreAlone script good_id start before after
  all-on_the_way events event start end before after way good_id test =
      all-by_tables events start before after way.run way.behind good_id
      (inodes_along script range events start way.run good_id test.fewer
      (test_at_start script way.change good_id (test_before script way.change good_id test)) way.behind).tables
