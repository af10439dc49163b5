-- What is replied to a check, and isn't a refusal, tells what was found on the disk that its session had open as it began: for a check
-- begins on an open disk alone, goes on there, and ends with what it found.
use Rattle.std.proofs.Common.{◌≡◌, ℕ, false, Contains, Option, Some, None, List, refl, sym, ap, subst, ◌∙◌}
use Rattle.cluster_script.specs.declared.statement.Statement.{Statement}
use Rattle.disk_check.specs.declared.act.CheckAct.{CheckAct}
use Rattle.disk_check.specs.declared.act.CheckAct.TheVariants as check_acts
use Rattle.disk_check.specs.Check.{Check, CheckStep, begin_check, check_on_done}
use Rattle.gateway.specs.declared.message.Status.{Status}
use Rattle.gateway.specs.Attempt.{Attempt}
use Rattle.gateway.specs.State.{Work}
use Rattle.guest_driver.specs.declared.disk.Disk.{Disk}
use Rattle.inode.specs.Layout.{Content}
use Rattle.object_id.specs.declared.node.NodeId.{NodeId}
use Rattle.peer_proto.specs.declared.guest.DiskAsk.{DiskAsk}
use Rattle.peer_proto.specs.declared.guest.GuestRsp.{GuestRsp}
use Rattle.peer_proto.specs.declared.guest.GuestRsp.TheVariants as answers
use Rattle.peer_proto.specs.declared.guest.VdiAsk.{VdiAsk}
use Rattle.peer_proto.specs.declared.guest.VdiAsk.TheVariants as disk_commands
use Rattle.vdi_ops.specs.Op.{Op, OpStep}
use Rattle.vdi_ops.specs.Steps.{begin_command}
use Rattle.sheep_node.specs.declared.ask.Ask.{Ask}
use Rattle.sheep_node.specs.declared.ask.Ask.TheVariants as asks
use Rattle.sheep_node.specs.declared.course.Course.{Course}
use Rattle.sheep_node.specs.declared.course.Course.TheVariants.{Waiting, Driving, Commanding, Checking, DoingWork, AwaitingDecision}
use Rattle.sheep_node.specs.declared.event.Event.{Event}
use Rattle.sheep_node.specs.declared.input.Input.TheVariants as inputs
use Rattle.sheep_node.specs.Changes.{HasRequest, Outcome, ToReply, outcome_of_check, Arrival, EndsWork, RequestSteps}
use Rattle.sheep_node.specs.Changes.{DiskBegins, DiskGoesOn}
use Rattle.sheep_node.specs.Changes.{CommandBegins, CommandGoesOn, CommandDecided, CheckBegins, CheckGoesOn, ObjectBegins, ObjectIsDone}
use Rattle.sheep_node.specs.Changes.{EntryBegins, EntryDecided}
use Rattle.sheep_node.specs.Courses.{inode_open}
use Rattle.sheep_node.specs.SessionQueues.{session_among}
use Rattle.sheep_node.specs.State.{session_at}
use Rattle.sheep_node.specs.StepState.{StepState, session_in}
use Rattle.sheep_world.specs.HistoryAdditions.{disk_of}
use Rattle.sheep_world.specs.NodeCauses.{input_of_cause, progress_at_cause}
use Rattle.sheep_world.specs.Began.{MakesMove}
use Rattle.sheep_world.specs.Run as runs
use Rattle.sheep_world.specs.RunsWithAsks.{Move, run_with_asks}
use Rattle.sheep_world.specs.Step.{EventOutcome}
use Rattle.sheep_world.specs.World.{World}
use Rattle.overlap_law.specs.HistoryGrowth.{world_at_cause}
use Rattle.overlap_law.specs.MomentChanges.{MomentTrail, RunsAreInRange}
use Rattle.overlap_law.specs.Past.{MomentWithPast, run_with_past}
use Rattle.overlap_law.specs.PastWords.{is_refusal}
use Rattle.overlap_law.specs.DoneOnDisks.{world_without_reply, IsCheckedOnDisk}
use Rattle.overlap_law.specs.RequestsOfScript.{IsStageOfAsk}
use Rattle.overlap_law.specs.StandingReads.{asked_in}
use Rattle.overlap_law.specs.StepMoments.{SteppingNode, IsStepping, StepsByChanges, LeadsInStep, IsWithinStep, first_in_step}
use Rattle.overlap_law.specs.StepMoments.{moment_in_step}
use Rattle.overlap_law.proofs.CoursesOfAsks.{IsPlacedAs, IsBroughtBy, id_of_disk, placed_by_ask}
use Rattle.overlap_law.proofs.CoursesOfScript.{BeganOn, asked_by, brings}
use Rattle.overlap_law.proofs.DisksOfWriters.{stage_none}
use Rattle.overlap_law.proofs.RepliesInRuns.{each_reply_tells}
use Rattle.overlap_law.proofs.ReadsToldDisks.{began_on, placed_at}

-- no command begins for a check
none_begins : (by : NodeId) (session : ℕ) (disk : Option Content) (step : OpStep)
    → begin_command by session disk_commands.Check disk ≡ Some step → ⊥
unfolding begin_command
none_begins by session disk step begun = cc (begun)

-- the inode of an open disk has its id
id_of_inode : (disk : Option Disk) (inode : Content) → inode_open disk ≡ Some inode → id_of_disk disk ≡ Some inode.vid
id_of_inode None inode on = absurd (cc (on))
id_of_inode (Some disk) inode on = let same : disk.inode ≡ inode = cc (on) in ap (λ (i : Content). Some i.vid) same

module _ (script : List Statement) (range : RunsAreInRange script) (events : List Move) (start : MomentWithPast)
    (run : run_with_past script events ≡ Some start) (stepping : SteppingNode) (is : IsStepping script start.world stepping)
    (by : StepsByChanges stepping.cause) where
  module _ (so_far : StepState) (leads : LeadsInStep stepping (first_in_step stepping) so_far) (session req : ℕ)
      (asks_so : asked_by script req ≡ Some (asks.Vdi disk_commands.Check)) where
    abbrev Tells : GuestRsp → Type 0
    Tells rsp = IsCheckedOnDisk script (world_at_cause start.world stepping.cause) req rsp

    -- it tells what it found
    found_so : (vid : ℕ) → disk_of script req (world_at_cause start.world stepping.cause) ≡ Some vid → (act : CheckAct) (rsp : GuestRsp)
        → outcome_of_check act ≡ ToReply rsp → Tells rsp
    found_so vid began (check_acts.Work work) rsp replies = absurd (cc (replies))
    found_so vid began (check_acts.Reply found) rsp replies =
        let same : answers.Checked found ≡ rsp = cc (replies) in record { disk = vid; began = began; found = found; told = sym same }

    abbrev pub Placed : Course → Type 0
    Placed course =
        IsPlacedAs (asked_by script) (BeganOn script (progress_at_cause stepping.cause start.world)) req
        (session_at session so_far.node).disk course

    pub placed : (course : Course) → HasRequest session req course so_far → Placed course
    placed course there =
        placed_by_ask (asked_by script) (BeganOn script (progress_at_cause stepping.cause start.world)) req
        (asks.Vdi disk_commands.Check) asks_so
        (session_at session so_far.node).disk course
        (placed_at script range events start run stepping is by so_far leads session req course there)

    -- it is no read or write, no command that puts entries, and no client's
    no_disk_ask : (other : DiskAsk) → asked_by script req ≡ Some (asks.Disk other) → ⊥
    no_disk_ask other of = let both : Some (asks.Disk other) ≡ Some (asks.Vdi disk_commands.Check) = sym of ∙ asks_so in cc (both)

    is_check : (other : VdiAsk) → asked_by script req ≡ Some (asks.Vdi other) → other ≡ disk_commands.Check
    is_check other of = let both : Some (asks.Vdi other) ≡ Some (asks.Vdi disk_commands.Check) = sym of ∙ asks_so in cc (both)

    none_commanding : (op : Op) → HasRequest session req (Commanding op) so_far → ⊥
    none_commanding op there =
        let (on_disk, on, of) = placed (Commanding op) there in
        stage_none op.by op.session op.stage
        (subst (λ (a : VdiAsk). IsStageOfAsk op.by op.session a op.stage) (is_check of.ask of.of) of.is)

    brought : (other : Ask) → input_of_cause stepping.cause ≡ inputs.Guest req session other
        → Some other ≡ Some (asks.Vdi disk_commands.Check)
    brought other from =
        by_kind other (brings script start.world stepping.n stepping.host stepping.cause is.there is.caused req session other from)
      where
        by_kind : (other : Ask)
            → IsBroughtBy (asked_by script) (BeganOn script (progress_at_cause stepping.cause start.world)) req
            (session_among session stepping.host.node.sessions).disk other
            → Some other ≡ Some (asks.Vdi disk_commands.Check)
        by_kind (asks.Disk own) known = sym known.1 ∙ asks_so
        by_kind (asks.Vdi own) known = sym known.1 ∙ asks_so
        by_kind (asks.Object work) none = absurd (cc (none, asks_so))
        by_kind (asks.Entry entry) known = sym known.1 ∙ asks_so

    -- as it begins its session has a disk open
    pub begins_on : (inode : Content)
        → Arrival (input_of_cause stepping.cause) stepping.host.node so_far session req (asks.Vdi disk_commands.Check) None
        → inode_open (session_in session so_far).disk ≡ Some inode
        → disk_of script req (world_at_cause start.world stepping.cause) ≡ Some inode.vid
    begins_on inode arrival on =
        let known = brings script start.world stepping.n stepping.host stepping.cause is.there is.caused req session
        (asks.Vdi disk_commands.Check) arrival.from in
        let same : (session_in session so_far).disk ≡ (session_among session stepping.host.node.sessions).disk
        = ap (λ (s : StepState). (session_in session s).disk) arrival.first in
        began_on script range events start run stepping is by so_far leads req
        (id_of_disk (session_among session stepping.host.node.sessions).disk) known.2
        ∙ ap (λ (d : Option Disk). id_of_disk d) (sym same)
        ∙ id_of_inode (session_in session so_far).disk inode on

    -- a step that it takes to a reply begins it, or goes on with it
    module _ (T : GuestRsp → Type 0)
        (begins : (inode : Content)
        → Arrival (input_of_cause stepping.cause) stepping.host.node so_far session req (asks.Vdi disk_commands.Check) None
        → inode_open (session_in session so_far).disk ≡ Some inode → (rsp : GuestRsp)
        → outcome_of_check (begin_check inode).act ≡ ToReply rsp → T rsp)
        (goes_on : (number : ℕ) (work : Work) (attempt : Attempt) (status : Status) (bytes : List ℕ) (check : Check) (step : CheckStep)
        → EndsWork (input_of_cause stepping.cause) stepping.host.node so_far session req number work attempt status (Checking check) bytes
        → check_on_done bytes check ≡ Some step → (rsp : GuestRsp) → outcome_of_check step.act ≡ ToReply rsp → T rsp) where
      pub check_answers : (next : Outcome) (moved : StepState)
          → RequestSteps (input_of_cause stepping.cause) stepping.host.node so_far session req next moved → (rsp : GuestRsp)
          → next ≡ ToReply rsp → T rsp
      check_answers next moved (DiskBegins own disk there on runs) rsp replies =
          let (on_disk, began, of) = placed (Waiting own) there in absurd (no_disk_ask own of.0)
      check_answers next moved (DiskGoesOn number work attempt status bytes driver disk step ends on done) rsp replies =
          let (on_disk, began, of) = placed (Driving driver) ends.ends.request in absurd (no_disk_ask of.ask of.of)
      check_answers next moved (CommandBegins own step arrival begun) rsp replies =
          let both = brought (asks.Vdi own) arrival.from in
          let same : own ≡ disk_commands.Check = cc (both) in
          absurd (none_begins so_far.node.me session (inode_open (session_in session so_far).disk) step
          (subst (λ (a : VdiAsk). begin_command so_far.node.me session a (inode_open (session_in session so_far).disk) ≡ Some step) same
          begun))
      check_answers next moved (CommandGoesOn number work attempt status bytes op step ends done) rsp replies =
          absurd (none_commanding op ends.ends.request)
      check_answers next moved (CommandDecided entry op step from read there waits done) rsp replies = absurd (none_commanding op there)
      check_answers next moved (CheckBegins inode arrival on) rsp replies = begins inode arrival on rsp replies
      check_answers next moved (CheckGoesOn number work attempt status bytes check step ends done) rsp replies =
          goes_on number work attempt status bytes check step ends done rsp replies
      check_answers next moved (ObjectBegins object arrival) rsp replies =
          let both = brought (asks.Object object) arrival.from in absurd (cc (both))
      check_answers next moved (ObjectIsDone number work attempt status bytes object ends) rsp replies =
          let (on_disk, began, of) = placed (DoingWork object) ends.ends.request in absurd of
      check_answers next moved (EntryBegins entry arrival) rsp replies =
          let both = brought (asks.Entry entry) arrival.from in absurd (cc (both))
      check_answers next moved (EntryDecided entry wanted from read there waits) rsp replies =
          let (on_disk, began, of) = placed (AwaitingDecision wanted) there in absurd of

    -- what a step that it takes replies
    answers_so : (next : Outcome) (moved : StepState)
        → RequestSteps (input_of_cause stepping.cause) stepping.host.node so_far session req next moved → (rsp : GuestRsp)
        → next ≡ ToReply rsp → Tells rsp
    answers_so next moved steps rsp replies =
        check_answers Tells
        (λ inode arrival on rsp replies. found_so inode.vid (begins_on inode arrival on) (begin_check inode).act rsp replies)
        (λ number work attempt status bytes check step ends done rsp replies.
        let (on_disk, began, of) = placed (Checking check) ends.ends.request in
        found_so of.on.disk.inode.vid
        (began_on script range events start run stepping is by so_far leads req on_disk began ∙ of.on.same) step.act rsp replies) next moved
        steps rsp replies

-- a reply tells what was found, unless it refuses
abbrev IsFound : List Statement → World → ℕ → GuestRsp → Type 0
IsFound script world req rsp =
    asked_in script req ≡ Some (asks.Vdi disk_commands.Check) → is_refusal rsp ≡ false → IsCheckedOnDisk script world req rsp

-- in each run in range
pub checked_on_disk : (script : List Statement) → RunsAreInRange script → (moves : List Move) (last : runs.Moment)
    → run_with_asks script moves ≡ Some last → (event : Event) (made : EventOutcome) → MakesMove script event last.world made
    → (req : ℕ) (rsp : GuestRsp) → asked_in script req ≡ Some (asks.Vdi disk_commands.Check)
    → Contains made.world.outputs.replies (req, rsp) → is_refusal rsp ≡ false
    → IsCheckedOnDisk script (world_without_reply script event last.world) req rsp
checked_on_disk script range moves last run event made goes req rsp asked among fine =
    each_reply_tells script (IsFound script) (λ world q cause asks_so is. absurd (cc (is))) each moves last run event made goes req rsp
    among asked fine
  where
    each : (events : List Move) (start : MomentWithPast) → run_with_past script events ≡ Some start → (stepping : SteppingNode)
        → IsStepping script start.world stepping → StepsByChanges stepping.cause → (so_far next : StepState)
        → IsWithinStep stepping so_far next → MomentTrail script start (moment_in_step script stepping start so_far)
        → (session req : ℕ) (rsp : GuestRsp) (moved : StepState)
        → RequestSteps (input_of_cause stepping.cause) stepping.host.node so_far session req (ToReply rsp) moved
        → IsFound script (world_at_cause start.world stepping.cause) req rsp
    each events start run stepping is by so_far next within trail session req rsp moved steps asks_so fine =
        answers_so script range events start run stepping is by so_far within.leads session req asks_so (ToReply rsp) moved steps rsp refl
