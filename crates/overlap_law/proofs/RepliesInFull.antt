-- What is replied to a read or write of a disk, and isn't a refusal, tells all that was asked of the disk that its session had open as it
-- began: for a request of a disk waits or goes on there alone, and its driver refuses it or does it whole.
use Rattle.std.proofs.Common.{◌≡◌, ℕ, ◌++◌, true, false, List, [], ◌∷◌, length, Contains, Option, Some, None}
use Rattle.std.proofs.Common.{refl, sym, ap, subst, ◌∙◌}
use Rattle.std.specs.Prelude.{◌==◌}
use Rattle.std.proofs.lemmas.Option.{same_Some}
use Rattle.proof_tools.proofs.Booleans.{cond_either}
use Rattle.object_id.specs.Fields.{zeros}
use Rattle.object_id.specs.declared.cause.Cause.{Cause}
use Rattle.cluster_script.specs.declared.statement.Statement.{Statement}
use Rattle.inode.specs.Layout.{Content}
use Rattle.peer_proto.specs.declared.guest.DiskAsk.{DiskAsk}
use Rattle.peer_proto.specs.declared.guest.DiskAsk.TheVariants as disk_asks
use Rattle.peer_proto.specs.declared.guest.GuestRsp.{GuestRsp}
use Rattle.peer_proto.specs.declared.guest.GuestRsp.TheVariants as answers
use Rattle.peer_proto.specs.declared.guest.VdiAsk.{VdiAsk}
use Rattle.peer_proto.specs.declared.guest.VdiAsk.TheVariants as disk_commands
use Rattle.guest_driver.specs.declared.act.DriverAct.{DriverAct}
use Rattle.guest_driver.specs.declared.act.DriverAct.TheVariants as acts
use Rattle.guest_driver.specs.declared.disk.Disk.{Disk}
use Rattle.guest_driver.specs.Driver.{Driver, Reads, Writes, Answered, DriverStage, InPlace, Fetching, Creating, Entering, DriverStep}
use Rattle.guest_driver.specs.Driver.{begin_driver, begin_unless_refused, driver_on_done, read_on, work_step, write_done, write_on}
use Rattle.guest_driver.specs.Driver.{write_piece_on}
use Rattle.guest_driver.specs.PieceWorks.{Backing, Hole, Own, Inherited, backing_of, entry_of, read_piece, table_with_entry}
use Rattle.guest_driver.specs.Pieces.{Piece, pieces}
use Rattle.guest_driver.specs.Refusals.{refusal_on}
use Rattle.guest_driver.proofs.ExtentLemmas.{place_at-past}
use Rattle.vdi_ops.specs.Op.{Op}
use Rattle.sheep_node.specs.declared.ask.Ask.{Ask}
use Rattle.sheep_node.specs.declared.ask.Ask.TheVariants as asks
use Rattle.sheep_node.specs.declared.course.Course.{Course}
use Rattle.sheep_node.specs.declared.course.Course.TheVariants.{Waiting, Driving, Commanding, Checking, DoingWork, AwaitingDecision}
use Rattle.sheep_node.specs.declared.event.Event.{Event}
use Rattle.sheep_node.specs.declared.input.Input.TheVariants as inputs
use Rattle.sheep_node.specs.Changes.{HasRequest, Outcome, ToReply, outcome_of_driver, RequestSteps, DiskBegins, DiskGoesOn, CommandBegins}
use Rattle.sheep_node.specs.Changes.{CommandGoesOn, CommandDecided, CheckBegins, CheckGoesOn, ObjectBegins, ObjectIsDone, EntryBegins}
use Rattle.sheep_node.specs.Changes.{EntryDecided}
use Rattle.sheep_node.specs.State.{session_at}
use Rattle.sheep_node.specs.SessionQueues.{session_among}
use Rattle.sheep_node.specs.StepState.{StepState}
use Rattle.sheep_world.specs.HistoryAdditions.{disk_of}
use Rattle.sheep_world.specs.NodeCauses.{input_of_cause, progress_at_cause}
use Rattle.sheep_world.specs.Began.{MakesMove}
use Rattle.sheep_world.specs.Run as runs
use Rattle.sheep_world.specs.RunsWithAsks.{Move, run_with_asks}
use Rattle.sheep_world.specs.Step.{EventOutcome}
use Rattle.sheep_world.specs.World.{World}
use Rattle.overlap_law.specs.HistoryGrowth.{world_at_cause}
use Rattle.overlap_law.specs.MomentChanges.{MomentTrail, RunsAreInRange}
use Rattle.overlap_law.specs.Past.{MomentWithPast, run_with_past}
use Rattle.overlap_law.specs.PastWords.{is_refusal}
use Rattle.overlap_law.specs.DoneOnDisks.{world_without_reply, TellsAll, IsDoneOnDisk}
use Rattle.overlap_law.specs.RequestsOfScript.{IsDriverOf, IsOnDisk}
use Rattle.overlap_law.specs.StandingReads.{asked_in}
use Rattle.overlap_law.specs.StepMoments.{SteppingNode, IsStepping, StepsByChanges, LeadsInStep, IsWithinStep, first_in_step}
use Rattle.overlap_law.specs.StepMoments.{moment_in_step}
use Rattle.overlap_law.specs.ToldReads.{extent_on}
use Rattle.overlap_law.proofs.CoursesOfAsks.{IsPlacedAs, IsBroughtBy, placed_by_ask}
use Rattle.overlap_law.proofs.CoursesOfScript.{BeganOn, asked_by, brings}
use Rattle.overlap_law.proofs.HistoryCarried.{serves_reads}
use Rattle.overlap_law.proofs.RepliesInRuns.{each_reply_tells}
use Rattle.overlap_law.proofs.ReadsToldDisks.{began_on, placed_at}
use Rattle.overlap_law.proofs.ReadsToldSteps.{told_all}

-- ---- what a driver replies

-- what is replied to such a request, unless it is refused
abbrev IsReplyTo : DiskAsk → GuestRsp → Type 0
IsReplyTo (disk_asks.Read offset size) rsp = (bytes : List ℕ) × (rsp ≡ answers.Piece bytes)
IsReplyTo (disk_asks.Write offset payload) rsp = rsp ≡ answers.Done

abbrev RepliesSo : DiskAsk → DriverAct → Type 0
RepliesSo ask act = (rsp : GuestRsp) → act ≡ acts.Reply rsp → is_refusal rsp ≡ false → IsReplyTo ask rsp

refused_never : (cause : Cause) (rsp : GuestRsp) → answers.Refused cause ≡ rsp → is_refusal rsp ≡ false → ⊥
refused_never cause rsp same fine = let both : true ≡ false = ap is_refusal same ∙ fine in cc (both)

refuses_so : (ask : DiskAsk) (cause : Cause) → RepliesSo ask (acts.Reply (answers.Refused cause))
refuses_so ask cause rsp act fine =
    let same : answers.Refused cause ≡ rsp = cc (act) in absurd (refused_never cause rsp same fine)

reads_so : (offset size : ℕ) (inode : Content) (told : List ℕ) (rest : List Piece)
    → RepliesSo (disk_asks.Read offset size) (read_on inode told rest).act
unfolding read_on
reads_so offset size inode told [] = λ rsp act fine. let same : answers.Piece told ≡ rsp = cc (act) in (told, sym same)
reads_so offset size inode told (piece ∷ rest) =
    cond_either (λ (step : DriverStep). RepliesSo (disk_asks.Read offset size) step.act) (entry_of inode piece == 0)
    (read_on inode (told ++ zeros piece.size) rest)
    (work_step inode (Reads told piece rest) (read_piece inode piece (entry_of inode piece)))
    (reads_so offset size inode (told ++ zeros piece.size) rest) (λ rsp act fine. absurd (cc (act)))

writes_so : (offset : ℕ) (asked : List ℕ) (inode : Content) (payload : List ℕ) (rest : List Piece)
    → RepliesSo (disk_asks.Write offset asked) (write_on inode payload rest).act
writes_so offset asked inode payload [] = λ rsp act fine. let same : answers.Done ≡ rsp = cc (act) in sym same
writes_so offset asked inode payload (piece ∷ rest) = by_backing (backing_of inode piece)
  where
    by_backing : (backing : Backing) → RepliesSo (disk_asks.Write offset asked) (write_piece_on inode payload piece rest backing).act
    by_backing Hole = λ rsp act fine. absurd (cc (act))
    by_backing Own = λ rsp act fine. absurd (cc (act))
    by_backing (Inherited vid) = λ rsp act fine. absurd (cc (act))

-- as a request begins
begins_so : (disk : Disk) (ask : DiskAsk) → RepliesSo ask (begin_driver disk ask).act
unfolding begin_driver
begins_so disk ask = by_refusal ask (refusal_on disk false ask)
  where
    by_refusal : (ask : DiskAsk) (o : Option Cause) → RepliesSo ask (begin_unless_refused disk.inode ask o).act
    by_refusal ask (Some cause) = refuses_so ask cause
    by_refusal (disk_asks.Read offset size) None =
        reads_so offset size disk.inode [] (pieces disk.inode.spec.shift offset size)
    by_refusal (disk_asks.Write offset payload) None =
        writes_so offset payload disk.inode payload (pieces disk.inode.spec.shift offset (length payload))

done_so : (offset : ℕ) (asked : List ℕ) (inode : Content) (bytes payload : List ℕ) (piece : Piece) (rest : List Piece) (stage : DriverStage)
    → RepliesSo (disk_asks.Write offset asked) (write_done inode bytes payload piece rest stage).act
done_so offset asked inode bytes payload piece rest InPlace = writes_so offset asked inode payload rest
done_so offset asked inode bytes payload piece rest Fetching = λ rsp act fine. absurd (cc (act))
done_so offset asked inode bytes payload piece rest Creating = λ rsp act fine. absurd (cc (act))
done_so offset asked inode bytes payload piece rest Entering = writes_so offset asked (table_with_entry inode piece) payload rest

-- and as it goes on
goes_so : (disk : Disk) (ask : DiskAsk) (inode : Content) (bytes : List ℕ) (driver : Driver) (step : DriverStep)
    → IsDriverOf disk ask driver → driver_on_done inode bytes driver ≡ Some step → RepliesSo ask step.act
unfolding driver_on_done
goes_so disk ask inode bytes (Reads told piece rest) step (offset, size, asks_so, left) is =
    subst (λ (a : DiskAsk). RepliesSo a step.act) (sym asks_so)
    (subst (λ (s : DriverStep). RepliesSo (disk_asks.Read offset size) s.act) (same_Some (read_on inode (told ++ bytes) rest) step is)
    (reads_so offset size inode (told ++ bytes) rest))
goes_so disk ask inode bytes (Writes payload stage piece rest) step (offset, asks_so, left) is =
    subst (λ (a : DiskAsk). RepliesSo a step.act) (sym asks_so)
    (subst (λ (s : DriverStep). RepliesSo (disk_asks.Write offset payload) s.act)
    (same_Some (write_done inode bytes payload piece rest stage) step is)
    (done_so offset payload inode bytes payload piece rest stage))
goes_so disk ask inode bytes Answered step never is = absurd never

outcome_replies : (act : DriverAct) (rsp : GuestRsp) → outcome_of_driver act ≡ ToReply rsp → act ≡ acts.Reply rsp
outcome_replies (acts.Work work) rsp is = absurd (cc (is))
outcome_replies (acts.Reply other) rsp is = let same : other ≡ rsp = cc (is) in ap (λ (r : GuestRsp). acts.Reply r) same

-- ---- in a step

-- what a reply tells is all, unless it refuses
abbrev IsAllTold : List Statement → World → ℕ → GuestRsp → Type 0
IsAllTold script world req rsp =
    (ask : DiskAsk) → asked_in script req ≡ Some (asks.Disk ask) → is_refusal rsp ≡ false → IsDoneOnDisk script world req ask rsp

module _ (script : List Statement) (range : RunsAreInRange script) (events : List Move) (start : MomentWithPast)
    (run : run_with_past script events ≡ Some start) (stepping : SteppingNode) (is : IsStepping script start.world stepping)
    (by : StepsByChanges stepping.cause) where
  module _ (so_far : StepState) (leads : LeadsInStep stepping (first_in_step stepping) so_far) (session req : ℕ) (ask : DiskAsk)
      (asks_so : asked_by script req ≡ Some (asks.Disk ask)) where
    -- the session has a disk open, and the request began on that
    record IsOnItsDisk : Type 0 where
      disk : Disk
      there : (session_at session so_far.node).disk ≡ Some disk
      began : disk_of script req (world_at_cause start.world stepping.cause) ≡ Some disk.inode.vid

    on_open : (on_disk : Option ℕ) → BeganOn script (progress_at_cause stepping.cause start.world) req on_disk
        → IsOnDisk (session_at session so_far.node).disk on_disk → IsOnItsDisk
    on_open on_disk on of = record {
      disk = of.disk;
      there = of.there;
      began = began_on script range events start run stepping is by so_far leads req on_disk on ∙ of.same;
    }

    abbrev Placed : Course → Type 0
    Placed course =
        IsPlacedAs (asked_by script) (BeganOn script (progress_at_cause stepping.cause start.world)) req
        (session_at session so_far.node).disk course

    placed : (course : Course) → HasRequest session req course so_far → Placed course
    placed course there =
        placed_by_ask (asked_by script) (BeganOn script (progress_at_cause stepping.cause start.world)) req
        (asks.Disk ask) asks_so
        (session_at session so_far.node).disk course
        (placed_at script range events start run stepping is by so_far leads session req course there)

    same_ask : (other : DiskAsk) → asked_by script req ≡ Some (asks.Disk other) → other ≡ ask
    same_ask other of = let both : Some (asks.Disk other) ≡ Some (asks.Disk ask) = sym of ∙ asks_so in cc (both)

    -- it isn't a command, nor a client's
    no_command : (other : VdiAsk) → asked_by script req ≡ Some (asks.Vdi other) → ⊥
    no_command other of = let both : Some (asks.Vdi other) ≡ Some (asks.Disk ask) = sym of ∙ asks_so in cc (both)

    none_commanding : (op : Op) → HasRequest session req (Commanding op) so_far → ⊥
    none_commanding op there = let (on_disk, on, of) = placed (Commanding op) there in no_command of.ask of.of

    brought : (other : Ask) → input_of_cause stepping.cause ≡ inputs.Guest req session other → Some other ≡ Some (asks.Disk ask)
    brought other from =
        by_kind other (brings script start.world stepping.n stepping.host stepping.cause is.there is.caused req session other from)
      where
        by_kind : (other : Ask)
            → IsBroughtBy (asked_by script) (BeganOn script (progress_at_cause stepping.cause start.world)) req
            (session_among session stepping.host.node.sessions).disk other
            → Some other ≡ Some (asks.Disk ask)
        by_kind (asks.Disk own) known = sym known.1 ∙ asks_so
        by_kind (asks.Vdi own) known = sym known.1 ∙ asks_so
        by_kind (asks.Object work) none = absurd (cc (none, asks_so))
        by_kind (asks.Entry entry) known = sym known.1 ∙ asks_so

    -- what a step that it takes replies
    answers_so : (next : Outcome) (moved : StepState)
        → RequestSteps (input_of_cause stepping.cause) stepping.host.node so_far session req next moved → (rsp : GuestRsp)
        → next ≡ ToReply rsp → is_refusal rsp ≡ false → IsOnItsDisk × IsReplyTo ask rsp
    answers_so next moved (DiskBegins own disk there on runs) rsp replies fine =
        let (on_disk, began, of) = placed (Waiting own) there in (
          on_open on_disk began of.1,
          subst (λ (a : DiskAsk). IsReplyTo a rsp) (same_ask own of.0)
              (begins_so disk own rsp (outcome_replies (begin_driver disk own).act rsp replies) fine),
        )
    answers_so next moved (DiskGoesOn number work attempt status bytes driver disk step ends on done) rsp replies fine =
        let (on_disk, began, of) = placed (Driving driver) ends.ends.request in (
          on_open on_disk began of.on,
          subst (λ (a : DiskAsk). IsReplyTo a rsp) (same_ask of.ask of.of)
              (goes_so of.on.disk of.ask disk.inode bytes driver step of.is done rsp (outcome_replies step.act rsp replies) fine),
        )
    answers_so next moved (CommandBegins own step arrival begun) rsp replies fine =
        let both = brought (asks.Vdi own) arrival.from in absurd (cc (both))
    answers_so next moved (CommandGoesOn number work attempt status bytes op step ends done) rsp replies fine =
        absurd (none_commanding op ends.ends.request)
    answers_so next moved (CommandDecided entry op step from read there waits done) rsp replies fine = absurd (none_commanding op there)
    answers_so next moved (CheckBegins inode arrival on) rsp replies fine =
        let both = brought (asks.Vdi disk_commands.Check) arrival.from in absurd (cc (both))
    answers_so next moved (CheckGoesOn number work attempt status bytes check step ends done) rsp replies fine =
        let (on_disk, began, of) = placed (Checking check) ends.ends.request in absurd (no_command disk_commands.Check of.of)
    answers_so next moved (ObjectBegins object arrival) rsp replies fine =
        let both = brought (asks.Object object) arrival.from in absurd (cc (both))
    answers_so next moved (ObjectIsDone number work attempt status bytes object ends) rsp replies fine =
        let (on_disk, began, of) = placed (DoingWork object) ends.ends.request in absurd of
    answers_so next moved (EntryBegins entry arrival) rsp replies fine =
        let both = brought (asks.Entry entry) arrival.from in absurd (cc (both))
    answers_so next moved (EntryDecided entry wanted from read there waits) rsp replies fine =
        let (on_disk, began, of) = placed (AwaitingDecision wanted) there in absurd of

  -- a step that a request takes tells all, unless it refuses
  module _ (so_far next : StepState) (within : IsWithinStep stepping so_far next)
      (trail : MomentTrail script start (moment_in_step script stepping start so_far)) (session req : ℕ) (rsp : GuestRsp)
      (moved : StepState)
      (steps : RequestSteps (input_of_cause stepping.cause) stepping.host.node so_far session req (ToReply rsp) moved) where
    whole : (ask : DiskAsk) → asked_in script req ≡ Some (asks.Disk ask) → (disk : Disk)
        → (session_at session so_far.node).disk ≡ Some disk → IsReplyTo ask rsp → TellsAll ask rsp
    whole (disk_asks.Read offset size) asks_so disk opened (bytes, same) =
        let all = told_all script range (serves_reads script range) events start run stepping is by so_far next within trail req session
        rsp moved steps disk opened offset size bytes asks_so same in
        (bytes, same, all.2.long ∙ place_at-past (extent_on disk.inode offset size) all.0)
    whole (disk_asks.Write offset payload) asks_so disk opened done = done

    step_tells : IsAllTold script (world_at_cause start.world stepping.cause) req rsp
    step_tells ask asks_so fine =
        let (on, kind) = answers_so so_far within.leads session req ask asks_so (ToReply rsp) moved steps rsp refl fine in
        record { disk = on.disk.inode.vid; began = on.began; told = whole ask asks_so on.disk on.there kind }

-- in each run in range
pub done_on_disk : (script : List Statement) → RunsAreInRange script → (moves : List Move) (last : runs.Moment)
    → run_with_asks script moves ≡ Some last → (event : Event) (made : EventOutcome) → MakesMove script event last.world made
    → (req : ℕ) (ask : DiskAsk) (rsp : GuestRsp) → asked_in script req ≡ Some (asks.Disk ask)
    → Contains made.world.outputs.replies (req, rsp) → is_refusal rsp ≡ false
    → IsDoneOnDisk script (world_without_reply script event last.world) req ask rsp
done_on_disk script range moves last run event made goes req ask rsp asked among fine =
    each_reply_tells script (IsAllTold script) (λ world q cause own asks_so is. absurd (cc (is))) (step_tells script range) moves last run
    event made goes req rsp among ask asked fine
