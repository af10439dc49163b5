-- A reply to a write that doesn't refuse it comes with the write's last work, or at once where it has no pieces. So each block in which a
-- request has an item is alone behind the reply to it, of each request but a check.
use Rattle.std.proofs.Common.{◌≡◌, ◌≢◌, inl, inr, ⊎_elim, ℕ, Bool, true, false, List, [], ◌∷◌, ◌++◌, length, Contains, Option, Some, None}
use Rattle.std.proofs.Common.{refl}
use Rattle.std.proofs.Common.{sym, ap, subst, ◌∙◌}
use Rattle.std.specs.List.{list_any}
use Rattle.std.specs.FinMap as tree
use Rattle.std.proofs.lemmas.Option.{same_Some}
use Rattle.proof_tools.proofs.Lists.{Contains-nil}
use Rattle.object_id.specs.declared.cause.Cause.{Cause}
use Rattle.cluster_script.specs.declared.statement.Statement.{Statement}
use Rattle.cluster_script.specs.NumberedRequests.{request_at}
use Rattle.vdi_directory.specs.Decisions.{log_effects}
use Rattle.peer_proto.specs.declared.guest.DiskAsk.{DiskAsk}
use Rattle.peer_proto.specs.declared.guest.DiskAsk.TheVariants as disk_asks
use Rattle.peer_proto.specs.declared.guest.GuestRsp.{GuestRsp}
use Rattle.peer_proto.specs.declared.guest.GuestRsp.TheVariants as answers
use Rattle.gateway.specs.Attempt as gateways
use Rattle.gateway.specs.State.{Work}
use Rattle.gateway.specs.declared.message.Status.{Status}
use Rattle.guest_driver.specs.declared.act.DriverAct.{DriverAct}
use Rattle.guest_driver.specs.declared.act.DriverAct.TheVariants as acts
use Rattle.guest_driver.specs.declared.disk.Disk.{Disk}
use Rattle.guest_driver.specs.Driver.{Driver, DriverStage, DriverStep, Reads, Writes, Answered, begin_driver, begin_unless_refused}
use Rattle.guest_driver.specs.Driver.{driver_on_done}
use Rattle.guest_driver.specs.Pieces.{Piece, pieces}
use Rattle.guest_driver.specs.Refusals.{refusal_on}
use Rattle.sheep_node.specs.declared.ask.Ask.{Ask}
use Rattle.sheep_node.specs.declared.ask.Ask.TheVariants as asks
use Rattle.sheep_node.specs.declared.course.Course.{Course}
use Rattle.sheep_node.specs.declared.course.Course.TheVariants.{Waiting, Driving, Commanding, Checking, DoingWork, AwaitingDecision}
use Rattle.sheep_node.specs.declared.input.Input.TheVariants as inputs
use Rattle.sheep_node.specs.declared.session.Session.{Session}
use Rattle.sheep_node.specs.Changes.{EndsWork, Outcome, ToReply, outcome_of_driver, RequestSteps, DiskBegins, DiskGoesOn, CommandBegins}
use Rattle.sheep_node.specs.Changes.{CommandGoesOn, CommandDecided, CheckBegins, CheckGoesOn, ObjectBegins, ObjectIsDone, EntryBegins}
use Rattle.sheep_node.specs.Changes.{EntryDecided}
use Rattle.sheep_node.specs.SessionQueues.{session_among}
use Rattle.sheep_node.specs.StepState.{StepState}
use Rattle.sheep_node.proofs.QueueChanges.{same_view}
use Rattle.sheep_world.specs.NodeCauses.{input_of_cause}
use Rattle.sheep_world.specs.World.{Host}
use Rattle.sheep_world.specs.RunsWithAsks.{Move}
use Rattle.overlap_law.specs.Headline.{ledger_of}
use Rattle.overlap_law.specs.MomentChanges.{MomentTrail, RunsAreInRange}
use Rattle.overlap_law.specs.Past.{MomentWithPast, run_with_past}
use Rattle.overlap_law.specs.PastWords.{is_refusal}
use Rattle.overlap_law.specs.RequestsOfScript.{IsCourseOfAsk, IsDriverOf}
use Rattle.overlap_law.specs.StayingBlocks.{IsAloneWhereWritten}
use Rattle.overlap_law.specs.StepMoments.{SteppingNode, IsStepping, StepsByChanges, IsWithinStep, attempts_of_change, moment_in_step}
use Rattle.overlap_law.specs.ToCome.{TablesStayTheInodes}
use Rattle.overlap_law.proofs.AloneItemsInSteps.{asked_in_step, course_in_step}
use Rattle.overlap_law.proofs.AloneOnDisks.{write_asks}
use Rattle.overlap_law.proofs.AloneStepsOnDisks.{writer_here}
use Rattle.overlap_law.proofs.CoursesOfScript.{asked_by}
use Rattle.overlap_law.proofs.DisksOfWriters.{IsWriterAt}
use Rattle.overlap_law.proofs.DoneWrites.{none_left}
use Rattle.overlap_law.proofs.ItemsOfReplies.{is_check_at}
use Rattle.overlap_law.proofs.ItemsOfRequests.{begins_write_of, none_behind, none_by_history}
use Rattle.overlap_law.proofs.RepliedItems.{none_alone}
use Rattle.overlap_law.proofs.RepliedNow.{IsRepliedBy, replied_by}
use Rattle.overlap_law.proofs.RepliedWrites.{pieces_alone, replied_so}
use Rattle.overlap_law.proofs.CoursesOfAsks.{asked_none}

-- ---- where a write is replied to

-- a driver of a write
record DrivesWrite (disk : Disk) (offset : ℕ) (payload : List ℕ) (driver : Driver) : Type 0 where
  stage : DriverStage
  piece : Piece
  rest : List Piece
  before : List Piece
  same : driver ≡ Writes payload stage piece rest
  cut : pieces disk.inode.spec.shift offset (length payload) ≡ before ++ piece ∷ rest

drives_write : (disk : Disk) (offset : ℕ) (payload : List ℕ) (ask : DiskAsk) → ask ≡ disk_asks.Write offset payload → (driver : Driver)
    → IsDriverOf disk ask driver → DrivesWrite disk offset payload driver
drives_write disk offset payload ask writes (Reads told piece rest) (start, size, reads, left) = absurd (cc (writes, reads))
drives_write disk offset payload ask writes (Writes bytes stage piece rest) (start, own, (before, cut)) =
    let both : disk_asks.Write start bytes ≡ disk_asks.Write offset payload = sym own ∙ writes in
    let from : start ≡ offset = cc (both) in
    let bytes_so : bytes ≡ payload = cc (both) in
    record {
      stage = stage;
      piece = piece;
      rest = rest;
      before = before;
      same = ap (λ (b : List ℕ). Writes b stage piece rest) bytes_so;
      cut = sym (λ i. pieces disk.inode.spec.shift (from i) (length (bytes_so i))) ∙ cut;
    }
drives_write disk offset payload ask writes Answered is = absurd is

-- a write that is replied to as it begins, and isn't refused, has no pieces
pub begin_replies : (disk : Disk) (offset : ℕ) (payload : List ℕ) (rsp : GuestRsp)
    → (begin_driver disk (disk_asks.Write offset payload)).act ≡ acts.Reply rsp → is_refusal rsp ≡ false
    → pieces disk.inode.spec.shift offset (length payload) ≡ []
unfolding begin_driver
begin_replies disk offset payload rsp is accepts = by_refusal (refusal_on disk false (disk_asks.Write offset payload)) is
  where
    by_refusal : (refusal : Option Cause)
        → (begin_unless_refused disk.inode (disk_asks.Write offset payload) refusal).act ≡ acts.Reply rsp
        → pieces disk.inode.spec.shift offset (length payload) ≡ []
    by_refusal (Some cause) is =
        let told : answers.Refused cause ≡ rsp = cc (is) in
        let refuses : is_refusal rsp ≡ true = ap is_refusal (sym told) in
        absurd (cc (refuses, accepts))
    by_refusal None is = none_left rsp disk.inode payload (pieces disk.inode.spec.shift offset (length payload)) is

by_act : (act : DriverAct) (rsp : GuestRsp) → outcome_of_driver act ≡ ToReply rsp → act ≡ acts.Reply rsp
by_act (acts.Work work) rsp is = absurd (cc (is))
by_act (acts.Reply other) rsp is = let same : other ≡ rsp = cc (is) in ap (λ (r : GuestRsp). acts.Reply r) same

module _ (script : List Statement) (range : RunsAreInRange script) (events : List Move) (start : MomentWithPast)
    (ran : run_with_past script events ≡ Some start) (on : SteppingNode) (is : IsStepping script start.world on)
    (by : StepsByChanges on.cause) (so_far next : StepState) (within : IsWithinStep on so_far next)
    (trail : MomentTrail script start (moment_in_step script on start so_far)) (good_id : ℕ → Bool)
    (tables : TablesStayTheInodes (log_effects (moment_in_step script on start so_far).world.log) good_id
    (moment_in_step script on start so_far).world.hosts (moment_in_step script on start so_far).past.attempts) where
  abbrev IsAlone : ℕ → Type 0
  IsAlone req =
      IsAloneWhereWritten (log_effects (moment_in_step script on start next).world.log) good_id
      (moment_in_step script on start next).world.hosts (moment_in_step script on start next).past.attempts
      (ledger_of (moment_in_step script on start so_far).past.history) req

  -- ---- a write

  module _ (none : (host : Host) → attempts_of_change host so_far next within.change ≡ []) (req offset : ℕ) (payload : List ℕ)
      (writes : asked_by script req ≡ Some (asks.Disk (disk_asks.Write offset payload))) (rsp : GuestRsp)
      (accepts : is_refusal rsp ≡ false) where
    -- it is no other request
    abbrev IsPlaced : ℕ → Course → Type 0
    IsPlaced session course =
        (disk : Option ℕ) × IsCourseOfAsk (asked_by script req) (session_among session so_far.node.sessions).disk disk course

    placed : (session : ℕ) (course : Course) → tree.get so_far.node.requests req ≡ Some (record { session = session; course = course })
        → (disk : Option ℕ) × IsCourseOfAsk (asked_by script req) (session_among session so_far.node.sessions).disk disk course
    placed session course got =
        course_in_step script range events start ran on is by so_far within.leads req (record { session = session; course = course }) got
        (asked_none (asked_by script req) (asks.Disk (disk_asks.Write offset payload)) course writes)

    brought : (session : ℕ) (ask : Ask) → input_of_cause on.cause ≡ inputs.Guest req session ask → asked_by script req ≡ Some ask
    brought session ask from =
        asked_in_step script range events start ran on is by so_far within.leads req session ask from (λ none. cc (none, writes))

    begun : (session : ℕ) (ask : DiskAsk) (disk : Disk)
        → tree.get so_far.node.requests req ≡ Some (record { session = session; course = Waiting ask })
        → (session_among session so_far.node.sessions).disk ≡ Some disk → (begin_driver disk ask).act ≡ acts.Reply rsp → IsAlone req
    begun session ask disk got opened replies =
        let asked = (placed session (Waiting ask) got).1.0 in
        let same : ask ≡ disk_asks.Write offset payload = cc (asked, writes) in
        let no_pieces : pieces disk.inode.spec.shift offset (length payload) ≡ []
        = begin_replies disk offset payload rsp (subst (λ (a : DiskAsk). (begin_driver disk a).act ≡ acts.Reply rsp) same replies)
        accepts in
        let no_piece : (one : Piece) → Contains (pieces disk.inode.spec.shift offset (length payload)) one → ⊥
        = λ one among. Contains-nil one (subst (λ (all : List Piece). Contains all one) no_pieces among) in
        replied_so script range events start ran on is by so_far next within trail good_id none req offset payload writes
        (record { session = session; course = Waiting ask }) got disk opened
        (record {
          bytes = λ one among. absurd (no_piece one among);
          entries = λ good alive one among index j entry at inside comes. absurd (no_piece one among);
        })

    goes_on : (session number : ℕ) (work : Work) (attempt : gateways.Attempt) (status : Status) (bytes : List ℕ) (driver : Driver)
        (disk : Disk) (step : DriverStep)
        → EndsWork (input_of_cause on.cause) on.host.node so_far session req number work attempt status (Driving driver) bytes
        → (session_among session so_far.node.sessions).disk ≡ Some disk → driver_on_done disk.inode bytes driver ≡ Some step
        → step.act ≡ acts.Reply rsp → IsAlone req
    goes_on session number work attempt status bytes driver disk step ends opened goes replies =
        let course = (placed session (Driving driver) ends.ends.request).1 in
        let of = course.of in
        let ask_so : course.ask ≡ disk_asks.Write offset payload = cc (of, writes) in
        let disk_so : course.on.disk ≡ disk = same_Some course.on.disk disk (sym course.on.there ∙ opened) in
        let d = drives_write disk offset payload course.ask ask_so driver
        (subst (λ (k : Disk). IsDriverOf k course.ask driver) disk_so course.is) in
        let driven : EndsWork (input_of_cause on.cause) on.host.node so_far session req number work attempt status
        (Driving (Writes payload d.stage d.piece d.rest)) bytes
        = subst (λ (k : Driver). EndsWork (input_of_cause on.cause) on.host.node so_far session req number work attempt status (Driving k)
        bytes) d.same ends in
        let went : driver_on_done disk.inode bytes (Writes payload d.stage d.piece d.rest) ≡ Some step
        = ap (driver_on_done disk.inode bytes) (sym d.same) ∙ goes in
        replied_so script range events start ran on is by so_far next within trail good_id none req offset payload writes
        (record { session = session; course = Driving driver }) ends.ends.request disk opened
        (pieces_alone script range events start ran on is by so_far next within trail good_id tables session req number work attempt status
        bytes payload d.stage d.piece d.rest disk step rsp driven opened went replies offset d.before d.cut)

    by_steps : (session : ℕ) (outcome : Outcome) (moved : StepState)
        → RequestSteps (input_of_cause on.cause) on.host.node so_far session req outcome moved → outcome ≡ ToReply rsp → IsAlone req
    by_steps session outcome moved (DiskBegins ask disk got on_disk may) to =
        begun session ask disk got on_disk (by_act (begin_driver disk ask).act rsp to)
    by_steps session outcome moved (DiskGoesOn number work attempt status bytes driver disk step ends on_disk goes) to =
        goes_on session number work attempt status bytes driver disk step ends
        (sym (same_view (λ (s : Session). s.disk) so_far.node.sessions session _ refl session) ∙ on_disk) goes (by_act step.act rsp to)
    by_steps session outcome moved (CommandBegins ask step arrival goes) to =
        let asked = brought session (asks.Vdi ask) arrival.from in absurd (cc (asked, writes))
    by_steps session outcome moved (CommandGoesOn number work attempt status bytes op step ends goes) to =
        let asked = (placed session (Commanding op) ends.ends.request).1.of in absurd (cc (asked, writes))
    by_steps session outcome moved (CommandDecided entry op step from read got waits goes) to =
        let asked = (placed session (Commanding op) got).1.of in absurd (cc (asked, writes))
    by_steps session outcome moved (CheckBegins inode arrival on_disk) to =
        let asked = brought session _ arrival.from in absurd (cc (asked, writes))
    by_steps session outcome moved (CheckGoesOn number work attempt status bytes check step ends goes) to =
        let asked = (placed session (Checking check) ends.ends.request).1.of in absurd (cc (asked, writes))
    by_steps session outcome moved (ObjectBegins what arrival) to =
        let asked = brought session (asks.Object what) arrival.from in absurd (cc (asked, writes))
    by_steps session outcome moved (ObjectIsDone number work attempt status bytes what ends) to =
        absurd (placed session (DoingWork what) ends.ends.request).1
    by_steps session outcome moved (EntryBegins entry arrival) to =
        let asked = brought session (asks.Entry entry) arrival.from in absurd (cc (asked, writes))
    by_steps session outcome moved (EntryDecided entry wanted from read got waits) to =
        absurd (placed session (AwaitingDecision wanted) got).1

  -- ---- each reply

  pub reply_alone : (reply : ℕ × GuestRsp) → Contains next.outputs.replies reply
      → ((one : ℕ × GuestRsp) → Contains so_far.outputs.replies one → one.0 ≢ reply.0) → is_refusal reply.1 ≡ false
      → (is_check_at script reply.0 ≡ true
      → IsAloneWhereWritten (log_effects (moment_in_step script on start next).world.log) good_id
      (moment_in_step script on start next).world.hosts (moment_in_step script on start next).past.attempts
      (ledger_of (moment_in_step script on start so_far).past.history) reply.0)
      → IsAloneWhereWritten (log_effects (moment_in_step script on start next).world.log) good_id
      (moment_in_step script on start next).world.hosts (moment_in_step script on start next).past.attempts
      (ledger_of (moment_in_step script on start so_far).past.history) reply.0
  reply_alone reply among free accepts checks =
      by_value (list_any (begins_write_of reply.0) (moment_in_step script on start so_far).past.history) refl
    where
      told_now : IsRepliedBy (input_of_cause on.cause) on.host.node so_far next within.change reply
      told_now = replied_by (input_of_cause on.cause) on.host.node so_far reply accepts free next within.change among

      by_writer : IsWriterAt script reply.0 → IsAlone reply.0
      by_writer (inl writes) =
          let (offset, payload, asked) = write_asks (request_at script reply.0) writes in
          by_steps told_now.none reply.0 offset payload asked reply.1 accepts told_now.session (ToReply reply.1) told_now.moved
          told_now.steps refl
      by_writer (inr checked) = checks checked

      by_value : (b : Bool) → list_any (begins_write_of reply.0) (moment_in_step script on start so_far).past.history ≡ b → IsAlone reply.0
      by_value false none =
          let later : MomentWithPast = moment_in_step script on start next in
          let history = (moment_in_step script on start so_far).past.history in
          none_alone (log_effects later.world.log) good_id later.world.hosts later.past.attempts (ledger_of history) reply.0
          (none_by_history reply.0 history (none_behind reply.0 history false none refl))
      by_value true so = by_writer (writer_here script range events start ran on is by so_far within.leads reply.0 so)
