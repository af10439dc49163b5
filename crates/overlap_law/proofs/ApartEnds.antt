-- What ends a write of a block in the middle of a step: the message that the step is told of, unless the step begins with the request. For
-- a write that is done as it begins has no block, and the last work of a check writes.
use Rattle.std.proofs.Common.{◌≡◌, ◌≢◌, ◌⊎◌, inl, inr, arith, ℕ, zero, suc, ◌+◌, ◌-◌, ◌*◌, ◌/◌, ◌%◌, ◌<◌, ◌≤◌, true, false, None}
use Rattle.std.proofs.Common.{List, [], length, map, Option, Some, refl, ap, subst, ◌∙◌}
use Rattle.std.specs.List.{range_with_len}
use Rattle.std.proofs.lemmas.Option.{same_Some}
use Rattle.cluster_script.specs.declared.statement.Statement.{Statement}
use Rattle.disk_check.specs.Check.{Check, CheckStage, CheckStep, Comparing, WritingBack, Answered, check_done_at, check_on_done}
use Rattle.disk_check.specs.Check.{write_back_step}
use Rattle.disk_check.specs.Value.{pieces_in}
use Rattle.gateway.specs.Attempt as gateways
use Rattle.gateway.specs.declared.message.Status.{Status}
use Rattle.gateway.specs.State.{Work}
use Rattle.gateway.specs.Work.{is_making}
use Rattle.guest_driver.specs.declared.act.DriverAct.{DriverAct}
use Rattle.guest_driver.specs.declared.act.DriverAct.TheVariants as acts
use Rattle.guest_driver.specs.declared.disk.Disk.{Disk}
use Rattle.guest_driver.specs.Driver.{begin_driver}
use Rattle.guest_driver.specs.Pieces.{first_index, last_index, piece_in, pieces}
use Rattle.peer_proto.specs.declared.guest.DiskAsk.{DiskAsk}
use Rattle.peer_proto.specs.declared.guest.DiskAsk.TheVariants as disk_asks
use Rattle.peer_proto.specs.declared.guest.GuestRsp.{GuestRsp}
use Rattle.peer_proto.specs.declared.guest.VdiAsk.TheVariants as disk_commands
use Rattle.peer_proto.specs.declared.work.ObjWork.{ObjWork}
use Rattle.sheep_node.specs.declared.ask.Ask.{Ask}
use Rattle.sheep_node.specs.declared.ask.Ask.TheVariants as asks
use Rattle.sheep_node.specs.declared.course.Course.{Course}
use Rattle.sheep_node.specs.declared.course.Course.TheVariants.{Waiting, Driving, Commanding, Checking, DoingWork, AwaitingDecision}
use Rattle.sheep_node.specs.declared.course.Request.{Request}
use Rattle.sheep_node.specs.declared.input.Input.TheVariants as inputs
use Rattle.sheep_node.specs.Changes as changes
use Rattle.sheep_node.specs.Changes.{EndsWork, HasRequest, IsTold, Outcome, RequestSteps, ToReply, outcome_of_check, outcome_of_driver}
use Rattle.sheep_node.specs.Changes.{DiskBegins, DiskGoesOn, CommandBegins, CommandGoesOn, CommandDecided, CheckBegins, CheckGoesOn}
use Rattle.sheep_node.specs.Changes.{ObjectBegins, ObjectIsDone, EntryBegins, EntryDecided}
use Rattle.sheep_node.specs.State.{session_at}
use Rattle.sheep_node.specs.StepState.{StepState, at_first}
use Rattle.sheep_node.specs.WantedWorks.{IsWantedAt, IsWorkOfCheck}
use Rattle.sheep_world.specs.NodeCauses.{input_of_cause, progress_at_cause}
use Rattle.sheep_world.specs.RunsWithAsks.{Move}
use Rattle.vdi_ops.specs.Op.{Op}
use Rattle.overlap_law.specs.MomentChanges.{RunsAreInRange}
use Rattle.overlap_law.specs.Past.{MomentWithPast, run_with_past}
use Rattle.overlap_law.specs.PastWords.{is_refusal}
use Rattle.overlap_law.specs.StepMoments.{SteppingNode, IsStepping, StepsByChanges, IsWithinStep, LeadsInStep, last_in_step}
use Rattle.overlap_law.proofs.ApartNumbers.{AwaitsIt}
use Rattle.overlap_law.proofs.ApartReads.{AsCheck, AsWrite, WritesBlock, is_checking, well}
use Rattle.overlap_law.proofs.CoursesOfAsks.{IsPlacedAt, placed_by_ask}
use Rattle.overlap_law.proofs.CoursesOfScript.{BeganOn, asked_by}
use Rattle.overlap_law.proofs.DisksOfWriters.{AsksToWrite, plain_course, some_asked}
use Rattle.overlap_law.proofs.MomentTrails.{leads_joined}
use Rattle.overlap_law.proofs.PiecesUnderWay.{whole_blocks}
use Rattle.overlap_law.proofs.ReadsToldDisks.{placed_at}
use Rattle.overlap_law.proofs.RepliedSteps.{begin_replies}
use Rattle.overlap_law.proofs.StandingMeets.{from_first, to_last}

-- ---- words

-- a request that writes a block has a piece
map_some : {X : Type 0} (make : ℕ → X) (from count : ℕ) → map make (range_with_len from count) ≡ [] → 1 ≤ count → ⊥
map_some make from zero none some = omega (arith, some)
map_some make from (suc count) none some = cc (none)

piece_some : (shift offset : ℕ) (payload : List ℕ) (place : ℕ) → offset % 512 ≡ 0 → place < length payload / 512
    → pieces shift offset (length payload) ≡ [] → ⊥
unfolding pieces
piece_some shift offset payload place whole inside none =
    let begins : offset ≤ 512 * (offset / 512 + place) = omega (arith, whole) in
    let ends : 512 * (offset / 512 + place) < offset + length payload = omega (arith, inside) in
    let low = from_first shift offset (length payload) (offset / 512 + place) begins ends in
    let high = to_last shift offset (length payload) (offset / 512 + place) begins ends in
    map_some (piece_in shift offset (length payload)) (first_index shift offset)
    (last_index shift offset (length payload) + 1 - first_index shift offset) none (omega (arith, low, high))

asks_to : (script : List Statement) (req block : ℕ) → WritesBlock script req block → AsksToWrite (asked_by script req)
asks_to script req block (AsWrite offset payload place writes inside at) = inl (offset, payload, writes)
asks_to script req block (AsCheck checks) = inr checks

-- ---- what ends a write

-- the message that a step is told of ends it, of a work that makes something if it is a check's
pub record IsEndedBy (script : List Statement) (stepping : SteppingNode) (so_far : StepState) (req : ℕ) : Type 0 where
  pub number : ℕ
  pub status : Status
  pub told : IsTold (input_of_cause stepping.cause) number status
  pub asked : ObjWork
  pub awaits : AwaitsIt number so_far.node.gateway.works req asked
  pub making : asked_by script req ≡ Some (asks.Vdi disk_commands.Check) → is_making asked ≡ true

-- the request is there
pub record IsThere (so_far : StepState) (req : ℕ) : Type 0 where
  pub session : ℕ
  pub course : Course
  pub there : HasRequest session req course so_far

-- or the step begins with it
pub record Comes (stepping : SteppingNode) (so_far : StepState) (req : ℕ) : Type 0 where
  pub session : ℕ
  pub ask : Ask
  pub from : input_of_cause stepping.cause ≡ inputs.Guest req session ask
  pub first : so_far ≡ at_first stepping.host.node

module _ (script : List Statement) (range : RunsAreInRange script) (events : List Move) (start : MomentWithPast)
    (run : run_with_past script events ≡ Some start) (stepping : SteppingNode) (is : IsStepping script start.world stepping)
    (by : StepsByChanges stepping.cause) (so_far next : StepState) (within : IsWithinStep stepping so_far next) where
  rest : LeadsInStep stepping so_far (last_in_step stepping)
  rest = leads_joined (changes.Then changes.Still within.change) within.rest

  pub there_or_comes : (session req : ℕ) (outcome : Outcome) (moved : StepState)
      → RequestSteps (input_of_cause stepping.cause) stepping.host.node so_far session req outcome moved
      → IsThere so_far req ⊎ Comes stepping so_far req
  there_or_comes session req outcome moved (DiskBegins ask disk there on runs) =
      inl (record { session = session; course = Waiting ask; there = there })
  there_or_comes session req outcome moved (DiskGoesOn number work attempt status bytes driver disk step ends on goes) =
      inl (record { session = session; course = Driving driver; there = ends.ends.request })
  there_or_comes session req outcome moved (CommandBegins ask step arrival goes) =
      inr (record { session = session; ask = asks.Vdi ask; from = arrival.from; first = arrival.first })
  there_or_comes session req outcome moved (CommandGoesOn number work attempt status bytes op step ends goes) =
      inl (record { session = session; course = Commanding op; there = ends.ends.request })
  there_or_comes session req outcome moved (CommandDecided entry op step from read there waits goes) =
      inl (record { session = session; course = Commanding op; there = there })
  there_or_comes session req outcome moved (CheckBegins inode arrival on) =
      inr (record { session = session; ask = asks.Vdi disk_commands.Check; from = arrival.from; first = arrival.first })
  there_or_comes session req outcome moved (CheckGoesOn number work attempt status bytes check step ends goes) =
      inl (record { session = session; course = Checking check; there = ends.ends.request })
  there_or_comes session req outcome moved (ObjectBegins what arrival) =
      inr (record { session = session; ask = asks.Object what; from = arrival.from; first = arrival.first })
  there_or_comes session req outcome moved (ObjectIsDone number work attempt status bytes what ends) =
      inl (record { session = session; course = DoingWork what; there = ends.ends.request })
  there_or_comes session req outcome moved (EntryBegins entry arrival) =
      inr (record { session = session; ask = asks.Entry entry; from = arrival.from; first = arrival.first })
  there_or_comes session req outcome moved (EntryDecided entry wanted from read there waits) =
      inl (record { session = session; course = AwaitingDecision wanted; there = there })

  pub placed : (session req : ℕ) (course : Course) → HasRequest session req course so_far
      → IsPlacedAt (asked_by script) (BeganOn script (progress_at_cause stepping.cause start.world)) req
      (session_at session so_far.node).disk course
  placed session req course there = placed_at script range events start run stepping is by so_far within.leads session req course there

  -- the last work of a check makes something
  check_makes : (session req number : ℕ) (work : Work) (attempt : gateways.Attempt) (status : Status) (bytes : List ℕ) (check : Check)
      (step : CheckStep) (rsp : GuestRsp)
      → EndsWork (input_of_cause stepping.cause) stepping.host.node so_far session req number work attempt status (Checking check) bytes
      → check_on_done bytes check ≡ Some step → outcome_of_check step.act ≡ ToReply rsp → is_making work.work ≡ true
  unfolding check_on_done
  check_makes session req number work attempt status bytes check step rsp ends goes to =
      by_stage check.stage
      (subst (λ (o : Option Request). IsWantedAt so_far.node.sessions o work.work) ends.ends.request
      ((well script range events start run stepping is by so_far within.leads rest).wanted req work.work
      (inl (work, ends.ends.learns.there, refl)))) goes
    where
      by_stage : (stage : CheckStage) → IsWorkOfCheck check stage work.work → check_done_at bytes check stage ≡ Some step
          → is_making work.work ≡ true
      by_stage (Comparing index later) wanted goes =
          let back : CheckStep = write_back_step check index later (pieces_in check.spec bytes) in
          let never = ap (λ (s : CheckStep). outcome_of_check s.act) (same_Some back step goes) ∙ to in
          absurd (cc (never))
      by_stage (WritingBack later) (index, value, same) goes = ap is_making same
      by_stage Answered wanted goes = absurd wanted

  -- so it is of each request that writes a block
  module _ (req block : ℕ) (writer : WritesBlock script req block) (rsp : GuestRsp) (accepts : is_refusal rsp ≡ false) where
    -- of whom a work is done, that isn't a check
    ended : (session number : ℕ) (work : Work) (attempt : gateways.Attempt) (status : Status) (course : Course) (bytes : List ℕ)
        → EndsWork (input_of_cause stepping.cause) stepping.host.node so_far session req number work attempt status course bytes
        → (asked_by script req ≡ Some (asks.Vdi disk_commands.Check) → is_making work.work ≡ true) → IsEndedBy script stepping so_far req
    ended session number work attempt status course bytes ends making = record {
      number = number;
      status = status;
      told = ends.ends.learns.told;
      asked = work.work;
      awaits = record { work = work; there = ends.ends.learns.there; awaits = ends.ends.learns.awaited; same = refl };
      making = making;
    }

    no_check_there : (session : ℕ) (course : Course) → HasRequest session req course so_far → ((check : Check) → course ≢ Checking check)
        → asked_by script req ≢ Some (asks.Vdi disk_commands.Check)
    no_check_there session course there never checks =
        let at = placed_by_ask (asked_by script) (BeganOn script (progress_at_cause stepping.cause start.world)) req
        (asks.Vdi disk_commands.Check) checks (session_at session so_far.node).disk course (placed session req course there) in
        let on = is_checking (asked_by script req) checks (session_at session so_far.node).disk at.0 course at.2 in
        never on.check on.checks

    no_command : (session : ℕ) (op : Op) → HasRequest session req (Commanding op) so_far → ⊥
    no_command session op there =
        let at = placed session req (Commanding op) there in
        (plain_course (asked_by script req) (asks_to script req block writer) (session_at session so_far.node).disk at.0 (Commanding op)
        at.2).plain op refl

    begins : (session : ℕ) (ask : DiskAsk) (disk : Disk) → HasRequest session req (Waiting ask) so_far
        → (begin_driver disk ask).act ≡ acts.Reply rsp → ⊥
    begins session ask disk there replies = by_writer writer (placed session req (Waiting ask) there).2.0
      where
        by_writer : WritesBlock script req block → asked_by script req ≡ Some (asks.Disk ask) → ⊥
        by_writer (AsWrite offset payload place writes inside at) asked =
            let same : ask ≡ disk_asks.Write offset payload = cc (asked, writes) in
            piece_some disk.inode.spec.shift offset payload place (whole_blocks script range req offset payload writes stepping.host).0
            inside
            (begin_replies disk offset payload rsp (subst (λ (a : DiskAsk). (begin_driver disk a).act ≡ acts.Reply rsp) same replies)
            accepts)
        by_writer (AsCheck checks) asked = cc (checks, asked)

    by_act : (act : DriverAct) → outcome_of_driver act ≡ ToReply rsp → act ≡ acts.Reply rsp
    by_act (acts.Work work) to = absurd (cc (to))
    by_act (acts.Reply other) to = let same : other ≡ rsp = cc (to) in ap (λ (r : GuestRsp). acts.Reply r) same

    pub ended_so : (session : ℕ) (outcome : Outcome) (moved : StepState)
        → RequestSteps (input_of_cause stepping.cause) stepping.host.node so_far session req outcome moved → outcome ≡ ToReply rsp
        → IsEndedBy script stepping so_far req ⊎ Comes stepping so_far req
    ended_so session outcome moved (DiskBegins ask disk there on runs) to =
        absurd (begins session ask disk there (by_act (begin_driver disk ask).act to))
    ended_so session outcome moved (DiskGoesOn number work attempt status bytes driver disk step ends on goes) to =
        inl (ended session number work attempt status (Driving driver) bytes ends
        (λ checks. absurd (no_check_there session (Driving driver) ends.ends.request (λ check same. cc (same)) checks)))
    ended_so session outcome moved (CommandBegins ask step arrival goes) to =
        inr (record { session = session; ask = asks.Vdi ask; from = arrival.from; first = arrival.first })
    ended_so session outcome moved (CommandGoesOn number work attempt status bytes op step ends goes) to =
        absurd (no_command session op ends.ends.request)
    ended_so session outcome moved (CommandDecided entry op step from read there waits goes) to = absurd (no_command session op there)
    ended_so session outcome moved (CheckBegins inode arrival on) to =
        inr (record { session = session; ask = asks.Vdi disk_commands.Check; from = arrival.from; first = arrival.first })
    ended_so session outcome moved (CheckGoesOn number work attempt status bytes check step ends goes) to =
        inl (ended session number work attempt status (Checking check) bytes ends
        (λ checks. check_makes session req number work attempt status bytes check step rsp ends goes to))
    ended_so session outcome moved (ObjectBegins what arrival) to =
        inr (record { session = session; ask = asks.Object what; from = arrival.from; first = arrival.first })
    ended_so session outcome moved (ObjectIsDone number work attempt status bytes what ends) to =
        let (ask, asks_it) = some_asked (asked_by script req) (asks_to script req block writer) in
        let none : asked_by script req ≡ None = placed session req (DoingWork what) ends.ends.request in
        absurd (cc (none, asks_it))
    ended_so session outcome moved (EntryBegins entry arrival) to =
        inr (record { session = session; ask = asks.Entry entry; from = arrival.from; first = arrival.first })
    ended_so session outcome moved (EntryDecided entry wanted from read there waits) to =
        absurd (placed session req (AwaitingDecision wanted) there).2
