-- Where the reads of a node stand on the disks that their sessions have open, and what a reply to a read tells.
use Rattle.std.specs.Prelude.{◌≡◌, ◌≢◌, ◌⊎◌, ℕ, ◌+◌, ◌*◌, ◌<◌, ◌≤◌, ◌++◌, Bool, true, false, Contains, List, length, Option, Some, None}
use Rattle.std.specs.Prelude.{IsTrue, IfSome}
use Rattle.std.specs.List.{list_all}
use Rattle.std.specs.Option.{option_and_then}
use Rattle.std.specs.FinMap as tree
use Rattle.cluster_script.specs.declared.statement.Statement.{Statement}
use Rattle.cluster_script.specs.NumberedRequests.{request_at}
use Rattle.object_id.specs.declared.entry.VdiSpec.{VdiSpec}
use Rattle.object_id.specs.Spec.{IsSpec}
use Rattle.object_id.specs.declared.oid.Kind.TheVariants.{Block}
use Rattle.gf256.specs.Part.{is_in_strips}
use Rattle.disk_history.specs.declared.event.HistEvent.{HistEvent}
use Rattle.disk_history.specs.declared.event.HistEvent.TheVariants.{Read}
use Rattle.disk_history.specs.Ledger as histories
use Rattle.disk_history.specs.Ledger.{Ledger}
use Rattle.inode.specs.Layout.{Content}
use Rattle.vdi_directory.specs.declared.effect.Effect.{Effect}
use Rattle.vdi_directory.specs.Decisions.{log_effects}
use Rattle.vdi_directory.specs.States.{state_of, is_live_state}
use Rattle.vdi_ops.specs.Op.{Op}
use Rattle.peer_proto.specs.declared.guest.DiskAsk.{DiskAsk}
use Rattle.peer_proto.specs.declared.guest.DiskAsk.TheVariants as disk_asks
use Rattle.peer_proto.specs.declared.guest.GuestRsp.{GuestRsp}
use Rattle.peer_proto.specs.declared.guest.GuestRsp.TheVariants.{Piece as Told}
use Rattle.gateway_queue.specs.Queue.{may_run}
use Rattle.gateway.specs.declared.message.Status.{Status}
use Rattle.gateway.specs.Attempt.{Attempt}
use Rattle.gateway.specs.State.{Work}
use Rattle.guest_driver.specs.declared.act.DriverAct.{DriverAct}
use Rattle.guest_driver.specs.declared.disk.Disk.{Disk}
use Rattle.guest_driver.specs.Driver.{Driver, Reads, Writes, Answered}
use Rattle.guest_driver.specs.Extent.{IsExtent, first_index_of, last_index_of}
use Rattle.guest_driver.specs.Pieces.{Piece, is_ask, pieces}
use Rattle.guest_driver.specs.PieceWorks.{entry_of}
use Rattle.sheep_node.specs.declared.ask.Ask.{Ask}
use Rattle.sheep_node.specs.declared.ask.Ask.TheVariants as asks
use Rattle.sheep_node.specs.declared.course.Course.{Course}
use Rattle.sheep_node.specs.declared.course.Course.TheVariants.{Waiting, Driving, Commanding, Checking, DoingWork, AwaitingDecision}
use Rattle.sheep_node.specs.declared.course.Request.{Request}
use Rattle.sheep_node.specs.declared.event.Event.{Event}
use Rattle.sheep_node.specs.declared.input.Input.{Input}
use Rattle.sheep_node.specs.declared.input.Input.TheVariants as inputs
use Rattle.sheep_node.specs.Changes.{HasRequest, EndsWork}
use Rattle.sheep_node.specs.State.{Node, session_at}
use Rattle.sheep_node.specs.StepState.{StepState}
use Rattle.sheep_world.specs.Asking.{ask_of_statement}
use Rattle.sheep_world.specs.ClientAsks.{is_read_ask}
use Rattle.sheep_world.specs.NodeCauses.{input_of_cause}
use Rattle.sheep_world.specs.Step.{EventOutcome}
use Rattle.sheep_world.specs.World.{Host}
use Rattle.sheep_world.specs.RunsWithAsks.{Move}
use Rattle.sheep_world.specs.Began.{MakesMove}
use Rattle.overlap_law.specs.Attempts.{AttemptRecord}
use Rattle.overlap_law.specs.Each.{spec_in}
use Rattle.overlap_law.specs.Headline.{ledger_of}
use Rattle.overlap_law.specs.Holders.{is_available_disk}
use Rattle.overlap_law.specs.MomentChanges.{IsOnTheWay}
use Rattle.overlap_law.specs.Past.{MomentWithPast, run_with_past}
use Rattle.overlap_law.specs.StayingBlocks.{IsHomeToCome, are_apart}
use Rattle.overlap_law.specs.StepMoments.{SteppingNode, IsStepping, StepsByChanges, LeadsInStep, first_in_step, moment_in_step}
use Rattle.overlap_law.specs.Words.{Hosts}
use Rattle.overlap_law.specs.WrittenBlocks.{blocks_per_object}
use Rattle.overlap_law.specs.ToldReads.{PieceIsToCome, HolesAreToCome, WhatIsToldMayBeRead, MayStayReadAs}
use Rattle.overlap_law.specs.ToldReads.{AllKeepReadsOf, IsDiskOf, Reading, ReadStands, IsReadUpTo, PieceMayBeRead, HolesMayBeRead}
use Rattle.overlap_law.specs.ToldReads.{extent_on}

-- a read that goes on, inside the disk of an inode, has been told as is asked of the blocks before its piece
abbrev pub IsDriverStanding : Reading → Ledger → List Effect → (ℕ → Bool) → Content → ℕ → ℕ → Driver → Type 0
IsDriverStanding May ledger effects good_id inode offset size (Reads told piece rest) =
    IsExtent (extent_on inode offset size) × (offset + size ≤ inode.spec.size)
    × ((act : DriverAct) → ReadStands May ledger effects good_id inode (extent_on inode offset size) (Reads told piece rest) act)
IsDriverStanding May ledger effects good_id inode offset size (Writes payload stage piece rest) = ⊥
IsDriverStanding May ledger effects good_id inode offset size Answered = Unit {0}

-- a read stands so, and nothing is asked of a write
abbrev pub IsAskStanding : Reading → Ledger → List Effect → (ℕ → Bool) → Content → DiskAsk → Driver → Type 0
IsAskStanding May ledger effects good_id inode (disk_asks.Read offset size) driver =
    IsDriverStanding May ledger effects good_id inode offset size driver
IsAskStanding May ledger effects good_id inode (disk_asks.Write offset payload) driver = Unit {0}

-- what is asked, if anything is, is no read or write
abbrev pub IsNoDiskAsk : Option Ask → Type 0
IsNoDiskAsk asked = (ask : DiskAsk) → asked ≡ Some (asks.Disk ask) → ⊥

-- a request that asks so stands, with what its session has open
abbrev pub IsCourseStanding : Reading → Ledger → List Effect → (ℕ → Bool) → Option Ask → Option Disk → Course → Type 0
IsCourseStanding May ledger effects good_id asked opened (Waiting ask) = (asked ≡ Some (asks.Disk ask)) × IsTrue (is_ask ask)
IsCourseStanding May ledger effects good_id asked opened (Driving driver) =
    (ask : DiskAsk) × (asked ≡ Some (asks.Disk ask))
    × IfSome opened (λ (disk : Disk). IsAskStanding May ledger effects good_id disk.inode ask driver)
IsCourseStanding May ledger effects good_id asked opened (Commanding op) = IsNoDiskAsk asked
IsCourseStanding May ledger effects good_id asked opened (Checking check) = IsNoDiskAsk asked
IsCourseStanding May ledger effects good_id asked opened (DoingWork work) = IsNoDiskAsk asked
IsCourseStanding May ledger effects good_id asked opened (AwaitingDecision entry) = IsNoDiskAsk asked

-- each request of a node does
pub record ReadsStand (May : Reading) (ledger : Ledger) (effects : List Effect) (good_id : ℕ → Bool) (asked : ℕ → Option Ask) (node : Node)
    : Type 0 where
  pub each : (req : ℕ) (request : Request) → tree.get node.requests req ≡ Some request
      → IsCourseStanding May ledger effects good_id (asked req) (session_at request.session node).disk request.course

-- what a reply tells a read, of the disk of an inode, is as is asked of all of its blocks
abbrev pub IsToldAll : Reading → Ledger → List Effect → (ℕ → Bool) → Content → Option Ask → GuestRsp → Type 0
IsToldAll May ledger effects good_id inode asked reply =
    (offset size : ℕ) (told : List ℕ) → asked ≡ Some (asks.Disk (disk_asks.Read offset size)) → reply ≡ Told told
    → IsExtent (extent_on inode offset size) × (offset + size ≤ inode.spec.size)
    × IsReadUpTo May ledger effects good_id inode (extent_on inode offset size) (last_index_of (extent_on inode offset size) + 1) told

-- what comes to a node is what is asked under its number, or a client's read, under whose number nothing is asked
abbrev pub IsBroughtBy : (ℕ → Option Ask) → ℕ → Ask → Type 0
IsBroughtBy asked req ask = (asked req ≡ Some ask) ⊎ ((asked req ≡ None) × (is_read_ask ask ≡ true))

-- what the reads of a node need to go on, at a point of its step: that the step brings what was asked, or a client's read, that the disks
-- that sessions have open are sound, and that zeros are as is asked of the holes that a read comes to, as it begins or as a piece of it
-- comes, and what comes of the piece is as is asked of its blocks. Where another write enters its entry by then, a hole is none any more;
-- but no read that has begun comes to it
pub record ReadsMayGoOn (May_be : Reading) (ledger : Ledger) (effects : List Effect) (good_id : ℕ → Bool) (asked : ℕ
    → Option Ask) (input : Input) (node : Node) (so_far : StepState) : Type 0 where
  pub brought : (req session : ℕ) (ask : Ask) → input ≡ inputs.Guest req session ask → IsBroughtBy asked req ask
  pub sound : (session : ℕ) (disk : Disk) → (session_at session so_far.node).disk ≡ Some disk → IsSpec disk.inode.spec
  pub begins : (session req offset size : ℕ) (disk : Disk) → HasRequest session req (Waiting (disk_asks.Read offset size)) so_far
      → (session_at session so_far.node).disk ≡ Some disk → may_run req (session_at session so_far.node).queue ≡ true
      → HolesMayBeRead May_be ledger effects good_id disk.inode (pieces disk.inode.spec.shift offset size)
  pub comes : (session req number : ℕ) (work : Work) (attempt : Attempt) (status : Status) (told bytes : List ℕ) (piece : Piece)
      (rest : List Piece) (disk : Disk)
      → EndsWork input node so_far session req number work attempt status (Driving (Reads told piece rest)) bytes
      → (session_at session so_far.node).disk ≡ Some disk
      → PieceMayBeRead May_be ledger effects good_id disk.inode piece bytes × HolesMayBeRead May_be ledger effects good_id disk.inode rest

-- ---- in a moment

-- what the script's request of a number asks
abbrev pub asked_in : List Statement → ℕ → Option Ask
asked_in script req = option_and_then ask_of_statement (request_at script req)

-- the reads of each node that isn't lost stand
pub record AllReadsStand (script : List Statement) (May_be : Reading) (ledger : Ledger) (effects : List Effect) (good_id : ℕ → Bool)
    (hosts : Hosts) : Type 0 where
  pub each : (n : ℕ) (host : Host) → tree.get hosts n ≡ Some host → host.is_lost ≡ false
      → ReadsStand May_be ledger effects good_id (asked_in script) host.node

-- they may go on in whatever step of an event a moment is in the middle of
pub record ReadsMayGoOnIn (script : List Statement) (start before : MomentWithPast) (May_be : Reading) (ledger : Ledger)
    (effects : List Effect) (good_id : ℕ → Bool) : Type 0 where
  pub each : (stepping : SteppingNode) (so_far : StepState) → IsStepping script start.world stepping → StepsByChanges stepping.cause
      → LeadsInStep stepping (first_in_step stepping) so_far → before ≡ moment_in_step script stepping start so_far
      → ReadsMayGoOn May_be ledger effects good_id (asked_in script) (input_of_cause stepping.cause) stepping.host.node so_far

-- what comes of the piece of a read, in whatever step of an event a moment is in the middle of, is as long as the piece; and of a good disk
-- that is there it is to come: of the id that an entry of the disk's inode may come to name, or of its own
pub record ReadPiecesAreToCome (script : List Statement) (start before : MomentWithPast) (ledger : Ledger) (effects : List Effect)
    (good_id : ℕ → Bool) : Type 0 where
  pub each : (stepping : SteppingNode) (so_far : StepState) → IsStepping script start.world stepping → StepsByChanges stepping.cause
      → LeadsInStep stepping (first_in_step stepping) so_far → before ≡ moment_in_step script stepping start so_far
      → (session req number : ℕ) (work : Work) (attempt : Attempt) (status : Status) (told bytes : List ℕ) (piece : Piece)
      (rest : List Piece) (disk : Disk)
      → EndsWork (input_of_cause stepping.cause) stepping.host.node so_far session req number work attempt status
      (Driving (Reads told piece rest)) bytes
      → (session_at session so_far.node).disk ≡ Some disk
      → (length bytes ≡ piece.size)
      × (good_id disk.inode.vid ≡ true → is_live_state (state_of effects disk.inode.vid) ≡ true
      → (home : ℕ) × IsHomeToCome before.world.hosts before.past.attempts disk.inode.vid piece.index home × (home ≢ 0)
      × PieceIsToCome ledger effects good_id before.world.hosts before.past.attempts disk.inode home piece bytes)

-- so it is of strips, of what the table names
pub record StripPiecesAreToCome (script : List Statement) (start before : MomentWithPast) (ledger : Ledger) (effects : List Effect)
    (good_id : ℕ → Bool) : Type 0 where
  pub each : (stepping : SteppingNode) (so_far : StepState) → IsStepping script start.world stepping → StepsByChanges stepping.cause
      → LeadsInStep stepping (first_in_step stepping) so_far → before ≡ moment_in_step script stepping start so_far
      → (session req number : ℕ) (work : Work) (attempt : Attempt) (status : Status) (told bytes : List ℕ) (piece : Piece)
      (rest : List Piece) (disk : Disk)
      → EndsWork (input_of_cause stepping.cause) stepping.host.node so_far session req number work attempt status
      (Driving (Reads told piece rest)) bytes
      → (session_at session so_far.node).disk ≡ Some disk → is_in_strips disk.inode.spec.policy Block ≡ true
      → good_id disk.inode.vid ≡ true → is_live_state (state_of effects disk.inode.vid) ≡ true
      → PieceIsToCome ledger effects good_id before.world.hosts before.past.attempts disk.inode (entry_of disk.inode piece) piece bytes

-- where the table of a disk has holes that a read comes to, in whatever step of an event a moment is in the middle of, its inode may come
-- to have some: as the read begins, and as a piece of it comes
pub record ReadHolesAreToCome (script : List Statement) (start before : MomentWithPast) (effects : List Effect) (good_id : ℕ → Bool)
    : Type 0 where
  pub begins : (stepping : SteppingNode) (so_far : StepState) → IsStepping script start.world stepping → StepsByChanges stepping.cause
      → LeadsInStep stepping (first_in_step stepping) so_far → before ≡ moment_in_step script stepping start so_far
      → (session req offset size : ℕ) (disk : Disk) → HasRequest session req (Waiting (disk_asks.Read offset size)) so_far
      → (session_at session so_far.node).disk ≡ Some disk → may_run req (session_at session so_far.node).queue ≡ true
      → HolesAreToCome effects good_id before.world.hosts before.past.attempts disk.inode (pieces disk.inode.spec.shift offset size)
  pub behind : (stepping : SteppingNode) (so_far : StepState) → IsStepping script start.world stepping → StepsByChanges stepping.cause
      → LeadsInStep stepping (first_in_step stepping) so_far → before ≡ moment_in_step script stepping start so_far
      → (session req number : ℕ) (work : Work) (attempt : Attempt) (status : Status) (told bytes : List ℕ) (piece : Piece)
      (rest : List Piece) (disk : Disk)
      → EndsWork (input_of_cause stepping.cause) stepping.host.node so_far session req number work attempt status
      (Driving (Reads told piece rest)) bytes
      → (session_at session so_far.node).disk ≡ Some disk
      → HolesAreToCome effects good_id before.world.hosts before.past.attempts disk.inode rest

-- ---- as a history grows

-- what a history gets keeps what the reads of a node were told of the blocks before their pieces, from where each begins on
pub record ReadsAreKept (attempts : List AttemptRecord) (asked : ℕ → Option Ask) (history grown : List HistEvent) (node : Node)
    : Type 0 where
  pub each : (req offset size : ℕ) (request : Request) (told : List ℕ) (piece : Piece) (rest : List Piece) (disk : Disk)
      → tree.get node.requests req ≡ Some request → request.course ≡ Driving (Reads told piece rest)
      → asked req ≡ Some (asks.Disk (disk_asks.Read offset size)) → (session_at request.session node).disk ≡ Some disk
      → (index unit : ℕ) → first_index_of (extent_on disk.inode offset size) ≤ index → index < piece.index
      → unit < blocks_per_object disk.inode.spec
      → AllKeepReadsOf attempts (ledger_of history) disk.inode.vid (index * blocks_per_object disk.inode.spec + unit) grown

-- so it is of what a change of a moment adds, at the end or before such as ends other requests, for the reads behind it; and it keeps what
-- was told so far since the event began
pub record AllReadsAreKept (script : List Statement) (start before after : MomentWithPast) : Type 0 where
  pub front : List HistEvent
  pub added : List HistEvent
  pub back : List HistEvent
  pub were : before.past.history ≡ front ++ back
  pub now : after.past.history ≡ front ++ added ++ back
  pub apart : list_all (λ (one : HistEvent). list_all (are_apart one) back) added ≡ true
  pub each : (n : ℕ) (host : Host) → tree.get after.world.hosts n ≡ Some host → host.is_lost ≡ false
      → ReadsAreKept before.past.attempts (asked_in script) before.past.history added host.node
  pub told : (grown : List HistEvent) → before.past.history ≡ start.past.history ++ grown → (vid block : ℕ) (bytes : List ℕ)
      → Contains grown (Read vid block bytes) → AllKeepReadsOf before.past.attempts (ledger_of before.past.history) vid block added

-- a disk that a history has, and that is there by the later log, was there by the earlier one, made as it is
pub record DisksWereThere (effects later : List Effect) (history : List HistEvent) : Type 0 where
  pub live : (vid : ℕ) (disk : histories.Disk) → (ledger_of history).disks vid ≡ Some disk → disk.deleted ≡ false
      → is_live_state (state_of effects vid) ≡ true
  pub made : (vid : ℕ) (disk : histories.Disk) (spec : VdiSpec) → (ledger_of history).disks vid ≡ Some disk → disk.deleted ≡ false
      → spec_in later vid ≡ Some spec → spec_in effects vid ≡ Some spec

-- a working disk that a session has open, in which no command goes on, is one of the history, as large as its inode says
pub record WorkingDisksAreOfHistory (moment : MomentWithPast) : Type 0 where
  pub each : (n : ℕ) (host : Host) → tree.get moment.world.hosts n ≡ Some host → host.is_lost ≡ false → (session : ℕ) (disk : Disk)
      → (session_at session host.node).disk ≡ Some disk → disk.snapshot ≡ false
      → ((req : ℕ) (request : Request) (op : Op) → tree.get host.node.requests req ≡ Some request → request.session ≡ session
      → request.course ≡ Commanding op → ⊥)
      → IsDiskOf (ledger_of moment.past.history) (log_effects moment.world.log) disk.inode

-- so is a snapshot that a session has open, and it is there by the log, unless the history has it deleted
pub record OpenSnapshotsAreOfHistory (moment : MomentWithPast) : Type 0 where
  pub each : (n : ℕ) (host : Host) → tree.get moment.world.hosts n ≡ Some host → (session : ℕ) (disk : Disk)
      → (session_at session host.node).disk ≡ Some disk → disk.snapshot ≡ true
      → IsDiskOf (ledger_of moment.past.history) (log_effects moment.world.log) disk.inode

-- ---- in runs

-- what the reads of nodes have on the way of events, of the disks that were available as the event began: at each moment they stand by the
-- history, and go on with what may be read, and what the next change adds to the history keeps what they were told
pub record IsServingReads (script : List Statement) (start before after : MomentWithPast) (good_id : ℕ → Bool) : Type 0 where
  pub stand : AllReadsStand script (MayStayReadAs before.past.attempts) (ledger_of before.past.history) (log_effects before.world.log)
      good_id before.world.hosts
  pub goes : ReadsMayGoOnIn script start before (MayStayReadAs before.past.attempts) (ledger_of before.past.history)
      (log_effects before.world.log) good_id
  pub kept : AllReadsAreKept script start before after

pub record EachChangeServesReads (script : List Statement) : Type 0 where
  pub each : (moves : List Move) (move : Move) (start end before after : MomentWithPast)
      → IsOnTheWay script moves move start end before after
      → IsServingReads script start before after (is_available_disk start.world.log start.past.unavailable)

-- each event of a run tells reads, of disks that were available up to there, what may be read
pub record EachEventTellsWhatMayBeRead (script : List Statement) : Type 0 where
  pub each : (moves : List Move) (event : Event) (before : MomentWithPast) (made : EventOutcome)
      → run_with_past script moves ≡ Some before → MakesMove script event before.world made
      → WhatIsToldMayBeRead (is_available_disk made.world.log before.past.unavailable) (ledger_of before.past.history) made.grown
