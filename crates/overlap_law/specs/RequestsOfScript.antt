-- The run against the script: each request at a gateway is the one of its number, of a session of this incarnation,
-- with the disk on which it
-- began; each attempt is for such a one; and who is to join is new.
use Rattle.std.specs.Prelude.{◌≡◌, ℕ, true, false, List, length, ◌∷◌, ◌++◌, slice_get, Option, Some, None, is_some, ◌≢◌, Bool, []}
use Rattle.std.specs.FinMap as tree
use Rattle.cluster_script.specs.declared.statement.Statement.{Statement}
use Rattle.cluster_script.specs.declared.statement.Statement.TheVariants as lines
use Rattle.cluster_script.specs.NumberedRequests.{session_of, request_at}
use Rattle.cluster_script.specs.Sessions.{ScriptSession, session_numbered}
use Rattle.object_id.specs.declared.node.NodeId.{NodeId}
use Rattle.inode.specs.Layout.{Content}
use Rattle.peer_proto.specs.declared.guest.VdiAsk.{VdiAsk}
use Rattle.peer_proto.specs.declared.guest.VdiAsk.TheVariants.{Create, Attach, Snapshot, Clone}
use Rattle.peer_proto.specs.declared.guest.DiskAsk.{DiskAsk}
use Rattle.peer_proto.specs.declared.guest.DiskAsk.TheVariants.{Read, Write}
use Rattle.guest_driver.specs.declared.disk.Disk.{Disk}
use Rattle.guest_driver.specs.Pieces.{Piece, pieces}
use Rattle.guest_driver.specs.Driver.{Driver, Reads, Writes, Answered}
use Rattle.vdi_ops.specs.Entries.{first_entry}
use Rattle.vdi_ops.specs.Op as commands
use Rattle.vdi_ops.specs.Op.{Task, Opening, WritingBack, Tagging, Copying, Making, OpStage, Asked, Working, Publishing, Op}
use Rattle.sheep_node.specs.declared.ask.Ask.{Ask}
use Rattle.sheep_node.specs.declared.ask.Ask.TheVariants as asks
use Rattle.sheep_node.specs.declared.course.Course.{Course}
use Rattle.sheep_node.specs.declared.course.Request.{Request}
use Rattle.sheep_node.specs.declared.course.Course.TheVariants.{Waiting, Driving, Commanding, Checking, DoingWork, AwaitingDecision}
use Rattle.sheep_node.specs.State.{session_at}
use Rattle.sheep_world.specs.declared.progress.StartedRequest.{StartedRequest}
use Rattle.sheep_world.specs.World.{Host, World, progress_at, host_at}
use Rattle.sheep_world.specs.BegunRequests.{WasBegun}
use Rattle.sheep_world.specs.ControlsToCome.{controls_to_come}
use Rattle.sheep_world.specs.Asking.{ask_of_statement, session_asking}
use Rattle.overlap_law.specs.Attempts.{AttemptRecord}
use Rattle.overlap_law.specs.Each.{EachAttempt}
use Rattle.overlap_law.specs.Holders.{is_object_among}
use Rattle.disk_check.specs.Check.{CheckStage, Comparing, WritingBack, Check}
use Rattle.disk_check.specs.Check as checks
use Rattle.disk_check.specs.Table.{own_indexes, inherited_count}
use Rattle.peer_proto.specs.declared.guest.VdiAsk.TheVariants as disk_commands

-- a piece and those behind it are the last ones of a request on this disk
abbrev pub AreLeft : Disk → ℕ → ℕ → Piece → List Piece → Type 0
AreLeft disk offset size piece rest = (before : List Piece) × (pieces disk.inode.spec.shift offset size ≡ before ++ piece ∷ rest)

-- a driver is that of what was asked of the disk
abbrev pub IsDriverOf : Disk → DiskAsk → Driver → Type 0
IsDriverOf disk ask (Reads told piece rest) = (offset : ℕ) × (size : ℕ) × (ask ≡ Read offset size) × AreLeft disk offset size piece rest
IsDriverOf disk ask (Writes payload stage piece rest) = (offset : ℕ) × (ask ≡ Write offset payload)
    × AreLeft disk offset (length payload) piece rest
IsDriverOf disk ask Answered = ⊥

-- the disk on which a request began is the one that its session has open
pub record IsOnDisk (opened : Option Disk) (began : Option ℕ) : Type 0 where
  pub disk : Disk
  pub there : opened ≡ Some disk
  pub same : began ≡ Some disk.inode.vid

-- a read or write that began is the one that was asked
pub record IsDriverOfAsk (asked : Option Ask) (opened : Option Disk) (began : Option ℕ) (driver : Driver) : Type 0 where
  pub ask : DiskAsk
  pub on : IsOnDisk opened began
  pub of : asked ≡ Some (asks.Disk ask)
  pub is : IsDriverOf on.disk ask driver

-- a command's work is one that its ask leads to
abbrev pub IsTaskOfAsk : VdiAsk → Task → Type 0
IsTaskOfAsk (Create name spec) (Making entry opened) = Unit {0}
IsTaskOfAsk (Attach name tag) (Opening snapshot ids header) = snapshot ≡ is_some tag
IsTaskOfAsk (Attach name tag) (WritingBack inode) = tag ≡ None
IsTaskOfAsk (Snapshot tag) (Tagging old inode) = Unit {0}
IsTaskOfAsk (Snapshot tag) (Making entry opened) = Unit {0}
IsTaskOfAsk (Clone base tag name) (Copying ids header) = Unit {0}
IsTaskOfAsk (Clone base tag name) (Making entry opened) = Unit {0}
IsTaskOfAsk _ _ = ⊥

-- a command's last entry is one that its ask leads to
abbrev pub Publishes : VdiAsk → Type 0
Publishes (Create name spec) = Unit {0}
Publishes (Snapshot tag) = Unit {0}
Publishes (Clone base tag name) = Unit {0}
Publishes _ = ⊥

-- what a command waits for is what its ask leads to: its first entry is that of the ask
abbrev pub IsStageOfAsk : NodeId → ℕ → VdiAsk → OpStage → Type 0
IsStageOfAsk by session ask (Asked entry) = (disk : Option Content) × (first_entry by session disk ask ≡ Some entry)
IsStageOfAsk by session ask (Working vid task) = IsTaskOfAsk ask task
IsStageOfAsk by session ask (Publishing entry opened) = Publishes ask
IsStageOfAsk by session ask (commands.Answered change) = ⊥

-- a command is the one that was asked
pub record IsCommandOfAsk (asked : Option Ask) (op : Op) : Type 0 where
  pub ask : VdiAsk
  pub of : asked ≡ Some (asks.Vdi ask)
  pub is : IsStageOfAsk op.by op.session ask op.stage

-- the indexes of the own objects that a check has still to compare
abbrev pub indexes_left : CheckStage → List ℕ
indexes_left (Comparing index later) = index ∷ later
indexes_left (WritingBack later) = later
indexes_left checks.Answered = []

-- a check is at an own object of a disk, and has counted those before it, and what isn't the disk's own
pub record IsCheckOf (disk : Disk) (check : Check) : Type 0 where
  pub vid : check.vid ≡ disk.inode.vid
  pub spec : check.spec ≡ disk.inode.spec
  pub before : List ℕ
  pub indexes : before ++ indexes_left check.stage ≡ own_indexes disk.inode
  pub objects : check.found.objects ≡ length before
  pub inherited : check.found.inherited ≡ inherited_count disk.inode
  pub waits : check.stage ≢ checks.Answered

-- a check is of the working disk that its session has open
pub record IsCheckOfAsk (asked : Option Ask) (opened : Option Disk) (began : Option ℕ) (check : Check) : Type 0 where
  pub on : IsOnDisk opened began
  pub working : on.disk.snapshot ≡ false
  pub of : asked ≡ Some (asks.Vdi disk_commands.Check)
  pub is : IsCheckOf on.disk check

-- whether a request is a client's, who asks without a script
abbrev pub is_of_client : Course → Bool
is_of_client (Waiting ask) = false
is_of_client (Driving driver) = false
is_of_client (Commanding op) = false
is_of_client (Checking check) = false
is_of_client (DoingWork work) = true
is_of_client (AwaitingDecision entry) = true

-- where a request is, by what was asked, what its session has open, and on which disk it began
abbrev pub IsCourseOfAsk : Option Ask → Option Disk → Option ℕ → Course → Type 0
IsCourseOfAsk asked opened began (Waiting ask) = (asked ≡ Some (asks.Disk ask)) × IsOnDisk opened began
IsCourseOfAsk asked opened began (Driving driver) = IsDriverOfAsk asked opened began driver
IsCourseOfAsk asked opened began (Commanding op) = IsCommandOfAsk asked op
IsCourseOfAsk asked opened began (Checking check) = IsCheckOfAsk asked opened began check
IsCourseOfAsk asked opened began (DoingWork work) = ⊥
IsCourseOfAsk asked opened began (AwaitingDecision entry) = ⊥

-- a request of a node is the script's of its number, of a session that asks at this node in this incarnation of it, and has no reply there
pub record IsWithoutReply (script : List Statement) (world : World) (n : ℕ) (host : Host) (req : ℕ) (request : Request) : Type 0 where
  pub session : ScriptSession
  pub statement : Statement
  pub place : ℕ
  pub started : StartedRequest
  pub declared : session_numbered script request.session ≡ Some session
  pub of_node : session.node ≡ n
  pub of_incarnation : session.incarnation ≡ host.incarnation
  pub stands : request_at script req ≡ Some statement
  pub own : session_of statement ≡ Some request.session
  pub unanswered : slice_get (progress_at request.session world).unanswered place ≡ Some started
  pub number : started.req ≡ req

-- each request of a node is, but for a client's
pub record RequestsAreWithoutReply (script : List Statement) (world : World) : Type 0 where
  pub each : (n req : ℕ) (host : Host) (request : Request) → host_at n world ≡ Some host → tree.get host.node.requests req ≡ Some request
      → is_of_client request.course ≡ false → IsWithoutReply script world n host req request

-- and it is where its statement, the open disk and the disk on which it began allow
pub record IsRequestOfScript (script : List Statement) (world : World) (n : ℕ) (host : Host) (req : ℕ) (request : Request) : Type 0 where
  pub asked : IsWithoutReply script world n host req request
  pub course : IsCourseOfAsk (ask_of_statement asked.statement) (session_at request.session host.node).disk asked.started.disk
      request.course

-- each request of a node that isn't lost is one of the script, but for a client's
pub record RequestsAreTheScripts (script : List Statement) (world : World) : Type 0 where
  pub each : (n req : ℕ) (host : Host) (request : Request) → host_at n world ≡ Some host → host.is_lost ≡ false
      → tree.get host.node.requests req ≡ Some request → is_of_client request.course ≡ false
      → IsRequestOfScript script world n host req request

-- an attempt is for a request of a session of its gateway's incarnation
pub record IsForARequest (script : List Statement) (attempt : AttemptRecord) : Type 0 where
  pub session : ScriptSession
  pub asking : session_asking script attempt.req ≡ Some attempt.session
  pub declared : session_numbered script attempt.session ≡ Some session
  pub of_node : session.node ≡ attempt.gateway.0
  pub of_incarnation : session.incarnation ≡ attempt.incarnation

-- each attempt is for a request of the script
pub record AttemptsAreTheScripts (script : List Statement) (attempts : List AttemptRecord) : Type 0 where
  pub each : EachAttempt attempts (λ j attempt. IsForARequest script attempt)

-- a request was started: a session has begun it
abbrev pub WasStarted : List Statement → World → ℕ → Type 0
WasStarted script world req = (session : ℕ) × WasBegun script world.guests session req

-- what was refused was started and has its reply, and what has none was started
pub record TheRefusedAreAnswered (script : List Statement) (world : World) (refused : List ℕ) : Type 0 where
  pub started : (req : ℕ) → is_object_among req refused ≡ true → WasStarted script world req
  pub answered : (session place : ℕ) (started : StartedRequest) → slice_get (progress_at session world).unanswered place ≡ Some started
      → is_object_among started.req refused ≡ false
  pub unanswered : (session place : ℕ) (started : StartedRequest) → slice_get (progress_at session world).unanswered place ≡ Some started
      → WasStarted script world started.req

-- a node whose join is to come isn't there, and joins once
pub record JoinsAreNew (script : List Statement) (world : World) : Type 0 where
  pub absent : (place node : ℕ) → slice_get (controls_to_come script world) place ≡ Some (lines.Join node) → host_at node world ≡ None
  pub once : (place other node : ℕ) → slice_get (controls_to_come script world) place ≡ Some (lines.Join node)
      → slice_get (controls_to_come script world) other ≡ Some (lines.Join node) → place ≡ other
