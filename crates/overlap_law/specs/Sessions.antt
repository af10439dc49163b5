-- The works and the open disks of sessions: they are apart, the disks are held, and reads come last. What a client reads between the
-- events holds nothing, and may meet a write.
use Rattle.std.specs.Prelude.{◌≡◌, ◌≢◌, ◌⊎◌, ℕ, ◌≤◌, ◌<◌, Bool, true, false, List, slice_get, Some}
use Rattle.std.specs.List.{list_any}
use Rattle.std.specs.Option.{option_map_or}
use Rattle.std.specs.FinMap as tree
use Rattle.object_id.specs.declared.node.NodeId.{NodeId}
use Rattle.object_id.specs.declared.entry.Entry.{Entry}
use Rattle.object_id.specs.declared.entry.Entry.TheVariants.{Snapshot, Unlock}
use Rattle.object_id.specs.Same.{is_same_entry}
use Rattle.vdi_directory.specs.Effects.{holder_of}
use Rattle.vdi_directory.specs.Decisions.{log_effects}
use Rattle.peer_proto.specs.Work.{oid_of}
use Rattle.gateway.specs.Work.{is_making}
use Rattle.gateway.specs.Attempt as gateways
use Rattle.gateway.specs.State.{Open, Work}
use Rattle.gateway_queue.specs.declared.queue.Queued.{Queued}
use Rattle.gateway_queue.specs.Queue.{AreApart}
use Rattle.guest_driver.specs.declared.disk.Disk.{Disk}
use Rattle.guest_driver.specs.Driver.{Driver}
use Rattle.guest_driver.specs.InodeQueue.{is_on_inode}
use Rattle.vdi_ops.specs.Op.{Op, entry_wanted}
use Rattle.sheep_node.specs.declared.course.Request.{Request}
use Rattle.sheep_node.specs.declared.session.Session.{Session}
use Rattle.sheep_node.specs.declared.course.Course.TheVariants.{Driving, Commanding}
use Rattle.sheep_node.specs.State.{Node}
use Rattle.overlap_law.specs.Attempts.{AttemptRecord, object_of}
use Rattle.overlap_law.specs.Words.{Hosts}
use Rattle.overlap_law.specs.Each.{EachUp, EachAttempt}
use Rattle.overlap_law.specs.Packets.{Wire, HasPacket}
use Rattle.overlap_law.specs.Grants.{granted_in}
use Rattle.overlap_law.specs.Writers.{session_holder}
use Rattle.overlap_law.specs.RequestsOfScript.{is_of_client}

-- whether the request of a number at a node is a client's, who asks without a script
abbrev pub is_of_client_at : ℕ → Node → Bool
is_of_client_at req node = option_map_or (λ (request : Request). is_of_client request.course) (tree.get node.requests req) false

-- whether an entry gives the open disk back, or turns it into a snapshot
abbrev pub lets_go : Entry → Bool
lets_go (Unlock by session vid) = true
lets_go (Snapshot by old vid) = true
lets_go _ = false

-- two works that are open at a node
pub record AreOpen (node : Node) (req : ℕ) (work : Work) (other : ℕ) (second : Work) : Type 0 where
  pub first_one : tree.get node.gateway.works req ≡ Some work
  pub second_one : tree.get node.gateway.works other ≡ Some second
  pub apart : req ≢ other

-- two requests of one session
pub record AreOfOneSession (node : Node) (session : ℕ) (req : ℕ) (request : Request) (other : ℕ) (second : Request) : Type 0 where
  pub first_one : tree.get node.requests req ≡ Some request
  pub second_one : tree.get node.requests other ≡ Some second
  pub first_of : request.session ≡ session
  pub second_of : second.session ≡ session

-- two reads or writes of one session that have begun, as they stand in its queue
pub record HaveBegun (node : Node) (session : Session) (number : ℕ) (one two : Queued) : Type 0 where
  pub place : ℕ
  pub other : ℕ
  pub there : slice_get session.queue place ≡ Some one
  pub there_too : slice_get session.queue other ≡ Some two
  pub apart : one.req ≢ two.req
  pub first : Driver
  pub second : Driver
  pub driving : tree.get node.requests one.req ≡ Some (record { session = number; course = Driving first })
  pub driving_too : tree.get node.requests two.req ≡ Some (record { session = number; course = Driving second })

-- no two open works of a session are on one object
abbrev pub SessionsWorkApart : Hosts → Type 0
SessionsWorkApart hosts =
    EachUp hosts (λ n node. (session req other : ℕ) (work second : Work) (request another : Request) → AreOpen node req work other second
    → AreOfOneSession node session req request other another → oid_of work.work ≢ oid_of second.work)

-- no two open creates or writes of a node are on one object
abbrev pub MakersAreApart : Hosts → Type 0
MakersAreApart hosts =
    EachUp hosts (λ n node. (req other : ℕ) (work second : Work) → AreOpen node req work other second → is_making work.work ≡ true
    → is_making second.work ≡ true → oid_of work.work ≢ oid_of second.work)

-- a session has one open work on its inode
abbrev pub SessionsHaveOneInodeWork : Hosts → Type 0
SessionsHaveOneInodeWork hosts =
    EachUp hosts (λ n node. (session req other : ℕ) (work second : Work) (request another : Request) → AreOpen node req work other second
    → AreOfOneSession node session req request other another → is_on_inode work.work ≡ true → is_on_inode second.work ≡ false)

-- reads and writes of a session that have begun meet on no index
abbrev pub BegunRequestsAreApart : Hosts → Type 0
BegunRequestsAreApart hosts =
    EachUp hosts (λ n node. (number : ℕ) (session : Session) (one two : Queued) → tree.get node.sessions number ≡ Some session
    → HaveBegun node session number one two → AreApart one two)

-- beside an open create or write a node has on its object at most what a client reads; a session has one work open on its inode; and what
-- has begun of a session meets on no index
pub record WorksAreApart (hosts : Hosts) : Type 0 where
  pub objects : EachUp hosts (λ n node. (req other : ℕ) (work second : Work) → AreOpen node req work other second
      → oid_of work.work ≡ oid_of second.work → is_making work.work ≡ true
      → (is_making second.work ≡ false) × (is_of_client_at other node ≡ true))
  pub inodes : SessionsHaveOneInodeWork hosts
  pub indexes : BegunRequestsAreApart hosts

-- a session holds its disk by the whole log, and its node has read that
pub record HoldsDisk (log : List Entry) (n session vid : ℕ) (node : Node) : Type 0 where
  pub holder : holder_of (log_effects log) vid ≡ Some (session_holder n session)
  pub read : granted_in log vid ≤ node.peer.epoch

-- a session's request waits for an entry by which the disk is let go, and that is in the log already
pub record IsLettingGo (node : Node) (session : ℕ) : Type 0 where
  pub req : ℕ
  pub request : Request
  pub op : Op
  pub entry : Entry
  pub there : tree.get node.requests req ≡ Some request
  pub own : request.session ≡ session
  pub command : request.course ≡ Commanding op
  pub wanted : entry_wanted op ≡ Some entry
  pub lets : lets_go entry ≡ true
  pub put : list_any (is_same_entry entry) node.outbox ≡ false

-- a session that has a working disk open holds it, or is letting it go
pub record OpenDisksAreHeld (log : List Entry) (hosts : Hosts) : Type 0 where
  pub each : EachUp hosts (λ n node. (number : ℕ) (session : Session) (disk : Disk) → tree.get node.sessions number ≡ Some session
      → session.disk ≡ Some disk → disk.snapshot ≡ false → HoldsDisk log n number disk.inode.vid node ⊎ IsLettingGo node number)

-- no attempt on an object is of a later epoch than an open read of a session, nor of the same while it has packets
pub record ReadsAreLast (hosts : Hosts) (wire : Wire) (attempts : List AttemptRecord) : Type 0 where
  pub epochs : EachUp hosts (λ n node. (req : ℕ) (work : Work) (current : gateways.Attempt) → tree.get node.gateway.works req ≡ Some work
      → is_making work.work ≡ false → is_of_client_at req node ≡ false → work.stage ≡ Open current
      → EachAttempt attempts (λ j attempt. object_of attempt ≡ oid_of work.work → attempt.epoch ≤ current.epoch.0))
  pub flying : EachUp hosts (λ n node. (req : ℕ) (work : Work) (current : gateways.Attempt) → tree.get node.gateway.works req ≡ Some work
      → is_making work.work ≡ false → is_of_client_at req node ≡ false → work.stage ≡ Open current
      → EachAttempt attempts (λ j attempt. object_of attempt ≡ oid_of work.work → (place : ℕ) (target : NodeId)
      → HasPacket wire attempt place target → attempt.epoch < current.epoch.0))
