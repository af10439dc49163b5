-- The one writer of an id: which works it may have open, and what every other attempt has come to.
use Rattle.std.specs.Prelude.{◌≡◌, ◌⊎◌, ℕ, ◌≤◌, ◌<◌, ◌==◌, ◌&&◌, Bool, true, false, List, [], ◌∷◌, ◌++◌, Some, is_some, if◌then◌else◌}
use Rattle.std.specs.List.{list_any}
use Rattle.std.specs.FinMap as tree
use Rattle.object_id.specs.declared.entry.Entry.{Entry}
use Rattle.object_id.specs.declared.entry.Entry.TheVariants.{Unlock}
use Rattle.object_id.specs.Oid.{vid_of}
use Rattle.epoch_log.specs.Epochs.{epoch_of}
use Rattle.disk_lock.specs.declared.holder.Holder.{Holder}
use Rattle.vdi_directory.specs.Decisions.{outcome, log_effects}
use Rattle.peer_proto.specs.Work.{oid_of}
use Rattle.gateway.specs.Work.{is_making}
use Rattle.gateway.specs.State.{Work}
use Rattle.sheep_node.specs.declared.course.Request.{Request}
use Rattle.sheep_node.specs.State.{Node}
use Rattle.overlap_law.specs.Attempts.{AttemptRecord, object_of}
use Rattle.overlap_law.specs.Words.{Hosts}
use Rattle.overlap_law.specs.Each.{EachUp, EachAttempt}
use Rattle.overlap_law.specs.Packets.{Wire, IsQuiet}
use Rattle.overlap_law.specs.Fates.{AreInOrder}
use Rattle.overlap_law.specs.Grants.{granted_in, writer_of, takes_writer, leave_of}

-- a session of a node
abbrev pub session_holder : ℕ → ℕ → Holder
session_holder n session = record { node = record { 0 = n }; session = session }

-- whether an entry gives a session's id back
abbrev pub unlocks : ℕ → ℕ → Entry → Bool
unlocks session vid (Unlock by of id) = of == session && id.0 == vid
unlocks session vid _ = false

-- a session may write an id: it is the writer, gives nothing back, and its node has read the grant
pub record MayWrite (log : List Entry) (n session vid : ℕ) (node : Node) : Type 0 where
  pub writer : writer_of (log_effects log) vid ≡ Some (session_holder n session)
  pub kept : list_any (unlocks session vid) node.outbox ≡ false
  pub read : granted_in log vid ≤ node.peer.epoch

-- a work is of a request without reply, whose session may write the object
pub record IsMayWriteOf (log : List Entry) (n req : ℕ) (work : Work) (node : Node) : Type 0 where
  pub request : Request
  pub there : tree.get node.requests req ≡ Some request
  pub may : MayWrite log n request.session (vid_of (oid_of work.work)) node

-- each open create or write is
pub record WorksMayWrite (log : List Entry) (hosts : Hosts) : Type 0 where
  pub each : EachUp hosts (λ n node. (req : ℕ) (work : Work) → tree.get node.gateway.works req ≡ Some work → is_making work.work ≡ true
      → IsMayWriteOf log n req work node)

-- a work is of a request without reply, whose session may write the object, and its attempts are of the grant's epoch or later
pub record IsTheWriters (log : List Entry) (attempts : List AttemptRecord) (n req : ℕ) (work : Work) (node : Node) : Type 0 where
  pub request : Request
  pub there : tree.get node.requests req ≡ Some request
  pub may : MayWrite log n request.session (vid_of (oid_of work.work)) node
  pub granted : EachAttempt attempts (λ j attempt. attempt.gateway.0 ≡ n → attempt.req ≡ req → attempt.work ≡ work.work
      → granted_in log (vid_of (oid_of work.work)) ≤ attempt.epoch)

-- only the writer of an id has creates and writes open on it
pub record OnlyTheWriterWrites (log : List Entry) (hosts : Hosts) (attempts : List AttemptRecord) : Type 0 where
  pub each : EachUp hosts (λ n node. (req : ℕ) (work : Work) → tree.get node.gateway.works req ≡ Some work → is_making work.work ≡ true
      → IsTheWriters log attempts n req work node)

-- the epoch in which an id's writer had its grant; where there is no writer, the newest one
abbrev pub bound_of : List Entry → ℕ → ℕ
bound_of log vid = if is_some (writer_of (log_effects log) vid) then granted_in log vid else epoch_of log

-- an attempt is the writer's, under its grant
pub record IsUnderTheGrant (log : List Entry) (attempt : AttemptRecord) (vid : ℕ) : Type 0 where
  pub writer : writer_of (log_effects log) vid ≡ Some (session_holder attempt.gateway.0 attempt.session)
  pub since : granted_in log vid ≤ attempt.epoch

-- an attempt has ended: it has no packets, and is of no later epoch than the bound
pub record HasEnded (wire : Wire) (attempt : AttemptRecord) (bound : ℕ) : Type 0 where
  pub quiet : IsQuiet wire attempt
  pub before : attempt.epoch ≤ bound

-- an attempt's gateway left: the attempt is of an epoch below that of the incarnation's `Leave`, which is at most the bound
pub record IsFencedOff (log : List Entry) (attempt : AttemptRecord) (bound : ℕ) : Type 0 where
  pub left : ℕ
  pub leave : leave_of log attempt.gateway.0 attempt.incarnation ≡ Some left
  pub before : attempt.epoch < left
  pub granted_later : left ≤ bound

-- each attempt is the present writer's under its grant, or has ended before, or is of a gateway that left before
pub record ThereIsOneWriter (log : List Entry) (wire : Wire) (attempts : List AttemptRecord) : Type 0 where
  pub each : EachAttempt attempts (λ j attempt. IsUnderTheGrant log attempt (vid_of (object_of attempt))
      ⊎ (HasEnded wire attempt (bound_of log (vid_of (object_of attempt)))
      ⊎ IsFencedOff log attempt (bound_of log (vid_of (object_of attempt)))))

-- each attempt is of an epoch that has begun
abbrev pub AttemptsHaveBegun : List Entry → List AttemptRecord → Type 0
AttemptsHaveBegun log attempts = EachAttempt attempts (λ j attempt. attempt.epoch ≤ epoch_of log)

-- what an entry owes an attempt whose writer loses the id by it: nothing of the attempt is in flight, or the incarnation of its gateway
-- left by the entry
abbrev pub EndsInOrder : List Entry → Entry → Wire → AttemptRecord → Type 0
EndsInOrder log entry wire attempt =
    IsQuiet wire attempt
    ⊎ ((leave_of (log ++ entry ∷ []) attempt.gateway.0 attempt.incarnation ≡ Some (epoch_of (log ++ entry ∷ [])))
    × (epoch_of log < epoch_of (log ++ entry ∷ [])))

-- what a change of a moment owes, so that there stays one writer: an attempt that begins is the writer's, and one whose writer loses the id
-- by an entry ends in order
pub record WritersTakeTurns (log log_after : List Entry) (wire : Wire) (attempts attempts_after : List AttemptRecord) : Type 0 where
  pub begins : (attempt : AttemptRecord) → attempts_after ≡ attempts ++ attempt ∷ []
      → IsUnderTheGrant log_after attempt (vid_of (object_of attempt))
  pub ends : (entry : Entry) → log_after ≡ log ++ entry ∷ [] → EachAttempt attempts (λ j attempt.
      IsUnderTheGrant log attempt (vid_of (object_of attempt))
      → takes_writer (vid_of (object_of attempt)) attempt.gateway (outcome (log_effects log) entry).effect ≡ true
      → EndsInOrder log entry wire attempt)

-- an attempt begins in the turn of its own session: behind each other attempt on the object that is the same session's under the same grant
pub record IsInOwnTurn (log : List Entry) (wire : Wire) (attempts : List AttemptRecord) (attempt : AttemptRecord) : Type 0 where
  pub under : IsUnderTheGrant log attempt (vid_of (object_of attempt))
  pub behind : EachAttempt attempts (λ j other. object_of other ≡ object_of attempt → other.gateway.0 ≡ attempt.gateway.0
      → other.session ≡ attempt.session → granted_in log (vid_of (object_of attempt)) ≤ other.epoch → AreInOrder wire other attempt)
