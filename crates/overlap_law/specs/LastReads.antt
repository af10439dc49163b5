-- What it rests on that a session's open read comes behind every attempt on its object: that nothing begins on a disk that became a
-- snapshot, and which ids a session reads.
use Rattle.std.specs.Prelude.{◌≡◌, ◌⊎◌, ℕ, ◌+◌, ◌≤◌, ◌==◌, Bool, true, false, List, Some, slice_get, take}
use Rattle.std.specs.List.{list_any}
use Rattle.std.specs.FinMap as tree
use Rattle.object_id.specs.declared.entry.Entry.{Entry}
use Rattle.object_id.specs.declared.entry.Entry.TheVariants.{Snapshot}
use Rattle.object_id.specs.declared.node.NodeId.{NodeId}
use Rattle.object_id.specs.declared.oid.Vid.{Vid}
use Rattle.object_id.specs.Oid.{vid_of}
use Rattle.peer_proto.specs.Work.{oid_of}
use Rattle.vdi_directory.specs.declared.effect.Effect.{Effect}
use Rattle.vdi_directory.specs.declared.effect.Effect.TheVariants.{Nothing, Reserved, Published, Snapped, Deleted, Held, Freed, Withdrawn}
use Rattle.vdi_directory.specs.declared.effect.Effect.TheVariants.{Left}
use Rattle.vdi_directory.specs.Decisions.{log_effects}
use Rattle.gateway.specs.Work.{is_making}
use Rattle.gateway.specs.State.{Work}
use Rattle.overlap_law.specs.Attempts.{AttemptRecord, object_of}
use Rattle.overlap_law.specs.Words.{Hosts}
use Rattle.overlap_law.specs.Each.{EachHost, EachUp, EachAttempt}
use Rattle.overlap_law.specs.Packets.{Wire}
use Rattle.overlap_law.specs.Grants.{last_epoch}
use Rattle.overlap_law.specs.Sessions.{AreOpen, is_of_client_at}
use Rattle.overlap_law.specs.Writers.{IsMayWriteOf, HasEnded, IsFencedOff}

-- ---- snapshots

-- whether an effect makes the disk of an id a snapshot
abbrev pub snaps : ℕ → Effect → Bool
snaps vid Nothing = false
snaps vid (Reserved grant) = false
snaps vid (Published of name) = false
snaps vid (Snapped snap) = snap.old.0 == vid
snaps vid (Deleted of name) = false
snaps vid (Held of holder) = false
snaps vid (Freed of) = false
snaps vid (Withdrawn of) = false
snaps vid (Left node) = false

-- whether the disk of an id became a snapshot
abbrev pub was_snapped : List Entry → ℕ → Bool
was_snapped log vid = list_any (snaps vid) (log_effects log)

-- the epoch in which the disk of an id became a snapshot
abbrev pub snapped_in : List Entry → ℕ → ℕ
snapped_in log vid = last_epoch (snaps vid) log

-- each attempt on a disk that became a snapshot has ended by then, or is of a gateway that left before
pub record SnapshotsAreClosed (log : List Entry) (wire : Wire) (attempts : List AttemptRecord) : Type 0 where
  pub each : EachAttempt attempts (λ j attempt. was_snapped log (vid_of (object_of attempt)) ≡ true
      → HasEnded wire attempt (snapped_in log (vid_of (object_of attempt)))
      ⊎ IsFencedOff log attempt (snapped_in log (vid_of (object_of attempt))))

-- each entry of a snapshot made its disk one
abbrev pub SnapshotsAreTaken : List Entry → Type 0
SnapshotsAreTaken log =
    (place : ℕ) (by : NodeId) (old vid : Vid) → slice_get log place ≡ Some (Snapshot by old vid)
    → was_snapped (take (place + 1) log) old.0 ≡ true

-- ---- attempts of a gateway

-- each attempt is of an epoch that its gateway came to
abbrev pub AttemptsAreOfThePast : Hosts → List AttemptRecord → Type 0
AttemptsAreOfThePast hosts attempts =
    EachHost hosts (λ n host. EachAttempt attempts (λ j attempt. attempt.gateway.0 ≡ n → attempt.epoch ≤ host.node.peer.epoch))

-- ---- what a session reads

-- each open read of a session is on an id that the session may write, or on a disk that became a snapshot by what the node has read
pub record ReadsAreKnown (log : List Entry) (hosts : Hosts) : Type 0 where
  pub each : EachUp hosts (λ n node. (req : ℕ) (work : Work) → tree.get node.gateway.works req ≡ Some work → is_making work.work ≡ false
      → is_of_client_at req node ≡ false
      → IsMayWriteOf log n req work node ⊎ (was_snapped node.peer.entries (vid_of (oid_of work.work)) ≡ true))

-- beside an open read of a session a node has no open create or write on its object
pub record ReadsAreApart (hosts : Hosts) : Type 0 where
  pub each : EachUp hosts (λ n node. (req other : ℕ) (work second : Work) → AreOpen node req work other second
      → oid_of work.work ≡ oid_of second.work → is_making work.work ≡ true → is_making second.work ≡ false
      → is_of_client_at other node ≡ false → ⊥)
