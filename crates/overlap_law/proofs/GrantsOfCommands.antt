-- A command that works for an id may write it: in each world of a run in range, and at each moment on the way of its events.
use Rattle.std.proofs.Common.{◌≡◌, ℕ, Bool, List, length, Option, Some, ap, subst, ◌∙◌, true, false, arith}
use Rattle.std.proofs.lemmas.Option.{same_Some}
use Rattle.object_id.specs.declared.entry.Entry.{Entry}
use Rattle.object_id.specs.declared.oid.Vid.{Vid}
use Rattle.cluster_script.specs.declared.statement.Statement.{Statement}
use Rattle.epoch_log.specs.Epochs.{epoch_of}
use Rattle.inode.specs.Layout.{Content}
use Rattle.vdi_ops.specs.Op.{Task, Opening, WritingBack, Tagging, Copying, Making, OpStage, Asked, Working, Publishing, Answered}
use Rattle.sheep_node.specs.State.{Node}
use Rattle.sheep_world.specs.Began.{Began}
use Rattle.sheep_world.specs.RunsWithAsks.{Move}
use Rattle.overlap_law.specs.CommandDisks.{opened_in}
use Rattle.overlap_law.specs.Courses.{granted_by, granted_at, CommandsKeepTheirGrants}
use Rattle.overlap_law.specs.Past.{MomentWithPast, run_with_past}
use Rattle.overlap_law.specs.MomentChanges as moments
use Rattle.overlap_law.specs.MomentChanges.{MomentTrail, RunsAreInRange}
use Rattle.overlap_law.specs.WriterClaims.{HasLock, HasReservation, IsTaskKept, IsMakingKept, IsStageKept}
use Rattle.overlap_law.specs.Writers.{MayWrite}
use Rattle.overlap_law.proofs.ClaimsInRuns.{claims-in_run}
use Rattle.overlap_law.proofs.KeptIds.{lock-writer, reservation-writer}
use Rattle.overlap_law.proofs.NoRecoveredDue.{began-with_past}
use Rattle.overlap_law.proofs.ReadInMoments.{HostsAreSound, sound_hosts, hosts_after_sound}
use Rattle.overlap_law.proofs.MakingEntries.{making_reserved}

module _ (log : List Entry) (n : ℕ) (node : Node) (own : node.me.0 ≡ n) (epoch_so : node.peer.epoch ≡ epoch_of node.peer.entries)
    (session : ℕ) where
  abbrev epoch : ℕ
  epoch = epoch_of node.peer.entries

  pub locked_may : (vid : ℕ) → HasLock log node.outbox node.me session (epoch_of node.peer.entries) vid → MayWrite log n session vid node
  locked_may vid lock = record {
    writer =
        lock-writer log node.outbox node.me session epoch vid lock
        ∙ ap (λ (number : ℕ). Some (record { node = record { 0 = number }; session = session })) own;
    kept = lock.kept;
    read = let since = lock.since in omega (arith, since, epoch_so);
  }

  reserved_may : (vid : ℕ) → HasReservation log node.outbox node.me session (epoch_of node.peer.entries) vid
      → MayWrite log n session vid node
  reserved_may vid has = record {
    writer =
        reservation-writer log node.outbox node.me session epoch vid has
        ∙ ap (λ (number : ℕ). Some (record { node = record { 0 = number }; session = session })) own;
    kept = has.kept;
    read = let since = has.since in omega (arith, since, epoch_so);
  }

  module _ (opened : Option (Bool × ℕ)) where
    made_may : (vid : Vid) (entry : Entry) (made : Option Content)
        → IsMakingKept log node.outbox node.peer.entries (length node.peer.entries) node.me session opened vid entry made
        → MayWrite log n session vid.0 node
    made_may vid entry made is =
        reserved_may vid.0
        (making_reserved log node.outbox node.peer.entries (length node.peer.entries) node.me session opened vid entry made is)

    -- the id that was granted
    abbrev MayFor : Vid → Vid → Task → Type 0
    MayFor vid of task =
        granted_by vid task ≡ Some of
        → IsTaskKept log node.outbox node.peer.entries (length node.peer.entries) node.me session opened vid task
        → MayWrite log n session of.0 node

    its_own : (vid of : Vid) → Some vid ≡ Some of → MayWrite log n session vid.0 node → MayWrite log n session of.0 node
    its_own vid of same may = subst (λ (v : Vid). MayWrite log n session v.0 node) (same_Some vid of same) may

    task_may : (vid of : Vid) (task : Task) → MayFor vid of task
    task_may vid of (Opening true ids header) same is = absurd (cc (same))
    task_may vid of (Opening false ids header) same is = its_own vid of same (locked_may vid.0 is.0)
    task_may vid of (WritingBack inode) same is = its_own vid of same (locked_may vid.0 is.0)
    task_may vid of (Tagging old inode) same is = its_own vid of same (reserved_may vid.0 is.0.has)
    task_may vid of (Copying ids header) same is = its_own vid of same (reserved_may vid.0 is)
    task_may vid of (Making entry made) same is = its_own vid of same (made_may vid entry made is)

    pub stage_may : (of : Vid) (stage : OpStage) → granted_at stage ≡ Some of
        → IsStageKept log node.outbox node.peer.entries (length node.peer.entries) node.me session opened stage
        → MayWrite log n session of.0 node
    stage_may of (Asked entry) same is = absurd (cc (same))
    stage_may of (Working vid task) same is = task_may vid of task same is
    stage_may of (Publishing entry made) same is = absurd (cc (same))
    stage_may of (Answered change) same is = absurd (cc (same))

module _ (script : List Statement) (range : RunsAreInRange script) where
  pub sound_along : (start : MomentWithPast) → Began script start.world → {moment : MomentWithPast} → MomentTrail script start moment
      → HostsAreSound moment
  sound_along start began moments.Still = sound_hosts script range start began
  sound_along start began (moments.Then trail change) = hosts_after_sound script range start began change

  pub grants-in_run : (events : List Move) (start moment : MomentWithPast) → run_with_past script events ≡ Some start
      → MomentTrail script start moment → CommandsKeepTheirGrants moment.world.log moment.world.hosts
  grants-in_run events start moment is trail = record {
    each = λ n host there up req request op vid got command granted.
        let read = ((sound_along start (began-with_past script events start is) trail).each n host there).read in
        let has = (claims-in_run script range events start moment is trail).each n host there up in
        stage_may moment.world.log n host.node read.own read.epoch_so request.session (opened_in request.session host.node.sessions) vid
        op.stage granted (has.commands req request op got command);
  }
