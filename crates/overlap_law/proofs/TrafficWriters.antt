-- There stays one writer over each change of a moment, if writers take turns.
use Rattle.std.proofs.Common.{◌≡◌, ◌⊎◌, inl, inr, ⊎_elim, List, [], ◌∷◌, ◌++◌, sym, subst}
use Rattle.object_id.specs.declared.entry.Entry.{Entry}
use Rattle.object_id.specs.Oid.{vid_of}
use Rattle.cluster_script.specs.declared.statement.Statement.{Statement}
use Rattle.sheep_world.specs.Began.{Began}
use Rattle.overlap_law.specs.Attempts.{AttemptRecord, MessageFate, object_of}
use Rattle.overlap_law.specs.Past.{MomentWithPast}
use Rattle.overlap_law.specs.Packets.{Wire}
use Rattle.overlap_law.specs.MomentChanges.{MomentChange, RunsAreInRange}
use Rattle.overlap_law.specs.TiedAttempts.{IsTied}
use Rattle.overlap_law.specs.Writers.{bound_of, IsUnderTheGrant, ThereIsOneWriter, AttemptsHaveBegun, WritersTakeTurns}
use Rattle.overlap_law.proofs.EndsInTraffic.{HasNoMore, traffic_keeps, EndsBy, ends_fewer, ends_told}
use Rattle.overlap_law.proofs.LogsOfMoments.{log_of_change}
use Rattle.overlap_law.proofs.OneWriterAtEntries.{one_writer_after}
use Rattle.overlap_law.proofs.TrafficOfChanges.{traffic}

-- what an attempt has come to, by the log
abbrev HasItsWriter : List Entry → Wire → AttemptRecord → Type 0
HasItsWriter log wire attempt =
    IsUnderTheGrant log attempt (vid_of (object_of attempt)) ⊎ EndsBy log (bound_of log (vid_of (object_of attempt))) wire attempt

module _ (log : List Entry) where
  fewer_writer : (wire later : Wire) (attempt : AttemptRecord) → HasNoMore wire later attempt → HasItsWriter log wire attempt
      → HasItsWriter log later attempt
  fewer_writer wire later attempt fewer (inl under) = inl under
  fewer_writer wire later attempt fewer (inr ended) =
      inr (ends_fewer log (bound_of log (vid_of (object_of attempt))) wire later attempt fewer ended)

  told_writer : (wire : Wire) (attempt : AttemptRecord) (fates : List MessageFate) → HasItsWriter log wire attempt
      → HasItsWriter log wire (record attempt { fates = fates })
  told_writer wire attempt fates (inl under) = inl (record { writer = under.writer; since = under.since })
  told_writer wire attempt fates (inr ended) = inr (ends_told log (bound_of log (vid_of (object_of attempt))) wire attempt fates ended)

module _ (script : List Statement) (range : RunsAreInRange script) (start before after : MomentWithPast) (began : Began script start.world)
    (change : MomentChange script start before after) where
  pub keeps_one_writer : IsTied before → AttemptsHaveBegun before.world.log before.past.attempts
      → WritersTakeTurns before.world.log after.world.log before.world.wire before.past.attempts after.past.attempts
      → ThereIsOneWriter before.world.log before.world.wire before.past.attempts
      → ThereIsOneWriter after.world.log after.world.wire after.past.attempts
  keeps_one_writer tied begun turns one = record {
    each = traffic_keeps (HasItsWriter after.world.log) (fewer_writer after.world.log) (told_writer after.world.log) before.world.hosts
        after.world.hosts before.world.wire before.past.attempts tied.incarnations (traffic script range start began change)
        (λ attempt more. inl (turns.begins attempt more)) by_the_log.each;
  }
    where
      by_the_log : ThereIsOneWriter after.world.log before.world.wire before.past.attempts
      by_the_log = ⊎_elim
          (λ (same : after.world.log ≡ before.world.log).
          subst (λ (log : List Entry). ThereIsOneWriter log before.world.wire before.past.attempts) (sym same) one)
          (λ (more : (entry : Entry) × (after.world.log ≡ before.world.log ++ entry ∷ [])).
          subst (λ (log : List Entry). ThereIsOneWriter log before.world.wire before.past.attempts) (sym more.1)
          (one_writer_after before.world.log more.0 before.world.wire before.past.attempts begun (turns.ends more.0 more.1) one))
          (log_of_change script change)
