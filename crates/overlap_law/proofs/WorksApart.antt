-- In every run in range works are apart: two creates or writes aren't open on one object, nor a read of a session beside one.
use Rattle.std.proofs.Common.{◌≡◌, ℕ, Bool, true, false, List, Some, refl}
use Rattle.std.specs.FinMap as tree
use Rattle.cluster_script.specs.declared.statement.Statement.{Statement}
use Rattle.gateway.specs.Work.{is_making}
use Rattle.gateway.specs.State.{Work}
use Rattle.peer_proto.specs.Work.{oid_of}
use Rattle.sheep_world.specs.World.{Host}
use Rattle.sheep_world.specs.RunsWithAsks.{Move}
use Rattle.overlap_law.specs.LastReads.{ReadsAreKnown, ReadsAreApart}
use Rattle.overlap_law.specs.MomentChanges as moments
use Rattle.overlap_law.specs.MomentChanges.{RunsAreInRange}
use Rattle.overlap_law.specs.Past.{MomentWithPast, run_with_past}
use Rattle.overlap_law.specs.Sessions.{is_of_client_at, AreOpen, MakersAreApart, WorksAreApart}
use Rattle.overlap_law.proofs.ApartInRuns.{begun_apart-in_run}
use Rattle.overlap_law.proofs.MakersApart.{sessions_apart-in_run, makers_apart-in_run}
use Rattle.overlap_law.proofs.NoRecoveredDue.{began-with_past}
use Rattle.overlap_law.proofs.OneInodeWork.{one_inode_work-in_run}
use Rattle.overlap_law.proofs.ReadInMoments.{sound_hosts}
use Rattle.overlap_law.proofs.ReadsApart.{reads_apart}
use Rattle.overlap_law.proofs.ReadsInMoments.{reads_known-in_run}
use Rattle.overlap_law.proofs.WritersOfWorks.{works_may-in_run}

module _ (script : List Statement) (range : RunsAreInRange script) (events : List Move) (moment : MomentWithPast)
    (is : run_with_past script events ≡ Some moment) where
  known : ReadsAreKnown moment.world.log moment.world.hosts
  known = reads_known-in_run script range events moment moment is moments.Still

  makers : MakersAreApart moment.world.hosts
  makers = makers_apart-in_run script range events moment moment is moments.Still

  reads : ReadsAreApart moment.world.hosts
  reads =
      reads_apart moment (sound_hosts script range moment (began-with_past script events moment is))
      (works_may-in_run script range events moment moment is moments.Still)
      (sessions_apart-in_run script range events moment moment is moments.Still) known

  module _ (n : ℕ) (host : Host) (there : tree.get moment.world.hosts n ≡ Some host) (up : host.is_lost ≡ false) (req other : ℕ)
      (work second : Work)
      (are : AreOpen host.node req work other second) (same : oid_of work.work ≡ oid_of second.work)
      (making : is_making work.work ≡ true) where
    by_client : is_making second.work ≡ false → (b : Bool) → is_of_client_at other host.node ≡ b
        → (is_making second.work ≡ false) × (is_of_client_at other host.node ≡ true)
    by_client none true client = (none, client)
    by_client none false own = absurd (reads.each n host there up req other work second are same making none own)

    by_kind : (b : Bool) → is_making second.work ≡ b → (is_making second.work ≡ false) × (is_of_client_at other host.node ≡ true)
    by_kind true too = absurd (makers n host there up req other work second are making too same)
    by_kind false none = by_client none (is_of_client_at other host.node) refl

  pub works_apart-in_run : WorksAreApart moment.world.hosts
  works_apart-in_run = record {
    objects = λ n host there up req other work second are same making.
        by_kind n host there up req other work second are same making (is_making second.work) refl;
    inodes = one_inode_work-in_run script range events moment is;
    indexes = begun_apart-in_run script range events moment is;
  }
