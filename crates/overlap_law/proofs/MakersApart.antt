-- After each change of a moment no two open works of a session are on one object. So no two creates or writes of a node are: who may write
-- an object is one session.
use Rattle.std.proofs.Common.{◌≡◌, ℕ, List, Some, refl, sym, ap, ◌∙◌}
use Rattle.std.proofs.lemmas.Option.{same_Some}
use Rattle.object_id.specs.declared.entry.Entry.{Entry}
use Rattle.object_id.specs.Oid.{vid_of}
use Rattle.cluster_script.specs.declared.statement.Statement.{Statement}
use Rattle.disk_lock.specs.declared.holder.Holder.{Holder}
use Rattle.vdi_directory.specs.Decisions.{log_effects}
use Rattle.sheep_world.specs.Began.{Began}
use Rattle.sheep_world.specs.RunsWithAsks.{Move}
use Rattle.overlap_law.specs.Grants.{writer_of}
use Rattle.overlap_law.specs.MomentChanges as moments
use Rattle.overlap_law.specs.MomentChanges.{MomentChange, MomentTrail, RunsAreInRange}
use Rattle.overlap_law.specs.Past.{MomentWithPast, run_with_past}
use Rattle.overlap_law.specs.Reached.{Hosts}
use Rattle.overlap_law.specs.Sessions.{SessionsWorkApart, MakersAreApart}
use Rattle.overlap_law.specs.Writers.{session_holder, WorksMayWrite}
use Rattle.overlap_law.proofs.NoRecoveredDue.{began-with_past}
use Rattle.overlap_law.proofs.QueuesInMoments.{HaveGoodQueues, queues_in_world, queues_after}
use Rattle.overlap_law.proofs.SessionsApart.{works_apart}
use Rattle.overlap_law.proofs.WorksInMoments.{HaveWellWorks, well_in_world, well_after}
use Rattle.overlap_law.proofs.WritersOfWorks.{works_may-at_start, works_may-after}

sessions_apart : (hosts : Hosts) → HaveWellWorks hosts → HaveGoodQueues hosts → SessionsWorkApart hosts
sessions_apart hosts well queues n host there up session req other work second request another are of_one same =
    works_apart host.node (well n host there) (queues n host there) session req other work second request another are of_one same

makers_apart : (log : List Entry) (hosts : Hosts) → WorksMayWrite log hosts → SessionsWorkApart hosts → MakersAreApart hosts
makers_apart log hosts writes apart n host there up req other work second are making making_too same =
    let first = writes.each n host there up req work are.first_one making in
    let next = writes.each n host there up other second are.second_one making_too in
    let own : next.request.session ≡ first.request.session
    = ap (λ (h : Holder). h.session)
    (same_Some (session_holder n next.request.session) (session_holder n first.request.session)
    (sym next.may.writer ∙ ap (λ (oid : ℕ). writer_of (log_effects log) (vid_of oid)) (sym same) ∙ first.may.writer)) in
    apart n host there up first.request.session req other work second first.request next.request are
    (record { first_one = first.there; second_one = next.there; first_of = refl; second_of = own }) same

module _ (script : List Statement) (range : RunsAreInRange script) where
  module _ (start : MomentWithPast) (began : Began script start.world) where
    pub sessions_apart-after : {before after : MomentWithPast} → MomentChange script start before after
        → SessionsWorkApart after.world.hosts
    sessions_apart-after {before} {after} change =
        sessions_apart after.world.hosts (well_after script range start began change) (queues_after script range start began change)

    pub makers_apart-after : {before after : MomentWithPast} → MomentChange script start before after → MakersAreApart after.world.hosts
    makers_apart-after {before} {after} change =
        makers_apart after.world.log after.world.hosts (works_may-after script range start began change) (sessions_apart-after change)

    sessions_apart-along : {moment : MomentWithPast} → MomentTrail script start moment → SessionsWorkApart moment.world.hosts
    sessions_apart-along moments.Still =
        sessions_apart start.world.hosts (well_in_world script range start.world began) (queues_in_world script range start.world began)
    sessions_apart-along (moments.Then trail change) = sessions_apart-after change

    makers_apart-along : {moment : MomentWithPast} → MomentTrail script start moment → MakersAreApart moment.world.hosts
    makers_apart-along moments.Still =
        makers_apart start.world.log start.world.hosts (works_may-at_start script range start began) (sessions_apart-along moments.Still)
    makers_apart-along (moments.Then trail change) = makers_apart-after change

  module _ (events : List Move) (start moment : MomentWithPast) (is : run_with_past script events ≡ Some start)
      (trail : MomentTrail script start moment) where
    pub sessions_apart-in_run : SessionsWorkApart moment.world.hosts
    sessions_apart-in_run = sessions_apart-along start (began-with_past script events start is) trail

    pub makers_apart-in_run : MakersAreApart moment.world.hosts
    makers_apart-in_run = makers_apart-along start (began-with_past script events start is) trail
