-- At the end of every event the inode that a session is to have open once it is published is read to have its table alone, as long as the
-- session may write its id: it was created, and its table is all that it may come to have.
use Rattle.std.specs.FinMap as tree
use Rattle.object_id.specs.declared.entry.Entry.TheVariants as entries
use Rattle.std.proofs.Common.{◌≡◌, ℕ, ◌<◌, ◌==◌, false, List, [], ◌∷◌, length, Some, slice_index, refl}
use Rattle.std.proofs.Common.{sym, ap, subst, ◌∙◌}
use Rattle.std.proofs.lemmas.Bool.{eq-eqb, or_left}
use Rattle.object_id.specs.declared.entry.Entry.{Entry}
use Rattle.object_id.specs.declared.oid.Vid.{Vid}
use Rattle.object_id.specs.Oid.{inode_number}
use Rattle.object_id.specs.Spec.{objects_of}
use Rattle.cluster_script.specs.declared.statement.Statement.{Statement}
use Rattle.inode.specs.Layout.{Content}
use Rattle.peer_service.specs.State.{effects_of}
use Rattle.vdi_directory.specs.Decisions.{log_effects}
use Rattle.vdi_ops.specs.Op.{Publishing, Op}
use Rattle.sheep_node.specs.declared.course.Course.TheVariants.{Commanding}
use Rattle.sheep_node.specs.declared.course.Request.{Request}
use Rattle.sheep_world.specs.Began.{Began}
use Rattle.sheep_world.specs.World.{Host}
use Rattle.sheep_world.proofs.LogFrontLaws.{all_read}
use Rattle.sheep_world.specs.RunsWithAsks.{Move}
use Rattle.overlap_law.specs.CommandDisks.{opened_in, IsOpenAtLast, IsOpenAtStage, IsOpenAtCourse}
use Rattle.overlap_law.specs.Each.{EachAttempt, spec_in}
use Rattle.overlap_law.specs.Fates.{IsCreated}
use Rattle.overlap_law.specs.Grants.{writer_of}
use Rattle.overlap_law.specs.MomentChanges.{RunsAreInRange}
use Rattle.overlap_law.specs.MomentChanges as moments
use Rattle.overlap_law.specs.Past.{MomentWithPast, run_with_past}
use Rattle.overlap_law.specs.Tables.{entry_unit, entry_by, candidates, AreAmong}
use Rattle.overlap_law.specs.TiedAttempts.{IsTied}
use Rattle.overlap_law.specs.Writers.{session_holder}
use Rattle.overlap_law.proofs.Candidates.{HasMade, are_among}
use Rattle.overlap_law.proofs.CreatedFirst.{publications-on_the_way}
use Rattle.overlap_law.proofs.CreatedInodes.{created_made}
use Rattle.overlap_law.proofs.GrantedEpochs.{spec_stays}
use Rattle.overlap_law.proofs.KnownDisks.{IsKnownInode, IsKnownStage, IsKnownCourse}
use Rattle.overlap_law.proofs.KnownDisksInRuns.{nodes_know}
use Rattle.overlap_law.proofs.LogsReservable.{LogIsReservable, kept_reservable}
use Rattle.overlap_law.proofs.NoRecoveredDue.{began-with_past}
use Rattle.overlap_law.proofs.OpenDisksInRuns.{disks_fit-in_run}
use Rattle.overlap_law.proofs.PublishedTables.{published_in_run}
use Rattle.overlap_law.proofs.PublishingStages.{published_in_course, published_at}
use Rattle.overlap_law.proofs.RunsByChanges.{on_the_way}
use Rattle.overlap_law.proofs.TiedInRuns.{kept_tied}
use Rattle.overlap_law.proofs.WholeInRuns.{whole-on_the_way}

module _ (script : List Statement) (range : RunsAreInRange script) (events : List Move) (moment : MomentWithPast)
    (is : run_with_past script events ≡ Some moment) (n : ℕ) (host : Host) (there : tree.get moment.world.hosts n ≡ Some host)
    (up : host.is_lost ≡ false) (req : ℕ) (request : Request) (op : Op) (entry : Entry) (inode : Content)
    (got : tree.get host.node.requests req ≡ Some request) (command : request.course ≡ Commanding op)
    (at : op.stage ≡ Publishing entry (Some inode))
    (writes : writer_of (log_effects moment.world.log) inode.vid ≡ Some (session_holder n request.session)) where
  began : Began script moment.world
  began = began-with_past script events moment is

  whole : EachAttempt moment.past.attempts (λ j attempt. length attempt.fates ≡ length attempt.targets)
  whole = (on_the_way script IsTied (kept_tied script range) events moment moment is moments.Still).fates.whole

  fits : IsOpenAtLast (opened_in request.session host.node.sessions) entry (Some inode)
  fits =
      subst (IsOpenAtStage (opened_in request.session host.node.sessions)) at
      (subst (IsOpenAtCourse (opened_in request.session host.node.sessions)) command
      ((disks_fit-in_run script range events moment moment is moments.Still).each n host there up req request got))

  of_vid : (vid : Vid) → published_at (Publishing entry (Some inode)) ≡ Some vid → inode.vid ≡ vid.0
      → IsCreated moment.past.attempts (inode_number inode.vid) host.node.peer.epoch
  of_vid vid says own =
      subst (λ (v : ℕ). IsCreated moment.past.attempts (inode_number v) host.node.peer.epoch) (sym own)
      (publications-on_the_way script range events moment moment is moments.Still n host there up req request vid got
      (ap published_in_course command ∙ ap published_at at ∙ says))

  created : IsCreated moment.past.attempts (inode_number inode.vid) host.node.peer.epoch
  created = by_entry entry refl fits
    where
      by_entry : (e : Entry) → entry ≡ e → IsOpenAtLast (opened_in request.session host.node.sessions) e (Some inode)
          → IsCreated moment.past.attempts (inode_number inode.vid) host.node.peer.epoch
      by_entry (entries.Format members) so fits = absurd (cc (fits))
      by_entry (entries.Join node zone vnodes) so fits = absurd (cc (fits))
      by_entry (entries.Leave node) so fits = absurd (cc (fits))
      by_entry (entries.Reweight node vnodes) so fits = absurd (cc (fits))
      by_entry (entries.Recovered node epoch) so fits = absurd (cc (fits))
      by_entry (entries.Reserve by session name origin) so fits = absurd (cc (fits))
      by_entry (entries.Publish by vid) so fits = absurd (cc (fits))
      by_entry (entries.Clone by vid) so fits = absurd (cc (fits))
      by_entry (entries.Snapshot by old vid) so fits =
          of_vid vid (ap (λ (e : Entry). published_at (Publishing e (Some inode))) so) fits.1
      by_entry (entries.Delete by session name tag) so fits = absurd (cc (fits))
      by_entry (entries.Lock by session name tag) so fits = absurd (cc (fits))
      by_entry (entries.Unlock by session vid) so fits = absurd (cc (fits))

  known : IsKnownInode (effects_of host.node.peer) inode
  known =
      subst (IsKnownStage (effects_of host.node.peer)) at
      (subst (IsKnownCourse (effects_of host.node.peer)) command
      ((nodes_know script range moment.world began n host there).courses req request got))

  spec_so : spec_in (log_effects moment.world.log) inode.vid ≡ Some inode.spec
  spec_so =
      let front = all_read script moment.world began n host there in
      ap (λ (log : List Entry). spec_in (log_effects log) inode.vid) front.is
      ∙ spec_stays host.node.peer.entries front.rest inode.vid inode.spec known.disk.made

  pub published_alone : (index : ℕ) → index < objects_of inode.spec
      → AreAmong (slice_index inode.table index ∷ []) (candidates moment.past.attempts inode.vid index)
  published_alone index within =
      let entry_so : ℕ = slice_index inode.table index in
      let made : HasMade moment.world.hosts (inode_number inode.vid) (entry_unit index) moment.past.attempts
      = created_made moment.world.log
      (on_the_way script LogIsReservable (kept_reservable script range) events moment moment is moments.Still).all moment.world.hosts
      moment.past.attempts (whole-on_the_way script range events moment moment is moments.Still) whole inode.vid index
      host.node.peer.epoch inode.spec spec_so within created in
      are_among moment.world.hosts moment.past.attempts whole inode.vid index made (slice_index inode.table index ∷ [])
      (λ j attempt may.
      or_left (slice_index inode.table index == entry_by index attempt) false
      (eq-eqb (slice_index inode.table index) (entry_by index attempt)
      (sym ((published_in_run script range events moment moment is moments.Still).each n host there up req index request op entry inode got
      command at within writes j attempt may))))
