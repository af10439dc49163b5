-- At the end of every event, where the node of the session is up that has an id reserved to take a disk's place: what the id's inode may
-- come to have is all that the disk's may come to have. For a command there has the new inode, with the table of the open disk.
use Rattle.std.specs.FinMap as tree
use Rattle.std.proofs.Common.{◌≡◌, inl, inr, ⊎_elim, ℕ, ◌<◌, true, false, All, List, Option, Some, slice_index}
use Rattle.std.proofs.Common.{refl, sym, ap, subst, ◌∙◌}
use Rattle.std.proofs.lemmas.Option.{same_Some}
use Rattle.object_id.specs.declared.entry.Entry.{Entry}
use Rattle.object_id.specs.declared.entry.VdiSpec.{VdiSpec}
use Rattle.object_id.specs.declared.oid.Vid.{Vid}
use Rattle.object_id.specs.Oid.{inode_number}
use Rattle.object_id.specs.Spec.{objects_of}
use Rattle.cluster_script.specs.declared.statement.Statement.{Statement}
use Rattle.epoch_log.specs.Appending.{IsReservable}
use Rattle.inode.specs.Layout.{Content}
use Rattle.peer_service.specs.State.{effects_of}
use Rattle.vdi_directory.specs.declared.effect.Reservation.{Reservation}
use Rattle.vdi_directory.specs.declared.effect.Source.TheVariants as sources
use Rattle.vdi_directory.specs.declared.effect.Source.{Source}
use Rattle.vdi_directory.specs.Decisions.{log_effects}
use Rattle.vdi_directory.specs.Effects.{reservation_on, reservations_of}
use Rattle.vdi_directory.specs.References.{parent_of}
use Rattle.vdi_ops.specs.Op.{Opening, WritingBack, Tagging, Copying, Making, OpStage, Asked, Working, Publishing, Answered, Op}
use Rattle.sheep_node.specs.declared.course.Course.TheVariants.{Commanding}
use Rattle.sheep_node.specs.declared.course.Request.{Request}
use Rattle.sheep_node.specs.SoundWorks.{IsSoundInode, IsSoundStage}
use Rattle.sheep_world.specs.Began.{Began}
use Rattle.sheep_world.specs.World.{Host}
use Rattle.sheep_world.proofs.LogFrontLaws.{all_read}
use Rattle.sheep_world.specs.RunsWithAsks.{Move}
use Rattle.overlap_law.specs.Attempts.{AttemptRecord}
use Rattle.overlap_law.specs.Drafts.{IsReservedEntry}
use Rattle.overlap_law.specs.Each.{spec_in}
use Rattle.overlap_law.specs.Fates.{IsCreated}
use Rattle.overlap_law.specs.Grants.{reserver, writer_of}
use Rattle.overlap_law.specs.MomentChanges as moments
use Rattle.overlap_law.specs.MomentChanges.{AtEnd, RunsAreInRange}
use Rattle.overlap_law.specs.Past.{MomentWithPast, run_with_past}
use Rattle.overlap_law.specs.StayingDrafts.{IsAllToCome}
use Rattle.overlap_law.specs.Tables.{entry_by}
use Rattle.overlap_law.specs.ToCome.{IsEntryToCome, comes_to_nothing}
use Rattle.overlap_law.specs.ToDo.{entry_made}
use Rattle.overlap_law.specs.WriterClaims.{IsInPlaceOf}
use Rattle.overlap_law.proofs.CarriedDrafts.{parents_good}
use Rattle.overlap_law.proofs.CarriedInodes.{inodes-in_run}
use Rattle.overlap_law.proofs.CarriedTables.{good_id_at}
use Rattle.overlap_law.proofs.CreatedEntries.{created_at}
use Rattle.overlap_law.proofs.CreatedInodes.{header_is}
use Rattle.overlap_law.proofs.DraftsOfLogs.{parents_so}
use Rattle.overlap_law.proofs.DrawnCandidates.{base_spec}
use Rattle.overlap_law.proofs.GoodAbove.{above_good_on_the_way}
use Rattle.overlap_law.proofs.GrantedEpochs.{spec_stays}
use Rattle.overlap_law.proofs.KnownDisks.{IsKnownInode, IsKnownStage}
use Rattle.overlap_law.proofs.KnownDisksInRuns.{nodes_know}
use Rattle.overlap_law.proofs.LastEntriesOfNodes.{publishers_write}
use Rattle.overlap_law.proofs.LogsReservable.{LogIsReservable, kept_reservable}
use Rattle.overlap_law.proofs.MadeEffects.{IsSourceParent}
use Rattle.overlap_law.proofs.MakingStages.{IsMakingStage}
use Rattle.overlap_law.proofs.NoRecoveredDue.{began-with_past}
use Rattle.overlap_law.proofs.PlacesAwaited.{PlacesAreAwaited}
use Rattle.overlap_law.proofs.PlacesBegun.{IsPlacing}
use Rattle.overlap_law.proofs.PlacesClaimed.{HasPlaceHeld, in_place_of, place_held}
use Rattle.overlap_law.proofs.PlacesHeld.{held_comes, held_writer}
use Rattle.overlap_law.proofs.PlaceTables.{IsPlaceStage}
use Rattle.overlap_law.proofs.PublishedStay.{HasHead, MakingsFit, kept_fit}
use Rattle.overlap_law.proofs.PublishedTables.{published_in_run}
use Rattle.overlap_law.proofs.ReservedMembers.{StandsReserved}
use Rattle.overlap_law.proofs.RunsByChanges.{on_the_way}
use Rattle.overlap_law.proofs.WholeInRuns.{sound_world}

-- an entry is all that the inode of a disk may come to have of an index, which was created; and the disk is the reserver's to write
pub record IsAllOfDisk (moment : MomentWithPast) (old : Vid) (index entry : ℕ) (r : Reservation) : Type 0 where
  pub epoch : ℕ
  pub created : IsCreated moment.past.attempts (inode_number old.0) epoch
  pub all : IsAllToCome moment.world.hosts moment.past.attempts old.0 index entry
  pub writer : writer_of (log_effects moment.world.log) old.0 ≡ Some (reserver r)

-- what an id that takes a disk's place is made from
pub place_parent : (log : List Entry) (vid : ℕ) (r : Reservation) → StandsReserved log vid r → (old : Vid) (tag : List ℕ)
    → r.source ≡ sources.Snapshot old tag → parent_of (log_effects log) vid ≡ Some old
place_parent log vid r stands old tag from =
    subst (λ (source : Source). IsSourceParent source (parent_of (log_effects log) vid)) from (parents_so log vid r stands)

module _ (script : List Statement) (range : RunsAreInRange script) (events : List Move) (moment : MomentWithPast)
    (is : run_with_past script events ≡ Some moment) where
  began : Began script moment.world
  began = began-with_past script events moment is

  reservable : All IsReservable moment.world.log
  reservable = (on_the_way script LogIsReservable (kept_reservable script range) events moment moment is moments.Still).all

  module _ (vid index : ℕ) (draft : IsReservedEntry (log_effects moment.world.log) (good_id_at moment) vid index) (old : Vid)
      (tag : List ℕ) (from : draft.reservation.source ≡ sources.Snapshot old tag) (j : ℕ) (attempt : AttemptRecord)
      (comes : IsEntryToCome moment.world.hosts moment.past.attempts vid index j attempt) (host : Host)
      (there : tree.get moment.world.hosts draft.reservation.by.0 ≡ Some host) (up : host.is_lost ≡ false) where
    parent : parent_of (log_effects moment.world.log) vid ≡ Some old
    parent = place_parent moment.world.log vid draft.reservation draft.stands old tag from

    module _ (placing : IsPlacing host.node attempt.req attempt.work vid draft.reservation.session) where
      abbrev op : Op
      op = placing.yet.op

      abbrev inode : Content
      inode = placing.inode

      abbrev request : Request
      request = record { session = draft.reservation.session; course = Commanding placing.yet.op }

      stands : StandsReserved moment.world.log placing.inode.vid draft.reservation
      stands =
          ap (λ (v : ℕ). reservation_on (record { 0 = v }) (reservations_of (log_effects moment.world.log))) placing.own ∙ draft.stands

      held : HasPlaceHeld script range events moment is draft.reservation.by.0 host there up attempt.req
          (record { session = draft.reservation.session; course = Commanding placing.yet.op }) placing.yet.op placing.yet.there refl
          placing.inode
      held =
          place_held script range events moment is draft.reservation.by.0 host there up attempt.req request op placing.yet.there refl inode
          draft.reservation stands placing.yet.place

      -- the disk is that of the command
      old_so : old.0 ≡ held.old.0
      old_so =
          let same : held.place.has.reservation ≡ draft.reservation
          = same_Some held.place.has.reservation draft.reservation (sym held.place.has.found ∙ stands) in
          in_place_of held.old.0 draft.reservation.source old tag from
          (subst (λ (r : Reservation). IsInPlaceOf held.old.0 r.source) same held.place.place)

      good : good_id_at moment held.old.0 ≡ true
      good =
          ap (good_id_at moment) (sym old_so)
          ∙ parents_good moment.world.log (good_id_at moment) (above_good_on_the_way script
          {start = moment} {moment = moment} {end = moment} AtEnd) vid old parent draft.good

      spec_so : spec_in (log_effects moment.world.log) held.old.0 ≡ Some draft.spec
      spec_so =
          ap (spec_in (log_effects moment.world.log)) (sym old_so)
          ∙ base_spec script range events moment is (good_id_at moment) vid index draft old parent

      -- the attempt has what the table of the new inode has
      made_entry : (of : Vid) (entry : Entry) → op.stage ≡ Working of (Making entry (Some inode))
          → entry_by index attempt ≡ slice_index inode.table index
      made_entry of entry at =
          let sound : IsSoundInode inode
          = subst IsSoundStage at
          (((sound_world script range moment.world began).hosts draft.reservation.by.0 host there).node.sound_works.courses attempt.req
          request placing.yet.there) in
          let head : HasHead inode
          = on_the_way script MakingsFit (kept_fit script range) events moment moment is moments.Still draft.reservation.by.0 host there
          attempt.req request op inode placing.yet.there refl (subst (IsMakingStage inode) (sym at) refl) in
          ap (entry_made index) placing.work_of ∙ created_at inode index sound.ids.vid head sound.ids.entries

      published_entry : (entry : Entry) → op.stage ≡ Publishing entry (Some inode)
          → entry_by index attempt ≡ slice_index inode.table index
      published_entry entry at =
          let known : IsKnownInode (effects_of host.node.peer) inode
          = subst (IsKnownStage (effects_of host.node.peer)) at
          ((nodes_know script range moment.world began draft.reservation.by.0 host there).courses attempt.req request placing.yet.there) in
          let front = all_read script moment.world began draft.reservation.by.0 host there in
          let own_spec : spec_in (log_effects moment.world.log) inode.vid ≡ Some inode.spec
          = ap (λ (log : List Entry). spec_in (log_effects log) inode.vid) front.is
          ∙ spec_stays host.node.peer.entries front.rest inode.vid inode.spec known.disk.made in
          let same : inode.spec ≡ draft.spec
          = same_Some inode.spec draft.spec
          (sym own_spec ∙ ap (spec_in (log_effects moment.world.log)) placing.own ∙ draft.made_with) in
          (published_in_run script range events moment moment is moments.Still).each draft.reservation.by.0 host there up attempt.req index
          request op entry inode placing.yet.there refl at
          (subst (λ (s : VdiSpec). index < objects_of s) (sym same) draft.within)
          (publishers_write script range events moment is draft.reservation.by.0 host there up attempt.req request op entry inode
          placing.yet.there refl at) j attempt
          (subst (λ (v : ℕ). IsEntryToCome moment.world.hosts moment.past.attempts v index j attempt) (sym placing.own) comes)

      entry_so : entry_by index attempt ≡ slice_index inode.table index
      entry_so = by_stage op.stage refl placing.yet.place
        where
          by_stage : (stage : OpStage) → op.stage ≡ stage → IsPlaceStage inode stage
              → entry_by index attempt ≡ slice_index inode.table index
          by_stage (Asked entry) at (inl never) = absurd never
          by_stage (Asked entry) at (inr never) = absurd never
          by_stage (Working of (Opening snapshot ids header)) at (inl never) = absurd never
          by_stage (Working of (WritingBack other)) at (inl never) = absurd never
          by_stage (Working of (Tagging before other)) at (inl never) = absurd never
          by_stage (Working of (Copying ids header)) at (inl never) = absurd never
          by_stage (Working of (Making entry made)) at (inl own) =
              made_entry of entry (at ∙ ap (λ (o : Option Content). Working of (Making entry o)) own)
          by_stage (Working of task) at (inr never) = absurd never
          by_stage (Publishing entry made) at (inl never) = absurd never
          by_stage (Publishing entry made) at (inr own) =
              published_entry entry (at ∙ ap (λ (o : Option Content). Publishing entry o) own)
          by_stage (Answered change) at (inl never) = absurd never
          by_stage (Answered change) at (inr never) = absurd never

      all_of_disk : IsAllOfDisk moment old index (entry_by index attempt) draft.reservation
      all_of_disk =
          let all = held_comes script range events moment is (good_id_at moment) (inodes-in_run script range events moment is).tables
          draft.reservation.by.0 host there up attempt.req request op placing.yet.there refl inode placing.yet.place held.old held.opens
          held.lock index draft.spec good spec_so draft.within in
          let writes = held_writer script range events moment is (good_id_at moment) (inodes-in_run script range events moment is).tables
          draft.reservation.by.0 host there up attempt.req request op placing.yet.there refl inode placing.yet.place held.old held.opens
          held.lock in
          record {
            epoch = host.node.peer.epoch;
            created = subst (λ (v : ℕ). IsCreated moment.past.attempts (inode_number v) host.node.peer.epoch) (sym old_so) all.0;
            all = λ k other may.
                all.1 k other (subst (λ (v : ℕ). IsEntryToCome moment.world.hosts moment.past.attempts v index k other) old_so may)
                ∙ sym entry_so;
            writer = ap (writer_of (log_effects moment.world.log)) old_so ∙ writes;
          }

    pub place_of_up : PlacesAreAwaited moment → IsAllOfDisk moment old index (entry_by index attempt) draft.reservation
    place_of_up awaited = ⊎_elim
        (λ (nothing : comes_to_nothing moment.world.hosts attempt ≡ true).
        let stands = comes.stands in absurd (cc (nothing, stands)))
        (λ (placing : IsPlacing host.node attempt.req attempt.work vid draft.reservation.session). all_of_disk placing)
        (awaited j attempt comes.there vid draft.reservation (record {
          id = (header_is moment.world.log reservable vid draft.spec draft.made_with).0;
          stands = draft.stands;
          old = old;
          tag = tag;
          from = from;
          object = comes.object;
        }) host there up)
