-- In each run in range, at the end of every event: what a check has behind it, of an object that it isn't writing, is all that the blocks
-- of the object may be read as.
use Rattle.std.proofs.Common.{◌≡◌, inl, ℕ, ◌+◌, ◌*◌, ◌<◌, Bool, true, false, List, Option, Some, slice_get, refl, sym, ap, subst, ◌∙◌}
use Rattle.std.specs.List.{list_all}
use Rattle.std.specs.Str.{bytes_eq}
use Rattle.std.specs.FinMap as tree
use Rattle.object_id.specs.declared.entry.VdiSpec.{VdiSpec}
use Rattle.object_id.specs.Oid.{IsVid}
use Rattle.object_id.specs.Spec.{IsSpec}
use Rattle.cluster_script.specs.declared.statement.Statement.{Statement}
use Rattle.disk_check.specs.Check.{Check, CheckStage, WritingBack, write_value}
use Rattle.disk_history.specs.Changes.{items_in}
use Rattle.disk_history.specs.Ledger.{Item, is_item_of}
use Rattle.disk_history.specs.Ledger as histories
use Rattle.vdi_directory.specs.Decisions.{log_effects}
use Rattle.gateway.specs.State.{Work}
use Rattle.gateway.specs.Work.{is_making}
use Rattle.guest_driver.specs.declared.disk.Disk.{Disk}
use Rattle.peer_proto.specs.declared.work.ObjWork.{ObjWork}
use Rattle.sheep_node.specs.declared.course.Course.TheVariants.{Checking}
use Rattle.sheep_node.specs.declared.course.Request.{Request}
use Rattle.sheep_node.specs.NodeInvariant.{IsSoundNode}
use Rattle.sheep_node.specs.WantedWorks.{IsWantedAt, IsWorkOfCheck}
use Rattle.sheep_world.specs.World.{Host}
use Rattle.sheep_world.specs.RunsWithAsks.{Move}
use Rattle.overlap_law.specs.AloneChecksWritten.{IsOfValue, IsWritten, WillBeWritten, IsBeingWritten, WasWritten, NoneComes, whole_object}
use Rattle.overlap_law.specs.Attempts.{AttemptRecord}
use Rattle.overlap_law.specs.CheckedAhead.{ChecksAreAlone}
use Rattle.overlap_law.specs.Checks.{ChecksHaveItems, HasBegunWrite, IsCheckOn}
use Rattle.overlap_law.specs.Headline.{ledger_of}
use Rattle.overlap_law.specs.MomentChanges.{RunsAreInRange, Still}
use Rattle.overlap_law.specs.Past.{MomentWithPast, run_with_past}
use Rattle.overlap_law.specs.Pieces.{bytes_for}
use Rattle.overlap_law.specs.TiedAttempts.{IsTied}
use Rattle.overlap_law.specs.Units.{bytes_by}
use Rattle.overlap_law.specs.WrittenBlocks.{IsBlockOfDisk, blocks_per_object, items_at, outcomes_in}
use Rattle.overlap_law.proofs.AloneChecksInRuns.{written-in_run}
use Rattle.overlap_law.proofs.AloneChecksItems.{WasBegun, item_was_begun}
use Rattle.overlap_law.proofs.AloneChecksOpen.{HaveOpenWorks}
use Rattle.overlap_law.proofs.AloneChecksOpenRuns.{open_works-in_run}
use Rattle.overlap_law.proofs.AloneChecksValues.{in_whole, value_for}
use Rattle.overlap_law.proofs.CheckedAhead.{ahead-in_run}
use Rattle.overlap_law.proofs.CheckedOnTheWay.{behind-in_run, checked-in_run, got_so}
use Rattle.overlap_law.proofs.CheckedPlaces.{one_place}
use Rattle.overlap_law.proofs.NoRecoveredDue.{began-with_past}
use Rattle.overlap_law.proofs.RunsByChanges.{on_the_way}
use Rattle.overlap_law.proofs.TiedInRuns.{kept_tied}
use Rattle.overlap_law.proofs.WholeInRuns.{sound_world}
use Rattle.overlap_law.proofs.WrittenAlone.{alone_outcomes}

module _ (script : List Statement) (range : RunsAreInRange script) (events : List Move) (moment : MomentWithPast)
    (ran : run_with_past script events ≡ Some moment) (n : ℕ) (host : Host) (at_host : tree.get moment.world.hosts n ≡ Some host)
    (up : host.is_lost ≡ false) (open_works : HaveOpenWorks host.node.gateway.works host.node.requests) (good_id : ℕ → Bool)
    (req index unit place : ℕ) (check : Check) (opened : Disk) (disk : histories.Disk) (item : Item)
    (checked : IsCheckOn (ledger_of moment.past.history) host.node req check opened disk)
    (never : (value : List ℕ) → HasBegunWrite host.node req index check value → ⊥)
    (block : IsBlockOfDisk (ledger_of moment.past.history) (log_effects moment.world.log) good_id opened.inode.vid disk opened.inode.spec
    index unit)
    (got : slice_get (items_at disk opened.inode.spec index unit) place ≡ Some item) (own : is_item_of req item ≡ true) where
  abbrev number : ℕ
  number = index * blocks_per_object opened.inode.spec + unit

  abbrev sound : IsSoundNode host.node
  sound = ((sound_world script range moment.world (began-with_past script events moment ran)).hosts n host at_host).node

  there : tree.get host.node.requests req ≡ Some (record { session = checked.request.session; course = Checking check })
  there = got_so script range events moment ran n host at_host up req check opened disk checked

  in_ledger : slice_get (items_in ((ledger_of moment.past.history).disks opened.inode.vid)
      (index * blocks_per_object opened.inode.spec + unit)) place ≡ Some item
  in_ledger =
      subst (λ (o : Option histories.Disk). slice_get (items_in o (index * blocks_per_object opened.inode.spec + unit)) place ≡ Some item)
      (sym checked.on.known) got

  begun : WasBegun req moment.past.history (index * blocks_per_object opened.inode.spec + unit) item.bytes
  begun = item_was_begun req moment.past.history opened.inode.vid number place item in_ledger own

  -- the value of which the item is
  value : IsOfValue (NoneComes n req) moment.past.attempts host.node opened req check
      (index * blocks_per_object opened.inode.spec + unit) item.bytes
  value =
      (written-in_run script range events moment ran).each n host at_host up req begun.0 number begun.1 item.bytes checked.request opened
      check checked.on.there checked.on.on checked.course begun.2

  -- it is of the same object
  of_object : (index ≡ value.index) × (unit ≡ value.unit)
  of_object =
      let spec = value.spec in
      one_place (blocks_per_object check.spec) index unit value.index value.unit
      (subst (λ (s : VdiSpec). unit < blocks_per_object s) (sym spec) block.inside) value.inside
      (ap (λ (s : VdiSpec). index * blocks_per_object s + unit) spec ∙ value.at)

  -- which isn't being written
  unwritten : (later : List ℕ) → check.stage ≡ WritingBack later
      → ((work : ObjWork) → is_making work ≡ true → (one : Work) → tree.get host.node.gateway.works req ≡ Some one → one.work ≡ work
      → work ≡ write_value check value.index value.value)
      → ⊥
  unwritten later writing only =
      let (work, open_there) = open_works req (record {
        session = checked.request.session;
        check = check;
        got = there;
        waits = λ answered. let is = writing in cc (is, answered);
      }) in
      by_wanted work open_there
      (subst (λ (s : CheckStage). IsWorkOfCheck check s work.work) writing
      (subst (λ (o : Option Request). IsWantedAt host.node.sessions o work.work) there
      (sound.wanted_works req work.work (inl (work, open_there, refl)))))
    where
      by_wanted : (work : Work) → tree.get host.node.gateway.works req ≡ Some work
          → IsWorkOfCheck check (WritingBack later) work.work → ⊥
      by_wanted work open_there (i, some, is) =
          let same = only work.work (ap is_making is) work open_there refl in
          never value.value (record {
            open_work = work;
            there = open_there;
            same = same ∙ ap (λ (k : ℕ). write_value check k value.value) (sym of_object.0);
          })

  -- so it was written, by the last attempt on the object
  bytes_so : list_all (λ (attempt : AttemptRecord). bytes_eq item.bytes (bytes_by unit attempt.work))
      (outcomes_in moment.world.hosts moment.past.attempts opened.inode.vid opened.inode.vid index unit) ≡ true
  bytes_so = by_status value.is
    where
      by_status : IsWritten (NoneComes n req value.index value.value) moment.past.attempts host.node req check value.index value.value
          → list_all (λ (attempt : AttemptRecord). bytes_eq item.bytes (bytes_by unit attempt.work))
          (outcomes_in moment.world.hosts moment.past.attempts opened.inode.vid opened.inode.vid index unit) ≡ true
      by_status (WillBeWritten later comparing comes) = absurd comes
      by_status (IsBeingWritten later writing apart only) =
          absurd (unwritten later writing
          (λ work making one one_there does. only work (inl (one, one_there, does)) making))
      by_status (WasWritten apart none alone) =
          let courses = sound.sound_works.courses req (record { session = checked.request.session; course = Checking check }) there in
          let id : IsVid check.vid = courses.vid in
          let spec : IsSpec check.spec = courses.spec in
          let bytes : item.bytes ≡ bytes_for value.value (whole_object check.spec value.index) value.unit
          = value.same ∙ value_for check value.index value.value id spec value.few value.long value.unit in
          let vid : opened.inode.vid ≡ check.vid = sym value.vid in
          let whole = (on_the_way script IsTied (kept_tied script range) events moment moment ran Still).fates.whole in
          (λ i. list_all (λ (attempt : AttemptRecord). bytes_eq (bytes i) (bytes_by (of_object.1 i) attempt.work))
          (outcomes_in moment.world.hosts moment.past.attempts (vid i) (vid i) (of_object.0 i) (of_object.1 i)))
          ∙ alone_outcomes moment.world.hosts moment.past.attempts whole check.vid value.value (whole_object check.spec value.index) alone
          value.unit (in_whole check value.index value.value id spec value.few value.long value.unit value.inside)

pub alone-in_run : (script : List Statement) → RunsAreInRange script → (events : List Move) (moment : MomentWithPast)
    → run_with_past script events ≡ Some moment → (good_id : ℕ → Bool)
    → ChecksAreAlone (ledger_of moment.past.history) (log_effects moment.world.log) good_id moment.world.hosts moment.past.attempts
alone-in_run script range events moment ran good_id = record {
  each = λ n host at_host up req index unit place check opened disk item checked come never block got own.
      bytes_so script range events moment ran n host at_host up
      (open_works-in_run script range events moment moment ran Still n host at_host) good_id req index unit place check opened disk item
      checked never block got own;
}

-- so the whole conjunct holds
pub checks_have-in_run : (script : List Statement) → RunsAreInRange script → (events : List Move) (moment : MomentWithPast)
    → run_with_past script events ≡ Some moment → (good_id : ℕ → Bool)
    → ChecksHaveItems (ledger_of moment.past.history) (log_effects moment.world.log) good_id moment.world.hosts moment.past.attempts
checks_have-in_run script range events moment ran good_id = record {
  writing = (checked-in_run script range events moment ran).each;
  ahead = (ahead-in_run script range events moment ran).each;
  behind = (behind-in_run script range events moment ran).each;
  alone = (alone-in_run script range events moment ran good_id).each;
}
