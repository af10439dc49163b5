-- Where a check is replied to, in the middle of a step, each block in which it has an item is alone: the last attempt on the object wrote
-- the item's value, and of the object's entry nothing is to come but the disk's own id.
use Rattle.std.proofs.Common.{◌≡◌, ℕ, ◌+◌, ◌*◌, ◌<◌, Bool, true, false, List, [], length, Contains, Option, Some}
use Rattle.std.proofs.Common.{IfSome, slice_get, slice_index, refl, sym, ap, subst, ◌∙◌}
use Rattle.std.specs.Str.{bytes_eq}
use Rattle.std.specs.FinMap as tree
use Rattle.std.proofs.lemmas.List.Elements.{All-contains}
use Rattle.std.proofs.lemmas.Option.{same_Some}
use Rattle.proof_tools.proofs.FiniteMaps.{get-insert_same}
use Rattle.object_id.specs.declared.entry.Entry.{Entry}
use Rattle.object_id.specs.declared.entry.VdiSpec.{VdiSpec}
use Rattle.object_id.specs.Oid.{IsVid, inode_number, object_number}
use Rattle.object_id.specs.Spec.{IsSpec, objects_of}
use Rattle.cluster_script.specs.declared.statement.Statement.{Statement}
use Rattle.disk_check.specs.Check.{Check, WritingBack}
use Rattle.disk_check.specs.Table.{own_indexes}
use Rattle.disk_check.proofs.TableLemmas.{own_indexes-own}
use Rattle.disk_history.specs.Changes.{items_in}
use Rattle.disk_history.specs.Ledger.{Item, is_item_of}
use Rattle.disk_history.specs.Ledger as histories
use Rattle.disk_history.specs.Legal.{standing}
use Rattle.vdi_directory.specs.Dead.{is_dead}
use Rattle.vdi_directory.specs.Decisions.{log_effects}
use Rattle.gateway.specs.Attempt as gateways
use Rattle.gateway.specs.State.{Work}
use Rattle.gateway.specs.declared.message.Status.{Status}
use Rattle.guest_driver.specs.declared.disk.Disk.{Disk}
use Rattle.sheep_node.specs.declared.course.Course.TheVariants.{Checking}
use Rattle.sheep_node.specs.declared.course.Request.{Request}
use Rattle.sheep_node.specs.Changes as changes
use Rattle.sheep_node.specs.Changes.{EndsWork}
use Rattle.sheep_node.specs.SessionQueues.{session_among}
use Rattle.sheep_node.specs.StepFacts.{read_after}
use Rattle.sheep_node.specs.StepState.{StepState}
use Rattle.sheep_world.specs.Began.{Began}
use Rattle.sheep_world.specs.NodeCauses.{input_of_cause, host_with_node}
use Rattle.sheep_world.specs.World.{Host}
use Rattle.sheep_world.specs.RunsWithAsks.{Move}
use Rattle.overlap_law.specs.AloneChecksWritten.{IsOfValue, IsWritten, whole_object, WillBeWritten, IsBeingWritten, WasWritten}
use Rattle.overlap_law.specs.AloneEntries.{IsOwnByTable}
use Rattle.overlap_law.specs.Attempts.{AttemptRecord}
use Rattle.overlap_law.specs.Each.{spec_in}
use Rattle.overlap_law.specs.Headline.{ledger_of}
use Rattle.overlap_law.specs.MomentChanges.{MomentTrail, RunsAreInRange}
use Rattle.overlap_law.specs.Past.{MomentWithPast, run_with_past}
use Rattle.overlap_law.specs.Pieces.{bytes_for}
use Rattle.overlap_law.specs.StayingBlocks.{IsAloneWhereWritten, IsBlockOfAnyDisk}
use Rattle.overlap_law.specs.StepMoments.{SteppingNode, IsStepping, StepsByChanges, IsWithinStep, attempts_of_change, moment_in_step}
use Rattle.overlap_law.specs.Tables.{entry_by, entry_unit}
use Rattle.overlap_law.specs.ToCome.{IsEntryToCome, IsToCome, TablesStayTheInodes}
use Rattle.overlap_law.specs.Units.{bytes_by}
use Rattle.overlap_law.specs.WrittenBlocks.{blocks_per_object, items_at}
use Rattle.overlap_law.specs.WrittenPieces.{IsWrittenAlone}
use Rattle.overlap_law.proofs.AloneCheckers.{check_entries}
use Rattle.overlap_law.proofs.AloneChecksGoing.{value_done}
use Rattle.overlap_law.proofs.AloneChecksInRuns.{written-in_step}
use Rattle.overlap_law.proofs.AloneChecksItems.{WasBegun, item_was_begun}
use Rattle.overlap_law.proofs.AloneChecksSteps.{ComesBy}
use Rattle.overlap_law.proofs.AloneChecksValues.{in_whole, value_for}
use Rattle.overlap_law.proofs.AloneStepsOnDisks.{on_disk_in_step}
use Rattle.overlap_law.proofs.AnswersInMoments.{not_lost}
use Rattle.overlap_law.proofs.CheckedPlaces.{one_place}
use Rattle.overlap_law.proofs.CreatesFirst.{session_of}
use Rattle.overlap_law.proofs.GrantedEpochs.{spec_stays}
use Rattle.overlap_law.proofs.ItemsGoOn.{same_bytes}
use Rattle.overlap_law.proofs.KnownDisks.{IsKnownInode}
use Rattle.overlap_law.proofs.KnownDiskSteps.{effects_after}
use Rattle.overlap_law.proofs.MomentTrails.{leads_joined}
use Rattle.overlap_law.proofs.NoRecoveredDue.{began-with_past}
use Rattle.overlap_law.proofs.RepliedWrites.{might}
use Rattle.overlap_law.proofs.StandingItems.{stands_among}
use Rattle.overlap_law.proofs.TablesInMoments.{front_here, knows_here}
use Rattle.overlap_law.proofs.WrittenAlone.{alone_to_come}

-- an own object is one by the table
pub own_by_table : (disk : Disk) (index : ℕ) → Contains (own_indexes disk.inode) index → IsOwnByTable disk.inode index
own_by_table disk index among inside =
    (All-contains (λ (i : ℕ). (i < length disk.inode.table) × (slice_index disk.inode.table i ≡ disk.inode.vid)) (own_indexes disk.inode)
    index (own_indexes-own disk.inode) among).1

module _ (script : List Statement) (range : RunsAreInRange script) (events : List Move) (start : MomentWithPast)
    (ran : run_with_past script events ≡ Some start) (on : SteppingNode) (is : IsStepping script start.world on)
    (by : StepsByChanges on.cause) (so_far next : StepState) (within : IsWithinStep on so_far next)
    (trail : MomentTrail script start (moment_in_step script on start so_far)) (good_id : ℕ → Bool)
    (tables : TablesStayTheInodes (log_effects (moment_in_step script on start so_far).world.log) good_id
    (moment_in_step script on start so_far).world.hosts (moment_in_step script on start so_far).past.attempts)
    (none : (host : Host) → attempts_of_change host so_far next within.change ≡ []) where
  abbrev here : MomentWithPast
  here = moment_in_step script on start so_far

  abbrev later : MomentWithPast
  later = moment_in_step script on start next

  abbrev was : Host
  was = host_with_node on.host so_far.node

  began : Began script start.world
  began = began-with_past script events start ran

  up : on.host.is_lost ≡ false
  up = not_lost on.host is.up

  was_there : tree.get (moment_in_step script on start so_far).world.hosts on.n ≡ Some (host_with_node on.host so_far.node)
  was_there = get-insert_same start.world.hosts on.n was

  module _ (req session number k : ℕ) (work : Work) (attempt : gateways.Attempt) (status : Status) (bytes : List ℕ) (check : Check)
      (had : tree.get so_far.node.requests req ≡ Some (record { session = session; course = Checking check }))
      (ends : EndsWork (input_of_cause on.cause) on.host.node so_far number req k work attempt status (Checking check) bytes)
      (stage : check.stage ≡ WritingBack []) (opened : Disk)
      (at : (session_among session so_far.node.sessions).disk ≡ Some opened) where
    abbrev its : Request
    its = record { session = session; course = Checking check }

    -- the disk, by the log
    knows : IsKnownInode (effects_after (input_of_cause on.cause) on.host.node) opened.inode
    knows =
        let (one, there, has) = session_of so_far.node session opened at in
        subst (λ (o : Option Disk). IfSome o (λ (d : Disk). IsKnownInode (effects_after (input_of_cause on.cause) on.host.node) d.inode))
        has
        ((knows_here script range start began on is by so_far next within).on_known.each_session session one there).disk

    made : spec_in (log_effects (moment_in_step script on start so_far).world.log) opened.inode.vid ≡ Some opened.inode.spec
    made =
        let (rest, front) = front_here script range start began on is by so_far next within in
        subst (λ (log : List Entry). spec_in (log_effects log) opened.inode.vid ≡ Some opened.inode.spec) (sym front)
        (spec_stays (read_after (input_of_cause on.cause) on.host.node.peer.entries) rest opened.inode.vid opened.inode.spec
        knows.disk.made)

    -- each value was written
    value_alone : (block : ℕ) (given : List ℕ)
        → (v : IsOfValue (ComesBy on on.n req) (moment_in_step script on start so_far).past.attempts so_far.node opened req check block
        given)
        → IsWrittenAlone (moment_in_step script on start so_far).past.attempts check.vid v.value (whole_object check.spec v.index)
    value_alone block given v = by_status v.is
      where
        by_status : IsWritten (ComesBy on on.n req v.index v.value) (moment_in_step script on start so_far).past.attempts so_far.node req
            check
            v.index v.value
            → IsWrittenAlone (moment_in_step script on start so_far).past.attempts check.vid v.value (whole_object check.spec v.index)
        by_status (WillBeWritten rest comparing comes) = absurd (cc (comparing, stage))
        by_status (IsBeingWritten rest writing apart only) =
            value_done script range events start ran on is by so_far next within trail req session check had number k work attempt status
            bytes
            ends opened at [] stage v.index v.value v.few v.vid v.spec v.long only
        by_status (WasWritten apart never alone) = alone

    -- ---- a block in which the check has an item

    module _ (vid index unit place : ℕ) (found : histories.Disk) (spec : VdiSpec) (item : Item)
        (block : IsBlockOfAnyDisk (ledger_of (moment_in_step script on start so_far).past.history)
        (log_effects (moment_in_step script on start so_far).world.log) good_id vid found spec index unit)
        (got : slice_get (standing (items_at found spec index unit)) place ≡ Some item) (own : is_item_of req item ≡ true) where
      abbrev number_of : ℕ
      number_of = index * blocks_per_object spec + unit

      in_block : (p : ℕ) × (slice_get (items_at found spec index unit) p ≡ Some item)
      in_block = stands_among (items_at found spec index unit) place item got

      in_ledger : slice_get (items_in ((ledger_of (moment_in_step script on start so_far).past.history).disks vid)
          (index * blocks_per_object spec + unit)) in_block.0 ≡ Some item
      in_ledger =
          subst (λ (o : Option histories.Disk). slice_get (items_in o (index * blocks_per_object spec + unit)) in_block.0 ≡ Some item)
          (sym block.there) in_block.1

      vid_so : vid ≡ opened.inode.vid
      vid_so =
          on_disk_in_step script range events start ran on is by so_far within.leads req its had opened at vid number_of in_block.0 item
          in_ledger own

      spec_so : spec ≡ opened.inode.spec
      spec_so =
          same_Some spec opened.inode.spec
          (sym block.made_with ∙ ap (spec_in (log_effects (moment_in_step script on start so_far).world.log)) vid_so ∙ made)

      begun : WasBegun req (moment_in_step script on start so_far).past.history (index * blocks_per_object spec + unit) item.bytes
      begun = item_was_begun req here.past.history vid number_of in_block.0 item in_ledger own

      value : IsOfValue (ComesBy on on.n req) (moment_in_step script on start so_far).past.attempts so_far.node opened req check
          (index * blocks_per_object spec + unit) item.bytes
      value =
          (written-in_step script range events start ran on is by so_far within.leads
          (leads_joined (changes.Then changes.Still within.change) within.rest)).each on.n was was_there up req begun.0 number_of begun.1
          item.bytes its opened check had at refl begun.2

      -- it is of the value's object
      of_object : (index ≡ value.index) × (unit ≡ value.unit)
      of_object =
          let same : spec ≡ check.spec = spec_so ∙ sym value.spec in
          one_place (blocks_per_object check.spec) index unit value.index value.unit
          (subst (λ (s : VdiSpec). unit < blocks_per_object s) same block.inside) value.inside
          (ap (λ (s : VdiSpec). index * blocks_per_object s + unit) (sym same) ∙ value.at)

      vid_of_check : vid ≡ check.vid
      vid_of_check = vid_so ∙ sym value.vid

      bytes_so : (j : ℕ) (one : AttemptRecord)
          → IsToCome (moment_in_step script on start next).world.hosts (moment_in_step script on start next).past.attempts
          (object_number vid index) unit j one
          → bytes_eq item.bytes (bytes_by unit one.work) ≡ true
      bytes_so j one comes =
          let v = value in
          let id : IsVid check.vid = subst IsVid (sym v.vid) knows.disk.id in
          let spec_is : IsSpec check.spec = subst IsSpec (sym v.spec) knows.disk.spec_valid in
          let there : IsToCome here.world.hosts here.past.attempts (object_number check.vid v.index) v.unit j one
          = subst (λ (u : ℕ). IsToCome here.world.hosts here.past.attempts (object_number check.vid v.index) u j one) of_object.1
          (subst (λ (oid : ℕ). IsToCome here.world.hosts here.past.attempts oid unit j one)
          (λ i. object_number (vid_of_check i) (of_object.0 i))
          (might script range events start ran on is by so_far next within trail good_id none (object_number vid index) unit j one
          comes)) in
          let alone : bytes_by v.unit one.work ≡ bytes_for v.value (whole_object check.spec v.index) v.unit
          = alone_to_come here.world.hosts here.past.attempts check.vid v.value (whole_object check.spec v.index)
          (value_alone number_of item.bytes v) v.unit
          (in_whole check v.index v.value id spec_is v.few v.long v.unit v.inside) j one there in
          let same : item.bytes ≡ bytes_for v.value (whole_object check.spec v.index) v.unit
          = v.same ∙ value_for check v.index v.value id spec_is v.few v.long v.unit in
          (λ i. bytes_eq (same i) ((ap (λ (u : ℕ). bytes_by u one.work) of_object.1 ∙ alone) i))
          ∙ same_bytes (bytes_for v.value (whole_object check.spec v.index) v.unit)

      entry_so : (j : ℕ) (entry : AttemptRecord)
          → IsEntryToCome (moment_in_step script on start next).world.hosts (moment_in_step script on start next).past.attempts vid index j
          entry
          → entry_by index entry ≡ vid
      entry_so j entry comes =
          let v = value in
          let there : IsEntryToCome here.world.hosts here.past.attempts opened.inode.vid index j entry
          = subst (λ (w : ℕ). IsEntryToCome here.world.hosts here.past.attempts w index j entry) vid_so
          (might script range events start ran on is by so_far next within trail good_id none (inode_number vid) (entry_unit index) j entry
          comes) in
          check_entries script range events start here ran trail on.n was was_there up req its had opened at check refl good_id tables
          (ap good_id (sym vid_so) ∙ block.good)
          (ap (is_dead (log_effects (moment_in_step script on start so_far).world.log)) (sym vid_so) ∙ block.alive) index
          (subst (λ (s : VdiSpec). index < objects_of s) spec_so block.object)
          (own_by_table opened index (subst (Contains (own_indexes opened.inode)) (sym of_object.0) v.own)) j entry there
          ∙ sym vid_so

    pub check_alone_there : IsAloneWhereWritten (log_effects (moment_in_step script on start next).world.log) good_id
        (moment_in_step script on start next).world.hosts (moment_in_step script on start next).past.attempts
        (ledger_of (moment_in_step script on start so_far).past.history) req
    check_alone_there = record {
      entry = λ vid index unit place found spec item block got own j entry comes.
          entry_so vid index unit place found spec item block got own j entry comes;
      bytes = λ vid index unit place found spec item block got own j one comes.
          bytes_so vid index unit place found spec item block got own j one comes;
    }
