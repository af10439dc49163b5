-- In each run in range, in the middle of whatever step of an event, the blocks of strips that reads have read have bases, if nobody writes
-- what is read, and its items are coded, and bytes; and the objects that are read were born as the event began.
use Rattle.std.proofs.Common.{◌≡◌, arith, ℕ, ◌+◌, ◌*◌, ◌%◌, ◌≤◌, ◌<◌, Bool, true, false, List, Option, None, Some, slice_get, sym, ap}
use Rattle.std.proofs.Common.{subst, refl, ◌∙◌}
use Rattle.std.specs.FinMap as tree
use Rattle.std.proofs.lemmas.Slice.Eq.{bytes_eq-Decides}
use Rattle.proof_tools.proofs.FiniteMaps.{get-insert_same}
use Rattle.object_id.specs.declared.limits.TheConstants.{BLOCK_BYTES}
use Rattle.object_id.specs.declared.oid.Kind.{Kind}
use Rattle.object_id.specs.declared.oid.Kind.TheVariants.{Block}
use Rattle.object_id.specs.Fields.{AreBytes}
use Rattle.object_id.specs.Oid.{kind_of, object_number, vid_of}
use Rattle.gf256.specs.Part.{is_in_strips}
use Rattle.cluster_script.specs.declared.statement.Statement.{Statement}
use Rattle.disk_history.specs.Ledger as histories
use Rattle.disk_history.specs.Ledger.{Item, Ledger}
use Rattle.guest_driver.specs.declared.disk.Disk.{Disk}
use Rattle.guest_driver.specs.Driver.{Reads}
use Rattle.guest_driver.specs.Pieces.{Piece, AreBlocks}
use Rattle.guest_driver.specs.PieceWorks.{entry_of, read_piece}
use Rattle.gateway.specs.declared.message.Status.{Status}
use Rattle.gateway.specs.Attempt as gateways
use Rattle.gateway.specs.State.{Work}
use Rattle.peer_service.specs.State.{object_size}
use Rattle.vdi_directory.specs.Decisions.{log_effects}
use Rattle.vdi_directory.specs.States.{state_of, is_live_state}
use Rattle.sheep_node.specs.declared.course.Course.TheVariants.{Driving}
use Rattle.sheep_node.specs.Changes.{EndsWork}
use Rattle.sheep_node.specs.State.{session_at}
use Rattle.sheep_node.specs.StepState.{StepState}
use Rattle.sheep_world.specs.NodeCauses.{host_with_node, input_of_cause}
use Rattle.sheep_world.specs.World.{Host}
use Rattle.sheep_world.specs.RunsWithAsks.{Move}
use Rattle.overlap_law.specs.Attempts.{AttemptRecord, object_of, attempts_on}
use Rattle.overlap_law.specs.BornObjects.{IsBorn}
use Rattle.overlap_law.specs.Each.{spec_in}
use Rattle.overlap_law.specs.Fates.{IsCreated}
use Rattle.overlap_law.specs.Holders.{is_available_disk}
use Rattle.overlap_law.specs.MomentChanges.{MomentTrail, RunsAreInRange}
use Rattle.overlap_law.specs.NamedWorks.{AboveIsGood}
use Rattle.overlap_law.specs.Overlap.{CallsFewer}
use Rattle.overlap_law.specs.Past.{MomentWithPast, run_with_past}
use Rattle.overlap_law.specs.Pieces.{IsInPiece}
use Rattle.overlap_law.specs.SoundCoded.{StripItemsAreCoded}
use Rattle.overlap_law.specs.StripReadsAlike.{ReadStripsAreAlike, ItemsAreOfBytes}
use Rattle.overlap_law.specs.StayingBlocks.{BlocksStayWritten}
use Rattle.overlap_law.specs.StepMoments.{SteppingNode, IsStepping, StepsByChanges, LeadsInStep, first_in_step, moment_in_step}
use Rattle.overlap_law.specs.StripReadsBases.{IsStripBase, StripsHaveBases}
use Rattle.overlap_law.specs.ToCome.{IsToCome}
use Rattle.overlap_law.specs.Units.{bytes_by, covers_unit, unit_end}
use Rattle.overlap_law.specs.WrittenBlocks.{IsBlockOfDisk, blocks_per_object, is_torn_here, items_at}
use Rattle.overlap_law.proofs.BlocksOfAnyDisk.{any_block}
use Rattle.overlap_law.proofs.AnswersInMoments.{not_lost}
use Rattle.overlap_law.proofs.KnownDisks.{kind-of_object}
use Rattle.overlap_law.proofs.KnownDiskSteps.{effects_after}
use Rattle.overlap_law.proofs.OpeningReads.{knows_tables}
use Rattle.overlap_law.proofs.PiecesOfReads.{blocks, created, few, home_comes, is_vid, some as is_named}
use Rattle.overlap_law.proofs.ReadUnits.{created_covers}
use Rattle.overlap_law.proofs.ReadWorks.{IsReadOn}
use Rattle.overlap_law.proofs.RunsByChanges.{on_the_way}
use Rattle.overlap_law.proofs.StandingItems.{stands_among}
use Rattle.overlap_law.proofs.StripReadsBorn.{born_at_start}
use Rattle.overlap_law.proofs.StripReadsLast.{has_base, made_is_heard}
use Rattle.overlap_law.proofs.StripReadsToCome.{known_spec, policy_known, reads_so}
use Rattle.overlap_law.proofs.TellersOfPieces.{TellersAreTargets, tellers-on_the_way}
use Rattle.overlap_law.proofs.WholeInRuns.{whole-on_the_way}
use Rattle.overlap_law.proofs.WholeNodes.{IsWholeWork}
use Rattle.overlap_law.proofs.WorksOfAttempts.{AreOfWorks, kept_works}

module _ (script : List Statement) (range : RunsAreInRange script) (events : List Move) (start : MomentWithPast)
    (run : run_with_past script events ≡ Some start) (good_id : ℕ → Bool)
    (fewer : CallsFewer good_id (is_available_disk start.world.log start.past.unavailable))
    (closed : AboveIsGood (log_effects start.world.log) good_id) where
  module _ (stepping : SteppingNode) (so_far : StepState) (is : IsStepping script start.world stepping) (by : StepsByChanges stepping.cause)
      (leads : LeadsInStep stepping (first_in_step stepping) so_far)
      (trail : MomentTrail script start (moment_in_step script stepping start so_far)) (session : ℕ) (disk : Disk)
      (opened : (session_at session so_far.node).disk ≡ Some disk) (req number : ℕ) (work : Work) (attempt : gateways.Attempt)
      (status : Status) (told bytes : List ℕ) (piece : Piece) (rest : List Piece)
      (ends : EndsWork (input_of_cause stepping.cause) stepping.host.node so_far session req number work attempt status
      (Driving (Reads told piece rest)) bytes) where
    abbrev here : MomentWithPast
    here = moment_in_step script stepping start so_far

    abbrev was : Host
    was = host_with_node stepping.host so_far.node

    abbrev home : ℕ
    home = entry_of disk.inode piece

    abbrev oid : ℕ
    oid = object_number home piece.index

    seat : tree.get here.world.hosts stepping.n ≡ Some was
    seat = get-insert_same start.world.hosts stepping.n was

    tellers : TellersAreTargets here
    tellers = tellers-on_the_way script range events start here run trail

    kind_so : kind_of oid ≡ Block
    kind_so =
        kind-of_object home piece.index
        (is_vid script range events start run good_id fewer closed here trail stepping so_far is by leads refl session disk opened req
        number work attempt status told bytes piece rest ends)
        (few script range events start run good_id fewer closed here trail stepping so_far is by leads refl session disk opened req number
        work attempt status told bytes piece rest ends)

    pieces_so : AreBlocks piece
    pieces_so =
        blocks script range events start run good_id fewer closed here trail stepping so_far is by leads refl session disk opened req number
        work attempt status told bytes piece rest ends

    read_on : IsReadOn (effects_after (input_of_cause stepping.cause) stepping.host.node) (read_piece disk.inode piece home)
    read_on =
        (subst (IsWholeWork (effects_after (input_of_cause stepping.cause) stepping.host.node))
        (reads_so script range events start run good_id fewer closed stepping so_far is by leads trail session disk opened req number work
        attempt status told bytes piece rest ends)
        ((knows_tables script range events start run stepping is by so_far leads trail).open_works req work ends.ends.learns.there)).2

    module _ (ledger : Ledger) (strips : is_in_strips disk.inode.spec.policy Block ≡ true) (good : good_id disk.inode.vid ≡ true)
        (live : is_live_state (state_of (log_effects (moment_in_step script stepping start so_far).world.log) disk.inode.vid) ≡ true)
      where
        -- the object's create was made
        made_one : IsCreated here.past.attempts oid so_far.node.peer.epoch
        made_one =
            created script range events start run good_id fewer closed here trail stepping so_far is by leads refl session disk opened req
            number work attempt status told bytes piece rest ends ledger good live

        attempts_work : AreOfWorks here
        attempts_work = on_the_way script AreOfWorks (kept_works script range) events start here run trail

        -- so it was sent before the step
        born : IsBorn start.past.attempts oid
        born =
            subst (IsBorn start.past.attempts) made_one.object
            (born_at_start script start stepping is by so_far made_one.place made_one.create made_one.there made_one.creating
            (made_is_heard here.world.log here.world.wire here.past.attempts tellers.rows.tied.fates tellers.rows.shaped.shape attempts_work
            made_one.place made_one.create made_one.there made_one.made))

        module _ (alike : ReadStripsAreAlike ledger (log_effects (moment_in_step script stepping start so_far).world.log) good_id
            (moment_in_step script stepping start so_far).world.hosts (moment_in_step script stepping start so_far).past.attempts)
            (written : BlocksStayWritten ledger (log_effects (moment_in_step script stepping start so_far).world.log) good_id
            (moment_in_step script stepping start so_far).world.hosts (moment_in_step script stepping start so_far).past.attempts)
            (coded : StripItemsAreCoded ledger (log_effects (moment_in_step script stepping start so_far).world.log))
            (items : ItemsAreOfBytes ledger) (unit : ℕ) (found : histories.Disk) (inside : IsInPiece piece unit)
            (block : IsBlockOfDisk ledger (log_effects (moment_in_step script stepping start so_far).world.log) good_id disk.inode.vid found
            disk.inode.spec piece.index unit)
            (whole : is_torn_here disk.inode.spec (items_at found disk.inode.spec piece.index unit) ≡ false) where
          -- and it covers the block
          within : unit_end (kind_of oid) unit ≤ object_size read_on.spec (kind_of oid)
          within =
              let less = inside.last in
              let offset_so : piece.offset % 512 ≡ 0 = pieces_so.offset in
              let size_so : piece.size % 512 ≡ 0 = pieces_so.size in
              let under : BLOCK_BYTES * unit + BLOCK_BYTES ≤ piece.offset + piece.size = omega (arith, less, offset_so, size_so) in
              let below : unit_end (kind_of oid) unit ≤ piece.offset + piece.size
              = subst (λ (k : Kind). unit_end k unit ≤ piece.offset + piece.size) (sym kind_so) under in
              let most : piece.offset + piece.size ≤ object_size read_on.spec (kind_of oid) = read_on.inside in
              omega (arith, below, most)

          covers : covers_unit unit made_one.create ≡ true
          covers =
              created_covers unit (object_size read_on.spec (kind_of (object_of made_one.create))) made_one.create.work made_one.creating
              ((whole-on_the_way script range events start here run trail).each made_one.place made_one.create made_one.there read_on.spec
              (ap (λ (o : ℕ). spec_in (log_effects here.world.log) (vid_of o)) made_one.object
              ∙ known_spec script range events start run stepping so_far is by (vid_of oid) read_on.spec read_on.made))
              (subst (λ (o : ℕ). unit_end (kind_of o) unit ≤ object_size read_on.spec (kind_of o)) (sym made_one.object) within)

          -- what it may come to be read as stands, so it is bytes
          bytes_so : (i : ℕ) (one : AttemptRecord) → IsToCome here.world.hosts here.past.attempts oid unit i one
              → AreBytes (bytes_by unit one.work)
          bytes_so i one comes =
              let stays = written.each disk.inode.vid piece.index unit found disk.inode.spec
              (any_block ledger (log_effects here.world.log) good_id disk.inode.vid found disk.inode.spec piece.index unit block) whole home
              (home_comes script range events start run good_id fewer closed here trail stepping so_far is by leads refl session disk opened
              req number work attempt status told bytes piece rest ends ledger good live)
              (is_named script range events start run good_id fewer closed here trail stepping so_far is by leads refl session disk opened
              req number work attempt status told bytes piece rest ends) i one comes in
              let (k, got) = stands_among (found.items (piece.index * blocks_per_object disk.inode.spec + unit)) stays.place stays.item
              stays.among in
              subst AreBytes ((bytes_eq-Decides stays.item.bytes (bytes_by unit one.work)).0 stays.same)
              (of_item (piece.index * blocks_per_object disk.inode.spec + unit) k stays.item got block.block stays.item.request refl)
            where
              of_item : (at k : ℕ) (item : Item) → slice_get (found.items at) k ≡ Some item → at < found.blocks → (o : Option ℕ)
                  → item.request ≡ o → AreBytes item.bytes
              of_item at k item got below None none = (items.each disk.inode.vid at k found item block.there got).1 none
              of_item at k item got below (Some r) of =
                  (items.each disk.inode.vid at k found item block.there got).0
                  (coded.each disk.inode.vid at k r found disk.inode.spec item block.there block.made_with strips below got of)

          based : (j : ℕ) × (base : AttemptRecord) × IsStripBase (attempts_on oid here.past.attempts) unit j base
          based =
              has_base here.world.log here.world.hosts here.world.wire here.past.attempts tellers.rows.tied.fates tellers.rows.shaped.shape
              attempts_work oid disk.inode.spec.policy
              (policy_known script range events start run good_id fewer closed stepping so_far is by leads trail session disk opened req
              number work attempt status told bytes piece rest ends)
              kind_so unit
              (λ i k one two.
              alike.each stepping.n was seat (not_lost stepping.host is.up) req unit i k
              (record { session = session; course = Driving (Reads told piece rest) }) disk found told piece rest one two ends.ends.request
              opened
              refl strips inside block whole
              (home_comes script range events start run good_id fewer closed here trail stepping so_far is by leads refl session disk opened
              req number work attempt status told bytes piece rest ends ledger good live)
              (is_named script range events start run good_id fewer closed here trail stepping so_far is by leads refl session disk opened
              req number work attempt status told bytes piece rest ends))
              bytes_so made_one.place made_one.create made_one.there made_one.object covers made_one.made

  pub bases_at : (before : MomentWithPast) → MomentTrail script start before → (ledger : Ledger)
      → ReadStripsAreAlike ledger (log_effects before.world.log) good_id before.world.hosts before.past.attempts
      → BlocksStayWritten ledger (log_effects before.world.log) good_id before.world.hosts before.past.attempts
      → StripItemsAreCoded ledger (log_effects before.world.log) → ItemsAreOfBytes ledger → StripsHaveBases script start before ledger
      (log_effects before.world.log) good_id
  bases_at before trail ledger alike written coded items = record {
    each = λ stepping so_far is by leads same session req number work attempt status told bytes piece rest disk ends opened strips good
        live. (
          born stepping so_far is by leads (subst (MomentTrail script start) same trail) session disk opened req number work attempt status
              told
              bytes piece rest ends ledger strips good
              (subst (λ (m : MomentWithPast). is_live_state (state_of (log_effects m.world.log) disk.inode.vid) ≡ true) same live),
          λ unit found inside block whole.
              let HasBase : MomentWithPast → Type 0 = λ (m : MomentWithPast). (j : ℕ) × (base : AttemptRecord)
              × IsStripBase (attempts_on (object_number (entry_of disk.inode piece) piece.index) m.past.attempts) unit j base in
              subst HasBase (sym same)
              (based stepping so_far is by leads (subst (MomentTrail script start) same trail) session disk opened req number work attempt
              status told bytes piece rest ends ledger strips good
              (subst (λ (m : MomentWithPast). is_live_state (state_of (log_effects m.world.log) disk.inode.vid) ≡ true) same live)
              (subst (λ (m : MomentWithPast). ReadStripsAreAlike ledger (log_effects m.world.log) good_id m.world.hosts m.past.attempts)
              same alike)
              (subst (λ (m : MomentWithPast). BlocksStayWritten ledger (log_effects m.world.log) good_id m.world.hosts m.past.attempts) same
              written)
              (subst (λ (m : MomentWithPast). StripItemsAreCoded ledger (log_effects m.world.log)) same coded) items unit found inside
              (subst (λ (m : MomentWithPast). IsBlockOfDisk ledger (log_effects m.world.log) good_id disk.inode.vid found disk.inode.spec
              piece.index unit) same block)
              whole),
        );
  }
