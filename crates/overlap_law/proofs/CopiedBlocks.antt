-- Behind each change of a moment on the way of an event: what an open create of a write copies of strips of another disk's object may be
-- read of it, whichever requests are refused, in each block beside the write's piece that isn't torn; where the change keeps the history
-- otherwise. For nothing is being written there, so all that the block may come to be read as is one, and the object has a base; of that it
-- was read.
use Rattle.std.proofs.Common.{◌≡◌, ◌≢◌, ◌⊎◌, ⊎_elim, arith, ℕ, ◌+◌, ◌*◌, ◌≤◌, ◌<◌, ◌&&◌, Bool, true, false, List, length}
use Rattle.std.proofs.Common.{Option, Some, None, refl, sym, ap, subst, option_map, ◌∙◌}
use Rattle.std.specs.FinMap as tree
use Rattle.std.proofs.lemmas.Bool.{both_ways}
use Rattle.std.proofs.lemmas.Slice.Eq.{bytes_eq-Decides}
use Rattle.object_id.specs.declared.entry.VdiSpec.{VdiSpec}
use Rattle.object_id.specs.declared.limits.TheConstants.{BLOCK_BYTES}
use Rattle.object_id.specs.declared.oid.Kind.{Kind}
use Rattle.object_id.specs.declared.oid.Kind.TheVariants.{Block}
use Rattle.object_id.specs.declared.policy.Policy.{Policy}
use Rattle.object_id.specs.Fields.{AreBytes}
use Rattle.object_id.specs.Oid.{kind_of, object_number, vid_of}
use Rattle.object_id.specs.Spec.{objects_of}
use Rattle.object_store.specs.Bytes.{piece_at}
use Rattle.gf256.specs.Part.{is_in_strips}
use Rattle.cluster_script.specs.declared.statement.Statement.{Statement}
use Rattle.disk_history.specs.Ledger as histories
use Rattle.disk_history.specs.Ledger.{Ledger}
use Rattle.disk_history.specs.Legal.{is_torn}
use Rattle.vdi_directory.specs.declared.effect.Effect.{Effect}
use Rattle.vdi_directory.specs.Dead.{is_dead}
use Rattle.vdi_directory.specs.Decisions.{log_effects}
use Rattle.peer_proto.specs.Work.{oid_of}
use Rattle.peer_service.specs.State.{object_size}
use Rattle.gateway.specs.State.{Work}
use Rattle.guest_driver.specs.declared.disk.Disk.{Disk}
use Rattle.guest_driver.specs.Driver.{Writes, Creating}
use Rattle.guest_driver.specs.Pieces.{Piece}
use Rattle.guest_driver.specs.PieceWorks.{entry_of, object_bytes, create_copy}
use Rattle.sheep_node.specs.State.{session_at}
use Rattle.sheep_node.specs.declared.course.Course.TheVariants.{Driving}
use Rattle.sheep_node.specs.declared.course.Request.{Request}
use Rattle.sheep_world.specs.World.{Host}
use Rattle.sheep_world.specs.RunsWithAsks.{Move}
use Rattle.overlap_law.specs.Attempts.{AttemptRecord, object_of, attempts_on}
use Rattle.overlap_law.specs.CopiedStrips.{IsBlockOf, IsReadOfStrips, IsFetchedOfStrips, BesidePiecesIsUnwritten}
use Rattle.overlap_law.specs.StripReadsAlike.{ItemsAreOfBytes}
use Rattle.overlap_law.specs.CreatedPieces.{anything, CreatesPiece, OfHole, OfCopy}
use Rattle.overlap_law.specs.Each.{policy_in, spec_in}
use Rattle.overlap_law.specs.Fates.{IsCreated}
use Rattle.overlap_law.specs.Headline.{ledger_of}
use Rattle.overlap_law.specs.HistoryStands.{CallsAvailable}
use Rattle.overlap_law.specs.KeptHistory.{EntriesKeepBlocks, RepliesAreAlone, StripCopiesMayStay}
use Rattle.overlap_law.specs.MomentChanges.{IsOnTheWay, MomentTrail, Then, RunsAreInRange}
use Rattle.overlap_law.specs.Past.{MomentWithPast}
use Rattle.overlap_law.specs.Pieces.{IsInPiece}
use Rattle.overlap_law.specs.SoundCoded.{StripItemsAreCoded}
use Rattle.overlap_law.specs.SoundUnwritten.{IsBeingWritten}
use Rattle.overlap_law.specs.StayingBlocks.{IsBlockOfAnyDisk, MayStay, BlocksStayWritten}
use Rattle.overlap_law.specs.StripReadsBases.{IsStripBase}
use Rattle.overlap_law.specs.ToCome.{IsToCome}
use Rattle.overlap_law.specs.Units.{covers_by, unit_end}
use Rattle.overlap_law.specs.Words.{bytes_by, covers_unit, is_doomed}
use Rattle.overlap_law.specs.WrittenBlocks.{blocks_per_object, items_at, is_torn_here}
use Rattle.overlap_law.proofs.CopiedServed.{creates_strips}
use Rattle.overlap_law.proofs.CreatedBlocks as created
use Rattle.overlap_law.proofs.CreatedFetches.{ends_inside}
use Rattle.overlap_law.proofs.CreatesFirst.{session_of}
use Rattle.overlap_law.proofs.FateLemmas.{made-not_doomed}
use Rattle.overlap_law.proofs.HistoryTests.{test_before, test_at_start}
use Rattle.overlap_law.proofs.KnownDisks.{kind-of_object, vid-of_object}
use Rattle.overlap_law.proofs.ReadsToldTables.{tables_along}
use Rattle.overlap_law.proofs.ReadUnits.{created_covers}
use Rattle.overlap_law.proofs.RunsByChanges.{on_the_way}
use Rattle.overlap_law.proofs.SoundAlike as alike
use Rattle.overlap_law.proofs.StandingItems.{stands_among}
use Rattle.overlap_law.proofs.StripReadsLast.{has_base}
use Rattle.overlap_law.proofs.StripReadsToCome.{base_comes}
use Rattle.overlap_law.proofs.TellersOfPieces.{TellersAreTargets, tellers-on_the_way}
use Rattle.overlap_law.proofs.WholeInRuns.{whole-on_the_way}
use Rattle.overlap_law.proofs.WorksOfAttempts.{AreOfWorks, kept_works}

-- what is had of none and of each some is had
of_option : {P : Type 0} (o : Option ℕ) → (o ≡ None → P) → ((k : ℕ) → o ≡ Some k → P) → P
of_option None none some = none refl
of_option (Some k) none some = some k refl

-- a unit that ends inside an object of blocks ends inside a larger one
ends_within : (kind : Kind) (spec : VdiSpec) (size large unit : ℕ) → kind ≡ Block → BLOCK_BYTES * unit + BLOCK_BYTES ≤ size → size ≤ large
    → object_size spec Block ≡ large → unit_end kind unit ≤ object_size spec kind
ends_within kind spec size large unit block end most same =
    subst (λ (k : Kind). unit_end k unit ≤ object_size spec k) (sym block) (omega (arith, end, most, same))

module _ (script : List Statement) (range : RunsAreInRange script) (events : List Move) (event : Move)
    (start end before after : MomentWithPast) (way : IsOnTheWay script events event start end before after) (good_id : ℕ → Bool)
    (test : CallsAvailable start after good_id) (replies : RepliesAreAlone script good_id start before after)
    (entries : EntriesKeepBlocks good_id before after)
    (written : BlocksStayWritten (ledger_of before.past.history) (log_effects before.world.log) good_id before.world.hosts
    before.past.attempts)
    (of_bytes : ItemsAreOfBytes (ledger_of after.past.history))
    (coded_items : StripItemsAreCoded (ledger_of after.past.history) (log_effects after.world.log))
    (unwritten : BesidePiecesIsUnwritten (ledger_of after.past.history) after.world.hosts after.past.attempts) where
  abbrev effects : List Effect
  effects = log_effects after.world.log

  abbrev ledger : Ledger
  ledger = ledger_of after.past.history

  behind : MomentTrail script start after
  behind = Then way.behind way.change

  tellers : TellersAreTargets after
  tellers = tellers-on_the_way script range events start after way.run behind

  module _ (n : ℕ) (host : Host) (there : tree.get after.world.hosts n ≡ Some host) (up : host.is_lost ≡ false) (req vid index unit : ℕ)
      (work : Work) (disk : histories.Disk) (spec : VdiSpec) (request : Request) (opened : Disk) (payload : List ℕ) (piece : Piece)
      (rest : List Piece) (got : tree.get host.node.gateway.works req ≡ Some work)
      (asked : tree.get host.node.requests req ≡ Some request) (on : (session_at request.session host.node).disk ≡ Some opened)
      (course : request.course ≡ Driving (Writes payload Creating piece rest))
      (made : CreatesPiece anything opened.inode payload piece work.work) (outside : IsInPiece piece unit → ⊥)
      (object : oid_of work.work ≡ object_number vid index)
      (block : IsBlockOfAnyDisk (ledger_of after.past.history) (log_effects after.world.log) good_id vid disk spec index unit)
      (covers : covers_by unit work.work ≡ true) (whole : is_torn_here spec (items_at disk spec index unit) ≡ false)
      (strips : is_in_strips opened.inode.spec.policy Block ≡ true) (some : entry_of opened.inode piece ≢ 0) where
    abbrev home : ℕ
    home = entry_of opened.inode piece

    abbrev oid : ℕ
    oid = object_number (entry_of opened.inode piece) piece.index

    abbrev Stands : Type 0
    Stands = MayStay after.past.attempts (items_at disk spec index unit) (Some req) (bytes_by unit work.work)

    -- ---- the block is one of the disk that the session has open, as for any create

    same_id : opened.inode.vid ≡ vid
    same_id =
        created.same_id script range events event start end before after way good_id test replies entries written n host there up req vid
        index unit work disk spec request opened payload piece rest got asked on course made outside object block covers whole

    same_index : piece.index ≡ index
    same_index =
        created.same_index script range events event start end before after way good_id test replies entries written n host there up req vid
        index unit work disk spec request opened payload piece rest got asked on course made outside object block covers whole

    same_spec : opened.inode.spec ≡ spec
    same_spec =
        created.same_spec script range events event start end before after way good_id test replies entries written n host there up req vid
        index unit work disk spec request opened payload piece rest got asked on course made outside object block covers whole

    good : good_id opened.inode.vid ≡ true
    good =
        created.good script range events event start end before after way good_id test replies entries written n host there up req vid index
        unit work disk spec request opened payload piece rest got asked on course made outside object block covers whole

    lives : is_dead (log_effects after.world.log) opened.inode.vid ≡ false
    lives =
        created.lives script range events event start end before after way good_id test replies entries written n host there up req vid
        index unit work disk spec request opened payload piece rest got asked on course made outside object block covers whole

    below : unit < blocks_per_object opened.inode.spec
    below =
        created.below script range events event start end before after way good_id test replies entries written n host there up req vid
        index unit work disk spec request opened payload piece rest got asked on course made outside object block covers whole

    in_strips : is_in_strips spec.policy Block ≡ true
    in_strips = subst (λ (s : VdiSpec). is_in_strips s.policy Block ≡ true) same_spec strips

    untorn : is_torn (items_at disk spec index unit) ≡ false
    untorn = sym (ap (λ (b : Bool). b && is_torn (items_at disk spec index unit)) in_strips) ∙ whole

    -- nothing else is written in the object
    not_written : IsBeingWritten after.past.attempts (items_at disk spec index unit) → ⊥
    not_written being =
        unwritten.each n host there up req unit request opened disk payload Creating piece rest asked on course outside
        (ap (λ (v : ℕ). (ledger_of after.past.history).disks v) same_id ∙ block.there) below
        (subst (λ (k : ℕ). k * blocks_per_object opened.inode.spec + unit < disk.blocks) (sym same_index)
        (subst (λ (s : VdiSpec). index * blocks_per_object s + unit < disk.blocks) (sym same_spec) block.block))
        (subst (λ (k : ℕ). IsBeingWritten after.past.attempts (items_at disk opened.inode.spec k unit)) (sym same_index)
        (subst (λ (s : VdiSpec). IsBeingWritten after.past.attempts (items_at disk s index unit)) (sym same_spec) being))

    -- ---- of the object that was read

    module _ (bytes : List ℕ) (long : length bytes ≡ object_bytes opened.inode)
        (same : work.work ≡ create_copy opened.inode payload piece bytes)
        (read : IsReadOfStrips after.world.log after.world.hosts after.past.attempts opened.inode.spec (entry_of opened.inode piece)
        piece.index bytes) where
      vid_so : vid_of oid ≡ home
      vid_so = vid-of_object home piece.index read.id read.few

      kind_so : kind_of oid ≡ Block
      kind_so = kind-of_object home piece.index read.id read.few

      spec_known : spec_in (log_effects after.world.log) (vid_of oid) ≡ Some read.home_spec
      spec_known = ap (spec_in (log_effects after.world.log)) vid_so ∙ read.made_with

      policy_known : policy_in (log_effects after.world.log) oid ≡ Some opened.inode.spec.policy
      policy_known = ap (option_map (λ (s : VdiSpec). s.policy)) spec_known ∙ ap (λ (p : Policy). Some p) (sym read.policy_so)

      -- its create was made, and covers the block
      create : IsCreated after.past.attempts oid host.node.peer.epoch
      create =
          let (one, session_got, opened_on) = session_of host.node request.session opened on in
          (tables_along script range events start way.run good_id test.fewer
          (test_at_start script way.change good_id (test_before script way.change good_id test)) behind).tables.tables.each n host there up
          request.session piece.index one opened session_got opened_on good lives
          (subst (λ (s : VdiSpec). piece.index < objects_of s) (sym same_spec)
          (subst (λ (k : ℕ). k < objects_of spec) (sym same_index) block.object)) some

      create_covers : covers_unit unit create.create ≡ true
      create_covers =
          created_covers unit (object_size read.home_spec (kind_of (object_of create.create))) create.create.work create.creating
          ((whole-on_the_way script range events start after way.run behind).each create.place create.create create.there read.home_spec
          (ap (λ (o : ℕ). spec_in (log_effects after.world.log) (vid_of o)) create.object ∙ spec_known))
          (ends_within (kind_of (object_of create.create)) read.home_spec (object_bytes opened.inode) (object_size read.home_spec Block)
          unit (ap kind_of create.object ∙ kind_so) (ends_inside (object_bytes opened.inode) unit below) read.large refl)

      -- what the block may come to be read as there may be read of it
      stays : (place : ℕ) (one : AttemptRecord) → IsToCome after.world.hosts after.past.attempts oid unit place one
          → MayStay after.past.attempts (items_at disk spec index unit) (Some one.req) (bytes_by unit one.work)
      stays =
          created.home_stays script range events event start end before after way good_id test replies entries written n host there up req
          vid index unit work disk spec request opened payload piece rest got asked on course made outside object block covers whole some
          read.id read.snapped

      -- so it is one, and bytes
      one_thing : (i k : ℕ) (one two : AttemptRecord) → IsToCome after.world.hosts after.past.attempts oid unit i one
          → IsToCome after.world.hosts after.past.attempts oid unit k two → bytes_by unit one.work ≡ bytes_by unit two.work
      one_thing i k one two comes comes_too = ⊎_elim
          (λ (being : IsBeingWritten after.past.attempts (items_at disk spec index unit)). absurd (not_written being))
          (λ (alike_so : bytes_by unit one.work ≡ bytes_by unit two.work). alike_so)
          (alike.both_alike ledger effects good_id after.world.hosts after.past.attempts coded_items vid index unit disk spec block
          in_strips untorn (bytes_by unit one.work) (bytes_by unit two.work)
          (alike.kind_of ledger effects good_id after.world.hosts after.past.attempts coded_items vid index unit disk spec block in_strips
          untorn (bytes_by unit one.work) i one comes.there (stays i one comes))
          (alike.kind_of ledger effects good_id after.world.hosts after.past.attempts coded_items vid index unit disk spec block in_strips
          untorn (bytes_by unit two.work) k two comes_too.there (stays k two comes_too)))

      are_bytes : (i : ℕ) (one : AttemptRecord) → IsToCome after.world.hosts after.past.attempts oid unit i one
          → AreBytes (bytes_by unit one.work)
      are_bytes i one comes =
          subst AreBytes ((bytes_eq-Decides may.item.bytes (bytes_by unit one.work)).0 may.same) (by_request may.item.request refl)
        where
          may : MayStay after.past.attempts (items_at disk spec index unit) (Some one.req) (bytes_by unit one.work)
          may = stays i one comes

          -- an item of a request is a coded one
          by_request : (o : Option ℕ) → may.item.request ≡ o → AreBytes may.item.bytes
          by_request o is =
              let (at, among) = stands_among (items_at disk spec index unit) may.place may.item may.among in
              let has = of_bytes.each vid (index * blocks_per_object spec + unit) at disk may.item block.there among in
              of_option {P = AreBytes may.item.bytes} o (λ none. has.1 (is ∙ none)) (λ owner own.
              has.0 (coded_items.each vid (index * blocks_per_object spec + unit) at owner disk spec may.item block.there block.made_with
              in_strips block.block among (is ∙ own)))

      -- so the object has a base, of which the block was read
      base : (j : ℕ) × (one : AttemptRecord) × IsStripBase (attempts_on oid after.past.attempts) unit j one
      base =
          has_base after.world.log after.world.hosts after.world.wire after.past.attempts tellers.rows.tied.fates tellers.rows.shaped.shape
          (on_the_way script AreOfWorks (kept_works script range) events start after way.run behind) oid opened.inode.spec.policy
          policy_known kind_so unit one_thing are_bytes create.place create.create create.there create.object create_covers create.made

      copy_stays : MayStay after.past.attempts (items_at disk spec index unit) (Some req) (bytes_by unit work.work)
      copy_stays =
          let (j, one, is) = base in
          let (place, comes) = base_comes after.world.hosts after.past.attempts oid unit j one is in
          created.copied script range events event start end before after way good_id test replies entries written n host there up req vid
          index unit work disk spec request opened payload piece rest got asked on course made outside object block covers whole some
          read.id read.snapped place one comes bytes long same is.served (⊎_elim
          (λ (doomed : is_doomed after.world.hosts one ≡ true).
          absurd (both_ways (is_doomed after.world.hosts one) (made-not_doomed after.world.hosts one is.made) doomed))
          (λ (of : IsBlockOf (attempts_on oid after.past.attempts) unit j (piece_at bytes (BLOCK_BYTES * unit) BLOCK_BYTES)).
          of.own one is.there is.quiet is.block)
          (read.blocks unit below j one is.there is.covers))

    may_stay : MayStay after.past.attempts (items_at disk spec index unit) (Some req) (bytes_by unit work.work)
    may_stay =
        by_create
        (creates_strips script range events event start end way.run way.happens good_id behind way.left test n host there up req work
        request opened payload piece rest got asked on course)
      where
        by_create : CreatesPiece (IsFetchedOfStrips after.world.log good_id after.world.hosts after.past.attempts) opened.inode payload
            piece work.work
            → Stands
        by_create (OfHole hole same) = absurd (some hole)
        by_create (OfCopy bytes named apart long same fetched) = copy_stays bytes long same (fetched good lives strips)

  pub strips_stay : StripCopiesMayStay (ledger_of after.past.history) (log_effects after.world.log) good_id after.world.hosts
      after.past.attempts
  strips_stay = record {
    each = λ n host there up req vid index unit work disk spec request opened payload piece rest got asked on course made so outside object
        block covers whole.
        may_stay n host there up req vid index unit work disk spec request opened payload piece rest got asked on course made outside object
        block covers whole so.0 so.1;
  }
