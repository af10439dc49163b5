-- In each run in range, in the middle of whatever step of an event: what a write has read of strips of another disk's object is, in each
-- block, of each attempt on the object that isn't doomed, where those behind it add nothing; of disks that were available as the event
-- began. For what the messages told has what was owed, and what flies on the object is of earlier epochs.
use Rattle.std.proofs.Common.{◌≡◌, ◌⊎◌, inl, inr, arith, ℕ, ◌+◌, ◌*◌, ◌-◌, ◌^◌, ◌%◌, ◌≤◌, ◌<◌, Bool, true, false, List, Some}
use Rattle.std.proofs.Common.{slice_get}
use Rattle.std.proofs.Common.{refl, sym, ap, subst, option_map, ◌∙◌}
use Rattle.std.specs.FinMap as tree
use Rattle.std.proofs.lemmas.Option.{same_Some}
use Rattle.proof_tools.proofs.FiniteMaps.{get-insert_same}
use Rattle.object_id.specs.declared.entry.VdiSpec.{VdiSpec}
use Rattle.object_id.specs.declared.limits.TheConstants.{BLOCK_BYTES, OBJECTS_MAX}
use Rattle.object_id.specs.declared.oid.Kind.{Kind}
use Rattle.object_id.specs.declared.oid.Kind.TheVariants.{Block}
use Rattle.object_id.specs.declared.policy.Policy.{Policy}
use Rattle.object_id.specs.declared.policy.Policy.TheVariants.{Coded}
use Rattle.object_id.specs.Oid.{IsVid, kind_of, object_number, vid_of}
use Rattle.object_store.specs.Bytes.{piece_at}
use Rattle.gf256.specs.Part.{is_in_strips, IsAligned}
use Rattle.gf256.specs.Strip.{IsBlock}
use Rattle.cluster_script.specs.declared.statement.Statement.{Statement}
use Rattle.peer_proto.specs.Work.{IsWork}
use Rattle.peer_service.specs.State.{object_size}
use Rattle.gateway.specs.Attempt as gateways
use Rattle.gateway.specs.declared.message.Status.{Status}
use Rattle.gateway.specs.State.{Work}
use Rattle.guest_driver.specs.declared.disk.Disk.{Disk}
use Rattle.guest_driver.specs.Driver.{Writes, Fetching}
use Rattle.guest_driver.specs.Pieces.{Piece, AreBlocks}
use Rattle.guest_driver.specs.PieceWorks.{entry_of, object_bytes, read_object}
use Rattle.inode.specs.Layout.{Content}
use Rattle.vdi_directory.specs.Dead.{is_dead}
use Rattle.vdi_directory.specs.Decisions.{log_effects}
use Rattle.sheep_node.specs.Changes.{EndsWork}
use Rattle.sheep_node.specs.State.{session_at}
use Rattle.sheep_node.specs.StepState.{StepState}
use Rattle.sheep_node.specs.declared.course.Course.TheVariants.{Driving}
use Rattle.sheep_world.specs.Began.{Began}
use Rattle.sheep_world.specs.NodeCauses.{host_with_node, input_of_cause}
use Rattle.sheep_world.specs.World.{Host}
use Rattle.sheep_world.specs.RunsWithAsks.{Move}
use Rattle.overlap_law.specs.Attempts.{AttemptRecord, attempts_on}
use Rattle.overlap_law.specs.BornObjects.{IsBorn}
use Rattle.overlap_law.specs.CopiedStrips.{IsBlockOf, IsReadOfStrips, IsFetchedOfStrips}
use Rattle.overlap_law.specs.Each.{EachAttempt, policy_in, spec_in}
use Rattle.overlap_law.specs.Fates.{IsCreated}
use Rattle.overlap_law.specs.MomentChanges.{MomentTrail, RunsAreInRange}
use Rattle.overlap_law.specs.NamedWorks.{AboveIsGood}
use Rattle.overlap_law.specs.Overlap.{CallsFewer}
use Rattle.overlap_law.specs.Past.{MomentWithPast, run_with_past}
use Rattle.overlap_law.specs.Pieces.{IsInPiece}
use Rattle.overlap_law.specs.Since.{AddNothingAfter}
use Rattle.overlap_law.specs.StepMoments.{SteppingNode, IsStepping, StepsByChanges, LeadsInStep, first_in_step, moment_in_step}
use Rattle.overlap_law.specs.Words.{bytes_by, covers_unit, is_doomed}
use Rattle.overlap_law.specs.WrittenBlocks.{blocks_per_object}
use Rattle.overlap_law.proofs.CarriedTables.{good_id_at}
use Rattle.overlap_law.proofs.CreatedFetches.{created, ends_inside, few, good_object, is_read, is_vid, kind_so, snapped}
use Rattle.overlap_law.proofs.KnownDisks.{vid-of_object}
use Rattle.overlap_law.proofs.KnownDiskSteps.{effects_after}
use Rattle.overlap_law.proofs.NoRecoveredDue.{began-with_past}
use Rattle.overlap_law.proofs.OpeningReads.{knows_tables}
use Rattle.overlap_law.proofs.PiecesMade.{FetchesAreAsked}
use Rattle.overlap_law.proofs.ReadWorks.{IsReadOn}
use Rattle.overlap_law.proofs.RunsByChanges.{on_the_way}
use Rattle.overlap_law.proofs.StripReadsBorn.{born_at_start}
use Rattle.overlap_law.proofs.StripReadsLast.{made_is_heard}
use Rattle.overlap_law.proofs.StripReadsThrough.{block_stands}
use Rattle.overlap_law.proofs.StripReadsToCome.{coded_policy, known_spec}
use Rattle.overlap_law.proofs.TablesOfReads.{reading_along}
use Rattle.overlap_law.proofs.TellersOfPieces.{TellersAreTargets, tellers-on_the_way}
use Rattle.overlap_law.proofs.WholeNodes.{IsWholeWork}
use Rattle.overlap_law.proofs.WorksOfAttempts.{AreOfWorks, kept_works}

-- a whole object, as one piece of it
abbrev whole_piece : Content → Piece → Piece
whole_piece inode piece = record { index = piece.index; offset = 0; place = 0; size = object_bytes inode }

-- a whole object in strips goes by blocks
blocks_of : (policy : Policy) (kind : Kind) (d p n : ℕ) → policy ≡ Coded d p → kind ≡ Block → IsAligned policy kind n → n % BLOCK_BYTES ≡ 0
blocks_of policy kind d p n coded block aligned =
    subst (λ (k : Kind). IsAligned (Coded d p) k n) block (subst (λ (q : Policy). IsAligned q kind n) coded aligned)

no_offset : (n : ℕ) → n - 0 ≡ n
no_offset n = omega arith

module _ (script : List Statement) (range : RunsAreInRange script) (events : List Move) (start : MomentWithPast)
    (run : run_with_past script events ≡ Some start) (good_id : ℕ → Bool) (fewer : CallsFewer good_id (good_id_at start))
    (closed : AboveIsGood (log_effects start.world.log) good_id) (before : MomentWithPast) (trail : MomentTrail script start before) where
  began : Began script start.world
  began = began-with_past script events start run

  module _ (stepping : SteppingNode) (so_far : StepState) (is : IsStepping script start.world stepping) (by : StepsByChanges stepping.cause)
      (leads : LeadsInStep stepping (first_in_step stepping) so_far) (same : before ≡ moment_in_step script stepping start so_far)
      (session req number : ℕ) (work : Work) (attempt : gateways.Attempt) (status : Status) (payload bytes : List ℕ) (piece : Piece)
      (rest : List Piece) (disk : Disk)
      (ends : EndsWork (input_of_cause stepping.cause) stepping.host.node so_far session req number work attempt status
      (Driving (Writes payload Fetching piece rest)) bytes) (opened : (session_at session so_far.node).disk ≡ Some disk) where
    abbrev here : MomentWithPast
    here = moment_in_step script stepping start so_far

    abbrev was : Host
    was = host_with_node stepping.host so_far.node

    abbrev home : ℕ
    home = entry_of disk.inode piece

    abbrev oid : ℕ
    oid = object_number (entry_of disk.inode piece) piece.index

    trail_here : MomentTrail script start (moment_in_step script stepping start so_far)
    trail_here = subst (MomentTrail script start) same trail

    seat : tree.get here.world.hosts stepping.n ≡ Some was
    seat = get-insert_same start.world.hosts stepping.n was

    -- ---- the object, as the fetch of any object knows it

    reads_so : work.work ≡ read_object disk.inode piece (entry_of disk.inode piece)
    reads_so =
        is_read script range events start run good_id fewer closed before trail stepping so_far is by leads same session req number work
        attempt status payload bytes piece rest disk ends opened

    its_id : IsVid (entry_of disk.inode piece)
    its_id =
        is_vid script range events start run good_id fewer closed before trail stepping so_far is by leads same session req number work
        attempt status payload bytes piece rest disk ends opened

    its_index : piece.index < OBJECTS_MAX
    its_index =
        few script range events start run good_id fewer closed before trail stepping so_far is by leads same session req number work attempt
        status payload bytes piece rest disk ends opened

    vid_so : vid_of oid ≡ home
    vid_so = vid-of_object home piece.index its_id its_index

    tellers : TellersAreTargets here
    tellers = tellers-on_the_way script range events start here run trail_here

    read_on : IsReadOn (effects_after (input_of_cause stepping.cause) stepping.host.node)
        (read_object disk.inode piece (entry_of disk.inode piece))
    read_on =
        (subst (IsWholeWork (effects_after (input_of_cause stepping.cause) stepping.host.node)) reads_so
        ((knows_tables script range events start run stepping is by so_far leads trail_here).open_works req work ends.ends.learns.there)).2

    spec_made : spec_in (log_effects here.world.log) (vid_of oid) ≡ Some read_on.spec
    spec_made = known_spec script range events start run stepping so_far is by (vid_of oid) read_on.spec read_on.made

    policy_known : policy_in (log_effects here.world.log) oid ≡ Some disk.inode.spec.policy
    policy_known = ap (option_map (λ (s : VdiSpec). s.policy)) spec_made ∙ ap (λ (p : Policy). Some p) (sym read_on.policy_so)

    module _ (good : good_id disk.inode.vid ≡ true) (alive : is_dead (log_effects before.world.log) disk.inode.vid ≡ false)
        (strips : is_in_strips disk.inode.spec.policy Block ≡ true) where
      kind_here : kind_of oid ≡ Block
      kind_here =
          kind_so script range events start run good_id fewer closed before trail stepping so_far is by leads same session req number work
          attempt status payload bytes piece rest disk ends opened good alive

      -- its create was made, so it was sent before the step
      made_one : IsCreated here.past.attempts oid so_far.node.peer.epoch
      made_one =
          created script range events start run good_id fewer closed before trail stepping so_far is by leads same session req number work
          attempt status payload bytes piece rest disk ends opened good alive

      born : IsBorn start.past.attempts oid
      born =
          subst (IsBorn start.past.attempts) made_one.object
          (born_at_start script start stepping is by so_far made_one.place made_one.create made_one.there made_one.creating
          (made_is_heard here.world.log here.world.wire here.past.attempts tellers.rows.tied.fates tellers.rows.shaped.shape
          (on_the_way script AreOfWorks (kept_works script range) events start here run trail_here) made_one.place made_one.create
          made_one.there made_one.made))

      -- it goes by blocks
      by_blocks : AreBlocks (whole_piece disk.inode piece)
      by_blocks =
          let (d, p, coded) = coded_policy disk.inode.spec.policy strips in
          let work_is : IsWork (read_object disk.inode piece (entry_of disk.inode piece))
          = subst IsWork reads_so
          ((reading_along script range start began trail_here stepping.n was seat).sound.open_works req work
          ends.ends.learns.there).range.is_work in
          record {
            offset = refl;
            size = blocks_of disk.inode.spec.policy (kind_of oid) d p (object_bytes disk.inode) coded kind_here work_is.2.1;
          }

      -- ---- a block

      module _ (unit : ℕ) (inside : unit < blocks_per_object disk.inode.spec) (j : ℕ) (one : AttemptRecord)
          (at : slice_get (attempts_on oid here.past.attempts) j ≡ Some one) (covers : covers_unit unit one ≡ true) where
        in_piece : IsInPiece (whole_piece disk.inode piece) unit
        in_piece =
            let end = ends_inside (object_bytes disk.inode) unit inside in
            record { first = omega arith; last = omega (arith, end) }

        block_so : is_doomed here.world.hosts one ≡ false → AddNothingAfter (attempts_on oid here.past.attempts) unit j one
            → IsBlock (bytes_by unit one.work) → piece_at bytes (BLOCK_BYTES * unit) BLOCK_BYTES ≡ bytes_by unit one.work
        block_so standing quiet is_block =
            let (d, p, coded) = coded_policy disk.inode.spec.policy strips in
            ap (λ (from : ℕ). piece_at bytes from BLOCK_BYTES) (sym (no_offset (BLOCK_BYTES * unit)))
            ∙ block_stands script range events start run stepping is by so_far leads trail_here session req number work attempt status
            (Driving (Writes payload Fetching piece rest)) bytes ends disk.inode home (whole_piece disk.inode piece) reads_so its_id
            its_index by_blocks d p coded refl policy_known
            (good_object script range events start run good_id fewer closed before trail stepping so_far is by leads same session req number
            work attempt status payload bytes piece rest disk ends opened good alive born) unit in_piece j one at covers standing quiet
            is_block

        abbrev IsOf : Type 0
        IsOf = (is_doomed here.world.hosts one ≡ true)
            ⊎ IsBlockOf (attempts_on oid here.past.attempts) unit j (piece_at bytes (BLOCK_BYTES * unit) BLOCK_BYTES)

        by_doomed : (b : Bool) → is_doomed here.world.hosts one ≡ b → IsOf
        by_doomed true doomed = inl doomed
        by_doomed false standing = inr (record {
          own = λ other other_at quiet is_block.
              let alike : one ≡ other = same_Some one other (sym at ∙ other_at) in
              block_so standing (subst (AddNothingAfter (attempts_on oid here.past.attempts) unit j) (sym alike) quiet)
              (subst (λ (a : AttemptRecord). IsBlock (bytes_by unit a.work)) (sym alike) is_block)
              ∙ ap (λ (a : AttemptRecord). bytes_by unit a.work) alike;
        })

        is_of : (is_doomed here.world.hosts one ≡ true)
            ⊎ IsBlockOf (attempts_on oid here.past.attempts) unit j (piece_at bytes (BLOCK_BYTES * unit) BLOCK_BYTES)
        is_of = by_doomed (is_doomed here.world.hosts one) refl

      large : 2 ^ disk.inode.spec.shift ≤ 2 ^ read_on.spec.shift
      large =
          let within = subst (λ (k : Kind). 0 + object_bytes disk.inode ≤ object_size read_on.spec k) kind_here read_on.inside in
          omega (arith, within)

      abbrev AreOf : MomentWithPast → Type 0
      AreOf m = (unit : ℕ) → unit < blocks_per_object disk.inode.spec → EachAttempt (attempts_on oid m.past.attempts) (λ j one.
          covers_unit unit one ≡ true
          → (is_doomed m.world.hosts one ≡ true)
          ⊎ IsBlockOf (attempts_on oid m.past.attempts) unit j (piece_at bytes (BLOCK_BYTES * unit) BLOCK_BYTES))

      read_of_strips : IsReadOfStrips before.world.log before.world.hosts before.past.attempts disk.inode.spec
          (entry_of disk.inode piece) piece.index bytes
      read_of_strips = record {
        id = its_id;
        few = its_index;
        snapped = snapped script range events start run good_id fewer closed before trail stepping so_far is by leads same session req
            number work attempt status payload bytes piece rest disk ends opened;
        home_spec = read_on.spec;
        made_with = ap (λ (m : MomentWithPast). spec_in (log_effects m.world.log) home) same
            ∙ ap (spec_in (log_effects here.world.log)) (sym vid_so) ∙ spec_made;
        policy_so = read_on.policy_so;
        large = large;
        blocks = subst AreOf (sym same) is_of;
      }

  pub strips_fetched : FetchesAreAsked (IsFetchedOfStrips before.world.log good_id before.world.hosts before.past.attempts) script
      start before
  strips_fetched = λ stepping so_far is by leads same session req number work attempt status payload bytes piece rest disk ends opened.
      λ good alive strips.
      read_of_strips stepping so_far is by leads same session req number work attempt status payload bytes piece rest disk ends opened
      good alive strips
