-- The entries of the tables of open disks, and of the inodes that commands are to open, stand for objects that were created: over each
-- change of a moment in a run in range, where those do that attempts gave to inodes.
use Rattle.std.proofs.Common.{◌≡◌, ◌≢◌, ◌⊎◌, inl, inr, ⊎_elim, arith, ℕ, zero, suc, ◌+◌, ◌*◌, ◌<◌, Bool, true, false, List, [], ◌∷◌}
use Rattle.std.proofs.Common.{slice_index, slice_set, Option, Some, IfSome, refl, sym, ap, subst, ◌∙◌}
use Rattle.std.specs.FinMap as tree
use Rattle.std.proofs.lemmas.Bool.{cases_eq}
use Rattle.std.proofs.lemmas.List.{get_or-set_other}
use Rattle.proof_tools.proofs.FiniteMaps.{get-insert_same}
use Rattle.object_id.specs.declared.entry.Entry.{Entry}
use Rattle.object_id.specs.declared.entry.VdiSpec.{VdiSpec}
use Rattle.object_id.specs.Fields.{u32_at}
use Rattle.object_id.specs.Oid.{IsVid, inode_number, object_number}
use Rattle.object_id.specs.Spec.{objects_of}
use Rattle.cluster_script.specs.declared.statement.Statement.{Statement}
use Rattle.inode.specs.Layout.{Content}
use Rattle.inode.specs.declared.layout.TheConstants.{INODE_HEADER_BYTES}
use Rattle.vdi_directory.specs.declared.effect.Effect.{Effect}
use Rattle.vdi_directory.specs.Chains.{is_above}
use Rattle.vdi_directory.specs.Dead.{is_dead}
use Rattle.vdi_directory.specs.Decisions.{log_effects}
use Rattle.vdi_directory.proofs.DeadLemmas.{dead-heirs}
use Rattle.vdi_directory.proofs.DeadTests.{test-finds-dead}
use Rattle.peer_proto.specs.Work.{oid_of}
use Rattle.peer_proto.specs.declared.work.ObjWork.{ObjWork}
use Rattle.peer_service.specs.LogReading.{decision_on}
use Rattle.gateway.specs.State.{Work}
use Rattle.guest_driver.specs.declared.disk.Disk.{Disk}
use Rattle.guest_driver.specs.Pieces.{Piece}
use Rattle.guest_driver.specs.PieceWorks.{write_entry, table_with_entry}
use Rattle.vdi_ops.specs.Op.{Op}
use Rattle.vdi_ops.specs.Tables.{kept_entry, table_in}
use Rattle.sheep_node.specs.declared.course.Course.TheVariants.{Commanding}
use Rattle.sheep_node.specs.declared.input.Input.TheVariants as inputs
use Rattle.sheep_node.specs.AwaitedEntry.{waits_for_entry}
use Rattle.sheep_node.specs.Changes.{HasRequest}
use Rattle.sheep_node.specs.Courses.{inode_open}
use Rattle.sheep_node.specs.StepFacts.{read_after}
use Rattle.sheep_node.specs.StepState.{StepState, session_in}
use Rattle.sheep_node.proofs.ValidityChanges.{AnySent, inode_valid}
use Rattle.sheep_world.specs.World.{Host}
use Rattle.sheep_world.specs.NodeCauses.{input_of_cause, host_with_node}
use Rattle.sheep_world.specs.RunsWithAsks.{Move}
use Rattle.overlap_law.specs.Fates.{IsCreated}
use Rattle.overlap_law.specs.Holders.{is_dead_by_log}
use Rattle.overlap_law.specs.MadeTables.{EntriesAreCreated, TablesNameWhatIsMade}
use Rattle.overlap_law.specs.MomentChanges as moments
use Rattle.overlap_law.specs.MomentChanges.{MomentChange, MomentTrail, RunsAreInRange}
use Rattle.overlap_law.specs.NamedWorks.{AboveIsGood}
use Rattle.overlap_law.specs.OpenTables.{CallsLive}
use Rattle.overlap_law.specs.Past.{MomentWithPast, run_with_past}
use Rattle.overlap_law.specs.StepMoments.{SteppingNode, IsStepping, StepsByChanges, IsWithinStep, moment_in_step}
use Rattle.overlap_law.specs.Tables.{entry_unit, entry_by, EntriesAreMade}
use Rattle.overlap_law.specs.ToDo.{entry_made}
use Rattle.overlap_law.specs.Units.{covers_by}
use Rattle.overlap_law.proofs.ChainTables.{above_later, above_then, spec_same}
use Rattle.overlap_law.proofs.ClaimsInRuns.{up_not_lost}
use Rattle.overlap_law.proofs.CreatedStays.{created-by, created_stays}
use Rattle.overlap_law.proofs.EntryWrites.{entry_covered, entry_own}
use Rattle.overlap_law.proofs.GuestsInMoments.{IsGoingOn}
use Rattle.overlap_law.proofs.KnownDisks.{FewAt, IsKnownInode, known_validity, vid-of_inode}
use Rattle.overlap_law.proofs.KnownDiskSteps.{effects_after}
use Rattle.overlap_law.proofs.LastReads.{last_reads-in_run}
use Rattle.overlap_law.proofs.LogsOfMoments.{log_of_change}
use Rattle.overlap_law.proofs.MakingInRuns.{works_name_own-on_the_way}
use Rattle.overlap_law.proofs.NoRecoveredDue.{began-with_past}
use Rattle.overlap_law.proofs.OpeningReads as reads
use Rattle.overlap_law.proofs.OpeningReads.{IsEntryRead, opening_reads, opening_vid, few_objects}
use Rattle.overlap_law.proofs.OwnTables.{entry_read, entry_kept}
use Rattle.overlap_law.proofs.TableSteps.{KnowsTables, OpeningsRead}
use Rattle.overlap_law.proofs.TablesInMoments.{AllSo, StaysSo, all_of, open_of, to_open_of, between_so, goes_on_so, stepped, reading}
use Rattle.overlap_law.proofs.TablesInMoments.{knows_here, known_so_far, chains_here, front_here}
use Rattle.overlap_law.proofs.TablesStay.{lived}
use Rattle.overlap_law.proofs.TableWalk.{TakesOver}

-- ---- entries of tables

-- what was put is there, unless the table ends before
entry_put : (table : List ℕ) (at vid : ℕ)
    → (slice_index (slice_set table at vid) at ≡ vid) ⊎ (slice_index (slice_set table at vid) at ≡ 0)
entry_put [] zero vid = inr refl
entry_put [] (suc at) vid = inr refl
entry_put (entry ∷ table) zero vid = inl refl
entry_put (entry ∷ table) (suc at) vid = entry_put table at vid

-- what is above an id that isn't dead isn't dead
elder_lives : (log : List Entry) (elder vid : ℕ) → is_above (log_effects log) elder vid ≡ true → is_dead (log_effects log) vid ≡ false
    → is_dead (log_effects log) elder ≡ false
elder_lives log elder vid above lives = by_test (is_dead (log_effects log) elder) refl
  where
    by_test : (b : Bool) → is_dead (log_effects log) elder ≡ b → b ≡ false
    by_test false is = refl
    by_test true dead =
        let still = (test-finds-dead log vid).1 (dead-heirs log elder vid ((test-finds-dead log elder).0 dead) above) in
        absurd (cc (still, lives))

-- what is to hold in a moment, at a node of an epoch
abbrev pub IsMade : (ℕ → Bool) → MomentWithPast → ℕ → Content → Type 0
IsMade good_id moment epoch = EntriesAreCreated (log_effects moment.world.log) good_id moment.past.attempts epoch

module _ (script : List Statement) (range : RunsAreInRange script) (good_id : ℕ → Bool) (events : List Move) (start : MomentWithPast)
    (ran : run_with_past script events ≡ Some start) where
  -- ---- it stays so

  stays_made : (before after : MomentWithPast) → MomentChange script start before after → StaysSo (IsMade good_id) before after
  stays_made before after change old new rises inode was good lives index within some =
      let entry : ℕ = slice_index inode.table index in
      created-by after.past.attempts (object_number entry index) old new rises
      (created_stays script range start before after (began-with_past script events start ran) change (object_number entry index) old
      (was good (lived before.world.log after.world.log (log_of_change script change) inode.vid lives) index within some))

  -- ---- in the middle of a step

  module _ (stepping : SteppingNode) (is : IsStepping script start.world stepping) (by : StepsByChanges stepping.cause)
      (so_far next : StepState) (within : IsWithinStep stepping so_far next)
      (trail : MomentTrail script start (moment_in_step script stepping start so_far)) (live : ℕ → Bool)
      (calls : CallsLive live (moment_in_step script stepping start so_far).world.log
      (moment_in_step script stepping start so_far).past.attempts)
      (closed : AboveIsGood (log_effects (moment_in_step script stepping start so_far).world.log) good_id)
      (entries : EntriesAreMade (log_effects (moment_in_step script stepping start so_far).world.log) live good_id
      (moment_in_step script stepping start so_far).past.attempts) where
    abbrev here : MomentWithPast
    here = moment_in_step script stepping start so_far

    abbrev known : List Effect
    known = effects_after (input_of_cause stepping.cause) stepping.host.node

    abbrev epoch : ℕ
    epoch = so_far.node.peer.epoch

    abbrev Made : Content → Type 0
    Made = IsMade good_id (moment_in_step script stepping start so_far) so_far.node.peer.epoch

    -- where an entry is entered, its object was created
    own_made : (req : ℕ) (work : Work) (inode : Content) (piece : Piece) → tree.get so_far.node.gateway.works req ≡ Some work
        → work.work ≡ write_entry inode piece → IsVid inode.vid → FewAt piece
        → IsCreated here.past.attempts (object_number inode.vid piece.index) epoch
    own_made req work inode piece got entering id few =
        let was : Host = host_with_node stepping.host so_far.node in
        (works_name_own-on_the_way script range events start here ran trail).own stepping.n was
        (get-insert_same start.world.hosts stepping.n was) (up_not_lost script range stepping.host is.up) work.work inode.vid piece.index
        (record {
          to_do = inl (record { req = req; open_work = work; there = got; same = refl });
          object = ap (λ (w : ObjWork). oid_of w) entering;
          inside = few;
          covered = ap (covers_by (entry_unit piece.index)) entering ∙ entry_covered inode piece id;
        }) id (ap (entry_made piece.index) entering ∙ entry_own inode piece id)

    entered : (session req : ℕ) (work : Work) (disk : Disk) (piece : Piece) → tree.get so_far.node.gateway.works req ≡ Some work
        → (session_in session so_far).disk ≡ Some disk → work.work ≡ write_entry disk.inode piece → IsVid disk.inode.vid → FewAt piece
        → Made disk.inode → Made (table_with_entry disk.inode piece)
    entered session req work disk piece got on entering id few was good lives index inside some = ⊎_elim
        (λ (same : index ≡ piece.index). subst IsAt (sym same) (⊎_elim
        (λ (own : entry_at piece.index ≡ disk.inode.vid).
        subst (λ (entry : ℕ). IsCreated here.past.attempts (object_number entry piece.index) epoch) (sym own)
        (own_made req work disk.inode piece got entering id few))
        (λ (none : entry_at piece.index ≡ 0). absurd (some (ap entry_at same ∙ none)))
        (entry_put disk.inode.table piece.index disk.inode.vid)))
        (λ (other : index ≢ piece.index).
        let still : entry_at index ≡ slice_index disk.inode.table index
        = get_or-set_other disk.inode.table piece.index index disk.inode.vid 0 other in
        subst (λ (entry : ℕ). IsCreated here.past.attempts (object_number entry index) epoch) (sym still)
        (was good lives index inside (λ none. some (still ∙ none))))
        (cases_eq index piece.index)
      where
        entry_at : ℕ → ℕ
        entry_at k = slice_index (slice_set disk.inode.table piece.index disk.inode.vid) k

        IsAt : ℕ → Type 0
        IsAt k = IsCreated here.past.attempts (object_number (entry_at k) k) epoch

    -- what was read of an inode is what attempts gave to it
    opened : OpeningsRead Made (input_of_cause stepping.cause) stepping.host.node so_far
    opened session req number work attempt status op bytes vid snapshot ids header ends at good lives index inside some =
        let value : ℕ = u32_at (INODE_HEADER_BYTES + 4 * index) bytes in
        let entry : ℕ = slice_index (table_in ids header.spec bytes) index in
        let kept : entry ≡ kept_entry ids value = entry_read ids (objects_of header.spec) INODE_HEADER_BYTES index bytes inside in
        let same : value ≡ entry = entry_kept ids value entry (omega (arith, some)) (sym kept) in
        let id = opening_vid script range events start ran stepping is by so_far within.leads trail session req number work attempt status
        op bytes vid snapshot ids header ends at in
        let few = few_objects script range events start ran stepping is by so_far within.leads trail session req number work attempt status
        op bytes vid snapshot ids header ends at in
        let read : IsEntryRead here.past.attempts epoch vid.0 index value
        = reads.entry_read script range events start ran stepping is by so_far within.leads trail session req number work attempt status
        (Commanding op) bytes ends refl vid.0 header.spec
        (opening_reads script range events start ran stepping is by so_far within.leads trail session req number work attempt status op
        bytes vid snapshot ids header ends at) id (last_reads-in_run script range events start here ran trail) index inside in
        let dead : is_dead_by_log here.world.log (inode_number vid.0) ≡ false
        = ap (λ (v : ℕ). is_dead (log_effects here.world.log) v) (vid-of_inode vid.0 id) ∙ lives in
        let stands = entries.each read.place read.one read.there vid.0 index read.object
        (calls (inode_number vid.0) (read.place, read.one, read.there, read.object) dead) good (omega (arith, inside, few)) read.covers
        (λ none. some (sym same ∙ sym read.entry ∙ none)) in
        subst (λ (e : ℕ). IsCreated here.past.attempts (object_number e index) epoch) (read.entry ∙ same)
        (created-by here.past.attempts (object_number (entry_by index read.one) index) read.one.epoch epoch read.within stands.created)

    -- the disk whose place an id takes is above it
    taken : (entry : Entry) (session req : ℕ) (op : Op) → input_of_cause stepping.cause ≡ inputs.LogEntry entry
        → HasRequest session req (Commanding op) so_far → waits_for_entry entry (Commanding op) ≡ true
        → TakesOver Made known (inode_open (session_in session so_far).disk) (decision_on entry stepping.host.node.peer) op.stage
    taken entry session req op from there waits name_by of name tag vid old header at granted on header_there was good lives index inside
        some =
        let well = knows_here script range start (began-with_past script events start ran) stepping is by so_far next within in
        let chains = chains_here script range start (began-with_past script events start ran) stepping is by so_far next within in
        let (rest, front) = front_here script range start (began-with_past script events start ran) stepping is by so_far next within in
        let (parent, from_parent, same) = well.taken entry session req op from there waits name_by of name tag vid old at granted on in
        let known_old : IsKnownInode known old
        = subst (λ (o : Option Content). IfSome o (IsKnownInode known)) on
        (inode_valid (known_validity known) AnySent session so_far
        (known_so_far script range start (began-with_past script events start ran) stepping is by so_far next within)) in
        let spec : old.spec ≡ header.spec = spec_same known chains vid.0 header parent old header_there from_parent same known_old in
        let above : is_above (log_effects here.world.log) old.vid vid.0 ≡ true
        = ap (λ (log : List Entry). is_above (log_effects log) old.vid vid.0) front
        ∙ above_later (read_after (input_of_cause stepping.cause) stepping.host.node.peer.entries) rest old.vid vid.0
        (above_then known chains old.vid vid.0 parent from_parent same old.vid (inl refl)) in
        was (closed old.vid vid.0 above good) (elder_lives here.world.log old.vid vid.0 above lives) index
        (subst (λ (s : VdiSpec). index < objects_of s) (sym spec) inside) some

    knows : KnowsTables Made known (stepped script range start (began-with_past script events start ran) stepping is by so_far next within)
        (reading script range start (began-with_past script events start ran) stepping is by so_far next within) so_far
    knows =
        let well = knows_here script range start (began-with_past script events start ran) stepping is by so_far next within in
        record {
          waits = well.waits;
          sound_here = well.sound;
          on_known = well.on_known;
          enters = entered;
          openings = opened;
          takes = taken;
        }

    pub goes_on_made : AllSo (IsMade good_id) (moment_in_step script stepping start so_far)
        → AllSo (IsMade good_id) (moment_in_step script stepping start next)
    goes_on_made =
        goes_on_so script range start (began-with_past script events start ran) stepping is by so_far next within (IsMade good_id)
        (stays_made here (moment_in_step script stepping start next) (moments.StepGoesOn stepping so_far next is by within)) knows

  -- ---- every change

  pub change_made : (before after : MomentWithPast) → MomentTrail script start before → MomentChange script start before after
      → (live : ℕ → Bool) → CallsLive live before.world.log before.past.attempts → AboveIsGood (log_effects before.world.log) good_id
      → EntriesAreMade (log_effects before.world.log) live good_id before.past.attempts
      → AllSo (IsMade good_id) before → AllSo (IsMade good_id) after
  change_made before after trail change live calls closed entries all =
      between_so (IsMade good_id) script range start before after (began-with_past script events start ran) change
      (stays_made before after change) all
      (λ (on : IsGoingOn script start before after).
      subst (AllSo (IsMade good_id)) (sym on.after_so)
      (goes_on_made on.stepping on.is on.by on.so_far on.next on.within (subst (MomentTrail script start) on.before_so trail) live
      (subst (λ (m : MomentWithPast). CallsLive live m.world.log m.past.attempts) on.before_so calls)
      (subst (λ (m : MomentWithPast). AboveIsGood (log_effects m.world.log) good_id) on.before_so closed)
      (subst (λ (m : MomentWithPast). EntriesAreMade (log_effects m.world.log) live good_id m.past.attempts) on.before_so entries)
      (subst (AllSo (IsMade good_id)) on.before_so all)))

pub tables_stay_made : (script : List Statement) → RunsAreInRange script → (events : List Move) (start before after : MomentWithPast)
    → run_with_past script events ≡ Some start → MomentTrail script start before → MomentChange script start before after
    → (live good_id : ℕ → Bool) → CallsLive live before.world.log before.past.attempts
    → AboveIsGood (log_effects before.world.log) good_id
    → EntriesAreMade (log_effects before.world.log) live good_id before.past.attempts
    → TablesNameWhatIsMade (log_effects before.world.log) good_id before.world.hosts before.past.attempts
    → TablesNameWhatIsMade (log_effects after.world.log) good_id after.world.hosts after.past.attempts
tables_stay_made script range events start before after ran trail change live good_id calls closed entries said =
    let all = change_made script range good_id events start ran before after trail change live calls closed entries
    (all_of (IsMade good_id) before (λ n host there up number session disk got on good lives index within some.
    said.tables.each n host there up number index session disk got on good lives within some) said.to_open) in
    record {
      tables = record {
        each = λ n host there up number index session disk got on good lives within some.
            open_of (IsMade good_id) after all n host there up number session disk got on good lives index within some;
      };
      to_open = to_open_of (IsMade good_id) after all;
    }
