-- Over each change of a moment in a run in range the own entries of the tables of open disks, and of the inodes that commands are to open,
-- stay created, where works name what is made, and what is read of inodes does. For an entry becomes the disk's own by a write that names
-- it, or was read of the inode; and an id that takes the place of a disk isn't named by that one's table.
use Rattle.std.proofs.Common.{◌≡◌, ◌≢◌, ⊎_elim, inl, arith, ℕ, zero, suc, ◌+◌, ◌*◌, ◌<◌, ◌≤◌, ◌==◌, Bool, true, false, cond, List, map}
use Rattle.std.proofs.Common.{slice_index, w32}
use Rattle.std.proofs.Common.{IfSome, Option, Some, refl, sym, ap, subst, ◌∙◌}
use Rattle.std.specs.FinMap as tree
use Rattle.std.specs.List.{list_any}
use Rattle.std.proofs.lemmas.Bool.{cases_eq}
use Rattle.std.proofs.lemmas.List.{get_or-set_other}
use Rattle.std.proofs.lemmas.List.Elements.{All-head}
use Rattle.proof_tools.proofs.FiniteMaps.{get-insert_same}
use Rattle.object_id.specs.declared.entry.Entry.{Entry}
use Rattle.object_id.specs.Fields.{u32_at, numbers_at}
use Rattle.object_id.specs.Oid.{IsVid, object_number}
use Rattle.object_id.specs.Spec.{objects_of}
use Rattle.cluster_script.specs.declared.statement.Statement.{Statement}
use Rattle.inode.specs.Layout.{Content}
use Rattle.inode.specs.declared.layout.TheConstants.{INODE_HEADER_BYTES}
use Rattle.vdi_directory.specs.declared.effect.Effect.{Effect}
use Rattle.vdi_directory.specs.Chains.{chain_of}
use Rattle.vdi_directory.specs.Decisions.{log_effects}
use Rattle.peer_proto.specs.Work.{oid_of}
use Rattle.peer_proto.specs.declared.work.ObjWork.{ObjWork}
use Rattle.peer_service.specs.LogReading.{decision_on}
use Rattle.gateway.specs.State.{Work}
use Rattle.guest_driver.specs.declared.disk.Disk.{Disk}
use Rattle.guest_driver.specs.Pieces.{Piece}
use Rattle.guest_driver.specs.PieceWorks.{write_entry, table_with_entry}
use Rattle.vdi_ops.specs.Op.{Op}
use Rattle.vdi_ops.specs.Tables.{kept_entry}
use Rattle.sheep_node.specs.declared.course.Course.TheVariants.{Commanding}
use Rattle.sheep_node.specs.declared.input.Input.TheVariants as inputs
use Rattle.sheep_node.specs.AwaitedEntry.{waits_for_entry}
use Rattle.sheep_node.specs.Changes.{HasRequest}
use Rattle.sheep_node.specs.Courses.{inode_open}
use Rattle.sheep_node.specs.StepState.{StepState, session_in}
use Rattle.sheep_node.proofs.ValidityChanges.{AnySent, course_valid, inode_valid}
use Rattle.sheep_world.specs.World.{Host}
use Rattle.sheep_world.specs.Began.{Began}
use Rattle.sheep_world.specs.NodeCauses.{input_of_cause, host_with_node}
use Rattle.sheep_world.specs.RunsWithAsks.{Move}
use Rattle.overlap_law.specs.Fates.{IsCreated}
use Rattle.overlap_law.specs.MomentChanges as moments
use Rattle.overlap_law.specs.MomentChanges.{MomentChange, RunsAreInRange}
use Rattle.overlap_law.specs.OpenTables.{OwnEntriesAreCreated, OpenTablesAreMade, OpeningsNameWhatIsMade, ReadsNameWhatIsMade}
use Rattle.overlap_law.specs.Past.{MomentWithPast, run_with_past}
use Rattle.overlap_law.specs.StepMoments.{SteppingNode, IsStepping, StepsByChanges, IsWithinStep, moment_in_step}
use Rattle.overlap_law.specs.Tables.{entry_unit}
use Rattle.overlap_law.specs.ToDo.{entry_made, WorksNameWhatIsMade}
use Rattle.overlap_law.specs.Units.{covers_by}
use Rattle.overlap_law.proofs.ChainTables.{HasChainTable, at_index, taken_no_own}
use Rattle.overlap_law.proofs.ClaimsInRuns.{up_not_lost}
use Rattle.overlap_law.proofs.CreatedStays.{created-by, created_stays}
use Rattle.overlap_law.proofs.EntryWrites.{entry_covered, entry_own}
use Rattle.overlap_law.proofs.GuestsInMoments.{IsGoingOn}
use Rattle.overlap_law.proofs.KnownDisks.{FewAt, IsKnownDisk, IsKnownStage, known_validity}
use Rattle.overlap_law.proofs.KnownDiskSteps.{effects_after}
use Rattle.overlap_law.proofs.LogsOfMoments.{log_of_change}
use Rattle.overlap_law.proofs.NoRecoveredDue.{began-with_past}
use Rattle.overlap_law.proofs.TableSteps.{KnowsTables, OpeningsRead}
use Rattle.overlap_law.proofs.TablesInMoments.{AllSo, StaysSo, all_of, open_of, to_open_of, between_so, goes_on_so, stepped, reading}
use Rattle.overlap_law.proofs.TablesInMoments.{knows_here, known_so_far, whole_so_far, chains_here}
use Rattle.overlap_law.proofs.TablesStay.{lived}
use Rattle.overlap_law.proofs.TableWalk.{TakesOver}
use Rattle.overlap_law.proofs.WholeNodes.{whole_validity}

-- ---- an entry of a table that was read

pub entry_read : (ids : List ℕ) (count at index : ℕ) (bytes : List ℕ) → index < count
    → slice_index (map (kept_entry ids) (numbers_at w32 count at bytes)) index ≡ kept_entry ids (u32_at (at + 4 * index) bytes)
entry_read ids zero at index bytes within = absurd (omega (arith, within))
entry_read ids (suc count) at zero bytes within =
    let same : at ≡ at + 4 * 0 = omega arith in ap (λ (n : ℕ). kept_entry ids (u32_at n bytes)) same
entry_read ids (suc count) at (suc index) bytes within =
    let same : at + 4 + 4 * index ≡ at + 4 * suc index = omega arith in
    entry_read ids count (at + 4) index bytes (omega (arith, within)) ∙ ap (λ (n : ℕ). kept_entry ids (u32_at n bytes)) same

pub entry_kept : (ids : List ℕ) (entry vid : ℕ) → 1 ≤ vid → kept_entry ids entry ≡ vid → entry ≡ vid
entry_kept ids entry vid some is = by_test (list_any (λ id. id == entry) ids) is
  where
    by_test : (b : Bool) → cond b entry 0 ≡ vid → entry ≡ vid
    by_test true is = is
    by_test false none = absurd (omega (arith, some, none))

-- what is to hold in a moment, at a node of an epoch
abbrev IsOwn : MomentWithPast → ℕ → Content → Type 0
IsOwn moment epoch = OwnEntriesAreCreated (log_effects moment.world.log) moment.past.attempts epoch

module _ (script : List Statement) (range : RunsAreInRange script) (start : MomentWithPast) (began : Began script start.world) where
  stays_own : (before after : MomentWithPast) → MomentChange script start before after → StaysSo IsOwn before after
  stays_own before after change old new rises inode was index within own lives =
      created-by after.past.attempts (object_number inode.vid index) old new rises
      (created_stays script range start before after began change (object_number inode.vid index) old
      (was index within own (lived before.world.log after.world.log (log_of_change script change) inode.vid lives)))

  -- ---- in the middle of a step

  module _ (stepping : SteppingNode) (is : IsStepping script start.world stepping) (by : StepsByChanges stepping.cause)
      (so_far next : StepState) (within : IsWithinStep stepping so_far next) (good_id : ℕ → Bool)
      (names : WorksNameWhatIsMade (log_effects (moment_in_step script stepping start so_far).world.log) good_id
      (moment_in_step script stepping start so_far).world.hosts (moment_in_step script stepping start so_far).past.attempts)
      (reads : OpeningsNameWhatIsMade (log_effects (moment_in_step script stepping start so_far).world.log)
      (moment_in_step script stepping start so_far).past.attempts (input_of_cause stepping.cause) stepping.host.node so_far) where
    abbrev here : MomentWithPast
    here = moment_in_step script stepping start so_far

    abbrev known : List Effect
    known = effects_after (input_of_cause stepping.cause) stepping.host.node

    abbrev Own : Content → Type 0
    Own = IsOwn (moment_in_step script stepping start so_far) so_far.node.peer.epoch

    -- what writes an entry names what is made
    entry_named : (req : ℕ) (work : Work) (inode : Content) (piece : Piece) → tree.get so_far.node.gateway.works req ≡ Some work
        → work.work ≡ write_entry inode piece → IsVid inode.vid → FewAt piece
        → IsCreated here.past.attempts (object_number inode.vid piece.index) so_far.node.peer.epoch
    entry_named req work inode piece got entering id few =
        let was : Host = host_with_node stepping.host so_far.node in
        names.own stepping.n was (get-insert_same start.world.hosts stepping.n was) (up_not_lost script range stepping.host is.up) work.work
        inode.vid piece.index
        (record {
          to_do = inl (record { req = req; open_work = work; there = got; same = refl });
          object = ap (λ (w : ObjWork). oid_of w) entering;
          inside = few;
          covered = ap (covers_by (entry_unit piece.index)) entering ∙ entry_covered inode piece id;
        }) id (ap (entry_made piece.index) entering ∙ entry_own inode piece id)

    entered : (session req : ℕ) (work : Work) (disk : Disk) (piece : Piece) → tree.get so_far.node.gateway.works req ≡ Some work
        → (session_in session so_far).disk ≡ Some disk → work.work ≡ write_entry disk.inode piece → IsVid disk.inode.vid → FewAt piece
        → Own disk.inode → Own (table_with_entry disk.inode piece)
    entered session req work disk piece got on entering id few was index inside own lives = ⊎_elim
        (λ (same : index ≡ piece.index).
        subst (λ (i : ℕ). IsCreated here.past.attempts (object_number disk.inode.vid i) so_far.node.peer.epoch) (sym same)
        (entry_named req work disk.inode piece got entering id few))
        (λ (other : index ≢ piece.index).
        was index inside (sym (get_or-set_other disk.inode.table piece.index index disk.inode.vid 0 other) ∙ own) lives)
        (cases_eq index piece.index)

    -- what was read is of an id that there may be
    opened : OpeningsRead Own (input_of_cause stepping.cause) stepping.host.node so_far
    opened session req number work attempt status op bytes vid snapshot ids header ends at index inside own lives =
        let stage = course_valid (known_validity known) AnySent session req (Commanding op) so_far ends.ends.request
        (known_so_far script range start began stepping is by so_far next within) in
        let disk = subst (IsKnownStage known) at stage in
        let value : ℕ = u32_at (INODE_HEADER_BYTES + 4 * index) bytes in
        reads session req number work attempt status op bytes vid snapshot ids header index ends at inside
        (entry_kept ids value vid.0 disk.id.0 (sym (entry_read ids (objects_of header.spec) INODE_HEADER_BYTES index bytes inside) ∙ own))
        lives

    -- the table of a disk doesn't name the id that takes its place
    taken : (entry : Entry) (session req : ℕ) (op : Op) → input_of_cause stepping.cause ≡ inputs.LogEntry entry
        → HasRequest session req (Commanding op) so_far → waits_for_entry entry (Commanding op) ≡ true
        → TakesOver Own known (inode_open (session_in session so_far).disk) (decision_on entry stepping.host.node.peer) op.stage
    taken entry session req op from there waits name_by of name tag vid old header at granted on header_there was index inside own lives =
        let chains = chains_here script range start began stepping is by so_far next within in
        let (parent, from_parent, same) = (knows_here script range start began stepping is by so_far next within).taken entry session req op
        from there waits name_by of name tag vid old at granted on in
        let disk = All-head (λ (id : ℕ). IsKnownDisk known id header.spec) vid.0 (chain_of known vid.0)
        (chains.with_chain vid.0 header header_there) in
        let table : HasChainTable known old
        = subst (λ (o : Option Content). IfSome o (HasChainTable known)) on
        (inode_valid (whole_validity known) AnySent session so_far
        (whole_so_far script range start began stepping is by so_far next within)) in
        absurd (at_index (λ (entry : ℕ). entry ≢ vid.0) (λ none. let some = disk.id.0 in absurd (omega (arith, none, some))) old.table index
        (taken_no_own known chains vid header parent old disk from_parent same table) own)

    knows : KnowsTables Own known (stepped script range start began stepping is by so_far next within)
        (reading script range start began stepping is by so_far next within) so_far
    knows =
        let well = knows_here script range start began stepping is by so_far next within in
        record {
          waits = well.waits;
          sound_here = well.sound;
          on_known = well.on_known;
          enters = entered;
          openings = opened;
          takes = taken;
        }

    goes_on_own : AllSo IsOwn (moment_in_step script stepping start so_far) → AllSo IsOwn (moment_in_step script stepping start next)
    goes_on_own =
        goes_on_so script range start began stepping is by so_far next within IsOwn
        (stays_own here (moment_in_step script stepping start next) (moments.StepGoesOn stepping so_far next is by within)) knows

-- ---- every change

pub tables_stay_made : (script : List Statement) → RunsAreInRange script → (events : List Move) (start before after : MomentWithPast)
    → run_with_past script events ≡ Some start → MomentChange script start before after → (good_id : ℕ → Bool)
    → WorksNameWhatIsMade (log_effects before.world.log) good_id before.world.hosts before.past.attempts
    → ReadsNameWhatIsMade script start before
    → OpenTablesAreMade (log_effects before.world.log) before.world.hosts before.past.attempts
    → OpenTablesAreMade (log_effects after.world.log) after.world.hosts after.past.attempts
tables_stay_made script range events start before after ran change good_id names reads said =
    let began = began-with_past script events start ran in
    let was : AllSo IsOwn before = all_of IsOwn before said.opened said.to_open in
    let all : AllSo IsOwn after
    = between_so IsOwn script range start before after began change (stays_own script range start began before after change) was
    (λ (on : IsGoingOn script start before after).
    subst (AllSo IsOwn) (sym on.after_so)
    (goes_on_own script range start began on.stepping on.is on.by on.so_far on.next on.within good_id
    (subst (λ (m : MomentWithPast). WorksNameWhatIsMade (log_effects m.world.log) good_id m.world.hosts m.past.attempts) on.before_so names)
    (subst (λ (m : MomentWithPast). OpeningsNameWhatIsMade (log_effects m.world.log) m.past.attempts (input_of_cause on.stepping.cause)
    on.stepping.host.node on.so_far) on.before_so (reads on.stepping on.so_far on.is on.by on.within.leads on.before_so))
    (subst (AllSo IsOwn) on.before_so was))) in
    record { opened = open_of IsOwn after all; to_open = to_open_of IsOwn after all }
