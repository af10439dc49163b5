-- Each entry that is read of an inode, as a disk or snapshot is opened in the middle of a step of a run in range, counts in the table, if
-- the entries that attempts give to inodes stand for what is made: it is nothing, or of the disk's chain, and all of that counts.
use Rattle.std.proofs.Common.{◌≡◌, ◌≢◌, ⊎_elim, arith, ℕ, ◌+◌, ◌*◌, ◌<◌, ◌==◌, Bool, true, false, cond, List, Some, refl, sym, ap}
use Rattle.std.proofs.Common.{subst, ◌∙◌}
use Rattle.std.specs.List.{list_any}
use Rattle.std.proofs.lemmas.Bool.{cases_eq}
use Rattle.proof_tools.proofs.FiniteMaps.{get-insert_same}
use Rattle.object_id.specs.Fields.{u32_at}
use Rattle.object_id.specs.Oid.{IsVid, inode_number}
use Rattle.object_id.specs.declared.limits.TheConstants.{OBJECTS_MAX}
use Rattle.inode.specs.declared.layout.TheConstants.{INODE_HEADER_BYTES}
use Rattle.cluster_script.specs.declared.statement.Statement.{Statement}
use Rattle.vdi_directory.specs.Dead.{is_dead}
use Rattle.vdi_directory.specs.Decisions.{log_effects}
use Rattle.vdi_ops.specs.Tables.{kept_entry}
use Rattle.sheep_node.specs.declared.course.Course.TheVariants.{Commanding}
use Rattle.sheep_world.specs.NodeCauses.{host_with_node}
use Rattle.sheep_world.specs.World.{Host}
use Rattle.sheep_world.specs.RunsWithAsks.{Move}
use Rattle.overlap_law.specs.Holders.{is_dead_by_log}
use Rattle.overlap_law.specs.MomentChanges.{MomentTrail, RunsAreInRange}
use Rattle.overlap_law.specs.OpenTables.{CallsLive}
use Rattle.overlap_law.specs.OpenedTables.{EntriesReadAreKept}
use Rattle.overlap_law.specs.Past.{MomentWithPast, run_with_past}
use Rattle.overlap_law.specs.StepMoments.{moment_in_step}
use Rattle.overlap_law.specs.Tables.{entry_by, EntriesAreMade}
use Rattle.overlap_law.proofs.AnswersInMoments.{not_lost}
use Rattle.overlap_law.proofs.KnownDisks.{vid-of_inode}
use Rattle.overlap_law.proofs.LastReads.{last_reads-in_run}
use Rattle.overlap_law.proofs.OpeningIds.{openings_in_run}
use Rattle.overlap_law.proofs.WholeIds.{AreWholeIds}
use Rattle.overlap_law.proofs.OpeningReads.{IsEntryRead, opening_reads, opening_vid, few_objects, entry_read}

-- nothing counts as nothing
none_kept : (ids : List ℕ) → kept_entry ids 0 ≡ 0
none_kept ids = by_test (list_any (λ id. id == 0) ids)
  where
    by_test : (b : Bool) → ◌≡◌ {A = ℕ} (cond b 0 0) 0
    by_test true = refl
    by_test false = refl

pub entries_kept : (script : List Statement) → RunsAreInRange script → (events : List Move) (start before : MomentWithPast)
    → run_with_past script events ≡ Some start → MomentTrail script start before → (live good_id : ℕ → Bool)
    → CallsLive live before.world.log before.past.attempts
    → EntriesAreMade (log_effects before.world.log) live good_id before.past.attempts → EntriesReadAreKept script good_id start before
entries_kept script range events start before ran trail live good_id calls made on so_far is by leads same session req number work attempt
    status op bytes vid snapshot ids header index ends at good lives inside =
    let here : MomentWithPast = moment_in_step script on start so_far in
    let was : Host = host_with_node on.host so_far.node in
    let trail_here : MomentTrail script start here = subst (MomentTrail script start) same trail in
    let value : ℕ = u32_at (INODE_HEADER_BYTES + 4 * index) bytes in
    let reads = opening_reads script range events start ran on is by so_far leads trail_here session req number work attempt status op bytes
    vid snapshot ids header ends at in
    let id : IsVid vid.0 = opening_vid script range events start ran on is by so_far leads trail_here session req number work attempt
    status op
    bytes vid snapshot ids header ends at in
    let most = few_objects script range events start ran on is by so_far leads trail_here session req number work attempt status op bytes
    vid
    snapshot ids header ends at in
    let few : index < OBJECTS_MAX = omega (arith, inside, most) in
    let last = last_reads-in_run script range events start here ran trail_here in
    let one : IsEntryRead here.past.attempts so_far.node.peer.epoch vid.0 index value
    = entry_read script range events start ran on is by so_far leads trail_here session req number work attempt status
    (Commanding op) bytes ends
    refl vid.0 header.spec reads id last index inside in
    let whole : AreWholeIds here.world.log vid.0 snapshot header.spec ids
    = openings_in_run script range events start here ran trail_here on.n was (get-insert_same start.world.hosts on.n was)
    (not_lost on.host is.up) req (record { session = session; course = Commanding op }) op vid snapshot ids header ends.ends.request refl
    at in
    let calls_here : CallsLive live here.world.log here.past.attempts
    = subst (λ (m : MomentWithPast). CallsLive live m.world.log m.past.attempts) same calls in
    let made_here : EntriesAreMade (log_effects here.world.log) live good_id here.past.attempts
    = subst (λ (m : MomentWithPast). EntriesAreMade (log_effects m.world.log) live good_id m.past.attempts) same made in
    let dead : is_dead_by_log here.world.log (inode_number vid.0) ≡ false
    = ap (λ (v : ℕ). is_dead (log_effects here.world.log) v) (vid-of_inode vid.0 id)
    ∙ ap (λ (m : MomentWithPast). is_dead (log_effects m.world.log) vid.0) (sym same) ∙ lives in
    ⊎_elim
    (λ (none : value ≡ 0). ap (kept_entry ids) none ∙ none_kept ids ∙ sym none)
    (λ (some : value ≢ 0).
    let stands = made_here.each one.place one.one one.there vid.0 index one.object
    (calls_here (inode_number vid.0) (one.place, one.one, one.there, one.object) dead) good few one.covers
    (λ none. some (sym one.entry ∙ none)) in
    let listed : list_any (λ other. other == entry_by index one.one) ids ≡ true = whole.each (entry_by index one.one) stands.chain in
    ap (λ (b : Bool). cond b value 0)
    (ap (λ (entry : ℕ). list_any (λ other. other == entry) ids) (sym one.entry) ∙ listed))
    (cases_eq value 0)
