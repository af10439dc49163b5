-- In the middle of a step of a run in range, the inode of a clone that a command creates next is drawn from its base, if what is read of
-- a base is what it may come to have, and what inodes have names what is above them.
use Rattle.std.proofs.Common.{◌≡◌, ◌≢◌, ◌⊎◌, ⊎_elim, arith, ℕ, cond, ◌+◌, ◌*◌, ◌<◌, ◌==◌, ◌||◌, Bool, true, false, All, List, Option}
use Rattle.std.proofs.Common.{Some, None, is_some, refl, sym, ap, subst, ◌∙◌}
use Rattle.std.specs.List.{list_any}
use Rattle.std.proofs.lemmas.Bool.{cases_eq, eq-eqb, or_left, or_right}
use Rattle.std.proofs.lemmas.List.Elements.{All-weaker}
use Rattle.std.proofs.lemmas.Option.{same_Some}
use Rattle.proof_tools.proofs.FiniteMaps.{get-insert_same}
use Rattle.object_id.specs.declared.entry.Entry.{Entry}
use Rattle.object_id.specs.declared.entry.VdiSpec.{VdiSpec}
use Rattle.object_id.specs.declared.limits.TheConstants.{OBJECTS_MAX}
use Rattle.object_id.specs.declared.oid.Vid.{Vid}
use Rattle.object_id.specs.Fields.{u32_at}
use Rattle.object_id.specs.Oid.{inode_number}
use Rattle.object_id.specs.Spec.{objects_of}
use Rattle.inode.specs.Layout.{Content, IsEntry}
use Rattle.inode.specs.declared.layout.TheConstants.{INODE_HEADER_BYTES}
use Rattle.cluster_script.specs.declared.statement.Statement.{Statement}
use Rattle.gateway.specs.declared.message.Status.{Status}
use Rattle.gateway.specs.Attempt as gateways
use Rattle.gateway.specs.State.{Work}
use Rattle.vdi_directory.specs.declared.effect.Effect.{Effect}
use Rattle.vdi_directory.specs.declared.effect.Source.TheVariants as sources
use Rattle.vdi_directory.specs.declared.header.Header.{Header}
use Rattle.vdi_directory.specs.Chains.{chain_of, is_above}
use Rattle.vdi_directory.specs.Dead.{is_gone, is_dead}
use Rattle.vdi_directory.specs.Decisions.{log_effects}
use Rattle.vdi_directory.specs.References.{parent_of}
use Rattle.vdi_directory.specs.States.{state_of}
use Rattle.vdi_directory.proofs.ChainLemmas.{is_parent_or_above}
use Rattle.vdi_directory.proofs.DeadTests.{test-finds-dead}
use Rattle.vdi_directory.proofs.LineLemmas.{above-line, line-log_effects}
use Rattle.vdi_ops.specs.InodeWorks.{create_inode}
use Rattle.vdi_ops.specs.Op.{Copying, Working, Op, OpStage}
use Rattle.vdi_ops.specs.Tables.{kept_entry, table_in, inode_by}
use Rattle.vdi_ops.proofs.TableLemmas.{kept_stays}
use Rattle.sheep_node.specs.declared.course.Course.TheVariants.{Commanding}
use Rattle.sheep_node.specs.declared.input.Input.{Input}
use Rattle.sheep_node.specs.Changes.{EndsWork}
use Rattle.sheep_node.specs.SoundWorks.{IsSoundStage}
use Rattle.sheep_node.specs.State.{Node}
use Rattle.sheep_node.specs.StepState.{StepState}
use Rattle.sheep_world.specs.NodeCauses.{input_of_cause, host_with_node}
use Rattle.sheep_world.specs.World.{Host}
use Rattle.sheep_world.specs.RunsWithAsks.{Move}
use Rattle.overlap_law.specs.Attempts.{AttemptRecord}
use Rattle.overlap_law.specs.Drafts.{IsReservedEntry}
use Rattle.overlap_law.specs.MomentChanges.{MomentTrail, RunsAreInRange}
use Rattle.overlap_law.specs.Past.{MomentWithPast, run_with_past}
use Rattle.overlap_law.specs.StayingDrafts.{IsAllToCome, StaysDrawnFrom, CreatesDrawn, DraftsStayDrawn, ParentsAreGood}
use Rattle.overlap_law.specs.InodesRead.{ReadsInodeAt, ReadsAreToCome}
use Rattle.overlap_law.specs.StayingDrafts.{NewClonesAreDrawn}
use Rattle.overlap_law.specs.StepMoments.{SteppingNode, IsStepping, StepsByChanges, LeadsInStep, first_in_step, moment_in_step}
use Rattle.overlap_law.specs.Tables.{entry_by, EntriesAreMade}
use Rattle.overlap_law.specs.ToCome.{IsEntryToCome}
use Rattle.overlap_law.specs.ToDo.{entry_made}
use Rattle.overlap_law.proofs.AnswersInMoments.{not_lost}
use Rattle.overlap_law.proofs.BasesOfCopies.{KnowsBase, copies-on_the_way}
use Rattle.overlap_law.proofs.ChainTables.{IsOtherId}
use Rattle.overlap_law.proofs.CreatedEntries.{created_at}
use Rattle.overlap_law.proofs.DraftsOfLogs.{state_reserved}
use Rattle.overlap_law.proofs.KnownDiskSteps.{effects_after}
use Rattle.overlap_law.proofs.KnownTables.{table_so}
use Rattle.overlap_law.proofs.OpeningReads.{knows_well, knows_tables}
use Rattle.overlap_law.proofs.OwnTables.{entry_read as read_entry_of}
use Rattle.overlap_law.proofs.ReadCommands.{IsTabledStage}
use Rattle.overlap_law.proofs.WrittenBack.{header_long}

-- an id that one stands above isn't dead
child_keeps : (effects : List Effect) (base vid : ℕ)
    → ((other : ℕ) → is_above effects base other ≡ true → is_gone (state_of effects other) ≡ true)
    → is_above effects base vid ≡ true → is_gone (state_of effects vid) ≡ false → ⊥
child_keeps effects base vid heirs above stands = let gone = heirs vid above in cc (gone, stands)

base_lives : (log : List Entry) (base vid : ℕ) → is_above (log_effects log) base vid ≡ true
    → is_gone (state_of (log_effects log) vid) ≡ false → is_dead (log_effects log) base ≡ false
base_lives log base vid above stands = by_test (is_dead (log_effects log) base) refl
  where
    by_test : (b : Bool) → is_dead (log_effects log) base ≡ b → b ≡ false
    by_test false is = refl
    by_test true dead = absurd (child_keeps (log_effects log) base vid ((test-finds-dead log base).0 dead).heirs above stands)

above_in : (effects : List Effect) (elder vid : ℕ) (ids : List ℕ) → chain_of effects vid ≡ ids → is_above effects elder vid ≡ true
    → list_any (λ id. id == elder) ids ≡ true
unfolding is_above
above_in effects elder vid ids chain above = ap (list_any (λ id. id == elder)) (sym chain) ∙ above

module _ (script : List Statement) (range : RunsAreInRange script) (events : List Move) (start : MomentWithPast)
    (ran : run_with_past script events ≡ Some start) (on : SteppingNode) (is : IsStepping script start.world on)
    (by : StepsByChanges on.cause) (so_far : StepState) (leads : LeadsInStep on (first_in_step on) so_far)
    (trail : MomentTrail script start (moment_in_step script on start so_far)) (good_id : ℕ → Bool)
    (reads : ReadsAreToCome script good_id start (moment_in_step script on start so_far))
    (live : ℕ → Bool) (lives : (oid : ℕ) → live oid ≡ true)
    (entries : EntriesAreMade (log_effects (moment_in_step script on start so_far).world.log) live good_id
    (moment_in_step script on start so_far).past.attempts)
    (parents : ParentsAreGood (log_effects (moment_in_step script on start so_far).world.log) good_id)
    (drafts : DraftsStayDrawn (log_effects (moment_in_step script on start so_far).world.log) good_id
    (moment_in_step script on start so_far).world.hosts (moment_in_step script on start so_far).past.attempts) where
  abbrev here : MomentWithPast
  here = moment_in_step script on start so_far

  abbrev was : Host
  was = host_with_node on.host so_far.node

  abbrev input : Input
  input = input_of_cause on.cause

  abbrev node : Node
  node = on.host.node

  abbrev known : List Effect
  known = effects_after (input_of_cause on.cause) on.host.node

  module _ (session req number : ℕ) (work : Work) (attempt : gateways.Attempt) (status : Status) (op : Op) (bytes : List ℕ) (vid : Vid)
      (ids : List ℕ) (header : Header)
      (ends : EndsWork (input_of_cause on.cause) on.host.node so_far session req number work attempt status (Commanding op) bytes)
      (at : op.stage ≡ Working vid (Copying ids header)) where
    knows : KnowsBase (moment_in_step script on start so_far).world.log vid.0 ids header
    knows =
        copies-on_the_way script range events start here ran trail on.n was (get-insert_same start.world.hosts on.n was)
        (not_lost on.host is.up)
        vid ids header
        (record { req = req; request = _; op = op; there = ends.ends.request; command = refl; at = at })

    abbrev inode : Content
    inode = inode_by header vid.0 (table_in ids header.spec bytes)

    sound : IsSoundStage (Working vid (Copying ids header))
    sound = subst IsSoundStage at ((knows_well script range events start ran on is by so_far leads trail).sound.courses req
        (record { session = session; course = Commanding op }) ends.ends.request)

    others : All (IsOtherId vid.0) ids
    others = (subst (IsTabledStage known) at ((knows_tables script range events start ran on is by so_far leads trail).courses req
        (record { session = session; course = Commanding op }) ends.ends.request)).0

    -- the entry that the new inode has is the one that was read, if it counts
    entry_so : (index : ℕ) → index < objects_of header.spec
        → entry_made index (create_inode (inode_by header vid.0 (table_in ids header.spec bytes)))
        ≡ kept_entry ids (u32_at (INODE_HEADER_BYTES + 4 * index) bytes)
    entry_so index within =
        created_at inode index sound.0 (header_long header vid.0 (table_in ids header.spec bytes) sound.1)
        (All-weaker (λ (entry : ℕ). (entry ≡ 0) ⊎ IsEntry entry) IsEntry
        (λ entry. ⊎_elim (λ (none : entry ≡ 0). omega (arith, none)) (λ (few : IsEntry entry). few)) (table_in ids header.spec bytes)
        (table_so IsEntry header.spec ids bytes (All-weaker (IsOtherId vid.0) IsEntry (λ other of. of.0.1) ids others)))
        ∙ read_entry_of ids (objects_of header.spec) INODE_HEADER_BYTES index bytes within

    module _ (index : ℕ) (draft : IsReservedEntry (log_effects (moment_in_step script on start so_far).world.log) good_id vid.0 index)
        (inside : index < OBJECTS_MAX) where
      within : index < objects_of header.spec
      within =
          subst (λ (spec : VdiSpec). index < objects_of spec) (same_Some draft.spec header.spec (sym draft.made_with ∙ knows.spec))
          draft.within

      module _ (base : Vid) (from : header.parent ≡ Some base) (clone : draft.reservation.source ≡ sources.Clone) where
        parent : parent_of (log_effects here.world.log) vid.0 ≡ Some base
        parent = knows.parent ∙ from

        above_base : (elder : ℕ) → (base.0 == elder || is_above (log_effects here.world.log) elder base.0) ≡ true
            → is_above (log_effects here.world.log) elder vid.0 ≡ true
        above_base elder is =
            above-line (log_effects here.world.log) (line-log_effects here.world.log) elder vid.0
            ∙ ap (is_parent_or_above (is_above (log_effects here.world.log)) elder) parent ∙ is

        base_alive : is_dead (log_effects here.world.log) base.0 ≡ false
        base_alive =
            base_lives here.world.log base.0 vid.0
            (above_base base.0 (or_left (base.0 == base.0) (is_above (log_effects here.world.log) base.0 base.0)
            (eq-eqb base.0 base.0 refl)))
            (ap is_gone (state_reserved here.world.log vid.0 draft.reservation draft.stands))

        base_good : good_id base.0 ≡ true
        base_good = parents vid.0 base parent draft.good

        abbrev value : ℕ
        value = u32_at (INODE_HEADER_BYTES + 4 * index) bytes

        -- what was read counts
        counts : (k : ℕ) (one : AttemptRecord) → IsEntryToCome here.world.hosts here.past.attempts base.0 index k one
            → kept_entry ids (entry_by index one) ≡ entry_by index one
        counts k one comes = ⊎_elim
            (λ (none : entry_by index one ≡ 0). zero_kept (entry_by index one) none)
            (λ (some : entry_by index one ≢ 0).
            let stands = entries.each k one comes.there base.0 index comes.object (lives (inode_number base.0)) base_good inside
            comes.covers some in
            kept_stays ids (entry_by index one)
            (above_in (log_effects here.world.log) (entry_by index one) vid.0 ids knows.chain
            (above_base (entry_by index one) (⊎_elim
            (λ (own : entry_by index one ≡ base.0).
            or_left (base.0 == entry_by index one) (is_above (log_effects here.world.log) (entry_by index one) base.0)
            (eq-eqb base.0 (entry_by index one) (sym own)))
            (λ (above : is_above (log_effects here.world.log) (entry_by index one) base.0 ≡ true).
            or_right (base.0 == entry_by index one) (is_above (log_effects here.world.log) (entry_by index one) base.0) above)
            stands.chain))))
            (cases_eq (entry_by index one) 0)
          where
            zero_kept : (entry : ℕ) → entry ≡ 0 → kept_entry ids entry ≡ entry
            zero_kept entry none = by_test (list_any (λ id. id == entry) ids)
              where
                by_test : (b : Bool) → cond b entry 0 ≡ entry
                by_test true = refl
                by_test false = sym none

        all_so : IsAllToCome here.world.hosts here.past.attempts base.0 index
            (entry_made index (create_inode (inode_by header vid.0 (table_in ids header.spec bytes))))
        all_so k other comes =
            let found = reads on so_far is by leads refl session req number work attempt status op bytes base header index ends
            (subst (λ (stage : OpStage). ReadsInodeAt stage base header) (sym at) (from, refl)) base_good base_alive within in
            drafts.bases vid.0 index draft clone base parent k found.place other found.one comes found.to_come
            ∙ sym (counts found.place found.one found.to_come) ∙ ap (kept_entry ids) found.same ∙ sym (entry_so index within)

      by_parent : (o : Option Vid) → header.parent ≡ o
          → StaysDrawnFrom here.world.hosts here.past.attempts draft.reservation.source o index
          (entry_made index (create_inode (inode_by header vid.0 (table_in ids header.spec bytes))))
      by_parent None none =
          let some = knows.some in
          let not : is_some header.parent ≡ false = ap is_some none in
          absurd (cc (some, not))
      by_parent (Some base) from = λ clone. all_so base from clone

      own_drawn : StaysDrawnFrom here.world.hosts here.past.attempts draft.reservation.source
          (parent_of (log_effects here.world.log) vid.0) index
          (entry_made index (create_inode (inode_by header vid.0 (table_in ids header.spec bytes))))
      own_drawn =
          subst (λ (o : Option Vid). StaysDrawnFrom here.world.hosts here.past.attempts draft.reservation.source o index
          (entry_made index (create_inode (inode_by header vid.0 (table_in ids header.spec bytes))))) (sym knows.parent)
          (by_parent header.parent refl)

    abbrev DrawnAt : ℕ → Type 0
    DrawnAt of = (index : ℕ) (draft : IsReservedEntry (log_effects here.world.log) good_id of index) → index < OBJECTS_MAX
        → StaysDrawnFrom here.world.hosts here.past.attempts draft.reservation.source (parent_of (log_effects here.world.log) of) index
        (entry_made index (create_inode (inode_by header vid.0 (table_in ids header.spec bytes))))

    copy_drawn : CreatesDrawn (log_effects (moment_in_step script on start so_far).world.log) good_id
        (moment_in_step script on start so_far).world.hosts (moment_in_step script on start so_far).past.attempts
        (create_inode (inode_by header vid.0 (table_in ids header.spec bytes)))
    copy_drawn of index draft creates has =
        let object : inode_number vid.0 ≡ inode_number of = has.object in
        let same : vid.0 ≡ of = omega (arith, object) in
        subst DrawnAt same own_drawn index draft has.inside

-- ---- every moment in the middle of a step

pub clones_drawn : (script : List Statement) → RunsAreInRange script → (events : List Move) (start before : MomentWithPast)
    → run_with_past script events ≡ Some start → MomentTrail script start before → (good_id : ℕ → Bool)
    → ReadsAreToCome script good_id start before → (live : ℕ → Bool) → ((oid : ℕ) → live oid ≡ true)
    → EntriesAreMade (log_effects before.world.log) live good_id before.past.attempts
    → ParentsAreGood (log_effects before.world.log) good_id
    → DraftsStayDrawn (log_effects before.world.log) good_id before.world.hosts before.past.attempts
    → NewClonesAreDrawn script good_id start before
clones_drawn script range events start before ran trail good_id reads live lives entries parents drafts =
    λ on so_far is by leads same session req number work attempt status op bytes vid ids header ends at.
    subst (λ (m : MomentWithPast). CreatesDrawn (log_effects m.world.log) good_id m.world.hosts m.past.attempts
    (create_inode (inode_by header vid.0 (table_in ids header.spec bytes)))) (sym same)
    (copy_drawn script range events start ran on is by so_far leads (subst (MomentTrail script start) same trail) good_id
    (subst (ReadsAreToCome script good_id start) same reads) live lives
    (subst (λ (m : MomentWithPast). EntriesAreMade (log_effects m.world.log) live good_id m.past.attempts) same entries)
    (subst (λ (m : MomentWithPast). ParentsAreGood (log_effects m.world.log) good_id) same parents)
    (subst (λ (m : MomentWithPast). DraftsStayDrawn (log_effects m.world.log) good_id m.world.hosts m.past.attempts) same drafts)
    session req number work attempt status op bytes vid ids header ends at)
