-- In the middle of a step of a run in range, an inode that a command creates next is drawn from what its id is made from, if a clone's
-- is: a new disk has holes alone. Of an id that takes the place of a disk nothing is said here.
use Rattle.std.specs.FinMap as tree
use Rattle.object_id.specs.declared.entry.Entry.TheVariants as entries
use Rattle.vdi_directory.specs.declared.decision.Decision.TheVariants as decisions
use Rattle.std.proofs.Common.{◌≡◌, arith, ℕ, Bool, false, List, length, Some, None, refl, sym, ap, subst, ◌∙◌}
use Rattle.std.proofs.Common.{true, [], ◌∷◌, Option, is_some, ◌++◌}
use Rattle.std.proofs.lemmas.List.Elements.{All-replicate}
use Rattle.proof_tools.proofs.FiniteMaps.{get-insert_same}
use Rattle.object_id.specs.declared.oid.Vid.{Vid}
use Rattle.object_id.specs.Oid.{inode_number}
use Rattle.object_id.specs.Spec.{objects_of}
use Rattle.inode.specs.Layout.{Content, IsEntry}
use Rattle.cluster_script.specs.declared.statement.Statement.{Statement}
use Rattle.vdi_directory.specs.declared.effect.Effect.{Effect}
use Rattle.vdi_directory.specs.Decisions.{log_effects, decision_after}
use Rattle.vdi_directory.specs.Effects.{header_of, is_used, reservation_on, reservations_of}
use Rattle.peer_service.specs.LogReading.{decision_on}
use Rattle.peer_service.specs.State.{effects_of}
use Rattle.peer_proto.specs.declared.work.ObjWork.{ObjWork}
use Rattle.vdi_ops.specs.InodeWorks.{create_inode}
use Rattle.vdi_ops.specs.Op.{Working, Op, Tagging, OpStage, entry_wanted_at}
use Rattle.vdi_ops.specs.Tables.{holes, inode_by}
use Rattle.sheep_node.specs.declared.course.Course.TheVariants.{Commanding}
use Rattle.sheep_node.specs.declared.input.Input.{Input}
use Rattle.sheep_node.specs.Changes.{ToWork, RequestSteps}
use Rattle.sheep_node.specs.Changes.{EndsWork}
use Rattle.sheep_node.specs.State.{Node}
use Rattle.sheep_node.specs.StepState.{StepState}
use Rattle.sheep_world.specs.NodeCauses.{input_of_cause, host_with_node}
use Rattle.overlap_law.specs.MomentChanges.{MomentTrail, RunsAreInRange}
use Rattle.overlap_law.specs.Past.{MomentWithPast, run_with_past}
use Rattle.overlap_law.specs.StepMoments.{SteppingNode, IsStepping, StepsByChanges, LeadsInStep, first_in_step, moment_in_step}
use Rattle.overlap_law.proofs.CausedWorks.{no_object}
use Rattle.overlap_law.proofs.KnownDiskSteps.{effects_after}
use Rattle.overlap_law.proofs.OpeningReads.{knows_well, knows_read, knows_headers}
use Rattle.overlap_law.proofs.WrittenBack.{header_long}
use Rattle.std.specs.Option.{option_map_or}
use Rattle.std.proofs.lemmas.Option.{same_Some}
use Rattle.object_id.specs.declared.entry.Entry.{Entry}
use Rattle.object_id.specs.declared.entry.Origin.TheVariants.{Fresh}
use Rattle.object_id.specs.Same.{is_same_entry}
use Rattle.gateway.specs.declared.message.Status.{Status}
use Rattle.gateway.specs.Attempt as gateways
use Rattle.gateway.specs.State.{Work}
use Rattle.sheep_world.specs.LogFronts.{IsFront}
use Rattle.vdi_directory.specs.declared.effect.Reservation.{Reservation}
use Rattle.vdi_directory.specs.declared.effect.Source.{Source}
use Rattle.vdi_directory.specs.declared.effect.Source.TheVariants as sources
use Rattle.vdi_directory.specs.References.{parent_of}
use Rattle.vdi_directory.proofs.LineLemmas.{line-log_effects}
use Rattle.sheep_node.proofs.SoundCommands.{IsSoundHeader}
use Rattle.sheep_node.specs.AwaitedEntry.{waits_for_entry}
use Rattle.sheep_node.specs.declared.input.Input.TheVariants as inputs
use Rattle.sheep_node.specs.LogReading.{entry_read as log_entry_read}
use Rattle.sheep_world.specs.World.{Host}
use Rattle.sheep_world.specs.RunsWithAsks.{Move}
use Rattle.overlap_law.specs.CommandDisks.{opened_in, IsOpenAtStage}
use Rattle.overlap_law.specs.StayingDrafts.{StaysDrawnFrom, CreatesDrawn, NewInodesAreDrawn, NewClonesAreDrawn}
use Rattle.overlap_law.specs.ToDo.{entry_made}
use Rattle.overlap_law.specs.WriterClaims.{IsInPlaceOf, IsStageKept}
use Rattle.overlap_law.proofs.AnswersInMoments.{not_lost}
use Rattle.overlap_law.proofs.ClaimsInRuns.{claims-in_run}
use Rattle.overlap_law.proofs.CountedEntries.{same_entry}
use Rattle.overlap_law.proofs.CreatedEntries.{created_entry}
use Rattle.overlap_law.proofs.DraftsOfLogs.{parent_stays}
use Rattle.overlap_law.proofs.OpenDisksInRuns.{disks_fit-in_run}
use Rattle.overlap_law.proofs.OtherWorks.{CreatesDisk, IsOfTask, Tagged, Copied}
use Rattle.overlap_law.proofs.ReadInMoments.{HostsAreSound, kept_sound}
use Rattle.overlap_law.proofs.RunsByChanges.{on_the_way}
use Rattle.overlap_law.proofs.NewDisks.{none_above}
use Rattle.overlap_law.proofs.StepsToWorks.{IsNotDriven, IsOfOther, WithoutEntry, TaskCreates, TaskWritesBack, DecisionCreates}
use Rattle.overlap_law.proofs.StepsToWorks.{comes_to_other}

-- ---- in the middle of a step

module _ (script : List Statement) (range : RunsAreInRange script) (events : List Move) (start : MomentWithPast)
    (ran : run_with_past script events ≡ Some start) (on : SteppingNode) (is : IsStepping script start.world on)
    (by : StepsByChanges on.cause) (so_far : StepState) (leads : LeadsInStep on (first_in_step on) so_far)
    (trail : MomentTrail script start (moment_in_step script on start so_far)) (good_id : ℕ → Bool)
    (copies : NewClonesAreDrawn script good_id start (moment_in_step script on start so_far)) where
  abbrev here : MomentWithPast
  here = moment_in_step script on start so_far

  abbrev was : Host
  was = host_with_node on.host so_far.node

  abbrev input : Input
  input = input_of_cause on.cause

  abbrev node : Node
  node = on.host.node

  abbrev known : List Effect
  known = effects_after (input_of_cause on.cause) on.host.node

  abbrev Draws : ObjWork → Type 0
  Draws =
      CreatesDrawn (log_effects (moment_in_step script on start so_far).world.log) good_id
      (moment_in_step script on start so_far).world.hosts (moment_in_step script on start so_far).past.attempts

  seat : tree.get here.world.hosts on.n ≡ Some (host_with_node on.host so_far.node)
  seat = get-insert_same start.world.hosts on.n was

  -- the log goes on from what the node has read
  front : IsFront so_far.node.peer.entries here.world.log
  front = ((on_the_way script HostsAreSound (kept_sound script range) events start here ran trail).each on.n was seat).read.front

  -- a new disk has holes
  disk_drawn : (entry : Entry) (op : Op) (work : ObjWork) → input ≡ inputs.LogEntry entry
      → so_far.node.peer ≡ (log_entry_read entry node).peer → waits_for_entry entry (Commanding op) ≡ true
      → CreatesDisk (effects_of so_far.node.peer) (decision_on entry node.peer) op work → Draws work
  disk_drawn entry op work from read waits c = subst Draws (sym c.same) drawn
    where
      asked : Entry
      asked = entries.Reserve c.by c.session c.name (Fresh c.spec)

      so : asked ≡ entry
      so = same_entry asked entry
          (sym (ap (λ (stage : OpStage). option_map_or (λ (wanted : Entry). is_same_entry wanted entry) (entry_wanted_at stage) false)
          c.asked)
          ∙ waits)

      effects_so : effects_of so_far.node.peer ≡ known
      effects_so = ap effects_of read ∙ knows_read script range events start ran on is by so_far leads trail entry from

      read_so : known ≡ log_effects (node.peer.entries ++ asked ∷ [])
      read_so =
          ap (λ (i : Input). effects_after i node) from ∙ ap (λ (e : Entry). log_effects (node.peer.entries ++ e ∷ [])) (sym so)

      granted : decision_after node.peer.entries asked ≡ decisions.Granted c.vid
      granted = ap (decision_after node.peer.entries) so ∙ c.granted

      none_read : parent_of (effects_of so_far.node.peer) c.vid.0 ≡ None
      none_read =
          ap (λ (all : List Effect). parent_of all c.vid.0) (effects_so ∙ read_so)
          ∙ none_above node.peer.entries c.by c.session c.name c.spec c.vid granted

      used : is_used (log_effects so_far.node.peer.entries) c.vid.0 ≡ true
      used = (line-log_effects so_far.node.peer.entries).known c.vid.0 ∙ ap is_some c.there

      none : parent_of (log_effects here.world.log) c.vid.0 ≡ None
      none =
          ap (λ (log : List Entry). parent_of (log_effects log) c.vid.0) front.is
          ∙ parent_stays so_far.node.peer.entries front.rest c.vid.0 used ∙ none_read

      sound : IsSoundHeader known c.vid.0 c.header
      sound = knows_headers script range events start ran on is by so_far leads trail c.vid.0 c.header
          (ap (λ (all : List Effect). header_of all c.vid.0) (sym effects_so) ∙ c.there)

      hole : (index : ℕ) → entry_made index (create_inode (inode_by c.header c.vid.0 (holes c.header.spec))) ≡ 0
      hole index =
          created_entry (λ (e : ℕ). e ≡ 0) refl (inode_by c.header c.vid.0 (holes c.header.spec)) index sound.id
          (header_long c.header c.vid.0 (holes c.header.spec) sound.of_inode)
          (All-replicate (λ (e : ℕ). IsEntry e × (e ≡ 0)) (objects_of c.header.spec) 0 (omega arith, refl))

      drawn : Draws (create_inode (inode_by c.header c.vid.0 (holes c.header.spec)))
      drawn vid index draft creates has =
          let object : inode_number c.vid.0 ≡ inode_number vid = has.object in
          let same : c.vid.0 ≡ vid = omega (arith, object) in
          subst (λ (o : Option Vid). StaysDrawnFrom here.world.hosts here.past.attempts draft.reservation.source o index
          (entry_made index (create_inode (inode_by c.header c.vid.0 (holes c.header.spec)))))
          (sym (ap (parent_of (log_effects here.world.log)) (sym same) ∙ none)) (λ fresh. hole index)

  -- what takes the place of a disk is no clone, and no new disk
  takes_place : (old : ℕ) (source : Source) → IsInPlaceOf old source → (o : Option Vid) (index entry : ℕ)
      → StaysDrawnFrom here.world.hosts here.past.attempts source o index entry
  takes_place old sources.Fresh (tag, place) o index entry = absurd (cc (place))
  takes_place old (sources.Snapshot of tag) place None index entry = λ fresh. absurd (cc (fresh))
  takes_place old (sources.Snapshot of tag) place (Some base) index entry = λ clone. absurd (cc (clone))
  takes_place old sources.Clone (tag, place) o index entry = absurd (cc (place))

  place_drawn : (session req : ℕ) (op : Op) (made : Content) (vid old : Vid)
      → tree.get so_far.node.requests req ≡ Some (record { session = session; course = Commanding op })
      → op.stage ≡ Working vid (Tagging old made) → Draws (create_inode made)
  place_drawn session req op made vid old there at of index draft creates has =
      let claims = (claims-in_run script range events start here ran trail).each on.n was seat (not_lost on.host is.up) in
      let kept = subst (IsStageKept here.world.log so_far.node.outbox so_far.node.peer.entries (length so_far.node.peer.entries)
      so_far.node.me session (opened_in session so_far.node.sessions)) at
      (claims.commands req (record { session = session; course = Commanding op }) op there refl) in
      let fits = subst (IsOpenAtStage (opened_in session so_far.node.sessions)) at
      ((disks_fit-in_run script range events start here ran trail).each on.n was seat (not_lost on.host is.up) req
      (record { session = session; course = Commanding op }) there) in
      let object : inode_number made.vid ≡ inode_number of = has.object in
      let id : made.vid ≡ of = omega (arith, object) in
      let same : kept.0.has.reservation ≡ draft.reservation
      = same_Some kept.0.has.reservation draft.reservation
      (sym kept.0.has.found
      ∙ ap (λ (v : ℕ). reservation_on (record { 0 = v }) (reservations_of (log_effects here.world.log))) (sym fits.1 ∙ id)
      ∙ draft.stands) in
      takes_place old.0 draft.reservation.source (subst (λ (r : Reservation). IsInPlaceOf old.0 r.source) same kept.0.place)
      (parent_of (log_effects here.world.log) of) index (entry_made index (create_inode made))

  module _ (session req : ℕ) (inode : Content) where
    abbrev new_work : ObjWork
    new_work = create_inode inode

    task_drawn : (number : ℕ) (done : Work) (attempt : gateways.Attempt) (status : Status) (bytes : List ℕ) (op : Op)
        → EndsWork input node so_far session req number done attempt status (Commanding op) bytes → (made : Content)
        → IsOfTask op bytes made → Draws (create_inode made)
    task_drawn number done attempt status bytes op ends made (Tagged vid old at) =
        place_drawn session req op made vid old ends.ends.request at
    task_drawn number done attempt status bytes op ends made (Copied vid ids header at same) =
        subst (λ (i : Content). Draws (create_inode i)) (sym same)
        (copies on so_far is by leads refl session req number done attempt status op bytes vid ids header ends at)

    by_case : IsOfOther (input_of_cause on.cause) on.host.node so_far session req (create_inode inode) → Draws (create_inode inode)
    by_case (WithoutEntry none) = λ vid index draft creates has. absurd (none vid index has)
    by_case (TaskCreates number done attempt status bytes op ends made same of) =
        subst Draws (sym same) (task_drawn number done attempt status bytes op ends made of)
    by_case (TaskWritesBack number done attempt status bytes op ends vid ids header at same) = absurd (cc (same))
    by_case (DecisionCreates entry op from read waits creates) = disk_drawn entry op new_work from read waits creates

    news_drawn : (moved : StepState) → RequestSteps (input_of_cause on.cause) on.host.node so_far session req (ToWork new_work) moved
        → IsNotDriven session req moved → Draws new_work
    news_drawn moved steps apart =
        by_case (comes_to_other so_far (knows_well script range events start ran on is by so_far leads trail)
        (no_object script start.world on.n on.host on.cause is.caused) session req new_work moved steps apart)

-- ---- every moment in the middle of a step

pub inodes_drawn : (script : List Statement) → RunsAreInRange script → (events : List Move) (start before : MomentWithPast)
    → run_with_past script events ≡ Some start → MomentTrail script start before → (good_id : ℕ → Bool)
    → NewClonesAreDrawn script good_id start before → NewInodesAreDrawn script good_id start before
inodes_drawn script range events start before ran trail good_id copies =
    λ on so_far is by leads same session req inode moved steps apart.
    subst (λ (m : MomentWithPast). CreatesDrawn (log_effects m.world.log) good_id m.world.hosts m.past.attempts (create_inode inode))
    (sym same)
    (news_drawn script range events start ran on is by so_far leads (subst (MomentTrail script start) same trail) good_id
    (subst (NewClonesAreDrawn script good_id start) same copies) session req inode moved steps apart)
