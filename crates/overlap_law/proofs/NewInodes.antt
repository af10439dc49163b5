-- In the middle of a step of a run in range, an inode that a command creates next names none of its disk's own objects: a new disk has
-- holes alone, one that takes the place of another has what that one had, and a clone has what it read of those above it. So, of ids that a
-- test calls good, it names what is made.
use Rattle.std.proofs.Common.{◌≡◌, ◌≢◌, ◌⊎◌, ⊎_elim, arith, ℕ, Bool, true, false, All, List, length, slice_index, Some, refl, sym, ap}
use Rattle.std.proofs.Common.{subst, ◌∙◌}
use Rattle.std.specs.FinMap as tree
use Rattle.std.proofs.lemmas.List.Elements.{All-replicate, All-weaker}
use Rattle.object_id.specs.Oid.{IsVid, inode_number}
use Rattle.object_id.specs.Spec.{objects_of}
use Rattle.inode.specs.Layout.{Content, IsEntry, header_bytes, unread_zeros}
use Rattle.inode.specs.declared.layout.TheConstants.{INODE_HEADER_BYTES}
use Rattle.gateway.specs.declared.message.Status.{Status}
use Rattle.gateway.specs.Attempt as gateways
use Rattle.gateway.specs.State.{Work}
use Rattle.cluster_script.specs.declared.statement.Statement.{Statement}
use Rattle.vdi_directory.specs.declared.effect.Effect.{Effect}
use Rattle.vdi_directory.specs.declared.header.Header.{Header}
use Rattle.vdi_directory.specs.Decisions.{log_effects}
use Rattle.vdi_directory.specs.Effects.{header_of}
use Rattle.peer_service.specs.State.{effects_of}
use Rattle.peer_proto.specs.declared.work.ObjWork.{ObjWork}
use Rattle.vdi_ops.specs.InodeWorks.{create_inode}
use Rattle.vdi_ops.specs.Op.{Op}
use Rattle.vdi_ops.specs.Kept.{IsInodeHeader}
use Rattle.vdi_ops.specs.Tables.{holes, table_in, inode_by}
use Rattle.vdi_ops.proofs.TableLemmas.{blank_fills, header_length}
use Rattle.sheep_node.specs.declared.course.Course.TheVariants.{Commanding}
use Rattle.sheep_node.specs.declared.input.Input.{Input}
use Rattle.sheep_node.specs.Changes.{EndsWork, ToWork, RequestSteps}
use Rattle.sheep_node.specs.SoundWorks.{IsSoundStage}
use Rattle.sheep_node.specs.State.{Node}
use Rattle.sheep_node.specs.StepState.{StepState}
use Rattle.sheep_world.specs.NodeCauses.{input_of_cause}
use Rattle.sheep_world.specs.RunsWithAsks.{Move}
use Rattle.overlap_law.specs.MomentChanges.{MomentTrail, RunsAreInRange}
use Rattle.overlap_law.specs.NamedWorks.{NamesWhatIsMade, NewInodesNameWhatIsMade, AboveIsGood}
use Rattle.overlap_law.specs.OpenTables.{CallsLive}
use Rattle.overlap_law.specs.Past.{MomentWithPast, run_with_past}
use Rattle.overlap_law.specs.StepMoments.{SteppingNode, IsStepping, StepsByChanges, LeadsInStep, first_in_step, moment_in_step}
use Rattle.overlap_law.specs.Tables.{StandsFor, EntriesAreMade, TablesAreMade}
use Rattle.overlap_law.specs.ToDo.{entry_made}
use Rattle.overlap_law.proofs.CausedWorks.{no_object}
use Rattle.overlap_law.proofs.ChainTables.{IsOtherId, at_index}
use Rattle.overlap_law.proofs.CreatedEntries.{created_at, created_entry}
use Rattle.overlap_law.proofs.DriverEntries.{names_none}
use Rattle.overlap_law.proofs.KnownDiskSteps.{effects_after}
use Rattle.overlap_law.proofs.KnownTables.{table_so}
use Rattle.overlap_law.proofs.NewEntries.{EntriesStand, tagged_stand, copied_stand}
use Rattle.overlap_law.proofs.OpeningReads.{knows_well, knows_tables, knows_read, knows_headers}
use Rattle.overlap_law.proofs.OtherWorks.{IsOfTask, Tagged, Copied}
use Rattle.overlap_law.proofs.ReadCommands.{IsTabledStage}
use Rattle.overlap_law.proofs.WrittenBack.{header_long}
use Rattle.overlap_law.proofs.StepsToWorks.{IsNotDriven, IsOfOther, WithoutEntry, TaskCreates, TaskWritesBack, DecisionCreates}
use Rattle.overlap_law.proofs.StepsToWorks.{comes_to_other}

-- no id
abbrev pub no_id : ℕ → Bool
no_id vid = false

-- an entry of the table of a disk that isn't its own
abbrev IsNotOwn : ℕ → ℕ → Type 0
IsNotOwn vid entry = IsEntry entry × (entry ≢ vid)

-- an inode that names none of its disk's own objects, and fills its header
record NamesNoOwn (inode : Content) : Type 0 where
  id : IsVid inode.vid
  head : length (header_bytes inode (unread_zeros inode)) ≡ INODE_HEADER_BYTES
  entries : All (IsNotOwn inode.vid) inode.table

no_hole : (vid : ℕ) → IsVid vid → IsNotOwn vid 0
no_hole vid id = (omega arith, λ none. let some = id.0 in absurd (omega (arith, some, none)))

new_names : (header : Header) (vid : ℕ) → IsVid vid → IsInodeHeader header → NamesNoOwn (inode_by header vid (holes header.spec))
new_names header vid id is = record {
  id = id;
  head = header_long header vid (holes header.spec) is;
  entries = All-replicate (IsNotOwn vid) (objects_of header.spec) 0 (no_hole vid id);
}

copy_names : (header : Header) (vid : ℕ) (ids bytes : List ℕ) → IsVid vid → IsInodeHeader header → All (IsOtherId vid) ids
    → NamesNoOwn (inode_by header vid (table_in ids header.spec bytes))
copy_names header vid ids bytes id is others =
    let kept = table_so (IsNotOwn vid) header.spec ids bytes
    (All-weaker (IsOtherId vid) (IsNotOwn vid) (λ other of. (of.0.1, of.1)) ids others) in
    record {
      id = id;
      head = header_long header vid (table_in ids header.spec bytes) is;
      entries = All-weaker (λ (entry : ℕ). (entry ≡ 0) ⊎ IsNotOwn vid entry) (IsNotOwn vid) (λ entry. ⊎_elim
          (λ (none : entry ≡ 0). subst (IsNotOwn vid) (sym none) (no_hole vid id))
          (λ (of : IsNotOwn vid entry). of)) (table_in ids header.spec bytes) kept;
    }

module _ (script : List Statement) (range : RunsAreInRange script) (events : List Move) (start : MomentWithPast)
    (ran : run_with_past script events ≡ Some start) (on : SteppingNode) (is : IsStepping script start.world on)
    (by : StepsByChanges on.cause) (so_far : StepState) (leads : LeadsInStep on (first_in_step on) so_far)
    (trail : MomentTrail script start (moment_in_step script on start so_far)) (live good_id : ℕ → Bool)
    (calls : CallsLive live (moment_in_step script on start so_far).world.log (moment_in_step script on start so_far).past.attempts)
    (above_good : AboveIsGood (log_effects (moment_in_step script on start so_far).world.log) good_id)
    (entries_made : EntriesAreMade (log_effects (moment_in_step script on start so_far).world.log) live good_id
    (moment_in_step script on start so_far).past.attempts)
    (tables_made : TablesAreMade (log_effects (moment_in_step script on start so_far).world.log) good_id
    (moment_in_step script on start so_far).world.hosts (moment_in_step script on start so_far).past.attempts) where
  abbrev here : MomentWithPast
  here = moment_in_step script on start so_far

  abbrev input : Input
  input = input_of_cause on.cause

  abbrev node : Node
  node = on.host.node

  abbrev known : List Effect
  known = effects_after (input_of_cause on.cause) on.host.node

  abbrev Names : ObjWork → Type 0
  Names =
      NamesWhatIsMade (log_effects (moment_in_step script on start so_far).world.log) good_id
      (moment_in_step script on start so_far).past.attempts so_far.node.peer.epoch

  abbrev Stand : Content → Type 0
  Stand =
      EntriesStand (log_effects (moment_in_step script on start so_far).world.log) good_id
      (moment_in_step script on start so_far).past.attempts so_far.node.peer.epoch

  names_inode : (inode : Content) → NamesNoOwn inode → Stand inode → Names (create_inode inode)
  names_inode inode names stand = record {
    each = λ vid index has good some.
        let object : inode_number inode.vid ≡ inode_number vid = has.object in
        let same : inode.vid ≡ vid = omega (arith, object) in
        let entry : entry_made index (create_inode inode) ≡ slice_index inode.table index
        = created_at inode index names.id names.head
        (All-weaker (IsNotOwn inode.vid) IsEntry (λ (entry : ℕ) (of : IsNotOwn inode.vid entry). of.0) inode.table names.entries) in
        subst (λ (v : ℕ). StandsFor (log_effects here.world.log) here.past.attempts v index so_far.node.peer.epoch
        (entry_made index (create_inode inode))) same
        (subst (StandsFor (log_effects here.world.log) here.past.attempts inode.vid index so_far.node.peer.epoch) (sym entry)
        (stand index (ap good_id same ∙ good) (λ none. some (entry ∙ none))));
    own = λ vid index has is_vid says.
        let object : inode_number inode.vid ≡ inode_number vid = has.object in
        let same : inode.vid ≡ vid = omega (arith, object) in
        let id : IsVid inode.vid = subst IsVid (sym same) is_vid in
        let none : 0 ≢ inode.vid = (no_hole inode.vid id).1 in
        absurd (created_entry (λ (entry : ℕ). entry ≢ inode.vid) none inode index id names.head names.entries (says ∙ sym same));
  }

  module _ (session req : ℕ) (inode : Content) where
    abbrev work : ObjWork
    work = create_inode inode

    new_stands : (header : Header) (vid : ℕ) → Stand (inode_by header vid (holes header.spec))
    new_stands header vid index good some =
        absurd (some (at_index (λ (entry : ℕ). entry ≡ 0) refl (holes header.spec) index
        (All-replicate (λ (entry : ℕ). entry ≡ 0) (objects_of header.spec) 0 refl)))

    of_task : (op : Op) (bytes : List ℕ) (made : Content)
        → tree.get so_far.node.requests req ≡ Some (record { session = session; course = Commanding op })
        → IsOfTask op bytes made → NamesNoOwn made
    of_task op bytes made there (Tagged vid old at) =
        let sound = subst IsSoundStage at ((knows_well script range events start ran on is by so_far leads trail).sound.courses req
        (record { session = session; course = Commanding op }) there) in
        let taken = subst (IsTabledStage known) at ((knows_tables script range events start ran on is by so_far leads trail).courses req
        (record { session = session; course = Commanding op }) there) in
        record {
          id = sound.0.ids.vid;
          head = header_length made (unread_zeros made) (blank_fills made sound.1 sound.2);
          entries = λ k d within. (sound.0.ids.entries k d within, taken.0.1 k d within);
        }
    of_task op bytes made there (Copied vid ids header at same) =
        let sound = subst IsSoundStage at ((knows_well script range events start ran on is by so_far leads trail).sound.courses req
        (record { session = session; course = Commanding op }) there) in
        let others = subst (IsTabledStage known) at ((knows_tables script range events start ran on is by so_far leads trail).courses req
        (record { session = session; course = Commanding op }) there) in
        subst NamesNoOwn (sym same) (copy_names header vid.0 ids bytes sound.0 sound.1 others.0)

    task_stands : (number : ℕ) (done : Work) (attempt : gateways.Attempt) (status : Status) (op : Op) (bytes : List ℕ) (made : Content)
        → EndsWork input node so_far session req number done attempt status (Commanding op) bytes → IsOfTask op bytes made → Stand made
    task_stands number done attempt status op bytes made ends (Tagged vid old at) =
        tagged_stand script range events start ran on is by so_far leads trail good_id above_good session req number done attempt status op
        bytes ends vid old made at tables_made
    task_stands number done attempt status op bytes made ends (Copied vid ids header at same) =
        subst Stand (sym same)
        (copied_stand script range events start ran on is by so_far leads trail good_id above_good session req number done attempt status op
        bytes ends vid ids header at live calls entries_made)

    by_case : IsOfOther (input_of_cause on.cause) on.host.node so_far session req (create_inode inode) → Names (create_inode inode)
    by_case (WithoutEntry none) =
        names_none (log_effects here.world.log) good_id here.past.attempts so_far.node.peer.epoch work none
    by_case (TaskCreates number done attempt status bytes op ends made same of) =
        subst Names (sym same) (names_inode made (of_task op bytes made ends.ends.request of)
        (task_stands number done attempt status op bytes made ends of))
    by_case (TaskWritesBack number done attempt status bytes op ends vid ids header at same) = absurd (cc (same))
    by_case (DecisionCreates entry op from read waits creates) =
        let so = ap effects_of read ∙ knows_read script range events start ran on is by so_far leads trail entry from in
        let sound = knows_headers script range events start ran on is by so_far leads trail creates.vid.0 creates.header
        (ap (λ (effects : List Effect). header_of effects creates.vid.0) (sym so) ∙ creates.there) in
        subst Names (sym creates.same) (names_inode (inode_by creates.header creates.vid.0 (holes creates.header.spec))
        (new_names creates.header creates.vid.0 sound.id sound.of_inode) (new_stands creates.header creates.vid.0))

    steps_name : (moved : StepState) → RequestSteps (input_of_cause on.cause) on.host.node so_far session req (ToWork work) moved
        → IsNotDriven session req moved → Names work
    steps_name moved steps apart =
        by_case (comes_to_other so_far (knows_well script range events start ran on is by so_far leads trail)
        (no_object script start.world on.n on.host on.cause is.caused) session req work moved steps apart)

-- ---- every moment in the middle of a step

pub inodes_name : (script : List Statement) → RunsAreInRange script → (events : List Move) (start before : MomentWithPast)
    → run_with_past script events ≡ Some start → MomentTrail script start before → (live good_id : ℕ → Bool)
    → CallsLive live before.world.log before.past.attempts → AboveIsGood (log_effects before.world.log) good_id
    → EntriesAreMade (log_effects before.world.log) live good_id before.past.attempts
    → TablesAreMade (log_effects before.world.log) good_id before.world.hosts before.past.attempts
    → NewInodesNameWhatIsMade script good_id start before
inodes_name script range events start before ran trail live good_id calls above_good entries_made tables_made =
    λ on so_far is by leads same session req inode moved steps apart.
    subst (λ (m : MomentWithPast). NamesWhatIsMade (log_effects m.world.log) good_id m.past.attempts so_far.node.peer.epoch
    (create_inode inode)) (sym same)
    (steps_name script range events start ran on is by so_far leads (subst (MomentTrail script start) same trail) live good_id
    (subst (λ (m : MomentWithPast). CallsLive live m.world.log m.past.attempts) same calls)
    (subst (λ (m : MomentWithPast). AboveIsGood (log_effects m.world.log) good_id) same above_good)
    (subst (λ (m : MomentWithPast). EntriesAreMade (log_effects m.world.log) live good_id m.past.attempts) same entries_made)
    (subst (λ (m : MomentWithPast). TablesAreMade (log_effects m.world.log) good_id m.world.hosts m.past.attempts) same tables_made)
    session req inode moved steps apart)

-- of no id nothing is asked before
pub inodes_name_own : (script : List Statement) → RunsAreInRange script → (events : List Move) (start before : MomentWithPast)
    → run_with_past script events ≡ Some start → MomentTrail script start before → NewInodesNameWhatIsMade script no_id start before
inodes_name_own script range events start before ran trail =
    inodes_name script range events start before ran trail (λ oid. true) no_id (λ oid some alive. refl)
    (λ elder vid above good. absurd (cc (good)))
    (record { each = λ j attempt there vid index object alive good. absurd (cc (good)) })
    (record { each = λ n host at up number index session disk got opened good. absurd (cc (good)) })
