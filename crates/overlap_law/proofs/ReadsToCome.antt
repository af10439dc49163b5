-- In each run in range, where a command has read an inode in the middle of a step, as it opens a disk or makes a clone, each entry that it
-- read is one that the inode may come to have, if the inode was good as the event began.
use Rattle.std.proofs.Common.{◌≡◌, arith, ℕ, suc, zero, ◌+◌, ◌*◌, ◌<◌, Bool, true, false, List, Some, refl, sym, ap, subst, ◌∙◌}
use Rattle.std.proofs.lemmas.Option.{same_Some}
use Rattle.object_id.specs.declared.oid.Vid.{Vid}
use Rattle.object_id.specs.Fields.{u32_at}
use Rattle.object_id.specs.Oid.{IsVid, IsOid, inode_number}
use Rattle.object_id.specs.Spec.{objects_of}
use Rattle.inode.specs.declared.layout.TheConstants.{INODE_HEADER_BYTES}
use Rattle.cluster_script.specs.declared.statement.Statement.{Statement}
use Rattle.vdi_directory.specs.declared.header.Header.{Header}
use Rattle.vdi_directory.specs.Dead.{is_dead}
use Rattle.vdi_directory.specs.Decisions.{log_effects}
use Rattle.peer_proto.specs.declared.work.ObjWork.{ObjWork}
use Rattle.peer_proto.specs.Work.{oid_of}
use Rattle.gateway.specs.declared.message.Status.{Status}
use Rattle.gateway.specs.Attempt as gateways
use Rattle.gateway.specs.State.{Work}
use Rattle.vdi_ops.specs.declared.act.OpAct.{OpAct}
use Rattle.vdi_ops.specs.declared.act.OpAct.TheVariants as op_acts
use Rattle.vdi_ops.specs.InodeWorks.{read_inode}
use Rattle.vdi_ops.specs.Op.{Task, Opening, WritingBack, Tagging, Copying, Making, OpStage, Asked, Working, Publishing, Answered, Op}
use Rattle.vdi_ops.specs.Op.{IsWorkOfTask, IsAwaitedAtOpStage}
use Rattle.sheep_node.specs.declared.course.Course.TheVariants.{Commanding}
use Rattle.sheep_node.specs.declared.input.Input.{Input}
use Rattle.sheep_node.specs.Changes.{EndsWork}
use Rattle.sheep_node.specs.State.{Node}
use Rattle.sheep_node.specs.StepState.{StepState}
use Rattle.sheep_world.specs.NodeCauses.{input_of_cause}
use Rattle.sheep_world.specs.RunsWithAsks.{Move}
use Rattle.overlap_law.specs.Fates.{IsCreated}
use Rattle.overlap_law.specs.Grants.{published_in}
use Rattle.overlap_law.specs.InodesRead.{ReadsInodeAt, TaskReadsInode, IsOfOneToCome, ReadsAreToCome}
use Rattle.overlap_law.specs.MomentChanges.{MomentTrail, RunsAreInRange}
use Rattle.overlap_law.specs.Past.{MomentWithPast, run_with_past}
use Rattle.overlap_law.specs.StepMoments.{SteppingNode, IsStepping, StepsByChanges, LeadsInStep, first_in_step, moment_in_step}
use Rattle.overlap_law.specs.ToldPieces.{ToldPiecesAreSince}
use Rattle.overlap_law.proofs.DoneWorks.{wanted}
use Rattle.overlap_law.proofs.EntriesToCome.{entry_to_come}
use Rattle.overlap_law.proofs.OpeningReads.{step_known, knows_well}
use Rattle.overlap_law.proofs.ReadInodesCreated.{inode_created, inode_was_created}

-- the id of an inode that is an object is one
pub vid_in_range : (vid : ℕ) → IsOid (inode_number vid) → IsVid vid
vid_in_range zero is = absurd (is.2 refl)
vid_in_range (suc vid) is = let below = is.0 in let free = is.1.1 in (omega arith, omega (arith, below, free))

module _ (script : List Statement) (range : RunsAreInRange script) (events : List Move) (start : MomentWithPast)
    (ran : run_with_past script events ≡ Some start) (stepping : SteppingNode) (is : IsStepping script start.world stepping)
    (by : StepsByChanges stepping.cause) (so_far : StepState) (leads : LeadsInStep stepping (first_in_step stepping) so_far)
    (trail : MomentTrail script start (moment_in_step script stepping start so_far)) (good : ℕ → Bool)
    (told : ToldPiecesAreSince (log_effects start.world.log) good start.world.hosts start.world.wire start.past.attempts) where
  abbrev here : MomentWithPast
  here = moment_in_step script stepping start so_far

  abbrev input : Input
  input = input_of_cause stepping.cause

  abbrev node : Node
  node = stepping.host.node

  module _ (session req number : ℕ) (work : Work) (attempt : gateways.Attempt) (status : Status) (op : Op) (bytes : List ℕ)
      (ends : EndsWork input node so_far session req number work attempt status (Commanding op) bytes) (vid : Vid) (header : Header)
      (reads : ReadsInodeAt op.stage vid header) where
    -- ---- which inode is read

    task_so : (own : Vid) (task : Task) (asked : ObjWork) → TaskReadsInode own task vid header → IsWorkOfTask own task asked
        → asked ≡ read_inode vid.0 header.spec
    task_so own (Opening snapshot ids has) asked (same, header_so) of = of ∙ (λ i. read_inode (same i).0 (header_so i).spec)
    task_so own (WritingBack inode) asked reads of = absurd reads
    task_so own (Tagging old inode) asked reads of = absurd reads
    task_so own (Copying ids has) asked (parent, header_so) of =
        let same : of.vid ≡ vid = same_Some of.vid vid (sym of.there ∙ parent) in
        of.work_of ∙ (λ i. read_inode (same i).0 (header_so i).spec)
    task_so own (Making entry opened) asked reads of = absurd reads

    abbrev work_in : ObjWork → OpAct → ObjWork
    work_in none (op_acts.Append entry) = none
    work_in none (op_acts.Work work) = work
    work_in none (op_acts.Reply reply) = none

    stage_so : (stage : OpStage) → ReadsInodeAt stage vid header → IsAwaitedAtOpStage (op_acts.Work work.work) stage
        → work.work ≡ read_inode vid.0 header.spec
    stage_so (Asked entry) reads wants = absurd reads
    stage_so (Working own task) reads (asked, acts, of) = ap (work_in work.work) acts ∙ task_so own task asked reads of
    stage_so (Publishing entry opened) reads wants = absurd reads
    stage_so (Answered change) reads wants = absurd reads

    work_so : work.work ≡ read_inode vid.0 header.spec
    work_so =
        let well = knows_well script range events start ran stepping is by so_far leads trail in
        stage_so op.stage reads
        (wanted (step_known script range events start ran stepping is by so_far leads trail).sound so_far session req number work attempt
        status (Commanding op) bytes ends well.waits (well.sound.open_works req work ends.ends.learns.there))

    valid : IsVid vid.0
    valid =
        let well = knows_well script range events start ran stepping is by so_far leads trail in
        vid_in_range vid.0
        (subst (λ (w : ObjWork). IsOid (oid_of w)) work_so (well.sound.open_works req work ends.ends.learns.there).range.oid)

    -- ---- an entry

    pub entry_read_is_to_come : good (inode_number vid.0) ≡ true → (index : ℕ) → index < objects_of header.spec
        → IsOfOneToCome here.world.hosts here.past.attempts so_far.node.peer.epoch vid.0 index
        (u32_at (INODE_HEADER_BYTES + 4 * index) bytes)
    entry_read_is_to_come is_good index within =
        let created = inode_created script range events start ran stepping is by so_far leads trail session req op ends.ends.request vid
        header reads in
        entry_to_come script range events start ran stepping is by so_far leads trail good told session req number work attempt status
        (Commanding op) bytes ends vid.0 header.spec work_so valid refl is_good (published_in here.world.log vid.0) index created within

-- ---- every moment in the middle of a step

pub reads_to_come : (script : List Statement) → RunsAreInRange script → (events : List Move) (start before : MomentWithPast)
    → run_with_past script events ≡ Some start → MomentTrail script start before → (good good_id : ℕ → Bool)
    → ((vid epoch : ℕ) → IsVid vid → good_id vid ≡ true → is_dead (log_effects before.world.log) vid ≡ false
    → IsCreated start.past.attempts (inode_number vid) epoch → good (inode_number vid) ≡ true)
    → ToldPiecesAreSince (log_effects start.world.log) good start.world.hosts start.world.wire start.past.attempts
    → ReadsAreToCome script good_id start before
reads_to_come script range events start before ran trail good good_id goods told = λ stepping so_far is by leads same.
    λ session req number work attempt status op bytes vid header index ends reads is_good alive within.
    let way = subst (MomentTrail script start) same trail in
    let valid_id = valid script range events start ran stepping is by so_far leads way good told session req number work attempt status op
    bytes ends vid header reads in
    let created = inode_was_created script range events start ran stepping is by so_far leads way session req op ends.ends.request vid
    header reads in
    subst (λ (m : MomentWithPast). IsOfOneToCome m.world.hosts m.past.attempts so_far.node.peer.epoch vid.0 index
    (u32_at (INODE_HEADER_BYTES + 4 * index) bytes)) (sym same)
    (entry_read_is_to_come script range events start ran stepping is by so_far leads way good told session req number work attempt
    status op bytes ends vid header reads (goods vid.0 (published_in start.world.log vid.0) valid_id is_good alive created) index within)
