-- What a command of a node comes to is on disks that the node knows, and so is what it leaves open.
use Rattle.std.proofs.Common.{◌≡◌, arith, ℕ, ◌≤◌, true, false, List, length, Option, Some, None, IfSome, option_map, option_and_then, refl}
use Rattle.std.proofs.Common.{ap, subst}
use Rattle.object_id.specs.declared.entry.Entry.{Entry}
use Rattle.object_id.specs.declared.entry.Entry.TheVariants.{Format, Join, Leave, Reweight, Recovered, Reserve, Publish, Clone, Snapshot}
use Rattle.object_id.specs.declared.entry.Entry.TheVariants.{Delete, Lock, Unlock}
use Rattle.object_id.specs.declared.entry.Origin.TheVariants.{Fresh, SnapshotOf, CloneOf}
use Rattle.object_id.specs.declared.limits.TheConstants.{OBJECTS_MAX}
use Rattle.object_id.specs.declared.node.NodeId.{NodeId}
use Rattle.object_id.specs.declared.oid.Vid.{Vid}
use Rattle.object_id.specs.Spec.{objects_of}
use Rattle.inode.specs.Layout.{Content}
use Rattle.peer_proto.specs.declared.guest.VdiAsk.{VdiAsk}
use Rattle.vdi_directory.specs.declared.header.Header.{Header}
use Rattle.vdi_directory.specs.declared.effect.Effect.{Effect}
use Rattle.vdi_directory.specs.declared.decision.Decision.{Decision}
use Rattle.vdi_directory.specs.declared.decision.Decision.TheVariants as decisions
use Rattle.vdi_directory.specs.Chains.{chain_of}
use Rattle.vdi_directory.specs.Effects.{header_of}
use Rattle.guest_driver.specs.declared.disk.Disk.{Disk}
use Rattle.guest_driver.proofs.ExtentLemmas.{objects_most}
use Rattle.vdi_ops.specs.InodeWorks.{read_inode, create_inode, write_back, write_tag}
use Rattle.vdi_ops.specs.Tables.{table_in, holes, inode_by}
use Rattle.vdi_ops.specs.Op.{Task, Opening, WritingBack, Tagging, Copying, Making, Stays, Opens, Closes, OpStage, Asked, Working}
use Rattle.vdi_ops.specs.Op.{Publishing, Answered, disk_change_at, Op, OpStep}
use Rattle.vdi_ops.specs.Steps.{begin_command, tag_step, copy_step, change_without_grant, step_after_grant, step_after_decision, decided_at}
use Rattle.vdi_ops.specs.Steps.{on_decision, task_done, done_at, op_on_done}
use Rattle.vdi_ops.proofs.TableLemmas.{table_length}
use Rattle.sheep_node.specs.Changes.{outcome_of_command}
use Rattle.sheep_node.specs.Courses.{disk_after}
use Rattle.sheep_node.proofs.SoundCommands.{IsSoundHeader, HeadersAreSound}
use Rattle.sheep_node.proofs.ValidSteps.{given}
use Rattle.overlap_law.proofs.ClosedFirstStages.{begins_first}
use Rattle.overlap_law.proofs.KnownDisks.{IsKnownDisk, IsKnownInode, IsKnownTask, IsKnownChange, IsKnownStage, IsKnownOutcome, read_known}
use Rattle.overlap_law.proofs.KnownDisks.{inode_known}

module _ (known : List Effect) where
  -- ---- a command

  pub record IsKnownCommandStep (step : OpStep) : Type 0 where
    pub stage : IsKnownStage known step.op.stage
    pub outcome : IsKnownOutcome known (outcome_of_command step.act)

  pub command_begins-known : (by : NodeId) (session : ℕ) (ask : VdiAsk) (disk : Option Content) (step : OpStep)
      → begin_command by session ask disk ≡ Some step → IsKnownCommandStep step
  command_begins-known by session ask disk step is =
      let (entry, same) = begins_first by session ask disk step is in
      subst IsKnownCommandStep same (record { stage = tt; outcome = tt })

  -- an inode that is read is the disk's by its header
  inode_read : (vid : ℕ) (header : Header) (ids bytes : List ℕ) → IsKnownDisk known vid header.spec
      → IsKnownInode known (inode_by header vid (table_in ids header.spec bytes))
  inode_read vid header ids bytes disk =
      let long : length (table_in ids header.spec bytes) ≡ objects_of header.spec = table_length ids header.spec bytes in
      let most : objects_of header.spec ≤ OBJECTS_MAX = objects_most header.spec disk.spec_valid in
      record { disk = disk; count = omega (arith, long, most) }

  task_done-known : (op : Op) (vid : Vid) (bytes : List ℕ) (task : Task) → IsKnownTask known vid task
      → IsKnownCommandStep (task_done op vid bytes task)
  task_done-known op vid bytes (Opening true ids header) is = record { stage = inode_read vid.0 header ids bytes is; outcome = tt }
  task_done-known op vid bytes (Opening false ids header) is =
      let inode = inode_by header vid.0 (table_in ids header.spec bytes) in
      record {
        stage = inode_read vid.0 header ids bytes is;
        outcome = inode_known known vid.0 header.spec (write_back inode bytes) is refl refl tt;
      }
  task_done-known op vid bytes (WritingBack inode) is = record { stage = is; outcome = tt }
  task_done-known op vid bytes (Tagging old inode) is =
      record { stage = is; outcome = inode_known known inode.vid inode.spec (create_inode inode) is.disk refl refl refl }
  task_done-known op vid bytes (Copying ids header) is =
      let inode = inode_by header vid.0 (table_in ids header.spec bytes) in
      record { stage = tt; outcome = inode_known known vid.0 header.spec (create_inode inode) is refl refl refl }
  task_done-known op vid bytes (Making entry opened) is = record { stage = is; outcome = tt }

  pub command_goes_on-known : (bytes : List ℕ) (op : Op) (step : OpStep) → op_on_done bytes op ≡ Some step → IsKnownStage known op.stage
      → IsKnownCommandStep step
  unfolding op_on_done
  command_goes_on-known bytes op step next is = by_stage op.stage next is
    where
      by_stage : (stage : OpStage) → done_at bytes op stage ≡ Some step → IsKnownStage known stage → IsKnownCommandStep step
      by_stage (Asked entry) next is = absurd (cc (next))
      by_stage (Working vid task) next is = given IsKnownCommandStep next (task_done-known op vid bytes task is)
      by_stage (Publishing entry opened) next is = absurd (cc (next))
      by_stage (Answered change) next is = absurd (cc (next))

  -- ---- behind a decision

  without_grant-known : (entry : Entry) → IsKnownChange known (change_without_grant entry)
  without_grant-known (Format members) = tt
  without_grant-known (Join node zone vnodes) = tt
  without_grant-known (Leave node) = tt
  without_grant-known (Reweight node vnodes) = tt
  without_grant-known (Recovered node epoch) = tt
  without_grant-known (Reserve by session name origin) = tt
  without_grant-known (Publish by vid) = tt
  without_grant-known (Clone by vid) = tt
  without_grant-known (Snapshot by old vid) = tt
  without_grant-known (Delete by session name tag) = tt
  without_grant-known (Lock by session name tag) = tt
  without_grant-known (Unlock by session vid) = tt

  module _ (op : Op) (vid : Vid) (disk : Option Content) (header : Header) (step : OpStep) (is : IsKnownDisk known vid.0 header.spec)
      (opened : IfSome disk (IsKnownInode known)) where
    abbrev Granted : Entry → Type 0
    Granted entry = step_after_grant op vid (chain_of known vid.0) disk entry header ≡ Some step → IsKnownCommandStep step

    tagged-known : (tag : List ℕ) (old : Content) → IsKnownInode known old → IsKnownCommandStep (tag_step op vid tag header old)
    tagged-known tag old was =
        record {
          stage = record { disk = is; count = was.count };
          outcome = inode_known known old.vid old.spec (write_tag old tag) was.disk refl refl tt;
        }

    granted-known : (entry : Entry) → Granted entry
    granted-known (Format members) next = absurd (cc (next))
    granted-known (Join node zone vnodes) next = absurd (cc (next))
    granted-known (Leave node) next = absurd (cc (next))
    granted-known (Reweight node vnodes) next = absurd (cc (next))
    granted-known (Recovered node epoch) next = absurd (cc (next))
    granted-known (Reserve by session name (Fresh spec)) next =
        given IsKnownCommandStep next
        (record {
          stage = tt;
          outcome = inode_known known vid.0 header.spec (create_inode (inode_by header vid.0 (holes header.spec))) is refl refl refl;
        })
    granted-known (Reserve by session name (SnapshotOf tag)) next = by_disk disk opened next
      where
        by_disk : (disk : Option Content) → IfSome disk (IsKnownInode known) → option_map (tag_step op vid tag header) disk ≡ Some step
            → IsKnownCommandStep step
        by_disk None opened next = absurd (cc (next))
        by_disk (Some old) opened next = given IsKnownCommandStep next (tagged-known tag old opened)
    granted-known (Reserve by session name (CloneOf base tag)) next = by_parent header.parent next
      where
        by_parent : (parent : Option Vid) → option_map (copy_step op vid (chain_of known vid.0) header) parent ≡ Some step
            → IsKnownCommandStep step
        by_parent None next = absurd (cc (next))
        by_parent (Some parent) next =
            given IsKnownCommandStep next (record {
              stage = is;
              outcome = read_known known (read_inode parent.0 header.spec) is.spec_valid.policy refl;
            })
    granted-known (Publish by made) next = absurd (cc (next))
    granted-known (Clone by made) next = absurd (cc (next))
    granted-known (Snapshot by old made) next = absurd (cc (next))
    granted-known (Delete by session name tag) next = given IsKnownCommandStep next (record { stage = tt; outcome = tt })
    granted-known (Lock by session name tag) next =
        given IsKnownCommandStep next (record {
          stage = is;
          outcome = read_known known (read_inode vid.0 header.spec) is.spec_valid.policy refl;
        })
    granted-known (Unlock by session old) next = given IsKnownCommandStep next (record { stage = tt; outcome = tt })

  -- a header that is known is of a disk that is
  header_known : (vid : ℕ) (header : Header) → IsSoundHeader known vid header → header_of known vid ≡ Some header
      → IsKnownDisk known vid header.spec
  header_known vid header sound there =
      record { id = sound.id; spec_valid = sound.of_inode.spec; made = ap (option_map (λ (header : Header). header.spec)) there }

  module _ (disk : Option Content) (op : Op) (step : OpStep) (headers : HeadersAreSound known)
      (opened : IfSome disk (IsKnownInode known)) where
    decision-known : (entry : Entry) (decision : Decision) → step_after_decision known disk op entry decision ≡ Some step
        → IsKnownCommandStep step
    decision-known entry decisions.None next = given IsKnownCommandStep next (record { stage = without_grant-known entry; outcome = tt })
    decision-known entry (decisions.Granted vid) next = by_header (header_of known vid.0) refl next
      where
        by_header : (o : Option Header) → header_of known vid.0 ≡ o
            → option_and_then (step_after_grant op vid (chain_of known vid.0) disk entry) o ≡ Some step → IsKnownCommandStep step
        by_header None none next = absurd (cc (next))
        by_header (Some header) there next =
            granted-known op vid disk header step (header_known vid.0 header (headers vid.0 header there) there) opened entry next
    decision-known entry (decisions.Refused cause) next =
        given IsKnownCommandStep next (record { stage = without_grant-known entry; outcome = tt })

    pub command_decided-known : (decision : Decision) → on_decision known disk decision op ≡ Some step → IsKnownStage known op.stage
        → IsKnownCommandStep step
    unfolding on_decision
    command_decided-known decision next is = by_stage op.stage next is
      where
        by_opened : (entry : Entry) (made : Option Content) → IfSome made (IsKnownInode known)
            → decided_at known disk decision op (Publishing entry made) ≡ Some step
            → IsKnownCommandStep step
        by_opened entry None is next = given IsKnownCommandStep next (record { stage = tt; outcome = tt })
        by_opened entry (Some inode) is next = given IsKnownCommandStep next (record { stage = is; outcome = tt })

        by_stage : (stage : OpStage) → decided_at known disk decision op stage ≡ Some step → IsKnownStage known stage
            → IsKnownCommandStep step
        by_stage (Asked entry) next is = decision-known entry decision next
        by_stage (Working vid task) next is = absurd (cc (next))
        by_stage (Publishing entry made) next is = by_opened entry made is next
        by_stage (Answered change) next is = absurd (cc (next))

  -- what a command leaves open
  pub left_open : (stage : OpStage) (disk : Option Disk) → IsKnownStage known stage
      → IfSome disk (λ (disk : Disk). IsKnownInode known disk.inode)
      → IfSome (disk_after (disk_change_at stage) disk) (λ (disk : Disk). IsKnownInode known disk.inode)
  left_open (Asked entry) disk so was = was
  left_open (Working vid task) disk so was = was
  left_open (Publishing entry opened) disk so was = was
  left_open (Answered Stays) disk so was = was
  left_open (Answered (Opens snapshot inode)) disk so was = so
  left_open (Answered Closes) disk so was = tt
