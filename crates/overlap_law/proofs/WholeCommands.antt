-- Each write of a command goes to whole units of an inode: a tag lies in the header, and what is written back is the header and all
-- entries that the disk has.
use Rattle.std.proofs.Common.{◌≡◌, arith, ℕ, ◌+◌, ◌*◌, ◌<◌, ◌≤◌, true, false, List, length, drop, Option, Some, None, IfSome, option_map}
use Rattle.std.proofs.Common.{option_and_then, sym, ◌∙◌}
use Rattle.std.proofs.lemmas.List.{length-append, length-drop}
use Rattle.std.proofs.lemmas.Option.{same_Some}
use Rattle.object_id.specs.declared.entry.Entry.{Entry}
use Rattle.object_id.specs.declared.entry.Entry.TheVariants.{Format, Join, Leave, Reweight, Recovered, Reserve, Publish, Clone, Snapshot}
use Rattle.object_id.specs.declared.entry.Entry.TheVariants.{Delete, Lock, Unlock}
use Rattle.object_id.specs.declared.entry.Origin.TheVariants.{Fresh, SnapshotOf, CloneOf}
use Rattle.object_id.specs.declared.limits.TheConstants.{OBJECTS_MAX}
use Rattle.object_id.specs.declared.node.NodeId.{NodeId}
use Rattle.object_id.specs.declared.oid.Kind.TheVariants.{Inode}
use Rattle.object_id.specs.declared.oid.Vid.{Vid}
use Rattle.object_id.specs.Oid.{kind_of, inode_number}
use Rattle.object_id.specs.Spec.{IsName, objects_of}
use Rattle.inode.specs.Layout.{Content, IsFieldText, header_bytes, unread_zeros}
use Rattle.inode.specs.declared.layout.TheConstants.{INODE_BYTES, INODE_HEADER_BYTES, TEXT_BYTES}
use Rattle.peer_proto.specs.declared.guest.VdiAsk.{VdiAsk}
use Rattle.vdi_directory.specs.declared.effect.Effect.{Effect}
use Rattle.vdi_directory.specs.declared.header.Header.{Header}
use Rattle.vdi_directory.specs.declared.decision.Decision.{Decision}
use Rattle.vdi_directory.specs.declared.decision.Decision.TheVariants as decisions
use Rattle.vdi_directory.specs.Chains.{chain_of}
use Rattle.vdi_directory.specs.Effects.{header_of}
use Rattle.guest_driver.proofs.ExtentLemmas.{objects_most}
use Rattle.vdi_ops.specs.Entries.{first_entry}
use Rattle.vdi_ops.specs.InodeWorks.{written_bytes, written_back, write_back, write_tag}
use Rattle.vdi_ops.specs.Kept.{IsInodeHeader, EntryHasTag}
use Rattle.vdi_ops.specs.Tables.{table_in, inode_by}
use Rattle.vdi_ops.specs.Op.{Task, Opening, WritingBack, Tagging, Copying, Making, OpStage, Asked, Working, Publishing, Answered, Op}
use Rattle.vdi_ops.specs.Op.{OpStep, bytes_of_task, op_stage_bytes, op_bytes_wanted}
use Rattle.vdi_ops.specs.Steps.{first_step, begin_command, tag_step, copy_step, step_after_grant, step_after_decision, decided_at}
use Rattle.vdi_ops.specs.Steps.{on_decision, task_done, done_at, op_on_done}
use Rattle.vdi_ops.proofs.TableLemmas.{header_length, blank_fills}
use Rattle.vdi_ops.proofs.WorkLemmas.{field_text, field_tag}
use Rattle.sheep_node.specs.Changes.{outcome_of_command}
use Rattle.sheep_node.specs.SoundWorks.{IsSoundTaskOn, IsSoundStage}
use Rattle.sheep_node.proofs.ValidSteps.{given}
use Rattle.overlap_law.proofs.KnownDisks.{IsKnownDisk, IsKnownInode, IsKnownTask, IsKnownStage, vid-of_inode, kind-of_inode}
use Rattle.overlap_law.proofs.WholeWorks.{in_header, in_table, units_from_header, WritesWhole, IsWholeOutcome, whole_on}

-- the header doesn't make what was read longer
length-written_back : (inode : Content) (bytes : List ℕ) → IsFieldText inode.name → IsFieldText inode.tag
    → INODE_HEADER_BYTES ≤ length bytes
    → length (written_back inode bytes) ≡ length bytes
length-written_back inode bytes name tag long =
    let head : List ℕ = header_bytes inode (unread_zeros inode) in
    let front : length head ≡ INODE_HEADER_BYTES = header_length inode (unread_zeros inode) (blank_fills inode name tag) in
    omega (arith, front, long, length-append head (drop (0 + length head) bytes), length-drop (0 + length head) bytes)

module _ (known : List Effect) where
  abbrev IsWholeStep : OpStep → Type 0
  IsWholeStep step = IsWholeOutcome known (outcome_of_command step.act)

  -- ---- its works

  back_whole : (vid : ℕ) (header : Header) (ids bytes : List ℕ) → IsKnownDisk known vid header.spec → IsInodeHeader header
      → written_bytes header.spec ≡ length bytes
      → WritesWhole known (write_back (inode_by header vid (table_in ids header.spec bytes)) bytes)
  back_whole vid header ids bytes disk is all =
      let inode : Content = inode_by header vid (table_in ids header.spec bytes) in
      let count : ℕ = objects_of header.spec in
      let kind : kind_of (inode_number vid) ≡ Inode = kind-of_inode vid disk.id in
      let given_all : INODE_HEADER_BYTES + 4 * count ≡ length bytes = all in
      let most : count ≤ OBJECTS_MAX = objects_most header.spec disk.spec_valid in
      let same : length (written_back inode bytes) ≡ length bytes
      = length-written_back inode bytes (field_text header.name is.name) (field_tag header.tag is.tag) (omega (arith, given_all)) in
      let ends : 0 + length (written_back inode bytes) ≤ INODE_BYTES = omega (arith, same, given_all, most) in
      let till : 0 + length (written_back inode bytes) ≡ INODE_HEADER_BYTES + 4 * count = omega (arith, same, given_all) in
      whole_on known vid header.spec Inode (write_back inode bytes) disk (vid-of_inode vid disk.id) kind (
        ends,
        units_from_header (kind_of (inode_number vid)) kind 0 (0 + length (written_back inode bytes)) (count + INODE_HEADER_BYTES)
            (omega arith) (till ∙ sym (in_table count)),
      )

  tag_whole : (old : Content) (tag : List ℕ) → IsKnownInode known old → IsName tag → WritesWhole known (write_tag old tag)
  tag_whole old tag is name =
      let kind : kind_of (inode_number old.vid) ≡ Inode = kind-of_inode old.vid is.disk.id in
      let short : length tag < TEXT_BYTES = (field_text tag name).0 in
      let ends : TEXT_BYTES + length tag ≤ INODE_BYTES = omega (arith, short) in
      let below : TEXT_BYTES + length tag < INODE_HEADER_BYTES = omega (arith, short) in
      whole_on known old.vid old.spec Inode (write_tag old tag) is.disk (vid-of_inode old.vid is.disk.id) kind (
        ends,
        units_from_header (kind_of (inode_number old.vid)) kind TEXT_BYTES (TEXT_BYTES + length tag) (TEXT_BYTES + length tag)
            (omega arith) (sym (in_header (TEXT_BYTES + length tag) below)),
      )

  -- ---- it begins, and goes on with what its work gave

  pub command_begins-whole : (by : NodeId) (session : ℕ) (ask : VdiAsk) (disk : Option Content) (step : OpStep)
      → begin_command by session ask disk ≡ Some step → IsWholeStep step
  unfolding begin_command
  command_begins-whole by session ask disk step is = by_entry (first_entry by session disk ask) is
    where
      by_entry : (entry : Option Entry) → option_map (first_step by session) entry ≡ Some step → IsWholeStep step
      by_entry None is = absurd (cc (is))
      by_entry (Some entry) is = given IsWholeStep is tt

  task_whole : (op : Op) (vid : Vid) (bytes : List ℕ) (task : Task) → IsKnownTask known vid task → IsSoundTaskOn vid task
      → bytes_of_task task ≡ length bytes → IsWholeStep (task_done op vid bytes task)
  task_whole op vid bytes (Opening true ids header) is sound all = tt
  task_whole op vid bytes (Opening false ids header) is sound all = back_whole vid.0 header ids bytes is sound.1 all
  task_whole op vid bytes (WritingBack inode) is sound all = tt
  task_whole op vid bytes (Tagging old inode) is sound all = tt
  task_whole op vid bytes (Copying ids header) is sound all = tt
  task_whole op vid bytes (Making entry opened) is sound all = tt

  pub command_goes_on-whole : (bytes : List ℕ) (op : Op) (step : OpStep) → op_on_done bytes op ≡ Some step → IsKnownStage known op.stage
      → IsSoundStage op.stage → op_bytes_wanted op ≡ Some (length bytes) → IsWholeStep step
  unfolding op_on_done
  command_goes_on-whole bytes op step next is sound wanted = by_stage op.stage next is sound wanted
    where
      by_stage : (stage : OpStage) → done_at bytes op stage ≡ Some step → IsKnownStage known stage → IsSoundStage stage
          → op_stage_bytes stage ≡ Some (length bytes) → IsWholeStep step
      by_stage (Asked entry) next is sound wanted = absurd (cc (next))
      by_stage (Working vid task) next is sound wanted =
          given IsWholeStep next (task_whole op vid bytes task is sound (same_Some (bytes_of_task task) (length bytes) wanted))
      by_stage (Publishing entry opened) next is sound wanted = absurd (cc (next))
      by_stage (Answered change) next is sound wanted = absurd (cc (next))

  -- ---- behind a decision

  module _ (effects : List Effect) (op : Op) (disk : Option Content) (step : OpStep) (opened : IfSome disk (IsKnownInode known)) where
    granted_whole : (vid : Vid) (header : Header) (entry : Entry)
        → step_after_grant op vid (chain_of effects vid.0) disk entry header ≡ Some step → EntryHasTag entry → IsWholeStep step
    granted_whole vid header (Format members) next tagged = absurd (cc (next))
    granted_whole vid header (Join node zone vnodes) next tagged = absurd (cc (next))
    granted_whole vid header (Leave node) next tagged = absurd (cc (next))
    granted_whole vid header (Reweight node vnodes) next tagged = absurd (cc (next))
    granted_whole vid header (Recovered node epoch) next tagged = absurd (cc (next))
    granted_whole vid header (Reserve by session name (Fresh spec)) next tagged = given IsWholeStep next tt
    granted_whole vid header (Reserve by session name (SnapshotOf tag)) next tagged = by_disk disk opened next
      where
        by_disk : (disk : Option Content) → IfSome disk (IsKnownInode known) → option_map (tag_step op vid tag header) disk ≡ Some step
            → IsWholeStep step
        by_disk None opened next = absurd (cc (next))
        by_disk (Some old) opened next = given IsWholeStep next (tag_whole old tag opened tagged)
    granted_whole vid header (Reserve by session name (CloneOf base tag)) next tagged = by_parent header.parent next
      where
        by_parent : (parent : Option Vid) → option_map (copy_step op vid (chain_of effects vid.0) header) parent ≡ Some step
            → IsWholeStep step
        by_parent None next = absurd (cc (next))
        by_parent (Some parent) next = given IsWholeStep next tt
    granted_whole vid header (Publish by made) next tagged = absurd (cc (next))
    granted_whole vid header (Clone by made) next tagged = absurd (cc (next))
    granted_whole vid header (Snapshot by old made) next tagged = absurd (cc (next))
    granted_whole vid header (Delete by session name tag) next tagged = given IsWholeStep next tt
    granted_whole vid header (Lock by session name tag) next tagged = given IsWholeStep next tt
    granted_whole vid header (Unlock by session old) next tagged = given IsWholeStep next tt

    decision_whole : (entry : Entry) (decision : Decision) → step_after_decision effects disk op entry decision ≡ Some step
        → EntryHasTag entry → IsWholeStep step
    decision_whole entry decisions.None next tagged = given IsWholeStep next tt
    decision_whole entry (decisions.Granted vid) next tagged = by_header (header_of effects vid.0) next
      where
        by_header : (o : Option Header) → option_and_then (step_after_grant op vid (chain_of effects vid.0) disk entry) o ≡ Some step
            → IsWholeStep step
        by_header None next = absurd (cc (next))
        by_header (Some header) next = granted_whole vid header entry next tagged
    decision_whole entry (decisions.Refused cause) next tagged = given IsWholeStep next tt

    pub command_decided-whole : (decision : Decision) → on_decision effects disk decision op ≡ Some step → IsSoundStage op.stage
        → IsWholeStep step
    unfolding on_decision
    command_decided-whole decision next sound = by_stage op.stage next sound
      where
        by_stage : (stage : OpStage) → decided_at effects disk decision op stage ≡ Some step → IsSoundStage stage → IsWholeStep step
        by_stage (Asked entry) next tagged = decision_whole entry decision next tagged
        by_stage (Working vid task) next sound = absurd (cc (next))
        by_stage (Publishing entry made) next sound = given IsWholeStep next tt
        by_stage (Answered change) next sound = absurd (cc (next))
