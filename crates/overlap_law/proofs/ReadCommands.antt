-- What a command reads of an inode lies inside it; and the inode that it goes on with, or leaves open, has a table of its own chain. For a
-- table that was read keeps no other entry, and the id that takes the place of a disk is its child.
use Rattle.std.proofs.Common.{◌≡◌, arith, ℕ, ◌+◌, ◌≤◌, true, false, List, All, Option, Some, None, IfSome, option_map, option_and_then, inl}
use Rattle.std.proofs.Common.{refl, sym, ap, subst, ◌∙◌}
use Rattle.std.proofs.lemmas.List.Elements.{All-head, All-weaker}
use Rattle.object_id.specs.declared.entry.Entry.{Entry}
use Rattle.object_id.specs.declared.entry.Entry.TheVariants.{Format, Join, Leave, Reweight, Recovered, Reserve, Publish, Clone, Snapshot}
use Rattle.object_id.specs.declared.entry.Entry.TheVariants.{Delete, Lock, Unlock}
use Rattle.object_id.specs.declared.entry.Origin.TheVariants.{Fresh, SnapshotOf, CloneOf}
use Rattle.object_id.specs.declared.entry.VdiSpec.{VdiSpec}
use Rattle.object_id.specs.declared.limits.TheConstants.{OBJECTS_MAX}
use Rattle.object_id.specs.declared.node.NodeId.{NodeId}
use Rattle.object_id.specs.declared.oid.Kind.TheVariants.{Inode}
use Rattle.object_id.specs.declared.oid.Vid.{Vid}
use Rattle.object_id.specs.Oid.{IsVid}
use Rattle.object_id.specs.Spec.{objects_of}
use Rattle.inode.specs.Layout.{Content}
use Rattle.inode.specs.declared.layout.TheConstants.{INODE_BYTES}
use Rattle.peer_proto.specs.declared.guest.VdiAsk.{VdiAsk}
use Rattle.vdi_directory.specs.declared.effect.Effect.{Effect}
use Rattle.vdi_directory.specs.declared.header.Header.{Header}
use Rattle.vdi_directory.specs.declared.decision.Decision.{Decision}
use Rattle.vdi_directory.specs.declared.decision.Decision.TheVariants as decisions
use Rattle.vdi_directory.specs.Chains.{chain_of, is_above}
use Rattle.vdi_directory.specs.Effects.{header_of}
use Rattle.vdi_directory.specs.References.{header_parent, parent_of}
use Rattle.guest_driver.specs.declared.disk.Disk.{Disk}
use Rattle.guest_driver.proofs.ExtentLemmas.{objects_most}
use Rattle.vdi_ops.specs.InodeWorks.{written_bytes, read_inode}
use Rattle.vdi_ops.specs.Tables.{table_in, inode_by}
use Rattle.vdi_ops.specs.Op.{Task, Opening, WritingBack, Tagging, Copying, Making, DiskChange, Stays, Opens, Closes, OpStage, Asked}
use Rattle.vdi_ops.specs.Op.{Working, Publishing, Answered, disk_change_at, Op, OpStep}
use Rattle.vdi_ops.specs.Steps.{begin_command, tag_step, copy_step, change_without_grant, step_after_grant, step_after_decision, decided_at}
use Rattle.vdi_ops.specs.Steps.{on_decision, task_done, done_at, op_on_done}
use Rattle.vdi_ops.proofs.TableLemmas.{table_length}
use Rattle.sheep_node.specs.declared.course.Course.{Course}
use Rattle.sheep_node.specs.declared.course.Course.TheVariants as courses
use Rattle.sheep_node.specs.Changes.{outcome_of_command}
use Rattle.sheep_node.specs.Courses.{disk_after}
use Rattle.sheep_node.proofs.ValidSteps.{given}
use Rattle.overlap_law.proofs.ClosedFirstStages.{begins_first}
use Rattle.overlap_law.proofs.ChainTables.{IsInChain, IsOtherId, HasChainTable, HasNoOwn, above_then, chain_other, own_chain}
use Rattle.overlap_law.proofs.ChainTables.{in_chain_grows, table_grows, HasChains, taken_over, taken_no_own}
use Rattle.overlap_law.proofs.KnownDisks.{IsKnownDisk, IsKnownInode, vid-of_inode, kind-of_inode}
use Rattle.overlap_law.proofs.KnownTables.{table_so}
use Rattle.overlap_law.proofs.ReadWorks.{ReadsOn, IsReadOutcome, inside_on}

-- ---- what a command goes on with

module _ (known : List Effect) where
  -- the inode of an id that takes the place of a disk: its table is the disk's
  abbrev pub IsTakenTable : Content → Type 0
  IsTakenTable inode = HasChainTable known inode × HasNoOwn inode

  -- an id is above another
  abbrev pub IsIdAbove : ℕ → Vid → Type 0
  IsIdAbove vid elder = IsVid elder.0 × (is_above known elder.0 vid ≡ true)

  abbrev pub IsTabledTask : Vid → Task → Type 0
  IsTabledTask vid (Opening snapshot ids header) = All (IsInChain known vid.0) ids
  IsTabledTask vid (WritingBack inode) = HasChainTable known inode
  IsTabledTask vid (Tagging old inode) = IsTakenTable inode × (is_above known old.0 inode.vid ≡ true)
  IsTabledTask vid (Copying ids header) = All (IsOtherId vid.0) ids × IfSome header.parent (IsIdAbove vid.0)
  IsTabledTask vid (Making entry opened) = IfSome opened IsTakenTable

  abbrev pub IsTabledChange : DiskChange → Type 0
  IsTabledChange Stays = Unit {0}
  IsTabledChange (Opens snapshot inode) = HasChainTable known inode
  IsTabledChange Closes = Unit {0}

  abbrev pub IsTabledStage : OpStage → Type 0
  IsTabledStage (Asked entry) = Unit {0}
  IsTabledStage (Working vid task) = IsTabledTask vid task
  IsTabledStage (Publishing entry opened) = IfSome opened IsTakenTable
  IsTabledStage (Answered change) = IsTabledChange change

  abbrev pub IsTabledCourse : Course → Type 0
  IsTabledCourse (courses.Waiting ask) = Unit {0}
  IsTabledCourse (courses.Driving driver) = Unit {0}
  IsTabledCourse (courses.Commanding op) = IsTabledStage op.stage
  IsTabledCourse (courses.Checking check) = Unit {0}
  IsTabledCourse (courses.DoingWork work) = Unit {0}
  IsTabledCourse (courses.AwaitingDecision entry) = Unit {0}

-- it stays so as the log grows
module _ (old new : List Effect) (above : (elder vid : ℕ) → is_above old elder vid ≡ true → is_above new elder vid ≡ true) where
  if_grows : (o : Option Content) → IfSome o (IsTakenTable old) → IfSome o (IsTakenTable new)
  if_grows None is = tt
  if_grows (Some inode) is = (table_grows old new above inode is.0, is.1)

  parent_grows : (vid : ℕ) (o : Option Vid) → IfSome o (IsIdAbove old vid) → IfSome o (IsIdAbove new vid)
  parent_grows vid None is = tt
  parent_grows vid (Some parent) is = (is.0, above parent.0 vid is.1)

  task_grows : (vid : Vid) (task : Task) → IsTabledTask old vid task → IsTabledTask new vid task
  task_grows vid (Opening snapshot ids header) is =
      All-weaker (IsInChain old vid.0) (IsInChain new vid.0) (in_chain_grows old new above vid.0) ids is
  task_grows vid (WritingBack inode) is = table_grows old new above inode is
  task_grows vid (Tagging of inode) is = ((table_grows old new above inode is.0.0, is.0.1), above of.0 inode.vid is.1)
  task_grows vid (Copying ids header) is = (is.0, parent_grows vid.0 header.parent is.1)
  task_grows vid (Making entry opened) is = if_grows opened is

  change_grows : (change : DiskChange) → IsTabledChange old change → IsTabledChange new change
  change_grows Stays is = tt
  change_grows (Opens snapshot inode) is = table_grows old new above inode is
  change_grows Closes is = tt

  stage_grows : (stage : OpStage) → IsTabledStage old stage → IsTabledStage new stage
  stage_grows (Asked entry) is = tt
  stage_grows (Working vid task) is = task_grows vid task is
  stage_grows (Publishing entry opened) is = if_grows opened is
  stage_grows (Answered change) is = change_grows change is

  pub course_grows : (course : Course) → IsTabledCourse old course → IsTabledCourse new course
  course_grows (courses.Waiting ask) is = tt
  course_grows (courses.Driving driver) is = tt
  course_grows (courses.Commanding op) is = stage_grows op.stage is
  course_grows (courses.Checking check) is = tt
  course_grows (courses.DoingWork work) is = tt
  course_grows (courses.AwaitingDecision entry) is = tt

-- where an id is granted that is to take the place of a disk, it is the child of the one that is open
abbrev pub TakesPlace : List Effect → Option Content → Decision → OpStage → Type 0
TakesPlace known disk decision stage = (by : NodeId) (of : ℕ) (name tag : List ℕ) (vid : Vid) (old : Content)
    → stage ≡ Asked (Reserve by of name (SnapshotOf tag)) → decision ≡ decisions.Granted vid → disk ≡ Some old
    → (parent : Vid) × (parent_of known vid.0 ≡ Some parent) × (parent.0 ≡ old.vid)

module _ (known : List Effect) where
  pub record IsReadCommandStep (step : OpStep) : Type 0 where
    pub stage : IsTabledStage known step.op.stage
    pub outcome : IsReadOutcome known (outcome_of_command step.act)

  -- ---- it begins, and goes on with what its work gave

  pub command_begins-inside : (by : NodeId) (session : ℕ) (ask : VdiAsk) (disk : Option Content) (step : OpStep)
      → begin_command by session ask disk ≡ Some step → IsReadCommandStep step
  command_begins-inside by session ask disk step is =
      let (entry, same) = begins_first by session ask disk step is in
      subst IsReadCommandStep same (record { stage = tt; outcome = tt })

  -- a table that was read keeps none but these entries
  table_read : (vid : ℕ) (header : Header) (ids bytes : List ℕ) → All (IsInChain known vid) ids
      → HasChainTable known (inode_by header vid (table_in ids header.spec bytes))
  table_read vid header ids bytes all =
      record { entries = table_so (IsInChain known vid) header.spec ids bytes all; whole = table_length ids header.spec bytes }

  task_inside : (op : Op) (vid : Vid) (bytes : List ℕ) (task : Task) → IsTabledTask known vid task
      → IsReadCommandStep (task_done op vid bytes task)
  task_inside op vid bytes (Opening true ids header) is = record { stage = table_read vid.0 header ids bytes is; outcome = tt }
  task_inside op vid bytes (Opening false ids header) is = record { stage = table_read vid.0 header ids bytes is; outcome = tt }
  task_inside op vid bytes (WritingBack inode) is = record { stage = is; outcome = tt }
  task_inside op vid bytes (Tagging old inode) is = record { stage = is.0; outcome = tt }
  task_inside op vid bytes (Copying ids header) is = record { stage = tt; outcome = tt }
  task_inside op vid bytes (Making entry opened) is = record { stage = is; outcome = tt }

  pub command_goes_on-inside : (bytes : List ℕ) (op : Op) (step : OpStep) → op_on_done bytes op ≡ Some step → IsTabledStage known op.stage
      → IsReadCommandStep step
  unfolding op_on_done
  command_goes_on-inside bytes op step next is = by_stage op.stage next is
    where
      by_stage : (stage : OpStage) → done_at bytes op stage ≡ Some step → IsTabledStage known stage → IsReadCommandStep step
      by_stage (Asked entry) next is = absurd (cc (next))
      by_stage (Working vid task) next is = given IsReadCommandStep next (task_inside op vid bytes task is)
      by_stage (Publishing entry opened) next is = absurd (cc (next))
      by_stage (Answered change) next is = absurd (cc (next))

  -- ---- behind a decision

  without_grant-tabled : (entry : Entry) → IsTabledChange known (change_without_grant entry)
  without_grant-tabled (Format members) = tt
  without_grant-tabled (Join node zone vnodes) = tt
  without_grant-tabled (Leave node) = tt
  without_grant-tabled (Reweight node vnodes) = tt
  without_grant-tabled (Recovered node epoch) = tt
  without_grant-tabled (Reserve by session name origin) = tt
  without_grant-tabled (Publish by vid) = tt
  without_grant-tabled (Clone by vid) = tt
  without_grant-tabled (Snapshot by old vid) = tt
  without_grant-tabled (Delete by session name tag) = tt
  without_grant-tabled (Lock by session name tag) = tt
  without_grant-tabled (Unlock by session vid) = tt

  -- the header and all entries that a disk has lie inside its inode
  inode_inside : (vid : ℕ) (spec : VdiSpec) → IsKnownDisk known vid spec → ReadsOn known (read_inode vid spec)
  inode_inside vid spec disk =
      let most : objects_of spec ≤ OBJECTS_MAX = objects_most spec disk.spec_valid in
      let ends : 0 + written_bytes spec ≤ INODE_BYTES = omega (arith, most) in
      inside_on known vid spec Inode (read_inode vid spec) disk (vid-of_inode vid disk.id) (kind-of_inode vid disk.id) refl ends

  module _ (chains : HasChains known) (disk : Option Content) (op : Op) (step : OpStep) (decision : Decision)
      (inode : IfSome disk (IsKnownInode known)) (opened : IfSome disk (HasChainTable known))
      (takes : TakesPlace known disk decision op.stage) where
    module _ (vid : Vid) (header : Header) (there : header_of known vid.0 ≡ Some header) where
      own : IsKnownDisk known vid.0 header.spec
      own = All-head (λ (id : ℕ). IsKnownDisk known id header.spec) vid.0 (chain_of known vid.0) (chains.with_chain vid.0 header there)

      granted_inside : (entry : Entry) → op.stage ≡ Asked entry → decision ≡ decisions.Granted vid
          → step_after_grant op vid (chain_of known vid.0) disk entry header ≡ Some step → IsReadCommandStep step
      granted_inside (Format members) at granted next = absurd (cc (next))
      granted_inside (Join node zone vnodes) at granted next = absurd (cc (next))
      granted_inside (Leave node) at granted next = absurd (cc (next))
      granted_inside (Reweight node vnodes) at granted next = absurd (cc (next))
      granted_inside (Recovered node epoch) at granted next = absurd (cc (next))
      granted_inside (Reserve by session name (Fresh spec)) at granted next =
          given IsReadCommandStep next (record { stage = tt; outcome = tt })
      granted_inside (Reserve by session name (SnapshotOf tag)) at granted next = by_disk disk refl inode opened next
        where
          by_disk : (o : Option Content) → disk ≡ o → IfSome o (IsKnownInode known) → IfSome o (HasChainTable known)
              → option_map (tag_step op vid tag header) o ≡ Some step → IsReadCommandStep step
          by_disk None on is table next = absurd (cc (next))
          by_disk (Some old) on is table next =
              let (parent, from, same) = takes by session name tag vid old at granted on in
              given IsReadCommandStep next
              (record {
                stage = (
                  (
                    taken_over known chains vid header parent old there from same is table,
                    taken_no_own known chains vid header parent old own from same table,
                  ),
                  above_then known chains old.vid vid.0 parent from same old.vid (inl refl),
                );
                outcome = tt;
              })
      granted_inside (Reserve by session name (CloneOf base tag)) at granted next = by_parent header.parent refl next
        where
          by_parent : (parent : Option Vid) → header.parent ≡ parent
              → option_map (copy_step op vid (chain_of known vid.0) header) parent ≡ Some step → IsReadCommandStep step
          by_parent None from next = absurd (cc (next))
          by_parent (Some parent) from next =
              let is = chains.with_parent vid.0 header parent there from in
              let above = above_then known chains parent.0 vid.0 parent (ap header_parent there ∙ from) refl parent.0 (inl refl) in
              given IsReadCommandStep next
              (record {
                stage = (
                  chain_other known chains vid.0 header there,
                  subst (λ (o : Option Vid). IfSome o (IsIdAbove known vid.0)) (sym from) (is.id, above),
                );
                outcome = inode_inside parent.0 header.spec is;
              })
      granted_inside (Publish by made) at granted next = absurd (cc (next))
      granted_inside (Clone by made) at granted next = absurd (cc (next))
      granted_inside (Snapshot by old made) at granted next = absurd (cc (next))
      granted_inside (Delete by session name tag) at granted next = given IsReadCommandStep next (record { stage = tt; outcome = tt })
      granted_inside (Lock by session name tag) at granted next =
          given IsReadCommandStep next (record { stage = own_chain known vid.0; outcome = inode_inside vid.0 header.spec own })
      granted_inside (Unlock by session old) at granted next = given IsReadCommandStep next (record { stage = tt; outcome = tt })

    decision_inside : (entry : Entry) → op.stage ≡ Asked entry → (made : Decision) → decision ≡ made
        → step_after_decision known disk op entry made ≡ Some step → IsReadCommandStep step
    decision_inside entry at decisions.None made next =
        given IsReadCommandStep next (record { stage = without_grant-tabled entry; outcome = tt })
    decision_inside entry at (decisions.Granted vid) made next = by_header (header_of known vid.0) refl next
      where
        by_header : (o : Option Header) → header_of known vid.0 ≡ o
            → option_and_then (step_after_grant op vid (chain_of known vid.0) disk entry) o ≡ Some step → IsReadCommandStep step
        by_header None none next = absurd (cc (next))
        by_header (Some header) there next = granted_inside vid header there entry at made next
    decision_inside entry at (decisions.Refused cause) made next =
        given IsReadCommandStep next (record { stage = without_grant-tabled entry; outcome = tt })

    pub command_decided-inside : on_decision known disk decision op ≡ Some step → IsTabledStage known op.stage → IsReadCommandStep step
    unfolding on_decision
    command_decided-inside next is = by_stage op.stage refl next is
      where
        by_opened : (entry : Entry) (made : Option Content) → IfSome made (IsTakenTable known)
            → decided_at known disk decision op (Publishing entry made) ≡ Some step → IsReadCommandStep step
        by_opened entry None is next = given IsReadCommandStep next (record { stage = tt; outcome = tt })
        by_opened entry (Some inode) is next = given IsReadCommandStep next (record { stage = is.0; outcome = tt })

        by_stage : (stage : OpStage) → op.stage ≡ stage → decided_at known disk decision op stage ≡ Some step → IsTabledStage known stage
            → IsReadCommandStep step
        by_stage (Asked entry) at next is = decision_inside entry at decision refl next
        by_stage (Working vid task) at next is = absurd (cc (next))
        by_stage (Publishing entry made) at next is = by_opened entry made is next
        by_stage (Answered change) at next is = absurd (cc (next))

  -- what a command leaves open
  pub left_tabled : (stage : OpStage) (disk : Option Disk) → IsTabledStage known stage
      → IfSome disk (λ (disk : Disk). HasChainTable known disk.inode)
      → IfSome (disk_after (disk_change_at stage) disk) (λ (disk : Disk). HasChainTable known disk.inode)
  left_tabled (Asked entry) disk so was = was
  left_tabled (Working vid task) disk so was = was
  left_tabled (Publishing entry opened) disk so was = was
  left_tabled (Answered Stays) disk so was = was
  left_tabled (Answered (Opens snapshot inode)) disk so was = so
  left_tabled (Answered Closes) disk so was = tt
