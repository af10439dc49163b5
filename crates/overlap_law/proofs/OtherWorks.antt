-- In the middle of a step of a run in range, the works that commands and checks ask for next give own entries that stand for what is
-- made, if the inodes do that commands create: all others have no entry, but what an opening writes back.
use Rattle.std.proofs.Common.{◌≡◌, ◌≢◌, ◌⊎◌, inl, inr, arith, ℕ, ◌+◌, ◌≤◌, nat_le, ◌&&◌, true, false, All, List}
use Rattle.std.proofs.Common.{[], ◌∷◌}
use Rattle.std.proofs.Common.{length, Option, Some, None, option_map, refl, sym, ap, subst, ◌∙◌}
use Rattle.std.specs.Option.{option_and_then}
use Rattle.std.proofs.lemmas.Bool.{and_parts, leb-true}
use Rattle.std.proofs.lemmas.List.Elements.{All-head}
use Rattle.std.proofs.lemmas.Option.{same_Some}
use Rattle.object_id.specs.declared.entry.Entry.{Entry}
use Rattle.object_id.specs.declared.entry.Entry.TheVariants as entries
use Rattle.object_id.specs.declared.entry.Origin.TheVariants.{Fresh, SnapshotOf, CloneOf}
use Rattle.object_id.specs.declared.entry.VdiSpec.{VdiSpec}
use Rattle.object_id.specs.declared.node.NodeId.{NodeId}
use Rattle.object_id.specs.declared.oid.Kind.{Kind}
use Rattle.object_id.specs.declared.oid.Kind.TheVariants.{Inode}
use Rattle.object_id.specs.declared.oid.Vid.{Vid}
use Rattle.object_id.specs.Oid.{IsVid}
use Rattle.inode.specs.Layout.{Content}
use Rattle.inode.specs.declared.layout.TheConstants.{TEXT_BYTES}
use Rattle.vdi_directory.specs.declared.decision.Decision.{Decision}
use Rattle.vdi_directory.specs.declared.decision.Decision.TheVariants as decisions
use Rattle.vdi_directory.specs.declared.effect.Effect.{Effect}
use Rattle.vdi_directory.specs.declared.header.Header.{Header}
use Rattle.vdi_directory.specs.Chains.{chain_of}
use Rattle.vdi_directory.specs.Effects.{header_of}
use Rattle.peer_proto.specs.declared.guest.VdiAsk.{VdiAsk}
use Rattle.peer_proto.specs.declared.work.ObjWork.{ObjWork}
use Rattle.peer_proto.specs.Work.{oid_of}
use Rattle.vdi_ops.specs.declared.act.OpAct.{OpAct}
use Rattle.vdi_ops.specs.declared.act.OpAct.TheVariants as op_acts
use Rattle.vdi_ops.specs.InodeWorks.{read_inode, create_inode, write_back, write_tag}
use Rattle.vdi_ops.specs.Op.{Task, Opening, WritingBack, Tagging, Copying, Making, OpStage, Asked, Working, Publishing, Answered, Op}
use Rattle.vdi_ops.specs.Op.{OpStep}
use Rattle.vdi_ops.specs.Steps.{begin_command, tag_step, copy_step, step_after_grant, step_after_decision, decided_at}
use Rattle.vdi_ops.specs.Steps.{on_decision}
use Rattle.vdi_ops.specs.Steps.{task_done, done_at, op_on_done}
use Rattle.vdi_ops.specs.Tables.{holes, table_in, inode_by}
use Rattle.disk_check.specs.Check.{Check, CheckStage, CheckStep, Comparing, check_on, begun_check, begin_check, check_done_at}
use Rattle.disk_check.specs.Check.{check_on_done}
use Rattle.disk_check.specs.Check.{read_copies, left_of}
use Rattle.disk_check.specs.Check as checks
use Rattle.disk_check.specs.Table.{own_indexes}
use Rattle.disk_check.specs.declared.act.CheckAct.{CheckAct}
use Rattle.disk_check.specs.declared.act.CheckAct.TheVariants as check_acts
use Rattle.overlap_law.specs.NamedWorks.{HasEntry}
use Rattle.overlap_law.specs.Tables.{entry_unit}
use Rattle.overlap_law.specs.Units.{unit_start, unit_end}
use Rattle.overlap_law.proofs.ClosedFirstStages.{begins_first}
use Rattle.overlap_law.proofs.DriverEntries.{no_inode}
use Rattle.overlap_law.proofs.EntryWrites.{entry_start, entry_size}
use Rattle.overlap_law.proofs.KnownDisks.{Few, kind-of_inode}
use Rattle.peer_proto.specs.declared.work.ObjWork.TheVariants as works
use Rattle.gateway.specs.Work.{is_making}

-- a work has no entry
abbrev pub HasNone : ObjWork → Type 0
HasNone work = (vid index : ℕ) → HasEntry work vid index → ⊥

pub read_none : (vid : ℕ) (spec : VdiSpec) → HasNone (read_inode vid spec)
read_none vid spec other index has = let covered = has.covered in cc (covered)

-- nor has what makes nothing
pub idle_none : (work : ObjWork) → is_making work ≡ false → HasNone work
idle_none (works.Create oid policy size offset bytes) idle vid index has = absurd (cc (idle))
idle_none (works.Write oid policy offset bytes) idle vid index has = absurd (cc (idle))
idle_none (works.Read oid policy offset size) idle vid index has = let covered = has.covered in cc (covered)
idle_none (works.ReadAll oid policy size) idle vid index has = let covered = has.covered in cc (covered)

-- a tag stands before the table
pub tag_none : (inode : Content) (tag : List ℕ) → IsVid inode.vid → length tag ≤ TEXT_BYTES → HasNone (write_tag inode tag)
tag_none inode tag id short vid index has =
    let unit : ℕ = entry_unit index in
    let start = entry_start index in
    let size = entry_size index in
    let covered : nat_le TEXT_BYTES (unit_start Inode unit) && nat_le (unit_end Inode unit) (TEXT_BYTES + length tag) ≡ true
    = sym (ap (λ (k : Kind). nat_le TEXT_BYTES (unit_start k unit) && nat_le (unit_end k unit) (TEXT_BYTES + length tag))
    (kind-of_inode inode.vid id)) ∙ has.covered in
    let high = leb-true (unit_end Inode unit) (TEXT_BYTES + length tag)
    (and_parts (nat_le TEXT_BYTES (unit_start Inode unit)) (nat_le (unit_end Inode unit) (TEXT_BYTES + length tag)) covered).1 in
    omega (arith, start, size, high, short)

-- ---- a command

abbrev command_work : ObjWork → OpAct → ObjWork
command_work none (op_acts.Append entry) = none
command_work none (op_acts.Work work) = work
command_work none (op_acts.Reply reply) = none

-- it begins with an entry
pub begins_with_entry : (by : NodeId) (session : ℕ) (ask : VdiAsk) (disk : Option Content) (step : OpStep)
    → begin_command by session ask disk ≡ Some step → (work : ObjWork) → step.act ≢ op_acts.Work work
begins_with_entry by session ask disk step next work act =
    let (entry, first) = begins_first by session ask disk step next in
    let same = ap (λ (s : OpStep). s.act) first in cc (same, act)

-- it creates a disk as it is granted its id
pub record CreatesDisk (known : List Effect) (decision : Decision) (op : Op) (work : ObjWork) : Type 0 where
  pub by : NodeId
  pub session : ℕ
  pub name : List ℕ
  pub spec : VdiSpec
  pub vid : Vid
  pub header : Header
  pub asked : op.stage ≡ Asked (entries.Reserve by session name (Fresh spec))
  pub granted : decision ≡ decisions.Granted vid
  pub there : header_of known vid.0 ≡ Some header
  pub same : work ≡ create_inode (inode_by header vid.0 (holes header.spec))

-- what it asks for as its entry is decided: it reads an inode, creates one, or writes the tag that was asked for to the open one
pub data IsOfDecision (known : List Effect) (disk : Option Content) (decision : Decision) (op : Op) (work : ObjWork) : Type 0 where
  ReadsIt : (vid : ℕ) (spec : VdiSpec) → work ≡ read_inode vid spec → IsOfDecision known disk decision op work
  CreatesIt : CreatesDisk known decision op work → IsOfDecision known disk decision op work
  TagsIt : (inode : Content) (by : NodeId) (session : ℕ) (name tag : List ℕ) → disk ≡ Some inode
      → op.stage ≡ Asked (entries.Reserve by session name (SnapshotOf tag)) → work ≡ write_tag inode tag
      → IsOfDecision known disk decision op work

-- an inode is the one that was to be created as its task is done: that of a disk that was taken the place of, or with the table that was
-- read
pub data IsOfTask (op : Op) (bytes : List ℕ) (inode : Content) : Type 0 where
  Tagged : (vid old : Vid) → op.stage ≡ Working vid (Tagging old inode) → IsOfTask op bytes inode
  Copied : (vid : Vid) (ids : List ℕ) (header : Header) → op.stage ≡ Working vid (Copying ids header)
      → inode ≡ inode_by header vid.0 (table_in ids header.spec bytes) → IsOfTask op bytes inode

-- and as its work is done: it creates an inode, or writes back what it read
abbrev pub WritesBackOrCreates : Op → ObjWork → List ℕ → Type 0
WritesBackOrCreates op work bytes =
    ((inode : Content) × (work ≡ create_inode inode) × IsOfTask op bytes inode)
    ⊎ ((vid : Vid) × (ids : List ℕ) × (header : Header) × (op.stage ≡ Working vid (Opening false ids header))
    × (work ≡ write_back (inode_by header vid.0 (table_in ids header.spec bytes)) bytes))

module _ (disk : Option Content) (op : Op) (step : OpStep) (work : ObjWork) (act : step.act ≡ op_acts.Work work) where
  -- from the step itself
  of_step : (one : OpStep) → Some one ≡ Some step → (w : ObjWork) → one.act ≡ op_acts.Work w → work ≡ w
  of_step one is w acts =
      ap (command_work work) (sym act ∙ ap (λ (s : OpStep). s.act) (sym (same_Some one step is)) ∙ acts)

  no_work : {P : Type 0} (one : OpStep) → Some one ≡ Some step → (one.act ≢ op_acts.Work work) → P
  no_work one is never = absurd (never (ap (λ (s : OpStep). s.act) (same_Some one step is) ∙ act))

  module _ (known : List Effect) (decision : Decision) where
    abbrev Decides : Type 0
    Decides = IsOfDecision known disk decision op work

    of_grant : (vid : Vid) (chain : List ℕ) (entry : Entry) (header : Header) → decision ≡ decisions.Granted vid
        → header_of known vid.0 ≡ Some header → op.stage ≡ Asked entry → step_after_grant op vid chain disk entry header ≡ Some step
        → Decides
    of_grant vid chain (entries.Format members) header granted there at is = absurd (cc (is))
    of_grant vid chain (entries.Join node zone vnodes) header granted there at is = absurd (cc (is))
    of_grant vid chain (entries.Leave node) header granted there at is = absurd (cc (is))
    of_grant vid chain (entries.Reweight node vnodes) header granted there at is = absurd (cc (is))
    of_grant vid chain (entries.Recovered node epoch) header granted there at is = absurd (cc (is))
    of_grant vid chain (entries.Reserve by session name (Fresh spec)) header granted there at is =
        CreatesIt (record {
          by = by;
          session = session;
          name = name;
          spec = spec;
          vid = vid;
          header = header;
          asked = at;
          granted = granted;
          there = there;
          same = of_step _ is (create_inode (inode_by header vid.0 (holes header.spec))) refl;
        })
    of_grant vid chain (entries.Reserve by session name (SnapshotOf tag)) header granted there at is = by_disk disk refl is
      where
        by_disk : (o : Option Content) → disk ≡ o → option_map (tag_step op vid tag header) o ≡ Some step
            → Decides
        by_disk None on is = absurd (cc (is))
        by_disk (Some inode) on is = TagsIt inode by session name tag on at (of_step (tag_step op vid tag header inode) is
            (write_tag inode tag) refl)
    of_grant vid chain (entries.Reserve by session name (CloneOf base tag)) header granted there at is = by_parent header.parent is
      where
        by_parent : (o : Option Vid) → option_map (copy_step op vid chain header) o ≡ Some step → Decides
        by_parent None is = absurd (cc (is))
        by_parent (Some parent) is =
            ReadsIt parent.0 header.spec (of_step (copy_step op vid chain header parent) is (read_inode parent.0 header.spec) refl)
    of_grant vid chain (entries.Publish by id) header granted there at is = absurd (cc (is))
    of_grant vid chain (entries.Clone by id) header granted there at is = absurd (cc (is))
    of_grant vid chain (entries.Snapshot by old id) header granted there at is = absurd (cc (is))
    of_grant vid chain (entries.Delete by session name tag) header granted there at is = no_work _ is (λ same. cc (same))
    of_grant vid chain (entries.Lock by session name tag) header granted there at is = ReadsIt vid.0 header.spec (of_step _ is
        (read_inode vid.0 header.spec) refl)
    of_grant vid chain (entries.Unlock by session id) header granted there at is = no_work _ is (λ same. cc (same))

    of_decision : (entry : Entry) (made : Decision) → decision ≡ made → op.stage ≡ Asked entry
        → step_after_decision known disk op entry made ≡ Some step → Decides
    of_decision entry decisions.None so at is = no_work _ is (λ same. cc (same))
    of_decision entry (decisions.Granted vid) so at is = by_header (header_of known vid.0) refl is
      where
        by_header : (o : Option Header) → header_of known vid.0 ≡ o
            → option_and_then (step_after_grant op vid (chain_of known vid.0) disk entry) o ≡ Some step → Decides
        by_header None none is = absurd (cc (is))
        by_header (Some header) there is = of_grant vid (chain_of known vid.0) entry header so there at is
    of_decision entry (decisions.Refused cause) so at is = no_work _ is (λ same. cc (same))

    pub decided_work : on_decision known disk decision op ≡ Some step → IsOfDecision known disk decision op work
    unfolding on_decision
    decided_work next = by_stage op.stage refl next
      where
        by_stage : (stage : OpStage) → op.stage ≡ stage → decided_at known disk decision op stage ≡ Some step
            → Decides
        by_stage (Asked entry) at is = of_decision entry decision refl at is
        by_stage (Working vid task) at is = absurd (cc (is))
        by_stage (Publishing entry opened) at is = no_work _ is (λ same. cc (same))
        by_stage (Answered change) at is = absurd (cc (is))

  pub done_work : (bytes : List ℕ) → op_on_done bytes op ≡ Some step → WritesBackOrCreates op work bytes
  unfolding op_on_done
  done_work bytes next = by_stage op.stage refl next
    where
      by_task : (vid : Vid) (task : Task) → op.stage ≡ Working vid task → Some (task_done op vid bytes task) ≡ Some step
          → WritesBackOrCreates op work bytes
      by_task vid (Opening true ids header) at is = no_work _ is (λ same. cc (same))
      by_task vid (Opening false ids header) at is =
          inr (vid, ids, header, at, of_step _ is (write_back (inode_by header vid.0 (table_in ids header.spec bytes)) bytes) refl)
      by_task vid (WritingBack inode) at is = no_work _ is (λ same. cc (same))
      by_task vid (Tagging old inode) at is = inl (inode, of_step _ is (create_inode inode) refl, Tagged vid old at)
      by_task vid (Copying ids header) at is =
          inl (
            inode_by header vid.0 (table_in ids header.spec bytes),
            of_step _ is (create_inode (inode_by header vid.0 (table_in ids header.spec bytes))) refl,
            Copied vid ids header at refl,
          )
      by_task vid (Making entry opened) at is = no_work _ is (λ same. cc (same))

      by_stage : (stage : OpStage) → op.stage ≡ stage → done_at bytes op stage ≡ Some step → WritesBackOrCreates op work bytes
      by_stage (Asked entry) at is = absurd (cc (is))
      by_stage (Working vid task) at is = by_task vid task at is
      by_stage (Publishing entry opened) at is = absurd (cc (is))
      by_stage (Answered change) at is = absurd (cc (is))

-- ---- a check

abbrev check_work : ObjWork → CheckAct → ObjWork
check_work none (check_acts.Work work) = work
check_work none (check_acts.Reply found) = none

on_none : (check : Check) (left : List ℕ) (work : ObjWork) → (check_on check left).act ≡ check_acts.Work work → HasNone work
on_none check [] work act vid index has = cc (act)
on_none check (first ∷ later) work act vid index has =
    let same : read_copies check first ≡ work = ap (check_work work) act in
    let none = (subst (λ (w : ObjWork). HasEntry w vid index) (sym same) has).covered in cc (none)

pub check_begins_none : (inode : Content) (work : ObjWork) → (begin_check inode).act ≡ check_acts.Work work → HasNone work
unfolding begin_check
check_begins_none inode work act = on_none (begun_check inode) (own_indexes inode) work act

pub check_goes_none : (bytes : List ℕ) (check : Check) (step : CheckStep) (work : ObjWork) → check_on_done bytes check ≡ Some step
    → step.act ≡ check_acts.Work work → IsVid check.vid → All Few (left_of check.stage) → HasNone work
unfolding check_on_done
check_goes_none bytes check step work next act id few = by_stage check.stage next few
  where
    by_stage : (stage : CheckStage) → check_done_at bytes check stage ≡ Some step → All Few (left_of stage) → HasNone work
    by_stage (Comparing index later) is few = λ vid at has.
        let acts = ap (λ (s : CheckStep). s.act) (same_Some _ step is) ∙ act in
        let same = ap (check_work work) acts in
        no_inode check.vid index vid id (All-head Few index later few) (ap (λ (w : ObjWork). oid_of w) same ∙ has.object)
    by_stage (checks.WritingBack later) is few =
        on_none check later work (ap (λ (s : CheckStep). s.act) (same_Some (check_on check later) step is) ∙ act)
    by_stage checks.Answered is few = λ vid at has. cc (is)
