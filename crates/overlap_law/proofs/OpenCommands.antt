-- A command goes on with what its session has open: step by step, from the request on.
use Rattle.std.proofs.Common.{◌≡◌, ℕ, Bool, true, false, List, Option, Some, None, IfSome, option_map, option_and_then, refl, sym, ap}
use Rattle.std.proofs.Common.{subst, ◌∙◌}
use Rattle.std.proofs.lemmas.Option.{same_Some}
use Rattle.object_id.specs.declared.oid.Vid.{Vid}
use Rattle.object_id.specs.declared.node.NodeId.{NodeId}
use Rattle.object_id.specs.declared.entry.Entry.{Entry}
use Rattle.object_id.specs.declared.entry.Entry.TheVariants as entries
use Rattle.object_id.specs.declared.entry.Entry.TheVariants.{Format, Join, Leave, Reweight, Recovered, Reserve, Publish, Lock, Unlock}
use Rattle.object_id.specs.declared.entry.Origin.TheVariants.{Fresh, SnapshotOf, CloneOf}
use Rattle.guest_driver.specs.declared.disk.Disk.{Disk}
use Rattle.peer_proto.specs.declared.guest.VdiAsk.{VdiAsk}
use Rattle.peer_proto.specs.declared.guest.VdiAsk.TheVariants.{Create, Attach, Close, Snapshot, Clone, Delete, Check}
use Rattle.vdi_directory.specs.declared.header.Header.{Header}
use Rattle.vdi_directory.specs.declared.effect.Effect.{Effect}
use Rattle.vdi_directory.specs.declared.decision.Decision.{Decision}
use Rattle.vdi_directory.specs.declared.decision.Decision.TheVariants as decisions
use Rattle.vdi_directory.specs.Chains.{chain_of}
use Rattle.vdi_directory.specs.Effects.{header_of}
use Rattle.vdi_ops.specs.Entries.{first_entry, command_refusal}
use Rattle.vdi_ops.specs.Op.{Task, Opening, WritingBack, Tagging, Copying, Making, OpStage, Asked, Working, Publishing, Answered}
use Rattle.vdi_ops.specs.Op.{disk_change_at, Op, OpStep}
use Rattle.vdi_ops.specs.Steps.{first_step, begin_command, tag_step, copy_step, step_after_grant, step_after_decision, decided_at}
use Rattle.vdi_ops.specs.Steps.{on_decision, task_done, done_at, op_on_done}
use Rattle.sheep_node.specs.Courses.{inode_open, disk_after}
use Rattle.sheep_node.specs.Guests.{seen_by_command}
use Rattle.sheep_node.proofs.ValidSteps.{given}
use Rattle.overlap_law.specs.CommandDisks.{opened_as, IsOpenAtFirst, IsOpenAtTask, IsOpenAtStage}

abbrev Opened : Type 0
Opened = Option (Bool × ℕ)

-- ---- it begins, where it isn't refused

module _ (me : NodeId) (session : ℕ) (step : OpStep) where
  abbrev Begins : Option Disk → VdiAsk → Type 0
  Begins disk ask =
      command_refusal (seen_by_command disk) ask ≡ None → option_map (first_step me session) (first_entry me session (inode_open disk) ask)
      ≡ Some step
      → IsOpenAtStage (opened_as disk) step.op.stage

  abbrev IsOpenAtStep : Option Disk → OpStep → Type 0
  IsOpenAtStep disk step = IsOpenAtStage (opened_as disk) step.op.stage

  attached : (disk : Option Disk) (name : List ℕ) (tag : Option (List ℕ)) → Begins disk (Attach name tag)
  attached None name tag allowed is = given (IsOpenAtStep None) is refl
  attached (Some disk) name tag allowed is = absurd (cc (allowed))

  closed : (disk : Option Disk) → Begins disk Close
  closed None allowed is = absurd (cc (is))
  closed (Some disk) allowed is = given (IsOpenAtStep (Some disk)) is (disk.snapshot, refl)

  taken : (disk : Option Disk) (tag : List ℕ) → Begins disk (Snapshot tag)
  taken None tag allowed is = absurd (cc (is))
  taken (Some disk) tag allowed is = by_kind disk.snapshot refl
    where
      by_kind : (b : Bool) → disk.snapshot ≡ b → IsOpenAtStage (opened_as (Some disk)) step.op.stage
      by_kind true snapshot =
          let refused = ap (λ (b : Bool). command_refusal (Some (record { inode = disk.inode; snapshot = b })) (Snapshot tag))
          (sym snapshot) ∙ allowed in
          absurd (cc (refused))
      by_kind false working =
          given (IsOpenAtStep (Some disk)) is (disk.inode.vid, ap (λ (b : Bool). Some (b, disk.inode.vid)) working)

  pub begins_open : (disk : Option Disk) (ask : VdiAsk) → command_refusal (seen_by_command disk) ask ≡ None
      → begin_command me session ask (inode_open disk) ≡ Some step → IsOpenAtStage (opened_as disk) step.op.stage
  unfolding begin_command
  begins_open disk (Create name spec) allowed is = given (IsOpenAtStep disk) is tt
  begins_open disk (Attach name tag) allowed is = attached disk name tag allowed is
  begins_open disk Close allowed is = closed disk allowed is
  begins_open disk (Snapshot tag) allowed is = taken disk tag allowed is
  begins_open disk (Clone base tag name) allowed is = given (IsOpenAtStep disk) is tt
  begins_open disk (Delete name tag) allowed is = given (IsOpenAtStep disk) is tt
  begins_open disk Check allowed is = absurd (cc (is))

-- ---- its work is done

module _ (op : Op) where
  task_open : (opened : Opened) (vid : Vid) (bytes : List ℕ) (task : Task) → IsOpenAtTask opened vid task
      → IsOpenAtStage opened (task_done op vid bytes task).op.stage
  task_open opened vid bytes (Opening true ids header) is = tt
  task_open opened vid bytes (Opening false ids header) is = (is, refl)
  task_open opened vid bytes (WritingBack inode) is = tt
  task_open opened vid bytes (Tagging old inode) is = is
  task_open opened vid bytes (Copying ids header) is = refl
  task_open opened vid bytes (Making entry made) is = is

  pub goes_on_open : (opened : Opened) (bytes : List ℕ) (step : OpStep) → op_on_done bytes op ≡ Some step → IsOpenAtStage opened op.stage
      → IsOpenAtStage opened step.op.stage
  unfolding op_on_done
  goes_on_open opened bytes step next is = by_stage op.stage next is
    where
      by_stage : (stage : OpStage) → done_at bytes op stage ≡ Some step → IsOpenAtStage opened stage → IsOpenAtStage opened step.op.stage
      by_stage (Asked entry) next is = absurd (cc (next))
      by_stage (Working vid task) next is =
          given (λ (s : OpStep). IsOpenAtStage opened s.op.stage) next (task_open opened vid bytes task is)
      by_stage (Publishing entry made) next is = absurd (cc (next))
      by_stage (Answered change) next is = absurd (cc (next))

  -- ---- its entry is decided

  module _ (disk : Option Disk) where
    abbrev IsOpenAt : OpStep → Type 0
    IsOpenAt step = IsOpenAtStage (opened_as disk) step.op.stage

  tagged_open : (vid : Vid) (tag : List ℕ) (header : Header) (disk : Option Disk) → (of : ℕ) × (opened_as disk ≡ Some (false, of))
      → IfSome (option_map (tag_step op vid tag header) (inode_open disk)) (IsOpenAt disk)
  tagged_open vid tag header None is = tt
  tagged_open vid tag header (Some disk) (of, is) =
      let both : (disk.snapshot, disk.inode.vid) ≡ (false, of) = same_Some (disk.snapshot, disk.inode.vid) (false, of) is in
      let working : disk.snapshot ≡ false = ap (λ (p : Bool × ℕ). p.0) both in
      (ap (λ (b : Bool). Some (b, disk.inode.vid)) working, refl)

  copied_open : (vid : Vid) (chain : List ℕ) (header : Header) (disk : Option Disk) (parent : Option Vid)
      → IfSome (option_map (copy_step op vid chain header) parent) (IsOpenAt disk)
  copied_open vid chain header disk None = tt
  copied_open vid chain header disk (Some parent) = tt

  granted_open : (vid : Vid) (chain : List ℕ) (disk : Option Disk) (entry : Entry) (header : Header) → IsOpenAtFirst (opened_as disk) entry
      → IfSome (step_after_grant op vid chain (inode_open disk) entry header) (IsOpenAt disk)
  granted_open vid chain disk (Reserve by session name (Fresh spec)) header is = refl
  granted_open vid chain disk (Reserve by session name (SnapshotOf tag)) header is = tagged_open vid tag header disk is
  granted_open vid chain disk (Reserve by session name (CloneOf base tag)) header is = copied_open vid chain header disk header.parent
  granted_open vid chain disk (Lock by session name tag) header is = is
  granted_open vid chain disk (Unlock by session id) header is = tt
  granted_open vid chain disk (entries.Delete by session name tag) header is = tt
  granted_open vid chain disk (Format members) header is = tt
  granted_open vid chain disk (Join node zone vnodes) header is = tt
  granted_open vid chain disk (Leave node) header is = tt
  granted_open vid chain disk (Reweight node vnodes) header is = tt
  granted_open vid chain disk (Recovered node epoch) header is = tt
  granted_open vid chain disk (Publish by id) header is = tt
  granted_open vid chain disk (entries.Clone by id) header is = tt
  granted_open vid chain disk (entries.Snapshot by old id) header is = tt

  decision_open : (known : List Effect) (disk : Option Disk) (entry : Entry) (decision : Decision) → IsOpenAtFirst (opened_as disk) entry
      → IfSome (step_after_decision known (inode_open disk) op entry decision) (IsOpenAt disk)
  decision_open known disk entry decisions.None is = tt
  decision_open known disk entry (decisions.Granted vid) is = by_header (header_of known vid.0)
    where
      by_header : (header : Option Header)
          → IfSome (option_and_then (step_after_grant op vid (chain_of known vid.0) (inode_open disk) entry) header) (IsOpenAt disk)
      by_header None = tt
      by_header (Some header) = granted_open vid (chain_of known vid.0) disk entry header is
  decision_open known disk entry (decisions.Refused cause) is = tt

  pub decided_open : (known : List Effect) (disk : Option Disk) (decision : Decision) (step : OpStep)
      → on_decision known (inode_open disk) decision op ≡ Some step → IsOpenAtStage (opened_as disk) op.stage
      → IsOpenAtStage (opened_as disk) step.op.stage
  unfolding on_decision
  decided_open known disk decision step next is = subst (λ (o : Option OpStep). IfSome o (IsOpenAt disk)) next (by_stage op.stage is)
    where
      by_stage : (stage : OpStage) → IsOpenAtStage (opened_as disk) stage
          → IfSome (decided_at known (inode_open disk) decision op stage) (IsOpenAt disk)
      by_stage (Asked entry) is = decision_open known disk entry decision is
      by_stage (Working vid task) is = tt
      by_stage (Publishing entry made) is = tt
      by_stage (Answered change) is = tt

-- what a step leaves open is what it began with, or the command has its reply
pub left_open : (stage : OpStage) (disk : Option Disk) → IsOpenAtStage (opened_as disk) stage
    → IsOpenAtStage (opened_as (disk_after (disk_change_at stage) disk)) stage
left_open (Asked entry) disk is = is
left_open (Working vid task) disk is = is
left_open (Publishing entry made) disk is = is
left_open (Answered change) disk is = tt
