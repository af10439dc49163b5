-- A step depends on a command's node and stage alone: what it makes of a bare command of the node tells what it makes of any.
use Rattle.std.proofs.Common.{◌≡◌, ℕ, true, false, List, Option, Some, None, is_some, refl, sym, ap, ◌∙◌}
use Rattle.std.specs.Option.{option_and_then, option_map}
use Rattle.object_id.specs.declared.oid.Vid.{Vid}
use Rattle.object_id.specs.declared.entry.Entry.{Entry}
use Rattle.object_id.specs.declared.entry.Entry.TheVariants as entries
use Rattle.object_id.specs.declared.entry.Origin.TheVariants.{Fresh, SnapshotOf, CloneOf}
use Rattle.object_id.specs.declared.node.NodeId.{NodeId}
use Rattle.inode.specs.Layout.{Content}
use Rattle.peer_proto.specs.declared.guest.VdiAsk.{VdiAsk}
use Rattle.vdi_directory.specs.declared.header.Header.{Header}
use Rattle.vdi_directory.specs.declared.effect.Effect.{Effect}
use Rattle.vdi_directory.specs.declared.decision.Decision.{Decision}
use Rattle.vdi_directory.specs.declared.decision.Decision.TheVariants as decisions
use Rattle.vdi_directory.specs.Effects.{header_of}
use Rattle.vdi_directory.specs.Chains.{chain_of}
use Rattle.vdi_ops.specs.declared.act.OpAct.TheVariants.{Append}
use Rattle.vdi_ops.specs.Entries.{first_entry}
use Rattle.vdi_ops.specs.declared.stage.Next.{Next}
use Rattle.vdi_ops.specs.Op.{Opening, WritingBack, Tagging, Copying, Making, OpStage, Asked, Working, Publishing, Answered, Op, OpStep}
use Rattle.vdi_ops.specs.Steps.{first_step, begin_command, copy_step, tag_step, step_after_grant, step_after_decision, decided_at, on_decision, done_at, op_on_done}
use Rattle.vdi_ops.specs.Stage.{bare_op, step_to}

pub begun-step : (by : NodeId) (session : ℕ) (ask : VdiAsk) (disk : Option Content) (entry put : Entry)
    → first_entry by session disk ask ≡ Some entry → put ≡ entry
    → begin_command by session ask disk ≡ Some (record { op = record { by = by; session = session; stage = Asked entry }; act = Append put })
unfolding begin_command
begun-step by session ask disk entry put e copied =
    ap (option_map (first_step by session)) e
    ∙ ap (λ (other : Entry). Some (record { op = record { by = by; session = session; stage = Asked entry }; act = Append other })) (sym copied)

-- a step as one of this command
abbrev moved : Op → OpStep → OpStep
moved op step = record { op = record op { stage = step.op.stage }; act = step.act }

moved-done : (bytes : List ℕ) (op : Op) (stage : OpStage) → done_at bytes op stage ≡ option_map (moved op) (done_at bytes (bare_op op.by) stage)
moved-done bytes op (Asked entry) = refl
moved-done bytes op (Working vid (Opening true ids header)) = refl
moved-done bytes op (Working vid (Opening false ids header)) = refl
moved-done bytes op (Working vid (WritingBack inode)) = refl
moved-done bytes op (Working vid (Tagging old inode)) = refl
moved-done bytes op (Working vid (Copying ids header)) = refl
moved-done bytes op (Working vid (Making entry opened)) = refl
moved-done bytes op (Publishing entry opened) = refl
moved-done bytes op (Answered change) = refl

pub done-step : (op : Op) (bytes : List ℕ) (next : Next) → done_at bytes (bare_op op.by) op.stage ≡ Some (step_to (bare_op op.by) next)
    → op_on_done bytes op ≡ Some (step_to op next)
unfolding op_on_done
done-step op bytes next e = moved-done bytes op op.stage ∙ ap (option_map (moved op)) e

tag-moved : (op : Op) (vid : Vid) (tag : List ℕ) (header : Header) (disk : Option Content)
    → option_map (tag_step op vid tag header) disk ≡ option_map (moved op) (option_map (tag_step (bare_op op.by) vid tag header) disk)
tag-moved op vid tag header None = refl
tag-moved op vid tag header (Some disk) = refl

copy-moved : (op : Op) (vid : Vid) (chain : List ℕ) (header : Header) (parent : Option Vid)
    → option_map (copy_step op vid chain header) parent ≡ option_map (moved op) (option_map (copy_step (bare_op op.by) vid chain header) parent)
copy-moved op vid chain header None = refl
copy-moved op vid chain header (Some parent) = refl

moved-grant : (op : Op) (vid : Vid) (chain : List ℕ) (disk : Option Content) (entry : Entry) (header : Header)
    → step_after_grant op vid chain disk entry header ≡ option_map (moved op) (step_after_grant (bare_op op.by) vid chain disk entry header)
moved-grant op vid chain disk (entries.Reserve by session name (Fresh spec)) header = refl
moved-grant op vid chain disk (entries.Reserve by session name (SnapshotOf tag)) header = tag-moved op vid tag header disk
moved-grant op vid chain disk (entries.Reserve by session name (CloneOf base tag)) header = copy-moved op vid chain header header.parent
moved-grant op vid chain disk (entries.Lock by session name tag) header = refl
moved-grant op vid chain disk (entries.Unlock by session id) header = refl
moved-grant op vid chain disk (entries.Delete by session name tag) header = refl
moved-grant op vid chain disk (entries.Format members) header = refl
moved-grant op vid chain disk (entries.Join node zone vnodes) header = refl
moved-grant op vid chain disk (entries.Leave node) header = refl
moved-grant op vid chain disk (entries.Reweight node vnodes) header = refl
moved-grant op vid chain disk (entries.Recovered node epoch) header = refl
moved-grant op vid chain disk (entries.Publish by id) header = refl
moved-grant op vid chain disk (entries.Clone by id) header = refl
moved-grant op vid chain disk (entries.Snapshot by old id) header = refl

moved-granted : (op : Op) (vid : Vid) (chain : List ℕ) (disk : Option Content) (entry : Entry) (header : Option Header)
    → option_and_then (step_after_grant op vid chain disk entry) header
    ≡ option_map (moved op) (option_and_then (step_after_grant (bare_op op.by) vid chain disk entry) header)
moved-granted op vid chain disk entry None = refl
moved-granted op vid chain disk entry (Some header) = moved-grant op vid chain disk entry header

moved-decision : (known : List Effect) (disk : Option Content) (op : Op) (entry : Entry) (decision : Decision)
    → step_after_decision known disk op entry decision ≡ option_map (moved op) (step_after_decision known disk (bare_op op.by) entry decision)
moved-decision known disk op entry decisions.None = refl
moved-decision known disk op entry (decisions.Granted vid) = moved-granted op vid (chain_of known vid.0) disk entry (header_of known vid.0)
moved-decision known disk op entry (decisions.Refused cause) = refl

moved-decided : (known : List Effect) (disk : Option Content) (decision : Decision) (op : Op) (stage : OpStage)
    → decided_at known disk decision op stage ≡ option_map (moved op) (decided_at known disk decision (bare_op op.by) stage)
moved-decided known disk decision op (Asked entry) = moved-decision known disk op entry decision
moved-decided known disk decision op (Working vid task) = refl
moved-decided known disk decision op (Publishing entry opened) = refl
moved-decided known disk decision op (Answered change) = refl

pub decided-step : (known : List Effect) (disk : Option Content) (decision : Decision) (op : Op) (next : Next)
    → decided_at known disk decision (bare_op op.by) op.stage ≡ Some (step_to (bare_op op.by) next)
    → on_decision known disk decision op ≡ Some (step_to op next)
unfolding on_decision
decided-step known disk decision op next e = moved-decided known disk decision op op.stage ∙ ap (option_map (moved op)) e

some_moved : (op : Op) (step : Option OpStep) → is_some (option_map (moved op) step) ≡ is_some step
some_moved op None = refl
some_moved op (Some step) = refl

-- a command has a step where the bare one has
pub decided-some : (known : List Effect) (disk : Option Content) (decision : Decision) (op : Op)
    → is_some (on_decision known disk decision op) ≡ true → is_some (decided_at known disk decision (bare_op op.by) op.stage) ≡ true
unfolding on_decision
decided-some known disk decision op e =
    sym (ap is_some (moved-decided known disk decision op op.stage) ∙ some_moved op (decided_at known disk decision (bare_op op.by) op.stage)) ∙ e
