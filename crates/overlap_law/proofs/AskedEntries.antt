-- The entries that requests lead to: no command comes to a `Recovered`.
use Rattle.std.proofs.Common.{◌≡◌, ℕ, true, false, List, Option, Some, None, IfSome, refl, subst}
use Rattle.std.specs.FinMap as tree
use Rattle.std.specs.Option.{option_map}
use Rattle.object_id.specs.declared.oid.Vid.{Vid}
use Rattle.object_id.specs.declared.cause.Cause.{Cause}
use Rattle.object_id.specs.declared.node.NodeId.{NodeId}
use Rattle.object_id.specs.declared.entry.Entry.{Entry}
use Rattle.object_id.specs.declared.entry.Entry.TheVariants as entries
use Rattle.object_id.specs.declared.entry.Entry.TheVariants.{Format, Join, Leave, Reweight, Recovered, Reserve, Publish, Lock, Unlock}
use Rattle.epoch_log.specs.Epochs.{recovers}
use Rattle.inode.specs.Layout.{Content}
use Rattle.vdi_directory.specs.declared.effect.Effect.{Effect}
use Rattle.vdi_directory.specs.declared.decision.Decision.{Decision}
use Rattle.peer_proto.specs.declared.guest.VdiAsk.{VdiAsk}
use Rattle.peer_proto.specs.declared.guest.VdiAsk.TheVariants.{Create, Attach, Close, Snapshot, Clone, Delete, Check}
use Rattle.vdi_ops.specs.declared.end.OpEnd.{OpEnd}
use Rattle.vdi_ops.specs.Entries.{first_entry}
use Rattle.vdi_ops.specs.Op as ops
use Rattle.vdi_ops.specs.Op.{Task, Opening, WritingBack, Tagging, Copying, Making, OpStage, Asked, Working, Publishing, Answered, Op}
use Rattle.vdi_ops.specs.Steps.{first_step, begin_command, on_decision, task_done, done_at, op_on_done, refused_at, on_refusal}
use Rattle.sheep_node.specs.declared.ask.Ask.TheVariants as asks
use Rattle.sheep_node.specs.declared.input.Input.{Input}
use Rattle.sheep_node.specs.declared.input.Input.TheVariants as inputs
use Rattle.sheep_node.specs.declared.course.Course.{Course}
use Rattle.sheep_node.specs.declared.course.Request.{Request}
use Rattle.sheep_node.specs.declared.course.Course.TheVariants.{Waiting, Driving, Commanding, Checking, DoingWork, AwaitingDecision}
use Rattle.sheep_node.specs.State.{Node}
use Rattle.overlap_law.proofs.ClosedFirstStages.{HoldsAtFirst, decision_so}

-- an entry that a request puts
abbrev pub IsAskedEntry : Entry → Type 0
IsAskedEntry (Format members) = ⊥
IsAskedEntry (Join node zone vnodes) = ⊥
IsAskedEntry (Leave node) = ⊥
IsAskedEntry (Reweight node vnodes) = ⊥
IsAskedEntry (Recovered node epoch) = ⊥
IsAskedEntry (Reserve by session name origin) = Unit {0}
IsAskedEntry (Publish by vid) = Unit {0}
IsAskedEntry (entries.Clone by vid) = Unit {0}
IsAskedEntry (entries.Snapshot by old vid) = Unit {0}
IsAskedEntry (entries.Delete by session name tag) = Unit {0}
IsAskedEntry (Lock by session name tag) = Unit {0}
IsAskedEntry (Unlock by session vid) = Unit {0}

-- the entry that a task leads to is
abbrev pub IsTaskToAsked : Task → Type 0
IsTaskToAsked (Opening snapshot ids header) = Unit {0}
IsTaskToAsked (WritingBack inode) = Unit {0}
IsTaskToAsked (Tagging old inode) = Unit {0}
IsTaskToAsked (Copying ids header) = Unit {0}
IsTaskToAsked (Making entry opened) = IsAskedEntry entry

-- the one that a command waits for, or comes to, is
abbrev pub IsStageToAsked : OpStage → Type 0
IsStageToAsked (Asked entry) = IsAskedEntry entry
IsStageToAsked (Working vid task) = IsTaskToAsked task
IsStageToAsked (Publishing entry opened) = IsAskedEntry entry
IsStageToAsked (Answered change) = Unit {0}

abbrev pub IsCourseToAsked : Course → Type 0
IsCourseToAsked (Waiting ask) = Unit {0}
IsCourseToAsked (Driving driver) = Unit {0}
IsCourseToAsked (Commanding op) = IsStageToAsked op.stage
IsCourseToAsked (Checking check) = Unit {0}
IsCourseToAsked (DoingWork work) = Unit {0}
IsCourseToAsked (AwaitingDecision entry) = IsAskedEntry entry

-- each request comes to no other entries
abbrev pub OnlyAskedEntries : Node → Type 0
OnlyAskedEntries node = (req : ℕ) (request : Request) → tree.get node.requests req ≡ Some request → IsCourseToAsked request.course

-- where the input asks for an entry, it is such a one
abbrev pub AsksForNoRecovered : Input → Type 0
AsksForNoRecovered (inputs.Guest req session (asks.Entry entry)) = IsAskedEntry entry
AsksForNoRecovered _ = Unit {0}

-- such an entry is no `Recovered`
pub recovers_none : (epoch node : ℕ) (entry : Entry) → IsAskedEntry entry → recovers epoch node entry ≡ false
recovers_none epoch node (Format members) of = absurd of
recovers_none epoch node (Join other zone vnodes) of = absurd of
recovers_none epoch node (Leave other) of = absurd of
recovers_none epoch node (Reweight other vnodes) of = absurd of
recovers_none epoch node (Recovered other at) of = absurd of
recovers_none epoch node (Reserve by session name origin) of = refl
recovers_none epoch node (Publish by vid) of = refl
recovers_none epoch node (entries.Clone by vid) of = refl
recovers_none epoch node (entries.Snapshot by old vid) of = refl
recovers_none epoch node (entries.Delete by session name tag) of = refl
recovers_none epoch node (Lock by session name tag) of = refl
recovers_none epoch node (Unlock by session vid) of = refl

-- ---- the steps of a command

abbrev pub StepTo : ops.OpStep → Type 0
StepTo step = IsStageToAsked step.op.stage

first_to : (by : NodeId) (session : ℕ) (disk : Option Content) (ask : VdiAsk) → IfSome (first_entry by session disk ask) IsAskedEntry
first_to by session disk (Create name spec) = tt
first_to by session disk (Attach name tag) = tt
first_to by session None Close = tt
first_to by session (Some inode) Close = tt
first_to by session None (Snapshot tag) = tt
first_to by session (Some inode) (Snapshot tag) = tt
first_to by session disk (Clone base tag name) = tt
first_to by session disk (Delete name tag) = tt
first_to by session disk Check = tt

begun_to : (by : NodeId) (session : ℕ) (entry : Option Entry) → IfSome entry IsAskedEntry
    → IfSome (option_map (first_step by session) entry) StepTo
begun_to by session None of = tt
begun_to by session (Some entry) of = of

pub begin_to : (by : NodeId) (session : ℕ) (ask : VdiAsk) (disk : Option Content) → IfSome (begin_command by session ask disk) StepTo
unfolding begin_command
begin_to by session ask disk = begun_to by session (first_entry by session disk ask) (first_to by session disk ask)

asked_at_first : HoldsAtFirst IsStageToAsked
asked_at_first = record {
  stays = tt;
  closes = tt;
  opening = λ vid snapshot ids header. tt;
  tagging = λ vid old inode. tt;
  copying = λ vid ids header. tt;
  making = λ vid by. tt;
}

module _ (op : Op) where
  task_to : (vid : Vid) (bytes : List ℕ) (task : Task) → IsTaskToAsked task → StepTo (task_done op vid bytes task)
  task_to vid bytes (Opening true ids header) of = tt
  task_to vid bytes (Opening false ids header) of = tt
  task_to vid bytes (WritingBack inode) of = tt
  task_to vid bytes (Tagging old inode) of = tt
  task_to vid bytes (Copying ids header) of = tt
  task_to vid bytes (Making entry opened) of = of

  at_done : (bytes : List ℕ) (stage : OpStage) → IsStageToAsked stage → IfSome (done_at bytes op stage) StepTo
  at_done bytes (Asked entry) of = tt
  at_done bytes (Working vid task) of = task_to vid bytes task of
  at_done bytes (Publishing entry opened) of = tt
  at_done bytes (Answered change) of = tt

  at_refusal : (cause : Cause) (stage : OpStage) → IfSome (refused_at cause op stage) (λ (end : OpEnd). IfSome end.unlock IsAskedEntry)
  at_refusal cause (Asked entry) = tt
  at_refusal cause (Working vid task) = tt
  at_refusal cause (Publishing entry opened) = tt
  at_refusal cause (Answered change) = tt

  pub done_to : (bytes : List ℕ) → IsStageToAsked op.stage → IfSome (op_on_done bytes op) StepTo
  unfolding op_on_done
  done_to bytes of = at_done bytes op.stage of

  pub decision_to : (known : List Effect) (disk : Option Content) (decision : Decision)
      → IfSome (on_decision known disk decision op) StepTo
  decision_to = decision_so IsStageToAsked asked_at_first op (λ inode. tt)

  pub refusal_to : (cause : Cause) → IfSome (on_refusal cause op) (λ (end : OpEnd). IfSome end.unlock IsAskedEntry)
  unfolding on_refusal
  refusal_to cause = at_refusal cause op.stage

pub step_to : (one : Option ops.OpStep) (step : ops.OpStep) → IfSome one StepTo → one ≡ Some step → StepTo step
step_to one step of is = subst (λ (o : Option ops.OpStep). IfSome o StepTo) is of
