-- What a command comes to is its session's, step by step: its first entry, the tasks behind a grant, and the entry that publishes.
use Rattle.std.proofs.Common.{◌≡◌, ℕ, true, false, List, [], ◌∷◌, ◌++◌, Option, Some, None, IfSome, option_map, option_and_then, refl}
use Rattle.std.proofs.Common.{subst}
use Rattle.object_id.specs.declared.oid.Vid.{Vid}
use Rattle.object_id.specs.declared.node.NodeId.{NodeId}
use Rattle.object_id.specs.declared.entry.Entry.{Entry}
use Rattle.object_id.specs.declared.entry.Entry.TheVariants as entries
use Rattle.object_id.specs.declared.entry.Entry.TheVariants.{Format, Join, Leave, Reweight, Recovered, Reserve, Publish, Lock, Unlock}
use Rattle.object_id.specs.declared.entry.Origin.TheVariants.{Fresh, SnapshotOf, CloneOf}
use Rattle.inode.specs.Layout.{Content}
use Rattle.peer_proto.specs.declared.guest.VdiAsk.{VdiAsk}
use Rattle.peer_proto.specs.declared.guest.VdiAsk.TheVariants.{Create, Attach, Close, Snapshot, Clone, Delete, Check}
use Rattle.vdi_directory.specs.declared.header.Header.{Header}
use Rattle.vdi_directory.specs.declared.effect.Effect.{Effect}
use Rattle.vdi_directory.specs.declared.decision.Decision.{Decision}
use Rattle.vdi_directory.specs.declared.decision.Decision.TheVariants as decisions
use Rattle.vdi_directory.specs.Chains.{chain_of}
use Rattle.vdi_directory.specs.Decisions.{log_effects, decision_after}
use Rattle.vdi_directory.specs.Effects.{header_of}
use Rattle.vdi_ops.specs.Entries.{first_entry}
use Rattle.vdi_ops.specs.Op.{Task, Opening, WritingBack, Tagging, Copying, Making, OpStage, Asked, Working, Publishing, Answered, Op}
use Rattle.vdi_ops.specs.Op.{OpStep}
use Rattle.vdi_ops.specs.Steps.{first_step, begin_command, tag_step, copy_step, step_after_grant, step_after_decision, decided_at}
use Rattle.vdi_ops.specs.Steps.{on_decision, task_done, done_at, op_on_done}
use Rattle.sheep_node.proofs.ValidSteps.{given}
use Rattle.overlap_law.specs.AwaitedEntries.{WasReserved, IsSessionsEntry, IsSessionsTask, IsSessionsStage, IsSessionsCommand}
use Rattle.overlap_law.proofs.ReservedIds.{reserved_now}

-- an id that was granted on an entry was reserved by it, if the entry reserves one
abbrev pub IsReservedBy : List Effect → Vid → Entry → Type 0
IsReservedBy known vid (Reserve by session name origin) = WasReserved known by session vid.0
IsReservedBy known vid (Format members) = Unit {0}
IsReservedBy known vid (Join node zone vnodes) = Unit {0}
IsReservedBy known vid (Leave node) = Unit {0}
IsReservedBy known vid (Reweight node vnodes) = Unit {0}
IsReservedBy known vid (Recovered node epoch) = Unit {0}
IsReservedBy known vid (Publish by made) = Unit {0}
IsReservedBy known vid (entries.Clone by made) = Unit {0}
IsReservedBy known vid (entries.Snapshot by old made) = Unit {0}
IsReservedBy known vid (entries.Delete by session name tag) = Unit {0}
IsReservedBy known vid (Lock by session name tag) = Unit {0}
IsReservedBy known vid (Unlock by session old) = Unit {0}

pub reserved_by : (read : List Entry) (entry : Entry) (vid : Vid) → decision_after read entry ≡ decisions.Granted vid
    → IsReservedBy (log_effects (read ++ entry ∷ [])) vid entry
reserved_by read (Reserve by session name origin) vid is = reserved_now read by session name origin vid is
reserved_by read (Format members) vid is = tt
reserved_by read (Join node zone vnodes) vid is = tt
reserved_by read (Leave node) vid is = tt
reserved_by read (Reweight node vnodes) vid is = tt
reserved_by read (Recovered node epoch) vid is = tt
reserved_by read (Publish by made) vid is = tt
reserved_by read (entries.Clone by made) vid is = tt
reserved_by read (entries.Snapshot by old made) vid is = tt
reserved_by read (entries.Delete by session name tag) vid is = tt
reserved_by read (Lock by session name tag) vid is = tt
reserved_by read (Unlock by session old) vid is = tt

module _ (known : List Effect) (me : NodeId) (session : ℕ) where
  abbrev IsOwn : Op → Type 0
  IsOwn op = IsSessionsCommand known me session op

  abbrev IsOwnStep : OpStep → Type 0
  IsOwnStep step = IsOwn step.op

  -- ---- it begins

  first_own : (disk : Option Content) (ask : VdiAsk) → IfSome (first_entry me session disk ask) (IsSessionsEntry known me session)
  first_own disk (Create name spec) = (refl, refl)
  first_own disk (Attach name tag) = (refl, refl)
  first_own None Close = tt
  first_own (Some inode) Close = (refl, refl)
  first_own None (Snapshot tag) = tt
  first_own (Some inode) (Snapshot tag) = (refl, refl)
  first_own disk (Clone base tag name) = (refl, refl)
  first_own disk (Delete name tag) = (refl, refl)
  first_own disk Check = tt

  pub begins-own : (ask : VdiAsk) (disk : Option Content) (step : OpStep) → begin_command me session ask disk ≡ Some step → IsOwn step.op
  unfolding begin_command
  begins-own ask disk step is = by_entry (first_entry me session disk ask) (first_own disk ask) is
    where
      by_entry : (entry : Option Entry) → IfSome entry (IsSessionsEntry known me session)
          → option_map (first_step me session) entry ≡ Some step → IsOwn step.op
      by_entry None own is = absurd (cc (is))
      by_entry (Some entry) own is = given IsOwnStep is (record { by = refl; of = refl; stage = own })

  module _ (op : Op) (by : op.by ≡ me) (of : op.session ≡ session) where
    -- ---- its work is done

    task-own : (vid : Vid) (bytes : List ℕ) (task : Task) → IsSessionsTask known me session vid task
        → IsOwnStep (task_done op vid bytes task)
    task-own vid bytes (Opening true ids header) is = record { by = by; of = of; stage = tt }
    task-own vid bytes (Opening false ids header) is = record { by = by; of = of; stage = tt }
    task-own vid bytes (WritingBack inode) is = record { by = by; of = of; stage = tt }
    task-own vid bytes (Tagging old inode) is = record { by = by; of = of; stage = (by, is) }
    task-own vid bytes (Copying ids header) is = record { by = by; of = of; stage = (by, is) }
    task-own vid bytes (Making entry opened) is = record { by = by; of = of; stage = is }

    -- ---- its entry is decided

    module _ (vid : Vid) (chain : List ℕ) (header : Header) where
      tagged-own : (tag : List ℕ) (disk : Option Content) → WasReserved known me session vid.0
          → IfSome (option_map (tag_step op vid tag header) disk) IsOwnStep
      tagged-own tag None is = tt
      tagged-own tag (Some old) is = record { by = by; of = of; stage = is }

      copied-own : (parent : Option Vid) → WasReserved known me session vid.0
          → IfSome (option_map (copy_step op vid chain header) parent) IsOwnStep
      copied-own None is = tt
      copied-own (Some parent) is = record { by = by; of = of; stage = is }

      reserved-own : (who : NodeId) (asks : ℕ) → who ≡ me → asks ≡ session → WasReserved known who asks vid.0
          → WasReserved known me session vid.0
      reserved-own who asks own of_it is =
          subst (λ (m : NodeId). WasReserved known m session vid.0) own (subst (λ (s : ℕ). WasReserved known who s vid.0) of_it is)

      granted-own : (disk : Option Content) (entry : Entry) → IsSessionsEntry known me session entry → IsReservedBy known vid entry
          → IfSome (step_after_grant op vid chain disk entry header) IsOwnStep
      granted-own disk (Reserve who asks name (Fresh spec)) own is =
          record { by = by; of = of; stage = (by, reserved-own who asks own.0 own.1 is) }
      granted-own disk (Reserve who asks name (SnapshotOf tag)) own is = tagged-own tag disk (reserved-own who asks own.0 own.1 is)
      granted-own disk (Reserve who asks name (CloneOf base tag)) own is = copied-own header.parent (reserved-own who asks own.0 own.1 is)
      granted-own disk (Lock who asks name tag) own is = record { by = by; of = of; stage = tt }
      granted-own disk (Unlock who asks id) own is = record { by = by; of = of; stage = tt }
      granted-own disk (entries.Delete who asks name tag) own is = record { by = by; of = of; stage = tt }
      granted-own disk (Format members) own is = tt
      granted-own disk (Join node zone vnodes) own is = tt
      granted-own disk (Leave node) own is = tt
      granted-own disk (Reweight node vnodes) own is = tt
      granted-own disk (Recovered node epoch) own is = tt
      granted-own disk (Publish who id) own is = tt
      granted-own disk (entries.Clone who id) own is = tt
      granted-own disk (entries.Snapshot who old id) own is = tt

    decision-own : (disk : Option Content) (entry : Entry) (decision : Decision) → IsSessionsEntry known me session entry
        → ((vid : Vid) → decision ≡ decisions.Granted vid → IsReservedBy known vid entry)
        → IfSome (step_after_decision known disk op entry decision) IsOwnStep
    decision-own disk entry decisions.None own is = record { by = by; of = of; stage = tt }
    decision-own disk entry (decisions.Granted vid) own is = by_header (header_of known vid.0)
      where
        by_header : (header : Option Header)
            → IfSome (option_and_then (step_after_grant op vid (chain_of known vid.0) disk entry) header) IsOwnStep
        by_header None = tt
        by_header (Some header) = granted-own vid (chain_of known vid.0) header disk entry own (is vid refl)
    decision-own disk entry (decisions.Refused cause) own is = record { by = by; of = of; stage = tt }

  if_own : (one : Option OpStep) (step : OpStep) → IfSome one IsOwnStep → one ≡ Some step → IsOwn step.op
  if_own one step own is = subst (λ (o : Option OpStep). IfSome o IsOwnStep) is own

  pub goes_on-own : (bytes : List ℕ) (op : Op) (step : OpStep) → op_on_done bytes op ≡ Some step → IsOwn op → IsOwn step.op
  unfolding op_on_done
  goes_on-own bytes op step next is = by_stage op.stage next is.stage
    where
      by_stage : (stage : OpStage) → done_at bytes op stage ≡ Some step → IsSessionsStage known me session stage → IsOwn step.op
      by_stage (Asked entry) next own = absurd (cc (next))
      by_stage (Working vid task) next own = given IsOwnStep next (task-own op is.by is.of vid bytes task own)
      by_stage (Publishing entry opened) next own = absurd (cc (next))
      by_stage (Answered change) next own = absurd (cc (next))

  pub decided-own : (disk : Option Content) (decision : Decision) (op : Op) (step : OpStep) → on_decision known disk decision op ≡ Some step
      → IsOwn op
      → ((entry : Entry) (vid : Vid) → op.stage ≡ Asked entry → decision ≡ decisions.Granted vid → IsReservedBy known vid entry)
      → IsOwn step.op
  unfolding on_decision
  decided-own disk decision op step next is grants = by_stage op.stage refl next is.stage
    where
      by_stage : (stage : OpStage) → op.stage ≡ stage → decided_at known disk decision op stage ≡ Some step
          → IsSessionsStage known me session stage
          → IsOwn step.op
      by_stage (Asked entry) at next own =
          if_own (step_after_decision known disk op entry decision) step
          (decision-own op is.by is.of disk entry decision own (λ vid granted. grants entry vid at granted)) next
      by_stage (Working vid task) at next own = absurd (cc (next))
      by_stage (Publishing entry opened) at next own = given IsOwnStep next (record { by = is.by; of = is.of; stage = tt })
      by_stage (Answered change) at next own = absurd (cc (next))
