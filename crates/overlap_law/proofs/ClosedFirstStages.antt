-- A command begins with its first entry. What holds of a reply that leaves the session's disk open or closes it, and of each first work,
-- holds of each step by which that entry is decided.
use Rattle.std.proofs.Common.{◌≡◌, ℕ, Bool, false, List, ◌∷◌, Option, Some, None, option_map, IfSome, is_some, subst}
use Rattle.std.specs.Option.{option_and_then, option_map_or}
use Rattle.std.proofs.lemmas.Option.{same_Some}
use Rattle.object_id.specs.declared.entry.Entry.{Entry}
use Rattle.object_id.specs.declared.entry.Entry.TheVariants as entries
use Rattle.object_id.specs.declared.entry.Origin.TheVariants.{Fresh, SnapshotOf, CloneOf}
use Rattle.object_id.specs.declared.node.NodeId.{NodeId}
use Rattle.object_id.specs.declared.oid.Vid.{Vid}
use Rattle.inode.specs.Layout.{Content}
use Rattle.peer_proto.specs.declared.guest.VdiAsk.{VdiAsk}
use Rattle.vdi_directory.specs.declared.decision.Decision.{Decision}
use Rattle.vdi_directory.specs.declared.decision.Decision.TheVariants as decisions
use Rattle.vdi_directory.specs.declared.effect.Effect.{Effect}
use Rattle.vdi_directory.specs.declared.header.Header.{Header}
use Rattle.vdi_directory.specs.Chains.{chain_of}
use Rattle.vdi_directory.specs.Effects.{header_of}
use Rattle.vdi_ops.specs.Entries.{first_entry}
use Rattle.vdi_ops.specs.Op.{Stays, Opens, Closes, Op, OpStep, OpStage, Asked, Working, Publishing, Answered}
use Rattle.vdi_ops.specs.Op.{Opening, Tagging, Copying, Making}
use Rattle.vdi_ops.specs.Steps.{first_step, begin_command, tag_step, copy_step, change_without_grant, step_after_grant}
use Rattle.vdi_ops.specs.Steps.{step_after_decision, decided_at, on_decision}
use Rattle.vdi_ops.specs.Tables.{inode_by}

pub begins_first : (by : NodeId) (session : ℕ) (ask : VdiAsk) (disk : Option Content) (step : OpStep)
    → begin_command by session ask disk ≡ Some step → (entry : Entry) × (first_step by session entry ≡ step)
unfolding begin_command
begins_first by session ask disk step is = by_entry (first_entry by session disk ask) is
  where
    by_entry : (o : Option Entry) → option_map (first_step by session) o ≡ Some step
        → (entry : Entry) × (first_step by session entry ≡ step)
    by_entry None is = absurd (cc (is))
    by_entry (Some entry) is = (entry, same_Some (first_step by session entry) step is)

-- so what holds where an entry is asked holds as it begins
pub begins_so : (P : OpStage → Type 0) → ((entry : Entry) → P (Asked entry)) → (by : NodeId) (session : ℕ) (ask : VdiAsk)
    (disk : Option Content) (step : OpStep) → begin_command by session ask disk ≡ Some step → P step.op.stage
begins_so P asked by session ask disk step is =
    let (entry, same) = begins_first by session ask disk step is in subst (λ (s : OpStep). P s.op.stage) same (asked entry)

-- what holds of each stage that a command may come to as its first entry is decided
pub record HoldsAtFirst (P : OpStage → Type 0) : Type 0 where
  pub stays : P (Answered Stays)
  pub closes : P (Answered Closes)
  pub opening : (vid : Vid) (snapshot : Bool) (ids : List ℕ) (header : Header) → P (Working vid (Opening snapshot ids header))
  pub tagging : (vid old : Vid) (inode : Content) → P (Working vid (Tagging old inode))
  pub copying : (vid : Vid) (ids : List ℕ) (header : Header) → P (Working vid (Copying ids header))
  pub making : (vid : Vid) (by : NodeId) → P (Working vid (Making (entries.Publish by vid) None))

module _ (P : OpStage → Type 0) (first : HoldsAtFirst P) where
  abbrev Is : OpStep → Type 0
  Is step = P step.op.stage

  -- without a grant
  ungranted : (entry : Entry) → P (Answered (change_without_grant entry))
  ungranted (entries.Format members) = first.stays
  ungranted (entries.Join node zone vnodes) = first.stays
  ungranted (entries.Leave node) = first.stays
  ungranted (entries.Reweight node vnodes) = first.stays
  ungranted (entries.Recovered node epoch) = first.stays
  ungranted (entries.Reserve by session name origin) = first.stays
  ungranted (entries.Publish by of) = first.stays
  ungranted (entries.Clone by of) = first.stays
  ungranted (entries.Snapshot by old of) = first.stays
  ungranted (entries.Delete by session name tag) = first.stays
  ungranted (entries.Lock by session name tag) = first.stays
  ungranted (entries.Unlock by session of) = first.closes

  module _ (op : Op) where
    tagged : (of : Vid) (tag : List ℕ) (header : Header) (disk : Option Content) → IfSome (option_map (tag_step op of tag header) disk) Is
    tagged of tag header None = tt
    tagged of tag header (Some old) = first.tagging of (record { 0 = old.vid }) (inode_by header of.0 old.table)

    copied : (of : Vid) (chain : List ℕ) (header : Header) (parent : Option Vid)
        → IfSome (option_map (copy_step op of chain header) parent) Is
    copied of chain header None = tt
    copied of chain header (Some parent) = first.copying of chain header

    granted : (of : Vid) (chain : List ℕ) (disk : Option Content) (entry : Entry) (header : Header)
        → IfSome (step_after_grant op of chain disk entry header) Is
    granted of chain disk (entries.Format members) header = tt
    granted of chain disk (entries.Join node zone vnodes) header = tt
    granted of chain disk (entries.Leave node) header = tt
    granted of chain disk (entries.Reweight node vnodes) header = tt
    granted of chain disk (entries.Recovered node epoch) header = tt
    granted of chain disk (entries.Reserve by session name (Fresh spec)) header = first.making of op.by
    granted of chain disk (entries.Reserve by session name (SnapshotOf tag)) header = tagged of tag header disk
    granted of chain disk (entries.Reserve by session name (CloneOf base tag)) header = copied of chain header header.parent
    granted of chain disk (entries.Publish by id) header = tt
    granted of chain disk (entries.Clone by id) header = tt
    granted of chain disk (entries.Snapshot by old id) header = tt
    granted of chain disk (entries.Delete by session name tag) header = first.stays
    granted of chain disk (entries.Lock by session name tag) header = first.opening of (is_some tag) (of.0 ∷ chain) header
    granted of chain disk (entries.Unlock by session id) header = first.closes

    pub first_decided : (known : List Effect) (disk : Option Content) (entry : Entry) (decision : Decision)
        → IfSome (step_after_decision known disk op entry decision) (λ (step : OpStep). P step.op.stage)
    first_decided known disk entry decisions.None = ungranted entry
    first_decided known disk entry (decisions.Granted of) = by_header (header_of known of.0)
      where
        by_header : (o : Option Header) → IfSome (option_and_then (step_after_grant op of (chain_of known of.0) disk entry) o) Is
        by_header None = tt
        by_header (Some header) = granted of (chain_of known of.0) disk entry header
    first_decided known disk entry (decisions.Refused cause) = ungranted entry

    module _ (opens : (inode : Content) → P (Answered (Opens false inode))) where
      -- and of each step by which an entry is decided, if it holds where the last one leaves its inode open
      pub decision_so : (known : List Effect) (disk : Option Content) (decision : Decision)
          → IfSome (on_decision known disk decision op) (λ (step : OpStep). P step.op.stage)
      unfolding on_decision
      decision_so known disk decision = by_stage op.stage
        where
          by_made : (made : Option Content) → P (Answered (option_map_or (Opens false) made Stays))
          by_made None = first.stays
          by_made (Some inode) = opens inode

          by_stage : (stage : OpStage) → IfSome (decided_at known disk decision op stage) (λ (step : OpStep). P step.op.stage)
          by_stage (Asked entry) = first_decided known disk entry decision
          by_stage (Working of task) = tt
          by_stage (Publishing entry made) = by_made made
          by_stage (Answered change) = tt

      pub decided_so : (known : List Effect) (disk : Option Content) (decision : Decision) (step : OpStep)
          → on_decision known disk decision op ≡ Some step → P step.op.stage
      decided_so known disk decision step is = subst (λ (o : Option OpStep). IfSome o Is) is (decision_so known disk decision)
