-- What a command comes to, with a work that is done and with a decision, has tables whose entries name nothing, the disk itself, or a
-- snapshot.
use Rattle.std.proofs.Common.{◌≡◌, ◌⊎◌, inl, inr, ⊎_elim, ℕ, true, false, List, [], ◌∷◌, ◌++◌, Option, Some, None, IfSome, option_map}
use Rattle.std.proofs.Common.{option_and_then, refl, sym, ap, subst, ◌∙◌}
use Rattle.std.specs.Option.{option_map_or}
use Rattle.std.proofs.lemmas.List.Elements.{All-cons, All-weaker}
use Rattle.std.proofs.lemmas.Option.{same_Some}
use Rattle.object_id.specs.declared.entry.Entry.{Entry}
use Rattle.object_id.specs.declared.entry.Entry.TheVariants as entries
use Rattle.object_id.specs.declared.entry.Origin.TheVariants.{Fresh, SnapshotOf, CloneOf}
use Rattle.object_id.specs.declared.node.NodeId.{NodeId}
use Rattle.object_id.specs.declared.oid.Vid.{Vid}
use Rattle.inode.specs.Layout.{Content}
use Rattle.vdi_directory.specs.declared.decision.Decision.{Decision}
use Rattle.vdi_directory.specs.declared.decision.Decision.TheVariants as decisions
use Rattle.vdi_directory.specs.declared.header.Header.{Header}
use Rattle.vdi_directory.specs.Chains.{chain_of}
use Rattle.vdi_directory.specs.Decisions.{log_effects, decision_after}
use Rattle.vdi_directory.specs.Effects.{header_of}
use Rattle.vdi_ops.specs.Op.{Task, Opening, WritingBack, Tagging, Copying, Making, Stays, Opens, OpStage, Asked, Working, Publishing}
use Rattle.vdi_ops.specs.Op.{Answered, Op, OpStep}
use Rattle.vdi_ops.specs.Steps.{tag_step, copy_step, change_without_grant, step_after_grant, step_after_decision, decided_at, on_decision}
use Rattle.vdi_ops.specs.Steps.{task_done, done_at, op_on_done}
use Rattle.overlap_law.specs.LastReads.{was_snapped}
use Rattle.overlap_law.proofs.ClaimCommands.{IsWaitedAt}
use Rattle.overlap_law.proofs.SharedTables.{IsSharedEntry, AreShared, IsSharedMaking, IsSharedTask, IsSharedChange, IsSharedStage, table_so}
use Rattle.overlap_law.proofs.SnapshotDecisions.{locked_above, opened_snapped, each_above, base_snapped}

-- ---- its work is done

module _ (read : List Entry) where
  given : (step next : OpStep) → Some step ≡ Some next → IsSharedStage read step.op.stage → IsSharedStage read next.op.stage
  given step next same is = subst (λ (s : OpStep). IsSharedStage read s.op.stage) (same_Some step next same) is

  task_shared : (op : Op) (vid : Vid) (bytes : List ℕ) (task : Task) → IsSharedTask read vid task
      → IsSharedStage read (task_done op vid bytes task).op.stage
  task_shared op vid bytes (Opening true ids header) is =
      record { closed = λ snapshot. is.closed refl; table = table_so (IsSharedEntry read vid.0) (inl refl) header.spec ids bytes is.ids_so }
  task_shared op vid bytes (Opening false ids header) is = table_so (IsSharedEntry read vid.0) (inl refl) header.spec ids bytes is.ids_so
  task_shared op vid bytes (WritingBack inode) is = record { closed = λ snapshot. absurd (cc (snapshot)); table = is }
  task_shared op vid bytes (Tagging old inode) is = is
  task_shared op vid bytes (Copying ids header) is = refl
  task_shared op vid bytes (Making entry made) is = is

  pub done_shared : (bytes : List ℕ) (op : Op) (step : OpStep) → op_on_done bytes op ≡ Some step → IsSharedStage read op.stage
      → IsSharedStage read step.op.stage
  unfolding op_on_done
  done_shared bytes op step next is = by_stage op.stage next is
    where
      by_stage : (stage : OpStage) → done_at bytes op stage ≡ Some step → IsSharedStage read stage → IsSharedStage read step.op.stage
      by_stage (Asked entry) next is = absurd (cc (next))
      by_stage (Working vid task) next is = given (task_done op vid bytes task) step next (task_shared op vid bytes task is)
      by_stage (Publishing entry made) next is = absurd (cc (next))
      by_stage (Answered change) next is = absurd (cc (next))

  without_grant : (entry : Entry) → IsSharedChange read (change_without_grant entry)
  without_grant (entries.Format members) = tt
  without_grant (entries.Join node zone vnodes) = tt
  without_grant (entries.Leave node) = tt
  without_grant (entries.Reweight node vnodes) = tt
  without_grant (entries.Recovered node epoch) = tt
  without_grant (entries.Reserve by session name origin) = tt
  without_grant (entries.Publish by vid) = tt
  without_grant (entries.Clone by vid) = tt
  without_grant (entries.Snapshot by old vid) = tt
  without_grant (entries.Delete by session name tag) = tt
  without_grant (entries.Lock by session name tag) = tt
  without_grant (entries.Unlock by session vid) = tt

  -- a disk that became a snapshot names itself no more
  published : (old : ℕ) (table : List ℕ) (vid : ℕ) → was_snapped read old ≡ true → AreShared read old table → AreShared read vid table
  published old table vid snapped all =
      All-weaker (IsSharedEntry read old) (IsSharedEntry read vid)
      (λ entry is. ⊎_elim
      (λ (none : entry ≡ 0). inl none)
      (λ (other : (entry ≡ old) ⊎ (was_snapped read entry ≡ true)). ⊎_elim
      (λ (same : entry ≡ old). inr (inr (ap (was_snapped read) same ∙ snapped)))
      (λ (is : was_snapped read entry ≡ true). inr (inr is)) other) is) table all

  -- its last entry is read
  module _ (op : Op) where
    last_shared : (entry : Entry) → ((by : NodeId) (old vid : Vid) → entry ≡ entries.Snapshot by old vid → was_snapped read old.0 ≡ true)
        → (made : Option Content) → IsSharedMaking read entry made → IsSharedChange read (option_map_or (Opens false) made Stays)
    last_shared entry taken None is = tt
    last_shared (entries.Format members) taken (Some inode) is = absurd (cc (is))
    last_shared (entries.Join node zone vnodes) taken (Some inode) is = absurd (cc (is))
    last_shared (entries.Leave node) taken (Some inode) is = absurd (cc (is))
    last_shared (entries.Reweight node vnodes) taken (Some inode) is = absurd (cc (is))
    last_shared (entries.Recovered node epoch) taken (Some inode) is = absurd (cc (is))
    last_shared (entries.Reserve by session name origin) taken (Some inode) is = absurd (cc (is))
    last_shared (entries.Publish by vid) taken (Some inode) is = absurd (cc (is))
    last_shared (entries.Clone by vid) taken (Some inode) is = absurd (cc (is))
    last_shared (entries.Snapshot by old vid) taken (Some inode) is = record {
      closed = λ snapshot. absurd (cc (snapshot));
      table = published old.0 inode.table inode.vid (taken by old vid refl) is;
    }
    last_shared (entries.Delete by session name tag) taken (Some inode) is = absurd (cc (is))
    last_shared (entries.Lock by session name tag) taken (Some inode) is = absurd (cc (is))
    last_shared (entries.Unlock by session vid) taken (Some inode) is = absurd (cc (is))

-- ---- its first entry is decided

module _ (front : List Entry) (op : Op) (vid : Vid) (header : Header) (step : OpStep) where
  -- the disk of the session has such a table, by the log with the entry
  abbrev IsOpenSo : Entry → Option Content → Type 0
  IsOpenSo entry disk = IfSome disk (λ (inode : Content). AreShared (front ++ entry ∷ []) inode.vid inode.table)

  abbrev Granted : Entry → Type 0
  Granted entry = decision_after front entry ≡ decisions.Granted vid → header_of (log_effects (front ++ entry ∷ [])) vid.0 ≡ Some header
      → (disk : Option Content) → IsOpenSo entry disk
      → step_after_grant op vid (chain_of (log_effects (front ++ entry ∷ [])) vid.0) disk entry header ≡ Some step
      → IsSharedStage (front ++ entry ∷ []) step.op.stage

  granted_shared : (entry : Entry) → Granted entry
  granted_shared (entries.Format members) granted there disk opened next = absurd (cc (next))
  granted_shared (entries.Join node zone vnodes) granted there disk opened next = absurd (cc (next))
  granted_shared (entries.Leave node) granted there disk opened next = absurd (cc (next))
  granted_shared (entries.Reweight node vnodes) granted there disk opened next = absurd (cc (next))
  granted_shared (entries.Recovered node epoch) granted there disk opened next = absurd (cc (next))
  granted_shared (entries.Reserve by session name (Fresh spec)) granted there disk opened next =
      given (front ++ entries.Reserve by session name (Fresh spec) ∷ []) _ step next refl
  granted_shared (entries.Reserve by session name (SnapshotOf tag)) granted there None opened next = absurd (cc (next))
  granted_shared (entries.Reserve by session name (SnapshotOf tag)) granted there (Some old) opened next =
      given (front ++ entries.Reserve by session name (SnapshotOf tag) ∷ []) (tag_step op vid tag header old) step next opened
  granted_shared (entries.Reserve by session name (CloneOf base tag)) granted there disk opened next = by_parent header.parent refl next
    where
      read : List Entry
      read = front ++ entries.Reserve by session name (CloneOf base tag) ∷ []

      by_parent : (parent : Option Vid) → header.parent ≡ parent
          → option_map (copy_step op vid
          (chain_of (log_effects (front ++ entries.Reserve by session name (CloneOf base tag) ∷ [])) vid.0) header) parent
          ≡ Some step
          → IsSharedStage (front ++ entries.Reserve by session name (CloneOf base tag) ∷ []) step.op.stage
      by_parent None from next = absurd (cc (next))
      by_parent (Some parent) from next =
          given read (copy_step op vid (chain_of (log_effects read) vid.0) header parent) step next
          (subst (λ (o : Option Vid). IfSome o (λ (parent : Vid). was_snapped read parent.0 ≡ true)) (sym from)
          (base_snapped front by session name base tag vid granted header there parent from))
  granted_shared (entries.Publish by made) granted there disk opened next = absurd (cc (next))
  granted_shared (entries.Clone by made) granted there disk opened next = absurd (cc (next))
  granted_shared (entries.Snapshot by old made) granted there disk opened next = absurd (cc (next))
  granted_shared (entries.Delete by session name tag) granted there disk opened next =
      given (front ++ entries.Delete by session name tag ∷ []) _ step next tt
  granted_shared (entries.Lock by session name tag) granted there disk opened next =
      let read = front ++ entries.Lock by session name tag ∷ [] in
      given read _ step next (record {
        closed = opened_snapped front by session name vid tag granted;
        ids_so =
            All-cons (IsSharedEntry read vid.0) vid.0 (chain_of (log_effects read) vid.0) (inr (inl refl))
            (each_above (log_effects read) vid.0 (IsSharedEntry read vid.0)
            (λ elder above. inr (inr (locked_above front by session name vid tag granted elder above))));
      })
  granted_shared (entries.Unlock by session old) granted there disk opened next =
      given (front ++ entries.Unlock by session old ∷ []) _ step next tt

module _ (front : List Entry) (entry : Entry) (op : Op) (step : OpStep) (disk : Option Content)
    (taken : (by : NodeId) (old vid : Vid) → entry ≡ entries.Snapshot by old vid → was_snapped (front ++ entry ∷ []) old.0 ≡ true)
    (opened : IfSome disk (λ (inode : Content). AreShared (front ++ entry ∷ []) inode.vid inode.table)) where
  abbrev read : List Entry
  read = front ++ entry ∷ []

  first_shared : (decision : Decision) → decision_after front entry ≡ decision
      → step_after_decision (log_effects (front ++ entry ∷ [])) disk op entry decision ≡ Some step
      → IsSharedStage (front ++ entry ∷ []) step.op.stage
  first_shared decisions.None so next = given read _ step next (without_grant read entry)
  first_shared (decisions.Granted vid) so next = by_header (header_of (log_effects read) vid.0) refl next
    where
      by_header : (o : Option Header) → header_of (log_effects (front ++ entry ∷ [])) vid.0 ≡ o
          → option_and_then (step_after_grant op vid (chain_of (log_effects (front ++ entry ∷ [])) vid.0) disk entry) o ≡ Some step
          → IsSharedStage (front ++ entry ∷ []) step.op.stage
      by_header None there next = absurd (cc (next))
      by_header (Some header) there next = granted_shared front op vid header step entry so there disk opened next
  first_shared (decisions.Refused cause) so next = given read _ step next (without_grant read entry)

  pub decided_shared : on_decision (log_effects (front ++ entry ∷ [])) disk (decision_after front entry) op ≡ Some step
      → IsWaitedAt entry op.stage → IsSharedStage (front ++ entry ∷ []) op.stage → IsSharedStage (front ++ entry ∷ []) step.op.stage
  unfolding on_decision
  decided_shared next waits is = by_stage op.stage next waits is
    where
      by_stage : (stage : OpStage) → decided_at (log_effects (front ++ entry ∷ [])) disk (decision_after front entry) op stage ≡ Some step
          → IsWaitedAt entry stage → IsSharedStage (front ++ entry ∷ []) stage → IsSharedStage (front ++ entry ∷ []) step.op.stage
      by_stage (Asked wanted) next waits is =
          first_shared (decision_after front entry) refl
          (subst (λ (e : Entry). step_after_decision (log_effects (front ++ entry ∷ [])) disk op e (decision_after front entry)
          ≡ Some step) waits next)
      by_stage (Working vid task) next waits is = absurd waits
      by_stage (Publishing wanted made) next waits is =
          given read _ step next
          (last_shared read op entry taken made (subst (λ (e : Entry). IsSharedMaking (front ++ entry ∷ []) e made) waits is))
      by_stage (Answered change) next waits is = absurd waits
