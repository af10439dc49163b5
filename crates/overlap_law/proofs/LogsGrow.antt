-- Over a change of a moment the log grows by one entry at most, at its end.
use Rattle.std.proofs.Common.{◌≡◌, List, [], ◌∷◌, ◌++◌, refl, sym, ⊎_elim, ◌∙◌, append-nil}
use Rattle.object_id.specs.declared.entry.Entry.{Entry}
use Rattle.cluster_script.specs.declared.statement.Statement.{Statement}
use Rattle.sheep_world.specs.NodeCauses.{NodeCause, GuestAsks, RequestComes, ReplyComes, LossIsTold, EntryIsRead, EntryIsPut, RecoveryTicks}
use Rattle.sheep_world.specs.NodeCauses.{WorkIsRetried, ClientAsks, log_after_cause}
use Rattle.overlap_law.specs.Past.{MomentWithPast}
use Rattle.overlap_law.specs.MomentChanges.{MomentChange}
use Rattle.overlap_law.proofs.LogsOfMoments.{log_of_change}

-- a log with more entries behind it
abbrev pub GrowsTo : List Entry → List Entry → Type 0
GrowsTo log later = (more : List Entry) × (later ≡ log ++ more)

pub same_log : (log later : List Entry) → later ≡ log → GrowsTo log later
same_log log later same = ([], same ∙ sym (append-nil log))

pub log-by_cause : (cause : NodeCause) (log : List Entry) → GrowsTo log (log_after_cause cause log)
log-by_cause (GuestAsks session req ask) log = same_log log log refl
log-by_cause (RequestComes name to request) log = same_log log log refl
log-by_cause (ReplyComes name from rsp) log = same_log log log refl
log-by_cause (LossIsTold name packet) log = same_log log log refl
log-by_cause (EntryIsRead entry) log = same_log log log refl
log-by_cause (EntryIsPut entry) log = (entry ∷ [], refl)
log-by_cause RecoveryTicks log = same_log log log refl
log-by_cause WorkIsRetried log = same_log log log refl
log-by_cause (ClientAsks req ask) log = same_log log log refl

module _ (script : List Statement) where
  pub logs_grow : {start before after : MomentWithPast} → MomentChange script start before after → GrowsTo before.world.log after.world.log
  logs_grow {start} {before} {after} change = ⊎_elim
      (λ (same : after.world.log ≡ before.world.log). same_log before.world.log after.world.log same)
      (λ (one : (entry : Entry) × (after.world.log ≡ before.world.log ++ entry ∷ [])). (one.0 ∷ [], one.1))
      (log_of_change script change)
