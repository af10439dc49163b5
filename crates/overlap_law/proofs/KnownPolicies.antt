-- Over a change of a moment the log is as it was, or the event begins there; so the policy of an object of which a node has a row was known
-- before the change.
use Rattle.std.proofs.Common.{◌≡◌, ◌⊎◌, ⊎_elim, ℕ, List, Some, slice_get, sym, ap, subst, ◌∙◌}
use Rattle.std.specs.FinMap as tree
use Rattle.object_id.specs.declared.entry.Entry.{Entry}
use Rattle.object_id.specs.declared.policy.Policy.{Policy}
use Rattle.object_store.specs.Store.{SeenRow, rows_of}
use Rattle.cluster_script.specs.declared.statement.Statement.{Statement}
use Rattle.vdi_directory.specs.Decisions.{log_effects}
use Rattle.sheep_world.specs.World.{Host}
use Rattle.sheep_world.specs.Began.{Began}
use Rattle.overlap_law.specs.Each.{policy_in}
use Rattle.overlap_law.specs.Past.{MomentWithPast}
use Rattle.overlap_law.specs.MomentChanges.{MomentChange, RunsAreInRange}
use Rattle.overlap_law.proofs.CopiesAtSteps.{policy_before}
use Rattle.overlap_law.proofs.LogsInMoments.{log_grows}
use Rattle.overlap_law.proofs.LogsOfMoments.{log_or_start}
use Rattle.overlap_law.proofs.RangeOfFewObjects.{rows_told}

-- the policy of an object of which there is a row was known
pub policy_was_known : (script : List Statement) → RunsAreInRange script → (start before after : MomentWithPast)
    → Began script start.world → MomentChange script start before after → (n : ℕ) (host : Host)
    → tree.get before.world.hosts n ≡ Some host → (oid i : ℕ) (row : SeenRow)
    → slice_get (rows_of host.node.peer.rows oid) i ≡ Some row → (policy : Policy)
    → policy_in (log_effects after.world.log) oid ≡ Some policy → policy_in (log_effects before.world.log) oid ≡ Some policy
policy_was_known script range start before after began change n host there oid i row got policy known = ⊎_elim
    (λ (same : after.world.log ≡ before.world.log). ap (λ (log : List Entry). policy_in (log_effects log) oid) (sym same) ∙ known)
    (λ (first : before ≡ start).
    let longer = log_grows script change in
    let can = rows_told script range.is_script range.room before.world
    (subst (λ (m : MomentWithPast). Began script m.world) (sym first) began) in
    let of = can.rows n host there oid i row got in
    policy_before before.world.log longer.rest oid policy of.spec of.made
    (ap (λ (log : List Entry). policy_in (log_effects log) oid) (sym longer.is) ∙ known))
    (log_or_start script change)
