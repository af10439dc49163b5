-- What locks hold after a grant or a release, by the ids' numbers.
use Rattle.std.proofs.Common.{◌≡◌, ℕ, cond, ◌==◌, Some, None, ap, ◌∙◌}
use Rattle.std.specs.Cmp.{nat_cmp_total}
use Rattle.std.specs.FinMap as tree
use Rattle.proof_tools.proofs.FiniteMaps.{is_at-turned}
use Rattle.disk_lock.specs.declared.holder.Holder.{Holder}
use Rattle.disk_lock.specs.Locks.{Holders}

pub get-granted : (locks : Holders) (vid : ℕ) (holder : Holder) (other : ℕ)
    → tree.get (tree.insert locks vid holder) other ≡ cond (vid == other) (Some holder) (tree.get locks other)
get-granted locks vid holder other =
    tree.get-insert nat_cmp_total locks vid holder other ∙ ap (λ b. cond b (Some holder) (tree.get locks other)) (is_at-turned other vid)

pub get-freed : (locks : Holders) (vid other : ℕ) → tree.get (tree.remove locks vid) other ≡ cond (vid == other) None (tree.get locks other)
get-freed locks vid other =
    tree.get-remove nat_cmp_total locks vid other ∙ ap (λ b. cond b None (tree.get locks other)) (is_at-turned other vid)
