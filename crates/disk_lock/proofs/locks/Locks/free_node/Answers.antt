use Rattle.std.proofs.Common.{rules, ◌≡◌, ℕ, List, filter, not, ap, ◌∙◌}
use Rattle.std.specs.FinMap as tree
use Rattle.std.proofs.lemmas.Map.Made.{filter_same_pairs}
use Rattle.std.proofs.lemmas.Map.Keys.{IsDistinct-from_sorted}
use Rattle.disk_lock.specs.declared.holder.Holder.{Holder}
use Rattle.disk_lock.specs.Locks.{is_of_node, without_node}
use Rattle.disk_lock.proofs.LockLemmas.{free_node-seen}
use Rattle.disk_lock.proofs.locks.Locks.free_node.Goals as goal

pub returns : goal.returns
returns c =
    let old : List (ℕ × Holder) = c.self.inside.held.entries in
    let kept : c.retain.new.self.entries ≡ filter (λ e. not (is_of_node c.args.node.0 e.1)) old
    = filter_same_pairs _ (λ e. not (is_of_node c.args.node.0 e.1)) _ (λ k v b w f' t. search rules) _ _ c.retain.ensures.filtered in
    λ vid. free_node-seen old c.retain.new.self.entries c.args.node.0 (IsDistinct-from_sorted _ _ c.retain.ensures.was_ordered) kept vid
    ∙ ap (λ seen. without_node c.args.node.0 (tree.get seen vid)) c.self.view_is
