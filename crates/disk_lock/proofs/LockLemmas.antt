-- The locks that a node's end leaves, and the finite map as which they are seen.
use Rattle.std.proofs.Common.{◌≡◌, ℕ, Bool, true, false, cond, List, filter, not, Option, Some, None, refl, ap, sym, ◌∙◌}
use Rattle.std.specs.Ordering.{nat_cmp, eq_by_cmp}
use Rattle.std.specs.Cmp.{nat_cmp_total, eq_by_cmp_equiv}
use Rattle.std.specs.Map.{lookup, keys_of}
use Rattle.std.specs.List.{IsDistinct}
use Rattle.std.specs.BTreeMap.{is_at}
use Rattle.std.specs.FinMap as tree
use Rattle.std.proofs.lemmas.Map.Entries.{lookup-filter-values, option_filter}
use Rattle.proof_tools.proofs.FiniteMaps.{get-from_entries}
use Rattle.disk_lock.specs.declared.holder.Holder.{Holder}
use Rattle.disk_lock.specs.Locks.{is_of_node, without_node}

turned_test : {A : Type 0} (b : Bool) (x y : A) → cond (not b) x y ≡ cond b y x
turned_test true x y = refl
turned_test false x y = refl

without-filter : (node : ℕ) (held : Option Holder) → option_filter (λ holder. not (is_of_node node holder)) held ≡ without_node node held
without-filter node None = refl
without-filter node (Some holder) = turned_test (is_of_node node holder) (Some holder) None

-- only what the node does not hold is kept
pub free_node-seen : (old new : List (ℕ × Holder)) (node : ℕ) → IsDistinct (eq_by_cmp nat_cmp) (keys_of old)
    → new ≡ filter (λ e. not (is_of_node node e.1)) old
    → (q : ℕ) → tree.get (tree.from_entries {R = nat_cmp} new) q ≡ without_node node (tree.get (tree.from_entries {R = nat_cmp} old) q)
free_node-seen old new node distinct kept q =
    get-from_entries new q ∙ ap (lookup (is_at (nat_cmp q))) kept
    ∙ lookup-filter-values (eq_by_cmp_equiv nat_cmp_total) (λ holder. not (is_of_node node holder)) q old distinct
    ∙ without-filter node (lookup (is_at (nat_cmp q)) old)
    ∙ ap (without_node node) (sym (get-from_entries old q))
