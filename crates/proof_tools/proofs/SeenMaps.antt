-- The entries of a tree, and the finite map as which they are seen, when the tree changes at one number.
use Rattle.std.proofs.Common.{◌≡◌, ℕ, cond, List, Some, None, sym, ◌∙◌}
use Rattle.std.specs.Ordering.{nat_cmp}
use Rattle.std.specs.Cmp.{nat_cmp_total, eq_by_cmp_equiv}
use Rattle.std.specs.Map.{lookup}
use Rattle.std.specs.BTreeMap.{is_at}
use Rattle.std.specs.FinMap as tree
use Rattle.proof_tools.proofs.FiniteMaps.{get-from_entries}

module _ {V : Type 0} where
  -- one number has a new value, and every other keeps its own
  pub insert-seen : (old new : List (ℕ × V)) (k : ℕ) (v : V)
      → ((q : ℕ) → lookup (is_at (nat_cmp q)) new ≡ cond (is_at (nat_cmp k) q) (Some v) (lookup (is_at (nat_cmp q)) old))
      → tree.from_entries {R = nat_cmp} new ≡ tree.insert (tree.from_entries old) k v
  insert-seen old new k v is =
      tree.same_map nat_cmp_total tree.nat_cmp-IsAntisymmetric (tree.from_entries new) (tree.insert (tree.from_entries old) k v)
      (λ q. get-from_entries new q ∙ is q ∙ (λ i. cond ((eq_by_cmp_equiv nat_cmp_total).symm k q i) (Some v) (sym (get-from_entries old q) i)) ∙ sym (tree.get-insert nat_cmp_total (tree.from_entries old) k v q))

  -- one number has none any more, and every other keeps its own
  pub remove-seen : (old new : List (ℕ × V)) (k : ℕ)
      → ((q : ℕ) → lookup (is_at (nat_cmp q)) new ≡ cond (is_at (nat_cmp k) q) None (lookup (is_at (nat_cmp q)) old))
      → tree.from_entries {R = nat_cmp} new ≡ tree.remove (tree.from_entries old) k
  remove-seen old new k is =
      tree.same_map nat_cmp_total tree.nat_cmp-IsAntisymmetric (tree.from_entries new) (tree.remove (tree.from_entries old) k)
      (λ q. get-from_entries new q ∙ is q ∙ (λ i. cond ((eq_by_cmp_equiv nat_cmp_total).symm k q i) None (sym (get-from_entries old q) i)) ∙ sym (tree.get-remove nat_cmp_total (tree.from_entries old) k q))
