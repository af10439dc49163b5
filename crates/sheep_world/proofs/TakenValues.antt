-- A value that was taken out of a map and put back, changed.
use Rattle.std.proofs.Common.{◌≡◌, ℕ, Bool, true, false, cond, Option, Some, None, refl, sym, ap, ◌∙◌}
use Rattle.std.specs.Prelude.{unwrap_or}
use Rattle.std.specs.Ordering.{nat_cmp}
use Rattle.std.specs.Cmp.{nat_cmp_total}
use Rattle.std.specs.BTreeMap.{is_at}
use Rattle.std.specs.FinMap as tree
use Rattle.proof_tools.proofs.FiniteMaps.{is_at-true}

module _ {X : Type 0} (m : tree.FinMap nat_cmp X) (k : ℕ) where
  pub insert-remove : (x : X) → tree.insert (tree.remove m k) k x ≡ tree.insert m k x
  insert-remove x =
      tree.same_map nat_cmp_total tree.nat_cmp-IsAntisymmetric (tree.insert (tree.remove m k) k x) (tree.insert m k x) (λ q.
      tree.get-insert nat_cmp_total (tree.remove m k) k x q
      ∙ by_tie (is_at (nat_cmp q) k) (tree.get m q) (tree.get (tree.remove m k) q) (tree.get-remove nat_cmp_total m k q)
      ∙ sym (tree.get-insert nat_cmp_total m k x q))
    where
      by_tie : (b : Bool) (old mid : Option X) → mid ≡ cond b None old → cond b (Some x) mid ≡ cond b (Some x) old
      by_tie true old mid is = refl
      by_tie false old mid is = is

  -- what was taken out, or stands for one that wasn't there, is changed and put back
  pub put-back : (change : X → X) (other taken changed : X) (rest : tree.FinMap nat_cmp X) → rest ≡ tree.remove m k
      → taken ≡ unwrap_or (tree.get m k) other → changed ≡ change taken
      → tree.insert rest k changed ≡ tree.insert m k (change (unwrap_or (tree.get m k) other))
  put-back change other taken changed rest others was is =
      ap (λ (left : tree.FinMap nat_cmp X). tree.insert left k changed) others ∙ insert-remove changed
      ∙ ap (tree.insert m k) (is ∙ ap change was)

  -- where there is none, none is taken out
  pub remove-none : tree.get m k ≡ None → tree.remove m k ≡ m
  remove-none none =
      tree.same_map nat_cmp_total tree.nat_cmp-IsAntisymmetric (tree.remove m k) m (λ q.
      tree.get-remove nat_cmp_total m k q ∙ by_tie q (is_at (nat_cmp q) k) refl)
    where
      by_tie : (q : ℕ) (b : Bool) → is_at (nat_cmp q) k ≡ b → cond b None (tree.get m q) ≡ tree.get m q
      by_tie q true is = sym (ap (tree.get m) (is_at-true q k is) ∙ none)
      by_tie q false is = refl
