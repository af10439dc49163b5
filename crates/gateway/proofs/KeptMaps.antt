-- The keys of the tree in which a gateway keeps the touched requests, and the finite set as which they are seen.
use Rattle.std.proofs.Common.{◌≡◌, ℕ, ◌&&◌, ◌||◌, not, Bool, true, false, cond, List, refl, sym, ◌∙◌}
use Rattle.std.specs.Ordering.{nat_cmp, eq_by_cmp}
use Rattle.std.specs.List.{list_any}
use Rattle.std.specs.Cmp.{nat_cmp_total, eq_by_cmp_equiv}
use Rattle.std.specs.BTreeMap.{is_at}
use Rattle.std.specs.FinMap as tree
use Rattle.std.specs.FinSet as set

pub set-seen : (old new : List ℕ) (k : ℕ) (b : Bool) (set_new : set.FinSet nat_cmp)
    → ((q : ℕ) → set.contains set_new q ≡ cond (eq_by_cmp nat_cmp q k) b (set.contains (set.from_list {R = nat_cmp} old) q))
    → ((q : ℕ) → list_any (is_at (nat_cmp q)) new ≡ cond (is_at (nat_cmp k) q) b (list_any (is_at (nat_cmp q)) old))
    → set.from_list {R = nat_cmp} new ≡ set_new
set-seen old new k b set_new wanted is =
    set.same_set nat_cmp_total tree.nat_cmp-IsAntisymmetric (set.from_list new) set_new
    (λ q. set.contains-from_list nat_cmp_total new q ∙ is q
    ∙ (λ i. cond ((eq_by_cmp_equiv nat_cmp_total).symm k q i) b (sym (set.contains-from_list nat_cmp_total old q) i))
    ∙ sym (wanted q))

or_as_cond : (b c : Bool) → (b || c) ≡ cond b true c
or_as_cond true c = refl
or_as_cond false c = refl

not_and_as_cond : (b c : Bool) → (not b && c) ≡ cond b false c
not_and_as_cond true c = refl
not_and_as_cond false c = refl

pub set-insert-seen : (old new : List ℕ) (k : ℕ)
    → ((q : ℕ) → list_any (is_at (nat_cmp q)) new ≡ cond (is_at (nat_cmp k) q) true (list_any (is_at (nat_cmp q)) old))
    → set.from_list {R = nat_cmp} new ≡ set.insert (set.from_list old) k
set-insert-seen old new k is =
    set-seen old new k true (set.insert (set.from_list old) k)
    (λ q. set.contains-insert nat_cmp_total (set.from_list old) k q ∙ or_as_cond (eq_by_cmp nat_cmp q k) (set.contains (set.from_list old) q)) is

pub set-remove-seen : (old new : List ℕ) (k : ℕ)
    → ((q : ℕ) → list_any (is_at (nat_cmp q)) new ≡ cond (is_at (nat_cmp k) q) false (list_any (is_at (nat_cmp q)) old))
    → set.from_list {R = nat_cmp} new ≡ set.remove (set.from_list old) k
set-remove-seen old new k is =
    set-seen old new k false (set.remove (set.from_list old) k)
    (λ q. set.contains-remove nat_cmp_total (set.from_list old) k q ∙ not_and_as_cond (eq_by_cmp nat_cmp q k) (set.contains (set.from_list old) q)) is

pub has-seen : (keys : List ℕ) (q : ℕ) → list_any (is_at (nat_cmp q)) keys ≡ set.contains (set.from_list {R = nat_cmp} keys) q
has-seen keys q = sym (set.contains-from_list nat_cmp_total keys q)
