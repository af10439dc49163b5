-- What a finite map has at a key after an insert or a remove, among its entries and its keys; and a list of entries as such a map.
use Rattle.std.proofs.Common.{◌≡◌, ◌≢◌, ◌⊎◌, inl, inr, ℕ, ◌==◌, Bool, true, false, cond, T, List, [], ◌∷◌, All, Contains, Option, Some, None, Ordering, refl, sym, ap, subst, ◌∙◌}
use Rattle.std.specs.declared.cmp.Ordering.TheVariants.{Less, Equal, Greater}
use Rattle.std.specs.Ordering.{is_eq, is_lt, nat_cmp}
use Rattle.std.specs.Cmp.{nat_cmp_total, unsigned_tied, nat_eq_equiv}
use Rattle.std.specs.List.{AllByRecursion}
use Rattle.std.specs.List.Sorted.{IsStrictlySortedBy}
use Rattle.std.specs.Map.{lookup, keys_of}
use Rattle.std.specs.BTreeMap.{is_at}
use Rattle.std.specs.FinMap as tree
use Rattle.std.specs.FinMap.Entries.{below_all, by_order, is_sorted}
use Rattle.std.proofs.lemmas.Bool.{eqb-true, eqb-false, eq-eqb, ne_eqb}
use Rattle.std.proofs.lemmas.Cmp.{tied_itself}
use Rattle.std.proofs.lemmas.List.{nil_from_length}
use Rattle.std.proofs.lemmas.List.Elements.{All-cons, All-head, All-tail}
use Rattle.std.proofs.lemmas.Map.Keys.{sorted_head, sorted_tail}
use Rattle.std.proofs.lemmas.Option.{same_Some}
use Rattle.proof_tools.proofs.Lists.{Contains-nil, Contains-first, Contains-cons, Contains-cons_cases, Contains-map}
use Rattle.proof_tools.proofs.Booleans.{T_and, T_and_left, T_and_right}

-- numbers as keys

pub is_at-true : (a b : ℕ) → is_at (nat_cmp a) b ≡ true → a ≡ b
is_at-true a b tie = eqb-true a b (sym (unsigned_tied a b) ∙ tie)

pub is_at-same : (a : ℕ) → is_at (nat_cmp a) a ≡ true
is_at-same a = unsigned_tied a a ∙ eq-eqb a a refl

pub is_at-other : (a b : ℕ) → a ≢ b → is_at (nat_cmp a) b ≡ false
is_at-other a b apart = unsigned_tied a b ∙ ne_eqb a b apart

pub is_at-turned : (a b : ℕ) → is_at (nat_cmp a) b ≡ (b == a)
is_at-turned a b = unsigned_tied a b ∙ nat_eq_equiv.symm a b

-- a map by number, changed at one
module _ {X : Type 0} (m : tree.FinMap nat_cmp X) (k : ℕ) where
  pub get-insert_same : (x : X) → tree.get (tree.insert m k x) k ≡ Some x
  get-insert_same x = tree.get-insert nat_cmp_total m k x k ∙ ap (λ b. cond b (Some x) (tree.get m k)) (is_at-same k)

  pub get-insert_other : (x : X) (q : ℕ) → q ≢ k → tree.get (tree.insert m k x) q ≡ tree.get m q
  get-insert_other x q apart = tree.get-insert nat_cmp_total m k x q ∙ ap (λ b. cond b (Some x) (tree.get m q)) (is_at-other q k apart)

  pub get-remove_same : tree.get (tree.remove m k) k ≡ None
  get-remove_same = tree.get-remove nat_cmp_total m k k ∙ ap (λ b. cond b None (tree.get m k)) (is_at-same k)

  pub get-remove_other : (q : ℕ) → q ≢ k → tree.get (tree.remove m k) q ≡ tree.get m q
  get-remove_other q apart = tree.get-remove nat_cmp_total m k q ∙ ap (λ b. cond b None (tree.get m q)) (is_at-other q k apart)

  -- what is got after an insert is the new value, or was there at another number
  pub get-insert_cases : (value : X) (q : ℕ) (x : X) → tree.get (tree.insert m k value) q ≡ Some x
      → ((q ≡ k) × (value ≡ x)) ⊎ ((q ≢ k) × (tree.get m q ≡ Some x))
  get-insert_cases value q x is =
      by_tie (q == k) refl (ap (λ b. cond b (Some value) (tree.get m q)) (sym (unsigned_tied q k)) ∙ sym (tree.get-insert nat_cmp_total m k value q) ∙ is)
    where
      by_tie : (b : Bool) → (q == k) ≡ b → cond b (Some value) (tree.get m q) ≡ Some x
          → ((q ≡ k) × (value ≡ x)) ⊎ ((q ≢ k) × (tree.get m q ≡ Some x))
      by_tie true tie now = inl (eqb-true q k tie, same_Some value x now)
      by_tie false tie now = inr (eqb-false q k tie, now)

  -- where nothing is at a number, nothing goes with it
  pub remove-none : tree.get m k ≡ None → tree.remove m k ≡ m
  remove-none none = tree.same_map nat_cmp_total tree.nat_cmp-IsAntisymmetric (tree.remove m k) m (λ (q : ℕ). by_tie q (q == k) refl)
    where
      by_tie : (q : ℕ) (b : Bool) → (q == k) ≡ b → tree.get (tree.remove m k) q ≡ tree.get m q
      by_tie q true tie =
          let same : q ≡ k = eqb-true q k tie in
          ap (tree.get (tree.remove m k)) same ∙ get-remove_same ∙ sym none ∙ ap (tree.get m) (sym same)
      by_tie q false tie = get-remove_other q (eqb-false q k tie)

  -- the later of two inserts at one number counts
  pub insert-insert : (one other : X) → tree.insert (tree.insert m k one) k other ≡ tree.insert m k other
  insert-insert one other =
      tree.same_map nat_cmp_total tree.nat_cmp-IsAntisymmetric (tree.insert (tree.insert m k one) k other) (tree.insert m k other) (λ q.
      tree.get-insert nat_cmp_total (tree.insert m k one) k other q
      ∙ by_tie (is_at (nat_cmp q) k) (tree.get m q) (tree.get (tree.insert m k one) q) (tree.get-insert nat_cmp_total m k one q)
      ∙ sym (tree.get-insert nat_cmp_total m k other q))
    where
      by_tie : (b : Bool) (old mid : Option X) → mid ≡ cond b (Some one) old → cond b (Some other) mid ≡ cond b (Some other) old
      by_tie true old mid is = refl
      by_tie false old mid is = is

-- the entries of a map, in any order of keys of which only equal ones tie
module _ {K X : Type 0} {R : K → K → Ordering} (same : tree.IsAntisymmetric R) where
  Contains-find : (q : K) (v : X) (es : List (K × X)) → tree.find R q es ≡ Some v → Contains es (q, v)
  Contains-find q v [] is = absurd (cc (is))
  Contains-find q v (e ∷ es) is = by_order (R q e.0) refl (Contains-find q v es) is
    where
      by_order : (o : Ordering) → R q e.0 ≡ o → (tree.find R q es ≡ Some v → Contains es (q, v))
          → cond (is_eq o) (Some e.1) (tree.find R q es) ≡ Some v → Contains (e ∷ es) (q, v)
      by_order Less tie rest now = Contains-cons e es (q, v) (rest now)
      by_order Equal tie rest now =
          let key : e.0 ≡ q = sym (same q e.0 tie) in
          let value : e.1 ≡ v = same_Some e.1 v now in
          Contains-first e (q, v) es (λ i. (key i, value i))
      by_order Greater tie rest now = Contains-cons e es (q, v) (rest now)

  -- what is got is among the entries
  pub entries-contain : (m : tree.FinMap R X) (q : K) (v : X) → tree.get m q ≡ Some v → Contains (tree.entries m) (q, v)
  entries-contain m q v is = Contains-find q v (tree.entries m) (sym (tree.get-entries m q) ∙ is)

  -- and its key among the keys
  pub keys-contain : (m : tree.FinMap R X) (q : K) (v : X) → tree.get m q ≡ Some v → Contains (tree.keys m) q
  keys-contain m q v is = Contains-map (λ (e : K × X). e.0) (tree.entries m) (q, v) (entries-contain m q v is)

-- the entries of a map by number
pub less_from_test : (r : Ordering) → T (is_lt r) → r ≡ Less
less_from_test Less less = refl
less_from_test Equal less = absurd less
less_from_test Greater less = absurd less

not_less_than_itself : (x : ℕ) → T (is_lt (nat_cmp x x)) → ⊥
not_less_than_itself x less = subst (λ (o : Ordering). T (is_lt o)) (tied_itself nat_cmp_total x) less

module _ {X : Type 0} where
  less_than_keys : (x : ℕ) (es : List (ℕ × X)) (e : ℕ × X) → T (below_all nat_cmp x es) → Contains es e → T (is_lt (nat_cmp x e.0))
  less_than_keys x [] e below there = absurd (Contains-nil e there)
  less_than_keys x (f ∷ es) e below there = elim (Contains-cons_cases f es e there) [
    | inl same ↦ subst (λ (g : ℕ × X). T (is_lt (nat_cmp x g.0))) same (T_and_left (is_lt (nat_cmp x f.0)) (below_all nat_cmp x es) below)
    | inr later ↦ less_than_keys x es e (T_and_right (is_lt (nat_cmp x f.0)) (below_all nat_cmp x es) below) later
  ]

  find-entry : (es : List (ℕ × X)) (e : ℕ × X) → T (is_sorted nat_cmp es) → Contains es e → tree.find nat_cmp e.0 es ≡ Some e.1
  find-entry [] e sorted there = absurd (Contains-nil e there)
  find-entry (f ∷ es) e sorted there = elim (Contains-cons_cases f es e there) [
    | inl same ↦ subst (λ (g : ℕ × X). tree.find nat_cmp g.0 (f ∷ es) ≡ Some g.1) same
        (ap (λ (o : Ordering). cond (is_eq o) (Some f.1) (tree.find nat_cmp f.0 es)) (tied_itself nat_cmp_total f.0))
    | inr later ↦ by_order (nat_cmp e.0 f.0) refl
        (less_than_keys f.0 es e (T_and_left (below_all nat_cmp f.0 es) (is_sorted nat_cmp es) sorted) later)
        (find-entry es e (T_and_right (below_all nat_cmp f.0 es) (is_sorted nat_cmp es) sorted) later)
  ]
    where
      by_order : (o : Ordering) → nat_cmp e.0 f.0 ≡ o → T (is_lt (nat_cmp f.0 e.0)) → tree.find nat_cmp e.0 es ≡ Some e.1
          → cond (is_eq o) (Some f.1) (tree.find nat_cmp e.0 es) ≡ Some e.1
      by_order Less tie less rest = rest
      by_order Equal tie less rest =
          absurd (not_less_than_itself f.0 (subst (λ (k : ℕ). T (is_lt (nat_cmp f.0 k))) (tree.nat_cmp-IsAntisymmetric e.0 f.0 tie) less))
      by_order Greater tie less rest = rest

  -- what is among the entries is got
  pub get-entry : (m : tree.FinMap nat_cmp X) (e : ℕ × X) → Contains (tree.entries m) e → tree.get m e.0 ≡ Some e.1
  get-entry m e there = tree.get-entries m e.0 ∙ find-entry (tree.entries m) e (tree.entries_sorted m) there

  All-keys-put : (P : ℕ → Type 0) (k : ℕ) (v : X) (es : List (ℕ × X)) → P k → All P (keys_of es) → All P (keys_of (tree.put nat_cmp k v es))
  All-keys-put P k v [] own all = All-cons P k [] own all
  All-keys-put P k v (e ∷ es) own all = by_place (All-keys-put P k v es own (All-tail P e.0 (keys_of es) all)) (nat_cmp k e.0)
    where
      by_place : All P (keys_of (tree.put nat_cmp k v es)) → (o : Ordering)
          → All P (keys_of (by_order o ((k, v) ∷ e ∷ es) ((e.0, v) ∷ es) (e ∷ tree.put nat_cmp k v es)))
      by_place later Less = All-cons P k (keys_of (e ∷ es)) own all
      by_place later Equal = all
      by_place later Greater = All-cons P e.0 (keys_of (tree.put nat_cmp k v es)) (All-head P e.0 (keys_of es) all) later

  -- what holds of a new key and of those that were there holds of all after an insert
  pub All-keys-insert : (P : ℕ → Type 0) (m : tree.FinMap nat_cmp X) (k : ℕ) (v : X) → P k → All P (tree.keys m)
      → All P (tree.keys (tree.insert m k v))
  All-keys-insert P m k v own all =
      subst (λ (es : List (ℕ × X)). All P (keys_of es)) (sym (tree.entries-insert nat_cmp_total m k v))
      (All-keys-put P k v (tree.entries m) own all)

  pub find-lookup : (q : ℕ) (es : List (ℕ × X)) → tree.find nat_cmp q es ≡ lookup (is_at (nat_cmp q)) es
  find-lookup q [] = refl
  find-lookup q (e ∷ es) = ap (cond (is_eq (nat_cmp q e.0)) (Some e.1)) (find-lookup q es)

  pub get-from_entries : (es : List (ℕ × X)) (q : ℕ) → tree.get (tree.from_entries {R = nat_cmp} es) q ≡ lookup (is_at (nat_cmp q)) es
  get-from_entries es q = tree.get-from_entries nat_cmp_total es q ∙ find-lookup q es

  below_all-from_keys : (x : ℕ) (es : List (ℕ × X)) → AllByRecursion (λ y. nat_cmp x y ≡ Less) (keys_of es) → T (below_all nat_cmp x es)
  below_all-from_keys x [] below = tt
  below_all-from_keys x (e ∷ es) below =
      T_and _ _ (subst (λ r. T (is_lt r)) (sym below.0) tt) (below_all-from_keys x es below.1)

  -- entries whose keys rise are those of a map
  pub is_sorted-from_keys : (es : List (ℕ × X)) → IsStrictlySortedBy nat_cmp (keys_of es) → T (is_sorted nat_cmp es)
  is_sorted-from_keys [] sorted = tt
  is_sorted-from_keys (e ∷ es) sorted =
      T_and _ _ (below_all-from_keys e.0 es (sorted_head nat_cmp e.0 (keys_of es) sorted)) (is_sorted-from_keys es (sorted_tail nat_cmp e.0 (keys_of es) sorted))

  put-first : (k : ℕ) (v : X) (es : List (ℕ × X)) → T (below_all nat_cmp k es) → tree.put nat_cmp k v es ≡ (k, v) ∷ es
  put-first k v [] below = refl
  put-first k v (e ∷ es) below =
      ap (λ r. by_order r ((k, v) ∷ e ∷ es) ((e.0, v) ∷ es) (e ∷ tree.put nat_cmp k v es)) (less_from_test _ (T_and_left _ _ below))

  pub entries-from_entries : (es : List (ℕ × X)) → T (is_sorted nat_cmp es) → tree.entries (tree.from_entries {R = nat_cmp} es) ≡ es
  entries-from_entries [] sorted =
      nil_from_length (tree.entries tree.empty) (sym (tree.len-entries tree.empty) ∙ tree.len-empty nat_cmp X)
  entries-from_entries (e ∷ es) sorted =
      tree.entries-insert nat_cmp_total (tree.from_entries es) e.0 e.1
      ∙ ap (tree.put nat_cmp e.0 e.1) (entries-from_entries es (T_and_right _ _ sorted))
      ∙ put-first e.0 e.1 es (T_and_left _ _ sorted)
