-- What a search finds among entries with ascending numbers, what an edit at its place makes of them, and the finite map that they are.
use Rattle.std.proofs.Common.{◌≡◌, ℕ, zero, suc, ◌<◌, ◌≤◌, Bool, true, false, not, cond, T, Option, List, [], ◌∷◌, length, get_or, set, Some, None, Less, Equal, Greater, Result, Ok, Err, MatchResult, refl, sym, ap, ◌∙◌, arith}
use Rattle.std.specs.Ordering.{nat_cmp, eq_by_cmp, is_eq, is_lt, ordering_index}
use Rattle.std.specs.List.{insert, remove}
use Rattle.std.specs.List.Sorted.{IsSearchInRange, IsBinarySearchResult, IsNonDecreasingBy}
use Rattle.std.specs.FinMap as tree
use Rattle.std.specs.FinMap.Entries.{by_order, below_all, where_key, is_sorted, put, find, is_sorted-put, is_sorted-where_key, find-where_key}
use Rattle.std.proofs.lemmas.Bool.Decides.{nat_tests}
use Rattle.std.proofs.lemmas.Cmp.{ranked, by_ranked, nat_cmp_total, eq_by_cmp_equiv, tied_itself}
use Rattle.proof_tools.proofs.Booleans.{T_and_left, T_and_right}
use Rattle.proof_tools.proofs.FiniteMaps.{less_from_test}
use Rattle.message_wire.specs.Entries.{IsFoundAt, IsMissingAt}

pub less_cmp : (a b : ℕ) → a < b → nat_cmp a b ≡ Less
less_cmp a b below =
    by_ranked (a < b) (a ≡ b) (b < a) (nat_cmp a b) (ranked a b (nat_cmp a b) refl)
    (λ is less. is) (λ is same. absurd (omega (arith, below, same))) (λ is more. absurd (omega (arith, below, more)))

pub greater_cmp : (a b : ℕ) → b < a → nat_cmp a b ≡ Greater
greater_cmp a b above =
    by_ranked (a < b) (a ≡ b) (b < a) (nat_cmp a b) (ranked a b (nat_cmp a b) refl)
    (λ is less. absurd (omega (arith, above, less))) (λ is same. absurd (omega (arith, above, same))) (λ is more. is)

pub equal_cmp : (a b : ℕ) → a ≡ b → nat_cmp a b ≡ Equal
equal_cmp a b same = ap (nat_cmp a) (sym same) ∙ tied_itself nat_cmp_total a

number_less : (x y : ℕ) → T (is_lt (nat_cmp x y)) → x < y
number_less x y less = ranked x y Less (sym (less_from_test (nat_cmp x y) less))

module _ {V : Type 0} where
  pub first_below : (x : ℕ) (e : ℕ × V) (es : List (ℕ × V)) → T (below_all nat_cmp x (e ∷ es)) → x < e.0
  first_below x e es below = number_less x e.0 (T_and_left (is_lt (nat_cmp x e.0)) (below_all nat_cmp x es) below)

  pub rest_below : (x : ℕ) (e : ℕ × V) (es : List (ℕ × V)) → T (below_all nat_cmp x (e ∷ es)) → T (below_all nat_cmp x es)
  rest_below x e es below = T_and_right (is_lt (nat_cmp x e.0)) (below_all nat_cmp x es) below

  pub sorted-first : (e : ℕ × V) (es : List (ℕ × V)) → T (is_sorted nat_cmp (e ∷ es)) → T (below_all nat_cmp e.0 es)
  sorted-first e es sorted = T_and_left (below_all nat_cmp e.0 es) (is_sorted nat_cmp es) sorted

  pub sorted-rest : (e : ℕ × V) (es : List (ℕ × V)) → T (is_sorted nat_cmp (e ∷ es)) → T (is_sorted nat_cmp es)
  sorted-rest e es sorted = T_and_right (below_all nat_cmp e.0 es) (is_sorted nat_cmp es) sorted

  -- a number below all is below the one at each place
  below_at : (x : ℕ) (es : List (ℕ × V)) (p : ℕ) (d : ℕ × V) → T (below_all nat_cmp x es) → p < length es → x < (get_or es p d).0
  below_at x [] p d below within = absurd (omega (arith, within))
  below_at x (e ∷ es) zero d below within = first_below x e es below
  below_at x (e ∷ es) (suc p) d below within = below_at x es p d (rest_below x e es below) (omega (arith, within))

  rising : (es : List (ℕ × V)) → T (is_sorted nat_cmp es) → (i j : ℕ) (d : ℕ × V) → i ≤ j → j < length es → (get_or es i d).0 ≤ (get_or es j d).0
  rising [] sorted i j d most within = absurd (omega (arith, within))
  rising (e ∷ es) sorted zero zero d most within = omega arith
  rising (e ∷ es) sorted zero (suc j) d most within =
      let above = below_at e.0 es j d (sorted-first e es sorted) (omega (arith, within)) in omega (arith, above)
  rising (e ∷ es) sorted (suc i) zero d most within = absurd (omega (arith, most))
  rising (e ∷ es) sorted (suc i) (suc j) d most within = rising es (sorted-rest e es sorted) i j d (omega (arith, most)) (omega (arith, within))

  -- nothing stands at a number that is below all, and all stay without it
  pub find-beyond : (k x : ℕ) (es : List (ℕ × V)) → T (below_all nat_cmp x es) → k ≤ x → find nat_cmp k es ≡ None
  find-beyond k x [] below most = refl
  find-beyond k x (e ∷ es) below most =
      let above = first_below x e es below in
      ap (λ r. cond (is_eq r) (Some e.1) (find nat_cmp k es)) (less_cmp k e.0 (omega (arith, above, most)))
      ∙ find-beyond k x es (rest_below x e es below) most

  abbrev without : ℕ → List (ℕ × V) → List (ℕ × V)
  without k es = where_key nat_cmp (λ other. not (eq_by_cmp nat_cmp k other)) es

  pub without-beyond : (k x : ℕ) (es : List (ℕ × V)) → T (below_all nat_cmp x es) → k ≤ x → without k es ≡ es
  without-beyond k x [] below most = refl
  without-beyond k x (e ∷ es) below most =
      let above = first_below x e es below in
      ap (λ r. cond (not (is_eq r)) (e ∷ without k es) (without k es)) (less_cmp k e.0 (omega (arith, above, most)))
      ∙ ap (λ rest. e ∷ rest) (without-beyond k x es (rest_below x e es below) most)

  -- where a number stands
  module _ (k : ℕ) (d : ℕ × V) where
    pub found-within : (p : ℕ) (es : List (ℕ × V)) → IsFoundAt k p es → p < length es
    found-within zero [] is = absurd is
    found-within (suc p) [] is = absurd is
    found-within zero (e ∷ es) is = omega arith
    found-within (suc p) (e ∷ es) is = let rest = found-within p es is.1 in omega (arith, rest)

    pub found-number : (p : ℕ) (es : List (ℕ × V)) → IsFoundAt k p es → (get_or es p d).0 ≡ k
    found-number zero [] is = absurd is
    found-number (suc p) [] is = absurd is
    found-number zero (e ∷ es) is = is
    found-number (suc p) (e ∷ es) is = found-number p es is.1

    pub found-find : (p : ℕ) (es : List (ℕ × V)) → IsFoundAt k p es → find nat_cmp k es ≡ Some (get_or es p d).1
    found-find zero [] is = absurd is
    found-find (suc p) [] is = absurd is
    found-find zero (e ∷ es) is = ap (λ r. cond (is_eq r) (Some e.1) (find nat_cmp k es)) (equal_cmp k e.0 (sym is))
    found-find (suc p) (e ∷ es) is =
        ap (λ r. cond (is_eq r) (Some e.1) (find nat_cmp k es)) (greater_cmp k e.0 is.0) ∙ found-find p es is.1

  module _ (k : ℕ) (v : V) where
    pub put-found : (p : ℕ) (es : List (ℕ × V)) → IsFoundAt k p es → put nat_cmp k v es ≡ set es p (k, v)
    put-found zero [] is = absurd is
    put-found (suc p) [] is = absurd is
    put-found zero (e ∷ es) is =
        ap (λ r. by_order r ((k, v) ∷ e ∷ es) ((e.0, v) ∷ es) (e ∷ put nat_cmp k v es)) (equal_cmp k e.0 (sym is))
        ∙ ap (λ n. (n, v) ∷ es) is
    put-found (suc p) (e ∷ es) is =
        ap (λ r. by_order r ((k, v) ∷ e ∷ es) ((e.0, v) ∷ es) (e ∷ put nat_cmp k v es)) (greater_cmp k e.0 is.0)
        ∙ ap (λ rest. e ∷ rest) (put-found p es is.1)

    pub put-missing : (p : ℕ) (es : List (ℕ × V)) → IsMissingAt k p es → put nat_cmp k v es ≡ insert es p (k, v)
    put-missing zero [] is = refl
    put-missing (suc p) [] is = absurd is
    put-missing zero (e ∷ es) is = ap (λ r. by_order r ((k, v) ∷ e ∷ es) ((e.0, v) ∷ es) (e ∷ put nat_cmp k v es)) (less_cmp k e.0 is)
    put-missing (suc p) (e ∷ es) is =
        ap (λ r. by_order r ((k, v) ∷ e ∷ es) ((e.0, v) ∷ es) (e ∷ put nat_cmp k v es)) (greater_cmp k e.0 is.0)
        ∙ ap (λ rest. e ∷ rest) (put-missing p es is.1)

  module _ (k : ℕ) where
    pub without-found : (p : ℕ) (es : List (ℕ × V)) → T (is_sorted nat_cmp es) → IsFoundAt k p es → without k es ≡ remove es p
    without-found zero [] sorted is = absurd is
    without-found (suc p) [] sorted is = absurd is
    without-found zero (e ∷ es) sorted is =
        ap (λ r. cond (not (is_eq r)) (e ∷ without k es) (without k es)) (equal_cmp k e.0 (sym is))
        ∙ without-beyond k e.0 es (sorted-first e es sorted) (omega (arith, is))
    without-found (suc p) (e ∷ es) sorted is =
        ap (λ r. cond (not (is_eq r)) (e ∷ without k es) (without k es)) (greater_cmp k e.0 is.0)
        ∙ ap (λ rest. e ∷ rest) (without-found p es (sorted-rest e es sorted) is.1)

    pub find-missing : (p : ℕ) (es : List (ℕ × V)) → T (is_sorted nat_cmp es) → IsMissingAt k p es → find nat_cmp k es ≡ None
    find-missing zero [] sorted is = refl
    find-missing (suc p) [] sorted is = absurd is
    find-missing zero (e ∷ es) sorted is =
        ap (λ r. cond (is_eq r) (Some e.1) (find nat_cmp k es)) (less_cmp k e.0 is)
        ∙ find-beyond k e.0 es (sorted-first e es sorted) (omega (arith, is))
    find-missing (suc p) (e ∷ es) sorted is =
        ap (λ r. cond (is_eq r) (Some e.1) (find nat_cmp k es)) (greater_cmp k e.0 is.0)
        ∙ find-missing p es (sorted-rest e es sorted) is.1

    pub without-missing : (p : ℕ) (es : List (ℕ × V)) → T (is_sorted nat_cmp es) → IsMissingAt k p es → without k es ≡ es
    without-missing zero [] sorted is = refl
    without-missing (suc p) [] sorted is = absurd is
    without-missing zero (e ∷ es) sorted is =
        ap (λ r. cond (not (is_eq r)) (e ∷ without k es) (without k es)) (less_cmp k e.0 is)
        ∙ ap (λ rest. e ∷ rest) (without-beyond k e.0 es (sorted-first e es sorted) (omega (arith, is)))
    without-missing (suc p) (e ∷ es) sorted is =
        ap (λ r. cond (not (is_eq r)) (e ∷ without k es) (without k es)) (greater_cmp k e.0 is.0)
        ∙ ap (λ rest. e ∷ rest) (without-missing p es (sorted-rest e es sorted) is.1)

    found-index : (p : ℕ) (es : List (ℕ × V)) → T (is_sorted nat_cmp es) → p < length es
        → ((d : ℕ × V) → nat_cmp (get_or es p d).0 k ≡ Equal) → IsFoundAt k p es
    found-index p [] sorted within at = absurd (omega (arith, within))
    found-index zero (e ∷ es) sorted within at = tree.nat_cmp-IsAntisymmetric e.0 k (at e)
    found-index (suc p) (e ∷ es) sorted within at =
        let above = below_at e.0 es p e (sorted-first e es sorted) (omega (arith, within)) in
        let here : (get_or es p e).0 ≡ k = tree.nat_cmp-IsAntisymmetric (get_or es p e).0 k (at e) in (
          omega (arith, above, here),
          found-index p es (sorted-rest e es sorted) (omega (arith, within)) at,
        )

    missing-index : (p : ℕ) (es : List (ℕ × V)) → p ≤ length es
        → ((j : ℕ) (d : ℕ × V) → j < p → nat_cmp (get_or es j d).0 k ≡ Less)
        → ((j : ℕ) (d : ℕ × V) → p ≤ j → j < length es → nat_cmp (get_or es j d).0 k ≡ Greater) → IsMissingAt k p es
    missing-index zero [] within low high = tt
    missing-index (suc p) [] within low high = absurd (omega (arith, within))
    missing-index zero (e ∷ es) within low high = ranked e.0 k Greater (sym (high 0 e (omega arith) (omega arith)))
    missing-index (suc p) (e ∷ es) within low high = (
      ranked e.0 k Less (sym (low 0 e (omega arith))),
      missing-index p es (omega (arith, within)) (λ j d below. low (suc j) d (omega (arith, below)))
          (λ j d from below. high (suc j) d (omega (arith, from)) (omega (arith, below))),
    )

    -- the comparisons with the number rise along the entries
    comparisons_rise : (es : List (ℕ × V)) → T (is_sorted nat_cmp es) → IsNonDecreasingBy (λ (e : ℕ × V). ordering_index (nat_cmp e.0 k)) es
    comparisons_rise es sorted i j d most within =
        let up : (get_or es i d).0 ≤ (get_or es j d).0 = rising es sorted i j d most within in
        grind (arith, nat_tests)

    pub searched : (es : List (ℕ × V)) → T (is_sorted nat_cmp es) → (r : Result ℕ ℕ) → IsSearchInRange r (length es)
        → IsBinarySearchResult (λ (e : ℕ × V). nat_cmp e.0 k) es r → MatchResult r (λ p. IsFoundAt k p es) (λ p. IsMissingAt k p es)
    searched es sorted (Ok p) within equal = found-index p es sorted within equal
    searched es sorted (Err p) within parted =
        let parts = parted (comparisons_rise es sorted) in
        missing-index p es within (λ j d below. parts.0 j d (omega arith) below) (λ j d from below. parts.1 j d from below)

  -- the finite map that the entries are
  pub put-seen : (k : ℕ) (v : V) (es : List (ℕ × V)) → T (is_sorted nat_cmp es)
      → tree.from_sorted {R = nat_cmp} (put nat_cmp k v es) ≡ tree.insert (tree.from_sorted es) k v
  put-seen k v es sorted =
      tree.same_entries_map _ _ (tree.entries-from_sorted nat_cmp (put nat_cmp k v es) (is_sorted-put nat_cmp nat_cmp_total k v es sorted)
      ∙ sym (tree.entries-insert nat_cmp_total (tree.from_sorted es) k v ∙ ap (put nat_cmp k v) (tree.entries-from_sorted nat_cmp es sorted)))

  pub where-seen : (p : ℕ → Bool) (es : List (ℕ × V)) → T (is_sorted nat_cmp es)
      → tree.from_sorted {R = nat_cmp} (where_key nat_cmp p es) ≡ tree.retain_keys (tree.from_sorted es) p
  where-seen p es sorted =
      let alike : (q x : ℕ) → nat_cmp q x ≡ Equal → p x ≡ p q = λ q x tie. ap p (sym (tree.nat_cmp-IsAntisymmetric q x tie)) in
      tree.same_map nat_cmp_total tree.nat_cmp-IsAntisymmetric _ _ (λ q.
      tree.get-from_sorted nat_cmp (where_key nat_cmp p es) q (is_sorted-where_key nat_cmp p es sorted)
      ∙ find-where_key nat_cmp p q (alike q) es ∙ ap (λ o. cond (p q) o None) (sym (tree.get-from_sorted nat_cmp es q sorted))
      ∙ sym (tree.get-retain_keys (tree.from_sorted es) p q (alike q)))

  retain-remove : (k : ℕ) (m : tree.FinMap nat_cmp V) → tree.retain_keys m (λ other. not (eq_by_cmp nat_cmp k other)) ≡ tree.remove m k
  retain-remove k m =
      tree.same_map nat_cmp_total tree.nat_cmp-IsAntisymmetric _ _ (λ q.
      tree.get-retain_keys m (λ other. not (eq_by_cmp nat_cmp k other)) q
      (λ x tie. ap (λ other. not (eq_by_cmp nat_cmp k other)) (sym (tree.nat_cmp-IsAntisymmetric q x tie)))
      ∙ turned (eq_by_cmp nat_cmp k q) (tree.get m q)
      ∙ ap (λ b. cond b None (tree.get m q)) ((eq_by_cmp_equiv nat_cmp_total).symm k q)
      ∙ sym (tree.get-remove nat_cmp_total m k q))
    where
      turned : (b : Bool) (x : Option V) → cond (not b) x None ≡ cond b None x
      turned true x = refl
      turned false x = refl

  pub without-seen : (k : ℕ) (es : List (ℕ × V)) → T (is_sorted nat_cmp es)
      → tree.from_sorted {R = nat_cmp} (without k es) ≡ tree.remove (tree.from_sorted es) k
  without-seen k es sorted = where-seen (λ other. not (eq_by_cmp nat_cmp k other)) es sorted ∙ retain-remove k (tree.from_sorted es)
