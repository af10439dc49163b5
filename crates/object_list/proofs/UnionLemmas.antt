-- One more id in an ascending list, and the union as the code makes it: front first.
use Rattle.std.proofs.Common.{◌≡◌, ◌↔◌, ◌⊎◌, inl, inr, ℕ, suc, ◌+◌, ◌<◌, ◌≤◌, ◌==◌, nat_lt, Bool, true, false, cond, List, [], ◌∷◌, ◌++◌, length, take, drop, get_or, All, Contains, refl, ap, sym, subst, ◌∙◌, arith}
use Rattle.std.specs.List.{prefix_len}
use Rattle.std.specs.List.Sorted.{IsStrictlyIncreasing}
use Rattle.std.proofs.lemmas.Bool.{cases_order, cond-true, cond-false, lt-ltb, le-ltb, eq-eqb, ne_eqb, ltb-true}
use Rattle.std.proofs.lemmas.List.{get_or-take, length-take-le, append_assoc}
use Rattle.std.proofs.lemmas.List.Elements.{All-nil, All-cons, All-head, All-tail, All-weaker, All-append, All-push}
use Rattle.std.proofs.lemmas.List.Sums.{prefix_len_passes, prefix_len-le-length}
use Rattle.proof_tools.proofs.AscendingNumbers.{IsStrictlyIncreasing-tail, IsStrictlyIncreasing-first, IsStrictlyIncreasing-nil, IsStrictlyIncreasing-cons, same_ascending}
use Rattle.proof_tools.proofs.Lists.{Contains-head, Contains-cons, Contains-nil, Contains-cons_cases}
use Rattle.object_list.specs.Union.{with_id, union}

-- where an id stands against the first of a list
pub with_id-below : (oid first : ℕ) (rest : List ℕ) → oid < first → with_id (first ∷ rest) oid ≡ oid ∷ first ∷ rest
with_id-below oid first rest below =
    cond-true (nat_lt oid first) (oid ∷ first ∷ rest) (cond (oid == first) (first ∷ rest) (first ∷ with_id rest oid)) (lt-ltb oid first below)

pub with_id-same : (oid first : ℕ) (rest : List ℕ) → oid ≡ first → with_id (first ∷ rest) oid ≡ first ∷ rest
with_id-same oid first rest same =
    cond-false (nat_lt oid first) (oid ∷ first ∷ rest) (cond (oid == first) (first ∷ rest) (first ∷ with_id rest oid)) (le-ltb oid first (omega arith))
    ∙ cond-true (oid == first) (first ∷ rest) (first ∷ with_id rest oid) (eq-eqb oid first same)

pub with_id-above : (oid first : ℕ) (rest : List ℕ) → first < oid → with_id (first ∷ rest) oid ≡ first ∷ with_id rest oid
with_id-above oid first rest above =
    cond-false (nat_lt oid first) (oid ∷ first ∷ rest) (cond (oid == first) (first ∷ rest) (first ∷ with_id rest oid)) (le-ltb oid first (omega arith))
    ∙ cond-false (oid == first) (first ∷ rest) (first ∷ with_id rest oid) (ne_eqb oid first (λ (same : oid ≡ first). omega arith))

-- what is below the id stays in front
pub with_id-append : (below rest : List ℕ) (oid : ℕ) → All (λ other. other < oid) below → with_id (below ++ rest) oid ≡ below ++ with_id rest oid
with_id-append [] rest oid lower = refl
with_id-append (first ∷ below) rest oid lower =
    with_id-above oid first (below ++ rest) (All-head (λ other. other < oid) first below lower)
    ∙ ap (λ others. first ∷ others) (with_id-append below rest oid (All-tail (λ other. other < oid) first below lower))

-- the ids at the front that are below the id, and none at the front of the rest
pub All-below : (oid : ℕ) (oids : List ℕ) → All (λ other. other < oid) (take (prefix_len (λ other. nat_lt other oid) oids) oids)
All-below oid oids k d within =
    let n : ℕ = prefix_len (λ other. nat_lt other oid) oids in
    let most : n ≤ length oids = prefix_len-le-length (λ other. nat_lt other oid) oids in
    let long : length (take n oids) ≡ n = length-take-le n oids most in
    let here : k < n = omega arith in
    subst (λ other. other < oid) (sym (get_or-take n oids k d here))
    (ltb-true (get_or oids k d) oid (prefix_len_passes (λ other. nat_lt other oid) oids k d here))

pub prefix_len-after : (p : ℕ → Bool) (xs : List ℕ) → prefix_len p (drop (prefix_len p xs) xs) ≡ 0
prefix_len-after p [] = refl
prefix_len-after p (x ∷ xs) = by_test (prefix_len-after p xs) (p x) refl
  where
    by_test : prefix_len p (drop (prefix_len p xs) xs) ≡ 0 → (b : Bool) → p x ≡ b → prefix_len p (drop (cond b (1 + prefix_len p xs) 0) (x ∷ xs)) ≡ 0
    by_test rest true passes =
        let next : 1 + prefix_len p xs ≡ suc (prefix_len p xs) = omega arith in
        ap (λ n. prefix_len p (drop n (x ∷ xs))) next ∙ rest
    by_test rest false fails = ap (λ b. cond b (1 + prefix_len p xs) 0) fails

-- what is there, the ids below, the id, and what is left above it
pub with_id-put : (all oids below above rest : List ℕ) (oid : ℕ) → All (λ other. other < oid) all → All (λ other. other < oid) below
    → oids ≡ below ++ above → oid ∷ rest ≡ with_id above oid → ((all ++ below) ++ oid ∷ []) ++ rest ≡ with_id (all ++ oids) oid
with_id-put all oids below above rest oid first lower split is =
    append_assoc (all ++ below) (oid ∷ []) rest
    ∙ append_assoc all below (oid ∷ rest)
    ∙ ap (λ more. all ++ (below ++ more)) is
    ∙ ap (λ more. all ++ more) (sym (with_id-append below above oid lower))
    ∙ sym (with_id-append all (below ++ above) oid first)
    ∙ ap (λ others. with_id (all ++ others) oid) (sym split)

pub All-put : (all below : List ℕ) (oid : ℕ) → All (λ other. other < oid) all → All (λ other. other < oid) below
    → All (λ other. other ≤ oid) ((all ++ below) ++ oid ∷ [])
All-put all below oid first lower =
    All-push (λ other. other ≤ oid) (all ++ below) oid
    (All-weaker (λ other. other < oid) (λ other. other ≤ oid) (λ other under. omega arith) (all ++ below)
    (All-append (λ other. other < oid) all below first lower)) (omega arith)

-- what holds of the id and of each other holds of each after
All-with_id : (P : ℕ → Type 0) (oids : List ℕ) (oid : ℕ) → P oid → All P oids → All P (with_id oids oid)
All-with_id P [] oid one all = All-cons P oid [] one all
All-with_id P (first ∷ rest) oid one all = elim (cases_order oid first) [
  | inl same ↦ subst (All P) (sym (with_id-same oid first rest same)) all
  | inr (inl below) ↦ subst (All P) (sym (with_id-below oid first rest below)) (All-cons P oid (first ∷ rest) one all)
  | inr (inr above) ↦ subst (All P) (sym (with_id-above oid first rest above))
      (All-cons P first (with_id rest oid) (All-head P first rest all) (All-with_id P rest oid one (All-tail P first rest all)))
]

pub with_id-ascending : (oids : List ℕ) (oid : ℕ) → IsStrictlyIncreasing oids → IsStrictlyIncreasing (with_id oids oid)
with_id-ascending [] oid up = IsStrictlyIncreasing-cons oid [] (All-nil (λ other. oid < other)) IsStrictlyIncreasing-nil
with_id-ascending (first ∷ rest) oid up = elim (cases_order oid first) [
  | inl same ↦ subst IsStrictlyIncreasing (sym (with_id-same oid first rest same)) up
  | inr (inl below) ↦ subst IsStrictlyIncreasing (sym (with_id-below oid first rest below))
      (IsStrictlyIncreasing-cons oid (first ∷ rest)
      (All-cons (λ other. oid < other) first rest below
      (All-weaker (λ other. first < other) (λ other. oid < other) (λ other more. omega arith) rest (IsStrictlyIncreasing-first first rest up))) up)
  | inr (inr above) ↦ subst IsStrictlyIncreasing (sym (with_id-above oid first rest above))
      (IsStrictlyIncreasing-cons first (with_id rest oid)
      (All-with_id (λ other. first < other) rest oid above (IsStrictlyIncreasing-first first rest up))
      (with_id-ascending rest oid (IsStrictlyIncreasing-tail first rest up)))
]

pub union-ascending : (oids others : List ℕ) → IsStrictlyIncreasing oids → IsStrictlyIncreasing (union oids others)
union-ascending oids [] up = up
union-ascending oids (other ∷ others) up = union-ascending (with_id oids other) others (with_id-ascending oids other up)

with_id-has : (oids : List ℕ) (oid x : ℕ) → Contains oids x ⊎ (oid ≡ x) → Contains (with_id oids oid) x
with_id-has [] oid x (inl there) = absurd (Contains-nil x there)
with_id-has [] oid x (inr same) = subst (λ y. Contains (oid ∷ []) y) same (Contains-head oid [])
with_id-has (first ∷ rest) oid x there = elim (cases_order oid first) [
  | inl same ↦ subst (λ xs. Contains xs x) (sym (with_id-same oid first rest same)) (at_first same there)
  | inr (inl below) ↦ subst (λ xs. Contains xs x) (sym (with_id-below oid first rest below)) (in_front there)
  | inr (inr above) ↦ subst (λ xs. Contains xs x) (sym (with_id-above oid first rest above)) (later (with_id-has rest oid x) there)
]
  where
    at_first : oid ≡ first → Contains (first ∷ rest) x ⊎ (oid ≡ x) → Contains (first ∷ rest) x
    at_first same (inl there) = there
    at_first same (inr is) = subst (λ y. Contains (first ∷ rest) y) (sym same ∙ is) (Contains-head first rest)

    in_front : Contains (first ∷ rest) x ⊎ (oid ≡ x) → Contains (oid ∷ first ∷ rest) x
    in_front (inl there) = Contains-cons oid (first ∷ rest) x there
    in_front (inr is) = subst (λ y. Contains (oid ∷ first ∷ rest) y) is (Contains-head oid (first ∷ rest))

    later : (Contains rest x ⊎ (oid ≡ x) → Contains (with_id rest oid) x) → Contains (first ∷ rest) x ⊎ (oid ≡ x) → Contains (first ∷ with_id rest oid) x
    later in_rest (inl there) = elim (Contains-cons_cases first rest x there) [
      | inl is ↦ subst (λ y. Contains (first ∷ with_id rest oid) y) is (Contains-head first (with_id rest oid))
      | inr more ↦ Contains-cons first (with_id rest oid) x (in_rest (inl more))
    ]
    later in_rest (inr is) = Contains-cons first (with_id rest oid) x (in_rest (inr is))

with_id-only : (oids : List ℕ) (oid x : ℕ) → Contains (with_id oids oid) x → Contains oids x ⊎ (oid ≡ x)
with_id-only [] oid x there = elim (Contains-cons_cases oid [] x there) [
  | inl is ↦ inr is
  | inr none ↦ inl none
]
with_id-only (first ∷ rest) oid x there = elim (cases_order oid first) [
  | inl same ↦ inl (subst (λ xs. Contains xs x) (with_id-same oid first rest same) there)
  | inr (inl below) ↦ in_front (Contains-cons_cases oid (first ∷ rest) x (subst (λ xs. Contains xs x) (with_id-below oid first rest below) there))
  | inr (inr above) ↦ later (with_id-only rest oid x) (Contains-cons_cases first (with_id rest oid) x (subst (λ xs. Contains xs x) (with_id-above oid first rest above) there))
]
  where
    in_front : (oid ≡ x) ⊎ Contains (first ∷ rest) x → Contains (first ∷ rest) x ⊎ (oid ≡ x)
    in_front (inl is) = inr is
    in_front (inr more) = inl more

    behind : Contains rest x ⊎ (oid ≡ x) → Contains (first ∷ rest) x ⊎ (oid ≡ x)
    behind (inl more) = inl (Contains-cons first rest x more)
    behind (inr is) = inr is

    later : (Contains (with_id rest oid) x → Contains rest x ⊎ (oid ≡ x)) → (first ≡ x) ⊎ Contains (with_id rest oid) x
        → Contains (first ∷ rest) x ⊎ (oid ≡ x)
    later of_rest (inl is) = inl (subst (λ y. Contains (first ∷ rest) y) is (Contains-head first rest))
    later of_rest (inr more) = behind (of_rest more)

pub union-has : (oids others : List ℕ) (x : ℕ) → Contains oids x ⊎ Contains others x → Contains (union oids others) x
union-has oids [] x (inl there) = there
union-has oids [] x (inr none) = absurd (Contains-nil x none)
union-has oids (other ∷ others) x (inl there) = union-has (with_id oids other) others x (inl (with_id-has oids other x (inl there)))
union-has oids (other ∷ others) x (inr there) = elim (Contains-cons_cases other others x there) [
  | inl is ↦ union-has (with_id oids other) others x (inl (with_id-has oids other x (inr is)))
  | inr more ↦ union-has (with_id oids other) others x (inr more)
]

pub union-only : (oids others : List ℕ) (x : ℕ) → Contains (union oids others) x → Contains oids x ⊎ Contains others x
union-only oids [] x there = inl there
union-only oids (other ∷ others) x there = by_list (union-only (with_id oids other) others x there)
  where
    one : Contains oids x ⊎ (other ≡ x) → Contains oids x ⊎ Contains (other ∷ others) x
    one (inl more) = inl more
    one (inr is) = inr (subst (λ y. Contains (other ∷ others) y) is (Contains-head other others))

    by_list : Contains (with_id oids other) x ⊎ Contains others x → Contains oids x ⊎ Contains (other ∷ others) x
    by_list (inl more) = one (with_id-only oids other x more)
    by_list (inr more) = inr (Contains-cons other others x more)

pub union-same : (oids others all : List ℕ) → IsStrictlyIncreasing oids → IsStrictlyIncreasing all
    → ((oid : ℕ) → Contains all oid ↔ (Contains oids oid ⊎ Contains others oid)) → all ≡ union oids others
union-same oids others all up rises same =
    same_ascending all (union oids others) rises (union-ascending oids others up)
    (λ x there. union-has oids others x ((same x).0 there))
    (λ x there. (same x).1 (union-only oids others x there))
