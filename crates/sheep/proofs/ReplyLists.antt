-- What lists have in them, and what a map has once replies were put into it.
use Rattle.std.proofs.Common.{◌≡◌, ◌≢◌, ◌⊎◌, inl, inr, ⊎_elim, ℕ, List, [], ◌∷◌, ◌++◌, map, flat_map, fold, Contains, Option, Some, None, refl, sym, ap, subst, ◌∙◌, append_assoc}
use Rattle.std.specs.List.{filter_map, cons_option}
use Rattle.std.specs.Ordering.{nat_cmp}
use Rattle.std.specs.FinMap as tree
use Rattle.std.proofs.lemmas.Bool.{cases_eq}
use Rattle.std.proofs.lemmas.List.Elements.{Contains-append_left, Contains-append_right}
use Rattle.proof_tools.proofs.Lists.{Contains-nil, Contains-head, Contains-cons, Contains-cons_cases}
use Rattle.proof_tools.proofs.FiniteMaps.{get-insert_same, get-insert_other, get-insert_cases}
use Rattle.sheep.specs.PrintedReplies.{HasPart}

module _ {X Y : Type 0} where
  -- what a map makes is made of an element
  pub map-contains : (f : X → Y) (xs : List X) (y : Y) → Contains (map f xs) y → (x : X) × Contains xs x × (f x ≡ y)
  map-contains f [] y there = absurd (Contains-nil y there)
  map-contains f (x ∷ xs) y there = ⊎_elim
      (λ (same : f x ≡ y). (x, Contains-head x xs, same))
      (λ (later : Contains (map f xs) y).
      let found = map-contains f xs y later in (found.0, Contains-cons x xs found.0 found.1, found.2))
      (Contains-cons_cases (f x) (map f xs) y there)

  -- what is made where something is made
  pub filter_map-contains : (f : X → Option Y) (xs : List X) (y : Y) → Contains (filter_map f xs) y → (x : X) × Contains xs x × (f x ≡ Some y)
  filter_map-contains f [] y there = absurd (Contains-nil y there)
  filter_map-contains f (x ∷ xs) y there = by_made (filter_map-contains f xs y) (f x) refl there
    where
      later : (x' : X) × Contains xs x' × (f x' ≡ Some y) → (one : X) × Contains (x ∷ xs) one × (f one ≡ Some y)
      later found = (found.0, Contains-cons x xs found.0 found.1, found.2)

      by_made : (Contains (filter_map f xs) y → (one : X) × Contains xs one × (f one ≡ Some y)) → (made : Option Y) → f x ≡ made
          → Contains (cons_option made (filter_map f xs)) y → (one : X) × Contains (x ∷ xs) one × (f one ≡ Some y)
      by_made rest None is there = later (rest there)
      by_made rest (Some made) is there = ⊎_elim
          (λ (same : made ≡ y). (x, Contains-head x xs, is ∙ ap Some same))
          (λ (behind : Contains (filter_map f xs) y). later (rest behind))
          (Contains-cons_cases made (filter_map f xs) y there)

  pub Contains-filter_map : (f : X → Option Y) (xs : List X) (x : X) (y : Y) → Contains xs x → f x ≡ Some y → Contains (filter_map f xs) y
  Contains-filter_map f [] x y there is = absurd (Contains-nil x there)
  Contains-filter_map f (first ∷ xs) x y there is = by_place (Contains-filter_map f xs x y) (f first) refl (Contains-cons_cases first xs x there)
    where
      by_place : (Contains xs x → f x ≡ Some y → Contains (filter_map f xs) y) → (made : Option Y) → f first ≡ made
          → (first ≡ x) ⊎ Contains xs x → Contains (cons_option made (filter_map f xs)) y
      by_place rest made at (inl same) =
          subst (λ (made : Option Y). Contains (cons_option made (filter_map f xs)) y) (sym is ∙ ap f (sym same) ∙ at)
          (Contains-head y (filter_map f xs))
      by_place rest None at (inr later) = rest later is
      by_place rest (Some made) at (inr later) = Contains-cons made (filter_map f xs) y (rest later is)

  -- what is made of an element is a part of what is made of all
  pub flat_map-part : (f : X → List Y) (xs : List X) (x : X) → Contains xs x → HasPart (flat_map f xs) (f x)
  flat_map-part f [] x there = absurd (Contains-nil x there)
  flat_map-part f (first ∷ xs) x there = ⊎_elim
      (λ (same : first ≡ x). record { before = []; behind = flat_map f xs; parted = ap (λ (y : X). f y ++ flat_map f xs) same })
      (λ (later : Contains xs x).
      let part = flat_map-part f xs x later in
      record {
        before = f first ++ part.before;
        behind = part.behind;
        parted =
            ap (λ (ys : List Y). f first ++ ys) part.parted
            ∙ sym (append_assoc (f first) (part.before ++ f x) part.behind)
            ∙ ap (λ (ys : List Y). ys ++ part.behind) (sym (append_assoc (f first) part.before (f x)));
      })
      (Contains-cons_cases first xs x there)

module _ {X : Type 0} where
  -- a part of a part
  pub part-between : (front whole behind part : List X) → HasPart whole part → HasPart (front ++ whole ++ behind) part
  part-between front whole behind part has = record {
    before = front ++ has.before;
    behind = has.behind ++ behind;
    parted =
        ap (λ (xs : List X). front ++ xs ++ behind) has.parted
        ∙ ap (λ (xs : List X). xs ++ behind) (sym (append_assoc front (has.before ++ part) has.behind)
        ∙ ap (λ (xs : List X). xs ++ has.behind) (sym (append_assoc front has.before part)))
        ∙ append_assoc (front ++ has.before ++ part) has.behind behind;
  }

  -- an event that is a part is in the list
  pub part-contains : (whole : List X) (x : X) → HasPart whole (x ∷ []) → Contains whole x
  part-contains whole x has =
      subst (λ (xs : List X). Contains xs x) (sym has.parted)
      (Contains-append_left (has.before ++ x ∷ []) has.behind x (Contains-append_right has.before (x ∷ []) x (Contains-head x [])))

module _ {V : Type 0} where
  abbrev pub put_in : tree.FinMap nat_cmp V → ℕ × V → tree.FinMap nat_cmp V
  put_in m e = tree.insert m e.0 e.1

  -- what the map has was put, or was there
  pub put-cases : (es : List (ℕ × V)) (m : tree.FinMap nat_cmp V) (q : ℕ) (v : V) → tree.get (fold put_in m es) q ≡ Some v
      → Contains es (q, v) ⊎ (tree.get m q ≡ Some v)
  put-cases [] m q v got = inr got
  put-cases (e ∷ es) m q v got = ⊎_elim
      (λ (later : Contains es (q, v)). inl (Contains-cons e es (q, v) later))
      (λ (before : tree.get (tree.insert m e.0 e.1) q ≡ Some v). ⊎_elim
      (λ (own : (q ≡ e.0) × (e.1 ≡ v)).
      let same : e ≡ (q, v) = (λ i. (sym own.0 i, own.1 i)) in
      inl (subst (λ (one : ℕ × V). Contains (e ∷ es) one) same (Contains-head e es)))
      (λ (other : (q ≢ e.0) × (tree.get m q ≡ Some v)). inr other.1)
      (get-insert_cases m e.0 e.1 q v before))
      (put-cases es (tree.insert m e.0 e.1) q v got)

  -- where nothing is put for a key, it has what it had
  pub put-others : (es : List (ℕ × V)) (m : tree.FinMap nat_cmp V) (q : ℕ) → ((v : V) → Contains es (q, v) → ⊥)
      → tree.get (fold put_in m es) q ≡ tree.get m q
  put-others [] m q none = refl
  put-others (e ∷ es) m q none =
      put-others es (tree.insert m e.0 e.1) q (λ v there. none v (Contains-cons e es (q, v) there))
      ∙ get-insert_other m e.0 e.1 q (λ (same : q ≡ e.0).
      none e.1 (subst (λ (one : ℕ × V). Contains (e ∷ es) one) (λ i. (sym same i, e.1)) (Contains-head e es)))

  abbrev IsThere : Option V → Type 0
  IsThere None = ⊥
  IsThere (Some v) = Unit {0}

  there_stays : (es : List (ℕ × V)) (m : tree.FinMap nat_cmp V) (q : ℕ) → IsThere (tree.get m q) → IsThere (tree.get (fold put_in m es) q)
  there_stays [] m q there = there
  there_stays (e ∷ es) m q there = there_stays es (tree.insert m e.0 e.1) q (⊎_elim
      (λ (same : q ≡ e.0). subst (λ (o : Option V). IsThere o) (sym (ap (tree.get (tree.insert m e.0 e.1)) same ∙ get-insert_same m e.0 e.1)) tt)
      (λ (other : q ≢ e.0). subst (λ (o : Option V). IsThere o) (sym (get-insert_other m e.0 e.1 q other)) there)
      (cases_eq q e.0))

  there_put : (es : List (ℕ × V)) (m : tree.FinMap nat_cmp V) (q : ℕ) (v : V) → Contains es (q, v) → IsThere (tree.get (fold put_in m es) q)
  there_put [] m q v put = absurd (Contains-nil (q, v) put)
  there_put (e ∷ es) m q v put = ⊎_elim
      (λ (same : e ≡ (q, v)). there_stays es (tree.insert m e.0 e.1) q
      (subst (λ (o : Option V). IsThere o)
      (sym (ap (λ (one : ℕ × V). tree.get (tree.insert m one.0 one.1) q) same ∙ get-insert_same m q v)) tt))
      (λ (later : Contains es (q, v)). there_put es (tree.insert m e.0 e.1) q v later)
      (Contains-cons_cases e es (q, v) put)

  -- where one value alone is put for a key, it has that
  pub put-one : (es : List (ℕ × V)) (m : tree.FinMap nat_cmp V) (q : ℕ) (v : V) → tree.get m q ≡ None → Contains es (q, v)
      → ((other : V) → Contains es (q, other) → v ≡ other) → tree.get (fold put_in m es) q ≡ Some v
  put-one es m q v none put one = by_got (tree.get (fold put_in m es) q) refl (there_put es m q v put)
    where
      by_got : (o : Option V) → tree.get (fold put_in m es) q ≡ o → IsThere o → tree.get (fold put_in m es) q ≡ Some v
      by_got None is there = absurd there
      by_got (Some other) is there = ⊎_elim
          (λ (found : Contains es (q, other)). is ∙ ap Some (sym (one other found)))
          (λ (had : tree.get m q ≡ Some other). absurd (cc (none, had)))
          (put-cases es m q other is)
