use Rattle.std.proofs.Common.{◌≡◌, ◌⊎◌, ℕ, ◌+◌, ◌-◌, ◌^◌, ◌<◌, ◌≤◌, true, false, nat_lt, List, length, take, drop, get_or, All, AllPairs, sym, ap, subst, inl, inr, rules, arith}
use Rattle.std.specs.List.Sorted.{IsNonDecreasingBy, IsPartitionPoint}
use Rattle.std.proofs.lemmas.List.{get_or_default, get_or-take, get_or-drop, length-take, length-drop}
use Rattle.std.proofs.lemmas.List.Sorted.{IsPartitionPoint-from_clause, IsPartitionedBy-ltb}
use Rattle.std.proofs.lemmas.Bool.{ltb-true, ltb-false}
use Rattle.hash_ring.specs.declared.point.Point.{Point}
use Rattle.hash_ring.specs.Points.{StandsBefore}
use Rattle.hash_ring.proofs.walk.first_from.Goals as goal

at_most : (a b m n : ℕ) → (a < b) ⊎ ((a ≡ b) × (m ≤ n)) → a ≤ b
at_most a b m n h = grind arith

before_or_there : (i j : ℕ) → i ≤ j → (i < j) ⊎ (i ≡ j)
before_or_there i j h = grind arith

hashes_rise : (points : List Point) → AllPairs StandsBefore points → IsNonDecreasingBy (λ (p : Point). p.hash) points
hashes_rise points up i j d h k = go (before_or_there i j h)
  where
    go : (i < j) ⊎ (i ≡ j) → (get_or points i d).hash ≤ (get_or points j d).hash
    go (inl lt) =
        at_most (get_or points i d).hash (get_or points j d).hash (get_or points i d).node.0 (get_or points j d).node.0 (up i j d lt k)
    go (inr e) =
        let same : (get_or points i d).hash ≡ (get_or points j d).hash = ap (λ n. (get_or points n d).hash) e in omega (arith, same)

abbrev IsSplit : List Point → ℕ → ℕ → Type 0
IsSplit points hash = IsPartitionPoint (λ (p : Point). nat_lt p.hash hash ≡ true) (λ (p : Point). nat_lt p.hash hash ≡ false) points

all_before : (points : List Point) (hash i : ℕ) → IsSplit points hash i → All (λ (p : Point). p.hash < hash) (take i points)
all_before points hash i h k d lt =
    let e = length-take i points in
    let P : Point → Type 0 = λ p. p.hash < hash in
    subst P (sym (get_or-take i points k d (omega (arith, e)))) (ltb-true (get_or points k d).hash hash (h.0 k d (omega arith) (omega (arith, e))))

all_behind : (points : List Point) (hash i : ℕ) → IsSplit points hash i → All (λ (p : Point). hash ≤ p.hash) (drop i points)
all_behind points hash i h k d lt =
    let e = length-drop i points in
    let P : Point → Type 0 = λ p. hash ≤ p.hash in
    subst P (sym (get_or-drop i points k d))
    (ltb-false (get_or points (i + k) d).hash hash (h.1 (i + k) d (omega arith) (omega (arith, e))))

all_fit : (points : List Point) (e : Point) → IsNonDecreasingBy (λ (p : Point). p.hash) points
    → (get_or points (length points - 1) e).hash < 2 ^ 64 → All (λ (p : Point). p.hash < 2 ^ 64) points
all_fit points e rises fits k d lt =
    let at : (get_or points (length points - 1) d).hash ≡ (get_or points (length points - 1) e).hash
    = ap (λ (p : Point). p.hash) (get_or_default points (length points - 1) d e (omega arith)) in
    let h : (get_or points k d).hash ≤ (get_or points (length points - 1) d).hash
    = rises k (length points - 1) d (omega arith) (omega arith) in
    omega (arith, at, h, fits)

pub returns-clause-before : goal.returns-clause-before
returns-clause-before c =
    all_before c.args.points.now c.args.hash c.partition_point.result
    (IsPartitionPoint-from_clause (λ (p : Point). nat_lt p.hash c.args.hash) c.args.points.now c.partition_point.result
    c.partition_point.ensures.partitioned
    (IsPartitionedBy-ltb (λ (p : Point). p.hash) c.args.points.now c.args.hash (hashes_rise c.args.points.now c.requires.ascending))
    (λ a r q k. search rules))

pub returns-clause-behind : goal.returns-clause-behind
returns-clause-behind c =
    all_behind c.args.points.now c.args.hash c.partition_point.result
    (IsPartitionPoint-from_clause (λ (p : Point). nat_lt p.hash c.args.hash) c.args.points.now c.partition_point.result
    c.partition_point.ensures.partitioned
    (IsPartitionedBy-ltb (λ (p : Point). p.hash) c.args.points.now c.args.hash (hashes_rise c.args.points.now c.requires.ascending))
    (λ a r q k. search rules))

pub returns-clause-fits : goal.returns-clause-fits
returns-clause-fits c =
    all_fit c.args.points.now _ (hashes_rise c.args.points.now c.requires.ascending) c.if-is_empty.element_fits.fits
