-- What the table gives: the own objects ascend, are as many as their entries, and the entries are of three kinds.
use Rattle.std.proofs.Common.{◌≡◌, ℕ, zero, suc, ◌+◌, ◌-◌, ◌*◌, ◌/◌, ◌^◌, ◌<◌, ◌≤◌, ◌==◌, ◌&&◌, not, Bool, true, false, cond, List, [], ◌∷◌, ◌++◌, length, take, get_or, slice_index, map, filter, count_by, All, refl, sym, ap, subst, ◌∙◌, append-nil, arith}
use Rattle.std.specs.List.{range_with_len}
use Rattle.std.specs.List.Sorted.{IsStrictlyIncreasing}
use Rattle.std.proofs.Math.Nat.{div-lt_iff_lt-mul}
use Rattle.std.proofs.lemmas.Nat.{pow_pos}
use Rattle.std.proofs.lemmas.Bool.{cond_both, eqb-true, eq-eqb, ne_eqb}
use Rattle.std.proofs.lemmas.List.{length-map, get_or-map}
use Rattle.std.proofs.lemmas.List.Elements.{All-cons, All-filter, filter-append}
use Rattle.std.proofs.lemmas.List.FromFn.{length-range_with_len, get_or-range_with_len, fill_by_all}
use Rattle.std.proofs.lemmas.List.Kept.{IsStrictlyIncreasing-filter}
use Rattle.std.proofs.lemmas.List.Sums.{length-filter, sum_by-cons, count_by_more_yes, count_by_more_no}
use Rattle.object_id.specs.declared.entry.VdiSpec.{VdiSpec}
use Rattle.object_id.specs.declared.limits.TheConstants.{OBJECTS_MAX}
use Rattle.object_id.specs.Oid.{object_number}
use Rattle.object_id.specs.Spec.{IsSpec, objects_of}
use Rattle.inode.specs.Layout.{Content}
use Rattle.disk_check.specs.Table.{own_indexes, inherited_count}

range_increasing : (n : ℕ) → IsStrictlyIncreasing (range_with_len 0 n)
range_increasing n k within =
    let long : length (range_with_len 0 n) ≡ n = length-range_with_len 0 n in
    let here : get_or (range_with_len 0 n) k 0 ≡ 0 + k = get_or-range_with_len 0 n k 0 (omega arith) in
    let next : get_or (range_with_len 0 n) (k + 1) 0 ≡ 0 + (k + 1) = get_or-range_with_len 0 n (k + 1) 0 (omega arith) in
    omega arith

pub own_indexes-ascend : (inode : Content) → IsStrictlyIncreasing (own_indexes inode)
own_indexes-ascend inode = IsStrictlyIncreasing-filter
    (λ index. slice_index inode.table index == inode.vid)
    (range_with_len 0 (length inode.table))
    (range_increasing (length inode.table))

passing : (p : ℕ → Bool) (xs : List ℕ) → All (λ x. p x ≡ true) (filter p xs)
passing p [] = λ k d within. absurd (omega arith)
passing p (x ∷ xs) = cond_both (p x) (x ∷ filter p xs) (filter p xs) (All (λ y. p y ≡ true))
    (λ e. All-cons (λ y. p y ≡ true) x (filter p xs) e (passing p xs))
    (λ e. passing p xs)

range_below : (n : ℕ) → All (λ x. x < n) (range_with_len 0 n)
range_below n k d within =
    let long : length (range_with_len 0 n) ≡ n = length-range_with_len 0 n in
    let here : get_or (range_with_len 0 n) k d ≡ 0 + k = get_or-range_with_len 0 n k d (omega arith) in
    omega arith

pub own_indexes-own : (inode : Content)
    → All (λ index. (index < length inode.table) × (slice_index inode.table index ≡ inode.vid)) (own_indexes inode)
own_indexes-own inode k d within = (
  All-filter (λ index. slice_index inode.table index == inode.vid) (λ x. x < length inode.table)
      (range_with_len 0 (length inode.table)) (range_below (length inode.table)) k d within,
  eqb-true _ _ (passing (λ index. slice_index inode.table index == inode.vid) (range_with_len 0 (length inode.table)) k d within),
)

count_by-map : (f : ℕ → ℕ) (p : ℕ → Bool) (xs : List ℕ) → count_by p (map f xs) ≡ count_by (λ x. p (f x)) xs
count_by-map f p [] = refl
count_by-map f p (x ∷ xs) =
    sum_by-cons (λ y. cond (p y) 1 0) (f x) (map f xs)
    ∙ ap (λ n. cond (p (f x)) 1 0 + n) (count_by-map f p xs)
    ∙ sym (sum_by-cons (λ y. cond (p (f y)) 1 0) x xs)

pub own_indexes-count : (inode : Content) → length (own_indexes inode) ≡ count_by (λ entry. entry == inode.vid) inode.table
own_indexes-count inode =
    let table : inode.table ≡ map (slice_index inode.table) (range_with_len 0 (length inode.table))
    = fill_by_all (slice_index inode.table) inode.table (length inode.table) 0 refl (λ k within. refl) in
    length-filter (λ index. slice_index inode.table index == inode.vid) (range_with_len 0 (length inode.table))
    ∙ sym (count_by-map (slice_index inode.table) (λ entry. entry == inode.vid) (range_with_len 0 (length inode.table)))
    ∙ ap (count_by (λ entry. entry == inode.vid)) (sym table)

one_kind : (vid entry : ℕ) → 1 ≤ vid
    → cond (entry == 0) 1 0 + cond (entry == vid) 1 0 + cond (not (entry == 0) && not (entry == vid)) 1 0 ≡ 1
one_kind vid entry some = by (entry == 0) (entry == vid) (eqb-true entry 0) (eqb-true entry vid)
  where
    by : (hole own : Bool) → (hole ≡ true → entry ≡ 0) → (own ≡ true → entry ≡ vid)
        → cond hole 1 0 + cond own 1 0 + cond (not hole && not own) 1 0 ≡ 1
    by true true is0 isv = let a = is0 refl in let b = isv refl in absurd (omega arith)
    by true false is0 isv = refl
    by false true is0 isv = refl
    by false false is0 isv = refl

pub kinds-all : (vid : ℕ) (table : List ℕ) → 1 ≤ vid
    → count_by (λ entry. entry == 0) table + count_by (λ entry. entry == vid) table
    + count_by (λ entry. not (entry == 0) && not (entry == vid)) table ≡ length table
kinds-all vid [] some = refl
kinds-all vid (entry ∷ table) some =
    let holes = sum_by-cons (λ e. cond (e == 0) 1 0) entry table in
    let own = sum_by-cons (λ e. cond (e == vid) 1 0) entry table in
    let others = sum_by-cons (λ e. cond (not (e == 0) && not (e == vid)) 1 0) entry table in
    let first = one_kind vid entry some in
    let later = kinds-all vid table some in
    omega (arith, holes, own, others, first, later)

pub entries-all : (inode : Content) → 1 ≤ inode.vid
    → count_by (λ entry. entry == 0) inode.table + length (own_indexes inode) + inherited_count inode ≡ length inode.table
entries-all inode some =
    ap (λ n. count_by (λ entry. entry == 0) inode.table + n + inherited_count inode) (own_indexes-count inode)
    ∙ kinds-all inode.vid inode.table some

-- objects of one disk ascend as their indexes do
pub object_numbers-ascend : (vid : ℕ) (xs : List ℕ) → IsStrictlyIncreasing xs → IsStrictlyIncreasing (map (object_number vid) xs)
object_numbers-ascend vid xs ascend k within =
    let long : length (map (object_number vid) xs) ≡ length xs = length-map xs (object_number vid) in
    let here = get_or-map (object_number vid) xs k 0 0 (omega arith) in
    let next = get_or-map (object_number vid) xs (k + 1) 0 0 (omega arith) in
    let below = ascend k (omega arith) in
    subst (λ m. m < get_or (map (object_number vid) xs) (k + 1) 0) (sym here)
    (subst (λ m. object_number vid (get_or xs k 0) < m) (sym next) (more vid (get_or xs k 0) (get_or xs (k + 1) 0) below))
  where
    more : (vid m n : ℕ) → m < n → object_number vid m < object_number vid n
    more vid m n below = omega arith

div_most : (size object : ℕ) → 0 < object → size ≤ 2 ^ 20 * object → (size + object - 1) / object ≤ 2 ^ 20
div_most size object some most =
    let below : size + object - 1 < (2 ^ 20 + 1) * object = omega (arith, some, most) in
    let quotient : (size + object - 1) / object < 2 ^ 20 + 1 = (div-lt_iff_lt-mul some).1 below in
    omega (arith, quotient)

-- a disk has at most so many objects
pub objects_of-most : (spec : VdiSpec) → IsSpec spec → objects_of spec ≤ OBJECTS_MAX
objects_of-most spec valid = div_most spec.size (2 ^ spec.shift) (pow_pos spec.shift) valid.size.1

-- ---- one entry more

range-more : (a n j : ℕ) → a + n ≡ j → range_with_len a (n + 1) ≡ range_with_len a n ++ j ∷ []
range-more a zero j e = ap (λ k. k ∷ []) (omega (arith, e))
range-more a (suc n) j e =
    let more : suc n + 1 ≡ suc (n + 1) = omega arith in
    rw more (ap (λ (xs : List ℕ). a ∷ xs) (range-more (a + 1) n j (omega (arith, e))))

own_more : (vid : ℕ) (table : List ℕ) (k : ℕ) (own : Bool) → (slice_index table k == vid) ≡ own
    → filter (λ index. slice_index table index == vid) (range_with_len 0 (k + 1))
    ≡ filter (λ index. slice_index table index == vid) (range_with_len 0 k) ++ cond own (k ∷ []) []
own_more vid table k own e =
    ap (filter (λ index. slice_index table index == vid)) (range-more 0 k k (omega arith))
    ∙ filter-append (λ index. slice_index table index == vid) (range_with_len 0 k) (k ∷ [])
    ∙ ap (λ b. filter (λ index. slice_index table index == vid) (range_with_len 0 k) ++ cond b (k ∷ []) []) e

-- whether an entry is another disk's
abbrev pub is_inherited : ℕ → ℕ → Bool
is_inherited vid entry = not (entry == 0) && not (entry == vid)

-- what was found in the entries up to a place
pub record FoundUpTo (vid : ℕ) (table : List ℕ) (k : ℕ) (own : List ℕ) (inherited : ℕ) : Type 0 where
  pub own_is : own ≡ filter (λ index. slice_index table index == vid) (range_with_len 0 k)
  pub inherited_is : inherited ≡ count_by (is_inherited vid) (take k table)

pub own_entry : (vid : ℕ) (table : List ℕ) (k : ℕ) (own : List ℕ) (inherited : ℕ) → k < length table → slice_index table k ≡ vid
    → FoundUpTo vid table k own inherited → FoundUpTo vid table (k + 1) (own ++ k ∷ []) inherited
own_entry vid table k own inherited within e found = record {
  own_is = ap (λ (xs : List ℕ). xs ++ k ∷ []) found.own_is ∙ sym (own_more vid table k true (eq-eqb (slice_index table k) vid e));
  inherited_is =
      found.inherited_is
      ∙ sym (count_by_more_no (is_inherited vid) table k 0 within (both (slice_index table k == 0) (slice_index table k == vid) (eq-eqb (slice_index table k) vid e)));
}
  where
    both : (a b : Bool) → b ≡ true → (not a && not b) ≡ false
    both true b e = refl
    both false true e = refl
    both false false e = absurd (cc (e))

pub inherited_entry : (vid : ℕ) (table : List ℕ) (k : ℕ) (own : List ℕ) (inherited : ℕ) → k < length table
    → (slice_index table k ≡ vid → ⊥) → (slice_index table k ≡ 0 → ⊥)
    → FoundUpTo vid table k own inherited → FoundUpTo vid table (k + 1) own (inherited + 1)
inherited_entry vid table k own inherited within other some found = record {
  own_is = found.own_is ∙ sym (own_more vid table k false (ne_eqb (slice_index table k) vid other) ∙ append-nil _);
  inherited_is =
      ap (λ n. n + 1) found.inherited_is
      ∙ sym (count_by_more_yes (is_inherited vid) table k 0 within
      (both (slice_index table k == 0) (slice_index table k == vid) (ne_eqb (slice_index table k) 0 some) (ne_eqb (slice_index table k) vid other)));
}
  where
    both : (a b : Bool) → a ≡ false → b ≡ false → (not a && not b) ≡ true
    both true b e f = absurd (cc (e))
    both false true e f = absurd (cc (f))
    both false false e f = refl

pub hole_entry : (vid : ℕ) (table : List ℕ) (k : ℕ) (own : List ℕ) (inherited : ℕ) → k < length table
    → (slice_index table k ≡ vid → ⊥) → slice_index table k ≡ 0
    → FoundUpTo vid table k own inherited → FoundUpTo vid table (k + 1) own inherited
hole_entry vid table k own inherited within other none found = record {
  own_is = found.own_is ∙ sym (own_more vid table k false (ne_eqb (slice_index table k) vid other) ∙ append-nil _);
  inherited_is =
      found.inherited_is
      ∙ sym (count_by_more_no (is_inherited vid) table k 0 within
      (ap (λ b. not b && not (slice_index table k == vid)) (eq-eqb (slice_index table k) 0 none)));
}
