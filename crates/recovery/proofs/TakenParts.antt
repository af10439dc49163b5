-- The bytes of the rows that are taken at a level, and that they are parts of different indexes.
use Rattle.std.proofs.Common.{◌≡◌, inl, inr, ◌==◌, le_trans, ltb-true, nat_lt, Bool, true, false, cond, ℕ, zero, suc, ◌+◌, ◌-◌, ◌*◌, ◌/◌, ◌<◌, ◌≤◌, List, [], ◌∷◌, ◌++◌, length, take, map, fold, flat_map, All, refl, ap, ap₂, sym, ◌∙◌, arith}
use Rattle.std.specs.Borrow.{Bor}
use Rattle.std.proofs.lemmas.Bool.{ltb-false, eqb-false, cases_lt}
use Rattle.std.proofs.lemmas.List.{length-append, length-take, length-replicate}
use Rattle.std.proofs.lemmas.List.Elements.{All-nil, All-cons}
use Rattle.object_id.specs.Fields.{zeros}
use Rattle.object_id.specs.declared.limits.TheConstants.{TARGETS_MAX}
use Rattle.object_id.specs.declared.oid.Kind.{Kind}
use Rattle.object_id.specs.declared.oid.Kind.TheVariants.{Block, Inode}
use Rattle.object_id.specs.declared.policy.Policy.{Policy}
use Rattle.object_id.specs.declared.policy.Policy.TheVariants.{Copies, Coded}
use Rattle.object_id.specs.Policy.{IsPolicy, need_of}
use Rattle.gf256.specs.Part.{part_size, parts_in}
use Rattle.gf256.specs.Polynomial.{ArePoints}
use Rattle.gf256.proofs.Points.{Avoids, Points, points_to}
use Rattle.gf256.proofs.PartLaws.{parts_in-laid}
use Rattle.gf256.proofs.Widths as widths
use Rattle.object_store.specs.declared.row.RowCopy.{RowCopy}
use Rattle.object_store.specs.Store.{row_bytes}
use Rattle.recovery.specs.Level.{put_by_index, by_index, rows_in_order, rows_taken, indexes_of}
use Rattle.recovery.specs.Kept.{rows_of_refs}
use Rattle.recovery.specs.Step.{HaveSize}

-- ---- rows of one length, one behind the other

length-row : (row : RowCopy) → length (row_bytes row) ≡ row.length
length-row row =
    let first = length-take row.length row.bytes in
    let none : ℕ = 0 in
    let rest = length-replicate (row.length - length row.bytes) none in
    let both = length-append (take row.length row.bytes) (zeros (row.length - length row.bytes)) in
    omega (arith, first, rest, both)

long-all : (size : ℕ) (rows : List RowCopy) → HaveSize size rows → All (λ (part : List ℕ). length part ≡ size) (map row_bytes rows)
long-all size [] have = All-nil (λ (part : List ℕ). length part ≡ size)
long-all size (row ∷ rows) have =
    All-cons (λ (part : List ℕ). length part ≡ size) (row_bytes row) (map row_bytes rows) (length-row row ∙ have.0) (long-all size rows have.1)

flat-rows : (rows : List RowCopy) → flat_map row_bytes rows ≡ flat_map (λ (part : List ℕ). part) (map row_bytes rows)
flat-rows [] = refl
flat-rows (row ∷ rows) = ap (λ (rest : List ℕ). row_bytes row ++ rest) (flat-rows rows)

length-mapped : (rows : List RowCopy) → length (map row_bytes rows) ≡ length rows
length-mapped [] = refl
length-mapped (row ∷ rows) = ap suc (length-mapped rows)

pub parts-again : (size n : ℕ) (rows : List RowCopy) → HaveSize size rows → length rows ≡ n
    → parts_in size n (flat_map row_bytes rows) ≡ map row_bytes rows
parts-again size n rows have count =
    ap₂ (parts_in size) (sym count ∙ sym (length-mapped rows)) (flat-rows rows)
    ∙ parts_in-laid size (map row_bytes rows) (long-all size rows have)

pub length-rows : (size : ℕ) (rows : List RowCopy) → HaveSize size rows → length (flat_map row_bytes rows) ≡ length rows * size
length-rows size [] have = grind arith
length-rows size (row ∷ rows) have =
    let rest : length (flat_map row_bytes rows) ≡ length rows * size = length-rows size rows have.1 in
    length-append (row_bytes row) (flat_map row_bytes rows) ∙ ap₂ ◌+◌ (length-row row ∙ have.0) rest ∙ grind arith

-- as many parts as a read needs are of so many bytes
pub size-whole : (policy : Policy) (kind : Kind) (size : ℕ) → IsPolicy policy → part_size policy kind (size * need_of policy kind) ≡ size
size-whole (Copies copies) kind size is = grind arith
size-whole (Coded d p) Block size is = widths.by_cases (λ (n : ℕ). size * n / n ≡ size) (omega arith) (omega arith) (omega arith) (omega arith) d is.0
size-whole (Coded d p) Inode size is = grind arith

pub need-some : (policy : Policy) (kind : Kind) → IsPolicy policy → 1 ≤ need_of policy kind
need-some (Copies copies) kind is = omega arith
need-some (Coded d p) Block is = widths.by_cases (λ (n : ℕ). 1 ≤ n) (omega arith) (omega arith) (omega arith) (omega arith) d is.0
need-some (Coded d p) Inode is = omega arith

pub need-few : (policy : Policy) (kind : Kind) → IsPolicy policy → need_of policy kind ≤ 16
need-few (Copies copies) kind is = omega arith
need-few (Coded d p) Block is = widths.width_most d is.0
need-few (Coded d p) Inode is = omega arith

-- ---- the taken rows have different indexes

-- rows that fit, one by one
abbrev pub Each : (RowCopy → Type 0) → List RowCopy → Type 0
Each P [] = Unit {0}
Each P (row ∷ rows) = P row × Each P rows

pub each-put : (P : RowCopy → Type 0) (rows : List RowCopy) (row : RowCopy) → Each P rows → P row → Each P (put_by_index rows row)
each-put P [] row all one = (one, tt)
each-put P (first ∷ rest) row all one = by_order (nat_lt row.index first.index) (each-put P rest row all.1 one)
  where
    by_same : (b : Bool) → Each P (put_by_index rest row) → Each P (cond b (first ∷ rest) (first ∷ put_by_index rest row))
    by_same true more = all
    by_same false more = (all.0, more)

    by_order : (b : Bool) → Each P (put_by_index rest row)
        → Each P (cond b (row ∷ first ∷ rest) (cond (row.index == first.index) (first ∷ rest) (first ∷ put_by_index rest row)))
    by_order true more = (one, all)
    by_order false more = by_same (row.index == first.index) more

each-fold : (P : RowCopy → Type 0) (start rows : List RowCopy) → Each P start → Each P rows → Each P (fold put_by_index start rows)
each-fold P start [] first all = first
each-fold P start (row ∷ rows) first all = each-fold P (put_by_index start row) rows (each-put P start row first all.0) all.1

pub each-ordered : (P : RowCopy → Type 0) (policy : Policy) (kind : Kind) (rows : List RowCopy) → Each P rows → Each P (rows_in_order policy kind rows)
each-ordered P (Copies copies) kind rows all = all
each-ordered P (Coded d p) Block rows all = each-fold P [] rows tt all
each-ordered P (Coded d p) Inode rows all = all

pub each-taken : (P : RowCopy → Type 0) (n : ℕ) (rows : List RowCopy) → Each P rows → Each P (take n rows)
each-taken P zero rows all = tt
each-taken P (suc n) [] all = tt
each-taken P (suc n) (row ∷ rows) all = (all.0, each-taken P n rows all.1)

-- indexes above one, which ascend, and so differ
abbrev Rise : ℕ → List RowCopy → Type 0
Rise low [] = Unit {0}
Rise low (row ∷ rows) = (low ≤ row.index) × Rise (suc row.index) rows

rise-from : (low high : ℕ) (rows : List RowCopy) → low ≤ high → Rise high rows → Rise low rows
rise-from low high [] most up = tt
rise-from low high (row ∷ rows) most up = (le_trans most up.0, up.1)

over : (low high : ℕ) → low ≤ high → (high ≡ low → ⊥) → suc low ≤ high
over low high most other = elim (cases_lt low high) [
  | inl less ↦ (omega (arith, less))
  | inr from ↦ absurd (other (let same : high ≡ low = omega (arith, most, from) in same))
]

rise-put : (low : ℕ) (rows : List RowCopy) (row : RowCopy) → Rise low rows → low ≤ row.index → Rise low (put_by_index rows row)
rise-put low [] row up from = (from, tt)
rise-put low (first ∷ rest) row up from = by_order (nat_lt row.index first.index) refl (rise-put (suc first.index) rest row up.1)
  where
    by_same : nat_lt row.index first.index ≡ false → (suc first.index ≤ row.index → Rise (suc first.index) (put_by_index rest row)) → (b : Bool)
        → (row.index == first.index) ≡ b → Rise low (cond b (first ∷ rest) (first ∷ put_by_index rest row))
    by_same from-first more true is = up
    by_same from-first more false is =
        (up.0, more (over first.index row.index (ltb-false row.index first.index from-first) (eqb-false row.index first.index is)))

    by_order : (b : Bool) → nat_lt row.index first.index ≡ b → (suc first.index ≤ row.index → Rise (suc first.index) (put_by_index rest row))
        → Rise low (cond b (row ∷ first ∷ rest) (cond (row.index == first.index) (first ∷ rest) (first ∷ put_by_index rest row)))
    by_order true is more = (from, (ltb-true row.index first.index is, up.1))
    by_order false is more = by_same is more (row.index == first.index) refl

rise-fold : (start rows : List RowCopy) → Rise 0 start → Rise 0 (fold put_by_index start rows)
rise-fold start [] up = up
rise-fold start (row ∷ rows) up = rise-fold (put_by_index start row) rows (rise-put 0 start row up (omega arith))

rise-taken : (low n : ℕ) (rows : List RowCopy) → Rise low rows → Rise low (take n rows)
rise-taken low zero rows up = tt
rise-taken low (suc n) [] up = tt
rise-taken low (suc n) (row ∷ rows) up = (up.0, rise-taken (suc row.index) n rows up.1)

avoids-low : (index low : ℕ) (rows : List RowCopy) → index < low → Rise low rows → Avoids index (indexes_of rows)
avoids-low index low [] below up = tt
avoids-low index low (row ∷ rows) below up =
    ((λ same. let least = up.0 in absurd (omega (arith, below, least, same))), avoids-low index (suc row.index) rows (let least = up.0 in omega (arith, below, least)) up.1)

points-risen : (low : ℕ) (rows : List RowCopy) → Each (λ row. row.index < TARGETS_MAX) rows → Rise low rows → Points (indexes_of rows)
points-risen low [] small up = tt
points-risen low (row ∷ rows) small up =
    ((let less = small.0 in omega (arith, less)), avoids-low row.index (suc row.index) rows (omega arith) up.1, points-risen (suc row.index) rows small.1 up.1)

points-one : (rows : List RowCopy) → Each (λ row. row.index < TARGETS_MAX) rows → Points (indexes_of (take 1 rows))
points-one [] small = tt
points-one (row ∷ rows) small = ((let less = small.0 in omega (arith, less)), tt, tt)

pub points-taken : (policy : Policy) (kind : Kind) (rows : List RowCopy) → Each (λ row. row.index < TARGETS_MAX) rows
    → ArePoints (indexes_of (rows_taken policy kind rows))
points-taken policy kind rows small = points_to (indexes_of (rows_taken policy kind rows)) (by_policy policy kind)
  where
    by_policy : (policy : Policy) (kind : Kind) → Points (indexes_of (rows_taken policy kind rows))
    by_policy (Copies copies) kind = points-one rows small
    by_policy (Coded d p) Inode = points-one rows small
    by_policy (Coded d p) Block =
        points-risen 0 (take d (by_index rows)) (each-taken (λ row. row.index < TARGETS_MAX) d (by_index rows) (each-fold (λ row. row.index < TARGETS_MAX) [] rows tt small))
        (rise-taken 0 d (by_index rows) (rise-fold [] rows tt))

pub sized : (size : ℕ) (rows : List RowCopy) → Each (λ row. row.length ≡ size) rows → HaveSize size rows
sized size [] all = tt
sized size (row ∷ rows) all = (all.0, sized size rows all.1)

pub length-refs : (rows : List (Bor RowCopy)) → length (rows_of_refs rows) ≡ length rows
length-refs [] = refl
length-refs (row ∷ rows) = ap suc (length-refs rows)
