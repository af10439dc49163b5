-- Who bears an id: what one reference more or less changes.
use Rattle.std.proofs.Common.{◌≡◌, ◌≢◌, ◌⊎◌, inl, inr, ℕ, zero, suc, ◌+◌, ◌^◌, ◌<◌, ◌≤◌, ◌==◌, nat_lt, Bool, true, false, cond, List, length, get_or, drop, Option, Some, None, refl, ap, sym, ◌∙◌, subst, arith}
use Rattle.std.proofs.lemmas.Bool.{cases_eq, eq-eqb, ne_eqb, lt-ltb}
use Rattle.object_id.specs.declared.oid.Vid.{Vid}
use Rattle.std.proofs.lemmas.List.{drop_more, drop_all}
use Rattle.object_id.specs.declared.node.NodeId.{NodeId}
use Rattle.vdi_directory.specs.declared.effect.Reservation.{Reservation}
use Rattle.vdi_directory.specs.References.{one, one_parent_reference, references_by, total, KEY_COUNT, child_references, AreReferenceCounts, reserved_once, reserved_by}

-- sums
total-same-below : (f g : ℕ → ℕ) (n : ℕ) → ((k : ℕ) → k < n → f k ≡ g k) → total f n ≡ total g n
unfolding total
total-same-below f g zero same = refl
total-same-below f g (suc n) same =
    let low : total f n ≡ total g n = total-same-below f g n (λ k below. same k (omega arith)) in
    let here : f n ≡ g n = same n (omega arith) in
    omega arith

-- functions that differ at one number
total-change : (f g : ℕ → ℕ) (x n : ℕ) → x < n → ((k : ℕ) → k ≢ x → f k ≡ g k) → total f n + g x ≡ total g n + f x
unfolding total
total-change f g x zero below same = absurd (omega arith)
total-change f g x (suc n) below same = by_place (cases_eq x n) (λ less. total-change f g x n less same)
  where
    by_place : (x ≡ n) ⊎ (x ≢ n) → (x < n → total f n + g x ≡ total g n + f x) → total f n + f n + g x ≡ total g n + g n + f x
    by_place (inl last) lower =
        let low : total f n ≡ total g n = total-same-below f g n (λ k under. same k (omega arith)) in
        let one : f x ≡ f n = ap f last in
        let two : g x ≡ g n = ap g last in
        omega arith
    by_place (inr before) lower =
        let low : total f n + g x ≡ total g n + f x = lower (omega arith) in
        let here : f n ≡ g n = same n (λ is. before (sym is)) in
        omega arith

pub total-zero : (f : ℕ → ℕ) (n : ℕ) → ((k : ℕ) → k < n → f k ≡ 0) → total f n ≡ 0
unfolding total
total-zero f zero none = refl
total-zero f (suc n) none =
    let low : total f n ≡ 0 = total-zero f n (λ k below. none k (omega arith)) in
    let here : f n ≡ 0 = none n (omega arith) in
    omega arith

pub total-le : (f : ℕ → ℕ) (k n : ℕ) → k < n → f k ≤ total f n
unfolding total
total-le f k zero below = absurd (omega arith)
total-le f k (suc n) below = by_place (cases_eq k n) (λ less. total-le f k n less)
  where
    by_place : (k ≡ n) ⊎ (k ≢ n) → (k < n → f k ≤ total f n) → f k ≤ total f n + f n
    by_place (inl last) lower = let same : f k ≡ f n = ap f last in omega arith
    by_place (inr before) lower = let low : f k ≤ total f n = lower (omega arith) in omega arith

pub total-most : (f : ℕ → ℕ) (n : ℕ) → ((k : ℕ) → f k ≤ 1) → total f n ≤ n
unfolding total
total-most f zero most = omega arith
total-most f (suc n) most =
    let low : total f n ≤ n = total-most f n most in
    let here : f n ≤ 1 = most n in
    omega arith

-- the words at an id, and at others
pub one-same : (vid : ℕ) → one vid vid ≡ 1
one-same vid = ap (λ b. cond b 1 0) (eq-eqb vid vid refl)

pub one-other : (vid other : ℕ) → vid ≢ other → one vid other ≡ 0
one-other vid other apart = ap (λ b. cond b 1 0) (ne_eqb vid other apart)

pub cond-most : (b : Bool) → cond b 1 0 ≤ 1
cond-most true = omega arith
cond-most false = omega arith

pub one-most : (vid other : ℕ) → one vid other ≤ 1
one-most vid other = cond-most (vid == other)

one_parent_reference-most : (parent : Option Vid) (vid : ℕ) → one_parent_reference parent vid ≤ 1
one_parent_reference-most None vid = omega arith
one_parent_reference-most (Some parent) vid = one-most parent.0 vid

pub references_by-most : (parent : Option Vid) (count vid : ℕ) → references_by parent count vid ≤ 1
references_by-most parent count vid = by_test (nat_lt 0 count)
  where
    by_test : (b : Bool) → cond b (one_parent_reference parent vid) 0 ≤ 1
    by_test true = one_parent_reference-most parent vid
    by_test false = omega arith

pub references_by-some : (parent : Option Vid) (count vid : ℕ) → 0 < count → references_by parent count vid ≡ one_parent_reference parent vid
references_by-some parent count vid some = ap (λ b. cond b (one_parent_reference parent vid) 0) (lt-ltb 0 count some)

pub references_by-none : (parent : Option Vid) (count vid : ℕ) → count ≡ 0 → references_by parent count vid ≡ 0
references_by-none parent count vid none = ap (λ n. references_by parent n vid) none

pub key-below : (vid : ℕ) → vid < 2 ^ 32 → vid < KEY_COUNT
unfolding KEY_COUNT
key-below vid below = below

pub key-most : KEY_COUNT ≤ 2 ^ 32
unfolding KEY_COUNT
key-most = omega arith

-- one reference less
module _ (parent : ℕ → Option Vid) (own old new : ℕ → ℕ) (x : ℕ) (within : x < KEY_COUNT) (taken : (vid : ℕ) → old vid ≡ new vid + one x vid) where
  fewer-here : old x ≡ new x + 1
  fewer-here = taken x ∙ ap (λ n. new x + n) (one-same x)

  fewer-there : (vid : ℕ) → vid ≢ x → old vid ≡ new vid
  fewer-there vid apart =
      let none : one x vid ≡ 0 = one-other x vid (λ is. apart (sym is)) in
      let all : old vid ≡ new vid + one x vid = taken vid in
      omega arith

  fewer-children : (vid : ℕ) → child_references parent old vid + references_by (parent x) (new x) vid ≡ child_references parent new vid + references_by (parent x) (old x) vid
  fewer-children vid =
      total-change (λ k. references_by (parent k) (old k) vid) (λ k. references_by (parent k) (new k) vid) x KEY_COUNT within
      (λ k apart. ap (λ n. references_by (parent k) n vid) (fewer-there k apart))

  pub fewer-total : total new KEY_COUNT < total old KEY_COUNT
  fewer-total =
      let all : total old KEY_COUNT + new x ≡ total new KEY_COUNT + old x = total-change old new x KEY_COUNT within fewer-there in
      let here : old x ≡ new x + 1 = fewer-here in
      omega arith

  -- the last: its parent has one too many
  pub fewer-last : new x ≡ 0 → AreReferenceCounts parent (λ vid. own vid + one x vid) old → AreReferenceCounts parent (λ vid. own vid + one_parent_reference (parent x) vid) new
  fewer-last last are vid =
      let children : child_references parent old vid + references_by (parent x) (new x) vid ≡ child_references parent new vid + references_by (parent x) (old x) vid = fewer-children vid in
      let none : references_by (parent x) (new x) vid ≡ 0 = references_by-none (parent x) (new x) vid last in
      let was : old x ≡ new x + 1 = fewer-here in
      let some : references_by (parent x) (old x) vid ≡ one_parent_reference (parent x) vid = references_by-some (parent x) (old x) vid (omega arith) in
      let all : old vid ≡ own vid + one x vid + child_references parent old vid = are vid in
      let less : old vid ≡ new vid + one x vid = taken vid in
      omega arith

  pub fewer-more : new x ≢ 0 → AreReferenceCounts parent (λ vid. own vid + one x vid) old → AreReferenceCounts parent own new
  fewer-more more are vid =
      let children : child_references parent old vid + references_by (parent x) (new x) vid ≡ child_references parent new vid + references_by (parent x) (old x) vid = fewer-children vid in
      let here : references_by (parent x) (new x) vid ≡ one_parent_reference (parent x) vid = references_by-some (parent x) (new x) vid (omega arith) in
      let was : old x ≡ new x + 1 = fewer-here in
      let some : references_by (parent x) (old x) vid ≡ one_parent_reference (parent x) vid = references_by-some (parent x) (old x) vid (omega arith) in
      let all : old vid ≡ own vid + one x vid + child_references parent old vid = are vid in
      let less : old vid ≡ new vid + one x vid = taken vid in
      omega arith

  -- whichever loses one next
  pub fewer : AreReferenceCounts parent (λ vid. own vid + one x vid) old
      → AreReferenceCounts parent (λ vid. own vid + one_parent_reference (cond (new x == 0) (parent x) None) vid) new
  fewer are = by_place (cases_eq (new x) 0)
    where
      by_place : (new x ≡ 0) ⊎ (new x ≢ 0) → AreReferenceCounts parent (λ vid. own vid + one_parent_reference (cond (new x == 0) (parent x) None) vid) new
      by_place (inl last) =
          subst (λ b. AreReferenceCounts parent (λ vid. own vid + one_parent_reference (cond b (parent x) None) vid) new) (sym (eq-eqb (new x) 0 last)) (fewer-last last are)
      by_place (inr more) =
          subst (λ b. AreReferenceCounts parent (λ vid. own vid + one_parent_reference (cond b (parent x) None) vid) new) (sym (ne_eqb (new x) 0 more))
          (λ vid. (let is : new vid ≡ own vid + child_references parent new vid = fewer-more more are vid in omega arith))

-- a child more
module _ (parent later : ℕ → Option Vid) (own old new : ℕ → ℕ) (x : ℕ) (from : Option Vid) (within : x < KEY_COUNT)
    (added : (vid : ℕ) → new vid ≡ old vid + one x vid + one_parent_reference from vid) (fresh : old x ≡ 0)
    (referenced : (vid : ℕ) → (one_parent_reference from vid ≡ 0) ⊎ (0 < old vid))
    (here : later x ≡ from) (there : (vid : ℕ) → vid ≢ x → later vid ≡ parent vid) where
  child-there : (vid k : ℕ) → k ≢ x → references_by (later k) (new k) vid ≡ references_by (parent k) (old k) vid
  child-there vid k apart = ap (λ p. references_by p (new k) vid) (there k apart) ∙ by_case (referenced k)
    where
      plus : new k ≡ old k + one_parent_reference from k
      plus =
          let none : one x k ≡ 0 = one-other x k (λ is. apart (sym is)) in
          let all : new k ≡ old k + one x k + one_parent_reference from k = added k in
          omega (arith, none, all)

      by_case : (one_parent_reference from k ≡ 0) ⊎ (0 < old k) → references_by (parent k) (new k) vid ≡ references_by (parent k) (old k) vid
      by_case (inl none) = let same : new k ≡ old k = omega (arith, plus) in ap (λ n. references_by (parent k) n vid) same
      by_case (inr some) = references_by-some (parent k) (new k) vid (omega (arith, plus)) ∙ sym (references_by-some (parent k) (old k) vid some)

  pub child-more : AreReferenceCounts parent own old → AreReferenceCounts later (λ vid. own vid + one x vid) new
  child-more are vid =
      let children : child_references later new vid + references_by (parent x) (old x) vid ≡ child_references parent old vid + references_by (later x) (new x) vid
      = total-change (λ k. references_by (later k) (new k) vid) (λ k. references_by (parent k) (old k) vid) x KEY_COUNT within (child-there vid) in
      let none : references_by (parent x) (old x) vid ≡ 0 = references_by-none (parent x) (old x) vid fresh in
      let self : new x ≡ old x + one x x + one_parent_reference from x = added x in
      let it : one x x ≡ 1 = one-same x in
      let some : references_by (later x) (new x) vid ≡ one_parent_reference from vid
      = references_by-some (later x) (new x) vid (omega arith) ∙ ap (λ p. one_parent_reference p vid) here in
      let all : old vid ≡ own vid + child_references parent old vid = are vid in
      let more : new vid ≡ old vid + one x vid + one_parent_reference from vid = added vid in
      omega arith

-- the reservations from one on
pub reserved-more : (node : NodeId) (reservations : List Reservation) (i : ℕ) (reservation : Reservation) → i < length reservations → reservation ≡ get_or reservations i reservation → (vid : ℕ)
    → reserved_by node (drop i reservations) vid ≡ reserved_once node reservation vid + reserved_by node (drop (i + 1) reservations) vid
reserved-more node reservations i reservation within is vid =
    ap (λ left. reserved_by node left vid) (drop_more reservations i reservation within)
    ∙ ap (λ (first : Reservation). reserved_once node first vid + reserved_by node (drop (i + 1) reservations) vid) (sym is)

pub reserved-all : (node : NodeId) (reservations : List Reservation) (i : ℕ) → length reservations ≤ i → (vid : ℕ) → reserved_by node (drop i reservations) vid ≡ 0
reserved-all node reservations i past vid = ap (λ left. reserved_by node left vid) (drop_all i reservations past)

pub reserved-first : (parent : ℕ → Option Vid) (own counts : ℕ → ℕ) (node : NodeId) (reservations : List Reservation) (i : ℕ) (reservation : Reservation)
    → i < length reservations → reservation ≡ get_or reservations i reservation → AreReferenceCounts parent (λ vid. own vid + reserved_by node (drop i reservations) vid) counts
    → AreReferenceCounts parent (λ vid. own vid + reserved_by node (drop (i + 1) reservations) vid + reserved_once node reservation vid) counts
reserved-first parent own counts node reservations i reservation within is are vid =
    let more : reserved_by node (drop i reservations) vid ≡ reserved_once node reservation vid + reserved_by node (drop (i + 1) reservations) vid
    = reserved-more node reservations i reservation within is vid in
    let all : counts vid ≡ own vid + reserved_by node (drop i reservations) vid + child_references parent counts vid = are vid in
    omega (arith, more, all)

pub none-bear : (parent : ℕ → Option Vid) (own counts : ℕ → ℕ) → ((vid : ℕ) → own vid ≡ 0) → ((vid : ℕ) → counts vid ≡ 0) → AreReferenceCounts parent own counts
none-bear parent own counts no_own none vid =
    let children : child_references parent counts vid ≡ 0
    = total-zero (λ child. references_by (parent child) (counts child) vid) KEY_COUNT (λ child below. references_by-none (parent child) (counts child) vid (none child)) in
    let self : own vid ≡ 0 = no_own vid in
    let all : counts vid ≡ 0 = none vid in
    omega (arith, children, self, all)

-- an id with a reference of its own has some
pub referenced-some : (parent : ℕ → Option Vid) (own counts : ℕ → ℕ) (vid : ℕ) → AreReferenceCounts parent (λ other. own other + one vid other) counts → 0 < counts vid
referenced-some parent own counts vid are =
    let all : counts vid ≡ own vid + one vid vid + child_references parent counts vid = are vid in
    let it : one vid vid ≡ 1 = one-same vid in
    omega (arith, all, it)
