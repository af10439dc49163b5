-- A set of nodes as the bits of its word: what each call makes of them.
use Rattle.std.proofs.Common.{◌≡◌, ◌↔◌, ℕ, zero, suc, ◌*◌, ◌/◌, ◌%◌, ◌^◌, ◌<◌, ◌≤◌, ◌==◌, ◌&&◌, ◌||◌, Bool, true, false, not, min, nat_lt, refl, sym, ap, ◌∙◌, arith, eqb-true, eq-eqb, bit_and, bit_or, w64}
use Rattle.std.specs.Int.{bit_at, bit_not}
use Rattle.std.proofs.lemmas.Bool.{ltb-true, ltb-false, lt-ltb, le-ltb, eqb-false}
use Rattle.std.proofs.lemmas.Nat.Bits.{bit_at-zero, bit_at-lt, bit_at_and, bit_at_above, bit_at_set_same, bit_at_set_other, bit_at_clear_same, bit_at_clear_other, shr_and_one, same_from_bits}
use Rattle.message_wire.specs.declared.node_set.NodeSet.{NodeSet}
use Rattle.message_wire.specs.NodeSet.{contains_node, end_place}

and-false : (b : Bool) → (b && false) ≡ false
and-false true = refl
and-false false = refl

and-true : (b : Bool) → (b && true) ≡ b
and-true true = refl
and-true false = refl

or-true : (b : Bool) → (b || true) ≡ true
or-true true = refl
or-true false = refl

or-false : (b : Bool) → (b || false) ≡ b
or-false true = refl
or-false false = refl

pub and-left : (a b : Bool) → (a && b) ≡ true → a ≡ true
and-left true b both = refl
and-left false b both = both

pub and-right : (a b : Bool) → (a && b) ≡ true → b ≡ true
and-right true b both = both
and-right false b both = absurd (cc (both))

pub and-both : (a b : Bool) → a ≡ true → b ≡ true → (a && b) ≡ true
and-both true b first second = second
and-both false b first second = first

-- tests that follow from each other are the same
pub same_test : (a b : Bool) → (a ≡ true → b ≡ true) → (b ≡ true → a ≡ true) → a ≡ b
same_test true b there back = sym (there refl)
same_test false true there back = back refl
same_test false false there back = refl

-- the test of a node's bit
abbrev bit_test : ℕ → ℕ → Bool
bit_test bits node = nat_lt node 64 && (bit_at bits node == 1)

pub contains_node-below : (node : ℕ) (nodes : NodeSet) → contains_node node nodes ≡ true → node < 64
unfolding contains_node
contains_node-below node nodes has = ltb-true node 64 (and-left (nat_lt node 64) (bit_at nodes.bits node == 1) has)

pub contains_node-beyond : (node : ℕ) (nodes : NodeSet) → 64 ≤ node → contains_node node nodes ≡ false
unfolding contains_node
contains_node-beyond node nodes beyond = ap (λ (b : Bool). b && (bit_at nodes.bits node == 1)) (le-ltb node 64 beyond)

contains_node-bit : (node : ℕ) (nodes : NodeSet) → contains_node node nodes ≡ true → bit_at nodes.bits node ≡ 1
unfolding contains_node
contains_node-bit node nodes has = eqb-true (bit_at nodes.bits node) 1 (and-right (nat_lt node 64) (bit_at nodes.bits node == 1) has)

contains_node-from_bit : (node : ℕ) (nodes : NodeSet) → node < 64 → bit_at nodes.bits node ≡ 1 → contains_node node nodes ≡ true
unfolding contains_node
contains_node-from_bit node nodes below bit =
    and-both (nat_lt node 64) (bit_at nodes.bits node == 1) (lt-ltb node 64 below) (eq-eqb (bit_at nodes.bits node) 1 bit)

-- the set without bits
pub contains_node-none : (node : ℕ) → contains_node node (record { bits = 0 }) ≡ false
unfolding contains_node
contains_node-none node = ap (λ (n : ℕ). nat_lt node 64 && (n == 1)) (bit_at-zero node) ∙ and-false (nat_lt node 64)

-- the test of a bit by a shift
pub contains_node-shift : (node : ℕ) (nodes : NodeSet) → (nat_lt node 64 && (bit_and (nodes.bits / 2 ^ node) 1 == 1)) ≡ contains_node node nodes
unfolding contains_node
contains_node-shift node nodes = ap (λ (n : ℕ). nat_lt node 64 && (n == 1)) (shr_and_one nodes.bits node)

-- a node enters
module _ (node bits : ℕ) (within : node < 64) (other : ℕ) where
  set_by : (b : Bool) → (other == node) ≡ b → bit_test (bit_or bits (1 * 2 ^ node % 2 ^ 64)) other ≡ (bit_test bits other || (b && nat_lt node 64))
  set_by true is =
      let same : other ≡ node = eqb-true other node is in
      let low : nat_lt node 64 ≡ true = lt-ltb node 64 within in
      (λ i. nat_lt (same i) 64 && (bit_at (bit_or bits (1 * 2 ^ node % 2 ^ 64)) (same i) == 1))
      ∙ ap (λ (n : ℕ). nat_lt node 64 && (n == 1)) (bit_at_set_same w64 bits node within)
      ∙ and-true (nat_lt node 64) ∙ low
      ∙ sym (ap (λ (b : Bool). bit_test bits other || b) low ∙ or-true (bit_test bits other))
  set_by false is =
      ap (λ (n : ℕ). nat_lt other 64 && (n == 1)) (bit_at_set_other w64 bits node within other (eqb-false other node is))
      ∙ sym (or-false (bit_test bits other))

  pub contains_node-set : contains_node other (record { bits = bit_or bits (1 * 2 ^ node % 2 ^ 64) })
      ≡ (contains_node other (record { bits = bits }) || (other == node && nat_lt node 64))
  unfolding contains_node
  contains_node-set = set_by (other == node) refl

  clear_by : (b : Bool) → (other == node) ≡ b → bit_test (bit_and bits (bit_not w64 (1 * 2 ^ node % 2 ^ 64))) other ≡ (bit_test bits other && not b)
  clear_by true is =
      let same : other ≡ node = eqb-true other node is in
      (λ i. nat_lt (same i) 64 && (bit_at (bit_and bits (bit_not w64 (1 * 2 ^ node % 2 ^ 64))) (same i) == 1))
      ∙ ap (λ (n : ℕ). nat_lt node 64 && (n == 1)) (bit_at_clear_same w64 bits node within)
      ∙ and-false (nat_lt node 64) ∙ sym (and-false (bit_test bits other))
  clear_by false is = by_bound (nat_lt other 64) refl ∙ sym (and-true (bit_test bits other))
    where
      by_bound : (b : Bool) → nat_lt other 64 ≡ b
          → (b && (bit_at (bit_and bits (bit_not w64 (1 * 2 ^ node % 2 ^ 64))) other == 1)) ≡ (b && (bit_at bits other == 1))
      by_bound true low =
          ap (λ (n : ℕ). n == 1) (bit_at_clear_other w64 bits node within other (ltb-true other 64 low) (eqb-false other node is))
      by_bound false low = refl

  -- a node goes
  pub contains_node-clear : contains_node other (record { bits = bit_and bits (bit_not w64 (1 * 2 ^ node % 2 ^ 64)) })
      ≡ (contains_node other (record { bits = bits }) && not (other == node))
  unfolding contains_node
  contains_node-clear = clear_by (other == node) refl

-- a node of 64 or more isn't taken in, and isn't there
module _ (node : ℕ) (nodes : NodeSet) (beyond : 64 ≤ node) (other : ℕ) where
  pub contains_node-refused : contains_node other nodes ≡ (contains_node other nodes || (other == node && nat_lt node 64))
  contains_node-refused =
      sym (ap (λ (b : Bool). contains_node other nodes || (other == node && b)) (le-ltb node 64 beyond)
      ∙ ap (λ (b : Bool). contains_node other nodes || b) (and-false (other == node)) ∙ or-false (contains_node other nodes))

  absent_by : (b : Bool) → (other == node) ≡ b → contains_node other nodes ≡ (contains_node other nodes && not b)
  absent_by true is =
      ap (λ (n : ℕ). contains_node n nodes) (eqb-true other node is) ∙ contains_node-beyond node nodes beyond ∙ sym (and-false (contains_node other nodes))
  absent_by false is = sym (and-true (contains_node other nodes))

  pub contains_node-absent : contains_node other nodes ≡ (contains_node other nodes && not (other == node))
  contains_node-absent = absent_by (other == node) refl

-- the part of a word that another has is the whole word exactly if the other has each of its bits
module _ (one other : ℕ) where
  in_both : bit_and one other ≡ one → (node : ℕ) → bit_at one node ≡ 1 → bit_at other node ≡ 1
  in_both same node bit =
      let least : bit_at one node ≡ min (bit_at one node) (bit_at other node)
      = ap (λ (n : ℕ). bit_at n node) (sym same) ∙ bit_at_and one other node in
      omega (arith, bit, least, bit_at-lt other node)

  bit_kept : one < 2 ^ 64 → ((node : ℕ) → node < 64 → bit_at one node ≡ 1 → bit_at other node ≡ 1) → (node : ℕ)
      → (b : Bool) → (bit_at one node == 1) ≡ b → min (bit_at one node) (bit_at other node) ≡ bit_at one node
  bit_kept small each node false is =
      let apart = eqb-false (bit_at one node) 1 is in
      let none : bit_at one node ≡ 0 = below_two (bit_at one node) (bit_at-lt one node) apart in
      omega (arith, none)
    where
      below_two : (n : ℕ) → n < 2 → (n ≡ 1 → ⊥) → n ≡ 0
      below_two zero low apart = refl
      below_two (suc zero) low apart = absurd (apart refl)
      below_two (suc (suc n)) low apart = absurd (omega (arith, low))
  bit_kept small each node true is = by_bound (nat_lt node 64) refl
    where
      by_bound : (b : Bool) → nat_lt node 64 ≡ b → min (bit_at one node) (bit_at other node) ≡ bit_at one node
      by_bound true low =
          let bit = eqb-true (bit_at one node) 1 is in
          let both = each node (ltb-true node 64 low) bit in
          omega (arith, bit, both)
      by_bound false low =
          let bit = eqb-true (bit_at one node) 1 is in
          let none = bit_at_above one 64 node small (ltb-false node 64 low) in
          absurd (omega (arith, bit, none))

  pub are_among : one < 2 ^ 64
      → ((bit_and one other == one) ≡ true) ↔ ((node : ℕ) → node < 64 → bit_at one node ≡ 1 → bit_at other node ≡ 1)
  are_among small = (
    λ same node low bit. in_both (eqb-true (bit_and one other) one same) node bit,
    λ each. eq-eqb (bit_and one other) one (same_from_bits (bit_and one other) one
        (λ node. bit_at_and one other node ∙ bit_kept small each node (bit_at one node == 1) refl)),
  )

pub is_subset : (one other : NodeSet) (among : Bool)
    → ((among ≡ true) ↔ ((node : ℕ) → node < 64 → bit_at one.bits node ≡ 1 → bit_at other.bits node ≡ 1))
    → (among ≡ true) ↔ ((node : ℕ) → contains_node node one ≡ true → contains_node node other ≡ true)
is_subset one other among exact = (
  λ is node has. contains_node-from_bit node other (contains_node-below node one has)
      (exact.0 is node (contains_node-below node one has) (contains_node-bit node one has)),
  λ each. exact.1 (λ node low bit. contains_node-bit node other (each node (contains_node-from_bit node one low bit))),
)

-- the test of a bit below 64, and none above
pub contains_node-then : (node : ℕ) (nodes : NodeSet) → node < 64 → (bit_and (nodes.bits / 2 ^ node) 1 == 1) ≡ contains_node node nodes
contains_node-then node nodes below =
    sym (ap (λ (b : Bool). b && (bit_and (nodes.bits / 2 ^ node) 1 == 1)) (lt-ltb node 64 below)) ∙ contains_node-shift node nodes

-- a node is in a set exactly if the place is where the messages that ask it are counted
pub contains_node-place : (node : ℕ) (nodes : NodeSet) → contains_node (end_place node) nodes ≡ contains_node node nodes
contains_node-place node nodes = by_bound (nat_lt node 64) refl
  where
    by_bound : (b : Bool) → nat_lt node 64 ≡ b → contains_node (end_place node) nodes ≡ contains_node node nodes
    by_bound true low = let below = ltb-true node 64 low in ap (λ (n : ℕ). contains_node n nodes) (omega (arith, below))
    by_bound false low =
        let beyond = ltb-false node 64 low in
        contains_node-beyond (end_place node) nodes (omega (arith, beyond)) ∙ sym (contains_node-beyond node nodes beyond)
