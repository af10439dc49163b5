-- How the table of counts and its set of nodes follow one message more or less, and what they say of all counts.
use Rattle.std.proofs.Common.{◌≡◌, ◌↔◌, ℕ, zero, suc, ◌+◌, ◌<◌, ◌==◌, ◌&&◌, ◌||◌, Bool, true, false, not, List, length, get_or, set, replicate, nat_lt, refl, sym, ap, subst, ◌∙◌, arith, eqb-true}
use Rattle.std.proofs.lemmas.Bool.{ltb-true, ltb-false, lt-ltb, le-ltb, eqb-false}
use Rattle.std.proofs.lemmas.List.{get_or-replicate, get_or-set_same, get_or-set_other, get_or_past, length-set}
use Rattle.message_wire.specs.declared.node_set.NodeSet.{NodeSet}
use Rattle.message_wire.specs.NodeSet.{contains_node, end_place, one_end, AreCountsWith}
use Rattle.message_wire.proofs.EndLemmas.{one_end-here, one_end-there}
use Rattle.message_wire.proofs.NodeSetLemmas.{and-left, and-right, and-both, contains_node-below, contains_node-beyond}

-- ---- a count at its place

module _ (counts : List ℕ) (node at count : ℕ) (is_at : at ≡ end_place node) (len : length counts ≡ 65) where
  end_within : at < length counts
  end_within = omega (arith, len, is_at)

  pub counted-here : (place : ℕ) → place ≡ end_place node → get_or (set counts at count) place 0 ≡ count
  counted-here place here =
      ap (λ (p : ℕ). get_or (set counts at count) p 0) (here ∙ sym is_at)
      ∙ get_or-set_same counts at count 0 end_within

  pub counted-there : (place : ℕ) → (place ≡ end_place node → ⊥) → get_or (set counts at count) place 0 ≡ get_or counts place 0
  counted-there place apart = get_or-set_other counts at place count 0 (λ same. apart (same ∙ is_at))

  pub one-more : count ≡ get_or counts at 0 + 1
      → (place : ℕ) → get_or (set counts at count) place 0 ≡ get_or counts place 0 + one_end node place
  one-more is place = by_test (place == end_place node) refl
    where
      by_test : (b : Bool) → (place == end_place node) ≡ b
          → get_or (set counts at count) place 0 ≡ get_or counts place 0 + one_end node place
      by_test true test =
          let here = eqb-true place (end_place node) test in
          let old = ap (λ (p : ℕ). get_or counts p 0) (here ∙ sym is_at) in
          let new = counted-here place here in
          let one = one_end-here node place here in
          omega (arith, is, old, new, one)
      by_test false test =
          let apart = eqb-false place (end_place node) test in
          let new = counted-there place apart in
          let none = one_end-there node place apart in
          omega (arith, new, none)

  pub one-less : count + 1 ≡ get_or counts at 0
      → (place : ℕ) → get_or (set counts at count) place 0 + one_end node place ≡ get_or counts place 0
  one-less is place = by_test (place == end_place node) refl
    where
      by_test : (b : Bool) → (place == end_place node) ≡ b
          → get_or (set counts at count) place 0 + one_end node place ≡ get_or counts place 0
      by_test true test =
          let here = eqb-true place (end_place node) test in
          let old = ap (λ (p : ℕ). get_or counts p 0) (here ∙ sym is_at) in
          let new = counted-here place here in
          let one = one_end-here node place here in
          omega (arith, is, old, new, one)
      by_test false test =
          let apart = eqb-false place (end_place node) test in
          let new = counted-there place apart in
          let none = one_end-there node place apart in
          omega (arith, new, none)

  -- the set follows the counts
  module _ (nodes : NodeSet) (are : (other : ℕ) → other < 64 → contains_node other nodes ≡ nat_lt 0 (get_or counts other 0)) where
    pub set-more : (new : NodeSet) → count ≡ get_or counts at 0 + 1
        → ((other : ℕ) → contains_node other new ≡ (contains_node other nodes || (other == node && nat_lt node 64)))
        → AreCountsWith (set counts at count) new
    set-more new is entered = (length-set counts at count ∙ len, λ other low. by_test other low (other == node) refl)
      where
        or-right : (a : Bool) → (a || true) ≡ true
        or-right true = refl
        or-right false = refl

        or-none : (a : Bool) → (a || false) ≡ a
        or-none true = refl
        or-none false = refl

        by_test : (other : ℕ) → other < 64 → (b : Bool) → (other == node) ≡ b
            → contains_node other new ≡ nat_lt 0 (get_or (set counts at count) other 0)
        by_test other low true test =
            let same = eqb-true other node test in
            let more : 0 < get_or (set counts at count) other 0
            = let new = counted-here other (omega (arith, same, low)) in omega (arith, new, is) in
            entered other
            ∙ ap (λ (b : Bool). contains_node other nodes || (b && nat_lt node 64)) test
            ∙ ap (λ (b : Bool). contains_node other nodes || b) (lt-ltb node 64 (omega (arith, same, low)))
            ∙ or-right (contains_node other nodes) ∙ sym (lt-ltb 0 (get_or (set counts at count) other 0) more)
        by_test other low false test =
            let apart = eqb-false other node test in
            entered other
            ∙ ap (λ (b : Bool). contains_node other nodes || (b && nat_lt node 64)) test
            ∙ or-none (contains_node other nodes) ∙ are other low
            ∙ ap (nat_lt 0) (sym (counted-there other (λ here. apart (omega (arith, here, low)))))

    -- some are left at the place
    pub set-kept : 0 < count → 0 < get_or counts at 0 → AreCountsWith (set counts at count) nodes
    set-kept left some = (length-set counts at count ∙ len, λ other low. by_test other low (other == end_place node) refl)
      where
        by_test : (other : ℕ) → other < 64 → (b : Bool) → (other == end_place node) ≡ b
            → contains_node other nodes ≡ nat_lt 0 (get_or (set counts at count) other 0)
        by_test other low true test =
            let here = eqb-true other (end_place node) test in
            let old : 0 < get_or counts other 0 = let same = ap (λ (p : ℕ). get_or counts p 0) (here ∙ sym is_at) in omega (arith, same, some) in
            let new : 0 < get_or (set counts at count) other 0 = let same = counted-here other here in omega (arith, same, left) in
            are other low ∙ lt-ltb 0 (get_or counts other 0) old
            ∙ sym (lt-ltb 0 (get_or (set counts at count) other 0) new)
        by_test other low false test =
            are other low ∙ ap (nat_lt 0) (sym (counted-there other (eqb-false other (end_place node) test)))

    -- none is left there
    pub set-less : (new : NodeSet) → count ≡ 0 → ((other : ℕ) → contains_node other new ≡ (contains_node other nodes && not (other == node)))
        → AreCountsWith (set counts at count) new
    set-less new none gone = (length-set counts at count ∙ len, λ other low. by_test other low (other == node) refl)
      where
        and-none : (a : Bool) → (a && false) ≡ false
        and-none true = refl
        and-none false = refl

        and-all : (a : Bool) → (a && true) ≡ a
        and-all true = refl
        and-all false = refl

        by_test : (other : ℕ) → other < 64 → (b : Bool) → (other == node) ≡ b
            → contains_node other new ≡ nat_lt 0 (get_or (set counts at count) other 0)
        by_test other low true test =
            let same = eqb-true other node test in
            let new = counted-here other (omega (arith, same, low)) in
            gone other ∙ ap (λ (b : Bool). contains_node other nodes && not b) test ∙ and-none (contains_node other nodes)
            ∙ sym (le-ltb 0 (get_or (set counts at count) other 0) (omega (arith, new, none)))
        by_test other low false test =
            let apart = eqb-false other node test in
            gone other ∙ ap (λ (b : Bool). contains_node other nodes && not b) test ∙ and-all (contains_node other nodes) ∙ are other low
            ∙ ap (nat_lt 0) (sym (counted-there other (λ here. apart (omega (arith, here, low)))))

-- the nodes that have a count are in a set exactly if those of the own set are, and none of 64 or more has one
pub counts-within : (counts : List ℕ) (own nodes : NodeSet) → AreCountsWith counts own → (sub : Bool)
    → ((sub ≡ true) ↔ ((node : ℕ) → contains_node node own ≡ true → contains_node node nodes ≡ true))
    → ((sub && (get_or counts 64 0 == 0)) ≡ true) ↔ ((place : ℕ) → 0 < get_or counts place 0 → contains_node place nodes ≡ true)
counts-within counts own nodes are sub exact = (there, back)
  where
    there : (sub && (get_or counts 64 0 == 0)) ≡ true → (place : ℕ) → 0 < get_or counts place 0 → contains_node place nodes ≡ true
    there is place some = by_bound (nat_lt place 64) refl
      where
        by_bound : (b : Bool) → nat_lt place 64 ≡ b → contains_node place nodes ≡ true
        by_bound true low =
            exact.0 (and-left sub (get_or counts 64 0 == 0) is) place
            (are.1 place (ltb-true place 64 low) ∙ lt-ltb 0 (get_or counts place 0) some)
        by_bound false low = beyond (place == 64) refl
          where
            beyond : (b : Bool) → (place == 64) ≡ b → contains_node place nodes ≡ true
            beyond true test =
                let here = ap (λ (p : ℕ). get_or counts p 0) (eqb-true place 64 test) in
                let none = eqb-true (get_or counts 64 0) 0 (and-right sub (get_or counts 64 0 == 0) is) in
                absurd (omega (arith, some, here, none))
            beyond false test =
                let more : 64 < place = by_case (nat_lt 64 place) refl in
                let none = get_or_past counts place 0 (let all = are.0 in omega (arith, more, all)) in
                absurd (omega (arith, some, none))
              where
                by_case : (b : Bool) → nat_lt 64 place ≡ b → 64 < place
                by_case true is = ltb-true 64 place is
                by_case false is =
                    absurd (eqb-false place 64 test (let above = ltb-false place 64 low in let below = ltb-false 64 place is in omega (arith, above, below)))

    back : ((place : ℕ) → 0 < get_or counts place 0 → contains_node place nodes ≡ true) → (sub && (get_or counts 64 0 == 0)) ≡ true
    back each =
        and-both sub (get_or counts 64 0 == 0)
        (exact.1 (λ node has. each node (ltb-true 0 (get_or counts node 0) (sym (are.1 node (contains_node-below node own has)) ∙ has))))
        (none (get_or counts 64 0 == 0) refl)
      where
        none : (b : Bool) → (get_or counts 64 0 == 0) ≡ b → (get_or counts 64 0 == 0) ≡ true
        none true is = is
        none false is =
            let apart = eqb-false (get_or counts 64 0) 0 is in
            let some : 0 < get_or counts 64 0 = positive (get_or counts 64 0) apart in
            absurd (cc (each 64 some, contains_node-beyond 64 nodes (omega arith)))
          where
            positive : (n : ℕ) → (n ≡ 0 → ⊥) → 0 < n
            positive zero apart = absurd (apart refl)
            positive (suc n) apart = omega arith

-- the same where the own set is within the nodes, and where it isn't
module _ (counts seen : List ℕ) (own nodes : NodeSet) (seen_is : counts ≡ seen) (are : AreCountsWith counts own) (sub : Bool)
    (exact : (sub ≡ true) ↔ ((node : ℕ) → contains_node node own ≡ true → contains_node node nodes ≡ true)) where
  pub within-then : sub ≡ true
      → ((get_or counts 64 0 == 0) ≡ true) ↔ ((place : ℕ) → 0 < get_or seen place 0 → contains_node place nodes ≡ true)
  within-then is =
      let whole = counts-within counts own nodes are sub exact in
      subst (λ (cs : List ℕ). ((get_or counts 64 0 == 0) ≡ true) ↔ ((place : ℕ) → 0 < get_or cs place 0 → contains_node place nodes ≡ true)) seen_is (
        λ none. whole.0 (and-both sub (get_or counts 64 0 == 0) is none),
        λ each. and-right sub (get_or counts 64 0 == 0) (whole.1 each),
      )

  pub within-else : sub ≡ false → (sub ≡ true) ↔ ((place : ℕ) → 0 < get_or seen place 0 → contains_node place nodes ≡ true)
  within-else is =
      let whole = counts-within counts own nodes are sub exact in
      subst (λ (cs : List ℕ). (sub ≡ true) ↔ ((place : ℕ) → 0 < get_or cs place 0 → contains_node place nodes ≡ true)) seen_is (
        λ yes. absurd (cc (yes, is)),
        λ each. and-left sub (get_or counts 64 0 == 0) (whole.1 each),
      )

-- a fresh table counts nothing
abbrev no_counts : List ℕ
no_counts = replicate 65 0

pub none-counted : (place : ℕ) → get_or no_counts place 0 ≡ 0
none-counted place = by_bound (nat_lt place 65) refl
  where
    by_bound : (b : Bool) → nat_lt place 65 ≡ b → get_or no_counts place 0 ≡ 0
    by_bound true low = get_or-replicate 65 place 0 0 (ltb-true place 65 low)
    by_bound false low =
        let above = ltb-false place 65 low in
        get_or_past no_counts place 0 above
