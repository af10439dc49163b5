-- How the counts of the ends of a sender's messages follow a change of these, and what the counts say of all of them.
use Rattle.std.proofs.Common.{◌≡◌, ◌↔◌, ℕ, zero, suc, ◌+◌, ◌<◌, ◌≤◌, ◌==◌, Bool, true, false, not, cond, T, List, [], ◌∷◌, ◌++◌, length, get_or, take, Option, Some, None, Ordering, Less, Equal, Greater, refl, sym, ap, ◌∙◌, arith, eqb-true, eq-eqb}
use Rattle.std.specs.Ordering.{nat_cmp, is_eq, eq_by_cmp}
use Rattle.std.specs.Option.{option_map, IfSome}
use Rattle.std.specs.List.{list_all}
use Rattle.std.specs.FinMap.Entries.{by_order, is_sorted, put, find, where_key}
use Rattle.std.proofs.lemmas.Bool.{ne_eqb}
use Rattle.std.proofs.lemmas.Cmp.{ranked}
use Rattle.std.proofs.lemmas.List.{take_more}
use Rattle.object_id.specs.declared.node.NodeId.{NodeId}
use Rattle.message_wire.specs.declared.node_set.NodeSet.{NodeSet}
use Rattle.message_wire.specs.declared.packet.Packet.{Packet}
use Rattle.message_wire.specs.Message.{asked_node}
use Rattle.message_wire.specs.NodeSet.{contains_node, end_place, one_end, maybe_end, end_count, AreEndCounts}
use Rattle.message_wire.proofs.EntryLemmas.{sorted-first, sorted-rest, find-beyond, without-beyond}
use Rattle.message_wire.proofs.NodeSetLemmas.{and-left, and-right, and-both, same_test, contains_node-place}

-- ---- sums

sum_last : (a : ℕ) → a + 0 ≡ 0 + a
sum_last a = omega arith

sum_append : (e x n a : ℕ) → x ≡ n + a → e + x ≡ e + n + a
sum_append e x n a rest = omega (arith, rest)

sum_entered : (a n m : ℕ) → m ≡ 0 → a + n + m ≡ n + a
sum_entered a n m none = omega (arith, none)

sum_replaced : (a e n : ℕ) → a + n + e ≡ e + n + a
sum_replaced a e n = omega arith

sum_behind : (e p m n a : ℕ) → p + m ≡ n + a → e + p + m ≡ e + n + a
sum_behind e p m n a rest = omega (arith, rest)

sum_kept : (e p m n : ℕ) → p + m ≡ n → e + p + m ≡ e + n
sum_kept e p m n rest = omega (arith, rest)

sum_gone : (e p n : ℕ) → p ≡ n → p + e ≡ e + n
sum_gone e p n stay = omega (arith, stay)

some_of_one : (p m n : ℕ) → p + m ≡ n → m ≡ 1 → 0 < n
some_of_one p m n whole one = omega (arith, whole, one)

some_first : (a n : ℕ) → a ≡ 1 → 0 < a + n
some_first a n one = omega (arith, one)

some_later : (a n : ℕ) → 0 < n → 0 < a + n
some_later a n some = omega (arith, some)

some_behind : (a n : ℕ) → a ≡ 0 → 0 < a + n → 0 < n
some_behind a n none some = omega (arith, none, some)

none_below : 0 < 0 → ⊥
none_below some = omega (arith, some)

pub some_same : (a b : ℕ) → a ≡ b → 0 < b → 0 < a
some_same a b same some = omega (arith, same, some)

put_sum : (new old before b one o p n : ℕ) → new + before ≡ old + one → p + b ≡ n + o → before ≡ b → one ≡ o → old ≡ n → new ≡ p
put_sum new old before b one o p n changed whole was is same = omega (arith, changed, whole, was, is, same)

take_sum : (new old one b p n : ℕ) → new + one ≡ old → p + b ≡ n → b ≡ one → old ≡ n → new ≡ p
take_sum new old one b p n changed whole is same = omega (arith, changed, whole, is, same)

same_sum : (old b p n : ℕ) → p + b ≡ n → b ≡ 0 → old ≡ n → old ≡ p
same_sum old b p n whole none same = omega (arith, whole, none, same)

none_most : (i : ℕ) → 0 ≤ i
none_most i = omega arith

sum_most : (a n i : ℕ) → a ≤ 1 → n ≤ i → a + n ≤ suc i
sum_most a n i first rest = omega (arith, first, rest)

pub replaced_sum : (new mid old before one : ℕ) → mid + before ≡ old → new ≡ mid + one → new + before ≡ old + one
replaced_sum new mid old before one left entered = omega (arith, left, entered)

-- ---- what one message counts

pub one_end-most : (node place : ℕ) → one_end node place ≤ 1
one_end-most node place = by_test (end_place node == place)
  where
    by_test : (b : Bool) → cond b 1 0 ≤ 1
    by_test true = omega arith
    by_test false = omega arith

pub one_end-here : (node place : ℕ) → place ≡ end_place node → one_end node place ≡ 1
one_end-here node place here = ap (λ (b : Bool). cond b 1 0) (eq-eqb (end_place node) place (sym here))

pub one_end-there : (node place : ℕ) → (place ≡ end_place node → ⊥) → one_end node place ≡ 0
one_end-there node place apart = ap (λ (b : Bool). cond b 1 0) (ne_eqb (end_place node) place (λ same. apart (sym same)))

-- ---- the counts of messages

pub end_count-most : (place : ℕ) (es : List (ℕ × Packet)) → end_count place es ≤ length es
end_count-most place [] = omega arith
end_count-most place (e ∷ es) =
    let first = one_end-most (asked_node e.1).0 place in
    let rest = end_count-most place es in
    omega (arith, first, rest)

end_count-append : (place : ℕ) (es : List (ℕ × Packet)) (e : ℕ × Packet)
    → end_count place (es ++ e ∷ []) ≡ end_count place es + one_end (asked_node e.1).0 place
end_count-append place [] e = sum_last (one_end (asked_node e.1).0 place)
end_count-append place (f ∷ fs) e =
    sum_append (one_end (asked_node f.1).0 place) (end_count place (fs ++ e ∷ [])) (end_count place fs) (one_end (asked_node e.1).0 place)
    (end_count-append place fs e)

-- one message more is looked at
pub end_count-more : (place i : ℕ) (es : List (ℕ × Packet)) (d : ℕ × Packet) → i < length es
    → end_count place (take (i + 1) es) ≡ end_count place (take i es) + one_end (asked_node (get_or es i d).1).0 place
end_count-more place i es d within =
    ap (end_count place) (take_more es i d within) ∙ end_count-append place (take i es) (get_or es i d)

pub end_count-taken : (place i : ℕ) (es : List (ℕ × Packet)) → end_count place (take i es) ≤ i
end_count-taken place zero es = none_most 0
end_count-taken place (suc i) [] = none_most (suc i)
end_count-taken place (suc i) (e ∷ es) =
    sum_most (one_end (asked_node e.1).0 place) (end_count place (take i es)) i (one_end-most (asked_node e.1).0 place) (end_count-taken place i es)

-- a message is put in the place of another, or of none
pub count-put : (place k : ℕ) (packet : Packet) (es : List (ℕ × Packet)) → T (is_sorted nat_cmp es)
    → end_count place (put nat_cmp k packet es) + maybe_end (option_map asked_node (find nat_cmp k es)) place
    ≡ end_count place es + one_end (asked_node packet).0 place
count-put place k packet [] sorted = sum_entered (one_end (asked_node packet).0 place) 0 0 refl
count-put place k packet (e ∷ es) sorted = by_place (count-put place k packet es (sorted-rest e es sorted)) (nat_cmp k e.0) refl
  where
    by_place : end_count place (put nat_cmp k packet es) + maybe_end (option_map asked_node (find nat_cmp k es)) place
        ≡ end_count place es + one_end (asked_node packet).0 place → (o : Ordering) → nat_cmp k e.0 ≡ o
        → end_count place (by_order o ((k, packet) ∷ e ∷ es) ((e.0, packet) ∷ es) (e ∷ put nat_cmp k packet es))
        + maybe_end (option_map asked_node (cond (is_eq o) (Some e.1) (find nat_cmp k es))) place
        ≡ end_count place (e ∷ es) + one_end (asked_node packet).0 place
    by_place rest Less tie =
        let less : k < e.0 = ranked k e.0 Less (sym tie) in
        let none = ap (λ (o : Option Packet). maybe_end (option_map asked_node o) place)
        (find-beyond k e.0 es (sorted-first e es sorted) (omega (arith, less))) in
        sum_entered (one_end (asked_node packet).0 place) (end_count place (e ∷ es)) (maybe_end (option_map asked_node (find nat_cmp k es)) place) none
    by_place rest Equal tie =
        sum_replaced (one_end (asked_node packet).0 place) (one_end (asked_node e.1).0 place) (end_count place es)
    by_place rest Greater tie =
        sum_behind (one_end (asked_node e.1).0 place) (end_count place (put nat_cmp k packet es))
        (maybe_end (option_map asked_node (find nat_cmp k es)) place) (end_count place es) (one_end (asked_node packet).0 place) rest

-- a message is taken out
pub count-take : (place k : ℕ) (es : List (ℕ × Packet)) → T (is_sorted nat_cmp es)
    → end_count place (where_key nat_cmp (λ other. not (eq_by_cmp nat_cmp k other)) es) + maybe_end (option_map asked_node (find nat_cmp k es)) place
    ≡ end_count place es
count-take place k [] sorted = refl
count-take place k (e ∷ es) sorted = by_place (count-take place k es (sorted-rest e es sorted)) (nat_cmp k e.0) refl
  where
    by_place : end_count place (where_key nat_cmp (λ other. not (eq_by_cmp nat_cmp k other)) es)
        + maybe_end (option_map asked_node (find nat_cmp k es)) place ≡ end_count place es → (o : Ordering) → nat_cmp k e.0 ≡ o
        → end_count place (cond (not (is_eq o)) (e ∷ where_key nat_cmp (λ other. not (eq_by_cmp nat_cmp k other)) es)
        (where_key nat_cmp (λ other. not (eq_by_cmp nat_cmp k other)) es))
        + maybe_end (option_map asked_node (cond (is_eq o) (Some e.1) (find nat_cmp k es))) place
        ≡ end_count place (e ∷ es)
    by_place rest Less tie =
        sum_kept (one_end (asked_node e.1).0 place) (end_count place (where_key nat_cmp (λ other. not (eq_by_cmp nat_cmp k other)) es))
        (maybe_end (option_map asked_node (find nat_cmp k es)) place) (end_count place es) rest
    by_place rest Equal tie =
        let same : k ≡ e.0 = ranked k e.0 Equal (sym tie) in
        let stay = ap (end_count place) (without-beyond k e.0 es (sorted-first e es sorted) (omega (arith, same))) in
        sum_gone (one_end (asked_node e.1).0 place) (end_count place (where_key nat_cmp (λ other. not (eq_by_cmp nat_cmp k other)) es))
        (end_count place es) stay
    by_place rest Greater tie =
        sum_kept (one_end (asked_node e.1).0 place) (end_count place (where_key nat_cmp (λ other. not (eq_by_cmp nat_cmp k other)) es))
        (maybe_end (option_map asked_node (find nat_cmp k es)) place) (end_count place es) rest

-- a message that is there is counted
pub found-counted : (k : ℕ) (node : NodeId) (es : List (ℕ × Packet)) → T (is_sorted nat_cmp es)
    → option_map asked_node (find nat_cmp k es) ≡ Some node → 0 < end_count (end_place node.0) es
found-counted k node es sorted is =
    let place = end_place node.0 in
    some_of_one (end_count place (where_key nat_cmp (λ other. not (eq_by_cmp nat_cmp k other)) es))
    (maybe_end (option_map asked_node (find nat_cmp k es)) place) (end_count place es) (count-take place k es sorted)
    (ap (λ (o : Option NodeId). maybe_end o place) is ∙ one_end-here node.0 place refl)

-- ---- the ends within a set

pub all-within : (nodes : NodeSet) (es : List (ℕ × Packet)) → ((place : ℕ) → 0 < end_count place es → contains_node place nodes ≡ true)
    → list_all (λ (e : ℕ × Packet). contains_node (asked_node e.1).0 nodes) es ≡ true
all-within nodes [] each = refl
all-within nodes (e ∷ es) each =
    let node = (asked_node e.1).0 in
    and-both (contains_node node nodes) (list_all (λ (e : ℕ × Packet). contains_node (asked_node e.1).0 nodes) es)
    (sym (contains_node-place node nodes) ∙ each (end_place node) (some_first (one_end node (end_place node)) (end_count (end_place node) es) (one_end-here node (end_place node) refl)))
    (all-within nodes es (λ place some. each place (some_later (one_end node place) (end_count place es) some)))

pub within-all : (nodes : NodeSet) (es : List (ℕ × Packet)) → list_all (λ (e : ℕ × Packet). contains_node (asked_node e.1).0 nodes) es ≡ true
    → (place : ℕ) → 0 < end_count place es → contains_node place nodes ≡ true
within-all nodes [] all place some = absurd (none_below some)
within-all nodes (e ∷ es) all place some =
    by_test (within-all nodes es
    (and-right (contains_node (asked_node e.1).0 nodes) (list_all (λ (e : ℕ × Packet). contains_node (asked_node e.1).0 nodes) es) all) place)
    (end_place (asked_node e.1).0 == place) refl
  where
    by_test : (0 < end_count place es → contains_node place nodes ≡ true) → (b : Bool) → (end_place (asked_node e.1).0 == place) ≡ b
        → contains_node place nodes ≡ true
    by_test rest true is =
        ap (λ (n : ℕ). contains_node n nodes) (sym (eqb-true (end_place (asked_node e.1).0) place is))
        ∙ contains_node-place (asked_node e.1).0 nodes
        ∙ and-left (contains_node (asked_node e.1).0 nodes) (list_all (λ (e : ℕ × Packet). contains_node (asked_node e.1).0 nodes) es) all
    by_test rest false is =
        rest (some_behind (one_end (asked_node e.1).0 place) (end_count place es) (ap (λ (b : Bool). cond b 1 0) is) some)

-- what the counts say of all messages
pub ends-within : (within : Bool) (nodes : NodeSet) (es : List (ℕ × Packet)) (counts : List ℕ) → AreEndCounts es counts
    → ((within ≡ true) ↔ ((place : ℕ) → 0 < get_or counts place 0 → contains_node place nodes ≡ true))
    → within ≡ list_all (λ (e : ℕ × Packet). contains_node (asked_node e.1).0 nodes) es
ends-within within nodes es counts are exact =
    same_test within (list_all (λ (e : ℕ × Packet). contains_node (asked_node e.1).0 nodes) es)
    (λ is. all-within nodes es (λ place some. exact.0 is place (some_same (get_or counts place 0) (end_count place es) (are place) some)))
    (λ all. exact.1 (λ place some. within-all nodes es all place (some_same (end_count place es) (get_or counts place 0) (sym (are place)) some)))

-- ---- the edits of a sender's messages

module _ (k : ℕ) (es : List (ℕ × Packet)) (sorted : T (is_sorted nat_cmp es)) (old : List ℕ) (are : AreEndCounts es old) where
  -- what stands at the number is counted
  pub counted-before : (replaced : Option NodeId) → replaced ≡ option_map asked_node (find nat_cmp k es)
      → IfSome replaced (λ other. 0 < get_or old (end_place other.0) 0)
  counted-before None is = tt
  counted-before (Some node) is =
      some_same (get_or old (end_place node.0) 0) (end_count (end_place node.0) es) (are (end_place node.0)) (found-counted k node es sorted (sym is))

  pub ends-put : (packet : Packet) (new : List ℕ) (replaced : Option NodeId) (asked : NodeId)
      → replaced ≡ option_map asked_node (find nat_cmp k es) → asked ≡ asked_node packet
      → ((place : ℕ) → get_or new place 0 + maybe_end replaced place ≡ get_or old place 0 + one_end asked.0 place)
      → AreEndCounts (put nat_cmp k packet es) new
  ends-put packet new replaced asked was is change place =
      put_sum (get_or new place 0) (get_or old place 0) (maybe_end replaced place) (maybe_end (option_map asked_node (find nat_cmp k es)) place)
      (one_end asked.0 place) (one_end (asked_node packet).0 place) (end_count place (put nat_cmp k packet es)) (end_count place es)
      (change place) (count-put place k packet es sorted) (ap (λ (o : Option NodeId). maybe_end o place) was)
      (ap (λ (node : NodeId). one_end node.0 place) is) (are place)

  pub ends-take : (new : List ℕ) (node : NodeId) → option_map asked_node (find nat_cmp k es) ≡ Some node
      → ((place : ℕ) → get_or new place 0 + one_end node.0 place ≡ get_or old place 0)
      → AreEndCounts (where_key nat_cmp (λ other. not (eq_by_cmp nat_cmp k other)) es) new
  ends-take new node is change place =
      take_sum (get_or new place 0) (get_or old place 0) (one_end node.0 place) (maybe_end (option_map asked_node (find nat_cmp k es)) place)
      (end_count place (where_key nat_cmp (λ other. not (eq_by_cmp nat_cmp k other)) es)) (end_count place es)
      (change place) (count-take place k es sorted) (ap (λ (o : Option NodeId). maybe_end o place) is) (are place)

  -- nothing stands at the number
  pub ends-same : find nat_cmp k es ≡ None → AreEndCounts (where_key nat_cmp (λ other. not (eq_by_cmp nat_cmp k other)) es) old
  ends-same is place =
      same_sum (get_or old place 0) (maybe_end (option_map asked_node (find nat_cmp k es)) place)
      (end_count place (where_key nat_cmp (λ other. not (eq_by_cmp nat_cmp k other)) es)) (end_count place es)
      (count-take place k es sorted) (ap (λ (o : Option Packet). maybe_end (option_map asked_node o) place) is) (are place)
