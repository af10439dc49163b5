-- The messages of all senders as one map: that they are in the order of their names, and what it has at a name.
use Rattle.std.proofs.Common.{◌≡◌, ℕ, ◌<◌, Bool, false, cond, T, List, [], ◌∷◌, ◌++◌, length, map, Option, Some, None, Ordering, Less, Equal, Greater, refl, sym, ap, subst, ◌∙◌, arith}
use Rattle.std.specs.Ordering.{ordering_then, nat_cmp, is_eq, is_lt}
use Rattle.std.specs.Option.{option_and_then}
use Rattle.std.specs.FinMap as tree
use Rattle.std.specs.FinMap.Entries.{below_all, is_sorted, find}
use Rattle.proof_tools.proofs.Booleans.{T_and, T_and_left, T_and_right}
use Rattle.message_wire.specs.declared.name.MessageName.{MessageName}
use Rattle.message_wire.specs.declared.packet.Packet.{Packet}
use Rattle.message_wire.specs.Message.{name_cmp, message_name}
use Rattle.message_wire.specs.Senders.{Messages, named_entries, all_entries, wire_of}
use Rattle.message_wire.proofs.NameOrder.{same_sender}
use Rattle.message_wire.proofs.EntryLemmas.{less_cmp, sorted-first, sorted-rest, first_below, rest_below, find-beyond}

-- a message of a sender under its name
abbrev pub named : ℕ → ℕ × Packet → MessageName × Packet
named sender message = (message_name sender message.0, message.1)

below_all-append : (x : MessageName) (es fs : List (MessageName × Packet)) → T (below_all name_cmp x es) → T (below_all name_cmp x fs)
    → T (below_all name_cmp x (es ++ fs))
below_all-append x [] fs below rest = rest
below_all-append x (e ∷ es) fs below rest =
    T_and (is_lt (name_cmp x e.0)) (below_all name_cmp x (es ++ fs)) (T_and_left (is_lt (name_cmp x e.0)) (below_all name_cmp x es) below)
    (below_all-append x es fs (T_and_right (is_lt (name_cmp x e.0)) (below_all name_cmp x es) below) rest)

-- below later numbers of the same sender
below-numbers : (s n : ℕ) (es : List (ℕ × Packet)) → T (below_all nat_cmp n es) → T (below_all name_cmp (message_name s n) (map (named s) es))
below-numbers s n [] below = tt
below-numbers s n (e ∷ es) below =
    T_and (is_lt (name_cmp (message_name s n) (message_name s e.0))) (below_all name_cmp (message_name s n) (map (named s) es))
    (subst (λ (o : Ordering). T (is_lt o)) (sym (same_sender s n e.0)) (T_and_left (is_lt (nat_cmp n e.0)) (below_all nat_cmp n es) below))
    (below-numbers s n es (rest_below n e es below))

-- below the messages of a later sender
below-sender : (s n t : ℕ) (es : List (ℕ × Packet)) → s < t → T (below_all name_cmp (message_name s n) (map (named t) es))
below-sender s n t [] less = tt
below-sender s n t (e ∷ es) less =
    T_and (is_lt (name_cmp (message_name s n) (message_name t e.0))) (below_all name_cmp (message_name s n) (map (named t) es))
    (subst (λ (o : Ordering). T (is_lt (ordering_then o (nat_cmp n e.0)))) (sym (less_cmp s t less)) tt)
    (below-sender s n t es less)

below-senders : (s n : ℕ) (senders : List (ℕ × Messages)) → T (below_all nat_cmp s senders)
    → T (below_all name_cmp (message_name s n) (all_entries senders))
below-senders s n [] below = tt
below-senders s n (own ∷ later) below =
    below_all-append (message_name s n) (named_entries own) (all_entries later)
    (below-sender s n own.0 (tree.entries own.1) (first_below s own later below)) (below-senders s n later (rest_below s own later below))

sorted-then : (s : ℕ) (es : List (ℕ × Packet)) (fs : List (MessageName × Packet)) → T (is_sorted nat_cmp es) → T (is_sorted name_cmp fs)
    → ((n : ℕ) → T (below_all name_cmp (message_name s n) fs)) → T (is_sorted name_cmp (map (named s) es ++ fs))
sorted-then s [] fs sorted rest below = rest
sorted-then s (e ∷ es) fs sorted rest below =
    T_and (below_all name_cmp (message_name s e.0) (map (named s) es ++ fs)) (is_sorted name_cmp (map (named s) es ++ fs))
    (below_all-append (message_name s e.0) (map (named s) es) fs (below-numbers s e.0 es (sorted-first e es sorted)) (below e.0))
    (sorted-then s es fs (sorted-rest e es sorted) rest below)

-- the messages are in the order of their names
pub all-sorted : (senders : List (ℕ × Messages)) → T (is_sorted nat_cmp senders) → T (is_sorted name_cmp (all_entries senders))
all-sorted [] sorted = tt
all-sorted (own ∷ later) sorted =
    sorted-then own.0 (tree.entries own.1) (all_entries later) (tree.entries_sorted own.1) (all-sorted later (sorted-rest own later sorted))
    (λ n. below-senders own.0 n later (sorted-first own later sorted))

pub entries-wire : (senders : List (ℕ × Messages)) → T (is_sorted nat_cmp senders) → tree.entries (wire_of senders) ≡ all_entries senders
unfolding wire_of
entries-wire senders sorted = tree.entries-from_sorted name_cmp (all_entries senders) (all-sorted senders sorted)

-- the wire of no senders
pub wire-none : wire_of [] ≡ tree.empty
unfolding wire_of
wire-none = tree.empty_of_len (tree.from_sorted []) (tree.len-entries (tree.from_sorted {R = name_cmp} []) ∙ ap length (tree.entries-from_sorted name_cmp [] tt))

-- what a sender's messages have at a number, where it has some
abbrev pub at_number : ℕ → Option Messages → Option Packet
at_number number own = option_and_then (λ (messages : Messages). tree.get messages number) own

then_apart : (one other : Ordering) → is_eq one ≡ false → is_eq (ordering_then one other) ≡ false
then_apart Less other apart = refl
then_apart Equal other apart = absurd (cc (apart))
then_apart Greater other apart = refl

module _ (q : MessageName) where
  find-other : (s : ℕ) (es : List (ℕ × Packet)) (fs : List (MessageName × Packet)) → is_eq (nat_cmp q.sender.0 s) ≡ false
      → find name_cmp q (map (named s) es ++ fs) ≡ find name_cmp q fs
  find-other s [] fs apart = refl
  find-other s (e ∷ es) fs apart =
      ap (λ (b : Bool). cond b (Some e.1) (find name_cmp q (map (named s) es ++ fs)))
      (then_apart (nat_cmp q.sender.0 s) (nat_cmp q.number e.0) apart)
      ∙ find-other s es fs apart

  find-own : (s : ℕ) (es : List (ℕ × Packet)) (fs : List (MessageName × Packet)) → nat_cmp q.sender.0 s ≡ Equal
      → find name_cmp q fs ≡ None → find name_cmp q (map (named s) es ++ fs) ≡ find nat_cmp q.number es
  find-own s [] fs tie none = none
  find-own s (e ∷ es) fs tie none =
      let rest = find-own s es fs tie none in
      λ i. cond (is_eq (ordering_then (tie i) (nat_cmp q.number e.0))) (Some e.1) (rest i)

  find-all : (senders : List (ℕ × Messages)) → T (is_sorted nat_cmp senders)
      → find name_cmp q (all_entries senders) ≡ at_number q.number (find nat_cmp q.sender.0 senders)
  find-all [] sorted = refl
  find-all (own ∷ later) sorted = by_order (find-all later (sorted-rest own later sorted)) (nat_cmp q.sender.0 own.0) refl
    where
      by_order : find name_cmp q (all_entries later) ≡ at_number q.number (find nat_cmp q.sender.0 later) → (o : Ordering) → nat_cmp q.sender.0 own.0 ≡ o
          → find name_cmp q (named_entries own ++ all_entries later) ≡ at_number q.number (find nat_cmp q.sender.0 (own ∷ later))
      by_order rest Less tie =
          find-other own.0 (tree.entries own.1) (all_entries later) (ap is_eq tie) ∙ rest
          ∙ ap (λ (o : Ordering). at_number q.number (cond (is_eq o) (Some own.1) (find nat_cmp q.sender.0 later))) (sym tie)
      by_order rest Greater tie =
          find-other own.0 (tree.entries own.1) (all_entries later) (ap is_eq tie) ∙ rest
          ∙ ap (λ (o : Ordering). at_number q.number (cond (is_eq o) (Some own.1) (find nat_cmp q.sender.0 later))) (sym tie)
      by_order rest Equal tie =
          let same : q.sender.0 ≡ own.0 = tree.nat_cmp-IsAntisymmetric q.sender.0 own.0 tie in
          let none : find name_cmp q (all_entries later) ≡ None
          = rest ∙ ap (at_number q.number) (find-beyond q.sender.0 own.0 later (sorted-first own later sorted) (omega (arith, same))) in
          find-own own.0 (tree.entries own.1) (all_entries later) tie none
          ∙ sym (tree.get-entries own.1 q.number)
          ∙ ap (λ (o : Ordering). at_number q.number (cond (is_eq o) (Some own.1) (find nat_cmp q.sender.0 later))) (sym tie)

  -- what the wire has at a name
  pub get-wire : (senders : List (ℕ × Messages)) → T (is_sorted nat_cmp senders)
      → tree.get (wire_of senders) q ≡ at_number q.number (find nat_cmp q.sender.0 senders)
  unfolding wire_of
  get-wire senders sorted =
      tree.get-from_sorted name_cmp (all_entries senders) q (all-sorted senders sorted) ∙ find-all senders sorted
