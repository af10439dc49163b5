-- The messages of the wire by sender are the messages of each sender; and a test of the messages, sender by sender.
use Rattle.std.proofs.Common.{◌≡◌, ℕ, zero, suc, ◌<◌, ◌==◌, ◌&&◌, ◌||◌, Bool, true, cond, T, List, [], ◌∷◌, ◌++◌, length, map, Option, Some, None, unwrap_or, refl, sym, ap, subst, ◌∙◌, arith}
use Rattle.std.specs.Ordering.{nat_cmp}
use Rattle.std.specs.List.{AllByRecursion, list_any, list_all, slice_get}
use Rattle.std.specs.Option.{option_map, option_and_then}
use Rattle.std.specs.FinMap as tree
use Rattle.std.specs.FinMap.Entries.{below_all, is_sorted}
use Rattle.std.proofs.lemmas.Bool.{eq-eqb, ne_eqb}
use Rattle.std.proofs.lemmas.List.{length-map}
use Rattle.std.proofs.lemmas.List.Folds.{list_any-append, list_all-map}
use Rattle.std.proofs.lemmas.Option.{slice_get-map}
use Rattle.object_id.specs.declared.node.NodeId.{NodeId}
use Rattle.message_wire.specs.declared.name.MessageName.{MessageName}
use Rattle.message_wire.specs.declared.packet.Packet.{Packet}
use Rattle.message_wire.specs.Message.{with_first_message, messages_by_sender, first_sender}
use Rattle.message_wire.specs.Senders.{Messages, named_entries, all_entries, wire_of, AreSenders}
use Rattle.message_wire.proofs.EntryLemmas.{sorted-first, sorted-rest, first_below}
use Rattle.message_wire.proofs.WholeWire.{named, entries-wire}
use Rattle.message_wire.proofs.WireChanges.{HasMessages}

-- the parts of later senders begin with another sender
first_apart : (s : ℕ) (e : ℕ × Packet) (later : List (ℕ × Messages)) → T (below_all nat_cmp s later) → AllByRecursion HasMessages later
    → with_first_message (named s e) (map named_entries later) ≡ (named s e ∷ []) ∷ map named_entries later
first_apart s e [] below all = refl
first_apart s e (own ∷ more) below all = by_messages (tree.entries own.1) (sym (tree.len-entries own.1))
  where
    by_messages : (fs : List (ℕ × Packet)) → length fs ≡ tree.len own.1
        → with_first_message (named s e) (map (named own.0) fs ∷ map named_entries more)
        ≡ (named s e ∷ []) ∷ map (named own.0) fs ∷ map named_entries more
    by_messages [] is = absurd (let some = all.0 in omega (arith, is, some))
    by_messages (f ∷ fs) is =
        let less = first_below s own more below in
        ap (λ (b : Bool). cond b ((named s e ∷ map (named own.0) (f ∷ fs)) ∷ map named_entries more)
        ((named s e ∷ []) ∷ map (named own.0) (f ∷ fs) ∷ map named_entries more))
        (ne_eqb s own.0 (λ same. omega (arith, less, same)))

-- one sender's messages are one part
first_part : (s : ℕ) (e : ℕ × Packet) (es : List (ℕ × Packet)) (rest : List (MessageName × Packet)) (parts : List (List (MessageName × Packet)))
    → messages_by_sender rest ≡ parts
    → ((e : ℕ × Packet) → with_first_message (named s e) parts ≡ (named s e ∷ []) ∷ parts)
    → messages_by_sender (map (named s) (e ∷ es) ++ rest) ≡ map (named s) (e ∷ es) ∷ parts
first_part s e [] rest parts are apart = ap (with_first_message (named s e)) are ∙ apart e
first_part s e (f ∷ fs) rest parts are apart =
    ap (with_first_message (named s e)) (first_part s f fs rest parts are apart)
    ∙ ap (λ (b : Bool). cond b (map (named s) (e ∷ f ∷ fs) ∷ parts) ((named s e ∷ []) ∷ map (named s) (f ∷ fs) ∷ parts)) (eq-eqb s s refl)

by_sender-all : (senders : List (ℕ × Messages)) → T (is_sorted nat_cmp senders) → AllByRecursion HasMessages senders
    → messages_by_sender (all_entries senders) ≡ map named_entries senders
by_sender-all [] sorted all = refl
by_sender-all (own ∷ later) sorted all =
    by_messages (by_sender-all later (sorted-rest own later sorted) all.1) (tree.entries own.1) (sym (tree.len-entries own.1))
  where
    by_messages : messages_by_sender (all_entries later) ≡ map named_entries later → (es : List (ℕ × Packet)) → length es ≡ tree.len own.1
        → messages_by_sender (map (named own.0) es ++ all_entries later) ≡ map (named own.0) es ∷ map named_entries later
    by_messages rest [] is = absurd (let some = all.0 in omega (arith, is, some))
    by_messages rest (e ∷ es) is =
        first_part own.0 e es (all_entries later) (map named_entries later) rest
        (λ f. first_apart own.0 f later (sorted-first own later sorted) all.1)

-- the parts of the wire are the senders' messages
pub parts-wire : (senders : List (ℕ × Messages)) → AreSenders senders
    → messages_by_sender (tree.entries (wire_of senders)) ≡ map named_entries senders
parts-wire senders are = ap messages_by_sender (entries-wire senders are.0) ∙ by_sender-all senders are.0 are.1

module _ (test : MessageName × Packet → Bool) where
  any-named : (s : ℕ) (es : List (ℕ × Packet)) → list_any test (map (named s) es) ≡ list_any (λ (e : ℕ × Packet). test (named s e)) es
  any-named s [] = refl
  any-named s (e ∷ es) = ap (λ (b : Bool). test (named s e) || b) (any-named s es)

  any-all : (senders : List (ℕ × Messages)) → list_any test (all_entries senders)
      ≡ list_any (λ (own : ℕ × Messages). list_any (λ (e : ℕ × Packet). test (named own.0 e)) (tree.entries own.1)) senders
  any-all [] = refl
  any-all (own ∷ later) =
      list_any-append test (named_entries own) (all_entries later)
      ∙ (λ i. any-named own.0 (tree.entries own.1) i || any-all later i)

  -- a message of the wire passes a test where one of a sender does
  pub any-wire : (senders : List (ℕ × Messages)) → T (is_sorted nat_cmp senders) → list_any test (tree.entries (wire_of senders))
      ≡ list_any (λ (own : ℕ × Messages). list_any (λ (e : ℕ × Packet). test (named own.0 e)) (tree.entries own.1)) senders
  any-wire senders sorted = ap (list_any test) (entries-wire senders sorted) ∙ any-all senders

-- ---- by place

place-some : (place : ℕ) (own : ℕ × Messages) (senders : List (ℕ × Messages)) → AreSenders senders → slice_get senders place ≡ Some own
    → slice_get (messages_by_sender (tree.entries (wire_of senders))) place ≡ Some (named_entries own)
place-some place own senders are is =
    ap (λ (parts : List (List (MessageName × Packet))). slice_get parts place) (parts-wire senders are)
    ∙ slice_get-map named_entries senders place ∙ ap (option_map named_entries) is

pub place-none : (place : ℕ) (senders : List (ℕ × Messages)) → AreSenders senders → slice_get senders place ≡ None
    → slice_get (messages_by_sender (tree.entries (wire_of senders))) place ≡ None
place-none place senders are is =
    ap (λ (parts : List (List (MessageName × Packet))). slice_get parts place) (parts-wire senders are)
    ∙ slice_get-map named_entries senders place ∙ ap (option_map named_entries) is

pub count-some : (place : ℕ) (own : ℕ × Messages) (senders : List (ℕ × Messages)) → AreSenders senders → slice_get senders place ≡ Some own
    → length (unwrap_or (slice_get (messages_by_sender (tree.entries (wire_of senders))) place) []) ≡ tree.len own.1
count-some place own senders are is =
    ap (λ (part : Option (List (MessageName × Packet))). length (unwrap_or part [])) (place-some place own senders are is)
    ∙ length-map (tree.entries own.1) (named own.0) ∙ sym (tree.len-entries own.1)

pub count-none : (place : ℕ) (senders : List (ℕ × Messages)) → AreSenders senders → slice_get senders place ≡ None
    → length (unwrap_or (slice_get (messages_by_sender (tree.entries (wire_of senders))) place) []) ≡ 0
count-none place senders are is =
    ap (λ (part : Option (List (MessageName × Packet))). length (unwrap_or part [])) (place-none place senders are is)

-- the message at a place among those of the sender at a place
pub message-some : (sender place : ℕ) (own : ℕ × Messages) (senders : List (ℕ × Messages)) → AreSenders senders → slice_get senders sender ≡ Some own
    → option_and_then (λ (part : List (MessageName × Packet)). slice_get part place) (slice_get (messages_by_sender (tree.entries (wire_of senders))) sender)
    ≡ option_map (named own.0) (slice_get (tree.entries own.1) place)
message-some sender place own senders are is =
    ap (option_and_then (λ (part : List (MessageName × Packet)). slice_get part place)) (place-some sender own senders are is)
    ∙ slice_get-map (named own.0) (tree.entries own.1) place

pub message-none : (sender place : ℕ) (senders : List (ℕ × Messages)) → AreSenders senders → slice_get senders sender ≡ None
    → option_and_then (λ (part : List (MessageName × Packet)). slice_get part place) (slice_get (messages_by_sender (tree.entries (wire_of senders))) sender) ≡ None
message-none sender place senders are is =
    ap (option_and_then (λ (part : List (MessageName × Packet)). slice_get part place)) (place-none sender senders are is)

-- a test of all messages of the sender at a place
module _ (test : MessageName × Packet → Bool) (place : ℕ) (senders : List (ℕ × Messages)) (are : AreSenders senders) where
  pub all-some : (own : ℕ × Messages) → slice_get senders place ≡ Some own
      → list_all test (unwrap_or (slice_get (messages_by_sender (tree.entries (wire_of senders))) place) [])
      ≡ list_all (λ (e : ℕ × Packet). test (named own.0 e)) (tree.entries own.1)
  all-some own is =
      ap (λ (part : Option (List (MessageName × Packet))). list_all test (unwrap_or part [])) (place-some place own senders are is)
      ∙ list_all-map test (named own.0) (tree.entries own.1)

  pub all-none : slice_get senders place ≡ None
      → list_all test (unwrap_or (slice_get (messages_by_sender (tree.entries (wire_of senders))) place) []) ≡ true
  all-none is = ap (λ (part : Option (List (MessageName × Packet))). list_all test (unwrap_or part [])) (place-none place senders are is)

-- the sender at a place has a message
has-message : (place : ℕ) (own : ℕ × Messages) (senders : List (ℕ × Messages)) → AllByRecursion HasMessages senders
    → slice_get senders place ≡ Some own → 0 < tree.len own.1
has-message place own [] all is = absurd (cc (is))
has-message zero own (first ∷ later) all is = subst (λ (o : Option (ℕ × Messages)). 0 < tree.len (unwrap_or o own).1) is all.0
has-message (suc place) own (first ∷ later) all is = has-message place own later all.1 is

-- the node of a number
abbrev node_numbered : ℕ → NodeId
node_numbered number = record { 0 = number }

-- the sender at a place
pub sender-some : (place : ℕ) (own : ℕ × Messages) (senders : List (ℕ × Messages)) → AreSenders senders → slice_get senders place ≡ Some own
    → option_map first_sender (slice_get (messages_by_sender (tree.entries (wire_of senders))) place) ≡ Some (node_numbered own.0)
sender-some place own senders are is =
    ap (option_map first_sender) (place-some place own senders are is)
    ∙ by_messages (tree.entries own.1) (sym (tree.len-entries own.1))
  where
    by_messages : (es : List (ℕ × Packet)) → length es ≡ tree.len own.1
        → Some (first_sender (map (named own.0) es)) ≡ Some (node_numbered own.0)
    by_messages [] none = absurd (let some = has-message place own senders are.1 is in omega (arith, none, some))
    by_messages (e ∷ es) some = refl

sender-own : (s : ℕ) (es : List (ℕ × Packet)) → list_all (λ (e : ℕ × Packet). (named s e).0.sender.0 == s) es ≡ true
sender-own s [] = refl
sender-own s (e ∷ es) = ap (λ (b : Bool). b && list_all (λ (f : ℕ × Packet). (named s f).0.sender.0 == s) es) (eq-eqb s s refl) ∙ sender-own s es

pub sender-each : (place : ℕ) (own : ℕ × Messages) (senders : List (ℕ × Messages)) → AreSenders senders → slice_get senders place ≡ Some own
    → list_all (λ (found : MessageName × Packet). found.0.sender.0 == own.0)
    (unwrap_or (slice_get (messages_by_sender (tree.entries (wire_of senders))) place) []) ≡ true
sender-each place own senders are is =
    all-some (λ (found : MessageName × Packet). found.0.sender.0 == own.0) place senders are own is ∙ sender-own own.0 (tree.entries own.1)
