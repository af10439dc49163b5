-- The messages of a sender whose ends are all up: each may be delivered, and each or none lost, so their events are found by a division.
use Rattle.std.proofs.Common.{◌≡◌, arith, ℕ, zero, suc, ◌*◌, ◌/◌, ◌%◌, ◌-◌, ◌<◌, ◌≤◌, ◌==◌, nat_lt, Bool, true, false, not, ◌&&◌, ◌||◌, cond, T, inl, inr}
use Rattle.std.proofs.Common.{List, [], ◌∷◌, ◌++◌, length, map, flat_map, filter, Contains, Option, Some, None, Ordering, refl, sym, ap, subst, ◌∙◌}
use Rattle.std.specs.Prelude.{unwrap_or}
use Rattle.std.specs.declared.cmp.Ordering.TheVariants.{Less, Equal, Greater}
use Rattle.std.specs.declared.ops.ControlFlow.TheVariants.{Continue, Break}
use Rattle.std.specs.Int.{bit_at}
use Rattle.std.specs.Ordering.{is_eq, is_lt}
use Rattle.std.specs.List.{slice_get, list_all}
use Rattle.std.specs.Option.{option_map_or}
use Rattle.std.specs.FinMap as tree
use Rattle.std.specs.FinMap.Entries.{below_all, is_sorted}
use Rattle.std.proofs.lemmas.Bool.{and_parts, lt-ltb, ltb-true, eqb-true}
use Rattle.std.proofs.lemmas.Cmp.{tied_itself}
use Rattle.std.proofs.lemmas.List.Elements.{Contains-append_left, Contains-append_right}
use Rattle.std.proofs.lemmas.Option.{same_Some}
use Rattle.proof_tools.proofs.Booleans.{T_and_left, T_and_right}
use Rattle.proof_tools.proofs.Lists.{Contains-nil, Contains-first, Contains-cons, Contains-cons_cases}
use Rattle.cluster_script.specs.declared.statement.Statement.{Statement}
use Rattle.sheep_node.specs.May.{has_numbers}
use Rattle.sheep_node.specs.declared.event.Event.{Event}
use Rattle.message_wire.specs.declared.name.MessageName.{MessageName}
use Rattle.message_wire.specs.declared.node_set.NodeSet.{NodeSet}
use Rattle.message_wire.specs.declared.packet.Packet.{Packet}
use Rattle.message_wire.specs.declared.packet.Packet.TheVariants.{Request, Reply}
use Rattle.message_wire.specs.Message.{name_cmp, asked_node, receiver_of, messages_by_sender}
use Rattle.message_wire.specs.NodeSet.{contains_node}
use Rattle.message_wire.proofs.NameOrder.{name_cmp_total, same_name}
use Rattle.sheep_world.specs.World.{Host, World, host_at, is_host_up, is_up, is_lost, has_lost_end, are_ends_up, message_at}
use Rattle.sheep_world.specs.Conditions.{may_go, is_request_packet}
use Rattle.sheep_world.specs.Enabled.{is_enabled, loss_of, message_events}
use Rattle.sheep_world.specs.EnabledPlaces.{place_behind, messages_of_sender, are_all_ends_up, delivery_event, events_between_up}
use Rattle.sheep_world.proofs.EnabledParts.{joined, joined-by_sender}

-- ---- a place among events that all happen

half : (place : ℕ) → suc (suc place) / 2 ≡ suc (place / 2)
half place = omega arith

half-zero : zero / 2 ≡ 0
half-zero = omega arith

half-one : suc zero / 2 ≡ 0
half-one = omega arith

rest-zero : zero % 2 ≡ 0
rest-zero = omega arith

rest-one : suc zero % 2 ≡ 1
rest-one = omega arith

rest-two : (place : ℕ) → suc (suc place) % 2 ≡ place % 2
rest-two place = omega arith

module _ {X : Type 0} where
  -- where nothing is at a place there are no more
  pub slice_get-past : (xs : List X) (place : ℕ) → slice_get xs place ≡ None → length xs ≤ place
  slice_get-past [] place none = omega arith
  slice_get-past (x ∷ xs) zero none = absurd (cc (none))
  slice_get-past (x ∷ xs) (suc place) none = let later = slice_get-past xs place none in omega (arith, later)

  -- one event of each
  pub one-behind : (f : X → Event) (xs : List X) (place count : ℕ) → slice_get xs place ≡ None → count ≡ length xs
      → Continue (place - count) ≡ place_behind (map f xs) place
  one-behind f [] place count none is =
      let same : place - count ≡ place = omega (arith, is) in ap (λ (left : ℕ). Continue left) same
  one-behind f (x ∷ xs) zero count none is = absurd (cc (none))
  one-behind f (x ∷ xs) (suc place) count none is =
      let less : suc place - count ≡ place - length xs = omega (arith, is) in
      ap (λ (left : ℕ). Continue left) less ∙ one-behind f xs place (length xs) none refl

  pub one-found : (f : X → Event) (xs : List X) (place : ℕ) (found : X) (event : Event) → slice_get xs place ≡ Some found
      → event ≡ f found → Break event ≡ place_behind (map f xs) place
  one-found f [] zero found event is made = absurd (cc (is))
  one-found f [] (suc place) found event is made = absurd (cc (is))
  one-found f (x ∷ xs) zero found event is made =
      ap (λ (event : Event). Break event) (made ∙ ap f (sym (same_Some x found is)))
  one-found f (x ∷ xs) (suc place) found event is made = one-found f xs place found event is made

  -- two events of each
  abbrev pub pairs : (X → Event) → (X → Event) → List X → List Event
  pairs one other xs = flat_map (λ (x : X). one x ∷ other x ∷ []) xs

  pub two-behind : (one other : X → Event) (xs : List X) (place count : ℕ) → slice_get xs (place / 2) ≡ None → count ≡ length xs
      → Continue (place - count * 2) ≡ place_behind (pairs one other xs) place
  two-behind one other [] place count none is =
      let same : place - count * 2 ≡ place = omega (arith, is) in ap (λ (left : ℕ). Continue left) same
  two-behind one other (x ∷ xs) zero count none is =
      let never : Some x ≡ None = sym (ap (slice_get (x ∷ xs)) half-zero) ∙ none in absurd (cc (never))
  two-behind one other (x ∷ xs) (suc zero) count none is =
      let never : Some x ≡ None = sym (ap (slice_get (x ∷ xs)) half-one) ∙ none in absurd (cc (never))
  two-behind one other (x ∷ xs) (suc (suc place)) count none is =
      let less : suc (suc place) - count * 2 ≡ place - length xs * 2 = omega (arith, is) in
      ap (λ (left : ℕ). Continue left) less
      ∙ two-behind one other xs place (length xs) (sym (ap (slice_get (x ∷ xs)) (half place)) ∙ none) refl

  pub two-found : (one other : X → Event) (xs : List X) (place : ℕ) (found : X) (event : Event) → slice_get xs (place / 2) ≡ Some found
      → event ≡ cond (place % 2 == 1) (other found) (one found) → Break event ≡ place_behind (pairs one other xs) place
  two-found one other [] place found event is made = absurd (nothing (place / 2) is)
    where
      nothing : (k : ℕ) → slice_get [] k ≡ Some found → ⊥
      nothing zero is = absurd (cc (is))
      nothing (suc k) is = absurd (cc (is))
  two-found one other (x ∷ xs) zero found event is made =
      let first : x ≡ found = same_Some x found (sym (ap (slice_get (x ∷ xs)) half-zero) ∙ is) in
      ap (λ (event : Event). Break event)
      (made ∙ ap (λ (n : ℕ). cond (n == 1) (other found) (one found)) rest-zero ∙ ap one (sym first))
  two-found one other (x ∷ xs) (suc zero) found event is made =
      let first : x ≡ found = same_Some x found (sym (ap (slice_get (x ∷ xs)) half-one) ∙ is) in
      ap (λ (event : Event). Break event)
      (made ∙ ap (λ (n : ℕ). cond (n == 1) (other found) (one found)) rest-one ∙ ap other (sym first))
  two-found one other (x ∷ xs) (suc (suc place)) found event is made =
      two-found one other xs place found event (sym (ap (slice_get (x ∷ xs)) (half place)) ∙ is)
      (made ∙ ap (λ (n : ℕ). cond (n == 1) (other found) (one found)) (rest-two place))

-- ---- what is among a sender's messages is in the wire

not_less_than_itself : (name : MessageName) → T (is_lt (name_cmp name name)) → ⊥
not_less_than_itself name less = subst (λ (o : Ordering). T (is_lt o)) (tied_itself name_cmp_total name) less

module _ {X : Type 0} where
  less_than_names : (name : MessageName) (es : List (MessageName × X)) (e : MessageName × X) → T (below_all name_cmp name es)
      → Contains es e → T (is_lt (name_cmp name e.0))
  less_than_names name [] e below there = absurd (Contains-nil e there)
  less_than_names name (f ∷ es) e below there = elim (Contains-cons_cases f es e there) [
    | inl same ↦ subst (λ (g : MessageName × X). T (is_lt (name_cmp name g.0))) same
        (T_and_left (is_lt (name_cmp name f.0)) (below_all name_cmp name es) below)
    | inr later ↦ less_than_names name es e (T_and_right (is_lt (name_cmp name f.0)) (below_all name_cmp name es) below) later
  ]

  find-message : (es : List (MessageName × X)) (e : MessageName × X) → T (is_sorted name_cmp es) → Contains es e
      → tree.find name_cmp e.0 es ≡ Some e.1
  find-message [] e sorted there = absurd (Contains-nil e there)
  find-message (f ∷ es) e sorted there = elim (Contains-cons_cases f es e there) [
    | inl same ↦ subst (λ (g : MessageName × X). tree.find name_cmp g.0 (f ∷ es) ≡ Some g.1) same
        (ap (λ (o : Ordering). cond (is_eq o) (Some f.1) (tree.find name_cmp f.0 es)) (tied_itself name_cmp_total f.0))
    | inr later ↦ by_order (name_cmp e.0 f.0) refl
        (less_than_names f.0 es e (T_and_left (below_all name_cmp f.0 es) (is_sorted name_cmp es) sorted) later)
        (find-message es e (T_and_right (below_all name_cmp f.0 es) (is_sorted name_cmp es) sorted) later)
  ]
    where
      by_order : (o : Ordering) → name_cmp e.0 f.0 ≡ o → T (is_lt (name_cmp f.0 e.0)) → tree.find name_cmp e.0 es ≡ Some e.1
          → cond (is_eq o) (Some f.1) (tree.find name_cmp e.0 es) ≡ Some e.1
      by_order Less tie less rest = rest
      by_order Equal tie less rest =
          absurd (not_less_than_itself f.0 (subst (λ (name : MessageName). T (is_lt (name_cmp f.0 name))) (same_name e.0 f.0 tie) less))
      by_order Greater tie less rest = rest

  Contains-joined : (parts : List (List X)) (place : ℕ) (part : List X) (x : X) → slice_get parts place ≡ Some part → Contains part x
      → Contains (joined parts) x
  Contains-joined [] zero part x is there = absurd (cc (is))
  Contains-joined [] (suc place) part x is there = absurd (cc (is))
  Contains-joined (first ∷ parts) zero part x is there =
      Contains-append_left first (joined parts) x (subst (λ (part : List X). Contains part x) (sym (same_Some first part is)) there)
  Contains-joined (first ∷ parts) (suc place) part x is there =
      Contains-append_right first (joined parts) x (Contains-joined parts place part x is there)

module _ (world : World) where
  abbrev parts : List (List (MessageName × Packet))
  parts = messages_by_sender (tree.entries world.wire)

  among-entries : (sender : ℕ) (found : MessageName × Packet) → Contains (messages_of_sender sender world) found
      → Contains (tree.entries world.wire) found
  among-entries sender found there = go (slice_get parts sender) refl there
    where
      go : (own : Option (List (MessageName × Packet))) → slice_get parts sender ≡ own → Contains (unwrap_or own []) found
          → Contains (tree.entries world.wire) found
      go None is there = absurd (Contains-nil found there)
      go (Some part) is there =
          subst (λ (messages : List (MessageName × Packet)). Contains messages found) (joined-by_sender (tree.entries world.wire))
          (Contains-joined parts sender part found is there)

  in-wire : (sender : ℕ) (found : MessageName × Packet) → Contains (messages_of_sender sender world) found
      → message_at found.0 world ≡ Some found.1
  in-wire sender found there =
      tree.get-entries world.wire found.0
      ∙ find-message (tree.entries world.wire) found (tree.entries_sorted world.wire) (among-entries sender found there)

-- ---- what may happen to a message whose ends are up

by_not : (b : Bool) → not b ≡ true → b ≡ false
by_not true is = absurd (cc (is))
by_not false is = refl

module _ (world : World) where
  not-lost : (node : ℕ) → is_up node world ≡ true → is_lost node world ≡ false
  not-lost node up = go (host_at node world) up
    where
      go : (found : Option Host) → option_map_or is_host_up found false ≡ true
          → option_map_or (λ (host : Host). host.is_lost) found false ≡ false
      go None up = refl
      go (Some host) up = by_not host.is_lost (and_parts (not host.is_lost) (has_numbers host.node) up).0

  sender_up : (name : MessageName) (packet : Packet) → are_ends_up name packet world ≡ true → is_up name.sender.0 world ≡ true
  sender_up name packet up = (and_parts (is_up name.sender.0 world) (is_up (asked_node packet).0 world && true) up).0

  asked_up : (name : MessageName) (packet : Packet) → are_ends_up name packet world ≡ true → is_up (asked_node packet).0 world ≡ true
  asked_up name packet up =
      (and_parts (is_up (asked_node packet).0 world) true
      (and_parts (is_up name.sender.0 world) (is_up (asked_node packet).0 world && true) up).1).0

  receiver_up : (name : MessageName) (packet : Packet) → are_ends_up name packet world ≡ true → is_up (receiver_of name packet).0 world ≡ true
  receiver_up name (Request to bytes) up = asked_up name (Request to bytes) up
  receiver_up name (Reply from bytes) up = sender_up name (Reply from bytes) up

  no-lost_end : (name : MessageName) (packet : Packet) → are_ends_up name packet world ≡ true → has_lost_end name packet world ≡ false
  no-lost_end name packet up =
      let sender = not-lost name.sender.0 (sender_up name packet up) in
      let asked = not-lost (asked_node packet).0 (asked_up name packet up) in
      λ i. sender i || (asked i || false)

  module _ (statements : List Statement) (name : MessageName) where
    may-deliver : (packet : Packet) → message_at name world ≡ Some packet → are_ends_up name packet world ≡ true
        → is_enabled statements world (delivery_event name) ≡ true
    unfolding is_enabled
    may-deliver packet there up =
        ap (λ (found : Option Packet). option_map_or (λ (packet : Packet). is_up (receiver_of name packet).0 world) found false) there
        ∙ receiver_up name packet up

    may-lose : (packet : Packet) → message_at name world ≡ Some packet → are_ends_up name packet world ≡ true
        → is_enabled statements world (loss_of name packet) ≡ nat_lt 0 world.losses
    unfolding is_enabled
    may-lose (Request to bytes) there up =
        ap (λ (found : Option Packet). option_map_or (λ (packet : Packet). is_request_packet packet && may_go name packet world) found false) there
        ∙ ap (λ (b : Bool). b || nat_lt 0 world.losses) (no-lost_end name (Request to bytes) up)
    may-lose (Reply from bytes) there up =
        ap (λ (found : Option Packet). option_map_or (λ (packet : Packet). not (is_request_packet packet) && may_go name packet world) found false) there
        ∙ ap (λ (b : Bool). b || nat_lt 0 world.losses) (no-lost_end name (Reply from bytes) up)

-- an event that may happen, and one behind it that may if another test says so
passed : (test : Event → Bool) (one other : Event) (rest : List Event) (may : Bool) → test one ≡ true → test other ≡ may
    → filter test (one ∷ other ∷ rest) ≡ one ∷ (cond may (other ∷ []) [] ++ filter test rest)
passed test one other rest may sure is =
    ap (λ (b : Bool). cond b (one ∷ filter test (other ∷ rest)) (filter test (other ∷ rest))) sure
    ∙ ap (λ (events : List Event). one ∷ events) (behind may is)
  where
    behind : (may : Bool) → test other ≡ may → filter test (other ∷ rest) ≡ cond may (other ∷ []) [] ++ filter test rest
    behind true is = ap (λ (b : Bool). cond b (other ∷ filter test rest) (filter test rest)) is
    behind false is = ap (λ (b : Bool). cond b (other ∷ filter test rest) (filter test rest)) is

module _ (statements : List Statement) (world : World) where
  between : (own : List (MessageName × Packet))
      → ((found : MessageName × Packet) → Contains own found → message_at found.0 world ≡ Some found.1)
      → list_all (λ (found : MessageName × Packet). are_ends_up found.0 found.1 world) own ≡ true
      → flat_map (events_between_up world.losses) own ≡ filter (is_enabled statements world) (flat_map message_events own)
  between [] there up = refl
  between (found ∷ later) there up =
      let both = and_parts (are_ends_up found.0 found.1 world)
      (list_all (λ (found : MessageName × Packet). are_ends_up found.0 found.1 world) later) up in
      let own = there found (Contains-first found found later refl) in
      ap (λ (rest : List Event). delivery_event found.0 ∷ (cond (nat_lt 0 world.losses) (loss_of found.0 found.1 ∷ []) [] ++ rest))
      (between later (λ (other : MessageName × Packet) among. there other (Contains-cons found later other among)) both.1)
      ∙ sym (passed (is_enabled statements world) (delivery_event found.0) (loss_of found.0 found.1) (flat_map message_events later)
      (nat_lt 0 world.losses) (may-deliver world statements found.0 found.1 own both.0) (may-lose world statements found.0 found.1 own both.0))

  -- the events of a sender's messages that may happen
  pub sender-between : (sender : ℕ) → are_all_ends_up sender world ≡ true
      → flat_map (events_between_up world.losses) (messages_of_sender sender world)
      ≡ filter (is_enabled statements world) (flat_map message_events (messages_of_sender sender world))
  sender-between sender up = between (messages_of_sender sender world) (in-wire world sender) up

-- without losses left these are the deliveries
pub deliveries-alone : (losses : ℕ) (own : List (MessageName × Packet)) → losses ≡ 0
    → map (λ (found : MessageName × Packet). delivery_event found.0) own ≡ flat_map (events_between_up losses) own
deliveries-alone losses own none = go own ∙ sym (ap (λ (n : ℕ). flat_map (events_between_up n) own) none)
  where
    go : (own : List (MessageName × Packet))
        → map (λ (found : MessageName × Packet). delivery_event found.0) own ≡ flat_map (events_between_up 0) own
    go [] = refl
    go (found ∷ later) = ap (λ (events : List Event). delivery_event found.0 ∷ events) (go later)

-- and with some left all events
pub deliveries-losses : (losses : ℕ) (own : List (MessageName × Packet)) → (losses ≡ 0 → ⊥)
    → flat_map message_events own ≡ flat_map (events_between_up losses) own
deliveries-losses losses own some = go own
  where
    positive : (n : ℕ) → (n ≡ 0 → ⊥) → nat_lt 0 n ≡ true
    positive zero some = absurd (some refl)
    positive (suc n) some = lt-ltb 0 (suc n) (omega arith)

    go : (own : List (MessageName × Packet)) → flat_map message_events own ≡ flat_map (events_between_up losses) own
    go [] = refl
    go (found ∷ later) =
        ap (λ (events : List Event). delivery_event found.0 ∷ loss_of found.0 found.1 ∷ events) (go later)
        ∙ ap (λ (b : Bool). delivery_event found.0 ∷ (cond b (loss_of found.0 found.1 ∷ []) [] ++ flat_map (events_between_up losses) later))
        (sym (positive losses some))

-- ---- the ends of messages within a set of nodes that are up

below_64 : (node : ℕ) (nodes : NodeSet) → contains_node node nodes ≡ true → node < 64
unfolding contains_node
below_64 node nodes has = ltb-true node 64 (and_parts (nat_lt node 64) (bit_at nodes.bits node == 1) has).0

module _ (world : World) (nodes : NodeSet) (are_up : (node : ℕ) → node < 64 → contains_node node nodes ≡ is_up node world) where
  node_up : (node : ℕ) → contains_node node nodes ≡ true → is_up node world ≡ true
  node_up node has = sym (are_up node (below_64 node nodes has)) ∙ has

  ends-up : (node : ℕ) (own : List (MessageName × Packet)) → contains_node node nodes ≡ true
      → list_all (λ (found : MessageName × Packet). found.0.sender.0 == node) own ≡ true
      → list_all (λ (found : MessageName × Packet). contains_node (asked_node found.1).0 nodes) own ≡ true
      → list_all (λ (found : MessageName × Packet). are_ends_up found.0 found.1 world) own ≡ true
  ends-up node [] has senders asked = refl
  ends-up node (found ∷ later) has senders asked =
      let sent = and_parts (found.0.sender.0 == node) (list_all (λ (found : MessageName × Packet). found.0.sender.0 == node) later) senders in
      let to = and_parts (contains_node (asked_node found.1).0 nodes)
      (list_all (λ (found : MessageName × Packet). contains_node (asked_node found.1).0 nodes) later) asked in
      let sender = ap (λ (k : ℕ). is_up k world) (eqb-true found.0.sender.0 node sent.0) ∙ node_up node has in
      let other = node_up (asked_node found.1).0 to.0 in
      let rest = ends-up node later has sent.1 to.1 in
      λ i. (sender i && (other i && true)) && rest i

  -- so it is with a sender's messages, if the sender and whom they ask are in the set
  pub sender-ends_up : (sender node : ℕ) (within : Bool)
      → within ≡ (contains_node node nodes
      && list_all (λ (found : MessageName × Packet). contains_node (asked_node found.1).0 nodes) (messages_of_sender sender world))
      → list_all (λ (found : MessageName × Packet). found.0.sender.0 == node) (messages_of_sender sender world) ≡ true
      → within ≡ true → are_all_ends_up sender world ≡ true
  sender-ends_up sender node within is senders sure =
      let both = and_parts (contains_node node nodes)
      (list_all (λ (found : MessageName × Packet). contains_node (asked_node found.1).0 nodes) (messages_of_sender sender world)) (sym is ∙ sure) in
      ends-up node (messages_of_sender sender world) both.0 senders both.1
