-- The enabled list in parts: together they are the list, so that it is counted and read part by part.
use Rattle.std.proofs.Common.{◌≡◌, arith, ℕ, zero, suc, ◌+◌, ◌-◌, ◌<◌, ◌≤◌, ◌==◌, nat_lt, Bool, true, false, cond, List, [], ◌∷◌, ◌++◌, length, map, flat_map, filter, refl, sym, ap, ◌∙◌, append-nil}
use Rattle.std.specs.List.{slice_get}
use Rattle.std.specs.Option.{option_map_or}
use Rattle.std.specs.FinMap as tree
use Rattle.std.proofs.lemmas.Bool.{ltb-true, ltb-false}
use Rattle.std.proofs.lemmas.Grind.{flat_map-append}
use Rattle.std.proofs.lemmas.List.Concat.{length-flat_map}
use Rattle.std.proofs.lemmas.List.Elements.{filter-append}
use Rattle.cluster_script.specs.declared.statement.Statement.{Statement}
use Rattle.sheep_node.specs.declared.event.Event.{Event}
use Rattle.message_wire.specs.declared.name.MessageName.{MessageName}
use Rattle.message_wire.specs.declared.packet.Packet.{Packet}
use Rattle.message_wire.specs.Message.{with_first_message, messages_by_sender}
use Rattle.sheep_world.specs.World.{World, next_control}
use Rattle.sheep_world.specs.Enabled.{is_enabled, guest_events, message_events, node_events, control_event, looked_at, enabled_events, looked_at_parts, enabled_parts, enabled_count, event_in_parts, enabled_at}

-- lists after one another
abbrev pub joined : {X : Type 0} → List (List X) → List X
joined {X} parts = flat_map (λ (part : List X). part) parts

module _ {X Y : Type 0} (f : X → List Y) where
  pub joined-map : (xs : List X) → joined (map f xs) ≡ flat_map f xs
  joined-map [] = refl
  joined-map (x ∷ xs) = ap (λ (ys : List Y). f x ++ ys) (joined-map xs)

  joined-map_flat : (parts : List (List X)) → joined (map (flat_map f) parts) ≡ flat_map f (joined parts)
  joined-map_flat [] = refl
  joined-map_flat (part ∷ later) = ap (λ (ys : List Y). flat_map f part ++ ys) (joined-map_flat later) ∙ sym (flat_map-append f part (joined later))

module _ {X : Type 0} where
  joined-filter : (test : X → Bool) (parts : List (List X)) → joined (map (filter test) parts) ≡ filter test (joined parts)
  joined-filter test [] = refl
  joined-filter test (part ∷ later) = ap (λ (xs : List X). filter test part ++ xs) (joined-filter test later) ∙ sym (filter-append test part (joined later))

  slice_get-before : (xs ys : List X) (k : ℕ) → k < length xs → slice_get (xs ++ ys) k ≡ slice_get xs k
  slice_get-before [] ys k within = absurd (omega (arith, within))
  slice_get-before (x ∷ xs) ys zero within = refl
  slice_get-before (x ∷ xs) ys (suc k) within = slice_get-before xs ys k (omega (arith, within))

  slice_get-behind : (xs ys : List X) (k : ℕ) → slice_get (xs ++ ys) (length xs + k) ≡ slice_get ys k
  slice_get-behind [] ys k = let same : 0 + k ≡ k = omega arith in ap (slice_get ys) same
  slice_get-behind (x ∷ xs) ys k =
      let later : length (x ∷ xs) + k ≡ suc (length xs + k) = omega arith in
      ap (slice_get (x ∷ xs ++ ys)) later ∙ slice_get-behind xs ys k

-- messages by sender are the messages
joined-with_first : (found : MessageName × Packet) (parts : List (List (MessageName × Packet))) → joined (with_first_message found parts) ≡ found ∷ joined parts
joined-with_first found [] = refl
joined-with_first found ([] ∷ later) = refl
joined-with_first found ((next ∷ same) ∷ later) = by_sender (found.0.sender.0 == next.0.sender.0)
  where
    by_sender : (b : Bool) → joined (cond b ((found ∷ next ∷ same) ∷ later) ((found ∷ []) ∷ (next ∷ same) ∷ later)) ≡ found ∷ joined ((next ∷ same) ∷ later)
    by_sender true = refl
    by_sender false = refl

pub joined-by_sender : (messages : List (MessageName × Packet)) → joined (messages_by_sender messages) ≡ messages
joined-by_sender [] = refl
joined-by_sender (found ∷ later) = joined-with_first found (messages_by_sender later) ∙ ap (λ (rest : List (MessageName × Packet)). found ∷ rest) (joined-by_sender later)

in_first : (part : List Event) (later : List (List Event)) (place : ℕ) (b : Bool) → nat_lt place (length part) ≡ b
    → ((k : ℕ) → event_in_parts later k ≡ slice_get (joined later) k)
    → cond b (slice_get part place) (event_in_parts later (place - length part)) ≡ slice_get (part ++ joined later) place
in_first part later place true before rest = sym (slice_get-before part (joined later) place (ltb-true place (length part) before))
in_first part later place false behind rest =
    let most : length part ≤ place = ltb-false place (length part) behind in
    let same : length part + (place - length part) ≡ place = omega (arith, most) in
    rest (place - length part) ∙ sym (slice_get-behind part (joined later) (place - length part)) ∙ ap (slice_get (part ++ joined later)) same

-- what is found in parts is at the place of the lists after one another
at_parts : (parts : List (List Event)) (place : ℕ) → event_in_parts parts place ≡ slice_get (joined parts) place
at_parts [] place = refl
at_parts (part ∷ later) place = in_first part later place (nat_lt place (length part)) refl (λ (k : ℕ). at_parts later k)

module _ (statements : List Statement) (world : World) where
  abbrev of_messages : List (List Event)
  of_messages = map (flat_map message_events) (messages_by_sender (tree.entries world.wire))

  abbrev of_nodes : List (List Event)
  of_nodes = map node_events (tree.keys world.hosts)

  abbrev of_control : List Event
  of_control = option_map_or control_event (next_control world) []

  pub messages-joined : joined of_messages ≡ flat_map message_events (tree.entries world.wire)
  messages-joined =
      joined-map_flat message_events (messages_by_sender (tree.entries world.wire))
      ∙ ap (flat_map message_events) (joined-by_sender (tree.entries world.wire))

  joined-looked_at : joined (looked_at_parts statements world) ≡ looked_at statements world
  joined-looked_at =
      flat_map-append (λ (part : List Event). part) ((guest_events statements ∷ of_messages) ++ of_nodes) (of_control ∷ [])
      ∙ (λ i. flat_map-append (λ (part : List Event). part) (guest_events statements ∷ of_messages) of_nodes i ++ append-nil of_control i)
      ∙ (λ i. ((guest_events statements ++ messages-joined i) ++ joined-map node_events (tree.keys world.hosts) i) ++ of_control)

  -- together the parts are the enabled list
  pub joined-enabled_parts : joined (enabled_parts statements world) ≡ enabled_events statements world
  unfolding enabled_parts enabled_events
  joined-enabled_parts =
      joined-filter (is_enabled statements world) (looked_at_parts statements world) ∙ ap (filter (is_enabled statements world)) joined-looked_at

  -- so it has as many events as they have
  pub enabled_count-length : enabled_count statements world ≡ length (enabled_events statements world)
  enabled_count-length =
      sym (length-flat_map (λ (part : List Event). part) (enabled_parts statements world)) ∙ ap length joined-enabled_parts

  -- and the event at a place is found in them
  pub enabled_at-slice_get : (place : ℕ) → enabled_at statements world place ≡ slice_get (enabled_events statements world) place
  enabled_at-slice_get place =
      at_parts (enabled_parts statements world) place ∙ ap (λ (events : List Event). slice_get events place) joined-enabled_parts
