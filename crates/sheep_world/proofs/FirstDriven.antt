-- Which event is the first that may happen of those that bring an answer: the first thing that may happen to a message, or else the first
-- that a node may do.
use Rattle.std.proofs.Common.{◌≡◌, ℕ, Bool, true, false, not, ◌&&◌, cond, List, [], ◌∷◌, ◌++◌, map, flat_map, filter, Option, Some, None, refl, sym, ap, ◌∙◌}
use Rattle.std.specs.List.{find}
use Rattle.std.specs.Option.{option_or, option_map_or}
use Rattle.std.specs.ControlFlow.{break_value}
use Rattle.std.specs.FinMap as tree
use Rattle.std.proofs.lemmas.List.Elements.{filter-append}
use Rattle.std.proofs.lemmas.List.Folds.{find-append}
use Rattle.object_id.specs.declared.node.NodeId.{NodeId}
use Rattle.cluster_script.specs.declared.statement.Statement.{Statement}
use Rattle.cluster_script.specs.declared.statement.Statement.TheVariants as lines
use Rattle.cluster_script.specs.Sessions.{ScriptSession, sessions_of}
use Rattle.message_wire.specs.declared.name.MessageName.{MessageName}
use Rattle.message_wire.specs.declared.packet.Packet.{Packet}
use Rattle.message_wire.specs.declared.packet.Packet.TheVariants.{Request, Reply}
use Rattle.message_wire.specs.Message.{receiver_of}
use Rattle.sheep_node.specs.declared.event.Event.{Event}
use Rattle.sheep_node.specs.declared.event.Event.TheVariants as events
use Rattle.sheep_world.specs.World.{World, is_up, are_ends_up, message_at, next_control}
use Rattle.sheep_world.specs.Conditions.{may_deliver}
use Rattle.sheep_world.specs.Enabled.{is_enabled, guest_events, loss_of, message_events, node_events, control_event, enabled_events}
use Rattle.sheep_world.specs.EnabledPlaces.{place_behind, place_behind_enabled}
use Rattle.sheep_world.specs.ClientSteps.{is_between_up, brings_answers, next_driven}
use Rattle.sheep_world.proofs.EnabledPlaces.{messages, nodes, last, behind_messages, behind_guests, looked_at-parts}

-- ---- where an end isn't up

and-false : (b : Bool) → (b && false) ≡ false
and-false true = refl
and-false false = refl

module _ (world : World) (name : MessageName) where
  receiver_down : (packet : Packet) → is_up (receiver_of name packet).0 world ≡ false → are_ends_up name packet world ≡ false
  receiver_down (Request to bytes) down =
      ap (λ (b : Bool). is_up name.sender.0 world && (b && true)) down ∙ and-false (is_up name.sender.0 world)
  receiver_down (Reply from bytes) down = ap (λ (b : Bool). b && (is_up from.0 world && true)) down

  -- what may not be delivered isn't between nodes that are up
  undelivered : may_deliver name world ≡ false → is_between_up name world ≡ false
  undelivered off = by_packet (message_at name world) off
    where
      by_packet : (found : Option Packet)
          → option_map_or (λ (packet : Packet). is_up (receiver_of name packet).0 world) found false ≡ false
          → option_map_or (λ (packet : Packet). are_ends_up name packet world) found false ≡ false
      by_packet None off = refl
      by_packet (Some packet) off = receiver_down packet off

  -- so its loss brings an answer
  loss_brings : (packet : Packet) → may_deliver name world ≡ false → brings_answers world (loss_of name packet) ≡ true
  loss_brings (Request to bytes) off = ap not (undelivered off)
  loss_brings (Reply from bytes) off = ap not (undelivered off)

-- ---- the first of some

abbrev first_of : List Event → Option Event
first_of events = break_value (place_behind events 0)

first-append : (xs ys : List Event) → first_of (xs ++ ys) ≡ option_or (first_of xs) (first_of ys)
first-append [] ys = refl
first-append (x ∷ xs) ys = refl

or-none : (found : Option Event) → option_or found None ≡ found
or-none None = refl
or-none (Some event) = refl

module _ (statements : List Statement) (world : World) where
  -- the first of some events that may happen
  abbrev pub first_enabled : List Event → Option Event
  first_enabled events = break_value (place_behind_enabled statements world events 0)

  -- the first of those that brings an answer
  abbrev driven_of : List Event → Option Event
  driven_of events = find (brings_answers world) (filter (is_enabled statements world) events)

  enabled-append : (xs ys : List Event) → first_enabled (xs ++ ys) ≡ option_or (first_enabled xs) (first_enabled ys)
  enabled-append xs ys =
      ap first_of (filter-append (is_enabled statements world) xs ys)
      ∙ first-append (filter (is_enabled statements world) xs) (filter (is_enabled statements world) ys)

  driven-append : (xs ys : List Event) → driven_of (xs ++ ys) ≡ option_or (driven_of xs) (driven_of ys)
  driven-append xs ys =
      ap (find (brings_answers world)) (filter-append (is_enabled statements world) xs ys)
      ∙ find-append (brings_answers world) (filter (is_enabled statements world) xs) (filter (is_enabled statements world) ys)

  -- both are the same
  abbrev IsLed : List Event → Type 0
  IsLed events = first_enabled events ≡ driven_of events

  led-append : (xs ys : List Event) → IsLed xs → IsLed ys → IsLed (xs ++ ys)
  led-append xs ys before behind =
      enabled-append xs ys
      ∙ ap (λ (found : Option Event). option_or found (first_enabled ys)) before
      ∙ ap (λ (found : Option Event). option_or (driven_of xs) found) behind
      ∙ sym (driven-append xs ys)

  led-each : {X : Type 0} (f : X → List Event) → ((x : X) → IsLed (f x)) → (xs : List X) → IsLed (flat_map f xs)
  led-each f each [] = refl
  led-each f each (x ∷ xs) = led-append (f x) (flat_map f xs) (each x) (led-each f each xs)

  led-one : (event : Event) → brings_answers world event ≡ true → IsLed (event ∷ [])
  led-one event brings = by_may (is_enabled statements world event)
    where
      by_may : (b : Bool) → first_of (cond b (event ∷ []) []) ≡ find (brings_answers world) (cond b (event ∷ []) [])
      by_may true = ap (λ (b : Bool). cond b (Some event) None) (sym brings)
      by_may false = refl

  -- of a message: it is delivered, or it may not be
  led-message : (found : MessageName × Packet) → IsLed (message_events found)
  unfolding is_enabled
  led-message found = by_may (may_deliver found.0 world) refl
    where
      delivery : Event
      delivery = events.Deliver found.0.sender found.0.number

      rest : List Event
      rest = filter (is_enabled statements world) (loss_of found.0 found.1 ∷ [])

      by_may : (b : Bool) → may_deliver found.0 world ≡ b
          → first_of (cond b (delivery ∷ rest) rest) ≡ find (brings_answers world) (cond b (delivery ∷ rest) rest)
      by_may true is = refl
      by_may false is = led-one (loss_of found.0 found.1) (loss_brings world found.0 found.1 is)

  -- of a node
  led-node : (node : ℕ) → IsLed (node_events node)
  led-node node =
      let n : NodeId = record { 0 = node } in
      led-append (events.LogNext n ∷ []) (events.Put n ∷ events.RecoverTick n ∷ events.RetryTick n ∷ events.Leave n ∷ [])
      (led-one (events.LogNext n) refl)
      (led-append (events.Put n ∷ []) (events.RecoverTick n ∷ events.RetryTick n ∷ events.Leave n ∷ [])
      (led-one (events.Put n) refl)
      (led-append (events.RecoverTick n ∷ []) (events.RetryTick n ∷ events.Leave n ∷ [])
      (led-one (events.RecoverTick n) refl)
      (led-append (events.RetryTick n ∷ []) (events.Leave n ∷ []) (led-one (events.RetryTick n) refl) (led-one (events.Leave n) refl))))

  -- ---- what brings none

  guests-none : (sessions : List ScriptSession) → driven_of (map (λ (session : ScriptSession). events.Guest session.number) sessions) ≡ None
  guests-none [] = refl
  guests-none (session ∷ sessions) = by_may (is_enabled statements world (events.Guest session.number)) (guests-none sessions)
    where
      later : List Event
      later = filter (is_enabled statements world) (map (λ (session : ScriptSession). events.Guest session.number) sessions)

      by_may : (b : Bool) → find (brings_answers world) later ≡ None
          → find (brings_answers world) (cond b (events.Guest session.number ∷ later) later) ≡ None
      by_may true none = none
      by_may false none = none

  one-none : (event : Event) → brings_answers world event ≡ false → driven_of (event ∷ []) ≡ None
  one-none event off = by_may (is_enabled statements world event)
    where
      by_may : (b : Bool) → find (brings_answers world) (cond b (event ∷ []) []) ≡ None
      by_may true = ap (λ (b : Bool). cond b (Some event) None) off
      by_may false = refl

  control-none : (s : Statement) → driven_of (control_event s) ≡ None
  control-none (lines.Fail node) = one-none (events.Lost (record { 0 = node })) refl
  control-none (lines.Join node) = one-none (events.Join (record { 0 = node })) refl
  control-none (lines.Reweight node vnodes) = one-none (events.Reweight (record { 0 = node })) refl
  control-none (lines.Back node) = one-none (events.Back (record { 0 = node })) refl
  control-none s = refl

  last-none : (next : Option Statement) → driven_of (option_map_or control_event next []) ≡ None
  last-none None = refl
  last-none (Some s) = control-none s

  -- ---- the whole list

  abbrev messages_here : List Event
  messages_here = messages statements world

  abbrev nodes_here : List Event
  nodes_here = nodes statements world

  behind-nodes : driven_of (behind_messages statements world) ≡ driven_of nodes_here
  behind-nodes =
      driven-append nodes_here (last statements world)
      ∙ ap (λ (found : Option Event). option_or (driven_of nodes_here) found) (last-none (next_control world))
      ∙ or-none (driven_of nodes_here)

  -- the first that brings an answer is that of the messages, or else that of the nodes
  pub driven-first : next_driven statements world ≡ option_or (first_enabled messages_here) (first_enabled nodes_here)
  unfolding enabled_events
  driven-first =
      ap driven_of (looked_at-parts statements world)
      ∙ driven-append (guest_events statements) (behind_guests statements world)
      ∙ ap (λ (found : Option Event). option_or found (driven_of (behind_guests statements world))) (guests-none (sessions_of statements))
      ∙ driven-append messages_here (behind_messages statements world)
      ∙ ap (λ (found : Option Event). option_or (driven_of messages_here) found) behind-nodes
      ∙ ap (λ (found : Option Event). option_or found (driven_of nodes_here)) (sym (led-each message_events led-message (tree.entries world.wire)))
      ∙ ap (λ (found : Option Event). option_or (first_enabled messages_here) found) (sym (led-each node_events led-node (tree.keys world.hosts)))
