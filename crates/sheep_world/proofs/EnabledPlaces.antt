-- Going over events to a place, part by part: what goes on behind some is what goes over the next.
use Rattle.std.proofs.Common.{◌≡◌, arith, ℕ, zero, suc, ◌+◌, ◌-◌, ◌<◌, ◌≤◌, Bool, true, false, ◌&&◌, ◌||◌, cond, List, [], ◌∷◌, ◌++◌, length, map}
use Rattle.std.proofs.Common.{flat_map, filter, drop, Option, Some, None, refl, sym, ap, ◌∙◌, append_assoc, get_or}
use Rattle.std.specs.Prelude.{unwrap_or}
use Rattle.std.specs.List.{slice_get}
use Rattle.std.specs.Option.{option_map_or, option_and_then}
use Rattle.std.specs.FinMap as tree
use Rattle.std.specs.declared.ops.ControlFlow.{ControlFlow}
use Rattle.std.specs.declared.ops.ControlFlow.TheVariants.{Continue, Break}
use Rattle.std.specs.ControlFlow.{break_value, continue_value}
use Rattle.std.proofs.lemmas.Bool.{or_parts}
use Rattle.std.proofs.lemmas.List.Elements.{filter-append}
use Rattle.std.proofs.lemmas.Option.{same_Some}
use Rattle.std.proofs.Math.Seq.{drop-cons}
use Rattle.cluster_script.specs.declared.statement.Statement.{Statement}
use Rattle.object_id.specs.declared.node.NodeId.{NodeId}
use Rattle.sheep_node.specs.declared.event.Event.{Event}
use Rattle.sheep_node.specs.declared.event.Event.TheVariants as events
use Rattle.message_wire.specs.declared.name.MessageName.{MessageName}
use Rattle.message_wire.specs.declared.packet.Packet.{Packet}
use Rattle.message_wire.specs.Message.{messages_by_sender}
use Rattle.sheep_world.specs.World.{World, is_lost, is_newest_member, next_control}
use Rattle.sheep_world.specs.Conditions.{may_log_next, may_put, may_recover, may_retry}
use Rattle.sheep_world.specs.Enabled.{is_enabled, guest_events, message_events, node_events, control_event, looked_at, enabled_events}
use Rattle.sheep_world.specs.EnabledPlaces.{place_behind, place_behind_enabled, messages_of_sender}
use Rattle.sheep_world.proofs.EnabledParts.{joined-map, messages-joined}

-- goes on with the place that is left, unless an event was found
abbrev pub gone_on : ControlFlow Event ℕ → (ℕ → ControlFlow Event ℕ) → ControlFlow Event ℕ
gone_on (Continue left) later = later left
gone_on (Break event) later = Break event

place_behind-append : (xs ys : List Event) (place : ℕ) → place_behind (xs ++ ys) place ≡ gone_on (place_behind xs place) (place_behind ys)
place_behind-append [] ys place = refl
place_behind-append (x ∷ xs) ys zero = refl
place_behind-append (x ∷ xs) ys (suc place) = place_behind-append xs ys place

-- the place that is left, and the events before it, are the place
pub place_behind-left : (xs : List Event) (place left : ℕ) → place_behind xs place ≡ Continue left → left + length xs ≡ place
place_behind-left [] place left is =
    let same : place ≡ left = same_Some place left (ap continue_value is) in omega (arith, same)
place_behind-left (x ∷ xs) zero left is = absurd (cc (is))
place_behind-left (x ∷ xs) (suc place) left is =
    let later : left + length xs ≡ place = place_behind-left xs place left is in omega (arith, later)

-- where an event is found there are more events than the place
pub place_behind-within : (xs : List Event) (place : ℕ) (event : Event) → place_behind xs place ≡ Break event → place < length xs
place_behind-within [] place event is = absurd (cc (is))
place_behind-within (x ∷ xs) zero event is = omega arith
place_behind-within (x ∷ xs) (suc place) event is =
    let later : place < length xs = place_behind-within xs place event is in omega (arith, later)

-- what is found is the event at the place
pub place_behind-slice_get : (xs : List Event) (place : ℕ) → break_value (place_behind xs place) ≡ slice_get xs place
place_behind-slice_get [] place = refl
place_behind-slice_get (x ∷ xs) zero = refl
place_behind-slice_get (x ∷ xs) (suc place) = place_behind-slice_get xs place

module _ (statements : List Statement) (world : World) (event : Event) (place : ℕ) where
  -- an event that may not happen has no place
  pub one-off : is_enabled statements world event ≡ false → Continue place ≡ place_behind_enabled statements world (event ∷ []) place
  one-off off = ap (λ (b : Bool). place_behind (cond b (event ∷ []) []) place) (sym off)

  -- one that may happen is at the first place
  pub one-first : is_enabled statements world event ≡ true → place ≡ 0
      → Break event ≡ place_behind_enabled statements world (event ∷ []) place
  one-first on first =
      ap (λ (k : ℕ). place_behind (event ∷ []) k) (sym first) ∙ ap (λ (b : Bool). place_behind (cond b (event ∷ []) []) place) (sym on)

  -- and behind it there is one place less
  pub one-less : is_enabled statements world event ≡ true → (place ≡ 0 → ⊥)
      → Continue (place - 1) ≡ place_behind_enabled statements world (event ∷ []) place
  one-less on other = less place other ∙ ap (λ (b : Bool). place_behind (cond b (event ∷ []) []) place) (sym on)
    where
      less : (k : ℕ) → (k ≡ 0 → ⊥) → Continue (k - 1) ≡ place_behind (event ∷ []) k
      less zero other = absurd (other refl)
      less (suc k) other = let same : suc k - 1 ≡ k = omega arith in ap (λ (left : ℕ). Continue left) same

module _ (statements : List Statement) (world : World) where
  -- behind some events those behind them
  pub behind-append : (xs ys : List Event) (place : ℕ) → place_behind_enabled statements world (xs ++ ys) place
      ≡ gone_on (place_behind_enabled statements world xs place) (place_behind_enabled statements world ys)
  behind-append xs ys place =
      ap (λ (events : List Event). place_behind events place) (filter-append (is_enabled statements world) xs ys)
      ∙ place_behind-append (filter (is_enabled statements world) xs) (filter (is_enabled statements world) ys) place

  -- on behind the first, where none was found there
  pub behind-on : (xs ys : List Event) (place left : ℕ) → Continue left ≡ place_behind_enabled statements world xs place
      → place_behind_enabled statements world ys left ≡ place_behind_enabled statements world (xs ++ ys) place
  behind-on xs ys place left is =
      ap (λ (flow : ControlFlow Event ℕ). gone_on flow (place_behind_enabled statements world ys)) is ∙ sym (behind-append xs ys place)

  -- and where one was found it is the one
  pub behind-found : (xs ys : List Event) (place : ℕ) (event : Event) → Break event ≡ place_behind_enabled statements world xs place
      → Break event ≡ place_behind_enabled statements world (xs ++ ys) place
  behind-found xs ys place event is =
      ap (λ (flow : ControlFlow Event ℕ). gone_on flow (place_behind_enabled statements world ys)) is ∙ sym (behind-append xs ys place)

module _ {X : Type 0} (f : X → List Event) where
  -- the events of what is left at a place are those of what stands there, and of the rest
  events-first : (xs : List X) (i : ℕ) → flat_map f (drop i xs) ≡ option_map_or f (slice_get xs i) [] ++ flat_map f (drop (suc i) xs)
  events-first [] zero = refl
  events-first [] (suc i) = refl
  events-first (x ∷ xs) zero = refl
  events-first (x ∷ xs) (suc i) = events-first xs i

  pub events-at : (xs : List X) (i : ℕ) → flat_map f (drop i xs) ≡ option_map_or f (slice_get xs i) [] ++ flat_map f (drop (i + 1) xs)
  events-at xs i =
      let next : suc i ≡ i + 1 = omega arith in
      events-first xs i ∙ ap (λ (n : ℕ). option_map_or f (slice_get xs i) [] ++ flat_map f (drop n xs)) next

  pub events-end : (xs : List X) (i : ℕ) → length xs ≤ i → flat_map f (drop i xs) ≡ []
  events-end [] zero past = refl
  events-end [] (suc i) past = refl
  events-end (x ∷ xs) zero past = absurd (omega (arith, past))
  events-end (x ∷ xs) (suc i) past = events-end xs i (omega (arith, past))

module _ (statements : List Statement) (world : World) where
  abbrev pub messages : List Event
  messages = flat_map message_events (tree.entries world.wire)

  abbrev pub nodes : List Event
  nodes = flat_map node_events (tree.keys world.hosts)

  abbrev pub last : List Event
  last = option_map_or control_event (next_control world) []

  abbrev pub behind_messages : List Event
  behind_messages = nodes ++ last

  abbrev pub behind_guests : List Event
  behind_guests = messages ++ behind_messages

  pub looked_at-parts : looked_at statements world ≡ guest_events statements ++ behind_guests
  looked_at-parts =
      append_assoc (guest_events statements ++ messages) nodes last
      ∙ append_assoc (guest_events statements) messages (nodes ++ last)

  -- the whole list is gone over part by part
  pub all-behind : (place : ℕ) → place_behind_enabled statements world (guest_events statements ++ behind_guests) place
      ≡ place_behind (enabled_events statements world) place
  unfolding enabled_events
  all-behind place = ap (λ (events : List Event). place_behind_enabled statements world events place) (sym looked_at-parts)

  -- a sender's messages, in the two ways in which they are looked up
  pub sender-messages : (sender : ℕ) → flat_map message_events (messages_of_sender sender world)
      ≡ option_map_or (flat_map message_events) (slice_get (messages_by_sender (tree.entries world.wire)) sender) []
  sender-messages sender = go (slice_get (messages_by_sender (tree.entries world.wire)) sender)
    where
      go : (own : Option (List (MessageName × Packet)))
          → flat_map message_events (unwrap_or own []) ≡ option_map_or (flat_map message_events) own []
      go None = refl
      go (Some _) = refl

  pub message-in : (sender message : ℕ)
      → option_and_then (λ (own : List (MessageName × Packet)). slice_get own message)
      (slice_get (messages_by_sender (tree.entries world.wire)) sender)
      ≡ slice_get (messages_of_sender sender world) message
  message-in sender message = go (slice_get (messages_by_sender (tree.entries world.wire)) sender)
    where
      go : (own : Option (List (MessageName × Packet)))
          → option_and_then (λ (own : List (MessageName × Packet)). slice_get own message) own ≡ slice_get (unwrap_or own []) message
      go None = refl
      go (Some _) = refl

  -- the messages of all senders are all messages
  pub all-messages : flat_map (flat_map message_events) (messages_by_sender (tree.entries world.wire))
      ≡ flat_map message_events (tree.entries world.wire)
  all-messages =
      sym (joined-map (flat_map message_events) (messages_by_sender (tree.entries world.wire))) ∙ messages-joined statements world

-- the events of a slice that are left at a place
pub left-first : (events : List Event) (i : ℕ) (d : Event) → i < length events → drop i events ≡ get_or events i d ∷ drop (i + 1) events
left-first events i d within =
    let next : suc i ≡ i + 1 = omega arith in
    drop-cons events i d within ∙ ap (λ (n : ℕ). get_or events i d ∷ drop n events) next

pub left-none : (events : List Event) (i : ℕ) → length events ≤ i → drop i events ≡ []
left-none [] zero past = refl
left-none [] (suc i) past = refl
left-none (x ∷ xs) zero past = absurd (omega (arith, past))
left-none (x ∷ xs) (suc i) past = left-none xs i (omega (arith, past))

-- ---- a node that may do nothing has no place

off : (test : Event → Bool) (event : Event) (rest : List Event) → test event ≡ false → filter test (event ∷ rest) ≡ filter test rest
off test event rest never = ap (λ (b : Bool). cond b (event ∷ filter test rest) (filter test rest)) never

module _ (statements : List Statement) (world : World) (node : ℕ) where
  abbrev number : NodeId
  number = record { 0 = node }

  none-may : ((((may_log_next node world || may_put node world) || may_recover node world) || may_retry node world) || is_lost node world) ≡ false
      → filter (is_enabled statements world) (node_events node) ≡ []
  unfolding is_enabled
  none-may none =
      let lost = or_parts (((may_log_next node world || may_put node world) || may_recover node world) || may_retry node world)
      (is_lost node world) none in
      let retry = or_parts ((may_log_next node world || may_put node world) || may_recover node world) (may_retry node world) lost.0 in
      let recover = or_parts (may_log_next node world || may_put node world) (may_recover node world) retry.0 in
      let log = or_parts (may_log_next node world) (may_put node world) recover.0 in
      off (is_enabled statements world) (events.LogNext number)
      (events.Put number ∷ events.RecoverTick number ∷ events.RetryTick number ∷ events.Leave number ∷ []) log.0
      ∙ off (is_enabled statements world) (events.Put number)
      (events.RecoverTick number ∷ events.RetryTick number ∷ events.Leave number ∷ []) log.1
      ∙ off (is_enabled statements world) (events.RecoverTick number) (events.RetryTick number ∷ events.Leave number ∷ []) recover.1
      ∙ off (is_enabled statements world) (events.RetryTick number) (events.Leave number ∷ []) retry.1
      ∙ off (is_enabled statements world) (events.Leave number) [] (ap (λ (b : Bool). b && is_newest_member node world) lost.1)

  pub idle-passed : (place : ℕ)
      → ((((may_log_next node world || may_put node world) || may_recover node world) || may_retry node world) || is_lost node world) ≡ false
      → Continue place ≡ place_behind_enabled statements world (node_events node) place
  idle-passed place none = ap (λ (found : List Event). place_behind found place) (sym (none-may none))
