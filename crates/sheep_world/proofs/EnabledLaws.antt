-- An event is made exactly where it may happen, and the enabled list has each such event but Phase.
use Rattle.std.proofs.Common.{◌≡◌, ◌≢◌, ℕ, Bool, true, false, not, ◌&&◌, cond, nat_lt, List, [], ◌∷◌, ◌++◌, length, map, flat_map, Contains, All, Option, Some, None, is_some, refl, sym, ap, subst, ◌∙◌}
use Rattle.std.specs.Option.{option_map_or}
use Rattle.std.specs.FinMap as tree
use native.Mathlib.Omega.{arith}
use Rattle.std.proofs.lemmas.Bool.{eqb-true, and_parts}
use Rattle.std.proofs.lemmas.List.Elements.{All-nil, All-cons, All-append, All-filter, All-contains, Contains-append_left, Contains-append_right, filter_passes}
use Rattle.proof_tools.proofs.Booleans.{has_value}
use Rattle.proof_tools.proofs.Lists.{Contains-first, Contains-cons, Contains-filter, find-contains, Contains-map, Contains-flat_map}
use Rattle.proof_tools.proofs.FiniteMaps.{entries-contain, keys-contain}
use Rattle.object_id.specs.declared.node.NodeId.{NodeId}
use Rattle.cluster_script.specs.declared.statement.Statement.{Statement}
use Rattle.cluster_script.specs.declared.statement.Statement.TheVariants as lines
use Rattle.cluster_script.specs.Sessions.{ScriptSession, has_session_number, session_numbered, sessions_of, brings_back}
use Rattle.sheep_node.specs.State.{Node}
use Rattle.sheep_node.specs.May as nodes
use Rattle.sheep_node.specs.declared.event.Event.{Event}
use Rattle.sheep_node.specs.declared.event.Event.TheVariants as events
use Rattle.message_wire.specs.declared.name.MessageName.{MessageName}
use Rattle.message_wire.specs.declared.packet.Packet.{Packet}
use Rattle.message_wire.specs.declared.packet.Packet.TheVariants.{Request, Reply}
use Rattle.message_wire.specs.Message.{receiver_of}
use Rattle.sheep_world.specs.World.{Host, World, host_at, is_host_up, is_up_with, is_lost, is_newest_member, message_at, is_up, next_control}
use Rattle.sheep_world.specs.Conditions.{may_ask, may_guest, may_deliver, may_go, is_request_packet, may_lose_request, may_lose_reply, fails, joins, reweights, is_next_control, has_end_in_wire}
use Rattle.sheep_world.specs.Step.{EventOutcome, step}
use Rattle.sheep_world.specs.Enabled.{is_enabled, guest_events, loss_of, message_events, node_events, control_event, looked_at, enabled_events}
use Rattle.message_wire.proofs.NameOrder.{same_name}

made_if : (b : Bool) (made : EventOutcome) → is_some (cond b (Some made) None) ≡ b
made_if true made = refl
made_if false made = refl

-- an event makes something exactly where it may happen
pub is_some-step : (statements : List Statement) (world : World) (event : Event) → is_some (step statements event world) ≡ is_enabled statements world event
unfolding step is_enabled
is_some-step statements world (events.Guest session) = made_if _ _
is_some-step statements world (events.Deliver node number) = made_if _ _
is_some-step statements world (events.LoseRequest node number) = made_if _ _
is_some-step statements world (events.LoseReply node number) = made_if _ _
is_some-step statements world (events.LogNext node) = made_if _ _
is_some-step statements world (events.Put node) = made_if _ _
is_some-step statements world (events.RecoverTick node) = made_if _ _
is_some-step statements world (events.RetryTick node) = made_if _ _
is_some-step statements world (events.Lost node) = made_if _ _
is_some-step statements world (events.Leave node) = made_if _ _
is_some-step statements world (events.Join node) = made_if _ _
is_some-step statements world (events.Reweight node) = made_if _ _
is_some-step statements world (events.Back node) = made_if _ _
is_some-step statements world events.Phase = made_if _ _

-- what is looked up, where it passes a test
pub looked_up : {X : Type 0} (test : X → Bool) (o : Option X) → option_map_or test o false ≡ true → (x : X) × (o ≡ Some x) × (test x ≡ true)
looked_up test None is = absurd (cc (is))
looked_up test (Some x) is = (x, refl, is)

-- the four parts of the events that are looked at
abbrev of_messages : World → List Event
of_messages world = flat_map message_events (tree.entries world.wire)

abbrev of_nodes : World → List Event
of_nodes world = flat_map node_events (tree.keys world.hosts)

abbrev of_control : World → List Event
of_control world = option_map_or control_event (next_control world) []

module _ (statements : List Statement) (world : World) where
  in_guests : (event : Event) → Contains (guest_events statements) event → Contains (looked_at statements world) event
  in_guests event h =
      Contains-append_left (guest_events statements ++ of_messages world ++ of_nodes world) (of_control world) event
      (Contains-append_left (guest_events statements ++ of_messages world) (of_nodes world) event
      (Contains-append_left (guest_events statements) (of_messages world) event h))

  in_messages : (event : Event) → Contains (of_messages world) event → Contains (looked_at statements world) event
  in_messages event h =
      Contains-append_left (guest_events statements ++ of_messages world ++ of_nodes world) (of_control world) event
      (Contains-append_left (guest_events statements ++ of_messages world) (of_nodes world) event
      (Contains-append_right (guest_events statements) (of_messages world) event h))

  in_nodes : (event : Event) → Contains (of_nodes world) event → Contains (looked_at statements world) event
  in_nodes event h =
      Contains-append_left (guest_events statements ++ of_messages world ++ of_nodes world) (of_control world) event
      (Contains-append_right (guest_events statements ++ of_messages world) (of_nodes world) event h)

  in_control : (event : Event) → Contains (of_control world) event → Contains (looked_at statements world) event
  in_control event h =
      Contains-append_right (guest_events statements ++ of_messages world ++ of_nodes world) (of_control world) event h

  guest_there : (number : ℕ) → may_guest statements number world ≡ true → Contains (guest_events statements) (events.Guest number)
  guest_there number may =
      let (session, found, asks) = looked_up (λ session. may_ask statements session world) (session_numbered statements number) may in
      let same : session.number ≡ number
      = eqb-true session.number number (find-contains (has_session_number number) (sessions_of statements) session found).1 in
      subst (λ (k : ℕ). Contains (guest_events statements) (events.Guest k)) same
      (Contains-map (λ (session : ScriptSession). events.Guest session.number) (sessions_of statements) session
      (find-contains (has_session_number number) (sessions_of statements) session found).0)

  -- an event of a message in the wire
  message_there : (name : MessageName) (packet : Packet) (event : Event) → message_at name world ≡ Some packet
      → Contains (message_events (name, packet)) event → Contains (of_messages world) event
  message_there name packet event is h =
      Contains-flat_map message_events (tree.entries world.wire) (name, packet) event (entries-contain same_name world.wire name packet is) h

  deliver_there : (name : MessageName) → may_deliver name world ≡ true → Contains (of_messages world) (events.Deliver name.sender name.number)
  deliver_there name may =
      let (packet, is, up) = looked_up (λ packet. is_up (receiver_of name packet).0 world) (message_at name world) may in
      message_there name packet (events.Deliver name.sender name.number) is
      (Contains-first (events.Deliver name.sender name.number) (events.Deliver name.sender name.number) (loss_of name packet ∷ []) refl)

  request_loss : (name : MessageName) (packet : Packet) → is_request_packet packet ≡ true
      → Contains (message_events (name, packet)) (events.LoseRequest name.sender name.number)
  request_loss name (Request to bytes) is =
      let loss = events.LoseRequest name.sender name.number in
      Contains-cons (events.Deliver name.sender name.number) (loss ∷ []) loss (Contains-first loss loss [] refl)
  request_loss name (Reply from bytes) is = absurd (cc (is))

  reply_loss : (name : MessageName) (packet : Packet) → not (is_request_packet packet) ≡ true
      → Contains (message_events (name, packet)) (events.LoseReply name.sender name.number)
  reply_loss name (Request to bytes) is = absurd (cc (is))
  reply_loss name (Reply from bytes) is =
      let loss = events.LoseReply name.sender name.number in
      Contains-cons (events.Deliver name.sender name.number) (loss ∷ []) loss (Contains-first loss loss [] refl)

  lose_request_there : (name : MessageName) → may_lose_request name world ≡ true
      → Contains (of_messages world) (events.LoseRequest name.sender name.number)
  lose_request_there name may =
      let (packet, is, passes) = looked_up (λ packet. is_request_packet packet && may_go name packet world) (message_at name world) may in
      message_there name packet (events.LoseRequest name.sender name.number) is
      (request_loss name packet (and_parts (is_request_packet packet) (may_go name packet world) passes).0)

  lose_reply_there : (name : MessageName) → may_lose_reply name world ≡ true
      → Contains (of_messages world) (events.LoseReply name.sender name.number)
  lose_reply_there name may =
      let (packet, is, passes) = looked_up (λ packet. not (is_request_packet packet) && may_go name packet world) (message_at name world) may in
      message_there name packet (events.LoseReply name.sender name.number) is
      (reply_loss name packet (and_parts (not (is_request_packet packet)) (may_go name packet world) passes).0)

  -- an event of a node that has a host
  node_there : (node : ℕ) (host : Host) (event : Event) → host_at node world ≡ Some host → Contains (node_events node) event
      → Contains (of_nodes world) event
  node_there node host event is h =
      Contains-flat_map node_events (tree.keys world.hosts) node event (keys-contain tree.nat_cmp-IsAntisymmetric world.hosts node host is) h

  up_there : (passes : Node → Bool) (node : ℕ) (event : Event) → is_up_with passes node world ≡ true → Contains (node_events node) event
      → Contains (of_nodes world) event
  up_there passes node event may h =
      let (host, is, up) = looked_up (λ (host : Host). is_host_up host && passes host.node) (host_at node world) may in
      node_there node host event is h

  lost_there : (node : ℕ) (event : Event) → is_lost node world ≡ true → Contains (node_events node) event → Contains (of_nodes world) event
  lost_there node event may h =
      let (host, is, lost) = looked_up (λ (host : Host). host.is_lost) (host_at node world) may in
      node_there node host event is h

  -- the event of the next control, where that is of a kind
  control_there : (kind : Statement → Bool) (event : Event) → is_next_control kind world ≡ true
      → ((s : Statement) → kind s ≡ true → Contains (control_event s) event) → Contains (of_control world) event
  control_there kind event may makes =
      let (s, is, passes) = looked_up kind (next_control world) may in
      subst (λ (o : Option Statement). Contains (option_map_or control_event o []) event) (sym is) (makes s passes)

fail_makes : (node : NodeId) (s : Statement) → fails node.0 s ≡ true → Contains (control_event s) (events.Lost node)
fail_makes node (lines.Fail number) is =
    Contains-first (events.Lost (record { 0 = number })) (events.Lost node) [] (ap (λ k. events.Lost (record { 0 = k })) (eqb-true number node.0 is))
fail_makes node s is = absurd (cc (is))

join_makes : (node : NodeId) (s : Statement) → joins node.0 s ≡ true → Contains (control_event s) (events.Join node)
join_makes node (lines.Join number) is =
    Contains-first (events.Join (record { 0 = number })) (events.Join node) [] (ap (λ k. events.Join (record { 0 = k })) (eqb-true number node.0 is))
join_makes node s is = absurd (cc (is))

reweight_makes : (node : NodeId) (s : Statement) → reweights node.0 s ≡ true → Contains (control_event s) (events.Reweight node)
reweight_makes node (lines.Reweight number vnodes) is =
    Contains-first (events.Reweight (record { 0 = number })) (events.Reweight node) [] (ap (λ k. events.Reweight (record { 0 = k })) (eqb-true number node.0 is))
reweight_makes node s is = absurd (cc (is))

back_makes : (node : NodeId) (s : Statement) → brings_back node.0 s ≡ true → Contains (control_event s) (events.Back node)
back_makes node (lines.Back number) is =
    Contains-first (events.Back (record { 0 = number })) (events.Back node) [] (ap (λ k. events.Back (record { 0 = k })) (eqb-true number node.0 is))
back_makes node s is = absurd (cc (is))

-- the five events of a node, in their places
first_event : (node : NodeId) → Contains (node_events node.0) (events.LogNext node)
first_event node = (0, omega arith, refl)

second_event : (node : NodeId) → Contains (node_events node.0) (events.Put node)
second_event node = (1, omega arith, refl)

third_event : (node : NodeId) → Contains (node_events node.0) (events.RecoverTick node)
third_event node = (2, omega arith, refl)

fourth_event : (node : NodeId) → Contains (node_events node.0) (events.RetryTick node)
fourth_event node = (3, omega arith, refl)

fifth_event : (node : NodeId) → Contains (node_events node.0) (events.Leave node)
fifth_event node = (4, omega arith, refl)

-- what may happen, but Phase, is looked at
there : (statements : List Statement) (world : World) (event : Event) → is_enabled statements world event ≡ true
    → event ≢ events.Phase → Contains (looked_at statements world) event
unfolding is_enabled
there statements world (events.Guest session) may other = in_guests statements world (events.Guest session) (guest_there statements world session may)
there statements world (events.Deliver node number) may other =
    in_messages statements world (events.Deliver node number) (deliver_there statements world (record { sender = node; number = number }) may)
there statements world (events.LoseRequest node number) may other =
    in_messages statements world (events.LoseRequest node number) (lose_request_there statements world (record { sender = node; number = number }) may)
there statements world (events.LoseReply node number) may other =
    in_messages statements world (events.LoseReply node number) (lose_reply_there statements world (record { sender = node; number = number }) may)
there statements world (events.LogNext node) may other =
    in_nodes statements world (events.LogNext node)
    (up_there statements world (λ (n : Node). nat_lt (length n.peer.entries) (length world.log)) node.0 (events.LogNext node) may (first_event node))
there statements world (events.Put node) may other =
    in_nodes statements world (events.Put node) (up_there statements world nodes.has_entry_to_put node.0 (events.Put node) may (second_event node))
there statements world (events.RecoverTick node) may other =
    in_nodes statements world (events.RecoverTick node) (up_there statements world nodes.may_tick node.0 (events.RecoverTick node) may (third_event node))
there statements world (events.RetryTick node) may other =
    in_nodes statements world (events.RetryTick node) (up_there statements world nodes.has_work_to_retry node.0 (events.RetryTick node) may (fourth_event node))
there statements world (events.Lost node) may other =
    in_control statements world (events.Lost node)
    (control_there statements world (fails node.0) (events.Lost node)
    (and_parts (is_next_control (fails node.0) world) (is_up node.0 world) may).0 (fail_makes node))
there statements world (events.Leave node) may other =
    in_nodes statements world (events.Leave node)
    (lost_there statements world node.0 (events.Leave node) (and_parts (is_lost node.0 world) (is_newest_member node.0 world) may).0 (fifth_event node))
there statements world (events.Join node) may other =
    in_control statements world (events.Join node) (control_there statements world (joins node.0) (events.Join node) may (join_makes node))
there statements world (events.Reweight node) may other =
    in_control statements world (events.Reweight node) (control_there statements world (reweights node.0) (events.Reweight node) may (reweight_makes node))
there statements world (events.Back node) may other =
    let next = is_next_control (brings_back node.0) world in
    let lost = is_lost node.0 world in
    let left = not (is_newest_member node.0 world) in
    let parts = and_parts (next && lost && left) (not (has_end_in_wire node.0 world)) may in
    in_control statements world (events.Back node)
    (control_there statements world (brings_back node.0) (events.Back node)
    (and_parts next lost (and_parts (next && lost) left parts.0).0).0 (back_makes node))
there statements world events.Phase may other = absurd (other refl)

-- the enabled list has each event but Phase that makes something
pub enabled_events-has : (statements : List Statement) (world : World) (event : Event) (made : EventOutcome) → step statements event world ≡ Some made
    → event ≢ events.Phase → Contains (enabled_events statements world) event
unfolding enabled_events
enabled_events-has statements world event made is other =
    let may : is_enabled statements world event ≡ true = sym (is_some-step statements world event) ∙ ap is_some is in
    Contains-filter (is_enabled statements world) (looked_at statements world) event (there statements world event may other) may

-- and what it has makes something
pub enabled_events-makes : (statements : List Statement) (world : World) (event : Event) → Contains (enabled_events statements world) event
    → (made : EventOutcome) × (step statements event world ≡ Some made)
unfolding enabled_events
enabled_events-makes statements world event h =
    let may : is_enabled statements world event ≡ true
    = All-contains (λ (event : Event). is_enabled statements world event ≡ true) (enabled_events statements world) event
    (filter_passes (is_enabled statements world) (looked_at statements world)) h in
    has_value (step statements event world) (is_some-step statements world event ∙ may)

-- Phase isn't looked at
is_phase : Event → Bool
is_phase events.Phase = true
is_phase _ = false

abbrev IsOther : Event → Type 0
IsOther event = is_phase event ≡ false

all_flat : {X : Type 0} (f : X → List Event) → ((x : X) → All IsOther (f x)) → (xs : List X) → All IsOther (flat_map f xs)
all_flat f each [] = All-nil IsOther
all_flat f each (x ∷ xs) = All-append IsOther (f x) (flat_map f xs) (each x) (all_flat f each xs)

one_other : (event : Event) → IsOther event → All IsOther (event ∷ [])
one_other event is = All-cons IsOther event [] is (All-nil IsOther)

guests_other : (sessions : List ScriptSession) → All IsOther (map (λ (session : ScriptSession). events.Guest session.number) sessions)
unfolding is_phase
guests_other [] = All-nil IsOther
guests_other (session ∷ sessions) =
    All-cons IsOther (events.Guest session.number) (map (λ (session : ScriptSession). events.Guest session.number) sessions) refl (guests_other sessions)

loss_other : (name : MessageName) (packet : Packet) → IsOther (loss_of name packet)
unfolding is_phase
loss_other name (Request to bytes) = refl
loss_other name (Reply from bytes) = refl

message_other : (found : MessageName × Packet) → All IsOther (message_events found)
unfolding is_phase
message_other found =
    All-cons IsOther (events.Deliver found.0.sender found.0.number) (loss_of found.0 found.1 ∷ []) refl
    (one_other (loss_of found.0 found.1) (loss_other found.0 found.1))

node_other : (node : ℕ) → All IsOther (node_events node)
unfolding is_phase
node_other node =
    let n : NodeId = record { 0 = node } in
    All-cons IsOther (events.LogNext n) (events.Put n ∷ events.RecoverTick n ∷ events.RetryTick n ∷ events.Leave n ∷ []) refl
    (All-cons IsOther (events.Put n) (events.RecoverTick n ∷ events.RetryTick n ∷ events.Leave n ∷ []) refl
    (All-cons IsOther (events.RecoverTick n) (events.RetryTick n ∷ events.Leave n ∷ []) refl
    (All-cons IsOther (events.RetryTick n) (events.Leave n ∷ []) refl (one_other (events.Leave n) refl))))

control_other : (s : Statement) → All IsOther (control_event s)
unfolding is_phase
control_other (lines.Fail node) = one_other (events.Lost (record { 0 = node })) refl
control_other (lines.Join node) = one_other (events.Join (record { 0 = node })) refl
control_other (lines.Reweight node vnodes) = one_other (events.Reweight (record { 0 = node })) refl
control_other (lines.Back node) = one_other (events.Back (record { 0 = node })) refl
control_other s = All-nil IsOther

next_other : (o : Option Statement) → All IsOther (option_map_or control_event o [])
next_other None = All-nil IsOther
next_other (Some s) = control_other s

looked_at_other : (statements : List Statement) (world : World) → All IsOther (looked_at statements world)
looked_at_other statements world =
    All-append IsOther (guest_events statements ++ of_messages world ++ of_nodes world) (of_control world)
    (All-append IsOther (guest_events statements ++ of_messages world) (of_nodes world)
    (All-append IsOther (guest_events statements) (of_messages world) (guests_other (sessions_of statements))
    (all_flat message_events message_other (tree.entries world.wire)))
    (all_flat node_events node_other (tree.keys world.hosts)))
    (next_other (next_control world))

phase_clash : (event : Event) → IsOther event → event ≢ events.Phase
unfolding is_phase
phase_clash event other same = absurd (cc (sym (ap is_phase same) ∙ other))

pub enabled_events-no_phase : (statements : List Statement) (world : World) (event : Event) → Contains (enabled_events statements world) event
    → event ≢ events.Phase
unfolding enabled_events
enabled_events-no_phase statements world event h = phase_clash event
    (All-contains IsOther (enabled_events statements world) event
    (All-filter (is_enabled statements world) IsOther (looked_at statements world) (looked_at_other statements world)) h)
