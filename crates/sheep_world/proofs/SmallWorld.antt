-- The enabled list of a small world, worked out.
use Rattle.std.proofs.Common.{◌≡◌, ℕ, nat_lt, Bool, true, false, ◌&&◌, cond, List, [], ◌∷◌, ◌++◌, length, map, flat_map, filter, find, slice_get, Option, Some, is_some, unwrap_or, refl, sym, ap, ◌∙◌}
use Rattle.std.specs.Ordering.{nat_cmp}
use Rattle.std.specs.Option.{option_map_or}
use Rattle.std.specs.Cmp.{nat_cmp_total}
use Rattle.std.specs.FinMap as tree
use Rattle.object_id.specs.declared.node.NodeId.{NodeId}
use Rattle.cluster_script.specs.Settings.{tries_of}
use Rattle.cluster_script.specs.NumberedRequests.{numbers_of_session}
use Rattle.cluster_script.specs.Sessions.{ScriptSession}
use Rattle.peer_service.specs.LogReading.{without_objects, read_entry, decision_on}
use Rattle.gateway.specs.State as gateways
use Rattle.gateway.specs.State.{Work}
use Rattle.sheep_node.specs.declared.event.Event.{Event}
use Rattle.sheep_node.specs.declared.event.Event.TheVariants as events
use Rattle.sheep_node.specs.State as nodes
use Rattle.sheep_node.specs.declared.course.Request.{Request}
use Rattle.sheep_node.specs.State.{Node}
use Rattle.sheep_node.specs.May as may
use Rattle.sheep_node.specs.StepState.{at_first, with_node}
use Rattle.sheep_node.specs.LogReading.{is_epoch_member, decision_told, entry_read, on_log_entry}
use Rattle.sheep_node.specs.Step.{on_input, recovered_put, node_step}
use Rattle.message_wire.specs.declared.packet.Packet.{Packet}
use Rattle.message_wire.specs.Message.{name_cmp}
use Rattle.sheep_world.specs.declared.progress.SessionProgress.{SessionProgress}
use Rattle.sheep_world.specs.World.{Host, World, host_at, is_host_up, no_progress, progress_at}
use Rattle.sheep_world.specs.Opening as worlds
use Rattle.sheep_world.specs.Opening.{format_entry, initial_member_node, initial_host, before_phases, with_phase}
use Rattle.sheep_world.specs.Conditions.{serves, may_begin_request}
use Rattle.sheep_world.specs.Enabled.{is_enabled, message_events, node_events, looked_at, enabled_events}
use Rattle.sheep_world.specs.Example.{member, small_script}
use Rattle.std.proofs.lemmas.List.{nil_from_length}
use Rattle.sheep_world.proofs.WireAtOpening.{nobody_asks}

-- the first node once it has read the log's first entry
abbrev new_node : Node
new_node = nodes.initial_node (record { 0 = 0 }) (tries_of small_script)

read_node : Node
read_node = (recovered_put (with_node (entry_read (format_entry small_script) new_node) (at_first new_node))).node

opened : initial_member_node small_script (member 0) ≡ read_node
unfolding node_step on_input on_log_entry read_node
opened = ap
    (λ (o : Option (ℕ × Request)).
    (recovered_put (decision_told (decision_on (format_entry small_script) new_node.peer) o (with_node (entry_read (format_entry small_script) new_node) (at_first new_node)))).node)
    (nobody_asks (format_entry small_script) (record { 0 = 0 }) (tries_of small_script))

-- it is up and a member, and has nothing to put or to tick
up : is_host_up (initial_host read_node) ≡ true
unfolding read_node recovered_put entry_read read_entry without_objects
up = refl

member_of : is_epoch_member read_node ≡ true
unfolding read_node recovered_put entry_read read_entry without_objects
member_of = refl

no_put : may.has_entry_to_put read_node ≡ false
unfolding read_node recovered_put entry_read read_entry without_objects
no_put = refl

no_tick : may.may_tick read_node ≡ false
unfolding read_node recovered_put entry_read read_entry without_objects
no_tick = refl

has_read : length read_node.peer.entries ≡ 1
unfolding read_node recovered_put entry_read read_entry without_objects
has_read = refl

no_works : tree.entries {R = nat_cmp} (tree.empty {X = Work}) ≡ []
no_works = nil_from_length (tree.entries {R = nat_cmp} (tree.empty {X = Work})) (sym (tree.len-entries tree.empty) ∙ tree.len-empty nat_cmp Work)

no_retry : may.has_work_to_retry read_node ≡ false
unfolding read_node recovered_put entry_read read_entry without_objects
no_retry = ap (λ (works : List (ℕ × Work)). is_some (find (λ (entry : ℕ × Work). gateways.may_try (record { 0 = 1 }) entry.1.stage) works)) no_works

-- what the small world has in its hosts, its wire and its sessions
abbrev world : World
world = with_phase small_script 0 (before_phases small_script)

abbrev host : Host
host = initial_host (initial_member_node small_script (member 0))

seated : host_at 0 world ≡ Some (initial_host read_node)
seated =
    tree.get-insert nat_cmp_total tree.empty 0 host 0
    ∙ ap (λ (node : Node). Some (initial_host node)) opened

no_hosts : tree.entries {R = nat_cmp} (tree.empty {X = Host}) ≡ []
no_hosts = nil_from_length (tree.entries {R = nat_cmp} (tree.empty {X = Host})) (sym (tree.len-entries tree.empty) ∙ tree.len-empty nat_cmp Host)

one_key : tree.keys world.hosts ≡ 0 ∷ []
one_key =
    ap (map (λ (entry : ℕ × Host). entry.0)) (tree.entries-insert nat_cmp_total tree.empty 0 host)
    ∙ ap (λ (entries : List (ℕ × Host)). map (λ (entry : ℕ × Host). entry.0) (tree.put nat_cmp 0 host entries)) no_hosts

no_packets : tree.entries world.wire ≡ []
no_packets = nil_from_length (tree.entries world.wire) (sym (tree.len-entries tree.empty) ∙ tree.len-empty name_cmp Packet)

asked_nothing : progress_at 1 world ≡ no_progress
asked_nothing = ap (λ (o : Option SessionProgress). unwrap_or o no_progress) (tree.get-empty nat_cmp 1)

-- the events that are looked at
abbrev node_0 : NodeId
node_0 = record { 0 = 0 }

looked : looked_at small_script world ≡ events.Guest 1 ∷ events.LogNext node_0 ∷ events.Put node_0 ∷ events.RecoverTick node_0 ∷ events.RetryTick node_0 ∷ events.Leave node_0 ∷ []
looked = λ i. (events.Guest 1 ∷ []) ++ flat_map message_events (no_packets i) ++ flat_map node_events (one_key i) ++ []

-- which of them may happen
abbrev the_session : ScriptSession
the_session = record { number = 1; node = 0; incarnation = 1 }

guest_may : is_enabled small_script world (events.Guest 1) ≡ true
unfolding is_enabled
guest_may =
    (λ i. option_map_or (serves the_session) (seated i) false
    && option_map_or (may_begin_request small_script 0 (asked_nothing i)) (slice_get (numbers_of_session small_script 1) (asked_nothing i).begun) false)
    ∙ ap (λ b. b && true && is_epoch_member read_node && true) up ∙ ap (λ b. true && true && b && true) member_of

read_not : is_enabled small_script world (events.LogNext node_0) ≡ false
unfolding is_enabled
read_not =
    ap (λ (o : Option Host). option_map_or (λ (host : Host). is_host_up host && nat_lt (length host.node.peer.entries) 1) o false) seated
    ∙ (λ i. up i && nat_lt (has_read i) 1)

put_not : is_enabled small_script world (events.Put node_0) ≡ false
unfolding is_enabled
put_not =
    ap (λ (o : Option Host). option_map_or (λ (host : Host). is_host_up host && may.has_entry_to_put host.node) o false) seated
    ∙ (λ i. up i && no_put i)

tick_not : is_enabled small_script world (events.RecoverTick node_0) ≡ false
unfolding is_enabled
tick_not =
    ap (λ (o : Option Host). option_map_or (λ (host : Host). is_host_up host && may.may_tick host.node) o false) seated
    ∙ (λ i. up i && no_tick i)

retry_not : is_enabled small_script world (events.RetryTick node_0) ≡ false
unfolding is_enabled
retry_not =
    ap (λ (o : Option Host). option_map_or (λ (host : Host). is_host_up host && may.has_work_to_retry host.node) o false) seated
    ∙ (λ i. up i && no_retry i)

leave_not : is_enabled small_script world (events.Leave node_0) ≡ false
unfolding is_enabled
leave_not = ap (λ (o : Option Host). option_map_or (λ (host : Host). host.is_lost) o false && true) seated

-- the events behind the first, each where it passes
abbrev kept : Bool → Event → List Event → List Event
kept passes event later = cond passes (event ∷ later) later

-- its session's request may begin, and nothing else may happen
pub small_enabled : enabled_events small_script (worlds.initial_world small_script) ≡ events.Guest 1 ∷ []
unfolding enabled_events worlds.initial_world
small_enabled =
    let passes : Event → Bool = is_enabled small_script world in
    ap (filter passes) looked
    ∙ (λ i. kept (guest_may i) (events.Guest 1)
    (kept (read_not i) (events.LogNext node_0)
    (kept (put_not i) (events.Put node_0)
    (kept (tick_not i) (events.RecoverTick node_0)
    (kept (retry_not i) (events.RetryTick node_0)
    (kept (leave_not i) (events.Leave node_0) []))))))
