-- What each event makes is of one of the kinds.
use Rattle.std.proofs.Common.{◌≡◌, arith, zero, suc, ◌<◌, drop, option_to_list, ℕ, ◌==◌, true, false, not, ◌&&◌, nat_lt, List, [], ◌∷◌, ◌++◌, length, Option, Some, None, option_and_then, option_map, refl, sym, ap, ◌∙◌}
use Rattle.proof_tools.proofs.FiniteMaps.{get-insert_same, insert-insert}
use Rattle.std.specs.Ordering.{nat_cmp}
use Rattle.std.specs.Option.{option_map_or}
use Rattle.std.specs.FinMap as tree
use Rattle.std.specs.List.{slice_get}
use Rattle.std.proofs.lemmas.Bool.{eqb-true, ltb-true, and_parts}
use Rattle.std.proofs.lemmas.Option.{cond_some}
use Rattle.object_id.specs.declared.node.NodeId.{NodeId}
use Rattle.object_id.specs.declared.entry.Entry.{Entry}
use Rattle.object_id.specs.declared.entry.Entry.TheVariants as entries
use Rattle.proof_tools.proofs.Lists.{find-contains}
use Rattle.cluster_script.specs.declared.statement.Statement.{Statement}
use Rattle.cluster_script.specs.declared.statement.Statement.TheVariants as lines
use Rattle.cluster_script.specs.NumberedRequests.{session_of, request_at}
use Rattle.cluster_script.specs.Sessions.{ScriptSession, session_numbered, has_session_number, sessions_of, brings_back}
use Rattle.sheep_node.specs.declared.ask.Ask.{Ask}
use Rattle.sheep_node.specs.declared.event.Event.{Event}
use Rattle.sheep_node.specs.declared.event.Event.TheVariants as events
use Rattle.sheep_node.specs.declared.input.Input.{Input}
use Rattle.sheep_node.specs.declared.input.Input.TheVariants as inputs
use Rattle.sheep_node.specs.State.{Node}
use Rattle.sheep_node.specs.May as node_tests
use Rattle.sheep_node.specs.LogReading.{is_epoch_member}
use Rattle.sheep_node.specs.Step.{node_step}
use Rattle.message_wire.specs.declared.name.MessageName.{MessageName}
use Rattle.sheep_world.specs.World as worlds
use Rattle.sheep_world.specs.World.{Host, World, host_at, node_at, is_host_up, is_up, is_lost, progress_at, next_control}
use Rattle.sheep_world.specs.Conditions.{serves, has_gateway, next_request, may_begin_request, may_ask, may_guest, may_deliver, may_lose_request, may_lose_reply, may_log_next, may_put, may_recover, may_retry, fails, joins, reweights, is_next_control, may_lose_node, may_leave, may_join, may_reweight, has_end_in_wire, may_come_back, may_end_phase}
use Rattle.sheep_world.specs.Asking.{ask_of_statement, input_by, input_of}
use Rattle.sheep_world.specs.NodeSteps.{world_after_step, node_stepped, at_rest}
use Rattle.sheep_world.specs.Effects.{request_started, next_input, guest_effect, next_entry, log_next_effect, put_done, put_effect, recover_tick_effect, retry_tick_effect}
use Rattle.sheep_world.specs.Messages.{message_delivered, message_lost}
use Rattle.message_wire.specs.Message.{without_replies}
use Rattle.sheep_world.specs.MembershipChanges.{lost_host, control_taken, host_changed, node_lost, node_left, node_joined, weight_in, node_reweighted, revived_host, log_handed, came_back, phase_ended}
use Rattle.sheep_world.specs.Granted.{put_adds}
use Rattle.sheep_world.specs.HistoryAdditions.{request_grown, replies_grown, writers_lost}
use Rattle.sheep_world.specs.Step.{EventOutcome, step, only, with_replies, guest_made, put_made, loss_made, delivery_made}
use Rattle.sheep_world.proofs.EnabledLaws.{looked_up}
use Rattle.sheep_world.specs.NodeCauses as causes
use Rattle.sheep_world.specs.NodeCauses.{GuestAsks, EntryIsRead, EntryIsPut, RecoveryTicks, WorkIsRetried, world_after_cause}
use Rattle.sheep_world.specs.EventKinds.{log_after_return, world_after_return, EventKind, NodeStep, NodeLoss, NodeLeave, NodeReweight, NodeJoin, NodeReturn, PhaseEnd}
use Rattle.sheep_world.proofs.AskedStatements.{next_asks}
use Rattle.sheep_world.proofs.HostSteps.{none_so, up_there, steps_at, puts_first, Made_by}
use Rattle.sheep_world.proofs.MessageInversion.{happens_deliver, happens_lose_request, happens_lose_reply}

-- ---- Guest

module _ (statements : List Statement) (number : ℕ) (world : World) (session : ScriptSession)
    (found : session_numbered statements number ≡ Some session) (same : session.number ≡ number) where
  guest_world : (req : ℕ) (ask : Ask) (line : Statement) (host : Host) → host_at session.node world ≡ Some host
      → next_request statements session.number world ≡ Some req → request_at statements req ≡ Some line
      → session_of line ≡ Some session.number → ask_of_statement line ≡ Some ask
      → guest_effect statements number world ≡ world_after_cause statements session.node host (GuestAsks session req ask) world
  unfolding guest_effect
  guest_world req ask line host there next stands own asks =
      let input : Input = inputs.Guest req session.number ask in
      let asked : input_of statements req ≡ Some input
      = ap (λ (o : Option Statement). option_and_then (λ s. input_by req (session_of s) (ask_of_statement s)) o) stands
      ∙ (λ i. input_by req (own i) (asks i)) in
      let next_is : next_input statements number world ≡ Some input
      = ap (λ (k : ℕ). next_input statements k world) (sym same)
      ∙ ap (λ (o : Option ℕ). option_and_then (input_of statements) o) next ∙ asked in
      let begun : Option ScriptSession → World
      = λ o. option_map_or (λ (s : ScriptSession). request_started s (next_request statements s.number (at_rest world)) (at_rest world)) o (at_rest world) in
      (λ i. option_map_or
      (λ (s : ScriptSession). option_map_or (λ (input : Input). node_stepped statements s.node input (begun (found i))) (next_is i) (begun (found i)))
      (found i) (begun (found i)))
      ∙ ap (λ (o : Option ℕ). node_stepped statements session.node input (request_started session o (at_rest world))) next
      ∙ steps_at statements session.node input host (request_started session (Some req) (at_rest world)) there

  guest_grown : (req : ℕ) (after : World) → next_request statements session.number world ≡ Some req
      → (guest_made statements number world after).grown
      ≡ request_grown statements world session (Some req) ++ replies_grown statements (request_started session (Some req) world) None after
  guest_grown req after next =
      let next_is : next_request statements number world ≡ Some req = ap (λ (k : ℕ). next_request statements k world) (sym same) ∙ next in
      (λ i. option_map_or (λ (session : ScriptSession). request_grown statements world session (next_is i)) (found i) []
      ++ replies_grown statements
      (option_map_or (λ (s : ScriptSession). request_started s (next_request statements s.number world) world) (found i) world) None after)
      ∙ ap
      (λ (o : Option ℕ). request_grown statements world session (Some req) ++ replies_grown statements (request_started session o world) None after)
      next

happens_guest : (statements : List Statement) (world : World) (made : EventOutcome) (number : ℕ)
    → Made_by (may_guest statements number world) (guest_made statements number world (guest_effect statements number world)) made
    → EventKind statements (events.Guest number) world made
happens_guest statements world made number (may, is) =
    let (session, found, asks) = looked_up (λ session. may_ask statements session world) (session_numbered statements number) may in
    let same : session.number ≡ number = eqb-true session.number number ((find-contains (has_session_number number) (sessions_of statements) session found).1) in
    let parts = and_parts (has_gateway session world)
    (option_map_or (may_begin_request statements world.phase (progress_at session.number world)) (next_request statements session.number world) false) asks in
    let (host, there, serving) = looked_up (serves session) (host_at session.node world) parts.0 in
    let (req, next, begins) = looked_up (may_begin_request statements world.phase (progress_at session.number world)) (next_request statements session.number world) parts.1 in
    let incarnations = and_parts (is_host_up host && host.incarnation == session.incarnation) (is_epoch_member host.node) serving in
    let up = and_parts (is_host_up host) (host.incarnation == session.incarnation) incarnations.0 in
    let line = next_asks statements session.number (progress_at session.number world).begun req next in
    let after = guest_effect statements number world in
    let world_so : after ≡ world_after_cause statements session.node host (GuestAsks session req line.ask) world
    = guest_world statements number world session found same req line.ask line.line host there next line.stands line.own line.asks in
    NodeStep (record {
      n = session.node;
      host = host;
      cause = GuestAsks session req line.ask;
      there = there;
      up = up.0;
      caused = record {
        declared = ap (session_numbered statements) same ∙ found;
        gateway = refl;
        lived = sym (eqb-true host.incarnation session.incarnation up.1);
        member = incarnations.1;
        next = next;
        may = begins;
        line = line.line;
        stands = line.stands;
        own = line.own;
        asks = line.asks;
      };
      event_so = ap (λ (k : ℕ). events.Guest k) same;
      made_so = sym ((λ i. record { world = world_so i; grown = guest_grown statements number world session found same req (world_so i) next i })) ∙ is;
    })

-- ---- steps that no message brings

slice_there : {X : Type 0} (xs : List X) (k : ℕ) → k < length xs → (x : X) × (slice_get xs k ≡ Some x)
slice_there [] k within = absurd (omega (arith, within))
slice_there (x ∷ xs) zero within = (x, refl)
slice_there (x ∷ xs) (suc k) within = slice_there xs k (omega (arith, within))

module _ (statements : List Statement) (world : World) (made : EventOutcome) (node : NodeId) where
  happens_read : Made_by (may_log_next node.0 world) (with_replies statements world (log_next_effect statements node.0 world)) made
      → EventKind statements (events.LogNext node) world made
  unfolding log_next_effect
  happens_read (may, is) =
      let at = up_there (λ (node : Node). nat_lt (length node.peer.entries) (length world.log)) node.0 world may in
      let (entry, found) = slice_there world.log (length at.host.node.peer.entries)
      (ltb-true (length at.host.node.peer.entries) (length world.log) at.passed) in
      let entry_so : next_entry world.log (node_at node.0 world) ≡ Some entry
      = ap (λ (o : Option Host). next_entry world.log (option_map (λ (host : Host). host.node) o)) at.there ∙ found in
      NodeStep (record {
        n = node.0;
        host = at.host;
        cause = EntryIsRead entry;
        there = at.there;
        up = at.up;
        caused = found;
        event_so = refl;
        made_so =
            sym (ap (λ (o : Option Entry). with_replies statements world
            (option_map_or (λ (entry : Entry). node_stepped statements node.0 (inputs.LogEntry entry) (at_rest world)) o (at_rest world))) entry_so
            ∙ ap (with_replies statements world) (steps_at statements node.0 (inputs.LogEntry entry) at.host (at_rest world) at.there)) ∙ is;
      })

  some_first : (outbox : List Entry) → not (length outbox == 0) ≡ true → (entry : Entry) × (later : List Entry) × (outbox ≡ entry ∷ later)
  some_first [] may = absurd (cc (may))
  some_first (entry ∷ later) may = (entry, later, refl)

  happens_put : Made_by (may_put node.0 world) (put_made world (put_effect statements node.0 world)) made
      → EventKind statements (events.Put node) world made
  unfolding put_effect
  happens_put (may, is) =
      let at = up_there node_tests.has_entry_to_put node.0 world may in
      let (entry, later, first) = some_first at.host.node.outbox at.passed in
      let given : (node_step inputs.Put at.host.node).outputs.put ≡ Some entry = puts_first at.host.node entry later first in
      let after = world_after_step statements node.0 inputs.Put at.host (node_step inputs.Put at.host.node) (at_rest world) in
      NodeStep (record {
        n = node.0;
        host = at.host;
        cause = EntryIsPut entry;
        there = at.there;
        up = at.up;
        caused = (later, first);
        event_so = refl;
        made_so =
            sym (ap (λ (w : World). put_made world (put_done w)) (steps_at statements node.0 inputs.Put at.host (at_rest world) at.there)
            ∙ ap (λ (put : Option Entry). record {
              world = record after { log = world.log ++ option_to_list put };
              grown = put_adds world.log put;
            }) given) ∙ is;
      })

  happens_tick : Made_by (may_recover node.0 world) (with_replies statements world (recover_tick_effect statements node.0 world)) made
      → EventKind statements (events.RecoverTick node) world made
  unfolding recover_tick_effect
  happens_tick (may, is) =
      let at = up_there node_tests.may_tick node.0 world may in
      NodeStep (record {
        n = node.0;
        host = at.host;
        cause = RecoveryTicks;
        there = at.there;
        up = at.up;
        caused = at.passed;
        event_so = refl;
        made_so = sym (ap (with_replies statements world) (steps_at statements node.0 inputs.RecoverTick at.host (at_rest world) at.there)) ∙ is;
      })

  happens_retry : Made_by (may_retry node.0 world) (with_replies statements world (retry_tick_effect statements node.0 world)) made
      → EventKind statements (events.RetryTick node) world made
  unfolding retry_tick_effect
  happens_retry (may, is) =
      let at = up_there node_tests.has_work_to_retry node.0 world may in
      NodeStep (record {
        n = node.0;
        host = at.host;
        cause = WorkIsRetried;
        there = at.there;
        up = at.up;
        caused = at.passed;
        event_so = refl;
        made_so = sym (ap (with_replies statements world) (steps_at statements node.0 inputs.RetryTick at.host (at_rest world) at.there)) ∙ is;
      })

  -- ---- controls, and what becomes of members

  -- the next control is of a kind
  fail_is : (s : Statement) → fails node.0 s ≡ true → s ≡ lines.Fail node.0
  fail_is (lines.Fail number) is = ap (λ (k : ℕ). lines.Fail k) (eqb-true number node.0 is)
  fail_is s is = absurd (cc (is))

  join_is : (s : Statement) → joins node.0 s ≡ true → s ≡ lines.Join node.0
  join_is (lines.Join number) is = ap (λ (k : ℕ). lines.Join k) (eqb-true number node.0 is)
  join_is s is = absurd (cc (is))

  back_is : (s : Statement) → brings_back node.0 s ≡ true → s ≡ lines.Back node.0
  back_is (lines.Back number) is = ap (λ (k : ℕ). lines.Back k) (eqb-true number node.0 is)
  back_is s is = absurd (cc (is))

  weight_is : (s : Statement) → reweights node.0 s ≡ true → s ≡ lines.Reweight node.0 (weight_in s)
  weight_is (lines.Reweight number vnodes) is = ap (λ (k : ℕ). lines.Reweight k vnodes) (eqb-true number node.0 is)
  weight_is s is = absurd (cc (is))

  happens_lost : Made_by (may_lose_node node.0 world) (loss_made statements node.0 world (node_lost node.0 world)) made
      → EventKind statements (events.Lost node) world made
  unfolding node_lost
  happens_lost (may, is) =
      let parts = and_parts (is_next_control (fails node.0) world) (is_up node.0 world) may in
      let (control, next, fail) = looked_up (fails node.0) (next_control world) parts.0 in
      let (host, there, up) = looked_up is_host_up (host_at node.0 world) parts.1 in
      NodeLoss (record {
        n = node.0;
        host = host;
        there = there;
        up = up;
        control = next ∙ ap (λ (s : Statement). Some s) (fail_is control fail);
        event_so = refl;
        made_so =
            sym (ap (λ (o : Option Host). record {
              world = host_changed lost_host node.0 o (record (control_taken (at_rest world)) { wire = without_replies node.0 world.wire });
              grown = writers_lost statements world node.0 o;
            }) there) ∙ is;
      })

  happens_leave : Made_by (may_leave node.0 world) (only (node_left node.0 world)) made → EventKind statements (events.Leave node) world made
  unfolding node_left
  happens_leave (may, is) =
      let parts = and_parts (is_lost node.0 world) (worlds.is_newest_member node.0 world) may in
      let (host, there, lost) = looked_up (λ (host : Host). host.is_lost) (host_at node.0 world) parts.0 in
      NodeLeave (record { n = node.0; host = host; there = there; lost = lost; member = parts.1; event_so = refl; made_so = is })

  happens_join : Made_by (may_join node.0 world) (only (node_joined statements node.0 world)) made → EventKind statements (events.Join node) world made
  unfolding node_joined
  happens_join (may, is) =
      let (control, next, join) = looked_up (joins node.0) (next_control world) may in
      NodeJoin (record { n = node.0; control = next ∙ ap (λ (s : Statement). Some s) (join_is control join); event_so = refl; made_so = is })

  happens_reweight : Made_by (may_reweight node.0 world) (only (node_reweighted node.0 world)) made → EventKind statements (events.Reweight node) world made
  unfolding node_reweighted
  happens_reweight (may, is) =
      let (control, next, weighs) = looked_up (reweights node.0) (next_control world) may in
      NodeReweight (record {
        n = node.0;
        vnodes = weight_in control;
        control = next ∙ ap (λ (s : Statement). Some s) (weight_is control weighs);
        event_so = refl;
        made_so =
            sym (ap (λ (o : Option Statement). only (record (at_rest world) {
              log = world.log ++ entries.Reweight (record { 0 = node.0 }) (option_map_or weight_in o 0) ∷ [];
              controls = drop 1 world.controls;
            })) next) ∙ is;
      })

  abbrev back_with : Option Host → World
  back_with o = host_changed revived_host node.0 o (record (control_taken (at_rest world)) { log = log_after_return statements node.0 world })

  back_world : (host : Host) → host_at node.0 world ≡ Some host → came_back statements node.0 world ≡ world_after_return statements node.0 host world
  unfolding came_back
  back_world host there =
      ap (λ (o : Option Host). log_handed statements node.0 (back_with o)) there
      ∙ steps_at statements node.0 (inputs.Back (log_after_return statements node.0 world)) (revived_host host) (back_with (Some host)) (get-insert_same world.hosts node.0 (revived_host host))
      ∙ ap (λ (hosts : tree.FinMap nat_cmp Host). record (world_after_return statements node.0 host world) { hosts = hosts })
      (insert-insert world.hosts node.0 (revived_host host) (causes.host_with_node (revived_host host) (node_step (inputs.Back (log_after_return statements node.0 world)) host.node).node))

  happens_back : Made_by (may_come_back node.0 world) (only (came_back statements node.0 world)) made → EventKind statements (events.Back node) world made
  happens_back (may, is) =
      let ends = and_parts
      (is_next_control (brings_back node.0) world && is_lost node.0 world && not (worlds.is_newest_member node.0 world)) (not (has_end_in_wire node.0 world)) may in
      let members = and_parts (is_next_control (brings_back node.0) world && is_lost node.0 world) (not (worlds.is_newest_member node.0 world)) ends.0 in
      let parts = and_parts (is_next_control (brings_back node.0) world) (is_lost node.0 world) members.0 in
      let (control, next, back) = looked_up (brings_back node.0) (next_control world) parts.0 in
      let (host, there, lost) = looked_up (λ (host : Host). host.is_lost) (host_at node.0 world) parts.1 in
      NodeReturn (record {
        n = node.0;
        host = host;
        there = there;
        lost = lost;
        control = next ∙ ap (λ (s : Statement). Some s) (back_is control back);
        no_member = none_so (worlds.is_newest_member node.0 world) members.1;
        no_end = none_so (has_end_in_wire node.0 world) ends.1;
        event_so = refl;
        made_so = sym (ap only (back_world host there)) ∙ is;
      })

-- ---- each event

pub happens : (statements : List Statement) (event : Event) (world : World) (made : EventOutcome) → step statements event world ≡ Some made
    → EventKind statements event world made
unfolding step phase_ended
happens statements (events.Guest number) world made is =
    happens_guest statements world made number (cond_some (may_guest statements number world) (guest_made statements number world (guest_effect statements number world)) made is)
happens statements (events.Deliver node number) world made is =
    let name : MessageName = record { sender = node; number = number } in
    happens_deliver statements name world made (cond_some (may_deliver name world) (delivery_made statements name world (message_delivered statements name world)) made is)
happens statements (events.LoseRequest node number) world made is =
    let name : MessageName = record { sender = node; number = number } in
    happens_lose_request statements name world made
    (cond_some (may_lose_request name world) (with_replies statements world (message_lost statements name world)) made is)
happens statements (events.LoseReply node number) world made is =
    let name : MessageName = record { sender = node; number = number } in
    happens_lose_reply statements name world made
    (cond_some (may_lose_reply name world) (with_replies statements world (message_lost statements name world)) made is)
happens statements (events.LogNext node) world made is =
    happens_read statements world made node (cond_some (may_log_next node.0 world) (with_replies statements world (log_next_effect statements node.0 world)) made is)
happens statements (events.Put node) world made is =
    happens_put statements world made node (cond_some (may_put node.0 world) (put_made world (put_effect statements node.0 world)) made is)
happens statements (events.RecoverTick node) world made is =
    happens_tick statements world made node (cond_some (may_recover node.0 world) (with_replies statements world (recover_tick_effect statements node.0 world)) made is)
happens statements (events.RetryTick node) world made is =
    happens_retry statements world made node (cond_some (may_retry node.0 world) (with_replies statements world (retry_tick_effect statements node.0 world)) made is)
happens statements (events.Lost node) world made is =
    happens_lost statements world made node (cond_some (may_lose_node node.0 world) (loss_made statements node.0 world (node_lost node.0 world)) made is)
happens statements (events.Leave node) world made is =
    happens_leave statements world made node (cond_some (may_leave node.0 world) (only (node_left node.0 world)) made is)
happens statements (events.Join node) world made is =
    happens_join statements world made node (cond_some (may_join node.0 world) (only (node_joined statements node.0 world)) made is)
happens statements (events.Reweight node) world made is =
    happens_reweight statements world made node (cond_some (may_reweight node.0 world) (only (node_reweighted node.0 world)) made is)
happens statements (events.Back node) world made is =
    happens_back statements world made node (cond_some (may_come_back node.0 world) (only (came_back statements node.0 world)) made is)
happens statements events.Phase world made is =
    let t = cond_some (may_end_phase statements world) (only (phase_ended statements world)) made is in
    PhaseEnd (record { may = t.0; event_so = refl; made_so = t.1 })
