-- In the opening world nodes and wire go together: the wire is empty, and the nodes wait for nothing.
use Rattle.std.proofs.Common.{◌≡◌, ℕ, cond, List, [], ◌∷◌, ◌++◌, map, All, Option, Some, None, Ordering, Less, Equal, Greater, find, refl, sym, ap, subst, ◌∙◌}
use Rattle.std.specs.Ordering.{is_eq, nat_cmp}
use Rattle.std.specs.Cmp.{nat_cmp_total}
use Rattle.std.specs.FinMap as tree
use Rattle.std.proofs.lemmas.Option.{same_Some}
use Rattle.std.proofs.lemmas.List.Elements.{All-nil}
use Rattle.proof_tools.proofs.Booleans.{cond_either}
use Rattle.object_id.specs.declared.node.NodeId.{NodeId}
use Rattle.object_id.specs.declared.entry.Entry.{Entry}
use Rattle.object_id.specs.declared.entry.Entry.TheVariants.{Format}
use Rattle.object_id.specs.declared.entry.Member.{Member}
use Rattle.cluster_script.specs.declared.statement.Statement.{Statement}
use Rattle.cluster_script.specs.Settings.{tries_of, opening_members}
use Rattle.peer_proto.specs.declared.ask.PeerReq.{PeerReq}
use Rattle.gateway.specs.State as gateways
use Rattle.recovery.specs.State as recoveries
use Rattle.sheep_node.specs.declared.input.Input.TheVariants as inputs
use Rattle.sheep_node.specs.State as nodes
use Rattle.sheep_node.specs.declared.course.Request.{Request}
use Rattle.sheep_node.specs.State.{Node}
use Rattle.sheep_node.specs.StepState.{StepState, at_first, with_node}
use Rattle.sheep_node.specs.LogReading.{asker_of, decision_told, entry_read, on_log_entry}
use Rattle.sheep_node.specs.AwaitedEntry.{waits_for_entry}
use Rattle.peer_service.specs.LogReading.{decision_on}
use Rattle.sheep_node.specs.Step.{on_input, is_due, with_recovered, recovered_put, node_step}
use Rattle.sheep_node.proofs.StepResults.{step_me}
use Rattle.message_wire.specs.declared.name.MessageName.{MessageName}
use Rattle.message_wire.specs.declared.packet.Packet.{Packet}
use Rattle.message_wire.specs.Message.{name_cmp}
use Rattle.sheep_world.specs.World.{Host}
use Rattle.sheep_world.specs.Opening as worlds
use Rattle.sheep_world.specs.Opening.{format_entry, initial_member_node, initial_host, initial_member_host, before_phases, with_phase}
use Rattle.sheep_world.specs.WireMatch.{asked_by, asked_by_gateway, asked_by_recovery, own_name, IsInFlight, AllAwaitedIsInFlight, WireMatchesNodes}
use Rattle.sheep_world.proofs.LostReplies.{asked_by-opening}
use Rattle.std.proofs.lemmas.List.{nil_from_length}

-- what a node waits with
record Idle (me : NodeId) (tries : ℕ) (node : Node) : Type 0 where
  me_so : node.me ≡ me
  gateway_so : node.gateway ≡ gateways.initial_gateway me tries
  recovery_so : node.recovery ≡ recoveries.initial_recovery me

-- such a node waits for nothing
asked_by-idle : (me : NodeId) (tries : ℕ) (node : Node) → Idle me tries node → asked_by node ≡ []
asked_by-idle me tries node idle =
    (λ i. asked_by_gateway (idle.me_so i) (idle.gateway_so i) ++ asked_by_recovery (idle.recovery_so i)) ∙ asked_by-opening me tries

-- the log's first entry leaves a new node's works and recovery as they are
read_idle : (me : NodeId) (tries : ℕ) (members : List Member) → Idle me tries (entry_read (Format members) (nodes.initial_node me tries))
unfolding entry_read
read_idle me tries members = record { me_so = refl; gateway_so = refl; recovery_so = refl }

put_idle : (me : NodeId) (tries : ℕ) (so_far : StepState) → Idle me tries so_far.node → Idle me tries (recovered_put so_far).node
unfolding recovered_put
put_idle me tries so_far idle =
    cond_either (λ (so_far : StepState). Idle me tries so_far.node) (is_due so_far.node) (with_recovered so_far) so_far
    (record { me_so = idle.me_so; gateway_so = idle.gateway_so; recovery_so = idle.recovery_so }) idle

pub nobody_asks : (entry : Entry) (me : NodeId) (tries : ℕ) → asker_of entry (nodes.initial_node me tries) ≡ None
nobody_asks entry me tries = ap
    (λ (found : List (ℕ × Request)). find (λ (one : ℕ × Request). waits_for_entry entry one.1.course) found)
    (nil_from_length (tree.entries {R = nat_cmp} (tree.empty {X = Request})) (sym (tree.len-entries tree.empty) ∙ tree.len-empty nat_cmp Request))

stepped_idle : (me : NodeId) (tries : ℕ) (members : List Member)
    → Idle me tries (node_step (inputs.LogEntry (Format members)) (nodes.initial_node me tries)).node
unfolding node_step on_input on_log_entry
stepped_idle me tries members =
    let node = nodes.initial_node me tries in
    let so_far = with_node (entry_read (Format members) node) (at_first node) in
    put_idle me tries
    (decision_told (decision_on (Format members) node.peer) (asker_of (Format members) node) so_far)
    (subst (λ (o : Option (ℕ × Request)). Idle me tries (decision_told (decision_on (Format members) node.peer) o so_far).node)
    (sym (nobody_asks (Format members) me tries)) (read_idle me tries members))

-- a host of the opening world is that of a member
module _ (statements : List Statement) where
  abbrev pub FoundHost : ℕ → Host → Type 0
  FoundHost q host = (member : Member) × (q ≡ member.node.0) × (initial_host (initial_member_node statements member) ≡ host)

  found_if : (q : ℕ) (host : Host) (member : Member) (members : List Member) (o : Ordering) → nat_cmp q member.node.0 ≡ o
      → (tree.find nat_cmp q (map (initial_member_host statements) members) ≡ Some host → FoundHost q host)
      → cond (is_eq o) (Some (initial_host (initial_member_node statements member))) (tree.find nat_cmp q (map (initial_member_host statements) members)) ≡ Some host
      → FoundHost q host
  found_if q host member members Less tie rest is = rest is
  found_if q host member members Equal tie rest is =
      (member, tree.nat_cmp-IsAntisymmetric q member.node.0 tie, same_Some (initial_host (initial_member_node statements member)) host is)
  found_if q host member members Greater tie rest is = rest is

  found_host : (q : ℕ) (host : Host) (members : List Member) → tree.find nat_cmp q (map (initial_member_host statements) members) ≡ Some host
      → FoundHost q host
  found_host q host [] is = absurd (cc (is))
  found_host q host (member ∷ members) is =
      found_if q host member members (nat_cmp q member.node.0) refl (found_host q host members) is

  pub opening_found : (q : ℕ) (host : Host) → tree.get (before_phases statements).hosts q ≡ Some host → FoundHost q host
  opening_found q host got =
      found_host q host (opening_members statements)
      (sym (tree.get-from_entries nat_cmp_total (map (initial_member_host statements) (opening_members statements)) q) ∙ got)

  no_message : {P : Type 0} (name : MessageName) (packet : Packet) → tree.get (tree.empty {X = Packet} {R = name_cmp}) name ≡ Some packet → P
  no_message name packet got = absurd (cc (sym (tree.get-empty name_cmp name) ∙ got))

  -- in the opening world nodes and wire go together
  pub opening-wired : WireMatchesNodes (worlds.initial_world statements)
  unfolding worlds.initial_world
  opening-wired = record {
    spelled = λ name packet got. no_message name packet got;
    given = λ name packet got. no_message name packet got;
    numbered = λ q host got.
        let (member, own, is) = opening_found q host got in
        ap (λ (host : Host). host.node.me.0) (sym is)
        ∙ ap (λ (me : NodeId). me.0) (step_me (inputs.LogEntry (format_entry statements)) (nodes.initial_node member.node (tries_of statements)))
        ∙ sym own;
    on_the_way = λ q host got up.
        let (member, own, is) = opening_found q host got in
        let node = initial_member_node statements member in
        let idle : asked_by node ≡ []
        = asked_by-idle member.node (tries_of statements) node (stepped_idle member.node (tries_of statements) (opening_members statements)) in
        subst (λ (host : Host). AllAwaitedIsInFlight host.node tree.empty) is
        (subst (λ (sends : List (NodeId × PeerReq)). All (λ (send : NodeId × PeerReq). IsInFlight node send (tree.get {R = name_cmp} tree.empty (own_name node send))) sends)
        (sym idle) (All-nil (λ (send : NodeId × PeerReq). IsInFlight node send (tree.get {R = name_cmp} tree.empty (own_name node send)))));
    awaited = λ name packet host got at up. no_message name packet got;
  }
