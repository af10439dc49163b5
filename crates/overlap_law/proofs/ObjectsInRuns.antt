-- In each world of a run each object was set apart for a request, or is an inode object: so each node has rows of few objects.
use Rattle.std.proofs.Common.{◌≡◌, ◌≢◌, inl, inr, ⊎_elim, arith, ℕ, ◌^◌, true, List, [], length, All, Contains, Some, refl, sym, ap, subst}
use Rattle.std.proofs.Common.{◌∙◌}
use Rattle.std.specs.FinMap as tree
use Rattle.std.proofs.lemmas.Bool.{le-leb}
use Rattle.std.proofs.lemmas.List.Elements.{All-nil, All-weaker}
use Rattle.proof_tools.proofs.FiniteMaps.{get-insert_cases}
use Rattle.proof_tools.proofs.Lists.{Contains-nil}
use Rattle.object_id.specs.declared.entry.Member.{Member}
use Rattle.object_id.specs.declared.node.NodeId.{NodeId}
use Rattle.cluster_script.specs.declared.statement.Statement.{Statement}
use Rattle.cluster_script.specs.Language.{IsScript}
use Rattle.cluster_script.specs.Settings.{tries_of}
use Rattle.cluster_script.specs.Statements.{requests_of}
use Rattle.peer_proto.specs.declared.ask.PeerReq.{PeerReq}
use Rattle.peer_proto.specs.declared.say.PeerRsp.{PeerRsp}
use Rattle.peer_proto.specs.Ask.{ask_bytes, IsPeerReq}
use Rattle.peer_service.specs.Serve.{reply_to}
use Rattle.vdi_directory.specs.Decisions.{log_effects}
use Rattle.sheep_node.specs.declared.event.Event.{Event}
use Rattle.sheep_node.specs.declared.input.Input.{Input}
use Rattle.sheep_node.specs.declared.input.Input.TheVariants as inputs
use Rattle.sheep_node.specs.declared.limits.TheConstants.{SENDS_MAX}
use Rattle.sheep_node.specs.State as nodes
use Rattle.sheep_node.specs.Step.{node_step}
use Rattle.sheep_node.proofs.NodeLaws.{IsSoundNode-initial}
use Rattle.message_wire.specs.Message.{name_cmp}
use Rattle.message_wire.specs.declared.packet.Packet.{Packet}
use Rattle.message_wire.specs.declared.packet.Packet.TheVariants.{Request, Reply}
use Rattle.sheep_world.specs.World.{Host, World, is_host_up}
use Rattle.sheep_world.specs.Opening.{format_entry, initial_world, initial_member_node}
use Rattle.sheep_world.specs.MembershipChanges.{lost_host}
use Rattle.sheep_world.specs.Step.{EventOutcome}
use Rattle.sheep_world.specs.NodeCauses.{NodeCause, GuestAsks, RequestComes, ReplyComes, LossIsTold, EntryIsRead, EntryIsPut, RecoveryTicks}
use Rattle.sheep_world.specs.NodeCauses.{WorkIsRetried, ClientAsks, input_of_cause, IsCause}
use Rattle.sheep_world.specs.EventKinds.{log_after_return, EventKind, NodeStep, UntoldLoss, UnreadDelivery, NodeLoss, NodeLeave}
use Rattle.sheep_world.specs.EventKinds.{NodeReweight, NodeJoin, NodeReturn, PhaseEnd}
use Rattle.sheep_world.specs.HostChanges.{host_after_step, host_after_return, joined_host}
use Rattle.sheep_world.specs.Began.{Began, IsInvariant}
use Rattle.sheep_world.specs.LogHolds.{MayGrow}
use Rattle.sheep_world.specs.HoldsTogether.{RepliesFit}
use Rattle.sheep_world.proofs.BegunRequestLaws.{Grows, guests_grow}
use Rattle.sheep_world.proofs.BegunWorlds.{by_induction}
use Rattle.sheep_world.proofs.ClientReads.{goes_by_kind}
use Rattle.sheep_world.proofs.LogAtOpening.{opens_log}
use Rattle.sheep_world.proofs.ReturningNodes.{stepped_renewed}
use Rattle.sheep_world.proofs.ValidNodes.{first_may}
use Rattle.sheep_world.proofs.WireAtOpening.{opening_found}
use Rattle.overlap_law.specs.RowsInRange.{CreatesAreInRange, ObjectsAreFew}
use Rattle.overlap_law.proofs.CreatesInRuns.{creates_after, opens_creates}
use Rattle.overlap_law.proofs.CreatesOnTheWire.{AllSo, SendsSo, RepliesBy, RepliesSo, wire_so}
use Rattle.overlap_law.proofs.FittingReplies.{replies_fit}
use Rattle.overlap_law.proofs.ObjectsAtSteps.{IsHostWithin, PacketWithin, ObjectsAreSetApart, made_after, short_after, started_after}
use Rattle.overlap_law.proofs.ObjectsAtSteps.{asked_after, more, has_after, step_within}
use Rattle.overlap_law.proofs.ObjectsCounted.{IsSetApart, IsCounted, keys_few, few_requests, number_of_request}
use Rattle.overlap_law.proofs.ObjectsGrow.{ask_grows, said_grows, node_grows, requests_grow}
use Rattle.overlap_law.proofs.ObjectsOfInputs.{back_requests}
use Rattle.overlap_law.proofs.ObjectsOfRequests.{AreWithin, none_within}
use Rattle.overlap_law.proofs.ObjectsOfRows.{AskWithin, SaidWithin, HasWithin, IsPeerWithin, reply_within}
use Rattle.overlap_law.proofs.ObjectsOfSteps.{stepped_has, none_had}
use Rattle.overlap_law.proofs.ObjectsOfWorks.{stay_within}
use Rattle.overlap_law.proofs.RefusedInRuns.{still_begun}
use Rattle.overlap_law.proofs.RowsInRuns.{EachHasRows, told_where_rows, both_open, both_after}
use Rattle.overlap_law.proofs.SentByTheLog.{sent_in_wire}
use Rattle.overlap_law.proofs.SoundWorlds.{IsSoundWorld}
use Rattle.overlap_law.proofs.StartedAttempts.{IsStarted}

-- ---- how many objects a node has rows of

few_objects : (script : List Statement) → IsScript script → (world : World) → ObjectsAreSetApart script world → ObjectsAreFew world
few_objects script is_script world apart = record {
  few = λ n host there.
      keys_few apart.made (length (requests_of script)) (2 ^ 24) host.node.peer.rows apart.short (few_requests script is_script)
      (omega arith)
      (All-weaker (IsSetApart apart.made) (IsCounted apart.made (length (requests_of script)) (2 ^ 24)) counted
      (tree.keys host.node.peer.rows) (apart.hosts n host there).0.rows);
}
  where
    counted : (oid : ℕ) → IsSetApart apart.made oid → IsCounted apart.made (length (requests_of script)) (2 ^ 24) oid
    counted oid (inl (req, had)) =
        let (line, at) = apart.asked req oid had in
        let number = number_of_request script req line at in
        inl (req, number.0, number.1, had)
    counted oid (inr (vid, most, same)) = inr (vid, omega (arith, most), same)

packet_grows : (K L : ℕ → Type 0) → ((oid : ℕ) → K oid → L oid) → (packet : Packet) → PacketWithin K packet → PacketWithin L packet
packet_grows K L more (Request to bytes) within = λ request read. ask_grows K L more request.ask (within request read)
packet_grows K L more (Reply from bytes) within = λ rsp read. said_grows K L more rsp.say (within rsp read)

host_grows : (K L : ℕ → Type 0) → ((oid : ℕ) → K oid → L oid) → (host : Host) → IsHostWithin K host → IsHostWithin L host
host_grows K L more host within =
    (node_grows K L more host.node within.0, requests_grow K L more host.node.requests host.node.sessions within.1)

module _ (script : List Statement) (is_script : IsScript script) (grows : (world : World) → Began script world → MayGrow world) where
  module _ (world : World) (began : Began script world) (is : IsSoundWorld script world) (replies : RepliesFit world)
      (apart : ObjectsAreSetApart script world) (event : Event) (made : EventOutcome) (after : IsSoundWorld script made.world) where
    abbrev K : ℕ → Type 0
    K = IsSetApart apart.made

    -- ---- where a node steps

    module _ (n : ℕ) (host : Host) (there : tree.get world.hosts n ≡ Some host) (up : is_host_up host ≡ true) (cause : NodeCause)
        (caused : IsCause script world n host cause) where
      abbrev L : ℕ → Type 0
      L = IsSetApart (made_after apart.made host cause)

      grown : (oid : ℕ) → K oid → L oid
      grown = more script is_script grows world began is replies apart n host there up cause caused

      stepped : IsHostWithin L (host_after_step cause host)
      stepped =
          let within = step_within script is_script grows world began is replies apart n host there up cause caused in
          (has_after script is_script grows world began is replies apart n host there up cause caused, within.requests_so)

      stepped_hosts : (m : ℕ) (now : Host) → tree.get (tree.insert world.hosts n (host_after_step cause host)) m ≡ Some now
          → IsHostWithin L now
      stepped_hosts m now got = ⊎_elim
          (λ (own : (m ≡ n) × (host_after_step cause host ≡ now)). subst (IsHostWithin L) own.1 stepped)
          (λ (other : (m ≢ n) × (tree.get world.hosts m ≡ Some now)). host_grows K L grown now (apart.hosts m now other.1))
          (get-insert_cases world.hosts n (host_after_step cause host) m now got)

      old_wire : AllSo (PacketWithin L) world.wire
      old_wire name packet got = packet_grows K L grown packet (apart.wire name packet got)

      peer_within : IsPeerWithin L host.node.peer
      peer_within =
          let has = node_grows K L grown host.node (apart.hosts n host there).0 in
          record { rows = has.rows; pending = has.pending }

    -- what it replies names no other object
    replies_by : (n : ℕ) (host : Host) (there : tree.get world.hosts n ≡ Some host) (up : is_host_up host ≡ true) (cause : NodeCause)
        (caused : IsCause script world n host cause)
        → RepliesBy (PacketWithin (IsSetApart (made_after apart.made host cause))) cause host.node
    replies_by n host there up (GuestAsks session req ask) caused = tt
    replies_by n host there up (RequestComes name to request) caused = λ rsp read.
        let own : tree.get world.hosts to.0 ≡ Some host = ap (tree.get world.hosts) caused.here ∙ there in
        let spelled = replies.spelled name to request host
        (record { bytes = caused.bytes; there = caused.there; read = caused.read; receiver = own; up = up }) in
        let same : reply_to host.node.peer request ≡ rsp = cc (sym spelled ∙ read) in
        subst (λ (r : PeerRsp). SaidWithin K r.say) same
        (reply_within (IsSetApart (made_after apart.made host (RequestComes name to request))) host.node.peer
        (peer_within n host there up (RequestComes name to request) caused) request)
    replies_by n host there up (ReplyComes name from rsp) caused = tt
    replies_by n host there up (LossIsTold name packet) caused = tt
    replies_by n host there up (EntryIsRead entry) caused = tt
    replies_by n host there up (EntryIsPut entry) caused = tt
    replies_by n host there up RecoveryTicks caused = tt
    replies_by n host there up WorkIsRetried caused = tt
    replies_by n host there up (ClientAsks req ask) caused = tt

    -- ---- where none does, no more is set apart

    old_started : Grows world.guests made.world.guests → (req oid : ℕ) → Contains (apart.made req) oid
        → IsStarted script made.world.guests req
    old_started grow req oid had =
        let (session, begun) = apart.started req oid had in
        (session, still_begun script world.guests made.world.guests grow session req begun)

    module _ (kind : EventKind script event world made) where
      unchanged : ((n : ℕ) (host : Host) → tree.get made.world.hosts n ≡ Some host → IsHostWithin K host)
          → AllSo (PacketWithin K) made.world.wire → ObjectsAreSetApart script made.world
      unchanged hosts wire = record {
        made = apart.made;
        short = apart.short;
        started = old_started (guests_grow script event world made kind);
        asked = apart.asked;
        hosts = hosts;
        wire = wire;
      }

    with_host : (n : ℕ) (new : Host) → IsHostWithin K new → (m : ℕ) (now : Host) → tree.get (tree.insert world.hosts n new) m ≡ Some now
        → IsHostWithin K now
    with_host n new within m now got = ⊎_elim
        (λ (own : (m ≡ n) × (new ≡ now)). subst (IsHostWithin K) own.1 within)
        (λ (other : (m ≢ n) × (tree.get world.hosts m ≡ Some now)). apart.hosts m now other.1)
        (get-insert_cases world.hosts n new m now got)

    abbrev EachWithin : EventOutcome → Type 0
    EachWithin outcome = (n : ℕ) (host : Host) → tree.get outcome.world.hosts n ≡ Some host → IsHostWithin K host

    quiet_wire : (kind : EventKind script event world made) → SendsSo (PacketWithin K) script event world made kind
        → RepliesSo (PacketWithin K) script event world made kind → AllSo (PacketWithin K) made.world.wire
    quiet_wire kind sends said = wire_so (PacketWithin K) script event world made apart.wire kind sends said

    apart_after : EventKind script event world made → ObjectsAreSetApart script made.world
    apart_after (NodeStep h) =
        let L : ℕ → Type 0 = IsSetApart (made_after apart.made h.host h.cause) in
        let within = step_within script is_script grows world began is replies apart h.n h.host h.there h.up h.cause h.caused in
        let spelled = subst (λ (m : EventOutcome). All (λ (send : NodeId × PeerReq). IsPeerReq send.1) m.world.outputs.sends)
        (sym h.made_so) after.sent in
        record {
          made = made_after apart.made h.host h.cause;
          short = short_after script is_script grows world began is replies apart h.n h.host h.there h.up h.cause h.caused;
          started = subst (λ (m : EventOutcome). (req oid : ℕ) → Contains (made_after apart.made h.host h.cause req) oid
              → IsStarted script m.world.guests req)
              h.made_so (started_after script is_script grows world began is replies apart h.n h.host h.there h.up h.cause h.caused);
          asked = asked_after script is_script grows world began is replies apart h.n h.host h.there h.up h.cause h.caused;
          hosts = subst (λ (m : EventOutcome). (q : ℕ) (now : Host) → tree.get m.world.hosts q ≡ Some now → IsHostWithin L now) h.made_so
              (stepped_hosts h.n h.host h.there h.up h.cause h.caused);
          wire = wire_so (PacketWithin L) script event world made (old_wire h.n h.host h.there h.up h.cause h.caused) (NodeStep h)
              (sent_in_wire (λ to request. AskWithin L request.ask) (node_step (input_of_cause h.cause) h.host.node).outputs.sends
              spelled within.sends_so)
              (replies_by h.n h.host h.there h.up h.cause h.caused);
        }
    apart_after (UntoldLoss h) =
        unchanged (UntoldLoss h) (subst EachWithin h.made_so apart.hosts) (quiet_wire (UntoldLoss h) tt tt)
    apart_after (UnreadDelivery h) =
        unchanged (UnreadDelivery h) (subst EachWithin h.made_so apart.hosts) (quiet_wire (UnreadDelivery h) tt tt)
    apart_after (NodeLoss h) =
        unchanged (NodeLoss h) (subst EachWithin h.made_so (with_host h.n (lost_host h.host) (apart.hosts h.n h.host h.there)))
        (quiet_wire (NodeLoss h) tt tt)
    apart_after (NodeLeave h) =
        unchanged (NodeLeave h) (subst EachWithin h.made_so apart.hosts) (quiet_wire (NodeLeave h) tt tt)
    apart_after (NodeReweight h) =
        unchanged (NodeReweight h) (subst EachWithin h.made_so apart.hosts) (quiet_wire (NodeReweight h) tt tt)
    apart_after (NodeJoin h) =
        unchanged (NodeJoin h)
        (subst EachWithin h.made_so
        (with_host h.n (joined_host script h.n) (none_had K (record { 0 = h.n }) (tries_of script), none_within K)))
        (quiet_wire (NodeJoin h) tt tt)
    apart_after (NodeReturn h) =
        let log = log_after_return script h.n world in
        unchanged (NodeReturn h)
        (subst EachWithin h.made_so
        (with_host h.n (host_after_return log h.host)
        (stepped_has K h.host.node (apart.hosts h.n h.host h.there).0 (inputs.Back log) tt, back_requests K log h.host.node)))
        (quiet_wire (NodeReturn h)
        (subst (All (λ (send : NodeId × PeerReq). PacketWithin K (Request send.0 (ask_bytes send.1))))
        (sym (stepped_renewed log h.host.node).silent) (All-nil _)) tt)
    apart_after (PhaseEnd h) =
        unchanged (PhaseEnd h) (subst EachWithin h.made_so apart.hosts) (quiet_wire (PhaseEnd h) tt tt)

  -- ---- every world

  opens_apart : ObjectsAreSetApart script (initial_world script)
  unfolding initial_world
  opens_apart = record {
    made = λ req. [];
    short = λ req. omega arith;
    started = λ req oid had. absurd (Contains-nil oid had);
    asked = λ req oid had. absurd (Contains-nil oid had);
    hosts = λ n host got.
        let (member, own, same) = opening_found script n host got in
        subst (IsHostWithin (IsSetApart (λ (req : ℕ). []))) same (first_within member);
    wire = λ name packet got.
        let there : tree.get (tree.empty {X = Packet} {R = name_cmp}) name ≡ Some packet = got in
        let none = tree.get-empty {X = Packet} name_cmp name in
        absurd (cc (there, none));
  }
    where
      first_within : (member : Member) → HasWithin (IsSetApart (λ (req : ℕ). [])) (initial_member_node script member)
          × AreWithin (IsSetApart (λ (req : ℕ). [])) (initial_member_node script member).requests
          (initial_member_node script member).sessions
      first_within member =
          let node = nodes.initial_node member.node (tries_of script) in
          let input : Input = inputs.LogEntry (format_entry script) in (
            stepped_has (IsSetApart (λ (req : ℕ). [])) node
                (none_had (IsSetApart (λ (req : ℕ). [])) member.node (tries_of script)) input tt,
            stay_within (IsSetApart (λ (req : ℕ). [])) (λ vid most. inr (vid, most, refl)) input node (record {
              numbers = le-leb 0 SENDS_MAX (omega arith);
              condition = first_may (format_entry script) [] (opens_log script is_script).log;
            }) tt (IsSoundNode-initial member.node (tries_of script)) tt (none_within (IsSetApart (λ (req : ℕ). []))),
          )

  abbrev AllHolds : World → Type 0
  AllHolds world =
      IsSoundWorld script world × EachHasRows (log_effects world.log) world × CreatesAreInRange world × ObjectsAreSetApart script world

  all_invariant : IsInvariant script AllHolds
  all_invariant = record {
    opens = (let both = both_open script is_script grows in (both.0, both.1, opens_creates script is_script grows, opens_apart));
    keeps = λ event world made began happened all.
        let few = few_objects script is_script world all.3 in
        let both = both_after script is_script grows world began all.0 all.1 few all.2 event made happened in
        let replies = replies_fit script is_script grows world began all.0 (told_where_rows world few all.1) in (
          both.0,
          both.1,
          creates_after script is_script grows world began all.0 all.1 few all.2 event made happened both.0,
          apart_after world began all.0 replies all.3 event made both.0 (goes_by_kind script event world made happened),
        );
  }

  pub objects_few : (world : World) → Began script world → ObjectsAreFew world
  objects_few world began = few_objects script is_script world (by_induction script AllHolds all_invariant world began).3
