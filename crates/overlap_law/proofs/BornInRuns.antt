-- In every run in range what nodes have, know of and tell is of objects that were born.
use Rattle.std.proofs.Common.{◌≡◌, ◌≢◌, ⊎_elim, ℕ, true, List, [], ◌∷◌, All, Contains, Option, Some, None, Ok, unwrap_or, slice_get, refl}
use Rattle.std.proofs.Common.{sym, ap, subst, ◌∙◌}
use Rattle.std.specs.FinMap as tree
use Rattle.std.proofs.lemmas.List.Elements.{All-nil, All-cons, All-contains}
use Rattle.proof_tools.proofs.FiniteMaps.{get-insert_cases, keys-contain}
use Rattle.object_id.specs.declared.node.NodeId.{NodeId}
use Rattle.object_store.specs.Store.{SeenRow, AllRows, rows_of}
use Rattle.cluster_script.specs.declared.statement.Statement.{Statement}
use Rattle.cluster_script.specs.Settings.{tries_of}
use Rattle.peer_proto.specs.declared.ask.PeerReq.{PeerReq}
use Rattle.peer_proto.specs.declared.say.PeerRsp.{PeerRsp}
use Rattle.peer_proto.specs.Ask.{ask_in}
use Rattle.peer_proto.specs.Say.{say_in}
use Rattle.peer_service.specs.Serve.{reply_to}
use Rattle.message_wire.specs.Message.{name_cmp}
use Rattle.message_wire.specs.declared.name.MessageName.{MessageName}
use Rattle.message_wire.specs.declared.packet.Packet.{Packet}
use Rattle.message_wire.specs.declared.packet.Packet.TheVariants.{Request, Reply}
use Rattle.sheep_node.specs.declared.event.Event.{Event}
use Rattle.sheep_node.specs.declared.input.Input.TheVariants as inputs
use Rattle.sheep_node.specs.State as nodes
use Rattle.sheep_node.specs.Step.{node_step}
use Rattle.sheep_world.specs.World.{Host, World, is_host_up}
use Rattle.sheep_world.specs.Opening.{format_entry, initial_world}
use Rattle.sheep_world.specs.MembershipChanges.{lost_host}
use Rattle.sheep_world.specs.Step.{EventOutcome}
use Rattle.sheep_world.specs.NodeCauses.{NodeCause, GuestAsks, RequestComes, ReplyComes, LossIsTold, EntryIsRead, EntryIsPut, RecoveryTicks}
use Rattle.sheep_world.specs.NodeCauses.{WorkIsRetried, ClientAsks, input_of_cause, IsCause}
use Rattle.sheep_world.specs.EventKinds.{log_after_return, EventKind, NodeStep, UntoldLoss, UnreadDelivery, NodeLoss, NodeLeave}
use Rattle.sheep_world.specs.EventKinds.{NodeReweight, NodeJoin, NodeReturn, PhaseEnd}
use Rattle.sheep_world.specs.HostChanges.{host_after_step, host_after_return, joined_host}
use Rattle.sheep_world.specs.Began.{Began}
use Rattle.sheep_world.proofs.ClientReads.{goes_by_kind}
use Rattle.sheep_world.proofs.WireAtOpening.{opening_found}
use Rattle.sheep_world.proofs.ValidNodes.{got_is}
use Rattle.sheep_world.specs.RunsWithAsks.{Move}
use Rattle.overlap_law.specs.BornObjects.{IsBorn, ObjectsWereBorn}
use Rattle.overlap_law.specs.Past.{MomentWithPast, moment_after, first_moment, run_with_past}
use Rattle.overlap_law.specs.MomentChanges.{RunsAreInRange}
use Rattle.overlap_law.proofs.BornStays.{born_by_a_message, born_stays}
use Rattle.overlap_law.proofs.CreatesOnTheWire.{AllSo, SendsSo, RepliesBy, RepliesSo, wire_so}
use Rattle.overlap_law.proofs.MakersInTraffic.{HasMakersOfAttempts, kept_makers}
use Rattle.overlap_law.proofs.MomentTrails.{event_trail}
use Rattle.overlap_law.proofs.ObjectsGrow.{said_grows, node_grows}
use Rattle.overlap_law.proofs.ObjectsOfRows.{AskWithin, IsRowAskWithin, IsAskedWithin, SaidWithin, HasWithin, reply_within}
use Rattle.overlap_law.proofs.ObjectsOfSteps.{stepped_has, none_had, BringsWithin}
use Rattle.overlap_law.proofs.RunsByChanges.{event_kept}
use Rattle.overlap_law.proofs.RunsByEvents.{KeptByEvents, run-kept_by_events}
use Rattle.overlap_law.proofs.GoingOn.{next_by}

-- a reply names such objects alone
abbrev ReplyWithin : (ℕ → Type 0) → Packet → Type 0
ReplyWithin K (Request to bytes) = Unit {0}
ReplyWithin K (Reply from bytes) = (rsp : PeerRsp) → say_in bytes ≡ Ok rsp → SaidWithin K rsp.say

-- all that nodes have, and all that is replied, is of such objects
record AllWithin (K : ℕ → Type 0) (world : World) : Type 0 where
  pub hosts : (n : ℕ) (host : Host) → tree.get world.hosts n ≡ Some host → HasWithin K host.node
  pub wire : AllSo (ReplyWithin K) world.wire

module _ (script : List Statement) (range : RunsAreInRange script) where
  module _ (K : ℕ → Type 0) (world : World) (began : Began script world) (all : AllWithin K world)
      (asked : (name : MessageName) (to : NodeId) (bytes : List ℕ) (request : PeerReq) → tree.get world.wire name ≡ Some (Request to bytes)
      → ask_in bytes ≡ Ok request → AskWithin K request.ask) (event : Event) (made : EventOutcome) where
    -- ---- where a node steps

    brings : (n : ℕ) (host : Host) (there : tree.get world.hosts n ≡ Some host) (cause : NodeCause) → IsCause script world n host cause
        → BringsWithin K host.node (all.hosts n host there) (input_of_cause cause)
    brings n host there (GuestAsks session req ask) caused = tt
    brings n host there (RequestComes name to request) caused = asked name to caused.bytes request caused.there caused.read
    brings n host there (ReplyComes name from rsp) caused = all.wire name (Reply from caused.bytes) caused.there rsp caused.read
    brings n host there (LossIsTold name packet) caused = tt
    brings n host there (EntryIsRead entry) caused = tt
    brings n host there (EntryIsPut entry) caused = tt
    brings n host there RecoveryTicks caused = tt
    brings n host there WorkIsRetried caused = tt
    brings n host there (ClientAsks req ask) caused = tt

    with_host : (n : ℕ) (new : Host) → HasWithin K new.node → (m : ℕ) (now : Host) → tree.get (tree.insert world.hosts n new) m ≡ Some now
        → HasWithin K now.node
    with_host n new within m now got = ⊎_elim
        (λ (own : (m ≡ n) × (new ≡ now)). subst (λ (host : Host). HasWithin K host.node) own.1 within)
        (λ (other : (m ≢ n) × (tree.get world.hosts m ≡ Some now)). all.hosts m now other.1)
        (get-insert_cases world.hosts n new m now got)

    -- what it replies names what it has rows of
    replies_by : (n : ℕ) (host : Host) (there : tree.get world.hosts n ≡ Some host) → is_host_up host ≡ true → (cause : NodeCause)
        → IsCause script world n host cause → RepliesBy (ReplyWithin K) cause host.node
    replies_by n host there up (GuestAsks session req ask) caused = tt
    replies_by n host there up (RequestComes name to request) caused = λ rsp read.
        let own : tree.get world.hosts to.0 ≡ Some host = ap (tree.get world.hosts) caused.here ∙ there in
        let spelled = (range.messages world began).replies.spelled name to request host
        (record { bytes = caused.bytes; there = caused.there; read = caused.read; receiver = own; up = up }) in
        let same : reply_to host.node.peer request ≡ rsp = cc (sym spelled ∙ read) in
        let has = all.hosts n host there in
        subst (λ (r : PeerRsp). SaidWithin K r.say) same
        (reply_within K host.node.peer (record { rows = has.rows; pending = has.pending }) request)
    replies_by n host there up (ReplyComes name from rsp) caused = tt
    replies_by n host there up (LossIsTold name packet) caused = tt
    replies_by n host there up (EntryIsRead entry) caused = tt
    replies_by n host there up (EntryIsPut entry) caused = tt
    replies_by n host there up RecoveryTicks caused = tt
    replies_by n host there up WorkIsRetried caused = tt
    replies_by n host there up (ClientAsks req ask) caused = tt

    -- requests are asked of nobody here
    sends_so : (sends : List (NodeId × PeerReq)) → All (λ (send : NodeId × PeerReq). Unit {0}) sends
    sends_so [] = All-nil (λ (send : NodeId × PeerReq). Unit {0})
    sends_so (send ∷ sends) = All-cons (λ (send : NodeId × PeerReq). Unit {0}) send sends tt (sends_so sends)

    -- ---- each kind of event

    abbrev EachHas : EventOutcome → Type 0
    EachHas outcome = (n : ℕ) (host : Host) → tree.get outcome.world.hosts n ≡ Some host → HasWithin K host.node

    hosts_after : EventKind script event world made → EachHas made
    hosts_after (NodeStep h) =
        subst EachHas h.made_so
        (with_host h.n (host_after_step h.cause h.host)
        (stepped_has K h.host.node (all.hosts h.n h.host h.there) (input_of_cause h.cause) (brings h.n h.host h.there h.cause h.caused)))
    hosts_after (UntoldLoss h) = subst EachHas h.made_so all.hosts
    hosts_after (UnreadDelivery h) = subst EachHas h.made_so all.hosts
    hosts_after (NodeLoss h) = subst EachHas h.made_so (with_host h.n (lost_host h.host) (all.hosts h.n h.host h.there))
    hosts_after (NodeLeave h) = subst EachHas h.made_so all.hosts
    hosts_after (NodeReweight h) = subst EachHas h.made_so all.hosts
    hosts_after (NodeJoin h) =
        subst EachHas h.made_so (with_host h.n (joined_host script h.n) (none_had K (record { 0 = h.n }) (tries_of script)))
    hosts_after (NodeReturn h) =
        let log = log_after_return script h.n world in
        subst EachHas h.made_so
        (with_host h.n (host_after_return log h.host) (stepped_has K h.host.node (all.hosts h.n h.host h.there) (inputs.Back log) tt))
    hosts_after (PhaseEnd h) = subst EachHas h.made_so all.hosts

    sends_after : (kind : EventKind script event world made) → SendsSo (ReplyWithin K) script event world made kind
    sends_after (NodeStep h) = sends_so (node_step (input_of_cause h.cause) h.host.node).outputs.sends
    sends_after (UntoldLoss h) = tt
    sends_after (UnreadDelivery h) = tt
    sends_after (NodeLoss h) = tt
    sends_after (NodeLeave h) = tt
    sends_after (NodeReweight h) = tt
    sends_after (NodeJoin h) = tt
    sends_after (NodeReturn h) = sends_so (node_step (inputs.Back (log_after_return script h.n world)) h.host.node).outputs.sends
    sends_after (PhaseEnd h) = tt

    said_after : (kind : EventKind script event world made) → RepliesSo (ReplyWithin K) script event world made kind
    said_after (NodeStep h) = replies_by h.n h.host h.there h.up h.cause h.caused
    said_after (UntoldLoss h) = tt
    said_after (UnreadDelivery h) = tt
    said_after (NodeLoss h) = tt
    said_after (NodeLeave h) = tt
    said_after (NodeReweight h) = tt
    said_after (NodeJoin h) = tt
    said_after (NodeReturn h) = tt
    said_after (PhaseEnd h) = tt

    within_after : EventKind script event world made → AllWithin K made.world
    within_after kind = record {
      hosts = hosts_after kind;
      wire = wire_so (ReplyWithin K) script event world made all.wire kind (sends_after kind) (said_after kind);
    }

  -- ---- in every run

  -- each request to create or write is a message of an attempt, and all is of what was born
  record HoldsOfBorn (moment : MomentWithPast) : Type 0 where
    pub makers : HasMakersOfAttempts moment
    pub within : AllWithin (IsBorn moment.past.attempts) moment.world

  grown_within : (K L : ℕ → Type 0) → ((oid : ℕ) → K oid → L oid) → (world : World) → AllWithin K world → AllWithin L world
  grown_within K L more world all = record {
    hosts = λ n host there. node_grows K L more host.node (all.hosts n host there);
    wire = λ name packet there. reply_grows packet (all.wire name packet there);
  }
    where
      reply_grows : (packet : Packet) → ReplyWithin K packet → ReplyWithin L packet
      reply_grows (Request to bytes) within = tt
      reply_grows (Reply from bytes) within = λ rsp read. said_grows K L more rsp.say (within rsp read)

  events_born : KeptByEvents script HoldsOfBorn
  events_born event before made began is holds =
      let after = moment_after script event before made in
      let next = next_by script event before made is in
      let more = born_stays script range before began (event_trail script is.move before after next) in
      record {
        makers = event_kept script HasMakersOfAttempts (kept_makers script range) is.move before after began next holds.makers;
        within = grown_within (IsBorn before.past.attempts) (IsBorn after.past.attempts) more made.world
            (within_after (IsBorn before.past.attempts) before.world began holds.within asked event made
            (goes_by_kind script event before.world made is));
      }
    where
      asked : (name : MessageName) (to : NodeId) (bytes : List ℕ) (request : PeerReq)
          → tree.get before.world.wire name ≡ Some (Request to bytes)
          → ask_in bytes ≡ Ok request → AskWithin (IsBorn before.past.attempts) request.ask
      asked name to bytes request there read =
          born_by_a_message before.world.wire before.past.attempts holds.makers name to request
          (record { bytes = bytes; there = there; spelled = read }) request.ask refl

  opens_born : HoldsOfBorn (first_moment script)
  unfolding initial_world
  opens_born = record {
    makers = (kept_makers script range).opens;
    within = record {
      hosts = λ n host got.
          let (member, own, same) = opening_found script n host got in
          subst (λ (host : Host). HasWithin (IsBorn []) host.node) same
          (stepped_has (IsBorn []) (nodes.initial_node member.node (tries_of script)) (none_had (IsBorn []) member.node (tries_of script))
          (inputs.LogEntry (format_entry script)) tt);
      wire = λ name packet got.
          let there : tree.get (tree.empty {X = Packet} {R = name_cmp}) name ≡ Some packet = got in
          let none = tree.get-empty {X = Packet} name_cmp name in
          absurd (cc (there, none));
    };
  }

  -- ---- the law

  row_key : (rows : AllRows) (oid i : ℕ) (row : SeenRow) → slice_get (rows_of rows oid) i ≡ Some row → Contains (tree.keys rows) oid
  row_key rows oid i row there = by_got (tree.get rows oid) refl there
    where
      by_got : (o : Option (List SeenRow)) → tree.get rows oid ≡ o → slice_get (unwrap_or o []) i ≡ Some row → Contains (tree.keys rows) oid
      by_got None got there = absurd (cc (there))
      by_got (Some found) got there = keys-contain tree.nat_cmp-IsAntisymmetric rows oid found got

  pub born-in_run : (events : List Move) (moment : MomentWithPast) → run_with_past script events ≡ Some moment
      → ObjectsWereBorn moment.world.hosts moment.world.wire moment.past.attempts
  born-in_run events moment is = record {
    rows = λ n host there oid i row at.
        All-contains (IsBorn moment.past.attempts) (tree.keys host.node.peer.rows) oid (holds.within.hosts n host there).rows
        (row_key host.node.peer.rows oid i row at);
    pending = λ n host there. (holds.within.hosts n host there).pending;
    listed = λ n host there. (holds.within.hosts n host there).listed;
    searched = λ n host there. (holds.within.hosts n host there).searched;
    asked = λ n host there place oid level message at is.
        subst (IsRowAskWithin (IsBorn moment.past.attempts)) is
        (got_is (IsAskedWithin (IsBorn moment.past.attempts)) host.node.recovery.unanswered place message
        (holds.within.hosts n host there).asked at);
    told = λ name from reply oids answering named.
        subst (SaidWithin (IsBorn moment.past.attempts)) named
        (holds.within.wire name (Reply from answering.bytes) answering.there reply answering.spelled);
  }
    where
      holds : HoldsOfBorn moment
      holds = run-kept_by_events script HoldsOfBorn opens_born events_born events moment is
