-- As a node steps, what it has, asks and says stays among the objects that are set apart, with those of the write that comes, if one does.
use Rattle.std.proofs.Common.{is_some}
use Rattle.std.proofs.Common.{◌≡◌, ◌≢◌, inl, inr, arith, ℕ, ◌==◌, ◌≤◌, Bool, true, false, cond, List, [], length, map, All, Contains}
use Rattle.std.proofs.Common.{Option, Some, None, IfSome, Ok, unwrap_or, refl, sym, ap, subst, ◌∙◌}
use Rattle.std.specs.FinMap as tree
use Rattle.std.proofs.lemmas.Bool.{eqb-true, eq-eqb}
use Rattle.std.proofs.lemmas.List.Elements.{All-nil, All-weaker, All-contains_itself}
use Rattle.proof_tools.proofs.Booleans.{cond_either}
use Rattle.proof_tools.proofs.Lists.{Contains-map}
use Rattle.object_id.specs.declared.limits.TheConstants.{VID_MAX}
use Rattle.object_id.specs.declared.node.NodeId.{NodeId}
use Rattle.object_id.specs.Oid.{inode_number}
use Rattle.cluster_script.specs.declared.statement.Statement.{Statement}
use Rattle.cluster_script.specs.Language.{IsScript}
use Rattle.cluster_script.specs.NumberedRequests.{request_at}
use Rattle.peer_proto.specs.declared.ask.PeerReq.{PeerReq}
use Rattle.peer_proto.specs.declared.guest.DiskAsk.TheVariants as disk_asks
use Rattle.peer_proto.specs.declared.say.PeerRsp.{PeerRsp}
use Rattle.peer_proto.specs.Ask.{ask_in}
use Rattle.peer_proto.specs.Say.{say_in}
use Rattle.peer_service.specs.State.{effects_of}
use Rattle.guest_driver.specs.declared.disk.Disk.{Disk}
use Rattle.guest_driver.specs.Pieces.{Piece, pieces}
use Rattle.sheep_node.specs.declared.ask.Ask.{Ask}
use Rattle.sheep_node.specs.declared.ask.Ask.TheVariants as asks
use Rattle.sheep_node.specs.declared.input.Input.TheVariants as inputs
use Rattle.sheep_node.specs.declared.session.Session.{Session}
use Rattle.sheep_node.specs.State.{new_session}
use Rattle.sheep_node.specs.StepState.{at_first}
use Rattle.sheep_node.specs.Step.{node_step}
use Rattle.sheep_node.specs.May.{May}
use Rattle.sheep_node.specs.OutsideAsks.{InputNamesObjects}
use Rattle.sheep_node.specs.SessionQueues.{session_among}
use Rattle.sheep_node.specs.Changes.{input_received}
use Rattle.message_wire.specs.declared.packet.Packet.{Packet}
use Rattle.message_wire.specs.declared.packet.Packet.TheVariants.{Request, Reply}
use Rattle.sheep_world.specs.World.{Host, World, is_host_up}
use Rattle.sheep_world.specs.BegunRequests.{WasBegun}
use Rattle.sheep_world.specs.NodeCauses.{NodeCause, GuestAsks, RequestComes, ReplyComes, LossIsTold, EntryIsRead, EntryIsPut, RecoveryTicks}
use Rattle.sheep_world.specs.NodeCauses.{WorkIsRetried, ClientAsks, input_of_cause, IsCause, progress_at_cause, world_after_cause}
use Rattle.sheep_world.specs.Began.{Began}
use Rattle.sheep_world.specs.LogHolds.{MayGrow}
use Rattle.sheep_world.specs.HoldsTogether.{RepliesFit}
use Rattle.sheep_world.proofs.StepsByCause.{served_silent}
use Rattle.overlap_law.proofs.CreatesOnTheWire.{AllSo}
use Rattle.overlap_law.proofs.GuestsOfScript.{asked_inside}
use Rattle.overlap_law.proofs.KnownDisks.{IsKnownInode}
use Rattle.overlap_law.proofs.KnownDisksInRuns.{nodes_know_by}
use Rattle.overlap_law.proofs.ObjectsCounted.{IsSetApart, few_asked}
use Rattle.overlap_law.proofs.ObjectsGrow.{ask_grows, said_grows, node_grows, requests_grow}
use Rattle.overlap_law.proofs.ObjectsOfInputs.{IsSmall, request_small, tick_within, served_requests}
use Rattle.overlap_law.proofs.ObjectsOfRequests.{IsOwn, own_object, objects_asked, AreWithin, IsNewWithin, IsInputWithin}
use Rattle.overlap_law.proofs.ObjectsOfRows.{AskWithin, SentWithin, SaidWithin, HasWithin}
use Rattle.overlap_law.proofs.ObjectsOfSteps.{BringsWithin, stepped_has}
use Rattle.overlap_law.proofs.ObjectsOfWorks.{sends_within, stay_within}
use Rattle.overlap_law.proofs.RefusedInRuns.{found_brings, found_grows, replies_grow, still_begun}
use Rattle.overlap_law.proofs.SendsOfChanges.{received_nothing, put_sends}
use Rattle.overlap_law.proofs.SoundWorlds.{IsSoundWorld, asks_on_may, named_by}
use Rattle.overlap_law.proofs.StartedAttempts.{IsStarted, next_is_new}
use Rattle.overlap_law.proofs.AsksInCauses.{names_read}
use Rattle.sheep_world.specs.ClientAsks.{is_read_ask}
use Rattle.peer_proto.specs.declared.work.ObjWork.TheVariants as works

-- ---- a world in which objects are set apart

abbrev pub IsHostWithin : (ℕ → Type 0) → Host → Type 0
IsHostWithin K host = HasWithin K host.node × AreWithin K host.node.requests host.node.sessions

abbrev pub PacketWithin : (ℕ → Type 0) → Packet → Type 0
PacketWithin K (Request to bytes) = (request : PeerReq) → ask_in bytes ≡ Ok request → AskWithin K request.ask
PacketWithin K (Reply from bytes) = (rsp : PeerRsp) → say_in bytes ≡ Ok rsp → SaidWithin K rsp.say

-- what is set apart for each request: few objects, of a request of the script that was started; and all objects are among them
pub record ObjectsAreSetApart (script : List Statement) (world : World) : Type 0 where
  pub made : ℕ → List ℕ
  pub short : (req : ℕ) → length (made req) ≤ 16385
  pub started : (req oid : ℕ) → Contains (made req) oid → IsStarted script world.guests req
  pub asked : (req oid : ℕ) → Contains (made req) oid → (line : Statement) × (request_at script req ≡ Some line)
  pub hosts : (n : ℕ) (host : Host) → tree.get world.hosts n ≡ Some host → IsHostWithin (IsSetApart made) host
  pub wire : AllSo (PacketWithin (IsSetApart made)) world.wire

-- the objects of what a guest asks, where its session has this open
abbrev new_objects : Option Disk → Ask → List ℕ
new_objects None ask = []
new_objects (Some disk) (asks.Disk ask) = objects_asked disk.inode ask
new_objects (Some disk) (asks.Vdi ask) = []
new_objects (Some disk) (asks.Object work) = []
new_objects (Some disk) (asks.Entry entry) = []

-- a client's read asks for none
read_within : (K : ℕ → Type 0) (disk : Option Disk) (ask : Ask) → is_read_ask ask ≡ true → IsNewWithin K disk ask
read_within K disk (asks.Disk ask) reads = absurd (cc (reads))
read_within K disk (asks.Vdi ask) reads = tt
read_within K disk (asks.Object (works.Create oid policy size offset bytes)) reads = absurd (cc (reads))
read_within K disk (asks.Object (works.Write oid policy offset bytes)) reads = tt
read_within K disk (asks.Object (works.Read oid policy offset size)) reads = tt
read_within K disk (asks.Object (works.ReadAll oid policy size)) reads = tt
read_within K disk (asks.Entry entry) reads = tt

-- what is set apart once a node steps for this
abbrev pub made_after : (ℕ → List ℕ) → Host → NodeCause → ℕ → List ℕ
made_after made host (GuestAsks session req ask) q =
    cond (q == req) (new_objects (session_among session.number host.node.sessions).disk ask) (made q)
made_after made host _ q = made q

module _ (script : List Statement) (is_script : IsScript script) (grows : (world : World) → Began script world → MayGrow world)
    (world : World)
    (began : Began script world) (is : IsSoundWorld script world) (replies : RepliesFit world) (apart : ObjectsAreSetApart script world)
    (n : ℕ) (host : Host) (there : tree.get world.hosts n ≡ Some host) (up : is_host_up host ≡ true) where
  -- what is set apart stays so
  stays : (cause : NodeCause) → IsCause script world n host cause → (q oid : ℕ) → Contains (apart.made q) oid
      → Contains (made_after apart.made host cause q) oid
  stays (GuestAsks session req ask) caused q oid had = by_number (q == req) refl
    where
      by_number : (b : Bool) → (q == req) ≡ b
          → Contains (cond b (new_objects (session_among session.number host.node.sessions).disk ask) (apart.made q)) oid
      by_number true same =
          absurd (next_is_new script world.guests session.number req caused.next
          (subst (IsStarted script world.guests) (eqb-true q req same) (apart.started q oid had)))
      by_number false other = had
  stays (RequestComes name to request) caused q oid had = had
  stays (ReplyComes name from rsp) caused q oid had = had
  stays (LossIsTold name packet) caused q oid had = had
  stays (EntryIsRead entry) caused q oid had = had
  stays (EntryIsPut entry) caused q oid had = had
  stays RecoveryTicks caused q oid had = had
  stays WorkIsRetried caused q oid had = had
  stays (ClientAsks req ask) caused q oid had = had

  -- ---- a write that comes

  session_known : (session : ℕ)
      → IfSome (session_among session host.node.sessions).disk (λ (disk : Disk). IsKnownInode (effects_of host.node.peer) disk.inode)
  session_known session = by_got (tree.get host.node.sessions session) refl
    where
      by_got : (o : Option Session) → tree.get host.node.sessions session ≡ o
          → IfSome (unwrap_or o new_session).disk (λ (disk : Disk). IsKnownInode (effects_of host.node.peer) disk.inode)
      by_got None got = tt
      by_got (Some one) got = ((nodes_know_by script is_script grows world began n host there).each_session session one got).disk

  few_new : (disk : Option Disk) (ask : Ask) → IfSome disk (λ (disk : Disk). IsKnownInode (effects_of host.node.peer) disk.inode)
      → IsSmall ask
      → length (new_objects disk ask) ≤ 16385
  few_new None ask known small = omega arith
  few_new (Some disk) (asks.Disk ask) known small = few_asked disk.inode ask known.disk.spec_valid small
  few_new (Some disk) (asks.Vdi ask) known small = omega arith
  few_new (Some disk) (asks.Object work) known small = omega arith
  few_new (Some disk) (asks.Entry entry) known small = omega arith

  pub short_after : (cause : NodeCause) → IsCause script world n host cause → (q : ℕ) → length (made_after apart.made host cause q) ≤ 16385
  short_after (GuestAsks session req ask) caused q =
      cond_either (λ (oids : List ℕ). length oids ≤ 16385) (q == req)
      (new_objects (session_among session.number host.node.sessions).disk ask) (apart.made q)
      (few_new (session_among session.number host.node.sessions).disk ask (session_known session.number)
      (request_small script is_script req caused.line ask caused.stands caused.asks)) (apart.short q)
  short_after (RequestComes name to request) caused q = apart.short q
  short_after (ReplyComes name from rsp) caused q = apart.short q
  short_after (LossIsTold name packet) caused q = apart.short q
  short_after (EntryIsRead entry) caused q = apart.short q
  short_after (EntryIsPut entry) caused q = apart.short q
  short_after RecoveryTicks caused q = apart.short q
  short_after WorkIsRetried caused q = apart.short q
  short_after (ClientAsks req ask) caused q = apart.short q

  module _ (cause : NodeCause) (caused : IsCause script world n host cause) where
    abbrev after : World
    after = world_after_cause script n host cause world

    begun_so : (session req : ℕ) → WasBegun script (progress_at_cause cause world) session req → WasBegun script after.guests session req
    begun_so session req begun =
        still_begun script (progress_at_cause cause world) after.guests
        (replies_grow script (node_step (input_of_cause cause) host.node).outputs.replies (progress_at_cause cause world)) session req begun

    old_started : (q oid : ℕ) → Contains (apart.made q) oid → IsStarted script after.guests q
    old_started q oid had =
        let (session, begun) = apart.started q oid had in (
          session,
          begun_so session q
              (still_begun script world.guests (progress_at_cause cause world)
              (found_grows script world began n host there cause) session q begun),
        )

  pub started_after : (cause : NodeCause) (caused : IsCause script world n host cause) (q oid : ℕ)
      → Contains (made_after apart.made host cause q) oid
      → IsStarted script (world_after_cause script n host cause world).guests q
  started_after (GuestAsks session req ask) caused q oid has = by_number (q == req) refl has
    where
      cause : NodeCause
      cause = GuestAsks session req ask

      by_number : (b : Bool) → (q == req) ≡ b
          → Contains (cond b (new_objects (session_among session.number host.node.sessions).disk ask) (apart.made q)) oid
          → IsStarted script (world_after_cause script n host (GuestAsks session req ask) world).guests q
      by_number true same has =
          subst (IsStarted script (world_after_cause script n host (GuestAsks session req ask) world).guests) (sym (eqb-true q req same)) (
            session.number,
            begun_so (GuestAsks session req ask) caused session.number req
                (found_brings script world began n host there (GuestAsks session req ask) caused req session.number ask refl
                (ap (λ (o : Option Statement). is_some o) caused.stands)),
          )
      by_number false other has = old_started (GuestAsks session req ask) caused q oid has
  started_after (RequestComes name to request) caused q oid has = old_started (RequestComes name to request) caused q oid has
  started_after (ReplyComes name from rsp) caused q oid has = old_started (ReplyComes name from rsp) caused q oid has
  started_after (LossIsTold name packet) caused q oid has = old_started (LossIsTold name packet) caused q oid has
  started_after (EntryIsRead entry) caused q oid has = old_started (EntryIsRead entry) caused q oid has
  started_after (EntryIsPut entry) caused q oid has = old_started (EntryIsPut entry) caused q oid has
  started_after RecoveryTicks caused q oid has = old_started RecoveryTicks caused q oid has
  started_after WorkIsRetried caused q oid has = old_started WorkIsRetried caused q oid has
  started_after (ClientAsks req ask) caused q oid has = old_started (ClientAsks req ask) caused q oid has

  abbrev IsAsked : ℕ → Type 0
  IsAsked q = (line : Statement) × (request_at script q ≡ Some line)

  pub asked_after : (cause : NodeCause) (caused : IsCause script world n host cause) (q oid : ℕ)
      → Contains (made_after apart.made host cause q) oid
      → IsAsked q
  asked_after (GuestAsks session req ask) caused q oid has = by_number (q == req) refl has
    where
      by_number : (b : Bool) → (q == req) ≡ b
          → Contains (cond b (new_objects (session_among session.number host.node.sessions).disk ask) (apart.made q)) oid
          → IsAsked q
      by_number true same has = subst IsAsked (sym (eqb-true q req same)) (caused.line, caused.stands)
      by_number false other has = apart.asked q oid has
  asked_after (RequestComes name to request) caused q oid has = apart.asked q oid has
  asked_after (ReplyComes name from rsp) caused q oid has = apart.asked q oid has
  asked_after (LossIsTold name packet) caused q oid has = apart.asked q oid has
  asked_after (EntryIsRead entry) caused q oid has = apart.asked q oid has
  asked_after (EntryIsPut entry) caused q oid has = apart.asked q oid has
  asked_after RecoveryTicks caused q oid has = apart.asked q oid has
  asked_after WorkIsRetried caused q oid has = apart.asked q oid has
  asked_after (ClientAsks req ask) caused q oid has = apart.asked q oid has

  -- what comes is among what is set apart
  abbrev Set : NodeCause → ℕ → Type 0
  Set cause = IsSetApart (made_after apart.made host cause)

  input_within : (cause : NodeCause) → IsCause script world n host cause → IsInputWithin (Set cause) (input_of_cause cause) host.node
  input_within (GuestAsks session req ask) caused = by_ask (session_among session.number host.node.sessions).disk refl ask refl
    where
      by_ask : (o : Option Disk) → (session_among session.number host.node.sessions).disk ≡ o → (a : Ask) → ask ≡ a
          → IsNewWithin (Set (GuestAsks session req ask)) o a
      by_ask None open_so (asks.Disk (disk_asks.Read offset size)) same = tt
      by_ask None open_so (asks.Disk (disk_asks.Write offset payload)) same = tt
      by_ask (Some disk) open_so (asks.Disk (disk_asks.Read offset size)) same = tt
      by_ask (Some disk) open_so (asks.Disk (disk_asks.Write offset payload)) same =
          let all : List Piece = pieces disk.inode.spec.shift offset (length payload) in
          let new : made_after apart.made host (GuestAsks session req ask) req ≡ map (own_object disk.inode.vid) all
          = ap (λ (b : Bool). cond b (new_objects (session_among session.number host.node.sessions).disk ask) (apart.made req))
          (eq-eqb req req refl)
          ∙ ap (λ (o : Option Disk). new_objects o ask) open_so ∙ ap (new_objects (Some disk)) same in
          All-weaker (Contains all) (IsOwn (Set (GuestAsks session req ask)) disk.inode.vid)
          (λ piece among. inl (
            req,
            subst (λ (oids : List ℕ). Contains oids (own_object disk.inode.vid piece)) (sym new)
                (Contains-map (own_object disk.inode.vid) all piece among),
          )) all (All-contains_itself all)
      by_ask o open_so (asks.Vdi command) same = tt
      by_ask o open_so (asks.Object work) same =
          let inside = asked_inside caused.line ask caused.asks in
          absurd (cc (inside, same))
      by_ask o open_so (asks.Entry entry) same = tt
  input_within (RequestComes name to request) caused = tt
  input_within (ReplyComes name from rsp) caused = tt
  input_within (LossIsTold name packet) caused = tt
  input_within (EntryIsRead entry) caused = tt
  input_within (EntryIsPut entry) caused = tt
  input_within RecoveryTicks caused = tt
  input_within WorkIsRetried caused = tt
  input_within (ClientAsks req ask) caused =
      read_within (Set (ClientAsks req ask)) (session_among 0 host.node.sessions).disk ask caused.reads

  -- ---- the step

  module _ (cause : NodeCause) (caused : IsCause script world n host cause) where
    abbrev L : ℕ → Type 0
    L = Set cause

    pub more : (oid : ℕ) → IsSetApart apart.made oid → L oid
    more oid (inl had) = inl (had.0, stays cause caused had.0 oid had.1)
    more oid (inr inode) = inr inode

    inodes : (vid : ℕ) → vid ≤ VID_MAX → L (inode_number vid)
    inodes vid most = inr (vid, most, refl)

    has_so : HasWithin L host.node
    has_so = node_grows (IsSetApart apart.made) L more host.node (apart.hosts n host there).0

    requests : AreWithin L host.node.requests host.node.sessions
    requests = requests_grow (IsSetApart apart.made) L more host.node.requests host.node.sessions (apart.hosts n host there).1

    pub record IsStepWithin : Type 0 where
      pub requests_so : AreWithin L
          (node_step (input_of_cause cause) host.node).node.requests (node_step (input_of_cause cause) host.node).node.sessions
      pub sends_so : All (SentWithin L) (node_step (input_of_cause cause) host.node).outputs.sends

    brings : BringsWithin L host.node has_so (input_of_cause cause)
    brings = by_cause cause caused more has_so
      where
        by_cause : (cause : NodeCause) → IsCause script world n host cause → ((oid : ℕ) → IsSetApart apart.made oid → Set cause oid)
            → (has : HasWithin (Set cause) host.node)
            → BringsWithin (Set cause) host.node has (input_of_cause cause)
        by_cause (GuestAsks session req ask) caused more has = tt
        by_cause (RequestComes name to request) caused more has =
            ask_grows (IsSetApart apart.made) (Set (RequestComes name to request)) more request.ask
            (apart.wire name (Request to caused.bytes) caused.there request caused.read)
        by_cause (ReplyComes name from rsp) caused more has =
            said_grows (IsSetApart apart.made) (Set (ReplyComes name from rsp)) more rsp.say
            (apart.wire name (Reply from caused.bytes) caused.there rsp caused.read)
        by_cause (LossIsTold name packet) caused more has = tt
        by_cause (EntryIsRead entry) caused more has = tt
        by_cause (EntryIsPut entry) caused more has = tt
        by_cause RecoveryTicks caused more has = tt
        by_cause WorkIsRetried caused more has = tt
        by_cause (ClientAsks req ask) caused more has = tt

    pub has_after : HasWithin L (node_step (input_of_cause cause) host.node).node
    has_after = stepped_has L host.node has_so (input_of_cause cause) brings

    by_may : May (input_of_cause cause) host.node → InputNamesObjects (input_of_cause cause)
        → AreWithin L (node_step (input_of_cause cause) host.node).node.requests (node_step (input_of_cause cause) host.node).node.sessions
    by_may may named =
        stay_within L inodes (input_of_cause cause) host.node may named (is.hosts n host there).node (input_within cause caused) requests

    sends_by : May (input_of_cause cause) host.node → InputNamesObjects (input_of_cause cause)
        → All (SentWithin L) (input_received (input_of_cause cause) (at_first host.node)).outputs.sends
        → All (SentWithin L) (node_step (input_of_cause cause) host.node).outputs.sends
    sends_by may named received =
        sends_within L inodes (input_of_cause cause) host.node may named (is.hosts n host there).node
        (input_within cause caused) requests received

    none_sent : (sends : List (NodeId × PeerReq)) → sends ≡ [] → All (SentWithin L) sends
    none_sent sends none = subst (All (SentWithin L)) (sym none) (All-nil (SentWithin L))

    may : ((request : PeerReq) → input_of_cause cause ≢ inputs.Request request) → May (input_of_cause cause) host.node
    may other = asks_on_may script is_script grows world began is replies n host there up cause caused other

    both : ((request : PeerReq) → input_of_cause cause ≢ inputs.Request request) → InputNamesObjects (input_of_cause cause)
        → All (SentWithin L) (input_received (input_of_cause cause) (at_first host.node)).outputs.sends → IsStepWithin
    both other named received = record { requests_so = by_may (may other) named; sends_so = sends_by (may other) named received }

  pub step_within : (cause : NodeCause) (caused : IsCause script world n host cause) → IsStepWithin cause caused
  step_within (GuestAsks session req ask) caused =
      both (GuestAsks session req ask) caused (λ request same. absurd (cc (same))) (named_by caused.line ask caused.asks)
      (none_sent (GuestAsks session req ask) caused _ (received_nothing (GuestAsks session req ask) host.node tt).1)
  step_within (RequestComes name to request) caused = record {
    requests_so = served_requests (Set (RequestComes name to request)) request host.node (requests (RequestComes name to request) caused);
    sends_so = none_sent (RequestComes name to request) caused _ (served_silent request host.node);
  }
  step_within (ReplyComes name from rsp) caused =
      both (ReplyComes name from rsp) caused (λ request same. absurd (cc (same))) tt
      (none_sent (ReplyComes name from rsp) caused _ (received_nothing (ReplyComes name from rsp) host.node tt).1)
  step_within (LossIsTold name packet) caused =
      both (LossIsTold name packet) caused (λ request same. absurd (cc (same))) tt
      (none_sent (LossIsTold name packet) caused _ (received_nothing (LossIsTold name packet) host.node tt).1)
  step_within (EntryIsRead entry) caused =
      both (EntryIsRead entry) caused (λ request same. absurd (cc (same))) tt
      (none_sent (EntryIsRead entry) caused _ (received_nothing (EntryIsRead entry) host.node tt).1)
  step_within (EntryIsPut entry) caused = record {
    requests_so = by_may (EntryIsPut entry) caused (may (EntryIsPut entry) caused (λ request same. absurd (cc (same)))) tt;
    sends_so = none_sent (EntryIsPut entry) caused _ (put_sends host.node);
  }
  step_within RecoveryTicks caused =
      both RecoveryTicks caused (λ request same. absurd (cc (same))) tt (tick_within (Set RecoveryTicks) host.node)
  step_within WorkIsRetried caused =
      both WorkIsRetried caused (λ request same. absurd (cc (same))) tt
      (none_sent WorkIsRetried caused _ (received_nothing WorkIsRetried host.node tt).1)
  step_within (ClientAsks req ask) caused =
      both (ClientAsks req ask) caused (λ request same. absurd (cc (same))) (names_read ask caused.reads)
      (none_sent (ClientAsks req ask) caused _ (received_nothing (ClientAsks req ask) host.node tt).1)
