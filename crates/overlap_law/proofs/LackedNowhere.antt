-- Over each change of a moment no message for a disk comes to be refused for want of its object, if the disk was available, and is neither
-- deleted nor given back. For a message that was there is for the same disk as before; a reply that comes was on its way; one that is sent
-- says nothing of the kind; and of a message that is sent nothing came yet.
use Rattle.std.proofs.Common.{◌≡◌, ◌≢◌, ◌⊎◌, inl, inr, ⊎_elim, arith, ℕ, zero, suc, ◌==◌, ◌||◌, not, Bool, true, false, cond, List, [], ◌∷◌}
use Rattle.std.proofs.Common.{fold, Option, Some, is_some, slice_get, refl, sym, ap, subst, ◌∙◌}
use Rattle.std.specs.List.{list_any}
use Rattle.std.specs.FinMap as tree
use Rattle.std.proofs.lemmas.Bool.{and_parts, eqb-true, not-true}
use Rattle.proof_tools.proofs.FiniteMaps.{get-insert_cases}
use Rattle.object_id.specs.declared.entry.Entry.{Entry}
use Rattle.object_id.specs.declared.node.NodeId.{NodeId}
use Rattle.vdi_directory.specs.Dead.{is_gone}
use Rattle.vdi_directory.specs.Decisions.{log_effects}
use Rattle.vdi_directory.specs.States.{state_of}
use Rattle.cluster_script.specs.declared.statement.Statement.{Statement}
use Rattle.peer_proto.specs.declared.ask.PeerReq.{PeerReq}
use Rattle.peer_proto.specs.declared.say.PeerRsp.{PeerRsp}
use Rattle.peer_proto.specs.declared.say.PeerSay.{PeerSay}
use Rattle.peer_proto.specs.declared.say.PeerSay.TheVariants as says
use Rattle.peer_proto.specs.declared.say.Refusal.TheVariants as refusals
use Rattle.gateway.specs.declared.message.Message.{Message}
use Rattle.gateway.specs.declared.message.Status.{Status}
use Rattle.gateway.specs.declared.message.Status.TheVariants as statuses
use Rattle.gateway.specs.Attempt.{is_unanswered, is_awaited_message, status_by}
use Rattle.gateway.specs.State.{WorkStage, open_messages, is_awaited_in}
use Rattle.message_wire.specs.declared.name.MessageName.{MessageName}
use Rattle.message_wire.specs.declared.packet.Packet.{Packet}
use Rattle.message_wire.specs.declared.packet.Packet.TheVariants.{Reply}
use Rattle.message_wire.specs.Message.{message_name}
use Rattle.sheep_node.specs.May.{has_numbers}
use Rattle.sheep_node.specs.State.{Node}
use Rattle.sheep_node.specs.StepState.{StepState}
use Rattle.sheep_node.specs.Changes.{IsTold}
use Rattle.sheep_world.specs.Began.{Began}
use Rattle.sheep_world.specs.NodeSteps.{wire_with_request}
use Rattle.sheep_world.specs.NodeCauses.{NodeCause, GuestAsks, RequestComes, ReplyComes, LossIsTold, EntryIsRead, EntryIsPut, RecoveryTicks}
use Rattle.sheep_world.specs.NodeCauses.{WorkIsRetried, ClientAsks, input_of_cause, IsCause, host_with_node, progress_at_cause}
use Rattle.sheep_world.specs.NodeCauses.{wire_at_cause}
use Rattle.sheep_world.specs.World.{Host}
use Rattle.sheep_world.proofs.SenderMatch.{packets_of}
use Rattle.sheep_world.proofs.NodeConditions.{reply_numbered}
use Rattle.sheep_world.proofs.WireAfterSends.{IsSent, got_sent}
use Rattle.sheep_world.specs.RunsWithAsks.{Move}
use Rattle.overlap_law.specs.MomentChanges.{RunsAreInRange}
use Rattle.overlap_law.specs.NoObjects.{IsMessageFor, NothingIsLacked}
use Rattle.overlap_law.specs.Packets.{Wire, IsAnswering}
use Rattle.overlap_law.specs.Past.{MomentWithPast, run_with_past}
use Rattle.overlap_law.specs.Reached.{Hosts}
use Rattle.overlap_law.specs.StepMoments.{SteppingNode, IsStepping, StepsByChanges, LeadsInStep, first_in_step, moment_in_step}
use Rattle.overlap_law.proofs.CausedWorks.{by_changes}
use Rattle.overlap_law.proofs.CoursesOfScript.{asked_by, BeganOn, brings, requests_placed, placed_found}
use Rattle.overlap_law.proofs.KnownSteps.{IsKnownStep, known_step}
use Rattle.overlap_law.proofs.MessagesOfDisks.{was_for}
use Rattle.overlap_law.proofs.NoRecoveredDue.{began-with_past}
use Rattle.overlap_law.proofs.OpenStatuses.{WasMessage, IsNewMessage, known_so_far}
use Rattle.overlap_law.proofs.TrafficOfChanges.{wire-in_step}
use Rattle.overlap_law.proofs.UnansweredInMoments.{told_gone}
use Rattle.overlap_law.proofs.WaitedInRuns.{works_waited, waits_then}
use Rattle.overlap_law.proofs.WholeInRuns.{sound_here, may_change}
use Rattle.overlap_law.proofs.WireLemmas.{left_before}

-- ---- messages that are awaited

-- an element that passes a test has a place
pub found_at : {X : Type 0} (test : X → Bool) (xs : List X) → list_any test xs ≡ true
    → (place : ℕ) × (x : X) × (slice_get xs place ≡ Some x) × (test x ≡ true)
found_at {X} test [] is = absurd (cc (is))
found_at {X} test (y ∷ xs) is = by_first (test y) refl (λ later. found_at test xs later) is
  where
    by_first : (b : Bool) → test y ≡ b
        → (list_any test xs ≡ true → (place : ℕ) × (x : X) × (slice_get xs place ≡ Some x) × (test x ≡ true))
        → (b || list_any test xs) ≡ true → (place : ℕ) × (x : X) × (slice_get (y ∷ xs) place ≡ Some x) × (test x ≡ true)
    by_first true passes rest found = (zero, y, refl, passes)
    by_first false fails rest found = let (place, x, got, so) = rest found in (suc place, x, got, so)

pub awaited_one : (number : ℕ) (message : Message) → is_awaited_message number message ≡ true
    → (message.number ≡ number) × (message.status ≡ statuses.Unanswered)
awaited_one number message is = by_tie (message.number == number) refl is
  where
    by_status : (status : Status) → message.status ≡ status → is_unanswered status ≡ true → message.status ≡ statuses.Unanswered
    by_status statuses.Unanswered so is = so
    by_status (statuses.Succeeded bytes) so is = absurd (cc (is))
    by_status (statuses.Refused refusal) so is = absurd (cc (is))
    by_status statuses.Lost so is = absurd (cc (is))

    by_tie : (b : Bool) → (message.number == number) ≡ b → cond b (is_unanswered message.status) false ≡ true
        → (message.number ≡ number) × (message.status ≡ statuses.Unanswered)
    by_tie true tie passes = (eqb-true message.number number tie, by_status message.status refl passes)
    by_tie false tie passes = absurd (cc (passes))

-- only a refusal for want of an object tells of one
said_so : (say : PeerSay) → status_by say ≡ statuses.Refused refusals.NoObj → say ≡ says.Refused refusals.NoObj
said_so says.Success is = absurd (cc (is))
said_so (says.Piece bytes) is = absurd (cc (is))
said_so (says.Objects oids) is = absurd (cc (is))
said_so (says.Row row) is = absurd (cc (is))
said_so says.NoRow is = absurd (cc (is))
said_so (says.Refused refusal) is = cc (is)

-- ---- from what was at the start

module _ (start : MomentWithPast) (good_id : ℕ → Bool)
    (lacked : NothingIsLacked (log_effects start.world.log) good_id start.world.hosts start.world.wire) (log : List Entry)
    (stood : (vid : ℕ) → is_gone (state_of (log_effects log) vid) ≡ false → is_gone (state_of (log_effects start.world.log) vid) ≡ false)
    (hosts : Hosts) (wire : Wire) where
  -- a message was there at the start, with the status that it has
  pub record WasThere (n vid : ℕ) (message : Message) : Type 0 where
    pub old : Host
    pub there : tree.get start.world.hosts n ≡ Some old
    pub up : old.is_lost ≡ false
    pub m : Message
    pub meant : IsMessageFor old.node vid m
    pub number : message.number ≡ m.number
    pub status : message.status ≡ m.status

  -- or it isn't refused so, and no reply to it is on its way
  pub record IsClear (n : ℕ) (message : Message) : Type 0 where
    pub known : message.status ≢ statuses.Refused refusals.NoObj
    pub told : message.status ≡ statuses.Unanswered → (from : NodeId) (reply : PeerRsp)
        → IsAnswering wire (message_name n message.number) from reply → ⊥

  abbrev pub MessagesCome : ℕ → Node → Type 0
  MessagesCome n node = (vid : ℕ) (message : Message) → IsMessageFor node vid message → is_gone (state_of (log_effects log) vid) ≡ false
      → good_id vid ≡ true → WasThere n vid message ⊎ IsClear n message

  -- a reply says nothing so of a message
  abbrev pub IsFine : MessageName → PeerRsp → Type 0
  IsFine name reply = (n : ℕ) (host : Host) → tree.get start.world.hosts n ≡ Some host → host.is_lost ≡ false → (vid : ℕ)
      (message : Message)
      → IsMessageFor host.node vid message → message.status ≡ statuses.Unanswered
      → is_gone (state_of (log_effects start.world.log) vid) ≡ false → good_id vid ≡ true → message_name n message.number ≡ name
      → reply.say ≢ says.Refused refusals.NoObj

  -- each reply was on its way, or is fine
  abbrev pub RepliesCome : Type 0
  RepliesCome = (name : MessageName) (from : NodeId) (reply : PeerRsp) → IsAnswering wire name from reply
      → IsAnswering start.world.wire name from reply ⊎ IsFine name reply

  pub lacked_then : ((n : ℕ) (host : Host) → tree.get hosts n ≡ Some host → host.is_lost ≡ false → MessagesCome n host.node) → RepliesCome
      → NothingIsLacked (log_effects log) good_id hosts wire
  lacked_then messages replies = record {
    known = λ n host at up vid message meant stands good refused. ⊎_elim
        (λ (was : WasThere n vid message).
        lacked.known n was.old was.there was.up vid was.m was.meant (stood vid stands) good (sym was.status ∙ refused))
        (λ (clear : IsClear n message). clear.known refused)
        (messages n host at up vid message meant stands good);
    told = λ n host at up vid message from reply meant new stands good answering. ⊎_elim
        (λ (was : WasThere n vid message).
        ⊎_elim
        (λ (old : IsAnswering start.world.wire (message_name n message.number) from reply).
        lacked.told n was.old was.there was.up vid was.m from reply was.meant (sym was.status ∙ new) (stood vid stands) good
        (subst (λ (k : ℕ). IsAnswering start.world.wire (message_name n k) from reply) was.number old))
        (λ (fine : IsFine (message_name n message.number) reply).
        fine n was.old was.there was.up vid was.m was.meant (sym was.status ∙ new) (stood vid stands) good
        (ap (message_name n) (sym was.number)))
        (replies (message_name n message.number) from reply answering))
        (λ (clear : IsClear n message). absurd (clear.told new from reply answering))
        (messages n host at up vid message meant stands good);
  }

  -- a host that is as it was at the start
  pub same_messages : (n : ℕ) (old : Host) (node : Node) → tree.get start.world.hosts n ≡ Some old → old.is_lost ≡ false
      → ((vid : ℕ) (message : Message) → IsMessageFor node vid message → IsMessageFor old.node vid message) → MessagesCome n node
  same_messages n old node there up before vid message meant stands good =
      inl (record {
        old = old;
        there = there;
        up = up;
        m = message;
        meant = before vid message meant;
        number = refl;
        status = refl;
      })

-- ---- a node's step that goes by changes

module _ (script : List Statement) (range : RunsAreInRange script) (events : List Move) (start : MomentWithPast)
    (ran : run_with_past script events ≡ Some start) (good_id : ℕ → Bool)
    (lacked : NothingIsLacked (log_effects start.world.log) good_id start.world.hosts start.world.wire) where
  began : Began script start.world
  began = began-with_past script events start ran

  -- what is gone stays so
  abbrev Stood : List Entry → Type 0
  Stood log = (vid : ℕ) → is_gone (state_of (log_effects log) vid) ≡ false → is_gone (state_of (log_effects start.world.log) vid) ≡ false

  -- replies on their way after some sends were on their way before them
  pub sent_replies : (wire : Wire) (sends : List (NodeId × PeerReq)) (name : MessageName) (from : NodeId) (reply : PeerRsp)
      → IsAnswering (fold wire_with_request wire sends) name from reply → IsAnswering wire name from reply
  sent_replies wire sends name from reply answering = ⊎_elim
      (λ (new : IsSent sends name (Reply from answering.bytes)). let (send, there, named, is) = new in absurd (cc (is)))
      (λ (old : tree.get wire name ≡ Some (Reply from answering.bytes)).
      record { bytes = answering.bytes; there = old; spelled = answering.spelled })
      (got_sent sends wire name (Reply from answering.bytes) answering.there)

  caused_replies : (cause : NodeCause) (name : MessageName) (from : NodeId) (reply : PeerRsp)
      → IsAnswering (wire_at_cause cause start.world.wire) name from reply → IsAnswering start.world.wire name from reply
  caused_replies (GuestAsks session req ask) name from reply answering = answering
  caused_replies (RequestComes own to request) name from reply answering = answering
  caused_replies (ReplyComes own sender rsp) name from reply answering = record {
    bytes = answering.bytes;
    there = left_before start.world.wire own name (Reply from answering.bytes) answering.there;
    spelled = answering.spelled;
  }
  caused_replies (LossIsTold own packet) name from reply answering = record {
    bytes = answering.bytes;
    there = left_before start.world.wire own name (Reply from answering.bytes) answering.there;
    spelled = answering.spelled;
  }
  caused_replies (EntryIsRead entry) name from reply answering = answering
  caused_replies (EntryIsPut entry) name from reply answering = answering
  caused_replies RecoveryTicks name from reply answering = answering
  caused_replies WorkIsRetried name from reply answering = answering
  caused_replies (ClientAsks req ask) name from reply answering = answering

  module _ (stepping : SteppingNode) (is : IsStepping script start.world stepping) (by : StepsByChanges stepping.cause) (so_far : StepState)
      (leads : LeadsInStep stepping (first_in_step stepping) so_far) where
    abbrev moment : MomentWithPast
    moment = moment_in_step script stepping start so_far

    abbrev node : Node
    node = stepping.host.node

    known : IsKnownStep script start.world stepping
    known = known_step script range start.world began stepping is

    old_replies : (name : MessageName) (from : NodeId) (reply : PeerRsp) → IsAnswering moment.world.wire name from reply
        → IsAnswering start.world.wire name from reply
    old_replies name from reply answering =
        caused_replies stepping.cause name from reply
        (sent_replies (wire_at_cause stepping.cause start.world.wire) so_far.outputs.sends name from reply
        (subst (λ (wire : Wire). IsAnswering wire name from reply) (wire-in_step script range start began stepping by so_far) answering))

    pub awake : stepping.host.is_lost ≡ false
    awake = not-true stepping.host.is_lost (and_parts (not stepping.host.is_lost) (has_numbers node) is.up).0

    module _ (stood : Stood moment.world.log) where
      abbrev Clear : Message → Type 0
      Clear = IsClear start good_id lacked moment.world.log stood moment.world.hosts moment.world.wire stepping.n

      -- what the step is told of a message isn't that
      pub heard_one : (vid : ℕ) (one : Message) → IsMessageFor node vid one → is_gone (state_of (log_effects moment.world.log) vid) ≡ false
          → good_id vid ≡ true → (number : ℕ) (status : Status) → one.number ≡ number → one.status ≡ statuses.Unanswered
          → (cause : NodeCause) → IsCause script start.world stepping.n stepping.host cause → IsTold (input_of_cause cause) number status
          → status ≢ statuses.Refused refusals.NoObj
      heard_one vid one meant stands good number status same new (GuestAsks session req ask) caused told refused = absurd told
      heard_one vid one meant stands good number status same new (RequestComes name to request) caused told refused = absurd told
      heard_one vid one meant stands good number status same new (ReplyComes name from rsp) caused told refused =
          let got_packet = ap (λ (k : ℕ). packets_of start.world.wire k name.number) (sym caused.here) ∙ caused.there in
          let numbered = reply_numbered stepping.n name.number stepping.host (packets_of start.world.wire stepping.n) from caused.bytes rsp
          known.ready.matches got_packet caused.read in
          let number_so : name.number ≡ one.number = sym numbered ∙ told.0 ∙ sym same in
          let named : name ≡ message_name stepping.n one.number
          = λ i. record { sender = record { 0 = caused.here i }; number = number_so i } in
          lacked.told stepping.n stepping.host is.there awake vid one from rsp meant new (stood vid stands) good
          (subst (λ (q : MessageName). IsAnswering start.world.wire q from rsp) named
          (record { bytes = caused.bytes; there = caused.there; spelled = caused.read }))
          (said_so rsp.say (told.1 ∙ refused))
      heard_one vid one meant stands good number status same new (LossIsTold name packet) caused told refused =
          let lost = told.1 ∙ refused in absurd (cc (lost))
      heard_one vid one meant stands good number status same new (EntryIsRead entry) caused told refused = absurd told
      heard_one vid one meant stands good number status same new (EntryIsPut entry) caused told refused = absurd told
      heard_one vid one meant stands good number status same new RecoveryTicks caused told refused = absurd told
      heard_one vid one meant stands good number status same new WorkIsRetried caused told refused = absurd told
      heard_one vid one meant stands good number status same new (ClientAsks req ask) caused told refused = absurd told

      pub heard : (vid : ℕ) (m : Message) (meant : IsMessageFor node vid m) → is_gone (state_of (log_effects moment.world.log) vid) ≡ false
          → good_id vid ≡ true → (number : ℕ) (status : Status) → is_awaited_in number meant.work ≡ true
          → IsTold (input_of_cause stepping.cause) number status → status ≢ statuses.Refused refusals.NoObj
      heard vid m meant stands good number status waits told =
          let (place, one, got, awaited) = found_at (is_awaited_message number) meant.current.messages
          (subst (λ (stage : WorkStage). list_any (is_awaited_message number) (open_messages stage) ≡ true) meant.stage waits) in
          let (same, new) = awaited_one number one awaited in
          heard_one vid one
          (record {
            req = meant.req;
            work = meant.work;
            current = meant.current;
            request = meant.request;
            place = place;
            there = meant.there;
            stage = meant.stage;
            among = got;
            asker = meant.asker;
            disk = meant.disk;
          })
          stands good number status same new stepping.cause is.caused told

      own_messages : MessagesCome start good_id lacked moment.world.log stood moment.world.hosts moment.world.wire stepping.n so_far.node
      own_messages vid message meant stands good = ⊎_elim
          (λ (was : WasMessage (input_of_cause stepping.cause) node meant.req meant.work meant.current meant.place message).
          let before = was_for (asked_by script) (BeganOn script (progress_at_cause stepping.cause start.world))
          (input_of_cause stepping.cause) node known.sound
          (placed_found script range start.world began stepping.n stepping.host stepping.cause node
          (requests_placed script range start.world began stepping.n stepping.host is.there))
          (brings script start.world stepping.n stepping.host stepping.cause is.there is.caused)
          (may_change script range start.world began stepping.n stepping.host is.there is.up stepping.cause (by_changes stepping.cause by)
          is.caused)
          (sound_here script range start.world began stepping.n stepping.host is.there is.up).queues
          (sound_here script range start.world began stepping.n stepping.host is.there is.up).sole_commands
          (works_waited script range start.world began stepping.n stepping.host is.there).1 so_far leads
          (waits_then script range start.world began stepping.n stepping.host is.there is.up stepping.cause (by_changes stepping.cause by)
          is.caused (works_waited script range start.world began stepping.n stepping.host is.there) so_far leads).0.1 vid message meant
          was in
          ⊎_elim
          (λ (same : message.status ≡ was.m.status).
          inl (record {
            old = stepping.host;
            there = is.there;
            up = awake;
            m = was.m;
            meant = before.meant;
            number = was.number_so;
            status = same;
          }))
          (λ (told : IsTold (input_of_cause stepping.cause) message.number message.status
          × (is_awaited_in message.number was.open_so.was ≡ true)).
          inr (record {
            known = heard vid was.m before.meant stands good message.number message.status
                (ap (is_awaited_in message.number) before.work_so ∙ told.1) told.0;
            told = λ new from reply answering.
                let gone = told_gone script range start began stepping known is by so_far leads message.number message.status told.0 in
                let there = ap (λ (o : Option Packet). is_some o) answering.there in
                cc (gone, there);
          }))
          was.status_so)
          (λ (new : IsNewMessage (input_of_cause stepping.cause) node message).
          inr (record {
            known = λ refused. let none = sym new.unanswered ∙ refused in cc (none);
            told = λ unanswered from reply answering.
                let old = old_replies (message_name stepping.n message.number) from reply answering in
                let below = known.ready.matches.given message.number (Reply from old.bytes) old.there in
                let above = new.above in
                omega (arith, below, above);
          }))
          (known_so_far (input_of_cause stepping.cause) node known.given known.sound so_far leads meant.req meant.work meant.current
          meant.place
          message meant.there meant.stage meant.among)

      pub lacked_in_step : NothingIsLacked (log_effects moment.world.log) good_id moment.world.hosts moment.world.wire
      lacked_in_step =
          lacked_then start good_id lacked moment.world.log stood moment.world.hosts moment.world.wire
          (λ n host at up. ⊎_elim
          (λ (own : (n ≡ stepping.n) × (host_with_node stepping.host so_far.node ≡ host)).
          subst (λ (h : Host). MessagesCome start good_id lacked moment.world.log stood moment.world.hosts moment.world.wire n h.node) own.1
          (subst (λ (k : ℕ). MessagesCome start good_id lacked moment.world.log stood moment.world.hosts moment.world.wire k so_far.node)
          (sym own.0) own_messages))
          (λ (other : (n ≢ stepping.n) × (tree.get start.world.hosts n ≡ Some host)).
          same_messages start good_id lacked moment.world.log stood moment.world.hosts moment.world.wire n host host.node other.1 up
          (λ vid message meant. meant))
          (get-insert_cases start.world.hosts stepping.n (host_with_node stepping.host so_far.node) n host at))
          (λ name from reply answering. inl (old_replies name from reply answering))
