-- Each change of a moment leaves that no message for a disk is refused for want of its object, if the disk was available, and is neither
-- deleted nor given back.
use Rattle.std.proofs.Common.{◌≡◌, ◌≢◌, ◌⊎◌, inl, inr, ⊎_elim, ℕ, not, Bool, true, false, List, fold, Some, Ok, refl, sym, ap, subst, ◌∙◌}
use Rattle.std.specs.Ordering.{nat_cmp}
use Rattle.std.specs.FinMap as tree
use Rattle.std.proofs.lemmas.Bool.{and_parts, not-true}
use Rattle.std.proofs.lemmas.Option.{same_Some}
use Rattle.proof_tools.proofs.FiniteMaps.{get-insert_cases}
use Rattle.object_id.specs.declared.entry.Entry.{Entry}
use Rattle.object_id.specs.declared.node.NodeId.{NodeId}
use Rattle.vdi_directory.specs.Dead.{is_gone}
use Rattle.vdi_directory.specs.Decisions.{log_effects}
use Rattle.vdi_directory.specs.States.{state_of}
use Rattle.cluster_script.specs.declared.statement.Statement.{Statement}
use Rattle.peer_proto.specs.declared.ask.PeerReq.{PeerReq}
use Rattle.peer_proto.specs.declared.say.PeerRsp.{PeerRsp}
use Rattle.peer_proto.specs.Say.{say_in, say_bytes}
use Rattle.peer_service.specs.Serve.{reply_to}
use Rattle.gateway.specs.declared.message.Message.{Message}
use Rattle.gateway.specs.State.{Work, Gateway}
use Rattle.message_wire.specs.declared.name.MessageName.{MessageName}
use Rattle.message_wire.specs.declared.packet.Packet.{Packet}
use Rattle.message_wire.specs.declared.packet.Packet.TheVariants.{Request, Reply}
use Rattle.message_wire.specs.Message.{without_replies}
use Rattle.sheep_node.specs.declared.event.Event.{Event}
use Rattle.sheep_node.specs.declared.input.Input.TheVariants as inputs
use Rattle.sheep_node.specs.May.{has_numbers}
use Rattle.sheep_node.specs.State.{Node}
use Rattle.sheep_node.specs.Step.{node_step}
use Rattle.sheep_node.specs.Changes as changes
use Rattle.sheep_world.specs.Began.{Began}
use Rattle.sheep_world.specs.EventKinds.{log_after_return}
use Rattle.sheep_world.specs.HostChanges.{host_after_return, joined_host}
use Rattle.sheep_world.specs.MembershipChanges.{lost_host}
use Rattle.sheep_world.specs.Messages.{wire_with_reply}
use Rattle.sheep_world.specs.NodeSteps.{wire_with_request}
use Rattle.sheep_world.specs.NodeCauses.{NodeCause, GuestAsks, RequestComes, ReplyComes, LossIsTold, EntryIsRead, EntryIsPut, RecoveryTicks}
use Rattle.sheep_world.specs.NodeCauses.{WorkIsRetried, ClientAsks, input_of_cause, host_with_node, is_up_among, log_after_cause}
use Rattle.sheep_world.specs.Step.{EventOutcome}
use Rattle.sheep_world.specs.World.{Host, host_at}
use Rattle.sheep_world.proofs.LostReplies.{got_before}
use Rattle.sheep_world.proofs.RecoveryMessages.{same_said}
use Rattle.sheep_world.proofs.ReturningNodes.{stepped_renewed}
use Rattle.sheep_world.specs.RunsWithAsks.{Move}
use Rattle.overlap_law.specs.Fates.{CreatesComeFirst}
use Rattle.overlap_law.specs.Holders.{targets_by, is_good, is_available_disk}
use Rattle.overlap_law.specs.Lists.{WhatIsNotPendingIsThere}
use Rattle.overlap_law.specs.MomentChanges as moments
use Rattle.overlap_law.specs.MomentChanges.{MomentChange, RunsAreInRange}
use Rattle.overlap_law.specs.NoObjects.{IsMessageFor, NothingIsLacked}
use Rattle.overlap_law.specs.Packets.{Wire, IsAnswering}
use Rattle.overlap_law.specs.Past.{MomentWithPast, moment_after, next_moment, run_with_past}
use Rattle.overlap_law.specs.Reached.{Hosts}
use Rattle.overlap_law.specs.StepMoments.{SteppingNode, IsStepping, StepsAtOnce, first_in_step, last_in_step, moment_in_step}
use Rattle.overlap_law.specs.Tables.{every_id, TablesAreMade, PublishedInodesAreMade}
use Rattle.overlap_law.proofs.EndTests.{was_good_id}
use Rattle.overlap_law.proofs.GoodDisks.{good_below, stood_before}
use Rattle.overlap_law.proofs.LackedNowhere.{MessagesCome, IsFine, RepliesCome, lacked_then, same_messages, sent_replies, lacked_in_step}
use Rattle.overlap_law.proofs.LogsInMoments.{log_grows}
use Rattle.overlap_law.proofs.LogsOfMoments.{log_by_changes}
use Rattle.overlap_law.proofs.ClosedToAsks.{made_alike}
use Rattle.overlap_law.proofs.MessagesOfDisks.{same_for}
use Rattle.overlap_law.proofs.NoRecoveredDue.{began-with_past}
use Rattle.overlap_law.proofs.ObjectsAtTargets.{not_refused}
use Rattle.overlap_law.proofs.OpenInMoments.{made_gateway}
use Rattle.overlap_law.proofs.TouchedInMoments.{made_requests}
use Rattle.overlap_law.proofs.WireLemmas.{tied_to, gone_at, left_before, put_at, said_else}

-- a node without works has no message
no_message : (node : Node) (vid : ℕ) (message : Message) → node.gateway.works ≡ tree.empty → IsMessageFor node vid message → ⊥
no_message node vid message empty meant =
    let none = ap (λ (works : tree.FinMap nat_cmp Work). tree.get works meant.req) empty ∙ tree.get-empty {X = Work} nat_cmp meant.req in
    let some = meant.there in
    cc (some, none)

abbrev bytes_in : Packet → List ℕ
bytes_in (Request to bytes) = bytes
bytes_in (Reply from bytes) = bytes

abbrev good_at : MomentWithPast → ℕ → Bool
good_at moment = is_good moment.world.log moment.past.attempts moment.past.unavailable

abbrev id_at : MomentWithPast → ℕ → Bool
id_at moment = is_available_disk moment.world.log moment.past.unavailable

-- what holds of the moment at which an event starts, by its tests; and nothing is lacked of what is called good there, or of less
pub record StartsWell (start : MomentWithPast) (good_id : ℕ → Bool) : Type 0 where
  pub first : CreatesComeFirst start.past.attempts
  pub table_made : TablesAreMade (log_effects start.world.log) (id_at start) start.world.hosts start.past.attempts
  pub published : PublishedInodesAreMade start.world.log every_id start.past.attempts
  pub has : WhatIsNotPendingIsThere (targets_by start.world.log) (log_effects start.world.log) (good_at start) start.world.hosts
      start.past.attempts
  pub fewer : (vid : ℕ) → good_id vid ≡ true → id_at start vid ≡ true
  pub lacked : NothingIsLacked (log_effects start.world.log) good_id start.world.hosts start.world.wire

module _ (script : List Statement) (range : RunsAreInRange script) (events : List Move) (start : MomentWithPast)
    (ran : run_with_past script events ≡ Some start) (good_id : ℕ → Bool) (well : StartsWell start good_id) where
  began : Began script start.world
  began = began-with_past script events start ran

  abbrev Stood : List Entry → Type 0
  Stood log = (vid : ℕ) → is_gone (state_of (log_effects log) vid) ≡ false → is_gone (state_of (log_effects start.world.log) vid) ≡ false

  same_stood : (log : List Entry) → log ≡ start.world.log → Stood log
  same_stood log same vid stands = ap (λ (all : List Entry). is_gone (state_of (log_effects all) vid)) (sym same) ∙ stands

  grown_stood : {after : MomentWithPast} → MomentChange script start start after → Stood after.world.log
  grown_stood change vid stands =
      let grows = log_grows script change in
      stood_before start.world.log grows.rest vid (ap (λ (log : List Entry). is_gone (state_of (log_effects log) vid))
      (sym grows.is) ∙ stands)

  -- ---- a change that is a whole event

  module _ (after : MomentWithPast) (change : MomentChange script start start after) where
    abbrev Come : ℕ → Node → Type 0
    Come = MessagesCome start good_id well.lacked after.world.log (grown_stood change) after.world.hosts after.world.wire

    abbrev AllCome : Type 0
    AllCome = (n : ℕ) (host : Host) → tree.get after.world.hosts n ≡ Some host → host.is_lost ≡ false → Come n host.node

    abbrev Replies : Type 0
    Replies = RepliesCome start good_id well.lacked after.world.log (grown_stood change) after.world.hosts after.world.wire

    as_before : (n : ℕ) (host : Host) → tree.get start.world.hosts n ≡ Some host → host.is_lost ≡ false → Come n host.node
    as_before n host there up =
        same_messages start good_id well.lacked after.world.log
        (grown_stood change) after.world.hosts after.world.wire n host host.node
        there up (λ vid message meant. meant)

    all_same : after.world.hosts ≡ start.world.hosts → AllCome
    all_same same n host at up = as_before n host (ap (λ (held : Hosts). tree.get held n) (sym same) ∙ at) up

    one_other : (k : ℕ) (new : Host) → after.world.hosts ≡ tree.insert start.world.hosts k new → (new.is_lost ≡ false → Come k new.node)
        → AllCome
    one_other k new hosts own n host at up = ⊎_elim
        (λ (here : (n ≡ k) × (new ≡ host)).
        subst (λ (q : ℕ). Come q host.node) (sym here.0)
        (subst (λ (h : Host). Come k h.node) here.1 (own (ap (λ (h : Host). h.is_lost) here.1 ∙ up))))
        (λ (other : (n ≢ k) × (tree.get start.world.hosts n ≡ Some host)). as_before n host other.1 up)
        (get-insert_cases start.world.hosts k new n host (ap (λ (held : Hosts). tree.get held n) (sym hosts) ∙ at))

    no_works : (k : ℕ) (node : Node) → node.gateway.works ≡ tree.empty → Come k node
    no_works k node empty vid message meant stands good = absurd (no_message node vid message empty meant)

    fewer_replies : (wire : Wire) → after.world.wire ≡ wire
        → ((name : MessageName) (from : NodeId) (reply : PeerRsp) → IsAnswering wire name from reply
        → IsAnswering start.world.wire name from reply)
        → Replies
    fewer_replies wire same less name from reply answering =
        inl (less name from reply (subst (λ (w : Wire). IsAnswering w name from reply) same answering))

    all_clear : AllCome → Replies → NothingIsLacked (log_effects after.world.log) good_id after.world.hosts after.world.wire
    all_clear = lacked_then start good_id well.lacked after.world.log (grown_stood change) after.world.hosts after.world.wire

  -- packets that were there before
  were : (wire : Wire) → ((name : MessageName) (packet : Packet) → tree.get wire name ≡ Some packet
      → tree.get start.world.wire name ≡ Some packet)
      → (name : MessageName) (from : NodeId) (reply : PeerRsp) → IsAnswering wire name from reply
      → IsAnswering start.world.wire name from reply
  were wire less name from reply answering =
      record { bytes = answering.bytes; there = less name (Reply from answering.bytes) answering.there; spelled = answering.spelled }

  -- ---- a node's step at once

  module _ (n : ℕ) (host : Host) where
    abbrev by_cause : NodeCause → SteppingNode
    by_cause cause = record { n = n; host = host; cause = cause }

    abbrev ended : NodeCause → MomentWithPast
    ended cause = moment_in_step script (by_cause cause) start (last_in_step (by_cause cause))

    awake : (cause : NodeCause) → IsStepping script start.world (by_cause cause) → host.is_lost ≡ false
    awake cause is = not-true host.is_lost (and_parts (not host.is_lost) (has_numbers host.node) is.up).0

    hosts_come : (cause : NodeCause) (is : IsStepping script start.world (by_cause cause)) (by : StepsAtOnce cause)
        → AllCome (ended cause) (moments.StepIsMade (by_cause cause) is by)
    hosts_come cause is by =
        let last = (node_step (input_of_cause cause) host.node).node in
        one_other (ended cause) (moments.StepIsMade (by_cause cause) is by) n (host_with_node host last) refl
        (λ up.
        same_messages start good_id well.lacked (ended cause).world.log
        (grown_stood (moments.StepIsMade (by_cause cause) is by)) (ended cause).world.hosts (ended cause).world.wire n host last is.there
        (awake cause is)
        (same_for host.node last (ap (λ (gateway : Gateway). gateway.works) (made_gateway cause host.node by))
        (made_requests cause host.node by)
        (made_alike cause host.node by).2))

    -- a request is answered
    module _ (name : MessageName) (to : NodeId) (request : PeerReq)
        (is : IsStepping script start.world (by_cause (RequestComes name to request))) where
      abbrev after : MomentWithPast
      after = ended (RequestComes name to request)

      abbrev change : MomentChange script start start after
      change = moments.StepIsMade (by_cause (RequestComes name to request)) is tt

      abbrev sends : List (NodeId × PeerReq)
      sends = (node_step (input_of_cause (RequestComes name to request)) host.node).outputs.sends

      abbrev rsp : PeerRsp
      rsp = reply_to host.node.peer request

      abbrev sent_wire : Wire
      sent_wire = fold wire_with_request start.world.wire sends

      spelled : say_in (say_bytes rsp) ≡ Ok rsp
      spelled =
          (range.messages start.world began).replies.spelled name to request host (record {
            bytes = is.caused.bytes;
            there = is.caused.there;
            read = is.caused.read;
            receiver = ap (λ (k : ℕ). host_at k start.world) is.caused.here ∙ is.there;
            up = is.up;
          })

      -- the answer says nothing of the kind
      fine : (q : MessageName) (reply : PeerRsp) → q ≡ name → reply ≡ rsp
          → IsFine start good_id well.lacked after.world.log (grown_stood change) after.world.hosts after.world.wire q reply
      fine q reply own same m holder there up vid message meant new stands available named refused =
          not_refused script range events start ran (good_at start)
          (id_at start) well.first well.table_made well.published well.has m holder there
          up vid message meant new stands (well.fewer vid available)
          (λ oid chain born.
          good_below start.world.log vid oid stands start.past.attempts start.past.unavailable (well.fewer vid available) chain born)
          n host is.there is.up name to request is.caused (named ∙ own) (ap (λ (r : PeerRsp). r.say) (sym same) ∙ refused)

      answer_so : (b : Bool) (from : NodeId) (reply : PeerRsp)
          → IsAnswering (wire_with_reply name to b (Some rsp) sent_wire) name from reply
          → reply ≡ rsp
      answer_so true from reply answering =
          let packets : Reply to (say_bytes rsp) ≡ Reply from answering.bytes
          = same_Some (Reply to (say_bytes rsp)) (Reply from answering.bytes)
          (sym (put_at sent_wire name (Reply to (say_bytes rsp))) ∙ answering.there) in
          sym (same_said rsp reply (sym spelled ∙ ap (λ (p : Packet). say_in (bytes_in p)) packets ∙ answering.spelled))
      answer_so false from reply answering =
          let gone = gone_at sent_wire name in
          let there = answering.there in
          absurd (cc (there, gone))

      served : Replies after change
      served q from reply answering = ⊎_elim
          (λ (own : q ≡ name).
          inr (fine q reply own
          (answer_so (is_up_among after.world.hosts name.sender.0) from reply
          (subst (λ (k : MessageName). IsAnswering after.world.wire k from reply) own answering))))
          (λ (apart : q ≢ name).
          inl (sent_replies script range events start ran good_id well.lacked start.world.wire sends q from reply (record {
            bytes = answering.bytes;
            there = sym (said_else sent_wire name to rsp (is_up_among after.world.hosts name.sender.0) q apart) ∙ answering.there;
            spelled = answering.spelled;
          })))
          (tied_to start.world.wire name q)

    replies_come : (cause : NodeCause) (is : IsStepping script start.world (by_cause cause)) (by : StepsAtOnce cause)
        → Replies (ended cause) (moments.StepIsMade (by_cause cause) is by)
    replies_come (GuestAsks session req ask) is by = absurd by
    replies_come (RequestComes name to request) is by = served name to request is
    replies_come (ReplyComes name from reply) is by = absurd by
    replies_come (LossIsTold name packet) is by = absurd by
    replies_come (EntryIsRead entry) is by = absurd by
    replies_come (EntryIsPut entry) is by = λ name from reply answering.
        inl (sent_replies script range events start ran good_id well.lacked start.world.wire
        (node_step (input_of_cause (EntryIsPut entry)) host.node).outputs.sends name from reply answering)
    replies_come RecoveryTicks is by = λ name from reply answering.
        inl (sent_replies script range events start ran good_id well.lacked start.world.wire
        (node_step (input_of_cause RecoveryTicks) host.node).outputs.sends name from reply answering)
    replies_come WorkIsRetried is by = absurd by
    replies_come (ClientAsks req ask) is by = absurd by

    at_once : (cause : NodeCause) (is : IsStepping script start.world (by_cause cause)) (by : StepsAtOnce cause)
        → NothingIsLacked (log_effects (ended cause).world.log) good_id (ended cause).world.hosts (ended cause).world.wire
    at_once cause is by =
        all_clear (ended cause) (moments.StepIsMade (by_cause cause) is by) (hosts_come cause is by)
        (replies_come cause is by)

  -- ---- each change

  abbrev IsLackedIn : MomentWithPast → Type 0
  IsLackedIn moment = NothingIsLacked (log_effects moment.world.log) good_id moment.world.hosts moment.world.wire

  -- where no node steps
  elsewhere : (event : Event) (made : EventOutcome) (goes : MomentChange script start start (moment_after script event start made))
      (hosts : Hosts) (wire : Wire) → made.world.hosts ≡ hosts
      → made.world.wire ≡ wire
      → (hosts ≡ start.world.hosts) ⊎ ((k : ℕ) × (new : Host) × (hosts ≡ tree.insert start.world.hosts k new)
      × (new.is_lost ≡ false → new.node.gateway.works ≡ tree.empty))
      → ((name : MessageName) (from : NodeId) (reply : PeerRsp) → IsAnswering wire name from reply
      → IsAnswering start.world.wire name from reply)
      → IsLackedIn (moment_after script event start made)
  elsewhere event made goes hosts wire hosts_so wire_so by less =
      let after = moment_after script event start made in
      all_clear after goes
      (⊎_elim
      (λ (same : hosts ≡ start.world.hosts). all_same after goes (hosts_so ∙ same))
      (λ (one : (k : ℕ) × (new : Host) × (hosts ≡ tree.insert start.world.hosts k new)
      × (new.is_lost ≡ false → new.node.gateway.works ≡ tree.empty)).
      one_other after goes one.0 one.1 (hosts_so ∙ one.2) (λ up. no_works after goes one.0 one.1.node (one.3 up)))
      by)
      (fewer_replies after goes wire wire_so less)

  pub lacked_after : {before after : MomentWithPast} (change : MomentChange script start before after)
      → IsLackedIn after
  lacked_after (moments.StepBegins stepping is by) =
      lacked_in_step script range events start ran good_id well.lacked
      stepping is by
      (first_in_step stepping) changes.Still
      (same_stood (log_after_cause stepping.cause start.world.log) (log_by_changes stepping.cause by start.world.log))
  lacked_after (moments.StepGoesOn stepping so_far next is by within) =
      lacked_in_step script range events start ran good_id well.lacked
      stepping is by
      next (changes.Then within.leads within.change)
      (same_stood (log_after_cause stepping.cause start.world.log) (log_by_changes stepping.cause by start.world.log))
  lacked_after (moments.StepIsMade stepping is by) = at_once stepping.n stepping.host stepping.cause is by
  lacked_after (moments.LossIsUntold event made happened h) =
      elsewhere event made (moments.LossIsUntold event made happened h) start.world.hosts (tree.remove start.world.wire h.name)
      (ap (λ (m : EventOutcome). m.world.hosts) (sym h.made_so)) (ap (λ (m : EventOutcome). m.world.wire) (sym h.made_so)) (inl refl)
      (were (tree.remove start.world.wire h.name) (left_before start.world.wire h.name))
  lacked_after (moments.DeliveryIsUnread event made happened h) =
      elsewhere event made (moments.DeliveryIsUnread event made happened h) start.world.hosts start.world.wire
      (ap (λ (m : EventOutcome). m.world.hosts) (sym h.made_so)) (ap (λ (m : EventOutcome). m.world.wire) (sym h.made_so)) (inl refl)
      (λ name from reply answering. answering)
  lacked_after (moments.NodeIsLost event made happened h) =
      elsewhere event made (moments.NodeIsLost event made happened h) (tree.insert start.world.hosts h.n (lost_host h.host))
      (without_replies h.n start.world.wire)
      (ap (λ (m : EventOutcome). m.world.hosts) (sym h.made_so)) (ap (λ (m : EventOutcome). m.world.wire) (sym h.made_so))
      (inr (h.n, lost_host h.host, refl, λ up. absurd (cc (up))))
      (were (without_replies h.n start.world.wire) (got_before h.n start.world.wire))
  lacked_after (moments.NodeLeaves event made happened h) =
      elsewhere event made (moments.NodeLeaves event made happened h) start.world.hosts start.world.wire
      (ap (λ (m : EventOutcome). m.world.hosts) (sym h.made_so)) (ap (λ (m : EventOutcome). m.world.wire) (sym h.made_so)) (inl refl)
      (λ name from reply answering. answering)
  lacked_after (moments.NodeIsReweighted event made happened h) =
      elsewhere event made (moments.NodeIsReweighted event made happened h) start.world.hosts start.world.wire
      (ap (λ (m : EventOutcome). m.world.hosts) (sym h.made_so)) (ap (λ (m : EventOutcome). m.world.wire) (sym h.made_so)) (inl refl)
      (λ name from reply answering. answering)
  lacked_after (moments.NodeJoins event made happened h) =
      elsewhere event made (moments.NodeJoins event made happened h) (tree.insert start.world.hosts h.n (joined_host script h.n))
      start.world.wire
      (ap (λ (m : EventOutcome). m.world.hosts) (sym h.made_so)) (ap (λ (m : EventOutcome). m.world.wire) (sym h.made_so))
      (inr (h.n, joined_host script h.n, refl, λ up. refl))
      (λ name from reply answering. answering)
  lacked_after (moments.NodeComesBack event made happened h) =
      let log = log_after_return script h.n start.world in
      elsewhere event made (moments.NodeComesBack event made happened h)
      (tree.insert start.world.hosts h.n (host_after_return log h.host))
      (fold wire_with_request start.world.wire (node_step (inputs.Back log) h.host.node).outputs.sends)
      (ap (λ (m : EventOutcome). m.world.hosts) (sym h.made_so)) (ap (λ (m : EventOutcome). m.world.wire) (sym h.made_so))
      (inr (
        h.n,
        host_after_return log h.host,
        refl,
        λ up. ap (λ (gateway : Gateway). gateway.works) (stepped_renewed log h.host.node).node_so.gateway_so,
      ))
      (sent_replies script range events start ran good_id well.lacked start.world.wire
      (node_step (inputs.Back log) h.host.node).outputs.sends)
  lacked_after (moments.PhaseEnds event made happened h) =
      elsewhere event made (moments.PhaseEnds event made happened h) start.world.hosts start.world.wire
      (ap (λ (m : EventOutcome). m.world.hosts) (sym h.made_so)) (ap (λ (m : EventOutcome). m.world.wire) (sym h.made_so)) (inl refl)
      (λ name from reply answering. answering)

-- ---- by the tests of the moment at which the event ends

-- of less nothing is lacked too
pub lacked_of_fewer : (moment : MomentWithPast) (few many : ℕ → Bool) → ((vid : ℕ) → few vid ≡ true → many vid ≡ true)
    → NothingIsLacked (log_effects moment.world.log) many moment.world.hosts moment.world.wire
    → NothingIsLacked (log_effects moment.world.log) few moment.world.hosts moment.world.wire
lacked_of_fewer moment few many fewer lacked = record {
  known = λ n host there up vid message meant stands good. lacked.known n host there up vid message meant stands (fewer vid good);
  told = λ n host there up vid message from reply meant new stands good.
      lacked.told n host there up vid message from reply meant new stands (fewer vid good);
}

pub lacked_on_the_way : (script : List Statement) → RunsAreInRange script → (events : List Move) (event : Move)
    (start end before after : MomentWithPast) → run_with_past script events ≡ Some start → next_moment script event start ≡ Some end
    → MomentChange script start before after
    → CreatesComeFirst start.past.attempts
    → TablesAreMade (log_effects start.world.log) (id_at start) start.world.hosts start.past.attempts
    → PublishedInodesAreMade start.world.log every_id start.past.attempts
    → WhatIsNotPendingIsThere (targets_by start.world.log) (log_effects start.world.log) (good_at start) start.world.hosts
    start.past.attempts
    → NothingIsLacked (log_effects start.world.log) (id_at start) start.world.hosts start.world.wire
    → NothingIsLacked (log_effects after.world.log) (id_at end) after.world.hosts after.world.wire
lacked_on_the_way script range events event start end before after ran next change first table_made published has lacked =
    let fewer = was_good_id script event start end next in
    lacked_after script range events start ran (id_at end)
    (record {
      first = first;
      table_made = table_made;
      published = published;
      has = has;
      fewer = fewer;
      lacked = lacked_of_fewer start (id_at end) (id_at start) fewer lacked;
    })
    change
