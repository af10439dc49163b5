-- The unanswered messages of a node that isn't lost, over a change of a moment: each stays unanswered, or the step was told what came of
-- it, and so it has left the wire.
use Rattle.std.proofs.Common.{◌≡◌, ◌⊎◌, inl, inr, ⊎_elim, arith, ℕ, ◌+◌, ◌≤◌, ◌<◌, ◌++◌, true, false, List, fold, Option, Some, None}
use Rattle.std.proofs.Common.{is_some, slice_get, refl, sym, ap, subst, ◌∙◌}
use Rattle.std.specs.FinMap as tree
use Rattle.object_id.specs.declared.node.NodeId.{NodeId}
use Rattle.cluster_script.specs.declared.statement.Statement.{Statement}
use Rattle.peer_proto.specs.declared.ask.PeerReq.{PeerReq}
use Rattle.gateway.specs.Outcomes.{AreNumberedFrom}
use Rattle.gateway.specs.declared.message.Message.{Message}
use Rattle.gateway.specs.declared.message.Status.{Status}
use Rattle.gateway.specs.Work.{is_making}
use Rattle.gateway.specs.Attempt as gateways
use Rattle.gateway.specs.Attempt.{may_be_made}
use Rattle.gateway.specs.State.{Work, Gateway, is_touched}
use Rattle.message_wire.specs.declared.name.MessageName.{MessageName}
use Rattle.message_wire.specs.declared.packet.Packet.{Packet}
use Rattle.message_wire.specs.Message.{message_name}
use Rattle.sheep_node.specs.StepState.{StepState}
use Rattle.sheep_node.specs.Changes as changes
use Rattle.sheep_node.specs.Changes.{IsTold}
use Rattle.sheep_node.proofs.AwaitedWorks.{Works}
use Rattle.sheep_node.proofs.MessageNumbers.{numbers_within}
use Rattle.sheep_node.proofs.NumberChanges.{both_in_chain}
use Rattle.sheep_world.specs.World.{Host, World}
use Rattle.sheep_world.specs.NodeSteps.{wire_with_request}
use Rattle.sheep_world.specs.NodeCauses.{NodeCause, GuestAsks, RequestComes, ReplyComes, LossIsTold, EntryIsRead, EntryIsPut, RecoveryTicks}
use Rattle.sheep_world.specs.NodeCauses.{WorkIsRetried, ClientAsks, input_of_cause, event_of_cause, IsCause, wire_at_cause, host_with_node}
use Rattle.sheep_world.specs.Began.{Began}
use Rattle.sheep_world.proofs.NodeConditions.{reply_numbered}
use Rattle.sheep_world.proofs.SenderMatch.{packets_of}
use Rattle.sheep_world.proofs.StepsByCause.{IsReady}
use Rattle.sheep_world.proofs.WireAfterSends.{IsSent, got_sent}
use Rattle.overlap_law.specs.Attempts.{AttemptRecord, attempts_begun_by}
use Rattle.overlap_law.specs.Past.{MomentWithPast}
use Rattle.overlap_law.specs.PastWords.{messages_lost_by}
use Rattle.overlap_law.specs.Packets.{Wire, is_name_in_wire}
use Rattle.overlap_law.specs.StepMoments.{SteppingNode, IsStepping, StepsByChanges, first_in_step, LeadsInStep, IsWithinStep}
use Rattle.overlap_law.specs.StepMoments.{moment_in_step, attempts_at_cause}
use Rattle.overlap_law.specs.MomentChanges.{MomentChange, RunsAreInRange}
use Rattle.overlap_law.proofs.AttemptsInSteps.{attempts-in_step}
use Rattle.overlap_law.proofs.KnownFates.{got_either, begun_above}
use Rattle.overlap_law.proofs.LostMessages.{lost_in_step}
use Rattle.overlap_law.proofs.KnownSteps.{IsKnownStep, known_step}
use Rattle.overlap_law.proofs.OpenInMoments.{same_node}
use Rattle.overlap_law.proofs.OpeningTraffic.{me_so_far}
use Rattle.overlap_law.proofs.SendsOfChanges.{in_order_so_far}
use Rattle.overlap_law.proofs.TrafficOfChanges.{wire-in_step}
use Rattle.overlap_law.proofs.UnansweredMessages.{IsUnanswered, StaysUnanswered, IsHeardOf}
use Rattle.overlap_law.proofs.UnansweredStay.{change_goes}
use Rattle.overlap_law.proofs.WireLemmas.{gone_at}
use Rattle.overlap_law.proofs.ClosedHosts.{each_host}
pub use Rattle.overlap_law.proofs.ClosedHosts.{IsNewer}

-- ---- what a step is told of has left the wire

-- and doesn't come into it by what the node sends
left_wire : (name : MessageName) (wire : Wire) (sends : List (NodeId × PeerReq)) (low : ℕ) → AreNumberedFrom low sends → name.number < low
    → is_name_in_wire (fold wire_with_request (tree.remove wire name) sends) name ≡ false
left_wire name wire sends low numbers below = by_packet (tree.get (fold wire_with_request (tree.remove wire name) sends) name) refl
  where
    by_packet : (o : Option Packet) → tree.get (fold wire_with_request (tree.remove wire name) sends) name ≡ o
        → is_name_in_wire (fold wire_with_request (tree.remove wire name) sends) name ≡ false
    by_packet None is = ap (λ (o : Option Packet). is_some o) is
    by_packet (Some packet) is = ⊎_elim
        (λ (new : IsSent sends name packet).
        let (send, among, own, so) = new in
        let above = (numbers_within low sends send numbers among).0 in
        let same : send.1.number ≡ name.number = ap (λ (q : MessageName). q.number) own in
        absurd (omega (arith, above, same, below)))
        (λ (old : tree.get (tree.remove wire name) name ≡ Some packet). let none = gone_at wire name in absurd (cc (old, none)))
        (got_sent sends (tree.remove wire name) name packet is)

module _ (script : List Statement) (world : World) (n : ℕ) (host : Host) (ready : IsReady script world n host)
    (sends : List (NodeId × PeerReq))
    (numbers : AreNumberedFrom host.node.sends sends) where
  told_of : (name : MessageName) (number : ℕ) → name.sender.0 ≡ n → name.number ≡ number → number < host.node.sends
      → is_name_in_wire (fold wire_with_request (tree.remove world.wire name) sends) (message_name n number) ≡ false
  told_of name number here same below =
      let named : name ≡ message_name n number = λ i. record { sender = record { 0 = here i }; number = same i } in
      subst (λ (q : MessageName). is_name_in_wire (fold wire_with_request (tree.remove world.wire name) sends) q ≡ false) named
      (left_wire name world.wire sends host.node.sends numbers (subst (λ (k : ℕ). k < host.node.sends) (sym same) below))

  told_left : (cause : NodeCause) → IsCause script world n host cause → (number : ℕ) (status : Status)
      → IsTold (input_of_cause cause) number status
      → number < host.node.sends
      → is_name_in_wire (fold wire_with_request (wire_at_cause cause world.wire) sends) (message_name n number) ≡ false
  told_left (GuestAsks session req ask) so number status told below = absurd told
  told_left (RequestComes name to request) so number status told below = absurd told
  told_left (ReplyComes name from rsp) so number status told below =
      let got = ap (λ (k : ℕ). packets_of world.wire k name.number) (sym so.here) ∙ so.there in
      let numbered = reply_numbered n name.number host (packets_of world.wire n) from so.bytes rsp ready.matches got so.read in
      told_of name number so.here (sym numbered ∙ told.0) below
  told_left (LossIsTold name packet) so number status told below = told_of name number so.here told.0 below
  told_left (EntryIsRead entry) so number status told below = absurd told
  told_left (EntryIsPut entry) so number status told below = absurd told
  told_left RecoveryTicks so number status told below = absurd told
  told_left WorkIsRetried so number status told below = absurd told
  told_left (ClientAsks req ask) so number status told below = absurd told

-- ---- the nodes that aren't lost

-- what is unanswered stays so
pub stays_unanswered : (works : Works) (req : ℕ) (work : Work) (current : gateways.Attempt) (place : ℕ) (message : Message)
    → IsUnanswered works req work current place message → StaysUnanswered works req work current place
stays_unanswered works req work current place message m = record {
  now = work;
  later = current;
  still = message;
  unanswered = m;
  work_so = refl;
  epoch_so = refl;
  targets_so = refl;
  numbers_so = λ place message got. (message, got, refl);
}

-- a node steps in a moment's event, and is told what came of a message: it has left the wire, and where that touches its request, the
-- request is touched, or is no more
pub record HasHeard (script : List Statement) (start before after : MomentWithPast) (n : ℕ) (host : Host) (req : ℕ) (work : Work)
    (number : ℕ) : Type 0 where
  pub stepping : SteppingNode
  pub is : IsStepping script start.world stepping
  pub by : StepsByChanges stepping.cause
  pub here : stepping.n ≡ n
  pub status : Status
  pub told : IsTold (input_of_cause stepping.cause) number status
  pub gone : is_name_in_wire after.world.wire (message_name n number) ≡ false
  pub touches : is_making work.work ≡ true → may_be_made status ≡ true
      → (is_touched req host.node.gateway ≡ true) ⊎ (tree.contains_key host.node.requests req ≡ false)
  pub origin : (j : ℕ) (was : AttemptRecord) → slice_get before.past.attempts j ≡ Some was
      → (slice_get (attempts_at_cause stepping.host.node stepping.cause start.past.attempts) j ≡ Some was)
      ⊎ (stepping.host.node.sends ≤ was.first)
  pub lost_so : after.past.lost ≡ start.past.lost ++ messages_lost_by (event_of_cause stepping.n stepping.cause)

-- a node that isn't lost wasn't lost before, and its unanswered messages stay so, or it has heard of them
pub record WasUp (script : List Statement) (start before after : MomentWithPast) (n : ℕ) (host : Host) : Type 0 where
  pub old : Host
  pub there : tree.get before.world.hosts n ≡ Some old
  pub up : old.is_lost ≡ false
  pub me : host.node.me ≡ old.node.me
  pub goes : (req : ℕ) (work : Work) (current : gateways.Attempt) (place : ℕ) (message : Message)
      → IsUnanswered old.node.gateway.works req work current place message
      → StaysUnanswered host.node.gateway.works req work current place ⊎ HasHeard script start before after n host req work message.number

module _ (script : List Statement) (start : MomentWithPast) where
  abbrev pub EachWasUpOrIsNewer : MomentWithPast → MomentWithPast → Type 0
  EachWasUpOrIsNewer before after = (n : ℕ) (host : Host) → tree.get after.world.hosts n ≡ Some host → host.is_lost ≡ false
      → WasUp script start before after n host ⊎ IsNewer before n host

  -- a node with the gateway that it had
  same_gateway : (before after : MomentWithPast) (n : ℕ) (old host : Host) → tree.get before.world.hosts n ≡ Some old → old.is_lost ≡ false
      → host.node.me ≡ old.node.me → host.node.gateway ≡ old.node.gateway → WasUp script start before after n host
  same_gateway before after n old host there up me gateway = record {
    old = old;
    there = there;
    up = up;
    me = me;
    goes = λ req work current place message m.
        inl (subst (λ (g : Gateway). StaysUnanswered g.works req work current place) (sym gateway)
        (stays_unanswered old.node.gateway.works req work current place message m));
  }

-- ---- every change

module _ (script : List Statement) (range : RunsAreInRange script) (start : MomentWithPast) (began : Began script start.world) where
  -- what a step is told of isn't in the wire any more
  pub told_gone : (stepping : SteppingNode) → IsKnownStep script start.world stepping → IsStepping script start.world stepping
      → StepsByChanges stepping.cause
      → (so_far : StepState) → LeadsInStep stepping (first_in_step stepping) so_far → (number : ℕ) (status : Status)
      → IsTold (input_of_cause stepping.cause) number status
      → is_name_in_wire (moment_in_step script stepping start so_far).world.wire (message_name stepping.n number) ≡ false
  told_gone stepping known is by so_far leads number status told =
      subst (λ (wire : Wire). is_name_in_wire wire (message_name stepping.n number) ≡ false)
      (sym (wire-in_step script range start began stepping by so_far))
      (told_left script start.world stepping.n stepping.host known.ready so_far.outputs.sends (in_order_so_far so_far leads).numbers
      stepping.cause is.caused number status told (known.given number status told))

  -- an attempt in the middle of a step was there before, or has numbers that were given in it
  pub origin_so_far : (stepping : SteppingNode) (so_far : StepState) → IsStepping script start.world stepping
      → StepsByChanges stepping.cause
      → (j : ℕ) (was : AttemptRecord) → slice_get (moment_in_step script stepping start so_far).past.attempts j ≡ Some was
      → (slice_get (attempts_at_cause stepping.host.node stepping.cause start.past.attempts) j ≡ Some was)
      ⊎ (stepping.host.node.sends ≤ was.first)
  origin_so_far stepping so_far is by j was at =
      let told = attempts_at_cause stepping.host.node stepping.cause start.past.attempts in
      let new = host_with_node stepping.host so_far.node in
      ⊎_elim
      (λ (old : slice_get told j ≡ Some was). inl old)
      (λ (begun : (k : ℕ) × (slice_get (attempts_begun_by stepping.host new) k ≡ Some was)). inr
      (begun_above stepping.host new begun.0 was begun.1).0) (got_either told (attempts_begun_by stepping.host new) j was
      (ap (λ (all : List AttemptRecord). slice_get all j) (sym (attempts-in_step script start stepping is by so_far)) ∙ at))

  abbrev WasUpOrIsNewer : MomentWithPast → MomentWithPast → ℕ → Host → Type 0
  WasUpOrIsNewer before after n host = WasUp script start before after n host ⊎ IsNewer before n host

  goes_on_up : (stepping : SteppingNode) (so_far next : StepState) → IsStepping script start.world stepping → StepsByChanges stepping.cause
      → IsWithinStep stepping so_far next
      → tree.get (moment_in_step script stepping start so_far).world.hosts stepping.n ≡ Some (host_with_node stepping.host so_far.node)
      → stepping.host.is_lost ≡ false
      → WasUpOrIsNewer (moment_in_step script stepping start so_far) (moment_in_step script stepping start next) stepping.n
      (host_with_node stepping.host next.node)
  goes_on_up stepping so_far next is by within there up =
      let known = known_step script range start.world began stepping is in
      let good = (both_in_chain (input_of_cause stepping.cause) stepping.host.node known.sound so_far within.leads).0 in
      let leads = changes.Then within.leads within.change in
      inl (record {
        old = host_with_node stepping.host so_far.node;
        there = there;
        up = up;
        me = same_node next.node.me so_far.node.me stepping.n (me_so_far script start.world stepping known next leads)
            (me_so_far script start.world stepping known so_far within.leads);
        goes = λ req work current place message m. ⊎_elim
            (λ (stays : StaysUnanswered next.node.gateway.works req work current place). inl stays)
            (λ (heard : IsHeardOf (input_of_cause stepping.cause) req work message.number next).
            inr (record {
              stepping = stepping;
              is = is;
              by = by;
              here = refl;
              status = heard.status;
              told = heard.told;
              gone = told_gone stepping known is by next leads message.number heard.status heard.told;
              touches = heard.touches;
              origin = origin_so_far stepping so_far is by;
              lost_so = lost_in_step script stepping start next;
            }))
            (change_goes (input_of_cause stepping.cause) stepping.host.node known.sound so_far good req work current place message m next
            within.change);
      })

  pub each_was_up : {before after : MomentWithPast} → MomentChange script start before after → EachWasUpOrIsNewer script start before after
  each_was_up change =
      each_host script range start began WasUpOrIsNewer
      (λ before after n old host there up me asked. inl (same_gateway script start before after n old host there up me asked.0))
      goes_on_up (λ before after n host newer none. inr newer) change
