-- What was lost, over a change of a moment: a message that is lost then was in the wire before, and isn't in it any more. So in every run
-- what was lost is gone.
use Rattle.std.proofs.Common.{◌≡◌, ◌⊎◌, inl, inr, ⊎_elim, arith, ℕ, ◌≤◌, ◌<◌, Bool, true, false, List, [], ◌∷◌, ◌++◌, fold, Contains}
use Rattle.std.proofs.Common.{Option, Some, None, is_some, refl, sym, ap, subst, ◌∙◌, append-nil}
use Rattle.std.specs.FinMap as tree
use Rattle.std.proofs.lemmas.List.Elements.{Contains-append_cases}
use Rattle.proof_tools.proofs.Lists.{Contains-nil, Contains-cons_cases}
use Rattle.object_id.specs.declared.node.NodeId.{NodeId}
use Rattle.cluster_script.specs.declared.statement.Statement.{Statement}
use Rattle.peer_proto.specs.declared.ask.PeerReq.{PeerReq}
use Rattle.message_wire.specs.declared.name.MessageName.{MessageName}
use Rattle.message_wire.specs.declared.packet.Packet.{Packet}
use Rattle.message_wire.specs.declared.packet.Packet.TheVariants.{Request, Reply}
use Rattle.sheep_node.specs.declared.event.Event.{Event}
use Rattle.sheep_node.specs.StepState.{StepState}
use Rattle.sheep_node.proofs.MessageNumbers.{numbers_within}
use Rattle.sheep_world.specs.World.{Host, World}
use Rattle.sheep_world.specs.Began.{Began}
use Rattle.sheep_world.specs.Enabled.{loss_of}
use Rattle.sheep_world.specs.NodeSteps.{wire_with_request}
use Rattle.sheep_world.specs.Step.{EventOutcome}
use Rattle.sheep_world.specs.WireMatch.{IsNumberGiven}
use Rattle.sheep_world.specs.NodeCauses.{NodeCause, GuestAsks, RequestComes, ReplyComes, LossIsTold, EntryIsRead, EntryIsPut, RecoveryTicks}
use Rattle.sheep_world.specs.NodeCauses.{WorkIsRetried, ClientAsks, event_of_cause, IsCause, wire_at_cause}
use Rattle.sheep_world.proofs.WireAfterSends.{sends_apart}
use Rattle.overlap_law.specs.Attempts.{AttemptRecord}
use Rattle.overlap_law.specs.Packets.{Wire, is_name_in_wire}
use Rattle.overlap_law.specs.Past.{MomentWithPast, past_after_event, moment_after, first_moment}
use Rattle.overlap_law.specs.PastWords.{messages_lost_by}
use Rattle.overlap_law.specs.Reached.{Hosts}
use Rattle.overlap_law.specs.StepMoments.{SteppingNode, StepsByChanges, StepsAtOnce, first_in_step, last_in_step, moment_in_step}
use Rattle.overlap_law.specs.MomentChanges as moments
use Rattle.overlap_law.specs.MomentChanges.{MomentChange, RunsAreInRange}
use Rattle.overlap_law.specs.TiedAttempts.{IsTied}
use Rattle.overlap_law.specs.Traffic.{AreSentBy, Traffic, NothingMoves, MessageIsLost, ReplyIsReceived, RequestIsAnswered, RequestsAreSent}
use Rattle.overlap_law.specs.Traffic.{AttemptBegins, RepliesGo}
use Rattle.overlap_law.proofs.HostsInMoments.{HostStays, hosts_stay}
use Rattle.overlap_law.proofs.TrafficOfChanges.{first_wire, traffic}
use Rattle.overlap_law.proofs.WireLemmas.{gone_at, gone_less, said_less, forgets_less}

-- ---- what is lost

-- a message was lost before, or is lost now
abbrev pub WasOrIsLost : MomentWithPast → MomentWithPast → MessageName → Type 0
WasOrIsLost before after name =
    Contains before.past.lost name ⊎ ((is_name_in_wire before.world.wire name ≡ true) × (is_name_in_wire after.world.wire name ≡ false))

pub lost_after : (script : List Statement) (event : Event) (before : MomentWithPast) (made : EventOutcome)
    → (moment_after script event before made).past.lost ≡ before.past.lost ++ messages_lost_by event
unfolding past_after_event
lost_after script event before made = refl

-- and at a point of a step
pub lost_in_step : (script : List Statement) (stepping : SteppingNode) (start : MomentWithPast) (so_far : StepState)
    → (moment_in_step script stepping start so_far).past.lost ≡ start.past.lost
    ++ messages_lost_by (event_of_cause stepping.n stepping.cause)
unfolding past_after_event
lost_in_step script stepping start so_far = refl

none_more : (lost more : List MessageName) → more ≡ [] → (name : MessageName) → Contains (lost ++ more) name → Contains lost name
none_more lost more none name there =
    subst (λ (all : List MessageName). Contains all name) (ap (λ (m : List MessageName). lost ++ m) none ∙ append-nil lost) there

one_more : (lost : List MessageName) (own name : MessageName) → Contains (lost ++ own ∷ []) name → Contains lost name ⊎ (own ≡ name)
one_more lost own name there = ⊎_elim
    (λ (old : Contains lost name). inl old)
    (λ (new : Contains (own ∷ []) name). ⊎_elim
    (λ (same : own ≡ name). inr same)
    (λ (none : Contains [] name). absurd (Contains-nil name none))
    (Contains-cons_cases own [] name new))
    (Contains-append_cases lost (own ∷ []) name there)

-- one that is lost was there, and goes
goes_now : (wire : Wire) (own name : MessageName) (packet : Packet) → tree.get wire own ≡ Some packet → own ≡ name
    → (is_name_in_wire wire name ≡ true) × (is_name_in_wire (tree.remove wire own) name ≡ false)
goes_now wire own name packet there same = (
  ap (λ (q : MessageName). is_name_in_wire wire q) (sym same) ∙ ap (λ (o : Option Packet). is_some o) there,
  ap (λ (q : MessageName). is_name_in_wire (tree.remove wire own) q) (sym same) ∙ ap (λ (o : Option Packet). is_some o) (gone_at wire own),
)

lost_at : (wire : Wire) (lost : List MessageName) (own name : MessageName) (packet : Packet) → tree.get wire own ≡ Some packet
    → Contains (lost ++ own ∷ []) name
    → Contains lost name ⊎ ((is_name_in_wire wire name ≡ true) × (is_name_in_wire (tree.remove wire own) name ≡ false))
lost_at wire lost own name packet there is = ⊎_elim
    (λ (old : Contains lost name). inl old)
    (λ (same : own ≡ name). inr (goes_now wire own name packet there same))
    (one_more lost own name is)

module _ (script : List Statement) (world : World) (n : ℕ) (host : Host) (lost : List MessageName) where
  begins_lost : (cause : NodeCause) → IsCause script world n host cause → StepsByChanges cause → (name : MessageName)
      → Contains (lost ++ messages_lost_by (event_of_cause n cause)) name
      → Contains lost name ⊎ ((is_name_in_wire world.wire name ≡ true) × (is_name_in_wire (wire_at_cause cause world.wire) name ≡ false))
  begins_lost (GuestAsks session req ask) so by name there = inl (none_more lost [] refl name there)
  begins_lost (RequestComes own to request) so by name there = absurd by
  begins_lost (ReplyComes own from rsp) so by name there = inl (none_more lost [] refl name there)
  begins_lost (LossIsTold own (Request to bytes)) so by name there = lost_at world.wire lost own name (Request to bytes) so.there there
  begins_lost (LossIsTold own (Reply from bytes)) so by name there = lost_at world.wire lost own name (Reply from bytes) so.there there
  begins_lost (EntryIsRead entry) so by name there = inl (none_more lost [] refl name there)
  begins_lost (EntryIsPut entry) so by name there = absurd by
  begins_lost RecoveryTicks so by name there = absurd by
  begins_lost WorkIsRetried so by name there = inl (none_more lost [] refl name there)
  begins_lost (ClientAsks req ask) so by name there = inl (none_more lost [] refl name there)

  once_lost : (cause : NodeCause) → StepsAtOnce cause → (name : MessageName)
      → Contains (lost ++ messages_lost_by (event_of_cause n cause)) name → Contains lost name
  once_lost (GuestAsks session req ask) by name there = absurd by
  once_lost (RequestComes own to request) by name there = none_more lost [] refl name there
  once_lost (ReplyComes own from rsp) by name there = absurd by
  once_lost (LossIsTold own packet) by name there = absurd by
  once_lost (EntryIsRead entry) by name there = absurd by
  once_lost (EntryIsPut entry) by name there = none_more lost [] refl name there
  once_lost RecoveryTicks by name there = none_more lost [] refl name there
  once_lost WorkIsRetried by name there = absurd by
  once_lost (ClientAsks req ask) by name there = absurd by

untold_names : (name : MessageName) (packet : Packet) → messages_lost_by (loss_of name packet) ≡ name ∷ []
untold_names name (Request to bytes) = refl
untold_names name (Reply from bytes) = refl

module _ (script : List Statement) (range : RunsAreInRange script) (start : MomentWithPast) (began : Began script start.world) where
  -- an event at which nothing is lost
  still_lost : (event : Event) (made : EventOutcome) → messages_lost_by event ≡ [] → (name : MessageName)
      → Contains (moment_after script event start made).past.lost name → WasOrIsLost start (moment_after script event start made) name
  still_lost event made none name there =
      inl (none_more start.past.lost (messages_lost_by event) none name
      (subst (λ (all : List MessageName). Contains all name) (lost_after script event start made) there))

  pub lost_from : {before after : MomentWithPast} → MomentChange script start before after → (name : MessageName)
      → Contains after.past.lost name
      → WasOrIsLost before after name
  lost_from (moments.StepBegins stepping is by) name there =
      let after = moment_in_step script stepping start (first_in_step stepping) in
      subst (λ (wire : Wire). Contains start.past.lost name ⊎ ((is_name_in_wire start.world.wire name ≡ true)
      × (is_name_in_wire wire name ≡ false))) (sym (first_wire script range start began stepping by))
      (begins_lost script start.world stepping.n stepping.host start.past.lost stepping.cause is.caused by name
      (subst (λ (all : List MessageName). Contains all name) (lost_in_step script stepping start (first_in_step stepping)) there))
  lost_from (moments.StepGoesOn stepping so_far next is by within) name there =
      inl (subst (λ (all : List MessageName). Contains all name)
      (lost_in_step script stepping start next ∙ sym (lost_in_step script stepping start so_far)) there)
  lost_from (moments.StepIsMade stepping is by) name there =
      inl (once_lost script start.world stepping.n stepping.host start.past.lost stepping.cause by name
      (subst (λ (all : List MessageName). Contains all name) (lost_in_step script stepping start (last_in_step stepping)) there))
  lost_from (moments.LossIsUntold event made happened h) name there =
      subst (λ (wire : Wire). Contains start.past.lost name ⊎ ((is_name_in_wire start.world.wire name ≡ true)
      × (is_name_in_wire wire name ≡ false))) (ap (λ (m : EventOutcome). m.world.wire) h.made_so)
      (lost_at start.world.wire start.past.lost h.name name h.packet h.there
      (subst (λ (all : List MessageName). Contains all name)
      (lost_after script event start made
      ∙ ap (λ (more : List MessageName). start.past.lost ++ more) (ap messages_lost_by (sym h.event_so) ∙ untold_names h.name h.packet))
      there))
  lost_from (moments.DeliveryIsUnread event made happened h) name there =
      still_lost event made (ap messages_lost_by (sym h.event_so)) name there
  lost_from (moments.NodeIsLost event made happened h) name there = still_lost event made (ap messages_lost_by (sym h.event_so)) name there
  lost_from (moments.NodeLeaves event made happened h) name there = still_lost event made (ap messages_lost_by (sym h.event_so)) name there
  lost_from (moments.NodeIsReweighted event made happened h) name there =
      still_lost event made (ap messages_lost_by (sym h.event_so)) name there
  lost_from (moments.NodeJoins event made happened h) name there = still_lost event made (ap messages_lost_by (sym h.event_so)) name there
  lost_from (moments.NodeComesBack event made happened h) name there =
      still_lost event made (ap messages_lost_by (sym h.event_so)) name there
  lost_from (moments.PhaseEnds event made happened h) name there = still_lost event made (ap messages_lost_by (sym h.event_so)) name there

-- ---- what was lost is gone

-- the messages that were lost were given their numbers by their senders, and aren't in the wire
pub record TheLostAreGone (moment : MomentWithPast) : Type 0 where
  pub given : (name : MessageName) → Contains moment.past.lost name → IsNumberGiven name.number (tree.get moment.world.hosts name.sender.0)
  pub gone : (name : MessageName) → Contains moment.past.lost name → is_name_in_wire moment.world.wire name ≡ false

module _ (hosts hosts_after : Hosts) (wire : Wire) (attempts : List AttemptRecord) (name : MessageName)
    (given : IsNumberGiven name.number (tree.get hosts name.sender.0)) where
  sends_less : (n : ℕ) (sends : List (NodeId × PeerReq)) → AreSentBy hosts hosts_after n sends
      → is_name_in_wire (fold wire_with_request wire sends) name ≡ true
      → is_name_in_wire wire name ≡ true
  sends_less n sends by there =
      ap (λ (o : Option Packet). is_some o)
      (sym (sends_apart sends wire name (λ send at alike.
      let sender : name.sender.0 ≡ n = sym (ap (λ (q : MessageName). q.sender.0) alike) ∙ by.own send at in
      let number : send.1.number ≡ name.number = ap (λ (q : MessageName). q.number) alike in
      let low = (numbers_within by.host.node.sends sends send by.numbers at).0 in
      let below : name.number < by.host.node.sends = subst (IsNumberGiven name.number) (ap (tree.get hosts) sender ∙ by.there) given in
      absurd (omega (arith, number, low, below))))) ∙ there

  -- a given number is in the wire then only if it was before
  name_less : {later : Wire} {after : List AttemptRecord} → Traffic hosts hosts_after wire attempts later after
      → is_name_in_wire later name ≡ true
      → is_name_in_wire wire name ≡ true
  name_less NothingMoves there = there
  name_less (MessageIsLost own packet at) there = gone_less wire own name there
  name_less (ReplyIsReceived own from bytes at) there = gone_less wire own name there
  name_less (RequestIsAnswered own to bytes up rsp at answer) there = said_less wire own to rsp up (Request to bytes) at name there
  name_less (RequestsAreSent n sends by nothing) there = sends_less n sends by there
  name_less (AttemptBegins n sends attempt begun) there = sends_less n sends begun.sent_by there
  name_less (RepliesGo n) there = forgets_less n wire name there

none_if : (one other : Bool) → (other ≡ true → one ≡ true) → one ≡ false → other ≡ false
none_if one true back none = let yes = back refl in absurd (cc (yes, none))
none_if one false back none = refl

given_later : (hosts hosts_after : Hosts) (wire : Wire)
    → ((n : ℕ) (host : Host) → tree.get hosts n ≡ Some host → HostStays hosts_after wire n host) → (number n : ℕ)
    → IsNumberGiven number (tree.get hosts n) → IsNumberGiven number (tree.get hosts_after n)
given_later hosts hosts_after wire stay number n = by_host (tree.get hosts n) refl
  where
    by_host : (o : Option Host) → tree.get hosts n ≡ o → IsNumberGiven number o → IsNumberGiven number (tree.get hosts_after n)
    by_host None is none = absurd none
    by_host (Some host) is below =
        let s = stay n host is in
        let more : host.node.sends ≤ s.now.node.sends = s.sends in
        let low : number < host.node.sends = below in
        let still : number < s.now.node.sends = omega (arith, low, more) in
        subst (IsNumberGiven number) (sym s.there) still

pub opening_gone : (script : List Statement) → TheLostAreGone (first_moment script)
opening_gone script =
    record { given = λ name there. absurd (Contains-nil name there); gone = λ name there. absurd (Contains-nil name there) }

module _ (script : List Statement) (range : RunsAreInRange script) (start before after : MomentWithPast) (began : Began script start.world)
    (change : MomentChange script start before after) (tied : IsTied before) (lost : TheLostAreGone before) where
  later_given : (name : MessageName) → IsNumberGiven name.number (tree.get before.world.hosts name.sender.0)
      → IsNumberGiven name.number (tree.get after.world.hosts name.sender.0)
  later_given name given =
      given_later before.world.hosts after.world.hosts before.world.wire (hosts_stay script range start began change) name.number
      name.sender.0 given

  given_in_wire : (name : MessageName) (o : Option Packet) → tree.get before.world.wire name ≡ o → is_some o ≡ true
      → IsNumberGiven name.number (tree.get before.world.hosts name.sender.0)
  given_in_wire name None got is = absurd (cc (is))
  given_in_wire name (Some packet) got is = tied.numbers.given name packet got

  pub change_gone : TheLostAreGone after
  change_gone = record {
    given = λ name there. ⊎_elim
        (λ (old : Contains before.past.lost name). later_given name (lost.given name old))
        (λ (new : (is_name_in_wire before.world.wire name ≡ true) × (is_name_in_wire after.world.wire name ≡ false)).
        later_given name (given_in_wire name (tree.get before.world.wire name) refl new.0))
        (lost_from script range start began change name there);
    gone = λ name there. ⊎_elim
        (λ (old : Contains before.past.lost name).
        none_if (is_name_in_wire before.world.wire name) (is_name_in_wire after.world.wire name)
        (name_less before.world.hosts after.world.hosts before.world.wire before.past.attempts name (lost.given name old)
        (traffic script range start began change)) (lost.gone name old))
        (λ (new : (is_name_in_wire before.world.wire name ≡ true) × (is_name_in_wire after.world.wire name ≡ false)). new.1)
        (lost_from script range start began change name there);
  }
