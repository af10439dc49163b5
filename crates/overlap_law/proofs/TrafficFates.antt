-- Each kind of traffic keeps that the fates of attempts are those of the wire.
use Rattle.std.proofs.Common.{◌≡◌, ◌≢◌, ◌⊎◌, inl, arith, ℕ, ◌+◌, ◌-◌, Bool, true, false, cond, List, [], ◌∷◌, ◌++◌, fold, length, Option}
use Rattle.std.proofs.Common.{Some, None, option_map, slice_get, refl, sym, ap, subst, ◌∙◌, ⊎_elim}
use Rattle.std.specs.FinMap as tree
use Rattle.std.proofs.lemmas.Option.{same_Some, slice_get_within}
use Rattle.object_id.specs.declared.node.NodeId.{NodeId}
use Rattle.peer_proto.specs.declared.ask.PeerReq.{PeerReq}
use Rattle.peer_proto.specs.declared.say.PeerSay.{PeerSay}
use Rattle.peer_proto.specs.declared.say.PeerSay.TheVariants as says
use Rattle.peer_proto.specs.Ask.{ask_bytes}
use Rattle.message_wire.specs.declared.name.MessageName.{MessageName}
use Rattle.message_wire.specs.declared.packet.Packet.{Packet}
use Rattle.message_wire.specs.declared.packet.Packet.TheVariants.{Request, Reply}
use Rattle.message_wire.specs.Message.{without_replies}
use Rattle.sheep_node.proofs.MessageNumbers.{numbers_within}
use Rattle.sheep_world.specs.Messages.{wire_with_reply}
use Rattle.sheep_world.specs.NodeSteps.{wire_with_request}
use Rattle.sheep_world.proofs.WireAfterSends.{sends_apart, sends_there}
use Rattle.overlap_law.specs.Attempts.{AttemptRecord, MessageFate, Flying, Served, Doomed, has_message, known_fate, fates_with}
use Rattle.overlap_law.specs.Attempts.{attempts_with_fate, fate_of_say}
use Rattle.overlap_law.specs.Reached.{Hosts}
use Rattle.overlap_law.specs.Each.{EachAttempt}
use Rattle.overlap_law.specs.Packets.{Wire, message_name_at, message_request_at, is_request_in_flight}
use Rattle.overlap_law.specs.Fates.{IsFateIn, FatesAreOfTheWire, AttemptsAreOfIncarnations}
use Rattle.overlap_law.specs.StepMoments.{attempts_with_loss}
use Rattle.overlap_law.specs.Traffic.{AreSentBy, Traffic, NothingMoves, MessageIsLost, ReplyIsReceived, RequestIsAnswered, RequestsAreSent}
use Rattle.overlap_law.specs.Traffic.{AttemptBegins, RepliesGo}
use Rattle.overlap_law.proofs.AttemptLists.{got_more, got_marked, fates_told, told_own, told-length, has_own, own_place, other_place}
use Rattle.overlap_law.proofs.WireLemmas.{IsStill, tied_to, gone_at, left_at, reply_gone, said_none, said_else, forgets_still}

fate_still : (wire later : Wire) (attempt : AttemptRecord) (place : ℕ) (target : NodeId) (fate : MessageFate)
    → IsStill wire later (message_name_at attempt place)
    → IsFateIn wire attempt place target fate → IsFateIn later attempt place target fate
fate_still wire later attempt place target Flying still h = ⊎_elim
    (λ (same : tree.get later (message_name_at attempt place) ≡ tree.get wire (message_name_at attempt place)).
    record { bytes = h.bytes; there = same ∙ h.there; spelled = h.spelled })
    (λ (none : (is_request_in_flight (tree.get wire (message_name_at attempt place)) ≡ false)
    × (is_request_in_flight (tree.get later (message_name_at attempt place)) ≡ false)).
    let no = none.0 in let yes : is_request_in_flight (tree.get wire (message_name_at attempt place))
    ≡ true = ap is_request_in_flight h.there in absurd (cc (no, yes)))
    still
fate_still wire later attempt place target Served still h = ⊎_elim
    (λ (same : tree.get later (message_name_at attempt place) ≡ tree.get wire (message_name_at attempt place)). ap is_request_in_flight same
    ∙ h) (λ (none : (is_request_in_flight (tree.get wire (message_name_at attempt place)) ≡ false)
    × (is_request_in_flight (tree.get later (message_name_at attempt place)) ≡ false)). none.1)
    still
fate_still wire later attempt place target Doomed still h = ⊎_elim
    (λ (same : tree.get later (message_name_at attempt place) ≡ tree.get wire (message_name_at attempt place)). ap is_request_in_flight same
    ∙ h) (λ (none : (is_request_in_flight (tree.get wire (message_name_at attempt place)) ≡ false)
    × (is_request_in_flight (tree.get later (message_name_at attempt place)) ≡ false)). none.1)
    still

abbrev AreStill : Wire → Wire → List AttemptRecord → Type 0
AreStill wire later attempts =
    EachAttempt attempts (λ j attempt. (place : ℕ) (target : NodeId) → slice_get attempt.targets place ≡ Some target
    → IsStill wire later (message_name_at attempt place))

fates_still : (wire later : Wire) (attempts : List AttemptRecord) → AreStill wire later attempts → FatesAreOfTheWire wire attempts
    → FatesAreOfTheWire later attempts
fates_still wire later attempts still fates = record {
  whole = fates.whole;
  each = λ j attempt there place target fate at is.
      fate_still wire later attempt place target fate (still j attempt there place target at)
      (fates.each j attempt there place target fate at is);
}

-- what is told is no flight
abbrev is_known : MessageFate → Bool
is_known Flying = false
is_known Served = true
is_known Doomed = true

said_known : (say : PeerSay) → is_known (fate_of_say say) ≡ true
said_known says.Success = refl
said_known (says.Piece bytes) = refl
said_known (says.Objects oids) = refl
said_known (says.Row row) = refl
said_known says.NoRow = refl
said_known (says.Refused refusal) = refl

known_then : (told fate : MessageFate) → is_known told ≡ true → is_known (known_fate told fate) ≡ true
known_then told Flying known = known
known_then told Served known = refl
known_then told Doomed known = refl

fate_known : (wire : Wire) (attempt : AttemptRecord) (place : ℕ) (target : NodeId) (fate : MessageFate) → is_known fate ≡ true
    → is_request_in_flight (tree.get wire (message_name_at attempt place)) ≡ false → IsFateIn wire attempt place target fate
fate_known wire attempt place target Flying known none = absurd (cc (known))
fate_known wire attempt place target Served known none = none
fate_known wire attempt place target Doomed known none = none

fates_marked : (wire later : Wire) (told : MessageFate) (name : MessageName) (attempts : List AttemptRecord) → is_known told ≡ true
    → is_request_in_flight (tree.get later name) ≡ false
    → ((q : MessageName) → q ≢ name → tree.get later q ≡ tree.get wire q) → ((q : MessageName) → (q ≡ name) ⊎ (q ≢ name))
    → FatesAreOfTheWire wire attempts → FatesAreOfTheWire later (attempts_with_fate told name.sender name.number attempts)
fates_marked wire later told name attempts known none same tied fates = record {
  whole = λ j now there.
      let (was, at, is) = got_marked told name.sender name.number attempts j now there in
      subst (λ (a : AttemptRecord). length a.fates ≡ length a.targets) is
      (long was (has_message name.sender name.number was) ∙ fates.whole j was at);
  each = λ j now there place target fate among got.
      let (was, at, is) = got_marked told name.sender name.number attempts j now there in
      let got_was : slice_get (fates_told told name.sender name.number was) place
      ≡ Some fate = ap (λ (a : AttemptRecord). slice_get a.fates place) is ∙ got in
      let among_was : slice_get was.targets place ≡ Some target = ap (λ (a : AttemptRecord). slice_get a.targets place) is ∙ among in
      subst (λ (a : AttemptRecord). IsFateIn later a place target fate) is
      (other_fate was place target fate (⊎_elim
      (λ (own : message_name_at was place ≡ name). own_fate was place target fate own among_was got_was)
      (λ (apart : message_name_at was place ≢ name).
      fate_still wire later was place target fate (inl (same (message_name_at was place) apart))
      (fates.each j was at place target fate among_was (sym (other_place was name told place apart) ∙ got_was)))
      (tied (message_name_at was place))));
}
  where
    long : (was : AttemptRecord) (b : Bool)
        → length (cond b (fates_with (name.number - was.first) told was.fates) was.fates) ≡ length was.fates
    long was true = told-length (name.number - was.first) told was.fates
    long was false = refl

    -- the fates of an attempt don't matter where one of them stands
    other_fate : (was : AttemptRecord) (place : ℕ) (target : NodeId) (fate : MessageFate) → IsFateIn later was place target fate
        → IsFateIn later (record was { fates = fates_told told name.sender name.number was }) place target fate
    other_fate was place target Flying h = record { bytes = h.bytes; there = h.there; spelled = h.spelled }
    other_fate was place target Served h = h
    other_fate was place target Doomed h = h

    by_fate : (o : Option MessageFate) (fate : MessageFate) → option_map (known_fate told) o ≡ Some fate → is_known fate ≡ true
    by_fate None fate is = absurd (cc (is))
    by_fate (Some was) fate is = ap is_known (sym (same_Some (known_fate told was) fate is)) ∙ known_then told was known

    own_fate : (was : AttemptRecord) (place : ℕ) (target : NodeId) (fate : MessageFate) → message_name_at was place ≡ name
        → slice_get was.targets place ≡ Some target
        → slice_get (fates_told told name.sender name.number was) place ≡ Some fate → IsFateIn later was place target fate
    own_fate was place target fate own among got =
        let has = has_own was name place (slice_get_within was.targets place target among) own in
        let known_so : slice_get (fates_with place told was.fates) place ≡ Some fate
        = (λ i. slice_get (fates_with (sym (own_place was name place own) i) told was.fates) place)
        ∙ ap (λ (b : Bool). slice_get (cond b (fates_with (name.number - was.first) told was.fates) was.fates) place) (sym has) ∙ got in
        fate_known later was place target fate (by_fate (slice_get was.fates place) fate (sym (told_own place told was.fates) ∙ known_so))
        (ap (λ (q : MessageName). is_request_in_flight (tree.get later q)) own ∙ none)

fates_more : (wire : Wire) (attempts : List AttemptRecord) (attempt : AttemptRecord) → length attempt.fates ≡ length attempt.targets
    → ((place : ℕ) (target : NodeId) (fate : MessageFate) → slice_get attempt.targets place ≡ Some target → slice_get attempt.fates place
    ≡ Some fate
    → IsFateIn wire attempt place target fate)
    → FatesAreOfTheWire wire attempts → FatesAreOfTheWire wire (attempts ++ attempt ∷ [])
fates_more wire attempts attempt whole each fates = record {
  whole = λ j one there. ⊎_elim
      (λ (old : slice_get attempts j ≡ Some one). fates.whole j one old)
      (λ (new : (j ≡ length attempts) × (attempt ≡ one)). subst (λ (a : AttemptRecord). length a.fates ≡ length a.targets) new.1 whole)
      (got_more attempts attempt j one there);
  each = λ j one there place target fate among got. ⊎_elim
      (λ (old : slice_get attempts j ≡ Some one). fates.each j one old place target fate among got)
      (λ (new : (j ≡ length attempts) × (attempt ≡ one)).
      subst (λ (a : AttemptRecord). IsFateIn wire a place target fate) new.1
      (each place target fate (ap (λ (a : AttemptRecord). slice_get a.targets place) new.1 ∙ among)
      (ap (λ (a : AttemptRecord). slice_get a.fates place) new.1 ∙ got)))
      (got_more attempts attempt j one there);
}

-- ---- each kind of traffic

module _ (hosts hosts_after : Hosts) (wire : Wire) (attempts : List AttemptRecord)
    (of_incarnations : AttemptsAreOfIncarnations hosts wire attempts) where
  -- new sends have names of no attempt
  pub sends_new : (n : ℕ) (sends : List (NodeId × PeerReq)) → AreSentBy hosts hosts_after n sends
      → EachAttempt attempts (λ j attempt. (place : ℕ) (target : NodeId) → slice_get attempt.targets place ≡ Some target
      → tree.get (fold wire_with_request wire sends) (message_name_at attempt place) ≡ tree.get wire (message_name_at attempt place))
  sends_new n sends by j attempt there place target among =
      sends_apart sends wire (message_name_at attempt place) (λ send at alike.
      let own = by.own send at in
      let gateway : attempt.gateway.0 ≡ n = sym (ap (λ (q : MessageName). q.sender.0) alike) ∙ own in
      let number : send.1.number ≡ attempt.first + place = ap (λ (q : MessageName). q.number) alike in
      let low = (numbers_within by.host.node.sends sends send by.numbers at).0 in
      let given = of_incarnations.given j attempt there by.host (ap (tree.get hosts) gateway ∙ by.there) in
      let within = slice_get_within attempt.targets place target among in
      absurd (omega (arith, number, low, given, within)))

  pub traffic_fates : {later : Wire} {after : List AttemptRecord} → Traffic hosts hosts_after wire attempts later after
      → FatesAreOfTheWire wire attempts → FatesAreOfTheWire later after
  traffic_fates NothingMoves fates = fates
  traffic_fates (MessageIsLost name packet there) fates = lost packet there
    where
      lost : (packet : Packet) → tree.get wire name ≡ Some packet
          → FatesAreOfTheWire (tree.remove wire name) (attempts_with_loss name packet attempts)
      lost (Request to bytes) there =
          fates_marked wire (tree.remove wire name) Doomed name attempts refl (ap is_request_in_flight (gone_at wire name))
          (left_at wire name) (tied_to wire name) fates
      lost (Reply from bytes) there =
          fates_still wire (tree.remove wire name) attempts (λ j attempt at place target among. reply_gone wire name from bytes there
          (message_name_at attempt place)) fates
  traffic_fates (ReplyIsReceived name from bytes there) fates =
      fates_still wire (tree.remove wire name) attempts (λ j attempt at place target among. reply_gone wire name from bytes there
      (message_name_at attempt place)) fates
  traffic_fates (RequestIsAnswered name to bytes up rsp there answer) fates =
      fates_marked wire (wire_with_reply name to up (Some rsp) wire) (fate_of_say rsp.say) name attempts (said_known rsp.say)
      (said_none wire name to rsp up) (said_else wire name to rsp up) (tied_to wire name) fates
  traffic_fates (RequestsAreSent n sends by nothing) fates =
      fates_still wire (fold wire_with_request wire sends) attempts
      (λ j attempt there place target among. inl (sends_new n sends by j attempt there place target among)) fates
  traffic_fates (AttemptBegins n sends attempt begun) fates =
      fates_more (fold wire_with_request wire sends) attempts attempt begun.whole
      (λ place target fate among got. subst (IsFateIn (fold wire_with_request wire sends) attempt place target)
      (sym (begun.flying place fate got))
      (record {
        bytes = ask_bytes (message_request_at attempt place);
        there = sends_there begun.sent_by.host.node.sends sends wire (target, message_request_at attempt place) begun.sent_by.numbers
            (begun.asks place target among);
        spelled = begun.sent_by.read (target, message_request_at attempt place) (begun.asks place target among);
      }))
      (fates_still wire (fold wire_with_request wire sends) attempts
      (λ j attempt there place target among. inl (sends_new n sends begun.sent_by j attempt there place target among)) fates)
  traffic_fates (RepliesGo n) fates =
      fates_still wire (without_replies n wire) attempts (λ j attempt at place target among. forgets_still n wire
      (message_name_at attempt place)) fates
