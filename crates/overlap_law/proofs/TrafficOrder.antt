-- Each kind of traffic keeps that attempts are ordered, where one that begins does so in its turn.
use Rattle.std.proofs.Common.{◌≡◌, arith, ℕ, true, List, [], ◌∷◌, ◌++◌, fold, length, Option, Some, is_some, slice_get, refl, sym, ap}
use Rattle.std.proofs.Common.{subst, ◌∙◌, ⊎_elim}
use Rattle.std.specs.FinMap as tree
use Rattle.std.proofs.lemmas.Option.{slice_get_within}
use Rattle.object_id.specs.declared.node.NodeId.{NodeId}
use Rattle.message_wire.specs.declared.packet.Packet.{Packet}
use Rattle.message_wire.specs.declared.packet.Packet.TheVariants.{Request, Reply}
use Rattle.sheep_world.specs.Messages.{wire_with_reply}
use Rattle.sheep_world.specs.NodeSteps.{wire_with_request}
use Rattle.overlap_law.specs.Attempts.{AttemptRecord, MessageFate, Doomed, attempts_with_fate, fate_of_say, object_of}
use Rattle.overlap_law.specs.Reached.{Hosts}
use Rattle.overlap_law.specs.Each.{EachAttempt}
use Rattle.overlap_law.specs.Packets.{Wire, message_name_at, is_name_in_wire}
use Rattle.overlap_law.specs.Fates.{AttemptsAreOfIncarnations, AreInOrder, AttemptsAreOrdered}
use Rattle.overlap_law.specs.Traffic.{IsInTurn, Traffic, NothingMoves, MessageIsLost, ReplyIsReceived, RequestIsAnswered, RequestsAreSent}
use Rattle.overlap_law.specs.Traffic.{AttemptBegins, RepliesGo}
use Rattle.overlap_law.proofs.AttemptLists.{got_more, got_marked, fates_told}
use Rattle.overlap_law.proofs.TrafficFates.{sends_new}
use Rattle.overlap_law.proofs.WireLemmas.{gone_less, said_less, forgets_less}

-- the attempts have no packet that they hadn't
abbrev pub HaveNoMore : Wire → Wire → List AttemptRecord → Type 0
HaveNoMore wire later attempts =
    EachAttempt attempts (λ j attempt. (place : ℕ) (target : NodeId) → slice_get attempt.targets place ≡ Some target
    → is_name_in_wire later (message_name_at attempt place) ≡ true → is_name_in_wire wire (message_name_at attempt place) ≡ true)

ordered_less : (wire later : Wire) (attempts : List AttemptRecord) → HaveNoMore wire later attempts → AttemptsAreOrdered wire attempts
    → AttemptsAreOrdered later attempts
ordered_less wire later attempts less ordered = record {
  each = λ j first there k second there_too below same.
      let o = ordered.each j first there k second there_too below same in
      record {
        epochs = o.epochs;
        flying = λ place target h. o.flying place target
            (record { among = h.among; there = less j first there place target h.among h.there });
      };
}

ordered_marked : (wire : Wire) (told : MessageFate) (sender : NodeId) (number : ℕ) (attempts : List AttemptRecord)
    → AttemptsAreOrdered wire attempts
    → AttemptsAreOrdered wire (attempts_with_fate told sender number attempts)
ordered_marked wire told sender number attempts ordered = record {
  each = λ j first there k second there_too below same.
      let (one, at, is) = got_marked told sender number attempts j first there in
      let (two, at_too, is_too) = got_marked told sender number attempts k second there_too in
      let o = ordered.each j one at k two at_too below (ap object_of is ∙ same ∙ sym (ap object_of is_too)) in
      subst (λ (a : AttemptRecord). AreInOrder wire a second) is
      (subst (AreInOrder wire (record one { fates = fates_told told sender number one })) is_too
      (record { epochs = o.epochs; flying = λ place target h. o.flying place target (record { among = h.among; there = h.there }) }));
}

ordered_more : (wire : Wire) (attempts : List AttemptRecord) (attempt : AttemptRecord) → IsInTurn wire attempts attempt
    → AttemptsAreOrdered wire attempts
    → AttemptsAreOrdered wire (attempts ++ attempt ∷ [])
ordered_more wire attempts attempt turn ordered = record {
  each = λ j first there k second there_too below same. ⊎_elim
      (λ (one : slice_get attempts j ≡ Some first). ⊎_elim
      (λ (two : slice_get attempts k ≡ Some second). ordered.each j first one k second two below same)
      (λ (new : (k ≡ length attempts) × (attempt ≡ second)).
      subst (AreInOrder wire first) new.1 (turn j first one (same ∙ sym (ap object_of new.1))))
      (got_more attempts attempt k second there_too))
      (λ (new : (j ≡ length attempts) × (attempt ≡ first)). ⊎_elim
      (λ (two : slice_get attempts k ≡ Some second).
      let within = slice_get_within attempts k second two in let at = new.0 in absurd (omega (arith, within, at, below)))
      (λ (too : (k ≡ length attempts) × (attempt ≡ second)). let at = new.0 in let at_too = too.0 in absurd
      (omega (arith, at, at_too, below))) (got_more attempts attempt k second there_too))
      (got_more attempts attempt j first there);
}

-- ---- each kind of traffic

module _ (hosts hosts_after : Hosts) (wire : Wire) (attempts : List AttemptRecord)
    (of_incarnations : AttemptsAreOfIncarnations hosts wire attempts) where
  -- the attempts get no packets that they hadn't: what a node sends has new numbers
  pub traffic_fewer : {later : Wire} {after : List AttemptRecord} → Traffic hosts hosts_after wire attempts later after
      → HaveNoMore wire later attempts
  traffic_fewer NothingMoves j attempt at place target among h = h
  traffic_fewer (MessageIsLost name packet there) j attempt at place target among h = gone_less wire name (message_name_at attempt place) h
  traffic_fewer (ReplyIsReceived name from bytes there) j attempt at place target among h =
      gone_less wire name (message_name_at attempt place) h
  traffic_fewer (RequestIsAnswered name to bytes up rsp there answer) j attempt at place target among h =
      said_less wire name to rsp up (Request to bytes) there (message_name_at attempt place) h
  traffic_fewer (RequestsAreSent n sends by nothing) j attempt at place target among h =
      ap (λ (o : Option Packet). is_some o) (sym (sends_new hosts hosts_after wire attempts of_incarnations n sends by j attempt at place
      target among)) ∙ h
  traffic_fewer (AttemptBegins n sends new begun) j attempt at place target among h =
      ap (λ (o : Option Packet). is_some o) (sym (sends_new hosts hosts_after wire attempts of_incarnations n sends begun.sent_by j attempt
      at place target among)) ∙ h
  traffic_fewer (RepliesGo n) j attempt at place target among h = forgets_less n wire (message_name_at attempt place) h

  -- those that begin do so in their turn
  abbrev pub BeginInTurn : List AttemptRecord → Type 0
  BeginInTurn after = (attempt : AttemptRecord) → after ≡ attempts ++ attempt ∷ [] → IsInTurn wire attempts attempt

  -- the attempts as they are, and with what is told of one message
  less : {later : Wire} → HaveNoMore wire later attempts → AttemptsAreOrdered wire attempts → AttemptsAreOrdered later attempts
  less {later} fewer ordered = ordered_less wire later attempts fewer ordered

  pub traffic_ordered : {later : Wire} {after : List AttemptRecord} → Traffic hosts hosts_after wire attempts later after
      → BeginInTurn after
      → AttemptsAreOrdered wire attempts → AttemptsAreOrdered later after
  traffic_ordered NothingMoves turns ordered = ordered
  traffic_ordered (MessageIsLost name (Request to bytes) there) turns ordered =
      ordered_marked (tree.remove wire name) Doomed name.sender name.number attempts
      (less (traffic_fewer (MessageIsLost name (Request to bytes) there)) ordered)
  traffic_ordered (MessageIsLost name (Reply from bytes) there) turns ordered =
      less (traffic_fewer (MessageIsLost name (Reply from bytes) there)) ordered
  traffic_ordered (ReplyIsReceived name from bytes there) turns ordered =
      less (traffic_fewer (ReplyIsReceived name from bytes there)) ordered
  traffic_ordered (RequestIsAnswered name to bytes up rsp there answer) turns ordered =
      ordered_marked (wire_with_reply name to up (Some rsp) wire) (fate_of_say rsp.say) name.sender name.number attempts
      (less (traffic_fewer (RequestIsAnswered name to bytes up rsp there answer)) ordered)
  traffic_ordered (RequestsAreSent n sends by nothing) turns ordered = less (traffic_fewer (RequestsAreSent n sends by nothing)) ordered
  traffic_ordered (AttemptBegins n sends attempt begun) turns ordered =
      let fewer = traffic_fewer (AttemptBegins n sends attempt begun) in
      ordered_more (fold wire_with_request wire sends) attempts attempt
      (λ j other there same.
      let o = turns attempt refl j other there same in
      record {
        epochs = o.epochs;
        flying = λ place target h. o.flying place target
            (record { among = h.among; there = fewer j other there place target h.among h.there });
      })
      (less fewer ordered)
  traffic_ordered (RepliesGo n) turns ordered = less (traffic_fewer (RepliesGo n)) ordered
