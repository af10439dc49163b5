-- The attempts over a change at which none begins: each is as it was, but that a message of one may be doomed now, or served by its target.
use Rattle.std.proofs.Common.{◌≡◌, ◌≢◌, ◌⊎◌, inl, inr, ⊎_elim, ℕ, ◌-◌, Bool, true, cond, List, [], length, slice_get, Option, Some, None}
use Rattle.std.proofs.Common.{option_map, refl, sym, ap, subst, ◌∙◌}
use Rattle.std.specs.FinMap as tree
use Rattle.std.proofs.lemmas.List.{length-map}
use Rattle.std.proofs.lemmas.Option.{same_Some, slice_get_within}
use Rattle.object_id.specs.declared.node.NodeId.{NodeId}
use Rattle.cluster_script.specs.declared.statement.Statement.{Statement}
use Rattle.peer_proto.specs.declared.ask.PeerReq.{PeerReq}
use Rattle.peer_proto.specs.Ask.{ask_in}
use Rattle.message_wire.specs.declared.name.MessageName.{MessageName}
use Rattle.message_wire.specs.declared.packet.Packet.{Packet}
use Rattle.message_wire.specs.declared.packet.Packet.TheVariants.{Request, Reply}
use Rattle.sheep_world.specs.Began.{Began}
use Rattle.sheep_world.proofs.RecoveryMessages.{same_asked}
use Rattle.overlap_law.specs.Attempts.{AttemptRecord, MessageFate, Flying, Served, Doomed, known_fate, fates_with, attempt_with_fate}
use Rattle.overlap_law.specs.Attempts.{attempts_with_fate}
use Rattle.overlap_law.specs.Words.{has_served, is_served_by}
use Rattle.overlap_law.specs.Packets.{IsAsking, message_name_at, message_request_at}
use Rattle.overlap_law.specs.Past.{MomentWithPast}
use Rattle.overlap_law.specs.MomentChanges.{MomentChange, RunsAreInRange}
use Rattle.overlap_law.specs.ShapedAttempts.{AreShaped}
use Rattle.overlap_law.specs.StepMoments.{attempts_with_loss}
use Rattle.overlap_law.specs.TiedAttempts.{IsTied}
use Rattle.overlap_law.proofs.AttemptLists.{fates_told, got_marked, told_own, has_own, own_place, other_place}
use Rattle.overlap_law.proofs.BeyondInMoments.{doomed_later}
use Rattle.overlap_law.proofs.FinishedInMoments.{TermsHold}
use Rattle.overlap_law.proofs.PairedAttempts.{Paired, pairs_from}
use Rattle.overlap_law.proofs.ServedPlaces.{served_at, served_from}
use Rattle.overlap_law.proofs.SinceLater.{IsLater, NoneTold}
use Rattle.overlap_law.proofs.WireLemmas.{tied_to}

abbrev bytes_of : Option Packet → List ℕ
bytes_of None = []
bytes_of (Some (Request to bytes)) = bytes
bytes_of (Some (Reply from bytes)) = bytes

abbrev receiver_of : NodeId → Option Packet → NodeId
receiver_of one None = one
receiver_of one (Some (Request to bytes)) = to
receiver_of one (Some (Reply from bytes)) = from

-- a node served what a request asks, which is the message of an attempt to it
pub record IsToldOf (n : ℕ) (request : PeerReq) (m : ℕ) (now : AttemptRecord) : Type 0 where
  pub here : m ≡ n
  pub place : ℕ
  pub among : slice_get now.targets place ≡ Some (record { 0 = n })
  pub request_so : request ≡ message_request_at now place

module _ (script : List Statement) (range : RunsAreInRange script) (start before after : MomentWithPast) (began : Began script start.world)
    (change : MomentChange script start before after) (terms : TermsHold before) (shaped : AreShaped before) (tied : IsTied before) where
  abbrev attempts : List AttemptRecord
  attempts = before.past.attempts

  abbrev more : List AttemptRecord
  more = after.past.attempts

  -- how attempts are, by who is told to have served
  abbrev pub AreLater : (ℕ → AttemptRecord → Type 0) → Type 0
  AreLater Told = Paired (IsLater before.world.hosts after.world.hosts Told) before.past.attempts after.past.attempts

  pub later-same : more ≡ attempts → AreLater NoneTold
  later-same same =
      pairs_from (IsLater before.world.hosts after.world.hosts NoneTold) attempts more
      (ap (λ (all : List AttemptRecord). length all) (sym same))
      (λ j was now at at_now.
      let one : now ≡ was
      = same_Some now was (sym at_now ∙ ap (λ (all : List AttemptRecord). slice_get all j) same ∙ at) in
      record {
        work = ap (λ (a : AttemptRecord). a.work) (sym one);
        epoch = ap (λ (a : AttemptRecord). a.epoch) (sym one);
        targets = ap (λ (a : AttemptRecord). a.targets) (sym one);
        messages = λ place. ap (λ (a : AttemptRecord). message_request_at a place) (sym one);
        doomed = doomed_later script range start before after began change terms shaped tied j was now at at_now;
        served = λ m has. inl (ap (λ (a : AttemptRecord). has_served (record { 0 = m }) a) (sym one) ∙ has);
      })

  -- a target whose message has the fate served has served
  served_by : (m : ℕ) (was : AttemptRecord) (place : ℕ) (target : NodeId) → slice_get was.targets place ≡ Some target → target.0 ≡ m
      → slice_get was.fates place ≡ Some Served → has_served (record { 0 = m }) was ≡ true
  served_by m was place target among own served =
      ap (λ (k : ℕ). is_served_by (record { 0 = k }) was.targets was.fates) (sym own)
      ∙ served_from target was.targets was.fates place among served

  -- a message is told of
  module _ (told : MessageFate) (name : MessageName) (Told : ℕ → AttemptRecord → Type 0)
      (newly : told ≡ Served → (j : ℕ) (was : AttemptRecord) → slice_get attempts j ≡ Some was → (place : ℕ) (target : NodeId)
      → slice_get was.targets place ≡ Some target → message_name_at was place ≡ name → slice_get was.fates place ≡ Some Flying
      → (fates : List MessageFate) → Told target.0 (record was { fates = fates })) where
    -- at the message that is told of
    told_here : (j : ℕ) (was : AttemptRecord) → slice_get attempts j ≡ Some was → (place : ℕ) (target : NodeId)
        → slice_get was.targets place ≡ Some target → message_name_at was place ≡ name
        → slice_get (fates_told told name.sender name.number was) place ≡ Some Served → (fates : List MessageFate)
        → (slice_get was.fates place ≡ Some Served) ⊎ Told target.0 (record was { fates = fates })
    told_here j was at place target among own served fates =
        let fates_so : slice_get (fates_told told name.sender name.number was) place
        ≡ option_map (known_fate told) (slice_get was.fates place)
        = ap (λ (b : Bool). slice_get (cond b (fates_with (name.number - was.first) told was.fates) was.fates) place)
        (has_own was name place (slice_get_within was.targets place target among) own)
        ∙ ap (λ (p : ℕ). slice_get (fates_with p told was.fates) place) (own_place was name place own)
        ∙ told_own place told was.fates in
        by_fate (slice_get was.fates place) refl (sym fates_so ∙ served)
      where
        fate_in : Option MessageFate → MessageFate
        fate_in None = Doomed
        fate_in (Some fate) = fate

        by_fate : (o : Option MessageFate) → slice_get was.fates place ≡ o → option_map (known_fate told) o ≡ Some Served
            → (slice_get was.fates place ≡ Some Served) ⊎ Told target.0 (record was { fates = fates })
        by_fate None is so = absurd (cc (so))
        by_fate (Some Flying) is so =
            inr (newly (same_Some told Served so) j was at place target among own is fates)
        by_fate (Some Served) is so = inl is
        by_fate (Some Doomed) is so = absurd (cc (so))

    serves_later : (j : ℕ) (was : AttemptRecord) → slice_get attempts j ≡ Some was → (m : ℕ)
        → has_served (record { 0 = m }) (record was { fates = fates_told told name.sender name.number was }) ≡ true
        → (has_served (record { 0 = m }) was ≡ true) ⊎ Told m (record was { fates = fates_told told name.sender name.number was })
    serves_later j was at m has =
        let marked = fates_told told name.sender name.number was in
        let (place, target, among, served, own) = served_at (record { 0 = m }) was.targets marked has in
        ⊎_elim
        (λ (here : message_name_at was place ≡ name). ⊎_elim
        (λ (old : slice_get was.fates place ≡ Some Served). inl (served_by m was place target among own old))
        (λ (told_now : Told target.0 (record was { fates = marked })).
        inr (subst (λ (k : ℕ). Told k (record was { fates = marked })) own told_now))
        (told_here j was at place target among here served marked))
        (λ (apart : message_name_at was place ≢ name).
        inl (served_by m was place target among own (sym (other_place was name told place apart) ∙ served)))
        (tied_to before.world.wire name (message_name_at was place))

    pub later-told : more ≡ attempts_with_fate told name.sender name.number attempts → AreLater Told
    unfolding attempts_with_fate
    later-told same =
        pairs_from (IsLater before.world.hosts after.world.hosts Told) attempts more
        (sym (length-map attempts (attempt_with_fate told name.sender name.number))
        ∙ ap (λ (all : List AttemptRecord). length all) (sym same))
        (λ j was now at at_now.
        let (old, at_old, is) = got_marked told name.sender name.number attempts j now
        (ap (λ (all : List AttemptRecord). slice_get all j) (sym same) ∙ at_now) in
        let one : old ≡ was = same_Some old was (sym at_old ∙ at) in
        let marked : record was { fates = fates_told told name.sender name.number was } ≡ now
        = ap (λ (a : AttemptRecord). record a { fates = fates_told told name.sender name.number a }) (sym one) ∙ is in
        record {
          work = ap (λ (a : AttemptRecord). a.work) marked;
          epoch = ap (λ (a : AttemptRecord). a.epoch) marked;
          targets = ap (λ (a : AttemptRecord). a.targets) marked;
          messages = λ place. ap (λ (a : AttemptRecord). message_request_at a place) marked;
          doomed = doomed_later script range start before after began change terms shaped tied j was now at at_now;
          served = λ m has.
              subst (λ (a : AttemptRecord). (has_served (record { 0 = m }) was ≡ true) ⊎ Told m a) marked
              (serves_later j was at m (ap (λ (a : AttemptRecord). has_served (record { 0 = m }) a) marked ∙ has));
        })

  pub later-doomed : (name : MessageName) → more ≡ attempts_with_fate Doomed name.sender name.number attempts → AreLater NoneTold
  later-doomed name same = later-told Doomed name NoneTold (λ is. absurd (cc (is))) same

  pub later-lost : (name : MessageName) (packet : Packet) → more ≡ attempts_with_loss name packet attempts → AreLater NoneTold
  later-lost name (Request to bytes) same = later-doomed name same
  later-lost name (Reply from bytes) same = later-same same

  -- a request of the wire is served by a node
  pub later-served : (n : ℕ) (name : MessageName) (to : NodeId) (request : PeerReq) → to.0 ≡ n
      → IsAsking before.world.wire name to request → more ≡ attempts_with_fate Served name.sender name.number attempts
      → AreLater (IsToldOf n request)
  later-served n name to request here asked same =
      later-told Served name (IsToldOf n request) (λ is j was at place target among own flying fates.
      let asking = tied.fates.each j was at place target Flying among flying in
      let packets : Some (Request target asking.bytes) ≡ Some (Request to asked.bytes)
      = sym asking.there ∙ ap (tree.get before.world.wire) own ∙ asked.there in
      let to_so : to ≡ target = sym (ap (receiver_of target) packets) in
      let bytes_so : asked.bytes ≡ asking.bytes = sym (ap bytes_of packets) in
      let request_so : request ≡ message_request_at was place
      = same_asked request (message_request_at was place) (sym asked.spelled ∙ ap ask_in bytes_so ∙ asking.spelled) in
      let number : target.0 ≡ n = ap (λ (node : NodeId). node.0) (sym to_so) ∙ here in
      let node_so : target ≡ record { 0 = n } = λ k. record { 0 = number k } in
      record {
        here = number;
        place = place;
        among = among ∙ ap (λ (node : NodeId). Some node) node_so;
        request_so = request_so;
      }) same
