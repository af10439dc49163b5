-- What was born stays so, over each change of a moment and over each event.
use Rattle.std.proofs.Common.{◌≡◌, ℕ, zero, suc, ◌==◌, Bool, true, false, cond, List, [], ◌∷◌, ◌++◌, map, filter, Some, slice_get, refl}
use Rattle.std.proofs.Common.{sym, ap, subst, ◌∙◌}
use Rattle.std.proofs.lemmas.Bool.{or_left, or_right, eq-eqb}
use Rattle.std.proofs.lemmas.List.Folds.{list_any-append}
use Rattle.std.proofs.lemmas.Option.{same_Some}
use Rattle.object_id.specs.declared.node.NodeId.{NodeId}
use Rattle.object_id.specs.Oid.{kind_of}
use Rattle.gf256.specs.Part.{index_at}
use Rattle.object_store.specs.declared.key.Key.{Key}
use Rattle.peer_proto.specs.declared.ask.PeerAsk.{PeerAsk}
use Rattle.peer_proto.specs.declared.ask.PeerAsk.TheVariants as asks
use Rattle.peer_proto.specs.declared.ask.PeerReq.{PeerReq}
use Rattle.peer_proto.specs.declared.work.ObjWork.{ObjWork}
use Rattle.peer_proto.specs.declared.work.ObjWork.TheVariants as works
use Rattle.peer_proto.specs.Work.{oid_of, policy_of}
use Rattle.gateway.specs.Work.{ask_for}
use Rattle.cluster_script.specs.declared.statement.Statement.{Statement}
use Rattle.message_wire.specs.declared.name.MessageName.{MessageName}
use Rattle.message_wire.specs.declared.packet.Packet.{Packet}
use Rattle.message_wire.specs.declared.packet.Packet.TheVariants.{Request, Reply}
use Rattle.sheep_world.specs.Began.{Began}
use Rattle.overlap_law.specs.Attempts.{MessageFate, Doomed, AttemptRecord, object_of, attempt_with_fate, attempts_with_fate, fate_of_say}
use Rattle.overlap_law.specs.Words.{Hosts}
use Rattle.overlap_law.specs.Holders.{is_create_work, creates, is_object_among, born_objects}
use Rattle.overlap_law.specs.BornObjects.{IsBorn}
use Rattle.overlap_law.specs.Packets.{Wire, IsAsking}
use Rattle.overlap_law.specs.Past.{MomentWithPast}
use Rattle.overlap_law.specs.StepMoments.{attempts_with_loss}
use Rattle.overlap_law.specs.MomentChanges.{MomentTrail, Still, Then, RunsAreInRange}
use Rattle.overlap_law.specs.Traffic.{Traffic, NothingMoves, MessageIsLost, ReplyIsReceived, RequestIsAnswered, RequestsAreSent}
use Rattle.overlap_law.specs.Traffic.{AttemptBegins, RepliesGo, asks_making, MakersAreOfAttempts}
use Rattle.overlap_law.proofs.AttemptLists.{marked_shape}
use Rattle.overlap_law.proofs.ObjectsOfRows.{AskWithin}
use Rattle.overlap_law.proofs.TrafficOfChanges.{traffic}

-- ---- what becomes of messages leaves what was born as it is

abbrev born_in : Bool → ℕ → List ℕ → List ℕ
born_in b oid later = cond b (oid ∷ later) later

born_first : (attempt : AttemptRecord) (attempts : List AttemptRecord)
    → born_objects (attempt ∷ attempts) ≡ born_in (creates attempt) (object_of attempt) (born_objects attempts)
born_first attempt attempts = by_test (creates attempt)
  where
    by_test : (b : Bool) → map object_of (cond b (attempt ∷ filter creates attempts) (filter creates attempts))
        ≡ born_in b (object_of attempt) (born_objects attempts)
    by_test true = refl
    by_test false = refl

born-told : (told : MessageFate) (sender : NodeId) (number : ℕ) (attempts : List AttemptRecord)
    → born_objects (map (attempt_with_fate told sender number) attempts) ≡ born_objects attempts
born-told told sender number [] = refl
born-told told sender number (attempt ∷ attempts) =
    born_first (attempt_with_fate told sender number attempt) (map (attempt_with_fate told sender number) attempts)
    ∙ ap (λ (a : AttemptRecord). born_in (creates a) (object_of a) (born_objects (map (attempt_with_fate told sender number) attempts)))
    (marked_shape told sender number attempt)
    ∙ ap (born_in (creates attempt) (object_of attempt)) (born-told told sender number attempts)
    ∙ sym (born_first attempt attempts)

born-marked : (told : MessageFate) (sender : NodeId) (number : ℕ) (attempts : List AttemptRecord)
    → born_objects (attempts_with_fate told sender number attempts) ≡ born_objects attempts
unfolding attempts_with_fate
born-marked told sender number attempts = born-told told sender number attempts

born-lost : (name : MessageName) (packet : Packet) (attempts : List AttemptRecord)
    → born_objects (attempts_with_loss name packet attempts) ≡ born_objects attempts
born-lost name (Request to bytes) attempts = born-marked Doomed name.sender name.number attempts
born-lost name (Reply from bytes) attempts = refl

born-more : (attempts : List AttemptRecord) (new : AttemptRecord)
    → born_objects (attempts ++ new ∷ []) ≡ born_objects attempts ++ born_in (creates new) (object_of new) []
born-more [] new = born_first new []
born-more (attempt ∷ attempts) new =
    born_first attempt (attempts ++ new ∷ [])
    ∙ ap (born_in (creates attempt) (object_of attempt)) (born-more attempts new)
    ∙ behind (creates attempt)
    ∙ ap (λ (born : List ℕ). born ++ born_in (creates new) (object_of new) []) (sym (born_first attempt attempts))
  where
    behind : (b : Bool) → born_in b (object_of attempt) (born_objects attempts ++ born_in (creates new) (object_of new) [])
        ≡ born_in b (object_of attempt) (born_objects attempts) ++ born_in (creates new) (object_of new) []
    behind true = refl
    behind false = refl

-- ---- each change

same_born : (attempts after : List AttemptRecord) → born_objects after ≡ born_objects attempts → (oid : ℕ) → IsBorn attempts oid
    → IsBorn after oid
same_born attempts after same oid born = ap (is_object_among oid) same ∙ born

traffic_born : (hosts hosts_after : Hosts) (wire : Wire) (attempts : List AttemptRecord) {later : Wire} {after : List AttemptRecord}
    → Traffic hosts hosts_after wire attempts later after → (oid : ℕ) → IsBorn attempts oid → IsBorn after oid
traffic_born hosts hosts_after wire attempts NothingMoves oid born = born
traffic_born hosts hosts_after wire attempts (MessageIsLost name packet there) oid born =
    same_born attempts (attempts_with_loss name packet attempts) (born-lost name packet attempts) oid born
traffic_born hosts hosts_after wire attempts (ReplyIsReceived name from bytes there) oid born = born
traffic_born hosts hosts_after wire attempts (RequestIsAnswered name to bytes up rsp there answer) oid born =
    same_born attempts (attempts_with_fate (fate_of_say rsp.say) name.sender name.number attempts)
    (born-marked (fate_of_say rsp.say) name.sender name.number attempts) oid born
traffic_born hosts hosts_after wire attempts (RequestsAreSent n sends by nothing) oid born = born
traffic_born hosts hosts_after wire attempts (AttemptBegins n sends new begun) oid born =
    ap (is_object_among oid) (born-more attempts new)
    ∙ list_any-append (λ other. other == oid) (born_objects attempts) (born_in (creates new) (object_of new) [])
    ∙ or_left (is_object_among oid (born_objects attempts)) (is_object_among oid (born_in (creates new) (object_of new) [])) born
traffic_born hosts hosts_after wire attempts (RepliesGo n) oid born = born

module _ (script : List Statement) (range : RunsAreInRange script) where
  pub born_stays : (start : MomentWithPast) → Began script start.world → {moment : MomentWithPast} → MomentTrail script start moment
      → (oid : ℕ)
      → IsBorn start.past.attempts oid → IsBorn moment.past.attempts oid
  born_stays start began Still oid born = born
  born_stays start began (Then {moment} {next} trail change) oid born =
      traffic_born moment.world.hosts next.world.hosts moment.world.wire moment.past.attempts (traffic script range start began change) oid
      (born_stays start began trail oid born)

-- ---- what is asked to be created was born

-- an attempt that creates the object
pub born_among : (attempts : List AttemptRecord) (j : ℕ) (attempt : AttemptRecord) → slice_get attempts j ≡ Some attempt
    → creates attempt ≡ true
    → IsBorn attempts (object_of attempt)
born_among [] j attempt there is = absurd (cc (there))
born_among (first ∷ later) zero attempt there is =
    let same : first ≡ attempt = same_Some first attempt there in
    ap (is_object_among (object_of attempt)) (born_first first later)
    ∙ ap (λ (a : AttemptRecord). is_object_among (object_of attempt) (born_in (creates a) (object_of a) (born_objects later))) same
    ∙ ap (λ (b : Bool). is_object_among (object_of attempt) (born_in b (object_of attempt) (born_objects later))) is
    ∙ or_left (object_of attempt == object_of attempt) (is_object_among (object_of attempt) (born_objects later))
    (eq-eqb (object_of attempt) (object_of attempt) refl)
born_among (first ∷ later) (suc j) attempt there is =
    ap (is_object_among (object_of attempt)) (born_first first later) ∙ behind (creates first) (born_among later j attempt there is)
  where
    behind : (b : Bool) → IsBorn later (object_of attempt)
        → is_object_among (object_of attempt) (born_in b (object_of first) (born_objects later)) ≡ true
    behind true born =
        or_right (object_of first == object_of attempt) (is_object_among (object_of attempt) (born_objects later)) born
    behind false born = born

-- a work that asks for a create creates that object
created_by : (work : ObjWork) (index : ℕ) (key : Key) (size offset : ℕ) (bytes : List ℕ)
    → ask_for work index ≡ asks.Create key size offset bytes
    → (is_create_work work ≡ true) × (oid_of work ≡ key.oid)
created_by (works.Create oid policy size offset bytes) index key other at piece same = (refl, cc (same))
created_by (works.Write oid policy offset bytes) index key size at piece same = absurd (cc (same))
created_by (works.Read oid policy offset size) index key other at piece same = absurd (cc (same))
created_by (works.ReadAll oid policy size) index key other at piece same = absurd (cc (same))

-- each request to create in the wire is of an attempt, so its object was born
pub born_by_a_message : (wire : Wire) (attempts : List AttemptRecord) → MakersAreOfAttempts wire attempts
    → (name : MessageName) (to : NodeId)
    (request : PeerReq) → IsAsking wire name to request → (ask : PeerAsk) → request.ask ≡ ask → AskWithin (IsBorn attempts) ask
born_by_a_message wire attempts makers name to request asking (asks.Create key size offset bytes) same =
    let (j, attempt, there, message) = makers.each name to request asking (ap asks_making same) in
    let (creating, object) = created_by attempt.work
    (index_at (policy_of attempt.work) (kind_of (object_of attempt)) message.place) key size offset bytes
    (ap (λ (r : PeerReq). r.ask) (sym message.request_so) ∙ same) in
    subst (IsBorn attempts) object (born_among attempts j attempt there creating)
born_by_a_message wire attempts makers name to request asking (asks.Write key offset bytes) same = tt
born_by_a_message wire attempts makers name to request asking (asks.Read key offset size) same = tt
born_by_a_message wire attempts makers name to request asking asks.List same = tt
born_by_a_message wire attempts makers name to request asking (asks.RecoverRead oid level) same = tt
