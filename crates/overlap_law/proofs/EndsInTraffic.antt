-- What holds of each attempt by the packets in flight holds after traffic too: if it does with fewer packets, and with what is told of a
-- message, and of an attempt that begins. So it is of an attempt that has ended by a bound, or whose gateway left by then.
use Rattle.std.proofs.Common.{◌≡◌, ◌⊎◌, inl, inr, ⊎_elim, ℕ, Bool, true, false, List, [], ◌∷◌, ◌++◌, length, slice_get, Some, refl, subst}
use Rattle.std.proofs.lemmas.Bool.{both_ways}
use Rattle.object_id.specs.declared.entry.Entry.{Entry}
use Rattle.object_id.specs.declared.node.NodeId.{NodeId}
use Rattle.message_wire.specs.declared.packet.Packet.TheVariants.{Request, Reply}
use Rattle.overlap_law.specs.Attempts.{AttemptRecord, MessageFate, Doomed, attempts_with_fate, fate_of_say}
use Rattle.overlap_law.specs.Each.{EachAttempt}
use Rattle.overlap_law.specs.Fates.{AttemptsAreOfIncarnations}
use Rattle.overlap_law.specs.Packets.{Wire, IsQuiet, message_name_at, is_name_in_wire}
use Rattle.overlap_law.specs.Reached.{Hosts}
use Rattle.overlap_law.specs.Traffic.{Traffic, NothingMoves, MessageIsLost, ReplyIsReceived, RequestIsAnswered, RequestsAreSent}
use Rattle.overlap_law.specs.Traffic.{AttemptBegins}
use Rattle.overlap_law.specs.Traffic.{RepliesGo}
use Rattle.overlap_law.specs.Writers.{HasEnded, IsFencedOff}
use Rattle.overlap_law.proofs.AttemptLists.{got_more, got_marked, fates_told}
use Rattle.overlap_law.proofs.TrafficOrder.{traffic_fewer}

-- an attempt has no packet that it hadn't
abbrev pub HasNoMore : Wire → Wire → AttemptRecord → Type 0
HasNoMore wire later attempt = (place : ℕ) (target : NodeId) → slice_get attempt.targets place ≡ Some target
    → is_name_in_wire later (message_name_at attempt place) ≡ true → is_name_in_wire wire (message_name_at attempt place) ≡ true

module _ (P : Wire → AttemptRecord → Type 0)
    (fewer : (wire later : Wire) (attempt : AttemptRecord) → HasNoMore wire later attempt → P wire attempt → P later attempt)
    (told : (wire : Wire) (attempt : AttemptRecord) (fates : List MessageFate) → P wire attempt → P wire (record attempt { fates = fates }))
  where
    abbrev Each : Wire → List AttemptRecord → Type 0
    Each wire attempts = EachAttempt attempts (λ j attempt. P wire attempt)

    marked_each : (wire : Wire) (fate : MessageFate) (sender : NodeId) (number : ℕ) (attempts : List AttemptRecord) → Each wire attempts
        → Each wire (attempts_with_fate fate sender number attempts)
    marked_each wire fate sender number attempts each j now got =
        let (was, there, is) = got_marked fate sender number attempts j now got in
        subst (P wire) is (told wire was (fates_told fate sender number was) (each j was there))

    more_each : (wire : Wire) (attempts : List AttemptRecord) (new : AttemptRecord) → P wire new → Each wire attempts
        → Each wire (attempts ++ new ∷ [])
    more_each wire attempts new is each j attempt got = ⊎_elim
        (λ (old : slice_get attempts j ≡ Some attempt). each j attempt old)
        (λ (own : (j ≡ length attempts) × (new ≡ attempt)). subst (P wire) own.1 is)
        (got_more attempts new j attempt got)

    module _ (hosts hosts_after : Hosts) (wire : Wire) (attempts : List AttemptRecord)
        (of_incarnations : AttemptsAreOfIncarnations hosts wire attempts) where
      pub traffic_keeps : {later : Wire} {after : List AttemptRecord} → Traffic hosts hosts_after wire attempts later after
          → ((attempt : AttemptRecord) → after ≡ attempts ++ attempt ∷ [] → P later attempt) → Each wire attempts → Each later after
      traffic_keeps {later} {after} kind begins each =
          by_kind kind begins
          (λ j attempt got.
          fewer wire later attempt (traffic_fewer hosts hosts_after wire attempts of_incarnations kind j attempt got) (each j attempt got))
        where
          by_kind : {later : Wire} {after : List AttemptRecord} → Traffic hosts hosts_after wire attempts later after
              → ((attempt : AttemptRecord) → after ≡ attempts ++ attempt ∷ [] → P later attempt) → Each later attempts → Each later after
          by_kind NothingMoves begins each = each
          by_kind {later} (MessageIsLost name (Request to bytes) there) begins each =
              marked_each later Doomed name.sender name.number attempts each
          by_kind (MessageIsLost name (Reply from bytes) there) begins each = each
          by_kind (ReplyIsReceived name from bytes there) begins each = each
          by_kind {later} (RequestIsAnswered name to bytes up rsp there answer) begins each =
              marked_each later (fate_of_say rsp.say) name.sender name.number attempts each
          by_kind (RequestsAreSent n sends by nothing) begins each = each
          by_kind {later} (AttemptBegins n sends attempt begun) begins each = more_each later attempts attempt (begins attempt refl) each
          by_kind (RepliesGo n) begins each = each

-- ---- an attempt that ends

abbrev pub EndsBy : List Entry → ℕ → Wire → AttemptRecord → Type 0
EndsBy log bound wire attempt = HasEnded wire attempt bound ⊎ IsFencedOff log attempt bound

still_quiet : (wire later : Wire) (attempt : AttemptRecord) → HasNoMore wire later attempt → IsQuiet wire attempt → IsQuiet later attempt
still_quiet wire later attempt fewer quiet =
    record { none = λ place target among. by_test place target among (is_name_in_wire later (message_name_at attempt place)) refl }
  where
    by_test : (place : ℕ) (target : NodeId) → slice_get attempt.targets place ≡ Some target → (b : Bool)
        → is_name_in_wire later (message_name_at attempt place) ≡ b → is_name_in_wire later (message_name_at attempt place) ≡ false
    by_test place target among false is = is
    by_test place target among true is =
        absurd (both_ways (is_name_in_wire wire (message_name_at attempt place)) (quiet.none place target among)
        (fewer place target among is))

pub ends_fewer : (log : List Entry) (bound : ℕ) (wire later : Wire) (attempt : AttemptRecord) → HasNoMore wire later attempt
    → EndsBy log bound wire attempt → EndsBy log bound later attempt
ends_fewer log bound wire later attempt fewer (inl ended) =
    inl (record { quiet = still_quiet wire later attempt fewer ended.quiet; before = ended.before })
ends_fewer log bound wire later attempt fewer (inr fenced) = inr fenced

pub ends_told : (log : List Entry) (bound : ℕ) (wire : Wire) (attempt : AttemptRecord) (fates : List MessageFate)
    → EndsBy log bound wire attempt → EndsBy log bound wire (record attempt { fates = fates })
ends_told log bound wire attempt fates (inl ended) = inl (record { quiet = record { none = ended.quiet.none }; before = ended.before })
ends_told log bound wire attempt fates (inr fenced) =
    inr (record { left = fenced.left; leave = fenced.leave; before = fenced.before; granted_later = fenced.granted_later })
