-- Attempts grow over each kind of traffic: each stays at its place, also among those on its object, and what was served of it is so still.
use Rattle.std.proofs.Common.{◌≡◌, ℕ, zero, suc, ◌-◌, ◌==◌, not, Bool, true, false, cond, List, [], ◌∷◌, ◌++◌, slice_get, Some, refl, sym}
use Rattle.std.proofs.Common.{ap, subst, ◌∙◌}
use Rattle.std.specs.List.{list_any}
use Rattle.std.proofs.lemmas.Option.{same_Some}
use Rattle.object_id.specs.declared.node.NodeId.{NodeId}
use Rattle.overlap_law.specs.Attempts.{AttemptRecord, MessageFate, Flying, Served, Doomed, fates_with, fate_of_say, has_message, object_of}
use Rattle.overlap_law.specs.Attempts.{attempts_on, attempt_with_fate, attempts_with_fate}
use Rattle.overlap_law.specs.Words.{is_served, is_mute}
use Rattle.message_wire.specs.declared.packet.Packet.{Packet}
use Rattle.message_wire.specs.declared.packet.Packet.TheVariants.{Request, Reply}
use Rattle.overlap_law.specs.Packets.{Wire}
use Rattle.overlap_law.specs.Reached.{Hosts}
use Rattle.overlap_law.specs.StepMoments.{attempts_with_loss}
use Rattle.overlap_law.specs.Traffic as kinds
use Rattle.overlap_law.specs.Traffic.{Traffic}
use Rattle.overlap_law.proofs.ReadingLaws.{AttemptsGrow}

-- an attempt with other fates, of which nothing less is served
pub record IsRefated (was now : AttemptRecord) : Type 0 where
  pub fates : List MessageFate
  pub same : record was { fates = fates } ≡ now
  pub muter : is_mute (record was { fates = fates }) ≡ true → is_mute was ≡ true

-- one by one, with more behind them
abbrev pub GoOn : List AttemptRecord → List AttemptRecord → Type 0
GoOn [] more = Unit {0}
GoOn (was ∷ attempts) [] = ⊥
GoOn (was ∷ attempts) (now ∷ more) = IsRefated was now × GoOn attempts more

as_it_was : (attempt : AttemptRecord) → IsRefated attempt attempt
as_it_was attempt = record { fates = attempt.fates; same = refl; muter = λ mute. mute }

pub goes_on-same : (attempts : List AttemptRecord) → GoOn attempts attempts
goes_on-same [] = tt
goes_on-same (attempt ∷ attempts) = (as_it_was attempt, goes_on-same attempts)

pub goes_on-more : (attempts more : List AttemptRecord) → GoOn attempts (attempts ++ more)
goes_on-more [] more = tt
goes_on-more (attempt ∷ attempts) more = (as_it_was attempt, goes_on-more attempts more)

-- ---- a fate is told

any_served-told : (place : ℕ) (told : MessageFate) (fates : List MessageFate) → list_any is_served fates ≡ true
    → list_any is_served (fates_with place told fates) ≡ true
any_served-told place told [] some = some
any_served-told zero told (Flying ∷ fates) some = by_fate told
  where
    by_fate : (told : MessageFate) → list_any is_served (fates_with zero told (Flying ∷ fates)) ≡ true
    by_fate Flying = some
    by_fate Served = refl
    by_fate Doomed = some
any_served-told zero told (Served ∷ fates) some = some
any_served-told zero told (Doomed ∷ fates) some = some
any_served-told (suc place) told (Flying ∷ fates) some = any_served-told place told fates some
any_served-told (suc place) told (Served ∷ fates) some = some
any_served-told (suc place) told (Doomed ∷ fates) some = any_served-told place told fates some

mute-told : (place : ℕ) (told : MessageFate) (fates : List MessageFate) → not (list_any is_served (fates_with place told fates)) ≡ true
    → not (list_any is_served fates) ≡ true
mute-told place told fates mute = by_test (list_any is_served fates) refl
  where
    by_test : (b : Bool) → list_any is_served fates ≡ b → not b ≡ true
    by_test true some =
        let still : list_any is_served (fates_with place told fates) ≡ true = any_served-told place told fates some in
        let none : not true ≡ true = ap not (sym still) ∙ mute in
        absurd (cc (none))
    by_test false none = refl

told_refated : (told : MessageFate) (sender : NodeId) (number : ℕ) (attempt : AttemptRecord)
    → IsRefated attempt (attempt_with_fate told sender number attempt)
told_refated told sender number attempt = by_test (has_message sender number attempt)
  where
    by_test : (b : Bool)
        → IsRefated attempt (cond b (record attempt { fates = fates_with (number - attempt.first) told attempt.fates }) attempt)
    by_test true = record {
      fates = fates_with (number - attempt.first) told attempt.fates;
      same = refl;
      muter = λ mute. mute-told (number - attempt.first) told attempt.fates mute;
    }
    by_test false = as_it_was attempt

pub goes_on-told : (told : MessageFate) (sender : NodeId) (number : ℕ) (attempts : List AttemptRecord)
    → GoOn attempts (attempts_with_fate told sender number attempts)
unfolding attempts_with_fate
goes_on-told told sender number [] = tt
goes_on-told told sender number (attempt ∷ attempts) =
    (told_refated told sender number attempt, goes_on-told told sender number attempts)

-- ---- what it says at a place

pub goes_on-grows : (attempts more : List AttemptRecord) → GoOn attempts more → AttemptsGrow attempts more
goes_on-grows attempts more on = record { stays = λ j was there. at attempts more on j was there }
  where
    at : (attempts more : List AttemptRecord) → GoOn attempts more → (j : ℕ) (was : AttemptRecord) → slice_get attempts j ≡ Some was
        → (fates : List MessageFate) × (slice_get more j ≡ Some (record was { fates = fates }))
        × (is_mute (record was { fates = fates }) ≡ true → is_mute was ≡ true)
    at [] more on j was there = absurd (cc (there))
    at (first ∷ attempts) [] on j was there = absurd on
    at (first ∷ attempts) (now ∷ more) on zero was there =
        subst (λ (a : AttemptRecord). (fates : List MessageFate) × (Some now ≡ Some (record a { fates = fates }))
        × (is_mute (record a { fates = fates }) ≡ true → is_mute a ≡ true)) (same_Some first was there)
        (on.0.fates, ap (λ (a : AttemptRecord). Some a) (sym on.0.same), on.0.muter)
    at (first ∷ attempts) (now ∷ more) on (suc j) was there = at attempts more on.1 j was there

-- ---- those on an object

pub goes_on-object : (oid : ℕ) (attempts more : List AttemptRecord) → GoOn attempts more
    → GoOn (attempts_on oid attempts) (attempts_on oid more)
goes_on-object oid [] more on = tt
goes_on-object oid (was ∷ attempts) [] on = absurd on
goes_on-object oid (was ∷ attempts) (now ∷ more) on =
    subst (λ (a : AttemptRecord). GoOn (attempts_on oid (was ∷ attempts)) (attempts_on oid (a ∷ more))) on.0.same
    (by_test (object_of was == oid) (goes_on-object oid attempts more on.1))
  where
    then : AttemptRecord
    then = record was { fates = on.0.fates }

    by_test : (b : Bool) → GoOn (attempts_on oid attempts) (attempts_on oid more)
        → GoOn (cond b (was ∷ attempts_on oid attempts) (attempts_on oid attempts))
        (cond b (then ∷ attempts_on oid more) (attempts_on oid more))
    by_test true rest = (record { fates = on.0.fates; same = refl; muter = on.0.muter }, rest)
    by_test false rest = rest

pub grows-object : (oid : ℕ) (attempts more : List AttemptRecord) → GoOn attempts more
    → AttemptsGrow (attempts_on oid attempts) (attempts_on oid more)
grows-object oid attempts more on =
    goes_on-grows (attempts_on oid attempts) (attempts_on oid more) (goes_on-object oid attempts more on)

-- ---- every kind of traffic

module _ (hosts hosts_after : Hosts) (wire : Wire) (attempts : List AttemptRecord) where
  pub traffic_goes_on : {later : Wire} {after : List AttemptRecord} → Traffic hosts hosts_after wire attempts later after
      → GoOn attempts after
  traffic_goes_on kinds.NothingMoves = goes_on-same attempts
  traffic_goes_on (kinds.MessageIsLost name packet there) = lost packet
    where
      lost : (packet : Packet) → GoOn attempts (attempts_with_loss name packet attempts)
      lost (Request to bytes) = goes_on-told Doomed name.sender name.number attempts
      lost (Reply sender bytes) = goes_on-same attempts
  traffic_goes_on (kinds.ReplyIsReceived name sender bytes there) = goes_on-same attempts
  traffic_goes_on (kinds.RequestIsAnswered name to bytes up rsp there answer) =
      goes_on-told (fate_of_say rsp.say) name.sender name.number attempts
  traffic_goes_on (kinds.RequestsAreSent n sends by nothing) = goes_on-same attempts
  traffic_goes_on (kinds.AttemptBegins n sends attempt begun) = goes_on-more attempts (attempt ∷ [])
  traffic_goes_on (kinds.RepliesGo n) = goes_on-same attempts
