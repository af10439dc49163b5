-- Over each kind of traffic, a message that is served had been served before, or flew.
use Rattle.std.proofs.Common.{◌≡◌, ◌⊎◌, inl, inr, ℕ, zero, suc, ◌-◌, Bool, true, false, cond, List, [], ◌∷◌, ◌++◌, slice_get, Some}
use Rattle.std.proofs.Common.{refl, sym, ap, subst, ◌∙◌}
use Rattle.std.proofs.lemmas.Option.{same_Some}
use Rattle.object_id.specs.declared.node.NodeId.{NodeId}
use Rattle.message_wire.specs.declared.packet.Packet.{Packet}
use Rattle.message_wire.specs.declared.packet.Packet.TheVariants.{Request, Reply}
use Rattle.overlap_law.specs.Attempts.{AttemptRecord, MessageFate, Flying, Served, Doomed, fates_with, fate_of_say, has_message}
use Rattle.overlap_law.specs.Attempts.{attempts_with_fate}
use Rattle.overlap_law.specs.Packets.{Wire}
use Rattle.overlap_law.specs.Reached.{Hosts}
use Rattle.overlap_law.specs.StepMoments.{attempts_with_loss}
use Rattle.overlap_law.specs.Traffic as kinds
use Rattle.overlap_law.specs.Traffic.{Traffic}
use Rattle.overlap_law.proofs.AttemptLists.{fates_told, got_marked, got_still}

-- a message of some fates was served, or flew
abbrev pub WasServedOrFlew : List MessageFate → ℕ → Type 0
WasServedOrFlew fates place = (slice_get fates place ≡ Some Served) ⊎ (slice_get fates place ≡ Some Flying)

told_of : (p : ℕ) (told : MessageFate) (fates : List MessageFate) (place : ℕ) → slice_get (fates_with p told fates) place ≡ Some Served
    → WasServedOrFlew fates place
told_of p told [] place is = inl is
told_of zero told (Flying ∷ fates) zero is = inr refl
told_of zero told (Served ∷ fates) zero is = inl refl
told_of zero told (Doomed ∷ fates) zero is = absurd (cc (is))
told_of zero told (fate ∷ fates) (suc place) is = inl is
told_of (suc p) told (fate ∷ fates) zero is = inl is
told_of (suc p) told (fate ∷ fates) (suc place) is = told_of p told fates place is

marked_of : (told : MessageFate) (sender : NodeId) (number : ℕ) (attempt : AttemptRecord) (place : ℕ)
    → slice_get (fates_told told sender number attempt) place ≡ Some Served → WasServedOrFlew attempt.fates place
marked_of told sender number attempt place = by_test (has_message sender number attempt)
  where
    by_test : (b : Bool)
        → slice_get (cond b (fates_with (number - attempt.first) told attempt.fates) attempt.fates) place ≡ Some Served
        → WasServedOrFlew attempt.fates place
    by_test true is = told_of (number - attempt.first) told attempt.fates place is
    by_test false is = inl is

module _ (hosts hosts_after : Hosts) (wire : Wire) (attempts : List AttemptRecord) (j : ℕ) (was : AttemptRecord)
    (at : slice_get attempts j ≡ Some was) (fates : List MessageFate) (place : ℕ) (served : slice_get fates place ≡ Some Served) where
  abbrev now : AttemptRecord
  now = record was { fates = fates }

  as_it_was : slice_get attempts j ≡ Some (record was { fates = fates }) → WasServedOrFlew was.fates place
  as_it_was there =
      let same : was ≡ record was { fates = fates } = same_Some was (record was { fates = fates }) (sym at ∙ there) in
      inl (ap (λ (a : AttemptRecord). slice_get a.fates place) same ∙ served)

  marked : (told : MessageFate) (sender : NodeId) (number : ℕ)
      → slice_get (attempts_with_fate told sender number attempts) j ≡ Some (record was { fates = fates }) → WasServedOrFlew was.fates place
  marked told sender number there =
      let (old, at_old, is) = got_marked told sender number attempts j (record was { fates = fates }) there in
      let one : old ≡ was = same_Some old was (sym at_old ∙ at) in
      subst (λ (a : AttemptRecord). WasServedOrFlew a.fates place) one
      (marked_of told sender number old place (ap (λ (a : AttemptRecord). slice_get a.fates place) is ∙ served))

  pub served_or_flew : {later : Wire} {after : List AttemptRecord} → Traffic hosts hosts_after wire attempts later after
      → slice_get after j ≡ Some (record was { fates = fates }) → WasServedOrFlew was.fates place
  served_or_flew kinds.NothingMoves there = as_it_was there
  served_or_flew (kinds.MessageIsLost name packet in_wire) there = lost packet there
    where
      lost : (packet : Packet) → slice_get (attempts_with_loss name packet attempts) j ≡ Some (record was { fates = fates })
          → WasServedOrFlew was.fates place
      lost (Request to bytes) there = marked Doomed name.sender name.number there
      lost (Reply sender bytes) there = as_it_was there
  served_or_flew (kinds.ReplyIsReceived name sender bytes in_wire) there = as_it_was there
  served_or_flew (kinds.RequestIsAnswered name to bytes up rsp in_wire answer) there =
      marked (fate_of_say rsp.say) name.sender name.number there
  served_or_flew (kinds.RequestsAreSent n sends by nothing) there = as_it_was there
  served_or_flew (kinds.AttemptBegins n sends attempt begun) there = as_it_was (sym same ∙ there)
    where
      same : slice_get (attempts ++ attempt ∷ []) j ≡ slice_get attempts j
      same = got_still attempts attempt j was at ∙ sym at
  served_or_flew (kinds.RepliesGo n) there = as_it_was there
