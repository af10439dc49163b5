-- What is asked of a row goes to a target of its epoch, under the index of the target's part: so it is of what a work asks, and stays so
-- as the log grows.
use Rattle.std.proofs.Common.{◌≡◌, ℕ, suc, ◌+◌, ◌≤◌, List, [], ◌∷◌, ◌++◌, ◌%◌, Bool, true, false, length, drop, map, All, Some, slice_get}
use Rattle.std.proofs.Common.{arith, refl, sym, ap, ◌∙◌}
use Rattle.std.specs.List.{enumerate_from}
use Rattle.std.specs.Option.{option_map}
use Rattle.std.proofs.lemmas.List.Elements.{All-nil, All-cons, All-head, All-tail, All-take, All-drop}
use Rattle.object_id.specs.declared.entry.Entry.{Entry}
use Rattle.object_id.specs.declared.entry.VdiSpec.{VdiSpec}
use Rattle.object_id.specs.declared.node.Epoch.{Epoch}
use Rattle.object_id.specs.declared.node.NodeId.{NodeId}
use Rattle.object_id.specs.declared.policy.Policy.{Policy}
use Rattle.object_id.specs.Oid.{kind_of}
use Rattle.epoch_log.specs.Appending.{IsLog}
use Rattle.epoch_log.specs.Epochs.{epoch_of}
use Rattle.epoch_log.proofs.EpochLemmas.{epoch_of-append}
use Rattle.gf256.specs.Part.{index_at, is_in_strips}
use Rattle.object_store.specs.declared.key.Key.{Key}
use Rattle.vdi_directory.specs.declared.effect.Effect.{Effect}
use Rattle.vdi_directory.specs.Decisions.{log_effects}
use Rattle.peer_proto.specs.declared.ask.PeerAsk.{PeerAsk}
use Rattle.peer_proto.specs.declared.ask.PeerAsk.TheVariants as asks
use Rattle.peer_proto.specs.declared.ask.PeerReq.{PeerReq}
use Rattle.peer_proto.specs.declared.work.ObjWork.{ObjWork}
use Rattle.peer_proto.specs.declared.work.ObjWork.TheVariants as works
use Rattle.peer_proto.specs.Work.{oid_of, policy_of}
use Rattle.gateway.specs.Work.{ask_for, targets_asked, read_from}
use Rattle.gateway.specs.Attempt.{message_for, send_of}
use Rattle.overlap_law.specs.AskedTargets.{IsTargetOf, AsksTarget}
use Rattle.overlap_law.specs.Each.{policy_in}
use Rattle.overlap_law.specs.Holders.{targets_by}
use Rattle.overlap_law.proofs.DistinctTargets.{index-of_place}
use Rattle.overlap_law.proofs.KnownAsks.{IsKnownAsk}
use Rattle.overlap_law.proofs.KnownDisks.{IsKnownWork, IsOnKnownDisk}
use Rattle.overlap_law.proofs.PlacedRows.{grown_place}
use Rattle.overlap_law.proofs.ReadWorks.{IsReadOn}
use Rattle.overlap_law.proofs.WholeNodes.{IsWholeWork}

-- what is sent does
abbrev pub SendGoesTo : List Entry → NodeId × PeerReq → Type 0
SendGoesTo log send = AsksTarget log send.0 send.1.epoch.0 send.1.ask

-- ---- as the log grows

key_stays : (log more : List Entry) (to : NodeId) (epoch : ℕ) (key : Key) → IsTargetOf log to epoch key
    → IsTargetOf (log ++ more) to epoch key
key_stays log more to epoch key is =
    let grows = epoch_of-append log more in
    let begun = is.begun in
    let place = grown_place log more to.0 epoch key.oid key.index is.begun (record { policy = is.policy; made = is.made; at = is.at }) in
    record { begun = omega (arith, begun, grows); policy = place.policy; made = place.made; at = place.at }

pub targets_stay_asked : (log more : List Entry) (to : NodeId) (epoch : ℕ) (ask : PeerAsk) → AsksTarget log to epoch ask
    → AsksTarget (log ++ more) to epoch ask
targets_stay_asked log more to epoch (asks.Create key size offset bytes) is = key_stays log more to epoch key is
targets_stay_asked log more to epoch (asks.Write key offset bytes) is = key_stays log more to epoch key is
targets_stay_asked log more to epoch (asks.Read key offset size) is = key_stays log more to epoch key is
targets_stay_asked log more to epoch asks.List is = tt
targets_stay_asked log more to epoch (asks.RecoverRead oid level) is = tt

-- ---- what a recovery asks

pub asks_no_row : (log : List Entry) (known : List Effect) (to : NodeId) (epoch : ℕ) (ask : PeerAsk) (wanted : ℕ)
    → IsKnownAsk known ask wanted
    → AsksTarget log to epoch ask
asks_no_row log known to epoch (asks.Create key size offset bytes) wanted is = absurd is
asks_no_row log known to epoch (asks.Write key offset bytes) wanted is = absurd is
asks_no_row log known to epoch (asks.Read key offset size) wanted is = absurd is
asks_no_row log known to epoch asks.List wanted is = tt
asks_no_row log known to epoch (asks.RecoverRead oid level) wanted is = tt

-- ---- what a work asks

-- the policy that a work goes by is that of its object
pub policy_of_work : (known : List Effect) (work : ObjWork) → IsWholeWork known work → IsKnownWork known work
    → policy_in known (oid_of work) ≡ Some (policy_of work)
policy_of_work known work whole knows = by_work work whole knows
  where
    made : (work : ObjWork) → IsOnKnownDisk known (oid_of work) (policy_of work) → policy_in known (oid_of work) ≡ Some (policy_of work)
    made work disk =
        ap (option_map (λ (spec : VdiSpec). spec.policy)) disk.made ∙ ap (λ (policy : Policy). Some policy) (sym disk.policy_so)

    read : (work : ObjWork) → IsReadOn known work → policy_in known (oid_of work) ≡ Some (policy_of work)
    read work on = ap (option_map (λ (spec : VdiSpec). spec.policy)) on.made ∙ ap (λ (policy : Policy). Some policy) (sym on.policy_so)

    by_work : (work : ObjWork) → IsWholeWork known work → IsKnownWork known work → policy_in known (oid_of work) ≡ Some (policy_of work)
    by_work (works.Create oid policy size offset bytes) whole knows = made (works.Create oid policy size offset bytes) (knows.making refl)
    by_work (works.Write oid policy offset bytes) whole knows = made (works.Write oid policy offset bytes) (knows.making refl)
    by_work (works.Read oid policy offset size) whole knows = read (works.Read oid policy offset size) whole.2
    by_work (works.ReadAll oid policy size) whole knows = read (works.ReadAll oid policy size) whole.2

-- the places at which targets stand
abbrev Stands : List NodeId → ℕ × NodeId → Type 0
Stands targets place = slice_get targets place.0 ≡ Some place.1

all_stand : (targets rest : List NodeId) (from : ℕ) → ((i : ℕ) → slice_get targets (from + i) ≡ slice_get rest i)
    → All (Stands targets) (enumerate_from from rest)
all_stand targets [] from same = All-nil (Stands targets)
all_stand targets (target ∷ rest) from same =
    let zero_so : from ≡ from + 0 = omega arith in
    All-cons (Stands targets) (from, target) (enumerate_from (from + 1) rest) (ap (slice_get targets) zero_so ∙ same 0)
    (all_stand targets rest (from + 1)
    (λ i.
    let next : from + 1 + i ≡ from + suc i = omega arith in
    ap (slice_get targets) next ∙ same (suc i)))

stand : (work : ObjWork) (attempt : ℕ) (targets : List NodeId) → All (Stands targets) (targets_asked work attempt targets)
stand work attempt targets = by_work work
  where
    each : All (Stands targets) (enumerate_from 0 targets)
    each =
        all_stand targets targets 0
        (λ i.
        let none : 0 + i ≡ i = omega arith in
        ap (slice_get targets) none)

    by_work : (work : ObjWork) → All (Stands targets) (targets_asked work attempt targets)
    by_work (works.Create oid policy size offset bytes) = each
    by_work (works.Write oid policy offset bytes) = each
    by_work (works.Read oid policy offset size) = by_strips (is_in_strips policy (kind_of oid))
      where
        by_strips : (b : Bool) → All (Stands targets) (read_from b attempt (enumerate_from 0 targets))
        by_strips true = each
        by_strips false =
            All-take (Stands targets) 1 (drop (attempt % length (enumerate_from 0 targets)) (enumerate_from 0 targets))
            (All-drop (Stands targets) (attempt % length (enumerate_from 0 targets)) (enumerate_from 0 targets) each)
    by_work (works.ReadAll oid policy size) = each

module _ (log : List Entry) (is : IsLog log) (me : NodeId) (epoch : Epoch) (work : ObjWork) (begun : epoch.0 ≤ epoch_of log)
    (made : policy_in (log_effects log) (oid_of work) ≡ Some (policy_of work)) where
  abbrev kept_under : ℕ → Key
  kept_under place = record { oid = oid_of work; index = index_at (policy_of work) (kind_of (oid_of work)) place }

  abbrev Stand : ℕ × NodeId → Type 0
  Stand = Stands (targets_by log epoch.0 (oid_of work) (policy_of work))

  target_at : (place : ℕ × NodeId) → Stand place → IsTargetOf log place.1 epoch.0 (kept_under place.0)
  target_at place at = record {
    begun = begun;
    policy = policy_of work;
    made = made;
    at = index-of_place log epoch.0 (oid_of work) (policy_of work) place.1 place.0 is begun at;
  }

  abbrev AsksFor : ObjWork → ℕ → NodeId → Type 0
  AsksFor asked index to = AsksTarget log to epoch.0 (ask_for asked index)

  asked_of : (asked : ObjWork) (index : ℕ) (to : NodeId) → IsTargetOf log to epoch.0 (record { oid = oid_of asked; index = index })
      → AsksFor asked index to
  asked_of (works.Create oid policy size offset bytes) index to at = at
  asked_of (works.Write oid policy offset bytes) index to at = at
  asked_of (works.Read oid policy offset size) index to at = at
  asked_of (works.ReadAll oid policy size) index to at = at

  places_go : (first : ℕ) (places : List (ℕ × NodeId)) → All Stand places
      → All (SendGoesTo log) (map (send_of me epoch work) (map (message_for work) (enumerate_from first places)))
  places_go first [] all = All-nil (SendGoesTo log)
  places_go first (place ∷ places) all =
      All-cons (SendGoesTo log) (send_of me epoch work (message_for work (first, place)))
      (map (send_of me epoch work) (map (message_for work) (enumerate_from (first + 1) places)))
      (asked_of work (index_at (policy_of work) (kind_of (oid_of work)) place.0) place.1
      (target_at place (All-head Stand place places all)))
      (places_go (first + 1) places (All-tail Stand place places all))

  -- so it is of all that an attempt asks
  pub attempt_goes : (first ended : ℕ)
      → All (SendGoesTo log) (map (send_of me epoch work) (map (message_for work)
      (enumerate_from first (targets_asked work ended (targets_by log epoch.0 (oid_of work) (policy_of work))))))
  attempt_goes first ended =
      places_go first (targets_asked work ended (targets_by log epoch.0 (oid_of work) (policy_of work)))
      (stand work ended (targets_by log epoch.0 (oid_of work) (policy_of work)))
