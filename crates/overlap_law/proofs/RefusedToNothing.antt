-- The attempts of a refused request come to nothing: none of their messages was served, and none flies.
use Rattle.std.proofs.Common.{◌≡◌, arith, ℕ, zero, suc, ◌≤◌, ◌||◌, not, Bool, true, false, List, [], ◌∷◌, All, length, Some, is_some}
use Rattle.std.proofs.Common.{option_map, slice_get, refl, sym, ap, subst, ◌∙◌}
use Rattle.std.specs.List.{list_any}
use Rattle.std.proofs.lemmas.Bool.{both_ways, and_from, or_left}
use Rattle.std.proofs.lemmas.Option.{same_Some}
use Rattle.object_id.specs.declared.entry.Entry.{Entry}
use Rattle.object_id.specs.declared.entry.VdiSpec.{VdiSpec}
use Rattle.object_id.specs.declared.node.NodeId.{NodeId}
use Rattle.object_id.specs.Oid.{kind_of, vid_of}
use Rattle.object_id.specs.Policy.{IsPolicy}
use Rattle.epoch_log.specs.Appending.{IsReservable}
use Rattle.vdi_directory.specs.Decisions.{log_effects}
use Rattle.peer_proto.specs.Work.{policy_of}
use Rattle.overlap_law.specs.Attempts.{AttemptRecord, MessageFate, Flying, Served, Doomed, object_of}
use Rattle.overlap_law.specs.Each.{Placing}
use Rattle.overlap_law.specs.Fates.{FatesAreOfTheWire, AttemptsAreShaped}
use Rattle.overlap_law.specs.Holders.{is_object_among}
use Rattle.overlap_law.specs.OpenWorks.{RefusedRequestsAreMute}
use Rattle.overlap_law.specs.Packets.{Wire, IsAsking, message_name_at, message_request_at, is_name_in_wire}
use Rattle.overlap_law.specs.StayingBlocks.{ComesToNothing}
use Rattle.overlap_law.specs.ToCome.{is_each_in_vain, comes_to_nothing}
use Rattle.overlap_law.specs.Words.{Hosts, is_served, is_in_vain, is_one_in_vain, is_doomed}
use Rattle.overlap_law.proofs.CopiesAtSteps.{policy_spec}
use Rattle.overlap_law.proofs.KeptLists.{wanted_some}
use Rattle.overlap_law.proofs.PiecesInRuns.{spec_valid}

-- where each message is doomed
AreDoomed : List NodeId → List MessageFate → Type 0
AreDoomed targets fates = (place : ℕ) (target : NodeId) (fate : MessageFate) → slice_get targets place ≡ Some target
    → slice_get fates place ≡ Some fate → fate ≡ Doomed

all_in_vain : (hosts : Hosts) (epoch : ℕ) (targets : List NodeId) (fates : List MessageFate) → AreDoomed targets fates
    → is_each_in_vain hosts epoch targets fates ≡ true
unfolding AreDoomed
all_in_vain hosts epoch [] fates doomed = refl
all_in_vain hosts epoch (target ∷ targets) [] doomed = refl
all_in_vain hosts epoch (target ∷ targets) (fate ∷ fates) doomed =
    and_from (is_in_vain hosts epoch target fate) (is_each_in_vain hosts epoch targets fates)
    (ap (is_in_vain hosts epoch target) (doomed zero target fate refl refl))
    (all_in_vain hosts epoch targets fates (λ place other f among got. doomed (suc place) other f among got))

one_in_vain : (hosts : Hosts) (epoch : ℕ) (targets : List NodeId) (fates : List MessageFate) → length fates ≡ length targets
    → 1 ≤ length targets → AreDoomed targets fates → is_one_in_vain hosts epoch targets fates ≡ true
unfolding AreDoomed
one_in_vain hosts epoch [] fates long some doomed = absurd (omega (arith, some))
one_in_vain hosts epoch (target ∷ targets) [] long some doomed = absurd (cc (long))
one_in_vain hosts epoch (target ∷ targets) (fate ∷ fates) long some doomed =
    or_left (is_in_vain hosts epoch target fate) (is_one_in_vain hosts epoch targets fates)
    (ap (is_in_vain hosts epoch target) (doomed zero target fate refl refl))

-- a served message makes an attempt heard
served_heard : (fates : List MessageFate) (place : ℕ) → slice_get fates place ≡ Some Served → list_any is_served fates ≡ true
served_heard [] place got = absurd (cc (got))
served_heard (fate ∷ fates) zero got = or_left (is_served fate) (list_any is_served fates) (ap is_served (same_Some fate Served got))
served_heard (fate ∷ fates) (suc place) got = by_test (is_served fate) (served_heard fates place got)
  where
    by_test : (b : Bool) → list_any is_served fates ≡ true → (b || list_any is_served fates) ≡ true
    by_test true rest = refl
    by_test false rest = rest

module _ (T : Placing) (log : List Entry) (reservable : All IsReservable log) (hosts : Hosts) (wire : Wire) (refused : List ℕ)
    (attempts : List AttemptRecord) (fates : FatesAreOfTheWire wire attempts) (shape : AttemptsAreShaped T log attempts)
    (mute : RefusedRequestsAreMute wire refused attempts) where
  module _ (j : ℕ) (attempt : AttemptRecord) (at : slice_get attempts j ≡ Some attempt)
      (is : is_object_among attempt.req refused ≡ true) where
    some_target : 1 ≤ length attempt.targets
    some_target =
        let (spec, known) = policy_spec (log_effects log) (object_of attempt) (policy_of attempt.work) (shape.policy j attempt at) in
        let same : spec.policy ≡ policy_of attempt.work
        = same_Some spec.policy (policy_of attempt.work)
        (sym (ap (option_map (λ (spec : VdiSpec). spec.policy)) known) ∙ shape.policy j attempt at) in
        let valid : IsPolicy (policy_of attempt.work)
        = subst IsPolicy same (spec_valid log reservable (vid_of (object_of attempt)) spec known).policy in
        let wanted = shape.wanted j attempt at in
        let some = wanted_some (policy_of attempt.work) (kind_of (object_of attempt)) valid in
        omega (arith, wanted, some)

    doomed : AreDoomed attempt.targets attempt.fates
    unfolding AreDoomed
    doomed place target Flying among got =
        let asks : IsAsking wire (message_name_at attempt place) target (message_request_at attempt place)
        = fates.each j attempt at place target Flying among got in
        let none = (mute.quiet j attempt at is).none place target among in
        absurd (both_ways (is_name_in_wire wire (message_name_at attempt place)) none (ap is_some asks.there))
    doomed place target Served among got =
        let heard = served_heard attempt.fates place got in
        let not_heard = mute.mute j attempt at is in
        absurd (by_test (list_any is_served attempt.fates) heard not_heard)
      where
        by_test : (b : Bool) → b ≡ true → not b ≡ true → ⊥
        by_test true heard silent = cc (silent)
        by_test false heard silent = cc (heard)
    doomed place target Doomed among got = refl

    nothing : comes_to_nothing hosts attempt ≡ true
    nothing =
        and_from (is_doomed hosts attempt) (is_each_in_vain hosts attempt.epoch attempt.targets attempt.fates)
        (one_in_vain hosts attempt.epoch attempt.targets attempt.fates (fates.whole j attempt at) some_target doomed)
        (all_in_vain hosts attempt.epoch attempt.targets attempt.fates doomed)

  pub refused_to_nothing : (req : ℕ) → is_object_among req refused ≡ true → ComesToNothing hosts attempts req
  refused_to_nothing req is j attempt at same =
      let among : is_object_among attempt.req refused ≡ true = ap (λ (q : ℕ). is_object_among q refused) same ∙ is in
      (mute.mute j attempt at among, nothing j attempt at among)
