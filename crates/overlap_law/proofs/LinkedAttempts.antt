-- Attempts before and after a change, by their places among those on an object: each was there, at the same place of the whole too, or has
-- just begun. And a node that has served an attempt had served it before, or is in the attempt's epoch.
use Rattle.std.proofs.Common.{◌≡◌, ◌⊎◌, inl, inr, ⊎_elim, arith, ℕ, zero, suc, ◌≤◌, ◌<◌, ◌==◌, Bool, true, false, cond, List, [], ◌∷◌}
use Rattle.std.proofs.Common.{length, slice_get, Some, refl, sym, ap, subst, ◌∙◌}
use Rattle.std.specs.FinMap as tree
use Rattle.std.proofs.lemmas.Bool.{cases_lt}
use Rattle.std.proofs.lemmas.Option.{same_Some, slice_get_within}
use Rattle.object_id.specs.declared.node.NodeId.{NodeId}
use Rattle.peer_proto.specs.declared.ask.PeerReq.{PeerReq}
use Rattle.peer_proto.specs.declared.say.PeerRsp.{PeerRsp}
use Rattle.sheep_world.specs.World.{Host}
use Rattle.overlap_law.specs.Attempts.{AttemptRecord, MessageFate, object_of, attempts_on}
use Rattle.overlap_law.specs.Reached.{Hosts}
use Rattle.overlap_law.specs.Words.{has_served}
use Rattle.overlap_law.specs.Fates.{FatesAreOfTheWire, AttemptsAreOfIncarnations}
use Rattle.overlap_law.specs.Packets.{Wire}
use Rattle.overlap_law.specs.Traffic.{Traffic}
use Rattle.overlap_law.proofs.GrownAttempts.{GoOn}
use Rattle.overlap_law.proofs.OverlapLemmas.{filter-passed}
use Rattle.overlap_law.proofs.ServedPlaces.{AreServedSo, AreSoOnSuccess, served_at, served_from, traffic_served}
use Rattle.overlap_law.proofs.TrafficServers.{success_in_epoch, say_of_served}

-- ---- by their places among those on an object

-- an attempt stood at this place among those on the object, and stands at the same place of the whole
pub record IsLinked (before after : List AttemptRecord) (oid j : ℕ) (now : AttemptRecord) : Type 0 where
  pub was : AttemptRecord
  pub at : slice_get (attempts_on oid before) j ≡ Some was
  pub place : ℕ
  pub was_there : slice_get before place ≡ Some was
  pub now_there : slice_get after place ≡ Some now

-- or it stands behind those that were there
pub record IsBehind (before after : List AttemptRecord) (now : AttemptRecord) : Type 0 where
  pub place : ℕ
  pub there : slice_get after place ≡ Some now
  pub behind : length before ≤ place

abbrev IsLinkedOrBehind : List AttemptRecord → List AttemptRecord → ℕ → ℕ → AttemptRecord → Type 0
IsLinkedOrBehind before after oid j now = IsLinked before after oid j now ⊎ IsBehind before after now

pub linked : (oid : ℕ) (before after : List AttemptRecord) → GoOn before after → (j : ℕ) (now : AttemptRecord)
    → slice_get (attempts_on oid after) j ≡ Some now → IsLinked before after oid j now ⊎ IsBehind before after now
linked oid [] after on j now got =
    let found = filter-passed (λ (attempt : AttemptRecord). object_of attempt == oid) after j now got in
    inr (record { place = found.place; there = found.there; behind = omega arith })
linked oid (was ∷ before) [] on j now got = absurd on
linked oid (was ∷ before) (one ∷ after) on j now got =
    subst (λ (a : AttemptRecord). slice_get (attempts_on oid (a ∷ after)) j ≡ Some now
    → IsLinkedOrBehind (was ∷ before) (a ∷ after) oid j now) on.0.same
    (λ got. by_test (object_of was == oid) refl j got (λ k later. linked oid before after on.1 k now later))
    got
  where
    then : AttemptRecord
    then = record was { fates = on.0.fates }

    -- of a later one
    later_link : (k : ℕ) → (i : ℕ) → (b : Bool) → slice_get (cond b (was ∷ attempts_on oid before) (attempts_on oid before)) i
        ≡ slice_get (attempts_on oid before) k → (object_of was == oid) ≡ b → IsLinkedOrBehind before after oid k now
        → IsLinkedOrBehind (was ∷ before) (then ∷ after) oid i now
    later_link k i b same is (inl link) = inl (record {
      was = link.was;
      at = ap (λ (c : Bool). slice_get (cond c (was ∷ attempts_on oid before) (attempts_on oid before)) i) is ∙ same ∙ link.at;
      place = suc link.place;
      was_there = link.was_there;
      now_there = link.now_there;
    })
    later_link k i b same is (inr behind) =
        inr (record {
          place = suc behind.place;
          there = behind.there;
          behind = (let low = behind.behind in omega (arith, low));
        })

    by_test : (b : Bool) → (object_of was == oid) ≡ b → (i : ℕ)
        → slice_get (cond (object_of was == oid) (then ∷ attempts_on oid after) (attempts_on oid after)) i ≡ Some now
        → ((k : ℕ) → slice_get (attempts_on oid after) k ≡ Some now → IsLinkedOrBehind before after oid k now)
        → IsLinkedOrBehind (was ∷ before) (then ∷ after) oid i now
    by_test true is zero got later =
        let own : slice_get (then ∷ attempts_on oid after) 0 ≡ Some now
        = sym (ap (λ (c : Bool). slice_get (cond c (then ∷ attempts_on oid after) (attempts_on oid after)) 0) is) ∙ got in
        inl (record {
          was = was;
          at = ap (λ (c : Bool). slice_get (cond c (was ∷ attempts_on oid before) (attempts_on oid before)) 0) is;
          place = 0;
          was_there = refl;
          now_there = own;
        })
    by_test true is (suc i) got later =
        later_link i (suc i) true refl is
        (later i (sym (ap (λ (c : Bool). slice_get (cond c (then ∷ attempts_on oid after) (attempts_on oid after)) (suc i)) is) ∙ got))
    by_test false is i got later =
        later_link i i false refl is
        (later i (sym (ap (λ (c : Bool). slice_get (cond c (then ∷ attempts_on oid after) (attempts_on oid after)) i) is) ∙ got))

-- ---- who has served

module _ (hosts hosts_after : Hosts) (wire : Wire) (attempts : List AttemptRecord) (fates : FatesAreOfTheWire wire attempts)
    (incarnations : AttemptsAreOfIncarnations hosts wire attempts) where
  -- an attempt of before that is the same but for its fates, and that the node had served
  pub record HadServed (attempt : AttemptRecord) (target : NodeId) : Type 0 where
    pub place : ℕ
    pub was : AttemptRecord
    pub there : slice_get attempts place ≡ Some was
    pub same : record was { fates = attempt.fates } ≡ attempt
    pub served : has_served target was ≡ true

  -- the node is in the attempt's epoch
  pub record IsInEpoch (attempt : AttemptRecord) (target : NodeId) : Type 0 where
    pub host : Host
    pub there : tree.get hosts target.0 ≡ Some host
    pub own : host.node.peer.epoch ≡ attempt.epoch

  abbrev ServedOrIn : AttemptRecord → NodeId → Type 0
  ServedOrIn attempt target = HadServed attempt target ⊎ IsInEpoch attempt target

  refated : (attempt : AttemptRecord) (told : List MessageFate) (target : NodeId) → ServedOrIn attempt target
      → ServedOrIn (record attempt { fates = told }) target
  refated attempt told target (inl had) = inl (record {
    place = had.place;
    was = had.was;
    there = had.there;
    same = ap (λ (a : AttemptRecord). record a { fates = told }) had.same;
    served = had.served;
  })
  refated attempt told target (inr own) = inr (record { host = own.host; there = own.there; own = own.own })

  were_served : AreServedSo ServedOrIn attempts
  were_served j attempt there place target among served =
      inl (record {
        place = j;
        was = attempt;
        there = there;
        same = refl;
        served = served_from target attempt.targets attempt.fates place among served;
      })

  newly_served : AreSoOnSuccess hosts hosts_after ServedOrIn attempts
  newly_served name to bytes up rsp answer served j attempt there place among request_so =
      inr (record {
        host = answer.host;
        there = answer.there;
        own = success_in_epoch answer.host.node.peer answer.request
            (ap (λ (r : PeerRsp). r.say) answer.said ∙ say_of_served rsp.say served)
            ∙ ap (λ (r : PeerReq). r.epoch.0) request_so;
      })

  module _ {later : Wire} {after : List AttemptRecord} (traffic : Traffic hosts hosts_after wire attempts later after) (j : ℕ)
      (was : AttemptRecord) (told : List MessageFate) (was_there : slice_get attempts j ≡ Some was)
      (now_there : slice_get after j ≡ Some (record was { fates = told })) (node : NodeId) where
    abbrev now : AttemptRecord
    now = record was { fates = told }

    -- two attempts of a gateway with one first number, and with targets, are one
    same_place : (k : ℕ) (other : AttemptRecord) → slice_get attempts k ≡ Some other → other.gateway.0 ≡ was.gateway.0
        → other.first ≡ was.first → 1 ≤ length was.targets → length other.targets ≡ length was.targets → k ≡ j
    same_place k other there gateway first some long = ⊎_elim
        (λ (less : k < j).
        let apart = incarnations.apart k other there j was was_there less gateway in
        absurd (omega (arith, apart, first, some, long)))
        (λ (most : j ≤ k). ⊎_elim
        (λ (more : j < k).
        let apart = incarnations.apart j was was_there k other there more (sym gateway) in
        absurd (omega (arith, apart, first, some)))
        (λ (least : k ≤ j). omega (arith, most, least))
        (cases_lt j k))
        (cases_lt k j)

    -- who has served it had served it, or is in its epoch
    pub served_before : has_served node now ≡ true → (has_served node was ≡ true)
        ⊎ ((host : Host) × (tree.get hosts node.0 ≡ Some host) × (host.node.peer.epoch ≡ was.epoch))
    served_before has =
        let (place, target, among, served, own) = served_at node was.targets told has in
        let target_so : target ≡ node = λ i. record { 0 = own i } in
        by_origin target_so (some_there was.targets place target among)
        (traffic_served hosts hosts_after wire attempts fates ServedOrIn refated were_served traffic newly_served j now now_there place
        target among served)
      where
        some_there : (nodes : List NodeId) (place : ℕ) (target : NodeId) → slice_get nodes place ≡ Some target → 1 ≤ length nodes
        some_there nodes place target among = let within = slice_get_within nodes place target among in omega (arith, within)

        by_origin : {target : NodeId} → target ≡ node → 1 ≤ length was.targets → ServedOrIn now target → (has_served node was ≡ true)
            ⊎ ((host : Host) × (tree.get hosts node.0 ≡ Some host) × (host.node.peer.epoch ≡ was.epoch))
        by_origin {target} target_so some (inl had) =
            let place : had.place ≡ j
            = same_place had.place had.was had.there (ap (λ (a : AttemptRecord). a.gateway.0) had.same)
            (ap (λ (a : AttemptRecord). a.first) had.same) some (ap (λ (a : AttemptRecord). length a.targets) had.same) in
            let one : had.was ≡ was = same_Some had.was was (sym had.there ∙ ap (slice_get attempts) place ∙ was_there) in
            inl (ap (λ (q : NodeId). has_served q was) (sym target_so) ∙ ap (has_served target) (sym one) ∙ had.served)
        by_origin {target} target_so some (inr is) =
            inr (is.host, ap (λ (q : NodeId). tree.get hosts q.0) (sym target_so) ∙ is.there, is.own)
