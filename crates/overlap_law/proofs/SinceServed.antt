-- A request that a node serves or refuses keeps that each row has what it owes: a row that is created has the bytes of the create at each
-- unit, one that is written has those of the write where it covers, and no attempt behind these is owed there.
use Rattle.std.proofs.Common.{◌≡◌, ◌≢◌, ◌⊎◌, inl, inr, ⊎_elim, arith, ℕ, ◌+◌, ◌≤◌, ◌<◌, ◌==◌, nat_le, true, false, List, length}
use Rattle.std.proofs.Common.{Some, slice_get, refl, sym, ap, subst, ◌∙◌}
use Rattle.std.proofs.lemmas.Bool.{and_parts, cases_lt, eqb-true, eq-eqb, le-leb, leb-true}
use Rattle.std.proofs.lemmas.Option.{slice_get_within}
use Rattle.object_id.specs.declared.node.NodeId.{NodeId}
use Rattle.object_id.specs.declared.policy.Policy.{Policy}
use Rattle.object_id.specs.Fields.{zeros}
use Rattle.object_id.specs.Oid.{kind_of}
use Rattle.object_id.specs.Piece.{laid_over}
use Rattle.object_store.specs.declared.key.Key.{Key}
use Rattle.gateway.specs.Work.{ask_for}
use Rattle.peer_proto.specs.declared.ask.PeerAsk.{PeerAsk}
use Rattle.peer_proto.specs.declared.ask.PeerAsk.TheVariants as asks
use Rattle.peer_proto.specs.declared.ask.PeerReq.{PeerReq}
use Rattle.peer_proto.specs.declared.work.ObjWork.{ObjWork}
use Rattle.peer_proto.specs.declared.work.ObjWork.TheVariants as works
use Rattle.peer_proto.specs.Work.{IsWork, oid_of, policy_of}
use Rattle.overlap_law.specs.Attempts.{AttemptRecord, object_of, attempts_on}
use Rattle.overlap_law.specs.Fates.{AttemptsAreOrdered, IsWhole}
use Rattle.overlap_law.specs.Packets.{Wire, is_name_in_wire, message_name_at, message_request_at}
use Rattle.overlap_law.specs.Since.{reading_of, owes_attempt, IsSince}
use Rattle.overlap_law.specs.Units.{unit_start, unit_end, covers_by, covers_unit, row_bytes_at}
use Rattle.overlap_law.specs.Words.{Hosts, has_served, is_doomed, is_mute}
use Rattle.overlap_law.proofs.CopyUnits.{made_by, written_by, key_asked, end_asked}
use Rattle.overlap_law.proofs.LaterAttempts.{IsToldOf}
use Rattle.overlap_law.proofs.OverlapLemmas.{filter-passed}
use Rattle.overlap_law.proofs.PairedAttempts.{Paired, pair_at, IsAmong, filter-among}
use Rattle.overlap_law.proofs.ServedUnits.{created-has, written-has}
use Rattle.overlap_law.proofs.SinceAtEntries.{owed_parts}
use Rattle.overlap_law.proofs.SinceLater.{IsLater}

-- ---- works

-- a unit that a whole work covers ends inside the object
covered_inside : (size unit : ℕ) (work : ObjWork) → IsWhole size work → covers_by unit work ≡ true
    → unit_end (kind_of (oid_of work)) unit ≤ size
covered_inside size unit (works.Create oid policy long offset bytes) whole covers =
    let low = leb-true (unit_end (kind_of oid) unit) long covers in
    let same = whole.0 in
    omega (arith, low, same)
covered_inside size unit (works.Write oid policy offset bytes) whole covers =
    let parts = and_parts (nat_le offset (unit_start (kind_of oid) unit))
    (nat_le (unit_end (kind_of oid) unit) (offset + length bytes)) covers in
    let low = leb-true (unit_end (kind_of oid) unit) (offset + length bytes) parts.1 in
    let inside = whole.0 in
    omega (arith, low, inside)
covered_inside size unit (works.Read oid policy offset long) whole covers = absurd (cc (covers))
covered_inside size unit (works.ReadAll oid policy long) whole covers = absurd (cc (covers))

-- ---- an attempt whose message is served

-- at a node an attempt's message is served, in the attempt's epoch
module _ (hosts hosts_after : Hosts) (wire : Wire) (attempts more : List AttemptRecord) (n : ℕ) (to : NodeId)
    (request : PeerReq) (epoch : ℕ) (of_epoch : epoch ≡ request.epoch.0)
    (pairs : Paired (IsLater hosts hosts_after (IsToldOf n request)) attempts more)
    (ordered : AttemptsAreOrdered wire attempts)
    (apart : (j k : ℕ) (first second : AttemptRecord) → slice_get attempts j ≡ Some first → slice_get attempts k ≡ Some second → j < k
    → first.gateway.0 ≡ second.gateway.0 → first.first + length first.targets ≤ second.first)
    (k place : ℕ) (was now : AttemptRecord) (there : slice_get attempts k ≡ Some was) (among : slice_get was.targets place ≡ Some to)
    (request_so : request ≡ message_request_at was place) (in_wire : is_name_in_wire wire (message_name_at was place) ≡ true)
    (there_now : slice_get more k ≡ Some now) (work_so : now.work ≡ was.work) (oid : ℕ) (object : object_of now ≡ oid) where
  own_epoch : was.epoch ≡ epoch
  own_epoch = sym (of_epoch ∙ ap (λ (r : PeerReq). r.epoch.0) request_so)

  -- its place among those on the object
  pub own_among : (q : ℕ) × IsAmong more (attempts_on oid more) k now q
  own_among =
      filter-among (λ (a : AttemptRecord). object_of a == oid) more k now there_now (eq-eqb (object_of now) oid object)

  abbrev pub own_place : ℕ
  own_place = own_among.0

  -- an attempt that is owed at its epoch stands no later
  pub none_behind : (j : ℕ) (one : AttemptRecord) → slice_get (attempts_on oid more) j ≡ Some one → one.epoch ≤ epoch → j ≤ own_place
  none_behind j one got most = ⊎_elim
      (λ (behind : own_place < j).
      let (b, at, less) = own_among.1.later j one got behind in
      let (old, at_old, is) = pair_at (IsLater hosts hosts_after (IsToldOf n request)) attempts more pairs b one at in
      let found = filter-passed (λ (a : AttemptRecord). object_of a == oid) more j one got in
      let same : object_of was ≡ object_of old
      = sym (ap (λ (work : ObjWork). oid_of work) work_so) ∙ object ∙ sym (eqb-true (object_of one) oid found.passed)
      ∙ sym (ap (λ (work : ObjWork). oid_of work) is.work) in
      let later = (ordered.each k was there b old at_old less same).flying place to (record { among = among; there = in_wire }) in
      let epochs = is.epoch in
      let own = own_epoch in
      absurd (omega (arith, later, epochs, own, most)))
      (λ (before : j ≤ own_place). before)
      (cases_lt own_place j)

  -- no other one has the message
  one_message : (b : ℕ) (one : AttemptRecord) → slice_get more b ≡ Some one → IsToldOf n request n one → (b < k) ⊎ (k < b) → ⊥
  one_message b one at told cases =
      let (old, at_old, is) = pair_at (IsLater hosts hosts_after (IsToldOf n request)) attempts more pairs b one at in
      let asked : message_request_at old told.place ≡ message_request_at was place
      = is.messages told.place ∙ sym told.request_so ∙ request_so in
      let gateways : old.gateway.0 ≡ was.gateway.0 = ap (λ (r : PeerReq). r.from.0) asked in
      let numbers : old.first + told.place ≡ was.first + place = ap (λ (r : PeerReq). r.number) asked in
      let inside : told.place < length old.targets
      = slice_get_within old.targets told.place (record { 0 = n })
      (ap (λ (nodes : List NodeId). slice_get nodes told.place) is.targets ∙ told.among) in
      let own_inside : place < length was.targets = slice_get_within was.targets place to among in
      ⊎_elim
      (λ (before : b < k).
      let less = apart b k old was at_old there before gateways in absurd (omega (arith, less, numbers, inside)))
      (λ (behind : k < b).
      let less = apart k b was old there at_old behind (sym gateways) in absurd (omega (arith, less, numbers, own_inside)))
      cases

  pub only_told : (j : ℕ) (one : AttemptRecord) → slice_get (attempts_on oid more) j ≡ Some one → j ≢ own_place
      → IsToldOf n request n one → ⊥
  only_told j one got other told = ⊎_elim
      (λ (less : j < own_place).
      let (b, at, before) = own_among.1.earlier j one got less in one_message b one at told (inl before))
      (λ (most : own_place ≤ j). ⊎_elim
      (λ (more_than : own_place < j).
      let (b, at, behind) = own_among.1.later j one got more_than in one_message b one at told (inr behind))
      (λ (least : j ≤ own_place). other (omega (arith, most, least)))
      (cases_lt own_place j))
      (cases_lt j own_place)

  -- ---- what it makes

  -- an attempt that is owed stands no later
  owes_no_later : (j : ℕ) (one : AttemptRecord) → slice_get (attempts_on oid more) j ≡ Some one
      → owes_attempt (record { 0 = n }) epoch epoch one ≡ true → (is_doomed hosts_after one ≡ true) ⊎ (j ≤ own_place)
  owes_no_later j one got owed =
      inr (none_behind j one got (⊎_elim
      (λ (earlier : one.epoch < epoch). omega (arith, earlier))
      (λ (served : (has_served (record { 0 = n }) one ≡ true) × (one.epoch ≤ epoch)). served.1)
      (owed_parts (record { 0 = n }) epoch epoch one owed)))

  module _ (loud : is_mute now ≡ false) (is_work : IsWork now.work) (size : ℕ)
      (whole : (j : ℕ) (one : AttemptRecord) → slice_get (attempts_on oid more) j ≡ Some one → IsWhole size one.work)
      (policy : Policy) (policy_so : policy_of now.work ≡ policy) where
    object_same : (j : ℕ) (one : AttemptRecord) → slice_get (attempts_on oid more) j ≡ Some one → object_of one ≡ oid
    object_same j one got =
        eqb-true (object_of one) oid (filter-passed (λ (a : AttemptRecord). object_of a == oid) more j one got).passed

    pub created_since : (index : ℕ) (key : Key) (long offset : ℕ) (bytes : List ℕ)
        → ask_for now.work index ≡ asks.Create key long offset bytes
        → IsSince policy oid hosts_after more (record { 0 = n }) key.index epoch epoch (laid_over (zeros long) offset bytes)
    created_since index key long offset bytes asked = by_work now.work refl asked
      where
        IsMade : PeerAsk → Type 0
        IsMade ask = IsSince policy oid hosts_after more (record { 0 = n }) (key_asked ask).index epoch epoch (made_by ask)

        by_work : (work : ObjWork) → now.work ≡ work → ask_for work index ≡ asks.Create key long offset bytes
            → IsMade (asks.Create key long offset bytes)
        by_work (works.Create own pol total from piece) same is =
            let oid_so : own ≡ oid = sym (ap (λ (work : ObjWork). oid_of work) same) ∙ object in
            let pol_so : pol ≡ policy = sym (ap (λ (work : ObjWork). policy_of work) same) ∙ policy_so in
            let work_now : now.work ≡ works.Create oid policy total from piece
            = same ∙ (λ i. works.Create (oid_so i) (pol_so i) total from piece) in
            let ask_now : ask_for (works.Create oid policy total from piece) index ≡ asks.Create key long offset bytes
            = sym (ap (λ (work : ObjWork). ask_for work index) (sym same ∙ work_now)) ∙ is in
            let total_so : IsWhole size (works.Create oid policy total from piece)
            = subst (IsWhole size) work_now (whole own_place now own_among.1.at) in
            subst IsMade ask_now
            (created-has oid policy (attempts_on oid more) hosts_after own_place now own_among.1.at loud (record { 0 = n }) index epoch
            epoch total from piece work_now (subst IsWork work_now is_work)
            (λ j one got unit covers.
            let low = covered_inside size unit one.work (whole j one got) covers in
            let ends : unit_end (kind_of oid) unit ≤ size
            = subst (λ (q : ℕ). unit_end (kind_of q) unit ≤ size) (object_same j one got) low in
            let long_so = total_so.0 in
            ap (covers_by unit) work_now ∙ le-leb (unit_end (kind_of oid) unit) total (omega (arith, ends, long_so)))
            owes_no_later)
        by_work (works.Write own pol from piece) same is = absurd (cc (is))
        by_work (works.Read own pol from long_read) same is = absurd (cc (is))
        by_work (works.ReadAll own pol long_read) same is = absurd (cc (is))

    -- a row over which it is written, that had all else
    pub written_since : (index : ℕ) (key : Key) (offset : ℕ) (bytes row : List ℕ) → ask_for now.work index ≡ asks.Write key offset bytes
        → offset + length bytes ≤ length row
        → ((j : ℕ) (one : AttemptRecord) → slice_get (attempts_on oid more) j ≡ Some one → j ≢ own_place → (unit : ℕ)
        → covers_unit unit one ≡ true → owes_attempt (record { 0 = n }) epoch epoch one ≡ true
        → (is_doomed hosts_after one ≡ true)
        ⊎ reading_of policy oid (attempts_on oid more) unit j key.index (row_bytes_at policy (kind_of oid) unit row))
        → IsSince policy oid hosts_after more (record { 0 = n }) key.index epoch epoch (laid_over row offset bytes)
    written_since index key offset bytes row asked fits had = by_work now.work refl asked fits had
      where
        HadElse : PeerAsk → Type 0
        HadElse ask = (j : ℕ) (one : AttemptRecord) → slice_get (attempts_on oid more) j ≡ Some one → j ≢ own_place → (unit : ℕ)
            → covers_unit unit one ≡ true → owes_attempt (record { 0 = n }) epoch epoch one ≡ true
            → (is_doomed hosts_after one ≡ true)
            ⊎ reading_of policy oid (attempts_on oid more) unit j (key_asked ask).index (row_bytes_at policy (kind_of oid) unit row)

        IsWritten : PeerAsk → Type 0
        IsWritten ask = end_asked ask ≤ length row → HadElse ask
            → IsSince policy oid hosts_after more (record { 0 = n }) (key_asked ask).index epoch epoch (written_by ask row)

        by_work : (work : ObjWork) → now.work ≡ work → ask_for work index ≡ asks.Write key offset bytes
            → IsWritten (asks.Write key offset bytes)
        by_work (works.Create own pol total from piece) same is = absurd (cc (is))
        by_work (works.Write own pol from piece) same is =
            let oid_so : own ≡ oid = sym (ap (λ (work : ObjWork). oid_of work) same) ∙ object in
            let pol_so : pol ≡ policy = sym (ap (λ (work : ObjWork). policy_of work) same) ∙ policy_so in
            let work_now : now.work ≡ works.Write oid policy from piece
            = same ∙ (λ i. works.Write (oid_so i) (pol_so i) from piece) in
            let ask_now : ask_for (works.Write oid policy from piece) index ≡ asks.Write key offset bytes
            = sym (ap (λ (work : ObjWork). ask_for work index) (sym same ∙ work_now)) ∙ is in
            let units : IsWhole size (works.Write oid policy from piece)
            = subst (IsWhole size) work_now (whole own_place now own_among.1.at) in
            subst IsWritten ask_now (λ inside rest.
            written-has oid policy (attempts_on oid more) hosts_after own_place now own_among.1.at loud (record { 0 = n }) index epoch
            epoch from piece work_now (subst IsWork work_now is_work) units.1 row inside owes_no_later rest)
        by_work (works.Read own pol from long_read) same is = absurd (cc (is))
        by_work (works.ReadAll own pol long_read) same is = absurd (cc (is))
