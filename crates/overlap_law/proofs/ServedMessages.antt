-- The attempt of which a node serves a message: once its target has told so, what the node makes of it has what it owes.
use Rattle.std.proofs.Common.{◌≡◌, ◌⊎◌, ⊎_elim, ℕ, ◌+◌, ◌≤◌, ◌<◌, ◌==◌, Bool, true, false, List, length, slice_get, Option, Some, is_some}
use Rattle.std.proofs.Common.{refl, sym, ap, subst, ◌∙◌}
use Rattle.std.proofs.lemmas.Bool.{eqb-true}
use Rattle.std.proofs.lemmas.Option.{same_Some}
use Rattle.object_id.specs.declared.entry.VdiSpec.{VdiSpec}
use Rattle.object_id.specs.declared.node.NodeId.{NodeId}
use Rattle.object_id.specs.declared.policy.Policy.{Policy}
use Rattle.object_id.specs.Fields.{zeros}
use Rattle.object_id.specs.Oid.{kind_of, vid_of}
use Rattle.object_id.specs.Piece.{laid_over}
use Rattle.object_store.specs.declared.key.Key.{Key}
use Rattle.gateway.specs.Work.{ask_for}
use Rattle.gf256.specs.Part.{index_at}
use Rattle.peer_proto.specs.declared.ask.PeerAsk.TheVariants as asks
use Rattle.peer_proto.specs.declared.ask.PeerReq.{PeerReq}
use Rattle.peer_proto.specs.declared.work.ObjWork.{ObjWork}
use Rattle.peer_proto.specs.Work.{IsWork, oid_of, policy_of}
use Rattle.peer_service.specs.State.{object_size}
use Rattle.vdi_directory.specs.Decisions.{log_effects}
use Rattle.message_wire.specs.declared.name.MessageName.{MessageName}
use Rattle.message_wire.specs.declared.packet.Packet.{Packet}
use Rattle.sheep_world.specs.WireMatch.{PacketsAreReadable}
use Rattle.overlap_law.specs.Attempts.{AttemptRecord, Flying, Served, object_of, attempts_on, attempts_with_fate}
use Rattle.overlap_law.specs.Each.{SomeAttempt, spec_in, policy_in}
use Rattle.overlap_law.specs.Fates.{AttemptsAreOrdered, AttemptsAreWhole, IsWhole}
use Rattle.overlap_law.specs.Packets.{IsAsking, is_name_in_wire, message_name_at}
use Rattle.overlap_law.specs.Past.{MomentWithPast}
use Rattle.overlap_law.specs.ShapedAttempts.{AreShaped}
use Rattle.overlap_law.specs.Since.{reading_of, IsSince}
use Rattle.overlap_law.specs.TiedAttempts.{IsTied}
use Rattle.overlap_law.specs.Traffic.{IsMessageOf}
use Rattle.overlap_law.specs.Units.{row_bytes_at}
use Rattle.overlap_law.specs.Words.{Hosts, has_served, is_doomed, is_mute}
use Rattle.overlap_law.specs.WorksOfAttempts.{AttemptsAreOfWorks}
use Rattle.overlap_law.proofs.CopiesAtSteps.{policy_spec}
use Rattle.overlap_law.proofs.CopiesInSteps.{key_oid, asked_object}
use Rattle.overlap_law.proofs.GrownAttempts.{GoOn}
use Rattle.overlap_law.proofs.LaterAttempts.{IsToldOf}
use Rattle.overlap_law.proofs.OverlapLemmas.{filter-passed}
use Rattle.overlap_law.proofs.OwedBeyond.{none_served}
use Rattle.overlap_law.proofs.PairedAttempts.{Paired, pair_at}
use Rattle.overlap_law.proofs.ServedCreates.{flies, own_name, served-now}
use Rattle.overlap_law.proofs.SinceLater.{IsLater, still_had}
use Rattle.overlap_law.proofs.SinceServed.{only_told, created_since, written_since}

-- a request of the wire is served by the node to which it goes, as a message of an attempt, in the attempt's epoch; the attempts behind
-- that are told of it
module _ (moment : MomentWithPast) (hosts_after : Hosts) (more : List AttemptRecord) (n : ℕ) (name : MessageName) (to : NodeId)
    (request : PeerReq) (epoch : ℕ) (of_epoch : epoch ≡ request.epoch.0) (asking : IsAsking moment.world.wire name to request)
    (readable : PacketsAreReadable moment.world.wire)
    (told_served : more ≡ attempts_with_fate Served name.sender name.number moment.past.attempts)
    (pairs : Paired (IsLater moment.world.hosts hosts_after (IsToldOf n request)) moment.past.attempts more)
    (on : GoOn moment.past.attempts more) (shaped : AreShaped moment) (tied : IsTied moment)
    (ordered : AttemptsAreOrdered moment.world.wire moment.past.attempts) (works : AttemptsAreOfWorks moment.past.attempts)
    (whole : AttemptsAreWhole (log_effects moment.world.log) moment.past.attempts)
    (own : SomeAttempt moment.past.attempts (λ (attempt : AttemptRecord). IsMessageOf attempt to request)) where
  abbrev attempts : List AttemptRecord
  attempts = moment.past.attempts

  abbrev k : ℕ
  k = own.0

  abbrev was : AttemptRecord
  was = own.1

  flying : slice_get was.fates own.3.place ≡ Some Flying
  flying =
      flies moment.world.wire attempts tied.fates readable name to request asking k was own.2 own.3.place own.3.among own.3.request_so

  in_wire : is_name_in_wire moment.world.wire (message_name_at was own.3.place) ≡ true
  in_wire =
      ap (is_name_in_wire moment.world.wire)
      (own_name moment.world.wire readable name to request asking was own.3.place own.3.request_so)
      ∙ named
    where
      named : is_name_in_wire moment.world.wire name ≡ true
      named = ap (λ (o : Option Packet). is_some o) asking.there

  abbrev served : (now : AttemptRecord) × (slice_get more k ≡ Some now) × (now.work ≡ was.work) × (has_served to now ≡ true)
  served =
      let (now, at, work, same, has) = served-now moment.world.wire attempts readable name to request asking k was own.2 own.3.place
      own.3.among own.3.request_so flying in
      (now, ap (λ (all : List AttemptRecord). slice_get all k) told_served ∙ at, work, has)

  abbrev now : AttemptRecord
  now = served.0

  loud : is_mute now ≡ false
  loud = by_test (is_mute now) refl
    where
      by_test : (b : Bool) → is_mute now ≡ b → b ≡ false
      by_test true mute =
          let none = none_served to now.targets now.fates mute in
          let has = served.3 in
          absurd (cc (none, has))
      by_test false is = refl

  apart : (j i : ℕ) (first second : AttemptRecord) → slice_get attempts j ≡ Some first → slice_get attempts i ≡ Some second → j < i
      → first.gateway.0 ≡ second.gateway.0 → first.first + length first.targets ≤ second.first
  apart j i first second at there less same = tied.incarnations.apart j first at i second there less same

  object_so : object_of now ≡ key_oid request.ask
  object_so =
      ap (λ (work : ObjWork). oid_of work) served.2
      ∙ sym (asked_object was.work (index_at (policy_of was.work) (kind_of (object_of was)) own.3.place))
      ∙ ap key_oid (ap (λ (r : PeerReq). r.ask) (sym own.3.request_so))

  -- attempts on its object make the whole object, or units inside it
  module _ (policy : Policy) (known : policy_in (log_effects moment.world.log) (key_oid request.ask) ≡ Some policy) where
    abbrev oid : ℕ
    oid = key_oid request.ask

    spec : (spec : VdiSpec) × (spec_in (log_effects moment.world.log) (vid_of oid) ≡ Some spec)
    spec = policy_spec (log_effects moment.world.log) oid policy known

    abbrev size : ℕ
    size = object_size spec.0 (kind_of oid)

    all_whole : (j : ℕ) (one : AttemptRecord) → slice_get (attempts_on oid more) j ≡ Some one → IsWhole size one.work
    all_whole j one got =
        let found = filter-passed (λ (a : AttemptRecord). object_of a == oid) more j one got in
        let (old, at, later) = pair_at (IsLater moment.world.hosts hosts_after (IsToldOf n request)) attempts more pairs found.place one
        found.there in
        let object : object_of old ≡ oid
        = ap (λ (work : ObjWork). oid_of work) later.work ∙ eqb-true (object_of one) oid found.passed in
        let is_whole = whole.each found.place old at spec.0
        (ap (λ (q : ℕ). spec_in (log_effects moment.world.log) (vid_of q)) object ∙ spec.1) in
        subst (IsWhole size) later.work
        (subst (λ (q : ℕ). IsWhole (object_size spec.0 (kind_of q)) old.work) object is_whole)

    policy_so : policy_of now.work ≡ policy
    policy_so =
        let same : object_of was ≡ oid
        = sym (asked_object was.work (index_at (policy_of was.work) (kind_of (object_of was)) own.3.place))
        ∙ ap key_oid (ap (λ (r : PeerReq). r.ask) (sym own.3.request_so)) in
        ap (λ (work : ObjWork). policy_of work) served.2
        ∙ same_Some (policy_of was.work) policy
        (sym (shaped.shape.policy k was own.2) ∙ ap (policy_in (log_effects moment.world.log)) same ∙ known)

    is_work : IsWork now.work
    is_work = subst IsWork (sym served.2) (works.each k was own.2)

    abbrev index : ℕ
    index = index_at (policy_of was.work) (kind_of (object_of was)) own.3.place

    asks_so : ask_for now.work index ≡ request.ask
    asks_so = ap (λ (work : ObjWork). ask_for work index) served.2 ∙ ap (λ (r : PeerReq). r.ask) (sym own.3.request_so)

    pub made_row : (key : Key) (long offset : ℕ) (bytes : List ℕ) → request.ask ≡ asks.Create key long offset bytes
        → IsSince policy oid hosts_after more (record { 0 = n }) key.index epoch epoch (laid_over (zeros long) offset bytes)
    made_row key long offset bytes asked =
        created_since moment.world.hosts hosts_after moment.world.wire attempts more n to request epoch of_epoch pairs ordered apart k
        own.3.place was now own.2 own.3.among own.3.request_so in_wire served.1 served.2 oid object_so loud is_work size all_whole policy
        policy_so index key long offset bytes (asks_so ∙ asked)

    -- the open row over which it is written
    pub written_row : (index : ℕ) (row : List ℕ)
        → IsSince policy oid moment.world.hosts attempts (record { 0 = n }) index epoch epoch row → (key : Key) (offset : ℕ)
        (bytes : List ℕ) → request.ask ≡ asks.Write key offset bytes → index ≡ key.index → offset + length bytes ≤ length row
        → IsSince policy oid hosts_after more (record { 0 = n }) index epoch epoch (laid_over row offset bytes)
    written_row own_index row had key offset bytes asked index_so fits =
        subst (λ (q : ℕ). IsSince policy oid hosts_after more (record { 0 = n }) q epoch epoch (laid_over row offset bytes)) (sym index_so)
        (written_since moment.world.hosts hosts_after moment.world.wire attempts more n to request epoch of_epoch pairs ordered apart k
        own.3.place was now own.2 own.3.among own.3.request_so in_wire served.1 served.2 oid object_so loud is_work size all_whole policy
        policy_so index key offset bytes row (asks_so ∙ asked) fits
        (λ j one at other unit covers owed. ⊎_elim
        (λ (has : IsHadAt j one unit own_index). subst (λ (q : ℕ). IsHadAt j one unit q) index_so has)
        (λ (told : IsToldOf n request n one × (one.epoch ≤ epoch)).
        absurd (only_told moment.world.hosts hosts_after moment.world.wire attempts more n to request epoch of_epoch pairs ordered apart k
        own.3.place was now own.2 own.3.among own.3.request_so in_wire served.1 served.2 oid object_so j one at other told.0))
        (still_had moment.world.hosts hosts_after (IsToldOf n request) attempts more pairs on policy oid n own_index epoch epoch row had
        j one at unit covers owed)))
      where
        IsHadAt : ℕ → AttemptRecord → ℕ → ℕ → Type 0
        IsHadAt j one unit q = (is_doomed hosts_after one ≡ true)
            ⊎ reading_of policy oid (attempts_on oid more) unit j q (row_bytes_at policy (kind_of oid) unit row)
