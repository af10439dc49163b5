-- Over each change of a moment in a run, what an open read was told has what its teller owed, if it had so before: no attempt begins on
-- the object, and its teller serves none of the read's epoch that it had not served.
use Rattle.std.proofs.Common.{◌≡◌, ◌⊎◌, inl, inr, ⊎_elim, arith, ℕ, ◌≤◌, ◌<◌, ◌==◌, ◌&&◌, nat_le, nat_lt, true, false, List}
use Rattle.std.proofs.Common.{Option}
use Rattle.std.proofs.Common.{is_some, slice_get, Some, sym, ap, ◌∙◌}
use Rattle.std.specs.FinMap as tree
use Rattle.std.proofs.lemmas.Bool.{and_from, and_parts, eqb-true, leb-true, or_cases, or_left, or_right}
use Rattle.std.proofs.lemmas.Option.{same_Some, slice_get_within}
use Rattle.object_id.specs.declared.node.Epoch.{Epoch}
use Rattle.object_id.specs.declared.node.NodeId.{NodeId}
use Rattle.object_id.specs.declared.policy.Policy.{Policy}
use Rattle.object_id.specs.Oid.{kind_of}
use Rattle.gf256.specs.Part.{is_in_strips}
use Rattle.cluster_script.specs.declared.statement.Statement.{Statement}
use Rattle.peer_proto.specs.declared.work.ObjWork.{ObjWork}
use Rattle.peer_proto.specs.Work.{oid_of}
use Rattle.message_wire.specs.declared.packet.Packet.{Packet}
use Rattle.gateway.specs.declared.message.Message.{Message}
use Rattle.gateway.specs.Attempt as gateways
use Rattle.gateway.specs.State.{Work, Open}
use Rattle.gateway.specs.Work.{is_making}
use Rattle.sheep_world.specs.World.{Host}
use Rattle.sheep_world.specs.Began.{Began}
use Rattle.sheep_world.specs.RunsWithAsks.{Move}
use Rattle.overlap_law.specs.Attempts.{AttemptRecord, MessageFate, Served, Flying, object_of, attempts_on}
use Rattle.overlap_law.specs.MomentChanges.{MomentChange, MomentTrail, RunsAreInRange}
use Rattle.overlap_law.specs.Packets.{HasPacket}
use Rattle.overlap_law.specs.Past.{MomentWithPast, run_with_past}
use Rattle.overlap_law.specs.ShapedAttempts.{AreShaped}
use Rattle.overlap_law.specs.Since.{reading_of, owes_attempt, IsSince}
use Rattle.overlap_law.specs.TiedAttempts.{IsTied}
use Rattle.overlap_law.specs.ToldPieces.{IsPieceSince}
use Rattle.overlap_law.specs.Traffic.{TrafficBetween}
use Rattle.overlap_law.specs.Words.{Hosts, has_served, is_served_by, is_doomed}
use Rattle.overlap_law.proofs.AllAnswersInMoments.{reached_at}
use Rattle.overlap_law.proofs.BeyondInMoments.{doomed_later}
use Rattle.overlap_law.proofs.ClientsInMoments.{own_before}
use Rattle.overlap_law.proofs.FinishedInMoments.{TermsHold, kept_terms}
use Rattle.overlap_law.proofs.GrownAttempts.{GoOn, traffic_goes_on, grows-object, goes_on-grows}
use Rattle.overlap_law.proofs.LastReads.{open_reads-in_run, none_begins_beside}
use Rattle.overlap_law.proofs.LinkedAttempts.{IsLinked, IsBehind, linked, served_before}
use Rattle.overlap_law.proofs.NewAttempts.{WasAttempt, IsOpened, come_from}
use Rattle.overlap_law.proofs.NoRecoveredDue.{began-with_past}
use Rattle.overlap_law.proofs.OverlapLemmas.{filter-passed}
use Rattle.overlap_law.proofs.OwedAttempts.{WasOwed, owed-later}
use Rattle.overlap_law.proofs.ReadingLaws.{readings}
use Rattle.overlap_law.proofs.RunsByChanges.{on_the_way}
use Rattle.overlap_law.proofs.ServedOrFlew.{served_or_flew}
use Rattle.overlap_law.proofs.ServedPlaces.{served_at, served_from}
use Rattle.overlap_law.proofs.TellersOfPieces.{IsToldBy, TellersAreTargets, tellers-on_the_way}
use Rattle.overlap_law.proofs.TrafficOfChanges.{traffic}
use Rattle.overlap_law.proofs.UnansweredInSteps.{WasUnansweredAt}
use Rattle.overlap_law.specs.Sessions.{is_of_client_at}

-- a work's attempt was open before
pub record WasOpenAt (hosts : Hosts) (n req : ℕ) (work : Work) (current : gateways.Attempt) : Type 0 where
  pub old : Host
  pub there : tree.get hosts n ≡ Some old
  pub up : old.is_lost ≡ false
  pub was : Work
  pub before : gateways.Attempt
  pub got : tree.get old.node.gateway.works req ≡ Some was
  pub stage : was.stage ≡ Open before
  pub work_so : work.work ≡ was.work
  pub epoch_so : current.epoch ≡ before.epoch

-- so it was where a message of it is unanswered that was so before
pub still_open : (hosts : Hosts) (n req place : ℕ) (work : Work) (current : gateways.Attempt) (message : Message)
    → WasUnansweredAt hosts n req work current place message → WasOpenAt hosts n req work current
still_open hosts n req place work current message was = record {
  old = was.old;
  there = was.there;
  up = was.up;
  was = was.of.was;
  before = was.of.before;
  got = was.of.is.there;
  stage = was.of.is.stage;
  work_so = was.of.work_so;
  epoch_so = was.of.epoch_so;
}

module _ (script : List Statement) (range : RunsAreInRange script) (events : List Move) (start before after : MomentWithPast)
    (is : run_with_past script events ≡ Some start) (trail : MomentTrail script start before)
    (change : MomentChange script start before after) where
  began : Began script start.world
  began = began-with_past script events start is

  tellers : TellersAreTargets before
  tellers = tellers-on_the_way script range events start before is trail

  tied : IsTied before
  tied = tellers.rows.tied

  shaped : AreShaped before
  shaped = tellers.rows.shaped

  terms : TermsHold before
  terms = on_the_way script TermsHold (kept_terms script range) events start before is trail

  way : TrafficBetween before after
  way = traffic script range start began change

  on : GoOn before.past.attempts after.past.attempts
  on = traffic_goes_on before.world.hosts after.world.hosts before.world.wire before.past.attempts way

  module _ (n : ℕ) (now : Host) (there : tree.get after.world.hosts n ≡ Some now) (up : now.is_lost ≡ false) (req : ℕ) (work : Work)
      (current : gateways.Attempt) (got : tree.get now.node.gateway.works req ≡ Some work) (stage : work.stage ≡ Open current)
      (was : WasOpenAt before.world.hosts n req work current) (from : NodeId)
      (teller : IsToldBy before work.work current.epoch.0 from) (own : is_of_client_at req now.node ≡ false) where
    abbrev oid : ℕ
    oid = oid_of work.work

    abbrev epoch : ℕ
    epoch = current.epoch.0

    then_so : current.epoch.0 ≡ was.before.epoch.0
    then_so = ap (λ (e : Epoch). e.0) was.epoch_so

    -- what flies of an attempt on the object is of an earlier epoch
    flies_earlier : (j : ℕ) (attempt : AttemptRecord) → slice_get before.past.attempts j ≡ Some attempt → object_of attempt ≡ oid
        → (p : ℕ) (target : NodeId) → slice_get attempt.targets p ≡ Some target → slice_get attempt.fates p ≡ Some Flying
        → attempt.epoch < epoch
    flies_earlier j attempt at object p target among flew =
        let asking = tied.fates.each j attempt at p target Flying among flew in
        let packet : HasPacket before.world.wire attempt p target
        = record { among = among; there = ap (λ (o : Option Packet). is_some o) asking.there } in
        let less = (open_reads-in_run script range events start before is trail n was.old was.there was.up req was.was was.before was.got
        (ap (λ (w : ObjWork). is_making w) (sym was.work_so) ∙ teller.reads)
        (own_before script range start began change n now was.old there was.there req work got own) was.stage j attempt at
        (object ∙ ap (λ (w : ObjWork). oid_of w) was.work_so)).flying p target packet in
        let same = then_so in
        omega (arith, less, same)

    -- what the teller has served of it in the epoch or before, it had served
    served_then : (j : ℕ) (attempt : AttemptRecord) (fates : List MessageFate) → slice_get before.past.attempts j ≡ Some attempt
        → slice_get after.past.attempts j ≡ Some (record attempt { fates = fates }) → object_of attempt ≡ oid → attempt.epoch ≤ epoch
        → has_served from (record attempt { fates = fates }) ≡ true → has_served from attempt ≡ true
    served_then j attempt fates at at_now object most has = ⊎_elim
        (λ (had : has_served from attempt ≡ true). had)
        (λ (late : (host : Host) × (tree.get before.world.hosts from.0 ≡ Some host) × (host.node.peer.epoch ≡ attempt.epoch)).
        by_place (late.0, late.1, late.2) (served_at from attempt.targets fates has))
        (served_before before.world.hosts after.world.hosts before.world.wire before.past.attempts tied.fates tied.incarnations way j
        attempt fates at at_now from has)
      where
        by_place : (host : Host) × (tree.get before.world.hosts from.0 ≡ Some host) × (host.node.peer.epoch ≡ attempt.epoch)
            → (p : ℕ) × (target : NodeId) × (slice_get attempt.targets p ≡ Some target) × (slice_get fates p ≡ Some Served)
            × (target.0 ≡ from.0) → has_served from attempt ≡ true
        by_place (host, host_there, own) (p, target, among, served, node_so) = ⊎_elim
            (λ (old : slice_get attempt.fates p ≡ Some Served).
            ap (λ (k : ℕ). is_served_by (record { 0 = k }) attempt.targets attempt.fates) (sym node_so)
            ∙ served_from target attempt.targets attempt.fates p among old)
            (λ (flew : slice_get attempt.fates p ≡ Some Flying).
            let less = flies_earlier j attempt at object p target among flew in
            let came = reached_at before.world.hosts epoch from host host_there teller.reached in
            absurd (omega (arith, less, came, own)))
            (served_or_flew before.world.hosts after.world.hosts before.world.wire before.past.attempts j attempt at fates p served way
            at_now)

    -- what is owed now was owed before
    owed_then : (j : ℕ) (attempt : AttemptRecord) (fates : List MessageFate) → slice_get before.past.attempts j ≡ Some attempt
        → slice_get after.past.attempts j ≡ Some (record attempt { fates = fates }) → object_of attempt ≡ oid
        → owes_attempt from epoch epoch (record attempt { fates = fates }) ≡ true → owes_attempt from epoch epoch attempt ≡ true
    owed_then j attempt fates at at_now object owed = ⊎_elim
        (λ (earlier : nat_lt attempt.epoch epoch ≡ true).
        or_left (nat_lt attempt.epoch epoch) (has_served from attempt && nat_le attempt.epoch epoch) earlier)
        (λ (own : (has_served from (record attempt { fates = fates }) && nat_le attempt.epoch epoch) ≡ true).
        let (has, most) = and_parts (has_served from (record attempt { fates = fates })) (nat_le attempt.epoch epoch) own in
        or_right (nat_lt attempt.epoch epoch) (has_served from attempt && nat_le attempt.epoch epoch)
        (and_from (has_served from attempt) (nat_le attempt.epoch epoch)
        (served_then j attempt fates at at_now object (leb-true attempt.epoch epoch most) has) most))
        (or_cases (nat_lt attempt.epoch epoch) (has_served from (record attempt { fates = fates }) && nat_le attempt.epoch epoch) owed)

    abbrev DoomedOrOwed : ℕ → AttemptRecord → Type 0
    DoomedOrOwed j attempt = (is_doomed after.world.hosts attempt ≡ true)
        ⊎ WasOwed before.world.hosts after.world.hosts (attempts_on oid before.past.attempts) from epoch epoch j attempt

    by_link : (j : ℕ) (attempt : AttemptRecord) → slice_get (attempts_on oid after.past.attempts) j ≡ Some attempt
        → owes_attempt from epoch epoch attempt ≡ true
        → IsLinked before.past.attempts after.past.attempts oid j attempt ⊎ IsBehind before.past.attempts after.past.attempts attempt
        → DoomedOrOwed j attempt
    by_link j attempt at owed (inl link) =
        let (fates, at_now, muter) = (goes_on-grows before.past.attempts after.past.attempts on).stays link.place link.was
        link.was_there in
        let same : record link.was { fates = fates } ≡ attempt
        = same_Some (record link.was { fates = fates }) attempt (sym at_now ∙ link.now_there) in
        let among = filter-passed (λ (a : AttemptRecord). object_of a == oid) before.past.attempts j link.was link.at in
        inr (record {
          was = link.was;
          there = link.at;
          work = ap (λ (a : AttemptRecord). a.work) same;
          owed = owed_then link.place link.was fates link.was_there at_now (eqb-true (object_of link.was) oid among.passed)
              (ap (owes_attempt from epoch epoch) same ∙ owed);
          doomed = doomed_later script range start before after began change terms shaped tied link.place link.was attempt link.was_there
              link.now_there;
        })
    by_link j attempt at owed (inr behind) = ⊎_elim
        (λ (old : WasAttempt before behind.place attempt).
        let within = slice_get_within before.past.attempts behind.place old.was old.at in
        let high = behind.behind in
        absurd (omega (arith, within, high)))
        (λ (opened : IsOpened script start after attempt).
        let among = filter-passed (λ (a : AttemptRecord). object_of a == oid) after.past.attempts j attempt at in
        absurd (none_begins_beside script range events start before after is trail change n now there up req work current got
        teller.reads own stage behind.place attempt behind.there (eqb-true (object_of attempt) oid among.passed) opened))
        (come_from script range start began change behind.place attempt behind.there)

    -- so what had what the teller owed has it
    since_stays : (policy : Policy) (index : ℕ) (row : List ℕ)
        → IsSince policy oid before.world.hosts before.past.attempts from index epoch epoch row
        → IsSince policy oid after.world.hosts after.past.attempts from index epoch epoch row
    since_stays policy index row had =
        owed-later (reading_of policy oid) (readings (is_in_strips policy (kind_of oid))) policy (kind_of oid) before.world.hosts
        after.world.hosts (attempts_on oid before.past.attempts) (attempts_on oid after.past.attempts)
        (grows-object oid before.past.attempts after.past.attempts on) from index epoch epoch epoch epoch row had
        (λ j attempt at owed. by_link j attempt at owed (linked oid before.past.attempts after.past.attempts on j attempt at))

    pub since-piece_stays : (policy : Policy) (index offset : ℕ) (bytes : List ℕ)
        → IsPieceSince policy oid before.world.hosts before.past.attempts from index epoch offset bytes
        → IsPieceSince policy oid after.world.hosts after.past.attempts from index epoch offset bytes
    since-piece_stays policy index offset bytes piece =
        record { row = piece.row; size = piece.size; since = since_stays policy index piece.row piece.since; same = piece.same }
