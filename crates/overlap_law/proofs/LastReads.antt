-- An open read of a session comes behind every attempt on its object, since it is on an id that its session may write, or on a snapshot:
-- over each change of a moment, and so in every run in range.
use Rattle.std.proofs.Common.{◌≡◌, ◌⊎◌, inl, inr, ⊎_elim, arith, ℕ, ◌≤◌, ◌<◌, true, false, cond, List, Option, Some, is_some, slice_get}
use Rattle.std.proofs.Common.{sym, ap, subst, ◌∙◌}
use Rattle.std.specs.FinMap as tree
use Rattle.std.proofs.lemmas.Bool.{both_ways}
use Rattle.std.proofs.lemmas.Option.{same_Some}
use Rattle.proof_tools.proofs.FiniteMaps.{get-insert_same}
use Rattle.object_id.specs.declared.entry.Entry.{Entry}
use Rattle.object_id.specs.declared.node.NodeId.{NodeId}
use Rattle.object_id.specs.Oid.{vid_of}
use Rattle.cluster_script.specs.declared.statement.Statement.{Statement}
use Rattle.disk_lock.specs.declared.holder.Holder.{Holder}
use Rattle.epoch_log.specs.Epochs.{epoch_of}
use Rattle.peer_proto.specs.Work.{oid_of}
use Rattle.vdi_directory.specs.Decisions.{log_effects}
use Rattle.gateway.specs.Work.{is_making}
use Rattle.gateway.specs.Attempt as gateways
use Rattle.gateway.specs.State.{Work, Open}
use Rattle.sheep_node.specs.Changes.{attempt_in}
use Rattle.sheep_world.specs.Began.{Began}
use Rattle.sheep_world.specs.NodeCauses.{host_with_node}
use Rattle.sheep_world.specs.World.{Host}
use Rattle.sheep_world.specs.RunsWithAsks.{Move}
use Rattle.overlap_law.specs.Attempts.{AttemptRecord, object_of}
use Rattle.overlap_law.specs.Each.{EachUp, EachAttempt}
use Rattle.overlap_law.specs.Grants.{granted_in, writer_of}
use Rattle.overlap_law.specs.LastReads.{snapped_in, SnapshotsAreClosed, was_snapped, AttemptsAreOfThePast, ReadsAreKnown, ReadsAreApart}
use Rattle.overlap_law.specs.MomentChanges.{MomentChange, MomentTrail, RunsAreInRange, KeptByChanges}
use Rattle.overlap_law.specs.OpenWorks.{PacketsAreOfOpenWorks}
use Rattle.overlap_law.specs.Packets.{Wire, message_name_at, is_name_in_wire, HasPacket}
use Rattle.overlap_law.specs.Past.{MomentWithPast, run_with_past}
use Rattle.overlap_law.specs.Reached.{Hosts}
use Rattle.overlap_law.specs.Sessions.{is_of_client_at, ReadsAreLast}
use Rattle.overlap_law.specs.TiedAttempts.{IsTied}
use Rattle.overlap_law.specs.Writers.{session_holder, bound_of, MayWrite, IsMayWriteOf, IsUnderTheGrant, HasEnded, IsFencedOff}
use Rattle.overlap_law.specs.Writers.{ThereIsOneWriter, AttemptsHaveBegun}
use Rattle.overlap_law.proofs.AwaitedInMoments.{change_awaited, awaited_kept}
use Rattle.overlap_law.proofs.ClientsInMoments.{own_before}
use Rattle.overlap_law.proofs.ClosedSnapshots.{snapped-no_writer, IsOnSnapshot, on_snapshot, keeps_closed}
use Rattle.overlap_law.proofs.EpochsOfAttempts.{change_begun}
use Rattle.overlap_law.proofs.GatewayEpochs.{keeps_past}
use Rattle.overlap_law.proofs.MakersApart.{sessions_apart-after}
use Rattle.overlap_law.proofs.NewAttempts.{WasAttempt, IsOpened, come_from}
use Rattle.overlap_law.proofs.NoRecoveredDue.{began-with_past}
use Rattle.overlap_law.proofs.OpenInSteps.{WasOpenAt, each_was_open}
use Rattle.overlap_law.proofs.ReadInMoments.{HostsAreSound, hosts_after_sound}
use Rattle.overlap_law.proofs.ReadsInMoments.{known_after}
use Rattle.overlap_law.proofs.ReadsApart.{reads_apart}
use Rattle.overlap_law.proofs.RunsByChanges.{on_the_way}
use Rattle.overlap_law.proofs.TiedInRuns.{change_tied}
use Rattle.overlap_law.proofs.TrafficOfChanges.{traffic}
use Rattle.overlap_law.proofs.TrafficOrder.{traffic_fewer}
use Rattle.overlap_law.proofs.TrafficWriters.{keeps_one_writer}
use Rattle.overlap_law.proofs.TurnsInRuns.{opened_writes, turns_taken}
use Rattle.overlap_law.proofs.WorksInMoments.{HaveWellWorks, well_after}
use Rattle.overlap_law.proofs.WritersOfWorks.{works_may-after}

-- an attempt is of no later epoch than this, and of an earlier one while it has packets
pub record IsBehind (wire : Wire) (attempt : AttemptRecord) (epoch : ℕ) : Type 0 where
  pub epochs : attempt.epoch ≤ epoch
  pub flying : (place : ℕ) (target : NodeId) → HasPacket wire attempt place target → attempt.epoch < epoch

-- each attempt on the object of an open read of a session is behind it
abbrev pub OpenReadsAreLast : Hosts → Wire → List AttemptRecord → Type 0
OpenReadsAreLast hosts wire attempts = EachUp hosts (λ n node. (req : ℕ) (work : Work) (current : gateways.Attempt)
    → tree.get node.gateway.works req ≡ Some work → is_making work.work ≡ false → is_of_client_at req node ≡ false
    → work.stage ≡ Open current
    → EachAttempt attempts (λ j attempt. object_of attempt ≡ oid_of work.work → IsBehind wire attempt current.epoch.0))

-- what has nothing in flight
quiet_behind : (wire : Wire) (attempt : AttemptRecord) (bound epoch : ℕ) → HasEnded wire attempt bound → bound ≤ epoch
    → IsBehind wire attempt epoch
quiet_behind wire attempt bound epoch ended most = record {
  epochs = let before = ended.before in omega (arith, before, most);
  flying = λ place target packet.
      absurd (both_ways (is_name_in_wire wire (message_name_at attempt place)) (ended.quiet.none place target packet.among) packet.there);
}

-- what is of a gateway that left
fenced_behind : (log : List Entry) (wire : Wire) (attempt : AttemptRecord) (bound epoch : ℕ) → IsFencedOff log attempt bound → bound ≤ epoch
    → IsBehind wire attempt epoch
fenced_behind log wire attempt bound epoch fenced most =
    let before = fenced.before in
    let later = fenced.granted_later in
    record {
      epochs = omega (arith, before, later, most);
      flying = λ place target packet. omega (arith, before, later, most);
    }

-- ---- an attempt on the object of a read

-- the bound of an id that has a writer
bound_by : (log : List Entry) (vid : ℕ) (writer : Holder) → writer_of (log_effects log) vid ≡ Some writer
    → bound_of log vid ≡ granted_in log vid
bound_by log vid writer is = ap (λ (o : Option Holder). cond (is_some o) (granted_in log vid) (epoch_of log)) is

module _ (moment : MomentWithPast) (one : ThereIsOneWriter moment.world.log moment.world.wire moment.past.attempts)
    (closed : SnapshotsAreClosed moment.world.log moment.world.wire moment.past.attempts)
    (awaited : PacketsAreOfOpenWorks moment.world.hosts moment.world.wire moment.past.attempts)
    (past : AttemptsAreOfThePast moment.world.hosts moment.past.attempts) (apart : ReadsAreApart moment.world.hosts)
    (sound : HostsAreSound moment)
    (n : ℕ) (host : Host) (there : tree.get moment.world.hosts n ≡ Some host) (up : host.is_lost ≡ false) (req : ℕ) (work : Work)
    (got : tree.get host.node.gateway.works req ≡ Some work) (reads : is_making work.work ≡ false)
    (own : is_of_client_at req host.node ≡ false) where
  -- a create or write that is open beside it is on another object
  beside : (other : ℕ) (second : Work) → tree.get host.node.gateway.works other ≡ Some second → is_making second.work ≡ true
      → oid_of second.work ≡ oid_of work.work → ⊥
  beside other second got_too making same =
      apart.each n host there up other req second work
      (record {
        first_one = got_too;
        second_one = got;
        apart = λ (is : other ≡ req).
            let both : second ≡ work = same_Some second work (sym got_too ∙ ap (tree.get host.node.gateway.works) is ∙ got) in
            both_ways (is_making second.work) (ap (λ (w : Work). is_making w.work) both ∙ reads) making;
      }) same making reads own

  module _ (j : ℕ) (attempt : AttemptRecord) (at : slice_get moment.past.attempts j ≡ Some attempt)
      (same : object_of attempt ≡ oid_of work.work) where
    abbrev id : ℕ
    id = vid_of (object_of attempt)

    -- on an id that the session may write
    own_behind : IsMayWriteOf moment.world.log n req work host.node → IsBehind moment.world.wire attempt host.node.peer.epoch
    own_behind m = by_writer (one.each j attempt at)
      where
        may : MayWrite moment.world.log n m.request.session (vid_of (object_of attempt)) host.node
        may = subst (λ (oid : ℕ). MayWrite moment.world.log n m.request.session (vid_of oid) host.node) (sym same) m.may

        most : bound_of moment.world.log (vid_of (object_of attempt)) ≤ host.node.peer.epoch
        most =
            subst (λ (k : ℕ). k ≤ host.node.peer.epoch) (sym (bound_by moment.world.log id (session_holder n m.request.session) may.writer))
            may.read

        by_writer : IsUnderTheGrant moment.world.log attempt (vid_of (object_of attempt))
            ⊎ (HasEnded moment.world.wire attempt (bound_of moment.world.log (vid_of (object_of attempt)))
            ⊎ IsFencedOff moment.world.log attempt (bound_of moment.world.log (vid_of (object_of attempt))))
            → IsBehind moment.world.wire attempt host.node.peer.epoch
        by_writer (inl under) =
            let gateway : attempt.gateway.0 ≡ n
            = ap (λ (h : Holder). h.node.0)
            (same_Some (session_holder attempt.gateway.0 attempt.session) (session_holder n m.request.session)
            (sym under.writer ∙ may.writer)) in
            record {
              epochs = past n host there j attempt at gateway;
              flying = λ place target packet.
                  let a = awaited.each n host there up j attempt at gateway place target packet in
                  absurd (beside attempt.req a.work a.opened.there a.opened.making (ap oid_of (sym a.opened.same.work) ∙ same));
            }
        by_writer (inr (inl ended)) = quiet_behind moment.world.wire attempt (bound_of moment.world.log id) host.node.peer.epoch ended most
        by_writer (inr (inr fenced)) =
            fenced_behind moment.world.log moment.world.wire attempt (bound_of moment.world.log id) host.node.peer.epoch fenced most

    -- on a snapshot
    snapshot_behind : was_snapped host.node.peer.entries (vid_of (oid_of work.work)) ≡ true
        → IsBehind moment.world.wire attempt host.node.peer.epoch
    snapshot_behind snapped =
        let here : IsOnSnapshot moment.world.log id host.node.peer.epoch
        = on_snapshot moment.world.log n host.node.me host.node.peer (sound.each n host there).read id
        (ap (λ (oid : ℕ). was_snapped host.node.peer.entries (vid_of oid)) same ∙ snapped) in
        ⊎_elim
        (λ (ended : HasEnded moment.world.wire attempt (snapped_in moment.world.log id)).
        quiet_behind moment.world.wire attempt (snapped_in moment.world.log id) host.node.peer.epoch ended here.read)
        (λ (fenced : IsFencedOff moment.world.log attempt (snapped_in moment.world.log id)).
        fenced_behind moment.world.log moment.world.wire attempt (snapped_in moment.world.log id) host.node.peer.epoch fenced here.read)
        (closed.each j attempt at here.snapped)

    -- it is behind the node's epoch
    now_behind : IsMayWriteOf moment.world.log n req work host.node
        ⊎ (was_snapped host.node.peer.entries (vid_of (oid_of work.work)) ≡ true)
        → IsBehind moment.world.wire attempt host.node.peer.epoch
    now_behind known = ⊎_elim own_behind snapshot_behind known

-- ---- each change

module _ (script : List Statement) (range : RunsAreInRange script) (start : MomentWithPast) (began : Began script start.world)
    {before after : MomentWithPast} (change : MomentChange script start before after) (tied : IsTied before)
    (one : ThereIsOneWriter after.world.log after.world.wire after.past.attempts)
    (closed : SnapshotsAreClosed after.world.log after.world.wire after.past.attempts)
    (awaited : PacketsAreOfOpenWorks after.world.hosts after.world.wire after.past.attempts)
    (past : AttemptsAreOfThePast after.world.hosts after.past.attempts) (apart : ReadsAreApart after.world.hosts)
    (known : ReadsAreKnown after.world.log after.world.hosts) (well : HaveWellWorks after.world.hosts)
    (last : OpenReadsAreLast before.world.hosts before.world.wire before.past.attempts) where
  module _ (n : ℕ) (host : Host) (there : tree.get after.world.hosts n ≡ Some host) (up : host.is_lost ≡ false) (req : ℕ) (work : Work)
      (current : gateways.Attempt) (got : tree.get host.node.gateway.works req ≡ Some work) (reads : is_making work.work ≡ false)
      (own : is_of_client_at req host.node ≡ false) (stage : work.stage ≡ Open current) (j : ℕ) (attempt : AttemptRecord)
      (at : slice_get after.past.attempts j ≡ Some attempt) (same : object_of attempt ≡ oid_of work.work) where
    sound : HostsAreSound after
    sound = hosts_after_sound script range start began change

    -- the read was open: what began before is behind it still
    was_behind : WasOpenAt before n req work current → WasAttempt before j attempt → IsBehind after.world.wire attempt current.epoch.0
    was_behind v w =
        let behind = last n v.old v.there v.up req v.opened.was v.opened.before v.opened.there (ap is_making (sym v.opened.work_so) ∙ reads)
        (own_before script range start began change n host v.old there v.there req work got own) v.opened.stage
        j w.was w.at (ap object_of w.same ∙ same ∙ ap oid_of v.opened.work_so) in
        let epoch : current.epoch.0 ≡ v.opened.before.epoch.0 = ap (λ e. e.0) v.opened.epoch_so in
        let of : w.was.epoch ≡ attempt.epoch = ap (λ (a : AttemptRecord). a.epoch) w.same in
        record {
          epochs = let before_it = behind.epochs in omega (arith, before_it, epoch, of);
          flying = λ place target packet.
              let target_then : slice_get w.was.targets place ≡ Some target = ap (λ (a : AttemptRecord). slice_get a.targets place) w.same
              ∙ packet.among in
              let in_wire : is_name_in_wire after.world.wire (message_name_at w.was place) ≡ true
              = ap (λ (a : AttemptRecord). is_name_in_wire after.world.wire (message_name_at a place)) w.same ∙ packet.there in
              let flies = behind.flying place target (record {
                among = target_then;
                there = traffic_fewer before.world.hosts after.world.hosts before.world.wire before.past.attempts tied.incarnations
                    (traffic script range start began change) j w.was w.at place target target_then in_wire;
              }) in
              omega (arith, flies, epoch, of);
        }

    -- and none begins on its object
    pub none_begins : IsOpened script start after attempt → ⊥
    none_begins o = ⊎_elim own_id snapshot (known.each n host there up req work got reads own)
      where
        under : IsUnderTheGrant after.world.log attempt (vid_of (object_of attempt))
        under = opened_writes script range start began change attempt o

        snapshot : was_snapped host.node.peer.entries (vid_of (oid_of work.work)) ≡ true → ⊥
        snapshot snapped =
            let on = on_snapshot after.world.log n host.node.me host.node.peer (sound.each n host there).read (vid_of (oid_of work.work))
            snapped in
            snapped-no_writer after.world.log (vid_of (oid_of work.work)) (session_holder attempt.gateway.0 attempt.session) on.snapped
            (ap (λ (oid : ℕ). writer_of (log_effects after.world.log) (vid_of oid)) (sym same) ∙ under.writer)

        own_id : IsMayWriteOf after.world.log n req work host.node → ⊥
        own_id m =
            let then = host_with_node o.stepping.host o.next.node in
            let here : tree.get after.world.hosts o.stepping.n ≡ Some then
            = ap (λ (m : MomentWithPast). tree.get m.world.hosts o.stepping.n) o.moment_so
            ∙ get-insert_same start.world.hosts o.stepping.n then in
            let gateway : attempt.gateway.0 ≡ n
            = ap (λ (h : Holder). h.node.0)
            (same_Some (session_holder attempt.gateway.0 attempt.session) (session_holder n m.request.session)
            (sym under.writer ∙ ap (λ (oid : ℕ). writer_of (log_effects after.world.log) (vid_of oid)) same ∙ m.may.writer)) in
            let number : attempt.gateway.0 ≡ o.stepping.n
            = ap (λ (a : AttemptRecord). a.gateway.0) (sym o.opened) ∙ ap (λ m. m.0) (sym o.me_so)
            ∙ (sound.each o.stepping.n then here).read.own in
            let at_host : then ≡ host
            = same_Some then host (sym here ∙ ap (tree.get after.world.hosts) (sym number ∙ gateway) ∙ there) in
            let opened : tree.get host.node.gateway.works o.req ≡ Some (record o.asked { stage = Open (attempt_in o.asked o.lined.node) })
            = ap (λ (h : Host). tree.get h.node.gateway.works o.req) (sym at_host) ∙ o.at_gateway in
            beside after one closed awaited past apart sound n host there up req work got reads own o.req
            (record o.asked { stage = Open (attempt_in o.asked o.lined.node) }) opened o.making
            (ap (λ (a : AttemptRecord). object_of a) o.opened ∙ same)

    behind_then : IsBehind after.world.wire attempt current.epoch.0
    behind_then = ⊎_elim
        (λ (v : WasOpenAt before n req work current). ⊎_elim
        (λ (w : WasAttempt before j attempt). was_behind v w)
        (λ (o : IsOpened script start after attempt). absurd (none_begins o))
        (come_from script range start began change j attempt at))
        (λ (new : current.epoch.0 ≡ host.node.peer.epoch).
        subst (IsBehind after.world.wire attempt) (sym new)
        (now_behind after one closed awaited past apart sound n host there up req work got reads own j attempt at same
        (known.each n host there up req work got reads own)))
        (each_was_open script range start began change n host req work current there up got stage)

  pub keeps_last : OpenReadsAreLast after.world.hosts after.world.wire after.past.attempts
  keeps_last n host there up req work current got reads own stage j attempt at same =
      behind_then n host there up req work current got reads own stage j attempt at same

-- ---- every run

pub record HasLastReads (moment : MomentWithPast) : Type 0 where
  pub tied : IsTied moment
  pub awaited : PacketsAreOfOpenWorks moment.world.hosts moment.world.wire moment.past.attempts
  pub begun : AttemptsHaveBegun moment.world.log moment.past.attempts
  pub one : ThereIsOneWriter moment.world.log moment.world.wire moment.past.attempts
  pub closed : SnapshotsAreClosed moment.world.log moment.world.wire moment.past.attempts
  pub past : AttemptsAreOfThePast moment.world.hosts moment.past.attempts

module _ (script : List Statement) (range : RunsAreInRange script) where
  keeps_rest : (start before after : MomentWithPast) → Began script start.world → MomentChange script start before after
      → HasLastReads before
      → HasLastReads after
  keeps_rest start before after began change has =
      let turns = turns_taken script range start began change has.tied has.awaited in
      record {
        tied = change_tied script range start before after began change has.tied;
        awaited = change_awaited script range start before after began change has.tied has.awaited;
        begun = change_begun script range start began change has.begun;
        one = keeps_one_writer script range start before after began change has.tied has.begun turns has.one;
        closed = keeps_closed script range start began change has.tied has.begun turns has.one has.closed;
        past = keeps_past script range start began change has.tied has.past;
      }

  kept_rest : KeptByChanges script HasLastReads
  kept_rest = record {
    opens = record {
      tied = (awaited_kept script range).opens.0;
      awaited = (awaited_kept script range).opens.1;
      begun = λ j attempt got. absurd (cc (got));
      one = record { each = λ j attempt got. absurd (cc (got)) };
      closed = record { each = λ j attempt got. absurd (cc (got)) };
      past = λ n host there j attempt got. absurd (cc (got));
    };
    keeps = keeps_rest;
  }

  pub closed-in_run : (events : List Move) (start moment : MomentWithPast) → run_with_past script events ≡ Some start
      → MomentTrail script start moment → SnapshotsAreClosed moment.world.log moment.world.wire moment.past.attempts
  closed-in_run events start moment is trail = (on_the_way script HasLastReads kept_rest events start moment is trail).closed

  pub past-in_run : (events : List Move) (start moment : MomentWithPast) → run_with_past script events ≡ Some start
      → MomentTrail script start moment → AttemptsAreOfThePast moment.world.hosts moment.past.attempts
  past-in_run events start moment is trail = (on_the_way script HasLastReads kept_rest events start moment is trail).past

  known : (start before after : MomentWithPast) → Began script start.world → MomentChange script start before after
      → ReadsAreKnown after.world.log after.world.hosts
  known start before after began change = known_after script range start began change

  apart : (start before after : MomentWithPast) → Began script start.world → MomentChange script start before after
      → ReadsAreApart after.world.hosts
  apart start before after began change =
      reads_apart after (hosts_after_sound script range start began change) (works_may-after script range start began change)
      (sessions_apart-after script range start began change) (known start before after began change)

  abbrev HasAll : MomentWithPast → Type 0
  HasAll moment = HasLastReads moment × OpenReadsAreLast moment.world.hosts moment.world.wire moment.past.attempts

  kept_last : KeptByChanges script HasAll
  kept_last = record {
    opens = (kept_rest.opens, λ n host there up req work current got reads own stage j attempt at. absurd (cc (at)));
    keeps = λ start before after began change has.
        let rest = keeps_rest start before after began change has.0 in (
          rest,
          keeps_last script range start began change has.0.tied rest.one rest.closed rest.awaited rest.past
              (apart start before after began change)
              (known start before after began change) (well_after script range start began change) has.1,
        );
  }

  pub last_reads-in_run : (events : List Move) (start moment : MomentWithPast) → run_with_past script events ≡ Some start
      → MomentTrail script start moment → ReadsAreLast moment.world.hosts moment.world.wire moment.past.attempts
  last_reads-in_run events start moment is trail =
      let last = (on_the_way script HasAll kept_last events start moment is trail).1 in
      record {
        epochs = λ n host there up req work current got reads own stage j attempt at same.
            (last n host there up req work current got reads own stage j attempt at same).epochs;
        flying = λ n host there up req work current got reads own stage j attempt at same place target packet.
            (last n host there up req work current got reads own stage j attempt at same).flying place target packet;
      }

  pub open_reads-in_run : (events : List Move) (start moment : MomentWithPast) → run_with_past script events ≡ Some start
      → MomentTrail script start moment → OpenReadsAreLast moment.world.hosts moment.world.wire moment.past.attempts
  open_reads-in_run events start moment is trail = (on_the_way script HasAll kept_last events start moment is trail).1

  -- no attempt begins on the object of an open read
  pub none_begins_beside : (events : List Move) (start before after : MomentWithPast) → run_with_past script events ≡ Some start
      → MomentTrail script start before → MomentChange script start before after → (n : ℕ) (host : Host)
      → tree.get after.world.hosts n ≡ Some host → host.is_lost ≡ false → (req : ℕ) (work : Work) (current : gateways.Attempt)
      → tree.get host.node.gateway.works req ≡ Some work → is_making work.work ≡ false → is_of_client_at req host.node ≡ false
      → work.stage ≡ Open current
      → (j : ℕ) (attempt : AttemptRecord) → slice_get after.past.attempts j ≡ Some attempt → object_of attempt ≡ oid_of work.work
      → IsOpened script start after attempt → ⊥
  none_begins_beside events start before after is trail change n host there up req work current got reads own stage j attempt at =
      λ same opened.
      let began : Began script start.world = began-with_past script events start is in
      let has = on_the_way script HasAll kept_last events start before is trail in
      let rest = keeps_rest start before after began change has.0 in
      none_begins script range start began change has.0.tied rest.one rest.closed rest.awaited rest.past
      (apart start before after began change)
      (known start before after began change) (well_after script range start began change) has.1 n host there up req work current got reads
      own stage j attempt at same opened
