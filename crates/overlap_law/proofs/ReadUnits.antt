-- In each run in range, where a session's read of whole copies ends in the middle of a step, each unit inside what it read is one that the
-- object may come to have, if the object was good as the event began, and was created.
use Rattle.std.proofs.Common.{◌≡◌, arith, ℕ, ◌+◌, ◌-◌, ◌≤◌, ◌<◌, ◌==◌, Bool, true, false, List, length, Some, Option}
use Rattle.std.proofs.Common.{option_map, sym, ap, subst, ◌∙◌}
use Rattle.std.specs.FinMap as tree
use Rattle.std.proofs.lemmas.Bool.{le-leb, eqb-true}
use Rattle.proof_tools.proofs.FiniteMaps.{get-insert_same}
use Rattle.object_id.specs.declared.entry.Entry.{Entry}
use Rattle.object_id.specs.declared.entry.VdiSpec.{VdiSpec}
use Rattle.object_id.specs.declared.node.NodeId.{NodeId}
use Rattle.object_id.specs.declared.policy.Policy.{Policy}
use Rattle.object_id.specs.Oid.{kind_of, vid_of}
use Rattle.object_store.specs.Bytes.{piece_at}
use Rattle.gf256.specs.Part.{is_in_strips}
use Rattle.cluster_script.specs.declared.statement.Statement.{Statement}
use Rattle.vdi_directory.specs.Decisions.{log_effects}
use Rattle.peer_proto.specs.declared.say.PeerRsp.{PeerRsp}
use Rattle.peer_proto.specs.declared.say.PeerSay.TheVariants as says
use Rattle.peer_proto.specs.declared.work.ObjWork.{ObjWork}
use Rattle.peer_proto.specs.declared.work.ObjWork.TheVariants as works
use Rattle.peer_proto.specs.Work.{oid_of, policy_of}
use Rattle.peer_service.specs.State.{object_size}
use Rattle.message_wire.specs.Message.{message_name}
use Rattle.gateway.specs.declared.message.Message.{Message}
use Rattle.gateway.specs.declared.message.Status.{Status}
use Rattle.gateway.specs.declared.message.Status.TheVariants as statuses
use Rattle.gateway.specs.Attempt as gateways
use Rattle.gateway.specs.State.{Work}
use Rattle.gateway.specs.Work.{asks_all, bytes_of_work}
use Rattle.sheep_node.specs.declared.course.Course.{Course}
use Rattle.sheep_node.specs.declared.input.Input.{Input}
use Rattle.sheep_node.specs.Changes.{IsTold, EndsWork}
use Rattle.sheep_node.specs.State.{Node}
use Rattle.sheep_node.specs.StepState.{StepState}
use Rattle.sheep_world.specs.World.{Host}
use Rattle.sheep_world.specs.NodeCauses.{NodeCause, GuestAsks, RequestComes, ReplyComes, LossIsTold, EntryIsRead, EntryIsPut}
use Rattle.sheep_world.specs.NodeCauses.{RecoveryTicks, WorkIsRetried, ClientAsks, input_of_cause, host_with_node}
use Rattle.sheep_world.specs.RunsWithAsks.{Move}
use Rattle.overlap_law.specs.Attempts.{AttemptRecord, object_of, attempts_on}
use Rattle.overlap_law.specs.BornObjects.{IsBorn}
use Rattle.overlap_law.specs.Each.{policy_in, spec_in}
use Rattle.overlap_law.specs.Fates.{IsCreated, IsWhole}
use Rattle.overlap_law.specs.Holders.{is_create_work}
use Rattle.overlap_law.specs.InodesRead.{IsUnitToCome}
use Rattle.overlap_law.specs.MomentChanges.{MomentTrail, RunsAreInRange, Still, Then}
use Rattle.overlap_law.specs.Packets.{IsAnswering}
use Rattle.overlap_law.specs.Past.{MomentWithPast, run_with_past}
use Rattle.overlap_law.specs.StepMoments.{SteppingNode, IsStepping, StepsByChanges, LeadsInStep, first_in_step, moment_in_step}
use Rattle.overlap_law.specs.ToldPieces.{IsUnansweredOf, offset_read, IsPieceOfAttempts, ToldPiecesAreSince}
use Rattle.overlap_law.specs.Units.{unit_start, unit_size, unit_end, covers_by, covers_unit}
use Rattle.overlap_law.proofs.BornFirst.{of_the_born}
use Rattle.overlap_law.proofs.DoneReads.{AwaitedAt, awaited_by, unanswered_by, gave_by}
use Rattle.overlap_law.proofs.DoneWorks.{bytes_long}
use Rattle.overlap_law.proofs.FilteredOrder.{stands_among_all}
use Rattle.overlap_law.proofs.GrantedEpochs.{spec_stays}
use Rattle.overlap_law.proofs.HeardUnits.{piece_is_to_come}
use Rattle.overlap_law.proofs.KnownDiskSteps.{effects_after}
use Rattle.overlap_law.proofs.LogsInMoments.{LogGrows, log_grows}
use Rattle.overlap_law.proofs.OpeningReads.{step_known, here_up, knows_well, knows_tables, told_reply, awaited_at_first}
use Rattle.overlap_law.proofs.MakingInRuns.{creates_first-in_run}
use Rattle.overlap_law.proofs.ReadWorks.{IsReadOn}
use Rattle.overlap_law.proofs.TellersOfPieces.{TellersAreTargets, tellers-on_the_way}
use Rattle.overlap_law.proofs.ToldPieces.{told_pieces-on_the_way}
use Rattle.overlap_law.proofs.WholeInRuns.{whole-on_the_way}
use Rattle.overlap_law.proofs.WholeNodes.{IsWholeWork}
use Rattle.overlap_law.specs.RequestsOfScript.{is_of_client}
use Rattle.overlap_law.specs.Sessions.{is_of_client_at}
use Rattle.sheep_node.specs.declared.course.Request.{Request}
use Rattle.std.specs.Option.{option_map_or}

-- what the disk of an id was made with stays so along a trail
pub spec_along : (script : List Statement) {start moment : MomentWithPast} → MomentTrail script start moment → (vid : ℕ) (spec : VdiSpec)
    → spec_in (log_effects start.world.log) vid ≡ Some spec → spec_in (log_effects moment.world.log) vid ≡ Some spec
spec_along script Still vid spec known = known
spec_along script (Then {moment} {next} trail change) vid spec known =
    let grows : LogGrows moment.world.log next.world.log = log_grows script change in
    ap (λ (log : List Entry). spec_in (log_effects log) vid) grows.is
    ∙ spec_stays moment.world.log grows.rest vid spec (spec_along script trail vid spec known)

-- a create covers each unit inside its object
pub created_covers : (unit size : ℕ) (work : ObjWork) → is_create_work work ≡ true → IsWhole size work
    → unit_end (kind_of (oid_of work)) unit ≤ size → covers_by unit work ≡ true
created_covers unit size (works.Create oid policy long offset bytes) creating whole within =
    let same = whole.0 in
    le-leb (unit_end (kind_of oid) unit) long (omega (arith, same, within))
created_covers unit size (works.Write oid policy offset bytes) creating whole within = absurd (cc (creating))
created_covers unit size (works.Read oid policy offset long) creating whole within = absurd (cc (creating))
created_covers unit size (works.ReadAll oid policy long) creating whole within = absurd (cc (creating))

module _ (script : List Statement) (range : RunsAreInRange script) (events : List Move) (start : MomentWithPast)
    (ran : run_with_past script events ≡ Some start) (stepping : SteppingNode) (is : IsStepping script start.world stepping)
    (by : StepsByChanges stepping.cause) (so_far : StepState) (leads : LeadsInStep stepping (first_in_step stepping) so_far)
    (trail : MomentTrail script start (moment_in_step script stepping start so_far)) (good : ℕ → Bool)
    (told : ToldPiecesAreSince (log_effects start.world.log) good start.world.hosts start.world.wire start.past.attempts) where
  abbrev here : MomentWithPast
  here = moment_in_step script stepping start so_far

  abbrev was : Host
  was = host_with_node stepping.host so_far.node

  abbrev input : Input
  input = input_of_cause stepping.cause

  abbrev node : Node
  node = stepping.host.node

  -- what a node that is told a piece knows of a disk, the log says as the step begins
  known_at_start : (cause : NodeCause) (number : ℕ) (bytes : List ℕ) → IsTold (input_of_cause cause) number (statuses.Succeeded bytes)
      → (vid : ℕ) (spec : VdiSpec) → spec_in (effects_after (input_of_cause cause) stepping.host.node) vid ≡ Some spec
      → spec_in (log_effects start.world.log) vid ≡ Some spec
  known_at_start (GuestAsks session req ask) number bytes told vid spec known = absurd told
  known_at_start (RequestComes name to request) number bytes told vid spec known = absurd told
  known_at_start (ReplyComes name from rsp) number bytes told vid spec known =
      let front = ((tellers-on_the_way script range events start start ran Still).rows.sound.each stepping.n stepping.host
      is.there).read.front in
      ap (λ (log : List Entry). spec_in (log_effects log) vid) front.is
      ∙ spec_stays stepping.host.node.peer.entries front.rest vid spec known
  known_at_start (LossIsTold name packet) number bytes told vid spec known = let lost = told.1 in absurd (cc (lost))
  known_at_start (EntryIsRead entry) number bytes told vid spec known = absurd told
  known_at_start (EntryIsPut entry) number bytes told vid spec known = absurd told
  known_at_start RecoveryTicks number bytes told vid spec known = absurd told
  known_at_start WorkIsRetried number bytes told vid spec known = absurd told
  known_at_start (ClientAsks req ask) number bytes told vid spec known = absurd told

  tellers : TellersAreTargets here
  tellers = tellers-on_the_way script range events start here ran trail

  seat : tree.get here.world.hosts stepping.n ≡ Some was
  seat = get-insert_same start.world.hosts stepping.n was

  up : stepping.host.is_lost ≡ false
  up = here_up script range events start ran stepping is by so_far leads trail

  module _ (session req number : ℕ) (work : Work) (attempt : gateways.Attempt) (status : Status) (course : Course) (bytes : List ℕ)
      (ends : EndsWork input node so_far session req number work attempt status course bytes) (oid : ℕ) (policy : Policy)
      (offset size : ℕ)
      (is_read : work.work ≡ works.Read oid policy offset size) (whole : is_in_strips policy (kind_of oid) ≡ false) where
    pub read_size : length bytes ≡ size
    read_size =
        let well = knows_well script range events start ran stepping is by so_far leads trail in
        bytes_long (step_known script range events start ran stepping is by so_far leads trail).sound so_far session req number work
        attempt status course bytes ends well.waits (well.sound.open_works req work ends.ends.learns.there)
        ∙ ap bytes_of_work is_read

    -- the message of which it is told
    abbrev awaited : AwaitedAt number attempt.messages
    awaited = awaited_by ends

    unanswered : IsUnansweredOf so_far.node.gateway.works req work attempt (awaited_by ends).0 (awaited_by ends).1
    unanswered = unanswered_by ends

    -- is the only one, and gave the bytes
    gave : status ≡ statuses.Succeeded bytes
    gave =
        gave_by ends oid policy offset size is_read whole
        (tellers.reads.few stepping.n was seat up req awaited.0 work attempt awaited.1 unanswered
        (ap (λ (w : ObjWork). asks_all w) is_read ∙ whole))

    told_now : IsTold input number (statuses.Succeeded bytes)
    told_now = subst (IsTold input number) gave ends.ends.learns.told

    -- the disk that is read of is one that the log says
    read_on : IsReadOn (effects_after input node) (works.Read oid policy offset size)
    read_on =
        (subst (IsWholeWork (effects_after input node)) is_read
        ((knows_tables script range events start ran stepping is by so_far leads trail).open_works req work ends.ends.learns.there)).2

    known : spec_in (log_effects start.world.log) (vid_of oid) ≡ Some read_on.spec
    known = known_at_start stepping.cause number bytes told_now (vid_of oid) read_on.spec read_on.made

    abbrev PolicyIn : ObjWork → Type 0
    PolicyIn w = policy_in (log_effects start.world.log) (oid_of w) ≡ Some (policy_of w)

    policy_known : policy_in (log_effects start.world.log) (oid_of work.work) ≡ Some (policy_of work.work)
    policy_known =
        subst PolicyIn (sym is_read)
        (ap (option_map (λ (s : VdiSpec). s.policy)) known ∙ ap (λ (p : Policy). Some p) (sym read_on.policy_so))

    -- an attempt on the object was there as the step began, so a create of it was
    module _ (unit : ℕ) (above : offset ≤ unit_start (kind_of oid) unit) (below : unit_end (kind_of oid) unit ≤ offset + size)
        (some : 1 ≤ size) where
      abbrev IsOf : ObjWork → ℕ → Type 0
      IsOf w part = IsPieceOfAttempts (kind_of (oid_of w)) (attempts_on (oid_of w) start.past.attempts) part (offset_read w) bytes

      of_attempts : (part : ℕ) × IsPieceOfAttempts (kind_of oid) (attempts_on oid start.past.attempts) part offset bytes
      of_attempts =
          let m : Message = awaited.1 in
          let low = (step_known script range events start ran stepping is by so_far leads trail).given number (statuses.Succeeded bytes)
          told_now in
          let long = read_size in
          let same = awaited.3 in
          let (from, rsp, answering, said) = told_reply script range events start ran stepping is by so_far leads trail stepping.cause
          is.caused number bytes (omega (arith, long, some)) told_now in
          let old = awaited_at_first script range events start ran stepping is by so_far leads trail req awaited.0 work attempt m unanswered
          (omega (arith, low, same)) in
          let numbered : number ≡ old.message.number = sym same ∙ sym old.number_so in
          let piece : IsOf old.first.work old.message.index
          = (told_pieces-on_the_way script range events start start ran Still).each stepping.n stepping.host is.there up req old.place
          old.first old.current old.message from rsp bytes old.of
          (subst (λ (k : ℕ). IsAnswering start.world.wire (message_name stepping.n k) from rsp) numbered answering) said
          (subst PolicyIn old.work_so policy_known)
          (ap (λ (w : ObjWork). is_in_strips (policy_of w) (kind_of (oid_of w))) (sym old.work_so ∙ is_read) ∙ whole) in (
            old.message.index,
            subst (λ (w : ObjWork). IsOf w old.message.index) (sym old.work_so ∙ is_read) piece,
          )

      pub read_born : IsBorn start.past.attempts oid
      read_born =
          let long = read_size in
          let (part, of) = of_attempts in
          let (j, one, at, has) = of.each unit above (omega (arith, below, long)) in
          let among = stands_among_all (λ (a : AttemptRecord). object_of a == oid) start.past.attempts j one at in
          subst (IsBorn start.past.attempts) (eqb-true (object_of one) oid among.passed)
          (of_the_born start.past.attempts (creates_first-in_run script range events start start ran Still) among.place one among.there)

    -- a unit of it
    module _ (own : is_of_client course ≡ false) (is_good : good oid ≡ true) (epoch unit : ℕ)
        (created : IsCreated here.past.attempts oid epoch)
        (above : offset ≤ unit_start (kind_of oid) unit) (below : unit_end (kind_of oid) unit ≤ offset + size) (some : 1 ≤ size) where
      covers : covers_unit unit created.create ≡ true
      covers =
          let inside = read_on.inside in
          created_covers unit (object_size read_on.spec (kind_of (object_of created.create))) created.create.work created.creating
          ((whole-on_the_way script range events start here ran trail).each created.place created.create created.there read_on.spec
          (ap (λ (o : ℕ). spec_in (log_effects here.world.log) (vid_of o)) created.object
          ∙ spec_along script trail (vid_of oid) read_on.spec known))
          (subst (λ (o : ℕ). unit_end (kind_of o) unit ≤ object_size read_on.spec (kind_of o)) (sym created.object)
          (omega (arith, inside, below)))

      abbrev IsHere : ObjWork → Type 0
      IsHere w = IsUnitToCome here.world.hosts here.past.attempts (oid_of w) attempt.epoch.0 unit
          (piece_at bytes (unit_start (kind_of (oid_of w)) unit - offset_read w) (unit_size (kind_of (oid_of w)) unit))

      abbrev IsAbove : ObjWork → Type 0
      IsAbove w = offset_read w ≤ unit_start (kind_of (oid_of w)) unit

      abbrev IsBelow : ObjWork → Type 0
      IsBelow w = unit_end (kind_of (oid_of w)) unit ≤ offset_read w + length bytes

      no_client : is_of_client_at req was.node ≡ false
      no_client =
          ap (λ (o : Option Request). option_map_or (λ (request : Request). is_of_client request.course) o false) ends.ends.request ∙ own

      by_reply : number < node.sends → (from : NodeId) (rsp : PeerRsp)
          → IsAnswering start.world.wire (message_name stepping.n number) from rsp → rsp.say ≡ says.Piece bytes → IsHere work.work
      by_reply low from rsp answering said =
          piece_is_to_come script range events start here ran trail stepping.n was seat up req awaited.0 work attempt awaited.1
          unanswered no_client good told stepping.host is.there (subst (λ (k : ℕ). k < node.sends) (sym awaited.3) low) from rsp bytes
          (subst (λ (k : ℕ). IsAnswering start.world.wire (message_name stepping.n k) from rsp) (sym awaited.3) answering) said
          (ap (λ (w : ObjWork). good (oid_of w)) is_read ∙ is_good) policy_known
          (ap (λ (w : ObjWork). is_in_strips (policy_of w) (kind_of (oid_of w))) is_read ∙ whole) unit
          (subst IsAbove (sym is_read) above)
          (subst IsBelow (sym is_read) (let long = read_size in omega (arith, long, below)))
          created.place created.create created.there (created.object ∙ ap (λ (w : ObjWork). oid_of w) (sym is_read)) covers created.made

      pub read_unit : IsUnitToCome here.world.hosts here.past.attempts oid so_far.node.peer.epoch unit
          (piece_at bytes (unit_start (kind_of oid) unit - offset) (unit_size (kind_of oid) unit))
      read_unit =
          let low = (step_known script range events start ran stepping is by so_far leads trail).given number (statuses.Succeeded bytes)
          told_now in
          let long = read_size in
          let (from, rsp, answering, said) = told_reply script range events start ran stepping is by so_far leads trail stepping.cause
          is.caused number bytes (omega (arith, long, some)) told_now in
          let found : IsHere (works.Read oid policy offset size) = subst IsHere is_read (by_reply low from rsp answering said) in
          let past = tellers.reads.past stepping.n was seat up req awaited.0 work attempt awaited.1 unanswered in
          let within = found.within in
          record {
            place = found.place;
            one = found.one;
            to_come = found.to_come;
            served = found.served;
            within = omega (arith, past, within);
            same = found.same;
            behind = found.behind;
          }
