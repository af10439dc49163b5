-- In each run in range, where an opening has read an inode in the middle of a step, what it read names as the disk's own objects that were
-- created: each of its entries is that of an attempt on the inode, of no later epoch than the read's.
use Rattle.std.proofs.Common.{◌≡◌, ⊎_elim, arith, ℕ, ◌+◌, ◌*◌, ◌-◌, ◌≤◌, ◌<◌, ◌==◌, Bool, true, false}
use Rattle.std.proofs.Common.{List, length, slice_get, Option, Some, refl, sym, ap, subst, ◌∙◌}
use Rattle.std.specs.FinMap as tree
use Rattle.std.specs.List.{list_any}
use Rattle.std.specs.Option.{option_map_or}
use Rattle.std.proofs.lemmas.Bool.{eqb-true}
use Rattle.proof_tools.proofs.FiniteMaps.{get-insert_same}
use Rattle.object_id.specs.declared.entry.VdiSpec.{VdiSpec}
use Rattle.object_id.specs.declared.limits.TheConstants.{OBJECTS_MAX}
use Rattle.object_id.specs.declared.node.NodeId.{NodeId}
use Rattle.object_id.specs.declared.oid.Kind.{Kind}
use Rattle.object_id.specs.declared.oid.Kind.TheVariants.{Inode}
use Rattle.object_id.specs.declared.oid.Vid.{Vid}
use Rattle.object_id.specs.Fields.{u32_at}
use Rattle.object_id.specs.Oid.{IsVid, kind_of, inode_number, object_number}
use Rattle.object_id.specs.Spec.{objects_of}
use Rattle.object_store.specs.Bytes.{piece_at}
use Rattle.inode.specs.declared.layout.TheConstants.{INODE_HEADER_BYTES}
use Rattle.gf256.specs.Part.{is_in_strips}
use Rattle.cluster_script.specs.declared.statement.Statement.{Statement}
use Rattle.vdi_directory.specs.declared.effect.Effect.{Effect}
use Rattle.vdi_directory.specs.declared.header.Header.{Header}
use Rattle.vdi_directory.specs.Dead.{is_dead}
use Rattle.vdi_directory.specs.Decisions.{log_effects}
use Rattle.peer_proto.specs.declared.say.PeerRsp.{PeerRsp}
use Rattle.peer_proto.specs.declared.say.PeerSay.TheVariants as says
use Rattle.peer_proto.specs.declared.work.ObjWork.{ObjWork}
use Rattle.peer_proto.specs.Work.{oid_of, policy_of}
use Rattle.message_wire.specs.declared.packet.Packet.TheVariants.{Reply}
use Rattle.message_wire.specs.Message.{message_name}
use Rattle.gateway.specs.declared.message.Message.{Message}
use Rattle.gateway.specs.declared.message.Status.{Status}
use Rattle.gateway.specs.declared.message.Status.TheVariants as statuses
use Rattle.gateway.specs.Attempt as gateways
use Rattle.gateway.specs.Attempt.{is_awaited_message}
use Rattle.gateway.specs.State.{Work, WorkStage, open_messages, is_awaited_in}
use Rattle.gateway.specs.Work.{asks_all, is_making, bytes_of_work}
use Rattle.vdi_ops.specs.declared.act.OpAct.{OpAct}
use Rattle.vdi_ops.specs.declared.act.OpAct.TheVariants as op_acts
use Rattle.vdi_ops.specs.InodeWorks.{read_inode, written_bytes}
use Rattle.vdi_ops.specs.Kept.{IsInodeHeader}
use Rattle.vdi_ops.specs.Op.{Opening, Working, Op, OpStage, IsAwaitedAtOpStage}
use Rattle.vdi_ops.proofs.TableLemmas.{objects_most}
use Rattle.sheep_node.specs.declared.course.Course.{Course}
use Rattle.sheep_node.specs.declared.course.Course.TheVariants.{Commanding}
use Rattle.sheep_node.specs.declared.course.Request.{Request}
use Rattle.sheep_node.specs.declared.input.Input.{Input}
use Rattle.sheep_node.specs.declared.input.Input.TheVariants as inputs
use Rattle.object_id.specs.declared.entry.Entry.{Entry}
use Rattle.peer_service.specs.State.{effects_of}
use Rattle.sheep_node.specs.Changes.{IsTold, EndsWork}
use Rattle.sheep_node.specs.SoundWorks.{IsSoundStage}
use Rattle.sheep_node.specs.State.{Node}
use Rattle.sheep_node.specs.StepState.{StepState}
use Rattle.sheep_world.specs.World.{Host}
use Rattle.sheep_world.specs.Began.{Began}
use Rattle.sheep_world.specs.NodeCauses.{NodeCause, GuestAsks, RequestComes, ReplyComes, LossIsTold, EntryIsRead, EntryIsPut}
use Rattle.sheep_world.specs.NodeCauses.{RecoveryTicks, WorkIsRetried, ClientAsks, input_of_cause, IsCause, host_with_node}
use Rattle.sheep_world.proofs.RecoveryMessages.{same_said}
use Rattle.sheep_world.specs.RunsWithAsks.{Move}
use Rattle.overlap_law.specs.Attempts.{AttemptRecord, object_of, attempts_on}
use Rattle.overlap_law.specs.Fates.{IsCreated}
use Rattle.overlap_law.specs.Holders.{is_dead_by_log}
use Rattle.overlap_law.specs.OpenTables.{CallsLive, OpeningsNameWhatIsMade, ReadsNameWhatIsMade}
use Rattle.overlap_law.specs.Packets.{IsAnswering}
use Rattle.overlap_law.specs.Past.{MomentWithPast, run_with_past}
use Rattle.overlap_law.specs.MomentChanges.{MomentTrail, Still, Then, RunsAreInRange}
use Rattle.overlap_law.specs.RequestsOfScript.{is_of_client}
use Rattle.overlap_law.specs.Sessions.{ReadsAreLast}
use Rattle.overlap_law.specs.StepMoments.{SteppingNode, IsStepping, StepsByChanges, LeadsInStep, first_in_step, moment_in_step}
use Rattle.overlap_law.specs.Tables.{entry_unit, entry_by, OwnEntriesAreMade}
use Rattle.overlap_law.specs.ToldPieces.{IsUnansweredOf, offset_read, IsPieceOfAttempts}
use Rattle.overlap_law.specs.Units.{unit_start, unit_size, bytes_by, covers_unit}
use Rattle.overlap_law.proofs.ClaimsInRuns.{up_not_lost}
use Rattle.overlap_law.proofs.CopyUnits.{whole_part}
use Rattle.overlap_law.proofs.EntryWrites.{entry_start, entry_size}
use Rattle.overlap_law.proofs.CreatedStays.{created-by}
use Rattle.overlap_law.proofs.DoneWorks.{wanted, bytes_long}
use Rattle.overlap_law.proofs.KnownDisks.{kind-of_inode, vid-of_inode}
use Rattle.overlap_law.proofs.KnownDiskSteps.{effects_after}
use Rattle.overlap_law.proofs.KnownSteps.{IsKnownStep, together, known_step}
use Rattle.overlap_law.proofs.OpenStatuses.{WasMessage, IsNewMessage, known_so_far}
use Rattle.overlap_law.proofs.OverlapLemmas.{filter-passed}
use Rattle.overlap_law.proofs.StepsInRuns as steps
use Rattle.overlap_law.proofs.NoRecoveredDue.{began-with_past}
use Rattle.overlap_law.proofs.ToldPieces.{IsToldPiece, ReadsAreTold, piece_stays, reads-on_the_way}
use Rattle.overlap_law.proofs.WholeNodes.{AreWholeOn}
use Rattle.overlap_law.proofs.WholeSteps.{IsWellKnown}
use Rattle.sheep_node.proofs.SoundCommands.{HeadersAreSound}
use Rattle.sheep_node.specs.LogReading.{entry_read as log_entry_read}
use Rattle.overlap_law.proofs.DoneReads.{AwaitedAt, awaited_at, awaited_by, unanswered_by, gave_by, inode_whole, piece_told}
use Rattle.overlap_law.proofs.DoneReads.{number_in_piece}

-- an attempt on an inode, of an epoch or before it, gave it this entry
pub record IsEntryRead (attempts : List AttemptRecord) (epoch vid index value : ℕ) : Type 0 where
  pub place : ℕ
  pub one : AttemptRecord
  pub there : slice_get attempts place ≡ Some one
  pub object : object_of one ≡ inode_number vid
  pub covers : covers_unit (entry_unit index) one ≡ true
  pub entry : entry_by index one ≡ value
  pub within : one.epoch ≤ epoch

-- ---- along a trail

module _ (script : List Statement) (range : RunsAreInRange script) (start : MomentWithPast) (began : Began script start.world) where
  piece_along : {moment : MomentWithPast} → MomentTrail script start moment → (oid index offset : ℕ) (bytes : List ℕ)
      → IsToldPiece start oid index offset bytes → IsToldPiece moment oid index offset bytes
  piece_along Still oid index offset bytes is = is
  piece_along (Then {moment} {next} trail change) oid index offset bytes is =
      piece_stays script range start moment next began change oid index offset bytes (piece_along trail oid index offset bytes is)

-- ---- in the middle of a step

module _ (script : List Statement) (range : RunsAreInRange script) (events : List Move) (start : MomentWithPast)
    (ran : run_with_past script events ≡ Some start) (stepping : SteppingNode) (is : IsStepping script start.world stepping)
    (by : StepsByChanges stepping.cause) (so_far : StepState) (leads : LeadsInStep stepping (first_in_step stepping) so_far)
    (trail : MomentTrail script start (moment_in_step script stepping start so_far)) where
  abbrev here : MomentWithPast
  here = moment_in_step script stepping start so_far

  abbrev was : Host
  was = host_with_node stepping.host so_far.node

  abbrev input : Input
  input = input_of_cause stepping.cause

  abbrev node : Node
  node = stepping.host.node

  abbrev known : List Effect
  known = effects_after (input_of_cause stepping.cause) stepping.host.node

  began : Began script start.world
  began = began-with_past script events start ran

  pub step_known : IsKnownStep script start.world stepping
  step_known = known_step script range start.world began stepping is

  pub here_up : stepping.host.is_lost ≡ false
  here_up = up_not_lost script range stepping.host is.up

  pub knows_well : IsWellKnown known input node so_far
  knows_well = steps.knows_well script range start began stepping is by so_far leads

  -- the tables of its commands are those of their disks, of what it knows then
  pub knows_tables : AreWholeOn known so_far.node
  knows_tables = steps.knows_tables script range start began stepping is by so_far leads

  pub knows_read : (entry : Entry) → input ≡ inputs.LogEntry entry → effects_of (log_entry_read entry node).peer ≡ known
  knows_read = steps.knows_read script range start began stepping is by

  pub knows_headers : HeadersAreSound known
  knows_headers = steps.knows_headers script range start began stepping is by

  -- what the step is told of a message is a reply in the wire at its beginning
  pub told_reply : (cause : NodeCause) → IsCause script start.world stepping.n stepping.host cause → (number : ℕ) (bytes : List ℕ)
      → 1 ≤ length bytes → IsTold (input_of_cause cause) number (statuses.Succeeded bytes)
      → (from : NodeId) × (rsp : PeerRsp) × IsAnswering start.world.wire (message_name stepping.n number) from rsp
      × (rsp.say ≡ says.Piece bytes)
  told_reply (GuestAsks session req ask) so number bytes some told = absurd told
  told_reply (RequestComes name to request) so number bytes some told = absurd told
  told_reply (ReplyComes name from rsp) so number bytes some told =
      let (said, says_so, spelled) = (together script range start.world began).wired.spelled name (Reply from so.bytes) so.there in
      let is_said : said ≡ rsp = same_said said rsp (sym says_so ∙ so.read) in
      let numbered : name.number ≡ number = sym spelled ∙ ap (λ (r : PeerRsp). r.number) is_said ∙ told.0 in
      let here : name.sender.0 ≡ stepping.n = so.here in
      let name_so : name ≡ message_name stepping.n number = λ i. record { sender = record { 0 = here i }; number = numbered i } in (
        from,
        rsp,
        record { bytes = so.bytes; there = ap (tree.get start.world.wire) (sym name_so) ∙ so.there; spelled = so.read },
        piece_told rsp.say bytes some told.1,
      )
  told_reply (LossIsTold name packet) so number bytes some told = let lost = told.1 in absurd (cc (lost))
  told_reply (EntryIsRead entry) so number bytes some told = absurd told
  told_reply (EntryIsPut entry) so number bytes some told = absurd told
  told_reply RecoveryTicks so number bytes some told = absurd told
  told_reply WorkIsRetried so number bytes some told = absurd told
  told_reply (ClientAsks req ask) so number bytes some told = absurd told

  -- the message was unanswered at the beginning too
  pub record WasAwaitedAtFirst (req number : ℕ) (work : Work) : Type 0 where
    pub first : Work
    pub current : gateways.Attempt
    pub place : ℕ
    pub message : Message
    pub of : IsUnansweredOf node.gateway.works req first current place message
    pub number_so : message.number ≡ number
    pub work_so : work.work ≡ first.work

  pub awaited_at_first : (req place : ℕ) (work : Work) (current : gateways.Attempt) (m : Message)
      → IsUnansweredOf so_far.node.gateway.works req work current place m → m.number < node.sends → WasAwaitedAtFirst req m.number work
  awaited_at_first req place work current m of below = ⊎_elim
      (λ (old : WasMessage input node req work current place m). ⊎_elim
      (λ (same : m.status ≡ old.m.status). record {
        first = old.open_so.was;
        current = old.open_so.before;
        place = place;
        message = old.m;
        of = record { there = old.open_so.there; stage = old.open_so.stage; at = old.at; unanswered = sym same ∙ of.unanswered };
        number_so = sym old.number_so;
        work_so = old.open_so.work_so;
      })
      (λ (told : IsTold input m.number m.status × (is_awaited_in m.number old.open_so.was ≡ true)).
      let (q, one, at, number_so, unanswered) = awaited_at m.number old.open_so.before.messages
      (sym (ap (λ (stage : WorkStage). list_any (is_awaited_message m.number) (open_messages stage)) old.open_so.stage) ∙ told.1) in
      record {
        first = old.open_so.was;
        current = old.open_so.before;
        place = q;
        message = one;
        of = record { there = old.open_so.there; stage = old.open_so.stage; at = at; unanswered = unanswered };
        number_so = number_so;
        work_so = old.open_so.work_so;
      })
      old.status_so)
      (λ (new : IsNewMessage input node m). let above = new.above in absurd (omega (arith, above, below)))
      (known_so_far input node step_known.given step_known.sound so_far leads req work current place m of.there of.stage of.at)

  -- what a session's command, or its client, has read of an inode
  module _ (session req number : ℕ) (work : Work) (attempt : gateways.Attempt) (status : Status) (course : Course) (bytes : List ℕ)
      (ends : EndsWork input node so_far session req number work attempt status course bytes) (client : is_of_client course ≡ false)
      (vid : ℕ) (spec : VdiSpec) (is_read : work.work ≡ read_inode vid spec) (is_vid : IsVid vid) where
    abbrev oid : ℕ
    oid = inode_number vid

    is_inode : kind_of oid ≡ Inode
    is_inode = kind-of_inode vid is_vid

    pub read_long : length bytes ≡ written_bytes spec
    read_long =
        bytes_long step_known.sound so_far session req number work attempt status course bytes ends knows_well.waits
        (knows_well.sound.open_works req work ends.ends.learns.there)
        ∙ ap bytes_of_work is_read

    -- the message of which it is told
    abbrev awaited : AwaitedAt number attempt.messages
    awaited = awaited_by ends

    unanswered : IsUnansweredOf so_far.node.gateway.works req work attempt (awaited_by ends).0 (awaited_by ends).1
    unanswered = unanswered_by ends

    told_here : ReadsAreTold here
    told_here = reads-on_the_way script range events start here ran trail

    in_copies : is_in_strips spec.policy (kind_of (inode_number vid)) ≡ false
    in_copies = inode_whole spec.policy (kind_of oid) is_inode

    whole : is_in_strips (policy_of work.work) (kind_of (oid_of work.work)) ≡ false
    whole = ap (λ (w : ObjWork). is_in_strips (policy_of w) (kind_of (oid_of w))) is_read ∙ in_copies

    -- is the only one, and gave the bytes
    gave : status ≡ statuses.Succeeded bytes
    gave =
        gave_by ends (inode_number vid) spec.policy 0 (written_bytes spec) is_read in_copies
        (told_here.few stepping.n was (get-insert_same start.world.hosts stepping.n was) here_up req awaited.0 work attempt awaited.1
        unanswered (ap (λ (w : ObjWork). asks_all w) is_read ∙ in_copies))

    -- so it is of attempts
    told_piece : 1 ≤ length bytes → (index : ℕ) × IsToldPiece here oid index 0 bytes
    told_piece some =
        let m : Message = awaited.1 in
        let told : IsTold input number (statuses.Succeeded bytes) = subst (IsTold input number) gave ends.ends.learns.told in
        let below = step_known.given number (statuses.Succeeded bytes) told in
        let same = awaited.3 in
        let old : WasAwaitedAtFirst req m.number work
        = awaited_at_first req awaited.0 work attempt m unanswered (omega (arith, below, same)) in
        let numbered : number ≡ old.message.number = sym same ∙ sym old.number_so in
        let (from, rsp, answering, said) = told_reply stepping.cause is.caused number bytes some told in
        let first_read : old.first.work ≡ read_inode vid spec = sym old.work_so ∙ is_read in
        let piece : IsToldPiece start (oid_of old.first.work) old.message.index (offset_read old.first.work) bytes
        = (reads-on_the_way script range events start start ran Still).told stepping.n stepping.host is.there here_up req old.place
        old.first
        old.current old.message from rsp bytes old.of
        (subst (λ (k : ℕ). IsAnswering start.world.wire (message_name stepping.n k) from rsp) numbered answering) said
        (ap (λ (w : ObjWork). is_in_strips (policy_of w) (kind_of (oid_of w))) (sym old.work_so) ∙ whole) in (
          old.message.index,
          piece_along script range start began trail oid old.message.index 0 bytes
              (subst (λ (w : ObjWork). IsToldPiece start (oid_of w) old.message.index (offset_read w) bytes) first_read piece),
        )

    -- each entry is that of an attempt, of no later epoch
    pub entry_read : ReadsAreLast here.world.hosts here.world.wire here.past.attempts → (index : ℕ) → index < objects_of spec
        → IsEntryRead here.past.attempts so_far.node.peer.epoch vid index (u32_at (INODE_HEADER_BYTES + 4 * index) bytes)
    entry_read last index within =
        let unit : ℕ = entry_unit index in
        let starts : unit_start Inode unit ≡ INODE_HEADER_BYTES + 4 * index = entry_start index in
        let size : unit_size Inode unit ≡ 4 = entry_size index in
        let length_so = read_long in
        let (part_index, piece) = told_piece (omega (arith, length_so)) in
        let of : IsPieceOfAttempts Inode (attempts_on oid here.past.attempts) part_index 0 bytes
        = subst (λ (k : Kind). IsPieceOfAttempts k (attempts_on oid here.past.attempts) part_index 0 bytes) is_inode
        (piece.of_attempts (inode_whole piece.policy (kind_of oid) is_inode)) in
        let (k, one, there, has) = of.each unit (omega arith) (omega (arith, starts, size, length_so, within)) in
        let among = filter-passed (λ (a : AttemptRecord). object_of a == oid) here.past.attempts k one there in
        let object : object_of one ≡ oid = eqb-true (object_of one) oid among.passed in
        let one_inode : kind_of (object_of one) ≡ Inode = ap kind_of object ∙ is_inode in
        let bytes_so : bytes_by unit one.work ≡ piece_at bytes (unit_start Inode unit - 0) (unit_size Inode unit)
        = sym (whole_part (policy_of one.work) (kind_of (oid_of one.work))
        (inode_whole (policy_of one.work) (kind_of (oid_of one.work)) one_inode) part_index (bytes_by unit one.work)) ∙ sym has.1 in
        let from : unit_start Inode unit - 0 ≡ INODE_HEADER_BYTES + 4 * index = omega (arith, starts) in
        let host_there : tree.get here.world.hosts stepping.n ≡ Some was = get-insert_same start.world.hosts stepping.n was in
        let past : attempt.epoch.0 ≤ so_far.node.peer.epoch
        = told_here.past stepping.n was host_there here_up req awaited.0 work attempt awaited.1 unanswered in
        let no_later : one.epoch ≤ attempt.epoch.0
        = last.epochs stepping.n was host_there here_up req work attempt ends.ends.learns.there
        (ap (λ (w : ObjWork). is_making w) is_read)
        (ap (λ (o : Option Request). option_map_or (λ (request : Request). is_of_client request.course) o false) ends.ends.request ∙ client)
        ends.ends.learns.open_so among.place one among.there (object ∙ sym (ap (λ (w : ObjWork). oid_of w) is_read)) in
        record {
          place = among.place;
          one = one;
          there = among.there;
          object = object;
          covers = has.0;
          entry = ap (λ (xs : List ℕ). u32_at 0 xs) (bytes_so ∙ (λ i. piece_at bytes (from i) (size i)))
              ∙ number_in_piece bytes (INODE_HEADER_BYTES + 4 * index);
          within = omega (arith, past, no_later);
        }

  -- ---- an opening

  module _ (session req number : ℕ) (work : Work) (attempt : gateways.Attempt) (status : Status) (op : Op) (bytes : List ℕ) (vid : Vid)
      (snapshot : Bool) (ids : List ℕ) (header : Header)
      (ends : EndsWork input node so_far session req number work attempt status (Commanding op) bytes)
      (at : op.stage ≡ Working vid (Opening snapshot ids header)) where
    pub opening_reads : work.work ≡ read_inode vid.0 header.spec
    opening_reads =
        let one = knows_well.sound.open_works req work ends.ends.learns.there in
        let wants : IsAwaitedAtOpStage (op_acts.Work work.work) op.stage
        = wanted step_known.sound so_far session req number work attempt status (Commanding op) bytes ends knows_well.waits one in
        let (w, acts, reads) = subst (λ (stage : OpStage). IsAwaitedAtOpStage (op_acts.Work work.work) stage) at wants in
        ap (work_in work.work) acts ∙ reads
      where
        work_in : ObjWork → OpAct → ObjWork
        work_in none (op_acts.Append entry) = none
        work_in none (op_acts.Work work) = work
        work_in none (op_acts.Reply reply) = none

    is_sound : IsSoundStage (Working vid (Opening snapshot ids header))
    is_sound =
        subst IsSoundStage at (knows_well.sound.courses req (record { session = session; course = Commanding op }) ends.ends.request)

    pub opening_vid : IsVid vid.0
    opening_vid = is_sound.0

    pub opening_header : IsInodeHeader header
    opening_header = is_sound.1

    pub few_objects : objects_of header.spec ≤ OBJECTS_MAX
    few_objects = objects_most header.spec is_sound.1.spec

    -- an entry that says "own"
    created : (live : ℕ → Bool) → CallsLive live here.world.log here.past.attempts → OwnEntriesAreMade live here.past.attempts
        → ReadsAreLast here.world.hosts here.world.wire here.past.attempts → (index : ℕ) → index < objects_of header.spec
        → u32_at (INODE_HEADER_BYTES + 4 * index) bytes ≡ vid.0 → is_dead (log_effects here.world.log) vid.0 ≡ false
        → IsCreated here.past.attempts (object_number vid.0 index) so_far.node.peer.epoch
    created live calls own last index within says_own alive =
        let few = few_objects in
        let read : IsEntryRead here.past.attempts so_far.node.peer.epoch vid.0 index (u32_at (INODE_HEADER_BYTES + 4 * index) bytes)
        = entry_read session req number work attempt status (Commanding op) bytes ends refl vid.0 header.spec opening_reads opening_vid last
        index within in
        let dead : is_dead_by_log here.world.log (inode_number vid.0) ≡ false
        = ap (λ (v : ℕ). is_dead (log_effects here.world.log) v) (vid-of_inode vid.0 opening_vid) ∙ alive in
        created-by here.past.attempts (object_number vid.0 index) read.one.epoch so_far.node.peer.epoch read.within
        (own.each read.place read.one read.there vid.0 index opening_vid read.object
        (calls (inode_number vid.0) (read.place, read.one, read.there, read.object) dead) (omega (arith, within, few)) read.covers
        (read.entry ∙ says_own))

-- ---- every moment in the middle of a step

pub reads_name : (script : List Statement) → RunsAreInRange script → (events : List Move) (start before : MomentWithPast)
    → run_with_past script events ≡ Some start → MomentTrail script start before → (live : ℕ → Bool)
    → CallsLive live before.world.log before.past.attempts
    → OwnEntriesAreMade live before.past.attempts → ReadsAreLast before.world.hosts before.world.wire before.past.attempts
    → ReadsNameWhatIsMade script start before
reads_name script range events start before ran trail live alive_so own last = λ stepping so_far is by leads same.
    subst (λ (m : MomentWithPast). OpeningsNameWhatIsMade (log_effects m.world.log) m.past.attempts (input_of_cause stepping.cause)
    stepping.host.node so_far) (sym same)
    (λ session req number work attempt status op bytes vid snapshot ids header index ends at within says_own alive.
    created script range events start ran stepping is by so_far leads (subst (MomentTrail script start) same trail) session req number work
    attempt status op bytes vid snapshot ids header ends at live (subst (λ
    (m : MomentWithPast). CallsLive live m.world.log m.past.attempts) same alive_so)
    (subst (λ (m : MomentWithPast). OwnEntriesAreMade live m.past.attempts) same own)
    (subst (λ (m : MomentWithPast). ReadsAreLast m.world.hosts m.world.wire m.past.attempts) same last) index within says_own alive)
