-- In each run in range, where a check comes to a write by a reply: the check compares an own object of the working disk that its session
-- has open, which is one of the history; the object was created, and nobody is writing it.
use Rattle.std.proofs.Common.{◌≡◌, inl, inr, arith, ℕ, ◌*◌, ◌/◌, ◌<◌, ◌≤◌, ◌==◌, ◌++◌, true, false, All, Contains, List}
use Rattle.std.proofs.Common.{◌∷◌, length, Option, Some, slice_index, refl, sym, ap, subst, ◌∙◌}
use Rattle.std.specs.FinMap as tree
use Rattle.std.specs.List.{range_with_len}
use Rattle.std.specs.Option.{option_map, option_map_or}
use Rattle.std.proofs.lemmas.Bool.{eqb-true}
use Rattle.std.proofs.lemmas.List.Elements.{All-head, Contains-append_right}
use Rattle.std.proofs.lemmas.Option.{same_Some}
use Rattle.proof_tools.proofs.Lists.{Contains-head, filter-contains}
use Rattle.object_id.specs.declared.entry.VdiSpec.{VdiSpec}
use Rattle.object_id.specs.declared.limits.TheConstants.{BLOCK_BYTES, OBJECTS_MAX}
use Rattle.object_id.specs.Oid.{IsVid, object_number}
use Rattle.object_id.specs.Spec.{IsSpec, objects_of}
use Rattle.inode.specs.Layout.{Content}
use Rattle.cluster_script.specs.declared.statement.Statement.{Statement}
use Rattle.cluster_script.specs.NumberedRequests.{request_at}
use Rattle.cluster_script.specs.Statements.{is_check}
use Rattle.disk_check.specs.Check.{Check, CheckStage, Comparing, WritingBack, Answered, left_of, read_copies, value_at_stage}
use Rattle.disk_check.specs.Table.{own_indexes}
use Rattle.disk_check.specs.Value.{pieces_in, value_of}
use Rattle.disk_history.specs.Ledger as histories
use Rattle.guest_driver.specs.declared.disk.Disk.{Disk}
use Rattle.peer_proto.specs.declared.say.PeerRsp.{PeerRsp}
use Rattle.gateway.specs.Attempt.{bytes_given}
use Rattle.sheep_node.specs.declared.check_write.CheckWrite.{CheckWrite}
use Rattle.sheep_node.specs.declared.course.Course.TheVariants.{Checking}
use Rattle.sheep_node.specs.declared.course.Request.{Request}
use Rattle.sheep_node.specs.declared.session.Session.{Session}
use Rattle.sheep_node.specs.CheckWrites.{write_of_check, write_of_value}
use Rattle.sheep_node.specs.SessionQueues.{session_among}
use Rattle.sheep_node.specs.SoundWorks.{IsSoundCheck}
use Rattle.sheep_node.specs.WantedWorks.{IsWantedAt, IsWorkOfCheck}
use Rattle.sheep_world.specs.Began.{Began}
use Rattle.sheep_world.specs.World.{Host, is_host_up}
use Rattle.sheep_world.specs.RunsWithAsks.{Move}
use Rattle.vdi_directory.specs.Decisions.{log_effects}
use Rattle.vdi_directory.specs.States.{state_of, is_live_state}
use Rattle.overlap_law.specs.Each.{spec_in}
use Rattle.overlap_law.specs.Fates.{IsCreated}
use Rattle.overlap_law.specs.Headline.{ledger_of}
use Rattle.overlap_law.specs.MomentChanges.{RunsAreInRange, Still}
use Rattle.overlap_law.specs.Past.{MomentWithPast, run_with_past}
use Rattle.overlap_law.specs.RequestsOfScript.{IsCheckOfAsk, indexes_left}
use Rattle.overlap_law.specs.SoundUnwritten.{IsBeingWritten}
use Rattle.overlap_law.specs.WrittenBlocks.{blocks_per_object}
use Rattle.overlap_law.proofs.AnswersInMoments.{not_lost}
use Rattle.overlap_law.proofs.BlocksOfAnyDisk.{live_alive}
use Rattle.overlap_law.proofs.CarriedTables.{good_id_at, tables-in_run}
use Rattle.overlap_law.proofs.CheckReadsComing.{ComesByReply, messages_heard}
use Rattle.overlap_law.proofs.CheckReadsUnwritten.{unwritten}
use Rattle.overlap_law.proofs.CoursesOfAsks.{IsPlacedIn}
use Rattle.overlap_law.proofs.CoursesOfScript.{asked_by, BeganOn, requests_placed}
use Rattle.overlap_law.proofs.CreatesFirst.{session_of, inside as inside_table}
use Rattle.overlap_law.proofs.DisksOfWriters.{no_command}
use Rattle.overlap_law.proofs.NoRecoveredDue.{began-with_past}
use Rattle.overlap_law.proofs.OpenDisksOfHistory.{working_of_history}
use Rattle.overlap_law.proofs.OpenTables.{whole_tables}
use Rattle.overlap_law.proofs.WholeInRuns.{sound_here}

-- ---- what the check compares

-- a check compares the object of an index, and the write is of the value of what came
pub record IsCompared (write : CheckWrite) (bytes : List ℕ) (check : Check) : Type 0 where
  pub index : ℕ
  pub later : List ℕ
  pub at : check.stage ≡ Comparing index later
  pub made : write_of_value write.req check (index, value_of check.spec.policy (pieces_in check.spec bytes)) ≡ write

pub compared : (write : CheckWrite) (bytes : List ℕ) (check : Check) → write_of_check write.req bytes check ≡ Some write
    → IsCompared write bytes check
compared write bytes check is = by_stage check.stage refl is
  where
    by_stage : (stage : CheckStage) → check.stage ≡ stage
        → option_map (write_of_value write.req check) (value_at_stage bytes check.spec stage) ≡ Some write → IsCompared write bytes check
    by_stage (Comparing index later) at is = record { index = index; later = later; at = at; made = same_Some _ write is }
    by_stage (WritingBack later) at is = absurd (cc (is))
    by_stage Answered at is = absurd (cc (is))

-- the table has the disk's id at each own index
own_entry : (inode : Content) (before : List ℕ) (index : ℕ) (later : List ℕ) → before ++ index ∷ later ≡ own_indexes inode
    → slice_index inode.table index ≡ inode.vid
own_entry inode before index later is =
    let among : Contains (own_indexes inode) index
    = subst (λ (list : List ℕ). Contains list index) is (Contains-append_right before (index ∷ later) index (Contains-head index later)) in
    eqb-true (slice_index inode.table index) inode.vid
    (filter-contains (λ (k : ℕ). slice_index inode.table k == inode.vid) (range_with_len 0 (length inode.table)) index among).1

-- ---- the object

-- it is one of a disk of the history, which was created as long as the disk is there and good, and nobody is writing it
pub record IsCheckedObject (moment : MomentWithPast) (host : Host) (check : Check) (index : ℕ) : Type 0 where
  pub vid : IsVid check.vid
  pub few : index < OBJECTS_MAX
  pub spec : IsSpec check.spec
  pub disk : histories.Disk
  pub known : (ledger_of moment.past.history).disks check.vid ≡ Some disk
  pub large : check.spec.size / BLOCK_BYTES ≤ disk.blocks
  pub made_with : spec_in (log_effects moment.world.log) check.vid ≡ Some check.spec
  pub live : disk.deleted ≡ false → is_live_state (state_of (log_effects moment.world.log) check.vid) ≡ true
  pub within : index < objects_of check.spec
  pub created : good_id_at moment check.vid ≡ true → disk.deleted ≡ false
      → IsCreated moment.past.attempts (object_number check.vid index) host.node.peer.epoch
  pub unwritten : (block : ℕ) → index * blocks_per_object check.spec ≤ block → block < disk.blocks
      → IsBeingWritten moment.past.attempts (disk.items block) → ⊥

module _ (script : List Statement) (range : RunsAreInRange script) (events : List Move) (start : MomentWithPast)
    (run : run_with_past script events ≡ Some start) (n : ℕ) (host : Host) (there : tree.get start.world.hosts n ≡ Some host)
    (up : is_host_up host ≡ true) (write : CheckWrite) (rsp : PeerRsp) (comes : ComesByReply write rsp host.node)
    (checks : option_map_or is_check (request_at script write.req) false ≡ true) where
  began : Began script start.world
  began = began-with_past script events start run

  abbrev check : Check
  check = comes.check

  abbrev request : Request
  request = record { session = comes.session; course = Checking comes.check }

  pub is_compared : IsCompared write (bytes_given comes.work.work (messages_heard rsp comes.attempt)) comes.check
  is_compared = compared write (bytes_given comes.work.work (messages_heard rsp comes.attempt)) comes.check comes.comes

  -- its work reads all of the object
  pub work_so : comes.work.work ≡ read_copies comes.check is_compared.index
  work_so =
      subst (λ (stage : CheckStage). IsWorkOfCheck check stage comes.work.work) is_compared.at
      (subst (λ (request : Option Request). IsWantedAt host.node.sessions request comes.work.work) comes.there
      ((sound_here script range start.world began n host there up).wanted_works write.req comes.work.work
      (inl (comes.work, comes.got, refl))))

  sound : IsSoundCheck comes.check
  sound = (sound_here script range start.world began n host there up).sound_works.courses write.req request comes.there

  up_so : host.is_lost ≡ false
  up_so = not_lost host up

  -- its disk
  module _ (asked_on : Option ℕ)
      (course : IsCheckOfAsk (asked_by script write.req) (session_among comes.session host.node.sessions).disk asked_on comes.check) where
    abbrev opened : Disk
    opened = course.on.disk

    abbrev vid : ℕ
    vid = course.on.disk.inode.vid

    abbrev index : ℕ
    index = is_compared.index

    entry_so : slice_index course.on.disk.inode.table is_compared.index ≡ course.on.disk.inode.vid
    entry_so =
        own_entry opened.inode course.is.before index is_compared.later
        (subst (λ (s : CheckStage). course.is.before ++ indexes_left s ≡ own_indexes opened.inode) is_compared.at course.is.indexes)

    is_vid : IsVid course.on.disk.inode.vid
    is_vid = subst IsVid course.is.vid sound.vid

    one : (session : Session) × (tree.get host.node.sessions comes.session ≡ Some session) × (session.disk ≡ Some course.on.disk)
    one = session_of host.node comes.session opened course.on.there

    in_table : is_compared.index < objects_of course.on.disk.inode.spec
    in_table =
        let (session, got, on) = one in
        let long = (whole_tables script range events start start run Still).each n host there up_so comes.session session opened got on in
        let low = inside_table opened.inode.table index vid entry_so is_vid.0 in
        omega (arith, long, low)

    created_so : good_id_at start check.vid ≡ true → is_live_state (state_of (log_effects start.world.log) course.on.disk.inode.vid) ≡ true
        → IsCreated start.past.attempts (object_number comes.check.vid is_compared.index) host.node.peer.epoch
    created_so good live =
        let (session, got, on) = one in
        subst (λ (k : ℕ). IsCreated start.past.attempts (object_number k index) host.node.peer.epoch) (entry_so ∙ sym course.is.vid)
        ((tables-in_run script range events start run).tables.tables.each n host there up_so comes.session index session opened got on
        (ap (good_id_at start) (sym course.is.vid) ∙ good) (live_alive (log_effects start.world.log) vid live) in_table
        (λ (hole : slice_index opened.inode.table index ≡ 0).
        let some = is_vid.0 in
        let own = entry_so in
        absurd (omega (arith, some, own, hole))))

    of_opened : IsCheckedObject start host comes.check is_compared.index
    of_opened =
        let of = (working_of_history script range events start run).each n host there up_so comes.session opened course.on.there
        course.working (no_command script range start.world began n host there write.req request comes.there (inr checks)) in
        let vid_so : check.vid ≡ vid = course.is.vid in
        let spec_so : check.spec ≡ opened.inode.spec = course.is.spec in
        record {
          vid = sound.vid;
          few = All-head (λ (k : ℕ). k < OBJECTS_MAX) index is_compared.later
              (subst (λ (s : CheckStage). All (λ (k : ℕ). k < OBJECTS_MAX) (left_of s)) is_compared.at sound.within);
          spec = sound.spec;
          disk = of.disk;
          known = ap (λ (k : ℕ). (ledger_of start.past.history).disks k) vid_so ∙ of.there;
          large = subst (λ (s : VdiSpec). s.size / BLOCK_BYTES ≤ of.disk.blocks) (sym spec_so) of.large;
          made_with = ap (spec_in (log_effects start.world.log)) vid_so ∙ of.made_with ∙ ap (λ (s : VdiSpec). Some s) (sym spec_so);
          live = λ kept. ap (λ (k : ℕ). is_live_state (state_of (log_effects start.world.log) k)) vid_so ∙ of.live kept;
          within = subst (λ (s : VdiSpec). index < objects_of s) (sym spec_so) in_table;
          created = λ good kept. created_so good (of.live kept);
          unwritten = λ block from below being.
              unwritten script range events start run n host there up_so write.req comes.session check comes.there checks opened
              course.on.there course.working vid_so index block
              (subst (λ (s : CheckStage). Contains (left_of s) index) (sym is_compared.at) (Contains-head index is_compared.later)) from
              of.disk of.there below being;
        }

  pub checked_object : IsCheckedObject start host comes.check is_compared.index
  checked_object =
      let (asked_on, began_on, course) = subst
      (IsPlacedIn (asked_by script) (BeganOn script start.world.guests) write.req host.node.sessions) comes.there
      (requests_placed script range start.world began n host there write.req) in
      of_opened asked_on course
