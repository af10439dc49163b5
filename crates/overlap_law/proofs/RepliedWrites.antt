-- As a write's last work is done, to which its node replies: each of its pieces is alone, and of the entry of each nothing is to come but
-- the disk's own id; and so is each block in which the write has an item, also behind the reply.
use Rattle.std.proofs.Common.{◌≡◌, inl, ⊎_elim, ℕ, ◌<◌, ◌≤◌, ◌%◌, Bool, true, false, List, [], ◌∷◌, ◌++◌, append-nil, length, Contains}
use Rattle.std.proofs.Common.{Option}
use Rattle.std.proofs.Common.{Some, IfSome, slice_get, refl, sym, ap, subst, ◌∙◌, arith}
use Rattle.std.specs.FinMap as tree
use Rattle.std.proofs.lemmas.List.Elements.{Contains-push_cases}
use Rattle.proof_tools.proofs.FiniteMaps.{get-insert_same}
use Rattle.object_id.specs.declared.entry.Entry.{Entry}
use Rattle.object_id.specs.Oid.{IsVid, inode_number}
use Rattle.object_id.specs.Spec.{objects_of}
use Rattle.cluster_script.specs.declared.statement.Statement.{Statement}
use Rattle.vdi_directory.specs.Dead.{is_dead}
use Rattle.vdi_directory.specs.Decisions.{log_effects}
use Rattle.peer_proto.specs.declared.guest.DiskAsk.TheVariants as disk_asks
use Rattle.peer_proto.specs.declared.guest.GuestRsp.{GuestRsp}
use Rattle.peer_proto.specs.declared.work.ObjWork.{ObjWork}
use Rattle.peer_proto.specs.Work.{oid_of}
use Rattle.gateway.specs.Attempt as gateways
use Rattle.gateway.specs.State.{Work}
use Rattle.gateway.specs.Work.{is_making}
use Rattle.gateway.specs.declared.message.Status.{Status}
use Rattle.guest_driver.specs.declared.act.DriverAct.TheVariants as acts
use Rattle.guest_driver.specs.declared.disk.Disk.{Disk}
use Rattle.guest_driver.specs.Driver.{DriverStage, DriverStep, InPlace, Entering, Writes, driver_on_done}
use Rattle.guest_driver.specs.PieceWorks.{write_entry}
use Rattle.guest_driver.specs.Pieces.{Piece, pieces}
use Rattle.sheep_node.specs.declared.ask.Ask.TheVariants as asks
use Rattle.sheep_node.specs.declared.course.Course.TheVariants.{Driving}
use Rattle.sheep_node.specs.declared.course.Request.{Request}
use Rattle.sheep_node.specs.Changes.{EndsWork}
use Rattle.sheep_node.specs.Courses.{inode_open}
use Rattle.sheep_node.specs.SessionQueues.{session_among}
use Rattle.sheep_node.specs.StepFacts.{read_after}
use Rattle.sheep_node.specs.StepState.{StepState}
use Rattle.sheep_node.specs.WantedWorks.{IsWantedAt, IsWorkWanted, IsWorkOfWrite}
use Rattle.sheep_world.specs.Began.{Began}
use Rattle.sheep_world.specs.NodeCauses.{input_of_cause, host_with_node}
use Rattle.sheep_world.specs.World.{Host}
use Rattle.sheep_world.specs.RunsWithAsks.{Move}
use Rattle.overlap_law.specs.AloneEntries.{IsOwnByTable}
use Rattle.overlap_law.specs.Attempts.{AttemptRecord}
use Rattle.overlap_law.specs.Each.{spec_in}
use Rattle.overlap_law.specs.Headline.{ledger_of}
use Rattle.overlap_law.specs.MomentChanges as moments
use Rattle.overlap_law.specs.MomentChanges.{MomentChange, MomentTrail, RunsAreInRange}
use Rattle.overlap_law.specs.Past.{MomentWithPast, run_with_past}
use Rattle.overlap_law.specs.ShapedAttempts.{AreShaped}
use Rattle.overlap_law.specs.StayingBlocks.{IsAloneWhereWritten}
use Rattle.overlap_law.specs.StepMoments.{SteppingNode, IsStepping, StepsByChanges, IsWithinStep, attempts_of_change, moment_in_step}
use Rattle.overlap_law.specs.Tables.{entry_by, entry_unit}
use Rattle.overlap_law.specs.TiedAttempts.{IsTied}
use Rattle.overlap_law.specs.ToCome.{IsEntryToCome, IsToCome, TablesStayTheInodes}
use Rattle.overlap_law.specs.ToDo.{entry_made}
use Rattle.overlap_law.specs.Units.{covers_by}
use Rattle.overlap_law.proofs.AloneInRuns.{entered_alone, write_alone}
use Rattle.overlap_law.proofs.AloneInSteps.{own_in_place}
use Rattle.overlap_law.proofs.AloneItemsInSteps.{own_in_step}
use Rattle.overlap_law.proofs.AnswersInMoments.{not_lost}
use Rattle.overlap_law.proofs.AttemptsInSteps.{attempts-grow}
use Rattle.overlap_law.proofs.CausedWorks.{HasWellWorks}
use Rattle.overlap_law.proofs.CoursesOfScript.{asked_by}
use Rattle.overlap_law.proofs.CreatesFirst.{session_of}
use Rattle.overlap_law.proofs.DoneAlone.{done_alone}
use Rattle.overlap_law.proofs.DoneWrites.{EndsAt, InItsPlace, AtItsEntry, ends_at, written_whole}
use Rattle.overlap_law.proofs.EntryWorks.{known_disk}
use Rattle.overlap_law.proofs.EntryWrites.{entry_covered, entry_own}
use Rattle.overlap_law.proofs.FinishedInMoments.{TermsHold, kept_terms}
use Rattle.overlap_law.proofs.GrantedEpochs.{spec_stays}
use Rattle.overlap_law.proofs.KnownDisks.{IsKnownInode}
use Rattle.overlap_law.proofs.KnownDiskSteps.{effects_after}
use Rattle.overlap_law.proofs.KnownSteps.{known_step}
use Rattle.overlap_law.proofs.NoRecoveredDue.{began-with_past}
use Rattle.overlap_law.proofs.PiecesUnderWay.{whole_blocks}
use Rattle.overlap_law.proofs.RepliedItems.{ArePiecesAlone, items_alone}
use Rattle.overlap_law.proofs.RunsByChanges.{on_the_way}
use Rattle.overlap_law.proofs.ShapedAttempts.{kept_shaped}
use Rattle.overlap_law.proofs.TablesInMoments.{front_here, knows_here}
use Rattle.overlap_law.proofs.TiedInRuns.{kept_tied}
use Rattle.overlap_law.proofs.ToComeStays.{to_come_before}
use Rattle.overlap_law.proofs.WorksInMoments.{well_along}

module _ (script : List Statement) (range : RunsAreInRange script) (events : List Move) (start : MomentWithPast)
    (ran : run_with_past script events ≡ Some start) (on : SteppingNode) (is : IsStepping script start.world on)
    (by : StepsByChanges on.cause) (so_far next : StepState) (within : IsWithinStep on so_far next)
    (trail : MomentTrail script start (moment_in_step script on start so_far)) (good_id : ℕ → Bool) where
  abbrev here : MomentWithPast
  here = moment_in_step script on start so_far

  abbrev later : MomentWithPast
  later = moment_in_step script on start next

  abbrev was : Host
  was = host_with_node on.host so_far.node

  began : Began script start.world
  began = began-with_past script events start ran

  change : MomentChange script start (moment_in_step script on start so_far) (moment_in_step script on start next)
  change = moments.StepGoesOn on so_far next is by within

  up : on.host.is_lost ≡ false
  up = not_lost on.host is.up

  was_there : tree.get (moment_in_step script on start so_far).world.hosts on.n ≡ Some (host_with_node on.host so_far.node)
  was_there = get-insert_same start.world.hosts on.n was

  well : HasWellWorks so_far.node
  well = well_along script range start began trail on.n was was_there

  -- ---- as the last work is done

  module _ (tables : TablesStayTheInodes (log_effects (moment_in_step script on start so_far).world.log) good_id
      (moment_in_step script on start so_far).world.hosts (moment_in_step script on start so_far).past.attempts) (session req number : ℕ)
      (work : Work) (attempt : gateways.Attempt) (status : Status) (bytes payload : List ℕ) (stage : DriverStage) (piece : Piece)
      (rest : List Piece) (disk : Disk) (step : DriverStep) (rsp : GuestRsp)
      (ends : EndsWork (input_of_cause on.cause) on.host.node so_far session req number work attempt status
      (Driving (Writes payload stage piece rest)) bytes)
      (opened : (session_among session so_far.node.sessions).disk ≡ Some disk)
      (goes : driver_on_done disk.inode bytes (Writes payload stage piece rest) ≡ Some step) (replies : step.act ≡ acts.Reply rsp)
      (offset : ℕ) (before : List Piece) (cut : pieces disk.inode.spec.shift offset (length payload) ≡ before ++ piece ∷ rest) where
    abbrev request : Request
    request = record { session = session; course = Driving (Writes payload stage piece rest) }

    ended : EndsAt stage rest
    ended = ends_at rsp disk.inode bytes payload stage piece rest step goes replies

    none_rest : EndsAt stage rest → rest ≡ []
    none_rest (InItsPlace in_place none) = none
    none_rest (AtItsEntry entering none) = none

    wants : IsWorkOfWrite disk.inode payload piece work.work stage
    wants =
        subst (λ (o : Option Disk). IsWorkWanted (inode_open o) (Driving (Writes payload stage piece rest)) work.work) opened
        (subst (λ (o : Option Request). IsWantedAt so_far.node.sessions o work.work) ends.ends.request
        (well.wanted req work.work (inl (work, ends.ends.learns.there, refl))))

    id : IsVid disk.inode.vid
    id = (known_disk so_far.node well session disk opened).disk.id

    abbrev Comes : ℕ → ℕ → AttemptRecord → Type 0
    Comes index j entry =
        IsEntryToCome (moment_in_step script on start so_far).world.hosts (moment_in_step script on start so_far).past.attempts
        disk.inode.vid index j entry

    -- the entry was written by the last attempt on the inode
    entered : stage ≡ Entering → (index j : ℕ) (entry : AttemptRecord) → piece.index ≡ index → Comes index j entry
        → entry_by index entry ≡ disk.inode.vid
    entered entering index j entry at comes =
        let same : work.work ≡ write_entry disk.inode piece = subst (IsWorkOfWrite disk.inode payload piece work.work) entering wants in
        let on_inode : IsToCome here.world.hosts here.past.attempts (oid_of work.work) (entry_unit piece.index) j entry
        = subst (λ (oid : ℕ). IsToCome here.world.hosts here.past.attempts oid (entry_unit piece.index) j entry) (sym (ap oid_of same))
        (subst (λ (k : ℕ). Comes k j entry) (sym at) comes) in
        let done : entry.work ≡ work.work
        = done_alone script range events start ran on is by so_far within.leads trail req number work attempt status ends.ends.learns
        ends.done (ap is_making same) (entry_unit piece.index)
        (ap (covers_by (entry_unit piece.index)) same ∙ entry_covered disk.inode piece id) j entry on_inode in
        ap (λ (k : ℕ). entry_by k entry) (sym at) ∙ ap (λ (w : ObjWork). entry_made piece.index w) (done ∙ same)
        ∙ entry_own disk.inode piece id

    module _ (good : good_id disk.inode.vid ≡ true)
        (alive : is_dead (log_effects (moment_in_step script on start so_far).world.log) disk.inode.vid ≡ false) where
      last_entry : EndsAt stage rest → (index j : ℕ) (entry : AttemptRecord) → piece.index ≡ index → index < objects_of disk.inode.spec
          → Comes index j entry → entry_by index entry ≡ disk.inode.vid
      last_entry (InItsPlace in_place none) index j entry at inside comes =
          write_alone script range events start here ran trail good_id tables on.n was was_there up req request disk payload stage piece
          rest ends.ends.request opened refl good alive index inside
          (subst (IsOwnByTable disk.inode) at
          (own_in_place script range events start ran on is by so_far next within trail session req number work attempt status bytes payload
          piece rest disk
          (subst (λ (s : DriverStage). EndsWork (input_of_cause on.cause) on.host.node so_far session req number work attempt status
          (Driving (Writes payload s piece rest)) bytes) in_place ends) opened)) j entry comes
      last_entry (AtItsEntry entering none) index j entry at inside comes = entered entering index j entry at comes

      each_entry : (one : Piece) → Contains (pieces disk.inode.spec.shift offset (length payload)) one → (index j : ℕ)
          (entry : AttemptRecord) → one.index ≡ index → index < objects_of disk.inode.spec → Comes index j entry
          → entry_by index entry ≡ disk.inode.vid
      each_entry one among index j entry at inside comes =
          let whole : pieces disk.inode.spec.shift offset (length payload) ≡ before ++ piece ∷ []
          = cut ∙ (λ i. before ++ piece ∷ none_rest ended i) in ⊎_elim
          (λ (old : Contains before one).
          entered_alone script range events start here ran trail good_id tables on.n was was_there up req request disk payload stage piece
          rest ends.ends.request opened refl good alive offset index j before one entry cut old at inside comes)
          (λ (new : piece ≡ one). last_entry ended index j entry (ap (λ (p : Piece). p.index) new ∙ at) inside comes)
          (Contains-push_cases before piece one (subst (λ (all : List Piece). Contains all one) whole among))

    pub pieces_alone : ArePiecesAlone (log_effects (moment_in_step script on start so_far).world.log) good_id
        (moment_in_step script on start so_far).world.hosts (moment_in_step script on start so_far).past.attempts disk offset payload
    pieces_alone = record {
      bytes = λ one among.
          written_whole script range events start ran on is by so_far next within trail session req number work attempt status bytes payload
          stage piece rest disk step rsp ends opened goes replies offset before cut one among;
      entries = λ good alive one among index j entry at inside comes. each_entry good alive one among index j entry at inside comes;
    }

  -- ---- behind the reply

  module _ (none : (host : Host) → attempts_of_change host so_far next within.change ≡ []) where
    same_attempts : (moment_in_step script on start next).past.attempts ≡ (moment_in_step script on start so_far).past.attempts
    same_attempts =
        let known = known_step script range start.world began on is in
        attempts-grow script start on is known.sound known.given by so_far next within
        ∙ ap (λ (more : List AttemptRecord). here.past.attempts ++ more) (none on.host)
        ∙ append-nil here.past.attempts

    pub might : (oid unit j : ℕ) (attempt : AttemptRecord)
        → IsToCome (moment_in_step script on start next).world.hosts (moment_in_step script on start next).past.attempts oid unit j attempt
        → IsToCome (moment_in_step script on start so_far).world.hosts (moment_in_step script on start so_far).past.attempts oid unit j
        attempt
    might oid unit j attempt comes =
        to_come_before script range start here later began change
        (on_the_way script TermsHold (kept_terms script range) events start here ran trail)
        (on_the_way script AreShaped (kept_shaped script range) events start here ran trail)
        (on_the_way script IsTied (kept_tied script range) events start here ran trail) oid unit j attempt comes
        (record {
          was = attempt;
          at = ap (λ (all : List AttemptRecord). slice_get all j) (sym same_attempts) ∙ comes.there;
          fates = attempt.fates;
          same = refl;
        })

    module _ (req offset : ℕ) (payload : List ℕ) (asked : asked_by script req ≡ Some (asks.Disk (disk_asks.Write offset payload)))
        (request : Request) (got : tree.get so_far.node.requests req ≡ Some request) (disk : Disk)
        (opened : (session_among request.session so_far.node.sessions).disk ≡ Some disk) where
      known : IsKnownInode (effects_after (input_of_cause on.cause) on.host.node) disk.inode
      known =
          let (session, there, at) = session_of so_far.node request.session disk opened in
          subst (λ (o : Option Disk). IfSome o (λ (d : Disk). IsKnownInode (effects_after (input_of_cause on.cause) on.host.node) d.inode))
          at ((knows_here script range start began on is by so_far next within).on_known.each_session request.session session there).disk

      made : spec_in (log_effects (moment_in_step script on start so_far).world.log) disk.inode.vid ≡ Some disk.inode.spec
      made =
          let (rest, front) = front_here script range start began on is by so_far next within in
          subst (λ (log : List Entry). spec_in (log_effects log) disk.inode.vid ≡ Some disk.inode.spec) (sym front)
          (spec_stays (read_after (input_of_cause on.cause) on.host.node.peer.entries) rest disk.inode.vid disk.inode.spec known.disk.made)

      pub replied_so : ArePiecesAlone (log_effects (moment_in_step script on start so_far).world.log) good_id
          (moment_in_step script on start so_far).world.hosts (moment_in_step script on start so_far).past.attempts disk offset payload
          → IsAloneWhereWritten (log_effects (moment_in_step script on start next).world.log) good_id
          (moment_in_step script on start next).world.hosts (moment_in_step script on start next).past.attempts
          (ledger_of (moment_in_step script on start so_far).past.history) req
      replied_so alone =
          let shift = known.disk.spec_valid.shift.0 in
          let long : 9 ≤ disk.inode.spec.shift = omega (arith, shift) in
          items_alone (log_effects here.world.log) good_id here.world.hosts later.world.hosts here.past.attempts later.past.attempts
          (ledger_of here.past.history) req offset payload disk
          (own_in_step script range events start ran on is by so_far within.leads req request got disk opened offset payload asked) long
          (whole_blocks script range req offset payload asked on.host).0 made alone might
