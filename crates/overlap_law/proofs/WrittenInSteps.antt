-- What a write has behind it stays made by the last attempts on its objects as its node goes on in a step: a piece is so as its work is
-- done.
use Rattle.std.proofs.Common.{◌≡◌, ◌<◌, ◌≢◌, inl, ⊎_elim, ℕ, true, false, List, [], ◌∷◌, ◌++◌, length, Contains, Option, Some}
use Rattle.std.proofs.Common.{refl, sym, ap, subst, ◌∙◌, append_assoc}
use Rattle.std.specs.FinMap as tree
use Rattle.std.proofs.lemmas.List.Elements.{All-head, Contains-push_cases}
use Rattle.std.proofs.lemmas.Option.{same_Some}
use Rattle.proof_tools.proofs.FiniteMaps.{get-insert_same, get-insert_other, get-insert_cases}
use Rattle.proof_tools.proofs.Lists.{Contains-nil}
use Rattle.object_id.specs.declared.limits.TheConstants.{OBJECTS_MAX}
use Rattle.object_id.specs.Oid.{object_number}
use Rattle.cluster_script.specs.declared.statement.Statement.{Statement}
use Rattle.peer_proto.specs.declared.guest.DiskAsk.{DiskAsk}
use Rattle.peer_proto.specs.declared.work.ObjWork.{ObjWork}
use Rattle.peer_proto.specs.declared.work.ObjWork.TheVariants as works
use Rattle.peer_proto.specs.Work.{oid_of}
use Rattle.gateway.specs.Attempt as gateways
use Rattle.gateway.specs.State.{Work}
use Rattle.gateway.specs.Work.{is_making}
use Rattle.gateway.specs.declared.message.Status.{Status}
use Rattle.guest_driver.specs.BegunWorks.{IsPieceAmong}
use Rattle.guest_driver.specs.declared.disk.Disk.{Disk}
use Rattle.guest_driver.specs.Driver.{Driver, Writes, DriverStage, DriverStep, InPlace, Fetching, Creating, Entering, driver_on_done}
use Rattle.guest_driver.specs.Driver.{begin_driver}
use Rattle.guest_driver.specs.PieceWorks.{object_bytes, write_piece}
use Rattle.guest_driver.specs.Pieces.{Piece, pieces}
use Rattle.sheep_node.specs.declared.course.Course.TheVariants.{Waiting, Driving}
use Rattle.sheep_node.specs.declared.course.Request.{Request}
use Rattle.sheep_node.specs.declared.input.Input.{Input}
use Rattle.sheep_node.specs.Changes.{EndsWork}
use Rattle.sheep_node.specs.Courses.{inode_open}
use Rattle.sheep_node.specs.May.{is_disk_course}
use Rattle.sheep_node.specs.SessionQueues.{session_among}
use Rattle.sheep_node.specs.StepState.{StepState}
use Rattle.sheep_node.specs.WantedWorks.{IsWantedAt, IsWorkWanted, IsWorkOfWrite}
use Rattle.sheep_world.specs.Began.{Began}
use Rattle.sheep_world.specs.NodeCauses.{input_of_cause, host_with_node}
use Rattle.sheep_world.specs.World.{Host}
use Rattle.sheep_world.specs.RunsWithAsks.{Move}
use Rattle.overlap_law.specs.MomentChanges as moments
use Rattle.overlap_law.specs.MomentChanges.{MomentChange, MomentTrail, RunsAreInRange}
use Rattle.overlap_law.specs.Past.{MomentWithPast, run_with_past}
use Rattle.overlap_law.specs.StepMoments.{SteppingNode, IsStepping, StepsByChanges, IsWithinStep, moment_in_step}
use Rattle.overlap_law.specs.WrittenPieces.{HasPiece, IsWrittenAlone, HasBehind, WhatIsWrittenStaysAlone, CreatesHavePieces}
use Rattle.overlap_law.proofs.AloneDisks.{had_disk}
use Rattle.overlap_law.proofs.AnswersInMoments.{not_lost}
use Rattle.overlap_law.proofs.CausedWorks.{HasWellWorks}
use Rattle.overlap_law.proofs.ClosedDrivers.{DriverCame, Remained, Started, Stepped, driver_came}
use Rattle.overlap_law.proofs.DrivenPieces.{has_in_place, begin_comes, CameFrom, Fetched, Created, Wrote, Entered, came_from}
use Rattle.overlap_law.proofs.EntryWorks.{known_disk}
use Rattle.overlap_law.proofs.KnownDisks.{FewAt, kind-of_object}
use Rattle.overlap_law.proofs.NoRecoveredDue.{began-with_past}
use Rattle.overlap_law.proofs.ShortTags.{knows_works}
use Rattle.overlap_law.proofs.WorksInMoments.{well_along}
use Rattle.overlap_law.proofs.WrittenAlone.{done_so}
use Rattle.overlap_law.proofs.WrittenKept.{has_then, kept}

-- ---- a change of a step

module _ (script : List Statement) (range : RunsAreInRange script) (events : List Move) (start : MomentWithPast)
    (ran : run_with_past script events ≡ Some start) (on : SteppingNode) (is : IsStepping script start.world on)
    (by : StepsByChanges on.cause) (so_far next : StepState) (within : IsWithinStep on so_far next)
    (trail : MomentTrail script start (moment_in_step script on start so_far))
    (creates : CreatesHavePieces (moment_in_step script on start so_far).world.hosts)
    (all : WhatIsWrittenStaysAlone (moment_in_step script on start so_far).world.hosts
    (moment_in_step script on start so_far).past.attempts) where
  abbrev here : MomentWithPast
  here = moment_in_step script on start so_far

  abbrev later : MomentWithPast
  later = moment_in_step script on start next

  abbrev was : Host
  was = host_with_node on.host so_far.node

  abbrev now : Host
  now = host_with_node on.host next.node

  abbrev input : Input
  input = input_of_cause on.cause

  change : MomentChange script start (moment_in_step script on start so_far) (moment_in_step script on start next)
  change = moments.StepGoesOn on so_far next is by within

  began : Began script start.world
  began = began-with_past script events start ran

  up : on.host.is_lost ≡ false
  up = not_lost on.host is.up

  was_there : tree.get (moment_in_step script on start so_far).world.hosts on.n ≡ Some (host_with_node on.host so_far.node)
  was_there = get-insert_same start.world.hosts on.n was

  now_there : tree.get (moment_in_step script on start next).world.hosts on.n ≡ Some (host_with_node on.host next.node)
  now_there = get-insert_same start.world.hosts on.n now

  well : HasWellWorks so_far.node
  well = well_along script range start began trail on.n was was_there

  -- a piece that is done now
  module _ (number req k : ℕ) (work : Work) (current : gateways.Attempt) (status : Status) (bytes : List ℕ) (payload : List ℕ)
      (stage : DriverStage) (piece : Piece) (rest : List Piece) (old : Disk)
      (ends : EndsWork (input_of_cause on.cause) on.host.node so_far number req k work current status
      (Driving (Writes payload stage piece rest)) bytes)
      (opened : (session_among number so_far.node.sessions).disk ≡ Some old) where
    wants : IsWorkOfWrite old.inode payload piece work.work stage
    wants =
        subst (λ (o : Option Disk). IsWorkWanted (inode_open o) (Driving (Writes payload stage piece rest)) work.work) opened
        (subst (λ (o : Option Request). IsWantedAt so_far.node.sessions o work.work) ends.ends.request
        (well.wanted req work.work (inl (work, ends.ends.learns.there, refl))))

    few : piece.index < OBJECTS_MAX
    few =
        All-head FewAt piece rest
        (well.on_known.courses req (record { session = number; course = Driving (Writes payload stage piece rest) }) ends.ends.request)

    among : IsPieceAmong payload piece
    among =
        All-head (IsPieceAmong payload) piece rest
        ((knows_works script range start began on is by so_far within.leads).sound.courses req
        (record { session = number; course = Driving (Writes payload stage piece rest) }) ends.ends.request)

    abbrev Done : Type 0
    Done = IsWrittenAlone (moment_in_step script on start so_far).past.attempts old.inode.vid payload piece

    done : is_making work.work ≡ true → oid_of work.work ≡ object_number old.inode.vid piece.index → HasPiece work.work payload piece → Done
    done making object has =
        done_so script range events start ran on is by so_far within.leads trail req k work current status ends.ends.learns ends.done making
        old.inode.vid payload piece object has

    pub wrote_now : stage ≡ InPlace → IsWrittenAlone (moment_in_step script on start so_far).past.attempts old.inode.vid payload piece
    wrote_now in_place =
        let same : work.work ≡ write_piece old.inode payload piece
        = subst (IsWorkOfWrite old.inode payload piece work.work) in_place wants in
        done (ap is_making same) (ap oid_of same)
        (subst (λ (w : ObjWork). HasPiece w payload piece) (sym same)
        (has_in_place old.inode payload piece
        (kind-of_object old.inode.vid piece.index (known_disk so_far.node well number old opened).disk.id few) among))

    pub created_now : stage ≡ Creating → IsWrittenAlone (moment_in_step script on start so_far).past.attempts old.inode.vid payload piece
    created_now creating =
        let (offset, made, is_so) = subst (IsWorkOfWrite old.inode payload piece work.work) creating wants in
        let same : work.work
        ≡ works.Create (object_number old.inode.vid piece.index) old.inode.spec.policy (object_bytes old.inode) offset made = cc (is_so) in
        done (ap is_making same) (ap oid_of same)
        (creates.each on.n was was_there up req (record {
          session = number;
          course = Driving
              (Writes payload stage piece rest);
        }) work payload
        piece rest ends.ends.request (ap (λ (s : DriverStage). Driving (Writes payload s piece rest)) creating) ends.ends.learns.there)

  -- ---- a request then

  module _ (req : ℕ) (request : Request) (there : tree.get next.node.requests req ≡ Some request) (opened : Disk)
      (at : (session_among request.session next.node.sessions).disk ≡ Some opened) (payload : List ℕ) (stage : DriverStage) (piece : Piece)
      (rest : List Piece) (course : request.course ≡ Driving (Writes payload stage piece rest)) where
    abbrev Has : Type 0
    Has = HasBehind (moment_in_step script on start next).past.attempts opened.inode.vid opened.inode.spec.shift payload stage piece rest

    -- it was where it is
    was_so : tree.get so_far.node.requests req ≡ Some request → Has
    was_so had =
        let off : is_disk_course request.course ≡ true = ap is_disk_course course in
        let d = had_disk script range events start ran on is by so_far next within trail request.session req request.course had off opened
        at in
        kept script range events start here later ran trail change on.n now now_there up req request there opened at payload stage piece
        rest course d.old d.vid d.spec (all.each on.n was was_there up req request d.old payload stage piece rest had d.opened course)

    begins : (ask : DiskAsk) (disk : Disk)
        → tree.get so_far.node.requests req ≡ Some (record { session = request.session; course = Waiting ask })
        → (session_among request.session so_far.node.sessions).disk ≡ Some disk
        → (begin_driver disk ask).driver ≡ Writes payload stage piece rest → Has
    begins ask disk had on_disk driver_so =
        let d = had_disk script range events start ran on is by so_far next within trail request.session req (Waiting ask) had refl opened
        at in
        let same : d.old ≡ disk = same_Some d.old disk (sym d.opened ∙ on_disk) in
        let (offset, cut, apart) = begin_comes payload stage piece rest disk ask driver_so in
        has_then script range events start here later ran trail change on.n now now_there up req request there opened at payload stage piece
        rest course disk (d.vid ∙ ap (λ (k : Disk). k.inode.vid) same) (d.spec ∙ ap (λ (k : Disk). k.inode.spec) same) offset [] cut
        (λ one among. absurd (Contains-nil one among)) (λ entering. absurd (apart entering))

    module _ (number : ℕ) (work : Work) (attempt : gateways.Attempt) (status : Status) (bytes : List ℕ) (driver : Driver) (disk : Disk)
        (step : DriverStep)
        (ends : EndsWork (input_of_cause on.cause) on.host.node so_far request.session req number work attempt status (Driving driver)
        bytes) (open_here : (session_among request.session so_far.node.sessions).disk ≡ Some disk)
        (goes : driver_on_done disk.inode bytes driver ≡ Some step) (driver_so : step.driver ≡ Writes payload stage piece rest) where
      abbrev Was : Piece → Type 0
      Was one = IsWrittenAlone (moment_in_step script on start so_far).past.attempts disk.inode.vid payload one

      -- what it had behind it then
      had : (now_at : DriverStage) (one : Piece) (left : List Piece) → driver ≡ Writes payload now_at one left
          → HasBehind (moment_in_step script on start so_far).past.attempts disk.inode.vid disk.inode.spec.shift payload now_at one left
      had now_at one left same =
          all.each on.n was was_there up req (record { session = request.session; course = Driving driver }) disk payload now_at one left
          ends.ends.request open_here (ap (λ (d : Driver). Driving d) same)

      ends_so : (now_at : DriverStage) (one : Piece) (left : List Piece) → driver ≡ Writes payload now_at one left
          → EndsWork (input_of_cause on.cause) on.host.node so_far request.session req number work attempt status
          (Driving (Writes payload now_at one left)) bytes
      ends_so now_at one left same =
          subst (λ (d : Driver). EndsWork (input_of_cause on.cause) on.host.node so_far request.session req number work attempt status
          (Driving d)
          bytes) same ends

      gives : (offset : ℕ) (front : List Piece) → pieces disk.inode.spec.shift offset (length payload) ≡ front ++ piece ∷ rest
          → ((one : Piece) → Contains front one → Was one) → (stage ≡ Entering → Was piece) → Has
      gives offset front cut each entered =
          let d = had_disk script range events start ran on is by so_far next within trail request.session req (Driving driver)
          ends.ends.request refl opened at in
          let same : d.old ≡ disk = same_Some d.old disk (sym d.opened ∙ open_here) in
          has_then script range events start here later ran trail change on.n now now_there up req request there opened at payload stage
          piece rest course disk (d.vid ∙ ap (λ (k : Disk). k.inode.vid) same) (d.spec ∙ ap (λ (k : Disk). k.inode.spec) same) offset front
          cut each entered

      -- the piece before is done
      one_more : (now_at : DriverStage) (one : Piece) → driver ≡ Writes payload now_at one (piece ∷ rest) → Was one → stage ≢ Entering → Has
      one_more now_at one same is_alone apart =
          let h = had now_at one (piece ∷ rest) same in
          gives h.offset (h.before ++ one ∷ []) (h.cut ∙ sym (append_assoc h.before (one ∷ []) (piece ∷ rest)))
          (λ other among. ⊎_elim
          (λ (old : Contains h.before other). h.each other old)
          (λ (new : one ≡ other). subst Was new is_alone)
          (Contains-push_cases h.before one other among))
          (λ entering. absurd (apart entering))

      by_origin : CameFrom payload stage piece rest driver → Has
      by_origin (Fetched same apart) =
          let h = had Fetching piece rest same in gives h.offset h.before h.cut h.each (λ entering. absurd (apart entering))
      by_origin (Created same entered) =
          let h = had Creating piece rest same in
          gives h.offset h.before h.cut h.each
          (λ entering. created_now request.session req number work attempt status bytes payload Creating piece rest disk
          (ends_so Creating piece rest same) open_here refl)
      by_origin (Wrote one same apart) =
          one_more InPlace one same
          (wrote_now request.session req number work attempt status bytes payload InPlace one (piece ∷ rest) disk
          (ends_so InPlace one (piece ∷ rest) same) open_here refl) apart
      by_origin (Entered one same apart) =
          one_more Entering one same ((had Entering one (piece ∷ rest) same).entered refl) apart

      goes_on : Has
      goes_on = by_origin (came_from payload stage piece rest disk.inode bytes driver step goes driver_so)

    has_now : Has
    has_now = by_case (driver_came so_far next within.change req request there (Writes payload stage piece rest) course)
      where
        by_case : DriverCame (input_of_cause on.cause) on.host.node so_far req request (Writes payload stage piece rest) → Has
        by_case (Remained had) = was_so had
        by_case (Started ask disk had on_disk driver_so) = begins ask disk had on_disk driver_so
        by_case (Stepped number work attempt status bytes driver disk step ends open_here goes driver_so) =
            goes_on number work attempt status bytes driver disk step ends open_here goes driver_so

  pub goes_on_alone : WhatIsWrittenStaysAlone (moment_in_step script on start next).world.hosts
      (moment_in_step script on start next).past.attempts
  goes_on_alone = record {
    each = λ n host at_host host_up req request opened payload stage piece rest there at course. ⊎_elim
        (λ (mine : (n ≡ on.n) × (now ≡ host)).
        has_now req request (ap (λ (h : Host). tree.get h.node.requests req) mine.1 ∙ there) opened
        (ap (λ (h : Host). (session_among request.session h.node.sessions).disk) mine.1 ∙ at) payload stage piece rest course)
        (λ (other : (n ≢ on.n) × (tree.get start.world.hosts n ≡ Some host)).
        kept script range events start here later ran trail change n host at_host host_up req request there opened at payload stage piece
        rest
        course opened refl refl
        (all.each n host (get-insert_other start.world.hosts on.n was n other.0 ∙ other.1) host_up req request opened payload stage piece
        rest
        there at course))
        (get-insert_cases start.world.hosts on.n now n host at_host);
  }
