-- What a write has behind it stays the disk's own by the table as its node goes on in a step: a piece is written in place where the table
-- says so, and of one that was created the table says so as its entry is written.
use Rattle.std.proofs.Common.{◌≡◌, ◌≢◌, inl, ⊎_elim, ℕ, true, false, List, [], ◌∷◌, ◌++◌, length, Contains, Option, Some, IfSome}
use Rattle.std.proofs.Common.{slice_index, refl, sym, ap, subst, ◌∙◌, append_assoc}
use Rattle.std.specs.FinMap as tree
use Rattle.std.proofs.lemmas.List.Elements.{All-head, Contains-push_cases}
use Rattle.std.proofs.lemmas.Option.{same_Some}
use Rattle.proof_tools.proofs.FiniteMaps.{get-insert_same, get-insert_other, get-insert_cases}
use Rattle.proof_tools.proofs.Lists.{Contains-nil}
use Rattle.object_id.specs.declared.entry.VdiSpec.{VdiSpec}
use Rattle.object_id.specs.Oid.{IsVid, object_number}
use Rattle.cluster_script.specs.declared.statement.Statement.{Statement}
use Rattle.inode.specs.Layout.{Content}
use Rattle.peer_proto.specs.declared.guest.DiskAsk.{DiskAsk}
use Rattle.peer_proto.specs.declared.guest.GuestRsp.TheVariants as replies
use Rattle.peer_proto.specs.declared.work.ObjWork.{ObjWork}
use Rattle.peer_proto.specs.declared.work.ObjWork.TheVariants as works
use Rattle.peer_proto.specs.Work.{oid_of}
use Rattle.gateway.specs.Attempt as gateways
use Rattle.gateway.specs.State.{Work}
use Rattle.gateway.specs.Work.{is_making}
use Rattle.gateway.specs.declared.message.Status.{Status}
use Rattle.guest_driver.specs.declared.disk.Disk.{Disk}
use Rattle.guest_driver.specs.Driver.{Driver, Writes, DriverStage, DriverStep, InPlace, Fetching, Creating, Entering, driver_on_done}
use Rattle.guest_driver.specs.Driver.{begin_driver}
use Rattle.guest_driver.specs.PieceWorks.{object_bytes, table_with_entry, write_entry}
use Rattle.guest_driver.specs.Pieces.{Piece, pieces}
use Rattle.sheep_node.specs.declared.course.Course.{Course}
use Rattle.sheep_node.specs.declared.course.Course.TheVariants.{Waiting, Driving}
use Rattle.sheep_node.specs.declared.course.Request.{Request}
use Rattle.sheep_node.specs.declared.input.Input.{Input}
use Rattle.sheep_node.specs.Changes as changes
use Rattle.sheep_node.specs.Changes.{EndsWork, IsSoundStep}
use Rattle.sheep_node.specs.Courses.{inode_open}
use Rattle.sheep_node.specs.May.{is_disk_course}
use Rattle.sheep_node.specs.SessionQueues.{session_among}
use Rattle.sheep_node.specs.StepState.{StepState}
use Rattle.sheep_node.specs.WantedWorks.{IsWantedAt, IsWorkWanted, IsWorkOfWrite, IsWorkOfDriver}
use Rattle.sheep_node.proofs.NumberChanges.{both_in_chain}
use Rattle.sheep_world.specs.Began.{Began}
use Rattle.sheep_world.specs.NodeCauses.{input_of_cause, host_with_node}
use Rattle.sheep_world.specs.World.{Host}
use Rattle.sheep_world.specs.RunsWithAsks.{Move}
use Rattle.overlap_law.specs.AloneEntries.{IsOwnByTable, HasOwnBehind, OwnObjectsAreBehind}
use Rattle.overlap_law.specs.MomentChanges as moments
use Rattle.overlap_law.specs.MomentChanges.{MomentTrail, RunsAreInRange}
use Rattle.overlap_law.specs.Past.{MomentWithPast, run_with_past}
use Rattle.overlap_law.specs.StepMoments.{SteppingNode, IsStepping, StepsByChanges, IsWithinStep, moment_in_step}
use Rattle.overlap_law.proofs.AloneDisks.{HadDisk, had_disk, long_table, own_new}
use Rattle.overlap_law.proofs.AnswersInMoments.{not_lost}
use Rattle.overlap_law.proofs.CausedWorks.{HasWellWorks, by_changes}
use Rattle.overlap_law.proofs.ClosedDrivers.{DriverCame, Remained, Started, Stepped, driver_came}
use Rattle.overlap_law.proofs.DrivenPieces.{begin_comes, CameFrom, Fetched, Created, Wrote, Entered, came_from}
use Rattle.overlap_law.proofs.DriverEntries.{no_inode}
use Rattle.overlap_law.proofs.EntryWorks.{known_disk}
use Rattle.overlap_law.proofs.KnownDisks.{FewAt, IsKnownCourse}
use Rattle.overlap_law.proofs.KnownSteps.{known_step}
use Rattle.overlap_law.proofs.NoRecoveredDue.{began-with_past}
use Rattle.overlap_law.proofs.RepliesApart.{apart_so_far}
use Rattle.overlap_law.proofs.TablesInSteps.{entered_step}
use Rattle.overlap_law.proofs.WaitedInRuns.{works_wait}
use Rattle.overlap_law.proofs.WaitedSteps.{Waits}
use Rattle.overlap_law.proofs.WorksAtCourses.{HaveAt}
use Rattle.overlap_law.proofs.WorksGoOn.{WorkAfter, GoesOn, IsDone, IsRefused, work_after}
use Rattle.overlap_law.proofs.WorksInMoments.{well_along}

-- the work of a piece whose entry isn't being written is another
not_entry : (inode other : Content) (payload : List ℕ) (piece one : Piece) (work : ObjWork) (stage : DriverStage) → IsVid inode.vid
    → FewAt piece → stage ≢ Entering → IsWorkOfWrite inode payload piece work stage → work ≡ write_entry other one → ⊥
not_entry inode other payload piece one work InPlace id few apart wants entry =
    no_inode inode.vid piece.index other.vid id few (sym (ap oid_of wants) ∙ ap oid_of entry)
not_entry inode other payload piece one work Fetching id few apart (vid, wants) entry =
    let reads : is_making work ≡ false = ap is_making wants in
    let writes : is_making work ≡ true = ap is_making entry in
    cc (reads, writes)
not_entry inode other payload piece one work Creating id few apart (offset, bytes, wants) entry =
    let same : work ≡ works.Create (object_number inode.vid piece.index) inode.spec.policy (object_bytes inode) offset bytes = cc (wants) in
    no_inode inode.vid piece.index other.vid id few (sym (ap oid_of same) ∙ ap oid_of entry)
not_entry inode other payload piece one work Entering id few apart wants entry = absurd (apart refl)

-- ---- a change of a step

module _ (script : List Statement) (range : RunsAreInRange script) (events : List Move) (start : MomentWithPast)
    (ran : run_with_past script events ≡ Some start) (on : SteppingNode) (is : IsStepping script start.world on)
    (by : StepsByChanges on.cause) (so_far next : StepState) (within : IsWithinStep on so_far next)
    (trail : MomentTrail script start (moment_in_step script on start so_far)) where
  abbrev here : MomentWithPast
  here = moment_in_step script on start so_far

  abbrev was : Host
  was = host_with_node on.host so_far.node

  abbrev now : Host
  now = host_with_node on.host next.node

  abbrev input : Input
  input = input_of_cause on.cause

  began : Began script start.world
  began = began-with_past script events start ran

  up : on.host.is_lost ≡ false
  up = not_lost on.host is.up

  was_there : tree.get (moment_in_step script on start so_far).world.hosts on.n ≡ Some (host_with_node on.host so_far.node)
  was_there = get-insert_same start.world.hosts on.n was

  now_there : tree.get (moment_in_step script on start next).world.hosts on.n ≡ Some (host_with_node on.host next.node)
  now_there = get-insert_same start.world.hosts on.n now

  well : HasWellWorks so_far.node
  well = well_along script range start began trail on.n was was_there

  well_then : HasWellWorks next.node
  well_then =
      well_along script range start began (moments.Then trail (moments.StepGoesOn on so_far next is by within)) on.n now now_there

  sound : IsSoundStep (input_of_cause on.cause) on.host.node
  sound = (known_step script range start.world began on is).sound

  waits_here : HaveAt Waits so_far.node.gateway.works so_far.node.requests so_far.node.sessions
  waits_here =
      works_wait script range start.world began on.n on.host is.there is.up on.cause (by_changes on.cause by) is.caused so_far within.leads

  -- a piece that is written in place is the disk's own by the table
  pub own_in_place : (session req number : ℕ) (work : Work) (attempt : gateways.Attempt) (status : Status) (bytes payload : List ℕ)
      (one : Piece) (left : List Piece) (disk : Disk)
      → EndsWork (input_of_cause on.cause) on.host.node so_far session req number work attempt status
      (Driving (Writes payload InPlace one left)) bytes
      → (session_among session so_far.node.sessions).disk ≡ Some disk → IsOwnByTable disk.inode one.index
  own_in_place session req number work attempt status bytes payload one left disk ends open_here inside =
      let waits : Waits (session_among session so_far.node.sessions).disk (Driving (Writes payload InPlace one left)) work.work
      = subst (λ (r : Option Request). IfSome r (λ (r : Request). Waits (session_among r.session so_far.node.sessions).disk r.course
      work.work)) ends.ends.request (waits_here req work.work (inl (work, ends.ends.learns.there, refl))) in
      let (found, there, own) = waits.1 in
      subst (λ (d : Disk). slice_index d.inode.table one.index ≡ d.inode.vid) (same_Some found disk (sym there ∙ open_here)) own

  -- ---- a request then

  module _ (all : OwnObjectsAreBehind (moment_in_step script on start so_far).world.hosts) (req : ℕ) (request : Request)
      (there : tree.get next.node.requests req ≡ Some request) (opened : Disk)
      (at : (session_among request.session next.node.sessions).disk ≡ Some opened) (payload : List ℕ) (stage : DriverStage) (piece : Piece)
      (rest : List Piece) (course : request.course ≡ Driving (Writes payload stage piece rest)) where
    abbrev Has : Type 0
    Has = HasOwnBehind opened.inode payload piece rest

    -- with these pieces behind it
    has_then : (old : Disk) → opened.inode.spec ≡ old.inode.spec → (offset : ℕ) (front : List Piece)
        → pieces old.inode.spec.shift offset (length payload) ≡ front ++ piece ∷ rest
        → ((one : Piece) → Contains front one → IsOwnByTable opened.inode one.index) → Has
    has_then old spec_so offset front cut each = record {
      offset = offset;
      before = front;
      cut = ap (λ (s : VdiSpec). pieces s.shift offset (length payload)) spec_so ∙ cut;
      each = each;
    }

    -- it was where it is
    was_so : tree.get so_far.node.requests req ≡ Some request → Has
    was_so had =
        let d = had_disk script range events start ran on is by so_far next within trail request.session req request.course had
        (ap is_disk_course course) opened at in
        let h = all.each on.n was was_there up req request d.old payload stage piece rest had d.opened course in
        has_then d.old d.spec h.offset h.before h.cut (λ one among. d.own one.index (h.each one among))

    begins : (ask : DiskAsk) (disk : Disk)
        → tree.get so_far.node.requests req ≡ Some (record { session = request.session; course = Waiting ask })
        → (session_among request.session so_far.node.sessions).disk ≡ Some disk
        → (begin_driver disk ask).driver ≡ Writes payload stage piece rest → Has
    begins ask disk had on_disk driver_so =
        let d = had_disk script range events start ran on is by so_far next within trail request.session req (Waiting ask) had refl opened
        at in
        let same : d.old ≡ disk = same_Some d.old disk (sym d.opened ∙ on_disk) in
        let (offset, cut, apart) = begin_comes payload stage piece rest disk ask driver_so in
        has_then disk (d.spec ∙ ap (λ (k : Disk). k.inode.spec) same) offset [] cut (λ one among. absurd (Contains-nil one among))

    module _ (number : ℕ) (work : Work) (attempt : gateways.Attempt) (status : Status) (bytes : List ℕ) (driver : Driver) (disk : Disk)
        (step : DriverStep)
        (ends : EndsWork (input_of_cause on.cause) on.host.node so_far request.session req number work attempt status (Driving driver)
        bytes) (open_here : (session_among request.session so_far.node.sessions).disk ≡ Some disk)
        (goes : driver_on_done disk.inode bytes driver ≡ Some step) (driver_so : step.driver ≡ Writes payload stage piece rest) where
      had_open : HadDisk so_far.node.sessions request.session opened
      had_open =
          had_disk script range events start ran on is by so_far next within trail request.session req (Driving driver) ends.ends.request
          refl
          opened at

      old_so : had_open.old ≡ disk
      old_so = same_Some had_open.old disk (sym had_open.opened ∙ open_here)

      spec_so : opened.inode.spec ≡ disk.inode.spec
      spec_so = had_open.spec ∙ ap (λ (k : Disk). k.inode.spec) old_so

      -- what is the disk's own stays so
      stays : (index : ℕ) → IsOwnByTable disk.inode index → IsOwnByTable opened.inode index
      stays index was_own = had_open.own index (subst (λ (k : Disk). IsOwnByTable k.inode index) (sym old_so) was_own)

      -- what it had behind it then
      had : (now_at : DriverStage) (one : Piece) (left : List Piece) → driver ≡ Writes payload now_at one left
          → HasOwnBehind disk.inode payload one left
      had now_at one left same =
          all.each on.n was was_there up req (record { session = request.session; course = Driving driver }) disk payload now_at one left
          ends.ends.request open_here (ap (λ (d : Driver). Driving d) same)

      same_piece : (now_at : DriverStage) → driver ≡ Writes payload now_at piece rest → Has
      same_piece now_at same =
          let h = had now_at piece rest same in
          has_then disk spec_so h.offset h.before h.cut (λ one among. stays one.index (h.each one among))

      -- the piece before is done
      one_more : (now_at : DriverStage) (one : Piece) → driver ≡ Writes payload now_at one (piece ∷ rest)
          → IsOwnByTable opened.inode one.index → Has
      one_more now_at one same is_own =
          let h = had now_at one (piece ∷ rest) same in
          has_then disk spec_so h.offset (h.before ++ one ∷ []) (h.cut ∙ sym (append_assoc h.before (one ∷ []) (piece ∷ rest)))
          (λ other among. ⊎_elim
          (λ (old : Contains h.before other). stays other.index (h.each other old))
          (λ (new : one ≡ other). subst (λ (p : Piece). IsOwnByTable opened.inode p.index) new is_own)
          (Contains-push_cases h.before one other among))

      -- the disk has the entry that was written
      module _ (one : Piece) (same : driver ≡ Writes payload Entering one (piece ∷ rest)) (apart : stage ≢ Entering) where
        abbrev driven : Driver
        driven = Writes payload Entering one (piece ∷ rest)

        asked : tree.get so_far.node.requests req
            ≡ Some (record { session = request.session; course = Driving (Writes payload Entering one (piece ∷ rest)) })
        asked = ends.ends.request ∙ ap (λ (d : Driver). Some (record { session = request.session; course = Driving d })) same

        wants : IsWorkOfDriver disk.inode (Writes payload Entering one (piece ∷ rest)) work.work
        wants =
            subst (λ (o : Option Disk). IsWorkWanted (inode_open o) (Driving driven) work.work) open_here
            (subst (λ (o : Option Request). IsWantedAt so_far.node.sessions o work.work) asked
            (well.wanted req work.work (inl (work, ends.ends.learns.there, refl))))

        -- another work is none of an entry
        never_again : (later : Work) → tree.get next.node.gateway.works req ≡ Some later → later.work ≡ work.work → ⊥
        never_again later got_later same_work =
            let id = (known_disk next.node well_then request.session opened at).disk.id in
            let few = All-head FewAt piece rest
            (subst (IsKnownCourse well_then.known) course (well_then.on_known.courses req request there)) in
            let wants_later : IsWorkOfWrite opened.inode payload piece later.work stage
            = subst (λ (o : Option Disk). IsWorkWanted (inode_open o) (Driving (Writes payload stage piece rest)) later.work) at
            (subst (λ (c : Course). IsWorkWanted (inode_open (session_among request.session next.node.sessions).disk) c later.work) course
            (subst (λ (o : Option Request). IsWantedAt next.node.sessions o later.work) there
            (well_then.wanted req later.work (inl (later, got_later, refl))))) in
            not_entry opened.inode disk.inode payload piece one later.work stage id few apart wants_later (same_work ∙ wants)

        entered_so : WorkAfter (input_of_cause on.cause) on.host.node so_far next req work
            → opened.inode ≡ table_with_entry disk.inode one
        entered_so (GoesOn later got_later same_work) = absurd (never_again later got_later same_work)
        entered_so (IsDone d) =
            let mine : Request = record { session = request.session; course = Driving driven } in
            let its : Request = record { session = d.session; course = Driving d.driver } in
            let alike : mine ≡ its = same_Some mine its (sym asked ∙ d.ends.ends.request) in
            let session_so : request.session ≡ d.session = ap (λ (r : Request). r.session) alike in
            let course_so : Driving (Writes payload Entering one (piece ∷ rest))
            ≡ Driving d.driver = ap (λ (r : Request). r.course) alike in
            let driver_same : Writes payload Entering one (piece ∷ rest) ≡ d.driver = cc (course_so) in
            let disk_so : disk ≡ d.disk
            = same_Some disk d.disk
            (sym open_here ∙ ap (λ (k : ℕ). (session_among k so_far.node.sessions).disk) session_so ∙ d.opened) in
            let went : driver_on_done disk.inode d.bytes driven ≡ Some d.step
            = (λ i. driver_on_done (disk_so i).inode d.bytes (driver_same i)) ∙ d.goes in
            let table : d.step.inode ≡ table_with_entry disk.inode one
            = entered_step disk.inode d.bytes payload one (piece ∷ rest) d.step went in
            let then : opened ≡ record d.disk { inode = d.step.inode }
            = same_Some opened (record d.disk { inode = d.step.inode })
            (sym at ∙ ap (λ (k : ℕ). (session_among k next.node.sessions).disk) session_so ∙ d.after) in
            ap (λ (k : Disk). k.inode) then ∙ table
        entered_so (IsRefused cause among) =
            absurd (apart_so_far (input_of_cause on.cause) on.host.node sound (changes.Then within.leads within.change) req request
            (req, replies.Refused cause) there among refl)

        own_entered : IsOwnByTable opened.inode one.index
        own_entered =
            subst (λ (i : Content). IsOwnByTable i one.index) (sym (entered_so
            (work_after (input_of_cause on.cause) on.host.node sound so_far
            (both_in_chain (input_of_cause on.cause) on.host.node sound so_far within.leads).0 req work ends.ends.learns.there
            request.session driven
            asked disk open_here wants next within.change)))
            (own_new disk.inode one one.index
            (long_table script range events start ran on is by so_far next within trail request.session disk open_here) refl)

      by_origin : CameFrom payload stage piece rest driver → Has
      by_origin (Fetched same apart) = same_piece Fetching same
      by_origin (Created same entered) = same_piece Creating same
      by_origin (Wrote one same apart) =
          one_more InPlace one same
          (stays one.index (own_in_place request.session req number work attempt status bytes payload one (piece ∷ rest) disk
          (subst (λ (d : Driver). EndsWork (input_of_cause on.cause) on.host.node so_far request.session req number work attempt status
          (Driving d)
          bytes) same ends) open_here))
      by_origin (Entered one same apart) = one_more Entering one same (own_entered one same apart)

      goes_on : Has
      goes_on = by_origin (came_from payload stage piece rest disk.inode bytes driver step goes driver_so)

    has_now : Has
    has_now = by_case (driver_came so_far next within.change req request there (Writes payload stage piece rest) course)
      where
        by_case : DriverCame (input_of_cause on.cause) on.host.node so_far req request (Writes payload stage piece rest) → Has
        by_case (Remained had) = was_so had
        by_case (Started ask disk had on_disk driver_so) = begins ask disk had on_disk driver_so
        by_case (Stepped number work attempt status bytes driver disk step ends open_here goes driver_so) =
            goes_on number work attempt status bytes driver disk step ends open_here goes driver_so

  pub goes_on_own : OwnObjectsAreBehind (moment_in_step script on start so_far).world.hosts
      → OwnObjectsAreBehind (moment_in_step script on start next).world.hosts
  goes_on_own all = record {
    each = λ n host at_host host_up req request opened payload stage piece rest there at course. ⊎_elim
        (λ (mine : (n ≡ on.n) × (now ≡ host)).
        has_now all req request (ap (λ (h : Host). tree.get h.node.requests req) mine.1 ∙ there) opened
        (ap (λ (h : Host). (session_among request.session h.node.sessions).disk) mine.1 ∙ at) payload stage piece rest course)
        (λ (other : (n ≢ on.n) × (tree.get start.world.hosts n ≡ Some host)).
        all.each n host (get-insert_other start.world.hosts on.n was n other.0 ∙ other.1) host_up req request opened payload stage piece
        rest there at course)
        (get-insert_cases start.world.hosts on.n now n host at_host);
  }
