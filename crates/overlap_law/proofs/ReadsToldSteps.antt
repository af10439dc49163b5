-- What a step tells its reads, reply by reply, may be read at each point of the step that follows, and so in its turn in the history.
use Rattle.std.proofs.Common.{◌≡◌, ⊎_elim, ℕ, ◌+◌, Bool, true, List, [], ◌∷◌, ◌++◌, length, map, Contains, fold, Option, Some}
use Rattle.std.proofs.Common.{refl, sym, ap, subst, ◌∙◌}
use Rattle.std.specs.Prelude.{◌/◌, flat_map}
use Rattle.std.specs.List.{range_with_len}
use Rattle.std.specs.Option.{option_and_then}
use Rattle.std.proofs.lemmas.List.Elements.{Contains-append_left, Contains-append_right}
use Rattle.std.proofs.lemmas.List.Sums.{fold-append}
use Rattle.std.proofs.lemmas.Option.{same_Some}
use Rattle.proof_tools.proofs.Lists.{Contains-cons_cases, Contains-nil}
use Rattle.object_id.specs.declared.limits.TheConstants.{BLOCK_BYTES}
use Rattle.cluster_script.specs.declared.statement.Statement.{Statement}
use Rattle.cluster_script.specs.declared.statement.Statement.TheVariants as lines
use Rattle.cluster_script.specs.NumberedRequests.{request_at}
use Rattle.disk_history.specs.declared.event.HistEvent.{HistEvent}
use Rattle.disk_history.specs.declared.event.HistEvent.TheVariants.{Read}
use Rattle.disk_history.specs.Ledger.{Ledger, empty_ledger, ledger_after}
use Rattle.guest_driver.specs.declared.disk.Disk.{Disk}
use Rattle.peer_proto.specs.declared.guest.DiskAsk.TheVariants as disk_asks
use Rattle.peer_proto.specs.declared.guest.GuestRsp.{GuestRsp}
use Rattle.peer_proto.specs.declared.guest.GuestRsp.TheVariants as answers
use Rattle.vdi_directory.specs.Decisions.{log_effects}
use Rattle.sheep_node.specs.declared.ask.Ask.TheVariants as asks
use Rattle.sheep_node.specs.declared.course.Course.{Course}
use Rattle.sheep_node.specs.declared.course.Course.TheVariants.{Waiting, Driving, Commanding, Checking, DoingWork, AwaitingDecision}
use Rattle.sheep_node.specs.Changes as changes
use Rattle.sheep_node.specs.Changes.{HasRequest, RequestSteps, ToReply}
use Rattle.sheep_node.specs.May.{is_disk_course}
use Rattle.sheep_node.specs.State.{session_at}
use Rattle.sheep_node.specs.StepState.{StepState, replies_in_order}
use Rattle.sheep_node.proofs.StepChain.{step_chain}
use Rattle.sheep_world.specs.Asking.{ask_of_statement}
use Rattle.sheep_world.specs.Began.{Began}
use Rattle.sheep_world.specs.HistoryAdditions.{added_by, block_in, blocks_read, disk_of, has_begun_check_write}
use Rattle.sheep_world.specs.NodeCauses.{event_of_cause, host_with_node, input_of_cause, progress_at_cause}
use Rattle.sheep_world.specs.RunsWithAsks.{Move}
use Rattle.overlap_law.specs.Headline.{ledger_of}
use Rattle.overlap_law.specs.HistoryGrowth.{added_at_cause, added_by_reply, check_write_at, world_at_cause}
use Rattle.overlap_law.specs.MomentChanges.{MomentChange, MomentTrail, TrailLeft, AtEnd, Next, StepGoesOn, RunsAreInRange}
use Rattle.overlap_law.specs.Past.{MomentWithPast, next_moment, run_with_past}
use Rattle.overlap_law.specs.RequestsOfScript.{IsCourseOfAsk, IsOnDisk}
use Rattle.overlap_law.specs.StandingReads.{asked_in, EachChangeServesReads, IsServingReads, IsToldAll, ReadsMayGoOn, ReadsStand}
use Rattle.overlap_law.specs.StepMoments.{SteppingNode, IsStepping, StepsByChanges, LeadsInStep, IsWithinStep, first_in_step, last_in_step}
use Rattle.overlap_law.specs.StepMoments.{moment_in_step}
use Rattle.overlap_law.specs.ToldReads.{MayStayReadAs, Reading}
use Rattle.overlap_law.proofs.AnswersInMoments.{not_lost}
use Rattle.overlap_law.proofs.CarriedTables.{good_id_at}
use Rattle.overlap_law.proofs.CoursesOfReads.{reads_are_told}
use Rattle.overlap_law.proofs.CoursesOfScript.{BeganOn, asked_by}
use Rattle.overlap_law.proofs.HistoryInMoments.{IsTold, is_told}
use Rattle.overlap_law.proofs.KnownSteps.{known_step}
use Rattle.overlap_law.proofs.MomentTrails.{leads_joined, to_point}
use Rattle.overlap_law.proofs.NoRecoveredDue.{began-with_past}
use Rattle.overlap_law.proofs.ReadsInSteps.{alone_so_far, may, queued, sole}
use Rattle.overlap_law.proofs.ReadsStay.{read_still}
use Rattle.overlap_law.proofs.ReadsToldDisks.{at_host, began_on, disk_in_step, grown_so, placed_at}
use Rattle.overlap_law.proofs.ReadsToldForward.{all_read_on, told_alike, told_later, told_weaker}
use Rattle.overlap_law.proofs.ReadsToldNew.{HowTold, WasTold, Refuses, Answers, new_told}
use Rattle.overlap_law.proofs.ReadsToldReplies.{of_read_or_write, read_read, reply_read}
use Rattle.overlap_law.proofs.RepliesApart.{apart_so_far}
use Rattle.overlap_law.proofs.RepliesOfChanges.{IsFree, RepliesGrow, Silent, Replied, change_replies}
use Rattle.overlap_law.proofs.RequestsInSteps.{received_replies, replies-in_order}
use Rattle.overlap_law.proofs.StandingInMoments.{added_last, kept_last}
use Rattle.overlap_law.proofs.ToldBlocks.{AreReadAs}
use Rattle.overlap_law.proofs.GoingOn.{next_by}
use Rattle.overlap_law.proofs.CoursesOfAsks.{placed_as}
use Rattle.overlap_law.proofs.PlacedAnew.{disk_of_scripts}

-- what is read changes nothing
reads_same : (vid offset : ℕ) (rsp : GuestRsp) (ledger : Ledger) → fold ledger_after ledger (blocks_read vid offset rsp) ≡ ledger
reads_same vid offset answers.Done ledger = refl
reads_same vid offset (answers.Piece bytes) ledger = each (range_with_len 0 (length bytes / BLOCK_BYTES))
  where
    each : (places : List ℕ)
        → fold ledger_after ledger (map (λ (place : ℕ). Read vid (offset / BLOCK_BYTES + place) (block_in bytes place)) places) ≡ ledger
    each [] = refl
    each (place ∷ places) = each places
reads_same vid offset (answers.Refused cause) ledger = refl
reads_same vid offset (answers.Granted id) ledger = refl
reads_same vid offset (answers.Checked found) ledger = refl

-- an element of one of several lists
among_flat : {X Y : Type 0} (make : X → List Y) (xs : List X) (x : X) (y : Y) → Contains xs x → Contains (make x) y
    → Contains (flat_map make xs) y
among_flat make [] x y among own = absurd (Contains-nil x among)
among_flat make (first ∷ xs) x y among own = ⊎_elim
    (λ (here : first ≡ x).
    Contains-append_left (make first) (flat_map make xs) y (subst (λ (one : _). Contains (make one) y) (sym here) own))
    (λ (later : Contains xs x). Contains-append_right (make first) (flat_map make xs) y (among_flat make xs x y later own))
    (Contains-cons_cases first xs x among)

module _ (script : List Statement) (range : RunsAreInRange script) (serves : EachChangeServesReads script) (events : List Move)
    (start : MomentWithPast) (run : run_with_past script events ≡ Some start) (stepping : SteppingNode)
    (is : IsStepping script start.world stepping) (by : StepsByChanges stepping.cause) where
  began : Began script start.world
  began = began-with_past script events start run

  abbrev good_id : ℕ → Bool
  good_id = good_id_at start

  abbrev at : StepState → MomentWithPast
  at so_far = moment_in_step script stepping start so_far

  abbrev added : ℕ × GuestRsp → List HistEvent
  added = added_by_reply script start.world stepping.cause

  abbrev last : StepState
  last = last_in_step stepping

  happens : next_moment script is.made.move start ≡ Some (moment_in_step script stepping start last)
  happens = next_by script (event_of_cause stepping.n stepping.cause) start _ is.made

  -- what is left of a step
  left_of : {first middle : StepState} → LeadsInStep stepping (first_in_step stepping) first → LeadsInStep stepping first middle
      → LeadsInStep stepping middle last → TrailLeft script start (at middle) (at last) → TrailLeft script start (at first) (at last)
  left_of front changes.Still rest left = left
  left_of front (changes.Then {so_far} {next} leads change) rest left =
      left_of front leads (leads_joined (changes.Then changes.Still change) rest)
      (Next (StepGoesOn stepping so_far next is by (record { leads = leads_joined front leads; change = change; rest = rest })) left)

  -- what is told of a block is told so that it stays, at a point of the step
  abbrev Stays : StepState → Reading
  Stays so_far = MayStayReadAs (at so_far).past.attempts

  abbrev AllTold : StepState → ℕ × GuestRsp → Type 0
  AllTold so_far reply = AreReadAs (Stays so_far) (ledger_of (at so_far).past.history) good_id (added reply)

  abbrev AreTold : StepState → Type 0
  AreTold so_far = (reply : ℕ × GuestRsp) → Contains so_far.outputs.replies reply → AllTold so_far reply

  -- ---- one change

  module _ (so_far next : StepState) (within : IsWithinStep stepping so_far next)
      (trail : MomentTrail script start (moment_in_step script stepping start so_far)) where
    abbrev change : MomentChange script start (moment_in_step script stepping start so_far) (moment_in_step script stepping start next)
    change = StepGoesOn stepping so_far next is by within

    left : TrailLeft script start (moment_in_step script stepping start next) (moment_in_step script stepping start last)
    left = left_of (changes.Then within.leads within.change) within.rest changes.Still AtEnd

    served : IsServingReads script start (moment_in_step script stepping start so_far) (moment_in_step script stepping start next) good_id
    served =
        serves.each events is.made.move start (at last) (at so_far) (at next)
        (record { run = run; happens = happens; behind = trail; change = change; left = left })

    -- what was told stays so
    later : (reply : ℕ × GuestRsp) → Contains so_far.outputs.replies reply → AllTold so_far reply → AllTold next reply
    later reply among told =
        all_read_on (Stays so_far) (Stays next) (ledger_of (at so_far).past.history) (ledger_of (at next).past.history) good_id
        (added reply)
        (λ vid block bytes read one.
        told_weaker (Stays so_far) (Stays next) (ledger_of (at next).past.history) vid block bytes
        (λ items may_be. read_still script range events start (at so_far) (at next) run trail change items bytes may_be)
        (told_alike (Stays so_far) (ledger_of ((at so_far).past.history ++ served.kept.added)) (ledger_of (at next).past.history) vid block
        bytes (kept_last served.kept vid)
        (told_later (at so_far).past.attempts vid block (at so_far).past.history served.kept.added
        (served.kept.told
        (added_at_cause script start.world stepping.cause ++ flat_map added so_far.outputs.replies)
        (grown_so script range events start run stepping is by so_far within.leads) vid block bytes
        (Contains-append_right (added_at_cause script start.world stepping.cause) (flat_map added so_far.outputs.replies)
        (Read vid block bytes) (among_flat added so_far.outputs.replies reply (Read vid block bytes) among read)))
        bytes one)))
        told

    -- where the reads stand
    stand : ReadsStand (Stays so_far) (ledger_of (at so_far).past.history) (log_effects (at so_far).world.log) good_id (asked_in script)
        so_far.node
    stand =
        served.stand.each stepping.n (host_with_node stepping.host so_far.node)
        (at_host script range events start run stepping is by so_far within.leads) (not_lost stepping.host is.up)

    goes : ReadsMayGoOn (Stays so_far) (ledger_of (at so_far).past.history) (log_effects (at so_far).world.log) good_id (asked_in script)
        (input_of_cause stepping.cause) stepping.host.node so_far
    goes = served.goes.each stepping so_far is by within.leads refl

    -- ---- a reply to a read

    module _ (req session : ℕ) (rsp : GuestRsp) (moved : StepState)
        (steps : RequestSteps (input_of_cause stepping.cause) stepping.host.node so_far session req (ToReply rsp) moved) where
      of_asks : (line offset size : ℕ) → request_at script req ≡ Some (lines.Read line offset size)
          → asked_in script req ≡ Some (asks.Disk (disk_asks.Read offset size))
      of_asks line offset size at_line = ap (option_and_then ask_of_statement) at_line

      on_disk : (course : Course) → HasRequest session req course so_far → is_disk_course course ≡ true
          → (began : Option ℕ) × BeganOn script (progress_at_cause stepping.cause start.world) req began
          × IsOnDisk (session_at session so_far.node).disk began
      on_disk course there is_disk = by_course course is_disk
          (placed_as (asked_by script) (BeganOn script (progress_at_cause stepping.cause start.world)) req
          (session_at session so_far.node).disk course (disk_of_scripts course is_disk)
          (placed_at script range events start run stepping is by so_far within.leads session req course there))
        where
          by_course : (course : Course) → is_disk_course course ≡ true
              → (began : Option ℕ) × BeganOn script (progress_at_cause stepping.cause start.world) req began
              × IsCourseOfAsk (asked_by script req) (session_at session so_far.node).disk began course
              → (began : Option ℕ) × BeganOn script (progress_at_cause stepping.cause start.world) req began
              × IsOnDisk (session_at session so_far.node).disk began
          by_course (Waiting ask) is_disk (began, on, of) = (began, on, of.1)
          by_course (Driving driver) is_disk (began, on, of) = (began, on, of.on)
          by_course (Commanding op) is_disk placed = absurd (cc (is_disk))
          by_course (Checking check) is_disk placed = absurd (cc (is_disk))
          by_course (DoingWork work) is_disk placed = absurd (cc (is_disk))
          by_course (AwaitingDecision entry) is_disk placed = absurd (cc (is_disk))

      -- its reply tells all that it asked for, of the disk that its session has open
      pub told_all : (disk : Disk) → (session_at session so_far.node).disk ≡ Some disk
          → IsToldAll (Stays so_far) (ledger_of (at so_far).past.history) (log_effects (at so_far).world.log) good_id disk.inode
          (asked_in script req) rsp
      told_all disk opened =
          reads_are_told (Stays so_far) (ledger_of (at so_far).past.history) (log_effects (at so_far).world.log) good_id (asked_in script)
          (input_of_cause stepping.cause) stepping.host.node so_far moved session req rsp disk (may script range start began stepping is by)
          (queued script range start began stepping is by) (sole script range start began stepping is by)
          (alone_so_far script range start began stepping is by so_far within.leads) steps opened goes stand

      reads_so : (vid line offset size : ℕ) → disk_of script req (world_at_cause start.world stepping.cause) ≡ Some vid
          → request_at script req ≡ Some (lines.Read line offset size)
          → AreReadAs (Stays so_far) (ledger_of (at so_far).past.history) good_id (blocks_read vid offset rsp)
      reads_so vid line offset size on at_line =
          let asks_so = of_asks line offset size at_line in
          let own = of_read_or_write (Stays so_far) (ledger_of (at so_far).past.history) (log_effects (at so_far).world.log) good_id
          (asked_in script) (input_of_cause stepping.cause) stepping.host.node so_far goes.brought stand session req (ToReply rsp) moved
          steps (disk_asks.Read offset size) asks_so in
          let (first, started, opened) = on_disk own.course own.there own.is_disk in
          let same : opened.disk.inode.vid ≡ vid
          = same_Some opened.disk.inode.vid vid
          (sym (began_on script range events start run stepping is by so_far within.leads req first started ∙ opened.same) ∙ on) in
          subst (λ (id : ℕ). AreReadAs (Stays so_far) (ledger_of (at so_far).past.history) good_id (blocks_read id offset rsp)) same
          (read_read script (Stays so_far) (ledger_of (at so_far).past.history) good_id req (log_effects (at so_far).world.log) opened.disk
          (disk_in_step script range events start run stepping is by so_far within.leads trail session req own.course own.there own.is_disk
          opened.disk opened.there) line offset size at_line rsp (told_all opened.disk opened.there) rsp refl)

    -- behind what it adds itself it is as it was
    module _ (reply : ℕ × GuestRsp) (given : IsTold script range start began stepping so_far next reply) where
      abbrev written : Bool
      written = has_begun_check_write script reply.0 (world_at_cause start.world stepping.cause) (check_write_at start.world stepping.cause)

      abbrev its_disk : Option ℕ
      its_disk = disk_of script reply.0 (world_at_cause start.world stepping.cause)

      as_before : (vid line offset size : ℕ) → its_disk ≡ Some vid → request_at script reply.0 ≡ Some (lines.Read line offset size)
          → (v : ℕ)
          → (ledger_of (at next).past.history).disks v ≡ (ledger_of (at so_far).past.history).disks v
      as_before vid line offset size on at_line v =
          let reads : added reply ≡ blocks_read vid offset reply.1
          = ap (λ (o : Option ℕ). added_by written reply.0 reply.1 o (request_at script reply.0)) on
          ∙ ap (added_by written reply.0 reply.1 (Some vid)) at_line in
          ap (λ (history : List HistEvent). (ledger_of history).disks v) given.now
          ∙ added_last (at so_far).past.history given.front (added reply) given.back given.were given.apart v
          ∙ ap (λ (ledger : Ledger). ledger.disks v) (fold-append ledger_after empty_ledger (at so_far).past.history (added reply)
          ∙ ap (fold ledger_after (ledger_of (at so_far).past.history)) reads
          ∙ reads_same vid offset reply.1 (ledger_of (at so_far).past.history))

      by_how : HowTold (input_of_cause stepping.cause) stepping.host.node so_far reply → AllTold next reply
      by_how (WasTold among) = absurd (given.free reply among refl)
      by_how (Refuses (cause, same)) =
          subst (λ (rsp : GuestRsp). AllTold next (reply.0, rsp)) (sym same)
          (reply_read script (Stays next) (ledger_of (at next).past.history) good_id reply.0 written (answers.Refused cause) its_disk
          (request_at script reply.0) refl (λ vid line offset size on at_line. tt))
      by_how (Answers session moved steps) =
          reply_read script (Stays next) (ledger_of (at next).past.history) good_id reply.0 written reply.1 its_disk
          (request_at script reply.0) refl
          (λ vid line offset size on at_line.
          all_read_on (Stays so_far) (Stays next) (ledger_of (at so_far).past.history) (ledger_of (at next).past.history) good_id
          (blocks_read vid offset reply.1)
          (λ disk block bytes among one.
          told_weaker (Stays so_far) (Stays next) (ledger_of (at next).past.history) disk block bytes
          (λ items may_be. read_still script range events start (at so_far) (at next) run trail change items bytes may_be)
          (told_alike (Stays so_far) (ledger_of (at so_far).past.history) (ledger_of (at next).past.history) disk block bytes
          (as_before vid line offset size on at_line disk) one))
          (reads_so reply.0 session reply.1 moved steps vid line offset size on at_line))

    pub told_next : AreTold so_far → AreTold next
    told_next told = by_replies so_far.outputs.replies next.outputs.replies refl refl
        (change_replies (input_of_cause stepping.cause) stepping.host.node so_far next within.change
        (apart_so_far (input_of_cause stepping.cause) stepping.host.node
        (known_step script range start.world began stepping is).sound within.leads))
      where
        by_replies : (replies grown : List (ℕ × GuestRsp)) → so_far.outputs.replies ≡ replies → next.outputs.replies ≡ grown
            → RepliesGrow replies grown → AreTold next
        by_replies replies grown were now Silent = λ reply among.
            let old : Contains so_far.outputs.replies reply
            = subst (λ (list : List (ℕ × GuestRsp)). Contains list reply) (now ∙ sym were) among in
            later reply old (told reply old)
        by_replies replies grown were now (Replied new free) = λ reply among. ⊎_elim
            (λ (own : new ≡ reply).
            let given = is_told script range start began stepping by so_far next new
            (subst (IsFree new.0) (sym were) free) (now ∙ ap (replies_in_order new) (sym were)) in
            subst (AllTold next) own
            (by_how new given (new_told (input_of_cause stepping.cause) stepping.host.node so_far next within.change new given.among)))
            (λ (before : Contains replies reply).
            let old : Contains so_far.outputs.replies reply
            = subst (λ (list : List (ℕ × GuestRsp)). Contains list reply) (sym were) before in
            later reply old (told reply old))
            (replies-in_order new replies reply (subst (λ (list : List (ℕ × GuestRsp)). Contains list reply) now among))

  -- ---- along the step

  told_first : AreTold (first_in_step stepping)
  told_first reply among =
      absurd (Contains-nil reply (subst (λ (list : List (ℕ × GuestRsp)). Contains list reply)
      (received_replies (input_of_cause stepping.cause) stepping.host.node) among))

  told_along : {so_far : StepState} → LeadsInStep stepping (first_in_step stepping) so_far → LeadsInStep stepping so_far last
      → AreTold so_far
  told_along changes.Still rest = told_first
  told_along (changes.Then {so_far} {next} leads change) rest =
      told_next so_far next (record { leads = leads; change = change; rest = rest })
      (to_point script start stepping is by leads (leads_joined (changes.Then changes.Still change) rest))
      (told_along leads (leads_joined (changes.Then changes.Still change) rest))

  pub told_at_end : AreTold last
  told_at_end = told_along (step_chain (input_of_cause stepping.cause) stepping.host.node) changes.Still
