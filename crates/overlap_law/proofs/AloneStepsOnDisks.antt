-- In the middle of a step of a run in range the items of each request of the node are on the disk that its session has open alone: only
-- writes and checks have any.
use Rattle.std.proofs.Common.{◌≡◌, inl, inr, ⊎_elim, ℕ, Bool, true, false, List, [], ◌++◌, Option, Some, None, option_map, refl, sym}
use Rattle.std.proofs.Common.{ap, subst, ◌∙◌}
use Rattle.std.specs.Prelude.{flat_map}
use Rattle.std.specs.List.{list_any}
use Rattle.std.specs.Option.{option_map_or, option_and_then}
use Rattle.std.specs.FinMap as tree
use Rattle.std.proofs.lemmas.Bool.{or_cases}
use Rattle.std.proofs.lemmas.List.Folds.{list_any-append}
use Rattle.std.proofs.lemmas.Option.{same_Some}
use Rattle.cluster_script.specs.declared.statement.Statement.{Statement}
use Rattle.cluster_script.specs.declared.statement.Statement.TheVariants as lines
use Rattle.cluster_script.specs.NumberedRequests.{request_at}
use Rattle.cluster_script.specs.Statements.{is_check}
use Rattle.disk_history.specs.declared.event.HistEvent.{HistEvent}
use Rattle.guest_driver.specs.declared.disk.Disk.{Disk}
use Rattle.peer_proto.specs.declared.guest.VdiAsk.TheVariants as disk_commands
use Rattle.sheep_node.specs.declared.ask.Ask.{Ask}
use Rattle.sheep_node.specs.declared.ask.Ask.TheVariants as asks
use Rattle.sheep_node.specs.declared.check_write.CheckWrite.{CheckWrite}
use Rattle.sheep_node.specs.declared.course.Course.{Course}
use Rattle.sheep_node.specs.declared.course.Course.TheVariants.{Waiting, Driving, Commanding, Checking, DoingWork, AwaitingDecision}
use Rattle.sheep_node.specs.declared.course.Request.{Request}
use Rattle.sheep_node.specs.declared.input.Input.TheVariants as inputs
use Rattle.sheep_node.specs.CheckWrites.{check_write_on}
use Rattle.sheep_node.specs.SessionQueues.{session_among}
use Rattle.sheep_node.specs.StepState.{StepState}
use Rattle.sheep_world.specs.Asking.{ask_of_statement}
use Rattle.sheep_world.specs.Began.{Began}
use Rattle.sheep_world.specs.Effects.{open_disk_at}
use Rattle.sheep_world.specs.HistoryAdditions.{check_write_grown}
use Rattle.sheep_world.specs.NodeCauses.{NodeCause, GuestAsks, RequestComes, ReplyComes, LossIsTold, EntryIsRead, EntryIsPut, RecoveryTicks}
use Rattle.sheep_world.specs.NodeCauses.{progress_at_cause}
use Rattle.sheep_world.specs.NodeCauses.{WorkIsRetried, ClientAsks, input_of_cause, IsCause}
use Rattle.sheep_world.specs.World.{Host, node_at}
use Rattle.sheep_world.specs.RunsWithAsks.{Move}
use Rattle.vdi_ops.specs.Op.{Op}
use Rattle.overlap_law.specs.AloneOnDisks.{HasItemsOn}
use Rattle.overlap_law.specs.Headline.{ledger_of}
use Rattle.overlap_law.specs.HistoryGrowth.{added_at_cause, added_by_reply, check_write_at, world_at_cause}
use Rattle.overlap_law.specs.MomentChanges.{RunsAreInRange}
use Rattle.overlap_law.specs.Past.{MomentWithPast, run_with_past}
use Rattle.overlap_law.specs.RequestsOfScript.{IsCourseOfAsk}
use Rattle.overlap_law.specs.StepMoments.{SteppingNode, IsStepping, StepsByChanges, LeadsInStep, first_in_step, moment_in_step}
use Rattle.overlap_law.proofs.AloneChecks.{AllBeginOn, begin_not, starts_on}
use Rattle.overlap_law.proofs.AloneCopies.{asks_begin_none, asks_copy_none, checks_copy_none, replies_copy_none}
use Rattle.overlap_law.proofs.AloneItems.{copies_disk}
use Rattle.overlap_law.proofs.AloneItemsInSteps.{begins_first, own_in_step}
use Rattle.overlap_law.proofs.AloneOnDisks.{AreOn, begins_none, check_on-in_run, items_on, still_on, unbegun_on, write_asks}
use Rattle.overlap_law.proofs.AnswersInMoments.{not_lost}
use Rattle.overlap_law.proofs.CausedWorks.{by_changes}
use Rattle.overlap_law.proofs.CoursesAtChanges.{placed_in_chain}
use Rattle.overlap_law.proofs.CoursesOfAsks.{ArePlaced, IsBrought, IsPlacedIn, PlacedSoFar, placed_by_ask, IsPlacedAs, IsBroughtAs}
use Rattle.overlap_law.proofs.CoursesOfScript.{asked_by, BeganOn, brings, requests_placed}
use Rattle.overlap_law.proofs.DisksOfWriters.{IsWriterAt, on_open_disk, plain_course}
use Rattle.overlap_law.proofs.HistoryInMoments.{history_so}
use Rattle.overlap_law.proofs.ItemsAtBegin.{check_begins, request_begins}
use Rattle.overlap_law.proofs.ItemsOfReplies as replied
use Rattle.overlap_law.proofs.ItemsOfReplies.{is_check_at, is_write_at}
use Rattle.overlap_law.proofs.ItemsOfRequests.{begins_write_of}
use Rattle.overlap_law.proofs.NoRecoveredDue.{began-with_past}
use Rattle.overlap_law.proofs.UnderWayInRuns.{writer_in_run}
use Rattle.overlap_law.proofs.WholeInRuns.{may_change, sound_here}
use Rattle.overlap_law.proofs.AsksInCauses.{no_such}
use Rattle.overlap_law.proofs.PlacedAnew.{placed_anew, brought_anew}

-- where a check is, that is no command: on the working disk that its session has open
pub check_working : (asked : Option Ask) → asked ≡ Some (asks.Vdi disk_commands.Check) → (opened : Option Disk) (began : Option ℕ)
    (course : Course) → IsCourseOfAsk asked opened began course → ((op : Op) → course ≡ Commanding op → ⊥)
    → (disk : Disk) × (opened ≡ Some disk) × (began ≡ Some disk.inode.vid) × (disk.snapshot ≡ false)
check_working asked checks opened began (Waiting ask) is plain = let of = is.0 in absurd (cc (checks, of))
check_working asked checks opened began (Driving driver) is plain = let of = is.of in absurd (cc (checks, of))
check_working asked checks opened began (Commanding op) is plain = absurd (plain op refl)
check_working asked checks opened began (Checking check) is plain = (is.on.disk, is.on.there, is.on.same, is.working)
check_working asked checks opened began (DoingWork work) is plain = absurd is
check_working asked checks opened began (AwaitingDecision entry) is plain = absurd is

-- a line that checks asks for a check
pub check_asked : (o : Option Statement) → option_map_or is_check o false ≡ true
    → option_and_then ask_of_statement o ≡ Some (asks.Vdi disk_commands.Check)
check_asked None is = absurd (cc (is))
check_asked (Some (lines.Check session)) is = refl
check_asked (Some s) is = absurd (cc (is))

module _ (script : List Statement) (range : RunsAreInRange script) (events : List Move) (start : MomentWithPast)
    (ran : run_with_past script events ≡ Some start) (on : SteppingNode) (is : IsStepping script start.world on)
    (by : StepsByChanges on.cause) (so_far : StepState) (leads : LeadsInStep on (first_in_step on) so_far) where
  began : Began script start.world
  began = began-with_past script events start ran

  abbrev base : List HistEvent
  base = start.past.history ++ added_at_cause script start.world on.cause

  -- what a check has that began on this disk
  abbrev Begins : ℕ → Option ℕ → Type 0
  Begins req disk = (vid : ℕ) → is_check_at script req ≡ true → disk ≡ Some vid
      → AreOn req vid (ledger_of (start.past.history ++ added_at_cause script start.world on.cause))

  -- ---- a check that was there

  copies_none : (vid : ℕ) (cause : NodeCause) → list_any (copies_disk vid) (added_at_cause script start.world cause) ≡ false
  copies_none vid (GuestAsks session other ask) =
      asks_copy_none script vid other (open_disk_at session start.world) (request_at script other)
  copies_none vid (RequestComes name to asked) = refl
  copies_none vid (ReplyComes name from rsp) = checks_copy_none script vid (check_write_at start.world (ReplyComes name from rsp))
  copies_none vid (LossIsTold name packet) = refl
  copies_none vid (EntryIsRead entry) = refl
  copies_none vid (EntryIsPut entry) = refl
  copies_none vid RecoveryTicks = refl
  copies_none vid WorkIsRetried = refl
  copies_none vid (ClientAsks req ask) = refl

  module _ (req : ℕ) (request : Request) (got : tree.get on.host.node.requests req ≡ Some request)
      (checks : is_check_at script req ≡ true) where
    begin_on : (disk : Disk) → (session_among request.session on.host.node.sessions).disk ≡ Some disk → (cause : NodeCause)
        → IsCause script start.world on.n on.host cause → AllBeginOn req disk.inode.vid (added_at_cause script start.world cause)
    begin_on disk opened (GuestAsks session other ask) caused =
        begin_not req disk.inode.vid (added_at_cause script start.world (GuestAsks session other ask))
        (asks_begin_none script range start.world began req on.n on.host is.there request got on.n on.host session other ask caused)
    begin_on disk opened (RequestComes name to asked) caused = tt
    begin_on disk opened (ReplyComes name from rsp) caused =
        let here : check_write_at start.world (ReplyComes name from rsp) ≡ check_write_on (inputs.Reply rsp) on.host.node
        = ap (λ (k : ℕ). option_and_then (check_write_on (inputs.Reply rsp)) (node_at k start.world)) caused.here
        ∙ ap (λ (o : Option Host). option_and_then (check_write_on (inputs.Reply rsp)) (option_map (λ (h : Host). h.node) o)) is.there in
        subst (λ (o : Option CheckWrite). AllBeginOn req disk.inode.vid (option_map_or (check_write_grown script) o [])) (sym here)
        (starts_on script range start.world began req on.n on.host is.there request got disk opened on.n on.host is.there rsp)
    begin_on disk opened (LossIsTold name packet) caused = tt
    begin_on disk opened (EntryIsRead entry) caused = tt
    begin_on disk opened (EntryIsPut entry) caused = tt
    begin_on disk opened RecoveryTicks caused = tt
    begin_on disk opened WorkIsRetried caused = tt
    begin_on disk opened (ClientAsks req ask) caused = tt

    on_there : (began_on : Option ℕ) (vid : ℕ)
        → IsCourseOfAsk (asked_by script req) (session_among request.session on.host.node.sessions).disk began_on request.course
        → began_on ≡ Some vid → AreOn req vid (ledger_of (start.past.history ++ added_at_cause script start.world on.cause))
    on_there began_on vid course same =
        let plain = (on_open_disk script range start.world began on.n on.host is.there req request got (inr checks)).plain in
        let (disk, opened, so, working) = check_working (asked_by script req) (check_asked (request_at script req) checks)
        (session_among request.session on.host.node.sessions).disk began_on request.course course plain in
        let vid_so : vid ≡ disk.inode.vid = same_Some vid disk.inode.vid (sym same ∙ so) in
        subst (λ (k : ℕ). AreOn req k (ledger_of base)) (sym vid_so)
        (still_on req disk.inode.vid start.past.history (added_at_cause script start.world on.cause) (copies_none disk.inode.vid on.cause)
        (begin_on disk opened on.cause is.caused)
        (check_on-in_run script range req checks events start ran on.n on.host is.there (not_lost on.host is.up) disk
        (record { request = request; there = got; on = opened; working = working })))

  start_on : ArePlaced (asked_by script) Begins on.host.node.requests on.host.node.sessions
  start_on req =
      by_got (tree.get on.host.node.requests req) refl (requests_placed script range start.world began on.n on.host is.there req)
    where
      by_got : (o : Option Request) → tree.get on.host.node.requests req ≡ o
          → IsPlacedIn (asked_by script) (BeganOn script start.world.guests) req on.host.node.sessions o
          → IsPlacedIn (asked_by script) Begins req on.host.node.sessions o
      by_got None got placed = tt
      by_got (Some request) got is_placed =
          placed_anew (asked_by script) (BeganOn script start.world.guests) Begins req
          (session_among request.session on.host.node.sessions).disk request.course
          (λ (was : IsPlacedAs (asked_by script) (BeganOn script start.world.guests) req
          (session_among request.session on.host.node.sessions).disk request.course). (
            was.0,
            λ vid checks same. on_there req request got checks was.0 vid was.2 same,
            was.2,
          )) is_placed

  -- ---- a check that begins

  begins_on_disk : (cause : NodeCause) → IsCause script start.world on.n on.host cause → (req session : ℕ) (ask : Ask)
      → input_of_cause cause ≡ inputs.Guest req session ask → (vid : ℕ) → is_check_at script req ≡ true
      → AreOn req vid (ledger_of (start.past.history ++ added_at_cause script start.world cause))
  begins_on_disk (GuestAsks asking other what) caused req session ask from vid checks =
      let own : other ≡ req = cc (from) in
      still_on req vid start.past.history (added_at_cause script start.world (GuestAsks asking other what))
      (copies_none vid (GuestAsks asking other what))
      (begin_not req vid (added_at_cause script start.world (GuestAsks asking other what))
      (begins_none script range req checks (open_disk_at asking start.world) other own))
      (unbegun_on req vid start.past.history (begins_first script range events start ran on is by so_far leads req asking other what caused
      own))
  begins_on_disk (RequestComes name to asked) caused req session ask from vid checks = absurd (cc (from))
  begins_on_disk (ReplyComes name to rsp) caused req session ask from vid checks = absurd (cc (from))
  begins_on_disk (LossIsTold name packet) caused req session ask from vid checks = absurd (cc (from))
  begins_on_disk (EntryIsRead entry) caused req session ask from vid checks = absurd (cc (from))
  begins_on_disk (EntryIsPut entry) caused req session ask from vid checks = absurd (cc (from))
  begins_on_disk RecoveryTicks caused req session ask from vid checks = absurd (cc (from))
  begins_on_disk WorkIsRetried caused req session ask from vid checks = absurd (cc (from))
  begins_on_disk (ClientAsks begins what) caused req session ask from vid checks =
      let same : begins ≡ req = cc (from) in absurd (no_such caused is_check req same checks)

  brought : IsBrought (asked_by script) Begins (input_of_cause on.cause) on.host.node
  brought req session ask from =
      brought_anew (asked_by script) (BeganOn script (progress_at_cause on.cause start.world)) Begins req
      (session_among session on.host.node.sessions).disk ask
      (λ (here : IsBroughtAs (asked_by script) (BeganOn script (progress_at_cause on.cause start.world)) req
      (session_among session on.host.node.sessions).disk ask). (
        here.0,
        here.1,
        λ vid checks same. begins_on_disk on.cause is.caused req session ask from vid checks,
      ))
      (brings script start.world on.n on.host on.cause is.there is.caused req session ask from)

  abbrev told : List HistEvent
  told = flat_map (added_by_reply script start.world on.cause) so_far.outputs.replies

  placed : PlacedSoFar (asked_by script) Begins so_far
  placed =
      placed_in_chain (asked_by script) Begins (input_of_cause on.cause) on.host.node
      (may_change script range start.world began on.n on.host is.there is.up on.cause (by_changes on.cause by) is.caused)
      (sound_here script range start.world began on.n on.host is.there is.up).queues
      (sound_here script range start.world began on.n on.host is.there is.up).sole_commands brought start_on so_far leads

  -- ---- whom the history has to have begun to write

  added_begins : (req : ℕ) (cause : NodeCause) → list_any (begins_write_of req) (added_at_cause script start.world cause) ≡ true
      → IsWriterAt script req
  added_begins req (GuestAsks session other ask) so =
      let begins = request_begins req other (open_disk_at session start.world) (request_at script other) so in
      inl (subst (λ (k : ℕ). is_write_at script k ≡ true) begins.0 begins.2)
  added_begins req (RequestComes name to request) so = absurd (cc (so))
  added_begins req (ReplyComes name from rsp) so =
      inr (check_begins script req (check_write_at start.world (ReplyComes name from rsp)) so).3
  added_begins req (LossIsTold name packet) so = absurd (cc (so))
  added_begins req (EntryIsRead entry) so = absurd (cc (so))
  added_begins req (EntryIsPut entry) so = absurd (cc (so))
  added_begins req RecoveryTicks so = absurd (cc (so))
  added_begins req WorkIsRetried so = absurd (cc (so))
  added_begins req (ClientAsks number asks) so = absurd (cc (so))

  told_none : (req : ℕ) → list_any (begins_write_of req) told ≡ false
  told_none req =
      replied.replies_none script req (world_at_cause start.world on.cause) (check_write_at start.world on.cause) so_far.outputs.replies

  pub writer_here : (req : ℕ) → list_any (begins_write_of req) (moment_in_step script on start so_far).past.history ≡ true
      → IsWriterAt script req
  writer_here req so =
      let added : List HistEvent = added_at_cause script start.world on.cause in
      let both = sym (list_any-append (begins_write_of req) base told)
      ∙ ap (list_any (begins_write_of req)) (sym (history_so script range start began on by so_far)) ∙ so in ⊎_elim
      (λ (grown : list_any (begins_write_of req) base ≡ true). ⊎_elim
      (λ (old : list_any (begins_write_of req) start.past.history ≡ true). writer_in_run script range req events start ran old)
      (λ (new : list_any (begins_write_of req) added ≡ true). added_begins req on.cause new)
      (or_cases (list_any (begins_write_of req) start.past.history) (list_any (begins_write_of req) added)
      (sym (list_any-append (begins_write_of req) start.past.history added) ∙ grown)))
      (λ (answered : list_any (begins_write_of req) told ≡ true). let none = told_none req in absurd (cc (none, answered)))
      (or_cases (list_any (begins_write_of req) base) (list_any (begins_write_of req) told) both)

  -- ---- a request then

  module _ (req : ℕ) (request : Request) (got : tree.get so_far.node.requests req ≡ Some request) (opened : Disk)
      (at : (session_among request.session so_far.node.sessions).disk ≡ Some opened) where
    check_here : is_check_at script req ≡ true
        → HasItemsOn req opened.inode.vid (ledger_of (moment_in_step script on start so_far).past.history)
    check_here checks =
        let vid : ℕ = opened.inode.vid in
        let (began_on, so, course) = placed_by_ask (asked_by script) Begins req (asks.Vdi disk_commands.Check)
        (check_asked (request_at script req) checks) (session_among request.session so_far.node.sessions).disk request.course
        (subst (IsPlacedIn (asked_by script) Begins req so_far.node.sessions) got (placed req)) in
        let there = (plain_course (asked_by script req) (inr (check_asked (request_at script req) checks))
        (session_among request.session so_far.node.sessions).disk began_on request.course course).on in
        let same : began_on ≡ Some opened.inode.vid
        = there.same ∙ ap (λ (d : Disk). Some d.inode.vid) (same_Some there.disk opened (sym there.there ∙ at)) in
        subst (λ (history : List HistEvent). HasItemsOn req opened.inode.vid (ledger_of history))
        (sym (history_so script range start began on by so_far))
        (items_on req vid (ledger_of (base ++ told))
        (still_on req vid base told
        (replies_copy_none script vid (world_at_cause start.world on.cause) (check_write_at start.world on.cause) so_far.outputs.replies)
        (begin_not req vid told (told_none req)) (so vid checks same)))

    by_writer : IsWriterAt script req
        → HasItemsOn req opened.inode.vid (ledger_of (moment_in_step script on start so_far).past.history)
    by_writer (inl writes) = λ disk block place item found own.
        let (offset, payload, asked) = write_asks (request_at script req) writes in
        (own_in_step script range events start ran on is by so_far leads req request got opened at offset payload asked disk block place
        item found own).same
    by_writer (inr checks) = check_here checks

    by_value : (b : Bool) → list_any (begins_write_of req) (moment_in_step script on start so_far).past.history ≡ b
        → HasItemsOn req opened.inode.vid (ledger_of (moment_in_step script on start so_far).past.history)
    by_value false none =
        let history : List HistEvent = (moment_in_step script on start so_far).past.history in
        items_on req opened.inode.vid (ledger_of history) (unbegun_on req opened.inode.vid history none)
    by_value true so = by_writer (writer_here req so)

    pub on_disk_in_step : HasItemsOn req opened.inode.vid (ledger_of (moment_in_step script on start so_far).past.history)
    on_disk_in_step = by_value (list_any (begins_write_of req) (moment_in_step script on start so_far).past.history) refl
