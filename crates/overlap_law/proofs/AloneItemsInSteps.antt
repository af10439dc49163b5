-- In the middle of a step of a run in range the items of each write of the node are on the working disk that its session has open alone,
-- and have the bytes of the write's blocks.
use Rattle.std.proofs.Common.{◌≡◌, inl, ℕ, Bool, true, false, List, [], ◌∷◌, ◌++◌, Option, Some, None, option_map, refl, sym, ap, subst}
use Rattle.std.proofs.Common.{◌∙◌}
use Rattle.std.specs.Prelude.{flat_map}
use Rattle.std.specs.List.{list_any}
use Rattle.std.specs.Option.{option_and_then}
use Rattle.std.specs.FinMap as tree
use Rattle.std.proofs.lemmas.Option.{same_Some}
use Rattle.disk_history.specs.declared.event.HistEvent.{HistEvent}
use Rattle.cluster_script.specs.declared.statement.Statement.{Statement}
use Rattle.cluster_script.specs.NumberedRequests.{request_at}
use Rattle.cluster_script.specs.Sessions.{ScriptSession}
use Rattle.guest_driver.specs.declared.disk.Disk.{Disk}
use Rattle.guest_driver.specs.Driver.{Driver, Reads, Writes, Answered}
use Rattle.peer_proto.specs.declared.guest.DiskAsk.{DiskAsk}
use Rattle.peer_proto.specs.declared.guest.DiskAsk.TheVariants as disk_asks
use Rattle.peer_proto.specs.declared.guest.GuestRsp.{GuestRsp}
use Rattle.peer_proto.specs.declared.guest.VdiAsk.{VdiAsk}
use Rattle.sheep_node.specs.declared.ask.Ask.{Ask}
use Rattle.sheep_node.specs.declared.ask.Ask.TheVariants as asks
use Rattle.sheep_node.specs.declared.course.Course.{Course}
use Rattle.sheep_node.specs.declared.course.Course.TheVariants.{Waiting, Driving, Commanding, Checking, DoingWork, AwaitingDecision}
use Rattle.sheep_node.specs.declared.course.Request.{Request}
use Rattle.sheep_node.specs.declared.input.Input.TheVariants as inputs
use Rattle.sheep_node.specs.SessionQueues.{session_among}
use Rattle.sheep_node.specs.StepState.{StepState}
use Rattle.sheep_node.proofs.SessionViews.{IsSeen}
use Rattle.sheep_world.specs.Asking.{ask_of_statement}
use Rattle.sheep_world.specs.Began.{Began}
use Rattle.sheep_world.specs.Effects.{open_disk_at}
use Rattle.sheep_world.specs.NodeCauses.{NodeCause, GuestAsks, RequestComes, ReplyComes, LossIsTold, EntryIsRead, EntryIsPut, RecoveryTicks}
use Rattle.sheep_world.specs.NodeCauses.{progress_at_cause}
use Rattle.sheep_world.specs.NodeCauses.{WorkIsRetried, ClientAsks, input_of_cause, IsCause}
use Rattle.sheep_world.specs.World.{Host}
use Rattle.sheep_world.specs.RunsWithAsks.{Move}
use Rattle.overlap_law.specs.AloneItems.{HasOwnItems}
use Rattle.overlap_law.specs.CommandDisks.{opened_as}
use Rattle.overlap_law.specs.Headline.{ledger_of}
use Rattle.overlap_law.specs.HistoryGrowth.{added_at_cause, added_by_reply, check_write_at, world_at_cause}
use Rattle.overlap_law.specs.MomentChanges.{RunsAreInRange}
use Rattle.overlap_law.specs.Past.{MomentWithPast, run_with_past}
use Rattle.overlap_law.specs.RequestsOfScript.{IsCourseOfAsk, IsDriverOf, IsOnDisk}
use Rattle.overlap_law.specs.StepMoments.{SteppingNode, IsStepping, StepsByChanges, LeadsInStep, first_in_step, moment_in_step}
use Rattle.overlap_law.proofs.AllowedCourses.{HasWorking, IsAskAllowed, IsDriverAllowed, IsAllowed, opened_by}
use Rattle.overlap_law.proofs.AloneCopies.{asks_begin_none, asks_copy_none, checks_begin_none, checks_copy_none, replies_copy_none}
use Rattle.overlap_law.proofs.AloneItemsInRuns.{AreOwn, AreOwnBegun, are_own-in_run, begun_fine, grown_own, items_own, others_fine}
use Rattle.overlap_law.proofs.AloneItemsInRuns.{unbegun_own}
use Rattle.overlap_law.proofs.AnswersInMoments.{not_lost}
use Rattle.overlap_law.proofs.CausedWorks.{by_changes}
use Rattle.overlap_law.proofs.CoursesAtChanges.{placed_in_chain}
use Rattle.overlap_law.proofs.CoursesOfAsks.{id_of_disk, ArePlaced, IsBrought, IsPlacedIn, PlacedSoFar, placed_by_ask, placed_unless}
use Rattle.overlap_law.proofs.CoursesOfAsks.{IsNoClients, IsPlacedAs, IsBroughtAs}
use Rattle.overlap_law.proofs.CoursesOfScript.{asked_by, BeganOn, brings, requests_placed}
use Rattle.overlap_law.proofs.HistoryInMoments.{history_so}
use Rattle.overlap_law.proofs.HoldersInWorlds.{open_here}
use Rattle.overlap_law.proofs.ItemsOfReplies as replied
use Rattle.overlap_law.proofs.ItemsOfReplies.{is_write_at}
use Rattle.overlap_law.proofs.ItemsOfRequests.{begins_write_of}
use Rattle.overlap_law.proofs.NoRecoveredDue.{began-with_past}
use Rattle.overlap_law.proofs.StartedAttempts.{next_is_new}
use Rattle.overlap_law.proofs.StartedWrites.{WritesBytes, writes_is}
use Rattle.overlap_law.proofs.UnderWayInRuns.{begun-in_run}
use Rattle.overlap_law.proofs.WholeInRuns.{may_change, sound_here}
use Rattle.overlap_law.proofs.WorksInMoments.{well_in_world}
use Rattle.overlap_law.proofs.AsksInCauses.{no_ask, not_begun}
use Rattle.overlap_law.proofs.PlacedAnew.{placed_anew, brought_anew, brought_asked}

-- ---- where a write is

module _ (asked : Option Ask) (offset : ℕ) (payload : List ℕ) (writes : asked ≡ Some (asks.Disk (disk_asks.Write offset payload))) where
  -- on the disk that its session has open
  pub on_disk : (opened : Option Disk) (began : Option ℕ) (course : Course) → IsCourseOfAsk asked opened began course
      → IsOnDisk opened began
  on_disk opened began (Waiting ask) is = is.1
  on_disk opened began (Driving driver) is = is.on
  on_disk opened began (Commanding op) is = let of = is.of in absurd (cc (writes, of))
  on_disk opened began (Checking check) is = is.on
  on_disk opened began (DoingWork work) is = absurd is
  on_disk opened began (AwaitingDecision entry) is = absurd is

  -- which is a working one
  module _ (disk : Disk) where
    of_working : HasWorking (Some (disk.snapshot, disk.inode.vid)) → disk.snapshot ≡ false
    of_working (vid, same) =
        ap (λ (p : Bool × ℕ). p.0) (same_Some (disk.snapshot, disk.inode.vid) (false, vid) same)

    by_driver : (on : Disk) (ask : DiskAsk) (driver : Driver) → asked ≡ Some (asks.Disk ask) → IsDriverOf on ask driver
        → IsDriverAllowed (Some (disk.snapshot, disk.inode.vid)) driver → disk.snapshot ≡ false
    by_driver on ask (Reads told piece rest) of (start, size, reads, left) allowed = absurd (cc (writes, of, reads))
    by_driver on ask (Writes bytes stage piece rest) of is allowed = of_working allowed
    by_driver on ask Answered of is allowed = absurd is

    on_working : (began : Option ℕ) (course : Course) → IsCourseOfAsk asked (Some disk) began course
        → IsAllowed (Some (disk.snapshot, disk.inode.vid)) course → disk.snapshot ≡ false
    on_working began (Waiting ask) is allowed =
        let of = is.0 in
        let same : ask ≡ disk_asks.Write offset payload = cc (of, writes) in
        of_working (subst (IsAskAllowed (Some (disk.snapshot, disk.inode.vid))) same allowed)
    on_working began (Driving driver) is allowed = by_driver is.on.disk is.ask driver is.of is.is allowed
    on_working began (Commanding op) is allowed = let of = is.of in absurd (cc (writes, of))
    on_working began (Checking check) is allowed = let of = is.of in absurd (cc (writes, of))
    on_working began (DoingWork work) is allowed = absurd is
    on_working began (AwaitingDecision entry) is allowed = absurd is

-- the disk of an id that is open
opened_of : (o : Option Disk) (vid : ℕ) → id_of_disk o ≡ Some vid → (disk : Disk) × (o ≡ Some disk) × (disk.inode.vid ≡ vid)
opened_of None vid is = absurd (cc (is))
opened_of (Some disk) vid is = (disk, refl, same_Some disk.inode.vid vid is)

-- ---- in the middle of a step

module _ (script : List Statement) (range : RunsAreInRange script) (events : List Move) (start : MomentWithPast)
    (ran : run_with_past script events ≡ Some start) (on : SteppingNode) (is : IsStepping script start.world on)
    (by : StepsByChanges on.cause) (so_far : StepState) (leads : LeadsInStep on (first_in_step on) so_far) where
  began : Began script start.world
  began = began-with_past script events start ran

  abbrev base : List HistEvent
  base = start.past.history ++ added_at_cause script start.world on.cause

  abbrev Asks : ℕ → ℕ → List ℕ → Type 0
  Asks req offset payload = asked_by script req ≡ Some (asks.Disk (disk_asks.Write offset payload))

  -- what a request has that began on this disk
  abbrev Begins : ℕ → Option ℕ → Type 0
  Begins req disk = (offset vid : ℕ) (payload : List ℕ) → Asks req offset payload → disk ≡ Some vid
      → AreOwn req vid offset payload (ledger_of (start.past.history ++ added_at_cause script start.world on.cause))

  -- ---- a request that was there, at whichever node

  module _ (n : ℕ) (host : Host) (there : tree.get start.world.hosts n ≡ Some host) (not_gone : host.is_lost ≡ false) (req : ℕ)
      (request : Request) (got : tree.get host.node.requests req ≡ Some request) (offset : ℕ) (payload : List ℕ)
      (asked : asked_by script req ≡ Some (asks.Disk (disk_asks.Write offset payload))) where
    writes : is_write_at script req ≡ true
    writes = writes_is offset payload (request_at script req) asked

    cause_fine : (vid : ℕ) (cause : NodeCause) → IsCause script start.world on.n on.host cause
        → AreOwnBegun req vid offset payload (added_at_cause script start.world cause)
    cause_fine vid (GuestAsks session other ask) caused =
        others_fine req vid offset payload (added_at_cause script start.world (GuestAsks session other ask))
        (asks_copy_none script vid other (open_disk_at session start.world) (request_at script other))
        (asks_begin_none script range start.world began req n host there request got on.n on.host session other ask caused)
    cause_fine vid (RequestComes name to asked) caused = tt
    cause_fine vid (ReplyComes name from rsp) caused =
        others_fine req vid offset payload (added_at_cause script start.world (ReplyComes name from rsp))
        (checks_copy_none script vid (check_write_at start.world (ReplyComes name from rsp)))
        (checks_begin_none script range start.world began req writes (check_write_at start.world (ReplyComes name from rsp)))
    cause_fine vid (LossIsTold name packet) caused = tt
    cause_fine vid (EntryIsRead entry) caused = tt
    cause_fine vid (EntryIsPut entry) caused = tt
    cause_fine vid RecoveryTicks caused = tt
    cause_fine vid WorkIsRetried caused = tt
    cause_fine vid (ClientAsks req ask) caused = tt

    pub own_there : (disk : Option ℕ) (vid : ℕ)
        → IsCourseOfAsk (asked_by script req) (session_among request.session host.node.sessions).disk disk request.course
        → disk ≡ Some vid → AreOwn req vid offset payload (ledger_of (start.past.history ++ added_at_cause script start.world on.cause))
    own_there disk vid course same =
        let opened : Option Disk = (session_among request.session host.node.sessions).disk in
        let at = on_disk (asked_by script req) offset payload asked opened disk request.course course in
        let vid_so : vid ≡ at.disk.inode.vid = same_Some vid at.disk.inode.vid (sym same ∙ at.same) in
        let allowed : IsAllowed (opened_by (session_among request.session host.node.sessions)) request.course
        = subst (IsSeen opened_by IsAllowed host.node.sessions) got
        ((well_in_world script range start.world began n host there).allowed req) in
        let working = on_working (asked_by script req) offset payload asked at.disk disk request.course
        (subst (λ (o : Option Disk). IsCourseOfAsk (asked_by script req) o disk request.course) at.there course)
        (subst (λ (o : Option Disk). IsAllowed (opened_as o) request.course) at.there allowed) in
        subst (λ (k : ℕ). AreOwn req k offset payload (ledger_of base)) (sym vid_so)
        (grown_own req at.disk.inode.vid offset payload start.past.history (added_at_cause script start.world on.cause)
        (cause_fine at.disk.inode.vid on.cause is.caused)
        (are_own-in_run script range events start ran n host there not_gone req offset payload at.disk
        (record { request = request; there = got; on = at.there; working = working }) asked))

  start_so : ArePlaced (asked_by script) Begins on.host.node.requests on.host.node.sessions
  start_so req =
      by_got (tree.get on.host.node.requests req) refl (requests_placed script range start.world began on.n on.host is.there req)
    where
      by_got : (o : Option Request) → tree.get on.host.node.requests req ≡ o
          → IsPlacedIn (asked_by script) (BeganOn script start.world.guests) req on.host.node.sessions o
          → IsPlacedIn (asked_by script) Begins req on.host.node.sessions o
      by_got None got placed = tt
      by_got (Some request) got is_placed =
          placed_anew (asked_by script) (BeganOn script start.world.guests) Begins req
          (session_among request.session on.host.node.sessions).disk request.course
          (λ (was : IsPlacedAs (asked_by script) (BeganOn script start.world.guests) req
          (session_among request.session on.host.node.sessions).disk request.course). (
            was.0,
            λ offset vid payload asked same.
                own_there on.n on.host is.there (not_lost on.host is.up) req request got offset payload asked was.0 vid was.2 same,
            was.2,
          )) is_placed

  -- ---- a request that begins

  -- it had begun nothing
  pub begins_first : (req : ℕ) (asking : ScriptSession) (other : ℕ) (what : Ask)
      → IsCause script start.world on.n on.host (GuestAsks asking other what) → other ≡ req
      → list_any (begins_write_of req) start.past.history ≡ false
  begins_first req asking other what caused own = by_value (list_any (begins_write_of req) start.past.history) refl
    where
      by_value : (b : Bool) → list_any (begins_write_of req) start.past.history ≡ b
          → list_any (begins_write_of req) start.past.history ≡ false
      by_value false none = none
      by_value true so =
          let was = begun-in_run script range req events start ran so in
          absurd (next_is_new script start.world.guests asking.number req (caused.next ∙ ap (λ (k : ℕ). Some k) own)
          (was.session, was.begun))

  -- nor had a client's
  pub client_first : (req begins : ℕ) (what : Ask) → IsCause script start.world on.n on.host (ClientAsks begins what) → begins ≡ req
      → list_any (begins_write_of req) start.past.history ≡ false
  client_first req begins what caused own = by_value (list_any (begins_write_of req) start.past.history) refl
    where
      by_value : (b : Bool) → list_any (begins_write_of req) start.past.history ≡ b
          → list_any (begins_write_of req) start.past.history ≡ false
      by_value false none = none
      by_value true so =
          let was = begun-in_run script range req events start ran so in absurd (not_begun caused was.session req own was.begun)

  begins_so : (cause : NodeCause) → IsCause script start.world on.n on.host cause → (req session : ℕ) (ask : Ask)
      → input_of_cause cause ≡ inputs.Guest req session ask → (offset vid : ℕ) (payload : List ℕ) → Asks req offset payload
      → id_of_disk (session_among session on.host.node.sessions).disk ≡ Some vid
      → AreOwn req vid offset payload (ledger_of (start.past.history ++ added_at_cause script start.world cause))
  begins_so (GuestAsks asking other what) caused req session ask from offset vid payload asked same =
      let own : other ≡ req = cc (from) in
      let number : asking.number ≡ session = cc (from) in
      let (disk, at, vid_so) = opened_of (session_among session on.host.node.sessions).disk vid same in
      let opened : open_disk_at asking start.world ≡ Some disk
      = open_here script range start.world began on.n on.host is.there is.up asking other what caused
      ∙ ap (λ (k : ℕ). (session_among k on.host.node.sessions).disk) number ∙ at in
      let asked_there : WritesBytes offset payload (option_and_then ask_of_statement (request_at script other))
      = subst (λ (k : ℕ). Asks k offset payload) (sym own) asked in
      grown_own req vid offset payload start.past.history (added_at_cause script start.world (GuestAsks asking other what))
      (begun_fine req vid offset payload other disk vid_so (open_disk_at asking start.world) (request_at script other) opened asked_there)
      (unbegun_own req vid offset payload start.past.history (begins_first req asking other what caused own))
  begins_so (RequestComes name to asked) caused req session ask from offset vid payload of same = absurd (cc (from))
  begins_so (ReplyComes name to rsp) caused req session ask from offset vid payload of same = absurd (cc (from))
  begins_so (LossIsTold name packet) caused req session ask from offset vid payload of same = absurd (cc (from))
  begins_so (EntryIsRead entry) caused req session ask from offset vid payload of same = absurd (cc (from))
  begins_so (EntryIsPut entry) caused req session ask from offset vid payload of same = absurd (cc (from))
  begins_so RecoveryTicks caused req session ask from offset vid payload of same = absurd (cc (from))
  begins_so WorkIsRetried caused req session ask from offset vid payload of same = absurd (cc (from))
  begins_so (ClientAsks begins what) caused req session ask from offset vid payload asked same =
      let of : begins ≡ req = cc (from) in absurd (no_ask caused req (asks.Disk (disk_asks.Write offset payload)) of asked)

  brought : IsBrought (asked_by script) Begins (input_of_cause on.cause) on.host.node
  brought req session ask from =
      brought_anew (asked_by script) (BeganOn script (progress_at_cause on.cause start.world)) Begins req
      (session_among session on.host.node.sessions).disk ask
      (λ (here : IsBroughtAs (asked_by script) (BeganOn script (progress_at_cause on.cause start.world)) req
      (session_among session on.host.node.sessions).disk ask). (
        here.0,
        here.1,
        λ offset vid payload asked same. begins_so on.cause is.caused req session ask from offset vid payload asked same,
      ))
      (brings script start.world on.n on.host on.cause is.there is.caused req session ask from)

  -- ---- a request then

  placed : PlacedSoFar (asked_by script) Begins so_far
  placed =
      placed_in_chain (asked_by script) Begins (input_of_cause on.cause) on.host.node
      (may_change script range start.world began on.n on.host is.there is.up on.cause (by_changes on.cause by) is.caused)
      (sound_here script range start.world began on.n on.host is.there is.up).queues
      (sound_here script range start.world began on.n on.host is.there is.up).sole_commands brought start_so so_far leads

  -- where it is, by what it asks
  pub course_in_step : (req : ℕ) (request : Request) → tree.get so_far.node.requests req ≡ Some request
      → IsNoClients (asked_by script req) request.course → (disk : Option ℕ)
      × IsCourseOfAsk (asked_by script req) (session_among request.session so_far.node.sessions).disk disk request.course
  course_in_step req request got unless_so =
      let (disk, at, course) = placed_unless (asked_by script) Begins req (session_among request.session so_far.node.sessions).disk
      request.course unless_so (subst (IsPlacedIn (asked_by script) Begins req so_far.node.sessions) got (placed req)) in
      (disk, course)

  pub asked_in_step : (req session : ℕ) (ask : Ask) → input_of_cause on.cause ≡ inputs.Guest req session ask
      → (asked_by script req ≡ None → ⊥) → asked_by script req ≡ Some ask
  asked_in_step req session ask from some =
      brought_asked (asked_by script) Begins req (session_among session on.host.node.sessions).disk ask (brought req session ask from) some

  pub command_asked : (req session : ℕ) (ask : VdiAsk) → input_of_cause on.cause ≡ inputs.Guest req session (asks.Vdi ask)
      → asked_by script req ≡ Some (asks.Vdi ask)
  command_asked req session ask from = (brought req session (asks.Vdi ask) from).1

  -- the replies so far leave items where they are
  pub by_replies : (req offset vid : ℕ) (payload : List ℕ)
      → AreOwn req vid offset payload (ledger_of (start.past.history ++ added_at_cause script start.world on.cause))
      → HasOwnItems req vid offset payload (ledger_of (moment_in_step script on start so_far).past.history)
  by_replies req offset vid payload own =
      let replies : List (ℕ × GuestRsp) = so_far.outputs.replies in
      let told : List HistEvent = flat_map (added_by_reply script start.world on.cause) so_far.outputs.replies in
      subst (λ (history : List HistEvent). HasOwnItems req vid offset payload (ledger_of history))
      (sym (history_so script range start began on by so_far))
      (items_own req vid offset payload (ledger_of (base ++ told))
      (grown_own req vid offset payload base told
      (others_fine req vid offset payload told
      (replies_copy_none script vid (world_at_cause start.world on.cause) (check_write_at start.world on.cause) replies)
      (replied.replies_none script req (world_at_cause start.world on.cause) (check_write_at start.world on.cause) replies))
      own))

  -- and so those of a request then
  pub own_in_step : (req : ℕ) (request : Request) → tree.get so_far.node.requests req ≡ Some request → (opened : Disk)
      → (session_among request.session so_far.node.sessions).disk ≡ Some opened → (offset : ℕ) (payload : List ℕ)
      → asked_by script req ≡ Some (asks.Disk (disk_asks.Write offset payload))
      → HasOwnItems req opened.inode.vid offset payload (ledger_of (moment_in_step script on start so_far).past.history)
  own_in_step req request got opened at offset payload asked =
      let (disk, so, course) = placed_by_ask (asked_by script) Begins req (asks.Disk (disk_asks.Write offset payload)) asked
      (session_among request.session so_far.node.sessions).disk request.course
      (subst (IsPlacedIn (asked_by script) Begins req so_far.node.sessions) got (placed req)) in
      let there = on_disk (asked_by script req) offset payload asked (session_among request.session so_far.node.sessions).disk disk
      request.course course in
      let same : disk ≡ Some opened.inode.vid
      = there.same ∙ ap (λ (d : Disk). Some d.inode.vid) (same_Some there.disk opened (sym there.there ∙ at)) in
      by_replies req offset opened.inode.vid payload (so offset opened.inode.vid payload asked same)
