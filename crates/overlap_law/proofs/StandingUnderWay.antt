-- What a write under way has to write stands by the history, in the middle of each step and behind each event of a run in range: who begins
-- writes on its disk waits for it, and none that waits for it is done.
use Rattle.std.proofs.Common.{◌≡◌, inl, ℕ, ◌+◌, ◌/◌, ◌<◌, ◌==◌, Bool, true, false, List, ◌++◌, length, Contains, Option, Some, refl, sym}
use Rattle.std.proofs.Common.{ap, subst, ◌∙◌, arith}
use Rattle.std.specs.Prelude.{nat_le}
use Rattle.std.specs.Option.{option_and_then, option_map_or}
use Rattle.std.specs.FinMap as tree
use Rattle.std.proofs.lemmas.Bool.{and_from, eq-eqb, le-leb}
use Rattle.std.proofs.lemmas.Option.{same_Some}
use Rattle.disk_history.specs.declared.event.HistEvent.{HistEvent}
use Rattle.cluster_script.specs.declared.statement.Statement.{Statement}
use Rattle.cluster_script.specs.NumberedRequests.{request_at, session_of}
use Rattle.cluster_script.specs.Sessions.{ScriptSession, session_numbered}
use Rattle.guest_driver.specs.declared.disk.Disk.{Disk}
use Rattle.guest_driver.specs.Driver as drivers
use Rattle.guest_driver.specs.Driver.{Driver, Reads, Writes}
use Rattle.peer_proto.specs.declared.guest.DiskAsk.{DiskAsk}
use Rattle.peer_proto.specs.declared.guest.DiskAsk.TheVariants as disk_asks
use Rattle.vdi_directory.specs.Decisions.{log_effects}
use Rattle.vdi_directory.specs.Effects.{holder_of}
use Rattle.sheep_node.specs.declared.ask.Ask.{Ask}
use Rattle.sheep_node.specs.declared.ask.Ask.TheVariants as asks
use Rattle.sheep_node.specs.declared.course.Course.{Course}
use Rattle.sheep_node.specs.declared.course.Course.TheVariants.{Waiting, Driving, Commanding, Checking, DoingWork, AwaitingDecision}
use Rattle.sheep_node.specs.declared.course.Request.{Request}
use Rattle.sheep_node.specs.declared.event.Event.{Event}
use Rattle.sheep_node.specs.declared.check_write.CheckWrite.{CheckWrite}
use Rattle.sheep_node.specs.SessionQueues.{command_in}
use Rattle.sheep_node.proofs.SessionViews.{IsSeen}
use Rattle.sheep_world.specs.Asking.{session_asking}
use Rattle.sheep_world.specs.Began.{Began, MakesMove}
use Rattle.sheep_world.specs.HistoryAdditions.{block_in}
use Rattle.sheep_world.specs.NodeCauses.{NodeCause, GuestAsks, IsCause, progress_at_cause}
use Rattle.sheep_world.specs.declared.progress.StartedRequest.{StartedRequest}
use Rattle.sheep_world.specs.Step.{EventOutcome}
use Rattle.sheep_world.specs.World.{Host}
use Rattle.sheep_world.specs.RunsWithAsks.{Move}
use Rattle.overlap_law.specs.CommandDisks.{opened_as}
use Rattle.overlap_law.specs.DiskEvents.{begins_by_others, is_asked_in}
use Rattle.overlap_law.specs.MomentChanges.{RunsAreInRange}
use Rattle.overlap_law.specs.Past.{MomentWithPast, run_with_past}
use Rattle.overlap_law.specs.RequestsOfScript.{IsCourseOfAsk, IsDriverOf}
use Rattle.overlap_law.specs.Words.{Hosts}
use Rattle.overlap_law.specs.Writers.{session_holder}
use Rattle.overlap_law.proofs.AllowedCourses.{HasWorking, IsAllowed, opened_by}
use Rattle.overlap_law.proofs.ComingWrites.{IsComing}
use Rattle.overlap_law.proofs.CoursesOfScript.{asked_by, BeganOn}
use Rattle.overlap_law.proofs.DiskEventsOfHolders.{HasNone, others_none}
use Rattle.overlap_law.proofs.DisksOfWriters.{IsOnOpenDisk, IsWriterAt, no_command, on_open_disk, of_writer}
use Rattle.overlap_law.proofs.HoldersInWorlds.{working_held}
use Rattle.overlap_law.proofs.NoRecoveredDue.{began-with_past}
use Rattle.overlap_law.proofs.OpenItemsInRuns.{fewer_make}
use Rattle.overlap_law.proofs.RefusedInRuns.{AreAnsweredAt, events_answered, opens_answered}
use Rattle.overlap_law.proofs.RunsByEvents.{run-kept_by_events}
use Rattle.overlap_law.proofs.SessionsOfRequests.{are_asked_by_line, of_ask, are_scripts}
use Rattle.overlap_law.proofs.StandingLists.{all_calm, is_later, strays, waiting}
use Rattle.overlap_law.proofs.StandingNumbers.{before_next}
use Rattle.overlap_law.proofs.StandingOnDisks.{StandsIn, still_stands}
use Rattle.overlap_law.proofs.StandingSteps.{one_node}
use Rattle.overlap_law.proofs.StartedOnce.{UnansweredAreOnce, caused_once, once-in_run}
use Rattle.overlap_law.proofs.StartedWrites.{writes_is}
use Rattle.overlap_law.proofs.UnansweredRequests.{Guests, unanswered_in}
use Rattle.overlap_law.proofs.WholeInRuns.{sound_world}
use Rattle.overlap_law.proofs.WorksInMoments.{well_in_world}
use Rattle.overlap_law.proofs.PlacedOfScript.{placed_of_script}

-- a request began on one disk
pub began_same : (script : List Statement) (guests : Guests) → UnansweredAreOnce guests → (req : ℕ) (one other : Option ℕ)
    → BeganOn script guests req one → BeganOn script guests req other → one ≡ other
began_same script guests once req one other first then =
    let session : first.session ≡ then.session = same_Some first.session then.session (sym first.asking ∙ then.asking) in
    let same : first.started ≡ then.started
    = once then.session first.started then.started
    (subst (λ (k : ℕ). Contains (unanswered_in k guests) first.started) session first.there) then.there (first.number ∙ sym then.number) in
    sym first.on ∙ ap (λ (s : StartedRequest). s.disk) same ∙ then.on

-- what a write works on is a working disk
module _ (offset : ℕ) (payload : List ℕ) (asked : Option Ask) (is : asked ≡ Some (asks.Disk (disk_asks.Write offset payload)))
    (disk : Disk) (began : Option ℕ) where
  is_working : HasWorking (Some (disk.snapshot, disk.inode.vid)) → disk.snapshot ≡ false
  is_working (vid, same) = ap (λ (p : Bool × ℕ). p.0) (same_Some (disk.snapshot, disk.inode.vid) (false, vid) same)

  by_ask : (ask : DiskAsk) → ask ≡ disk_asks.Write offset payload → IsAllowed (Some (disk.snapshot, disk.inode.vid)) (Waiting ask)
      → disk.snapshot ≡ false
  by_ask ask own allowed =
      is_working (subst (λ (a : DiskAsk). IsAllowed (Some (disk.snapshot, disk.inode.vid)) (Waiting a)) own allowed)

  by_driver : (on : Disk) (driver : Driver) → IsDriverOf on (disk_asks.Write offset payload) driver
      → IsAllowed (Some (disk.snapshot, disk.inode.vid)) (Driving driver) → disk.snapshot ≡ false
  by_driver on (Reads told piece rest) (from, size, apart, cut) allowed = absurd (cc (apart))
  by_driver on (Writes bytes stage piece rest) of allowed = is_working allowed
  by_driver on drivers.Answered never allowed = absurd never

  write_works : (course : Course) → IsAllowed (Some (disk.snapshot, disk.inode.vid)) course
      → IsCourseOfAsk asked (Some disk) began course → disk.snapshot ≡ false
  write_works (Waiting ask) allowed so = let of = so.0 in by_ask ask (cc (is, of)) allowed
  write_works (Driving driver) allowed so =
      let own : so.ask ≡ disk_asks.Write offset payload = cc (is, so.of) in
      by_driver so.on.disk driver (subst (λ (a : DiskAsk). IsDriverOf so.on.disk a driver) own so.is) allowed
  write_works (Commanding op) allowed so = let of = so.of in absurd (cc (is, of))
  write_works (Checking check) allowed so = let of = so.of in absurd (cc (is, of))
  write_works (DoingWork work) allowed so = absurd so
  write_works (AwaitingDecision entry) allowed so = absurd so

-- the item of each block of a write without reply stands, at each node that isn't lost
abbrev pub StandIn : List Statement → Hosts → Guests → List HistEvent → Type 0
StandIn script hosts guests history = (n : ℕ) (host : Host) → tree.get hosts n ≡ Some host → host.is_lost ≡ false → (req : ℕ)
    (request : Request) → tree.get host.node.requests req ≡ Some request → (vid : ℕ) → BeganOn script guests req (Some vid)
    → (offset : ℕ) (payload : List ℕ) → asked_by script req ≡ Some (asks.Disk (disk_asks.Write offset payload))
    → (place : ℕ) → place < length payload / 512
    → StandsIn req (waiting script req request.session (offset / 512 + place)) vid (offset / 512 + place) (block_in payload place) history

abbrev pub StandAt : List Statement → MomentWithPast → Type 0
StandAt script moment = StandIn script moment.world.hosts moment.world.guests moment.past.history

module _ (script : List Statement) (range : RunsAreInRange script) (events : List Move) (start : MomentWithPast)
    (ran : run_with_past script events ≡ Some start) where
  pub began : Began script start.world
  began = began-with_past script events start ran

  pub once : UnansweredAreOnce start.world.guests
  once = once-in_run script events start ran

  pub found_once : (n : ℕ) (host : Host) (cause : NodeCause) → IsCause script start.world n host cause
      → UnansweredAreOnce (progress_at_cause cause start.world)
  found_once n host cause caused =
      caused_once script start.world n host start.past.refused cause caused
      (run-kept_by_events script (AreAnsweredAt script) (opens_answered script) (events_answered script) events start ran)
      once

  module _ (n : ℕ) (host : Host) (there : tree.get start.world.hosts n ≡ Some host) (up : host.is_lost ≡ false) (req : ℕ) (was : Request)
      (had : tree.get host.node.requests req ≡ Some was) (offset : ℕ) (payload : List ℕ)
      (is : asked_by script req ≡ Some (asks.Disk (disk_asks.Write offset payload))) where
    pub writer : IsWriterAt script req
    writer = inl (writes_is offset payload (request_at script req) is)

    pub on_it : IsOnOpenDisk script range start.world began n host there req was had writer
    on_it = on_open_disk script range start.world began n host there req was had writer

    working : on_it.disk.snapshot ≡ false
    working =
        let allowed = subst (IsSeen opened_by IsAllowed host.node.sessions) had
        ((well_in_world script range start.world began n host there).allowed req) in
        let (begun, at, course) = placed_of_script script range start.world began n host there req was had (of_writer script req writer) in
        write_works offset payload (asked_by script req) is on_it.disk begun was.course
        (subst (λ (o : Option Disk). IsAllowed (opened_as o) was.course) on_it.opened allowed)
        (subst (λ (o : Option Disk). IsCourseOfAsk (asked_by script req) o begun was.course) on_it.opened course)

    held : holder_of (log_effects start.world.log) on_it.disk.inode.vid ≡ Some (session_holder n was.session)
    held =
        working_held script range start.world began n host there up was.session on_it.disk on_it.opened working
        (no_command script range start.world began n host there req was had writer)

    -- who begins writes on its disk is a later request of its session, or itself
    module _ (block : ℕ) where
      asked_there : (other number : ℕ) → session_asking script other ≡ Some number → number ≡ was.session
          → is_asked_in script was.session other ≡ true
      asked_there other number asking same =
          ap (λ (o : Option ℕ). option_map_or (λ (k : ℕ). k == was.session) o false) asking ∙ eq-eqb number was.session same

      by_guest : (m : ℕ) (second : Host) → tree.get start.world.hosts m ≡ Some second → (session : ScriptSession) (other : ℕ) (ask : Ask)
          → IsCause script start.world m second (GuestAsks session other ask) → session.number ≡ was.session
          → is_later script req was.session block other ≡ true
      by_guest m second found session other ask caused same =
          let less = before_next script range.is_script start.world began n host there session other ask m second caused req was had
          (sym same) in
          and_from (nat_le req other) (is_asked_in script was.session other) (le-leb req other (omega (arith, less)))
          (asked_there other session.number (ap (option_and_then session_of) caused.stands ∙ caused.own) same)

      by_check : (m : ℕ) (second : Host) → tree.get start.world.hosts m ≡ Some second → (write : CheckWrite)
          (comes : IsComing write second.node) → comes.session ≡ was.session → is_later script req was.session block write.req ≡ true
      by_check m second found write comes same =
          let its = are_scripts script range.is_script start.world began m second found write.req
          (record { session = comes.session; course = Checking comes.check }) comes.there refl in
          let mine = are_asked_by_line script start.world began n host there req was had
          (of_ask script req (asks.Disk (disk_asks.Write offset payload)) is) in
          let node : n ≡ m = one_node script n m was.session mine.of its.of mine.declared mine.of_node
          (ap (session_numbered script) (sym same) ∙ its.declared) its.of_node in
          let host_so : host ≡ second = same_Some host second (sym there ∙ ap (tree.get start.world.hosts) node ∙ found) in
          let sole = ((sound_world script range start.world began).hosts m second found).node.sole_commands in
          let named : command_in comes.session second.node.sessions ≡ Some write.req
          = sole.named write.req (record { session = comes.session; course = Checking comes.check }) comes.there refl in
          let own : req ≡ write.req
          = sole.alone comes.session write.req req was named
          (ap (λ (h : Host). tree.get h.node.requests req) (sym host_so) ∙ had) (sym same) in
          and_from (nat_le req write.req) (is_asked_in script was.session write.req) (le-leb req write.req (omega (arith, own)))
          (asked_there write.req comes.session its.asking same)

      pub later_none : (event : Event) (made : EventOutcome) → MakesMove script event start.world made
          → HasNone (begins_by_others on_it.disk.inode.vid (is_later script req was.session block)) made.grown
      later_none =
          others_none script range start.world began on_it.disk.inode.vid (session_holder n was.session) held
          (is_later script req was.session block)
          (λ m second found up_there session other ask caused same. by_guest m second found session other ask caused same)
          (λ m second found write comes same. by_check m second found write comes same)

    -- so its item stands behind whatever such is added
    pub goes_on : StandAt script start → (place : ℕ) → place < length payload / 512 → (grown : List HistEvent)
        → HasNone (begins_by_others on_it.disk.inode.vid (is_later script req was.session (offset / 512 + place))) grown
        → HasNone (strays script req was.session (offset / 512 + place)) grown
        → StandsIn req (waiting script req was.session (offset / 512 + place)) on_it.disk.inode.vid (offset / 512 + place)
        (block_in payload place) (start.past.history ++ grown)
    goes_on all place inside grown begins untouched =
        still_stands req (waiting script req was.session (offset / 512 + place)) on_it.disk.inode.vid (offset / 512 + place)
        (block_in payload place) start.past.history grown
        (fewer_make (is_later script req was.session (offset / 512 + place)) on_it.disk.inode.vid (offset / 512 + place) grown begins)
        (all_calm script req was.session (offset / 512 + place) on_it.disk.inode.vid grown begins untouched)
        (all n host there up req was had on_it.disk.inode.vid on_it.on offset payload is place inside)
