-- In each run in range what a check under way began to write stands: its session holds the disk, and begins no write on it but the check's.
use Rattle.std.proofs.Common.{◌≡◌, inr, ⊎_elim, ℕ, ◌==◌, Bool, true, false, not, ◌&&◌, ◌||◌, List, [], ◌∷◌, Contains, Option, Some, None}
use Rattle.std.proofs.Common.{is_none, refl, sym, ap, ◌∙◌}
use Rattle.std.specs.List.{list_any}
use Rattle.std.specs.Option.{option_map_or}
use Rattle.std.specs.FinMap as tree
use Rattle.std.proofs.lemmas.Bool.{eq-eqb, eqb-true, or_parts}
use Rattle.std.proofs.lemmas.List.Elements.{Contains-append_cases}
use Rattle.std.proofs.lemmas.Option.{same_Some}
use Rattle.object_id.specs.declared.entry.Entry.{Entry}
use Rattle.disk_history.specs.declared.event.HistEvent.{HistEvent}
use Rattle.disk_history.specs.declared.event.HistEvent.TheVariants.{Create, Copy, Delete, WriteStart, WriteDone, WriteRefused, WriterLost}
use Rattle.disk_history.specs.declared.event.HistEvent.TheVariants.{Read}
use Rattle.disk_history.specs.Changes.{items_in}
use Rattle.disk_history.specs.Ledger.{has_block}
use Rattle.cluster_script.specs.declared.statement.Statement.{Statement}
use Rattle.cluster_script.specs.declared.statement.Statement.TheVariants as lines
use Rattle.cluster_script.specs.NumberedRequests.{is_disk_request, request_at}
use Rattle.cluster_script.specs.Sessions.{ScriptSession, session_numbered}
use Rattle.cluster_script.specs.Statements.{is_check}
use Rattle.guest_driver.specs.declared.disk.Disk.{Disk}
use Rattle.sheep_node.specs.declared.course.Course.TheVariants.{Checking}
use Rattle.sheep_node.specs.declared.course.Request.{Request}
use Rattle.sheep_node.specs.declared.event.Event.{Event}
use Rattle.sheep_node.specs.SessionQueues.{command_in, session_among}
use Rattle.sheep_world.specs.World.{Host, World}
use Rattle.sheep_world.specs.Began.{Began, MakesMove}
use Rattle.sheep_world.specs.Effects.{open_disk_at, request_started}
use Rattle.sheep_world.specs.EventKinds.{outcome_of_step}
use Rattle.sheep_world.specs.HistoryAdditions.{is_write, replies_grown, request_grown}
use Rattle.sheep_world.specs.NodeCauses.{GuestAsks, world_after_cause}
use Rattle.sheep_world.specs.Step.{EventOutcome}
use Rattle.sheep_world.specs.RunsWithAsks.{Move}
use Rattle.overlap_law.specs.DiskEvents.{begins_by_others, ends_write_of, is_asked_in, WritesOfChecksStand}
use Rattle.overlap_law.specs.Headline.{ledger_of}
use Rattle.overlap_law.specs.MomentChanges.{RunsAreInRange}
use Rattle.overlap_law.specs.Past.{MomentWithPast, run_with_past}
use Rattle.overlap_law.specs.Writers.{session_holder}
use Rattle.overlap_law.proofs.BegunWriters.{begun_in}
use Rattle.overlap_law.proofs.DiskEventsOfHolders.{others_none}
use Rattle.overlap_law.proofs.DisksOfWriters.{IsWriterAt, no_command}
use Rattle.overlap_law.proofs.HoldersInWorlds.{begins_free, working_held}
use Rattle.overlap_law.proofs.ItemsAtBegin.{request_begins}
use Rattle.overlap_law.proofs.ItemsOfReplies.{is_check_at, is_write_at, replies_none}
use Rattle.overlap_law.proofs.OpenItemsInRuns.{fewer_make, kept_then}
use Rattle.overlap_law.proofs.SessionsOfRequests.{IsAskedIn, are_asked_by_line, of_test, are_scripts}
use Rattle.overlap_law.proofs.StandingBefore.{Stands, disturbs, stands_begins, stands_item, stands_stays}
use Rattle.overlap_law.proofs.UnansweredRequests.{requests_tied}
use Rattle.overlap_law.proofs.UnderWay.{IsKeptOnHeld}
use Rattle.overlap_law.proofs.UnderWayInRuns.{holds-in_run}
use Rattle.overlap_law.proofs.UnderWayOfEvents.{HoldsAtBegin}
use Rattle.overlap_law.proofs.WholeInRuns.{sound_world}

-- a check is no read or write
check_off_disk : (o : Option Statement) → option_map_or is_check o false ≡ true → option_map_or is_disk_request o false ≡ false
check_off_disk None is = absurd (cc (is))
check_off_disk (Some (lines.Check session)) is = refl
check_off_disk (Some s) is = absurd (cc (is))

pub check_no_write : (o : Option Statement) → option_map_or is_check o false ≡ true → option_map_or is_write o false ≡ false
check_no_write None is = absurd (cc (is))
check_no_write (Some (lines.Check session)) is = refl
check_no_write (Some s) is = absurd (cc (is))

-- what neither ends the check nor begins another's write on the disk doesn't disturb what the check began
module _ (req vid block : ℕ) where
  one_calm : (event : HistEvent) → ends_write_of req event ≡ false → begins_by_others vid (λ (other : ℕ). other == req) event ≡ false
      → disturbs req (λ (other : ℕ). other == req) vid block event ≡ false
  one_calm (Create disk blocks) ends begins = refl
  one_calm (Copy old new) ends begins = refl
  one_calm (Delete disk) ends begins = refl
  one_calm (WriteStart other disk at coded bytes) ends begins = by_disk (vid == disk) refl
    where
      by_disk : (b : Bool) → (vid == disk) ≡ b → ((b && block == at) && not (other == req)) ≡ false
      by_disk false apart = refl
      by_disk true on =
          let here : (disk == vid) ≡ true = eq-eqb disk vid (sym (eqb-true vid disk on)) in
          let own : not (other == req) ≡ false = sym (ap (λ (b : Bool). b && not (other == req)) here) ∙ begins in
          by_block (block == at) own
        where
          by_block : (b : Bool) → not (other == req) ≡ false → (b && not (other == req)) ≡ false
          by_block true own = own
          by_block false own = refl
  one_calm (WriteDone other) ends begins = λ i. ends i || ends i
  one_calm (WriteRefused other) ends begins = ends
  one_calm (WriterLost other) ends begins = ends
  one_calm (Read disk at bytes) ends begins = refl

  pub all_calm : (events : List HistEvent) → list_any (ends_write_of req) events ≡ false
      → list_any (begins_by_others vid (λ (other : ℕ). other == req)) events ≡ false
      → list_any (disturbs req (λ (other : ℕ). other == req) vid block) events ≡ false
  all_calm [] ends begins = refl
  all_calm (event ∷ later) ends begins =
      let one = or_parts (ends_write_of req event) (list_any (ends_write_of req) later) ends in
      let two = or_parts (begins_by_others vid (λ (other : ℕ). other == req) event)
      (list_any (begins_by_others vid (λ (other : ℕ). other == req)) later) begins in
      let first = one_calm event one.0 two.0 in
      let rest = all_calm later one.1 two.1 in
      λ i. first i || rest i

module _ (script : List Statement) (range : RunsAreInRange script) (req : ℕ) (checks : is_check_at script req ≡ true) where
  pub writer : IsWriterAt script req
  writer = inr checks

  module _ (world : World) (began : Began script world) (n : ℕ) (host : Host) (there : tree.get world.hosts n ≡ Some host)
      (request : Request) (got : tree.get host.node.requests req ≡ Some request) where
    asked : IsAskedIn script n host.incarnation req request.session
    asked = are_asked_by_line script world began n host there req request got (of_test script is_check req checks)

    -- the check is the command of its session
    is_command : command_in request.session host.node.sessions ≡ Some req
    is_command =
        let kind = (requests_tied script range world began n host there req request got (of_test script is_check req checks)).kind in
        ((sound_world script range world began).hosts n host there).node.sole_commands.named req request got
        (kind ∙ check_off_disk (request_at script req) checks)

    -- another node has another session
    same_host : (m : ℕ) (other : Host) → tree.get world.hosts m ≡ Some other → (session : ScriptSession)
        → session_numbered script request.session ≡ Some session → session.node ≡ m → host ≡ other
    same_host m other found session declared of_node =
        let of : asked.of ≡ session = same_Some asked.of session (sym asked.declared ∙ declared) in
        let node : n ≡ m = sym asked.of_node ∙ ap (λ (s : ScriptSession). s.node) of ∙ of_node in
        same_Some host other (sym there ∙ ap (tree.get world.hosts) node ∙ found)

    -- so only the check begins writes on the disk that its session has open
    pub only_own : host.is_lost ≡ false → (disk : Disk) → (session_among request.session host.node.sessions).disk ≡ Some disk
        → disk.snapshot ≡ false → (event : Event) (made : EventOutcome) → MakesMove script event world made
        → list_any (begins_by_others disk.inode.vid (λ (other : ℕ). other == req)) made.grown ≡ false
    only_own up disk opened working =
        others_none script range world began disk.inode.vid (session_holder n request.session)
        (working_held script range world began n host there up request.session disk opened working
        (no_command script range world began n host there req request got writer))
        (λ (other : ℕ). other == req)
        (λ m second found up_there session other ask caused same.
        let is : host ≡ second = same_host m second found session
        (ap (session_numbered script) (sym same) ∙ caused.declared) caused.gateway in
        let named : command_in session.number second.node.sessions ≡ Some req
        = ap (λ (k : ℕ). command_in k second.node.sessions) same
        ∙ ap (λ (h : Host). command_in request.session h.node.sessions) (sym is) ∙ is_command in
        let none : is_none (command_in session.number second.node.sessions) ≡ false = ap is_none named in
        let free = begins_free script range world began m second found up_there session other ask caused in
        absurd (cc (none, free)))
        (λ m second found write comes same.
        let here = are_scripts script range.is_script world began m second found write.req
        (record { session = comes.session; course = Checking comes.check }) comes.there refl in
        let is : host ≡ second = same_host m second found here.of (ap (session_numbered script) (sym same) ∙ here.declared) here.of_node in
        let sole = ((sound_world script range world began).hosts m second found).node.sole_commands in
        let named : command_in comes.session second.node.sessions ≡ Some write.req
        = sole.named write.req (record { session = comes.session; course = Checking comes.check }) comes.there refl in
        let own : command_in comes.session second.node.sessions ≡ Some req
        = ap (λ (k : ℕ). command_in k second.node.sessions) same
        ∙ ap (λ (h : Host). command_in request.session h.node.sessions) (sym is) ∙ is_command in
        eq-eqb write.req req (same_Some write.req req (sym named ∙ own)))

  -- what began on the disk, on a block that it has, stands
  abbrev pub StandsOn : List Entry → List HistEvent → ℕ → Type 0
  StandsOn log history vid = (block : ℕ) (coded : Bool) (bytes : List ℕ) → Contains history (WriteStart req vid block coded bytes)
      → has_block ((ledger_of history).disks vid) block ≡ true
      → Stands req (λ (other : ℕ). other == req) bytes (items_in ((ledger_of history).disks vid) block)

  pub stands_keeps : IsKeptOnHeld script range req writer StandsOn
  stands_keeps world began event made happened grows n host there up request got disk opened working others ends history was
      block coded bytes there_is has =
      kept_then req disk.inode.vid block coded bytes (Stands req (λ (other : ℕ). other == req) bytes)
      (disturbs req (λ (other : ℕ). other == req) disk.inode.vid block)
      (stands_stays req (λ (other : ℕ). other == req) bytes disk.inode.vid block)
      (stands_begins req (λ (other : ℕ). other == req) coded bytes) history made.grown
      (fewer_make (is_asked_in script request.session) disk.inode.vid block made.grown others)
      (all_calm req disk.inode.vid block made.grown ends
      (only_own world began n host there request got up disk opened working event made happened))
      has (was block coded bytes) there_is

  pub stands_starts : HoldsAtBegin script range req writer StandsOn
  stands_starts world began n host there session other ask caused own request got disk opened working others ends history unbegun
      block coded bytes there_is has = absurd (⊎_elim
      (λ (old : Contains history (WriteStart req disk.inode.vid block coded bytes)).
      let begun = begun_in history req disk.inode.vid block coded bytes old in absurd (cc (unbegun, begun)))
      (λ (new : Contains (outcome_of_step script n host (GuestAsks session other ask) world).grown
      (WriteStart req disk.inode.vid block coded bytes)). ⊎_elim
      (λ (starts : Contains (request_grown script world session (Some other)) (WriteStart req disk.inode.vid block coded bytes)).
      let begins = request_begins req other (open_disk_at session world) (request_at script other)
      (begun_in (request_grown script world session (Some other)) req disk.inode.vid block coded bytes starts) in
      let write : is_write_at script req ≡ true = ap (is_write_at script) (sym own) ∙ begins.2 in
      let no_write = check_no_write (request_at script req) checks in
      absurd (cc (write, no_write)))
      (λ (told : Contains (replies_grown script (request_started session (Some other) world) None
      (world_after_cause script n host (GuestAsks session other ask) world)) (WriteStart req disk.inode.vid block coded bytes)).
      let begun = begun_in (replies_grown script (request_started session (Some other) world) None
      (world_after_cause script n host (GuestAsks session other ask) world)) req disk.inode.vid block coded bytes told in
      let none = replies_none script req (request_started session (Some other) world) None
      (world_after_cause script n host (GuestAsks session other ask) world).outputs.replies in
      absurd (cc (begun, none)))
      (Contains-append_cases (request_grown script world session (Some other))
      (replies_grown script (request_started session (Some other) world) None
      (world_after_cause script n host (GuestAsks session other ask) world)) (WriteStart req disk.inode.vid block coded bytes) new))
      (Contains-append_cases history (outcome_of_step script n host (GuestAsks session other ask) world).grown
      (WriteStart req disk.inode.vid block coded bytes) there_is))

pub checks_stand-in_run : (script : List Statement) → RunsAreInRange script → (events : List Move) (moment : MomentWithPast)
    → run_with_past script events ≡ Some moment → WritesOfChecksStand script moment.past.history moment.world.hosts
checks_stand-in_run script range events moment is = record {
  each = λ n host there up req block opened coded bytes way checks there_is has.
      stands_item req (λ (other : ℕ). other == req) bytes (items_in ((ledger_of moment.past.history).disks opened.inode.vid) block)
      (holds-in_run script range req (writer script range req checks) (StandsOn script range req checks)
      (stands_keeps script range req checks) (stands_starts script range req checks) events moment is n host there up opened way
      block coded bytes there_is has);
}
