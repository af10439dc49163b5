-- What an event begins to write for a check that is there is on the disk that its session has open: what comes to the check as it compares
-- an object of that disk.
use Rattle.std.proofs.Common.{◌≡◌, ℕ, Bool, true, false, cond, List, [], ◌∷◌, ◌++◌, filter, length, Option, Some, None, option_map}
use Rattle.std.proofs.Common.{refl, sym, ap, subst, ◌∙◌, inl, inr}
use Rattle.std.specs.Prelude.{◌/◌, flat_map}
use Rattle.std.specs.List.{list_any, range_with_len}
use Rattle.std.specs.Option.{option_map_or, option_and_then}
use Rattle.std.specs.FinMap as tree
use Rattle.std.proofs.lemmas.Bool.{eq-eqb, or_parts}
use Rattle.std.proofs.lemmas.Option.{same_Some}
use Rattle.object_id.specs.declared.limits.TheConstants.{BLOCK_BYTES}
use Rattle.cluster_script.specs.declared.statement.Statement.{Statement}
use Rattle.cluster_script.specs.NumberedRequests.{numbered_requests, request_at, session_of}
use Rattle.cluster_script.specs.Sessions.{ScriptSession, session_numbered}
use Rattle.cluster_script.specs.Statements.{is_check}
use Rattle.disk_check.specs.Check.{Check, CheckStage, Comparing, WritingBack, Answered, value_at_stage}
use Rattle.disk_history.specs.declared.event.HistEvent.{HistEvent}
use Rattle.disk_history.specs.declared.event.HistEvent.TheVariants.{Create, Copy, Delete, WriteStart, WriteDone, WriteRefused, WriterLost}
use Rattle.disk_history.specs.declared.event.HistEvent.TheVariants.{Read}
use Rattle.guest_driver.specs.declared.disk.Disk.{Disk}
use Rattle.peer_proto.specs.declared.say.PeerRsp.{PeerRsp}
use Rattle.sheep_node.specs.declared.check_write.CheckWrite.{CheckWrite}
use Rattle.sheep_node.specs.declared.course.Course.TheVariants.{Checking}
use Rattle.sheep_node.specs.declared.course.Request.{Request}
use Rattle.sheep_node.specs.declared.event.Event.{Event}
use Rattle.sheep_node.specs.declared.input.Input.TheVariants as inputs
use Rattle.sheep_node.specs.CheckWrites.{check_write_on, write_of_value}
use Rattle.sheep_node.specs.SessionQueues.{session_among}
use Rattle.sheep_world.specs.Began.{Began}
use Rattle.sheep_world.specs.Effects.{request_started}
use Rattle.sheep_world.specs.EventKinds.{EventKind, NodeStep, UntoldLoss, UnreadDelivery, NodeLoss, NodeLeave, NodeReweight, NodeJoin}
use Rattle.sheep_world.specs.EventKinds.{NodeReturn, PhaseEnd}
use Rattle.sheep_world.specs.HistoryAdditions.{block_checked, check_write_adds, check_write_by, check_write_grown, is_lost_write}
use Rattle.sheep_world.specs.HistoryAdditions.{is_on_disk}
use Rattle.sheep_world.specs.HistoryAdditions.{replies_grown, request_grown, writers_lost}
use Rattle.sheep_world.specs.NodeCauses.{NodeCause, GuestAsks, RequestComes, ReplyComes, LossIsTold, EntryIsRead, EntryIsPut, RecoveryTicks}
use Rattle.sheep_world.specs.NodeCauses.{WorkIsRetried, ClientAsks, IsCause, history_of_cause, world_after_cause}
use Rattle.sheep_world.specs.Step.{EventOutcome}
use Rattle.sheep_world.specs.World.{Host, World, node_at}
use Rattle.overlap_law.specs.MomentChanges.{RunsAreInRange}
use Rattle.overlap_law.proofs.AloneCopies.{asks_begin_none}
use Rattle.overlap_law.proofs.AloneItems.{AreFine, IsFine, copies_disk}
use Rattle.overlap_law.proofs.ComingWrites.{coming}
use Rattle.overlap_law.proofs.CoursesOfAsks.{IsPlacedIn}
use Rattle.overlap_law.proofs.CoursesOfScript.{asked_by, BeganOn, requests_placed}
use Rattle.overlap_law.proofs.ItemsAtBegin as begins
use Rattle.overlap_law.proofs.ItemsAtBegin.{served_comes_to_none}
use Rattle.overlap_law.proofs.ItemsOfReplies as replied
use Rattle.overlap_law.proofs.ItemsOfRequests.{begins_write_of}
use Rattle.overlap_law.proofs.SessionsOfRequests.{IsAskedIn, IsAskedBy, are_asked}
use Rattle.sheep_world.specs.Asking.{session_asking}
use Rattle.sheep_world.proofs.AsksInSteps.{serves_clients}
use Rattle.sheep_world.proofs.AsksOfClients.{clients_ask}

-- ---- what begins on a disk

module _ (req vid : ℕ) where
  -- on that disk, where it is of the request
  abbrev pub IsThatDisk : ℕ → ℕ → List ℕ → Type 0
  IsThatDisk disk block bytes = disk ≡ vid

  abbrev pub BeginsOn : HistEvent → Type 0
  BeginsOn (Create disk blocks) = Unit {0}
  BeginsOn (Copy old new) = Unit {0}
  BeginsOn (Delete disk) = Unit {0}
  BeginsOn (WriteStart other disk block coded bytes) = other ≡ req → disk ≡ vid
  BeginsOn (WriteDone other) = Unit {0}
  BeginsOn (WriteRefused other) = Unit {0}
  BeginsOn (WriterLost other) = Unit {0}
  BeginsOn (Read disk block bytes) = Unit {0}

  abbrev pub AllBeginOn : List HistEvent → Type 0
  AllBeginOn [] = Unit {0}
  AllBeginOn (event ∷ events) = BeginsOn event × AllBeginOn events

  pub begin_joined : (front back : List HistEvent) → AllBeginOn front → AllBeginOn back → AllBeginOn (front ++ back)
  begin_joined [] back first then = then
  begin_joined (event ∷ front) back first then = (first.0, begin_joined front back first.1 then)

  begins_not : (event : HistEvent) → begins_write_of req event ≡ false → BeginsOn event
  begins_not (Create disk blocks) none = tt
  begins_not (Copy old new) none = tt
  begins_not (Delete disk) none = tt
  begins_not (WriteStart other disk block coded bytes) none = λ same.
      let is = eq-eqb other req same in absurd (cc (none, is))
  begins_not (WriteDone other) none = tt
  begins_not (WriteRefused other) none = tt
  begins_not (WriterLost other) none = tt
  begins_not (Read disk block bytes) none = tt

  pub begin_not : (events : List HistEvent) → list_any (begins_write_of req) events ≡ false → AllBeginOn events
  begin_not [] none = tt
  begin_not (event ∷ events) none =
      let parts = or_parts (begins_write_of req event) (list_any (begins_write_of req) events) none in
      (begins_not event parts.0, begin_not events parts.1)

  one_fine : (event : HistEvent) → copies_disk vid event ≡ false → BeginsOn event → IsFine req IsThatDisk event
  one_fine (Create disk blocks) copies on = tt
  one_fine (Copy old new) copies on = λ block bytes is. let same = eq-eqb old vid is in absurd (cc (copies, same))
  one_fine (Delete disk) copies on = tt
  one_fine (WriteStart other disk block coded bytes) copies on = on
  one_fine (WriteDone other) copies on = tt
  one_fine (WriteRefused other) copies on = tt
  one_fine (WriterLost other) copies on = tt
  one_fine (Read disk block bytes) copies on = tt

  -- so its items stay on it, where it isn't copied
  pub on_fine : (events : List HistEvent) → list_any (copies_disk vid) events ≡ false → AllBeginOn events → AreFine req IsThatDisk events
  on_fine [] copies on = tt
  on_fine (event ∷ events) copies on =
      let parts = or_parts (copies_disk vid event) (list_any (copies_disk vid) events) copies in
      (one_fine event parts.0 on.0, on_fine events parts.1 on.1)

  -- what a check's write begins
  module _ (write : CheckWrite) (on : write.req ≡ req → write.vid.0 ≡ vid) where
    places_on : (places : List ℕ) → AllBeginOn (flat_map (block_checked write) places)
    places_on [] = tt
    places_on (place ∷ places) = (tt, (on, places_on places))

    pub grown_on : (script : List Statement) → AllBeginOn (check_write_grown script write)
    grown_on script = by_check (option_map_or is_check (request_at script write.req) false)
      where
        by_check : (b : Bool) → AllBeginOn (cond b (check_write_adds write) [])
        by_check true = places_on (filter (is_on_disk write) (range_with_len 0 (length write.value / BLOCK_BYTES)))
        by_check false = tt

-- ---- an event, where the request is there

module _ (script : List Statement) (range : RunsAreInRange script) (world : World) (began : Began script world) (req n : ℕ) (host : Host)
    (there : tree.get world.hosts n ≡ Some host) (request : Request) (got : tree.get host.node.requests req ≡ Some request) (disk : Disk)
    (opened : (session_among request.session host.node.sessions).disk ≡ Some disk) where
  -- the value is of the check's disk
  of_stage : (write : CheckWrite) (check : Check) (bytes : List ℕ) (stage : CheckStage)
      → option_map (write_of_value write.req check) (value_at_stage bytes check.spec stage) ≡ Some write → write.vid.0 ≡ check.vid
  of_stage write check bytes (Comparing index later) is = ap (λ (w : CheckWrite). w.vid.0) (sym (same_Some _ write is))
  of_stage write check bytes (WritingBack later) is = absurd (cc (is))
  of_stage write check bytes Answered is = absurd (cc (is))

  module _ (m : ℕ) (second : Host) (found : tree.get world.hosts m ≡ Some second) where
    -- of the script
    both : (other : Request) → IsAskedIn script n host.incarnation req request.session
        → IsAskedIn script m second.incarnation req other.session
        → (n ≡ m) × (request.session ≡ other.session)
    both other here its =
        let number : request.session ≡ other.session = same_Some request.session other.session (sym here.asking ∙ its.asking) in
        let of : here.of ≡ its.of
        = same_Some here.of its.of (sym here.declared ∙ ap (session_numbered script) number ∙ its.declared) in (
          sym here.of_node ∙ ap (λ (s : ScriptSession). s.node) of ∙ its.of_node,
          number,
        )

    -- a request is at one node alone
    pub same_node : (other : Request) → tree.get second.node.requests req ≡ Some other → (n ≡ m) × (request.session ≡ other.session)
    same_node other there_too = by_both
        (are_asked script world began n host there req request got) (are_asked script world began m second found req other there_too)
      where
        unasked : (session : ℕ) → session_asking script req ≡ Some session → request_at script req ≡ None → ⊥
        unasked session asking none =
            let silent : session_asking script req ≡ None = ap (option_and_then session_of) none in
            cc (silent, asking)

        by_both : IsAskedBy script n host.incarnation req request.session → IsAskedBy script m second.incarnation req other.session
            → (n ≡ m) × (request.session ≡ other.session)
        by_both (inl here) (inl its) = both other here its
        by_both (inl here) (inr clients) = absurd (unasked request.session here.asking clients.none)
        by_both (inr clients) (inl its) = absurd (unasked other.session its.asking clients.none)
        by_both (inr here) (inr its) =
            let above = ((serves_clients script range.is_script world began n host there).numbered req request got).above here.own in (
              (clients_ask script range.is_script world began).alone n m req host second above
                  (record { there = there; request = request; has = got }) (record { there = found; request = other; has = there_too }),
              here.own ∙ sym its.own,
            )

    same_host : (session : ℕ) (other : Request) → tree.get second.node.requests req ≡ Some other → other.session ≡ session
        → (host ≡ second) × (request.session ≡ session)
    same_host session other there_too own =
        let same = same_node other there_too in (
          same_Some host second (sym there ∙ ap (tree.get world.hosts) same.0 ∙ found),
          same.1 ∙ own,
        )

    come_on : (rsp : PeerRsp) (write : CheckWrite) → check_write_on (inputs.Reply rsp) second.node ≡ Some write → write.req ≡ req
        → write.vid.0 ≡ disk.inode.vid
    come_on rsp write is own =
        let comes = coming write rsp second.node is in
        let other : Request = record { session = comes.session; course = Checking comes.check } in
        let same = same_host comes.session other (ap (tree.get second.node.requests) (sym own) ∙ comes.there) refl in
        let (began_on, at, course) = subst (IsPlacedIn (asked_by script) (BeganOn script world.guests) write.req second.node.sessions)
        comes.there (requests_placed script range world began m second found write.req) in
        let disks : course.on.disk ≡ disk
        = same_Some course.on.disk disk
        (sym course.on.there
        ∙ sym (λ i. (session_among (same.1 i) (same.0 i).node.sessions).disk) ∙ opened) in
        of_stage write comes.check comes.bytes comes.check.stage comes.comes ∙ course.is.vid
        ∙ ap (λ (d : Disk). d.inode.vid) disks

    told_on : (before : World) (write : Option CheckWrite) (after : World)
        → AllBeginOn req disk.inode.vid (replies_grown script before write after)
    told_on before write after =
        begin_not req disk.inode.vid (replies_grown script before write after)
        (replied.replies_none script req before write after.outputs.replies)

    abbrev after : NodeCause → World
    after cause = world_after_cause script m second cause world

    -- what a check comes to by a reply
    pub starts_on : (rsp : PeerRsp) → AllBeginOn req disk.inode.vid
        (option_map_or (check_write_grown script) (check_write_on (inputs.Reply rsp) second.node) [])
    starts_on rsp = by_write (check_write_on (inputs.Reply rsp) second.node) refl
      where
        by_write : (o : Option CheckWrite) → check_write_on (inputs.Reply rsp) second.node ≡ o
            → AllBeginOn req disk.inode.vid (option_map_or (check_write_grown script) o [])
        by_write None is = tt
        by_write (Some write) is = grown_on req disk.inode.vid write (come_on rsp write is) script

    step_on : (cause : NodeCause) → IsCause script world m second cause
        → AllBeginOn req disk.inode.vid (history_of_cause script cause world (world_after_cause script m second cause world))
    step_on (GuestAsks session other ask) caused =
        begin_joined req disk.inode.vid (request_grown script world session (Some other))
        (replies_grown script (request_started session (Some other) world) None (after (GuestAsks session other ask)))
        (begin_not req disk.inode.vid (request_grown script world session (Some other))
        (asks_begin_none script range world began req n host there request got m second session other ask caused))
        (told_on (request_started session (Some other) world) None (after (GuestAsks session other ask)))
    step_on (RequestComes name to asked) caused =
        let then : World = after (RequestComes name to asked) in
        let none : check_write_by name world then ≡ None = served_comes_to_none asked (node_at name.sender.0 world) in
        subst (λ (o : Option CheckWrite).
        AllBeginOn req disk.inode.vid (option_map_or (check_write_grown script) o [] ++ replies_grown script world o then)) (sym none)
        (told_on world None then)
    step_on (ReplyComes name from rsp) caused =
        let then : World = after (ReplyComes name from rsp) in
        let write : Option CheckWrite = check_write_by name world then in
        let here : check_write_by name world then ≡ check_write_on (inputs.Reply rsp) second.node
        = ap (λ (k : ℕ). option_and_then (check_write_on (inputs.Reply rsp)) (node_at k world)) caused.here
        ∙ ap (λ (o : Option Host). option_and_then (check_write_on (inputs.Reply rsp)) (option_map (λ (h : Host). h.node) o)) found in
        begin_joined req disk.inode.vid (option_map_or (check_write_grown script) write []) (replies_grown script world write then)
        (subst (λ (o : Option CheckWrite). AllBeginOn req disk.inode.vid (option_map_or (check_write_grown script) o [])) (sym here)
        (starts_on rsp))
        (told_on world write then)
    step_on (LossIsTold name packet) caused = told_on world None (after (LossIsTold name packet))
    step_on (EntryIsRead entry) caused = told_on world None (after (EntryIsRead entry))
    step_on (EntryIsPut entry) caused =
        begin_not req disk.inode.vid (history_of_cause script (EntryIsPut entry) world (after (EntryIsPut entry)))
        (begins.entry_none req world.log entry)
    step_on RecoveryTicks caused = told_on world None (after RecoveryTicks)
    step_on WorkIsRetried caused = told_on world None (after WorkIsRetried)
    step_on (ClientAsks req ask) caused = told_on world None (after (ClientAsks req ask))

  abbrev AllIn : EventOutcome → Type 0
  AllIn m = AllBeginOn req disk.inode.vid m.grown

  pub event_on : (event : Event) (makes : EventOutcome) → EventKind script event world makes
      → AllBeginOn req disk.inode.vid makes.grown
  event_on event makes (NodeStep h) = subst AllIn h.made_so (step_on h.n h.host h.there h.cause h.caused)
  event_on event makes (UntoldLoss h) = subst AllIn h.made_so tt
  event_on event makes (UnreadDelivery h) = subst AllIn h.made_so tt
  event_on event makes (NodeLoss h) =
      subst AllIn h.made_so (begin_not req disk.inode.vid (writers_lost script world h.n (Some h.host))
      (begins.lost_none req (filter (is_lost_write script world h.n h.host) (numbered_requests script))))
  event_on event makes (NodeLeave h) = subst AllIn h.made_so tt
  event_on event makes (NodeReweight h) = subst AllIn h.made_so tt
  event_on event makes (NodeJoin h) = subst AllIn h.made_so tt
  event_on event makes (NodeReturn h) = subst AllIn h.made_so tt
  event_on event makes (PhaseEnd h) = subst AllIn h.made_so tt
