-- In the middle of a step of a run in range: a request to which the next change replies, without a refusal, has no item in a block that a
-- read was told which is open behind the change.
use Rattle.std.proofs.Common.{◌≡◌, ◌≢◌, inl, inr, ⊎_elim, arith, ℕ, zero, suc, ◌+◌, ◌*◌, ◌<◌, ◌≤◌, ◌||◌, Bool, true, false, List, [], None}
use Rattle.std.proofs.Common.{◌∷◌, ◌++◌, Contains, Option, Some, slice_get, refl, sym, ap, subst, ◌∙◌}
use Rattle.std.specs.Prelude.{flat_map}
use Rattle.std.specs.List.{list_any}
use Rattle.std.specs.FinMap as tree
use Rattle.std.proofs.lemmas.Bool.{both_ways, or_cases}
use Rattle.std.proofs.lemmas.List.Folds.{list_any-append}
use Rattle.std.proofs.lemmas.Option.{same_Some}
use Rattle.proof_tools.proofs.FiniteMaps.{get-insert_same}
use Rattle.disk_lock.specs.declared.holder.Holder.{Holder}
use Rattle.object_id.specs.declared.entry.VdiSpec.{VdiSpec}
use Rattle.vdi_directory.specs.Effects.{holder_of}
use Rattle.vdi_directory.specs.Decisions.{log_effects}
use Rattle.cluster_script.specs.declared.statement.Statement.{Statement}
use Rattle.cluster_script.specs.NumberedRequests.{request_at}
use Rattle.disk_history.specs.declared.event.HistEvent.{HistEvent}
use Rattle.disk_history.specs.Changes.{items_in}
use Rattle.disk_history.specs.Ledger.{Item, is_item_of}
use Rattle.guest_driver.specs.declared.disk.Disk.{Disk}
use Rattle.guest_driver.specs.Driver.{Reads}
use Rattle.guest_driver.specs.Pieces.{Piece, first_index, last_index}
use Rattle.gateway_queue.specs.Queue.{may_run}
use Rattle.peer_proto.specs.declared.guest.DiskAsk.{DiskAsk}
use Rattle.peer_proto.specs.declared.guest.DiskAsk.TheVariants as disk_asks
use Rattle.peer_proto.specs.declared.guest.GuestRsp.{GuestRsp}
use Rattle.sheep_node.specs.declared.ask.Ask.{Ask}
use Rattle.sheep_node.specs.declared.ask.Ask.TheVariants as asks
use Rattle.sheep_node.specs.declared.course.Course.TheVariants.{Driving, Commanding}
use Rattle.sheep_node.specs.declared.course.Request.{Request}
use Rattle.sheep_node.specs.declared.input.Input.TheVariants as inputs
use Rattle.sheep_node.specs.Changes as changes
use Rattle.sheep_node.specs.May.{is_disk_course}
use Rattle.sheep_node.specs.SessionQueues.{queue_in, session_among}
use Rattle.sheep_node.specs.StepState.{StepState}
use Rattle.sheep_world.specs.Began.{Began}
use Rattle.sheep_world.specs.NodeCauses.{NodeCause, GuestAsks, RequestComes, ReplyComes, LossIsTold, EntryIsRead, EntryIsPut, RecoveryTicks}
use Rattle.sheep_world.specs.NodeCauses.{WorkIsRetried, ClientAsks, host_with_node, input_of_cause, IsCause}
use Rattle.sheep_world.specs.World.{Host}
use Rattle.sheep_world.specs.RunsWithAsks.{Move}
use Rattle.vdi_ops.specs.Op.{Op}
use Rattle.overlap_law.specs.Each.{spec_in}
use Rattle.overlap_law.specs.Headline.{ledger_of}
use Rattle.overlap_law.specs.HistoryGrowth.{added_at_cause, added_by_reply, check_write_at, world_at_cause}
use Rattle.overlap_law.specs.MomentChanges as moments
use Rattle.overlap_law.specs.MomentChanges.{MomentTrail, Then, RunsAreInRange}
use Rattle.overlap_law.specs.Past.{MomentWithPast, run_with_past}
use Rattle.overlap_law.specs.PastWords.{is_refusal}
use Rattle.overlap_law.specs.RequestsOfScript.{IsDriverOf}
use Rattle.overlap_law.specs.StandingReads.{asked_in}
use Rattle.overlap_law.specs.StepMoments.{SteppingNode, IsStepping, StepsByChanges, IsWithinStep, moment_in_step}
use Rattle.overlap_law.specs.UnwrittenReads.{IsApartFromOpenReads}
use Rattle.overlap_law.specs.WrittenBlocks.{blocks_per_object}
use Rattle.overlap_law.specs.Writers.{session_holder}
use Rattle.overlap_law.proofs.AloneItemsInSteps.{asked_in_step, begins_first, client_first, course_in_step}
use Rattle.overlap_law.proofs.AloneOnDisks.{write_asks}
use Rattle.overlap_law.proofs.AloneStepsOnDisks.{writer_here}
use Rattle.overlap_law.proofs.CausedWorks.{HasWellWorks}
use Rattle.overlap_law.proofs.CoursesOfScript.{asked_by}
use Rattle.overlap_law.proofs.DisksOfWriters.{AsksToWrite}
use Rattle.overlap_law.proofs.HistoryInMoments.{history_so}
use Rattle.overlap_law.proofs.ItemsAtBegin.{request_begins}
use Rattle.overlap_law.proofs.ItemsOfReplies as replied
use Rattle.overlap_law.proofs.ItemsOfRequests.{begins_write_of, none_behind, none_by_history}
use Rattle.overlap_law.proofs.NoRecoveredDue.{began-with_past}
use Rattle.overlap_law.proofs.PiecesBehind.{at_last}
use Rattle.overlap_law.proofs.QueuesInMoments.{HasGoodQueues}
use Rattle.overlap_law.proofs.ReadsInSteps.{alone_so_far, may, queued, sole}
use Rattle.overlap_law.proofs.RequestsInSteps.{is_disk_ask}
use Rattle.overlap_law.proofs.StandingReplies.{Answers, RanThere, AloneThere, BeginsNow, answers_from}
use Rattle.overlap_law.proofs.TablesOfReads.{disks_along, queues_along}
use Rattle.overlap_law.proofs.UnwrittenMeets.{RunsAt, WritesAt, WritesIn, held_then, never_meet, none_beside, snapshot_free, writer_covers}
use Rattle.overlap_law.proofs.UnwrittenMeets.{writer_holds}
use Rattle.overlap_law.proofs.UnwrittenReads.{ran_before}
use Rattle.overlap_law.proofs.UnwrittenSteps.{written_there}
use Rattle.overlap_law.proofs.WorksInMoments.{well_along}
use Rattle.overlap_law.proofs.CoursesOfAsks.{asked_none, course_none}

-- an item of a request among those of a block
item_there : (q : ℕ) (items : List Item) → list_any (is_item_of q) items ≡ true
    → (place : ℕ) × (item : Item) × (slice_get items place ≡ Some item) × (is_item_of q item ≡ true)
item_there q [] is = absurd (cc (is))
item_there q (item ∷ later) is = by_first (is_item_of q item) refl (item_there q later) is
  where
    by_first : (b : Bool) → is_item_of q item ≡ b
        → (list_any (is_item_of q) later ≡ true
        → (place : ℕ) × (one : Item) × (slice_get later place ≡ Some one) × (is_item_of q one ≡ true))
        → (b || list_any (is_item_of q) later) ≡ true
        → (place : ℕ) × (one : Item) × (slice_get (item ∷ later) place ≡ Some one) × (is_item_of q one ≡ true)
    by_first true own rest either = (zero, item, refl, own)
    by_first false other rest either = let (place, one, got, own) = rest either in (suc place, one, got, own)

-- who asks to read asks to write nothing
reads_apart : (asked : Option Ask) (offset size : ℕ) → asked ≡ Some (asks.Disk (disk_asks.Read offset size)) → AsksToWrite asked → ⊥
reads_apart asked offset size reads (inl (from, payload, writes)) = cc (reads, writes)
reads_apart asked offset size reads (inr checks) = cc (reads, checks)

-- where a read is, it is no further than its last object
read_last : (asked : Option Ask) (offset size : ℕ) → asked ≡ Some (asks.Disk (disk_asks.Read offset size)) → (disk : Disk) (ask : DiskAsk)
    → asked ≡ Some (asks.Disk ask) → (bytes : List ℕ) (piece : Piece) (rest : List Piece) → IsDriverOf disk ask (Reads bytes piece rest)
    → piece.index ≤ last_index disk.inode.spec.shift offset size
read_last asked offset size reads disk ask of bytes piece rest (from, count, ask_so, (before, cut)) =
    let from_so : from ≡ offset = cc (ask_so, of, reads) in
    let count_so : count ≡ size = cc (ask_so, of, reads) in
    subst (λ (k : ℕ). piece.index ≤ last_index disk.inode.spec.shift offset k) count_so
    (subst (λ (k : ℕ). piece.index ≤ last_index disk.inode.spec.shift k count) from_so
    (at_last disk.inode.spec.shift from count before rest piece cut))

module _ (script : List Statement) (range : RunsAreInRange script) (events : List Move) (start : MomentWithPast)
    (ran : run_with_past script events ≡ Some start) (on : SteppingNode) (is : IsStepping script start.world on)
    (by : StepsByChanges on.cause) (so_far next : StepState) (within : IsWithinStep on so_far next)
    (trail : MomentTrail script start (moment_in_step script on start so_far)) (reply : ℕ × GuestRsp)
    (among : Contains next.outputs.replies reply)
    (new : (one : ℕ × GuestRsp) → Contains so_far.outputs.replies one → one.0 ≢ reply.0) (fine : is_refusal reply.1 ≡ false) where
  began : Began script start.world
  began = began-with_past script events start ran

  abbrev here : MomentWithPast
  here = moment_in_step script on start so_far

  abbrev later : MomentWithPast
  later = moment_in_step script on start next

  abbrev q : ℕ
  q = reply.0

  abbrev was : Host
  was = host_with_node on.host so_far.node

  trail_then : MomentTrail script start (moment_in_step script on start next)
  trail_then = Then trail (moments.StepGoesOn on so_far next is by within)

  was_there : tree.get (moment_in_step script on start so_far).world.hosts on.n ≡ Some (host_with_node on.host so_far.node)
  was_there = get-insert_same start.world.hosts on.n (host_with_node on.host so_far.node)

  well : HasWellWorks so_far.node
  well = well_along script range start began trail on.n (host_with_node on.host so_far.node) was_there

  queues : HasGoodQueues so_far.node
  queues = queues_along script range start began trail on.n (host_with_node on.host so_far.node) was_there

  -- to whom the change replies
  answers : Answers (input_of_cause on.cause) so_far reply.0
  answers = ⊎_elim
      (λ (old : Contains so_far.outputs.replies reply). absurd (new reply old refl))
      (λ (answers : Answers (input_of_cause on.cause) so_far reply.0). answers)
      (answers_from (input_of_cause on.cause) on.host.node (may script range start began on is by)
      (queued script range start began on is by) (sole script range start began on is by) so_far
      (alone_so_far script range start began on is by so_far within.leads) queues.covered next within.change reply among fine)

  -- ---- who has an item began a write

  abbrev added : List HistEvent
  added = added_at_cause script start.world on.cause

  abbrev told : List HistEvent
  told = flat_map (added_by_reply script start.world on.cause) so_far.outputs.replies

  begun : (vid block : ℕ)
      → list_any (is_item_of reply.0) (items_in ((ledger_of (moment_in_step script on start so_far).past.history).disks vid) block) ≡ true
      → list_any (begins_write_of reply.0) (moment_in_step script on start so_far).past.history ≡ true
  begun vid block has = by_value (list_any (begins_write_of q) here.past.history) refl
    where
      by_value : (b : Bool) → list_any (begins_write_of q) here.past.history ≡ b → b ≡ true
      by_value true so = refl
      by_value false none =
          absurd (both_ways (list_any (is_item_of q) (items_in ((ledger_of here.past.history).disks vid) block))
          (none_by_history q here.past.history (none_behind q here.past.history false none refl) vid block) has)

  -- a guest that asks now for no read or write begins none
  module _ (session : ℕ) (ask : Ask) (asked : (asked_by script reply.0 ≡ None → ⊥) → asked_by script reply.0 ≡ Some ask)
      (off : is_disk_ask ask ≡ false) where
    asks_none : (cause : NodeCause) → IsCause script start.world on.n on.host cause
        → input_of_cause cause ≡ inputs.Guest reply.0 session ask
        → (list_any (begins_write_of reply.0) start.past.history ≡ false)
        × (list_any (begins_write_of reply.0) (added_at_cause script start.world cause) ≡ true → ⊥)
    asks_none (GuestAsks asking other what) caused from =
        let own : other ≡ q = cc (from) in (
          begins_first script range events start ran on is by so_far within.leads q asking other what caused own,
          λ so.
              let begins = request_begins q other _ (request_at script other) so in
              let (offset, payload, writes) = write_asks (request_at script other) begins.2 in
              let asks_it : asked_by script q ≡ Some (asks.Disk (disk_asks.Write offset payload))
              = ap (asked_by script) (sym begins.0) ∙ writes in
              let write : ask ≡ asks.Disk (disk_asks.Write offset payload)
              = same_Some ask (asks.Disk (disk_asks.Write offset payload)) (sym (asked (λ none. cc (none, asks_it))) ∙ asks_it) in
              both_ways (is_disk_ask ask) off (ap is_disk_ask write),
        )
    asks_none (RequestComes name to request) caused from = absurd (cc (from))
    asks_none (ReplyComes name to rsp) caused from = absurd (cc (from))
    asks_none (LossIsTold name packet) caused from = absurd (cc (from))
    asks_none (EntryIsRead entry) caused from = absurd (cc (from))
    asks_none (EntryIsPut entry) caused from = absurd (cc (from))
    asks_none RecoveryTicks caused from = absurd (cc (from))
    asks_none WorkIsRetried caused from = absurd (cc (from))
    asks_none (ClientAsks begins what) caused from =
        let own : begins ≡ q = cc (from) in (
          client_first script range events start ran on is by so_far within.leads q begins what caused own,
          λ so. cc (so),
        )

    never_begun : input_of_cause on.cause ≡ inputs.Guest reply.0 session ask
        → list_any (begins_write_of reply.0) (moment_in_step script on start so_far).past.history ≡ true → ⊥
    never_begun from so =
        let (first, rest) = asks_none on.cause is.caused from in
        let base : List HistEvent = start.past.history ++ added_at_cause script start.world on.cause in
        let both = sym (list_any-append (begins_write_of q) base told)
        ∙ ap (list_any (begins_write_of q)) (sym (history_so script range start began on by so_far)) ∙ so in ⊎_elim
        (λ (grown : list_any (begins_write_of q) (start.past.history ++ added_at_cause script start.world on.cause) ≡ true). ⊎_elim
        (λ (old : list_any (begins_write_of q) start.past.history ≡ true).
        both_ways (list_any (begins_write_of q) start.past.history) first old)
        (λ (now : list_any (begins_write_of q) added ≡ true). rest now)
        (or_cases (list_any (begins_write_of q) start.past.history) (list_any (begins_write_of q) added)
        (sym (list_any-append (begins_write_of q) start.past.history added) ∙ grown)))
        (λ (later_so : list_any (begins_write_of q) told ≡ true).
        both_ways (list_any (begins_write_of q) told)
        (replied.replies_none script q (world_at_cause start.world on.cause) (check_write_at start.world on.cause) so_far.outputs.replies)
        later_so)
        (or_cases (list_any (begins_write_of q) base) (list_any (begins_write_of q) told) both)

  -- so the request is at the node before the change
  there : list_any (begins_write_of reply.0) (moment_in_step script on start so_far).past.history ≡ true
      → (now : Request) × (tree.get so_far.node.requests reply.0 ≡ Some now)
  there so = by_answers answers
    where
      by_answers : Answers (input_of_cause on.cause) so_far reply.0 → (now : Request) × (tree.get so_far.node.requests reply.0 ≡ Some now)
      by_answers (RanThere session course got on_disk runs) = (record { session = session; course = course }, got)
      by_answers (AloneThere session course got free) = (record { session = session; course = course }, got)
      by_answers (BeginsNow session ask from off free) =
          absurd (never_begun session ask (asked_in_step script range events start ran on is by so_far within.leads q session ask from) off
          from so)

  -- ---- a read that stands behind the change

  module _ (n : ℕ) (host : Host) (at_host : tree.get (moment_in_step script on start next).world.hosts n ≡ Some host)
      (up : host.is_lost ≡ false) (reads offset size : ℕ) (request : Request) (bytes : List ℕ) (piece : Piece) (rest : List Piece)
      (disk : Disk) (got : tree.get host.node.requests reads ≡ Some request) (course : request.course ≡ Driving (Reads bytes piece rest))
      (asked : asked_in script reads ≡ Some (asks.Disk (disk_asks.Read offset size)))
      (opened : (session_among request.session host.node.sessions).disk ≡ Some disk) (index unit : ℕ)
      (low : first_index disk.inode.spec.shift offset ≤ index) (before : index < piece.index)
      (inside : unit < blocks_per_object disk.inode.spec)
      (w : WritesAt script range events start (moment_in_step script on start so_far) ran trail reply.0 disk.inode.vid
      (index * blocks_per_object disk.inode.spec + unit)) (w_node : w.n ≡ on.n)
      (so : list_any (begins_write_of reply.0) (moment_in_step script on start so_far).past.history ≡ true) where
    abbrev block : ℕ
    block = index * blocks_per_object disk.inode.spec + unit

    plain : (op : Op) → request.course ≡ Commanding op → ⊥
    plain op command = let both = sym course ∙ command in cc (both)

    held : holder_of (log_effects (moment_in_step script on start next).world.log) disk.inode.vid
        ≡ Some (session_holder w.n w.request.session)
    held = writer_holds script range events start here ran trail q disk.inode.vid block w

    -- it is in the same session
    same_holder : session_holder w.n w.request.session ≡ session_holder n request.session
    same_holder = by_kind disk.snapshot refl
      where
        by_kind : (b : Bool) → disk.snapshot ≡ b → session_holder w.n w.request.session ≡ session_holder n request.session
        by_kind true snapshot =
            absurd (snapshot_free script range events start later ran trail_then n host at_host up request.session disk opened snapshot
            (session_holder w.n w.request.session) held)
        by_kind false working =
            same_Some (session_holder w.n w.request.session) (session_holder n request.session)
            (sym held
            ∙ held_then script range events start later ran trail_then n host at_host up request.session disk opened working
            (none_beside host.node (well_along script range start began trail_then n host at_host)
            (queues_along script range start began trail_then n host at_host) reads request got plain))

    node_so : n ≡ on.n
    node_so = sym (ap (λ (h : Holder). h.node.0) same_holder) ∙ w_node

    session_so : w.request.session ≡ request.session
    session_so = ap (λ (h : Holder). h.session) same_holder

    host_so : host_with_node on.host next.node ≡ host
    host_so =
        same_Some (host_with_node on.host next.node) host
        (sym (get-insert_same start.world.hosts on.n (host_with_node on.host next.node))
        ∙ ap (tree.get later.world.hosts) (sym node_so) ∙ at_host)

    writer_host : w.host ≡ host_with_node on.host so_far.node
    writer_host =
        same_Some w.host (host_with_node on.host so_far.node) (sym w.there ∙ ap (tree.get here.world.hosts) w_node ∙ was_there)

    got_writer : tree.get so_far.node.requests reply.0 ≡ Some w.request
    got_writer = ap (λ (h : Host). tree.get h.node.requests q) (sym writer_host) ∙ w.got

    on_writer : (session_among w.request.session so_far.node.sessions).disk ≡ Some w.opened
    on_writer = ap (λ (h : Host). (session_among w.request.session h.node.sessions).disk) (sym writer_host) ∙ w.on

    -- on a disk that was made once
    spec_so : disk.inode.spec ≡ w.opened.inode.spec
    spec_so =
        same_Some disk.inode.spec w.opened.inode.spec
        (sym (disks_along script range start began trail_then n host at_host request.session disk opened).disk.made
        ∙ ap (spec_in (log_effects here.world.log)) (sym w.same)
        ∙ (disks_along script range start began trail on.n was was_there w.request.session w.opened on_writer).disk.made)

    got_next : tree.get next.node.requests reads ≡ Some (record { session = request.session; course = Driving (Reads bytes piece rest) })
    got_next =
        ap (λ (h : Host). tree.get h.node.requests reads) host_so ∙ got
        ∙ (λ i. Some (record { session = request.session; course = course i }))

    -- and no further than its last object
    within_read : index ≤ last_index disk.inode.spec.shift offset size
    within_read =
        let (started, is_placed) = course_in_step script range events start ran on is by next (changes.Then within.leads within.change)
        reads (record { session = request.session; course = Driving (Reads bytes piece rest) }) got_next
        (course_none (asked_by script reads) (Driving (Reads bytes piece rest)) refl) in
        let there_so : (session_among request.session next.node.sessions).disk ≡ Some disk
        = ap (λ (h : Host). (session_among request.session h.node.sessions).disk) host_so ∙ opened in
        let same : is_placed.on.disk ≡ disk = same_Some is_placed.on.disk disk (sym is_placed.on.there ∙ there_so) in
        let most = read_last (asked_by script reads) offset size asked disk is_placed.ask is_placed.of bytes piece rest
        (subst (λ (d : Disk). IsDriverOf d is_placed.ask (Reads bytes piece rest)) same is_placed.is) in
        omega (arith, most, before)

    runs : RunsAt so_far.node w.request.session reads index
    runs =
        ran_before so_far.node well queues reads offset size (asked_by script reads) asked w.request.session w.opened on_writer index
        (subst (λ (s : VdiSpec). first_index s.shift offset ≤ index) spec_so low)
        (subst (λ (s : VdiSpec). index ≤ last_index s.shift offset size) spec_so within_read) (input_of_cause on.cause) on.host.node so_far
        next within.change refl
        (λ request_here got_here.
        course_in_step script range events start ran on is by so_far within.leads reads request_here got_here
        (asked_none (asked_by script reads) (asks.Disk (disk_asks.Read offset size)) request_here.course asked))
        bytes piece rest
        (got_next ∙ (λ i. Some (record { session = sym session_so i; course = Driving (Reads bytes piece rest) })))

    differs : reads ≢ reply.0
    differs same = reads_apart (asked_by script q) offset size (ap (asked_by script) (sym same) ∙ asked) w.writes.writes

    writer_may : Answers (input_of_cause on.cause) so_far reply.0 → is_disk_course w.request.course ≡ true
        → may_run reply.0 (queue_in w.request.session so_far.node.sessions) ≡ true
    writer_may (RanThere session course_there got_there on_disk may_it) disk_course =
        let one : record { session = session; course = course_there } ≡ w.request
        = same_Some (record { session = session; course = course_there }) w.request (sym got_there ∙ got_writer) in
        subst (λ (k : ℕ). may_run q (queue_in k so_far.node.sessions) ≡ true) (ap (λ (r : Request). r.session) one) may_it
    writer_may (AloneThere session course_there got_there free) disk_course =
        let one : record { session = session; course = course_there } ≡ w.request
        = same_Some (record { session = session; course = course_there }) w.request (sym got_there ∙ got_writer) in
        absurd (differs (free reads (record { session = w.request.session; course = runs.course }) runs.got
        (sym (ap (λ (r : Request). r.session) one))))
    writer_may (BeginsNow session ask from off free) disk_course =
        absurd (never_begun session ask (asked_in_step script range events start ran on is by so_far within.leads q session ask from) off
        from so)

    pub none_meets : ⊥
    none_meets =
        never_meet so_far.node well queues w.request.session reads q index differs runs w.request got_writer refl (writer_may answers)
        (writer_covers script range was well queues q w.request got_writer w.opened on_writer index unit
        (subst (λ (s : VdiSpec). unit < blocks_per_object s) spec_so inside)
        (subst (λ (s : VdiSpec). WritesIn (asked_by script q) (session_among w.request.session so_far.node.sessions).disk w.request.course
        (index * blocks_per_object s + unit)) spec_so
        (subst (λ (h : Host). WritesIn (asked_by script q) (session_among w.request.session h.node.sessions).disk w.request.course block)
        writer_host w.writes)))

  -- so the request has no item there
  pub apart_from_open : IsApartFromOpenReads script (moment_in_step script on start so_far) (moment_in_step script on start next) reply.0
  apart_from_open n host at_host up reads offset size request bytes piece rest disk got course asked opened index unit low before inside =
      by_value (list_any (is_item_of q) (items_in ((ledger_of here.past.history).disks disk.inode.vid)
      (index * blocks_per_object disk.inode.spec + unit))) refl
    where
      by_value : (b : Bool)
          → list_any (is_item_of q) (items_in ((ledger_of here.past.history).disks disk.inode.vid)
          (index * blocks_per_object disk.inode.spec + unit)) ≡ b → b ≡ false
      by_value false none = refl
      by_value true has =
          let so = begun disk.inode.vid (index * blocks_per_object disk.inode.spec + unit) has in
          let (now, got_now) = there so in
          let (place, item, at, of) = item_there q
          (items_in ((ledger_of here.past.history).disks disk.inode.vid) (index * blocks_per_object disk.inode.spec + unit)) has in
          let (w, w_node) = written_there script range events start ran on is by so_far within.leads trail q disk.inode.vid
          (index * blocks_per_object disk.inode.spec + unit) place item at of now got_now
          (writer_here script range events start ran on is by so_far within.leads q so) in
          absurd (none_meets n host at_host up reads offset size request bytes piece rest disk got course asked opened index unit low before
          inside w w_node so)
