-- In every run in range, at each moment on the way of an event: a read or write that has begun doesn't meet another request that is writing
-- a block of the object that it is at.
use Rattle.std.proofs.Common.{◌≡◌, ◌≢◌, ◌⊎◌, inl, inr, ⊎_elim, ℕ, ◌+◌, ◌*◌, ◌<◌, true, false, List, [], ◌∷◌, ◌++◌, Option, Some, slice_get}
use Rattle.std.proofs.Common.{refl, sym, ap, subst, ◌∙◌}
use Rattle.std.specs.FinMap as tree
use Rattle.std.proofs.lemmas.Option.{same_Some}
use Rattle.cluster_script.specs.declared.statement.Statement.{Statement}
use Rattle.cluster_script.specs.Sessions.{ScriptSession, session_numbered}
use Rattle.disk_history.specs.Changes.{items_in}
use Rattle.disk_history.specs.Ledger.{Open, Item, is_item_of}
use Rattle.disk_history.specs.Ledger as histories
use Rattle.guest_driver.specs.declared.disk.Disk.{Disk}
use Rattle.guest_driver.specs.Driver as drivers
use Rattle.guest_driver.specs.Driver.{Driver, DriverStage, Reads, Writes}
use Rattle.guest_driver.specs.OnDisk.{pieces_left}
use Rattle.guest_driver.specs.Pieces.{Piece}
use Rattle.peer_proto.specs.declared.guest.DiskAsk.{DiskAsk}
use Rattle.sheep_node.specs.declared.ask.Ask.{Ask}
use Rattle.sheep_node.specs.declared.ask.Ask.TheVariants as asks
use Rattle.sheep_node.specs.declared.course.Course.TheVariants.{Waiting, Driving}
use Rattle.sheep_node.specs.declared.course.Request.{Request}
use Rattle.sheep_node.specs.declared.event.Event.{Event}
use Rattle.sheep_node.specs.May.{is_disk_course}
use Rattle.sheep_node.specs.SessionQueues.{session_among}
use Rattle.sheep_node.specs.StepState.{StepState}
use Rattle.sheep_node.specs.Changes as changes
use Rattle.sheep_world.specs.Began.{Began}
use Rattle.sheep_world.specs.Step.{EventOutcome}
use Rattle.sheep_world.specs.Began.{MakesMove}
use Rattle.sheep_world.specs.World.{Host}
use Rattle.sheep_world.specs.RunsWithAsks.{Move}
use Rattle.overlap_law.specs.AloneItems.{IsOwnItem}
use Rattle.overlap_law.specs.Attempts.{AttemptRecord}
use Rattle.overlap_law.specs.Headline.{ledger_of}
use Rattle.overlap_law.specs.MomentChanges as moments
use Rattle.overlap_law.specs.MomentChanges.{MomentTrail, Still, Then, RunsAreInRange}
use Rattle.overlap_law.specs.Past.{MomentWithPast, moment_after, run_with_past}
use Rattle.overlap_law.specs.RequestsOfScript.{IsCourseOfAsk, IsDriverOf, IsDriverOfAsk}
use Rattle.overlap_law.specs.SoundItems.{IsUnderWayOn}
use Rattle.overlap_law.specs.SoundReads.{ReadBlocksAreUnwritten}
use Rattle.overlap_law.specs.SoundUnwritten.{IsBeingWritten}
use Rattle.overlap_law.specs.StepMoments.{SteppingNode, IsStepping, StepsByChanges, LeadsInStep, first_in_step, moment_in_step}
use Rattle.overlap_law.specs.WrittenBlocks.{blocks_per_object, items_at}
use Rattle.overlap_law.proofs.AloneItemsInRuns.{own_items-in_run}
use Rattle.overlap_law.proofs.AskedInMoments.{RequestsAreAsked, asked_at}
use Rattle.overlap_law.proofs.AttemptsOfScript.{AreForRequests, kept_for}
use Rattle.overlap_law.proofs.CoursesOfScript.{asked_by}
use Rattle.overlap_law.proofs.DisksOfWriters.{AsksToWrite, of_writer}
use Rattle.overlap_law.proofs.ItemsStayOpen.{own_item}
use Rattle.overlap_law.proofs.NoRecoveredDue.{began-with_past}
use Rattle.overlap_law.proofs.RunsByChanges.{on_the_way}
use Rattle.overlap_law.proofs.RunsWithOneMore.{run_with_one_more}
use Rattle.overlap_law.proofs.SoundInRuns.{item_writer, open_under_way-in_run}
use Rattle.overlap_law.proofs.SessionsOfRequests.{are_asked, by_line, of_asking}
use Rattle.overlap_law.proofs.SoundWaitersInRuns.{made_none-in_run}
use Rattle.overlap_law.proofs.StandingItems.{stands_among}
use Rattle.overlap_law.proofs.UnwrittenItems.{open_there}
use Rattle.overlap_law.proofs.UnwrittenMeets.{WritesAt, none_at, same_session}
use Rattle.overlap_law.proofs.UnwrittenReplies.{asks_so}
use Rattle.overlap_law.proofs.UnwrittenSteps.{own_block, writes_here}
use Rattle.overlap_law.proofs.EventsOfChanges.{by_change}
use Rattle.overlap_law.proofs.PlacedOfScript.{placed_of_script}

-- a driver isn't a write's
abbrev pub IsNoWrite : Driver → Type 0
IsNoWrite driver = (payload : List ℕ) (stage : DriverStage) (first : Piece) (left : List Piece)
    → driver ≡ Writes payload stage first left → ⊥

-- a read or write that has begun, at a piece of the disk that its session has open, and another request that is writing a block of the
-- piece's object don't meet
abbrev pub NoneMeet : MomentWithPast → Type 0
NoneMeet moment = (n : ℕ) (host : Host) → tree.get moment.world.hosts n ≡ Some host → host.is_lost ≡ false → (req unit : ℕ)
    (request : Request) (opened : Disk) (disk : histories.Disk) (driver : Driver) (piece : Piece) (rest : List Piece)
    → tree.get host.node.requests req ≡ Some request → (session_among request.session host.node.sessions).disk ≡ Some opened
    → request.course ≡ Driving driver → pieces_left driver ≡ piece ∷ rest
    → (ledger_of moment.past.history).disks opened.inode.vid ≡ Some disk → unit < blocks_per_object opened.inode.spec
    → piece.index * blocks_per_object opened.inode.spec + unit < disk.blocks
    → (being : IsBeingWritten moment.past.attempts (items_at disk opened.inode.spec piece.index unit))
    → IsNoWrite driver ⊎ (req ≢ being.attempt.req) → ⊥

-- what asks to write drives only a write
no_driver : (asked : Option Ask) → AsksToWrite asked → (on : Disk) (ask : DiskAsk) (driver : Driver) → asked ≡ Some (asks.Disk ask)
    → IsDriverOf on ask driver → IsNoWrite driver → ⊥
no_driver asked (inl (offset, payload, writes)) on ask (Reads told piece rest) of (from, size, reads, cut) none = cc (writes, of, reads)
no_driver asked (inr checks) on ask (Reads told piece rest) of is none = cc (checks, of)
no_driver asked writes on ask (Writes payload stage piece rest) of is none = none payload stage piece rest refl
no_driver asked writes on ask drivers.Answered of is none = is

-- ---- where a moment has the request that writes

module _ (script : List Statement) (range : RunsAreInRange script) (events : List Move) (start moment : MomentWithPast)
    (ran : run_with_past script events ≡ Some start) (trail : MomentTrail script start moment)
    (asked_there : RequestsAreAsked script moment)
    (n : ℕ) (host : Host) (there : tree.get moment.world.hosts n ≡ Some host) (up : host.is_lost ≡ false) (req unit : ℕ)
    (request : Request) (opened : Disk) (driver : Driver) (piece : Piece) (rest : List Piece)
    (got : tree.get host.node.requests req ≡ Some request)
    (on_disk : (session_among request.session host.node.sessions).disk ≡ Some opened) (course : request.course ≡ Driving driver)
    (at_piece : pieces_left driver ≡ piece ∷ rest) (inside : unit < blocks_per_object opened.inode.spec) (j : ℕ) (made : AttemptRecord)
    (made_there : slice_get moment.past.attempts j ≡ Some made) (another : IsNoWrite driver ⊎ (req ≢ made.req))
    (w : WritesAt script range events start moment ran trail made.req opened.inode.vid
    (piece.index * blocks_per_object opened.inode.spec + unit)) where
  abbrev q : ℕ
  q = made.req

  -- one that waits has made no attempt
  begun : (ask : DiskAsk) → w.request.course ≡ Waiting ask → ⊥
  begun ask waits =
      let of = on_the_way script (AreForRequests script) (kept_for script range) events start moment ran trail j made made_there in
      let asked = by_line script w.n w.host.incarnation q w.request.session (asked_there w.n w.host w.there q w.request w.got)
      (of_asking script q made.session of.asking) in
      let session : made.session ≡ w.request.session = same_Some made.session w.request.session (sym of.asking ∙ asked.asking) in
      let declared : of.session ≡ asked.of
      = same_Some of.session asked.of (sym of.declared ∙ ap (session_numbered script) session ∙ asked.declared) in
      let gateway : made.gateway.0 ≡ w.n = sym of.of_node ∙ ap (λ (s : ScriptSession). s.node) declared ∙ asked.of_node in
      (made_none-in_run script range events start moment ran trail).each w.n w.host w.there w.up q w.request ask w.got waits j made
      made_there gateway refl

  -- it is another request
  differs : req ≢ made.req
  differs = ⊎_elim
      (λ (none : IsNoWrite driver) (same : req ≡ made.req).
      let place = same_session script range events start moment ran trail q (piece.index * blocks_per_object opened.inode.spec + unit) n
      host there up req request got (ap is_disk_course course) opened on_disk w in
      let host_so : w.host ≡ host = same_Some w.host host (sym w.there ∙ ap (tree.get moment.world.hosts) place.node ∙ there) in
      let one : w.request ≡ request
      = same_Some w.request request
      (sym w.got ∙ ap (λ (h : Host). tree.get h.node.requests q) host_so ∙ ap (tree.get host.node.requests) (sym same) ∙ got) in
      let its : IsDriverOfAsk (asked_by script q) (session_among w.request.session w.host.node.sessions).disk w.writes.began driver
      = subst (IsCourseOfAsk (asked_by script q) (session_among w.request.session w.host.node.sessions).disk w.writes.began)
      (ap (λ (r : Request). r.course) one ∙ course) w.writes.is in
      no_driver (asked_by script q) w.writes.writes its.on.disk its.ask driver its.of its.is none)
      (λ (apart : req ≢ made.req). apart)
      another

  none_here : ⊥
  none_here =
      none_at script range events start moment ran trail n host there up req request driver piece rest opened got on_disk course at_piece
      unit q inside w differs begun

-- ---- at the end of an event

module _ (script : List Statement) (range : RunsAreInRange script) (events : List Move) (moment : MomentWithPast)
    (run : run_with_past script events ≡ Some moment) where
  began : Began script moment.world
  began = began-with_past script events moment run

  module _ (q vid block place : ℕ) (disk : histories.Disk) (item : Item) (known : (ledger_of moment.past.history).disks vid ≡ Some disk)
      (below : block < disk.blocks) (got : slice_get (disk.items block) place ≡ Some item) (its : is_item_of q item ≡ true)
      (mark : item.mark ≡ Open) where
    way : IsUnderWayOn moment.world.hosts q vid
    way =
        let all = open_under_way-in_run script range events moment run in
        all.each q vid block place disk item known below got its (all.unended q vid block place disk item known got its mark)

    writes_then : WritesAt script range events moment moment run Still q vid block
    writes_then =
        let writer = item_writer script range events moment run q vid block place disk item known below got its in
        let (start_disk, at, course) = placed_of_script script range moment.world began way.n way.host way.there q way.way.request
        way.way.there (of_writer script q writer) in
        record {
          n = way.n;
          host = way.host;
          there = way.there;
          up = way.up;
          request = way.way.request;
          got = way.way.there;
          opened = way.opened;
          on = way.way.on;
          same = way.on;
          writes = record {
            writes = asks_so script q writer;
            began = start_disk;
            is = course;
            own = λ offset payload asked.
                own_block vid offset payload block item.bytes
                (subst (λ (k : ℕ). IsOwnItem k offset payload vid block item.bytes) way.on
                ((own_items-in_run script range events moment run).each way.n way.host way.there way.up q offset payload way.opened way.way
                asked vid block place item (ap (λ (o : Option histories.Disk). slice_get (items_in o block) place) known ∙ got) its));
          };
        }

  at_end : NoneMeet moment
  at_end n host there up req unit request opened disk driver piece rest got on_disk course at_piece known inside below being another =
      let block = piece.index * blocks_per_object opened.inode.spec + unit in
      let (at, found) = stands_among (items_at disk opened.inode.spec piece.index unit) being.place being.item being.among in
      none_here script range events moment moment run Still (are_asked script moment.world began) n host there up req unit request opened
      driver piece rest got on_disk course at_piece inside being.j being.attempt being.there another
      (writes_then being.attempt.req opened.inode.vid block at disk being.item known below found
      (own_item being.attempt.req being.item being.of) being.mark)

-- ---- on the way of one

module _ (script : List Statement) (range : RunsAreInRange script) (events : List Move) (start : MomentWithPast)
    (ran : run_with_past script events ≡ Some start) where
  ended : (event : Event) (made : EventOutcome) → MakesMove script event start.world made
      → NoneMeet (moment_after script event start made)
  ended event made happened =
      at_end script range (events ++ happened.move ∷ []) (moment_after script event start made)
      (run_with_one_more script event made events start happened ran)

  in_step : (on : SteppingNode) → IsStepping script start.world on → StepsByChanges on.cause → (so_far : StepState)
      → LeadsInStep on (first_in_step on) so_far → MomentTrail script start (moment_in_step script on start so_far)
      → NoneMeet (moment_in_step script on start so_far)
  in_step on is by so_far leads trail n host there up req unit request opened disk driver piece rest got on_disk course at_piece known
      inside below being another =
      let block = piece.index * blocks_per_object opened.inode.spec + unit in
      let (at, found) = stands_among (items_at disk opened.inode.spec piece.index unit) being.place being.item being.among in
      none_here script range events start (moment_in_step script on start so_far) ran trail
      (asked_at script start (began-with_past script events start ran) on is so_far leads) n host there up req unit request opened driver
      piece rest got on_disk course at_piece inside being.j being.attempt being.there another
      (writes_here script range events start ran on is by so_far leads trail being.attempt.req opened.inode.vid block disk known below
      (open_there being.attempt.req (disk.items block) at being.item found (own_item being.attempt.req being.item being.of) being.mark)
      being.j being.attempt being.there refl)

  -- ---- at each moment

  pub none_meet : {moment : MomentWithPast} → MomentTrail script start moment → NoneMeet moment
  none_meet Still = at_end script range events start ran
  none_meet (Then trail change) =
      by_change script start (λ before after. MomentTrail script start before → NoneMeet after)
      (λ on is by trail. in_step on is by (first_in_step on) changes.Still (Then trail (moments.StepBegins on is by)))
      (λ on is by so_far next within trail.
      in_step on is by next (changes.Then within.leads within.change) (Then trail (moments.StepGoesOn on so_far next is by within)))
      (λ event made happened trail. ended event made happened) change trail

  -- so of reads
  pub reads_unwritten-on_the_way : {moment : MomentWithPast} → MomentTrail script start moment
      → ReadBlocksAreUnwritten (ledger_of moment.past.history) moment.world.hosts moment.past.attempts
  reads_unwritten-on_the_way trail = record {
    each = λ n host there up req unit request opened disk told piece rest got on_disk course known inside below being.
        none_meet trail n host there up req unit request opened disk (Reads told piece rest) piece rest got on_disk course refl known inside
        below being (inl (λ payload stage first left same. cc (same)));
  }
