-- In the middle of a step what its node, and each other one, has to write stands by the history so far.
use Rattle.std.proofs.Common.{◌≡◌, ◌≢◌, ◌⊎◌, inl, inr, ⊎_elim, ℕ, ◌+◌, ◌/◌, ◌<◌, ◌==◌, Bool, true, false, cond, List, [], ◌++◌, length}
use Rattle.std.proofs.Common.{Contains, Option, Some, None, refl, sym, ap, subst, ◌∙◌, arith}
use Rattle.std.specs.Prelude.{flat_map, nat_le}
use Rattle.std.specs.List.{list_any}
use Rattle.std.specs.Option.{option_map_or}
use Rattle.std.specs.FinMap as tree
use Rattle.std.proofs.lemmas.Bool.{and_from, eq-eqb, le-leb, or_parts}
use Rattle.std.proofs.lemmas.List.Elements.{Contains-append_left}
use Rattle.std.proofs.lemmas.List.Folds.{list_any-append}
use Rattle.std.proofs.lemmas.Option.{same_Some}
use Rattle.proof_tools.proofs.FiniteMaps.{get-insert_cases}
use Rattle.object_id.specs.declared.entry.VdiSpec.{VdiSpec}
use Rattle.object_id.specs.declared.oid.Kind.TheVariants.{Block}
use Rattle.gf256.specs.Part.{is_in_strips}
use Rattle.disk_history.specs.declared.event.HistEvent.{HistEvent}
use Rattle.disk_history.specs.declared.event.HistEvent.TheVariants.{WriteStart}
use Rattle.disk_history.specs.Ledger as histories
use Rattle.cluster_script.specs.declared.statement.Statement.{Statement}
use Rattle.cluster_script.specs.NumberedRequests.{request_at}
use Rattle.guest_driver.specs.declared.disk.Disk.{Disk}
use Rattle.guest_driver.specs.Refusals.{past_end, refusal_on}
use Rattle.object_id.specs.declared.cause.Cause.TheVariants.{Readonly}
use Rattle.peer_proto.specs.declared.guest.DiskAsk.TheVariants as disk_asks
use Rattle.sheep_node.specs.declared.ask.Ask.{Ask}
use Rattle.sheep_node.specs.declared.ask.Ask.TheVariants as asks
use Rattle.sheep_node.specs.declared.input.Input.TheVariants as inputs
use Rattle.sheep_node.specs.declared.course.Request.{Request}
use Rattle.sheep_node.specs.Guests.{is_open_disk_deleted, request_refusal}
use Rattle.sheep_node.specs.SessionQueues.{session_among}
use Rattle.sheep_node.specs.StepState.{StepState}
use Rattle.sheep_node.proofs.StepChain.{kept_by_chain}
use Rattle.sheep_world.specs.Asking.{session_asking}
use Rattle.sheep_world.specs.Effects.{open_disk_at, request_started}
use Rattle.sheep_world.specs.EventKinds.{outcome_of_step}
use Rattle.sheep_world.specs.HistoryAdditions.{block_in, check_write_by, check_write_grown, replies_grown, request_grown}
use Rattle.sheep_world.specs.NodeCauses.{NodeCause, GuestAsks, RequestComes, ReplyComes, LossIsTold, EntryIsRead, EntryIsPut, RecoveryTicks}
use Rattle.sheep_world.specs.NodeCauses.{WorkIsRetried, ClientAsks, input_of_cause, event_of_cause, IsCause, history_of_cause}
use Rattle.sheep_world.specs.NodeCauses.{host_with_node, progress_at_cause, world_after_cause}
use Rattle.sheep_world.specs.Began.{Began}
use Rattle.sheep_world.specs.World.{Host, World, is_host_up}
use Rattle.sheep_world.specs.RunsWithAsks.{Move}
use Rattle.overlap_law.specs.DiskEvents.{begins_by_others, is_asked_in}
use Rattle.vdi_directory.specs.Decisions.{log_effects}
use Rattle.overlap_law.specs.Each.{spec_in}
use Rattle.overlap_law.specs.Headline.{ledger_of}
use Rattle.overlap_law.specs.HistoryGrowth.{added_at_cause, added_by_reply, check_write_at, world_at_cause}
use Rattle.overlap_law.specs.MomentChanges.{RunsAreInRange}
use Rattle.overlap_law.specs.Past.{MomentWithPast, run_with_past}
use Rattle.overlap_law.specs.StepMoments.{SteppingNode, IsStepping, LeadsInStep, StepsByChanges, first_in_step, hosts_in_step}
use Rattle.overlap_law.proofs.AnswersInMoments.{not_lost}
use Rattle.overlap_law.proofs.BlocksInRuns.{blocks-in_run}
use Rattle.overlap_law.proofs.CausedWorks.{by_changes}
use Rattle.overlap_law.proofs.CoursesOfAsks.{IsOfSession, id_of_disk}
use Rattle.overlap_law.proofs.CoursesOfScript.{asked_by, BeganOn, brings, found_began}
use Rattle.overlap_law.proofs.DiskEventsOfHolders.{HasNone, append_none, asks_none, replies_none}
use Rattle.overlap_law.proofs.HoldersInWorlds.{open_here}
use Rattle.overlap_law.proofs.InsideDisks.{open_spec, write_fits}
use Rattle.overlap_law.proofs.OpenItemsInRuns.{fewer_make}
use Rattle.overlap_law.proofs.RequestsInSteps.{KnownIn, change_known, received_none, received_replies}
use Rattle.overlap_law.proofs.SessionsOfRequests.{are_asked, by_line, are_asked_by_line, of_ask, asked_session}
use Rattle.overlap_law.proofs.StandingLists.{AreCalm, all_calm, asks_calm, check_calm, is_later, replies_calm, strays, waiting}
use Rattle.overlap_law.proofs.StandingOnDisks.{StandsIn, begun_stands}
use Rattle.overlap_law.proofs.StandingSteps.{asked, brought_calm, elsewhere_calm, had_calm, not_refused}
use Rattle.overlap_law.proofs.StandingUnderWay.{StandAt, began, began_same, found_once, goes_on, later_none, on_it}
use Rattle.overlap_law.proofs.StartedOnce.{UnansweredAreOnce}
use Rattle.overlap_law.proofs.StartedWrites.{block_of}
use Rattle.overlap_law.proofs.UnansweredRequests.{Guests}
use Rattle.overlap_law.proofs.AsksInCauses.{no_ask}
use Rattle.overlap_law.proofs.PlacedAnew.{brought_as}

-- ---- what the beginning of a step adds

module _ (script : List Statement) (world : World) where
  -- it is the front of what the step adds
  pub first_none : (p : HistEvent → Bool) (n : ℕ) (host : Host) (cause : NodeCause) → StepsByChanges cause
      → HasNone p (history_of_cause script cause world (world_after_cause script n host cause world))
      → HasNone p (added_at_cause script world cause)
  first_none p n host (GuestAsks session req ask) by none =
      let after = world_after_cause script n host (GuestAsks session req ask) world in
      let first = request_grown script world session (Some req) in
      let rest = replies_grown script (request_started session (Some req) world) None after in
      (or_parts (list_any p first) (list_any p rest) (sym (list_any-append p first rest) ∙ none)).0
  first_none p n host (RequestComes name to request) by none = absurd by
  first_none p n host (ReplyComes name from rsp) by none =
      let after = world_after_cause script n host (ReplyComes name from rsp) world in
      let first = option_map_or (check_write_grown script) (check_write_by name world after) [] in
      let rest = replies_grown script world (check_write_by name world after) after in
      (or_parts (list_any p first) (list_any p rest) (sym (list_any-append p first rest) ∙ none)).0
  first_none p n host (LossIsTold name packet) by none = refl
  first_none p n host (EntryIsRead entry) by none = refl
  first_none p n host (EntryIsPut entry) by none = refl
  first_none p n host RecoveryTicks by none = refl
  first_none p n host WorkIsRetried by none = refl
  first_none p n host (ClientAsks req ask) by none = refl

  -- nothing in it strays
  pub first_calm : (req session block : ℕ) (cause : NodeCause)
      → HasNone (strays script req session block) (added_at_cause script world cause)
  first_calm req session block (GuestAsks of other ask) = asks_calm script req session block other (open_disk_at of world)
  first_calm req session block (RequestComes name to request) = refl
  first_calm req session block (ReplyComes name from rsp) =
      check_calm script req session block (check_write_at world (ReplyComes name from rsp))
  first_calm req session block (LossIsTold name packet) = refl
  first_calm req session block (EntryIsRead entry) = refl
  first_calm req session block (EntryIsPut entry) = refl
  first_calm req session block RecoveryTicks = refl
  first_calm req session block WorkIsRetried = refl
  first_calm req session block (ClientAsks number asks) = refl

  -- a request that comes begins writes of its own
  own_begins : (vid : ℕ) (owns : ℕ → Bool) (req number : ℕ) (ask : Ask) (cause : NodeCause)
      → input_of_cause cause ≡ inputs.Guest req number ask → owns req ≡ true
      → HasNone (begins_by_others vid owns) (added_at_cause script world cause)
  own_begins vid owns req number ask (GuestAsks of other own_ask) from does =
      let same : other ≡ req = cc (from) in
      asks_none script vid owns other (open_disk_at of world) (request_at script other)
      (λ opened on there. ap owns same ∙ does)
  own_begins vid owns req number ask (RequestComes name to request) from does = refl
  own_begins vid owns req number ask (ReplyComes name to rsp) from does = absurd (cc (from))
  own_begins vid owns req number ask (LossIsTold name packet) from does = refl
  own_begins vid owns req number ask (EntryIsRead entry) from does = refl
  own_begins vid owns req number ask (EntryIsPut entry) from does = refl
  own_begins vid owns req number ask RecoveryTicks from does = refl
  own_begins vid owns req number ask WorkIsRetried from does = refl
  own_begins vid owns req number ask (ClientAsks begins asked) from does = refl

-- a write that comes begins each of its blocks
module _ (script : List Statement) (range : RunsAreInRange script) (world : World) (begun : Began script world) (n : ℕ) (host : Host)
    (there : tree.get world.hosts n ≡ Some host) (up : is_host_up host ≡ true) (req number : ℕ) (ask : Ask) (offset : ℕ)
    (payload : List ℕ) (is : asked_by script req ≡ Some (asks.Disk (disk_asks.Write offset payload))) (disk : Disk)
    (on : (session_among number host.node.sessions).disk ≡ Some disk) (place : ℕ) (inside : place < length payload / 512) where
  abbrev IsBegunIn : List HistEvent → ℕ → Type 0
  IsBegunIn added k =
      Contains added
      (WriteStart k disk.inode.vid (offset / 512 + place) (is_in_strips disk.inode.spec.policy Block) (block_in payload place))

  write_begins : (cause : NodeCause) → IsCause script world n host cause → input_of_cause cause ≡ inputs.Guest req number ask
      → IsBegunIn (added_at_cause script world cause) req
  write_begins (GuestAsks of other own_ask) caused from =
      let same : other ≡ req = cc (from) in
      let session : of.number ≡ number = cc (from) in
      subst (IsBegunIn (request_grown script world of (Some other))) same
      (block_of other offset place payload disk inside (open_disk_at of world) (request_at script other)
      (open_here script range world begun n host there up of other own_ask caused
      ∙ ap (λ (k : ℕ). (session_among k host.node.sessions).disk) session ∙ on)
      (ap (asked_by script) same ∙ is))
  write_begins (RequestComes name to request) caused from = absurd (cc (from))
  write_begins (ReplyComes name to rsp) caused from = absurd (cc (from))
  write_begins (LossIsTold name packet) caused from = absurd (cc (from))
  write_begins (EntryIsRead entry) caused from = absurd (cc (from))
  write_begins (EntryIsPut entry) caused from = absurd (cc (from))
  write_begins RecoveryTicks caused from = absurd (cc (from))
  write_begins WorkIsRetried caused from = absurd (cc (from))
  write_begins (ClientAsks begins what) caused from =
      let same : begins ≡ req = cc (from) in absurd (no_ask caused req (asks.Disk (disk_asks.Write offset payload)) same is)

-- ---- the disk on which it begins

record IsOpenedAs (o : Option Disk) (vid : ℕ) : Type 0 where
  disk : Disk
  on : o ≡ Some disk
  same : disk.inode.vid ≡ vid

opened_with : (o : Option Disk) (vid : ℕ) → id_of_disk o ≡ Some vid → IsOpenedAs o vid
opened_with None vid is = absurd (cc (is))
opened_with (Some disk) vid is = record { disk = disk; on = refl; same = same_Some disk.inode.vid vid is }

-- no write of a snapshot begins
not_snapshot : (disk : Disk) (deleted : Bool) (offset : ℕ) (payload : List ℕ)
    → refusal_on disk deleted (disk_asks.Write offset payload) ≡ None → disk.snapshot ≡ false
not_snapshot disk deleted offset payload none = by_kind disk.snapshot refl
  where
    by_kind : (b : Bool) → disk.snapshot ≡ b → disk.snapshot ≡ false
    by_kind false working = working
    by_kind true snapshot =
        let refused : refusal_on disk deleted (disk_asks.Write offset payload) ≡ Some Readonly
        = λ i. cond (snapshot i) (Some Readonly) (past_end disk.inode (disk_asks.Write offset payload)) in
        absurd (cc (refused, none))

module _ (script : List Statement) (range : RunsAreInRange script) (events : List Move) (start : MomentWithPast)
    (ran : run_with_past script events ≡ Some start) (all : StandAt script start) (on : SteppingNode)
    (is : IsStepping script start.world on) (by : StepsByChanges on.cause) (so_far : StepState)
    (leads : LeadsInStep on (first_in_step on) so_far) where
  begun : Began script start.world
  begun = began script range events start ran

  abbrev found : Guests
  found = progress_at_cause on.cause start.world

  abbrev added : List HistEvent
  added = added_at_cause script start.world on.cause

  abbrev told : List HistEvent
  told = flat_map (added_by_reply script start.world on.cause) so_far.outputs.replies

  once : UnansweredAreOnce (progress_at_cause on.cause start.world)
  once = found_once script range events start ran on.n on.host on.cause is.caused

  told_begins : (vid : ℕ) (owns : ℕ → Bool) → HasNone (begins_by_others vid owns) told
  told_begins vid owns =
      replies_none script vid owns (world_at_cause start.world on.cause) (check_write_at start.world on.cause) so_far.outputs.replies

  told_calm : (req session block : ℕ) → AreCalm script req session block so_far.outputs.replies
      → HasNone (strays script req session block) told
  told_calm req session block calm =
      replies_calm script req session block (world_at_cause start.world on.cause) (check_write_at start.world on.cause)
      so_far.outputs.replies calm

  module _ (req offset : ℕ) (payload : List ℕ) (is_write : asked_by script req ≡ Some (asks.Disk (disk_asks.Write offset payload)))
      (place : ℕ) (inside : place < length payload / 512) where
    -- the write's item stands so far
    abbrev StandsSo : ℕ → ℕ → Type 0
    StandsSo session vid =
        StandsIn req (waiting script req session (offset / 512 + place)) vid (offset / 512 + place) (block_in payload place)
        (start.past.history ++ (added ++ told))

    -- a write that a node had before
    had_stands : (m : ℕ) (second : Host) → tree.get start.world.hosts m ≡ Some second → second.is_lost ≡ false → (was : Request)
        → tree.get second.node.requests req ≡ Some was → (session : ℕ) → was.session ≡ session → (vid : ℕ)
        → BeganOn script found req (Some vid)
        → AreCalm script req session (offset / 512 + place) so_far.outputs.replies → StandsSo session vid
    had_stands m second there up was had session same vid at calm =
        let opened = on_it script range events start ran m second there up req was had offset payload is_write in
        let owns = is_later script req was.session (offset / 512 + place) in
        let id : opened.disk.inode.vid ≡ vid
        = same_Some opened.disk.inode.vid vid
        (began_same script found once req (Some opened.disk.inode.vid) (Some vid)
        (found_began script start.world on.n on.host on.cause req (Some opened.disk.inode.vid) opened.on) at) in
        let begins = append_none (begins_by_others opened.disk.inode.vid owns) added told
        (first_none script start.world (begins_by_others opened.disk.inode.vid owns) on.n on.host on.cause by
        (later_none script range events start ran m second there up req was had offset payload is_write (offset / 512 + place)
        (event_of_cause on.n on.cause) (outcome_of_step script on.n on.host on.cause start.world) is.made))
        (told_begins opened.disk.inode.vid owns) in
        let untouched = append_none (strays script req was.session (offset / 512 + place)) added told
        (first_calm script start.world req was.session (offset / 512 + place) on.cause)
        (told_calm req was.session (offset / 512 + place)
        (subst (λ (k : ℕ). AreCalm script req k (offset / 512 + place) so_far.outputs.replies) (sym same) calm)) in
        subst (StandsSo session) id
        (subst (λ (k : ℕ). StandsSo k opened.disk.inode.vid) same
        (goes_on script range events start ran m second there up req was had offset payload is_write all place inside (added ++ told)
        begins untouched))

    -- a write that has just come
    brought_stands : (number : ℕ) (ask : Ask) → input_of_cause on.cause ≡ inputs.Guest req number ask → (request : Request)
        → tree.get so_far.node.requests req ≡ Some request → session_asking script req ≡ Some request.session → (vid : ℕ)
        → BeganOn script found req (Some vid) → StandsSo request.session vid
    brought_stands number ask from request got own vid at =
        begun_stands req (waiting script req request.session (offset / 512 + place)) vid (offset / 512 + place) (block_in payload place)
        start.past.history (added ++ told)
        (fewer_make (is_later script req request.session (offset / 512 + place)) vid (offset / 512 + place) (added ++ told) begins)
        (all_calm script req request.session (offset / 512 + place) vid (added ++ told) begins untouched)
        (is_in_strips opened.disk.inode.spec.policy Block)
        (Contains-append_left added told
        (WriteStart req vid (offset / 512 + place) (is_in_strips opened.disk.inode.spec.policy Block) (block_in payload place)) starts)
        within
      where
        brings_it : IsOfSession ask × (asked_by script req ≡ Some ask)
            × BeganOn script found req (id_of_disk (session_among number on.host.node.sessions).disk)
        brings_it =
            brought_as (asked_by script) (BeganOn script found) req (session_among number on.host.node.sessions).disk ask
            (asks.Disk (disk_asks.Write offset payload)) is_write
            (brings script start.world on.n on.host on.cause is.there is.caused req number ask from)

        opened : IsOpenedAs (session_among number on.host.node.sessions).disk vid
        opened =
            opened_with (session_among number on.host.node.sessions).disk vid
            (began_same script found once req (id_of_disk (session_among number on.host.node.sessions).disk) (Some vid) brings_it.2 at)

        ask_so : ask ≡ asks.Disk (disk_asks.Write offset payload)
        ask_so = same_Some ask (asks.Disk (disk_asks.Write offset payload)) (sym brings_it.1 ∙ is_write)

        unrefused : refusal_on opened.disk (is_open_disk_deleted on.host.node.peer (Some opened.disk)) (disk_asks.Write offset payload)
            ≡ None
        unrefused =
            sym (λ i. request_refusal on.host.node.peer (opened.on i) (ask_so i))
            ∙ not_refused script range start.world begun on.n on.host is.there is.up on.cause (by_changes on.cause by) is.caused req offset
            payload is_write place inside request.session own number ask from so_far leads request got

        within : (old : histories.Disk) → (ledger_of start.past.history).disks vid ≡ Some old → offset / 512 + place < old.blocks
        within old there =
            let deleted = is_open_disk_deleted on.host.node.peer (Some opened.disk) in
            let fits = write_fits opened.disk deleted offset payload (not_snapshot opened.disk deleted offset payload unrefused)
            unrefused in
            let blocks = blocks-in_run script range events start ran vid old there in
            let made = open_spec script range start.world begun on.n on.host is.there number opened.disk opened.on in
            let spec : blocks.spec ≡ opened.disk.inode.spec
            = same_Some blocks.spec opened.disk.inode.spec
            (sym blocks.made ∙ ap (spec_in (log_effects start.world.log)) (sym opened.same) ∙ made) in
            let many : old.blocks ≡ opened.disk.inode.spec.size / 512
            = blocks.whole ∙ ap (λ (s : VdiSpec). s.size / 512) spec in
            omega (arith, fits, inside, many)

        starts : Contains added
            (WriteStart req vid (offset / 512 + place) (is_in_strips opened.disk.inode.spec.policy Block) (block_in payload place))
        starts =
            subst (λ (k : ℕ).
            Contains added
            (WriteStart req k (offset / 512 + place) (is_in_strips opened.disk.inode.spec.policy Block) (block_in payload place)))
            opened.same
            (write_begins script range start.world begun on.n on.host is.there is.up req number ask offset payload is_write opened.disk
            opened.on place inside on.cause is.caused from)

        owns_itself : is_later script req request.session (offset / 512 + place) req ≡ true
        owns_itself =
            and_from (nat_le req req) (is_asked_in script request.session req) (le-leb req req (omega arith))
            (ap (λ (o : Option ℕ). option_map_or (λ (k : ℕ). k == request.session) o false) own
            ∙ eq-eqb request.session request.session refl)

        begins : HasNone (begins_by_others vid (is_later script req request.session (offset / 512 + place))) (added ++ told)
        begins =
            append_none (begins_by_others vid (is_later script req request.session (offset / 512 + place))) added told
            (own_begins script start.world vid (is_later script req request.session (offset / 512 + place)) req number ask on.cause from
            owns_itself)
            (told_begins vid (is_later script req request.session (offset / 512 + place)))

        untouched : HasNone (strays script req request.session (offset / 512 + place)) (added ++ told)
        untouched =
            append_none (strays script req request.session (offset / 512 + place)) added told
            (first_calm script start.world req request.session (offset / 512 + place) on.cause)
            (told_calm req request.session (offset / 512 + place)
            (brought_calm script range start.world begun on.n on.host is.there is.up on.cause (by_changes on.cause by) is.caused req offset
            payload is_write place inside request.session own number ask from so_far leads request got))

    -- ---- a write at whichever node

    abbrev IsHere : ℕ → ℕ → Bool → Type 0
    IsHere other its disk = ((was : Request) × (tree.get on.host.node.requests other ≡ Some was))
        ⊎ ((number : ℕ) × (ask : Ask) × (input_of_cause on.cause ≡ inputs.Guest other number ask))

    here : (request : Request) → tree.get so_far.node.requests req ≡ Some request
        → ((was : Request) × (tree.get on.host.node.requests req ≡ Some was))
        ⊎ ((number : ℕ) × (ask : Ask) × (input_of_cause on.cause ≡ inputs.Guest req number ask))
    here request got =
        (kept_by_chain (KnownIn IsHere)
        (change_known IsHere (input_of_cause on.cause) on.host.node (λ other number ask from. inr (number, ask, from))) leads
        (received_none IsHere (input_of_cause on.cause) on.host.node (received_replies (input_of_cause on.cause) on.host.node)
        (λ other was got. inl (was, got)))).asked req request got

    own_stands : (request : Request) → tree.get so_far.node.requests req ≡ Some request → (vid : ℕ) → BeganOn script found req (Some vid)
        → StandsSo request.session vid
    own_stands request got vid at =
        let own = (by_line script on.n on.host.incarnation req request.session
        ((asked script range start.world begun on.n on.host is.there is.up on.cause (by_changes on.cause by) is.caused so_far
        leads).asked req request got) (of_ask script req (asks.Disk (disk_asks.Write offset payload)) is_write)).asking in
        ⊎_elim
        (λ (old : (was : Request) × (tree.get on.host.node.requests req ≡ Some was)).
        had_stands on.n on.host is.there (not_lost on.host is.up) old.0 old.1 request.session
        (asked_session script on.n on.host.incarnation req old.0.session request.session
        (are_asked script start.world begun on.n on.host is.there req old.0 old.1) own) vid at
        (had_calm script range start.world begun on.n on.host is.there is.up on.cause (by_changes on.cause by) is.caused req offset payload
        is_write place inside request.session own old.0 old.1 so_far leads request got))
        (λ (new : (number : ℕ) × (ask : Ask) × (input_of_cause on.cause ≡ inputs.Guest req number ask)).
        brought_stands new.0 new.1 new.2 request got own vid at)
        (here request got)

    pub stands_then : (q : ℕ) (now : Host) → tree.get (hosts_in_step on start.world so_far) q ≡ Some now → now.is_lost ≡ false
        → (request : Request) → tree.get now.node.requests req ≡ Some request → (vid : ℕ) → BeganOn script found req (Some vid)
        → StandsIn req (waiting script req request.session (offset / 512 + place)) vid (offset / 512 + place) (block_in payload place)
        (start.past.history ++ (added ++ told))
    stands_then q now here_now up request got vid at = ⊎_elim
        (λ (own : (q ≡ on.n) × (host_with_node on.host so_far.node ≡ now)).
        own_stands request (ap (λ (h : Host). tree.get h.node.requests req) own.1 ∙ got) vid at)
        (λ (other : (q ≢ on.n) × (tree.get start.world.hosts q ≡ Some now)).
        let its = are_asked_by_line script start.world begun q now other.1 req request got
        (of_ask script req (asks.Disk (disk_asks.Write offset payload)) is_write) in
        had_stands q now other.1 up request got request.session refl vid at
        (elsewhere_calm script range start.world begun on.n on.host is.there is.up on.cause (by_changes on.cause by) is.caused req offset
        payload is_write place inside request.session its.asking q now.incarnation other.0 its so_far leads))
        (get-insert_cases start.world.hosts on.n (host_with_node on.host so_far.node) q now here_now)
