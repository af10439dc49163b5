-- In the middle of a step what a check began to write stands, on each block that its disk has: the check isn't replied to so far, and no
-- other request begins a write on its disk.
use Rattle.std.proofs.Common.{◌≡◌, ◌≢◌, ⊎_elim, ℕ, ◌+◌, ◌*◌, ◌/◌, ◌<◌, ◌==◌, Bool, true, false, List, [], ◌++◌, Contains, Option, Some}
use Rattle.std.proofs.Common.{refl, sym, ap, subst, ◌∙◌}
use Rattle.std.specs.Prelude.{flat_map}
use Rattle.std.specs.FinMap as tree
use Rattle.std.proofs.lemmas.Bool.{lt-ltb}
use Rattle.std.proofs.lemmas.Option.{same_Some}
use Rattle.proof_tools.proofs.FiniteMaps.{get-insert_cases}
use Rattle.object_id.specs.declared.entry.VdiSpec.{VdiSpec}
use Rattle.object_id.specs.declared.limits.TheConstants.{BLOCK_BYTES}
use Rattle.cluster_script.specs.declared.statement.Statement.{Statement}
use Rattle.cluster_script.specs.NumberedRequests.{request_at}
use Rattle.disk_check.specs.Check.{Check, write_value}
use Rattle.disk_history.specs.declared.event.HistEvent.{HistEvent}
use Rattle.disk_history.specs.declared.event.HistEvent.TheVariants.{WriteStart}
use Rattle.disk_history.specs.Changes.{items_in}
use Rattle.disk_history.specs.Ledger as histories
use Rattle.disk_history.specs.Ledger.{has_block}
use Rattle.peer_proto.specs.declared.work.ObjWork.{ObjWork}
use Rattle.sheep_node.specs.declared.ask.Ask.{Ask}
use Rattle.sheep_node.specs.declared.course.Course.TheVariants.{Checking}
use Rattle.sheep_node.specs.declared.course.Request.{Request}
use Rattle.sheep_node.specs.declared.input.Input.TheVariants as inputs
use Rattle.sheep_node.specs.SessionQueues.{session_among}
use Rattle.sheep_node.specs.StepState.{StepState}
use Rattle.sheep_node.specs.WantedWorks.{HasWork}
use Rattle.sheep_world.specs.Began.{Began}
use Rattle.sheep_world.specs.Effects.{open_disk_at}
use Rattle.sheep_world.specs.EventKinds.{outcome_of_step}
use Rattle.sheep_world.specs.NodeCauses.{NodeCause, GuestAsks, RequestComes, ReplyComes, LossIsTold, EntryIsRead, EntryIsPut, RecoveryTicks}
use Rattle.sheep_world.specs.NodeCauses.{WorkIsRetried, ClientAsks, input_of_cause, event_of_cause, host_with_node}
use Rattle.sheep_world.specs.World.{Host}
use Rattle.sheep_world.specs.RunsWithAsks.{Move}
use Rattle.overlap_law.specs.Checks.{HasBlock}
use Rattle.overlap_law.specs.DiskEvents.{begins_by_others, ends_write_of}
use Rattle.overlap_law.specs.Headline.{ledger_of}
use Rattle.overlap_law.specs.HistoryGrowth.{added_at_cause, added_by_reply, check_write_at, world_at_cause}
use Rattle.overlap_law.specs.MomentChanges.{RunsAreInRange}
use Rattle.overlap_law.specs.Past.{MomentWithPast, run_with_past}
use Rattle.overlap_law.specs.Pieces.{HasItem}
use Rattle.overlap_law.specs.RequestsOfScript.{IsCheckOfAsk, is_of_client}
use Rattle.overlap_law.specs.StepMoments.{SteppingNode, IsStepping, LeadsInStep, StepsByChanges, first_in_step, hosts_in_step}
use Rattle.overlap_law.specs.Units.{bytes_by}
use Rattle.overlap_law.specs.WrittenBlocks.{blocks_per_object, items_at}
use Rattle.overlap_law.proofs.AnswersInMoments.{not_lost}
use Rattle.overlap_law.proofs.BlockItems.{makes_disk}
use Rattle.overlap_law.proofs.BlocksInRuns.{blocks-in_run}
use Rattle.overlap_law.proofs.CausedWorks.{by_changes}
use Rattle.overlap_law.proofs.CheckedMoments.{brought_none, checks_so, here}
use Rattle.overlap_law.proofs.CheckedStarts.{IsBegunAt}
use Rattle.overlap_law.proofs.CheckedSteps.{IsSameDisk, WasCheck, same_check, was_check}
use Rattle.overlap_law.proofs.CoursesOfAsks.{IsPlacedIn}
use Rattle.overlap_law.proofs.CoursesOfScript.{asked_by, BeganOn, requests_placed}
use Rattle.overlap_law.proofs.DiskEventsOfHolders.{HasNone, append_none, replies_none}
use Rattle.overlap_law.proofs.EndsOfWrites as ends_of_writes
use Rattle.overlap_law.proofs.FoundInSteps.{check_line}
use Rattle.overlap_law.proofs.InsideDisks.{open_spec}
use Rattle.overlap_law.proofs.ItemsOfReplies.{is_check_at}
use Rattle.overlap_law.proofs.NoRecoveredDue.{began-with_past}
use Rattle.overlap_law.proofs.OpenItemsInRuns.{fewer_make, kept_then}
use Rattle.overlap_law.proofs.RepliesApart.{apart_so_far}
use Rattle.overlap_law.proofs.SessionsOfRequests.{IsAskedBy, are_scripts, by_line, of_asking}
use Rattle.overlap_law.proofs.StandingBefore.{Stands, disturbs, stands_begins, stands_item, stands_stays}
use Rattle.overlap_law.proofs.StandingInRuns.{StandsOn, all_calm, only_own, stands_keeps, stands_starts, writer}
use Rattle.overlap_law.proofs.StandingMoments.{first_none}
use Rattle.overlap_law.proofs.StandingOnDisks.{was}
use Rattle.overlap_law.proofs.StandingSteps.{asked, sound}
use Rattle.overlap_law.proofs.UnansweredRequests.{others_unreplied}
use Rattle.overlap_law.proofs.UnderWayInRuns.{holds-in_run}

-- what a request began to write over an object has its items, in each block that the disk has
abbrev pub HaveItems : List HistEvent → ℕ → ℕ → VdiSpec → Type 0
HaveItems history req vid spec = (index unit : ℕ) (work : ObjWork) (disk : histories.Disk) → (ledger_of history).disks vid ≡ Some disk
    → IsBegunAt history req vid spec index work → HasBlock disk spec index unit
    → HasItem (items_at disk spec index unit) req (bytes_by unit work)

-- where each block that began stands
pub items_by : (history : List HistEvent) (req vid : ℕ) (spec : VdiSpec)
    → ((disk : histories.Disk) → (ledger_of history).disks vid ≡ Some disk → disk.blocks ≡ spec.size / BLOCK_BYTES)
    → ((block : ℕ) (coded : Bool) (bytes : List ℕ) → Contains history (WriteStart req vid block coded bytes)
    → has_block ((ledger_of history).disks vid) block ≡ true → HasItem (items_in ((ledger_of history).disks vid) block) req bytes)
    → HaveItems history req vid spec
items_by history req vid spec many stands index unit work disk known begun has =
    let (coded, among) = begun unit has.inside
    (subst (λ (k : ℕ). index * blocks_per_object spec + unit < k) (many disk known) has.block) in
    let there : has_block ((ledger_of history).disks vid) (index * blocks_per_object spec + unit) ≡ true
    = ap (λ (o : Option histories.Disk). has_block o (index * blocks_per_object spec + unit)) known
    ∙ lt-ltb (index * blocks_per_object spec + unit) disk.blocks has.block in
    subst (λ (o : Option histories.Disk). HasItem (items_in o (index * blocks_per_object spec + unit)) req (bytes_by unit work)) known
    (stands (index * blocks_per_object spec + unit) coded (bytes_by unit work) among there)

-- of the same disk
pub items_moved : (history : List HistEvent) (req one other : ℕ) (spec its : VdiSpec) → one ≡ other → spec ≡ its
    → HaveItems history req one spec → HaveItems history req other its
items_moved history req one other spec its vid same items =
    subst (HaveItems history req other) same (subst (λ (v : ℕ). HaveItems history req v spec) vid items)

module _ (script : List Statement) (range : RunsAreInRange script) (events : List Move) (start : MomentWithPast)
    (ran : run_with_past script events ≡ Some start) where
  begun : Began script start.world
  begun = began-with_past script events start ran

  -- the beginning of a step ends no write
  first_ends : (req : ℕ) (cause : NodeCause) → HasNone (ends_write_of req) (added_at_cause script start.world cause)
  first_ends req (GuestAsks session other ask) =
      ends_of_writes.asks_none req other (open_disk_at session start.world) (request_at script other)
  first_ends req (RequestComes name to request) = refl
  first_ends req (ReplyComes name from rsp) =
      ends_of_writes.checks_none req script (check_write_at start.world (ReplyComes name from rsp))
  first_ends req (LossIsTold name packet) = refl
  first_ends req (EntryIsRead entry) = refl
  first_ends req (EntryIsPut entry) = refl
  first_ends req RecoveryTicks = refl
  first_ends req WorkIsRetried = refl
  first_ends req (ClientAsks number asks) = refl

  module _ (on : SteppingNode) (is : IsStepping script start.world on) (by : StepsByChanges on.cause) (so_far : StepState)
      (leads : LeadsInStep on (first_in_step on) so_far) where
    abbrev added : List HistEvent
    added = added_at_cause script start.world on.cause

    abbrev told : List HistEvent
    told = flat_map (added_by_reply script start.world on.cause) so_far.outputs.replies

    -- the history so far
    abbrev pub grown : List HistEvent
    grown = start.past.history ++ (added_at_cause script start.world on.cause
        ++ flat_map (added_by_reply script start.world on.cause) so_far.outputs.replies)

    -- ---- a check that a node had as the step began

    module _ (req : ℕ) (untold : HasNone (ends_write_of req) told) (q : ℕ) (second : Host)
        (there : tree.get start.world.hosts q ≡ Some second) (up : second.is_lost ≡ false) (session : ℕ) (check : Check)
        (got : tree.get second.node.requests req ≡ Some (record { session = session; course = Checking check })) where
      at_place : IsPlacedIn (asked_by script) (BeganOn script start.world.guests) req second.node.sessions
          (Some (record { session = session; course = Checking check }))
      at_place =
          subst (IsPlacedIn (asked_by script) (BeganOn script start.world.guests) req second.node.sessions) got
          (requests_placed script range start.world begun q second there req)

      of : IsCheckOfAsk (asked_by script req) (session_among session second.node.sessions).disk at_place.0 check
      of = at_place.2

      checks : is_check_at script req ≡ true
      checks = check_line (request_at script req) of.of

      abbrev own : ℕ → Bool
      own other = other == req

      abbrev vid : ℕ
      vid = of.on.disk.inode.vid

      begins : HasNone (begins_by_others vid own) (added ++ told)
      begins =
          append_none (begins_by_others vid own) added told
          (first_none script start.world (begins_by_others vid own) on.n on.host on.cause by
          (only_own script range req checks start.world begun q second there (record { session = session; course = Checking check }) got up
          of.on.disk of.on.there of.working (event_of_cause on.n on.cause)
          (outcome_of_step script on.n on.host on.cause start.world) is.made))
          (replies_none script vid own (world_at_cause start.world on.cause) (check_write_at start.world on.cause)
          so_far.outputs.replies)

      ends : HasNone (ends_write_of req) (added ++ told)
      ends = append_none (ends_write_of req) added told (first_ends req on.cause) untold

      none : (block : ℕ) → HasNone (makes_disk vid block) (added ++ told)
      none block = fewer_make own vid block (added ++ told) begins

      calm : (block : ℕ) → HasNone (disturbs req own vid block) (added ++ told)
      calm block = all_calm req vid block (added ++ told) ends begins

      before : StandsOn script range req checks start.world.log start.past.history vid
      before =
          holds-in_run script range req (writer script range req checks) (StandsOn script range req checks)
          (stands_keeps script range req checks) (stands_starts script range req checks) events start ran q second there up of.on.disk
          (record {
            request = record { session = session; course = Checking check };
            there = got;
            on = of.on.there;
            working = of.working;
          })

      stands : (block : ℕ) (coded : Bool) (bytes : List ℕ) → Contains grown (WriteStart req vid block coded bytes)
          → has_block ((ledger_of grown).disks vid) block ≡ true → HasItem (items_in ((ledger_of grown).disks vid) block) req bytes
      stands block coded bytes among has =
          stands_item req own bytes (items_in ((ledger_of grown).disks vid) block)
          (kept_then req vid block coded bytes (Stands req own bytes) (disturbs req own vid block) (stands_stays req own bytes vid block)
          (stands_begins req own coded bytes) start.past.history (added ++ told) (none block) (calm block) has (before block coded bytes)
          among)

      many : (disk : histories.Disk) → (ledger_of grown).disks vid ≡ Some disk → disk.blocks ≡ of.on.disk.inode.spec.size / BLOCK_BYTES
      many disk at =
          let old = was req own vid 0 [] start.past.history (added ++ told) (none 0) (calm 0) disk at in
          let blocks = blocks-in_run script range events start ran vid old.old old.there in
          let made = open_spec script range start.world begun q second there session of.on.disk of.on.there in
          let spec : blocks.spec ≡ of.on.disk.inode.spec = same_Some blocks.spec of.on.disk.inode.spec (sym blocks.made ∙ made) in
          sym old.many ∙ blocks.whole ∙ ap (λ (s : VdiSpec). s.size / BLOCK_BYTES) spec

      had_items : HaveItems grown req check.vid check.spec
      had_items =
          items_moved grown req vid check.vid of.on.disk.inode.spec check.spec (sym of.is.vid) (sym of.is.spec)
          (items_by grown req vid of.on.disk.inode.spec many stands)

    -- ---- a check at whichever node

    own_untold : (req : ℕ) (request : Request) → tree.get so_far.node.requests req ≡ Some request → HasNone (ends_write_of req) told
    own_untold req request got =
        ends_of_writes.replies_none req script (world_at_cause start.world on.cause) (check_write_at start.world on.cause)
        so_far.outputs.replies
        (λ reply among.
        apart_so_far (input_of_cause on.cause) on.host.node
        (sound script range start.world begun on.n on.host is.there is.up on.cause (by_changes on.cause by) is.caused) leads req request
        reply got among)

    other_untold : (q : ℕ) (now : Host) → tree.get start.world.hosts q ≡ Some now → q ≢ on.n → (req : ℕ) (request : Request)
        → tree.get now.node.requests req ≡ Some request → is_of_client request.course ≡ false → HasNone (ends_write_of req) told
    other_untold q now there apart req request got none =
        ends_of_writes.replies_none req script (world_at_cause start.world on.cause) (check_write_at start.world on.cause)
        so_far.outputs.replies
        (λ reply among same.
        let (its, disk, at) = (asked script range start.world begun on.n on.host is.there is.up on.cause (by_changes on.cause by) is.caused
        so_far leads).replied reply among in
        let here = are_scripts script range.is_script start.world begun q now there req request got none in
        others_unreplied script on.n q on.host.incarnation now.incarnation req its request.session apart
        (by_line script on.n on.host.incarnation req its
        (subst (λ (k : ℕ). IsAskedBy script on.n on.host.incarnation k its) same at) (of_asking script req request.session here.asking))
        here)

    module _ (req session : ℕ) (check : Check) (index : ℕ) (value : List ℕ) where
      abbrev HasIt : Host → Type 0
      HasIt host = tree.get host.node.requests req ≡ Some (record { session = session; course = Checking check })

      abbrev HasTo : Host → Type 0
      HasTo host = HasWork req (write_value check index value) host.node.gateway.works host.node.sessions

      own_items : HasIt (host_with_node on.host so_far.node) → HasTo (host_with_node on.host so_far.node)
          → HaveItems grown req check.vid check.spec
      own_items got has = ⊎_elim
          (λ (old : (first : Request) × (tree.get on.host.node.requests req ≡ Some first)).
          let checks = checks_so script range start.world begun on.n on.host is.there is.up on.cause (by_changes on.cause by) is.caused
          so_far leads req session check got in
          let first : WasCheck script range start.world begun on.n on.host is.there is.up on.cause (by_changes on.cause by) is.caused req
          checks old.0 old.1
          = was_check script range start.world begun on.n on.host is.there is.up on.cause (by_changes on.cause by) is.caused req checks
          old.0 old.1 in
          let same : IsSameDisk check first.check
          = same_check script range start.world begun on.n on.host is.there is.up on.cause (by_changes on.cause by) is.caused req checks
          old.0 old.1 so_far leads session check got in
          items_moved grown req first.check.vid check.vid first.check.spec check.spec (sym same.vid) (sym same.spec)
          (had_items req (own_untold req (record { session = session; course = Checking check }) got) on.n on.host is.there
          (not_lost on.host is.up) old.0.session first.check first.got))
          (λ (new : (number : ℕ) × (ask : Ask) × (input_of_cause on.cause ≡ inputs.Guest req number ask)).
          absurd (brought_none script range start.world begun on.n on.host is.there is.up on.cause (by_changes on.cause by) is.caused so_far
          leads req session check got index value has new.0 new.1 new.2))
          (here script range start.world begun on.n on.host is.there is.up on.cause (by_changes on.cause by) is.caused so_far leads req
          session check got)

      pub items_then : (q : ℕ) (now : Host) → tree.get (hosts_in_step on start.world so_far) q ≡ Some now → now.is_lost ≡ false → HasIt now
          → HasTo now → HaveItems grown req check.vid check.spec
      items_then q now at up got has = ⊎_elim
          (λ (own : (q ≡ on.n) × (host_with_node on.host so_far.node ≡ now)).
          own_items (subst HasIt (sym own.1) got) (subst HasTo (sym own.1) has))
          (λ (other : (q ≢ on.n) × (tree.get start.world.hosts q ≡ Some now)).
          had_items req (other_untold q now other.1 other.0 req (record { session = session; course = Checking check }) got refl) q now
          other.1 up session check got)
          (get-insert_cases start.world.hosts on.n (host_with_node on.host so_far.node) q now at)
