-- In each run in range a check that an event replies to, and doesn't refuse, leaves each block of its disk's own objects with one value.
use Rattle.std.proofs.Common.{◌≡◌, ◌⊎◌, inl, inr, ⊎_elim, ℕ, ◌+◌, ◌*◌, ◌/◌, ◌<◌, ◌==◌, Bool, true, false, List, [], ◌++◌, Contains, Option}
use Rattle.std.proofs.Common.{Some, refl, sym, ap, subst, ◌∙◌, append-nil}
use Rattle.std.specs.Prelude.{flat_map}
use Rattle.std.specs.List.{list_any}
use Rattle.std.specs.FinMap as tree
use Rattle.std.proofs.lemmas.Bool.{lt-ltb}
use Rattle.std.proofs.lemmas.List.Elements.{Contains-append_cases, Contains-append_left, Contains-append_right}
use Rattle.std.proofs.lemmas.List.Sums.{fold-append}
use Rattle.std.proofs.lemmas.Option.{same_Some}
use Rattle.proof_tools.proofs.Lists.{Contains-nil}
use Rattle.object_id.specs.declared.entry.VdiSpec.{VdiSpec}
use Rattle.object_id.specs.declared.limits.TheConstants.{BLOCK_BYTES}
use Rattle.cluster_script.specs.declared.statement.Statement.{Statement}
use Rattle.cluster_script.specs.Sessions.{ScriptSession, session_numbered}
use Rattle.cluster_script.specs.Statements.{is_check}
use Rattle.disk_check.specs.Table.{own_indexes}
use Rattle.disk_history.specs.declared.event.HistEvent.{HistEvent}
use Rattle.disk_history.specs.declared.event.HistEvent.TheVariants.{WriteStart, WriteDone}
use Rattle.disk_history.specs.Changes.{items_in}
use Rattle.disk_history.specs.Ledger.{Ledger, empty_ledger, has_block, ledger_after}
use Rattle.disk_history.specs.Ledger as histories
use Rattle.guest_driver.specs.declared.disk.Disk.{Disk}
use Rattle.peer_proto.specs.declared.guest.GuestRsp.{GuestRsp}
use Rattle.sheep_node.specs.declared.event.Event.{Event}
use Rattle.sheep_node.specs.SessionQueues.{session_among}
use Rattle.sheep_node.specs.Step.{node_step}
use Rattle.sheep_node.proofs.StepChain.{step_chain}
use Rattle.sheep_world.specs.Began.{Began, MakesMove}
use Rattle.sheep_world.specs.EventKinds.{EventKind, NodeStep, UntoldLoss, UnreadDelivery, NodeLoss, NodeLeave, NodeReweight, NodeJoin}
use Rattle.sheep_world.specs.EventKinds.{NodeReturn, PhaseEnd, IsNodeStep, log_after_return}
use Rattle.sheep_world.specs.NodeCauses.{NodeCause, GuestAsks, RequestComes, ReplyComes, LossIsTold, EntryIsRead, EntryIsPut, RecoveryTicks}
use Rattle.sheep_world.specs.NodeCauses.{WorkIsRetried, ClientAsks, history_of_cause, input_of_cause, world_after_cause}
use Rattle.sheep_world.specs.RunsWithAsks.{Move, event_of_move}
use Rattle.sheep_world.specs.Step.{EventOutcome}
use Rattle.sheep_world.specs.World.{Host}
use Rattle.sheep_world.proofs.ClientReads.{goes_by_kind}
use Rattle.overlap_law.specs.CheckDone.{HasOneValue, RepliesToCheck, begins_on_block}
use Rattle.overlap_law.specs.Checks.{HasBlock}
use Rattle.overlap_law.specs.DiskEvents.{begins_by_others}
use Rattle.overlap_law.specs.Headline.{ledger_of}
use Rattle.overlap_law.specs.HistoryGrowth.{added_at_cause, added_by_reply}
use Rattle.overlap_law.specs.MomentChanges.{RunsAreInRange}
use Rattle.overlap_law.specs.Past.{MomentWithPast, moment_after, next_moment, past_after_event, run_with_past}
use Rattle.overlap_law.specs.StepMoments.{SteppingNode, IsStepping, StepsAtOnce, StepsByChanges, last_in_step}
use Rattle.overlap_law.specs.ToldReads.{AllElseMayFollow}
use Rattle.overlap_law.specs.WrittenBlocks.{blocks_per_object}
use Rattle.overlap_law.proofs.BlocksInRuns.{blocks-in_run}
use Rattle.overlap_law.proofs.CheckDoneEnds.{value_behind}
use Rattle.overlap_law.proofs.CheckDoneItems.{follow_behind, value_stays}
use Rattle.overlap_law.proofs.CheckDoneTold.{answered, begins, ends}
use Rattle.overlap_law.proofs.CheckedOnTheWay.{HasSound, has_sound}
use Rattle.overlap_law.proofs.GoingOn.{HasGone, goes_as, has_gone}
use Rattle.overlap_law.proofs.InsideDisks.{open_spec}
use Rattle.overlap_law.proofs.LegalRuns.{all_follows, legal-in_run}
use Rattle.overlap_law.proofs.NoRecoveredDue.{began-with_past}
use Rattle.overlap_law.proofs.RefusedInMoments.{made_silent}
use Rattle.overlap_law.proofs.RefusedInRuns.{back_silent}
use Rattle.overlap_law.proofs.SessionsOfRequests.{IsAskedBy, are_asked, are_asked_by_line, asked_so_far, brought, by_line, of_test}
use Rattle.overlap_law.proofs.StandingBefore.{Stands}
use Rattle.overlap_law.proofs.StandingInRuns.{StandsOn, only_own, stands_keeps, stands_starts, writer}
use Rattle.overlap_law.proofs.UnderWayInRuns.{holds-in_run}

-- a step goes by changes, or is made at once
either_way : (cause : NodeCause) → StepsByChanges cause ⊎ StepsAtOnce cause
either_way (GuestAsks session req ask) = inl tt
either_way (RequestComes name to request) = inr tt
either_way (ReplyComes name from rsp) = inl tt
either_way (LossIsTold name packet) = inl tt
either_way (EntryIsRead entry) = inl tt
either_way (EntryIsPut entry) = inr tt
either_way RecoveryTicks = inr tt
either_way WorkIsRetried = inl tt
either_way (ClientAsks other ask) = inl tt

module _ (script : List Statement) (range : RunsAreInRange script) (moves : List Move) (start : MomentWithPast)
    (ran : run_with_past script moves ≡ Some start) where
  began : Began script start.world
  began = began-with_past script moves start ran

  module _ (event : Event) (made : EventOutcome) (happened : MakesMove script event start.world made) (req : ℕ) (opened : Disk)
      (disk : histories.Disk) (replies : RepliesToCheck start (moment_after script event start made) req opened disk) (index unit : ℕ)
      (own : Contains (own_indexes opened.inode) index) (has : HasBlock disk opened.inode.spec index unit) where
    sound : HasSound script range moves start ran replies.n replies.host replies.there replies.up req replies.check opened disk replies.on
    sound = has_sound script range moves start ran replies.n replies.host replies.there replies.up req replies.check opened disk replies.on

    abbrev pub block : ℕ
    block = index * blocks_per_object opened.inode.spec + unit

    abbrev pub HasValueBehind : List HistEvent → Type 0
    HasValueBehind grown =
        (given : List ℕ) × HasOneValue (ledger_of (start.past.history ++ grown)) opened.inode.vid block req given

    -- the disk has the block
    in_disk : has_block ((ledger_of start.past.history).disks opened.inode.vid) (index * blocks_per_object opened.inode.spec + unit) ≡ true
    in_disk =
        ap (λ (o : Option histories.Disk). has_block o block) replies.on.on.known
        ∙ lt-ltb (index * blocks_per_object opened.inode.spec + unit) disk.blocks has.block

    within : index * blocks_per_object opened.inode.spec + unit < opened.inode.spec.size / BLOCK_BYTES
    within =
        let blocks = blocks-in_run script range moves start ran opened.inode.vid disk replies.on.on.known in
        let spec = open_spec script range start.world began replies.n replies.host replies.there replies.on.request.session opened
        replies.on.on.on in
        let same : blocks.spec ≡ opened.inode.spec = same_Some blocks.spec opened.inode.spec (sym blocks.made ∙ spec) in
        subst (λ (count : ℕ). index * blocks_per_object opened.inode.spec + unit < count)
        (blocks.whole ∙ ap (λ (s : VdiSpec). s.size / BLOCK_BYTES) same) has.block

    -- only the check begins writes of the disk
    others : list_any (begins_by_others opened.inode.vid (λ (other : ℕ). other == req)) made.grown ≡ false
    others =
        only_own script range req sound.checks start.world began replies.n replies.host replies.there replies.on.request
        replies.on.on.there replies.up opened replies.on.on.on sound.of.working event made happened

    -- what it began on the block is the last of it
    stood : (coded : Bool) (bytes : List ℕ)
        → Contains start.past.history (WriteStart req opened.inode.vid (index * blocks_per_object opened.inode.spec + unit) coded bytes)
        → Stands req (λ (other : ℕ). other == req) bytes
        (items_in ((ledger_of start.past.history).disks opened.inode.vid) (index * blocks_per_object opened.inode.spec + unit))
    stood coded bytes among =
        holds-in_run script range req (writer script range req sound.checks) (StandsOn script range req sound.checks)
        (stands_keeps script range req sound.checks) (stands_starts script range req sound.checks) moves start ran replies.n replies.host
        replies.there replies.up opened
        (record { request = replies.on.request; there = replies.on.on.there; on = replies.on.on.on; working = sound.of.working }) block
        coded bytes among in_disk

    -- ---- the step that replies

    module _ (h : IsNodeStep script event start.world made)
        (among : Contains (node_step (input_of_cause h.cause) h.host.node).outputs.replies (req, replies.reply)) where
      abbrev on : SteppingNode
      on = record { n = h.n; host = h.host; cause = h.cause }

      stepping : IsStepping script start.world (record { n = h.n; host = h.host; cause = h.cause })
      stepping = record {
        there = h.there;
        up = h.up;
        caused = h.caused;
        made = goes_as script start.world h.event_so h.made_so happened;
      }

      -- it is the node that has the check
      asked_there : (session : ℕ) × (disk : Bool) × IsAskedBy script h.n h.host.incarnation req session
      asked_there =
          (asked_so_far script h.n h.host.incarnation (input_of_cause h.cause) h.host.node
          (brought script start.world h.n h.host h.cause h.caused) (are_asked script start.world began h.n h.host h.there)
          (step_chain (input_of_cause h.cause) h.host.node)).replied (req, replies.reply) among

      same_host : replies.host ≡ h.host
      same_host =
          let of_script = of_test script is_check req sound.checks in
          let here = are_asked_by_line script start.world began replies.n replies.host replies.there req replies.on.request
          replies.on.on.there of_script in
          let there = by_line script h.n h.host.incarnation req asked_there.0 asked_there.2 of_script in
          let session : replies.on.request.session ≡ asked_there.0
          = same_Some replies.on.request.session asked_there.0 (sym here.asking ∙ there.asking) in
          let of : here.of ≡ there.of
          = same_Some here.of there.of (sym here.declared ∙ ap (session_numbered script) session ∙ there.declared) in
          let node : replies.n ≡ h.n = sym here.of_node ∙ ap (λ (s : ScriptSession). s.node) of ∙ there.of_node in
          same_Some replies.host h.host (sym replies.there ∙ ap (tree.get start.world.hosts) node ∙ h.there)

      had : tree.get h.host.node.requests req ≡ Some replies.on.request
      had = ap (λ (one : Host). tree.get one.node.requests req) (sym same_host) ∙ replies.on.on.there

      open_so : (session_among replies.on.request.session h.host.node.sessions).disk ≡ Some opened
      open_so =
          ap (λ (one : Host). (session_among replies.on.request.session one.node.sessions).disk) (sym same_host) ∙ replies.on.on.on

      -- what a step that goes by changes adds
      grown_so : (cause : NodeCause) → StepsByChanges cause
          → history_of_cause script cause start.world (world_after_cause script h.n h.host cause start.world)
          ≡ added_at_cause script start.world cause
          ++ flat_map (added_by_reply script start.world cause) (node_step (input_of_cause cause) h.host.node).outputs.replies
      grown_so (GuestAsks session other ask) by = refl
      grown_so (RequestComes name to request) by = absurd by
      grown_so (ReplyComes name from rsp) by = refl
      grown_so (LossIsTold name packet) by = refl
      grown_so (EntryIsRead entry) by = refl
      grown_so (EntryIsPut entry) by = absurd by
      grown_so RecoveryTicks by = absurd by
      grown_so WorkIsRetried by = refl
      grown_so (ClientAsks other ask) by = refl

      value_by : StepsByChanges h.cause → HasValueBehind made.grown
      value_by by =
          let added = added_at_cause script start.world h.cause in
          let told = flat_map (added_by_reply script start.world h.cause)
          (node_step (input_of_cause h.cause) h.host.node).outputs.replies in
          let grown : made.grown ≡ added ++ told = ap (λ (m : EventOutcome). m.grown) (sym h.made_so) ∙ grown_so h.cause by in
          let chain = step_chain (input_of_cause h.cause) h.host.node in
          let now = answered script range moves start ran on stepping by req replies.reply replies.accepts sound.checks replies.on.request
          had chain among in
          let (coded, bytes, began_so) = begins script range moves start ran on stepping by req replies.reply replies.accepts sound.checks
          replies.on.request had now opened open_so index own unit has.inside within in
          let done = ends script range moves start ran on stepping by req replies.reply replies.accepts sound.checks replies.on.request had
          now opened open_so index own unit has.inside within (last_in_step on) chain among in
          let start_event = WriteStart req opened.inode.vid block coded bytes in
          let there : Contains (start.past.history ++ made.grown) start_event
          = subst (λ (events : List HistEvent). Contains (start.past.history ++ events) start_event) (sym grown)
          (⊎_elim
          (λ (old : Contains start.past.history start_event).
          Contains-append_left start.past.history (added ++ told) start_event old)
          (λ (new : Contains (added ++ []) start_event).
          Contains-append_right start.past.history (added ++ told) start_event
          (Contains-append_left added told start_event
          (subst (λ (events : List HistEvent). Contains events start_event) (append-nil added) new)))
          (Contains-append_cases start.past.history (added ++ []) start_event began_so)) in
          let acknowledged : Contains made.grown (WriteDone req)
          = subst (λ (events : List HistEvent). Contains events (WriteDone req)) (sym grown)
          (Contains-append_right added told (WriteDone req) done) in
          value_behind req opened.inode.vid block start.past.history made.grown
          (all_follows script range moves event start made ran happened) others in_disk acknowledged coded bytes (stood coded bytes) there

      value_at : HasValueBehind made.grown
      value_at =
          ⊎_elim value_by
          (λ (at_once : StepsAtOnce h.cause).
          absurd (Contains-nil (req, replies.reply)
          (subst (λ (list : List (ℕ × GuestRsp)). Contains list (req, replies.reply)) (made_silent h.cause h.host.node at_once) among)))
          (either_way h.cause)

    -- no other event replies to a request
    silent : Contains {X = ℕ × GuestRsp} [] (req, replies.reply) → HasValueBehind made.grown
    silent none = absurd (Contains-nil (req, replies.reply) none)

    abbrev Replied : EventOutcome → Type 0
    Replied m = Contains m.world.outputs.replies (req, replies.reply)

    by_kind : EventKind script event start.world made → HasValueBehind made.grown
    by_kind (NodeStep h) = value_at h (subst Replied (sym h.made_so) replies.among)
    by_kind (UntoldLoss h) = silent (subst Replied (sym h.made_so) replies.among)
    by_kind (UnreadDelivery h) = silent (subst Replied (sym h.made_so) replies.among)
    by_kind (NodeLoss h) = silent (subst Replied (sym h.made_so) replies.among)
    by_kind (NodeLeave h) = silent (subst Replied (sym h.made_so) replies.among)
    by_kind (NodeReweight h) = silent (subst Replied (sym h.made_so) replies.among)
    by_kind (NodeJoin h) = silent (subst Replied (sym h.made_so) replies.among)
    by_kind (NodeReturn h) =
        absurd (back_silent script (log_after_return script h.n start.world) h.host.node (req, replies.reply)
        (subst Replied (sym h.made_so) replies.among))
    by_kind (PhaseEnd h) = silent (subst Replied (sym h.made_so) replies.among)

    pub value_made : HasValueBehind made.grown
    value_made = by_kind (goes_by_kind script event start.world made happened)

  -- ---- behind the event

  pub checked_value : (move : Move) (after : MomentWithPast) → next_moment script move start ≡ Some after → (req : ℕ) (opened : Disk)
      (disk : histories.Disk) → RepliesToCheck start after req opened disk → (index unit : ℕ) → Contains (own_indexes opened.inode) index
      → HasBlock disk opened.inode.spec index unit
      → (bytes : List ℕ) × HasOneValue (ledger_of after.past.history) opened.inode.vid
      (index * blocks_per_object opened.inode.spec + unit) req bytes
  unfolding past_after_event
  checked_value move after is req opened disk replies index unit own has =
      let gone : HasGone script move start after = has_gone script move start after is in
      subst (λ (m : MomentWithPast).
      (bytes : List ℕ) × HasOneValue (ledger_of m.past.history) opened.inode.vid
      (index * blocks_per_object opened.inode.spec + unit) req bytes) gone.after_so
      (value_made (event_of_move move) gone.made gone.goes req opened disk
      (subst (λ (m : MomentWithPast). RepliesToCheck start m req opened disk) (sym gone.after_so) replies) index unit own has)

-- ---- and until a write of the block begins

pub value_kept : (script : List Statement) → RunsAreInRange script → (moves : List Move) (moment : MomentWithPast)
    → run_with_past script moves ≡ Some moment → (history later : List HistEvent) → moment.past.history ≡ history ++ later
    → (vid block req : ℕ) (bytes : List ℕ) → HasOneValue (ledger_of history) vid block req bytes
    → list_any (begins_on_block vid block) later ≡ false → HasOneValue (ledger_of moment.past.history) vid block req bytes
value_kept script range moves moment ran history later parts vid block req bytes value none =
    let all : AllElseMayFollow empty_ledger (history ++ later)
    = subst (AllElseMayFollow empty_ledger) parts (legal-in_run script range moves moment ran) in
    subst (λ (ledger : Ledger). HasOneValue ledger vid block req bytes)
    (sym (ap ledger_of parts ∙ fold-append ledger_after empty_ledger history later))
    (value_stays vid block req bytes (ledger_of history) later (follow_behind history later empty_ledger all) none value)
