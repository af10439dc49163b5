-- So it is over each event: what begins on a disk is coded as the disk's spec says, and a disk is copied to one of its spec.
use Rattle.std.proofs.Common.{◌≡◌, ℕ, ◌<◌, ◌/◌, ◌==◌, Bool, true, false, cond, List, [], ◌∷◌, ◌++◌, filter, fold, All, Option, Some, None, option_map, slice_get, refl, sym, ap, subst, ◌∙◌}
use Rattle.std.specs.List.{list_any}
use Rattle.std.specs.Option.{option_map_or, option_and_then}
use Rattle.std.specs.FinMap as tree
use Rattle.std.proofs.lemmas.Bool.{eqb-true, lt-ltb}
use Rattle.std.proofs.lemmas.List.Sums.{fold-append}
use Rattle.std.proofs.lemmas.Option.{same_Some}
use Rattle.epoch_log.specs.Appending.{IsReservable}
use Rattle.object_id.specs.declared.entry.Entry.{Entry}
use Rattle.object_id.specs.declared.entry.Entry.TheVariants as entries
use Rattle.object_id.specs.declared.entry.VdiSpec.{VdiSpec}
use Rattle.object_id.specs.declared.limits.TheConstants.{BLOCK_BYTES}
use Rattle.object_id.specs.declared.oid.Kind.TheVariants.{Block}
use Rattle.object_id.specs.declared.oid.Vid.{Vid}
use Rattle.gf256.specs.Part.{is_in_strips}
use Rattle.cluster_script.specs.declared.statement.Statement.{Statement}
use Rattle.cluster_script.specs.NumberedRequests.{numbered_requests, request_at}
use Rattle.cluster_script.specs.Sessions.{ScriptSession}
use Rattle.cluster_script.specs.Settings.{vnodes_of}
use Rattle.disk_check.specs.Check.{Check, CheckStage, Comparing, WritingBack, value_at_stage}
use Rattle.disk_check.specs.Check as checks
use Rattle.disk_history.specs.declared.event.HistEvent.{HistEvent}
use Rattle.disk_history.specs.declared.event.HistEvent.TheVariants.{Create, Copy, Delete}
use Rattle.disk_history.specs.Changes.{items_in, blocks_in}
use Rattle.disk_history.specs.Ledger.{Item, Ledger, empty_ledger, has_block, ledger_after, zeros_item}
use Rattle.disk_history.specs.Ledger as histories
use Rattle.vdi_directory.specs.declared.decision.Decision.{Decision}
use Rattle.vdi_directory.specs.declared.decision.Decision.TheVariants as decisions
use Rattle.vdi_directory.specs.declared.header.Header.{Header}
use Rattle.vdi_directory.specs.Decisions.{decision_after, log_effects}
use Rattle.guest_driver.specs.declared.disk.Disk.{Disk}
use Rattle.peer_proto.specs.declared.say.PeerRsp.{PeerRsp}
use Rattle.sheep_node.specs.declared.ask.Ask.{Ask}
use Rattle.sheep_node.specs.declared.check_write.CheckWrite.{CheckWrite}
use Rattle.sheep_node.specs.declared.event.Event.{Event}
use Rattle.sheep_node.specs.declared.input.Input.TheVariants as inputs
use Rattle.sheep_node.specs.CheckWrites.{check_write_on, write_of_value}
use Rattle.sheep_world.specs.Began.{Began, MakesMove}
use Rattle.sheep_world.specs.Effects.{open_disk_at, request_started}
use Rattle.sheep_world.specs.EventKinds.{EventKind, NodeStep, UntoldLoss, UnreadDelivery, NodeLoss, NodeLeave, NodeReweight, NodeJoin, NodeReturn, PhaseEnd}
use Rattle.sheep_world.specs.Granted.{granted_header, disk_cloned, disk_made, granted_adds, decided_adds, entry_adds}
use Rattle.sheep_world.specs.HistoryAdditions.{check_write_by, check_write_grown, is_lost_write, replies_grown, request_grown, writers_lost}
use Rattle.sheep_world.specs.MembershipChanges.{join_of, last_weight}
use Rattle.sheep_world.specs.NodeCauses.{NodeCause, GuestAsks, RequestComes, ReplyComes, LossIsTold, EntryIsRead, EntryIsPut, RecoveryTicks, WorkIsRetried, ClientAsks, IsCause, history_of_cause, world_after_cause}
use Rattle.sheep_world.specs.Step.{EventOutcome}
use Rattle.sheep_world.specs.World.{Host, World, is_host_up, node_at}
use Rattle.sheep_world.proofs.ClientReads.{goes_by_kind}
use Rattle.sheep_world.specs.RunsWithAsks.{Move}
use Rattle.overlap_law.specs.DiskBlocks.{HasItsBlocks}
use Rattle.overlap_law.specs.DiskEvents.{begins_by_others}
use Rattle.overlap_law.specs.Each.{spec_in}
use Rattle.overlap_law.specs.Headline.{ledger_of}
use Rattle.overlap_law.specs.MomentChanges.{RunsAreInRange}
use Rattle.overlap_law.specs.Past.{MomentWithPast, past_after_event, first_moment, moment_after, run_on, run_with_past}
use Rattle.overlap_law.specs.SoundCoded.{StripItemsAreCoded}
use Rattle.overlap_law.proofs.BlocksInRuns.{AllHave, entry_have, blocks-in_run}
use Rattle.overlap_law.proofs.ComingWrites.{coming}
use Rattle.overlap_law.proofs.CoursesOfAsks.{IsPlacedIn}
use Rattle.overlap_law.proofs.CoursesOfScript.{asked_by, BeganOn, requests_placed}
use Rattle.overlap_law.proofs.DiskEventsOfHolders.{append_none, asks_none, check_none, lost_none, replies_none}
use Rattle.overlap_law.proofs.DisksOnTheWay.{made_in_world}
use Rattle.overlap_law.proofs.GrantedEpochs.{spec_stays}
use Rattle.overlap_law.proofs.HoldersInWorlds.{open_here}
use Rattle.overlap_law.proofs.ItemsAtBegin.{served_comes_to_none}
use Rattle.overlap_law.proofs.KnownTables.{parent_known}
use Rattle.overlap_law.proofs.LogsReservable.{in_world}
use Rattle.overlap_law.proofs.NoRecoveredDue.{began-with_past}
use Rattle.overlap_law.proofs.RunsByEvents.{run-kept_by_events}
use Rattle.overlap_law.proofs.RunsWithOneMore.{run_with_one_more}
use Rattle.overlap_law.proofs.SoundCoded.{DiskIsCoded, is_uncoded, begins_uncoded, coded_along, coded_of, done_of, none_among}
use Rattle.overlap_law.proofs.SoundCoded.{all_harmless, asks_harmless, check_harmless}
use Rattle.overlap_law.proofs.SourceSpecs.{snapshot_spec}

-- whether blocks of a spec are kept in strips
abbrev pub strips_of : VdiSpec → Bool
strips_of spec = is_in_strips spec.policy Block

-- each disk of a ledger is coded as a log says that it was made
abbrev pub AllCoded : List Entry → Ledger → Type 0
AllCoded log ledger = (vid : ℕ) (spec : VdiSpec) → spec_in (log_effects log) vid ≡ Some spec
    → DiskIsCoded vid (strips_of spec) (ledger.disks vid)

-- a check's write is of the check's spec
write_spec : (write : CheckWrite) (check : Check) (bytes : List ℕ) (req : ℕ) (stage : CheckStage)
    → option_map (write_of_value req check) (value_at_stage bytes check.spec stage) ≡ Some write
    → (check.vid ≡ write.vid.0) × (check.spec ≡ write.spec)
write_spec write check bytes req (Comparing index later) so =
    let same = same_Some _ write so in (ap (λ (w : CheckWrite). w.vid.0) same, ap (λ (w : CheckWrite). w.spec) same)
write_spec write check bytes req (WritingBack later) so = absurd (cc (so))
write_spec write check bytes req checks.Answered so = absurd (cc (so))

-- so each item of a block that a disk has is fine
pub are_coded : (log : List Entry) (ledger : Ledger) → AllCoded log ledger → StripItemsAreCoded ledger (log_effects log)
are_coded log ledger all = record {
  each = λ vid block place req disk spec item there made strips below got of.
      coded_of req item
      (ap (λ (b : Bool). is_uncoded b item) (sym strips) ∙ fine vid block place disk spec item there made below got) of;
  nobodys = λ vid block place disk spec item there made below got none.
      done_of (is_in_strips spec.policy Block) item (fine vid block place disk spec item there made below got) none;
}
  where
    fine : (vid block place : ℕ) (disk : histories.Disk) (spec : VdiSpec) (item : Item) → ledger.disks vid ≡ Some disk
        → spec_in (log_effects log) vid ≡ Some spec → block < disk.blocks → slice_get (disk.items block) place ≡ Some item
        → is_uncoded (is_in_strips spec.policy Block) item ≡ false
    fine vid block place disk spec item there made below got =
        none_among (is_in_strips spec.policy Block) (disk.items block) place item
        (sym (ap (λ (o : Option histories.Disk). list_any (is_uncoded (is_in_strips spec.policy Block)) (items_in o block)) there)
        ∙ all vid spec made block
        (ap (λ (o : Option histories.Disk). has_block o block) there ∙ lt-ltb block disk.blocks below)) got

-- ---- an entry

module _ (log : List Entry) (reservable : All IsReservable log) (ledger : Ledger) (all : AllCoded log ledger) where
  changed_coded : (id : ℕ) (new : Option histories.Disk)
      → ((spec : VdiSpec) → spec_in (log_effects log) id ≡ Some spec → DiskIsCoded id (strips_of spec) new)
      → (vid : ℕ) (spec : VdiSpec) → spec_in (log_effects log) vid ≡ Some spec
      → DiskIsCoded vid (strips_of spec) (cond (vid == id) new (ledger.disks vid))
  changed_coded id new own vid spec made = by_test (vid == id) refl
    where
      by_test : (b : Bool) → (vid == id) ≡ b → DiskIsCoded vid (strips_of spec) (cond b new (ledger.disks vid))
      by_test true same =
          let is = eqb-true vid id same in
          subst (λ (k : ℕ). DiskIsCoded k (strips_of spec) new) (sym is)
          (own spec (ap (spec_in (log_effects log)) (sym is) ∙ made))
      by_test false apart = all vid spec made

  made_coded : (id blocks : ℕ) → AllCoded log (ledger_after ledger (Create id blocks))
  made_coded id blocks =
      changed_coded id (Some (record { blocks = blocks; items = λ block. zeros_item ∷ []; deleted = false })) (λ spec made block has. refl)

  alike_coded : (id : ℕ) (strips deleted : Bool) (o : Option histories.Disk) → DiskIsCoded id strips o
      → DiskIsCoded id strips (option_map (λ (disk : histories.Disk). record disk { deleted = deleted }) o)
  alike_coded id strips deleted None coded = coded
  alike_coded id strips deleted (Some disk) coded = coded

  copied_coded : (old id : ℕ) → ((spec : VdiSpec) → spec_in (log_effects log) id ≡ Some spec → spec_in (log_effects log) old ≡ Some spec)
      → AllCoded log (ledger_after ledger (Copy old id))
  copied_coded old id alike =
      changed_coded id (option_map (λ (disk : histories.Disk). record disk { deleted = false }) (ledger.disks old))
      (λ spec made. alike_coded id (strips_of spec) false (ledger.disks old) (all old spec (alike spec made)))

  deleted_coded : (id : ℕ) → AllCoded log (ledger_after ledger (Delete id))
  deleted_coded id =
      changed_coded id (option_map (λ (disk : histories.Disk). record disk { deleted = true }) (ledger.disks id))
      (λ spec made. alike_coded id (strips_of spec) true (ledger.disks id) (all id spec made))

  granted_coded : (entry : Entry) (id : Vid) → decision_after log entry ≡ decisions.Granted id
      → AllCoded log (fold ledger_after ledger (granted_adds log id entry))
  granted_coded (entries.Publish by of) id is = by_header (granted_header log id)
    where
      by_header : (header : Option Header) → AllCoded log (fold ledger_after ledger (option_map_or (disk_made id) header []))
      by_header None = all
      by_header (Some header) = made_coded id.0 (header.spec.size / BLOCK_BYTES)
  granted_coded (entries.Clone by of) id is = by_header (granted_header log id) refl
    where
      by_parent : (header : Header) → granted_header log id ≡ Some header → (parent : Option Vid) → header.parent ≡ parent
          → AllCoded log (fold ledger_after ledger (option_map_or (λ (parent : Vid). Copy parent.0 id.0 ∷ []) parent []))
      by_parent header there None from = all
      by_parent header there (Some parent) from =
          copied_coded parent.0 id.0 (λ spec made.
          let base = parent_known log reservable id.0 header parent there from in
          base.made
          ∙ sym (ap (option_map (λ (h : Header). h.spec)) there) ∙ made)

      by_header : (header : Option Header) → granted_header log id ≡ header
          → AllCoded log (fold ledger_after ledger (option_map_or (disk_cloned id) header []))
      by_header None there = all
      by_header (Some header) there = by_parent header there header.parent refl
  granted_coded (entries.Snapshot by old of) id is =
      let one = snapshot_spec log by old of id is in
      copied_coded old.0 id.0 (λ spec made. one.of_old ∙ ap (λ (s : VdiSpec). Some s) (same_Some one.spec spec (sym one.own ∙ made)))
  granted_coded (entries.Delete by session name tag) id is = deleted_coded id.0
  granted_coded entry id is = all

  entry_coded : (entry : Entry) → AllCoded log (fold ledger_after ledger (entry_adds log entry))
  unfolding entry_adds
  entry_coded entry = by_decision (decision_after log entry) refl
    where
      by_decision : (decision : Decision) → decision_after log entry ≡ decision
          → AllCoded log (fold ledger_after ledger (decided_adds log entry decision))
      by_decision decisions.None is = all
      by_decision (decisions.Granted id) is = granted_coded entry id is
      by_decision (decisions.Refused cause) is = all

-- ---- every event

module _ (script : List Statement) (range : RunsAreInRange script) where
  module _ (events : List Move) (before : MomentWithPast) (run : run_with_past script events ≡ Some before)
      (all : AllCoded before.world.log (ledger_of before.past.history)) where
    abbrev world : World
    world = before.world

    abbrev history : List HistEvent
    history = before.past.history

    began : Began script before.world
    began = began-with_past script events before run

    pub split : (grown : List HistEvent) → ledger_of (before.past.history ++ grown) ≡ fold ledger_after (ledger_of before.past.history) grown
    split grown = fold-append ledger_after empty_ledger before.past.history grown

    abbrev Then : List Entry → List HistEvent → Type 0
    Then log grown = AllCoded log (fold ledger_after (ledger_of before.past.history) grown)

    all_have : AllHave before.world.log (ledger_of before.past.history)
    all_have vid blocks is = by_disk ((ledger_of before.past.history).disks vid) refl is
      where
        by_disk : (o : Option histories.Disk) → (ledger_of before.past.history).disks vid ≡ o → blocks_in o ≡ Some blocks
            → HasItsBlocks before.world.log vid blocks
        by_disk None there is = absurd (cc (is))
        by_disk (Some disk) there is =
            subst (HasItsBlocks before.world.log vid) (same_Some disk.blocks blocks is)
            (blocks-in_run script range events before run vid disk there)

    -- a longer log says of the disks what this one does
    later_coded : (later : List Entry) (ledger : Ledger) → AllHave before.world.log ledger → AllCoded before.world.log ledger
        → AllCoded (before.world.log ++ later) ledger
    later_coded later ledger have coded vid spec made = by_disk (ledger.disks vid) refl
      where
        by_disk : (o : Option histories.Disk) → ledger.disks vid ≡ o → DiskIsCoded vid (strips_of spec) o
        by_disk None there = λ block has. absurd (cc (has))
        by_disk (Some disk) there =
            let own = have vid disk.blocks (ap blocks_in there) in
            subst (DiskIsCoded vid (strips_of spec)) there
            (coded vid spec (own.made ∙ sym (spec_stays before.world.log later vid own.spec own.made) ∙ made))

    module _ (grown : List HistEvent)
        (makes : (vid : ℕ) → list_any (begins_by_others vid (λ (q : ℕ). true)) grown ≡ false)
        (harmless : (vid : ℕ) (spec : VdiSpec) → spec_in (log_effects before.world.log) vid ≡ Some spec
        → list_any (begins_uncoded vid (strips_of spec)) grown ≡ false) where
      same : AllCoded before.world.log (fold ledger_after (ledger_of before.past.history) grown)
      same vid spec made =
          coded_along vid (strips_of spec) (ledger_of before.past.history) grown (makes vid) (harmless vid spec made) (all vid spec made)

    quiet_harmless : (found after : World) (write : Option CheckWrite) (vid : ℕ) (spec : VdiSpec)
        → list_any (begins_uncoded vid (strips_of spec)) (replies_grown script found write after) ≡ false
    quiet_harmless found after write vid spec =
        all_harmless vid (strips_of spec) (replies_grown script found write after)
        (replies_none script vid (λ (q : ℕ). false) found write after.outputs.replies)

    pub told : (found after : World) (write : Option CheckWrite) → Then before.world.log (replies_grown script found write after)
    told found after write =
        same (replies_grown script found write after)
        (λ vid. replies_none script vid (λ (q : ℕ). true) found write after.outputs.replies)
        (λ vid spec made. quiet_harmless found after write vid spec)

    module _ (n : ℕ) (host : Host) (there : tree.get before.world.hosts n ≡ Some host) (up : is_host_up host ≡ true) where
      pub asks_coded : (session : ScriptSession) (other : ℕ) (ask : Ask)
          → IsCause script before.world n host (GuestAsks session other ask) → (after : World)
          → Then before.world.log (request_grown script before.world session (Some other)
          ++ replies_grown script (request_started session (Some other) before.world) None after)
      asks_coded session other ask caused after =
          same (starts ++ ends)
          (λ vid.
          append_none (begins_by_others vid (λ (q : ℕ). true)) starts ends
          (asks_none script vid (λ (q : ℕ). true) other (open_disk_at session before.world) (request_at script other)
          (λ opened is own. refl))
          (replies_none script vid (λ (q : ℕ). true) (request_started session (Some other) before.world) None after.outputs.replies))
          (λ vid spec made.
          append_none (begins_uncoded vid (strips_of spec)) starts ends
          (asks_harmless vid (strips_of spec) other (open_disk_at session before.world) (request_at script other) (λ opened is own.
          let known = made_in_world script range before.world began n host there session.number opened
          (sym (open_here script range before.world began n host there up session other ask caused) ∙ is) in
          ap strips_of
          (same_Some opened.inode.spec spec (sym known.disk.made ∙ ap (spec_in (log_effects before.world.log)) own ∙ made))))
          (quiet_harmless (request_started session (Some other) before.world) after None vid spec))
        where
          starts : List HistEvent
          starts = request_grown script before.world session (Some other)

          ends : List HistEvent
          ends = replies_grown script (request_started session (Some other) before.world) None after

      -- a check's write, where one comes
      pub comes_harmless : (rsp : PeerRsp) (o : Option CheckWrite) → o ≡ check_write_on (inputs.Reply rsp) host.node
          → (vid : ℕ) (spec : VdiSpec) → spec_in (log_effects before.world.log) vid ≡ Some spec
          → list_any (begins_uncoded vid (strips_of spec)) (option_map_or (check_write_grown script) o []) ≡ false
      comes_harmless rsp None is vid spec made = refl
      comes_harmless rsp (Some write) is vid spec made = check_harmless vid (strips_of spec) script write (λ own.
          let has = coming write rsp host.node (sym is) in
          let (start, at, course) = subst (IsPlacedIn (asked_by script) (BeganOn script before.world.guests) write.req host.node.sessions)
          has.there (requests_placed script range before.world began n host there write.req) in
          let known = made_in_world script range before.world began n host there has.session course.on.disk course.on.there in
          let (of_vid, of_spec) = write_spec write has.check has.bytes write.req has.check.stage has.comes in
          ap strips_of
          (sym of_spec ∙ course.is.spec
          ∙ same_Some course.on.disk.inode.spec spec
          (sym known.disk.made ∙ ap (spec_in (log_effects before.world.log)) (sym course.is.vid ∙ of_vid ∙ own) ∙ made)))

      comes_make_none : (o : Option CheckWrite) (vid : ℕ)
          → list_any (begins_by_others vid (λ (q : ℕ). true)) (option_map_or (check_write_grown script) o []) ≡ false
      comes_make_none None vid = refl
      comes_make_none (Some write) vid = check_none script vid (λ (q : ℕ). true) write (λ same. refl)

      pub came_coded : (o : Option CheckWrite) (after : World)
          → ((vid : ℕ) (spec : VdiSpec) → spec_in (log_effects before.world.log) vid ≡ Some spec
          → list_any (begins_uncoded vid (strips_of spec)) (option_map_or (check_write_grown script) o []) ≡ false)
          → Then before.world.log (option_map_or (check_write_grown script) o [] ++ replies_grown script before.world o after)
      came_coded o after harmless =
          same (option_map_or (check_write_grown script) o [] ++ replies_grown script before.world o after)
          (λ vid.
          append_none (begins_by_others vid (λ (q : ℕ). true)) (option_map_or (check_write_grown script) o [])
          (replies_grown script before.world o after) (comes_make_none o vid)
          (replies_none script vid (λ (q : ℕ). true) before.world o after.outputs.replies))
          (λ vid spec made.
          append_none (begins_uncoded vid (strips_of spec)) (option_map_or (check_write_grown script) o [])
          (replies_grown script before.world o after) (harmless vid spec made) (quiet_harmless before.world after o vid spec))

      step_coded : (cause : NodeCause) → IsCause script before.world n host cause
          → AllCoded (world_after_cause script n host cause before.world).log
          (fold ledger_after (ledger_of before.past.history)
          (history_of_cause script cause before.world (world_after_cause script n host cause before.world)))
      step_coded (GuestAsks session other ask) caused =
          asks_coded session other ask caused (world_after_cause script n host (GuestAsks session other ask) before.world)
      step_coded (RequestComes name to request) caused =
          let after = world_after_cause script n host (RequestComes name to request) before.world in
          let none : check_write_by name before.world after ≡ None
          = served_comes_to_none request (node_at name.sender.0 before.world) in
          came_coded (check_write_by name before.world after) after (λ vid spec made.
          ap (λ (o : Option CheckWrite). list_any (begins_uncoded vid (strips_of spec)) (option_map_or (check_write_grown script) o []))
          none)
      step_coded (ReplyComes name from rsp) caused =
          let after = world_after_cause script n host (ReplyComes name from rsp) before.world in
          let is : check_write_by name before.world after ≡ check_write_on (inputs.Reply rsp) host.node
          = ap (λ (k : ℕ). option_and_then (check_write_on (inputs.Reply rsp)) (node_at k before.world)) caused.here
          ∙ ap (λ (o : Option Host). option_and_then (check_write_on (inputs.Reply rsp)) (option_map (λ (h : Host). h.node) o)) there in
          came_coded (check_write_by name before.world after) after (comes_harmless rsp (check_write_by name before.world after) is)
      step_coded (LossIsTold name packet) caused =
          told before.world (world_after_cause script n host (LossIsTold name packet) before.world) None
      step_coded (EntryIsRead entry) caused = told before.world (world_after_cause script n host (EntryIsRead entry) before.world) None
      step_coded (EntryIsPut entry) caused =
          later_coded (entry ∷ []) (fold ledger_after (ledger_of before.past.history) (entry_adds before.world.log entry))
          (entry_have before.world.log (in_world script range before.world began) (ledger_of before.past.history) all_have entry)
          (entry_coded before.world.log (in_world script range before.world began) (ledger_of before.past.history) all entry)
      step_coded RecoveryTicks caused = told before.world (world_after_cause script n host RecoveryTicks before.world) None
      step_coded WorkIsRetried caused = told before.world (world_after_cause script n host WorkIsRetried before.world) None
      step_coded (ClientAsks req ask) caused = told before.world (world_after_cause script n host (ClientAsks req ask) before.world) None

    -- ---- the event

    abbrev CodedThen : EventOutcome → Type 0
    CodedThen m = AllCoded m.world.log (fold ledger_after (ledger_of before.past.history) m.grown)

    longer : (entry : Entry) → AllCoded (before.world.log ++ entry ∷ []) (ledger_of before.past.history)
    longer entry = later_coded (entry ∷ []) (ledger_of before.past.history) all_have all

    kind_coded : (event : Event) (made : EventOutcome) → EventKind script event before.world made → CodedThen made
    kind_coded event made (NodeStep h) = subst CodedThen h.made_so (step_coded h.n h.host h.there h.up h.cause h.caused)
    kind_coded event made (UntoldLoss h) = subst CodedThen h.made_so all
    kind_coded event made (UnreadDelivery h) = subst CodedThen h.made_so all
    kind_coded event made (NodeLoss h) = subst CodedThen h.made_so
        (let requests = filter (is_lost_write script before.world h.n h.host) (numbered_requests script) in
        same (writers_lost script before.world h.n (Some h.host)) (λ vid. lost_none script vid (λ (q : ℕ). true) requests)
        (λ vid spec made_with.
        all_harmless vid (strips_of spec) (writers_lost script before.world h.n (Some h.host))
        (lost_none script vid (λ (q : ℕ). false) requests)))
    kind_coded event made (NodeLeave h) = subst CodedThen h.made_so (longer (entries.Leave (record { 0 = h.n })))
    kind_coded event made (NodeReweight h) = subst CodedThen h.made_so (longer (entries.Reweight (record { 0 = h.n }) h.vnodes))
    kind_coded event made (NodeJoin h) = subst CodedThen h.made_so (longer (join_of script h.n (vnodes_of script)))
    kind_coded event made (NodeReturn h) = subst CodedThen h.made_so (longer (join_of script h.n (last_weight before.world.log h.n)))
    kind_coded event made (PhaseEnd h) = subst CodedThen h.made_so all

    abbrev CodedAt : MomentWithPast → Type 0
    CodedAt moment = AllCoded moment.world.log (ledger_of moment.past.history)

    event_coded : (event : Event) (made : EventOutcome) → MakesMove script event before.world made
        → CodedAt (moment_after script event before made)
    unfolding past_after_event
    event_coded event made happened =
        subst (AllCoded made.world.log) (sym (split made.grown))
        (kind_coded event made (goes_by_kind script event before.world made happened))

  -- ---- every run

  abbrev HoldsInRun : MomentWithPast → Type 0
  HoldsInRun moment = (events : List Move) × (run_with_past script events ≡ Some moment)
      × AllCoded moment.world.log (ledger_of moment.past.history)

  opens : HoldsInRun (first_moment script)
  unfolding run_with_past run_on
  opens = ([], refl, λ vid spec made block has. absurd (cc (has)))

  keeps : (event : Event) (before : MomentWithPast) (made : EventOutcome) → Began script before.world
      → MakesMove script event before.world made → HoldsInRun before → HoldsInRun (moment_after script event before made)
  keeps event before made begun is holds = (
    holds.0 ++ is.move ∷ [],
    run_with_one_more script event made holds.0 before is holds.1,
    event_coded holds.0 before holds.1 holds.2 event made is,
  )

  pub all_coded-in_run : (events : List Move) (moment : MomentWithPast) → run_with_past script events ≡ Some moment
      → AllCoded moment.world.log (ledger_of moment.past.history)
  all_coded-in_run events moment run = (run-kept_by_events script HoldsInRun opens keeps events moment run).2

  pub coded-in_run : (events : List Move) (moment : MomentWithPast) → run_with_past script events ≡ Some moment
      → StripItemsAreCoded (ledger_of moment.past.history) (log_effects moment.world.log)
  coded-in_run events moment run =
      are_coded moment.world.log (ledger_of moment.past.history) (all_coded-in_run events moment run)
