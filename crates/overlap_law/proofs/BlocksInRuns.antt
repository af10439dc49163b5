-- In each run in range a disk of the history has as many blocks as the log says that it was made with: a new disk has the blocks of its
-- header, and one that is copied is of the spec of that which it is copied from.
use Rattle.std.proofs.Common.{◌≡◌, ℕ, ◌==◌, Bool, true, false, cond, List, [], ◌∷◌, ◌++◌, fold, filter, Option, Some, None, option_map}
use Rattle.std.proofs.Common.{refl, sym, ap, subst, ◌∙◌, All}
use Rattle.std.specs.Prelude.{◌/◌}
use Rattle.std.specs.List.{list_any}
use Rattle.std.specs.Option.{option_map_or}
use Rattle.std.proofs.lemmas.Bool.{eqb-true}
use Rattle.std.proofs.lemmas.List.Sums.{fold-append}
use Rattle.std.proofs.lemmas.Option.{same_Some}
use Rattle.object_id.specs.declared.entry.Entry.{Entry}
use Rattle.object_id.specs.declared.entry.Entry.TheVariants as entries
use Rattle.object_id.specs.declared.entry.VdiSpec.{VdiSpec}
use Rattle.object_id.specs.declared.limits.TheConstants.{BLOCK_BYTES}
use Rattle.object_id.specs.declared.oid.Vid.{Vid}
use Rattle.epoch_log.specs.Appending.{IsReservable}
use Rattle.disk_history.specs.declared.event.HistEvent.{HistEvent}
use Rattle.disk_history.specs.declared.event.HistEvent.TheVariants.{Create, Copy, Delete}
use Rattle.disk_history.specs.Changes.{blocks_in}
use Rattle.disk_history.specs.Ledger.{Disk, Ledger, empty_ledger, ledger_after, zeros_item}
use Rattle.vdi_directory.specs.declared.decision.Decision.{Decision}
use Rattle.vdi_directory.specs.declared.decision.Decision.TheVariants as decisions
use Rattle.vdi_directory.specs.declared.header.Header.{Header}
use Rattle.vdi_directory.specs.Decisions.{decision_after, log_effects}
use Rattle.cluster_script.specs.declared.statement.Statement.{Statement}
use Rattle.cluster_script.specs.NumberedRequests.{numbered_requests, request_at}
use Rattle.cluster_script.specs.Settings.{vnodes_of}
use Rattle.sheep_node.specs.declared.check_write.CheckWrite.{CheckWrite}
use Rattle.sheep_node.specs.declared.event.Event.{Event}
use Rattle.sheep_world.specs.World.{Host, World}
use Rattle.sheep_world.specs.Began.{Began}
use Rattle.sheep_world.specs.Effects.{open_disk_at, request_started}
use Rattle.sheep_world.specs.EventKinds.{EventKind, NodeStep, UntoldLoss, UnreadDelivery, NodeLoss, NodeLeave, NodeReweight, NodeJoin}
use Rattle.sheep_world.specs.EventKinds.{NodeReturn, PhaseEnd}
use Rattle.sheep_world.specs.Granted.{granted_header, disk_cloned, disk_made, granted_adds, decided_adds, entry_adds}
use Rattle.sheep_world.specs.HistoryAdditions.{check_write_by, check_write_grown, is_lost_write, replies_grown, request_grown}
use Rattle.sheep_world.specs.MembershipChanges.{join_of, last_weight}
use Rattle.sheep_world.specs.NodeCauses.{NodeCause, GuestAsks, RequestComes, ReplyComes, LossIsTold, EntryIsRead, EntryIsPut, RecoveryTicks}
use Rattle.sheep_world.specs.NodeCauses.{WorkIsRetried, ClientAsks, history_of_cause, world_after_cause}
use Rattle.sheep_world.specs.Step.{EventOutcome}
use Rattle.sheep_world.proofs.ClientReads.{goes_by_kind}
use Rattle.sheep_world.specs.RunsWithAsks.{Move}
use Rattle.overlap_law.specs.DiskBlocks.{HasItsBlocks, DisksHaveTheirBlocks}
use Rattle.overlap_law.specs.DiskEvents.{begins_by_others}
use Rattle.overlap_law.specs.Each.{spec_in}
use Rattle.overlap_law.specs.Headline.{ledger_of}
use Rattle.overlap_law.specs.MomentChanges.{RunsAreInRange}
use Rattle.overlap_law.specs.Past.{MomentWithPast, past_after_event, first_moment, run_with_past}
use Rattle.overlap_law.proofs.BlockItems.{blocks_along, blocks_stay}
use Rattle.overlap_law.proofs.DiskEventsOfHolders.{HasNone, append_none, asks_none, check_none, lost_none, replies_none}
use Rattle.overlap_law.proofs.GrantedEpochs.{spec_stays}
use Rattle.overlap_law.proofs.KnownTables.{parent_known}
use Rattle.overlap_law.proofs.LogsReservable.{in_world}
use Rattle.overlap_law.proofs.OpenItemsInRuns.{fewer_make}
use Rattle.overlap_law.proofs.RunsByEvents.{KeptByEvents, run-kept_by_events}
use Rattle.overlap_law.proofs.SourceSpecs.{snapshot_spec}

-- each disk of a ledger has the blocks that a log says
abbrev pub AllHave : List Entry → Ledger → Type 0
AllHave log ledger = (vid blocks : ℕ) → blocks_in (ledger.disks vid) ≡ Some blocks → HasItsBlocks log vid blocks

-- more of the log says no other
later_have : (log later : List Entry) (ledger : Ledger) → AllHave log ledger → AllHave (log ++ later) ledger
later_have log later ledger all vid blocks is =
    let has = all vid blocks is in
    record { spec = has.spec; made = spec_stays log later vid has.spec has.made; whole = has.whole }

-- nor do events that make no disk
calm_have : (log : List Entry) (ledger : Ledger) (events : List HistEvent)
    → ((vid : ℕ) → list_any (begins_by_others vid (λ (req : ℕ). true)) events ≡ false) → AllHave log ledger
    → AllHave log (fold ledger_after ledger events)
calm_have log ledger events none all vid blocks is =
    all vid blocks (sym (blocks_along vid 0 events ledger (fewer_make (λ (req : ℕ). true) vid 0 events (none vid))) ∙ is)

-- ---- an entry

module _ (log : List Entry) (reservable : All IsReservable log) (ledger : Ledger) (all : AllHave log ledger) where
  -- one disk is another
  changed_have : (id : ℕ) (new : Option Disk) → ((blocks : ℕ) → blocks_in new ≡ Some blocks → HasItsBlocks log id blocks)
      → (vid blocks : ℕ) → blocks_in (cond (vid == id) new (ledger.disks vid)) ≡ Some blocks → HasItsBlocks log vid blocks
  changed_have id new own vid blocks = by_test (vid == id) refl
    where
      by_test : (b : Bool) → (vid == id) ≡ b → blocks_in (cond b new (ledger.disks vid)) ≡ Some blocks → HasItsBlocks log vid blocks
      by_test true same is = subst (λ (k : ℕ). HasItsBlocks log k blocks) (sym (eqb-true vid id same)) (own blocks is)
      by_test false apart is = all vid blocks is

  -- it is made
  made_have : (id : ℕ) (header : Header) → spec_in (log_effects log) id ≡ Some header.spec
      → AllHave log (ledger_after ledger (Create id (header.spec.size / BLOCK_BYTES)))
  made_have id header made =
      changed_have id (Some (record { blocks = header.spec.size / BLOCK_BYTES; items = λ block. zeros_item ∷ []; deleted = false }))
      (λ blocks is. record { spec = header.spec; made = made; whole = sym (same_Some (header.spec.size / BLOCK_BYTES) blocks is) })

  -- or copied from one of its spec
  copied_have : (old id : ℕ) → ((spec : VdiSpec) → spec_in (log_effects log) old ≡ Some spec → spec_in (log_effects log) id ≡ Some spec)
      → AllHave log (ledger_after ledger (Copy old id))
  copied_have old id alike =
      changed_have id (option_map (λ (disk : Disk). record disk { deleted = false }) (ledger.disks old)) (λ blocks is.
      let has = all old blocks (by_found (ledger.disks old) blocks is) in
      record { spec = has.spec; made = alike has.spec has.made; whole = has.whole })
    where
      by_found : (o : Option Disk) (blocks : ℕ) → blocks_in (option_map (λ (disk : Disk). record disk { deleted = false }) o) ≡ Some blocks
          → blocks_in o ≡ Some blocks
      by_found None blocks is = is
      by_found (Some disk) blocks is = is

  granted_have : (entry : Entry) (id : Vid) → decision_after log entry ≡ decisions.Granted id
      → AllHave log (fold ledger_after ledger (granted_adds log id entry))
  granted_have (entries.Publish by of) id is = by_header (granted_header log id) refl
    where
      by_header : (header : Option Header) → granted_header log id ≡ header
          → AllHave log (fold ledger_after ledger (option_map_or (disk_made id) header []))
      by_header None there = all
      by_header (Some header) there = made_have id.0 header (ap (option_map (λ (h : Header). h.spec)) there)
  granted_have (entries.Clone by of) id is = by_header (granted_header log id) refl
    where
      by_parent : (header : Header) → granted_header log id ≡ Some header → (parent : Option Vid) → header.parent ≡ parent
          → AllHave log (fold ledger_after ledger (option_map_or (λ (parent : Vid). Copy parent.0 id.0 ∷ []) parent []))
      by_parent header there None from = all
      by_parent header there (Some parent) from =
          copied_have parent.0 id.0 (λ spec made.
          let base = parent_known log reservable id.0 header parent there from in
          ap (option_map (λ (h : Header). h.spec)) there
          ∙ ap (λ (s : VdiSpec). Some s) (same_Some header.spec spec (sym base.made ∙ made)))

      by_header : (header : Option Header) → granted_header log id ≡ header
          → AllHave log (fold ledger_after ledger (option_map_or (disk_cloned id) header []))
      by_header None there = all
      by_header (Some header) there = by_parent header there header.parent refl
  granted_have (entries.Snapshot by old of) id is =
      let one = snapshot_spec log by old of id is in
      copied_have old.0 id.0 (λ spec made.
      one.own ∙ ap (λ (s : VdiSpec). Some s) (same_Some one.spec spec (sym one.of_old ∙ made)))
  granted_have (entries.Delete by session name tag) id is =
      λ vid blocks so. all vid blocks (sym (blocks_stay vid 0 ledger (Delete id.0) refl) ∙ so)
  granted_have entry id is = all

  pub entry_have : (entry : Entry) → AllHave log (fold ledger_after ledger (entry_adds log entry))
  unfolding entry_adds
  entry_have entry = by_decision (decision_after log entry) refl
    where
      by_decision : (decision : Decision) → decision_after log entry ≡ decision
          → AllHave log (fold ledger_after ledger (decided_adds log entry decision))
      by_decision decisions.None is = all
      by_decision (decisions.Granted id) is = granted_have entry id is
      by_decision (decisions.Refused cause) is = all

-- ---- every event

module _ (script : List Statement) (range : RunsAreInRange script) where
  abbrev MakesNone : ℕ → List HistEvent → Type 0
  MakesNone vid events = HasNone (begins_by_others vid (λ (req : ℕ). true)) events

  checks_none : (vid : ℕ) (write : Option CheckWrite) → MakesNone vid (option_map_or (check_write_grown script) write [])
  checks_none vid None = refl
  checks_none vid (Some write) = check_none script vid (λ (req : ℕ). true) write (λ same. refl)

  module _ (world after : World) where
    told_none : (vid : ℕ) (found : World) (write : Option CheckWrite) → MakesNone vid (replies_grown script found write after)
    told_none vid found write = replies_none script vid (λ (req : ℕ). true) found write after.outputs.replies

    came_none : (vid : ℕ) (write : Option CheckWrite)
        → MakesNone vid (option_map_or (check_write_grown script) write [] ++ replies_grown script world write after)
    came_none vid write =
        append_none (begins_by_others vid (λ (req : ℕ). true)) (option_map_or (check_write_grown script) write [])
        (replies_grown script world write after) (checks_none vid write) (told_none vid world write)

  abbrev HaveThen : List HistEvent → EventOutcome → Type 0
  HaveThen history m = AllHave m.world.log (ledger_of (history ++ m.grown))

  split : (history grown : List HistEvent) → ledger_of (history ++ grown) ≡ fold ledger_after (ledger_of history) grown
  split history grown = fold-append ledger_after empty_ledger history grown

  module _ (world : World) (began : Began script world) (history : List HistEvent) (all : AllHave world.log (ledger_of history)) where
    quiet : (later : List Entry) (grown : List HistEvent) → ((vid : ℕ) → MakesNone vid grown)
        → AllHave (world.log ++ later) (ledger_of (history ++ grown))
    quiet later grown none =
        later_have world.log later (ledger_of (history ++ grown))
        (subst (AllHave world.log) (sym (split history grown)) (calm_have world.log (ledger_of history) grown none all))

    same : (grown : List HistEvent) → ((vid : ℕ) → MakesNone vid grown) → AllHave world.log (ledger_of (history ++ grown))
    same grown none = subst (AllHave world.log) (sym (split history grown)) (calm_have world.log (ledger_of history) grown none all)

    step_have : (n : ℕ) (host : Host) (cause : NodeCause)
        → AllHave (world_after_cause script n host cause world).log
        (ledger_of (history ++ history_of_cause script cause world (world_after_cause script n host cause world)))
    step_have n host (GuestAsks session req ask) =
        let after = world_after_cause script n host (GuestAsks session req ask) world in
        same (request_grown script world session (Some req) ++ replies_grown script (request_started session (Some req) world) None after)
        (λ vid.
        append_none (begins_by_others vid (λ (req : ℕ). true)) (request_grown script world session (Some req))
        (replies_grown script (request_started session (Some req) world) None after)
        (asks_none script vid (λ (req : ℕ). true) req (open_disk_at session world) (request_at script req) (λ opened is own. refl))
        (told_none world after vid (request_started session (Some req) world) None))
    step_have n host (RequestComes name to request) =
        let after = world_after_cause script n host (RequestComes name to request) world in
        same (history_of_cause script (RequestComes name to request) world after)
        (λ vid. came_none world after vid (check_write_by name world after))
    step_have n host (ReplyComes name from rsp) =
        let after = world_after_cause script n host (ReplyComes name from rsp) world in
        same (history_of_cause script (ReplyComes name from rsp) world after)
        (λ vid. came_none world after vid (check_write_by name world after))
    step_have n host (LossIsTold name packet) =
        let after = world_after_cause script n host (LossIsTold name packet) world in
        same (replies_grown script world None after) (λ vid. told_none world after vid world None)
    step_have n host (EntryIsRead entry) =
        let after = world_after_cause script n host (EntryIsRead entry) world in
        same (replies_grown script world None after) (λ vid. told_none world after vid world None)
    step_have n host (EntryIsPut entry) =
        later_have world.log (entry ∷ []) (ledger_of (history ++ entry_adds world.log entry))
        (subst (AllHave world.log) (sym (split history (entry_adds world.log entry)))
        (entry_have world.log (in_world script range world began) (ledger_of history) all entry))
    step_have n host RecoveryTicks =
        let after = world_after_cause script n host RecoveryTicks world in
        same (replies_grown script world None after) (λ vid. told_none world after vid world None)
    step_have n host WorkIsRetried =
        let after = world_after_cause script n host WorkIsRetried world in
        same (replies_grown script world None after) (λ vid. told_none world after vid world None)
    step_have n host (ClientAsks req ask) =
        let after = world_after_cause script n host (ClientAsks req ask) world in
        same (replies_grown script world None after) (λ vid. told_none world after vid world None)

    kind_have : (event : Event) (made : EventOutcome) → EventKind script event world made → HaveThen history made
    kind_have event made (NodeStep h) = subst (HaveThen history) h.made_so (step_have h.n h.host h.cause)
    kind_have event made (UntoldLoss h) = subst (HaveThen history) h.made_so (same [] (λ vid. refl))
    kind_have event made (UnreadDelivery h) = subst (HaveThen history) h.made_so (same [] (λ vid. refl))
    kind_have event made (NodeLoss h) = subst (HaveThen history) h.made_so
        (same _ (λ vid.
        lost_none script vid (λ (req : ℕ). true) (filter (is_lost_write script world h.n h.host) (numbered_requests script))))
    kind_have event made (NodeLeave h) =
        subst (HaveThen history) h.made_so (quiet (entries.Leave (record { 0 = h.n }) ∷ []) [] (λ vid. refl))
    kind_have event made (NodeReweight h) =
        subst (HaveThen history) h.made_so (quiet (entries.Reweight (record { 0 = h.n }) h.vnodes ∷ []) [] (λ vid. refl))
    kind_have event made (NodeJoin h) =
        subst (HaveThen history) h.made_so (quiet (join_of script h.n (vnodes_of script) ∷ []) [] (λ vid. refl))
    kind_have event made (NodeReturn h) =
        subst (HaveThen history) h.made_so (quiet (join_of script h.n (last_weight world.log h.n) ∷ []) [] (λ vid. refl))
    kind_have event made (PhaseEnd h) = subst (HaveThen history) h.made_so (same [] (λ vid. refl))

  abbrev HaveAt : MomentWithPast → Type 0
  HaveAt moment = AllHave moment.world.log (ledger_of moment.past.history)

  opens_have : HaveAt (first_moment script)
  opens_have vid blocks is = absurd (cc (is))

  events_have : KeptByEvents script HaveAt
  unfolding past_after_event
  events_have event before made began is all =
      kind_have before.world began before.past.history all event made (goes_by_kind script event before.world made is)

  pub blocks-in_run : (events : List Move) (moment : MomentWithPast) → run_with_past script events ≡ Some moment
      → DisksHaveTheirBlocks moment.world.log moment.past.history
  blocks-in_run events moment is vid disk there =
      run-kept_by_events script HaveAt opens_have events_have events moment is vid disk.blocks (ap blocks_in there)
