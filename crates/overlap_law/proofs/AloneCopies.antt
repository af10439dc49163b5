-- What an event adds to the history copies no disk, but one that is given no more behind it; and it begins no write of a request that is
-- there, but of a check.
use Rattle.std.proofs.Common.{◌≡◌, ◌⊎◌, inl, inr, ℕ, ◌+◌, ◌==◌, Bool, true, false, ◌||◌, cond, List, [], ◌∷◌, ◌++◌, map, filter, fold}
use Rattle.std.proofs.Common.{Option, Some, None, option_map, refl, sym, ap, subst, ◌∙◌}
use Rattle.std.specs.Prelude.{flat_map}
use Rattle.std.specs.List.{list_any}
use Rattle.std.specs.Option.{option_map_or, option_and_then}
use Rattle.std.specs.FinMap as tree
use Rattle.std.proofs.lemmas.Bool.{eq-eqb, eqb-true, or_left}
use Rattle.std.proofs.lemmas.Option.{same_Some}
use Rattle.object_id.specs.declared.entry.Entry.{Entry}
use Rattle.object_id.specs.declared.entry.Entry.TheVariants as entries
use Rattle.object_id.specs.declared.oid.Vid.{Vid}
use Rattle.disk_history.specs.declared.event.HistEvent.{HistEvent}
use Rattle.disk_history.specs.declared.event.HistEvent.TheVariants.{Copy, WriterLost}
use Rattle.vdi_directory.specs.declared.decision.Decision.{Decision}
use Rattle.vdi_directory.specs.declared.decision.Decision.TheVariants as decisions
use Rattle.vdi_directory.specs.declared.header.Header.{Header}
use Rattle.vdi_directory.specs.Chains.{is_above}
use Rattle.vdi_directory.specs.Decisions.{decision_after, log_effects}
use Rattle.vdi_directory.proofs.ChainLemmas.{is_parent_or_above}
use Rattle.vdi_directory.proofs.LineLemmas.{above-line, line-log_effects}
use Rattle.cluster_script.specs.declared.statement.Statement.{Statement}
use Rattle.cluster_script.specs.declared.statement.Statement.TheVariants as lines
use Rattle.cluster_script.specs.NumberedRequests.{numbered_requests, request_at, session_of}
use Rattle.cluster_script.specs.Sessions.{ScriptSession, session_numbered}
use Rattle.cluster_script.specs.Statements.{is_check}
use Rattle.guest_driver.specs.declared.disk.Disk.{Disk}
use Rattle.peer_proto.specs.declared.guest.GuestRsp.{GuestRsp}
use Rattle.sheep_node.specs.declared.ask.Ask.{Ask}
use Rattle.sheep_node.specs.declared.check_write.CheckWrite.{CheckWrite}
use Rattle.sheep_node.specs.declared.course.Request.{Request}
use Rattle.sheep_node.specs.declared.event.Event.{Event}
use Rattle.sheep_world.specs.World.{Host, World}
use Rattle.sheep_world.specs.Asking.{session_asking}
use Rattle.sheep_world.specs.Began.{Began}
use Rattle.sheep_world.specs.Effects.{open_disk_at, request_started}
use Rattle.sheep_world.specs.EventKinds.{EventKind, NodeStep, UntoldLoss, UnreadDelivery, NodeLoss, NodeLeave, NodeReweight, NodeJoin}
use Rattle.sheep_world.specs.EventKinds.{NodeReturn, PhaseEnd}
use Rattle.sheep_world.specs.Granted.{granted_header, disk_cloned, disk_made, granted_adds, decided_adds, entry_adds}
use Rattle.sheep_world.specs.HistoryAdditions.{begins_on, check_write_by}
use Rattle.sheep_world.specs.HistoryAdditions.{check_write_grown, is_lost_write, is_write}
use Rattle.sheep_world.specs.HistoryAdditions.{replies_grown, reply_grown, request_grown}
use Rattle.sheep_world.specs.NodeCauses.{NodeCause, GuestAsks, RequestComes, ReplyComes, LossIsTold, EntryIsRead, EntryIsPut, RecoveryTicks}
use Rattle.sheep_world.specs.NodeCauses.{WorkIsRetried, ClientAsks, IsCause, history_of_cause, log_after_cause, world_after_cause}
use Rattle.sheep_world.specs.Step.{EventOutcome}
use Rattle.sheep_world.proofs.BegunRequestLaws.{new-begun, were_begun}
use Rattle.overlap_law.specs.MomentChanges.{RunsAreInRange}
use Rattle.overlap_law.specs.WriterClaims.{IsGivenNoMore}
use Rattle.overlap_law.proofs.AloneItems.{copies_disk}
use Rattle.overlap_law.proofs.ClosedAdditions.{none_of, replies_add, end_so, asks_add, checks_add}
use Rattle.overlap_law.proofs.ClosedSnapshots.{snapped_no_more}
use Rattle.overlap_law.proofs.CopiesMade.{IsCopyMade, copy_made}
use Rattle.overlap_law.proofs.DiskEventsOfHolders.{HasNone, append_none, map_none}
use Rattle.overlap_law.proofs.DiskShapes.{shapes_after}
use Rattle.overlap_law.proofs.DisksPublished.{entry_out}
use Rattle.overlap_law.proofs.DraftsOfLogs.{parent_stays, used_reserved}
use Rattle.overlap_law.proofs.ItemsAtBegin as begins
use Rattle.overlap_law.proofs.ItemsAtBegin.{check_begins, request_begins}
use Rattle.overlap_law.proofs.ItemsOfReplies as replied
use Rattle.overlap_law.proofs.ItemsOfReplies.{is_write_at}
use Rattle.overlap_law.proofs.ItemsOfRequests.{begins_write_of}
use Rattle.overlap_law.proofs.PublishedChains.{chain_was_snapped}
use Rattle.overlap_law.proofs.PublishedInodes.{was_published}
use Rattle.overlap_law.proofs.SessionsOfRequests.{are_asked_by_line, of_asking}

-- ---- an entry

module _ (log : List Entry) (vid : ℕ) where
  -- it copies the disk, or doesn't
  abbrev CopiesOrNot : List HistEvent → Type 0
  CopiesOrNot added = HasNone (copies_disk vid) added ⊎ ((new : ℕ) × (added ≡ Copy vid new ∷ []))

  one_copy : (old new : ℕ) → CopiesOrNot (Copy old new ∷ [])
  one_copy old new = by_test (old == vid) refl
    where
      by_test : (b : Bool) → (old == vid) ≡ b → CopiesOrNot (Copy old new ∷ [])
      by_test true same = inr (new, ap (λ (k : ℕ). Copy k new ∷ []) (eqb-true old vid same))
      by_test false apart = inl (λ i. apart i || false)

  granted_copies : (id : Vid) (entry : Entry) → CopiesOrNot (granted_adds log id entry)
  granted_copies id (entries.Publish by of) = by_header (granted_header log id)
    where
      by_header : (header : Option Header) → CopiesOrNot (option_map_or (disk_made id) header [])
      by_header None = inl refl
      by_header (Some header) = inl refl
  granted_copies id (entries.Clone by of) = by_header (granted_header log id)
    where
      by_parent : (parent : Option Vid) → CopiesOrNot (option_map_or (λ (parent : Vid). Copy parent.0 id.0 ∷ []) parent [])
      by_parent None = inl refl
      by_parent (Some parent) = one_copy parent.0 id.0

      by_header : (header : Option Header) → CopiesOrNot (option_map_or (disk_cloned id) header [])
      by_header None = inl refl
      by_header (Some header) = by_parent header.parent
  granted_copies id (entries.Snapshot by old of) = one_copy old.0 id.0
  granted_copies id entry = inl refl

  entry_copies : (entry : Entry) → CopiesOrNot (entry_adds log entry)
  unfolding entry_adds
  entry_copies entry = by_decision (decision_after log entry)
    where
      by_decision : (decision : Decision) → CopiesOrNot (decided_adds log entry decision)
      by_decision decisions.None = inl refl
      by_decision (decisions.Granted id) = granted_copies id entry
      by_decision (decisions.Refused cause) = inl refl

  -- a disk that is copied became a snapshot
  module _ (published : was_published log vid ≡ true) (entry : Entry) (new : ℕ) (copies : entry_adds log entry ≡ Copy vid new ∷ []) where
    abbrev later : List Entry
    later = log ++ entry ∷ []

    made : IsCopyMade log vid new
    made = copy_made log vid new entry copies

    above : is_above (log_effects (log ++ entry ∷ [])) made.base.0 new ≡ true
    above =
        above-line (log_effects later) (line-log_effects later) made.base.0 new
        ∙ ap (λ (o : Option Vid). is_parent_or_above (is_above (log_effects later)) made.base.0 o)
        (parent_stays log (entry ∷ []) new (used_reserved log new made.reservation made.stands) ∙ made.parent)
        ∙ or_left (made.base.0 == made.base.0) (is_above (log_effects later) made.base.0 made.base.0)
        (eq-eqb made.base.0 made.base.0 refl)

    -- of the disk alone
    abbrev shown : ℕ → Option Bool
    shown v = cond (v == vid) (Some false) None

    are : (v : ℕ) (b : Bool) → shown v ≡ Some b → was_published log v ≡ true
    are v b = by_test (v == vid) refl
      where
        by_test : (t : Bool) → (v == vid) ≡ t → cond t (Some false) None ≡ Some b → was_published log v ≡ true
        by_test true same is = ap (was_published log) (eqb-true v vid same) ∙ published
        by_test false apart is = absurd (cc (is))

    published_then : was_published (log ++ entry ∷ []) new ≡ true
    published_then =
        entry_out log shown are entry new false
        (ap (λ (added : List HistEvent). fold shapes_after shown added new) copies
        ∙ (λ i. cond (eq-eqb new new refl i) (option_map (λ (b : Bool). false) (cond (eq-eqb vid vid refl i) (Some false) None))
        (shown new)))

    copied_gone : IsGivenNoMore (log ++ entry ∷ []) vid
    copied_gone =
        subst (IsGivenNoMore later) made.same
        (snapped_no_more made.base.0 later (chain_was_snapped later made.base.0 new published_then above))

  pub entry_gone : was_published log vid ≡ true → (entry : Entry)
      → HasNone (copies_disk vid) (entry_adds log entry) ⊎ IsGivenNoMore (log ++ entry ∷ []) vid
  entry_gone published entry = by_kind (entry_copies entry)
    where
      by_kind : CopiesOrNot (entry_adds log entry)
          → HasNone (copies_disk vid) (entry_adds log entry) ⊎ IsGivenNoMore (log ++ entry ∷ []) vid
      by_kind (inl none) = inl none
      by_kind (inr (new, copies)) = inr (copied_gone published entry new copies)

-- ---- what else is added copies none

module _ (script : List Statement) (vid : ℕ) where
  abbrev test : HistEvent → Bool
  test = copies_disk vid

  pub replies_copy_none : (before : World) (write : Option CheckWrite) (replies : List (ℕ × GuestRsp))
      → list_any (copies_disk vid) (flat_map (reply_grown script before write) replies) ≡ false
  replies_copy_none before write replies =
      none_of test (flat_map (reply_grown script before write) replies)
      (replies_add (λ (event : HistEvent). test event ≡ false) (λ disk block bytes. refl) script before write replies
      (λ reply among. end_so (λ (event : HistEvent). test event ≡ false) reply.0 reply.1 (λ done. refl) refl))

  pub asks_copy_none : (req : ℕ) (disk : Option Disk) (s : Option Statement)
      → list_any (copies_disk vid) (option_map_or (begins_on req disk) s []) ≡ false
  asks_copy_none req disk s =
      none_of test (option_map_or (begins_on req disk) s [])
      (asks_add (λ (event : HistEvent). test event ≡ false) req disk s (λ opened block coded bytes is. refl))

  pub checks_copy_none : (write : Option CheckWrite)
      → list_any (copies_disk vid) (option_map_or (check_write_grown script) write []) ≡ false
  checks_copy_none write =
      none_of test (option_map_or (check_write_grown script) write [])
      (checks_add (λ (event : HistEvent). test event ≡ false) (λ disk block bytes. refl) script write
      (λ req disk block coded bytes. refl))

  lost_none : (requests : List (ℕ × Statement)) → HasNone test (map (λ (request : ℕ × Statement). WriterLost request.0) requests)
  lost_none requests = map_none test (λ (request : ℕ × Statement). WriterLost request.0) (λ request. refl) requests

  -- ---- an event

  module _ (world : World) (published : was_published world.log vid ≡ true) where
    abbrev NoneOrGone : EventOutcome → Type 0
    NoneOrGone m = HasNone (copies_disk vid) m.grown ⊎ IsGivenNoMore m.world.log vid

    abbrev StepSo : NodeCause → World → Type 0
    StepSo cause after =
        HasNone (copies_disk vid) (history_of_cause script cause world after) ⊎ IsGivenNoMore (log_after_cause cause world.log) vid

    step_so : (cause : NodeCause) (after : World) → StepSo cause after
    step_so (GuestAsks session req ask) after =
        inl (append_none test (request_grown script world session (Some req))
        (replies_grown script (request_started session (Some req) world) None after)
        (asks_copy_none req (open_disk_at session world) (request_at script req))
        (replies_copy_none (request_started session (Some req) world) None after.outputs.replies))
    step_so (RequestComes name to request) after =
        inl (append_none test (option_map_or (check_write_grown script) (check_write_by name world after) [])
        (replies_grown script world (check_write_by name world after) after) (checks_copy_none (check_write_by name world after))
        (replies_copy_none world (check_write_by name world after) after.outputs.replies))
    step_so (ReplyComes name from rsp) after =
        inl (append_none test (option_map_or (check_write_grown script) (check_write_by name world after) [])
        (replies_grown script world (check_write_by name world after) after) (checks_copy_none (check_write_by name world after))
        (replies_copy_none world (check_write_by name world after) after.outputs.replies))
    step_so (LossIsTold name packet) after = inl (replies_copy_none world None after.outputs.replies)
    step_so (EntryIsRead entry) after = inl (replies_copy_none world None after.outputs.replies)
    step_so (EntryIsPut entry) after = entry_gone world.log vid published entry
    step_so RecoveryTicks after = inl (replies_copy_none world None after.outputs.replies)
    step_so WorkIsRetried after = inl (replies_copy_none world None after.outputs.replies)
    step_so (ClientAsks req ask) after = inl (replies_copy_none world None after.outputs.replies)

    pub event_copies : (event : Event) (makes : EventOutcome) → EventKind script event world makes
        → HasNone (copies_disk vid) makes.grown ⊎ IsGivenNoMore makes.world.log vid
    event_copies event makes (NodeStep h) =
        subst NoneOrGone h.made_so (step_so h.cause (world_after_cause script h.n h.host h.cause world))
    event_copies event makes (UntoldLoss h) = subst NoneOrGone h.made_so (inl refl)
    event_copies event makes (UnreadDelivery h) = subst NoneOrGone h.made_so (inl refl)
    event_copies event makes (NodeLoss h) =
        subst NoneOrGone h.made_so (inl (lost_none (filter (is_lost_write script world h.n h.host) (numbered_requests script))))
    event_copies event makes (NodeLeave h) = subst NoneOrGone h.made_so (inl refl)
    event_copies event makes (NodeReweight h) = subst NoneOrGone h.made_so (inl refl)
    event_copies event makes (NodeJoin h) = subst NoneOrGone h.made_so (inl refl)
    event_copies event makes (NodeReturn h) = subst NoneOrGone h.made_so (inl refl)
    event_copies event makes (PhaseEnd h) = subst NoneOrGone h.made_so (inl refl)

-- ---- a write that is there begins no more

-- no statement is a write and a check
pub no_check : (o : Option Statement) → option_map_or is_write o false ≡ true → option_map_or is_check o false ≡ true → ⊥
no_check None writes checks = cc (writes)
no_check (Some (lines.Check session)) writes checks = cc (writes)
no_check (Some s) writes checks = cc (checks)

module _ (script : List Statement) (range : RunsAreInRange script) (world : World) (began : Began script world) (req : ℕ) where
  module _ (n : ℕ) (host : Host) (there : tree.get world.hosts n ≡ Some host) (request : Request)
      (got : tree.get host.node.requests req ≡ Some request) where
    -- a guest's request that begins is another one
    fresh : (m : ℕ) (second : Host) (session : ScriptSession) (other : ℕ) (ask : Ask)
        → IsCause script world m second (GuestAsks session other ask) → other ≡ req → ⊥
    fresh m second session other ask caused same =
        let asking : session_asking script req ≡ Some session.number
        = ap (session_asking script) (sym same) ∙ ap (option_and_then session_of) caused.stands ∙ caused.own in
        let here = are_asked_by_line script world began n host there req request got (of_asking script req session.number asking) in
        let number : request.session ≡ session.number = same_Some request.session session.number (sym here.asking ∙ asking) in
        let of : here.of ≡ session
        = same_Some here.of session (sym here.declared ∙ ap (session_numbered script) number ∙ caused.declared) in
        let found : tree.get world.hosts session.node ≡ Some host
        = ap (tree.get world.hosts) (ap (λ (s : ScriptSession). s.node) (sym of) ∙ here.of_node) ∙ there in
        let none : tree.get host.node.requests other ≡ None
        = new-begun script session.number world (were_begun script world began) session other host caused.declared caused.next found in
        let had : tree.get host.node.requests other ≡ Some request = ap (tree.get host.node.requests) same ∙ got in
        cc (none, had)

    pub asks_begin_none : (m : ℕ) (second : Host) (session : ScriptSession) (other : ℕ) (ask : Ask)
        → IsCause script world m second (GuestAsks session other ask)
        → list_any (begins_write_of req) (request_grown script world session (Some other)) ≡ false
    asks_begin_none m second session other ask caused =
        by_value (list_any (begins_write_of req) (request_grown script world session (Some other))) refl
      where
        by_value : (b : Bool) → list_any (begins_write_of req) (request_grown script world session (Some other)) ≡ b → b ≡ false
        by_value false is = refl
        by_value true is =
            absurd (fresh m second session other ask caused
            (request_begins req other (open_disk_at session world) (request_at script other) is).0)

module _ (script : List Statement) (range : RunsAreInRange script) (world : World) (began : Began script world) (req : ℕ)
    (writes : is_write_at script req ≡ true) where
  -- a check comes to no write of it
  pub checks_begin_none : (write : Option CheckWrite)
      → list_any (begins_write_of req) (option_map_or (check_write_grown script) write []) ≡ false
  checks_begin_none write = by_value (list_any (begins_write_of req) (option_map_or (check_write_grown script) write [])) refl
    where
      by_value : (b : Bool) → list_any (begins_write_of req) (option_map_or (check_write_grown script) write []) ≡ b → b ≡ false
      by_value false is = refl
      by_value true is = absurd (no_check (request_at script req) writes (check_begins script req write is).3)

  module _ (n : ℕ) (host : Host) (there : tree.get world.hosts n ≡ Some host) (request : Request)
      (got : tree.get host.node.requests req ≡ Some request) where
    told_none : (found : World) (write : Option CheckWrite) (after : World)
        → list_any (begins_write_of req) (replies_grown script found write after) ≡ false
    told_none found write after = replied.replies_none script req found write after.outputs.replies

    step_begins : (m : ℕ) (second : Host) (cause : NodeCause) → IsCause script world m second cause → (after : World)
        → list_any (begins_write_of req) (history_of_cause script cause world after) ≡ false
    step_begins m second (GuestAsks session other ask) caused after =
        append_none (begins_write_of req) (request_grown script world session (Some other))
        (replies_grown script (request_started session (Some other) world) None after)
        (asks_begin_none script range world began req n host there request got m second session other ask caused)
        (told_none (request_started session (Some other) world) None after)
    step_begins m second (RequestComes name to asked) caused after =
        append_none (begins_write_of req) (option_map_or (check_write_grown script) (check_write_by name world after) [])
        (replies_grown script world (check_write_by name world after) after) (checks_begin_none (check_write_by name world after))
        (told_none world (check_write_by name world after) after)
    step_begins m second (ReplyComes name from rsp) caused after =
        append_none (begins_write_of req) (option_map_or (check_write_grown script) (check_write_by name world after) [])
        (replies_grown script world (check_write_by name world after) after) (checks_begin_none (check_write_by name world after))
        (told_none world (check_write_by name world after) after)
    step_begins m second (LossIsTold name packet) caused after = told_none world None after
    step_begins m second (EntryIsRead entry) caused after = told_none world None after
    step_begins m second (EntryIsPut entry) caused after = begins.entry_none req world.log entry
    step_begins m second RecoveryTicks caused after = told_none world None after
    step_begins m second WorkIsRetried caused after = told_none world None after
    step_begins m second (ClientAsks req ask) caused after = told_none world None after

    abbrev BeginsNone : EventOutcome → Type 0
    BeginsNone m = list_any (begins_write_of req) m.grown ≡ false

    pub event_begins_none : (event : Event) (makes : EventOutcome) → EventKind script event world makes
        → list_any (begins_write_of req) makes.grown ≡ false
    event_begins_none event makes (NodeStep h) =
        subst BeginsNone h.made_so (step_begins h.n h.host h.cause h.caused (world_after_cause script h.n h.host h.cause world))
    event_begins_none event makes (UntoldLoss h) = subst BeginsNone h.made_so refl
    event_begins_none event makes (UnreadDelivery h) = subst BeginsNone h.made_so refl
    event_begins_none event makes (NodeLoss h) =
        subst BeginsNone h.made_so (begins.lost_none req (filter (is_lost_write script world h.n h.host) (numbered_requests script)))
    event_begins_none event makes (NodeLeave h) = subst BeginsNone h.made_so refl
    event_begins_none event makes (NodeReweight h) = subst BeginsNone h.made_so refl
    event_begins_none event makes (NodeJoin h) = subst BeginsNone h.made_so refl
    event_begins_none event makes (NodeReturn h) = subst BeginsNone h.made_so refl
    event_begins_none event makes (PhaseEnd h) = subst BeginsNone h.made_so refl
