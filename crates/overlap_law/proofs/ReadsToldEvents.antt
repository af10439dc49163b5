-- Each event tells reads, of disks that were available up to there, what may be read.
use Rattle.std.proofs.Common.{◌≡◌, ⊎_elim, ℕ, ◌&&◌, Bool, true, false, cond, List, [], ◌∷◌, ◌++◌, append_assoc, append-nil, Contains}
use Rattle.std.proofs.Common.{filter}
use Rattle.std.proofs.Common.{fold, length, map, Option, None, Some, refl, sym, ap, subst, ◌∙◌}
use Rattle.std.specs.Prelude.{◌+◌, ◌/◌, flat_map}
use Rattle.std.specs.List.{list_all, range_with_len}
use Rattle.std.specs.Option.{option_map_or}
use Rattle.std.proofs.lemmas.Bool.{and_from, and_parts}
use Rattle.std.proofs.lemmas.List.Sums.{fold-append}
use Rattle.proof_tools.proofs.Lists.{Contains-cons, Contains-head}
use Rattle.object_id.specs.declared.entry.Entry.{Entry}
use Rattle.object_id.specs.declared.limits.TheConstants.{BLOCK_BYTES}
use Rattle.object_id.specs.declared.oid.Kind.TheVariants.{Block}
use Rattle.gf256.specs.Part.{is_in_strips}
use Rattle.cluster_script.specs.declared.statement.Statement.{Statement}
use Rattle.cluster_script.specs.declared.statement.Statement.TheVariants as lines
use Rattle.cluster_script.specs.NumberedRequests.{numbered_requests, payload_of, request_at}
use Rattle.disk_history.specs.declared.event.HistEvent.{HistEvent}
use Rattle.disk_history.specs.declared.event.HistEvent.TheVariants.{Create, Copy, Delete, WriteStart, WriteDone, WriteRefused, WriterLost}
use Rattle.disk_history.specs.declared.event.HistEvent.TheVariants.{Read}
use Rattle.disk_history.specs.Ledger.{Ledger, empty_ledger, ledger_after}
use Rattle.guest_driver.specs.declared.disk.Disk.{Disk}
use Rattle.peer_proto.specs.declared.guest.GuestRsp.{GuestRsp}
use Rattle.peer_proto.specs.declared.guest.GuestRsp.TheVariants as answers
use Rattle.sheep_node.specs.declared.check_write.CheckWrite.{CheckWrite}
use Rattle.sheep_node.specs.declared.event.Event.{Event}
use Rattle.sheep_node.specs.Step.{node_step}
use Rattle.sheep_world.specs.Effects.{open_disk_at}
use Rattle.sheep_world.specs.EventKinds.{EventKind, NodeStep, UntoldLoss, UnreadDelivery, NodeLoss, NodeLeave, NodeReweight, NodeJoin}
use Rattle.sheep_world.specs.EventKinds.{NodeReturn, PhaseEnd, outcome_of_step}
use Rattle.sheep_world.specs.Granted.{entry_adds}
use Rattle.sheep_world.specs.HistoryAdditions.{added_by, begins_on, block_in, blocks_read, check_write_grown, disk_of}
use Rattle.sheep_world.specs.HistoryAdditions.{has_begun_check_write}
use Rattle.sheep_world.specs.HistoryAdditions.{is_lost_write, reply_adds, reply_grown, write_ended, writers_lost}
use Rattle.sheep_world.specs.NodeCauses.{NodeCause, GuestAsks, RequestComes, ReplyComes, LossIsTold, EntryIsRead, EntryIsPut, RecoveryTicks}
use Rattle.sheep_world.specs.NodeCauses.{WorkIsRetried, ClientAsks, event_of_cause, input_of_cause}
use Rattle.sheep_world.specs.Step.{EventOutcome}
use Rattle.sheep_world.specs.World.{Host, node_at}
use Rattle.sheep_world.proofs.ClientReads.{goes_by_kind}
use Rattle.sheep_world.specs.RunsWithAsks.{Move}
use Rattle.sheep_world.specs.Began.{MakesMove}
use Rattle.overlap_law.specs.Headline.{ledger_of}
use Rattle.overlap_law.specs.HistoryGrowth.{added_at_cause, added_by_reply, check_write_at, world_at_cause}
use Rattle.overlap_law.specs.Holders.{is_available_disk}
use Rattle.overlap_law.specs.MomentChanges.{Still, RunsAreInRange}
use Rattle.overlap_law.specs.Past.{MomentWithPast, run_with_past}
use Rattle.overlap_law.specs.ReadsToldApart.{ChecksReadWhatMayBeRead}
use Rattle.overlap_law.specs.StandingReads.{EachChangeServesReads}
use Rattle.overlap_law.specs.StepMoments.{SteppingNode, IsStepping, StepsByChanges, last_in_step, moment_in_step}
use Rattle.overlap_law.specs.ToldReads.{AllElseMayFollow, MayBeReadAs, MayStayReadAs, Reading, WhatIsToldMayBeRead}
use Rattle.overlap_law.proofs.CarriedTables.{good_id_at}
use Rattle.overlap_law.proofs.DiskShapes.{Shapes, shapes, shapes_after}
use Rattle.overlap_law.proofs.EntriesFit.{MayMakeAll, entry_may}
use Rattle.overlap_law.proofs.EntriesFollow.{AreShown, kept_shown}
use Rattle.overlap_law.proofs.HistoryInMoments.{by_cause, history_so, no_write, request_silent, tick_silent}
use Rattle.overlap_law.proofs.ItemsStayOpen.{items_open}
use Rattle.overlap_law.proofs.LegalRuns.{all_follows}
use Rattle.overlap_law.proofs.LogsOfMoments.{log_by_changes}
use Rattle.overlap_law.proofs.NoRecoveredDue.{began-with_past}
use Rattle.overlap_law.proofs.PiecesRead.{stays_read}
use Rattle.overlap_law.proofs.ReadsToldBack.{is_told, told_in_turn}
use Rattle.overlap_law.proofs.ReadsToldForward.{all_read_on, told_weaker}
use Rattle.overlap_law.proofs.ReadsToldSteps.{told_at_end}
use Rattle.overlap_law.proofs.RunsByChanges.{on_the_way}
use Rattle.overlap_law.proofs.ToldBlocks.{AreReadAs}
use Rattle.overlap_law.proofs.GoingOn.{goes_as}

-- ---- lists

module _ (good_id : ℕ → Bool) where
  both_told : (front back : List HistEvent) (ledger : Ledger) → WhatIsToldMayBeRead good_id ledger front
      → WhatIsToldMayBeRead good_id (fold ledger_after ledger front) back → WhatIsToldMayBeRead good_id ledger (front ++ back)
  both_told [] back ledger first rest = rest
  both_told (event ∷ front) back ledger first rest = (first.0, both_told front back (ledger_after ledger event) first.1 rest)

  -- what begins or loses writes, or makes disks, reads nothing
  starts_told : {X : Type 0} (req : X → ℕ) (disk block : X → ℕ) (coded : Bool) (bytes : X → List ℕ) (xs : List X) (ledger : Ledger)
      → WhatIsToldMayBeRead good_id ledger (map (λ (x : X). WriteStart (req x) (disk x) (block x) coded (bytes x)) xs)
  starts_told req disk block coded bytes [] ledger = tt
  starts_told req disk block coded bytes (x ∷ xs) ledger =
      (tt, starts_told req disk block coded bytes xs (ledger_after ledger (WriteStart (req x) (disk x) (block x) coded (bytes x))))

  lost_told : (requests : List (ℕ × Statement)) (ledger : Ledger)
      → WhatIsToldMayBeRead good_id ledger (map (λ (request : ℕ × Statement). WriterLost request.0) requests)
  lost_told [] ledger = tt
  lost_told (request ∷ requests) ledger = (tt, lost_told requests (ledger_after ledger (WriterLost request.0)))

  made_told : (events : List HistEvent) (ledger : Ledger) (f : Shapes) → MayMakeAll f events → WhatIsToldMayBeRead good_id ledger events
  made_told [] ledger f may = tt
  made_told (Create disk blocks ∷ events) ledger f may =
      (tt, made_told events (ledger_after ledger (Create disk blocks)) (shapes_after f (Create disk blocks)) may.1)
  made_told (Copy old new ∷ events) ledger f may =
      (tt, made_told events (ledger_after ledger (Copy old new)) (shapes_after f (Copy old new)) may.1)
  made_told (Delete disk ∷ events) ledger f may =
      (tt, made_told events (ledger_after ledger (Delete disk)) (shapes_after f (Delete disk)) may.1)
  made_told (WriteStart req disk at coded bytes ∷ events) ledger f may = absurd may.0
  made_told (WriteDone req ∷ events) ledger f may = absurd may.0
  made_told (WriteRefused req ∷ events) ledger f may = absurd may.0
  made_told (WriterLost req ∷ events) ledger f may = absurd may.0
  made_told (Read disk at bytes ∷ events) ledger f may = absurd may.0

  begun_told : (req : ℕ) (disk : Option Disk) (line : Statement) (ledger : Ledger)
      → WhatIsToldMayBeRead good_id ledger (begins_on req disk line)
  begun_told req None (lines.Write session offset count pattern) ledger = tt
  begun_told req (Some disk) (lines.Write session offset count pattern) ledger =
      starts_told (λ (place : ℕ). req) (λ (place : ℕ). disk.inode.vid) (λ (place : ℕ). offset / BLOCK_BYTES + place)
      (is_in_strips disk.inode.spec.policy Block) (λ (place : ℕ). block_in (payload_of pattern count) place)
      (range_with_len 0 (length (payload_of pattern count) / BLOCK_BYTES)) ledger
  begun_told req disk line ledger = tt

  request_told : (req : ℕ) (disk : Option Disk) (o : Option Statement) (ledger : Ledger)
      → WhatIsToldMayBeRead good_id ledger (option_map_or (begins_on req disk) o [])
  request_told req disk None ledger = tt
  request_told req disk (Some line) ledger = begun_told req disk line ledger

-- behind those in front the others may come next
follow_behind : (front back : List HistEvent) (ledger : Ledger) → AllElseMayFollow ledger (front ++ back)
    → AllElseMayFollow (fold ledger_after ledger front) back
follow_behind [] back ledger may = may
follow_behind (event ∷ front) back ledger may = follow_behind front back (ledger_after ledger event) may.1

-- what replies add are ends and reads
end_is_told : (req : ℕ) (rsp : GuestRsp) → list_all is_told (write_ended req rsp ∷ []) ≡ true
end_is_told req answers.Done = refl
end_is_told req (answers.Piece bytes) = refl
end_is_told req (answers.Refused cause) = refl
end_is_told req (answers.Granted vid) = refl
end_is_told req (answers.Checked found) = refl

reads_are_told : (vid offset : ℕ) (rsp : GuestRsp) → list_all is_told (blocks_read vid offset rsp) ≡ true
reads_are_told vid offset answers.Done = refl
reads_are_told vid offset (answers.Piece bytes) = each (range_with_len 0 (length bytes / BLOCK_BYTES))
  where
    each : (places : List ℕ)
        → list_all is_told (map (λ (place : ℕ). Read vid (offset / BLOCK_BYTES + place) (block_in bytes place)) places) ≡ true
    each [] = refl
    each (place ∷ places) = each places
reads_are_told vid offset (answers.Refused cause) = refl
reads_are_told vid offset (answers.Granted id) = refl
reads_are_told vid offset (answers.Checked found) = refl

line_is_told : (written : Bool) (req : ℕ) (rsp : GuestRsp) (vid : ℕ) (line : Statement)
    → list_all is_told (reply_adds written req rsp vid line) ≡ true
line_is_told written req rsp vid (lines.Read session offset size) = reads_are_told vid offset rsp
line_is_told written req rsp vid (lines.Write session offset size pattern) = end_is_told req rsp
line_is_told true req rsp vid (lines.Check session) = end_is_told req rsp
line_is_told false req rsp vid (lines.Check session) = refl
line_is_told written req rsp vid line = refl

pub reply_is_told : (written : Bool) (req : ℕ) (rsp : GuestRsp) (began : Option ℕ) (o : Option Statement)
    → list_all is_told (added_by written req rsp began o) ≡ true
reply_is_told written req rsp None o = refl
reply_is_told written req rsp (Some vid) None = refl
reply_is_told written req rsp (Some vid) (Some line) = line_is_told written req rsp vid line

all_both : (front back : List HistEvent) → list_all is_told front ≡ true → list_all is_told back ≡ true
    → list_all is_told (front ++ back) ≡ true
all_both [] back are rest = rest
all_both (event ∷ front) back are rest =
    let parts = and_parts (is_told event) (list_all is_told front) are in
    and_from (is_told event) (list_all is_told (front ++ back)) parts.0 (all_both front back parts.1 rest)

module _ (May_be : Reading) (ledger : Ledger) (good_id : ℕ → Bool) where
  read_both : (front back : List HistEvent) → AreReadAs May_be ledger good_id front → AreReadAs May_be ledger good_id back
      → AreReadAs May_be ledger good_id (front ++ back)
  read_both [] back are rest = rest
  read_both (event ∷ front) back are rest = (are.0, read_both front back are.1 rest)

  read_flat : {X : Type 0} (make : X → List HistEvent) (xs : List X)
      → ((x : X) → Contains xs x → AreReadAs May_be ledger good_id (make x)) → AreReadAs May_be ledger good_id (flat_map make xs)
  read_flat make [] each = tt
  read_flat make (x ∷ xs) each =
      read_both (make x) (flat_map make xs) (each x (Contains-head x xs))
      (read_flat make xs (λ y among. each y (Contains-cons x xs y among)))

-- ---- an event

module _ (script : List Statement) (range : RunsAreInRange script) (serves : EachChangeServesReads script)
    (checks : ChecksReadWhatMayBeRead script) (events : List Move) (start : MomentWithPast)
    (run : run_with_past script events ≡ Some start) where
  module _ (stepping : SteppingNode) (is : IsStepping script start.world stepping) (by : StepsByChanges stepping.cause) where
    abbrev good_id : ℕ → Bool
    good_id = good_id_at start

    abbrev added : ℕ × GuestRsp → List HistEvent
    added = added_by_reply script start.world stepping.cause

    abbrev begun : List HistEvent
    begun = added_at_cause script start.world stepping.cause

    abbrev end : MomentWithPast
    end = moment_in_step script stepping start (last_in_step stepping)

    abbrev told : List HistEvent
    told = flat_map added (last_in_step stepping).outputs.replies

    -- what the step begins
    first_told : WhatIsToldMayBeRead good_id (ledger_of start.past.history) begun
    first_told = at_cause stepping.cause refl
      where
        by_write : (write : Option CheckWrite) → check_write_at start.world stepping.cause ≡ write
            → WhatIsToldMayBeRead good_id (ledger_of start.past.history) (option_map_or (check_write_grown script) write [])
        by_write None is_none = tt
        by_write (Some write) comes = checks.each events start stepping write run is comes

        at_cause : (cause : NodeCause) → stepping.cause ≡ cause
            → WhatIsToldMayBeRead good_id (ledger_of start.past.history) (added_at_cause script start.world cause)
        at_cause (GuestAsks session req ask) same =
            request_told good_id req (open_disk_at session start.world) (request_at script req) (ledger_of start.past.history)
        at_cause (RequestComes name to request) same = tt
        at_cause (ReplyComes name from rsp) same =
            by_write (check_write_at start.world (ReplyComes name from rsp)) (ap (check_write_at start.world) same)
        at_cause (LossIsTold name packet) same = tt
        at_cause (EntryIsRead entry) same = tt
        at_cause (EntryIsPut entry) same = tt
        at_cause RecoveryTicks same = tt
        at_cause WorkIsRetried same = tt
        at_cause (ClientAsks req ask) same = tt

    told_ends : (replies : List (ℕ × GuestRsp)) → list_all is_told (flat_map added replies) ≡ true
    told_ends [] = refl
    told_ends (reply ∷ replies) =
        all_both (added reply) (flat_map added replies)
        (reply_is_told (has_begun_check_write script reply.0 (world_at_cause start.world stepping.cause)
        (check_write_at start.world stepping.cause)) reply.0 reply.1 (disk_of script reply.0 (world_at_cause start.world stepping.cause))
        (request_at script reply.0)) (told_ends replies)

    abbrev its_outcome : EventOutcome
    its_outcome = outcome_of_step script stepping.n stepping.host stepping.cause start.world

    grown_is : its_outcome.grown ≡ begun ++ told
    grown_is =
        by_cause script range start (began-with_past script events start run) stepping stepping.cause by (last_in_step stepping)

    last_so : fold ledger_after (ledger_of (start.past.history ++ begun)) told ≡ ledger_of end.past.history
    last_so =
        sym (fold-append ledger_after empty_ledger (start.past.history ++ begun) told)
        ∙ ap ledger_of (sym (history_so script range start (began-with_past script events start run) stepping by (last_in_step stepping)))

    last_told : WhatIsToldMayBeRead good_id (ledger_of (start.past.history ++ begun)) told
    last_told =
        told_in_turn good_id told (ledger_of (start.past.history ++ begun)) (told_ends (last_in_step stepping).outputs.replies)
        (items_open (start.past.history ++ begun))
        (subst (λ (ledger : Ledger). AllElseMayFollow ledger told)
        (sym (fold-append ledger_after empty_ledger start.past.history begun))
        (follow_behind begun told (ledger_of start.past.history)
        (subst (AllElseMayFollow (ledger_of start.past.history)) grown_is
        (all_follows script range events (event_of_cause stepping.n stepping.cause) start its_outcome run is.made))))
        (subst (λ (ledger : Ledger). AreReadAs MayBeReadAs ledger good_id told) (sym last_so)
        (all_read_on (MayStayReadAs end.past.attempts) MayBeReadAs (ledger_of end.past.history) (ledger_of end.past.history) good_id told
        (λ vid block bytes among one.
        told_weaker (MayStayReadAs end.past.attempts) MayBeReadAs (ledger_of end.past.history) vid block bytes
        (λ items may_be. stays_read end.past.attempts items bytes may_be) one)
        (read_flat (MayStayReadAs end.past.attempts) (ledger_of end.past.history) good_id added (last_in_step stepping).outputs.replies
        (λ reply among. told_at_end script range serves events start run stepping is by reply among))))

    step_tells : WhatIsToldMayBeRead (is_available_disk its_outcome.world.log start.past.unavailable) (ledger_of start.past.history)
        its_outcome.grown
    step_tells =
        subst (λ (log : List Entry). WhatIsToldMayBeRead (is_available_disk log start.past.unavailable) (ledger_of start.past.history)
        its_outcome.grown) (sym (log_by_changes stepping.cause by start.world.log))
        (subst (WhatIsToldMayBeRead good_id (ledger_of start.past.history)) (sym grown_is)
        (both_told good_id begun told (ledger_of start.past.history) first_told
        (subst (λ (ledger : Ledger). WhatIsToldMayBeRead good_id ledger told)
        (fold-append ledger_after empty_ledger start.past.history begun) last_told)))

  -- ---- every kind

  abbrev Tells : EventOutcome → Type 0
  Tells m = WhatIsToldMayBeRead (is_available_disk m.world.log start.past.unavailable) (ledger_of start.past.history) m.grown

  none_told : (good_id : ℕ → Bool) (grown : List HistEvent) → grown ≡ []
      → WhatIsToldMayBeRead good_id (ledger_of start.past.history) grown
  none_told good_id grown none = subst (WhatIsToldMayBeRead good_id (ledger_of start.past.history)) (sym none) tt

  are : AreShown start
  are = on_the_way script AreShown (kept_shown script range) events start start run Still

  one_tells : (n : ℕ) (host : Host) (cause : NodeCause) → IsStepping script start.world (record { n = n; host = host; cause = cause })
      → Tells (outcome_of_step script n host cause start.world)
  one_tells n host (GuestAsks session req ask) is = step_tells (record { n = n; host = host; cause = GuestAsks session req ask }) is tt
  one_tells n host (RequestComes name to request) is =
      none_told (is_available_disk (outcome_of_step script n host (RequestComes name to request) start.world).world.log
      start.past.unavailable) (outcome_of_step script n host (RequestComes name to request) start.world).grown
      (ap (λ (write : Option CheckWrite). option_map_or (check_write_grown script) write []
      ++ flat_map (reply_grown script start.world write) (node_step (input_of_cause (RequestComes name to request))
      host.node).outputs.replies) (no_write request (node_at name.sender.0 start.world))
      ∙ ap (λ (replies : List (ℕ × GuestRsp)). flat_map (reply_grown script start.world None) replies) (request_silent request host.node))
  one_tells n host (ReplyComes name from rsp) is = step_tells (record { n = n; host = host; cause = ReplyComes name from rsp }) is tt
  one_tells n host (LossIsTold name packet) is = step_tells (record { n = n; host = host; cause = LossIsTold name packet }) is tt
  one_tells n host (EntryIsRead entry) is = step_tells (record { n = n; host = host; cause = EntryIsRead entry }) is tt
  one_tells n host (EntryIsPut entry) is =
      made_told (is_available_disk (outcome_of_step script n host (EntryIsPut entry) start.world).world.log start.past.unavailable)
      (entry_adds start.world.log entry) (ledger_of start.past.history) (shapes start.past.history)
      (entry_may start.world.log (shapes start.past.history) are entry)
  one_tells n host RecoveryTicks is =
      none_told (is_available_disk (outcome_of_step script n host RecoveryTicks start.world).world.log start.past.unavailable)
      (outcome_of_step script n host RecoveryTicks start.world).grown
      (ap (λ (replies : List (ℕ × GuestRsp)). flat_map (reply_grown script start.world None) replies) (tick_silent host.node))
  one_tells n host WorkIsRetried is = step_tells (record { n = n; host = host; cause = WorkIsRetried }) is tt
  one_tells n host (ClientAsks req ask) is = step_tells (record { n = n; host = host; cause = (ClientAsks req ask) }) is tt

  kind_tells : (event : Event) (made : EventOutcome) → MakesMove script event start.world made → EventKind script event start.world made
      → Tells made
  kind_tells event made happened (NodeStep h) =
      subst Tells h.made_so (one_tells h.n h.host h.cause (record {
        there = h.there;
        up = h.up;
        caused = h.caused;
        made = goes_as script start.world h.event_so h.made_so happened;
      }))
  kind_tells event made happened (UntoldLoss h) = subst Tells h.made_so tt
  kind_tells event made happened (UnreadDelivery h) = subst Tells h.made_so tt
  kind_tells event made happened (NodeLoss h) =
      subst Tells h.made_so (lost_told (is_available_disk start.world.log start.past.unavailable)
      (filter (is_lost_write script start.world h.n h.host) (numbered_requests script)) (ledger_of start.past.history))
  kind_tells event made happened (NodeLeave h) = subst Tells h.made_so tt
  kind_tells event made happened (NodeReweight h) = subst Tells h.made_so tt
  kind_tells event made happened (NodeJoin h) = subst Tells h.made_so tt
  kind_tells event made happened (NodeReturn h) = subst Tells h.made_so tt
  kind_tells event made happened (PhaseEnd h) = subst Tells h.made_so tt

pub event_tells : (script : List Statement) → RunsAreInRange script → EachChangeServesReads script → ChecksReadWhatMayBeRead script
    → (events : List Move) (event : Event) (before : MomentWithPast) (made : EventOutcome) → run_with_past script events ≡ Some before
    → MakesMove script event before.world made
    → WhatIsToldMayBeRead (is_available_disk made.world.log before.past.unavailable) (ledger_of before.past.history) made.grown
event_tells script range serves checks events event before made run is =
    kind_tells script range serves checks events before run event made is (goes_by_kind script event before.world made is)
