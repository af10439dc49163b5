-- What an event adds to the history makes no disk that a session holds by the log, and begins writes of it for requests of that session
-- alone.
use Rattle.std.proofs.Common.{◌≡◌, ℕ, ◌+◌, ◌==◌, Bool, true, false, not, ◌&&◌, ◌||◌, List, [], ◌∷◌, ◌++◌, map, filter, Contains, Option}
use Rattle.std.proofs.Common.{Some, None, refl, sym, ap, subst, ◌∙◌}
use Rattle.std.specs.Prelude.{flat_map}
use Rattle.std.specs.List.{list_any}
use Rattle.std.specs.Option.{option_map, option_map_or, option_and_then}
use Rattle.std.specs.FinMap as tree
use Rattle.std.proofs.lemmas.Bool.{eqb-true, eq-eqb, ne_eqb}
use Rattle.std.proofs.lemmas.List.Folds.{list_any-append}
use Rattle.std.proofs.lemmas.Option.{same_Some}
use Rattle.proof_tools.proofs.Lists.{Contains-head, Contains-cons}
use Rattle.object_id.specs.declared.entry.Entry.{Entry}
use Rattle.object_id.specs.declared.entry.Entry.TheVariants as entries
use Rattle.object_id.specs.declared.oid.Vid.{Vid}
use Rattle.disk_history.specs.declared.event.HistEvent.{HistEvent}
use Rattle.disk_history.specs.declared.event.HistEvent.TheVariants.{Copy, WriteStart, WriterLost}
use Rattle.disk_lock.specs.declared.holder.Holder.{Holder}
use Rattle.vdi_directory.specs.declared.decision.Decision.{Decision}
use Rattle.vdi_directory.specs.declared.decision.Decision.TheVariants as decisions
use Rattle.vdi_directory.specs.declared.header.Header.{Header}
use Rattle.vdi_directory.specs.Decisions.{decision_after, log_effects}
use Rattle.vdi_directory.specs.Effects.{holder_of}
use Rattle.vdi_ops.specs.Op.{Op}
use Rattle.cluster_script.specs.declared.statement.Statement.{Statement}
use Rattle.cluster_script.specs.NumberedRequests.{request_at, session_of, numbered_requests}
use Rattle.cluster_script.specs.Sessions.{ScriptSession}
use Rattle.disk_check.specs.Check.{Check, CheckStage, Comparing, WritingBack, Answered, value_at_stage}
use Rattle.guest_driver.specs.declared.disk.Disk.{Disk}
use Rattle.peer_proto.specs.declared.guest.GuestRsp.{GuestRsp}
use Rattle.peer_proto.specs.declared.say.PeerRsp.{PeerRsp}
use Rattle.sheep_node.specs.declared.ask.Ask.{Ask}
use Rattle.sheep_node.specs.declared.check_write.CheckWrite.{CheckWrite}
use Rattle.sheep_node.specs.declared.course.Course.TheVariants.{Checking, Commanding}
use Rattle.sheep_node.specs.declared.course.Request.{Request}
use Rattle.sheep_node.specs.declared.event.Event.{Event}
use Rattle.sheep_node.specs.declared.input.Input.TheVariants as inputs
use Rattle.sheep_node.specs.CheckWrites.{check_write_on, write_of_value}
use Rattle.sheep_node.specs.SessionQueues.{command_in, session_among}
use Rattle.sheep_world.specs.World.{Host, World, is_host_up, node_at}
use Rattle.sheep_world.specs.Asking.{session_asking}
use Rattle.sheep_world.specs.Began.{Began, MakesMove}
use Rattle.sheep_world.specs.Effects.{open_disk_at, request_started}
use Rattle.sheep_world.specs.EventKinds.{EventKind, NodeStep, UntoldLoss, UnreadDelivery, NodeLoss, NodeLeave, NodeReweight, NodeJoin}
use Rattle.sheep_world.specs.EventKinds.{NodeReturn, PhaseEnd}
use Rattle.sheep_world.specs.Granted.{granted_header, disk_cloned, disk_made, granted_adds, decided_adds, entry_adds}
use Rattle.sheep_world.specs.HistoryAdditions.{begins_on, check_write_by, check_write_grown, is_lost_write, replies_grown, reply_grown}
use Rattle.sheep_world.specs.HistoryAdditions.{request_grown}
use Rattle.sheep_world.specs.NodeCauses.{NodeCause, GuestAsks, RequestComes, ReplyComes, LossIsTold, EntryIsRead, EntryIsPut, RecoveryTicks}
use Rattle.sheep_world.specs.NodeCauses.{WorkIsRetried, ClientAsks, IsCause, world_after_cause, history_of_cause}
use Rattle.sheep_world.specs.Step.{EventOutcome}
use Rattle.sheep_world.proofs.ClientReads.{goes_by_kind}
use Rattle.overlap_law.specs.DiskEvents.{begins_by_others, is_asked_in, is_anothers}
use Rattle.overlap_law.specs.MomentChanges.{RunsAreInRange}
use Rattle.overlap_law.specs.Writers.{session_holder}
use Rattle.overlap_law.proofs.AnswersInMoments.{not_lost}
use Rattle.overlap_law.proofs.ClosedAdditions.{none_of, replies_add, end_so, asks_add, check_adds}
use Rattle.overlap_law.proofs.ComingWrites.{IsComing, coming}
use Rattle.overlap_law.proofs.CoursesOfAsks.{IsPlacedIn}
use Rattle.overlap_law.proofs.CoursesOfScript.{asked_by, BeganOn, requests_placed}
use Rattle.overlap_law.proofs.HoldersInWorlds.{begins_alone, open_here, snapshot_unheld, working_held}
use Rattle.overlap_law.proofs.ItemsAtBegin.{served_comes_to_none}
use Rattle.overlap_law.proofs.UnheldIds.{PublishesId, published_unheld}
use Rattle.overlap_law.proofs.SessionsOfRequests.{are_scripts}
use Rattle.overlap_law.proofs.WholeInRuns.{sound_here}

-- ---- lists of events that are made one by one

module _ (p : HistEvent → Bool) where
  abbrev pub HasNone : List HistEvent → Type 0
  HasNone events = list_any p events ≡ false

  pub append_none : (xs ys : List HistEvent) → HasNone xs → HasNone ys → HasNone (xs ++ ys)
  append_none xs ys first then = list_any-append p xs ys ∙ (λ i. first i || then i)

  -- of those that are in the list alone
  pub flat_none_in : {X : Type 0} (make : X → List HistEvent) (xs : List X) → ((x : X) → Contains xs x → HasNone (make x))
      → HasNone (flat_map make xs)
  flat_none_in make [] none = refl
  flat_none_in make (x ∷ xs) none =
      append_none (make x) (flat_map make xs) (none x (Contains-head x xs))
      (flat_none_in make xs (λ y among. none y (Contains-cons x xs y among)))

  pub map_none_in : {X : Type 0} (make : X → HistEvent) (xs : List X) → ((x : X) → Contains xs x → p (make x) ≡ false)
      → HasNone (map make xs)
  map_none_in make [] none = refl
  map_none_in make (x ∷ xs) none =
      let first = none x (Contains-head x xs) in
      let rest : list_any p (map make xs) ≡ false = map_none_in make xs (λ y among. none y (Contains-cons x xs y among)) in
      λ i. first i || rest i

  pub flat_none : {X : Type 0} (make : X → List HistEvent) → ((x : X) → HasNone (make x)) → (xs : List X) → HasNone (flat_map make xs)
  flat_none make none xs = flat_none_in make xs (λ x among. none x)

  pub map_none : {X : Type 0} (make : X → HistEvent) → ((x : X) → p (make x) ≡ false) → (xs : List X) → HasNone (map make xs)
  map_none make none xs = map_none_in make xs (λ x among. none x)

module _ (script : List Statement) (vid : ℕ) (owns : ℕ → Bool) where
  abbrev test : HistEvent → Bool
  test = begins_by_others vid owns

  -- ---- replies

  pub replies_none : (before : World) (write : Option CheckWrite) (replies : List (ℕ × GuestRsp))
      → HasNone test (flat_map (reply_grown script before write) replies)
  replies_none before write replies =
      none_of test (flat_map (reply_grown script before write) replies)
      (replies_add (λ (event : HistEvent). test event ≡ false) (λ disk block bytes. refl) script before write replies
      (λ reply among. end_so (λ (event : HistEvent). test event ≡ false) reply.0 reply.1 (λ done. refl) refl))

  -- ---- writes on another disk, or of one of the requests

  start_none : (req disk block : ℕ) (coded : Bool) (bytes : List ℕ) → (disk ≡ vid → owns req ≡ true)
      → test (WriteStart req disk block coded bytes) ≡ false
  start_none req disk block coded bytes own = by_test (disk == vid) refl
    where
      by_test : (b : Bool) → (disk == vid) ≡ b → (b && not (owns req)) ≡ false
      by_test true same = ap not (own (eqb-true disk vid same))
      by_test false apart = refl

  pub asks_none : (req : ℕ) (disk : Option Disk) (s : Option Statement)
      → ((opened : Disk) → disk ≡ Some opened → opened.inode.vid ≡ vid → owns req ≡ true)
      → HasNone test (option_map_or (begins_on req disk) s [])
  asks_none req disk s own =
      none_of test (option_map_or (begins_on req disk) s [])
      (asks_add (λ (event : HistEvent). test event ≡ false) req disk s
      (λ opened block coded bytes is. start_none req opened.inode.vid block coded bytes (own opened is)))

  pub check_none : (write : CheckWrite) → (write.vid.0 ≡ vid → owns write.req ≡ true)
      → HasNone test (check_write_grown script write)
  check_none write own =
      none_of test (check_write_grown script write)
      (check_adds (λ (event : HistEvent). test event ≡ false) (λ disk block bytes. refl) script write
      (λ block coded bytes is. start_none write.req write.vid.0 block coded bytes own))

  pub lost_none : (requests : List (ℕ × Statement)) → HasNone test (map (λ (request : ℕ × Statement). WriterLost request.0) requests)
  lost_none requests = map_none test (λ (request : ℕ × Statement). WriterLost request.0) (λ request. refl) requests

  -- ---- entries

  -- the id that an entry makes is another
  module _ (log : List Entry) (holder : Holder) (held : holder_of (log_effects log) vid ≡ Some holder) where
    made_other : (entry : Entry) (id : Vid) → PublishesId entry → decision_after log entry ≡ decisions.Granted id → (id.0 == vid) ≡ false
    made_other entry id publishes is =
        let free = published_unheld log entry id publishes is in
        ne_eqb id.0 vid (λ (same : id.0 ≡ vid).
        let own : holder_of (log_effects log) vid ≡ None = ap (holder_of (log_effects log)) (sym same) ∙ free in
        absurd (cc (own, held)))

    granted_none : (entry : Entry) (id : Vid) → decision_after log entry ≡ decisions.Granted id → HasNone test (granted_adds log id entry)
    granted_none (entries.Publish by of) id is = by_header (granted_header log id)
      where
        by_header : (header : Option Header) → HasNone test (option_map_or (disk_made id) header [])
        by_header None = refl
        by_header (Some header) =
            let other = made_other (entries.Publish by of) id tt is in λ i. other i || false
    granted_none (entries.Clone by of) id is = by_header (granted_header log id)
      where
        by_parent : (parent : Option Vid) → HasNone test (option_map_or (λ (parent : Vid). Copy parent.0 id.0 ∷ []) parent [])
        by_parent None = refl
        by_parent (Some parent) = let other = made_other (entries.Clone by of) id tt is in λ i. other i || false

        by_header : (header : Option Header) → HasNone test (option_map_or (disk_cloned id) header [])
        by_header None = refl
        by_header (Some header) = by_parent header.parent
    granted_none (entries.Snapshot by old of) id is =
        let other = made_other (entries.Snapshot by old of) id tt is in λ i. other i || false
    granted_none entry id is = refl

    entry_none : (entry : Entry) → HasNone test (entry_adds log entry)
    unfolding entry_adds
    entry_none entry = by_decision (decision_after log entry) refl
      where
        by_decision : (decision : Decision) → decision_after log entry ≡ decision → HasNone test (decided_adds log entry decision)
        by_decision decisions.None is = refl
        by_decision (decisions.Granted id) is = granted_none entry id is
        by_decision (decisions.Refused cause) is = refl

-- ---- what a step adds

-- the write's disk is that of its check
write_disk : (write : CheckWrite) (req : ℕ) (bytes : List ℕ) (check : Check) (stage : CheckStage)
    → option_map (write_of_value req check) (value_at_stage bytes check.spec stage) ≡ Some write → check.vid ≡ write.vid.0
write_disk write req bytes check (Comparing index later) is = ap (λ (w : CheckWrite). w.vid.0) (same_Some _ write is)
write_disk write req bytes check (WritingBack later) is = absurd (cc (is))
write_disk write req bytes check Answered is = absurd (cc (is))

module _ (script : List Statement) (range : RunsAreInRange script) (world : World) (began : Began script world) (vid : ℕ) (holder : Holder)
    (held : holder_of (log_effects world.log) vid ≡ Some holder) (owns : ℕ → Bool)
    (by_guest : (n : ℕ) (host : Host) → tree.get world.hosts n ≡ Some host → is_host_up host ≡ true → (session : ScriptSession) (req : ℕ)
    (ask : Ask) → IsCause script world n host (GuestAsks session req ask) → session.number ≡ holder.session → owns req ≡ true)
    (by_check : (n : ℕ) (host : Host) → tree.get world.hosts n ≡ Some host → (write : CheckWrite) (comes : IsComing write host.node)
    → comes.session ≡ holder.session → owns write.req ≡ true) where
  abbrev anothers : HistEvent → Bool
  anothers = begins_by_others vid owns

  module _ (n : ℕ) (host : Host) (there : tree.get world.hosts n ≡ Some host) (up : is_host_up host ≡ true) where
    -- a session that begins a request on the disk that it has open is the holder's
    of_holder : (number : ℕ) (disk : Disk) → (session_among number host.node.sessions).disk ≡ Some disk
        → ((other : ℕ) (request : Request) (op : Op) → tree.get host.node.requests other ≡ Some request → request.session ≡ number
        → request.course ≡ Commanding op → ⊥)
        → disk.inode.vid ≡ vid → number ≡ holder.session
    of_holder number disk opened none same = by_kind disk.snapshot refl
      where
        by_kind : (b : Bool) → disk.snapshot ≡ b → number ≡ holder.session
        by_kind true snapshot =
            absurd (snapshot_unheld script range world began n host there (not_lost host up) number disk opened snapshot holder
            (ap (holder_of (log_effects world.log)) same ∙ held))
        by_kind false working =
            let own = ap (holder_of (log_effects world.log)) (sym same)
            ∙ working_held script range world began n host there (not_lost host up) number disk opened working none in
            ap (λ (h : Holder). h.session) (same_Some (session_holder n number) holder (sym own ∙ held))

    -- a guest's request
    guest_none : (session : ScriptSession) (req : ℕ) (ask : Ask) → IsCause script world n host (GuestAsks session req ask)
        → HasNone anothers (request_grown script world session (Some req))
    guest_none session req ask caused =
        asks_none script vid owns req (open_disk_at session world) (request_at script req)
        (λ opened is same.
        by_guest n host there up session req ask caused
        (of_holder session.number opened (sym (open_here script range world began n host there up session req ask caused) ∙ is)
        (begins_alone script range world began n host there up session req ask caused) same))

    -- a check's write
    coming_none : (rsp : PeerRsp) (write : Option CheckWrite) → write ≡ check_write_on (inputs.Reply rsp) host.node
        → HasNone anothers (option_map_or (check_write_grown script) write [])
    coming_none rsp None is = refl
    coming_none rsp (Some write) is = check_none script vid owns write own
      where
        comes : IsComing write host.node
        comes = coming write rsp host.node (sym is)

        no_command : (other : ℕ) (request : Request) (op : Op) → tree.get host.node.requests other ≡ Some request
            → request.session ≡ comes.session → request.course ≡ Commanding op → ⊥
        no_command other request op got of command =
            let sole = (sound_here script range world began n host there up).sole_commands in
            let named : command_in comes.session host.node.sessions ≡ Some write.req
            = sole.named write.req (record { session = comes.session; course = Checking comes.check }) comes.there refl in
            let same : other ≡ write.req = sole.alone comes.session write.req other request named got of in
            let found : request ≡ record { session = comes.session; course = Checking comes.check }
            = same_Some request (record { session = comes.session; course = Checking comes.check })
            (sym got ∙ ap (tree.get host.node.requests) same ∙ comes.there) in
            let checking : Commanding op ≡ Checking comes.check = sym command ∙ ap (λ (r : Request). r.course) found in
            absurd (cc (checking))

        own : write.vid.0 ≡ vid → owns write.req ≡ true
        own same =
            let (disk, at, course) = subst (IsPlacedIn (asked_by script) (BeganOn script world.guests) write.req host.node.sessions)
            comes.there (requests_placed script range world began n host there write.req) in
            by_check n host there write comes
            (of_holder comes.session course.on.disk course.on.there no_command
            (sym course.is.vid ∙ write_disk write write.req comes.bytes comes.check comes.check.stage comes.comes ∙ same))

    abbrev after : NodeCause → World
    after cause = world_after_cause script n host cause world

    told_none : (found : World) (write : Option CheckWrite) (cause : NodeCause)
        → HasNone anothers (replies_grown script found write (after cause))
    told_none found write cause = replies_none script vid owns found write (after cause).outputs.replies

    step_none : (cause : NodeCause) → IsCause script world n host cause
        → HasNone anothers (history_of_cause script cause world (after cause))
    step_none (GuestAsks session req ask) caused =
        append_none anothers (request_grown script world session (Some req))
        (replies_grown script (request_started session (Some req) world) None (after (GuestAsks session req ask)))
        (guest_none session req ask caused) (told_none (request_started session (Some req) world) None (GuestAsks session req ask))
    step_none (RequestComes name to request) caused =
        let cause = RequestComes name to request in
        let none : check_write_by name world (after cause) ≡ None = served_comes_to_none request (node_at name.sender.0 world) in
        subst (λ (o : Option CheckWrite).
        HasNone anothers (option_map_or (check_write_grown script) o [] ++ replies_grown script world o (after cause))) (sym none)
        (told_none world None cause)
    step_none (ReplyComes name from rsp) caused =
        let cause = ReplyComes name from rsp in
        let write = check_write_by name world (after cause) in
        append_none anothers (option_map_or (check_write_grown script) write []) (replies_grown script world write (after cause))
        (coming_none rsp write
        (ap (λ (k : ℕ). option_and_then (check_write_on (inputs.Reply rsp)) (node_at k world)) caused.here
        ∙ ap (λ (o : Option Host). option_and_then (check_write_on (inputs.Reply rsp)) (option_map (λ (h : Host). h.node) o)) there))
        (told_none world write cause)
    step_none (LossIsTold name packet) caused = told_none world None (LossIsTold name packet)
    step_none (EntryIsRead entry) caused = told_none world None (EntryIsRead entry)
    step_none (EntryIsPut entry) caused = entry_none script vid owns world.log holder held entry
    step_none RecoveryTicks caused = told_none world None RecoveryTicks
    step_none WorkIsRetried caused = told_none world None WorkIsRetried
    step_none (ClientAsks req ask) caused = told_none world None (ClientAsks req ask)

  pub kind_none : (event : Event) (made : EventOutcome) → EventKind script event world made → HasNone anothers made.grown
  kind_none event made (NodeStep h) =
      subst (λ (m : EventOutcome). HasNone anothers m.grown) h.made_so (step_none h.n h.host h.there h.up h.cause h.caused)
  kind_none event made (UntoldLoss h) = subst (λ (m : EventOutcome). HasNone anothers m.grown) h.made_so refl
  kind_none event made (UnreadDelivery h) = subst (λ (m : EventOutcome). HasNone anothers m.grown) h.made_so refl
  kind_none event made (NodeLoss h) =
      subst (λ (m : EventOutcome). HasNone anothers m.grown) h.made_so
      (lost_none script vid owns (filter (is_lost_write script world h.n h.host) (numbered_requests script)))
  kind_none event made (NodeLeave h) = subst (λ (m : EventOutcome). HasNone anothers m.grown) h.made_so refl
  kind_none event made (NodeReweight h) = subst (λ (m : EventOutcome). HasNone anothers m.grown) h.made_so refl
  kind_none event made (NodeJoin h) = subst (λ (m : EventOutcome). HasNone anothers m.grown) h.made_so refl
  kind_none event made (NodeReturn h) = subst (λ (m : EventOutcome). HasNone anothers m.grown) h.made_so refl
  kind_none event made (PhaseEnd h) = subst (λ (m : EventOutcome). HasNone anothers m.grown) h.made_so refl

  -- of an event that is made
  pub others_none : (event : Event) (made : EventOutcome) → MakesMove script event world made → HasNone anothers made.grown
  others_none event made is = kind_none event made (goes_by_kind script event world made is)

-- the requests are the holder's
module _ (script : List Statement) (range : RunsAreInRange script) (world : World) (began : Began script world) (vid : ℕ) (holder : Holder)
    (held : holder_of (log_effects world.log) vid ≡ Some holder) where
  asked_so : (req number : ℕ) → session_asking script req ≡ Some number → number ≡ holder.session
      → is_asked_in script holder.session req ≡ true
  asked_so req number asking same =
      ap (λ (o : Option ℕ). option_map_or (λ (k : ℕ). k == holder.session) o false) asking ∙ eq-eqb number holder.session same

  pub event_none : (event : Event) (made : EventOutcome) → MakesMove script event world made
      → list_any (is_anothers script vid holder.session) made.grown ≡ false
  event_none =
      others_none script range world began vid holder held (is_asked_in script holder.session)
      (λ n host there up session req ask caused same.
      asked_so req session.number (ap (option_and_then session_of) caused.stands ∙ caused.own) same)
      (λ n host there write comes same.
      asked_so write.req comes.session
      (are_scripts script range.is_script world began n host there write.req
      (record { session = comes.session; course = Checking comes.check }) comes.there refl).asking same)
