-- The replies of a step end writes that had begun and hadn't ended, and writes begin that hadn't.
use Rattle.std.proofs.Common.{◌≡◌, ◌⊎◌, inl, inr, ⊎_elim, ℕ, ◌+◌, ◌*◌, ◌<◌, ◌==◌, ◌&&◌, ◌||◌, Bool, true, false, List, [], ◌∷◌, ◌++◌}
use Rattle.std.proofs.Common.{length, drop, Contains, Option, Some, None, is_some, option_map, refl, sym, ap, subst, arith, ◌∙◌}
use Rattle.std.specs.Prelude.{◌/◌, unwrap_or}
use Rattle.std.specs.List.{list_any}
use Rattle.std.specs.Option.{option_map_or, option_and_then}
use Rattle.std.specs.FinMap as tree
use Rattle.std.proofs.lemmas.Bool.{both_ways, or_cases, or_parts, or_right}
use Rattle.std.proofs.lemmas.List.{length-drop, length-take-le}
use Rattle.std.proofs.lemmas.List.Elements.{Contains-push}
use Rattle.std.proofs.lemmas.List.Folds.{list_any-append}
use Rattle.std.proofs.lemmas.Option.{same_Some}
use Rattle.proof_tools.proofs.Booleans.{cond_either}
use Rattle.proof_tools.proofs.FiniteMaps.{get-insert_same}
use Rattle.proof_tools.proofs.Lists.{Contains-nil, Contains-cons_cases}
use Rattle.object_id.specs.declared.cause.Cause.{Cause}
use Rattle.object_id.specs.declared.limits.TheConstants.{BLOCK_BYTES}
use Rattle.object_id.specs.declared.oid.Kind.TheVariants.{Block}
use Rattle.gf256.specs.Part.{is_in_strips}
use Rattle.disk_history.specs.declared.event.HistEvent.{HistEvent}
use Rattle.disk_history.specs.declared.event.HistEvent.TheVariants.{Create, Copy, Delete, WriteStart, WriteDone, WriteRefused, WriterLost}
use Rattle.disk_history.specs.declared.event.HistEvent.TheVariants.{Read}
use Rattle.disk_history.specs.Ledger.{empty_ledger}
use Rattle.cluster_script.specs.declared.statement.Statement.{Statement}
use Rattle.cluster_script.specs.declared.statement.Statement.TheVariants as lines
use Rattle.cluster_script.specs.NumberedRequests.{request_at, payload_of, session_of}
use Rattle.cluster_script.specs.Sessions.{ScriptSession, session_numbered}
use Rattle.cluster_script.specs.Statements.{is_check}
use Rattle.guest_driver.specs.declared.disk.Disk.{Disk}
use Rattle.peer_proto.specs.declared.guest.GuestRsp.{GuestRsp}
use Rattle.peer_proto.specs.declared.guest.GuestRsp.TheVariants as answers
use Rattle.sheep_node.specs.declared.ask.Ask.{Ask}
use Rattle.sheep_node.specs.declared.check_write.CheckWrite.{CheckWrite}
use Rattle.sheep_node.specs.declared.course.Request.{Request}
use Rattle.sheep_node.specs.declared.input.Input.TheVariants as inputs
use Rattle.sheep_node.specs.CheckWrites.{has_check_written, has_course_written}
use Rattle.sheep_node.specs.Guests.{on_guest, request_refusal, request_taken_unless}
use Rattle.sheep_node.specs.SessionQueues.{session_among}
use Rattle.sheep_node.specs.State.{Node}
use Rattle.sheep_node.specs.Step.{is_due, node_step, on_input, recovered_put, with_recovered}
use Rattle.sheep_node.specs.StepState.{StepState, at_first}
use Rattle.sheep_world.specs.declared.progress.SessionProgress.{SessionProgress}
use Rattle.sheep_world.specs.declared.progress.StartedRequest.{StartedRequest}
use Rattle.sheep_world.specs.World.{Host, World, is_host_up, no_progress, node_at, progress_at}
use Rattle.sheep_world.specs.Asking.{session_asking}
use Rattle.sheep_world.specs.Began.{Began}
use Rattle.sheep_world.specs.Effects.{disk_open, open_disk_at, progress_with_started, request_started}
use Rattle.sheep_world.specs.HistoryAdditions.{added_by, begins_on, block_in, disk_of, gateway_of, has_begun_check_write, is_write}
use Rattle.sheep_world.specs.HistoryAdditions.{is_write_of, request_grown}
use Rattle.sheep_world.specs.NodeCauses.{GuestAsks, IsCause, world_after_cause}
use Rattle.sheep_world.proofs.BegunRequestLaws.{new-begun, were_begun}
use Rattle.overlap_law.specs.DiskBlocks.{DisksHaveTheirBlocks}
use Rattle.overlap_law.specs.DiskEvents.{ends_write_of}
use Rattle.overlap_law.specs.Headline.{ledger_of}
use Rattle.overlap_law.specs.MomentChanges.{RunsAreInRange}
use Rattle.overlap_law.specs.PastWords.{is_refusal}
use Rattle.overlap_law.specs.ToldReads.{AllElseMayFollow, begins_write_at}
use Rattle.overlap_law.specs.Words.{Hosts}
use Rattle.overlap_law.proofs.BeginningWrites.{begins_there}
use Rattle.overlap_law.proofs.DisksOfWriters.{IsWriterAt, on_open_disk}
use Rattle.overlap_law.proofs.EndsOfWrites.{asks_none, read_none}
use Rattle.overlap_law.proofs.FoundInSteps.{AllBegunIfFound}
use Rattle.overlap_law.proofs.FollowingEvents.{IsReadyToEnd, IsReady, starts_follow}
use Rattle.overlap_law.proofs.ItemsAtBegin.{request_begins}
use Rattle.overlap_law.proofs.ItemsOfReplies.{is_write_at}
use Rattle.overlap_law.proofs.ItemsOfRequests.{begins_write_of}
use Rattle.overlap_law.proofs.RequestsTold.{ended_told, place_told}
use Rattle.overlap_law.proofs.SessionsOfRequests.{are_asked_by_line, of_test}
use Rattle.overlap_law.proofs.StandingWriters.{AreStanding, none_ended, still_begun, writes_begin}
use Rattle.overlap_law.proofs.StartedOnce.{UnansweredAreOnce, disk_of_began}
use Rattle.overlap_law.proofs.UnansweredRequests.{unanswered_in}
use Rattle.overlap_law.proofs.WritesTold.{IsOnDisks, on_along}
use Rattle.overlap_law.proofs.DiskShapes.{shapes}
use Rattle.overlap_law.proofs.DrawnClones.{shown}
use Rattle.vdi_directory.specs.Decisions.{log_effects}
use Rattle.vdi_directory.specs.States.{state_of}
use Rattle.sheep_world.specs.BegunRequests.{IsOfScript}

-- ---- what a request that is refused as it comes is told

due_replies : (so_far : StepState) → (recovered_put so_far).outputs.replies ≡ so_far.outputs.replies
unfolding recovered_put
due_replies so_far =
    cond_either (λ (now : StepState). now.outputs.replies ≡ so_far.outputs.replies) (is_due so_far.node) (with_recovered so_far) so_far
    refl refl

refused_alone : (req session : ℕ) (ask : Ask) (node : Node) (cause : Cause)
    → request_refusal node.peer (session_among session node.sessions).disk ask ≡ Some cause → (reply : ℕ × GuestRsp)
    → Contains (node_step (inputs.Guest req session ask) node).outputs.replies reply → is_refusal reply.1 ≡ true
unfolding node_step on_input on_guest
refused_alone req session ask node cause refused reply among =
    by_refusal (request_refusal node.peer (session_among session node.sessions).disk ask) refused among
  where
    by_refusal : (o : Option Cause) → o ≡ Some cause
        → Contains (recovered_put (request_taken_unless o session req ask (at_first node))).outputs.replies reply
        → is_refusal reply.1 ≡ true
    by_refusal None is among = absurd (cc (is))
    by_refusal (Some other) is among =
        let listed : Contains ((req, answers.Refused other) ∷ []) reply
        = subst (λ (list : List (ℕ × GuestRsp)). Contains list reply)
        (due_replies (request_taken_unless (Some other) session req ask (at_first node))) among in
        ⊎_elim
        (λ (own : (req, answers.Refused other) ≡ reply). ap (λ (r : ℕ × GuestRsp). is_refusal r.1) (sym own))
        (λ (none : Contains [] reply). absurd (Contains-nil reply none))
        (Contains-cons_cases (req, answers.Refused other) [] reply listed)

-- ---- a write that begins

-- who began no write began none of a block
pub none_at : (req disk block : ℕ) (history : List HistEvent) → list_any (begins_write_of req) history ≡ false
    → list_any (begins_write_at req disk block) history ≡ false
none_at req disk block [] none = refl
none_at req disk block (event ∷ later) none =
    let parts = or_parts (begins_write_of req event) (list_any (begins_write_of req) later) none in
    let rest = none_at req disk block later parts.1 in
    let first = by_event event parts.0 in
    λ i. first i || rest i
  where
    by_event : (event : HistEvent) → begins_write_of req event ≡ false → begins_write_at req disk block event ≡ false
    by_event (Create new blocks) none = refl
    by_event (Copy old new) none = refl
    by_event (Delete gone) none = refl
    by_event (WriteStart other on at coded bytes) none = λ i. none i && (on == disk && at == block)
    by_event (WriteDone other) none = refl
    by_event (WriteRefused other) none = refl
    by_event (WriterLost other) none = refl
    by_event (Read from at bytes) none = refl

pub whole_block : (payload : List ℕ) (place : ℕ) → place < length payload / 512 → length (block_in payload place) ≡ BLOCK_BYTES
whole_block payload place inside =
    let left = length-drop (place * BLOCK_BYTES) payload in
    length-take-le BLOCK_BYTES (drop (place * BLOCK_BYTES) payload) (omega (arith, inside, left))

module _ (other : ℕ) (history : List HistEvent) (none : list_any (begins_write_of other) history ≡ false)
    (unended : list_any (ends_write_of other) history ≡ false) where
  line_follows : (o : Option Disk) (line : Statement) → AllElseMayFollow (ledger_of history) (begins_on other o line)
  line_follows None (lines.Write session offset size pattern) = tt
  line_follows (Some disk) (lines.Write session offset size pattern) =
      let payload = payload_of pattern size in
      starts_follow other disk.inode.vid (offset / BLOCK_BYTES) (is_in_strips disk.inode.spec.policy Block) (block_in payload) 0
      (length payload / BLOCK_BYTES) (ledger_of history)
      (λ place inside. whole_block payload place (omega (arith, inside)))
      (record {
        unended = ended_told other history ∙ unended;
        none = λ place from.
            place_told other disk.inode.vid (offset / BLOCK_BYTES + place) history
            ∙ none_at other disk.inode.vid (offset / BLOCK_BYTES + place) history none;
      })
  line_follows o line = tt

  pub request_follows : (o : Option Disk) (s : Option Statement)
      → AllElseMayFollow (ledger_of history) (option_map_or (begins_on other o) s [])
  request_follows o None = tt
  request_follows o (Some line) = line_follows o line

-- ---- replies

-- what ends a write is a reply to a write, or to a check that has come to one, which began on a disk
abbrev Writes : Bool → Option Statement → Type 0
Writes written s = (option_map_or is_write s false ≡ true) ⊎ ((option_map_or is_check s false ≡ true) × (written ≡ true))

ends_are : (written : Bool) (req : ℕ) (rsp : GuestRsp) (disk : Option ℕ) (s : Option Statement)
    → list_any (ends_write_of req) (added_by written req rsp disk s) ≡ true → (is_some disk ≡ true) × Writes written s
ends_are written req rsp None s ends = absurd (cc (ends))
ends_are written req rsp (Some disk) None ends = absurd (cc (ends))
ends_are written req rsp (Some disk) (Some (lines.Read session offset size)) ends =
    let none = read_none req disk offset rsp in absurd (cc (none, ends))
ends_are written req rsp (Some disk) (Some (lines.Write session offset size pattern)) ends = (refl, inl refl)
ends_are true req rsp (Some disk) (Some (lines.Check session)) ends = (refl, inr (refl, refl))
ends_are false req rsp (Some disk) (Some (lines.Check session)) ends = absurd (cc (ends))
ends_are written req rsp (Some disk) (Some s) ends = absurd (cc (ends))

-- the node of a session's gateway, and whether a check of it has come to a write
gateway_is : (script : List Statement) (req number n : ℕ) (of : ScriptSession) (world : World) (host : Host)
    → session_asking script req ≡ Some number → session_numbered script number ≡ Some of → of.node ≡ n
    → tree.get world.hosts n ≡ Some host → gateway_of script req world ≡ Some host.node
gateway_is script req number n of world host asking declared of_node there =
    ap (λ (o : Option ℕ).
    option_and_then (λ (session : ScriptSession). node_at session.node world) (option_and_then (session_numbered script) o)) asking
    ∙ ap (option_and_then (λ (session : ScriptSession). node_at session.node world)) declared
    ∙ ap (λ (k : ℕ). node_at k world) of_node ∙ ap (λ (o : Option Host). option_map (λ (h : Host). h.node) o) there

some_open : (o : Option Disk) → is_some (option_map (λ (disk : Disk). disk.inode.vid) o) ≡ true → is_some o ≡ true
some_open None is = absurd (cc (is))
some_open (Some disk) is = refl

-- each request of a node that is up began blocks alone that were there
abbrev pub WritersAreOnDisks : Hosts → List HistEvent → Type 0
WritersAreOnDisks hosts history = (n : ℕ) (host : Host) → tree.get hosts n ≡ Some host → host.is_lost ≡ false → (req : ℕ)
    (request : Request) → tree.get host.node.requests req ≡ Some request → IsOnDisks req (ledger_of history)

module _ (script : List Statement) (range : RunsAreInRange script) (world : World) (began : Began script world)
    (history : List HistEvent) (standing : AreStanding script world.hosts world.guests history)
    (placed : WritersAreOnDisks world.hosts history) (counted : (req : ℕ) → AllBegunIfFound req history world.hosts) where
  ends_write : (found : World) (write : Option CheckWrite) (reply : ℕ × GuestRsp)
      → list_any (ends_write_of reply.0) (added_by (has_begun_check_write script reply.0 found write) reply.0 reply.1
      (disk_of script reply.0 found) (request_at script reply.0)) ≡ true
      → (is_some (disk_of script reply.0 found) ≡ true)
      × Writes (has_begun_check_write script reply.0 found write) (request_at script reply.0)
  ends_write found write reply ends =
      ends_are (has_begun_check_write script reply.0 found write) reply.0 reply.1 (disk_of script reply.0 found) (request_at script reply.0)
      ends

  -- ---- a request that the node had

  module _ (n : ℕ) (host : Host) (there : tree.get world.hosts n ≡ Some host) (up : host.is_lost ≡ false) where
    -- the check of a reply has begun a write, before or with the step
    check_begun : (found : World) (write : Option CheckWrite) (starts : List HistEvent) (req : ℕ) (was : Request) → IsOfScript script req
        → tree.get host.node.requests req ≡ Some was → tree.get found.hosts n ≡ Some host
        → (option_map_or (is_write_of req) write false ≡ true → list_any (begins_write_of req) starts ≡ true)
        → has_begun_check_write script req found write ≡ true → list_any (begins_write_of req) (history ++ starts) ≡ true
    check_begun found write starts req was of_script got here begins written =
        let asked = are_asked_by_line script world began n host there req was got of_script in
        let gateway : gateway_of script req found ≡ Some host.node
        = gateway_is script req was.session n asked.of found host asked.asking asked.declared asked.of_node here in
        ⊎_elim
        (λ (counts : option_map_or (has_check_written req) (gateway_of script req found) false ≡ true).
        still_begun req history starts
        (counted req n host there was got
        (sym (ap (λ (o : Option Request). option_map_or (λ (request : Request). has_course_written request.course) o false) got)
        ∙ sym (ap (λ (o : Option Node). option_map_or (has_check_written req) o false) gateway) ∙ counts)))
        (λ (comes : option_map_or (is_write_of req) write false ≡ true).
        list_any-append (begins_write_of req) history starts
        ∙ or_right (list_any (begins_write_of req) history) (list_any (begins_write_of req) starts) (begins comes))
        (or_cases (option_map_or (has_check_written req) (gateway_of script req found) false)
        (option_map_or (is_write_of req) write false) written)

    pub had_ready : (found : World) (write : Option CheckWrite) (starts : List HistEvent) (reply : ℕ × GuestRsp) (was : Request)
        → tree.get host.node.requests reply.0 ≡ Some was → tree.get found.hosts n ≡ Some host
        → (option_map_or (is_write_of reply.0) write false ≡ true → list_any (begins_write_of reply.0) starts ≡ true)
        → IsOnDisks reply.0 (ledger_of (history ++ starts)) → list_any (ends_write_of reply.0) starts ≡ false
        → IsReady script found write (history ++ starts) reply
    had_ready found write starts reply was got here begins on_disks none ends =
        let (on, kind) = ends_write found write reply ends in
        let writer : IsWriterAt script reply.0
        = ⊎_elim (λ (writes : is_write_at script reply.0 ≡ true). inl writes)
        (λ (checks : (option_map_or is_check (request_at script reply.0) false ≡ true)
        × (has_begun_check_write script reply.0 found write ≡ true)). inr checks.0) kind in
        let opened = on_open_disk script range world began n host there reply.0 was got writer in
        let asked = are_asked_by_line script world began n host there reply.0 was got
        (⊎_elim (of_test script is_write reply.0) (of_test script is_check reply.0) writer) in
        let session : opened.on.session ≡ was.session
        = same_Some opened.on.session was.session (sym opened.on.asking ∙ asked.asking) in
        let stands = standing opened.on.session opened.on.started opened.on.there asked.of
        (ap (session_numbered script) session ∙ asked.declared) in
        let same : stands.host ≡ host
        = same_Some stands.host host (sym stands.there ∙ ap (tree.get world.hosts) asked.of_node ∙ there) in
        let begun : list_any (begins_write_of reply.0) (history ++ starts) ≡ true
        = ⊎_elim
        (λ (writes : is_write_at script reply.0 ≡ true).
        still_begun reply.0 history starts
        (subst (λ (k : ℕ). list_any (begins_write_of k) history ≡ true) opened.on.number
        (stands.begun (ap (is_write_at script) opened.on.number ∙ writes) (ap is_some opened.on.on))))
        (λ (checks : (option_map_or is_check (request_at script reply.0) false ≡ true)
        × (has_begun_check_write script reply.0 found write ≡ true)).
        check_begun found write starts reply.0 was (of_test script is_check reply.0 checks.0) got here begins checks.1) kind in
        let unended : list_any (ends_write_of reply.0) history ≡ false
        = subst (λ (k : ℕ). list_any (ends_write_of k) history ≡ false) opened.on.number
        (stands.unended (ap (λ (h : Host). h.is_lost) same ∙ up)
        (ap (λ (h : Host). h.incarnation) same ∙ sym asked.of_incarnation)) in (
          record { begun = begun; unended = none_ended reply.0 history starts unended none },
          λ kept. on_disks,
        )

  -- ---- one that begins with the step

  module _ (n : ℕ) (host : Host) (there : tree.get world.hosts n ≡ Some host) (up : is_host_up host ≡ true) (session : ScriptSession)
      (other : ℕ) (ask : Ask) (caused : IsCause script world n host (GuestAsks session other ask))
      (are_shown : (v : ℕ) → shapes history v ≡ shown (state_of (log_effects world.log) v))
      (blocks : DisksHaveTheirBlocks world.log history) (none : list_any (begins_write_of other) history ≡ false)
      (unended : list_any (ends_write_of other) history ≡ false) where
    abbrev found : World
    found = request_started session (Some other) world

    abbrev starts : List HistEvent
    starts = request_grown script world session (Some other)

    abbrev new : StartedRequest
    new = record { req = other; disk = disk_open session world }

    new_there : Contains (unanswered_in session.number found.guests) new
    new_there =
        let guest = progress_with_started new (progress_at session.number world) in
        let is : unanswered_in session.number (tree.insert world.guests session.number guest)
        ≡ (progress_at session.number world).unanswered ++ new ∷ []
        = ap (λ (o : Option SessionProgress). (unwrap_or o no_progress).unanswered) (get-insert_same world.guests session.number guest) in
        subst (λ (list : List StartedRequest). Contains list new) (sym is)
        (Contains-push (progress_at session.number world).unanswered new)

    disk_is : UnansweredAreOnce found.guests → disk_of script other found ≡ disk_open session world
    disk_is once = disk_of_began script found once other (disk_open session world) (record {
      session = session.number;
      asking = ap (option_and_then session_of) caused.stands ∙ caused.own;
      started = new;
      there = new_there;
      number = refl;
      on = refl;
    })

    pub fresh_on : IsOnDisks other (ledger_of history)
    fresh_on = on_along other history empty_ledger none refl

    own_on : (reply : ℕ × GuestRsp) → Contains (world_after_cause script n host (GuestAsks session other ask) world).outputs.replies reply
        → is_refusal reply.1 ≡ false → IsOnDisks other (ledger_of (history ++ starts))
    own_on reply among kept =
        by_refusal (request_refusal host.node.peer (session_among session.number host.node.sessions).disk ask) refl
      where
        by_refusal : (o : Option Cause) → request_refusal host.node.peer (session_among session.number host.node.sessions).disk ask ≡ o
            → IsOnDisks other (ledger_of (history ++ starts))
        by_refusal None taken =
            begins_there script range world began n host there up session other ask caused history are_shown blocks taken fresh_on
        by_refusal (Some cause) refused =
            let is = refused_alone other session.number ask host.node cause refused reply among in
            absurd (both_ways (is_refusal reply.1) kept is)

    -- the node has none of it, so that no check of it has come to a write
    no_check : has_begun_check_write script other found None ≡ true → ⊥
    no_check written =
        let here : tree.get world.hosts session.node ≡ Some host = ap (tree.get world.hosts) caused.gateway ∙ there in
        let free : tree.get host.node.requests other ≡ None
        = new-begun script session.number world (were_begun script world began) session other host caused.declared caused.next here in
        let gateway : gateway_of script other found ≡ Some host.node
        = gateway_is script other session.number n session found host (ap (option_and_then session_of) caused.stands ∙ caused.own)
        caused.declared caused.gateway there in
        let none : has_begun_check_write script other found None ≡ false
        = ap (λ (o : Option Node). option_map_or (has_check_written other) o false || false) gateway
        ∙ ap (λ (o : Option Request). option_map_or (λ (request : Request). has_course_written request.course) o false || false) free in
        cc (written, none)

    pub own_ready : UnansweredAreOnce found.guests → (reply : ℕ × GuestRsp)
        → Contains (world_after_cause script n host (GuestAsks session other ask) world).outputs.replies reply
        → other ≡ reply.0 → IsReady script found None (history ++ starts) reply
    own_ready once reply among own ends =
        let (on, kind) = ends_write found None reply ends in
        let writes : is_write_at script reply.0 ≡ true
        = ⊎_elim (λ (writes : is_write_at script reply.0 ≡ true). writes)
        (λ (checks : (option_map_or is_check (request_at script reply.0) false ≡ true)
        × (has_begun_check_write script reply.0 found None ≡ true)).
        absurd (no_check (ap (λ (k : ℕ). has_begun_check_write script k found None) own ∙ checks.1))) kind in
        let has_open : is_some (open_disk_at session world) ≡ true
        = some_open (open_disk_at session world)
        (ap is_some (sym (disk_is once)) ∙ ap (λ (k : ℕ). is_some (disk_of script k found)) own ∙ on) in
        let begun : list_any (begins_write_of other) starts ≡ true
        = writes_begin script range.is_script other (open_disk_at session world) has_open (ap (is_write_at script) own ∙ writes) in
        subst (λ (k : ℕ). IsReadyToEnd (history ++ starts) k reply.1) own (
          record {
            begun = list_any-append (begins_write_of other) history starts
                ∙ or_right (list_any (begins_write_of other) history) (list_any (begins_write_of other) starts) begun;
            unended = none_ended other history starts unended
                (asks_none other other (open_disk_at session world) (request_at script other));
          },
          own_on reply among,
        )

    -- what begins is of no request that the node had
    pub starts_apart : (req : ℕ) (was : Request) → tree.get host.node.requests req ≡ Some was
        → list_any (begins_write_of req) starts ≡ false
    starts_apart req was got = by_value (list_any (begins_write_of req) starts) refl
      where
        by_value : (b : Bool) → list_any (begins_write_of req) starts ≡ b → list_any (begins_write_of req) starts ≡ false
        by_value false is = is
        by_value true is =
            let own = (request_begins req other (open_disk_at session world) (request_at script other) is).0 in
            let found : tree.get world.hosts session.node ≡ Some host = ap (tree.get world.hosts) caused.gateway ∙ there in
            let free : tree.get host.node.requests other ≡ None
            = new-begun script session.number world (were_begun script world began) session other host caused.declared caused.next found in
            let both : None ≡ Some was = sym free ∙ ap (tree.get host.node.requests) own ∙ got in
            absurd (cc (both))
