-- Along the changes of a step sessions keep what their works rest on.
use Rattle.overlap_law.proofs.ReservedIds.{session_of_entry}
use Rattle.sheep_node.proofs.PeerLog.{entries_reading}
use Rattle.std.proofs.Common.{◌≡◌, ⊎_elim, ℕ, Bool, true, false, List, [], ◌∷◌, ◌++◌, Option, Some, refl, sym, ap, subst, ◌∙◌, arith}
use Rattle.std.proofs.Common.{unwrap_or}
use Rattle.std.specs.FinMap as tree
use Rattle.std.proofs.lemmas.Option.{same_Some}
use Rattle.proof_tools.proofs.FiniteMaps.{get-insert_same}
use Rattle.object_id.specs.declared.node.NodeId.{NodeId}
use Rattle.object_id.specs.declared.oid.Vid.{Vid}
use Rattle.object_id.specs.declared.entry.Entry.{Entry}
use Rattle.object_id.specs.declared.entry.Entry.TheVariants.{Recovered, Unlock, Format, Join, Leave, Reweight, Reserve, Publish, Clone}
use Rattle.object_id.specs.declared.entry.Entry.TheVariants.{Snapshot, Delete, Lock}
use Rattle.epoch_log.specs.Epochs.{epoch_of}
use Rattle.inode.specs.Layout.{Content}
use Rattle.vdi_directory.specs.declared.effect.Effect.{Effect}
use Rattle.vdi_directory.specs.Decisions.{log_effects, decision_after}
use Rattle.vdi_directory.specs.Effects.{header_of}
use Rattle.peer_proto.specs.declared.guest.VdiAsk.TheVariants as disk_commands
use Rattle.peer_service.specs.LogReading.{decision_on}
use Rattle.peer_service.specs.State.{effects_of}
use Rattle.gateway.specs.Attempt.{Attempt}
use Rattle.gateway.specs.State.{Work}
use Rattle.gateway.specs.declared.message.Status.{Status}
use Rattle.guest_driver.specs.declared.disk.Disk.{Disk}
use Rattle.guest_driver.specs.Driver as drivers
use Rattle.vdi_ops.specs.declared.act.OpAct.{OpAct}
use Rattle.vdi_ops.specs.declared.act.OpAct.TheVariants as op_acts
use Rattle.vdi_ops.specs.Op.{Task, OpStage, Asked, Working, Publishing, Answered, Making, Op, OpStep, IsAwaitedAtOpStage, Opening}
use Rattle.vdi_ops.specs.Op.{WritingBack, Tagging, Copying}
use Rattle.vdi_ops.specs.Steps.{begin_command, on_decision, op_on_done, done_at, task_done}
use Rattle.vdi_ops.proofs.StepLemmas.{begin_awaited, done_awaited, decision_awaited}
use Rattle.disk_check.specs.Check.{begin_check}
use Rattle.sheep_node.specs.declared.ask.Ask.TheVariants as asks
use Rattle.sheep_node.specs.declared.input.Input.{Input}
use Rattle.sheep_node.specs.declared.input.Input.TheVariants as inputs
use Rattle.sheep_node.specs.declared.course.Request.{Request}
use Rattle.sheep_node.specs.declared.session.Session.{Session}
use Rattle.sheep_node.specs.declared.course.Course.TheVariants.{Waiting, Driving, Commanding, Checking, DoingWork, AwaitingDecision}
use Rattle.sheep_node.specs.State.{Node, new_session}
use Rattle.sheep_node.specs.StepState.{StepState, session_in}
use Rattle.sheep_node.specs.AwaitedEntry.{waits_for_entry}
use Rattle.sheep_node.specs.Courses.{inode_open, after_driver_step, after_command_step}
use Rattle.sheep_node.specs.LogReading.{entry_read}
use Rattle.sheep_node.specs.Changes.{HasRequest, EndsWork, Outcome, outcome_of_command, without_ended_work, RequestSteps, DiskBegins}
use Rattle.sheep_node.specs.Changes.{DiskGoesOn, CommandBegins, CommandGoesOn, CommandDecided, CheckBegins, CheckGoesOn, ObjectBegins}
use Rattle.sheep_node.specs.Changes.{ObjectIsDone, EntryBegins, EntryDecided}
use Rattle.sheep_node.proofs.OneWorkChanges.{awaited_of}
use Rattle.sheep_node.proofs.WantedSteps.{driver_begins-wanted, driver_goes_on-wanted}
use Rattle.overlap_law.specs.AwaitedEntries.{IsCommandEntry, IsSessionsCommand, IsSessionsEntry, IsSessionsStage}
use Rattle.overlap_law.specs.CommandDisks.{opened_in}
use Rattle.overlap_law.specs.WriterClaims.{IsStageKept, LetsGo, IsLetGo, IsDiskKept, HasClaims, HasLock, IsMakingKept, LetsGoBy}
use Rattle.overlap_law.specs.Writers.{unlocks}
use Rattle.overlap_law.proofs.AwaitedChanges.{Requests, AreAwaitedSoFar, IsOwnCourse, none_on_the_way}
use Rattle.overlap_law.proofs.AwaitedCommands.{is_command, PutsNothing, decided_puts_nothing, done_waits_not, waits_at}
use Rattle.overlap_law.proofs.AwaitedSteps.{entry_of_input, MeetsCommands, told_no_entry}
use Rattle.overlap_law.proofs.ClaimChanges.{IsOfSession, one_alike, more_claims}
use Rattle.overlap_law.proofs.ClaimCommands.{IsWaitedAt, IsDiskSafe, IsStepKept, goes_on_kept, decided_kept, AreSafeUnless, IsUnseen}
use Rattle.overlap_law.proofs.CountedEntries.{times, same_entry}
use Rattle.overlap_law.proofs.DriverNames.{driver_begins-named, driver_goes_on-named}
use Rattle.overlap_law.proofs.OpenDiskChanges.{AreOpenSoFar}
use Rattle.overlap_law.proofs.ClaimRequests.{IsReadOf, HasSoFar, IsNextKept, IsSoleIn, counted_from, plain_there_lets, freed_kept}
use Rattle.overlap_law.proofs.ClaimRequests.{arrived_lets, sole_kept, driven_kept, driver_next, check_next, done_lets, safe_disks}
use Rattle.overlap_law.proofs.ClaimRequests.{its_stage, stepped, reply_next, no_more_of}
use Rattle.overlap_law.proofs.ClaimBegins.{begins_in, begins_next}

module _ (read unread : List Entry) (input : Input) (node : Node) (meets : MeetsCommands read input node) (log : List Entry) (from : ℕ)
    (reads : IsReadOf log read unread from input node) where
  abbrev Is : StepState → Type 0
  Is = AreAwaitedSoFar read node.me unread (entry_of_input input)

  abbrev Has : StepState → Type 0
  Has = HasSoFar read unread input node meets log from reads

  abbrev IsNext : StepState → ℕ → Outcome → Type 0
  IsNext = IsNextKept read unread input node meets log from reads

  abbrev IsSole : Requests → ℕ → ℕ → Type 0
  IsSole = IsSoleIn read unread input node meets log from reads

  -- ---- a command's work is done

  module _ (so_far : StepState) (so : Is so_far) (all : AreOpenSoFar so_far) (has : Has so_far) (session req number : ℕ) (work : Work)
      (attempt : Attempt) (status : Status) (bytes : List ℕ) (op : Op) (step : OpStep)
      (ends : EndsWork input node so_far session req number work attempt status (Commanding op) bytes)
      (is : op_on_done bytes op ≡ Some step) where
    abbrev freed : StepState
    freed = without_ended_work session req work status so_far

    there_on : tree.get so_far.node.requests req ≡ Some (record { session = session; course = Commanding op })
    there_on = ends.ends.request

    own_on : IsOfSession so_far.node.requests req session
    own_on old got = sym (ap (λ (r : Request). r.session) (same_Some _ old (sym there_on ∙ got)))

    sole_on : IsSole so_far.node.requests req session
    sole_on other request got command of =
        so.commands.apart other req request (record { session = session; course = Commanding op }) got there_on command refl of

    unseen_on : (vid : Vid) (entry : Entry) (made : Option Content) → op.stage ≡ Working vid (Making entry made) → IsUnseen log from entry
    unseen_on vid entry made at place after got =
        let its : IsSessionsCommand (log_effects read) node.me session op = so.commands.own req
        (record { session = session; course = Commanding op }) there_on in
        let sessions_own : IsSessionsEntry (log_effects read) node.me session entry
        = subst (IsSessionsStage (log_effects read) node.me session) at its.stage in
        let kept = has.commands req (record { session = session; course = Commanding op }) op there_on refl in
        let own : IsCommandEntry node.me entry
        = command_made vid entry made (subst (IsStageKept log so_far.node.outbox read from node.me session
        (opened_in session so_far.node.sessions)) at kept) sessions_own in
        let none =
        none_on_the_way read node.me unread (entry_of_input input) so_far.node.me so_far.node.requests so_far.node.outbox so session
        (λ other request got command of entry waits.
        let same = sole_on other request got command of in
        let one : record { session = session; course = Commanding op } ≡ request
        = same_Some _ request (sym there_on ∙ ap (tree.get so_far.node.requests) (sym same) ∙ got) in
        let idle = done_waits_not bytes op step is entry in
        let waits_so = ap (λ (r : Request). waits_for_entry entry r.course) one ∙ waits in
        absurd (cc (idle, waits_so))) entry own sessions_own in
        let there = counted_from log from place entry after got in
        let same = ap (times entry) (reads.unread_so (told_no_entry input number status ends.ends.learns.told)) in
        omega (arith, none, there, same)
      where
        command_made : (vid : Vid) (entry : Entry) (made : Option Content)
            → IsMakingKept log so_far.node.outbox read from node.me session (opened_in session so_far.node.sessions) vid entry made
            → IsSessionsEntry (log_effects read) node.me session entry → IsCommandEntry node.me entry
        command_made vid (Format members) made kept own = absurd kept
        command_made vid (Join of zone vnodes) made kept own = absurd kept
        command_made vid (Leave of) made kept own = absurd kept
        command_made vid (Reweight of vnodes) made kept own = absurd kept
        command_made vid (Recovered of epoch) made kept own = absurd kept
        command_made vid (Reserve by of name origin) made kept own = absurd kept
        command_made vid (Publish by of) made kept own = own.0
        command_made vid (Clone by of) made kept own = own.0
        command_made vid (Snapshot by old of) made kept own = own.0
        command_made vid (Delete by of name tag) made kept own = absurd kept
        command_made vid (Lock by of name tag) made kept own = absurd kept
        command_made vid (Unlock by of id) made kept own = absurd kept

    -- with this outbox
    goes_on_in : (outbox : List Entry) → HasClaims log outbox read from node.me so_far.node.requests so_far.node.sessions
        → HasClaims log outbox read from node.me (after_command_step session req step freed).node.requests
        (after_command_step session req step freed).node.sessions
    goes_on_in outbox has =
        let freed_has : HasClaims log outbox read from node.me freed.node.requests freed.node.sessions
        = one_alike log read from node.me outbox so_far.node.requests so_far.node.sessions session _ refl has in
        let safe =
        safe_disks read unread input node meets log from reads outbox so_far.node.requests so_far.node.sessions has session
        (λ vid goes. done_lets read unread input node meets log from reads bytes op step is vid
        (its_stage read unread input node meets log from reads so_far.node.requests session req op there_on sole_on vid goes)) in
        let kept = has.commands req (record { session = session; course = Commanding op }) op there_on refl in
        let fits = all req (record { session = session; course = Commanding op }) there_on in
        stepped read unread input node meets log from reads outbox freed freed_has session req step own_on sole_on
        (subst (λ (disk : Option Disk). IsStepKept log outbox read from node.me session disk step) (sym freed_disk)
        (goes_on_kept log outbox read from node.me session op (session_in session so_far).disk safe bytes step is unseen_on fits kept))
      where
        freed_disk : (session_in session freed).disk ≡ (session_in session so_far).disk
        freed_disk = ap (λ (o : Option Session). (unwrap_or o new_session).disk) (get-insert_same so_far.node.sessions session _)

    -- its last entry is put
    made_put : (entry : Entry) (vid : Vid) (made : Option Content) → op.stage ≡ Working vid (Making entry made)
        → HasClaims log (so_far.node.outbox ++ entry ∷ []) read from node.me so_far.node.requests so_far.node.sessions
    made_put entry vid made at =
        more_claims log read from node.me so_far.node.outbox so_far.node.requests so_far.node.sessions entry (no_unlocks entry made kept)
        (λ q request other got command. no_more_of read unread input node meets log from reads so_far.node.outbox entry other.stage
        (λ opened stage. only_here q request other got command opened stage)) has
      where
        kept : IsMakingKept log so_far.node.outbox read from node.me session (opened_in session so_far.node.sessions) vid entry made
        kept = subst (IsStageKept log so_far.node.outbox read from node.me session (opened_in session so_far.node.sessions)) at
            (has.commands req (record { session = session; course = Commanding op }) op there_on refl)

        no_unlocks : (entry : Entry) (made : Option Content)
            → IsMakingKept log so_far.node.outbox read from node.me session (opened_in session so_far.node.sessions) vid entry made
            → (s v : ℕ) → unlocks s v entry ≡ false
        no_unlocks (Format members) made kept s v = refl
        no_unlocks (Join of zone vnodes) made kept s v = refl
        no_unlocks (Leave of) made kept s v = refl
        no_unlocks (Reweight of vnodes) made kept s v = refl
        no_unlocks (Recovered of epoch) made kept s v = refl
        no_unlocks (Reserve by of name origin) made kept s v = refl
        no_unlocks (Publish by of) made kept s v = refl
        no_unlocks (Clone by of) made kept s v = refl
        no_unlocks (Snapshot by old of) made kept s v = refl
        no_unlocks (Delete by of name tag) made kept s v = refl
        no_unlocks (Lock by of name tag) made kept s v = refl
        no_unlocks (Unlock by of id) made kept s v = absurd kept

        -- no other command publishes it: it would be of the same session
        only_here : (q : ℕ) (request : Request) (other : Op) → tree.get so_far.node.requests q ≡ Some request
            → request.course ≡ Commanding other
            → (opened : Option Content) → other.stage ≡ Publishing entry opened → ⊥
        only_here q request other got command opened stage =
            let mine : IsSessionsEntry (log_effects read) node.me session entry
            = subst (IsSessionsStage (log_effects read) node.me session) at
            (so.commands.own req (record { session = session; course = Commanding op }) there_on).stage in
            let its : IsSessionsCommand (log_effects read) node.me request.session other
            = subst (IsOwnCourse read node.me request.session) command (so.commands.own q request got) in
            let theirs : IsSessionsEntry (log_effects read) node.me request.session entry
            = subst (IsSessionsStage (log_effects read) node.me request.session) stage its.stage in
            let of : request.session ≡ session = session_of_entry read node.me request.session session entry theirs mine in
            let same = sole_on q request got (ap is_command command) of in
            let one : record { session = session; course = Commanding op } ≡ request
            = same_Some _ request (sym there_on ∙ ap (tree.get so_far.node.requests) (sym same) ∙ got) in
            let course : Commanding op ≡ Commanding other = ap (λ (r : Request). r.course) one ∙ command in
            let its_op : op ≡ other = cc (course) in
            let two : Working vid (Making entry made) ≡ Publishing entry opened = sym at ∙ ap (λ (o : Op). o.stage) its_op ∙ stage in
            cc (two)

    goes_on_next : (act : OpAct) → IsAwaitedAtOpStage act step.op.stage → step.act ≡ act
        → IsNext (after_command_step session req step freed) req (outcome_of_command act)
    unfolding op_on_done
    goes_on_next (op_acts.Work asked) awaited acts = tt
    goes_on_next (op_acts.Reply reply) awaited acts =
        reply_next read unread input node meets log from reads freed session req step reply awaited
    goes_on_next (op_acts.Append entry) awaited acts = by_stage op.stage refl is
      where
        by_task : (vid : Vid) (task : Task) → op.stage ≡ Working vid task → task_done op vid bytes task ≡ step
            → HasClaims log (so_far.node.outbox ++ entry ∷ []) read from node.me (after_command_step session req step freed).node.requests
            (after_command_step session req step freed).node.sessions
        by_task vid (Opening true ids header) at made = absurd (cc (made, acts))
        by_task vid (Opening false ids header) at made = absurd (cc (made, acts))
        by_task vid (WritingBack inode) at made = absurd (cc (made, acts))
        by_task vid (Tagging old inode) at made = absurd (cc (made, acts))
        by_task vid (Copying ids header) at made = absurd (cc (made, acts))
        by_task vid (Making last opened) at made =
            let act : op_acts.Append last ≡ op_acts.Append entry = ap (λ (s : OpStep). s.act) made ∙ acts in
            let same : last ≡ entry = cc (act) in
            goes_on_in (so_far.node.outbox ++ entry ∷ [])
            (made_put entry vid opened (at ∙ ap (λ (e : Entry). Working vid (Making e opened)) same))

        by_stage : (stage : OpStage) → op.stage ≡ stage → op_on_done bytes op ≡ Some step
            → HasClaims log (so_far.node.outbox ++ entry ∷ []) read from node.me (after_command_step session req step freed).node.requests
            (after_command_step session req step freed).node.sessions
        by_stage (Asked wanted) at next = let none = ap (done_at bytes op) (sym at) ∙ next in absurd (cc (none))
        by_stage (Working vid task) at next =
            by_task vid task at (same_Some (task_done op vid bytes task) step (ap (done_at bytes op) (sym at) ∙ next))
        by_stage (Publishing wanted opened) at next = let none = ap (done_at bytes op) (sym at) ∙ next in absurd (cc (none))
        by_stage (Answered change) at next = let none = ap (done_at bytes op) (sym at) ∙ next in absurd (cc (none))

  -- ---- a command's entry is decided

  module _ (so_far : StepState) (so : Is so_far) (all : AreOpenSoFar so_far) (has : Has so_far) (session req : ℕ) (entry : Entry) (op : Op)
      (step : OpStep) (input_so : input ≡ inputs.LogEntry entry) (peer : so_far.node.peer ≡ (entry_read entry node).peer)
      (there : HasRequest session req (Commanding op) so_far) (waits : waits_for_entry entry (Commanding op) ≡ true)
      (is : on_decision (effects_of so_far.node.peer) (inode_open (session_in session so_far).disk) (decision_on entry node.peer) op
      ≡ Some step) where
    sole_decided : IsSole so_far.node.requests req session
    sole_decided other request got command of =
        so.commands.apart other req request (record { session = session; course = Commanding op }) got there command refl of

    own_decided : IsOfSession so_far.node.requests req session
    own_decided old got = sym (ap (λ (r : Request). r.session) (same_Some _ old (sym there ∙ got)))

    known_so : effects_of so_far.node.peer ≡ log_effects read
    known_so = ap effects_of peer ∙ ap log_effects (entries_reading entry node ∙ sym (meets.read_so entry input_so))

    waited : (stage : OpStage) → waits_at entry stage ≡ true → IsWaitedAt entry stage
    waited (Asked wanted) is = same_entry wanted entry is
    waited (Working vid task) is = absurd (cc (is))
    waited (Publishing wanted made) is = same_entry wanted entry is
    waited (Answered change) is = absurd (cc (is))

    -- what waits for the entry lets a disk go by it
    lets_by : (vid : ℕ) (stage : OpStage) → IsWaitedAt entry stage → LetsGo vid stage → LetsGoBy vid entry
    lets_by vid (Asked wanted) waits lets = subst (LetsGoBy vid) waits lets
    lets_by vid (Working of task) waits lets = absurd lets
    lets_by vid (Publishing wanted made) waits lets = subst (LetsGoBy vid) waits lets
    lets_by vid (Answered change) waits lets = absurd lets

    safe_unless : AreSafeUnless log so_far.node.outbox read from node.me session entry (session_in session so_far).disk
    safe_unless disk opened never = by_kind disk.snapshot (has.disks session disk opened)
      where
        by_kind : (b : Bool) → IsDiskKept log so_far.node.outbox read node.me so_far.node.requests session b disk.inode
            → IsDiskSafe log so_far.node.outbox read from node.me session b disk.inode
        by_kind true is = is
        by_kind false (named, is) = (
          named,
          ⊎_elim (λ (lock : HasLock log so_far.node.outbox node.me session (epoch_of read) disk.inode.vid). lock)
              (λ (goes : IsLetGo so_far.node.requests session disk.inode.vid).
              absurd (never (lets_by disk.inode.vid op.stage (waited op.stage waits)
              (its_stage read unread input node meets log from reads so_far.node.requests session req op there sole_decided disk.inode.vid
              goes)))) is,
        )

    decided_now : HasClaims log so_far.node.outbox read from node.me (after_command_step session req step so_far).node.requests
        (after_command_step session req step so_far).node.sessions
    decided_now =
        stepped read unread input node meets log from reads so_far.node.outbox so_far has session req step own_decided sole_decided
        (decided_kept log so_far.node.outbox read from node.me session op (effects_of so_far.node.peer)
        (λ vid header found. reads.named vid header (ap (λ (known : List Effect). header_of known vid) (sym known_so) ∙ found))
        entry (reads.got entry input_so) (reads.upto entry input_so) (session_in session so_far).disk (decision_on entry node.peer) step is
        (ap (λ (front : List Entry). decision_after front entry) (sym (reads.before entry input_so)))
        (waited op.stage waits) (all req (record { session = session; course = Commanding op }) there) safe_unless
        (has.commands req (record { session = session; course = Commanding op }) op there refl))

    decided_next : (act : OpAct) → PutsNothing act → IsAwaitedAtOpStage act step.op.stage
        → IsNext (after_command_step session req step so_far) req (outcome_of_command act)
    decided_next (op_acts.Append put) nothing awaited = absurd nothing
    decided_next (op_acts.Work asked) nothing awaited = tt
    decided_next (op_acts.Reply reply) nothing awaited =
        reply_next read unread input node meets log from reads so_far session req step reply awaited

  -- ---- a request takes a step

  pub steps_kept : (so_far : StepState) (session req : ℕ) (next : Outcome) (moved : StepState)
      → RequestSteps input node so_far session req next moved
      → Is so_far → AreOpenSoFar so_far → Has so_far → Has moved × IsNext moved req next
  steps_kept so_far session req next moved (DiskBegins ask disk there on may) so all has =
      let step = drivers.begin_driver disk ask in (
        driven_kept read unread input node meets log from reads session req disk step so_far on (driver_begins-wanted disk ask)
            (driver_begins-named disk ask)
            (plain_there_lets read unread input node meets log from reads so_far.node.requests session req (Waiting ask) refl there) has,
        driver_next read unread input node meets log from reads step.act (after_driver_step session req disk step so_far) session req
            step.driver
            (get-insert_same so_far.node.requests req (record { session = session; course = Driving step.driver })),
      )
  steps_kept so_far session req next moved (DiskGoesOn number work attempt status bytes driver disk step ends on is) so all has = (
    driven_kept read unread input node meets log from reads session req disk step (without_ended_work session req work status so_far) on
        (driver_goes_on-wanted disk.inode bytes driver step is)
        (driver_goes_on-named disk.inode bytes driver step is)
        (plain_there_lets read unread input node meets log from reads so_far.node.requests session req (Driving driver) refl
        ends.ends.request) (freed_kept read unread input node meets log from reads session req work status so_far has),
    driver_next read unread input node meets log from reads step.act
        (after_driver_step session req disk step (without_ended_work session req work status so_far)) session req step.driver
        (get-insert_same so_far.node.requests req (record { session = session; course = Driving step.driver })),
  )
  steps_kept so_far session req next moved (CommandBegins ask step arrival is) so all has =
      let begins = ap (λ (by : NodeId). begin_command by session ask (inode_open (session_in session so_far).disk)) (sym so.me_so) ∙ is in (
        begins_in read unread input node meets log from reads so_far so has session req ask step arrival begins so_far.node.outbox has,
        begins_next read unread input node meets log from reads so_far so has session req ask step arrival begins step.act
            (awaited_of (begin_command so_far.node.me session ask (inode_open (session_in session so_far).disk)) step
            (begin_awaited so_far.node.me session ask (inode_open (session_in session so_far).disk)) is),
      )
  steps_kept so_far session req next moved (CommandGoesOn number work attempt status bytes op step ends is) so all has = (
    goes_on_in so_far so all has session req number work attempt status bytes op step ends is so_far.node.outbox has,
    goes_on_next so_far so all has session req number work attempt status bytes op step ends is step.act
        (awaited_of (op_on_done bytes op) step (done_awaited bytes op) is) refl,
  )
  steps_kept so_far session req next moved (CommandDecided entry op step from_input peer there waits is) so all has =
      let disk = inode_open (session_in session so_far).disk in (
        decided_now so_far so all has session req entry op step from_input peer there waits is,
        decided_next so_far so all has session req entry op step from_input peer there waits is step.act
            (decided_puts_nothing op (effects_of so_far.node.peer) disk (decision_on entry node.peer) step is)
            (awaited_of (on_decision (effects_of so_far.node.peer) disk (decision_on entry node.peer) op) step
            (decision_awaited (effects_of so_far.node.peer) disk (decision_on entry node.peer) op) is),
      )
  steps_kept so_far session req next moved (CheckBegins inode arrival on) so all has = (
    sole_kept read unread input node meets log from reads session req (Checking (begin_check inode).check) so_far refl
        (arrived_lets read unread input node meets log from reads so_far session req (asks.Vdi disk_commands.Check) arrival) has,
    check_next read unread input node meets log from reads (begin_check inode).act moved session req (begin_check inode).check
        (get-insert_same so_far.node.requests req (record { session = session; course = Checking (begin_check inode).check })),
  )
  steps_kept so_far session req next moved (CheckGoesOn number work attempt status bytes check step ends is) so all has = (
    sole_kept read unread input node meets log from reads session req (Checking step.check)
        (without_ended_work session req work status so_far) refl
        (plain_there_lets read unread input node meets log from reads so_far.node.requests session req (Checking check) refl
        ends.ends.request) (freed_kept read unread input node meets log from reads session req work status so_far has),
    check_next read unread input node meets log from reads step.act moved session req step.check
        (get-insert_same so_far.node.requests req (record { session = session; course = Checking step.check })),
  )
  steps_kept so_far session req next moved (ObjectBegins asked arrival) so all has = (
    sole_kept read unread input node meets log from reads session req (DoingWork asked) so_far refl
        (arrived_lets read unread input node meets log from reads so_far session req (asks.Object asked) arrival) has,
    tt,
  )
  steps_kept so_far session req next moved (ObjectIsDone number work attempt status bytes asked ends) so all has = (
    freed_kept read unread input node meets log from reads session req work status so_far has,
    plain_there_lets read unread input node meets log from reads so_far.node.requests session req (DoingWork asked) refl ends.ends.request,
  )
  steps_kept so_far session req next moved (EntryBegins entry arrival) so all has = absurd (meets.no_entry req session entry arrival.from)
  steps_kept so_far session req next moved (EntryDecided entry wanted from_input peer there waits) so all has =
      absurd (so.commands.own req (record { session = session; course = AwaitingDecision wanted }) there)
