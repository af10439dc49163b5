-- As a node puts an entry for which a command waits, that is followed from then on: where the command is, and what its refusal leaves.
use Rattle.std.proofs.Common.{◌≡◌, ℕ, ◌+◌, ◌≤◌, Bool, true, false, not, List, [], ◌∷◌, drop, length, Some, refl, sym, ap, subst, ◌∙◌, arith}
use Rattle.std.specs.List.{slice_get}
use Rattle.std.proofs.lemmas.Bool.{and_parts, not-true}
use Rattle.std.proofs.lemmas.List.{append-nil}
use Rattle.std.proofs.lemmas.Option.{same_Some}
use Rattle.proof_tools.proofs.Lists.{Contains-nil}
use Rattle.object_id.specs.declared.node.NodeId.{NodeId}
use Rattle.object_id.specs.declared.entry.Entry.{Entry}
use Rattle.cluster_script.specs.declared.statement.Statement.{Statement}
use Rattle.vdi_directory.specs.Decisions.{log_effects}
use Rattle.vdi_ops.specs.Op.{OpStage, Asked, Working, Publishing, Answered, Op}
use Rattle.sheep_node.specs.declared.ask.Ask.{Ask}
use Rattle.sheep_node.specs.declared.event.Event.TheVariants.{Put}
use Rattle.sheep_node.specs.declared.input.Input.TheVariants as inputs
use Rattle.sheep_node.specs.declared.course.Course.{Course}
use Rattle.sheep_node.specs.declared.course.Request.{Request}
use Rattle.sheep_node.specs.declared.course.Course.TheVariants.{Waiting, Driving, Commanding, Checking, DoingWork, AwaitingDecision}
use Rattle.sheep_node.specs.AwaitedEntry.{waits_for_entry}
use Rattle.sheep_node.specs.May.{has_numbers}
use Rattle.sheep_world.specs.AsksOfClients.{IsReadCourse}
use Rattle.sheep_world.specs.Began.{Began}
use Rattle.sheep_world.specs.BegunRequests.{WasBegun}
use Rattle.sheep_world.specs.EventKinds.{outcome_of_step}
use Rattle.sheep_world.specs.NodeCauses.{EntryIsPut, input_of_cause}
use Rattle.sheep_world.specs.RunsWithAsks.{Move}
use Rattle.sheep_world.specs.World.{is_host_up}
use Rattle.sheep_world.proofs.BegunRequestLaws.{Grows}
use Rattle.sheep_world.proofs.NodesByTheLog.{knows_its_number}
use Rattle.overlap_law.specs.AwaitedEntries.{IsCommandEntry, IsSessionsEntry, IsSessionsCommand}
use Rattle.overlap_law.specs.CommandDisks.{opened_in}
use Rattle.overlap_law.specs.Holders.{is_object_among}
use Rattle.overlap_law.specs.MomentChanges.{RunsAreInRange, Still}
use Rattle.overlap_law.specs.Past.{MomentWithPast, moment_after, run_with_past}
use Rattle.overlap_law.specs.RefusedCommands.{IsToPutFor}
use Rattle.overlap_law.specs.RequestsOfScript.{is_of_client}
use Rattle.overlap_law.specs.WriterClaims.{HasClaims, IsFirstEntry, IsStageKept}
use Rattle.overlap_law.proofs.AwaitedChanges.{IsOwnCourse}
use Rattle.overlap_law.proofs.AwaitedCommands.{waits_at, waited_own}
use Rattle.overlap_law.proofs.AwaitedEntriesInMoments.{unread_of}
use Rattle.overlap_law.proofs.AwaitedInputs.{AreAwaitedAt}
use Rattle.overlap_law.proofs.AwaitedInRuns.{awaited_in_worlds}
use Rattle.overlap_law.proofs.ClaimRequests.{counted_from}
use Rattle.overlap_law.proofs.ClaimsInRuns.{claims-in_run}
use Rattle.overlap_law.proofs.CountedEntries.{times, once_if, times-cons, itself, same_entry}
use Rattle.overlap_law.proofs.NoRecoveredDue.{began-with_past}
use Rattle.overlap_law.proofs.RefusedCommandByEvents.{step_follows}
use Rattle.overlap_law.proofs.RefusedCommandInEvents.{Follows}
use Rattle.overlap_law.proofs.RefusedCommandInSteps.{IsAskedThen, Starts, outbox_then}
use Rattle.overlap_law.proofs.RefusedCommandStages.{IsComeTo, IsComeSo, IsOnCourse}
use Rattle.overlap_law.proofs.RefusedInRuns.{node_begun, refused_in_run}
use Rattle.overlap_law.proofs.RequestsInRuns.{without_reply-in_run}
use Rattle.overlap_law.proofs.SessionsOfRequests.{IsAskedIn, of_asking, are_asked_by_course}

-- a request that waits for an entry, and is no client's, is a command
waiting_command : (read : List Entry) (me : NodeId) (session : ℕ) (entry : Entry) (course : Course) → waits_for_entry entry course ≡ true
    → IsOwnCourse read me session course
    → (op : Op) × (course ≡ Commanding op) × IsSessionsCommand (log_effects read) me session op × (waits_at entry op.stage ≡ true)
waiting_command read me session entry (Waiting ask) waits own = absurd (cc (waits))
waiting_command read me session entry (Driving driver) waits own = absurd (cc (waits))
waiting_command read me session entry (Commanding op) waits own = (op, refl, own, waits)
waiting_command read me session entry (Checking check) waits own = absurd (cc (waits))
waiting_command read me session entry (DoingWork work) waits own = absurd (cc (waits))
waiting_command read me session entry (AwaitingDecision wanted) waits own = absurd own

module _ (script : List Statement) (range : RunsAreInRange script) (moves : List Move) (before : MomentWithPast)
    (ran : run_with_past script moves ≡ Some before) (entry : Entry) (node : NodeId) (incarnation req : ℕ)
    (t : IsToPutFor before.world node incarnation entry req) (command : IsCommandEntry node entry) (up : is_host_up t.host ≡ true) where
  began : Began script before.world
  began = began-with_past script moves before ran

  abbrev earlier : List Entry
  earlier = before.world.log

  abbrev read : List Entry
  read = t.host.node.peer.entries

  up_then : t.host.is_lost ≡ false
  up_then = not-true t.host.is_lost (and_parts (not t.host.is_lost) (has_numbers t.host.node) up).0

  me_so : t.host.node.me ≡ node
  me_so = ap (λ (k : ℕ). record { 0 = k }) (knows_its_number script before.world began node.0 t.host t.there)

  awaited : AreAwaitedAt (unread_of before.world.log t.host.node) t.host.node
  awaited = (awaited_in_worlds script range before.world began).each node.0 t.host t.there up_then

  claims : HasClaims before.world.log t.host.node.outbox t.host.node.peer.entries (length t.host.node.peer.entries) t.host.node.me
      t.host.node.requests t.host.node.sessions
  claims = (claims-in_run script range moves before before ran Still).each node.0 t.host t.there up_then

  is_waiting : (op : Op) × (t.request.course ≡ Commanding op) × IsSessionsCommand (log_effects t.host.node.peer.entries) t.host.node.me
      t.request.session op
      × (waits_at entry op.stage ≡ true)
  is_waiting =
      waiting_command read t.host.node.me t.request.session entry t.request.course t.waits (awaited.commands.own req t.request t.asked)

  abbrev op : Op
  op = is_waiting.0

  course_so : t.request.course ≡ Commanding op
  course_so = is_waiting.1

  own : IsSessionsCommand (log_effects t.host.node.peer.entries) t.host.node.me t.request.session op
  own = is_waiting.2

  waits_so : waits_at entry op.stage ≡ true
  waits_so = is_waiting.3

  pub mine : IsSessionsEntry (log_effects t.host.node.peer.entries) node t.request.session entry
  mine =
      subst (λ (me : NodeId). IsSessionsEntry (log_effects read) me t.request.session entry) me_so
      (waited_own (log_effects read) t.host.node.me t.request.session entry op.stage own.stage waits_so)

  pub asked : IsAskedIn script node.0 incarnation req t.request.session
  asked =
      subst (λ (k : ℕ). IsAskedIn script node.0 k req t.request.session) t.lived
      (are_asked_by_course script range.is_script before.world began node.0 t.host t.there req t.request t.asked
      (λ reads. subst IsReadCourse course_so reads))

  begun : WasBegun script before.world.guests t.request.session req
  begun = node_begun script before.world began node.0 t.host t.there req t.request t.asked
      (of_asking script req t.request.session asked.asking)

  -- it isn't refused
  unrefused : is_object_among req before.past.refused ≡ false
  unrefused =
      let without = (without_reply-in_run script range moves before ran).each node.0 req t.host t.request t.there t.asked
      (ap is_of_client course_so) in
      subst (λ (q : ℕ). is_object_among q before.past.refused ≡ false) without.number
      ((refused_in_run script moves before ran).answered t.request.session without.place without.started without.unanswered)

  -- ---- the entry stands there once

  counts : times entry (drop (length t.host.node.peer.entries) before.world.log) + times entry t.later ≡ 0
  counts =
      let once = awaited.once entry (subst (λ (me : NodeId). IsCommandEntry me entry) (sym me_so) command) in
      let first : times entry t.host.node.outbox ≡ times entry (entry ∷ t.later) = ap (times entry) t.next in
      let more : times entry (entry ∷ t.later) ≡ 1 + times entry t.later
      = times-cons entry entry t.later ∙ ap (λ (b : Bool). once_if b + times entry t.later) (itself entry) in
      omega (arith, once, first, more)

  unread_nowhere : (q : ℕ) → length t.host.node.peer.entries ≤ q → slice_get before.world.log q ≡ Some entry → ⊥
  unread_nowhere q behind at =
      let some = counted_from earlier (length read) q entry behind at in let none = counts in absurd (omega (arith, some, none))

  -- ---- the step begins

  abbrev Asks : Type 0
  Asks =
      IsAskedThen script range earlier entry node command t.request.session req (log_effects read) mine earlier t.host.node.outbox
      (length read)

  come_to : (stage : OpStage) → op.stage ≡ stage → waits_at entry stage ≡ true
      → IsComeTo before.world.log entry node t.request.session Asks stage
  come_to (Asked wanted) at waits =
      let same : wanted ≡ entry = same_entry wanted entry waits in
      let kept = subst (IsStageKept earlier t.host.node.outbox read (length read) t.host.node.me t.request.session
      (opened_in t.request.session t.host.node.sessions)) at (claims.commands req t.request op t.asked course_so) in (
        same,
        record {
          first = subst IsFirstEntry same kept.first;
          one_place = λ q behind got. absurd (unread_nowhere q behind got);
          put_place = λ later is. refl;
        },
      )
  come_to (Working vid task) at waits = absurd (cc (waits))
  come_to (Publishing wanted made) at waits = tt
  come_to (Answered change) at waits = absurd (cc (waits))

  come : IsComeSo before.world.log entry node t.request.session Asks op
  come = record { by = own.by ∙ me_so; of = own.of; stage = come_to op.stage refl waits_so }

  old : (number : ℕ) (ask : Ask) → input_of_cause (EntryIsPut entry) ≡ inputs.Guest req number ask → ⊥
  old number ask from = cc (from)

  left_none : times entry (outbox_then inputs.Put t.host.node.outbox) ≡ 0
  left_none =
      let left : times entry (outbox_then inputs.Put t.host.node.outbox) ≡ times entry t.later
      = ap (λ (outbox : List Entry). times entry (outbox_then inputs.Put outbox)) t.next in
      let none = counts in
      omega (arith, left, none)

  starts : Starts script range before.world.log entry node command t.request.session req (log_effects t.host.node.peer.entries) mine
      before.world began t.host t.there up (record { rest = []; is = sym (append-nil before.world.log) }) (EntryIsPut entry)
      (t.later, t.next) old
  starts = record {
    there = λ request got.
        let same : t.request ≡ request = same_Some t.request request (sym t.asked ∙ got) in
        subst (λ (r : Request). IsOnCourse earlier entry node t.request.session Asks r.course) same
        (subst (IsOnCourse earlier entry node t.request.session Asks) (sym course_so) come);
    put_once = λ request got first. left_none;
    refused = λ reply among same refuses. absurd (Contains-nil reply among);
    kept = λ one among. among;
  }

  pub put_follows : Grows before.world.guests (outcome_of_step script node.0 t.host (EntryIsPut entry) before.world).world.guests
      → Follows script range before.world.log entry node command t.request.session req (log_effects t.host.node.peer.entries) mine
      incarnation asked (moment_after script (Put node) before (outcome_of_step script node.0 t.host (EntryIsPut entry) before.world))
  put_follows grows =
      step_follows script range earlier entry node command t.request.session req (log_effects read) mine incarnation asked before began
      t.host t.there up t.lived (record { rest = []; is = sym (append-nil earlier) }) (EntryIsPut entry)
      (t.later, t.next) old (Put node) starts
      begun grows [] refl (λ refused. absurd (let none = unrefused in cc (none, refused)))
