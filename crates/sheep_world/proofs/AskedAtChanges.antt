-- Each change of a step leaves what the works of a node wait for and ask, but for what the input tells of.
use Rattle.std.proofs.Common.{◌≡◌, ℕ, ◌+◌, ◌≤◌, true, false, List, length, map, Contains, Option, Some, None, refl, sym, ap, subst, ◌∙◌}
use native.Mathlib.Omega.{arith}
use Rattle.std.specs.List.{list_any}
use Rattle.std.specs.FinMap as tree
use Rattle.std.proofs.lemmas.Option.{same_Some}
use Rattle.proof_tools.proofs.FiniteMaps.{get-insert_same, get-insert_other}
use Rattle.proof_tools.proofs.Lists.{Contains-first, find-contains}
use Rattle.object_id.specs.declared.cause.Cause.{Cause}
use Rattle.object_id.specs.declared.cause.Cause.TheVariants.{Halt}
use Rattle.object_id.specs.declared.node.Epoch.{Epoch}
use Rattle.object_id.specs.declared.node.NodeId.{NodeId}
use Rattle.vnode_table.specs.Targets.{targets_in}
use Rattle.peer_proto.specs.Work.{oid_of, policy_of}
use Rattle.peer_proto.specs.declared.ask.PeerReq.{PeerReq}
use Rattle.peer_proto.specs.declared.guest.GuestRsp.{GuestRsp}
use Rattle.gateway.specs.declared.message.Status.{Status}
use Rattle.gateway.specs.Work as works_
use Rattle.gateway.specs.Attempt.{Attempt, is_awaited_message, messages_with_status, messages_of, send_of, is_over}
use Rattle.gateway.specs.State.{WorkStage, Open, Ended, WaitsForMembers, Work, open_messages, is_awaited_in, may_try}
use Rattle.gateway.specs.Step.{attempt_with_status}
use Rattle.gateway.proofs.SendLaws.{sends-numbers}
use Rattle.guest_driver.specs.InodeQueue as lines
use Rattle.sheep_node.specs.declared.input.Input.{Input}
use Rattle.sheep_node.specs.declared.course.Course.{Course}
use Rattle.sheep_node.specs.State.{Node}
use Rattle.sheep_node.specs.StepState.{StepState, request_ended}
use Rattle.sheep_node.specs.Changes as changes
use Rattle.sheep_node.specs.Changes.{IsTold, IsSoundStep, LearnsStatus, without_ended_work, Outcome, ToWork, ToEntry, ToReply, RequestSteps, DiskBegins, DiskGoesOn, CommandBegins, CommandGoesOn, CommandDecided, WorkIsNext, AtOnce, InTurn, Again, AgainAlone, attempt_in, Change, CheckBegins, CheckGoesOn, ObjectBegins, ObjectIsDone, EntryBegins, EntryDecided}
use Rattle.sheep_node.proofs.RefusedCourses.{course_refused-keeps, request_refused-keeps}
use Rattle.sheep_node.proofs.MessageNumbers.{numbers_within}
use Rattle.sheep_node.proofs.NumberChanges.{HasOneWorkAndNumber, comes_numbered}
use Rattle.sheep_node.proofs.OneWorkChanges.{StepHasOneWork, steps_free, never_alone}
use Rattle.sheep_world.proofs.AttemptSends.{fresh_own}
use Rattle.sheep_world.proofs.AskedWorks.{ToldIsBelow, StepAsksOn, turned, turns_open, turns_ended, turns_gone, turns_begun, turns_held, turns_denied, put_asks, gone_asks}

module _ (input : Input) (old node : Node) (sound : IsSoundStep input node) (below : ToldIsBelow input old.sends) where
  abbrev pub StepAsks : StepState → Type 0
  StepAsks so_far = StepAsksOn input old so_far

  freed_asks : (so_far : StepState) (session req number : ℕ) (work : Work) (attempt : Attempt) (status : Status) → LearnsStatus input node so_far req number work attempt status
      → is_over (messages_with_status number status attempt.messages) ≡ true → StepAsks so_far
      → StepAsks (without_ended_work session req work status so_far)
  freed_asks so_far session req number work attempt status learns over asks =
      gone_asks input old below so_far.node.me so_far.node.gateway.works so_far.node.sends so_far.outputs.sends req (Some work) learns.there asks
      (turns_gone input old number status (learns.settled sound) learns.told work attempt learns.open_so over)

  steps_asks : (so_far : StepState) (session req : ℕ) (next : Outcome) (moved : StepState) → RequestSteps input node so_far session req next moved
      → StepAsks so_far → StepAsks moved
  steps_asks so_far session req next moved (DiskBegins ask disk there on may) asks = asks
  steps_asks so_far session req next moved (DiskGoesOn number work attempt status bytes driver disk step ends on is) asks =
      freed_asks so_far session req number work attempt status ends.ends.learns ends.ends.over asks
  steps_asks so_far session req next moved (CommandBegins ask step arrival is) asks = asks
  steps_asks so_far session req next moved (CommandGoesOn number work attempt status bytes op step ends is) asks =
      freed_asks so_far session req number work attempt status ends.ends.learns ends.ends.over asks
  steps_asks so_far session req next moved (CommandDecided entry op step from read there waits is) asks = asks
  steps_asks so_far session req next moved (CheckBegins inode arrival on) asks = asks
  steps_asks so_far session req next moved (CheckGoesOn number work attempt status bytes check step ends is) asks =
      freed_asks so_far session req number work attempt status ends.ends.learns ends.ends.over asks
  steps_asks so_far session req next moved (ObjectBegins asked arrival) asks = asks
  steps_asks so_far session req next moved (ObjectIsDone number work attempt status bytes asked ends) asks =
      freed_asks so_far session req number work attempt status ends.ends.learns ends.ends.over asks
  steps_asks so_far session req next moved (EntryBegins entry arrival) asks = asks
  steps_asks so_far session req next moved (EntryDecided entry wanted from read there waits) asks = asks

  comes_asks : (so_far : StepState) (session req : ℕ) (asked : Work) (lined : StepState) → WorkIsNext input node so_far session req asked lined
      → StepAsks so_far → StepAsks lined
  comes_asks so_far session req asked lined (AtOnce work moved steps begins) asks = steps_asks so_far session req (ToWork work) moved steps asks
  comes_asks so_far session req asked lined (InTurn work later none is) asks = asks
  comes_asks so_far session req asked lined (Again work course from next there request) asks = asks
  comes_asks so_far session req asked lined (AgainAlone work from next there none) asks = asks

  -- a work whose turn has come waits for no message
  comes_idle : (so_far : StepState) (session req : ℕ) (asked : Work) (lined : StepState) → WorkIsNext input node so_far session req asked lined
      → StepHasOneWork so_far → (q : ℕ) (w : Work) → tree.get lined.node.gateway.works req ≡ Some w → is_awaited_in q w ≡ false
  comes_idle so_far session req asked lined (AtOnce work moved steps begins) good q w got =
      let none = (steps_free so_far session req (ToWork work) moved steps sound good).free.idle in
      absurd (cc (none, got))
  comes_idle so_far session req asked lined (InTurn work later none is) good q w got =
      let first : lines.Waiting = record { req = req; work = work } in
      let free = good.waiting_free session first (subst (λ (list : List lines.Waiting). Contains list first) (sym is) (Contains-first first first later refl)) in
      absurd (cc (free, got))
  comes_idle so_far session req asked lined (Again work course from next there request) good q w got =
      let may = (find-contains (λ (entry : ℕ × Work). may_try (record { 0 = so_far.node.peer.epoch }) entry.1.stage)
      (tree.entries so_far.node.gateway.works) (req, asked) next).1 in
      ap (is_awaited_in q) (sym (same_Some asked w (sym there ∙ got))) ∙ by_stage asked.stage may
    where
      by_stage : (stage : WorkStage) → may_try (record { 0 = so_far.node.peer.epoch }) stage ≡ true → list_any (is_awaited_message q) (open_messages stage) ≡ false
      by_stage (Open attempt) may = absurd (cc (may))
      by_stage Ended may = refl
      by_stage (WaitsForMembers since) may = refl
  comes_idle so_far session req asked lined (AgainAlone work from next there none) good q w got = absurd (never_alone req asked so_far there none good)

  ended_asks : (session req : ℕ) (reply : GuestRsp) (so_far : StepState) → StepAsks so_far → StepAsks (request_ended session req reply so_far)
  unfolding request_ended
  ended_asks session req reply so_far asks = asks

  begun_asks : (req : ℕ) (asked : Work) (lined : StepState) → ((q : ℕ) (w : Work) → tree.get lined.node.gateway.works req ≡ Some w → is_awaited_in q w ≡ false)
      → lined.node.gateway.me ≡ lined.node.me → StepAsks lined → StepAsks (changes.with_open_attempt req asked lined)
  begun_asks req asked lined idle own asks =
      let at = lined.node in
      let epoch : Epoch = record { 0 = at.peer.epoch } in
      let targets = targets_in at.epochs at.peer.epoch (oid_of asked.work) (policy_of asked.work) in
      let messages = messages_of asked.work asked.ended at.sends targets in
      let more = map (send_of at.gateway.me epoch asked.work) messages in
      let low = asks.low in
      turned input old below at.me at.gateway.works (tree.insert at.gateway.works req (record asked { stage = Open (attempt_in asked at) }))
      at.sends (at.sends + length more) lined.outputs.sends more req
      (tree.get at.gateway.works req) (Some (record asked { stage = Open (attempt_in asked at) })) refl
      (get-insert_same at.gateway.works req (record asked { stage = Open (attempt_in asked at) }))
      (λ q other. get-insert_other at.gateway.works req (record asked { stage = Open (attempt_in asked at) }) q other)
      (omega arith)
      (λ send there.
      let above : at.sends ≤ send.1.number = fresh_above lined asked send there in
      (omega (arith, above, low), fresh_own at.gateway.me epoch asked.work messages send there ∙ own ∙ asks.me_so))
      (turns_begun input old (tree.get at.gateway.works req) idle at.gateway.me (own ∙ asks.me_so) asked at.sends asks.low epoch targets) asks
    where
      fresh_above : (lined : StepState) (asked : Work) (send : NodeId × PeerReq)
          → Contains (map (send_of lined.node.gateway.me (record { 0 = lined.node.peer.epoch }) asked.work) (attempt_in asked lined.node).messages) send
          → lined.node.sends ≤ send.1.number
      fresh_above lined asked send there =
          let at = lined.node in
          let targets = targets_in at.epochs at.peer.epoch (oid_of asked.work) (policy_of asked.work) in
          let sends = map (send_of at.gateway.me (record { 0 = at.peer.epoch }) asked.work) (attempt_in asked at).messages in
          (numbers_within at.sends sends send
          (sends-numbers at.gateway.me (record { 0 = at.peer.epoch }) asked.work asked.ended at.sends targets) there).0

  pub change_keeps_asks : (so_far next : StepState) → Change input node so_far next → HasOneWorkAndNumber so_far → StepAsks so_far → StepAsks next
  change_keeps_asks so_far next (changes.Marks req number work attempt status learns over) both asks =
      put_asks input old below so_far.node.me so_far.node.gateway.works so_far.node.sends so_far.outputs.sends req (Some work) learns.there asks
      (record work { stage = Open (attempt_with_status number status attempt) })
      (turns_open input old number status (learns.settled sound) learns.told work attempt learns.open_so)
  change_keeps_asks so_far next (changes.Fails session req number work attempt status course ends done why) both asks =
      let learns = ends.learns in
      put_asks input old below so_far.node.me so_far.node.gateway.works so_far.node.sends so_far.outputs.sends req (Some work) learns.there asks
      (record work { ended = work.ended + 1; stage = Ended })
      (turns_ended input old number status (learns.settled sound) learns.told work attempt learns.open_so ends.over (work.ended + 1))
  change_keeps_asks so_far next (changes.Stops session req number work attempt status course bytes ends over) both asks =
      freed_asks so_far session req number work attempt status ends.ends.learns ends.ends.over asks
  change_keeps_asks so_far next (changes.Refuses session req number work attempt status course cause ends done why) both asks =
      course_refused-keeps StepAsks ended_asks (λ entry before now. now) session req cause course (without_ended_work session req work status so_far)
      (freed_asks so_far session req number work attempt status ends.learns ends.over asks)
  change_keeps_asks so_far next (changes.Opens session req asked lined comes enough) both asks =
      begun_asks req asked lined (comes_idle so_far session req asked lined comes both.0)
      (comes_numbered so_far session req asked lined comes both.1).own_so (comes_asks so_far session req asked lined comes asks)
  change_keeps_asks so_far next (changes.Holds session req asked lined comes short touched) both asks =
      put_asks input old below lined.node.me lined.node.gateway.works lined.node.sends lined.outputs.sends req (tree.get lined.node.gateway.works req) refl
      (comes_asks so_far session req asked lined comes asks) (record asked { stage = WaitsForMembers (record { 0 = lined.node.peer.epoch }) })
      (turns_held input old (tree.get lined.node.gateway.works req) (comes_idle so_far session req asked lined comes both.0) asked (record { 0 = lined.node.peer.epoch }))
  change_keeps_asks so_far next (changes.Denies session req asked lined request comes short untouched there own) both asks =
      request_refused-keeps StepAsks ended_asks (λ entry before now. now) req (Halt (changes.zones_of_members lined.node) (works_.zones_for asked.work)) request (changes.without_denied_work session req asked lined)
      (gone_asks input old below lined.node.me lined.node.gateway.works lined.node.sends lined.outputs.sends req (tree.get lined.node.gateway.works req) refl
      (comes_asks so_far session req asked lined comes asks)
      (turns_denied input old (tree.get lined.node.gateway.works req) (comes_idle so_far session req asked lined comes both.0)))
  change_keeps_asks so_far next (changes.Strays req work gateway there none apart) both asks = absurd (never_alone req work so_far there none both.0)
  change_keeps_asks so_far next (changes.Lines session req work moved steps waits) both asks = steps_asks so_far session req (ToWork work) moved steps asks
  change_keeps_asks so_far next (changes.Appends session req entry moved steps) both asks = steps_asks so_far session req (ToEntry entry) moved steps asks
  change_keeps_asks so_far next (changes.Replies session req reply moved steps) both asks =
      ended_asks session req reply moved (steps_asks so_far session req (ToReply reply) moved steps asks)
  change_keeps_asks so_far next (changes.Arrives session req ask disk arrival on) both asks = asks
  change_keeps_asks so_far next (changes.Rejects session req ask cause arrival) both asks = asks
  change_keeps_asks so_far next (changes.Recovers due) both asks = asks
