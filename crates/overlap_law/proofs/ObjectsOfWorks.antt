-- What a node creates is an inode object, or one that was set apart for the write that creates it: so it is for each attempt of a step.
use Rattle.std.proofs.Common.{◌≡◌, inl, arith, ℕ, true, ◌+◌, ◌*◌, ◌/◌, ◌%◌, ◌^◌, ◌<◌, ◌≤◌, List, [], ◌∷◌, map, All, Option, Some, None}
use Rattle.std.proofs.Common.{refl, sym, subst, ◌∙◌}
use Rattle.std.specs.List.{enumerate_from}
use Rattle.std.specs.FinMap as tree
use Rattle.std.proofs.lemmas.List.Elements.{All-nil, All-cons, All-head, All-append}
use Rattle.proof_tools.proofs.FiniteMaps.{get-insert_same}
use Rattle.object_id.specs.declared.cause.Cause.TheVariants.{Halt}
use Rattle.object_id.specs.declared.limits.TheConstants.{VID_MAX}
use Rattle.object_id.specs.declared.node.Epoch.{Epoch}
use Rattle.object_id.specs.declared.node.NodeId.{NodeId}
use Rattle.object_id.specs.Oid.{IsOid, inode_number, object_number}
use Rattle.inode.specs.Layout.{Content}
use Rattle.peer_proto.specs.declared.work.ObjWork.{ObjWork}
use Rattle.peer_proto.specs.declared.work.ObjWork.TheVariants as works
use Rattle.peer_proto.specs.Work.{oid_of, policy_of}
use Rattle.gateway.specs.Work.{ask_for, targets_asked, zones_for}
use Rattle.gateway.specs.Attempt.{message_for, send_of}
use Rattle.gateway.specs.State.{Work, Open}
use Rattle.guest_driver.specs.Driver as drivers
use Rattle.guest_driver.specs.Driver.{DriverStage, InPlace, Fetching, Creating, Entering, Driver, Reads, Writes}
use Rattle.guest_driver.specs.Pieces.{Piece}
use Rattle.guest_driver.specs.PieceWorks.{object_bytes}
use Rattle.disk_check.specs.Check as checks
use Rattle.disk_check.specs.Check.{Check, CheckStage, Comparing, WritingBack as Rewriting}
use Rattle.vdi_ops.specs.declared.act.OpAct.TheVariants as op_acts
use Rattle.vdi_ops.specs.Op.{Task, Opening, WritingBack, Tagging, Copying, Making, OpStage, Asked, Working, Publishing, Answered}
use Rattle.vdi_ops.specs.Op.{IsWorkOfTask, IsAwaitedAtOpStage}
use Rattle.object_id.specs.declared.oid.Vid.{Vid}
use Rattle.vnode_table.specs.Targets.{targets_in}
use Rattle.sheep_node.specs.declared.course.Course.{Course}
use Rattle.sheep_node.specs.declared.course.Course.TheVariants.{Waiting, Driving, Commanding, Checking, DoingWork, AwaitingDecision}
use Rattle.sheep_node.specs.declared.course.Request.{Request}
use Rattle.sheep_node.specs.declared.input.Input.{Input}
use Rattle.sheep_node.specs.State.{Node}
use Rattle.sheep_node.specs.StepState.{StepState, at_first}
use Rattle.sheep_node.specs.Step.{node_step}
use Rattle.sheep_node.specs.May.{May}
use Rattle.sheep_node.specs.OneWork.{may_work_at}
use Rattle.sheep_node.specs.OutsideAsks.{InputNamesObjects}
use Rattle.sheep_node.specs.NodeInvariant.{IsSoundNode}
use Rattle.sheep_node.specs.WantedWorks.{IsWorkOfWrite, IsWorkOfDriver, IsWorkOfCheck, IsWorkWanted, IsWantedAt}
use Rattle.sheep_node.specs.WorkRange.{IsWorkInRange}
use Rattle.sheep_node.specs.Changes as changes
use Rattle.sheep_node.specs.Changes.{ToWork, attempt_in, Change, Leads, input_received}
use Rattle.sheep_node.proofs.OneWorkParts.{Sessions}
use Rattle.sheep_node.proofs.SessionViews.{open_in, IsSeen}
use Rattle.sheep_node.proofs.SoundLaws.{works_sound_in_chain}
use Rattle.sheep_node.proofs.StepChain.{step_chain}
use Rattle.sheep_node.proofs.WantedChanges.{waits_well_in_chain}
use Rattle.overlap_law.proofs.ObjectsOfRequests.{IsOwn, CreatesWithin, IsLeftWithin, IsCourseWithin, AreWithin, IsInputWithin}
use Rattle.overlap_law.proofs.ObjectsOfRequests.{within_in_chain}
use Rattle.overlap_law.proofs.ObjectsOfRows.{AskWithin, SentWithin}
use Rattle.overlap_law.proofs.SendsOfChanges.{next_sends_nothing, steps_send_nothing, end_sends_nothing, refusal_sends_nothing}
use Rattle.overlap_law.proofs.SendsOfChanges.{denial_sends_nothing}

-- an inode object that there may be is one of an id that there may be
small_vid : (vid : ℕ) → IsOid (inode_number vid) → vid ≤ VID_MAX
small_vid vid is =
    let below : 2 ^ 63 + vid * 2 ^ 32 < 2 ^ 64 = is.0 in
    let free : (2 ^ 63 + vid * 2 ^ 32) / 2 ^ 56 % 2 ^ 7 ≡ 0 = is.1.1 in
    omega (arith, below, free)

module _ (K : ℕ → Type 0) (inodes : (vid : ℕ) → vid ≤ VID_MAX → K (inode_number vid)) where
  -- ---- the work that a request waits for

  is_within : (work made : ObjWork) → work ≡ made → CreatesWithin K made → CreatesWithin K work
  is_within work made same within = subst (CreatesWithin K) (sym same) within

  write_within : (inode : Content) (payload : List ℕ) (piece : Piece) (rest : List Piece) (work : ObjWork) (stage : DriverStage)
      → All (IsOwn K inode.vid) (piece ∷ rest) → IsWorkOfWrite inode payload piece work stage → CreatesWithin K work
  write_within inode payload piece rest work InPlace left is = is_within work _ is tt
  write_within inode payload piece rest work Fetching left (vid, is) = is_within work _ is tt
  write_within inode payload piece rest work Creating left (offset, bytes, is) =
      let made : ObjWork = works.Create (object_number inode.vid piece.index) inode.spec.policy (object_bytes inode) offset bytes in
      let same : work ≡ made = cc (is) in
      is_within work made same (All-head (IsOwn K inode.vid) piece rest left)
  write_within inode payload piece rest work Entering left is = is_within work _ is tt

  driver_within : (inode : Content) (driver : Driver) (work : ObjWork) → IsLeftWithin K inode.vid driver → IsWorkOfDriver inode driver work
      → CreatesWithin K work
  driver_within inode (Reads told piece rest) work left (vid, is) = is_within work _ is tt
  driver_within inode (Writes payload stage piece rest) work left is = write_within inode payload piece rest work stage left is
  driver_within inode drivers.Answered work left is = absurd is

  task_within : (vid : Vid) (task : Task) (work : ObjWork) → IsWorkInRange work → IsWorkOfTask vid task work → CreatesWithin K work
  task_within vid (Opening snapshot ids header) work range is = is_within work _ is tt
  task_within vid (WritingBack inode) work range is = is_within work _ is.work_of tt
  task_within vid (Tagging old inode) work range is = is_within work _ is.work_of tt
  task_within vid (Copying ids header) work range is = is_within work _ is.work_of tt
  task_within vid (Making entry opened) work range is =
      is_within work _ is.work_of
      (inodes is.inode.vid (small_vid is.inode.vid (subst (λ (work : ObjWork). IsOid (oid_of work)) is.work_of range.oid)))

  stage_within : (stage : OpStage) (work : ObjWork) → IsWorkInRange work → IsAwaitedAtOpStage (op_acts.Work work) stage
      → CreatesWithin K work
  stage_within (Asked entry) work range is = absurd (cc (is))
  stage_within (Working vid task) work range (one, same, of) =
      let is : work ≡ one = cc (same) in
      is_within work one is (task_within vid task one (subst IsWorkInRange is range) of)
  stage_within (Publishing entry opened) work range is = absurd (cc (is))
  stage_within (Answered change) work range (reply, is) = absurd (cc (is))

  check_within : (check : Check) (stage : CheckStage) (work : ObjWork) → IsWorkOfCheck check stage work → CreatesWithin K work
  check_within check (Comparing index later) work is = is_within work _ is tt
  check_within check (Rewriting later) work (index, value, is) = is_within work _ is tt
  check_within check checks.Answered work is = absurd is

  work_within : (inode : Option Content) (course : Course) (work : ObjWork) → IsWorkInRange work → IsCourseWithin K inode course
      → IsWorkWanted inode course work → CreatesWithin K work
  work_within inode (Waiting ask) work range within is = absurd is
  work_within None (Driving driver) work range within is = absurd is
  work_within (Some inode) (Driving driver) work range within is = driver_within inode driver work within is
  work_within inode (Commanding op) work range within is = stage_within op.stage work range is
  work_within inode (Checking check) work range within is = check_within check check.stage work is
  work_within inode (DoingWork asked) work range within is = is_within work asked is within
  work_within inode (AwaitingDecision entry) work range within is = absurd is

  -- of a request that is there
  wanted_within : (sessions : Sessions) (found : Option Request) (work : ObjWork) → may_work_at found ≡ true → IsWorkInRange work
      → IsSeen open_in (IsCourseWithin K) sessions found
      → IsWantedAt sessions found work → CreatesWithin K work
  wanted_within sessions None work may range within is = absurd (cc (may))
  wanted_within sessions (Some request) work may range within is = work_within _ request.course work range within is

  -- ---- what an attempt sends

  asked_within : (work : ObjWork) (index : ℕ) → CreatesWithin K work → AskWithin K (ask_for work index)
  asked_within (works.Create oid policy size offset bytes) index within = within
  asked_within (works.Write oid policy offset bytes) index within = tt
  asked_within (works.Read oid policy offset size) index within = tt
  asked_within (works.ReadAll oid policy size) index within = tt

  places_within : (me : NodeId) (epoch : Epoch) (work : ObjWork) → ((index : ℕ) → AskWithin K (ask_for work index)) → (first : ℕ)
      (places : List (ℕ × NodeId)) → All (SentWithin K) (map (send_of me epoch work) (map (message_for work) (enumerate_from first places)))
  places_within me epoch work all first [] = All-nil (SentWithin K)
  places_within me epoch work all first (place ∷ places) =
      All-cons (SentWithin K) (send_of me epoch work (message_for work (first, place)))
      (map (send_of me epoch work) (map (message_for work) (enumerate_from (first + 1) places)))
      (all _) (places_within me epoch work all (first + 1) places)

  attempt_within : (asked : Work) (node : Node) → CreatesWithin K asked.work
      → All (SentWithin K) (map (send_of node.gateway.me (record { 0 = node.peer.epoch }) asked.work) (attempt_in asked node).messages)
  attempt_within asked node within =
      places_within node.gateway.me (record { 0 = node.peer.epoch }) asked.work (λ index. asked_within asked.work index within) node.sends
      (targets_asked asked.work asked.ended (targets_in node.epochs node.peer.epoch (oid_of asked.work) (policy_of asked.work)))

  -- ---- along a step

  module _ (input : Input) (node : Node) (may : May input node) (named : InputNamesObjects input) (is : IsSoundNode node)
      (asked_within_so : IsInputWithin K input node) (requests_within : AreWithin K node.requests node.sessions) where
    abbrev first : StepState
    first = input_received input (at_first node)

    same_sends : (so_far next : StepState) → next.outputs.sends ≡ so_far.outputs.sends → All (SentWithin K) so_far.outputs.sends
        → All (SentWithin K) next.outputs.sends
    same_sends so_far next same all = subst (All (SentWithin K)) (sym same) all

    -- an open work creates what it may
    opened_within : (so_far : StepState) → Leads input node first so_far → (req : ℕ) (work : Work)
        → tree.get so_far.node.gateway.works req ≡ Some work → CreatesWithin K work.work
    opened_within so_far leads req work got =
        let well = waits_well_in_chain input node may is.one_work is.queues is.sole_commands is.wanted_works so_far leads in
        let within = within_in_chain K input node may is.queues is.sole_commands asked_within_so requests_within so_far leads in
        let range = ((works_sound_in_chain input node may named is so_far leads).open_works req work got).range in
        wanted_within so_far.node.sessions (tree.get so_far.node.requests req) work.work (well.0.open_works req work got) range (within req)
        (well.2 req work.work (inl (work, got, refl)))

    change_sends : (so_far next : StepState) (change : Change input node so_far next)
        → Leads input node first next → All (SentWithin K) so_far.outputs.sends → All (SentWithin K) next.outputs.sends
    change_sends so_far next (changes.Marks req number work attempt status learns over) onward all = all
    change_sends so_far next (changes.Fails session req number work attempt status course ends done why) onward all = all
    change_sends so_far next (changes.Stops session req number work attempt status course bytes ends over) onward all = all
    change_sends so_far next (changes.Refuses session req number work attempt status course cause ends done why) onward all =
        same_sends so_far next
        (refusal_sends_nothing session req cause course (changes.without_ended_work session req work status so_far)).1 all
    change_sends so_far next (changes.Opens session req asked lined comes enough) onward all =
        let before : All (SentWithin K) lined.outputs.sends
        = subst (All (SentWithin K)) (sym (next_sends_nothing so_far session req asked lined comes).1) all in
        let now : Work = record asked { stage = Open (attempt_in asked lined.node) } in
        All-append (SentWithin K) lined.outputs.sends
        (map (send_of lined.node.gateway.me (record { 0 = lined.node.peer.epoch }) asked.work) (attempt_in asked lined.node).messages)
        before
        (attempt_within asked lined.node (opened_within next onward req now (get-insert_same lined.node.gateway.works req now)))
    change_sends so_far next (changes.Holds session req asked lined comes short touched) onward all =
        same_sends so_far next (next_sends_nothing so_far session req asked lined comes).1 all
    change_sends so_far next (changes.Denies session req asked lined request comes short untouched there own) onward all =
        same_sends so_far next
        ((denial_sends_nothing req (Halt (changes.zones_of_members lined.node) (zones_for asked.work)) request
        (changes.without_denied_work session req asked lined)).1
        ∙ (next_sends_nothing so_far session req asked lined comes).1) all
    change_sends so_far next (changes.Strays req work gateway there none apart) onward all = all
    change_sends so_far next (changes.Lines session req work moved steps waits) onward all =
        same_sends so_far next (steps_send_nothing so_far session req (ToWork work) moved steps).1 all
    change_sends so_far next (changes.Appends session req entry moved steps) onward all =
        same_sends so_far next (steps_send_nothing so_far session req (changes.ToEntry entry) moved steps).1 all
    change_sends so_far next (changes.Replies session req reply moved steps) onward all =
        same_sends so_far next
        ((end_sends_nothing session req reply moved).1 ∙ (steps_send_nothing so_far session req (changes.ToReply reply) moved steps).1) all
    change_sends so_far next (changes.Arrives session req ask disk arrival on) onward all = all
    change_sends so_far next (changes.Rejects session req ask cause arrival) onward all = all
    change_sends so_far next (changes.Recovers due) onward all = all

    leads_send : (last : StepState) → Leads input node first last → All (SentWithin K) first.outputs.sends
        → All (SentWithin K) last.outputs.sends
    leads_send last changes.Still all = all
    leads_send last (changes.Then {so_far} {next} leads change) all =
        change_sends so_far next change (changes.Then leads change) (leads_send so_far leads all)

    -- what the step sends
    pub sends_within : All (SentWithin K) first.outputs.sends → All (SentWithin K) (node_step input node).outputs.sends
    sends_within all = leads_send (node_step input node) (step_chain input node) all

    -- and the requests at its end
    pub stay_within : AreWithin K (node_step input node).node.requests (node_step input node).node.sessions
    stay_within =
        within_in_chain K input node may is.queues is.sole_commands asked_within_so requests_within (node_step input node)
        (step_chain input node)
