-- Each change of a node leaves its writes going to whole units inside their objects, its reads lying inside theirs, and its open disks with
-- tables of their own chain: so it is in the middle of a step, and at its end.
use Rattle.std.proofs.Common.{◌≡◌, ◌≢◌, ⊎_elim, arith, ℕ, ◌+◌, ◌*◌, List, [], ◌∷◌, length, All, Option, Some, IfSome, IsTrue, refl, sym, ap}
use Rattle.std.proofs.Common.{subst, ◌∙◌}
use Rattle.std.specs.FinMap as tree
use Rattle.std.proofs.lemmas.Bool.{cases_eq}
use Rattle.proof_tools.proofs.Booleans.{cond_either}
use Rattle.object_id.specs.declared.entry.Entry.{Entry}
use Rattle.epoch_log.specs.Appending.{IsReservable}
use Rattle.inode.specs.Layout.{Content}
use Rattle.peer_proto.specs.declared.ask.PeerReq.{PeerReq}
use Rattle.peer_proto.specs.declared.work.ObjWork.{ObjWork}
use Rattle.peer_service.specs.State.{effects_of}
use Rattle.peer_service.specs.LogReading.{decision_on}
use Rattle.vdi_directory.specs.declared.effect.Effect.{Effect}
use Rattle.vdi_directory.specs.Decisions.{log_effects}
use Rattle.gateway.specs.State as gateways
use Rattle.gateway.specs.State.{Work}
use Rattle.gateway.specs.Work.{bytes_of_work}
use Rattle.gateway.proofs.AskingLemmas.{policy_is}
use Rattle.guest_driver.specs.declared.disk.Disk.{Disk}
use Rattle.guest_driver.specs.Driver.{begin_driver}
use Rattle.guest_driver.specs.OnDisk.{IsDriverOn}
use Rattle.guest_driver.specs.Pieces.{is_ask}
use Rattle.guest_driver.proofs.NextLemmas.{stays-on}
use Rattle.disk_check.specs.Check.{begin_check, check_bytes_wanted}
use Rattle.recovery.specs.Steps as recovery_steps
use Rattle.vdi_ops.specs.Op.{OpStep}
use Rattle.vdi_ops.specs.Steps.{on_decision}
use Rattle.sheep_node.specs.declared.ask.Ask.TheVariants as asks
use Rattle.sheep_node.specs.declared.input.Input.{Input}
use Rattle.sheep_node.specs.declared.input.Input.TheVariants as inputs
use Rattle.sheep_node.specs.declared.course.Request.{Request}
use Rattle.sheep_node.specs.declared.course.Course.TheVariants.{Driving, Commanding, Checking, AwaitingDecision, DoingWork}
use Rattle.sheep_node.specs.State.{Node}
use Rattle.sheep_node.specs.StepState.{StepState, at_first, session_in, with_node}
use Rattle.sheep_node.specs.Courses.{inode_open, after_command_step}
use Rattle.sheep_node.specs.DrivenDisks.{IsCourseOn}
use Rattle.sheep_node.specs.LogReading.{entry_read, on_back}
use Rattle.sheep_node.specs.May.{May}
use Rattle.sheep_node.specs.MayBegin.{MayGoOn}
use Rattle.sheep_node.specs.NodeInvariant.{IsSoundNode}
use Rattle.sheep_node.specs.OutsideAsks.{InputNamesObjects}
use Rattle.sheep_node.specs.RecoveryView.{recovery_state_of}
use Rattle.sheep_node.specs.SessionQueues.{session_among}
use Rattle.sheep_node.specs.SoundWorks.{IsSoundWork, work_validity, HasSoundWorks}
use Rattle.sheep_node.specs.Step.{on_request, is_due, with_recovered, recovered_put, recovery_stepped, on_put, on_recover_tick, on_input}
use Rattle.sheep_node.specs.Step.{node_step}
use Rattle.sheep_node.specs.StepFacts.{read_after}
use Rattle.sheep_node.specs.Changes.{IsSoundStep, input_received, without_ended_work, Outcome, ToWork, ToEntry, ToReply, outcome_of_driver}
use Rattle.sheep_node.specs.Changes.{outcome_of_command, outcome_of_check, RequestSteps, DiskBegins, DiskGoesOn, CommandBegins}
use Rattle.sheep_node.specs.Changes.{CommandGoesOn, CommandDecided, CheckBegins, CheckGoesOn, ObjectBegins, ObjectIsDone, EntryBegins}
use Rattle.sheep_node.specs.Changes.{EntryDecided, WorkIsNext, Leads}
use Rattle.sheep_node.proofs.GoingOn.{bytes_for_check}
use Rattle.sheep_node.proofs.KnownChains.{headers_are_sound}
use Rattle.sheep_node.proofs.MessageCounts.{attempt_few}
use Rattle.sheep_node.proofs.NumberChanges.{meets_numbers}
use Rattle.sheep_node.proofs.PeerLog.{entries_reading}
use Rattle.sheep_node.proofs.ReachedSteps.{changes_in}
use Rattle.sheep_node.proofs.SoundChanges.{IsKnown, IsSoundInput}
use Rattle.sheep_node.proofs.SoundCommands.{HeadersAreSound, command_begins-sound, command_goes_on-sound, command_decided-sound}
use Rattle.sheep_node.proofs.SoundLaws.{known as known_in_step, works_sound_in_chain, input_sound}
use Rattle.sheep_node.proofs.SoundSteps.{IsSoundOutcome, driver_begins-sound, driver_goes_on-sound, check_begins-sound, check_goes_on-sound}
use Rattle.sheep_node.proofs.StepChain.{step_chain}
use Rattle.sheep_node.proofs.StepResults.{step_reads}
use Rattle.sheep_node.proofs.ValidLaws.{reservable_after, valid_input}
use Rattle.sheep_node.proofs.ValidityChanges as walk
use Rattle.sheep_node.proofs.ValidityChanges.{AnySent, IsValidOutcomeBy, IsValidStepBy, IsKeptBy, session_valid, disk_valid, inode_valid}
use Rattle.sheep_node.proofs.ValidityChanges.{course_valid, sole_put, freed_valid, driven_valid, commanded_valid}
use Rattle.sheep_node.proofs.WantedSteps.{driver_begins-wanted, driver_goes_on-wanted}
use Rattle.overlap_law.proofs.ChainTables.{above_later, HasChains, log_chains}
use Rattle.overlap_law.proofs.DoneWorks.{bytes_long, wanted, goes_on, same_disk}
use Rattle.overlap_law.proofs.GrantedEpochs.{spec_stays}
use Rattle.overlap_law.proofs.KnownDisks.{known_validity, driver_begins-known, driver_goes_on-known}
use Rattle.overlap_law.proofs.KnownDiskSteps.{AreOnKnown, IsKnownSoFar, IsKnownInput, effects_after, step_known}
use Rattle.overlap_law.proofs.WholeCommands.{command_begins-whole, command_goes_on-whole, command_decided-whole}
use Rattle.overlap_law.proofs.ReadWorks.{IsReadOutcome, driver_begins-inside, driver_goes_on-inside, check_begins-inside}
use Rattle.overlap_law.proofs.ReadWorks.{check_goes_on-inside, ReadsOn}
use Rattle.overlap_law.proofs.ReadCommands.{IsReadCommandStep, command_begins-inside, command_goes_on-inside, command_decided-inside}
use Rattle.overlap_law.proofs.ReadCommands.{left_tabled}
use Rattle.overlap_law.proofs.PlacesTaken.{PlacesAreTaken}
use Rattle.overlap_law.proofs.WholeNodes.{IsWholeWork, whole_validity, AreWholeOn, IsWholeSoFar, whole_grows, none_whole}
use Rattle.overlap_law.proofs.WholeWorks.{IsWholeOutcome, driver_whole, check_begins-whole, check_goes_on-whole, begins_on, WritesWhole}

-- what is known beside it in the middle of a step: works are those that requests wait for, what is at work is sound, and on known disks;
-- and an id takes the place of the disk that is open
pub record IsWellKnown (known : List Effect) (input : Input) (node : Node) (so_far : StepState) : Type 0 where
  pub waits : IsKnown so_far
  pub sound : HasSoundWorks so_far.node
  pub on_known : AreOnKnown known so_far.node
  pub taken : PlacesAreTaken known input node so_far

-- ---- a change of a node

module _ (known : List Effect) where
  all_of : (outcome : Outcome) → IsSoundOutcome outcome → IsWholeOutcome known outcome → IsReadOutcome known outcome
      → IsValidOutcomeBy (whole_validity known) outcome
  all_of (ToWork work) sound whole inside = (sound, whole, inside)
  all_of (ToEntry entry) sound whole inside = tt
  all_of (ToReply reply) sound whole inside = tt

  -- the other senses of valid, of a step
  sound_here : {input : Input} {node : Node} {most : ℕ} (so_far : StepState) → IsWellKnown known input node so_far
      → IsWholeSoFar known most so_far → IsValidStepBy work_validity AnySent most so_far
  sound_here so_far well all = (well.sound, record { few = all.1.few; sent = λ k d within. tt; to_put = λ k d within. tt })

  known_here : {input : Input} {node : Node} {most : ℕ} (so_far : StepState) → IsWellKnown known input node so_far
      → IsWholeSoFar known most so_far → IsKnownSoFar known most so_far
  known_here so_far well all = (well.on_known, record { few = all.1.few; sent = λ k d within. tt; to_put = λ k d within. tt })

  commanded : {most : ℕ} (session req : ℕ) (step : OpStep) (so_far : StepState) → IsSoundOutcome (outcome_of_command step.act)
      → IsWholeOutcome known (outcome_of_command step.act) → IsReadCommandStep known step → IsWholeSoFar known most so_far
      → IsWholeSoFar known most (after_command_step session req step so_far)
      × IsValidOutcomeBy (whole_validity known) (outcome_of_command step.act)
  commanded session req step so_far sound whole inside all = (
    commanded_valid (whole_validity known) AnySent session req step so_far inside.stage
        (left_tabled known step.op.stage (session_in session so_far).disk inside.stage
        (session_valid (whole_validity known) AnySent session so_far all).disk) all,
    all_of (outcome_of_command step.act) sound whole inside.outcome,
  )

  module _ {input : Input} {node : Node} (sound : IsSoundStep input node)
      (read : (entry : Entry) → input ≡ inputs.LogEntry entry → effects_of (entry_read entry node).peer ≡ known)
      (headers : HeadersAreSound known) (chains : HasChains known) (asked : IsSoundInput input)
      (none : (req session : ℕ) (work : ObjWork) → input ≡ inputs.Guest req session (asks.Object work) → WritesWhole known work
      × ReadsOn known work) where
    steps_whole : (most : ℕ) (so_far : StepState) (session req : ℕ) (next : Outcome) (moved : StepState)
        → RequestSteps input node so_far session req next moved → IsWellKnown known input node so_far → IsWholeSoFar known most so_far
        → IsWholeSoFar known most moved × IsValidOutcomeBy (whole_validity known) next
    steps_whole most so_far session req next moved (DiskBegins ask disk there on may) well all =
        let whole : IsTrue (is_ask ask)
        = subst (λ (o : Option Request). IfSome o (λ (request : Request). IsCourseOn
        (inode_open (session_among request.session so_far.node.sessions).disk) request.course)) there (well.waits.1 req) in
        let so = driver_begins-sound disk ask
        (disk_valid work_validity AnySent session so_far disk on (sound_here so_far well all)) whole in
        let at = driver_begins-known known disk ask
        (disk_valid (known_validity known) AnySent session so_far disk on (known_here so_far well all)) whole in
        let inside = driver_begins-inside known chains disk ask
        (disk_valid (known_validity known) AnySent session so_far disk on (known_here so_far well all))
        (disk_valid (whole_validity known) AnySent session so_far disk on all) whole in
        let step = begin_driver disk ask in (
          driven_valid (whole_validity known) AnySent session req disk step so_far inside.table tt all,
          all_of (outcome_of_driver step.act) so.outcome
              (driver_whole known step.inode at.inode step.driver step.act at.few (begins_on disk ask whole) so.blocks
              (driver_begins-wanted disk ask).act) inside.outcome,
        )
    steps_whole most so_far session req next moved (DiskGoesOn number work attempt status bytes driver disk step ends on is) well all =
        let one : IsSoundWork work = well.sound.open_works req work ends.ends.learns.there in
        let freed : StepState = without_ended_work session req work status so_far in
        let now = freed_valid (whole_validity known) AnySent session req work status so_far all in
        let here : (session_among session so_far.node.sessions).disk ≡ Some disk
        = sym (same_disk sound so_far session req number work attempt status (Driving driver) bytes ends well.waits one) ∙ on in
        let may = subst (λ (o : Option Disk). MayGoOn (inode_open o) (Driving driver) bytes) here
        (goes_on sound so_far session req number work attempt status (Driving driver) bytes ends well.waits one) in
        let so = driver_goes_on-sound disk.inode bytes driver step is
        (disk_valid work_validity AnySent session so_far disk here (sound_here so_far well all)) may.1
        (course_valid work_validity AnySent session req (Driving driver) so_far ends.ends.request (sound_here so_far well all)) may.0 in
        let disk_known = disk_valid (known_validity known) AnySent session so_far disk here (known_here so_far well all) in
        let few = course_valid (known_validity known) AnySent session req (Driving driver) so_far ends.ends.request
        (known_here so_far well all) in
        let at = driver_goes_on-known known disk.inode bytes driver step is disk_known few in
        let inside = driver_goes_on-inside known chains disk.inode bytes driver step is disk_known
        (disk_valid (whole_validity known) AnySent session so_far disk here all) few may.1 in
        let wanted = driver_goes_on-wanted disk.inode bytes driver step is in
        let still : IsDriverOn step.inode step.driver
        = stays-on disk.inode step.inode bytes driver step.driver step.act may.1 wanted.spec is in (
          driven_valid (whole_validity known) AnySent session req disk step freed inside.table tt now,
          all_of (outcome_of_driver step.act) so.outcome
              (driver_whole known step.inode at.inode step.driver step.act at.few still so.blocks wanted.act) inside.outcome,
        )
    steps_whole most so_far session req next moved (CommandBegins ask step arrival is) well all =
        let disk = inode_open (session_in session so_far).disk in
        commanded session req step so_far
        (command_begins-sound so_far.node.me session ask disk step is (subst IsSoundInput arrival.from asked)).outcome
        (command_begins-whole known so_far.node.me session ask disk step is)
        (command_begins-inside known so_far.node.me session ask disk step is) all
    steps_whole most so_far session req next moved (CommandGoesOn number work attempt status bytes op step ends is) well all =
        let one : IsSoundWork work = well.sound.open_works req work ends.ends.learns.there in
        let stage = course_valid work_validity AnySent session req (Commanding op) so_far ends.ends.request (sound_here so_far well all) in
        let wants = goes_on sound so_far session req number work attempt status (Commanding op) bytes ends well.waits one in
        commanded session req step (without_ended_work session req work status so_far)
        (command_goes_on-sound bytes op step is stage wants).outcome
        (command_goes_on-whole known bytes op step is
        (course_valid (known_validity known) AnySent session req (Commanding op) so_far ends.ends.request
        (known_here so_far well all)) stage wants)
        (command_goes_on-inside known bytes op step is
        (course_valid (whole_validity known) AnySent session req (Commanding op) so_far ends.ends.request all))
        (freed_valid (whole_validity known) AnySent session req work status so_far all)
    steps_whole most so_far session req next moved (CommandDecided entry op step from reading there waits is) well all =
        let effects = effects_of so_far.node.peer in
        let same : effects ≡ known = ap effects_of reading ∙ read entry from in
        let disk = inode_open (session_in session so_far).disk in
        let stage = course_valid work_validity AnySent session req (Commanding op) so_far there (sound_here so_far well all) in
        commanded session req step so_far
        (command_decided-sound effects disk op step (subst HeadersAreSound (sym same) headers)
        (inode_valid work_validity AnySent session so_far (sound_here so_far well all)) (decision_on entry node.peer) is stage).outcome
        (command_decided-whole known effects op disk step
        (inode_valid (known_validity known) AnySent session so_far (known_here so_far well all))
        (decision_on entry node.peer) is stage)
        (command_decided-inside known chains disk op step (decision_on entry node.peer)
        (inode_valid (known_validity known) AnySent session so_far (known_here so_far well all))
        (inode_valid (whole_validity known) AnySent session so_far all) (well.taken entry session req op from there waits)
        (subst (λ (effects : List Effect). on_decision effects disk (decision_on entry node.peer) op ≡ Some step) same is)
        (course_valid (whole_validity known) AnySent session req (Commanding op) so_far there all)) all
    steps_whole most so_far session req next moved (CheckBegins inode arrival on) well all =
        let so = check_begins-sound inode
        (subst (λ (o : Option Content). IfSome o work_validity.inode) on
        (inode_valid work_validity AnySent session so_far (sound_here so_far well all))) in
        let disk_known = subst (λ (o : Option Content). IfSome o (known_validity known).inode) on
        (inode_valid (known_validity known) AnySent session so_far (known_here so_far well all)) in (
          sole_put (whole_validity known) AnySent session req (Checking (begin_check inode).check) so_far tt all,
          all_of (outcome_of_check (begin_check inode).act) so.outcome (check_begins-whole known inode)
              (check_begins-inside known inode disk_known),
        )
    steps_whole most so_far session req next moved (CheckGoesOn number work attempt status bytes check step ends is) well all =
        let one : IsSoundWork work = well.sound.open_works req work ends.ends.learns.there in
        let here = course_valid work_validity AnySent session req (Checking check) so_far ends.ends.request (sound_here so_far well all) in
        let given : length bytes ≡ bytes_of_work work.work
        = bytes_long sound so_far session req number work attempt status (Checking check) bytes ends well.waits one in
        let waits : check_bytes_wanted check ≡ Some (length bytes)
        = bytes_for_check check check.stage work.work
        (wanted sound so_far session req number work attempt status (Checking check) bytes ends well.waits one) refl here ∙ ap Some
        (sym given) in
        let so = check_goes_on-sound bytes check step is here waits in
        let on_disk = course_valid (known_validity known) AnySent session req (Checking check) so_far ends.ends.request
        (known_here so_far well all) in (
          sole_put (whole_validity known) AnySent session req (Checking step.check) (without_ended_work session req work status so_far) tt
              (freed_valid (whole_validity known) AnySent session req work status so_far all),
          all_of (outcome_of_check step.act) so.outcome (check_goes_on-whole known bytes check step is on_disk waits)
              (check_goes_on-inside known bytes check step is on_disk),
        )
    steps_whole most so_far session req next moved (ObjectBegins work arrival) well all =
        let whole = none req session work arrival.from in (
          sole_put (whole_validity known) AnySent session req (DoingWork work) so_far tt all,
          (subst IsSoundInput arrival.from asked, whole.0, whole.1),
        )
    steps_whole most so_far session req next moved (ObjectIsDone number work attempt status bytes done ends) well all =
        (freed_valid (whole_validity known) AnySent session req work status so_far all, tt)
    steps_whole most so_far session req next moved (EntryBegins entry arrival) well all =
        (sole_put (whole_validity known) AnySent session req (AwaitingDecision entry) so_far tt all, tt)
    steps_whole most so_far session req next moved (EntryDecided entry awaited from reading there waits) well all = (all, tt)

    works_are_kept : IsKeptBy (whole_validity known) AnySent input node (IsWellKnown known input node)
    works_are_kept = record {
      steps = steps_whole;
      arrives = λ so_far session req ask arrival. tt;
      asks = λ work is. is;
      marks = λ so_far req number work attempt status learns well is. is;
      fails = λ work is. is;
      opens = λ asked node is short. is;
      holds = λ asked epoch is. is;
      strays = λ so_far req work gateway there none apart well all q now got. ⊎_elim
          (λ (own : q ≡ req).
          let (was, before, same) = apart.same now (ap (tree.get gateway.works) (sym own) ∙ got) in
          subst (IsWholeWork known) (sym same) (all req was before))
          (λ (other : q ≢ req). all q now (sym (apart.others q other) ∙ got))
          (cases_eq q req);
      few = λ asked node is. attempt_few asked node (policy_is asked.work is.0.is_work);
      sends = λ req asked lined later is k d within. tt;
      unlocks = λ by session vid. tt;
      recovers = λ me epoch. tt;
    }

    -- along a chain
    pub whole_in_chain : {first so_far : StepState} → ((here : StepState) → Leads input node first here → IsWellKnown known input node here)
        → (leads : Leads input node first so_far) → AreWholeOn known first.node
        → IsWholeSoFar known (31 * changes_in leads + length first.outputs.sends) so_far
    whole_in_chain {first} {so_far} well leads all =
        walk.chain_valid (whole_validity known) AnySent (length first.outputs.sends) (changes_in leads) works_are_kept
        (λ here before short. well here before) leads (omega arith)
        (all, record { few = omega arith; sent = λ k d within. tt; to_put = λ k d within. tt })

    -- and a work whose turn has come
    pub next_whole : {most : ℕ} (so_far : StepState) (session req : ℕ) (asked : Work) (lined : StepState)
        → WorkIsNext input node so_far session req asked lined → IsWellKnown known input node so_far → IsWholeSoFar known most so_far
        → IsWholeWork known asked.work
    next_whole so_far session req asked lined comes well all =
        (walk.next_valid (whole_validity known) AnySent works_are_kept so_far session req asked lined comes well all).1

-- ---- a step

received_whole : (input : Input) (node : Node) → AreWholeOn (effects_of node.peer) node
    → AreWholeOn (effects_after input node) (input_received input (at_first node)).node
unfolding entry_read on_request on_recover_tick on_back
received_whole (inputs.Guest req session ask) node all = all
received_whole (inputs.Request request) node all = all
received_whole (inputs.Reply rsp) node all =
    cond_either (λ (start : StepState). AreWholeOn (effects_of node.peer) start.node) (gateways.gateway_awaits rsp.number node.gateway)
    (at_first node)
    (recovery_stepped (recovery_steps.recovery_on_reply rsp (recovery_state_of node)) (at_first node)) all all
received_whole (inputs.Lost number) node all =
    cond_either (λ (start : StepState). AreWholeOn (effects_of node.peer) start.node) (gateways.gateway_awaits number node.gateway)
    (at_first node)
    (recovery_stepped (recovery_steps.recovery_on_loss number (recovery_state_of node)) (at_first node)) all all
received_whole (inputs.LogEntry entry) node all =
    whole_grows (effects_of node.peer) (effects_after (inputs.LogEntry entry) node)
    (λ vid spec is. spec_stays node.peer.entries (entry ∷ []) vid spec is) (above_later node.peer.entries (entry ∷ [])) node all
received_whole inputs.Put node all = by_outbox node.outbox
  where
    by_outbox : (outbox : List Entry) → AreWholeOn (effects_of node.peer) (on_put outbox (at_first node)).node
    by_outbox [] = all
    by_outbox (entry ∷ later) = all
received_whole inputs.RecoverTick node all = all
received_whole inputs.RetryTick node all = all
received_whole (inputs.Back entries) node all = none_whole (effects_after (inputs.Back entries) node)

module _ (input : Input) (node : Node) (may : May input node) (named : InputNamesObjects input) (is : IsSoundNode node)
    (brought : IsKnownInput (effects_after input node) input)
    (none : (req session : ℕ) (work : ObjWork) → input ≡ inputs.Guest req session (asks.Object work)
    → WritesWhole (effects_after input node) work × ReadsOn (effects_after input node) work)
    (on_known : AreOnKnown (effects_of node.peer) node)
    (taken : (so_far : StepState) → Leads input node (input_received input (at_first node)) so_far
    → PlacesAreTaken (effects_after input node) input node so_far)
    (all : AreWholeOn (effects_of node.peer) node) where
  reservable : All IsReservable (read_after input node.peer.entries)
  reservable = reservable_after input node.peer.entries (valid_input input node may.condition is.valid_disks.read) is.valid_disks.read

  pub read_so : (entry : Entry) → input ≡ inputs.LogEntry entry → effects_of (entry_read entry node).peer ≡ effects_after input node
  read_so entry from =
      ap log_effects
      (entries_reading entry node ∙ sym (ap (λ (input : Input). read_after input node.peer.entries) from))

  -- the headers of what it has read are those of inodes
  pub headers_after : HeadersAreSound (effects_after input node)
  headers_after = headers_are_sound (read_after input node.peer.entries) reservable

  pub well : (so_far : StepState) → Leads input node (input_received input (at_first node)) so_far
      → IsWellKnown (effects_after input node) input node so_far
  well so_far leads = record {
    waits = known_in_step input node may named is so_far leads;
    sound = works_sound_in_chain input node may named is so_far leads;
    on_known = (step_known input node reservable brought on_known so_far leads).0;
    taken = taken so_far leads;
  }

  so_far_whole : (so_far : StepState) (leads : Leads input node (input_received input (at_first node)) so_far)
      → IsWholeSoFar (effects_after input node) (31 * changes_in leads + length (input_received input (at_first node)).outputs.sends) so_far
  so_far_whole so_far leads =
      whole_in_chain (effects_after input node) (meets_numbers input node may.condition, is.one_work) read_so
      (headers_are_sound (read_after input node.peer.entries) reservable) (log_chains (read_after input node.peer.entries) reservable)
      (input_sound input node may.condition named is.valid_disks.read) none
      well leads (received_whole input node all)

  -- so the table of an open disk has none but the ids of its chain
  pub tables_so_far : (so_far : StepState) → Leads input node (input_received input (at_first node)) so_far
      → AreWholeOn (effects_after input node) so_far.node
  tables_so_far so_far leads = (so_far_whole so_far leads).0

  -- a work whose turn has come in the middle of it
  pub turn_whole : (so_far : StepState) → Leads input node (input_received input (at_first node)) so_far
      → (session req : ℕ) (work : Work) (lined : StepState)
      → WorkIsNext input node so_far session req work lined → IsWholeWork (effects_after input node) work.work
  turn_whole so_far leads session req work lined comes =
      next_whole (effects_after input node) (meets_numbers input node may.condition, is.one_work) read_so
      (headers_are_sound (read_after input node.peer.entries) reservable) (log_chains (read_after input node.peer.entries) reservable)
      (input_sound input node may.condition named is.valid_disks.read) none
      so_far session req work lined comes (well so_far leads) (so_far_whole so_far leads)

  -- and at its end
  pub stepped_whole : AreWholeOn (effects_of (node_step input node).node.peer) (node_step input node).node
  stepped_whole =
      subst (λ (entries : List Entry). AreWholeOn (log_effects entries) (node_step input node).node)
      (sym (step_reads input node)) (so_far_whole (node_step input node) (step_chain input node)).0

-- ---- a request that is served, and a node that comes back

due_whole : (known : List Effect) (so_far : StepState) → AreWholeOn known so_far.node → AreWholeOn known (recovered_put so_far).node
unfolding recovered_put
due_whole known so_far is =
    cond_either (λ (now : StepState). AreWholeOn known now.node) (is_due so_far.node) (with_recovered so_far) so_far is is

served_by : (known : List Effect) (request : PeerReq) (node : Node) → AreWholeOn known node
    → AreWholeOn known (node_step (inputs.Request request) node).node
unfolding node_step on_input on_request
served_by known request node is = due_whole known (on_request request (at_first node)) is

pub served_whole : (request : PeerReq) (node : Node) → AreWholeOn (effects_of node.peer) node
    → AreWholeOn (effects_of (node_step (inputs.Request request) node).node.peer) (node_step (inputs.Request request) node).node
served_whole request node is =
    subst (λ (entries : List Entry). AreWholeOn (log_effects entries) (node_step (inputs.Request request) node).node)
    (sym (step_reads (inputs.Request request) node)) (served_by (effects_of node.peer) request node is)

pub back_whole : (known : List Effect) (entries : List Entry) (node : Node) → AreWholeOn known (node_step (inputs.Back entries) node).node
unfolding node_step on_input on_back
back_whole known entries node = due_whole known (with_node (on_back entries node) (at_first node)) (none_whole known)
