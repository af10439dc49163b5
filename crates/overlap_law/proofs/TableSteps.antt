-- What is to hold of the inodes that sessions have open, and of those that commands are to open, is so over each change of a node, if it
-- is where an entry is entered, where an inode is read as its disk is opened, and where an id takes the place of its disk.
use Rattle.std.proofs.Common.{◌≡◌, arith, ℕ, true, Bool, List, [], ◌∷◌, ◌++◌, length, Option, Some, sym, ap, subst, ◌∙◌}
use Rattle.std.specs.FinMap as tree
use Rattle.object_id.specs.declared.entry.Entry.{Entry}
use Rattle.object_id.specs.declared.oid.Vid.{Vid}
use Rattle.object_id.specs.Oid.{IsVid}
use Rattle.inode.specs.Layout.{Content}
use Rattle.peer_service.specs.State.{effects_of}
use Rattle.peer_service.specs.LogReading.{decision_on}
use Rattle.vdi_directory.specs.declared.effect.Effect.{Effect}
use Rattle.vdi_directory.specs.declared.header.Header.{Header}
use Rattle.gateway.specs.Attempt.{Attempt}
use Rattle.gateway.specs.State.{Work}
use Rattle.gateway.specs.declared.message.Status.{Status}
use Rattle.guest_driver.specs.declared.disk.Disk.{Disk}
use Rattle.guest_driver.specs.Driver.{begin_driver}
use Rattle.guest_driver.specs.Pieces.{Piece}
use Rattle.guest_driver.specs.PieceWorks.{write_entry, table_with_entry}
use Rattle.vdi_ops.specs.Op.{Opening, Working, Op}
use Rattle.vdi_ops.specs.Steps.{on_decision}
use Rattle.vdi_ops.specs.Tables.{table_in, inode_by}
use Rattle.disk_check.specs.Check.{begin_check}
use Rattle.sheep_node.specs.declared.input.Input.{Input}
use Rattle.sheep_node.specs.declared.input.Input.TheVariants as inputs
use Rattle.sheep_node.specs.declared.course.Course.TheVariants.{Waiting, Driving, Commanding, Checking, DoingWork, AwaitingDecision}
use Rattle.sheep_node.specs.AwaitedEntry.{waits_for_entry}
use Rattle.sheep_node.specs.State.{Node}
use Rattle.sheep_node.specs.StepState.{StepState, session_in}
use Rattle.sheep_node.specs.SessionQueues.{session_among}
use Rattle.sheep_node.specs.Courses.{inode_open}
use Rattle.sheep_node.specs.LogReading.{entry_read}
use Rattle.sheep_node.specs.SoundWorks.{IsSoundWork, HasSoundWorks}
use Rattle.sheep_node.specs.WantedWorks.{IsWorkWanted}
use Rattle.sheep_node.specs.Guests.{queued_as}
use Rattle.sheep_node.specs.Changes.{HasRequest, IsSoundStep, Outcome, EndsWork, without_ended_work}
use Rattle.sheep_node.specs.Changes.{RequestSteps, DiskBegins, DiskGoesOn, CommandBegins, CommandGoesOn, CommandDecided}
use Rattle.sheep_node.specs.Changes.{CheckBegins, CheckGoesOn, ObjectBegins, ObjectIsDone, EntryBegins, EntryDecided}
use Rattle.sheep_node.specs.Changes.{Change}
use Rattle.sheep_node.proofs.SoundChanges.{IsKnown}
use Rattle.sheep_node.proofs.ValidityChanges.{AnySent, disk_valid, course_valid}
use Rattle.overlap_law.proofs.DoneWorks.{wanted, same_disk}
use Rattle.overlap_law.proofs.DriverNames.{driver_begins-stays}
use Rattle.overlap_law.proofs.KnownDisks.{FewAt, known_validity}
use Rattle.overlap_law.proofs.KnownDiskSteps.{AreOnKnown, IsKnownSoFar}
use Rattle.overlap_law.proofs.TableWalk.{IsSoOpen, AreSoFar, TakesOver, open_so, opened_so, session_so, request_so, ended_so, freed_so}
use Rattle.overlap_law.proofs.TableWalk.{sole_so}
use Rattle.overlap_law.proofs.TableWalk.{driven_so, goes_so, commanded_so, command_begins-so, command_goes_on-so, command_decided-so}
use Rattle.sheep_node.proofs.ChangeWalk.{kept_by_steps, change_holds}
use Rattle.overlap_law.proofs.TableWalk.{AreSo as AreTablesSo, lined_so}

-- where the reading of an inode ends, as its disk is opened, it is so of the inode with the table that was read
abbrev pub OpeningsRead : (Content → Type 0) → Input → Node → StepState → Type 0
OpeningsRead T input node so_far =
    (session req number : ℕ) (work : Work) (attempt : Attempt) (status : Status) (op : Op) (bytes : List ℕ) (vid : Vid)
    (snapshot : Bool) (ids : List ℕ) (header : Header)
    → EndsWork input node so_far session req number work attempt status (Commanding op) bytes
    → op.stage ≡ Working vid (Opening snapshot ids header) → T (inode_by header vid.0 (table_in ids header.spec bytes))

module _ (T : Content → Type 0) (known : List Effect) {input : Input} {node : Node} (sound : IsSoundStep input node)
    (read : (entry : Entry) → input ≡ inputs.LogEntry entry → effects_of (entry_read entry node).peer ≡ known) where
  -- what is known beside it where a change begins
  pub record KnowsTables (so_far : StepState) : Type 0 where
    pub waits : IsKnown so_far
    pub sound_here : HasSoundWorks so_far.node
    pub on_known : AreOnKnown known so_far.node
    pub enters : (session req : ℕ) (work : Work) (disk : Disk) (piece : Piece) → tree.get so_far.node.gateway.works req ≡ Some work
        → (session_in session so_far).disk ≡ Some disk → work.work ≡ write_entry disk.inode piece → IsVid disk.inode.vid → FewAt piece
        → T disk.inode → T (table_with_entry disk.inode piece)
    pub openings : OpeningsRead T input node so_far
    pub takes : (entry : Entry) (session req : ℕ) (op : Op) → input ≡ inputs.LogEntry entry → HasRequest session req (Commanding op) so_far
        → waits_for_entry entry (Commanding op) ≡ true
        → TakesOver T known (inode_open (session_in session so_far).disk) (decision_on entry node.peer) op.stage

  abbrev AreSo : StepState → Type 0
  AreSo = AreSoFar T

  known_step : (so_far : StepState) → KnowsTables so_far → IsKnownSoFar known (length so_far.outputs.sends) so_far
  known_step so_far knows = (knows.on_known, record { few = omega arith; sent = λ k d within. tt; to_put = λ k d within. tt })

  steps_so : (so_far : StepState) (session req : ℕ) (next : Outcome) (moved : StepState)
      → RequestSteps input node so_far session req next moved
      → KnowsTables so_far → AreSo so_far → AreSo moved
  steps_so so_far session req next moved (DiskBegins ask disk there on may) knows all =
      let is = subst (IsSoOpen T) on (open_so T session so_far all) in
      driven_so T session req disk (begin_driver disk ask) so_far (subst T (sym (driver_begins-stays disk ask)) is) all
  steps_so so_far session req next moved (DiskGoesOn number work attempt status bytes driver disk step ends on is) knows all =
      let one : IsSoundWork work = knows.sound_here.open_works req work ends.ends.learns.there in
      let here : (session_among session so_far.node.sessions).disk ≡ Some disk
      = sym (same_disk sound so_far session req number work attempt status (Driving driver) bytes ends knows.waits one) ∙ on in
      let wants = subst (λ (o : Option Disk). IsWorkWanted (inode_open o) (Driving driver) work.work) here
      (wanted sound so_far session req number work attempt status (Driving driver) bytes ends knows.waits one) in
      let disk_known = disk_valid (known_validity known) AnySent session so_far disk here (known_step so_far knows) in
      let few = course_valid (known_validity known) AnySent session req (Driving driver) so_far ends.ends.request
      (known_step so_far knows) in
      let was = subst (IsSoOpen T) here (open_so T session so_far all) in
      driven_so T session req disk step (without_ended_work session req work status so_far)
      (goes_so T disk.inode bytes driver step work is was wants few
      (λ piece entering at. knows.enters session req work disk piece ends.ends.learns.there here entering disk_known.disk.id at was))
      (freed_so T session req work status so_far all)
  steps_so so_far session req next moved (CommandBegins ask step arrival is) knows all =
      commanded_so T session req step so_far
      (command_begins-so T so_far.node.me session ask (inode_open (session_in session so_far).disk) step is) all
  steps_so so_far session req next moved (CommandGoesOn number work attempt status bytes op step ends is) knows all =
      commanded_so T session req step (without_ended_work session req work status so_far)
      (command_goes_on-so T bytes op step is (all.courses req (record { session = session; course = Commanding op }) ends.ends.request)
      (λ vid snapshot ids header at.
      knows.openings session req number work attempt status op bytes vid snapshot ids header ends at))
      (freed_so T session req work status so_far all)
  steps_so so_far session req next moved (CommandDecided entry op step from reading there waits is) knows all =
      let same : effects_of so_far.node.peer ≡ known = ap effects_of reading ∙ read entry from in
      let disk = inode_open (session_in session so_far).disk in
      commanded_so T session req step so_far
      (command_decided-so T known disk op step (decision_on entry node.peer) (opened_so T session so_far all)
      (knows.takes entry session req op from there waits)
      (subst (λ (effects : List Effect). on_decision effects disk (decision_on entry node.peer) op ≡ Some step) same is)
      (all.courses req (record { session = session; course = Commanding op }) there)) all
  steps_so so_far session req next moved (CheckBegins inode arrival on) knows all =
      sole_so T session req (Checking (begin_check inode).check) so_far tt all
  steps_so so_far session req next moved (CheckGoesOn number work attempt status bytes check step ends is) knows all =
      sole_so T session req (Checking step.check) (without_ended_work session req work status so_far) tt
      (freed_so T session req work status so_far all)
  steps_so so_far session req next moved (ObjectBegins asked arrival) knows all = sole_so T session req (DoingWork asked) so_far tt all
  steps_so so_far session req next moved (ObjectIsDone number work attempt status bytes asked ends) knows all =
      freed_so T session req work status so_far all
  steps_so so_far session req next moved (EntryBegins entry arrival) knows all =
      sole_so T session req (AwaitingDecision entry) so_far tt all
  steps_so so_far session req next moved (EntryDecided entry awaited from reading there waits) knows all = all

  pub change_so : (so_far next : StepState) → Change input node so_far next → KnowsTables so_far → AreSo so_far → AreSo next
  change_so so_far next change knows all =
      change_holds (AreTablesSo T) (lined_so T) so_far
      (kept_by_steps (AreTablesSo T) (lined_so T) so_far
      (λ session req outcome moved takes. steps_so so_far session req outcome moved takes knows all) (ended_so T)
      (λ session req ask disk arrival on.
      session_so T (tree.insert so_far.node.requests req (record { session = session; course = Waiting ask })) so_far.node.sessions session
      (record (session_in session so_far) { queue = (session_in session so_far).queue ++ queued_as disk.inode.spec.shift req ask ∷ [] })
      (open_so T session so_far all)
      (request_so T so_far.node.requests so_far.node.sessions req session (Waiting ask) tt all))) all next change
