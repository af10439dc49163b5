-- In each world of a run in range an id that is granted to take the place of a disk is the child of the one that its session has open.
use Rattle.std.proofs.Common.{◌≡◌, arith, ℕ, ◌+◌, ◌==◌, Bool, true, false, cond, List, [], ◌∷◌, ◌++◌, take, drop, length, is_some, Option}
use Rattle.std.proofs.Common.{Some, None, refl, sym, ap, subst, ◌∙◌}
use Rattle.std.specs.FinMap as tree
use Rattle.std.specs.Option.{option_map_or}
use Rattle.std.proofs.lemmas.Bool.{eqb-true}
use Rattle.std.proofs.lemmas.List.{take-append-drop}
use Rattle.std.proofs.lemmas.Option.{same_Some}
use Rattle.object_id.specs.declared.entry.Entry.{Entry}
use Rattle.object_id.specs.declared.entry.Entry.TheVariants.{Reserve}
use Rattle.object_id.specs.declared.entry.Origin.TheVariants.{SnapshotOf}
use Rattle.object_id.specs.declared.node.NodeId.{NodeId}
use Rattle.object_id.specs.declared.oid.Vid.{Vid}
use Rattle.object_id.specs.Same.{is_same_entry}
use Rattle.epoch_log.specs.Epochs.{epoch_of}
use Rattle.inode.specs.Layout.{Content}
use Rattle.cluster_script.specs.declared.statement.Statement.{Statement}
use Rattle.vdi_directory.specs.declared.decision.Decision.TheVariants as decisions
use Rattle.vdi_directory.specs.declared.effect.Source.TheVariants as sources
use Rattle.vdi_directory.specs.declared.effect.Effect.{Effect}
use Rattle.vdi_directory.specs.declared.effect.Reservation.{Reservation}
use Rattle.vdi_directory.specs.Decisions.{log_effects, decision_after}
use Rattle.vdi_directory.specs.Effects.{is_used, name_of, reservations_of, reservation_on}
use Rattle.vdi_directory.specs.References.{header_parent, parent_of}
use Rattle.vdi_directory.specs.Sources.{tag_for}
use Rattle.vdi_directory.proofs.KnownLemmas.{snapshot-granted}
use Rattle.vdi_directory.proofs.LineLemmas.{line-log_effects}
use Rattle.peer_service.specs.LogReading.{decision_on}
use Rattle.guest_driver.specs.declared.disk.Disk.{Disk}
use Rattle.vdi_ops.specs.Op.{OpStage, Asked, entry_wanted_at, Op}
use Rattle.sheep_node.specs.declared.course.Course.TheVariants.{Commanding}
use Rattle.sheep_node.specs.declared.input.Input.{Input}
use Rattle.sheep_node.specs.declared.input.Input.TheVariants as inputs
use Rattle.sheep_node.specs.AwaitedEntry.{waits_for_entry}
use Rattle.sheep_node.specs.Changes.{HasRequest, input_received, Leads}
use Rattle.sheep_node.specs.Courses.{inode_open}
use Rattle.sheep_node.specs.State.{Node}
use Rattle.sheep_node.specs.StepFacts.{read_after}
use Rattle.sheep_node.specs.StepState.{StepState, at_first, session_in}
use Rattle.sheep_world.specs.World.{Host, World, is_host_up}
use Rattle.sheep_world.specs.Began.{Began}
use Rattle.sheep_world.specs.NodeCauses.{NodeCause, input_of_cause, IsCause, log_after_cause}
use Rattle.overlap_law.specs.CommandDisks.{opened_as, opened_in}
use Rattle.overlap_law.specs.MomentChanges.{RunsAreInRange}
use Rattle.overlap_law.specs.WriterClaims.{HasPlace, IsStageKept}
use Rattle.overlap_law.proofs.ClaimRequests.{IsReadOf}
use Rattle.overlap_law.proofs.ClaimsInRuns.{reads, together_so_far, up_not_lost, claimed_in_worlds}
use Rattle.overlap_law.proofs.CountedEntries.{same_entry}
use Rattle.overlap_law.proofs.GrantedIds.{reservation_given}
use Rattle.overlap_law.proofs.KnownDiskSteps.{effects_after}
use Rattle.overlap_law.proofs.KnownTables.{held_is}
use Rattle.overlap_law.proofs.OldReservations.{reservation_was}
use Rattle.overlap_law.proofs.ReadCommands.{TakesPlace}

-- so it is in the middle of a step: where a command's entry is decided
abbrev pub PlacesAreTaken : List Effect → Input → Node → StepState → Type 0
PlacesAreTaken known input node so_far = (entry : Entry) (session req : ℕ) (op : Op) → input ≡ inputs.LogEntry entry
    → HasRequest session req (Commanding op) so_far → waits_for_entry entry (Commanding op) ≡ true
    → TakesPlace known (inode_open (session_in session so_far).disk) (decision_on entry node.peer) op.stage

-- an id that may be published for a disk was reserved for that
for_disk : (old : Vid) (tag other : List ℕ) (of : ℕ) → tag_for (record { 0 = of }) (sources.Snapshot old tag) ≡ Some other → old.0 ≡ of
for_disk old tag other of = by_test (old.0 == of) refl
  where
    by_test : (b : Bool) → (old.0 == of) ≡ b → cond b (Some tag) None ≡ Some other → old.0 ≡ of
    by_test true same is = eqb-true old.0 of same
    by_test false apart is = absurd (cc (is))

-- the id that is granted for a snapshot is the child of the disk that its reservation says, also by all of the log
module _ (entries later : List Entry) (by : NodeId) (session : ℕ) (name tag : List ℕ) (vid : Vid)
    (granted : decision_after entries (Reserve by session name (SnapshotOf tag)) ≡ decisions.Granted vid) where
  abbrev read : List Entry
  read = entries ++ Reserve by session name (SnapshotOf tag) ∷ []

  child_of : (outbox : List Entry) (me : NodeId) (own epoch old : ℕ) → HasPlace (read ++ later) outbox me own epoch vid.0 old
      → (parent : Vid) × (parent_of (log_effects read) vid.0 ≡ Some parent) × (parent.0 ≡ old)
  child_of outbox me own epoch old place =
      let from = snapshot-granted entries by session name vid tag granted in
      let given = reservation_given entries by session name (SnapshotOf tag) vid granted in
      let used : is_used (log_effects read) vid.0 ≡ true = (line-log_effects read).known vid.0 ∙ ap is_some from.2 in
      let stood : reservation_on vid (reservations_of (log_effects read)) ≡ Some place.has.reservation
      = reservation_was read later vid.0 place.has.reservation used place.has.found in
      let same : given.reservation ≡ place.has.reservation = same_Some given.reservation place.has.reservation (sym given.found ∙ stood) in
      let source : place.has.reservation.source ≡ sources.Snapshot given.source.0 tag
      = ap (λ (r : Reservation). r.source) (sym same) ∙ given.source.2 in
      let is_old : given.source.0.0 ≡ old
      = for_disk given.source.0 tag place.place.0 old (ap (tag_for (record { 0 = old })) (sym source) ∙ place.place.1) in
      let parent : Vid = from.1 in
      let one : parent ≡ given.source.0
      = same_Some parent given.source.0
      (sym (held_is (log_effects entries) by session (name_of (log_effects entries) name).working parent from.4) ∙ given.source.1) in
      (parent, ap header_parent from.2 ∙ from.3, ap (λ (v : Vid). v.0) one ∙ is_old)

-- the id of an open inode is that of its disk, as others see it
opened_id : (disk : Option Disk) (inode : Content) (id of : ℕ) → id ≡ of → inode_open disk ≡ Some inode → opened_as disk ≡ Some (false, of)
    → id ≡ inode.vid
opened_id None inode id of same is opened = absurd (cc (is))
opened_id (Some disk) inode id of same is opened =
    let one : disk.inode ≡ inode = same_Some disk.inode inode is in
    let both : (disk.snapshot, disk.inode.vid) ≡ (false, of) = same_Some (disk.snapshot, disk.inode.vid) (false, of) opened in
    same ∙ sym (ap (λ (p : Bool × ℕ). p.1) both) ∙ ap (λ (c : Content). c.vid) one

-- an entry that a command waits for as its first one
first_is : (entry asked : Entry) (op : Op) → op.stage ≡ Asked asked → waits_for_entry entry (Commanding op) ≡ true → asked ≡ entry
first_is entry asked op at waits =
    same_entry asked entry
    (ap (λ (stage : OpStage). option_map_or (λ (wanted : Entry). is_same_entry wanted entry) (entry_wanted_at stage) false) (sym at)
    ∙ waits)

-- where the entry that is read is no snapshot's, no id is to take a place
pub none_asked : (known : List Effect) (input : Input) (node : Node) (so_far : StepState)
    → ((entry : Entry) → input ≡ inputs.LogEntry entry → (by : NodeId) (of : ℕ) (name tag : List ℕ)
    → Reserve by of name (SnapshotOf tag) ≡ entry → ⊥) → PlacesAreTaken known input node so_far
none_asked known input node so_far none entry session req op brings got waits by of name tag vid old at granted opened =
    absurd (none entry brings by of name tag (first_is entry (Reserve by of name (SnapshotOf tag)) op at waits))

module _ (script : List Statement) (range : RunsAreInRange script) (world : World) (began : Began script world) (n : ℕ) (host : Host)
    (there : tree.get world.hosts n ≡ Some host) (up : is_host_up host ≡ true) (cause : NodeCause)
    (caused : IsCause script world n host cause) (so_far : StepState)
    (leads : Leads (input_of_cause cause) host.node (input_received (input_of_cause cause) (at_first host.node)) so_far) where
  abbrev input : Input
  input = input_of_cause cause

  abbrev log : List Entry
  log = log_after_cause cause world.log

  abbrev from : ℕ
  from = length host.node.peer.entries

  knows : IsReadOf log (read_after input host.node.peer.entries) (drop (length (read_after input host.node.peer.entries)) log) from input
      host.node
  knows =
      reads script range world began n host there up (up_not_lost script range host up) (claimed_in_worlds script range world began) cause
      caused

  -- by the entry its session has the id, in the place of what it has open
  module _ (by : NodeId) (of : ℕ) (name tag : List ℕ) (vid : Vid) (session req : ℕ) (op : Op)
      (got : HasRequest session req (Commanding op) so_far)
      (at : op.stage ≡ Asked (Reserve by of name (SnapshotOf tag))) (brings : input ≡ inputs.LogEntry (Reserve by of name (SnapshotOf tag)))
      (granted : decision_after host.node.peer.entries (Reserve by of name (SnapshotOf tag)) ≡ decisions.Granted vid) where
    abbrev asked : Entry
    asked = Reserve by of name (SnapshotOf tag)

    abbrev entries : List Entry
    entries = host.node.peer.entries

    abbrev IsKept : OpStage → Type 0
    IsKept =
        IsStageKept log so_far.node.outbox (read_after input entries) from host.node.me session (opened_in session so_far.node.sessions)

    kept : IsKept op.stage
    kept =
        (together_so_far script range world began n host there up (up_not_lost script range host up)
        (claimed_in_worlds script range world began) cause caused so_far leads).claims.commands req
        (record { session = session; course = Commanding op }) op got refl

    place_kept : (old : ℕ) × (opened_in session so_far.node.sessions ≡ Some (false, old))
        × HasPlace log so_far.node.outbox host.node.me session (epoch_of (take (from + 1) log)) vid.0 old
    place_kept =
        (subst IsKept at kept).granted from (omega arith) (knows.got asked brings) vid
        (ap (λ (front : List Entry). decision_after front asked) (knows.before asked brings) ∙ granted)

    read_so : read_after input entries ≡ entries ++ asked ∷ []
    read_so = ap (λ (i : Input). read_after i entries) brings

    whole : log ≡ (entries ++ asked ∷ []) ++ drop (from + 1) log
    whole =
        sym (take-append-drop (from + 1) log)
        ∙ ap (λ (front : List Entry). front ++ drop (from + 1) log) (knows.upto asked brings ∙ read_so)

    child : (parent : Vid) × (parent_of (log_effects (entries ++ asked ∷ [])) vid.0 ≡ Some parent) × (parent.0 ≡ place_kept.0)
    child =
        child_of entries (drop (from + 1) log) by of name tag vid granted so_far.node.outbox host.node.me session
        (epoch_of (take (from + 1) log)) place_kept.0
        (subst
        (λ (all : List Entry). HasPlace all so_far.node.outbox host.node.me session (epoch_of (take (from + 1) log)) vid.0 place_kept.0)
        whole place_kept.2)

    is_child : (old : Content) → inode_open (session_in session so_far).disk ≡ Some old
        → (parent : Vid) × (parent_of (effects_after input host.node) vid.0 ≡ Some parent) × (parent.0 ≡ old.vid)
    is_child old opened = (
      child.0,
      ap (λ (all : List Entry). parent_of (log_effects all) vid.0) read_so ∙ child.1,
      opened_id (session_in session so_far).disk old child.0.0 place_kept.0 child.2 opened place_kept.1,
    )

  pub places_taken : PlacesAreTaken (effects_after input host.node) input host.node so_far
  places_taken entry session req op brings got waits by of name tag vid old at granted opened =
      let same : Reserve by of name (SnapshotOf tag) ≡ entry = first_is entry (Reserve by of name (SnapshotOf tag)) op at waits in
      is_child by of name tag vid session req op got at (brings ∙ ap (λ (e : Entry). inputs.LogEntry e) (sym same))
      (ap (λ (e : Entry). decision_after host.node.peer.entries e) same ∙ granted) old opened
