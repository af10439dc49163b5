-- What is to hold of the inodes that sessions have open, and of those that commands are to open, is so over each change of a moment in a
-- run in range, if it stays so as epochs rise, and is so as a node goes on in its step.
use Rattle.std.proofs.Common.{◌≡◌, ◌≢◌, ⊎_elim, arith, ℕ, ◌≤◌, false, List, ◌++◌, length, Option, Some, None, IfSome, refl, sym, ap}
use Rattle.std.proofs.Common.{subst, ◌∙◌}
use Rattle.std.specs.FinMap as tree
use Rattle.std.proofs.lemmas.Option.{same_Some}
use Rattle.proof_tools.proofs.FiniteMaps.{get-insert_same, get-insert_cases, insert-insert}
use Rattle.object_id.specs.declared.entry.Entry.{Entry}
use Rattle.cluster_script.specs.declared.statement.Statement.{Statement}
use Rattle.inode.specs.Layout.{Content}
use Rattle.vdi_directory.specs.declared.effect.Effect.{Effect}
use Rattle.peer_service.specs.State.{Peer, effects_of}
use Rattle.guest_driver.specs.declared.disk.Disk.{Disk}
use Rattle.sheep_node.specs.declared.course.Request.{Request}
use Rattle.sheep_node.specs.declared.input.Input.{Input}
use Rattle.sheep_node.specs.declared.input.Input.TheVariants as inputs
use Rattle.sheep_node.specs.declared.session.Session.{Session}
use Rattle.sheep_node.specs.LogReading.{entry_read}
use Rattle.sheep_node.specs.May.{May}
use Rattle.sheep_node.specs.NodeInvariant.{IsSoundNode}
use Rattle.sheep_node.specs.State.{Node}
use Rattle.sheep_node.specs.StepFacts.{read_after}
use Rattle.sheep_node.specs.StepState.{StepState}
use Rattle.sheep_node.specs.Changes as changes
use Rattle.sheep_node.specs.Changes.{IsSoundStep}
use Rattle.sheep_node.proofs.NumberChanges.{meets_numbers}
use Rattle.sheep_node.proofs.OneWorkParts.{Requests, Sessions}
use Rattle.sheep_node.proofs.StepResults.{step_reads}
use Rattle.sheep_node.proofs.ValidLaws.{reservable_after, valid_input}
use Rattle.sheep_node.proofs.ValidityChanges.{none_is}
use Rattle.sheep_world.specs.World.{Host}
use Rattle.sheep_world.specs.Began.{Began}
use Rattle.sheep_world.specs.EventKinds.{outcome_of_step}
use Rattle.sheep_world.specs.HostChanges.{host_after_step}
use Rattle.sheep_world.specs.NodeCauses.{input_of_cause, event_of_cause, host_with_node, log_after_cause}
use Rattle.sheep_world.proofs.BegunWorlds.{goes_on}
use Rattle.sheep_world.proofs.LogFrontLaws.{all_read}
use Rattle.overlap_law.specs.Each.{EachUp}
use Rattle.overlap_law.specs.MadeTables.{inode_of_course}
use Rattle.overlap_law.specs.MomentChanges.{MomentChange, RunsAreInRange}
use Rattle.overlap_law.specs.Past.{MomentWithPast}
use Rattle.overlap_law.specs.Reached.{Hosts}
use Rattle.overlap_law.specs.StepMoments.{SteppingNode, IsStepping, StepsByChanges, IsWithinStep, moment_in_step}
use Rattle.overlap_law.proofs.CausedWorks.{by_changes}
use Rattle.overlap_law.proofs.ChainTables.{HasChains, log_chains}
use Rattle.overlap_law.proofs.ClaimsInRuns.{up_not_lost}
use Rattle.overlap_law.proofs.EpochsRise.{epochs_rise, same_so_far}
use Rattle.overlap_law.proofs.GuestsInMoments.{GuestsChange, GuestsStay, GuestsAreNone, IsGoingOn, IsBetween, between}
use Rattle.overlap_law.proofs.KnownDiskSteps.{IsKnownSoFar, effects_after}
use Rattle.overlap_law.proofs.KnownDrivers.{on_known}
use Rattle.overlap_law.proofs.StepsInRuns.{knows_read, knows_well, knows_tables}
use Rattle.overlap_law.proofs.TableSteps.{KnowsTables, change_so}
use Rattle.overlap_law.proofs.TableWalk.{IsSoCourse, IsSoOpen, AreSo}
use Rattle.overlap_law.proofs.WholeInRuns.{sound_here, may_change}
use Rattle.overlap_law.proofs.WholeNodes.{IsWholeSoFar}
use Rattle.overlap_law.proofs.WholeSteps.{IsWellKnown}

-- ---- what is weaker

module _ (P Q : Content → Type 0) (weaker : (inode : Content) → P inode → Q inode) where
  if_weaker : (o : Option Content) → IfSome o P → IfSome o Q
  if_weaker None is = tt
  if_weaker (Some inode) is = weaker inode is

  open_weaker : (o : Option Disk) → IsSoOpen P o → IsSoOpen Q o
  open_weaker None is = tt
  open_weaker (Some disk) is = weaker disk.inode is

  all_weaker : (requests : Requests) (sessions : Sessions) → AreSo P requests sessions → AreSo Q requests sessions
  all_weaker requests sessions all = record {
    courses = λ req request got. if_weaker (inode_of_course request.course) (all.courses req request got);
    opened = λ number session got. open_weaker session.disk (all.opened number session got);
  }

none_so : (P : Content → Type 0) → AreSo P tree.empty tree.empty
none_so P = record {
  courses = none_is (λ (request : Request). IsSoCourse P request.course);
  opened = none_is (λ (session : Session). IsSoOpen P session.disk);
}

-- what is to hold in a moment, at a node of an epoch
module _ (T : MomentWithPast → ℕ → Content → Type 0) where
  abbrev pub HostSo : MomentWithPast → Host → Type 0
  HostSo moment host = AreSo (T moment host.node.peer.epoch) host.node.requests host.node.sessions

  abbrev pub AllSo : MomentWithPast → Type 0
  AllSo moment = (n : ℕ) (host : Host) → tree.get moment.world.hosts n ≡ Some host → host.is_lost ≡ false → HostSo moment host

  -- it stays so as the epoch rises
  abbrev pub StaysSo : MomentWithPast → MomentWithPast → Type 0
  StaysSo before after = (old new : ℕ) → old ≤ new → (inode : Content) → T before old inode → T after new inode

  -- ---- as it is said of open disks, and of the inodes that commands are to open

  module _ (moment : MomentWithPast) where
    abbrev pub OpenSo : Type 0
    OpenSo = EachUp moment.world.hosts (λ n node. (number : ℕ) (session : Session) (disk : Disk)
        → tree.get node.sessions number ≡ Some session → session.disk ≡ Some disk → T moment node.peer.epoch disk.inode)

    abbrev pub ToOpenSo : Type 0
    ToOpenSo = EachUp moment.world.hosts (λ n node. (req : ℕ) (request : Request) (inode : Content)
        → tree.get node.requests req ≡ Some request → inode_of_course request.course ≡ Some inode → T moment node.peer.epoch inode)

    pub all_of : OpenSo → ToOpenSo → AllSo moment
    all_of opened to_open n host there up = record {
      courses = λ req request got. course_so req request got (inode_of_course request.course) refl;
      opened = λ number session got. disk_so number session got session.disk refl;
    }
      where
        course_so : (req : ℕ) (request : Request) → tree.get host.node.requests req ≡ Some request → (o : Option Content)
            → inode_of_course request.course ≡ o → IfSome o (T moment host.node.peer.epoch)
        course_so req request got None at = tt
        course_so req request got (Some inode) at = to_open n host there up req request inode got at

        disk_so : (number : ℕ) (session : Session) → tree.get host.node.sessions number ≡ Some session → (o : Option Disk)
            → session.disk ≡ o → IsSoOpen (T moment host.node.peer.epoch) o
        disk_so number session got None on = tt
        disk_so number session got (Some disk) on = opened n host there up number session disk got on

    pub open_of : AllSo moment → OpenSo
    open_of all n host there up number session disk got on =
        subst (IsSoOpen (T moment host.node.peer.epoch)) on ((all n host there up).opened number session got)

    pub to_open_of : AllSo moment → ToOpenSo
    to_open_of all n host there up req request inode got at =
        subst (λ (o : Option Content). IfSome o (T moment host.node.peer.epoch)) at ((all n host there up).courses req request got)

  -- ---- over each change but those in the middle of a step

  module _ (script : List Statement) (range : RunsAreInRange script) (start before after : MomentWithPast)
      (began : Began script start.world) (change : MomentChange script start before after) (stays : StaysSo before after)
      (all : AllSo before) where
    by_guests : (n : ℕ) (host : Host) → tree.get after.world.hosts n ≡ Some host → host.is_lost ≡ false → GuestsChange before n host
        → HostSo after host
    by_guests n host at up (GuestsStay was there still gateway sessions requests) =
        let (now, found, rises) = epochs_rise script range start began change n was there in
        let later : was.node.peer.epoch ≤ host.node.peer.epoch
        = subst (λ (h : Host). was.node.peer.epoch ≤ h.node.peer.epoch) (same_Some now host (sym found ∙ at)) rises in
        let same : AreSo (T after host.node.peer.epoch) was.node.requests was.node.sessions
        = all_weaker (T before was.node.peer.epoch) (T after host.node.peer.epoch)
        (stays was.node.peer.epoch host.node.peer.epoch later)
        was.node.requests was.node.sessions (all n was there (still up)) in
        subst (λ (held : Sessions). AreSo (T after host.node.peer.epoch) host.node.requests held) (sym sessions)
        (subst (λ (asked : Requests). AreSo (T after host.node.peer.epoch) asked was.node.sessions) (sym requests) same)
    by_guests n host at up (GuestsAreNone none requests) =
        subst (λ (held : Sessions). AreSo (T after host.node.peer.epoch) host.node.requests held) (sym none)
        (subst (λ (asked : Requests). AreSo (T after host.node.peer.epoch) asked tree.empty) (sym requests)
        (none_so (T after host.node.peer.epoch)))

    pub between_so : (IsGoingOn script start before after → AllSo after) → AllSo after
    between_so goes = ⊎_elim
        (λ (on : IsGoingOn script start before after). goes on)
        (λ (b : IsBetween before after). λ n host at up. by_guests n host at up (b.0 n host at))
        (between script start change)

-- ---- in the middle of a step

module _ (script : List Statement) (range : RunsAreInRange script) (start : MomentWithPast) (began : Began script start.world)
    (stepping : SteppingNode) (is : IsStepping script start.world stepping) (by : StepsByChanges stepping.cause) (so_far next : StepState)
    (within : IsWithinStep stepping so_far next) where
  abbrev input : Input
  input = input_of_cause stepping.cause

  abbrev node : Node
  node = stepping.host.node

  abbrev known : List Effect
  known = effects_after (input_of_cause stepping.cause) stepping.host.node

  may : May input node
  may =
      may_change script range start.world began stepping.n stepping.host is.there is.up stepping.cause (by_changes stepping.cause by)
      is.caused

  sound : IsSoundNode node
  sound = sound_here script range start.world began stepping.n stepping.host is.there is.up

  pub stepped : IsSoundStep (input_of_cause stepping.cause) stepping.host.node
  stepped = (meets_numbers input node may.condition, sound.one_work)

  pub reading : (entry : Entry) → input_of_cause stepping.cause ≡ inputs.LogEntry entry
      → effects_of (entry_read entry stepping.host.node).peer ≡ effects_after (input_of_cause stepping.cause) stepping.host.node
  reading = knows_read script range start began stepping is by

  pub knows_here : IsWellKnown (effects_after (input_of_cause stepping.cause) stepping.host.node) (input_of_cause stepping.cause)
      stepping.host.node so_far
  knows_here = knows_well script range start began stepping is by so_far within.leads

  pub known_so_far : IsKnownSoFar (effects_after (input_of_cause stepping.cause) stepping.host.node) (length so_far.outputs.sends) so_far
  known_so_far = on_known so_far knows_here

  pub whole_so_far : IsWholeSoFar (effects_after (input_of_cause stepping.cause) stepping.host.node) (length so_far.outputs.sends) so_far
  whole_so_far = (
    knows_tables script range start began stepping is by so_far within.leads,
    record { few = omega arith; sent = λ k d within. tt; to_put = λ k d within. tt },
  )

  -- what the node has read by then has its chains, and is the front of the log
  pub chains_here : HasChains (effects_after (input_of_cause stepping.cause) stepping.host.node)
  chains_here =
      log_chains (read_after input node.peer.entries)
      (reservable_after input node.peer.entries (valid_input input node may.condition sound.valid_disks.read) sound.valid_disks.read)

  pub front_here : (rest : List Entry)
      × (log_after_cause stepping.cause start.world.log
      ≡ read_after (input_of_cause stepping.cause) stepping.host.node.peer.entries ++ rest)
  front_here =
      let after = outcome_of_step script stepping.n stepping.host stepping.cause start.world in
      let begun : Began script after.world
      = goes_on script (event_of_cause stepping.n stepping.cause) start.world after began is.made in
      let front = all_read script after.world begun stepping.n (host_after_step stepping.cause stepping.host)
      (get-insert_same start.world.hosts stepping.n (host_after_step stepping.cause stepping.host)) in
      (front.rest, front.is ∙ ap (λ (entries : List Entry). entries ++ front.rest) (step_reads input node))

  abbrev here : MomentWithPast
  here = moment_in_step script stepping start so_far

  abbrev then : MomentWithPast
  then = moment_in_step script stepping start next

  rises : so_far.node.peer.epoch ≤ next.node.peer.epoch
  rises =
      let same : so_far.node.peer.epoch ≡ next.node.peer.epoch
      = ap (λ (p : Peer). p.epoch) (same_so_far script range start began stepping so_far within.leads
      ∙ sym (same_so_far script range start began stepping next (changes.Then within.leads within.change))) in
      omega (arith, same)

  module _ (T : MomentWithPast → ℕ → Content → Type 0)
      (stays : StaysSo T (moment_in_step script stepping start so_far) (moment_in_step script stepping start next)) where
    rests : (host : Host) → HostSo T here host → HostSo T then host
    rests host all =
        all_weaker (T here host.node.peer.epoch) (T then host.node.peer.epoch)
        (stays host.node.peer.epoch host.node.peer.epoch (omega arith))
        host.node.requests host.node.sessions all

    pub goes_on_so : KnowsTables (T (moment_in_step script stepping start so_far) so_far.node.peer.epoch)
        (effects_after (input_of_cause stepping.cause) stepping.host.node) stepped reading so_far
        → AllSo T (moment_in_step script stepping start so_far) → AllSo T (moment_in_step script stepping start next)
    goes_on_so knows all n host there up = ⊎_elim
        (λ (own : (n ≡ stepping.n) × (now ≡ host)). subst (HostSo T then) own.1 stepped_so)
        (λ (other : (n ≢ stepping.n) × (tree.get here.world.hosts n ≡ Some host)). rests host (all n host other.1 up))
        (get-insert_cases here.world.hosts stepping.n now n host
        (ap (λ (held : Hosts). tree.get held n) (insert-insert start.world.hosts stepping.n was now) ∙ there))
      where
        was : Host
        was = host_with_node stepping.host so_far.node

        now : Host
        now = host_with_node stepping.host next.node

        before : AreSo (T here so_far.node.peer.epoch) so_far.node.requests so_far.node.sessions
        before =
            all stepping.n was (get-insert_same start.world.hosts stepping.n was) (up_not_lost script range stepping.host is.up)

        stepped_so : HostSo T then now
        stepped_so =
            all_weaker (T here so_far.node.peer.epoch) (T then next.node.peer.epoch)
            (stays so_far.node.peer.epoch next.node.peer.epoch rises)
            next.node.requests next.node.sessions
            (change_so (T here so_far.node.peer.epoch) known stepped reading so_far next within.change knows before)
