-- Behind each change on the way of an event, in a run in range, the value that a check writes has its items.
use Rattle.std.proofs.Common.{◌≡◌, inl, ℕ, ◌/◌, true, false, List, [], ◌∷◌, ◌++◌, Option, Some, sym, ap, subst, ◌∙◌, append_assoc}
use Rattle.std.specs.Prelude.{flat_map}
use Rattle.std.specs.FinMap as tree
use Rattle.std.proofs.lemmas.Option.{same_Some}
use Rattle.object_id.specs.declared.entry.VdiSpec.{VdiSpec}
use Rattle.object_id.specs.declared.limits.TheConstants.{BLOCK_BYTES}
use Rattle.cluster_script.specs.declared.statement.Statement.{Statement}
use Rattle.cluster_script.specs.NumberedRequests.{request_at}
use Rattle.disk_check.specs.Check.{Check, write_value}
use Rattle.disk_history.specs.declared.event.HistEvent.{HistEvent}
use Rattle.disk_history.specs.Ledger as histories
use Rattle.guest_driver.specs.declared.disk.Disk.{Disk}
use Rattle.sheep_node.specs.declared.course.Course.TheVariants.{Checking}
use Rattle.sheep_node.specs.declared.event.Event.{Event}
use Rattle.sheep_node.specs.Changes as changes
use Rattle.sheep_node.specs.StepState.{StepState}
use Rattle.sheep_node.specs.WantedWorks.{HasWork}
use Rattle.sheep_world.specs.Began.{Began}
use Rattle.sheep_world.specs.NodeCauses.{progress_at_cause}
use Rattle.sheep_world.specs.Began.{MakesMove}
use Rattle.sheep_world.specs.Step.{EventOutcome}
use Rattle.sheep_world.specs.World.{Host}
use Rattle.sheep_world.specs.RunsWithAsks.{Move}
use Rattle.overlap_law.specs.Checks.{HasBegunWrite, HasBlock, IsCheckOn, has_come_to}
use Rattle.overlap_law.specs.CheckedBehind.{ChecksHaveItemsBehind}
use Rattle.overlap_law.specs.Headline.{ledger_of}
use Rattle.overlap_law.specs.HistoryGrowth.{added_at_cause, added_by_reply}
use Rattle.overlap_law.specs.KeptHistory.{CheckedValuesHaveItems}
use Rattle.overlap_law.specs.MomentChanges as moments
use Rattle.overlap_law.specs.MomentChanges.{MomentChange, RunsAreInRange}
use Rattle.overlap_law.specs.Past.{MomentWithPast, moment_after, run_with_past}
use Rattle.overlap_law.specs.Pieces.{HasItem}
use Rattle.overlap_law.specs.RequestsOfScript.{IsCheckOfAsk, IsCourseOfAsk}
use Rattle.overlap_law.specs.StepMoments.{SteppingNode, IsStepping, LeadsInStep, StepsByChanges, first_in_step, hosts_in_step}
use Rattle.overlap_law.specs.StepMoments.{moment_in_step}
use Rattle.overlap_law.specs.Units.{bytes_by}
use Rattle.overlap_law.specs.WrittenBlocks.{items_at}
use Rattle.overlap_law.proofs.BlocksInRuns.{blocks-in_run}
use Rattle.overlap_law.proofs.CheckedInRuns.{HaveBegunAll, begun-in_run, begun_after}
use Rattle.overlap_law.proofs.CheckedMoments.{with_course}
use Rattle.overlap_law.proofs.CheckedStanding.{HaveItems, grown, items_by, items_moved, items_then}
use Rattle.overlap_law.proofs.CheckedStarts.{IsBegunAt}
use Rattle.overlap_law.proofs.CoursesOfAsks.{IsPlacedIn}
use Rattle.overlap_law.proofs.CoursesOfScript.{asked_by, BeganOn, requests_placed}
use Rattle.overlap_law.proofs.FoundInSteps.{check_line}
use Rattle.overlap_law.proofs.HistoryInMoments.{history_so}
use Rattle.overlap_law.proofs.InsideDisks.{open_spec}
use Rattle.overlap_law.proofs.ItemsOfReplies.{is_check_at}
use Rattle.overlap_law.proofs.NoRecoveredDue.{began-with_past}
use Rattle.overlap_law.proofs.RunsWithOneMore.{run_with_one_more}
use Rattle.overlap_law.proofs.StandingInRuns.{checks_stand-in_run}
use Rattle.overlap_law.proofs.StandingOnTheWay.{placed_there}
use Rattle.overlap_law.proofs.WorksInMoments.{HaveWellWorks, well_after}
use Rattle.overlap_law.proofs.EventsOfChanges.{by_change}

-- ---- one check

-- a check of a working disk that its session has open
pub record IsOfOpen (opened : Disk) (check : Check) : Type 0 where
  pub vid : check.vid ≡ opened.inode.vid
  pub spec : check.spec ≡ opened.inode.spec
  pub working : opened.snapshot ≡ false

module _ (script : List Statement) (req : ℕ) (check : Check) (opened : Disk) where
  of_open : (start : Option ℕ) → IsCheckOfAsk (asked_by script req) (Some opened) start check → IsOfOpen opened check
  of_open start so =
      let same : so.on.disk ≡ opened = same_Some so.on.disk opened (sym so.on.there) in
      record {
        vid = so.is.vid ∙ ap (λ (d : Disk). d.inode.vid) same;
        spec = so.is.spec ∙ ap (λ (d : Disk). d.inode.spec) same;
        working = ap (λ (d : Disk). d.snapshot) (sym same) ∙ so.working;
      }

-- the value has its items, where what began has them
module _ (history : List HistEvent) (req index unit : ℕ) (check : Check) (value : List ℕ) (opened : Disk) (disk : histories.Disk)
    (is : IsOfOpen opened check) (known : (ledger_of history).disks opened.inode.vid ≡ Some disk)
    (begun : IsBegunAt history req check.vid check.spec index (write_value check index value))
    (has : HasBlock disk opened.inode.spec index unit) where
  value_has : HaveItems history req opened.inode.vid opened.inode.spec
      → HasItem (items_at disk opened.inode.spec index unit) req (bytes_by unit (write_value check index value))
  value_has items =
      items index unit (write_value check index value) disk known
      (subst (λ (s : VdiSpec). IsBegunAt history req opened.inode.vid s index (write_value check index value)) is.spec
      (subst (λ (v : ℕ). IsBegunAt history req v check.spec index (write_value check index value)) is.vid begun))
      has

-- ---- in a run

module _ (script : List Statement) (range : RunsAreInRange script) (events : List Move) (moment : MomentWithPast)
    (ran : run_with_past script events ≡ Some moment) (n : ℕ) (host : Host) (at : tree.get moment.world.hosts n ≡ Some host)
    (up : host.is_lost ≡ false) (req : ℕ) (check : Check) (opened : Disk) (disk : histories.Disk)
    (checked : IsCheckOn (ledger_of moment.past.history) host.node req check opened disk) where
  began_so : Began script moment.world
  began_so = began-with_past script events moment ran

  pub got_so : tree.get host.node.requests req ≡ Some (record { session = checked.request.session; course = Checking check })
  got_so = with_course (tree.get host.node.requests req) checked.request check checked.on.there checked.course

  -- what it began has its items
  pub record HasSound : Type 0 where
    pub of : IsOfOpen opened check
    pub checks : is_check_at script req ≡ true
    pub items : HaveItems moment.past.history req opened.inode.vid opened.inode.spec

  pub has_sound : HasSound
  has_sound =
      let (start, known_so, course) = subst (IsPlacedIn (asked_by script) (BeganOn script moment.world.guests) req host.node.sessions)
      got_so (requests_placed script range moment.world began_so n host at req) in
      let so : IsCheckOfAsk (asked_by script req) (Some opened) start check
      = subst (λ (o : Option Disk). IsCourseOfAsk (asked_by script req) o start (Checking check)) checked.on.on course in
      let is = of_open script req check opened start so in
      let spec = open_spec script range moment.world began_so n host at checked.request.session opened checked.on.on in
      record {
        of = is;
        checks = check_line (request_at script req) so.of;
        items = items_by moment.past.history req opened.inode.vid opened.inode.spec
            (λ other there.
            let blocks = blocks-in_run script range events moment ran opened.inode.vid other there in
            let same : blocks.spec ≡ opened.inode.spec = same_Some blocks.spec opened.inode.spec (sym blocks.made ∙ spec) in
            blocks.whole ∙ ap (λ (s : VdiSpec). s.size / BLOCK_BYTES) same)
            (λ block coded bytes among there.
            (checks_stand-in_run script range events moment ran).each n host at up req block opened coded bytes
            (record { request = checked.request; there = checked.on.there; on = checked.on.on; working = is.working })
            (check_line (request_at script req) so.of) among there);
      }

  value_so : (index unit : ℕ) (value : List ℕ) → HasBegunWrite host.node req index check value
      → HasBlock disk opened.inode.spec index unit
      → HasItem (items_at disk opened.inode.spec index unit) req (bytes_by unit (write_value check index value))
  value_so index unit value begun has =
      value_has moment.past.history req index unit check value opened disk has_sound.of checked.on.known
      ((begun-in_run script range events moment ran n host at up).0 req checked.request.session check got_so index value
      (inl (begun.open_work, begun.there, begun.same)))
      has has_sound.items

  behind_so : (index unit : ℕ) → has_come_to index opened.inode check ≡ true → HasBlock disk opened.inode.spec index unit
      → (bytes : List ℕ) × HasItem (items_at disk opened.inode.spec index unit) req bytes
  behind_so index unit come has =
      let (value, begun) = (begun-in_run script range events moment ran n host at up).1 req checked.request.session check got_so opened
      checked.on.on index come in (
        bytes_by unit (write_value check index value),
        value_has moment.past.history req index unit check value opened disk has_sound.of checked.on.known begun has has_sound.items,
      )

pub checked-in_run : (script : List Statement) → RunsAreInRange script → (events : List Move) (moment : MomentWithPast)
    → run_with_past script events ≡ Some moment → CheckedValuesHaveItems (ledger_of moment.past.history) moment.world.hosts
checked-in_run script range events moment ran = record {
  each = λ n host at up req index unit check value opened disk checked begun has.
      value_so script range events moment ran n host at up req check opened disk checked index unit value begun has;
}

pub behind-in_run : (script : List Statement) → RunsAreInRange script → (events : List Move) (moment : MomentWithPast)
    → run_with_past script events ≡ Some moment → ChecksHaveItemsBehind (ledger_of moment.past.history) moment.world.hosts
behind-in_run script range events moment ran = record {
  each = λ n host at up req index unit check opened disk checked come has.
      behind_so script range events moment ran n host at up req check opened disk checked index unit come has;
}

module _ (script : List Statement) (range : RunsAreInRange script) (events : List Move) (start : MomentWithPast)
    (ran : run_with_past script events ≡ Some start) where
  began : Began script start.world
  began = began-with_past script events start ran

  -- ---- in the middle of a step

  module _ (on : SteppingNode) (is : IsStepping script start.world on) (by : StepsByChanges on.cause) (so_far : StepState)
      (leads : LeadsInStep on (first_in_step on) so_far) (well : HaveWellWorks (hosts_in_step on start.world so_far)) where
    abbrev so : List HistEvent
    so = grown script range events start ran on is by so_far leads

    history_is : (moment_in_step script on start so_far).past.history ≡ so
    history_is =
        history_so script range start began on by so_far
        ∙ append_assoc start.past.history (added_at_cause script start.world on.cause)
        (flat_map (added_by_reply script start.world on.cause) so_far.outputs.replies)

    step_checked : HaveBegunAll so (hosts_in_step on start.world so_far)
        → CheckedValuesHaveItems (ledger_of so) (hosts_in_step on start.world so_far)
    step_checked values = record {
      each = λ q now at up req index unit check value opened disk checked begun has.
          let session = checked.request.session in
          let got = with_course (tree.get now.node.requests req) checked.request check checked.on.there checked.course in
          let (first, known_so, course) = subst (IsPlacedIn (asked_by script) (BeganOn script (progress_at_cause on.cause start.world)) req
          now.node.sessions) got (placed_there script range events start ran on is by so_far leads well q now at req) in
          let own : IsCheckOfAsk (asked_by script req) (Some opened) first check
          = subst (λ (o : Option Disk). IsCourseOfAsk (asked_by script req) o first (Checking check)) checked.on.on course in
          let of = of_open script req check opened first own in
          let has_work : HasWork req (write_value check index value) now.node.gateway.works now.node.sessions
          = inl (begun.open_work, begun.there, begun.same) in
          value_has so req index unit check value opened disk of checked.on.known
          ((values q now at up).0 req session check got index value has_work)
          has
          (items_moved so req check.vid opened.inode.vid check.spec opened.inode.spec of.vid of.spec
          (items_then script range events start ran on is by so_far leads req session check index value q now at up got has_work));
    }

    step_checked-then : HaveBegunAll (moment_in_step script on start so_far).past.history (hosts_in_step on start.world so_far)
        → CheckedValuesHaveItems (ledger_of (moment_in_step script on start so_far).past.history) (hosts_in_step on start.world so_far)
    step_checked-then values =
        subst (λ (history : List HistEvent). CheckedValuesHaveItems (ledger_of history) (hosts_in_step on start.world so_far))
        (sym history_is)
        (step_checked
        (subst (λ (history : List HistEvent). HaveBegunAll history (hosts_in_step on start.world so_far)) history_is values))

  -- ---- each change

  at_end : (event : Event) (made : EventOutcome) → MakesMove script event start.world made
      → CheckedValuesHaveItems (ledger_of (moment_after script event start made).past.history)
      (moment_after script event start made).world.hosts
  at_end event made happened =
      checked-in_run script range (events ++ happened.move ∷ []) (moment_after script event start made)
      (run_with_one_more script event made events start happened ran)

  pub checked_after : {before after : MomentWithPast} → MomentChange script start before after
      → CheckedValuesHaveItems (ledger_of after.past.history) after.world.hosts
  checked_after change =
      by_change script start (λ before after. CheckedValuesHaveItems (ledger_of after.past.history) after.world.hosts)
      (λ on is by.
      step_checked-then on is by (first_in_step on) changes.Still
      (well_after script range start began (moments.StepBegins on is by))
      (begun_after script range events start ran (moments.StepBegins on is by)))
      (λ on is by so_far next within.
      step_checked-then on is by next (changes.Then within.leads within.change)
      (well_after script range start began (moments.StepGoesOn on so_far next is by within))
      (begun_after script range events start ran (moments.StepGoesOn on so_far next is by within)))
      at_end change
