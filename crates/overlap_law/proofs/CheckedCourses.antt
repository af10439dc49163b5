-- In the middle of a node's step a check that it had is where it was, or went on by the step; its session's open disk is the one that it
-- was; and each own object that the check has left by the step has begun to be written.
use Rattle.std.proofs.Common.{◌≡◌, ◌⊎◌, inl, inr, ⊎_elim, ℕ, ◌==◌, ◌||◌, Bool, true, false, List, [], ◌∷◌, Option, Some, None, unwrap_or}
use Rattle.std.proofs.Common.{refl, sym, ap, subst, ◌∙◌}
use Rattle.std.specs.List.{list_any}
use Rattle.std.specs.Ordering.{nat_cmp}
use Rattle.std.specs.FinMap as tree
use Rattle.std.proofs.lemmas.Bool.{eqb-true}
use Rattle.std.proofs.lemmas.Option.{same_Some}
use Rattle.proof_tools.proofs.FiniteMaps.{get-insert_same}
use Rattle.cluster_script.specs.declared.statement.Statement.{Statement}
use Rattle.disk_check.specs.Check.{Check, CheckStage, CheckStep, Comparing, WritingBack, Answered, check_done_at, check_on_done, left_of}
use Rattle.disk_check.specs.Check.{write_value}
use Rattle.disk_check.specs.Value.{pieces_in, value_of}
use Rattle.gateway.specs.Attempt.{Attempt}
use Rattle.gateway.specs.State.{Work}
use Rattle.gateway.specs.declared.message.Status.{Status}
use Rattle.guest_driver.specs.declared.disk.Disk.{Disk}
use Rattle.guest_driver.specs.Driver.{begin_driver}
use Rattle.peer_proto.specs.declared.guest.DiskAsk.{DiskAsk}
use Rattle.peer_proto.specs.declared.guest.VdiAsk.TheVariants as disk_commands
use Rattle.sheep_node.specs.declared.ask.Ask.TheVariants as asks
use Rattle.sheep_node.specs.declared.course.Course.{Course}
use Rattle.sheep_node.specs.declared.course.Course.TheVariants.{Waiting, Driving, Commanding, Checking, DoingWork, AwaitingDecision}
use Rattle.sheep_node.specs.declared.course.Request.{Request}
use Rattle.sheep_node.specs.declared.session.Session.{Session}
use Rattle.sheep_node.specs.Changes as changes
use Rattle.sheep_node.specs.Changes.{Change, EndsWork, Leads, Outcome, RequestSteps, DiskBegins, DiskGoesOn, CommandBegins, CommandGoesOn}
use Rattle.sheep_node.specs.Changes.{CommandDecided, CheckBegins, CheckGoesOn, ObjectBegins, ObjectIsDone, EntryBegins, EntryDecided}
use Rattle.sheep_node.specs.Changes.{input_received}
use Rattle.sheep_node.specs.CheckWrites.{write_of_value}
use Rattle.sheep_node.specs.SessionQueues.{command_in, session_among}
use Rattle.sheep_node.specs.State.{new_session}
use Rattle.sheep_node.specs.StepState.{StepState, at_first}
use Rattle.sheep_node.proofs.OneWorkParts.{Requests}
use Rattle.sheep_node.proofs.ReceivedInputs.{received_keeps}
use Rattle.sheep_world.specs.Began.{Began}
use Rattle.sheep_world.specs.NodeCauses.{NodeCause, input_of_cause, IsCause}
use Rattle.sheep_world.specs.World.{Host, World, is_host_up}
use Rattle.overlap_law.specs.HistoryGrowth.{added_at_cause}
use Rattle.overlap_law.specs.MomentChanges.{RunsAreInRange}
use Rattle.overlap_law.specs.OpenedTables.{OpensNow, ReadsIt, WroteIt, ByWork, ByEntry}
use Rattle.overlap_law.proofs.CausedWorks.{IsNotServed}
use Rattle.overlap_law.proofs.CheckedMoments.{disk_so, one_check, write_comes}
use Rattle.overlap_law.proofs.CheckedStarts.{IsBegunAt}
use Rattle.overlap_law.proofs.CheckedSteps.{IsSameDisk, comes_now, goes_on-same, not_brought, was_check}
use Rattle.overlap_law.proofs.CoursesCome.{StepsNow, courses_come}
use Rattle.overlap_law.proofs.DisksAfter.{DiskAfter, Stayed, Drove, Opened, disk_from}
use Rattle.overlap_law.proofs.ItemsOfReplies.{is_check_at}
use Rattle.overlap_law.proofs.StandingSteps.{alone}

-- whether an own object is left at a stage of a check
abbrev pub is_left_at : ℕ → CheckStage → Bool
is_left_at index stage = list_any (λ left. left == index) (left_of stage)

-- whether it is left to a check
abbrev pub is_left : ℕ → Check → Bool
is_left index check = is_left_at index check.stage

-- a check compares the object of this index
record Compares (first : Check) (index : ℕ) : Type 0 where
  later : List ℕ
  at : first.stage ≡ Comparing index later

-- what isn't left to it when it goes on wasn't left, or was compared
left_then : (bytes : List ℕ) (first : Check) (step : CheckStep) → check_on_done bytes first ≡ Some step → (index : ℕ)
    → is_left index step.check ≡ false → (is_left index first ≡ false) ⊎ Compares first index
unfolding check_on_done
left_then bytes first step is index out = by_stage first.stage refl is
  where
    by_stage : (stage : CheckStage) → first.stage ≡ stage → check_done_at bytes first stage ≡ Some step
        → (is_left index first ≡ false) ⊎ Compares first index
    by_stage (Comparing place later) at next = by_test (place == index) refl
      where
        after : list_any (λ left. left == index) later ≡ false
        after = ap (λ (s : CheckStep). is_left index s.check) (same_Some _ step next) ∙ out

        by_test : (b : Bool) → (place == index) ≡ b → (is_left index first ≡ false) ⊎ Compares first index
        by_test true same = inr (record { later = later; at = at ∙ ap (λ (k : ℕ). Comparing k later) (eqb-true place index same) })
        by_test false apart = inl (ap (is_left_at index) at ∙ (λ i. apart i || after i))
    by_stage (WritingBack []) at next = inl (ap (is_left_at index) at)
    by_stage (WritingBack (place ∷ later)) at next =
        inl (ap (is_left_at index) at ∙ ap (λ (s : CheckStep). is_left index s.check) (same_Some _ step next) ∙ out)
    by_stage Answered at next = absurd (cc (next))

module _ (script : List Statement) (range : RunsAreInRange script) (world : World) (began : Began script world) (n : ℕ) (host : Host)
    (there : tree.get world.hosts n ≡ Some host) (up : is_host_up host ≡ true) (cause : NodeCause) (not_served : IsNotServed cause)
    (caused : IsCause script world n host cause) (req : ℕ) (checks : is_check_at script req ≡ true) (was : Request)
    (had : tree.get host.node.requests req ≡ Some was) where
  abbrev LeadsTo : StepState → Type 0
  LeadsTo so_far = Leads (input_of_cause cause) host.node (input_received (input_of_cause cause) (at_first host.node)) so_far

  abbrev IsAt : Requests → ℕ → Check → Type 0
  IsAt requests session check = tree.get requests req ≡ Some (record { session = session; course = Checking check })

  -- ---- over one change

  record HasGoneOn (so_far : StepState) (session : ℕ) (check : Check) : Type 0 where
    number : ℕ
    work : Work
    attempt : Attempt
    status : Status
    bytes : List ℕ
    first : Check
    step : CheckStep
    ends : EndsWork (input_of_cause cause) host.node so_far session req number work attempt status (Checking first) bytes
    goes : check_on_done bytes first ≡ Some step
    same : step.check ≡ check

  abbrev IsFromCourse : StepState → ℕ → Check → Type 0
  IsFromCourse so_far session check = IsAt so_far.node.requests session check ⊎ HasGoneOn so_far session check

  put_same : (requests : Requests) (new now : Request) → tree.get (tree.insert requests req new) req ≡ Some now → new ≡ now
  put_same requests new now at = same_Some new now (sym (get-insert_same requests req new) ∙ at)

  put_none : (so_far : StepState) (of : ℕ) (course : Course) (session : ℕ) (check : Check)
      → IsAt (tree.insert so_far.node.requests req (record { session = of; course = course })) session check
      → (course ≡ Checking check → ⊥) → IsFromCourse so_far session check
  put_none so_far of course session check at never =
      absurd (never (ap (λ (r : Request). r.course)
      (put_same so_far.node.requests (record { session = of; course = course }) (record { session = session; course = Checking check })
      at)))

  by_steps : (so_far : StepState) (of : ℕ) (next : Outcome) (moved : StepState)
      → RequestSteps (input_of_cause cause) host.node so_far of req next moved → (session : ℕ) (check : Check)
      → IsAt moved.node.requests session check → IsFromCourse so_far session check
  by_steps so_far of next moved (DiskBegins ask disk got on may) session check at =
      put_none so_far of (Driving (begin_driver disk ask).driver) session check at (λ same. cc (same))
  by_steps so_far of next moved (DiskGoesOn number work attempt status bytes driver disk step ends on is) session check at =
      put_none so_far of (Driving step.driver) session check at (λ same. cc (same))
  by_steps so_far of next moved (CommandBegins ask step arrival is) session check at =
      put_none so_far of (Commanding step.op) session check at (λ same. cc (same))
  by_steps so_far of next moved (CommandGoesOn number work attempt status bytes op step ends is) session check at =
      put_none so_far of (Commanding step.op) session check at (λ same. cc (same))
  by_steps so_far of next moved (CommandDecided entry op step from read got waits is) session check at =
      put_none so_far of (Commanding step.op) session check at (λ same. cc (same))
  by_steps so_far of next moved (CheckBegins inode arrival on) session check at =
      absurd (not_brought script range world began n host there up cause not_served caused req checks was had of
      (asks.Vdi disk_commands.Check) arrival.from)
  by_steps so_far of next moved (CheckGoesOn number work attempt status bytes first step ends is) session check at =
      let same : record { session = of; course = Checking step.check } ≡ record { session = session; course = Checking check }
      = put_same so_far.node.requests (record { session = of; course = Checking step.check })
      (record { session = session; course = Checking check }) at in
      let course : Checking step.check ≡ Checking check = ap (λ (r : Request). r.course) same in
      inr (record {
        number = number;
        work = work;
        attempt = attempt;
        status = status;
        bytes = bytes;
        first = first;
        step = step;
        ends = subst (λ (k : ℕ).
            EndsWork (input_of_cause cause) host.node so_far k req number work attempt status (Checking first) bytes)
            (ap (λ (r : Request). r.session) same) ends;
        goes = is;
        same = cc (course);
      })
  by_steps so_far of next moved (ObjectBegins asked arrival) session check at =
      put_none so_far of (DoingWork asked) session check at (λ same. cc (same))
  by_steps so_far of next moved (ObjectIsDone number work attempt status bytes asked ends) session check at = inl at
  by_steps so_far of next moved (EntryBegins entry arrival) session check at =
      put_none so_far of (AwaitingDecision entry) session check at (λ same. cc (same))
  by_steps so_far of next moved (EntryDecided entry wanted from read got waits) session check at = inl at

  comes_from : (so_far next : StepState) → Change (input_of_cause cause) host.node so_far next → (session : ℕ) (check : Check)
      → IsAt next.node.requests session check → IsFromCourse so_far session check
  comes_from so_far next change session check at = ⊎_elim
      (λ (stood : IsAt so_far.node.requests session check). inl stood)
      (⊎_elim
      (λ (now : StepsNow (input_of_cause cause) host.node so_far req (record { session = session; course = Checking check })).
      by_steps so_far now.session now.next now.moved now.steps session check now.there)
      (λ (begins : (ask : DiskAsk) × (Checking check ≡ Waiting ask)).
      let same : Checking check ≡ Waiting begins.0 = begins.1 in absurd (cc (same))))
      (courses_come req (input_of_cause cause) host.node so_far next change (record { session = session; course = Checking check }) at)

  -- it was there
  first_there : (so_far : StepState) (session : ℕ) (check : Check) → IsFromCourse so_far session check
      → (first : Check) × IsAt so_far.node.requests session first
  first_there so_far session check (inl stood) = (check, stood)
  first_there so_far session check (inr gone) = (gone.first, gone.ends.ends.request)

  -- alone in its session
  other_none : (so_far : StepState) → LeadsTo so_far → (session : ℕ) (check : Check) → IsAt so_far.node.requests session check → (other : ℕ)
      (course : Course) → tree.get so_far.node.requests other ≡ Some (record { session = session; course = course })
      → course ≡ Checking check
  other_none so_far leads session check at other course got =
      let sole = alone script range world began n host there up cause not_served caused so_far leads in
      let named : command_in session so_far.node.sessions ≡ Some req
      = sole.named req (record { session = session; course = Checking check }) at refl in
      let same : other ≡ req
      = sole.alone session req other (record { session = session; course = course }) named got refl in
      ap (λ (r : Request). r.course)
      (same_Some (record { session = session; course = course }) (record { session = session; course = Checking check })
      (sym got ∙ ap (tree.get so_far.node.requests) same ∙ at))

  -- ---- its disk

  none_opens : (so_far : StepState) → LeadsTo so_far → (session : ℕ) (check : Check) → IsAt so_far.node.requests session check
      → (disk : Disk) → OpensNow (input_of_cause cause) host.node so_far session disk → ⊥
  none_opens so_far leads session check at disk (ByWork (ReadsIt other number work attempt status bytes op of ids header ends stage is)) =
      let never = other_none so_far leads session check at other (Commanding op) ends.ends.request in cc (never)
  none_opens so_far leads session check at disk (ByWork (WroteIt other number work attempt status bytes op of inode ends stage is)) =
      let never = other_none so_far leads session check at other (Commanding op) ends.ends.request in cc (never)
  none_opens so_far leads session check at disk (ByEntry other op entry inode got stage is) =
      let never = other_none so_far leads session check at other (Commanding op) got in cc (never)

  pub disk_stays : {so_far : StepState} → LeadsTo so_far → (session : ℕ) (check : Check) → IsAt so_far.node.requests session check
      → (disk : Disk) → (session_among session so_far.node.sessions).disk ≡ Some disk
      → (session_among session host.node.sessions).disk ≡ Some disk
  disk_stays changes.Still session check at disk on =
      received_keeps (λ works requests sessions.
      (one : Disk) → (session_among session sessions).disk ≡ Some one → (session_among session host.node.sessions).disk ≡ Some one)
      (λ one is.
      let none : (session_among session tree.empty).disk ≡ None
      = ap (λ (o : Option Session). (unwrap_or o new_session).disk) (tree.get-empty {X = Session} nat_cmp session) in
      absurd (cc (none, is)))
      (input_of_cause cause) host.node (λ one is. is) disk on
  disk_stays (changes.Then {so_far} {next} leads change) session check at disk on =
      let (first, stood) = first_there so_far session check (comes_from so_far next change session check at) in
      by_after first stood (λ is. disk_stays leads session first stood disk is)
      (disk_from session disk (input_of_cause cause) host.node so_far next change on)
    where
      by_after : (first : Check) → IsAt so_far.node.requests session first
          → ((session_among session so_far.node.sessions).disk ≡ Some disk → (session_among session host.node.sessions).disk ≡ Some disk)
          → DiskAfter (input_of_cause cause) host.node so_far session disk → (session_among session host.node.sessions).disk ≡ Some disk
      by_after first stood stays (Stayed is) = stays is
      by_after first stood stays (Drove old other number work attempt status bytes driver step ends had_it goes same) =
          let never = other_none so_far leads session first stood other (Driving driver) ends.ends.request in absurd (cc (never))
      by_after first stood stays (Opened now) = absurd (none_opens so_far leads session first stood disk now)

  -- ---- what it has left by the step

  abbrev old : Check
  old = (was_check script range world began n host there up cause not_served caused req checks was had).check

  abbrev pub IsBegunNow : Check → ℕ → Type 0
  IsBegunNow check index = (value : List ℕ)
      × IsBegunAt (added_at_cause script world cause) req check.vid check.spec index (write_value check index value)

  moved_begun : (bytes : List ℕ) (first : Check) (step : CheckStep) (check : Check) (index : ℕ) → check_on_done bytes first ≡ Some step
      → step.check ≡ check → IsBegunNow first index → IsBegunNow check index
  moved_begun bytes first step check index goes is (value, begun) =
      let same : IsSameDisk check first = subst (λ (c : Check). IsSameDisk c first) is (goes_on-same bytes first step goes) in
      (value, disk_so (added_at_cause script world cause) req index value check first same begun)

  pub left_begun : {so_far : StepState} → LeadsTo so_far → (session : ℕ) (check : Check) → IsAt so_far.node.requests session check
      → (index : ℕ) → is_left index old ≡ true → is_left index check ≡ false → IsBegunNow check index
  left_begun changes.Still session check at index inside out =
      let still = received_keeps
      (λ works requests sessions. (s : ℕ) (c : Check) → IsAt requests s c → is_left index c ≡ true)
      (λ s c is. let none = tree.get-empty {X = Request} nat_cmp req in absurd (cc (none, is))) (input_of_cause cause) host.node
      (λ s c is. first_left s c is) session check at in
      absurd (cc (still, out))
    where
      first_left : (s : ℕ) (c : Check) → IsAt host.node.requests s c → is_left index c ≡ true
      first_left s c is =
          let got = (was_check script range world began n host there up cause not_served caused req checks was had).got in
          let same : c ≡ old = one_check (tree.get host.node.requests req) s was.session c old is got in
          ap (is_left index) same ∙ inside
  left_begun (changes.Then {so_far} {next} leads change) session check at index inside out =
      by_from (λ first stood none. left_begun leads session first stood index inside none)
      (comes_from so_far next change session check at)
    where
      by_from : ((first : Check) → IsAt so_far.node.requests session first → is_left index first ≡ false → IsBegunNow first index)
          → IsFromCourse so_far session check → IsBegunNow check index
      by_from before (inl stood) = before check stood out
      by_from before (inr gone) =
          moved_begun gone.bytes gone.first gone.step check index gone.goes gone.same (⊎_elim
          (λ (none : is_left index gone.first ≡ false). before gone.first gone.ends.ends.request none)
          (λ (compares : Compares gone.first index).
          let value = value_of gone.first.spec.policy (pieces_in gone.first.spec gone.bytes) in
          let comes = comes_now script range world began n host there up cause not_served caused req checks was had so_far leads session
          gone.number gone.work gone.attempt gone.status gone.bytes gone.first gone.ends index compares.later compares.at in (
            value,
            (write_comes script range world began n host there up cause caused (write_of_value req gone.first (index, value)) comes
                checks).begun,
          ))
          (left_then gone.bytes gone.first gone.step gone.goes index (ap (is_left index) gone.same ∙ out)))
