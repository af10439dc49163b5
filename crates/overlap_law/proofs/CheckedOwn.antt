-- A check begins writes of own objects of its disk alone, by the history so far, at each node, in the middle of a step too.
use Rattle.std.proofs.Common.{◌≡◌, ◌≢◌, ⊎_elim, ℕ, ◌<◌, ◌^◌, ◌==◌, ◌||◌, Bool, true, false, List, [], ◌++◌, length, Option, Some, None}
use Rattle.std.proofs.Common.{refl, sym, ap, subst, arith, ◌∙◌}
use Rattle.std.specs.List.{list_any}
use Rattle.std.specs.Option.{option_map, option_map_or, option_and_then}
use Rattle.std.specs.FinMap as tree
use Rattle.std.proofs.lemmas.Bool.{eq-eqb, or_cases}
use Rattle.std.proofs.lemmas.List.Folds.{list_any-append}
use Rattle.std.proofs.lemmas.Option.{same_Some}
use Rattle.object_id.specs.declared.entry.VdiSpec.{VdiSpec}
use Rattle.object_id.specs.Spec.{IsSpec}
use Rattle.cluster_script.specs.declared.statement.Statement.{Statement}
use Rattle.cluster_script.specs.NumberedRequests.{request_at}
use Rattle.cluster_script.specs.Statements.{requests_of}
use Rattle.disk_check.specs.Check.{Check, CheckStage, Comparing, WritingBack, Answered, value_at_stage}
use Rattle.disk_history.specs.declared.event.HistEvent.{HistEvent}
use Rattle.guest_driver.specs.declared.disk.Disk.{Disk}
use Rattle.sheep_node.specs.declared.ask.Ask.{Ask}
use Rattle.sheep_node.specs.declared.check_write.CheckWrite.{CheckWrite}
use Rattle.sheep_node.specs.declared.course.Course.TheVariants.{Checking}
use Rattle.sheep_node.specs.declared.course.Request.{Request}
use Rattle.sheep_node.specs.declared.input.Input.{Input}
use Rattle.sheep_node.specs.declared.input.Input.TheVariants as inputs
use Rattle.sheep_node.specs.Changes.{Leads, MeetsNumbers, input_received}
use Rattle.sheep_node.specs.CheckWrites.{check_write_on, write_of_value}
use Rattle.sheep_node.specs.SessionQueues.{session_among}
use Rattle.sheep_node.specs.State.{Node}
use Rattle.sheep_node.specs.StepState.{StepState, at_first}
use Rattle.sheep_node.proofs.StepChain.{untaken}
use Rattle.sheep_world.specs.Began.{Began}
use Rattle.sheep_world.specs.BegunRequests.{WasBegun}
use Rattle.sheep_world.specs.Effects.{open_disk_at}
use Rattle.sheep_world.specs.HistoryAdditions.{check_write_grown}
use Rattle.sheep_world.specs.NodeCauses.{NodeCause, GuestAsks, RequestComes, ReplyComes, LossIsTold, EntryIsRead, EntryIsPut, RecoveryTicks}
use Rattle.sheep_world.specs.NodeCauses.{WorkIsRetried, ClientAsks, input_of_cause, IsCause}
use Rattle.sheep_world.specs.World.{Host, World, is_host_up, node_at, progress_at}
use Rattle.sheep_world.proofs.SessionNumbers.{once}
use Rattle.overlap_law.specs.HistoryGrowth.{added_at_cause, check_write_at}
use Rattle.overlap_law.specs.MomentChanges.{RunsAreInRange}
use Rattle.overlap_law.specs.ToldReads.{begins_write_at}
use Rattle.overlap_law.proofs.BegunWriters.{IsBegunWriter}
use Rattle.overlap_law.proofs.CausedWorks.{IsNotServed}
use Rattle.overlap_law.proofs.CheckedBefore.{checks, left_listed, old, on_before, same_disk}
use Rattle.overlap_law.proofs.CheckedCourses.{is_left, is_left_at}
use Rattle.overlap_law.proofs.CheckedMoments.{checks_so, one_check}
use Rattle.overlap_law.proofs.CheckedPlaces.{IsOfOwnObject, of_write}
use Rattle.overlap_law.proofs.CheckedSteps.{IsSameDisk, WasCheck}
use Rattle.overlap_law.proofs.ComingWrites.{IsComing, coming}
use Rattle.overlap_law.proofs.CoursesOfAsks.{IsPlacedIn}
use Rattle.overlap_law.proofs.CoursesOfScript.{asked_by, BeganOn, requests_placed}
use Rattle.overlap_law.proofs.EndingWrites.{none_at}
use Rattle.overlap_law.proofs.FoundInSteps.{check_line}
use Rattle.overlap_law.proofs.ItemsAtBegin.{check_begins, request_begins}
use Rattle.overlap_law.proofs.ItemsOfReplies.{is_check_at, is_write_at}
use Rattle.overlap_law.proofs.ItemsOfRequests.{begins_write_of}
use Rattle.overlap_law.proofs.LongValues.{value-long}
use Rattle.overlap_law.proofs.SessionsOfRequests.{are_scripts}
use Rattle.overlap_law.proofs.StandingInRuns.{check_no_write}
use Rattle.overlap_law.proofs.StandingSteps.{sound}
use Rattle.overlap_law.proofs.UnansweredRequests.{others_unreplied}
use Rattle.overlap_law.proofs.WholeInRuns.{sound_here}
use Rattle.overlap_law.proofs.AsksInCauses.{not_begun}

-- of each check of a node
abbrev pub HasBegunOwn : List HistEvent → Node → Type 0
HasBegunOwn history node = (req session : ℕ) (check : Check)
    → tree.get node.requests req ≡ Some (record { session = session; course = Checking check }) → (disk : Disk)
    → (session_among session node.sessions).disk ≡ Some disk → (block : ℕ)
    → list_any (begins_write_at req check.vid block) history ≡ true → IsOfOwnObject disk.inode check.spec block

-- no write of a check of a node begins
abbrev pub BeginsNoneOf : List HistEvent → Node → Type 0
BeginsNoneOf grown node = (req session : ℕ) (check : Check)
    → tree.get node.requests req ≡ Some (record { session = session; course = Checking check })
    → list_any (begins_write_of req) grown ≡ false

pub own_grown : (history grown : List HistEvent) (node : Node) → BeginsNoneOf grown node → HasBegunOwn history node
    → HasBegunOwn (history ++ grown) node
own_grown history grown node none all req session check got disk on block begins = ⊎_elim
    (λ (old : list_any (begins_write_at req check.vid block) history ≡ true). all req session check got disk on block old)
    (λ (new : list_any (begins_write_at req check.vid block) grown ≡ true).
    let never = none_at req check.vid block grown (none req session check got) in absurd (cc (new, never)))
    (or_cases (list_any (begins_write_at req check.vid block) history) (list_any (begins_write_at req check.vid block) grown)
    (sym (list_any-append (begins_write_at req check.vid block) history grown) ∙ begins))

-- who begins a write of a block begins a write
begins_of : (req vid block : ℕ) (events : List HistEvent) → list_any (begins_write_at req vid block) events ≡ true
    → list_any (begins_write_of req) events ≡ true
begins_of req vid block events begins = by_value (list_any (begins_write_of req) events) refl
  where
    by_value : (b : Bool) → list_any (begins_write_of req) events ≡ b → list_any (begins_write_of req) events ≡ true
    by_value true is = is
    by_value false none = let never = none_at req vid block events none in absurd (cc (begins, never))

-- the object of a write to which a check comes was left to the check
record IsCompared (write : CheckWrite) (check : Check) : Type 0 where
  left : is_left write.index check ≡ true
  spec : write.spec ≡ check.spec

compared : (write : CheckWrite) (check : Check) (bytes : List ℕ) (stage : CheckStage) → check.stage ≡ stage
    → option_map (write_of_value write.req check) (value_at_stage bytes check.spec stage) ≡ Some write → IsCompared write check
compared write check bytes (Comparing index later) at comes =
    let same : index ≡ write.index = ap (λ (w : CheckWrite). w.index) (same_Some _ write comes) in
    record {
      left = ap (is_left_at write.index) at
          ∙ (λ i. eq-eqb index write.index same i || list_any (λ (left : ℕ). left == write.index) later);
      spec = sym (ap (λ (w : CheckWrite). w.spec) (same_Some _ write comes));
    }
compared write check bytes (WritingBack later) at comes = absurd (cc (comes))
compared write check bytes Answered at comes = absurd (cc (comes))

module _ (script : List Statement) (range : RunsAreInRange script) (world : World) (began : Began script world) (n : ℕ) (host : Host)
    (there : tree.get world.hosts n ≡ Some host) (up : is_host_up host ≡ true) where
  -- ---- what the beginning of a step adds of a check

  record ComesTo (cause : NodeCause) (req : ℕ) : Type 0 where
    comes : CheckWrite
    own : comes.req ≡ req
    added : added_at_cause script world cause ≡ check_write_grown script comes
    has : IsComing comes host.node
    compares : IsCompared comes has.check
    spec : IsSpec comes.spec
    long : length comes.value ≡ 2 ^ comes.spec.shift

  -- is its write, at this node
  begins_check : (cause : NodeCause) → IsCause script world n host cause → (req : ℕ) → is_check_at script req ≡ true
      → list_any (begins_write_of req) (added_at_cause script world cause) ≡ true → ComesTo cause req
  begins_check (GuestAsks session other ask) caused req is begins =
      let starts = request_begins req other (open_disk_at session world) (request_at script other) begins in
      let write : is_write_at script req ≡ true = ap (is_write_at script) (sym starts.0) ∙ starts.2 in
      let no_write = check_no_write (request_at script req) is in absurd (cc (write, no_write))
  begins_check (RequestComes name to request) caused req is begins = absurd (cc (begins))
  begins_check (ReplyComes name from rsp) caused req is begins =
      let (comes, found, own, checked) = check_begins script req (check_write_at world (ReplyComes name from rsp)) begins in
      let on : check_write_on (inputs.Reply rsp) host.node ≡ Some comes
      = sym (ap (λ (k : ℕ). option_and_then (check_write_on (inputs.Reply rsp)) (node_at k world)) caused.here
      ∙ ap (λ (o : Option Host). option_and_then (check_write_on (inputs.Reply rsp)) (option_map (λ (h : Host). h.node) o)) there)
      ∙ found in
      let has = coming comes rsp host.node on in
      let here = sound_here script range world began n host there up in
      let of = compared comes has.check has.bytes has.check.stage refl has.comes in
      let is_spec = (here.sound_works.courses comes.req (record { session = has.session; course = Checking has.check }) has.there).spec in
      record {
        comes = comes;
        own = own;
        added = ap (λ (o : Option CheckWrite). option_map_or (check_write_grown script) o []) found;
        has = has;
        compares = of;
        spec = subst IsSpec (sym of.spec) is_spec;
        long = value-long comes rsp host.node here on;
      }
  begins_check (LossIsTold name packet) caused req is begins = absurd (cc (begins))
  begins_check (EntryIsRead entry) caused req is begins = absurd (cc (begins))
  begins_check (EntryIsPut entry) caused req is begins = absurd (cc (begins))
  begins_check RecoveryTicks caused req is begins = absurd (cc (begins))
  begins_check WorkIsRetried caused req is begins = absurd (cc (begins))
  begins_check (ClientAsks number asks) caused req is begins = absurd (cc (begins))

  -- the node has the check
  has_it : (cause : NodeCause) (req : ℕ) (to : ComesTo cause req)
      → tree.get host.node.requests req ≡ Some (record { session = to.has.session; course = Checking to.has.check })
  has_it cause req to = ap (tree.get host.node.requests) (sym to.own) ∙ to.has.there

  -- so no write of a check of another node begins
  pub none_of_others : (cause : NodeCause) → IsCause script world n host cause → (m : ℕ) (other : Host) → m ≢ n
      → tree.get world.hosts m ≡ Some other → BeginsNoneOf (added_at_cause script world cause) other.node
  none_of_others cause caused m other apart found req session check got =
      by_value (list_any (begins_write_of req) (added_at_cause script world cause)) refl
    where
      is_check : is_check_at script req ≡ true
      is_check =
          let (start, at, so) = subst (IsPlacedIn (asked_by script) (BeganOn script world.guests) req other.node.sessions) got
          (requests_placed script range world began m other found req) in
          check_line (request_at script req) so.of

      by_value : (b : Bool) → list_any (begins_write_of req) (added_at_cause script world cause) ≡ b
          → list_any (begins_write_of req) (added_at_cause script world cause) ≡ false
      by_value false none = none
      by_value true begins =
          let to = begins_check cause caused req is_check begins in
          let here = are_scripts script range.is_script world began n host there req
          (record { session = to.has.session; course = Checking to.has.check }) (has_it cause req to) refl in
          absurd (others_unreplied script n m host.incarnation other.incarnation req to.has.session session apart here
          (are_scripts script range.is_script world began m other found req (record { session = session; course = Checking check }) got
          refl))

  -- ---- a request that comes with the step

  unbegun : (cause : NodeCause) → IsCause script world n host cause → (req number : ℕ) (ask : Ask)
      → input_of_cause cause ≡ inputs.Guest req number ask → (q : ℕ) → WasBegun script world.guests q req → ⊥
  unbegun (GuestAsks session other its) caused req number ask from q was =
      let own : other ≡ req = cc (from) in
      let begun = subst (WasBegun script world.guests q) (sym own) was in
      let same = once 1 (requests_of script) session.number q
      (progress_at session.number world).begun begun.place other caused.next begun.there in
      let place : (progress_at session.number world).begun ≡ begun.place = same.1 in
      let below : begun.place < (progress_at session.number world).begun
      = subst (λ (k : ℕ). begun.place < (progress_at k world).begun) (sym same.0) begun.before in
      omega (arith, place, below)
  unbegun (RequestComes name to request) caused req number ask from q was = absurd (cc (from))
  unbegun (ReplyComes name sender rsp) caused req number ask from q was = absurd (cc (from))
  unbegun (LossIsTold name packet) caused req number ask from q was = absurd (cc (from))
  unbegun (EntryIsRead entry) caused req number ask from q was = absurd (cc (from))
  unbegun (EntryIsPut entry) caused req number ask from q was = absurd (cc (from))
  unbegun RecoveryTicks caused req number ask from q was = absurd (cc (from))
  unbegun WorkIsRetried caused req number ask from q was = absurd (cc (from))
  unbegun (ClientAsks begins what) caused req number ask from q was =
      let same : begins ≡ req = cc (from) in not_begun caused q req same was

  -- ---- as far as a step has come

  module _ (cause : NodeCause) (not_served : IsNotServed cause) (caused : IsCause script world n host cause) (so_far : StepState)
      (leads : Leads (input_of_cause cause) host.node (input_received (input_of_cause cause) (at_first host.node)) so_far)
      (history rest : List HistEvent) (rests : (r : ℕ) → list_any (begins_write_of r) rest ≡ false) where
    module _ (req session : ℕ) (check : Check)
        (got : tree.get so_far.node.requests req ≡ Some (record { session = session; course = Checking check })) (disk : Disk)
        (on : (session_among session so_far.node.sessions).disk ≡ Some disk) (block : ℕ)
        (begins : list_any (begins_write_at req check.vid block) (history ++ (added_at_cause script world cause ++ rest)) ≡ true) where
      abbrev begins_it : HistEvent → Bool
      begins_it = begins_write_at req check.vid block

      -- what begins it is of the history, or of what the step added as it began
      by_parts : (P : Type 0) → (list_any (begins_write_at req check.vid block) history ≡ true → P)
          → (list_any (begins_write_at req check.vid block) (added_at_cause script world cause) ≡ true → P) → P
      by_parts P old new = ⊎_elim
          old
          (λ (later : list_any begins_it (added_at_cause script world cause ++ rest) ≡ true). ⊎_elim
          new
          (λ (last : list_any begins_it rest ≡ true).
          let never = none_at req check.vid block rest (rests req) in absurd (cc (last, never)))
          (or_cases (list_any begins_it (added_at_cause script world cause)) (list_any begins_it rest)
          (sym (list_any-append begins_it (added_at_cause script world cause) rest) ∙ later)))
          (or_cases (list_any begins_it history) (list_any begins_it (added_at_cause script world cause ++ rest))
          (sym (list_any-append begins_it history (added_at_cause script world cause ++ rest)) ∙ begins))

      is_check : is_check_at script req ≡ true
      is_check = checks_so script range world began n host there up cause not_served caused so_far leads req session check got

      -- one that comes with the step has begun none
      pub brought_none : ((r : ℕ) → list_any (begins_write_of r) history ≡ true → IsBegunWriter script r world.guests) → (number : ℕ)
          (ask : Ask) → input_of_cause cause ≡ inputs.Guest req number ask → ⊥
      brought_none known number ask from = by_parts ⊥ before now
        where
          before : list_any (begins_write_at req check.vid block) history ≡ true → ⊥
          before is =
              let was = known req (begins_of req check.vid block history is) in
              unbegun cause caused req number ask from was.session was.begun

          now : list_any (begins_write_at req check.vid block) (added_at_cause script world cause) ≡ true → ⊥
          now is =
              let to = begins_check cause caused req is_check (begins_of req check.vid block (added_at_cause script world cause) is) in
              let some = has_it cause req to in
              let none : tree.get host.node.requests req ≡ None
              = untaken host.node req
              (subst (λ (i : Input). MeetsNumbers i host.node) from (sound script range world began n host there up cause not_served
              caused).0) in
              cc (some, none)

      -- one that was there
      module _ (all : HasBegunOwn history host.node) (was : Request) (had : tree.get host.node.requests req ≡ Some was) where
        abbrev first : WasCheck script range world began n host there up cause not_served caused req
            (checks script range world began n host there up cause not_served caused so_far leads req session check got was had) was had
        first = old script range world began n host there up cause not_served caused so_far leads req session check got was had

        same : IsSameDisk check first.check
        same = same_disk script range world began n host there up cause not_served caused so_far leads req session check got was had

        before_own : list_any (begins_write_at req check.vid block) history ≡ true → IsOfOwnObject disk.inode check.spec block
        before_own is =
            subst (λ (s : VdiSpec). IsOfOwnObject disk.inode s block) (sym same.spec)
            (all req was.session first.check first.got disk
            (on_before script range world began n host there up cause not_served caused so_far leads req session check got was had disk on)
            block (subst (λ (v : ℕ). list_any (begins_write_at req v block) history ≡ true) same.vid is))

        now_own : list_any (begins_write_at req check.vid block) (added_at_cause script world cause) ≡ true
            → IsOfOwnObject disk.inode check.spec block
        now_own is =
            let to = begins_check cause caused req is_check (begins_of req check.vid block (added_at_cause script world cause) is) in
            let of = of_write to.comes to.spec to.long script req check.vid block
            (subst (λ (events : List HistEvent). list_any (begins_write_at req check.vid block) events ≡ true) to.added is) in
            let its : to.has.check ≡ first.check
            = one_check (tree.get host.node.requests req) to.has.session was.session to.has.check first.check (has_it cause req to)
            first.got in
            let spec : to.comes.spec ≡ check.spec
            = to.compares.spec ∙ ap (λ (c : Check). c.spec) its ∙ sym same.spec in
            let left : is_left to.comes.index first.check ≡ true
            = subst (λ (c : Check). is_left to.comes.index c ≡ true) its to.compares.left in
            subst (λ (s : VdiSpec). IsOfOwnObject disk.inode s block) spec
            (record {
              index = to.comes.index;
              unit = of.unit;
              listed = left_listed script range world began n host there up cause not_served caused so_far leads req session check got was
                  had disk on to.comes.index left;
              inside = of.inside;
              at = of.at;
            })

        pub had_own : IsOfOwnObject disk.inode check.spec block
        had_own = by_parts (IsOfOwnObject disk.inode check.spec block) before_own now_own
