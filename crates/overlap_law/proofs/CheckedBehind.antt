-- As far as a step of a node has come, each own object that a check of it has left has begun to be written, by the history so far.
use Rattle.std.proofs.Common.{◌≡◌, ⊎_elim, ℕ, ◌==◌, Bool, true, false, not, List, [], ◌∷◌, ◌++◌, length, Some, None, refl, sym, ap, subst}
use Rattle.std.proofs.Common.{arith, ◌∙◌}
use Rattle.std.specs.Prelude.{nat_lt}
use Rattle.std.specs.List.{list_any}
use Rattle.std.specs.Ordering.{nat_cmp}
use Rattle.std.specs.FinMap as tree
use Rattle.std.proofs.lemmas.Bool.{and_from, and_parts, lt-ltb, not-true}
use Rattle.std.proofs.lemmas.Option.{same_Some}
use Rattle.cluster_script.specs.declared.statement.Statement.{Statement}
use Rattle.disk_check.specs.Check.{Check, write_value}
use Rattle.disk_check.specs.Table.{own_indexes}
use Rattle.disk_history.specs.declared.event.HistEvent.{HistEvent}
use Rattle.guest_driver.specs.declared.disk.Disk.{Disk}
use Rattle.sheep_node.specs.declared.ask.Ask.{Ask}
use Rattle.sheep_node.specs.declared.course.Course.TheVariants.{Checking}
use Rattle.sheep_node.specs.declared.course.Request.{Request}
use Rattle.sheep_node.specs.declared.input.Input.{Input}
use Rattle.sheep_node.specs.declared.input.Input.TheVariants as inputs
use Rattle.sheep_node.specs.Changes.{IsTold, Leads, MeetsNumbers, input_received}
use Rattle.sheep_node.specs.CheckWrites.{has_course_written}
use Rattle.sheep_node.specs.SessionQueues.{session_among}
use Rattle.sheep_node.specs.State.{Node}
use Rattle.sheep_node.specs.StepState.{StepState, at_first, session_in}
use Rattle.sheep_node.proofs.ReceivedInputs.{received_keeps}
use Rattle.sheep_node.proofs.StepChain.{kept_by_chain, untaken}
use Rattle.sheep_world.specs.Began.{Began}
use Rattle.sheep_world.specs.NodeCauses.{NodeCause, input_of_cause, IsCause, progress_at_cause}
use Rattle.sheep_world.specs.World.{Host, World, is_host_up}
use Rattle.overlap_law.specs.Checks.{has_come_to}
use Rattle.overlap_law.specs.HistoryGrowth.{added_at_cause}
use Rattle.overlap_law.specs.MomentChanges.{RunsAreInRange}
use Rattle.overlap_law.specs.RequestsOfScript.{IsCheckOfAsk, indexes_left}
use Rattle.overlap_law.proofs.BegunWriters.{IsBegunWriter}
use Rattle.overlap_law.proofs.CausedWorks.{IsNotServed}
use Rattle.overlap_law.proofs.CheckedBefore.{checks, left_same, old, on_before, same_disk}
use Rattle.overlap_law.proofs.CheckedCourses.{is_left, left_begun}
use Rattle.overlap_law.proofs.CheckedMoments.{HasBegunValues, begun_before, begun_behind, disk_so, here, values_grown, values_then}
use Rattle.overlap_law.proofs.CheckedOwn.{BeginsNoneOf, HasBegunOwn, brought_none, had_own, own_grown}
use Rattle.overlap_law.proofs.CheckedStarts.{IsBegunAt}
use Rattle.overlap_law.proofs.CheckedSteps.{IsSameDisk, WasCheck}
use Rattle.overlap_law.proofs.CoursesOfAsks.{IsPlacedAt, course_placed}
use Rattle.overlap_law.proofs.CoursesOfScript.{asked_by, BeganOn}
use Rattle.overlap_law.proofs.CoursesStepOn.{IsSoAmong, IsSoIn, change_so}
use Rattle.overlap_law.proofs.FoundByWrites.{HoldsIfFound, untold_parts}
use Rattle.overlap_law.proofs.FoundInSteps.{begins_without}
use Rattle.overlap_law.proofs.ItemsOfRequests.{begins_write_of}
use Rattle.overlap_law.proofs.StandingSteps.{placed, sound}

-- what the checks of a node have left has begun
abbrev pub HasBegunBehind : List HistEvent → Node → Type 0
HasBegunBehind history node = (req session : ℕ) (check : Check)
    → tree.get node.requests req ≡ Some (record { session = session; course = Checking check }) → (disk : Disk)
    → (session_among session node.sessions).disk ≡ Some disk → (index : ℕ) → has_come_to index disk.inode check ≡ true
    → (value : List ℕ) × IsBegunAt history req check.vid check.spec index (write_value check index value)

-- with what they have to write, and what began is of own objects alone
abbrev pub HasBegunAll : List HistEvent → Node → Type 0
HasBegunAll history node = HasBegunValues history node × HasBegunBehind history node × HasBegunOwn history node

pub all_grown : (history grown : List HistEvent) (node : Node) → BeginsNoneOf grown node → HasBegunAll history node
    → HasBegunAll (history ++ grown) node
all_grown history grown node none all = (
  values_grown history grown node all.0,
  λ req session check got disk on index come.
      let (value, begun) = all.1 req session check got disk on index come in
      (value, begun_before history grown req check.vid check.spec index (write_value check index value) begun),
  own_grown history grown node none all.2,
)

-- a check that has left an object has counted it
has_counted : (check : Check) (first : ℕ) (more : List ℕ) → check.found.objects ≡ length (first ∷ more)
    → has_course_written (Checking check) ≡ true
has_counted check first more is = ap (nat_lt 0) is ∙ lt-ltb 0 (length (first ∷ more)) (omega arith)

module _ (script : List Statement) (range : RunsAreInRange script) (world : World) (began : Began script world) (n : ℕ) (host : Host)
    (there : tree.get world.hosts n ≡ Some host) (up : is_host_up host ≡ true) (cause : NodeCause) (not_served : IsNotServed cause)
    (caused : IsCause script world n host cause) (so_far : StepState)
    (leads : Leads (input_of_cause cause) host.node (input_received (input_of_cause cause) (at_first host.node)) so_far) where
  module _ (req session : ℕ) (check : Check)
      (got : tree.get so_far.node.requests req ≡ Some (record { session = session; course = Checking check })) (disk : Disk)
      (on : (session_among session so_far.node.sessions).disk ≡ Some disk) (index : ℕ)
      (come : has_come_to index disk.inode check ≡ true) where
    own_so : list_any (λ own. own == index) (own_indexes disk.inode) ≡ true
    own_so = (and_parts (list_any (λ own. own == index) (own_indexes disk.inode)) (not (is_left index check)) come).0

    left_so : is_left index check ≡ false
    left_so =
        not-true (is_left index check)
        (and_parts (list_any (λ own. own == index) (own_indexes disk.inode)) (not (is_left index check)) come).1

    -- of a check that began with the step nothing is behind
    brought_all_left : (number : ℕ) (ask : Ask) → input_of_cause cause ≡ inputs.Guest req number ask → ⊥
    brought_all_left number ask from = by_before so.is.before refl
      where
        none : tree.get host.node.requests req ≡ None
        none =
            untaken host.node req
            (subst (λ (i : Input). MeetsNumbers i host.node) from (sound script range world began n host there up cause not_served
            caused).0)

        at_place : IsPlacedAt (asked_by script) (BeganOn script (progress_at_cause cause world)) req (session_in session so_far).disk
            (Checking check)
        at_place =
            course_placed (asked_by script) (BeganOn script (progress_at_cause cause world)) session req (Checking check) so_far got
            (placed script range world began n host there up cause not_served caused so_far leads)

        so : IsCheckOfAsk (asked_by script req) (session_in session so_far).disk at_place.0 check
        so = at_place.2

        same : so.on.disk ≡ disk
        same = same_Some so.on.disk disk (sym so.on.there ∙ on)

        found : HoldsIfFound req ⊥ (Checking check)
        found =
            kept_by_chain (IsSoIn req (HoldsIfFound req ⊥))
            (change_so req (HoldsIfFound req ⊥) (input_of_cause cause) host.node
            (untold_parts req ⊥ (input_of_cause cause) host.node
            (λ at of told work attempt status bytes first ends.
            subst (λ (i : Input). IsTold i told status) from ends.ends.learns.told))
            (λ other asked_then own. begins_without req ⊥)) leads
            (received_keeps (λ works requests sessions. IsSoAmong req (HoldsIfFound req ⊥) requests)
            (λ r at. let empty = tree.get-empty {X = Request} nat_cmp req in absurd (cc (empty, at))) (input_of_cause cause) host.node
            (λ r at. absurd (cc (none, at))))
            (record { session = session; course = Checking check }) got

        by_before : (before : List ℕ) → so.is.before ≡ before → ⊥
        by_before [] at =
            let all : indexes_left check.stage ≡ own_indexes disk.inode
            = ap (λ (list : List ℕ). list ++ indexes_left check.stage) (sym at) ∙ so.is.indexes
            ∙ ap (λ (d : Disk). own_indexes d.inode) same in
            let here_left : is_left index check ≡ true
            = ap (list_any (λ own. own == index)) (sym (left_same check.stage) ∙ all) ∙ own_so in
            let out = left_so in
            cc (here_left, out)
        by_before (first ∷ more) at = found (has_counted check first more (so.is.objects ∙ ap (λ (list : List ℕ). length list) at))

    module _ (history : List HistEvent) (all : HasBegunBehind history host.node) (rest : List HistEvent) (was : Request)
        (had : tree.get host.node.requests req ≡ Some was) where
      abbrev first : WasCheck script range world began n host there up cause not_served caused req
          (checks script range world began n host there up cause not_served caused so_far leads req session check got was had) was had
      first = old script range world began n host there up cause not_served caused so_far leads req session check got was had

      same : IsSameDisk check first.check
      same = same_disk script range world began n host there up cause not_served caused so_far leads req session check got was had

      had_behind : (value : List ℕ)
          × IsBegunAt (history ++ (added_at_cause script world cause ++ rest)) req check.vid check.spec index
          (write_value check index value)
      had_behind = by_test (is_left index first.check) refl
        where
          by_test : (b : Bool) → is_left index first.check ≡ b
              → (value : List ℕ)
              × IsBegunAt (history ++ (added_at_cause script world cause ++ rest)) req check.vid check.spec index
              (write_value check index value)
          by_test true inside =
              let (value, begun) = left_begun script range world began n host there up cause not_served caused req
              (checks script range world began n host there up cause not_served caused so_far leads req session check got was had) was had
              leads session check got index inside left_so in (
                value,
                begun_behind history (added_at_cause script world cause ++ rest) req check.vid check.spec index
                    (write_value check index value)
                    (begun_before (added_at_cause script world cause) rest req check.vid check.spec index (write_value check index value)
                    begun),
              )
          by_test false none =
              let on_first = on_before script range world began n host there up cause not_served caused so_far leads req session check got
              was had disk on in
              let come : has_come_to index disk.inode first.check ≡ true
              = and_from (list_any (λ own. own == index) (own_indexes disk.inode)) (not (is_left index first.check)) own_so (ap not none) in
              let (value, begun) = all req was.session first.check first.got disk on_first index come in (
                value,
                begun_before history (added_at_cause script world cause ++ rest) req check.vid check.spec index
                    (write_value check index value) (disk_so history req index value check first.check same begun),
              )

  pub all_then : (history : List HistEvent)
      → ((r : ℕ) → list_any (begins_write_of r) history ≡ true → IsBegunWriter script r world.guests) → HasBegunAll history host.node
      → (rest : List HistEvent) → ((r : ℕ) → list_any (begins_write_of r) rest ≡ false)
      → HasBegunAll (history ++ (added_at_cause script world cause ++ rest)) so_far.node
  all_then history known all rest rests = (
    values_then script range world began n host there up cause not_served caused so_far leads history all.0 rest,
    λ req session check got disk on index come. ⊎_elim
        (λ (old : (was : Request) × (tree.get host.node.requests req ≡ Some was)).
        had_behind req session check got disk on index come history all.1 rest old.0 old.1)
        (λ (new : (number : ℕ) × (ask : Ask) × (input_of_cause cause ≡ inputs.Guest req number ask)).
        absurd (brought_all_left req session check got disk on index come new.0 new.1 new.2))
        (here script range world began n host there up cause not_served caused so_far leads req session check got),
    λ req session check got disk on block begins. ⊎_elim
        (λ (old : (was : Request) × (tree.get host.node.requests req ≡ Some was)).
        had_own script range world began n host there up cause not_served caused so_far leads history rest rests req session check got disk
        on block begins all.2 old.0 old.1)
        (λ (new : (number : ℕ) × (ask : Ask) × (input_of_cause cause ≡ inputs.Guest req number ask)).
        absurd (brought_none script range world began n host there up cause not_served caused so_far leads history rest rests req session
        check got disk on block begins known new.0 new.1 new.2))
        (here script range world began n host there up cause not_served caused so_far leads req session check got),
  )
