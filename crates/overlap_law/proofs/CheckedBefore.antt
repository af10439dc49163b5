-- A check that a node has in the middle of a step, and had as the step began, was of the same disk then, which its session had open; and
-- what it had left to write then is of own objects.
use Rattle.std.proofs.Common.{◌≡◌, ℕ, ◌==◌, true, List, ◌++◌, Option, Some, refl, sym, ap, subst, ◌∙◌}
use Rattle.std.specs.List.{list_any}
use Rattle.std.specs.FinMap as tree
use Rattle.std.proofs.lemmas.Bool.{or_right}
use Rattle.std.proofs.lemmas.List.Folds.{list_any-append}
use Rattle.std.proofs.lemmas.Option.{same_Some}
use Rattle.cluster_script.specs.declared.statement.Statement.{Statement}
use Rattle.disk_check.specs.Check.{Check, CheckStage, Comparing, WritingBack, Answered, left_of}
use Rattle.disk_check.specs.Table.{own_indexes}
use Rattle.guest_driver.specs.declared.disk.Disk.{Disk}
use Rattle.sheep_node.specs.declared.course.Course.TheVariants.{Checking}
use Rattle.sheep_node.specs.declared.course.Request.{Request}
use Rattle.sheep_node.specs.Changes.{Leads, input_received}
use Rattle.sheep_node.specs.SessionQueues.{session_among}
use Rattle.sheep_node.specs.StepState.{StepState, at_first}
use Rattle.sheep_world.specs.Began.{Began}
use Rattle.sheep_world.specs.NodeCauses.{NodeCause, input_of_cause, IsCause}
use Rattle.sheep_world.specs.World.{Host, World, is_host_up}
use Rattle.overlap_law.specs.MomentChanges.{RunsAreInRange}
use Rattle.overlap_law.specs.RequestsOfScript.{IsCheckOfAsk, indexes_left}
use Rattle.overlap_law.proofs.CausedWorks.{IsNotServed}
use Rattle.overlap_law.proofs.CheckedCourses.{disk_stays, is_left}
use Rattle.overlap_law.proofs.CheckedMoments.{checks_so}
use Rattle.overlap_law.proofs.CheckedSteps.{IsSameDisk, WasCheck, same_check, was_check}
use Rattle.overlap_law.proofs.CoursesOfAsks.{IsPlacedIn}
use Rattle.overlap_law.proofs.CoursesOfScript.{asked_by, BeganOn, requests_placed}
use Rattle.overlap_law.proofs.ItemsOfReplies.{is_check_at}
use Rattle.overlap_law.proofs.SessionsOfRequests.{by_line, are_asked_by_line, of_test}
use Rattle.overlap_law.proofs.StandingSteps.{asked}
use Rattle.cluster_script.specs.Statements.{is_check}

pub left_same : (stage : CheckStage) → indexes_left stage ≡ left_of stage
left_same (Comparing index later) = refl
left_same (WritingBack later) = refl
left_same Answered = refl

module _ (script : List Statement) (range : RunsAreInRange script) (world : World) (began : Began script world) (n : ℕ) (host : Host)
    (there : tree.get world.hosts n ≡ Some host) (up : is_host_up host ≡ true) (cause : NodeCause) (not_served : IsNotServed cause)
    (caused : IsCause script world n host cause) (so_far : StepState)
    (leads : Leads (input_of_cause cause) host.node (input_received (input_of_cause cause) (at_first host.node)) so_far) (req session : ℕ)
    (check : Check) (got : tree.get so_far.node.requests req ≡ Some (record { session = session; course = Checking check }))
    (was : Request) (had : tree.get host.node.requests req ≡ Some was) where
  abbrev pub checks : is_check_at script req ≡ true
  checks = checks_so script range world began n host there up cause not_served caused so_far leads req session check got

  abbrev pub old : WasCheck script range world began n host there up cause not_served caused req checks was had
  old = was_check script range world began n host there up cause not_served caused req checks was had

  pub same_disk : IsSameDisk check old.check
  same_disk =
      same_check script range world began n host there up cause not_served caused req checks was had so_far leads session check got

  session_is : session ≡ was.session
  session_is =
      let now = by_line script n host.incarnation req session
      ((asked script range world began n host there up cause not_served caused so_far leads).asked req
      (record { session = session; course = Checking check }) got) (of_test script is_check req checks) in
      let before = are_asked_by_line script world began n host there req was had (of_test script is_check req checks) in
      same_Some session was.session (sym now.asking ∙ before.asking)

  module _ (disk : Disk) (on : (session_among session so_far.node.sessions).disk ≡ Some disk) where
    pub on_before : (session_among was.session host.node.sessions).disk ≡ Some disk
    on_before =
        subst (λ (k : ℕ). (session_among k host.node.sessions).disk ≡ Some disk) session_is
        (disk_stays script range world began n host there up cause not_served caused req checks was had leads session check got disk on)

    pub left_listed : (index : ℕ) → is_left index old.check ≡ true → list_any (λ own. own == index) (own_indexes disk.inode) ≡ true
    left_listed index left =
        let (start, at, so) = subst (IsPlacedIn (asked_by script) (BeganOn script world.guests) req host.node.sessions) old.got
        (requests_placed script range world began n host there req) in
        by_place start so
      where
        by_place : (start : Option ℕ)
            → IsCheckOfAsk (asked_by script req) (session_among was.session host.node.sessions).disk start old.check
            → list_any (λ own. own == index) (own_indexes disk.inode) ≡ true
        by_place start so =
            let same : so.on.disk ≡ disk = same_Some so.on.disk disk (sym so.on.there ∙ on_before) in
            let all : own_indexes disk.inode ≡ so.is.before ++ left_of old.check.stage
            = sym (ap (λ (d : Disk). own_indexes d.inode) same) ∙ sym so.is.indexes
            ∙ ap (λ (list : List ℕ). so.is.before ++ list) (left_same old.check.stage) in
            ap (list_any (λ (own : ℕ). own == index)) all
            ∙ list_any-append (λ (own : ℕ). own == index) so.is.before (left_of old.check.stage)
            ∙ or_right (list_any (λ (own : ℕ). own == index) so.is.before)
            (list_any (λ (own : ℕ). own == index) (left_of old.check.stage)) left
