-- At each moment on the way of an event the works of a node go with its requests; and a request for which there is an attempt may have had
-- a work.
use Rattle.std.proofs.Common.{◌≡◌, ◌≢◌, ⊎_elim, ℕ, Bool, true, false, List, Some, slice_get, refl, sym, ap, subst, ◌∙◌}
use Rattle.std.specs.FinMap as tree
use Rattle.std.proofs.lemmas.Option.{same_Some}
use Rattle.proof_tools.proofs.FiniteMaps.{get-insert_cases}
use Rattle.cluster_script.specs.declared.statement.Statement.{Statement}
use Rattle.sheep_node.specs.declared.course.Request.{Request}
use Rattle.sheep_node.specs.OneWork.{may_work_at, HaveOneWorkPerRequest}
use Rattle.sheep_node.specs.StepState.{StepState}
use Rattle.sheep_node.proofs.NumberChanges.{both_in_chain}
use Rattle.sheep_world.specs.World.{Host, World}
use Rattle.sheep_world.specs.NodeCauses.{input_of_cause, host_with_node}
use Rattle.sheep_world.specs.Began.{Began}
use Rattle.overlap_law.specs.Attempts.{AttemptRecord}
use Rattle.overlap_law.specs.Each.{EachUp, EachAttempt}
use Rattle.overlap_law.specs.Past.{MomentWithPast}
use Rattle.overlap_law.specs.StepMoments.{SteppingNode, IsStepping, first_in_step, LeadsInStep, moment_in_step}
use Rattle.overlap_law.specs.MomentChanges.{MomentChange, RunsAreInRange}
use Rattle.overlap_law.proofs.FreshRequests.{none_for_new}
use Rattle.overlap_law.proofs.KnownFatesLater.{WasMarked}
use Rattle.overlap_law.proofs.KnownSteps.{together, known_step}
use Rattle.overlap_law.proofs.StartedAttempts.{StartedAt}
use Rattle.overlap_law.proofs.TouchedInMoments.{BeginsWith, WasUnworked, HadRequests, each_had_requests}
use Rattle.overlap_law.proofs.TrafficAttempts.{HasBegun, came_from}
use Rattle.overlap_law.proofs.TrafficOfChanges.{traffic}
use Rattle.overlap_law.proofs.UnansweredInMoments.{IsNewer}
use Rattle.overlap_law.proofs.WorkedCourses.{may_have_worked, may_work-worked}
use Rattle.overlap_law.proofs.ClosedWorlds.{world_after}

abbrev pub WorksAreDriven : MomentWithPast → Type 0
WorksAreDriven moment = (n : ℕ) (host : Host) → tree.get moment.world.hosts n ≡ Some host
    → HaveOneWorkPerRequest host.node.gateway.works host.node.requests host.node.sessions

-- a request for which there is an attempt may have had a work
abbrev pub RequestsHaveWorked : MomentWithPast → Type 0
RequestsHaveWorked moment = EachUp moment.world.hosts (λ n node. EachAttempt moment.past.attempts (λ j attempt. attempt.gateway.0 ≡ n
    → (request : Request) → tree.get node.requests attempt.req ≡ Some request → may_have_worked request.course ≡ true))

module _ (script : List Statement) (range : RunsAreInRange script) (start : MomentWithPast) (began : Began script start.world) where
  pub driven_at : (stepping : SteppingNode) → IsStepping script start.world stepping → (so_far : StepState)
      → LeadsInStep stepping (first_in_step stepping) so_far
      → WorksAreDriven (moment_in_step script stepping start so_far)
  driven_at stepping is so_far leads n host there = ⊎_elim
      (λ (here : (n ≡ stepping.n) × (host_with_node stepping.host so_far.node ≡ host)).
      subst (λ (h : Host). HaveOneWorkPerRequest h.node.gateway.works h.node.requests h.node.sessions) here.1
      (both_in_chain (input_of_cause stepping.cause) stepping.host.node (known_step script range start.world began stepping is).sound so_far
      leads).0) (λ (other : (n ≢ stepping.n) × (tree.get start.world.hosts n ≡ Some host)).
      ((together script range start.world began).driven n host other.1).driven)
      (get-insert_cases start.world.hosts stepping.n (host_with_node stepping.host so_far.node) n host there)

  pub driven_after : {before after : MomentWithPast} → MomentChange script start before after → WorksAreDriven after
  driven_after change =
      world_after script
      (λ (world : World). (n : ℕ) (host : Host) → tree.get world.hosts n ≡ Some host
      → HaveOneWorkPerRequest host.node.gateway.works host.node.requests host.node.sessions)
      (λ world began n host there. ((together script range world began).driven n host there).driven) start began
      (λ stepping is by so_far leads. driven_at stepping is so_far leads) change

  module _ (before after : MomentWithPast) (change : MomentChange script start before after) (started : StartedAt script start)
      (worked : RequestsHaveWorked before) where
    module _ (n : ℕ) (host : Host) (there : tree.get after.world.hosts n ≡ Some host) (up : host.is_lost ≡ false) (j : ℕ)
        (attempt : AttemptRecord)
        (got : slice_get after.past.attempts j ≡ Some attempt) (gateway : attempt.gateway.0 ≡ n) (request : Request)
        (asked : tree.get host.node.requests attempt.req ≡ Some request) where
      old_worked : WasMarked before.past.attempts j attempt → may_have_worked request.course ≡ true
      old_worked w = by_course (may_have_worked request.course) refl
        where
          own_request : w.was.req ≡ attempt.req
          own_request = ap (λ (a : AttemptRecord). a.req) w.same

          by_course : (b : Bool) → may_have_worked request.course ≡ b → may_have_worked request.course ≡ true
          by_course true is = is
          by_course false is = ⊎_elim
              (λ (r : HadRequests script start before n host). ⊎_elim
              (λ (u : WasUnworked r.old attempt.req).
              let yes = worked n r.old r.there r.up j w.was w.at (ap (λ (a : AttemptRecord). a.gateway.0) w.same ∙ gateway) u.request
              (ap (tree.get r.old.node.requests) own_request ∙ u.there) in
              let none = u.unworked in
              absurd (cc (yes, none)))
              (λ (b : BeginsWith script start before attempt.req).
              absurd (none_for_new script start before started j w.was w.at (subst (BeginsWith script start before) (sym own_request) b)))
              (r.courses attempt.req request asked is))
              (λ (newer : IsNewer before n host). absurd (newer.none attempt.req request asked))
              (each_had_requests script range start began change n host there up)

      new_worked : HasBegun before.world.hosts after.world.hosts attempt → may_have_worked request.course ≡ true
      new_worked b =
          let same : b.begun.sent_by.after ≡ host
          = same_Some b.begun.sent_by.after host (sym b.begun.sent_by.there_after
          ∙ ap (tree.get after.world.hosts) (sym b.begun.gateway ∙ gateway) ∙ there) in
          let may : may_work_at (tree.get host.node.requests attempt.req) ≡ true
          = (driven_after change n host there).open_works attempt.req b.begun.work
          (ap (λ (h : Host). tree.get h.node.gateway.works attempt.req) (sym same) ∙ b.begun.opened.there) in
          may_work-worked request.course (sym (ap may_work_at asked) ∙ may)

    pub change_worked : RequestsHaveWorked after
    change_worked n host there up j attempt got gateway request asked =
        ⊎_elim (old_worked n host there up j attempt got gateway request asked)
        (new_worked n host there up j attempt got gateway request asked)
        (came_from before.world.hosts after.world.hosts before.world.wire before.past.attempts (traffic script range start began change) j
        attempt got)
