-- A check that has come to a write has come to one as long as its node has it: each change of a step keeps that.
use Rattle.std.proofs.Common.{◌≡◌, ◌≢◌, ℕ, ◌+◌, arith, true, List, [], ◌∷◌, Some, sym, ap, ◌∙◌}
use Rattle.std.specs.Prelude.{nat_lt}
use Rattle.std.proofs.lemmas.Bool.{lt-ltb}
use Rattle.std.proofs.lemmas.Option.{same_Some}
use Rattle.peer_proto.specs.declared.guest.GuestRsp.{GuestRsp}
use Rattle.disk_check.specs.Check.{Check, CheckStep, CheckStage, Comparing, WritingBack, Answered, check_on_done, check_done_at}
use Rattle.sheep_node.specs.declared.ask.Ask.{Ask}
use Rattle.sheep_node.specs.declared.input.Input.{Input}
use Rattle.sheep_node.specs.declared.input.Input.TheVariants as inputs
use Rattle.sheep_node.specs.declared.course.Course.{Course}
use Rattle.sheep_node.specs.Changes.{Change}
use Rattle.sheep_node.specs.CheckWrites.{has_course_written}
use Rattle.sheep_node.specs.State.{Node}
use Rattle.sheep_node.specs.Step.{node_step}
use Rattle.sheep_node.specs.StepState.{StepState, request_ended}
use Rattle.sheep_node.proofs.OneWorkParts.{Requests}
use Rattle.overlap_law.proofs.CoursesStepOn.{IsKeptByCourses, IsSoAmong, change_so, ended_so, step-so}

-- a check that goes on has found as many own objects as before, or one more
check_goes_on-written : (bytes : List ℕ) (check : Check) (step : CheckStep) → check_on_done bytes check ≡ Some step
    → nat_lt 0 check.found.objects ≡ true → nat_lt 0 step.check.found.objects ≡ true
unfolding check_on_done
check_goes_on-written bytes check step is has = by_stage check.stage is
  where
    by_stage : (stage : CheckStage) → check_done_at bytes check stage ≡ Some step → nat_lt 0 step.check.found.objects ≡ true
    by_stage (Comparing index later) is =
        ap (λ (s : CheckStep). nat_lt 0 s.check.found.objects) (sym (same_Some _ step is))
        ∙ lt-ltb 0 (check.found.objects + 1) (omega arith)
    by_stage (WritingBack []) is = ap (λ (s : CheckStep). nat_lt 0 s.check.found.objects) (sym (same_Some _ step is)) ∙ has
    by_stage (WritingBack (index ∷ later)) is = ap (λ (s : CheckStep). nat_lt 0 s.check.found.objects) (sym (same_Some _ step is)) ∙ has
    by_stage Answered is = absurd (cc (is))

abbrev pub IsWritten : Course → Type 0
IsWritten course = has_course_written course ≡ true

module _ (req : ℕ) where
  -- the request, where it is there, has come to a write
  abbrev pub HasWritten : Requests → Type 0
  HasWritten = IsSoAmong req IsWritten

  parts : (input : Input) (node : Node) → IsKeptByCourses req IsWritten input node
  parts input node = record {
    begins = λ ask driver is. absurd (cc (is));
    drives = λ driver next is. absurd (cc (is));
    commands = λ op next is. absurd (cc (is));
    checks = λ so_far session number work attempt status bytes check step ends is has. check_goes_on-written bytes check step is has;
  }

  pub ended_written : (session other : ℕ) (reply : GuestRsp) (so_far : StepState) → HasWritten so_far.node.requests
      → HasWritten (request_ended session other reply so_far).node.requests
  ended_written = ended_so req IsWritten

  module _ (input : Input) (node : Node) (old : (session : ℕ) (ask : Ask) → input ≢ inputs.Guest req session ask) where
    pub change_written : (so_far next : StepState) → Change input node so_far next → HasWritten so_far.node.requests
        → HasWritten next.node.requests
    change_written = change_so req IsWritten input node (parts input node) (λ session ask is. absurd (old session ask is))

    -- so it is behind a step that doesn't begin with this request
    pub step-written : HasWritten node.requests → HasWritten (node_step input node).node.requests
    step-written = step-so req IsWritten input node (parts input node) (λ session ask is. absurd (old session ask is))
