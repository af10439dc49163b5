use Rattle.std.proofs.Common.{OnOk, ◌≡◌, ◌∙◌, ap, sym, subst}
use Rattle.std.specs.Option.{option_copied}
use Rattle.sheep_node.specs.StepState.{StepState}
use Rattle.sheep_node.specs.Courses.{driver_acted}
use Rattle.sheep_node.proofs.TurnSteps.{begun_on_disk}
use Rattle.sheep_node.proofs.step_state.StepState.begin_on_disk.Goals as goal

pub returns : goal.returns
returns c =
    let number = c.args.number in
    let req = c.args.req in
    let driver = c.in_ok-driver-in-Some.driver in
    let act = c.in_ok-driver-in-Some.act in
    subst (λ (after : StepState). OnOk c.driver_act.result (c.driver_act.new.self ≡ after))
    (ap (driver_acted number req act) c.in_ok-set_course.ensures
    ∙ begun_on_disk number req c.args.ask driver act c.in-Some.disk.now c.args.self.now
    (sym c.disk.ensures ∙ ap option_copied c.in-Some.is) c.in_ok-driver-in-Some.ensures.step)
    c.driver_act.ensures
