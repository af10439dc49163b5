use Rattle.std.proofs.Common.{OnOk, Option, Some, ◌≡◌, ◌∙◌, ap, sym, subst}
use Rattle.sheep_node.specs.declared.course.Request.{Request}
use Rattle.sheep_node.specs.StepState.{StepState, with_course}
use Rattle.sheep_node.specs.Kept.{told_at}
use Rattle.sheep_node.specs.InStep.{MayBeTold, MayBeToldIfThere}
use Rattle.sheep_node.proofs.CourseSteps.{taken_of_none, put_back}
use Rattle.sheep_node.proofs.step_state.StepState.tell.Goals as goal

pub tell_request-requires : goal.tell_request-requires
tell_request-requires c =
    let request = c.in-Some.request in
    let req = c.args.req in
    let there = sym c.take_request.ensures.request ∙ c.in-Some.is in
    subst (MayBeTold req c.args.decision request)
    (sym (ap (with_course request.session req request.course) c.take_request.ensures.others
    ∙ put_back request.session req request.course c.args.self.now there))
    (subst (λ (request : Option Request). MayBeToldIfThere req c.args.decision request c.args.self.now) there c.requires)

pub returns-in-Some : goal.returns-in-Some
returns-in-Some c =
    let request = c.in-Some.request in
    let req = c.args.req in
    let there = sym c.take_request.ensures.request ∙ c.in-Some.is in
    subst (λ (after : StepState). OnOk c.tell_request.result (c.tell_request.new.self ≡ after))
    (ap (told_at req c.args.decision (Some request))
    (ap (with_course request.session req request.course) c.take_request.ensures.others
    ∙ put_back request.session req request.course c.args.self.now there)
    ∙ sym (ap (λ (request : Option Request). told_at req c.args.decision request c.args.self.now) there))
    c.tell_request.ensures

pub returns-in-None : goal.returns-in-None
returns-in-None c =
    let req = c.args.req in
    let none = sym c.take_request.ensures.request ∙ c.in-None.is in
    c.take_request.ensures.others ∙ taken_of_none req c.args.self.now none
    ∙ sym (ap (λ (request : Option Request). told_at req c.args.decision request c.args.self.now) none)
