use Rattle.std.proofs.Common.{OnOk, Option, Some, ◌≡◌, ◌∙◌, ap, sym, subst}
use Rattle.sheep_node.specs.declared.course.Request.{Request}
use Rattle.sheep_node.specs.StepState.{StepState, with_course}
use Rattle.sheep_node.specs.Waiting.{work_done}
use Rattle.sheep_node.specs.InStep.{MayFinish, MayFinishIfThere}
use Rattle.sheep_node.proofs.CourseSteps.{taken_of_none, put_back}
use Rattle.sheep_node.proofs.step_state.StepState.finish_work.Goals as goal

pub finish_request-requires : goal.finish_request-requires
finish_request-requires c =
    let request = c.in-Some.request in
    let req = c.args.done.req in
    let there = sym c.take_request.ensures.request ∙ c.in-Some.is in
    subst (MayFinish c.args.work req c.args.done.bytes request)
    (sym (ap (with_course request.session req request.course) c.take_request.ensures.others
    ∙ put_back request.session req request.course c.args.self.now there))
    (subst (λ (request : Option Request). MayFinishIfThere c.args.work req c.args.done.bytes request c.args.self.now) there c.requires)

pub returns-in-Some : goal.returns-in-Some
returns-in-Some c =
    let request = c.in-Some.request in
    let req = c.args.done.req in
    let there = sym c.take_request.ensures.request ∙ c.in-Some.is in
    subst (λ (after : StepState). OnOk c.finish_request.result (c.finish_request.new.self ≡ after))
    (ap (work_done c.args.work req c.args.done.bytes (Some request))
    (ap (with_course request.session req request.course) c.take_request.ensures.others
    ∙ put_back request.session req request.course c.args.self.now there)
    ∙ sym (ap (λ (request : Option Request). work_done c.args.work req c.args.done.bytes request c.args.self.now) there))
    c.finish_request.ensures

pub returns : goal.returns
returns c =
    let req = c.args.done.req in
    let none = sym c.take_request.ensures.request ∙ c.in-None.is in
    c.take_request.ensures.others ∙ taken_of_none req c.args.self.now none
    ∙ sym (ap (λ (request : Option Request). work_done c.args.work req c.args.done.bytes request c.args.self.now) none)
