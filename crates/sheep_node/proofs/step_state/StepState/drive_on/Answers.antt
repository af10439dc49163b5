use Rattle.std.proofs.Common.{OnOk, Ok, Some, ◌≡◌, ◌∙◌, ap, sym, subst}
use Rattle.sheep_node.specs.declared.course.Course.TheVariants.{Driving}
use Rattle.sheep_node.specs.declared.session.Session.{Session}
use Rattle.sheep_node.specs.StepState.{StepState, with_course, with_disk}
use Rattle.sheep_node.specs.Courses.{driver_acted}
use Rattle.sheep_node.specs.MayBegin.{MayComeToWork}
use Rattle.sheep_node.proofs.StepStates.{session_changed}
use Rattle.sheep_node.proofs.CourseSteps.{drove}
use Rattle.sheep_node.proofs.step_state.StepState.drive_on.Goals as goal

pub driver_act-requires-clause-may : goal.driver_act-requires-clause-may
driver_act-requires-clause-may c =
    let number = c.args.number in
    let req = c.args.done.now.req in
    let change : Session → Session = λ (session : Session). record session { disk = Some c.on_done.new.disk } in
    let changed : c.put_session.new.self ≡ with_disk number (Some c.on_done.new.disk) c.args.self.now
    = session_changed {E = Unit {0}} change number c.args.self.now c.take_session-session.new.self c.put_session.new.self c.take_session-session.result (Ok (tt {0}))
    c.take_session-session.ensures.session c.take_session-session.ensures.others c.in_ok-put_session.ensures in
    subst (λ (so_far : StepState). MayComeToWork req so_far.node)
    (sym (c.in_ok-set_course.ensures ∙ ap (with_course number req (Driving c.on_done.new.self)) changed))
    (record { idle = c.requires.may.idle; given = c.requires.may.given; entered = c.requires.may.entered })

pub returns : goal.returns
returns c =
    let number = c.args.number in
    let req = c.args.done.now.req in
    let act = c.in_ok-act.act in
    let change : Session → Session = λ (session : Session). record session { disk = Some c.on_done.new.disk } in
    let changed : c.put_session.new.self ≡ with_disk number (Some c.on_done.new.disk) c.args.self.now
    = session_changed {E = Unit {0}} change number c.args.self.now c.take_session-session.new.self c.put_session.new.self c.take_session-session.result (Ok (tt {0}))
    c.take_session-session.ensures.session c.take_session-session.ensures.others c.in_ok-put_session.ensures in
    subst (λ (after : StepState). OnOk c.driver_act.result (c.driver_act.new.self ≡ after))
    (ap (driver_acted number req act) (c.in_ok-set_course.ensures ∙ ap (with_course number req (Driving c.on_done.new.self)) changed)
    ∙ drove number req c.args.done.now.bytes c.args.driver c.on_done.new.self act c.in-Some.disk c.on_done.new.disk c.args.self.now
    (ap (λ (session : Session). session.disk) (sym c.take_session-session.ensures.session) ∙ c.in-Some.is)
    c.in_ok-act.ensures.snapshot c.in_ok-act.ensures.ok)
    c.driver_act.ensures
