use Rattle.std.proofs.Common.{OnOk, Option, ◌≡◌, ◌∙◌, ap, sym, subst}
use Rattle.std.specs.Option.{option_map}
use Rattle.guest_driver.specs.InodeQueue.{Waiting, next_work}
use Rattle.guest_driver.specs.WaitingWork.{waiting_of}
use Rattle.sheep_node.specs.declared.session.Session.{Session}
use Rattle.sheep_node.specs.StepState.{StepState}
use Rattle.sheep_node.specs.RequestWorks.{work_begun}
use Rattle.sheep_node.specs.Waiting.{next_begun}
use Rattle.sheep_node.specs.MayBegin.{MayBeginWork}
use Rattle.sheep_node.proofs.InSteps.{next_may_begin}
use Rattle.sheep_node.proofs.TurnSteps.{line_moved}
use Rattle.sheep_node.proofs.step_state.StepState.begin_next.Goals as goal

pub begin_work-requires : goal.begin_work-requires
begin_work-requires c =
    let lined = line_moved c.args.number c.args.self.now c.take_session-session.new.self c.put_session.new.self c.take_session-session.result
    c.start-next.new.self c.take_session-session.ensures.session c.take_session-session.ensures.others c.in_ok-put_session.ensures c.start-next.ensures.after in
    let next = ap (λ (session : Session). next_work session.inode_queue) (sym c.take_session-session.ensures.session)
    ∙ sym c.start-next.ensures.next ∙ ap (option_map waiting_of) c.in-Some.is in
    subst (λ (so_far : StepState). MayBeginWork c.in-Some.waiting.req c.in-Some.waiting.work so_far.node) (sym lined)
    (next_may_begin c.args.self.now c.requires c.args.number (waiting_of c.in-Some.waiting) next c.in-Some.ensures.work)

pub returns-in-Some : goal.returns-in-Some
returns-in-Some c =
    let lined = line_moved c.args.number c.args.self.now c.take_session-session.new.self c.put_session.new.self c.take_session-session.result
    c.start-next.new.self c.take_session-session.ensures.session c.take_session-session.ensures.others c.in_ok-put_session.ensures c.start-next.ensures.after in
    let next = ap (λ (session : Session). next_work session.inode_queue) (sym c.take_session-session.ensures.session)
    ∙ sym c.start-next.ensures.next ∙ ap (option_map waiting_of) c.in-Some.is in
    subst (λ (after : StepState). OnOk c.begin_work.result (c.begin_work.new.self ≡ after))
    (ap (work_begun c.args.number c.in-Some.waiting.req c.in-Some.waiting.work) lined
    ∙ ap (λ (next : Option Waiting). next_begun c.args.number next c.args.self.now) (sym next))
    c.begin_work.ensures
