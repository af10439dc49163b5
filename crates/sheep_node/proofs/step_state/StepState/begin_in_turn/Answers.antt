use Rattle.std.proofs.Common.{OnOk, ◌≡◌, ◌∙◌, sym, ap, subst, refl}
use Rattle.std.specs.Option.{option_map_or}
use Rattle.std.specs.FinMap as tree
use Rattle.guest_driver.specs.declared.disk.Disk.{Disk}
use Rattle.guest_driver.specs.Driver.{begin_driver}
use Rattle.sheep_node.specs.declared.course.Course.TheVariants.{Waiting}
use Rattle.sheep_node.specs.StepState.{StepState, session_in}
use Rattle.sheep_node.specs.Courses.{driver_stepped}
use Rattle.sheep_node.specs.MayBegin.{MayComeToWork}
use Rattle.sheep_node.proofs.InSteps.{may_come_to_work, asks_for_blocks}
use Rattle.sheep_node.proofs.TurnSteps.{taken_in_turn, waiting_there, turn_asks}
use Rattle.sheep_node.proofs.step_state.StepState.begin_in_turn.Goals as goal

pub begin_on_disk-requires-clause-may : goal.begin_on_disk-requires-clause-may
begin_on_disk-requires-clause-may c =
    let ask = c.in-Some.ask in
    let there = waiting_there (tree.get c.args.self.now.node.requests c.args.req) ask (sym c.take_ask.ensures.ask ∙ c.in-Some.is) in
    let may = may_come_to_work c.args.self.now c.requires.step c.args.req (record { session = there.0; course = Waiting ask }) there.1 refl in
    subst (λ (so_far : StepState). MayComeToWork c.args.req so_far.node) (sym c.take_ask.ensures.others)
    (record { idle = may.idle; given = may.given; entered = may.entered })

pub begin_on_disk-requires-clause-ask : goal.begin_on_disk-requires-clause-ask
begin_on_disk-requires-clause-ask c =
    let ask = c.in-Some.ask in
    let there = waiting_there (tree.get c.args.self.now.node.requests c.args.req) ask (sym c.take_ask.ensures.ask ∙ c.in-Some.is) in
    asks_for_blocks c.args.self.now c.requires.step c.args.req there.0 ask there.1

pub returns-in-Some : goal.returns-in-Some
returns-in-Some c =
    let number = c.args.number in
    let req = c.args.req in
    let ask = c.in-Some.ask in
    let there = waiting_there (tree.get c.args.self.now.node.requests req) ask (sym c.take_ask.ensures.ask ∙ c.in-Some.is) in
    subst (λ (after : StepState). OnOk c.begin_on_disk.result (c.begin_on_disk.new.self ≡ after))
    (ap (λ (so_far : StepState). option_map_or (λ (disk : Disk). driver_stepped number req disk (begin_driver disk ask) so_far) (session_in number so_far).disk so_far)
    c.take_ask.ensures.others
    ∙ taken_in_turn number req there.0 ask c.args.self.now there.1 c.requires.turn)
    c.begin_on_disk.ensures

pub returns-in-None : goal.returns-in-None
returns-in-None c =
    absurd (turn_asks c.args.number c.args.req (tree.get c.args.self.now.node.requests c.args.req) c.args.self.now
    (sym c.take_ask.ensures.ask ∙ c.in-None.is) c.requires.turn)
