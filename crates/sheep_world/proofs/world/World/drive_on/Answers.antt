use Rattle.std.proofs.Common.{◌≡◌, ℕ, suc, ◌+◌, ◌-◌, true, false, None, is_some, sym, ap, ◌∙◌, arith}
use Rattle.sheep_world.specs.World.{World}
use Rattle.sheep_world.specs.ClientAsks.{answer_of}
use Rattle.sheep_world.specs.ClientSteps.{next_driven, world_driven}
use Rattle.sheep_world.proofs.ClientLaws.{driven-zero, driven-turn, driven-answered, driven-still, turned-still}
use Rattle.sheep_world.proofs.DrivenEvents.{driven-none}
use Rattle.sheep_world.proofs.world.World.drive_on.Goals as goal

pub loop-turn-init : goal.loop-turn-init
loop-turn-init c =
    let all : c.args.turns - 0 ≡ c.args.turns = omega arith in
    (c.requires, ap (λ (k : ℕ). world_driven c.args.script.now k c.args.self.now.world) all)

pub loop-turn-preserved : goal.loop-turn-preserved
loop-turn-preserved c =
    let left : ℕ = c.args.turns - (c.loop-turn.turn + 1) in
    let next : suc left ≡ c.args.turns - c.loop-turn.turn = omega (arith, c.loop-turn-test.true) in
    let none : is_some (answer_of c.loop-turn.self.world) ≡ false
    = ap (λ (world : World). is_some (answer_of world)) (sym c.state.ensures) ∙ sym c.has_answer.ensures ∙ c.if-has_answer.false in (
      c.in_ok-turn.ensures.live,
      ap (world_driven c.args.script.now left) c.in_ok-turn.ensures.world
          ∙ sym (driven-turn c.args.script.now left c.loop-turn.self.world none)
          ∙ ap (λ (k : ℕ). world_driven c.args.script.now k c.loop-turn.self.world) next
          ∙ c.loop-turn.invariant.1,
    )

pub returns-then-has_answer-clause-world : goal.returns-then-has_answer-clause-world
returns-then-has_answer-clause-world c =
    let on : is_some (answer_of c.loop-turn.self.world) ≡ true
    = ap (λ (world : World). is_some (answer_of world)) (sym c.state.ensures) ∙ sym c.has_answer.ensures ∙ c.if-has_answer.true in
    sym (driven-answered c.args.script.now (c.args.turns - c.loop-turn.turn) c.loop-turn.self.world on) ∙ c.loop-turn.invariant.1

pub returns-then-not-branch-clause-world : goal.returns-then-not-branch-clause-world
returns-then-not-branch-clause-world c =
    let none : next_driven c.args.script.now c.loop-turn.self.world ≡ None
    = driven-none c.args.script.now c.loop-turn.self.world c.in_ok-turn.field-0 c.in_ok-turn.ensures.made c.if-not-branch.true in
    c.in_ok-turn.ensures.world
    ∙ turned-still c.args.script.now c.loop-turn.self.world none
    ∙ sym (driven-still c.args.script.now (c.args.turns - c.loop-turn.turn) c.loop-turn.self.world none)
    ∙ c.loop-turn.invariant.1

pub returns-clause-world : goal.returns-clause-world
returns-clause-world c =
    let over : c.args.turns - c.loop-turn.turn ≡ 0 = omega (arith, c.loop-turn-test.false) in
    sym (ap (λ (k : ℕ). world_driven c.args.script.now k c.loop-turn.self.world) over
    ∙ driven-zero c.args.script.now c.loop-turn.self.world)
    ∙ c.loop-turn.invariant.1
