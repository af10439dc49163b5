use Rattle.std.proofs.Common.{◌≡◌, ℕ, Bool, map, refl, subst}
use Rattle.live_merge.specs.Steps.{kept_step}
use Rattle.live_merge.specs.Merging.{taken_in, HasClashed, IsStepMade}
use Rattle.live_merge.proofs.RoundLemmas.{round_clash, round_ends, round_merged, round_end}
use Rattle.live_merge.proofs.merge.merge_round.Goals as goal

pub returns-then-not-same-clause-clash : goal.returns-then-not-same-clause-clash
returns-then-not-same-clause-clash c = λ place is.
    let here : c.loop-place.place ≡ place = cc in
    subst (λ (at : ℕ). HasClashed c.args.script.now (map kept_step c.args.steps.now) at c.args.world.now.world c.args.run.now c.merge_step.new.run) here
    (round_clash c.args.script.now c.args.steps.now c.loop-place.place c.index-steps-place.result c.args.world.now.world c.loop-place.world.world
    c.take_phases.new.world.world c.merge_step.new.world.world (taken_in c.args.run.now.events) c.loop-place.taken c.args.run.now c.loop-place.run
    c.take_phases.new.run c.merge_step.new.run c.loop-place-test.true c.index-steps-place.is refl c.loop-place.invariant.2
    c.in_ok-take_phases.ensures.merged c.in_ok-take_phases.ensures.due
    (subst (λ (same : Bool). IsStepMade c.args.script.now (kept_step c.index-steps-place.result) c.take_phases.new.world.world c.take_phases.new.run
    c.merge_step.new.world.world c.merge_step.new.run same) c.if-not-same.true c.in_ok-same.ensures.made))

pub returns-then-not-same-clause-clash_end : goal.returns-then-not-same-clause-clash_end
returns-then-not-same-clause-clash_end c = λ place is.
    round_ends c.args.script.now c.args.steps.now c.loop-place.place c.index-steps-place.result c.args.world.now.world c.loop-place.world.world
    c.take_phases.new.world.world c.merge_step.new.world.world (taken_in c.args.run.now.events) c.loop-place.taken c.args.run.now c.loop-place.run
    c.take_phases.new.run c.merge_step.new.run c.in_ok-same.same c.loop-place.invariant.2 c.in_ok-take_phases.ensures.merged
    c.in_ok-same.ensures.made c.requires.end

pub returns-clause-merged : goal.returns-clause-merged
returns-clause-merged c =
    round_merged c.args.script.now c.args.steps.now c.loop-place.place c.args.world.now.world c.loop-place.world.world
    c.take_phases-2.new.world.world (taken_in c.args.run.now.events) c.loop-place.taken c.args.run.now c.loop-place.run c.take_phases-2.new.run
    c.loop-place-test.false refl c.loop-place.invariant.2 c.in_ok-take_phases-2.ensures.merged c.in_ok-take_phases-2.ensures.due

pub returns-clause-end : goal.returns-clause-end
returns-clause-end c =
    round_end c.args.script.now c.args.steps.now c.loop-place.place c.args.world.now.world c.loop-place.world.world
    c.take_phases-2.new.world.world (taken_in c.args.run.now.events) c.loop-place.taken c.args.run.now c.loop-place.run c.take_phases-2.new.run
    c.loop-place.invariant.2 c.in_ok-take_phases-2.ensures.merged c.requires.end
