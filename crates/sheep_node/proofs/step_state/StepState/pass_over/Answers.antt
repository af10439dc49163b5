use Rattle.std.proofs.Common.{sym, subst}
use Rattle.std.proofs.lemmas.List.{take_more}
use Rattle.sheep_node.specs.InStep.{IsInStep}
use Rattle.sheep_node.proofs.InSteps.{begun_in_step, passed_more, passed_none}
use Rattle.sheep_node.proofs.step_state.StepState.pass_over.Goals as goal

pub loop-req-init : goal.loop-req-init
loop-req-init c = (c.requires, passed_none c.args.reqs.now c.args.self.now)

pub loop-req-preserved : goal.loop-req-preserved
loop-req-preserved c =
    let k = c.loop-req.req-index in (
      subst IsInStep (sym c.in_ok-begin_if_may.ensures) (begun_in_step c.loop-req.self c.loop-req.invariant.0 _),
      passed_more c.args.reqs.now k _ c.args.self.now c.loop-req.self _ (take_more c.args.reqs.now k _ c.loop-req-test.true) c.loop-req.invariant.1
          c.in_ok-begin_if_may.ensures,
    )
