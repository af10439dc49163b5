use Rattle.std.proofs.Common.{subst}
use Rattle.gateway.specs.declared.message.Status.TheVariants as statuses
use Rattle.gateway.specs.Step.{GatewayStep}
use Rattle.part_tests.specs.SoleWork.{IsSole}
use Rattle.part_tests.proofs.SoleWorkLemmas.{sole-end}
use Rattle.part_tests.proofs.gateways.lost.Goals as goal

pub returns-in_ok-on_lost : goal.returns-in_ok-on_lost
returns-in_ok-on_lost c = λ sole.
    subst (λ (step : GatewayStep). IsSole step.gateway) c.in_ok-on_lost.ensures.ok
    (sole-end c.args.gateway.now c.args.number statuses.Lost sole)
