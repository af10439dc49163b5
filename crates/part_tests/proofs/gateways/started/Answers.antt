use Rattle.std.proofs.Common.{◌≡◌, ℕ, nat_lt, true, false, not, IsTrue, refl, ap, sym, subst, ◌∙◌, arith}
use Rattle.std.specs.List.{list_all}
use Rattle.gateway.specs.State.{Gateway, MaySend, MayStart, has_work, open_numbers}
use Rattle.gateway.specs.Step.{GatewayStep}
use Rattle.part_tests.specs.SoleWork.{IsSole}
use Rattle.part_tests.proofs.SoleWorkLemmas.{sole-at_first, works-at_first, sole-start, numbers-at_first}
use Rattle.part_tests.proofs.gateways.started.Goals as goal

pub start-requires-clause-may_send : goal.start-requires-clause-may_send
start-requires-clause-may_send c = record {
  entered = c.requires.entered;
  room = omega arith;
  numbers = ap (λ (gateway : Gateway). list_all (λ number. nat_lt number 10) (open_numbers gateway)) c.new-gateway.ensures ∙ numbers-at_first (record { 0 = 0 }) c.args.tries 10;
}

pub start-requires-clause-may_start : goal.start-requires-clause-may_start
start-requires-clause-may_start c = record {
  first_one = ap (λ (gateway : Gateway). not (has_work 4 gateway)) c.new-gateway.ensures ∙ works-at_first (record { 0 = 0 }) c.args.tries 4;
  is_work = c.requires.work;
}

pub returns : goal.returns
returns c =
    let first : IsSole c.new-gateway.result = subst IsSole (sym c.new-gateway.ensures) (sole-at_first (record { 0 = 0 }) c.args.tries) in
    subst (λ (step : GatewayStep). IsSole step.gateway) c.in_ok-act.ensures.ok
    (sole-start c.args.place.now c.new-gateway.result c.args.work 10 (record { 0 = 1 }) first)
