use Rattle.std.proofs.Common.{◌≡◌, ℕ, Option, Some, None, refl, ap, sym, ◌∙◌}
use Rattle.std.specs.Option.{option_map}
use Rattle.gateway.specs.State.{Work, Gateway, next_try}
use Rattle.gateway.specs.Kept.{next_req}
use Rattle.gateway.proofs.StepLemmas.{retry-none}
use Rattle.gateway.proofs.gateway.Gateway.retry.Goals as goal

pub returns-in-None-clause-ok : goal.returns-in-None-clause-ok
returns-in-None-clause-ok c =
    retry-none c.args.place.now c.args.self.now c.args.first c.args.epoch
    (ap (λ (g : Gateway). next_req c.args.epoch g.works) (sym c.self.view_is) ∙ sym c.next_try.ensures ∙ c.in-None.is)
