use Rattle.std.proofs.Common.{ap, ◌∙◌}
use Rattle.std.specs.FinSet as set
use Rattle.gateway.proofs.KeptMaps.{set-remove-seen}
use Rattle.gateway.proofs.touched.Touched.forget.Goals as goal

pub returns : goal.returns
returns c =
    set-remove-seen c.self.inside.requests.keys c.remove.new.self.keys c.args.req c.remove.ensures.updates.0
    ∙ ap (λ seen. set.remove seen c.args.req) c.self.view_is
