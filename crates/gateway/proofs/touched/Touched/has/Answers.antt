use Rattle.std.proofs.Common.{ap, ◌∙◌}
use Rattle.std.specs.FinSet as set
use Rattle.gateway.proofs.KeptMaps.{has-seen}
use Rattle.gateway.proofs.touched.Touched.has.Goals as goal

pub returns : goal.returns
returns c =
    c.contains.ensures ∙ has-seen c.self.inside.requests.keys c.args.req ∙ ap (λ seen. set.contains seen c.args.req) c.self.view_is
