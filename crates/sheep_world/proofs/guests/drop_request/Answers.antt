use Rattle.std.proofs.Common.{◌==◌, not, rules}
use Rattle.std.proofs.lemmas.Fn.{filter_same}
use Rattle.sheep_world.specs.declared.progress.StartedRequest.{StartedRequest}
use Rattle.sheep_world.proofs.guests.drop_request.Goals as goal

pub returns : goal.returns
returns c =
    filter_same _ (λ (started : StartedRequest). not (started.req == c.args.req)) _ (λ x b f' k. search rules) _ _ c.retain.ensures.filtered
