use Rattle.std.proofs.Common.{refl, ◌∙◌}
use Rattle.sheep_world.proofs.node_steps.wire_with_request.Goals as goal

pub returns : goal.returns
returns c = c.in_ok-put.ensures.ok ∙ rw (c.request_name.ensures, c.in_ok-bytes.ensures) refl
