use Rattle.std.proofs.Common.{◌≡◌, ℕ, Some, None, ap, sym, ◌∙◌}
use Rattle.std.specs.Ordering.{nat_cmp}
use Rattle.std.specs.FinMap as tree
use Rattle.gateway.specs.State.{Work}
use Rattle.gateway.proofs.gateway.Gateway.new.Goals as goal

pub invariant_of-result : goal.invariant_of-result
invariant_of-result c = λ number req work at awaited.
    let wrong : Some work ≡ None = sym at ∙ ap (λ (m : tree.FinMap nat_cmp Work). tree.get m req) c.new.ensures ∙ tree.get-empty nat_cmp req in
    absurd (cc (wrong))
