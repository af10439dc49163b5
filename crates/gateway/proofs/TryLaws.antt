-- Which work is tried next.
use Rattle.std.proofs.Common.{◌≡◌, ◌≢◌, ℕ, Bool, true, false, cond, List, [], ◌∷◌, Option, Some, None, refl, sym, ap, ◌∙◌}
use Rattle.std.specs.List.{find}
use Rattle.std.specs.FinMap as tree
use Rattle.proof_tools.proofs.Lists.{find-contains}
use Rattle.object_id.specs.declared.node.Epoch.{Epoch}
use Rattle.gateway.specs.Attempt.{Attempt}
use Rattle.gateway.specs.State.{Open, Work, Gateway, may_try, next_try}

-- a work with an open attempt isn't tried
pub open-waits : (epoch : Epoch) (gateway : Gateway) (req : ℕ) (work : Work) (attempt : Attempt)
    → next_try epoch gateway ≡ Some (req, work) → work.stage ≢ Open attempt
open-waits epoch gateway req work attempt found is =
    let passes : may_try epoch work.stage ≡ true
    = (find-contains (λ (entry : ℕ × Work). may_try epoch entry.1.stage) (tree.entries gateway.works) (req, work) found).1 in
    let clash : false ≡ true = sym (ap (may_try epoch) is) ∙ passes in
    absurd (cc (clash))
