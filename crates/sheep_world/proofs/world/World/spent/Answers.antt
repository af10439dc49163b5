use Rattle.std.proofs.Common.{◌≡◌, Bool, true, false, not, refl, sym, ap, ◌∙◌}
use Rattle.sheep_world.specs.SpentWorld.{WorldOrSpent}
use Rattle.sheep_world.proofs.world.World.spent.Goals as goal

not_not : (b : Bool) → b ≡ not (not b)
not_not true = refl
not_not false = refl

pub returns : goal.returns
returns c =
    not_not c.is_none.result
    ∙ ap not (sym c.is_none.ensures)
    ∙ ap (λ (seen : WorldOrSpent). seen.spent) c.self.view_is
