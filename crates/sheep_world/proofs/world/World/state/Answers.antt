use Rattle.std.proofs.Common.{◌≡◌, Bool, true, false, not, [], Option, refl, sym, ap, ◌∙◌}
use Rattle.std.specs.Prelude.{unwrap_or, is_some}
use Rattle.std.specs.Option.{option_copied}
use Rattle.sheep_world.specs.World.{World}
use Rattle.sheep_world.specs.Opening.{initial_world}
use Rattle.sheep_world.specs.SpentWorld.{WorldOrSpent}
use Rattle.sheep_world.proofs.world.World.state.Goals as goal

not_not : (b : Bool) → not b ≡ false → b ≡ true
not_not true is = refl
not_not false is = absurd (cc (is))

pub unwrap-requires : goal.unwrap-requires
unwrap-requires c =
    c.as_ref.ensures.variant
    ∙ not_not (is_some c.self.inside.state) (ap (λ (seen : WorldOrSpent). seen.spent) c.self.view_is ∙ c.requires)

pub returns : goal.returns
returns c =
    ap (λ (state : Option World). unwrap_or state (initial_world [])) (sym (ap option_copied c.unwrap.ensures) ∙ c.as_ref.ensures.value)
    ∙ ap (λ (seen : WorldOrSpent). seen.world) c.self.view_is
