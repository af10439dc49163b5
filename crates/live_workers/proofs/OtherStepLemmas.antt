-- Steps at which no node stepped, and what is brought to them.
use Rattle.std.proofs.Common.{◌≡◌, ◌≢◌, ℕ, Bool, true, false, List, [], ◌∷◌, ◌++◌, All}
use Rattle.std.proofs.lemmas.List.Elements.{All-push}
use Rattle.sheep_node.specs.declared.event.Event.{Event}
use Rattle.live_cells.specs.declared.step.Step.{Step}
use Rattle.live_workers.specs.OtherSteps.{is_loss, IsOther}

pub other_more : (steps : List Step) (step : Step) → All IsOther steps → IsOther step → All IsOther (steps ++ step ∷ [])
other_more steps step others one = All-push IsOther steps step others one

-- to an event that is no loss nothing need be brought
pub no_loss : (event : Event) (stamps : List ℕ) → is_loss event ≡ false → is_loss event ≡ true → stamps ≢ []
no_loss event stamps never loss none = absurd (cc)
