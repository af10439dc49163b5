-- A gateway of one request.
use Rattle.std.specs.Prelude.{◌≡◌, ℕ, Some}
use Rattle.std.specs.FinMap as tree
use Rattle.gateway.specs.State.{Work, Gateway}

-- no request but 4 has an open work
abbrev pub IsSole : Gateway → Type 0
IsSole gateway = (req : ℕ) (work : Work) → tree.get gateway.works req ≡ Some work → req ≡ 4
