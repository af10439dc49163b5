-- Parent chains: the ids above one, and at which place of the log each was granted.
use Rattle.std.specs.Prelude.{ℕ, ◌+◌, ◌==◌, Bool, List, [], ◌∷◌, fold, Option, Some, None, if◌then◌else◌}
use Rattle.std.specs.List.{list_any}
use Rattle.object_id.specs.declared.oid.Vid.{Vid}
use Rattle.vdi_directory.specs.declared.effect.Effect.{Effect}
use Rattle.vdi_directory.specs.declared.effect.Effect.TheVariants.{Reserved}
use Rattle.vdi_directory.specs.Effects.{grants}

-- a parent, and behind it the parent's own parents
abbrev pub chain_from : (ℕ → List ℕ) → Option Vid → List ℕ
chain_from chains None = []
chain_from chains (Some parent) = parent.0 ∷ chains parent.0

-- the chains once an effect was made: that of an id comes with its grant
abbrev pub chain_after : (ℕ → List ℕ) → Effect → ℕ → List ℕ
chain_after chains (Reserved grant) vid =
    if grant.reservation.vid.0 == vid then chain_from chains grant.header.parent else chains vid
chain_after chains _ vid = chains vid

-- the parent chain of an id, the nearest parent first; the parent of a reserved id is its base
unfoldable pub chain_of : List Effect → ℕ → List ℕ
chain_of before = fold chain_after (λ vid. []) before

-- whether the parent chain of an id has another one
unfoldable pub is_above : List Effect → ℕ → ℕ → Bool
is_above before elder vid = list_any (λ id. id == elder) (chain_of before vid)

-- the place of the log, from 0, at which an id was granted; the log's length where it was not
unfoldable pub grant_place : List Effect → ℕ → ℕ
grant_place [] vid = 0
grant_place (effect ∷ later) vid = if grants vid effect then 0 else 1 + grant_place later vid
