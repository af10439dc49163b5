-- Parent chains with one effect more, and whether they have an id.
use Rattle.std.proofs.Common.{◌≡◌, ℕ, ◌==◌, ◌||◌, Bool, true, false, cond, List, [], ◌∷◌, ◌++◌, map, Option, Some, None, refl, ap, ◌∙◌, ◌≢◌}
use Rattle.std.specs.List.{list_any}
use Rattle.std.proofs.lemmas.List.Sums.{fold-append}
use Rattle.object_id.specs.declared.oid.Vid.{Vid}
use Rattle.vdi_directory.specs.declared.effect.Effect.{Effect}
use Rattle.vdi_directory.specs.declared.effect.Effect.TheVariants as effects
use Rattle.vdi_directory.specs.Chains.{chain_from, chain_after, chain_of, is_above}

-- whether an id is the parent, or stands in the parent's own chain
abbrev pub is_parent_or_above : (ℕ → ℕ → Bool) → ℕ → Option Vid → Bool
is_parent_or_above above elder None = false
is_parent_or_above above elder (Some parent) = parent.0 == elder || above elder parent.0

-- whether an id is above another once an effect was made
abbrev pub above_after : (ℕ → ℕ → Bool) → Effect → ℕ → ℕ → Bool
above_after above (effects.Reserved grant) elder vid =
    cond (grant.reservation.vid.0 == vid) (is_parent_or_above above elder grant.header.parent) (above elder vid)
above_after above effect elder vid = above elder vid

pub chain_of-push : (before : List Effect) (effect : Effect) (vid : ℕ) → chain_of (before ++ effect ∷ []) vid ≡ chain_after (chain_of before) effect vid
unfolding chain_of
chain_of-push before effect vid = ap (λ (chains : ℕ → List ℕ). chains vid) (fold-append chain_after (λ v. []) before (effect ∷ []))

-- a chain is asked for an id
abbrev has : ℕ → List ℕ → Bool
has elder chain = list_any (λ id. id == elder) chain

pub from-above : (before : List Effect) (elder : ℕ) (parent : Option Vid) → has elder (chain_from (chain_of before) parent) ≡ is_parent_or_above (is_above before) elder parent
unfolding is_above
from-above before elder None = refl
from-above before elder (Some parent) = refl

module _ (before : List Effect) (elder vid : ℕ) where
  after-above : (effect : Effect) → has elder (chain_after (chain_of before) effect vid) ≡ above_after (is_above before) effect elder vid
  unfolding is_above
  after-above (effects.Reserved grant) = by_test (grant.reservation.vid.0 == vid)
    where
      by_test : (b : Bool) → has elder (cond b (chain_from (chain_of before) grant.header.parent) (chain_of before vid))
          ≡ cond b (is_parent_or_above (is_above before) elder grant.header.parent) (is_above before elder vid)
      by_test true = from-above before elder grant.header.parent
      by_test false = refl
  after-above effect = refl

  pub is_above-push : (effect : Effect) → is_above (before ++ effect ∷ []) elder vid ≡ above_after (is_above before) effect elder vid
  unfolding is_above
  is_above-push effect = ap (has elder) (chain_of-push before effect vid) ∙ after-above effect

-- a chain that has an id isn't empty
pub chain_has_one : (ids : List ℕ) (id : ℕ) (later chain : List ℕ) → ids ++ id ∷ later ≡ chain → chain ≢ []
chain_has_one [] id later chain joined none = absurd (cc (joined ∙ none))
chain_has_one (first ∷ ids) id later chain joined none = absurd (cc (joined ∙ none))

-- an id as a number
abbrev pub number_of : Vid → ℕ
number_of id = id.0

pub map-push : (ids : List Vid) (id : Vid) (later : List ℕ) → map number_of (ids ++ id ∷ []) ++ later ≡ map number_of ids ++ id.0 ∷ later
map-push [] id later = refl
map-push (first ∷ ids) id later = ap (λ (rest : List ℕ). first.0 ∷ rest) (map-push ids id later)
