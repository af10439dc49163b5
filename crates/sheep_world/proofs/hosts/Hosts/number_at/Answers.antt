use Rattle.std.proofs.Common.{◌≡◌, ℕ, zero, suc, ◌-◌, List, ◌∷◌, refl, ap, sym, ◌∙◌, arith}
use Rattle.std.specs.Prelude.{slice_get}
use Rattle.sheep_world.proofs.hosts.Hosts.number_at.Goals as goal

-- behind the first number there is one place less
place-less : (x : ℕ) (xs : List ℕ) (left : ℕ) → (left ≡ 0 → ⊥) → slice_get xs (left - 1) ≡ slice_get (x ∷ xs) left
place-less x xs zero other = absurd (other refl)
place-less x xs (suc left) other = let same : suc left - 1 ≡ left = omega arith in ap (slice_get xs) same

pub loop-number-init : goal.loop-number-init
loop-number-init c =
    ap (λ (numbers : List ℕ). slice_get numbers c.args.place)
    (c.into_iter-number-iterator.ensures.into_iter_gives ∙ c.numbers-number-items.ensures)

pub loop-number-preserved : goal.loop-number-preserved
loop-number-preserved c =
    place-less c.in-Some.number.now c.next.new.self c.loop-number.left c.if-left-eq0.false
    ∙ ap (λ (numbers : List ℕ). slice_get numbers c.loop-number.left) (sym c.in-Some.ensures.steps)
    ∙ c.loop-number.invariant
