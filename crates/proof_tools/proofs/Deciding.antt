-- Tests that decide facts, put together of tests that do.
use Rattle.std.proofs.Common.{◌≡◌, ℕ, ◌≤◌, nat_le, not, ◌&&◌, Bool, true, false, List, [], ◌∷◌, refl, All}
use Rattle.std.specs.Bool.{Decides}
use Rattle.std.specs.List.{list_all}
use Rattle.std.proofs.lemmas.Bool.{and_parts, and_from, leb-true, le-leb}
use Rattle.std.proofs.lemmas.List.Elements.{All-nil, All-cons, All-head, All-tail}

pub itself : (b : Bool) → Decides b (b ≡ true)
itself b = (λ is. is, λ is. is)

pub always : Decides true (Unit {0})
always = (λ is. tt, λ holds. refl)

pub never : Decides false ⊥
never = (λ is. absurd (cc (is)), λ holds. absurd holds)

module _ {P Q : Type 0} where
  pub both : {one other : Bool} → Decides one P → Decides other Q → Decides (one && other) (P × Q)
  both {one} {other} first second = (
    λ is. let (left, right) = and_parts one other is in (first.0 left, second.0 right),
    λ holds. and_from one other (first.1 holds.0) (second.1 holds.1),
  )

  -- the same said in other words
  pub said_as : {b : Bool} → (P → Q) → (Q → P) → Decides b P → Decides b Q
  said_as to from decided = (λ is. to (decided.0 is), λ holds. decided.1 (from holds))

pub all_three : {P Q R : Type 0} {one other last : Bool} → Decides one P → Decides other Q → Decides last R → Decides (one && (other && last)) (P × Q × R)
all_three first second third =
    said_as (λ holds. (holds.0, holds.1.0, holds.1.1)) (λ holds. (holds.0, (holds.1, holds.2))) (both first (both second third))

pub at_most : (a b : ℕ) → Decides (nat_le a b) (a ≤ b)
at_most a b = (leb-true a b, le-leb a b)

-- a test is false exactly if its negation is true
pub is_not : (b : Bool) → Decides (not b) (b ≡ false)
is_not true = (λ is. absurd (cc (is)), λ is. absurd (cc (is)))
is_not false = (λ is. refl, λ is. refl)

pub each : {X : Type 0} (P : X → Type 0) (test : X → Bool) → ((x : X) → Decides (test x) (P x)) → (xs : List X) → Decides (list_all test xs) (All P xs)
each P test decided [] = (λ is. All-nil P, λ all. refl)
each P test decided (x ∷ xs) =
    let rest = each P test decided xs in
    said_as (λ holds. All-cons P x xs holds.0 holds.1) (λ all. (All-head P x xs all, All-tail P x xs all)) (both (decided x) rest)
