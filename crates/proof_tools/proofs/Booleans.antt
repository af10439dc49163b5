-- What `||`, `not` and `cond` give, and an option of which a test says that it has a value.
use Rattle.std.proofs.Common.{◌≡◌, Bool, true, false, cond, not, ◌&&◌, ◌||◌, Option, None, Some, is_some, refl, T}

pub or_left_comm : (a b c : Bool) → (a || (b || c)) ≡ (b || (a || c))
or_left_comm true true c = refl
or_left_comm true false c = refl
or_left_comm false b c = refl

pub not-or : (a b : Bool) → not (a || b) ≡ (not a && not b)
not-or true b = refl
not-or false b = refl

pub cond_same : {X : Type 0} (b : Bool) (x : X) → cond b x x ≡ x
cond_same true x = refl
cond_same false x = refl

-- both hold exactly if each does
pub T_and : (a b : Bool) → T a → T b → T (a && b)
T_and true b first second = second
T_and false b first second = absurd first

pub T_and_left : (a b : Bool) → T (a && b) → T a
T_and_left true b both = tt
T_and_left false b both = absurd both

pub T_and_right : (a b : Bool) → T (a && b) → T b
T_and_right true b both = both
T_and_right false b both = absurd both

-- what holds of both holds of the one that a test chooses
pub cond_either : {X : Type 0} (P : X → Type 0) (b : Bool) (x y : X) → P x → P y → P (cond b x y)
cond_either P true x y first second = first
cond_either P false x y first second = second

pub has_value : {X : Type 0} (o : Option X) → is_some o ≡ true → (x : X) × (o ≡ Some x)
has_value None is = absurd (cc (is))
has_value (Some x) is = (x, refl)
