-- Something is brought where one carry is, or two are.
use Rattle.std.proofs.Common.{◌≡◌, ◌≢◌, ℕ, List, [], ◌∷◌}

pub some_one : (stamps : List ℕ) (one : ℕ) → stamps ≡ one ∷ [] → stamps ≢ []
some_one stamps one is none = absurd (cc)

pub some_two : (stamps : List ℕ) (one two : ℕ) → stamps ≡ one ∷ two ∷ [] → stamps ≢ []
some_two stamps one two is none = absurd (cc)
