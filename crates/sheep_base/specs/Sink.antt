-- What a call does to the bytes that a sink was given, where it tells them.
use Rattle.std.specs.Prelude.{◌≡◌, ℕ, List, [], ◌++◌, take, Bool, IsTrue, IsFalse, ⊤, MatchResult}
use Rattle.std.specs.Prelude.{Option, None, Some, Result}

-- the sink was given bs, after what it was given before; some kinds of sink may stop telling, and the others may begin to
abbrev pub Gains : Bool → Option (List ℕ) → Option (List ℕ) → List ℕ → Type 0
Gains stops None None bs = ⊤
Gains stops None (Some ys) bs = IsFalse stops
Gains stops (Some xs) None bs = IsTrue stops
Gains stops (Some xs) (Some ys) bs = ys ≡ xs ++ bs

-- a put of the piece gave its first n bytes at `Ok(n)`, and none at `Err`
abbrev pub PutGains : {E : Type 0} → Bool → Option (List ℕ) → Option (List ℕ) → Result ℕ E → List ℕ → Type 0
PutGains stops old new r piece = MatchResult r (λ n. Gains stops old new (take n piece)) (λ _. Gains stops old new [])
