-- What a vector has, and what a sum over lanes leaves.
use Rattle.std.specs.Prelude.{◌≡◌, ◌<◌, ◌≤◌, ℕ, List, length, slice_index}

-- the vector has 32 lanes, and lane k is f k
pub record HasLanes (v : List ℕ) (f : ℕ → ℕ) : Type 0 where
  pub long : length v ≡ 32
  pub each : (k : ℕ) → k < 32 → slice_index v k ≡ f k

-- between the places from and to, new is f; before them it is old
pub record IsSummed (f : ℕ → ℕ) (old new : List ℕ) (from to : ℕ) : Type 0 where
  pub long : length new ≡ length old
  pub inside : (k : ℕ) → from ≤ k → k < to → slice_index new k ≡ f k
  pub before : (k : ℕ) → k < from → slice_index new k ≡ slice_index old k
