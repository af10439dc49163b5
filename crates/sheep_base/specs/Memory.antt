-- What contracts see of the source and the sink that are held in memory.
use Rattle.std.specs.Prelude.{ℕ, List}
use Rattle.sheep_base.specs.Plan.{Plan}

-- a source: what is left, how much a call gives at most, and its faults
pub record Supply : Type 0 where
  pub left : List ℕ
  pub piece : ℕ
  pub plan : Plan

-- a sink: what it was given, how much it has room for in all, how much a call takes at most, and its faults
pub record Intake : Type 0 where
  pub given : List ℕ
  pub room : ℕ
  pub piece : ℕ
  pub plan : Plan
